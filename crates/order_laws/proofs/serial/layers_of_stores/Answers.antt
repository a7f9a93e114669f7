use Rattle.order_laws.proofs.Order.{runs_are_serial}
use Rattle.order_laws.proofs.SerialLaws.{rows_are_of_runs, serial_is_true}
use Rattle.order_laws.proofs.serial.layers_of_stores.Goals as goal

pub returns : goal.returns
returns c = record { rows_are_of_runs = rows_are_of_runs; runs_are_serial = runs_are_serial; serial_is_true = serial_is_true }
