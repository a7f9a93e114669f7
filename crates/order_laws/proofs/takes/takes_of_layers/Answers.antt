use Rattle.order_laws.proofs.Asking.{asked_stays}
use Rattle.order_laws.proofs.TakeLaws.{each_take_hands_out, takes_stay, takes_agree, out_is_of_last_take}
use Rattle.order_laws.proofs.takes.takes_of_layers.Goals as goal

pub returns : goal.returns
returns c = record {
  each_hands_out = each_take_hands_out;
  takes_stay = takes_stay;
  takes_agree = takes_agree;
  out_is_of_last = out_is_of_last_take;
  asked_stays = asked_stays;
}
