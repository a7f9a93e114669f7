-- The error line of a fault.
use Rattle.std.specs.Prelude.{ℕ, List, ◌++◌, codes}
use Rattle.resp.specs.Text.{crlf}
use Rattle.resp_decoder.specs.declared.fault.Fault.{Fault}
use Rattle.resp_decoder.specs.declared.fault.Fault.TheVariants.{ExpectedStar, ExpectedDollar, BadLength, ExpectedCrlf, Memory}

abbrev pub fault_text : Fault → List ℕ
fault_text ExpectedStar = codes "-ERR Protocol error: expected '*'" ++ crlf
fault_text ExpectedDollar = codes "-ERR Protocol error: expected '$'" ++ crlf
fault_text BadLength = codes "-ERR Protocol error: invalid length" ++ crlf
fault_text ExpectedCrlf = codes "-ERR Protocol error: expected CRLF" ++ crlf
fault_text Memory = codes "-ERR out of memory" ++ crlf
