use denote.RattleType.{RattleType}
use denote.Param.Send.{IsSend}
use Rattle.history.specs.contracts.tokens.Reached.{the_row}
use Rattle.history.proofs.Steps.{reached_keyless}

pub send : (E : RattleType) → IsSend (the_row E)
send E = record {
  owned = λ d vs. ((λ vss. (tt, ((λ uss. (tt, tt)), tt))), reached_keyless E.coded.code d.name d.list);
  leaving = λ k f vs. tt;
}
