use Rattle.serve.proofs.Closings.{told_in_vain}
use Rattle.serve.proofs.Keeps.{shut_told}
use Rattle.serve.proofs.Open.{closed_open}
use Rattle.serve.proofs.Ticks.{still_unknown}
use Rattle.serve.proofs.exchange.close.Goals as goal

pub returns : goal.returns
returns g c = record {
  serving = λ may configs lt at. shut_told configs _ _ _ _ _ _ _ c.args.socket lt may c.close.ensures.adds c.tell.ensures.takes at;
  no_fault = c.tell.ensures.no_fault;
  closes = closed_open _ _ c.args.socket c.close.ensures.adds;
  shut = c.close.ensures.adds;
  unknown = still_unknown _ _ _ _ _ _ c.tell.ensures.takes (λ is. is);
  in_vain = λ l stands none. told_in_vain _ c.args.moment c.args.socket.connection _ _ l none
      (c.tell.ensures.outcome l stands) c.tell.ensures.refused;
}
