use Rattle.std.proofs.Common.{refl}
use Rattle.served_instance.proofs.lent.Lent.break_off.Goals as goal

pub returns-clause-gone : goal.returns-clause-gone
returns-clause-gone c = record {
  parent = refl;
  releases = c.remove.ensures.releases;
  holders = c.forget.ensures.holders;
  kept = c.forget.ensures.kept;
}
