use Rattle.std.proofs.Common.{ℕ, List, Option, subst, sym}
use Rattle.std.specs.Prelude.{IfSome}
use Rattle.work_folders.specs.Rights.{MayRun}
use Rattle.work_folders.proofs.folder.WorkFolder.new.Goals as goal

pub invariant_of-result : goal.invariant_of-result
invariant_of-result g c = λ run.
    subst
    (λ (start : Option (Option (List (List ℕ)))).
    IfSome start (λ at. MayRun g.D.Directory.may_look g.D.Directory.may_change g.D.Directory.is_settled at run))
    (sym c.new.ensures.same) (c.requires.may run)
