-- Where no place is known, and all may be done.
use Rattle.std.proofs.Common.{ℕ, List, Option, None, Some}
use Rattle.std.specs.Prelude.{IfSome, ⊤}
use Rattle.run_calls.specs.declared.task.RunKey.{RunKey}
use Rattle.run_folders.proofs.Nowhere.{may_take, may_take_below}
use Rattle.system.specs.Places.{entry}
use Rattle.work_folders.specs.Rights.{MayRun, MayStart, MayWork, aside_place, start_name}
use Rattle.std.specs.Prelude.{codes}

pub may_run : (start : Option (List (List ℕ))) (run : RunKey)
    → MayRun (λ _. ⊤) (λ _. ⊤) (λ _. ⊤) start run
may_run start run = record {
  looks = λ _. tt;
  changes = λ _. tt;
  is_settled = tt;
  aside = may_take_below (aside_place start run);
}

pub may_start : (start : Option (List (List ℕ))) → MayStart (λ _. ⊤) (λ _. ⊤) (λ _. ⊤) start
may_start start = record { itself = may_take start; trial = tt; runs = may_run start }

pub may_work : (directory : Option (List (List ℕ)))
    → MayWork (λ _. ⊤) (λ _. ⊤) (λ _. ⊤) directory
may_work directory = record {
  listed = tt;
  sees_mark = tt;
  makes_mark = tt;
  former = may_take_below (entry (codes "former") directory);
  starts = λ number. may_start (entry (start_name number) directory);
}

-- each run may have its folder, wherever that of the start stands
pub may_runs : (start : Option (Option (List (List ℕ)))) (run : RunKey)
    → IfSome start (λ at. MayRun (λ _. ⊤) (λ _. ⊤) (λ _. ⊤) at run)
may_runs None run = tt
may_runs (Some at) run = may_run at run
