-- What all that is done for a run comes to.
use Rattle.std.proofs.Common.{ℕ, List, [], Option, None, Some}
use Rattle.std.specs.Prelude.{IfSome, codes}
use Rattle.run_calls.specs.declared.task.RunKey.{RunKey}
use Rattle.work_folders.specs.Rights.{Below, MayLink, MayRemove, MayRun, MayTell, aside_place, root_place}

module _ (look change settled : Option (List (List ℕ)) → Type 0) where
  pub looks_of : (start : Option (Option (List (List ℕ)))) (run : RunKey)
      → IfSome start (λ at. MayRun look change settled at run)
      → IfSome start (λ at. Below look (root_place at run))
  looks_of None run h = tt
  looks_of (Some at) run h = h.looks

  pub changes_of : (start : Option (Option (List (List ℕ)))) (run : RunKey)
      → IfSome start (λ at. MayRun look change settled at run)
      → IfSome start (λ at. Below change (root_place at run))
  changes_of None run h = tt
  changes_of (Some at) run h = h.changes

  pub root_of : (start : Option (Option (List (List ℕ)))) (run : RunKey)
      → IfSome start (λ at. MayRun look change settled at run)
      → IfSome start (λ at. change (root_place at run))
  root_of None run h = tt
  root_of (Some at) run h = h.changes []

  pub aside_of : (start : Option (Option (List (List ℕ)))) (run : RunKey)
      → IfSome start (λ at. MayRun look change settled at run)
      → IfSome start (λ at. change (aside_place at run))
  aside_of None run h = tt
  aside_of (Some at) run h = h.aside.at.may_change

  pub links_of : (start : Option (Option (List (List ℕ)))) (run : RunKey)
      → IfSome start (λ at. MayRun look change settled at run)
      → IfSome start (λ at. MayLink look change settled at run)
  links_of None run h = tt
  links_of (Some at) run h = record {
    aside = h.aside.at.may_look;
    linked = h.aside.entries (codes "linked");
  }

  pub removes_of : (start : Option (Option (List (List ℕ)))) (run : RunKey)
      → IfSome start (λ at. MayRun look change settled at run)
      → IfSome start (λ at. MayRemove look change settled at run)
  removes_of None run h = tt
  removes_of (Some at) run h = record {
    root = record { may_look = h.looks []; may_change = h.changes []; is_settled = h.is_settled };
    aside = h.aside;
  }

  pub tells_of : (start : Option (Option (List (List ℕ)))) (run : RunKey)
      → IfSome start (λ at. MayRun look change settled at run)
      → IfSome start (λ at. MayTell look change at run)
  tells_of None run h = tt
  tells_of (Some at) run h = record {
    aside = h.aside.at.may_look;
    file = (h.aside.entries (codes "trees")).may_change;
  }
