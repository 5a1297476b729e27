-- No key stands twice after a call, where none did before.
use Rattle.std.proofs.Common.{inl, inr, ◌≡◌, ℕ, List, [], ◌∷◌, ◌++◌, refl, sym, ap, subst}
use Rattle.std.specs.Prelude.{⊤, false, Option, Some, None, Result}
use Rattle.std.specs.declared.alloc.Global.{Global}
use Rattle.std.specs.declared.vec.Vec.{Vec}
use Rattle.run_calls.specs.declared.outcome.Outcome.{Outcome}
use Rattle.execution.specs.Job.{TaskValue}
use Rattle.runner.specs.declared.fault.RunFault.{RunFault}
use Rattle.run_calls.specs.declared.task.RunKey.{RunKey}
use Rattle.runner.specs.declared.stage.Run.{Run}
use Rattle.run_calls.specs.Calls.{FolderCall, ProgramCall}
use Rattle.runner.specs.Runs.{HasNone, IsAsked, IsKilled}
use Rattle.job_runs.specs.Keys.{AreOnce, all_keys, has_key, without_key}
use Rattle.job_runs.specs.Runs.{IsBegunIf}
use Rattle.job_runs.proofs.Keys.{asked-once, first-once, killed-once, noted-once, same-once, taken-once}

abbrev StayOnce : List Run → List Run → Vec RunKey Global → Vec RunKey Global → Type 0
StayOnce old new before now = AreOnce (all_keys old before.items) → AreOnce (all_keys new now.items)

pub after_noted : (key : RunKey) (runs : List Run) (before now : Vec RunKey Global) → now.items ≡ before.items ++ key ∷ [] →
    has_key key (all_keys runs before.items) ≡ false → StayOnce runs runs before now
after_noted key runs before now is none h = subst (λ (ks : List RunKey). AreOnce (all_keys runs ks)) (sym is)
    (noted-once key runs before.items none h)

begun_if : (task : Option TaskValue) (key : RunKey) (told : Result (Option Outcome) RunFault) (old new : List Run)
    (to_begin : List RunKey) → HasNone key old → IsBegunIf task key told old new → AreOnce (all_keys old to_begin) →
    AreOnce (all_keys new (without_key key to_begin))
begun_if None key told old new to_begin was b h = taken-once key new to_begin _ refl (same-once old new to_begin b.1 h)
begun_if (Some task) key told old new to_begin was (inl b) h =
    first-once key old new b.1.begun to_begin b.1.added (ap (λ p. p.run) b.1.started.0) was h
begun_if (Some task) key told old new to_begin was (inr b) h = taken-once key new to_begin _ refl (same-once old new to_begin b.1 h)

pub after_begun : (task : Option TaskValue) (key : RunKey) (told : Result (Option Outcome) RunFault) (old new : List Run)
    (before mid now : Vec RunKey Global) → HasNone key old → mid.items ≡ without_key key before.items → now ≡ mid →
    IsBegunIf task key told old new → StayOnce old new before now
after_begun task key told old new before mid now was is same b h =
    subst (λ (v : Vec RunKey Global). AreOnce (all_keys new v.items)) (sym same)
    (subst (λ (ks : List RunKey). AreOnce (all_keys new ks)) (sym is) (begun_if task key told old new before.items was b h))

pub after_killed : (key : RunKey) (told : Result ⊤ RunFault) (old new : List Run) (f g : Option (List FolderCall))
    (p q : Option (List ProgramCall)) (before now : Vec RunKey Global) → now.items ≡ without_key key before.items →
    IsKilled key told old new f g p q → StayOnce old new before now
after_killed key told old new f g p q before now is killed h =
    taken-once key new before.items now.items is (killed-once key told old new f g p q before.items killed h)

pub after_asked : (text : ℕ → List ℕ) (key : RunKey) (told : Result (Option Outcome) RunFault) (old new : List Run)
    (f g : Option (List FolderCall)) (p q : Option (List ProgramCall)) (before mid now : Vec RunKey Global) →
    mid.items ≡ without_key key before.items → now ≡ mid → IsAsked text key told old new f g p q → StayOnce old new before now
after_asked text key told old new f g p q before mid now is same a h =
    subst (λ (v : Vec RunKey Global). AreOnce (all_keys new v.items)) (sym same)
    (taken-once key new before.items mid.items is (asked-once text key told old new f g p q before.items a h))
