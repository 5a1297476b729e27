-- Runs that are killed one after another, the last first.
use Rattle.std.proofs.Common.{◌≡◌, ◌<◌, ℕ, zero, suc, ◌-◌, List, refl, subst, arith}
use Rattle.std.specs.Prelude.{Option, Some, None, option_map, slice_get}
use Rattle.run_calls.specs.declared.task.RunKey.{RunKey}
use Rattle.runner.specs.declared.stage.Run.{Run}
use Rattle.server_events.specs.Configs.{ConfigValue}
use Rattle.job_runs.specs.Runs.{Standing, IsKilledAt, IsKilledIf, AreKilled}

abbrev key_of : Run → RunKey
key_of run = run.place.run

killed_some : (configs : List ConfigValue) (moment : ℕ) (o : Option Run) (key : RunKey) (old new : Standing) →
    Some key ≡ option_map key_of o → IsKilledAt configs moment key old new → IsKilledIf configs moment o old new
killed_some configs moment None key old new is h = absurd (let no : Some key ≡ None = is in cc)
killed_some configs moment (Some r) key old new is h = let same : key ≡ r.place.run = cc in
    subst (λ k. IsKilledAt configs moment k old new) same h

killed_none : (configs : List ConfigValue) (moment : ℕ) (o : Option Run) (old : Standing) → None ≡ option_map key_of o →
    IsKilledIf configs moment o old old
killed_none configs moment None old is = refl
killed_none configs moment (Some r) old is = absurd (let no : None ≡ Some (key_of r) = is in cc)

killed_more : (configs : List ConfigValue) (moment left : ℕ) (old mid new : Standing) → 0 < left →
    IsKilledIf configs moment (slice_get old.runs (left - 1)) old mid → AreKilled configs moment (left - 1) mid new →
    AreKilled configs moment left old new
killed_more configs moment zero old mid new some first rest = absurd (omega (arith, some))
killed_more configs moment (suc left) old mid new some first rest =
    let e : suc left - 1 ≡ left = omega arith in (
      mid,
      subst (λ n. IsKilledIf configs moment (slice_get old.runs n) old mid) e first,
      subst
          (λ n. AreKilled configs moment n mid new) e rest,
    )

pub killed_next : (configs : List ConfigValue) (moment left : ℕ) (key : RunKey) (old mid new : Standing) → 0 < left →
    Some key ≡ option_map key_of (slice_get old.runs (left - 1)) → IsKilledAt configs moment key old mid →
    AreKilled configs moment (left - 1) mid new → AreKilled configs moment left old new
killed_next configs moment left key old mid new some is killed rest =
    killed_more configs moment left old mid new some (killed_some configs moment (slice_get old.runs (left - 1)) key old mid is killed) rest

pub killed_no : (configs : List ConfigValue) (moment left : ℕ) (old new : Standing) → 0 < left →
    None ≡ option_map key_of (slice_get old.runs (left - 1)) → AreKilled configs moment (left - 1) old new →
    AreKilled configs moment left old new
killed_no configs moment left old new some is rest =
    killed_more configs moment left old old new some (killed_none configs moment (slice_get old.runs (left - 1)) old is) rest
