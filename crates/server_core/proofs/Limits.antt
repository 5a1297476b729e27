-- An instance keeps its limits through every run, and so does its parent.
use Rattle.std.proofs.Common.{ℕ, ◌^◌, ◌≤◌, List, [], ◌∷◌, arith}
use Rattle.std.specs.Prelude.{IfSome, Option, Some, None, fold, map}
use Rattle.std.specs.Option.{option_map}
use Rattle.std.specs.List.{AllByRecursion, IsDistinct}
use Rattle.job_queue.specs.Jobs.{no_jobs}
use Rattle.job_queue.specs.Order.{AreJobs}
use Rattle.execution.specs.Job.{JobValue}
use Rattle.job_queue.specs.declared.queue.TheConstants.{MOST_RUNNING}
use Rattle.instance_core.proofs.Limits.{nothing_within}
use Rattle.instance_core.specs.Calls.{same_call}
use Rattle.instance_core.specs.State.{IsInstanceWithin, LimitsValue, IsLimits, new_instance}
use Rattle.server_events.specs.Configs.{ConfigValue}
use Rattle.server_events.specs.Events.{LoneEvent}
use Rattle.served_instance.specs.Narrow.{IsNarrow}
use Rattle.served_instance.specs.Refusals.{refusal_of}
use Rattle.server_core.specs.Families.{Family, FamilyEvent, IsLimited, AreLimited, own_event, parent_event, event_in}
use Rattle.server_core.specs.Runs.{Run, FamilyRun, new_run, run_step, new_family_run, texts_of_parent, family_step, run_of_family}
use Rattle.served_instance.proofs.LimitsKept.{KeepsLimits, AreNamed, stepped_keeps}

-- what a parent has is named by its digests
pub named_beside : (r : Option Run) → IfSome r (λ k. KeepsLimits k.lone) → AreNamed (texts_of_parent r)
named_beside None h = tt
named_beside (Some r) h = h.within.texts.named

parent_keeps : (r : Option Run) (e : LoneEvent) → IsNarrow e → IfSome r (λ k. KeepsLimits k.lone) →
    IfSome (option_map (λ k. run_step [] k e) r) (λ k. KeepsLimits k.lone)
parent_keeps None e narrow h = tt
parent_keeps (Some r) e narrow h = stepped_keeps [] e r.lone (refusal_of e r.lone) tt narrow h

pub record FamilyKeeps (f : FamilyRun) : Type 0 where
  pub own : KeepsLimits f.own.lone
  pub beside : IfSome f.parent (λ k. KeepsLimits k.lone)

pub step_keeps : (f : FamilyRun) (e : FamilyEvent) → IsNarrow (event_in e) → FamilyKeeps f → FamilyKeeps (family_step f e)
step_keeps f (own_event e) narrow h = record {
  own = stepped_keeps (texts_of_parent f.parent) e f.own.lone (refusal_of e f.own.lone) (named_beside f.parent h.beside) narrow h.own;
  beside = h.beside;
}
step_keeps f (parent_event e) narrow h = record { own = h.own; beside = parent_keeps f.parent e narrow h.beside }

runs_keep : (f : FamilyRun) (es : List FamilyEvent) → AllByRecursion IsNarrow (map event_in es) → FamilyKeeps f →
    FamilyKeeps (fold family_step f es)
runs_keep f [] narrow h = h
runs_keep f (e ∷ es) narrow h = runs_keep (family_step f e) es narrow.1 (step_keeps f e narrow.0 h)

no_calls : IsDistinct same_call []
unfolding IsDistinct
no_calls = tt

no_jobs_wait : AreJobs (no_jobs {J = JobValue})
no_jobs_wait = record {
  rising = tt;
  given = tt;
  ended_given = tt;
  ended_once = tt;
  ended_apart = tt;
  few_numbers = omega arith;
  few_waiting = omega arith;
  few_running = omega arith;
  few_ended = omega arith;
}

pub new_within : (name : List ℕ) (quota slots : ℕ) (limits : LimitsValue) → quota ≤ 2 ^ 40 → slots ≤ MOST_RUNNING → IsLimits limits →
    IsInstanceWithin (new_instance name quota slots limits)
new_within name quota slots limits small few good = record {
  quota = small;
  limits = good;
  texts = nothing_within limits.blobs quota;
  uploads = record { bytes = omega arith; count = omega arith };
  results = record { few = omega arith; short = omega arith };
  slots = few;
  jobs = no_jobs_wait;
  running = omega arith;
  whole = record { waiting = tt; running = tt };
  told = tt;
  calls = no_calls;
  messages = tt;
  parent = tt;
}

new_keeps : (config : ConfigValue) → IsLimited config → KeepsLimits (new_run config).lone
new_keeps config limited =
    let few : config.slots ≤ MOST_RUNNING = omega (arith, limited.slots) in
    record { within = new_within config.name config.quota config.slots config.limits limited.quota few limited.limits; short = tt }

pub new_family_keeps : (family : Family) → AreLimited family → FamilyKeeps (new_family_run family)
new_family_keeps family limited = record { own = new_keeps family.own limited.own; beside = beside family.parent limited.parent } where
  beside : (o : Option ConfigValue) → IfSome o IsLimited → IfSome (option_map new_run o) (λ k. KeepsLimits k.lone)
  beside None h = tt
  beside (Some config) h = new_keeps config h

pub run_within : (family : Family) (events : List FamilyEvent) → AreLimited family → AllByRecursion IsNarrow (map event_in events) →
    IsInstanceWithin (run_of_family family events).own.lone.state
run_within family events limited narrow = (runs_keep (new_family_run family) events narrow (new_family_keeps family limited)).own.within
