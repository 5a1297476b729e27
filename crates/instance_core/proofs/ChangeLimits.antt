-- One change after another keeps the limits of an instance.
use Rattle.std.proofs.Common.{◌<◌, ◌≤◌, ℕ, List, [], ◌∷◌, ◌++◌}
use Rattle.std.specs.Prelude.{length}
use Rattle.std.specs.List.{AllByRecursion, IsDistinct}
use Rattle.std.specs.Map.{keys_of}
use Rattle.uploads.proofs.ListLemmas.{within_unexpired}
use Rattle.tree_calls.specs.Complete.{AreResultsWithin}
use Rattle.job_queue.specs.Jobs.{Jobs}
use Rattle.job_queue.specs.declared.queue.TheConstants.{LAST_NUMBER, MOST_WAITING}
use Rattle.execution.specs.Job.{JobValue}
use Rattle.execution.specs.Steps.{StepValue, jobs_after_steps}
use Rattle.instance_core.specs.declared.event.CallId.{CallId}
use Rattle.instance_core.specs.Calls.{Calls, CallValue, IsProgressOf, KeepShort, same_call}
use Rattle.instance_core.specs.Jobs.{IsWholeJob}
use Rattle.instance_core.specs.State.{InstanceState, IsInstanceWithin, LimitsValue}
use Rattle.instance_core.specs.Changes.{InstanceChange, Text, Goes, Ends, Wrote, Keeps, Expires, Does, Pushes, Settles, state_after_change, state_after_changes}
use Rattle.instance_core.specs.Named.{StoresNamedText}
use Rattle.instance_core.proofs.Entries.{with_short, without_short}
use Rattle.instance_core.proofs.NamedTexts.{change_within}
use Rattle.instance_core.proofs.WriteLimits.{IsWithin}
use Rattle.instance_core.proofs.CallLimits.{with_once, without_once, filter_once, all_filter, steps_left}
use Rattle.instance_core.proofs.JobLimits.{AreJobsWithin, push_within, done_within}
use Rattle.instance_core.proofs.OperationSizes.{IsShort}

-- ---- changes

-- what is stored is named, what a Write leaves and the results are within the limits, and what is
-- kept of a request is short; jobs stay as they are
abbrev pub KeepsLimits : LimitsValue → ℕ → InstanceChange → Type 0
KeepsLimits limits quota (Text c) = StoresNamedText c
KeepsLimits limits quota (Goes id call) = IsProgressOf call.method call.progress
KeepsLimits limits quota (Ends id) = Unit {0}
KeepsLimits limits quota (Wrote w) = IsWithin limits.blobs quota w
KeepsLimits limits quota (Keeps results) = AreResultsWithin limits results
KeepsLimits limits quota Expires = Unit {0}
KeepsLimits limits quota (Does operation) = ⊥
KeepsLimits limits quota (Pushes job) = ⊥
KeepsLimits limits quota (Settles steps) = ⊥

pub change_keeps : (c : InstanceChange) (s : InstanceState) → KeepsLimits s.limits s.quota c → IsInstanceWithin s →
    IsInstanceWithin (state_after_change c s)
change_keeps (Text c) s good w = record {
  quota = w.quota;
  limits = w.limits;
  texts =
      change_within s.limits.blobs s.quota c s.visible w.limits.some_blobs good w.texts;
  uploads = w.uploads;
  results = w.results;
  calls =
      w.calls;
  messages = w.messages;
  slots = w.slots;
  jobs = w.jobs;
  running = w.running;
  whole = w.whole;
  told = w.told;
  parent = w.parent;
}
change_keeps (Goes id call) s good w = record {
  quota = w.quota;
  limits = w.limits;
  texts = w.texts;
  uploads = w.uploads;
  results =
      w.results;
  calls = with_once id call s.calls w.calls;
  messages = with_short id call s.calls good w.messages;
  slots = w.slots;
  jobs =
      w.jobs;
  running = w.running;
  whole = w.whole;
  told = w.told;
  parent = w.parent;
}
change_keeps (Ends id) s good w = record {
  quota = w.quota;
  limits = w.limits;
  texts = w.texts;
  uploads = w.uploads;
  results = w.results;
  calls = without_once id s.calls w.calls;
  messages = without_short id s.calls w.messages;
  slots = w.slots;
  jobs = w.jobs;
  running =
      w.running;
  whole = w.whole;
  told = w.told;
  parent = w.parent;
}
change_keeps (Wrote left) s good w = record {
  quota = w.quota;
  limits = w.limits;
  texts = good.texts;
  uploads = good.uploads;
  results =
      w.results;
  calls = w.calls;
  messages = w.messages;
  slots = w.slots;
  jobs = w.jobs;
  running = w.running;
  whole = w.whole;
  told = w.told;
  parent = w.parent;
}
change_keeps (Keeps results) s good w = record {
  quota = w.quota;
  limits = w.limits;
  texts = w.texts;
  uploads = w.uploads;
  results = good;
  calls = w.calls;
  messages = w.messages;
  slots = w.slots;
  jobs = w.jobs;
  running = w.running;
  whole = w.whole;
  told = w.told;
  parent = w.parent;
}
change_keeps Expires s good w = record {
  quota = w.quota;
  limits = w.limits;
  texts = w.texts;
  uploads =
      within_unexpired s.quota s.moment s.uploads w.uploads;
  results = w.results;
  calls = w.calls;
  messages = w.messages;
  slots = w.slots;
  jobs = w.jobs;
  running = w.running;
  whole = w.whole;
  told = w.told;
  parent = w.parent;
}
change_keeps (Does operation) s good w = absurd good
change_keeps (Pushes job) s good w = absurd good
change_keeps (Settles steps) s good w = absurd good

-- ---- changes of jobs

pub jobs_of : (s : InstanceState) → IsInstanceWithin s → AreJobsWithin s.slots s.jobs
jobs_of s w = record { order = w.jobs; running = w.running; whole = w.whole; ended = w.told }

-- other jobs that are within the limits
abbrev with_jobs : Jobs JobValue → InstanceState → InstanceState
with_jobs jobs s = record s { jobs = jobs }

jobs_keep : (jobs : Jobs JobValue) (s : InstanceState) → AreJobsWithin s.slots jobs → IsInstanceWithin s →
    IsInstanceWithin (with_jobs jobs s)
jobs_keep jobs s h w = record {
  quota = w.quota;
  limits = w.limits;
  texts = w.texts;
  uploads = w.uploads;
  results = w.results;
  slots =
      w.slots;
  jobs = h.order;
  running = h.running;
  whole = h.whole;
  told = h.ended;
  calls = w.calls;
  messages = w.messages;
  parent =
      w.parent;
}

pub does_keeps : (operation : List ℕ) (s : InstanceState) → s.jobs.next ≤ LAST_NUMBER → IsShort operation → IsInstanceWithin s →
    IsInstanceWithin (state_after_change (Does operation) s)
does_keeps operation s left short w = jobs_keep _ s (done_within s.slots operation s.jobs (jobs_of s w) left short) w

pub pushes_keeps : (job : JobValue) (s : InstanceState) → s.jobs.next ≤ LAST_NUMBER → length s.jobs.waiting < MOST_WAITING →
    IsWholeJob job → IsInstanceWithin s → IsInstanceWithin (state_after_change (Pushes job) s)
pushes_keeps job s left room whole w = jobs_keep _ s (push_within s.slots job s.jobs (jobs_of s w) left room whole) w

pub settles_keeps : (steps : List StepValue) (s : InstanceState) → AreJobsWithin s.slots (jobs_after_steps steps s.jobs) →
    IsInstanceWithin s → IsInstanceWithin (state_after_change (Settles steps) s)
settles_keeps steps s h w = record {
  quota = w.quota;
  limits = w.limits;
  texts = w.texts;
  uploads = w.uploads;
  results = w.results;
  slots = w.slots;
  jobs = h.order;
  running = h.running;
  whole = h.whole;
  told = h.ended;
  calls = steps_left (λ (cs : Calls). IsDistinct same_call (keys_of cs)) filter_once steps s.calls w.calls;
  messages = steps_left KeepShort (all_filter (λ (c : CallId × CallValue). IsProgressOf c.1.method c.1.progress)) steps s.calls w.messages;
  parent = w.parent;
}

-- ---- after each front of some changes the instance is within its limits

abbrev pub FrontsKeep : InstanceState → List InstanceChange → Type 0
FrontsKeep s [] = IsInstanceWithin s
FrontsKeep s (c ∷ cs) = IsInstanceWithin s × FrontsKeep (state_after_change c s) cs

pub front_within : (s : InstanceState) (made left : List InstanceChange) → FrontsKeep s (made ++ left) →
    IsInstanceWithin (state_after_changes made s)
front_within s [] [] h = h
front_within s [] (c ∷ left) h = h.0
front_within s (c ∷ made) left h = front_within (state_after_change c s) made left h.1

pub fronts_last : (s : InstanceState) (cs : List InstanceChange) (c : InstanceChange) →
    ((t : InstanceState) → IsInstanceWithin t → IsInstanceWithin (state_after_change c t)) → FrontsKeep s cs → FrontsKeep s (cs ++ c ∷ [])
fronts_last s [] c keeps h = (h, keeps s h)
fronts_last s (x ∷ cs) c keeps h = (h.0, fronts_last (state_after_change x s) cs c keeps h.1)

-- a change leaves what the next ones have to keep to
still_keep : (c : InstanceChange) (s : InstanceState) (cs : List InstanceChange) → KeepsLimits s.limits s.quota c →
    AllByRecursion (KeepsLimits s.limits s.quota) cs →
    AllByRecursion (KeepsLimits (state_after_change c s).limits (state_after_change c s).quota) cs
still_keep (Text c) s cs good h = h
still_keep (Goes id call) s cs good h = h
still_keep (Ends id) s cs good h = h
still_keep (Wrote left) s cs good h = h
still_keep (Keeps results) s cs good h = h
still_keep Expires s cs good h = h
still_keep (Does operation) s cs good h = absurd good
still_keep (Pushes job) s cs good h = absurd good
still_keep (Settles steps) s cs good h = absurd good

pub fronts_keep : (s : InstanceState) (cs : List InstanceChange) → AllByRecursion (KeepsLimits s.limits s.quota) cs → IsInstanceWithin s →
    FrontsKeep s cs
fronts_keep s [] good w = w
fronts_keep s (c ∷ cs) good w =
    (w, fronts_keep (state_after_change c s) cs (still_keep c s cs good.0 good.1) (change_keeps c s good.0 w))

-- .. and the steps of an event are the last

abbrev SettleWell : InstanceState → List StepValue → Type 0
SettleWell s steps = AreJobsWithin s.slots (jobs_after_steps steps s.jobs)

settle_after : (c : InstanceChange) (s : InstanceState) (steps : List StepValue) → KeepsLimits s.limits s.quota c → SettleWell s steps →
    SettleWell (state_after_change c s) steps
settle_after (Text c) s steps good h = h
settle_after (Goes id call) s steps good h = h
settle_after (Ends id) s steps good h = h
settle_after (Wrote left) s steps good h = h
settle_after (Keeps results) s steps good h = h
settle_after Expires s steps good h = h
settle_after (Does operation) s steps good h = absurd good
settle_after (Pushes job) s steps good h = absurd good
settle_after (Settles others) s steps good h = absurd good

pub then_settle : (s : InstanceState) (cs : List InstanceChange) (steps : List StepValue) →
    AllByRecursion (KeepsLimits s.limits s.quota) cs → SettleWell s steps → IsInstanceWithin s → FrontsKeep s (cs ++ Settles steps ∷ [])
then_settle s [] steps good h w = (w, settles_keeps steps s h w)
then_settle s (c ∷ cs) steps good h w = (
  w,
  then_settle (state_after_change c s) cs steps (still_keep c s cs good.0 good.1) (settle_after c s steps good.0 h)
      (change_keeps c s good.0 w),
)
