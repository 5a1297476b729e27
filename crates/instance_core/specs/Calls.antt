-- The calls in course of an instance, and what happens to them and to its jobs.
use Rattle.std.specs.Prelude.{ℕ, ◌<◌, ◌≢◌, Bool, ◌==◌, ◌&&◌, if◌then◌else◌, List, [], ◌∷◌, Option, FitsSigned}
use Rattle.std.specs.Int.{w32}
use Rattle.std.specs.List.{AllByRecursion, IsDistinct}
use Rattle.std.specs.Map.{lookup, remove_entry, keys_of}
use Rattle.rpc.specs.declared.method.Method.{Method}
use Rattle.rpc.specs.declared.method.Method.TheVariants.{Write}
use Rattle.rpc.specs.declared.refusal.Refusal.{Refusal}
use Rattle.bytestream.specs.Size.{size_limit}
use Rattle.bytestream.specs.Writing.{OpenWriteValue}
use Rattle.run_calls.specs.Outcomes.{OutcomeValue, failed, exited}
pub use Rattle.tree_calls.specs.Asking.{IsShortRequest}
use Rattle.instance_core.specs.declared.event.CallId.{CallId}

-- how much of a call's request has come
pub data ProgressValue : Type 0 where
  -- nothing
  waits : ProgressValue
  -- its message
  has : List ℕ → ProgressValue
  -- messages of a Write, of which the first named an upload
  writes : OpenWriteValue → ProgressValue
  -- all of it, and it was answered with the present Operation of the job of a number: those that
  -- follow are sent as they come, to the last
  watches : ℕ → ProgressValue

-- a call in course
pub record CallValue : Type 0 where
  pub method : Method
  pub progress : ProgressValue

abbrev pub same_call : CallId → CallId → Bool
same_call a b = a.connection == b.connection && a.stream == b.stream

-- calls in course, in the order in which they began
abbrev pub Calls : Type 0
Calls = List (CallId × CallValue)

abbrev pub call_at : CallId → Calls → Option CallValue
call_at id calls = lookup (same_call id) calls

-- a call that is there keeps its place, a new one goes last
abbrev pub with_call : CallId → CallValue → Calls → Calls
with_call id call [] = (id, call) ∷ []
with_call id call (c ∷ cs) = if same_call id c.0 then (c.0, call) ∷ cs else c ∷ with_call id call cs

abbrev pub without_call : CallId → Calls → Calls
without_call id calls = remove_entry (same_call id) calls

-- what happens to a call: it begins, a whole message of its request comes, its data are no
-- messages, its request ends, or it is given up; and time passes. What happens to jobs: those for
-- which there is a slot start; those that are past their deadline end; and the run of one gives an
-- outcome. In both of the latter cases others start in their place
pub data CallEventValue : Type 0 where
  head : CallId → Method → CallEventValue
  message : CallId → List ℕ → CallEventValue
  fault : CallId → Refusal → CallEventValue
  end : CallId → CallEventValue
  cancel : CallId → CallEventValue
  tick : CallEventValue
  start_jobs : CallEventValue
  end_late_jobs : CallEventValue
  end_job : ℕ → OutcomeValue → CallEventValue

-- the status with which a run ended is one of 32 bits (remote_execution.proto, exit_code)
abbrev pub IsNarrowOutcome : OutcomeValue → Type 0
IsNarrowOutcome failed = Unit {0}
IsNarrowOutcome (exited x) = FitsSigned w32 x.code

-- a message of a request is short, and messages can say what a run gave
abbrev pub IsShortEvent : CallEventValue → Type 0
IsShortEvent (message id bytes) = IsShortRequest bytes
IsShortEvent (end_job n outcome) = IsNarrowOutcome outcome
IsShortEvent _ = Unit {0}

-- how much of a request of a method may be kept: no message is longer, and none of a Write waits
-- for the request's end; the size of an upload that is written can be told (bytestream.proto,
-- committed_size)
abbrev pub IsProgressOf : Method → ProgressValue → Type 0
IsProgressOf method waits = Unit {0}
IsProgressOf method (has bytes) = (method ≢ Write) × IsShortRequest bytes
IsProgressOf method (writes write) = write.key.digest.size < size_limit
IsProgressOf method (watches n) = Unit {0}

abbrev pub KeepShort : Calls → Type 0
KeepShort calls =
    AllByRecursion (λ (c : CallId × CallValue). IsProgressOf c.1.method c.1.progress) calls

-- no call stands twice, and no message that is kept is too long or a Write's
pub record AreInCourse (calls : Calls) : Type 0 where
  pub once : IsDistinct same_call (keys_of calls)
  pub messages : KeepShort calls
