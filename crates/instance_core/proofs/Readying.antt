-- What is made ready for jobs: it stands for jobs in order, and its replies are short.
use Rattle.std.proofs.Common.{◌≡◌, ℕ, ◌<◌, ◌≤◌, Bool, true, false, cond, List, [], ◌∷◌, map, length, Bor, Option, Some, None, Result, Ok, Err, refl, sym, subst, arith}
use Rattle.std.specs.Prelude.{IfOk, is_some, option_map, ◌==◌}
use Rattle.std.specs.Option.{option_copied}
use Rattle.std.specs.List.{AllByRecursion}
use Rattle.std.specs.Map.{keys_of, lookup}
use Rattle.std.specs.declared.alloc.AllocError.{AllocError}
use Rattle.std.proofs.lemmas.Bool.{eqb-true}
use Rattle.std.proofs.lemmas.List.{length-map}
use Rattle.blob_pool.specs.Slots.{Slots}
use Rattle.job_queue.specs.Jobs.{Jobs, no_jobs, running_job, same_number}
use Rattle.job_queue.specs.Order.{AreJobs, AreRising, IsNone, open_numbers}
use Rattle.job_queue.specs.declared.queue.Running.{Running}
use Rattle.job_queue.specs.declared.queue.TheConstants.{MOST_WAITING, MOST_RUNNING}
use Rattle.execution.specs.declared.job.Job.{Job}
use Rattle.execution.specs.InPool.{jobs_in, waiting_in, running_in}
use Rattle.execution.specs.Steps.{StepValue}
use Rattle.execution.proofs.Calling.{running_found, running_job_in}
use Rattle.execution.proofs.Taken.{numbers-shown}
use Rattle.instance_core.specs.declared.event.Reply.{Reply}
use Rattle.instance_core.specs.declared.turns.Turn.{Turn}
use Rattle.instance_core.specs.Apart.{AreRepliesTo, replies_on}
use Rattle.instance_core.specs.Jobs.{AreWhole}
use Rattle.instance_core.specs.Replies.{ReplyValue, IsShortReply}
use Rattle.instance_core.specs.Shown.{reply_shown}
use Rattle.instance_core.specs.Calls.{Calls, CallEventValue}
use Rattle.instance_core.specs.State.{InstanceState}
use Rattle.instance_core.specs.Turns.{IsReady}
use Rattle.instance_core.specs.Watching.{replies_to_watchers}

-- ---- the jobs of the code are in order where those are that they are shown as

few : (a b most : ℕ) → a ≡ b → b ≤ most → a ≤ most
few a b most is h = subst (λ (n : ℕ). n ≤ most) (sym is) h

pub in_order : (p : Slots) (jobs : Jobs Job) → AreJobs (jobs_in p jobs) → AreJobs jobs
in_order p jobs h =
    let same : open_numbers (jobs_in p jobs) ≡ open_numbers jobs = numbers-shown p jobs in
    record {
      rising = subst (λ (ns : List ℕ). AreRising ns) same h.rising;
      given = subst (λ (ns : List ℕ). AllByRecursion (λ n. n < jobs.next) ns) same h.given;
      ended_given = h.ended_given;
      ended_once = h.ended_once;
      ended_apart = subst (λ (ns : List ℕ). AllByRecursion (IsNone ns) (keys_of jobs.ended)) same h.ended_apart;
      few_numbers = h.few_numbers;
      few_waiting = few (length jobs.waiting) (length (jobs_in p jobs).waiting) MOST_WAITING
          (sym (length-map jobs.waiting (waiting_in p))) h.few_waiting;
      few_running = few (length jobs.running) (length (jobs_in p jobs).running) MOST_RUNNING
          (sym (length-map jobs.running (running_in p))) h.few_running;
      few_ended = h.few_ended;
    }

-- no jobs are in order, too, and whole
pub none_in_order : {J : Type 0} → AreJobs {J = J} no_jobs
none_in_order = record {
  rising = tt;
  given = tt;
  ended_given = tt;
  ended_once = tt;
  ended_apart = tt;
  few_numbers = omega arith;
  few_waiting = omega arith;
  few_running = omega arith;
  few_ended = omega arith;
}

pub none_whole : AreWhole no_jobs
none_whole = record { waiting = tt; running = tt }

-- ---- the job that runs under a number

pub runs_alike : (p : Slots) (n : ℕ) (jobs : Jobs Job) → is_some (running_job n jobs) ≡ is_some (running_job n (jobs_in p jobs))
runs_alike p n jobs = rw (running_found p n jobs.running) (go (lookup (same_number n) jobs.running)) where
  go : (o : Option (Running Job)) → is_some (option_map (λ r. r.job) o)
      ≡ is_some (option_map (λ r. r.job) (option_map (running_job_in p) o))
  go (Some r) = refl
  go None = refl

pub is_copied : {A : Type 0} (o : Option (Bor A)) → is_some o ≡ is_some (option_copied o)
is_copied (Some x) = refl
is_copied None = refl

-- ---- replies to one connection

each_on : (c : ℕ) (rs : List ReplyValue) → AllByRecursion (λ (r : ReplyValue). r.call.connection ≡ c) (replies_on c rs)
each_on c [] = tt
each_on c (r ∷ rs) = go (r.call.connection == c) refl (each_on c rs) where
  go : (b : Bool) → (r.call.connection == c) ≡ b → AllByRecursion (λ (r : ReplyValue). r.call.connection ≡ c) (replies_on c rs) →
      AllByRecursion (λ (r : ReplyValue). r.call.connection ≡ c) (cond b (r ∷ replies_on c rs) (replies_on c rs))
  go true is later = (eqb-true r.call.connection c is, later)
  go false is later = later

shown_on : (p : Slots) (c : ℕ) (replies : List Reply) →
    AllByRecursion (λ (r : ReplyValue). r.call.connection ≡ c) (map (reply_shown p) replies) → AreRepliesTo c replies
shown_on p c [] h = tt
shown_on p c (r ∷ replies) h = (h.0, shown_on p c replies h.1)

pub are_on : (p : Slots) (c : ℕ) (rs : List ReplyValue) (r : Result Turn AllocError)
    → IfOk r (λ turn. map (reply_shown p) turn.replies.items ≡ replies_on c rs) → IfOk r (λ turn. AreRepliesTo c turn.replies.items)
are_on p c rs (Ok turn) is = shown_on p c turn.replies.items
    (subst (AllByRecursion (λ (r : ReplyValue). r.call.connection ≡ c)) (sym is) (each_on c rs))
are_on p c rs (Err e) is = tt

-- ---- short replies

pub short_on : (c : ℕ) (rs : List ReplyValue) → AllByRecursion IsShortReply rs → AllByRecursion IsShortReply (replies_on c rs)
short_on c [] h = tt
short_on c (r ∷ rs) h = go (r.call.connection == c) (short_on c rs h.1) where
  go : (b : Bool) → AllByRecursion IsShortReply (replies_on c rs) →
      AllByRecursion IsShortReply (cond b (r ∷ replies_on c rs) (replies_on c rs))
  go true later = (h.0, later)
  go false later = later

pub told_short : (calls : Calls) (steps others : List StepValue) → steps ≡ others →
    AllByRecursion IsShortReply (replies_to_watchers calls others) → AllByRecursion IsShortReply (replies_to_watchers calls steps)
told_short calls steps others same short = subst (λ (ss : List StepValue). AllByRecursion IsShortReply (replies_to_watchers calls ss))
    (sym same) short

pub are_short : (p : Slots) (rs : List ReplyValue) (r : Result Turn AllocError) → AllByRecursion IsShortReply rs
    → IfOk r (λ turn. map (reply_shown p) turn.replies.items ≡ rs) →
    IfOk r (λ turn. AllByRecursion IsShortReply (map (reply_shown p) turn.replies.items))
are_short p rs (Ok turn) short is = subst (AllByRecursion IsShortReply) (sym is) short
are_short p rs (Err e) short is = tt

pub ready_short : (p : Slots) (s : InstanceState) (event : CallEventValue) (rs : List ReplyValue) (r : Result Turn AllocError) →
    AllByRecursion IsShortReply rs
    → IfOk r (IsReady p s event rs) → IfOk r (λ turn. AllByRecursion IsShortReply (map (reply_shown p) turn.replies.items))
ready_short p s event rs (Ok turn) short is = subst (AllByRecursion IsShortReply) (sym is.replies) short
ready_short p s event rs (Err e) short is = tt
