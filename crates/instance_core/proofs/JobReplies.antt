-- Replies that tell of executions are short.
use Rattle.std.proofs.Common.{◌≡◌, ℕ, Bool, true, false, cond, List, [], ◌∷◌, map, Option, Some, None, Result, Ok, Err, refl}
use Rattle.std.specs.Prelude.{IfOk}
use Rattle.std.specs.List.{AllByRecursion}
use Rattle.reapi_messages.specs.Results.{◌>>=◌}
use Rattle.rpc.specs.declared.refusal.Refusal.{Refusal}
use Rattle.rpc.specs.declared.method.Method.TheVariants.{Execute, WaitExecution}
use Rattle.bytestream.specs.Reading.{SourceValue}
use Rattle.job_queue.specs.Jobs.{running_job}
use Rattle.run_calls.specs.Outcomes.{OutcomeValue}
use Rattle.execution.specs.Job.{JobValue}
use Rattle.execution.specs.Orders.{ToldValue, told}
use Rattle.execution.specs.Steps.{StepValue, start_steps, tick_steps, end_steps}
use Rattle.execution.specs.Execute.{ExecuteAnswer, done, queued}
use Rattle.execution.specs.Waiting as Waiting
use Rattle.execution.specs.Waiting.{WaitAnswer, has_told, wait}
use Rattle.execution.specs.Asking.{ExecuteAskedValue, execute_asked, name_asked}
use Rattle.instance_core.specs.declared.event.CallId.{CallId}
use Rattle.instance_core.specs.Calls.{Calls, IsNarrowOutcome}
use Rattle.instance_core.specs.State.{InstanceState, IsInstanceWithin}
use Rattle.instance_core.specs.Methods.{execution_state, executed, execute_answered, wait_answered, answer_to}
use Rattle.instance_core.specs.Replies.{AnswerValue, range, answering, items_of, says, ends, IsShortReplyItem, IsShortReply}
use Rattle.instance_core.specs.Answer.{ending_at, ending_steps}
use Rattle.instance_core.specs.Watching.{watchers, told_items, told_reply, replies_told, replies_to_watchers}
use Rattle.instance_core.proofs.NamedTexts.{all_append}
use Rattle.instance_core.proofs.JobLimits.{told_jobs}
use Rattle.instance_core.proofs.ChangeLimits.{jobs_of}
use Rattle.instance_core.proofs.EventLimits.{steps_short}
use Rattle.instance_core.proofs.OperationSizes.{IsShort, IsShortExecuteAnswer, IsShortWaitAnswer, AreShortSteps, execute_short, wait_short, start_short, tick_short, asked_form}

abbrev AreShortItems : Result AnswerValue Refusal → Type 0
AreShortItems r = AllByRecursion IsShortReplyItem (items_of r)

-- ---- Execute, and WaitExecution

done_items : (r : Result ExecuteAnswer Refusal) → IfOk r IsShortExecuteAnswer → AreShortItems (answering execute_answered r)
done_items (Ok (done operation)) short = (tt, (short, (tt, tt)))
done_items (Ok (queued n operation)) short = (tt, (short, tt))
done_items (Err refusal) short = (tt, tt)

pub execute_items : (s : InstanceState) (request : List ℕ) → IsInstanceWithin s → AreShortItems (answer_to Execute s request)
execute_items s request w = go (execute_asked s.name request) refl where
  go : (r : Result ExecuteAskedValue Refusal) → execute_asked s.name request ≡ r →
      AreShortItems (r >>= λ asked. answering execute_answered (executed s asked).answer)
  go (Err refusal) is = (tt, tt)
  go (Ok asked) is = done_items (executed s asked).answer
      (execute_short s.limits s.slots (execution_state s) asked.skips_lookup asked.action w.jobs.few_numbers
      (asked_form s.name request asked is) w.limits w.results)

told_items_short : (r : Result WaitAnswer Refusal) → IfOk r IsShortWaitAnswer → AreShortItems (answering wait_answered r)
told_items_short (Ok (has_told operation)) short = (tt, (short, (tt, tt)))
told_items_short (Ok (Waiting.watches n operation)) short = (tt, (short, tt))
told_items_short (Err refusal) short = (tt, tt)

pub wait_items : (s : InstanceState) (request : List ℕ) → IsInstanceWithin s → AreShortItems (answer_to WaitExecution s request)
wait_items s request w = go (name_asked request) where
  go : (r : Result (List ℕ) Refusal) → AreShortItems (r >>= λ name. answering wait_answered (wait name s.jobs))
  go (Err refusal) = (tt, tt)
  go (Ok name) = told_items_short (wait name s.jobs) (wait_short name s.jobs (told_jobs s.slots s.jobs (jobs_of s w)))

-- ---- neither gives a range

no_done_range : (r : Result ExecuteAnswer Refusal) (source : SourceValue) → answering execute_answered r ≡ Ok (range source) → ⊥
no_done_range (Ok (done operation)) source h = cc
no_done_range (Ok (queued n operation)) source h = cc
no_done_range (Err refusal) source h = cc

pub execute_no_range : (s : InstanceState) (request : List ℕ) (source : SourceValue) → answer_to Execute s request ≡ Ok (range source) → ⊥
execute_no_range s request source h = go (execute_asked s.name request) h where
  go : (r : Result ExecuteAskedValue Refusal) → (r >>= λ asked. answering execute_answered (executed s asked).answer) ≡ Ok (range source) →
      ⊥
  go (Err refusal) h = cc
  go (Ok asked) h = no_done_range (executed s asked).answer source h

no_told_range : (r : Result WaitAnswer Refusal) (source : SourceValue) → answering wait_answered r ≡ Ok (range source) → ⊥
no_told_range (Ok (has_told operation)) source h = cc
no_told_range (Ok (Waiting.watches n operation)) source h = cc
no_told_range (Err refusal) source h = cc

pub wait_no_range : (s : InstanceState) (request : List ℕ) (source : SourceValue) → answer_to WaitExecution s request ≡ Ok (range source) →
    ⊥
wait_no_range s request source h = go (name_asked request) h where
  go : (r : Result (List ℕ) Refusal) → (r >>= λ name. answering wait_answered (wait name s.jobs)) ≡ Ok (range source) → ⊥
  go (Err refusal) h = cc
  go (Ok name) h = no_told_range (wait name s.jobs) source h

-- ---- what those are told who watch

item_short : (t : ToldValue) → IsShort t.operation → AllByRecursion IsShortReplyItem (told_items t)
item_short t short = go t.is_last where
  go : (b : Bool) → AllByRecursion IsShortReplyItem (cond b (says t.operation ∷ ends ∷ []) (says t.operation ∷ []))
  go true = (short, (tt, tt))
  go false = (short, tt)

each_short : (t : ToldValue) (ids : List CallId) → IsShort t.operation → AllByRecursion IsShortReply (map (told_reply t) ids)
each_short t [] short = tt
each_short t (id ∷ ids) short = (item_short t short, each_short t ids short)

pub told_replies : (calls : Calls) (steps : List StepValue) → AreShortSteps steps →
    AllByRecursion IsShortReply (replies_to_watchers calls steps)
told_replies calls [] short = tt
told_replies calls (step ∷ steps) short =
    all_append IsShortReply (replies_told calls (told step)) (replies_to_watchers calls steps)
    (each_short (told step) (watchers (told step).number calls) short.0) (told_replies calls steps short.1)

pub start_replies : (s : InstanceState) → IsInstanceWithin s →
    AllByRecursion IsShortReply (replies_to_watchers s.calls (start_steps s.slots s.moment s.jobs))
start_replies s w = told_replies s.calls (start_steps s.slots s.moment s.jobs)
    (start_short s.slots s.moment s.jobs (told_jobs s.slots s.jobs (jobs_of s w)))

pub tick_replies : (s : InstanceState) → IsInstanceWithin s →
    AllByRecursion IsShortReply (replies_to_watchers s.calls (tick_steps s.slots s.moment s.jobs))
tick_replies s w = told_replies s.calls (tick_steps s.slots s.moment s.jobs)
    (tick_short s.slots s.moment s.jobs (told_jobs s.slots s.jobs (jobs_of s w)))

pub ending_replies : (s : InstanceState) (n : ℕ) (outcome : OutcomeValue) → IsNarrowOutcome outcome → IsInstanceWithin s →
    AllByRecursion IsShortReply (replies_to_watchers s.calls (ending_steps s n outcome (running_job n s.jobs)))
ending_replies s n outcome narrow w = go (running_job n s.jobs) refl where
  go : (o : Option JobValue) → running_job n s.jobs ≡ o →
      AllByRecursion IsShortReply (replies_to_watchers s.calls (ending_steps s n outcome o))
  go None is = tt
  go (Some job) is = told_replies s.calls (end_steps s.slots s.moment n (ending_at s outcome job).end_is s.jobs)
      (steps_short s n outcome job narrow is w)
