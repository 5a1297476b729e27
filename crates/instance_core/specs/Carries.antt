-- What a method does that carries out the one message of a request. For the code alone.
use Rattle.std.specs.Prelude.{◌≡◌, ◌≤◌, ◌+◌, ℕ, List, map, length, Option, Some, None, Result, Ok, Err}
use Rattle.rpc.specs.declared.method.Method.{Method}
use Rattle.blob_pool.specs.Slots.{Slots}
use Rattle.blob_pool.specs.Moves.{Holders, Moves}
use Rattle.instance_view.specs.Visible.{Blob}
use Rattle.instance_view.specs.Shown.{holders, holders_seen, text_seen}
use Rattle.cas_service.specs.declared.error.CallError.{CallError}
use Rattle.cas_service.specs.Answers.{Answers, IfAnswered, IfNoMemory}
use Rattle.bytestream.specs.Shown.{source_shown}
use Rattle.instance_core.specs.declared.answer.Answer.{Answer}
use Rattle.instance_core.specs.declared.answer.Answer.TheVariants.{Message, Operation, Messages, Range, Watching}
use Rattle.instance_core.specs.declared.contents.Settings.{Settings}
use Rattle.instance_core.specs.declared.contents.Contents.{Contents}
use Rattle.instance_core.specs.declared.event.CallId.{CallId}
use Rattle.instance_core.specs.Calls.{Calls, watches, with_call, without_call}
use Rattle.instance_core.specs.Replies.{AnswerValue, one_message, messages, range, watching}
use Rattle.instance_core.specs.Changes.{InstanceChange, state_after_changes, MadeInPart}
use Rattle.instance_core.specs.Contents.{AreContentsWithin}
use Rattle.instance_core.specs.Methods.{answer_to, request_changes}
use Rattle.execution.specs.declared.answer.ExecuteAnswer as Code
use Rattle.execution.specs.declared.answer.ExecuteAnswer.TheVariants.{Done, Queued}
use Rattle.execution.specs.declared.answer.WaitAnswer as Wait
use Rattle.execution.specs.declared.answer.WaitAnswer.TheVariants.{HasTold, Watches}
use Rattle.execution.specs.InPool.{jobs_holders}
use Rattle.instance_core.specs.Shown.{Ongoing, ongoing_in, contents_seen}
use Rattle.instance_core.specs.State.{InstanceState}

-- an answer as a plain value, with the text that its range finds in a pool
abbrev pub answer_shown : Slots → Answer → AnswerValue
answer_shown p (Message bytes) = one_message bytes.items
answer_shown p (Operation operation) = one_message operation.value.items
answer_shown p (Messages list) = messages (map (λ message. message.items) list.items)
answer_shown p (Range source) = range (source_shown p source)
answer_shown p (Watching number operation) = watching number operation.items

-- an answer of this shape, or what there is in its place
abbrev pub shaped : {X : Type 0} → (X → Answer) → Result X CallError → Result Answer CallError
shaped shape (Ok x) = Ok (shape x)
shaped shape (Err e) = Err e

-- the answer of a call of Execute, and of WaitExecution
abbrev pub executed_so : Code.ExecuteAnswer → Answer
executed_so (Done operation) = Operation operation
executed_so (Queued number operation) = Watching number operation

abbrev pub waited_so : Wait.WaitAnswer → Answer
waited_so (HasTold operation) = Operation operation
waited_so (Watches number operation) = Watching number operation

-- the number of the job that a call watches which is answered so
abbrev pub number_watched : Result Answer CallError → Option ℕ
number_watched (Ok (Watching number operation)) = Some number
number_watched result = None

-- calls behind such an answer to one of them: it watches that job from then on, or ends
abbrev pub settled : CallId → Method → Option ℕ → Calls → Calls
settled id method (Some number) calls =
    with_call id (record { method = method; progress = watches number }) calls
settled id method None calls = without_call id calls

-- how often an answer holds each slot: its range does, once
abbrev pub answer_holders : Result Answer CallError → Holders
answer_holders (Ok (Range source)) k = holders_seen source.text k
answer_holders result k = 0

-- the range of an answer ends within its text
abbrev pub EndsWithin : Slots → Result Answer CallError → Type 0
EndsWithin p (Ok (Range source)) = source.until ≤ length (text_seen p source.text)
EndsWithin p result = Unit {0}

-- the changes are made, and for want of memory a front of them
pub record Leaves (result : Result Answer CallError) (changes : List InstanceChange)
    (old new : InstanceState) : Type 0 where
  pub whole : IfAnswered result (new ≡ state_after_changes changes old)
  pub memory : IfNoMemory result (MadeInPart changes old new)

-- how often contents hold each slot of a pool: the texts do, and the jobs
abbrev pub contents_holders : Contents → Holders
contents_holders c k = holders c.view k + jobs_holders c.executions.queue k

-- what they are, with these calls in course and with the jobs' texts in a pool
abbrev pub contents_beside : Settings → List Blob → Slots → Contents → Calls → InstanceState
contents_beside settings parent p c calls =
    contents_seen settings parent p c (ongoing_in p c calls)

-- the method has carried out the message, for an instance that is configured so and reads these
-- texts of its parent: it has answered, the contents have changed with it, and the pool counts
-- them and the range that is given in the place of the earlier contents
pub record Carries (method : Method) (settings : Settings) (parent : List Blob)
    (message : List ℕ) (p : Slots) (old : Contents) (result : Result Answer CallError)
    (q : Slots) (new : Contents) : Type 0 where
  pub answer : (calls : Calls) → Answers (answer_shown q) result
      (answer_to method (contents_beside settings parent p old calls) message)
  pub leaves : (calls : Calls) →
      Leaves result (request_changes method (contents_beside settings parent p old calls) message)
      (contents_beside settings parent p old calls) (contents_beside settings parent q new calls)
  pub moves : Moves p q (contents_holders old)
      (λ k. contents_holders new k + answer_holders result k)
  pub within : AreContentsWithin settings q new
  pub slots : new.executions.slots ≡ old.executions.slots

-- .. a method that asks and changes no jobs, whatever they are
pub record CarriesTexts (method : Method) (settings : Settings) (parent : List Blob)
    (message : List ℕ) (p : Slots) (old : Contents) (result : Result Answer CallError)
    (q : Slots) (new : Contents) : Type 0 where
  pub answer : (o : Ongoing) → Answers (answer_shown q) result
      (answer_to method (contents_seen settings parent p old o) message)
  pub leaves : (o : Ongoing) →
      Leaves result (request_changes method (contents_seen settings parent p old o) message)
      (contents_seen settings parent p old o) (contents_seen settings parent q new o)
  pub moves : Moves p q (holders old.view) (λ k. holders new.view k + answer_holders result k)
  pub within : AreContentsWithin settings q new
  pub executions : new.executions ≡ old.executions
