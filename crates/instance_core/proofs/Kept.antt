-- The message of a request that waits for its end is one that came for its call.
use Rattle.std.proofs.Common.{◌≡◌, ℕ, Bool, true, false, cond, ◌&&◌, ◌==◌, List, [], ◌∷◌, ◌++◌, map, Option, Some, None, Result, Ok, Err, refl, sym, ap, ◌∙◌, subst, inl, inr}
use Rattle.std.specs.Map.{lookup}
use Rattle.std.specs.Cmp.{unsigned_Decides}
use Rattle.std.specs.Option.{option_map_or}
use Rattle.rpc.specs.declared.method.Method.{Method}
use Rattle.rpc.specs.declared.method.Method.TheVariants as Called
use Rattle.rpc.specs.declared.refusal.Refusal.{Refusal}
use Rattle.job_queue.specs.Jobs.{running_job}
use Rattle.execution.specs.Job.{JobValue}
use Rattle.execution.specs.Execute as Executor
use Rattle.execution.specs.Execute.{ExecuteChange}
use Rattle.execution.specs.Steps.{StepValue}
use Rattle.run_calls.specs.Outcomes.{OutcomeValue}
use Rattle.execution.specs.Asking.{ExecuteAskedValue, execute_asked}
use Rattle.outcomes.specs.Ending.{admissions, results_with}
use Rattle.instance_core.specs.declared.event.CallId.{CallId}
use Rattle.instance_core.specs.Calls.{Calls, ProgressValue, waits, has, writes, watches, CallValue, CallEventValue, head, message, fault, end, cancel, tick, start_jobs, end_late_jobs, end_job, call_at, same_call, with_call, without_call}
use Rattle.instance_core.specs.State.{InstanceState}
use Rattle.instance_core.specs.Changes.{InstanceChange, Text, Goes, Ends, Wrote, Keeps, Expires, Does, Pushes, Settles, state_after_change, state_after_changes, MadeInPart}
use Rattle.instance_core.specs.Methods.{answer_to, executed, execution_change, execution_changes}
use Rattle.instance_core.specs.Answer.{answer, ending_at, ending_changes, ending_steps}
use Rattle.instance_core.specs.NamedReplies.{Request, whole_request}
use Rattle.instance_core.specs.Kept.{CameMessages, message_in, HasCome, HasKept, HaveKept, IsAnsweredAsCame}
use Rattle.instance_core.proofs.NamedTexts.{all_append}
use Rattle.instance_core.proofs.CallLimits.{all_filter, steps_left}
use Rattle.instance_core.proofs.ChangesHeld.{Allows, AllAre, ExecutesHold, EndsHold, HoldsBeside, texts_hold, call_holds, answer_holds, first_by, next_by}
use Rattle.instance_core.proofs.Outputs.{ending_stores}

-- ---- messages that came

comes_first : (came more : CameMessages) (id : CallId) (bytes : List ℕ) → HasCome came id bytes → HasCome (came ++ more) id bytes
comes_first [] more id bytes h = absurd h
comes_first (c ∷ came) more id bytes (inl here) = inl here
comes_first (c ∷ came) more id bytes (inr later) = inr (comes_first came more id bytes later)

comes_last : (came : CameMessages) (id : CallId) (bytes : List ℕ) → HasCome (came ++ (id, bytes) ∷ []) id bytes
comes_last [] id bytes = inl (refl, refl)
comes_last (c ∷ came) id bytes = inr (comes_last came id bytes)

keeps_more : (came more : CameMessages) (id : CallId) (p : ProgressValue) → HasKept came id p → HasKept (came ++ more) id p
keeps_more came more id waits h = tt
keeps_more came more id (has bytes) h = comes_first came more id bytes h
keeps_more came more id (writes write) h = tt
keeps_more came more id (watches n) h = tt

all_more : (came more : CameMessages) (cs : Calls) → HaveKept came cs → HaveKept (came ++ more) cs
all_more came more [] h = tt
all_more came more (c ∷ cs) h = (keeps_more came more c.0 c.1.progress h.0, all_more came more cs h.1)

-- ---- the calls of an instance

same_is : (a b : CallId) → same_call a b ≡ true → a ≡ b
same_is a b h = go (a.connection == b.connection) (a.stream == b.stream) refl refl h where
  go : (c s : Bool) → (a.connection == b.connection) ≡ c → (a.stream == b.stream) ≡ s → (c && s) ≡ true → a ≡ b
  go true true connection stream h =
      let connections : a.connection ≡ b.connection = (unsigned_Decides a.connection b.connection).0 connection in
      let streams : a.stream ≡ b.stream = (unsigned_Decides a.stream b.stream).0 stream in
      let of_connection : ℕ → CallId = λ n. record { connection = n; stream = a.stream } in
      let of_stream : ℕ → CallId = λ n. record { connection = b.connection; stream = n } in
      ap of_connection connections ∙ ap of_stream streams
  go true false connection stream h = absurd (cc)
  go false s connection stream h = absurd (cc)

with_kept : (came : CameMessages) (id : CallId) (call : CallValue) (cs : Calls) → HasKept came id call.progress → HaveKept came cs →
    HaveKept came (with_call id call cs)
with_kept came id call [] new h = (new, tt)
with_kept came id call (c ∷ cs) new h = go (same_call id c.0) refl (with_kept came id call cs new h.1) where
  go : (b : Bool) → same_call id c.0 ≡ b → HaveKept came (with_call id call cs) →
      HaveKept came (cond b ((c.0, call) ∷ cs) (c ∷ with_call id call cs))
  go true is later = (subst (λ (x : CallId). HasKept came x call.progress) (same_is id c.0 is) new, h.1)
  go false is later = (h.0, later)

without_kept : (came : CameMessages) (id : CallId) (cs : Calls) → HaveKept came cs → HaveKept came (without_call id cs)
without_kept came id [] h = tt
without_kept came id (c ∷ cs) h = go (same_call id c.0) (without_kept came id cs h.1) where
  go : (b : Bool) → HaveKept came (without_call id cs) → HaveKept came (cond b cs (c ∷ without_call id cs))
  go true later = h.1
  go false later = (h.0, later)

found_kept : (came : CameMessages) (id : CallId) (cs : Calls) (call : CallValue) → HaveKept came cs → call_at id cs ≡ Some call →
    HasKept came id call.progress
found_kept came id [] call h is = absurd (cc)
found_kept came id (c ∷ cs) call h is = go (same_call id c.0) refl is (λ later. found_kept came id cs call h.1 later) where
  go : (b : Bool) → same_call id c.0 ≡ b → cond b (Some c.1) (lookup (same_call id) cs) ≡ Some call →
      (lookup (same_call id) cs ≡ Some call → HasKept came id call.progress) → HasKept came id call.progress
  go true same is later =
      let first : c.1 ≡ call = cc in
      let here : HasKept came id c.1.progress = subst (λ (x : CallId). HasKept came x c.1.progress) (sym (same_is id c.0 same)) h.0 in
      subst (λ (x : CallValue). HasKept came id x.progress) first here
  go false same is later = later is

pub answered_as_came : (came : CameMessages) (s : InstanceState) (id : CallId) → HaveKept came s.calls → IsAnsweredAsCame came s id
answered_as_came came s id h request is = go (call_at id s.calls) refl is where
  by : (method : Method) (p : ProgressValue) → HasKept came id p → whole_request method p ≡ Some request → HasCome came id request.message
  by method waits kept is = absurd (cc)
  by method (has bytes) kept is =
      let one : Request = record { method = method; message = bytes } in
      let same : one ≡ request = cc in
      subst (λ (r : Request). HasCome came id r.message) same kept
  by method (writes write) kept is = absurd (cc)
  by method (watches n) kept is = absurd (cc)

  go : (o : Option CallValue) → call_at id s.calls ≡ o →
      option_map_or (λ call. whole_request call.method call.progress) o None ≡ Some request → HasCome came id request.message
  go None at is = absurd (cc)
  go (Some call) at is = by call.method call.progress (found_kept came id s.calls call h at) is

-- ---- the changes of an event

abbrev KeepsCame : CameMessages → InstanceChange → Type 0
KeepsCame came (Goes id call) = HasKept came id call.progress
KeepsCame came (Text c) = Unit {0}
KeepsCame came (Wrote w) = Unit {0}
KeepsCame came (Ends id) = Unit {0}
KeepsCame came (Keeps results) = Unit {0}
KeepsCame came Expires = Unit {0}
KeepsCame came (Does operation) = Unit {0}
KeepsCame came (Pushes job) = Unit {0}
KeepsCame came (Settles steps) = Unit {0}

came_allow : (came : CameMessages) (s : InstanceState) → Allows s (KeepsCame came)
came_allow came s = record {
  texts = λ c named. tt;
  begun = λ id method. tt;
  written = λ id method write below. tt;
  ended = λ id. tt;
  expired = tt;
  moved = λ request. tt;
  sent = λ request. tt;
  first = λ bytes. first_by s (KeepsCame came) (λ d. tt) (λ part. (tt, tt)) bytes;
  next = λ write bytes. next_by s (KeepsCame came) (λ part. (tt, tt)) write bytes;
}

execution_came : (came : CameMessages) (changes : List ExecuteChange) → AllAre (KeepsCame came) (map execution_change changes)
execution_came came [] = tt
execution_came came (Executor.Uses d ∷ changes) = (tt, execution_came came changes)
execution_came came (Executor.Keeps results ∷ changes) = (tt, execution_came came changes)
execution_came came (Executor.Does operation ∷ changes) = (tt, execution_came came changes)
execution_came came (Executor.Pushes job ∷ changes) = (tt, execution_came came changes)

executed_came : (came : CameMessages) (s : InstanceState) (r : Result ExecuteAskedValue Refusal) →
    AllAre (KeepsCame came) (execution_changes s r)
executed_came came s (Ok asked) = execution_came came (executed s asked).changes
executed_came came s (Err refusal) = tt

method_came : (came : CameMessages) (s : InstanceState) (method : Method) (request : List ℕ) →
    ExecutesHold (KeepsCame came) s method request
method_came came s Called.Execute request = executed_came came s (execute_asked s.name request)
method_came came s method request = tt

call_came : (came : CameMessages) (s : InstanceState) (id : CallId) (method : Method) (p : ProgressValue) →
    EndsHold (KeepsCame came) s id method p
call_came came s id method (has request) = (
  method_came came s method request,
  call_holds (KeepsCame came) id method
      (answer_to method s request) (λ n. tt) tt,
)
call_came came s id method waits = tt
call_came came s id method (writes write) = tt
call_came came s id method (watches n) = tt

end_came : (came : CameMessages) (s : InstanceState) (outcome : OutcomeValue) (o : Option JobValue) (steps : List StepValue) →
    AllAre (KeepsCame came) (ending_changes s outcome o ++ Settles steps ∷ [])
end_came came s outcome None steps = (tt, tt)
end_came came s outcome (Some job) steps =
    all_append (KeepsCame came) (ending_changes s outcome (Some job)) (Settles steps ∷ [])
    (all_append (KeepsCame came) (map Text (admissions (ending_at s outcome job).blobs))
    (Keeps (results_with s.limits job.action (ending_at s outcome job).stored s.results) ∷ [])
    (texts_hold s (KeepsCame came) (came_allow came s) (admissions (ending_at s outcome job).blobs)
    (ending_stores s.quota s.visible job outcome)) (tt, tt))
    (tt, tt)

came_beside : (came : CameMessages) (s : InstanceState) (event : CallEventValue) →
    HoldsBeside (KeepsCame (came ++ message_in event)) s event
came_beside came s (message id bytes) = λ method other. comes_last came id bytes
came_beside came s (head id method) = tt
came_beside came s (fault id refusal) = tt
came_beside came s (end id) = λ call. call_came (came ++ []) s id call.method call.progress
came_beside came s (cancel id) = tt
came_beside came s tick = tt
came_beside came s start_jobs = (tt, tt)
came_beside came s end_late_jobs = (tt, tt)
came_beside came s (end_job n outcome) = end_came (came ++ []) s outcome (running_job n s.jobs)
    (ending_steps s n outcome (running_job n s.jobs))

change_kept : (came : CameMessages) (c : InstanceChange) (s : InstanceState) → KeepsCame came c → HaveKept came s.calls →
    HaveKept came (state_after_change c s).calls
change_kept came (Goes id call) s new h = with_kept came id call s.calls new h
change_kept came (Ends id) s new h = without_kept came id s.calls h
change_kept came (Settles steps) s new h = steps_left (HaveKept came)
    (all_filter (λ (c : CallId × CallValue). HasKept came c.0 c.1.progress)) steps s.calls h
change_kept came (Text c) s new h = h
change_kept came (Wrote w) s new h = h
change_kept came (Keeps results) s new h = h
change_kept came Expires s new h = h
change_kept came (Does operation) s new h = h
change_kept came (Pushes job) s new h = h

made_kept : (came : CameMessages) (made left : List InstanceChange) (s : InstanceState) → AllAre (KeepsCame came) (made ++ left) →
    HaveKept came s.calls → HaveKept came (state_after_changes made s).calls
made_kept came [] left s all h = h
made_kept came (c ∷ made) left s all h = made_kept came made left (state_after_change c s) all.1 (change_kept came c s all.0 h)

pub part_kept : (came : CameMessages) (s t : InstanceState) (event : CallEventValue) → HaveKept came s.calls →
    MadeInPart (answer s event).changes s t → HaveKept (came ++ message_in event) t.calls
part_kept came s t event h part =
    let more : CameMessages = came ++ message_in event in
    let all : AllAre (KeepsCame more) (answer s event).changes =
    answer_holds s (KeepsCame more) (came_allow more s) event (came_beside came s event) in
    let kept : HaveKept more s.calls = all_more came (message_in event) s.calls h in
    subst (λ (x : InstanceState). HaveKept more x.calls) (sym part.so_far)
    (made_kept more part.made part.left s (subst (AllAre (KeepsCame more)) part.front all) kept)
