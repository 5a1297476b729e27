-- What becomes of a job whose run gave an outcome, made ready.
use Rattle.std.proofs.Common.{◌≡◌, ℕ, List, [], ◌∷◌, ◌++◌, map, Option, Some, None, Result, Ok, Err, refl, sym, ap, subst, ◌∙◌, append_assoc}
use Rattle.std.specs.Prelude.{IfOk, OnOk, OnErr}
use Rattle.std.specs.declared.alloc.Global.{Global}
use Rattle.std.specs.declared.alloc.AllocError.{AllocError}
use Rattle.std.specs.declared.vec.Vec.{Vec}
use Rattle.digest.specs.declared.Digest.{Digest}
use Rattle.blob_pool.specs.Slots.{Slots}
use Rattle.instance_view.specs.Visible.{Blob}
use Rattle.tree_calls.specs.Complete.{LimitsValue, AreResultsWithin}
use Rattle.cas_service.specs.Changes as Texts
use Rattle.job_queue.specs.Jobs.{running_job}
use Rattle.run_calls.specs.Outcomes.{OutcomeValue}
use Rattle.execution_messages.specs.Progress.{EndValue}
use Rattle.execution.specs.Job.{JobValue}
use Rattle.execution.specs.Ordered.{order_meant, orders_by}
use Rattle.execution.specs.Steps.{StepValue, end_steps, jobs_after_steps}
use Rattle.execution.specs.Taking.{steps_shown}
use Rattle.execution.specs.declared.steps.Step.{Step}
use Rattle.outcomes.specs.Ending.{EndingValue, admissions, results_with}
use Rattle.instance_core.specs.declared.turns.Turn.{Turn}
use Rattle.instance_core.specs.Answer.{changes_kept, ending_at, ending_changes, ending_steps, steps_at}
use Rattle.instance_core.specs.Apart.{replies_to}
use Rattle.instance_core.specs.Calls.{Calls, CallEventValue, end_job}
use Rattle.instance_core.specs.Changes.{InstanceChange, Text, Keeps, state_after_changes, MadeInPart}
use Rattle.instance_core.specs.Shown.{reply_shown}
use Rattle.instance_core.specs.State.{InstanceState}
use Rattle.instance_core.specs.Turns.{IsReady}
use Rattle.instance_core.specs.Watching.{replies_to_watchers}
use Rattle.instance_core.proofs.EventLimits.{results_keep}
use Rattle.instance_core.proofs.OrdersMeant.{event_orders}
use Rattle.instance_core.proofs.Parts.{changed_more, made_texts, texts_in_part, with_results, with_texts}

-- ---- turns

-- what was made ready of these steps
pub told_so : (r : Result Turn AllocError) (p : Slots) (only : Option ℕ) (calls : Calls) (steps : Vec Step Global) →
    IfOk r (λ turn. map (reply_shown p) turn.replies.items ≡ replies_to only (replies_to_watchers calls (steps_shown steps.items))) →
    IfOk r (λ turn. turn.steps ≡ steps)
    → IfOk r (λ turn. map (reply_shown p) turn.replies.items ≡ replies_to only (replies_to_watchers calls (steps_shown turn.steps.items)))
told_so (Ok turn) p only calls steps told same = rw same told
told_so (Err e) p only calls steps told same = tt

pub ordered_so : (r : Result Turn AllocError) (steps : Vec Step Global) →
    IfOk r (λ turn. turn.orders.items ≡ orders_by (steps_shown steps.items)) → IfOk r (λ turn. turn.steps ≡ steps)
    → IfOk r (λ turn. turn.orders.items ≡ orders_by (steps_shown turn.steps.items))
ordered_so (Ok turn) steps has same = has ∙ sym (ap (λ (v : Vec Step Global). orders_by (steps_shown v.items)) same)
ordered_so (Err e) steps has same = tt

-- .. is ready for the event that has them
pub ready_of : (p : Slots) (s : InstanceState) (event : CallEventValue) (only : Option ℕ) (turn : Turn) →
    map (reply_shown p) turn.replies.items ≡ replies_to only (replies_to_watchers s.calls (steps_shown turn.steps.items)) →
    steps_shown turn.steps.items ≡ steps_at s event → turn.orders.items ≡ orders_by (steps_shown turn.steps.items)
    → IsReady p s event (replies_to only (replies_to_watchers s.calls (steps_at s event))) turn
ready_of p s event only turn told steps has = record {
  replies = told ∙ ap (λ (ss : List StepValue). replies_to only (replies_to_watchers s.calls ss)) steps;
  steps = steps;
  orders = ap (map (order_meant (jobs_after_steps (steps_at s event) s.jobs))) (has ∙ ap orders_by steps) ∙ event_orders s event;
}

pub ready_by : (r : Result Turn AllocError) (p : Slots) (s : InstanceState) (event : CallEventValue) (only : Option ℕ)
    (steps : Vec Step Global) → steps_shown steps.items ≡ steps_at s event
    → IfOk r (λ turn. map (reply_shown p) turn.replies.items ≡ replies_to only (replies_to_watchers s.calls (steps_shown steps.items))) →
    IfOk r (λ turn. turn.orders.items ≡ orders_by (steps_shown steps.items)) → IfOk r (λ turn. turn.steps ≡ steps)
    → IfOk r (IsReady p s event (replies_to only (replies_to_watchers s.calls (steps_at s event))))
ready_by (Ok turn) p s event only steps is told has same =
    ready_of p s event only turn (told_so (Ok turn) p only s.calls steps told same)
    (ap (λ (v : Vec Step Global). steps_shown v.items) same ∙ is) (ordered_so (Ok turn) steps has same)
ready_by (Err e) p s event only steps is told has same = tt

-- ---- a job that ends

-- what becomes of it, where it runs under the number
pub ending_steps_of : (s : InstanceState) (n : ℕ) (outcome : OutcomeValue) (job : JobValue) (e : EndValue) (slots : ℕ) →
    running_job n s.jobs ≡ Some job → slots ≡ s.slots → e ≡ (ending_at s outcome job).end_is →
    end_steps slots s.moment n e s.jobs ≡ steps_at s (end_job n outcome)
ending_steps_of s n outcome job e slots runs same is =
    ap (λ (m : ℕ). end_steps m s.moment n e s.jobs) same ∙ ap (λ (x : EndValue). end_steps s.slots s.moment n x s.jobs) is
    ∙ sym (ap (ending_steps s n outcome) runs)

pub ending_none : (s : InstanceState) (n : ℕ) (outcome : OutcomeValue) → running_job n s.jobs ≡ None → [] ≡ steps_at s (end_job n outcome)
ending_none s n outcome none = sym (ap (ending_steps s n outcome) none)

pub kept_of : (s : InstanceState) (outcome : OutcomeValue) (job : JobValue) (o : Option JobValue) (action : Digest) (e : EndingValue) →
    o ≡ Some job → action ≡ job.action → e ≡ ending_at s outcome job → changes_kept s action e.blobs e.stored ≡ ending_changes s outcome o
kept_of s outcome job o action e runs same is =
    ap (λ (d : Digest). changes_kept s d e.blobs e.stored) same ∙ ap (λ (x : EndingValue). changes_kept s job.action x.blobs x.stored) is
    ∙ sym (ap (ending_changes s outcome) runs)

-- ---- what its run left is kept

pub any_ok : {T E : Type 0} (r : Result T E) {P : Type 0} → P → OnOk r P
any_ok (Ok x) p = p
any_ok (Err e) p = tt

pub any_err : {T E : Type 0} (r : Result T E) {P : Type 0} → P → OnErr r P
any_err (Ok x) p = tt
any_err (Err e) p = p

-- a front of changes is one of more of them
front_more : (cs more : List InstanceChange) (s t : InstanceState) → MadeInPart cs s t → MadeInPart (cs ++ more) s t
front_more cs more s t part = record {
  made = part.made;
  left = part.left ++ more;
  front = ap (λ (xs : List InstanceChange). xs ++ more) part.front ∙ append_assoc part.made part.left more;
  so_far = part.so_far;
}

-- some of the blobs were admitted
pub admitted_in_part : (s : InstanceState) (limit : ℕ) (blobs new : List Blob) (action : Digest) (stored : Option (List ℕ)) →
    limit ≡ s.limits.blobs → Texts.MadeInPart limit s.quota (admissions blobs) s.visible new →
    MadeInPart (changes_kept s action blobs stored) s (with_texts new s)
admitted_in_part s limit blobs new action stored most part =
    front_more (map Text (admissions blobs)) (Keeps (results_with s.limits action stored s.results) ∷ []) s (with_texts new s)
    (texts_in_part (admissions blobs) s new (subst (λ (n : ℕ). Texts.MadeInPart n s.quota (admissions blobs) s.visible new) most part))

all_admitted : (s : InstanceState) (limit : ℕ) (blobs new : List Blob) → limit ≡ s.limits.blobs →
    new ≡ Texts.visible_after_changes limit s.quota (admissions blobs) s.visible →
    with_texts new s ≡ state_after_changes (map Text (admissions blobs)) s
all_admitted s limit blobs new most is =
    ap (λ (bs : List Blob). with_texts bs s) (is ∙ ap (λ (n : ℕ). Texts.visible_after_changes n s.quota (admissions blobs) s.visible) most)
    ∙ sym (made_texts (admissions blobs) s)

-- all were, and then the result was stored
pub kept_whole : {T E : Type 0} (r : Result T E) (s : InstanceState) (limit : ℕ) (blobs new results : List Blob) (action : Digest)
    (stored : Option (List ℕ)) → limit ≡ s.limits.blobs → new ≡ Texts.visible_after_changes limit s.quota (admissions blobs) s.visible →
    OnOk r (results ≡ results_with s.limits action stored s.results)
    → OnOk r (with_results results (with_texts new s) ≡ state_after_changes (changes_kept s action blobs stored) s)
kept_whole (Err e) s limit blobs new results action stored most is kept = tt
kept_whole (Ok x) s limit blobs new results action stored most is kept =
    let cs = map Text (admissions blobs) in
    let last = Keeps (results_with s.limits action stored s.results) ∷ [] in
    ap (λ (bs : List Blob). with_results bs (with_texts new s)) kept
    ∙ ap (with_results (results_with s.limits action stored s.results)) (all_admitted s limit blobs new most is)
    ∙ sym (changed_more cs last s)

pub kept_in_part : {T E : Type 0} (r : Result T E) (s : InstanceState) (limit : ℕ) (blobs new results : List Blob) (action : Digest)
    (stored : Option (List ℕ)) → limit ≡ s.limits.blobs → new ≡ Texts.visible_after_changes limit s.quota (admissions blobs) s.visible →
    OnErr r (results ≡ s.results)
    → OnErr r (MadeInPart (changes_kept s action blobs stored) s (with_results results (with_texts new s)))
kept_in_part (Ok x) s limit blobs new results action stored most is same = tt
kept_in_part (Err e) s limit blobs new results action stored most is same = record {
  made = map Text (admissions blobs);
  left = Keeps (results_with s.limits action stored s.results) ∷ [];
  front = refl;
  so_far = ap (λ (bs : List Blob). with_results bs (with_texts new s)) same ∙ all_admitted s limit blobs new most is;
}

pub results_kept : {T E : Type 0} (limits : LimitsValue) (r : Result T E) (action : Digest) (stored : Option (List ℕ))
    (old new : List Blob) → OnOk r (new ≡ results_with limits action stored old) → OnErr r (new ≡ old) → AreResultsWithin limits old →
    AreResultsWithin limits new
results_kept limits (Ok x) action stored old new kept same few =
    subst (AreResultsWithin limits) (sym kept) (results_keep limits action stored old few)
results_kept limits (Err e) action stored old new kept same few = subst (AreResultsWithin limits) (sym same) few
