-- Changes that were made, whole or in part.
use Rattle.std.proofs.Common.{◌≡◌, ℕ, List, [], ◌∷◌, ◌++◌, map, Option, Some, Result, Ok, Err, refl, sym, ap, subst, ◌∙◌, append_assoc}
use Rattle.std.proofs.lemmas.List.{map-append}
use Rattle.std.specs.Prelude.{IfSome, IsErr, IsErrOf, OnOk, OnErr}
use Rattle.cas_service.specs.BatchUpdate.{BlobsSentValue, stores_of_result}
use Rattle.std.specs.declared.alloc.Global.{Global}
use Rattle.std.specs.declared.alloc.AllocError.{AllocError}
use Rattle.std.specs.declared.vec.Vec.{Vec}
use Rattle.rpc.specs.declared.method.Method.{Method}
use Rattle.reapi_messages.specs.Results.{◌>>=◌}
use Rattle.rpc.specs.declared.refusal.Refusal.{Refusal}
use Rattle.digest.specs.declared.Digest.{Digest}
use Rattle.blob_pool.specs.Slots.{Slots}
use Rattle.instance_view.specs.Visible.{Blob}
use Rattle.instance_view.specs.Shown.{ViewValue, visible_in}
use Rattle.cas_service.specs.declared.error.CallError.{CallError}
use Rattle.cas_service.specs.declared.error.CallError.TheVariants.{Refused, NoMemory}
use Rattle.cas_service.specs.Answers.{Answers, IfAnswered, IfNoMemory}
use Rattle.cas_service.specs.Changes as Texts
use Rattle.instance_core.specs.declared.event.CallId.{CallId}
use Rattle.instance_core.specs.declared.event.Reply.{Reply}
use Rattle.uploads.specs.Uploads.{UploadList}
use Rattle.tree_calls.specs.Complete.{LimitsValue, AreResultsWithin}
use Rattle.instance_core.specs.Calls.{CallValue, ProgressValue, has, Calls, IsProgressOf}
use Rattle.instance_core.specs.State.{InstanceState}
use Rattle.instance_core.specs.Methods.{answer_to, request_changes}
use Rattle.instance_core.specs.Changes.{InstanceChange, Text, Keeps, state_after_change, state_after_changes, MadeInPart}
use Rattle.instance_core.specs.Answer.{call_change, request_end_answer}
use Rattle.instance_core.specs.Shown.{Makes, with_calls}
use Rattle.instance_core.specs.declared.answer.Answer.{Answer}
use Rattle.instance_core.specs.declared.answer.Answer.TheVariants.{Message, Operation, Messages, Range, Watching}
use Rattle.instance_core.specs.Replies.{AnswerValue, answering}
use Rattle.instance_core.specs.Carries.{answer_shown, number_watched, settled, shaped, Leaves}

-- a call whose reply and changes come from what it asks for: refused, it changes nothing
pub uses_answered : (r : Result (Vec ℕ Global) CallError) (asked : Result (List Digest) Refusal) (reply : List Digest → List ℕ)
    (limit most quota : ℕ) (p : Slots) (old new : ViewValue)
    → limit ≡ most → Answers (λ (reply : Vec ℕ Global). reply.items) r (asked >>= λ digests. Ok (reply digests)) →
    OnOk r (visible_in p new ≡ Texts.visible_after_changes limit quota (Texts.uses asked) (visible_in p old)) → OnErr r (new ≡ old)
    → IfAnswered r (visible_in p new ≡ Texts.visible_after_changes most quota (Texts.uses asked) (visible_in p old))
uses_answered (Ok text) asked reply limit most quota p old new same is used err =
    subst (λ (n : ℕ). visible_in p new ≡ Texts.visible_after_changes n quota (Texts.uses asked) (visible_in p old)) same used
uses_answered (Err (Refused refusal)) (Err other) reply limit most quota p old new same is used err = ap (visible_in p) err
uses_answered (Err (Refused refusal)) (Ok digests) reply limit most quota p old new same is used err = cc
uses_answered (Err NoMemory) asked reply limit most quota p old new same is used err = tt

-- a call that stores what it is sent: refused, it is sent nothing
pub stores_answered : (r : Result (Vec ℕ Global) CallError) (sent : Result BlobsSentValue Refusal) (reply : BlobsSentValue → List ℕ)
    (limit most quota : ℕ) (p q : Slots) (old new : ViewValue)
    → limit ≡ most → Answers (λ (reply : Vec ℕ Global). reply.items) r (sent >>= λ requests. Ok (reply requests)) →
    OnOk r (visible_in q new ≡ Texts.visible_after_changes limit quota (stores_of_result quota sent) (visible_in p old))
    → ((refusal : Refusal) → IsErrOf r (Refused refusal) → (new ≡ old) × (q ≡ p))
    → IfAnswered r (visible_in q new ≡ Texts.visible_after_changes most quota (stores_of_result quota sent) (visible_in p old))
stores_answered (Ok text) sent reply limit most quota p q old new same is stored refused =
    subst (λ (n : ℕ). visible_in q new ≡ Texts.visible_after_changes n quota (stores_of_result quota sent) (visible_in p old)) same stored
stores_answered (Err (Refused refusal)) (Err other) reply limit most quota p q old new same is stored refused =
    let still = refused refusal refl in
    ap (visible_in q) still.0 ∙ ap (λ (z : Slots). visible_in z old) still.1
stores_answered (Err (Refused refusal)) (Ok requests) reply limit most quota p q old new same is stored refused = cc
stores_answered (Err NoMemory) sent reply limit most quota p q old new same is stored refused = tt

abbrev pub with_texts : List Blob → InstanceState → InstanceState
with_texts visible s = record s { visible = visible }

pub made_texts : (cs : List Texts.TextChange) (s : InstanceState) →
    state_after_changes (map Text cs) s ≡ with_texts (Texts.visible_after_changes s.limits.blobs s.quota cs s.visible) s
made_texts [] s = refl
made_texts (c ∷ cs) s = made_texts cs (with_texts (Texts.visible_after_change s.limits.blobs s.quota c s.visible) s)

-- a front of the changes of the texts
pub texts_in_part : (cs : List Texts.TextChange) (s : InstanceState) (new : List Blob) →
    Texts.MadeInPart s.limits.blobs s.quota cs s.visible new → MadeInPart (map Text cs) s (with_texts new s)
texts_in_part cs s new part = record {
  made = map Text part.made;
  left = map Text part.left;
  front = ap (λ (xs : List Texts.TextChange). map Text xs) part.front ∙ map-append Text part.made part.left;
  so_far = ap (λ (visible : List Blob). with_texts visible s) part.so_far ∙ sym (made_texts part.made s);
}

-- the call that was found, with what has come of it
pub call_found : (call : CallValue) (method : Method) (progress : ProgressValue) (there : Option CallValue)
    → Some call ≡ there → method ≡ call.method → progress ≡ call.progress → Some (record { method = method; progress = progress }) ≡ there
call_found call method progress there is same kept =
    ap (λ (m : Method). Some (call_of m progress)) same ∙ ap (λ (o : ProgressValue). Some (call_of call.method o)) kept ∙ is
  where
    call_of : Method → ProgressValue → CallValue
    call_of m o = record { method = m; progress = o }

-- another state of the same instance at the same moment
abbrev pub becomes : List Blob → UploadList → Calls → InstanceState → InstanceState
becomes visible uploads calls s = record s { visible = visible; uploads = uploads; calls = calls }

pub becomes_same : (s : InstanceState) (visible visible' : List Blob) (uploads uploads' : UploadList) (calls calls' : Calls)
    → visible ≡ visible' → uploads ≡ uploads' → calls ≡ calls' → becomes visible uploads calls s ≡ becomes visible' uploads' calls' s
becomes_same s visible visible' uploads uploads' calls calls' p q r = rw (p, q, r) refl

-- changes, and then others
pub changed_more : (a b : List InstanceChange) (s : InstanceState) →
    state_after_changes (a ++ b) s ≡ state_after_changes b (state_after_changes a s)
changed_more [] b s = refl
changed_more (c ∷ a) b s = changed_more a b (state_after_change c s)

-- a call that is answered at its end
-- a call that is answered so ends, or watches a job from then on
settled_change : (q : Slots) (outcome : Result Answer CallError) (answer : Result AnswerValue Refusal) (id : CallId) (method : Method)
    (m : InstanceState) → Answers (answer_shown q) outcome answer → IfNoMemory outcome ⊥
    → state_after_change (call_change id method answer) m ≡ with_calls (settled id method (number_watched outcome) m.calls) m
settled_change q (Ok (Message bytes)) answer id method m h none = rw h refl
settled_change q (Ok (Operation operation)) answer id method m h none = rw h refl
settled_change q (Ok (Messages list)) answer id method m h none = rw h refl
settled_change q (Ok (Range source)) answer id method m h none = rw h refl
settled_change q (Ok (Watching n operation)) answer id method m h none = rw h refl
settled_change q (Err (Refused refusal)) answer id method m h none = rw h refl
settled_change q (Err NoMemory) answer id method m h none = absurd none

pub ended_whole : (q : Slots) (outcome : Result Answer CallError) (s mid : InstanceState) (calls : Calls) (id : CallId) (method : Method)
    (request : List ℕ) (there : Option CallValue)
    → Some (record { method = method; progress = has request }) ≡ there → Answers (answer_shown q) outcome (answer_to method s request) →
    IfNoMemory outcome ⊥
    → mid ≡ state_after_changes (request_changes method s request) s → mid.calls ≡ s.calls →
    calls ≡ settled id method (number_watched outcome) s.calls
    → with_calls calls mid ≡ state_after_changes (request_end_answer s id there).changes s
ended_whole q outcome s mid calls id method request there is means none all kept gone =
    let changes = request_changes method s request in
    let change = call_change id method (answer_to method s request) in
    let now : calls ≡ settled id method (number_watched outcome) mid.calls =
    gone ∙ ap (settled id method (number_watched outcome)) (sym kept) in
    let ended : with_calls (settled id method (number_watched outcome) mid.calls) mid
    ≡ state_after_changes (change ∷ []) (state_after_changes changes s) =
    sym (settled_change q outcome (answer_to method s request) id method mid means none) ∙ ap (state_after_change change) all in
    rw (← is) (ap (λ (cs : Calls). with_calls cs mid) now ∙ ended ∙ sym (changed_more changes (change ∷ []) s))

pub ended_in_part : (s mid : InstanceState) (id : CallId) (method : Method) (request : List ℕ) (there : Option CallValue)
    → Some (record { method = method; progress = has request }) ≡ there → MadeInPart (request_changes method s request) s mid
    → MadeInPart (request_end_answer s id there).changes s mid
ended_in_part s mid id method request there is part = rw (← is) (record {
  made = part.made;
  left = part.left ++ call_change id method (answer_to method s request) ∷ [];
  front = ap (λ (cs : List InstanceChange). cs ++ call_change id method (answer_to method s request) ∷ []) part.front
      ∙ append_assoc part.made part.left (call_change id method (answer_to method s request) ∷ []);
  so_far = part.so_far;
})

pub made_whole : (replies : Vec Reply Global) (changes : List InstanceChange) (old new : InstanceState) →
    new ≡ state_after_changes changes old → Makes (Ok replies) changes old new
made_whole replies changes old new all = record { whole = all; memory = tt }

pub made_in_part : (r : Result (Vec Reply Global) AllocError) (changes : List InstanceChange) (old new : InstanceState) → IsErr r →
    MadeInPart changes old new → Makes r changes old new
made_in_part (Ok replies) changes old new is part = absurd cc
made_in_part (Err e) changes old new is part = record { whole = tt; memory = part }

-- an answer that changes calls alone
pub calls_made : (r : Result (Vec Reply Global) AllocError) (changes : List InstanceChange) (s : InstanceState) (calls : Calls)
    → ((t : InstanceState) → OnOk r (with_calls calls t ≡ state_after_changes changes (with_calls s.calls t))) → OnErr r (calls ≡ s.calls) →
    Makes r changes s (with_calls calls s)
calls_made (Ok replies) changes s calls all same = record { whole = all s; memory = tt }
calls_made (Err e) changes s calls all same = record {
  whole = tt;
  memory = record { made = []; left = changes; front = refl; so_far = ap (λ (cs : Calls). with_calls cs s) same };
}

-- what has come of the call that was found is short
pub progress_short : (call : CallValue) (progress : ProgressValue) (there : Option CallValue) → Some call ≡ there →
    progress ≡ call.progress → IfSome there (λ c. IsProgressOf c.method c.progress) → IsProgressOf call.method progress
progress_short call progress there is same h =
    let here : IfSome (Some call) (λ c. IsProgressOf c.method c.progress) =
    subst (λ (o : Option CallValue). IfSome o (λ c. IsProgressOf c.method c.progress)) (sym is) h in
    subst (IsProgressOf call.method) (sym same) here

-- ---- what a method leaves

append_nil : (cs : List InstanceChange) → cs ≡ cs ++ []
append_nil [] = refl
append_nil (c ∷ cs) = ap (λ (xs : List InstanceChange). c ∷ xs) (append_nil cs)

-- texts alone
pub leaves_texts : {X : Type 0} (r : Result X CallError) (shape : X → Answer) (cs : List Texts.TextChange) (s : InstanceState)
    (new : List Blob)
    → IfAnswered r (new ≡ Texts.visible_after_changes s.limits.blobs s.quota cs s.visible) →
    IfNoMemory r (Texts.MadeInPart s.limits.blobs s.quota cs s.visible new) → Leaves (shaped shape r) (map Text cs) s (with_texts new s)
leaves_texts (Ok x) shape cs s new whole part =
    record { whole = ap (λ (bs : List Blob). with_texts bs s) whole ∙ sym (made_texts cs s); memory = tt }
leaves_texts (Err (Refused refusal)) shape cs s new whole part =
    record { whole = ap (λ (bs : List Blob). with_texts bs s) whole ∙ sym (made_texts cs s); memory = tt }
leaves_texts (Err NoMemory) shape cs s new whole part = record { whole = tt; memory = texts_in_part cs s new part }

abbrev pub with_results : List Blob → InstanceState → InstanceState
with_results results s = record s { results = results }

both_set : (s : InstanceState) (new visible results rs : List Blob) → new ≡ visible → results ≡ rs →
    with_texts new (with_results results s) ≡ with_texts visible (with_results rs s)
both_set s new visible results rs p q = rw (p, q) refl

all_set : (s : InstanceState) (kept : List Blob) (cs : List Texts.TextChange) (new results : List Blob) →
    new ≡ Texts.visible_after_changes s.limits.blobs s.quota cs s.visible → results ≡ kept
    → with_texts new (with_results results s) ≡ state_after_changes (Keeps kept ∷ map Text cs) s
all_set s kept cs new results p q = both_set s new (Texts.visible_after_changes s.limits.blobs s.quota cs s.visible) results kept p q
    ∙ sym (made_texts cs (with_results kept s))

-- results, and then texts
pub leaves_results : {X : Type 0} (r : Result X CallError) (shape : X → Answer) (kept : List Blob) (cs : List Texts.TextChange)
    (s : InstanceState) (new results : List Blob)
    → IfAnswered r (new ≡ Texts.visible_after_changes s.limits.blobs s.quota cs s.visible) → IfAnswered r (results ≡ kept) →
    OnErr r ((results ≡ s.results) × (new ≡ s.visible))
    → Leaves (shaped shape r) (Keeps kept ∷ map Text cs) s (with_texts new (with_results results s))
leaves_results (Ok x) shape kept cs s new results whole left err = record { whole = all_set s kept cs new results whole left; memory = tt }
leaves_results (Err (Refused refusal)) shape kept cs s new results whole left err =
    record { whole = all_set s kept cs new results whole left; memory = tt }
leaves_results (Err NoMemory) shape kept cs s new results whole left err = record {
  whole = tt;
  memory = record {
    made = [];
    left = Keeps kept ∷ map Text cs;
    front = refl;
    so_far =
        both_set s new s.visible results s.results err.1 err.0;
  };
}

-- all of the changes, or a front of them
pub front_left : (r : Result Answer CallError) (changes : List InstanceChange) (s t : InstanceState) → Leaves r changes s t →
    MadeInPart changes s t
front_left (Ok x) changes s t h = record { made = changes; left = []; front = append_nil changes; so_far = h.whole }
front_left (Err (Refused refusal)) changes s t h = record { made = changes; left = []; front = append_nil changes; so_far = h.whole }
front_left (Err NoMemory) changes s t h = h.memory

-- where a reply is sent, memory had not run out before
pub all_left : (o : Result Answer CallError) (r : Result (Vec Reply Global) AllocError) (replies : Vec Reply Global)
    (changes : List InstanceChange) (s t : InstanceState) → r ≡ Ok replies → IfNoMemory o (OnOk r ⊥) → Leaves o changes s t →
    t ≡ state_after_changes changes s
all_left (Ok x) r replies changes s t is none h = h.whole
all_left (Err (Refused refusal)) r replies changes s t is none h = h.whole
all_left (Err NoMemory) (Ok other) replies changes s t is none h = absurd none
all_left (Err NoMemory) (Err e) replies changes s t is none h = absurd cc

-- ---- answers

abbrev pub pages_said : Vec (Vec ℕ Global) Global → List (List ℕ)
pages_said pages = map (λ (page : Vec ℕ Global). page.items) pages.items

abbrev pub bytes_said : Vec ℕ Global → List ℕ
bytes_said reply = reply.items

pub answers_shaped : {X Y : Type 0} (view : X → Y) (shape : X → Answer) (form : Y → AnswerValue) (q : Slots) (r : Result X CallError)
    (meaning : Result Y Refusal) → ((x : X) → answer_shown q (shape x) ≡ form (view x))
    → Answers view r meaning → Answers (answer_shown q) (shaped shape r) (answering form meaning)
answers_shaped view shape form q (Ok x) meaning same h = rw (h, same x) refl
answers_shaped view shape form q (Err (Refused refusal)) meaning same h = rw h refl
answers_shaped view shape form q (Err NoMemory) meaning same h = tt

pub on_answered : {X : Type 0} (r : Result X CallError) (P : Type 0) → P → IfAnswered r P
on_answered (Ok x) P p = p
on_answered (Err (Refused refusal)) P p = p
on_answered (Err NoMemory) P p = tt

pub no_memory_leaves : {X : Type 0} (r : Result X CallError) (P : Type 0) → P → IfNoMemory r P
no_memory_leaves (Ok x) P p = tt
no_memory_leaves (Err (Refused refusal)) P p = tt
no_memory_leaves (Err NoMemory) P p = p

-- what stays where a call is not answered
pub if_no_memory : {X : Type 0} (r : Result X CallError) (P Q : Type 0) → (P → Q) → OnErr r P → IfNoMemory r Q
if_no_memory (Ok x) P Q f p = tt
if_no_memory (Err (Refused refusal)) P Q f p = tt
if_no_memory (Err NoMemory) P Q f p = f p

-- results of an answer, and without one
pub settled_results : {A : Type 0} (limits : LimitsValue) (outcome : Result A CallError) (old kept new : List Blob) →
    IfAnswered outcome (new ≡ kept) → OnErr outcome (new ≡ old) → AreResultsWithin limits old → AreResultsWithin limits kept →
    AreResultsWithin limits new
settled_results limits (Ok x) old kept new h same few few' = subst (AreResultsWithin limits) (sym h) few'
settled_results limits (Err e) old kept new h same few few' = subst (AreResultsWithin limits) (sym same) few

pub both_same : {A : Type 0} (outcome : Result A CallError) (P Q : Type 0) → OnErr outcome (P × Q) → OnErr outcome P
both_same (Ok x) P Q h = tt
both_same (Err e) P Q h = h.0

pub err_both : {A : Type 0} (outcome : Result A CallError) (P Q : Type 0) → OnErr outcome P → Q → OnErr outcome (P × Q)
err_both (Ok x) P Q p q = tt
err_both (Err e) P Q p q = (p, q)

-- nothing changed is nothing seen to change
pub seen_same : {A : Type 0} (outcome : Result A CallError) (results old : List Blob) (p : Slots) (v w : ViewValue) →
    OnErr outcome ((results ≡ old) × (w ≡ v))
    → OnErr outcome ((results ≡ old) × (visible_in p w ≡ visible_in p v))
seen_same (Ok x) results old p v w h = tt
seen_same (Err e) results old p v w h = (h.0, ap (visible_in p) h.1)
