-- What a message of a Write leaves of an instance, and of its call.
use Rattle.std.proofs.Common.{◌≡◌, inl, inr, ℕ, Bool, true, false, cond, is_some, List, [], ◌∷◌, ◌++◌, Option, Some, None, Result, Ok, Err, refl, sym, ap, subst, ◌∙◌}
use Rattle.std.specs.Prelude.{OnOk, OnErr, option_map}
use Rattle.std.specs.declared.alloc.Global.{Global}
use Rattle.std.specs.declared.alloc.AllocError.{AllocError}
use Rattle.std.specs.declared.vec.Vec.{Vec}
use Rattle.rpc.specs.declared.method.Method.{Method}
use Rattle.rpc.specs.declared.method.Method.TheVariants.{Write}
use Rattle.rpc.specs.declared.refusal.Refusal.{Refusal}
use Rattle.blob_pool.specs.Slots.{Slots}
use Rattle.instance_view.specs.Visible.{Blob, visible_text, visible_after_use}
use Rattle.cas_service.specs.Changes.{Use}
use Rattle.instance_view.specs.Shown.{ViewValue, visible_in}
use Rattle.cas_service.specs.declared.error.CallError.{CallError}
use Rattle.cas_service.specs.declared.error.CallError.TheVariants.{Refused, NoMemory}
use Rattle.cas_service.specs.Answers.{Answers, IfAnswered, IfNoMemory}
use Rattle.uploads.specs.Uploads.{UploadList}
use Rattle.bytestream.specs.declared.writing.Written.{Written}
use Rattle.bytestream.specs.Writing as Writing
use Rattle.bytestream.specs.Writing.{OpenWriteValue, PartValue, WrittenValue, FirstAsked, WriteState, first_asked, next_asked, after_part, after_first_asked, after_first, after_next_asked, after_next, IsOldOrTaken, IsFirstOldOrTaken, IsNextOldOrTaken}
use Rattle.instance_core.specs.declared.event.CallId.{CallId}
use Rattle.instance_core.specs.declared.event.Reply.{Reply}
use Rattle.instance_core.specs.Calls.{Calls}
use Rattle.instance_core.specs.State.{InstanceState}
use Rattle.instance_core.specs.Changes.{InstanceChange, Text, Wrote, state_after_changes, MadeInPart}
use Rattle.instance_core.specs.Writes.{write_state, with_part, part_changes, first_part_changes, changes_asked, first_changes, next_changes, first_outcome, next_outcome}
use Rattle.instance_core.specs.Answer.{first_write_answer, next_write_answer, first_message_answer}
use Rattle.instance_core.specs.Shown.{Makes, with_calls}
use Rattle.instance_core.proofs.Parts.{becomes, becomes_same, changed_more}

-- ---- what an answer means

abbrev pub reply_seen : Option (Vec ℕ Global) → Option (List ℕ)
reply_seen o = option_map (λ (reply : Vec ℕ Global). reply.items) o

pub meaning_ok : {X Y : Type 0} (view : X → Y) (r : Result X CallError) (x y : X) (meaning : Result Y Refusal) → r ≡ Ok x → x ≡ y →
    Answers view r meaning → meaning ≡ Ok (view y)
meaning_ok view (Ok z) x y meaning is same h = let e : z ≡ y = cc in rw (← e) h
meaning_ok view (Err e) x y meaning is same h = absurd cc

pub meaning_refused : {X Y : Type 0} (view : X → Y) (r : Result X CallError) (e : CallError) (refusal : Refusal)
    (meaning : Result Y Refusal) → r ≡ Err e → e ≡ Refused refusal → Answers view r meaning → meaning ≡ Err refusal
meaning_refused view (Ok y) e refusal meaning is same h = absurd cc
meaning_refused view (Err (Refused other)) e refusal meaning is same h = let w : other ≡ refusal = cc in rw (← w) h
meaning_refused view (Err NoMemory) e refusal meaning is same h = absurd cc

-- ---- the changes of a message: those of texts and uploads, and then that of its call

pub first_split : (id : CallId) (method : Method) (changes : List InstanceChange) (r : Result WrittenValue Refusal) →
    (first_write_answer id method changes r).changes ≡ changes ++ (first_write_answer id method [] r).changes
first_split id method changes (Ok (Writing.Goes call)) = refl
first_split id method changes (Ok (Writing.Answered reply)) = refl
first_split id method changes (Err refusal) = refl

pub first_replies : (id : CallId) (method : Method) (changes : List InstanceChange) (r : Result WrittenValue Refusal) →
    (first_write_answer id method changes r).replies ≡ (first_write_answer id method [] r).replies
first_replies id method changes (Ok (Writing.Goes call)) = refl
first_replies id method changes (Ok (Writing.Answered reply)) = refl
first_replies id method changes (Err refusal) = refl

append_nil : (cs : List InstanceChange) → cs ≡ cs ++ []
append_nil [] = refl
append_nil (c ∷ cs) = ap (λ (xs : List InstanceChange). c ∷ xs) (append_nil cs)

pub next_split : (id : CallId) (changes : List InstanceChange) (r : Result (Option (List ℕ)) Refusal) →
    (next_write_answer id changes r).changes ≡ changes ++ (next_write_answer id [] r).changes
next_split id changes (Ok None) = append_nil changes
next_split id changes (Ok (Some reply)) = refl
next_split id changes (Err refusal) = refl

pub next_replies : (id : CallId) (changes : List InstanceChange) (r : Result (Option (List ℕ)) Refusal) →
    (next_write_answer id changes r).replies ≡ (next_write_answer id [] r).replies
next_replies id changes (Ok None) = refl
next_replies id changes (Ok (Some reply)) = refl
next_replies id changes (Err refusal) = refl

-- ---- what a message leaves, carried out whole or in part

abbrev leaving : WriteState → InstanceState → InstanceState
leaving w s = becomes w.visible w.uploads s.calls s

first_whole : (s : InstanceState) (message : List ℕ) →
    leaving (after_first s.name s.limits.blobs s.quota s.moment message (write_state s)) s ≡ state_after_changes (first_changes s message) s
first_whole s message = go (first_asked s.name message) where
  seen_or_not : (asked : FirstAsked) (b : Bool) →
      leaving (cond b (record (write_state s) { visible = visible_after_use asked.part.key.digest s.visible })
      (after_part true s.limits.blobs s.quota s.moment asked.part (write_state s))) s
      ≡ state_after_changes (cond b (Text (Use asked.part.key.digest) ∷ []) (part_changes true s asked.part)) s
  seen_or_not asked true = refl
  seen_or_not asked false = refl

  go : (r : Result FirstAsked Refusal) → leaving (after_first_asked s.limits.blobs s.quota s.moment r (write_state s)) s
      ≡ state_after_changes (changes_asked (first_part_changes s) r) s
  go (Ok asked) = seen_or_not asked (is_some (visible_text asked.part.key.digest s.visible))
  go (Err refusal) = refl

next_whole : (s : InstanceState) (write : OpenWriteValue) (message : List ℕ) →
    leaving (after_next write s.limits.blobs s.quota s.moment message (write_state s)) s
    ≡ state_after_changes (next_changes s write message) s
next_whole s write message = go (next_asked write message) where
  go : (r : Result PartValue Refusal) → leaving (after_next_asked s.limits.blobs s.quota s.moment r (write_state s)) s
      ≡ state_after_changes (changes_asked (part_changes false s) r) s
  go (Ok part) = refl
  go (Err refusal) = refl

same_in_part : (s : InstanceState) (changes : List InstanceChange) (uploads : UploadList) → uploads ≡ s.uploads →
    MadeInPart changes s (becomes s.visible uploads s.calls s)
same_in_part s changes uploads same = record {
  made = [];
  left = changes;
  front = refl;
  so_far = ap (λ (u : UploadList). becomes s.visible u s.calls s) same;
}

taken_in_part : (first : Bool) (s : InstanceState) (part : PartValue) (rest : List InstanceChange) (uploads : UploadList) →
    IsOldOrTaken first s.quota s.moment part s.uploads uploads
    → MadeInPart (part_changes first s part ++ rest) s (becomes s.visible uploads s.calls s)
taken_in_part first s part rest uploads (inl same) = same_in_part s (part_changes first s part ++ rest) uploads same
taken_in_part first s part rest uploads (inr taken) = record {
  made = Wrote (with_part first s part) ∷ [];
  left = Wrote (after_part first s.limits.blobs s.quota s.moment part (write_state s)) ∷ rest;
  front = refl;
  so_far = rw taken.0 (ap (λ (u : UploadList). becomes s.visible u s.calls s) taken.1);
}

first_in_part : (s : InstanceState) (message : List ℕ) (rest : List InstanceChange) (uploads : UploadList) →
    IsFirstOldOrTaken s.quota s.moment (first_asked s.name message) (write_state s) uploads
    → MadeInPart (first_changes s message ++ rest) s (becomes s.visible uploads s.calls s)
first_in_part s message rest uploads = go (first_asked s.name message) where
  go : (r : Result FirstAsked Refusal) → IsFirstOldOrTaken s.quota s.moment r (write_state s) uploads →
      MadeInPart (changes_asked (first_part_changes s) r ++ rest) s (becomes s.visible uploads s.calls s)
  go (Ok asked) (inl same) = same_in_part s (first_part_changes s asked ++ rest) uploads same
  go (Ok asked) (inr none) = rw none.0 (taken_in_part true s asked.part rest uploads none.1)
  go (Err refusal) h = same_in_part s rest uploads h

next_in_part : (s : InstanceState) (write : OpenWriteValue) (message : List ℕ) (rest : List InstanceChange) (uploads : UploadList) →
    IsNextOldOrTaken s.quota s.moment (next_asked write message) s.uploads uploads
    → MadeInPart (next_changes s write message ++ rest) s (becomes s.visible uploads s.calls s)
next_in_part s write message rest uploads = go (next_asked write message) where
  go : (r : Result PartValue Refusal) → IsNextOldOrTaken s.quota s.moment r s.uploads uploads →
      MadeInPart (changes_asked (part_changes false s) r ++ rest) s (becomes s.visible uploads s.calls s)
  go (Ok part) h = taken_in_part false s part rest uploads h
  go (Err refusal) h = same_in_part s rest uploads h

-- ---- a message that is answered, or ends for want of memory

answered : (r : Result (Vec Reply Global) AllocError) (s : InstanceState) (changes tail : List InstanceChange) (w : WriteState)
    (visible : List Blob) (uploads : UploadList) (calls : Calls)
    → leaving w s ≡ state_after_changes changes s → visible ≡ w.visible → uploads ≡ w.uploads
    → ((t : InstanceState) → OnOk r (with_calls calls t ≡ state_after_changes tail (with_calls s.calls t))) → OnErr r (calls ≡ s.calls)
    → Makes r (changes ++ tail) s (becomes visible uploads calls s)
answered (Ok x) s changes tail w visible uploads calls left texts ups all same = record {
  whole = becomes_same s visible w.visible uploads w.uploads calls calls texts ups refl ∙ all (leaving w s)
      ∙ ap (state_after_changes tail) left ∙ sym (changed_more changes tail s);
  memory = tt;
}
answered (Err e) s changes tail w visible uploads calls left texts ups all same = record {
  whole = tt;
  memory = record {
    made = changes;
    left = tail;
    front = refl;
    so_far = becomes_same s visible w.visible uploads w.uploads calls s.calls texts ups same ∙ left;
  };
}

written : {A : Type 0} (o : Result A CallError) (r : Result (Vec Reply Global) AllocError) (s : InstanceState)
    (changes tail : List InstanceChange) (w : WriteState) (visible : List Blob) (uploads : UploadList) (calls : Calls)
    → leaving w s ≡ state_after_changes changes s → IfAnswered o (visible ≡ w.visible) → IfAnswered o (uploads ≡ w.uploads)
    → IfNoMemory o (MadeInPart (changes ++ tail) s (becomes visible uploads s.calls s)) → IfNoMemory o (OnOk r ⊥)
    → ((t : InstanceState) → OnOk r (with_calls calls t ≡ state_after_changes tail (with_calls s.calls t))) → OnErr r (calls ≡ s.calls)
    → Makes r (changes ++ tail) s (becomes visible uploads calls s)
written (Ok x) r s changes tail w visible uploads calls left texts ups part none all same =
    answered r s changes tail w visible uploads calls left texts ups all same
written (Err (Refused refusal)) r s changes tail w visible uploads calls left texts ups part none all same =
    answered r s changes tail w visible uploads calls left texts ups all same
written (Err NoMemory) (Ok x) s changes tail w visible uploads calls left texts ups part none all same = absurd none
written (Err NoMemory) (Err e) s changes tail w visible uploads calls left texts ups part none all same = record {
  whole = tt;
  memory = subst (λ (cs : Calls). MadeInPart (changes ++ tail) s (becomes visible uploads cs s)) (sym same) part;
}

-- what a pool shows, where neither it nor the view has changed
shown_part : {A : Type 0} (o : Result A CallError) (p q : Slots) (v w : ViewValue) (s : InstanceState) (changes : List InstanceChange)
    (uploads : UploadList) (P : Type 0)
    → s.visible ≡ visible_in p v → (P → MadeInPart changes s (becomes s.visible uploads s.calls s)) → IfNoMemory o ((w ≡ v) × (q ≡ p) × P) →
    IfNoMemory o (MadeInPart changes s (becomes (visible_in q w) uploads s.calls s))
shown_part (Ok x) p q v w s changes uploads P is f h = tt
shown_part (Err (Refused refusal)) p q v w s changes uploads P is f h = tt
shown_part (Err NoMemory) p q v w s changes uploads P is f h =
    let same : s.visible ≡ visible_in q w = is ∙ sym (ap (λ (x : ViewValue). visible_in p x) h.0)
    ∙ sym (ap (λ (x : Slots). visible_in x w) h.1) in
    subst (λ (bs : List Blob). MadeInPart changes s (becomes bs uploads s.calls s)) same (f h.2)

pub first_done : (o : Result Written CallError) (r : Result (Vec Reply Global) AllocError) (p q : Slots) (v w : ViewValue)
    (s : InstanceState) (id : CallId) (message : List ℕ) (limit : ℕ) (uploads : UploadList) (calls : Calls)
    → limit ≡ s.limits.blobs → s.visible ≡ visible_in p v
    → IfAnswered o (visible_in q w ≡ (after_first s.name limit s.quota s.moment message (write_state s)).visible)
    → IfAnswered o (uploads ≡ (after_first s.name limit s.quota s.moment message (write_state s)).uploads)
    → IfNoMemory o ((w ≡ v) × (q ≡ p) × IsFirstOldOrTaken s.quota s.moment (first_asked s.name message) (write_state s) uploads) →
    IfNoMemory o (OnOk r ⊥)
    → ((t : InstanceState) → OnOk r (with_calls calls t
    ≡ state_after_changes (first_write_answer id Write [] (first_outcome s message)).changes (with_calls s.calls t))) →
    OnErr r (calls ≡ s.calls)
    → Makes r (first_message_answer s id Write message).changes s (becomes (visible_in q w) uploads calls s)
first_done o r p q v w s id message limit uploads calls most is texts ups part none all same =
    let tail = (first_write_answer id Write [] (first_outcome s message)).changes in
    let changes = first_changes s message in
    let P = IsFirstOldOrTaken s.quota s.moment (first_asked s.name message) (write_state s) uploads in
    let here = shown_part o p q v w s (changes ++ tail) uploads P is (first_in_part s message tail uploads) part in
    rw (first_split id Write changes (first_outcome s message))
    (written o r s changes tail (after_first s.name s.limits.blobs s.quota s.moment message (write_state s)) (visible_in q w) uploads calls
    (first_whole s message)
    (subst (λ (n : ℕ). IfAnswered o (visible_in q w ≡ (after_first s.name n s.quota s.moment message (write_state s)).visible)) most texts)
    (subst (λ (n : ℕ). IfAnswered o (uploads ≡ (after_first s.name n s.quota s.moment message (write_state s)).uploads)) most ups)
    here none all same)

pub next_done : (o : Result (Option (Vec ℕ Global)) CallError) (r : Result (Vec Reply Global) AllocError) (p q : Slots) (v w : ViewValue)
    (s : InstanceState) (id : CallId) (call : OpenWriteValue) (message : List ℕ) (limit : ℕ) (uploads : UploadList) (calls : Calls)
    → limit ≡ s.limits.blobs → s.visible ≡ visible_in p v
    → IfAnswered o (visible_in q w ≡ (after_next call limit s.quota s.moment message (write_state s)).visible)
    → IfAnswered o (uploads ≡ (after_next call limit s.quota s.moment message (write_state s)).uploads)
    → IfNoMemory o ((w ≡ v) × (q ≡ p) × IsNextOldOrTaken s.quota s.moment (next_asked call message) s.uploads uploads) →
    IfNoMemory o (OnOk r ⊥)
    → ((t : InstanceState) → OnOk r (with_calls calls t
    ≡ state_after_changes (next_write_answer id [] (next_outcome s call message)).changes (with_calls s.calls t))) →
    OnErr r (calls ≡ s.calls)
    → Makes r (next_write_answer id (next_changes s call message) (next_outcome s call message)).changes s
    (becomes (visible_in q w) uploads calls s)
next_done o r p q v w s id call message limit uploads calls most is texts ups part none all same =
    let tail = (next_write_answer id [] (next_outcome s call message)).changes in
    let changes = next_changes s call message in
    let P = IsNextOldOrTaken s.quota s.moment (next_asked call message) s.uploads uploads in
    let here = shown_part o p q v w s (changes ++ tail) uploads P is (next_in_part s call message tail uploads) part in
    rw (next_split id changes (next_outcome s call message))
    (written o r s changes tail (after_next call s.limits.blobs s.quota s.moment message (write_state s)) (visible_in q w) uploads calls
    (next_whole s call message)
    (subst (λ (n : ℕ). IfAnswered o (visible_in q w ≡ (after_next call n s.quota s.moment message (write_state s)).visible)) most texts)
    (subst (λ (n : ℕ). IfAnswered o (uploads ≡ (after_next call n s.quota s.moment message (write_state s)).uploads)) most ups)
    here none all same)
