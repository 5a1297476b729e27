-- What any front of an event's changes leaves: a blob that is gone had no room.
use Rattle.std.proofs.Common.{◌≡◌, ◌<◌, ℕ, Bool, true, false, cond, List, [], ◌∷◌, ◌++◌, map, take, refl, sym, ap, ◌∙◌, subst, inl, inr}
use Rattle.std.specs.Prelude.{◌⊎◌, Option, Some, None, Result, Ok, Err, Contains}
use Rattle.std.specs.List.{AllByRecursion}
use Rattle.std.specs.Map.{keys_of}
use Rattle.rpc.specs.declared.method.Method.{Method}
use Rattle.rpc.specs.declared.method.Method.TheVariants as Called
use Rattle.rpc.specs.declared.refusal.Refusal.{Refusal}
use Rattle.digest.specs.declared.Digest.{Digest}
use Rattle.digest.specs.Naming.{Names}
use Rattle.instance_view.specs.Visible.{Blob}
use Rattle.cas_service.specs.Changes as Texts
use Rattle.quota_evict.specs.Admission.{visible_after_admission}
use Rattle.quota_evict.specs.Within.{AreBlobsWithin}
use Rattle.quota_evict.proofs.Limits.{used_within, admitted_within}
use Rattle.uploads.specs.declared.error.UploadError.{UploadError}
use Rattle.uploads.specs.Uploads.{KeyValue, text_so_far}
use Rattle.uploads.specs.Writing.{finish_answer, after_piece}
use Rattle.bytestream.specs.Writing.{PartValue, WriteState, part_outcome, after_last_part, after_end, after_taking, after_part}
use Rattle.job_queue.specs.Jobs.{running_job}
use Rattle.execution.specs.Job.{JobValue}
use Rattle.execution.specs.Execute as Executor
use Rattle.execution.specs.Execute.{ExecuteChange}
use Rattle.execution.specs.Steps.{StepValue}
use Rattle.run_calls.specs.Outcomes.{OutcomeValue}
use Rattle.execution.specs.Asking.{ExecuteAskedValue, execute_asked}
use Rattle.outcomes.specs.Ending.{admissions, results_with}
use Rattle.instance_core.specs.declared.event.CallId.{CallId}
use Rattle.instance_core.specs.Calls.{ProgressValue, waits, has, writes, watches, CallEventValue, head, message, fault, end, cancel, tick, start_jobs, end_late_jobs, end_job}
use Rattle.instance_core.specs.State.{InstanceState}
use Rattle.instance_core.specs.Changes.{InstanceChange, Text, Goes, Ends, Wrote, Keeps, Expires, Does, Pushes, Settles, state_after_change, state_after_changes, MadeInPart}
use Rattle.instance_core.specs.Methods.{answer_to, executed, execution_change, execution_changes}
use Rattle.instance_core.specs.Writes.{write_state, with_piece, with_part}
use Rattle.instance_core.specs.Answer.{answer, ending_at, ending_changes, ending_steps}
use Rattle.instance_core.specs.Named.{StoresNamedText}
use Rattle.instance_core.specs.Room.{digests_touched, all_touched, IsOneOf, HadNoRoom, LosesForRoom}
use Rattle.instance_core.proofs.NamedTexts.{all_append}
use Rattle.instance_core.proofs.WholeJobs.{each_among}
use Rattle.instance_core.proofs.WriteLimits.{finish_names}
use Rattle.instance_core.proofs.ChangesHeld.{Allows, AllAre, ExecutesHold, EndsHold, HoldsBeside, texts_hold, call_holds, answer_holds, first_by, next_by}
use Rattle.instance_core.proofs.Outputs.{ending_stores}
use Rattle.instance_core.proofs.Room.{Behind, Stays, KnowsFirst, behind_front, behind_there, used_behind, admitted_stays}

-- ---- what a change does to the texts

-- a text was admitted under the digest that names it
pub record IsAdmitted (limit quota : ℕ) (old new : List Blob) : Type 0 where
  digest : Digest
  text : List ℕ
  named : Names digest text
  is : new ≡ visible_after_admission limit quota digest text old

-- of an event of an instance that had these texts before it
abbrev MovesTexts : ℕ → ℕ → List Blob → InstanceChange → Type 0
MovesTexts limit quota old (Text c) = StoresNamedText c
MovesTexts limit quota old (Wrote w) = (w.visible ≡ old) ⊎ IsAdmitted limit quota old w.visible
MovesTexts limit quota old (Goes id call) = Unit {0}
MovesTexts limit quota old (Ends id) = Unit {0}
MovesTexts limit quota old (Keeps results) = Unit {0}
MovesTexts limit quota old Expires = Unit {0}
MovesTexts limit quota old (Does operation) = Unit {0}
MovesTexts limit quota old (Pushes job) = Unit {0}
MovesTexts limit quota old (Settles steps) = Unit {0}

abbrev Moves : InstanceState → InstanceChange → Type 0
Moves s c = MovesTexts s.limits.blobs s.quota s.visible c

-- ---- a message of a Write

abbrev MovesWritten : ℕ → ℕ → List Blob → WriteState → Type 0
MovesWritten limit quota old w = (w.visible ≡ old) ⊎ IsAdmitted limit quota old w.visible

finished_moves : (limit quota : ℕ) (key : KeyValue) (w : WriteState) (r : Result Unit UploadError) → r ≡ finish_answer key w.uploads →
    MovesWritten limit quota w.visible (after_last_part limit quota key r w)
finished_moves limit quota key w (Ok u) is = inr
    (record { digest = key.digest; text = text_so_far key w.uploads; named = finish_names key w.uploads u is; is = refl })
finished_moves limit quota key w (Err e) is = inl refl

end_moves : (limit quota : ℕ) (part : PartValue) (w : WriteState) → MovesWritten limit quota w.visible (after_end limit quota part w)
end_moves limit quota part w = go part.is_last where
  go : (last : Bool) → MovesWritten limit quota w.visible
      (cond last (after_last_part limit quota part.key (finish_answer part.key w.uploads) w) w)
  go true = finished_moves limit quota part.key w (finish_answer part.key w.uploads) refl
  go false = inl refl

taking_moves : (limit quota moment : ℕ) (part : PartValue) (w : WriteState) (r : Result Unit UploadError) →
    MovesWritten limit quota w.visible (after_taking limit quota moment part r w)
taking_moves limit quota moment part w (Ok u) =
    end_moves limit quota part (record w { uploads = after_piece moment part.key part.piece (Ok u) w.uploads })
taking_moves limit quota moment part w (Err e) = inl refl

whole_moves : (first : Bool) (s : InstanceState) (part : PartValue) →
    MovesWritten s.limits.blobs s.quota s.visible (after_part first s.limits.blobs s.quota s.moment part (write_state s))
whole_moves first s part = taking_moves s.limits.blobs s.quota s.moment part (write_state s) (part_outcome first s.quota part s.uploads)

piece_moves : (first : Bool) (s : InstanceState) (part : PartValue) → MovesWritten s.limits.blobs s.quota s.visible (with_part first s part)
piece_moves first s part = go (part_outcome first s.quota part s.uploads) where
  go : (r : Result Unit UploadError) → MovesWritten s.limits.blobs s.quota s.visible (with_piece s.moment part r (write_state s))
  go (Ok u) = inl refl
  go (Err e) = inl refl

-- ---- all changes of an event

moves_allow : (s : InstanceState) → Allows s (Moves s)
moves_allow s = record {
  texts = λ c named. named;
  begun = λ id method. tt;
  written = λ id method write below. tt;
  ended = λ id. tt;
  expired = tt;
  moved = λ message. tt;
  sent = λ message. tt;
  first = λ bytes. first_by s (Moves s) (λ d. tt) (λ part. (piece_moves true s part, whole_moves true s part)) bytes;
  next = λ write bytes. next_by s (Moves s) (λ part. (piece_moves false s part, whole_moves false s part)) write bytes;
}

execution_moves : (s : InstanceState) (changes : List ExecuteChange) → AllAre (Moves s) (map execution_change changes)
execution_moves s [] = tt
execution_moves s (Executor.Uses d ∷ changes) = (tt, execution_moves s changes)
execution_moves s (Executor.Keeps results ∷ changes) = (tt, execution_moves s changes)
execution_moves s (Executor.Does operation ∷ changes) = (tt, execution_moves s changes)
execution_moves s (Executor.Pushes job ∷ changes) = (tt, execution_moves s changes)

executed_moves : (s : InstanceState) (r : Result ExecuteAskedValue Refusal) → AllAre (Moves s) (execution_changes s r)
executed_moves s (Ok asked) = execution_moves s (executed s asked).changes
executed_moves s (Err refusal) = tt

method_moves : (s : InstanceState) (method : Method) (request : List ℕ) → ExecutesHold (Moves s) s method request
method_moves s Called.Execute request = executed_moves s (execute_asked s.name request)
method_moves s method request = tt

call_moves : (s : InstanceState) (id : CallId) (method : Method) (p : ProgressValue) → EndsHold (Moves s) s id method p
call_moves s id method (has request) = (
  method_moves s method request,
  call_holds (Moves s) id method (answer_to method s request)
      (λ n. tt) tt,
)
call_moves s id method waits = tt
call_moves s id method (writes write) = tt
call_moves s id method (watches n) = tt

end_job_moves : (s : InstanceState) (outcome : OutcomeValue) (o : Option JobValue) (steps : List StepValue) →
    AllAre (Moves s) (ending_changes s outcome o ++ Settles steps ∷ [])
end_job_moves s outcome None steps = (tt, tt)
end_job_moves s outcome (Some job) steps =
    all_append (Moves s) (ending_changes s outcome (Some job)) (Settles steps ∷ [])
    (all_append (Moves s) (map Text (admissions (ending_at s outcome job).blobs))
    (Keeps (results_with s.limits job.action (ending_at s outcome job).stored s.results) ∷ [])
    (texts_hold s (Moves s) (moves_allow s) (admissions (ending_at s outcome job).blobs) (ending_stores s.quota s.visible job outcome))
    (tt, tt))
    (tt, tt)

moves_beside : (s : InstanceState) (event : CallEventValue) → HoldsBeside (Moves s) s event
moves_beside s (message id bytes) = λ method other. tt
moves_beside s (head id method) = tt
moves_beside s (fault id refusal) = tt
moves_beside s (end id) = λ call. call_moves s id call.method call.progress
moves_beside s (cancel id) = tt
moves_beside s tick = tt
moves_beside s start_jobs = (tt, tt)
moves_beside s end_late_jobs = (tt, tt)
moves_beside s (end_job n outcome) = end_job_moves s outcome (running_job n s.jobs) (ending_steps s n outcome (running_job n s.jobs))

answer_moves : (s : InstanceState) (event : CallEventValue) → AllAre (Moves s) (answer s event).changes
answer_moves s event = answer_holds s (Moves s) (moves_allow s) event (moves_beside s event)

-- ---- one change after another

abbrev texts_after : ℕ → ℕ → List InstanceChange → List Blob → List Blob
texts_after limit quota [] xs = xs
texts_after limit quota (Text c ∷ cs) xs = texts_after limit quota cs (Texts.visible_after_change limit quota c xs)
texts_after limit quota (Wrote w ∷ cs) xs = texts_after limit quota cs w.visible
texts_after limit quota (Goes id call ∷ cs) xs = texts_after limit quota cs xs
texts_after limit quota (Ends id ∷ cs) xs = texts_after limit quota cs xs
texts_after limit quota (Keeps results ∷ cs) xs = texts_after limit quota cs xs
texts_after limit quota (Expires ∷ cs) xs = texts_after limit quota cs xs
texts_after limit quota (Does operation ∷ cs) xs = texts_after limit quota cs xs
texts_after limit quota (Pushes job ∷ cs) xs = texts_after limit quota cs xs
texts_after limit quota (Settles steps ∷ cs) xs = texts_after limit quota cs xs

texts_are : (cs : List InstanceChange) (s : InstanceState) →
    (state_after_changes cs s).visible ≡ texts_after s.limits.blobs s.quota cs s.visible
texts_are [] s = refl
texts_are (Text c ∷ cs) s = texts_are cs (state_after_change (Text c) s)
texts_are (Wrote w ∷ cs) s = texts_are cs (state_after_change (Wrote w) s)
texts_are (Goes id call ∷ cs) s = texts_are cs (state_after_change (Goes id call) s)
texts_are (Ends id ∷ cs) s = texts_are cs (state_after_change (Ends id) s)
texts_are (Keeps results ∷ cs) s = texts_are cs (state_after_change (Keeps results) s)
texts_are (Expires ∷ cs) s = texts_are cs (state_after_change Expires s)
texts_are (Does operation ∷ cs) s = texts_are cs (state_after_change (Does operation) s)
texts_are (Pushes job ∷ cs) s = texts_are cs (state_after_change (Pushes job) s)
texts_are (Settles steps ∷ cs) s = texts_are cs (state_after_change (Settles steps) s)

-- the instance is within its limits, and the blob stands in it behind those that may stand there
pub record Holds (limit quota : ℕ) (ds : List Digest) (b : Blob) (xs : List Blob) : Type 0 where
  pub some : 0 < limit
  pub within : AreBlobsWithin limit quota xs
  pub stays : Stays limit quota ds b xs

text_holds : (limit quota : ℕ) (ds : List Digest) (b : Blob) (c : Texts.TextChange) (xs : List Blob) → StoresNamedText c →
    AllByRecursion (IsOneOf ds) (digests_touched (Text c)) → Holds limit quota ds b xs →
    Holds limit quota ds b (Texts.visible_after_change limit quota c xs)
text_holds limit quota ds b (Texts.Use d) xs named one h =
    record { some = h.some; within = used_within limit quota d xs h.within; stays = go h.stays } where
      go : Stays limit quota ds b xs → Stays limit quota ds b (Texts.visible_after_change limit quota (Texts.Use d) xs)
      go (inl there) = inl (used_behind ds d b xs (inl one.0) there)
      go (inr lost) = inr lost
text_holds limit quota ds b (Texts.Store d text) xs named one h =
    record { some = h.some; within = admitted_within limit quota d text xs h.some named h.within; stays = go h.stays } where
      go : Stays limit quota ds b xs → Stays limit quota ds b (Texts.visible_after_change limit quota (Texts.Store d text) xs)
      go (inl there) = admitted_stays limit quota ds d text b xs h.within named (inl one.0) there
      go (inr lost) = inr lost

-- what a Write leaves is made of the texts before the event
written_holds : (limit quota : ℕ) (ds : List Digest) (b : Blob) (old new : List Blob) →
    MovesTexts limit quota old (Wrote (record { visible = new; uploads = [] })) → AllByRecursion (IsOneOf ds) (keys_of (take 1 new)) →
    Holds limit quota ds b old → Holds limit quota ds b new
written_holds limit quota ds b old new (inl is) first h = subst (Holds limit quota ds b) (sym is) h
written_holds limit quota ds b old new (inr a) first h = subst (Holds limit quota ds b) (sym a.is) (record {
  some = h.some;
  within = admitted_within limit quota a.digest a.text old h.some a.named h.within;
  stays = go h.stays;
})
  where
    known : KnowsFirst ds a.digest (visible_after_admission limit quota a.digest a.text old)
    known = inr (subst (λ (xs : List Blob). AllByRecursion (IsOneOf ds) (keys_of (take 1 xs))) a.is first)

    go : Stays limit quota ds b old → Stays limit quota ds b (visible_after_admission limit quota a.digest a.text old)
    go (inl there) = admitted_stays limit quota ds a.digest a.text b old h.within a.named known there
    go (inr lost) = inr lost

pub of_both : (P : Digest → Type 0) (xs ys : List Digest) → AllByRecursion P (xs ++ ys) → AllByRecursion P xs × AllByRecursion P ys
of_both P [] ys h = (tt, h)
of_both P (x ∷ xs) ys h = let more = of_both P xs ys h.1 in ((h.0, more.0), more.1)

made_holds : (limit quota : ℕ) (ds : List Digest) (b : Blob) (old : List Blob) → Holds limit quota ds b old →
    (cs : List InstanceChange) (xs : List Blob) → AllAre (MovesTexts limit quota old) cs → AllByRecursion (IsOneOf ds) (all_touched cs) →
    Holds limit quota ds b xs → Holds limit quota ds b (texts_after limit quota cs xs)
made_holds limit quota ds b old start [] xs moves one h = h
made_holds limit quota ds b old start (Text c ∷ cs) xs moves one h =
    let parts = of_both (IsOneOf ds) (digests_touched (Text c)) (all_touched cs) one in
    made_holds limit quota ds b old start cs (Texts.visible_after_change limit quota c xs) moves.1 parts.1
    (text_holds limit quota ds b c xs moves.0 parts.0 h)
made_holds limit quota ds b old start (Wrote w ∷ cs) xs moves one h =
    let parts = of_both (IsOneOf ds) (digests_touched (Wrote w)) (all_touched cs) one in
    made_holds limit quota ds b old start cs w.visible moves.1 parts.1 (written_holds limit quota ds b old w.visible moves.0 parts.0 start)
made_holds limit quota ds b old start (Goes id call ∷ cs) xs moves one h = made_holds limit quota ds b old start cs xs moves.1 one h
made_holds limit quota ds b old start (Ends id ∷ cs) xs moves one h = made_holds limit quota ds b old start cs xs moves.1 one h
made_holds limit quota ds b old start (Keeps results ∷ cs) xs moves one h = made_holds limit quota ds b old start cs xs moves.1 one h
made_holds limit quota ds b old start (Expires ∷ cs) xs moves one h = made_holds limit quota ds b old start cs xs moves.1 one h
made_holds limit quota ds b old start (Does operation ∷ cs) xs moves one h = made_holds limit quota ds b old start cs xs moves.1 one h
made_holds limit quota ds b old start (Pushes job ∷ cs) xs moves one h = made_holds limit quota ds b old start cs xs moves.1 one h
made_holds limit quota ds b old start (Settles steps ∷ cs) xs moves one h = made_holds limit quota ds b old start cs xs moves.1 one h

changes_front : (P : InstanceChange → Type 0) (made left : List InstanceChange) → AllAre P (made ++ left) → AllAre P made
changes_front P [] left h = tt
changes_front P (c ∷ made) left h = (h.0, changes_front P made left h.1)

-- ---- an event

-- after a front of its changes
pub part_holds : (s t : InstanceState) (event : CallEventValue) (ds : List Digest) (b : Blob)
    (part : MadeInPart (answer s event).changes s t) → AllByRecursion (IsOneOf ds) (all_touched part.made) →
    Holds s.limits.blobs s.quota ds b s.visible → Holds s.limits.blobs s.quota ds b t.visible
part_holds s t event ds b part one start =
    let moves : AllAre (Moves s) part.made = changes_front (Moves s) part.made part.left
    (subst (AllAre (Moves s)) part.front (answer_moves s event)) in
    let are : t.visible ≡ texts_after s.limits.blobs s.quota part.made s.visible =
    ap (λ (x : InstanceState). x.visible) part.so_far ∙ texts_are part.made s in
    subst (Holds s.limits.blobs s.quota ds b) (sym are)
    (made_holds s.limits.blobs s.quota ds b s.visible start part.made s.visible moves one start)

-- a blob that is no more there had no room
pub lost_for_room : (limit quota : ℕ) (ds : List Digest) (b : Blob) (xs : List Blob) → Stays limit quota ds b xs → (Contains xs b → ⊥) →
    HadNoRoom limit quota ds b
lost_for_room limit quota ds b xs (inl there) gone = absurd (gone (behind_there ds b xs there))
lost_for_room limit quota ds b xs (inr lost) gone = lost

pub begins_behind : (ds : List Digest) (front back : List Blob) (b : Blob) → Behind (keys_of front ++ ds) b (front ++ b ∷ back)
begins_behind ds front back b =
    behind_front (keys_of front ++ ds) front back b
    (of_both (IsOneOf (keys_of front ++ ds)) (keys_of front) ds (each_among (keys_of front ++ ds))).0

-- at the beginning it stands behind those that stand before it
pub loses_from : (limit quota : ℕ) (ds : List Digest) (old new : List Blob) → 0 < limit → AreBlobsWithin limit quota old
    → ((all : List Digest) (b : Blob) → AllByRecursion (IsOneOf all) ds → Holds limit quota all b old → Holds limit quota all b new) →
    LosesForRoom limit quota ds old new
loses_from limit quota ds old new some within holds = λ front back b is gone.
    let all : List Digest = keys_of front ++ ds in
    let one : AllByRecursion (IsOneOf all) ds = (of_both (IsOneOf all) (keys_of front) ds (each_among all)).1 in
    let stays : Stays limit quota all b old = inl (subst (Behind all b) (sym is) (begins_behind ds front back b)) in
    lost_for_room limit quota all b new (holds all b one (record { some = some; within = within; stays = stays })).stays gone

-- of a front of changes are those that it touched
pub touched_front : (P : Digest → Type 0) (made left : List InstanceChange) → AllByRecursion P (all_touched (made ++ left)) →
    AllByRecursion P (all_touched made)
touched_front P [] left h = tt
touched_front P (c ∷ made) left h =
    let parts = of_both P (digests_touched c) (all_touched (made ++ left)) h in
    all_append P (digests_touched c) (all_touched made) parts.0 (touched_front P made left parts.1)

pub part_loses : (s t : InstanceState) (event : CallEventValue) (part : MadeInPart (answer s event).changes s t) → 0 < s.limits.blobs →
    AreBlobsWithin s.limits.blobs s.quota s.visible → LosesForRoom s.limits.blobs s.quota (all_touched part.made) s.visible t.visible
part_loses s t event part some within =
    loses_from s.limits.blobs s.quota (all_touched part.made) s.visible t.visible some within
    (λ ds b one start. part_holds s t event ds b part one start)
