-- What a message of a Write is answered, and what it does to an instance (bytestream.proto).
use Rattle.std.specs.Prelude.{ℕ, Bool, true, false, if◌then◌else◌, is_some, List, [], ◌∷◌, Option, Result, Ok, Err}
use Rattle.rpc.specs.declared.refusal.Refusal.{Refusal}
use Rattle.uploads.specs.declared.error.UploadError.{UploadError}
use Rattle.uploads.specs.Writing.{after_piece}
use Rattle.instance_view.specs.Visible.{visible_text}
use Rattle.cas_service.specs.Changes.{Use}
use Rattle.bytestream.specs.Writing.{OpenWriteValue, PartValue, WrittenValue, WriteState, FirstAsked, write_state_with, first_asked, next_asked, part_outcome, first_answer, next_answer, after_part}
use Rattle.instance_core.specs.Changes.{InstanceChange, Text, Wrote}
use Rattle.instance_core.specs.State.{InstanceState}

-- the texts and the uploads of an instance
abbrev pub write_state : InstanceState → WriteState
write_state s = write_state_with s.visible s.uploads

-- ---- a piece that was taken, before its upload ends

abbrev pub with_piece : ℕ → PartValue → Result Unit UploadError → WriteState → WriteState
with_piece moment part (Ok u) w =
    record w { uploads = after_piece moment part.key part.piece (Ok u) w.uploads }
with_piece moment part (Err e) w = w

abbrev pub with_part : Bool → InstanceState → PartValue → WriteState
with_part first s part =
    with_piece s.moment part (part_outcome first s.quota part s.uploads) (write_state s)

-- ---- what a message does: its piece first, and then the end of its upload

abbrev pub part_changes : Bool → InstanceState → PartValue → List InstanceChange
part_changes first s part =
    Wrote (with_part first s part)
    ∷ Wrote (after_part first s.limits.blobs s.quota s.moment part (write_state s)) ∷ []

-- a blob that the instance has is used, and no upload begins
abbrev pub first_part_changes : InstanceState → FirstAsked → List InstanceChange
first_part_changes s asked =
    if is_some (visible_text asked.part.key.digest s.visible)
    then Text (Use asked.part.key.digest) ∷ []
    else part_changes true s asked.part

-- a refused message does nothing
abbrev pub changes_asked : {X : Type 0} → (X → List InstanceChange) → Result X Refusal →
    List InstanceChange
changes_asked changes (Ok x) = changes x
changes_asked changes (Err refusal) = []

abbrev pub first_changes : InstanceState → List ℕ → List InstanceChange
first_changes s message = changes_asked (first_part_changes s) (first_asked s.name message)

abbrev pub next_changes : InstanceState → OpenWriteValue → List ℕ → List InstanceChange
next_changes s write message = changes_asked (part_changes false s) (next_asked write message)

-- ---- what it is answered

abbrev pub first_outcome : InstanceState → List ℕ → Result WrittenValue Refusal
first_outcome s message = first_answer s.name s.quota s.moment (write_state s) message

abbrev pub next_outcome : InstanceState → OpenWriteValue → List ℕ → Result (Option (List ℕ)) Refusal
next_outcome s write message = next_answer write s.quota s.moment s.uploads message
