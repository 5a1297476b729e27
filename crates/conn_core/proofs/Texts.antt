-- What more of a call's text brings, by what is kept of its front.
use Rattle.std.proofs.Common.{◌≡◌, ℕ, List, [], ◌∷◌, ◌++◌, length, drop, refl, ap, ◌∙◌, sym}
use Rattle.std.specs.Prelude.{Bool, map, Result, Ok, Err}
use Rattle.http2_frames.specs.Items.{behind, divide_left}
use Rattle.http2_frames.proofs.WireItemsDivisions.{continues, divide_partial}
use Rattle.grpc_messages.specs.declared.error.MessagesError.{MessagesError}
use Rattle.grpc_messages.specs.Wire.{Split}
use Rattle.grpc_messages.specs.Reading.{message_format, split}
use Rattle.grpc_messages.specs.Reader.{split_left, with_more_bytes, bytes_left, AreMessages}
use Rattle.grpc_messages.proofs.Fronts.{steady}
use Rattle.grpc_messages.proofs.Steps.{left_now}
use Rattle.conn_core.specs.declared.event.CallEvent.TheVariants.{Message}
use Rattle.conn_core.specs.Calls.{message_limit, messages_of, events_behind_messages, events_behind_front, events_by_end, events_of_content}

abbrev Kept : Type 0
Kept = Result (List ℕ) MessagesError

-- what stands behind the whole messages of a text stands for it
pub stands_behind : (limit : ℕ) (t : List ℕ) → AreMessages limit (split limit t).end t (split limit t).items
stands_behind limit t more = continues (message_format limit) (steady limit) t more
    ∙ ap (behind (split limit t).items) (same (split limit t).end) where
      same : (end : Kept) → divide_left (message_format limit) end more ≡ split_left limit (with_more_bytes end more)
      same (Ok rest) = refl
      same (Err e) = refl

-- ---- a reader that was asked until no message was whole, or a fault was met

-- where the text ends with a rest, that is what is kept
pub rest_is : (limit : ℕ) (m : Kept) (t : List ℕ) (gs : List (List ℕ)) → AreMessages limit m t gs →
    split limit t ≡ record { items = gs; end = Ok (bytes_left m) } → m ≡ (split limit t).end
rest_is limit (Ok bytes) t gs stands e = sym (ap (λ (s : Split). s.end) e)
rest_is limit (Err d) t gs stands e =
    let now = left_now limit (Err d) t gs stands in
    sym (ap (λ (s : Split). s.end) now)

-- ---- the events

pub all_new : (limit : ℕ) (u : List ℕ) (before ms : List (List ℕ)) → (split limit u).items ≡ before ++ ms →
    drop (length before) (split limit u).items ≡ ms
all_new limit u before ms h = ap (drop (length before)) h ∙ dropped before ms where
  dropped : (xs ys : List (List ℕ)) → drop (length xs) (xs ++ ys) ≡ ys
  dropped [] ys = refl
  dropped (x ∷ xs) ys = dropped xs ys

pub no_more : (s : ℕ) (t content : List ℕ) (end_stream : Bool) (e : MessagesError) → (messages_of t).end ≡ Err e →
    events_of_content s t content end_stream ≡ []
no_more s t content end_stream e h =
    ap (λ (r : Kept). events_by_end r (events_behind_front s end_stream (length (messages_of t).items) (messages_of (t ++ content)))) h

pub more_is : (s : ℕ) (t content rest : List ℕ) (end_stream : Bool) (ms : List (List ℕ)) → (messages_of t).end ≡ Ok rest →
    (messages_of (t ++ content)).items ≡ (messages_of t).items ++ ms →
    events_of_content s t content end_stream ≡ map (Message s) ms ++ events_behind_messages s end_stream (messages_of (t ++ content)).end
more_is s t content rest end_stream ms h all =
    ap (λ (r : Kept). events_by_end r (events_behind_front s end_stream (length (messages_of t).items) (messages_of (t ++ content)))) h
    ∙ ap (λ (xs : List (List ℕ)). map (Message s) xs ++ events_behind_messages s end_stream (messages_of (t ++ content)).end)
    (all_new message_limit (t ++ content) (messages_of t).items ms all)

-- of no text nothing is kept
pub nothing_kept : (messages_of []).end ≡ Ok []
nothing_kept = ap (λ (s : Split). s.end) (divide_partial (message_format message_limit) (steady message_limit) [] refl)
