-- What the code keeps for sending, and what it is seen as through a look-up of the texts of
-- sources.
use Rattle.std.specs.Prelude.{◌≡◌, ◌<◌, ◌≤◌, ◌-◌, ◌^◌, ℕ, true, ◌==◌, if◌then◌else◌, false, List, [], ◌∷◌, ◌++◌, length, map, Option, MatchOption, ◌⊎◌}
use Rattle.std.specs.List.{flat_map, AllByRecursion}
use Rattle.hpack.specs.declared.encoder.Position.{Position}
use Rattle.hpack.specs.declared.encoder.Position.TheVariants.{First}
use Rattle.http2_streams.specs.History.{Entry, live_streams, is_not_closed, is_ended_by_server, has_failed}
use Rattle.http2_streams.specs.LiveStreams.{has_stream}
use Rattle.http2_streams.specs.Standing.{Standing}
use Rattle.http2_streams.specs.StandsFor.{AreStreams}
use Rattle.http2_streams.specs.Rules.{is_live_at}
use Rattle.digest.specs.declared.Digest.{Digest}
use Rattle.grpc_sending.specs.declared.piece.StoredPiece.{StoredPiece}
use Rattle.grpc_sending.specs.declared.piece.StoredPiece.TheVariants.{Encoded, Framed, Ranged}
use Rattle.grpc_sending.specs.declared.queue.StoredQueue.{StoredQueue}
use Rattle.grpc_sending.specs.Pieces.{Piece, Block, Part, Queue, most_read}
use Rattle.grpc_sending.specs.Sources.{count_of, sources_held}
use Rattle.grpc_sending.specs.SortedQueues.{AreSorted}
use Rattle.grpc_sending.specs.Spans.{span_pieces, IsSpan}
use Rattle.grpc_sending.specs.Owed.{OwedItem, Item, Range, pieces_left_on, ranges_left, owed_with_item}
use Rattle.grpc_sending.specs.Pump.{history_after_pump}
use Rattle.grpc_sending.specs.Step.{Rests}
use Rattle.grpc_sending.specs.StandsFor.{Sending, IsSending}

-- the text of each source
abbrev pub SourceTexts : Type 0
SourceTexts = ℕ → List ℕ

pub record StoredSending : Type 0 where
  -- the bytes that were put and not taken
  pub pending : List ℕ
  -- the place of the next header block
  pub position : Position
  -- what is still to be put on each stream
  pub queues : List StoredQueue
  -- sources whose ranges are over, and which were not told yet
  pub spent : List ℕ

abbrev pub new_stored_sending : StoredSending
new_stored_sending = record { pending = []; position = First; queues = []; spent = [] }

-- ---- as it is seen

abbrev pub pieces_in : SourceTexts → StoredPiece → List Piece
pieces_in texts (Encoded block) = Block block ∷ []
pieces_in texts (Framed bytes) = Part bytes [] ∷ []
pieces_in texts (Ranged s) = span_pieces most_read s (texts s.source)

abbrev pub queue_in : SourceTexts → StoredQueue → Queue
queue_in texts q = record { stream = q.stream; pieces = flat_map (pieces_in texts) q.pieces }

abbrev pub sending_in : SourceTexts → StoredSending → Sending
sending_in texts w =
    record { pending = w.pending; position = w.position; queues = map (queue_in texts) w.queues }

-- what is kept stands for a history and for all that was ever owed
abbrev pub IsStoredSending : SourceTexts → StoredSending → List Entry → List OwedItem → Type 0
IsStoredSending texts w d os = IsSending (sending_in texts w) d os

-- ---- sources

-- each source as often as it is held: for a range that is not wholly put, or until it was told to
-- be spent
abbrev pub sources_of : StoredSending → List ℕ
sources_of w = sources_held w.queues ++ w.spent

-- two look-ups have the same text for each of these sources
abbrev pub AgreeOn : List ℕ → SourceTexts → SourceTexts → Type 0
AgreeOn ns texts others = (n : ℕ) → 0 < count_of n ns → texts n ≡ others n

-- .. for each source of a range
abbrev pub AgreeFor : SourceTexts → SourceTexts → StoredSending → Type 0
AgreeFor texts others w = AgreeOn (sources_held w.queues) texts others

-- the same sources are held, each as often
abbrev pub KeepsSources : StoredSending → StoredSending → Type 0
KeepsSources v w = (k : ℕ) → count_of k (sources_of w) ≡ count_of k (sources_of v)

-- each is held fewer times than 64 bits can count
abbrev pub HasFewSources : StoredSending → Type 0
HasFewSources w = (k : ℕ) → count_of k (sources_of w) < 2 ^ 64

-- one more is held
abbrev pub HoldsMore : ℕ → StoredSending → StoredSending → Type 0
HoldsMore n v w = (k : ℕ) → count_of k (sources_of w) ≡ count_of k (n ∷ sources_of v)

-- the last of these is told, if there is one
abbrev pub Tells : Option ℕ → List ℕ → List ℕ → Type 0
Tells o ns ms = MatchOption o (ns ≡ []) (λ n. ns ≡ ms ++ n ∷ [])

-- ---- the queues

abbrev pub stored_on : ℕ → List StoredQueue → List StoredPiece
stored_on s [] = []
stored_on s (q ∷ qs) = if q.stream == s then q.pieces else stored_on s qs

-- each range that is kept ends within the text of its source
abbrev pub EndsWithinText : SourceTexts → StoredPiece → Type 0
EndsWithinText texts (Encoded block) = Unit {0}
EndsWithinText texts (Framed bytes) = Unit {0}
EndsWithinText texts (Ranged s) = IsSpan most_read s (texts s.source)

abbrev pub EndWithinTexts : SourceTexts → List StoredPiece → Type 0
EndWithinTexts texts ps = AllByRecursion (EndsWithinText texts) ps

abbrev pub QueuesEndWithin : SourceTexts → List StoredQueue → Type 0
QueuesEndWithin texts qs = (s : ℕ) → EndWithinTexts texts (stored_on s qs)

-- ---- what a call comes to, whatever the texts are

-- what is kept stands by the one look-up for all that it stands for by the other
abbrev pub StandsAlike : SourceTexts → SourceTexts → StoredSending → Type 0
StandsAlike texts others w =
    (d : List Entry) (os : List OwedItem) → IsStoredSending texts w d os →
    IsStoredSending others w d os

abbrev pub FitsAlike : SourceTexts → SourceTexts → StoredSending → Type 0
FitsAlike texts others w = QueuesEndWithin texts w.queues → QueuesEndWithin others w.queues

-- an entry was added to the history
abbrev pub Enters : StoredSending → Entry → StoredSending → Type 0
Enters v e w =
    (texts : SourceTexts) (d : List Entry) (os : List OwedItem) → IsStoredSending texts v d os →
    IsStoredSending texts w (d ++ e ∷ []) os

-- what was dropped is owed to no live stream: stream s is closed, or the connection met an error
abbrev pub DropsClosed : ℕ → StoredSending → StoredSending → Type 0
DropsClosed s v w =
    (texts : SourceTexts) (d : List Entry) (os : List OwedItem) → is_not_closed d s ≡ false →
    IsStoredSending texts v d os → IsStoredSending texts w d os

abbrev pub DropsAll : StoredSending → StoredSending → Type 0
DropsAll v w =
    (texts : SourceTexts) (d : List Entry) (os : List OwedItem) → has_failed d ≡ true →
    IsStoredSending texts v d os → IsStoredSending texts w d os

-- an item is owed to stream s
abbrev pub Owes : Standing → ℕ → Item → StoredSending → StoredSending → Type 0
Owes streams s item v w =
    (texts : SourceTexts) (d : List Entry) (os : List OwedItem) → AreStreams streams d →
    IsStoredSending texts v d os → IsStoredSending texts w d (owed_with_item d os s item)

-- the text of a source from a place until another is, by whatever digest names it
abbrev pub OwesRange : Standing → ℕ → ℕ → ℕ → ℕ → StoredSending → StoredSending → Type 0
OwesRange streams s source from until v w =
    (texts : SourceTexts) (digest : Digest) (d : List Entry) (os : List OwedItem) →
    AreStreams streams d →
    IsStoredSending texts v d os →
    IsStoredSending texts w d
    (owed_with_item d os s (Range digest (texts source) from (until - from)))

-- all was put that can be
abbrev pub PumpsStreams : SourceTexts → Standing → StoredSending → Standing → Type 0
PumpsStreams texts streams v after =
    (d : List Entry) (os : List OwedItem) → AreStreams streams d → IsStoredSending texts v d os →
    AreStreams after (history_after_pump d os)

abbrev pub PumpsSending : SourceTexts → Standing → StoredSending → StoredSending → Type 0
PumpsSending texts streams v w =
    (d : List Entry) (os : List OwedItem) → AreStreams streams d → IsStoredSending texts v d os →
    IsStoredSending texts w (history_after_pump d os) os

-- nothing more can be put, whatever the texts are
abbrev pub IsAtRest : Standing → StoredSending → Type 0
IsAtRest streams w =
    (texts : SourceTexts) → QueuesEndWithin texts w.queues → Rests streams (sending_in texts w)

-- what is kept for a live stream is what is left of all that was owed to it
abbrev pub KeepsWhatIsLeft : SourceTexts → StoredSending → List Entry → List OwedItem → Type 0
KeepsWhatIsLeft texts w d os =
    IsStoredSending texts w d os → has_failed d ≡ false → (s : ℕ) → is_not_closed d s ≡ true →
    flat_map (pieces_in texts) (stored_on s w.queues) ≡ pieces_left_on d os s

-- nothing is kept but for live streams, and after an error of the connection for none
abbrev pub KeepsForLive : List StoredQueue → List Entry → Type 0
KeepsForLive qs d =
    (s : ℕ) → (has_failed d ≡ true) ⊎ (has_stream (live_streams d) s ≡ false) →
    stored_on s qs ≡ []

-- then the sources that are held are those of the ranges that are not wholly put, each once for
-- each of them, and no other
abbrev pub KeepsRangesLeft : SourceTexts → StoredSending → List Entry → List OwedItem → Type 0
KeepsRangesLeft texts w d os =
    AreSorted w.queues → QueuesEndWithin texts w.queues → KeepsForLive w.queues d →
    IsStoredSending texts w d os → map texts (sources_held w.queues) ≡ ranges_left d os

-- each range that is kept stays within the text of its source
abbrev pub KeepsFit : StoredSending → StoredSending → Type 0
KeepsFit v w =
    (texts : SourceTexts) → QueuesEndWithin texts v.queues → QueuesEndWithin texts w.queues

-- where the text of a source goes on until there
abbrev pub KeepsFitWith : ℕ → ℕ → StoredSending → StoredSending → Type 0
KeepsFitWith source until v w =
    (texts : SourceTexts) → until ≤ length (texts source) →
    QueuesEndWithin texts v.queues → QueuesEndWithin texts w.queues

-- where nothing is kept for a stream nothing is kept after the call
abbrev pub AddsNothing : StoredSending → StoredSending → Type 0
AddsNothing v w = (s : ℕ) → stored_on s v.queues ≡ [] → stored_on s w.queues ≡ []

-- .. but for a live stream, where no error of the connection was met
abbrev pub AddsToLive : Standing → StoredSending → StoredSending → Type 0
AddsToLive streams v w =
    (s : ℕ) → (streams.failed ≡ true) ⊎ (is_live_at streams s ≡ false) →
    stored_on s v.queues ≡ [] → stored_on s w.queues ≡ []

-- nothing is kept for a stream that the server ended, which is closed
abbrev pub ForgetsEnded : List StoredQueue → List Entry → Type 0
ForgetsEnded qs d =
    (s : ℕ) → is_ended_by_server d s ≡ true → (is_not_closed d s ≡ false) × (stored_on s qs ≡ [])

-- .. after the pump, too
abbrev pub PumpsEnded : SourceTexts → Standing → StoredSending → StoredSending → Type 0
PumpsEnded texts streams v w =
    (d : List Entry) (os : List OwedItem) → AreStreams streams d → IsStoredSending texts v d os →
    ForgetsEnded v.queues d → ForgetsEnded w.queues (history_after_pump d os)

-- ---- for the code alone: no public contract speaks of what follows

-- ---- changes of the queues

-- ---- whose turn it is
