-- Two look-ups that have the same texts of the sources of ranges.
use Rattle.std.proofs.Common.{◌≡◌, ℕ, ◌+◌, List, [], ◌∷◌, ◌++◌, refl, ap, ◌∙◌, subst, arith, inl, inr}
use Rattle.std.specs.Prelude.{true, ◌==◌, cond, map}
use Rattle.std.specs.List.{flat_map}
use Rattle.std.proofs.lemmas.Bool.{cases_Bool}
use Rattle.std.proofs.lemmas.Bool.Decides.{nat_tests}
use Rattle.http2_streams.specs.History.{Entry}
use Rattle.grpc_sending.specs.declared.piece.StoredPiece.{StoredPiece}
use Rattle.grpc_sending.specs.declared.piece.StoredPiece.TheVariants.{Encoded, Framed, Ranged}
use Rattle.grpc_sending.specs.declared.queue.StoredQueue.{StoredQueue}
use Rattle.grpc_sending.specs.Pieces.{Piece, Block, Part, Queue, most_read}
use Rattle.grpc_sending.specs.Owed.{OwedItem}
use Rattle.grpc_sending.specs.Spans.{IsSpan, span_pieces}
use Rattle.grpc_sending.specs.StandsFor.{IsSending}
use Rattle.grpc_sending.specs.Sources.{count_of, sources_in, sources_held}
use Rattle.grpc_sending.specs.StoredSending.{SourceTexts, StoredSending, IsStoredSending, EndWithinTexts, QueuesEndWithin, AgreeOn, pieces_in, queue_in, stored_on}
use Rattle.grpc_sending.proofs.Sources.{sum_append}

pub count_append : (n : ℕ) (ms ns : List ℕ) → count_of n (ms ++ ns) ≡ count_of n ms + count_of n ns
count_append n ms ns = sum_append (λ m. cond (n == m) 1 0) ms ns

pub agree_left : (texts others : SourceTexts) (ms ns : List ℕ) → AgreeOn (ms ++ ns) texts others → AgreeOn ms texts others
agree_left texts others ms ns h n some = h n (omega (arith, some, count_append n ms ns))

pub agree_right : (texts others : SourceTexts) (ms ns : List ℕ) → AgreeOn (ms ++ ns) texts others → AgreeOn ns texts others
agree_right texts others ms ns h n some = h n (omega (arith, some, count_append n ms ns))

pub agree_first : (texts others : SourceTexts) (n : ℕ) (ns : List ℕ) → AgreeOn (n ∷ ns) texts others → texts n ≡ others n
agree_first texts others n ns h =
    let same : (n == n) ≡ true = grind (arith, nat_tests) in
    let one : cond {A = ℕ} (n == n) 1 0 ≡ 1 = ap (λ b. cond b 1 0) same in
    h n (omega (arith, one))

pub same_shown : (texts others : SourceTexts) (ps : List StoredPiece) → AgreeOn (sources_in ps) texts others →
    flat_map (pieces_in texts) ps ≡ flat_map (pieces_in others) ps
same_shown texts others [] h = refl
same_shown texts others (Encoded block ∷ ps) h = ap (λ (qs : List Piece). Block block ∷ qs) (same_shown texts others ps h)
same_shown texts others (Framed bytes ∷ ps) h = ap (λ (qs : List Piece). Part bytes [] ∷ qs) (same_shown texts others ps h)
same_shown texts others (Ranged s ∷ ps) h =
    ap (λ (text : List ℕ). span_pieces most_read s text ++ flat_map (pieces_in texts) ps)
    (agree_first texts others s.source (sources_in ps) h)
    ∙ ap (λ (qs : List Piece). span_pieces most_read s (others s.source) ++ qs)
    (same_shown texts others ps (agree_right texts others (s.source ∷ []) (sources_in ps) h))

same_queues : (texts others : SourceTexts) (qs : List StoredQueue) → AgreeOn (sources_held qs) texts others →
    map (queue_in texts) qs ≡ map (queue_in others) qs
same_queues texts others [] h = refl
same_queues texts others (q ∷ qs) h =
    ap (λ (ps : List Piece). record { stream = q.stream; pieces = ps } ∷ map (queue_in texts) qs)
    (same_shown texts others q.pieces (agree_left texts others (sources_in q.pieces) (sources_held qs) h))
    ∙ ap (λ (rs : List Queue). queue_in others q ∷ rs)
    (same_queues texts others qs (agree_right texts others (sources_in q.pieces) (sources_held qs) h))

pub stands_agreed : (texts others : SourceTexts) (w : StoredSending) (d : List Entry) (os : List OwedItem) →
    AgreeOn (sources_held w.queues) texts others → IsStoredSending texts w d os → IsStoredSending others w d os
stands_agreed texts others w d os h st = subst
    (λ (qs : List Queue). IsSending (record { pending = w.pending; position = w.position; queues = qs }) d os)
    (same_queues texts others w.queues h) st

-- ---- ranges within their texts

fit_pieces : (texts others : SourceTexts) (ps : List StoredPiece) → AgreeOn (sources_in ps) texts others → EndWithinTexts texts ps →
    EndWithinTexts others ps
fit_pieces texts others [] h fit = fit
fit_pieces texts others (Encoded block ∷ ps) h fit = (tt, fit_pieces texts others ps h fit.1)
fit_pieces texts others (Framed bytes ∷ ps) h fit = (tt, fit_pieces texts others ps h fit.1)
fit_pieces texts others (Ranged s ∷ ps) h fit = (
  subst (λ (text : List ℕ). IsSpan most_read s text)
      (agree_first texts others s.source (sources_in ps) h) fit.0,
  fit_pieces texts others ps
      (agree_right texts others (s.source ∷ []) (sources_in ps) h) fit.1,
)

agree_on : (texts others : SourceTexts) (s : ℕ) (qs : List StoredQueue) → AgreeOn (sources_held qs) texts others →
    AgreeOn (sources_in (stored_on s qs)) texts others
agree_on texts others s [] h = h
agree_on texts others s (q ∷ qs) h = elim (cases_Bool (q.stream == s)) [
  | inl here ↦ rw here (agree_left texts others (sources_in q.pieces) (sources_held qs) h)
  | inr later ↦ rw later (agree_on texts others s qs (agree_right texts others (sources_in q.pieces) (sources_held qs) h))
]

pub fit_agreed : (texts others : SourceTexts) (w : StoredSending) → AgreeOn (sources_held w.queues) texts others →
    QueuesEndWithin texts w.queues → QueuesEndWithin others w.queues
fit_agreed texts others w h fit s = fit_pieces texts others (stored_on s w.queues) (agree_on texts others s w.queues h) (fit s)
