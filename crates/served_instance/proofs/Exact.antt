-- The ranges that are held are those that connections have still to put.
use Rattle.std.proofs.Common.{◌≡◌, ℕ, List, [], ◌∷◌, ◌++◌, map, refl, ap, ◌∙◌, inl, inr}
use Rattle.std.specs.List.{flat_map}
use Rattle.std.proofs.lemmas.Bool.{cases_Bool}
use Rattle.std.proofs.lemmas.List.{map-append}
use Rattle.conn_core.specs.History.{has_failed}
use Rattle.conn_core.specs.Past.{Past}
use Rattle.conn_core.specs.StandsFor.{ConnectionValue, IsConnection}
use Rattle.grpc_sending.specs.Owed.{ranges_left}
use Rattle.grpc_sending.specs.Sources.{sources_held}
use Rattle.grpc_sending.specs.StoredSending.{SourceTexts, KeepsForLive, QueuesEndWithin, sources_of}
use Rattle.grpc_sending.proofs.Histories.{append-nil}
use Rattle.grpc_sending.proofs.Holding.{held_is_left}
use Rattle.served_instance.specs.Connections.{LoneConnection}
use Rattle.served_instance.specs.StandsFor.{ServedConnection, AreServed, ranges_left_of}
use Rattle.served_instance.specs.Ranges.{sources_at, RangesEndWithin, IsTidy, AreTidy}

-- nothing is kept but for live streams
for_live : (texts : SourceTexts) (v : ConnectionValue) (p : Past) → IsConnection texts v p → KeepsForLive v.sending.queues p.history
for_live texts v p st s (inl failed) = st.over failed s
for_live texts v p st s (inr dead) = elim (cases_Bool (has_failed p.history)) [
  | inl failed ↦ st.over failed s
  | inr alive ↦ (st.alive alive).live s dead
]

held_by : (texts : SourceTexts) (v : ConnectionValue) (p : Past) → IsTidy v.sending → QueuesEndWithin texts v.sending.queues →
    IsConnection texts v p → map texts (sources_of v.sending) ≡ ranges_left p.history p.owed
held_by texts v p tidy fit st =
    ap (λ (ns : List ℕ). map texts (sources_held v.sending.queues ++ ns)) tidy.0
    ∙ ap (map texts) (append-nil (sources_held v.sending.queues))
    ∙ held_is_left texts v.sending p.history p.owed tidy.1 fit (for_live texts v p st) st.sending

pub held_by_all : (texts : SourceTexts) (vs : List ServedConnection) (ls : List LoneConnection) → AreTidy vs → RangesEndWithin texts vs →
    AreServed texts vs ls → map texts (sources_at vs) ≡ flat_map ranges_left_of ls
held_by_all texts [] [] tidy fit st = refl
held_by_all texts [] (l ∷ ls) tidy fit st = absurd st
held_by_all texts (v ∷ vs) [] tidy fit st = absurd st
held_by_all texts (v ∷ vs) (l ∷ ls) tidy fit st =
    map-append texts (sources_of v.connection.sending) (sources_at vs)
    ∙ ap (λ (ts : List (List ℕ)). ts ++ map texts (sources_at vs)) (held_by texts v.connection l.past tidy.0 fit.0 st.1)
    ∙ ap (λ (ts : List (List ℕ)). ranges_left_of l ++ ts) (held_by_all texts vs ls tidy.1 fit.1 st.2)
