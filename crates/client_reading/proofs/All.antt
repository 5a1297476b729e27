-- All that a client reads, of every past.
use Rattle.std.proofs.Common.{sym, subst, ℕ, ◌<◌, ◌^◌, List, [], ◌∷◌}
use Rattle.std.specs.Prelude.{◌==◌, map, Some}
use Rattle.std.specs.List.{AllByRecursion}
use Rattle.http2_streams.specs.History.{sent_frames}
use Rattle.hpack.specs.Table.{new_table}
use Rattle.grpc_sending.specs.Pieces.{Piece}
use Rattle.grpc_sending.specs.Owed.{OwedItem, Item, item_on, items_owed_on}
use Rattle.conn_core.specs.Past.{Past}
use Rattle.client_reading.specs.Changes.{PastChange, past_of, IsChange}
use Rattle.client_reading.specs.Responses.{stream_parts, IsItemWithin, IsTakable, IsBeginning}
use Rattle.client_reading.specs.Reads.{ReadsResponses, IsReadByClient}
use Rattle.client_reading.proofs.Choices.{choose, all_append}
use Rattle.client_reading.proofs.Written.{frames_read}
use Rattle.client_reading.proofs.Turns.{turns_past}
use Rattle.client_reading.proofs.Controls.{control_past}
use Rattle.client_reading.proofs.Follows.{Follows, streams_past}
use Rattle.client_reading.proofs.Singles.{piece_of, all_singles, all_pieces, all_parts, all_within}
use Rattle.client_reading.proofs.Responses.{stream_read}

on_stream : (limit s : ℕ) (os : List OwedItem) → IsTakable limit os → AllByRecursion (IsItemWithin limit) (items_owed_on s os)
on_stream limit s [] h = tt
on_stream limit s (o ∷ os) h = all_append (IsItemWithin limit) (item_on s o) (items_owed_on s os)
    (choose (AllByRecursion (IsItemWithin limit)) (o.stream == s) (o.item ∷ []) [] (λ _. (h.0, tt)) (λ _. tt)) (on_stream limit s os h.1)

-- ---- all of it

responses_past : (window : ℕ) (cs : List PastChange) → AllByRecursion IsChange cs → ReadsResponses (past_of window cs)
responses_past window cs all limit small takable s =
    let p : Past = past_of window cs in
    let items : List Item = items_owed_on s p.owed in
    let within = all_within limit items (on_stream limit s p.owed takable) in
    let follows : Follows s (Some new_table) (map piece_of (all_singles items)) (sent_frames p.history) =
    subst (λ (ps : List Piece). Follows s (Some new_table) ps (sent_frames p.history)) (all_pieces items)
    ((streams_past window cs all).follows s) in
    subst (IsBeginning limit (stream_parts p.history s)) (sym (all_parts items))
    (stream_read limit s (sent_frames p.history) (all_singles items) small within follows)

pub reads_past : (window : ℕ) (cs : List PastChange) → window < 2 ^ 31 → AllByRecursion IsChange cs →
    IsReadByClient window (past_of window cs)
reads_past window cs most all = record {
  frames = frames_read window cs most all;
  turns = turns_past window cs;
  control =
      control_past window cs all;
  responses = responses_past window cs all;
}
