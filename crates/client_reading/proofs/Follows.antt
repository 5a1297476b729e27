-- Each frame puts the front of what was left of its stream.
use Rattle.std.proofs.Common.{◌≡◌, ℕ, List, [], ◌∷◌, ◌++◌, refl, ap, ◌∙◌, sym, subst, length, inl, inr}
use Rattle.std.specs.List.{flat_map, AllByRecursion, list_any}
use Rattle.std.specs.Prelude.{Bool, true, false, not, ◌&&◌, ◌==◌, cond, nat_lt, map, fold, drop, Option, Some, Result, Ok}
use Rattle.std.proofs.lemmas.Bool.{cases_Bool, eqb-true}
use Rattle.std.proofs.lemmas.List.{take-append-drop}
use Rattle.std.proofs.lemmas.List.Elements.{filter_map-append}
use Rattle.std.proofs.lemmas.List.Sums.{fold-append}
use Rattle.std.proofs.lemmas.Grind.{flat_map-append}
use Rattle.hpack.specs.declared.encoder.Position.{Position}
use Rattle.hpack.specs.declared.encoder.Position.TheVariants.{First, Later}
use Rattle.hpack.specs.declared.error.HpackError.{HpackError}
use Rattle.hpack.specs.Header.{Header}
use Rattle.hpack.specs.Table.{Table, new_table}
use Rattle.hpack.specs.Block.{step, answer_of}
use Rattle.hpack.specs.Encoding.{block_text}
use Rattle.http2_frames.specs.declared.frame.Frame.{Frame}
use Rattle.http2_frames.specs.declared.frame.Frame.TheVariants.{Data, Headers}
use Rattle.http2_streams.specs.History.{Entry, Out, Took, sent_frames, frame_out, highest_stream, has_failed, live_streams, is_ended_by_client}
use Rattle.grpc_calls.specs.declared.response.ResponseBlock.{ResponseBlock}
use Rattle.grpc_calls.specs.Responses.{fields_of, is_last}
use Rattle.grpc_calls.proofs.Blocks.{read_first, read_later}
use Rattle.grpc_sending.specs.Pieces.{Piece}
use Rattle.grpc_sending.specs.Pieces.{Block, Part}
use Rattle.grpc_sending.specs.Bytes.{position}
use Rattle.grpc_sending.specs.Owed.{OwedItem, Item, item_on, items_owed_on, pieces_of, pieces_after_frame, pieces_after_frames, pieces_left_on, owed_with_item}
use Rattle.grpc_sending.specs.Pump.{reset_after}
use Rattle.conn_core.specs.Past.{Past, new_past, owed_with_items}
use Rattle.conn_core.proofs.Greeting.{greeted}
use Rattle.conn_core.specs.Calls.{items_at_once}
use Rattle.conn_core.specs.Received.{outcome, fault_frames, frame_entries, fault_entries}
use Rattle.client_reading.specs.Changes.{PastChange, past_after_change, past_of, IsChange, BytesReceived, FrameRead, FaultMet, ItemGiven, BytesTaken, FramesPut, EventsGiven}
use Rattle.client_reading.specs.Responses.{table_after_frame}
use Rattle.client_reading.proofs.Choices.{choose, fold_keeps}
use Rattle.client_reading.proofs.Nexts.{Next, IsFront, portion, pump_keeps}
use Rattle.client_reading.proofs.Controls.{IsControl, outcome_control, fault_control, reset_control, out_sent}

pub record BlockAt (table : Option Table) (ps : List Piece) (end_stream end_headers : Bool) (fragment : List ℕ) : Type 0 where
  pub block : ResponseBlock
  pub rest : List Piece
  pub is : ps ≡ Block block ∷ rest
  pub end : end_stream ≡ is_last block
  pub whole : end_headers ≡ true
  pub read : (step table fragment).0 ≡ Ok (fields_of block)

pub record PartAt (ps : List Piece) (end_stream : Bool) (bytes : List ℕ) : Type 0 where
  pub left : List ℕ
  pub ends : List (List ℕ)
  pub rest : List Piece
  pub is : ps ≡ Part (bytes ++ left) ends ∷ rest
  pub end : end_stream ≡ false

-- the frame puts the front of these pieces, if it is of stream s
abbrev pub FrontOf : ℕ → Option Table → List Piece → Frame → Type 0
FrontOf s table ps (Headers t e x fragment) = (t == s) ≡ true → BlockAt table ps e x fragment
FrontOf s table ps (Data t e bytes) = (t == s) ≡ true → PartAt ps e bytes
FrontOf s table ps _ = Unit {0}

abbrev pub Follows : ℕ → Option Table → List Piece → List Frame → Type 0
Follows s table ps [] = Unit {0}
Follows s table ps (f ∷ fs) = FrontOf s table ps f × Follows s (table_after_frame table f) (pieces_after_frame s ps f) fs

pub follows_more : (s : ℕ) (table : Option Table) (ps : List Piece) (fs gs : List Frame) → Follows s table ps fs →
    Follows s (fold table_after_frame table fs) (pieces_after_frames fs s ps) gs → Follows s table ps (fs ++ gs)
follows_more s table ps [] gs h k = k
follows_more s table ps (f ∷ fs) gs h k = (h.0, follows_more s (table_after_frame table f) (pieces_after_frame s ps f) fs gs h.1 k)

-- ---- more items

front_more : (s : ℕ) (table : Option Table) (ps more : List Piece) (f : Frame) → FrontOf s table ps f → FrontOf s table (ps ++ more) f
front_more s table ps more (Headers t e x fragment) h = λ same. let b = h same in
    record {
      block = b.block;
      rest = b.rest ++ more;
      is = ap (λ (qs : List Piece). qs ++ more) b.is;
      end = b.end;
      whole = b.whole;
      read =
          b.read;
    }
front_more s table ps more (Data t e bytes) h = λ same. let b = h same in
    record { left = b.left; ends = b.ends; rest = b.rest ++ more; is = ap (λ (qs : List Piece). qs ++ more) b.is; end = b.end }
front_more s table ps more _ h = tt

cond_more : (b : Bool) (p : Piece) (rest more : List Piece) → cond b (p ∷ rest ++ more) (rest ++ more) ≡ cond b (p ∷ rest) rest ++ more
cond_more true p rest more = refl
cond_more false p rest more = refl

headers_more : (b : Bool) (ps more : List Piece) → (b ≡ true → (block : ResponseBlock) × (rest : List Piece) × (ps ≡ Block block ∷ rest)) →
    cond b (drop 1 (ps ++ more)) (ps ++ more) ≡ cond b (drop 1 ps) ps ++ more
headers_more true ps more h = let k = h refl in let is : ps ≡ Block k.0 ∷ k.1 = k.2 in rw is refl
headers_more false ps more h = refl

pub put_more_on : (s : ℕ) (table : Option Table) (ps more : List Piece) (f : Frame) → FrontOf s table ps f →
    pieces_after_frame s (ps ++ more) f ≡ pieces_after_frame s ps f ++ more
put_more_on s table ps more (Headers t e x fragment) h = headers_more (t == s) ps more (λ same. let b = h same in (b.block, b.rest, b.is))
put_more_on s table ps more (Data t e bytes) h = elim (cases_Bool (t == s)) [
  | inl same ↦
      let b = h same in
      let is : ps ≡ Part (bytes ++ b.left) b.ends ∷ b.rest = b.is in
      rw (same, is) (cond_more (nat_lt (length bytes) (length (bytes ++ b.left)))
      (Part (drop (length bytes) (bytes ++ b.left)) b.ends) b.rest more)
  | inr other ↦ rw other refl
]
put_more_on s table ps more _ h = refl

pub follows_owed : (s : ℕ) (table : Option Table) (ps more : List Piece) (fs : List Frame) → Follows s table ps fs →
    Follows s table (ps ++ more) fs
follows_owed s table ps more [] h = tt
follows_owed s table ps more (f ∷ fs) h = (
  front_more s table ps more f h.0,
  subst (λ (qs : List Piece). Follows s (table_after_frame table f) qs fs) (sym (put_more_on s table ps more f h.0))
      (follows_owed s (table_after_frame table f) (pieces_after_frame s ps f) more fs h.1),
)

-- ---- control frames

control_front : (s : ℕ) (table : Option Table) (ps : List Piece) (f : Frame) → IsControl f →
    FrontOf s table ps f × (table_after_frame table f ≡ table) × (pieces_after_frame s ps f ≡ ps)
control_front s table ps (Headers t e x fragment) h = cc
control_front s table ps (Data t e bytes) h = cc
control_front s table ps _ h = (tt, refl, refl)

control_follows : (s : ℕ) (table : Option Table) (ps : List Piece) (fs : List Frame) → AllByRecursion IsControl fs → Follows s table ps fs
control_follows s table ps [] h = tt
control_follows s table ps (f ∷ fs) h = (
  (control_front s table ps f h.0).0,
  control_follows s (table_after_frame table f)
      (pieces_after_frame s ps f) fs h.1,
)

control_tables : (table : Option Table) (fs : List Frame) → AllByRecursion IsControl fs → fold table_after_frame table fs ≡ table
control_tables table [] h = refl
control_tables table (f ∷ fs) h = control_tables (table_after_frame table f) fs h.1 ∙ (control_front 0 table [] f h.0).1

-- ---- the invariant

abbrev pub tables : List Entry → Option Table
tables d = fold table_after_frame (Some new_table) (sent_frames d)

pub record Streams (d : List Entry) (os : List OwedItem) : Type 0 where
  -- no block was refused
  pub table : Table
  pub read : tables d ≡ Some table
  pub follows : (s : ℕ) → Follows s (Some new_table) (flat_map pieces_of (items_owed_on s os)) (sent_frames d)

-- more frames
streams_put : (d es : List Entry) (os : List OwedItem) (fs : List Frame) → sent_frames es ≡ fs →
    ((table : Table) → tables d ≡ Some table → ((after : Table) × (fold table_after_frame (Some table) fs ≡ Some after))
    × ((s : ℕ) → Follows s (Some table) (pieces_left_on d os s) fs)) → Streams d os → Streams (d ++ es) os
streams_put d es os fs is more h =
    let k = more h.table h.read in
    let out : sent_frames (d ++ es) ≡ sent_frames d ++ fs =
    filter_map-append frame_out d es ∙ ap (λ (gs : List Frame). sent_frames d ++ gs) is in
    record {
      table = k.0.0;
      read = ap (fold table_after_frame (Some new_table)) out ∙ fold-append table_after_frame (Some new_table) (sent_frames d) fs
          ∙ ap (λ (t : Option Table). fold table_after_frame t fs) h.read ∙ k.0.1;
      follows = λ s.
          subst (λ (gs : List Frame). Follows s (Some new_table) (flat_map pieces_of (items_owed_on s os)) gs) (sym out)
          (follows_more s (Some new_table) (flat_map pieces_of (items_owed_on s os)) (sent_frames d) fs (h.follows s)
          (subst (λ (t : Option Table). Follows s t (pieces_left_on d os s) fs) (sym h.read) (k.1 s)));
    }

streams_control : (d es : List Entry) (os : List OwedItem) (fs : List Frame) → sent_frames es ≡ fs → AllByRecursion IsControl fs →
    Streams d os → Streams (d ++ es) os
streams_control d es os fs is all h = streams_put d es os fs is
    (λ table at. ((table, control_tables (Some table) fs all), λ s. control_follows s (Some table) (pieces_left_on d os s) fs all)) h

-- ---- more items

owed_one : (s t : ℕ) (item : Item) (os : List OwedItem) →
    flat_map pieces_of (items_owed_on s (os ++ record { stream = t; item = item } ∷ [])) ≡ flat_map pieces_of (items_owed_on s os)
    ++ flat_map pieces_of (item_on s (record { stream = t; item = item }) ++ [])
owed_one s t item os =
    ap (flat_map pieces_of) (flat_map-append (item_on s) os (record { stream = t; item = item } ∷ []))
    ∙ flat_map-append pieces_of (items_owed_on s os) (item_on s (record { stream = t; item = item }) ++ [])

streams_one : (d : List Entry) (os : List OwedItem) (t : ℕ) (item : Item) → Streams d os →
    Streams d (os ++ record { stream = t; item = item } ∷ [])
streams_one d os t item h = record {
  table = h.table;
  read = h.read;
  follows = λ s. subst (λ (ps : List Piece). Follows s (Some new_table) ps (sent_frames d)) (sym (owed_one s t item os))
      (follows_owed s (Some new_table) (flat_map pieces_of (items_owed_on s os))
      (flat_map pieces_of (item_on s (record { stream = t; item = item }) ++ [])) (sent_frames d) (h.follows s));
}

streams_owed : (d e : List Entry) (os : List OwedItem) (t : ℕ) (item : Item) → Streams d os → Streams d (owed_with_item e os t item)
streams_owed d e os t item h =
    choose (λ (xs : List OwedItem). Streams d xs) (has_failed e) os _ (λ _. h)
    (λ _. choose (λ (xs : List OwedItem). Streams d xs) (list_any (λ u. u == t) (live_streams e)) _ os (λ _. streams_one d os t item h)
    (λ _. h))

streams_owe_all : (d e : List Entry) (os : List OwedItem) (xs : List (ℕ × Item)) → Streams d os → Streams d (owed_with_items e os xs)
streams_owe_all d e os [] h = h
streams_owe_all d e os (x ∷ xs) h = streams_owe_all d e (owed_with_item e os x.0 x.1) xs (streams_owed d e os x.0 x.1 h)

-- ---- the pump

block_read : (table : Table) (at : Position) (block : ResponseBlock) →
    (after : Table) × (step (Some table) (block_text at (fields_of block)) ≡ (Ok (fields_of block), Some after))
block_read table First block = (record { maximum = 0; entries = [] }, ap answer_of (read_first table block))
block_read table Later block = (table, ap answer_of (read_later table block))

front_puts : (d : List Entry) (os : List OwedItem) (u : ℕ) (fs : List Frame) → IsFront d u (pieces_left_on d os u) fs → (table : Table) →
    ((after : Table) × (fold table_after_frame (Some table) fs ≡ Some after))
    × ((s : ℕ) → Follows s (Some table) (pieces_left_on d os s) fs)
front_puts d os u fs (inl b) table =
    let r = block_read table (position d) b.block in
    let resets : List Frame = reset_after u (is_last b.block && not (is_ended_by_client d u)) in
    let all = reset_control u (is_last b.block && not (is_ended_by_client d u)) in
    subst (λ (gs : List Frame). ((after : Table) × (fold table_after_frame (Some table) gs ≡ Some after))
    × ((s : ℕ) → Follows s (Some table) (pieces_left_on d os s) gs)) (sym b.put) (
      (
        r.0,
        control_tables _ (reset_after u (is_last b.block && not (is_ended_by_client d u))) all
            ∙ ap (λ (x : Result (List Header) HpackError × Option Table). x.1) r.1,
      ),
      λ s. (
        (λ same. record {
          block = b.block;
          rest = b.rest;
          is =
              subst (λ (n : ℕ). pieces_left_on d os n ≡ Block b.block ∷ b.rest) (eqb-true u s same) b.is;
          end = refl;
          whole = refl;
          read =
              ap (λ (x : Result (List Header) HpackError × Option Table). x.0) r.1;
        }),
        control_follows s _ _ (reset_after u (is_last b.block && not (is_ended_by_client d u))) all,
      ),
    )
front_puts d os u fs (inr p) table =
    let n : ℕ = portion d u p.bytes in
    subst (λ (gs : List Frame). ((after : Table) × (fold table_after_frame (Some table) gs ≡ Some after))
    × ((s : ℕ) → Follows s (Some table) (pieces_left_on d os s) gs)) (sym p.put) (
      (table, refl),
      λ s. (
        (λ same. record {
          left = drop (portion d u p.bytes) p.bytes;
          ends = p.ends;
          rest = p.rest;
          is =
              subst (λ (m : ℕ). pieces_left_on d os m ≡ Part p.bytes p.ends ∷ p.rest) (eqb-true u s same) p.is
              ∙ ap (λ (bs : List ℕ). Part bs p.ends ∷ p.rest) (sym (take-append-drop (portion d u p.bytes) p.bytes));
          end = refl;
        }),
        tt,
      ),
    )

streams_turn : (os : List OwedItem) (d : List Entry) (fs : List Frame) → Next d os fs → Streams d os → Streams (d ++ map Out fs) os
streams_turn os d fs n h = streams_put d (map Out fs) os fs (out_sent fs) (λ table at. front_puts d os n.stream fs n.front table) h

-- ---- every past

streams_change : (p : Past) (c : PastChange) → IsChange c → Streams p.history p.owed →
    Streams (past_after_change p c).history (past_after_change p c).owed
streams_change p (BytesReceived bytes) is h = h
streams_change p (FrameRead f) is h =
    streams_owe_all (p.history ++ frame_entries p.history f) (p.history ++ frame_entries p.history f) p.owed
    (items_at_once (outcome p.history f).event)
    (streams_control p.history (frame_entries p.history f) p.owed (outcome p.history f).put (out_sent (outcome p.history f).put)
    (outcome_control p.history f) h)
streams_change p (FaultMet e code) is h =
    streams_control p.history (fault_entries p.history e code) p.owed (fault_frames (has_failed p.history) (highest_stream p.history) code)
    (out_sent (fault_frames (has_failed p.history) (highest_stream p.history) code))
    (fault_control (has_failed p.history) (highest_stream p.history) code) h
streams_change p (ItemGiven t item) is h = streams_owed p.history p.history p.owed t item h
streams_change p (BytesTaken n) is h = streams_control p.history (Took n ∷ []) p.owed [] refl tt h
streams_change p FramesPut is h = pump_keeps (λ (d : List Entry). Streams d p.owed) p.owed (streams_turn p.owed) p.history h
streams_change p (EventsGiven left) is h = h

streams_opening : (window : ℕ) → Streams (new_past window).history []
streams_opening window =
    greeted (λ (d : List Entry). Streams d []) window (record { table = new_table; read = refl; follows = λ s. (tt, (tt, tt)) })
    (record { table = new_table; read = refl; follows = λ s. (tt, tt) })

pub streams_past : (window : ℕ) (cs : List PastChange) → AllByRecursion IsChange cs →
    Streams (past_of window cs).history (past_of window cs).owed
streams_past window cs all = fold_keeps (λ (p : Past). Streams p.history p.owed) IsChange past_after_change
    (new_past window) cs streams_change all (streams_opening window)
