-- What is read of a stream is a beginning of what is owed to it.
use Rattle.std.proofs.Common.{◌≡◌, ℕ, ◌<◌, ◌≤◌, ◌^◌, List, [], ◌∷◌, ◌++◌, refl, ap, ◌∙◌, sym, subst, append_assoc, arith, length, length-append, inl, inr}
use Rattle.std.specs.Prelude.{Bool, true, false, ◌==◌, nat_lt, map, drop, Option, Some, Ok}
use Rattle.std.specs.List.{AllByRecursion, flat_map}
use Rattle.std.proofs.lemmas.Bool.{cases_Bool}
use Rattle.std.proofs.lemmas.Bool.Decides.{nat_tests}
use Rattle.std.proofs.lemmas.List.{map-append}
use Rattle.std.proofs.lemmas.Grind.{flat_map-append}
use Rattle.hpack.specs.Table.{Table, new_table}
use Rattle.hpack.specs.Block.{step}
use Rattle.http2_frames.specs.declared.frame.Frame.{Frame}
use Rattle.http2_frames.specs.declared.frame.Frame.TheVariants.{Data, Headers}
use Rattle.grpc_messages.specs.Wire.{Split}
use Rattle.grpc_messages.specs.Reading.{split}
use Rattle.grpc_messages.specs.Writing.{framed_message}
use Rattle.grpc_messages.proofs.Grammar.{part_split}
use Rattle.grpc_calls.specs.declared.response.ResponseBlock.{ResponseBlock}
use Rattle.grpc_calls.specs.Responses.{fields_of, is_last}
use Rattle.grpc_sending.specs.Pieces.{Piece}
use Rattle.grpc_sending.specs.Pieces.{Block as BlockPiece, Part}
use Rattle.grpc_sending.specs.Owed.{pieces_after_frame}
use Rattle.grpc_sending.proofs.Histories.{append-nil}
use Rattle.client_reading.specs.Responses.{StreamPart, Fields, Bytes, stream_parts_of, stream_parts_from, table_after_frame, ResponsePart, Block, WholeMessage, messages_to_end, response_from, message_rest, IsMessageFront, IsBeginning}
use Rattle.client_reading.proofs.Choices.{all_append}
use Rattle.client_reading.proofs.Singles.{Single, Headed, Message, piece_of, part_of, IsSingleWithin}
use Rattle.client_reading.proofs.Follows.{BlockAt, Follows}

-- ---- where a stream stands

-- this part of the first of these items was put, and these pieces are left of them all
abbrev PieceAt : List ℕ → List Single → List Piece → Type 0
PieceAt part [] ps = (part ≡ []) × (ps ≡ [])
PieceAt part (Headed block ∷ items) ps = (part ≡ []) × (ps ≡ BlockPiece block ∷ map piece_of items)
PieceAt part (Message m ends ∷ items) ps = (left : List ℕ) × (0 < length left) × (framed_message m ≡ part ++ left)
    × (ps ≡ Part left ends ∷ map piece_of items)

framed_some : (m : List ℕ) → 0 < length (framed_message m)
framed_some m = simp length-append (omega arith)

fresh : (items : List Single) → PieceAt [] items (map piece_of items)
fresh [] = (refl, refl)
fresh (Headed block ∷ items) = (refl, refl)
fresh (Message m ends ∷ items) = (framed_message m, framed_some m, refl, refl)

abbrev AreShort : ℕ → List (List ℕ) → Type 0
AreShort limit ms = AllByRecursion (λ m. length m ≤ limit) ms

abbrev AreWithin : ℕ → List Single → Type 0
AreWithin limit items = AllByRecursion (IsSingleWithin limit) items

whole_split : (limit : ℕ) (ms : List (List ℕ)) (part : List ℕ) → limit < 2 ^ 32 → AreShort limit ms → part ≡ [] →
    split limit (flat_map framed_message ms ++ part) ≡ record { items = ms; end = Ok part }
whole_split limit ms part small all is =
    let f : split limit (flat_map framed_message ms ++ []) ≡ record { items = ms; end = Ok [] } =
    part_split limit ms [] [] (framed_message []) small all (omega arith) refl (omega arith) in
    subst (λ (p : List ℕ). split limit (flat_map framed_message ms ++ p) ≡ record { items = ms; end = Ok p }) (sym is) f

split_at : (limit : ℕ) (ms : List (List ℕ)) (part : List ℕ) (items : List Single) (ps : List Piece) → limit < 2 ^ 32 → AreShort limit ms →
    AreWithin limit items → PieceAt part items ps → split limit (flat_map framed_message ms ++ part) ≡ record { items = ms; end = Ok part }
split_at limit ms part [] ps small all within at = whole_split limit ms part small all at.0
split_at limit ms part (Headed block ∷ items) ps small all within at = whole_split limit ms part small all at.0
split_at limit ms part (Message m ends ∷ items) ps small all within at = part_split limit ms m part at.0 small all within.0 at.2 at.1

rest_at : (part : List ℕ) (items : List Single) (ps : List Piece) → PieceAt part items ps → IsMessageFront (Ok part) (map part_of items)
rest_at [] items ps at = tt
rest_at (b ∷ bs) [] ps at = let e : b ∷ bs ≡ [] = at.0 in cc
rest_at (b ∷ bs) (Headed block ∷ items) ps at = let e : b ∷ bs ≡ [] = at.0 in cc
rest_at (b ∷ bs) (Message m ends ∷ items) ps at = (at.0, at.1, at.2)

-- ---- what is read from there on

record Begins (limit : ℕ) (ms : List (List ℕ)) (text : List ℕ) (hs : List StreamPart) (items : List Single) : Type 0 where
  whole : List Single
  later : List Single
  divided : items ≡ whole ++ later
  response : response_from limit text hs ≡ map WholeMessage ms ++ map part_of whole
  rest : IsMessageFront (message_rest limit text hs) (map part_of later)

abbrev ReadsAll : ℕ → ℕ → List Frame → Type 0
ReadsAll limit s fs = (table : Option Table) (ps : List Piece) (items : List Single) (ms : List (List ℕ)) (part : List ℕ) →
    AreShort limit ms → AreWithin limit items → PieceAt part items ps → Follows s table ps fs →
    Begins limit ms (flat_map framed_message ms ++ part) (stream_parts_from s table fs) items

reads_none : (limit s : ℕ) → limit < 2 ^ 32 → ReadsAll limit s []
reads_none limit s small table ps items ms part all within at h =
    let e = split_at limit ms part items ps small all within at in
    record {
      whole = [];
      later = items;
      divided = refl;
      response = ap (λ (x : Split). map WholeMessage x.items) e ∙ sym (append-nil (map WholeMessage ms));
      rest = subst (λ (x : Split). IsMessageFront x.end (map part_of items)) (sym e) (rest_at part items ps at);
    }

-- a frame of which the stream hears nothing
skips : (limit s : ℕ) (f : Frame) (fs : List Frame) (table : Option Table) (ps : List Piece) (items : List Single) (ms : List (List ℕ))
    (part : List ℕ) → ReadsAll limit s fs → AreShort limit ms → AreWithin limit items → PieceAt part items ps →
    stream_parts_of s table f ≡ [] → pieces_after_frame s ps f ≡ ps → Follows s (table_after_frame table f) (pieces_after_frame s ps f) fs →
    Begins limit ms (flat_map framed_message ms ++ part) (stream_parts_from s table (f ∷ fs)) items
skips limit s f fs table ps items ms part later all within at none same h =
    let r = later (table_after_frame table f) ps items ms part all within at
    (subst (λ (qs : List Piece). Follows s (table_after_frame table f) qs fs) same h) in
    subst (λ (hs : List StreamPart). Begins limit ms (flat_map framed_message ms ++ part)
    (hs ++ stream_parts_from s (table_after_frame table f) fs) items) (sym none) r

-- ---- a header block

record AtBlock (part : List ℕ) (items : List Single) (block : ResponseBlock) (rest : List Piece) : Type 0 where
  none : part ≡ []
  others : List Single
  is : items ≡ Headed block ∷ others
  pieces : rest ≡ map piece_of others

at_block : (part : List ℕ) (items : List Single) (ps : List Piece) (block : ResponseBlock) (rest : List Piece) → PieceAt part items ps →
    ps ≡ BlockPiece block ∷ rest → AtBlock part items block rest
at_block part [] ps block rest at is = let e : ps ≡ [] = at.1 in cc
at_block part (Headed b ∷ items) ps block rest at is =
    let e : ps ≡ BlockPiece b ∷ map piece_of items = at.1 in
    record { none = at.0; others = items; is = (let k : b ≡ block = cc in ap (λ (x : ResponseBlock). Headed x ∷ items) k); pieces = cc }
at_block part (Message m ends ∷ items) ps block rest at is = let e : ps ≡ Part at.0 ends ∷ map piece_of items = at.3 in cc

block_put : (s t : ℕ) (e x : Bool) (fragment : List ℕ) (ps : List Piece) (block : ResponseBlock) (rest : List Piece) → (t == s) ≡ true →
    ps ≡ BlockPiece block ∷ rest → pieces_after_frame s ps (Headers t e x fragment) ≡ rest
block_put s t e x fragment ps block rest same is = rw (same, is) refl

block_is_heard : (s t : ℕ) (table : Option Table) (e x : Bool) (fragment : List ℕ) (block : ResponseBlock) → (t == s) ≡ true →
    e ≡ is_last block → x ≡ true → (step table fragment).0 ≡ Ok (fields_of block) →
    stream_parts_of s table (Headers t e x fragment) ≡ Fields (is_last block) (fields_of block) ∷ []
block_is_heard s t table e x fragment block same end whole read = rw (same, end, whole, read) refl

reads_block : (limit s t : ℕ) (e x : Bool) (fragment : List ℕ) (fs : List Frame) → limit < 2 ^ 32 → ReadsAll limit s fs →
    (table : Option Table) (ps : List Piece) (items : List Single) (ms : List (List ℕ)) (part : List ℕ) → AreShort limit ms →
    AreWithin limit items → PieceAt part items ps → (t == s) ≡ true → BlockAt table ps e x fragment →
    Follows s (table_after_frame table (Headers t e x fragment)) (pieces_after_frame s ps (Headers t e x fragment)) fs →
    Begins limit ms (flat_map framed_message ms ++ part) (stream_parts_from s table (Headers t e x fragment ∷ fs)) items
reads_block limit s t e x fragment fs small later table ps items ms part all within at same b h =
    let k = at_block part items ps b.block b.rest at b.is in
    let put : pieces_after_frame s ps (Headers t e x fragment) ≡ map piece_of k.others =
    block_put s t e x fragment ps b.block b.rest same b.is ∙ k.pieces in
    let within' : AreWithin limit (Headed b.block ∷ k.others) = subst (λ (is : List Single). AreWithin limit is) k.is within in
    let r = later (step table fragment).1 (map piece_of k.others) k.others [] [] tt within'.1 (fresh k.others)
    (subst (λ (qs : List Piece). Follows s (step table fragment).1 qs fs) put h) in
    let heard = block_is_heard s t table e x fragment b.block same b.end b.whole b.read in
    let halves = whole_split limit ms part small all k.none in
    let closes : messages_to_end (split limit (flat_map framed_message ms ++ part)) ≡ map WholeMessage ms =
    ap messages_to_end halves ∙ ap (λ (p : List ℕ). messages_to_end (record { items = ms; end = Ok p })) k.none
    ∙ append-nil (map WholeMessage ms) in
    subst (λ (hs : List StreamPart). Begins limit ms (flat_map framed_message ms ++ part)
    (hs ++ stream_parts_from s (step table fragment).1 fs) items) (sym heard)
    (record {
      whole = Headed b.block ∷ r.whole;
      later = r.later;
      divided = k.is ∙ ap (λ (is : List Single). Headed b.block ∷ is) r.divided;
      response = ap (λ (ts : List ResponsePart). ts
          ++ Block (is_last b.block) (fields_of b.block) ∷ response_from limit [] (stream_parts_from s (step table fragment).1 fs)) closes
          ∙ ap (λ (ts : List ResponsePart). map WholeMessage ms ++ Block (is_last b.block) (fields_of b.block) ∷ ts) r.response;
      rest = r.rest;
    })

-- ---- a part of a message

record AtPart (part : List ℕ) (items : List Single) (bytes : List ℕ) (ended : List (List ℕ)) (rest : List Piece) : Type 0 where
  message : List ℕ
  others : List Single
  is : items ≡ Message message ended ∷ others
  text : framed_message message ≡ part ++ bytes
  pieces : rest ≡ map piece_of others

at_part : (part : List ℕ) (items : List Single) (ps : List Piece) (bytes : List ℕ) (ended : List (List ℕ)) (rest : List Piece) →
    PieceAt part items ps → ps ≡ Part bytes ended ∷ rest → AtPart part items bytes ended rest
at_part part [] ps bytes ended rest at is = let e : ps ≡ [] = at.1 in cc
at_part part (Headed b ∷ items) ps bytes ended rest at is = let e : ps ≡ BlockPiece b ∷ map piece_of items = at.1 in cc
at_part part (Message m ends ∷ items) ps bytes ended rest at is =
    let e : ps ≡ Part at.0 ends ∷ map piece_of items = at.3 in
    let k : at.0 ≡ bytes = cc in
    record {
      message = m;
      others = items;
      is = (let same : ends ≡ ended = cc in ap (λ (es : List (List ℕ)). Message m es ∷ items) same);
      text = at.2 ∙ ap (λ (bs : List ℕ). part ++ bs) k;
      pieces = cc;
    }

drop_front : (xs ys : List ℕ) → drop (length xs) (xs ++ ys) ≡ ys
drop_front [] ys = refl
drop_front (x ∷ xs) ys = drop_front xs ys

front_less : (xs ys : List ℕ) (y : ℕ) → nat_lt (length xs) (length (xs ++ y ∷ ys)) ≡ true
front_less xs ys y = let l = length-append xs (y ∷ ys) in let m : length xs < length (xs ++ y ∷ ys) = omega (arith, l) in
    grind (arith, nat_tests)

front_all : (xs : List ℕ) → nat_lt (length xs) (length (xs ++ [])) ≡ false
front_all xs = let l = length-append xs [] in let m : length (xs ++ []) ≤ length xs = omega (arith, l) in grind (arith, nat_tests)

part_put : (s t : ℕ) (e : Bool) (bytes left : List ℕ) (ended : List (List ℕ)) (y : ℕ) (ps rest : List Piece) → (t == s) ≡ true →
    ps ≡ Part (bytes ++ y ∷ left) ended ∷ rest → pieces_after_frame s ps (Data t e bytes) ≡ Part (y ∷ left) ended ∷ rest
part_put s t e bytes left ended y ps rest same is = let less = front_less bytes left y in let d = drop_front bytes (y ∷ left) in
    rw (same, is, less, d) refl

all_put : (s t : ℕ) (e : Bool) (bytes : List ℕ) (ended : List (List ℕ)) (ps rest : List Piece) → (t == s) ≡ true →
    ps ≡ Part (bytes ++ []) ended ∷ rest → pieces_after_frame s ps (Data t e bytes) ≡ rest
all_put s t e bytes ended ps rest same is = let more = front_all bytes in rw (same, is, more) refl

part_is_heard : (s t : ℕ) (table : Option Table) (e : Bool) (bytes : List ℕ) → (t == s) ≡ true → e ≡ false →
    stream_parts_of s table (Data t e bytes) ≡ Bytes false bytes ∷ []
part_is_heard s t table e bytes same end = rw (same, end) refl

-- more of the text is read
joined : (limit : ℕ) (ms : List (List ℕ)) (part bytes : List ℕ) (hs : List StreamPart) (items : List Single) →
    Begins limit ms (flat_map framed_message ms ++ (part ++ bytes)) hs items →
    Begins limit ms (flat_map framed_message ms ++ part) (Bytes false bytes ∷ hs) items
joined limit ms part bytes hs items r =
    let e : flat_map framed_message ms ++ (part ++ bytes) ≡ (flat_map framed_message ms ++ part) ++ bytes =
    sym (append_assoc (flat_map framed_message ms) part bytes) in
    record {
      whole = r.whole;
      later = r.later;
      divided = r.divided;
      response = ap (λ (text : List ℕ). response_from limit text hs) (sym e) ∙ r.response;
      rest = subst (λ (text : List ℕ). IsMessageFront (message_rest limit text hs) (map part_of r.later)) e r.rest;
    }

-- a message is whole
completed : (limit : ℕ) (ms : List (List ℕ)) (m text : List ℕ) (ends : List (List ℕ)) (hs : List StreamPart) (others : List Single) →
    framed_message m ≡ text → Begins limit (ms ++ m ∷ []) (flat_map framed_message (ms ++ m ∷ []) ++ []) hs others →
    Begins limit ms (flat_map framed_message ms ++ text) hs (Message m ends ∷ others)
completed limit ms m text ends hs others is r =
    let e : flat_map framed_message (ms ++ m ∷ []) ++ [] ≡ flat_map framed_message ms ++ text =
    append-nil (flat_map framed_message (ms ++ m ∷ [])) ∙ flat_map-append framed_message ms (m ∷ [])
    ∙ ap (λ (x : List ℕ). flat_map framed_message ms ++ x) (append-nil (framed_message m) ∙ is) in
    record {
      whole = Message m ends ∷ r.whole;
      later = r.later;
      divided = ap (λ (is : List Single). Message m ends ∷ is) r.divided;
      response = ap (λ (x : List ℕ). response_from limit x hs) (sym e) ∙ r.response
          ∙ ap (λ (ts : List ResponsePart). ts ++ map part_of r.whole) (map-append WholeMessage ms (m ∷ []))
          ∙ append_assoc (map WholeMessage ms) (WholeMessage m ∷ []) (map part_of r.whole);
      rest = subst (λ (x : List ℕ). IsMessageFront (message_rest limit x hs) (map part_of r.later)) e r.rest;
    }

reads_part : (limit s t : ℕ) (e : Bool) (bytes : List ℕ) (fs : List Frame) → ReadsAll limit s fs →
    (table : Option Table) (ps : List Piece) (items : List Single) (ms : List (List ℕ)) (part left : List ℕ) (ended : List (List ℕ))
    (rest : List Piece) → AreShort limit ms → AreWithin limit items → PieceAt part items ps → (t == s) ≡ true → e ≡ false →
    ps ≡ Part (bytes ++ left) ended ∷ rest → Follows s table (pieces_after_frame s ps (Data t e bytes)) fs →
    Begins limit ms (flat_map framed_message ms ++ part) (stream_parts_from s table (Data t e bytes ∷ fs)) items
reads_part limit s t e bytes fs later table ps items ms part [] ended rest all within at same end is h =
    let k = at_part part items ps (bytes ++ []) ended rest at is in
    let put : pieces_after_frame s ps (Data t e bytes) ≡ map piece_of k.others = all_put s t e bytes ended ps rest same is ∙ k.pieces in
    let within' : AreWithin limit (Message k.message ended ∷ k.others) = subst (λ (is : List Single). AreWithin limit is) k.is within in
    let r = later table (map piece_of k.others) k.others (ms ++ k.message ∷ []) []
    (all_append (λ (m : List ℕ). length m ≤ limit) ms (k.message ∷ []) all (within'.0, tt)) within'.1 (fresh k.others)
    (subst (λ (qs : List Piece). Follows s table qs fs) put h) in
    let c = completed limit ms k.message (part ++ bytes) ended (stream_parts_from s table fs) k.others
    (k.text ∙ ap (λ (bs : List ℕ). part ++ bs) (append-nil bytes)) r in
    subst (λ (hs : List StreamPart). Begins limit ms (flat_map framed_message ms ++ part) (hs ++ stream_parts_from s table fs) items)
    (sym (part_is_heard s t table e bytes same end))
    (joined limit ms part bytes (stream_parts_from s table fs) items
    (subst (λ (is : List Single). Begins limit ms (flat_map framed_message ms ++ (part ++ bytes)) (stream_parts_from s table fs) is)
    (sym k.is) c))
reads_part limit s t e bytes fs later table ps items ms part (y ∷ left) ended rest all within at same end is h =
    let k = at_part part items ps (bytes ++ y ∷ left) ended rest at is in
    let put : pieces_after_frame s ps (Data t e bytes) ≡ Part (y ∷ left) ended ∷ map piece_of k.others =
    part_put s t e bytes left ended y ps rest same is ∙ ap (λ (qs : List Piece). Part (y ∷ left) ended ∷ qs) k.pieces in
    let stands : PieceAt (part ++ bytes) (Message k.message ended ∷ k.others) (Part (y ∷ left) ended ∷ map piece_of k.others) =
    (y ∷ left, omega arith, k.text ∙ sym (append_assoc part bytes (y ∷ left)), refl) in
    let r = later table (Part (y ∷ left) ended ∷ map piece_of k.others) items ms (part ++ bytes) all within
    (subst (λ (is : List Single). PieceAt (part ++ bytes) is (Part (y ∷ left) ended ∷ map piece_of k.others)) (sym k.is) stands)
    (subst (λ (qs : List Piece). Follows s table qs fs) put h) in
    subst (λ (hs : List StreamPart). Begins limit ms (flat_map framed_message ms ++ part) (hs ++ stream_parts_from s table fs) items)
    (sym (part_is_heard s t table e bytes same end))
    (joined limit ms part bytes (stream_parts_from s table fs) items r)

-- ---- all frames

reads_all : (limit s : ℕ) → limit < 2 ^ 32 → (fs : List Frame) → ReadsAll limit s fs
reads_all limit s small [] = reads_none limit s small
reads_all limit s small (Headers t e x fragment ∷ fs) = λ table ps items ms part all within at h. elim (cases_Bool (t == s)) [
  | inl same ↦ reads_block limit s t e x fragment fs small (reads_all limit s small fs) table ps items ms part all within at same
      (h.0 same) h.1
  | inr other ↦ skips limit s (Headers t e x fragment) fs table ps items ms part (reads_all limit s small fs) all within at (rw other refl)
      (rw other refl) h.1
]
reads_all limit s small (Data t e bytes ∷ fs) = λ table ps items ms part all within at h. elim (cases_Bool (t == s)) [
  | inl same ↦ let p = h.0 same in reads_part limit s t e bytes fs
      (reads_all limit s small fs) table ps items ms part p.left p.ends p.rest all within at same p.end p.is h.1
  | inr other ↦ skips limit s (Data t e bytes) fs table ps items ms part (reads_all limit s small fs) all within at (rw other refl)
      (rw other refl) h.1
]
reads_all limit s small (_ ∷ fs) = λ table ps items ms part all within at h. reads_all limit s small fs table ps items ms part all within at
    h.1

pub stream_read : (limit s : ℕ) (fs : List Frame) (items : List Single) → limit < 2 ^ 32 → AllByRecursion (IsSingleWithin limit) items →
    Follows s (Some new_table) (map piece_of items) fs → IsBeginning limit (stream_parts_from s (Some new_table) fs) (map part_of items)
stream_read limit s fs items small within h =
    let r = reads_all limit s small fs (Some new_table) (map piece_of items) items [] [] tt within (fresh items) h in
    record {
      later = map part_of r.later;
      divided = ap (map part_of) r.divided ∙ map-append part_of r.whole r.later
          ∙ ap (λ (ps : List ResponsePart). ps ++ map part_of r.later) (sym r.response);
      rest = r.rest;
    }
