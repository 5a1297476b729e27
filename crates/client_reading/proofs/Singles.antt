-- Items as they are put and read one by one: header blocks and messages.
use Rattle.std.proofs.Common.{◌≡◌, ℕ, ◌≤◌, List, [], ◌∷◌, ◌++◌, refl, ap, ◌∙◌, sym, subst, length, inl, inr}
use Rattle.std.specs.Prelude.{map, zero, suc, take, drop, nat_lt, cond}
use Rattle.std.proofs.lemmas.Bool.{cases_Bool}
use Rattle.std.specs.List.{AllByRecursion, flat_map}
use Rattle.std.proofs.lemmas.List.{map-append}
use Rattle.grpc_messages.specs.Writing.{framed_message}
use Rattle.grpc_calls.specs.declared.response.ResponseBlock.{ResponseBlock}
use Rattle.grpc_calls.specs.Responses.{fields_of, is_last}
use Rattle.grpc_sending.specs.Pieces.{Piece}
use Rattle.grpc_sending.specs.Pieces.{Block as BlockPiece, Part, most_read, read_message, read_piece, message_pieces}
use Rattle.grpc_sending.specs.Owed as Owed
use Rattle.client_reading.specs.Responses.{messages_cut, ResponsePart, Block, WholeMessage, response_parts, response_of, IsPartWithin, IsItemWithin}
use Rattle.client_reading.proofs.Choices.{all_append}

-- a header block; or a message, and the text of which a range ends with it, if one does
pub data Single : Type 0 where
  Headed : ResponseBlock → Single
  Message : List ℕ → List (List ℕ) → Single

abbrev pub piece_of : Single → Piece
piece_of (Headed block) = BlockPiece block
piece_of (Message message ends) = Part (framed_message message) ends

abbrev pub part_of : Single → ResponsePart
part_of (Headed block) = Block (is_last block) (fields_of block)
part_of (Message message ends) = WholeMessage message

-- bytes of a text as messages of at most n of them
abbrev pub singles_cut : List ℕ → ℕ → ℕ → List ℕ → List Single
singles_cut text n zero bytes = []
singles_cut text n (suc k) bytes = cond (nat_lt n (length bytes))
    (Message (read_message (take n bytes)) [] ∷ singles_cut text n k (drop n bytes)) (Message (read_message bytes) (text ∷ []) ∷ [])

abbrev pub singles_of : Owed.Item → List Single
singles_of (Owed.Headed block) = Headed block ∷ []
singles_of (Owed.Message message) = Message message [] ∷ []
singles_of (Owed.Range digest text from count) =
    singles_cut text most_read (length (take count (drop from text))) (take count (drop from text))

abbrev pub all_singles : List Owed.Item → List Single
all_singles items = flat_map singles_of items

-- ---- as they are put

cut_pieces : (text : List ℕ) (n k : ℕ) (bytes : List ℕ) → message_pieces text n k bytes ≡ map piece_of (singles_cut text n k bytes)
cut_pieces text n zero bytes = refl
cut_pieces text n (suc k) bytes = elim (cases_Bool (nat_lt n (length bytes))) [
  | inl more ↦ rw more (ap (λ (ps : List Piece). read_piece [] (take n bytes) ∷ ps) (cut_pieces text n k (drop n bytes)))
  | inr last ↦ rw last refl
]

item_pieces : (item : Owed.Item) → Owed.pieces_of item ≡ map piece_of (singles_of item)
item_pieces (Owed.Headed block) = refl
item_pieces (Owed.Message message) = refl
item_pieces (Owed.Range digest text from count) =
    cut_pieces text most_read (length (take count (drop from text))) (take count (drop from text))

pub all_pieces : (items : List Owed.Item) → flat_map Owed.pieces_of items ≡ map piece_of (all_singles items)
all_pieces [] = refl
all_pieces (item ∷ items) =
    ap (λ (ps : List Piece). ps ++ flat_map Owed.pieces_of items) (item_pieces item)
    ∙ ap (λ (ps : List Piece). map piece_of (singles_of item) ++ ps) (all_pieces items)
    ∙ sym (map-append piece_of (singles_of item) (all_singles items))

-- ---- as they are read

cut_parts : (text : List ℕ) (n k : ℕ) (bytes : List ℕ) →
    map WholeMessage (messages_cut n k bytes) ≡ map part_of (singles_cut text n k bytes)
cut_parts text n zero bytes = refl
cut_parts text n (suc k) bytes = elim (cases_Bool (nat_lt n (length bytes))) [
  | inl more ↦ rw more (ap (λ (ps : List ResponsePart). WholeMessage (read_message (take n bytes)) ∷ ps)
      (cut_parts text n k (drop n bytes)))
  | inr last ↦ rw last refl
]

item_parts : (item : Owed.Item) → response_parts item ≡ map part_of (singles_of item)
item_parts (Owed.Headed block) = refl
item_parts (Owed.Message message) = refl
item_parts (Owed.Range digest text from count) =
    cut_parts text most_read (length (take count (drop from text))) (take count (drop from text))

pub all_parts : (items : List Owed.Item) → response_of items ≡ map part_of (all_singles items)
all_parts [] = refl
all_parts (item ∷ items) =
    ap (λ (ps : List ResponsePart). ps ++ response_of items) (item_parts item)
    ∙ ap (λ (ps : List ResponsePart). map part_of (singles_of item) ++ ps) (all_parts items)
    ∙ sym (map-append part_of (singles_of item) (all_singles items))

-- ---- lengths

abbrev pub IsSingleWithin : ℕ → Single → Type 0
IsSingleWithin limit (Headed block) = Unit {0}
IsSingleWithin limit (Message message ends) = length message ≤ limit

singles_within : (limit : ℕ) (xs : List Single) → AllByRecursion (IsPartWithin limit) (map part_of xs) →
    AllByRecursion (IsSingleWithin limit) xs
singles_within limit [] h = tt
singles_within limit (Headed block ∷ xs) h = (tt, singles_within limit xs h.1)
singles_within limit (Message message ends ∷ xs) h = (h.0, singles_within limit xs h.1)

pub all_within : (limit : ℕ) (items : List Owed.Item) → AllByRecursion (IsItemWithin limit) items →
    AllByRecursion (IsSingleWithin limit) (all_singles items)
all_within limit [] h = tt
all_within limit (item ∷ items) h =
    all_append (IsSingleWithin limit) (singles_of item) (all_singles items)
    (singles_within limit (singles_of item) (subst (AllByRecursion (IsPartWithin limit)) (item_parts item) h.0))
    (all_within limit items h.1)
