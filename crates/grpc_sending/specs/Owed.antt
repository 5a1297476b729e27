-- What is owed to the streams of a connection, and how much of it was put.
use Rattle.std.specs.Prelude.{ℕ, ◌==◌, nat_lt, if◌then◌else◌, List, [], ◌∷◌, ◌++◌, length, fold, take, drop}
use Rattle.std.specs.List.{flat_map, list_any}
use Rattle.http2_frames.specs.declared.frame.Frame.{Frame}
use Rattle.http2_frames.specs.declared.frame.Frame.TheVariants.{Data, Headers}
use Rattle.http2_streams.specs.History.{Entry, sent_frames, live_streams, has_failed}
use Rattle.digest.specs.declared.Digest.{Digest}
use Rattle.grpc_messages.specs.Writing.{framed_message}
use Rattle.grpc_calls.specs.declared.response.ResponseBlock.{ResponseBlock}
use Rattle.grpc_sending.specs.Pieces.{Piece, Block, Part, read_pieces}

-- an item of a response: a header block, or a message
pub data Item : Type 0 where
  Headed : ResponseBlock → Item
  Message : List ℕ → Item
  -- bytes of a blob, by its digest: its whole text, the place of the first of them, and how many;
  -- each 65,536 are a message
  Range : Digest → List ℕ → ℕ → ℕ → Item

-- an item that was given to a stream
pub record OwedItem : Type 0 where
  pub stream : ℕ
  pub item : Item

abbrev pub item_on : ℕ → OwedItem → List Item
item_on s o = if o.stream == s then o.item ∷ [] else []

-- all items that a stream was ever given, in order
abbrev pub items_owed_on : ℕ → List OwedItem → List Item
items_owed_on s os = flat_map (item_on s) os

-- an item is owed to a live stream; to any other nothing is
abbrev pub owed_with_item : List Entry → List OwedItem → ℕ → Item → List OwedItem
owed_with_item d os s item =
    if has_failed d then os
    else if list_any (λ t. t == s) (live_streams d)
    then os ++ record { stream = s; item = item } ∷ []
    else os

-- an item as it is to be put: a header block, the bytes of a message with its prefix, or those of
-- each message of a range
abbrev pub pieces_of : Item → List Piece
pieces_of (Headed block) = Block block ∷ []
pieces_of (Message message) = Part (framed_message message) [] ∷ []
pieces_of (Range digest text from count) = read_pieces text (take count (drop from text))

-- n bytes of the message in front
abbrev pub without_front : ℕ → List Piece → List Piece
without_front n [] = []
without_front n (Block block ∷ ps) = Block block ∷ ps
without_front n (Part bytes ends ∷ ps) =
    if nat_lt n (length bytes) then Part (drop n bytes) ends ∷ ps else ps

-- what a frame leaves of what is to be put on stream s: HEADERS puts a block, DATA a part of a
-- message
abbrev pub pieces_after_frame : ℕ → List Piece → Frame → List Piece
pieces_after_frame s ps (Headers t end_stream end_headers fragment) =
    if t == s then drop 1 ps else ps
pieces_after_frame s ps (Data t end_stream bytes) =
    if t == s then without_front (length bytes) ps else ps
pieces_after_frame s ps _ = ps

-- what frames leave of these pieces
abbrev pub pieces_after_frames : List Frame → ℕ → List Piece → List Piece
pieces_after_frames fs s ps = fold (pieces_after_frame s) ps fs

-- what is owed to stream s and was not put
abbrev pub pieces_left_on : List Entry → List OwedItem → ℕ → List Piece
pieces_left_on d os s =
    pieces_after_frames (sent_frames d) s (flat_map pieces_of (items_owed_on s os))

-- ---- ranges that are not wholly put

-- the text of which a range ends with this piece
abbrev pub ends_of : Piece → List (List ℕ)
ends_of (Block block) = []
ends_of (Part bytes ends) = ends

-- the whole text of each range that stream s is owed and that is not wholly put
abbrev pub ranges_left_on : List Entry → List OwedItem → ℕ → List (List ℕ)
ranges_left_on d os s = flat_map ends_of (pieces_left_on d os s)

-- those of all streams: of live ones, while no error of the connection was met
abbrev pub ranges_left : List Entry → List OwedItem → List (List ℕ)
ranges_left d os = if has_failed d then [] else flat_map (ranges_left_on d os) (live_streams d)
