-- The blocks of a response are short, and are read back.
use Rattle.std.proofs.Common.{◌≡◌, ℕ, ◌<◌, ◌≤◌, List, [], length, Ok, refl, sym, ap, ◌∙◌, arith}
use Rattle.std.specs.Fmt.{decimal, digits}
use Rattle.hpack.specs.Header.{Header, total_size}
use Rattle.hpack.specs.Table.{Table}
use Rattle.hpack.specs.Block.{block_of, list_limit}
use Rattle.hpack.specs.Encoding.{block_text}
use Rattle.hpack.specs.Integer.{integer_text, groups, groups_in}
use Rattle.hpack.specs.StaticTable.{static_table, name_index}
use Rattle.hpack.specs.declared.encoder.Position.{Position}
use Rattle.hpack.specs.declared.encoder.Position.TheVariants.{First, Later}
use Rattle.hpack.proofs.Encodings.{first_read, later_read}
use Rattle.rpc.specs.declared.refusal.Refusal.{Refusal}
use Rattle.rpc.specs.declared.refusal.Refusal.TheVariants.{UnknownMethod}
use Rattle.rpc.specs.Status.{code_of, text_of}
use Rattle.grpc_calls.specs.declared.response.Status.TheVariants.{Success, Refused}
use Rattle.grpc_calls.specs.declared.response.ResponseBlock.{ResponseBlock}
use Rattle.grpc_calls.specs.declared.response.ResponseBlock.TheVariants.{Head, Trailers, TrailersOnly, MethodNotAllowed, UnsupportedMediaType}
use Rattle.grpc_calls.specs.Responses.{fields_of, percent_encoding}

pub text_is_plain : (r : Refusal) → percent_encoding (text_of r) ≡ text_of r
text_is_plain UnknownMethod = refl
text_is_plain _ = refl

pub decimal_of : (n k : ℕ) (text : List ℕ) → n ≡ k → decimal k ≡ text → text ≡ decimal n
decimal_of n k text e d = sym d ∙ ap decimal (sym e)

pub code_is_known : (r : Refusal) → code_of r < 17
code_is_known UnknownMethod = omega arith
code_is_known _ = omega arith

pub never_ok : (r : Refusal) → (0 < code_of r) × (code_of r < 17)
never_ok UnknownMethod = (omega arith, omega arith)
never_ok _ = (omega arith, omega arith)

-- what bounds a block: the size of its fields, and the length of its text
abbrev Fits : ResponseBlock → Type 0
Fits block = (total_size (fields_of block) ≤ list_limit) × (length (block_text First (fields_of block)) ≤ 128)

refused_fits : (r : Refusal) → Fits (TrailersOnly r)
unfolding digits name_index static_table integer_text groups groups_in
refused_fits UnknownMethod = (omega arith, omega arith)
refused_fits _ = (omega arith, omega arith)

trailed_fits : (r : Refusal) → Fits (Trailers (Refused r))
unfolding digits name_index static_table integer_text groups groups_in
trailed_fits UnknownMethod = (omega arith, omega arith)
trailed_fits _ = (omega arith, omega arith)

block_fits : (block : ResponseBlock) → Fits block
unfolding digits name_index static_table integer_text groups groups_in
block_fits Head = (omega arith, omega arith)
block_fits (Trailers Success) = (omega arith, omega arith)
block_fits (Trailers (Refused r)) = trailed_fits r
block_fits (TrailersOnly r) = refused_fits r
block_fits MethodNotAllowed = (omega arith, omega arith)
block_fits UnsupportedMediaType = (omega arith, omega arith)

pub fields_small : (block : ResponseBlock) → total_size (fields_of block) ≤ list_limit
fields_small block = (block_fits block).0

pub read_first : (table : Table) (block : ResponseBlock) →
    block_of table (block_text First (fields_of block)) ≡ Ok (fields_of block, record { maximum = 0; entries = [] })
read_first table block = first_read table (fields_of block) (fields_small block)

pub read_later : (table : Table) (block : ResponseBlock) → block_of table (block_text Later (fields_of block)) ≡ Ok (fields_of block, table)
read_later table block = later_read table (fields_of block) (fields_small block)

later_shorter : (hs : List Header) → length (block_text First hs) ≤ 128 → length (block_text Later hs) ≤ 128
later_shorter hs h = omega arith

pub short : (position : Position) (block : ResponseBlock) → length (block_text position (fields_of block)) ≤ 128
short First block = (block_fits block).1
short Later block = later_shorter (fields_of block) (block_fits block).1
