-- The header blocks of a response (gRPC over HTTP2, Responses).
use Rattle.std.specs.Prelude.{ℕ, ◌+◌, ◌/◌, ◌%◌, Bool, true, false, ◌&&◌, ◌==◌, nat_lt, nat_le, List, [], ◌∷◌, ◌++◌, codes, if◌then◌else◌, Option, Some, None}
use Rattle.std.specs.List.{flat_map}
use Rattle.std.specs.Fmt.{decimal}
use Rattle.hpack.specs.Header.{Header}
use Rattle.hpack.specs.Encoding.{block_text}
use Rattle.hpack.specs.declared.encoder.Position.TheVariants.{Later}
use Rattle.rpc.specs.declared.refusal.Refusal.TheVariants.{UnknownMethod}
use Rattle.rpc.specs.Status.{code_of, text_of}
use Rattle.grpc_calls.specs.declared.request.HeadFault.{HeadFault}
use Rattle.grpc_calls.specs.declared.request.HeadFault.TheVariants.{Method as BadMethod, ContentType as BadContentType, Path as BadPath}
use Rattle.grpc_calls.specs.declared.response.Status.{Status}
use Rattle.grpc_calls.specs.declared.response.Status.TheVariants.{Success, Refused}
use Rattle.grpc_calls.specs.declared.response.ResponseBlock.{ResponseBlock}
use Rattle.grpc_calls.specs.declared.response.ResponseBlock.TheVariants.{Head, Trailers, TrailersOnly, MethodNotAllowed, UnsupportedMediaType}

abbrev pub header : List ℕ → List ℕ → Header
header name value = record { name = name; value = value }

-- Response-Headers
abbrev pub head_fields : List Header
head_fields =
    header (codes ":status") (codes "200")
    ∷ header (codes "content-type") (codes "application/grpc") ∷ []

-- Status-Message: a byte from space to `~` stands for itself, but for `%`; any other is `%` and its
-- two hexadecimal digits
abbrev pub is_plain : ℕ → Bool
is_plain b = nat_le 32 b && nat_lt b 127 && (if b == 37 then false else true)

abbrev pub hex_digit : ℕ → ℕ
hex_digit d = if nat_lt d 10 then 48 + d else 55 + d

abbrev pub byte_percent_encoding : ℕ → List ℕ
byte_percent_encoding b =
    if is_plain b then b ∷ [] else 37 ∷ hex_digit (b / 16) ∷ hex_digit (b % 16) ∷ []

abbrev pub percent_encoding : List ℕ → List ℕ
percent_encoding text = flat_map byte_percent_encoding text

-- Status, and Status-Message where the code is not 0
abbrev pub status_fields : Status → List Header
status_fields Success = header (codes "grpc-status") (decimal 0) ∷ []
status_fields (Refused r) =
    header (codes "grpc-status") (decimal (code_of r))
    ∷ header (codes "grpc-message") (percent_encoding (text_of r)) ∷ []

abbrev pub fields_of : ResponseBlock → List Header
fields_of Head = head_fields
fields_of (Trailers status) = status_fields status
fields_of (TrailersOnly r) = head_fields ++ status_fields (Refused r)
fields_of MethodNotAllowed = header (codes ":status") (codes "405") ∷ []
fields_of UnsupportedMediaType = header (codes ":status") (codes "415") ∷ []

-- whether nothing follows on the stream
abbrev pub is_last : ResponseBlock → Bool
is_last Head = false
is_last (Trailers status) = true
is_last (TrailersOnly r) = true
is_last MethodNotAllowed = true
is_last UnsupportedMediaType = true

-- how a request is answered that is no call (RFC 9110, sections 15.5.6 and 15.5.16, and gRPC's
-- UNIMPLEMENTED)
abbrev pub response_to : HeadFault → ResponseBlock
response_to BadMethod = MethodNotAllowed
response_to BadContentType = UnsupportedMediaType
response_to BadPath = TrailersOnly UnknownMethod

-- the texts of the two blocks that each call has that succeeds, where they are not the first of
-- their connection
abbrev pub constant_text : ResponseBlock → Option (List ℕ)
constant_text Head = Some (block_text Later (fields_of Head))
constant_text (Trailers Success) = Some (block_text Later (fields_of (Trailers Success)))
constant_text (Trailers (Refused r)) = None
constant_text (TrailersOnly r) = None
constant_text MethodNotAllowed = None
constant_text UnsupportedMediaType = None

-- no block of a response is longer, at whatever place of its connection
abbrev pub longest_block : ℕ
longest_block = 128
