-- The field list of a request (RFC 9113 section 8.3.1).
use Rattle.std.specs.Prelude.{ℕ, ◌==◌, ◌&&◌, nat_le, not, Bool, List, length, codes, count_by, take_while}
use Rattle.std.specs.List.{list_any, list_all}
use Rattle.hpack.specs.Header.{Header}
use Rattle.http2_streams.specs.FieldSyntax.{is_text, is_pseudo, is_request_field}

abbrev pub is_lawful : Header → Bool
is_lawful h = is_request_field h.name h.value

abbrev pub is_pseudo_field : Header → Bool
is_pseudo_field h = is_pseudo h.name

abbrev pub is_named : List ℕ → Header → Bool
is_named name h = is_text h.name name

abbrev pub count_of_name : List ℕ → List Header → ℕ
count_of_name name hs = count_by (is_named name) hs

-- section 8.3: no pseudo-header field stands after another field
abbrev pub has_pseudo_fields_first : List Header → Bool
has_pseudo_fields_first hs = count_by is_pseudo_field hs == length (take_while is_pseudo_field hs)

abbrev pub is_empty_path : Header → Bool
is_empty_path h = is_named (codes ":path") h && length h.value == 0

-- any other request is malformed (section 8.1.1)
abbrev pub is_well_formed_request : List Header → Bool
is_well_formed_request hs =
    list_all is_lawful hs
    && has_pseudo_fields_first hs
    && count_of_name (codes ":method") hs == 1
    && count_of_name (codes ":scheme") hs == 1
    && count_of_name (codes ":path") hs == 1
    && nat_le (count_of_name (codes ":authority") hs) 1
    && not (list_any is_empty_path hs)
