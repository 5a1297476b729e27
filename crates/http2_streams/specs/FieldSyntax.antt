-- Field names and values, by themselves (RFC 9113 section 8.2).
use Rattle.std.specs.Prelude.{ℕ, ◌-◌, ◌==◌, ◌&&◌, ◌||◌, nat_lt, nat_le, nat_eq, not, Bool, List, length, take, drop, codes}
use Rattle.std.specs.List.{list_any, list_all}
use lib.Pointwise.{pointwise}

-- two texts are the same
abbrev pub is_text : List ℕ → List ℕ → Bool
is_text a b = pointwise nat_eq a b

abbrev pub is_colon : ℕ → Bool
is_colon b = b == 0x3a

-- a visible ASCII character that is no upper-case letter (section 8.2.1)
abbrev pub is_field_name_byte : ℕ → Bool
is_field_name_byte b = nat_lt 0x20 b && nat_lt b 0x7f && not (nat_le 0x41 b && nat_le b 0x5a)

-- not empty, and with a colon in front only, where it marks a pseudo-header field
abbrev pub is_valid_name : List ℕ → Bool
is_valid_name name =
    nat_lt 0 (length name) && list_all is_field_name_byte name
    && not (list_any is_colon (drop 1 name))

-- NUL, LF or CR
abbrev pub is_forbidden : ℕ → Bool
is_forbidden b = b == 0 || b == 10 || b == 13

-- a space or a tab
abbrev pub is_blank : ℕ → Bool
is_blank b = b == 32 || b == 9

-- with no forbidden byte, and no blank at either end
abbrev pub is_valid_value : List ℕ → Bool
is_valid_value value =
    not (list_any is_forbidden value) && not (list_any is_blank (take 1 value)) && not
    (list_any is_blank (drop (length value - 1) value))

-- a pseudo-header field (section 8.3)
abbrev pub is_pseudo : List ℕ → Bool
is_pseudo name = list_any is_colon (take 1 name)

-- one of those that a request may have (section 8.3.1)
abbrev pub is_request_pseudo : List ℕ → Bool
is_request_pseudo name =
    is_text name (codes ":method") || is_text name (codes ":scheme") || is_text name
    (codes ":authority") || is_text name (codes ":path")

-- it concerns one connection of HTTP/1.1 (section 8.2.2)
abbrev pub is_connection_specific : List ℕ → Bool
is_connection_specific name =
    is_text name (codes "connection")
    || is_text name (codes "proxy-connection") || is_text name (codes "keep-alive")
    || is_text name (codes "transfer-encoding") || is_text name (codes "upgrade")

-- `te` may only be `trailers` (section 8.2.2)
abbrev pub is_allowed_te : List ℕ → List ℕ → Bool
is_allowed_te name value = not (is_text name (codes "te")) || is_text value (codes "trailers")

-- a field that a request may have, by itself
abbrev pub is_request_field : List ℕ → List ℕ → Bool
is_request_field name value =
    is_valid_name name && is_valid_value value
    && (not (is_pseudo name) || is_request_pseudo name)
    && not (is_connection_specific name) && is_allowed_te name value
