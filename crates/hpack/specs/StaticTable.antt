-- The static table: RFC 7541, appendix A, from index 1 on.
use Prim.Native.String.{String}
use Rattle.std.specs.Prelude.{ℕ, ◌+◌, List, [], ◌∷◌, codes, if◌then◌else◌}
use Rattle.std.specs.Str.{bytes_eq}
use Rattle.hpack.specs.Header.{Header}

abbrev row : String → String → Header
row name value = record { name = codes name; value = codes value }

unfoldable pub static_table : List Header
static_table =
    row ":authority" ""
    ∷ row ":method" "GET"
    ∷ row ":method" "POST"
    ∷ row ":path" "/"
    ∷ row ":path" "/index.html"
    ∷ row ":scheme" "http"
    ∷ row ":scheme" "https"
    ∷ row ":status" "200"
    ∷ row ":status" "204"
    ∷ row ":status" "206"
    ∷ row ":status" "304"
    ∷ row ":status" "400"
    ∷ row ":status" "404"
    ∷ row ":status" "500"
    ∷ row "accept-charset" ""
    ∷ row "accept-encoding" "gzip, deflate"
    ∷ row "accept-language" ""
    ∷ row "accept-ranges" ""
    ∷ row "accept" ""
    ∷ row "access-control-allow-origin" ""
    ∷ row "age" ""
    ∷ row "allow" ""
    ∷ row "authorization" ""
    ∷ row "cache-control" ""
    ∷ row "content-disposition" ""
    ∷ row "content-encoding" ""
    ∷ row "content-language" ""
    ∷ row "content-length" ""
    ∷ row "content-location" ""
    ∷ row "content-range" ""
    ∷ row "content-type" ""
    ∷ row "cookie" ""
    ∷ row "date" ""
    ∷ row "etag" ""
    ∷ row "expect" ""
    ∷ row "expires" ""
    ∷ row "from" ""
    ∷ row "host" ""
    ∷ row "if-match" ""
    ∷ row "if-modified-since" ""
    ∷ row "if-none-match" ""
    ∷ row "if-range" ""
    ∷ row "if-unmodified-since" ""
    ∷ row "last-modified" ""
    ∷ row "link" ""
    ∷ row "location" ""
    ∷ row "max-forwards" ""
    ∷ row "proxy-authenticate" ""
    ∷ row "proxy-authorization" ""
    ∷ row "range" ""
    ∷ row "referer" ""
    ∷ row "refresh" ""
    ∷ row "retry-after" ""
    ∷ row "server" ""
    ∷ row "set-cookie" ""
    ∷ row "strict-transport-security" ""
    ∷ row "transfer-encoding" ""
    ∷ row "user-agent" ""
    ∷ row "vary" ""
    ∷ row "via" ""
    ∷ row "www-authenticate" ""
    ∷ []

-- the index of the first row with a name, counted from 1, or 0 where no row has it
abbrev pub name_index_in : List Header → ℕ → List ℕ → ℕ
name_index_in [] index name = 0
name_index_in (row ∷ rows) index name =
    if bytes_eq row.name name then index else name_index_in rows (index + 1) name

unfoldable pub name_index : List ℕ → ℕ
name_index name = name_index_in static_table 1 name
