-- GetTreeRequest and GetTreeResponse of build.bazel.remote.execution.v2
use Rattle.std.specs.Prelude.{◌≡◌, true, ℕ, ℤ, List, ◌++◌, map, option_map, Option, Result, Ok, IfSome, FitsSigned}
use Rattle.std.specs.Str.{is_utf8}
use Rattle.std.specs.Int.{w32}
use Rattle.protobuf_wire.specs.declared.error.MessageError.{MessageError}
use Rattle.protobuf_wire.specs.Results.{◌>>=◌}
use Rattle.protobuf_wire.specs.Record.{Record}
use Rattle.protobuf_wire.specs.Fields.{embedded_value, int32, repeated_octets, string}
use Rattle.protobuf_wire.specs.Parts.{embedded_field, int32_field, repeated_octets_field, string_field}
use Rattle.tree_messages.specs.declared.get_tree.GetTreeRequest.{GetTreeRequest}
use Rattle.tree_messages.specs.declared.get_tree.GetTreeResponse.{GetTreeResponse}
use Rattle.reapi_messages.specs.Digests.{DigestValue, FitsDigest, digest_shown, digest_of, digest_records}

-- instance_name 1, root_digest 2, page_size 3, page_token 4, digest_function 5
pub record GetTreeRequestValue : Type 0 where
  pub instance_name : List ℕ
  pub root_digest : Option DigestValue
  pub page_size : ℤ
  pub page_token : List ℕ
  pub digest_function : ℤ

abbrev pub get_tree_request_shown : GetTreeRequest → GetTreeRequestValue
get_tree_request_shown m = record {
  instance_name = m.instance_name.now;
  root_digest = option_map digest_shown m.root_digest;
  page_size = m.page_size;
  page_token = m.page_token.now;
  digest_function = m.digest_function;
}

unfoldable pub get_tree_request_of : List Record → Result GetTreeRequestValue MessageError
get_tree_request_of rs = do
  instance_name ← string 1 rs
  root_digest ← embedded_value digest_of 2 rs
  page_token ← string 4 rs
  Ok (record {
    instance_name = instance_name;
    root_digest = root_digest;
    page_size = int32 3 rs;
    page_token = page_token;
    digest_function = int32 5 rs;
  })

abbrev pub get_tree_request_records : GetTreeRequestValue → List Record
get_tree_request_records v =
    string_field 1 v.instance_name ++ embedded_field digest_records 2 v.root_digest
    ++ int32_field 3 v.page_size ++ string_field 4 v.page_token ++ int32_field 5 v.digest_function

-- directories 1 repeated, next_page_token 2
pub record GetTreeResponseValue : Type 0 where
  pub directories : List (List ℕ)
  pub next_page_token : List ℕ

abbrev pub get_tree_response_shown : GetTreeResponse → GetTreeResponseValue
get_tree_response_shown m = record {
  directories = map (λ b. b.now) m.directories.items;
  next_page_token = m.next_page_token.now;
}

unfoldable pub get_tree_response_of : List Record → Result GetTreeResponseValue MessageError
get_tree_response_of rs = do
  next_page_token ← string 2 rs
  Ok (record { directories = repeated_octets 1 rs; next_page_token = next_page_token })

abbrev pub get_tree_response_records : GetTreeResponseValue → List Record
get_tree_response_records v =
    repeated_octets_field 1 v.directories ++ string_field 2 v.next_page_token

-- ---- what fits the types of the fields

pub record FitsGetTreeRequest (v : GetTreeRequestValue) : Type 0 where
  pub instance_name : is_utf8 v.instance_name ≡ true
  pub root_digest : IfSome v.root_digest FitsDigest
  pub page_size : FitsSigned w32 v.page_size
  pub page_token : is_utf8 v.page_token ≡ true
  pub digest_function : FitsSigned w32 v.digest_function

pub record FitsGetTreeResponse (v : GetTreeResponseValue) : Type 0 where
  pub next_page_token : is_utf8 v.next_page_token ≡ true
