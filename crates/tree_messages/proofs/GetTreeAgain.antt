-- Messages of specs/GetTree.antt that are written are read again.
use Rattle.std.proofs.Common.{[], ◌∷◌, refl}
use Rattle.protobuf_wire.specs.Again.{AreReadAgain}
use Rattle.protobuf_wire.proofs.ReadAgain.{int32_again, repeated_octets_again, string_again}
use Rattle.protobuf_wire.proofs.Fitting.{embedded_fits}
use Rattle.protobuf_wire.proofs.Messages.{is_written, embedded_part, int32_part, repeated_octets_part, string_part}
use Rattle.tree_messages.specs.GetTree.{get_tree_request_of, get_tree_request_records, FitsGetTreeRequest, get_tree_response_of, get_tree_response_records, FitsGetTreeResponse}
use Rattle.reapi_messages.specs.Digests.{digest_of, digest_records, FitsDigest}
use Rattle.reapi_messages.proofs.DigestsAgain.{digest_again}

pub get_tree_request_again : AreReadAgain get_tree_request_of get_tree_request_records FitsGetTreeRequest
unfolding get_tree_request_of
get_tree_request_again v h short =
    let found = is_written (string_part 1 v.instance_name ∷ embedded_part 2 digest_records v.root_digest ∷
    int32_part 3 v.page_size h.page_size ∷ string_part 4 v.page_token ∷ int32_part 5 v.digest_function h.digest_function ∷
    []) refl short in
    rw (
      found.parsed,
      string_again 1 v.instance_name _ h.instance_name found.places.0,
      embedded_fits digest_of digest_records FitsDigest digest_again 2 v.root_digest _ h.root_digest found.shorts.1.0 found.places.1.0,
      int32_again 3 v.page_size _ h.page_size found.places.1.1.0,
      string_again 4 v.page_token _ h.page_token found.places.1.1.1.0,
      int32_again 5 v.digest_function _ h.digest_function found.places.1.1.1.1.0,
    ) refl

pub get_tree_response_again : AreReadAgain get_tree_response_of get_tree_response_records FitsGetTreeResponse
unfolding get_tree_response_of
get_tree_response_again v h short =
    let found = is_written (repeated_octets_part 1 v.directories ∷ string_part 2 v.next_page_token ∷ []) refl short in
    rw (
      found.parsed,
      repeated_octets_again 1 v.directories _ found.places.0,
      string_again 2 v.next_page_token _ h.next_page_token found.places.1.0,
    ) refl
