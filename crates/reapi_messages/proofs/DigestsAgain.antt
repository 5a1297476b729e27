-- Messages of specs/Digests.antt that are written are read again.
use Rattle.std.proofs.Common.{[], ◌∷◌, refl}
use Rattle.protobuf_wire.specs.Again.{AreReadAgain}
use Rattle.protobuf_wire.proofs.ReadAgain.{int64_again, string_again}
use Rattle.protobuf_wire.proofs.Messages.{is_written, int64_part, string_part}
use Rattle.reapi_messages.specs.Digests.{digest_of, digest_records, FitsDigest}

pub digest_again : AreReadAgain digest_of digest_records FitsDigest
unfolding digest_of
digest_again v h short =
    let found = is_written (string_part 1 v.hash ∷ int64_part 2 v.size_bytes h.size_bytes ∷ []) refl short in
    rw (found.parsed, string_again 1 v.hash _ h.hash found.places.0, int64_again 2 v.size_bytes _ h.size_bytes found.places.1.0) refl
