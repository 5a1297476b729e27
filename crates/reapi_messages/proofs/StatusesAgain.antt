-- Messages of specs/Statuses.antt that are written are read again.
use Rattle.std.proofs.Common.{[], ◌∷◌, refl}
use Rattle.protobuf_wire.specs.Again.{AreReadAgain}
use Rattle.protobuf_wire.proofs.ReadAgain.{int32_again, octets_again, string_again}
use Rattle.protobuf_wire.proofs.Fitting.{repeated_fits}
use Rattle.protobuf_wire.proofs.Messages.{is_written, int32_part, octets_part, repeated_part, string_part}
use Rattle.reapi_messages.specs.Statuses.{any_of, any_records, FitsAny, status_of, status_records, FitsStatus}

pub any_again : AreReadAgain any_of any_records FitsAny
unfolding any_of
any_again v h short =
    let found = is_written (string_part 1 v.type_url ∷ octets_part 2 v.value ∷ []) refl short in
    rw (found.parsed, string_again 1 v.type_url _ h.type_url found.places.0, octets_again 2 v.value _ found.places.1.0) refl

pub status_again : AreReadAgain status_of status_records FitsStatus
unfolding status_of
status_again v h short =
    let found = is_written (int32_part 1 v.code h.code ∷ string_part 2 v.message ∷ repeated_part 3 any_records v.details ∷
    []) refl short in
    rw (
      found.parsed,
      int32_again 1 v.code _ h.code found.places.0,
      string_again 2 v.message _ h.message found.places.1.0,
      repeated_fits any_of any_records FitsAny any_again 3 v.details _ h.details found.shorts.1.1.0 found.places.1.1.0,
    ) refl
