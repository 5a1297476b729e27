-- Messages of specs/Results.antt that are written are read again.
use Rattle.std.proofs.Common.{[], ◌∷◌, refl}
use Rattle.protobuf_wire.specs.Again.{AreReadAgain}
use Rattle.protobuf_wire.proofs.ReadAgain.{flag_again, int32_again, octets_again, string_again}
use Rattle.protobuf_wire.proofs.Fitting.{embedded_fits, repeated_fits}
use Rattle.protobuf_wire.proofs.Messages.{is_written, embedded_part, flag_part, int32_part, octets_part, repeated_part, string_part}
use Rattle.tree_messages.specs.Results.{output_file_of, output_file_records, FitsOutputFile, output_directory_of, output_directory_records, FitsOutputDirectory, action_result_of, action_result_records, FitsActionResult}
use Rattle.reapi_messages.specs.Digests.{digest_of, digest_records, FitsDigest}
use Rattle.reapi_messages.proofs.DigestsAgain.{digest_again}

pub output_file_again : AreReadAgain output_file_of output_file_records FitsOutputFile
unfolding output_file_of
output_file_again v h short =
    let found = is_written (string_part 1 v.path ∷ embedded_part 2 digest_records v.digest ∷ flag_part 4 v.is_executable ∷
    []) refl short in
    rw (
      found.parsed,
      string_again 1 v.path _ h.path found.places.0,
      embedded_fits digest_of digest_records FitsDigest digest_again 2 v.digest _ h.digest found.shorts.1.0 found.places.1.0,
      flag_again 4 v.is_executable _ found.places.1.1.0,
    ) refl

pub output_directory_again : AreReadAgain output_directory_of output_directory_records FitsOutputDirectory
unfolding output_directory_of
output_directory_again v h short =
    let found = is_written (string_part 1 v.path ∷ embedded_part 3 digest_records v.tree_digest ∷ []) refl short in
    rw (
      found.parsed,
      string_again 1 v.path _ h.path found.places.0,
      embedded_fits digest_of digest_records FitsDigest digest_again 3 v.tree_digest _ h.tree_digest found.shorts.1.0 found.places.1.0,
    ) refl

pub action_result_again : AreReadAgain action_result_of action_result_records FitsActionResult
unfolding action_result_of
action_result_again v h short =
    let found = is_written (repeated_part 2 output_file_records v.output_files ∷
    repeated_part 3 output_directory_records v.output_directories ∷ int32_part 4 v.exit_code h.exit_code ∷ octets_part 5 v.stdout_raw ∷
    embedded_part 6 digest_records v.stdout_digest ∷ octets_part 7 v.stderr_raw ∷ embedded_part 8 digest_records v.stderr_digest ∷
    []) refl short in
    rw (
      found.parsed,
      repeated_fits output_file_of output_file_records FitsOutputFile output_file_again 2 v.output_files _ h.output_files found.shorts.0 found.places.0,
      repeated_fits output_directory_of output_directory_records FitsOutputDirectory output_directory_again 3 v.output_directories _ h.output_directories found.shorts.1.0 found.places.1.0,
      int32_again 4 v.exit_code _ h.exit_code found.places.1.1.0,
      octets_again 5 v.stdout_raw _ found.places.1.1.1.0,
      embedded_fits digest_of digest_records FitsDigest digest_again 6 v.stdout_digest _ h.stdout_digest found.shorts.1.1.1.1.0 found.places.1.1.1.1.0,
      octets_again 7 v.stderr_raw _ found.places.1.1.1.1.1.0,
      embedded_fits digest_of digest_records FitsDigest digest_again 8 v.stderr_digest _ h.stderr_digest found.shorts.1.1.1.1.1.1.0 found.places.1.1.1.1.1.1.0,
    ) refl
