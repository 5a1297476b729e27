-- Messages of specs/Actions.antt that are written are read again.
use Rattle.std.proofs.Common.{[], ◌∷◌, refl}
use Rattle.protobuf_wire.specs.Again.{AreReadAgain}
use Rattle.protobuf_wire.proofs.ReadAgain.{flag_again, int32_again, int64_again, repeated_string_again, string_again}
use Rattle.protobuf_wire.proofs.Fitting.{embedded_fits, repeated_fits}
use Rattle.protobuf_wire.proofs.Messages.{is_written, embedded_part, flag_part, int32_part, int64_part, repeated_part, repeated_string_part, string_part}
use Rattle.execution_messages.specs.Actions.{duration_of, duration_records, FitsDuration, action_of, action_records, FitsAction, environment_variable_of, environment_variable_records, FitsEnvironmentVariable, command_of, command_records, FitsCommand}
use Rattle.reapi_messages.specs.Digests.{digest_of, digest_records, FitsDigest}
use Rattle.reapi_messages.proofs.DigestsAgain.{digest_again}

pub duration_again : AreReadAgain duration_of duration_records FitsDuration
unfolding duration_of
duration_again v h short =
    let found = is_written (int64_part 1 v.seconds h.seconds ∷ int32_part 2 v.nanos h.nanos ∷ []) refl short in
    rw (found.parsed, int64_again 1 v.seconds _ h.seconds found.places.0, int32_again 2 v.nanos _ h.nanos found.places.1.0) refl

pub action_again : AreReadAgain action_of action_records FitsAction
unfolding action_of
action_again v h short =
    let found = is_written (embedded_part 1 digest_records v.command_digest ∷ embedded_part 2 digest_records v.input_root_digest ∷
    embedded_part 6 duration_records v.timeout ∷ flag_part 7 v.do_not_cache ∷ []) refl short in
    rw (
      found.parsed,
      embedded_fits digest_of digest_records FitsDigest digest_again 1 v.command_digest _ h.command_digest found.shorts.0 found.places.0,
      embedded_fits digest_of digest_records FitsDigest digest_again 2 v.input_root_digest _ h.input_root_digest found.shorts.1.0 found.places.1.0,
      embedded_fits duration_of duration_records FitsDuration duration_again 6 v.timeout _ h.timeout found.shorts.1.1.0 found.places.1.1.0,
      flag_again 7 v.do_not_cache _ found.places.1.1.1.0,
    ) refl

pub environment_variable_again : AreReadAgain environment_variable_of environment_variable_records FitsEnvironmentVariable
unfolding environment_variable_of
environment_variable_again v h short =
    let found = is_written (string_part 1 v.name ∷ string_part 2 v.value ∷ []) refl short in
    rw (found.parsed, string_again 1 v.name _ h.name found.places.0, string_again 2 v.value _ h.value found.places.1.0) refl

pub command_again : AreReadAgain command_of command_records FitsCommand
unfolding command_of
command_again v h short =
    let found = is_written (repeated_string_part 1 v.arguments ∷ repeated_part 2 environment_variable_records v.environment_variables ∷
    repeated_string_part 3 v.output_files ∷ repeated_string_part 4 v.output_directories ∷ string_part 6 v.working_directory ∷
    repeated_string_part 7 v.output_paths ∷ []) refl short in
    rw (
      found.parsed,
      repeated_string_again 1 v.arguments _ h.arguments found.places.0,
      repeated_fits environment_variable_of environment_variable_records FitsEnvironmentVariable environment_variable_again 2 v.environment_variables _ h.environment_variables found.shorts.1.0 found.places.1.0,
      repeated_string_again 3 v.output_files _ h.output_files found.places.1.1.0,
      repeated_string_again 4 v.output_directories _ h.output_directories found.places.1.1.1.0,
      string_again 6 v.working_directory _ h.working_directory found.places.1.1.1.1.0,
      repeated_string_again 7 v.output_paths _ h.output_paths found.places.1.1.1.1.1.0,
    ) refl
