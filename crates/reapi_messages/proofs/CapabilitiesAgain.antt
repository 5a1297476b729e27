-- Messages of specs/Capabilities.antt that are written are read again.
use Rattle.std.proofs.Common.{[], ◌∷◌, refl}
use Rattle.protobuf_wire.specs.Again.{AreReadAgain}
use Rattle.protobuf_wire.proofs.ReadAgain.{flag_again, int32_again, int64_again, repeated_enum_again, string_again}
use Rattle.protobuf_wire.proofs.Fitting.{embedded_fits}
use Rattle.protobuf_wire.proofs.Messages.{is_written, embedded_part, flag_part, int32_part, int64_part, repeated_enum_part, string_part}
use Rattle.reapi_messages.specs.Capabilities.{get_capabilities_request_of, get_capabilities_request_records, FitsGetCapabilitiesRequest, sem_ver_of, sem_ver_records, FitsSemVer, action_cache_update_capabilities_of, action_cache_update_capabilities_records, FitsActionCacheUpdateCapabilities, cache_capabilities_of, cache_capabilities_records, FitsCacheCapabilities, execution_capabilities_of, execution_capabilities_records, FitsExecutionCapabilities, server_capabilities_of, server_capabilities_records, FitsServerCapabilities}

pub get_capabilities_request_again : AreReadAgain get_capabilities_request_of get_capabilities_request_records FitsGetCapabilitiesRequest
unfolding get_capabilities_request_of
get_capabilities_request_again v h short =
    let found = is_written (string_part 1 v.instance_name ∷ []) refl short in
    rw (found.parsed, string_again 1 v.instance_name _ h.instance_name found.places.0) refl

pub sem_ver_again : AreReadAgain sem_ver_of sem_ver_records FitsSemVer
unfolding sem_ver_of
sem_ver_again v h short =
    let found = is_written (int32_part 1 v.major h.major ∷ int32_part 2 v.minor h.minor ∷ []) refl short in
    rw (found.parsed, int32_again 1 v.major _ h.major found.places.0, int32_again 2 v.minor _ h.minor found.places.1.0) refl

pub action_cache_update_capabilities_again : AreReadAgain action_cache_update_capabilities_of action_cache_update_capabilities_records
    FitsActionCacheUpdateCapabilities
unfolding action_cache_update_capabilities_of
action_cache_update_capabilities_again v h short =
    let found = is_written (flag_part 1 v.update_enabled ∷ []) refl short in
    rw (found.parsed, flag_again 1 v.update_enabled _ found.places.0) refl

pub cache_capabilities_again : AreReadAgain cache_capabilities_of cache_capabilities_records FitsCacheCapabilities
unfolding cache_capabilities_of
cache_capabilities_again v h short =
    let found = is_written (repeated_enum_part 1 v.digest_functions ∷
    embedded_part 2 action_cache_update_capabilities_records v.action_cache_update_capabilities ∷
    int64_part 4 v.max_batch_total_size_bytes h.max_batch_total_size_bytes ∷
    int32_part 5 v.symlink_absolute_path_strategy h.symlink_absolute_path_strategy ∷ []) refl short in
    rw (
      found.parsed,
      repeated_enum_again 1 v.digest_functions _ h.digest_functions found.places.0,
      embedded_fits action_cache_update_capabilities_of action_cache_update_capabilities_records FitsActionCacheUpdateCapabilities action_cache_update_capabilities_again 2 v.action_cache_update_capabilities _ h.action_cache_update_capabilities found.shorts.1.0 found.places.1.0,
      int64_again 4 v.max_batch_total_size_bytes _ h.max_batch_total_size_bytes found.places.1.1.0,
      int32_again 5 v.symlink_absolute_path_strategy _ h.symlink_absolute_path_strategy found.places.1.1.1.0,
    ) refl

pub execution_capabilities_again : AreReadAgain execution_capabilities_of execution_capabilities_records FitsExecutionCapabilities
unfolding execution_capabilities_of
execution_capabilities_again v h short =
    let found = is_written (int32_part 1 v.digest_function h.digest_function ∷ flag_part 2 v.exec_enabled ∷ []) refl short in
    rw (
      found.parsed,
      int32_again 1 v.digest_function _ h.digest_function found.places.0,
      flag_again 2 v.exec_enabled _ found.places.1.0,
    ) refl

pub server_capabilities_again : AreReadAgain server_capabilities_of server_capabilities_records FitsServerCapabilities
unfolding server_capabilities_of
server_capabilities_again v h short =
    let found = is_written (embedded_part 1 cache_capabilities_records v.cache_capabilities ∷
    embedded_part 2 execution_capabilities_records v.execution_capabilities ∷ embedded_part 4 sem_ver_records v.low_api_version ∷
    embedded_part 5 sem_ver_records v.high_api_version ∷ []) refl short in
    rw (
      found.parsed,
      embedded_fits cache_capabilities_of cache_capabilities_records FitsCacheCapabilities cache_capabilities_again 1 v.cache_capabilities _ h.cache_capabilities found.shorts.0 found.places.0,
      embedded_fits execution_capabilities_of execution_capabilities_records FitsExecutionCapabilities execution_capabilities_again 2 v.execution_capabilities _ h.execution_capabilities found.shorts.1.0 found.places.1.0,
      embedded_fits sem_ver_of sem_ver_records FitsSemVer sem_ver_again 4 v.low_api_version _ h.low_api_version found.shorts.1.1.0 found.places.1.1.0,
      embedded_fits sem_ver_of sem_ver_records FitsSemVer sem_ver_again 5 v.high_api_version _ h.high_api_version found.shorts.1.1.1.0 found.places.1.1.1.0,
    ) refl
