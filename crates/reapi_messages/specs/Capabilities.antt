-- Capabilities of build.bazel.remote.execution.v2, and build.bazel.semver.SemVer
use Rattle.std.specs.Prelude.{◌≡◌, true, ⊤, Bool, ℕ, ℤ, List, ◌++◌, option_map, Option, Result, Ok, IfSome, FitsSigned}
use Rattle.std.specs.Str.{is_utf8}
use Rattle.std.specs.Int.{w32, w64}
use Rattle.std.specs.List.{AllByRecursion}
use Rattle.protobuf_wire.specs.declared.error.MessageError.{MessageError}
use Rattle.protobuf_wire.specs.Results.{◌>>=◌}
use Rattle.protobuf_wire.specs.Record.{Record}
use Rattle.protobuf_wire.specs.Fields.{embedded_value, flag, int32, int64, repeated_enum, string}
use Rattle.protobuf_wire.specs.Parts.{embedded_field, flag_field, int32_field, int64_field, repeated_enum_field, string_field}
use Rattle.reapi_messages.specs.declared.capabilities.GetCapabilitiesRequest.{GetCapabilitiesRequest}
use Rattle.reapi_messages.specs.declared.capabilities.SemVer.{SemVer}
use Rattle.reapi_messages.specs.declared.capabilities.ActionCacheUpdateCapabilities.{ActionCacheUpdateCapabilities}
use Rattle.reapi_messages.specs.declared.capabilities.CacheCapabilities.{CacheCapabilities}
use Rattle.reapi_messages.specs.declared.capabilities.ExecutionCapabilities.{ExecutionCapabilities}
use Rattle.reapi_messages.specs.declared.capabilities.ServerCapabilities.{ServerCapabilities}

-- instance_name 1
pub record GetCapabilitiesRequestValue : Type 0 where
  pub instance_name : List ℕ

abbrev pub get_capabilities_request_shown : GetCapabilitiesRequest → GetCapabilitiesRequestValue
get_capabilities_request_shown m = record { instance_name = m.instance_name.now }

unfoldable pub get_capabilities_request_of : List Record →
    Result GetCapabilitiesRequestValue MessageError
get_capabilities_request_of rs = do
  instance_name ← string 1 rs
  Ok (record { instance_name = instance_name })

abbrev pub get_capabilities_request_records : GetCapabilitiesRequestValue → List Record
get_capabilities_request_records v = string_field 1 v.instance_name

-- major 1, minor 2
pub record SemVerValue : Type 0 where
  pub major : ℤ
  pub minor : ℤ

abbrev pub sem_ver_shown : SemVer → SemVerValue
sem_ver_shown m = record { major = m.major; minor = m.minor }

unfoldable pub sem_ver_of : List Record → Result SemVerValue MessageError
sem_ver_of rs = Ok (record { major = int32 1 rs; minor = int32 2 rs })

abbrev pub sem_ver_records : SemVerValue → List Record
sem_ver_records v = int32_field 1 v.major ++ int32_field 2 v.minor

-- update_enabled 1
pub record ActionCacheUpdateCapabilitiesValue : Type 0 where
  pub update_enabled : Bool

abbrev pub action_cache_update_capabilities_shown : ActionCacheUpdateCapabilities →
    ActionCacheUpdateCapabilitiesValue
action_cache_update_capabilities_shown m = record { update_enabled = m.update_enabled }

unfoldable pub action_cache_update_capabilities_of : List Record →
    Result ActionCacheUpdateCapabilitiesValue MessageError
action_cache_update_capabilities_of rs = Ok (record { update_enabled = flag 1 rs })

abbrev pub action_cache_update_capabilities_records : ActionCacheUpdateCapabilitiesValue →
    List Record
action_cache_update_capabilities_records v = flag_field 1 v.update_enabled

-- digest_functions 1 repeated, action_cache_update_capabilities 2, max_batch_total_size_bytes 4,
-- symlink_absolute_path_strategy 5
pub record CacheCapabilitiesValue : Type 0 where
  pub digest_functions : List ℤ
  pub action_cache_update_capabilities : Option ActionCacheUpdateCapabilitiesValue
  pub max_batch_total_size_bytes : ℤ
  pub symlink_absolute_path_strategy : ℤ

abbrev pub cache_capabilities_shown : CacheCapabilities → CacheCapabilitiesValue
cache_capabilities_shown m = record {
  digest_functions = m.digest_functions.items;
  action_cache_update_capabilities = option_map action_cache_update_capabilities_shown
      m.action_cache_update_capabilities;
  max_batch_total_size_bytes = m.max_batch_total_size_bytes;
  symlink_absolute_path_strategy = m.symlink_absolute_path_strategy;
}

unfoldable pub cache_capabilities_of : List Record → Result CacheCapabilitiesValue MessageError
cache_capabilities_of rs = do
  digest_functions ← repeated_enum 1 rs
  action_cache_update_capabilities ← embedded_value action_cache_update_capabilities_of 2 rs
  Ok (record {
    digest_functions = digest_functions;
    action_cache_update_capabilities = action_cache_update_capabilities;
    max_batch_total_size_bytes = int64 4 rs;
    symlink_absolute_path_strategy = int32 5 rs;
  })

abbrev pub cache_capabilities_records : CacheCapabilitiesValue → List Record
cache_capabilities_records v =
    repeated_enum_field 1 v.digest_functions
    ++ embedded_field action_cache_update_capabilities_records 2 v.action_cache_update_capabilities
    ++ int64_field 4 v.max_batch_total_size_bytes ++ int32_field 5 v.symlink_absolute_path_strategy

-- digest_function 1, exec_enabled 2
pub record ExecutionCapabilitiesValue : Type 0 where
  pub digest_function : ℤ
  pub exec_enabled : Bool

abbrev pub execution_capabilities_shown : ExecutionCapabilities → ExecutionCapabilitiesValue
execution_capabilities_shown m =
    record { digest_function = m.digest_function; exec_enabled = m.exec_enabled }

unfoldable pub execution_capabilities_of : List Record →
    Result ExecutionCapabilitiesValue MessageError
execution_capabilities_of rs =
    Ok (record { digest_function = int32 1 rs; exec_enabled = flag 2 rs })

abbrev pub execution_capabilities_records : ExecutionCapabilitiesValue → List Record
execution_capabilities_records v = int32_field 1 v.digest_function ++ flag_field 2 v.exec_enabled

-- cache_capabilities 1, execution_capabilities 2, low_api_version 4, high_api_version 5
pub record ServerCapabilitiesValue : Type 0 where
  pub cache_capabilities : Option CacheCapabilitiesValue
  pub execution_capabilities : Option ExecutionCapabilitiesValue
  pub low_api_version : Option SemVerValue
  pub high_api_version : Option SemVerValue

abbrev pub server_capabilities_shown : ServerCapabilities → ServerCapabilitiesValue
server_capabilities_shown m = record {
  cache_capabilities = option_map cache_capabilities_shown m.cache_capabilities;
  execution_capabilities = option_map execution_capabilities_shown m.execution_capabilities;
  low_api_version = option_map sem_ver_shown m.low_api_version;
  high_api_version = option_map sem_ver_shown m.high_api_version;
}

unfoldable pub server_capabilities_of : List Record → Result ServerCapabilitiesValue MessageError
server_capabilities_of rs = do
  cache_capabilities ← embedded_value cache_capabilities_of 1 rs
  execution_capabilities ← embedded_value execution_capabilities_of 2 rs
  low_api_version ← embedded_value sem_ver_of 4 rs
  high_api_version ← embedded_value sem_ver_of 5 rs
  Ok (record {
    cache_capabilities = cache_capabilities;
    execution_capabilities = execution_capabilities;
    low_api_version = low_api_version;
    high_api_version = high_api_version;
  })

abbrev pub server_capabilities_records : ServerCapabilitiesValue → List Record
server_capabilities_records v =
    embedded_field cache_capabilities_records 1 v.cache_capabilities
    ++ embedded_field execution_capabilities_records 2 v.execution_capabilities
    ++ embedded_field sem_ver_records 4 v.low_api_version
    ++ embedded_field sem_ver_records 5 v.high_api_version

-- ---- what fits the types of the fields

pub record FitsGetCapabilitiesRequest (v : GetCapabilitiesRequestValue) : Type 0 where
  pub instance_name : is_utf8 v.instance_name ≡ true

pub record FitsSemVer (v : SemVerValue) : Type 0 where
  pub major : FitsSigned w32 v.major
  pub minor : FitsSigned w32 v.minor

abbrev pub FitsActionCacheUpdateCapabilities : ActionCacheUpdateCapabilitiesValue → Type 0
FitsActionCacheUpdateCapabilities v = ⊤

pub record FitsCacheCapabilities (v : CacheCapabilitiesValue) : Type 0 where
  pub digest_functions : AllByRecursion (FitsSigned w32) v.digest_functions
  pub action_cache_update_capabilities : IfSome v.action_cache_update_capabilities
      FitsActionCacheUpdateCapabilities
  pub max_batch_total_size_bytes : FitsSigned w64 v.max_batch_total_size_bytes
  pub symlink_absolute_path_strategy : FitsSigned w32 v.symlink_absolute_path_strategy

pub record FitsExecutionCapabilities (v : ExecutionCapabilitiesValue) : Type 0 where
  pub digest_function : FitsSigned w32 v.digest_function

pub record FitsServerCapabilities (v : ServerCapabilitiesValue) : Type 0 where
  pub cache_capabilities : IfSome v.cache_capabilities FitsCacheCapabilities
  pub execution_capabilities : IfSome v.execution_capabilities FitsExecutionCapabilities
  pub low_api_version : IfSome v.low_api_version FitsSemVer
  pub high_api_version : IfSome v.high_api_version FitsSemVer
