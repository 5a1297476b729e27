-- GetCapabilities (remote_execution.proto): what the server offers.
use Rattle.std.specs.Prelude.{ℕ, pos, true, nat_lt, List, [], ◌∷◌, Some, Result, Ok}
use Rattle.reapi_messages.specs.Results.{◌>>=◌}
use Rattle.reapi_messages.specs.Fields.{value_of_text}
use Rattle.reapi_messages.specs.Parts.{text_for}
use Rattle.reapi_messages.specs.Capabilities.{SemVerValue, ActionCacheUpdateCapabilitiesValue, CacheCapabilitiesValue, ExecutionCapabilitiesValue, ServerCapabilitiesValue, get_capabilities_request_of, server_capabilities_records}
use Rattle.rpc.specs.declared.refusal.Refusal.{Refusal}
use Rattle.cas_service.specs.Requests.{message_or_refusal, instance_check}
use Rattle.cas_service.specs.declared.requests.TheConstants.{MOST_BATCH_BYTES}

-- version 2.0 of the interface
abbrev pub version : SemVerValue
version = record { major = pos 2; minor = pos 0 }

abbrev pub updates : ActionCacheUpdateCapabilitiesValue
updates = record { update_enabled = true }

-- digests are by SHA-256 and by SHA-512 (DigestFunction.Value 1 and 6), a batch has at most
-- MOST_BATCH_BYTES, absolute targets of symbolic links are DISALLOWED
-- (SymlinkAbsolutePathStrategy.Value 1)
abbrev pub cache : CacheCapabilitiesValue
cache = record {
  digest_functions = pos 1 ∷ pos 6 ∷ [];
  action_cache_update_capabilities = Some updates;
  max_batch_total_size_bytes = pos MOST_BATCH_BYTES;
  symlink_absolute_path_strategy = pos 1;
}

-- actions are run where there are slots for them; the one function that is named here is SHA-256,
-- and an action under the other is run too
abbrev pub execution : ℕ → ExecutionCapabilitiesValue
execution slots = record { digest_function = pos 1; exec_enabled = nat_lt 0 slots }

abbrev pub capabilities : ℕ → ServerCapabilitiesValue
capabilities slots = record {
  cache_capabilities = Some cache;
  execution_capabilities = Some (execution slots);
  low_api_version = Some version;
  high_api_version = Some version;
}

abbrev pub capabilities_message : ℕ → List ℕ
capabilities_message slots = text_for server_capabilities_records (capabilities slots)

-- the request has to read as one, and to name the own instance
unfoldable pub capabilities_asked : List ℕ → List ℕ → Result Unit Refusal
capabilities_asked own message = do
  request ← message_or_refusal (value_of_text get_capabilities_request_of message)
  instance_check own request.instance_name

-- the reply's message, for an instance of this name with so many slots
abbrev pub get_capabilities_reply : List ℕ → ℕ → List ℕ → Result (List ℕ) Refusal
get_capabilities_reply own slots message =
    capabilities_asked own message >>= λ _. Ok (capabilities_message slots)
