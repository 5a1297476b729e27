-- What calls of Execution ask for (remote_execution.proto). An ExecuteRequest is tested as each
-- request is, in this order: the message is read, the instance is the own one, the digest function
-- is known, the digest has its form, by that function. A WaitExecutionRequest has but a name.
use Rattle.std.specs.Prelude.{ℕ, Bool, List, Result, Ok}
use Rattle.reapi_messages.specs.Results.{◌>>=◌}
use Rattle.reapi_messages.specs.Fields.{value_of_text}
use Rattle.execution_messages.specs.Requests.{execute_request_of, wait_execution_request_of}
use Rattle.rpc.specs.declared.refusal.Refusal.{Refusal}
use Rattle.digest.specs.declared.Digest.{Digest}
use Rattle.cas_service.specs.Requests.{message_or_refusal, instance_check, function_asked, digest_or_refusal}
use Rattle.execution.specs.declared.asked.Asked.{Asked}

-- the digest of the action, and whether a stored result is no answer
pub record ExecuteAskedValue : Type 0 where
  pub action : Digest
  pub skips_lookup : Bool

abbrev pub execute_asked_shown : Asked → ExecuteAskedValue
execute_asked_shown a = record { action = a.action; skips_lookup = a.skips_lookup }

-- what an ExecuteRequest asks for
unfoldable pub execute_asked : List ℕ → List ℕ → Result ExecuteAskedValue Refusal
execute_asked own message = do
  request ← message_or_refusal (value_of_text execute_request_of message)
  _ ← instance_check own request.instance_name
  function ← function_asked request.digest_function
  action ← digest_or_refusal function request.action_digest
  Ok (record { action = action; skips_lookup = request.skip_cache_lookup })

-- the name that a WaitExecutionRequest asks for
unfoldable pub name_asked : List ℕ → Result (List ℕ) Refusal
name_asked message = do
  request ← message_or_refusal (value_of_text wait_execution_request_of message)
  Ok request.name
