-- GetActionResult and UpdateActionResult (remote_execution.proto, ActionCache): functions of the
-- texts that the instance sees, of its own results, and of the message.
use Rattle.std.specs.Prelude.{ℕ, List, Option, Some, None, Result, Ok, Err}
use Rattle.reapi_messages.specs.Results.{◌>>=◌}
use Rattle.rpc.specs.declared.refusal.Refusal.{Refusal}
use Rattle.rpc.specs.declared.refusal.Refusal.TheVariants.{NoResult}
use Rattle.digest.specs.declared.Digest.{Digest}
use Rattle.instance_view.specs.Visible.{Blob}
use Rattle.action_cache.specs.Results.{LimitsValue, results_after_store}
use Rattle.action_cache.specs.Answering.{blobs_used, result_for, results_after}
use Rattle.cas_service.specs.Changes.{TextChange, uses}
use Rattle.tree_calls.specs.Asking.{ResultSentValue, action_asked, result_sent}
use Rattle.tree_calls.specs.GetTree.{texts_seen}

-- ---- GetActionResult

abbrev pub or_no_result : Option (List ℕ) → Result (List ℕ) Refusal
or_no_result None = Err NoResult
or_no_result (Some text) = Ok text

-- the bytes of the action's result, where it is complete
abbrev pub get_action_result_reply : List ℕ → List Blob → List Blob → List ℕ
    → Result (List ℕ) Refusal
get_action_result_reply own visible results message =
    action_asked own message >>=
    λ action. or_no_result (result_for (texts_seen visible) action results)

-- the blobs of a result that is answered are used, in order
abbrev pub get_action_result_changes : List ℕ → List Blob → List Blob → List ℕ → List TextChange
get_action_result_changes own visible results message =
    uses (action_asked own message >>=
    λ action. Ok (blobs_used (texts_seen visible) action results))

abbrev pub after_asking : List Blob → List Blob → Result Digest Refusal → List Blob
after_asking visible results (Ok action) = results_after (texts_seen visible) action results
after_asking visible results (Err refusal) = results

-- a result that is answered becomes the most recently used
abbrev pub after_get : List ℕ → List Blob → List Blob → List ℕ → List Blob
after_get own visible results message = after_asking visible results (action_asked own message)

-- ---- UpdateActionResult

-- the bytes that were sent
abbrev pub update_action_result_reply : List ℕ → List ℕ → Result (List ℕ) Refusal
update_action_result_reply own message = result_sent own message >>= λ sent. Ok sent.text

abbrev pub after_sending : LimitsValue → List Blob → Result ResultSentValue Refusal → List Blob
after_sending limits results (Ok sent) = results_after_store limits sent.action sent.text results
after_sending limits results (Err refusal) = results

-- the result that was sent is the most recently used, in the place of an earlier one
abbrev pub after_update : List ℕ → LimitsValue → List Blob → List ℕ → List Blob
after_update own limits results message = after_sending limits results (result_sent own message)
