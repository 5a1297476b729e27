-- The message of a request that waits for its end is one that came for its call.
use Rattle.std.specs.Prelude.{◌≡◌, ◌⊎◌, ℕ, List, [], ◌∷◌, Some}
use Rattle.std.specs.List.{AllByRecursion}
use Rattle.instance_core.specs.declared.event.CallId.{CallId}
use Rattle.instance_core.specs.Calls.{Calls, ProgressValue, waits, has, writes, watches, CallValue, CallEventValue, head, fault, end, cancel, tick, start_jobs, end_late_jobs, end_job}
use Rattle.instance_core.specs.Calls as Comes
use Rattle.instance_core.specs.NamedReplies.{Request, request_at}
use Rattle.instance_core.specs.State.{InstanceState}

-- messages that came, each for a call
abbrev pub CameMessages : Type 0
CameMessages = List (CallId × List ℕ)

abbrev pub message_in : CallEventValue → CameMessages
message_in (Comes.message id bytes) = (id, bytes) ∷ []
message_in (head id method) = []
message_in (fault id refusal) = []
message_in (end id) = []
message_in (cancel id) = []
message_in tick = []
message_in start_jobs = []
message_in end_late_jobs = []
message_in (end_job n outcome) = []

abbrev pub HasCome : CameMessages → CallId → List ℕ → Type 0
HasCome [] id bytes = ⊥
HasCome (c ∷ came) id bytes = ((c.0 ≡ id) × (c.1 ≡ bytes)) ⊎ HasCome came id bytes

abbrev pub HasKept : CameMessages → CallId → ProgressValue → Type 0
HasKept came id waits = Unit {0}
HasKept came id (has bytes) = HasCome came id bytes
HasKept came id (writes write) = Unit {0}
HasKept came id (watches n) = Unit {0}

-- what is kept of each call came for it
abbrev pub HaveKept : CameMessages → Calls → Type 0
HaveKept came calls =
    AllByRecursion (λ (c : CallId × CallValue). HasKept came c.0 c.1.progress) calls

-- the request that is answered at the end of a call is a message that came for it
abbrev pub IsAnsweredAsCame : CameMessages → InstanceState → CallId → Type 0
IsAnsweredAsCame came s id =
    (request : Request) → request_at s (end id) ≡ Some request → HasCome came id request.message
