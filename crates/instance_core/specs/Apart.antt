-- The calls of one connection: calls in course without them, and their events and replies.
use Rattle.std.specs.Prelude.{◌≡◌, ℕ, Bool, true, ◌==◌, not, filter, List, Option, Some, None}
use Rattle.std.specs.List.{AllByRecursion}
use Rattle.instance_core.specs.declared.event.CallId.{CallId}
use Rattle.instance_core.specs.declared.event.Reply.{Reply}
use Rattle.instance_core.specs.Calls.{Calls, CallValue, CallEventValue, head, message, fault, end, cancel, tick, start_jobs, end_late_jobs, end_job}
use Rattle.instance_core.specs.Replies.{ReplyValue}

-- a call on another connection
abbrev pub is_apart : ℕ → CallId × CallValue → Bool
is_apart connection c = not (c.0.connection == connection)

-- the calls in course but those on this connection, in their order
abbrev pub calls_apart : ℕ → Calls → Calls
calls_apart connection calls = filter (is_apart connection) calls

-- an event of a call on connection c, or time that passes
abbrev pub IsCallOn : ℕ → CallEventValue → Type 0
IsCallOn c (head id method) = id.connection ≡ c
IsCallOn c (message id bytes) = id.connection ≡ c
IsCallOn c (fault id refusal) = id.connection ≡ c
IsCallOn c (end id) = id.connection ≡ c
IsCallOn c (cancel id) = id.connection ≡ c
IsCallOn c tick = Unit {0}
IsCallOn c start_jobs = ⊥
IsCallOn c end_late_jobs = ⊥
IsCallOn c (end_job n outcome) = ⊥

-- replies to calls on connection c
abbrev pub AreRepliesTo : ℕ → List Reply → Type 0
AreRepliesTo c replies = AllByRecursion (λ reply. reply.call.connection ≡ c) replies

-- of replies, those to calls on connection c
abbrev pub replies_on : ℕ → List ReplyValue → List ReplyValue
replies_on c replies = filter (λ (r : ReplyValue). r.call.connection == c) replies

-- .. or all, where it is none
abbrev pub replies_to : Option ℕ → List ReplyValue → List ReplyValue
replies_to None replies = replies
replies_to (Some c) replies = replies_on c replies

-- a call is on this connection, or on any, where it is none
abbrev pub hears : Option ℕ → CallId → Bool
hears None id = true
hears (Some c) id = id.connection == c
