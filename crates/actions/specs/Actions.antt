-- Which actions are taken (remote_execution.proto, Action).
use Rattle.std.specs.Prelude.{ℕ, ℤ, pos, ◌+◌, ◌*◌, ◌/◌, Bool, not, List, Option, Some, None, Result, Ok, Err, nat_lt, nat_le, ◌==◌, ◌&&◌, ◌||◌, if◌then◌else◌}
use Rattle.protobuf_wire.specs.declared.error.MessageError.{MessageError}
use Rattle.protobuf_wire.specs.Fields.{value_of_text}
use Rattle.digest.specs.declared.Digest.{Digest}
use Rattle.input_tree.specs.Directories.{written_digest}
use Rattle.execution_messages.specs.Actions.{ActionValue, DurationValue, action_of}

-- how long an action may run, in milliseconds, where nothing is said
abbrev pub longest : ℕ
longest = 3600000

-- a time of seconds and nanoseconds is at most an hour; one of zero stands for an hour
abbrev pub is_timeout : ℕ → ℕ → Bool
is_timeout seconds nanos =
    (nat_lt seconds 3600 && nat_le nanos 999999999) || (seconds == 3600 && nanos == 0)

abbrev pub milliseconds : ℕ → ℕ → ℕ
milliseconds seconds nanos =
    if seconds == 0 && nanos == 0 then longest else seconds * 1000 + nanos / 1000000

abbrev pub duration_of_numbers : ℤ → ℤ → Option ℕ
duration_of_numbers (pos seconds) (pos nanos) =
    if is_timeout seconds nanos then Some (milliseconds seconds nanos) else None
duration_of_numbers _ _ = None

abbrev pub timeout_of : Option DurationValue → Option ℕ
timeout_of None = Some longest
timeout_of (Some v) = duration_of_numbers v.seconds v.nanos

-- an action that is taken: the digests of its command and of its input tree, how many milliseconds
-- it may run, and whether its result is stored
pub record ActionTaken : Type 0 where
  pub command : Digest
  pub root : Digest
  pub timeout : ℕ
  pub is_stored : Bool

abbrev pub and_then : {A B : Type 0} → Option A → (A → Option B) → Option B
and_then None step = None
and_then (Some x) step = step x

abbrev pub action_taken : ActionValue → Option ActionTaken
action_taken v =
    and_then (written_digest v.command_digest)
    (λ command. and_then (written_digest v.input_root_digest)
    (λ root. and_then (timeout_of v.timeout)
    (λ timeout. Some (record {
      command = command;
      root = root;
      timeout = timeout;
      is_stored = not v.do_not_cache;
    }))))

abbrev pub taken_or_none : Result ActionValue MessageError → Option ActionTaken
taken_or_none (Ok v) = action_taken v
taken_or_none (Err e) = None

-- the action that a text spells
abbrev pub action_in : List ℕ → Option ActionTaken
action_in text = taken_or_none (value_of_text action_of text)
