-- A call of Execute is answered by a short message.
use Rattle.std.proofs.Common.{◌≡◌, ℕ, ◌+◌, ◌≤◌, Bool, true, false, cond, is_some, nat_eq, nat_le, nat_lt, List, [], ◌∷◌, ◌++◌, length, map, Option, Some, None, Result, Ok, Err, refl, subst, arith}
use Rattle.std.specs.Prelude.{IfOk}
use Rattle.std.specs.List.{AllByRecursion}
use Rattle.std.specs.Map.{lookup}
use Rattle.digest.specs.declared.Digest.{Digest}
use Rattle.digest.specs.Naming.{same_digest}
use Rattle.protobuf_wire.specs.Results.{◌>>=◌}
use Rattle.instance_view.specs.Visible.{Blob, blobs_length}
use Rattle.input_tree.specs.Listing.{Lookup}
use Rattle.action_cache.specs.Answering.{blobs_for, blobs_used}
use Rattle.action_cache.specs.Complete.{and_then}
use Rattle.actions.specs.Actions.{ActionTaken, action_in}
use Rattle.actions.specs.Commands.{command_in}
use Rattle.job_queue.specs.declared.queue.TheConstants.{LAST_NUMBER, MOST_WAITING}
use Rattle.execution_messages.specs.declared.fault.Fault.TheVariants.{BadCommand}
use Rattle.execution_messages.specs.Progress.{completed_text, finds}
use Rattle.rpc.specs.declared.refusal.Refusal.{Refusal}
use Rattle.rpc.specs.declared.refusal.Refusal.TheVariants.{ExecutionIsOff, QueueFull}
use Rattle.actions.specs.Walk.{Nodes, bad_directory, missing, too_deep, too_many, walk}
use Rattle.tree_calls.specs.Complete.{LimitsValue, IsLimits, AreResultsWithin}
use Rattle.execution.specs.Execute.{Does, ExecuteChange, ExecuteDone, ExecutionState, Pushes, Uses, by_job, by_looking, by_preparing, execute, look_in, looked_up, refused}
use Rattle.execution.specs.Preparing.{FaultValue, PreparedValue, action_found, action_or_fault, command_found, fault_alone, job_of, met, prepared, prepared_with, with_command}
use Rattle.outcomes.specs.Short.{HasForm}
use Rattle.outcomes.specs.Told.{IsShortExecuteAnswer, IsToldChange}
use Rattle.outcomes.proofs.Forms.{HasForms, action_forms}
use Rattle.outcomes.proofs.Walks.{AreMissingFew, walk_few}
use Rattle.outcomes.proofs.Written.{AreFew, found_short, missing_short, queued_short}

-- ---- what is missing

abbrev most_missing : ℕ
most_missing = 10002

-- a fault says of few blobs that they are missing
abbrev IsFewFault : {A : Type 0} → Result A FaultValue → Type 0
IsFewFault (Ok x) = Unit {0}
IsFewFault (Err f) = AreFew most_missing f.missing

none_missing : AreFew most_missing []
none_missing = record { forms = tt; few = omega arith }

one_missing : (d : Digest) → HasForm d → AreFew most_missing (d ∷ [])
one_missing d h = record { forms = (h, tt); few = omega arith }

with_command_few : (d : Digest) (is_there : Bool) (ds : List Digest) → HasForm d → AreFew 10001 ds →
    AreFew most_missing (with_command d is_there ds)
with_command_few d true ds h few = let count = few.few in record { forms = few.forms; few = omega arith }
with_command_few d false ds h few = let count = few.few in record { forms = (h, few.forms); few = omega arith }

prepared_few : (a : ActionTaken) (command : Option (List ℕ)) (r : Nodes) → HasForms a → AreMissingFew 10001 r →
    IsFewFault (prepared_with a command r)
prepared_few a command (Err (missing ds)) h few = with_command_few a.command (is_some command) ds h.command_form few
prepared_few a command (Err bad_directory) h few = none_missing
prepared_few a command (Err too_many) h few = none_missing
prepared_few a command (Err too_deep) h few = none_missing
prepared_few a None (Ok nodes) h few = one_missing a.command h.command_form
prepared_few a (Some text) (Ok nodes) h few = tt

command_few : (o : Option (List ℕ)) → IsFewFault (command_found o)
command_few None = tt
command_few (Some text) = go (is_some (command_in text)) where
  go : (b : Bool) → IsFewFault (cond b (Ok (Some text)) (Err (fault_alone BadCommand)))
  go true = tt
  go false = none_missing

-- an action that is taken has digests of their form
abbrev IsActionFound : Result ActionTaken FaultValue → Type 0
IsActionFound (Ok a) = HasForms a
IsActionFound (Err f) = AreFew most_missing f.missing

action_few : (d : Digest) (o : Option (List ℕ)) → HasForm d → IsActionFound (action_found d o)
action_few d None h = one_missing d h
action_few d (Some text) h = go (action_in text) refl where
  go : (o : Option ActionTaken) → action_in text ≡ o → IsActionFound (action_or_fault o)
  go None is = none_missing
  go (Some a) is = action_forms text a is

steps_few : (look : Lookup) (r : Result ActionTaken FaultValue) → IsActionFound r →
    IsFewFault (r >>= λ a. command_found (look a.command) >>= λ command. prepared_with a command (walk look a.root))
steps_few look (Err f) few = few
steps_few look (Ok a) forms = go (command_found (look a.command)) (command_few (look a.command)) where
  go : (r : Result (Option (List ℕ)) FaultValue) → IsFewFault r → IsFewFault (r >>= λ command. prepared_with a command (walk look a.root))
  go (Err f) few = few
  go (Ok command) few = prepared_few a command (walk look a.root) forms (walk_few look a.root forms.root_form)

preparing_few : (look : Lookup) (d : Digest) → HasForm d → IsFewFault (prepared look d)
preparing_few look d h = steps_few look (action_found d (look d)) (action_few d (look d) h)

pub missing_few : (look : Lookup) (d : Digest) (f : FaultValue) → HasForm d → prepared look d ≡ Err f → length f.missing ≤ 10002
missing_few look d f h is = let known : IsFewFault {A = PreparedValue} (Err f) = subst IsFewFault is (preparing_few look d h) in known.few

-- ---- stored results

pub stored_short : (t : Digest → Bool) (results : List Blob) (text : List ℕ) → lookup t results ≡ Some text →
    length text ≤ blobs_length results
stored_short t [] text h = absurd (cc)
stored_short t (b ∷ bs) text h = go (t b.0) h (λ later. stored_short t bs text later) where
  go : (c : Bool) → cond c (Some b.1) (lookup t bs) ≡ Some text → (lookup t bs ≡ Some text → length text ≤ blobs_length bs) →
      length text ≤ length b.1 + blobs_length bs
  go true h later = let e : b.1 ≡ text = cc in rw (← e) (omega arith)
  go false h later = let rest = later h in omega arith

then_stored : {A : Type 0} (o : Option A) (stored : Option (List ℕ)) (text : List ℕ) → and_then o (λ _. stored) ≡ Some text →
    stored ≡ Some text
then_stored None stored text h = absurd (cc)
then_stored (Some x) stored text h = h

looked_up_short : (skip : Bool) (look : Lookup) (d : Digest) (results : List Blob) (text : List ℕ) →
    looked_up skip look d results ≡ Some text → length text ≤ blobs_length results
looked_up_short true look d results text h = absurd (cc)
looked_up_short false look d results text h = stored_short (same_digest d) results text
    (then_stored (blobs_for look d results) (lookup (same_digest d) results) text h)

-- ---- answers

-- the answer is short, and the changes keep jobs so that they are told of shortly
pub record IsToldDone (x : ExecuteDone) : Type 0 where
  pub answered : IfOk x.answer IsShortExecuteAnswer
  pub changed : AllByRecursion IsToldChange x.changes

refusal_told : (refusal : Refusal) → IsToldDone (refused refusal)
refusal_told refusal = record { answered = tt; changed = tt }

after_uses : (ds : List Digest) (cs : List ExecuteChange) → AllByRecursion IsToldChange cs → AllByRecursion IsToldChange (map Uses ds ++ cs)
after_uses [] cs h = h
after_uses (d ∷ ds) cs h = (tt, after_uses ds cs h)

module _ (s : ExecutionState) (d : Digest) (few : s.jobs.next ≤ LAST_NUMBER + 1) (h : HasForm d) where
  job_told : (p : PreparedValue) → IsToldDone (by_job s d p)
  job_told p = go (nat_le MOST_WAITING (length s.jobs.waiting)) refl where
    go : (b : Bool) → nat_le MOST_WAITING (length s.jobs.waiting) ≡ b → IsToldDone (by_job s d p)
    go true full = rw full (refusal_told QueueFull)
    go false room =
        let short = queued_short s.jobs.next d few h in
        rw room (record { answered = omega arith; changed = after_uses (met d p) (Pushes (job_of (look_in s) d p) ∷ []) (h, tt) })

  preparing_told : (r : Result PreparedValue FaultValue) → IsFewFault r → IsToldDone (by_preparing s d r)
  preparing_told (Ok p) faults = job_told p
  preparing_told (Err f) faults =
      let count = faults.few in
      let short = missing_short s.jobs.next d f.fault f.missing few h faults.forms (omega arith) in
      record { answered = omega arith; changed = (omega arith, tt) }

  looking_told : (o : Option (List ℕ)) → ((text : List ℕ) → o ≡ Some text → length text ≤ 2147483648) → IsToldDone (by_looking s d o)
  looking_told None stored = preparing_told (prepared (look_in s) d) (preparing_few (look_in s) d h)
  looking_told (Some text) stored =
      let room = stored text refl in
      let short = found_short s.jobs.next d text few h (omega arith) in
      record {
        answered = omega arith;
        changed = (
          tt,
          after_uses (blobs_used (look_in s) d s.results)
              (Does (completed_text s.jobs.next d (finds text)) ∷ []) (omega arith, tt),
        );
      }

pub execute_told : (limits : LimitsValue) (slots : ℕ) (s : ExecutionState) (skip : Bool) (d : Digest) → s.jobs.next ≤ LAST_NUMBER + 1 →
    IsLimits limits → AreResultsWithin limits s.results → HasForm d → IsToldDone (execute slots s skip d)
execute_told limits slots s skip d few good within h = off (nat_eq slots 0) refl where
  stored : (text : List ℕ) → looked_up skip (look_in s) d s.results ≡ Some text → length text ≤ 2147483648
  stored text is = let one = looked_up_short skip (look_in s) d s.results text is in let all = within.short in let most =
      good.short_results in omega arith

  left : (b : Bool) → nat_eq slots 0 ≡ false → nat_lt LAST_NUMBER s.jobs.next ≡ b → IsToldDone (execute slots s skip d)
  left true on none = rw (on, none) (refusal_told QueueFull)
  left false on some = rw (on, some) (looking_told s d few h (looked_up skip (look_in s) d s.results) stored)

  off : (b : Bool) → nat_eq slots 0 ≡ b → IsToldDone (execute slots s skip d)
  off true none = rw none (refusal_told ExecutionIsOff)
  off false on = left (nat_lt LAST_NUMBER s.jobs.next) on refl

pub execute_short : (limits : LimitsValue) (slots : ℕ) (s : ExecutionState) (skip : Bool) (d : Digest) → s.jobs.next ≤ LAST_NUMBER + 1 →
    IsLimits limits → AreResultsWithin limits s.results → HasForm d → IfOk (execute slots s skip d).answer IsShortExecuteAnswer
execute_short limits slots s skip d few good within h = (execute_told limits slots s skip d few good within h).answered
