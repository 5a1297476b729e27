-- An action read record by record is the one that its text means.
use Rattle.std.proofs.Common.{◌≡◌, ℕ, ℤ, pos, Bool, false, List, [], ◌∷◌, ◌++◌, Option, Some, None, Result, Ok, Err, refl, sym, ap, ◌∙◌}
use Rattle.std.specs.Prelude.{nat_lt, option_map, unwrap_or}
use Rattle.std.specs.Int.{w64, cast_signed}
use Rattle.protobuf_wire.specs.Results.{◌>>=◌}
use Rattle.protobuf_wire.specs.Reading.{records_of}
use Rattle.protobuf_wire.specs.declared.field.WireError.{WireError}
use Rattle.protobuf_wire.specs.declared.error.MessageError.{MessageError}
use Rattle.protobuf_wire.specs.Record.{Record}
use Rattle.protobuf_wire.specs.Answers.{of_wire}
use Rattle.protobuf_wire.specs.Fields.{embedded_value, flag, int32, int32_of, int64, last_or, number_in, numbers, payload_in, payloads, records_in, string, value_of_text}
use Rattle.protobuf_wire.specs.Joining.{joined_records, optional_value}
use Rattle.protobuf_wire.proofs.Submessages.{embedded_is_joined}
use Rattle.reapi_messages.specs.Digests.{DigestValue, digest_of}
use Rattle.input_tree.specs.NodeTexts.{and_then, number_after, readable, with_all, with_left}
use Rattle.input_tree.proofs.NodeRecords.{none_after}
use Rattle.execution_messages.specs.Actions.{ActionValue, DurationValue, action_of, duration_of}
use Rattle.actions.specs.Actions.{taken_or_none}
use Rattle.actions.specs.Texts.{string_after}
use Rattle.actions.specs.ActionTexts.{message_or, message_after, digest_after, no_digest, duration_after, no_duration, digest_field_after, duration_field_after, action_after, no_action, taken_action}
use Rattle.actions.proofs.Records.{both, both_same, beside, beside_are, seen_along, string_is, text_is}

-- ---- numbers

module _ {C : Type 0} (meaning : ℕ → C) (field : ℕ) where
  abbrev number_step : C → Record → Option C
  number_step last r = Some (number_after meaning field last r)

  number_is : (n : ℕ) (rs : List Record) → with_all number_step (meaning n) rs ≡ Some (meaning (last_or n (numbers field rs)))
  unfolding numbers last_or
  number_is n [] = refl
  number_is n (r ∷ rs) = go (number_in field r) refl (λ m. number_is m rs) where
    go : (o : Option ℕ) → number_in field r ≡ o →
        ((m : ℕ) → with_all number_step (meaning m) rs ≡ Some (meaning (last_or m (numbers field rs)))) →
        with_all number_step (meaning n) (r ∷ rs) ≡ Some (meaning (last_or n (numbers field (r ∷ rs))))
    go None at later = rw at (later n)
    go (Some m) at later = rw at (later m)

-- ---- an embedded message, which may stand several times

then_same : {A B : Type 0} (o : Option A) (k l : A → Option B) → ((a : A) → k a ≡ l a) → and_then o k ≡ and_then o l
then_same None k l h = refl
then_same (Some a) k l h = h a

there_is : {A : Type 0} (o : Option A) → and_then o (λ x. Some x) ≡ o
there_is None = refl
there_is (Some x) = refl

module _ {V : Type 0} (step : V → Record → Option V) (none : V) (value_of : List Record → Result V MessageError)
    (is : (rs : List Record) → with_all step none rs ≡ readable (value_of rs)) where
  all_both : (a : V) (rs ss : List Record) → with_all step a (rs ++ ss) ≡ and_then (with_all step a rs) (λ b. with_all step b ss)
  all_both a [] ss = refl
  all_both a (r ∷ rs) ss = go (step a r) (λ b. all_both b rs ss) where
    go : (o : Option V) → ((b : V) → with_all step b (rs ++ ss) ≡ and_then (with_all step b rs) (λ c. with_all step c ss)) →
        and_then o (λ b. with_all step b (rs ++ ss)) ≡ and_then (and_then o (λ b. with_all step b rs)) (λ c. with_all step c ss)
    go None later = refl
    go (Some b) later = later b

  abbrev left_in : V → Result (List Record) MessageError → Option V
  left_in a (Err e) = None
  left_in a (Ok rs) = with_all step a rs

  left_is : (a : V) (text : List ℕ) → with_left step a (records_of text) ≡ left_in a (records_in text)
  unfolding records_in
  left_is a text = go (records_of text) where
    go : (rs : Result (List Record) WireError) → with_left step a rs ≡ left_in a (of_wire rs)
    go (Err e) = refl
    go (Ok rs) = refl

  abbrev more_text : Option V → List ℕ → Option (Option V)
  more_text d b = message_or step none d (Some b)

  abbrev along_texts : Option V → List (List ℕ) → Option (Option V)
  along_texts d [] = Some d
  along_texts d (b ∷ bs) = and_then (more_text d b) (λ e. along_texts e bs)

  payloads_are : (field : ℕ) (d : Option V) (rs : List Record) →
      with_all (message_after step none field) d rs ≡ along_texts d (payloads field rs)
  unfolding payloads
  payloads_are field d [] = refl
  payloads_are field d (r ∷ rs) = go (payload_in field r) refl (λ e. payloads_are field e rs) where
    go : (o : Option (List ℕ)) → payload_in field r ≡ o →
        ((e : Option V) → with_all (message_after step none field) e rs ≡ along_texts e (payloads field rs)) →
        with_all (message_after step none field) d (r ∷ rs) ≡ along_texts d (payloads field (r ∷ rs))
    go None at later = rw at (later d)
    go (Some b) at later = rw at (then_same (more_text d b) (λ e. with_all (message_after step none field) e rs)
        (λ e. along_texts e (payloads field rs)) later)

  abbrev of_joined : Option (List Record) → Option (Option V)
  of_joined None = Some None
  of_joined (Some rs) = option_map (λ e. Some e) (with_all step none rs)

  abbrev read_joined : Result (Option (List Record)) MessageError → Option (Option V)
  read_joined (Err e) = None
  read_joined (Ok so_far) = of_joined so_far

  text_read : (d : Option V) (b : List ℕ) (x : Result (List Record) MessageError) → records_in b ≡ x →
      more_text d b ≡ option_map (λ e. Some e) (left_in (unwrap_or d none) x)
  text_read d b x at = ap (λ (o : Option V). option_map (λ e. Some e) o) (left_is (unwrap_or d none) b ∙ ap (left_in (unwrap_or d none)) at)

  more_read : (bs : List (List ℕ)) (so_far : Option (List Record)) (rs : List Record) →
      and_then (of_joined so_far) (λ d. and_then (option_map (λ e. Some e) (with_all step (unwrap_or d none) rs)) (λ e. along_texts e bs))
      ≡ and_then (of_joined (Some (unwrap_or so_far [] ++ rs))) (λ d. along_texts d bs)
  more_read bs None rs = refl
  more_read bs (Some front) rs = rw (all_both none front rs) (go (with_all step none front)) where
    go : (o : Option V) → and_then (option_map (λ e. Some e) o)
        (λ d. and_then (option_map (λ e. Some e) (with_all step (unwrap_or d none) rs)) (λ e. along_texts e bs))
        ≡ and_then (option_map (λ e. Some e) (and_then o (λ c. with_all step c rs))) (λ d. along_texts d bs)
    go None = refl
    go (Some c) = refl

  joined_are : (so_far : Option (List Record)) (bs : List (List ℕ)) →
      and_then (of_joined so_far) (λ d. along_texts d bs) ≡ read_joined (joined_records so_far bs)
  unfolding joined_records
  joined_are so_far [] = there_is (of_joined so_far)
  joined_are so_far (b ∷ bs) = go (records_in b) refl (λ rs. joined_are (Some rs) bs) where
    go : (x : Result (List Record) MessageError) → records_in b ≡ x →
        ((rs : List Record) → and_then (of_joined (Some rs)) (λ d. along_texts d bs) ≡ read_joined (joined_records (Some rs) bs)) →
        and_then (of_joined so_far) (λ d. and_then (more_text d b) (λ e. along_texts e bs))
        ≡ read_joined ((x >>= λ rs. Ok (unwrap_or so_far [] ++ rs)) >>= λ rs. joined_records (Some rs) bs)
    go (Err e) at later =
        then_same (of_joined so_far) (λ d. and_then (more_text d b) (λ f. along_texts f bs)) (λ _. None)
        (λ d. ap (λ (o : Option (Option V)). and_then o (λ f. along_texts f bs)) (text_read d b (Err e) at))
        ∙ none_after (of_joined so_far)
    go (Ok rs) at later =
        then_same (of_joined so_far) (λ d. and_then (more_text d b) (λ f. along_texts f bs))
        (λ d. and_then (option_map (λ e. Some e) (with_all step (unwrap_or d none) rs)) (λ f. along_texts f bs))
        (λ d. ap (λ (o : Option (Option V)). and_then o (λ f. along_texts f bs)) (text_read d b (Ok rs) at))
        ∙ more_read bs so_far rs
        ∙ later (unwrap_or so_far [] ++ rs)

  optional_is : (x : Result (Option (List Record)) MessageError) → read_joined x ≡ readable (x >>= optional_value value_of)
  optional_is (Err e) = refl
  optional_is (Ok None) = refl
  optional_is (Ok (Some rs)) = ap (λ (o : Option V). option_map (λ e. Some e) o) (is rs) ∙ go (value_of rs) where
    go : (v : Result V MessageError) → option_map (λ e. Some e) (readable v) ≡ readable (v >>= λ w. Ok (Some w))
    go (Err e) = refl
    go (Ok v) = refl

  embedded_is : (field : ℕ) (rs : List Record) →
      with_all (message_after step none field) None rs ≡ readable (embedded_value value_of field rs)
  embedded_is field rs =
      payloads_are field None rs
      ∙ joined_are None (payloads field rs)
      ∙ optional_is (joined_records None (payloads field rs))
      ∙ ap readable (sym (embedded_is_joined value_of field rs))

-- ---- a digest

abbrev of_digest : List ℕ × ℤ → DigestValue
of_digest p = record { hash = p.0; size_bytes = p.1 }

abbrev digest_step : List ℕ × ℤ → Record → Option (List ℕ × ℤ)
digest_step = beside (string_after 1) (number_step (cast_signed w64) 2)

with_size : (x : Option (List ℕ)) (size : ℤ) →
    and_then x (λ hash. Some (of_digest (hash, size))) ≡ option_map of_digest (both x (Some size))
with_size None size = refl
with_size (Some hash) size = refl

digest_parts_are : (rs : List Record) → with_all digest_step ([], pos 0) rs ≡ both (readable (string 1 rs)) (Some (int64 2 rs))
digest_parts_are rs =
    beside_are (string_after 1) (number_step (cast_signed w64) 2) [] (pos 0) rs
    ∙ both_same (with_all (string_after 1) [] rs) (readable (string 1 rs)) (with_all (number_step (cast_signed w64) 2) (pos 0) rs)
    (Some (int64 2 rs)) (string_is 1 rs) (number_is (cast_signed w64) 2 0 rs)

digest_is : (rs : List Record) → with_all digest_after no_digest rs ≡ readable (digest_of rs)
unfolding digest_of
digest_is rs =
    seen_along of_digest digest_after digest_step (λ p r. with_size (string_after 1 p.0 r) (number_after (cast_signed w64) 2 p.1 r))
    ([], pos 0) rs
    ∙ ap (option_map of_digest) (digest_parts_are rs)
    ∙ go (string 1 rs) where
      go : (x : Result (List ℕ) MessageError) → option_map of_digest (both (readable x) (Some (int64 2 rs)))
          ≡ readable (x >>= λ hash. Ok (of_digest (hash, int64 2 rs)))
      go (Err e) = refl
      go (Ok hash) = refl

-- ---- a time

abbrev of_duration : ℤ × ℤ → DurationValue
of_duration p = record { seconds = p.0; nanos = p.1 }

abbrev duration_step : ℤ × ℤ → Record → Option (ℤ × ℤ)
duration_step = beside (number_step (cast_signed w64) 1) (number_step int32_of 2)

duration_parts_are : (rs : List Record) → with_all duration_step (pos 0, pos 0) rs ≡ Some (int64 1 rs, int32 2 rs)
duration_parts_are rs =
    beside_are (number_step (cast_signed w64) 1) (number_step int32_of 2) (pos 0) (pos 0) rs
    ∙ both_same (with_all (number_step (cast_signed w64) 1) (pos 0) rs) (Some (int64 1 rs)) (with_all (number_step int32_of 2) (pos 0) rs)
    (Some (int32 2 rs)) (number_is (cast_signed w64) 1 0 rs) (number_is int32_of 2 0 rs)

duration_is : (rs : List Record) → with_all duration_after no_duration rs ≡ readable (duration_of rs)
unfolding duration_of
duration_is rs =
    seen_along of_duration duration_after duration_step (λ p r. refl) (pos 0, pos 0) rs
    ∙ ap (option_map of_duration) (duration_parts_are rs)

-- ---- an action

abbrev Told : Type 0
Told = Option DigestValue × (Option DigestValue × (Option DurationValue × Bool))

abbrev of_told : Told → ActionValue
of_told p = record { command_digest = p.0; input_root_digest = p.1.0; timeout = p.1.1.0; do_not_cache = p.1.1.1 }

abbrev from_timeout : Option DurationValue × Bool → Record → Option (Option DurationValue × Bool)
from_timeout = beside (duration_field_after 6) (number_step (nat_lt 0) 7)

abbrev from_root : Option DigestValue × (Option DurationValue × Bool) → Record → Option (Option DigestValue × (Option DurationValue × Bool))
from_root = beside (digest_field_after 2) from_timeout

abbrev told_step : Told → Record → Option Told
told_step = beside (digest_field_after 1) from_root

told_with : (x y : Option (Option DigestValue)) (z : Option (Option DurationValue)) (b : Bool) →
    and_then x (λ c. and_then y (λ r. and_then z (λ t. Some (of_told (c, (r, (t, b)))))))
    ≡ option_map of_told (both x (both y (both z (Some b))))
told_with None y z b = refl
told_with (Some c) None z b = refl
told_with (Some c) (Some r) None b = refl
told_with (Some c) (Some r) (Some t) b = refl

module _ (rs : List Record) where
  abbrev digest_read : ℕ → Option (Option DigestValue)
  digest_read field = readable (embedded_value digest_of field rs)

  abbrev timeout_read : Option (Option DurationValue)
  timeout_read = readable (embedded_value duration_of 6 rs)

  digest_field_is : (field : ℕ) → with_all (digest_field_after field) None rs ≡ digest_read field
  digest_field_is field = embedded_is digest_after no_digest digest_of digest_is field rs

  timeout_are : with_all from_timeout (None, false) rs ≡ both timeout_read (Some (flag 7 rs))
  timeout_are =
      beside_are (duration_field_after 6) (number_step (nat_lt 0) 7) None false rs
      ∙ both_same (with_all (duration_field_after 6) None rs) timeout_read (with_all (number_step (nat_lt 0) 7) false rs) (Some (flag 7 rs))
      (embedded_is duration_after no_duration duration_of duration_is 6 rs) (number_is (nat_lt 0) 7 0 rs)

  root_are : with_all from_root (None, (None, false)) rs ≡ both (digest_read 2) (both timeout_read (Some (flag 7 rs)))
  root_are =
      beside_are (digest_field_after 2) from_timeout None (None, false) rs
      ∙ both_same (with_all (digest_field_after 2) None rs) (digest_read 2) (with_all from_timeout (None, false) rs)
      (both timeout_read (Some (flag 7 rs))) (digest_field_is 2) timeout_are

  told_are : with_all told_step (None, (None, (None, false))) rs
      ≡ both (digest_read 1) (both (digest_read 2) (both timeout_read (Some (flag 7 rs))))
  told_are =
      beside_are (digest_field_after 1) from_root None (None, (None, false)) rs
      ∙ both_same (with_all (digest_field_after 1) None rs) (digest_read 1) (with_all from_root (None, (None, false)) rs)
      (both (digest_read 2) (both timeout_read (Some (flag 7 rs)))) (digest_field_is 1) root_are

action_is : (rs : List Record) → with_all action_after no_action rs ≡ readable (action_of rs)
unfolding action_of
action_is rs =
    seen_along of_told action_after told_step (λ p r. told_with (digest_field_after 1 p.0 r) (digest_field_after 2 p.1.0 r)
    (duration_field_after 6 p.1.1.0 r) (number_after (nat_lt 0) 7 p.1.1.1 r)) (None, (None, (None, false))) rs
    ∙ ap (option_map of_told) (told_are rs)
    ∙ go (embedded_value digest_of 1 rs) (embedded_value digest_of 2 rs) (embedded_value duration_of 6 rs) where
      go : (x y : Result (Option DigestValue) MessageError) (z : Result (Option DurationValue) MessageError) →
          option_map of_told (both (readable x) (both (readable y) (both (readable z) (Some (flag 7 rs)))))
          ≡ readable (x >>= λ c. y >>= λ r. z >>= λ t. Ok (of_told (c, (r, (t, flag 7 rs)))))
      go (Err e) y z = refl
      go (Ok c) (Err e) z = refl
      go (Ok c) (Ok r) (Err e) = refl
      go (Ok c) (Ok r) (Ok t) = refl

pub action_taken_is : (text : List ℕ) → taken_action (with_left action_after no_action (records_of text))
    ≡ taken_or_none (value_of_text action_of text)
action_taken_is text = ap taken_action (text_is action_after no_action action_of action_is text) ∙ go (value_of_text action_of text) where
  go : (x : Result ActionValue MessageError) → taken_action (readable x) ≡ taken_or_none x
  go (Err e) = refl
  go (Ok v) = refl
