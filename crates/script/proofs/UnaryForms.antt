-- A line is good exactly where it has one of the forms.
use Rattle.std.proofs.Common.{◌≡◌, ◌≢◌, ℕ, ◌<◌, ◌==◌, Bool, true, false, ◌&&◌, inl, inr, cond, not, List, [], ◌∷◌, length, get_or, Some, None, codes, refl, sym, ap, ◌∙◌, arith}
use Rattle.std.specs.Prelude.{nat_le, nat_lt, is_none, option_map, option_and_then}
use Rattle.std.proofs.lemmas.Bool.Decides.{nat_tests}
use Rattle.std.proofs.lemmas.List.Elements.{All-nil, All-cons}
use Rattle.std.proofs.lemmas.List.Splits.{join_with_byte-slice_split}
use Rattle.std.proofs.lemmas.List.Sums.{list_all-from_AllPass, passes_at_first}
use Rattle.std.proofs.lemmas.Slice.Eq.{bytes_eq-Decides}
use Rattle.std.specs.List.{All, position_or_len}
use Rattle.std.specs.Str.{bytes_eq}
use Rattle.script.specs.Hexadecimal.{bytes_of_hex, hex_word}
use Rattle.numerals.specs.Number.{decimal_of, is_decimal_digit}
use Rattle.script.specs.Parts.{spaced_line, words_of}
use Rattle.script.proofs.HexadecimalLemmas.{IsBytes-bytes_of_hex, Lacks_space-hex_word, bytes_of_hex-hex_word, hex_word-bytes_of_hex}
use Rattle.numerals.proofs.NumberLemmas.{digits-decimal_of}
use Rattle.script.proofs.SplitLemmas.{Lacks, Lacks-passing, parts_of-join}
use Rattle.server_events.specs.Instance.{IsInstanceName, is_instance_name_byte, quota_limit}
use Rattle.server_events.proofs.NameLemmas.{is_instance_name-true}
use Rattle.script.specs.declared.unary.method.Method.{Method}
use Rattle.script.specs.declared.unary.method.Method.TheVariants.{FindMissingBlobs, BatchUpdateBlobs, BatchReadBlobs}
use Rattle.script.specs.UnaryLines.{HasGoodInstances, IsCallLine, IsGoodUnaryLine, IsUnaryInstanceLine, IsPutLine}
use Rattle.script.specs.Method.{method_name, method_named}
use Rattle.script.specs.UnaryScript.{InstanceValue, UnaryScriptValue, put, call, after_unary_line, after_unary_words, call_of, instance_if_good, instance_of, instance_index, put_of, with_command, with_instance}
use Rattle.script.proofs.LineLemmas.{nothing_left}
use Rattle.script.proofs.Somes.{mapped, chained, chosen, if_some}
use Rattle.script.proofs.WellFormedLemmas.{instance_of-made}

-- ---- from a good line to its form

method_named-is : (word : List ℕ) (method : Method) → method_named word ≡ Some method → word ≡ method_name method
method_named-is word method h =
    go (bytes_eq word (method_name FindMissingBlobs)) refl (bytes_eq word (method_name BatchUpdateBlobs)) refl
    (bytes_eq word (method_name BatchReadBlobs)) refl h
  where
    go : (find : Bool) → bytes_eq word (method_name FindMissingBlobs) ≡ find
        → (update : Bool) → bytes_eq word (method_name BatchUpdateBlobs) ≡ update
        → (read : Bool) → bytes_eq word (method_name BatchReadBlobs) ≡ read
        → cond find (Some FindMissingBlobs) (cond update (Some BatchUpdateBlobs) (cond read (Some BatchReadBlobs) None)) ≡ Some method
        → word ≡ method_name method
    go true f update u read r h =
        let same : FindMissingBlobs ≡ method = cc in
        rw (← same) ((bytes_eq-Decides word (method_name FindMissingBlobs)).0 f)
    go false f true u read r h =
        let same : BatchUpdateBlobs ≡ method = cc in
        rw (← same) ((bytes_eq-Decides word (method_name BatchUpdateBlobs)).0 u)
    go false f false u true r h =
        let same : BatchReadBlobs ≡ method = cc in
        rw (← same) ((bytes_eq-Decides word (method_name BatchReadBlobs)).0 r)
    go false f false u false r h = cc

instance_form : (before after : UnaryScriptValue) (line : List ℕ) (arguments : List (List ℕ)) (instance : InstanceValue)
    → line ≡ spaced_line (codes "instance" ∷ arguments) → before.commands ≡ [] → instance_of before.instances arguments ≡ Some instance
    → with_instance before instance ≡ after → IsUnaryInstanceLine before line after
instance_form before after line [] instance form first h adds = cc
instance_form before after line (a ∷ []) instance form first h adds = cc
instance_form before after line (name ∷ digits ∷ []) instance form first h adds =
    let made = instance_of-made before.instances name digits instance h in
    record {
      name = name;
      digits = digits;
      quota = made.0;
      form = form;
      number = made.1;
      first = first;
      good_name = made.2.name;
      good_quota = made.2.quota;
      new_name = made.2.other;
      adds = sym adds ∙ ap (with_instance before) (sym made.3);
    }
instance_form before after line (a ∷ b ∷ c ∷ more) instance form first h adds = cc

put_form : (before after : UnaryScriptValue) (line : List ℕ) (arguments : List (List ℕ))
    → line ≡ spaced_line (codes "put" ∷ arguments) → option_map (with_command before) (put_of before.instances arguments) ≡ Some after
    → IsPutLine before line after
put_form before after line [] form h = cc
put_form before after line (a ∷ []) form h = cc
put_form before after line (name ∷ word ∷ []) form h =
    let added = mapped (with_command before) (put_of before.instances (name ∷ word ∷ [])) after h in
    let placed = chained (λ place. option_map (put place) (bytes_of_hex word)) (instance_index before.instances name) added.0 added.1 in
    let read = mapped (put placed.0) (bytes_of_hex word) added.0 placed.2 in
    record {
      name = name;
      place = placed.0;
      content = read.0;
      form = form ∙ ap (λ w. spaced_line (codes "put" ∷ name ∷ w ∷ [])) (hex_word-bytes_of_hex word read.0 read.1);
      bytes = IsBytes-bytes_of_hex word read.0 read.1;
      known = placed.1;
      adds = sym added.2 ∙ ap (with_command before) (sym read.2);
    }
put_form before after line (a ∷ b ∷ c ∷ more) form h = cc

call_form : (before after : UnaryScriptValue) (line : List ℕ) (arguments : List (List ℕ))
    → line ≡ spaced_line (codes "call" ∷ arguments) → option_map (with_command before) (call_of before.instances arguments) ≡ Some after
    → IsCallLine before line after
call_form before after line [] form h = cc
call_form before after line (a ∷ []) form h = cc
call_form before after line (a ∷ b ∷ []) form h = cc
call_form before after line (name ∷ method ∷ word ∷ []) form h =
    let added = mapped (with_command before) (call_of before.instances (name ∷ method ∷ word ∷ [])) after h in
    let placed = chained (λ place. option_and_then (λ called. option_map (call place called) (bytes_of_hex word)) (method_named method))
    (instance_index before.instances name) added.0 added.1 in
    let named = chained (λ called. option_map (call placed.0 called) (bytes_of_hex word)) (method_named method) added.0 placed.2 in
    let read = mapped (call placed.0 named.0) (bytes_of_hex word) added.0 named.2 in
    record {
      name = name;
      place = placed.0;
      method = named.0;
      message = read.0;
      form = form
          ∙ ap (λ m. spaced_line (codes "call" ∷ name ∷ m ∷ word ∷ [])) (method_named-is method named.0 named.1)
          ∙ ap (λ w. spaced_line (codes "call" ∷ name ∷ method_name named.0 ∷ w ∷ [])) (hex_word-bytes_of_hex word read.0 read.1);
      bytes = IsBytes-bytes_of_hex word read.0 read.1;
      known = placed.1;
      adds = sym added.2 ∙ ap (with_command before) (sym read.2);
    }
call_form before after line (a ∷ b ∷ c ∷ d ∷ more) form h = cc

words_form : (before after : UnaryScriptValue) (line : List ℕ) (kind : List ℕ) (arguments : List (List ℕ))
    → line ≡ spaced_line (kind ∷ arguments) → after_unary_words before (kind ∷ arguments) ≡ Some after → IsGoodUnaryLine before line after
words_form before after line kind arguments form h =
    go (bytes_eq kind (codes "instance")) refl (bytes_eq kind (codes "put")) refl (bytes_eq kind (codes "call")) refl h
  where
    spelled : (word : List ℕ) → bytes_eq kind word ≡ true → line ≡ spaced_line (word ∷ arguments)
    spelled word e = form ∙ ap (λ w. spaced_line (w ∷ arguments)) ((bytes_eq-Decides kind word).0 e)

    go : (configures : Bool) → bytes_eq kind (codes "instance") ≡ configures
        → (puts : Bool) → bytes_eq kind (codes "put") ≡ puts
        → (calls : Bool) → bytes_eq kind (codes "call") ≡ calls
        → cond configures (cond (length before.commands == 0)
        (option_map (with_instance before) (instance_of before.instances arguments)) None)
        (cond puts (option_map (with_command before) (put_of before.instances arguments))
        (cond calls (option_map (with_command before) (call_of before.instances arguments)) None)) ≡ Some after
        → IsGoodUnaryLine before line after
    go true i puts p calls c h =
        let early = if_some (length before.commands == 0)
        (option_map (with_instance before) (instance_of before.instances arguments)) after h in
        let added = mapped (with_instance before) (instance_of before.instances arguments) after early.1 in
        inr (inl (instance_form before after line arguments added.0 (spelled (codes "instance") i)
        (nothing_left before.commands early.0) added.1 added.2))
    go false i true p calls c h = inr (inr (inl (put_form before after line arguments (spelled (codes "put") p) h)))
    go false i false p true c h = inr (inr (inr (call_form before after line arguments (spelled (codes "call") c) h)))
    go false i false p false c h = cc

split_form : (before after : UnaryScriptValue) (line : List ℕ) (words : List (List ℕ)) → line ≡ spaced_line words →
    after_unary_words before words ≡ Some after
    → IsGoodUnaryLine before line after
split_form before after line [] form h = cc
split_form before after line (kind ∷ arguments) form h = words_form before after line kind arguments form h

pub IsGoodUnaryLine-from_Some : (before after : UnaryScriptValue) (line : List ℕ) → after_unary_line before line ≡ Some after →
    IsGoodUnaryLine before line after
IsGoodUnaryLine-from_Some before after [] h = inl (refl, cc)
IsGoodUnaryLine-from_Some before after (byte ∷ line) h =
    split_form before after (byte ∷ line) (words_of (byte ∷ line)) (sym (join_with_byte-slice_split 32 (byte ∷ line))) h

-- ---- from a form to a good line

Lacks-word : (word : List ℕ) → Lacks 32 word → (words : List (List ℕ)) → All (Lacks 32) words → All (Lacks 32) (word ∷ words)
Lacks-word word h words k = All-cons (Lacks 32) word words h k

Lacks-name : (name : List ℕ) → IsInstanceName name → Lacks 32 name
Lacks-name name h = Lacks-passing is_instance_name_byte 32 refl name (list_all-from_AllPass is_instance_name_byte name h.plain)

Lacks-digits : (digits : List ℕ) (quota : ℕ) → decimal_of digits ≡ Some quota → Lacks 32 digits
Lacks-digits digits quota h = Lacks-passing is_decimal_digit 32 refl digits (digits-decimal_of digits quota h)

is_no_space : ℕ → Bool
is_no_space byte = not (byte == 32)

Lacks-method_name : (method : Method) → Lacks 32 (method_name method)
unfolding is_no_space
Lacks-method_name FindMissingBlobs = Lacks-passing is_no_space 32 refl (codes "FindMissingBlobs") refl
Lacks-method_name BatchUpdateBlobs = Lacks-passing is_no_space 32 refl (codes "BatchUpdateBlobs") refl
Lacks-method_name BatchReadBlobs = Lacks-passing is_no_space 32 refl (codes "BatchReadBlobs") refl

method_named-method_name : (method : Method) → method_named (method_name method) ≡ Some method
method_named-method_name FindMissingBlobs = refl
method_named-method_name BatchUpdateBlobs = refl
method_named-method_name BatchReadBlobs = refl

no_instance : InstanceValue
no_instance = record { name = []; quota = 0 }

-- the name of a known instance has no space
Lacks-known : (known : List InstanceValue) (name : List ℕ) (place : ℕ) → HasGoodInstances known → instance_index known name ≡ Some place →
    Lacks 32 name
Lacks-known known name place good h =
    let p = λ (instance : InstanceValue). bytes_eq instance.name name in
    let found = chosen (nat_lt (position_or_len p known) (length known)) (position_or_len p known) place h in
    let test = found.0 in
    let within : position_or_len p known < length known = grind (arith, nat_tests) in
    let same = (bytes_eq-Decides (get_or known (position_or_len p known) no_instance).name name).0
    (passes_at_first p known no_instance within) in
    rw (← same) (Lacks-name (get_or known (position_or_len p known) no_instance).name
    (good.names (position_or_len p known) no_instance within))

not_known : (b : Bool) (at : ℕ) → (b ≡ true → ⊥) → is_none (cond b (Some at) None) ≡ true
not_known true at h = absurd (h refl)
not_known false at h = refl

is_none-instance_index : (known : List InstanceValue) (name : List ℕ) → All (λ other. name ≢ other.name) known →
    is_none (instance_index known name) ≡ true
is_none-instance_index known name new =
    let p = λ (instance : InstanceValue). bytes_eq instance.name name in
    not_known (nat_lt (position_or_len p known) (length known)) (position_or_len p known)
    (λ test.
    let within : position_or_len p known < length known = grind (arith, nat_tests) in
    let same = (bytes_eq-Decides (get_or known (position_or_len p known) no_instance).name name).0
    (passes_at_first p known no_instance within) in
    new (position_or_len p known) no_instance within (sym same))

Some-from_instance : (before after : UnaryScriptValue) (line : List ℕ) → IsUnaryInstanceLine before line after →
    after_unary_line before line ≡ Some after
Some-from_instance before after line h =
    let apart = Lacks-word (codes "instance") (Lacks-passing is_instance_name_byte 32 refl (codes "instance") refl) (h.name ∷ h.digits ∷ [])
    (Lacks-word h.name (Lacks-name h.name h.good_name) (h.digits ∷ [])
    (Lacks-word h.digits (Lacks-digits h.digits h.quota h.number) [] (All-nil _))) in
    let split = parts_of-join 32 (codes "instance") (h.name ∷ h.digits ∷ []) apart in
    let fits = h.good_quota in
    let small : nat_le h.quota quota_limit ≡ true = grind (arith, nat_tests) in
    let read : instance_of before.instances (h.name ∷ h.digits ∷ []) ≡ Some (record { name = h.name; quota = h.quota }) =
    ap (option_and_then (instance_if_good before.instances h.name)) h.number
    ∙ ap (λ b. cond ((b && nat_le h.quota quota_limit) && is_none (instance_index before.instances h.name))
    (Some (record { name = h.name; quota = h.quota })) None) (is_instance_name-true h.name h.good_name)
    ∙ ap (λ b. cond (b && is_none (instance_index before.instances h.name)) (Some (record { name = h.name; quota = h.quota })) None) small
    ∙ ap (λ b. cond b (Some (record { name = h.name; quota = h.quota })) None)
    (is_none-instance_index before.instances h.name h.new_name) in
    ap (after_unary_line before) h.form ∙ ap (after_unary_words before) split
    ∙ ap (λ commands. cond (length commands == 0)
    (option_map (with_instance before) (instance_of before.instances (h.name ∷ h.digits ∷ []))) None) h.first
    ∙ ap (option_map (with_instance before)) read ∙ ap Some (sym h.adds)

Some-from_put : (before after : UnaryScriptValue) (line : List ℕ) → HasGoodInstances before.instances → IsPutLine before line after →
    after_unary_line before line ≡ Some after
Some-from_put before after line good h =
    let apart = Lacks-word (codes "put") (Lacks-passing is_instance_name_byte 32 refl (codes "put") refl) (h.name ∷ hex_word h.content ∷ [])
    (Lacks-word h.name (Lacks-known before.instances h.name h.place good h.known) (hex_word h.content ∷ [])
    (Lacks-word (hex_word h.content) (Lacks_space-hex_word h.content h.bytes) [] (All-nil _))) in
    let split = parts_of-join 32 (codes "put") (h.name ∷ hex_word h.content ∷ []) apart in
    let read : put_of before.instances (h.name ∷ hex_word h.content ∷ []) ≡ Some (put h.place h.content) =
    ap (option_and_then (λ place. option_map (put place) (bytes_of_hex (hex_word h.content)))) h.known
    ∙ ap (option_map (put h.place)) (bytes_of_hex-hex_word h.content h.bytes) in
    ap (after_unary_line before) h.form ∙ ap (after_unary_words before) split
    ∙ ap (option_map (with_command before)) read ∙ ap Some (sym h.adds)

Some-from_call : (before after : UnaryScriptValue) (line : List ℕ) → HasGoodInstances before.instances → IsCallLine before line after →
    after_unary_line before line ≡ Some after
Some-from_call before after line good h =
    let apart = Lacks-word (codes "call") (Lacks-passing is_instance_name_byte 32 refl (codes "call") refl)
    (h.name ∷ method_name h.method ∷ hex_word h.message ∷ [])
    (Lacks-word h.name (Lacks-known before.instances h.name h.place good h.known) (method_name h.method ∷ hex_word h.message ∷ [])
    (Lacks-word (method_name h.method) (Lacks-method_name h.method) (hex_word h.message ∷ [])
    (Lacks-word (hex_word h.message) (Lacks_space-hex_word h.message h.bytes) [] (All-nil _)))) in
    let split = parts_of-join 32 (codes "call") (h.name ∷ method_name h.method ∷ hex_word h.message ∷ []) apart in
    let read : call_of before.instances (h.name ∷ method_name h.method ∷ hex_word h.message ∷ []) ≡ Some (call h.place h.method h.message) =
    ap (option_and_then (λ place. option_and_then (λ called. option_map (call place called) (bytes_of_hex (hex_word h.message)))
    (method_named (method_name h.method)))) h.known
    ∙ ap (option_and_then (λ called. option_map (call h.place called) (bytes_of_hex (hex_word h.message))))
    (method_named-method_name h.method)
    ∙ ap (option_map (call h.place h.method)) (bytes_of_hex-hex_word h.message h.bytes) in
    ap (after_unary_line before) h.form ∙ ap (after_unary_words before) split
    ∙ ap (option_map (with_command before)) read ∙ ap Some (sym h.adds)

pub Some-from_IsGoodLine : (before after : UnaryScriptValue) (line : List ℕ) → HasGoodInstances before.instances →
    IsGoodUnaryLine before line after
    → after_unary_line before line ≡ Some after
Some-from_IsGoodLine before after line good (inl empty) = ap (after_unary_line before) empty.0 ∙ ap Some (sym empty.1)
Some-from_IsGoodLine before after line good (inr (inl instance)) = Some-from_instance before after line instance
Some-from_IsGoodLine before after line good (inr (inr (inl puts))) = Some-from_put before after line good puts
Some-from_IsGoodLine before after line good (inr (inr (inr calls))) = Some-from_call before after line good calls
