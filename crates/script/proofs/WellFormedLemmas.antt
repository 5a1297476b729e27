-- Each good line leaves good instances, and commands for them.
use Rattle.std.proofs.Common.{◌≡◌, ◌≢◌, ℕ, ◌<◌, ◌≤◌, ◌==◌, Bool, true, false, ◌&&◌, cond, List, [], ◌∷◌, ◌++◌, length, map, vec_len, get_or, Option, Some, None, Ok, codes, ap, sym, ◌∙◌, arith}
use Rattle.std.proofs.lemmas.Bool.{and_parts}
use Rattle.std.proofs.lemmas.Bool.Decides.{nat_tests}
use Rattle.std.proofs.lemmas.List.{get_or-map, length-map, length_push}
use Rattle.std.proofs.lemmas.List.Elements.{All-nil, All-push}
use Rattle.std.proofs.lemmas.List.Quantifiers.{all_pairs_push}
use Rattle.std.proofs.lemmas.List.Sums.{fails_before_first}
use Rattle.std.proofs.lemmas.Slice.Eq.{bytes_eq-Decides}
use Rattle.std.specs.List.{All, position_or_len}
use Rattle.std.specs.Prelude.{nat_lt, nat_le, is_none, option_map, option_and_then}
use Rattle.std.specs.Str.{bytes_eq}
use Rattle.std.specs.declared.alloc.Global.{Global}
use Rattle.std.specs.declared.vec.Vec.{Vec}
use Rattle.script.specs.declared.unary.command.Instance.{Instance}
use Rattle.script.specs.declared.unary.parser.UnaryLines.{UnaryLines}
use Rattle.script.specs.UnaryShown.{command_value, entry_value, instance_value}
use Rattle.script.specs.UnaryLinesRead.{lines_value}
use Rattle.script.specs.Hexadecimal.{bytes_of_hex}
use Rattle.numerals.specs.Number.{decimal_of}
use Rattle.script.specs.Parts.{words_of, lines_of}
use Rattle.server_events.specs.Instance.{IsInstanceName, is_instance_name, quota_limit}
use Rattle.server_events.proofs.NameLemmas.{IsInstanceName-from_test}
use Rattle.script.specs.FirstBadLine.{Leads}
use Rattle.script.specs.UnaryLines.{HasGoodInstances, KnowsInstances, instance_place}
use Rattle.script.specs.Method.{method_named}
use Rattle.script.specs.UnaryScript.{InstanceValue, CommandValue, UnaryScriptValue, put, call, after_unary_line, after_unary_words, call_of, empty_unary_script, instance_if_good, instance_of, instance_index, put_of, unary_script_of, with_command, with_instance}
use Rattle.script.proofs.FirstLemmas.{Leads-from_Ok}
use Rattle.script.proofs.Somes.{mapped, chained, chosen, not_found}

-- ---- instances

pub instance_index-lt : (known : List InstanceValue) (name : List ℕ) (place : ℕ) → instance_index known name ≡ Some place →
    place < length known
instance_index-lt known name place h =
    let p = λ (instance : InstanceValue). bytes_eq instance.name name in
    let found = chosen (nat_lt (position_or_len p known) (length known)) (position_or_len p known) place h in
    let test = found.0 in
    rw (← found.1) (grind (arith, nat_tests))

-- a name that was not found is no instance's
pub new_name : (known : List InstanceValue) (name : List ℕ) → is_none (instance_index known name) ≡ true
    → (k : ℕ) (d : InstanceValue) → k < length known → name ≢ (get_or known k d).name
new_name known name h k d lt same =
    let p = λ (instance : InstanceValue). bytes_eq instance.name name in
    let test = not_found (nat_lt (position_or_len p known) (length known)) (position_or_len p known) h in
    let far : length known ≤ position_or_len p known = grind (arith, nat_tests) in
    let fails = fails_before_first p known k d (omega arith) in
    let passes : bytes_eq (get_or known k d).name name ≡ true = (bytes_eq-Decides (get_or known k d).name name).1 (sym same) in
    let clash : false ≡ true = sym fails ∙ passes in
    cc

pub record IsNewInstance (known : List InstanceValue) (instance : InstanceValue) : Type 0 where
  pub name : IsInstanceName instance.name
  pub quota : instance.quota ≤ quota_limit
  pub other : (k : ℕ) (d : InstanceValue) → k < length known → instance.name ≢ (get_or known k d).name

pub IsNewInstance-from_test : (known : List InstanceValue) (name : List ℕ) (quota : ℕ)
    → ((is_instance_name name && nat_le quota quota_limit) && is_none (instance_index known name)) ≡ true
    → IsNewInstance known (record { name = name; quota = quota })
IsNewInstance-from_test known name quota h =
    let last = and_parts (is_instance_name name && nat_le quota quota_limit) (is_none (instance_index known name)) h in
    let first = and_parts (is_instance_name name) (nat_le quota quota_limit) last.0 in
    let small = first.1 in
    record {
      name = IsInstanceName-from_test name first.0;
      quota = grind (arith, nat_tests);
      other = new_name known name last.1;
    }

-- the instance of the words NAME QUOTA
pub instance_of-made : (known : List InstanceValue) (name digits : List ℕ) (instance : InstanceValue)
    → instance_of known (name ∷ digits ∷ []) ≡ Some instance
    → (quota : ℕ) × (decimal_of digits ≡ Some quota) × IsNewInstance known (record { name = name; quota = quota })
    × (record { name = name; quota = quota } ≡ instance)
instance_of-made known name digits instance h =
    let read = chained (instance_if_good known name) (decimal_of digits) instance h in
    let found = chosen ((is_instance_name name && nat_le read.0 quota_limit) && is_none (instance_index known name))
    (record { name = name; quota = read.0 }) instance read.2 in
    (read.0, read.1, IsNewInstance-from_test known name read.0 found.0, found.1)

pub instance_of-is_new : (known : List InstanceValue) (words : List (List ℕ)) (instance : InstanceValue)
    → instance_of known words ≡ Some instance → IsNewInstance known instance
instance_of-is_new known [] instance h = cc
instance_of-is_new known (a ∷ []) instance h = cc
instance_of-is_new known (name ∷ quota ∷ []) instance h =
    let made = instance_of-made known name quota instance h in
    rw (← made.3) made.2
instance_of-is_new known (a ∷ b ∷ c ∷ more) instance h = cc

HasGoodInstances-push : (known : List InstanceValue) (instance : InstanceValue) → HasGoodInstances known → IsNewInstance known instance
    → HasGoodInstances (known ++ instance ∷ [])
HasGoodInstances-push known instance h new = record {
  names = All-push (λ i. IsInstanceName i.name) known instance h.names new.name;
  quotas = All-push (λ i. i.quota ≤ quota_limit) known instance h.quotas new.quota;
  distinct = all_pairs_push (λ earlier later. later.name ≢ earlier.name) known instance h.distinct new.other;
}

-- ---- commands

put_of-known : (known : List InstanceValue) (words : List (List ℕ)) (command : CommandValue)
    → put_of known words ≡ Some command → instance_place command < length known
put_of-known known [] command h = cc
put_of-known known (a ∷ []) command h = cc
put_of-known known (name ∷ content ∷ []) command h =
    let placed = chained (λ place. option_map (put place) (bytes_of_hex content)) (instance_index known name) command h in
    let made = mapped (put placed.0) (bytes_of_hex content) command placed.2 in
    rw (← made.2) (instance_index-lt known name placed.0 placed.1)
put_of-known known (a ∷ b ∷ c ∷ more) command h = cc

call_of-known : (known : List InstanceValue) (words : List (List ℕ)) (command : CommandValue)
    → call_of known words ≡ Some command → instance_place command < length known
call_of-known known [] command h = cc
call_of-known known (a ∷ []) command h = cc
call_of-known known (a ∷ b ∷ []) command h = cc
call_of-known known (name ∷ method ∷ message ∷ []) command h =
    let placed = chained (λ place. option_and_then (λ called. option_map (call place called) (bytes_of_hex message)) (method_named method))
    (instance_index known name) command h in
    let named = chained (λ called. option_map (call placed.0 called) (bytes_of_hex message)) (method_named method) command placed.2 in
    let made = mapped (call placed.0 named.0) (bytes_of_hex message) command named.2 in
    rw (← made.2) (instance_index-lt known name placed.0 placed.1)
call_of-known known (a ∷ b ∷ c ∷ d ∷ more) command h = cc

-- ---- scripts

pub record IsWellFormed (script : UnaryScriptValue) : Type 0 where
  pub instances : HasGoodInstances script.instances
  pub commands : KnowsInstances script

IsWellFormed-with_instance : (script : UnaryScriptValue) (instance : InstanceValue) → IsWellFormed script →
    IsNewInstance script.instances instance
    → IsWellFormed (with_instance script instance)
IsWellFormed-with_instance script instance h new = record {
  instances = HasGoodInstances-push script.instances instance h.instances new;
  commands = λ k d lt. let before = h.commands k d lt in let longer = length_push script.instances instance in
      omega (arith, before, longer);
}

IsWellFormed-with_command : (script : UnaryScriptValue) (command : CommandValue) → IsWellFormed script →
    instance_place command < length script.instances
    → IsWellFormed (with_command script command)
IsWellFormed-with_command script command h known = record {
  instances = h.instances;
  commands = All-push (λ c. instance_place c < length script.instances) script.commands command h.commands known;
}

-- the answer of `after_unary_words`, by the tests of the first word
answer_of : (configures late puts calls : Bool) → UnaryScriptValue → List (List ℕ) → Option UnaryScriptValue
answer_of configures early puts calls script arguments =
    cond configures (cond early (option_map (with_instance script) (instance_of script.instances arguments)) None)
    (cond puts (option_map (with_command script) (put_of script.instances arguments))
    (cond calls (option_map (with_command script) (call_of script.instances arguments)) None))

IsWellFormed-answer_of : (configures early puts calls : Bool) (script next : UnaryScriptValue) (arguments : List (List ℕ)) →
    IsWellFormed script
    → answer_of configures early puts calls script arguments ≡ Some next → IsWellFormed next
unfolding answer_of
IsWellFormed-answer_of true true puts calls script next arguments h e =
    let made = mapped (with_instance script) (instance_of script.instances arguments) next e in
    rw (← made.2) (IsWellFormed-with_instance script made.0 h (instance_of-is_new script.instances arguments made.0 made.1))
IsWellFormed-answer_of true false puts calls script next arguments h e = cc
IsWellFormed-answer_of false early true calls script next arguments h e =
    let made = mapped (with_command script) (put_of script.instances arguments) next e in
    rw (← made.2) (IsWellFormed-with_command script made.0 h (put_of-known script.instances arguments made.0 made.1))
IsWellFormed-answer_of false early false true script next arguments h e =
    let made = mapped (with_command script) (call_of script.instances arguments) next e in
    rw (← made.2) (IsWellFormed-with_command script made.0 h (call_of-known script.instances arguments made.0 made.1))
IsWellFormed-answer_of false early false false script next arguments h e = cc

IsWellFormed-after_unary_words : (script next : UnaryScriptValue) (words : List (List ℕ)) → IsWellFormed script →
    after_unary_words script words ≡ Some next → IsWellFormed next
unfolding answer_of
IsWellFormed-after_unary_words script next [] h e = cc
IsWellFormed-after_unary_words script next (kind ∷ arguments) h e =
    IsWellFormed-answer_of (bytes_eq kind (codes "instance")) (length script.commands == 0) (bytes_eq kind (codes "put"))
    (bytes_eq kind (codes "call")) script next arguments h e

IsWellFormed-after_unary_line : (script next : UnaryScriptValue) (line : List ℕ) → IsWellFormed script →
    after_unary_line script line ≡ Some next → IsWellFormed next
IsWellFormed-after_unary_line script next [] h e = let same : script ≡ next = cc in rw (← same) h
IsWellFormed-after_unary_line script next (byte ∷ line) h e = IsWellFormed-after_unary_words script next (words_of (byte ∷ line)) h e

IsWellFormed-Leads : (from to : UnaryScriptValue) (lines : List (List ℕ)) → IsWellFormed from → Leads after_unary_line from lines to →
    IsWellFormed to
IsWellFormed-Leads from to [] h leads = rw (← leads) h
IsWellFormed-Leads from to (line ∷ lines) h leads =
    IsWellFormed-Leads leads.0 to lines (IsWellFormed-after_unary_line from leads.0 line h leads.1) leads.2

IsWellFormed-empty_unary_script : IsWellFormed empty_unary_script
IsWellFormed-empty_unary_script = record {
  instances = record { names = All-nil _; quotas = All-nil _; distinct = λ i j d below lt. absurd (omega arith) };
  commands = All-nil _;
}

pub IsWellFormed-unary_script_of : (text : List ℕ) (script : UnaryScriptValue) → unary_script_of text ≡ Ok script → IsWellFormed script
IsWellFormed-unary_script_of text script read =
    IsWellFormed-Leads empty_unary_script script (lines_of text) IsWellFormed-empty_unary_script
    (Leads-from_Ok after_unary_line 1 empty_unary_script script (lines_of text) read)

-- the same of commands and instances as their types show them
pub KnowsInstances-read : (lines : UnaryLines) (instances : Vec Instance Global) →
    map instance_value instances.items ≡ map entry_value lines.quotas.entries
    → KnowsInstances (lines_value lines) → All (λ command. instance_place (command_value command) < vec_len instances) lines.commands.items
KnowsInstances-read lines instances same h k d lt =
    let commands = lines.commands.items in
    let within : k < length (map command_value commands) = rw length-map lt in
    let shown = h k (command_value d) within in
    let here = get_or-map command_value commands k d (command_value d) lt in
    let many : length instances.items ≡ length (map entry_value lines.quotas.entries) =
    sym (length-map instances.items instance_value) ∙ ap length same in
    let known = rw here at shown in
    let counted = instances.ok in
    omega (arith, known, many, counted)
