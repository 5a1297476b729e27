-- What the outputs of a run print is what each instance prints alone.
use Rattle.std.proofs.Common.{◌≡◌, ◌∙◌, ◌+◌, ◌-◌, ◌<◌, ◌≤◌, ◌++◌, suc, ℕ, List, [], ◌∷◌, length, map, Some, None, refl, sym, ap, ap₂, subst, arith, append_assoc, append-nil, length-append}
use Rattle.std.specs.Prelude.{◌^◌, Result, Ok, Err, IfOk}
use Rattle.std.specs.declared.alloc.Global.{Global}
use Rattle.std.specs.declared.vec.Vec.{Vec}
use Rattle.server_core.specs.Outputs.{InstanceOutputValue}
use Rattle.server_core.specs.Shown.{instance_output_shown}
use Rattle.server_core.specs.declared.outputs.InstanceOutput.{InstanceOutput}
use Rattle.script.specs.ReplayScript.{ReplayScriptValue}
use Rattle.server_core.specs.RunSoFar.{HasTaken, RunValue}
use Rattle.server_core.specs.Families.{family_in, family_events}
use Rattle.server_core.specs.LoneOutput.{config_at, lone_output, strays}
use Rattle.server_core.specs.Shown.{output_at}
use Rattle.server_events.specs.Configs.{ConfigValue, config_fault, parent_of}
use Rattle.server_events.specs.Events.{EventValue}
use Rattle.server_events.proofs.FaultLemmas.{none_is_good}
use Rattle.tool_programs.specs.Printed.{lone_lines, output_lines, printed_text, stray_lines}
use Rattle.tool_programs.specs.Outputs.{outputs_lines}

same_output : (a b : InstanceOutputValue) → Some a ≡ Some b → a ≡ b
same_output a b e = cc

from_first : (all configs : List ConfigValue) (events : List EventValue) (first : ℕ) (outputs : List InstanceOutput)
    → length outputs ≡ length configs
    → ((i : ℕ) (config : ConfigValue) → config_at i configs ≡ Some config →
    output_at i outputs ≡ Some (lone_output (family_in all config) (family_events (first + i) (parent_of all config) events)))
    → outputs_lines first (map instance_output_shown outputs) ≡ lone_lines all first configs events
from_first all [] events first [] count each = refl
from_first all [] events first (output ∷ outputs) count each = let no : ⊥ = omega (arith, count) in absurd no
from_first all (config ∷ configs) events first [] count each = let no : ⊥ = omega (arith, count) in absurd no
from_first all (config ∷ configs) events first (output ∷ outputs) count each =
    let here : first + 0 ≡ first = omega arith in
    let head : instance_output_shown output ≡ lone_output (family_in all config) (family_events first (parent_of all config) events) =
    same_output _ _ (each 0 config refl) ∙ ap (λ (i : ℕ). lone_output (family_in all config)
    (family_events i (parent_of all config) events)) here in
    let tail : (i : ℕ) (c : ConfigValue) → config_at i configs ≡ Some c →
    output_at i outputs ≡ Some (lone_output (family_in all c) (family_events ((first + 1) + i) (parent_of all c) events)) =
    λ i c at. let next : first + suc i ≡ (first + 1) + i = omega arith in
    each (suc i) c at ∙ ap (λ (j : ℕ). Some (lone_output (family_in all c) (family_events j (parent_of all c) events))) next in
    let rest : length outputs ≡ length configs = omega (arith, count) in
    ap₂ (λ (xs ys : List ℕ). xs ++ ys) (ap (output_lines first) head) (from_first all configs events (first + 1) outputs rest tail)

all_alone : (configs : List ConfigValue) (events : List EventValue) (outputs : List InstanceOutput) → length outputs ≡ length configs
    → ((i : ℕ) (config : ConfigValue) → config_at i configs ≡ Some config →
    output_at i outputs ≡ Some (lone_output (family_in configs config) (family_events i (parent_of configs config) events)))
    → outputs_lines 0 (map instance_output_shown outputs) ≡ lone_lines configs 0 configs events
all_alone configs events outputs count each =
    from_first configs configs events 0 outputs count
    (λ i config at. let zeroth : 0 + i ≡ i = omega arith in
    each i config at ∙ ap (λ (j : ℕ). Some (lone_output (family_in configs config) (family_events j (parent_of configs config) events)))
    (sym zeroth))

-- each instance gave its output
abbrev pub AreOutputs : List ConfigValue → List EventValue → List InstanceOutput → Type 0
AreOutputs configs events outputs =
    (i : ℕ) (config : ConfigValue) → config_at i configs ≡ Some config →
    output_at i outputs ≡ Some (lone_output (family_in configs config) (family_events i (parent_of configs config) events))

-- what the outputs of a script's run print
pub printed_is : (script : ReplayScriptValue) (outputs : List InstanceOutput) (others : List ℕ)
    → length outputs ≡ length script.configs
    → AreOutputs script.configs script.events outputs
    → others ≡ strays script.configs script.events
    → outputs_lines 0 (map instance_output_shown outputs) ++ stray_lines others ≡ printed_text script
printed_is script outputs others count each stray =
    ap₂ (λ (xs ys : List ℕ). xs ++ ys) (all_alone script.configs script.events outputs count each) (ap stray_lines stray)

-- a server has few instances
pub few : (configs : List ConfigValue) → config_fault configs ≡ None → length configs < 2 ^ 32
few configs good = let limit = ((none_is_good configs).0 good).few in omega (arith, limit)

-- the same of lines that were made, if they were
pub lines_are : {E : Type 0} (r : Result (Vec ℕ Global) E) (script : ReplayScriptValue) (outputs : List InstanceOutput) (others : List ℕ)
    → length outputs ≡ length script.configs
    → AreOutputs script.configs script.events outputs
    → others ≡ strays script.configs script.events
    → IfOk r (λ text. text.items ≡ outputs_lines 0 (map instance_output_shown outputs) ++ stray_lines others)
    → IfOk r (λ text. text.items ≡ printed_text script)
lines_are (Err e) script outputs others count each stray made = tt
lines_are (Ok text) script outputs others count each stray made =
    made ∙ printed_is script outputs others count each stray

-- the events of a run so far, and those that are left, are all
abbrev pub IsSoFar : List ConfigValue → List EventValue → List EventValue → RunValue → Type 0
IsSoFar configs all left run = (done : List EventValue) × HasTaken configs done run × (done ++ left ≡ all)

pub one_more : (configs : List ConfigValue) (all left rest : List EventValue) (e : EventValue) (before after : RunValue) → left ≡ e ∷ rest
    → ((cs : List ConfigValue) (es : List EventValue) → HasTaken cs es before → HasTaken cs (es ++ e ∷ []) after)
    → IsSoFar configs all left before → IsSoFar configs all rest after
one_more configs all left rest e before after first step h =
    (h.0 ++ e ∷ [], step configs h.0 h.1, append_assoc h.0 (e ∷ []) rest ∙ ap (λ es. h.0 ++ es) (sym first) ∙ h.2)

-- nothing is left
pub all_taken : (configs : List ConfigValue) (all left : List EventValue) (run : RunValue) → left ≡ [] → IsSoFar configs all left run →
    HasTaken configs all run
all_taken configs all left run none so =
    let done : so.0 ≡ all = sym (append-nil so.0) ∙ ap (λ (es : List EventValue). so.0 ++ es) (sym none) ∙ so.2 in
    subst (λ (es : List EventValue). HasTaken configs es run) done so.1

-- a run of few events has room for one more
pub has_room : (configs : List ConfigValue) (all left : List EventValue) (run : RunValue) → IsSoFar configs all left run →
    length all ≤ 2 ^ 63 → run.count < 2 ^ 64 - 1
has_room configs all left run so few =
    let parts : length (so.0 ++ left) ≡ length so.0 + length left = length-append so.0 left in
    let whole : length (so.0 ++ left) ≡ length all = ap length so.2 in
    let count : run.count ≡ length so.0 = so.1.count in
    omega (arith, parts, whole, count, few)
