-- The records of a run, read as its outputs.
use Rattle.std.proofs.Common.{◌≡◌, ℕ, List, [], ◌∷◌, ◌++◌, length, ap, ◌∙◌, sym, subst, refl, inl, inr}
use Rattle.std.specs.Prelude.{Option, Some, None}
use Rattle.std.specs.Option.{option_map}
use Rattle.std.specs.List.{slice_get}
use Rattle.server_core.specs.declared.outputs.InstanceOutput.{InstanceOutput}
use Rattle.server_core.specs.Outputs.{InstanceOutputValue}
use Rattle.server_core.specs.Runs.{Run, output_of_run}
use Rattle.server_core.specs.Shown.{instance_output_shown}
use Rattle.server_core.specs.Records.{RecordValue, IsRecord}
use Rattle.server_core.specs.Shown.{output_at, parent_output_at}
use Rattle.served_instance.specs.StandsFor.{ServedState}
use Rattle.server_core.specs.RunTo.{IsNotedAt, HasParentRun}
use Rattle.server_core.proofs.Lists.{get-append, get-last, get-pushed}

abbrev pub Give : List RecordValue → List InstanceOutput → Type 0
Give records outputs = (i : ℕ) (r : Run) → IsNotedAt i records r → output_at i outputs ≡ Some (output_of_run r)

shown_append : (outputs more : List InstanceOutput) (i : ℕ) (v : InstanceOutputValue) → output_at i outputs ≡ Some v →
    output_at i (outputs ++ more) ≡ Some v
shown_append outputs more i v is = of (slice_get outputs i) refl is
  where
    of : (o : Option InstanceOutput) → slice_get outputs i ≡ o → option_map instance_output_shown o ≡ Some v →
        output_at i (outputs ++ more) ≡ Some v
    of None at is' = cc
    of (Some x) at is' = ap (option_map instance_output_shown) (get-append outputs more i x at) ∙ is'

pub outputs_more : (records : List RecordValue) (outputs all : List InstanceOutput) (v : RecordValue) (o : InstanceOutput) →
    length outputs ≡ length records → all ≡ outputs ++ o ∷ [] → Give records outputs →
    ((r : Run) → IsRecord v r → instance_output_shown o ≡ output_of_run r) → Give (records ++ v ∷ []) all
outputs_more records outputs all v o count is give own i r noted =
    elim (get-pushed records v noted.0 i noted.1) [
      | inl old ↦ ap (output_at i) is ∙ shown_append outputs (o ∷ []) i (output_of_run r) (give i r (noted.0, old, noted.2))
      | inr new ↦
          ap (output_at i) is
          ∙ ap (λ k. output_at k (outputs ++ o ∷ [])) (new.0 ∙ sym count)
          ∙ ap (option_map instance_output_shown) (get-last outputs o)
          ∙ ap Some (own r (subst (λ (w : RecordValue). IsRecord w r) (sym new.1) noted.2))
    ]

-- what a parent gives, if there is one
pub parent_given : (vs : List ServedState) (records : List RecordValue) (outputs : List InstanceOutput) (parent : Option ℕ)
    (r : Option Run) → HasParentRun parent vs records r → Give records outputs →
    parent_output_at parent outputs ≡ option_map output_of_run r
parent_given vs records outputs None r h give = sym (ap (option_map output_of_run) h)
parent_given vs records outputs (Some p) None h give = absurd h
parent_given vs records outputs (Some p) (Some r) h give = give p r h.noted
