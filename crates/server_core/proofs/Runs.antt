-- One more event of a run, and the run's end.
use Rattle.std.proofs.Common.{◌≡◌, ℕ, zero, suc, ◌+◌, List, [], ◌∷◌, ◌++◌, length, ap, ◌∙◌, sym, subst, arith, append-nil, append_assoc}
use Rattle.std.specs.Prelude.{Some}
use Rattle.std.specs.List.{AllByRecursion}
use Rattle.std.proofs.lemmas.Option.{none-some, same_Some}
use Rattle.instance_core.specs.State.{IsInstanceWithin}
use Rattle.served_instance.specs.Lone.{LoneInstance}
use Rattle.served_instance.specs.StandsFor.{ServedState, IsServedWithin}
use Rattle.server_core.specs.StandsFor.{StandsAt, instance_at}
use Rattle.std.proofs.lemmas.List.{length_push}
use Rattle.std.proofs.Math.Nat.{add-zero}
use Rattle.server_events.specs.Configs.{ConfigValue, parent_of}
use Rattle.server_events.specs.Faults.{AreParents}
use Rattle.server_events.specs.Events.{EventValue}
use Rattle.server_core.specs.Families.{family_in, family_events}
use Rattle.server_core.specs.Parents.{parent_texts}
use Rattle.server_core.specs.Runs.{FamilyRun, run_of_family}
use Rattle.server_core.specs.RunTo.{HasFamilyRun}
use Rattle.server_core.specs.RunSoFar.{HasTaken, RunValue}
use Rattle.server_core.specs.LoneOutput.{stray_at, strays_from, strays}
use Rattle.server_core.proofs.Families.{Stepped, parent_there, family_more, family_on}

strays_push : (place count : ℕ) (es : List EventValue) (e : EventValue) →
    strays_from place count (es ++ e ∷ []) ≡ strays_from place count es ++ stray_at (place + length es) count e
strays_push place count [] e = append-nil (stray_at place count e) ∙ ap (λ p. stray_at p count e) (sym (add-zero place))
strays_push place count (x ∷ es) e =
    let same : (place + 1) + length es ≡ place + length (x ∷ es) = omega arith in
    ap (λ ps. stray_at place count x ++ ps) (strays_push (place + 1) count es e
    ∙ ap (λ p. strays_from (place + 1) count es ++ stray_at p count e) same)
    ∙ sym (append_assoc (stray_at place count x) (strays_from (place + 1) count es) (stray_at (place + length (x ∷ es)) count e))

pub strays_more : (configs : List ConfigValue) (events : List EventValue) (e : EventValue) (place : ℕ) → place ≡ length events + 1 →
    strays configs (events ++ e ∷ []) ≡ strays configs events ++ stray_at place (length configs) e
strays_more configs events e place is =
    let at_place : 1 + length events ≡ place = omega (arith, is) in
    strays_push 1 (length configs) events e ∙ ap (λ p. strays configs events ++ stray_at p (length configs) e) at_place

-- a run after one more event
pub taken_more : (configs : List ConfigValue) (events : List EventValue) (e : EventValue) (v w : RunValue) → HasTaken configs events v
    → w.count ≡ v.count + 1 → length w.server.instances ≡ length v.server.instances
    → w.server.parents ≡ v.server.parents → AreParents v.server.parents
    → Stepped (parent_texts e.instance v.server) e v.server.instances v.records w.server.instances w.records
    → w.strays ≡ v.strays ++ stray_at w.count (length v.server.instances) e
    → HasTaken configs (events ++ e ∷ []) w
taken_more configs events e v w h count many stay good runs strayed = record {
  many = many ∙ h.many;
  count = count ∙ ap (λ n. n + 1) h.count ∙ sym (length_push events e);
  parents = stay ∙ h.parents;
  alone = λ i config is.
      let parent = parent_of configs config in
      let family = family_in configs config in
      let there = parent_there configs v.server.parents i config h.parents is in
      subst (λ (f : FamilyRun). HasFamilyRun i parent w.server.instances w.records f) (sym (family_more family i parent events e))
      (family_on v.server e w.server.instances v.records w.records i parent
      (run_of_family family (family_events i parent events)) good there runs (h.alone i config is));
  strays = strayed
      ∙ ap (λ ps. ps ++ stray_at w.count (length v.server.instances) e) h.strays
      ∙ ap (λ n. strays configs events ++ stray_at w.count n e) h.many
      ∙ sym (strays_more configs events e w.count (count ∙ ap (λ n. n + 1) h.count));
}

-- ---- limits

served_at : (vs : List ServedState) (i : ℕ) (v : ServedState) → AllByRecursion IsServedWithin vs → instance_at i vs ≡ Some v →
    IsServedWithin v
served_at [] i v all at = absurd (none-some v at)
served_at (x ∷ vs) zero v all at = subst IsServedWithin (same_Some x v at) all.0
served_at (x ∷ vs) (suc i) v all at = served_at vs i v all.1 at

-- what stands for an instance that keeps its limits keeps them, too
pub state_within : (vs : List ServedState) (i : ℕ) (l : LoneInstance) → AllByRecursion IsServedWithin vs → StandsAt i vs l →
    IsInstanceWithin l.state
state_within vs i l all s = subst IsInstanceWithin s.2.state (served_at vs i s.0 all s.1).instance
