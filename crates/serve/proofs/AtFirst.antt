-- A server at its beginning.
use Rattle.std.proofs.Common.{◌≡◌, ℕ, List, [], map, refl, ap, ◌∙◌, sym, subst, arith}
use Rattle.std.specs.Prelude.{Option, Some, None}
use Rattle.std.specs.Option.{option_map}
use Rattle.std.specs.List.{slice_get}
use Rattle.std.proofs.lemmas.List.{length-map}
use Rattle.std.proofs.lemmas.Option.{none-some, same_Some, slice_get-map}
use Rattle.server_events.specs.Configs.{ConfigValue}
use Rattle.served_instance.specs.Lone.{LoneInstance, new_lone}
use Rattle.served_instance.specs.StandsFor.{ServedState}
use Rattle.server_core.specs.LoneOutput.{config_at}
use Rattle.server_core.specs.StandsFor.{StandsAt}
use Rattle.serve.specs.Served.{begun}
use Rattle.serve.specs.KeepsServing.{StandsServing, AllServing}

abbrev Starts : List ConfigValue → List ServedState → Type 0
Starts configs vs = (i : ℕ) (config : ConfigValue) → config_at i configs ≡ Some config →
    StandsAt i vs (new_lone config.name config.quota config.slots config.limits)

pub at_first : (configs : List ConfigValue) (vs : List ServedState) → Starts configs vs → AllServing configs [] vs
at_first configs vs starts = record {
  ls = map begun configs;
  serves = refl;
  count = length-map configs begun;
  each = λ i l at. go i l (slice_get configs i) refl (sym (slice_get-map begun configs i) ∙ at);
}
  where
    go : (i : ℕ) (l : LoneInstance) (o : Option ConfigValue) → slice_get configs i ≡ o → option_map begun (slice_get configs i) ≡ Some l →
        StandsServing 0 i vs l
    go i l None is at = absurd (none-some l (ap (option_map begun) (sym is) ∙ at))
    go i l (Some config) is at =
        subst (StandsServing 0 i vs) (same_Some (begun config) l (ap (option_map begun) (sym is) ∙ at))
        (record { stands = starts i config is; times = omega arith })
