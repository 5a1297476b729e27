use Rattle.std.proofs.Common.{rules, ℕ, Bool, ap, ◌∙◌}
use Rattle.std.specs.Prelude.{not, filter}
use Rattle.keyed_maps.proofs.MapLemmas.{filter-RetainsPairs}
use Rattle.instance_core.specs.declared.event.CallId.{CallId}
use Rattle.instance_core.specs.Calls.{CallValue}
use Rattle.instance_core.specs.Watching.{is_watcher}
use Rattle.instance_core.proofs.Apart.{kept_by}
use Rattle.instance_core.proofs.calls.Calls.end_watchers.Goals as goal

abbrev is_other : ℕ → CallId × CallValue → Bool
is_other number c = not (is_watcher number c)

pub returns-clause-ended : goal.returns-clause-ended
returns-clause-ended c =
    filter-RetainsPairs _ (is_other c.args.number) _ (λ k v b w g call. search rules) _ _ c.retain.ensures.filtered
    ∙ ap (filter (is_other c.args.number)) c.self.view_is

pub returns-clause-calls : goal.returns-clause-calls
returns-clause-calls c =
    kept_by (is_other c.args.number) c.self.inside.by_id.entries _
    (filter-RetainsPairs _ (is_other c.args.number) _ (λ k v b w g call. search rules) _ _ c.retain.ensures.filtered)
    c.retain.ensures.unique c.self.invariant

pub invariant_of-self : goal.invariant_of-self
invariant_of-self c =
    kept_by (is_other c.args.number) c.self.inside.by_id.entries _
    (filter-RetainsPairs _ (is_other c.args.number) _ (λ k v b w g call. search rules) _ _ c.retain.ensures.filtered)
    c.retain.ensures.unique c.self.invariant
