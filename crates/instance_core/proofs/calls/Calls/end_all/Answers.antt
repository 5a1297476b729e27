use Rattle.std.proofs.Common.{rules, ap, ◌∙◌}
use Rattle.keyed_maps.proofs.MapLemmas.{filter-RetainsPairs}
use Rattle.instance_core.specs.Apart.{is_apart, calls_apart}
use Rattle.instance_core.proofs.Apart.{kept_by}
use Rattle.instance_core.proofs.calls.Calls.end_all.Goals as goal

pub returns-clause-ended : goal.returns-clause-ended
returns-clause-ended c =
    filter-RetainsPairs _ (is_apart c.args.connection) _ (λ k v b w g call. search rules) _ _ c.retain.ensures.filtered
    ∙ ap (calls_apart c.args.connection) c.self.view_is

pub returns-clause-calls : goal.returns-clause-calls
returns-clause-calls c =
    kept_by (is_apart c.args.connection) c.self.inside.by_id.entries _
    (filter-RetainsPairs _ (is_apart c.args.connection) _ (λ k v b w g call. search rules) _ _ c.retain.ensures.filtered)
    c.retain.ensures.unique c.self.invariant

pub invariant_of-self : goal.invariant_of-self
invariant_of-self c =
    kept_by (is_apart c.args.connection) c.self.inside.by_id.entries _
    (filter-RetainsPairs _ (is_apart c.args.connection) _ (λ k v b w g call. search rules) _ _ c.retain.ensures.filtered)
    c.retain.ensures.unique c.self.invariant
