use Rattle.std.proofs.Common.{map, refl, ap, ◌∙◌}
use Rattle.std.specs.Prelude.{string_bytes}
use Rattle.runner.specs.Made.{names_at}
use Rattle.runner.proofs.Trees.{directory_added, directory_above}
use Rattle.runner.proofs.Popped.{named}
use Rattle.runner.proofs.Told.{directory_size}
use Rattle.runner.proofs.tree.TreeNodes.with_directory.Goals as goal

pub invariant_of-result : goal.invariant_of-result
invariant_of-result c =
    directory_above (map string_bytes c.push.new.self.items) _ _ _
    (named string_bytes _ _ _ _ _ _ c.in_ok-push.ensures.items c.truncate.ensures.items c.saturating_sub.ensures
    ∙ ap (λ a. names_at a c.args.level (string_bytes c.in_ok-from_str.field-0)) c.self.invariant
    ∙ ap (names_at _ c.args.level) (c.in_ok-from_str.ensures.ok ∙ c.as_str.ensures.value))
    c.in_ok-push-2.ensures.items refl

pub returns-clause-items : goal.returns-clause-items
returns-clause-items c =
    λ place path.
    rw (← c.self.view_is) (directory_added place path (map string_bytes c.push.new.self.items) _ _ _
    (named string_bytes _ _ _ _ _ _ c.in_ok-push.ensures.items c.truncate.ensures.items c.saturating_sub.ensures
    ∙ ap (λ a. names_at a c.args.level (string_bytes c.in_ok-from_str.field-0)) c.self.invariant
    ∙ ap (names_at _ c.args.level) (c.in_ok-from_str.ensures.ok ∙ c.as_str.ensures.value))
    c.in_ok-push-2.ensures.items refl)

pub returns-clause-length : goal.returns-clause-length
returns-clause-length c = rw (← c.self.view_is) (directory_size _ _ _ c.in_ok-push-2.ensures.items refl)

pub returns-clause-above : goal.returns-clause-above
returns-clause-above c =
    rw (← c.self.view_is) (named string_bytes _ _ _ _ _ _ c.in_ok-push.ensures.items c.truncate.ensures.items c.saturating_sub.ensures
    ∙ ap (names_at (map string_bytes c.self.inside.above.items) c.args.level) (c.in_ok-from_str.ensures.ok ∙ c.as_str.ensures.value))
