use Rattle.std.proofs.Common.{◌<◌, length, map, refl, sym, subst, arith}
use Rattle.std.specs.Prelude.{string_bytes}
use Rattle.std.proofs.lemmas.List.{length-map}
use Rattle.runner.specs.Gathered.{TreeValue}
use Rattle.runner.specs.Listed.{most_nodes}
use Rattle.runner.proofs.Trees.{file_added, file_above}
use Rattle.runner.proofs.Told.{node_added}
use Rattle.runner.proofs.Walks.{few_above}
use Rattle.runner.proofs.tree.TreeNodes.with_file.Goals as goal

pub invariant_of-result : goal.invariant_of-result
invariant_of-result c =
    let few = few_above (map string_bytes c.self.inside.above.items) c.self.inside.nodes.items c.self.invariant
    (subst (λ (t : TreeValue). length t.nodes < most_nodes) (sym c.self.view_is) c.requires.few) in
    file_above (map string_bytes c.self.inside.above.items) _ _ _ _ _ c.self.invariant c.in_ok-push.ensures.items
    (grind (arith, length-map c.self.inside.above.items string_bytes, c.len.ensures, c.self.inside.above.ok, few)) refl

pub returns-clause-items : goal.returns-clause-items
returns-clause-items c =
    let few = few_above (map string_bytes c.self.inside.above.items) c.self.inside.nodes.items c.self.invariant
    (subst (λ (t : TreeValue). length t.nodes < most_nodes) (sym c.self.view_is) c.requires.few) in
    λ place path.
    rw (← c.self.view_is) (file_added place path (map string_bytes c.self.inside.above.items) _ _ _ _ _ c.self.invariant
    c.in_ok-push.ensures.items (grind (
      arith,
      length-map c.self.inside.above.items string_bytes,
      c.len.ensures,
      c.self.inside.above.ok,
      few,
    )) refl)

pub returns-clause-length : goal.returns-clause-length
returns-clause-length c = rw (← c.self.view_is) (node_added _ _ _ _ c.in_ok-push.ensures.items refl)

pub overflow_cast-level : goal.overflow_cast-level
overflow_cast-level c =
    let few = few_above (map string_bytes c.self.inside.above.items) c.self.inside.nodes.items c.self.invariant
    (subst (λ (t : TreeValue). length t.nodes < most_nodes) (sym c.self.view_is) c.requires.few) in
    grind (arith, length-map c.self.inside.above.items string_bytes, c.len.ensures, c.self.inside.above.ok, few)

pub overflow_add-level : goal.overflow_add-level
overflow_add-level c =
    let few = few_above (map string_bytes c.self.inside.above.items) c.self.inside.nodes.items c.self.invariant
    (subst (λ (t : TreeValue). length t.nodes < most_nodes) (sym c.self.view_is) c.requires.few) in
    grind (arith, length-map c.self.inside.above.items string_bytes, c.len.ensures, c.self.inside.above.ok, few)
