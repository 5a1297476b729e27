use Rattle.std.proofs.Common.{◌∙◌, sym, ap, length}
use Rattle.std.specs.List.{starts_with}
use Rattle.std.specs.Prelude.{nat_eq}
use Rattle.job_runs.proofs.MadeTrees.{behind_place, free_beside, free_inside}
use Rattle.job_runs.proofs.trees.Taken.leaves.Goals as goal

pub returns-then-not-starts_with : goal.returns-then-not-starts_with
returns-then-not-starts_with c = sym (free_beside c.args.self.now.directory.items c.args.path.now _
    (ap (λ d. starts_with nat_eq d c.args.path.now) (sym c.deref.ensures.value) ∙ sym c.starts_with.ensures.value ∙ c.if-starts_with.false)
    (ap (starts_with nat_eq c.args.path.now) (sym c.deref-2.ensures.value) ∙ sym c.starts_with-2.ensures.value
    ∙ c.if-not-starts_with.true))

pub returns : goal.returns
returns c =
    c.are_all_apart.ensures ∙ sym (free_inside c.args.self.now.directory.items c.args.path.now _ _ _
    (ap (λ d. starts_with nat_eq d c.args.path.now) (sym c.deref.ensures.value) ∙ sym c.starts_with.ensures.value ∙ c.if-starts_with.false)
    (ap (starts_with nat_eq c.args.path.now) (sym c.deref-2.ensures.value) ∙ sym c.starts_with-2.ensures.value
    ∙ c.if-not-starts_with.false)
    (behind_place c.args.path.now c.len.result c.args.self.now.directory.items
    (c.len.ensures ∙ sym c.deref-2.ensures.len ∙ ap length c.deref-2.ensures.value)) c.deref-3.ensures.value)
