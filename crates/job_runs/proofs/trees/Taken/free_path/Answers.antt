use Rattle.std.proofs.Common.{◌∙◌, sym, ap, codes, map}
use Rattle.job_runs.specs.Made.{is_free_of, slashed}
use Rattle.job_runs.proofs.MadeTrees.{joined_names}
use Rattle.job_runs.proofs.trees.Taken.free_path.Goals as goal

pub returns-then-leaves-clause-path : goal.returns-then-leaves-clause-path
returns-then-leaves-clause-path c = c.in_ok-path.ensures.ok ∙ joined_names (codes "/") c.args.names.now

pub returns-then-leaves-clause-is_free : goal.returns-then-leaves-clause-is_free
returns-then-leaves-clause-is_free c =
    ap (is_free_of c.args.self.now.directory.items (map (λ o. o.items) c.args.self.now.outputs.items))
    (sym (c.deref.ensures.value ∙ c.in_ok-text.ensures ∙ ap slashed (c.as_str.ensures.value ∙ c.in_ok-path.ensures.ok
    ∙ joined_names (codes "/") c.args.names.now)))
    ∙ sym c.leaves.ensures ∙ c.if-leaves.true
