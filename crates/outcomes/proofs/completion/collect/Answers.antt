use Rattle.std.proofs.Common.{◌≡◌, Bool, true, ◌&&◌, ◌∷◌, List, map, sym, ap, ◌∙◌}
use Rattle.std.specs.List.{list_all}
use Rattle.run_calls.specs.declared.outcome.Output.{Output}
use Rattle.outcomes.specs.Completing.{CollectionValue, collection_shown, with_outputs}
use Rattle.outcomes.specs.Results.{is_output}
use Rattle.run_calls.specs.Shown.{output_shown}
use Rattle.outcomes.proofs.completion.collect.Goals as goal

pub loop-output-preserved : goal.loop-output-preserved
loop-output-preserved c =
    let like = c.args.like.now in
    let rest = c.pop_front.new.self.items in
    let is : c.loop-output.left.items ≡ c.in-Some.output ∷ rest = c.in-Some.ensures.items in
    let taken : is_output like (output_shown c.in-Some.output) ≡ true = sym c.in_ok-collect_output.ensures.0 ∙ c.if-not-branch.false in
    record {
      taken = sym (ap (λ (b : Bool). b && list_all (is_output like) (map output_shown rest)) taken)
          ∙ ap (λ (os : List Output). list_all (is_output like) (map output_shown os)) (sym is)
          ∙ c.loop-output.invariant.taken;
      same = ap (λ (k : CollectionValue). with_outputs like k (map output_shown rest))
          (c.in_ok-collect_output.ensures.1 c.if-not-branch.false)
          ∙ ap (λ (os : List Output). with_outputs like (collection_shown c.loop-output.collection) (map output_shown os)) (sym is)
          ∙ c.loop-output.invariant.same;
    }
