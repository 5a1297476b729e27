use Rattle.std.proofs.Common.{ap, sym, ◌∙◌, inr}
use Rattle.std.specs.Prelude.{Some}
use Rattle.runner.specs.declared.stage.State.TheVariants.{Live}
use Rattle.runner.proofs.Bounds.{asks_none, ends_few}
use Rattle.runner.proofs.WentOn.{is_over, over_counts, over_ends, over_on, went_on}
use Rattle.runner.proofs.runs.Runner.ask.Goals as goal

pub returns-in-Over-clause-asked : goal.returns-in-Over-clause-asked
returns-in-Over-clause-asked g c =
    over_on _ _ c.and.result _ _ _ _ c.in-Some.at c.take_state.result _ c.in-Over.ending c.state_left.result c.end-ended.result _ _ _ _
    c.deref.ensures.value c.in-Some.ensures.first c.in-Some.ensures.inside c.take_state.ensures.state c.in-Over.is
    c.take_state.ensures.runs c.state_left.ensures c.keep.ensures c.end-ended.ensures.by c.and.ensures

pub returns-in-Over-clause-few : goal.returns-in-Over-clause-few
returns-in-Over-clause-few g c = ends_few (record { instance = c.args.instance; job = c.args.job })
    (Some c.in-Over.ending) c.end-ended.result _ _ _ _ c.end-ended.ensures.by

pub returns-in-Over-clause-faults : goal.returns-in-Over-clause-faults
returns-in-Over-clause-faults g c =
    over_counts _ _ c.end-ended.result c.and.result _ _ _ _
    (is_over _ c.in-Over.ending _ _ _ _ _ _ (over_ends _ _ _ _ _ c.in-Some.at c.take_state.result _ c.in-Over.ending c.state_left.result
    c.end-ended.result _ _ _ _ c.deref.ensures.value c.in-Some.ensures.first c.in-Some.ensures.inside c.take_state.ensures.state
    c.in-Over.is c.take_state.ensures.runs c.state_left.ensures c.keep.ensures c.end-ended.ensures.by)) c.and.ensures
    c.end-ended.ensures.faults

pub returns-in-Live-clause-asked : goal.returns-in-Live-clause-asked
returns-in-Live-clause-asked g c =
    inr (inr (went_on _ _ c.go_on-kept.result.1 _ _ _ _ c.in-Some.at c.take_state.result _ c.stage.result c.index.result.now
    c.go_on-kept.result.0 _ _ _ _ c.deref.ensures.value c.in-Some.ensures.first c.in-Some.ensures.inside c.take_state.ensures.state
    (c.in-Live.is ∙ ap Live (sym c.stage.ensures.same)) c.take_state.ensures.runs c.index.ensures c.keep-in-Live.ensures
    c.go_on-kept.ensures.becomes))

pub returns-in_default-clause-few : goal.returns-in_default-clause-few
returns-in_default-clause-few g c = asks_none _ _ _
