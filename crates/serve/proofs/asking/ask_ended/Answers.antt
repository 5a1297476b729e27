use Rattle.serve.proofs.FaultLines.{lines_at_on, lines_at_same}
use Rattle.serve.proofs.Keeps.{after_no_run}
use Rattle.serve.proofs.asking.ask_ended.Goals as goal

pub loop-number-preserved-in_default : goal.loop-number-preserved-in_default
loop-number-preserved-in_default g c = record {
  serving = λ count known configs same at. after_no_run configs known _ _ _ _ c.look.ensures.adds
      (c.loop-number.invariant.serving count known configs same at);
  lines = lines_at_same c.args.moment c.args.configs.now _ _ _ _ _ _ _ c.look.ensures.no_fault c.loop-number.invariant.lines;
}

pub loop-number-preserved : goal.loop-number-preserved
loop-number-preserved g c = record {
  serving = λ count known configs same at. c.ask_if-is_told.ensures.serving known configs c.in-Some.ensures.begun
      (after_no_run configs known _ _ _ _ c.look.ensures.adds (c.loop-number.invariant.serving count known configs same at));
  lines = lines_at_on c.args.moment c.args.configs.now _ _ _ _ _ _ _ c.args.errors.now.backlog c.loop-number.errors.backlog
      c.ask_if-is_told.new.errors.backlog c.loop-number.invariant.lines c.look.ensures.no_fault c.ask_if-is_told.ensures.lines;
}

pub returns-then-note_asked : goal.returns-then-note_asked
returns-then-note_asked g c = record {
  serving = λ count known configs same at. c.ask_if-is_told.ensures.serving known configs c.in-Some.ensures.begun
      (after_no_run configs known _ _ _ _ c.look.ensures.adds (c.loop-number.invariant.serving count known configs same at));
  lines = lines_at_on c.args.moment c.args.configs.now _ _ _ _ _ _ _ c.args.errors.now.backlog c.loop-number.errors.backlog
      c.ask_if-is_told.new.errors.backlog c.loop-number.invariant.lines c.look.ensures.no_fault c.ask_if-is_told.ensures.lines;
}
