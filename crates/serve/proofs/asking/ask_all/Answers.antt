use Rattle.serve.proofs.FaultLines.{lines_at_on, lines_at_same}
use Rattle.serve.proofs.Keeps.{after_no_run}
use Rattle.serve.proofs.asking.ask_all.Goals.{else-loop-test, then-loop-test+then-passed-most, then-loop-test+else-passed-most+in_default, then-loop-test+else-passed-most+in-Some+then-is_asked+then-note_asked}
use Rattle.serve.proofs.asking.ask_all.Goals as goal

pub loop-preserved : goal.loop-preserved
loop-preserved g c = record {
  serving = λ count known configs same at. c.ask_if-is_told.ensures.serving known configs c.in-Some.ensures.begun
      (after_no_run configs known _ _ _ _ c.next.ensures.adds
      (after_no_run configs known _ _ _ _ c.pass.ensures.adds (c.loop.invariant.serving count known configs same at)));
  lines = lines_at_on c.args.moment c.args.configs.now _ _ _ _ _ _ _ c.args.errors.now.backlog c.loop.errors.backlog
      c.ask_if-is_told.new.errors.backlog (lines_at_same c.args.moment c.args.configs.now _ _ _ _ _ _ _ c.pass.ensures.no_fault
      c.loop.invariant.lines) c.next.ensures.no_fault c.ask_if-is_told.ensures.lines;
}

pub returns : goal.returns
returns g c = record {
  serving = λ count known configs same at. elim c.loop-test.branch [
    | else-loop-test w ↦ rw (w.counting-is, w.runs-is) (c.loop.invariant.serving count known configs same at)
    | then-loop-test+then-passed-most w ↦ rw (w.counting-is, w.runs-is)
        (after_no_run configs known _ _ _ _ w.pass.ensures.adds (c.loop.invariant.serving count known configs same at))
    | then-loop-test+else-passed-most+in_default w ↦ rw (w.counting-is, w.runs-is)
        (after_no_run configs known _ _ _ _ w.next.ensures.adds
        (after_no_run configs known _ _ _ _ w.pass.ensures.adds (c.loop.invariant.serving count known configs same at)))
    | then-loop-test+else-passed-most+in-Some+then-is_asked+then-note_asked w ↦ rw (w.counting-is, w.runs-is)
        (w.ask_if-is_told.ensures.serving known configs w.in-Some.ensures.begun
        (after_no_run configs known _ _ _ _ w.next.ensures.adds
        (after_no_run configs known _ _ _ _ w.pass.ensures.adds (c.loop.invariant.serving count known configs same at))))
  ];
  lines = elim c.loop-test.branch [
    | else-loop-test w ↦ rw (w.errors-is, w.runs-is) c.loop.invariant.lines
    | then-loop-test+then-passed-most w ↦ rw (w.errors-is, w.runs-is)
        (lines_at_same c.args.moment c.args.configs.now _ _ _ _ _ _ _ w.pass.ensures.no_fault c.loop.invariant.lines)
    | then-loop-test+else-passed-most+in_default w ↦ rw (w.errors-is, w.runs-is)
        (lines_at_same c.args.moment c.args.configs.now _ _ _ _ _ _ _ w.next.ensures.no_fault
        (lines_at_same c.args.moment c.args.configs.now _ _ _ _ _ _ _ w.pass.ensures.no_fault c.loop.invariant.lines))
    | then-loop-test+else-passed-most+in-Some+then-is_asked+then-note_asked w ↦ rw (w.errors-is, w.runs-is)
        (lines_at_on c.args.moment c.args.configs.now _ _ _ _ _ _ _ c.args.errors.now.backlog c.loop.errors.backlog
        w.ask_if-is_told.new.errors.backlog (lines_at_same c.args.moment c.args.configs.now _ _ _ _ _ _ _ w.pass.ensures.no_fault
        c.loop.invariant.lines) w.next.ensures.no_fault w.ask_if-is_told.ensures.lines)
  ];
}
