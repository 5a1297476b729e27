use Rattle.std.proofs.Common.{refl, sym, ◌∙◌}
use Rattle.serve.proofs.FaultLines.{lines_none, lines_on}
use Rattle.serve.proofs.Keeps.{after_none, begins, was_served, on_error}
use Rattle.serve.proofs.Open.{apart, fresh_apart, none_open, open_first}
use Rattle.serve.proofs.serving.serve.Goals as goal

pub returns : goal.returns
returns g c = record {
  served = rw c.tally-2.ensures (was_served c.args.configs.now (g.S.Sockets.happened c.loop.sockets)
      (g.R.Runs.happened c.loop.runs) c.loop.serving.counting c.loop.serving.moment c.loop.invariant.serving);
  unbegun = tt;
  lines = c.loop.invariant.lines;
  numbers = apart _ _ c.loop.invariant.opened.at_sockets;
}

pub returns-then-not-look-clause-served : goal.returns-then-not-look-clause-served
returns-then-not-look-clause-served g c =
    let serving = c.turn-has_moved.ensures.serves_on.serving c.args.configs.now (sym c.loop.invariant.instances) c.loop.invariant.serving in
    rw c.tally.ensures (was_served c.args.configs.now (g.S.Sockets.happened c.turn-has_moved.new.sockets)
    (g.R.Runs.happened c.turn-has_moved.new.runs) c.turn-has_moved.new.self.counting c.turn-has_moved.new.self.moment serving)

pub returns-then-not-look-clause-numbers : goal.returns-then-not-look-clause-numbers
returns-then-not-look-clause-numbers g c = apart _ _ c.turn-has_moved.ensures.serves_on.opened.at_sockets

pub returns-then-not-look-clause-lines : goal.returns-then-not-look-clause-lines
returns-then-not-look-clause-lines g c = lines_on _ c.args.configs.now _ _ _ _ _ _ c.args.errors.now.backlog c.loop.errors.backlog
    c.turn-has_moved.new.errors.backlog c.loop.invariant.lines c.turn-has_moved.ensures.lines

pub returns-in_err-serving-clause-unbegun : goal.returns-in_err-serving-clause-unbegun
returns-in_err-serving-clause-unbegun g c = on_error _ c.from_residual.result (refl, refl)

pub returns-in_err-serving-clause-numbers : goal.returns-in_err-serving-clause-numbers
returns-in_err-serving-clause-numbers g c = fresh_apart _ c.requires.fresh

pub returns-in_err-serving-clause-lines : goal.returns-in_err-serving-clause-lines
returns-in_err-serving-clause-lines g c = lines_none c.args.configs.now (g.R.Runs.faulted c.args.runs.now)
    (g.E.Write.contents c.args.errors.now.output) c.args.errors.now.backlog

pub loop-init : goal.loop-init
loop-init g c = record {
  serving = begins _ _ _ _ _ c.requires.fresh c.requires.unrun c.in_ok-serving.ensures.serving;
  instances = c.in_ok-serving.ensures.instances;
  lines = lines_none c.args.configs.now (g.R.Runs.faulted c.args.runs.now)
      (g.E.Write.contents c.args.errors.now.output) c.args.errors.now.backlog;
  opened = open_first _ _ _ _ _ c.requires.fresh c.in_ok-serving.ensures.none c.in_ok-serving.ensures.moment;
}

pub loop-preserved : goal.loop-preserved
loop-preserved g c = record {
  serving = after_none c.args.configs.now _ _ _ _ _ c.rest.ensures.adds
      (c.turn-has_moved.ensures.serves_on.serving c.args.configs.now (sym c.loop.invariant.instances) c.loop.invariant.serving);
  instances = c.turn-has_moved.ensures.serves_on.instances ∙ c.loop.invariant.instances;
  lines = lines_on _ c.args.configs.now _ _ _ _ _ _ c.args.errors.now.backlog c.loop.errors.backlog c.turn-has_moved.new.errors.backlog
      c.loop.invariant.lines c.turn-has_moved.ensures.lines;
  opened = none_open _ _ c.rest.ensures.adds _ _ _ _ c.turn-has_moved.ensures.serves_on.opened;
}
