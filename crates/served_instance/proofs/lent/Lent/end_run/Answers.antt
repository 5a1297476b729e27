use Rattle.std.proofs.Common.{refl}
use Rattle.execution.specs.Taking.{steps_shown}
use Rattle.instance_core.specs.Slots.{state_in}
use Rattle.run_calls.specs.Shown.{outcome_shown}
use Rattle.served_instance.specs.Lent.{lent_slots, lent_value}
use Rattle.served_instance.proofs.BrokenOff.{on_err, err_map}
use Rattle.served_instance.proofs.Kept.{instance_kept}
use Rattle.served_instance.proofs.Lends.{goes_trans}
use Rattle.served_instance.proofs.Turning.{HasAdmitted, admitted_finds, admitted_goes, all_made, end_can, end_cut, end_done, end_within, turn_goes, with_instance}
use Rattle.served_instance.proofs.lent.Lent.end_run.Goals as goal

pub ready_end-requires : goal.ready_end-requires
ready_end-requires c =
    let a = lent_value c.args.self.now in
    let here = lent_slots a in
    record { kept = instance_kept a.pool here here refl c.requires.lent.kept }

pub settle-requires-clause-can : goal.settle-requires-clause-can
settle-requires-clause-can c =
    let a = lent_value c.args.self.now in
    let q = c.ready_end.new.pool in
    end_can (state_in a.pool a.instance) (state_in q c.ready_end.new.self) c.args.job (outcome_shown c.args.outcome)
    (steps_shown c.in_ok-turn.turn.steps.items) c.requires.lent.kept.within.instance c.in_ok-turn.ensures.changed
    (c.in_ok-turn.ensures.ready q).steps

pub settle-requires-clause-kept : goal.settle-requires-clause-kept
settle-requires-clause-kept c =
    let a = lent_value c.args.self.now in
    let q = c.ready_end.new.pool in
    let j = c.ready_end.new.self in
    let goes = admitted_goes a q j c.requires.lent.kept c.ready_end.ensures.moves c.ready_end.ensures.within in
    goes.kept

pub returns-clause-done : goal.returns-clause-done
returns-clause-done c =
    let n = c.args.job in
    let outcome = outcome_shown c.args.outcome in
    let a = lent_value c.args.self.now in
    let q = c.ready_end.new.pool in
    let j = c.ready_end.new.self in
    let goes = admitted_goes a q j c.requires.lent.kept c.ready_end.ensures.moves c.ready_end.ensures.within in
    let had : HasAdmitted n outcome a q j = record {
      lent = c.requires.lent;
      goes = goes;
      finds = admitted_finds a q j c.requires.lent.kept c.ready_end.ensures.moves;
      after = c.in_ok-turn.ensures.changed;
    } in
    end_done c.settle.result n outcome a (lent_value c.settle.new.self) q j c.in_ok-turn.turn had (c.in_ok-turn.ensures.ready q)
    c.settle.ensures.turned c.settle.ensures.told c.settle.ensures.settled c.settle.ensures.orders

pub returns-clause-cut : goal.returns-clause-cut
returns-clause-cut c =
    let n = c.args.job in
    let outcome = outcome_shown c.args.outcome in
    let a = lent_value c.args.self.now in
    let q = c.ready_end.new.pool in
    let j = c.ready_end.new.self in
    let goes = admitted_goes a q j c.requires.lent.kept c.ready_end.ensures.moves c.ready_end.ensures.within in
    let turn = c.in_ok-turn.turn in
    let b = with_instance a q j in
    let d = lent_value c.settle.new.self in
    let within = end_within c.settle.result (state_in a.pool a.instance) (state_in q j) (state_in d.pool d.instance) n outcome
    (steps_shown turn.steps.items) c.in_ok-turn.ensures.after c.ready_end.ensures.within c.in_ok-turn.ensures.changed
    (c.in_ok-turn.ensures.ready q).steps c.settle.ensures.settled c.settle.ensures.err in
    let more = goes_trans a b d goes (turn_goes turn b d c.settle.ensures.turned within) in
    err_map c.settle.result (λ same. end_cut n outcome a d c.requires.lent more
    (all_made (state_in a.pool a.instance) (state_in q j) (state_in d.pool d.instance) n outcome c.in_ok-turn.ensures.changed same))
    c.settle.ensures.err

pub returns-clause-goes : goal.returns-clause-goes
returns-clause-goes c =
    let n = c.args.job in
    let outcome = outcome_shown c.args.outcome in
    let a = lent_value c.args.self.now in
    let q = c.ready_end.new.pool in
    let j = c.ready_end.new.self in
    let goes = admitted_goes a q j c.requires.lent.kept c.ready_end.ensures.moves c.ready_end.ensures.within in
    let turn = c.in_ok-turn.turn in
    let b = with_instance a q j in
    let d = lent_value c.settle.new.self in
    let within = end_within c.settle.result (state_in a.pool a.instance) (state_in q j) (state_in d.pool d.instance) n outcome
    (steps_shown turn.steps.items) c.in_ok-turn.ensures.after c.ready_end.ensures.within c.in_ok-turn.ensures.changed
    (c.in_ok-turn.ensures.ready q).steps c.settle.ensures.settled c.settle.ensures.err in
    let more = goes_trans a b d goes (turn_goes turn b d c.settle.ensures.turned within) in
    more

pub returns-in_err-turn-clause-cut : goal.returns-in_err-turn-clause-cut
returns-in_err-turn-clause-cut c =
    let n = c.args.job in
    let outcome = outcome_shown c.args.outcome in
    let a = lent_value c.args.self.now in
    let q = c.ready_end.new.pool in
    let j = c.ready_end.new.self in
    let goes = admitted_goes a q j c.requires.lent.kept c.ready_end.ensures.moves c.ready_end.ensures.within in
    on_err c.from_residual.result (end_cut n outcome a (with_instance a q j) c.requires.lent goes c.in_err-turn.ensures.memory)

pub returns-in_err-turn-clause-goes : goal.returns-in_err-turn-clause-goes
returns-in_err-turn-clause-goes c =
    let a = lent_value c.args.self.now in
    let q = c.ready_end.new.pool in
    let j = c.ready_end.new.self in
    let goes = admitted_goes a q j c.requires.lent.kept c.ready_end.ensures.moves c.ready_end.ensures.within in
    goes
