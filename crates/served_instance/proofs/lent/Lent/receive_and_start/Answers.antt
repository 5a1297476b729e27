use Rattle.std.proofs.Common.{refl}
use Rattle.execution.specs.Taking.{steps_shown}
use Rattle.instance_core.specs.Slots.{state_in}
use Rattle.served_instance.specs.Lent.{lent_slots, lent_value}
use Rattle.served_instance.proofs.BrokenOff.{on_err, err_map}
use Rattle.served_instance.proofs.Kept.{instance_kept}
use Rattle.served_instance.proofs.Lends.{apart_trans, goes_here, goes_trans}
use Rattle.served_instance.proofs.Turning.{HaveCome, starts_can, starts_cut, starts_done, starts_within, turn_goes}
use Rattle.served_instance.proofs.lent.Lent.receive_and_start.Goals as goal

pub ready_starts-requires : goal.ready_starts-requires
ready_starts-requires c =
    let b = lent_value c.receive.new.self in
    let here = lent_slots b in
    record { kept = record { pool = b.pool; kept = instance_kept b.pool here here refl c.receive.ensures.went.goes.kept } }

pub settle-requires-clause-can : goal.settle-requires-clause-can
settle-requires-clause-can c =
    let b = lent_value c.receive.new.self in
    starts_can (state_in b.pool b.instance) (steps_shown c.in_ok-turn.turn.steps.items) c.receive.ensures.went.goes.kept.within.instance
    (c.in_ok-turn.ensures.ready b.pool).steps

pub settle-requires-clause-kept : goal.settle-requires-clause-kept
settle-requires-clause-kept c = c.receive.ensures.went.goes.kept

pub returns-clause-done : goal.returns-clause-done
returns-clause-done c =
    let n = c.args.number in
    let bytes = c.args.bytes.items in
    let a = lent_value c.args.self.now in
    let b = lent_value c.receive.new.self in
    let come : HaveCome n bytes a b = record {
      lent = c.requires.lent;
      goes = c.receive.ensures.went.goes;
      acts = c.in_ok-receive.ensures.came;
    } in
    let turn = c.in_ok-turn.turn in
    starts_done c.settle.result n bytes a b (lent_value c.settle.new.self) turn come (c.in_ok-turn.ensures.ready b.pool)
    c.settle.ensures.turned c.settle.ensures.told c.settle.ensures.settled c.settle.ensures.orders

pub returns-clause-cut : goal.returns-clause-cut
returns-clause-cut c =
    let n = c.args.number in
    let bytes = c.args.bytes.items in
    let a = lent_value c.args.self.now in
    let b = lent_value c.receive.new.self in
    let come : HaveCome n bytes a b = record {
      lent = c.requires.lent;
      goes = c.receive.ensures.went.goes;
      acts = c.in_ok-receive.ensures.came;
    } in
    let turn = c.in_ok-turn.turn in
    let d = lent_value c.settle.new.self in
    let within = starts_within c.settle.result (state_in b.pool b.instance) (state_in d.pool d.instance) (steps_shown turn.steps.items)
    c.receive.ensures.went.goes.kept.within.instance (c.in_ok-turn.ensures.ready b.pool).steps c.settle.ensures.settled c.settle.ensures.err in
    let goes = turn_goes turn b d c.settle.ensures.turned within in
    let apart = apart_trans n a b d c.receive.ensures.went.apart (c.settle.ensures.turned.apart n c.in_ok-turn.ensures.own) in
    err_map c.settle.result (λ same. starts_cut n bytes a b d come goes apart same) c.settle.ensures.err

pub returns-clause-goes : goal.returns-clause-goes
returns-clause-goes c =
    let a = lent_value c.args.self.now in
    let b = lent_value c.receive.new.self in
    let turn = c.in_ok-turn.turn in
    let d = lent_value c.settle.new.self in
    let within = starts_within c.settle.result (state_in b.pool b.instance) (state_in d.pool d.instance) (steps_shown turn.steps.items)
    c.receive.ensures.went.goes.kept.within.instance (c.in_ok-turn.ensures.ready b.pool).steps c.settle.ensures.settled c.settle.ensures.err in
    let goes = turn_goes turn b d c.settle.ensures.turned within in
    goes_trans a b d c.receive.ensures.went.goes goes

pub returns-in_err-turn-clause-cut : goal.returns-in_err-turn-clause-cut
returns-in_err-turn-clause-cut c =
    let n = c.args.number in
    let bytes = c.args.bytes.items in
    let a = lent_value c.args.self.now in
    let b = lent_value c.receive.new.self in
    let come : HaveCome n bytes a b = record {
      lent = c.requires.lent;
      goes = c.receive.ensures.went.goes;
      acts = c.in_ok-receive.ensures.came;
    } in
    on_err c.from_residual-in_err-turn.result
    (starts_cut n bytes a b b come (goes_here b c.receive.ensures.went.goes.kept) c.receive.ensures.went.apart refl)

pub returns-in_err-receive-clause-cut : goal.returns-in_err-receive-clause-cut
returns-in_err-receive-clause-cut c = on_err c.from_residual.result (record {
  acts = c.in_err-receive.ensures.memory;
  others = c.receive.ensures.went.apart.others;
  finds = c.receive.ensures.went.apart.finds;
})
