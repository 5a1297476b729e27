use Rattle.std.proofs.Common.{◌∙◌, refl, sym, ap, subst, arith}
use Rattle.std.proofs.lemmas.Grind.{common_steps}
use Rattle.blob_pool.specs.Moves.{Moves}
use Rattle.blob_pool.proofs.Moves.{moves_none}
use Rattle.execution.specs.Taking.{CanTake, steps_shown}
use Rattle.instance_core.specs.Changes.{Settles, state_after_change}
use Rattle.instance_core.specs.Slots.{holders_of_instance}
use Rattle.instance_core.specs.State.{InstanceState}
use Rattle.served_instance.specs.Lent.{lent_value}
use Rattle.served_instance.proofs.BrokenOff.{on_err}
use Rattle.served_instance.proofs.Gives.{AreGiven}
use Rattle.served_instance.proofs.Happens.{replies_owed}
use Rattle.served_instance.proofs.Lends.{through, written}
use Rattle.served_instance.proofs.Settling.{owed_counted, owed_state, owed_through, turn_taken}
use Rattle.served_instance.proofs.lent.Lent.settle.Goals as goal

pub give_all-requires-clause-owed : goal.give_all-requires-clause-owed
give_all-requires-clause-owed c =
    replies_owed c.args.self.now.pool.now c.args.turn.replies.items (c.requires.short c.args.self.now.pool.now)

pub give_all-requires-clause-counted : goal.give_all-requires-clause-counted
give_all-requires-clause-counted c = λ k. omega (arith, c.requires.given k)

pub take_turn-requires : goal.take_turn-requires
take_turn-requires c =
    let a = lent_value c.args.self.now in
    let all = c.args.self.now.connections.now in
    let q = c.give_all.new.pool in
    let ns = c.give_all.new.connections in
    let rs = c.args.turn.replies.items in
    let g = c.give_all.ensures in
    let done = owed_through c.give_all.result rs a q all.len c.deref_mut.result.now ns c.deref_mut.ensures.value
    (grind (arith, common_steps)) c.give_all.auto.connections (record {
      given = g.given;
      rest = g.rest;
      others = g.others;
      places = g.places;
      takes = g.takes;
      count = c.give_all.auto.connections;
    }) c.requires.kept c.requires.given c.requires.short in
    let zs = written all.len all.items ns in
    record {
      can = subst (λ (s : InstanceState). CanTake (steps_shown c.args.turn.steps.items) s.jobs)
          (sym (owed_state a.pool q a.instance a.connections zs rs done.owed)) c.requires.can;
      counted = owed_counted a.pool q a.instance a.connections zs rs done.owed;
    }

pub returns : goal.returns
returns c =
    let a = lent_value c.args.self.now in
    let all = c.args.self.now.connections.now in
    let q = c.give_all.new.pool in
    let ns = c.give_all.new.connections in
    let rs = c.args.turn.replies.items in
    let g = c.give_all.ensures in
    let done = owed_through c.give_all.result rs a q all.len c.deref_mut.result.now ns c.deref_mut.ensures.value
    (grind (arith, common_steps)) c.give_all.auto.connections (record {
      given = g.given;
      rest = g.rest;
      others = g.others;
      places = g.places;
      takes = g.takes;
      count = c.give_all.auto.connections;
    }) c.requires.kept c.requires.given c.requires.short in
    let zs = written all.len all.items ns in
    record {
      orders = refl;
      told = through (λ ys ws. AreGiven rs ys ws) all.len all.items c.deref_mut.result.now ns c.deref_mut.ensures.value
          (grind (arith, common_steps)) c.give_all.auto.connections c.in_ok-give_all.ensures.given;
      settled = c.take_turn.ensures.changed
          ∙ ap (state_after_change (Settles (steps_shown c.args.turn.steps.items)))
          (owed_state a.pool q a.instance a.connections zs rs done.owed);
      err = tt;
      turned = turn_taken c.args.turn a q c.take_turn.new.pool c.take_turn.new.self zs done.owed done.others done.places
          c.take_turn.ensures.moves;
      same = record { pool = refl; instance = refl; connections = refl };
    }

pub returns-in_err-give_all-clause-err : goal.returns-in_err-give_all-clause-err
returns-in_err-give_all-clause-err c =
    let a = lent_value c.args.self.now in
    let all = c.args.self.now.connections.now in
    let q = c.give_all.new.pool in
    let ns = c.give_all.new.connections in
    let rs = c.args.turn.replies.items in
    let g = c.give_all.ensures in
    let done = owed_through c.give_all.result rs a q all.len c.deref_mut.result.now ns c.deref_mut.ensures.value
    (grind (arith, common_steps)) c.give_all.auto.connections (record {
      given = g.given;
      rest = g.rest;
      others = g.others;
      places = g.places;
      takes = g.takes;
      count = c.give_all.auto.connections;
    }) c.requires.kept c.requires.given c.requires.short in
    on_err c.from_residual.result (owed_state a.pool q a.instance a.connections (written all.len all.items ns) rs done.owed)

pub returns-in_err-give_all-clause-turned : goal.returns-in_err-give_all-clause-turned
returns-in_err-give_all-clause-turned c =
    let a = lent_value c.args.self.now in
    let all = c.args.self.now.connections.now in
    let q = c.give_all.new.pool in
    let ns = c.give_all.new.connections in
    let rs = c.args.turn.replies.items in
    let g = c.give_all.ensures in
    let done = owed_through c.give_all.result rs a q all.len c.deref_mut.result.now ns c.deref_mut.ensures.value
    (grind (arith, common_steps)) c.give_all.auto.connections (record {
      given = g.given;
      rest = g.rest;
      others = g.others;
      places = g.places;
      takes = g.takes;
      count = c.give_all.auto.connections;
    }) c.requires.kept c.requires.given c.requires.short in
    let held = holders_of_instance a.instance in
    let still : Moves q q held held = moves_none q held held (λ k. refl) in
    turn_taken c.args.turn a q q a.instance (written all.len all.items ns) done.owed done.others done.places still
