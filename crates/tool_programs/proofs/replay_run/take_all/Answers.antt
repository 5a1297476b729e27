use Rattle.std.proofs.Common.{◌≡◌, ◌∷◌, [], rules, refl}
use Rattle.server_events.specs.Shown.{event_value}
use Rattle.tool_programs.proofs.Alone.{all_taken, has_room, one_more}
use Rattle.tool_programs.proofs.replay_run.take_all.Goals as goal

pub events-init : goal.events-init
events-init c = λ configs begun. ([], begun, refl)

pub step-requires : goal.step-requires
step-requires c =
    record {
      room = has_room c.requires.begun.0 c.args.events c.events.events c.events.run
          (c.events.invariant c.requires.begun.0 c.requires.begun.1) c.requires.few;
    }

pub events-preserved : goal.events-preserved
events-preserved c =
    let first : c.events.events ≡ event_value c.in-Some.event ∷ c.next_event.new.self = search rules in
    λ configs begun.
    one_more configs c.args.events c.events.events c.next_event.new.self
    (event_value c.in-Some.event) c.events.run c.in_ok-run.run' first c.in_ok-run.ensures (c.events.invariant configs begun)

pub returns : goal.returns
returns c =
    let none : c.events.events ≡ [] = search rules in
    λ configs begun. all_taken configs c.args.events c.events.events c.events.run none (c.events.invariant configs begun)
