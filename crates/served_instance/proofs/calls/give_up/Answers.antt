use Rattle.std.proofs.Common.{refl, sym, ap, ◌∙◌}
use Rattle.std.specs.Option.{option_to_list}
use Rattle.instance_core.specs.State.{seeing}
use Rattle.instance_core.specs.Slots.{state_in}
use Rattle.served_instance.specs.Calls.{call_id}
use Rattle.served_instance.specs.Lone.{after_call_events}
use Rattle.served_instance.specs.Acts.{cancels_of}
use Rattle.served_instance.proofs.Closes.{cancel_acts, cancel_leads, cancel_done}
use Rattle.served_instance.proofs.Leads.{leads_here}
use Rattle.served_instance.proofs.calls.give_up.Goals as goal

pub calls-init : goal.calls-init
calls-init c = record {
  leads = λ p seen others. leads_here (seeing seen (state_in p c.args.instance.now)) others
      (after_call_events c.args.number (cancels_of c.args.closed));
  holders = λ k. refl;
  kept = λ p k. k;
}

pub calls-preserved : goal.calls-preserved
calls-preserved c = record {
  leads = λ p seen others. cancel_leads c.args.number c.in-Some.stream (seeing seen (state_in p c.args.instance.now))
      (seeing seen (state_in p c.calls.instance)) (seeing seen (state_in p c.cancel.new.self)) others others others c.calls.closed
      c.pop_call.new.self
      (after_call_events c.args.number (cancels_of c.args.closed))
      (c.calls.invariant.leads p seen others) c.in-Some.ensures.first c.in-Some.ensures.rest
      (cancel_acts (seeing seen (state_in p c.calls.instance)) (seeing seen (state_in p c.cancel.new.self))
      (call_id c.args.number c.in-Some.stream) others (c.cancel.ensures.changed p seen));
  holders = λ k. c.cancel.ensures.holders k ∙ c.calls.invariant.holders k;
  kept = λ p k. c.cancel.ensures.kept p (c.calls.invariant.kept p k);
}

pub returns-clause-cancelled : goal.returns-clause-cancelled
returns-clause-cancelled c = λ p seen others.
    cancel_done c.args.number (seeing seen (state_in p c.args.instance.now))
    (seeing seen (state_in p c.calls.instance)) others others c.calls.closed
    (after_call_events c.args.number (cancels_of c.args.closed))
    (c.calls.invariant.leads p seen others) (sym (ap option_to_list c.in_default.is) ∙ c.pop_call.ensures.first)
