use Rattle.std.proofs.Common.{◌≡◌, ℕ, List, arith, inr, subst, refl}
use Rattle.instance_core.specs.Slots.{state_in}
use Rattle.instance_core.specs.State.{new_instance}
use Rattle.server_events.specs.LimitsShown.{limits_value}
use Rattle.served_instance.proofs.instance.ServedInstance.new.Goals as goal

pub returns-clause-within : goal.returns-clause-within
returns-clause-within c = λ p. record { instance = c.in_ok-new.ensures.within p; connections = rw c.new-2.ensures.items (omega arith) }

pub returns-clause-stands : goal.returns-clause-stands
returns-clause-stands c = λ p. record {
  state = subst (λ (name : List ℕ). state_in p c.in_ok-new.field-0
      ≡ new_instance name c.args.config.now.quota c.args.config.now.slots (limits_value c.args.config.now.limits)) c.deref.ensures
      (c.in_ok-new.ensures.opened p);
  connections = rw c.new-2.ensures.items tt;
  ranges = rw c.new-2.ensures.items refl;
  watched = record { given = tt; busy = inr tt };
}

pub returns-clause-tidy : goal.returns-clause-tidy
returns-clause-tidy c = rw c.new-2.ensures.items tt
