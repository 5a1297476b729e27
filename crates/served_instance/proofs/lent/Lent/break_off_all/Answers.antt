use Rattle.std.proofs.Common.{rules, ◌≡◌, List, refl, sym, ap, ◌∙◌, subst, map}
use Rattle.instance_core.specs.Slots.{InstanceSlots, IsInstanceInPool, holders_of_instance, state_in}
use Rattle.served_instance.specs.declared.open_connection.OpenConnection.{OpenConnection}
use Rattle.served_instance.specs.Lent.{lent_value}
use Rattle.served_instance.specs.Ranges.{Releases}
use Rattle.served_instance.specs.Shown.{connection_shown}
use Rattle.served_instance.proofs.BrokenOff.{without_calls}
use Rattle.served_instance.proofs.Releasing.{last_counted, releases_last, releases_none}
use Rattle.served_instance.proofs.lent.Lent.break_off_all.Goals as goal

pub connections-init : goal.connections-init
connections-init c =
    let a = lent_value c.args.self.now in
    record {
      same = record { pool = refl; instance = refl; connections = refl };
      parent = refl;
      instance = refl;
      releases = releases_none a.pool (map connection_shown a.connections);
    }

pub release_spent-requires : goal.release_spent-requires
release_spent-requires c = λ k.
    let a = lent_value c.args.self.now in
    let d = lent_value c.connections.self in
    last_counted a.pool d.pool a.connections d.connections c.pop.new.self.items c.in-Some.last c.close.new.self.sending k
    c.connections.invariant.releases c.in-Some.ensures.items c.close.ensures.sources c.close.ensures.dropped (c.requires k)

pub connections-preserved : goal.connections-preserved
connections-preserved c =
    let a = lent_value c.args.self.now in
    let d = lent_value c.connections.self in
    record {
      same = record {
        pool = c.connections.invariant.same.pool;
        instance = c.connections.invariant.same.instance;
        connections = c.connections.invariant.same.connections;
      };
      parent = c.connections.invariant.parent;
      instance = c.connections.invariant.instance;
      releases = releases_last a.pool d.pool c.release_spent.new.pool a.connections d.connections c.pop.new.self.items c.in-Some.last
          c.close.new.self.sending c.connections.invariant.releases c.in-Some.ensures.items c.close.ensures.sources
          c.close.ensures.dropped c.release_spent.ensures.moves;
    }

pub returns-clause-forgotten : goal.returns-clause-forgotten
returns-clause-forgotten c = λ p.
    c.forget_all.ensures.changed p ∙ ap (λ (i : InstanceSlots). without_calls (state_in p i)) c.connections.invariant.instance

pub returns-clause-gone : goal.returns-clause-gone
returns-clause-gone c =
    let a = lent_value c.args.self.now in
    let d = lent_value c.connections.self in
    let same : c.pop.new.self.items ≡ d.connections = search rules in
    record {
      parent = c.connections.invariant.parent;
      releases = subst (λ (xs : List OpenConnection). Releases a.pool (map connection_shown a.connections) d.pool
          (map connection_shown xs)) (sym same) c.connections.invariant.releases;
      holders = λ k. c.forget_all.ensures.holders k
          ∙ ap (λ (i : InstanceSlots). holders_of_instance i k) c.connections.invariant.instance;
      kept = λ p kept. c.forget_all.ensures.kept p
          (subst (λ (i : InstanceSlots). IsInstanceInPool p i) (sym c.connections.invariant.instance) kept);
    }
