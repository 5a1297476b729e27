use Rattle.std.proofs.Common.{◌≡◌, refl, ap, ◌∙◌, subst, List, arith}
use Rattle.std.proofs.lemmas.Grind.{common_steps}
use Rattle.conn_core.specs.declared.event.CallEvent.{CallEvent}
use Rattle.served_instance.specs.Acts.{Acts, cancels_of}
use Rattle.served_instance.specs.Lone.{after_call_events}
use Rattle.instance_core.specs.State.{seeing}
use Rattle.instance_core.specs.Slots.{state_in}
use Rattle.blob_pool.specs.Slots.{count_at}
use Rattle.served_instance.proofs.Places.{place_within}
use Rattle.served_instance.proofs.Releasing.{closed_few, releases_closed}
use Rattle.served_instance.proofs.Closes.{closes_by}
use Rattle.served_instance.proofs.lent.Lent.close.Goals as goal

pub remove-requires : goal.remove-requires
remove-requires c = grind (arith, common_steps, place_within c.args.number c.args.place c.args.self.now.connections.now.items c.requires.there)

pub returns-clause-closed : goal.returns-clause-closed
returns-clause-closed c = λ p seen.
    let left = c.remove.new.self.items in
    let same : cancels_of c.release_spent.new.connection ≡ cancels_of c.remove.result.connection =
    ap cancels_of c.release_spent.ensures.rest ∙ ap cancels_of c.close.ensures.rest in
    closes_by c.args.number (seeing seen (state_in p c.args.self.now.instance.now))
    (seeing seen (state_in p c.give_up.new.instance)) c.args.self.now.connections.now.items left c.args.place c.remove.result
    c.requires.there c.remove.ensures.value c.remove.ensures.by_index.2
    (subst (λ (es : List CallEvent). Acts (seeing seen (state_in p c.args.self.now.instance.now)) left
    (seeing seen (state_in p c.give_up.new.instance)) left (after_call_events c.args.number es)) same
    (c.give_up.ensures.cancelled p seen left))

pub release_spent-requires : goal.release_spent-requires
release_spent-requires c = λ k.
    closed_few c.args.number c.args.self.now.connections.now.items c.args.place c.remove.result c.close.new.self.sending
    (count_at c.args.self.now.pool.now k) k
    c.requires.there c.remove.ensures.value c.close.ensures.sources c.close.ensures.dropped (c.requires.counted k)

pub returns-clause-gone : goal.returns-clause-gone
returns-clause-gone c = record {
  parent = refl;
  releases = releases_closed c.args.number c.args.self.now.pool.now c.release_spent.new.pool c.args.self.now.connections.now.items
      c.remove.new.self.items c.args.place c.remove.result c.close.new.self.sending
      c.requires.there c.remove.ensures.value c.remove.ensures.by_index.2 c.close.ensures.sources c.close.ensures.dropped
      c.release_spent.ensures.moves;
  holders = c.give_up.ensures.holders;
  kept = c.give_up.ensures.kept;
}
