use Rattle.std.proofs.Common.{sym, ap, ◌∙◌}
use Rattle.std.specs.Prelude.{position}
use Rattle.blob_pool.specs.Slots.{count_at}
use Rattle.served_instance.specs.Present.{is_numbered}
use Rattle.served_instance.proofs.Cut.{others_all, others_removed}
use Rattle.served_instance.proofs.Releasing.{closed_few, releases_closed}
use Rattle.served_instance.proofs.calls.remove.Goals as goal

pub returns-in-None-clause-left : goal.returns-in-None-clause-left
returns-in-None-clause-left c =
    others_all c.args.number c.args.connections.now.items
    (sym (c.find.ensures ∙ ap (position (is_numbered c.args.number)) c.deref.ensures.value) ∙ c.in-None.is)

pub returns-in-Some-clause-left : goal.returns-in-Some-clause-left
returns-in-Some-clause-left c =
    others_removed c.args.number c.args.connections.now.items c.remove.new.self.items c.in-Some.place
    (sym (c.find.ensures ∙ ap (position (is_numbered c.args.number)) c.deref.ensures.value) ∙ c.in-Some.is) c.remove.ensures.by_index.2

pub release_spent-requires : goal.release_spent-requires
release_spent-requires c = λ k.
    closed_few c.args.number c.args.connections.now.items c.in-Some.place c.remove.result c.close.new.self.sending
    (count_at c.args.pool.now k) k
    (sym (c.find.ensures ∙ ap (position (is_numbered c.args.number)) c.deref.ensures.value) ∙ c.in-Some.is)
    c.remove.ensures.value c.close.ensures.sources c.close.ensures.dropped (c.requires k)

pub returns-in-Some-clause-releases : goal.returns-in-Some-clause-releases
returns-in-Some-clause-releases c =
    releases_closed c.args.number c.args.pool.now c.release_spent.new.pool c.args.connections.now.items c.remove.new.self.items
    c.in-Some.place c.remove.result c.close.new.self.sending
    (sym (c.find.ensures ∙ ap (position (is_numbered c.args.number)) c.deref.ensures.value) ∙ c.in-Some.is)
    c.remove.ensures.value c.remove.ensures.by_index.2 c.close.ensures.sources c.close.ensures.dropped c.release_spent.ensures.moves
