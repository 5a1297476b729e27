use Rattle.std.proofs.Common.{◌≡◌, ap, ◌∙◌, subst, sym}
use Rattle.std.specs.Prelude.{map, Some, None, option_map}
use Rattle.conn_core.specs.StandsFor.{ConnectionValue}
use Rattle.served_instance.specs.Connections.{open_ones}
use Rattle.served_instance.specs.StandsFor.{AreServed}
use Rattle.served_instance.specs.Places.{connection_at}
use Rattle.served_instance.specs.Slots.{ServedSlots}
use Rattle.served_instance.specs.Shown.{connection_shown}
use Rattle.blob_pool.specs.Slots.{text_at}
use Rattle.served_instance.proofs.Serves.{same_at}
use Rattle.served_instance.proofs.Refuses.{same_pending}
use Rattle.served_instance.proofs.instance.ServedInstance.pending_near.Goals as goal

pub returns-in-None-clause-bytes : goal.returns-in-None-clause-bytes
returns-in-None-clause-bytes c = λ l s a.
    let seen = ap (λ (v : ServedSlots). v.connections) c.self.view_is in
    let kept = ap (map connection_shown) c.deref.ensures.value ∙ seen in
    let served = subst (λ vs. AreServed (text_at s.pool) vs (open_ones l.connections)) (sym kept) s.stand in
    let there : None ≡ connection_at c.args.connection c.args.self.now.connections =
    c.in-None.ensures (text_at s.pool) l.connections served a ∙ ap (connection_at c.args.connection) kept in
    ap (option_map (λ (v : ConnectionValue). v.sending.pending)) there
    ∙ same_pending (text_at s.pool) _ _ (same_at (text_at s.pool) c.args.connection c.args.self.now.connections l.connections s.stand)

pub returns-in-Some-clause-bytes : goal.returns-in-Some-clause-bytes
returns-in-Some-clause-bytes c = λ l s a.
    let seen = ap (λ (v : ServedSlots). v.connections) c.self.view_is in
    let kept = ap (map connection_shown) c.deref.ensures.value ∙ seen in
    let served = subst (λ vs. AreServed (text_at s.pool) vs (open_ones l.connections)) (sym kept) s.stand in
    let there : Some c.in-Some.found.now ≡ connection_at c.args.connection c.args.self.now.connections =
    c.in-Some.ensures (text_at s.pool) l.connections served a ∙ ap (connection_at c.args.connection) kept in
    ap Some c.pending.ensures.bytes ∙ (ap (option_map (λ (v : ConnectionValue). v.sending.pending)) there
    ∙ same_pending (text_at s.pool) _ _ (same_at (text_at s.pool) c.args.connection c.args.self.now.connections l.connections s.stand))
