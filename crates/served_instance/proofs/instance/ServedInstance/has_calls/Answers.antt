use Rattle.std.proofs.Common.{◌≡◌, ap, ◌∙◌, List}
use Rattle.std.specs.Prelude.{map, Some, None, option_map}
use Rattle.served_instance.specs.Places.{connection_at}
use Rattle.served_instance.specs.Slots.{ServedSlots}
use Rattle.served_instance.specs.Shown.{connection_shown}
use Rattle.served_instance.specs.declared.open_connection.OpenConnection.{OpenConnection}
use Rattle.blob_pool.specs.Slots.{text_at}
use Rattle.served_instance.proofs.Serves.{same_at}
use Rattle.served_instance.proofs.Refuses.{same_presence_of_calls, calls_kept}
use Rattle.served_instance.proofs.instance.ServedInstance.has_calls.Goals as goal

pub returns-in-None : goal.returns-in-None
returns-in-None c = λ l s.
    let there : None ≡ connection_at c.args.connection c.args.self.now.connections =
    c.in-None.ensures ∙ ap (λ (os : List OpenConnection). connection_at c.args.connection (map connection_shown os)) c.deref.ensures.value
    ∙ ap (λ (v : ServedSlots). connection_at c.args.connection v.connections) c.self.view_is in
    ap (option_map calls_kept) there ∙ same_presence_of_calls (text_at s.pool) _ _
    (same_at (text_at s.pool) c.args.connection c.args.self.now.connections l.connections s.stand)

pub returns-in-Some : goal.returns-in-Some
returns-in-Some c = λ l s.
    let there : Some c.in-Some.kept.now ≡ connection_at c.args.connection c.args.self.now.connections =
    c.in-Some.ensures ∙ ap (λ (os : List OpenConnection). connection_at c.args.connection (map connection_shown os)) c.deref.ensures.value
    ∙ ap (λ (v : ServedSlots). connection_at c.args.connection v.connections) c.self.view_is in
    ap Some c.has_calls.ensures ∙ (ap (option_map calls_kept) there
    ∙ same_presence_of_calls (text_at s.pool) _ _
    (same_at (text_at s.pool) c.args.connection c.args.self.now.connections l.connections s.stand))
