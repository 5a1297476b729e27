use Rattle.std.proofs.Common.{ℕ, List, subst}
use Rattle.server_core.specs.Pooled.{IsPoolOf}
use Rattle.server_core.specs.StandsFor.{ServerState}
use Rattle.server_core.specs.Stored.{AreStored, texts_held}
use Rattle.server_core.proofs.Held.{all_alone}
use Rattle.server_core.proofs.Pooled.{is_pool_of}
use Rattle.server_core.proofs.Storing.{stored_are}
use Rattle.server_core.proofs.server.Server.stored_texts.Goals as goal

pub returns-clause-pool : goal.returns-clause-pool
returns-clause-pool c =
    let p = c.self.inside.pool in
    subst (λ (s : ServerState). IsPoolOf p (texts_held s)) c.self.view_is
    (is_pool_of p c.self.inside.instances.items c.self.invariant.0 c.stored-texts.ensures.shared c.stored-texts.ensures.held)

pub returns-clause-count : goal.returns-clause-count
returns-clause-count c =
    subst (λ (s : ServerState). AreStored (texts_held s) c.stored-texts.result.0 c.stored-texts.result.1) c.self.view_is
    (stored_are c.self.inside.pool c.self.inside.instances.items c.stored-texts.result.0 c.stored-texts.result.1 c.self.invariant.0
    c.stored-texts.ensures.shared c.stored-texts.ensures.held c.stored-texts.ensures.texts c.stored-texts.ensures.bytes)

pub returns-clause-alone : goal.returns-clause-alone
returns-clause-alone c = λ ls st.
    let p = c.self.inside.pool in
    let held = subst (λ (s : ServerState). IsPoolOf p (texts_held s)) c.self.view_is
    (is_pool_of p c.self.inside.instances.items c.self.invariant.0 c.stored-texts.ensures.shared c.stored-texts.ensures.held) in
    subst (λ (ts : List (List ℕ)). IsPoolOf p ts) (all_alone c.args.self.now.instances ls st) held
