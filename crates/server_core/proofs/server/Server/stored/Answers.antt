use Rattle.std.proofs.Common.{ℕ, List, subst}
use Rattle.server_core.specs.Stored.{AreStored}
use Rattle.server_core.proofs.Held.{all_alone}
use Rattle.server_core.proofs.server.Server.stored.Goals as goal

pub returns-clause-alone : goal.returns-clause-alone
returns-clause-alone c = λ ls st.
    subst (λ (ts : List (List ℕ)). AreStored ts c.stored_texts-stored.result.texts c.stored_texts-stored.result.bytes)
    (all_alone c.args.self.now.instances ls st) c.stored_texts-stored.ensures.count
