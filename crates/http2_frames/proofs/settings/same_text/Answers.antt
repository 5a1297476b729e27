use Rattle.std.proofs.Common.{ℕ, arith}
use Rattle.http2_frames.proofs.SettingsLists.{settings_same}
use Rattle.http2_frames.proofs.settings.same_text.Goals as goal

pub returns-clause-text : goal.returns-clause-text
returns-clause-text c = settings_same c.args.bytes.now (λ (k : ℕ). let w = c.type_inv.bytes k in omega arith) c.requires
