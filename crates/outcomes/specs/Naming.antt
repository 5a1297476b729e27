-- What names the texts that a run leaves: they are named by the function of the action's digest.
use Rattle.std.specs.Prelude.{ℕ, List}
use Rattle.digest.specs.declared.Digest.{Digest}
use Rattle.instance_view.specs.Visible.{Blob}
use Rattle.reapi_messages.specs.Digests.{DigestValue}
use Rattle.execution_messages.specs.Written.{digest_value}
pub use Rattle.run_calls.specs.Naming.{digest_like}

-- the digest of a text, by the function of another digest, as messages write it
abbrev pub written_like : Digest → List ℕ → DigestValue
written_like like text = digest_value (digest_like like text)

-- the text under the digest that names it
abbrev pub blob_like : Digest → List ℕ → Blob
blob_like like text = (digest_like like text, text)
