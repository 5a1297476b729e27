-- What names the texts that a run gives.
use Rattle.std.specs.Prelude.{ℕ, List}
use Rattle.digest.specs.declared.Digest.{Digest}
use Rattle.digest.specs.Naming.{digest_by, function_of}

-- the digest of a text, by the function of another digest
abbrev pub digest_like : Digest → List ℕ → Digest
digest_like like text = digest_by (function_of like.hash) text
