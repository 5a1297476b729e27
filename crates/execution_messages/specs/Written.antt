-- Digests as messages write them.
use Rattle.std.specs.Prelude.{pos, string_bytes}
use Rattle.digest.specs.declared.Digest.{Digest}
use Rattle.digest.specs.Text.{hash_text}
use Rattle.reapi_messages.specs.Digests.{DigestValue}
use Rattle.execution_messages.specs.declared.written.WrittenDigest.{WrittenDigest}

abbrev pub digest_value : Digest → DigestValue
digest_value d = record { hash = hash_text d; size_bytes = pos d.size }

abbrev pub written_shown : WrittenDigest → DigestValue
written_shown w = record { hash = string_bytes w.hash; size_bytes = w.size }
