use Rattle.std.proofs.Common.{◌≡◌, ◌+◌, length, unwrap_or}
use Rattle.std.specs.Map.{lookup}
use Rattle.digest.specs.declared.Digest.{Digest}
use Rattle.digest.specs.Naming.{same_digest}
use Rattle.execution.specs.Numbers.{digest_number, kept_digests}
use Rattle.execution.proofs.numbering.text_numbers.Given as goal

abbrev pub invariant-texts : goal.invariant-texts
invariant-texts l = record {
  found : (d : Digest) → unwrap_or (lookup (same_digest d) l.numbers.entries) (l.number + digest_number (kept_digests l.left) d)
      ≡ digest_number (kept_digests l.texts) d;
  counted : l.number + length l.left ≡ length l.texts;
}

abbrev pub decreases-texts : goal.decreases-texts
decreases-texts l = length l.left
