use Rattle.std.proofs.Common.{◌≡◌, true}
use Rattle.library_tests.proofs.texts.push_in_pieces.Given as goal

abbrev pub invariant-loop-piece : goal.invariant-loop-piece
invariant-loop-piece l = l.draft.is_open ≡ true
