use Rattle.std.proofs.Common.{◌≡◌, ◌++◌, length, map, string_bytes}
use Rattle.run_programs.proofs.starting.add_words.Given as goal

abbrev pub invariant-loop-left : goal.invariant-loop-left
invariant-loop-left g l =
    (g.C.Command.shown l.command).words ++ map string_bytes l.left
    ≡ (g.C.Command.shown l.fn.command).words ++ map string_bytes l.words

abbrev pub decreases-loop-left : goal.decreases-loop-left
decreases-loop-left g l = length l.left
