use Rattle.std.proofs.Common.{◌≡◌, length, map}
use Rattle.std.specs.List.{list_all}
use Rattle.actions.specs.Commands.{is_word}
use Rattle.actions.proofs.command.are_words.Given as goal

abbrev pub invariant-loop-left : goal.invariant-loop-left
invariant-loop-left l =
    list_all is_word (map (λ s. s.now) l.left) ≡ list_all is_word (map (λ s. s.now) l.texts)

abbrev pub decreases-loop-left : goal.decreases-loop-left
decreases-loop-left l = length l.left
