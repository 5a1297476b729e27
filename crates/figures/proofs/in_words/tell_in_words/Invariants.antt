use denote.Text.{Utf8}
use denote.Shadow.{shadow}
use Rattle.figures.proofs.in_words.tell_in_words.Given as goal

-- the help is text
abbrev pub invariant-loop-line : goal.invariant-loop-line
invariant-loop-line g l =
    (goal.iterator-loop-line g).can_next l.line-iterator × (goal.iterator-loop-line g).is_finite l.line-iterator × shadow (Utf8 l.help)
