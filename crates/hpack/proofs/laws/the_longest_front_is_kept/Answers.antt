use Rattle.hpack.proofs.Evictions.{longest_is, longest_only}
use Rattle.hpack.proofs.laws.the_longest_front_is_kept.Goals as goal

pub returns-clause-kept : goal.returns-clause-kept
returns-clause-kept c = λ room entries. longest_is entries room

pub returns-clause-only : goal.returns-clause-only
returns-clause-only c = λ room entries front. longest_only entries front room
