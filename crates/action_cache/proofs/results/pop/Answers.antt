use Rattle.action_cache.proofs.Pairs.{pop_shown, pop_total, pop_length}
use Rattle.action_cache.proofs.results.pop.Goals as goal

pub returns-clause-shorter : goal.returns-clause-shorter
returns-clause-shorter c = rw c.pop_lru.ensures.entries (pop_shown c.args.cache.now.entries)

pub returns-clause-dropped : goal.returns-clause-dropped
returns-clause-dropped c = rw (c.pop_lru.ensures.entries, c.text_length.ensures, c.pop_lru.ensures.value)
    (pop_total c.args.cache.now.entries)

pub returns-clause-length : goal.returns-clause-length
returns-clause-length c = rw c.pop_lru.ensures.entries (pop_length c.args.cache.now.entries)
