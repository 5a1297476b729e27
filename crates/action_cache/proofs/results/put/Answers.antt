use Rattle.action_cache.proofs.Pairs.{put_shown, put_total}
use Rattle.action_cache.proofs.results.put.Goals as goal

pub returns-clause-put : goal.returns-clause-put
returns-clause-put c = rw c.in_ok-earlier.ensures.entries
    (put_shown c.args.digest c.args.text 2147483648 c.args.cache.now c.requires.cap c.requires.length)

pub returns-clause-dropped : goal.returns-clause-dropped
returns-clause-dropped c =
    rw (c.in_ok-earlier.ensures.entries, c.length_given.ensures, c.in_ok-earlier.ensures.old)
    (put_total c.args.digest c.args.text 2147483648 c.args.cache.now c.requires.cap c.requires.length)
