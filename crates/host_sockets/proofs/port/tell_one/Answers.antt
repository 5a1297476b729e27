use Rattle.std.proofs.Common.{arith}
use Rattle.host_sockets.proofs.Told.{none_told, none_there, now_there, told_at}
use Rattle.host_sockets.proofs.port.tell_one.Goals as goal

pub returns-then-news-ports-clause-stay : goal.returns-then-news-ports-clause-stay
returns-then-news-ports-clause-stay g c = told_at c.args.ports.now c.args.news.now.place
    c.index-ports-news.result c.tell.new.self c.tell.ensures.stays

pub returns-then-news-ports-clause-told : goal.returns-then-news-ports-clause-told
returns-then-news-ports-clause-told g c = now_there c.args.ports.now c.args.news.now.place
    c.tell.new.self _ c.tell.ensures.told

pub returns-else-news-ports-clause-stay : goal.returns-else-news-ports-clause-stay
returns-else-news-ports-clause-stay g c = none_told c.args.ports.now

pub returns-else-news-ports-clause-told : goal.returns-else-news-ports-clause-told
returns-else-news-ports-clause-told g c = none_there c.args.ports.now c.args.news.now.place _
    (omega (arith, c.if-news-ports.false))
