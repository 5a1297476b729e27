use Rattle.conn_core.proofs.Putting.{first, second, third, stops_first, stops_second, stops_third, comes_to_end}
use Rattle.conn_core.proofs.StreamsLaws.{parts_are}
use Rattle.conn_core.proofs.connection.Connection.put_all.Goals as goal

pub put_one-requires : goal.put_one-requires
put_one-requires c = (parts_are (first c.args.answer.now) _ c.requires).0

pub put_one-requires-2 : goal.put_one-requires-2
put_one-requires-2 c = (parts_are (second c.args.answer.now) _ (parts_are (first c.args.answer.now) _ c.requires).1).0

pub put_one-requires-3 : goal.put_one-requires-3
put_one-requires-3 c = (parts_are (third c.args.answer.now) _
    (parts_are (second c.args.answer.now) _ (parts_are (first c.args.answer.now) _ c.requires).1).1).0

pub put_one-requires-4 : goal.put_one-requires-4
put_one-requires-4 c = (parts_are (third c.args.answer.now) _
    (parts_are (second c.args.answer.now) _ (parts_are (first c.args.answer.now) _ c.requires).1).1).1

pub returns-then-not-put_one-clause-puts : goal.returns-then-not-put_one-clause-puts
returns-then-not-put_one-clause-puts c = stops_first c.args.answer.now c.args.self.now c.put_one.new.self c.put_one.result
    c.if-not-put_one.true c.put_one.ensures.puts

pub returns-then-not-put_one-2-clause-puts : goal.returns-then-not-put_one-2-clause-puts
returns-then-not-put_one-2-clause-puts c = stops_second c.args.answer.now c.args.self.now c.put_one.new.self c.put_one-2.new.self
    c.put_one.result c.put_one-2.result c.if-not-put_one.false c.if-not-put_one-2.true c.put_one.ensures.puts c.put_one-2.ensures.puts

pub returns-then-not-put_one-3-clause-puts : goal.returns-then-not-put_one-3-clause-puts
returns-then-not-put_one-3-clause-puts c = stops_third c.args.answer.now c.args.self.now c.put_one.new.self c.put_one-2.new.self
    c.put_one-3.new.self c.put_one.result c.put_one-2.result c.put_one-3.result c.if-not-put_one.false c.if-not-put_one-2.false
    c.if-not-put_one-3.true c.put_one.ensures.puts c.put_one-2.ensures.puts c.put_one-3.ensures.puts

pub returns-clause-puts : goal.returns-clause-puts
returns-clause-puts c = comes_to_end c.args.answer.now c.args.self.now c.put_one.new.self c.put_one-2.new.self c.put_one-3.new.self
    c.put_one-4.new.self c.put_one.result c.put_one-2.result c.put_one-3.result c.put_one-4.result c.if-not-put_one.false
    c.if-not-put_one-2.false c.if-not-put_one-3.false c.put_one.ensures.puts c.put_one-2.ensures.puts c.put_one-3.ensures.puts
    c.put_one-4.ensures.puts

pub returns-then-not-put_one-2-clause-fit : goal.returns-then-not-put_one-2-clause-fit
returns-then-not-put_one-2-clause-fit c = λ texts h. c.put_one-2.ensures.fit texts (c.put_one.ensures.fit texts h)

pub returns-then-not-put_one-3-clause-fit : goal.returns-then-not-put_one-3-clause-fit
returns-then-not-put_one-3-clause-fit c = λ texts h. c.put_one-3.ensures.fit texts
    (c.put_one-2.ensures.fit texts (c.put_one.ensures.fit texts h))

pub returns-clause-fit : goal.returns-clause-fit
returns-clause-fit c = λ texts h. c.put_one-4.ensures.fit texts
    (c.put_one-3.ensures.fit texts (c.put_one-2.ensures.fit texts (c.put_one.ensures.fit texts h)))
