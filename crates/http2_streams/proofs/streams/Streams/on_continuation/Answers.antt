use Rattle.http2_streams.proofs.streams.Streams.on_continuation.Goals as goal

pub returns-in-Some-clause-answer : goal.returns-in-Some-clause-answer
returns-in-Some-clause-answer c = rw (← c.self.view_is, c.in_ok-block.ensures.given, c.in-Some.is) c.on_block.ensures.answer
