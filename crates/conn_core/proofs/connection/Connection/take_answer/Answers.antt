use Rattle.http2_frames.specs.declared.codes.ErrorCode.TheVariants.{EnhanceYourCalm}
use Rattle.http2_streams.specs.Entries.{control_frames}
use Rattle.conn_core.specs.Step.{with_reader}
use Rattle.conn_core.proofs.Frames.{cut_by, brought_by}
use Rattle.conn_core.proofs.Readers.{for_all, for_this, unless_beside, fails_beside}
use Rattle.conn_core.proofs.connection.Connection.take_answer.Goals as goal

pub returns-then-not-put_unless-clause-stands : goal.returns-then-not-put_unless-clause-stands
returns-then-not-put_unless-clause-stands c = for_all _ c.fail.result
    (λ reader texts. cut_by texts c.fail.result (with_reader reader c.args.self.now) (with_reader reader c.put_unless.new.self)
    (with_reader reader c.fail.new.self) c.args.answer c.args.flood c.named.result c.put_unless.result c.if-not-put_unless.true
    (unless_beside reader c.args.flood c.args.self.now c.put_unless.new.self
    (control_frames c.args.answer) c.put_unless.result c.put_unless.ensures.puts) c.named.ensures
    (fails_beside reader c.fail.result c.put_unless.new.self c.fail.new.self EnhanceYourCalm c.named.result c.fail.ensures.fails))

pub returns-clause-stands : goal.returns-clause-stands
returns-clause-stands c = for_all _ c.bring.result
    (λ reader texts. brought_by texts c.bring.result (with_reader reader c.args.self.now) (with_reader reader c.put_unless.new.self)
    (with_reader reader c.bring.new.self) c.args.answer c.args.flood c.put_unless.result c.if-not-put_unless.false
    (unless_beside reader c.args.flood c.args.self.now c.put_unless.new.self
    (control_frames c.args.answer) c.put_unless.result c.put_unless.ensures.puts)
    (for_this _ c.bring.result c.bring.ensures.stands reader texts))

pub returns-then-not-put_unless-clause-fit : goal.returns-then-not-put_unless-clause-fit
returns-then-not-put_unless-clause-fit c = λ texts h. c.fail.ensures.fit texts (c.put_unless.ensures.fit texts h)

pub returns-clause-fit : goal.returns-clause-fit
returns-clause-fit c = λ texts h. c.bring.ensures.fit texts (c.put_unless.ensures.fit texts h)
