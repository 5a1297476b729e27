use Rattle.http2_frames.proofs.Steps.{stands_passed, less_is_left}
use Rattle.http2_frames.proofs.reader.FrameReader.pass.Goals as goal

pub returns-clause-stands : goal.returns-clause-stands
returns-clause-stands c = stands_passed c.args.self.now c.pass_front.new.self c.requires c.pass_front.ensures

pub returns-clause-shorter : goal.returns-clause-shorter
returns-clause-shorter c = less_is_left c.args.self.now c.pass_front.new.self c.requires c.pass_front.ensures
