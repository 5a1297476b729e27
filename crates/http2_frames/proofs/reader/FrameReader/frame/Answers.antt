use Rattle.std.proofs.Common.{◌∙◌, ap}
use Rattle.http2_frames.specs.Reading.{frame_at}
use Rattle.http2_frames.proofs.Steps.{first_is_front}
use Rattle.http2_frames.proofs.reader.FrameReader.frame.Goals as goal

pub returns-clause-front : goal.returns-clause-front
returns-clause-front c =
    c.frame_at.ensures.value ∙ ap frame_at c.first.ensures
    ∙ first_is_front c.self.inside.preface.now c.self.inside.joined c.self.inside.received c.self.inside.fault c.args.self.now
    c.self.view_is c.self.invariant.2 c.requires
