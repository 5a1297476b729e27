use Rattle.http2_frames.proofs.Padding.{padded}
use Rattle.http2_frames.proofs.laws.padding_surrounds_the_content.Goals as goal

pub returns : goal.returns
returns c = padded
