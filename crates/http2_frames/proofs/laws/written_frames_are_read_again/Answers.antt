use Rattle.http2_frames.proofs.Again.{again, texts_again}
use Rattle.http2_frames.proofs.laws.written_frames_are_read_again.Goals as goal

pub returns-clause-text : goal.returns-clause-text
returns-clause-text c = texts_again

pub returns-clause-content : goal.returns-clause-content
returns-clause-content c = again
