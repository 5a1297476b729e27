use Rattle.http2_frames.proofs.MoreBytes.{more_frames, fault_lasts}
use Rattle.http2_frames.proofs.laws.more_bytes_add_frames.Goals as goal

pub returns-clause-frames : goal.returns-clause-frames
returns-clause-frames c = more_frames

pub returns-clause-fault : goal.returns-clause-fault
returns-clause-fault c = fault_lasts
