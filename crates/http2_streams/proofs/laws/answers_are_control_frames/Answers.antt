use Rattle.http2_streams.specs.Standing.{standing}
use Rattle.http2_streams.proofs.ControlLaw.{answers_are_control, answers_are_short}
use Rattle.http2_streams.proofs.laws.answers_are_control_frames.Goals as goal

pub returns-clause-kinds : goal.returns-clause-kinds
returns-clause-kinds c = λ d f a h. answers_are_control (standing d) f a h

pub returns-clause-short : goal.returns-clause-short
returns-clause-short c = λ d f a h. answers_are_short (standing d) f a h
