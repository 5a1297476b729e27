use Rattle.std.proofs.Common.{refl, sym, ◌∙◌}
use Rattle.std.specs.Prelude.{Result, Ok, Err, IfOk}
use Rattle.std.specs.List.{AllByRecursion}
use Rattle.http2_frames.specs.declared.frame.RawFrame.{RawFrame}
use Rattle.http2_streams.specs.declared.fault.ConnectionFault.{ConnectionFault}
use Rattle.http2_streams.specs.Decoding.{Gives}
use Rattle.http2_streams.specs.declared.event.StreamEvent.{StreamEvent}
use Rattle.http2_streams.specs.Standing.{Standing}
use Rattle.http2_streams.specs.Rules.{answer_to}
use Rattle.http2_streams.specs.Entries.{control_frames}
use Rattle.http2_streams.specs.ControlAnswers.{IsControlAnswer}
use Rattle.http2_streams.proofs.Law.{stands_after_ok, stands_after_err}
use Rattle.http2_streams.proofs.ControlLaw.{answers_are_control}
use Rattle.http2_streams.proofs.streams.Streams.on_frame.Goals as goal

pub returns-then-is_err-clause-stands : goal.returns-then-is_err-clause-stands
returns-then-is_err-clause-stands c = stands_after_err _ _ _ _ c.apply-outcome.ensures.answer
    (sym c.is_err.ensures.value ∙ c.if-is_err.true) refl

pub returns-else-is_err-clause-stands : goal.returns-else-is_err-clause-stands
returns-else-is_err-clause-stands c = stands_after_ok _ _ _ _ c.apply-outcome.ensures.answer c.apply-outcome.ensures.state
    (sym c.is_err.ensures.value ∙ c.if-is_err.false)

given_control : (v : Standing) (f : RawFrame) (r : Result StreamEvent ConnectionFault) → Gives r (answer_to v f) →
    IfOk r (λ a. AllByRecursion IsControlAnswer (control_frames a))
given_control v f (Ok a) is = answers_are_control v f a is
given_control v f (Err fault) is = tt

pub returns-then-is_err-clause-answers : goal.returns-then-is_err-clause-answers
returns-then-is_err-clause-answers c = given_control c.args.self.now c.args.frame.now c.apply-outcome.result c.apply-outcome.ensures.answer

pub returns-else-is_err-clause-answers : goal.returns-else-is_err-clause-answers
returns-else-is_err-clause-answers c = given_control c.args.self.now c.args.frame.now c.apply-outcome.result c.apply-outcome.ensures.answer
