use Rattle.std.proofs.Common.{refl}
use Rattle.bytestream.specs.declared.writing.Written.TheVariants.{Goes, Answered}
use Rattle.bytestream.specs.Shown.{written_shown}
use Rattle.instance_core.proofs.Writes.{meaning_ok, meaning_refused}
use Rattle.instance_core.proofs.writing.settle_first.Goals as goal

pub returns-in_ok-put-in-Ok-Goes-clause-replies : goal.returns-in_ok-put-in-Ok-Goes-clause-replies
returns-in_ok-put-in-Ok-Goes-clause-replies c = λ answer means p.
    rw (
      meaning_ok written_shown c.args.written c.in-Ok-Goes.field-0
          (Goes c.in-Ok-Goes.write) answer c.in-Ok-Goes.is c.in-Ok-Goes.field-0-is means,
      c.new-in-Ok-Goes.ensures.items,
    ) refl

pub returns-in_ok-put-in-Ok-Goes-clause-changed : goal.returns-in_ok-put-in-Ok-Goes-clause-changed
returns-in_ok-put-in-Ok-Goes-clause-changed c = λ answer means s.
    rw (
      meaning_ok written_shown c.args.written c.in-Ok-Goes.field-0
          (Goes c.in-Ok-Goes.write) answer c.in-Ok-Goes.is c.in-Ok-Goes.field-0-is means,
      c.in_ok-put-in-Ok-Goes.ensures.ok,
      c.new.ensures,
    )
    refl

pub returns-in-Ok-Answered-clause-replies : goal.returns-in-Ok-Answered-clause-replies
returns-in-Ok-Answered-clause-replies c = λ answer means p.
    rw (meaning_ok written_shown c.args.written c.in-Ok-Answered.field-0
    (Answered c.in-Ok-Answered.reply) answer c.in-Ok-Answered.is c.in-Ok-Answered.field-0-is means) (c.finish.ensures.replies p)

pub returns-in-Ok-Answered-clause-changed : goal.returns-in-Ok-Answered-clause-changed
returns-in-Ok-Answered-clause-changed c = λ answer means s.
    rw (meaning_ok written_shown c.args.written c.in-Ok-Answered.field-0
    (Answered c.in-Ok-Answered.reply) answer c.in-Ok-Answered.is c.in-Ok-Answered.field-0-is means) (c.finish.ensures.changed s)

pub returns-in_ok-refusal-in-Err-clause-replies : goal.returns-in_ok-refusal-in-Err-clause-replies
returns-in_ok-refusal-in-Err-clause-replies c = λ answer means p.
    rw (meaning_refused written_shown c.args.written c.in-Err.error c.in_ok-refusal-in-Err.refusal answer c.in-Err.is
    c.in_ok-refusal-in-Err.ensures.refused means) (c.finish-in-Err.ensures.replies p)

pub returns-in_ok-refusal-in-Err-clause-changed : goal.returns-in_ok-refusal-in-Err-clause-changed
returns-in_ok-refusal-in-Err-clause-changed c = λ answer means s.
    rw (meaning_refused written_shown c.args.written c.in-Err.error c.in_ok-refusal-in-Err.refusal answer c.in-Err.is
    c.in_ok-refusal-in-Err.ensures.refused means) (c.finish-in-Err.ensures.changed s)
