use Rattle.std.proofs.Common.{refl, Some, None}
use Rattle.instance_core.proofs.Writes.{reply_seen, meaning_ok, meaning_refused}
use Rattle.instance_core.proofs.writing.settle_next.Goals as goal

pub returns-in-Ok-None-clause-replies : goal.returns-in-Ok-None-clause-replies
returns-in-Ok-None-clause-replies c = λ answer means p.
    rw (
      meaning_ok reply_seen c.args.outcome c.in-Ok-None.field-0 None answer c.in-Ok-None.is c.in-Ok-None.field-0-is means,
      c.new.ensures.items,
    ) refl

pub returns-in-Ok-None-clause-changed : goal.returns-in-Ok-None-clause-changed
returns-in-Ok-None-clause-changed c = λ answer means s.
    rw (meaning_ok reply_seen c.args.outcome c.in-Ok-None.field-0 None answer c.in-Ok-None.is c.in-Ok-None.field-0-is means) refl

pub returns-in-Ok-Some-clause-replies : goal.returns-in-Ok-Some-clause-replies
returns-in-Ok-Some-clause-replies c = λ answer means p.
    rw (meaning_ok reply_seen c.args.outcome c.in-Ok-Some.field-0
    (Some c.in-Ok-Some.reply) answer c.in-Ok-Some.is c.in-Ok-Some.field-0-is means) (c.finish.ensures.replies p)

pub returns-in-Ok-Some-clause-changed : goal.returns-in-Ok-Some-clause-changed
returns-in-Ok-Some-clause-changed c = λ answer means s.
    rw (meaning_ok reply_seen c.args.outcome c.in-Ok-Some.field-0
    (Some c.in-Ok-Some.reply) answer c.in-Ok-Some.is c.in-Ok-Some.field-0-is means) (c.finish.ensures.changed s)

pub returns-in_ok-refusal-in-Err-clause-replies : goal.returns-in_ok-refusal-in-Err-clause-replies
returns-in_ok-refusal-in-Err-clause-replies c = λ answer means p.
    rw (meaning_refused reply_seen c.args.outcome c.in-Err.error c.in_ok-refusal-in-Err.refusal answer c.in-Err.is
    c.in_ok-refusal-in-Err.ensures.refused means) (c.finish-in-Err.ensures.replies p)

pub returns-in_ok-refusal-in-Err-clause-changed : goal.returns-in_ok-refusal-in-Err-clause-changed
returns-in_ok-refusal-in-Err-clause-changed c = λ answer means s.
    rw (meaning_refused reply_seen c.args.outcome c.in-Err.error c.in_ok-refusal-in-Err.refusal answer c.in-Err.is
    c.in_ok-refusal-in-Err.ensures.refused means) (c.finish-in-Err.ensures.changed s)
