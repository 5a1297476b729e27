use Rattle.std.proofs.Common.{◌≡◌, ◌≤◌, refl, Result}
use Rattle.blob_pool.specs.Slots.{count_at}
use Rattle.blob_pool.specs.Moves.{Moves}
use Rattle.cas_service.specs.Answers.{Answers}
use Rattle.cas_service.specs.declared.error.CallError.{CallError}
use Rattle.instance_core.specs.declared.answer.Answer.{Answer}
use Rattle.instance_core.specs.declared.answer.Answer.TheVariants.{Message, Operation, Messages, Range, Watching}
use Rattle.instance_core.specs.ReplyHolders.{result_holders}
use Rattle.instance_core.specs.Carries.{answer_shown, answer_holders, EndsWithin}
use Rattle.instance_core.proofs.Replying.{of_answer, to_answer, refused_so, none_moves}
use Rattle.instance_core.proofs.replies.reply_to_request.Goals as goal

pub returns-in-Ok-Message-clause-replies : goal.returns-in-Ok-Message-clause-replies
returns-in-Ok-Message-clause-replies c = λ answer means.
    let answered = of_answer (λ (o : Result Answer CallError). Answers (answer_shown c.args.pool.now) o answer) c.args.outcome
    c.in-Ok-Message.field-0 (Message c.in-Ok-Message.message) c.in-Ok-Message.is c.in-Ok-Message.field-0-is means in
    rw answered (c.reply_with.ensures.replies c.args.pool.now)

pub returns-in-Ok-Message-clause-moves : goal.returns-in-Ok-Message-clause-moves
returns-in-Ok-Message-clause-moves c =
    none_moves c.args.pool.now (answer_holders c.args.outcome) (result_holders c.reply_with.result)
    (λ k. to_answer (λ (o : Result Answer CallError). answer_holders o k ≡ 0) c.args.outcome c.in-Ok-Message.field-0
    (Message c.in-Ok-Message.message) c.in-Ok-Message.is c.in-Ok-Message.field-0-is refl) c.reply_with.ensures.given

pub returns-in-Ok-Operation-clause-replies : goal.returns-in-Ok-Operation-clause-replies
returns-in-Ok-Operation-clause-replies c = λ answer means.
    let answered = of_answer (λ (o : Result Answer CallError). Answers (answer_shown c.args.pool.now) o answer) c.args.outcome
    c.in-Ok-Operation.field-0 (Operation c.in-Ok-Operation.operation) c.in-Ok-Operation.is c.in-Ok-Operation.field-0-is means in
    rw answered (c.operation_reply.ensures.replies c.args.pool.now)

pub returns-in-Ok-Operation-clause-moves : goal.returns-in-Ok-Operation-clause-moves
returns-in-Ok-Operation-clause-moves c =
    none_moves c.args.pool.now (answer_holders c.args.outcome) (result_holders c.operation_reply.result)
    (λ k. to_answer (λ (o : Result Answer CallError). answer_holders o k ≡ 0) c.args.outcome c.in-Ok-Operation.field-0
    (Operation c.in-Ok-Operation.operation) c.in-Ok-Operation.is c.in-Ok-Operation.field-0-is refl) c.operation_reply.ensures.given

pub returns-in-Ok-Messages-clause-replies : goal.returns-in-Ok-Messages-clause-replies
returns-in-Ok-Messages-clause-replies c = λ answer means.
    let answered = of_answer (λ (o : Result Answer CallError). Answers (answer_shown c.args.pool.now) o answer) c.args.outcome
    c.in-Ok-Messages.field-0 (Messages c.in-Ok-Messages.messages) c.in-Ok-Messages.is c.in-Ok-Messages.field-0-is means in
    rw answered (c.messages_reply.ensures.replies c.args.pool.now)

pub returns-in-Ok-Messages-clause-moves : goal.returns-in-Ok-Messages-clause-moves
returns-in-Ok-Messages-clause-moves c =
    none_moves c.args.pool.now (answer_holders c.args.outcome) (result_holders c.messages_reply.result)
    (λ k. to_answer (λ (o : Result Answer CallError). answer_holders o k ≡ 0) c.args.outcome c.in-Ok-Messages.field-0
    (Messages c.in-Ok-Messages.messages) c.in-Ok-Messages.is c.in-Ok-Messages.field-0-is refl) c.messages_reply.ensures.given

pub returns-in-Ok-Range-clause-replies : goal.returns-in-Ok-Range-clause-replies
returns-in-Ok-Range-clause-replies c = λ answer means.
    let answered = of_answer (λ (o : Result Answer CallError). Answers (answer_shown c.args.pool.now) o answer) c.args.outcome
    c.in-Ok-Range.field-0 (Range c.in-Ok-Range.source) c.in-Ok-Range.is c.in-Ok-Range.field-0-is means in
    rw answered (c.give.ensures.replies)

pub give-requires-clause-held : goal.give-requires-clause-held
give-requires-clause-held c = λ k. of_answer (λ (o : Result Answer CallError). answer_holders o k ≤ count_at c.args.pool.now k)
    c.args.outcome c.in-Ok-Range.field-0 (Range c.in-Ok-Range.source) c.in-Ok-Range.is c.in-Ok-Range.field-0-is (c.requires.held k)

pub give-requires-clause-within : goal.give-requires-clause-within
give-requires-clause-within c = of_answer (EndsWithin c.args.pool.now) c.args.outcome c.in-Ok-Range.field-0
    (Range c.in-Ok-Range.source) c.in-Ok-Range.is c.in-Ok-Range.field-0-is c.requires.within

pub returns-in-Ok-Range-clause-moves : goal.returns-in-Ok-Range-clause-moves
returns-in-Ok-Range-clause-moves c = to_answer
    (λ (o : Result Answer CallError). Moves c.args.pool.now c.give.new.pool (answer_holders o) (result_holders c.give.result))
    c.args.outcome c.in-Ok-Range.field-0 (Range c.in-Ok-Range.source) c.in-Ok-Range.is c.in-Ok-Range.field-0-is c.give.ensures.moves

pub returns-in_ok-refusal-in-Err-clause-replies : goal.returns-in_ok-refusal-in-Err-clause-replies
returns-in_ok-refusal-in-Err-clause-replies c = λ answer means.
    rw (refused_so c.args.pool.now c.args.outcome c.in-Err.error c.in_ok-refusal-in-Err.refusal answer c.in-Err.is
    c.in_ok-refusal-in-Err.ensures.refused means) (c.reply_with-in-Err.ensures.replies c.args.pool.now)

pub returns-in-Ok-Watching-clause-replies : goal.returns-in-Ok-Watching-clause-replies
returns-in-Ok-Watching-clause-replies c = λ answer means.
    let answered = of_answer (λ (o : Result Answer CallError). Answers (answer_shown c.args.pool.now) o answer) c.args.outcome
    c.in-Ok-Watching.field-0 (Watching c.in-Ok-Watching.field-0-0 c.in-Ok-Watching.operation) c.in-Ok-Watching.is
    c.in-Ok-Watching.field-0-is means in
    rw answered (c.first_reply.ensures.replies c.args.pool.now)

pub returns-in-Ok-Watching-clause-moves : goal.returns-in-Ok-Watching-clause-moves
returns-in-Ok-Watching-clause-moves c =
    none_moves c.args.pool.now (answer_holders c.args.outcome) (result_holders c.first_reply.result)
    (λ k. to_answer (λ (o : Result Answer CallError). answer_holders o k ≡ 0) c.args.outcome c.in-Ok-Watching.field-0
    (Watching c.in-Ok-Watching.field-0-0 c.in-Ok-Watching.operation) c.in-Ok-Watching.is c.in-Ok-Watching.field-0-is refl)
    c.first_reply.ensures.given
