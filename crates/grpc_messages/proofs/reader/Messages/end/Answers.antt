use Rattle.grpc_messages.proofs.Steps.{end_is, end_is_whole, untaken}
use Rattle.grpc_messages.proofs.reader.Messages.end.Goals as goal

pub returns-clause-answer : goal.returns-clause-answer
returns-clause-answer c = end_is _ c.args.self.now c.finish.result c.finish.ensures.answer

pub returns-clause-whole : goal.returns-clause-whole
returns-clause-whole c = end_is_whole _ c.args.self.now c.finish.result c.finish.ensures.answer

pub returns-clause-untaken : goal.returns-clause-untaken
returns-clause-untaken c = untaken _ c.args.self.now c.finish.result c.finish.ensures.answer
