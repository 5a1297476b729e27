use Rattle.grpc_messages.proofs.Steps.{stands_after, given_is_short, less_is_left, all_given, fault_of, fault_kept, kept_is_unfinished, memory_for, repeats}
use Rattle.grpc_messages.proofs.reader.Messages.next.Goals as goal

pub returns-clause-stands : goal.returns-clause-stands
returns-clause-stands c = stands_after _ c.args.self.now c.take.result c.take.new.self c.take.ensures

pub returns-clause-message : goal.returns-clause-message
returns-clause-message c = given_is_short _ c.args.self.now c.take.result c.take.new.self c.take.ensures

pub returns-clause-shorter : goal.returns-clause-shorter
returns-clause-shorter c = less_is_left _ c.args.self.now c.take.result c.take.new.self c.take.ensures

pub returns-clause-none : goal.returns-clause-none
returns-clause-none c = all_given _ c.args.self.now c.take.result c.take.new.self c.take.ensures

pub returns-clause-unfinished : goal.returns-clause-unfinished
returns-clause-unfinished c = kept_is_unfinished _ c.args.self.now c.take.result c.take.new.self c.take.ensures

pub returns-clause-refused : goal.returns-clause-refused
returns-clause-refused c = fault_of _ c.args.self.now c.take.result c.take.new.self c.take.ensures

pub returns-clause-lasts : goal.returns-clause-lasts
returns-clause-lasts c = fault_kept _ c.args.self.now c.take.result c.take.new.self c.take.ensures

pub returns-clause-repeated : goal.returns-clause-repeated
returns-clause-repeated c = repeats _ c.args.self.now c.take.result c.take.new.self c.take.ensures

pub returns-clause-memory : goal.returns-clause-memory
returns-clause-memory c = memory_for _ c.args.self.now c.take.result c.take.new.self c.take.ensures
