use Rattle.std.proofs.Common.{◌∙◌, ap, List, ℕ, ◌++◌, ◌∷◌, []}
use Rattle.std.specs.Prelude.{Option, Result, Ok}
use Rattle.grpc_messages.specs.declared.error.MessagesError.{MessagesError}
use Rattle.conn_core.proofs.Takes.{gave_more_by, gave_all_by, gave_fault_by}
use Rattle.conn_core.proofs.call.Call.take_messages.Goals as goal

abbrev ok_of : Option (List ℕ) → Result (Option (List ℕ)) MessagesError
ok_of o = Ok o

pub messages-preserved : goal.messages-preserved
messages-preserved c = (
  c.messages.invariant.0 ++ c.in-Ok-Some.message ∷ [],
  gave_more_by c.messages.invariant.0 c.args.self.now.stream c.messages.self.stream c.args.self.now.messages c.messages.self.messages
      c.next.new.self c.args.due.now.items c.messages.due.items c.push_back.new.self.items c.in-Ok-Some.message c.next.result
      c.messages.invariant.1 (c.in-Ok-Some.is ∙ ap ok_of c.in-Ok-Some.field-0-is) c.next.ensures.stands
      c.in_ok-push_back-in-Ok-Some.ensures.items,
)

pub returns-in-Ok-None-clause-all : goal.returns-in-Ok-None-clause-all
returns-in-Ok-None-clause-all c =
    gave_all_by c.messages.invariant.0 c.args.self.now.stream c.messages.self.stream c.args.self.now.messages c.messages.self.messages
    c.next.new.self c.args.due.now.items c.messages.due.items c.next.result c.messages.invariant.1
    (c.in-Ok-None.is ∙ ap ok_of c.in-Ok-None.field-0-is) c.next.ensures.stands c.next.ensures.none

pub returns-in-Err-clause-all : goal.returns-in-Err-clause-all
returns-in-Err-clause-all c =
    gave_fault_by c.messages.invariant.0 c.args.self.now.stream c.messages.self.stream c.args.self.now.messages c.messages.self.messages
    c.next.new.self c.args.due.now.items c.messages.due.items c.push_fault.new.due.items c.in-Err.fault c.next.result
    c.messages.invariant.1 c.in-Err.is c.in_ok-push_fault-in-Err.ensures.memory c.next.ensures.refused c.next.ensures.lasts
    c.in_ok-push_fault-in-Err.ensures.events
