use Rattle.std.proofs.Common.{◌≡◌, ◌≢◌, ◌∙◌, ap, refl, rules, false, ◌&&◌}
use Rattle.grpc_messages.specs.declared.error.MessagesError.TheVariants.{NoMemory}
use Rattle.conn_core.proofs.Numbers.{false_both}
use Rattle.conn_core.proofs.Takes.{Takes, took_refused, took_open, took_end_by, took_messages, took_events}
use Rattle.conn_core.proofs.call.Call.take.Goals as goal
use Rattle.conn_core.proofs.call.Call.take.Goals.{else-whole-via-then-whole+else-end_stream, else-whole-via-else-whole}

pub returns-in-Err : goal.returns-in-Err
returns-in-Err c =
    let other : c.in-Err.field-0 ≢ NoMemory = search rules in
    let took : Takes c.args.self.now.stream c.args.content.now c.args.end_stream c.args.self.now.messages c.feed.new.self
    c.args.due.now.items c.args.due.now.items =
    took_refused c.args.self.now.stream c.args.content.now c.args.end_stream c.args.self.now.messages c.feed.new.self c.args.due.now.items
    c.in-Err.field-0 other c.in-Err.ensures.refused c.in-Err.ensures.err in
    record { stream = refl; messages = λ t h. (took t h).messages; events = λ t h. (took t h).events }

pub returns-then-end_stream-clause-messages : goal.returns-then-end_stream-clause-messages
returns-then-end_stream-clause-messages c =
    took_messages c.take_end.result c.args.self.now.stream c.args.content.now c.args.end_stream c.args.self.now.messages
    c.take_messages.new.self.messages c.args.due.now.items c.take_end.new.due.items
    (took_end_by c.take_end.result c.args.self.now.stream c.take_messages.new.self.stream c.args.content.now c.args.end_stream
    c.in_ok-whole.whole c.args.self.now.messages c.feed.new.self c.take_messages.new.self.messages c.args.due.now.items
    c.take_messages.new.due.items c.take_end.new.due.items c.if-end_stream.true c.if-whole.true c.take_messages.ensures.stream
    c.in-Ok.ensures.repeated c.in-Ok.ensures.stands c.in_ok-whole.ensures.all c.take_end.ensures)

pub returns-then-end_stream-clause-events : goal.returns-then-end_stream-clause-events
returns-then-end_stream-clause-events c =
    took_events c.take_end.result c.args.self.now.stream c.args.content.now c.args.end_stream c.args.self.now.messages
    c.take_messages.new.self.messages c.args.due.now.items c.take_end.new.due.items
    (took_end_by c.take_end.result c.args.self.now.stream c.take_messages.new.self.stream c.args.content.now c.args.end_stream
    c.in_ok-whole.whole c.args.self.now.messages c.feed.new.self c.take_messages.new.self.messages c.args.due.now.items
    c.take_messages.new.due.items c.take_end.new.due.items c.if-end_stream.true c.if-whole.true c.take_messages.ensures.stream
    c.in-Ok.ensures.repeated c.in-Ok.ensures.stands c.in_ok-whole.ensures.all c.take_end.ensures)

pub returns-clause-messages : goal.returns-clause-messages
returns-clause-messages c =
    let open' : (c.in_ok-whole.whole && c.args.end_stream) ≡ false = elim c.else-whole.branch [
      | else-whole-via-then-whole+else-end_stream w ↦ ap (λ b. c.in_ok-whole.whole && b) w.if-end_stream.false
          ∙ false_both c.in_ok-whole.whole
      | else-whole-via-else-whole w ↦ ap (λ b. b && c.args.end_stream) w.if-whole.false
    ] in
    λ t h. (took_open c.args.self.now.stream c.args.content.now c.args.end_stream c.in_ok-whole.whole c.args.self.now.messages
    c.feed.new.self c.take_messages.new.self.messages c.args.due.now.items c.take_messages.new.due.items c.in-Ok.ensures.repeated
    c.in-Ok.ensures.stands c.in_ok-whole.ensures.all open' t h).messages

pub returns-clause-events : goal.returns-clause-events
returns-clause-events c =
    let open' : (c.in_ok-whole.whole && c.args.end_stream) ≡ false = elim c.else-whole.branch [
      | else-whole-via-then-whole+else-end_stream w ↦ ap (λ b. c.in_ok-whole.whole && b) w.if-end_stream.false
          ∙ false_both c.in_ok-whole.whole
      | else-whole-via-else-whole w ↦ ap (λ b. b && c.args.end_stream) w.if-whole.false
    ] in
    λ t h. (took_open c.args.self.now.stream c.args.content.now c.args.end_stream c.in_ok-whole.whole c.args.self.now.messages
    c.feed.new.self c.take_messages.new.self.messages c.args.due.now.items c.take_messages.new.due.items c.in-Ok.ensures.repeated
    c.in-Ok.ensures.stands c.in_ok-whole.ensures.all open' t h).events
