use Rattle.std.proofs.Common.{ap, sym, subst, ◌∙◌, ◌≡◌, ◌<◌, ◌≤◌, ◌++◌, arith, length, take, List}
use Rattle.std.specs.Prelude.{Some, None, false}
use Rattle.http2_streams.specs.Credit.{window_left}
use Rattle.http2_frames.specs.declared.frame.Frame.TheVariants.{Data}
use Rattle.http2_frames.specs.Writing.{text_of}
use Rattle.grpc_sending.specs.declared.queue.StoredQueue.{StoredQueue}
use Rattle.grpc_sending.specs.declared.turn.Due.TheVariants.{Opens, Gives}
use Rattle.grpc_sending.specs.StoredSending.{StoredSending, QueuesEndWithin, sending_in, stored_on}
use Rattle.grpc_sending.specs.SendingSteps.{front_bytes, next_due}
use Rattle.grpc_sending.proofs.Stored.{fit_removed, fit_taken}
use Rattle.grpc_sending.proofs.Dues.{given, puts_given, rests_undue, opens_lives, HasOpened, opens_block, opens_last}
use Rattle.grpc_sending.proofs.Keeping.{keeps_by}
use Rattle.grpc_sending.proofs.Nothing.{none_by, none_removed, none_taken}
use Rattle.grpc_sending.proofs.Done.{done_by, turn_done, leaves_more, keeps_removed, keeps_taken, keeps_more}
use Rattle.grpc_sending.proofs.Endings.{last_ends, opens_ends, given_ends}
use Rattle.grpc_sending.proofs.sender.Sender.put_next.Goals as goal

pub on_headers_put-requires : goal.on_headers_put-requires
on_headers_put-requires g c =
    let fit : QueuesEndWithin (g.P.Parts.text_of c.args.parts.now) c.self.inside.backlog.queues =
    subst (λ (x : StoredSending). QueuesEndWithin (g.P.Parts.text_of c.args.parts.now) x.queues) (sym c.self.view_is) c.requires.fit in
    let turn : next_due c.self.inside.backlog.queues (window_left c.args.streams.now.connection_window) c.args.streams.now.live
    ≡ Some (Opens c.in-Some-Opens.stream c.in-Some-Opens.block c.in-Some-Opens.ended_by_client) =
    sym (c.next_due.ensures.first ∙ ap (λ (qs : List StoredQueue). next_due qs
    (window_left c.args.streams.now.connection_window) c.args.streams.now.live) c.queues.ensures.list) ∙ c.in-Some-Opens.is
    ∙ ap Some c.in-Some-Opens.field-0-is in
    opens_lives (g.P.Parts.text_of c.args.parts.now) c.self.inside.backlog.queues
    (window_left c.args.streams.now.connection_window) c.args.streams.now.live c.in-Some-Opens.stream c.in-Some-Opens.block
    c.in-Some-Opens.ended_by_client fit turn

pub overflow_cast-count : goal.overflow_cast-count
overflow_cast-count g c =
    let fit : QueuesEndWithin (g.P.Parts.text_of c.args.parts.now) c.self.inside.backlog.queues =
    subst (λ (x : StoredSending). QueuesEndWithin (g.P.Parts.text_of c.args.parts.now) x.queues) (sym c.self.view_is) c.requires.fit in
    let turn : next_due c.self.inside.backlog.queues (window_left c.args.streams.now.connection_window) c.args.streams.now.live
    ≡ Some (Gives c.in-Some-Gives.stream c.in-Some-Gives.count) =
    sym (c.next_due.ensures.first ∙ ap (λ (qs : List StoredQueue). next_due qs
    (window_left c.args.streams.now.connection_window) c.args.streams.now.live) c.queues.ensures.list) ∙ c.in-Some-Gives.is
    ∙ ap Some c.in-Some-Gives.field-0-is in
    omega (
      arith,
      (given (g.P.Parts.text_of c.args.parts.now) c.self.inside.backlog.queues
          (window_left c.args.streams.now.connection_window) c.args.streams.now.live c.in-Some-Gives.stream c.in-Some-Gives.count fit
          turn).short,
    )

pub put_content-requires-clause-some : goal.put_content-requires-clause-some
put_content-requires-clause-some g c =
    let fit : QueuesEndWithin (g.P.Parts.text_of c.args.parts.now) c.self.inside.backlog.queues =
    subst (λ (x : StoredSending). QueuesEndWithin (g.P.Parts.text_of c.args.parts.now) x.queues) (sym c.self.view_is) c.requires.fit in
    let turn : next_due c.self.inside.backlog.queues (window_left c.args.streams.now.connection_window) c.args.streams.now.live
    ≡ Some (Gives c.in-Some-Gives.stream c.in-Some-Gives.count) =
    sym (c.next_due.ensures.first ∙ ap (λ (qs : List StoredQueue). next_due qs
    (window_left c.args.streams.now.connection_window) c.args.streams.now.live) c.queues.ensures.list) ∙ c.in-Some-Gives.is
    ∙ ap Some c.in-Some-Gives.field-0-is in
    (given (g.P.Parts.text_of c.args.parts.now) c.self.inside.backlog.queues
    (window_left c.args.streams.now.connection_window) c.args.streams.now.live c.in-Some-Gives.stream c.in-Some-Gives.count fit
    turn).some

pub put_content-requires-clause-short : goal.put_content-requires-clause-short
put_content-requires-clause-short g c =
    let fit : QueuesEndWithin (g.P.Parts.text_of c.args.parts.now) c.self.inside.backlog.queues =
    subst (λ (x : StoredSending). QueuesEndWithin (g.P.Parts.text_of c.args.parts.now) x.queues) (sym c.self.view_is) c.requires.fit in
    let turn : next_due c.self.inside.backlog.queues (window_left c.args.streams.now.connection_window) c.args.streams.now.live
    ≡ Some (Gives c.in-Some-Gives.stream c.in-Some-Gives.count) =
    sym (c.next_due.ensures.first ∙ ap (λ (qs : List StoredQueue). next_due qs
    (window_left c.args.streams.now.connection_window) c.args.streams.now.live) c.queues.ensures.list) ∙ c.in-Some-Gives.is
    ∙ ap Some c.in-Some-Gives.field-0-is in
    (given (g.P.Parts.text_of c.args.parts.now) c.self.inside.backlog.queues
    (window_left c.args.streams.now.connection_window) c.args.streams.now.live c.in-Some-Gives.stream c.in-Some-Gives.count fit
    turn).short

pub put_content-requires-clause-room : goal.put_content-requires-clause-room
put_content-requires-clause-room g c =
    let fit : QueuesEndWithin (g.P.Parts.text_of c.args.parts.now) c.self.inside.backlog.queues =
    subst (λ (x : StoredSending). QueuesEndWithin (g.P.Parts.text_of c.args.parts.now) x.queues) (sym c.self.view_is) c.requires.fit in
    let turn : next_due c.self.inside.backlog.queues (window_left c.args.streams.now.connection_window) c.args.streams.now.live
    ≡ Some (Gives c.in-Some-Gives.stream c.in-Some-Gives.count) =
    sym (c.next_due.ensures.first ∙ ap (λ (qs : List StoredQueue). next_due qs
    (window_left c.args.streams.now.connection_window) c.args.streams.now.live) c.queues.ensures.list) ∙ c.in-Some-Gives.is
    ∙ ap Some c.in-Some-Gives.field-0-is in
    let room : length c.self.inside.buffer < 65536 = omega (arith, c.if-len-ge-PUMP_LIMIT.false, c.len.ensures) in
    omega (
      arith,
      (given (g.P.Parts.text_of c.args.parts.now) c.self.inside.backlog.queues
          (window_left c.args.streams.now.connection_window) c.args.streams.now.live c.in-Some-Gives.stream c.in-Some-Gives.count fit
          turn).short,
      room,
    )

pub put_content-requires-clause-there : goal.put_content-requires-clause-there
put_content-requires-clause-there g c =
    let fit : QueuesEndWithin (g.P.Parts.text_of c.args.parts.now) c.self.inside.backlog.queues =
    subst (λ (x : StoredSending). QueuesEndWithin (g.P.Parts.text_of c.args.parts.now) x.queues) (sym c.self.view_is) c.requires.fit in
    let turn : next_due c.self.inside.backlog.queues (window_left c.args.streams.now.connection_window) c.args.streams.now.live
    ≡ Some (Gives c.in-Some-Gives.stream c.in-Some-Gives.count) =
    sym (c.next_due.ensures.first ∙ ap (λ (qs : List StoredQueue). next_due qs
    (window_left c.args.streams.now.connection_window) c.args.streams.now.live) c.queues.ensures.list) ∙ c.in-Some-Gives.is
    ∙ ap Some c.in-Some-Gives.field-0-is in
    subst (λ (qs : List StoredQueue). c.in-Some-Gives.count ≤ length
    (front_bytes (g.P.Parts.text_of c.args.parts.now) (stored_on c.in-Some-Gives.stream qs))) (sym c.queues-in-Some-Gives.ensures.list)
    (given (g.P.Parts.text_of c.args.parts.now) c.self.inside.backlog.queues
    (window_left c.args.streams.now.connection_window) c.args.streams.now.live c.in-Some-Gives.stream c.in-Some-Gives.count fit
    turn).there

pub returns-in-None-clause-rests : goal.returns-in-None-clause-rests
returns-in-None-clause-rests g c =
    let turn : next_due c.self.inside.backlog.queues (window_left c.args.streams.now.connection_window) c.args.streams.now.live ≡ None =
    sym (c.next_due.ensures.first ∙ ap (λ (qs : List StoredQueue). next_due qs
    (window_left c.args.streams.now.connection_window) c.args.streams.now.live) c.queues.ensures.list) ∙ c.in-None.is in
    let alive : c.args.streams.now.failed ≡ false = sym c.has_failed.ensures ∙ c.if-has_failed.false in
    let room : length c.self.inside.buffer < 65536 = omega (arith, c.if-len-ge-PUMP_LIMIT.false, c.len.ensures) in
    λ no' texts fit. rests_undue texts c.args.streams.now
    (record {
      pending = c.self.inside.buffer;
      position = c.self.inside.position;
      queues = c.self.inside.backlog.queues;
      spent =
          c.self.inside.backlog.spent;
    }) c.args.self.now c.self.view_is alive room
    (subst (λ (x : StoredSending). QueuesEndWithin texts x.queues) (sym c.self.view_is) fit) turn

pub returns-then-is_last-clause-puts : goal.returns-then-is_last-clause-puts
returns-then-is_last-clause-puts g c =
    let fit : QueuesEndWithin (g.P.Parts.text_of c.args.parts.now) c.self.inside.backlog.queues =
    subst (λ (x : StoredSending). QueuesEndWithin (g.P.Parts.text_of c.args.parts.now) x.queues) (sym c.self.view_is) c.requires.fit in
    let turn : next_due c.self.inside.backlog.queues (window_left c.args.streams.now.connection_window) c.args.streams.now.live
    ≡ Some (Opens c.in-Some-Opens.stream c.in-Some-Opens.block c.in-Some-Opens.ended_by_client) =
    sym (c.next_due.ensures.first ∙ ap (λ (qs : List StoredQueue). next_due qs
    (window_left c.args.streams.now.connection_window) c.args.streams.now.live) c.queues.ensures.list) ∙ c.in-Some-Opens.is
    ∙ ap Some c.in-Some-Opens.field-0-is in
    let alive : c.args.streams.now.failed ≡ false = sym c.has_failed.ensures ∙ c.if-has_failed.false in
    let room : length c.self.inside.buffer < 65536 = omega (arith, c.if-len-ge-PUMP_LIMIT.false, c.len.ensures) in
    let h : HasOpened (record {
      pending = c.self.inside.buffer;
      position = c.self.inside.position;
      queues = c.self.inside.backlog.queues;
      spent = c.self.inside.backlog.spent;
    }) c.in-Some-Opens.stream c.in-Some-Opens.block c.is_last-is_last.result c.as_slice.result.now
    c.put_block.new.self c.remove_first.new.self.queues =
    record {
      ends = c.is_last-is_last.ensures;
      encoded = c.as_slice.ensures.text;
      put = c.put_block.ensures.bytes;
      queues =
          c.remove_first.ensures.queues;
    } in
    λ yes'. opens_last (g.P.Parts.text_of c.args.parts.now) c.args.streams.now c.on_headers_put.new.self c.finish.new.streams
    (record {
      pending = c.self.inside.buffer;
      position = c.self.inside.position;
      queues = c.self.inside.backlog.queues;
      spent =
          c.self.inside.backlog.spent;
    }) c.args.self.now
    (sending_in (g.P.Parts.text_of c.args.parts.now) c.finish.new.self) c.in-Some-Opens.stream c.in-Some-Opens.block
    c.in-Some-Opens.ended_by_client c.is_last-is_last.result c.as_slice.result.now c.put_block.new.self c.remove_first.new.self.queues
    c.self.view_is alive room fit turn c.if-is_last.true c.on_headers_put.ensures.stands c.on_headers_put.ensures.highest h
    (c.finish.ensures.finishes (g.P.Parts.text_of c.args.parts.now))

pub returns-else-is_last-clause-puts : goal.returns-else-is_last-clause-puts
returns-else-is_last-clause-puts g c =
    let fit : QueuesEndWithin (g.P.Parts.text_of c.args.parts.now) c.self.inside.backlog.queues =
    subst (λ (x : StoredSending). QueuesEndWithin (g.P.Parts.text_of c.args.parts.now) x.queues) (sym c.self.view_is) c.requires.fit in
    let turn : next_due c.self.inside.backlog.queues (window_left c.args.streams.now.connection_window) c.args.streams.now.live
    ≡ Some (Opens c.in-Some-Opens.stream c.in-Some-Opens.block c.in-Some-Opens.ended_by_client) =
    sym (c.next_due.ensures.first ∙ ap (λ (qs : List StoredQueue). next_due qs
    (window_left c.args.streams.now.connection_window) c.args.streams.now.live) c.queues.ensures.list) ∙ c.in-Some-Opens.is
    ∙ ap Some c.in-Some-Opens.field-0-is in
    let alive : c.args.streams.now.failed ≡ false = sym c.has_failed.ensures ∙ c.if-has_failed.false in
    let room : length c.self.inside.buffer < 65536 = omega (arith, c.if-len-ge-PUMP_LIMIT.false, c.len.ensures) in
    let h : HasOpened (record {
      pending = c.self.inside.buffer;
      position = c.self.inside.position;
      queues = c.self.inside.backlog.queues;
      spent = c.self.inside.backlog.spent;
    }) c.in-Some-Opens.stream c.in-Some-Opens.block c.is_last-is_last.result c.as_slice.result.now
    c.put_block.new.self c.remove_first.new.self.queues =
    record {
      ends = c.is_last-is_last.ensures;
      encoded = c.as_slice.ensures.text;
      put = c.put_block.ensures.bytes;
      queues =
          c.remove_first.ensures.queues;
    } in
    λ yes'. opens_block (g.P.Parts.text_of c.args.parts.now) c.args.streams.now c.on_headers_put.new.self
    (record {
      pending = c.self.inside.buffer;
      position = c.self.inside.position;
      queues = c.self.inside.backlog.queues;
      spent =
          c.self.inside.backlog.spent;
    }) c.args.self.now c.in-Some-Opens.stream c.in-Some-Opens.block c.in-Some-Opens.ended_by_client
    c.is_last-is_last.result c.as_slice.result.now c.put_block.new.self c.remove_first.new.self.queues c.self.view_is alive room fit
    turn c.if-is_last.false c.on_headers_put.ensures.stands h

pub returns-in-Some-Gives-clause-puts : goal.returns-in-Some-Gives-clause-puts
returns-in-Some-Gives-clause-puts g c =
    let fit : QueuesEndWithin (g.P.Parts.text_of c.args.parts.now) c.self.inside.backlog.queues =
    subst (λ (x : StoredSending). QueuesEndWithin (g.P.Parts.text_of c.args.parts.now) x.queues) (sym c.self.view_is) c.requires.fit in
    let turn : next_due c.self.inside.backlog.queues (window_left c.args.streams.now.connection_window) c.args.streams.now.live
    ≡ Some (Gives c.in-Some-Gives.stream c.in-Some-Gives.count) =
    sym (c.next_due.ensures.first ∙ ap (λ (qs : List StoredQueue). next_due qs
    (window_left c.args.streams.now.connection_window) c.args.streams.now.live) c.queues.ensures.list) ∙ c.in-Some-Gives.is
    ∙ ap Some c.in-Some-Gives.field-0-is in
    let alive : c.args.streams.now.failed ≡ false = sym c.has_failed.ensures ∙ c.if-has_failed.false in
    let room : length c.self.inside.buffer < 65536 = omega (arith, c.if-len-ge-PUMP_LIMIT.false, c.len.ensures) in
    λ yes'.
    let bytes = c.put_content.ensures.bytes ∙ ap (λ (qs : List StoredQueue). c.self.inside.buffer
    ++ text_of (Data c.in-Some-Gives.stream false
    (take c.in-Some-Gives.count (front_bytes (g.P.Parts.text_of c.args.parts.now) (stored_on c.in-Some-Gives.stream qs)))))
    c.queues-in-Some-Gives.ensures.list in
    puts_given (g.P.Parts.text_of c.args.parts.now) c.args.streams.now c.on_data_put.new.self
    (record {
      pending = c.self.inside.buffer;
      position = c.self.inside.position;
      queues = c.self.inside.backlog.queues;
      spent =
          c.self.inside.backlog.spent;
    }) c.args.self.now c.in-Some-Gives.stream c.in-Some-Gives.count c.put_content.new.buffer
    c.take_off.new.self.queues c.self.view_is alive room fit turn c.on_data_put.ensures.stands bytes c.take_off.ensures.queues

pub returns-in-Some-Gives-clause-room : goal.returns-in-Some-Gives-clause-room
returns-in-Some-Gives-clause-room g c =
    let fit : QueuesEndWithin (g.P.Parts.text_of c.args.parts.now) c.self.inside.backlog.queues =
    subst (λ (x : StoredSending). QueuesEndWithin (g.P.Parts.text_of c.args.parts.now) x.queues) (sym c.self.view_is) c.requires.fit in
    let turn : next_due c.self.inside.backlog.queues (window_left c.args.streams.now.connection_window) c.args.streams.now.live
    ≡ Some (Gives c.in-Some-Gives.stream c.in-Some-Gives.count) =
    sym (c.next_due.ensures.first ∙ ap (λ (qs : List StoredQueue). next_due qs
    (window_left c.args.streams.now.connection_window) c.args.streams.now.live) c.queues.ensures.list) ∙ c.in-Some-Gives.is
    ∙ ap Some c.in-Some-Gives.field-0-is in
    λ yes'. omega (
      arith,
      c.put_content.ensures.size,
      (given (g.P.Parts.text_of c.args.parts.now) c.self.inside.backlog.queues
          (window_left c.args.streams.now.connection_window) c.args.streams.now.live c.in-Some-Gives.stream c.in-Some-Gives.count fit
          turn).short,
      c.if-len-ge-PUMP_LIMIT.false,
      c.len.ensures,
    )

pub returns-then-is_last-clause-fit : goal.returns-then-is_last-clause-fit
returns-then-is_last-clause-fit g c = λ texts h. c.finish.ensures.fit texts
    (fit_removed texts c.in-Some-Opens.stream c.self.inside.backlog.queues c.remove_first.new.self.queues c.remove_first.ensures.queues
    (subst (λ (x : StoredSending). QueuesEndWithin texts x.queues) (sym c.self.view_is) h))

pub returns-else-is_last-clause-fit : goal.returns-else-is_last-clause-fit
returns-else-is_last-clause-fit g c = λ texts h. fit_removed texts c.in-Some-Opens.stream c.self.inside.backlog.queues
    c.remove_first.new.self.queues c.remove_first.ensures.queues
    (subst (λ (x : StoredSending). QueuesEndWithin texts x.queues) (sym c.self.view_is) h)

pub returns-in-Some-Gives-clause-fit : goal.returns-in-Some-Gives-clause-fit
returns-in-Some-Gives-clause-fit g c = λ texts h. fit_taken texts c.in-Some-Gives.stream c.in-Some-Gives.count c.self.inside.backlog.queues
    c.take_off.new.self.queues c.take_off.ensures.queues
    (subst (λ (x : StoredSending). QueuesEndWithin texts x.queues) (sym c.self.view_is) h)

pub returns-then-is_last-clause-sources : goal.returns-then-is_last-clause-sources
returns-then-is_last-clause-sources g c = λ k. c.finish.ensures.sources k
    ∙ keeps_by (record {
      pending = c.self.inside.buffer;
      position = c.self.inside.position;
      queues = c.self.inside.backlog.queues;
      spent =
          c.self.inside.backlog.spent;
    }) c.args.self.now c.remove_first.new.self c.self.view_is c.remove_first.ensures.sources k

pub returns-else-is_last-clause-sources : goal.returns-else-is_last-clause-sources
returns-else-is_last-clause-sources g c = keeps_by
    (record {
      pending = c.self.inside.buffer;
      position = c.self.inside.position;
      queues = c.self.inside.backlog.queues;
      spent =
          c.self.inside.backlog.spent;
    }) c.args.self.now c.remove_first.new.self c.self.view_is c.remove_first.ensures.sources

pub returns-in-Some-Gives-clause-sources : goal.returns-in-Some-Gives-clause-sources
returns-in-Some-Gives-clause-sources g c = keeps_by
    (record {
      pending = c.self.inside.buffer;
      position = c.self.inside.position;
      queues = c.self.inside.backlog.queues;
      spent =
          c.self.inside.backlog.spent;
    }) c.args.self.now c.take_off.new.self c.self.view_is c.take_off.ensures.sources

pub put_content-requires-clause-fit : goal.put_content-requires-clause-fit
put_content-requires-clause-fit g c =
    let fit : QueuesEndWithin (g.P.Parts.text_of c.args.parts.now) c.self.inside.backlog.queues =
    subst (λ (x : StoredSending). QueuesEndWithin (g.P.Parts.text_of c.args.parts.now) x.queues) (sym c.self.view_is) c.requires.fit in
    subst (λ (qs : List StoredQueue). QueuesEndWithin (g.P.Parts.text_of c.args.parts.now) qs) (sym c.queues-in-Some-Gives.ensures.list) fit

pub returns-then-is_last-clause-none : goal.returns-then-is_last-clause-none
returns-then-is_last-clause-none g c = λ t h. c.finish.ensures.none t
    (none_by (record {
      pending = c.self.inside.buffer;
      position = c.self.inside.position;
      queues = c.self.inside.backlog.queues;
      spent =
          c.self.inside.backlog.spent;
    }) c.args.self.now c.remove_first.new.self.queues c.self.view_is
    (none_removed c.in-Some-Opens.stream c.self.inside.backlog.queues c.remove_first.new.self.queues c.remove_first.ensures.queues) t h)

pub returns-else-is_last-clause-none : goal.returns-else-is_last-clause-none
returns-else-is_last-clause-none g c = none_by
    (record {
      pending = c.self.inside.buffer;
      position = c.self.inside.position;
      queues = c.self.inside.backlog.queues;
      spent =
          c.self.inside.backlog.spent;
    }) c.args.self.now c.remove_first.new.self.queues c.self.view_is
    (none_removed c.in-Some-Opens.stream c.self.inside.backlog.queues c.remove_first.new.self.queues c.remove_first.ensures.queues)

pub returns-in-Some-Gives-clause-none : goal.returns-in-Some-Gives-clause-none
returns-in-Some-Gives-clause-none g c = none_by
    (record {
      pending = c.self.inside.buffer;
      position = c.self.inside.position;
      queues = c.self.inside.backlog.queues;
      spent =
          c.self.inside.backlog.spent;
    }) c.args.self.now c.take_off.new.self.queues c.self.view_is
    (none_taken c.in-Some-Gives.stream c.in-Some-Gives.count c.self.inside.backlog.queues c.take_off.new.self.queues
    c.take_off.ensures.queues)

pub returns-then-is_last-clause-ended : goal.returns-then-is_last-clause-ended
returns-then-is_last-clause-ended g c =
    let fit : QueuesEndWithin (g.P.Parts.text_of c.args.parts.now) c.self.inside.backlog.queues =
    subst (λ (x : StoredSending). QueuesEndWithin (g.P.Parts.text_of c.args.parts.now) x.queues) (sym c.self.view_is) c.requires.fit in
    let turn : next_due c.self.inside.backlog.queues (window_left c.args.streams.now.connection_window) c.args.streams.now.live
    ≡ Some (Opens c.in-Some-Opens.stream c.in-Some-Opens.block c.in-Some-Opens.ended_by_client) =
    sym (c.next_due.ensures.first ∙ ap (λ (qs : List StoredQueue). next_due qs
    (window_left c.args.streams.now.connection_window) c.args.streams.now.live) c.queues.ensures.list) ∙ c.in-Some-Opens.is
    ∙ ap Some c.in-Some-Opens.field-0-is in
    let alive : c.args.streams.now.failed ≡ false = sym c.has_failed.ensures ∙ c.if-has_failed.false in
    let room : length c.self.inside.buffer < 65536 = omega (arith, c.if-len-ge-PUMP_LIMIT.false, c.len.ensures) in
    λ yes'. last_ends (g.P.Parts.text_of c.args.parts.now) c.args.streams.now
    (record {
      pending = c.self.inside.buffer;
      position = c.self.inside.position;
      queues = c.self.inside.backlog.queues;
      spent =
          c.self.inside.backlog.spent;
    }) c.args.self.now c.in-Some-Opens.stream c.in-Some-Opens.block c.in-Some-Opens.ended_by_client
    c.is_last-is_last.result c.finish.new.self.queues c.self.view_is alive room fit turn c.is_last-is_last.ensures c.if-is_last.true
    c.finish.ensures.dropped (returns-then-is_last-clause-none g c)

pub returns-else-is_last-clause-ended : goal.returns-else-is_last-clause-ended
returns-else-is_last-clause-ended g c =
    let fit : QueuesEndWithin (g.P.Parts.text_of c.args.parts.now) c.self.inside.backlog.queues =
    subst (λ (x : StoredSending). QueuesEndWithin (g.P.Parts.text_of c.args.parts.now) x.queues) (sym c.self.view_is) c.requires.fit in
    let turn : next_due c.self.inside.backlog.queues (window_left c.args.streams.now.connection_window) c.args.streams.now.live
    ≡ Some (Opens c.in-Some-Opens.stream c.in-Some-Opens.block c.in-Some-Opens.ended_by_client) =
    sym (c.next_due.ensures.first ∙ ap (λ (qs : List StoredQueue). next_due qs
    (window_left c.args.streams.now.connection_window) c.args.streams.now.live) c.queues.ensures.list) ∙ c.in-Some-Opens.is
    ∙ ap Some c.in-Some-Opens.field-0-is in
    let alive : c.args.streams.now.failed ≡ false = sym c.has_failed.ensures ∙ c.if-has_failed.false in
    let room : length c.self.inside.buffer < 65536 = omega (arith, c.if-len-ge-PUMP_LIMIT.false, c.len.ensures) in
    λ yes'. opens_ends (g.P.Parts.text_of c.args.parts.now) c.args.streams.now
    (record {
      pending = c.self.inside.buffer;
      position = c.self.inside.position;
      queues = c.self.inside.backlog.queues;
      spent =
          c.self.inside.backlog.spent;
    }) c.args.self.now c.in-Some-Opens.stream c.in-Some-Opens.block c.in-Some-Opens.ended_by_client
    c.is_last-is_last.result c.remove_first.new.self.queues c.self.view_is alive room fit turn c.is_last-is_last.ensures
    c.if-is_last.false (returns-else-is_last-clause-none g c)

pub returns-in-Some-Gives-clause-ended : goal.returns-in-Some-Gives-clause-ended
returns-in-Some-Gives-clause-ended g c =
    let fit : QueuesEndWithin (g.P.Parts.text_of c.args.parts.now) c.self.inside.backlog.queues =
    subst (λ (x : StoredSending). QueuesEndWithin (g.P.Parts.text_of c.args.parts.now) x.queues) (sym c.self.view_is) c.requires.fit in
    let turn : next_due c.self.inside.backlog.queues (window_left c.args.streams.now.connection_window) c.args.streams.now.live
    ≡ Some (Gives c.in-Some-Gives.stream c.in-Some-Gives.count) =
    sym (c.next_due.ensures.first ∙ ap (λ (qs : List StoredQueue). next_due qs
    (window_left c.args.streams.now.connection_window) c.args.streams.now.live) c.queues.ensures.list) ∙ c.in-Some-Gives.is
    ∙ ap Some c.in-Some-Gives.field-0-is in
    let alive : c.args.streams.now.failed ≡ false = sym c.has_failed.ensures ∙ c.if-has_failed.false in
    let room : length c.self.inside.buffer < 65536 = omega (arith, c.if-len-ge-PUMP_LIMIT.false, c.len.ensures) in
    λ yes'. given_ends (g.P.Parts.text_of c.args.parts.now) c.args.streams.now
    (record {
      pending = c.self.inside.buffer;
      position = c.self.inside.position;
      queues = c.self.inside.backlog.queues;
      spent =
          c.self.inside.backlog.spent;
    }) c.args.self.now c.in-Some-Gives.stream c.in-Some-Gives.count c.take_off.new.self.queues
    c.self.view_is alive room fit turn (returns-in-Some-Gives-clause-none g c)

pub next_due-requires-clause-skipped : goal.next_due-requires-clause-skipped
next_due-requires-clause-skipped g c = done_by c.args.from.now c.args.streams.now
    (record {
      pending = c.self.inside.buffer;
      position = c.self.inside.position;
      queues = c.self.inside.backlog.queues;
      spent =
          c.self.inside.backlog.spent;
    })
    c.args.self.now c.queues.result.now c.self.view_is c.queues.ensures.list c.requires.done

pub returns-then-is_last-clause-done : goal.returns-then-is_last-clause-done
returns-then-is_last-clause-done g c =
    let keeps = keeps_more c.in-Some-Opens.stream c.self.inside.backlog.queues c.remove_first.new.self.queues c.finish.new.self.queues
    (keeps_removed c.in-Some-Opens.stream c.self.inside.backlog.queues c.remove_first.new.self.queues c.remove_first.ensures.queues)
    c.finish.ensures.queues
    in
    let leaves = leaves_more c.in-Some-Opens.stream c.args.streams.now c.on_headers_put.new.self c.finish.new.streams
    c.on_headers_put.ensures.others
    c.finish.ensures.streams in
    λ yes'. turn_done c.next_due.result (Opens c.in-Some-Opens.stream c.in-Some-Opens.block c.in-Some-Opens.ended_by_client)
    c.args.streams.now
    c.finish.new.streams c.queues.result.now c.self.inside.backlog.queues c.finish.new.self.queues c.next_due.ensures.below
    (c.in-Some-Opens.is
    ∙ ap Some c.in-Some-Opens.field-0-is) c.queues.ensures.list keeps leaves

pub returns-else-is_last-clause-done : goal.returns-else-is_last-clause-done
returns-else-is_last-clause-done g c =
    let keeps = keeps_removed c.in-Some-Opens.stream c.self.inside.backlog.queues c.remove_first.new.self.queues
    c.remove_first.ensures.queues in
    λ yes'. turn_done c.next_due.result (Opens c.in-Some-Opens.stream c.in-Some-Opens.block c.in-Some-Opens.ended_by_client)
    c.args.streams.now
    c.on_headers_put.new.self c.queues.result.now c.self.inside.backlog.queues c.remove_first.new.self.queues c.next_due.ensures.below
    (c.in-Some-Opens.is
    ∙ ap Some c.in-Some-Opens.field-0-is) c.queues.ensures.list keeps c.on_headers_put.ensures.others

pub returns-in-Some-Gives-clause-done : goal.returns-in-Some-Gives-clause-done
returns-in-Some-Gives-clause-done g c =
    let keeps = keeps_taken c.in-Some-Gives.stream c.in-Some-Gives.count c.self.inside.backlog.queues c.take_off.new.self.queues
    c.take_off.ensures.queues in
    λ yes'. turn_done c.next_due.result (Gives c.in-Some-Gives.stream c.in-Some-Gives.count) c.args.streams.now c.on_data_put.new.self
    c.queues.result.now
    c.self.inside.backlog.queues c.take_off.new.self.queues c.next_due.ensures.below
    (c.in-Some-Gives.is ∙ ap Some c.in-Some-Gives.field-0-is)
    c.queues.ensures.list keeps c.on_data_put.ensures.others
