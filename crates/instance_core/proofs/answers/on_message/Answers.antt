use Rattle.std.proofs.Common.{◌≡◌, refl, Err}
use Rattle.rpc.specs.declared.refusal.Refusal.TheVariants.{MoreThanOneMessage}
use Rattle.bytestream.specs.Shown.{open_write_shown}
use Rattle.instance_core.specs.Calls.{has, writes, call_at}
use Rattle.instance_core.specs.Answer.{final_answer}
use Rattle.instance_core.specs.Shown.{contents_state}
use Rattle.instance_core.specs.Writes.{next_changes, next_outcome}
use Rattle.instance_core.proofs.Events.{found_short}
use Rattle.instance_core.proofs.Parts.{call_found, calls_made, progress_short}
use Rattle.instance_core.proofs.Writes.{next_replies, next_done}
use Rattle.instance_core.proofs.answers.on_message.Goals as goal

pub write_next-outcome-requires-clause-named : goal.write_next-outcome-requires-clause-named
write_next-outcome-requires-clause-named c =
    let write = open_write_shown c.in-Writes.write in
    let come : writes write ≡ c.in-Some.call.now.progress = rw c.in-Writes.is at c.progress.ensures in
    progress_short c.in-Some.call.now (writes write) (call_at c.args.id c.args.calls.now) c.in-Some.ensures.found come
    (found_short c.args.id c.args.calls.now c.in-Some.ensures.calls.messages)

pub returns-in-Has-clause-changed : goal.returns-in-Has-clause-changed
returns-in-Has-clause-changed c = λ jobs.
    let s = contents_state c.args.settings.now c.args.pool.now c.args.contents.now (record { jobs = jobs; calls = c.args.calls.now }) in
    let come : has c.in-Has.field-0.items ≡ c.in-Some.call.now.progress = rw c.in-Has.is at c.progress.ensures in
    let there = call_found c.in-Some.call.now c.in-Some.call.now.method (has c.in-Has.field-0.items)
    (call_at c.args.id c.args.calls.now) c.in-Some.ensures.found refl come in
    let all = rw c.count_message-in-Has.ensures.same at c.finish.ensures.changed in
    let same = rw c.count_message-in-Has.ensures.same at c.finish.ensures.err in
    rw (← there) (calls_made c.finish.result (final_answer c.args.id (Err MoreThanOneMessage)).changes s c.finish.new.calls all same)

pub returns-in-Writes-clause-replies : goal.returns-in-Writes-clause-replies
returns-in-Writes-clause-replies c = λ jobs p.
    let s = contents_state c.args.settings.now c.args.pool.now c.args.contents.now (record { jobs = jobs; calls = c.args.calls.now }) in
    let write = open_write_shown c.in-Writes.write in
    let come : writes write ≡ c.in-Some.call.now.progress = rw c.in-Writes.is at c.progress.ensures in
    let there = call_found c.in-Some.call.now c.in-Some.call.now.method (writes write)
    (call_at c.args.id c.args.calls.now) c.in-Some.ensures.found refl come in
    let message = c.deref-in-Writes.result.now in
    rw (← there, ← c.deref-in-Writes.ensures.value, next_replies c.args.id (next_changes s write message) (next_outcome s write message))
    (c.settle_next.ensures.replies (next_outcome s write message) c.write_next-outcome.ensures.answer p)

pub returns-in-Writes-clause-changed : goal.returns-in-Writes-clause-changed
returns-in-Writes-clause-changed c = λ jobs.
    let s = contents_state c.args.settings.now c.args.pool.now c.args.contents.now (record { jobs = jobs; calls = c.args.calls.now }) in
    let write = open_write_shown c.in-Writes.write in
    let come : writes write ≡ c.in-Some.call.now.progress = rw c.in-Writes.is at c.progress.ensures in
    let there = call_found c.in-Some.call.now c.in-Some.call.now.method (writes write)
    (call_at c.args.id c.args.calls.now) c.in-Some.ensures.found refl come in
    let message = c.deref-in-Writes.result.now in
    let changed = rw c.count_message-in-Writes.ensures.same at
    (c.settle_next.ensures.changed (next_outcome s write message) c.write_next-outcome.ensures.answer) in
    let same = rw c.count_message-in-Writes.ensures.same at c.settle_next.ensures.err in
    rw (← there, ← c.deref-in-Writes.ensures.value)
    (next_done c.write_next-outcome.result c.settle_next.result c.args.pool.now c.write_next-outcome.new.pool c.args.contents.now.view
    c.write_next-outcome.new.view s c.args.id write message
    c.args.contents.now.view.limit c.write_next-outcome.new.uploads c.settle_next.new.calls c.requires.kept.limit refl
    c.write_next-outcome.ensures.visible c.write_next-outcome.ensures.uploads c.write_next-outcome.ensures.memory
    c.settle_next.ensures.memory changed same)
