use Rattle.std.proofs.Common.{refl}
use Rattle.rpc.specs.declared.method.Method.TheVariants.{Write}
use Rattle.instance_core.specs.Shown.{contents_state}
use Rattle.instance_core.specs.Writes.{first_changes, first_outcome}
use Rattle.instance_core.proofs.Writes.{first_replies, first_done}
use Rattle.instance_core.proofs.writing.on_first_part.Goals as goal

pub returns-clause-replies : goal.returns-clause-replies
returns-clause-replies c = λ jobs p.
    let s = contents_state c.args.settings.now c.args.pool.now c.args.contents.now (record { jobs = jobs; calls = c.args.calls.now }) in
    let answer = rw c.deref.ensures at c.write_first-written.ensures.answer in
    rw (first_replies c.args.id Write (first_changes s c.args.message.now) (first_outcome s c.args.message.now))
    (c.settle_first.ensures.replies (first_outcome s c.args.message.now) answer p)

pub returns-clause-changed : goal.returns-clause-changed
returns-clause-changed c = λ jobs.
    let s = contents_state c.args.settings.now c.args.pool.now c.args.contents.now (record { jobs = jobs; calls = c.args.calls.now }) in
    let answer = rw c.deref.ensures at c.write_first-written.ensures.answer in
    let visible = rw c.deref.ensures at c.write_first-written.ensures.visible in
    let uploads = rw c.deref.ensures at c.write_first-written.ensures.uploads in
    let memory = rw c.deref.ensures at c.write_first-written.ensures.memory in
    first_done c.write_first-written.result c.settle_first.result c.args.pool.now c.write_first-written.new.pool c.args.contents.now.view
    c.write_first-written.new.view s c.args.id c.args.message.now
    c.args.contents.now.view.limit c.write_first-written.new.uploads c.settle_first.new.calls c.requires.kept.limit refl visible uploads
    memory c.settle_first.ensures.memory
    (c.settle_first.ensures.changed (first_outcome s c.args.message.now) answer) c.settle_first.ensures.err
