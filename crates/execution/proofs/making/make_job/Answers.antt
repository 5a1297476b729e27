use Rattle.std.proofs.Common.{◌≡◌, List, sym, ap, ◌∙◌}
use Rattle.blob_pool.specs.Slots.{Slots}
use Rattle.instance_view.specs.Visible.{Blob}
use Rattle.instance_view.specs.Shown.{ViewEntry, blobs_in, entry_holders}
use Rattle.instance_view.specs.Sight.{SightValue, seen_in}
use Rattle.input_tree.specs.Texts.{texts_of}
use Rattle.execution_messages.specs.Statuses.{distinct}
use Rattle.execution.specs.Job.{JobValue, TaskValue, kept_along}
use Rattle.execution.specs.Keeping.{kept_entries}
use Rattle.execution.specs.Preparing.{PreparedValue, met, task_read}
use Rattle.execution.specs.Shown.{prepared_shown}
use Rattle.execution.proofs.Calling.{kept_same}
use Rattle.execution.proofs.KeptTasks.{task_again}
use Rattle.execution.proofs.making.make_job.Goals as goal

pub returns-clause-job : goal.returns-clause-job
returns-clause-job c =
    let p : Slots = c.args.pool.now in
    let q : Slots = c.keep_texts.new.pool in
    let view : SightValue = c.args.view.now in
    let d = c.args.action.now in
    let ready : PreparedValue = prepared_shown c.args.prepared.now in
    let es : List ViewEntry = kept_entries c.in_ok-texts.texts.items in
    let once : c.deref.result.now ≡ distinct (met d ready) =
    c.deref.ensures.value ∙ c.in_ok-once.ensures ∙ ap distinct c.requires.met in
    let kept : blobs_in q es ≡ kept_along (texts_of p view) c.deref.result.now =
    kept_same p q view (entry_holders es) es c.deref.result.now c.requires.held c.in_ok-texts.ensures.moves
    (c.in_ok-texts.ensures.kept q) in
    let job_with : TaskValue → JobValue = λ t. record
    { action = d; timeout = ready.action.timeout; is_stored = ready.action.is_stored; task = t } in
    ap job_with (ap (task_read d) (kept ∙ ap (kept_along (texts_of p view)) once)
    ∙ sym (task_again (seen_in p view) d ready c.requires.prepared))
