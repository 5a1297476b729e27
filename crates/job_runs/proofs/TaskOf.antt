-- A task of a run is that of a job's task.
use Rattle.std.proofs.Common.{◌≡◌, ℕ, Bool, true, false, get_or, List, map, string_bytes, sym, ap, ap₂, subst, ◌∙◌}
use Rattle.digest.specs.declared.Digest.{Digest}
use Rattle.blob_pool.specs.Slots.{Slots}
use Rattle.instance_view.specs.Shown.{blobs_in}
use Rattle.actions.specs.Nodes.{PlanNode}
use Rattle.actions.specs.Shown.{nodes_shown}
use Rattle.execution_messages.specs.Actions.{CommandValue}
use Rattle.execution.specs.InPool.{task_in}
use Rattle.execution.specs.Job.{TaskValue}
use Rattle.execution.specs.Keeping.{kept_entries}
use Rattle.execution.specs.Numbers.{kept_digests}
use Rattle.execution.specs.Shown.{task_told}
use Rattle.execution.specs.declared.job.Task as jobs
use Rattle.execution.specs.declared.keeping.KeptText.{KeptText}
use Rattle.execution.specs.declared.reading.TaskRead.{TaskRead}
use Rattle.run_calls.specs.Values.{command_shown, task_nodes_shown}
use Rattle.run_calls.specs.declared.task.Task.{Task}
use Rattle.job_runs.specs.Made.{may_be_made}
use Rattle.job_runs.specs.Tasks.{IsTaskOf, command_for, function_for, nodes_with, output_paths, program_of}
use Rattle.job_runs.specs.Texts.{blob_digests}
use Rattle.job_runs.proofs.Numbering.{digests_in}

pub task_of : (p : Slots) (task : jobs.Task) (read : TaskRead) (c : CommandValue) (command : List ℕ) (texts : List KeptText)
    (nodes : List PlanNode) (made marks : List Bool) (run : Task)
    → task_told (blobs_in p (kept_entries task.texts.items)) read ≡ task_in p task
    → c ≡ command_for command → command ≡ read.command.items → texts ≡ task.texts.items → nodes ≡ read.plan.nodes.items → marks ≡ made
    → ((at : ℕ) → get_or made at false ≡ true → may_be_made (nodes_shown nodes) c at ≡ true)
    → command_shown run.command ≡ program_of c → string_bytes run.working_directory ≡ c.working_directory
    → map string_bytes run.outputs.items ≡ output_paths c
    → task_nodes_shown run.nodes.items ≡ nodes_with marks (kept_digests texts) (nodes_shown read.plan.nodes.items)
    → run.function ≡ function_for (kept_digests texts) → IsTaskOf (task_in p task) run
task_of p task read c command texts nodes made marks run says c_is command_is texts_is nodes_is marks_is may program directory outputs
    nodes_are function =
    let spelled : c ≡ command_for read.command.items = c_is ∙ ap command_for command_is in
    let digests : kept_digests texts ≡ blob_digests (blobs_in p (kept_entries task.texts.items)) =
    ap kept_digests texts_is ∙ sym (digests_in p task.texts.items) in
    subst (λ (t : TaskValue). IsTaskOf t run) says (record {
      program = program ∙ ap program_of spelled;
      directory = directory ∙ ap (λ (v : CommandValue). v.working_directory) spelled;
      outputs = outputs ∙ ap output_paths spelled;
      made = made;
      nodes = nodes_are ∙ ap₂ (λ (m : List Bool) (ds : List Digest). nodes_with m ds (nodes_shown read.plan.nodes.items)) marks_is digests;
      may_be = λ at is.
          subst (λ (v : CommandValue). may_be_made (nodes_shown read.plan.nodes.items) v at ≡ true) spelled
          (subst (λ (ns : List PlanNode). may_be_made (nodes_shown ns) c at ≡ true) nodes_is (may at is));
      function = function ∙ ap function_for digests;
    })
