-- How long the messages are that tell of executions.
use Rattle.std.proofs.Common.{◌≡◌, ℕ, ◌+◌, ◌<◌, ◌≤◌, ◌^◌, Bool, true, List, [], ◌∷◌, length, Option, Some, None, Result, Ok, Err, refl, arith}
use Rattle.std.specs.Prelude.{IfOk, IfSome, option_map, unwrap_or, FitsSigned}
use Rattle.std.specs.Int.{w32}
use Rattle.std.specs.List.{AllByRecursion}
use Rattle.digest.specs.declared.Digest.{Digest}
use Rattle.instance_view.specs.Visible.{Blob}
use Rattle.reapi_messages.proofs.Tools.{bind_ok, ok_is}
use Rattle.reapi_messages.specs.MessageError.{MessageError}
use Rattle.reapi_messages.specs.Fields.{value_of_text}
use Rattle.cas_service.specs.Requests.{message_or_refusal, instance_check, function_asked, digest_or_refusal}
use Rattle.tree_calls.specs.Complete.{LimitsValue, IsLimits, AreResultsWithin}
use Rattle.job_queue.specs.Jobs.{Jobs, running_job}
use Rattle.job_queue.specs.Order.{AreJobs}
use Rattle.job_queue.specs.declared.queue.Running.{Running}
use Rattle.job_queue.specs.declared.queue.TheConstants.{LAST_NUMBER}
use Rattle.job_queue.proofs.Orders.{all-weaker}
use Rattle.actions.specs.Commands.{asked_outputs, command_in}
use Rattle.execution_messages.specs.Requests.{execute_request_of}
use Rattle.execution_messages.specs.Actions.{CommandValue}
use Rattle.execution_messages.specs.declared.fault.Fault.{Fault}
use Rattle.execution_messages.specs.Progress.{EndValue, gives, fails, completed_text}
use Rattle.run_calls.specs.Outcomes.{ExitedValue, OutputValue}
use Rattle.outcomes.specs.Asked.{are_asked}
use Rattle.outcomes.specs.Results.{blobs_given, result_text}
use Rattle.execution.specs.Job.{JobValue}
use Rattle.execution.specs.Execute.{ExecutionState, execute}
use Rattle.execution.specs.Steps.{StepValue, tick_steps, end_steps, start_steps}
use Rattle.execution.specs.Waiting.{wait}
use Rattle.execution.specs.Asking.{ExecuteAskedValue, execute_asked}
use Rattle.outcomes.specs.Ending.{outputs_asked}
use Rattle.outcomes.specs.Told as Sizes
use Rattle.outcomes.specs.Told.{IsShortExecuteAnswer, IsShortWaitAnswer}
use Rattle.outcomes.proofs.Executing as Lemmas
use Rattle.outcomes.proofs.Forms.{request_form}
use Rattle.outcomes.proofs.Results as Written
use Rattle.outcomes.proofs.Stages as Waits
use Rattle.outcomes.proofs.Steps.{tick_told, end_told, start_told}
use Rattle.outcomes.proofs.Written as Texts
use Rattle.instance_core.specs.Jobs.{IsWholeJob, AreWhole, AreToldShortly}
pub use Rattle.outcomes.specs.Short.{HasForm, IsShort}
pub use Rattle.outcomes.specs.Told.{IsShortExecuteAnswer, IsShortWaitAnswer}

-- what those are told who watch
abbrev pub AreShortSteps : List StepValue → Type 0
AreShortSteps steps = Sizes.AreToldShortly steps

-- jobs of which all that is told is short
pub record AreTold (jobs : Jobs JobValue) : Type 0 where
  pub order : AreJobs jobs
  pub whole : AreWhole jobs
  pub ended : AreToldShortly jobs

form_of : (job : JobValue) → IsWholeJob job → HasForm job.action
form_of job w = record { hash = w.hash; size = w.size }

told_of : (jobs : Jobs JobValue) → AreTold jobs → Sizes.AreTold jobs
told_of jobs h = record {
  waiting = all-weaker (λ (w : ℕ × JobValue). IsWholeJob w.1) (λ (w : ℕ × JobValue). HasForm w.1.action)
      (λ w whole. form_of w.1 whole) jobs.waiting h.whole.waiting;
  running = all-weaker (λ (r : ℕ × Running JobValue). IsWholeJob r.1.job) (λ (r : ℕ × Running JobValue). HasForm r.1.job.action)
      (λ r whole. form_of r.1.job whole) jobs.running h.whole.running;
  ended = h.ended;
}

pub tick_short : (slots moment : ℕ) (jobs : Jobs JobValue) → AreTold jobs → AreShortSteps (tick_steps slots moment jobs)
tick_short slots moment jobs h = tick_told slots moment jobs h.order (told_of jobs h)

pub start_short : (slots moment : ℕ) (jobs : Jobs JobValue) → AreTold jobs → AreShortSteps (start_steps slots moment jobs)
start_short slots moment jobs h = start_told slots moment jobs h.order (told_of jobs h)

pub end_short : (slots moment n : ℕ) (e : EndValue) (jobs : Jobs JobValue) → AreTold jobs →
    IfSome (running_job n jobs) (λ job. IsShort (completed_text n job.action e)) → AreShortSteps (end_steps slots moment n e jobs)
end_short slots moment n e jobs h short = end_told slots moment n e jobs h.order (told_of jobs h) short

pub wait_short : (name : List ℕ) (jobs : Jobs JobValue) → AreTold jobs → IfOk (wait name jobs) IsShortWaitAnswer
wait_short name jobs h = Waits.wait_short name jobs h.order (told_of jobs h)

pub execute_short : (limits : LimitsValue) (slots : ℕ) (s : ExecutionState) (skip : Bool) (d : Digest) → s.jobs.next ≤ LAST_NUMBER + 1 →
    HasForm d → IsLimits limits → AreResultsWithin limits s.results → IfOk (execute slots s skip d).answer IsShortExecuteAnswer
execute_short limits slots s skip d few form good results = Lemmas.execute_short limits slots s skip d few good results form

pub failed_short : (n : ℕ) (d : Digest) (fault : Fault) → n ≤ LAST_NUMBER + 1 → HasForm d → IsShort (completed_text n d (fails fault []))
failed_short n d fault few form = let short = Texts.failed_short n d fault few form in omega arith

pub given_short : (n : ℕ) (d : Digest) (text : List ℕ) → n ≤ LAST_NUMBER + 1 → HasForm d → length text ≤ 3500000000 →
    IsShort (completed_text n d (gives text))
given_short n d text few form most = let short = Texts.given_short n d text few form (omega arith) in omega arith

no_outputs : (outputs : List OutputValue) → are_asked [] outputs ≡ true → outputs ≡ []
no_outputs [] h = refl
no_outputs (o ∷ outputs) h = absurd (cc)

pub result_short : (job : JobValue) (x : ExitedValue) → are_asked (outputs_asked job) x.outputs ≡ true → FitsSigned w32 x.code →
    AllByRecursion (λ (b : Blob). b.0.size < 2 ^ 63) (blobs_given job.action x) → length (result_text job.action x) ≤ 3500000000
result_short job x asked narrow sizes = go (command_in job.task.command) refl asked where
  go : (o : Option CommandValue) → command_in job.task.command ≡ o →
      are_asked (unwrap_or (option_map asked_outputs o) []) x.outputs ≡ true → length (result_text job.action x) ≤ 3500000000
  go (Some v) is asked = Written.result_short job.action x job.task.command v is asked narrow sizes
  go None is asked =
      let none : Written.paths_size x.outputs ≡ 0 = rw (no_outputs x.outputs asked) refl in
      let short = Written.result_written job.action x narrow sizes (rw (no_outputs x.outputs asked) tt) (omega arith) in
      omega arith

readable_ok : {V : Type 0} (r : Result V MessageError) (v : V) → message_or_refusal r ≡ Ok v → r ≡ Ok v
readable_ok (Ok x) v h = cc
readable_ok (Err e) v h = absurd (cc)

pub asked_form : (own message : List ℕ) (asked : ExecuteAskedValue) → execute_asked own message ≡ Ok asked → HasForm asked.action
unfolding execute_asked
asked_form own message asked h =
    let q = bind_ok (message_or_refusal (value_of_text execute_request_of message)) _ asked h in
    let i = bind_ok (instance_check own q.0.instance_name) _ asked q.2 in
    let f = bind_ok (function_asked q.0.digest_function) _ asked i.2 in
    let d = bind_ok (digest_or_refusal f.0 q.0.action_digest) _ asked f.2 in
    let e = ok_is (record { action = d.0; skips_lookup = q.0.skip_cache_lookup }) asked d.2 in
    rw (← e) (request_form f.0 message q.0 d.0 (readable_ok (value_of_text execute_request_of message) q.0 q.1) d.1)
