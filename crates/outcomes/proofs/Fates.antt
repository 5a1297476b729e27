-- How a job ends, by cases.
use Rattle.std.proofs.Common.{◌≡◌, ℕ, ℤ, pos, negsuc, Bool, true, false, ◌&&◌, List, nat_lt, Some, None, refl, ap, arith, cond}
use Rattle.std.proofs.lemmas.Bool.Decides.{nat_tests}
use Rattle.digest.specs.declared.Digest.{Digest}
use Rattle.instance_view.specs.Visible.{Blob}
use Rattle.execution_messages.specs.declared.fault.Fault.{Fault}
use Rattle.execution_messages.specs.Progress.{fails, gives}
use Rattle.run_calls.specs.Outcomes.{ExitedValue, OutcomeValue, exited, failed}
use Rattle.outcomes.specs.Results.{CompletionValue, are_outputs, blobs_given, fresh_bytes, result_text}
use Rattle.execution.specs.Job.{JobValue}
use Rattle.outcomes.specs.Ending.{completed, ending, is_success, outputs_asked, stored_of}
use Rattle.outcomes.specs.Fates.{IsOfSuccess, LeavesNothing}

-- ---- what is stored

record IsStored (job : JobValue) (code : ℤ) (result text : List ℕ) : Type 0 where
  pub success : code ≡ pos 0
  pub stored : job.is_stored ≡ true
  pub text_is : result ≡ text

is_zero : (code : ℤ) → is_success code ≡ true → code ≡ pos 0
is_zero (pos n) h = let none : n ≡ 0 = grind (arith, nat_tests) in ap pos none
is_zero (negsuc n) h = absurd (cc)

stored_is : (job : JobValue) (code : ℤ) (result text : List ℕ) → stored_of job code result ≡ Some text → IsStored job code result text
stored_is job code result text h = go (is_success code) job.is_stored refl refl h where
  go : (s t : Bool) → is_success code ≡ s → job.is_stored ≡ t → cond (s && t) (Some result) None ≡ Some text → IsStored job code result text
  go true true s t h = record { success = is_zero code s; stored = t; text_is = cc }
  go true false s t h = absurd (cc)
  go false t' s t h = absurd (cc)

of_success : (quota : ℕ) (visible : List Blob) (job : JobValue) (x : ExitedValue) (c : CompletionValue) (text : List ℕ) →
    (completed quota visible job x.code c).stored ≡ Some text
    → IsOfSuccess job (exited x) (completed quota visible job x.code c) text
of_success quota visible job x c text = go (nat_lt quota (fresh_bytes visible c.blobs)) refl where
  go : (b : Bool) → nat_lt quota (fresh_bytes visible c.blobs) ≡ b → (completed quota visible job x.code c).stored ≡ Some text →
      IsOfSuccess job (exited x) (completed quota visible job x.code c) text
  go true is = rw is (λ h. absurd (cc))
  go false is = rw is (λ h. let found = stored_is job x.code c.result text h in
      record { run = x; is_exited = refl; is_success = found.success; is_stored = found.stored; is_given = ap gives found.text_is })

pub stores_success : (quota : ℕ) (visible : List Blob) (job : JobValue) (outcome : OutcomeValue) (text : List ℕ) →
    (ending quota visible job outcome).stored ≡ Some text → IsOfSuccess job outcome (ending quota visible job outcome) text
stores_success quota visible job failed text h = absurd (cc)
stores_success quota visible job (exited x) text h = go (are_outputs job.action (outputs_asked job) x.outputs) refl h where
  go : (b : Bool) → are_outputs job.action (outputs_asked job) x.outputs ≡ b → (ending quota visible job (exited x)).stored ≡ Some text →
      IsOfSuccess job (exited x) (ending quota visible job (exited x)) text
  go true is = rw is (of_success quota visible job x (record { blobs = blobs_given job.action x; result = result_text job.action x }) text)
  go false is = rw is (λ h. absurd (cc))

-- ---- what fails

nothing : (quota : ℕ) (visible : List Blob) (job : JobValue) (code : ℤ) (c : CompletionValue) (fault : Fault) (missing : List Digest) →
    (completed quota visible job code c).end_is ≡ fails fault missing
    → LeavesNothing (completed quota visible job code c)
nothing quota visible job code c fault missing = go (nat_lt quota (fresh_bytes visible c.blobs)) refl where
  go : (b : Bool) → nat_lt quota (fresh_bytes visible c.blobs) ≡ b → (completed quota visible job code c).end_is ≡ fails fault missing →
      LeavesNothing (completed quota visible job code c)
  go true is = rw is (λ h. record { no_blob = refl; no_result = refl })
  go false is = rw is (λ h. absurd (cc))

pub leaves_nothing : (quota : ℕ) (visible : List Blob) (job : JobValue) (outcome : OutcomeValue) (fault : Fault) (missing : List Digest) →
    (ending quota visible job outcome).end_is ≡ fails fault missing → LeavesNothing (ending quota visible job outcome)
leaves_nothing quota visible job failed fault missing h = record { no_blob = refl; no_result = refl }
leaves_nothing quota visible job (exited x) fault missing h = go (are_outputs job.action (outputs_asked job) x.outputs) refl h where
  go : (b : Bool) → are_outputs job.action (outputs_asked job) x.outputs ≡ b →
      (ending quota visible job (exited x)).end_is ≡ fails fault missing → LeavesNothing (ending quota visible job (exited x))
  go true is = rw is (nothing quota visible job x.code
      (record { blobs = blobs_given job.action x; result = result_text job.action x }) fault missing)
  go false is = rw is (λ h. record { no_blob = refl; no_result = refl })
