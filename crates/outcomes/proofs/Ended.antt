-- How a run ends whose outputs are taken.
use Rattle.std.proofs.Common.{◌≡◌, ℕ, ℤ, true, false, List, nat_lt, Option, refl, ap}
use Rattle.instance_view.specs.Visible.{Blob}
use Rattle.execution_messages.specs.Progress.{gives}
use Rattle.outcomes.specs.Results.{CompletionValue, fresh_bytes}
use Rattle.execution.specs.Job.{JobValue}
use Rattle.outcomes.specs.Ending.{EndingValue, completed, stored_of, too_much}

pub over : (quota : ℕ) (visible : List Blob) (job : JobValue) (code : ℤ) (c : CompletionValue) →
    nat_lt quota (fresh_bytes visible c.blobs) ≡ true → too_much ≡ completed quota visible job code c
over quota visible job code c is = rw is refl

pub within : (quota : ℕ) (visible : List Blob) (job : JobValue) (code : ℤ) (c : CompletionValue) (stored : Option (List ℕ)) →
    nat_lt quota (fresh_bytes visible c.blobs) ≡ false → stored ≡ stored_of job code c.result →
    record { end_is = gives c.result; blobs = c.blobs; stored = stored } ≡ completed quota visible job code c
within quota visible job code c stored is same =
    let with : Option (List ℕ) → EndingValue = λ stored. record { end_is = gives c.result; blobs = c.blobs; stored = stored } in
    rw is (ap with same)
