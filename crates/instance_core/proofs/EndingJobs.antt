-- What the run of a job leaves is admitted and stored, and the jobs stay as they were.
use Rattle.std.proofs.Common.{◌≡◌, List, [], ◌∷◌, ◌++◌, map, Option, Some, None, refl, ◌∙◌}
use Rattle.execution.specs.Job.{JobValue}
use Rattle.outcomes.specs.Ending.{admissions, results_with}
use Rattle.run_calls.specs.Outcomes.{OutcomeValue}
use Rattle.instance_core.specs.Answer.{ending_at, ending_changes}
use Rattle.instance_core.specs.Changes.{InstanceChange, Text, Keeps, state_after_change, state_after_changes}
use Rattle.instance_core.specs.State.{InstanceState}

texts_keep_jobs : {X : Type 0} (f : X → InstanceChange) (xs : List X) (cs : List InstanceChange) (s : InstanceState) →
    ((x : X) (u : InstanceState) → (state_after_change (f x) u).jobs ≡ u.jobs) →
    ((u : InstanceState) → (state_after_changes cs u).jobs ≡ u.jobs) → (state_after_changes (map f xs ++ cs) s).jobs ≡ s.jobs
texts_keep_jobs f [] cs s each last = last s
texts_keep_jobs f (x ∷ xs) cs s each last = texts_keep_jobs f xs cs (state_after_change (f x) s) each last ∙ each x s

pub ending_keeps_jobs : (s u : InstanceState) (outcome : OutcomeValue) (o : Option JobValue) →
    (state_after_changes (ending_changes s outcome o) u).jobs ≡ u.jobs
ending_keeps_jobs s u outcome None = refl
ending_keeps_jobs s u outcome (Some job) =
    let end = ending_at s outcome job in
    let stored : List InstanceChange = Keeps (results_with s.limits job.action end.stored s.results) ∷ [] in
    texts_keep_jobs Text (admissions end.blobs) stored u (λ x t. refl) (λ t. refl)
