-- How jobs are stored, and where the code finds an entry.
use Rattle.std.specs.Prelude.{ℕ, ◌+◌, List, [], ◌∷◌, if◌then◌else◌, refl}
use Rattle.std.specs.Coded.{Coded, code_by, coded×, coded_ℕ, coded_list}
use Rattle.std.specs.declared.alloc.Global.{Global}
use Rattle.std.specs.declared.rc.Rc.{Rc}
use Rattle.std.specs.declared.vec.Vec.{Vec}
use Rattle.job_queue.specs.declared.queue.Running.{Running}
use Rattle.job_queue.specs.Jobs.{Jobs, same_number}

-- the place of the first entry of a number, or the length where there is none
abbrev pub place_of : {A : Type 0} → ℕ → List (ℕ × A) → ℕ
place_of n [] = 0
place_of n (e ∷ es) = if same_number n e.0 then 0 else place_of n es + 1

-- the bytes of an Operation, without where they lie in memory and who else has them
abbrev pub operation_shown : Rc (Vec ℕ Global) Global → List ℕ
operation_shown operation = operation.value.items

-- an entry of an Operation
abbrev pub ended_shown : (ℕ × Rc (Vec ℕ Global) Global) → (ℕ × List ℕ)
ended_shown e = (e.0, operation_shown e.1)

-- a running job is stored as the pair of its fields
abbrev pub running_code : {J : Type 0} → Coded J → Coded (Running J)
running_code {J} job =
    code_by (ℕ × J) (coded× coded_ℕ job) (λ r. (r.deadline, r.job))
    (λ p. record { deadline = p.0; job = p.1 }) (λ _. refl)

-- entries are stored as pairs
abbrev pub entries_code : {A : Type 0} → Coded A → Coded (List (ℕ × A))
entries_code a = coded_list (coded× coded_ℕ a)

-- jobs are stored as nested pairs
abbrev pub jobs_code : {J : Type 0} → Coded J → Coded (Jobs J)
jobs_code {J} job =
    code_by (ℕ × (List (ℕ × J) × (List (ℕ × Running J) × List (ℕ × List ℕ))))
    (coded× coded_ℕ (coded× (entries_code job)
    (coded× (entries_code (running_code job)) (entries_code (coded_list coded_ℕ)))))
    (λ q. (q.next, (q.waiting, (q.running, q.ended))))
    (λ p. record { next = p.0; waiting = p.1.0; running = p.1.1.0; ended = p.1.1.1 }) (λ _. refl)
