-- The texts that the instances of a server hold, each counted once.
use Rattle.std.specs.Prelude.{◌≡◌, ◌⊎◌, ℕ, ◌+◌, List, [], ◌∷◌, ◌++◌, length}
use Rattle.std.specs.List.{flat_map}
use Rattle.job_queue.specs.Jobs.{Jobs}
use Rattle.execution.specs.Job.{JobValue}
use Rattle.instance_core.specs.Visible.{Blob}
use Rattle.served_instance.specs.StandsFor.{ServedState, lone_ranges}
use Rattle.served_instance.specs.Lone.{LoneInstance}
use Rattle.server_core.specs.StandsFor.{ServerState}

abbrev pub texts_of : List Blob → List (List ℕ)
texts_of [] = []
texts_of (b ∷ bs) = b.1 ∷ texts_of bs

-- the texts that jobs keep which wait or run, each job's once
abbrev pub texts_of_jobs : Jobs JobValue → List (List ℕ)
texts_of_jobs jobs =
    flat_map (λ (w : ℕ × JobValue). texts_of w.1.task.texts) jobs.waiting
    ++ flat_map (λ r. texts_of r.1.job.task.texts) jobs.running

-- those of an instance: of its blobs, of its jobs, and of the ranges that are held
abbrev pub own_texts : ServedState → List (List ℕ)
own_texts v = texts_of v.state.visible ++ texts_of_jobs v.state.jobs ++ v.ranges

-- each text of each instance, with repeats
abbrev pub texts_of_all : List ServedState → List (List ℕ)
texts_of_all [] = []
texts_of_all (v ∷ vs) = own_texts v ++ texts_of_all vs

abbrev pub texts_held : ServerState → List (List ℕ)
texts_held s = texts_of_all s.instances

-- those of an instance by itself: of its blobs, of its jobs, and of each range that a live stream
-- of an open connection is owed and that is not wholly put, where no error of the connection was
-- met
abbrev pub lone_texts : LoneInstance → List (List ℕ)
lone_texts l = texts_of l.state.visible ++ texts_of_jobs l.state.jobs ++ lone_ranges l

abbrev pub IsAmong : List ℕ → List (List ℕ) → Type 0
IsAmong t [] = ⊥
IsAmong t (x ∷ xs) = (x ≡ t) ⊎ IsAmong t xs

abbrev pub AreDistinct : List (List ℕ) → Type 0
AreDistinct [] = Unit {0}
AreDistinct (x ∷ xs) = (IsAmong x xs → ⊥) × AreDistinct xs

abbrev pub texts_length : List (List ℕ) → ℕ
texts_length [] = 0
texts_length (x ∷ xs) = length x + texts_length xs

-- so many different texts are held, with so many bytes together
pub record AreStored (held : List (List ℕ)) (count bytes : ℕ) : Type 0 where
  pub texts : List (List ℕ)
  pub distinct : AreDistinct texts
  pub all : (t : List ℕ) → IsAmong t held → IsAmong t texts
  pub only : (t : List ℕ) → IsAmong t texts → IsAmong t held
  pub count_is : count ≡ length texts
  pub bytes_is : bytes ≡ texts_length texts
