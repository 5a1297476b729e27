-- The numbers that calls of Execute use up, and the texts that a job keeps.
use Rattle.std.proofs.Common.{◌≡◌, ℕ, ◌+◌, Bool, true, false, List, [], ◌∷◌, ◌++◌, length, map, Option, Some, None, refl, sym, ap}
use Rattle.std.specs.Prelude.{Result, Ok, Err, nat_eq, nat_le, nat_lt}
use Rattle.digest.specs.declared.Digest.{Digest}
use Rattle.digest.specs.Naming.{same_digest, is_empty_digest}
use Rattle.instance_view.specs.Visible.{Blob}
use Rattle.input_tree.specs.Listing.{Lookup}
use Rattle.action_cache.specs.Answering.{blobs_used, results_after}
use Rattle.job_queue.specs.declared.queue.TheConstants.{LAST_NUMBER, MOST_WAITING}
use Rattle.execution_messages.specs.Once.{IsEachOnce}
use Rattle.execution_messages.specs.Progress.{completed_text, finds}
use Rattle.execution_messages.proofs.EachOnce.{among, both-false, each-once, or-false}
use Rattle.rpc.specs.declared.refusal.Refusal.{Refusal}
use Rattle.execution.specs.Changes.{after_changes}
use Rattle.execution.specs.Execute.{ExecuteAnswer, ExecuteDone, ExecutionState, Does, Pushes, by_job, by_looking, by_preparing, execute, look_in, looked_up}
use Rattle.execution.specs.Job.{kept_along, kept_text, kept_texts}
use Rattle.execution.specs.Preparing.{FaultValue, PreparedValue, job_of, met, prepared}
use Rattle.execution.proofs.Calling.{uses_first}

-- an answer uses up one number, and a refusal changes nothing
abbrev Numbered : ExecutionState → ExecuteDone → Type 0
Numbered s x =
    ((a : ExecuteAnswer) → x.answer ≡ Ok a → (after_changes x.changes s).jobs.next ≡ s.jobs.next + 1)
    × ((r : Refusal) → x.answer ≡ Err r → x.changes ≡ [])

ok-err : {A E : Type 0} (a : A) (e : E) → Ok a ≡ Err e → ⊥
ok-err a e is = cc

job-numbered : (s : ExecutionState) (d : Digest) (p : PreparedValue) → Numbered s (by_job s d p)
job-numbered s d p = go (nat_le MOST_WAITING (length s.jobs.waiting)) refl where
  go : (b : Bool) → nat_le MOST_WAITING (length s.jobs.waiting) ≡ b → Numbered s (by_job s d p)
  go true full = rw full (λ a is. absurd (ok-err _ _ (sym is)), λ r is. refl)
  go false few = rw few (
    λ a is. ap (λ (x : ExecutionState). x.jobs.next)
        (uses_first (met d p) (Pushes (job_of (look_in s) d p) ∷ []) s),
    λ r is. absurd (ok-err _ _ is),
  )

preparing-numbered : (s : ExecutionState) (d : Digest) (p : Result PreparedValue FaultValue) → Numbered s (by_preparing s d p)
preparing-numbered s d (Err f) = (λ a is. refl, λ r is. absurd (ok-err _ _ is))
preparing-numbered s d (Ok p) = job-numbered s d p

looking-numbered : (s : ExecutionState) (d : Digest) (o : Option (List ℕ)) → Numbered s (by_looking s d o)
looking-numbered s d (Some text) =
    let new : List Blob = results_after (look_in s) d s.results in (
      λ a is. ap (λ (x : ExecutionState). x.jobs.next)
          (uses_first (blobs_used (look_in s) d s.results) (Does (completed_text s.jobs.next d (finds text)) ∷ [])
          (record s { results = new })),
      λ r is. absurd (ok-err _ _ is),
    )
looking-numbered s d None = preparing-numbered s d (prepared (look_in s) d)

pub execute-numbered : (slots : ℕ) (s : ExecutionState) (skip : Bool) (d : Digest) → Numbered s (execute slots s skip d)
execute-numbered slots s skip d = off (nat_eq slots 0) refl where
  left : (b : Bool) → nat_eq slots 0 ≡ false → nat_lt LAST_NUMBER s.jobs.next ≡ b → Numbered s (execute slots s skip d)
  left true on none = rw (on, none) (λ a is. absurd (ok-err _ _ (sym is)), λ r is. refl)
  left false on some = rw (on, some) (looking-numbered s d (looked_up skip (look_in s) d s.results))

  off : (b : Bool) → nat_eq slots 0 ≡ b → Numbered s (execute slots s skip d)
  off true none = rw none (λ a is. absurd (ok-err _ _ (sym is)), λ r is. refl)
  off false on = left (nat_lt LAST_NUMBER s.jobs.next) on refl

-- ---- texts

abbrev key : Blob → Digest
key b = b.0

kept-none : (look : Lookup) (d c : Digest) (bs : List Blob) → same_digest d c ≡ false → among d (map key bs) ≡ false →
    among d (map key (kept_text look c ++ bs)) ≡ false
kept-none look d c bs other rest = go (is_empty_digest c) (look c) refl refl where
  go : (b : Bool) (o : Option (List ℕ)) → is_empty_digest c ≡ b → look c ≡ o → among d (map key (kept_text look c ++ bs)) ≡ false
  go true o empty is = rw empty rest
  go false None full is = rw (full, is) rest
  go false (Some text) full is = rw (full, is) (both-false (same_digest d c) (among d (map key bs)) other rest)

kept-apart : (look : Lookup) (d : Digest) (ds : List Digest) → among d ds ≡ false → among d (map key (kept_along look ds)) ≡ false
kept-apart look d [] none = refl
kept-apart look d (c ∷ cs) none =
    let apart : (same_digest d c ≡ false) × (among d cs ≡ false) = or-false (same_digest d c) (among d cs) none in
    kept-none look d c (kept_along look cs) apart.0 (kept-apart look d cs apart.1)

kept-once : (look : Lookup) (ds : List Digest) → IsEachOnce ds → IsEachOnce (map key (kept_along look ds))
kept-once look [] h = tt
kept-once look (c ∷ cs) h = go (is_empty_digest c) (look c) refl refl (kept-once look cs h.1) where
  go : (b : Bool) (o : Option (List ℕ)) → is_empty_digest c ≡ b → look c ≡ o → IsEachOnce (map key (kept_along look cs)) →
      IsEachOnce (map key (kept_along look (c ∷ cs)))
  go true o empty is later = rw empty later
  go false None full is later = rw (full, is) later
  go false (Some text) full is later = rw (full, is) (kept-apart look c cs h.0, later)

pub texts-once : (look : Lookup) (met : List Digest) → IsEachOnce (map (λ (b : Blob). b.0) (kept_texts look met))
texts-once look met = kept-once look _ (each-once met)
