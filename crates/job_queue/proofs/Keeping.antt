-- Each change keeps what holds of an instance's jobs.
use Rattle.std.proofs.Common.{◌≡◌, ◌≢◌, ℕ, ◌+◌, ◌-◌, ◌<◌, ◌≤◌, List, [], ◌∷◌, ◌++◌, length, drop, Option, Some, None, refl, sym, ap, ◌∙◌, append_assoc, length-append, length-drop, arith}
use Rattle.std.specs.Prelude.{option_map}
use Rattle.std.specs.List.{AllByRecursion}
use Rattle.std.specs.Map.{keys_of, lookup}
use Rattle.std.proofs.lemmas.List.{append-nil, drop-map, map-append}
use Rattle.job_queue.specs.declared.queue.Running.{Running}
use Rattle.job_queue.specs.declared.queue.TheConstants.{LAST_NUMBER, MOST_WAITING, MOST_RUNNING, MOST_ENDED}
use Rattle.job_queue.specs.Jobs.{Jobs, same_number, with_ended, jobs_after_push, jobs_after_done, jobs_after_start, jobs_after_end, jobs_without, running_job, started}
use Rattle.job_queue.specs.Changes.{JobChange, pushes, does, starts, ends, forgets, jobs_after, CanHappen}
use Rattle.job_queue.specs.Order.{AreDistinct, IsNone, AreJobs, open_numbers, ended_numbers}
use Rattle.job_queue.proofs.Orders.{all-append, all-weaker, all-drop, related-append, related-drop, all-without, related-without, found-among, none-left, length-without}

-- ---- those that have ended

abbrev Kept : Type 0
Kept = List (ℕ × List ℕ)

-- the numbers of those that ended last
keys-with_ended : (n : ℕ) (operation : List ℕ) (es : Kept) →
    keys_of (with_ended n operation es) ≡ drop (length (es ++ (n, operation) ∷ []) - MOST_ENDED) (keys_of es ++ n ∷ [])
keys-with_ended n operation es =
    let first : ℕ × List ℕ → ℕ = λ e. e.0 in
    sym (drop-map first (length (es ++ (n, operation) ∷ []) - MOST_ENDED) (es ++ (n, operation) ∷ []))
    ∙ ap (drop (length (es ++ (n, operation) ∷ []) - MOST_ENDED)) (map-append first es ((n, operation) ∷ []))

all-with_ended : (P : ℕ → Type 0) (n : ℕ) (operation : List ℕ) (es : Kept) → AllByRecursion P (keys_of es) → P n →
    AllByRecursion P (keys_of (with_ended n operation es))
all-with_ended P n operation es h one = rw (keys-with_ended n operation es)
    (all-drop P _ (keys_of es ++ n ∷ []) (all-append P (keys_of es) (n ∷ []) h (one, tt)))

distinct-with_ended : (n : ℕ) (operation : List ℕ) (es : Kept) → AreDistinct (keys_of es) → IsNone (keys_of es) n →
    AreDistinct (keys_of (with_ended n operation es))
distinct-with_ended n operation es h new =
    let R : ℕ → ℕ → Type 0 = λ a b. a ≢ b in
    rw (keys-with_ended n operation es) (related-drop R _ (keys_of es ++ n ∷ [])
    (related-append R (keys_of es) (n ∷ []) h (tt, tt)
    (all-weaker (λ m. m ≢ n) (λ m. AllByRecursion (R m) (n ∷ [])) (λ m other. (other, tt)) (keys_of es) new)))

few-with_ended : (n : ℕ) (operation : List ℕ) (es : Kept) → length es ≤ MOST_ENDED → length (with_ended n operation es) ≤ MOST_ENDED
few-with_ended n operation es h = omega (arith, length-drop (length (es ++ (n, operation) ∷ []) - MOST_ENDED) (es ++ (n, operation) ∷ []))

-- ---- the changes

below-not : (next : ℕ) (ns : List ℕ) → AllByRecursion (λ n. n < next) ns → IsNone ns next
below-not next ns h = all-weaker (λ n. n < next) (λ n. n ≢ next) (λ n below is. omega arith) ns h

one-more : (next : ℕ) (ns : List ℕ) → AllByRecursion (λ n. n < next) ns → AllByRecursion (λ n. n < next + 1) ns
one-more next ns h = all-weaker (λ n. n < next) (λ n. n < next + 1) (λ n below. omega arith) ns h

-- a new number is none of those that have ended
apart-more : (next : ℕ) (ns ended : List ℕ) → AllByRecursion (IsNone ns) ended → AllByRecursion (λ n. n < next) ended →
    AllByRecursion (IsNone (ns ++ next ∷ [])) ended
apart-more next ns [] h below = tt
apart-more next ns (e ∷ es) h below =
    let under : e < next = below.0 in
    let other : next ≢ e = λ is. omega arith in
    (all-append (λ m. m ≢ e) ns (next ∷ []) h.0 (other, tt), apart-more next ns es h.1 below.1)

module _ {J : Type 0} where
  open-push : (job : J) (jobs : Jobs J) → open_numbers (jobs_after_push job jobs) ≡ open_numbers jobs ++ jobs.next ∷ []
  open-push job jobs =
      ap (λ (ns : List ℕ). keys_of jobs.running ++ ns) (map-append (λ (e : ℕ × J). e.0) jobs.waiting ((jobs.next, job) ∷ []))
      ∙ sym (append_assoc (keys_of jobs.running) (keys_of jobs.waiting) (jobs.next ∷ []))

  pub after-push : (job : J) (jobs : Jobs J) → AreJobs jobs → jobs.next ≤ LAST_NUMBER → length jobs.waiting < MOST_WAITING →
      AreJobs (jobs_after_push job jobs)
  after-push job jobs h left room =
      let R : ℕ → ℕ → Type 0 = λ a b. a < b in
      let ns : List ℕ = open_numbers jobs in
      let n : ℕ = jobs.next in
      record {
        rising = rw (open-push job jobs) (related-append R ns (jobs.next ∷ []) h.rising (tt, tt)
            (all-weaker (λ n. n < jobs.next) (λ n. AllByRecursion (R n) (jobs.next ∷ [])) (λ n below. (below, tt)) ns h.given));
        given = rw (open-push job jobs) (all-append (λ n. n < jobs.next + 1) ns (jobs.next ∷ []) (one-more jobs.next ns h.given)
            (omega arith, tt));
        ended_given = one-more jobs.next (ended_numbers jobs) h.ended_given;
        ended_once = h.ended_once;
        ended_apart = rw (open-push job jobs) (apart-more jobs.next ns (ended_numbers jobs) h.ended_apart h.ended_given);
        few_numbers = omega (arith, left);
        few_waiting = omega (arith, length-append jobs.waiting ((jobs.next, job) ∷ []));
        few_running = h.few_running;
        few_ended = h.few_ended;
      }

  pub after-done : (operation : List ℕ) (jobs : Jobs J) → AreJobs jobs → jobs.next ≤ LAST_NUMBER → AreJobs (jobs_after_done operation jobs)
  after-done operation jobs h left = record {
    rising = h.rising;
    given = one-more jobs.next (open_numbers jobs) h.given;
    ended_given = all-with_ended (λ n. n < jobs.next + 1) jobs.next operation jobs.ended
        (one-more jobs.next (ended_numbers jobs) h.ended_given) (let n : ℕ = jobs.next in omega arith);
    ended_once = distinct-with_ended jobs.next operation jobs.ended h.ended_once (below-not jobs.next (ended_numbers jobs) h.ended_given);
    ended_apart = all-with_ended (IsNone (open_numbers jobs)) jobs.next operation jobs.ended h.ended_apart
        (below-not jobs.next (open_numbers jobs) h.given);
    few_numbers = omega (arith, left);
    few_waiting = h.few_waiting;
    few_running = h.few_running;
    few_ended = few-with_ended jobs.next operation jobs.ended h.few_ended;
  }

  open-start : (deadline : ℕ) (rs : List (ℕ × Running J)) (ws : List (ℕ × J)) →
      keys_of (rs ++ started deadline ws) ++ keys_of (drop 1 ws) ≡ keys_of rs ++ keys_of ws
  open-start deadline rs [] = ap (λ (es : List (ℕ × Running J)). keys_of es ++ []) (append-nil rs)
  open-start deadline rs (w ∷ ws) =
      ap (λ (ns : List ℕ). ns ++ keys_of ws) (map-append (λ (e : ℕ × Running J). e.0) rs (started deadline (w ∷ ws)))
      ∙ append_assoc (keys_of rs) (w.0 ∷ []) (keys_of ws)

  length-started : (deadline : ℕ) (ws : List (ℕ × J)) → length (started deadline ws) ≤ 1
  length-started deadline [] = omega arith
  length-started deadline (w ∷ ws) = omega arith

  pub after-start : (deadline : ℕ) (jobs : Jobs J) → AreJobs jobs → length jobs.running < MOST_RUNNING →
      AreJobs (jobs_after_start deadline jobs)
  after-start deadline jobs h room =
      let same : open_numbers (jobs_after_start deadline jobs) ≡ open_numbers jobs = open-start deadline jobs.running jobs.waiting in
      record {
        rising = rw same h.rising;
        given = rw same h.given;
        ended_given = h.ended_given;
        ended_once = h.ended_once;
        ended_apart = rw same h.ended_apart;
        few_numbers = h.few_numbers;
        few_waiting = (let few = h.few_waiting in omega (arith, length-drop 1 jobs.waiting));
        few_running = omega (arith, length-append jobs.running (started deadline jobs.waiting), length-started deadline jobs.waiting);
        few_ended = h.few_ended;
      }

  pub after-forget : (n : ℕ) (jobs : Jobs J) → AreJobs jobs → AreJobs (jobs_without n jobs)
  after-forget n jobs h = record {
    rising = related-without (λ a b. a < b) (same_number n) jobs.running (keys_of jobs.waiting) h.rising;
    given = all-without (λ m. m < jobs.next) (same_number n) jobs.running (keys_of jobs.waiting) h.given;
    ended_given = h.ended_given;
    ended_once = h.ended_once;
    ended_apart = all-weaker (IsNone (open_numbers jobs)) (IsNone (open_numbers (jobs_without n jobs)))
        (λ e apart. all-without (λ m. m ≢ e) (same_number n) jobs.running (keys_of jobs.waiting) apart) (ended_numbers jobs) h.ended_apart;
    few_numbers = h.few_numbers;
    few_waiting = h.few_waiting;
    few_running = (let fewer = length-without (same_number n) jobs.running in let few = h.few_running in omega arith);
    few_ended = h.few_ended;
  }

  runs_of : (n : ℕ) (job : J) (jobs : Jobs J) → running_job n jobs ≡ Some job →
      (r : Running J) × (lookup (same_number n) jobs.running ≡ Some r)
  runs_of n job jobs is = go (lookup (same_number n) jobs.running) refl is where
    go : (o : Option (Running J)) → lookup (same_number n) jobs.running ≡ o → option_map (λ r. r.job) o ≡ Some job →
        (r : Running J) × (lookup (same_number n) jobs.running ≡ Some r)
    go None found is = absurd (let no : None ≡ Some job = is in cc)
    go (Some r) found is = (r, found)

  pub after-end : (n : ℕ) (operation : List ℕ) (job : J) (jobs : Jobs J) → AreJobs jobs → running_job n jobs ≡ Some job →
      AreJobs (jobs_after_end n operation jobs)
  after-end n operation job jobs h is =
      let found = runs_of n job jobs is in
      let forgot = after-forget n jobs h in
      let waiting = keys_of jobs.waiting in
      record {
        rising = forgot.rising;
        given = forgot.given;
        ended_given = all-with_ended (λ m. m < jobs.next) n operation jobs.ended h.ended_given
            (found-among (λ m. m < jobs.next) n found.0 jobs.running waiting found.1 h.given);
        ended_once = distinct-with_ended n operation jobs.ended h.ended_once
            (all-weaker (IsNone (open_numbers jobs)) (λ e. e ≢ n)
            (λ e apart is. found-among (λ m. m ≢ e) n found.0 jobs.running waiting found.1 apart (sym is))
            (ended_numbers jobs) h.ended_apart);
        ended_apart = all-with_ended (IsNone (open_numbers (jobs_without n jobs))) n operation jobs.ended forgot.ended_apart
            (none-left n found.0 jobs.running waiting found.1 h.rising);
        few_numbers = h.few_numbers;
        few_waiting = h.few_waiting;
        few_running = forgot.few_running;
        few_ended = few-with_ended n operation jobs.ended h.few_ended;
      }

  pub after-change : (change : JobChange J) (jobs : Jobs J) → AreJobs jobs → CanHappen change jobs → AreJobs (jobs_after change jobs)
  after-change (pushes job) jobs h can = after-push job jobs h can.0 can.1
  after-change (does operation) jobs h can = after-done operation jobs h can
  after-change (starts deadline) jobs h can = after-start deadline jobs h can
  after-change (ends n operation) jobs h can = after-end n operation can.0 jobs h can.1
  after-change (forgets n) jobs h can = after-forget n jobs h
