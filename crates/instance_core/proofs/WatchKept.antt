-- Who watches which job, change after change: nobody waits for a job that could run.
use Rattle.std.proofs.Common.{◌≡◌, ℕ, ◌+◌, ◌<◌, ◌≤◌, ◌⊎◌, Bool, true, false, cond, List, [], ◌∷◌, ◌++◌, length, map, Option, Some, None, Result, Ok, Err, refl, sym, ap, subst, ◌∙◌, inl, inr, arith}
use Rattle.std.specs.Prelude.{◌==◌, ◌&&◌, not, is_some, nat_eq, nat_le, nat_lt, filter, option_map}
use Rattle.std.specs.List.{AllByRecursion}
use Rattle.std.specs.Map.{lookup, keys_of}
use Rattle.std.proofs.lemmas.Bool.{eqb-true, eqb-false}
use Rattle.rpc.specs.declared.method.Method.{Method}
use Rattle.rpc.specs.declared.method.Method.TheVariants as Called
use Rattle.rpc.specs.declared.refusal.Refusal.{Refusal}
use Rattle.digest.specs.declared.Digest.{Digest}
use Rattle.instance_view.specs.Visible.{visible_text}
use Rattle.reapi_messages.specs.Results.{◌>>=◌}
use Rattle.cas_service.specs.Changes as Texts
use Rattle.bytestream.specs.Writing as Writing
use Rattle.bytestream.specs.Writing.{OpenWriteValue, PartValue, WrittenValue, FirstAsked, first_asked, next_asked}
use Rattle.job_queue.specs.Jobs.{Jobs, same_number, stage_of, or_else}
use Rattle.job_queue.specs.Jobs as Stage
use Rattle.job_queue.specs.declared.queue.Running.{Running}
use Rattle.job_queue.specs.declared.queue.TheConstants.{LAST_NUMBER, MOST_WAITING}
use Rattle.job_queue.specs.Order.{AreJobs}
use Rattle.job_queue.proofs.Orders.{all-append, all-weaker}
use Rattle.execution.specs.Job.{JobValue}
use Rattle.execution.specs.Preparing.{FaultValue, PreparedValue, prepared, met, job_of}
use Rattle.execution.specs.Execute as Executor
use Rattle.execution.specs.Execute.{ExecutionState, ExecuteAnswer, done, queued, ExecuteChange, ExecuteDone, look_in, by_result, by_job, by_preparing, by_looking, looked_up, execute}
use Rattle.action_cache.specs.Answering.{blobs_used}
use Rattle.execution.specs.Waiting.{number_named, wait_answer, wait_for, wait}
use Rattle.execution.specs.Asking.{ExecuteAskedValue, execute_asked, name_asked}
use Rattle.instance_core.specs.declared.event.CallId.{CallId}
use Rattle.instance_core.specs.Calls.{Calls, CallValue, ProgressValue, waits, has, writes, watches, CallEventValue, head, message, fault, end, cancel, tick, start_jobs, end_late_jobs, end_job, same_call, call_at, with_call, without_call}
use Rattle.instance_core.specs.Replies.{AnswerValue, one_message, messages, range, watching, answering}
use Rattle.instance_core.specs.State.{InstanceState}
use Rattle.instance_core.specs.Changes.{InstanceChange, Text, Goes, Ends, Wrote, Keeps, Expires, Does, Pushes, Settles, state_after_change, state_after_changes, MadeInPart}
use Rattle.instance_core.specs.Methods.{answer_to, request_changes, execution_state, executed, execute_answered, wait_answered, execution_change, execution_changes}
use Rattle.instance_core.specs.Writes.{part_changes, first_part_changes, changes_asked, first_changes, next_changes, first_outcome, next_outcome}
use Rattle.instance_core.specs.Answer.{answer, state_after, head_answer, first_write_answer, next_write_answer, first_message_answer, answer_by_progress, message_answer, fault_by_progress, fault_answer, call_change, end_answer_by_progress, request_end_answer}
use Rattle.instance_core.specs.Apart.{is_apart, calls_apart, IsCallOn}
use Rattle.instance_core.specs.Watching.{IsGiven, waits_for, WatchDuring}

-- ---- lists

module _ {A : Type 0} where
  pub all_filtered : (P : A → Type 0) (t : A → Bool) (xs : List A) → AllByRecursion P xs → AllByRecursion P (filter t xs)
  all_filtered P t [] h = tt
  all_filtered P t (x ∷ xs) h = go (t x) (all_filtered P t xs h.1) where
    go : (b : Bool) → AllByRecursion P (filter t xs) → AllByRecursion P (cond b (x ∷ filter t xs) (filter t xs))
    go true later = (h.0, later)
    go false later = later

  pub all_both : (P Q R : A → Type 0) → ((x : A) → P x → Q x → R x) → (xs : List A) → AllByRecursion P xs → AllByRecursion Q xs →
      AllByRecursion R xs
  all_both P Q R f [] h k = tt
  all_both P Q R f (x ∷ xs) h k = (f x h.0 k.0, all_both P Q R f xs h.1 k.1)

-- ---- calls

abbrev pub HaveProgress : (ProgressValue → Type 0) → Calls → Type 0
HaveProgress P calls = AllByRecursion (λ (c : CallId × CallValue). P c.1.progress) calls

with_progress : (P : ProgressValue → Type 0) (id : CallId) (call : CallValue) (calls : Calls) → P call.progress → HaveProgress P calls →
    HaveProgress P (with_call id call calls)
with_progress P id call [] p h = (p, tt)
with_progress P id call (c ∷ cs) p h = go (same_call id c.0) (with_progress P id call cs p h.1) where
  go : (b : Bool) → HaveProgress P (with_call id call cs) → HaveProgress P (cond b ((c.0, call) ∷ cs) (c ∷ with_call id call cs))
  go true later = (p, h.1)
  go false later = (h.0, later)

pub without_progress : (P : ProgressValue → Type 0) (id : CallId) (calls : Calls) → HaveProgress P calls →
    HaveProgress P (without_call id calls)
without_progress P id [] h = tt
without_progress P id (c ∷ cs) h = go (same_call id c.0) (without_progress P id cs h.1) where
  go : (b : Bool) → HaveProgress P (without_call id cs) → HaveProgress P (cond b cs (c ∷ without_call id cs))
  go true later = h.1
  go false later = (h.0, later)

-- a call on the connection is not among the others
first_of : (a b : Bool) → (a && b) ≡ true → a ≡ true
first_of true b h = refl
first_of false b h = absurd (let no : false ≡ true = h in cc)

here_by : (c n : ℕ) → n ≡ c → not (n == c) ≡ false
here_by c n h = go (n == c) refl where
  go : (b : Bool) → (n == c) ≡ b → not (n == c) ≡ false
  go true is = rw is refl
  go false is = absurd (eqb-false n c is h)

-- of the calls but those on the connection
none_here : (c : ℕ) (k : CallId × CallValue) (ks : Calls) → k.0.connection ≡ c → calls_apart c (k ∷ ks) ≡ calls_apart c ks
none_here c k ks h = ap (λ (b : Bool). cond b (k ∷ calls_apart c ks) (calls_apart c ks)) (here_by c k.0.connection h)

same_connection : (id : CallId) (k : CallId × CallValue) → same_call id k.0 ≡ true → k.0.connection ≡ id.connection
same_connection id k h = sym (eqb-true id.connection k.0.connection
    (first_of (id.connection == k.0.connection) (id.stream == k.0.stream) h))

with_at : (c : ℕ) (id : CallId) (call : CallValue) (k : CallId × CallValue) (ks : Calls) (b : Bool) → id.connection ≡ c →
    same_call id k.0 ≡ b → calls_apart c (with_call id call ks) ≡ calls_apart c ks
    → calls_apart c (cond b ((k.0, call) ∷ ks) (k ∷ with_call id call ks)) ≡ calls_apart c (k ∷ ks)
with_at c id call k ks true h is later =
    let there : k.0.connection ≡ c = same_connection id k is ∙ h in
    none_here c (k.0, call) ks there ∙ sym (none_here c k ks there)
with_at c id call k ks false h is later = ap (λ (xs : Calls). cond (is_apart c k) (k ∷ xs) xs) later

pub others_with : (c : ℕ) (id : CallId) (call : CallValue) (calls : Calls) → id.connection ≡ c →
    calls_apart c (with_call id call calls) ≡ calls_apart c calls
others_with c id call [] h = none_here c (id, call) [] h
others_with c id call (k ∷ ks) h = with_at c id call k ks (same_call id k.0) h refl (others_with c id call ks h)

apart_by : (P : ProgressValue → Type 0) (c : ℕ) (k : CallId × CallValue) (ks xs : Calls) (a b : Bool) →
    HaveProgress P (cond a (k ∷ calls_apart c ks) (calls_apart c ks)) →
    (HaveProgress P (calls_apart c ks) → HaveProgress P (calls_apart c xs))
    → is_apart c k ≡ a → HaveProgress P (calls_apart c (cond b ks (k ∷ xs)))
apart_by P c k ks xs true true h later is = h.1
apart_by P c k ks xs false true h later is = h
apart_by P c k ks xs true false h later is = rw is (h.0, later h.1)
apart_by P c k ks xs false false h later is = rw is (later h)

others_without : (P : ProgressValue → Type 0) (c : ℕ) (id : CallId) (calls : Calls) → HaveProgress P (calls_apart c calls) →
    HaveProgress P (calls_apart c (without_call id calls))
others_without P c id [] h = tt
others_without P c id (k ∷ ks) h = apart_by P c k ks (without_call id ks) (is_apart c k) (same_call id k.0) h
    (others_without P c id ks) refl

-- ---- numbers

given_more : (n : ℕ) (p : ProgressValue) → IsGiven n p → IsGiven (n + 1) p
given_more n waits h = tt
given_more n (has request) h = tt
given_more n (writes write) h = tt
given_more n (watches m) h = omega (arith, h)

module _ {J : Type 0} where
  -- a number that was given is not that of a new job
  not_last : (n next : ℕ) (job : J) (ws : List (ℕ × J)) → n < next → is_some (lookup (same_number n) ws) ≡ false →
      is_some (lookup (same_number n) (ws ++ (next, job) ∷ [])) ≡ false
  not_last n next job [] less h = go (same_number n next) refl where
    go : (b : Bool) → same_number n next ≡ b → is_some (lookup (same_number n) ((next, job) ∷ [])) ≡ false
    go true is = absurd (let same = eqb-true n next is in let no : n < n = subst (λ (m : ℕ). n < m) (sym same) less in omega (arith, no))
    go false is = rw is refl
  not_last n next job (w ∷ ws) less h = go (same_number n w.0) refl (λ later. not_last n next job ws less later) where
    go : (b : Bool) → same_number n w.0 ≡ b → (is_some (lookup (same_number n) ws) ≡ false →
        is_some (lookup (same_number n) (ws ++ (next, job) ∷ [])) ≡ false)
        → is_some (lookup (same_number n) (w ∷ (ws ++ (next, job) ∷ []))) ≡ false
    go true is later = absurd (let found : true ≡ false = rw is at h in cc)
    go false is later = rw is (later (rw is at h))

  pub still_waits : (next : ℕ) (job : J) (ws : List (ℕ × J)) (p : ProgressValue) → IsGiven next p → waits_for ws p ≡ false →
      waits_for (ws ++ (next, job) ∷ []) p ≡ false
  still_waits next job ws waits g h = refl
  still_waits next job ws (has request) g h = refl
  still_waits next job ws (writes write) g h = refl
  still_waits next job ws (watches n) g h = not_last n next job ws g h

  -- each number is below the next
  abbrev pub AreBelow : ℕ → List (ℕ × J) → Type 0
  AreBelow next es = AllByRecursion (λ (e : ℕ × J). e.0 < next) es

  pub found_below : (next n : ℕ) (x : J) (es : List (ℕ × J)) → AreBelow next es → lookup (same_number n) es ≡ Some x → n < next
  found_below next n x [] h is = absurd (let no : None ≡ Some x = is in cc)
  found_below next n x (e ∷ es) h is = go (same_number n e.0) refl (λ later. found_below next n x es h.1 later) where
    go : (b : Bool) → same_number n e.0 ≡ b → (lookup (same_number n) es ≡ Some x → n < next) → n < next
    go true here later = subst (λ (m : ℕ). m < next) (sym (eqb-true n e.0 here)) h.0
    go false here later = later (rw here at is)

  keys_below : (next : ℕ) (es : List (ℕ × J)) (ys : List ℕ) → AllByRecursion (λ n. n < next) (keys_of es ++ ys) →
      AreBelow next es × AllByRecursion (λ n. n < next) ys
  keys_below next [] ys h = (tt, h)
  keys_below next (e ∷ es) ys h = let more = keys_below next es ys h.1 in ((h.0, more.0), more.1)

  only_keys : (next : ℕ) (es : List (ℕ × J)) → AllByRecursion (λ n. n < next) (keys_of es) → AreBelow next es
  only_keys next [] h = tt
  only_keys next (e ∷ es) h = (h.0, only_keys next es h.1)

  below_more : (next : ℕ) (es : List (ℕ × J)) → AreBelow next es → AreBelow (next + 1) es
  below_more next [] h = tt
  below_more next (e ∷ es) h = (omega (arith, h.0), below_more next es h.1)

-- jobs that run or wait have numbers that were given
pub record AreOpenGiven (jobs : Jobs JobValue) : Type 0 where
  pub waiting : AreBelow jobs.next jobs.waiting
  pub running : AreBelow jobs.next jobs.running

pub open_given : (jobs : Jobs JobValue) → AreJobs jobs → AreOpenGiven jobs
open_given jobs h =
    let both = keys_below jobs.next jobs.running (keys_of jobs.waiting) h.given in
    record { waiting = only_keys jobs.next jobs.waiting both.1; running = both.0 }

-- ---- one change

-- in the course of events on connection c
pub record IsWatched (c : ℕ) (s : InstanceState) : Type 0 where
  pub numbers : AreOpenGiven s.jobs
  pub during : WatchDuring c s

-- what a call on connection c may do to the instance
abbrev MayCome : ℕ → InstanceState → InstanceChange → Type 0
MayCome c s (Goes id call) = (id.connection ≡ c) × IsGiven s.jobs.next call.progress
MayCome c s (Settles steps) = ⊥
MayCome c s (Text t) = Unit {0}
MayCome c s (Ends id) = Unit {0}
MayCome c s (Wrote w) = Unit {0}
MayCome c s (Keeps results) = Unit {0}
MayCome c s Expires = Unit {0}
MayCome c s (Does operation) = Unit {0}
MayCome c s (Pushes job) = Unit {0}

abbrev MayAllCome : ℕ → InstanceState → List InstanceChange → Type 0
MayAllCome c s [] = Unit {0}
MayAllCome c s (x ∷ xs) = MayCome c s x × MayAllCome c (state_after_change x s) xs

numbered_more : (jobs : Jobs JobValue) (calls : Calls) → HaveProgress (IsGiven jobs.next) calls →
    HaveProgress (IsGiven (jobs.next + 1)) calls
numbered_more jobs calls h = all-weaker (λ (c : CallId × CallValue). IsGiven jobs.next c.1.progress)
    (λ (c : CallId × CallValue). IsGiven (jobs.next + 1) c.1.progress) (λ c. given_more jobs.next c.1.progress) calls h

busy_with : (slots : ℕ) (job : JobValue) (jobs : Jobs JobValue) (others : Calls) → HaveProgress (IsGiven jobs.next) others →
    (slots ≤ length jobs.running) ⊎ HaveProgress (λ p. waits_for jobs.waiting p ≡ false) others
    → (slots ≤ length jobs.running) ⊎ HaveProgress (λ p. waits_for (jobs.waiting ++ (jobs.next, job) ∷ []) p ≡ false) others
busy_with slots job jobs others given (inl full) = inl full
busy_with slots job jobs others given (inr none) =
    inr (all_both (λ (c : CallId × CallValue). IsGiven jobs.next c.1.progress)
    (λ (c : CallId × CallValue). waits_for jobs.waiting c.1.progress ≡ false)
    (λ (c : CallId × CallValue). waits_for (jobs.waiting ++ (jobs.next, job) ∷ []) c.1.progress ≡ false)
    (λ k. still_waits jobs.next job jobs.waiting k.1.progress) others given none)

busy_of : {B X Y : Type 0} → (X → Y) → B ⊎ X → B ⊎ Y
busy_of f (inl b) = inl b
busy_of f (inr x) = inr (f x)

change_watched : (c : ℕ) (x : InstanceChange) (s : InstanceState) → MayCome c s x → IsWatched c s → IsWatched c (state_after_change x s)
change_watched c (Text t) s m h = record { numbers = h.numbers; during = record { given = h.during.given; busy = h.during.busy } }
change_watched c (Wrote w) s m h = record { numbers = h.numbers; during = record { given = h.during.given; busy = h.during.busy } }
change_watched c (Keeps results) s m h = record { numbers = h.numbers; during = record { given = h.during.given; busy = h.during.busy } }
change_watched c Expires s m h = record { numbers = h.numbers; during = record { given = h.during.given; busy = h.during.busy } }
change_watched c (Goes id call) s m h = record {
  numbers = h.numbers;
  during = record {
    given = with_progress (IsGiven s.jobs.next) id call s.calls m.1 h.during.given;
    busy = busy_of (λ none. subst (λ (calls : Calls). HaveProgress (λ p. waits_for s.jobs.waiting p ≡ false) calls)
        (sym (others_with c id call s.calls m.0)) none) h.during.busy;
  };
}
change_watched c (Ends id) s m h = record {
  numbers = h.numbers;
  during = record {
    given = without_progress (IsGiven s.jobs.next) id s.calls h.during.given;
    busy = busy_of (λ none. others_without (λ p. waits_for s.jobs.waiting p ≡ false) c id s.calls none) h.during.busy;
  };
}
change_watched c (Does operation) s m h = record {
  numbers = record {
    waiting = below_more s.jobs.next s.jobs.waiting h.numbers.waiting;
    running =
        below_more s.jobs.next s.jobs.running h.numbers.running;
  };
  during = record { given = numbered_more s.jobs s.calls h.during.given; busy = h.during.busy };
}
change_watched c (Pushes job) s m h = record {
  numbers = record {
    waiting = all-append (λ (w : ℕ × JobValue). w.0 < s.jobs.next + 1) s.jobs.waiting ((s.jobs.next, job) ∷ [])
        (below_more s.jobs.next s.jobs.waiting h.numbers.waiting) (omega arith, tt);
    running = below_more s.jobs.next s.jobs.running h.numbers.running;
  };
  during = record {
    given = numbered_more s.jobs s.calls h.during.given;
    busy = busy_with s.slots job s.jobs (calls_apart c s.calls)
        (all_filtered (λ (k : CallId × CallValue). IsGiven s.jobs.next k.1.progress) (is_apart c) s.calls h.during.given) h.during.busy;
  };
}
change_watched c (Settles steps) s m h = absurd m

front_watched : (c : ℕ) (made left : List InstanceChange) (s : InstanceState) → MayAllCome c s (made ++ left) → IsWatched c s →
    IsWatched c (state_after_changes made s)
front_watched c [] left s m h = h
front_watched c (x ∷ made) left s m h = front_watched c made left (state_after_change x s) m.1 (change_watched c x s m.0 h)

-- ---- the changes of an event

-- changes that leave jobs as they are, and begin no call
abbrev IsQuiet : InstanceChange → Type 0
IsQuiet (Text t) = Unit {0}
IsQuiet (Ends id) = Unit {0}
IsQuiet (Wrote w) = Unit {0}
IsQuiet (Keeps results) = Unit {0}
IsQuiet Expires = Unit {0}
IsQuiet (Goes id call) = ⊥
IsQuiet (Settles steps) = ⊥
IsQuiet (Does operation) = ⊥
IsQuiet (Pushes job) = ⊥

abbrev AreQuiet : List InstanceChange → Type 0
AreQuiet xs = AllByRecursion IsQuiet xs

quiet_then : (c : ℕ) (s : InstanceState) (xs ys : List InstanceChange) → AreQuiet xs →
    ((t : InstanceState) → t.jobs ≡ s.jobs → MayAllCome c t ys) → MayAllCome c s (xs ++ ys)
quiet_then c s [] ys q then = then s refl
quiet_then c s (Text t ∷ xs) ys q then = (tt, quiet_then c (state_after_change (Text t) s) xs ys q.1 then)
quiet_then c s (Ends id ∷ xs) ys q then = (tt, quiet_then c (state_after_change (Ends id) s) xs ys q.1 then)
quiet_then c s (Wrote w ∷ xs) ys q then = (tt, quiet_then c (state_after_change (Wrote w) s) xs ys q.1 then)
quiet_then c s (Keeps results ∷ xs) ys q then = (tt, quiet_then c (state_after_change (Keeps results) s) xs ys q.1 then)
quiet_then c s (Expires ∷ xs) ys q then = (tt, quiet_then c (state_after_change Expires s) xs ys q.1 then)
quiet_then c s (Goes id call ∷ xs) ys q then = absurd q.0
quiet_then c s (Settles steps ∷ xs) ys q then = absurd q.0
quiet_then c s (Does operation ∷ xs) ys q then = absurd q.0
quiet_then c s (Pushes job ∷ xs) ys q then = absurd q.0

texts_quiet : (ts : List Texts.TextChange) → AreQuiet (map Text ts)
texts_quiet [] = tt
texts_quiet (t ∷ ts) = (tt, texts_quiet ts)

-- ---- a Write

first_quiet : (s : InstanceState) (bytes : List ℕ) → AreQuiet (first_changes s bytes)
first_quiet s bytes = go (first_asked s.name bytes) where
  seen_or_not : (asked : FirstAsked) (b : Bool) →
      AreQuiet (cond b (Text (Texts.Use asked.part.key.digest) ∷ []) (part_changes true s asked.part))
  seen_or_not asked true = (tt, tt)
  seen_or_not asked false = (tt, (tt, tt))

  go : (r : Result FirstAsked Refusal) → AreQuiet (changes_asked (first_part_changes s) r)
  go (Ok asked) = seen_or_not asked (is_some (visible_text asked.part.key.digest s.visible))
  go (Err refusal) = tt

next_quiet : (s : InstanceState) (write : OpenWriteValue) (bytes : List ℕ) → AreQuiet (next_changes s write bytes)
next_quiet s write bytes = go (next_asked write bytes) where
  go : (r : Result PartValue Refusal) → AreQuiet (changes_asked (part_changes false s) r)
  go (Ok part) = (tt, (tt, tt))
  go (Err refusal) = tt

first_come : (c : ℕ) (s : InstanceState) (id : CallId) (method : Method) (xs : List InstanceChange) (r : Result WrittenValue Refusal) →
    id.connection ≡ c → AreQuiet xs → MayAllCome c s (first_write_answer id method xs r).changes
first_come c s id method xs (Ok (Writing.Goes write)) h q =
    quiet_then c s xs (Goes id (record { method = method; progress = writes write }) ∷ []) q (λ t same. ((h, tt), tt))
first_come c s id method xs (Ok (Writing.Answered reply)) h q = quiet_then c s xs (Ends id ∷ []) q (λ t same. (tt, tt))
first_come c s id method xs (Err refusal) h q = quiet_then c s xs (Ends id ∷ []) q (λ t same. (tt, tt))

quiet_come : (c : ℕ) (s : InstanceState) (xs : List InstanceChange) → AreQuiet xs → MayAllCome c s xs
quiet_come c s [] q = tt
quiet_come c s (Text t ∷ xs) q = (tt, quiet_come c (state_after_change (Text t) s) xs q.1)
quiet_come c s (Ends id ∷ xs) q = (tt, quiet_come c (state_after_change (Ends id) s) xs q.1)
quiet_come c s (Wrote w ∷ xs) q = (tt, quiet_come c (state_after_change (Wrote w) s) xs q.1)
quiet_come c s (Keeps results ∷ xs) q = (tt, quiet_come c (state_after_change (Keeps results) s) xs q.1)
quiet_come c s (Expires ∷ xs) q = (tt, quiet_come c (state_after_change Expires s) xs q.1)
quiet_come c s (Goes id call ∷ xs) q = absurd q.0
quiet_come c s (Settles steps ∷ xs) q = absurd q.0
quiet_come c s (Does operation ∷ xs) q = absurd q.0
quiet_come c s (Pushes job ∷ xs) q = absurd q.0

next_come : (c : ℕ) (s : InstanceState) (id : CallId) (xs : List InstanceChange) (r : Result (Option (List ℕ)) Refusal) → AreQuiet xs →
    MayAllCome c s (next_write_answer id xs r).changes
next_come c s id xs (Ok None) q = quiet_come c s xs q
next_come c s id xs (Ok (Some reply)) q = quiet_then c s xs (Ends id ∷ []) q (λ t same. (tt, tt))
next_come c s id xs (Err refusal) q = quiet_then c s xs (Ends id ∷ []) q (λ t same. (tt, tt))

-- ---- messages, and what is none

first_message_come : (c : ℕ) (s : InstanceState) (id : CallId) (method : Method) (bytes : List ℕ) → id.connection ≡ c →
    MayAllCome c s (first_message_answer s id method bytes).changes
first_message_come c s id Called.Write bytes h =
    first_come c s id Called.Write (first_changes s bytes) (first_outcome s bytes) h (first_quiet s bytes)
first_message_come c s id method bytes h = ((h, tt), tt)

by_progress_come : (c : ℕ) (s : InstanceState) (id : CallId) (method : Method) (bytes : List ℕ) (p : ProgressValue) → id.connection ≡ c →
    MayAllCome c s (answer_by_progress s id method bytes p).changes
by_progress_come c s id method bytes waits h = first_message_come c s id method bytes h
by_progress_come c s id method bytes (has first) h = (tt, tt)
by_progress_come c s id method bytes (writes write) h =
    next_come c s id (next_changes s write bytes) (next_outcome s write bytes) (next_quiet s write bytes)
by_progress_come c s id method bytes (watches n) h = tt

message_come : (c : ℕ) (s : InstanceState) (id : CallId) (bytes : List ℕ) (o : Option CallValue) → id.connection ≡ c →
    MayAllCome c s (message_answer s id bytes o).changes
message_come c s id bytes None h = tt
message_come c s id bytes (Some call) h = by_progress_come c s id call.method bytes call.progress h

head_come : (c : ℕ) (s : InstanceState) (id : CallId) (method : Method) (o : Option CallValue) → id.connection ≡ c →
    MayAllCome c s (head_answer id method o).changes
head_come c s id method (Some call) h = tt
head_come c s id method None h = ((h, tt), tt)

fault_come : (c : ℕ) (s : InstanceState) (id : CallId) (refusal : Refusal) (o : Option CallValue) →
    MayAllCome c s (fault_answer id refusal o).changes
fault_come c s id refusal None = tt
fault_come c s id refusal (Some call) = go call.progress where
  go : (p : ProgressValue) → MayAllCome c s (fault_by_progress id refusal p).changes
  go waits = (tt, tt)
  go (has request) = (tt, tt)
  go (writes write) = (tt, tt)
  go (watches n) = tt

-- ---- ends of requests

-- a call watches a number that was given
abbrev AnswersGiven : ℕ → Result AnswerValue Refusal → Type 0
AnswersGiven next (Ok (watching n operation)) = n < next
AnswersGiven next (Ok (one_message bytes)) = Unit {0}
AnswersGiven next (Ok (messages list)) = Unit {0}
AnswersGiven next (Ok (range source)) = Unit {0}
AnswersGiven next (Err refusal) = Unit {0}

change_come : (c : ℕ) (s : InstanceState) (id : CallId) (method : Method) (r : Result AnswerValue Refusal) → id.connection ≡ c →
    AnswersGiven s.jobs.next r → MayAllCome c s (call_change id method r ∷ [])
change_come c s id method (Ok (watching n operation)) h g = ((h, g), tt)
change_come c s id method (Ok (one_message bytes)) h g = (tt, tt)
change_come c s id method (Ok (messages list)) h g = (tt, tt)
change_come c s id method (Ok (range source)) h g = (tt, tt)
change_come c s id method (Err refusal) h g = (tt, tt)

shaped_given : {X : Type 0} (next : ℕ) (shape : X → AnswerValue) (r : Result X Refusal) → ((x : X) → AnswersGiven next (Ok (shape x))) →
    AnswersGiven next (answering shape r)
shaped_given next shape (Ok x) g = g x
shaped_given next shape (Err refusal) g = tt

quiet_end : (c : ℕ) (s : InstanceState) (id : CallId) (method : Method) (xs : List InstanceChange) (r : Result AnswerValue Refusal) →
    id.connection ≡ c → AreQuiet xs → AnswersGiven s.jobs.next r → MayAllCome c s (xs ++ call_change id method r ∷ [])
quiet_end c s id method xs r h q g =
    quiet_then c s xs (call_change id method r ∷ []) q
    (λ t same. change_come c t id method r h (subst (λ (jobs : Jobs JobValue). AnswersGiven jobs.next r) (sym same) g))

-- an Execute
abbrev EndsWell : ℕ → List ExecuteChange → Result ExecuteAnswer Refusal → Type 0
EndsWell next [] a = AnswersGiven next (answering execute_answered a)
EndsWell next (Executor.Uses d ∷ xs) a = EndsWell next xs a
EndsWell next (Executor.Keeps results ∷ xs) a = EndsWell next xs a
EndsWell next (Executor.Does operation ∷ xs) a = EndsWell (next + 1) xs a
EndsWell next (Executor.Pushes job ∷ xs) a = EndsWell (next + 1) xs a

done_come : (c : ℕ) (s : InstanceState) (id : CallId) (xs : List ExecuteChange) (a : Result ExecuteAnswer Refusal) → id.connection ≡ c →
    EndsWell s.jobs.next xs a
    → MayAllCome c s (map execution_change xs ++ call_change id Called.Execute (answering execute_answered a) ∷ [])
done_come c s id [] a h w = change_come c s id Called.Execute (answering execute_answered a) h w
done_come c s id (Executor.Uses d ∷ xs) a h w = (tt, done_come c (state_after_change (Text (Texts.Use d)) s) id xs a h w)
done_come c s id (Executor.Keeps results ∷ xs) a h w = (tt, done_come c (state_after_change (Keeps results) s) id xs a h w)
done_come c s id (Executor.Does operation ∷ xs) a h w = (tt, done_come c (state_after_change (Does operation) s) id xs a h w)
done_come c s id (Executor.Pushes job ∷ xs) a h w = (tt, done_come c (state_after_change (Pushes job) s) id xs a h w)

uses_well : (next : ℕ) (ds : List Digest) (xs : List ExecuteChange) (a : Result ExecuteAnswer Refusal) → EndsWell next xs a →
    EndsWell next (map Executor.Uses ds ++ xs) a
uses_well next [] xs a w = w
uses_well next (d ∷ ds) xs a w = uses_well next ds xs a w

abbrev IsWellDone : ℕ → ExecuteDone → Type 0
IsWellDone next d = EndsWell next d.changes d.answer

either_well : (next : ℕ) (b : Bool) (x y : ExecuteDone) → IsWellDone next x → IsWellDone next y → IsWellDone next (cond b x y)
either_well next true x y w v = w
either_well next false x y w v = v

result_well : (s : ExecutionState) (d : Digest) (text : List ℕ) → IsWellDone s.jobs.next (by_result s d text)
result_well s d text = uses_well s.jobs.next (blobs_used (look_in s) d s.results) (Executor.Does _ ∷ []) (Ok (done _)) tt

pushes_well : (next : ℕ) (ds : List Digest) (job : JobValue) (text : List ℕ) →
    IsWellDone next (record { answer = Ok (queued next text); changes = map Executor.Uses ds ++ Executor.Pushes job ∷ [] })
pushes_well next ds job text = uses_well next ds (Executor.Pushes job ∷ []) (Ok (queued next text)) (omega arith)

job_well : (s : ExecutionState) (d : Digest) (p : PreparedValue) → IsWellDone s.jobs.next (by_job s d p)
job_well s d p =
    either_well s.jobs.next (nat_le MOST_WAITING (length s.jobs.waiting)) (Executor.refused _) _ tt
    (pushes_well s.jobs.next (met d p) (job_of (look_in s) d p) _)

preparing_well : (s : ExecutionState) (d : Digest) (r : Result PreparedValue FaultValue) → IsWellDone s.jobs.next (by_preparing s d r)
preparing_well s d (Err f) = tt
preparing_well s d (Ok p) = job_well s d p

looking_well : (s : ExecutionState) (d : Digest) (o : Option (List ℕ)) → IsWellDone s.jobs.next (by_looking s d o)
looking_well s d (Some text) = result_well s d text
looking_well s d None = preparing_well s d (prepared (look_in s) d)

execute_well : (slots : ℕ) (s : ExecutionState) (skip : Bool) (d : Digest) → IsWellDone s.jobs.next (execute slots s skip d)
execute_well slots s skip d =
    let found = by_looking s d (looked_up skip (look_in s) d s.results) in
    let open_one = either_well s.jobs.next (nat_lt LAST_NUMBER s.jobs.next) (Executor.refused _) found tt
    (looking_well s d (looked_up skip (look_in s) d s.results)) in
    either_well s.jobs.next (nat_eq slots 0) (Executor.refused _)
    (cond (nat_lt LAST_NUMBER s.jobs.next) (Executor.refused _) found) tt open_one

execute_come : (c : ℕ) (s : InstanceState) (id : CallId) (r : Result ExecuteAskedValue Refusal) → id.connection ≡ c
    → MayAllCome c s (execution_changes s r ++ call_change id Called.Execute
    (r >>= λ asked. answering execute_answered (executed s asked).answer) ∷ [])
execute_come c s id (Ok asked) h = done_come c s id (executed s asked).changes (executed s asked).answer h
    (execute_well s.slots (execution_state s) asked.skips_lookup asked.action)
execute_come c s id (Err refusal) h = (tt, tt)

-- a WaitExecution
stage_given : (n : ℕ) (jobs : Jobs JobValue) → AreOpenGiven jobs →
    AnswersGiven jobs.next (answering wait_answered (wait_answer n (stage_of n jobs)))
stage_given n jobs g = running (lookup (same_number n) jobs.running) refl where
  waiting : (o : Option JobValue) → lookup (same_number n) jobs.waiting ≡ o →
      AnswersGiven jobs.next (answering wait_answered
      (wait_answer n (or_else (option_map Stage.waits o) (option_map Stage.has_ended (lookup (same_number n) jobs.ended)))))
  waiting (Some job) is = found_below jobs.next n job jobs.waiting g.waiting is
  waiting None is = ended (lookup (same_number n) jobs.ended) where
    ended : (o : Option (List ℕ)) → AnswersGiven jobs.next (answering wait_answered (wait_answer n (option_map Stage.has_ended o)))
    ended (Some operation) = tt
    ended None = tt

  running : (o : Option (Running JobValue)) → lookup (same_number n) jobs.running ≡ o
      → AnswersGiven jobs.next (answering wait_answered
      (wait_answer n (or_else (option_map Stage.runs o)
      (or_else (option_map Stage.waits (lookup (same_number n) jobs.waiting))
      (option_map Stage.has_ended (lookup (same_number n) jobs.ended))))))
  running (Some r) is = found_below jobs.next n r jobs.running g.running is
  running None is = waiting (lookup (same_number n) jobs.waiting) refl

wait_given : (jobs : Jobs JobValue) (r : Result (List ℕ) Refusal) → AreOpenGiven jobs →
    AnswersGiven jobs.next (r >>= λ name. answering wait_answered (wait name jobs))
wait_given jobs (Err refusal) g = tt
wait_given jobs (Ok name) g = go (number_named name) where
  go : (o : Option ℕ) → AnswersGiven jobs.next (answering wait_answered (wait_for o jobs))
  go None = tt
  go (Some n) = stage_given n jobs g

request_come : (c : ℕ) (s : InstanceState) (id : CallId) (method : Method) (request : List ℕ) → id.connection ≡ c → AreOpenGiven s.jobs
    → MayAllCome c s (request_changes method s request ++ call_change id method (answer_to method s request) ∷ [])
request_come c s id Called.FindMissingBlobs request h g =
    quiet_end c s id Called.FindMissingBlobs (request_changes Called.FindMissingBlobs s request)
    (answer_to Called.FindMissingBlobs s request) h (texts_quiet _) (shaped_given s.jobs.next one_message _ (λ x. tt))
request_come c s id Called.BatchUpdateBlobs request h g =
    quiet_end c s id Called.BatchUpdateBlobs (request_changes Called.BatchUpdateBlobs s request)
    (answer_to Called.BatchUpdateBlobs s request) h (texts_quiet _) (shaped_given s.jobs.next one_message _ (λ x. tt))
request_come c s id Called.BatchReadBlobs request h g =
    quiet_end c s id Called.BatchReadBlobs (request_changes Called.BatchReadBlobs s request) (answer_to Called.BatchReadBlobs s request) h
    (texts_quiet _) (shaped_given s.jobs.next one_message _ (λ x. tt))
request_come c s id Called.GetTree request h g =
    quiet_end c s id Called.GetTree (request_changes Called.GetTree s request) (answer_to Called.GetTree s request) h (texts_quiet _)
    (shaped_given s.jobs.next messages _ (λ x. tt))
request_come c s id Called.GetActionResult request h g =
    quiet_end c s id Called.GetActionResult (request_changes Called.GetActionResult s request)
    (answer_to Called.GetActionResult s request) h (tt, texts_quiet _) (shaped_given s.jobs.next one_message _ (λ x. tt))
request_come c s id Called.UpdateActionResult request h g =
    quiet_end c s id Called.UpdateActionResult (request_changes Called.UpdateActionResult s request)
    (answer_to Called.UpdateActionResult s request) h (tt, tt) (shaped_given s.jobs.next one_message _ (λ x. tt))
request_come c s id Called.GetCapabilities request h g =
    quiet_end c s id Called.GetCapabilities [] (answer_to Called.GetCapabilities s request) h tt
    (shaped_given s.jobs.next one_message _ (λ x. tt))
request_come c s id Called.Read request h g = quiet_end c s id Called.Read (request_changes Called.Read s request)
    (answer_to Called.Read s request) h (texts_quiet _) (shaped_given s.jobs.next range _ (λ x. tt))
request_come c s id Called.QueryWriteStatus request h g =
    quiet_end c s id Called.QueryWriteStatus [] (answer_to Called.QueryWriteStatus s request) h tt
    (shaped_given s.jobs.next one_message _ (λ x. tt))
request_come c s id Called.Execute request h g = execute_come c s id (execute_asked s.name request) h
request_come c s id Called.WaitExecution request h g =
    quiet_end c s id Called.WaitExecution [] (answer_to Called.WaitExecution s request) h tt (wait_given s.jobs (name_asked request) g)
request_come c s id method request h g = (tt, tt)

end_come : (c : ℕ) (s : InstanceState) (id : CallId) (o : Option CallValue) → id.connection ≡ c → AreOpenGiven s.jobs →
    MayAllCome c s (request_end_answer s id o).changes
end_come c s id None h g = tt
end_come c s id (Some call) h g = go call.progress where
  go : (p : ProgressValue) → MayAllCome c s (end_answer_by_progress s id call.method p).changes
  go waits = (tt, tt)
  go (has request) = request_come c s id call.method request h g
  go (writes write) = (tt, tt)
  go (watches n) = tt

event_come : (c : ℕ) (s : InstanceState) (event : CallEventValue) → IsCallOn c event → AreOpenGiven s.jobs →
    MayAllCome c s (answer s event).changes
event_come c s (head id method) on g = head_come c s id method (call_at id s.calls) on
event_come c s (message id bytes) on g = message_come c s id bytes (call_at id s.calls) on
event_come c s (fault id refusal) on g = fault_come c s id refusal (call_at id s.calls)
event_come c s (end id) on g = end_come c s id (call_at id s.calls) on g
event_come c s (cancel id) on g = (tt, tt)
event_come c s tick on g = (tt, tt)
event_come c s start_jobs on g = absurd on
event_come c s end_late_jobs on g = absurd on
event_come c s (end_job n outcome) on g = absurd on

-- a front of the changes of an event on connection c was made
pub made_watched : (c : ℕ) (s t : InstanceState) (event : CallEventValue) → IsCallOn c event → MadeInPart (answer s event).changes s t →
    IsWatched c s → IsWatched c t
made_watched c s t event on made h =
    let all : MayAllCome c s (made.made ++ made.left) =
    subst (λ (xs : List InstanceChange). MayAllCome c s xs) made.front (event_come c s event on h.numbers) in
    subst (IsWatched c) (sym made.so_far) (front_watched c made.made made.left s all h)

pub event_watched : (c : ℕ) (s : InstanceState) (event : CallEventValue) → IsCallOn c event → IsWatched c s →
    IsWatched c (state_after s event)
event_watched c s event on h =
    let xs = (answer s event).changes in
    front_watched c xs [] s (subst (λ (ys : List InstanceChange). MayAllCome c s ys) (sym (nothing_more xs))
    (event_come c s event on h.numbers)) h where
      nothing_more : (ys : List InstanceChange) → ys ++ [] ≡ ys
      nothing_more [] = refl
      nothing_more (y ∷ ys) = ap (λ (zs : List InstanceChange). y ∷ zs) (nothing_more ys)
