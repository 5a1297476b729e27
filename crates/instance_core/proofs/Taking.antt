-- Jobs of an instance change in the pool that it shares, and nothing else of it does.
use Rattle.std.proofs.Common.{◌≡◌, ℕ, ◌+◌, ◌-◌, ◌*◌, ◌<◌, ◌≤◌, ◌^◌, List, [], ◌∷◌, length, Option, Result, Ok, Err, sym, ap, subst, ◌∙◌, arith}
use Rattle.std.specs.Prelude.{OnOk, OnErr}
use Rattle.std.specs.declared.alloc.AllocError.{AllocError}
use Rattle.std.proofs.lemmas.List.{length-map}
use Rattle.blob_pool.specs.Slots.{Slots, count_at}
use Rattle.blob_pool.specs.Moves.{Moves}
use Rattle.instance_view.specs.Visible.{Blob}
use Rattle.instance_view.specs.Shown.{visible_in, holders}
use Rattle.quota_evict.specs.Within.{AreBlobsWithin}
use Rattle.quota_evict.proofs.Steps.{entries_fit}
use Rattle.instance_view.proofs.Held.{shown_apart, holders-few}
use Rattle.job_queue.specs.Jobs.{Jobs, jobs_without, same_number}
use Rattle.job_queue.specs.Order.{AreJobs}
use Rattle.job_queue.specs.Sums.{waiting_sum, running_sum}
use Rattle.job_queue.specs.declared.queue.Running.{Running}
use Rattle.job_queue.proofs.Keeping.{after-forget}
use Rattle.job_queue.proofs.Orders.{length-without}
use Rattle.execution.specs.declared.job.Executions.{Executions}
use Rattle.execution.specs.declared.job.Job.{Job}
use Rattle.execution.specs.Job.{JobValue}
use Rattle.execution.specs.InPool.{job_holders, jobs_holders, jobs_in}
use Rattle.execution.specs.Keeping.{kept_entry, kept_entries}
use Rattle.execution.proofs.Calling.{jobs_same}
use Rattle.run_calls.specs.Outcomes.{OutcomeValue}
use Rattle.instance_core.specs.declared.contents.Contents.{Contents}
use Rattle.instance_core.specs.declared.contents.Settings.{Settings}
use Rattle.instance_core.specs.declared.turns.Turn.{Turn}
use Rattle.instance_core.specs.Answer.{ending_changes}
use Rattle.instance_core.specs.Calls.{Calls}
use Rattle.instance_core.specs.Changes.{InstanceChange, MadeInPart, state_after_changes}
use Rattle.instance_core.specs.Contents.{AreContentsInPool}
use Rattle.instance_core.specs.Jobs.{IsWholeJob}
use Rattle.instance_core.specs.Shown.{slots_of, ongoing_in, contents_state}
use Rattle.instance_core.specs.Slots.{InstanceSlots, state_in, holders_of_instance, IsInstanceInPool}
use Rattle.instance_core.specs.State.{InstanceState, IsInstanceWithin}
use Rattle.instance_limits.specs.Shown.{limits_value}
use Rattle.instance_core.proofs.JobLimits.{all_without}
use Rattle.instance_core.proofs.EventLimits.{ending_after_keeps, ending_front_keeps}

-- ---- other jobs and calls

abbrev pub with_queue : Jobs Job → Calls → InstanceSlots → InstanceSlots
with_queue queue calls i = record i { jobs = queue; calls = calls }

abbrev pub with_jobs : Jobs JobValue → Calls → InstanceState → InstanceState
with_jobs jobs calls s = record s { jobs = jobs; calls = calls }

pub jobs_become : (p q : Slots) (i : InstanceSlots) (queue : Jobs Job) (calls now : Calls) (jobs : Jobs JobValue) →
    ((k : ℕ) → holders_of_instance i k ≤ count_at p k)
    → Moves p q (jobs_holders i.jobs) (jobs_holders queue) → jobs_in q queue ≡ jobs → calls ≡ now →
    state_in q (with_queue queue calls i) ≡ with_jobs jobs now (state_in p i)
jobs_become p q i queue calls now jobs held moves is same =
    let texts : visible_in q i.view ≡ visible_in p i.view =
    shown_apart p q i.view.entries (jobs_holders i.jobs) (jobs_holders queue) moves (λ k. let a = held k in omega arith) in
    ap (λ (bs : List Blob). record (state_in q (with_queue queue calls i)) { visible = bs }) texts
    ∙ ap (λ (js : Jobs JobValue). with_jobs js calls (state_in p i)) is
    ∙ ap (λ (cs : Calls). with_jobs jobs cs (state_in p i)) same

-- ---- a job is forgotten

forgotten_within : (n : ℕ) (s : InstanceState) → IsInstanceWithin s → IsInstanceWithin (with_jobs (jobs_without n s.jobs) s.calls s)
forgotten_within n s w = record {
  quota = w.quota;
  limits = w.limits;
  texts = w.texts;
  uploads = w.uploads;
  results = w.results;
  slots = w.slots;
  jobs = after-forget n s.jobs w.jobs;
  running = let a = length-without (same_number n) s.jobs.running in let b = w.running in omega (arith, a, b);
  whole = record {
    waiting = w.whole.waiting;
    running =
        all_without (λ (r : ℕ × Running JobValue). IsWholeJob r.1.job) (same_number n) s.jobs.running w.whole.running;
  };
  told = w.told;
  calls = w.calls;
  messages = w.messages;
  parent = w.parent;
}

counted_still : (view before after here there : ℕ) → there + before ≡ here + after → view + before ≤ here → view + after ≤ there
counted_still view before after here there moved counted = omega arith

few_still : (view before after here there a b : ℕ) → there + before ≡ here + after → here < view + before + a + b →
    there < view + after + a + b
few_still view before after here there a b moved few = omega arith

pub forgotten_in_pool : (p q : Slots) (i : InstanceSlots) (queue : Jobs Job) (n : ℕ) → IsInstanceInPool p i
    → Moves p q (jobs_holders i.jobs) (jobs_holders queue) →
    state_in q (with_queue queue i.calls i) ≡ with_jobs (jobs_without n (state_in p i).jobs) i.calls (state_in p i) →
    IsInstanceInPool q (with_queue queue i.calls i)
forgotten_in_pool p q i queue n kept moves is = record {
  counted = λ k. counted_still (holders i.view k) (jobs_holders i.jobs k) (jobs_holders queue k) (count_at p k) (count_at q k)
      (moves.counts k) (kept.counted k);
  others = λ k. few_still (holders i.view k) (jobs_holders i.jobs k) (jobs_holders queue k) (count_at p k) (count_at q k) (2 ^ 125)
      (2 ^ 124) (moves.counts k) (kept.others k);
  within = subst IsInstanceWithin (sym is) (forgotten_within n (state_in p i) kept.within);
}

-- ---- how often jobs hold a slot

job_few : (job : Job) (k : ℕ) → job_holders job k ≤ 2 ^ 63
job_few job k =
    let entries = holders-few (kept_entries job.task.texts.items) k in
    let alike = length-map job.task.texts.items kept_entry in
    let ok = job.task.texts.ok in
    let small = job.task.texts.small in
    omega (arith, entries, alike, ok.0, ok.1, small)

waiting_most : (f : Job → ℕ) (most : ℕ) → ((job : Job) → f job ≤ most) → (ws : List (ℕ × Job)) → waiting_sum f ws ≤ length ws * most
waiting_most f most each [] = omega arith
waiting_most f most each (w ∷ ws) = let first = each w.1 in let later = waiting_most f most each ws in omega (arith, first, later)

running_most : (f : Job → ℕ) (most : ℕ) → ((job : Job) → f job ≤ most) → (rs : List (ℕ × Running Job)) → running_sum f rs ≤ length rs * most
running_most f most each [] = omega arith
running_most f most each (r ∷ rs) = let first = each r.1.job in let later = running_most f most each rs in omega (arith, first, later)

-- of so many jobs each holds it so often at most
times : (n few most : ℕ) → n ≤ few → n * most ≤ few * most
times n few most h =
    let more = few - n in
    let all : few ≡ n + more = omega arith in
    let both : (n + more) * most ≡ n * most + more * most = grind arith in
    rw all (omega (arith, both))

few_jobs : (waiting running w r most : ℕ) → w ≤ waiting * most → r ≤ running * most → waiting ≤ 1000 → running ≤ 64 → w + r ≤ 1064 * most
few_jobs waiting running w r most a b c d =
    let e = times waiting 1000 most c in
    let f = times running 64 most d in
    omega (arith, a, b, e, f)

pub jobs_few : (jobs : Jobs Job) → AreJobs jobs → (k : ℕ) → jobs_holders jobs k ≤ 1064 * 2 ^ 63
jobs_few jobs h k =
    few_jobs (length jobs.waiting) (length jobs.running) (waiting_sum (λ job. job_holders job k) jobs.waiting)
    (running_sum (λ job. job_holders job k) jobs.running) (2 ^ 63)
    (waiting_most (λ job. job_holders job k) (2 ^ 63) (λ job. job_few job k) jobs.waiting)
    (running_most (λ job. job_holders job k) (2 ^ 63) (λ job. job_few job k) jobs.running)
    h.few_waiting h.few_running

-- ---- the contents of an instance in a pool

view_counted : (view jobs here : ℕ) → view + jobs ≤ here → view ≤ here
view_counted view jobs here h = omega arith

view_others : (view jobs here : ℕ) → here < view + jobs + 2 ^ 125 + 2 ^ 124 → jobs ≤ 1064 * 2 ^ 63 → here < view + 2 ^ 126
view_others view jobs here h few = omega (arith, h, few)

pub contents_in_pool : (p : Slots) (settings : Settings) (contents : Contents) (calls : Calls) →
    contents.view.limit ≡ (limits_value settings.limits).blobs → AreJobs contents.executions.queue
    → IsInstanceInPool p (slots_of settings contents calls) → AreContentsInPool settings p contents
contents_in_pool p settings contents calls limit order kept = record {
  quota = kept.within.quota;
  limit = limit;
  kept = record {
    held = record {
      counted = λ k. view_counted (holders contents.view k) (jobs_holders contents.executions.queue k) (count_at p k) (kept.counted k);
      others = λ k. view_others (holders contents.view k) (jobs_holders contents.executions.queue k) (count_at p k) (kept.others k)
          (jobs_few contents.executions.queue order k);
    };
    within = subst (λ (n : ℕ). AreBlobsWithin n settings.quota (visible_in p contents.view)) (sym limit) kept.within.texts;
  };
  uploads = kept.within.uploads;
  results = kept.within.results;
}

enough : (count view jobs entries limit : ℕ) → count < view + jobs + 2 ^ 125 + 2 ^ 124 → jobs ≤ 1064 * 2 ^ 63 → view ≤ entries →
    entries ≤ limit → limit ≤ 2 ^ 31 → count + 2 ^ 64 < 2 ^ 127
enough count view jobs entries limit others few a b c = omega (arith, others, few, a, b, c)

-- there is room for as many holders more as a job can keep texts
pub room_left : (p : Slots) (settings : Settings) (contents : Contents) (calls : Calls) →
    contents.view.limit ≡ (limits_value settings.limits).blobs → AreJobs contents.executions.queue
    → IsInstanceInPool p (slots_of settings contents calls) → (k : ℕ) → count_at p k + 2 ^ 64 < 2 ^ 127
room_left p settings contents calls limit order kept k =
    enough (count_at p k) (holders contents.view k) (jobs_holders contents.executions.queue k)
    (length contents.view.entries) contents.view.limit (kept.others k) (jobs_few contents.executions.queue order k)
    (holders-few contents.view.entries k) (entries_fit settings.quota p contents.view
    (contents_in_pool p settings contents calls limit order kept).kept) (omega (arith, limit, kept.within.limits.few_blobs))

-- .. behind the outcome of a run its jobs are those that they were
pub ended_state : (p q : Slots) (settings : Settings) (old new : Contents) (calls : Calls) →
    ((k : ℕ) → holders old.view k + jobs_holders old.executions.queue k ≤ count_at p k)
    → Moves p q (holders old.view) (holders new.view) → new.executions ≡ old.executions →
    state_in q (slots_of settings new calls) ≡ contents_state settings q new (ongoing_in p old calls)
ended_state p q settings old new calls held moves same =
    let jobs : jobs_in q new.executions.queue ≡ jobs_in p old.executions.queue =
    ap (λ (e : Executions). jobs_in q e.queue) same
    ∙ jobs_same p q old.executions.queue (holders old.view) (holders new.view) held moves in
    ap (λ (js : Jobs JobValue). record (state_in q (slots_of settings new calls)) { jobs = js }) jobs

pub ended_whole : (r : Result Turn AllocError) (changes : List InstanceChange) (s t u : InstanceState) → t ≡ u →
    OnOk r (u ≡ state_after_changes changes s) → OnOk r (t ≡ state_after_changes changes s)
ended_whole (Ok turn) changes s t u same is = same ∙ is
ended_whole (Err e) changes s t u same is = tt

pub ended_front : (r : Result Turn AllocError) (changes : List InstanceChange) (s t u : InstanceState) → t ≡ u →
    OnErr r (MadeInPart changes s u) → OnErr r (MadeInPart changes s t)
ended_front (Ok turn) changes s t u same part = tt
ended_front (Err e) changes s t u same part = subst (MadeInPart changes s) (sym same) part

pub ended_within : (r : Result Turn AllocError) (s t : InstanceState) (outcome : OutcomeValue) (o : Option JobValue) → IsInstanceWithin s
    → OnOk r (t ≡ state_after_changes (ending_changes s outcome o) s) → OnErr r (MadeInPart (ending_changes s outcome o) s t) →
    IsInstanceWithin t
ended_within (Ok turn) s t outcome o w is part = subst IsInstanceWithin (sym is) (ending_after_keeps s outcome o w)
ended_within (Err e) s t outcome o w is part = ending_front_keeps s t outcome o w part
