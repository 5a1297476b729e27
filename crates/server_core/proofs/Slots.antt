-- The slots that instances hold: by the entries of their views, by their jobs, and by the ranges of
-- their connections.
use Rattle.std.proofs.Common.{◌≡◌, ℕ, ◌+◌, List, [], ◌∷◌, ◌++◌, map, refl, sym, ap, ◌∙◌, arith}
use Rattle.std.specs.List.{flat_map}
use Rattle.std.proofs.lemmas.List.{map-append}
use Rattle.blob_pool.specs.Slots.{Slots, text_at}
use Rattle.blob_pool.specs.Moves.{one_at}
use Rattle.job_queue.specs.Jobs.{Jobs}
use Rattle.job_queue.specs.Sums.{waiting_sum, running_sum}
use Rattle.job_queue.specs.declared.queue.Running.{Running}
use Rattle.execution.specs.declared.job.Job.{Job}
use Rattle.execution.specs.InPool.{job_holders, jobs_holders, jobs_in, running_in, waiting_in}
use Rattle.execution.specs.Job.{JobValue}
use Rattle.execution.specs.Keeping.{kept_entries}
use Rattle.served_instance.specs.Sources.{count_of}
use Rattle.instance_core.specs.InstanceViewShown.{ViewEntry, blobs_in, entry_holders}
use Rattle.served_instance.specs.Ranges.{sources_at}
use Rattle.served_instance.specs.Slots.{ServedSlots, served_state_in}
use Rattle.served_instance.proofs.Agreeing.{count_append}
use Rattle.server_core.specs.Shared.{all_in, all_holders}
use Rattle.server_core.specs.Stored.{texts_of, texts_of_jobs, own_texts, texts_of_all}

abbrev entry_slots : List ViewEntry → List ℕ
entry_slots [] = []
entry_slots (e ∷ es) = e.1 ∷ entry_slots es

-- those of a job's texts
abbrev job_slots : Job → List ℕ
job_slots job = entry_slots (kept_entries job.task.texts.items)

abbrev slots_of_waiting : List (ℕ × Job) → List ℕ
slots_of_waiting ws = flat_map (λ (w : ℕ × Job). job_slots w.1) ws

abbrev slots_of_running : List (ℕ × Running Job) → List ℕ
slots_of_running rs = flat_map (λ (r : ℕ × Running Job). job_slots r.1.job) rs

abbrev slots_of_jobs : Jobs Job → List ℕ
slots_of_jobs jobs = slots_of_waiting jobs.waiting ++ slots_of_running jobs.running

-- those of an instance, with repeats
abbrev slots_of : ServedSlots → List ℕ
slots_of x = entry_slots x.instance.view.entries ++ slots_of_jobs x.instance.jobs ++ sources_at x.connections

-- those of each instance
abbrev pub slots_of_all : List ServedSlots → List ℕ
slots_of_all [] = []
slots_of_all (x ∷ xs) = slots_of x ++ slots_of_all xs

entry_count : (es : List ViewEntry) (k : ℕ) → entry_holders es k ≡ count_of k (entry_slots es)
entry_count [] k = refl
entry_count (e ∷ es) k = ap (λ (n : ℕ). one_at e.1 k + n) (entry_count es k)

waiting_count : (ws : List (ℕ × Job)) (k : ℕ) → waiting_sum (λ job. job_holders job k) ws ≡ count_of k (slots_of_waiting ws)
waiting_count [] k = refl
waiting_count (w ∷ ws) k =
    let own = entry_count (kept_entries w.1.task.texts.items) k in
    let later = waiting_count ws k in
    let both = count_append k (job_slots w.1) (slots_of_waiting ws) in
    omega (arith, own, later, both)

running_count : (rs : List (ℕ × Running Job)) (k : ℕ) → running_sum (λ job. job_holders job k) rs ≡ count_of k (slots_of_running rs)
running_count [] k = refl
running_count (r ∷ rs) k =
    let own = entry_count (kept_entries r.1.job.task.texts.items) k in
    let later = running_count rs k in
    let both = count_append k (job_slots r.1.job) (slots_of_running rs) in
    omega (arith, own, later, both)

jobs_count : (jobs : Jobs Job) (k : ℕ) → jobs_holders jobs k ≡ count_of k (slots_of_jobs jobs)
jobs_count jobs k =
    let waiting = waiting_count jobs.waiting k in
    let running = running_count jobs.running k in
    let both = count_append k (slots_of_waiting jobs.waiting) (slots_of_running jobs.running) in
    omega (arith, waiting, running, both)

-- each slot is held as often as it stands there
pub holders_are : (xs : List ServedSlots) (k : ℕ) → all_holders xs k ≡ count_of k (slots_of_all xs)
holders_are [] k = refl
holders_are (x ∷ xs) k =
    let entries = entry_count x.instance.view.entries k in
    let jobs = jobs_count x.instance.jobs k in
    let kept = count_append k (entry_slots x.instance.view.entries) (slots_of_jobs x.instance.jobs) in
    let own = count_append k (entry_slots x.instance.view.entries ++ slots_of_jobs x.instance.jobs) (sources_at x.connections) in
    let all = count_append k (slots_of x) (slots_of_all xs) in
    let others = holders_are xs k in
    omega (arith, entries, jobs, kept, own, all, others)

-- ---- the texts that stand in them

entry_texts : (p : Slots) (es : List ViewEntry) → texts_of (blobs_in p es) ≡ map (text_at p) (entry_slots es)
entry_texts p [] = refl
entry_texts p (e ∷ es) = ap (λ (ts : List (List ℕ)). text_at p e.1 ∷ ts) (entry_texts p es)

waiting_texts : (p : Slots) (ws : List (ℕ × Job)) →
    flat_map (λ (w : ℕ × JobValue). texts_of w.1.task.texts) (map (waiting_in p) ws) ≡ map (text_at p) (slots_of_waiting ws)
waiting_texts p [] = refl
waiting_texts p (w ∷ ws) =
    let later = flat_map (λ (x : ℕ × JobValue). texts_of x.1.task.texts) (map (waiting_in p) ws) in
    ap (λ (ts : List (List ℕ)). ts ++ later) (entry_texts p (kept_entries w.1.task.texts.items))
    ∙ ap (λ (ts : List (List ℕ)). map (text_at p) (job_slots w.1) ++ ts) (waiting_texts p ws)
    ∙ sym (map-append (text_at p) (job_slots w.1) (slots_of_waiting ws))

running_texts : (p : Slots) (rs : List (ℕ × Running Job)) →
    flat_map (λ (r : ℕ × Running JobValue). texts_of r.1.job.task.texts) (map (running_in p) rs) ≡ map (text_at p) (slots_of_running rs)
running_texts p [] = refl
running_texts p (r ∷ rs) =
    let later = flat_map (λ (x : ℕ × Running JobValue). texts_of x.1.job.task.texts) (map (running_in p) rs) in
    ap (λ (ts : List (List ℕ)). ts ++ later) (entry_texts p (kept_entries r.1.job.task.texts.items))
    ∙ ap (λ (ts : List (List ℕ)). map (text_at p) (job_slots r.1.job) ++ ts) (running_texts p rs)
    ∙ sym (map-append (text_at p) (job_slots r.1.job) (slots_of_running rs))

jobs_texts : (p : Slots) (jobs : Jobs Job) → texts_of_jobs (jobs_in p jobs) ≡ map (text_at p) (slots_of_jobs jobs)
jobs_texts p jobs =
    let running = flat_map (λ (r : ℕ × Running JobValue). texts_of r.1.job.task.texts) (map (running_in p) jobs.running) in
    ap (λ (ts : List (List ℕ)). ts ++ running) (waiting_texts p jobs.waiting)
    ∙ ap (λ (ts : List (List ℕ)). map (text_at p) (slots_of_waiting jobs.waiting) ++ ts) (running_texts p jobs.running)
    ∙ sym (map-append (text_at p) (slots_of_waiting jobs.waiting) (slots_of_running jobs.running))

own_are : (p : Slots) (x : ServedSlots) → own_texts (served_state_in p x) ≡ map (text_at p) (slots_of x)
own_are p x =
    let entries = entry_slots x.instance.view.entries in
    let jobs = slots_of_jobs x.instance.jobs in
    let ranges = map (text_at p) (sources_at x.connections) in
    ap (λ (ts : List (List ℕ)). (ts ++ texts_of_jobs (jobs_in p x.instance.jobs)) ++ ranges) (entry_texts p x.instance.view.entries)
    ∙ ap (λ (ts : List (List ℕ)). (map (text_at p) entries ++ ts) ++ ranges) (jobs_texts p x.instance.jobs)
    ∙ ap (λ (ts : List (List ℕ)). ts ++ ranges) (sym (map-append (text_at p) entries jobs))
    ∙ sym (map-append (text_at p) (entries ++ jobs) (sources_at x.connections))

-- and the texts are those that stand in them
pub texts_are : (p : Slots) (xs : List ServedSlots) → texts_of_all (all_in p xs) ≡ map (text_at p) (slots_of_all xs)
texts_are p [] = refl
texts_are p (x ∷ xs) =
    ap (λ (ts : List (List ℕ)). own_texts (served_state_in p x) ++ ts) (texts_are p xs)
    ∙ ap (λ (ts : List (List ℕ)). ts ++ map (text_at p) (slots_of_all xs)) (own_are p x)
    ∙ sym (map-append (text_at p) (slots_of x) (slots_of_all xs))
