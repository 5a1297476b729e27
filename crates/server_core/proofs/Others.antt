-- What one instance does in the pool, and what the others find there.
use Rattle.std.proofs.Common.{◌≡◌, ◌≢◌, ℕ, zero, suc, ◌+◌, ◌*◌, ◌<◌, ◌≤◌, ◌^◌, List, [], ◌∷◌, length, map, refl, sym, ap, subst, ◌∙◌, arith, inl, inr}
use Rattle.std.specs.Prelude.{◌⊎◌, ◌==◌, true, cond, Option, Some, None, Result, Ok, Err, IfErr, IfSome}
use Rattle.std.specs.Option.{option_map}
use Rattle.std.specs.List.{slice_get, AllByRecursion}
use Rattle.std.proofs.Math.ListN.{set}
use Rattle.std.proofs.lemmas.Bool.{cases_eq}
use Rattle.std.proofs.lemmas.Bool.Decides.{nat_tests}
use Rattle.std.proofs.Math.Nat.{mul-le-mul_right}
use Rattle.std.proofs.lemmas.List.{length-set, length-map}
use Rattle.std.proofs.lemmas.Option.{slice_get-map, slice_get_within, same_Some}
use Rattle.std.specs.declared.alloc.Global.{Global}
use Rattle.std.specs.declared.vec.Vec.{Vec}
use Rattle.blob_pool.specs.Slots.{Slots, text_at}
use Rattle.blob_pool.specs.Moves.{Moves}
use Rattle.served_instance.specs.Sources.{count_of}
use Rattle.served_instance.specs.StoredSending.{SourceTexts, AgreeOn, sources_of}
use Rattle.job_queue.specs.Jobs.{Jobs}
use Rattle.job_queue.specs.Order.{AreJobs}
use Rattle.job_queue.specs.Sums.{waiting_sum, running_sum}
use Rattle.job_queue.specs.declared.queue.Running.{Running}
use Rattle.job_queue.specs.declared.queue.TheConstants.{MOST_RUNNING, MOST_WAITING}
use Rattle.execution.specs.declared.job.Job.{Job}
use Rattle.execution.specs.declared.orders.Order.{Order}
use Rattle.execution.specs.InPool.{job_holders, jobs_holders, jobs_in, running_in, waiting_in}
use Rattle.execution.specs.Job.{JobValue}
use Rattle.execution.specs.Keeping.{kept_entries, kept_entry}
use Rattle.execution.specs.Orders.{OrderValue}
use Rattle.execution.proofs.Calling.{jobs_same}
use Rattle.instance_core.specs.Slots.{state_in}
use Rattle.instance_core.specs.Turns.{AreOrders}
use Rattle.instance_core.specs.Visible.{Blob}
use Rattle.instance_core.specs.Naming.{Names}
use Rattle.instance_view.specs.Shown.{ViewValue, ViewEntry, blobs_in, holders, entry_holders}
use Rattle.instance_core.proofs.Held.{shown_same, holders-few}
use Rattle.instance_core.proofs.Steps.{length-visible_in}
use Rattle.served_instance.specs.declared.refusal.EventRefusal.{EventRefusal}
use Rattle.served_instance.specs.declared.refusal.EventRefusal.TheVariants.{NoMemory}
use Rattle.served_instance.specs.Lone.{LoneInstance}
use Rattle.served_instance.specs.Connections.{open_ones}
use Rattle.served_instance.specs.StandsFor.{ServedConnection, SeenConnection, ServedState, IsServedInstance, IsServedWithin}
use Rattle.served_instance.specs.Ranges.{seen_with, sources_at, range_holders, RangesEndWithin, AreTidy}
use Rattle.served_instance.specs.declared.instance.TheConstants.{CONNECTION_LIMIT}
use Rattle.served_instance.proofs.Agreeing.{count_append}
use Rattle.served_instance.proofs.Ranges.{fit_agreed_each, plain_served, same_served}
use Rattle.served_instance.specs.Slots.{ServedSlots, served_state_in, holders_of, IsServedInPool, IsServedBeside, HasConnections}
use Rattle.server_core.specs.Shared.{all_in, all_holders, IsServer, HasRanges}
use Rattle.server_core.specs.StandsFor.{OrdersStand, StandsAt, instance_at}
use Rattle.server_core.proofs.Lists.{get-set_same, get-set_other}

-- ---- numbers of holders

same_holders : (x a : ServedSlots) (k : ℕ) → Some x ≡ Some a → holders_of x k ≡ holders_of a k
same_holders x a k e = let same : x ≡ a = cc in ap (λ (y : ServedSlots). holders_of y k) same

one_le : (xs : List ServedSlots) (i : ℕ) (a : ServedSlots) (k : ℕ) → slice_get xs i ≡ Some a → holders_of a k ≤ all_holders xs k
one_le [] i a k at = cc
one_le (x ∷ xs) zero a k at = let same = same_holders x a k at in omega (arith, same)
one_le (x ∷ xs) (suc i) a k at = let ih = one_le xs i a k at in omega (arith, ih)

-- two instances hold no more than all together
pub pair_le : (xs : List ServedSlots) (i j : ℕ) (a b : ServedSlots) (k : ℕ) → i ≢ j → slice_get xs i ≡ Some a → slice_get xs j ≡ Some b →
    holders_of a k + holders_of b k ≤ all_holders xs k
pair_le [] i j a b k ne at there = cc
pair_le (x ∷ xs) zero zero a b k ne at there = absurd (ne refl)
pair_le (x ∷ xs) zero (suc j) a b k ne at there = let one = one_le xs j b k there in let same = same_holders x a k at in
    omega (arith, one, same)
pair_le (x ∷ xs) (suc i) zero a b k ne at there = let one = one_le xs i a k at in let same = same_holders x b k there in
    omega (arith, one, same)
pair_le (x ∷ xs) (suc i) (suc j) a b k ne at there = let ih = pair_le xs i j a b k (λ e. ne (ap suc e)) at there in omega (arith, ih)

set_holders : (xs : List ServedSlots) (i : ℕ) (a b : ServedSlots) (k : ℕ) → slice_get xs i ≡ Some a →
    all_holders (set xs i b) k + holders_of a k ≡ all_holders xs k + holders_of b k
set_holders [] i a b k at = cc
set_holders (x ∷ xs) zero a b k at = let same = same_holders x a k at in omega (arith, same)
set_holders (x ∷ xs) (suc i) a b k at = let ih = set_holders xs i a b k at in omega (arith, ih)

-- each holds a slot at most so often
abbrev HoldFew : ℕ → List ServedSlots → Type 0
HoldFew m xs = (j : ℕ) (x : ServedSlots) → slice_get xs j ≡ Some x → (k : ℕ) → holders_of x k ≤ m

all_few : (m : ℕ) (xs : List ServedSlots) (k : ℕ) → HoldFew m xs → all_holders xs k ≤ length xs * m
all_few m [] k few = omega arith
all_few m (x ∷ xs) k few =
    let ih = all_few m xs k (λ j y at. few (suc j) y at) in
    let first = few 0 x refl k in
    let more : (1 + length xs) * m ≡ m + length xs * m = grind arith in
    omega (arith, ih, first, more)

others_few : (m : ℕ) (xs : List ServedSlots) (i : ℕ) (a : ServedSlots) (k : ℕ) → HoldFew m xs → slice_get xs i ≡ Some a →
    all_holders xs k ≤ holders_of a k + length xs * m
others_few m [] i a k few at = cc
others_few m (x ∷ xs) zero a k few at =
    let rest = all_few m xs k (λ j y is. few (suc j) y is) in
    let same = same_holders x a k at in
    let more : (1 + length xs) * m ≡ m + length xs * m = grind arith in
    omega (arith, rest, same, more)
others_few m (x ∷ xs) (suc i) a k few at =
    let ih = others_few m xs i a k (λ j y is. few (suc j) y is) at in
    let first = few 0 x refl k in
    let more : (1 + length xs) * m ≡ m + length xs * m = grind arith in
    omega (arith, ih, first, more)

-- ---- what an instance may rely on

abbrev HaveFewer : ℕ → List ServedConnection → Type 0
HaveFewer m vs = AllByRecursion (λ s. (k : ℕ) → count_of k (sources_of s.connection.sending) < m) vs

pub within_at : (p : Slots) (xs : List ServedSlots) (i : ℕ) (a : ServedSlots) → AllByRecursion IsServedWithin (all_in p xs) →
    slice_get xs i ≡ Some a → IsServedWithin (served_state_in p a)
within_at p [] i a w at = cc
within_at p (x ∷ xs) zero a w at = let same : x ≡ a = first x a at in
    subst (λ (y : ServedSlots). IsServedWithin (served_state_in p y)) same w.0
  where
    first : (x a : ServedSlots) → Some x ≡ Some a → x ≡ a
    first x a e = cc
within_at p (x ∷ xs) (suc i) a w at = within_at p xs i a w.1 at

-- no connection has more ranges of a slot than m
ranges_few : (m : ℕ) (vs : List ServedConnection) → HaveFewer m vs → (k : ℕ) → range_holders vs k ≤ length vs * m
ranges_few m [] few k = omega arith
ranges_few m (v ∷ vs) few k =
    let ih = ranges_few m vs few.1 k in
    let first = few.0 k in
    let both = count_append k (sources_of v.connection.sending) (sources_at vs) in
    let more : (1 + length vs) * m ≡ m + length vs * m = grind arith in
    omega (arith, ih, first, both, more)

-- a job has fewer texts than its Vec has room for
job_few : (job : Job) (k : ℕ) → job_holders job k ≤ 2 ^ 63
job_few job k =
    let texts = job.task.texts in
    let most = holders-few (kept_entries texts.items) k in
    omega (arith, most, length-map texts.items kept_entry, texts.ok.0, texts.ok.1, texts.small)

waiting_few : (ws : List (ℕ × Job)) (k : ℕ) → waiting_sum (λ job. job_holders job k) ws ≤ length ws * 2 ^ 63
waiting_few [] k = omega arith
waiting_few (w ∷ ws) k =
    let ih = waiting_few ws k in
    let first = job_few w.1 k in
    let more : (1 + length ws) * 2 ^ 63 ≡ 2 ^ 63 + length ws * 2 ^ 63 = grind arith in
    omega (arith, ih, first, more)

running_few : (rs : List (ℕ × Running Job)) (k : ℕ) → running_sum (λ job. job_holders job k) rs ≤ length rs * 2 ^ 63
running_few [] k = omega arith
running_few (r ∷ rs) k =
    let ih = running_few rs k in
    let first = job_few r.1.job k in
    let more : (1 + length rs) * 2 ^ 63 ≡ 2 ^ 63 + length rs * 2 ^ 63 = grind arith in
    omega (arith, ih, first, more)

-- an instance has no more jobs than may wait and run
jobs_few : (p : Slots) (jobs : Jobs Job) (k : ℕ) → AreJobs (jobs_in p jobs) →
    jobs_holders jobs k ≤ MOST_WAITING * 2 ^ 63 + MOST_RUNNING * 2 ^ 63
jobs_few p jobs k are =
    let waiting : length jobs.waiting ≤ MOST_WAITING = omega (arith, are.few_waiting, length-map jobs.waiting (waiting_in p)) in
    let running : length jobs.running ≤ MOST_RUNNING = omega (arith, are.few_running, length-map jobs.running (running_in p)) in
    let more = mul-le-mul_right (2 ^ 63) waiting in
    let others = mul-le-mul_right (2 ^ 63) running in
    omega (arith, waiting_few jobs.waiting k, running_few jobs.running k, more, others)

-- by its entries, by its jobs, and by the ranges of its connections
abbrev most_held : ℕ
most_held = 2 ^ 31 + MOST_WAITING * 2 ^ 63 + MOST_RUNNING * 2 ^ 63 + CONNECTION_LIMIT * 2 ^ 64

-- an instance has no more entries than it may have texts
holds_few : (p : Slots) (a : ServedSlots) → IsServedWithin (served_state_in p a) → HasRanges p a → (k : ℕ) → holders_of a k ≤ most_held
holds_few p a w r k =
    let long = length-visible_in p a.instance.view in
    let entries = w.instance.texts.entries in
    let blobs = w.instance.limits.few_blobs in
    let most = holders-few a.instance.view.entries k in
    let ranges = ranges_few (2 ^ 64) a.connections r.few k in
    let many : length a.connections ≤ CONNECTION_LIMIT = omega (arith, w.connections, length-map a.connections (seen_with (text_at p))) in
    let all = mul-le-mul_right (2 ^ 64) many in
    let jobs = jobs_few p a.instance.jobs k w.instance.jobs in
    omega (arith, long, entries, blobs, most, ranges, all, jobs)

ranges_at : (p : Slots) (xs : List ServedSlots) (i : ℕ) (a : ServedSlots) → AllByRecursion (HasRanges p) xs → slice_get xs i ≡ Some a →
    HasRanges p a
ranges_at p [] i a w at = cc
ranges_at p (x ∷ xs) zero a w at = let same : x ≡ a = first x a at in subst (λ (y : ServedSlots). HasRanges p y) same w.0
  where
    first : (x a : ServedSlots) → Some x ≡ Some a → x ≡ a
    first x a e = cc
ranges_at p (x ∷ xs) (suc i) a w at = ranges_at p xs i a w.1 at

pub kept_at : (p : Slots) (xs : List ServedSlots) (i : ℕ) (a : ServedSlots) → slice_get xs i ≡ Some a → IsServer p xs → IsServedInPool p a
kept_at p xs i a at s =
    let few : HoldFew most_held xs = λ j x is k. holds_few p x (within_at p xs j x s.within is) (ranges_at p xs j x s.ranges is) k in
    let own = ranges_at p xs i a s.ranges at in
    record {
      counted = λ k. omega (arith, s.exact k, one_le xs i a k at);
      others = λ k.
          let all = mul-le-mul_right most_held s.few in
          omega (arith, s.exact k, others_few most_held xs i a k few at, all);
      within = within_at p xs i a s.within at;
      fit = own.fit;
      few = own.few;
    }

-- no source of a range that is over is held
pub tidy_at : (p : Slots) (xs : List ServedSlots) (i : ℕ) (a : ServedSlots) → slice_get xs i ≡ Some a → IsServer p xs →
    AreTidy a.connections
tidy_at p xs i a at s = (ranges_at p xs i a s.ranges at).tidy

-- ---- others find their texts

abbrev with_visible : ServedState → List Blob → ServedState
with_visible v bs = record v { state = record v.state { visible = bs } }

abbrev with_jobs : ServedState → Jobs JobValue → ServedState
with_jobs v jobs = record v { state = record v.state { jobs = jobs } }

abbrev with_connections : ServedState → List SeenConnection → List (List ℕ) → ServedState
with_connections v cs ts = record { state = v.state; connections = cs; ranges = ts }

same_texts : (t u : SourceTexts) (ns : List ℕ) → AgreeOn ns t u → map t ns ≡ map u ns
same_texts t u [] h = refl
same_texts t u (n ∷ ns) h =
    let own : (n == n) ≡ true = grind (arith, nat_tests) in
    let one : cond {A = ℕ} (n == n) 1 0 ≡ 1 = ap (λ b. cond b 1 0) own in
    ap (λ (x : List ℕ). x ∷ map t ns) (h n (omega (arith, one)))
    ∙ ap (λ (xs : List (List ℕ)). u n ∷ xs) (same_texts t u ns (λ k some. h k (omega (arith, some))))

-- what another instance holds has its text still
apart : (p q : Slots) (xs : List ServedSlots) (i j : ℕ) (a b x : ServedSlots) → i ≢ j → slice_get xs i ≡ Some a → slice_get xs j ≡ Some x →
    IsServer p xs → Moves p q (holders_of a) (holders_of b) → (k : ℕ) → 0 < holders_of x k → text_at q k ≡ text_at p k
apart p q xs i j a b x ne at there s m k some = m.texts k (omega (arith, s.exact k, pair_le xs i j a x k ne at there, some))

pub other_same : (p q : Slots) (xs : List ServedSlots) (i j : ℕ) (a b x : ServedSlots) → i ≢ j → slice_get xs i ≡ Some a →
    slice_get xs j ≡ Some x → IsServer p xs → Moves p q (holders_of a) (holders_of b) → served_state_in q x ≡ served_state_in p x
other_same p q xs i j a b x ne at there s m =
    let same : (k : ℕ) → 0 < holders_of x k → text_at q k ≡ text_at p k = apart p q xs i j a b x ne at there s m in
    let find : AgreeOn (sources_at x.connections) (text_at q) (text_at p) = λ k some. same k (omega (arith, some)) in
    let entries = shown_same p q x.instance.view.entries (λ k some. same k (omega (arith, some))) in
    let jobs = jobs_same p q x.instance.jobs (holders_of a) (holders_of b)
    (λ k. omega (arith, s.exact k, pair_le xs i j a x k ne at there)) m in
    ap (λ (cs : List SeenConnection). with_connections (served_state_in q x) cs (map (text_at q) (sources_at x.connections)))
    (same_served (text_at q) (text_at p) x.connections find)
    ∙ ap (with_connections (served_state_in q x) (map (seen_with (text_at p)) x.connections))
    (same_texts (text_at q) (text_at p) (sources_at x.connections) find)
    ∙ ap (λ (bs : List Blob). with_visible (with_jobs (served_state_in p x) (jobs_in q x.instance.jobs)) bs) entries
    ∙ ap (with_jobs (served_state_in p x)) jobs

other_ranges : (p q : Slots) (xs : List ServedSlots) (i j : ℕ) (a b x : ServedSlots) → i ≢ j → slice_get xs i ≡ Some a →
    slice_get xs j ≡ Some x → IsServer p xs → Moves p q (holders_of a) (holders_of b) → HasRanges q x
other_ranges p q xs i j a b x ne at there s m =
    let own = ranges_at p xs j x s.ranges there in
    let find : AgreeOn (sources_at x.connections) (text_at p) (text_at q) =
    λ k some. sym (apart p q xs i j a b x ne at there s m k (omega (arith, some))) in
    record { fit = fit_agreed_each (text_at p) (text_at q) x.connections find own.fit; few = own.few; tidy = own.tidy }

pub others_after : (p q : Slots) (xs : List ServedSlots) (i : ℕ) (a b : ServedSlots) → slice_get xs i ≡ Some a → IsServer p xs →
    Moves p q (holders_of a) (holders_of b)
    → (j : ℕ) → j ≢ i → instance_at j (all_in q (set xs i b)) ≡ instance_at j (all_in p xs)
others_after p q xs i a b at s m j ne =
    slice_get-map (served_state_in q) (set xs i b) j
    ∙ ap (option_map (served_state_in q)) (get-set_other xs i j b ne)
    ∙ go (slice_get xs j) refl
    ∙ sym (slice_get-map (served_state_in p) xs j)
  where
    go : (o : Option ServedSlots) → slice_get xs j ≡ o →
        option_map (served_state_in q) (slice_get xs j) ≡ option_map (served_state_in p) (slice_get xs j)
    go None is = ap (option_map (served_state_in q)) is ∙ sym (ap (option_map (served_state_in p)) is)
    go (Some x) is = ap (option_map (served_state_in q)) is ∙ ap Some (other_same p q xs i j a b x (λ e. ne (sym e)) at is s m)
        ∙ sym (ap (option_map (served_state_in p)) is)

-- ---- the server afterwards

within_by : (q : Slots) (xs : List ServedSlots) →
    ((j : ℕ) (x : ServedSlots) → slice_get xs j ≡ Some x → IsServedWithin (served_state_in q x)) →
    AllByRecursion IsServedWithin (all_in q xs)
within_by q [] each = tt
within_by q (x ∷ xs) each = (each 0 x refl, within_by q xs (λ j y at. each (suc j) y at))

ranges_by : (q : Slots) (xs : List ServedSlots) → ((j : ℕ) (x : ServedSlots) → slice_get xs j ≡ Some x → HasRanges q x) →
    AllByRecursion (HasRanges q) xs
ranges_by q [] each = tt
ranges_by q (x ∷ xs) each = (each 0 x refl, ranges_by q xs (λ j y at. each (suc j) y at))

-- what stands there afterwards is the instance that acted, or one that stood there
abbrev HasActed : List ServedSlots → ℕ → ℕ → ServedSlots → ServedSlots → Type 0
HasActed xs i j b x = (b ≡ x) ⊎ ((i ≢ j) × (slice_get xs j ≡ Some x))

has_acted : (xs : List ServedSlots) (i j : ℕ) (a b x : ServedSlots) → slice_get xs i ≡ Some a → slice_get (set xs i b) j ≡ Some x →
    HasActed xs i j b x
has_acted xs i j a b x at there = elim (cases_eq j i) [
  | inl e ↦
      let own : Some b ≡ Some x = sym (get-set_same xs i b (slice_get_within xs i a at)) ∙ ap (slice_get (set xs i b)) (sym e) ∙ there in
      inl (same_Some b x own)
  | inr ne ↦ inr ((λ e. ne (sym e)), sym (get-set_other xs i j b ne) ∙ there)
]

pub server_after : (p q : Slots) (xs : List ServedSlots) (i : ℕ) (a b : ServedSlots) → slice_get xs i ≡ Some a → IsServer p xs →
    Moves p q (holders_of a) (holders_of b) → IsServedInPool q b → AreTidy b.connections → IsServer q (set xs i b)
server_after p q xs i a b at s m kept tidy = record {
  exact = λ k. omega (arith, s.exact k, m.counts k, set_holders xs i a b k at);
  few = omega (arith, length-set xs i b, s.few);
  within = within_by q (set xs i b) (λ j x there. elim (has_acted xs i j a b x at there) [
    | inl own ↦ subst (λ (y : ServedSlots). IsServedWithin (served_state_in q y)) own kept.within
    | inr other ↦ subst IsServedWithin (sym (other_same p q xs i j a b x other.0 at other.1 s m)) (within_at p xs j x s.within other.1)
  ]);
  ranges = ranges_by q (set xs i b) (λ j x there. elim (has_acted xs i j a b x at there) [
    | inl own ↦ subst (HasRanges q) own (record { fit = kept.fit; few = kept.few; tidy = tidy })
    | inr other ↦ other_ranges p q xs i j a b x other.0 at other.1 s m
  ]);
}

-- ---- the instance itself

pub here : (p : Slots) (xs : List ServedSlots) (i : ℕ) (a : ServedSlots) → slice_get xs i ≡ Some a →
    instance_at i (all_in p xs) ≡ Some (served_state_in p a)
here p xs i a at = slice_get-map (served_state_in p) xs i ∙ ap (option_map (served_state_in p)) at

pub stands_here : (p : Slots) (xs : List ServedSlots) (i : ℕ) (a : ServedSlots) (l : LoneInstance) → slice_get xs i ≡ Some a →
    StandsAt i (all_in p xs) l → IsServedInstance (served_state_in p a) l
stands_here p xs i a l at s =
    subst (λ (v : ServedState). IsServedInstance v l) (same_Some s.0 (served_state_in p a) (sym s.1 ∙ here p xs i a at)) s.2

pub stands_after : (q : Slots) (xs : List ServedSlots) (i : ℕ) (a b : ServedSlots) (l : LoneInstance) → slice_get xs i ≡ Some a →
    IsServedInstance (served_state_in q b) l → StandsAt i (all_in q (set xs i b)) l
stands_after q xs i a b l at st = (served_state_in q b, here q (set xs i b) i b (get-set_same xs i b (slice_get_within xs i a at)), st)

-- its orders, with what its jobs have
pub orders_after : (q : Slots) (xs : List ServedSlots) (i : ℕ) (a b : ServedSlots) (orders : Vec Order Global) (meant : List OrderValue) →
    slice_get xs i ≡ Some a → AreOrders (state_in q b.instance).jobs orders.items meant → OrdersStand i (all_in q (set xs i b)) orders meant
orders_after q xs i a b orders meant at given v there =
    let is : v ≡ served_state_in q b = same_Some v (served_state_in q b)
    (sym there ∙ here q (set xs i b) i b (get-set_same xs i b (slice_get_within xs i a at))) in
    subst (λ (w : ServedState). AreOrders w.state.jobs orders.items meant) (sym is) given

set-same : (xs : List ServedSlots) (i : ℕ) (a : ServedSlots) → slice_get xs i ≡ Some a → set xs i a ≡ xs
set-same [] i a at = refl
set-same (x ∷ xs) zero a at = let same : x ≡ a = first x a at in ap (λ (y : ServedSlots). y ∷ xs) (sym same)
  where
    first : (x a : ServedSlots) → Some x ≡ Some a → x ≡ a
    first x a e = cc
set-same (x ∷ xs) (suc i) a at = ap (λ (ys : List ServedSlots). x ∷ ys) (set-same xs i a at)

pub refused_after : {T : Type 0} (r : Result T EventRefusal) (p q : Slots) (xs : List ServedSlots) (i : ℕ) (a b : ServedSlots) →
    slice_get xs i ≡ Some a
    → IfErr r (λ refusal. refusal ≢ NoMemory → (b ≡ a) × (q ≡ p)) →
    IfErr r (λ refusal. refusal ≢ NoMemory → all_in q (set xs i b) ≡ all_in p xs)
refused_after (Ok x) p q xs i a b at h = tt
refused_after (Err refusal) p q xs i a b at h = λ ne.
    let same = h ne in
    ap (λ (r : Slots). all_in r (set xs i b)) same.1
    ∙ ap (λ (y : ServedSlots). all_in p (set xs i y)) same.0
    ∙ ap (all_in p) (set-same xs i a at)

-- the ranges of the instance that was found
pub ranges_got : {A : Type 0} (f : A → ServedSlots) (o : Option A) (p : Slots) (xs : List ServedSlots) (i : ℕ) →
    option_map f o ≡ slice_get xs i → AllByRecursion (HasRanges p) xs → IfSome o (λ r. RangesEndWithin (text_at p) (f r).connections)
ranges_got f None p xs i at w = tt
ranges_got f (Some r) p xs i at w = (ranges_at p xs i (f r) w (sym at)).fit

-- what an instance by itself is seen to have on its connections
pub connections_of : (p : Slots) (v : ServedSlots) (l : LoneInstance) → RangesEndWithin (text_at p) v.connections →
    IsServedInstance (served_state_in p v) l → HasConnections v l
connections_of p v l fit st = record {
  pool = p;
  stand =
      plain_served (text_at p) v.connections (open_ones l.connections) fit st.connections;
}

pub connections_there : (p : Slots) (vs : List ServedState) (i : ℕ) (v : ServedSlots) (l : LoneInstance) →
    Some (served_state_in p v) ≡ instance_at i vs → RangesEndWithin (text_at p) v.connections → StandsAt i vs l → HasConnections v l
connections_there p vs i v l there fit s =
    connections_of p v l fit (subst (λ (w : ServedState). IsServedInstance w l)
    (same_Some s.0 (served_state_in p v) (sym s.1 ∙ sym there)) s.2)

-- an instance beside the texts of nobody
pub beside_nobody : (p : Slots) (nobody : ViewValue) (v : ServedSlots) → nobody.entries ≡ [] → IsServedInPool p v →
    IsServedBeside p nobody v
beside_nobody p nobody v none kept = record {
  counted = λ k. let here : holders nobody k ≡ 0 = ap (λ (es : List ViewEntry). entry_holders es k) none in
      omega (arith, kept.counted k, here);
  named = subst (λ (bs : List Blob). AllByRecursion (λ (b : Blob). Names b.0 b.1) bs) (sym (ap (blobs_in p) none)) tt;
}
