-- A job stays the same under its number, whatever becomes of the others.
use Rattle.std.proofs.Common.{◌≡◌, ◌≢◌, ℕ, ◌<◌, Bool, true, false, List, [], ◌∷◌, ◌++◌, drop, Option, Some, None, refl, sym, ap, subst, ◌∙◌, append-nil, arith}
use Rattle.std.specs.Prelude.{◌||◌, option_map}
use Rattle.std.specs.List.{AllByRecursion, list_any}
use Rattle.std.specs.Map.{keys_of, lookup, remove_entry}
use Rattle.std.proofs.lemmas.Bool.{eqb-true, eqb-false, eq-eqb, ne_eqb, true≢false}
use Rattle.job_queue.specs.declared.queue.Running.{Running}
use Rattle.job_queue.specs.Jobs.{Jobs, or_else, running_job, same_number, jobs_after_push, started}
use Rattle.job_queue.specs.Changes.{JobChange, pushes, does, starts, ends, forgets, jobs_after, jobs_after_all, open_job, closes}
use Rattle.job_queue.specs.Order.{AreJobs, AreRising}
use Rattle.job_queue.proofs.Orders.{all-weaker, all-append, related-back, found-among}

or-false : (a b : Bool) → (a || b) ≡ false → (a ≡ false) × (b ≡ false)
or-false true b h = absurd (true≢false h)
or-false false b h = (refl, h)

-- ---- entries of one number

module _ {A : Type 0} where
  -- each that has this number is so
  abbrev pub IsAlone : ℕ → (A → Type 0) → List (ℕ × A) → Type 0
  IsAlone n P es = AllByRecursion (λ e. n ≡ e.0 → P e.1) es

  alone-without : (n : ℕ) (P : A → Type 0) (t : ℕ → Bool) (es : List (ℕ × A)) → IsAlone n P es → IsAlone n P (remove_entry t es)
  alone-without n P t [] h = tt
  alone-without n P t (e ∷ es) h = go (t e.0) refl (alone-without n P t es h.1) where
    go : (b : Bool) → t e.0 ≡ b → IsAlone n P (remove_entry t es) → IsAlone n P (remove_entry t (e ∷ es))
    go true is later = rw is h.1
    go false is later = rw is (h.0, later)

  alone-found : (n : ℕ) (P : A → Type 0) (x : A) (es : List (ℕ × A)) → IsAlone n P es → lookup (same_number n) es ≡ Some x → P x
  alone-found n P x [] h is = absurd (let no : None ≡ Some x = is in cc)
  alone-found n P x (e ∷ es) h is = go (same_number n e.0) refl (alone-found n P x es h.1) where
    go : (b : Bool) → same_number n e.0 ≡ b → (lookup (same_number n) es ≡ Some x → P x) → P x
    go true same later =
        let found : Some e.1 ≡ Some x = rw same at is in
        let here : e.1 ≡ x = cc in
        subst P here (h.0 (eqb-true n e.0 same))
    go false other later = later (rw other at is)

  -- numbers none of which is this one
  others-alone : (n : ℕ) (P : A → Type 0) (es : List (ℕ × A)) → AllByRecursion (λ m. n ≢ m) (keys_of es) → IsAlone n P es
  others-alone n P [] h = tt
  others-alone n P (e ∷ es) h = ((λ same. absurd (h.0 same)), others-alone n P es h.1)

  front-all : (P : ℕ → Type 0) (es : List (ℕ × A)) (ys : List ℕ) → AllByRecursion P (keys_of es ++ ys) → AllByRecursion P (keys_of es)
  front-all P [] ys h = tt
  front-all P (e ∷ es) ys h = (h.0, front-all P es ys h.1)

  back-all : (P : ℕ → Type 0) (es : List (ℕ × A)) (ys : List ℕ) → AllByRecursion P (keys_of es ++ ys) → AllByRecursion P ys
  back-all P [] ys h = h
  back-all P (e ∷ es) ys h = back-all P es ys h.1

  -- a lookup behind others
  lookup-behind : (n : ℕ) (es : List (ℕ × A)) (e : ℕ × A) → same_number n e.0 ≡ false →
      lookup (same_number n) (es ++ e ∷ []) ≡ lookup (same_number n) es
  lookup-behind n [] e other = rw other refl
  lookup-behind n (x ∷ es) e other = go (same_number n x.0) refl (lookup-behind n es e other) where
    go : (b : Bool) → same_number n x.0 ≡ b → lookup (same_number n) (es ++ e ∷ []) ≡ lookup (same_number n) es →
        lookup (same_number n) (x ∷ es ++ e ∷ []) ≡ lookup (same_number n) (x ∷ es)
    go true same later = rw same refl
    go false apart later = rw apart later

  lookup-last : (n : ℕ) (es : List (ℕ × A)) (x : A) → lookup (same_number n) es ≡ None → lookup (same_number n) (es ++ (n, x) ∷ []) ≡ Some x
  lookup-last n [] x none = let same : same_number n n ≡ true = eq-eqb n n refl in rw same refl
  lookup-last n (e ∷ es) x none = go (same_number n e.0) refl (lookup-last n es x) where
    go : (b : Bool) → same_number n e.0 ≡ b → (lookup (same_number n) es ≡ None → lookup (same_number n) (es ++ (n, x) ∷ []) ≡ Some x) →
        lookup (same_number n) (e ∷ es ++ (n, x) ∷ []) ≡ Some x
    go true same later = absurd (let no : Some e.1 ≡ None = rw same at none in cc)
    go false apart later = rw apart (later (rw apart at none))

  lookup-none : (n : ℕ) (es : List (ℕ × A)) → AllByRecursion (λ m. m < n) (keys_of es) → lookup (same_number n) es ≡ None
  lookup-none n [] h = refl
  lookup-none n (e ∷ es) h =
      let other : same_number n e.0 ≡ false = ne_eqb n e.0 (λ same. let less = h.0 in omega arith) in
      rw other (lookup-none n es h.1)

  lookup-without : (n m : ℕ) (es : List (ℕ × A)) → same_number n m ≡ false →
      lookup (same_number n) (remove_entry (same_number m) es) ≡ lookup (same_number n) es
  lookup-without n m [] apart = refl
  lookup-without n m (e ∷ es) apart = go (same_number m e.0) (same_number n e.0) refl refl (lookup-without n m es apart) where
    go : (b c : Bool) → same_number m e.0 ≡ b → same_number n e.0 ≡ c →
        lookup (same_number n) (remove_entry (same_number m) es) ≡ lookup (same_number n) es →
        lookup (same_number n) (remove_entry (same_number m) (e ∷ es)) ≡ lookup (same_number n) (e ∷ es)
    go true true is here later = absurd (eqb-false n m apart (eqb-true n e.0 here ∙ sym (eqb-true m e.0 is)))
    go true false is here later = rw (is, here) refl
    go false true is here later = rw (is, here) refl
    go false false is here later = rw (is, here) later

  -- the first of a number in rising order is the only one
  only-rising : (n : ℕ) (P : A → Type 0) (x : A) (es : List (ℕ × A)) (ys : List ℕ) → lookup (same_number n) es ≡ Some x → P x →
      AreRising (keys_of es ++ ys) → IsAlone n P es × AllByRecursion (λ m. n ≢ m) ys
  only-rising n P x [] ys is so h = absurd (let no : None ≡ Some x = is in cc)
  only-rising n P x (e ∷ es) ys is so h = go (same_number n e.0) refl (λ found. only-rising n P x es ys found so h.1) where
    go : (b : Bool) → same_number n e.0 ≡ b → (lookup (same_number n) es ≡ Some x → IsAlone n P es × AllByRecursion (λ m. n ≢ m) ys) →
        IsAlone n P (e ∷ es) × AllByRecursion (λ m. n ≢ m) ys
    go true same later =
        let found : Some e.1 ≡ Some x = rw same at is in
        let here : e.1 ≡ x = cc in
        let number : n ≡ e.0 = eqb-true n e.0 same in
        let above : AllByRecursion (λ m. n ≢ m) (keys_of es ++ ys) =
        all-weaker (λ m. e.0 < m) (λ m. n ≢ m) (λ m less is. omega (arith, number, less, is)) (keys_of es ++ ys) h.0 in
        (((λ is. subst P (sym here) so), others-alone n P es (front-all (λ m. n ≢ m) es ys above)), back-all (λ m. n ≢ m) es ys above)
    go false other later =
        let behind = later (rw other at is) in
        (((λ same. absurd (eqb-false n e.0 other same)), behind.0), behind.1)

  none-alone : (n : ℕ) (P : A → Type 0) (es : List (ℕ × A)) → lookup (same_number n) es ≡ None → IsAlone n P es
  none-alone n P [] is = tt
  none-alone n P (e ∷ es) is = go (same_number n e.0) refl (none-alone n P es) where
    go : (b : Bool) → same_number n e.0 ≡ b → (lookup (same_number n) es ≡ None → IsAlone n P es) → IsAlone n P (e ∷ es)
    go true same later = absurd (let no : Some e.1 ≡ None = rw same at is in cc)
    go false other later = ((λ same. absurd (eqb-false n e.0 other same)), later (rw other at is))

-- ---- jobs

module _ {J : Type 0} where
  -- each entry of this number is of this job, and the number was given
  pub record IsOnly (n : ℕ) (job : J) (jobs : Jobs J) : Type 0 where
    pub given : n < jobs.next
    pub waiting : IsAlone n (λ x. x ≡ job) jobs.waiting
    pub running : IsAlone n (λ (r : Running J). r.job ≡ job) jobs.running

  only-waiting-drop : (n : ℕ) (job : J) (ws : List (ℕ × J)) → IsAlone n (λ x. x ≡ job) ws → IsAlone n (λ x. x ≡ job) (drop 1 ws)
  only-waiting-drop n job [] h = tt
  only-waiting-drop n job (w ∷ ws) h = h.1

  only-started : (n deadline : ℕ) (job : J) (rs : List (ℕ × Running J)) (ws : List (ℕ × J)) →
      IsAlone n (λ (r : Running J). r.job ≡ job) rs → IsAlone n (λ x. x ≡ job) ws →
      IsAlone n (λ (r : Running J). r.job ≡ job) (rs ++ started deadline ws)
  only-started n deadline job rs [] h g = all-append _ rs [] h tt
  only-started n deadline job rs (w ∷ ws) h g = all-append _ rs ((w.0, record { deadline = deadline; job = w.1 }) ∷ []) h (g.0, tt)

  pub only-after : (n : ℕ) (job : J) (c : JobChange J) (jobs : Jobs J) → IsOnly n job jobs → IsOnly n job (jobs_after c jobs)
  only-after n job (pushes new) jobs h = record {
    given = let g = h.given in omega (arith, g);
    waiting = all-append _ jobs.waiting ((jobs.next, new) ∷ []) h.waiting
        ((λ same. absurd (let g = h.given in omega (arith, g, same))), tt);
    running = h.running;
  }
  only-after n job (does operation) jobs h = record {
    given = let g = h.given in omega (arith, g);
    waiting = h.waiting;
    running = h.running;
  }
  only-after n job (starts deadline) jobs h = record {
    given = h.given;
    waiting = only-waiting-drop n job jobs.waiting h.waiting;
    running = only-started n deadline job jobs.running jobs.waiting h.running h.waiting;
  }
  only-after n job (ends m operation) jobs h = record {
    given = h.given;
    waiting = h.waiting;
    running = alone-without n _ (same_number m) jobs.running h.running;
  }
  only-after n job (forgets m) jobs h = record {
    given = h.given;
    waiting = h.waiting;
    running = alone-without n _ (same_number m) jobs.running h.running;
  }

  pub only-after-all : (n : ℕ) (job : J) (cs : List (JobChange J)) (jobs : Jobs J) → IsOnly n job jobs →
      IsOnly n job (jobs_after_all cs jobs)
  only-after-all n job [] jobs h = h
  only-after-all n job (c ∷ cs) jobs h = only-after-all n job cs (jobs_after c jobs) (only-after n job c jobs h)

  -- what is found is that job
  pub only-found : (n : ℕ) (job other : J) (jobs : Jobs J) → IsOnly n job jobs → open_job n jobs ≡ Some other → other ≡ job
  only-found n job other jobs h is = go (lookup (same_number n) jobs.running) refl where
    go : (o : Option (Running J)) → lookup (same_number n) jobs.running ≡ o → other ≡ job
    go None none = alone-found n (λ x. x ≡ job) other jobs.waiting h.waiting (rw none at is)
    go (Some r) some =
        let found : Some r.job ≡ Some other = rw some at is in
        let here : r.job ≡ other = cc in
        sym here ∙ alone-found n (λ (x : Running J). x.job ≡ job) r jobs.running h.running some

  pub only-open : (n : ℕ) (job : J) (jobs : Jobs J) → AreJobs jobs → open_job n jobs ≡ Some job → IsOnly n job jobs
  only-open n job jobs h is = go (lookup (same_number n) jobs.running) refl where
    waiting_rise : AreRising (keys_of jobs.waiting ++ [])
    waiting_rise = subst AreRising (sym (append-nil (keys_of jobs.waiting)))
        (related-back (λ a b. a < b) (keys_of jobs.running) (keys_of jobs.waiting) h.rising)

    waiting_given : AllByRecursion (λ m. m < jobs.next) (keys_of jobs.waiting ++ [])
    waiting_given = subst (AllByRecursion (λ m. m < jobs.next)) (sym (append-nil (keys_of jobs.waiting)))
        (back-all (λ m. m < jobs.next) jobs.running (keys_of jobs.waiting) h.given)

    go : (o : Option (Running J)) → lookup (same_number n) jobs.running ≡ o → IsOnly n job jobs
    go None none =
        let found : lookup (same_number n) jobs.waiting ≡ Some job = rw none at is in
        record {
          given = found-among (λ m. m < jobs.next) n job jobs.waiting [] found waiting_given;
          waiting = (only-rising n (λ x. x ≡ job) job jobs.waiting [] found refl waiting_rise).0;
          running = none-alone n (λ (r : Running J). r.job ≡ job) jobs.running none;
        }
    go (Some r) some =
        let found : Some r.job ≡ Some job = rw some at is in
        let here : r.job ≡ job = cc in
        let alone = only-rising n (λ (x : Running J). x.job ≡ job) r jobs.running (keys_of jobs.waiting) some here h.rising in
        record {
          given = found-among (λ m. m < jobs.next) n r jobs.running (keys_of jobs.waiting) some h.given;
          waiting = others-alone n (λ x. x ≡ job) jobs.waiting alone.1;
          running = alone.0;
        }

  -- that of a new number
  pub only-pushed : (job : J) (jobs : Jobs J) → AreJobs jobs → IsOnly jobs.next job (jobs_after_push job jobs)
  only-pushed job jobs h = record {
    given = omega arith;
    waiting = all-append _ jobs.waiting ((jobs.next, job) ∷ [])
        (others-alone jobs.next (λ x. x ≡ job) jobs.waiting
        (all-weaker (λ m. m < jobs.next) (λ m. jobs.next ≢ m) (λ m less same. omega (arith, less, same)) (keys_of jobs.waiting)
        (back-all (λ m. m < jobs.next) jobs.running (keys_of jobs.waiting) h.given))) ((λ same. refl), tt);
    running = others-alone jobs.next (λ (r : Running J). r.job ≡ job) jobs.running
        (all-weaker (λ m. m < jobs.next) (λ m. jobs.next ≢ m) (λ m less same. omega (arith, less, same)) (keys_of jobs.running)
        (front-all (λ m. m < jobs.next) jobs.running (keys_of jobs.waiting) h.given));
  }

  pub stays-same : (n : ℕ) (job other : J) (cs : List (JobChange J)) (jobs : Jobs J) → AreJobs jobs → open_job n jobs ≡ Some job →
      open_job n (jobs_after_all cs jobs) ≡ Some other → other ≡ job
  stays-same n job other cs jobs h is found = only-found n job other (jobs_after_all cs jobs)
      (only-after-all n job cs jobs (only-open n job jobs h is)) found

  -- ---- until it ends or is forgotten

  abbrev open_of : ℕ → List (ℕ × Running J) → List (ℕ × J) → Option J
  open_of n rs ws = or_else (option_map (λ r. r.job) (lookup (same_number n) rs)) (lookup (same_number n) ws)

  start-one : (n deadline : ℕ) (rs : List (ℕ × Running J)) (w : ℕ × J) (ws : List (ℕ × J)) →
      open_of n (rs ++ (w.0, record { deadline = deadline; job = w.1 }) ∷ []) ws ≡ open_of n rs (w ∷ ws)
  start-one n deadline [] w ws = go (same_number n w.0) refl where
    go : (b : Bool) → same_number n w.0 ≡ b → open_of n ((w.0, record { deadline = deadline; job = w.1 }) ∷ []) ws ≡ open_of n [] (w ∷ ws)
    go true same = rw same refl
    go false other = rw other refl
  start-one n deadline (r ∷ rs) w ws = go (same_number n r.0) refl (start-one n deadline rs w ws) where
    go : (b : Bool) → same_number n r.0 ≡ b → open_of n (rs ++ (w.0, record { deadline = deadline; job = w.1 }) ∷ []) ws
        ≡ open_of n rs (w ∷ ws) → open_of n (r ∷ rs ++ (w.0, record { deadline = deadline; job = w.1 }) ∷ []) ws
        ≡ open_of n (r ∷ rs) (w ∷ ws)
    go true same later = rw same refl
    go false other later = rw other later

  start-open : (n deadline : ℕ) (rs : List (ℕ × Running J)) (ws : List (ℕ × J)) →
      open_of n (rs ++ started deadline ws) (drop 1 ws) ≡ open_of n rs ws
  start-open n deadline rs [] = ap (λ (xs : List (ℕ × Running J)). open_of n xs []) (append-nil rs)
  start-open n deadline rs (w ∷ ws) = start-one n deadline rs w ws

  open-after : (n : ℕ) (c : JobChange J) (jobs : Jobs J) → n < jobs.next → closes n c ≡ false →
      open_job n (jobs_after c jobs) ≡ open_job n jobs
  open-after n (pushes new) jobs given apart =
      let other : same_number n jobs.next ≡ false = ne_eqb n jobs.next (λ same. omega (arith, given, same)) in
      ap (λ (o : Option J). or_else (running_job n jobs) o) (lookup-behind n jobs.waiting (jobs.next, new) other)
  open-after n (does operation) jobs given apart = refl
  open-after n (starts deadline) jobs given apart = start-open n deadline jobs.running jobs.waiting
  open-after n (ends m operation) jobs given apart =
      ap (λ (o : Option (Running J)). or_else (option_map (λ r. r.job) o) (lookup (same_number n) jobs.waiting))
      (lookup-without n m jobs.running apart)
  open-after n (forgets m) jobs given apart = ap
      (λ (o : Option (Running J)). or_else (option_map (λ r. r.job) o) (lookup (same_number n) jobs.waiting))
      (lookup-without n m jobs.running apart)

  given-after : (n : ℕ) (c : JobChange J) (jobs : Jobs J) → n < jobs.next → n < (jobs_after c jobs).next
  given-after n (pushes new) jobs given = omega (arith, given)
  given-after n (does operation) jobs given = omega (arith, given)
  given-after n (starts deadline) jobs given = given
  given-after n (ends m operation) jobs given = given
  given-after n (forgets m) jobs given = given

  open-after-all : (n : ℕ) (cs : List (JobChange J)) (jobs : Jobs J) → n < jobs.next → list_any (closes n) cs ≡ false →
      open_job n (jobs_after_all cs jobs) ≡ open_job n jobs
  open-after-all n [] jobs given apart = refl
  open-after-all n (c ∷ cs) jobs given apart =
      let both = or-false (closes n c) (list_any (closes n) cs) apart in
      open-after-all n cs (jobs_after c jobs) (given-after n c jobs given) both.1 ∙ open-after n c jobs given both.0

  open-pushed : (job : J) (jobs : Jobs J) → AreJobs jobs → open_job jobs.next (jobs_after_push job jobs) ≡ Some job
  open-pushed job jobs h =
      let running : lookup (same_number jobs.next) jobs.running ≡ None =
      lookup-none jobs.next jobs.running (front-all (λ m. m < jobs.next) jobs.running (keys_of jobs.waiting) h.given) in
      let waiting : lookup (same_number jobs.next) jobs.waiting ≡ None =
      lookup-none jobs.next jobs.waiting (back-all (λ m. m < jobs.next) jobs.running (keys_of jobs.waiting) h.given) in
      rw running (lookup-last jobs.next jobs.waiting job waiting)

  pub stays-pushed : (job : J) (cs : List (JobChange J)) (jobs : Jobs J) → AreJobs jobs → list_any (closes jobs.next) cs ≡ false →
      open_job jobs.next (jobs_after_all cs (jobs_after_push job jobs)) ≡ Some job
  stays-pushed job cs jobs h apart = open-after-all jobs.next cs (jobs_after_push job jobs) (omega arith) apart ∙ open-pushed job jobs h
