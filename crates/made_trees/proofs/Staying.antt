-- What is in use stays.
use Rattle.std.proofs.Common.{◌≡◌, ◌∙◌, ℕ, Bool, true, false, not, List, [], ◌∷◌, ◌++◌, Option, None, Some, inl, inr, refl, sym, ap, subst, true≢false, if◌then◌else◌, arith}
use Rattle.std.specs.List.{filter, list_any}
use Rattle.std.specs.Map.{lookup, remove_entry, set_value}
use Rattle.run_calls.specs.declared.task.RunKey.{RunKey}
use Rattle.made_trees.proofs.Keeping.{one_key, one_state}
use Rattle.made_trees.specs.Claims.{IsBound, IsClaimedSo, LetGo}
use Rattle.made_trees.specs.Trees.{IsLetGo, StoreValue, Trees, TreeState, TreeValue, changed, finished, finished_state, given_back, given_back_state, held, held_by, is_leaving, leaving, making, makes, nothing, same_run, same_tree, tree_at, tree_folder, uses, whole, with_state, without_leaving}
use Rattle.made_trees.specs.declared.store.Claim.{Claim}
use Rattle.made_trees.specs.declared.store.Claim.TheVariants.{Bound, Make, Waits, Copied}
use Rattle.made_trees.specs.declared.tree.TreeKey.{TreeKey}

-- ---- users

any_more : (test : RunKey → Bool) (us : List RunKey) (u : RunKey) → list_any test us ≡ true
    → list_any test (us ++ u ∷ []) ≡ true
any_more test [] u h = absurd (true≢false (sym h))
any_more test (x ∷ us) u h = by (test x) refl (λ k. any_more test us u (rw k at h))
  where
    by : (b : Bool) → test x ≡ b → (test x ≡ false → list_any test (us ++ u ∷ []) ≡ true)
        → list_any test (x ∷ us ++ u ∷ []) ≡ true
    by true k more = rw k refl
    by false k more = rw k (more k)

-- two runs that are one
one_run : (a b c : RunKey) → same_run a c ≡ true → same_run b c ≡ true → same_run a b ≡ true
one_run a b c h k = grind arith

any_left : (run other : RunKey) (us : List RunKey) → same_run run other ≡ false
    → list_any (same_run run) us ≡ true
    → list_any (same_run run) (filter (λ user. not (same_run other user)) us) ≡ true
any_left run other [] apart h = absurd (true≢false (sym h))
any_left run other (x ∷ us) apart h =
    by (same_run run x) (same_run other x) refl refl (λ k. any_left run other us apart (rw k at h))
  where
    by : (b c : Bool) → same_run run x ≡ b → same_run other x ≡ c
        → (same_run run x ≡ false
        → list_any (same_run run) (filter (λ user. not (same_run other user)) us) ≡ true)
        → list_any (same_run run) (filter (λ user. not (same_run other user)) (x ∷ us)) ≡ true
    by true true k l more = absurd (true≢false (sym (one_run run other x k l) ∙ apart))
    by true false k l more = rw (l, k) refl
    by false true k l more = rw l (more k)
    by false false k l more = rw (l, k) (more k)

-- ---- states

module _ (run folder mine : RunKey) where
  no_leaving : held_by run folder leaving ≡ uses mine → ⊥
  no_leaving h = cc

  more_users : (us : List RunKey) (u : RunKey) → held_by run folder (whole us) ≡ uses mine
      → held_by run folder (whole (us ++ u ∷ [])) ≡ uses mine
  more_users us u h = by (list_any (same_run run) us) refl
    where
      by : (b : Bool) → list_any (same_run run) us ≡ b → held_by run folder (whole (us ++ u ∷ [])) ≡ uses mine
      by true k = rw (any_more (same_run run) us u k) (rw k at h)
      by false k = let wrong : nothing ≡ uses mine = rw k at h in cc

  stays_finished : (other : RunKey) (s : TreeState) → held_by run folder s ≡ uses mine
      → held_by run folder (finished_state other s) ≡ uses mine
  stays_finished other (making r) h = by (same_run run r) refl
    where
      by : (b : Bool) → same_run run r ≡ b → held_by run folder (finished_state other (making r)) ≡ uses mine
      by true k = let wrong : makes folder ≡ uses mine = rw k at h in cc
      by false k = let wrong : nothing ≡ uses mine = rw k at h in cc
  stays_finished other (whole us) h = h
  stays_finished other leaving h = h

  stays_given_back : (other : RunKey) → same_run run other ≡ false → (s : TreeState)
      → held_by run folder s ≡ uses mine → held_by run folder (given_back_state other s) ≡ uses mine
  stays_given_back other apart (making r) h = by (same_run run r) refl
    where
      by : (b : Bool) → same_run run r ≡ b
          → held_by run folder (given_back_state other (making r)) ≡ uses mine
      by true k = let wrong : makes folder ≡ uses mine = rw k at h in cc
      by false k = let wrong : nothing ≡ uses mine = rw k at h in cc
  stays_given_back other apart (whole us) h = by (list_any (same_run run) us) refl
    where
      by : (b : Bool) → list_any (same_run run) us ≡ b
          → held_by run folder (given_back_state other (whole us)) ≡ uses mine
      by true k = rw (any_left run other us apart k) (rw k at h)
      by false k = let wrong : nothing ≡ uses mine = rw k at h in cc
  stays_given_back other apart leaving h = h

  stays_let_go_state : (t u : TreeValue) → IsLetGo t u → held_by run folder t.state ≡ uses mine
      → held_by run folder u.state ≡ uses mine
  stays_let_go_state t u (inl e) h = rw e h
  stays_let_go_state t u (inr (w, e)) h = let wrong : nothing ≡ uses mine = rw w at h in cc

-- ---- trees

module _ (run : RunKey) (mine : TreeKey) (folder : RunKey) where
  abbrev IsUsed : TreeValue → Type 0
  IsUsed t = held_by run (tree_folder mine.instance t.number) t.state ≡ uses folder

  stays_set : (test : TreeKey → Bool) (es : Trees) (t v : TreeValue) → lookup test es ≡ Some t
      → (IsUsed t → IsUsed v) → held run mine es ≡ uses folder → held run mine (set_value test es v) ≡ uses folder
  stays_set test [] t v h keep u = u
  stays_set test (e ∷ es) t v h keep u =
      by (test e.0) (same_tree mine e.0) refl refl (λ k l. stays_set test es t v (rw k at h) keep (rw l at u))
    where
      by : (b c : Bool) → test e.0 ≡ b → same_tree mine e.0 ≡ c
          → (test e.0 ≡ false → same_tree mine e.0 ≡ false → held run mine (set_value test es v) ≡ uses folder)
          → held run mine (set_value test (e ∷ es) v) ≡ uses folder
      by true true k l more =
          let same : e.1 ≡ t = (let h' = rw k at h in cc) in
          let was : IsUsed e.1 = rw l at u in
          rw (k, l) (keep (subst IsUsed same was))
      by true false k l more = rw (k, l) (rw l at u)
      by false true k l more = rw (k, l) (rw l at u)
      by false false k l more = rw (k, l) (more k l)

  stays_removed : (test : TreeKey → Bool) (es : Trees) (t : TreeValue) → lookup test es ≡ Some t
      → t.state ≡ leaving → held run mine es ≡ uses folder → held run mine (remove_entry test es) ≡ uses folder
  stays_removed test [] t h gone u = u
  stays_removed test (e ∷ es) t h gone u =
      by (test e.0) (same_tree mine e.0) refl refl (λ k l. stays_removed test es t (rw k at h) gone (rw l at u))
    where
      by : (b c : Bool) → test e.0 ≡ b → same_tree mine e.0 ≡ c
          → (test e.0 ≡ false → same_tree mine e.0 ≡ false → held run mine (remove_entry test es) ≡ uses folder)
          → held run mine (remove_entry test (e ∷ es)) ≡ uses folder
      by true true k l more =
          let same : e.1 ≡ t = (let h' = rw k at h in cc) in
          let was : IsUsed e.1 = rw l at u in
          let left : e.1.state ≡ leaving = ap (λ (x : TreeValue). x.state) same ∙ gone in
          absurd (no_leaving run (tree_folder mine.instance e.1.number) folder (rw left at was))
      by true false k l more = rw k (rw l at u)
      by false true k l more = rw (k, l) (rw l at u)
      by false false k l more = rw (k, l) (more k l)

  stays_appended : (es : Trees) (e : TreeKey × TreeValue) → held run mine es ≡ uses folder
      → held run mine (es ++ e ∷ []) ≡ uses folder
  stays_appended [] e u = let wrong : nothing ≡ uses folder = u in cc
  stays_appended (f ∷ es) e u = by (same_tree mine f.0) refl (λ l. stays_appended es e (rw l at u))
    where
      by : (c : Bool) → same_tree mine f.0 ≡ c
          → (same_tree mine f.0 ≡ false → held run mine (es ++ e ∷ []) ≡ uses folder)
          → held run mine (f ∷ es ++ e ∷ []) ≡ uses folder
      by true l more = rw l (rw l at u)
      by false l more = rw l (more l)

  stays_let_go : (i : ℕ) (es fs : Trees) → LetGo i es fs → held run mine es ≡ uses folder
      → held run mine fs ≡ uses folder
  stays_let_go i [] [] g u = u
  stays_let_go i [] (f ∷ fs) g u = absurd g
  stays_let_go i (e ∷ es) [] g u = absurd g
  stays_let_go i (e ∷ es) (f ∷ fs) g u =
      by (same_tree mine e.0) refl (λ l. stays_let_go i es fs g.1 (rw l at u))
    where
      key : f.0 ≡ e.0
      key = one_key i e f g.0

      state : IsLetGo e.1 f.1
      state = one_state i e f g.0

      number : e.1.number ≡ f.1.number
      number = elim state [ inl s ↦ ap (λ (x : TreeValue). x.number) (sym s) | inr s ↦ ap (λ (x : TreeValue). x.number) (sym s.1) ]

      by : (c : Bool) → same_tree mine e.0 ≡ c
          → (same_tree mine e.0 ≡ false → held run mine fs ≡ uses folder) → held run mine (f ∷ fs) ≡ uses folder
      by true l more =
          let was : IsUsed e.1 = rw l at u in
          let here : same_tree mine f.0 ≡ true = ap (same_tree mine) key ∙ l in
          rw here (stays_let_go_state run (tree_folder mine.instance f.1.number) folder e.1 f.1 state (rw number at was))
      by false l more = let here : same_tree mine f.0 ≡ false = ap (same_tree mine) key ∙ l in rw here (more l)

  stays_changed : (f : TreeValue → TreeState) (key : TreeKey) (es : Trees)
      → ((t : TreeValue) → IsUsed t → IsUsed (with_state (f t) t)) → held run mine es ≡ uses folder
      → held run mine (changed (λ t. with_state (f t) t) key es) ≡ uses folder
  stays_changed f key es keep u = by (tree_at key es) refl
    where
      by : (o : Option TreeValue) → tree_at key es ≡ o
          → held run mine (changed (λ t. with_state (f t) t) key es) ≡ uses folder
      by None k = rw k u
      by (Some t) k = rw k (stays_set (same_tree key) es t (with_state (f t) t) k (keep t) u)

  pub stays_when_claimed : (other : RunKey) (key : TreeKey) (size : ℕ) (claim : Claim) (old new : StoreValue)
      → IsClaimedSo other key size old new claim → held run mine old.trees ≡ uses folder
      → held run mine new.trees ≡ uses folder
  stays_when_claimed other key size (Bound f) old new h u =
      rw h.0.used (stays_set (same_tree key) old.trees h.0.tree (with_state (whole (h.0.users ++ other ∷ [])) h.0.tree)
      h.0.there (λ was. more_users run (tree_folder mine.instance h.0.tree.number) folder h.0.users other
      (rw h.0.is_whole at was)) u)
  stays_when_claimed other key size (Make f) old new h u =
      subst (λ (s : StoreValue). held run mine s.trees ≡ uses folder) (sym h.begun) (stays_appended old.trees _ u)
  stays_when_claimed other key size Waits old new h u = rw h.0.same u
  stays_when_claimed other key size Copied old new h u = stays_let_go other.instance old.trees new.trees h.trees u

  pub stays_when_finished : (other : RunKey) (key : TreeKey) (es : Trees) → held run mine es ≡ uses folder
      → held run mine (changed (finished other) key es) ≡ uses folder
  stays_when_finished other key es u = stays_changed (λ t. finished_state other t.state) key es
      (λ t was. stays_finished run (tree_folder mine.instance t.number) folder other t.state was) u

  pub stays_when_given_back : (other : RunKey) (key : TreeKey) (es : Trees) → same_run run other ≡ false
      → held run mine es ≡ uses folder → held run mine (changed (given_back other) key es) ≡ uses folder
  stays_when_given_back other key es apart u = stays_changed (λ t. given_back_state other t.state) key es
      (λ t was. stays_given_back run (tree_folder mine.instance t.number) folder other apart t.state was) u

  pub stays_when_removed : (key : TreeKey) (es : Trees) → held run mine es ≡ uses folder
      → held run mine (without_leaving key es) ≡ uses folder
  stays_when_removed key es u = by (tree_at key es) refl
    where
      of_state : (t : TreeValue) (s : TreeState) → tree_at key es ≡ Some t → t.state ≡ s
          → held run mine (if is_leaving s then remove_entry (same_tree key) es else es) ≡ uses folder
      of_state t (making r) k e = u
      of_state t (whole us) k e = u
      of_state t leaving k e = stays_removed (same_tree key) es t k e u

      by : (o : Option TreeValue) → tree_at key es ≡ o → held run mine (without_leaving key es) ≡ uses folder
      by None k = rw k u
      by (Some t) k = rw k (of_state t t.state k refl)

-- ---- a tree that was bound

same_self : (run : RunKey) → same_run run run ≡ true
same_self run = grind arith

any_last : (run : RunKey) (us : List RunKey) → list_any (same_run run) (us ++ run ∷ []) ≡ true
any_last run [] = rw (same_self run) refl
any_last run (x ∷ us) = by (same_run run x) refl (any_last run us)
  where
    by : (b : Bool) → same_run run x ≡ b → list_any (same_run run) (us ++ run ∷ []) ≡ true
        → list_any (same_run run) (x ∷ us ++ run ∷ []) ≡ true
    by true k more = rw k refl
    by false k more = rw k more

found_set : (test : TreeKey → Bool) (es : Trees) (t v : TreeValue) → lookup test es ≡ Some t
    → lookup test (set_value test es v) ≡ Some v
found_set test [] t v h = cc
found_set test (e ∷ es) t v h = by (test e.0) refl (λ k. found_set test es t v (rw k at h))
  where
    by : (b : Bool) → test e.0 ≡ b → (test e.0 ≡ false → lookup test (set_value test es v) ≡ Some v)
        → lookup test (set_value test (e ∷ es) v) ≡ Some v
    by true k more = rw (k, k) refl
    by false k more = rw (k, k) (more k)

pub held_when_bound : (run : RunKey) (key : TreeKey) (folder : RunKey) (old new : Trees)
    → IsBound run key folder old new → held run key new ≡ uses folder
held_when_bound run key folder old new h =
    let v : TreeValue = with_state (whole (h.users ++ run ∷ [])) h.tree in
    let found : tree_at key new ≡ Some v =
    ap (tree_at key) h.used ∙ found_set (same_tree key) old h.tree v h.there in
    rw (found, any_last run h.users) (ap uses (sym h.folder_is))
