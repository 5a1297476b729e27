-- The division of a text, by what stands at its front; when more follows; and as the grammar has it.
use Rattle.std.proofs.Common.{◌≡◌, ℕ, zero, suc, ◌+◌, ◌<◌, List, [], ◌∷◌, ◌++◌, length, take, drop, Option, Some, None, Result, Ok, Err, refl, sym, ap, subst, ◌∙◌, append_assoc, arith}
use Rattle.std.specs.List.{AllByRecursion}
use Rattle.std.proofs.Math.Seq.{drop-append_seam}
use Rattle.std.proofs.lemmas.List.{append-nil, drop-append-le, length-drop, take-append-drop}
use Rattle.http2_frames.specs.Items.{Format, Division, behind, rest_only, fault_only, divide_by, divide_in, divide, divide_left, IsSteady}
use Rattle.http2_frames.specs.Grammar.{Spells, IsDivision, Reads}

pub behind_both : {A E : Type 0} (xs ys : List A) (d : Division A E) → behind xs (behind ys d) ≡ behind (xs ++ ys) d
behind_both {A = A} xs ys d = ap (λ (zs : List A). record { items = zs; end = d.end }) (sym (append_assoc xs ys d.items))

-- the items of the one division and then others; after a fault nothing is added
pub record Grows {A E : Type 0} (d e : Division A E) : Type 0 where
  pub more : (later : List A) × (e.items ≡ d.items ++ later)
  pub ended : (x : E) → d.end ≡ Err x → e ≡ d

module _ {A E : Type 0} (f : Format A E) (steady : IsSteady f) where
  shrinks : (t : List ℕ) (n : ℕ) → f.whole_at t ≡ Ok (Some n) → length (drop (f.head + n) t) < length t
  shrinks t n e = let some = steady.some in let fits = steady.fits t n e in omega (arith, length-drop (f.head + n) t)

  abbrev IsSame : (List ℕ → Division A E) → (List ℕ → Division A E) → List ℕ → Type 0
  IsSame g h t = (r : List ℕ) → length r < length t → g r ≡ h r

  same_by : (w : Result (Option ℕ) E) (t : List ℕ) (g h : List ℕ → Division A E) → f.whole_at t ≡ w → IsSame g h t →
      divide_by f w t g ≡ divide_by f w t h
  same_by (Ok None) t g h e same = refl
  same_by (Err x) t g h e same = refl
  same_by (Ok (Some n)) t g h e same = ap (behind (f.item_at t ∷ [])) (same (drop (f.head + n) t) (shrinks t n e))

  -- more steps than bytes change nothing
  divide_fuel : (j k : ℕ) (t : List ℕ) → length t < j → length t < k → divide_in f j t ≡ divide_in f k t
  unfolding divide_in
  divide_fuel zero k t p q = absurd (omega arith)
  divide_fuel (suc j) zero t p q = absurd (omega arith)
  divide_fuel (suc j) (suc k) t p q = same_by (f.whole_at t) t (divide_in f j) (divide_in f k) refl
      (λ r less. divide_fuel j k r (omega arith) (omega arith))

  pub divide_at : (t : List ℕ) (w : Result (Option ℕ) E) → f.whole_at t ≡ w → divide f t ≡ divide_by f w t (divide f)
  unfolding divide_in
  divide_at t w e =
      same_by (f.whole_at t) t (divide_in f (length t)) (divide f) refl
      (λ r less. divide_fuel (length t) (suc (length r)) r less (omega arith))
      ∙ ap (λ (v : Result (Option ℕ) E). divide_by f v t (divide f)) e

  pub divide_partial : (t : List ℕ) → f.whole_at t ≡ Ok None → divide f t ≡ rest_only t
  divide_partial t e = divide_at t (Ok None) e

  pub divide_fault : (t : List ℕ) (x : E) → f.whole_at t ≡ Err x → divide f t ≡ fault_only x
  divide_fault t x e = divide_at t (Err x) e

  pub divide_whole : (t : List ℕ) (n : ℕ) → f.whole_at t ≡ Ok (Some n) →
      divide f t ≡ behind (f.item_at t ∷ []) (divide f (drop (f.head + n) t))
  divide_whole t n e = divide_at t (Ok (Some n)) e

  -- a whole item stays the first one, whatever follows
  pub divide_whole_more : (t more : List ℕ) (n : ℕ) → f.whole_at t ≡ Ok (Some n) →
      divide f (t ++ more) ≡ behind (f.item_at t ∷ []) (divide f (drop (f.head + n) t ++ more))
  divide_whole_more t more n e =
      divide_whole (t ++ more) n (steady.whole t more n e)
      ∙ ap (λ (x : A). behind (x ∷ []) (divide f (drop (f.head + n) (t ++ more)))) (steady.item t more n e)
      ∙ ap (λ (r : List ℕ). behind (f.item_at t ∷ []) (divide f r)) (drop-append-le (f.head + n) t more (steady.fits t n e))

  pub divide_fault_more : (t more : List ℕ) (x : E) → f.whole_at t ≡ Err x → divide f (t ++ more) ≡ fault_only x
  divide_fault_more t more x e = divide_fault (t ++ more) x (steady.fault t more x e)

  -- ---- a text that grows

  abbrev IsFront : List ℕ → Division A E → Division A E → Type 0
  IsFront more d e = e ≡ behind d.items (divide_left f d.end more)

  continues_in : (k : ℕ) (t more : List ℕ) → length t < k → IsFront more (divide f t) (divide f (t ++ more))
  continues_in zero t more p = absurd (omega arith)
  continues_in (suc k) t more p = go (f.whole_at t) refl (λ (r : List ℕ) (q : length r < k). continues_in k r more q) where
    go : (w : Result (Option ℕ) E) → f.whole_at t ≡ w → ((r : List ℕ) → length r < k → IsFront more (divide f r) (divide f (r ++ more))) →
        IsFront more (divide f t) (divide f (t ++ more))
    go (Ok None) e others = subst (λ (d : Division A E). IsFront more d (divide f (t ++ more))) (sym (divide_partial t e)) refl
    go (Err x) e others = subst (λ (d : Division A E). IsFront more d (divide f (t ++ more))) (sym (divide_fault t x e))
        (divide_fault_more t more x e)
    go (Ok (Some n)) e others =
        let r : List ℕ = drop (f.head + n) t in
        let less = shrinks t n e in
        subst (λ (d : Division A E). IsFront more d (divide f (t ++ more))) (sym (divide_whole t n e))
        (divide_whole_more t more n e ∙ ap (behind (f.item_at t ∷ [])) (others r (omega arith))
        ∙ behind_both (f.item_at t ∷ []) (divide f r).items (divide_left f (divide f r).end more))

  pub continues : (t more : List ℕ) → divide f (t ++ more) ≡ behind (divide f t).items (divide_left f (divide f t).end more)
  continues t more = continues_in (suc (length t)) t more (omega arith)

  pub grows : (t more : List ℕ) → Grows (divide f t) (divide f (t ++ more))
  grows t more = record {
    more = ((divide_left f (divide f t).end more).items, ap (λ (d : Division A E). d.items) (continues t more));
    ended = λ x h.
        continues t more ∙ ap (λ (r : Result (List ℕ) E). behind (divide f t).items (divide_left f r more)) h
        ∙ ap (λ (xs : List A). record { items = xs; end = Err x }) (append-nil (divide f t).items)
        ∙ ap (λ (r : Result (List ℕ) E). record { items = (divide f t).items; end = r }) (sym h);
  }

  -- ---- what holds of each whole item

  all_in : (P : A → Type 0) (k : ℕ) (t : List ℕ) → ((r : List ℕ) (n : ℕ) → f.whole_at r ≡ Ok (Some n) → P (f.item_at r)) →
      AllByRecursion P (divide_in f k t).items
  unfolding divide_in
  all_in P zero t each = tt
  all_in P (suc k) t each = go (f.whole_at t) refl (λ r. all_in P k r each) where
    go : (w : Result (Option ℕ) E) → f.whole_at t ≡ w → ((r : List ℕ) → AllByRecursion P (divide_in f k r).items) →
        AllByRecursion P (divide_by f w t (divide_in f k)).items
    go (Ok None) e others = tt
    go (Err x) e others = tt
    go (Ok (Some n)) e others = (each t n e, others (drop (f.head + n) t))

  pub all_items : (P : A → Type 0) (t : List ℕ) → ((r : List ℕ) (n : ℕ) → f.whole_at r ≡ Ok (Some n) → P (f.item_at r)) →
      AllByRecursion P (divide f t).items
  all_items P t each = all_in P (suc (length t)) t each

  -- ---- the grammar

  module _ (IsItem : List ℕ → A → Type 0) (IsEnd : List ℕ → Result (List ℕ) E → Type 0) (reads : Reads f IsItem IsEnd) where
    pub divide_after : (x : List ℕ) (item : A) (rest : List ℕ) → IsItem x item → divide f (x ++ rest) ≡ behind (item ∷ []) (divide f rest)
    divide_after x item rest h =
        let one = reads.item x item h in
        divide_whole_more x rest one.size one.whole
        ∙ ap (λ (y : A). behind (y ∷ []) (divide f (drop (f.head + one.size) x ++ rest))) one.is
        ∙ ap (λ (r : List ℕ). behind (item ∷ []) (divide f r)) (past one.size one.sized) where
          past : (n : ℕ) → f.head + n ≡ length x → drop (f.head + n) x ++ rest ≡ rest
          past n e = sym (drop-append-le (f.head + n) x rest (omega arith)) ∙ ap (λ (k : ℕ). drop k (x ++ rest)) e ∙ drop-append_seam x rest

    only_from : (front rest : List ℕ) (items : List A) (end : Result (List ℕ) E) → Spells IsItem front items → IsEnd rest end →
        divide f (front ++ rest) ≡ record { items = items; end = end }
    only_from front rest [] (Ok r) h e =
        let at = reads.rest rest r e in
        ap (λ (q : List ℕ). divide f (q ++ rest)) h ∙ divide_partial rest at.1 ∙ ap rest_only at.0
    only_from front rest [] (Err x) h e = ap (λ (q : List ℕ). divide f (q ++ rest)) h ∙ divide_fault rest x (reads.fault rest x e)
    only_from front rest (x ∷ xs) end h e =
        ap (divide f) (ap (λ (q : List ℕ). q ++ rest) h.2 ∙ append_assoc h.0 h.1 rest)
        ∙ divide_after h.0 x (h.1 ++ rest) h.3
        ∙ ap (behind (x ∷ [])) (only_from h.1 rest xs end h.4 e)

    pub division_only : (t : List ℕ) (d : Division A E) → IsDivision IsItem IsEnd t d → divide f t ≡ d
    division_only t d h = ap (divide f) h.parts ∙ only_from h.front h.rest d.items d.end h.items h.end

    found_in : (k : ℕ) (t : List ℕ) → length t < k → IsDivision IsItem IsEnd t (divide_in f k t)
    unfolding divide_in
    found_in zero t p = absurd (omega arith)
    found_in (suc k) t p = go (f.whole_at t) refl (λ r less. found_in k r less) where
      go : (w : Result (Option ℕ) E) → f.whole_at t ≡ w → ((r : List ℕ) → length r < k → IsDivision IsItem IsEnd r (divide_in f k r)) →
          IsDivision IsItem IsEnd t (divide_by f w t (divide_in f k))
      go (Ok None) e others = record { front = []; rest = t; parts = refl; items = refl; end = reads.is_rest t e }
      go (Err x) e others = record { front = []; rest = t; parts = refl; items = refl; end = reads.is_fault t x e }
      go (Ok (Some n)) e others =
          let m : ℕ = f.head + n in
          let less = shrinks t n e in
          let later = others (drop m t) (omega arith) in
          record {
            front = take m t ++ later.front;
            rest = later.rest;
            parts = sym (take-append-drop m t) ∙ ap (λ (q : List ℕ). take m t ++ q) later.parts
                ∙ sym (append_assoc (take m t) later.front later.rest);
            items = (take m t, later.front, refl, reads.is_item t n e, later.items);
            end = later.end;
          }

    pub division_found : (t : List ℕ) → IsDivision IsItem IsEnd t (divide f t)
    division_found t = found_in (suc (length t)) t (omega arith)
