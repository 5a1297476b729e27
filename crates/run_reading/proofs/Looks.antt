-- The first connection of a number, and what is owed to one of its streams.
use Rattle.std.proofs.Common.{◌≡◌, ℕ, List, [], ◌∷◌, ◌++◌, refl, ap, ◌∙◌, sym, subst, inl, inr}
use Rattle.std.specs.Prelude.{Bool, true, false, cond, ◌==◌, ◌&&◌, ◌||◌, ◌⊎◌, Option, Some, None}
use Rattle.std.specs.List.{list_any}
use Rattle.std.proofs.lemmas.Bool.{and_parts, cases_Bool, eqb-true}
use Rattle.conn_core.specs.History.{Entry}
use Rattle.conn_core.specs.Past.{Past}
use Rattle.conn_core.proofs.Numbers.{same_number}
use Rattle.grpc_sending.specs.Owed.{Item, items_owed_on}
use Rattle.served_instance.specs.Connections.{LoneConnection, is_open_at, open_at, at_open, with_closed, at_all_open}
use Rattle.run_reading.specs.ReadsBlob.{has_number}

-- a connection, as far as one stream goes
pub record Look : Type 0 where
  pub lives : Bool
  pub history : List Entry
  pub items : List Item

abbrev pub look_of : ℕ → LoneConnection → Look
look_of s k = record { lives = k.is_open; history = k.past.history; items = items_owed_on s k.past.owed }

-- the first of number c
abbrev pub look_at : ℕ → ℕ → List LoneConnection → Option Look
look_at c s [] = None
look_at c s (k ∷ ks) = cond (k.number == c) (Some (look_of s k)) (look_at c s ks)

abbrev pub opened : List Entry → List Item → Look
opened d items = record { lives = true; history = d; items = items }

abbrev pub closed : List Entry → List Item → Look
closed d items = record { lives = false; history = d; items = items }

-- ---- a step

-- that changes neither what was heard nor what is owed to the stream
abbrev pub IsQuiet : ℕ → (Past → Past) → Type 0
IsQuiet s step = (p : Past) → ((step p).history ≡ p.history) × (items_owed_on s (step p).owed ≡ items_owed_on s p.owed)

same_look : (s : ℕ) (k : LoneConnection) (step : Past → Past) → IsQuiet s step → look_of s (record k { past = step k.past }) ≡ look_of s k
same_look s k step quiet =
    let q = quiet k.past in
    let of_history : List Entry → Look = λ d. record { lives = k.is_open; history = d; items = items_owed_on s (step k.past).owed } in
    let of_items : List Item → Look = λ is. record { lives = k.is_open; history = k.past.history; items = is } in
    ap of_history q.0 ∙ ap of_items q.1

pub quiet_look : (c n s : ℕ) (step : Past → Past) (ks : List LoneConnection) → IsQuiet s step →
    look_at c s (at_open n step ks) ≡ look_at c s ks
quiet_look c n s step [] quiet = refl
quiet_look c n s step (k ∷ ks) quiet = go (is_open_at n k) (quiet_look c n s step ks quiet) where
  go : (b : Bool) → look_at c s (at_open n step ks) ≡ look_at c s ks →
      look_at c s (cond b (record k { past = step k.past } ∷ ks) (k ∷ at_open n step ks))
      ≡ cond (k.number == c) (Some (look_of s k)) (look_at c s ks)
  go true later = ap (λ (x : Look). cond (k.number == c) (Some x) (look_at c s ks)) (same_look s k step quiet)
  go false later = ap (λ (o : Option Look). cond (k.number == c) (Some (look_of s k)) o) later

-- a step of a connection of another number
number_of : (n : ℕ) (k : LoneConnection) → is_open_at n k ≡ true → k.number ≡ n
number_of n k h = eqb-true k.number n (and_parts k.is_open (k.number == n) h).1

pub other_look : (c n s : ℕ) (step : Past → Past) (ks : List LoneConnection) → (n == c) ≡ false →
    look_at c s (at_open n step ks) ≡ look_at c s ks
other_look c n s step [] other = refl
other_look c n s step (k ∷ ks) other = go (is_open_at n k) refl (other_look c n s step ks other) where
  go : (b : Bool) → is_open_at n k ≡ b → look_at c s (at_open n step ks) ≡ look_at c s ks →
      look_at c s (cond b (record k { past = step k.past } ∷ ks) (k ∷ at_open n step ks))
      ≡ cond (k.number == c) (Some (look_of s k)) (look_at c s ks)
  go true at later =
      let apart : (k.number == c) ≡ false = subst (λ (m : ℕ). (m == c) ≡ false) (sym (number_of n k at)) other in
      ap (λ b. cond b (Some (look_of s (record k { past = step k.past }))) (look_at c s ks)) apart
      ∙ sym (ap (λ b. cond b (Some (look_of s k)) (look_at c s ks)) apart)
  go false at later = ap (λ (o : Option Look). cond (k.number == c) (Some (look_of s k)) o) later

-- ---- the connection itself

pub none_is_open : (c s : ℕ) (ks : List LoneConnection) → look_at c s ks ≡ None → open_at c ks ≡ None
none_is_open c s [] h = refl
none_is_open c s (k ∷ ks) h = go (k.number == c) refl h (λ later. none_is_open c s ks later) where
  not_here : (b o : Bool) → b ≡ false → (o && b) ≡ false
  not_here b true h = h
  not_here b false h = refl

  go : (b : Bool) → (k.number == c) ≡ b → cond b (Some (look_of s k)) (look_at c s ks) ≡ None →
      (look_at c s ks ≡ None → open_at c ks ≡ None) → cond (is_open_at c k) (Some k.past) (open_at c ks) ≡ None
  go true at is later = absurd (let z : ⊥ = cc in z)
  go false at is later = ap (λ b. cond b (Some k.past) (open_at c ks)) (not_here (k.number == c) k.is_open at) ∙ later is

-- what passed on it, where it is open
pub record IsPastOf (c s : ℕ) (ks : List LoneConnection) (x : Look) : Type 0 where
  pub past : Past
  pub lives : open_at c ks ≡ Some past
  pub history : past.history ≡ x.history
  pub items : items_owed_on s past.owed ≡ x.items
  pub step : (next : Past → Past) → look_at c s (at_open c next ks) ≡ Some (opened (next past).history (items_owed_on s (next past).owed))

pub past_of : (c s : ℕ) (ks : List LoneConnection) (x : Look) → x.lives ≡ true → look_at c s ks ≡ Some x → IsPastOf c s ks x
past_of c s [] x lives h = absurd (let z : ⊥ = cc in z)
past_of c s (k ∷ ks) x lives h = go (k.number == c) refl h (λ later. past_of c s ks x lives later) where
  off_open : (b o : Bool) → b ≡ false → (o && b) ≡ false
  off_open b true h = h
  off_open b false h = refl

  go : (b : Bool) → (k.number == c) ≡ b → cond b (Some (look_of s k)) (look_at c s ks) ≡ Some x →
      (look_at c s ks ≡ Some x → IsPastOf c s ks x) → IsPastOf c s (k ∷ ks) x
  go true at is later =
      let same : look_of s k ≡ x = cc in
      let here : k.is_open ≡ true = ap (λ (y : Look). y.lives) same ∙ lives in
      let found : is_open_at c k ≡ true = ap (λ b. b && k.number == c) here ∙ at in
      record {
        past = k.past;
        lives = ap (λ b. cond b (Some k.past) (open_at c ks)) found;
        history = ap (λ (y : Look). y.history) same;
        items = ap (λ (y : Look). y.items) same;
        step = λ next.
            ap (λ b. look_at c s (cond b (record k { past = next k.past } ∷ ks) (k ∷ at_open c next ks))) found
            ∙ ap (λ b. cond b (Some (look_of s (record k { past = next k.past }))) (look_at c s ks)) at
            ∙ ap (λ b. Some (record { lives = b; history = (next k.past).history; items = items_owed_on s (next k.past).owed })) here;
      }
  go false at is later =
      let p = later is in
      let off : is_open_at c k ≡ false = off_open (k.number == c) k.is_open at in
      record {
        past = p.past;
        lives = ap (λ b. cond b (Some k.past) (open_at c ks)) off ∙ p.lives;
        history = p.history;
        items = p.items;
        step = λ next.
            ap (λ b. look_at c s (cond b (record k { past = next k.past } ∷ ks) (k ∷ at_open c next ks))) off
            ∙ ap (λ b. cond b (Some (look_of s k)) (look_at c s (at_open c next ks))) at ∙ p.step next;
      }

-- where there is none
pub none_look : (c n s : ℕ) (step : Past → Past) (ks : List LoneConnection) → look_at c s ks ≡ None → look_at c s (at_open n step ks) ≡ None
none_look c n s step [] h = refl
none_look c n s step (k ∷ ks) h = go (k.number == c) (is_open_at n k) refl h (λ later. none_look c n s step ks later) where
  go : (b o : Bool) → (k.number == c) ≡ b → cond b (Some (look_of s k)) (look_at c s ks) ≡ None →
      (look_at c s ks ≡ None → look_at c s (at_open n step ks) ≡ None)
      → look_at c s (cond o (record k { past = step k.past } ∷ ks) (k ∷ at_open n step ks)) ≡ None
  go true o at is later = absurd (let z : ⊥ = cc in z)
  go false true at is later = ap (λ b. cond b (Some (look_of s (record k { past = step k.past }))) (look_at c s ks)) at ∙ is
  go false false at is later = ap (λ b. cond b (Some (look_of s k)) (look_at c s (at_open n step ks))) at ∙ later is

-- where it is closed, a step of another one of its number
pub closed_look : (c s : ℕ) (step : Past → Past) (ks : List LoneConnection) (x : Look) → x.lives ≡ false → look_at c s ks ≡ Some x →
    look_at c s (at_open c step ks) ≡ Some x
closed_look c s step [] x shut h = absurd (let z : ⊥ = cc in z)
closed_look c s step (k ∷ ks) x shut h = go (k.number == c) refl h (λ later. closed_look c s step ks x shut later) where
  off_open : (b o : Bool) → b ≡ false → (o && b) ≡ false
  off_open b true h = h
  off_open b false h = refl

  go : (b : Bool) → (k.number == c) ≡ b → cond b (Some (look_of s k)) (look_at c s ks) ≡ Some x →
      (look_at c s ks ≡ Some x → look_at c s (at_open c step ks) ≡ Some x)
      → look_at c s (cond (is_open_at c k) (record k { past = step k.past } ∷ ks) (k ∷ at_open c step ks)) ≡ Some x
  go true at is later =
      let same : look_of s k ≡ x = cc in
      let off : is_open_at c k ≡ false = ap (λ b. b && k.number == c) (ap (λ (y : Look). y.lives) same ∙ shut) in
      ap (λ b. look_at c s (cond b (record k { past = step k.past } ∷ ks) (k ∷ at_open c step ks))) off
      ∙ ap (λ b. cond b (Some (look_of s k)) (look_at c s (at_open c step ks))) at ∙ is
  go false at is later =
      let off : is_open_at c k ≡ false = off_open (k.number == c) k.is_open at in
      ap (λ b. look_at c s (cond b (record k { past = step k.past } ∷ ks) (k ∷ at_open c step ks))) off
      ∙ ap (λ b. cond b (Some (look_of s k)) (look_at c s (at_open c step ks))) at ∙ later is

-- ---- closing

pub other_closing : (c n s : ℕ) (ks : List LoneConnection) → (n == c) ≡ false → look_at c s (with_closed n ks) ≡ look_at c s ks
other_closing c n s [] other = refl
other_closing c n s (k ∷ ks) other = go (is_open_at n k) refl (other_closing c n s ks other) where
  go : (b : Bool) → is_open_at n k ≡ b → look_at c s (with_closed n ks) ≡ look_at c s ks →
      look_at c s (cond b (record k { is_open = false } ∷ ks) (k ∷ with_closed n ks))
      ≡ cond (k.number == c) (Some (look_of s k)) (look_at c s ks)
  go true at later =
      let apart : (k.number == c) ≡ false = subst (λ (m : ℕ). (m == c) ≡ false) (sym (number_of n k at)) other in
      ap (λ b. cond b (Some (look_of s (record k { is_open = false }))) (look_at c s ks)) apart
      ∙ sym (ap (λ b. cond b (Some (look_of s k)) (look_at c s ks)) apart)
  go false at later = ap (λ (o : Option Look). cond (k.number == c) (Some (look_of s k)) o) later

-- its own
pub own_closing : (c s : ℕ) (ks : List LoneConnection) (x : Look) → look_at c s ks ≡ Some x →
    look_at c s (with_closed c ks) ≡ Some (closed x.history x.items)
own_closing c s [] x h = absurd (let z : ⊥ = cc in z)
own_closing c s (k ∷ ks) x h = go (k.number == c) k.is_open refl refl h (λ later. own_closing c s ks x later) where
  shut : List Entry → List Item → Look
  shut d items = closed d items

  go : (b o : Bool) → (k.number == c) ≡ b → k.is_open ≡ o → cond b (Some (look_of s k)) (look_at c s ks) ≡ Some x →
      (look_at c s ks ≡ Some x → look_at c s (with_closed c ks) ≡ Some (closed x.history x.items))
      → look_at c s (cond (is_open_at c k) (record k { is_open = false } ∷ ks) (k ∷ with_closed c ks)) ≡ Some (closed x.history x.items)
  go true true at lives is later =
      let same : look_of s k ≡ x = cc in
      let found : is_open_at c k ≡ true = ap (λ b. b && k.number == c) lives ∙ at in
      ap (λ b. look_at c s (cond b (record k { is_open = false } ∷ ks) (k ∷ with_closed c ks))) found
      ∙ ap (λ b. cond b (Some (look_of s (record k { is_open = false }))) (look_at c s ks)) at
      ∙ ap (λ (y : Look). Some (closed y.history y.items)) same
  go true false at lives is later =
      let same : look_of s k ≡ x = cc in
      let off : is_open_at c k ≡ false = ap (λ b. b && k.number == c) lives in
      ap (λ b. look_at c s (cond b (record k { is_open = false } ∷ ks) (k ∷ with_closed c ks))) off
      ∙ ap (λ b. cond b (Some (look_of s k)) (look_at c s (with_closed c ks))) at
      ∙ ap (λ b. Some (record { lives = b; history = k.past.history; items = items_owed_on s k.past.owed })) lives
      ∙ ap (λ (y : Look). Some (closed y.history y.items)) same
  go false o at lives is later =
      let off : is_open_at c k ≡ false = off_open (k.number == c) k.is_open at in
      ap (λ b. look_at c s (cond b (record k { is_open = false } ∷ ks) (k ∷ with_closed c ks))) off
      ∙ ap (λ b. cond b (Some (look_of s k)) (look_at c s (with_closed c ks))) at ∙ later is
    where
      off_open : (b o : Bool) → b ≡ false → (o && b) ≡ false
      off_open b true h = h
      off_open b false h = refl

pub no_closing : (c s : ℕ) (n : ℕ) (ks : List LoneConnection) → look_at c s ks ≡ None → look_at c s (with_closed n ks) ≡ None
no_closing c s n [] h = refl
no_closing c s n (k ∷ ks) h = go (k.number == c) (is_open_at n k) refl h (λ later. no_closing c s n ks later) where
  go : (b o : Bool) → (k.number == c) ≡ b → cond b (Some (look_of s k)) (look_at c s ks) ≡ None →
      (look_at c s ks ≡ None → look_at c s (with_closed n ks) ≡ None)
      → look_at c s (cond o (record k { is_open = false } ∷ ks) (k ∷ with_closed n ks)) ≡ None
  go true o at is later = absurd (let z : ⊥ = cc in z)
  go false true at is later = ap (λ b. cond b (Some (look_of s (record k { is_open = false }))) (look_at c s ks)) at ∙ is
  go false false at is later = ap (λ b. cond b (Some (look_of s k)) (look_at c s (with_closed n ks))) at ∙ later is

-- ---- opening

pub more_look : (c s : ℕ) (ks js : List LoneConnection) (x : Look) → look_at c s ks ≡ Some x → look_at c s (ks ++ js) ≡ Some x
more_look c s [] js x h = absurd (let z : ⊥ = cc in z)
more_look c s (k ∷ ks) js x h = go (k.number == c) h (λ later. more_look c s ks js x later) where
  go : (b : Bool) → cond b (Some (look_of s k)) (look_at c s ks) ≡ Some x → (look_at c s ks ≡ Some x → look_at c s (ks ++ js) ≡ Some x) →
      cond b (Some (look_of s k)) (look_at c s (ks ++ js)) ≡ Some x
  go true is later = is
  go false is later = later is

pub new_look : (c s : ℕ) (ks js : List LoneConnection) → look_at c s ks ≡ None → look_at c s (ks ++ js) ≡ look_at c s js
new_look c s [] js h = refl
new_look c s (k ∷ ks) js h = go (k.number == c) h (λ later. new_look c s ks js later) where
  go : (b : Bool) → cond b (Some (look_of s k)) (look_at c s ks) ≡ None →
      (look_at c s ks ≡ None → look_at c s (ks ++ js) ≡ look_at c s js) →
      cond b (Some (look_of s k)) (look_at c s (ks ++ js)) ≡ look_at c s js
  go true is later = absurd (let z : ⊥ = cc in z)
  go false is later = later is

-- ---- a step of all that are open

-- what it makes of one: what was heard may change, and what is owed not
pub record IsStepped (step : Past → Past) (s : ℕ) (x y : Look) : Type 0 where
  pub lives : y.lives ≡ x.lives
  pub items : y.items ≡ x.items
  pub history : (y.history ≡ x.history) ⊎ ((p : Past) × (p.history ≡ x.history) × (y.history ≡ (step p).history))

pub record StepsTo (step : Past → Past) (c s : ℕ) (ks : List LoneConnection) (x : Look) : Type 0 where
  pub then : Look
  pub look : look_at c s (at_all_open step ks) ≡ Some then
  pub stepped : IsStepped step s x then

pub all_look : (step : Past → Past) (c s : ℕ) (ks : List LoneConnection) (x : Look) → ((p : Past) → (step p).owed ≡ p.owed) →
    look_at c s ks ≡ Some x → StepsTo step c s ks x
all_look step c s [] x same h = absurd (let z : ⊥ = cc in z)
all_look step c s (k ∷ ks) x same h = go (k.number == c) k.is_open refl refl h (λ later. all_look step c s ks x same later) where
  go : (b o : Bool) → (k.number == c) ≡ b → k.is_open ≡ o → cond b (Some (look_of s k)) (look_at c s ks) ≡ Some x →
      (look_at c s ks ≡ Some x → StepsTo step c s ks x) → StepsTo step c s (k ∷ ks) x
  go true true at lives is later =
      let is_x : look_of s k ≡ x = cc in
      record {
        then = look_of s (record k { past = step k.past });
        look = ap (λ b. look_at c s (cond b (record k { past = step k.past }) k ∷ at_all_open step ks)) lives
            ∙ ap (λ b. cond b (Some (look_of s (record k { past = step k.past }))) (look_at c s (at_all_open step ks))) at;
        stepped = record {
          lives = ap (λ (y : Look). y.lives) is_x;
          items = ap (items_owed_on s) (same k.past) ∙ ap (λ (y : Look). y.items) is_x;
          history = inr (k.past, ap (λ (y : Look). y.history) is_x, refl);
        };
      }
  go true false at lives is later =
      let is_x : look_of s k ≡ x = cc in
      record {
        then = look_of s k;
        look = ap (λ b. look_at c s (cond b (record k { past = step k.past }) k ∷ at_all_open step ks)) lives
            ∙ ap (λ b. cond b (Some (look_of s k)) (look_at c s (at_all_open step ks))) at;
        stepped = record {
          lives = ap (λ (y : Look). y.lives) is_x;
          items = ap (λ (y : Look). y.items) is_x;
          history =
              inl (ap (λ (y : Look). y.history) is_x);
        };
      }
  go false o at lives is later =
      let l = later is in
      record { then = l.then; look = off o lives ∙ l.look; stepped = l.stepped } where
        off : (o : Bool) → k.is_open ≡ o → look_at c s (cond k.is_open (record k { past = step k.past }) k ∷ at_all_open step ks)
            ≡ look_at c s (at_all_open step ks)
        off o' open' = skip k.is_open where
          skip : (b : Bool) → look_at c s (cond b (record k { past = step k.past }) k ∷ at_all_open step ks)
              ≡ look_at c s (at_all_open step ks)
          skip true = ap (λ b. cond b (Some (look_of s (record k { past = step k.past }))) (look_at c s (at_all_open step ks))) at
          skip false = ap (λ b. cond b (Some (look_of s k)) (look_at c s (at_all_open step ks))) at

pub none_stepped : (step : Past → Past) (c s : ℕ) (ks : List LoneConnection) → look_at c s ks ≡ None →
    look_at c s (at_all_open step ks) ≡ None
none_stepped step c s [] h = refl
none_stepped step c s (k ∷ ks) h = go (k.number == c) k.is_open refl h (λ later. none_stepped step c s ks later) where
  go : (b o : Bool) → (k.number == c) ≡ b → cond b (Some (look_of s k)) (look_at c s ks) ≡ None →
      (look_at c s ks ≡ None → look_at c s (at_all_open step ks) ≡ None)
      → look_at c s (cond o (record k { past = step k.past }) k ∷ at_all_open step ks) ≡ None
  go true o at is later = absurd (let z : ⊥ = cc in z)
  go false true at is later = ap (λ b. cond b (Some (look_of s (record k { past = step k.past }))) (look_at c s (at_all_open step ks))) at
      ∙ later is
  go false false at is later = ap (λ b. cond b (Some (look_of s k)) (look_at c s (at_all_open step ks))) at ∙ later is

-- ---- among all

pub first_look : (s : ℕ) (before after : List LoneConnection) (k : LoneConnection) → has_number k.number before ≡ false →
    look_at k.number s (before ++ k ∷ after) ≡ Some (look_of s k)
first_look s [] after k none = ap (λ b. cond b (Some (look_of s k)) (look_at k.number s after)) (same_number k.number)
first_look s (j ∷ before) after k none = go (j.number == k.number) refl none (λ later. first_look s before after k later) where
  go : (b : Bool) → (j.number == k.number) ≡ b → (b || has_number k.number before) ≡ false →
      (has_number k.number before ≡ false → look_at k.number s (before ++ k ∷ after) ≡ Some (look_of s k)) →
      cond (j.number == k.number) (Some (look_of s j)) (look_at k.number s (before ++ k ∷ after)) ≡ Some (look_of s k)
  go true at is later = absurd (let z : ⊥ = cc in z)
  go false at is later = ap (λ b. cond b (Some (look_of s j)) (look_at k.number s (before ++ k ∷ after))) at ∙ later is
