-- Dividing a text into items from left to right. An item is a head of a fixed length and what
-- stands behind it, as long as the head says.
use Rattle.std.specs.Prelude.{◌≡◌, ℕ, zero, suc, ◌+◌, ◌<◌, ◌≤◌, List, [], ◌∷◌, ◌++◌, length, drop, Option, Some, None, Result, Ok, Err}

-- the length of a head; what stands at the front of a text: how many bytes belong behind the head
-- of the item there, if it is whole, or why no item can be read; and that item
pub record Format (A E : Type 0) : Type 0 where
  pub head : ℕ
  pub whole_at : List ℕ → Result (Option ℕ) E
  pub item_at : List ℕ → A

-- what a text divides into: whole items, and then a rest or a fault
pub record Division (A E : Type 0) : Type 0 where
  pub items : List A
  pub end : Result (List ℕ) E

abbrev pub behind : {A E : Type 0} → List A → Division A E → Division A E
behind given d = record { items = given ++ d.items; end = d.end }

abbrev pub rest_only : {A E : Type 0} → List ℕ → Division A E
rest_only bytes = record { items = []; end = Ok bytes }

abbrev pub fault_only : {A E : Type 0} → E → Division A E
fault_only e = record { items = []; end = Err e }

-- the bytes divided by what stands at their front, and what follows it by another division
abbrev pub divide_by : {A E : Type 0} → Format A E → Result (Option ℕ) E → List ℕ →
    (List ℕ → Division A E) → Division A E
divide_by f (Ok None) bytes later = rest_only bytes
divide_by f (Ok (Some n)) bytes later =
    behind (f.item_at bytes ∷ []) (later (drop (f.head + n) bytes))
divide_by f (Err e) bytes later = fault_only e

-- at most so many items
unfoldable pub divide_in : {A E : Type 0} → Format A E → ℕ → List ℕ → Division A E
divide_in f zero bytes = rest_only bytes
divide_in f (suc more) bytes = divide_by f (f.whole_at bytes) bytes (divide_in f more)

-- a text has fewer items than bytes
abbrev pub divide : {A E : Type 0} → Format A E → List ℕ → Division A E
divide f text = divide_in f (suc (length text)) text

-- what is left of a text, and the bytes that follow it
abbrev pub divide_left : {A E : Type 0} → Format A E → Result (List ℕ) E → List ℕ → Division A E
divide_left f (Ok rest) more = divide f (rest ++ more)
divide_left f (Err e) more = fault_only e

-- a head has a byte at least, and what is whole or refused at the front of a text stays so,
-- whatever follows
pub record IsSteady {A E : Type 0} (f : Format A E) : Type 0 where
  pub some : 0 < f.head
  pub fits : (t : List ℕ) (n : ℕ) → f.whole_at t ≡ Ok (Some n) → f.head + n ≤ length t
  pub whole : (t more : List ℕ) (n : ℕ) → f.whole_at t ≡ Ok (Some n) →
      f.whole_at (t ++ more) ≡ Ok (Some n)
  pub item : (t more : List ℕ) (n : ℕ) → f.whole_at t ≡ Ok (Some n) →
      f.item_at (t ++ more) ≡ f.item_at t
  pub fault : (t more : List ℕ) (e : E) → f.whole_at t ≡ Err e → f.whole_at (t ++ more) ≡ Err e

-- behind these items of a text stand those of what is left of it, whatever follows
abbrev pub AreItemsSoFar : {A E : Type 0} → (List ℕ → Division A E) → (List ℕ → Division A E) →
    List ℕ → List A → Type 0
AreItemsSoFar divided left text given =
    (more : List ℕ) → divided (text ++ more) ≡ behind given (left more)
