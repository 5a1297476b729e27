-- Items as a grammar has them: which bytes are an item, and what can stand behind the last one.
use Rattle.std.specs.Prelude.{◌≡◌, ℕ, ◌+◌, List, [], ◌∷◌, ◌++◌, length, take, Some, None, Result, Ok, Err}
use Rattle.http2_frames.specs.Items.{Format, Division}

-- one item after another, and nothing else
abbrev pub Spells : {A : Type 0} → (List ℕ → A → Type 0) → List ℕ → List A → Type 0
Spells IsItem text [] = text ≡ []
Spells IsItem text (x ∷ xs) =
    (front : List ℕ) × (rest : List ℕ) × (text ≡ front ++ rest) × IsItem front x
    × Spells IsItem rest xs

-- the text is these items, and then its end
pub record IsDivision {A E : Type 0} (IsItem : List ℕ → A → Type 0)
    (IsEnd : List ℕ → Result (List ℕ) E → Type 0) (text : List ℕ) (d : Division A E) : Type 0 where
  pub front : List ℕ
  pub rest : List ℕ
  pub parts : text ≡ front ++ rest
  pub items : Spells IsItem front d.items
  pub end : IsEnd rest d.end

-- an item's text and nothing else stands there, and so many bytes are behind the head
pub record IsOneItem {A E : Type 0} (f : Format A E) (text : List ℕ) (item : A) : Type 0 where
  pub size : ℕ
  pub whole : f.whole_at text ≡ Ok (Some size)
  pub sized : f.head + size ≡ length text
  pub is : f.item_at text ≡ item

-- what the format finds is what the grammar has
pub record Reads {A E : Type 0} (f : Format A E) (IsItem : List ℕ → A → Type 0)
    (IsEnd : List ℕ → Result (List ℕ) E → Type 0) : Type 0 where
  pub item : (t : List ℕ) (x : A) → IsItem t x → IsOneItem f t x
  pub is_item : (t : List ℕ) (n : ℕ) → f.whole_at t ≡ Ok (Some n) →
      IsItem (take (f.head + n) t) (f.item_at t)
  pub rest : (t r : List ℕ) → IsEnd t (Ok r) → (t ≡ r) × (f.whole_at t ≡ Ok None)
  pub is_rest : (t : List ℕ) → f.whole_at t ≡ Ok None → IsEnd t (Ok t)
  pub fault : (t : List ℕ) (e : E) → IsEnd t (Err e) → f.whole_at t ≡ Err e
  pub is_fault : (t : List ℕ) (e : E) → f.whole_at t ≡ Err e → IsEnd t (Err e)
