-- Texts in a table are those of directories.
use Rattle.std.proofs.Common.{◌≡◌, ℕ, Bool, ◌||◌, List, [], ◌∷◌, nat_eq, map, true, false, ◌++◌, refl, sym, ap, subst, ◌∙◌, if◌then◌else◌}
use Rattle.std.specs.Global.{Vec}
use Rattle.std.specs.List.{list_any}
use Rattle.std.proofs.lemmas.List.{map-append}
use lib.Pointwise.{pointwise}
use Rattle.tree_messages.specs.Directories.{DirectoryValue}
use Rattle.outcomes.specs.Gathering.{HaveTexts}
use Rattle.outcomes.specs.Trees.{directory_text, has_text_of, with_child}

any_map : {X Y : Type 0} (test : Y → Bool) (f : X → Y) (xs : List X) → list_any test (map f xs) ≡ list_any (λ x. test (f x)) xs
any_map test f [] = refl
any_map test f (x ∷ xs) = ap (λ (b : Bool). test (f x) || b) (any_map test f xs)

pub any_text : (texts : List (Vec ℕ)) (vs : List DirectoryValue) (text : Vec ℕ) (v : DirectoryValue) → HaveTexts texts vs →
    text.items ≡ directory_text v → list_any (λ (t : Vec ℕ). pointwise nat_eq text.items t.items) texts ≡ list_any (has_text_of v) vs
any_text texts vs text v have is =
    sym (any_map (pointwise nat_eq text.items) (λ (t : Vec ℕ). t.items) texts)
    ∙ ap (λ (ts : List (List ℕ)). list_any (pointwise nat_eq text.items) ts) have
    ∙ any_map (pointwise nat_eq text.items) directory_text vs
    ∙ ap (λ (t : List ℕ). list_any (λ u. pointwise nat_eq t (directory_text u)) vs) is

pub child_there : (texts : List (Vec ℕ)) (vs : List DirectoryValue) (text : Vec ℕ) (v : DirectoryValue) → HaveTexts texts vs →
    text.items ≡ directory_text v → list_any (λ (t : Vec ℕ). pointwise nat_eq text.items t.items) texts ≡ true → with_child vs v ≡ vs
child_there texts vs text v have is there =
    let found : list_any (has_text_of v) vs ≡ true = sym (any_text texts vs text v have is) ∙ there in
    rw found refl

pub child_new : (texts : List (Vec ℕ)) (vs : List DirectoryValue) (text : Vec ℕ) (v : DirectoryValue) → HaveTexts texts vs →
    text.items ≡ directory_text v → list_any (λ (t : Vec ℕ). pointwise nat_eq text.items t.items) texts ≡ false →
    with_child vs v ≡ vs ++ v ∷ []
child_new texts vs text v have is absent =
    let none : list_any (has_text_of v) vs ≡ false = sym (any_text texts vs text v have is) ∙ absent in
    rw none refl

pub texts_more : (texts : List (Vec ℕ)) (vs : List DirectoryValue) (text : Vec ℕ) (v : DirectoryValue) → HaveTexts texts vs →
    text.items ≡ directory_text v → HaveTexts (texts ++ text ∷ []) (vs ++ v ∷ [])
texts_more texts vs text v have is =
    map-append (λ (t : Vec ℕ). t.items) texts (text ∷ [])
    ∙ ap (λ (ts : List (List ℕ)). ts ++ text.items ∷ []) have
    ∙ ap (λ (t : List ℕ). map directory_text vs ++ t ∷ []) is
    ∙ sym (map-append directory_text vs (v ∷ []))
