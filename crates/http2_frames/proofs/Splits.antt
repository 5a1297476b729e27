-- The split of a text, by the preface that it begins with, and when more follows.
use Rattle.std.proofs.Common.{◌≡◌, ℕ, ◌≤◌, inl, inr, Bool, true, false, nat_eq, List, ◌++◌, length, drop, refl, sym, ap, ◌∙◌, append_assoc, arith, length-append}
use Rattle.std.specs.List.{starts_with}
use Rattle.std.proofs.lemmas.Bool.{cases_lt}
use Rattle.std.proofs.lemmas.List.{drop-append-le}
use Rattle.http2_frames.specs.Items.{rest_only, fault_only}
use Rattle.http2_frames.specs.declared.error.FrameError.TheVariants.{Preface}
use Rattle.http2_frames.specs.Reading.{split_frames, split}
use Rattle.http2_frames.proofs.Fronts.{begins, begin, front_of}

pub past : (p t : List ℕ) → starts_with nat_eq t p ≡ true → split p t ≡ split_frames (drop (length p) t)
past p t e = rw e refl

pub short : (p t : List ℕ) → starts_with nat_eq t p ≡ false → starts_with nat_eq p t ≡ true → split p t ≡ rest_only t
short p t e d = rw (e, d) refl

pub off : (p t : List ℕ) → starts_with nat_eq t p ≡ false → starts_with nat_eq p t ≡ false → split p t ≡ fault_only Preface
off p t e d = rw (e, d) refl

untrue : (b : Bool) → b ≡ true → b ≡ false → ⊥
untrue b e d = cc

not_true : (b : Bool) → (b ≡ true → ⊥) → b ≡ false
not_true true h = absurd (h refl)
not_true false h = refl

at_least : (p t : List ℕ) → t ≡ p ++ drop (length p) t → length p ≤ length t
at_least p t e = let same = ap (length {A = ℕ}) e in let len = length-append p (drop (length p) t) in omega arith

pub past_more : (p t more : List ℕ) → starts_with nat_eq t p ≡ true → split p (t ++ more) ≡ split_frames (drop (length p) t ++ more)
past_more p t more e =
    let is = begins p t e in
    past p (t ++ more) (begin p (t ++ more) (drop (length p) t ++ more)
    (ap (λ (x : List ℕ). x ++ more) is ∙ append_assoc p (drop (length p) t) more))
    ∙ ap split_frames (drop-append-le (length p) t more (at_least p t is))

-- two beginnings of one text
off_front : (p t more rest : List ℕ) → starts_with nat_eq t p ≡ false → starts_with nat_eq p t ≡ false → t ++ more ≡ p ++ rest → ⊥
off_front p t more rest e d h = elim (cases_lt (length t) (length p)) [
  | inl less ↦ untrue (starts_with nat_eq p t) (begin t p (drop (length t) p) (front_of p rest t more (sym h) (omega arith))) d
  | inr more ↦ untrue (starts_with nat_eq t p) (begin p t (drop (length p) t) (front_of t _ p rest h more)) e
]

pub off_more : (p t more : List ℕ) → starts_with nat_eq t p ≡ false → starts_with nat_eq p t ≡ false →
    split p (t ++ more) ≡ fault_only Preface
off_more p t more e d =
    off p (t ++ more)
    (not_true _ (λ h. off_front p t more (drop (length p) (t ++ more)) e d (begins p (t ++ more) h)))
    (not_true _ (λ h. untrue (starts_with nat_eq p t)
    (begin t p (more ++ drop (length (t ++ more)) p) (begins (t ++ more) p h ∙ append_assoc t more (drop (length (t ++ more)) p))) d))
