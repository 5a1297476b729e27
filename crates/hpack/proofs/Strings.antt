-- Strings: what is read is spelled so, and what is spelled so is read.
use Rattle.std.proofs.Common.{◌≡◌, ℕ, ◌+◌, ◌-◌, ◌≤◌, false, true, ltb, List, [], ◌∷◌, ◌++◌, length, take, drop, Result, Ok, Err, refl, sym, ap, subst, ◌∙◌, append_assoc, arith, inl, inr}
use Rattle.std.proofs.lemmas.Bool.{ltb-false, lt-ltb, le-ltb}
use Rattle.std.proofs.lemmas.List.{take_at, drop_at, take-append-drop, length-append, length-take-le}
use Rattle.hpack_huffman.specs.declared.HuffmanError.{HuffmanError}
use Rattle.hpack_huffman.specs.Reading.{text_of_octets}
use Rattle.hpack_huffman.proofs.Texts.{grammar_read, read_grammar}
use Rattle.hpack.specs.declared.error.HpackError.{HpackError}
use Rattle.hpack.specs.declared.error.HpackError.TheVariants.{String as TooShort}
use Rattle.hpack.specs.Results.{◌>>=◌}
use Rattle.hpack.specs.Integer.{IsInteger, integer_at}
use Rattle.hpack.specs.StringLiteral.{IsPlain, IsCoded, IsString, octets_at, expansion, expansion_of, string_at}
use Rattle.hpack.proofs.Continuations.{finished}
use Rattle.hpack.proofs.Tools.{bind_ok, chosen, passed, ok_is, Fronts}
use Rattle.hpack.proofs.Numbers.{integer_takes, integer_again}

octets_take : (count : ℕ) (bytes : List ℕ) (x : List ℕ × List ℕ) → octets_at count bytes ≡ Ok x →
    (length x.0 ≡ count) × (bytes ≡ x.0 ++ x.1)
octets_take count bytes x e =
    let p = passed (ltb (length bytes) count) TooShort (Ok (take count bytes, drop count bytes)) x e in
    let long = ltb-false (length bytes) count p.0 in
    subst (λ (y : List ℕ × List ℕ). (length y.0 ≡ count) × (bytes ≡ y.0 ++ y.1)) (ok_is (take count bytes, drop count bytes) x p.1)
    (length-take-le count bytes long, sym (take-append-drop count bytes))

octets_again : (front rest : List ℕ) → octets_at (length front) (front ++ rest) ≡ Ok (front, rest)
octets_again front rest =
    let long : ltb (length (front ++ rest)) (length front) ≡ false = le-ltb _ _ (omega (arith, length-append front rest)) in
    rw (long, take_at front rest (length front) refl, drop_at front rest (length front) refl) refl

expanded_is : (r : Result (List ℕ) HuffmanError) (text : List ℕ) → expansion_of r ≡ Ok text → r ≡ Ok text
expanded_is (Ok t) text e = cc
expanded_is (Err f) text e = absurd cc

abbrev plain_at : ℕ → List ℕ → Result (List ℕ × List ℕ) HpackError
plain_at prefix bytes = integer_at 127 prefix bytes >>= λ n. octets_at n.0 n.1

abbrev coded_at : ℕ → List ℕ → Result (List ℕ × List ℕ) HpackError
coded_at prefix bytes = integer_at 127 prefix bytes >>= λ n. octets_at n.0 n.1 >>= λ s. expansion s.0 >>= λ text. Ok (text, s.1)

plain_takes : (b : ℕ) (bytes : List ℕ) (x : List ℕ × List ℕ) → plain_at b bytes ≡ Ok x →
    Fronts (λ front. IsString front x.0) (b ∷ bytes) x.1
plain_takes b bytes x e =
    let a = bind_ok (integer_at 127 b bytes) (λ n. octets_at n.0 n.1) x e in
    let n = integer_takes 0 127 b bytes a.0 a.1 in
    let t = octets_take a.0.0 a.0.1 x a.2 in
    let first : 0 + b ≡ b = omega arith in
    let spelled : IsInteger 0 127 (b ∷ n.front) (length x.0) =
    subst (λ (k : ℕ). IsInteger 0 127 (k ∷ n.front) (length x.0)) first
    (subst (λ (k : ℕ). IsInteger 0 127 ((0 + b) ∷ n.front) k) (sym t.0) n.holds) in
    let parts : bytes ≡ (n.front ++ x.0) ++ x.1 = n.parts ∙ ap (λ (y : List ℕ). n.front ++ y) t.1 ∙ sym (append_assoc n.front x.0 x.1) in
    record {
      front = b ∷ (n.front ++ x.0);
      holds = inl (record { len = b ∷ n.front; counted = spelled; parts = refl });
      parts =
          ap (λ (y : List ℕ). b ∷ y) parts;
    }

coded_takes : (b : ℕ) (bytes : List ℕ) (x : List ℕ × List ℕ) → 128 ≤ b → coded_at (b - 128) bytes ≡ Ok x →
    Fronts (λ front. IsString front x.0) (b ∷ bytes) x.1
coded_takes b bytes x big e =
    let a = bind_ok (integer_at 127 (b - 128) bytes) (λ n. octets_at n.0 n.1 >>= finished) x e in
    let o = bind_ok (octets_at a.0.0 a.0.1) finished x a.2 in
    let d = bind_ok (expansion o.0.0) (λ text. Ok (text, o.0.1)) x o.2 in
    let text = expanded_is (text_of_octets o.0.0) d.0 d.1 in
    let n = integer_takes 128 127 (b - 128) bytes a.0 a.1 in
    let t = octets_take a.0.0 a.0.1 o.0 o.1 in
    let first : 128 + (b - 128) ≡ b = omega arith in
    let spelled : IsInteger 128 127 (b ∷ n.front) (length o.0.0) =
    subst (λ (k : ℕ). IsInteger 128 127 (k ∷ n.front) (length o.0.0)) first
    (subst (λ (k : ℕ). IsInteger 128 127 ((128 + (b - 128)) ∷ n.front) k) (sym t.0) n.holds) in
    let parts : bytes ≡ (n.front ++ o.0.0) ++ o.0.1 =
    n.parts ∙ ap (λ (y : List ℕ). n.front ++ y) t.1 ∙ sym (append_assoc n.front o.0.0 o.0.1) in
    subst (λ (y : List ℕ × List ℕ). Fronts (λ front. IsString front y.0) (b ∷ bytes) y.1) (ok_is (d.0, o.0.1) x d.2)
    (record {
      front = b ∷ (n.front ++ o.0.0);
      holds =
          inr (record { len = b ∷ n.front; coding = o.0.0; counted = spelled; expands = read_grammar o.0.0 d.0 text; parts = refl });
      parts =
          ap (λ (y : List ℕ). b ∷ y) parts;
    })

pub string_takes : (bytes : List ℕ) (x : List ℕ × List ℕ) → string_at bytes ≡ Ok x → Fronts (λ front. IsString front x.0) bytes x.1
unfolding string_at
string_takes [] x e = absurd cc
string_takes (b ∷ bs) x e = elim (chosen (ltb b 128) (plain_at b bs) (coded_at (b - 128) bs) (Ok x) e) [
  | inl h ↦ plain_takes b bs x h.1
  | inr h ↦ coded_takes b bs x (ltb-false b 128 h.0) h.1
]

plain_again : (front rest text : List ℕ) → IsPlain front text → string_at (front ++ rest) ≡ Ok (text, rest)
unfolding string_at
plain_again front rest text h =
    let p = integer_again 0 127 h.len (text ++ rest) (length text) h.counted in
    let whole : front ++ rest ≡ (0 + p.prefix) ∷ (p.more ++ (text ++ rest)) =
    ap (λ (y : List ℕ). y ++ rest) h.parts ∙ append_assoc h.len text rest ∙ ap (λ (y : List ℕ). y ++ (text ++ rest)) p.parts in
    let first : 0 + p.prefix ≡ p.prefix = omega arith in
    let low : ltb p.prefix 128 ≡ true = lt-ltb p.prefix 128 (let w = p.within in omega arith) in
    ap string_at (whole ∙ ap (λ (k : ℕ). k ∷ (p.more ++ (text ++ rest))) first) ∙ rw (low, p.read, octets_again text rest) refl

coded_again : (front rest text : List ℕ) → IsCoded front text → string_at (front ++ rest) ≡ Ok (text, rest)
unfolding string_at
coded_again front rest text h =
    let p = integer_again 128 127 h.len (h.coding ++ rest) (length h.coding) h.counted in
    let whole : front ++ rest ≡ (128 + p.prefix) ∷ (p.more ++ (h.coding ++ rest)) =
    ap (λ (y : List ℕ). y ++ rest) h.parts ∙ append_assoc h.len h.coding rest ∙ ap (λ (y : List ℕ). y ++ (h.coding ++ rest)) p.parts in
    let high : ltb (128 + p.prefix) 128 ≡ false = le-ltb (128 + p.prefix) 128 (omega arith) in
    let prefix : 128 + p.prefix - 128 ≡ p.prefix = omega arith in
    let text_is = grammar_read h.coding text h.expands in
    ap string_at whole ∙ rw (high, prefix, p.read, octets_again h.coding rest, text_is) refl

pub string_again : (front rest text : List ℕ) → IsString front text → string_at (front ++ rest) ≡ Ok (text, rest)
string_again front rest text (inl h) = plain_again front rest text h
string_again front rest text (inr h) = coded_again front rest text h
