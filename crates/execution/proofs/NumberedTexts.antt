-- The numbers of digests, and the texts that they find.
use Rattle.std.proofs.Common.{◌≡◌, ℕ, zero, suc, ◌+◌, ◌-◌, ◌<◌, length, get_or, take, drop, Bool, true, false, List, [], ◌∷◌, Option, Some, None, slice_get, option_map, is_some, unwrap_or, refl, sym, ap, ◌∙◌, arith, if◌then◌else◌}
use Rattle.std.proofs.lemmas.List.{take_all}
use Rattle.std.specs.Option.{option_or}
use Rattle.std.specs.Map.{lookup}
use Rattle.digest.specs.declared.Digest.{Digest}
use Rattle.digest.specs.Naming.{same_digest}
use Rattle.digest.proofs.Same.{same_equal, same_symm}
use Rattle.blob_pool.specs.Slots.{Slots, text_at}
use Rattle.instance_view.specs.Shown.{blobs_in}
use Rattle.execution.specs.declared.keeping.KeptText.{KeptText}
use Rattle.execution.specs.Keeping.{kept_entries}
use Rattle.execution.specs.Numbers.{digest_number, kept_digests}

-- ---- a number is given

-- none is given to a digest that has one
pub number_stays : (table : List (Digest × ℕ)) (key d : Digest) (number : ℕ) → is_some (lookup (same_digest key) table) ≡ true
    → lookup (same_digest d) table ≡ option_or (lookup (same_digest d) table) (if same_digest d key then Some number else None)
number_stays table key d number there = by (lookup (same_digest d) table) (same_digest d key) refl refl
  where
    by : (o : Option ℕ) (b : Bool) → lookup (same_digest d) table ≡ o → same_digest d key ≡ b →
        o ≡ option_or o (if b then Some number else None)
    by (Some n) b found is = refl
    by None false found is = refl
    by None true found is =
        let equal = same_equal d key is in
        let none : is_some (lookup (same_digest key) table) ≡ false =
        ap (λ (e : Digest). is_some (lookup (same_digest e) table)) (sym equal) ∙ ap is_some found in
        absurd (let no : true ≡ false = sym there ∙ none in cc)

pub number_put : (table new : List (Digest × ℕ)) (key d : Digest) (number : ℕ) → is_some (lookup (same_digest key) table) ≡ false
    → lookup (same_digest d) new ≡ (if same_digest key d then Some number else lookup (same_digest d) table)
    → lookup (same_digest d) new ≡ option_or (lookup (same_digest d) table) (if same_digest d key then Some number else None)
number_put table new key d number there put = put ∙ by (lookup (same_digest d) table) (same_digest d key) refl refl (same_symm key d)
  where
    by : (o : Option ℕ) (b : Bool) → lookup (same_digest d) table ≡ o → same_digest d key ≡ b → same_digest key d ≡ same_digest d key
        → (if same_digest key d then Some number else lookup (same_digest d) table) ≡ option_or o (if b then Some number else None)
    by (Some n) false found is symm = rw (symm, is) found
    by None false found is symm = rw (symm, is) found
    by None true found is symm = rw (symm, is) refl
    by (Some n) true found is symm =
        let equal = same_equal d key is in
        let some : is_some (lookup (same_digest key) table) ≡ true =
        ap (λ (e : Digest). is_some (lookup (same_digest e) table)) (sym equal) ∙ ap is_some found in
        absurd (let no : true ≡ false = sym some ∙ there in cc)

-- one that has a number gets it back
pub number_back : (table between new : List (Digest × ℕ)) (key d : Digest) (number first : ℕ) → lookup (same_digest key) table ≡ Some first
    → lookup (same_digest d) between ≡ (if same_digest key d then Some number else lookup (same_digest d) table)
    → lookup (same_digest d) new ≡ (if same_digest key d then Some first else lookup (same_digest d) between)
    → lookup (same_digest d) new ≡ option_or (lookup (same_digest d) table) (if same_digest d key then Some number else None)
number_back table between new key d number first found put back =
    by (same_digest key d) refl ∙ number_stays table key d number (ap is_some found)
  where
    by : (b : Bool) → same_digest key d ≡ b → lookup (same_digest d) new ≡ lookup (same_digest d) table
    by true is =
        let same : lookup (same_digest d) table ≡ Some first =
        ap (λ (e : Digest). lookup (same_digest e) table) (sym (same_equal key d is)) ∙ found in
        back ∙ ap (λ (b : Bool). if b then Some first else lookup (same_digest d) between) is ∙ sym same
    by false is =
        back ∙ ap (λ (b : Bool). if b then Some first else lookup (same_digest d) between) is
        ∙ put ∙ ap (λ (b : Bool). if b then Some number else lookup (same_digest d) table) is

-- the first of some digests is given a number
pub number_next : (old new : Option ℕ) (n : ℕ) (x : Digest) (ds : List Digest) (d : Digest)
    → new ≡ option_or old (if same_digest d x then Some n else None)
    → unwrap_or new (n + 1 + digest_number ds d) ≡ unwrap_or old (n + digest_number (x ∷ ds) d)
number_next old new n x ds d given = ap (λ (o : Option ℕ). unwrap_or o (n + 1 + digest_number ds d)) given ∙ by old (same_digest d x) refl
  where
    by : (o : Option ℕ) (b : Bool) → same_digest d x ≡ b
        → unwrap_or (option_or o (if same_digest d x then Some n else None)) (n + 1 + digest_number ds d)
        ≡ unwrap_or o (n + digest_number (x ∷ ds) d)
    by (Some k) b is = refl
    by None true is = rw is (omega arith)
    by None false is = rw is (omega arith)

-- the first of some texts is given one
pub numbers_more : (left : List KeptText) (first : KeptText) (old new : Option ℕ) (n : ℕ) (d : Digest) → 0 < length left →
    first ≡ get_or left 0 first
    → new ≡ option_or old (if same_digest d first.digest then Some n else None)
    → unwrap_or new (n + 1 + digest_number (kept_digests (take (length left - 1) (drop 1 left))) d)
    ≡ unwrap_or old (n + digest_number (kept_digests left) d)
numbers_more [] first old new n d some is given = absurd (omega arith)
numbers_more (x ∷ xs) first old new n d some is given =
    let all : take (length (x ∷ xs) - 1) xs ≡ xs = take_all (length (x ∷ xs) - 1) xs (omega arith) in
    ap (λ (ts : List KeptText). unwrap_or new (n + 1 + digest_number (kept_digests ts) d)) all
    ∙ number_next old new n x.digest (kept_digests xs) d
    (given ∙ ap (λ (t : KeptText). option_or old (if same_digest d t.digest then Some n else None)) is)

pub numbers_end : (left : List KeptText) (n : ℕ) (d : Digest) → length left < 1 → n + digest_number (kept_digests left) d ≡ n + length left
numbers_end [] n d none = refl
numbers_end (x ∷ xs) n d none = absurd (omega arith)

-- ---- what a number finds

behind : (t : KeptText) (ts : List KeptText) (n : ℕ) → slice_get (t ∷ ts) (1 + n) ≡ slice_get ts n
behind t ts n = let next : 1 + n ≡ suc n = omega arith in rw next refl

-- a digest's number finds its text
pub number_finds : (p : Slots) (ts : List KeptText) (d : Digest) →
    option_map (λ (t : KeptText). text_at p t.text) (slice_get ts (digest_number (kept_digests ts) d))
    ≡ lookup (same_digest d) (blobs_in p (kept_entries ts))
number_finds p [] d = refl
number_finds p (t ∷ ts) d = by (same_digest d t.digest) refl (number_finds p ts d)
  where
    by : (s : Bool) → same_digest d t.digest ≡ s →
        option_map (λ (t : KeptText). text_at p t.text) (slice_get ts (digest_number (kept_digests ts) d))
        ≡ lookup (same_digest d) (blobs_in p (kept_entries ts))
        → option_map (λ (t : KeptText). text_at p t.text) (slice_get (t ∷ ts) (digest_number (kept_digests (t ∷ ts)) d))
        ≡ lookup (same_digest d) (blobs_in p (kept_entries (t ∷ ts)))
    by true is later = rw is refl
    by false is later = rw is (ap (option_map (λ (t : KeptText). text_at p t.text)) (behind t ts (digest_number (kept_digests ts) d))
        ∙ later)
