-- Settings in bytes, and the bytes of settings.
use Rattle.std.proofs.Common.{◌≡◌, ℕ, zero, suc, ◌*◌, ◌/◌, ◌%◌, ◌<◌, ◌≤◌, List, [], ◌∷◌, ◌++◌, ◌^◌, length, drop, slice_index, refl, ap, ◌∙◌, arith}
use Rattle.byteorder.specs.Endian.{big_number, big_bytes}
use Rattle.std.proofs.lemmas.List.{length-drop}
use Rattle.std.proofs.lemmas.List.Concat.{flat_map-cons}
use Rattle.byteorder.specs.Numbers.{big_number-reads_back}
use Rattle.std.specs.List.{AllByRecursion}
use Rattle.http2_frames.specs.declared.settings.Setting.{Setting}
use Rattle.http2_frames.specs.Writing.{IsSetting}
use Rattle.http2_frames.specs.Settings.{setting_text, settings_text, setting_at, settings_in, settings_of}

pub settings_length : (count : ℕ) (bytes : List ℕ) → length (settings_in count bytes) ≡ count
settings_length zero bytes = refl
settings_length (suc count) bytes = let e = settings_length count (drop 6 bytes) in omega arith

pub settings_first : (bytes : List ℕ) → 6 ≤ length bytes → settings_of bytes ≡ setting_at bytes ∷ settings_of (drop 6 bytes)
settings_first bytes le =
    let less = length-drop 6 bytes in
    let count : length bytes / 6 ≡ suc (length (drop 6 bytes) / 6) = omega arith in
    ap (λ (n : ℕ). settings_in n bytes) count

-- each is a byte
abbrev pub AreBytes : List ℕ → Type 0
AreBytes xs = (k : ℕ) → slice_index xs k < 256

pub big_two : (a b : ℕ) (rest : List ℕ) → a < 256 → b < 256 → big_bytes 2 (big_number 2 (a ∷ b ∷ rest)) ≡ a ∷ b ∷ []
big_two a b rest p q =
    let n : ℕ = big_number 2 (a ∷ b ∷ rest) in
    let high : n / 256 ^ 1 % 256 ≡ a = omega arith in
    let low : n % 256 ≡ b = omega arith in
    rw (high, low) refl

pub big_four : (a b c d : ℕ) (rest : List ℕ) → a < 256 → b < 256 → c < 256 → d < 256 →
    big_bytes 4 (big_number 4 (a ∷ b ∷ c ∷ d ∷ rest)) ≡ a ∷ b ∷ c ∷ d ∷ []
big_four a b c d rest p q r s =
    let n : ℕ = big_number 4 (a ∷ b ∷ c ∷ d ∷ rest) in
    let one : n / 256 ^ 3 % 256 ≡ a = omega arith in
    let two : n / 256 ^ 2 % 256 ≡ b = omega arith in
    let three : n / 256 ^ 1 % 256 ≡ c = omega arith in
    let four : n % 256 ≡ d = omega arith in
    rw (one, two, three, four) refl

joined : (x x' y y' : List ℕ) → x ≡ x' → y ≡ y' → x ++ y ≡ x' ++ y'
joined x x' y y' p q = rw (p, q) refl

six_more : (a b c d e f : ℕ) (rest : List ℕ) → AreBytes (a ∷ b ∷ c ∷ d ∷ e ∷ f ∷ rest) →
    setting_text (setting_at (a ∷ b ∷ c ∷ d ∷ e ∷ f ∷ rest)) ≡ a ∷ b ∷ c ∷ d ∷ e ∷ f ∷ []
six_more a b c d e f rest h = joined _ (a ∷ b ∷ []) _ (c ∷ d ∷ e ∷ f ∷ []) (big_two a b (c ∷ d ∷ e ∷ f ∷ rest) (h 0) (h 1))
    (big_four c d e f rest (h 2) (h 3) (h 4) (h 5))

pub settings_back : (count : ℕ) (bytes : List ℕ) → AreBytes bytes → length bytes ≡ 6 * count →
    settings_text (settings_in count bytes) ≡ bytes
settings_back zero [] h e = refl
settings_back zero (x ∷ xs) h e = absurd (omega arith)
settings_back (suc count) (a ∷ b ∷ c ∷ d ∷ e ∷ f ∷ rest) h len =
    let first = six_more a b c d e f rest h in
    let others = settings_back count rest (λ (k : ℕ). h (suc (suc (suc (suc (suc (suc k))))))) (omega arith) in
    flat_map-cons setting_text (setting_at (a ∷ b ∷ c ∷ d ∷ e ∷ f ∷ rest)) (settings_in count rest)
    ∙ joined _ (a ∷ b ∷ c ∷ d ∷ e ∷ f ∷ []) _ rest first others
settings_back (suc count) (a ∷ b ∷ c ∷ d ∷ e ∷ []) h len = absurd (omega arith)
settings_back (suc count) (a ∷ b ∷ c ∷ d ∷ []) h len = absurd (omega arith)
settings_back (suc count) (a ∷ b ∷ c ∷ []) h len = absurd (omega arith)
settings_back (suc count) (a ∷ b ∷ []) h len = absurd (omega arith)
settings_back (suc count) (a ∷ []) h len = absurd (omega arith)
settings_back (suc count) [] h len = absurd (omega arith)

pub settings_same : (bytes : List ℕ) → AreBytes bytes → length bytes % 6 ≡ 0 → settings_text (settings_of bytes) ≡ bytes
settings_same bytes h e = settings_back (length bytes / 6) bytes h (omega arith)

pub settings_text_length : (ss : List Setting) → length (settings_text ss) ≡ 6 * length ss
settings_text_length [] = refl
settings_text_length (s ∷ ss) =
    let first = ap (length {A = ℕ}) (flat_map-cons setting_text s ss) in
    let others = settings_text_length ss in
    omega arith

setting_again : (s : Setting) (rest : List ℕ) → IsSetting s → setting_at (setting_text s ++ rest) ≡ s
setting_again s rest h =
    let id = big_number-reads_back 2 s.identifier (big_bytes 4 s.value ++ rest) (let a = h.0 in omega arith) in
    let value = big_number-reads_back 4 s.value rest (let a = h.1 in omega arith) in
    rw (id, value) refl

pub settings_again : (ss : List Setting) → AllByRecursion IsSetting ss → settings_of (settings_text ss) ≡ ss
settings_again [] h = refl
settings_again (s ∷ ss) h =
    let text = flat_map-cons setting_text s ss in
    let rest : List ℕ = settings_text ss in
    let first = settings_first (setting_text s ++ rest) (omega arith) in
    ap settings_of text ∙ first ∙ ap (λ (x : Setting). x ∷ settings_of rest) (setting_again s rest h.0)
    ∙ ap (λ (xs : List Setting). s ∷ xs) (settings_again ss h.1)
