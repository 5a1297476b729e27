-- The grammar and the reading function say the same, and what is framed is split again.
use Rattle.std.proofs.Common.{◌≡◌, ℕ, zero, suc, ◌+◌, ◌<◌, ◌≤◌, ◌^◌, inl, inr, List, [], ◌∷◌, ◌++◌, length, take, drop, Some, Ok, refl, sym, ap, subst, ◌∙◌, append_assoc, arith, length-append}
use Rattle.std.specs.List.{AllByRecursion, flat_map}
use Rattle.std.proofs.lemmas.Bool.{cases_lt}
use Rattle.std.proofs.Math.Seq.{take-length}
use Rattle.std.proofs.lemmas.List.{length-take-le, append-nil}
use Rattle.std.proofs.lemmas.List.Concat.{flat_map-cons}
use Rattle.byteorder.specs.Endian.{big_number, big_bytes}
use Rattle.byteorder.specs.Numbers.{big_number-reads_back}
use Rattle.http2_frames.specs.Items.{behind}
use Rattle.http2_frames.specs.Grammar.{IsOneItem, Reads}
use Rattle.http2_frames.proofs.Heads.{four_of}
use Rattle.http2_frames.proofs.WireItemsDivisions.{divide_partial, divide_after, division_only, division_found}
use Rattle.grpc_messages.specs.Wire.{Split, IsSplit, IsMessageText, IsEnd, IsUnfinished, flag_of, size_of}
use Rattle.grpc_messages.specs.Reading.{whole_at, message_at, message_format, split}
use Rattle.grpc_messages.specs.Writing.{framed_message}
use Rattle.grpc_messages.proofs.Fronts.{flag_more, size_more, IsWhole, whole_is, is_whole, fault_is, is_fault, unfinished_is, is_unfinished, steady}

five_more : (n : ℕ) → 5 + n ≡ suc (suc (suc (suc (suc n))))
five_more n = omega arith

item_at_front : (limit a b c d : ℕ) (m : List ℕ) → big_number 4 (a ∷ b ∷ c ∷ d ∷ []) ≡ length m → length m ≤ limit
    → IsOneItem (message_format limit) (0 ∷ a ∷ b ∷ c ∷ d ∷ m) m
item_at_front limit a b c d m size small =
    let text : List ℕ = 0 ∷ a ∷ b ∷ c ∷ d ∷ m in
    let same : size_of text ≡ length m = size in
    let plain : flag_of text ≡ 0 = refl in
    record {
      size = length m;
      whole = is_whole limit text (length m) (record { plain = plain; size = sym same; short = small; fits = omega arith });
      sized = five_more (length m);
      is = ap (λ (n : ℕ). take n m) same ∙ take-length m;
    }

is_item : (limit : ℕ) (x m : List ℕ) → IsMessageText limit x m → IsOneItem (message_format limit) x m
is_item limit x m h =
    let s = four_of h.size h.four in
    let size = ap (big_number 4) (sym s.4) ∙ h.sized in
    subst (λ (q : List ℕ). IsOneItem (message_format limit) q m) (sym (h.parts ∙ ap (λ (q : List ℕ). (0 ∷ q) ++ m) s.4))
    (item_at_front limit s.0 s.1 s.2 s.3 m size h.short)

message_text_at : (limit a b c d : ℕ) (r : List ℕ) (n : ℕ) → n ≡ big_number 4 (a ∷ b ∷ c ∷ d ∷ []) → n ≤ limit → n ≤ length r
    → IsMessageText limit (take (5 + n) (0 ∷ a ∷ b ∷ c ∷ d ∷ r)) (take n r)
message_text_at limit a b c d r n size small fits =
    let len = length-take-le n r fits in
    record {
      size = a ∷ b ∷ c ∷ d ∷ [];
      parts = ap (λ (m : ℕ). take m (0 ∷ a ∷ b ∷ c ∷ d ∷ r)) (five_more n);
      four = refl;
      sized = sym size ∙ sym len;
      short = omega arith;
    }

message_text_is : (limit : ℕ) (t : List ℕ) (n : ℕ) → IsWhole limit t n → IsMessageText limit (take (5 + n) t) (take n (drop 5 t))
message_text_is limit (zero ∷ a ∷ b ∷ c ∷ d ∷ r) n h = let f = h.fits in message_text_at limit a b c d r n h.size h.short (omega arith)
message_text_is limit (suc x ∷ a ∷ b ∷ c ∷ d ∷ r) n h = let p = h.plain in absurd (omega arith)
message_text_is limit [] n h = let f = h.fits in absurd (omega arith)
message_text_is limit (x ∷ []) n h = let f = h.fits in absurd (omega arith)
message_text_is limit (x ∷ a ∷ []) n h = let f = h.fits in absurd (omega arith)
message_text_is limit (x ∷ a ∷ b ∷ []) n h = let f = h.fits in absurd (omega arith)
message_text_is limit (x ∷ a ∷ b ∷ c ∷ []) n h = let f = h.fits in absurd (omega arith)

message_found : (limit : ℕ) (t : List ℕ) (n : ℕ) → whole_at limit t ≡ Ok (Some n) → IsMessageText limit (take (5 + n) t) (message_at t)
message_found limit t n e = let w = whole_is limit t n e in
    subst (λ (j : ℕ). IsMessageText limit (take (5 + n) t) (take j (drop 5 t))) w.size (message_text_is limit t n w)

reads : (limit : ℕ) → Reads (message_format limit) (IsMessageText limit) (IsEnd limit)
reads limit = record {
  item = is_item limit;
  is_item = message_found limit;
  rest = λ t r h. (h.0, is_unfinished limit t h.1);
  is_rest = λ t e. (refl, unfinished_is limit t e);
  fault = is_fault limit;
  is_fault = fault_is limit;
}

split_after : (limit : ℕ) (x m rest : List ℕ) → IsMessageText limit x m → split limit (x ++ rest) ≡ behind (m ∷ []) (split limit rest)
split_after limit x m rest h = divide_after (message_format limit) (steady limit) (IsMessageText limit) (IsEnd limit)
    (reads limit) x m rest h

pub split_only : (limit : ℕ) (text : List ℕ) (s : Split) → IsSplit limit text s → split limit text ≡ s
split_only limit text s h = division_only (message_format limit) (steady limit) (IsMessageText limit) (IsEnd limit) (reads limit) text s h

pub split_found : (limit : ℕ) (text : List ℕ) → IsSplit limit text (split limit text)
split_found limit text = division_found (message_format limit) (steady limit) (IsMessageText limit) (IsEnd limit) (reads limit) text

-- ---- writing

framed_is : (limit : ℕ) (m : List ℕ) → length m ≤ limit → length m < 2 ^ 32 → IsMessageText limit (framed_message m) m
framed_is limit m short fits = record {
  size = big_bytes 4 (length m);
  parts = refl;
  four = refl;
  sized = ap (big_number 4) (sym (append-nil (big_bytes 4 (length m)))) ∙ big_number-reads_back 4 (length m) [] (omega arith);
  short = short;
}

pub framed_split : (limit : ℕ) (messages : List (List ℕ)) (rest : List ℕ) → limit < 2 ^ 32 → AllByRecursion (λ m. length m ≤ limit) messages
    → split limit (flat_map framed_message messages ++ rest) ≡ behind messages (split limit rest)
framed_split limit [] rest small h = refl
framed_split limit (m ∷ ms) rest small h =
    let short = h.0 in
    ap (split limit) (ap (λ (q : List ℕ). q ++ rest) (flat_map-cons framed_message m ms)
    ∙ append_assoc (framed_message m) (flat_map framed_message ms) rest)
    ∙ split_after limit (framed_message m) m (flat_map framed_message ms ++ rest) (framed_is limit m short (omega arith))
    ∙ ap (behind (m ∷ [])) (framed_split limit ms rest small h.1)

-- ---- a message that has come in part

framed_size : (m : List ℕ) → length m < 2 ^ 32 → size_of (framed_message m) ≡ length m
framed_size m fits = big_number-reads_back 4 (length m) m (omega arith)

part_is_unfinished : (limit : ℕ) (m part more : List ℕ) → limit < 2 ^ 32 → length m ≤ limit → framed_message m ≡ part ++ more →
    0 < length more → IsUnfinished limit part
part_is_unfinished limit m part more small short e some = elim (cases_lt (length part) 5) [
  | inl less ↦ inl less
  | inr five ↦ (
      let flag : flag_of part ≡ 0 = sym (flag_more part more five) ∙ ap flag_of (sym e) in
      let size : size_of part ≡ length m = sym (size_more part more five) ∙ ap size_of (sym e) ∙ framed_size m (omega arith) in
      let whole : length part + length more ≡ 5 + length m =
      sym (length-append part more) ∙ ap (length {A = ℕ}) (sym e) ∙ sym (five_more (length m)) in
      inr (flag, omega arith, omega arith))
]

pub part_split : (limit : ℕ) (messages : List (List ℕ)) (m part more : List ℕ) → limit < 2 ^ 32 →
    AllByRecursion (λ x. length x ≤ limit) messages → length m ≤ limit → framed_message m ≡ part ++ more → 0 < length more
    → split limit (flat_map framed_message messages ++ part) ≡ record { items = messages; end = Ok part }
part_split limit messages m part more small h short e some =
    framed_split limit messages part small h
    ∙ ap (behind messages) (divide_partial (message_format limit) (steady limit) part
    (is_unfinished limit part (part_is_unfinished limit m part more small short e some)))
    ∙ ap (λ (xs : List (List ℕ)). record { items = xs; end = Ok part }) (append-nil messages)
