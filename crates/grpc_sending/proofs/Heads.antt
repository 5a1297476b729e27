-- A frame with bytes of a message that begins with a head and goes on with bytes of a text.
use Rattle.std.proofs.Common.{◌≡◌, ℕ, zero, suc, ◌+◌, ◌-◌, ◌<◌, ◌≤◌, List, [], ◌∷◌, ◌++◌, length, take, drop, refl, ap, ◌∙◌, sym, arith, inl, inr, length-drop, length-append, length-take, append_assoc}
use Rattle.std.specs.Prelude.{false, nat_le, min}
use Rattle.std.proofs.lemmas.Bool.{cases_Bool}
use Rattle.std.proofs.lemmas.Bool.Decides.{nat_tests}
use Rattle.std.proofs.lemmas.Grind.{common_steps}
use Rattle.std.proofs.lemmas.List.{take-take, drop-take, take_all, drop_all, length-take-le}
use Rattle.byteorder.specs.Endian.{big_bytes}
use Rattle.http2_frames.specs.declared.frame.Frame.TheVariants.{Data}
use Rattle.http2_frames.specs.declared.codes.frame_type.TheConstants.{DATA}
use Rattle.http2_frames.specs.Writing.{header_text, text_of}
use Rattle.grpc_messages.specs.Writing.{framed_message}
use Rattle.grpc_sending.specs.Pieces.{length_text, read_message}
use Rattle.grpc_sending.specs.Spans.{Span, span_count, read_size, span_front, read_head, IsSpan}
use Rattle.grpc_sending.proofs.Spans.{front_length}

pub after_is : (n size m : ℕ) (bytes : List ℕ) → m ≡ min n size → take (size - m) (drop m bytes) ≡ drop n (take size bytes)
after_is n size m bytes is = elim (cases_Bool (nat_le n size)) [
  | inl few ↦
      let le : n ≤ size = grind (arith, nat_tests) in
      let e : m ≡ n = omega (arith, is, le) in
      let c : size ≡ n + (size - n) = omega (arith, le) in
      ap (λ k. take (size - k) (drop k bytes)) e ∙ sym (ap (λ k. drop n (take k bytes)) c ∙ drop-take n (size - n) bytes)
  | inr past ↦
      let le : size < n = grind (arith, nat_tests) in
      let none : size - m ≡ 0 = omega (arith, is, le) in
      ap (λ k. take k (drop m bytes)) none ∙ sym (drop_all n (take size bytes) (omega (arith, length-take size bytes, le)))
]

-- ---- lists

drop_parts : (p : ℕ) (h b : List ℕ) → drop p (h ++ b) ≡ drop p h ++ drop (p - length h) b
drop_parts zero [] b = refl
drop_parts zero (x ∷ h) b = let e : zero - length (x ∷ h) ≡ 0 = omega arith in ap (λ k. (x ∷ h) ++ drop k b) (sym e)
drop_parts (suc p) [] b = let e : suc p - length {A = ℕ} [] ≡ suc p = omega arith in ap (λ k. drop k b) (sym e)
drop_parts (suc p) (x ∷ h) b = let e : suc p - length (x ∷ h) ≡ p - length h = omega arith in
    drop_parts p h b ∙ ap (λ k. drop p h ++ drop k b) (sym e)

take_parts : (n : ℕ) (h b : List ℕ) → take n (h ++ b) ≡ take n h ++ take (n - length h) b
take_parts zero [] b = refl
take_parts zero (x ∷ h) b = let e : zero - length (x ∷ h) ≡ 0 = omega arith in ap (λ k. take k b) (sym e)
take_parts (suc n) [] b = let e : suc n - length {A = ℕ} [] ≡ suc n = omega arith in ap (λ k. take k b) (sym e)
take_parts (suc n) (x ∷ h) b = let e : suc n - length (x ∷ h) ≡ n - length h = omega arith in
    ap (λ t. x ∷ t) (take_parts n h b ∙ ap (λ k. take n h ++ take k b) (sym e))

take_few : (n k : ℕ) (xs : List ℕ) → k ≡ min (length xs) n → take n xs ≡ take k xs
take_few n k xs is = elim (cases_Bool (nat_le n (length xs))) [
  | inl few ↦ let le : n ≤ length xs = grind (arith, nat_tests) in ap (λ m. take m xs) (let e : n ≡ k = omega (arith, is, le) in e)
  | inr past ↦ let le : length xs < n = grind (arith, nat_tests) in
      take_all n xs (omega (arith, le)) ∙ sym (take_all k xs (omega (arith, is, le)))
]

drop-drop : (n m : ℕ) (xs : List ℕ) → drop m (drop n xs) ≡ drop (n + m) xs
drop-drop n m xs = grind (arith, common_steps)

-- what is left of a list in two parts
parts_left : (put k : ℕ) (h b : List ℕ) → k ≡ min put (length h) → drop k h ++ drop (put - k) b ≡ drop put (h ++ b)
parts_left put k h b is = elim (cases_Bool (nat_le put (length h))) [
  | inl few ↦
      let le : put ≤ length h = grind (arith, nat_tests) in
      let same : k ≡ put = omega (arith, is, le) in
      let none : put - k ≡ put - length h = omega (arith, is, le) in
      ap (λ m. drop m h ++ drop (put - k) b) same ∙ ap (λ m. drop put h ++ drop m b) none ∙ sym (drop_parts put h b)
  | inr past ↦
      let le : length h < put = grind (arith, nat_tests) in
      let all : k ≡ length h = omega (arith, is, le) in
      let here : drop k h ≡ drop put h = drop_all k h (omega (arith, all)) ∙ sym (drop_all put h (omega (arith, le))) in
      ap (λ (t : List ℕ). t ++ drop (put - k) b) here ∙ ap (λ m. drop put h ++ drop (put - m) b) all ∙ sym (drop_parts put h b)
]

all_left : (k n : ℕ) (xs : List ℕ) → n ≡ length xs → take (n - k) (drop k xs) ≡ drop k xs
all_left k n xs is = take_all (n - k) (drop k xs) (omega (arith, length-drop k xs, is))

-- .. as slices give it
pub parts_read : (put k : ℕ) (h b text : List ℕ) → text ≡ b → length h ≡ 5 → k ≡ min put 5 →
    take (5 - k) (drop k h) ++ take (length text - (put - k)) (drop (put - k) text) ≡ drop put (h ++ b)
parts_read put k h b text same five is =
    let short : k ≡ min put (length h) = omega (arith, is, five) in
    let here : take (5 - k) (drop k h) ≡ drop k h = all_left k 5 h (sym five) in
    let there : take (length text - (put - k)) (drop (put - k) text) ≡ drop (put - k) text = all_left (put - k) (length text) text refl in
    ap (λ (t : List ℕ). t ++ take (length text - (put - k)) (drop (put - k) text)) here
    ∙ ap (λ (t : List ℕ). drop k h ++ t) (there ∙ ap (drop (put - k)) same)
    ∙ parts_left put k h b short

-- the first n of a list in two parts
pub parts_first : (n k : ℕ) (h b : List ℕ) → k ≡ min (length h) n → take k h ++ take (n - k) b ≡ take n (h ++ b)
parts_first n k h b is =
    let some : n - length h ≡ n - k = omega (arith, is) in
    sym (take_parts n h b ∙ ap (λ (t : List ℕ). t ++ take (n - length h) b) (take_few n k h is) ∙ ap (λ m. take k h ++ take m b) some)

-- a DATA frame that is written in three steps, from two parts of a message
pub message_put : (n k stream : ℕ) (h b whole out x y z : List ℕ) → h ++ b ≡ whole → n ≤ length whole → k ≡ min (length h) n →
    x ≡ out ++ header_text n DATA 0 stream → y ≡ x ++ take k h → z ≡ y ++ take (n - k) b →
    z ≡ out ++ text_of (Data stream false (take n whole))
message_put n k stream h b whole out x y z is there of_first put_head put_first put_second =
    let first : List ℕ = take k h in
    let second : List ℕ = take (n - k) b in
    let header : List ℕ = header_text n DATA 0 stream in
    let size : length (take n whole) ≡ n = length-take-le n whole there in
    put_second
    ∙ ap (λ (t : List ℕ). t ++ second) (put_first ∙ ap (λ (t : List ℕ). t ++ first) put_head)
    ∙ append_assoc (out ++ header) first second
    ∙ append_assoc out header (first ++ second)
    ∙ ap (λ (t : List ℕ). out ++ (header ++ t)) (parts_first n k h b of_first ∙ ap (take n) is)
    ∙ ap (λ m. out ++ (header_text m DATA 0 stream ++ take n whole)) (sym size)

-- n bytes within a part of a text
part_within : (c q n from : ℕ) (text : List ℕ) → q + n ≤ c → take n (drop q (take c (drop from text))) ≡ take n (drop (from + q) text)
part_within c q n from text within =
    let e : c ≡ q + (c - q) = omega (arith, within) in
    ap (λ k. take n (drop q (take k (drop from text)))) e
    ∙ ap (take n) (drop-take q (c - q) (drop from text))
    ∙ take-take n (c - q) (drop q (drop from text)) (omega (arith, within))
    ∙ ap (take n) (drop-drop from q text)

bound : (n put head rest of_head skipped count size : ℕ) → head + count ≡ size → rest ≡ head - put → n ≤ size - put → put < size →
    of_head ≡ min rest n → skipped ≡ put - head → skipped + (n - of_head) ≤ count
bound n put head rest of_head skipped count size a b c d e f = omega (arith, a, b, c, d, e, f)

-- ---- the head and the text

framed_head : (bytes : List ℕ) → framed_message (read_message bytes) ≡ read_head (length bytes) ++ bytes
framed_head bytes =
    let size : length (82 ∷ (length_text (length bytes) ++ bytes)) ≡ 1 + (length (length_text (length bytes)) + length bytes) =
    omega (arith, length-append (length_text (length bytes)) bytes) in
    ap (λ n. (0 ∷ big_bytes 4 n) ++ (82 ∷ (length_text (length bytes) ++ bytes))) size

pub head_size : (n : ℕ) → length (read_head n) + n ≡ read_size n
head_size n = omega (arith, length-append (0 ∷ big_bytes 4 (1 + (length (length_text n) + n))) (82 ∷ length_text n))

-- what is put: of the head, and of the text behind it
pub record Shares (m n : ℕ) (s : Span) (head rest : List ℕ) (of_head skipped : ℕ) : Type 0 where
  pub head_is : head ≡ read_head (span_count m s)
  pub rest_is : rest ≡ drop s.put head
  pub of_head_is : of_head ≡ min (length rest) n
  pub skipped_is : skipped ≡ s.put - length head

head_text : (m : ℕ) (s : Span) (text : List ℕ) → IsSpan m s text →
    span_front m s text ≡ drop s.put (read_head (span_count m s) ++ take (span_count m s) (drop s.from text))
head_text m s text is =
    let b : List ℕ = take (span_count m s) (drop s.from text) in
    let size : length (take (span_count m s) (drop s.from text)) ≡ span_count m s =
    length-take-le (span_count m s) (drop s.from text) (omega (arith, is.there, length-drop s.from text)) in
    ap (drop s.put) (framed_head (take (span_count m s) (drop s.from text))
    ∙ ap (λ k. read_head k ++ take (span_count m s) (drop s.from text)) size)

sizes : (m n : ℕ) (s : Span) (text head rest : List ℕ) (of_head skipped : ℕ) → IsSpan m s text → n ≤ length (span_front m s text) →
    Shares m n s head rest of_head skipped → skipped + (n - of_head) ≤ span_count m s
sizes m n s text head rest of_head skipped is there h =
    let whole : length (span_front m s text) ≡ read_size (span_count m s) - s.put =
    length-drop s.put (framed_message (read_message (take (span_count m s) (drop s.from text))))
    ∙ ap (λ k. k - s.put) (front_length m s text is) in
    let head_long : length head + span_count m s ≡ read_size (span_count m s) =
    ap (λ (t : List ℕ). length t + span_count m s) h.head_is ∙ head_size (span_count m s) in
    let rest_long : length rest ≡ length head - s.put = ap length h.rest_is ∙ length-drop s.put head in
    let front : n ≤ read_size (span_count m s) - s.put = omega (arith, there, whole) in
    let put = is.put in
    let a = h.of_head_is in
    let b = h.skipped_is in
    bound n s.put (length head) (length rest) of_head skipped (span_count m s)
    (read_size (span_count m s)) head_long rest_long front put a b

pub put_text : (m n : ℕ) (s : Span) (text head rest : List ℕ) (of_head skipped : ℕ) → IsSpan m s text → n ≤ length (span_front m s text) →
    Shares m n s head rest of_head skipped →
    take of_head rest ++ take (n - of_head) (drop (s.from + skipped) text) ≡ take n (span_front m s text)
put_text m n s text head rest of_head skipped is there h =
    let c : ℕ = span_count m s in
    let b : List ℕ = take (span_count m s) (drop s.from text) in
    let some : n - length rest ≡ n - of_head = omega (arith, h.of_head_is) in
    sym (
    ap (take n) (head_text m s text is ∙ ap (λ (t : List ℕ). drop s.put (t ++ b)) (sym h.head_is) ∙ drop_parts s.put head b
    ∙ ap (λ (t : List ℕ). t ++ drop (s.put - length head) b) (sym h.rest_is) ∙ ap (λ k. rest ++ drop k b) (sym h.skipped_is))
    ∙ take_parts n rest (drop skipped b)
    ∙ ap (λ (t : List ℕ). t ++ take (n - length rest) (drop skipped b)) (take_few n of_head rest h.of_head_is)
    ∙ ap (λ k. take of_head rest ++ take k (drop skipped b)) some
    ∙ ap (λ (t : List ℕ). take of_head rest ++ t)
    (part_within (span_count m s) skipped (n - of_head) s.from text (sizes m n s text head rest of_head skipped is there h))
    )

-- a DATA frame that is written in three steps
pub range_put : (m n : ℕ) (s : Span) (text head rest : List ℕ) (of_head skipped stream : ℕ) (out a b e : List ℕ) → IsSpan m s text →
    n ≤ length (span_front m s text) → Shares m n s head rest of_head skipped →
    a ≡ out ++ header_text n DATA 0 stream → b ≡ a ++ take of_head rest → e ≡ b ++ take (n - of_head) (drop (s.from + skipped) text) →
    e ≡ out ++ text_of (Data stream false (take n (span_front m s text)))
range_put m n s text head rest of_head skipped stream out a b e is there h put_head put_rest put_more =
    let front : List ℕ = take of_head rest in
    let more : List ℕ = take (n - of_head) (drop (s.from + skipped) text) in
    let header : List ℕ = header_text n DATA 0 stream in
    let size : length (take n (span_front m s text)) ≡ n = length-take-le n (span_front m s text) there in
    put_more
    ∙ ap (λ (t : List ℕ). t ++ more) (put_rest ∙ ap (λ (t : List ℕ). t ++ front) put_head)
    ∙ append_assoc (out ++ header) front more
    ∙ append_assoc out header (front ++ more)
    ∙ ap (λ (t : List ℕ). out ++ (header ++ t)) (put_text m n s text head rest of_head skipped is there h)
    ∙ ap (λ k. out ++ (header_text k DATA 0 stream ++ take n (span_front m s text))) (sym size)
