-- A range is put one message after another.
use Rattle.std.proofs.Common.{◌≡◌, ℕ, zero, suc, ◌+◌, ◌-◌, ◌<◌, ◌≤◌, List, [], ◌∷◌, ◌++◌, length, take, drop, refl, ap, ◌∙◌, sym, arith, inl, inr, length-drop, length-append}
use Rattle.std.specs.Prelude.{true, false, nat_lt, cond}
use Rattle.std.specs.List.{flat_map}
use Rattle.std.proofs.lemmas.Bool.{cases_Bool, ltb-true, ltb-false}
use Rattle.std.proofs.lemmas.Bool.Decides.{nat_tests}
use Rattle.std.proofs.lemmas.Grind.{common_steps}
use Rattle.std.proofs.lemmas.List.{take-take, drop-take, take_all, drop_all, length-take-le}
use Rattle.grpc_messages.specs.Writing.{framed_message}
use Rattle.grpc_sending.specs.Pieces.{Piece, Part, most_read, read_message, read_piece, message_pieces}
use Rattle.grpc_sending.specs.Owed.{without_front}
use Rattle.grpc_sending.specs.Spans.{Span, span_count, read_size, span_size, span_text, span_pieces, span_ends, span_front, span_after, IsSpan}
use Rattle.grpc_sending.proofs.Histories.{append-nil}

-- ---- cutting

cut_same : (text : List ℕ) (m j k : ℕ) (bytes : List ℕ) → 0 < m → 0 < length bytes → length bytes ≤ j → length bytes ≤ k →
    message_pieces text m j bytes ≡ message_pieces text m k bytes
cut_same text m zero k bytes pos some h i = absurd (omega (arith, some, h))
cut_same text m (suc j) zero bytes pos some h i = absurd (omega (arith, some, i))
cut_same text m (suc j) (suc k) bytes pos some h i = elim (cases_Bool (nat_lt m (length bytes))) [
  | inl more ↦
      let less : m < length bytes = ltb-true m (length bytes) more in
      let left : length (drop m bytes) ≡ length bytes - m = length-drop m bytes in
      rw more (ap (λ (ps : List Piece). read_piece [] (take m bytes) ∷ ps)
      (cut_same text m j k (drop m bytes) pos (omega (arith, left, less)) (omega (arith, left, h, pos, less))
      (omega (arith, left, i, pos, less))))
  | inr last ↦ rw last refl
]

-- what ends with the first message of n bytes
abbrev pub cut_ends : List ℕ → ℕ → ℕ → List (List ℕ)
cut_ends text m n = cond (nat_lt m n) [] (text ∷ [])

-- the first message, and the others
pub cut_first : (text : List ℕ) (m : ℕ) (bytes : List ℕ) → 0 < m → 0 < length bytes →
    message_pieces text m (length bytes) bytes ≡ read_piece (cut_ends text m (length bytes)) (take m bytes) ∷ message_pieces text m
    (length (drop m bytes)) (drop m bytes)
cut_first text m [] pos some = absurd (omega (arith, some))
cut_first text m (x ∷ xs) pos some = elim (cases_Bool (nat_lt m (length (x ∷ xs)))) [
  | inl more ↦
      let less : m < length (x ∷ xs) = ltb-true m (length (x ∷ xs)) more in
      let left : length (drop m (x ∷ xs)) ≡ length (x ∷ xs) - m = length-drop m (x ∷ xs) in
      let size : length (x ∷ xs) ≡ suc (length xs) = refl in
      let same : length (drop m (x ∷ xs)) ≤ length (drop m (x ∷ xs)) = omega arith in
      ap (λ b. cond b (read_piece [] (take m (x ∷ xs)) ∷ message_pieces text m (length xs) (drop m (x ∷ xs)))
      (read_piece (text ∷ []) (x ∷ xs) ∷ [])) more
      ∙ ap (λ (es : List (List ℕ)). read_piece es (take m (x ∷ xs)) ∷ message_pieces text m (length xs) (drop m (x ∷ xs)))
      (sym (ap (λ b. cond b [] (text ∷ [])) more))
      ∙ ap (λ (ps : List Piece). read_piece (cut_ends text m (length (x ∷ xs))) (take m (x ∷ xs)) ∷ ps)
      (cut_same text m (length xs) (length (drop m (x ∷ xs))) (drop m (x ∷ xs)) pos (omega (arith, left, less))
      (omega (arith, left, pos, size, less)) same)
  | inr last ↦
      let few : length (x ∷ xs) ≤ m = let f = ltb-false m (length (x ∷ xs)) last in omega (arith, f) in
      let all : take m (x ∷ xs) ≡ x ∷ xs = take_all m (x ∷ xs) few in
      let none : drop m (x ∷ xs) ≡ [] = drop_all m (x ∷ xs) few in
      ap (λ b. cond b (read_piece [] (take m (x ∷ xs)) ∷ message_pieces text m (length xs) (drop m (x ∷ xs)))
      (read_piece (text ∷ []) (x ∷ xs) ∷ [])) last
      ∙ ap (λ (es : List (List ℕ)). read_piece es (x ∷ xs) ∷ []) (sym (ap (λ b. cond b [] (text ∷ [])) last))
      ∙ ap (λ (bs : List ℕ). read_piece (cut_ends text m (length (x ∷ xs))) bs ∷ []) (sym all)
      ∙ ap (λ (bs : List ℕ). read_piece (cut_ends text m (length (x ∷ xs))) (take m (x ∷ xs)) ∷ message_pieces text m (length bs) bs)
      (sym none)
]

-- ---- sizes

pub framed_size : (bytes : List ℕ) → length (framed_message (read_message bytes)) ≡ read_size (length bytes)
framed_size bytes = simp length-append (omega arith)

drop-drop : (n m : ℕ) (xs : List ℕ) → drop m (drop n xs) ≡ drop (n + m) xs
drop-drop n m xs = grind (arith, common_steps)

-- ---- a span

pub span_length : (s : Span) (text : List ℕ) → s.until ≤ length text → length (span_text s text) ≡ s.until - s.from
span_length s text there = length-take-le (s.until - s.from) (drop s.from text) (omega (arith, there, length-drop s.from text))

front_text : (m : ℕ) (s : Span) (text : List ℕ) → s.until ≤ length text →
    take m (span_text s text) ≡ take (span_count m s) (drop s.from text)
front_text m s text there = elim (cases_Bool (nat_lt m (s.until - s.from))) [
  | inl more ↦
      let less : m < s.until - s.from = ltb-true m (s.until - s.from) more in
      let c : span_count m s ≡ m = omega (arith, less) in
      take-take m (s.until - s.from) (drop s.from text) (omega (arith, less)) ∙ ap (λ k. take k (drop s.from text)) (sym c)
  | inr last ↦
      let f = ltb-false m (s.until - s.from) last in
      let c : span_count m s ≡ s.until - s.from = omega (arith, f) in
      take_all m (span_text s text) (omega (arith, f, span_length s text there)) ∙ ap (λ k. take k (drop s.from text)) (sym c)
]

pub front_length : (m : ℕ) (s : Span) (text : List ℕ) → IsSpan m s text →
    length (framed_message (read_message (take (span_count m s) (drop s.from text)))) ≡ read_size (span_count m s)
front_length m s text is =
    let size : length (take (span_count m s) (drop s.from text)) ≡ span_count m s =
    length-take-le (span_count m s) (drop s.from text) (omega (arith, is.there, length-drop s.from text)) in
    framed_size (take (span_count m s) (drop s.from text)) ∙ ap read_size size

without : (n : ℕ) (bytes : List ℕ) (ends : List (List ℕ)) (ps : List Piece) → n < length bytes →
    without_front n (Part bytes ends ∷ ps) ≡ Part (drop n bytes) ends ∷ ps
without n bytes ends ps less = let b : nat_lt n (length bytes) ≡ true = grind (arith, nat_tests) in rw b refl

abbrev pub span_rest : ℕ → Span → List ℕ → List Piece
span_rest m s text = message_pieces text m (length (drop m (span_text s text))) (drop m (span_text s text))

-- a span begins with its front
pub span_is : (m : ℕ) (s : Span) (text : List ℕ) → 0 < m → IsSpan m s text →
    span_pieces m s text ≡ Part (span_front m s text) (span_ends m s text) ∷ span_rest m s text
span_is m s text pos is =
    let some : 0 < length (span_text s text) = omega (arith, span_length s text is.there, is.some) in
    let less : s.put < length (framed_message (read_message (take (span_count m s) (drop s.from text)))) =
    omega (arith, is.put, front_length m s text is) in
    ap (without_front s.put) (cut_first text m (span_text s text) pos some)
    ∙ ap (λ n. without_front s.put (read_piece (cut_ends text m n) (take m (span_text s text)) ∷ span_rest m s text))
    (span_length s text is.there)
    ∙ ap (λ (bs : List ℕ). without_front s.put (read_piece (span_ends m s text) bs ∷ span_rest m s text)) (front_text m s text is.there)
    ∙ without s.put (framed_message (read_message (take (span_count m s) (drop s.from text)))) (span_ends m s text)
    (span_rest m s text) less

pub span_front_size : (m : ℕ) (s : Span) (text : List ℕ) → IsSpan m s text → length (span_front m s text) ≡ span_size m s
span_front_size m s text is = length-drop s.put (framed_message (read_message (take (span_count m s) (drop s.from text))))
    ∙ ap (λ k. k - s.put) (front_length m s text is)

-- part of the first message was put
pub span_less : (m n : ℕ) (s : Span) (text : List ℕ) → IsSpan m s text → n < span_size m s → IsSpan m (record s { put = s.put + n }) text
span_less m n s text is less = record { some = is.some; there = is.there; put = omega (arith, less, is.put) }

-- all of it was, and another follows
pub span_next : (m : ℕ) (s : Span) (text : List ℕ) → IsSpan m s text → m < s.until - s.from →
    IsSpan m (record s { from = s.from + m; put = 0 }) text
span_next m s text is more = record { some = omega (arith, more); there = is.there; put = omega arith }

rest_next : (m : ℕ) (s : Span) (text : List ℕ) → m < s.until - s.from →
    drop m (span_text s text) ≡ take (s.until - (s.from + m)) (drop (s.from + m) text)
rest_next m s text more =
    let c : s.until - s.from ≡ m + (s.until - (s.from + m)) = omega (arith, more) in
    ap (λ k. drop m (take k (drop s.from text))) c
    ∙ drop-take m (s.until - (s.from + m)) (drop s.from text)
    ∙ ap (take (s.until - (s.from + m))) (drop-drop s.from m text)

pub without_none : (text : List ℕ) (m k : ℕ) (bytes : List ℕ) →
    without_front 0 (message_pieces text m k bytes) ≡ message_pieces text m k bytes
without_none text m zero bytes = refl
without_none text m (suc k) bytes = elim (cases_Bool (nat_lt m (length bytes))) [
  | inl more ↦ let some : 0 < length (framed_message (read_message (take m bytes))) = simp length-append (omega arith) in
      rw more (without 0 (framed_message (read_message (take m bytes))) [] (message_pieces text m k (drop m bytes)) some)
  | inr last ↦ let some : 0 < length (framed_message (read_message bytes)) = simp length-append (omega arith) in
      rw last (without 0 (framed_message (read_message bytes)) (text ∷ []) [] some)
]

-- what is left when n bytes were put is what the definition leaves
pub span_put : (m n : ℕ) (s : Span) (text : List ℕ) (ps : List Piece) → 0 < m → IsSpan m s text → n ≤ span_size m s →
    flat_map (λ (t : Span). span_pieces m t text) (span_after m n s) ++ ps ≡ without_front n (span_pieces m s text ++ ps)
span_put m n s text ps pos is few =
    let now : without_front n (span_pieces m s text ++ ps)
    ≡ without_front n (Part (span_front m s text) (span_ends m s text) ∷ (span_rest m s text ++ ps)) =
    ap (λ (qs : List Piece). without_front n (qs ++ ps)) (span_is m s text pos is) in
    elim (cases_Bool (nat_lt n (span_size m s))) [
      | inl part ↦
          let less : n < span_size m s = ltb-true n (span_size m s) part in
          let t : Span = record s { put = s.put + n } in
          let one : span_pieces m (record s { put = s.put + n }) text
          ≡ Part (span_front m (record s { put = s.put + n }) text) (span_ends m s text) ∷ span_rest m s text =
          span_is m (record s { put = s.put + n }) text pos (span_less m n s text is less) in
          let front : span_front m (record s { put = s.put + n }) text ≡ drop n (span_front m s text) =
          sym (drop-drop s.put n (framed_message (read_message (take (span_count m s) (drop s.from text))))) in
          let small : n < length (span_front m s text) = omega (arith, less, span_front_size m s text is) in
          rw part (ap (λ (qs : List Piece). qs ++ ps)
          (append-nil (span_pieces m (record s { put = s.put + n }) text) ∙ one
          ∙ ap (λ (bs : List ℕ). Part bs (span_ends m s text) ∷ span_rest m s text) front)
          ∙ sym (without n (span_front m s text) (span_ends m s text) (span_rest m s text ++ ps) small) ∙ sym now)
      | inr whole ↦
          let f = ltb-false n (span_size m s) whole in
          let big : nat_lt n (length (span_front m s text)) ≡ false = ap (λ k. nat_lt n k) (span_front_size m s text is) ∙ whole in
          let later : without_front n (Part (span_front m s text) (span_ends m s text) ∷ (span_rest m s text ++ ps)) ≡ span_rest m s text
          ++ ps = ap (λ b. cond b (Part (drop n (span_front m s text)) (span_ends m s text) ∷ (span_rest m s text ++ ps))
          (span_rest m s text ++ ps)) big in
          elim (cases_Bool (nat_lt m (s.until - s.from))) [
            | inl more ↦
                let less : m < s.until - s.from = ltb-true m (s.until - s.from) more in
                let next : span_pieces m (record s { from = s.from + m; put = 0 }) text ≡ span_rest m s text =
                without_none text m (length (span_text (record s { from = s.from + m; put = 0 }) text))
                (span_text (record s { from = s.from + m; put = 0 }) text)
                ∙ ap (λ (bs : List ℕ). message_pieces text m (length bs) bs) (sym (rest_next m s text less)) in
                rw (whole, more) (ap (λ (qs : List Piece). qs ++ ps)
                (append-nil (span_pieces m (record s { from = s.from + m; put = 0 }) text) ∙ next) ∙ sym later ∙ sym now)
            | inr last ↦
                let g = ltb-false m (s.until - s.from) last in
                let none : drop m (span_text s text) ≡ [] = drop_all m (span_text s text) (omega (arith, g, span_length s text is.there)) in
                let gone : span_rest m s text ≡ [] = ap (λ (bs : List ℕ). message_pieces text m (length bs) bs) none in
                rw (whole, last) (ap (λ (qs : List Piece). qs ++ ps) (sym gone) ∙ sym later ∙ sym now)
          ]
    ]

pub new_span : (source from until : ℕ) (text : List ℕ) → from < until → until ≤ length text →
    IsSpan most_read (record { source = source; from = from; until = until; put = 0 }) text
new_span source from until text some there = record { some = some; there = there; put = omega arith }
