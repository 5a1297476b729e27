-- What the prefix and the bytes behind it, kept apart, are together.
use Rattle.std.proofs.Common.{◌≡◌, ◌≤◌, ◌<◌, ◌+◌, ◌-◌, ◌∙◌, ℕ, List, [], ◌∷◌, ◌++◌, length, take, drop, IsTrue, Bool, false, true, nat_eq, nat_lt, Option, Some, None, Result, Ok, refl, ap, sym, arith, append_assoc, length-append, length-drop, eq-eqb}
use Rattle.std.specs.Option.{is_some}
use Rattle.std.proofs.lemmas.Bool.{eqb-true}
use Rattle.std.proofs.lemmas.List.{take-append-drop, drop-drop, drop-append-le, drop_all, drop_at, append-nil}
use Rattle.grpc_messages.specs.declared.error.MessagesError.{MessagesError}
use Rattle.grpc_messages.specs.Reading.{whole_at, message_at}
use Rattle.grpc_messages.specs.Reader.{left_of, bytes_left, with_more_bytes}
use Rattle.grpc_messages.specs.Step.{step_by_front, step}
use Rattle.grpc_messages.proofs.Fronts.{whole_is}

abbrev Reader : Type 0
Reader = Result (List ℕ) MessagesError

-- as long as the prefix is not whole nothing stands behind it
abbrev IsInOrder : List ℕ → List ℕ → ℕ → Type 0
IsInOrder prefix behind given = length prefix < 5 → given ≡ length behind

both : (prefix behind piece : List ℕ) (given : ℕ) → given ≤ length behind → IsInOrder prefix behind given
    → (prefix ++ take (5 - length prefix) piece) ++ drop given (behind ++ drop (5 - length prefix) piece) ≡ (prefix ++ drop given behind)
    ++ piece
both prefix behind piece given within order = at (nat_lt (length prefix) 5) refl where
  at : (t : Bool) → nat_lt (length prefix) 5 ≡ t →
      (prefix ++ take (5 - length prefix) piece) ++ drop given (behind ++ drop (5 - length prefix) piece) ≡ (prefix ++ drop given behind)
      ++ piece
  at true h =
      let size : given ≡ length behind = order (grind arith) in
      let empty : drop given behind ≡ [] = drop_all given behind (omega arith) in
      let past = drop-append-le given behind (drop (5 - length prefix) piece) within in
      ap (λ (xs : List ℕ). (prefix ++ take (5 - length prefix) piece) ++ xs)
      (past ∙ ap (λ (xs : List ℕ). xs ++ drop (5 - length prefix) piece) empty)
      ∙ append_assoc prefix (take (5 - length prefix) piece) (drop (5 - length prefix) piece)
      ∙ ap (λ (xs : List ℕ). prefix ++ xs) (take-append-drop (5 - length prefix) piece)
      ∙ sym (ap (λ (xs : List ℕ). (prefix ++ xs) ++ piece) empty ∙ ap (λ (xs : List ℕ). xs ++ piece) (append-nil prefix))
  at false h =
      let zero : 5 - length prefix ≡ 0 = grind arith in
      ap (λ (n : ℕ). (prefix ++ take n piece) ++ drop given (behind ++ drop n piece)) zero
      ∙ ap (λ (xs : List ℕ). xs ++ drop given (behind ++ piece)) (append-nil prefix)
      ∙ ap (λ (xs : List ℕ). prefix ++ xs) (drop-append-le given behind piece within)
      ∙ sym (append_assoc prefix (drop given behind) piece)

followed : (refusal : Option MessagesError) (bytes piece : List ℕ) →
    left_of (bytes ++ piece) refusal ≡ with_more_bytes (left_of bytes refusal) piece
followed None bytes piece = refl
followed (Some e) bytes piece = refl

pub appended : (refusal : Option MessagesError) (v : Reader) (prefix behind piece grown longer : List ℕ) (given : ℕ) →
    left_of (prefix ++ drop given behind) refusal ≡ v → given ≤ length behind → IsInOrder prefix behind given
    → grown ≡ prefix ++ take (5 - length prefix) piece → longer ≡ behind ++ drop (5 - length prefix) piece →
    left_of (grown ++ drop given longer) refusal ≡ with_more_bytes v piece
appended refusal v prefix behind piece grown longer given is within order front back =
    ap (λ (xs : List ℕ). left_of (xs ++ drop given longer) refusal) front
    ∙ ap (λ (xs : List ℕ). left_of ((prefix ++ take (5 - length prefix) piece) ++ drop given xs) refusal) back
    ∙ ap (λ (xs : List ℕ). left_of xs refusal) (both prefix behind piece given within order)
    ∙ followed refusal (prefix ++ drop given behind) piece
    ∙ ap (λ (x : Reader). with_more_bytes x piece) is

-- the next prefix and what is behind it are what was left
pub prefix_begun : (prefix behind : List ℕ) (given count : ℕ) → prefix ≡ take count (drop given behind) →
    prefix ++ drop (given + count) behind ≡ drop given behind
prefix_begun prefix behind given count is =
    ap (λ (xs : List ℕ). xs ++ drop (given + count) behind) is
    ∙ ap (λ (xs : List ℕ). take count (drop given behind) ++ xs) (sym (drop-drop count given behind))
    ∙ take-append-drop count (drop given behind)

-- where a message is whole the prefix is
five_of : (prefix behind : List ℕ) (given n : ℕ) → length prefix ≤ 5 → IsInOrder prefix behind given →
    5 + n ≤ length (prefix ++ drop given behind) → length prefix ≡ 5
five_of prefix behind given n few order fits = at (nat_lt (length prefix) 5) refl where
  at : (t : Bool) → nat_lt (length prefix) 5 ≡ t → length prefix ≡ 5
  at true h =
      let size : given ≡ length behind = order (grind arith) in
      let both = length-append prefix (drop given behind) in
      let left = length-drop given behind in
      absurd (grind arith)
  at false h = grind arith

pub taken_by : (limit n given given' : ℕ) (v : Reader) (refusal : Option MessagesError) (prefix behind next rest message : List ℕ) →
    left_of (prefix ++ drop given behind) refusal ≡ v → refusal ≡ None → length prefix ≤ 5 → IsInOrder prefix behind given
    → whole_at limit (prefix ++ drop given behind) ≡ Ok (Some n) → message ≡ take n (drop given behind) →
    next ++ drop given' rest ≡ drop (given + n) behind → step limit v ≡ (Ok (Some message), left_of (next ++ drop given' rest) refusal)
taken_by limit n given given' v (Some e) prefix behind next rest message is fine few order whole message_is rest_is = absurd cc
taken_by limit n given given' v None prefix behind next rest message is fine few order whole message_is rest_is =
    let w = whole_is limit (prefix ++ drop given behind) n whole in
    let five = five_of prefix behind given n few order w.fits in
    let left : drop 5 (prefix ++ drop given behind) ≡ drop given behind = drop_at prefix (drop given behind) 5 five in
    let first : message_at (prefix ++ drop given behind) ≡ message =
    ap (λ (k : ℕ). take k (drop 5 (prefix ++ drop given behind))) (sym w.size) ∙ ap (take n) left ∙ sym message_is in
    let last : drop (5 + n) (prefix ++ drop given behind) ≡ next ++ drop given' rest =
    sym (drop-drop n 5 (prefix ++ drop given behind)) ∙ ap (drop n) left ∙ drop-drop n given behind ∙ sym rest_is in
    ap (step limit) (sym is)
    ∙ ap (λ (x : Result (Option ℕ) MessagesError). step_by_front x (prefix ++ drop given behind)) whole
    ∙ ap (λ (m : List ℕ). (Ok (Some m), Ok (drop (5 + n) (prefix ++ drop given behind)))) first
    ∙ ap (λ (xs : List ℕ). (Ok (Some message), Ok xs)) last

none_in : (xs : List ℕ) → length xs ≡ 0 → xs ≡ []
none_in [] h = refl
none_in (x ∷ xs) h = absurd (omega arith)

-- nothing is left where the prefix is empty
pub empty_by : (v : Reader) (refusal : Option MessagesError) (prefix behind : List ℕ) (given : ℕ) (b : Bool) →
    left_of (prefix ++ drop given behind) refusal ≡ v → is_some refusal ≡ false → IsInOrder prefix behind given →
    b ≡ nat_eq (length prefix) 0 → (IsTrue b → bytes_left v ≡ []) × (bytes_left v ≡ [] → IsTrue b)
empty_by v (Some e) prefix behind given b is some order empty = absurd cc
empty_by v None prefix behind given b is some order empty =
    let left : bytes_left v ≡ prefix ++ drop given behind = ap bytes_left (sym is) in (
      λ same.
          let zero : length prefix ≡ 0 = eqb-true (length prefix) 0 (sym empty ∙ same) in
          let size : given ≡ length behind = order (omega arith) in
          left ∙ ap (λ (xs : List ℕ). xs ++ drop given behind) (none_in prefix zero) ∙ drop_all given behind (omega arith),
      λ none.
          let both : length (prefix ++ drop given behind) ≡ 0 = ap length (sym left ∙ none) in
          empty ∙ eq-eqb (length prefix) 0 (omega (arith, length-append prefix (drop given behind))),
    )
