-- What the code writes at a place of a list.
use Rattle.std.proofs.Common.{◌≡◌, ℕ, zero, suc, ◌+◌, ◌<◌, ◌≤◌, List, [], ◌∷◌, ◌++◌, length, drop, take, get_or, refl, ap, ◌∙◌, sym, arith}
use Rattle.std.specs.Prelude.{map, Option, Some, None}
use Rattle.std.specs.Option.{option_map, option_map_or, is_some}
use Rattle.std.proofs.Math.ListN.{set}
use Rattle.std.proofs.Math.Seq.{take-suc}
use Rattle.std.proofs.lemmas.List.Sums.{fold_push}
use Rattle.std.proofs.lemmas.Bool.{true≢false}
use Rattle.std.proofs.lemmas.Grind.{common_steps, elements}
use Rattle.std.proofs.lemmas.List.Edits.{map_over_more}
use Rattle.served_instance.specs.Bytes.{pending_bytes}
use Rattle.served_instance.proofs.Histories.{append-nil}
use Rattle.served_instance.specs.Past.{Past}
use Rattle.served_instance.specs.Connections.{open_at}
use Rattle.served_instance.specs.Lone.{LoneInstance}
use Rattle.server_core.specs.declared.outputs.SentBytes.{SentBytes}
use Rattle.server_core.specs.declared.record.OpenRecord.{OpenRecord}
use Rattle.server_core.specs.Shown.{sent_shown}
use Rattle.server_core.specs.Notes.{with_more_at, pending_bytes_on, sent_bytes_with, sent_bytes_with_all}

get_or_any : {X : Type 0} (xs : List X) (j : ℕ) (d e : X) → j < length xs → get_or xs j d ≡ get_or xs j e
get_or_any xs j d e lt = grind (arith, common_steps, elements)

-- a loop that writes f of each
pub written : (f : OpenRecord → OpenRecord) (xs ys : List OpenRecord) (i : ℕ) (y d : OpenRecord) → i < length xs → length ys ≡ length xs →
    ys ≡ map f (take i xs) ++ drop i xs → y ≡ f (get_or ys i d) → set ys i y ≡ map f (take (i + 1) xs) ++ drop (i + 1) xs
written f xs ys i y d lt size inv is =
    let lt' : i < length ys = omega (arith, lt, size) in
    ap (set ys i) is ∙ map_over_more f xs ys i (get_or ys i d) lt inv (get_or_any ys i d (get_or ys i d) lt')

pub appended : (xs : List SentBytes) (i : ℕ) (x y d : SentBytes) (more : List ℕ) → i < length xs → x ≡ get_or xs i d →
    y.connection ≡ x.connection → y.bytes.items ≡ x.bytes.items ++ more →
    map sent_shown (set xs i y) ≡ with_more_at i more (map sent_shown xs)
appended [] i x y d more lt at same bytes = absurd (omega (arith, lt))
appended (s ∷ xs) zero x y d more lt at same bytes =
    let b : y.bytes.items ≡ s.bytes.items ++ more = bytes ∙ ap (λ (z : SentBytes). z.bytes.items ++ more) at in
    let n : y.connection ≡ s.connection = same ∙ ap (λ (z : SentBytes). z.connection) at in
    cc
appended (s ∷ xs) (suc i) x y d more lt at same bytes =
    ap (λ (ss : List (ℕ × List ℕ)). sent_shown s ∷ ss) (appended xs i x y d more (omega (arith, lt)) at same bytes)

pub more_past : (xs : List SentBytes) (i : ℕ) (more : List ℕ) → length xs ≤ i → map sent_shown xs ≡ with_more_at i more (map sent_shown xs)
more_past [] i more h = refl
more_past (x ∷ xs) zero more h = absurd (omega (arith, h))
more_past (x ∷ xs) (suc i) more h = ap (λ (ss : List (ℕ × List ℕ)). sent_shown x ∷ ss) (more_past xs i more (omega (arith, h)))

no_more : (ss : List (ℕ × List ℕ)) (i : ℕ) → ss ≡ with_more_at i [] ss
no_more [] i = refl
no_more (s ∷ ss) zero =
    let e : s.1 ++ [] ≡ s.1 = append-nil s.1 in
    ap (λ (xs : List ℕ). (s.0, xs) ∷ ss) (sym e)
no_more (s ∷ ss) (suc i) = ap (λ (xs : List (ℕ × List ℕ)). s ∷ xs) (no_more ss i)

drop_none : (n : ℕ) → drop {A = ℕ} n [] ≡ []
drop_none zero = refl
drop_none (suc n) = refl

none_pending : (o : Option Past) → None ≡ option_map (λ (p : Past). pending_bytes p.history) o →
    option_map_or (λ (p : Past). pending_bytes p.history) o [] ≡ []
none_pending None h = refl
none_pending (Some p) h = absurd (true≢false (sym (ap is_some h)))

-- a connection that is not found has nothing more
pub none_gathered : (l : LoneInstance) (o : OpenRecord) (ss : List (ℕ × List ℕ)) →
    None ≡ option_map (λ (p : Past). pending_bytes p.history) (open_at o.number l.connections) → ss ≡ sent_bytes_with l ss o
none_gathered l o ss h =
    let none : pending_bytes_on l o.number ≡ [] = none_pending (open_at o.number l.connections) h in
    no_more ss o.place ∙ ap (λ (more : List ℕ). with_more_at o.place more ss) (sym (ap (drop o.untaken) none ∙ drop_none o.untaken))

-- one more connection is gathered
pub gathered_more : (l : LoneInstance) (xs : List OpenRecord) (i : ℕ) (d : OpenRecord) (start before after : List (ℕ × List ℕ)) →
    i < length xs → before ≡ sent_bytes_with_all l (take i xs) start → after ≡ sent_bytes_with l before (get_or xs i d) →
    after ≡ sent_bytes_with_all l (take (i + 1) xs) start
gathered_more l xs i d start before after lt so_far step =
    let next : i + 1 ≡ suc i = omega arith in
    let front : take (i + 1) xs ≡ take i xs ++ get_or xs i d ∷ [] = ap (λ (n : ℕ). take n xs) next ∙ take-suc xs i d lt in
    step
    ∙ ap (λ (ss : List (ℕ × List ℕ)). sent_bytes_with l ss (get_or xs i d)) so_far
    ∙ sym (fold_push (sent_bytes_with l) start (take i xs) (get_or xs i d))
    ∙ sym (ap (λ (os : List OpenRecord). sent_bytes_with_all l os start) front)
