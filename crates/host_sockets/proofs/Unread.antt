-- What becomes of the number of open connections on which something may have come.
use Rattle.std.proofs.Common.{◌≡◌, ◌==◌, ◌∙◌, ◌+◌, ◌≤◌, refl, sym, ap, subst, ℕ, Bool, true, false, if◌then◌else◌, nat_eq, List, [], ◌∷◌, length, Option, Some, None, arith}
use Rattle.std.specs.Prelude.{◌||◌, cond, count_by, nat_lt, unwrap_or}
use Rattle.std.specs.List.{list_any, sum_by}
use Rattle.std.specs.Option.{option_map, option_map_or}
use Rattle.std.specs.List.Sorted.{IsPermutation}
use Rattle.std.specs.HashMap.{HashMap, IsReordered, PutsEntry, Updates, WritesThrough, get}
use Rattle.std.specs.Map.{remove_entry, values_of}
use Rattle.std.proofs.lemmas.Bool.{ne_eqb}
use Rattle.std.proofs.lemmas.List.Sums.{count_by-le-length, sum_by-cons}
use Rattle.std.proofs.lemmas.Map.Entries.{length-values_of, sum_by-remove_entry, sum_by-set_value, sum_by_puts_entry, sum_by_values_permutation}
use Rattle.host_sockets.specs.declared.watched.Watched.{Watched}
use Rattle.host_sockets.specs.Ports.{OthersHold, wire_at}
use Rattle.host_sockets.specs.Unread.{Opened, unread_in}

-- what is answered where one was counted, or not, and now is, or is not
abbrev pub Counts : ℕ → Bool → Bool → ℕ → ℕ → Type 0
Counts count was is most result = (n : ℕ) → n + (if was then 1 else 0) ≡ count + (if is then 1 else 0) → n ≤ most → result ≡ n

first_of_any : (b c : Bool) (n : ℕ) → nat_lt 0 n ≡ c → nat_lt 0 (cond b 1 0 + n) ≡ (b || c)
first_of_any true c n is = search arith
first_of_any false c n is = ap (nat_lt 0) (zero_more n) ∙ is
  where
    zero_more : (k : ℕ) → 0 + k ≡ k
    zero_more k = omega arith

none_less : (n : ℕ) → n ≡ n + (if false then 1 else 0)
none_less n = omega arith

module _ {W : Type 0} where
  abbrev one : Watched W → ℕ
  one w = cond w.may_read 1 0

  few : (wires : List (ℕ × Watched W)) → unread_in wires ≤ length wires
  few wires = subst (λ (n : ℕ). unread_in wires ≤ n) (length-values_of wires) (count_by-le-length (λ w. w.may_read) (values_of wires))

  -- where the sums agree so, the answer is right
  pub agrees : (new : List (ℕ × Watched W)) (before count result most : ℕ) (a b : Bool)
      → unread_in new + (if a then 1 else 0) ≡ before + (if b then 1 else 0) → count ≡ before → most ≡ length new
      → Counts count a b most result → result ≡ unread_in new
  agrees new before count result most a b sums is_count is_most says =
      says (unread_in new) (sums ∙ ap (λ (n : ℕ). n + (if b then 1 else 0)) (sym is_count))
      (subst (λ (n : ℕ). unread_in new ≤ n) (sym is_most) (few new))

  -- whether there is one
  some_read : (ws : List (Watched W)) → nat_lt 0 (count_by (λ w. w.may_read) ws) ≡ list_any (λ w. w.may_read) ws
  some_read [] = refl
  some_read (w ∷ ws) = ap (nat_lt 0) (sum_by-cons one w ws)
      ∙ first_of_any w.may_read (list_any (λ w. w.may_read) ws) (count_by (λ w. w.may_read) ws) (some_read ws)

  pub has_unread : (wires seen : List (ℕ × Watched W)) (n : ℕ) → n ≡ unread_in wires → wires ≡ seen
      → nat_lt 0 n ≡ list_any (λ w. w.may_read) (values_of seen)
  has_unread wires seen n is same = ap (nat_lt 0) is ∙ some_read (values_of wires)
      ∙ ap (λ (es : List (ℕ × Watched W)). list_any (λ w. w.may_read) (values_of es)) same

  abbrev pub entries_of : Opened W → List (ℕ × Watched W)
  entries_of v = v.entries

  weight_before : (o : Option (Watched W)) (b : Bool) → b ≡ option_map_or (λ (w : Watched W). w.may_read) o false
      → (if b then 1 else 0) ≡ unwrap_or (option_map one o) 0
  weight_before None b is = ap (λ (x : Bool). cond x 1 0) is
  weight_before (Some w) b is = ap (λ (x : Bool). cond x 1 0) is

module _ {W S : Type 0} where
  -- one was written to
  pub after_write : (c : ℕ) (old new : HashMap ℕ (Watched W) S) (w v : Watched W) (count result most : ℕ) (a b : Bool)
      → WritesThrough nat_eq (λ n. c == n) old v new → Some w ≡ wire_at c old.entries → a ≡ w.may_read → b ≡ v.may_read
      → count ≡ unread_in old.entries → most ≡ length new.entries → Counts count a b most result → result ≡ unread_in new.entries
  after_write c old new w v count result most a b through was is_w is_v =
      agrees new.entries (unread_in old.entries) count result most a b
      (ap (λ (x : Bool). unread_in new.entries + cond x 1 0) is_w
      ∙ ap (λ (es : List (ℕ × Watched W)). unread_in es + one w) through.0
      ∙ sum_by-set_value one (λ n. c == n) old.entries w v (sym was)
      ∙ ap (λ (x : Bool). unread_in old.entries + cond x 1 0) (sym is_v))

  -- one was put in
  pub after_insert : (c : ℕ) (old new : HashMap ℕ (Watched W) S) (w : Watched W) (before : Option (Watched W))
      (count result most : ℕ) (a b : Bool) → before ≡ get nat_eq old c → PutsEntry nat_eq old new c w before
      → a ≡ option_map_or (λ (x : Watched W). x.may_read) before false → b ≡ w.may_read
      → count ≡ unread_in old.entries → most ≡ length new.entries → Counts count a b most result → result ≡ unread_in new.entries
  after_insert c old new w before count result most a b was puts is_before is_w =
      agrees new.entries (unread_in old.entries) count result most a b
      (ap (λ (n : ℕ). unread_in new.entries + n) (weight_before before a is_before)
      ∙ sum_by_puts_entry one nat_eq old new c w before was puts
      ∙ ap (λ (x : Bool). unread_in old.entries + cond x 1 0) (sym is_w))

  -- one was taken out
  pub after_remove : (c : ℕ) (old new : HashMap ℕ (Watched W) S) (w : Watched W) (count result most : ℕ) (a : Bool)
      → IsPermutation (remove_entry (λ n. c == n) old.entries) new.entries → Some w ≡ wire_at c old.entries → a ≡ w.may_read
      → count ≡ unread_in old.entries → most ≡ length new.entries → Counts count a false most result → result ≡ unread_in new.entries
  after_remove c old new w count result most a left was is_w =
      agrees new.entries (unread_in old.entries) count result most a false
      (ap (λ (n : ℕ). n + (if a then 1 else 0)) (sum_by_values_permutation one (remove_entry (λ n. c == n) old.entries) new.entries left)
      ∙ ap (λ (x : Bool). sum_by one (values_of (remove_entry (λ n. c == n) old.entries)) + cond x 1 0) is_w
      ∙ ap (λ (o : Option (Watched W)). sum_by one (values_of (remove_entry (λ n. c == n) old.entries)) + unwrap_or (option_map one o) 0) was
      ∙ sum_by-remove_entry one (λ n. c == n) old.entries ∙ none_less (unread_in old.entries))

  -- one was written to, and the same is told of it
  pub after_same : (c : ℕ) (old new : HashMap ℕ (Watched W) S) (w v : Watched W) (count : ℕ)
      → WritesThrough nat_eq (λ n. c == n) old v new → Some w ≡ wire_at c old.entries → v.may_read ≡ w.may_read
      → count ≡ unread_in old.entries → count ≡ unread_in new.entries
  after_same c old new w v count through was same is =
      let sums : unread_in new.entries + one w ≡ unread_in old.entries + one w =
      ap (λ (es : List (ℕ × Watched W)). unread_in es + one w) through.0
      ∙ sum_by-set_value one (λ n. c == n) old.entries w v (sym was)
      ∙ ap (λ (x : Bool). unread_in old.entries + cond x 1 0) same in
      is ∙ omega (arith, sums)

  -- room was made
  pub after_reserve : (old new : HashMap ℕ (Watched W) S) (count : ℕ) → IsReordered nat_eq old new → count ≡ unread_in old.entries
      → count ≡ unread_in new.entries
  after_reserve old new count reordered is = is ∙ sym (sum_by_values_permutation one old.entries new.entries reordered.0)

  -- what the others are, as it is seen
  pub others_hold : (c : ℕ) (old new : HashMap ℕ (Watched W) S) (seen : List (ℕ × Watched W)) (o : Option (Watched W))
      → Updates nat_eq old new c o → old.entries ≡ seen → OthersHold c seen new.entries
  others_hold c old new seen o updates same d apart =
      updates.2 d (ne_eqb c d (λ is. apart (sym is))) ∙ ap (wire_at d) same

  pub all_hold : (old new : HashMap ℕ (Watched W) S) (seen : List (ℕ × Watched W)) → IsReordered nat_eq old new → old.entries ≡ seen
      → (d : ℕ) → wire_at d new.entries ≡ wire_at d seen
  all_hold old new seen reordered same d = reordered.2 d ∙ ap (wire_at d) same
