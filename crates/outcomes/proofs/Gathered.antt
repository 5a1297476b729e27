-- Nodes that are gathered, from the last to the first.
use Rattle.std.proofs.Common.{◌≡◌, ◌≤◌, ◌<◌, ℕ, zero, suc, ◌+◌, ◌-◌, Bool, true, false, ◌&&◌, List, [], ◌∷◌, ◌++◌, length, map, nat_lt, ◌==◌, Some, refl, sym, ap, ◌∙◌, arith, if◌then◌else◌}
use Rattle.std.specs.List.{list_all}
use Rattle.std.proofs.lemmas.Bool.Decides.{nat_tests}
use Rattle.digest.specs.declared.Digest.{Digest}
use Rattle.input_tree.specs.Directories.{is_directory}
use Rattle.tree_messages.specs.Directories.{DirectoryNodeValue, DirectoryValue, FileNodeValue}
use Rattle.outcomes.specs.Naming.{written_like}
use Rattle.outcomes.specs.declared.gathering.Gathering.{Gathering}
use Rattle.outcomes.specs.Gathering.{IsClosed, IsGathered, above_deepest, below_nothing, deepest, directory_added, down_to, file_added, first_level, folder_shown, going_on, nothing, on_first, open_shown, with_closed}
use Rattle.run_calls.specs.Outcomes.{OutputNodeValue, as_directory, as_file}
use Rattle.outcomes.specs.Trees.{below_root, directories_at, directory_at, directory_node, directory_with, file_node, files_at}
use Rattle.outcomes.proofs.Opening.{down_end}

pub lt_true : (a b : ℕ) → a < b → nat_lt a b ≡ true
lt_true a b h = grind (arith, nat_tests, h)

pub lt_false : (a b : ℕ) → b ≤ a → nat_lt a b ≡ false
lt_false a b h = grind (arith, nat_tests, h)

eq_false : (a b : ℕ) → b < a → (a == b) ≡ false
eq_false a b h = grind (arith, nat_tests, h)

eq_true : (a : ℕ) → (a == a) ≡ true
eq_true a = grind (arith, nat_tests)

-- ---- one more node

deeper : (like : Digest) (level : ℕ) (n : OutputNodeValue) (ns : List OutputNodeValue) → level < n.level →
    directory_at like level (n ∷ ns) ≡ directory_at like level ns
deeper like level n ns less =
    let below : nat_lt n.level level ≡ false = lt_false n.level level (omega (arith, less)) in
    let other : (n.level == level) ≡ false = eq_false n.level level less in
    rw (below, other) refl

pub empty_above : (like : Digest) (level : ℕ) (nodes : List OutputNodeValue) → first_level nodes < level →
    directory_at like level nodes ≡ nothing
empty_above like level [] less = refl
empty_above like level (n ∷ ns) less = let yes = lt_true n.level level less in rw yes refl

going_deeper : (like : Digest) (level : ℕ) (n : OutputNodeValue) (ns : List OutputNodeValue) → level < n.level →
    going_on like level (n ∷ ns) ≡ going_on like level ns
going_deeper like zero n ns less = refl
going_deeper like (suc above) n ns less =
    let first = deeper like (suc above) n ns less in
    let rest = going_deeper like above n ns (omega (arith, less)) in
    rw (first, rest) refl

going_length : (like : Digest) (level : ℕ) (nodes : List OutputNodeValue) → length (going_on like level nodes) ≡ level
going_length like zero nodes = refl
going_length like (suc above) nodes = let rest = going_length like above nodes in omega (arith, rest)

-- ---- opened down to a level

going_more : (like : Digest) (nodes : List OutputNodeValue) (n level : ℕ) → first_level nodes ≤ level →
    below_nothing n (going_on like level nodes) ≡ going_on like (n + level) nodes
going_more like nodes zero level h = let same : 0 + level ≡ level = omega arith in rw same refl
going_more like nodes (suc n) level h =
    let next : suc n + level ≡ suc (n + level) = omega arith in
    let none = empty_above like (suc (n + level)) nodes (omega (arith, h)) in
    let rest = going_more like nodes n level h in
    rw (next, none, rest) refl

pub going_down : (like : Digest) (nodes : List OutputNodeValue) (level : ℕ) → first_level nodes ≤ level →
    down_to level (going_on like (first_level nodes) nodes) ≡ going_on like level nodes
going_down like nodes level h =
    let long = going_length like (first_level nodes) nodes in
    let sum : (level - first_level nodes) + first_level nodes ≡ level = omega (arith, h) in
    let more = going_more like nodes (level - first_level nodes) (first_level nodes) (omega arith) in
    rw long (more ∙ ap (λ (l : ℕ). going_on like l nodes) sum)

-- ---- a file

file_front : (like : Digest) (name text : List ℕ) (x : Bool) (level : ℕ) (ns : List OutputNodeValue) →
    on_first (file_added (record { name = name; digest = Some (written_like like text); is_executable = x })) (going_on like level ns)
    ≡ going_on like level (record { name = name; level = level; kind = as_file text x } ∷ ns)
file_front like name text x zero ns = refl
file_front like name text x (suc above) ns =
    let n : OutputNodeValue = record { name = name; level = suc above; kind = as_file text x } in
    let below : nat_lt (suc above) (suc above) ≡ false = lt_false (suc above) (suc above) (omega arith) in
    let same : (suc above == suc above) ≡ true = eq_true (suc above) in
    let rest = going_deeper like above n ns (omega arith) in
    rw (rest, below, same) refl

pub file_gathered : (like : Digest) (name text : List ℕ) (x : Bool) (level : ℕ) (ns : List OutputNodeValue) (before after : Gathering) →
    IsGathered like before ns → first_level ns ≤ level →
    map open_shown after.going.items ≡ on_first (file_added
    (record { name = name; digest = Some (written_like like text); is_executable = x }))
    (down_to level (map open_shown before.going.items)) → after.closed ≡ before.closed → after.are_taken ≡ before.are_taken →
    IsGathered like after (record { name = name; level = level; kind = as_file text x } ∷ ns)
file_gathered like name text x level ns before after g low going closed taken = record {
  going =
      going
      ∙ ap (λ (vs : List DirectoryValue). on_first
      (file_added (record { name = name; digest = Some (written_like like text); is_executable = x })) (down_to level vs)) g.going
      ∙ ap (on_first (file_added (record { name = name; digest = Some (written_like like text); is_executable = x })))
      (going_down like ns level low)
      ∙ file_front like name text x level ns;
  closed = rw closed g.closed;
  taken = taken ∙ g.taken;
}

-- ---- a directory

closed_front : (like : Digest) (name : List ℕ) (level : ℕ) (ns : List OutputNodeValue) →
    with_closed like name level (going_on like (suc level) ns)
    ≡ going_on like level (record { name = name; level = level; kind = as_directory } ∷ ns)
closed_front like name zero ns = refl
closed_front like name (suc above) ns =
    let n : OutputNodeValue = record { name = name; level = suc above; kind = as_directory } in
    let below : nat_lt (suc above) (suc above) ≡ false = lt_false (suc above) (suc above) (omega arith) in
    let same : (suc above == suc above) ≡ true = eq_true (suc above) in
    let rest = going_deeper like above n ns (omega arith) in
    let down = down_end (suc above) (going_on like (suc above) ns) (let long = going_length like (suc above) ns in omega (arith, long)) in
    let next : suc above + 1 ≡ suc (suc above) = omega arith in
    rw (down, rest, below, same, next) refl

pub directory_gathered : (like : Digest) (name : List ℕ) (level : ℕ) (ns : List OutputNodeValue) (before after : Gathering) →
    IsGathered like before ns → first_level ns ≤ level + 1 → IsClosed like name level before after →
    IsGathered like after (record { name = name; level = level; kind = as_directory } ∷ ns)
directory_gathered like name level ns before after g low c =
    let next : level + 1 ≡ suc level = omega arith in
    let down : down_to (level + 1) (map open_shown before.going.items) ≡ going_on like (suc level) ns =
    ap (down_to (level + 1)) g.going ∙ going_down like ns (level + 1) low ∙ ap (λ (l : ℕ). going_on like l ns) next in
    let inside : deepest (down_to (level + 1) (map open_shown before.going.items)) ≡ directory_at like (level + 1) ns =
    ap deepest down ∙ ap (λ (l : ℕ). directory_at like l ns) (sym next) in
    record {
      going = c.going ∙ ap (with_closed like name level) down ∙ closed_front like name level ns;
      closed = c.closed ∙ ap (λ (v : DirectoryValue). v ∷ map folder_shown before.closed.items) inside
          ∙ ap (λ (vs : List DirectoryValue). directory_at like (level + 1) ns ∷ vs) g.closed;
      taken = c.taken ∙ ap (λ (v : DirectoryValue). is_directory v && before.are_taken) inside
          ∙ ap (λ (b : Bool). is_directory (directory_at like (level + 1) ns) && b) g.taken;
    }

-- ---- all nodes

pub root_found : (like : Digest) (nodes : List OutputNodeValue) (g : Gathering) (v : DirectoryValue) (rest : List DirectoryValue) →
    IsGathered like g nodes → first_level nodes ≤ 1 → v ∷ rest ≡ down_to 1 (map open_shown g.going.items) → v ≡ directory_at like 1 nodes
root_found like nodes g v rest gathered low is =
    ap deepest (is ∙ ap (down_to 1) gathered.going ∙ going_down like nodes 1 low)
