-- Digests that a walk through an input tree meets have their form, and are few.
use Rattle.std.proofs.Common.{◌≡◌, ℕ, zero, suc, ◌+◌, ◌≤◌, Bool, true, false, cond, not, nat_le, is_some, List, [], ◌∷◌, ◌++◌, length, filter, Option, Some, None, Result, Ok, Err, option_map, refl, arith}
use Rattle.std.specs.Prelude.{IfSome}
use Rattle.std.specs.List.{AllByRecursion, cons_option, filter_map}
use Rattle.std.proofs.lemmas.List.{length-append}
use Rattle.digest.specs.declared.Digest.{Digest}
use Rattle.protobuf_wire.specs.declared.error.MessageError.{MessageError}
use Rattle.protobuf_wire.specs.Results.{◌>>=◌}
use Rattle.protobuf_wire.specs.Fields.{value_of_text}
use Rattle.tree_messages.specs.Directories.{DirectoryNodeValue, DirectoryValue, FileNodeValue, SymlinkNodeValue, directory_of}
use Rattle.input_tree.specs.Directories.{is_directory, valid_directory, written_digest}
use Rattle.input_tree.specs.Listing.{Lookup}
use Rattle.job_queue.proofs.Orders.{all-append}
use Rattle.actions.specs.Nodes.{PlanKindValue, PlanNodeValue, directory, directory_at, file, file_at, nodes_of, symlink, symlink_at}
use Rattle.actions.specs.Walk.{Nodes, bad_directory, digest_of_node, digests_met, directory_nodes, missing, missing_among, nodes_below, nodes_inside, nodes_met, nodes_of_text, nodes_or_fault, nodes_unless_missing, too_deep, too_many, walk, walk_along}
use Rattle.outcomes.specs.Short.{HasForm}
use Rattle.outcomes.proofs.Forms.{IsDirectoryRead, IsRead, directory_read, written_form}
use Rattle.outcomes.proofs.Written.{AreFew}

-- ---- lists

all_mapped : {A B : Type 0} (f : A → Option B) (P : B → Type 0) (xs : List A) → AllByRecursion (λ x. IfSome (f x) P) xs →
    AllByRecursion P (filter_map f xs)
all_mapped f P [] h = tt
all_mapped {B = B} f P (x ∷ xs) h = go (f x) h.0 (all_mapped f P xs h.1) where
  go : (o : Option B) → IfSome o P → AllByRecursion P (filter_map f xs) → AllByRecursion P (cons_option o (filter_map f xs))
  go None one rest = rest
  go (Some y) one rest = (one, rest)

mapped_few : {A B : Type 0} (f : A → Option B) (xs : List A) → length (filter_map f xs) ≤ length xs
mapped_few f [] = omega arith
mapped_few {B = B} f (x ∷ xs) = go (f x) (mapped_few f xs) where
  go : (o : Option B) → length (filter_map f xs) ≤ length xs → length (cons_option o (filter_map f xs)) ≤ suc (length xs)
  go None rest = omega arith
  go (Some y) rest = omega arith

all_filtered : (test : Digest → Bool) (ds : List Digest) → AllByRecursion HasForm ds → AllByRecursion HasForm (filter test ds)
all_filtered test [] h = tt
all_filtered test (d ∷ ds) h = go (test d) (all_filtered test ds h.1) where
  go : (b : Bool) → AllByRecursion HasForm (filter test ds) → AllByRecursion HasForm (cond b (d ∷ filter test ds) (filter test ds))
  go true rest = (h.0, rest)
  go false rest = rest

filtered_few : (test : Digest → Bool) (ds : List Digest) → length (filter test ds) ≤ length ds
filtered_few test [] = omega arith
filtered_few test (d ∷ ds) = go (test d) (filtered_few test ds) where
  go : (b : Bool) → length (filter test ds) ≤ length ds → length (cond b (d ∷ filter test ds) (filter test ds)) ≤ suc (length ds)
  go true rest = omega arith
  go false rest = omega arith

-- ---- nodes

-- the digest of a node, where it has one, has its form
abbrev IsFormed : PlanNodeValue → Type 0
IsFormed n = IfSome (digest_of_node n) HasForm

abbrev AreFormed : List PlanNodeValue → Type 0
AreFormed nodes = AllByRecursion IsFormed nodes

file_formed : (level : ℕ) (n : FileNodeValue) → IsRead n.digest → IfSome (file_at level n) IsFormed
file_formed level n read = go (written_digest n.digest) refl where
  go : (o : Option Digest) → written_digest n.digest ≡ o →
      IfSome (option_map (λ d. record { name = n.name; level = level; kind = file d n.is_executable }) o) IsFormed
  go None is = tt
  go (Some d) is = written_form n.digest d read is

child_formed : (level : ℕ) (n : DirectoryNodeValue) → IsRead n.digest → IfSome (directory_at level n) IsFormed
child_formed level n read = go (written_digest n.digest) refl where
  go : (o : Option Digest) → written_digest n.digest ≡ o →
      IfSome (option_map (λ d. record { name = n.name; level = level; kind = directory d }) o) IsFormed
  go None is = tt
  go (Some d) is = written_form n.digest d read is

all_files : (level : ℕ) (ns : List FileNodeValue) → AllByRecursion (λ (n : FileNodeValue). IsRead n.digest) ns →
    AllByRecursion (λ n. IfSome (file_at level n) IsFormed) ns
all_files level [] h = tt
all_files level (n ∷ ns) h = (file_formed level n h.0, all_files level ns h.1)

all_children : (level : ℕ) (ns : List DirectoryNodeValue) → AllByRecursion (λ (n : DirectoryNodeValue). IsRead n.digest) ns →
    AllByRecursion (λ n. IfSome (directory_at level n) IsFormed) ns
all_children level [] h = tt
all_children level (n ∷ ns) h = (child_formed level n h.0, all_children level ns h.1)

all_links : (level : ℕ) (ns : List SymlinkNodeValue) → AreFormed (filter_map (symlink_at level) ns)
all_links level [] = tt
all_links level (n ∷ ns) = (tt, all_links level ns)

nodes_formed : (level : ℕ) (v : DirectoryValue) → IsDirectoryRead v → AreFormed (nodes_of level v)
nodes_formed level v h =
    let files = all_mapped (file_at level) IsFormed v.files (all_files level v.files h.read_files) in
    let children = all_mapped (directory_at level) IsFormed v.directories (all_children level v.directories h.read_children) in
    all-append IsFormed (filter_map (file_at level) v.files) _ files
    (all-append IsFormed (filter_map (symlink_at level) v.symlinks) (filter_map (directory_at level) v.directories)
    (all_links level v.symlinks) children)

-- the nodes, or else what is missing
abbrev AreKnown : Nodes → Type 0
AreKnown (Ok nodes) = AreFormed nodes
AreKnown (Err (missing ds)) = ⊥
AreKnown (Err bad_directory) = Unit {0}
AreKnown (Err too_many) = Unit {0}
AreKnown (Err too_deep) = Unit {0}

text_known : (level most : ℕ) (text : List ℕ) →
    AreKnown (nodes_or_fault (option_map (nodes_of level)
    (cond (nat_le (length text) most) (valid_directory (value_of_text directory_of text)) None)))
text_known level most text = go (nat_le (length text) most) (value_of_text directory_of text) refl where
  valid : (v : DirectoryValue) → IsDirectoryRead v → (b : Bool) →
      AreKnown (nodes_or_fault (option_map (nodes_of level) (cond b (Some v) None)))
  valid v read true = nodes_formed level v read
  valid v read false = tt

  go : (b : Bool) (r : Result DirectoryValue MessageError) → value_of_text directory_of text ≡ r →
      AreKnown (nodes_or_fault (option_map (nodes_of level) (cond b (valid_directory r) None)))
  go true (Ok v) is = valid v (directory_read text v is) (is_directory v)
  go true (Err e) is = tt
  go false r is = tt

directory_known : (look : Lookup) (level : ℕ) (d : Digest) → AreKnown (directory_nodes look level d)
directory_known look level d = go (look d) where
  go : (o : Option (List ℕ)) → AreKnown (nodes_of_text level o)
  go None = tt
  go (Some text) = text_known level 67108864 text

below_known : (look : Lookup) (most level : ℕ) (d : Digest) →
    AreKnown (cond (nat_le most level) (Err too_deep) (directory_nodes look (level + 1) d))
below_known look most level d = go (nat_le most level) where
  go : (b : Bool) → AreKnown (cond b (Err too_deep) (directory_nodes look (level + 1) d))
  go true = tt
  go false = directory_known look (level + 1) d

inside_known : (look : Lookup) (n : PlanNodeValue) → AreKnown (nodes_inside look n)
inside_known look n = go n.level n.kind where
  go : (level : ℕ) (kind : PlanKindValue) → AreKnown (nodes_below look level kind)
  go level (file d e) = tt
  go level (symlink target) = tt
  go level (directory d) = below_known look 64 level d

-- ---- the walk

-- nodes that are met, no more than a number
abbrev IsWalked : ℕ → Nodes → Type 0
IsWalked most (Ok nodes) = AreFormed nodes × (length nodes ≤ most)
IsWalked most (Err (missing ds)) = ⊥
IsWalked most (Err bad_directory) = Unit {0}
IsWalked most (Err too_many) = Unit {0}
IsWalked most (Err too_deep) = Unit {0}

then_walked : (most : ℕ) (r : Nodes) (step : List PlanNodeValue → Nodes) → AreKnown r →
    ((nodes : List PlanNodeValue) → AreFormed nodes → IsWalked most (step nodes)) → IsWalked most (r >>= step)
then_walked most (Ok nodes) step known later = later nodes known
then_walked most (Err (missing ds)) step known later = known
then_walked most (Err bad_directory) step known later = tt
then_walked most (Err too_many) step known later = tt
then_walked most (Err too_deep) step known later = tt

along_walked : (most all : ℕ) (look : Lookup) (next met : List PlanNodeValue) → AreFormed next → AreFormed met → most + length met ≤ all →
    IsWalked all (walk_along most look next met)
unfolding walk_along
along_walked zero all look [] met h g few = (g, omega arith)
along_walked zero all look (n ∷ next) met h g few = tt
along_walked (suc most) all look [] met h g few = (g, omega arith)
along_walked (suc most) all look (n ∷ next) met h g few =
    let parts = length-append met (n ∷ []) in
    then_walked all (nodes_inside look n) (λ inside. walk_along most look (inside ++ next) (met ++ n ∷ [])) (inside_known look n)
    (λ inside known. along_walked most all look (inside ++ next) (met ++ n ∷ []) (all-append IsFormed inside next known h.1)
    (all-append IsFormed met (n ∷ []) g (h.0, tt)) (omega arith))

met_walked : (most : ℕ) (look : Lookup) (root : Digest) →
    IsWalked most (directory_nodes look 1 root >>= (λ nodes. walk_along most look nodes []))
met_walked most look root =
    then_walked most (directory_nodes look 1 root) (λ nodes. walk_along most look nodes []) (directory_known look 1 root)
    (λ nodes known. along_walked most most look nodes [] known tt (omega arith))

-- what is missing has its form and is no more than a number
abbrev pub AreMissingFew : ℕ → Nodes → Type 0
AreMissingFew most (Ok nodes) = Unit {0}
AreMissingFew most (Err (missing ds)) = AreFew most ds
AreMissingFew most (Err bad_directory) = Unit {0}
AreMissingFew most (Err too_many) = Unit {0}
AreMissingFew most (Err too_deep) = Unit {0}

unless_few : (most : ℕ) (nodes : List PlanNodeValue) (ds : List Digest) → AreFew most ds →
    AreMissingFew most (nodes_unless_missing nodes ds)
unless_few most nodes [] few = tt
unless_few most nodes (d ∷ ds) few = few

met_few : (most : ℕ) (look : Lookup) (root : Digest) (nodes : List PlanNodeValue) → HasForm root → AreFormed nodes → length nodes ≤ most →
    AreFew (1 + most) (missing_among look (digests_met root nodes))
met_few most look root nodes form h few =
    let met = mapped_few digest_of_node nodes in
    let left = filtered_few (λ d. not (is_some (look d))) (digests_met root nodes) in
    record {
      forms = all_filtered (λ d. not (is_some (look d))) (digests_met root nodes) (form, all_mapped digest_of_node HasForm nodes h);
      few = omega arith;
    }

planned_few : (most : ℕ) (look : Lookup) (root : Digest) (r : Nodes) → HasForm root → IsWalked most r →
    AreMissingFew (1 + most) (r >>= (λ nodes. nodes_unless_missing nodes (missing_among look (digests_met root nodes))))
planned_few most look root (Ok nodes) form h =
    unless_few (1 + most) nodes (missing_among look (digests_met root nodes)) (met_few most look root nodes form h.0 h.1)
planned_few most look root (Err (missing ds)) form h = absurd h
planned_few most look root (Err bad_directory) form h = tt
planned_few most look root (Err too_many) form h = tt
planned_few most look root (Err too_deep) form h = tt

pub walk_few : (look : Lookup) (root : Digest) → HasForm root → AreMissingFew 10001 (walk look root)
walk_few look root form = planned_few 10000 look root (nodes_met look root) form (met_walked 10000 look root)
