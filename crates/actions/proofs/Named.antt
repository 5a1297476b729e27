-- The nodes of a directory have names of their own, and one level.
use Rattle.std.proofs.Common.{◌≡◌, ◌≢◌, ◌⊎◌, inl, inr, ℕ, ◌+◌, Bool, true, false, ◌&&◌, List, [], ◌∷◌, ◌++◌, map, Option, Some, None, option_map, is_some, nat_le, Result, Ok, Err, refl, sym, ap, ◌∙◌, if◌then◌else◌}
use Rattle.std.specs.List.{Contains, filter_map, list_all}
use Rattle.std.proofs.lemmas.List.{map-append}
use Rattle.std.proofs.lemmas.List.Elements.{Contains-append_cases}
use Rattle.std.proofs.lemmas.Bool.{and_parts}
use Rattle.protobuf_wire.specs.declared.error.MessageError.{MessageError}
use Rattle.protobuf_wire.specs.Fields.{value_of_text}
use Rattle.digest.specs.declared.Digest.{Digest}
use Rattle.tree_messages.specs.Directories.{DirectoryValue, DirectoryNodeValue, FileNodeValue, SymlinkNodeValue, directory_of}
use Rattle.input_tree.specs.Names.{is_name, is_target, are_rising, are_apart}
use Rattle.input_tree.specs.Directories.{written_digest, is_file, is_child, is_symlink, file_names, child_names, symlink_names, has_nodes, has_order, is_directory, valid_directory, directory_in}
use Rattle.input_tree.specs.Listing.{Lookup}
use Rattle.actions.specs.Nodes.{PlanKindValue, file, symlink, directory, PlanNodeValue, file_at, symlink_at, directory_at, nodes_of, nodes_in}
use Rattle.actions.specs.Walk.{nodes_or_fault, nodes_of_text, directory_nodes, nodes_below, nodes_inside, too_deep}
use Rattle.actions.proofs.Kept.{in_none, in_cases}
use Rattle.actions.proofs.Pairs.{Pairs, in_map, pairs_joined}
use Rattle.actions.proofs.Distinct.{distinct_by_order, apart_differ}

abbrev pub head_of : PlanNodeValue → List ℕ × ℕ
head_of n = (n.name, n.level)

-- the nodes have distinct names, and stand in a directory of this level
pub record Named (level : ℕ) (nodes : List PlanNodeValue) : Type 0 where
  pub names : List (List ℕ)
  pub heads : map head_of nodes ≡ map (λ t. (t, level)) names
  pub distinct : Pairs (λ t u. t ≢ u) names
  pub good : (t : List ℕ) → Contains names t → is_name t ≡ true

named_none : (level : ℕ) → Named level []
named_none level = record { names = []; heads = refl; distinct = tt; good = λ t c. absurd (in_none t c) }

-- ---- one kind of nodes

record Gives {V : Type 0} (at : V → Option PlanNodeValue) (level : ℕ) (name : List ℕ) (v : V) : Type 0 where
  node : PlanNodeValue
  node_is : at v ≡ Some node
  head_is : head_of node ≡ (name, level)

heads_given : {V : Type 0} (at : V → Option PlanNodeValue) (name : V → List ℕ) (is_good : V → Bool) (level : ℕ) →
    ((v : V) → is_good v ≡ true → Gives at level (name v) v) → (vs : List V) → list_all is_good vs ≡ true →
    map head_of (filter_map at vs) ≡ map (λ t. (t, level)) (map name vs)
heads_given at name is_good level gives [] h = refl
heads_given at name is_good level gives (v ∷ vs) h =
    let parts = and_parts (is_good v) (list_all is_good vs) h in
    let first = gives v parts.0 in
    let first_is = first.node_is in
    let later = heads_given at name is_good level gives vs parts.1 in
    rw first_is (let head = first.head_is in cc)

all_good : {V : Type 0} (is_good : V → Bool) (vs : List V) → list_all is_good vs ≡ true → (v : V) → Contains vs v → is_good v ≡ true
all_good is_good [] h v c = absurd (in_none v c)
all_good {V = V} is_good (w ∷ vs) h v c = go (and_parts (is_good w) (list_all is_good vs) h) (in_cases w vs v c)
    (λ further c. all_good is_good vs further v c) where
      go : (is_good w ≡ true) × (list_all is_good vs ≡ true) → (w ≡ v) ⊎ Contains vs v →
          (list_all is_good vs ≡ true → Contains vs v → is_good v ≡ true) → is_good v ≡ true
      go parts (inl is) later = ap is_good (sym is) ∙ parts.0
      go parts (inr c) later = later parts.1 c

names_good : {V : Type 0} (name : V → List ℕ) (is_good : V → Bool) → ((v : V) → is_good v ≡ true → is_name (name v) ≡ true) →
    (vs : List V) → list_all is_good vs ≡ true → (t : List ℕ) → Contains (map name vs) t → is_name t ≡ true
names_good name is_good leads vs h t c =
    let found = in_map name vs t c in
    ap is_name (sym found.2) ∙ leads found.0 (all_good is_good vs h found.0 found.1)

file_given : (level : ℕ) (v : FileNodeValue) → is_file v ≡ true → Gives (file_at level) level v.name v
file_given level v h = go (written_digest v.digest) refl (and_parts (is_name v.name) (is_some (written_digest v.digest)) h).1 where
  go : (d : Option Digest) → written_digest v.digest ≡ d → is_some d ≡ true → Gives (file_at level) level v.name v
  go (Some d) is some = record {
    node = record { name = v.name; level = level; kind = file d v.is_executable };
    node_is =
        ap (option_map (λ d. record { name = v.name; level = level; kind = file d v.is_executable })) is;
    head_is = refl;
  }
  go None is some = cc

child_given : (level : ℕ) (v : DirectoryNodeValue) → is_child v ≡ true → Gives (directory_at level) level v.name v
child_given level v h = go (written_digest v.digest) refl (and_parts (is_name v.name) (is_some (written_digest v.digest)) h).1 where
  go : (d : Option Digest) → written_digest v.digest ≡ d → is_some d ≡ true → Gives (directory_at level) level v.name v
  go (Some d) is some = record {
    node = record { name = v.name; level = level; kind = directory d };
    node_is =
        ap (option_map (λ d. record { name = v.name; level = level; kind = directory d })) is;
    head_is = refl;
  }
  go None is some = cc

symlink_given : (level : ℕ) (v : SymlinkNodeValue) → is_symlink v ≡ true → Gives (symlink_at level) level v.name v
symlink_given level v h = record { node = record { name = v.name; level = level; kind = symlink v.target }; node_is = refl; head_is = refl }

-- ---- a directory

-- what a directory that is taken has
record Taken (v : DirectoryValue) : Type 0 where
  files : list_all is_file v.files ≡ true
  directories : list_all is_child v.directories ≡ true
  symlinks : list_all is_symlink v.symlinks ≡ true
  file_order : are_rising (file_names v) ≡ true
  child_order : are_rising (child_names v) ≡ true
  symlink_order : are_rising (symlink_names v) ≡ true
  files_children : are_apart (file_names v) (child_names v) ≡ true
  files_symlinks : are_apart (file_names v) (symlink_names v) ≡ true
  children_symlinks : are_apart (child_names v) (symlink_names v) ≡ true

taken_by : (v : DirectoryValue) → is_directory v ≡ true → Taken v
taken_by v h =
    let whole = and_parts (has_nodes v) (has_order v) h in
    let files = and_parts (list_all is_file v.files) (list_all is_child v.directories && list_all is_symlink v.symlinks) whole.0 in
    let others = and_parts (list_all is_child v.directories) (list_all is_symlink v.symlinks) files.1 in
    let o1 = and_parts (are_rising (file_names v)) _ whole.1 in
    let o2 = and_parts (are_rising (child_names v)) _ o1.1 in
    let o3 = and_parts (are_rising (symlink_names v)) _ o2.1 in
    let o4 = and_parts (are_apart (file_names v) (child_names v)) _ o3.1 in
    let o5 = and_parts (are_apart (file_names v) (symlink_names v)) (are_apart (child_names v) (symlink_names v)) o4.1 in
    record {
      files = files.0;
      directories = others.0;
      symlinks = others.1;
      file_order = o1.0;
      child_order = o2.0;
      symlink_order = o3.0;
      files_children = o4.0;
      files_symlinks = o5.0;
      children_symlinks = o5.1;
    }

heads_of : (level : ℕ) (v : DirectoryValue) → Taken v →
    map head_of (nodes_of level v) ≡ map (λ t. (t, level)) (file_names v ++ (symlink_names v ++ child_names v))
heads_of level v t =
    let place : List ℕ → List ℕ × ℕ = λ t. (t, level) in
    let files = heads_given (file_at level) (λ n. n.name) is_file level (file_given level) v.files t.files in
    let symlinks = heads_given (symlink_at level) (λ n. n.name) is_symlink level (symlink_given level) v.symlinks t.symlinks in
    let children = heads_given (directory_at level) (λ n. n.name) is_child level (child_given level) v.directories t.directories in
    map-append head_of (filter_map (file_at level) v.files)
    (filter_map (symlink_at level) v.symlinks ++ filter_map (directory_at level) v.directories)
    ∙ ap (λ (ps : List (List ℕ × ℕ)). map head_of (filter_map (file_at level) v.files) ++ ps)
    (map-append head_of (filter_map (symlink_at level) v.symlinks) (filter_map (directory_at level) v.directories))
    ∙ rw (files, symlinks, children) (sym (map-append place (file_names v) (symlink_names v ++ child_names v)
    ∙ ap (λ (ps : List (List ℕ × ℕ)). map place (file_names v) ++ ps) (map-append place (symlink_names v) (child_names v))))

names_distinct : (v : DirectoryValue) → Taken v → Pairs (λ t u. t ≢ u) (file_names v ++ (symlink_names v ++ child_names v))
names_distinct v t =
    pairs_joined (λ t u. t ≢ u) (file_names v) (symlink_names v ++ child_names v)
    (distinct_by_order (file_names v) t.file_order)
    (pairs_joined (λ t u. t ≢ u) (symlink_names v) (child_names v) (distinct_by_order (symlink_names v) t.symlink_order)
    (distinct_by_order (child_names v) t.child_order)
    (λ a b ca cb same. apart_differ (child_names v) (symlink_names v) t.children_symlinks b a cb ca (sym same)))
    (λ a b ca cb. go a b ca (Contains-append_cases (symlink_names v) (child_names v) b cb)) where
      go : (a b : List ℕ) → Contains (file_names v) a → Contains (symlink_names v) b ⊎ Contains (child_names v) b → a ≢ b
      go a b ca (inl cb) = apart_differ (file_names v) (symlink_names v) t.files_symlinks a b ca cb
      go a b ca (inr cb) = apart_differ (file_names v) (child_names v) t.files_children a b ca cb

names_are_good : (v : DirectoryValue) → Taken v → (n : List ℕ) → Contains (file_names v ++ (symlink_names v ++ child_names v)) n →
    is_name n ≡ true
names_are_good v t n c = go (Contains-append_cases (file_names v) (symlink_names v ++ child_names v) n c) where
  others : Contains (symlink_names v) n ⊎ Contains (child_names v) n → is_name n ≡ true
  others (inl c) = names_good (λ n. n.name) is_symlink
      (λ w h. (and_parts (is_name w.name) (is_target w.target) h).0) v.symlinks t.symlinks n c
  others (inr c) = names_good (λ n. n.name) is_child
      (λ w h. (and_parts (is_name w.name) (is_some (written_digest w.digest)) h).0) v.directories t.directories n c

  go : Contains (file_names v) n ⊎ Contains (symlink_names v ++ child_names v) n → is_name n ≡ true
  go (inl c) = names_good (λ n. n.name) is_file (λ w h. (and_parts (is_name w.name) (is_some (written_digest w.digest)) h).0) v.files
      t.files n c
  go (inr c) = others (Contains-append_cases (symlink_names v) (child_names v) n c)

named_by : (level : ℕ) (v : DirectoryValue) → is_directory v ≡ true → Named level (nodes_of level v)
named_by level v h =
    let t = taken_by v h in
    record {
      names = file_names v ++ (symlink_names v ++ child_names v);
      heads = heads_of level v t;
      distinct = names_distinct v t;
      good =
          names_are_good v t;
    }

-- ---- a text, and a node

directory_good : (text : List ℕ) (v : DirectoryValue) → directory_in text ≡ Some v → is_directory v ≡ true
directory_good text v h = sized (nat_le _ _) h where
  tested : (w : DirectoryValue) (b : Bool) → is_directory w ≡ b → (if b then Some w else None) ≡ Some v → is_directory v ≡ true
  tested w true is h = let same : w ≡ v = cc in rw (← same) is
  tested w false is h = cc

  read : (r : Result DirectoryValue MessageError) → valid_directory r ≡ Some v → is_directory v ≡ true
  read (Ok w) h = tested w (is_directory w) refl h
  read (Err e) h = cc

  sized : (b : Bool) → (if b then valid_directory (value_of_text directory_of text) else None) ≡ Some v → is_directory v ≡ true
  sized true h = read (value_of_text directory_of text) h
  sized false h = cc

named_in : (level : ℕ) (text : List ℕ) (nodes : List PlanNodeValue) → nodes_or_fault (nodes_in level text) ≡ Ok nodes → Named level nodes
named_in level text nodes h = go (directory_in text) refl h where
  go : (d : Option DirectoryValue) → directory_in text ≡ d → nodes_or_fault (option_map (nodes_of level) d) ≡ Ok nodes → Named level nodes
  go None is h = cc
  go (Some v) is h = let same : nodes_of level v ≡ nodes = cc in rw (← same) (named_by level v (directory_good text v is))

named_text : (level : ℕ) (o : Option (List ℕ)) (nodes : List PlanNodeValue) → nodes_of_text level o ≡ Ok nodes → Named level nodes
named_text level None nodes h = let same : [] ≡ nodes = cc in rw (← same) (named_none level)
named_text level (Some text) nodes h = named_in level text nodes h

pub named_directory : (look : Lookup) (level : ℕ) (d : Digest) (nodes : List PlanNodeValue) → directory_nodes look level d ≡ Ok nodes →
    Named level nodes
named_directory look level d nodes h = named_text level (look d) nodes h

named_below : (look : Lookup) (level : ℕ) (kind : PlanKindValue) (nodes : List PlanNodeValue) → nodes_below look level kind ≡ Ok nodes →
    Named (level + 1) nodes
named_below look level (file d is_executable) nodes h = let same : [] ≡ nodes = cc in rw (← same) (named_none (level + 1))
named_below look level (symlink target) nodes h = let same : [] ≡ nodes = cc in rw (← same) (named_none (level + 1))
named_below look level (directory d) nodes h = go (nat_le 64 level) h where
  go : (b : Bool) → (if b then Err too_deep else directory_nodes look (level + 1) d) ≡ Ok nodes → Named (level + 1) nodes
  go true h = cc
  go false h = named_directory look (level + 1) d nodes h

pub named_inside : (look : Lookup) (n : PlanNodeValue) (nodes : List PlanNodeValue) → nodes_inside look n ≡ Ok nodes →
    Named (n.level + 1) nodes
named_inside look n nodes h = named_below look n.level n.kind nodes h
