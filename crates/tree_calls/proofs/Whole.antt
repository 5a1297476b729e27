-- The list of a tree, gone along to its end.
use Rattle.std.proofs.Common.{◌≡◌, ℕ, zero, suc, ◌+◌, ◌≤◌, Bool, true, false, List, [], ◌∷◌, ◌++◌, ◌||◌, length, Option, Some, None, Ok, Err, is_some, slice_get, refl, sym, ap, subst, ◌∙◌, arith, append_assoc, if◌then◌else◌}
use Rattle.std.specs.List.{AllByRecursion, IsDistinct, list_any}
use Rattle.std.proofs.lemmas.List.{append-nil, length-append}
use Rattle.digest.specs.declared.Digest.{Digest}
use Rattle.digest.specs.Naming.{same_digest}
use Rattle.digest.proofs.Same.{same_refl, same_symm}
use Rattle.input_tree.specs.declared.error.TreeRefusal.TheVariants.{BadDirectory}
use Rattle.input_tree.specs.Directories.{children_in}
use Rattle.input_tree.specs.Listing.{Lookup, children, with_listed, with_all_listed, with_children, listed_along, listed_from}
use Rattle.tree_calls.specs.Lists.{IsDigestListed, IsDirectory, children_or_none, HasParent, AreReached, HasListed, IsWholeTree}

-- ---- lists of digests

listed_more : (ds more : List Digest) (d : Digest) → IsDigestListed ds d → IsDigestListed (ds ++ more) d
listed_more [] more d h = absurd (cc)
listed_more (x ∷ xs) more d h = go (same_digest d x) h (listed_more xs more d) where
  go : (b : Bool) → (b || list_any (same_digest d) xs) ≡ true → (IsDigestListed xs d → IsDigestListed (xs ++ more) d) →
      (b || list_any (same_digest d) (xs ++ more)) ≡ true
  go true h later = refl
  go false h later = later h

listed_at : (before : List Digest) (d : Digest) (more : List Digest) → IsDigestListed (before ++ d ∷ more) d
listed_at [] d more = rw (same_refl d) refl
listed_at (x ∷ xs) d more = go (same_digest d x) (listed_at xs d more) where
  go : (b : Bool) → IsDigestListed (xs ++ d ∷ more) d → (b || list_any (same_digest d) (xs ++ d ∷ more)) ≡ true
  go true h = refl
  go false h = h

pub all_last : {X : Type 0} (P : X → Type 0) (xs : List X) (x : X) → AllByRecursion P xs → P x → AllByRecursion P (xs ++ x ∷ [])
all_last P [] x h p = (p, tt)
all_last P (y ∷ ys) x h p = (h.0, all_last P ys x h.1 p)

pub all_implied : {X : Type 0} (P Q : X → Type 0) → ((x : X) → P x → Q x) → (xs : List X) → AllByRecursion P xs → AllByRecursion Q xs
all_implied P Q f [] h = tt
all_implied P Q f (x ∷ xs) h = (f x h.0, all_implied P Q f xs h.1)

listed_in : (all ds : List Digest) → ((d : Digest) → IsDigestListed ds d → IsDigestListed all d) → AllByRecursion (IsDigestListed all) ds
listed_in all [] f = tt
listed_in all (x ∷ xs) f = (f x (listed_at [] x xs), listed_in all xs (λ d h. f d (later d (same_digest d x) h))) where
  later : (d : Digest) (b : Bool) → IsDigestListed xs d → (b || list_any (same_digest d) xs) ≡ true
  later d true h = refl
  later d false h = h

pub all_listed : (ds : List Digest) → AllByRecursion (IsDigestListed ds) ds
all_listed ds = listed_in ds ds (λ d h. h)

neither : (a b : Bool) → (a || b) ≡ false → (a ≡ false) × (b ≡ false)
neither true b h = absurd (cc)
neither false b h = (refl, h)

distinct_last : (ds : List Digest) (d : Digest) → IsDistinct same_digest ds → list_any (same_digest d) ds ≡ false →
    IsDistinct same_digest (ds ++ d ∷ [])
unfolding IsDistinct
distinct_last [] d h none = (tt, tt)
distinct_last (x ∷ xs) d h none =
    let parts = neither (same_digest d x) (list_any (same_digest d) xs) none in
    let other : same_digest x d ≡ false = same_symm x d ∙ parts.0 in
    (all_last (λ (y : Digest). same_digest x y ≡ false) xs d h.0 other, distinct_last xs d h.1 parts.1)

distinct_one : (d : Digest) → IsDistinct same_digest (d ∷ [])
unfolding IsDistinct
distinct_one d = (tt, tt)

reached_last : (look : Lookup) (before ds : List Digest) (d : Digest) → AreReached look before ds → HasParent look (before ++ ds) d →
    AreReached look before (ds ++ d ∷ [])
reached_last look before [] d h p = (subst (λ (xs : List Digest). HasParent look xs d) (append-nil before) p, tt)
reached_last look before (x ∷ xs) d h p = (
  h.0,
  reached_last look (before ++ x ∷ []) xs d h.1
      (subst (λ (xs : List Digest). HasParent look xs d) (sym (append_assoc before (x ∷ []) xs)) p),
)

-- ---- a list under way

record IsTree (look : Lookup) (root : Digest) (ds : List Digest) : Type 0 where
  others : List Digest
  begins : ds ≡ root ∷ others
  reached : AreReached look (root ∷ []) others
  distinct : IsDistinct same_digest ds
  directories : AllByRecursion (IsDirectory look) ds

-- more digests, among them the directories of some
record IsGrown (look : Lookup) (root : Digest) (ds new cs : List Digest) : Type 0 where
  more : List Digest
  is : new ≡ ds ++ more
  tree : IsTree look root new
  listed : AllByRecursion (λ c. IsDirectory look c → IsDigestListed new c) cs

grown_one : (look : Lookup) (root : Digest) (ds : List Digest) (d c : Digest) → IsTree look root ds → IsDigestListed ds d →
    IsDigestListed (children_or_none look d) c → IsGrown look root ds (with_listed look ds c) (c ∷ [])
grown_one look root ds d c tree parent child = go (is_some (children look c)) refl (list_any (same_digest c) ds) refl where
  parented : HasParent look (root ∷ tree.others) c
  parented = record { parent = d; is_before = subst (λ (xs : List Digest). IsDigestListed xs d) tree.begins parent; is_child = child }

  go : (b : Bool) → is_some (children look c) ≡ b → (t : Bool) → list_any (same_digest c) ds ≡ t →
      IsGrown look root ds (if b then (if t then ds else ds ++ c ∷ []) else ds) (c ∷ [])
  go false is t there = record {
    more = [];
    is = sym (append-nil ds);
    tree = tree;
    listed = (λ h. absurd (cc), tt);
  }
  go true is true there = record {
    more = [];
    is = sym (append-nil ds);
    tree = tree;
    listed = (λ h. there, tt);
  }
  go true is false there = record {
    more = c ∷ [];
    is = refl;
    tree = record {
      others = tree.others ++ c ∷ [];
      begins = ap (λ (xs : List Digest). xs ++ c ∷ []) tree.begins;
      reached = reached_last look (root ∷ []) tree.others c tree.reached parented;
      distinct = distinct_last ds c tree.distinct there;
      directories = all_last (IsDirectory look) ds c tree.directories is;
    };
    listed = (λ h. listed_at ds c [], tt);
  }

grown : (look : Lookup) (root : Digest) (ds : List Digest) (d : Digest) (cs : List Digest) → IsTree look root ds → IsDigestListed ds d →
    AllByRecursion (IsDigestListed (children_or_none look d)) cs → IsGrown look root ds (with_all_listed look ds cs) cs
grown look root ds d [] tree parent h = record { more = []; is = sym (append-nil ds); tree = tree; listed = tt }
grown look root ds d (c ∷ cs) tree parent h =
    let next = with_listed look ds c in
    let first = grown_one look root ds d c tree parent h.0 in
    let still : IsDigestListed next d = subst (λ (xs : List Digest). IsDigestListed xs d) (sym first.is)
    (listed_more ds first.more d parent) in
    let rest = grown look root next d cs first.tree still h.1 in
    record {
      more = first.more ++ rest.more;
      is = rest.is ∙ ap (λ (xs : List Digest). xs ++ rest.more) first.is ∙ append_assoc ds first.more rest.more;
      tree = rest.tree;
      listed = (
        λ dir. subst (λ (xs : List Digest). IsDigestListed xs c) (sym rest.is)
            (listed_more next rest.more c (first.listed.0 dir)),
        rest.listed,
      );
    }

-- ---- going along

slice_none : {X : Type 0} (done : List X) → slice_get (done ++ []) (length done) ≡ None
slice_none [] = refl
slice_none (x ∷ xs) = slice_none xs

slice_some : {X : Type 0} (done : List X) (d : X) (rest : List X) → slice_get (done ++ d ∷ rest) (length done) ≡ Some d
slice_some [] d rest = refl
slice_some (x ∷ xs) d rest = slice_some xs d rest

at_end : (look : Lookup) (root : Digest) (n : ℕ) (done ds : List Digest) → IsTree look root (done ++ []) →
    AllByRecursion (HasListed look (done ++ [])) done → done ++ [] ≡ ds → IsWholeTree look root ds × (length ds ≤ length done + n)
at_end look root n done ds tree closed is =
    let same_list : done ≡ ds = sym (append-nil done) ∙ is in
    let whole : IsTree look root ds = subst (IsTree look root) is tree in
    let all : AllByRecursion (HasListed look ds) done = subst (λ (xs : List Digest). AllByRecursion (HasListed look xs) done) is closed in
    let count : length done ≡ length ds = ap (length {A = Digest}) same_list in (
      record {
        others = whole.others;
        begins = whole.begins;
        reached = whole.reached;
        distinct = whole.distinct;
        directories = whole.directories;
        whole = subst (λ (xs : List Digest). AllByRecursion (HasListed look ds) xs) same_list all;
      },
      omega (arith, count),
    )

has_more : (look : Lookup) (ds more : List Digest) (d : Digest) → HasListed look ds d → HasListed look (ds ++ more) d
has_more look ds more d h = all_implied (λ c. IsDirectory look c → IsDigestListed ds c)
    (λ c. IsDirectory look c → IsDigestListed (ds ++ more) c) (λ c f dir. listed_more ds more c (f dir)) (children_or_none look d) h

along : (n : ℕ) (look : Lookup) (root : Digest) (done left ds : List Digest) → IsTree look root (done ++ left) →
    AllByRecursion (HasListed look (done ++ left)) done → listed_along n look (done ++ left) (length done) ≡ Ok ds →
    IsWholeTree look root ds × (length ds ≤ length done + n)
unfolding listed_along
along zero look root done [] ds tree closed h = at_end look root zero done ds tree closed (let h2 = rw (slice_none done) at h in cc)
along (suc n) look root done [] ds tree closed h = at_end look root (suc n) done ds tree closed (let h2 = rw (slice_none done) at h in cc)
along zero look root done (d ∷ rest) ds tree closed h = absurd (let h2 = rw (slice_some done d rest) at h in cc)
along (suc n) look root done (d ∷ rest) ds tree closed h =
    let now = done ++ d ∷ rest in
    let new = with_children look now d in
    let step = grown look root now d (children_or_none look d) tree (listed_at done d rest) (all_listed (children_or_none look d)) in
    let shape : new ≡ (done ++ d ∷ []) ++ (rest ++ step.more) =
    step.is ∙ append_assoc done (d ∷ rest) step.more ∙ sym (append_assoc done (d ∷ []) (rest ++ step.more)) in
    let count : length (done ++ d ∷ []) ≡ length done + 1 = length-append done (d ∷ []) in
    let h2 : listed_along n look new (length done + 1) ≡ Ok ds = rw (slice_some done d rest) at h in
    let h3 : listed_along n look ((done ++ d ∷ []) ++ (rest ++ step.more)) (length (done ++ d ∷ [])) ≡ Ok ds = rw (count, ← shape) h2 in
    let before : AllByRecursion (HasListed look new) done =
    all_implied (HasListed look now) (HasListed look new)
    (λ x f. subst (λ (xs : List Digest). HasListed look xs x) (sym step.is) (has_more look now step.more x f)) done closed in
    let all : AllByRecursion (HasListed look new) (done ++ d ∷ []) = all_last (HasListed look new) done d before step.listed in
    let ih = along n look root (done ++ d ∷ []) (rest ++ step.more) ds (subst (IsTree look root) shape step.tree)
    (subst (λ (xs : List Digest). AllByRecursion (HasListed look xs) (done ++ d ∷ [])) shape all) h3 in
    let few = ih.1 in
    (ih.0, omega (arith, few, count))

pub whole_from : (most : ℕ) (look : Lookup) (root : Digest) (ds : List Digest) → listed_from most look root (look root) ≡ Ok ds →
    IsWholeTree look root ds × (length ds ≤ most)
whole_from most look root ds h = go (look root) refl h where
  test : (text : List ℕ) → look root ≡ Some text → (b : Bool) → is_some (children_in text) ≡ b →
      (if b then listed_along most look (root ∷ []) 0 else Err BadDirectory) ≡ Ok ds → IsWholeTree look root ds × (length ds ≤ most)
  test text is false none h = absurd (cc)
  test text is true some h =
      let first : IsDirectory look root = rw is some in
      let tree : IsTree look root (root ∷ []) = record
      { others = []; begins = refl; reached = tt; distinct = distinct_one root; directories = (first, tt) } in
      let r = along most look root [] (root ∷ []) ds tree tt h in
      let few = r.1 in
      (r.0, omega (arith, few))

  go : (o : Option (List ℕ)) → look root ≡ o → listed_from most look root o ≡ Ok ds → IsWholeTree look root ds × (length ds ≤ most)
  go None is h = absurd (cc)
  go (Some text) is h = test text is (is_some (children_in text)) refl h
