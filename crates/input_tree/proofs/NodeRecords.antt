-- A node read record by record is the node that its text means.
use Rattle.std.proofs.Common.{◌≡◌, ℕ, ℤ, pos, Bool, true, false, List, [], ◌∷◌, ◌++◌, Option, Some, None, Result, Ok, Err, refl, sym, ap, ◌∙◌, if◌then◌else◌}
use Rattle.std.specs.Prelude.{option_map, nat_lt, unwrap_or}
use Rattle.std.specs.Str.{is_utf8}
use Rattle.std.specs.Int.{w64, cast_signed}
use Rattle.protobuf_wire.specs.Results.{◌>>=◌}
use Rattle.protobuf_wire.specs.Reading.{records_of}
use Rattle.protobuf_wire.specs.declared.field.WireError.{WireError}
use Rattle.protobuf_wire.specs.declared.error.MessageError.{MessageError}
use Rattle.protobuf_wire.specs.declared.error.MessageError.TheVariants.{NotUtf8}
use Rattle.protobuf_wire.specs.Record.{Record}
use Rattle.protobuf_wire.specs.Answers.{of_wire}
use Rattle.protobuf_wire.specs.Fields.{each_of, embedded_value, int64, last_or, number_in, numbers, payload_in, payloads, records_in, repeated_string, string, value_of_text}
use Rattle.protobuf_wire.specs.Joining.{joined_records, optional_value}
use Rattle.protobuf_wire.proofs.Lists.{last_after, last_after_next}
use Rattle.protobuf_wire.proofs.Submessages.{embedded_is_joined}
use Rattle.reapi_messages.specs.Digests.{DigestValue, digest_of}
use Rattle.tree_messages.specs.Directories.{FileNodeValue, DirectoryNodeValue, SymlinkNodeValue, file_node_of, directory_node_of, symlink_node_of}
use Rattle.input_tree.specs.NodeTexts.{and_then, readable, with_all, with_left, string_after, number_after, digest_after, no_digest, digest_text_after, embedded_after, file_after, no_file, child_after, no_child, symlink_after, no_symlink}

pub none_after : {A B : Type 0} (o : Option A) → and_then {B = B} o (λ _. None) ≡ None
none_after None = refl
none_after (Some x) = refl

then_same : {A B : Type 0} (o : Option A) (k l : A → Option B) → ((a : A) → k a ≡ l a) → and_then o k ≡ and_then o l
then_same None k l h = refl
then_same (Some a) k l h = h a

-- ---- records one after another

module _ {A : Type 0} (step : A → Record → Option A) where
  -- the loops' step
  pub node_left_next : (a : A) (r : Record) (rest : Result (List Record) WireError) →
      with_left step a (rest >>= λ rs. Ok (r ∷ rs)) ≡ and_then (step a r) (λ b. with_left step b rest)
  node_left_next a r (Ok rs) = refl
  node_left_next a r (Err e) = sym (none_after (step a r))

  all_both : (a : A) (rs ss : List Record) → with_all step a (rs ++ ss) ≡ and_then (with_all step a rs) (λ b. with_all step b ss)
  all_both a [] ss = refl
  all_both a (r ∷ rs) ss = go (step a r) (λ b. all_both b rs ss) where
    go : (o : Option A) → ((b : A) → with_all step b (rs ++ ss) ≡ and_then (with_all step b rs) (λ c. with_all step c ss)) →
        and_then o (λ b. with_all step b (rs ++ ss)) ≡ and_then (and_then o (λ b. with_all step b rs)) (λ c. with_all step c ss)
    go None later = refl
    go (Some b) later = later b

  abbrev pub left_in : A → Result (List Record) MessageError → Option A
  left_in a (Err e) = None
  left_in a (Ok rs) = with_all step a rs

  left_is : (a : A) (text : List ℕ) → with_left step a (records_of text) ≡ left_in a (records_in text)
  unfolding records_in
  left_is a text = go (records_of text) where
    go : (rs : Result (List Record) WireError) → with_left step a rs ≡ left_in a (of_wire rs)
    go (Err e) = refl
    go (Ok rs) = refl

  text_is : (a : A) (value_of : List Record → Result A MessageError) → ((rs : List Record) → with_all step a rs ≡ readable (value_of rs)) →
      (text : List ℕ) → with_left step a (records_of text) ≡ readable (value_of_text value_of text)
  unfolding records_in
  text_is a value_of h text = go (records_of text) where
    go : (rs : Result (List Record) WireError) → with_left step a rs ≡ readable (of_wire rs >>= value_of)
    go (Err e) = refl
    go (Ok rs) = h rs

-- ---- fields side by side: two that can be refused, and one that cannot

abbrev folded : {C : Type 0} → (C → Record → C) → C → List Record → C
folded h c [] = c
folded h c (r ∷ rs) = folded h (h c r) rs

module _ {A B C V : Type 0} (make : A → B → C → V) (f : A → Record → Option A) (g : B → Record → Option B) (h : C → Record → C)
    (step : V → Record → Option V) (is : (a : A) (b : B) (c : C) (r : Record) →
    step (make a b c) r ≡ and_then (f a r) (λ x. and_then (g b r) (λ y. Some (make x y (h c r))))) where
  abbrev parts : Option A → Option B → C → Option V
  parts x y c = and_then x (λ a. and_then y (λ b. Some (make a b c)))

  parts_are : (a : A) (b : B) (c : C) (rs : List Record) →
      with_all step (make a b c) rs ≡ parts (with_all f a rs) (with_all g b rs) (folded h c rs)
  parts_are a b c [] = refl
  parts_are a b c (r ∷ rs) = rw (is a b c r) (go (f a r) (g b r) (λ x y. parts_are x y (h c r) rs)) where
    go : (x : Option A) (y : Option B) → ((a : A) (b : B) →
        with_all step (make a b (h c r)) rs ≡ parts (with_all f a rs) (with_all g b rs) (folded h (h c r) rs)) →
        and_then (and_then x (λ a. and_then y (λ b. Some (make a b (h c r))))) (λ w. with_all step w rs)
        ≡ parts (and_then x (λ a. with_all f a rs)) (and_then y (λ b. with_all g b rs)) (folded h (h c r) rs)
    go None y later = refl
    go (Some a) None later = sym (none_after (with_all f a rs))
    go (Some a) (Some b) later = later a b

-- a field that there is not
abbrev still : Bool → Record → Option Bool
still b r = Some b

still_is : (b : Bool) (rs : List Record) → with_all still b rs ≡ Some b
still_is b [] = refl
still_is b (r ∷ rs) = still_is b rs

abbrev same : Bool → Record → Bool
same b r = b

-- ---- one field

numbers_are : {C : Type 0} (meaning : ℕ → C) (field n : ℕ) (rs : List Record) →
    folded (number_after meaning field) (meaning n) rs ≡ meaning (last_or n (numbers field rs))
unfolding numbers last_or
numbers_are meaning field n [] = refl
numbers_are meaning field n (r ∷ rs) = go (number_in field r) refl (λ m. numbers_are meaning field m rs) where
  go : (o : Option ℕ) → number_in field r ≡ o → ((m : ℕ) →
      folded (number_after meaning field) (meaning m) rs ≡ meaning (last_or m (numbers field rs))) →
      folded (number_after meaning field) (meaning n) (r ∷ rs) ≡ meaning (last_or n (numbers field (r ∷ rs)))
  go None at later = rw at (later n)
  go (Some m) at later = rw at (later m)

strings_are : (field : ℕ) (last : List ℕ) (rs : List Record) →
    with_all (string_after field) last rs ≡ readable (last_after last (repeated_string field rs))
unfolding payloads each_of last_or
strings_are field last [] = refl
strings_are field last (r ∷ rs) = go (payload_in field r) refl (λ text. strings_are field text rs) where
  test : (b : List ℕ) (c : Bool) → is_utf8 b ≡ c →
      ((text : List ℕ) → with_all (string_after field) text rs ≡ readable (last_after text (repeated_string field rs))) →
      and_then (if c then Some b else None) (λ text. with_all (string_after field) text rs)
      ≡ readable (last_after last ((if c then Ok b else Err NotUtf8) >>= λ y. repeated_string field rs >>= λ ys. Ok (y ∷ ys)))
  test b true at later = later b ∙ ap readable (sym (last_after_next last b (repeated_string field rs)))
  test b false at later = refl

  go : (o : Option (List ℕ)) → payload_in field r ≡ o →
      ((text : List ℕ) → with_all (string_after field) text rs ≡ readable (last_after text (repeated_string field rs))) →
      with_all (string_after field) last (r ∷ rs) ≡ readable (last_after last (repeated_string field (r ∷ rs)))
  go None at later = rw at (later last)
  go (Some b) at later = rw at (test b (is_utf8 b) refl later)

-- ---- a digest

digest_is : (rs : List Record) → with_all digest_after no_digest rs ≡ readable (digest_of rs)
unfolding digest_of
digest_is rs =
    parts_are make (string_after 1) still (number_after (cast_signed w64) 2) digest_after (λ a b c r. refl) [] true (pos 0) rs
    ∙ rw (strings_are 1 [] rs, still_is true rs, numbers_are (cast_signed w64) 2 0 rs) (go (string 1 rs)) where
      make : List ℕ → Bool → ℤ → DigestValue
      make hash b size = record { hash = hash; size_bytes = size }

      go : (x : Result (List ℕ) MessageError) → and_then (readable x) (λ hash. Some (make hash true (int64 2 rs)))
          ≡ readable (x >>= λ hash. Ok (record { hash = hash; size_bytes = int64 2 rs }))
      go (Err e) = refl
      go (Ok hash) = refl

-- ---- a digest that stands several times

abbrev along_texts : Option DigestValue → List (List ℕ) → Option (Option DigestValue)
along_texts d [] = Some d
along_texts d (b ∷ bs) = and_then (digest_text_after d b) (λ e. along_texts e bs)

payloads_are : (field : ℕ) (d : Option DigestValue) (rs : List Record) →
    with_all (embedded_after field) d rs ≡ along_texts d (payloads field rs)
unfolding payloads
payloads_are field d [] = refl
payloads_are field d (r ∷ rs) = go (payload_in field r) refl (λ e. payloads_are field e rs) where
  go : (o : Option (List ℕ)) → payload_in field r ≡ o →
      ((e : Option DigestValue) → with_all (embedded_after field) e rs ≡ along_texts e (payloads field rs)) →
      with_all (embedded_after field) d (r ∷ rs) ≡ along_texts d (payloads field (r ∷ rs))
  go None at later = rw at (later d)
  go (Some b) at later = rw at (then_same (digest_text_after d b) (λ e. with_all (embedded_after field) e rs)
      (λ e. along_texts e (payloads field rs)) later)

abbrev of_joined : Option (List Record) → Option (Option DigestValue)
of_joined None = Some None
of_joined (Some rs) = option_map (λ e. Some e) (with_all digest_after no_digest rs)

abbrev read_joined : Result (Option (List Record)) MessageError → Option (Option DigestValue)
read_joined (Err e) = None
read_joined (Ok so_far) = of_joined so_far

text_read : (d : Option DigestValue) (b : List ℕ) (x : Result (List Record) MessageError) → records_in b ≡ x →
    digest_text_after d b ≡ option_map (λ e. Some e) (left_in digest_after (unwrap_or d no_digest) x)
text_read d b x at = ap (λ (o : Option DigestValue). option_map (λ e. Some e) o)
    (left_is digest_after (unwrap_or d no_digest) b ∙ ap (left_in digest_after (unwrap_or d no_digest)) at)

all_there : {A : Type 0} (o : Option A) → and_then o (λ x. Some x) ≡ o
all_there None = refl
all_there (Some x) = refl

more_read : (bs : List (List ℕ)) (so_far : Option (List Record)) (rs : List Record) →
    and_then (of_joined so_far) (λ d. and_then (option_map (λ e. Some e) (with_all digest_after (unwrap_or d no_digest) rs))
    (λ e. along_texts e bs)) ≡ and_then (of_joined (Some (unwrap_or so_far [] ++ rs))) (λ d. along_texts d bs)
more_read bs None rs = refl
more_read bs (Some front) rs = rw (all_both digest_after no_digest front rs) (go (with_all digest_after no_digest front)) where
  go : (o : Option DigestValue) → and_then (option_map (λ e. Some e) o)
      (λ d. and_then (option_map (λ e. Some e) (with_all digest_after (unwrap_or d no_digest) rs)) (λ e. along_texts e bs))
      ≡ and_then (option_map (λ e. Some e) (and_then o (λ c. with_all digest_after c rs))) (λ d. along_texts d bs)
  go None = refl
  go (Some c) = refl

joined_are : (so_far : Option (List Record)) (bs : List (List ℕ)) →
    and_then (of_joined so_far) (λ d. along_texts d bs) ≡ read_joined (joined_records so_far bs)
unfolding joined_records
joined_are so_far [] = all_there (of_joined so_far)
joined_are so_far (b ∷ bs) = go (records_in b) refl (λ rs. joined_are (Some rs) bs) where
  go : (x : Result (List Record) MessageError) → records_in b ≡ x →
      ((rs : List Record) → and_then (of_joined (Some rs)) (λ d. along_texts d bs) ≡ read_joined (joined_records (Some rs) bs)) →
      and_then (of_joined so_far) (λ d. and_then (digest_text_after d b) (λ e. along_texts e bs))
      ≡ read_joined ((x >>= λ rs. Ok (unwrap_or so_far [] ++ rs)) >>= λ rs. joined_records (Some rs) bs)
  go (Err e) at later =
      then_same (of_joined so_far) (λ d. and_then (digest_text_after d b) (λ f. along_texts f bs)) (λ _. None)
      (λ d. ap (λ (o : Option (Option DigestValue)). and_then o (λ f. along_texts f bs)) (text_read d b (Err e) at))
      ∙ none_after (of_joined so_far)
  go (Ok rs) at later =
      then_same (of_joined so_far) (λ d. and_then (digest_text_after d b) (λ f. along_texts f bs))
      (λ d. and_then (option_map (λ e. Some e) (with_all digest_after (unwrap_or d no_digest) rs)) (λ f. along_texts f bs))
      (λ d. ap (λ (o : Option (Option DigestValue)). and_then o (λ f. along_texts f bs)) (text_read d b (Ok rs) at))
      ∙ more_read bs so_far rs
      ∙ later (unwrap_or so_far [] ++ rs)

optional_is : (x : Result (Option (List Record)) MessageError) → read_joined x ≡ readable (x >>= optional_value digest_of)
optional_is (Err e) = refl
optional_is (Ok None) = refl
optional_is (Ok (Some rs)) = ap (λ (o : Option DigestValue). option_map (λ e. Some e) o) (digest_is rs) ∙ go (digest_of rs) where
  go : (v : Result DigestValue MessageError) → option_map (λ e. Some e) (readable v) ≡ readable (v >>= λ w. Ok (Some w))
  go (Err e) = refl
  go (Ok v) = refl

embedded_is : (field : ℕ) (rs : List Record) → with_all (embedded_after field) None rs ≡ readable (embedded_value digest_of field rs)
embedded_is field rs =
    payloads_are field None rs
    ∙ joined_are None (payloads field rs)
    ∙ optional_is (joined_records None (payloads field rs))
    ∙ ap readable (sym (embedded_is_joined digest_of field rs))

-- ---- nodes

file_is : (rs : List Record) → with_all file_after no_file rs ≡ readable (file_node_of rs)
unfolding file_node_of
file_is rs =
    parts_are make (string_after 1) (embedded_after 2) (number_after (nat_lt 0) 4) file_after (λ a b c r. refl) [] None false rs
    ∙ rw (strings_are 1 [] rs, embedded_is 2 rs, numbers_are (nat_lt 0) 4 0 rs) (go (string 1 rs) (embedded_value digest_of 2 rs)) where
      make : List ℕ → Option DigestValue → Bool → FileNodeValue
      make name digest flag = record { name = name; digest = digest; is_executable = flag }

      go : (x : Result (List ℕ) MessageError) (y : Result (Option DigestValue) MessageError) →
          and_then (readable x) (λ name. and_then (readable y) (λ digest. Some (make name digest (nat_lt 0 (last_or 0 (numbers 4 rs))))))
          ≡ readable (x >>= λ name. y >>= λ digest. Ok (make name digest (nat_lt 0 (last_or 0 (numbers 4 rs)))))
      go (Err e) y = refl
      go (Ok name) (Err e) = refl
      go (Ok name) (Ok digest) = refl

child_is : (rs : List Record) → with_all child_after no_child rs ≡ readable (directory_node_of rs)
unfolding directory_node_of
child_is rs =
    parts_are make (string_after 1) (embedded_after 2) same child_after (λ a b c r. refl) [] None true rs
    ∙ rw (strings_are 1 [] rs, embedded_is 2 rs) (go (string 1 rs) (embedded_value digest_of 2 rs)) where
      make : List ℕ → Option DigestValue → Bool → DirectoryNodeValue
      make name digest b = record { name = name; digest = digest }

      go : (x : Result (List ℕ) MessageError) (y : Result (Option DigestValue) MessageError) →
          and_then (readable x) (λ name. and_then (readable y) (λ digest. Some (make name digest true)))
          ≡ readable (x >>= λ name. y >>= λ digest. Ok (make name digest true))
      go (Err e) y = refl
      go (Ok name) (Err e) = refl
      go (Ok name) (Ok digest) = refl

symlink_is : (rs : List Record) → with_all symlink_after no_symlink rs ≡ readable (symlink_node_of rs)
unfolding symlink_node_of
symlink_is rs =
    parts_are make (string_after 1) (string_after 2) same symlink_after (λ a b c r. refl) [] [] true rs
    ∙ rw (strings_are 1 [] rs, strings_are 2 [] rs) (go (string 1 rs) (string 2 rs)) where
      make : List ℕ → List ℕ → Bool → SymlinkNodeValue
      make name target b = record { name = name; target = target }

      go : (x : Result (List ℕ) MessageError) (y : Result (List ℕ) MessageError) →
          and_then (readable x) (λ name. and_then (readable y) (λ target. Some (make name target true)))
          ≡ readable (x >>= λ name. y >>= λ target. Ok (make name target true))
      go (Err e) y = refl
      go (Ok name) (Err e) = refl
      go (Ok name) (Ok target) = refl

-- ---- texts

pub file_text_is : (text : List ℕ) → with_left file_after no_file (records_of text) ≡ readable (value_of_text file_node_of text)
file_text_is text = text_is file_after no_file file_node_of file_is text

pub child_text_is : (text : List ℕ) → with_left child_after no_child (records_of text) ≡ readable (value_of_text directory_node_of text)
child_text_is text = text_is child_after no_child directory_node_of child_is text

pub symlink_text_is : (text : List ℕ) → with_left symlink_after no_symlink (records_of text) ≡ readable (value_of_text symlink_node_of text)
symlink_text_is text = text_is symlink_after no_symlink symlink_node_of symlink_is text
