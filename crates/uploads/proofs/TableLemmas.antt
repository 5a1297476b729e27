-- The table of uploads, seen by texts.
use Rattle.std.proofs.Common.{◌≡◌, ℕ, ◌+◌, ◌-◌, Bool, true, false, List, [], ◌∷◌, map, length, Option, Some, None, refl, sym, ap, ◌∙◌}
use Rattle.std.specs.Prelude.{option_map, nat_lt, IsSome, IsOk, OnOk, OnErr, IfOk, Result, Ok, Err}
use Rattle.std.specs.List.{filter, sum_by}
use Rattle.std.specs.Map.{lookup, remove_entry}
use Rattle.std.proofs.lemmas.Bool.{and_parts}
use Rattle.std.proofs.lemmas.List.Sums.{sum_by-cons}
use Rattle.keyed_maps.specs.IndexMap.{insert_entry}
use Rattle.digest.proofs.Same.{same_equal}
use Rattle.digest.specs.Naming.{same_digest}
use Rattle.digest.specs.declared.Digest.{Digest}
use lib.Pointwise.{pointwise}
use Rattle.std.specs.Prelude.{nat_eq}
use Rattle.uploads.specs.declared.key.UploadKey.{UploadKey}
use Rattle.uploads.specs.declared.table.Upload.{Upload}
use Rattle.uploads.specs.Uploads.{KeyValue, UploadValue, same_upload, upload_at, with_upload, without_upload, uploads_at, uploads_length}
use Rattle.uploads.specs.Shown.{key_shown, upload_shown, entry_shown, IsWhole, AreWhole}

-- whether two keys are one, as the table compares them
abbrev pub same_key : UploadKey → UploadKey → Bool
same_key a b = same_upload (key_shown a) (key_shown b)

pub at_shown : (k : UploadKey) (es : List (UploadKey × Upload)) →
    option_map upload_shown (lookup (same_key k) es) ≡ upload_at (key_shown k) (map entry_shown es)
at_shown k [] = refl
at_shown k (e ∷ es) = go (same_key k e.0) refl (at_shown k es) where
  go : (b : Bool) → same_key k e.0 ≡ b → option_map upload_shown (lookup (same_key k) es) ≡ upload_at (key_shown k) (map entry_shown es) →
      option_map upload_shown (lookup (same_key k) (e ∷ es)) ≡ upload_at (key_shown k) (map entry_shown (e ∷ es))
  go true is ih = rw is refl
  go false is ih = rw is ih

pub without_shown : (k : UploadKey) (es : List (UploadKey × Upload)) →
    map entry_shown (remove_entry (same_key k) es) ≡ without_upload (key_shown k) (map entry_shown es)
without_shown k [] = refl
without_shown k (e ∷ es) = go (same_key k e.0) refl (without_shown k es) where
  go : (b : Bool) → same_key k e.0 ≡ b → map entry_shown (remove_entry (same_key k) es)
      ≡ without_upload (key_shown k) (map entry_shown es) →
      map entry_shown (remove_entry (same_key k) (e ∷ es)) ≡ without_upload (key_shown k) (map entry_shown (e ∷ es))
  go true is ih = rw is refl
  go false is ih = rw is (ap (λ (us : List (KeyValue × UploadValue)). entry_shown e ∷ us) ih)

pub with_shown : (k : UploadKey) (u : Upload) (es : List (UploadKey × Upload)) →
    map entry_shown (insert_entry same_key es k u) ≡ with_upload (key_shown k) (upload_shown u) (map entry_shown es)
with_shown k u [] = refl
with_shown k u (e ∷ es) = go (same_key k e.0) refl (with_shown k u es) where
  go : (b : Bool) → same_key k e.0 ≡ b → map entry_shown (insert_entry same_key es k u)
      ≡ with_upload (key_shown k) (upload_shown u) (map entry_shown es) →
      map entry_shown (insert_entry same_key (e ∷ es) k u) ≡ with_upload (key_shown k) (upload_shown u) (map entry_shown (e ∷ es))
  go true is ih = rw is refl
  go false is ih = rw is (ap (λ (us : List (KeyValue × UploadValue)). entry_shown e ∷ us) ih)

-- ---- texts whose hash was ended have all their bytes

pub whole_without : (k : UploadKey) (es : List (UploadKey × Upload)) → AreWhole es → AreWhole (remove_entry (same_key k) es)
whole_without k [] h = h
whole_without k (e ∷ es) h = go (same_key k e.0) refl (whole_without k es h.1) where
  go : (b : Bool) → same_key k e.0 ≡ b → AreWhole (remove_entry (same_key k) es) → AreWhole (remove_entry (same_key k) (e ∷ es))
  go true is ih = rw is h.1
  go false is ih = rw is (h.0, ih)

-- one key has one digest
digest_of_same_key : (j k : UploadKey) → same_key j k ≡ true → j.digest ≡ k.digest
digest_of_same_key j k h = same_equal j.digest k.digest
    (and_parts (pointwise nat_eq j.uuid.bytes k.uuid.bytes) (same_digest j.digest k.digest) h).1

pub whole_with : (k : UploadKey) (u : Upload) (es : List (UploadKey × Upload)) → IsWhole (k, u) → AreWhole es →
    AreWhole (insert_entry same_key es k u)
whole_with k u [] w h = (w, tt)
whole_with k u (e ∷ es) w h = go (same_key k e.0) refl (whole_with k u es w h.1) where
  go : (b : Bool) → same_key k e.0 ≡ b → AreWhole (insert_entry same_key es k u) → AreWhole (insert_entry same_key (e ∷ es) k u)
  go true is ih = rw is (record { whole = λ closed. w.whole closed ∙ ap (λ (d : Digest). d.size) (digest_of_same_key k e.0 is) }, h.1)
  go false is ih = rw is (h.0, ih)

some_same : (a b : Upload) → Some a ≡ Some b → a ≡ b
some_same a b h = cc

pub whole_at : (k : UploadKey) (es : List (UploadKey × Upload)) (u : Upload) → AreWhole es → lookup (same_key k) es ≡ Some u →
    IsWhole (k, u)
whole_at k [] u h at = cc
whole_at k (e ∷ es) u h at = go (same_key k e.0) refl (whole_at k es u h.1) at where
  go : (b : Bool) → same_key k e.0 ≡ b → (lookup (same_key k) es ≡ Some u → IsWhole (k, u)) → lookup (same_key k) (e ∷ es) ≡ Some u →
      IsWhole (k, u)
  go true is ih at =
      let found = rw is at at in
      let here : e.1 ≡ u = some_same e.1 u found in
      record {
        whole = λ closed. rw (← here) (h.0.whole (rw here closed)
            ∙ ap (λ (d : Digest). d.size) (sym (digest_of_same_key k e.0 is)));
      }
  go false is ih at = ih (rw is at at)

pub whole_filter : (test : (UploadKey × Upload) → Bool) (es : List (UploadKey × Upload)) → AreWhole es → AreWhole (filter test es)
whole_filter test [] h = h
whole_filter test (e ∷ es) h = go (test e) refl (whole_filter test es h.1) where
  go : (b : Bool) → test e ≡ b → AreWhole (filter test es) → AreWhole (filter test (e ∷ es))
  go true is ih = rw is (h.0, ih)
  go false is ih = rw is ih

-- ---- those that a moment leaves

pub unexpired_shown : (moment : ℕ) (es : List (UploadKey × Upload)) →
    map entry_shown (filter (λ (e : UploadKey × Upload). nat_lt (moment - e.1.written) 600000) es) ≡ uploads_at moment (map entry_shown es)
unexpired_shown moment [] = refl
unexpired_shown moment (e ∷ es) = go (nat_lt (moment - e.1.written) 600000) refl (unexpired_shown moment es) where
  go : (b : Bool) → nat_lt (moment - e.1.written) 600000 ≡ b
      → map entry_shown (filter (λ (d : UploadKey × Upload). nat_lt (moment - d.1.written) 600000) es)
      ≡ uploads_at moment (map entry_shown es)
      → map entry_shown (filter (λ (d : UploadKey × Upload). nat_lt (moment - d.1.written) 600000) (e ∷ es))
      ≡ uploads_at moment (map entry_shown (e ∷ es))
  go true is ih = rw is (ap (λ (us : List (KeyValue × UploadValue)). entry_shown e ∷ us) ih)
  go false is ih = rw is ih

-- ---- sums

pub bytes_shown : (es : List (UploadKey × Upload)) →
    sum_by (λ (u : Upload). length u.draft.text) (map (λ (e : UploadKey × Upload). e.1) es) ≡ uploads_length (map entry_shown es)
bytes_shown [] = refl
bytes_shown (e ∷ es) = sum_by-cons (λ (u : Upload). length u.draft.text) e.1 (map (λ (d : UploadKey × Upload). d.1) es)
    ∙ ap (λ n. length e.1.draft.text + n) (bytes_shown es)

-- ---- an upload that is there

pub there_ok : {E T : Type 0} (r : Result T E) (k : UploadKey) (es : List (UploadKey × Upload)) →
    IsSome (upload_at (key_shown k) (map entry_shown es))
    → OnErr r (lookup (same_key k) es ≡ None) → IsOk r
there_ok (Ok x) k es some none = refl
there_ok (Err e) k es some none =
    let absent : upload_at (key_shown k) (map entry_shown es) ≡ None = sym (at_shown k es) ∙ ap (option_map upload_shown) none in
    let clash : false ≡ true = rw absent at some in
    cc

pub there_some : (o : Option Upload) (k : UploadKey) (es : List (UploadKey × Upload)) →
    IsSome (upload_at (key_shown k) (map entry_shown es))
    → o ≡ lookup (same_key k) es → IsSome o
there_some (Some x) k es some at = refl
there_some None k es some at =
    let absent : upload_at (key_shown k) (map entry_shown es) ≡ None = sym (at_shown k es) ∙ ap (option_map upload_shown) (sym at) in
    let clash : false ≡ true = rw absent at some in
    cc

pub old_at : {E : Type 0} (r : Result (Option Upload) E) (o : Option Upload) (k : UploadKey) (es : List (UploadKey × Upload))
    → IfOk r (λ old. old ≡ lookup (same_key k) es) → r ≡ Ok o → o ≡ lookup (same_key k) es
old_at (Ok x) o k es h is = let e : x ≡ o = cc in sym e ∙ h
old_at (Err e) o k es h is = cc

pub entries_at : {E T : Type 0} (r : Result T E) (o : T) (P : Type 0) → OnOk r P → r ≡ Ok o → P
entries_at (Ok x) o P h is = h
entries_at (Err e) o P h is = cc
