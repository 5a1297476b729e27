-- Uploads as a plain list.
use Rattle.std.proofs.Common.{◌≡◌, ℕ, ◌+◌, ◌<◌, ◌≤◌, ◌^◌, Bool, true, false, not, ◌&&◌, List, [], ◌∷◌, ◌++◌, length, Some, Result, Ok, Err, cond, refl, sym, ap, ◌∙◌, arith, length-append}
use Rattle.std.specs.Prelude.{nat_eq, nat_lt, nat_le, is_some, IsSome, OnOk, OnErr}
use Rattle.std.specs.List.{filter}
use Rattle.std.proofs.lemmas.Bool.Decides.{nat_tests}
use lib.Pointwise.{pointwise}
use Rattle.digest.proofs.Same.{same_refl}
use Rattle.uploads.specs.declared.error.UploadError.{UploadError}
use Rattle.uploads.specs.declared.error.UploadError.TheVariants.{Offset, Size, Hash, TooMany, OverQuota, NoMemory}
use Rattle.uploads.specs.Uploads.{KeyValue, UploadValue, UploadList, same_upload, upload_at, with_upload, without_upload, uploads_length, text_in, text_so_far, is_recent, uploads_at, AreUploadsWithin}
use Rattle.uploads.specs.Writing.{PieceValue, is_place, if_ok, piece_answer, may_begin, begin_answer, append_answer, call_answer, after_piece, Answers}
use Rattle.uploads.specs.Fitting.{Fits}

same_bytes : (bs : List ℕ) → pointwise nat_eq bs bs ≡ true
same_bytes [] = refl
same_bytes (b ∷ bs) = let e : nat_eq b b ≡ true = grind (arith, nat_tests) in rw e (same_bytes bs)

pub same_upload_refl : (k : KeyValue) → same_upload k k ≡ true
same_upload_refl k = rw (same_bytes k.uuid) (same_refl k.digest)

-- ---- what one write does

pub at_with : (k : KeyValue) (u : UploadValue) (us : UploadList) → upload_at k (with_upload k u us) ≡ Some u
at_with k u [] = rw (same_upload_refl k) refl
at_with k u (v ∷ us) = go (same_upload k v.0) refl (at_with k u us) where
  go : (b : Bool) → same_upload k v.0 ≡ b → upload_at k (with_upload k u us) ≡ Some u → upload_at k (with_upload k u (v ∷ us)) ≡ Some u
  go true is ih = rw is (rw is refl)
  go false is ih = rw is (rw is ih)

pub with_with : (k : KeyValue) (a b : UploadValue) (us : UploadList) → with_upload k b (with_upload k a us) ≡ with_upload k b us
with_with k a b [] = rw (same_upload_refl k) refl
with_with k a b (v ∷ us) = go (same_upload k v.0) refl (with_with k a b us) where
  go : (s : Bool) → same_upload k v.0 ≡ s → with_upload k b (with_upload k a us) ≡ with_upload k b us →
      with_upload k b (with_upload k a (v ∷ us)) ≡ with_upload k b (v ∷ us)
  go true is ih = rw is (rw is refl)
  go false is ih = rw is (rw is (ap (λ (later : UploadList). v ∷ later) ih))

pub without_with : (k : KeyValue) (a : UploadValue) (us : UploadList) → IsSome (upload_at k us) →
    without_upload k (with_upload k a us) ≡ without_upload k us
without_with k a [] some = let clash : false ≡ true = some in cc
without_with k a (v ∷ us) some = go (same_upload k v.0) refl (without_with k a us) some where
  go : (s : Bool) → same_upload k v.0 ≡ s → (IsSome (upload_at k us) → without_upload k (with_upload k a us) ≡ without_upload k us)
      → IsSome (upload_at k (v ∷ us)) → without_upload k (with_upload k a (v ∷ us)) ≡ without_upload k (v ∷ us)
  go true is ih some = rw is (rw is refl)
  go false is ih some = rw is (rw is (ap (λ (later : UploadList). v ∷ later) (ih (rw is at some))))

same_value : (a b : UploadValue) → Some a ≡ Some b → a ≡ b
same_value a b h = cc

-- what is there, put back, changes nothing
pub with_same : (k : KeyValue) (u : UploadValue) (us : UploadList) → upload_at k us ≡ Some u → with_upload k u us ≡ us
with_same k u [] at = cc
with_same k u (v ∷ us) at = go (same_upload k v.0) refl (with_same k u us) at where
  go : (s : Bool) → same_upload k v.0 ≡ s → (upload_at k us ≡ Some u → with_upload k u us ≡ us)
      → upload_at k (v ∷ us) ≡ Some u → with_upload k u (v ∷ us) ≡ v ∷ us
  go true is ih at =
      let found = rw is at at in
      let here : v.1 ≡ u = same_value v.1 u found in
      rw is (ap (λ (w : UploadValue). (v.0, w) ∷ us) (sym here))
  go false is ih at = rw is (ap (λ (later : UploadList). v ∷ later) (ih (rw is at at)))

-- ---- bytes and numbers

pub bytes_with : (k : KeyValue) (u : UploadValue) (us : UploadList) →
    uploads_length (with_upload k u us) + length (text_so_far k us) ≡ uploads_length us + length u.text
bytes_with k u [] = omega arith
bytes_with k u (v ∷ us) = go (same_upload k v.0) refl (bytes_with k u us) where
  go : (s : Bool) → same_upload k v.0 ≡ s → uploads_length (with_upload k u us) + length (text_so_far k us)
      ≡ uploads_length us + length u.text
      → uploads_length (with_upload k u (v ∷ us)) + length (text_so_far k (v ∷ us)) ≡ uploads_length (v ∷ us) + length u.text
  go true is ih = rw is (omega arith)
  go false is ih = rw is (omega (arith, ih))

pub length_with : (k : KeyValue) (u : UploadValue) (us : UploadList) → length (with_upload k u us) ≤ length us + 1
length_with k u [] = omega arith
length_with k u (v ∷ us) = go (same_upload k v.0) refl (length_with k u us) where
  go : (s : Bool) → same_upload k v.0 ≡ s → length (with_upload k u us) ≤ length us + 1 →
      length (with_upload k u (v ∷ us)) ≤ length (v ∷ us) + 1
  go true is ih = rw is (omega arith)
  go false is ih = rw is (omega (arith, ih))

pub length_with_there : (k : KeyValue) (u : UploadValue) (us : UploadList) → is_some (upload_at k us) ≡ true →
    length (with_upload k u us) ≤ length us
length_with_there k u [] some = cc
length_with_there k u (v ∷ us) some = go (same_upload k v.0) refl (length_with_there k u us) some where
  go : (s : Bool) → same_upload k v.0 ≡ s → (is_some (upload_at k us) ≡ true → length (with_upload k u us) ≤ length us)
      → is_some (upload_at k (v ∷ us)) ≡ true → length (with_upload k u (v ∷ us)) ≤ length (v ∷ us)
  go true is ih some = rw is (omega arith)
  go false is ih some = let shorter = ih (rw is at some) in rw is (omega (arith, shorter))

-- a size of lists, which grows with each upload
record IsSize (size : UploadList → ℕ) : Type 0 where
  skipped : (v : KeyValue × UploadValue) (us : UploadList) → size us ≤ size (v ∷ us)
  kept : (v : KeyValue × UploadValue) (us vs : UploadList) → size us ≤ size vs → size (v ∷ us) ≤ size (v ∷ vs)

by_length : IsSize length
by_length = record { skipped = λ v us. omega arith; kept = λ v us vs less. omega (arith, less) }

by_bytes : IsSize uploads_length
by_bytes = record { skipped = λ v us. omega arith; kept = λ v us vs less. omega (arith, less) }

size_without : (size : UploadList → ℕ) → IsSize size → (k : KeyValue) (us : UploadList) → size (without_upload k us) ≤ size us
size_without size is k [] = omega arith
size_without size is k (v ∷ us) = go (same_upload k v.0) refl (size_without size is k us) where
  go : (s : Bool) → same_upload k v.0 ≡ s → size (without_upload k us) ≤ size us → size (without_upload k (v ∷ us)) ≤ size (v ∷ us)
  go true here less = rw here (is.skipped v us)
  go false here less = rw here (is.kept v (without_upload k us) us less)

pub text-short : (k : KeyValue) (us : UploadList) → length (text_so_far k us) ≤ uploads_length us
text-short k [] = omega arith
text-short k (v ∷ us) = go (same_upload k v.0) refl (text-short k us) where
  go : (s : Bool) → same_upload k v.0 ≡ s → length (text_so_far k us) ≤ uploads_length us →
      length (text_so_far k (v ∷ us)) ≤ uploads_length (v ∷ us)
  go true is ih = rw is (omega arith)
  go false is ih = rw is (omega (arith, ih))

size_filter : (size : UploadList → ℕ) → IsSize size → (test : (KeyValue × UploadValue) → Bool) (us : UploadList) →
    size (filter test us) ≤ size us
size_filter size is test [] = omega arith
size_filter size is test (v ∷ us) = go (test v) refl (size_filter size is test us) where
  go : (s : Bool) → test v ≡ s → size (filter test us) ≤ size us → size (filter test (v ∷ us)) ≤ size (v ∷ us)
  go true passes less = rw passes (is.kept v (filter test us) us less)
  go false passes less = rw passes (let more = is.skipped v us in omega (arith, less))

-- ---- within the limits

pub within_unexpired : (quota moment : ℕ) (us : UploadList) → AreUploadsWithin quota us → AreUploadsWithin quota (uploads_at moment us)
within_unexpired quota moment us h = record {
  bytes = let b = size_filter uploads_length by_bytes (is_recent moment) us in let q = h.bytes in omega arith;
  count = let n = size_filter length by_length (is_recent moment) us in let q = h.count in omega arith;
}

pub within_without : (quota : ℕ) (k : KeyValue) (us : UploadList) → AreUploadsWithin quota us → AreUploadsWithin quota (without_upload k us)
within_without quota k us h = record {
  bytes = let b = size_without uploads_length by_bytes k us in let q = h.bytes in omega arith;
  count = let n = size_without length by_length k us in let q = h.count in omega arith;
}

abbrev piece_tests : Bool → Bool → Bool → Result Unit UploadError
piece_tests at past over = cond (not at) (Err Offset) (cond past (Err Size) (cond over (Err OverQuota) (Ok tt)))

piece_bounds : (at past over : Bool) → piece_tests at past over ≡ Ok tt → (past ≡ false) × (over ≡ false)
piece_bounds true false false h = (refl, refl)
piece_bounds true false true h = cc
piece_bounds true true over h = cc
piece_bounds false past over h = cc

-- a piece that is taken leaves the text within its size, and all texts within the quota
pub piece_room : (quota : ℕ) (k : KeyValue) (piece : PieceValue) (us : UploadList) → piece_answer quota k piece us ≡ Ok tt
    → (length (text_so_far k us) + length piece.bytes ≤ k.digest.size) × (uploads_length us + length piece.bytes ≤ quota)
piece_room quota k piece us h =
    let bounds = piece_bounds (is_place piece.offset (length (text_so_far k us)))
    (nat_lt k.digest.size (length (text_so_far k us) + length piece.bytes)) (nat_lt quota (uploads_length us + length piece.bytes)) h in
    let past = bounds.0 in
    let over = bounds.1 in
    (grind (arith, nat_tests), grind (arith, nat_tests))

pub fits_piece : (quota : ℕ) (k : KeyValue) (piece : PieceValue) (us : UploadList) → quota ≤ 2 ^ 40 →
    piece_answer quota k piece us ≡ Ok tt → Fits k piece.bytes us
fits_piece quota k piece us small h =
    let room = piece_room quota k piece us h in
    let named = room.0 in
    let all = room.1 in
    let own = text-short k us in
    record { named = named; short = omega arith }

within_with : (quota moment : ℕ) (k : KeyValue) (piece : PieceValue) (us : UploadList) → AreUploadsWithin quota us
    → uploads_length us + length piece.bytes ≤ quota →
    length (with_upload k (record { text = text_so_far k us ++ piece.bytes; written = moment }) us) ≤ 64
    → AreUploadsWithin quota (with_upload k (record { text = text_so_far k us ++ piece.bytes; written = moment }) us)
within_with quota moment k piece us h room few = record {
  bytes =
      let b = bytes_with k (record { text = text_so_far k us ++ piece.bytes; written = moment }) us in
      let n = length-append (text_so_far k us) piece.bytes in
      omega arith;
  count = few;
}

-- the answers of a piece, one by one
pub within_after : (quota moment : ℕ) (k : KeyValue) (piece : PieceValue) (us : UploadList) (r : Result Unit UploadError) →
    AreUploadsWithin quota us
    → OnOk r ((uploads_length us + length piece.bytes ≤ quota)
    × (length (with_upload k (record { text = text_so_far k us ++ piece.bytes; written = moment }) us) ≤ 64))
    → AreUploadsWithin quota (after_piece moment k piece r us)
within_after quota moment k piece us (Ok u) h room = within_with quota moment k piece us h room.0 room.1
within_after quota moment k piece us (Err Offset) h room = h
within_after quota moment k piece us (Err Size) h room = within_without quota k us h
within_after quota moment k piece us (Err Hash) h room = h
within_after quota moment k piece us (Err TooMany) h room = h
within_after quota moment k piece us (Err OverQuota) h room = h
within_after quota moment k piece us (Err NoMemory) h room = h

if_ok_both : (a b : Result Unit UploadError) → if_ok a b ≡ Ok tt → (a ≡ Ok tt) × (b ≡ Ok tt)
if_ok_both (Ok u) b h = (refl, h)
if_ok_both (Err e) b h = cc

append_both : (there : Bool) (r : Result Unit UploadError) → cond there r (Err Offset) ≡ Ok tt → (there ≡ true) × (r ≡ Ok tt)
append_both true r h = (refl, h)
append_both false r h = cc

abbrev begin_tests : Bool → Bool → Result Unit UploadError
begin_tests large many = cond large (Err OverQuota) (cond many (Err TooMany) (Ok tt))

few_bounds : (large many : Bool) → begin_tests large many ≡ Ok tt → (large ≡ false) × (many ≡ false)
few_bounds false false h = (refl, refl)
few_bounds false true h = cc
few_bounds true many h = cc

-- an upload that may begin is there, or there is room for it
begin_count : (quota moment : ℕ) (k : KeyValue) (u : UploadValue) (us : UploadList) → length us ≤ 64 → may_begin quota k us ≡ Ok tt →
    length (with_upload k u us) ≤ 64
begin_count quota moment k u us h ok = go (is_some (upload_at k us)) refl
    (few_bounds (nat_lt quota k.digest.size) (not (is_some (upload_at k us)) && nat_le 64 (length us)) ok).1 where
      go : (there : Bool) → is_some (upload_at k us) ≡ there → not (is_some (upload_at k us)) && nat_le 64 (length us) ≡ false →
          length (with_upload k u us) ≤ 64
      go true is few = let n = length_with_there k u us is in omega arith
      go false is few =
          let some = rw is at few in
          let room : length us < 64 = grind (arith, nat_tests) in
          let n = length_with k u us in
          omega arith

within_begin : (quota moment : ℕ) (k : KeyValue) (piece : PieceValue) (us : UploadList) (r : Result Unit UploadError) →
    AreUploadsWithin quota us
    → Answers r (begin_answer quota k piece us) → AreUploadsWithin quota (after_piece moment k piece r us)
within_begin quota moment k piece us (Ok u) h a =
    let both = if_ok_both (may_begin quota k us) (piece_answer quota k piece us) (sym a) in
    within_after quota moment k piece us (Ok u) h (
      (piece_room quota k piece us both.1).1,
      begin_count quota moment k
          (record { text = text_so_far k us ++ piece.bytes; written = moment }) us h.count both.0,
    )
within_begin quota moment k piece us (Err e) h a = within_after quota moment k piece us (Err e) h tt

within_append : (quota moment : ℕ) (k : KeyValue) (piece : PieceValue) (us : UploadList) (r : Result Unit UploadError) →
    AreUploadsWithin quota us
    → Answers r (append_answer quota k piece us) → AreUploadsWithin quota (after_piece moment k piece r us)
within_append quota moment k piece us (Ok u) h a =
    let both = append_both (is_some (upload_at k us)) (piece_answer quota k piece us) (sym a) in
    let n = length_with_there k (record { text = text_so_far k us ++ piece.bytes; written = moment }) us both.0 in
    let few = h.count in
    within_after quota moment k piece us (Ok u) h ((piece_room quota k piece us both.1).1, omega arith)
within_append quota moment k piece us (Err e) h a = within_after quota moment k piece us (Err e) h tt

pub within_call : (first : Bool) (quota moment : ℕ) (k : KeyValue) (piece : PieceValue) (us : UploadList) (r : Result Unit UploadError) →
    AreUploadsWithin quota us
    → Answers r (call_answer first quota k piece us) → AreUploadsWithin quota (after_piece moment k piece r us)
within_call true quota moment k piece us r h a = within_begin quota moment k piece us r h a
within_call false quota moment k piece us r h a = within_append quota moment k piece us r h a

-- a piece that may be added leaves room for itself
pub fits_call : (first : Bool) (quota : ℕ) (k : KeyValue) (piece : PieceValue) (us : UploadList) (r : Result Unit UploadError) →
    quota ≤ 2 ^ 40
    → r ≡ call_answer first quota k piece us → OnOk r (Fits k piece.bytes us)
fits_call true quota k piece us (Ok u) small h =
    fits_piece quota k piece us small (if_ok_both (may_begin quota k us) (piece_answer quota k piece us) (sym h)).1
fits_call false quota k piece us (Ok u) small h =
    fits_piece quota k piece us small (append_both (is_some (upload_at k us)) (piece_answer quota k piece us) (sym h)).1
fits_call first quota k piece us (Err e) small h = tt

-- ---- an upload taken out and put back

pub forgotten : (k : KeyValue) (a : UploadValue) (us us1 us2 : UploadList) → IsSome (upload_at k us) → us1 ≡ with_upload k a us →
    us2 ≡ without_upload k us1 → us2 ≡ without_upload k us
forgotten k a us us1 us2 some e1 e2 = e2 ∙ ap (without_upload k) e1 ∙ without_with k a us some

pub there_with : (k : KeyValue) (a : UploadValue) (us us1 : UploadList) → us1 ≡ with_upload k a us → IsSome (upload_at k us1)
there_with k a us us1 e1 = rw e1 (rw (at_with k a us) refl)

pub extended_ok : (k : KeyValue) (a u w : UploadValue) (us us1 us2 : UploadList) (bytes : List ℕ) (moment : ℕ) {E : Type 0}
    (r : Result Unit E)
    → us1 ≡ with_upload k a us → upload_at k us ≡ Some u → OnOk r (w ≡ record { text = u.text ++ bytes; written = moment }) →
    us2 ≡ with_upload k w us1
    → OnOk r (us2 ≡ with_upload k (record { text = text_so_far k us ++ bytes; written = moment }) us)
extended_ok k a u w us us1 us2 bytes moment (Ok x) e1 at added e2 =
    let so_far : text_so_far k us ≡ u.text = ap text_in at in
    e2 ∙ ap (with_upload k w) e1 ∙ with_with k a w us ∙ rw so_far (ap (λ v. with_upload k v us) added)
extended_ok k a u w us us1 us2 bytes moment (Err e) e1 at added e2 = tt

pub put_back : (k : KeyValue) (a u w : UploadValue) (us us1 us2 : UploadList) → us1 ≡ with_upload k a us → upload_at k us ≡ Some u → w ≡ u →
    us2 ≡ with_upload k w us1 → us2 ≡ us
put_back k a u w us us1 us2 e1 at same e2 =
    e2 ∙ ap (with_upload k w) e1 ∙ with_with k a w us ∙ with_same k w us (at ∙ ap Some (sym same))

pub extended_err : (k : KeyValue) (a u w : UploadValue) (us us1 us2 : UploadList) {E : Type 0} (r : Result Unit E)
    → us1 ≡ with_upload k a us → upload_at k us ≡ Some u → OnErr r (w ≡ u) → us2 ≡ with_upload k w us1 → OnErr r (us2 ≡ us)
extended_err k a u w us us1 us2 (Ok x) e1 at same e2 = tt
extended_err k a u w us us1 us2 (Err e) e1 at same e2 = put_back k a u w us us1 us2 e1 at same e2

pub within_same : (quota : ℕ) (us us2 : UploadList) → us2 ≡ us → AreUploadsWithin quota us → AreUploadsWithin quota us2
within_same quota us us2 e h = rw e h
