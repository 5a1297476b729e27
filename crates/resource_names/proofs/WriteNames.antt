-- Names of uploads for a Write.
use Rattle.std.proofs.Common.{◌≡◌, ℕ, ◌≤◌, ◌&&◌, Bool, true, false, cond, nat_le, List, [], ◌∷◌, ◌++◌, length, Ok, Err, refl, sym, ap, subst, ◌∙◌, append_assoc, arith}
use Rattle.std.specs.Prelude.{codes}
use Rattle.std.specs.Fmt.{decimal}
use Rattle.std.proofs.lemmas.List.{append-nil}
use Rattle.std.specs.List.{AllByRecursion, join_with_byte}
use Rattle.std.proofs.lemmas.Bool.Decides.{nat_tests}
use Rattle.std.proofs.lemmas.Slice.Eq.{bytes_eq-Decides}
use Rattle.numerals.proofs.Steps.{bind_ok}
use Rattle.digest.specs.Text.{hash_text}
use Rattle.resource_names.specs.declared.name.NameError.TheVariants.{Form}
use Rattle.resource_names.specs.Names.{WriteNameValue, or_fault, is_blobs, divides_write, upload_compression_check, instance_of, uuid_of, blobs_place, digest_of_segments, upload_named, write_name}
use Rattle.resource_names.specs.Segments.{segments_of, joined_segments, division_of}
use Rattle.resource_names.specs.Written.{WritesWrite, HasNoSlash, AreFurther, digest_text, instance_text}
use Rattle.resource_names.proofs.Divisions.{segments-word, segments-append, segments-clean, clean-front, divided-found, divided-at, instance_segments, segments-instance, none-instance, instance_before, joined_segments-instance}
use Rattle.resource_names.proofs.Digests.{IsDigestText, same_digest, digest_found, digest_read, written_digest}
use Rattle.resource_names.proofs.Names.{was_some, is_blobs-found, instance_found, instance_read, same_segments, text_divided, none_found}

-- what stands after `uploads`
record IsUpload (instance : List ℕ) (segments : List (List ℕ)) (name : WriteNameValue) : Type 0 where
  hash : List ℕ
  size : List ℕ
  more : List (List ℕ)
  are : segments ≡ name.uuid ∷ codes "blobs" ∷ hash ∷ size ∷ more
  some : 1 ≤ length name.uuid
  most : length name.uuid ≤ 128
  written : IsDigestText hash size name.digest
  instance_is : name.instance ≡ instance

record IsUuid (segment uuid : List ℕ) : Type 0 where
  is : segment ≡ uuid
  some : 1 ≤ length segment
  most : length segment ≤ 128

uuid_found : (segment uuid : List ℕ) → uuid_of segment ≡ Ok uuid → IsUuid segment uuid
uuid_found segment uuid h = go (nat_le 1 (length segment)) (nat_le (length segment) 128) refl refl h where
  go : (a b : Bool) → nat_le 1 (length segment) ≡ a → nat_le (length segment) 128 ≡ b → cond (a && b) (Ok segment) (Err Form) ≡ Ok uuid →
      IsUuid segment uuid
  go true true a b h = record { is = cc; some = grind (arith, nat_tests); most = grind (arith, nat_tests) }
  go true false a b h = cc
  go false b' a b h = cc

place_found : (segment : List ℕ) (u : Unit {0}) → blobs_place segment ≡ Ok u → segment ≡ codes "blobs"
place_found segment u h = go (is_blobs segment) refl h where
  go : (b : Bool) → is_blobs segment ≡ b → cond b (Ok tt) (Err Form) ≡ Ok u → segment ≡ codes "blobs"
  go true e h = is_blobs-found segment e
  go false e h = cc

upload_found : (instance : List ℕ) (segments : List (List ℕ)) (name : WriteNameValue) → upload_named instance segments ≡ Ok name →
    IsUpload instance segments name
upload_found instance [] name h = cc
upload_found instance (a ∷ []) name h = cc
upload_found instance (a ∷ b ∷ []) name h = cc
upload_found instance (a ∷ b ∷ c ∷ []) name h = cc
upload_found instance (uuid ∷ place ∷ hash ∷ size ∷ more) name h =
    let u = bind_ok (uuid_of uuid) _ name h in
    let p = bind_ok (blobs_place place) _ name u.2 in
    let g = bind_ok (digest_of_segments hash size) _ name p.2 in
    let same : record { instance = instance; uuid = u.0; digest = g.0 } ≡ name = cc in
    let id = uuid_found uuid u.0 u.1 in
    let blobs = place_found place p.0 p.1 in
    subst (IsUpload instance (uuid ∷ place ∷ hash ∷ size ∷ more)) same (record {
      hash = hash;
      size = size;
      more = more;
      are = same_segments [] _ _ _ _ id.is (same_segments [] _ _ _ _ blobs refl);
      some = subst (λ (x : List ℕ). 1 ≤ length x) id.is id.some;
      most = subst (λ (x : List ℕ). length x ≤ 128) id.is id.most;
      written = digest_found hash size g.0 g.1;
      instance_is = refl;
    })

-- further segments, each after a slash
abbrev further_text : List (List ℕ) → List ℕ
further_text [] = []
further_text (segment ∷ segments) = 47 ∷ join_with_byte 47 (segment ∷ segments)

are_further : (more : List (List ℕ)) → AreFurther (further_text more)
are_further [] = tt
are_further (segment ∷ more) = refl

join-further : (segment : List ℕ) (more : List (List ℕ)) → join_with_byte 47 (segment ∷ more) ≡ segment ++ further_text more
join-further segment [] = sym (append-nil segment)
join-further segment (next ∷ more) = refl

uploads_segment : (segment : List ℕ) → divides_write segment ≡ true → segment ≡ codes "uploads"
uploads_segment segment h = (bytes_eq-Decides segment (codes "uploads")).0 h

pub write_found : (text : List ℕ) (name : WriteNameValue) → write_name text ≡ Ok name → WritesWrite text name
write_found text name h =
    let d = bind_ok (or_fault Form (division_of divides_write (segments_of text))) _ name h in
    let u = bind_ok (upload_compression_check d.0.after) _ name d.2 in
    let i = bind_ok (instance_of d.0.before) _ name u.2 in
    let up = upload_found i.0 d.0.after name i.2 in
    let at = divided-found divides_write [] (segments_of text) d.0 (was_some Form _ d.0 d.1) in
    let uploads = uploads_segment d.0.segment at.test in
    let before : instance_before name.instance ≡ joined_segments at.passed =
    ap instance_before up.instance_is ∙ sym (instance_found d.0.before i.0 i.1) ∙ at.before_is in
    let after = codes "blobs" ∷ up.hash ∷ up.size ∷ up.more in
    let are : segments_of text ≡ at.passed ++ codes "uploads" ∷ name.uuid ∷ after =
    at.segments_are ∙ same_segments at.passed _ _ _ _ uploads up.are in
    let clean = clean-front at.passed (codes "uploads" ∷ name.uuid ∷ after) (subst (AllByRecursion HasNoSlash) are (segments-clean text)) in
    let whole = text_divided text name.instance at.passed (codes "uploads") name.uuid after are before in
    let more = further_text up.more in
    let digest : up.hash ++ 47 ∷ join_with_byte 47 (up.size ∷ up.more) ≡ digest_text name.digest ++ more =
    ap (λ (rest : List ℕ). up.hash ++ 47 ∷ rest) (join-further up.size up.more)
    ∙ sym (append_assoc up.hash (47 ∷ up.size) more)
    ∙ ap (λ (front : List ℕ). front ++ more) (same_digest up.hash up.size name.digest up.written) in
    record {
      more = more;
      text_is = whole ∙ ap (λ (rest : List ℕ). instance_text name.instance
          ++ (codes "uploads/" ++ (name.uuid ++ (codes "/blobs/" ++ rest)))) digest;
      further = are_further up.more;
      apart = none_found divides_write name.instance at.passed refl clean.0 at.none before;
      uuid_some = up.some;
      uuid_most = up.most;
      uuid_one = clean.1.1.0;
      nameable = up.written.nameable;
    }

uuid_read : (uuid : List ℕ) → 1 ≤ length uuid → length uuid ≤ 128 → uuid_of uuid ≡ Ok uuid
uuid_read uuid some most =
    let a : nat_le 1 (length uuid) ≡ true = grind (arith, nat_tests) in
    let b : nat_le (length uuid) 128 ≡ true = grind (arith, nat_tests) in
    rw (a, b) refl

-- what follows the size adds segments behind it
record IsBehind (size more : List ℕ) : Type 0 where
  segments : List (List ℕ)
  are : segments_of (size ++ more) ≡ size ∷ segments

behind : (size more : List ℕ) → HasNoSlash size → AreFurther more → IsBehind size more
behind size [] clean f = record { segments = []; are = ap segments_of (append-nil size) ∙ segments-word size clean }
behind size (byte ∷ more) clean f =
    record {
      segments = segments_of more;
      are = ap (λ (b : ℕ). segments_of (size ++ b ∷ more)) f ∙ segments-append size more
          ∙ ap (λ (front : List (List ℕ)). front ++ segments_of more) (segments-word size clean);
    }

word-append : (word rest : List ℕ) (segments : List (List ℕ)) → HasNoSlash word → segments_of rest ≡ segments →
    segments_of (word ++ 47 ∷ rest) ≡ word ∷ segments
word-append word rest segments clean h = segments-append word rest ∙ rw (segments-word word clean, h) refl

pub write_only : (text : List ℕ) (name : WriteNameValue) → WritesWrite text name → write_name text ≡ Ok name
write_only text name w =
    let hash = hash_text name.digest in
    let size = decimal name.digest.size in
    let written = written_digest name.digest w.nameable in
    let b = behind size w.more written.size_clean w.further in
    let ends : digest_text name.digest ++ w.more ≡ hash ++ 47 ∷ (size ++ w.more) = append_assoc hash (47 ∷ size) w.more in
    let digest = word-append hash (size ++ w.more) (size ∷ b.segments) written.hash_clean b.are in
    let blobs = word-append (codes "blobs") (hash ++ 47 ∷ (size ++ w.more)) (hash ∷ size ∷ b.segments)
    (refl, (refl, (refl, (refl, (refl, tt))))) digest in
    let uuid = word-append name.uuid (codes "blobs" ++ 47 ∷ (hash ++ 47 ∷ (size ++ w.more)))
    (codes "blobs" ∷ hash ∷ size ∷ b.segments) w.uuid_one blobs in
    let after = name.uuid ∷ codes "blobs" ∷ hash ∷ size ∷ b.segments in
    let rest = name.uuid ++ 47 ∷ (codes "blobs" ++ 47 ∷ (hash ++ 47 ∷ (size ++ w.more))) in
    let uploads : segments_of (codes "uploads" ++ 47 ∷ rest) ≡ codes "uploads" ∷ after =
    word-append (codes "uploads") rest after (refl, (refl, (refl, (refl, (refl, (refl, (refl, tt))))))) uuid in
    let whole : text ≡ instance_text name.instance ++ (codes "uploads" ++ 47 ∷ rest) =
    w.text_is ∙ ap (λ (end : List ℕ). instance_text name.instance ++ (codes "uploads/" ++ (name.uuid ++ (codes "/blobs/" ++ end)))) ends in
    let segments : segments_of text ≡ instance_segments name.instance ++ codes "uploads" ∷ after =
    ap segments_of whole ∙ segments-instance name.instance (codes "uploads" ++ 47 ∷ rest)
    ∙ ap (λ (found : List (List ℕ)). instance_segments name.instance ++ found) uploads in
    let at = divided-at divides_write [] (instance_segments name.instance) (codes "uploads") after
    (none-instance divides_write name.instance w.apart) refl in
    rw (
      segments,
      at,
      joined_segments-instance name.instance,
      instance_read name.instance,
      uuid_read name.uuid w.uuid_some w.uuid_most,
      digest_read name.digest w.nameable,
    ) refl
