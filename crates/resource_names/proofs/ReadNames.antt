-- Names of blobs for a Read.
use Rattle.std.proofs.Common.{◌≡◌, ℕ, ◌||◌, Bool, true, false, cond, List, [], ◌∷◌, ◌++◌, Ok, Err, refl, sym, ap, subst, ◌∙◌}
use Rattle.std.specs.Prelude.{codes}
use Rattle.std.specs.Fmt.{decimal}
use Rattle.std.specs.List.{AllByRecursion}
use Rattle.numerals.proofs.Steps.{bind_ok}
use Rattle.digest.specs.declared.Digest.{Digest}
use Rattle.digest.specs.Text.{hash_text}
use Rattle.resource_names.specs.declared.name.NameError.TheVariants.{Form, Compressed}
use Rattle.resource_names.specs.Names.{ReadNameValue, or_fault, is_blobs, is_compressed, divides_read, compression_check, instance_of, digest_alone, read_name}
use Rattle.resource_names.specs.Segments.{segments_of, joined_segments, division_of}
use Rattle.resource_names.specs.Written.{WritesRead, HasNoSlash, instance_text}
use Rattle.resource_names.proofs.Divisions.{segments-word, segments-append, segments-clean, clean-front, divided-found, divided-at, instance_segments, segments-instance, none-instance, instance_before, joined_segments-instance}
use Rattle.resource_names.proofs.Digests.{IsDigestText, same_digest, digest_found, digest_read, written_digest}
use Rattle.resource_names.proofs.Names.{was_some, is_blobs-found, instance_found, instance_read, same_segments, text_divided, none_found}

-- a segment that may divide, and is not `compressed-blobs`
blobs_segment : (segment : List ℕ) (u : Unit {0}) → divides_read segment ≡ true → compression_check segment ≡ Ok u → segment ≡ codes "blobs"
blobs_segment segment u test ok = go (is_blobs segment) (is_compressed segment) refl refl test ok where
  go : (a b : Bool) → is_blobs segment ≡ a → is_compressed segment ≡ b → (a || b) ≡ true → cond b (Err Compressed) (Ok tt) ≡ Ok u →
      segment ≡ codes "blobs"
  go true b blobs other test ok = is_blobs-found segment blobs
  go false true blobs other test ok = cc
  go false false blobs other test ok = cc

record IsAlone (segments : List (List ℕ)) (d : Digest) : Type 0 where
  hash : List ℕ
  size : List ℕ
  are : segments ≡ hash ∷ size ∷ []
  written : IsDigestText hash size d

alone_found : (segments : List (List ℕ)) (d : Digest) → digest_alone segments ≡ Ok d → IsAlone segments d
alone_found [] d h = cc
alone_found (hash ∷ []) d h = cc
alone_found (hash ∷ size ∷ []) d h = record { hash = hash; size = size; are = refl; written = digest_found hash size d h }
alone_found (hash ∷ size ∷ segment ∷ segments) d h = cc

pub read_found : (text : List ℕ) (name : ReadNameValue) → read_name text ≡ Ok name → WritesRead text name
read_found text name h =
    let d = bind_ok (or_fault Form (division_of divides_read (segments_of text))) _ name h in
    let u = bind_ok (compression_check d.0.segment) _ name d.2 in
    let i = bind_ok (instance_of d.0.before) _ name u.2 in
    let g = bind_ok (digest_alone d.0.after) _ name i.2 in
    let same : record { instance = i.0; digest = g.0 } ≡ name = cc in
    let at = divided-found divides_read [] (segments_of text) d.0 (was_some Form _ d.0 d.1) in
    let blobs = blobs_segment d.0.segment u.0 at.test u.1 in
    let alone = alone_found d.0.after g.0 g.1 in
    let before : instance_before i.0 ≡ joined_segments at.passed = sym (instance_found d.0.before i.0 i.1) ∙ at.before_is in
    let are : segments_of text ≡ at.passed ++ codes "blobs" ∷ alone.hash ∷ alone.size ∷ [] =
    at.segments_are ∙ same_segments at.passed _ _ _ _ blobs alone.are in
    let clean = clean-front at.passed (d.0.segment ∷ d.0.after) (subst (AllByRecursion HasNoSlash) at.segments_are (segments-clean text)) in
    let whole : text ≡ instance_text i.0 ++ (codes "blobs" ++ 47 ∷ (alone.hash ++ 47 ∷ alone.size)) =
    text_divided text i.0 at.passed (codes "blobs") alone.hash (alone.size ∷ []) are before in
    let digest = same_digest alone.hash alone.size g.0 alone.written in
    subst (WritesRead text) same (record {
      text_is = whole ∙ ap (λ (rest : List ℕ). instance_text i.0 ++ (codes "blobs/" ++ rest)) digest;
      apart = none_found divides_read i.0 at.passed refl clean.0 at.none before;
      nameable = alone.written.nameable;
    })

pub read_only : (text : List ℕ) (name : ReadNameValue) → WritesRead text name → read_name text ≡ Ok name
read_only text name w =
    let hash = hash_text name.digest in
    let size = decimal name.digest.size in
    let written = written_digest name.digest w.nameable in
    let words : segments_of (codes "blobs" ++ 47 ∷ (hash ++ 47 ∷ size)) ≡ codes "blobs" ∷ hash ∷ size ∷ [] =
    segments-append (codes "blobs") (hash ++ 47 ∷ size)
    ∙ ap (λ (segments : List (List ℕ)). codes "blobs" ∷ segments)
    (segments-append hash size ∙ rw (segments-word hash written.hash_clean, segments-word size written.size_clean) refl) in
    let segments : segments_of text ≡ instance_segments name.instance ++ codes "blobs" ∷ hash ∷ size ∷ [] =
    ap segments_of w.text_is ∙ segments-instance name.instance (codes "blobs" ++ 47 ∷ (hash ++ 47 ∷ size))
    ∙ ap (λ (rest : List (List ℕ)). instance_segments name.instance ++ rest) words in
    let at = divided-at divides_read [] (instance_segments name.instance) (codes "blobs") (hash ∷ size ∷ [])
    (none-instance divides_read name.instance w.apart) refl in
    rw (segments, at, joined_segments-instance name.instance, instance_read name.instance, digest_read name.digest w.nameable) refl
