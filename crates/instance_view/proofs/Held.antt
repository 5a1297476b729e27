-- What becomes of entries and of the texts that they find when the pool changes.
use Rattle.std.proofs.Common.{◌≡◌, ℕ, suc, ◌+◌, ◌-◌, ◌<◌, ◌≤◌, ◌^◌, List, [], ◌∷◌, ◌++◌, length, refl, sym, ap, ◌∙◌, arith}
use Rattle.std.specs.Prelude.{false, is_err, OnOk, Result, Ok, Err}
use Rattle.std.proofs.lemmas.Bool.Decides.{nat_tests}
use Rattle.digest.specs.declared.Digest.{Digest}
use Rattle.blob_pool.specs.Slots.{Slots, text_at, count_at}
use Rattle.blob_pool.specs.Moves.{Moves, AreHeld, HasRoom, one_at, no_holders}
use Rattle.instance_view.specs.Visible.{Blob, without_oldest}
use Rattle.instance_view.specs.Shown.{ViewEntry, blob_in, blobs_in, entry_holders}
use Rattle.instance_view.proofs.Entries.{holders-push}

one_at-own : (k : ℕ) → one_at k k ≡ 1
one_at-own k = grind (arith, nat_tests)

one_at-small : (h k : ℕ) → one_at h k ≤ 1
one_at-small h k = grind (arith, nat_tests)

pub holders-few : (v : List ViewEntry) (k : ℕ) → entry_holders v k ≤ length v
holders-few [] k = omega arith
holders-few (e ∷ v) k = let ih = holders-few v k in let one = one_at-small e.1 k in omega (arith, ih, one)

-- what is blobs_in is told by the texts of the slots that are held
pub shown_same : (p q : Slots) (v : List ViewEntry) → ((k : ℕ) → 0 < entry_holders v k → text_at q k ≡ text_at p k) →
    blobs_in q v ≡ blobs_in p v
shown_same p q [] h = refl
shown_same p q (e ∷ v) h =
    let own : 0 < entry_holders (e ∷ v) e.1 = let one = one_at-own e.1 in omega (arith, one) in
    let first : blob_in q e ≡ blob_in p e = ap (λ (t : List ℕ). (e.0, t)) (h e.1 own) in
    let later : blobs_in q v ≡ blobs_in p v = shown_same p q v (λ k more. h k (omega (arith, more))) in
    cc

-- others' doings change nothing of what is blobs_in
pub shown_apart : (p q : Slots) (v : List ViewEntry) (h i : ℕ → ℕ) → Moves p q h i → ((k : ℕ) → h k + entry_holders v k ≤ count_at p k) →
    blobs_in q v ≡ blobs_in p v
shown_apart p q v h i m apart = shown_same p q v (λ k held. m.texts k (omega (arith, apart k)))

map-append : (p : Slots) (v w : List ViewEntry) → blobs_in p (v ++ w) ≡ blobs_in p v ++ blobs_in p w
map-append p [] w = refl
map-append p (e ∷ v) w = ap (λ (bs : List Blob). blob_in p e ∷ bs) (map-append p v w)

without_push : (bs : List Blob) (b : Blob) → without_oldest (bs ++ b ∷ []) ≡ bs
without_push [] b = refl
without_push (x ∷ []) b = refl
without_push (x ∷ y ∷ bs) b =
    let count : length (x ∷ y ∷ bs ++ b ∷ []) - 1 ≡ suc (length (y ∷ bs ++ b ∷ []) - 1) = omega arith in
    rw count (ap (λ (cs : List Blob). x ∷ cs) (without_push (y ∷ bs) b))

-- ---- an entry goes

pub dropped_held : (p : Slots) (old new : List ViewEntry) (e : ViewEntry) → AreHeld p (entry_holders old) → old ≡ new ++ e ∷ [] →
    0 < count_at p e.1
dropped_held p old new e held is =
    let there = held.counted e.1 in
    let push : entry_holders old e.1 ≡ entry_holders new e.1 + one_at e.1 e.1 =
    ap (λ (v : List ViewEntry). entry_holders v e.1) is ∙ holders-push new e e.1 in
    let own = one_at-own e.1 in
    omega (arith, there, push, own)

pub dropped_moves : (p q : Slots) (old new : List ViewEntry) (e : ViewEntry) → old ≡ new ++ e ∷ [] → Moves p q (one_at e.1) no_holders →
    Moves p q (entry_holders old) (entry_holders new)
dropped_moves p q old new e is m =
    let push : (k : ℕ) → entry_holders old k ≡ entry_holders new k + one_at e.1 k =
    λ k. ap (λ (v : List ViewEntry). entry_holders v k) is ∙ holders-push new e k in
    record {
      counts = λ k. omega (arith, m.counts k, push k);
      texts = λ k held. m.texts k (omega (arith, push k));
    }

pub dropped_shown : (p q : Slots) (old new : List ViewEntry) (e : ViewEntry) → AreHeld p (entry_holders old) → old ≡ new ++ e ∷ [] →
    Moves p q (one_at e.1) no_holders → blobs_in q new ≡ without_oldest (blobs_in p old)
dropped_shown p q old new e held is m =
    let push : (k : ℕ) → entry_holders old k ≡ entry_holders new k + one_at e.1 k =
    λ k. ap (λ (v : List ViewEntry). entry_holders v k) is ∙ holders-push new e k in
    let same = shown_apart p q new (one_at e.1) no_holders m (λ k. omega (arith, held.counted k, push k)) in
    same ∙ sym (ap (λ (v : List ViewEntry). without_oldest (blobs_in p v)) is ∙ ap without_oldest (map-append p new (e ∷ []))
    ∙ without_push (blobs_in p new) (blob_in p e))

-- ---- an entry comes

pub room_for_one : (p : Slots) (v : List ViewEntry) → AreHeld p (entry_holders v) → length v ≤ 2 ^ 31 → HasRoom p
room_for_one p v held few = λ k. let most = holders-few v k in omega (arith, held.others k, most)

pub added_shown : (p q : Slots) (v w : List ViewEntry) (d : Digest) (k : ℕ) (t : List ℕ) → AreHeld p (entry_holders v) → w ≡ (d, k) ∷ v →
    text_at q k ≡ t → Moves p q no_holders (one_at k) → blobs_in q w ≡ (d, t) ∷ blobs_in p v
added_shown p q v w d k t held is text m =
    let same = shown_apart p q v no_holders (one_at k) m (λ j. omega (arith, held.counted j)) in
    ap (blobs_in q) is
    ∙ ap (λ (x : List ℕ). (d, x) ∷ blobs_in q v) text
    ∙ ap (λ (bs : List Blob). (d, t) ∷ bs) same

pub on_ok : {T E : Type 0} (r : Result T E) {P : Type 0} → is_err r ≡ false → OnOk r P → P
on_ok (Ok x) fine p = p
on_ok (Err e) fine p = absurd (cc)
