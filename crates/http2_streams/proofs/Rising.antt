-- Live streams stand in rising order, and what is put on one leaves the others.
use Rattle.std.proofs.Common.{◌≡◌, ℕ, ◌<◌, ◌≤◌, List, [], ◌∷◌, ◌++◌, refl, ap, ◌∙◌, sym, subst, arith, inl, inr}
use Rattle.std.specs.Prelude.{map, cond, filter, take, drop, length, Bool, true, false, not, ◌==◌, ◌&&◌, ◌||◌, pos, ◌≤ℤ◌}
use Rattle.std.specs.List.{AllByRecursion, list_any}
use Rattle.std.specs.Int.Signed.{lt_z}
use Rattle.std.proofs.lemmas.Bool.{cases_Bool}
use Rattle.std.proofs.lemmas.Int.{ints}
use Rattle.std.proofs.lemmas.List.{length-map, take_all, drop_all}
use Rattle.http2_flow.specs.Credit.{Credit, window_left}
use Rattle.http2_streams.specs.declared.stream.Side.{Side}
use Rattle.http2_streams.specs.declared.stream.Side.TheVariants.{Client, Server}
use Rattle.http2_streams.specs.declared.stream.Stream.{Stream}
use Rattle.http2_streams.specs.Standing.{Standing}
use Rattle.http2_streams.specs.Rising.{AreAbove, RiseTo}
use Rattle.http2_streams.specs.Sending.{CanSend, LeavesOthers, lacks}
use Rattle.http2_streams.proofs.Lists.{append-nil}
use Rattle.http2_streams.specs.Step.{without_stream, is_ended_by, other, with_end, streams_after_end, credit_after_put, credit_after_spending, stream_after_grant, stream_after_spending, stream_after_put, stream_after_resize, after_server_end, after_data, after_reset}

-- ---- order

above_filter : (p : Stream → Bool) (s : ℕ) (xs : List Stream) → AreAbove s xs → AreAbove s (filter p xs)
above_filter p s [] h = tt
above_filter p s (x ∷ xs) h = elim (cases_Bool (p x)) [
  | inl keeps ↦ rw keeps (h.0, above_filter p s xs h.1)
  | inr drops ↦ rw drops (above_filter p s xs h.1)
]

rise_filter : (p : Stream → Bool) (n : ℕ) (xs : List Stream) → RiseTo n xs → RiseTo n (filter p xs)
rise_filter p n [] h = tt
rise_filter p n (x ∷ xs) h = elim (cases_Bool (p x)) [
  | inl keeps ↦ rw keeps (h.0, above_filter p x.number xs h.1, rise_filter p n xs h.2)
  | inr drops ↦ rw drops (rise_filter p n xs h.2)
]

abbrev Renumbers : (Stream → Stream) → Type 0
Renumbers f = (x : Stream) → (f x).number ≡ x.number

above_map : (f : Stream → Stream) (s t : ℕ) (xs : List Stream) → Renumbers f → s ≡ t → AreAbove s xs → AreAbove t (map f xs)
above_map f s t [] same e h = tt
above_map f s t (x ∷ xs) same e h = (let a = h.0 in let b = same x in omega (arith, a, b, e), above_map f s t xs same e h.1)

rise_map : (f : Stream → Stream) (n : ℕ) (xs : List Stream) → Renumbers f → RiseTo n xs → RiseTo n (map f xs)
rise_map f n [] same h = tt
rise_map f n (x ∷ xs) same h = (
  let a = h.0 in let b = same x in
      omega (arith, a, b),
  above_map f x.number (f x).number xs same (sym (same x)) h.1,
  rise_map f n xs same h.2,
)

with_end_same : (side : Side) (s : ℕ) (x : Stream) → (with_end side s x).number ≡ x.number
with_end_same Client s x = elim (cases_Bool (x.number == s)) [ inl here ↦ rw here refl | inr there ↦ rw there refl ]
with_end_same Server s x = elim (cases_Bool (x.number == s)) [ inl here ↦ rw here refl | inr there ↦ rw there refl ]

grant_same : (s n : ℕ) (x : Stream) → (stream_after_grant s n x).number ≡ x.number
grant_same s n x = elim (cases_Bool (x.number == s)) [ inl here ↦ rw here refl | inr there ↦ rw there refl ]

pub removed_rises : (s n : ℕ) (xs ys : List Stream) → ys ≡ without_stream s xs → RiseTo n xs → RiseTo n ys
removed_rises s n xs ys is h = subst (RiseTo n) (sym is) (rise_filter (λ x. not (x.number == s)) n xs h)

pub ended_rises : (side : Side) (s n : ℕ) (xs ys : List Stream) → ys ≡ streams_after_end side s xs → RiseTo n xs → RiseTo n ys
ended_rises side s n xs ys is h =
    subst (RiseTo n) (sym is) (rise_map (with_end side s) n (filter (λ x. not (x.number == s && is_ended_by (other side) x)) xs)
    (with_end_same side s)
    (rise_filter (λ x. not (x.number == s && is_ended_by (other side) x)) n xs h))

-- the items of a vector whose slice was changed
pub written_is : (f : Stream → Stream) (len : ℕ) (xs given ys : List Stream) → len ≡ length xs → given ≡ xs → ys ≡ map f given →
    take len (ys ++ drop (length ys) xs) ≡ map f xs
written_is f len xs given ys long read is' =
    let is : ys ≡ map f xs = is' ∙ ap (map f) read in
    let same : length ys ≡ length xs = ap length is ∙ length-map xs f in
    let none : drop (length ys) xs ≡ [] = drop_all (length ys) xs (omega (arith, same)) in
    ap (λ (zs : List Stream). take len (ys ++ zs)) none ∙ ap (take len) (append-nil ys) ∙ take_all len ys (omega (arith, long, same)) ∙ is

pub written_few : (f : Stream → Stream) (len : ℕ) (xs given ys : List Stream) → len ≡ length xs → given ≡ xs → ys ≡ map f given →
    length (take len (ys ++ drop (length ys) xs)) ≡ length xs
written_few f len xs given ys long read is = ap length (written_is f len xs given ys long read is) ∙ length-map xs f

written_rises : (f : Stream → Stream) (n len : ℕ) (xs given ys : List Stream) → Renumbers f → len ≡ length xs → given ≡ xs →
    ys ≡ map f given → RiseTo n xs →
    RiseTo n (take len (ys ++ drop (length ys) xs))
written_rises f n len xs given ys same long read is h =
    subst (RiseTo n) (sym (written_is f len xs given ys long read is)) (rise_map f n xs same h)

pub granted_rises : (s m n len : ℕ) (xs given ys : List Stream) → len ≡ length xs → given ≡ xs → ys ≡ map (stream_after_grant s m) given →
    RiseTo n xs →
    RiseTo n (take len (ys ++ drop (length ys) xs))
granted_rises s m n len xs given ys = written_rises (stream_after_grant s m) n len xs given ys (grant_same s m)

pub put_rises : (s m n len : ℕ) (xs given ys : List Stream) → len ≡ length xs → given ≡ xs → ys ≡ map (stream_after_put s m) given →
    RiseTo n xs →
    RiseTo n (take len (ys ++ drop (length ys) xs))
put_rises s m n len xs given ys = written_rises (stream_after_put s m) n len xs given ys (λ x. refl)

pub resized_rises : (size n len : ℕ) (xs given ys : List Stream) → len ≡ length xs → given ≡ xs →
    ys ≡ map (stream_after_resize size) given → RiseTo n xs →
    RiseTo n (take len (ys ++ drop (length ys) xs))
resized_rises size n len xs given ys = written_rises (stream_after_resize size) n len xs given ys (λ x. refl)

-- ---- a new stream

pub rise_raised : (m n : ℕ) (xs : List Stream) → m < n → RiseTo m xs → RiseTo n xs
rise_raised m n [] lt h = tt
rise_raised m n (x ∷ xs) lt h = (let a = h.0 in omega (arith, a, lt), h.1, rise_raised m n xs lt h.2)

pub all_below : (m n : ℕ) (xs : List Stream) → m < n → RiseTo m xs → AllByRecursion (λ (x : Stream). x.number < n) xs
all_below m n [] lt h = tt
all_below m n (x ∷ xs) lt h = (let a = h.0 in omega (arith, a, lt), all_below m n xs lt h.2)

above_push : (s : ℕ) (x : Stream) (xs : List Stream) → s < x.number → AreAbove s xs → AreAbove s (xs ++ x ∷ [])
above_push s x [] lt h = (lt, tt)
above_push s x (y ∷ xs) lt h = (h.0, above_push s x xs lt h.1)

rise_push : (n : ℕ) (x : Stream) (xs : List Stream) → x.number ≡ n → AllByRecursion (λ (y : Stream). y.number < n) xs → RiseTo n xs →
    RiseTo n (xs ++ x ∷ [])
rise_push n x [] is below h = (omega (arith, is), tt, tt)
rise_push n x (y ∷ xs) is below h = (
  h.0,
  above_push y.number x xs
      (let a = below.0 in omega (arith, a, is)) h.1,
  rise_push n x xs is below.1 h.2,
)

pub opened_rises : (v w : Standing) (x : Stream) (ys : List Stream) → v ≡ w → w.highest ≡ x.number →
    AllByRecursion (λ (y : Stream). y.number < x.number) w.live → ys ≡ v.live ++ x ∷ [] → RiseTo v.highest v.live → RiseTo v.highest ys
opened_rises v w x ys same is below new h =
    let number : x.number ≡ v.highest = sym (ap (λ (y : Standing). y.highest) same ∙ is) in
    let below' : AllByRecursion (λ (y : Stream). y.number < v.highest) v.live =
    subst (λ (n : ℕ). AllByRecursion (λ (y : Stream). y.number < n) v.live) number
    (subst (λ (y : Standing). AllByRecursion (λ (z : Stream). z.number < x.number) y.live) (sym same) below) in
    subst (RiseTo v.highest) (sym new) (rise_push v.highest x v.live number below' h)

-- ---- the other streams

without_without : (s : ℕ) (xs : List Stream) → without_stream s (without_stream s xs) ≡ without_stream s xs
without_without s [] = refl
without_without s (x ∷ xs) = elim (cases_Bool (x.number == s)) [
  | inl here ↦ rw here (without_without s xs)
  | inr there ↦ rw (there, there) (ap (λ (ys : List Stream). x ∷ ys) (without_without s xs))
]

without_cons : (s : ℕ) (x : Stream) (xs : List Stream) (here : Bool) → (x.number == s) ≡ here →
    without_stream s (x ∷ xs) ≡ cond (not here) (x ∷ without_stream s xs) (without_stream s xs)
without_cons s x xs here is = rw is refl

after_end_cons : (s : ℕ) (x : Stream) (xs : List Stream) (over : Bool) → (x.number == s && x.ended_by_client) ≡ over →
    streams_after_end Server s (x ∷ xs) ≡ cond (not over) (with_end Server s x ∷ streams_after_end Server s xs)
    (streams_after_end Server s xs)
after_end_cons s x xs true is = rw is refl
after_end_cons s x xs false is = rw is refl

without_same : (s : ℕ) (x : Stream) (xs ys : List Stream) → without_stream s xs ≡ without_stream s ys →
    without_stream s (x ∷ xs) ≡ without_stream s (x ∷ ys)
without_same s x xs ys same = elim (cases_Bool (x.number == s)) [
  | inl here ↦ rw here same
  | inr there ↦ rw there (ap (λ (zs : List Stream). x ∷ zs) same)
]

unended : (s : ℕ) (x : Stream) → (x.number == s) ≡ false → with_end Server s x ≡ x
unended s x there = rw there refl

without_end : (s : ℕ) (x : Stream) (xs : List Stream) → without_stream s (with_end Server s x ∷ xs) ≡ without_stream s (x ∷ xs)
without_end s x xs = elim (cases_Bool (x.number == s)) [
  | inl here ↦ without_cons s (with_end Server s x) xs true (ap (λ n. n == s) (with_end_same Server s x) ∙ here)
      ∙ sym (without_cons s x xs true here)
  | inr there ↦ ap (λ (y : Stream). without_stream s (y ∷ xs)) (unended s x there)
]

and_left : (a b : Bool) → (a && b) ≡ true → a ≡ true
and_left true b h = refl
and_left false b h = h

without_ended : (s : ℕ) (xs : List Stream) → without_stream s (streams_after_end Server s xs) ≡ without_stream s xs
without_ended s [] = refl
without_ended s (x ∷ xs) = elim (cases_Bool (x.number == s && x.ended_by_client)) [
  | inl over ↦ ap (without_stream s) (after_end_cons s x xs true over) ∙ without_ended s xs
      ∙ sym (without_cons s x xs true (and_left (x.number == s) x.ended_by_client over))
  | inr going ↦ ap (without_stream s) (after_end_cons s x xs false going) ∙ without_end s x (streams_after_end Server s xs)
      ∙ without_same s x (streams_after_end Server s xs) xs (without_ended s xs)
]

without_put : (s n : ℕ) (xs : List Stream) → without_stream s (map (stream_after_put s n) xs) ≡ without_stream s xs
without_put s n [] = refl
without_put s n (x ∷ xs) = elim (cases_Bool (x.number == s)) [
  | inl here ↦ rw here (without_put s n xs)
  | inr there ↦ rw there (ap (λ (ys : List Stream). x ∷ ys) (without_put s n xs))
]

-- where the window is for so many bytes
put_spends : (s n : ℕ) (x : Stream) → lacks s n x ≡ false → stream_after_put s n x ≡ stream_after_spending s n x
put_spends s n x h = elim (cases_Bool (x.number == s)) [
  | inl here ↦ let some : lt_z (window_left x.window) (pos n) ≡ false = let e : (true && lt_z (window_left x.window) (pos n)) ≡ false =
      rw here at h in e in
      rw (here, some) refl
  | inr there ↦ rw there refl
]

or_left : (a b : Bool) → (a || b) ≡ false → a ≡ false
or_left true b h = h
or_left false b h = refl

or_right : (a b : Bool) → (a || b) ≡ false → b ≡ false
or_right true b h = cc
or_right false b h = h

all_spend : (s n : ℕ) (xs : List Stream) → list_any (lacks s n) xs ≡ false →
    map (stream_after_put s n) xs ≡ map (stream_after_spending s n) xs
all_spend s n [] h = refl
all_spend s n (x ∷ xs) h =
    ap (λ (y : Stream). y ∷ map (stream_after_put s n) xs) (put_spends s n x (or_left (lacks s n x) (list_any (lacks s n) xs) h))
    ∙ ap (λ (ys : List Stream). stream_after_spending s n x ∷ ys) (all_spend s n xs (or_right (lacks s n x) (list_any (lacks s n) xs) h))

-- ---- windows

credit_falls : (n : ℕ) (w : Credit) → window_left (credit_after_put n w) ≤ℤ window_left w
credit_falls n w = elim (cases_Bool (lt_z (window_left w) (pos n))) [
  | inl few ↦ rw few (omega (arith, ints))
  | inr enough ↦ rw enough (omega (arith, ints))
]

credit_spends : (n : ℕ) (w : Credit) → pos n ≤ℤ window_left w → credit_after_put n w ≡ credit_after_spending n w
credit_spends n w h =
    let enough : lt_z (window_left w) (pos n) ≡ false = grind (arith, ints) in
    rw enough refl

-- both windows are for so many bytes
pub data_spent : (v w : Standing) (s n : ℕ) (live : List Stream) (window : Credit) → CanSend v s n →
    live ≡ map (stream_after_put s n) w.live →
    window ≡ credit_after_put n w.connection_window → w ≡ v →
    record w { live = live; connection_window = window } ≡ after_data v s n
data_spent v w s n live window can lives left same =
    let can' : CanSend w s n = subst (λ (x : Standing). CanSend x s n) (sym same) can in
    let f : List Stream → Credit → Standing = λ xs c. record w { live = xs; connection_window = c } in
    ap (λ (xs : List Stream). f xs window) (lives ∙ all_spend s n w.live can'.stream)
    ∙ ap (λ (c : Credit). f (map (stream_after_spending s n) w.live) c) (left ∙ credit_spends n w.connection_window can'.connection)
    ∙ ap (λ (x : Standing). after_data x s n) same

pub end_leaves : (v w : Standing) (s : ℕ) (b : Bool) → w ≡ after_server_end v s b → LeavesOthers s v w
end_leaves v w s true is = subst (λ (x : Standing). LeavesOthers s v x) (sym is)
    (record { live = without_ended s v.live; connection = omega (arith, ints) })
end_leaves v w s false is = subst (λ (x : Standing). LeavesOthers s v x) (sym is) (record { live = refl; connection = omega (arith, ints) })

pub reset_leaves : (v w : Standing) (s : ℕ) → w ≡ after_reset v s → LeavesOthers s v w
reset_leaves v w s is = subst (λ (x : Standing). LeavesOthers s v x) (sym is)
    (record { live = without_without s v.live; connection = omega (arith, ints) })

-- bytes that are put, and then the end
pub put_leaves : (old v w : Standing) (s n : ℕ) (b : Bool) (live : List Stream) (window : Credit) →
    live ≡ map (stream_after_put s n) v.live →
    window ≡ credit_after_put n v.connection_window → v ≡ old →
    w ≡ after_server_end (record v { live = live; connection_window = window }) s b →
    LeavesOthers s old w
put_leaves old v w s n b live window lives left same is =
    let e = end_leaves (record v { live = live; connection_window = window }) w s b is in
    let less : window_left window ≤ℤ window_left v.connection_window =
    subst (λ (c : Credit). window_left c ≤ℤ window_left v.connection_window) (sym left)
    (credit_falls n v.connection_window) in
    subst (λ (y : Standing). LeavesOthers s y w) same
    (record {
      live = e.live ∙ ap (without_stream s) lives ∙ without_put s n v.live;
      connection =
          (let a = e.connection in omega (arith, ints, a, less));
    })
