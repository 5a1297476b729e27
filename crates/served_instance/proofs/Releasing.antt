-- Sources that are told are released, one after another.
use Rattle.std.proofs.Common.{◌≡◌, refl, sym, ap, ◌∙◌, subst, zero, suc, ◌+◌, ◌<◌, ◌≤◌, arith, get_or, take, drop, add-one}
use Rattle.std.proofs.Math.ListN.{set}
use Rattle.std.proofs.lemmas.Bool.Decides.{nat_tests}
use Rattle.std.proofs.lemmas.List.{take_all}
use Rattle.std.specs.Prelude.{ℕ, true, cond, ◌==◌, List, [], ◌∷◌, ◌++◌, map, length, position, Some}
use Rattle.blob_pool.specs.Slots.{Slots, text_at, count_at}
use Rattle.blob_pool.specs.Moves.{Moves, no_holders, one_at}
use Rattle.blob_pool.proofs.Moves.{moves_none}
use Rattle.grpc_sending.specs.declared.queue.StoredQueue.{StoredQueue}
use Rattle.grpc_sending.specs.Sources.{count_of, sources_held}
use Rattle.grpc_sending.specs.StoredSending.{SourceTexts, StoredSending, QueuesEndWithin, KeepsSources, sources_of}
use Rattle.conn_core.specs.StandsFor.{ConnectionValue, Becomes}
use Rattle.served_instance.specs.Connections.{LoneConnection}
use Rattle.served_instance.specs.declared.open_connection.OpenConnection.{OpenConnection}
use Rattle.served_instance.specs.StandsFor.{ServedConnection, AreServed}
use Rattle.served_instance.specs.Ranges.{AllKeepRanges, IsTidy, AreTidy, Releases, sources_at, range_holders}
use Rattle.served_instance.specs.Shown.{connection_shown}
use Rattle.served_instance.specs.Present.{is_numbered}
use Rattle.served_instance.proofs.Places.{IsPlace, is_place}
use Rattle.grpc_sending.proofs.Agreeing.{count_append}

-- ---- those of one connection

-- of the sources that were to be told these are left, and the others were released
pub record IsReleased (p : Slots) (old : List ℕ) (q : Slots) (left : List ℕ) : Type 0 where
  pub gone : List ℕ
  pub spent : (k : ℕ) → count_of k left + count_of k gone ≡ count_of k old
  pub moves : Moves p q (λ k. count_of k gone) no_holders

pub release_none : (p : Slots) (old : List ℕ) → IsReleased p old p old
release_none p old = record { gone = []; spent = λ k. omega arith; moves = moves_none p (λ k. count_of k []) no_holders (λ k. refl) }

-- the source that is told next is held
pub is_held : (p q : Slots) (old now new : List ℕ) (n : ℕ) → IsReleased p old q now → now ≡ new ++ n ∷ [] →
    ((k : ℕ) → count_of k old ≤ count_at p k) → 0 < count_at q n
is_held p q old now new n r e counted =
    let same : (n == n) ≡ true = grind (arith, nat_tests) in
    let one : cond {A = ℕ} (n == n) 1 0 ≡ 1 = ap (λ b. cond b 1 0) same in
    let here : count_of n now ≡ count_of n new + count_of n (n ∷ []) = ap (count_of n) e ∙ count_append n new (n ∷ []) in
    omega (arith, here, one, r.spent n, r.moves.counts n, counted n)

pub release_next : (p q r : Slots) (old now new : List ℕ) (n : ℕ) → IsReleased p old q now → now ≡ new ++ n ∷ [] →
    Moves q r (one_at n) no_holders → IsReleased p old r new
release_next p q r old now new n h e m = record {
  gone = h.gone ++ n ∷ [];
  spent = λ k.
      let here : count_of k now ≡ count_of k new + count_of k (n ∷ []) = ap (count_of k) e ∙ count_append k new (n ∷ []) in
      omega (arith, here, h.spent k, count_append k h.gone (n ∷ []));
  moves = record {
    counts = λ k. omega (arith, h.moves.counts k, m.counts k, count_append k h.gone (n ∷ []));
    texts = λ k few.
        let first : text_at q k ≡ text_at p k = h.moves.texts k (omega (arith, few, count_append k h.gone (n ∷ []))) in
        m.texts k (omega (arith, few, h.moves.counts k, count_append k h.gone (n ∷ []))) ∙ first;
  };
}

-- ---- those of all connections

pub releases_none : (p : Slots) (vs : List ServedConnection) → Releases p vs p vs
releases_none p vs = record {
  gone = [];
  sources = λ k. omega arith;
  few = λ h. h;
  fit = λ texts h. h;
  moves = moves_none p (λ k. count_of k []) no_holders (λ k. refl);
}

-- what holds the same as before releases some
pub alike_releases : (p q : Slots) (us vs ws : List ServedConnection) → AllKeepRanges us vs → Releases p vs q ws → Releases p us q ws
alike_releases p q us vs ws a b = record {
  gone = b.gone;
  sources = λ k. b.sources k ∙ a.sources k;
  few = λ h. b.few (a.few h);
  fit = λ texts h. b.fit texts (a.fit texts h);
  moves = b.moves;
}

pub releases_trans : (p q r : Slots) (us vs ws : List ServedConnection) → Releases p us q vs → Releases q vs r ws → Releases p us r ws
releases_trans p q r us vs ws a b = record {
  gone = a.gone ++ b.gone;
  sources = λ k. omega (arith, a.sources k, b.sources k, count_append k a.gone b.gone);
  few = λ h. b.few (a.few h);
  fit = λ texts h. b.fit texts (a.fit texts h);
  moves = record {
    counts = λ k. omega (arith, a.moves.counts k, b.moves.counts k, count_append k a.gone b.gone);
    texts = λ k few.
        b.moves.texts k (omega (arith, few, a.moves.counts k, count_append k a.gone b.gone))
        ∙ a.moves.texts k (omega (arith, few, count_append k a.gone b.gone));
  };
}

-- the first connection told all that it had spent
fewer_first : (v w : ServedConnection) (k : ℕ) → w.connection.sending.queues ≡ v.connection.sending.queues →
    w.connection.sending.spent ≡ [] →
    count_of k (sources_of w.connection.sending) + count_of k v.connection.sending.spent ≡ count_of k (sources_of v.connection.sending)
fewer_first v w k same none =
    let held = sources_held v.connection.sending.queues in
    let left : count_of k (sources_of w.connection.sending) ≡ count_of k (held ++ []) =
    ap (λ (qs : List StoredQueue). count_of k (sources_held qs ++ w.connection.sending.spent)) same
    ∙ ap (λ (ns : List ℕ). count_of k (held ++ ns)) none in
    omega (arith, left, count_append k held [], count_append k held v.connection.sending.spent)

releases_first : (p q : Slots) (v w : ServedConnection) (vs : List ServedConnection) →
    w.connection.sending.queues ≡ v.connection.sending.queues → w.connection.sending.spent ≡ [] →
    Moves p q (λ k. count_of k v.connection.sending.spent) no_holders → Releases p (v ∷ vs) q (w ∷ vs)
releases_first p q v w vs same none m = record {
  gone = v.connection.sending.spent;
  sources = λ k. omega (
    arith,
    fewer_first v w k same none,
    count_append k (sources_of v.connection.sending) (sources_at vs),
    count_append k
        (sources_of w.connection.sending) (sources_at vs),
  );
  few = λ f. (λ k. omega (arith, fewer_first v w k same none, f.0 k), f.1);
  fit = λ texts f. (subst (λ (qs : List StoredQueue). QueuesEndWithin texts qs) (sym same) f.0, f.1);
  moves = m;
}

releases_behind : (p q : Slots) (v : ServedConnection) (vs ws : List ServedConnection) → Releases p vs q ws → Releases p (v ∷ vs) q (v ∷ ws)
releases_behind p q v vs ws r = record {
  gone = r.gone;
  sources = λ k. omega (
    arith,
    r.sources k,
    count_append k (sources_of v.connection.sending) (sources_at vs),
    count_append k
        (sources_of v.connection.sending) (sources_at ws),
  );
  few = λ f. (f.0, r.few f.1);
  fit = λ texts f. (f.0, r.fit texts f.1);
  moves = r.moves;
}

pub releases_at : (p q : Slots) (os : List OpenConnection) (i : ℕ) (d : OpenConnection) (w : ConnectionValue) → i < length os →
    w.sending.queues ≡ (get_or os i d).connection.sending.queues → w.sending.spent ≡ [] →
    Moves p q (λ k. count_of k (get_or os i d).connection.sending.spent) no_holders →
    Releases p (map connection_shown os) q (map connection_shown
    (set os i (record { number = (get_or os i d).number; connection = w })))
releases_at p q [] i d w lt same none m = absurd (omega arith)
releases_at p q (o ∷ os) zero d w lt same none m =
    releases_first p q (connection_shown o) (connection_shown (record { number = o.number; connection = w }))
    (map connection_shown os) same none m
releases_at p q (o ∷ os) (suc i) d w lt same none m =
    releases_behind p q (connection_shown o) (map connection_shown os) _ (releases_at p q os i d w (omega arith) same none m)

-- one connection holds no more than all
pub spent_few : (os : List OpenConnection) (i : ℕ) (d : OpenConnection) (k : ℕ) → i < length os →
    count_of k (get_or os i d).connection.sending.spent ≤ range_holders (map connection_shown os) k
spent_few [] i d k lt = absurd (omega arith)
spent_few (o ∷ os) zero d k lt =
    let s = o.connection.sending in
    omega (arith, count_append k (sources_of s) (sources_at (map connection_shown os)), count_append k (sources_held s.queues) s.spent)
spent_few (o ∷ os) (suc i) d k lt =
    let ih = spent_few os i d k (omega arith) in
    omega (arith, ih, count_append k (sources_of o.connection.sending) (sources_at (map connection_shown os)))

-- ---- a connection goes

-- its sources were all spent, and then released
pub releases_removed : (c : ℕ) (p q : Slots) (os : List OpenConnection) (i : ℕ) (d : OpenConnection) (spent : List ℕ) → IsPlace c os i →
    ((k : ℕ) → count_of k spent ≡ count_of k (sources_of (get_or os i d).connection.sending)) →
    Moves p q (λ k. count_of k spent) no_holders →
    Releases p (map connection_shown os) q (map connection_shown (take i os ++ drop (suc i) os))
releases_removed c p q [] i d spent at all m = absurd at
releases_removed c p q (o ∷ os) zero d spent at all m = record {
  gone = spent;
  sources = λ k. omega (arith, all k, count_append k (sources_of o.connection.sending) (sources_at (map connection_shown os)));
  few = λ f. f.1;
  fit = λ texts f. f.1;
  moves = m;
}
releases_removed c p q (o ∷ os) (suc i) d spent at all m =
    releases_behind p q (connection_shown o) (map connection_shown os) _ (releases_removed c p q os i d spent at.1 all m)

-- what was told of a closed connection is all that it held
pub all_spent : (v w : StoredSending) (k : ℕ) → KeepsSources v w → w.queues ≡ [] → count_of k w.spent ≡ count_of k (sources_of v)
all_spent v w k keeps none = ap (λ (qs : List StoredQueue). count_of k (sources_held qs ++ w.spent)) (sym none) ∙ keeps k

sources_few : (c : ℕ) (os : List OpenConnection) (i : ℕ) (d : OpenConnection) (k : ℕ) → IsPlace c os i →
    count_of k (sources_of (get_or os i d).connection.sending) ≤ range_holders (map connection_shown os) k
sources_few c [] i d k at = absurd at
sources_few c (o ∷ os) zero d k at = omega (arith, count_append k (sources_of o.connection.sending) (sources_at (map connection_shown os)))
sources_few c (o ∷ os) (suc i) d k at = omega (
  arith,
  sources_few c os i d k at.1,
  count_append k (sources_of o.connection.sending)
      (sources_at (map connection_shown os)),
)

-- what a closed connection tells is counted
pub closed_few : (c : ℕ) (os : List OpenConnection) (i : ℕ) (o : OpenConnection) (w : StoredSending) (n k : ℕ) →
    position (is_numbered c) os ≡ Some i → o ≡ get_or os i o → KeepsSources o.connection.sending w → w.queues ≡ [] →
    range_holders (map connection_shown os) k ≤ n → count_of k w.spent ≤ n
closed_few c os i o w n k at here keeps none few =
    let own : count_of k (sources_of o.connection.sending) ≡ count_of k (sources_of (get_or os i o).connection.sending) =
    ap (λ (y : OpenConnection). count_of k (sources_of y.connection.sending)) here in
    omega (arith, all_spent o.connection.sending w k keeps none, own, sources_few c os i o k (is_place c os i at), few)

-- the connection at a place was closed and taken out
pub releases_closed : (c : ℕ) (p q : Slots) (os xs : List OpenConnection) (i : ℕ) (o : OpenConnection) (w : StoredSending) →
    position (is_numbered c) os ≡ Some i → o ≡ get_or os i o → xs ≡ take i os ++ drop (i + 1) os → KeepsSources o.connection.sending w →
    w.queues ≡ [] →
    Moves p q (λ k. count_of k w.spent) no_holders → Releases p (map connection_shown os) q (map connection_shown xs)
releases_closed c p q os xs i o w at here left keeps none m =
    let all : (k : ℕ) → count_of k w.spent ≡ count_of k (sources_of (get_or os i o).connection.sending) =
    λ k. all_spent o.connection.sending w k keeps none ∙ ap (λ (y : OpenConnection). count_of k (sources_of y.connection.sending)) here in
    let same : xs ≡ take i os ++ drop (suc i) os = left ∙ ap (λ (n : ℕ). take i os ++ drop n os) (add-one i) in
    subst (λ (ys : List OpenConnection). Releases p (map connection_shown os) q (map connection_shown ys)) (sym same)
    (releases_removed c p q os i o w.spent (is_place c os i at) all m)

-- the last of all was closed and taken out
pub last_few : (xs : List OpenConnection) (o : OpenConnection) (k : ℕ) →
    count_of k (sources_of o.connection.sending) ≤ range_holders (map connection_shown (xs ++ o ∷ [])) k
last_few [] o k = omega (arith, count_append k (sources_of o.connection.sending) [])
last_few (x ∷ xs) o k =
    let ih = last_few xs o k in
    omega (arith, ih, count_append k (sources_of x.connection.sending) (sources_at (map connection_shown (xs ++ o ∷ []))))

last_removed : (p q : Slots) (xs : List OpenConnection) (o : OpenConnection) (spent : List ℕ) →
    ((k : ℕ) → count_of k spent ≡ count_of k (sources_of o.connection.sending)) → Moves p q (λ k. count_of k spent) no_holders →
    Releases p (map connection_shown (xs ++ o ∷ [])) q (map connection_shown xs)
last_removed p q [] o spent all m = record {
  gone = spent;
  sources = λ k. omega (arith, all k, count_append k (sources_of o.connection.sending) []);
  few = λ f. tt;
  fit = λ texts f. tt;
  moves = m;
}
last_removed p q (x ∷ xs) o spent all m = releases_behind p q (connection_shown x) (map connection_shown (xs ++ o ∷ []))
    (map connection_shown xs) (last_removed p q xs o spent all m)

-- what it tells is counted
pub last_counted : (p q : Slots) (os ns xs : List OpenConnection) (o : OpenConnection) (w : StoredSending) (k : ℕ) →
    Releases p (map connection_shown os) q (map connection_shown ns) → ns ≡ xs ++ o ∷ [] → KeepsSources o.connection.sending w →
    w.queues ≡ [] →
    range_holders (map connection_shown os) k ≤ count_at p k → count_of k w.spent ≤ count_at q k
last_counted p q os ns xs o w k r is keeps none counted =
    let held : range_holders (map connection_shown ns) k ≡ range_holders (map connection_shown (xs ++ o ∷ [])) k =
    ap (λ (ys : List OpenConnection). range_holders (map connection_shown ys) k) is in
    omega (arith, held, all_spent o.connection.sending w k keeps none, last_few xs o k, r.sources k, r.moves.counts k, counted)

pub releases_last : (p q r : Slots) (os ns xs : List OpenConnection) (o : OpenConnection) (w : StoredSending) →
    Releases p (map connection_shown os) q (map connection_shown ns) → ns ≡ xs ++ o ∷ [] → KeepsSources o.connection.sending w →
    w.queues ≡ [] →
    Moves q r (λ k. count_of k w.spent) no_holders → Releases p (map connection_shown os) r (map connection_shown xs)
releases_last p q r os ns xs o w before is keeps none m =
    let now : Releases q (map connection_shown ns) r (map connection_shown xs) =
    subst (λ (ys : List OpenConnection). Releases q (map connection_shown ys) r (map connection_shown xs)) (sym is)
    (last_removed q r xs o w.spent (λ k. all_spent o.connection.sending w k keeps none) m) in
    releases_trans p q r (map connection_shown os) (map connection_shown ns) (map connection_shown xs) before now

-- ---- what the connections stand for

pub set_stands : (texts : SourceTexts) (os : List OpenConnection) (ls : List LoneConnection) (i : ℕ) (d : OpenConnection)
    (w : ConnectionValue) → i < length os → Becomes (get_or os i d).connection (λ p. p) w → AreServed texts (map connection_shown os) ls →
    AreServed texts (map connection_shown (set os i (record { number = (get_or os i d).number; connection = w }))) ls
set_stands texts [] ls i d w lt h s = absurd (omega arith)
set_stands texts (o ∷ os) [] i d w lt h s = absurd s
set_stands texts (o ∷ os) (l ∷ ls) zero d w lt h s = (s.0, h texts l.past s.1, s.2)
set_stands texts (o ∷ os) (l ∷ ls) (suc i) d w lt h s = (s.0, s.1, set_stands texts os ls i d w (omega arith) h s.2)

-- those behind which no source waits are tidy, one after another
pub tidy_more : (os : List OpenConnection) (i : ℕ) (d : OpenConnection) (w : ConnectionValue) → i < length os →
    AreTidy (map connection_shown (take i os)) → IsTidy w.sending →
    AreTidy (map connection_shown (take (suc i) (set os i (record { number = (get_or os i d).number; connection = w }))))
tidy_more [] i d w lt h tidy = absurd (omega arith)
tidy_more (o ∷ os) zero d w lt h tidy = (tidy, tt)
tidy_more (o ∷ os) (suc i) d w lt h tidy = (h.0, tidy_more os i d w (omega arith) h.1 tidy)

pub tidy_all : (os : List OpenConnection) (i : ℕ) → length os ≤ i → AreTidy (map connection_shown (take i os)) →
    AreTidy (map connection_shown os)
tidy_all os i all h = subst (λ (xs : List OpenConnection). AreTidy (map connection_shown xs)) (take_all i os all) h
