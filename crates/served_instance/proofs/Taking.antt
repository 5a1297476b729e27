-- Connections take the ranges of replies, and those that none takes are released.
use Rattle.std.proofs.Common.{◌≡◌, refl, sym, ap, ◌∙◌, subst, zero, suc, ◌+◌, ◌≤◌, arith, get_or}
use Rattle.std.proofs.Math.ListN.{set}
use Rattle.std.specs.Prelude.{ℕ, false, List, [], ◌∷◌, map, length, position, Some, Result, Ok, Err, OnOk}
use Rattle.std.specs.Result.{is_err}
use Rattle.std.specs.List.{AllByRecursion}
use Rattle.blob_pool.specs.Slots.{Slots, count_at}
use Rattle.blob_pool.specs.Moves.{Holders, Moves, no_holders, one_at}
use Rattle.blob_pool.proofs.Moves.{moves_none}
use Rattle.grpc_sending.specs.Sources.{count_of}
use Rattle.grpc_sending.specs.StoredSending.{SourceTexts, HasFewSources, HoldsMore, KeepsFitWith, sources_of}
use Rattle.conn_core.specs.StandsFor.{ConnectionValue}
use Rattle.instance_core.specs.declared.event.Reply.{Reply}
use Rattle.instance_core.specs.declared.event.ReplyItem.{ReplyItem}
use Rattle.instance_core.specs.ReplyHolders.{item_holders, items_holders, replies_holders}
use Rattle.served_instance.specs.declared.open_connection.OpenConnection.{OpenConnection}
use Rattle.served_instance.specs.StandsFor.{ServedConnection}
use Rattle.served_instance.specs.Ranges.{KeepsRanges, sources_at}
use Rattle.served_instance.specs.OwedReplies.{CanBeOwed, ReplyCanBeOwed, ItemEndsWithin, ItemsEndWithin, ReplyEndsWithin, RepliesEndWithin, TakesRanges, AllTakeRanges}
use Rattle.served_instance.specs.Shown.{connection_shown}
use Rattle.served_instance.specs.Present.{is_numbered}
use Rattle.served_instance.proofs.Places.{IsPlace, is_place}
use Rattle.grpc_sending.proofs.Agreeing.{count_append}

-- ---- some are released, and then others

pub moves_both : (p q r : Slots) (a b : Holders) → Moves p q a no_holders → Moves q r b no_holders → Moves p r (λ k. a k + b k) no_holders
moves_both p q r a b m n = record {
  counts = λ k. omega (arith, m.counts k, n.counts k);
  texts = λ k few. n.texts k (omega (arith, few, m.counts k)) ∙ m.texts k (omega (arith, few));
}

-- what is left is held
pub items_left : (p q : Slots) (items rest : List ReplyItem) (item : ReplyItem) → items ≡ item ∷ rest →
    ((k : ℕ) → items_holders items k ≤ count_at p k) → ((k : ℕ) → count_at p k ≤ count_at q k + item_holders item k) →
    (k : ℕ) → items_holders rest k ≤ count_at q k
items_left p q items rest item is held less = λ k.
    let same : items_holders items k ≡ item_holders item k + items_holders rest k = ap (λ (xs : List ReplyItem). items_holders xs k) is in
    omega (arith, same, held k, less k)

pub replies_left : (p q : Slots) (rs rest : List Reply) (x : Reply) → rs ≡ x ∷ rest → ((k : ℕ) → replies_holders rs k ≤ count_at p k) →
    ((k : ℕ) → count_at p k ≤ count_at q k + items_holders x.items.items k) →
    (k : ℕ) → replies_holders rest k ≤ count_at q k
replies_left p q rs rest x is held less = λ k.
    let same : replies_holders rs k ≡ items_holders x.items.items k + replies_holders rest k =
    ap (λ (xs : List Reply). replies_holders xs k) is in
    omega (arith, same, held k, less k)

-- those of the first are held
pub item_held : (p : Slots) (items rest : List ReplyItem) (item : ReplyItem) → items ≡ item ∷ rest →
    ((k : ℕ) → items_holders items k ≤ count_at p k) → (k : ℕ) → item_holders item k ≤ count_at p k
item_held p items rest item is held = λ k.
    let same : items_holders items k ≡ item_holders item k + items_holders rest k = ap (λ (xs : List ReplyItem). items_holders xs k) is in
    omega (arith, same, held k)

pub reply_held : (p : Slots) (rs rest : List Reply) (x : Reply) → rs ≡ x ∷ rest → ((k : ℕ) → replies_holders rs k ≤ count_at p k) →
    (k : ℕ) → items_holders x.items.items k ≤ count_at p k
reply_held p rs rest x is held = λ k.
    let same : replies_holders rs k ≡ items_holders x.items.items k + replies_holders rest k =
    ap (λ (xs : List Reply). replies_holders xs k) is in
    omega (arith, same, held k)

pub items_owed : (items rest : List ReplyItem) (item : ReplyItem) → items ≡ item ∷ rest → AllByRecursion CanBeOwed items →
    CanBeOwed item × AllByRecursion CanBeOwed rest
items_owed items rest item is h = subst (λ (xs : List ReplyItem). AllByRecursion CanBeOwed xs) is h

pub replies_owed : (rs rest : List Reply) (x : Reply) → rs ≡ x ∷ rest → AllByRecursion ReplyCanBeOwed rs →
    ReplyCanBeOwed x × AllByRecursion ReplyCanBeOwed rest
replies_owed rs rest x is h = subst (λ (xs : List Reply). AllByRecursion ReplyCanBeOwed xs) is h

-- ---- one connection

pub takes_none : (given : Holders) (IsGood : SourceTexts → Type 0) (p : Slots) (v w : ConnectionValue) → ((k : ℕ) → given k ≡ 0) →
    KeepsRanges v w → TakesRanges given IsGood p v p w
takes_none given IsGood p v w none keeps = record {
  gone = no_holders;
  fewer = λ k. omega arith;
  sources = λ k. omega (arith, keeps.sources k, none k);
  few = λ f k. omega (arith, keeps.sources k, f k);
  fit = λ texts good h. keeps.fit texts h;
  moves = moves_none p no_holders no_holders (λ k. refl);
}

-- none is taken
pub takes_released : (given : Holders) (IsGood : SourceTexts → Type 0) (p q : Slots) (v w : ConnectionValue) → w ≡ v →
    Moves p q given no_holders → TakesRanges given IsGood p v q w
takes_released given IsGood p q v w same m = subst (λ (x : ConnectionValue). TakesRanges given IsGood p v q x) (sym same) (record {
  gone = given;
  fewer = λ k. omega arith;
  sources = λ k. refl;
  few = λ f. f;
  fit = λ texts good h. h;
  moves = m;
})

pub takes_range : (n until : ℕ) (p : Slots) (v w : ConnectionValue) → HoldsMore n v.sending w.sending → HasFewSources w.sending →
    KeepsFitWith n until v.sending w.sending → TakesRanges (one_at n) (λ texts. until ≤ length (texts n)) p v p w
takes_range n until p v w more few fit = record {
  gone = no_holders;
  fewer = λ k. omega arith;
  sources = λ k.
      let e : count_of k (n ∷ sources_of v.sending) ≡ one_at n k + count_of k (sources_of v.sending) = refl in
      omega (arith, more k, e);
  few = λ f. few;
  fit = fit;
  moves = moves_none p no_holders no_holders (λ k. refl);
}

takes_both : (g h : Holders) (IsGood IsFine : SourceTexts → Type 0) (p q r : Slots) (u v w : ConnectionValue) →
    TakesRanges g IsGood p u q v → TakesRanges h IsFine q v r w →
    TakesRanges (λ k. g k + h k) (λ texts. IsGood texts × IsFine texts) p u r w
takes_both g h IsGood IsFine p q r u v w a b = record {
  gone = λ k. a.gone k + b.gone k;
  fewer = λ k. omega (arith, a.fewer k, b.fewer k);
  sources = λ k. omega (arith, a.sources k, b.sources k);
  few = λ f. b.few (a.few f);
  fit = λ texts good f. b.fit texts good.1 (a.fit texts good.0 f);
  moves = moves_both p q r a.gone b.gone a.moves b.moves;
}

-- an item is taken, and then those behind it
pub takes_more : (items rest : List ReplyItem) (item : ReplyItem) (p q r : Slots) (u v w : ConnectionValue) → items ≡ item ∷ rest →
    TakesRanges (item_holders item) (ItemEndsWithin item) p u q v →
    TakesRanges (items_holders rest) (ItemsEndWithin rest) q v r w → TakesRanges (items_holders items) (ItemsEndWithin items) p u r w
takes_more items rest item p q r u v w is a b =
    subst (λ (xs : List ReplyItem). TakesRanges (items_holders xs) (ItemsEndWithin xs) p u r w) (sym is)
    (takes_both (item_holders item) (items_holders rest) (ItemEndsWithin item) (ItemsEndWithin rest) p q r u v w a b)

pub takes_end : (items : List ReplyItem) (p : Slots) (v : ConnectionValue) → items ≡ [] →
    TakesRanges (items_holders items) (ItemsEndWithin items) p v p v
takes_end items p v is = subst (λ (xs : List ReplyItem). TakesRanges (items_holders xs) (ItemsEndWithin xs) p v p v) (sym is)
    (takes_none (items_holders []) (ItemsEndWithin []) p v v (λ k. refl) (record { sources = λ k. refl; fit = λ texts h. h }))

-- ---- all connections

pub take_none : (given : Holders) (IsGood : SourceTexts → Type 0) (p : Slots) (vs : List ServedConnection) → ((k : ℕ) → given k ≡ 0) →
    AllTakeRanges given IsGood p vs p vs
take_none given IsGood p vs none = record {
  gone = no_holders;
  fewer = λ k. omega arith;
  sources = λ k. omega (arith, none k);
  few = λ f. f;
  fit = λ texts good h. h;
  moves = moves_none p no_holders no_holders (λ k. refl);
}

pub take_released : (given : Holders) (IsGood : SourceTexts → Type 0) (p q : Slots) (vs : List ServedConnection) →
    Moves p q given no_holders → AllTakeRanges given IsGood p vs q vs
take_released given IsGood p q vs m = record {
  gone = given;
  fewer = λ k. omega arith;
  sources = λ k. refl;
  few = λ f. f;
  fit = λ texts good h. h;
  moves = m;
}

take_both : (g h : Holders) (IsGood IsFine : SourceTexts → Type 0) (p q r : Slots) (us vs ws : List ServedConnection) →
    AllTakeRanges g IsGood p us q vs → AllTakeRanges h IsFine q vs r ws →
    AllTakeRanges (λ k. g k + h k) (λ texts. IsGood texts × IsFine texts) p us r ws
take_both g h IsGood IsFine p q r us vs ws a b = record {
  gone = λ k. a.gone k + b.gone k;
  fewer = λ k. omega (arith, a.fewer k, b.fewer k);
  sources = λ k. omega (arith, a.sources k, b.sources k);
  few = λ f. b.few (a.few f);
  fit = λ texts good f. b.fit texts good.1 (a.fit texts good.0 f);
  moves = moves_both p q r a.gone b.gone a.moves b.moves;
}

pub take_more : (rs rest : List Reply) (x : Reply) (p q r : Slots) (us vs ws : List ServedConnection) → rs ≡ x ∷ rest →
    AllTakeRanges (items_holders x.items.items) (ReplyEndsWithin x) p us q vs →
    AllTakeRanges (replies_holders rest) (RepliesEndWithin rest) q vs r ws →
    AllTakeRanges (replies_holders rs) (RepliesEndWithin rs) p us r ws
take_more rs rest x p q r us vs ws is a b =
    subst (λ (xs : List Reply). AllTakeRanges (replies_holders xs) (RepliesEndWithin xs) p us r ws) (sym is)
    (take_both (items_holders x.items.items) (replies_holders rest) (ReplyEndsWithin x) (RepliesEndWithin rest) p q r us vs ws a b)

pub take_end : (rs : List Reply) (p : Slots) (vs : List ServedConnection) → rs ≡ [] →
    AllTakeRanges (replies_holders rs) (RepliesEndWithin rs) p vs p vs
take_end rs p vs is = subst (λ (xs : List Reply). AllTakeRanges (replies_holders xs) (RepliesEndWithin xs) p vs p vs) (sym is)
    (take_none (replies_holders []) (RepliesEndWithin []) p vs (λ k. refl))

-- ---- one connection among others

take_first : (given : Holders) (IsGood : SourceTexts → Type 0) (p q : Slots) (v w : ServedConnection) (vs : List ServedConnection) →
    TakesRanges given IsGood p v.connection q w.connection → AllTakeRanges given IsGood p (v ∷ vs) q (w ∷ vs)
take_first given IsGood p q v w vs t = record {
  gone = t.gone;
  fewer = t.fewer;
  sources = λ k. omega (
    arith,
    t.sources k,
    count_append k (sources_of v.connection.sending) (sources_at vs),
    count_append k
        (sources_of w.connection.sending) (sources_at vs),
  );
  few = λ f. (t.few f.0, f.1);
  fit = λ texts good f. (t.fit texts good f.0, f.1);
  moves = t.moves;
}

take_behind : (given : Holders) (IsGood : SourceTexts → Type 0) (p q : Slots) (v : ServedConnection) (vs ws : List ServedConnection) →
    AllTakeRanges given IsGood p vs q ws → AllTakeRanges given IsGood p (v ∷ vs) q (v ∷ ws)
take_behind given IsGood p q v vs ws t = record {
  gone = t.gone;
  fewer = t.fewer;
  sources = λ k. omega (
    arith,
    t.sources k,
    count_append k (sources_of v.connection.sending) (sources_at vs),
    count_append k
        (sources_of v.connection.sending) (sources_at ws),
  );
  few = λ f. (f.0, t.few f.1);
  fit = λ texts good f. (f.0, t.fit texts good f.1);
  moves = t.moves;
}

take_place : (given : Holders) (IsGood : SourceTexts → Type 0) (p q : Slots) (c : ℕ) (os : List OpenConnection) (i : ℕ) (d : OpenConnection)
    (w : ConnectionValue) → IsPlace c os i → TakesRanges given IsGood p (get_or os i d).connection q w →
    AllTakeRanges given IsGood p (map connection_shown os) q
    (map connection_shown (set os i (record { number = (get_or os i d).number; connection = w })))
take_place given IsGood p q c [] i d w at t = absurd at
take_place given IsGood p q c (o ∷ os) zero d w at t =
    take_first given IsGood p q (connection_shown o) (connection_shown (record { number = o.number; connection = w }))
    (map connection_shown os) t
take_place given IsGood p q c (o ∷ os) (suc i) d w at t =
    take_behind given IsGood p q (connection_shown o) (map connection_shown os) _ (take_place given IsGood p q c os i d w at.1 t)

-- the connection of number c takes them
pub take_at : (given : Holders) (IsGood : SourceTexts → Type 0) (p q : Slots) (c : ℕ) (os : List OpenConnection) (i : ℕ)
    (d : OpenConnection) (w : ConnectionValue) → position (is_numbered c) os ≡ Some i →
    TakesRanges given IsGood p (get_or os i d).connection q w →
    AllTakeRanges given IsGood p (map connection_shown os) q
    (map connection_shown (set os i (record { number = (get_or os i d).number; connection = w })))
take_at given IsGood p q c os i d w at t = take_place given IsGood p q c os i d w (is_place c os i at) t

-- ---- by a result

pub range_taken : {T E : Type 0} (r : Result T E) (n m until : ℕ) (p : Slots) (v w : ConnectionValue) → n ≡ m → is_err r ≡ false →
    OnOk r (HoldsMore n v.sending w.sending) → OnOk r (HasFewSources w.sending) → KeepsFitWith n until v.sending w.sending →
    TakesRanges (one_at m) (λ texts. until ≤ length (texts m)) p v p w
range_taken (Ok x) n m until p v w same ok more few fit =
    subst (λ (k : ℕ). TakesRanges (one_at k) (λ texts. until ≤ length (texts k)) p v p w) same (takes_range n until p v w more few fit)
range_taken (Err e) n m until p v w same ok more few fit = cc
