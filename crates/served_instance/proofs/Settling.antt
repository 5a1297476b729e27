-- What was made ready is carried out: replies are owed, and then steps are taken.
use Rattle.std.proofs.Common.{◌≡◌, ◌≤◌, ℕ, List, map, length, refl, sym, ◌∙◌, arith}
use Rattle.std.specs.List.{AllByRecursion}
use Rattle.std.specs.Prelude.{Result}
use Rattle.std.proofs.lemmas.List.{length-map}
use Rattle.blob_pool.specs.Slots.{Slots, text_at, count_at}
use Rattle.blob_pool.specs.Moves.{Moves, no_holders}
use Rattle.grpc_sending.specs.StoredSending.{AgreeOn}
use Rattle.instance_core.specs.declared.event.Reply.{Reply}
use Rattle.instance_core.specs.declared.turns.Turn.{Turn}
use Rattle.instance_core.specs.Apart.{AreRepliesTo}
use Rattle.instance_core.specs.ReplyHolders.{replies_holders}
use Rattle.instance_core.specs.Replies.{IsShortReply}
use Rattle.instance_core.specs.Shown.{reply_shown}
use Rattle.instance_core.specs.Slots.{InstanceSlots, state_in, holders_of_instance}
use Rattle.instance_core.specs.State.{IsInstanceWithin}
use Rattle.served_instance.specs.declared.open_connection.OpenConnection.{OpenConnection}
use Rattle.served_instance.specs.Acts.{FindAlike, slots_of}
use Rattle.served_instance.specs.Cuts.{KeepsOthers}
use Rattle.served_instance.specs.Lent.{LentValue, IsKept}
use Rattle.served_instance.specs.OwedReplies.{RepliesEndWithin, AllTakeRanges}
use Rattle.served_instance.specs.Present.{StayInPlace}
use Rattle.served_instance.specs.Ranges.{range_holders, seen_with, sources_at}
use Rattle.served_instance.specs.Shown.{connection_shown}
use Rattle.served_instance.specs.Slots.{holders_of, IsServedInPool}
use Rattle.served_instance.specs.StandsFor.{ServedConnection}
use Rattle.served_instance.specs.Turns.{TakesTurn}
use Rattle.served_instance.proofs.Cut.{others_agree}
use Rattle.served_instance.proofs.Gives.{HaveGiven}
use Rattle.served_instance.proofs.Happens.{replies_end}
use Rattle.served_instance.proofs.Kept.{few_connections, own_same}
use Rattle.served_instance.proofs.Lends.{through, written}
use Rattle.served_instance.proofs.Ranges.{fit_agreed_each}

-- replies were owed, or for want of memory some of them, and they hold nothing
pub record AreOwed (p q : Slots) (i : InstanceSlots) (os ns : List OpenConnection) (rs : List Reply) : Type 0 where
  pub kept : IsServedInPool p (slots_of i os)
  pub given : (k : ℕ) → replies_holders rs k ≡ 0
  pub short : (t : Slots) → AllByRecursion IsShortReply (map (reply_shown t) rs)
  pub takes : AllTakeRanges (replies_holders rs) (RepliesEndWithin rs) p (map connection_shown os) q (map connection_shown ns)
  pub count : length ns ≡ length os

-- .. through a slice of all connections
pub record HaveOwed (rs : List Reply) (a : LentValue) (q : Slots) (ns : List OpenConnection) : Type 0 where
  pub owed : AreOwed a.pool q a.instance a.connections ns rs
  pub others : (c : ℕ) → AreRepliesTo c rs → KeepsOthers c a.connections ns
  pub places : StayInPlace a.connections ns

pub owed_through : {T E : Type 0} (r : Result T E) (rs : List Reply) (a : LentValue) (q : Slots) (n : ℕ) (xs ns : List OpenConnection) →
    xs ≡ a.connections → n ≡ length a.connections → length ns ≡ length xs → HaveGiven r rs a.pool q xs ns → IsKept a →
    ((k : ℕ) → replies_holders rs k ≡ 0) → ((p : Slots) → AllByRecursion IsShortReply (map (reply_shown p) rs)) →
    HaveOwed rs a q (written n a.connections ns)
owed_through r rs a q n xs ns seen whole same gave kept given short =
    let done = through (λ ys zs. HaveGiven r rs a.pool q ys zs) n a.connections xs ns seen whole same gave in
    record {
      owed = record { kept = kept; given = given; short = short; takes = done.takes; count = done.count };
      others = done.others;
      places = done.places;
    }

none_gone : (p q : Slots) (i : InstanceSlots) (os ns : List OpenConnection) (rs : List Reply) (o : AreOwed p q i os ns rs) (k : ℕ) →
    o.takes.gone k ≡ 0
none_gone p q i os ns rs o k = omega (arith, o.takes.fewer k, o.given k)

pub owed_state : (p q : Slots) (i : InstanceSlots) (os ns : List OpenConnection) (rs : List Reply) → AreOwed p q i os ns rs →
    state_in q i ≡ state_in p i
owed_state p q i os ns rs o =
    own_same p q i o.takes.gone no_holders (λ k. omega (arith, none_gone p q i os ns rs o k, o.kept.counted k)) o.takes.moves

pub owed_counted : (p q : Slots) (i : InstanceSlots) (os ns : List OpenConnection) (rs : List Reply) → AreOwed p q i os ns rs → (k : ℕ) →
    holders_of_instance i k ≤ count_at q k
owed_counted p q i os ns rs o k =
    omega (arith, none_gone p q i os ns rs o k, o.takes.moves.counts k, o.kept.counted k)

-- ---- and then the instance took steps

turned_finds : (p q r : Slots) (i j : InstanceSlots) (os ns : List OpenConnection) (rs : List Reply) → AreOwed p q i os ns rs →
    Moves q r (holders_of_instance i) (holders_of_instance j) →
    (xs : List ServedConnection) → ((k : ℕ) → range_holders xs k ≤ range_holders (map connection_shown os) k) →
    AgreeOn (sources_at xs) (text_at p) (text_at r)
turned_finds p q r i j os ns rs o m xs fewer k some =
    let none = none_gone p q i os ns rs o k in
    let first : text_at q k ≡ text_at p k = o.takes.moves.texts k (omega (arith, some, fewer k, none, o.kept.counted k)) in
    let more : text_at r k ≡ text_at q k = m.texts k (omega (arith, some, fewer k, o.takes.moves.counts k, o.kept.counted k)) in
    sym (more ∙ first)

pub turned_old : (p q r : Slots) (i j : InstanceSlots) (os ns : List OpenConnection) (rs : List Reply) → AreOwed p q i os ns rs →
    Moves q r (holders_of_instance i) (holders_of_instance j) → FindAlike p r os
turned_old p q r i j os ns rs o m = turned_finds p q r i j os ns rs o m (map connection_shown os) (λ k. omega arith)

pub turned_new : (p q r : Slots) (i j : InstanceSlots) (os ns : List OpenConnection) (rs : List Reply) → AreOwed p q i os ns rs →
    Moves q r (holders_of_instance i) (holders_of_instance j) → FindAlike p r ns
turned_new p q r i j os ns rs o m =
    turned_finds p q r i j os ns rs o m (map connection_shown ns) (λ k. omega (arith, o.takes.sources k, o.given k))

pub turned_moves : (p q r : Slots) (i j : InstanceSlots) (os ns : List OpenConnection) (rs : List Reply) → AreOwed p q i os ns rs →
    Moves q r (holders_of_instance i) (holders_of_instance j) →
    Moves p r (holders_of (slots_of i os)) (holders_of (slots_of j ns))
turned_moves p q r i j os ns rs o m = record {
  counts = λ k. omega (arith, none_gone p q i os ns rs o k, o.given k, o.takes.sources k, o.takes.moves.counts k, m.counts k);
  texts = λ k few.
      let none = none_gone p q i os ns rs o k in
      m.texts k (omega (arith, few, o.takes.moves.counts k)) ∙ o.takes.moves.texts k (omega (arith, few, none));
}

pub turned_kept : (p q r : Slots) (i j : InstanceSlots) (os ns : List OpenConnection) (rs : List Reply) → AreOwed p q i os ns rs →
    Moves q r (holders_of_instance i) (holders_of_instance j) →
    IsInstanceWithin (state_in r j) → IsServedInPool r (slots_of j ns)
turned_kept p q r i j os ns rs o m within =
    let moves = turned_moves p q r i j os ns rs o m in
    let ws = map connection_shown ns in
    record {
      counted = λ k. omega (arith, moves.counts k, o.kept.counted k);
      others = λ k. omega (arith, moves.counts k, o.kept.others k);
      within = record {
        instance = within;
        connections = omega (
          arith,
          o.count,
          few_connections p
              (slots_of i os) o.kept,
          length-map os connection_shown,
          length-map ns connection_shown,
          length-map ws (seen_with (text_at r)),
        );
      };
      fit = fit_agreed_each (text_at p) (text_at r) ws (turned_new p q r i j os ns rs o m)
          (o.takes.fit (text_at p) (replies_end p rs (o.short p)) o.kept.fit);
      few = o.takes.few o.kept.few;
    }

-- all that is said of it together
pub turn_taken : (turn : Turn) (a : LentValue) (q r : Slots) (j : InstanceSlots) (ns : List OpenConnection) →
    AreOwed a.pool q a.instance a.connections ns turn.replies.items →
    ((c : ℕ) → AreRepliesTo c turn.replies.items → KeepsOthers c a.connections ns) → StayInPlace a.connections ns →
    Moves q r (holders_of_instance a.instance) (holders_of_instance j) →
    TakesTurn turn a (record { parent = a.parent; pool = r; instance = j; connections = ns })
turn_taken turn a q r j ns o others places m =
    let p = a.pool in
    let i = a.instance in
    let os = a.connections in
    let rs = turn.replies.items in
    record {
      apart = λ c to. record {
        others = others c to;
        finds = others_agree c (text_at p) (text_at r) os (turned_old p q r i j os ns rs o m);
        places = places;
      };
      finds = turned_old p q r i j os ns rs o m;
      texts = turned_new p q r i j os ns rs o m;
      parent = refl;
      moves = turned_moves p q r i j os ns rs o m;
      kept = λ within. turned_kept p q r i j os ns rs o m within;
    }
