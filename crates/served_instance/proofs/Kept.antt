-- What the pool counts of an instance with its connections.
use Rattle.std.proofs.Common.{◌≡◌, ◌*◌, ◌+◌, ◌≤◌, ◌^◌, ℕ, List, length, refl, sym, subst, arith}
use Rattle.std.proofs.lemmas.List.{length-map}
use Rattle.blob_pool.specs.Slots.{Slots, text_at, count_at}
use Rattle.blob_pool.specs.Moves.{Moves, Holders, no_holders}
use Rattle.blob_pool.proofs.Moves.{moves_none}
use Rattle.grpc_sending.specs.StoredSending.{AgreeOn}
use Rattle.instance_core.specs.Slots.{InstanceSlots, state_in, holders_of_instance, IsInstanceInPool}
use Rattle.instance_core.specs.State.{IsInstanceWithin}
use Rattle.instance_core.specs.InstanceViewShown.{visible_in}
use Rattle.execution.specs.InPool.{jobs_in}
use Rattle.execution.proofs.Calling.{jobs_same, view_same}
use Rattle.served_instance.specs.StandsFor.{ServedConnection}
use Rattle.served_instance.specs.Slots.{ServedSlots, holders_of, IsServedInPool}
use Rattle.served_instance.specs.Ranges.{AllKeepRanges, Releases, sources_at, range_holders, seen_with}
use Rattle.served_instance.proofs.Ranges.{fit_agreed_each, ranges_few}

abbrev pub slots_at : InstanceSlots → List ServedConnection → ServedSlots
slots_at i vs = record { instance = i; connections = vs }

pub few_connections : (p : Slots) (v : ServedSlots) → IsServedInPool p v → length v.connections ≤ 64
few_connections p v kept = omega (arith, kept.within.connections, length-map v.connections (seen_with (text_at p)))

few_ranges : (p : Slots) (v : ServedSlots) (k : ℕ) → IsServedInPool p v → range_holders v.connections k ≤ 64 * 2 ^ 64
few_ranges p v k kept = ranges_few 64 v.connections k (few_connections p v kept) kept.few

-- its instance is counted
pub instance_kept : (p : Slots) (v w : ServedSlots) → w ≡ v → IsServedInPool p v → IsInstanceInPool p w.instance
instance_kept p v w same kept =
    let k : IsServedInPool p w = subst (λ (x : ServedSlots). IsServedInPool p x) (sym same) kept in
    record {
      counted = λ n. omega (arith, k.counted n);
      others = λ n. omega (arith, k.others n, few_ranges p w n k);
      within = k.within.instance;
    }

-- it finds its own texts where those of others come and go
pub own_same : (p q : Slots) (i : InstanceSlots) (h g : Holders) → ((k : ℕ) → h k + holders_of_instance i k ≤ count_at p k) →
    Moves p q h g → state_in q i ≡ state_in p i
own_same p q i h g held m =
    let texts : visible_in q i.view ≡ visible_in p i.view = view_same p q i.view h g (λ k. omega (arith, held k)) m in
    let jobs : jobs_in q i.jobs ≡ jobs_in p i.jobs = jobs_same p q i.jobs h g (λ k. omega (arith, held k)) m in
    rw (texts, jobs) refl

-- ---- sources of ranges are released

pub release_finds : (p q : Slots) (i : InstanceSlots) (vs ws : List ServedConnection) → IsServedInPool p (slots_at i vs) →
    Releases p vs q ws → AgreeOn (sources_at ws) (text_at p) (text_at q)
release_finds p q i vs ws kept r k some = sym (r.moves.texts k (omega (arith, some, r.sources k, kept.counted k)))

pub same_state : (p q : Slots) (i : InstanceSlots) (vs ws : List ServedConnection) → IsServedInPool p (slots_at i vs) → Releases p vs q ws →
    state_in q i ≡ state_in p i
same_state p q i vs ws kept r = own_same p q i _ no_holders (λ k. omega (arith, r.sources k, kept.counted k)) r.moves

pub instance_after : (p q : Slots) (i : InstanceSlots) (vs ws : List ServedConnection) → IsServedInPool p (slots_at i vs) →
    Releases p vs q ws → IsInstanceInPool q i
instance_after p q i vs ws kept r = record {
  counted = λ k. omega (arith, r.moves.counts k, r.sources k, kept.counted k);
  others = λ k. omega (arith, r.moves.counts k, r.sources k, kept.others k, few_ranges p (slots_at i vs) k kept);
  within = subst IsInstanceWithin (sym (same_state p q i vs ws kept r)) kept.within.instance;
}

pub release_keeps : (p q : Slots) (i j : InstanceSlots) (vs ws : List ServedConnection) → IsServedInPool p (slots_at i vs) →
    Releases p vs q ws → ((k : ℕ) → holders_of_instance j k ≡ holders_of_instance i k) → IsInstanceInPool q j → length ws ≤ 64 →
    IsServedInPool q (slots_at j ws)
release_keeps p q i j vs ws kept r same new few = record {
  counted = λ k. omega (arith, r.moves.counts k, r.sources k, same k, kept.counted k);
  others = λ k. omega (arith, r.moves.counts k, r.sources k, same k, kept.others k);
  within = record { instance = new.within; connections = omega (arith, few, length-map ws (seen_with (text_at q))) };
  fit = fit_agreed_each (text_at p) (text_at q) ws (release_finds p q i vs ws kept r) (r.fit (text_at p) kept.fit);
  few = r.few kept.few;
}

-- the connections alone are others, which hold the same
pub alike_keeps : (p : Slots) (i : InstanceSlots) (vs ws : List ServedConnection) → IsServedInPool p (slots_at i vs) → AllKeepRanges vs ws →
    length ws ≤ 64 → IsServedInPool p (slots_at i ws)
alike_keeps p i vs ws kept alike few = record {
  counted = λ k. omega (arith, alike.sources k, kept.counted k);
  others = λ k. omega (arith, alike.sources k, kept.others k);
  within = record { instance = kept.within.instance; connections = omega (arith, few, length-map ws (seen_with (text_at p))) };
  fit = alike.fit (text_at p) kept.fit;
  few = alike.few kept.few;
}

pub alike_moves : (p : Slots) (i : InstanceSlots) (vs ws : List ServedConnection) → AllKeepRanges vs ws →
    Moves p p (holders_of (slots_at i vs)) (holders_of (slots_at i ws))
alike_moves p i vs ws alike = moves_none p (holders_of (slots_at i vs)) (holders_of (slots_at i ws)) (λ k. omega (arith, alike.sources k))

-- the instance's moment is another, or its calls
pub moment_keeps : (p : Slots) (i j : InstanceSlots) (vs : List ServedConnection) → IsServedInPool p (slots_at i vs) →
    ((k : ℕ) → holders_of_instance j k ≡ holders_of_instance i k) → IsInstanceInPool p j → IsServedInPool p (slots_at j vs)
moment_keeps p i j vs kept same new = record {
  counted = λ k. omega (arith, same k, kept.counted k);
  others = λ k. omega (arith, same k, kept.others k);
  within = record { instance = new.within; connections = kept.within.connections };
  fit = kept.fit;
  few = kept.few;
}
