-- What goes on from one part of the code to the next.
use Rattle.std.proofs.Common.{◌≡◌, ◌≤◌, ◌++◌, ℕ, List, length, map, take, drop, refl, sym, ap, ◌∙◌, subst, arith}
use Rattle.std.proofs.lemmas.List.{length-map}
use Rattle.blob_pool.specs.Slots.{Slots, count_at}
use Rattle.blob_pool.proofs.Moves.{moves_none, moves_trans}
use Rattle.instance_core.specs.Slots.{state_in}
use Rattle.instance_core.specs.InstanceViewShown.{ViewValue}
use Rattle.served_instance.specs.declared.open_connection.OpenConnection.{OpenConnection}
use Rattle.served_instance.specs.declared.broken.Broken.{Broken}
use Rattle.served_instance.specs.declared.broken.Broken.TheVariants.{All, AllAndJob}
use Rattle.served_instance.specs.Acts.{FindAlike}
use Rattle.served_instance.specs.Cuts.{KeepsApart, LosesBroken, StepsAt, others_by, others_of, state_without}
use Rattle.served_instance.specs.Lent.{LentValue, GoesOn, IsKept, IsLent, LetsGo, lent_slots}
use Rattle.served_instance.specs.Present.{IsPlaceOf}
use Rattle.served_instance.specs.Ranges.{range_holders}
use Rattle.served_instance.specs.Short.{without_job}
use Rattle.served_instance.specs.Shown.{connection_shown}
use Rattle.served_instance.specs.Slots.{holders_of, IsServedBeside}
use Rattle.served_instance.specs.Turns.{GoesApart}
use Rattle.served_instance.proofs.Besides.{moved_beside}
use Rattle.served_instance.proofs.Closes.{written_back}
use Rattle.served_instance.proofs.Cut.{finds_here, finds_trans}
use Rattle.served_instance.proofs.Kept.{alike_keeps, alike_moves, few_connections, instance_after, release_finds, release_keeps, same_state}

-- a slice of all of a vector became ns, and the vector is this
abbrev pub written : ℕ → List OpenConnection → List OpenConnection → List OpenConnection
written n os ns = take n (ns ++ drop (length ns) os)

-- os were seen through a slice as xs, which became ns
pub through : (P : List OpenConnection → List OpenConnection → Type 0) (n : ℕ) (os xs ns : List OpenConnection) → xs ≡ os →
    n ≡ length os → length ns ≡ length xs → P xs ns → P os (written n os ns)
through P n os xs ns seen whole same h =
    let back = written_back n ns os (same ∙ ap length seen) whole in
    subst (λ (zs : List OpenConnection). P os zs) (sym back) (subst (λ (ys : List OpenConnection). P ys ns) seen h)

-- ---- one after another

pub goes_here : (a : LentValue) → IsKept a → GoesOn a a
goes_here a kept =
    let held = holders_of (lent_slots a) in
    record { parent = refl; moves = moves_none a.pool held held (λ k. refl); kept = kept }

pub goes_trans : (a b d : LentValue) → GoesOn a b → GoesOn b d → GoesOn a d
goes_trans a b d x y = record {
  parent = y.parent ∙ x.parent;
  moves = moves_trans a.pool b.pool d.pool (holders_of (lent_slots a)) (holders_of (lent_slots b))
      (holders_of (lent_slots d)) x.moves y.moves;
  kept = y.kept;
}

pub still_lent : (a b : LentValue) → IsLent a → GoesOn a b → IsLent b
still_lent a b h g = record {
  kept = g.kept;
  beside = subst (λ (v : ViewValue). IsServedBeside b.pool v (lent_slots b)) (sym g.parent)
      (moved_beside a.pool b.pool a.parent (lent_slots a) (lent_slots b) g.moves h.beside);
}

apart_here : (c : ℕ) (a : LentValue) → KeepsApart c a a
apart_here c a = record { others = refl; finds = finds_here a.pool (others_of c a.connections); places = λ k. refl }

pub apart_trans : (c : ℕ) (a b d : LentValue) → KeepsApart c a b → KeepsApart c b d → KeepsApart c a d
apart_trans c a b d x y = record {
  others = y.others ∙ x.others;
  finds = finds_trans a.pool b.pool d.pool (others_of c a.connections) (others_of c b.connections) x.others x.finds y.finds;
  places = λ n. y.places n ∙ x.places n;
}

-- ---- a step of one connection

abbrev pub with_connections : LentValue → List OpenConnection → LentValue
with_connections a ns = record a { connections = ns }

-- .. of all of them in a slice
pub record IsStepped (place : ℕ) (os ns : List OpenConnection) : Type 0 where
  pub steps : StepsAt place os ns
  pub count : length ns ≡ length os

pub stepped : (place n : ℕ) (os xs ns : List OpenConnection) → xs ≡ os → n ≡ length os → length ns ≡ length xs → StepsAt place xs ns →
    IsStepped place os (written n os ns)
stepped place n os xs ns seen whole same h =
    through (λ ys zs. IsStepped place ys zs) n os xs ns seen whole same (record { steps = h; count = same })

pub goes_step : (place : ℕ) (a : LentValue) (ns : List OpenConnection) → IsStepped place a.connections ns → IsKept a → GoesOn a (with_connections a ns)
goes_step place a ns h kept =
    let vs = map connection_shown a.connections in
    let ws = map connection_shown ns in
    record {
      parent = refl;
      moves = alike_moves a.pool a.instance vs ws h.steps.holds;
      kept = alike_keeps a.pool a.instance vs ws kept h.steps.holds
          (omega (
            arith,
            h.count,
            few_connections a.pool (lent_slots a) kept,
            length-map a.connections connection_shown,
            length-map ns connection_shown,
          ));
    }

apart_step : (c place : ℕ) (a : LentValue) (ns : List OpenConnection) → IsStepped place a.connections ns → IsPlaceOf c place a.connections →
    KeepsApart c a (with_connections a ns)
apart_step c place a ns h at = record {
  others = h.steps.others c at;
  finds = finds_here a.pool (others_of c a.connections);
  places = h.steps.places;
}

-- ---- what happens on a connection

pub went_here : (c : ℕ) (a : LentValue) → IsKept a → GoesApart c a a
went_here c a kept = record { apart = apart_here c a; goes = goes_here a kept }

pub went_step : (c place : ℕ) (a : LentValue) (ns : List OpenConnection) → IsStepped place a.connections ns →
    IsPlaceOf c place a.connections → IsKept a → GoesApart c a (with_connections a ns)
went_step c place a ns h at kept = record { apart = apart_step c place a ns h at; goes = goes_step place a ns h kept }

pub went_trans : (c : ℕ) (a b d : LentValue) → GoesApart c a b → GoesApart c b d → GoesApart c a d
went_trans c a b d x y = record { apart = apart_trans c a b d x.apart y.apart; goes = goes_trans a b d x.goes y.goes }

-- ---- connections are gone

pub ranges_counted : (a : LentValue) → IsKept a → (k : ℕ) → range_holders (map connection_shown a.connections) k ≤ count_at a.pool k
ranges_counted a kept k = omega (arith, kept.counted k)

pub gone_goes : (a b : LentValue) → LetsGo a b → length b.connections ≤ length a.connections → IsKept a → GoesOn a b
gone_goes a b g fewer kept =
    let vs = map connection_shown a.connections in
    let ws = map connection_shown b.connections in
    record {
      parent = g.parent;
      moves = record {
        counts = λ n. omega (arith, g.releases.moves.counts n, g.releases.sources n, g.holders n);
        texts = λ n few. g.releases.moves.texts n (omega (arith, few, g.releases.sources n));
      };
      kept = release_keeps a.pool b.pool a.instance b.instance vs ws kept g.releases g.holders
          (g.kept b.pool (instance_after a.pool b.pool a.instance vs ws kept g.releases))
          (omega (
            arith,
            fewer,
            few_connections a.pool (lent_slots a) kept,
            length-map a.connections connection_shown,
            length-map b.connections connection_shown,
          ));
    }

pub gone_lost : (broken : Broken) (a b : LentValue) → LetsGo a b → length b.connections ≤ length a.connections →
    b.connections ≡ others_by broken a.connections →
    ((p : Slots) → state_in p b.instance ≡ state_without broken (state_in p a.instance)) → IsKept a → LosesBroken broken a b
gone_lost broken a b g fewer left forgotten kept =
    let vs = map connection_shown a.connections in
    let ws = map connection_shown b.connections in
    record {
      left = left;
      forgotten = forgotten b.pool ∙ ap (state_without broken) (same_state a.pool b.pool a.instance vs ws kept g.releases);
      finds = release_finds a.pool b.pool a.instance vs ws kept g.releases;
      goes = gone_goes a b g fewer kept;
    }

-- and then the job is, too
pub job_lost : (n : ℕ) (a b d : LentValue) → LosesBroken All a b → d.connections ≡ b.connections →
    state_in d.pool d.instance ≡ without_job n (state_in b.pool b.instance) → GoesOn b d → LosesBroken (AllAndJob n) a d
job_lost n a b d lost same gone goes = record {
  left = same ∙ lost.left;
  forgotten = gone ∙ ap (without_job n) lost.forgotten;
  finds = subst (λ (xs : List OpenConnection). FindAlike a.pool d.pool xs) (sym (same ∙ lost.left))
      (λ k some. absurd (omega (arith, some)));
  goes = goes_trans a b d lost.goes goes;
}
