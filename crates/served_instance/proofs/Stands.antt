-- From what is kept in a pool to connections with its texts, and back.
use Rattle.std.proofs.Common.{◌≡◌, ℕ, List, [], map, sym, ap, subst, ◌∙◌}
use Rattle.blob_pool.specs.Slots.{Slots, text_at}
use Rattle.instance_core.specs.State.{at_moment}
use Rattle.instance_core.specs.Slots.{InstanceSlots, state_in, state_beside}
use Rattle.instance_core.specs.InstanceViewShown.{ViewValue, visible_in}
use Rattle.instance_core.specs.State.{seeing}
use Rattle.instance_core.specs.Watching.{WatchAtRest}
use Rattle.served_instance.specs.declared.open_connection.OpenConnection.{OpenConnection}
use Rattle.served_instance.specs.Connections.{open_ones}
use Rattle.served_instance.specs.Lone.{LoneInstance, lone_at_moment, lone_at_rest}
use Rattle.served_instance.specs.Lent.{LentValue, IsLent, LetsGo}
use Rattle.served_instance.specs.Ranges.{RangesEndWithin, AreTidy}
use Rattle.served_instance.specs.StandsFor.{IsServedInstance}
use Rattle.served_instance.specs.Slots.{ServedSlots, served_state_in, StandsIn}
use Rattle.served_instance.proofs.Besides.{released_beside}
use Rattle.served_instance.specs.Shown.{connection_shown}
use Rattle.served_instance.specs.Acts.{Acts, ActsIn, StandsBy, FindAlike, slots_of}
use Rattle.served_instance.proofs.Kept.{release_finds}
use Rattle.served_instance.proofs.Refuses.{came_stands}
use Rattle.served_instance.proofs.Exact.{held_by_all}
use Rattle.served_instance.proofs.Ranges.{seen_served, plain_served, served_agreed}

pub stands_by : (p : Slots) (i : InstanceSlots) (os : List OpenConnection) (l : LoneInstance) →
    RangesEndWithin (text_at p) (map connection_shown os) → IsServedInstance (served_state_in p (slots_of i os)) l →
    StandsBy (text_at p) (state_in p i) os l
stands_by p i os l fit st = record {
  state = st.state;
  connections = plain_served (text_at p) (map connection_shown os) (open_ones l.connections) fit st.connections;
}

-- an event came at a moment
pub came_by : (parent : ViewValue) (p : Slots) (i j : InstanceSlots) (os : List OpenConnection) (v : ServedSlots) (moment : ℕ)
    (l : LoneInstance) → slots_of i os ≡ v → state_in p j ≡ at_moment moment (state_in p i) → RangesEndWithin (text_at p) v.connections →
    IsServedInstance (served_state_in p v) l →
    StandsBy (text_at p) (state_beside p parent j) os (lone_at_moment moment (visible_in p parent) l)
came_by parent p i j os v moment l seen changed fit s =
    let S : ServedSlots → Type 0 = λ x. IsServedInstance (served_state_in p x) l in
    came_stands (visible_in p parent) (text_at p) moment (state_in p i) (state_in p j) os l changed
    (stands_by p i os l (subst (λ (x : ServedSlots). RangesEndWithin (text_at p) x.connections) (sym seen) fit) (subst S (sym seen) s))

-- all that has to be released was
pub served_by : (p : Slots) (v : ServedSlots) (l : LoneInstance) → WatchAtRest l.state → AreTidy v.connections →
    RangesEndWithin (text_at p) v.connections → StandsIn p v l → IsServedInstance (served_state_in p v) l
served_by p v l watched tidy fit st = record {
  state = st.state;
  connections = seen_served (text_at p) v.connections (open_ones l.connections) st.connections;
  ranges = held_by_all (text_at p) v.connections (open_ones l.connections) tidy fit st.connections;
  watched = watched;
}

-- in another pool that has the texts of the ranges
pub stands_for : (p q : Slots) (j : InstanceSlots) (ns : List OpenConnection) (l : LoneInstance) → WatchAtRest l.state →
    AreTidy (map connection_shown ns) → RangesEndWithin (text_at q) (map connection_shown ns) → FindAlike p q ns →
    StandsBy (text_at p) (state_in q j) ns l → IsServedInstance (served_state_in q (slots_of j ns)) l
stands_for p q j ns l watched tidy fit find st =
    let vs = map connection_shown ns in
    served_by q (slots_of j ns) l watched tidy fit
    (record { state = st.state; connections = served_agreed (text_at p) (text_at q) vs (open_ones l.connections) find st.connections })

-- what was done with the texts of the one pool stands in the other, where sources were released
pub released_acts : (a b : LentValue) (step : LoneInstance → LoneInstance) → IsLent a → LetsGo a b →
    Acts (state_beside b.pool a.parent a.instance) a.connections (state_beside b.pool a.parent b.instance) b.connections step → ActsIn a b step
released_acts a b step lent gone act = λ l st.
    let vs = map connection_shown a.connections in
    let ws = map connection_shown b.connections in
    let done = act (text_at a.pool) l (record {
      state = released_beside a.pool b.pool a.parent a.instance vs ws lent.kept lent.beside gone.releases ∙ st.state;
      connections = st.connections;
    }) in
    record {
      state = ap (λ (v : ViewValue). state_beside b.pool v b.instance) gone.parent ∙ done.state;
      connections = served_agreed (text_at a.pool) (text_at b.pool) ws (open_ones (step l).connections)
          (release_finds a.pool b.pool a.instance vs ws lent.kept gone.releases) done.connections;
    }

-- behind an event the parent's texts are not seen any more
pub at_rest : (parent : ViewValue) (q : Slots) (j : InstanceSlots) (ns : List OpenConnection) (l : LoneInstance) →
    StandsBy (text_at q) (state_beside q parent j) ns l → StandsBy (text_at q) (state_in q j) ns (lone_at_rest l)
at_rest parent q j ns l st = record { state = ap (seeing []) st.state; connections = st.connections }
