-- The connection at a place takes a step, through a slice of all connections.
use Rattle.std.proofs.Common.{◌≡◌, ◌∙◌, ℕ, List, length}
use Rattle.std.specs.Prelude.{None}
use Rattle.conn_core.specs.StandsFor.{ConnectionValue}
use Rattle.served_instance.specs.declared.open_connection.OpenConnection.{OpenConnection}
use Rattle.served_instance.specs.Acts.{BecomesAt, present_at}
use Rattle.served_instance.specs.Cuts.{StepsAt}
use Rattle.served_instance.specs.Lent.{LentValue, IsKept}
use Rattle.served_instance.specs.Present.{IsPlaceOf}
use Rattle.served_instance.specs.Turns.{GoesApart}
use Rattle.served_instance.proofs.Lends.{stepped, through, went_step, went_trans, with_connections, written}
use Rattle.served_instance.proofs.Places.{place_there}

pub went_through : (c place n : ℕ) (d : LentValue) (xs ns : List OpenConnection) → xs ≡ d.connections → n ≡ length d.connections →
    length ns ≡ length xs → StepsAt place xs ns → IsPlaceOf c place d.connections → IsKept d →
    GoesApart c d (with_connections d (written n d.connections ns))
went_through c place n d xs ns seen whole same steps at kept =
    went_step c place d (written n d.connections ns) (stepped place n d.connections xs ns seen whole same steps) at kept

-- what went on from a came to d, and by this step to f
pub record HasStepped (c : ℕ) (Step : ConnectionValue → ConnectionValue → Type 0) (a d f : LentValue) : Type 0 where
  pub there : present_at c d.connections ≡ None → ⊥
  pub went : GoesApart c a f
  pub becomes : BecomesAt c d.connections f.connections Step

pub stepped_through : (c place n : ℕ) (Step : ConnectionValue → ConnectionValue → Type 0) (a d : LentValue) (xs ns : List OpenConnection) →
    xs ≡ d.connections → n ≡ length d.connections → length ns ≡ length xs → StepsAt place xs ns →
    (IsPlaceOf c place xs → BecomesAt c xs ns Step) → GoesApart c a d → IsPlaceOf c place a.connections →
    HasStepped c Step a d (with_connections d (written n d.connections ns))
stepped_through c place n Step a d xs ns seen whole same steps becomes went at =
    let os = d.connections in
    let here : IsPlaceOf c place os = went.apart.places c ∙ at in
    record {
      there = place_there c place os here;
      went = went_trans c a d (with_connections d (written n os ns)) went
          (went_through c place n d xs ns seen whole same steps here went.goes.kept);
      becomes = through (λ ys zs. IsPlaceOf c place ys → BecomesAt c ys zs Step) n os xs ns seen whole same becomes here;
    }
