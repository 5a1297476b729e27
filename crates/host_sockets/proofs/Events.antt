-- Two proofs that two lists of events are equal are equal.
use Rattle.std.proofs.Common.{ℕ, zero, suc, List, [], refl, ◌≡◌}
use Rattle.std.specs.Coded.{Coded, code_by, coded×, coded_list, coded_ℕ}
use base.Stored.{Coded-set}
use Rattle.wires.specs.Wires.{WireEvent, came, sent, failed, shut}

abbrev told : WireEvent → ℕ × List ℕ
told (came bytes) = (0, bytes)
told (sent bytes) = (1, bytes)
told failed = (2, [])
told shut = (3, [])

abbrev meant : ℕ × List ℕ → WireEvent
meant (zero, bytes) = came bytes
meant (suc zero, bytes) = sent bytes
meant (suc (suc zero), bytes) = failed
meant (suc (suc (suc n)), bytes) = shut

code : Coded WireEvent
code = code_by (ℕ × List ℕ) (coded× coded_ℕ (coded_list coded_ℕ)) told meant same
  where
    same : (e : WireEvent) → meant (told e) ≡ e
    same (came bytes) = refl
    same (sent bytes) = refl
    same failed = refl
    same shut = refl

pub events_set : IsSet (List WireEvent)
events_set = λ x y. Coded-set (coded_list code) x y
