-- What a log says of the clock.
use Rattle.std.proofs.Common.{◌≡◌, ℕ, ◌-◌, ◌<◌, ◌≤◌, List, length, take, drop, get_or, ap, ◌∙◌, sym}
use Rattle.std.specs.Prelude.{fold}
use Rattle.runner.proofs.Lists.{first_and_rest, no_rest}
use Rattle.logs.specs.declared.logged_sockets.SocketRecord.{SocketRecord}
use Rattle.logs.specs.LoggedSockets.{events_of, record_event}
use Rattle.serve.specs.SocketEvents.{moment_after}

-- one record is read
pub one_read : (left : List SocketRecord) (o : SocketRecord) (m n t : ℕ) → 1 ≤ length left → o ≡ get_or left 0 o →
    n ≡ moment_after m (record_event o) → fold moment_after m (events_of left) ≡ t →
    fold moment_after n (events_of (take (length left - 1) (drop 1 left))) ≡ t
one_read left o m n t le first is so =
    ap (λ (k : ℕ). fold moment_after k (events_of (take (length left - 1) (drop 1 left)))) is
    ∙ sym (ap (λ (xs : List SocketRecord). fold moment_after m (events_of xs)) (first_and_rest left o le first))
    ∙ so

-- all are
pub all_read : (left : List SocketRecord) (m t : ℕ) → length left < 1 → fold moment_after m (events_of left) ≡ t → m ≡ t
all_read left m t lt so = sym (ap (λ (xs : List SocketRecord). fold moment_after m (events_of xs)) (no_rest left lt)) ∙ so
