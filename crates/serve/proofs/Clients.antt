-- What is known of a client, as more happens.
use Rattle.std.proofs.Common.{◌≡◌, ℕ, ◌+◌, List, [], ◌∷◌, ◌++◌, length, refl, ap, ◌∙◌, sym, arith}
use Rattle.std.specs.Prelude.{◌==◌, ◌||◌, min, fold, Bool, true, false, cond}
use Rattle.std.specs.List.{AllByRecursion}
use Rattle.std.proofs.lemmas.Bool.{eq-eqb, true≢false}
use Rattle.std.proofs.lemmas.List.Sums.{fold-append}
use Rattle.serve.specs.declared.open_socket.OpenSocket.{OpenSocket}
use Rattle.serve.specs.declared.sockets.Socket.{Socket}
use Rattle.serve.specs.SocketEvents.{SocketEvent, clock, port, failed, accepted, read, written, shut, moment_after, moment_of}
use Rattle.serve.specs.Closings.{Client, client_in, client_on, nobody, own_from, own_past}
use Rattle.serve.specs.KeepsOpen.{IsKept, client_at, is_taken, sockets_of}
use Rattle.serve.specs.KeepsServing.{most_counted}

-- ---- one more that happened

picked : {A : Type 0} (b : Bool) (y : A) (all front back : List A) → all ≡ front ++ back →
    cond b (y ∷ all) all ≡ cond b (y ∷ front) front ++ back
picked {A} true y all front back is = ap (λ (xs : List A). y ∷ xs) is
picked {A} false y all front back is = is

pub own_more : (i m : ℕ) (h : List SocketEvent) (x : SocketEvent) →
    own_from i m (h ++ x ∷ []) ≡ own_from i m h ++ own_from i (fold moment_after m h) (x ∷ [])
own_more i m [] x = refl
own_more i m (clock n ∷ h) x = own_more i n h x
own_more i m (port j p ∷ h) x =
    picked (j == i) (m, port j p) (own_from i m (h ++ x ∷ [])) (own_from i m h) (own_from i (fold moment_after m h) (x ∷ []))
    (own_more i m h x)
own_more i m (failed j c ∷ h) x =
    picked (j == i) (m, failed j c) (own_from i m (h ++ x ∷ [])) (own_from i m h) (own_from i (fold moment_after m h) (x ∷ []))
    (own_more i m h x)

-- what it makes of what is known of the client at a socket
abbrev then_on : Socket → ℕ → SocketEvent → Client → Client
then_on at m x k = fold (client_on at.connection) k (own_from at.instance m (x ∷ []))

client_more : (at : Socket) (h : List SocketEvent) (x : SocketEvent) →
    client_at at (h ++ x ∷ []) ≡ then_on at (moment_of h) x (client_at at h)
client_more at h x =
    ap (λ (past : List (ℕ × SocketEvent)). client_in past at.connection) (own_more at.instance 0 h x)
    ∙ fold-append (client_on at.connection) nobody (own_past at.instance h) (own_from at.instance (moment_of h) (x ∷ []))

-- ---- what leaves what is kept of a client as it is

pub record Leaves (x : SocketEvent) (at : Socket) : Type 0 where
  pub heard : (m : ℕ) (k : Client) → (then_on at m x k).heard ≡ k.heard
  pub received : (m : ℕ) (k : Client) → (then_on at m x k).received ≡ k.received

folded : (b : Bool) (c : ℕ) (k : Client) (y : ℕ × SocketEvent) → fold (client_on c) k (cond b (y ∷ []) []) ≡ cond b (client_on c k y) k
folded true c k y = refl
folded false c k y = refl

same_of : (b : Bool) (r k : Client) → r ≡ k → cond b r k ≡ k
same_of true r k is = is
same_of false r k is = refl

off : {A : Type 0} (b : Bool) (x y : A) → b ≡ false → cond b x y ≡ y
off {A} b x y is = ap (λ (t : Bool). cond t x y) is

on : {A : Type 0} (b : Bool) (x y : A) → b ≡ true → cond b x y ≡ x
on {A} b x y is = ap (λ (t : Bool). cond t x y) is

leaves_by : (x : SocketEvent) (at : Socket) → ((m : ℕ) (k : Client) → then_on at m x k ≡ k) → Leaves x at
leaves_by x at same = record {
  heard = λ m k. ap (λ (c : Client). c.heard) (same m k);
  received = λ m k. ap (λ (c : Client). c.received) (same m k);
}

pub clock_leaves : (n : ℕ) (at : Socket) → Leaves (clock n) at
clock_leaves n at = leaves_by (clock n) at (λ m k. refl)

pub written_leaves : (j d : ℕ) (bytes : List ℕ) (at : Socket) → Leaves (port j (written d bytes)) at
written_leaves j d bytes at =
    leaves_by (port j (written d bytes)) at (λ m k. folded (j == at.instance) at.connection k (m, port j (written d bytes))
    ∙ same_of (j == at.instance) k k refl)

pub shut_leaves : (j d : ℕ) (at : Socket) → Leaves (port j (shut d)) at
shut_leaves j d at =
    leaves_by (port j (shut d)) at (λ m k. folded (j == at.instance) at.connection k (m, port j (shut d))
    ∙ same_of (j == at.instance) k k refl)

gone_heard : (a b : Bool) (k : Client) → (cond a (cond b (record k { is_gone = true }) k) k).heard ≡ k.heard
gone_heard true true k = refl
gone_heard true false k = refl
gone_heard false b k = refl

gone_received : (a b : Bool) (k : Client) → (cond a (cond b (record k { is_gone = true }) k) k).received ≡ k.received
gone_received true true k = refl
gone_received true false k = refl
gone_received false b k = refl

pub failed_leaves : (j d : ℕ) (at : Socket) → Leaves (failed j d) at
failed_leaves j d at = record {
  heard = λ m k. ap (λ (c : Client). c.heard) (folded (j == at.instance) at.connection k (m, failed j d))
      ∙ gone_heard (j == at.instance) (at.connection == d) k;
  received = λ m k. ap (λ (c : Client). c.received) (folded (j == at.instance) at.connection k (m, failed j d))
      ∙ gone_received (j == at.instance) (at.connection == d) k;
}

-- of a client of another number
pub read_leaves : (j d : ℕ) (bytes : List ℕ) (at : Socket) → (at.connection == d) ≡ false → Leaves (port j (read d bytes)) at
read_leaves j d bytes at other =
    leaves_by (port j (read d bytes)) at (λ m k.
    folded (j == at.instance) at.connection k (m, port j (read d bytes))
    ∙ same_of (j == at.instance) (client_on at.connection k (m, port j (read d bytes))) k
    (off (at.connection == d) (record { heard = m; received = k.received + length bytes; is_gone = length bytes == 0 }) k other))

pub accepted_leaves : (j d : ℕ) (at : Socket) → (at.connection == d) ≡ false → Leaves (port j (accepted d)) at
accepted_leaves j d at other =
    leaves_by (port j (accepted d)) at (λ m k.
    folded (j == at.instance) at.connection k (m, port j (accepted d))
    ∙ same_of (j == at.instance) (client_on at.connection k (m, port j (accepted d))) k
    (off (at.connection == d) (record { heard = m; received = 0; is_gone = false }) k other))

-- ---- of the client at a socket

here : (at : Socket) (h : List SocketEvent) (x : SocketEvent) (y : ℕ × SocketEvent) →
    own_from at.instance (moment_of h) (x ∷ []) ≡ cond (at.instance == at.instance) (y ∷ []) [] →
    client_at at (h ++ x ∷ []) ≡ client_on at.connection (client_at at h) y
here at h x y own =
    client_more at h x ∙ ap (fold (client_on at.connection) (client_at at h)) own
    ∙ folded (at.instance == at.instance) at.connection (client_at at h) y
    ∙ on (at.instance == at.instance) (client_on at.connection (client_at at h) y) (client_at at h) (eq-eqb at.instance at.instance refl)

pub read_here : (at : Socket) (h : List SocketEvent) (bytes : List ℕ) →
    client_at at (h ++ port at.instance (read at.connection bytes) ∷ [])
    ≡ record { heard = moment_of h; received = (client_at at h).received + length bytes; is_gone = length bytes == 0 }
read_here at h bytes =
    here at h (port at.instance (read at.connection bytes)) (moment_of h, port at.instance (read at.connection bytes)) refl
    ∙ on (at.connection == at.connection) (record
    { heard = moment_of h; received = (client_at at h).received + length bytes; is_gone = length bytes == 0 }) (client_at at h)
    (eq-eqb at.connection at.connection refl)

pub accepted_here : (at : Socket) (h : List SocketEvent) →
    client_at at (h ++ port at.instance (accepted at.connection) ∷ []) ≡ record { heard = moment_of h; received = 0; is_gone = false }
accepted_here at h =
    here at h (port at.instance (accepted at.connection)) (moment_of h, port at.instance (accepted at.connection)) refl
    ∙ on (at.connection == at.connection) (record { heard = moment_of h; received = 0; is_gone = false }) (client_at at h)
    (eq-eqb at.connection at.connection refl)

pub failed_here : (at : Socket) (h : List SocketEvent) →
    client_at at (h ++ failed at.instance at.connection ∷ []) ≡ record (client_at at h) { is_gone = true }
failed_here at h =
    here at h (failed at.instance at.connection) (moment_of h, failed at.instance at.connection) refl
    ∙ on (at.connection == at.connection) (record (client_at at h) { is_gone = true }) (client_at at h)
    (eq-eqb at.connection at.connection refl)

pub written_here : (at : Socket) (h : List SocketEvent) (bytes : List ℕ) →
    client_at at (h ++ port at.instance (written at.connection bytes) ∷ []) ≡ client_at at h
written_here at h bytes = here at h (port at.instance (written at.connection bytes))
    (moment_of h, port at.instance (written at.connection bytes)) refl

-- ---- what is kept

pub kept_on : (h : List SocketEvent) (x : SocketEvent) (s : OpenSocket) → Leaves x s.socket → IsKept h s → IsKept (h ++ x ∷ []) s
kept_on h x s leaves was = record {
  heard = was.heard ∙ sym (ap (λ (k : Client). k.heard) (client_more s.socket h x) ∙ leaves.heard (moment_of h) (client_at s.socket h));
  received = was.received ∙ ap (λ (n : ℕ). min n most_counted)
      (sym (ap (λ (k : Client). k.received) (client_more s.socket h x) ∙ leaves.received (moment_of h) (client_at s.socket h)));
}

pub all_on : (h : List SocketEvent) (x : SocketEvent) (cs : List OpenSocket) → AllByRecursion (λ (s : OpenSocket). Leaves x s.socket) cs →
    AllByRecursion (IsKept h) cs → AllByRecursion (IsKept (h ++ x ∷ [])) cs
all_on h x [] leaves was = tt
all_on h x (s ∷ cs) leaves was = (kept_on h x s leaves.0 was.0, all_on h x cs leaves.1 was.1)

pub all_leave : (x : SocketEvent) (cs : List OpenSocket) → ((at : Socket) → Leaves x at) →
    AllByRecursion (λ (s : OpenSocket). Leaves x s.socket) cs
all_leave x [] leaves = tt
all_leave x (s ∷ cs) leaves = (leaves s.socket, all_leave x cs leaves)

pub or_false : (a b : Bool) → (a || b) ≡ false → (a ≡ false) × (b ≡ false)
or_false true b is = absurd (true≢false is)
or_false false b is = (refl, is)

pub others_leave : (x : SocketEvent) (d : ℕ) (cs : List OpenSocket) → ((at : Socket) → (at.connection == d) ≡ false → Leaves x at) →
    is_taken d (sockets_of cs) ≡ false → AllByRecursion (λ (s : OpenSocket). Leaves x s.socket) cs
others_leave x d [] leaves free = tt
others_leave x d (s ∷ cs) leaves free =
    let both = or_false (s.socket.connection == d) (is_taken d (sockets_of cs)) free in
    (leaves s.socket both.0, others_leave x d cs leaves both.1)

-- a count that had ended at its last number stays there
capped : (r n k : ℕ) → min (min r k + n) k ≡ min (r + n) k
capped r n k = omega arith

none_capped : (k : ℕ) → 0 ≡ min 0 k
none_capped k = omega arith

-- bytes came from a client
pub read_kept : (h : List SocketEvent) (s t : OpenSocket) (bytes : List ℕ) → t.socket ≡ s.socket → t.heard ≡ moment_of h →
    t.received ≡ min (s.received + length bytes) most_counted → IsKept h s →
    IsKept (h ++ port s.socket.instance (read s.socket.connection bytes) ∷ []) t
read_kept h s t bytes same heard received was =
    let next : List SocketEvent = h ++ port s.socket.instance (read s.socket.connection bytes) ∷ [] in
    let now = read_here s.socket h bytes in
    record {
      heard = heard ∙ sym (ap (λ (k : Client). k.heard) now) ∙ ap (λ (at : Socket). (client_at at next).heard) (sym same);
      received = received ∙ ap (λ (n : ℕ). min (n + length bytes) most_counted) was.received
          ∙ capped (client_at s.socket h).received (length bytes) most_counted
          ∙ ap (λ (n : ℕ). min n most_counted) (sym (ap (λ (k : Client). k.received) now)
          ∙ ap (λ (at : Socket). (client_at at next).received) (sym same));
    }

-- one was accepted
pub accepted_kept : (h : List SocketEvent) (at : Socket) (s : OpenSocket) → s.socket ≡ at → s.heard ≡ moment_of h → s.received ≡ 0 →
    IsKept (h ++ port at.instance (accepted at.connection) ∷ []) s
accepted_kept h at s same heard received =
    let next : List SocketEvent = h ++ port at.instance (accepted at.connection) ∷ [] in
    let now = accepted_here at h in
    record {
      heard = heard ∙ sym (ap (λ (k : Client). k.heard) now) ∙ ap (λ (a : Socket). (client_at a next).heard) (sym same);
      received = received ∙ none_capped most_counted
          ∙ ap (λ (n : ℕ). min n most_counted) (sym (ap (λ (k : Client). k.received) now)
          ∙ ap (λ (a : Socket). (client_at a next).received) (sym same));
    }
