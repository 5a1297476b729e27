-- What a server has open, as more happens.
use Rattle.std.proofs.Common.{◌≡◌, ◌≢◌, ℕ, ◌<◌, ◌≤◌, ◌+◌, List, [], ◌∷◌, ◌++◌, length, take, drop, take-append-drop, get_or, refl, ap, ◌∙◌, sym, subst, arith, add-one, inl, inr, append-nil}
use Rattle.std.specs.Prelude.{◌==◌, ◌||◌, Contains, min, Bool, true, false, Option, Some, None, IfSome}
use Rattle.std.specs.List.{AllByRecursion, list_any}
use Rattle.std.proofs.Math.ListN.{set}
use Rattle.std.proofs.lemmas.Bool.{cases_lt, eq-eqb, ne_eqb, true≢false}
use Rattle.std.proofs.lemmas.Bool.Decides.{eqb_tells}
use Rattle.std.proofs.lemmas.List.{map-append, set-get_or, set_split}
use Rattle.std.proofs.lemmas.List.Elements.{Contains-append_cases, Contains-append_left, Contains-append_right, Contains-push, Contains-push_cases}
use Rattle.std.proofs.lemmas.List.Folds.{list_any-append}
use Rattle.std.proofs.lemmas.List.Sums.{fold_push}
use Rattle.serve.specs.declared.open_socket.OpenSocket.{OpenSocket}
use Rattle.serve.specs.declared.sockets.Socket.{Socket}
use Rattle.serve.specs.SocketEvents.{SocketEvent, clock, port, failed, accepted, read, written, shut, moment_after, moment_of, Adds, AddsAll}
use Rattle.serve.specs.Numbers.{NumbersAreApart}
use Rattle.serve.specs.KeepsOpen.{AreApart, AreOpenAt, AreWithin, HasOpen, IsKept, IsNext, IsPutAmong, StayOpen, StayOpenAs, StayOpenBut, StayOpenWithout, client_at, is_taken, sockets_of}
use Rattle.serve.specs.KeepsServing.{most_counted}
use Rattle.serve.proofs.Clients.{Leaves, accepted_kept, accepted_leaves, all_leave, all_on, clock_leaves, failed_leaves, or_false, others_leave, read_kept, read_leaves, shut_leaves, written_leaves}
use Rattle.serve.proofs.Numbers.{AllStay, accepted_among, at, clock_stays, failed_stays, none_at_first, none_stays, read_stays, shut_closes, written_stays}

-- ---- what is known

-- what is known of all that happened is known of that and what was added
pub known_on : (P Q : List SocketEvent → Type 0) (old new : Option (List SocketEvent)) (more : List SocketEvent) → Adds old new more →
    ((h : List SocketEvent) → P h → Q (h ++ more)) → IfSome old P → IfSome new Q
known_on P Q old new more adds f was = elim adds [
  | inl lost ↦ subst (λ (o : Option (List SocketEvent)). IfSome o Q) (sym lost) tt
  | inr all ↦ go old all was
]
  where
    go : (o : Option (List SocketEvent)) → AddsAll o new more → IfSome o P → IfSome new Q
    go None all is = subst (λ (n : Option (List SocketEvent)). IfSome n Q) (sym all) tt
    go (Some h) all is = subst (λ (n : Option (List SocketEvent)). IfSome n Q) (sym all) (f h is)

pub known_both : (P Q : List SocketEvent → Type 0) (o : Option (List SocketEvent)) → IfSome o P → IfSome o Q → IfSome o (λ h. P h × Q h)
known_both P Q None p q = tt
known_both P Q (Some h) p q = (p, q)

moment_on : (old new : Option (List SocketEvent)) (x : SocketEvent) (m n : ℕ) → ((k : ℕ) → m ≡ k → n ≡ moment_after k x) →
    Adds old new (x ∷ []) → IfSome old (λ h. m ≡ moment_of h) → IfSome new (λ h. n ≡ moment_of h)
moment_on old new x m n stays adds was =
    known_on (λ h. m ≡ moment_of h) (λ h. n ≡ moment_of h) old new (x ∷ []) adds
    (λ h is. stays (moment_of h) is ∙ sym (fold_push moment_after 0 h x)) was

-- ---- lists

all_split : {A : Type 0} (P : A → Type 0) (xs : List A) (y : A) (ys : List A) → AllByRecursion P (xs ++ y ∷ ys) →
    AllByRecursion P xs × P y × AllByRecursion P ys
all_split P [] y ys all = (tt, all.0, all.1)
all_split P (x ∷ xs) y ys all =
    let rest = all_split P xs y ys all.1 in
    ((all.0, rest.0), rest.1, rest.2)

all_join : {A : Type 0} (P : A → Type 0) (xs ys : List A) → AllByRecursion P xs → AllByRecursion P ys → AllByRecursion P (xs ++ ys)
all_join P [] ys p q = q
all_join P (x ∷ xs) ys p q = (p.0, all_join P xs ys p.1 q)

sockets_parts : (before : List OpenSocket) (s : OpenSocket) (after : List OpenSocket) →
    sockets_of (before ++ s ∷ after) ≡ sockets_of before ++ s.socket ∷ sockets_of after
sockets_parts before s after = map-append (λ (x : OpenSocket). x.socket) before (s ∷ after)

sockets_join : (before after : List OpenSocket) → sockets_of (before ++ after) ≡ sockets_of before ++ sockets_of after
sockets_join before after = map-append (λ (x : OpenSocket). x.socket) before after

same_sockets : (before : List OpenSocket) (s t : OpenSocket) (after : List OpenSocket) → t.socket ≡ s.socket →
    sockets_of (before ++ t ∷ after) ≡ sockets_of (before ++ s ∷ after)
same_sockets before s t after same =
    sockets_parts before t after ∙ ap (λ (a : Socket). sockets_of before ++ a ∷ sockets_of after) same ∙ sym (sockets_parts before s after)

other_way : (a b : ℕ) → (a == b) ≡ false → (b == a) ≡ false
other_way a b is = ne_eqb b a (λ same. true≢false (sym (eq-eqb a b (sym same)) ∙ is))

-- whether a number is taken, by parts
free_parts : (n : ℕ) (xs : List Socket) (y : Socket) (ys : List Socket) → is_taken n (xs ++ y ∷ ys) ≡ false →
    (is_taken n xs ≡ false) × ((y.connection == n) ≡ false) × (is_taken n ys ≡ false)
free_parts n xs y ys is =
    let p : Socket → Bool = λ s. s.connection == n in
    let both = or_false (list_any p xs) (list_any p (y ∷ ys)) (sym (list_any-append p xs (y ∷ ys)) ∙ is) in
    let rest = or_false (p y) (list_any p ys) both.1 in
    (both.0, rest.0, rest.1)

free_both : (n : ℕ) (xs ys : List Socket) → is_taken n xs ≡ false → is_taken n ys ≡ false → is_taken n (xs ++ ys) ≡ false
free_both n xs ys p q =
    list_any-append (λ (s : Socket). s.connection == n) xs ys ∙ ap (λ (b : Bool). b || is_taken n ys) p ∙ q

pub free_less : (next : Option ℕ) (xs : List Socket) (y : Socket) (ys : List Socket) →
    IfSome next (λ n. is_taken n (xs ++ y ∷ ys) ≡ false) → IfSome next (λ n. is_taken n (xs ++ ys) ≡ false)
free_less None xs y ys is = tt
free_less (Some n) xs y ys is = let parts = free_parts n xs y ys is in free_both n xs ys parts.0 parts.2

apart_parts : (xs : List Socket) (y : Socket) (ys : List Socket) → AreApart (xs ++ y ∷ ys) →
    (is_taken y.connection xs ≡ false) × (is_taken y.connection ys ≡ false) × AreApart (xs ++ ys)
apart_parts [] y ys a = (refl, a.0, a.1)
apart_parts (x ∷ xs) y ys a =
    let rest = apart_parts xs y ys a.1 in
    let parts = free_parts x.connection xs y ys a.0 in (
      ap (λ (b : Bool). b || is_taken y.connection xs) (other_way y.connection x.connection parts.1) ∙ rest.0,
      rest.1,
      (free_both x.connection xs ys parts.0 parts.2, rest.2),
    )

apart_with : (xs : List Socket) (y : Socket) → is_taken y.connection xs ≡ false → AreApart xs → AreApart (xs ++ y ∷ [])
apart_with [] y free a = (refl, tt)
apart_with (x ∷ xs) y free a =
    let parts = or_false (x.connection == y.connection) (is_taken y.connection xs) free in (
      free_both x.connection xs (y ∷ []) a.0 (ap (λ (b : Bool). b || false) (other_way x.connection y.connection parts.0)),
      apart_with xs y parts.1 a.1,
    )

-- ---- what stays

stays_by : (old new : Option (List SocketEvent)) (x : SocketEvent) → ((k : ℕ) → k ≡ moment_after k x) → ((a : Socket) → Leaves x a) →
    Adds old new (x ∷ []) → AllStay old new → StayOpen old new
stays_by old new x same leaves adds all count cs next m has = record {
  within = has.within;
  at_sockets = all (sockets_of cs) has.at_sockets;
  apart = has.apart;
  free = has.free;
  kept = known_on (λ h. AllByRecursion (IsKept h) cs) (λ h. AllByRecursion (IsKept h) cs) old new (x ∷ []) adds
      (λ h kept. all_on h x cs (all_leave x cs leaves) kept) has.kept;
  moment = moment_on old new x m m (λ k is. is ∙ same k) adds has.moment;
}

pub written_open : (old new : Option (List SocketEvent)) (j d : ℕ) (bytes : List ℕ) → Adds old new (port j (written d bytes) ∷ []) →
    StayOpen old new
written_open old new j d bytes adds = stays_by old new (port j (written d bytes)) (λ k. refl) (written_leaves j d bytes) adds
    (written_stays old new j d bytes adds)

pub failed_open : (old new : Option (List SocketEvent)) (j d : ℕ) → Adds old new (failed j d ∷ []) → StayOpen old new
failed_open old new j d adds = stays_by old new (failed j d) (λ k. refl) (failed_leaves j d) adds (failed_stays old new j d adds)

pub none_open : (old new : Option (List SocketEvent)) → Adds old new [] → StayOpen old new
none_open old new adds count cs next m has = record {
  within = has.within;
  at_sockets = none_stays old new adds (sockets_of cs) has.at_sockets;
  apart = has.apart;
  free = has.free;
  kept = known_on (λ h. AllByRecursion (IsKept h) cs) (λ h. AllByRecursion (IsKept h) cs) old new [] adds
      (λ h kept. subst (λ (g : List SocketEvent). AllByRecursion (IsKept g) cs) (sym (append-nil h)) kept) has.kept;
  moment = known_on (λ h. m ≡ moment_of h) (λ h. m ≡ moment_of h) old new [] adds
      (λ h is. is ∙ ap moment_of (sym (append-nil h))) has.moment;
}

-- the clock was read
pub clock_open : (old new : Option (List SocketEvent)) (n : ℕ) → Adds old new (clock n ∷ []) →
    (count : ℕ) (cs : List OpenSocket) (next : Option ℕ) (m : ℕ) → HasOpen count cs next m old → HasOpen count cs next n new
clock_open old new n adds count cs next m has = record {
  within = has.within;
  at_sockets = clock_stays old new n adds (sockets_of cs) has.at_sockets;
  apart = has.apart;
  free = has.free;
  kept = known_on (λ h. AllByRecursion (IsKept h) cs) (λ h. AllByRecursion (IsKept h) cs) old new (clock n ∷ []) adds
      (λ h kept. all_on h (clock n) cs (all_leave (clock n) cs (clock_leaves n)) kept) has.kept;
  moment = moment_on old new (clock n) m n (λ k is. refl) adds has.moment;
}

-- bytes came from one
read_all : (m : ℕ) (before : List OpenSocket) (s t : OpenSocket) (after : List OpenSocket) (bytes : List ℕ) (h : List SocketEvent) →
    AreApart (sockets_of (before ++ s ∷ after)) → t.socket ≡ s.socket → t.heard ≡ m →
    t.received ≡ min (s.received + length bytes) most_counted → AllByRecursion (IsKept h) (before ++ s ∷ after) × (m ≡ moment_of h) →
    AllByRecursion (IsKept (h ++ port s.socket.instance (read s.socket.connection bytes) ∷ [])) (before ++ t ∷ after)
read_all m before s t after bytes h apart same heard received was =
    let x : SocketEvent = port s.socket.instance (read s.socket.connection bytes) in
    let kept = all_split (IsKept h) before s after was.0 in
    let others = apart_parts (sockets_of before) s.socket (sockets_of after) (subst AreApart (sockets_parts before s after) apart) in
    let leaves : (a : Socket) → (a.connection == s.socket.connection) ≡ false → Leaves x a =
    read_leaves s.socket.instance s.socket.connection bytes in
    all_join (IsKept (h ++ x ∷ [])) before (t ∷ after)
    (all_on h x before (others_leave x s.socket.connection before leaves others.0) kept.0) (
      read_kept h s t bytes same (heard ∙ was.1) received kept.1,
      all_on h x after
          (others_leave x s.socket.connection after leaves others.1) kept.2,
    )

pub read_open : (m : ℕ) (s t : OpenSocket) (old new : Option (List SocketEvent)) (bytes : List ℕ) →
    Adds old new (port s.socket.instance (read s.socket.connection bytes) ∷ []) → t.socket ≡ s.socket → t.heard ≡ m →
    t.received ≡ min (s.received + length bytes) most_counted → StayOpenAs m s t old new
read_open m s t old new bytes adds same heard received count before after next has =
    let x : SocketEvent = port s.socket.instance (read s.socket.connection bytes) in
    let sockets : sockets_of (before ++ s ∷ after) ≡ sockets_of (before ++ t ∷ after) = sym (same_sockets before s t after same) in
    record {
      within = subst (λ (l : List Socket). AreWithin count l) sockets has.within;
      at_sockets = subst (λ (l : List Socket). AreOpenAt l new) sockets
          (read_stays old new s.socket.instance s.socket.connection bytes adds (sockets_of (before ++ s ∷ after)) has.at_sockets);
      apart = subst AreApart sockets has.apart;
      free = subst (λ (l : List Socket). IfSome next (λ n. is_taken n l ≡ false)) sockets has.free;
      kept = known_on (λ h. AllByRecursion (IsKept h) (before ++ s ∷ after) × (m ≡ moment_of h))
          (λ h. AllByRecursion (IsKept h) (before ++ t ∷ after)) old new (x ∷ []) adds
          (λ h was. read_all m before s t after bytes h has.apart same heard received was)
          (known_both (λ h. AllByRecursion (IsKept h) (before ++ s ∷ after)) (λ h. m ≡ moment_of h) old has.kept has.moment);
      moment = moment_on old new x m m (λ k is. is) adds has.moment;
    }

-- one stays as it is kept
pub alike : (count : ℕ) (before : List OpenSocket) (s t : OpenSocket) (after : List OpenSocket) (next : Option ℕ) (m : ℕ)
    (known : Option (List SocketEvent)) → t.socket ≡ s.socket → t.heard ≡ s.heard → t.received ≡ s.received →
    HasOpen count (before ++ s ∷ after) next m known → HasOpen count (before ++ t ∷ after) next m known
alike count before s t after next m known same heard received has =
    let sockets : sockets_of (before ++ s ∷ after) ≡ sockets_of (before ++ t ∷ after) = sym (same_sockets before s t after same) in
    record {
      within = subst (λ (l : List Socket). AreWithin count l) sockets has.within;
      at_sockets = subst (λ (l : List Socket). AreOpenAt l known) sockets has.at_sockets;
      apart = subst AreApart sockets has.apart;
      free = subst (λ (l : List Socket). IfSome next (λ n. is_taken n l ≡ false)) sockets has.free;
      kept = go known has.kept;
      moment = has.moment;
    }
  where
    one : (h : List SocketEvent) → IsKept h s → IsKept h t
    one h was = record {
      heard = heard ∙ was.heard ∙ ap (λ (a : Socket). (client_at a h).heard) (sym same);
      received = received ∙ was.received ∙ ap (λ (a : Socket). min (client_at a h).received most_counted) (sym same);
    }

    go : (o : Option (List SocketEvent)) → IfSome o (λ h. AllByRecursion (IsKept h) (before ++ s ∷ after)) →
        IfSome o (λ h. AllByRecursion (IsKept h) (before ++ t ∷ after))
    go None was = tt
    go (Some h) was =
        let kept = all_split (IsKept h) before s after was in
        all_join (IsKept h) before (t ∷ after) kept.0 (one h kept.1, kept.2)

-- ---- one that is closed, and one that is accepted

pub closed_open : (old new : Option (List SocketEvent)) (a : Socket) → Adds old new (port a.instance (shut a.connection) ∷ []) →
    StayOpenBut a old new
closed_open old new a adds count before s after next m same has =
    let x : SocketEvent = port a.instance (shut a.connection) in
    let whole : sockets_of (before ++ s ∷ after) ≡ sockets_of before ++ a ∷ sockets_of after =
    sockets_parts before s after ∙ ap (λ (b : Socket). sockets_of before ++ b ∷ sockets_of after) same in
    let less : sockets_of before ++ sockets_of after ≡ sockets_of (before ++ after) = sym (sockets_join before after) in
    let within = all_split (λ (b : Socket). b.instance < count) (sockets_of before) a (sockets_of after)
    (subst (λ (l : List Socket). AreWithin count l) whole has.within) in
    record {
      within = subst (λ (l : List Socket). AreWithin count l) less
          (all_join (λ (b : Socket). b.instance < count) (sockets_of before) (sockets_of after) within.0 within.2);
      at_sockets = subst (λ (l : List Socket). AreOpenAt l new) less
          (shut_closes old new a adds (sockets_of before) (sockets_of after)
          (subst (λ (l : List Socket). AreOpenAt l old) whole has.at_sockets));
      apart = subst AreApart less (apart_parts (sockets_of before) a (sockets_of after) (subst AreApart whole has.apart)).2;
      free = subst (λ (l : List Socket). IfSome next (λ n. is_taken n l ≡ false)) less
          (free_less next (sockets_of before) a (sockets_of after)
          (subst (λ (l : List Socket). IfSome next (λ n. is_taken n l ≡ false)) whole has.free));
      kept = known_on (λ h. AllByRecursion (IsKept h) (before ++ s ∷ after)) (λ h. AllByRecursion (IsKept h) (before ++ after)) old new
          (x ∷ []) adds (λ h was. all_less h was) has.kept;
      moment = moment_on old new x m m (λ k is. is) adds has.moment;
    }
  where
    all_less : (h : List SocketEvent) → AllByRecursion (IsKept h) (before ++ s ∷ after) →
        AllByRecursion (IsKept (h ++ port a.instance (shut a.connection) ∷ [])) (before ++ after)
    all_less h was =
        let x : SocketEvent = port a.instance (shut a.connection) in
        let kept = all_split (IsKept h) before s after was in
        all_on h x (before ++ after) (all_leave x (before ++ after) (shut_leaves a.instance a.connection))
        (all_join (IsKept h) before after kept.0 kept.2)

next_free : (n : ℕ) (sockets : List Socket) (i : ℕ) (next : Option ℕ) → IsNext n sockets next →
    IfSome next (λ m. is_taken m (sockets ++ at i n ∷ []) ≡ false)
next_free n sockets i None is = tt
next_free n sockets i (Some m) is =
    free_both m sockets (at i n ∷ []) is.1 (ap (λ (b : Bool). b || false) (ne_eqb n m (λ same. is.0 (sym same))))

pub accepted_open : (old new : Option (List SocketEvent)) (i n : ℕ) (c : OpenSocket) (count : ℕ) (cs : List OpenSocket)
    (was next : Option ℕ) (m : ℕ) → c.socket ≡ at i n → c.heard ≡ m → c.received ≡ 0 → i < count → was ≡ Some n →
    Adds old new (port i (accepted n) ∷ []) → IsNext n (sockets_of cs) next → HasOpen count cs was m old →
    HasOpen count (cs ++ c ∷ []) next m new
accepted_open old new i n c count cs was next m same heard received lt is adds after has =
    let x : SocketEvent = port i (accepted n) in
    let free : is_taken n (sockets_of cs) ≡ false =
    subst (λ (o : Option ℕ). IfSome o (λ k. is_taken k (sockets_of cs) ≡ false)) is has.free in
    let whole : sockets_of cs ++ at i n ∷ [] ≡ sockets_of (cs ++ c ∷ []) =
    sym (sockets_parts cs c [] ∙ ap (λ (b : Socket). sockets_of cs ++ b ∷ []) same) in
    record {
      within = subst (λ (l : List Socket). AreWithin count l) whole
          (all_join (λ (b : Socket). b.instance < count) (sockets_of cs) (at i n ∷ []) has.within (lt, tt));
      at_sockets = subst (λ (l : List Socket). AreOpenAt l new) whole (accepted_among old new i n (sockets_of cs) adds free has.at_sockets);
      apart = subst AreApart whole (apart_with (sockets_of cs) (at i n) free has.apart);
      free = subst (λ (l : List Socket). IfSome next (λ k. is_taken k l ≡ false)) whole (next_free n (sockets_of cs) i next after);
      kept = known_on (λ h. AllByRecursion (IsKept h) cs × (m ≡ moment_of h)) (λ h. AllByRecursion (IsKept h) (cs ++ c ∷ [])) old new
          (x ∷ []) adds (λ h kept. all_more h free kept)
          (known_both (λ h. AllByRecursion (IsKept h) cs) (λ h. m ≡ moment_of h) old has.kept has.moment);
      moment = moment_on old new x m m (λ k so. so) adds has.moment;
    }
  where
    all_more : (h : List SocketEvent) → is_taken n (sockets_of cs) ≡ false → AllByRecursion (IsKept h) cs × (m ≡ moment_of h) →
        AllByRecursion (IsKept (h ++ port i (accepted n) ∷ [])) (cs ++ c ∷ [])
    all_more h free kept =
        let x : SocketEvent = port i (accepted n) in
        all_join (IsKept (h ++ x ∷ [])) cs (c ∷ []) (all_on h x cs (others_leave x n cs (accepted_leaves i n) free) kept.0)
        (accepted_kept h (at i n) c same (heard ∙ kept.1) received, tt)

-- .. where room was reserved, and the next number was looked for
pub accepted_by : (old new : Option (List SocketEvent)) (i n : ℕ) (c : OpenSocket) (count : ℕ) (cs held seen : List OpenSocket)
    (was next : Option ℕ) (m : ℕ) → c.socket ≡ at i n → c.heard ≡ m → c.received ≡ 0 → i < count → was ≡ Some n →
    Adds old new (port i (accepted n) ∷ []) → held ≡ cs → seen ≡ held → IsNext n (sockets_of seen) next → HasOpen count cs was m old →
    HasOpen count (held ++ c ∷ []) next m new
accepted_by old new i n c count cs held seen was next m same heard received lt is adds reserved looked after has =
    accepted_open old new i n c count held was next m same heard received lt is adds
    (subst (λ (l : List OpenSocket). IsNext n (sockets_of l) next) looked after)
    (subst (λ (l : List OpenSocket). HasOpen count l was m old) (sym reserved) has)

-- .. and it is put among them
free_moved : (n : ℕ) (xs ys : List Socket) (y : Socket) → is_taken n ((xs ++ ys) ++ y ∷ []) ≡ false → is_taken n (xs ++ y ∷ ys) ≡ false
free_moved n xs ys y is =
    let p : Socket → Bool = λ s. s.connection == n in
    let last = free_parts n (xs ++ ys) y [] is in
    let both = or_false (list_any p xs) (list_any p ys) (sym (list_any-append p xs ys) ∙ last.0) in
    free_both n xs (y ∷ ys) both.0 (ap (λ (b : Bool). b || is_taken n ys) last.1 ∙ both.1)

next_moved : (next : Option ℕ) (xs ys : List Socket) (y : Socket) → IfSome next (λ n. is_taken n ((xs ++ ys) ++ y ∷ []) ≡ false) →
    IfSome next (λ n. is_taken n (xs ++ y ∷ ys) ≡ false)
next_moved None xs ys y is = tt
next_moved (Some n) xs ys y is = free_moved n xs ys y is

apart_moved : (xs ys : List Socket) (y : Socket) → AreApart ((xs ++ ys) ++ y ∷ []) → AreApart (xs ++ y ∷ ys)
apart_moved [] ys y a =
    let parts = apart_parts ys y [] a in (parts.0, subst AreApart (append-nil ys) parts.2)
apart_moved (x ∷ xs) ys y a = (free_moved x.connection xs ys y a.0, apart_moved xs ys y a.1)

all_moved : {A : Type 0} (P : A → Type 0) (xs ys : List A) (y : A) → AllByRecursion P ((xs ++ ys) ++ y ∷ []) → AllByRecursion P (xs ++ y ∷ ys)
all_moved P [] ys y all = let parts = all_split P ys y [] all in (parts.1, parts.0)
all_moved P (x ∷ xs) ys y all = (all.0, all_moved P xs ys y all.1)

contains_moved : {A : Type 0} (a y : A) (xs ys : List A) → Contains ((xs ++ ys) ++ y ∷ []) a → Contains (xs ++ y ∷ ys) a
contains_moved {A} a y xs ys is = elim (Contains-push_cases (xs ++ ys) y a is) [
  | inl either ↦ elim (Contains-append_cases xs ys a either) [
    | inl before ↦ Contains-append_left xs (y ∷ ys) a before
    | inr behind ↦ Contains-append_right xs (y ∷ ys) a (Contains-append_right (y ∷ []) ys a behind)
  ]
  | inr same ↦ Contains-append_right xs (y ∷ ys) a
      (Contains-append_left (y ∷ []) ys a (subst (λ (b : A). Contains (y ∷ []) b) same (Contains-push [] y)))
]

among_moved : (xs ys : List Socket) (y : Socket) (known : Option (List SocketEvent)) → AreOpenAt ((xs ++ ys) ++ y ∷ []) known →
    AreOpenAt (xs ++ y ∷ ys) known
among_moved xs ys y None is = tt
among_moved xs ys y (Some h) is = (
  is.0,
  λ i c before after same. elim (is.1 i c before after same) [
    | inl gone ↦ inl gone
    | inr there ↦ inr (contains_moved _ y xs ys there)
  ],
)

moved_in : (known : Option (List SocketEvent)) (c : OpenSocket) (count : ℕ) (xs ys : List OpenSocket) (next : Option ℕ) (m : ℕ) →
    HasOpen count ((xs ++ ys) ++ c ∷ []) next m known → HasOpen count (xs ++ c ∷ ys) next m known
moved_in known c count xs ys next m has =
    let last : sockets_of ((xs ++ ys) ++ c ∷ []) ≡ (sockets_of xs ++ sockets_of ys) ++ c.socket ∷ [] =
    sockets_parts (xs ++ ys) c [] ∙ ap (λ (l : List Socket). l ++ c.socket ∷ []) (sockets_join xs ys) in
    let whole : sockets_of xs ++ c.socket ∷ sockets_of ys ≡ sockets_of (xs ++ c ∷ ys) = sym (sockets_parts xs c ys) in
    record {
      within = subst (λ (l : List Socket). AreWithin count l) whole
          (all_moved (λ (b : Socket). b.instance < count) (sockets_of xs) (sockets_of ys) c.socket
          (subst (λ (l : List Socket). AreWithin count l) last has.within));
      at_sockets = subst (λ (l : List Socket). AreOpenAt l known) whole
          (among_moved (sockets_of xs) (sockets_of ys) c.socket known
          (subst (λ (l : List Socket). AreOpenAt l known) last has.at_sockets));
      apart = subst AreApart whole
          (apart_moved (sockets_of xs) (sockets_of ys) c.socket (subst AreApart last has.apart));
      free = subst (λ (l : List Socket). IfSome next (λ k. is_taken k l ≡ false)) whole
          (next_moved next (sockets_of xs) (sockets_of ys) c.socket
          (subst (λ (l : List Socket). IfSome next (λ k. is_taken k l ≡ false)) last has.free));
      kept = all_kept known has.kept;
      moment = has.moment;
    }
  where
    all_kept : (o : Option (List SocketEvent)) → IfSome o (λ h. AllByRecursion (IsKept h) ((xs ++ ys) ++ c ∷ [])) →
        IfSome o (λ h. AllByRecursion (IsKept h) (xs ++ c ∷ ys))
    all_kept None is = tt
    all_kept (Some h) is = all_moved (IsKept h) xs ys c is

pub added_by : (known : Option (List SocketEvent)) (c : OpenSocket) (count : ℕ) (held now : List OpenSocket) (next : Option ℕ) (m : ℕ) →
    IsPutAmong c held now → HasOpen count (held ++ c ∷ []) next m known → HasOpen count now next m known
added_by known c count held now next m put has =
    subst (λ (l : List OpenSocket). HasOpen count l next m known) (sym put.1)
    (moved_in known c count (take put.0 held) (drop put.0 held) next m
    (subst (λ (l : List OpenSocket). HasOpen count (l ++ c ∷ []) next m known) (sym (take-append-drop put.0 held)) has))

-- .. or is closed at once
pub refused_open : (old mid new : Option (List SocketEvent)) (i n count : ℕ) (cs held seen : List OpenSocket) (was next : Option ℕ)
    (m : ℕ) → i < count → was ≡ Some n → Adds old mid (port i (accepted n) ∷ []) → held ≡ cs → seen ≡ held →
    IsNext n (sockets_of seen) next → StayOpenBut (at i n) mid new → HasOpen count cs was m old → HasOpen count held next m new
refused_open old mid new i n count cs held seen was next m lt is adds reserved looked after closes has =
    let c : OpenSocket = record {
      socket = at i n;
      moved = m;
      tried = m;
      news = None;
      heard = m;
      received = 0;
      course =
          record { left = 0; head = 0; length = 0 };
    } in
    subst (λ (l : List OpenSocket). HasOpen count l next m new) (append-nil held)
    (closes count held c [] next m refl (accepted_by old mid i n c count cs held seen was next m refl refl refl lt is adds reserved looked
    after has))

any_mapped : (n : ℕ) (cs : List OpenSocket) → is_taken n (sockets_of cs) ≡ list_any (λ c. c.socket.connection == n) cs
any_mapped n [] = refl
any_mapped n (c ∷ cs) = ap (λ (b : Bool). (c.socket.connection == n) || b) (any_mapped n cs)

pub found_free : (n number : ℕ) (cs : List OpenSocket) (answer : Bool) → n ≢ number →
    answer ≡ list_any (λ (c : OpenSocket). c.socket.connection == n) cs → answer ≡ false → IsNext number (sockets_of cs) (Some n)
found_free n number cs answer ne is free = (ne, any_mapped n cs ∙ sym is ∙ free)

-- all of these numbers are taken
abbrev pub AreTaken : List OpenSocket → ℕ → ℕ → Type 0
AreTaken cs first end = (n : ℕ) → first ≤ n → n < end → is_taken n (sockets_of cs) ≡ true

-- one more is
pub one_taken : (cs : List OpenSocket) (first end n : ℕ) (answer : Bool) → end ≡ n →
    answer ≡ list_any (λ (c : OpenSocket). c.socket.connection == n) cs → answer ≡ true → AreTaken cs first end → AreTaken cs first (n + 1)
one_taken cs first end n answer so is taken before m le lt = elim (eqb_tells m n) [
  | inl t ↦ subst (λ (k : ℕ). is_taken k (sockets_of cs) ≡ true) (sym t.1) (any_mapped n cs ∙ sym is ∙ taken)
  | inr t ↦ before m le (below m t.1 lt)
]
  where
    below : (m : ℕ) → m ≢ n → m < n + 1 → m < end
    below m apart lt = omega (arith, apart, lt, so)

pub all_taken : (cs : List OpenSocket) (number top : ℕ) → AreTaken cs (number + 1) top → AreTaken cs 0 number
    → (n : ℕ) → n < top → n ≢ number → is_taken n (sockets_of cs) ≡ true
all_taken cs number top above below n lt apart = elim (cases_lt n number) [
  | inl less ↦ below n (omega arith) less
  | inr more ↦ above n (beyond more) lt
]
  where
    beyond : number ≤ n → number + 1 ≤ n
    beyond more = omega (arith, more, apart)

-- ---- by their places

parted : (cs : List OpenSocket) (k : ℕ) (c : OpenSocket) → k < length cs → c ≡ get_or cs k c → cs ≡ take k cs ++ c ∷ drop (k + 1) cs
parted cs k c lt is =
    sym (set-get_or cs k c) ∙ ap (λ (x : OpenSocket). set cs k x) (sym is) ∙ set_split cs k c lt
    ∙ ap (λ (n : ℕ). take k cs ++ c ∷ drop n cs) (sym (add-one k))

pub within_at : (count : ℕ) (cs : List OpenSocket) (next : Option ℕ) (m : ℕ) (known : Option (List SocketEvent)) (k : ℕ) (c : OpenSocket) →
    k < length cs → c ≡ get_or cs k c → HasOpen count cs next m known → c.socket.instance < count
within_at count cs next m known k c lt is has =
    (all_split (λ (b : Socket). b.instance < count) (sockets_of (take k cs)) c.socket (sockets_of (drop (k + 1) cs))
    (subst (λ (l : List Socket). AreWithin count l)
    (ap sockets_of (parted cs k c lt is) ∙ sockets_parts (take k cs) c (drop (k + 1) cs)) has.within)).1

pub kept_at : (count : ℕ) (cs : List OpenSocket) (next : Option ℕ) (m : ℕ) (h : List SocketEvent) (k : ℕ) (c : OpenSocket) → k < length cs →
    c ≡ get_or cs k c → HasOpen count cs next m (Some h) → IsKept h c
kept_at count cs next m h k c lt is has =
    (all_split (IsKept h) (take k cs) c (drop (k + 1) cs)
    (subst (λ (l : List OpenSocket). AllByRecursion (IsKept h) l) (parted cs k c lt is) has.kept)).1

pub one_closed : (old new : Option (List SocketEvent)) (count : ℕ) (cs left : List OpenSocket) (next : Option ℕ) (m k : ℕ)
    (c : OpenSocket) → k < length cs → c ≡ get_or cs k c → left ≡ take k cs ++ drop (k + 1) cs → StayOpenWithout m c old new →
    HasOpen count cs next m old → HasOpen count left next m new
one_closed old new count cs left next m k c lt is rest closes has =
    subst (λ (l : List OpenSocket). HasOpen count l next m new) (sym rest)
    (closes count (take k cs) (drop (k + 1) cs) next
    (subst (λ (l : List OpenSocket). HasOpen count l next m old) (parted cs k c lt is) has))

pub one_goes : (old new : Option (List SocketEvent)) (count : ℕ) (cs : List OpenSocket) (next : Option ℕ) (m k : ℕ) (c t d : OpenSocket) →
    k < length cs → c ≡ get_or cs k c → d.socket ≡ t.socket → d.heard ≡ t.heard → d.received ≡ t.received → StayOpenAs m c t old new →
    HasOpen count cs next m old → HasOpen count (set cs k d) next m new
one_goes old new count cs next m k c t d lt is same heard received goes has =
    subst (λ (l : List OpenSocket). HasOpen count l next m new)
    (sym (set_split cs k d lt ∙ ap (λ (n : ℕ). take k cs ++ d ∷ drop n cs) (sym (add-one k))))
    (alike count (take k cs) t d (drop (k + 1) cs) next m new same heard received
    (goes count (take k cs) (drop (k + 1) cs) next (subst (λ (l : List OpenSocket). HasOpen count l next m old) (parted cs k c lt is) has)))

-- ---- from the beginning to the end

pub apart : (known : Option (List SocketEvent)) (sockets : List Socket) → AreOpenAt sockets known → IfSome known NumbersAreApart
apart None sockets has = tt
apart (Some h) sockets has = has.0

pub fresh_apart : (known : Option (List SocketEvent)) → IfSome known (λ h. h ≡ []) → IfSome known NumbersAreApart
fresh_apart None fresh = tt
fresh_apart (Some h) fresh = subst NumbersAreApart (sym fresh) none_at_first.0

pub open_first : (known : Option (List SocketEvent)) (count : ℕ) (cs : List OpenSocket) (next : Option ℕ) (m : ℕ) →
    IfSome known (λ h. h ≡ []) → cs ≡ [] → m ≡ 0 → HasOpen count cs next m known
open_first known count cs next m fresh none zero = subst (λ (l : List OpenSocket). HasOpen count l next m known) (sym none) (record {
  within = tt;
  at_sockets = go known fresh;
  apart = tt;
  free = all next;
  kept = nothing known;
  moment = at_first known fresh;
})
  where
    go : (o : Option (List SocketEvent)) → IfSome o (λ h. h ≡ []) → AreOpenAt [] o
    go None is = tt
    go (Some h) is = subst (λ (g : List SocketEvent). AreOpenAt [] (Some g)) (sym is) none_at_first

    all : (o : Option ℕ) → IfSome o (λ n. is_taken n [] ≡ false)
    all None = tt
    all (Some n) = refl

    nothing : (o : Option (List SocketEvent)) → IfSome o (λ h. AllByRecursion (IsKept h) [])
    nothing None = tt
    nothing (Some h) = tt

    at_first : (o : Option (List SocketEvent)) → IfSome o (λ h. h ≡ []) → IfSome o (λ h. m ≡ moment_of h)
    at_first None is = tt
    at_first (Some h) is = zero ∙ ap moment_of (sym is)
