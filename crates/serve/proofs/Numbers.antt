-- What is open at the sockets, and under which numbers.
use Rattle.std.proofs.Common.{◌≡◌, ℕ, List, [], ◌∷◌, ◌++◌, refl, ap, ◌∙◌, sym, subst, arith, inl, inr, append-nil, append_assoc}
use Rattle.std.specs.Prelude.{◌⊎◌, ◌==◌, true, false, Contains, Option, Some, None}
use Rattle.std.proofs.lemmas.Bool.{eq-eqb, true≢false}
use Rattle.std.proofs.lemmas.List.{same_from_push}
use Rattle.std.proofs.lemmas.List.Elements.{Contains-append_left, Contains-append_right, Contains-append_cases, Contains-push, Contains-push_cases}
use Rattle.std.proofs.lemmas.List.Folds.{list_any_at}
use Rattle.serve.specs.declared.sockets.Socket.{Socket}
use Rattle.serve.specs.SocketEvents.{SocketEvent, PortEvent, clock, port, failed, accepted, shut, Adds, AddsAll}
use Rattle.serve.specs.Numbers.{NumbersAreApart}
use Rattle.serve.specs.KeepsOpen.{AreAmong, AreOpenAt, is_taken}

-- ---- one more that happened

last_or_none : {A : Type 0} (xs : List A) → (xs ≡ []) ⊎ ((rest : List A) × (z : A) × (xs ≡ rest ++ z ∷ []))
last_or_none [] = inl refl
last_or_none (x ∷ xs) = elim (last_or_none xs) [
  | inl none ↦ inr ([], x, ap (λ ys. x ∷ ys) none)
  | inr t ↦ inr (x ∷ t.0, t.1, ap (λ ys. x ∷ ys) t.2)
]

-- what stands in a list with one more stands before it, or is that one
split_last : {A : Type 0} (h : List A) (x y : A) (before after : List A) → h ++ x ∷ [] ≡ before ++ y ∷ after →
    ((after ≡ []) × (x ≡ y) × (h ≡ before)) ⊎ ((rest : List A) × (after ≡ rest ++ x ∷ []) × (h ≡ before ++ y ∷ rest))
split_last {A} h x y before after is = elim (last_or_none after) [
  | inl none ↦
      let same = same_from_push h before x y (subst (λ (zs : List A). h ++ x ∷ [] ≡ before ++ y ∷ zs) none is) in
      inl (none, same.1, same.0)
  | inr t ↦
      let same = same_from_push h (before ++ y ∷ t.0) x t.1
      (subst (λ (zs : List A). h ++ x ∷ [] ≡ before ++ y ∷ zs) t.2 is ∙ sym (append_assoc before (y ∷ t.0) (t.1 ∷ []))) in
      inr (t.0, t.2 ∙ ap (λ (z : A). t.0 ++ z ∷ []) (sym same.1), same.0)
]

abbrev pub at : ℕ → ℕ → Socket
at i c = record { instance = i; connection = c }

-- what happens makes these sockets of those
record Follows (x : SocketEvent) (sockets next : List Socket) : Type 0 where
  free : (i c : ℕ) → x ≡ port i (accepted c) → Contains sockets (at i c) → ⊥
  comes : (i c : ℕ) → x ≡ port i (accepted c) → Contains next (at i c)
  stays : (i c : ℕ) → Contains sockets (at i c) → (x ≡ port i (shut c)) ⊎ Contains next (at i c)

more : (h : List SocketEvent) (x : SocketEvent) (sockets next : List Socket) → Follows x sockets next →
    NumbersAreApart h × AreAmong sockets h → NumbersAreApart (h ++ x ∷ []) × AreAmong next (h ++ x ∷ [])
more h x sockets next follows was = (
  (λ i c before between after is.
      let a : SocketEvent = port i (accepted c) in
      elim (split_last h x a (before ++ a ∷ between) after (is ∙ sym (append_assoc before (a ∷ between) (a ∷ after)))) [
        | inl t ↦ elim (was.1 i c before between t.2) [
          | inl since ↦ since
          | inr here ↦ absurd (follows.free i c t.1 here)
        ]
        | inr t ↦ was.0 i c before between t.0 (t.2 ∙ append_assoc before (a ∷ between) (a ∷ t.0))
      ]),
  (λ i c before after is.
      let s : SocketEvent = port i (shut c) in
      elim (split_last h x (port i (accepted c)) before after is) [
        | inl t ↦ inr (follows.comes i c t.1)
        | inr t ↦ elim (was.1 i c before t.0 t.2) [
          | inl since ↦ inl (subst (λ (es : List SocketEvent). Contains es s) (sym t.1) (Contains-append_left t.0 (x ∷ []) s since))
          | inr here ↦ elim (follows.stays i c here) [
            | inl closes ↦ inl (subst (λ (es : List SocketEvent). Contains es s) (sym t.1)
                (subst (λ (e : SocketEvent). Contains (t.0 ++ e ∷ []) s) (sym closes) (Contains-push t.0 s)))
            | inr stays ↦ inr stays
          ]
        ]
      ]),
)

on_known : (old new : Option (List SocketEvent)) (x : SocketEvent) (sockets next : List Socket) → AddsAll old new (x ∷ []) →
    Follows x sockets next → AreOpenAt sockets old → AreOpenAt next new
on_known None new x sockets next adds follows was = subst (λ (o : Option (List SocketEvent)). AreOpenAt next o) (sym adds) tt
on_known (Some h) new x sockets next adds follows was =
    subst (λ (o : Option (List SocketEvent)). AreOpenAt next o) (sym adds) (more h x sockets next follows was)

on : (old new : Option (List SocketEvent)) (x : SocketEvent) (sockets next : List Socket) → Adds old new (x ∷ []) → Follows x sockets next →
    AreOpenAt sockets old → AreOpenAt next new
on old new x sockets next adds follows was = elim adds [
  | inl lost ↦ subst (λ (o : Option (List SocketEvent)). AreOpenAt next o) (sym lost) tt
  | inr all ↦ on_known old new x sockets next all follows was
]

-- nothing happened
none_known : (old new : Option (List SocketEvent)) (sockets : List Socket) → AddsAll old new [] → AreOpenAt sockets old →
    AreOpenAt sockets new
none_known None new sockets adds was = subst (λ (o : Option (List SocketEvent)). AreOpenAt sockets o) (sym adds) tt
none_known (Some h) new sockets adds was = subst (λ (o : Option (List SocketEvent)). AreOpenAt sockets o)
    (sym (adds ∙ ap Some (append-nil h))) was

-- whichever are open, they stay so
abbrev pub AllStay : Option (List SocketEvent) → Option (List SocketEvent) → Type 0
AllStay old new = (sockets : List Socket) → AreOpenAt sockets old → AreOpenAt sockets new

pub none_stays : (old new : Option (List SocketEvent)) → Adds old new [] → AllStay old new
none_stays old new adds = λ sockets was. elim adds [
  | inl lost ↦ subst (λ (o : Option (List SocketEvent)). AreOpenAt sockets o) (sym lost) tt
  | inr all ↦ none_known old new sockets all was
]

-- ---- by what happened

pub clock_stays : (old new : Option (List SocketEvent)) (n : ℕ) → Adds old new (clock n ∷ []) → AllStay old new
clock_stays old new n adds = λ sockets. on old new (clock n) sockets sockets adds
    (record { free = λ i c is. cc; comes = λ i c is. cc; stays = λ i c here. inr here })

pub failed_stays : (old new : Option (List SocketEvent)) (j d : ℕ) → Adds old new (failed j d ∷ []) → AllStay old new
failed_stays old new j d adds = λ sockets. on old new (failed j d) sockets sockets adds
    (record { free = λ i c is. cc; comes = λ i c is. cc; stays = λ i c here. inr here })

pub read_stays : (old new : Option (List SocketEvent)) (j d : ℕ) (bytes : List ℕ) → Adds old new (port j (PortEvent.read d bytes) ∷ []) →
    AllStay old new
read_stays old new j d bytes adds = λ sockets. on old new (port j (PortEvent.read d bytes)) sockets sockets adds
    (record { free = λ i c is. cc; comes = λ i c is. cc; stays = λ i c here. inr here })

pub written_stays : (old new : Option (List SocketEvent)) (j d : ℕ) (bytes : List ℕ) →
    Adds old new (port j (PortEvent.written d bytes) ∷ []) → AllStay old new
written_stays old new j d bytes adds = λ sockets. on old new (port j (PortEvent.written d bytes)) sockets sockets adds
    (record { free = λ i c is. cc; comes = λ i c is. cc; stays = λ i c here. inr here })

-- one that is closed
no_one : (s : Socket) → Contains [] s → ⊥
no_one s here = let lt = here.1 in absurd (omega (arith, lt))

shut_follows : (s : Socket) (before after : List Socket) →
    Follows (port s.instance (shut s.connection)) (before ++ s ∷ after) (before ++ after)
shut_follows s before after = record {
  free = λ i c is. cc;
  comes = λ i c is. cc;
  stays = λ i c here. elim (Contains-append_cases before (s ∷ after) (at i c) here) [
    | inl b ↦ inr (Contains-append_left before after (at i c) b)
    | inr r ↦ elim (Contains-append_cases (s ∷ []) after (at i c) r) [
      | inl one ↦ elim (Contains-push_cases [] s (at i c) one) [
        | inl none ↦ absurd (no_one (at i c) none)
        | inr same ↦ inl (ap (λ (t : Socket). port t.instance (shut t.connection)) same)
      ]
      | inr a ↦ inr (Contains-append_right before after (at i c) a)
    ]
  ];
}

pub shut_closes : (old new : Option (List SocketEvent)) (s : Socket) → Adds old new (port s.instance (shut s.connection) ∷ []) →
    (before after : List Socket) → AreOpenAt (before ++ s ∷ after) old → AreOpenAt (before ++ after) new
shut_closes old new s adds = λ before after. on old new (port s.instance (shut s.connection)) (before ++ s ∷ after) (before ++ after) adds
    (shut_follows s before after)

-- ---- one that is accepted

abbrev socket_of : SocketEvent → Socket
socket_of (port i (accepted c)) = at i c
socket_of e = at 0 0

not_taken : (i n : ℕ) (sockets : List Socket) → is_taken n sockets ≡ false → Contains sockets (at i n) → ⊥
not_taken i n sockets free here =
    let taken : is_taken n sockets ≡ true = list_any_at (λ (s : Socket). s.connection == n) sockets here.0 (at i n) here.1
    (ap (λ (s : Socket). s.connection == n) here.2 ∙ eq-eqb n n refl) in
    true≢false (sym taken ∙ free)

accepted_follows : (i n : ℕ) (sockets : List Socket) → is_taken n sockets ≡ false →
    Follows (port i (accepted n)) sockets (sockets ++ at i n ∷ [])
accepted_follows i n sockets free = record {
  free = λ j c is here. not_taken i n sockets free (subst (λ (s : Socket). Contains sockets s) (sym (ap socket_of is)) here);
  comes = λ j c is. subst (λ (s : Socket). Contains (sockets ++ at i n ∷ []) s) (ap socket_of is) (Contains-push sockets (at i n));
  stays = λ j c here. inr (Contains-append_left sockets (at i n ∷ []) (at j c) here);
}

pub accepted_among : (old new : Option (List SocketEvent)) (i n : ℕ) (sockets : List Socket) → Adds old new (port i (accepted n) ∷ []) →
    is_taken n sockets ≡ false → AreOpenAt sockets old → AreOpenAt (sockets ++ at i n ∷ []) new
accepted_among old new i n sockets adds free was =
    on old new (port i (accepted n)) sockets (sockets ++ at i n ∷ []) adds (accepted_follows i n sockets free) was

-- ---- at the beginning

none_here : {A : Type 0} (before after : List A) (y : A) → [] ≡ before ++ y ∷ after → ⊥
none_here [] after y is = cc
none_here (b ∷ before) after y is = cc

pub none_at_first : NumbersAreApart [] × AreAmong [] []
none_at_first = (
  (λ i c before between after so. absurd (none_here before (between ++ port i (accepted c) ∷ after) (port i (accepted c)) so)),
  (λ i c before after so. absurd (none_here before after (port i (accepted c)) so)),
)
