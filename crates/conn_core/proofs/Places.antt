-- One call among others.
use Rattle.std.proofs.Common.{◌≡◌, ℕ, suc, ◌<◌, ◌≤◌, List, [], ◌∷◌, ◌++◌, length, refl, ap, ◌∙◌, sym, subst, append_assoc, arith, inl, inr, get_or}
use Rattle.std.proofs.Math.ListN.{set}
use Rattle.std.specs.Prelude.{Bool, true, false, ◌==◌, ◌⊎◌, nat_lt, cond, map, filter, Option, Some, None, Result, Ok, Err, OnOk}
use Rattle.std.specs.List.{list_any}
use Rattle.std.specs.Option.{is_some}
use Rattle.std.proofs.lemmas.Bool.{cases_Bool, eqb-true}
use Rattle.std.proofs.lemmas.Bool.Decides.{nat_tests}
use Rattle.http2_streams.specs.declared.stream.Stream.{Stream}
use Rattle.grpc_messages.specs.declared.error.MessagesError.{MessagesError}
use Rattle.rpc.specs.declared.method.Method.{Method}
use Rattle.conn_core.specs.declared.call.Call.{Call}
use Rattle.conn_core.specs.declared.event.CallEvent.{CallEvent}
use Rattle.conn_core.specs.declared.event.CallEvent.TheVariants.{Head}
use Rattle.conn_core.specs.Calls.{messages_of, events_of_content}
use Rattle.conn_core.specs.StandsFor.{calls_kept, has_live_stream, call_on, call_stream}
use Rattle.conn_core.specs.CallSteps.{call_place, TakesOn, BeginsCall, has_call}
use Rattle.conn_core.proofs.Takes.{Took}

-- ---- the first call of a stream

beyond : (s : ℕ) (c : Call) (cs : List Call) → (c.stream == s) ≡ false → call_place s (c ∷ cs) < length (c ∷ cs) →
    call_place s cs < length cs
beyond s c cs later h =
    let k : cond (c.stream == s) 0 (suc (call_place s cs)) < suc (length cs) = h in
    let e : cond (c.stream == s) 0 (suc (call_place s cs)) ≡ suc (call_place s cs) = rw later refl in
    omega (arith, k, e)

-- the call at the place
pub found_at : (s : ℕ) (cs : List Call) (d : Call) → call_place s cs < length cs →
    ((get_or cs (call_place s cs) d).stream ≡ s) × (call_on s cs ≡ Some (get_or cs (call_place s cs) d).messages)
found_at s [] d h = absurd (omega (arith, h))
found_at s (c ∷ cs) d h = elim (cases_Bool (c.stream == s)) [
  | inl here ↦ let e : c.stream ≡ s = eqb-true c.stream s here in rw here (e, refl)
  | inr later ↦ let rest = found_at s cs d (beyond s c cs later h) in rw later rest
]

-- another one in its place
pub set_at : (s : ℕ) (cs : List Call) (x : Call) → call_place s cs < length cs → x.stream ≡ s →
    call_on s (set cs (call_place s cs) x) ≡ Some x.messages
set_at s [] x h is = absurd (omega (arith, h))
set_at s (c ∷ cs) x h is = elim (cases_Bool (c.stream == s)) [
  | inl here ↦ let k : (x.stream == s) ≡ true = grind (arith, nat_tests) in rw (here, k) refl
  | inr later ↦ rw (later, later) (set_at s cs x (beyond s c cs later h) is)
]

pub set_others : (s t : ℕ) (cs : List Call) (x : Call) → call_place s cs < length cs → x.stream ≡ s → (s == t) ≡ false →
    call_on t (set cs (call_place s cs) x) ≡ call_on t cs
set_others s t [] x h is other = absurd (omega (arith, h))
set_others s t (c ∷ cs) x h is other = elim (cases_Bool (c.stream == s)) [
  | inl here ↦
      let e : c.stream ≡ s = eqb-true c.stream s here in
      let k : (x.stream == t) ≡ false = ap (λ (n : ℕ). n == t) is ∙ other in
      let l : (c.stream == t) ≡ false = ap (λ (n : ℕ). n == t) e ∙ other in
      rw (here, k, l) refl
  | inr later ↦
      let rest = set_others s t cs x (beyond s c cs later h) is other in
      rw later (ap (λ (o : Option (Result (List ℕ) MessagesError)). cond (c.stream == t) (Some c.messages) o) rest)
]

pub set_streams : (s : ℕ) (cs : List Call) (x : Call) → call_place s cs < length cs → x.stream ≡ s →
    map call_stream (set cs (call_place s cs) x) ≡ map call_stream cs
set_streams s [] x h is = absurd (omega (arith, h))
set_streams s (c ∷ cs) x h is = elim (cases_Bool (c.stream == s)) [
  | inl here ↦ let e : c.stream ≡ s = eqb-true c.stream s here in rw here (ap (λ (n : ℕ). n ∷ map call_stream cs) (is ∙ sym e))
  | inr later ↦ rw later (ap (λ (ns : List ℕ). c.stream ∷ ns) (set_streams s cs x (beyond s c cs later h) is))
]

pub no_place : (s : ℕ) (cs : List Call) → length cs ≤ call_place s cs → call_on s cs ≡ None
no_place s [] h = refl
no_place s (c ∷ cs) h = elim (cases_Bool (c.stream == s)) [
  | inl here ↦ let k : suc (length cs) ≤ cond (c.stream == s) 0 (suc (call_place s cs)) = h in
      let e : cond (c.stream == s) 0 (suc (call_place s cs)) ≡ 0 = rw here refl in absurd (omega (arith, k, e))
  | inr later ↦
      let k : suc (length cs) ≤ cond (c.stream == s) 0 (suc (call_place s cs)) = h in
      let e : cond (c.stream == s) 0 (suc (call_place s cs)) ≡ suc (call_place s cs) = rw later refl in
      let h' : length cs ≤ call_place s cs = omega (arith, k, e) in
      rw later (no_place s cs h')
]

-- ---- more of a call's text

pub takes_none : (s : ℕ) (content : List ℕ) (end_stream : Bool) (cs : List Call) (es : List CallEvent) → call_on s cs ≡ None →
    TakesOn s content end_stream cs cs es es
takes_none s content end_stream cs es none = record {
  streams = refl;
  others = λ t other. refl;
  no_call = λ h. (h, refl);
  call = λ u h. let no : None ≡ Some (messages_of u).end = sym none ∙ h in absurd cc;
}

pub takes_at : (s : ℕ) (content : List ℕ) (end_stream : Bool) (cs : List Call) (x d : Call) (before after : List CallEvent) →
    call_place s cs < length cs → x.stream ≡ (get_or cs (call_place s cs) d).stream
    → ((t : List ℕ) → (get_or cs (call_place s cs) d).messages ≡ (messages_of t).end →
    Took (get_or cs (call_place s cs) d).stream content end_stream x.messages before after t) →
    TakesOn s content end_stream cs (set cs (call_place s cs) x) before after
takes_at s content end_stream cs x d before after h same takes =
    let at = found_at s cs d h in
    let is : x.stream ≡ s = same ∙ at.0 in
    record {
      streams = set_streams s cs x h is;
      others = λ t other. set_others s t cs x h is other;
      no_call = λ none. let no : Some (get_or cs (call_place s cs) d).messages ≡ None = sym at.1 ∙ none in absurd cc;
      call = λ u k.
          let m : (get_or cs (call_place s cs) d).messages ≡ (messages_of u).end =
          let e : Some (get_or cs (call_place s cs) d).messages ≡ Some (messages_of u).end = sym at.1 ∙ k in cc in
          let t = takes u m in (
            set_at s cs x h is ∙ ap (λ (r : Result (List ℕ) MessagesError). Some r) t.messages,
            t.events ∙ ap (λ (n : ℕ). before ++ events_of_content n u content end_stream) at.0,
          );
    }

-- ---- calls that are dropped

pub has_is_some : (s : ℕ) (cs : List Call) → has_call s cs ≡ is_some (call_on s cs)
has_is_some s [] = refl
has_is_some s (c ∷ cs) = elim (cases_Bool (c.stream == s)) [
  | inl here ↦ rw here refl
  | inr later ↦ rw later (has_is_some s cs)
]

pub kept_on : (q : ℕ → Bool) (t : ℕ) (cs : List Call) → q t ≡ true → call_on t (filter (λ c. q c.stream) cs) ≡ call_on t cs
kept_on q t [] h = refl
kept_on q t (c ∷ cs) h = elim (cases_Bool (c.stream == t)) [
  | inl here ↦
      let e : c.stream ≡ t = eqb-true c.stream t here in
      let k : q c.stream ≡ true = ap q e ∙ h in
      rw (k, here) refl
  | inr other ↦ elim (cases_Bool (q c.stream)) [
    | inl k ↦ rw (k, other) (kept_on q t cs h)
    | inr k ↦ rw (k, other) (kept_on q t cs h)
  ]
]

-- where there was no call none is kept
pub none_kept : (q : ℕ → Bool) (t : ℕ) (cs : List Call) → call_on t cs ≡ None → call_on t (filter (λ c. q c.stream) cs) ≡ None
none_kept q t [] h = refl
none_kept q t (c ∷ cs) h = elim (cases_Bool (c.stream == t)) [
  | inl here ↦ let k : cond (c.stream == t) (Some c.messages) (call_on t cs) ≡ None = h in let no : Some c.messages ≡ None = rw here at k in
      absurd cc
  | inr other ↦
      let k : cond (c.stream == t) (Some c.messages) (call_on t cs) ≡ None = h in
      let h' : call_on t cs ≡ None = rw other at k in
      elim (cases_Bool (q c.stream)) [
        | inl y ↦ rw (y, other) (none_kept q t cs h')
        | inr y ↦ rw y (none_kept q t cs h')
      ]
]

pub kept_streams : (q : ℕ → Bool) (cs : List Call) → map call_stream (filter (λ c. q c.stream) cs) ≡ filter q (map call_stream cs)
kept_streams q [] = refl
kept_streams q (c ∷ cs) = elim (cases_Bool (q c.stream)) [
  | inl k ↦ rw k (ap (λ (ns : List ℕ). c.stream ∷ ns) (kept_streams q cs))
  | inr k ↦ rw k (kept_streams q cs)
]

pub more_on : (t : ℕ) (cs : List Call) (c : Call) → (c.stream == t) ≡ false → call_on t (cs ++ c ∷ []) ≡ call_on t cs
more_on t [] c other = rw other refl
more_on t (x ∷ cs) c other = ap (λ (o : Option (Result (List ℕ) MessagesError)). cond (x.stream == t) (Some x.messages) o)
    (more_on t cs c other)

pub last_on : (s : ℕ) (cs : List Call) (c : Call) → call_on s cs ≡ None → c.stream ≡ s → call_on s (cs ++ c ∷ []) ≡ Some c.messages
last_on s [] c none is = let k : (c.stream == s) ≡ true = grind (arith, nat_tests) in rw k refl
last_on s (x ∷ cs) c none is = elim (cases_Bool (x.stream == s)) [
  | inl here ↦ let k : cond (x.stream == s) (Some x.messages) (call_on s cs) ≡ None = none in let no : Some x.messages ≡ None =
      rw here at k in absurd cc
  | inr other ↦
      let k : cond (x.stream == s) (Some x.messages) (call_on s cs) ≡ None = none in
      let h : call_on s cs ≡ None = rw other at k in
      rw other (last_on s cs c h is)
]

-- no call has the number
pub not_among : (s : ℕ) (cs : List Call) → call_on s cs ≡ None → list_any (λ t. t == s) (map call_stream cs) ≡ false
not_among s [] h = refl
not_among s (c ∷ cs) h = elim (cases_Bool (c.stream == s)) [
  | inl here ↦ let k : cond (c.stream == s) (Some c.messages) (call_on s cs) ≡ None = h in let no : Some c.messages ≡ None = rw here at k in
      absurd cc
  | inr other ↦
      let k : cond (c.stream == s) (Some c.messages) (call_on s cs) ≡ None = h in
      let h' : call_on s cs ≡ None = rw other at k in
      rw other (not_among s cs h')
]

-- ---- the same by what the code holds

pub takes_none_by : (s i n : ℕ) (content : List ℕ) (end_stream : Bool) (cs : List Call) (es : List CallEvent) → i ≡ call_place s cs →
    n ≤ i → n ≡ length cs → TakesOn s content end_stream cs cs es es
takes_none_by s i n content end_stream cs es at past size =
    takes_none s content end_stream cs es (no_place s cs (omega (arith, at, past, size)))

abbrev pub TakesEvents : Call → Call → List ℕ → Bool → List CallEvent → List CallEvent → Type 0
TakesEvents old new content end_stream before after = (t : List ℕ) → old.messages ≡ (messages_of t).end →
    after ≡ before ++ events_of_content old.stream t content end_stream

abbrev pub TakesMessages : Call → Call → List ℕ → Type 0
TakesMessages old new content = (t : List ℕ) → old.messages ≡ (messages_of t).end → new.messages ≡ (messages_of (t ++ content)).end

pub takes_at_by : {T E : Type 0} (r : Result T E) (s i n : ℕ) (content : List ℕ) (end_stream : Bool) (cs : List Call) (old new d : Call)
    (before after : List CallEvent) → i ≡ call_place s cs → i < n → n ≡ length cs → old ≡ get_or cs i d → new.stream ≡ old.stream →
    OnOk r (TakesMessages old new content) → OnOk r (TakesEvents old new content end_stream before after) →
    OnOk r (TakesOn s content end_stream cs (set cs i new) before after)
takes_at_by (Err x) s i n content end_stream cs old new d before after at less size is same messages events = tt
takes_at_by (Ok x) s i n content end_stream cs old new d before after at less size is same messages events =
    let is' : old ≡ get_or cs (call_place s cs) d = is ∙ ap (λ (k : ℕ). get_or cs k d) at in
    subst (λ (k : ℕ). TakesOn s content end_stream cs (set cs k new) before after) (sym at)
    (takes_at s content end_stream cs new d before after (omega (arith, at, less, size)) (same ∙ ap (λ (c : Call). c.stream) is')
    (subst (λ (c : Call). (t : List ℕ) → c.messages ≡ (messages_of t).end → Took c.stream content end_stream new.messages before after t)
    is' (λ t h. record { messages = messages t h; events = events t h })))

-- all calls stay, or those on live streams
abbrev pub KeepsOpen : List Stream → List Call → List Call → Type 0
KeepsOpen live old new = (new ≡ old) ⊎ (new ≡ filter (has_live_stream live) old)

pub kept_open : (n : ℕ) (live : List Stream) (old new : List Call) → new ≡ calls_kept n live old → KeepsOpen live old new
kept_open n live old new is = elim (cases_Bool (nat_lt (length live) n)) [
  | inl fewer ↦ inr (is ∙ rw fewer refl)
  | inr all ↦ inl (is ∙ rw all refl)
]

pub begins_by : (s : ℕ) (method : Method) (end_stream : Bool) (n : ℕ) (live : List Stream) (old kept new : List Call) (fresh call : Call)
    (before mid after : List CallEvent) → n ≡ length old → kept ≡ calls_kept n live old → fresh.stream ≡ s →
    fresh.messages ≡ (messages_of []).end → call.stream ≡ fresh.stream → TakesMessages fresh call [] → mid ≡ before ++ Head s method ∷ [] →
    TakesEvents fresh call [] end_stream mid after → new ≡ kept ++ call ∷ [] → BeginsCall s method end_stream live old new before after
begins_by s method end_stream n live old kept new fresh call before mid after count keeps at nothing same messages head events calls =
    record {
      call = call;
      stream = same ∙ at;
      messages = messages [] nothing;
      calls = calls ∙ ap (λ (cs : List Call). cs ++ call ∷ []) (keeps ∙ ap (λ (k : ℕ). calls_kept k live old) count);
      events = events [] nothing
          ∙ ap (λ (n : ℕ). mid ++ events_of_content n [] [] end_stream) at
          ∙ ap (λ (es : List CallEvent). es ++ events_of_content s [] [] end_stream) head
          ∙ append_assoc before (Head s method ∷ []) (events_of_content s [] [] end_stream);
    }
