-- What the control frames leave that are put for a frame.
use Rattle.std.proofs.Common.{◌≡◌, ℕ, ◌+◌, ◌≤◌, List, [], ◌∷◌, ◌++◌, length, refl, ap, ◌∙◌, sym, subst, append_assoc, arith, length-append, inl, inr}
use Rattle.std.specs.Prelude.{Bool, true, false, map, IsTrue, ◌↔◌}
use Rattle.std.specs.Option.{option_to_list}
use Rattle.std.specs.List.{flat_map}
use Rattle.std.proofs.lemmas.Bool.{cases_Bool, leb-true, le-leb}
use Rattle.std.proofs.lemmas.List.{map-append}
use Rattle.std.proofs.lemmas.Grind.{flat_map-append}
use Rattle.http2_frames.specs.declared.frame.Frame.{Frame}
use Rattle.http2_frames.specs.Writing.{text_of, raw_of}
use Rattle.http2_streams.specs.History.{Entry, Out}
use Rattle.http2_streams.specs.declared.event.StreamEvent.{StreamEvent}
use Rattle.http2_streams.specs.Entries.{control_frames}
use Rattle.grpc_sending.specs.Owed.{OwedItem}
use Rattle.grpc_sending.specs.StoredSending.{SourceTexts, StoredSending, IsStoredSending}
use Rattle.grpc_sending.proofs.Histories.{append-nil, text_length}
use Rattle.conn_core.specs.Received.{may_put, frames_to_put, may_put_all}
use Rattle.conn_core.specs.StandsFor.{ConnectionValue}
use Rattle.conn_core.specs.Putting.{Puts}

-- ---- the frames that fit, of two lists

abbrev after : ℕ → List Frame → ℕ
after n fs = n + length (flat_map text_of fs)

may_put_all-append : (n : ℕ) (fs gs : List Frame) → may_put_all n fs ≡ true → may_put_all n (fs ++ gs) ≡ may_put_all (after n fs) gs
may_put_all-append n [] gs h = ap (λ m. may_put_all m gs) (omega arith)
may_put_all-append n (f ∷ fs) gs h = elim (cases_Bool (may_put n f)) [
  | inl here ↦
      let h' : may_put_all (n + length (text_of f)) fs ≡ true = rw here at h in
      let e : after (n + length (text_of f)) fs ≡ after n (f ∷ fs) = omega (arith, length-append (text_of f) (flat_map text_of fs)) in
      rw here (may_put_all-append (n + length (text_of f)) fs gs h' ∙ ap (λ m. may_put_all m gs) e)
  | inr short ↦ let no : false ≡ true = rw short at h in cc
]

none_more : (n : ℕ) (fs gs : List Frame) → may_put_all n fs ≡ false →
    (may_put_all n (fs ++ gs) ≡ false) × (frames_to_put n (fs ++ gs) ≡ frames_to_put n fs)
none_more n [] gs h = cc
none_more n (f ∷ fs) gs h = elim (cases_Bool (may_put n f)) [
  | inl here ↦
      let h' : may_put_all (n + length (text_of f)) fs ≡ false = rw here at h in
      let e = none_more (n + length (text_of f)) fs gs h' in
      rw here (e.0, ap (λ (xs : List Frame). f ∷ xs) e.1)
  | inr short ↦ rw short (refl, refl)
]

pub fitting_all : (n : ℕ) (fs : List Frame) → may_put_all n fs ≡ true → frames_to_put n fs ≡ fs
fitting_all n [] h = refl
fitting_all n (f ∷ fs) h = elim (cases_Bool (may_put n f)) [
  | inl here ↦ let h' : may_put_all (n + length (text_of f)) fs ≡ true = rw here at h in
      rw here (ap (λ (xs : List Frame). f ∷ xs) (fitting_all (n + length (text_of f)) fs h'))
  | inr short ↦ let no : false ≡ true = rw short at h in cc
]

frames_to_put-append : (n : ℕ) (fs gs : List Frame) → may_put_all n fs ≡ true →
    frames_to_put n (fs ++ gs) ≡ fs ++ frames_to_put (after n fs) gs
frames_to_put-append n [] gs h = ap (λ m. frames_to_put m gs) (omega arith)
frames_to_put-append n (f ∷ fs) gs h = elim (cases_Bool (may_put n f)) [
  | inl here ↦
      let h' : may_put_all (n + length (text_of f)) fs ≡ true = rw here at h in
      let e : after (n + length (text_of f)) fs ≡ after n (f ∷ fs) = omega (arith, length-append (text_of f) (flat_map text_of fs)) in
      rw here (ap (λ (xs : List Frame). f ∷ xs) (frames_to_put-append (n + length (text_of f)) fs gs h'
      ∙ ap (λ m. fs ++ frames_to_put m gs) e))
  | inr short ↦ let no : false ≡ true = rw short at h in cc
]

-- ---- one frame after another

abbrev pub with_sending : ConnectionValue → StoredSending → ConnectionValue
with_sending v w = record {
  reader = v.reader;
  streams = v.streams;
  sending = w;
  calls = v.calls;
  due = v.due;
  ended = v.ended;
  reset_count = v.reset_count;
}

pub puts_more : (v w x : ConnectionValue) (fs gs : List Frame) (all : Bool) → Puts v fs true w → Puts w gs all x → Puts v (fs ++ gs) all x
puts_more v w x fs gs all a b =
    let n : ℕ = length v.sending.pending in
    let fit : may_put_all (length v.sending.pending) fs ≡ true = sym a.all in
    let whole : frames_to_put (length v.sending.pending) fs ≡ fs = fitting_all (length v.sending.pending) fs fit in
    let size : length w.sending.pending ≡ after (length v.sending.pending) fs =
    a.size ∙ ap (λ (xs : List Frame). length v.sending.pending + length (flat_map text_of xs)) whole in
    let joined : frames_to_put (length v.sending.pending) (fs ++ gs) ≡ fs ++ frames_to_put (length w.sending.pending) gs =
    frames_to_put-append (length v.sending.pending) fs gs fit ∙ ap (λ m. fs ++ frames_to_put m gs) (sym size) in
    record {
      all = b.all ∙ ap (λ m. may_put_all m gs) size ∙ sym (may_put_all-append (length v.sending.pending) fs gs fit);
      sending = λ texts d os st.
          let one : IsStoredSending texts w.sending (d ++ map Out fs) os =
          subst (λ (xs : List Frame). IsStoredSending texts w.sending (d ++ map Out xs) os) whole (a.sending texts d os st) in
          let two = b.sending texts (d ++ map Out fs) os one in
          let e : (d ++ map Out fs) ++ map Out (frames_to_put (length w.sending.pending) gs) ≡ d
          ++ map Out (frames_to_put (length v.sending.pending) (fs ++ gs)) =
          append_assoc d (map Out fs) (map Out (frames_to_put (length w.sending.pending) gs))
          ∙ ap (λ (es : List Entry). d ++ es) (sym (map-append Out fs (frames_to_put (length w.sending.pending) gs)))
          ∙ ap (λ (xs : List Frame). d ++ map Out xs) (sym joined) in
          subst (λ (e : List Entry). IsStoredSending texts x.sending e os) e two;
      size = omega (
        arith,
        b.size,
        size,
        ap (λ (xs : List Frame). length (flat_map text_of xs)) joined,
        ap length
            (flat_map-append text_of fs (frames_to_put (length w.sending.pending) gs)),
        length-append (flat_map text_of fs)
            (flat_map text_of (frames_to_put (length w.sending.pending) gs)),
      );
      queues = b.queues ∙ a.queues;
      rest = b.rest ∙ ap (λ (y : ConnectionValue). with_sending y x.sending) a.rest;
    }

pub puts_short : (v w : ConnectionValue) (fs gs : List Frame) → Puts v fs false w → Puts v (fs ++ gs) false w
puts_short v w fs gs a =
    let e = none_more (length v.sending.pending) fs gs (sym a.all) in
    record {
      all = sym e.0;
      sending = λ texts d os st. subst (λ (xs : List Frame). IsStoredSending texts w.sending (d ++ map Out xs) os) (sym e.1)
          (a.sending texts d os st);
      size = a.size ∙ ap (λ (xs : List Frame). length v.sending.pending + length (flat_map text_of xs)) (sym e.1);
      queues = a.queues;
      rest = a.rest;
    }

-- ---- one frame

pub fits_is : (n : ℕ) (f : Frame) (b : Bool) → (IsTrue b ↔ ((n + (9 + length (raw_of f).payload)) ≤ 131055)) → may_put n f ≡ b
fits_is n f true h = le-leb (n + length (text_of f)) 131055 (let few = h.0 refl in omega (arith, few, text_length (raw_of f)))
fits_is n f false h = elim (cases_Bool (may_put n f)) [
  | inl few ↦
      let small : (n + length (text_of f)) ≤ 131055 = leb-true (n + length (text_of f)) 131055 few in
      let no : false ≡ true = h.1 (omega (arith, small, text_length (raw_of f))) in
      absurd (let z : ⊥ = cc in z)
  | inr many ↦ many
]

pub puts_one : (v old : ConnectionValue) (w : StoredSending) (f : Frame) (b : Bool) → v ≡ old → b ≡ true →
    (IsTrue b ↔ ((length v.sending.pending + (9 + length (raw_of f).payload)) ≤ 131055)) →
    ((texts : SourceTexts) (d : List Entry) (os : List OwedItem) → IsStoredSending texts v.sending d os →
    IsStoredSending texts w (d ++ Out f ∷ []) os) → length w.pending ≡ length v.sending.pending + (9 + length (raw_of f).payload) →
    w.queues ≡ v.sending.queues → Puts old (f ∷ []) true (with_sending v w)
puts_one v old w f b is room-is room stands size queues =
    let fit : may_put (length v.sending.pending) f ≡ true = fits_is (length v.sending.pending) f b room ∙ room-is in
    let one : frames_to_put (length v.sending.pending) (f ∷ []) ≡ f ∷ [] = rw fit refl in
    subst (λ (y : ConnectionValue). Puts y (f ∷ []) true (with_sending v w)) is (record {
      all = sym (rw fit refl);
      sending = λ texts d os st. subst (λ (xs : List Frame). IsStoredSending texts w (d ++ map Out xs) os) (sym one) (stands texts d os st);
      size = omega (
        arith,
        size,
        ap (λ (xs : List Frame). length (flat_map text_of xs)) one,
        ap length (append-nil (text_of f)),
        text_length
            (raw_of f),
      );
      queues = queues;
      rest = refl;
    })

-- ---- the four of an answer

pub puts_next : (v w x : ConnectionValue) (fs gs : List Frame) (b c : Bool) → b ≡ true → Puts v fs b w → Puts w gs c x →
    Puts v (fs ++ gs) c x
puts_next v w x fs gs true c is one two = puts_more v w x fs gs c one two
puts_next v w x fs gs false c is one two = cc

pub puts_stop : (v w : ConnectionValue) (fs gs : List Frame) (b : Bool) → b ≡ false → Puts v fs b w → Puts v (fs ++ gs) false w
puts_stop v w fs gs true is one = cc
puts_stop v w fs gs false is one = puts_short v w fs gs one

abbrev pub first : StreamEvent → List Frame
first a = option_to_list a.acknowledgement

abbrev pub second : StreamEvent → List Frame
second a = option_to_list a.connection_update

abbrev pub third : StreamEvent → List Frame
third a = option_to_list a.stream_update

abbrev fourth : StreamEvent → List Frame
fourth a = option_to_list a.reset

pub stops_first : (a : StreamEvent) (v w : ConnectionValue) (b : Bool) → b ≡ false → Puts v (first a) b w →
    Puts v (control_frames a) false w
stops_first a v w b is one = puts_stop v w (first a) (second a ++ (third a ++ fourth a)) b is one

pub stops_second : (a : StreamEvent) (v w x : ConnectionValue) (b c : Bool) → b ≡ true → c ≡ false → Puts v (first a) b w →
    Puts w (second a) c x → Puts v (control_frames a) false x
stops_second a v w x b c is stops one two = puts_next v w x (first a) (second a ++ (third a ++ fourth a)) b false is one
    (puts_stop w x (second a) (third a ++ fourth a) c stops two)

pub stops_third : (a : StreamEvent) (v w x y : ConnectionValue) (b c d : Bool) → b ≡ true → c ≡ true → d ≡ false → Puts v (first a) b w →
    Puts w (second a) c x → Puts x (third a) d y → Puts v (control_frames a) false y
stops_third a v w x y b c d is is' stops one two three =
    puts_next v w y (first a) (second a ++ (third a ++ fourth a)) b false is one
    (puts_next w x y (second a) (third a ++ fourth a) c false is' two (puts_stop x y (third a) (fourth a) d stops three))

pub comes_to_end : (a : StreamEvent) (v w x y z : ConnectionValue) (b c d e : Bool) → b ≡ true → c ≡ true → d ≡ true →
    Puts v (first a) b w → Puts w (second a) c x → Puts x (third a) d y → Puts y (fourth a) e z → Puts v (control_frames a) e z
comes_to_end a v w x y z b c d e is is' is'' one two three four =
    puts_next v w z (first a) (second a ++ (third a ++ fourth a)) b e is one
    (puts_next w x z (second a) (third a ++ fourth a) c e is' two (puts_next x y z (third a) (fourth a) d e is'' three four))
