-- What the calls leave that read a frame, by what the code holds.
use Rattle.std.proofs.Common.{◌≡◌, ℕ, ◌<◌, ◌≤◌, List, [], ◌∷◌, ◌++◌, length, refl, ap, ◌∙◌, sym, subst, append_assoc, arith, inl, inr}
use Rattle.std.specs.Prelude.{Bool, true, false, not, ◌&&◌, nat_le, map, take, ◌+◌, cond, Option, Some, None, Result, Ok, Err, OnOk, OnErr, IfOk, IfErr}
use Rattle.http2_frames.specs.declared.codes.ErrorCode.{ErrorCode}
use Rattle.http2_frames.specs.declared.codes.ErrorCode.TheVariants.{EnhanceYourCalm}
use Rattle.http2_frames.specs.declared.error.FrameError.{FrameError}
use Rattle.http2_frames.specs.declared.frame.RawFrame.{RawFrame}
use Rattle.http2_frames.specs.declared.frame.Frame.{Frame}
use Rattle.http2_frames.specs.declared.reader.TheConstants.{CLIENT_PREFACE}
use Rattle.http2_frames.specs.Items.{behind}
use Rattle.http2_frames.specs.Reading.{split}
use Rattle.http2_frames.specs.Wire.{Split}
use Rattle.http2_frames.specs.Reader.{FrameReaderValue, text_left, split_left, with_more_bytes, front_of, IsReader}
use Rattle.http2_streams.specs.declared.fault.ConnectionFault.{ConnectionFault}
use Rattle.http2_streams.specs.declared.fault.ConnectionFault.TheVariants.{Connection}
use Rattle.http2_streams.specs.Decoding.{Gives}
use Rattle.http2_streams.specs.declared.event.StreamEvent.{StreamEvent}
use Rattle.http2_streams.specs.declared.stream.Stream.{Stream}
use Rattle.http2_streams.specs.History.{Entry, Out, has_failed}
use Rattle.http2_streams.specs.LiveStreams.{stream_of_event}
use Rattle.http2_streams.specs.Standing.{Standing}
use Rattle.http2_streams.specs.StandsFor.{InMemory, AreStreams}
use Rattle.http2_streams.specs.Rules.{answer_after, reading_fault}
use Rattle.http2_streams.specs.Entries.{control_frames, entries_of, goaway_frame}
use Rattle.grpc_sending.specs.Owed.{OwedItem}
use Rattle.grpc_sending.specs.StoredSending.{SourceTexts, StoredSending, QueuesEndWithin, IsStoredSending, stored_on}
use Rattle.grpc_sending.proofs.Histories.{append-nil}
use Rattle.conn_core.specs.declared.call.Call.{Call}
use Rattle.conn_core.specs.declared.event.CallEvent.{CallEvent}
use Rattle.grpc_sending.specs.Bytes.{untaken_count}
use Rattle.conn_core.specs.declared.floods.TheConstants.{MOST_RESETS}
use Rattle.conn_core.proofs.ResetCounts.{resets_by, floods_kept, counts_frame}
use Rattle.conn_core.specs.Received.{received_raw_frames, may_put_all, fits}
use Rattle.conn_core.specs.Past.{Past, with_frame}
use Rattle.conn_core.specs.StandsFor.{ConnectionValue, IsConnection, IsAlive, StandsAfterReading, ReadsOneFrame, IsNextFrame, unread_length, call_stream}
use Rattle.conn_core.specs.Step.{IsTaking, HasBrought, TakesFrame, with_reader}
use Rattle.conn_core.specs.Putting.{Puts, PutsUnless, Fails, AwaitsItsAnswer, ended_calls}
use Rattle.conn_core.proofs.Answered.{answered_fits, fits_of}
use Rattle.conn_core.proofs.Ends.{answered_cut, taken_fault, read_fault}

-- ---- an error of the connection

pub fails_by : (v old : ConnectionValue) (code : ErrorCode) (reset : Option ℕ) (one two : StoredSending) (u : Standing)
    (calls none : List Call) (due : List CallEvent) (f : Frame) (h : ℕ) (live : List Stream) → v ≡ old → h ≡ v.streams.highest →
    f ≡ goaway_frame h code
    → ((texts : SourceTexts) (d : List Entry) (os : List OwedItem) → IsStoredSending texts v.sending d os →
    IsStoredSending texts one (d ++ Out f ∷ []) os)
    → ((texts : SourceTexts) (d : List Entry) (os : List OwedItem) → has_failed d ≡ true → IsStoredSending texts one d os →
    IsStoredSending texts two d os)
    → ((d : List Entry) → has_failed (d ++ Out (goaway_frame v.streams.highest code) ∷ []) ≡ true)
    → live ≡ v.streams.live → calls ≡ v.calls → due ≡ v.due ++ ended_calls live reset (map call_stream calls) →
    ((d : List Entry) → has_failed d ≡ true → AreStreams u d) → none ≡ [] → two.queues ≡ []
    → Fails old code reset (record {
      reader = v.reader;
      streams = u;
      sending = two;
      calls = none;
      due = due;
      ended = true;
      reset_count =
          v.reset_count;
    })
fails_by v old code reset one two u calls none due f h live is top is_goaway put forget failed lives same ends streams empty dropped =
    let f_is : f ≡ goaway_frame v.streams.highest code = is_goaway ∙ ap (λ (n : ℕ). goaway_frame n code) top in
    subst (λ (y : ConnectionValue). Fails y code reset
    (record { reader = v.reader; streams = u; sending = two; calls = none; due = due; ended = true; reset_count = v.reset_count })) is
    (record {
      ended = refl;
      streams = streams;
      sending = λ texts d os st. forget texts (d ++ Out (goaway_frame v.streams.highest code) ∷ []) os (failed d)
          (subst (λ (g : Frame). IsStoredSending texts one (d ++ Out g ∷ []) os) f_is (put texts d os st));
      due = ends ∙ ap (λ (xs : List Stream). v.due ++ ended_calls xs reset (map call_stream calls)) lives
          ∙ ap (λ (cs : List Call). v.due ++ ended_calls v.streams.live reset (map call_stream cs)) same;
      calls = empty;
      none = λ s. ap (stored_on s) dropped;
    })

-- ---- the answer to a frame

pub unless_flood : (flood : Bool) (v w : ConnectionValue) (fs : List Frame) (all : Bool) → flood ≡ true → Puts v fs all w →
    PutsUnless flood v fs false w
unless_flood flood v w fs all is puts = record { all = all; puts = puts; is = at all (ap not is) } where
  at : (b : Bool) → not flood ≡ false → false ≡ (b && not flood)
  at true h = sym h
  at false h = refl

pub unless_calm : (flood : Bool) (v w : ConnectionValue) (fs : List Frame) (all : Bool) → flood ≡ false → Puts v fs all w →
    PutsUnless flood v fs all w
unless_calm flood v w fs all is puts = record { all = all; puts = puts; is = at all (ap not is) } where
  at : (b : Bool) → not flood ≡ true → b ≡ (b && not flood)
  at true h = sym h
  at false h = refl

-- what a flood, or want of room, comes to
pub short_of : (flood all b : Bool) (n : ℕ) (a : StreamEvent) → b ≡ false → b ≡ (all && not flood) →
    may_put_all n (control_frames a) ≡ all → fits flood n a ≡ false
short_of flood all b n a cut is fit = ap (λ y. y && not flood) fit ∙ sym is ∙ cut

no_flood : (flood all b : Bool) → b ≡ true → b ≡ (all && not flood) → flood ≡ false
no_flood true true b fits is = cc
no_flood true false b fits is = cc
no_flood false all b fits is = refl

all_put : (flood all b : Bool) → b ≡ true → b ≡ (all && not flood) → all ≡ true
all_put flood true b fits is = refl
all_put flood false b fits is = cc

pub cut_by : (texts : SourceTexts) {T E : Type 0} (r : Result T E) (v w x : ConnectionValue) (a : StreamEvent) (flood : Bool)
    (reset : Option ℕ) (b : Bool) → b ≡ false → PutsUnless flood v (control_frames a) b w → reset ≡ stream_of_event a.event →
    OnOk r (Fails w EnhanceYourCalm reset x) → OnOk r
    ((p : Past) (f : RawFrame) → AwaitsItsAnswer texts v p f a flood → IsConnection texts x (with_frame p f))
cut_by texts (Err e) v w x a flood reset b cut put is fails = tt
cut_by texts (Ok y) v w x a flood reset b cut given is fails = λ p f h.
    let short = short_of flood given.all b (untaken_count p.history) a cut given.is
    (fits_of texts v p f a flood w given.all h given.puts) in
    answered_cut texts v w x p f a flood h given.all given.puts short (subst (λ (o : Option ℕ). Fails w EnhanceYourCalm o x) is fails)

pub brought_by : (texts : SourceTexts) {T E : Type 0} (r : Result T E) (v w x : ConnectionValue) (a : StreamEvent) (flood : Bool)
    (b : Bool) → b ≡ true → PutsUnless flood v (control_frames a) b w →
    OnOk r ((p : Past) (f : RawFrame) → HasBrought texts w p f a.event → IsConnection texts x (with_frame p f)) →
    OnOk r ((p : Past) (f : RawFrame) → AwaitsItsAnswer texts v p f a flood → IsConnection texts x (with_frame p f))
brought_by texts (Err e) v w x a flood b fit put bring = tt
brought_by texts (Ok y) v w x a flood b fit given bring = λ p f h.
    let puts : Puts v (control_frames a) true w =
    subst (λ (c : Bool). Puts v (control_frames a) c w) (all_put flood given.all b fit given.is) given.puts in
    let calm : AwaitsItsAnswer texts v p f a false =
    subst (λ (c : Bool). AwaitsItsAnswer texts v p f a c) (no_flood flood given.all b fit given.is) h in
    bring p f (answered_fits texts v w p f a calm puts)

-- ---- a frame

abbrev with_streams : ConnectionValue → Standing → ConnectionValue
with_streams v u = record {
  reader = v.reader;
  streams = u;
  sending = v.sending;
  calls = v.calls;
  due = v.due;
  ended = v.ended;
  reset_count = v.reset_count;
}

abbrev with_counted : ConnectionValue → Standing → ℕ → ConnectionValue
with_counted v u m = record {
  reader = v.reader;
  streams = u;
  sending = v.sending;
  calls = v.calls;
  due = v.due;
  ended = v.ended;
  reset_count = m;
}

-- what the code says of a flood, and how it counts
pub record Counts (v : ConnectionValue) (f : RawFrame) (flood : Bool) (m : ℕ) : Type 0 where
  pub resets : Bool
  pub resets_is : resets ≡ resets_by v.streams f
  pub floods : flood ≡ (resets && nat_le MOST_RESETS v.reset_count)
  pub counted : (resets && nat_le MOST_RESETS v.reset_count) ≡ false → m ≡ cond resets (v.reset_count + 1) v.reset_count

is_answered : (texts : SourceTexts) (v : ConnectionValue) (u : Standing) (m : ℕ) (p : Past) (f : RawFrame) (a : StreamEvent)
    (flood : Bool) → Counts v f flood m → IsTaking texts v p f → answer_after p.history f ≡ Ok a →
    AreStreams u (p.history ++ entries_of p.history f) → AwaitsItsAnswer texts (with_counted v u m) p f a flood
is_answered texts v u m p f a flood n h is streams = record {
  floods = floods_kept v.streams p.history f v.reset_count n.resets flood h.streams h.lives h.counted n.resets_is n.floods;
  counted = counts_frame v.streams p.history f v.reset_count m n.resets flood h.streams h.lives h.counted n.resets_is n.floods n.counted;
  ended = h.ended;
  lives = h.lives;
  causes = is;
  before = v.streams;
  stood = h.streams;
  reader = h.reader;
  streams = streams;
  sending = h.sending;
  due = h.due;
  calls = record { calls = h.calls.calls; order = h.calls.order; live = h.calls.live; finished = h.calls.finished };
}

pub taken_by : (texts : SourceTexts) {T E : Type 0} (r : Result T E) (o : Result StreamEvent ConnectionFault) (v old x : ConnectionValue)
    (u : Standing) (m : ℕ) (f : RawFrame) (a : StreamEvent) (flood : Bool) → Counts v f flood m → v ≡ old → o ≡ Ok a
    → ((d : List Entry) → AreStreams v.streams d → Gives o (answer_after d f)) →
    InMemory o ((d : List Entry) → AreStreams v.streams d → AreStreams u (d ++ entries_of d f))
    → OnOk r ((p : Past) (g : RawFrame) → AwaitsItsAnswer texts (with_counted v u m) p g a flood → IsConnection texts x (with_frame p g)) →
    OnOk r ((p : Past) → IsTaking texts old p f → IsConnection texts x (with_frame p f))
taken_by texts (Err e) o v old x u m f a flood n is ok gives stands answer = tt
taken_by texts (Ok y) o v old x u m f a flood n is ok gives stands answer = λ p h0.
    let h : IsTaking texts v p f = subst (λ (z : ConnectionValue). IsTaking texts z p f) (sym is) h0 in
    let caused : answer_after p.history f ≡ Ok a =
    subst (λ (z : Result StreamEvent ConnectionFault). Gives z (answer_after p.history f)) ok (gives p.history h.streams) in
    let after : (d : List Entry) → AreStreams v.streams d → AreStreams u (d ++ entries_of d f) =
    subst (λ (z : Result StreamEvent ConnectionFault). InMemory z
    ((d : List Entry) → AreStreams v.streams d → AreStreams u (d ++ entries_of d f))) ok stands in
    answer p f (is_answered texts v u m p f a flood n h caused (after p.history h.streams))

pub fault_by : (texts : SourceTexts) {T E : Type 0} (r : Result T E) (o : Result StreamEvent ConnectionFault) (v old x : ConnectionValue)
    (u : Standing) (f : RawFrame) (code : ErrorCode) → v ≡ old → o ≡ Err (Connection code)
    → ((d : List Entry) → AreStreams v.streams d → Gives o (answer_after d f)) → OnErr o (u.live ≡ v.streams.live) →
    OnErr o (u.highest ≡ v.streams.highest)
    → OnOk r (Fails (with_streams v u) code None x) → OnOk r ((p : Past) → IsTaking texts old p f → IsConnection texts x (with_frame p f))
fault_by texts (Err e) o v old x u f code is err gives live highest fails = tt
fault_by texts (Ok y) o v old x u f code is err gives live highest fails = λ p h0.
    let h : IsTaking texts v p f = subst (λ (z : ConnectionValue). IsTaking texts z p f) (sym is) h0 in
    let caused : answer_after p.history f ≡ Err code =
    subst (λ (z : Result StreamEvent ConnectionFault). Gives z (answer_after p.history f)) err (gives p.history h.streams) in
    let live' : u.live ≡ v.streams.live = subst (λ (z : Result StreamEvent ConnectionFault). OnErr z (u.live ≡ v.streams.live)) err live in
    let highest' : u.highest ≡ v.streams.highest =
    subst (λ (z : Result StreamEvent ConnectionFault). OnErr z (u.highest ≡ v.streams.highest)) err highest in
    taken_fault texts v x u p f code h caused live' highest' fails

-- ---- the bytes

alive_of : (texts : SourceTexts) (v : ConnectionValue) (p : Past) → IsConnection texts v p → v.ended ≡ false → IsAlive v p
alive_of texts v p st alive = st.alive (sym st.ended ∙ alive)

abbrev ReadAlike : Result FrameReaderValue FrameError → Result FrameReaderValue FrameError → Type 0
ReadAlike old new = (preface text : List ℕ) (given : List RawFrame) → IsReader preface old text given → IsReader preface new text given

-- the reader has looked for a frame, and stands for the same
looked : (texts : SourceTexts) (v : ConnectionValue) (u : Result FrameReaderValue FrameError) (p : Past) → ReadAlike v.reader u →
    IsConnection texts v p → IsConnection texts (with_reader u v) p
looked texts v u p alike st = record {
  ended = st.ended;
  streams = st.streams;
  sending = st.sending;
  due = st.due;
  over = st.over;
  alive = λ fine.
      let a = st.alive fine in
      record {
        reader = alike CLIENT_PREFACE.now p.text (received_raw_frames p.history) a.reader;
        calls = a.calls;
        order = a.order;
        live =
            a.live;
        finished = a.finished;
        counted = a.counted;
      };
}

pub read_none : (texts : SourceTexts) (v old : ConnectionValue) (u : Result FrameReaderValue FrameError) (r : Result Bool FrameError) →
    v ≡ old → v.ended ≡ false → r ≡ Ok false → ReadAlike v.reader u
    → IfOk r (λ whole. whole ≡ false → (preface text : List ℕ) (given : List RawFrame) → IsReader preface v.reader text given →
    split preface text ≡ record { items = given; end = Ok (text_left u) }) → (p : Past) → IsConnection texts old p →
    StandsAfterReading texts p false (with_reader u v)
read_none texts v old u r is alive none alike ends p st0 =
    let st : IsConnection texts v p = subst (λ (y : ConnectionValue). IsConnection texts y p) (sym is) st0 in
    let a = alive_of texts v p st alive in
    let ends' : false ≡ false → (preface text : List ℕ) (given : List RawFrame) → IsReader preface v.reader text given →
    split preface text ≡ record { items = given; end = Ok (text_left u) } =
    subst (λ (z : Result Bool FrameError). IfOk z
    (λ whole. whole ≡ false → (preface text : List ℕ) (given : List RawFrame) → IsReader preface v.reader text given →
    split preface text ≡ record { items = given; end = Ok (text_left u) })) none ends in (
      inr (text_left u, ends' refl CLIENT_PREFACE.now p.text (received_raw_frames p.history) a.reader),
      looked texts v u p alike st,
    )

pub read_some : (texts : SourceTexts) (v old x : ConnectionValue) (u : Result FrameReaderValue FrameError) → v ≡ old →
    ReadAlike v.reader u → ((p : Past) → IsConnection texts (with_reader u v) p → StandsAfterReading texts p true x) → (p : Past) →
    IsConnection texts old p → StandsAfterReading texts p true x
read_some texts v old x u is alike take p st0 =
    take p (looked texts v u p alike (subst (λ (y : ConnectionValue). IsConnection texts y p) (sym is) st0))

next_is : (p : Past) (f : RawFrame) (u : Result FrameReaderValue FrameError) →
    IsReader CLIENT_PREFACE.now u p.text (received_raw_frames p.history ++ f ∷ []) → IsNextFrame p f
next_is p f u h =
    let now : split CLIENT_PREFACE.now p.text ≡ behind (received_raw_frames p.history ++ f ∷ []) (split_left (with_more_bytes u [])) =
    ap (split CLIENT_PREFACE.now) (sym (append-nil p.text)) ∙ h [] in (
      (split_left (with_more_bytes u [])).items,
      ap (λ (s : Split). s.items) now
          ∙ append_assoc (received_raw_frames p.history) (f ∷ []) (split_left (with_more_bytes u [])).items,
    )

front_taken : (texts : SourceTexts) (v x : ConnectionValue) (none u : Result FrameReaderValue FrameError) (f : RawFrame) → v.ended ≡ false →
    f ≡ front_of v.reader
    → ((preface text : List ℕ) (given : List RawFrame) → IsReader preface v.reader text given →
    IsReader preface u text (given ++ front_of v.reader ∷ []))
    → TakesFrame (with_reader none v) f x → (p : Past) → IsConnection texts v p → StandsAfterReading texts p true (with_reader u x)
front_taken texts v x none u f alive front passes take p st =
    let a = alive_of texts v p st alive in
    let reader : IsReader CLIENT_PREFACE.now u p.text (received_raw_frames p.history ++ f ∷ []) =
    subst (λ (g : RawFrame). IsReader CLIENT_PREFACE.now u p.text (received_raw_frames p.history ++ g ∷ [])) (sym front)
    (passes CLIENT_PREFACE.now p.text (received_raw_frames p.history) a.reader) in (
      sym st.ended ∙ alive,
      inl (
        f,
        next_is p f u reader,
        take u texts p (record {
          ended = alive;
          lives = sym st.ended ∙ alive;
          reader = reader;
          streams = st.streams;
          sending = st.sending;
          due = st.due;
          calls = record { calls = a.calls; order = a.order; live = a.live; finished = a.finished };
          counted = a.counted;
        }),
      ),
    )

abbrev Passes : Result FrameReaderValue FrameError → Result FrameReaderValue FrameError → Type 0
Passes old new = (preface text : List ℕ) (given : List RawFrame) → IsReader preface old text given →
    IsReader preface new text (given ++ front_of old ∷ [])

pub taken_front : {T E : Type 0} (r : Result T E) (v old w x : ConnectionValue) (none lent u : Result FrameReaderValue FrameError)
    (f : RawFrame) → v ≡ old → w ≡ x → v.ended ≡ false → lent ≡ v.reader → f ≡ front_of lent → Passes lent u
    → OnOk r (TakesFrame (with_reader none v) f x) → OnOk r (ReadsOneFrame old true (with_reader u w))
taken_front (Err e) v old w x none lent u f is same alive lends front passes take = tt
taken_front (Ok y) v old w x none lent u f is same alive lends front passes take = λ texts p st.
    subst (λ (z : ConnectionValue). StandsAfterReading texts p true (with_reader u z)) (sym same)
    (front_taken texts v x none u f alive (front ∙ ap front_of lends)
    (subst (λ (z : Result FrameReaderValue FrameError). Passes z u) lends passes) take p
    (subst (λ (z : ConnectionValue). IsConnection texts z p) (sym is) st))

pub fit_meanwhile : (v old w x : ConnectionValue) → v ≡ old → w ≡ x →
    ((texts : SourceTexts) → QueuesEndWithin texts v.sending.queues → QueuesEndWithin texts x.sending.queues) → (texts : SourceTexts) →
    QueuesEndWithin texts old.sending.queues → QueuesEndWithin texts w.sending.queues
fit_meanwhile v old w x is same keeps texts h =
    subst (λ (z : ConnectionValue). QueuesEndWithin texts z.sending.queues) (sym same)
    (keeps texts (subst (λ (z : ConnectionValue). QueuesEndWithin texts z.sending.queues) (sym is) h))

pub read_refused : (texts : SourceTexts) (v old x : ConnectionValue) (u : Result FrameReaderValue FrameError) (r : Result Bool FrameError)
    (e : FrameError) (code : ErrorCode) → v ≡ old → v.ended ≡ false → r ≡ Err e → reading_fault e ≡ Some code
    → IfErr r (λ fault. (preface text : List ℕ) (given : List RawFrame) → IsReader preface v.reader text given →
    split preface text ≡ record { items = given; end = Err fault })
    → Fails (with_reader u v) code None x → (p : Past) → IsConnection texts old p → StandsAfterReading texts p true x
read_refused texts v old x u r e code is alive err fault refused fails p st0 =
    let st : IsConnection texts v p = subst (λ (y : ConnectionValue). IsConnection texts y p) (sym is) st0 in
    let a = alive_of texts v p st alive in
    let refused' : (preface text : List ℕ) (given : List RawFrame) → IsReader preface v.reader text given →
    split preface text ≡ record { items = given; end = Err e } =
    subst (λ (z : Result Bool FrameError). IfErr z
    (λ fault. (preface text : List ℕ) (given : List RawFrame) → IsReader preface v.reader text given →
    split preface text ≡ record { items = given; end = Err fault })) err refused in (
      sym st.ended ∙ alive,
      inr (
        e,
        code,
        record { read = refused' CLIENT_PREFACE.now p.text (received_raw_frames p.history) a.reader; fault = fault },
        read_fault texts (with_reader u v) x p e code (sym st.ended ∙ alive) st.streams st.sending st.due
            (record { calls = a.calls; order = a.order; live = a.live; finished = a.finished }) fails,
      ),
    )

-- ---- what is left to read

unread_alive : (v : ConnectionValue) → v.ended ≡ false → unread_length v ≡ 1 + length (text_left v.reader)
unread_alive v h = ap (λ b. cond b 0 (1 + length (text_left v.reader))) h

unread_left : (x : ConnectionValue) → unread_length x ≤ 1 + length (text_left x.reader)
unread_left x = at x.ended refl where
  at : (b : Bool) → x.ended ≡ b → cond b 0 (1 + length (text_left x.reader)) ≤ 1 + length (text_left x.reader)
  at true h = omega arith
  at false h = omega arith

pub fewer_left : (v old x : ConnectionValue) (u : Result FrameReaderValue FrameError) → v ≡ old → v.ended ≡ false →
    length (text_left u) ≤ length (text_left v.reader) → length (text_left x.reader) < length (text_left u) →
    unread_length x < unread_length old
fewer_left v old x u is alive no_longer shorter =
    omega (arith, no_longer, shorter, unread_left x, unread_alive v alive, ap unread_length is)
