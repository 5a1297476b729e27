-- What a frame whose answer fits leaves.
use Rattle.std.proofs.Common.{◌≡◌, ℕ, List, [], ◌∷◌, ◌++◌, length, refl, ap, ◌∙◌, sym, subst, append_assoc}
use Rattle.grpc_sending.specs.StoredSending.{ForgetsEnded}
use Rattle.std.specs.Prelude.{Bool, true, false, not, map, cond, ◌==◌, ◌&&◌, ◌||◌, Result, Ok, Err}
use Rattle.std.specs.List.{list_any, AllByRecursion}
use Rattle.std.proofs.lemmas.List.Elements.{filter_map-append}
use Rattle.http2_frames.specs.declared.codes.ErrorCode.{ErrorCode}
use Rattle.http2_frames.specs.declared.codes.ErrorCode.TheVariants.{EnhanceYourCalm}
use Rattle.http2_frames.specs.declared.frame.RawFrame.{RawFrame}
use Rattle.http2_frames.specs.declared.frame.Frame.{Frame}
use Rattle.http2_frames.specs.declared.reader.TheConstants.{CLIENT_PREFACE}
use Rattle.http2_frames.specs.Reader.{IsReader}
use Rattle.http2_streams.specs.declared.event.StreamEvent.{StreamEvent}
use Rattle.http2_streams.specs.History.{Entry, In, Out, ends, frame_out, has_failed, highest_stream, is_ended_by_server, is_goaway, is_not_closed, opened_streams, sent_frames}
use Rattle.http2_streams.specs.Standing.{Standing, standing}
use Rattle.http2_streams.specs.StandsFor.{AreStreams}
use Rattle.http2_streams.specs.Rules.{answer_after}
use Rattle.http2_streams.specs.Entries.{control_frames, frames_put, entries_of}
use Rattle.grpc_sending.specs.Bytes.{untaken_count}
use Rattle.grpc_sending.specs.StoredSending.{SourceTexts, sending_in, StoredSending, IsStoredSending}
use Rattle.grpc_sending.proofs.Histories.{append-nil, sent_more}
use Rattle.conn_core.proofs.Numbers.{or_none}
use Rattle.std.proofs.lemmas.List.Folds.{list_any-append}
use Rattle.grpc_sending.proofs.Received.{frame_heard}
use Rattle.conn_core.specs.Floods.{is_flood, resets_since_taking}
use Rattle.conn_core.proofs.ResetCounts.{count_frame}
use Rattle.conn_core.specs.Received.{fits, received_raw_frames, raw_in, Outcome, outcome, outcome_of, frame_entries, fault_outcome, frames_to_put, may_put_all}
use Rattle.grpc_sending.specs.declared.queue.StoredQueue.{StoredQueue}
use Rattle.conn_core.specs.StandsFor.{AreForLive}
use Rattle.conn_core.specs.Past.{Past}
use Rattle.conn_core.specs.StandsFor.{ConnectionValue}
use Rattle.conn_core.specs.Step.{AreCalls, ChangesStreams, HasBrought, after_frame}
use Rattle.conn_core.specs.Putting.{Puts, AwaitsItsAnswer}
use Rattle.conn_core.proofs.Events.{raw_out}
use Rattle.conn_core.proofs.Pumps.{failed_same}
use Rattle.conn_core.proofs.Putting.{fitting_all, with_sending}
use Rattle.http2_streams.proofs.EventLaw.{live_after_frame, event_on_stream}
use Rattle.http2_streams.proofs.LiveLaw.{listed_is_live, live_falls}
use Rattle.http2_streams.specs.ControlAnswers.{IsControlAnswer}
use Rattle.http2_streams.proofs.ControlLaw.{answer_elim}
use Rattle.conn_core.proofs.StreamsLaws.{answers_are, in_live}
use Rattle.conn_core.proofs.Opened.{call_opened, idle}

-- ---- what a frame comes to

abbrev pub good : StreamEvent → Outcome
good a = record { put = control_frames a; event = a.event; fails = false }

abbrev pub cut : ℕ → ℕ → StreamEvent → Outcome
cut n h a = fault_outcome (frames_to_put n (control_frames a)) h EnhanceYourCalm

pub outcome_good : (d : List Entry) (f : RawFrame) (a : StreamEvent) → answer_after d f ≡ Ok a →
    fits (is_flood d f) (untaken_count d) a ≡ true → outcome d f ≡ good a
outcome_good d f a h fit = ap (λ (r : Result StreamEvent ErrorCode). outcome_of (is_flood d f) (untaken_count d) (highest_stream d)
    (highest_stream (d ++ In f ∷ [])) r) h ∙ ap (λ b. cond b (good a) (cut (untaken_count d) (highest_stream (d ++ In f ∷ [])) a)) fit

pub outcome_cut : (d : List Entry) (f : RawFrame) (a : StreamEvent) → answer_after d f ≡ Ok a →
    fits (is_flood d f) (untaken_count d) a ≡ false → outcome d f ≡ cut (untaken_count d) (highest_stream (d ++ In f ∷ [])) a
outcome_cut d f a h fit = ap (λ (r : Result StreamEvent ErrorCode). outcome_of (is_flood d f) (untaken_count d) (highest_stream d)
    (highest_stream (d ++ In f ∷ [])) r) h ∙ ap (λ b. cond b (good a) (cut (untaken_count d) (highest_stream (d ++ In f ∷ [])) a)) fit

pub outcome_fault : (d : List Entry) (f : RawFrame) (code : ErrorCode) → answer_after d f ≡ Err code →
    outcome d f ≡ fault_outcome [] (highest_stream d) code
outcome_fault d f code h = ap (λ (r : Result StreamEvent ErrorCode). outcome_of (is_flood d f) (untaken_count d) (highest_stream d)
    (highest_stream (d ++ In f ∷ [])) r) h

-- ---- a frame and what is put for it

pub in_front : (d : List Entry) (f : RawFrame) (fs : List Frame) → d ++ In f ∷ map Out fs ≡ (d ++ In f ∷ []) ++ map Out fs
in_front d f fs = sym (append_assoc d (In f ∷ []) (map Out fs))

sent_in : (d : List Entry) (f : RawFrame) → sent_frames (d ++ In f ∷ []) ≡ sent_frames d
sent_in d f = filter_map-append frame_out d (In f ∷ []) ∙ append-nil (sent_frames d)

no_goaway : (f : Frame) → IsControlAnswer f → is_goaway f ≡ false
no_goaway = answer_elim (λ f. is_goaway f ≡ false) (λ ack settings h. refl) (λ ack o h. refl) (λ s n. refl) (λ s code. refl)

pub answers_quiet : (fs : List Frame) → AllByRecursion IsControlAnswer fs → list_any is_goaway fs ≡ false
answers_quiet [] h = refl
answers_quiet (f ∷ fs) h = ap (λ b. b || list_any is_goaway fs) (no_goaway f h.0) ∙ answers_quiet fs h.1

pub failed_after : (d : List Entry) (f : RawFrame) (fs : List Frame) → list_any is_goaway fs ≡ false →
    has_failed (d ++ In f ∷ map Out fs) ≡ has_failed d
failed_after d f fs quiet = ap has_failed (in_front d f fs) ∙ failed_same (d ++ In f ∷ []) fs quiet
    ∙ ap (λ (gs : List Frame). list_any is_goaway gs) (sent_in d f)

no_end : (s : ℕ) (f : Frame) → IsControlAnswer f → ends s f ≡ false
no_end s = answer_elim (λ f. ends s f ≡ false) (λ ack settings h. refl) (λ ack o h. refl) (λ t n. refl) (λ t code. refl)

answers_end : (s : ℕ) (fs : List Frame) → AllByRecursion IsControlAnswer fs → list_any (ends s) fs ≡ false
answers_end s [] h = refl
answers_end s (f ∷ fs) h = ap (λ b. b || list_any (ends s) fs) (no_end s f h.0) ∙ answers_end s fs h.1

-- the answers to a frame end no stream
ends_after : (d : List Entry) (f : RawFrame) (fs : List Frame) (s : ℕ) → AllByRecursion IsControlAnswer fs →
    is_ended_by_server (d ++ In f ∷ map Out fs) s ≡ is_ended_by_server d s
ends_after d f fs s h =
    ap (λ (x : List Entry). is_ended_by_server x s) (in_front d f fs)
    ∙ ap (list_any (ends s)) (sent_more (d ++ In f ∷ []) fs)
    ∙ list_any-append (ends s) (sent_frames (d ++ In f ∷ [])) fs
    ∙ ap (λ b. list_any (ends s) (sent_frames (d ++ In f ∷ [])) || b) (answers_end s fs h)
    ∙ or_none (list_any (ends s) (sent_frames (d ++ In f ∷ [])))
    ∙ ap (list_any (ends s)) (sent_in d f)

pub raw_after : (d : List Entry) (f : RawFrame) (fs : List Frame) →
    received_raw_frames (d ++ In f ∷ map Out fs) ≡ received_raw_frames d ++ f ∷ []
raw_after d f fs = ap received_raw_frames (in_front d f fs) ∙ raw_out (d ++ In f ∷ []) fs ∙ filter_map-append raw_in d (In f ∷ [])

pub entries_caused : (d : List Entry) (f : RawFrame) (a : StreamEvent) → answer_after d f ≡ Ok a →
    entries_of d f ≡ In f ∷ map Out (control_frames a)
entries_caused d f a h = ap (λ (r : Result StreamEvent ErrorCode). In f ∷ map Out (frames_put (standing d) r)) h

-- ---- the streams

pub both : (a b : Bool) → a ≡ true → b ≡ true → (a && b) ≡ true
both true b h k = k
both false b h k = cc

pub changes : (u : Standing) (d : List Entry) (f : RawFrame) (a : StreamEvent) → AreStreams u d → has_failed d ≡ false →
    answer_after d f ≡ Ok a → ChangesStreams d (d ++ entries_of d f) a.event
changes u d f a at fine h = record {
  streams = live_after_frame u d f a at fine h;
  falls = λ s lives. live_falls d (entries_of d f) s lives;
  event = event_on_stream d f a h;
  idle = λ s above. idle d s above;
  begun = λ s call lives. in_live d s ∙ both (list_any (λ t. t == s) (opened_streams d)) (is_not_closed d s) (call_opened d s call) lives;
  opened = λ s member. let l = listed_is_live d s member in (l.1, l.0);
}

-- ---- all of it

kept_calls : (v : ConnectionValue) (w : StoredSending) (d : List Entry) → w.queues ≡ v.sending.queues → AreCalls v d →
    AreCalls (with_sending v w) d
kept_calls v w d queues h = record {
  calls = h.calls;
  order = h.order;
  live =
      subst (λ (qs : List StoredQueue). AreForLive qs d) (sym queues) h.live;
  finished =
      subst (λ (qs : List StoredQueue). ForgetsEnded qs d) (sym queues) h.finished;
}

has_brought : (texts : SourceTexts) (v : ConnectionValue) (p : Past) (f : RawFrame) (a : StreamEvent) (w : StoredSending) →
    AwaitsItsAnswer texts v p f a false → w.queues ≡ v.sending.queues → fits (is_flood p.history f) (untaken_count p.history) a ≡ true →
    IsStoredSending texts w (p.history ++ In f ∷ map Out (control_frames a)) p.owed → HasBrought texts (with_sending v w) p f a.event
has_brought texts v p f a w h queues fit sending =
    let o : outcome p.history f ≡ good a = outcome_good p.history f a h.causes fit in
    let es : frame_entries p.history f ≡ In f ∷ map Out (control_frames a) = ap (λ (x : Outcome). In f ∷ map Out x.put) o in
    let is : after_frame p f ≡ p.history ++ In f ∷ map Out (control_frames a) = ap (λ (xs : List Entry). p.history ++ xs) es in
    let same : p.history ++ entries_of p.history f ≡ after_frame p f =
    ap (λ (xs : List Entry). p.history ++ xs) (entries_caused p.history f a h.causes) ∙ sym is in
    record {
      ended = h.ended;
      is_event = ap (λ (x : Outcome). x.event) o;
      fits = ap (λ (x : Outcome). x.fails) o;
      lives = ap has_failed is ∙ failed_after p.history f (control_frames a)
          (answers_quiet (control_frames a) (answers_are p.history f a h.causes)) ∙ h.lives;
      reader = subst (λ (rs : List RawFrame). IsReader CLIENT_PREFACE.now v.reader p.text rs)
          (sym (ap received_raw_frames is ∙ raw_after p.history f (control_frames a))) h.reader;
      streams = subst (λ (x : List Entry). AreStreams v.streams x) same h.streams;
      sending = subst (λ (x : List Entry). IsStoredSending texts w x p.owed) (sym is) sending;
      due = h.due;
      calls = kept_calls v w p.history queues h.calls;
      ends = λ s. ap (λ (x : List Entry). is_ended_by_server x s) is
          ∙ ends_after p.history f (control_frames a) s (answers_are p.history f a h.causes);
      change = subst (λ (x : List Entry). ChangesStreams p.history x a.event) same
          (changes h.before p.history f a h.stood h.lives h.causes);
      counted = h.counted refl ∙ sym (count_frame p.history f (control_frames a)) ∙ ap resets_since_taking (sym is);
    }

pub fits_of : (texts : SourceTexts) (v : ConnectionValue) (p : Past) (f : RawFrame) (a : StreamEvent) (flood : Bool) (w : ConnectionValue)
    (b : Bool) → AwaitsItsAnswer texts v p f a flood → Puts v (control_frames a) b w →
    may_put_all (untaken_count p.history) (control_frames a) ≡ b
fits_of texts v p f a flood w b h puts = ap (λ n. may_put_all n (control_frames a)) (sym (ap length h.sending.pending)) ∙ sym puts.all

-- what was put stands behind the frame
pub put_behind : (texts : SourceTexts) (v : ConnectionValue) (p : Past) (f : RawFrame) (a : StreamEvent) (flood : Bool)
    (w : ConnectionValue) (b : Bool) → AwaitsItsAnswer texts v p f a flood → Puts v (control_frames a) b w →
    IsStoredSending texts w.sending (p.history ++ In f ∷ map Out (frames_to_put (untaken_count p.history) (control_frames a))) p.owed
put_behind texts v p f a flood w b h puts =
    let n : length v.sending.pending ≡ untaken_count p.history = ap length h.sending.pending in
    let there = puts.sending texts (p.history ++ In f ∷ []) p.owed
    (frame_heard (sending_in texts v.sending) p.history p.owed f h.sending) in
    let there' : IsStoredSending texts w.sending ((p.history ++ In f ∷ [])
    ++ map Out (frames_to_put (untaken_count p.history) (control_frames a))) p.owed =
    subst (λ (m : ℕ). IsStoredSending texts w.sending ((p.history ++ In f ∷ []) ++ map Out (frames_to_put m (control_frames a))) p.owed)
    n there in
    subst (λ (x : List Entry). IsStoredSending texts w.sending x p.owed)
    (sym (in_front p.history f (frames_to_put (untaken_count p.history) (control_frames a)))) there'

pub answered_fits : (texts : SourceTexts) (v w : ConnectionValue) (p : Past) (f : RawFrame) (a : StreamEvent) →
    AwaitsItsAnswer texts v p f a false → Puts v (control_frames a) true w → HasBrought texts w p f a.event
answered_fits texts v w p f a h puts =
    let fit = fits_of texts v p f a false w true h puts in
    let all : fits (is_flood p.history f) (untaken_count p.history) a ≡ true =
    ap (λ b. may_put_all (untaken_count p.history) (control_frames a) && not b) (sym h.floods) ∙ ap (λ b. b && true) fit in
    let sending : IsStoredSending texts w.sending (p.history ++ In f ∷ map Out (control_frames a)) p.owed =
    subst (λ (fs : List Frame). IsStoredSending texts w.sending (p.history ++ In f ∷ map Out fs) p.owed)
    (fitting_all (untaken_count p.history) (control_frames a) fit) (put_behind texts v p f a false w true h puts) in
    subst (λ (y : ConnectionValue). HasBrought texts y p f a.event) (sym puts.rest)
    (has_brought texts v p f a w.sending h puts.queues all sending)
