-- What the calls that bring nothing leave stands for the past after them.
use Rattle.std.proofs.Common.{◌≡◌, ℕ, ◌-◌, List, [], ◌∷◌, ◌++◌, refl, ap, ◌∙◌, sym, subst, append_assoc, arith}
use Rattle.std.specs.Prelude.{Bool, false, cond, ◌==◌, map, filter, fold, ◌&&◌, ◌||◌, not, Option, Some, None, Result, Ok, Err, OnOk, OnErr, IfErr, drop, length, option_to_list}
use Rattle.std.specs.List.{list_any, flat_map}
use Rattle.std.proofs.lemmas.List.Elements.{filter_map-append}
use Rattle.http2_frames.specs.declared.reader.TheConstants.{CLIENT_PREFACE}
use Rattle.http2_frames.specs.declared.error.FrameError.{FrameError}
use Rattle.http2_frames.specs.declared.error.FrameError.TheVariants.{NoMemory}
use Rattle.http2_frames.specs.declared.frame.Frame.TheVariants.{Settings, WindowUpdate}
use Rattle.http2_frames.specs.declared.frame.Frame.{Frame}
use Rattle.http2_frames.specs.declared.frame.RawFrame.{RawFrame}
use Rattle.http2_frames.specs.Reader.{FrameReaderValue, IsReader}
use Rattle.http2_frames.specs.Reading.{split}
use Rattle.http2_streams.specs.declared.event.Event.{Event}
use Rattle.http2_streams.specs.History.{Entry, Out, Took, sent_frames, received_frames, frame_in, frame_out, has_failed, is_goaway, is_not_closed, live_streams, resets, data_ends, block_ends, ends, rising_numbers, stream_of, blocks_after, no_blocks}
use Rattle.http2_streams.specs.Standing.{Standing}
use Rattle.http2_streams.specs.StandsFor.{AreStreams}
use Rattle.http2_streams.proofs.PutLaw.{no_matter}
use Rattle.grpc_messages.specs.declared.error.MessagesError.{MessagesError}
use Rattle.grpc_sending.specs.Digest.{Digest}
use Rattle.grpc_sending.specs.Owed.{Item, OwedItem, Range, owed_with_item}
use Rattle.grpc_sending.specs.StoredSending.{SourceTexts, StoredSending, IsStoredSending, AddsToLive, stored_on}
use Rattle.grpc_sending.proofs.Histories.{append-nil}
use Rattle.conn_core.specs.declared.call.Call.{Call}
use Rattle.conn_core.specs.declared.event.CallEvent.{CallEvent}
use Rattle.conn_core.specs.Floods.{resets_since_taking}
use Rattle.conn_core.proofs.ResetCounts.{count_taken}
use Rattle.conn_core.specs.Received.{received_raw_frames}
use Rattle.conn_core.specs.Calls.{events, begins_call, content_on, messages_of}
use Rattle.conn_core.specs.Past.{Past, greeting, initial_window, new_past, streams_setting, window_setting, with_item, with_taken}
use Rattle.conn_core.specs.StandsFor.{ConnectionValue, IsConnection, IsAlive, IsRestOfCall, call_on, members_of, call_stream, StandsAfterEvent}
use Rattle.conn_core.proofs.Greeting.{greeted, large_greeting, usual_greeting}
use Rattle.conn_core.proofs.Events.{events_took, raw_took}
use Rattle.conn_core.proofs.Forgets.{never, item_live, item_failed, same_lists, item_ended, none_ended}

-- ---- an item

pub item_kept : (texts : SourceTexts) (v : ConnectionValue) (w : StoredSending) (p : Past) (s : ℕ) (item : Item) → IsConnection texts v p →
    AddsToLive v.streams v.sending w → IsStoredSending texts w p.history (owed_with_item p.history p.owed s item) →
    IsConnection texts (record {
      reader = v.reader;
      streams = v.streams;
      sending = w;
      calls = v.calls;
      due = v.due;
      ended = v.ended;
      reset_count = v.reset_count;
    }) (with_item p s item)
item_kept texts v w p s item st none sending = record {
  ended = st.ended;
  streams = st.streams;
  sending = sending;
  due = st.due;
  over = item_failed v.streams v.sending w p.history st.streams none st.over;
  alive = λ alive. let a = st.alive alive in record {
    reader = a.reader;
    calls = a.calls;
    order = a.order;
    live = item_live v.streams v.sending w p.history st.streams alive none a.live;
    finished = item_ended v.streams v.sending w p.history st.streams alive none a.finished;
    counted = a.counted;
  };
}

pub item_by : (texts : SourceTexts) {T E : Type 0} (r : Result T E) (v old : ConnectionValue) (w : StoredSending) (s : ℕ) (item : Item) →
    v ≡ old → AddsToLive v.streams v.sending w →
    OnOk r ((d : List Entry) (os : List OwedItem) → AreStreams v.streams d → IsStoredSending texts v.sending d os →
    IsStoredSending texts w d (owed_with_item d os s item)) →
    OnOk r ((p : Past) → IsConnection texts old p →
    IsConnection texts (record {
      reader = v.reader;
      streams = v.streams;
      sending = w;
      calls = v.calls;
      due = v.due;
      ended = v.ended;
      reset_count = v.reset_count;
    }) (with_item p s item))
item_by texts (Err e) v old w s item is none h = tt
item_by texts (Ok x) v old w s item is none h = λ p st0.
    let st : IsConnection texts v p = subst (λ (y : ConnectionValue). IsConnection texts y p) (sym is) st0 in
    item_kept texts v w p s item st none (h p.history p.owed st.streams st.sending)

-- a range, whatever digest names its text
pub for_digest : {T E : Type 0} (r : Result T E) (v old : ConnectionValue) (w : StoredSending) (s : ℕ) (text : List ℕ) (from count : ℕ)
    (texts : SourceTexts) → v ≡ old → AddsToLive v.streams v.sending w →
    OnOk r ((digest : Digest) (d : List Entry) (os : List OwedItem) → AreStreams v.streams d → IsStoredSending texts v.sending d os →
    IsStoredSending texts w d (owed_with_item d os s (Range digest text from count))) →
    OnOk r ((digest : Digest) (p : Past) → IsConnection texts old p →
    IsConnection texts (record {
      reader = v.reader;
      streams = v.streams;
      sending = w;
      calls = v.calls;
      due = v.due;
      ended = v.ended;
      reset_count = v.reset_count;
    }) (with_item p s (Range digest text from count)))
for_digest (Err e) v old w s text from count texts is none h = tt
for_digest {T = T} {E = E} (Ok x) v old w s text from count texts is none h =
    λ digest. item_by texts {T = T} {E = E} (Ok x) v old w s (Range digest text from count) is none (h digest)

-- ---- bytes that were taken

took_sent : (d : List Entry) (n : ℕ) → sent_frames (d ++ Took n ∷ []) ≡ sent_frames d
took_sent d n = filter_map-append frame_out d (Took n ∷ []) ∙ append-nil (sent_frames d)

took_received : (d : List Entry) (n : ℕ) → received_frames (d ++ Took n ∷ []) ≡ received_frames d
took_received d n = filter_map-append frame_in d (Took n ∷ []) ∙ append-nil (received_frames d)

abbrev lives_by : List Frame → List Frame → ℕ → Bool
lives_by rs ss s = not (list_any (resets s) rs || list_any (resets s) ss)
    && not ((list_any (data_ends s) rs || list_any (block_ends s) (fold blocks_after no_blocks rs).finished) && list_any (ends s) ss)

abbrev live_by : List Frame → List Frame → List ℕ
live_by rs ss = filter (lives_by rs ss) (rising_numbers 0 (map stream_of (fold blocks_after no_blocks rs).finished))

-- two histories that received, put and brought the same
pub record IsSame (d e : List Entry) : Type 0 where
  pub received : received_frames e ≡ received_frames d
  pub sent : sent_frames e ≡ sent_frames d
  pub events : events e ≡ events d
  pub raw : received_raw_frames e ≡ received_raw_frames d

same_live : (d e : List Entry) (s : ℕ) → IsSame d e → is_not_closed e s ≡ is_not_closed d s
same_live d e s h = ap (λ (rs : List Frame). lives_by rs (sent_frames e) s) h.received
    ∙ ap (λ (ss : List Frame). lives_by (received_frames d) ss s) h.sent

same_lives : (d e : List Entry) → IsSame d e → live_streams e ≡ live_streams d
same_lives d e h = ap (λ (rs : List Frame). live_by rs (sent_frames e)) h.received
    ∙ ap (λ (ss : List Frame). live_by (received_frames d) ss) h.sent

pub same_call : (d e : List Entry) (s : ℕ) (o : Option (Result (List ℕ) MessagesError)) → events e ≡ events d → IsRestOfCall d s o →
    IsRestOfCall e s o
same_call d e s None h call = ap (λ (es : List Event). list_any (begins_call s) es) h ∙ call
same_call d e s (Some m) h call = (
  ap (λ (es : List Event). list_any (begins_call s) es) h ∙ call.0,
  call.1 ∙ ap (λ (es : List Event). (messages_of (flat_map (content_on s) es)).end) (sym h),
)

abbrev calls_by : List Event → List ℕ → List ℕ
calls_by es ss = filter (λ s. list_any (begins_call s) es) ss

pub same_alive : (v : ConnectionValue) (w : StoredSending) (m : ℕ) (p q : Past) → q.text ≡ p.text → w.queues ≡ v.sending.queues →
    IsSame p.history q.history → m ≡ resets_since_taking q.history → IsAlive v p →
    IsAlive (record { reader = v.reader; streams = v.streams; sending = w; calls = v.calls; due = v.due; ended = v.ended; reset_count = m })
    q
same_alive v w m p q text_is queues h count a = record {
  counted = count;
  reader = subst (λ (t : List ℕ). IsReader CLIENT_PREFACE.now v.reader t (received_raw_frames q.history)) (sym text_is)
      (subst (λ (fs : List RawFrame). IsReader CLIENT_PREFACE.now v.reader p.text fs) (sym h.raw) a.reader);
  calls = λ s lives. same_call p.history q.history s (call_on s v.calls) h.events
      (a.calls s (sym (same_live p.history q.history s h) ∙ lives));
  order = ap (λ (ss : List ℕ). members_of ss (map call_stream v.calls)) (same_lives p.history q.history h) ∙ a.order
      ∙ ap (λ (es : List Event). calls_by es (live_streams p.history)) (sym h.events)
      ∙ ap (calls_by (events q.history)) (sym (same_lives p.history q.history h));
  live = same_lists p.history q.history v.sending.queues w.queues (same_lives p.history q.history h)
      (λ s none. ap (stored_on s) queues ∙ none) a.live;
  finished = none_ended p.history q.history v.sending.queues w.queues (λ s. ap (list_any (ends s)) h.sent)
      (λ s lives. sym (same_live p.history q.history s h) ∙ lives) (λ s closed none. ap (stored_on s) queues ∙ none) a.finished;
}

took_same : (d : List Entry) (n : ℕ) → IsSame d (d ++ Took n ∷ [])
took_same d n = record { received = took_received d n; sent = took_sent d n; events = events_took d n; raw = raw_took d n }

pub took_kept : (texts : SourceTexts) (v : ConnectionValue) (w : StoredSending) (m : ℕ) (p : Past) (n : ℕ) →
    m ≡ cond (n == 0) v.reset_count 0 → IsConnection texts v p → w.queues ≡ v.sending.queues →
    IsStoredSending texts w (p.history ++ Took n ∷ []) p.owed →
    IsConnection texts (record {
      reader = v.reader;
      streams = v.streams;
      sending = w;
      calls = v.calls;
      due = v.due;
      ended = v.ended;
      reset_count = m;
    }) (with_taken p n)
took_kept texts v w m p n by st queues sending = record {
  ended = st.ended ∙ ap (λ (ss : List Frame). list_any is_goaway ss) (sym (took_sent p.history n));
  streams = no_matter v.streams p.history (Took n) tt st.streams;
  sending = sending;
  due = st.due;
  over = λ failed s. ap (stored_on s) queues ∙ st.over
      (ap (λ (ss : List Frame). list_any is_goaway ss) (sym (took_sent p.history n)) ∙ failed) s;
  alive = λ alive.
      let a = st.alive (ap (λ (ss : List Frame). list_any is_goaway ss) (sym (took_sent p.history n)) ∙ alive) in
      same_alive v w m p (with_taken p n) refl queues (took_same p.history n) (count_taken p.history n v.reset_count m a.counted by) a;
}

pub took_by : (texts : SourceTexts) (v old : ConnectionValue) (w : StoredSending) (m n : ℕ) → v ≡ old → m ≡ cond (n == 0) v.reset_count 0 →
    w.queues ≡ v.sending.queues → ((d : List Entry) (os : List OwedItem) → IsStoredSending texts v.sending d os →
    IsStoredSending texts w (d ++ Took n ∷ []) os) → (p : Past) → IsConnection texts old p →
    IsConnection texts (record {
      reader = v.reader;
      streams = v.streams;
      sending = w;
      calls = v.calls;
      due = v.due;
      ended = v.ended;
      reset_count = m;
    }) (with_taken p n)
took_by texts v old w m n is by queues h p st0 =
    let st : IsConnection texts v p = subst (λ (y : ConnectionValue). IsConnection texts y p) (sym is) st0 in
    took_kept texts v w m p n by st queues (h p.history p.owed st.sending)

-- ---- a new connection

abbrev new_connection : Result FrameReaderValue FrameError → Standing → StoredSending → ConnectionValue
new_connection reader streams w = record {
  reader = reader;
  streams = streams;
  sending = w;
  calls = [];
  due = [];
  ended = false;
  reset_count = 0;
}

abbrev past_of : List Entry → Past
past_of d = record { text = []; history = d; owed = []; due = [] }

pub new_stands : (texts : SourceTexts) (window : ℕ) (reader : Result FrameReaderValue FrameError) (streams : Standing) (w : StoredSending) →
    IsReader CLIENT_PREFACE.now reader [] [] → AreStreams streams [] → IsStoredSending texts w (greeting window) [] → w.queues ≡ [] →
    IsConnection texts (new_connection reader streams w) (new_past window)
new_stands texts window reader streams w read at sending empty = greeted IsNew window large usual sending where
  IsNew : List Entry → Type 0
  IsNew d = IsStoredSending texts w d [] → IsConnection texts (new_connection reader streams w) (past_of d)

  first : Entry
  first = Out (Settings false (streams_setting ∷ window_setting window ∷ []))

  second : Entry
  second = Out (WindowUpdate 0 (window - initial_window))

  large : IsNew (large_greeting window)
  large stored = record {
    ended = refl;
    streams = no_matter streams (first ∷ []) second tt (no_matter streams [] first tt at);
    sending = stored;
    due = refl;
    over = λ failed s. never (stored_on s w.queues ≡ []) failed;
    alive = λ alive. record {
      reader = read;
      calls = λ s lives. refl;
      order = refl;
      live = λ s out. ap (stored_on s) empty;
      finished =
          λ s was. never ((is_not_closed (large_greeting window) s ≡ false) × (stored_on s w.queues ≡ [])) was;
      counted = refl;
    };
  }

  usual : IsNew usual_greeting
  usual stored = record {
    ended = refl;
    streams = no_matter streams [] (Out (Settings false (streams_setting ∷ []))) tt at;
    sending = stored;
    due = refl;
    over = λ failed s. never (stored_on s w.queues ≡ []) failed;
    alive = λ alive. record {
      reader = read;
      calls = λ s lives. refl;
      order = refl;
      live = λ s out. ap (stored_on s) empty;
      finished =
          λ s was. never ((is_not_closed usual_greeting s ≡ false) × (stored_on s w.queues ≡ [])) was;
      counted = refl;
    };
  }

-- ---- more bytes

pub more_kept : (texts : SourceTexts) (v : ConnectionValue) (r : Result FrameReaderValue FrameError) (p : Past) (piece : List ℕ) →
    IsConnection texts v p → (has_failed p.history ≡ false →
    IsReader CLIENT_PREFACE.now r (p.text ++ piece) (received_raw_frames p.history)) →
    IsConnection texts (record {
      reader = r;
      streams = v.streams;
      sending = v.sending;
      calls = v.calls;
      due = v.due;
      ended = v.ended;
      reset_count = v.reset_count;
    }) (record p { text = p.text ++ piece })
more_kept texts v r p piece st read = record {
  ended = st.ended;
  streams = st.streams;
  sending = st.sending;
  due = st.due;
  over = st.over;
  alive = λ alive. let a = st.alive alive in record
      { reader = read alive; calls = a.calls; order = a.order; live = a.live; finished = a.finished; counted = a.counted };
}

-- a reader that refused goes on to refuse
pub refused_more : (preface text piece : List ℕ) (given : List RawFrame) (e : FrameError) → IsReader preface (Err e) text given →
    IsReader preface (Err e) (text ++ piece) given
refused_more preface text piece given e h = λ more. ap (split preface) (append_assoc text piece more) ∙ h (piece ++ more)

pub new_by : (texts : SourceTexts) (window : ℕ) (reader : Result FrameReaderValue FrameError) (streams : Standing) (w : StoredSending)
    (calls : List Call) (due : List CallEvent) → calls ≡ [] → due ≡ [] → IsReader CLIENT_PREFACE.now reader [] [] → AreStreams streams [] →
    IsStoredSending texts w (greeting window) [] → w.queues ≡ [] →
    IsConnection texts (record {
      reader = reader;
      streams = streams;
      sending = w;
      calls = calls;
      due = due;
      ended = false;
      reset_count =
          0;
    }) (new_past window)
new_by texts window reader streams w calls due none none' read at sending empty =
    let f : List Call → List CallEvent → ConnectionValue =
    λ cs es. record { reader = reader; streams = streams; sending = w; calls = cs; due = es; ended = false; reset_count = 0 } in
    subst (λ (cs : List Call). IsConnection texts (f cs due) (new_past window)) (sym none)
    (subst (λ (es : List CallEvent). IsConnection texts (f [] es) (new_past window)) (sym none')
    (new_stands texts window reader streams w read at sending empty))

pub fed : (r : Result Unit FrameError) (old new : Result FrameReaderValue FrameError) (preface text piece : List ℕ)
    (given : List RawFrame) → OnOk r ((p t : List ℕ) (g : List RawFrame) → IsReader p old t g → IsReader p new (t ++ piece) g) →
    OnErr r (new ≡ old) → IfErr r (λ fault. (fault ≡ NoMemory → ⊥) → old ≡ Err fault) → (r ≡ Err NoMemory → ⊥) →
    IsReader preface old text given → IsReader preface new (text ++ piece) given
fed (Ok u) old new preface text piece given ok err refused memory h = ok preface text given h
fed (Err e) old new preface text piece given ok err refused memory h =
    let is : old ≡ Err e = refused (λ k. memory (ap Err k)) in
    let h' : IsReader preface (Err e) text given = subst (λ (o : Result FrameReaderValue FrameError). IsReader preface o text given) is h in
    subst (λ (o : Result FrameReaderValue FrameError). IsReader preface o (text ++ piece) given) (sym (err ∙ is))
    (refused_more preface text piece given e h')

pub fed_by : (texts : SourceTexts) (v old : ConnectionValue) (r : Result Unit FrameError) (new : Result FrameReaderValue FrameError)
    (piece : List ℕ) → v ≡ old → OnOk r ((p t : List ℕ) (g : List RawFrame) → IsReader p v.reader t g → IsReader p new (t ++ piece) g) →
    OnErr r (new ≡ v.reader) → IfErr r (λ fault. (fault ≡ NoMemory → ⊥) → v.reader ≡ Err fault) → (r ≡ Err NoMemory → ⊥) → (p : Past) →
    IsConnection texts old p → IsConnection texts
    (record {
      reader = new;
      streams = v.streams;
      sending = v.sending;
      calls = v.calls;
      due = v.due;
      ended = v.ended;
      reset_count =
          v.reset_count;
    }) (record p { text = p.text ++ piece })
fed_by texts v old r new piece is ok err refused memory p st0 =
    let st : IsConnection texts v p = subst (λ (y : ConnectionValue). IsConnection texts y p) (sym is) st0 in
    more_kept texts v new p piece st (λ alive. fed r v.reader new CLIENT_PREFACE.now p.text piece
    (received_raw_frames p.history) ok err refused memory (st.alive alive).reader)

pub fed_ok : (texts : SourceTexts) {T E : Type 0} (o : Result T E) (v old : ConnectionValue) (r : Result Unit FrameError)
    (new : Result FrameReaderValue FrameError) (piece : List ℕ) → v ≡ old →
    OnOk r ((p t : List ℕ) (g : List RawFrame) → IsReader p v.reader t g → IsReader p new (t ++ piece) g) → OnErr r (new ≡ v.reader) →
    IfErr r (λ fault. (fault ≡ NoMemory → ⊥) → v.reader ≡ Err fault) → OnOk o (r ≡ Err NoMemory → ⊥) →
    OnOk o ((p : Past) → IsConnection texts old p →
    IsConnection texts (record {
      reader = new;
      streams = v.streams;
      sending = v.sending;
      calls = v.calls;
      due = v.due;
      ended = v.ended;
      reset_count = v.reset_count;
    }) (record p { text = p.text ++ piece }))
fed_ok texts (Err e) v old r new piece is ok err refused memory = tt
fed_ok texts (Ok x) v old r new piece is ok err refused memory = fed_by texts v old r new piece is ok err refused memory

-- ---- a source that was told, and an event that was given out

pub spent_by : (texts : SourceTexts) (v old : ConnectionValue) (w : StoredSending) (ns : List ℕ) → v ≡ old →
    w ≡ record v.sending { spent = ns } → (p : Past) → IsConnection texts old p →
    IsConnection texts (record {
      reader = v.reader;
      streams = v.streams;
      sending = w;
      calls = v.calls;
      due = v.due;
      ended = v.ended;
      reset_count = v.reset_count;
    }) p
spent_by texts v old w ns is rest p st0 =
    let st : IsConnection texts v p = subst (λ (y : ConnectionValue). IsConnection texts y p) (sym is) st0 in
    subst (λ (x : StoredSending). IsConnection texts
    (record {
      reader = v.reader;
      streams = v.streams;
      sending = x;
      calls = v.calls;
      due = v.due;
      ended = v.ended;
      reset_count =
          v.reset_count;
    }) p) (sym rest) (record {
      ended = st.ended;
      streams = st.streams;
      sending = st.sending;
      due = st.due;
      over = st.over;
      alive = λ alive. let a = st.alive alive in record
          { reader = a.reader; calls = a.calls; order = a.order; live = a.live; finished = a.finished; counted = a.counted };
    })

no_first : (xs : List CallEvent) → xs ≡ drop 1 xs → xs ≡ []
no_first [] h = refl
no_first (x ∷ xs) h = absurd (omega (arith, ap length h))

pub popped_by : (texts : SourceTexts) (v old : ConnectionValue) (o : Option CallEvent) (due : List CallEvent) → v ≡ old →
    v.due ≡ option_to_list o ++ due → due ≡ drop 1 v.due → (p : Past) → IsConnection texts old p →
    StandsAfterEvent texts p o (record {
      reader = v.reader;
      streams = v.streams;
      sending = v.sending;
      calls = v.calls;
      due = due;
      ended =
          v.ended;
      reset_count = v.reset_count;
    })
popped_by texts v old None due is items rest p st0 =
    let st : IsConnection texts v p = subst (λ (y : ConnectionValue). IsConnection texts y p) (sym is) st0 in (
      sym st.due ∙ no_first v.due (items ∙ rest),
      subst
          (λ (es : List CallEvent). IsConnection texts
          (record {
            reader = v.reader;
            streams = v.streams;
            sending = v.sending;
            calls = v.calls;
            due = es;
            ended = v.ended;
            reset_count =
                v.reset_count;
          }) p) items st,
    )
popped_by texts v old (Some event) due is items rest p st0 =
    let st : IsConnection texts v p = subst (λ (y : ConnectionValue). IsConnection texts y p) (sym is) st0 in (
      due,
      sym st.due ∙ items,
      record {
        ended = st.ended;
        streams = st.streams;
        sending = st.sending;
        due = refl;
        over = st.over;
        alive = λ alive. let a = st.alive alive in record
            { reader = a.reader; calls = a.calls; order = a.order; live = a.live; finished = a.finished; counted = a.counted };
      },
    )
