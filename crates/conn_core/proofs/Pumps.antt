-- What the pump leaves stands for the past after it.
use Rattle.std.proofs.Common.{◌≡◌, ℕ, List, [], ◌∷◌, ◌++◌, zero, suc, refl, ap, ◌∙◌, sym, subst, append_assoc, inl, inr}
use Rattle.std.specs.Prelude.{Bool, true, false, map, filter, fold, ◌&&◌, ◌||◌, ◌==◌, not, nat_le, length, take, Option, Some, None, ◌-◌}
use Rattle.std.specs.List.{list_any}
use Rattle.std.specs.Option.{option_map_or}
use Rattle.std.proofs.lemmas.Bool.{and_parts, cases_Bool}
use Rattle.std.proofs.lemmas.List.{map-append}
use Rattle.std.proofs.lemmas.List.Folds.{list_any-append}
use Rattle.http2_streams.specs.Credit.{window_left}
use Rattle.http2_frames.specs.declared.frame.Frame.TheVariants.{Data}
use Rattle.grpc_calls.specs.Responses.{is_last}
use Rattle.grpc_sending.specs.Pieces.{Piece}
use Rattle.grpc_sending.specs.Pieces.{Block, Part}
use Rattle.grpc_sending.proofs.Options.{if_some, first_at}
use Rattle.http2_frames.specs.declared.frame.Frame.{Frame}
use Rattle.http2_frames.specs.declared.frame.RawFrame.{RawFrame}
use Rattle.http2_frames.specs.declared.reader.TheConstants.{CLIENT_PREFACE}
use Rattle.http2_frames.specs.Reader.{IsReader}
use Rattle.http2_streams.specs.declared.event.Event.{Event}
use Rattle.http2_streams.specs.History.{Entry, Out, sent_frames, received_frames, window, connection_window, is_ended_by_client, is_goaway, has_failed, is_not_closed, is_ended_by_server, is_reset, resets, ends, live_streams, opened_streams, rising_numbers, stream_of, blocks_after, no_blocks}
use Rattle.http2_streams.specs.Standing.{Standing}
use Rattle.http2_streams.specs.StandsFor.{AreStreams}
use Rattle.http2_streams.proofs.LiveLaw.{live_falls}
use Rattle.grpc_sending.specs.Bytes.{untaken_count}
use Rattle.grpc_sending.specs.Owed.{OwedItem, pieces_left_on}
use Rattle.grpc_sending.specs.Pump.{part_size, block_frames, reset_after, frames_on, frames_for, next_frames, history_after_puts, history_after_pump}
use Rattle.grpc_sending.specs.StoredSending.{SourceTexts, StoredSending, QueuesEndWithin, IsAtRest, IsStoredSending, AddsNothing, ForgetsEnded, stored_on}
use Rattle.grpc_sending.specs.declared.queue.StoredQueue.{StoredQueue}
use Rattle.grpc_sending.proofs.Pumps.{pumped_none}
use Rattle.grpc_sending.proofs.Histories.{append-nil, sent_more, received_more}
use Rattle.grpc_sending.proofs.Entries.{failed_before}
use Rattle.conn_core.proofs.ResetCounts.{count_out}
use Rattle.conn_core.specs.Calls.{events, begins_call, is_call}
use Rattle.conn_core.specs.Past.{Past, with_pumped}
use Rattle.conn_core.specs.StandsFor.{ConnectionValue, IsConnection, AreForLive, call_on, members_of, call_stream}
use Rattle.conn_core.proofs.StreamsLaws.{in_live}
use Rattle.conn_core.proofs.Events.{events_out, raw_out}
use Rattle.conn_core.proofs.Keeps.{same_call}
use Rattle.conn_core.proofs.Forgets.{unmet}
use Rattle.conn_core.proofs.Numbers.{any_first, any_kept, any_later, false_both, filter_less, or_none, same_number}

-- ---- the pump adds frames alone, and no GOAWAY among them

reset_quiet : (s : ℕ) (b : Bool) → list_any is_goaway (reset_after s b) ≡ false
reset_quiet s true = refl
reset_quiet s false = refl

frames_quiet : (d : List Entry) (s : ℕ) (ps : List Piece) (fs : List Frame) → frames_on d s ps ≡ Some fs → list_any is_goaway fs ≡ false
frames_quiet d s [] fs h = cc
frames_quiet d s (Block block ∷ ps) fs h =
    let is : block_frames d s block ≡ fs = let same : Some (block_frames d s block) ≡ Some fs = h in cc in
    ap (list_any is_goaway) (sym is) ∙ reset_quiet s (is_last block && not (is_ended_by_client d s))
frames_quiet d s (Part bytes ends ∷ ps) fs h =
    let n : ℕ = part_size (length bytes) (window_left (window d s)) (window_left (connection_window d)) in
    let e = if_some (part_size (length bytes) (window_left (window d s)) (window_left (connection_window d)) == 0)
    (Some (Data s false (take (part_size (length bytes) (window_left (window d s)) (window_left (connection_window d))) bytes) ∷ [])) fs
    h in
    let is : Data s false (take (part_size (length bytes) (window_left (window d s)) (window_left (connection_window d))) bytes) ∷ [] ≡ fs =
    let same : Some (Data s false (take (part_size (length bytes) (window_left (window d s)) (window_left (connection_window d))) bytes)
    ∷ []) ≡ Some fs = e.1 in cc in
    ap (list_any is_goaway) (sym is)

next_quiet : (d : List Entry) (os : List OwedItem) (fs : List Frame) → next_frames d os ≡ Some fs → list_any is_goaway fs ≡ false
next_quiet d os fs h =
    let a = if_some (has_failed d) _ fs h in
    let b = if_some (nat_le 65536 (untaken_count d)) _ fs a.1 in
    let f = first_at (frames_for d os) (live_streams d) fs b.1 in
    frames_quiet d f.at (pieces_left_on d os f.at) fs f.answer

none_both : (gs fs : List Frame) → list_any is_goaway gs ≡ false → list_any is_goaway fs ≡ false → list_any is_goaway (gs ++ fs) ≡ false
none_both gs fs h k = list_any-append is_goaway gs fs ∙ ap (λ b. b || list_any is_goaway fs) h ∙ k

pub failed_same : (d : List Entry) (fs : List Frame) → list_any is_goaway fs ≡ false → has_failed (d ++ map Out fs) ≡ has_failed d
failed_same d fs h = ap (list_any is_goaway) (sent_more d fs) ∙ list_any-append is_goaway (sent_frames d) fs
    ∙ ap (λ b. list_any is_goaway (sent_frames d) || b) h ∙ or_none (list_any is_goaway (sent_frames d))

-- ---- .. and resets no stream that it does not end

-- each stream that these frames reset they end, too
abbrev pub EndsWhatItResets : List Frame → Type 0
EndsWhatItResets fs = (t : ℕ) → list_any (resets t) fs ≡ true → list_any (ends t) fs ≡ true

reset_last : (s t : ℕ) (last ended : Bool) → list_any (resets t) (reset_after s (last && not ended)) ≡ true → (last && s == t) ≡ true
reset_last s t true false h = sym (or_none (s == t)) ∙ h
reset_last s t true true h = cc
reset_last s t false ended h = let no : false ≡ true = h in cc

frames_end : (d : List Entry) (s : ℕ) (ps : List Piece) (fs : List Frame) → frames_on d s ps ≡ Some fs → EndsWhatItResets fs
frames_end d s [] fs h = cc
frames_end d s (Block block ∷ ps) fs h =
    let is : block_frames d s block ≡ fs = let same : Some (block_frames d s block) ≡ Some fs = h in cc in
    subst EndsWhatItResets is (λ t r. any_first (is_last block && s == t)
    (list_any (ends t) (reset_after s (is_last block && not (is_ended_by_client d s))))
    (reset_last s t (is_last block) (is_ended_by_client d s) r))
frames_end d s (Part bytes ends ∷ ps) fs h =
    let e = if_some (part_size (length bytes) (window_left (window d s)) (window_left (connection_window d)) == 0)
    (Some (Data s false (take (part_size (length bytes) (window_left (window d s)) (window_left (connection_window d))) bytes) ∷ [])) fs
    h in
    let is : Data s false (take (part_size (length bytes) (window_left (window d s)) (window_left (connection_window d))) bytes) ∷ [] ≡ fs =
    let same : Some (Data s false (take (part_size (length bytes) (window_left (window d s)) (window_left (connection_window d))) bytes)
    ∷ []) ≡ Some fs = e.1 in cc in
    subst EndsWhatItResets is (λ t r. r)

next_ends : (d : List Entry) (os : List OwedItem) (fs : List Frame) → next_frames d os ≡ Some fs → EndsWhatItResets fs
next_ends d os fs h =
    let a = if_some (has_failed d) _ fs h in
    let b = if_some (nat_le 65536 (untaken_count d)) _ fs a.1 in
    let f = first_at (frames_for d os) (live_streams d) fs b.1 in
    frames_end d f.at (pieces_left_on d os f.at) fs f.answer

ends_both : (gs fs : List Frame) → EndsWhatItResets gs → EndsWhatItResets fs → EndsWhatItResets (gs ++ fs)
ends_both gs fs a b t h =
    list_any-append (ends t) gs fs
    ∙ elim (cases_Bool (list_any (resets t) gs)) [
      | inl here ↦ any_first (list_any (ends t) gs) (list_any (ends t) fs) (a t here)
      | inr none ↦
          let h' : list_any (resets t) fs ≡ true = sym (ap (λ x. x || list_any (resets t) fs) none) ∙ sym (list_any-append (resets t) gs fs)
          ∙ h in
          any_later (list_any (ends t) gs) (list_any (ends t) fs) (b t h')
    ]

abbrev Adds : List Entry → List Entry → Type 0
Adds d e = (fs : List Frame) × (e ≡ d ++ map Out fs) × (list_any is_goaway fs ≡ false) × EndsWhatItResets fs

put_is : (k : ℕ) (d : List Entry) (os : List OwedItem) → Adds d (history_after_puts k d os)
put_is zero d os = ([], sym (append-nil d), refl, λ s h. h)
put_is (suc k) d os =
    let at : (n : Option (List Frame)) → next_frames d os ≡ n →
    Adds d (option_map_or (λ gs. history_after_puts k (d ++ map Out gs) os) n d) = elim [
      | None ↦ λ is. ([], sym (append-nil d), refl, λ s h. h)
      | Some gs ↦ λ is.
          let rest = put_is k (d ++ map Out gs) os in (
            gs ++ rest.0,
            rest.1 ∙ append_assoc d (map Out gs) (map Out rest.0)
                ∙ ap (λ (es : List Entry). d ++ es) (sym (map-append Out gs rest.0)),
            none_both gs rest.0
                (next_quiet d os gs is) rest.2,
            ends_both gs rest.0 (next_ends d os gs is) rest.3,
          )
    ] in
    at (next_frames d os) refl

pub pumped_is : (d : List Entry) (os : List OwedItem) → Adds d (history_after_pump d os)
pumped_is d os = put_is (65536 - untaken_count d) d os

-- ---- the calls on the streams that are left

-- of the numbers, those that stay
sieved : (q p p0 c : ℕ → Bool) (os : List ℕ) → ((s : ℕ) → list_any (λ t. t == s) os ≡ true → q s ≡ p s) →
    ((s : ℕ) → p s ≡ true → p0 s ≡ true) → filter q (filter c (filter p0 os)) ≡ filter c (filter p os)
sieved q p p0 c [] same less = refl
sieved q p p0 c (s ∷ os) same less =
    let self : (s == s) ≡ true = same_number s in
    let here : q s ≡ p s = same s (rw self refl) in
    let later : (t : ℕ) → list_any (λ u. u == t) os ≡ true → q t ≡ p t = λ t h. same t (any_later (s == t) (list_any (λ u. u == t) os) h) in
    let rest = sieved q p p0 c os later less in
    elim (cases_Bool (p s)) [
      | inl stays ↦
          let before : p0 s ≡ true = less s stays in
          let q' : q s ≡ true = here ∙ stays in
          elim (cases_Bool (c s)) [
            | inl call ↦ rw (stays, before, call, q') (ap (λ (xs : List ℕ). s ∷ xs) rest)
            | inr no_call ↦ rw (stays, before, no_call) rest
          ]
      | inr goes ↦
          let q' : q s ≡ false = here ∙ goes in
          elim (cases_Bool (p0 s)) [
            | inl before ↦ elim (cases_Bool (c s)) [
              | inl call ↦ rw (goes, before, call, q') rest
              | inr no_call ↦ rw (goes, before, no_call) rest
            ]
            | inr before ↦ rw (goes, before) rest
          ]
    ]

abbrev opened_by : List Frame → List ℕ
opened_by rs = rising_numbers 0 (map stream_of (fold blocks_after no_blocks rs).finished)

pub order_kept : (d e : List Entry) (xs : List ℕ) → received_frames e ≡ received_frames d → events e ≡ events d →
    ((s : ℕ) → is_not_closed e s ≡ true → is_not_closed d s ≡ true) → members_of (live_streams d) xs ≡ filter (is_call d) (live_streams d) →
    members_of (live_streams e) xs ≡ filter (is_call e) (live_streams e)
order_kept d e xs same brought less order =
    let o : opened_streams e ≡ opened_streams d = ap opened_by same in
    let le : live_streams e ≡ filter (is_not_closed e) (opened_streams d) = ap (filter (is_not_closed e)) o in
    let q : ℕ → Bool = λ s. list_any (λ t. t == s) (live_streams e) in
    let q_is : (s : ℕ) → list_any (λ t. t == s) (live_streams e) ≡ (list_any (λ t. t == s) (opened_streams d) && is_not_closed e s) =
    λ s. ap (list_any (λ t. t == s)) le ∙ any_kept (is_not_closed e) s (opened_streams d) in
    let d_is : (s : ℕ) → list_any (λ t. t == s) (live_streams d) ≡ (list_any (λ t. t == s) (opened_streams d) && is_not_closed d s) =
    λ s. any_kept (is_not_closed d) s (opened_streams d) in
    let in_d : (s : ℕ) → list_any (λ t. t == s) (live_streams e) ≡ true → list_any (λ t. t == s) (live_streams d) ≡ true = λ s h.
    let b = and_parts (list_any (λ t. t == s) (opened_streams d)) (is_not_closed e s) (sym (q_is s) ∙ h) in
    let b0 : list_any (λ t. t == s) (opened_streams d) ≡ true = b.0 in
    let b1 : is_not_closed d s ≡ true = less s b.1 in
    d_is s ∙ (rw (b0, b1) refl) in
    let same_q : (s : ℕ) → list_any (λ t. t == s) (opened_streams d) ≡ true → list_any (λ t. t == s) (live_streams e) ≡ is_not_closed e s =
    λ s h. q_is s ∙ ap (λ b. b && is_not_closed e s) h in
    sym (filter_less (λ s. list_any (λ t. t == s) (live_streams e)) (λ s. list_any (λ t. t == s) (live_streams d)) xs in_d)
    ∙ ap (filter (λ s. list_any (λ t. t == s) (live_streams e))) order
    ∙ sieved (λ s. list_any (λ t. t == s) (live_streams e)) (is_not_closed e) (is_not_closed d) (is_call d) (opened_streams d) same_q less
    ∙ ap (λ (ss : List ℕ). filter (is_call d) ss) (sym le)
    ∙ ap (λ (es : List Event). filter (λ s. list_any (begins_call s) es) (live_streams e)) (sym brought)

-- ---- nothing is kept but on live streams

either : (a b : Bool) → (a || b) ≡ false → (a ≡ false) × (b ≡ false)
either false b h = (refl, h)
either true b h = let no : true ≡ false = h in absurd (let z : ⊥ = cc in z)

-- a stream that frames closed, which end what they reset, was ended
ended_here : (d : List Entry) (fs : List Frame) (s : ℕ) → EndsWhatItResets fs → is_not_closed d s ≡ true →
    is_not_closed (d ++ map Out fs) s ≡ false → is_ended_by_server (d ++ map Out fs) s ≡ true
ended_here d fs s ends' lives closed = elim (cases_Bool (is_ended_by_server (d ++ map Out fs) s)) [
  | inl is ↦ is
  | inr not_ended ↦
      let sent : sent_frames (d ++ map Out fs) ≡ sent_frames d ++ fs = sent_more d fs in
      let got : received_frames (d ++ map Out fs) ≡ received_frames d = received_more d fs in
      let none = either (list_any (ends s) (sent_frames d)) (list_any (ends s) fs)
      (sym (ap (list_any (ends s)) sent ∙ list_any-append (ends s) (sent_frames d) fs) ∙ not_ended) in
      let no_reset : list_any (resets s) fs ≡ false = elim (cases_Bool (list_any (resets s) fs)) [
        | inl some ↦ unmet (list_any (resets s) fs ≡ false) (list_any (ends s) fs) none.1 (ends' s some)
        | inr nothing ↦ nothing
      ] in
      let reset : is_reset (d ++ map Out fs) s ≡ is_reset d s =
      ap (λ (rs : List Frame). list_any (resets s) rs || list_any (resets s) (sent_frames (d ++ map Out fs))) got
      ∙ ap (λ b. list_any (resets s) (received_frames d) || b)
      (ap (list_any (resets s)) sent ∙ list_any-append (resets s) (sent_frames d) fs
      ∙ ap (λ b. list_any (resets s) (sent_frames d) || b) no_reset ∙ or_none (list_any (resets s) (sent_frames d))) in
      let old = and_parts (not (is_reset d s)) (not (is_ended_by_client d s && is_ended_by_server d s)) lives in
      let still : is_not_closed (d ++ map Out fs) s ≡ true =
      ap (λ b. not b && not (is_ended_by_client (d ++ map Out fs) s && is_ended_by_server (d ++ map Out fs) s)) reset
      ∙ ap (λ b. b && not (is_ended_by_client (d ++ map Out fs) s && is_ended_by_server (d ++ map Out fs) s)) old.0
      ∙ ap (λ b. not (is_ended_by_client (d ++ map Out fs) s && b)) not_ended
      ∙ ap not (false_both (is_ended_by_client (d ++ map Out fs) s)) in
      unmet (is_ended_by_server (d ++ map Out fs) s ≡ true) (is_not_closed (d ++ map Out fs) s) closed still
]

live_pumped : (d : List Entry) (fs : List Frame) (qs rs : List StoredQueue) → EndsWhatItResets fs →
    ((t : ℕ) → stored_on t qs ≡ [] → stored_on t rs ≡ []) → ForgetsEnded rs (d ++ map Out fs) → AreForLive qs d →
    AreForLive rs (d ++ map Out fs)
live_pumped d fs qs rs ends' none finished h s out = elim (cases_Bool (list_any (λ t. t == s) (live_streams d))) [
  | inr before ↦ none s (h s before)
  | inl was ↦
      let parts = and_parts (list_any (λ t. t == s) (opened_streams d)) (is_not_closed d s) (sym (in_live d s) ∙ was) in
      let opened : list_any (λ t. t == s) (opened_streams (d ++ map Out fs)) ≡ true =
      ap (λ (rs : List Frame). list_any (λ t. t == s) (opened_by rs)) (received_more d fs) ∙ parts.0 in
      let closed : is_not_closed (d ++ map Out fs) s ≡ false =
      sym (ap (λ b. b && is_not_closed (d ++ map Out fs) s) opened) ∙ sym (in_live (d ++ map Out fs) s) ∙ out in
      (finished s (ended_here d fs s ends' parts.1 closed)).1
]

put_kept : (texts : SourceTexts) (v : ConnectionValue) (streams : Standing) (w : StoredSending) (p : Past) (fs : List Frame) →
    list_any is_goaway fs ≡ false → EndsWhatItResets fs → IsConnection texts v p → AddsNothing v.sending w →
    (ForgetsEnded v.sending.queues p.history → ForgetsEnded w.queues (p.history ++ map Out fs)) →
    AreStreams streams (p.history ++ map Out fs) → IsStoredSending texts w (p.history ++ map Out fs) p.owed →
    v.ended ≡ has_failed (p.history ++ map Out fs) →
    IsConnection texts (record {
      reader = v.reader;
      streams = streams;
      sending = w;
      calls = v.calls;
      due = v.due;
      ended = v.ended;
      reset_count = v.reset_count;
    }) (record p { history = p.history ++ map Out fs })
put_kept texts v streams w p fs quiet resets' st none ended' at sending ended = record {
  ended = ended;
  streams = at;
  sending = sending;
  due = st.due;
  over = λ failed s. none s (st.over (sym (failed_same p.history fs quiet) ∙ failed) s);
  alive = λ alive.
      let a = st.alive (failed_before p.history fs alive) in
      record {
        reader = subst (λ (rs : List RawFrame). IsReader CLIENT_PREFACE.now v.reader p.text rs) (sym (raw_out p.history fs)) a.reader;
        calls = λ s lives. same_call p.history (p.history ++ map Out fs) s (call_on s v.calls) (events_out p.history fs)
            (a.calls s (live_falls p.history (map Out fs) s lives));
        order = order_kept p.history (p.history ++ map Out fs) (map call_stream v.calls) (received_more p.history fs)
            (events_out p.history fs) (λ s lives. live_falls p.history (map Out fs) s lives) a.order;
        counted = a.counted ∙ sym (count_out p.history fs);
        live = live_pumped p.history fs v.sending.queues w.queues resets' none (ended' a.finished) a.live;
        finished = ended' a.finished;
      };
}

pub pumped_by : (texts : SourceTexts) (v old : ConnectionValue) (streams : Standing) (w : StoredSending) → v ≡ old →
    AddsNothing v.sending w → ((d : List Entry) (os : List OwedItem) → AreStreams v.streams d → IsStoredSending texts v.sending d os →
    ForgetsEnded v.sending.queues d → ForgetsEnded w.queues (history_after_pump d os)) →
    ((d : List Entry) (os : List OwedItem) → AreStreams v.streams d → IsStoredSending texts v.sending d os →
    AreStreams streams (history_after_pump d os)) →
    ((d : List Entry) (os : List OwedItem) → AreStreams v.streams d → IsStoredSending texts v.sending d os →
    IsStoredSending texts w (history_after_pump d os) os) → (p : Past) → IsConnection texts old p →
    IsConnection texts (record {
      reader = v.reader;
      streams = streams;
      sending = w;
      calls = v.calls;
      due = v.due;
      ended = v.ended;
      reset_count = v.reset_count;
    }) (with_pumped p)
pumped_by texts v old streams w is none ended at sending p st0 =
    let st : IsConnection texts v p = subst (λ (y : ConnectionValue). IsConnection texts y p) (sym is) st0 in
    let f = pumped_is p.history p.owed in
    let a : AreStreams streams (p.history ++ map Out f.0) =
    subst (λ (d : List Entry). AreStreams streams d) f.1 (at p.history p.owed st.streams st.sending) in
    let b : IsStoredSending texts w (p.history ++ map Out f.0) p.owed =
    subst (λ (d : List Entry). IsStoredSending texts w d p.owed) f.1 (sending p.history p.owed st.streams st.sending) in
    let c : v.ended ≡ has_failed (p.history ++ map Out f.0) = st.ended ∙ sym (failed_same p.history f.0 f.2) in
    subst (λ (d : List Entry). IsConnection texts
    (record {
      reader = v.reader;
      streams = streams;
      sending = w;
      calls = v.calls;
      due = v.due;
      ended = v.ended;
      reset_count =
          v.reset_count;
    }) (record p { history = d })) (sym f.1)
    (put_kept texts v streams w p f.0 f.2 f.3 st none
    (λ h. subst (λ (d : List Entry). ForgetsEnded w.queues d) f.1 (ended p.history p.owed st.streams st.sending h)) a b c)

-- where nothing can be put, the pump changes nothing
pub rested_by : (texts : SourceTexts) (v old : ConnectionValue) → v ≡ old → IsAtRest v.streams v.sending →
    QueuesEndWithin texts old.sending.queues → (p : Past) → IsConnection texts old p → IsConnection texts old (with_pumped p)
rested_by texts v old is rests fit p st =
    let at : IsAtRest old.streams old.sending = subst (λ (y : ConnectionValue). IsAtRest y.streams y.sending) is rests in
    let none : next_frames p.history p.owed ≡ None = at texts fit p.history p.owed st.streams st.sending in
    subst (λ (d : List Entry). IsConnection texts old (record p { history = d })) (sym (pumped_none p.history p.owed none)) st
