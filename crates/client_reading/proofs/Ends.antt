-- A stream that the server has ended is not live: the client has ended it too, or RST_STREAM was put behind the block.
use Rattle.std.proofs.Common.{◌≡◌, ℕ, List, [], ◌∷◌, ◌++◌, refl, ap, ◌∙◌, sym, subst, inl, inr}
use Rattle.std.specs.Prelude.{Bool, true, false, not, ◌&&◌, ◌||◌, ◌==◌, map, fold, take}
use Rattle.std.specs.List.{AllByRecursion, list_any}
use Rattle.std.proofs.lemmas.Bool.{cases_Bool, eqb-true, true≢false}
use Rattle.std.proofs.lemmas.List.Elements.{filter_map-append}
use Rattle.std.proofs.lemmas.List.Folds.{list_any-append}
use Rattle.hpack.specs.Encoding.{block_text}
use Rattle.http2_frames.specs.declared.codes.ErrorCode.TheVariants.{NoError}
use Rattle.http2_frames.specs.declared.frame.RawFrame.{RawFrame}
use Rattle.http2_frames.specs.declared.frame.Frame.{Frame}
use Rattle.http2_frames.specs.declared.frame.Frame.TheVariants.{Data, Headers, RstStream}
use Rattle.http2_frames.specs.Codes.{code_number}
use Rattle.http2_streams.specs.History.{Entry, In, Unreadable, Out, Took, received_frames, sent_frames, frame_out, highest_stream, has_failed, resets, ends, data_ends, block_ends, no_blocks, blocks_after, is_reset, is_ended_by_client, is_ended_by_server, is_not_closed}
use Rattle.http2_streams.proofs.LiveLaw.{live_falls}
use Rattle.grpc_calls.specs.Responses.{fields_of, is_last}
use Rattle.grpc_sending.specs.Pieces.{Piece}
use Rattle.grpc_sending.specs.Bytes.{position}
use Rattle.grpc_sending.specs.Owed.{OwedItem, pieces_left_on}
use Rattle.grpc_sending.specs.Pump.{reset_after}
use Rattle.grpc_sending.proofs.Histories.{sent_more, received_more}
use Rattle.conn_core.specs.Past.{Past, new_past}
use Rattle.conn_core.proofs.Greeting.{greeted}
use Rattle.conn_core.specs.Received.{outcome, fault_frames, frame_entries}
use Rattle.conn_core.proofs.Numbers.{any_later, same_number}
use Rattle.client_reading.specs.Changes.{PastChange, past_after_change, past_of, IsChange, BytesReceived, FrameRead, FaultMet, ItemGiven, BytesTaken, FramesPut, EventsGiven}
use Rattle.client_reading.proofs.Choices.{fold_keeps}
use Rattle.client_reading.proofs.Controls.{IsControl, out_sent, outcome_control, fault_control, reset_control}
use Rattle.client_reading.proofs.Nexts.{Next, IsFront, portion, pump_keeps}

abbrev pub EndsLive : List Entry → Type 0
EndsLive d = (s : ℕ) → is_not_closed d s ≡ true → is_ended_by_server d s ≡ false

-- ---- entries that end no live stream

ended_more : (d es : List Entry) (s : ℕ) → is_ended_by_server (d ++ es) s ≡ (is_ended_by_server d s || list_any (ends s) (sent_frames es))
ended_more d es s = ap (list_any (ends s)) (filter_map-append frame_out d es) ∙ list_any-append (ends s) (sent_frames d) (sent_frames es)

neither : (b c : Bool) → b ≡ false → c ≡ false → (b || c) ≡ false
neither true c h k = cc
neither false c h k = k

more : (d es : List Entry) → ((s : ℕ) → is_not_closed (d ++ es) s ≡ true → list_any (ends s) (sent_frames es) ≡ false) → EndsLive d →
    EndsLive (d ++ es)
more d es none h s lives = ended_more d es s ∙ neither (is_ended_by_server d s) (list_any (ends s) (sent_frames es))
    (h s (live_falls d es s lives)) (none s lives)

control_ends : (s : ℕ) (f : Frame) → IsControl f → ends s f ≡ false
control_ends s (Data t e b) h = cc
control_ends s (Headers t e x b) h = cc
control_ends s _ h = refl

controls_end : (s : ℕ) (fs : List Frame) → AllByRecursion IsControl fs → list_any (ends s) fs ≡ false
controls_end s [] h = refl
controls_end s (f ∷ fs) h = neither (ends s f) (list_any (ends s) fs) (control_ends s f h.0) (controls_end s fs h.1)

behind : (d : List Entry) (e : Entry) (fs : List Frame) → sent_frames (e ∷ map Out fs) ≡ sent_frames (map Out fs) →
    AllByRecursion IsControl fs → EndsLive d → EndsLive (d ++ e ∷ map Out fs)
behind d e fs silent all h = more d (e ∷ map Out fs)
    (λ s lives. ap (λ (gs : List Frame). list_any (ends s) gs) (silent ∙ out_sent fs) ∙ controls_end s fs all) h

-- ---- a block that ends a stream

live_unreset : (r c e : Bool) → (not r && not (c && e)) ≡ true → r ≡ false
live_unreset true c e h = cc
live_unreset false c e h = refl

live_unended : (r c e : Bool) → (not r && not (c && e)) ≡ true → c ≡ true → e ≡ false
live_unended true c e h k = cc
live_unended false true true h k = cc
live_unended false true false h k = refl
live_unended false false e h k = cc

abbrev ended_c : List Frame → ℕ → Bool
ended_c rs s = list_any (data_ends s) rs || list_any (block_ends s) (fold blocks_after no_blocks rs).finished

client_same : (d : List Entry) (fs : List Frame) (s : ℕ) → is_ended_by_client (d ++ map Out fs) s ≡ is_ended_by_client d s
client_same d fs s = ap (λ (rs : List Frame). ended_c rs s) (received_more d fs)

server_put : (d : List Entry) (fs : List Frame) (s : ℕ) → list_any (ends s) fs ≡ true → is_ended_by_server (d ++ map Out fs) s ≡ true
server_put d fs s h = ended_more d (map Out fs) s
    ∙ any_later (is_ended_by_server d s) (list_any (ends s) (sent_frames (map Out fs)))
    (ap (λ (gs : List Frame). list_any (ends s) gs) (out_sent fs) ∙ h)

reset_put : (d : List Entry) (fs : List Frame) (s : ℕ) → list_any (resets s) fs ≡ true → is_reset (d ++ map Out fs) s ≡ true
reset_put d fs s h =
    let put : list_any (resets s) (sent_frames (d ++ map Out fs)) ≡ true =
    ap (λ (gs : List Frame). list_any (resets s) gs) (sent_more d fs) ∙ list_any-append (resets s) (sent_frames d) fs
    ∙ any_later (list_any (resets s) (sent_frames d)) (list_any (resets s) fs) h in
    any_later (list_any (resets s) (received_frames (d ++ map Out fs))) (list_any (resets s) (sent_frames (d ++ map Out fs))) put

-- while the stream is live, the block behind which these frames were put did not end it
ends_none : (d : List Entry) (s : ℕ) (e x c : Bool) (fragment : List ℕ) → is_ended_by_client d s ≡ c →
    is_not_closed (d ++ map Out (Headers s e x fragment ∷ reset_after s (e && not c))) s ≡ true → e ≡ false
ends_none d s false x c fragment is lives = refl
ends_none d s true x true fragment is lives =
    let fs : List Frame = Headers s true x fragment ∷ [] in
    let here : (true && s == s || false) ≡ true = rw (same_number s) refl in
    let open' = live_unended (is_reset (d ++ map Out fs) s) (is_ended_by_client (d ++ map Out fs) s)
    (is_ended_by_server (d ++ map Out fs) s) lives (client_same d fs s ∙ is) in
    absurd (true≢false (sym (server_put d fs s here) ∙ open'))
ends_none d s true x false fragment is lives =
    let fs : List Frame = Headers s true x fragment ∷ RstStream s (code_number NoError) ∷ [] in
    let here : (false || (s == s || false)) ≡ true = rw (same_number s) refl in
    let unreset = live_unreset (is_reset (d ++ map Out fs) s) (is_ended_by_client (d ++ map Out fs) s)
    (is_ended_by_server (d ++ map Out fs) s) lives in
    absurd (true≢false (sym (reset_put d fs s here) ∙ unreset))

no_end : (e : Bool) (s t : ℕ) → ((s == t) ≡ true → e ≡ false) → (e && s == t) ≡ false
no_end false s t h = refl
no_end true s t h = elim (cases_Bool (s == t)) [
  | inl same ↦ let no : true ≡ false = h same in cc
  | inr other ↦ other
]

last_block : (d : List Entry) (s : ℕ) (e x c : Bool) (fragment : List ℕ) → is_ended_by_client d s ≡ c → EndsLive d →
    EndsLive (d ++ map Out (Headers s e x fragment ∷ reset_after s (e && not c)))
last_block d s e x c fragment is h =
    let fs : List Frame = Headers s e x fragment ∷ reset_after s (e && not c) in
    more d (map Out fs) (λ t lives.
    ap (λ (gs : List Frame). list_any (ends t) gs) (out_sent fs)
    ∙ neither (e && s == t) (list_any (ends t) (reset_after s (e && not c)))
    (no_end e s t (λ same. ends_none d s e x c fragment is
    (subst (λ (u : ℕ). is_not_closed (d ++ map Out fs) u ≡ true) (sym (eqb-true s t same)) lives)))
    (controls_end t (reset_after s (e && not c)) (reset_control s (e && not c)))) h

-- ---- the pump

front_ends : (d : List Entry) (s : ℕ) (ps : List Piece) (fs : List Frame) → IsFront d s ps fs → EndsLive d → EndsLive (d ++ map Out fs)
front_ends d s ps fs (inl b) h = subst (λ (gs : List Frame). EndsLive (d ++ map Out gs)) (sym b.put)
    (last_block d s (is_last b.block) true (is_ended_by_client d s) (block_text (position d) (fields_of b.block)) refl h)
front_ends d s ps fs (inr p) h = subst (λ (gs : List Frame). EndsLive (d ++ map Out gs)) (sym p.put)
    (more d (Out (Data s false (take (portion d s p.bytes) p.bytes)) ∷ []) (λ t lives. refl) h)

turn_ends : (os : List OwedItem) (d : List Entry) (fs : List Frame) → Next d os fs → EndsLive d → EndsLive (d ++ map Out fs)
turn_ends os d fs n h = front_ends d n.stream (pieces_left_on d os n.stream) fs n.front h

-- ---- every past

pub ends_frame : (d : List Entry) (f : RawFrame) → EndsLive d → EndsLive (d ++ frame_entries d f)
ends_frame d f h = behind d (In f) (outcome d f).put refl (outcome_control d f) h

ends_change : (p : Past) (c : PastChange) → IsChange c → EndsLive p.history → EndsLive (past_after_change p c).history
ends_change p (BytesReceived bytes) is h = h
ends_change p (FrameRead f) is h = ends_frame p.history f h
ends_change p (FaultMet e code) is h = behind p.history (Unreadable e)
    (fault_frames (has_failed p.history) (highest_stream p.history) code) refl
    (fault_control (has_failed p.history) (highest_stream p.history) code) h
ends_change p (ItemGiven t item) is h = h
ends_change p (BytesTaken n) is h = more p.history (Took n ∷ []) (λ s lives. refl) h
ends_change p FramesPut is h = pump_keeps EndsLive p.owed (turn_ends p.owed) p.history h
ends_change p (EventsGiven left) is h = h

pub ends_past : (window : ℕ) (cs : List PastChange) → AllByRecursion IsChange cs → EndsLive (past_of window cs).history
ends_past window cs all =
    fold_keeps (λ (p : Past). EndsLive p.history) IsChange past_after_change (new_past window) cs ends_change all
    (greeted EndsLive window (λ s lives. refl) (λ s lives. refl))
