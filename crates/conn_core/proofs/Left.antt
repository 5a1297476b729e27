-- The calls that are given up with a connection.
use Rattle.std.proofs.Common.{◌≡◌, List, refl, ◌∙◌, inl, inr}
use Rattle.std.specs.Prelude.{true, false, ◌==◌, map, filter}
use Rattle.std.specs.List.{list_any}
use Rattle.std.proofs.lemmas.Bool.{cases_Bool}
use Rattle.http2_streams.specs.History.{Entry, live_streams, has_failed}
use Rattle.http2_streams.specs.Rules.{number_is}
use Rattle.conn_core.specs.declared.event.CallEvent.TheVariants.{Cancel}
use Rattle.grpc_sending.specs.StoredSending.{SourceTexts}
use Rattle.conn_core.specs.Calls.{is_call, calls_left, cancels}
use Rattle.conn_core.specs.Past.{Past}
use Rattle.conn_core.specs.StandsFor.{ConnectionValue, IsConnection, call_stream, live_numbers, live_calls}
use Rattle.conn_core.proofs.Numbers.{filter_agree}
use Rattle.conn_core.proofs.Bring.{listed_streams}

-- without an error of the connection
alive_left : (texts : SourceTexts) (v : ConnectionValue) (p : Past) → IsConnection texts v p → has_failed p.history ≡ false →
    live_numbers v.streams.live v.calls ≡ filter (is_call p.history) (live_streams p.history)
alive_left texts v p st alive =
    filter_agree (λ t. list_any (number_is t) v.streams.live) (λ t. list_any (λ u. u == t) (live_streams p.history))
    (map call_stream v.calls) (λ t h. listed_streams v.streams p.history t st.streams alive)
    ∙ (st.alive alive).order

pub left_calls : (texts : SourceTexts) (v : ConnectionValue) (p : Past) → IsConnection texts v p → live_calls v ≡ calls_left p.history
left_calls texts v p st = elim (cases_Bool (has_failed p.history)) [
  | inl failed ↦ let e : v.ended ≡ true = st.ended ∙ failed in rw (e, failed) refl
  | inr alive ↦ let e : v.ended ≡ false = st.ended ∙ alive in rw (e, alive) (alive_left texts v p st alive)
]

pub left_cancels : (d : List Entry) → cancels d ≡ map Cancel (calls_left d)
left_cancels d = elim (cases_Bool (has_failed d)) [
  | inl failed ↦ rw failed refl
  | inr alive ↦ rw alive refl
]
