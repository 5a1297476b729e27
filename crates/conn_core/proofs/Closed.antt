-- The calls on closed streams are let go of.
use Rattle.std.proofs.Common.{◌≡◌, ℕ, List, refl, ap, ◌∙◌, sym, subst, inl, inr}
use Rattle.std.specs.Prelude.{true, false, ◌==◌, map, None, Option, Result}
use Rattle.std.specs.List.{list_any}
use Rattle.std.proofs.lemmas.Bool.{cases_Bool}
use Rattle.grpc_messages.specs.declared.error.MessagesError.{MessagesError}
use Rattle.grpc_sending.specs.StoredSending.{SourceTexts}
use Rattle.http2_streams.specs.declared.stream.Stream.{Stream}
use Rattle.http2_streams.specs.History.{Entry, live_streams, opened_streams, is_not_closed}
use Rattle.http2_streams.specs.Rules.{number_is}
use Rattle.conn_core.specs.declared.call.Call.{Call}
use Rattle.conn_core.specs.Calls.{is_call}
use Rattle.conn_core.specs.Past.{Past}
use Rattle.conn_core.specs.StandsFor.{ConnectionValue, IsConnection, IsRestOfCall, call_on, call_stream, members_of}
use Rattle.conn_core.proofs.Answered.{both}
use Rattle.conn_core.proofs.Began.{IsThinned, none_left}
use Rattle.conn_core.proofs.Bring.{listed_streams}
use Rattle.conn_core.proofs.Brought.{Holds}
use Rattle.conn_core.proofs.Numbers.{filter_less}
use Rattle.conn_core.proofs.Opened.{call_opened}
use Rattle.conn_core.proofs.Places.{KeepsOpen, kept_on, none_kept, kept_streams}
use Rattle.conn_core.proofs.StreamsLaws.{in_live}

-- a call on a stream that is not closed is on a live one
call_listed : (d : List Entry) (s : ℕ) → is_call d s ≡ true → is_not_closed d s ≡ true → list_any (λ t. t == s) (live_streams d) ≡ true
call_listed d s call lives = in_live d s ∙ both (list_any (λ t. t == s) (opened_streams d)) (is_not_closed d s) (call_opened d s call) lives

open_thinned : (d : List Entry) (streams : List Stream) (cs kept : List Call) →
    ((t : ℕ) → list_any (number_is t) streams ≡ list_any (λ u. u == t) (live_streams d)) → Holds d cs → KeepsOpen streams cs kept →
    IsThinned d cs kept
open_thinned d streams cs kept listed holds (inl all) =
    let same : (t : ℕ) → call_on t kept ≡ call_on t cs = λ t. ap (λ (xs : List Call). call_on t xs) all in
    record {
      calls = λ t lives. same t;
      nothing = λ t none. same t ∙ none;
      order =
          ap (λ (xs : List Call). members_of (live_streams d) (map call_stream xs)) all;
    }
open_thinned d streams cs kept listed holds (inr some) =
    let nothing' : (t : ℕ) → call_on t cs ≡ None → call_on t kept ≡ None =
    λ t none. ap (λ (xs : List Call). call_on t xs) some ∙ none_kept (λ n. list_any (number_is n) streams) t cs none in
    record {
      calls = λ t lives. elim (cases_Bool (list_any (λ u. u == t) (live_streams d))) [
        | inl live ↦ ap (λ (xs : List Call). call_on t xs) some ∙ kept_on (λ n. list_any (number_is n) streams) t cs (listed t ∙ live)
        | inr out ↦ none_left d cs kept t (call_on t cs) refl (holds t lives)
            (λ call. let no : true ≡ false = sym (call_listed d t call lives) ∙ out in let z : ⊥ = cc in z) (nothing' t)
      ];
      nothing = nothing';
      order =
          ap (λ (xs : List Call). members_of (live_streams d) (map call_stream xs)) some
          ∙ ap (λ (ns : List ℕ). members_of (live_streams d) ns) (kept_streams (λ n. list_any (number_is n) streams) cs)
          ∙ filter_less (λ t. list_any (λ u. u == t) (live_streams d)) (λ n. list_any (number_is n) streams) (map call_stream cs)
          (λ t h. listed t ∙ h);
    }

-- what is kept stands for the past with the calls on live streams alone, too
pub open_kept : (texts : SourceTexts) (v : ConnectionValue) (kept : List Call) (p : Past) → IsConnection texts v p →
    KeepsOpen v.streams.live v.calls kept → IsConnection texts (record v { calls = kept }) p
open_kept texts v kept p st keeps = record {
  ended = st.ended;
  streams = st.streams;
  sending = st.sending;
  due = st.due;
  over = st.over;
  alive = λ alive.
      let a = st.alive alive in
      let thin = open_thinned p.history v.streams.live v.calls kept
      (λ t. listed_streams v.streams p.history t st.streams alive) a.calls keeps in
      record {
        reader = a.reader;
        calls = λ s lives. subst (λ (o : Option (Result (List ℕ) MessagesError)). IsRestOfCall p.history s o) (sym (thin.calls s lives))
            (a.calls s lives);
        order = thin.order ∙ a.order;
        counted = a.counted;
        live = a.live;
        finished = a.finished;
      };
}
