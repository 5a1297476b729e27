-- What holds of each of the two greetings holds of the greeting.
use Rattle.std.proofs.Common.{◌≡◌, ℕ, ◌-◌, ◌<◌, ◌^◌, Bool, true, false, cond, nat_lt, List, [], ◌∷◌, refl, ap, ◌∙◌, subst, arith}
use Rattle.std.specs.Prelude.{slice_index}
use Rattle.std.specs.Int.{to_be_bytes, w32}
use Rattle.std.proofs.lemmas.Bool.Decides.{nat_tests}
use Rattle.http2_frames.specs.declared.settings.Setting.{Setting}
use Rattle.http2_frames.specs.Settings.{settings_of}
use Rattle.http2_frames.proofs.SettingsLists.{settings_again}
use Rattle.http2_frames.specs.declared.frame.Frame.TheVariants.{Settings, WindowUpdate}
use Rattle.http2_streams.specs.History.{Entry, Out}
use Rattle.grpc_sending.specs.Bytes.{count_taken}
use Rattle.conn_core.specs.Past.{greeting, initial_window, streams_setting, window_setting}
use Rattle.conn_core.specs.Received.{received_raw_frames}

abbrev pub usual_greeting : List Entry
usual_greeting = Out (Settings false (streams_setting ∷ [])) ∷ []

abbrev pub large_greeting : ℕ → List Entry
large_greeting window = Out (Settings false (streams_setting ∷ window_setting window ∷ [])) ∷ Out
    (WindowUpdate 0 (window - initial_window)) ∷ []

pub greeted : (P : List Entry → Type 0) (window : ℕ) → P (large_greeting window) → P usual_greeting → P (greeting window)
greeted P window large usual = go (nat_lt initial_window window) where
  go : (b : Bool) → P (cond b (large_greeting window) usual_greeting)
  go true = large
  go false = usual

-- the larger one, as its parts are put
pub larger : (P : List Entry → Type 0) (window : ℕ) (ss : List Setting) → initial_window < window →
    ss ≡ streams_setting ∷ window_setting window ∷ [] → P (Out (Settings false ss) ∷ Out (WindowUpdate 0 (window - initial_window)) ∷ []) →
    P (greeting window)
larger P window ss lt same h = go (nat_lt initial_window window) refl where
  go : (b : Bool) → nat_lt initial_window window ≡ b → P (cond b (large_greeting window) usual_greeting)
  go true is = subst (λ (xs : List Setting). P (Out (Settings false xs) ∷ Out (WindowUpdate 0 (window - initial_window)) ∷ [])) same h
  go false is = absurd (grind (arith, nat_tests))

-- the payload of its SETTINGS
abbrev payload : List ℕ → List ℕ
payload bytes = 0 ∷ 3 ∷ 0 ∷ 0 ∷ 0 ∷ 100 ∷ 0 ∷ 4 ∷ slice_index bytes 0 ∷ slice_index bytes 1 ∷ slice_index bytes 2 ∷ slice_index bytes 3 ∷ []

pub payload_is : (bytes : List ℕ) (window : ℕ) → window < 2 ^ 32 → bytes ≡ to_be_bytes w32 window →
    settings_of (payload bytes) ≡ streams_setting ∷ window_setting window ∷ []
payload_is bytes window fits is =
    ap (λ (bs : List ℕ). settings_of (payload bs)) is
    ∙ settings_again (streams_setting ∷ window_setting window ∷ [])
    ((omega arith, omega arith), ((omega arith, omega (arith, fits)), tt))

pub nothing_taken : (window : ℕ) → count_taken (greeting window) ≡ 0
nothing_taken window = greeted (λ (d : List Entry). count_taken d ≡ 0) window refl refl

pub nothing_received : (window : ℕ) → received_raw_frames (greeting window) ≡ []
nothing_received window = greeted (λ (d : List Entry). received_raw_frames d ≡ []) window refl refl
