-- The past of a connection, and one step of it.
use Rattle.std.specs.Prelude.{ℕ, ◌-◌, nat_lt, if◌then◌else◌, false, List, [], ◌∷◌, ◌++◌}
use Rattle.http2_frames.specs.declared.codes.ErrorCode.{ErrorCode}
use Rattle.http2_frames.specs.declared.error.FrameError.{FrameError}
use Rattle.http2_frames.specs.declared.frame.RawFrame.{RawFrame}
use Rattle.http2_frames.specs.declared.frame.Frame.TheVariants.{Settings, WindowUpdate}
use Rattle.http2_frames.specs.declared.codes.setting.TheConstants.{INITIAL_WINDOW_SIZE, MAX_CONCURRENT_STREAMS}
use Rattle.http2_frames.specs.declared.settings.Setting.{Setting}
use Rattle.http2_streams.specs.declared.streams.TheConstants.{MAX_STREAMS}
use Rattle.http2_streams.specs.History.{Entry, Out, Took}
use Rattle.grpc_sending.specs.Owed.{OwedItem, Item, owed_with_item}
use Rattle.grpc_sending.specs.Pump.{history_after_pump}
use Rattle.conn_core.specs.declared.event.CallEvent.{CallEvent}
use Rattle.conn_core.specs.Received.{outcome, frame_entries, fault_entries}
use Rattle.conn_core.specs.Calls.{call_events_of, cancels, items_at_once}

pub record Past : Type 0 where
  -- all bytes that were received
  pub text : List ℕ
  pub history : List Entry
  -- all items that were ever owed
  pub owed : List OwedItem
  -- events of calls that were not given out yet
  pub due : List CallEvent

-- SETTINGS_MAX_CONCURRENT_STREAMS is MAX_STREAMS (RFC 9113 section 6.5.2)
abbrev pub streams_setting : Setting
streams_setting = record { identifier = MAX_CONCURRENT_STREAMS; value = MAX_STREAMS }

-- SETTINGS_INITIAL_WINDOW_SIZE is the window
abbrev pub window_setting : ℕ → Setting
window_setting window = record { identifier = INITIAL_WINDOW_SIZE; value = window }

-- how large each window is until something else is said (section 6.9.2)
abbrev pub initial_window : ℕ
initial_window = 65535

-- the server's SETTINGS. Where its windows are larger than at first they say so for streams, and a
-- WINDOW_UPDATE says it for the connection, whose window no setting changes (section 6.9.2)
abbrev pub greeting : ℕ → List Entry
greeting window =
    if nat_lt initial_window window
    then Out (Settings false (streams_setting ∷ window_setting window ∷ []))
    ∷ Out (WindowUpdate 0 (window - initial_window)) ∷ []
    else Out (Settings false (streams_setting ∷ [])) ∷ []

-- a connection begins with the server's greeting
abbrev pub new_past : ℕ → Past
new_past window = record { text = []; history = greeting window; owed = []; due = [] }

abbrev pub owed_with_items : List Entry → List OwedItem → List (ℕ × Item) → List OwedItem
owed_with_items d os [] = os
owed_with_items d os (x ∷ xs) = owed_with_items d (owed_with_item d os x.0 x.1) xs

-- more bytes were received
abbrev pub with_bytes : List ℕ → Past → Past
with_bytes bytes p = record p { text = p.text ++ bytes }

-- the next frame: what is put for it at once, what its request is answered at once, and what it
-- brings to calls
abbrev pub with_frame : Past → RawFrame → Past
with_frame p f = record p {
  history = p.history ++ frame_entries p.history f;
  owed = owed_with_items (p.history ++ frame_entries p.history f) p.owed
      (items_at_once (outcome p.history f).event);
  due = p.due ++
      (if (outcome p.history f).fails then cancels p.history
      else call_events_of p.history (outcome p.history f).event);
}

-- bytes that are no frame, which is an error of this code
abbrev pub with_fault : Past → FrameError → ErrorCode → Past
with_fault p e code = record p {
  history = p.history ++ fault_entries p.history e code;
  due = p.due ++ cancels p.history;
}

-- an item of a response
abbrev pub with_item : Past → ℕ → Item → Past
with_item p s item = record p { owed = owed_with_item p.history p.owed s item }

abbrev pub with_taken : Past → ℕ → Past
with_taken p n = record p { history = p.history ++ Took n ∷ [] }

abbrev pub with_pumped : Past → Past
with_pumped p = record p { history = history_after_pump p.history p.owed }
