-- What a script of calls prints: a line for each command, from the texts that its instance has by
-- then.
use Rattle.std.specs.Prelude.{ℕ, Bool, List, [], ◌∷◌, ◌++◌, length, map, codes, is_some, not, ◌&&◌, nat_lt, slice_index_or, slice_set, Result, Ok, Err, if◌then◌else◌}
use Rattle.std.specs.Fmt.{decimal}
use Rattle.cas_service.specs.Results.{◌>>=◌}
use Rattle.script.specs.Hexadecimal.{hex_word}
use Rattle.script.specs.declared.unary.method.Method.{Method}
use Rattle.script.specs.declared.unary.method.Method.TheVariants.{FindMissingBlobs, BatchUpdateBlobs, BatchReadBlobs}
use Rattle.script.specs.UnaryScript.{InstanceValue, CommandValue, UnaryScriptValue, put, call, unary_script_of}
use Rattle.script.specs.UnaryLines.{instance_place}
use Rattle.rpc.specs.declared.refusal.Refusal.{Refusal}
use Rattle.rpc.specs.Status.{code_of, text_of}
use Rattle.digest.specs.Naming.{digest_of}
use Rattle.instance_view.specs.Visible.{Blob, visible_text}
use Rattle.quota_evict.specs.Admission.{visible_after_admission}
use Rattle.script.specs.Limits.{LimitsValue}
use Rattle.cas_service.specs.Changes.{TextChange, visible_after_changes}
use Rattle.cas_service.specs.FindMissing.{find_missing_reply, find_missing_changes}
use Rattle.cas_service.specs.BatchUpdate.{batch_update_reply, batch_update_changes}
use Rattle.cas_service.specs.BatchRead.{batch_read_reply, batch_read_changes}

-- an instance: its name, its quota in bytes, how many texts it may have, and its texts, the most
-- recently used first
pub record StoreValue : Type 0 where
  pub name : List ℕ
  pub quota : ℕ
  pub limit : ℕ
  pub visible : List Blob

-- at first there are no texts
abbrev pub new_store : LimitsValue → InstanceValue → StoreValue
new_store limits instance = record {
  name = instance.name;
  quota = instance.quota;
  limit = limits.blobs;
  visible = [];
}

-- the reply of a store to a call, or its refusal
abbrev pub reply_from_store : Method → StoreValue → List ℕ → Result (List ℕ) Refusal
reply_from_store FindMissingBlobs s message = find_missing_reply s.name s.visible message
reply_from_store BatchUpdateBlobs s message = batch_update_reply s.name s.quota message
reply_from_store BatchReadBlobs s message = batch_read_reply s.name s.visible message

-- what a call does to the texts
abbrev pub changes_by : Method → StoreValue → List ℕ → List TextChange
changes_by FindMissingBlobs s message = find_missing_changes s.name message
changes_by BatchUpdateBlobs s message = batch_update_changes s.name s.quota message
changes_by BatchReadBlobs s message = batch_read_changes s.name message

-- `ok HEX`
abbrev pub ok_line : List ℕ → List ℕ
ok_line reply = codes "ok " ++ hex_word reply

-- `status CODE TEXT`
abbrev pub status_line : Refusal → List ℕ
status_line refusal = codes "status " ++ decimal (code_of refusal) ++ codes " " ++ text_of refusal

abbrev pub reply_line : Result (List ℕ) Refusal → List ℕ
reply_line (Ok reply) = ok_line reply
reply_line (Err refusal) = status_line refusal

-- a text that is not there and is longer than the quota is refused
abbrev pub is_refused : ℕ → List Blob → List ℕ → Bool
is_refused quota visible text =
    not (is_some (visible_text (digest_of text) visible)) && nat_lt quota (length text)

abbrev pub put_line : Bool → List ℕ
put_line refused = if refused then codes "refused" else codes "stored"

-- a text is stored under its digest
abbrev pub store_after_put : List ℕ → StoreValue → StoreValue
store_after_put text s = record s {
  visible = visible_after_admission s.limit s.quota (digest_of text) text s.visible;
}

abbrev pub store_after_call : Method → List ℕ → StoreValue → StoreValue
store_after_call method message s = record s {
  visible = visible_after_changes s.limit s.quota (changes_by method s message) s.visible;
}

-- the line that a command prints
abbrev pub line_of : CommandValue → StoreValue → List ℕ
line_of (put place text) s = put_line (is_refused s.quota s.visible text)
line_of (call place method message) s = reply_line (reply_from_store method s message)

-- the instance after a command
abbrev pub store_after : CommandValue → StoreValue → StoreValue
store_after (put place text) s = store_after_put text s
store_after (call place method message) s = store_after_call method message s

abbrev pub no_store : StoreValue
no_store = record { name = []; quota = 0; limit = 0; visible = [] }

-- the instance that a command is for
abbrev pub store_of : CommandValue → List StoreValue → StoreValue
store_of command stores = slice_index_or stores (instance_place command) no_store

-- a command leaves all instances but its own as they are
abbrev pub stores_after : CommandValue → List StoreValue → List StoreValue
stores_after command stores =
    slice_set stores (instance_place command) (store_after command (store_of command stores))

-- the lines that commands print, one after another
abbrev pub lines_of_commands : List CommandValue → List StoreValue → List (List ℕ)
lines_of_commands [] stores = []
lines_of_commands (command ∷ commands) stores =
    line_of command (store_of command stores)
    ∷ lines_of_commands commands (stores_after command stores)

-- the lines that a script prints, for whose instances these limits were chosen
abbrev pub lines_of_value : LimitsValue → UnaryScriptValue → List (List ℕ)
lines_of_value limits script =
    lines_of_commands script.commands (map (new_store limits) script.instances)

-- the lines that the script of a text prints, or the number of its first bad line
abbrev pub lines_of_script : LimitsValue → List ℕ → Result (List (List ℕ)) ℕ
lines_of_script limits text =
    unary_script_of text >>= λ script. Ok (lines_of_value limits script)

-- lines as they are written, each with a newline at its end
abbrev pub text_of_lines : List (List ℕ) → List ℕ
text_of_lines [] = []
text_of_lines (line ∷ lines) = line ++ 10 ∷ text_of_lines lines
