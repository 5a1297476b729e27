-- What an event makes of a call of Read, and what it is answered.
use Rattle.std.proofs.Common.{◌≡◌, ℕ, ℤ, pos, negsuc, ◌+◌, ◌-◌, ◌<◌, ◌≤◌, List, [], ◌∷◌, ◌++◌, refl, sym, ap, ◌∙◌, subst, inl, inr, length, arith, take, drop}
use Rattle.std.specs.Prelude.{Bool, true, false, cond, ◌==◌, ◌⊎◌, nat_lt, nat_le, min, map, is_some, Option, Some, None, Result, Ok, Err}
use Rattle.std.specs.List.{AllByRecursion}
use Rattle.std.proofs.lemmas.Bool.Decides.{nat_tests}
use Rattle.std.proofs.lemmas.List.{length-drop, take_all}
use Rattle.grpc_sending.specs.Owed.{Item}
use Rattle.grpc_sending.proofs.Histories.{append-nil}
use Rattle.instance_view.specs.Visible.{visible_text}
use Rattle.quota_evict.proofs.Seen.{named_by}
use Rattle.reapi_messages.specs.Results.{◌>>=◌}
use Rattle.rpc.specs.declared.refusal.Refusal.{Refusal}
use Rattle.rpc.specs.declared.refusal.Refusal.TheVariants.{NoMessage, MoreThanOneMessage, OffsetOutOfRange}
use Rattle.rpc.specs.declared.method.Method.{Method}
use Rattle.rpc.specs.declared.method.Method.TheVariants as Called
use Rattle.bytestream.specs.declared.reading.ReadAsked.{ReadAsked}
use Rattle.bytestream.specs.Reading.{SourceValue, read_asked, offset_check, until_of, range_asked, read_answer}
use Rattle.bytestream.specs.Writing as Writing
use Rattle.bytestream.specs.Writing.{WrittenValue}
use Rattle.cas_service.specs.Changes as Texts
use Rattle.digest.specs.Naming.{Names}
use Rattle.execution.specs.Asking.{ExecuteAskedValue, execute_asked}
use Rattle.execution.specs.Execute as Executor
use Rattle.execution.specs.Execute.{ExecuteChange}
use Rattle.instance_core.specs.declared.event.CallId.{CallId}
use Rattle.instance_core.specs.Calls.{ProgressValue, waits, has, writes, watches, CallValue, CallEventValue, head, message, fault, end, cancel, call_at, same_call}
use Rattle.instance_core.specs.State.{InstanceState, IsInstanceWithin, seen}
use Rattle.instance_core.specs.Replies.{AnswerValue, one_message, messages, range, watching, answering, ReplyItemValue, refuses, ReplyValue, items_of}
use Rattle.instance_core.specs.Changes.{InstanceChange, Text, Goes, Ends, Wrote, Keeps, Expires, Does, Pushes, Settles, state_after_change, state_after_changes}
use Rattle.instance_core.specs.Methods.{answer_to, request_changes, use_asked, executed, execution_change, execution_changes}
use Rattle.instance_core.specs.NamedReplies.{bytes_from}
use Rattle.bytestream.specs.Writing.{OpenWriteValue, FirstAsked, PartValue, first_asked, next_asked}
use Rattle.instance_core.specs.Writes.{part_changes, first_part_changes, changes_asked, first_changes, next_changes, first_outcome, next_outcome}
use Rattle.instance_core.specs.Answer.{Answer, answer, state_after, head_answer, first_write_answer, next_write_answer, first_message_answer, answer_by_progress, message_answer, fault_by_progress, fault_answer, call_change, method_answer, end_answer_by_progress, request_end_answer}
use Rattle.instance_core.proofs.Sees.{all_named}
use Rattle.served_instance.specs.Calls.{owed_items}
use Rattle.client_reading.proofs.Choices.{all_append}
use Rattle.run_reading.proofs.CallEntries.{kept_at, none_found, one_found, with_new, with_more, with_other, without_one, without_none, without_other}

-- ---- an event of another call

-- no other call than this is touched
abbrev Touches : CallId → InstanceChange → Type 0
Touches x (Goes y call) = y ≡ x
Touches x (Ends y) = y ≡ x
Touches x (Settles steps) = ⊥
Touches x (Text c) = Unit {0}
Touches x (Wrote w) = Unit {0}
Touches x (Keeps results) = Unit {0}
Touches x Expires = Unit {0}
Touches x (Does operation) = Unit {0}
Touches x (Pushes job) = Unit {0}

abbrev AllAre : (InstanceChange → Type 0) → List InstanceChange → Type 0
AllAre P cs = AllByRecursion P cs

abbrev KeptAs : CallId → InstanceState → InstanceState → Type 0
KeptAs id s t = kept_at id t.calls ≡ kept_at id s.calls

change_apart : (id x : CallId) (c : InstanceChange) (s : InstanceState) → same_call id x ≡ false → Touches x c →
    KeptAs id s (state_after_change c s)
change_apart id x (Goes y call) s other touches =
    with_other id y call s.calls (subst (λ (z : CallId). same_call id z ≡ false) (sym touches) other)
change_apart id x (Ends y) s other touches = without_other id y s.calls (subst (λ (z : CallId). same_call id z ≡ false) (sym touches) other)
change_apart id x (Settles steps) s other touches = absurd touches
change_apart id x (Text c) s other touches = refl
change_apart id x (Wrote w) s other touches = refl
change_apart id x (Keeps results) s other touches = refl
change_apart id x Expires s other touches = refl
change_apart id x (Does operation) s other touches = refl
change_apart id x (Pushes job) s other touches = refl

changes_apart : (id x : CallId) (cs : List InstanceChange) (s : InstanceState) → same_call id x ≡ false → AllAre (Touches x) cs →
    KeptAs id s (state_after_changes cs s)
changes_apart id x [] s other all = refl
changes_apart id x (c ∷ cs) s other all = changes_apart id x cs (state_after_change c s) other all.1 ∙ change_apart id x c s other all.0

texts_touch : (x : CallId) (cs : List Texts.TextChange) → AllAre (Touches x) (map Text cs)
texts_touch x [] = tt
texts_touch x (c ∷ cs) = (tt, texts_touch x cs)

execution_touches : (x : CallId) (cs : List ExecuteChange) → AllAre (Touches x) (map execution_change cs)
execution_touches x [] = tt
execution_touches x (Executor.Uses d ∷ cs) = (tt, execution_touches x cs)
execution_touches x (Executor.Keeps results ∷ cs) = (tt, execution_touches x cs)
execution_touches x (Executor.Does operation ∷ cs) = (tt, execution_touches x cs)
execution_touches x (Executor.Pushes job ∷ cs) = (tt, execution_touches x cs)

executed_touches : (x : CallId) (s : InstanceState) (r : Result ExecuteAskedValue Refusal) → AllAre (Touches x) (execution_changes s r)
executed_touches x s (Ok asked) = execution_touches x (executed s asked).changes
executed_touches x s (Err refusal) = tt

request_touches : (x : CallId) (s : InstanceState) (method : Method) (request : List ℕ) →
    AllAre (Touches x) (request_changes method s request)
request_touches x s Called.FindMissingBlobs request = texts_touch x _
request_touches x s Called.BatchUpdateBlobs request = texts_touch x _
request_touches x s Called.BatchReadBlobs request = texts_touch x _
request_touches x s Called.GetTree request = texts_touch x _
request_touches x s Called.GetActionResult request = (tt, texts_touch x _)
request_touches x s Called.UpdateActionResult request = (tt, tt)
request_touches x s Called.Read request = texts_touch x _
request_touches x s Called.Execute request = executed_touches x s (execute_asked s.name request)
request_touches x s method request = tt

call_touches : (x : CallId) (method : Method) (r : Result AnswerValue Refusal) → Touches x (call_change x method r)
call_touches x method (Ok (watching n operation)) = refl
call_touches x method (Ok (one_message bytes)) = refl
call_touches x method (Ok (messages list)) = refl
call_touches x method (Ok (range source)) = refl
call_touches x method (Err refusal) = refl

head_touches : (x : CallId) (method : Method) (o : Option CallValue) → AllAre (Touches x) (head_answer x method o).changes
head_touches x method (Some call) = tt
head_touches x method None = (refl, tt)

first_touches : (x : CallId) (method : Method) (cs : List InstanceChange) (r : Result WrittenValue Refusal) → AllAre (Touches x) cs →
    AllAre (Touches x) (first_write_answer x method cs r).changes
first_touches x method cs (Ok (Writing.Goes write)) all =
    all_append (Touches x) cs (Goes x (record { method = method; progress = writes write }) ∷ []) all (refl, tt)
first_touches x method cs (Ok (Writing.Answered reply)) all = all_append (Touches x) cs (Ends x ∷ []) all (refl, tt)
first_touches x method cs (Err refusal) all = all_append (Touches x) cs (Ends x ∷ []) all (refl, tt)

next_touches : (x : CallId) (cs : List InstanceChange) (r : Result (Option (List ℕ)) Refusal) → AllAre (Touches x) cs →
    AllAre (Touches x) (next_write_answer x cs r).changes
next_touches x cs (Ok None) all = all
next_touches x cs (Ok (Some reply)) all = all_append (Touches x) cs (Ends x ∷ []) all (refl, tt)
next_touches x cs (Err refusal) all = all_append (Touches x) cs (Ends x ∷ []) all (refl, tt)

first_all : (x : CallId) (s : InstanceState) (bytes : List ℕ) → AllAre (Touches x) (first_changes s bytes)
first_all x s bytes = go (first_asked s.name bytes) where
  by : (asked : FirstAsked) (b : Bool) → AllAre (Touches x)
      (cond b (Text (Texts.Use asked.part.key.digest) ∷ []) (part_changes true s asked.part))
  by asked true = (tt, tt)
  by asked false = (tt, (tt, tt))

  go : (r : Result FirstAsked Refusal) → AllAre (Touches x) (changes_asked (first_part_changes s) r)
  go (Ok asked) = by asked (is_some (visible_text asked.part.key.digest s.visible))
  go (Err refusal) = tt

next_all : (x : CallId) (s : InstanceState) (write : OpenWriteValue) (bytes : List ℕ) → AllAre (Touches x) (next_changes s write bytes)
next_all x s write bytes = go (next_asked write bytes) where
  go : (r : Result PartValue Refusal) → AllAre (Touches x) (changes_asked (part_changes false s) r)
  go (Ok part) = (tt, (tt, tt))
  go (Err refusal) = tt

with_first_touches : (s : InstanceState) (x : CallId) (method : Method) (bytes : List ℕ) →
    AllAre (Touches x) (first_message_answer s x method bytes).changes
with_first_touches s x Called.Write bytes = first_touches x Called.Write (first_changes s bytes) (first_outcome s bytes)
    (first_all x s bytes)
with_first_touches s x method bytes = (refl, tt)

progress_touches : (s : InstanceState) (x : CallId) (method : Method) (bytes : List ℕ) (p : ProgressValue) →
    AllAre (Touches x) (answer_by_progress s x method bytes p).changes
progress_touches s x method bytes waits = with_first_touches s x method bytes
progress_touches s x method bytes (has first) = (refl, tt)
progress_touches s x method bytes (writes write) =
    next_touches x (next_changes s write bytes) (next_outcome s write bytes) (next_all x s write bytes)
progress_touches s x method bytes (watches n) = tt

message_touches : (s : InstanceState) (x : CallId) (bytes : List ℕ) (o : Option CallValue) →
    AllAre (Touches x) (message_answer s x bytes o).changes
message_touches s x bytes None = tt
message_touches s x bytes (Some call) = progress_touches s x call.method bytes call.progress

fault_touches : (x : CallId) (refusal : Refusal) (o : Option CallValue) → AllAre (Touches x) (fault_answer x refusal o).changes
fault_touches x refusal None = tt
fault_touches x refusal (Some call) = go call.progress where
  go : (p : ProgressValue) → AllAre (Touches x) (fault_by_progress x refusal p).changes
  go waits = (refl, tt)
  go (has first) = (refl, tt)
  go (writes write) = (refl, tt)
  go (watches n) = tt

end_touches : (s : InstanceState) (x : CallId) (o : Option CallValue) → AllAre (Touches x) (request_end_answer s x o).changes
end_touches s x None = tt
end_touches s x (Some call) = go call.progress where
  go : (p : ProgressValue) → AllAre (Touches x) (end_answer_by_progress s x call.method p).changes
  go waits = (refl, tt)
  go (has request) =
      all_append (Touches x) (request_changes call.method s request) (call_change x call.method (answer_to call.method s request) ∷ [])
      (request_touches x s call.method request) (call_touches x call.method (answer_to call.method s request), tt)
  go (writes write) = (refl, tt)
  go (watches n) = tt

pub head_apart : (id x : CallId) (method : Method) (s : InstanceState) → same_call id x ≡ false →
    KeptAs id s (state_after s (head x method))
head_apart id x method s other = changes_apart id x (answer s (head x method)).changes s other (head_touches x method (call_at x s.calls))

pub message_apart : (id x : CallId) (bytes : List ℕ) (s : InstanceState) → same_call id x ≡ false →
    KeptAs id s (state_after s (message x bytes))
message_apart id x bytes s other = changes_apart id x (answer s (message x bytes)).changes s other
    (message_touches s x bytes (call_at x s.calls))

pub fault_apart : (id x : CallId) (refusal : Refusal) (s : InstanceState) → same_call id x ≡ false →
    KeptAs id s (state_after s (fault x refusal))
fault_apart id x refusal s other = changes_apart id x (answer s (fault x refusal)).changes s other
    (fault_touches x refusal (call_at x s.calls))

pub end_apart : (id x : CallId) (s : InstanceState) → same_call id x ≡ false → KeptAs id s (state_after s (end x))
end_apart id x s other = changes_apart id x (answer s (end x)).changes s other (end_touches s x (call_at x s.calls))

pub cancel_apart : (id x : CallId) (s : InstanceState) → same_call id x ≡ false → KeptAs id s (state_after s (cancel x))
cancel_apart id x s other = changes_apart id x (Ends x ∷ []) s other (refl, tt)

-- ---- names

change_name : (c : InstanceChange) (s : InstanceState) → (state_after_change c s).name ≡ s.name
change_name (Goes y call) s = refl
change_name (Ends y) s = refl
change_name (Settles steps) s = refl
change_name (Text c) s = refl
change_name (Wrote w) s = refl
change_name (Keeps results) s = refl
change_name Expires s = refl
change_name (Does operation) s = refl
change_name (Pushes job) s = refl

changes_name : (cs : List InstanceChange) (s : InstanceState) → (state_after_changes cs s).name ≡ s.name
changes_name [] s = refl
changes_name (c ∷ cs) s = changes_name cs (state_after_change c s) ∙ change_name c s

pub same_name : (s : InstanceState) (event : CallEventValue) → (state_after s event).name ≡ s.name
same_name s event = changes_name (answer s event).changes s

-- ---- what a Read is given

-- bytes of the text that its digest names
pub record IsGivenPart (name request : List ℕ) (given : SourceValue) : Type 0 where
  pub asked : ReadAsked
  pub asks : read_asked name request ≡ Ok asked
  pub named : Names asked.digest given.text
  pub offset : asked.offset ≡ pos given.from
  pub bytes : take (given.until - given.from) (drop given.from given.text)
      ≡ bytes_from given.from asked.limit given.text

-- what stands before the end of a text is no more than the limit
bytes_asked : (limit from : ℕ) (text : List ℕ) → from ≤ length text →
    take (until_of limit from (length text) - from) (drop from text) ≡ bytes_from from limit text
bytes_asked limit from text within = go (limit == 0) where
  size : length (drop from text) ≡ length text - from
  size = length-drop from text

  limited : (b : Bool) → nat_le (from + limit) (length text) ≡ b →
      take (min (length text) (from + limit) - from) (drop from text) ≡ take limit (drop from text)
  limited true is =
      let fits : from + limit ≤ length text = grind (arith, nat_tests) in
      let count : min (length text) (from + limit) - from ≡ limit = omega (arith, fits) in
      ap (λ (n : ℕ). take n (drop from text)) count
  limited false is =
      let past : length text < from + limit = grind (arith, nat_tests) in
      let count : min (length text) (from + limit) - from ≡ length text - from = omega (arith, past, within) in
      ap (λ (n : ℕ). take n (drop from text)) count ∙ take_all (length text - from) (drop from text) (omega (arith, size))
      ∙ sym (take_all limit (drop from text) (omega (arith, size, past)))

  go : (b : Bool) → take (cond b (length text) (min (length text) (from + limit)) - from) (drop from text)
      ≡ cond b (drop from text) (take limit (drop from text))
  go true = take_all (length text - from) (drop from text) (omega (arith, size))
  go false = limited (nat_le (from + limit) (length text)) refl

place_is : (offset : ℤ) (size from : ℕ) → offset_check offset size ≡ Ok from → (offset ≡ pos from) × (from ≤ size)
place_is (pos n) size from is = go (nat_le n size) refl is where
  go : (b : Bool) → nat_le n size ≡ b → cond b (Ok n) (Err OffsetOutOfRange) ≡ Ok from → (pos n ≡ pos from) × (from ≤ size)
  go true le is =
      let same : n ≡ from = cc in
      let small : n ≤ size = grind (arith, nat_tests) in
      (ap pos same, subst (λ (m : ℕ). m ≤ size) same small)
  go false le is = absurd (cc)
place_is (negsuc n) size from is = absurd (cc)

given_part : (s : InstanceState) (request : List ℕ) (given : SourceValue) → IsInstanceWithin s →
    read_answer s.name (seen s) request ≡ Ok given → IsGivenPart s.name request given
given_part s request given w is = asks (read_asked s.name request) refl is where
  placed : (asked : ReadAsked) (text : List ℕ) (r : Result ℕ Refusal) → read_asked s.name request ≡ Ok asked →
      visible_text asked.digest (seen s) ≡ Some text → offset_check asked.offset (length text) ≡ r
      → (r >>= λ from. Ok (record { digest = asked.digest; text = text; from = from; until = until_of asked.limit from (length text) }))
      ≡ Ok given → IsGivenPart s.name request given
  placed asked text (Ok from) asks own at is =
      let place = place_is asked.offset (length text) from at in
      let one : SourceValue = record { digest = asked.digest; text = text; from = from; until = until_of asked.limit from (length text) } in
      let same : one ≡ given = cc in
      subst (IsGivenPart s.name request) same (record {
        asked = asked;
        asks = asks;
        named = named_by (seen s) asked.digest text (all_named s w) own;
        offset = place.0;
        bytes = bytes_asked asked.limit from text place.1;
      })
  placed asked text (Err refusal) asks own at is = absurd (cc)

  found : (asked : ReadAsked) (o : Option (List ℕ)) → read_asked s.name request ≡ Ok asked → visible_text asked.digest (seen s) ≡ o →
      range_asked asked o ≡ Ok given → IsGivenPart s.name request given
  found asked None asks own is = absurd (cc)
  found asked (Some text) asks own is = placed asked text (offset_check asked.offset (length text)) asks own refl is

  asks : (r : Result ReadAsked Refusal) → read_asked s.name request ≡ r →
      (r >>= λ asked. range_asked asked (visible_text asked.digest (seen s))) ≡ Ok given → IsGivenPart s.name request given
  asks (Ok asked) at is = found asked (visible_text asked.digest (seen s)) at refl is
  asks (Err refusal) at is = absurd (cc)

-- ---- how a call of Read stands, to which these messages came and these items were owed

pub data IsAnswered (name : List ℕ) (ms : List (List ℕ)) (items : List Item) : Type 0 where
  NotYet : items ≡ [] → IsAnswered name ms items
  Refuses : (refusal : Refusal) → items ≡ owed_items (refuses refusal ∷ []) → IsAnswered name ms items
  Gives : (request : List ℕ) (later : List (List ℕ)) (given : SourceValue) → ms ≡ request ∷ later → IsGivenPart name request given
      → items ≡ owed_items (items_of (Ok (range given))) → IsAnswered name ms items

abbrev pub reading : ProgressValue → CallValue
reading p = record { method = Called.Read; progress = p }

pub data Stands (name : List ℕ) (vs : List CallValue) (ms : List (List ℕ)) (items : List Item) : Type 0 where
  Waits : vs ≡ reading waits ∷ [] → items ≡ [] → ms ≡ [] → Stands name vs ms items
  Has : (request : List ℕ) → vs ≡ reading (has request) ∷ [] → items ≡ [] → ms ≡ request ∷ [] → Stands name vs ms items
  Over : vs ≡ [] → IsAnswered name ms items → Stands name vs ms items

pub answered : (name : List ℕ) (vs : List CallValue) (ms : List (List ℕ)) (items : List Item) → Stands name vs ms items →
    IsAnswered name ms items
answered name vs ms items (Waits is none came) = NotYet none
answered name vs ms items (Has request is none came) = NotYet none
answered name vs ms items (Over is so) = so

more_came : (name : List ℕ) (ms more : List (List ℕ)) (items : List Item) → IsAnswered name ms items → IsAnswered name (ms ++ more) items
more_came name ms more items (NotYet none) = NotYet none
more_came name ms more items (Refuses refusal is) = Refuses refusal is
more_came name ms more items (Gives request later given first part is) =
    Gives request (later ++ more) given (ap (λ (xs : List (List ℕ)). xs ++ more) first) part is

-- what is said to a call, if anything
abbrev pub said : CallId → List ReplyItemValue → List ReplyValue
said id [] = []
said id (item ∷ items) = record { call = id; items = item ∷ items } ∷ []

-- an event is answered, and whether or not its stream is open the call stands
pub record Next (name : List ℕ) (id : CallId) (s : InstanceState) (event : CallEventValue) (ms : List (List ℕ))
    (items : List Item) : Type 0 where
  pub its : List ReplyItemValue
  pub replies : (answer s event).replies ≡ said id its
  pub lost : Stands name (kept_at id (state_after s event).calls) ms items
  pub owed : Stands name (kept_at id (state_after s event).calls) ms (items ++ owed_items its)

-- nothing is kept, and nothing is said
pub record StaysNone (id : CallId) (s : InstanceState) (event : CallEventValue) : Type 0 where
  pub replies : (answer s event).replies ≡ []
  pub calls : kept_at id (state_after s event).calls ≡ []

by_answer : (id : CallId) (s : InstanceState) (event : CallEventValue) (a : Answer) (vs : List CallValue) → answer s event ≡ a →
    kept_at id (state_after_changes a.changes s).calls ≡ vs → kept_at id (state_after s event).calls ≡ vs
by_answer id s event a vs is kept = ap (λ (x : Answer). kept_at id (state_after_changes x.changes s).calls) is ∙ kept

replies_by : (s : InstanceState) (event : CallEventValue) (a : Answer) (rs : List ReplyValue) → answer s event ≡ a → a.replies ≡ rs →
    (answer s event).replies ≡ rs
replies_by s event a rs is said_so = ap (λ (x : Answer). x.replies) is ∙ said_so

pub none_message : (id : CallId) (s : InstanceState) (bytes : List ℕ) → kept_at id s.calls ≡ [] → StaysNone id s (message id bytes)
none_message id s bytes is =
    let a : answer s (message id bytes) ≡ message_answer s id bytes None = ap (message_answer s id bytes) (none_found id s.calls is) in
    record {
      replies = replies_by s (message id bytes) (message_answer s id bytes None) [] a refl;
      calls =
          by_answer id s (message id bytes) (message_answer s id bytes None) [] a is;
    }

pub none_fault : (id : CallId) (s : InstanceState) (refusal : Refusal) → kept_at id s.calls ≡ [] → StaysNone id s (fault id refusal)
none_fault id s refusal is =
    let a : answer s (fault id refusal) ≡ fault_answer id refusal None = ap (fault_answer id refusal) (none_found id s.calls is) in
    record {
      replies = replies_by s (fault id refusal) (fault_answer id refusal None) [] a refl;
      calls =
          by_answer id s (fault id refusal) (fault_answer id refusal None) [] a is;
    }

pub none_end : (id : CallId) (s : InstanceState) → kept_at id s.calls ≡ [] → StaysNone id s (end id)
none_end id s is =
    let a : answer s (end id) ≡ request_end_answer s id None = ap (request_end_answer s id) (none_found id s.calls is) in
    record {
      replies = replies_by s (end id) (request_end_answer s id None) [] a refl;
      calls =
          by_answer id s (end id) (request_end_answer s id None) [] a is;
    }

pub none_cancel : (id : CallId) (s : InstanceState) → kept_at id s.calls ≡ [] → StaysNone id s (cancel id)
none_cancel id s is = record { replies = refl; calls = without_none id s.calls is }

-- a call that is over stays so
over_next : (name : List ℕ) (id : CallId) (s : InstanceState) (event : CallEventValue) (ms more : List (List ℕ)) (items : List Item) →
    StaysNone id s event → IsAnswered name ms items → Next name id s event (ms ++ more) items
over_next name id s event ms more items none so = record {
  its = [];
  replies = none.replies;
  lost = Over none.calls (more_came name ms more items so);
  owed = Over none.calls (subst (IsAnswered name (ms ++ more)) (sym (append-nil items)) (more_came name ms more items so));
}

-- it is refused, and over
refused_next : (name : List ℕ) (id : CallId) (s : InstanceState) (event : CallEventValue) (ms : List (List ℕ)) (items : List Item)
    (refusal : Refusal) → (answer s event).replies ≡ said id (refuses refusal ∷ []) → kept_at id (state_after s event).calls ≡ [] →
    items ≡ [] → Next name id s event ms items
refused_next name id s event ms items refusal replies calls none = record {
  its = refuses refusal ∷ [];
  replies = replies;
  lost = Over calls (NotYet none);
  owed = Over calls (Refuses refusal (ap (λ (xs : List Item). xs ++ owed_items (refuses refusal ∷ [])) none));
}

pub next_head : (name : List ℕ) (id : CallId) (s : InstanceState) (items : List Item) → kept_at id s.calls ≡ [] → items ≡ [] →
    Next name id s (head id Called.Read) [] items
next_head name id s items is none =
    let a : answer s (head id Called.Read) ≡ head_answer id Called.Read None = ap (head_answer id Called.Read) (none_found id s.calls is) in
    let calls = by_answer id s (head id Called.Read) (head_answer id Called.Read None) (reading waits ∷ []) a
    (with_new id (reading waits) s.calls is) in
    record {
      its = [];
      replies = replies_by s (head id Called.Read) (head_answer id Called.Read None) [] a refl;
      lost = Waits calls none refl;
      owed = Waits calls (ap (λ (xs : List Item). xs ++ []) none) refl;
    }

ends_one : (id : CallId) (s : InstanceState) (v : CallValue) → kept_at id s.calls ≡ v ∷ [] →
    kept_at id (state_after_changes (Ends id ∷ []) s).calls ≡ []
ends_one id s v is = without_one id v s.calls is

pub next_message : (name : List ℕ) (id : CallId) (s : InstanceState) (bytes : List ℕ) (ms : List (List ℕ)) (items : List Item) →
    Stands name (kept_at id s.calls) ms items → Next name id s (message id bytes) (ms ++ bytes ∷ []) items
next_message name id s bytes ms items (Waits is none came) =
    let a : answer s (message id bytes) ≡ message_answer s id bytes (Some (reading waits)) =
    ap (message_answer s id bytes) (one_found id s.calls (reading waits) is) in
    let calls = by_answer id s (message id bytes) (message_answer s id bytes (Some (reading waits))) (reading (has bytes) ∷ []) a
    (with_more id (reading (has bytes)) (reading waits) s.calls is) in
    let one : ms ++ bytes ∷ [] ≡ bytes ∷ [] = ap (λ (xs : List (List ℕ)). xs ++ bytes ∷ []) came in
    record {
      its = [];
      replies = replies_by s (message id bytes) (message_answer s id bytes (Some (reading waits))) [] a refl;
      lost = Has bytes calls none one;
      owed = Has bytes calls (ap (λ (xs : List Item). xs ++ []) none) one;
    }
next_message name id s bytes ms items (Has request is none came) =
    let a : answer s (message id bytes) ≡ message_answer s id bytes (Some (reading (has request))) =
    ap (message_answer s id bytes) (one_found id s.calls (reading (has request)) is) in
    refused_next name id s (message id bytes) (ms ++ bytes ∷ []) items MoreThanOneMessage
    (replies_by s (message id bytes) (message_answer s id bytes (Some (reading (has request))))
    (said id (refuses MoreThanOneMessage ∷ [])) a refl)
    (by_answer id s (message id bytes) (message_answer s id bytes (Some (reading (has request)))) [] a
    (ends_one id s (reading (has request)) is)) none
next_message name id s bytes ms items (Over is so) =
    over_next name id s (message id bytes) ms (bytes ∷ []) items (none_message id s bytes is) so

over_still : (name : List ℕ) (id : CallId) (s : InstanceState) (event : CallEventValue) (ms : List (List ℕ)) (items : List Item) →
    StaysNone id s event → IsAnswered name ms items → Next name id s event ms items
over_still name id s event ms items none so = record {
  its = [];
  replies = none.replies;
  lost = Over none.calls so;
  owed = Over none.calls (subst (IsAnswered name ms) (sym (append-nil items)) so);
}

refused_one : (name : List ℕ) (id : CallId) (s : InstanceState) (event : CallEventValue) (ms : List (List ℕ)) (items : List Item)
    (refusal : Refusal) (v : CallValue) (a : Answer) → answer s event ≡ a →
    a ≡ record { replies = said id (refuses refusal ∷ []); changes = Ends id ∷ [] } → kept_at id s.calls ≡ v ∷ [] → items ≡ [] →
    Next name id s event ms items
refused_one name id s event ms items refusal v a is final kept none =
    let whole = is ∙ final in
    refused_next name id s event ms items refusal (ap (λ (x : Answer). x.replies) whole)
    (ap (λ (x : Answer). kept_at id (state_after_changes x.changes s).calls) whole ∙ ends_one id s v kept) none

pub next_fault : (name : List ℕ) (id : CallId) (s : InstanceState) (refusal : Refusal) (ms : List (List ℕ)) (items : List Item) →
    Stands name (kept_at id s.calls) ms items → Next name id s (fault id refusal) ms items
next_fault name id s refusal ms items (Waits is none came) =
    refused_one name id s (fault id refusal) ms items refusal (reading waits) (fault_answer id refusal (Some (reading waits)))
    (ap (fault_answer id refusal) (one_found id s.calls (reading waits) is)) refl is none
next_fault name id s refusal ms items (Has request is none came) =
    refused_one name id s (fault id refusal) ms items refusal (reading (has request))
    (fault_answer id refusal (Some (reading (has request))))
    (ap (fault_answer id refusal) (one_found id s.calls (reading (has request)) is)) refl is none
next_fault name id s refusal ms items (Over is so) = over_still name id s (fault id refusal) ms items (none_fault id s refusal is) so

cancelled : (name : List ℕ) (id : CallId) (s : InstanceState) (ms : List (List ℕ)) (items : List Item) (v : CallValue) →
    kept_at id s.calls ≡ v ∷ [] → items ≡ [] → Next name id s (cancel id) ms items
cancelled name id s ms items v is none = record {
  its = [];
  replies = refl;
  lost = Over (without_one id v s.calls is) (NotYet none);
  owed = Over (without_one id v s.calls is) (NotYet (ap (λ (xs : List Item). xs ++ []) none));
}

pub next_cancel : (name : List ℕ) (id : CallId) (s : InstanceState) (ms : List (List ℕ)) (items : List Item) →
    Stands name (kept_at id s.calls) ms items → Next name id s (cancel id) ms items
next_cancel name id s ms items (Waits is none came) = cancelled name id s ms items (reading waits) is none
next_cancel name id s ms items (Has request is none came) = cancelled name id s ms items (reading (has request)) is none
next_cancel name id s ms items (Over is so) = over_still name id s (cancel id) ms items (none_cancel id s is) so

-- ---- the end of its request

texts_keep : (id : CallId) (cs : List Texts.TextChange) (more : List InstanceChange) (s : InstanceState) (v : CallValue) →
    kept_at id s.calls ≡ v ∷ []
    → ((t : InstanceState) → kept_at id t.calls ≡ v ∷ [] → kept_at id (state_after_changes more t).calls ≡ []) →
    kept_at id (state_after_changes (map Text cs ++ more) s).calls ≡ []
texts_keep id [] more s v is then = then s is
texts_keep id (c ∷ cs) more s v is then = texts_keep id cs more (state_after_change (Text c) s) v is then

read_ends : (name : List ℕ) (id : CallId) (s : InstanceState) (ms : List (List ℕ)) (items : List Item) (request : List ℕ) →
    IsInstanceWithin s → s.name ≡ name → kept_at id s.calls ≡ reading (has request) ∷ [] → items ≡ [] → ms ≡ request ∷ [] →
    Next name id s (end id) ms items
read_ends name id s ms items request w own is none came = go (read_answer s.name (seen s) request) refl where
  at : answer s (end id) ≡ method_answer s id Called.Read request
  at = ap (request_end_answer s id) (one_found id s.calls (reading (has request)) is)

  over : (r : Result AnswerValue Refusal) → call_change id Called.Read r ≡ Ends id →
      kept_at id (state_after_changes (map Text (use_asked (read_asked s.name request)) ++ call_change id Called.Read r ∷ []) s).calls ≡ []
  over r ends = texts_keep id (use_asked (read_asked s.name request)) (call_change id Called.Read r ∷ []) s (reading (has request)) is
      (λ t kept. ap (λ (c : InstanceChange). kept_at id (state_after_changes (c ∷ []) t).calls) ends
      ∙ without_one id (reading (has request)) t.calls kept)

  -- the answer, and the calls behind it
  replies_are : (r : Result SourceValue Refusal) → read_answer s.name (seen s) request ≡ r →
      (answer s (end id)).replies ≡ record { call = id; items = items_of (answering range r) } ∷ []
  replies_are r was =
      ap (λ (a : Answer). a.replies) at ∙ ap (λ (x : Result SourceValue Refusal). record { call = id; items = items_of (answering range x) }
      ∷ []) was

  ends_all : (r : Result SourceValue Refusal) → call_change id Called.Read (answering range r) ≡ Ends id
  ends_all (Ok given) = refl
  ends_all (Err refusal) = refl

  calls : kept_at id (state_after s (end id)).calls ≡ []
  calls = by_answer id s (end id) (method_answer s id Called.Read request) [] at
      (over (answer_to Called.Read s request) (ends_all (read_answer s.name (seen s) request)))

  go : (r : Result SourceValue Refusal) → read_answer s.name (seen s) request ≡ r → Next name id s (end id) ms items
  go (Err refusal) was = refused_next name id s (end id) ms items refusal (replies_are (Err refusal) was) calls none
  go (Ok given) was = record {
    its = items_of (Ok (range given));
    replies = replies_are (Ok given) was;
    lost = Over calls (NotYet none);
    owed = Over calls (Gives request [] given came
        (subst (λ (n : List ℕ). IsGivenPart n request given) own (given_part s request given w was))
        (ap (λ (xs : List Item). xs ++ owed_items (items_of (Ok (range given)))) none));
  }

pub next_end : (name : List ℕ) (id : CallId) (s : InstanceState) (ms : List (List ℕ)) (items : List Item) → IsInstanceWithin s →
    s.name ≡ name → Stands name (kept_at id s.calls) ms items → Next name id s (end id) ms items
next_end name id s ms items w own (Waits is none came) =
    refused_one name id s (end id) ms items NoMessage (reading waits) (request_end_answer s id (Some (reading waits)))
    (ap (request_end_answer s id) (one_found id s.calls (reading waits) is)) refl is none
next_end name id s ms items w own (Has request is none came) = read_ends name id s ms items request w own is none came
next_end name id s ms items w own (Over is so) = over_still name id s (end id) ms items (none_end id s is) so
