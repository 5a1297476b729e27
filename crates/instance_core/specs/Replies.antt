-- What an instance sends in answer to a call, item by item.
use Rattle.std.specs.Prelude.{ℕ, ◌<◌, ◌≤◌, nat_lt, if◌then◌else◌, List, [], ◌∷◌, ◌++◌, map, length, Result, Ok, Err}
use Rattle.std.specs.List.{AllByRecursion}
use Rattle.rpc.specs.Messages.{message_length_limit}
use Rattle.rpc.specs.declared.refusal.Refusal.{Refusal}
use Rattle.bytestream.specs.Reading.{SourceValue}
use Rattle.instance_core.specs.declared.event.CallId.{CallId}

pub data ReplyItemValue : Type 0 where
  -- the reply begins
  begins : ReplyItemValue
  -- a whole message
  says : List ℕ → ReplyItemValue
  -- a range of a blob, as messages
  gives : SourceValue → ReplyItemValue
  -- the reply is whole, with status OK
  ends : ReplyItemValue
  -- the call is refused, and nothing was sent before
  refuses : Refusal → ReplyItemValue

-- what is sent now in answer to a call
pub record ReplyValue : Type 0 where
  pub call : CallId
  pub items : List ReplyItemValue

-- a range has bytes, and ends within its text
pub record IsRange (source : SourceValue) : Type 0 where
  pub some : source.from < source.until
  pub within : source.until ≤ length source.text

-- a message's length can be written in four bytes (gRPC over HTTP2, Length-Prefixed-Message)
abbrev pub IsShortReplyItem : ReplyItemValue → Type 0
IsShortReplyItem (says bytes) = length bytes < message_length_limit
IsShortReplyItem (gives source) = IsRange source
IsShortReplyItem _ = Unit {0}

abbrev pub IsShortReply : ReplyValue → Type 0
IsShortReply reply = AllByRecursion IsShortReplyItem reply.items

-- what a method answers: a message, messages in order, a range of a blob, or the present Operation
-- of the job of a number, which others follow
pub data AnswerValue : Type 0 where
  one_message : List ℕ → AnswerValue
  messages : List (List ℕ) → AnswerValue
  range : SourceValue → AnswerValue
  watching : ℕ → List ℕ → AnswerValue

-- an answer of this shape, or a refusal
abbrev pub answering : {X : Type 0} → (X → AnswerValue) → Result X Refusal →
    Result AnswerValue Refusal
answering shape (Ok x) = Ok (shape x)
answering shape (Err refusal) = Err refusal

-- what is sent of an answer; nothing of a range without bytes
abbrev pub answer_items : AnswerValue → List ReplyItemValue
answer_items (one_message bytes) = says bytes ∷ []
answer_items (messages list) = map says list
answer_items (range source) = if nat_lt source.from source.until then gives source ∷ [] else []
answer_items (watching n operation) = says operation ∷ []

-- the reply is whole then, unless others follow
abbrev pub answer_end : AnswerValue → List ReplyItemValue
answer_end (one_message bytes) = ends ∷ []
answer_end (messages list) = ends ∷ []
answer_end (range source) = ends ∷ []
answer_end (watching n operation) = []

-- a reply as far as it is known, or a refusal
abbrev pub items_of : Result AnswerValue Refusal → List ReplyItemValue
items_of (Ok answer) = begins ∷ answer_items answer ++ answer_end answer
items_of (Err refusal) = refuses refusal ∷ []
