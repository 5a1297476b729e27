-- What the items of replies owe with the texts of their ranges, and what becomes of the sources
-- that they hold. For the code alone: no public contract speaks of it.
use Rattle.std.specs.Prelude.{◌≡◌, ◌+◌, ◌≤◌, ◌<◌, ℕ, List, length, map}
use Rattle.std.specs.List.{AllByRecursion}
use Rattle.blob_pool.specs.Slots.{Slots}
use Rattle.blob_pool.specs.Moves.{Holders, Moves, no_holders}
use Rattle.grpc_sending.specs.StoredSending.{SourceTexts, QueuesEndWithin, HasFewSources, sources_of}
use Rattle.grpc_sending.specs.Sources.{count_of}
use Rattle.conn_core.specs.GrpcMessagesWire.{message_length_limit}
use Rattle.conn_core.specs.Past.{Past}
use Rattle.conn_core.specs.StandsFor.{ConnectionValue}
use Rattle.instance_core.specs.declared.event.Reply.{Reply}
use Rattle.instance_core.specs.declared.event.ReplyItem.{ReplyItem}
use Rattle.instance_core.specs.declared.event.ReplyItem.TheVariants.{Begins, Says, Tells, Gives, Ends, Refuses}
use Rattle.instance_core.specs.Replies.{ReplyItemValue, begins, says, gives, ends, refuses, ReplyValue}
use Rattle.served_instance.specs.Calls.{owed_items, with_items}
use Rattle.served_instance.specs.StandsFor.{ServedConnection}
use Rattle.served_instance.specs.Ranges.{range_holders, RangesEndWithin, HaveFewSources}

-- ---- with the texts of a look-up

abbrev pub item_by : SourceTexts → ReplyItem → ReplyItemValue
item_by texts Begins = begins
item_by texts (Says bytes) = says bytes.items
item_by texts (Tells bytes) = says bytes.value.items
item_by texts (Gives range) =
    gives (record {
      digest = range.digest;
      text = texts range.text;
      from = range.from;
      until = range.until;
    })
item_by texts Ends = ends
item_by texts (Refuses refusal) = refuses refusal

abbrev pub reply_by : SourceTexts → Reply → ReplyValue
reply_by texts reply = record { call = reply.call; items = map (item_by texts) reply.items.items }

-- these items are owed to stream s
abbrev pub with_owed : ℕ → List ReplyItem → SourceTexts → Past → Past
with_owed s items texts = with_items s (owed_items (map (item_by texts) items))

-- a message's length can be written in four bytes, and a range does not end before it begins
abbrev pub CanBeOwed : ReplyItem → Type 0
CanBeOwed (Says bytes) = length bytes.items < message_length_limit
CanBeOwed (Tells bytes) = length bytes.value.items < message_length_limit
CanBeOwed (Gives range) = range.from ≤ range.until
CanBeOwed item = Unit {0}

abbrev pub ReplyCanBeOwed : Reply → Type 0
ReplyCanBeOwed reply = AllByRecursion CanBeOwed reply.items.items

-- a range ends within the text of its source
abbrev pub ItemEndsWithin : ReplyItem → SourceTexts → Type 0
ItemEndsWithin (Gives range) texts = range.until ≤ length (texts range.text)
ItemEndsWithin item texts = Unit {0}

abbrev pub ItemsEndWithin : List ReplyItem → SourceTexts → Type 0
ItemsEndWithin items texts = AllByRecursion (λ item. ItemEndsWithin item texts) items

abbrev pub ReplyEndsWithin : Reply → SourceTexts → Type 0
ReplyEndsWithin reply = ItemsEndWithin reply.items.items

abbrev pub RepliesEndWithin : List Reply → SourceTexts → Type 0
RepliesEndWithin replies texts = AllByRecursion (λ reply. ReplyEndsWithin reply texts) replies

-- ---- what becomes of the sources

-- a connection holds the given ones too, but for some of them that were released in the pool
pub record TakesRanges (given : Holders) (IsGood : SourceTexts → Type 0)
    (p : Slots) (v : ConnectionValue) (q : Slots) (w : ConnectionValue) : Type 0 where
  pub gone : Holders
  pub fewer : (k : ℕ) → gone k ≤ given k
  pub sources : (k : ℕ) →
      count_of k (sources_of w.sending) + gone k ≡ count_of k (sources_of v.sending) + given k
  pub few : HasFewSources v.sending → HasFewSources w.sending
  pub fit : (texts : SourceTexts) → IsGood texts → QueuesEndWithin texts v.sending.queues →
      QueuesEndWithin texts w.sending.queues
  pub moves : Moves p q gone no_holders

-- .. the connections together
pub record AllTakeRanges (given : Holders) (IsGood : SourceTexts → Type 0)
    (p : Slots) (vs : List ServedConnection) (q : Slots) (ws : List ServedConnection) : Type 0 where
  pub gone : Holders
  pub fewer : (k : ℕ) → gone k ≤ given k
  pub sources : (k : ℕ) → range_holders ws k + gone k ≡ range_holders vs k + given k
  pub few : HaveFewSources vs → HaveFewSources ws
  pub fit : (texts : SourceTexts) → IsGood texts → RangesEndWithin texts vs →
      RangesEndWithin texts ws
  pub moves : Moves p q gone no_holders
