-- Every message that is given can be taken by a client that takes the longest there can be.
use Rattle.std.proofs.Common.{◌≡◌, ℕ, zero, ◌+◌, ◌-◌, ◌<◌, ◌≤◌, ◌^◌, List, [], ◌∷◌, ◌++◌, refl, arith, length, take, drop, length-take, length-append, inl, inr}
use Rattle.std.specs.Prelude.{Bool, true, false, cond, ◌/◌, ◌%◌, ◌==◌, ◌&&◌, nat_lt, map, suc}
use Rattle.std.specs.List.{AllByRecursion}
use Rattle.std.proofs.lemmas.Bool.{cases_Bool}
use Rattle.std.proofs.lemmas.Bool.Decides.{nat_tests}
use Rattle.grpc_sending.specs.Owed.{OwedItem, Item, Headed, Message, Range, item_on, items_owed_on}
use Rattle.grpc_sending.specs.Pieces.{most_read, length_text, read_message}
use Rattle.conn_core.proofs.Numbers.{same_number}
use Rattle.instance_core.specs.Replies.{ReplyItemValue, begins, says, gives, ends, refuses, ReplyValue, IsShortReplyItem, IsShortReply}
use Rattle.instance_core.specs.Answer.{answer}
use Rattle.instance_core.specs.State.{InstanceState, IsInstanceWithin}
use Rattle.instance_core.proofs.Events.{answers_short}
use Rattle.served_instance.specs.Calls.{item_of, owed_items}
use Rattle.client_reading.specs.Responses.{WholeMessage, IsPartWithin, messages_cut, read_messages, IsItemWithin, IsTakable}
use Rattle.client_reading.proofs.Choices.{choose, all_append}
use Rattle.run_reading.specs.Happenings.{Happening}
use Rattle.run_reading.specs.Replies.{GivenItems, given_items_from, items_given, items_on, longest_message}
use Rattle.run_reading.proofs.Named.{IsShortItem, IsShortHappening, HasItems, all_given}

at_most : (n m : ℕ) → n < 2 ^ 32 → 2 ^ 32 ≡ suc m → n ≤ m
at_most n m small is = omega (arith, is, small)

pub longest_fits : longest_message < 2 ^ 32
longest_fits = omega arith

-- ---- the messages of a range

length_short : (n : ℕ) → length (length_text n) ≤ 3
length_short n = go (nat_lt n 128) (nat_lt n 16384) where
  go : (a b : Bool) → length (cond a (n ∷ []) (cond b ((n % 128 + 128) ∷ (n / 128) ∷ [])
      ((n % 128 + 128) ∷ ((n / 128) % 128 + 128) ∷ (n / 16384) ∷ []))) ≤ 3
  go true b = omega arith
  go false true = omega arith
  go false false = omega arith

message_within : (bytes : List ℕ) → length bytes ≤ most_read → length (read_message bytes) ≤ longest_message
message_within bytes few =
    let head : length (length_text (length bytes)) ≤ 3 = length_short (length bytes) in
    let both : length (length_text (length bytes) ++ bytes) ≡ length (length_text (length bytes)) + length bytes =
    length-append (length_text (length bytes)) bytes in
    omega (arith, few, head, both)

cut_within : (k : ℕ) (bytes : List ℕ) → AllByRecursion (IsPartWithin longest_message) (map WholeMessage (messages_cut most_read k bytes))
cut_within zero bytes = tt
cut_within (suc k) bytes = elim (cases_Bool (nat_lt most_read (length bytes))) [
  | inl more ↦
      let front : length (take most_read bytes) ≤ most_read = omega (arith, length-take most_read bytes) in
      rw more (message_within (take most_read bytes) front, cut_within k (drop most_read bytes))
  | inr last ↦
      let few : length bytes ≤ most_read = grind (arith, nat_tests) in
      rw last (message_within bytes few, tt)
]

range_within : (bytes : List ℕ) → AllByRecursion (IsPartWithin longest_message) (map WholeMessage (read_messages bytes))
range_within bytes = cut_within (length bytes) bytes

item_within : (item : Item) → IsShortItem item → IsItemWithin longest_message item
item_within (Headed block) h = (tt, tt)
item_within (Message bytes) h = (at_most (length bytes) longest_message h refl, tt)
item_within (Range digest text from count) h = absurd h

abbrev pub IsGivenWithin : GivenItems → Type 0
IsGivenWithin g = AllByRecursion (IsItemWithin longest_message) g.items

abbrev pub AreWithin : List GivenItems → Type 0
AreWithin gs = AllByRecursion IsGivenWithin gs

-- ---- what is given

reply_item_within : (item : ReplyItemValue) → IsShortReplyItem item → IsItemWithin longest_message (item_of item)
reply_item_within begins h = (tt, tt)
reply_item_within (says bytes) h = (at_most (length bytes) longest_message h refl, tt)
reply_item_within (gives given) h = range_within (take (given.until - given.from) (drop given.from given.text))
reply_item_within ends h = (tt, tt)
reply_item_within (refuses refusal) h = (tt, tt)

reply_items_within : (items : List ReplyItemValue) → AllByRecursion IsShortReplyItem items →
    AllByRecursion (IsItemWithin longest_message) (owed_items items)
reply_items_within [] h = tt
reply_items_within (item ∷ items) h = (reply_item_within item h.0, reply_items_within items h.1)

replies_within : (rs : List ReplyValue) → AllByRecursion IsShortReply rs → AllByRecursion (HasItems (IsItemWithin longest_message)) rs
replies_within [] h = tt
replies_within (r ∷ rs) h = (reply_items_within r.items h.0, replies_within rs h.1)

pub given_within : (s : InstanceState) (hs : List Happening) → AllByRecursion IsShortHappening hs → IsInstanceWithin s →
    AreWithin (given_items_from s hs)
given_within s hs short w = all_given (IsItemWithin longest_message) item_within
    (λ t event e v. replies_within (answer t event).replies (answers_short t event e v)) s hs short w

pub items_within : (place s : ℕ) (gs : List GivenItems) → AreWithin gs → AllByRecursion (IsItemWithin longest_message) (items_on place s gs)
items_within place s [] h = tt
items_within place s (g ∷ gs) h =
    all_append (IsItemWithin longest_message) (items_given place s g) (items_on place s gs)
    (choose (AllByRecursion (IsItemWithin longest_message)) (g.place == place && g.stream == s) g.items [] (λ _. h.0) (λ _. tt))
    (items_within place s gs h.1)

-- ---- what is owed

later_ones : (P : Item → Type 0) (xs ys : List Item) → AllByRecursion P (xs ++ ys) → AllByRecursion P ys
later_ones P [] ys h = h
later_ones P (x ∷ xs) ys h = later_ones P xs ys h.1

first_one : (P : Item → Type 0) (o : OwedItem) (os : List OwedItem) → AllByRecursion P (items_owed_on o.stream (o ∷ os)) → P o.item
first_one P o os h = let here = same_number o.stream in let h' : AllByRecursion P (o.item ∷ items_owed_on o.stream os) = rw here at h in
    h'.0

pub all_takable : (os : List OwedItem) → ((s : ℕ) → AllByRecursion (IsItemWithin longest_message) (items_owed_on s os)) →
    IsTakable longest_message os
all_takable [] h = tt
all_takable (o ∷ os) h = (
  first_one (IsItemWithin longest_message) o os (h o.stream),
  all_takable os
      (λ s. later_ones (IsItemWithin longest_message) (item_on s o) (items_owed_on s os) (h s)),
)
