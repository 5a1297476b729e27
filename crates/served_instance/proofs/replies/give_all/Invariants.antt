use Rattle.std.proofs.Common.{ℕ, List, ◌≤◌, length, map}
use Rattle.std.specs.List.{AllByRecursion}
use Rattle.blob_pool.specs.Slots.{Slots, count_at}
use Rattle.instance_core.specs.ReplyHolders.{replies_holders}
use Rattle.served_instance.specs.declared.open_connection.OpenConnection.{OpenConnection}
use Rattle.served_instance.specs.Acts.{Keeps}
use Rattle.served_instance.specs.OwedReplies.{ReplyCanBeOwed, RepliesEndWithin, AllTakeRanges}
use Rattle.served_instance.specs.Cuts.{KeepsOthers}
use Rattle.served_instance.specs.Present.{StayInPlace}
use Rattle.instance_core.specs.Apart.{AreRepliesTo}
use Rattle.served_instance.specs.Shown.{connection_shown}
use Rattle.served_instance.specs.StandsFor.{ServedConnection}
use Rattle.served_instance.proofs.Gives.{AreGiven}
use Rattle.served_instance.proofs.replies.give_all.Given as goal

-- what is left is given behind what was, and its ranges are held
abbrev pub invariant-replies : goal.invariant-replies
invariant-replies l = record {
  given : (ns : List OpenConnection) → AreGiven l.left.items l.connections ns → AreGiven l.fn.replies.items l.fn.connections ns;
  rest : Keeps l.fn.connections l.connections;
  takes : (r : Slots) (ws : List ServedConnection) →
      AllTakeRanges (replies_holders l.left.items) (RepliesEndWithin l.left.items) l.pool (map connection_shown l.connections) r ws →
      AllTakeRanges (replies_holders l.fn.replies.items) (RepliesEndWithin l.fn.replies.items) l.fn.pool
      (map connection_shown l.fn.connections) r ws;
  counted : (k : ℕ) → replies_holders l.left.items k ≤ count_at l.pool k;
  owed : AllByRecursion ReplyCanBeOwed l.left.items;
  places : StayInPlace l.fn.connections l.connections;
  others : (c : ℕ) → AreRepliesTo c l.fn.replies.items → KeepsOthers c l.fn.connections l.connections × AreRepliesTo c l.left.items;
}

abbrev pub decreases-replies : goal.decreases-replies
decreases-replies l = length l.left.items
