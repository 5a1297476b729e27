use Rattle.served_instance.proofs.RoomLeft.{short_loses_for_room}
use Rattle.served_instance.proofs.laws.want_of_memory_loses_blobs_for_room.Goals as goal

pub returns : goal.returns
returns c = short_loses_for_room
