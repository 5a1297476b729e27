use Rattle.instance_core.proofs.RoomMade.{part_loses}
use Rattle.instance_core.proofs.laws.calls_lose_blobs_for_room.Goals as goal

pub returns : goal.returns
returns c = λ s t event within part. part_loses s t event part within.limits.some_blobs within.texts
