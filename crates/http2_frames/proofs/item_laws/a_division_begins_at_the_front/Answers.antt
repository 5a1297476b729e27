use Rattle.std.proofs.Common.{refl}
use Rattle.http2_frames.proofs.WireItemsDivisions.{divide_at}
use Rattle.http2_frames.proofs.item_laws.a_division_begins_at_the_front.Goals as goal

pub returns : goal.returns
returns g c = λ format text steady. divide_at format steady text _ refl
