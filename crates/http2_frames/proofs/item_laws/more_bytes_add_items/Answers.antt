use Rattle.http2_frames.proofs.WireItemsDivisions.{continues, grows}
use Rattle.http2_frames.proofs.item_laws.more_bytes_add_items.Goals as goal

pub returns-clause-continues : goal.returns-clause-continues
returns-clause-continues g c = λ format text more steady. continues format steady text more

pub returns-clause-fault : goal.returns-clause-fault
returns-clause-fault g c = λ format text more fault steady. (grows format steady text more).ended fault
