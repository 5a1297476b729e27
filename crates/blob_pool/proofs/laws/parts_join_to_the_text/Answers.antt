use Rattle.blob_pool.proofs.Parts.{front_read, whole_read, all_read}
use Rattle.blob_pool.proofs.laws.parts_join_to_the_text.Goals as goal

pub returns-clause-front : goal.returns-clause-front
returns-clause-front c = front_read

pub returns-clause-whole : goal.returns-clause-whole
returns-clause-whole c = whole_read

pub returns-clause-enough : goal.returns-clause-enough
returns-clause-enough c = all_read
