use Rattle.input_tree.specs.Taking.{bytes_left}
use Rattle.vectors.proofs.blobs.taken_of.Given as goal

abbrev pub decreases-steps : goal.decreases-steps
decreases-steps l = bytes_left l.reading
