-- `file_vectors::run` is safe and ends: each run leaves less of the script. Assumes nothing.
use lib.ListN.{length}
use Rattle.file_vectors.proofs.run.Given as goal

abbrev pub decreases-loop-rest : goal.decreases-loop-rest
decreases-loop-rest g l = length l.rest
