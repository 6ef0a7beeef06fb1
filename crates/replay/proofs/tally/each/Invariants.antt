-- `replay::tally::each` meets its contract: every entry that goes on has a length. Assumes nothing.
use Rattle.std.proofs.Common.{length, ◌-◌}
use Rattle.replay.proofs.tally.each.Given as goal

abbrev pub decreases-loop-at : goal.decreases-loop-at
decreases-loop-at g l = length l.data - l.at
