-- `coppernudge::put_words` meets its contract: a turn lays one word over the next four bytes. Assumes nothing.
use Rattle.coppernudge.proofs.EntryLaws.{Putting}
use Rattle.coppernudge.proofs.put_words.Given as goal

abbrev pub invariant-loop-i : goal.invariant-loop-i
invariant-loop-i l = Putting l.initial.out l.words l.out l.i
