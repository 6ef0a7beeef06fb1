-- `coppernudge::twelve` meets its contract. Assumes nothing.
use mathlib.Core.Path.{refl}
use Rattle.coppernudge.specs.Entry.{twelve_of}
use Rattle.coppernudge.proofs.twelve.Goals as goal

pub returns : goal.returns
unfolding twelve_of
returns c = refl
