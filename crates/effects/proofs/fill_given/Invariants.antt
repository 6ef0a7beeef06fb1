-- `effects::fill_given` meets its contract. The invariant is `Filling`: what is left to fill, filled, is the whole column.
-- Assumes nothing.
use lib.ListN.{length, get_or}
use Rattle.tables.specs.Packed.{size_in}
use Rattle.effects.specs.Effects.{gives_back}
use Rattle.effects.proofs.Filling.{Filling}
use Rattle.effects.proofs.fill_given.Given as goal

abbrev pub invariant-loop-row : goal.invariant-loop-row
invariant-loop-row l = let f = l.program.functions in
    Filling (λ k. gives_back (size_in l.sizes) l.program.code.now (get_or f.offsets.now k 0) (get_or f.lengths.now k 0)) (length f.offsets.now) l.initial.given l.row l.given
