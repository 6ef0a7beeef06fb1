-- What the lent sources state: an instruction's effect in its program.
-- Assumes nothing.
use Rattle.tables.specs.Packed.{move_in}
use Rattle.program.specs.Stated.{list_in}
use Rattle.rules.specs.Look.{Effects}
use Rattle.effects.specs.declared.Sources.{Sources}
use Rattle.effects.specs.Effects.{directory_of, known_by}

abbrev pub known_in : Sources → Effects
known_in s = known_by (move_in s.words.now) s.hints.now (list_in s.program.list) (directory_of s.program.functions.ids.now s.program.functions.parameters.now s.given.now)
