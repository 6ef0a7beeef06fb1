-- The rules of Callees.antt over what code lends: the words, the hints and the program of `callees::Sources`, whose lookups are faster than 01's.
-- Assumes nothing.
use Rattle.tables.specs.Packed.{move_in, temp_in}
use Rattle.codes.specs.Lookup.{hinted_of}
use Rattle.program.specs.Seat.{seat_of}
use Rattle.buffers.specs.Tread.{Temps, Opens}
use Rattle.callees.specs.declared.Sources.{Sources}
use Rattle.callees.specs.Callees.{temps_by, opens_by}

abbrev pub temps_in : Sources → Temps
temps_in s = temps_by (move_in s.words.now) (temp_in s.words.now) (hinted_of s.hints.now s.program.program.list.ids.now) s.program.program.list.flags.now

abbrev pub opens_in : Sources → Opens
opens_in s = opens_by (move_in s.words.now) (seat_of s.program.program.functions.ids.now) s.program.descriptors.types.now s.program.descriptors.callees.now
