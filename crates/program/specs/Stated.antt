-- The records of Program.antt that the columns state, as code lends them, and the scratch that both checks are lent.
-- Assumes nothing.
use Rattle.std.specs.Prelude.{◌≡◌, length}
use Rattle.codes.specs.declared.CodeList as lent-list
use Rattle.program.specs.declared.Functions as lent-functions
use Rattle.program.specs.declared.Program as lent-program
use Rattle.program.specs.declared.Descriptors as lent-descriptors
use Rattle.program.specs.declared.PoolProgram as lent-pool
use Rattle.program.specs.declared.Room.{Room}
use Rattle.program.specs.declared.Scratch.{Scratch}
use Rattle.program.specs.Refusals.{room_of}
use Rattle.program.specs.Program.{Functions, CodeList, Program, Descriptors, PoolProgram, functions_of, list_of, program_of, descriptors_of, pool_program_of}

abbrev pub functions_in : lent-functions.Functions → Functions
functions_in f = functions_of f.ids.now f.parameters.now f.maxima.now f.offsets.now f.lengths.now

abbrev pub list_in : lent-list.CodeList → CodeList
list_in l = list_of l.ids.now l.counts.now l.flags.now

abbrev pub program_in : lent-program.Program → Program
program_in p = program_of (functions_in p.functions) (list_in p.list) p.code.now

abbrev pub descriptors_in : lent-descriptors.Descriptors → Descriptors
descriptors_in d = descriptors_of d.types.now d.callees.now

abbrev pub pool_program_in : lent-pool.PoolProgram → PoolProgram
pool_program_in q = pool_program_of (program_in q.program) (descriptors_in q.descriptors) q.entries.now q.pool

abbrev pub room_in : Scratch → Room
room_in s = room_of (length s.marks.now) (length s.depths.now) (length s.queue.now) (length s.queue_depths.now)

-- the columns are the very ones that were lent
pub record SameColumns (first last : Scratch) : Type 0 where
  pub marks : last.marks.ghost_name ≡ first.marks.ghost_name
  pub depths : last.depths.ghost_name ≡ first.depths.ghost_name
  pub queue : last.queue.ghost_name ≡ first.queue.ghost_name
  pub queue_depths : last.queue_depths.ghost_name ≡ first.queue_depths.ghost_name
