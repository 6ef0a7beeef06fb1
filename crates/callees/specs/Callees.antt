-- What an instruction does to the temp buffers in its program, and which function it opens, over any table and any way to find an id's row: 01's way
-- reads row after row, the code's is faster.
-- Assumes nothing.
use Rattle.codes.specs.First.{Place}
use Rattle.std.specs.Prelude.{ℕ, ◌+◌, cond, List, eqb, ltb, get_or, Some, None}
use Rattle.tables.specs.declared.Move.{Move}
use Rattle.tables.specs.declared.Move.TheVariants.{Fixed, Builtin, Call, Method}
use Rattle.tables.specs.declared.TempEffect.{TempEffect}
use Rattle.tables.specs.declared.TempEffect.TheVariants.{Borrows}
use Rattle.tables.specs.Set.{move_of, temp_of}
use Rattle.flow.specs.Decode.{word_at}
use Rattle.codes.specs.Lookup.{place_of}
use Rattle.program.specs.Program.{PoolProgram}
use Rattle.buffers.specs.Tread.{Temps, Opens}

-- "each BUILTIN marked as borrowing"
abbrev pub on_flag : List ℕ → TempEffect → Place → TempEffect
on_flag flags own (Some k) = cond (eqb (get_or flags k 0) 1) Borrows own
on_flag flags own None = own

abbrev pub temp_by : (ℕ → Place) → List ℕ → List ℕ → TempEffect → Move → TempEffect
temp_by find flags operands own (Fixed e) = own
temp_by find flags operands own Builtin = on_flag flags own (find (word_at operands 0))
temp_by find flags operands own Call = own
temp_by find flags operands own Method = own

unfoldable pub temps_by : (ℕ → Move) → (ℕ → TempEffect) → (ℕ → Place) → List ℕ → Temps
temps_by moves temps find flags op operands = temp_by find flags operands (temps op) (moves op)

-- a function's cell is its row and 1; "Unknown ids weigh 0", and have none
abbrev pub cell_at : Place → ℕ
cell_at (Some k) = cond (ltb k 128) (k + 1) 0
cell_at None = 0

-- "FB_CALL through its descriptor"; "an FB_CALL with no descriptor calls nothing"
abbrev pub block_by : (ℕ → Place) → List ℕ → Place → ℕ
block_by row callees (Some k) = cell_at (row (get_or callees k 0))
block_by row callees None = 0

abbrev pub open_by : (ℕ → Place) → List ℕ → List ℕ → ℕ → List ℕ → Move → ℕ
open_by row types callees op operands (Fixed e) = cond (eqb op 0xA4) (block_by row callees (place_of types (word_at operands 0))) 0
open_by row types callees op operands Builtin = 0
open_by row types callees op operands Call = cell_at (row (word_at operands 0))
open_by row types callees op operands Method = cell_at (row (word_at operands 0))

unfoldable pub opens_by : (ℕ → Move) → (ℕ → Place) → List ℕ → List ℕ → Opens
opens_by moves row types callees op operands = open_by row types callees op operands (moves op)

-- 01's: every lookup row by row
abbrev pub temps_of : PoolProgram → Temps
temps_of q = temps_by move_of temp_of (place_of q.program.list.ids) q.program.list.flags

abbrev pub opens_of : PoolProgram → Opens
opens_of q = opens_by move_of (place_of q.program.functions.ids) q.descriptors.types q.descriptors.callees
