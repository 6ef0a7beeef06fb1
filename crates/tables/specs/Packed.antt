-- How the instruction set is stored: a table of sizes, and one of words that hold what an opcode takes (two bits), leaves (two bits), its
-- temp effect (two bits) and its sort. What is read out of any lent table is defined here; specs/Laws.antt says that out of these two it is 01's.
-- Assumes nothing.
use Rattle.std.specs.Prelude.{ℕ, ◌+◌, ◌*◌, ◌/◌, ◌%◌, Bool, cond, ◌||◌, List, eqb, get_or}
use Rattle.tables.specs.declared.Effect.{Effect}
use Rattle.tables.specs.declared.Move.{Move}
use Rattle.tables.specs.declared.Move.TheVariants.{Fixed, Builtin, Call, Method}
use Rattle.tables.specs.declared.TempEffect.{TempEffect}
use Rattle.tables.specs.declared.TempEffect.TheVariants.{Keeps, Borrows, GivesBack}
use Rattle.tables.specs.Set.{effect, row, Found, unassigned, assigned, find, instruction_set, move_found, temp_found, takes_move, leaves_move, size_of}
use Rattle.tables.specs.Values.{values}

-- the branching and leaving instructions: JMP, JMP_IF_NOT, CMP_BR, RET and RET_VOID
unfoldable pub turns : ℕ → Bool
turns op = eqb op 0x7C || (eqb op 0x80 || (eqb op 0xF4 || (eqb op 0xF5 || (eqb op 0x88 || eqb op 0x8C))))

-- 1 plain, 2 branching or leaving, 3 FB_CALL, 4 BUILTIN, 5 CALL, 6 METHOD_CALL; 0 unassigned
abbrev pub sort_move : ℕ → Move → ℕ
sort_move op (Fixed e) = cond (turns op) 2 (cond (eqb op 0xA4) 3 1)
sort_move op Builtin = 4
sort_move op Call = 5
sort_move op Method = 6

abbrev pub sort_found : Found → ℕ
sort_found unassigned = 0
sort_found (assigned (row op ks m t)) = sort_move op m

abbrev pub temp_code : TempEffect → ℕ
temp_code Keeps = 0
temp_code Borrows = 1
temp_code GivesBack = 2

abbrev pub word_found : Found → ℕ
word_found f = takes_move (move_found f) + 4 * leaves_move (move_found f) + 16 * temp_code (temp_found f) + 64 * sort_found f

unfoldable pub sort_of : ℕ → ℕ
sort_of op = sort_found (find instruction_set op)

unfoldable pub word_of : ℕ → ℕ
word_of op = word_found (find instruction_set op)

-- plain: the effect is the table's, the next instruction follows, and no function is opened
unfoldable pub plain_of : ℕ → Bool
plain_of op = eqb (sort_of op) 1

unfoldable pub size_table : List ℕ
size_table = values size_of 0 256

unfoldable pub word_table : List ℕ
word_table = values word_of 0 256

-- what is read out of a lent table
unfoldable pub size_in : List ℕ → ℕ → ℕ
size_in sizes op = get_or sizes op 0

unfoldable pub effect_in : List ℕ → ℕ → Effect
effect_in words op = effect (get_or words op 0 % 4) (get_or words op 0 / 4 % 4)

abbrev pub move_by : ℕ → Effect → Move
move_by sort e = cond (eqb sort 4) Builtin (cond (eqb sort 5) Call (cond (eqb sort 6) Method (Fixed e)))

unfoldable pub move_in : List ℕ → ℕ → Move
move_in words op = move_by (get_or words op 0 / 64) (effect_in words op)

abbrev pub temp_by : ℕ → TempEffect
temp_by code = cond (eqb code 1) Borrows (cond (eqb code 2) GivesBack Keeps)

unfoldable pub temp_in : List ℕ → ℕ → TempEffect
temp_in words op = temp_by (get_or words op 0 / 16 % 4)

unfoldable pub plain_in : List ℕ → ℕ → Bool
plain_in words op = eqb (get_or words op 0 / 64) 1
