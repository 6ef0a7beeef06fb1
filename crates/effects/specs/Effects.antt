-- What an instruction takes and leaves in a program. `known_by` reads lent columns as the code does; `known_of` is 01's, with every lookup row by row
-- and each callee decoded; proofs/Laws.antt says that on an input that is not refused they are one.
-- Assumes nothing.
use Rattle.std.specs.Prelude.{ℕ, zero, suc, Bool, true, false, cond, List, length, get_or, set, take, drop, Some, None, Ok, Err}
use Rattle.tables.specs.declared.Move.{Move}
use Rattle.tables.specs.declared.Move.TheVariants.{Fixed, Builtin, Call, Method}
use Rattle.tables.specs.Set.{effect, size_of}
use Rattle.flow.specs.Decode.{word_at}
use Rattle.flow.specs.Walk.{walk_by, has_ret}
use Rattle.codes.specs.First.{Place}
use Rattle.codes.specs.Lookup.{hinted_up, entry_of, place_of, Entry}
use Rattle.program.specs.Program.{CodeList, Program, body_of}
use Rattle.program.specs.Seat.{seat_of}
use Rattle.rules.specs.Look.{Known}
use Rattle.rules.specs.declared.Unknown.{Unknown}

-- what the directory says of calls: ids, parameter counts, and what METHOD_CALL leaves
pub record Directory : Type 0 where
  pub ids : List ℕ
  pub parameters : List ℕ
  pub given : List ℕ

abbrev pub directory_of : List ℕ → List ℕ → List ℕ → Directory
directory_of i p g = record { ids = i; parameters = p; given = g }

-- BUILTIN takes its listed count and leaves 1
abbrev pub on_entry : ℕ → Entry → Known
on_entry id (Some listed) = Ok (effect listed.count 1)
on_entry id None = Err (Unknown.Builtin id)

-- CALL and METHOD_CALL take the callee's parameter count
abbrev pub on_place : List ℕ → (ℕ → ℕ) → ℕ → Place → Known
on_place parameters leaves id (Some k) = Ok (effect (get_or parameters k 0) (leaves k))
on_place parameters leaves id None = Err (Unknown.Callee id)

unfoldable pub builtin_by : List ℕ → CodeList → ℕ → Known
builtin_by hints list id = on_entry id (hinted_up hints list.ids list.counts list.flags id)

unfoldable pub call_by : List ℕ → List ℕ → ℕ → Known
call_by ids parameters id = on_place parameters (λ k. 1) id (seat_of ids id)

unfoldable pub method_by : List ℕ → List ℕ → List ℕ → ℕ → Known
method_by ids parameters given id = on_place parameters (λ k. get_or given k 0) id (seat_of ids id)

abbrev pub move_by : List ℕ → CodeList → Directory → List ℕ → Move → Known
move_by hints list d operands (Fixed e) = Ok e
move_by hints list d operands Builtin = builtin_by hints list (word_at operands 0)
move_by hints list d operands Call = call_by d.ids d.parameters (word_at operands 0)
move_by hints list d operands Method = method_by d.ids d.parameters d.given (word_at operands 0)

-- as the code reads it, over any table of moves and any hints
unfoldable pub known_by : (ℕ → Move) → List ℕ → CodeList → Directory → ℕ → List ℕ → Known
known_by moves hints list d op operands = move_by hints list d operands (moves op)

-- 1 if RET is among the instructions before the first decoding stop, reached or not, else 0
unfoldable pub gives_back : (ℕ → ℕ) → List ℕ → ℕ → ℕ → ℕ
gives_back sizes code offset length = cond (has_ret (walk_by sizes (take length (drop offset code)) 0)) 1 0

abbrev pub fill_from : (ℕ → ℕ) → ℕ → ℕ → List ℕ → List ℕ
fill_from value zero row column = column
fill_from value (suc left) row column = fill_from value left (suc row) (set column row (value row))

-- the column of what each function gives back
unfoldable pub filled : (ℕ → ℕ) → List ℕ → List ℕ → List ℕ → List ℕ → List ℕ
filled sizes offsets lengths code column = fill_from (λ row. gives_back sizes code (get_or offsets row 0) (get_or lengths row 0)) (length offsets) 0 column

abbrev pub is_there : Place → Bool
is_there (Some k) = true
is_there None = false

-- a byte of the code is METHOD_CALL's, be it an opcode or not
unfoldable pub names_method : List ℕ → Bool
names_method code = is_there (place_of code 0xF8)

-- filled where a METHOD_CALL may ask for it
unfoldable pub given_back : (ℕ → ℕ) → List ℕ → List ℕ → List ℕ → List ℕ → List ℕ
given_back sizes offsets lengths code column = cond (names_method code) (filled sizes offsets lengths code column) column

abbrev pub move_of_program : Program → List ℕ → Move → Known
move_of_program p operands (Fixed e) = Ok e
move_of_program p operands Builtin = on_entry (word_at operands 0) (entry_of p.list.ids p.list.counts p.list.flags (word_at operands 0))
move_of_program p operands Call = on_place p.functions.parameters (λ k. 1) (word_at operands 0) (place_of p.functions.ids (word_at operands 0))
move_of_program p operands Method =
    on_place p.functions.parameters (λ k. cond (has_ret (walk_by size_of (body_of p k) 0)) 1 0) (word_at operands 0) (place_of p.functions.ids (word_at operands 0))

-- 01's: every lookup row by row, and the callee decoded
unfoldable pub known_of : (ℕ → Move) → Program → ℕ → List ℕ → Known
known_of moves p op operands = move_of_program p operands (moves op)
