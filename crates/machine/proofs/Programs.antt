-- Programs for the examples: functions 1, 2, .. with these bodies and declared depths, no parameters, no list rows, no descriptors, entry 1, and all the
-- scratch that 01 asks for. One that both checks accept, and one for each of 5, 6, 8, 9, 20 and 21.
-- Assumes nothing: these are definitions.
use Prim.Native.Nat.{ℕ, suc, ◌+◌, ◌*◌}
use mathlib.Core.List.{List, [], ◌∷◌, ◌++◌}
use lib.ListN.{length}
use Rattle.program.specs.declared.Room.{Room}
use Rattle.program.specs.Program.{PoolProgram, functions_of, list_of, program_of, descriptors_of, pool_program_of}
use Rattle.program.specs.Refusals.{room_of}

-- the columns of the directory, from an id and an offset on
abbrev ids_from : ℕ → List (List ℕ) → List ℕ
ids_from id [] = []
ids_from id (body ∷ bodies) = id ∷ ids_from (suc id) bodies

abbrev offsets_from : ℕ → List (List ℕ) → List ℕ
offsets_from at [] = []
offsets_from at (body ∷ bodies) = at ∷ offsets_from (at + length body) bodies

abbrev lengths_of : List (List ℕ) → List ℕ
lengths_of [] = []
lengths_of (body ∷ bodies) = length body ∷ lengths_of bodies

abbrev noughts : List (List ℕ) → List ℕ
noughts [] = []
noughts (body ∷ bodies) = 0 ∷ noughts bodies

abbrev code_of : List (List ℕ) → List ℕ
code_of [] = []
code_of (body ∷ bodies) = body ++ code_of bodies

abbrev pub made : List (List ℕ) → List ℕ → ℕ → PoolProgram
made bodies maxima pool =
    pool_program_of (program_of (functions_of (ids_from 1 bodies) (noughts bodies) maxima (offsets_from 0 bodies) (lengths_of bodies)) (list_of [] [] []) (code_of bodies)) (descriptors_of [] []) (1 ∷ []) pool

abbrev pub room_for : PoolProgram → Room
room_for q = room_of (length q.program.code) (length q.program.code + 1) (2 * length q.program.code + 2) (2 * length q.program.code + 2)

-- STR_LOAD_VAR borrows a buffer, STR_STORE_VAR gives it back
abbrev borrows : List ℕ
borrows = 0xBC ∷ 0 ∷ 0 ∷ 0 ∷ 0 ∷ []

abbrev gives_back : List ℕ
gives_back = 0xC0 ∷ 0 ∷ 0 ∷ 0 ∷ 0 ∷ []

abbrev calls : ℕ → List ℕ
calls function = 0x84 ∷ function ∷ 0 ∷ 0 ∷ 0 ∷ []

-- borrows, calls the function, drops what it left and returns the rest
abbrev outer : ℕ → List ℕ
outer function = borrows ++ (calls function ++ (0x90 ∷ 0x88 ∷ []))

-- borrows, gives back and returns nothing
abbrev inner : List ℕ
inner = borrows ++ (gives_back ++ (0x8C ∷ []))

-- accepted: three functions, each with a buffer where it calls the next
abbrev pub chain : PoolProgram
chain = made (outer 2 ∷ outer 3 ∷ inner ∷ []) (2 ∷ 2 ∷ 1 ∷ []) 3

-- 5, 6, 8 and 9
abbrev pub empty_pop : PoolProgram
empty_pop = made ((0x90 ∷ []) ∷ []) (0 ∷ []) 0

abbrev pub too_deep : PoolProgram
too_deep = made ((0x05 ∷ 0x88 ∷ []) ∷ []) (0 ∷ []) 0

abbrev pub uneven : PoolProgram
uneven = made ((0x05 ∷ 0x80 ∷ 0x01 ∷ 0x00 ∷ 0x05 ∷ 0x8C ∷ []) ∷ []) (1 ∷ []) 0

abbrev pub left_over : PoolProgram
left_over = made ((0x05 ∷ []) ∷ []) (1 ∷ []) 0

-- 20: two buffers at once, and a pool of 1
abbrev pub greedy : PoolProgram
greedy = made (outer 2 ∷ inner ∷ []) (2 ∷ 1 ∷ []) 1

-- 21: two functions that call each other
abbrev pub circle : PoolProgram
circle = made ((calls 2 ++ (0x88 ∷ [])) ∷ (calls 1 ++ (0x88 ∷ [])) ∷ []) (1 ∷ 1 ∷ []) 0
