-- 01's refusals of an input, 30 to 35. "Order: 31, 30, 34, 32, 33, 35; the stack call never looks at descriptors, entries or pool."
-- Assumes nothing.
use Rattle.std.specs.Prelude.{ℕ, zero, suc, ◌+◌, ◌*◌, ◌-◌, Bool, true, false, cond, ◌||◌, List, [], ◌∷◌, ltb, eqb, length, get_or, Ok, Err, Some, None, Result}
use Rattle.codes.specs.First.{first_of, Place}
use Rattle.codes.specs.Lookup.{has_id}
use Rattle.codes.specs.Rows.{rows_of, Order}
use Rattle.program.specs.Program.{Functions, CodeList, Program, PoolProgram}
use Rattle.program.specs.declared.Room.{Room}
use Rattle.program.specs.declared.Refusal.{Refusal}
use Rattle.program.specs.declared.Refusal.TheVariants.{TooMany, ScratchShort, ListFault, IdRepeated, BodyOutside, PoolTooLarge}

-- what is said of an input before anything is checked
abbrev pub Input : Type 0
Input = Result (Unit {0}) Refusal

-- the answer's number
abbrev pub refusal_number : Refusal → ℕ
refusal_number TooMany = 31
refusal_number ScratchShort = 30
refusal_number (ListFault k) = 34
refusal_number (IdRepeated k) = 32
refusal_number (BodyOutside k) = 33
refusal_number PoolTooLarge = 35

-- 0 is no refusal
abbrev pub input_number : Input → ℕ
input_number (Ok _) = 0
input_number (Err refusal) = refusal_number refusal

-- no refusal
abbrev pub is_taken : Input → Bool
is_taken (Ok _) = true
is_taken (Err refusal) = false

-- the lent scratch: start marks, depths and two queue columns
abbrev pub room_of : ℕ → ℕ → ℕ → ℕ → Room
room_of m d q e = record { marks = m; depths = d; queue = q; queue_depths = e }

-- "30 to 35 carry a place: the first faulty row for 32 (the later of the pair), 33 and 34, else 0"
abbrev pub refusal_place : Refusal → ℕ
refusal_place TooMany = 0
refusal_place ScratchShort = 0
refusal_place (ListFault k) = k
refusal_place (IdRepeated k) = k
refusal_place (BodyOutside k) = k
refusal_place PoolTooLarge = 0

abbrev pub input_place : Input → ℕ
input_place (Ok _) = 0
input_place (Err refusal) = refusal_place refusal

-- "Columns of one table that differ in length give 31": a column whose length is not `rows`
abbrev pub differs : ℕ → List ℕ → Bool
differs rows [] = false
differs rows (n ∷ columns) = cond (eqb n rows) (differs rows columns) true

-- 31, "a count above its limit": a table by its limit, the length of its first column and the lengths of its others
unfoldable pub table_refused : ℕ → ℕ → List ℕ → Bool
table_refused limit rows others = ltb limit rows || differs rows others

-- the lengths of a program's columns
pub record Lengths : Type 0 where
  pub ids : ℕ
  pub parameters : ℕ
  pub maxima : ℕ
  pub offsets : ℕ
  pub lengths : ℕ
  pub list_ids : ℕ
  pub counts : ℕ
  pub flags : ℕ
  pub code : ℕ

-- "up to 128 functions, 6,144 code-list rows, 12,288 code bytes"
abbrev pub functions_refused : Lengths → Bool
functions_refused n = table_refused 128 n.ids (n.parameters ∷ n.maxima ∷ n.offsets ∷ n.lengths ∷ [])

abbrev pub list_refused : Lengths → Bool
list_refused n = table_refused 6144 n.list_ids (n.counts ∷ n.flags ∷ [])

unfoldable pub too_many : Lengths → Bool
too_many n = functions_refused n || list_refused n || ltb 12288 n.code

abbrev pub lengths_of : Program → Lengths
lengths_of p =
    record {
      ids = length p.functions.ids;
      parameters = length p.functions.parameters;
      maxima = length p.functions.maxima;
      offsets = length p.functions.offsets;
      lengths = length p.functions.lengths;
      list_ids = length p.list.ids;
      counts = length p.list.counts;
      flags = length p.list.flags;
      code = length p.code;
    }

-- "256 function-block descriptors, 32 entry ids": by the lengths of types, callees and entries
unfoldable pub pool_too_many : ℕ → ℕ → ℕ → Bool
pool_too_many types callees entries = table_refused 256 types (callees ∷ []) || ltb 32 entries

-- 30: "With L code bytes, scratch is L start marks, L+1 depths, two queue columns of 2L+2"
unfoldable pub scratch_short : ℕ → Room → Bool
scratch_short code room =
    ltb room.marks code
    || ltb room.depths (code + 1)
    || ltb room.queue (2 * code + 2)
    || ltb room.queue_depths (2 * code + 2)

-- the id stands in one of the first rows
abbrev pub stands_in : List ℕ → ℕ → ℕ → Bool
stands_in ids id zero = false
stands_in ids id (suc rows) = has_id ids id rows || stands_in ids id rows

-- 32: the first row whose id stands in an earlier row
unfoldable pub repeats : List ℕ → ℕ → Bool
repeats ids k = stands_in ids (get_or ids k 0) k

unfoldable pub repeated_of : List ℕ → Place
repeated_of ids = first_of (repeats ids) (length ids)

-- 33: the first row whose body is not within the code; "a sum that would wrap is outside"
unfoldable pub outside : List ℕ → List ℕ → ℕ → ℕ → Bool
outside offsets lengths code k = ltb code (get_or offsets k 0) || ltb (code - get_or offsets k 0) (get_or lengths k 0)

unfoldable pub outside_of : List ℕ → List ℕ → ℕ → Place
outside_of offsets lengths code = first_of (outside offsets lengths code) (length offsets)

-- 34, 32 and 33, each before what is left
abbrev pub on_list : Order → Input → Input
on_list (Err k) rest = Err (ListFault k)
on_list (Ok _) rest = rest

abbrev pub on_repeated : Place → Input → Input
on_repeated (Some k) rest = Err (IdRepeated k)
on_repeated None rest = rest

abbrev pub on_outside : Place → Input → Input
on_outside (Some k) rest = Err (BodyOutside k)
on_outside None rest = rest

unfoldable pub directory_of : List ℕ → List ℕ → List ℕ → ℕ → Input → Input
directory_of ids offsets lengths code rest = on_repeated (repeated_of ids) (on_outside (outside_of offsets lengths code) rest)

unfoldable pub contents_of : CodeList → Functions → ℕ → Input → Input
contents_of list f code rest = on_list (rows_of list.ids list.flags) (directory_of f.ids f.offsets f.lengths code rest)

-- 35: "declared pool 65,535"
unfoldable pub on_pool : ℕ → Input
on_pool pool = cond (eqb pool 65535) (Err PoolTooLarge) (Ok tt)

-- "Order: 31, 30, 34, 32, 33, 35": `many` and `short` are what a call has to say of 31 and 30 besides, and `rest` what comes after 33
unfoldable pub input_of : Program → Room → Bool → Bool → Input → Input
input_of p room many short rest =
    cond (too_many (lengths_of p) || many) (Err TooMany)
    (cond (scratch_short (length p.code) room || short) (Err ScratchShort)
    (contents_of p.list p.functions (length p.code) rest))

-- the stack call's input: "the stack call never looks at descriptors, entries or pool"
unfoldable pub stack_input : Program → Room → Input
stack_input p room = input_of p room false false (Ok tt)

-- the pool call's input; "for the pool check 128 x 128 callee cells"
unfoldable pub pool_input : PoolProgram → Room → ℕ → Input
pool_input q room cells =
    input_of q.program room
    (pool_too_many (length q.descriptors.types) (length q.descriptors.callees) (length q.entries))
    (ltb cells 16384)
    (on_pool q.pool)
