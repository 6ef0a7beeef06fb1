-- What the writer does: number after number into a buffer, then the code; nothing once there is no room (01, "Bench file, program and
-- C entry"; 31 for columns of one table that differ in length, a count above its limit, an offset or length above 65,535).
-- Assumes nothing.
use Rattle.std.specs.Prelude.{ℕ, ◌+◌, List, [], ◌∷◌, ◌++◌, Bool, true, false, cond, length, take, map, ltb, leb, eqb, Option, Some, None, Result, Ok, Err}
use Rattle.seven.specs.Write.{laid, written}
use Rattle.file.specs.declared.Room.{Room}
use Rattle.file_writer.specs.declared.Unwritten.{Unwritten}
use Rattle.file_writer.specs.declared.Unwritten.TheVariants.{Refused, NoRoom}
use Rattle.file_writer.specs.declared.Tables.{Tables}
use Rattle.file_writer.specs.declared.write.Column.{Column}
use Rattle.file_writer.specs.declared.write.Column.TheVariants.{Narrow, Wide}
use Rattle.file.specs.Columns.{over}
use Rattle.file.specs.Stated.{Columns, columns, Bench, room_of}
use Rattle.file.specs.Written.{rows_from, file_of}

-- what lent columns hold
abbrev pub columns_of : Tables → Columns
columns_of t =
    columns t.list_ids.now t.list_counts.now t.list_flags.now t.function_ids.now t.parameters.now t.maxima.now t.offsets.now t.lengths.now
    t.type_ids.now t.descriptor_functions.now t.entries.now t.code.now

-- the place after what was written, or no room, and the buffer
abbrev pub Buffer : Type 0
Buffer = Option ℕ × List ℕ

unfoldable pub put_one : Option ℕ → ℕ → List ℕ → Buffer
put_one (Some at) n buffer = written buffer at n
put_one None n buffer = (None, buffer)

unfoldable pub put_all : Option ℕ → List ℕ → List ℕ → Buffer
put_all state [] buffer = (state, buffer)
put_all state (n ∷ rest) buffer = put_all (put_one state n buffer).0 rest (put_one state n buffer).1

unfoldable pub put_bytes : Option ℕ → List ℕ → List ℕ → Buffer
put_bytes (Some at) bytes buffer =
    cond (leb (at + length bytes) (length buffer)) (Some (at + length bytes), laid buffer at bytes) (None, buffer)
put_bytes None bytes buffer = (None, buffer)

-- a cell of the machine's size, where it has a form
unfoldable pub fit : ℕ → ℕ
fit n = cond (ltb n 65536) n 0

-- the numbers of a column
abbrev pub column_of : Column → List ℕ
column_of (Narrow cells) = cells.now
column_of (Wide cells) = map fit cells.now

unfoldable pub all_small : List ℕ → Bool
all_small [] = true
all_small (n ∷ rest) = cond (ltb n 65536) (all_small rest) false

-- "Columns of one table that differ in length give 31", and so does "a count above its limit"
unfoldable pub differ : ℕ → ℕ → ℕ → ℕ → Bool
differ limit a b c = cond (ltb limit a) true (cond (eqb a b) (cond (eqb a c) false true) true)

unfoldable pub uneven_room : Room → Bool
uneven_room r =
    cond (differ 6144 r.list_ids r.list_counts r.list_flags) true
    (cond (differ 128 r.function_ids r.parameters r.maxima) true
    (cond (differ 128 r.function_ids r.offsets r.lengths) true
    (cond (differ 256 r.type_ids r.descriptor_functions r.type_ids) true
    (cond (ltb 32 r.entries) true (ltb 12288 r.code)))))

-- and so does "an offset or length above 65,535"
unfoldable pub refused_in : Room → List ℕ → List ℕ → Bool
refused_in room offsets lengths =
    cond (uneven_room room) true (cond (all_small offsets) (cond (all_small lengths) false true) true)

unfoldable pub refused_to_write : Bench → Bool
refused_to_write p = refused_in (room_of p.tables) p.tables.offsets p.tables.lengths

-- a table: its count, then its numbers, row by row
unfoldable pub counted : List (List ℕ) → ℕ → List ℕ
counted table count = fit count ∷ rows_from table (fit count) 0

-- all numbers, in the order of the file
unfoldable pub all_numbers : ℕ → Columns → List ℕ
all_numbers pool t =
    pool ∷
    (counted (t.list_ids ∷ (t.list_counts ∷ (t.list_flags ∷ []))) (length t.list_ids) ++
    (counted (t.function_ids ∷ (t.parameters ∷ (t.maxima ∷ (map fit t.offsets ∷ (map fit t.lengths ∷ []))))) (length t.function_ids) ++
    (counted (t.type_ids ∷ (t.descriptor_functions ∷ [])) (length t.type_ids) ++
    (counted (t.entries ∷ []) (length t.entries) ++ (fit (length t.code) ∷ [])))))

unfoldable pub wrote_all : ℕ → Columns → List ℕ → Buffer
wrote_all pool t buffer =
    put_bytes (put_all (Some 0) (all_numbers pool t) buffer).0 t.code (put_all (Some 0) (all_numbers pool t) buffer).1

-- a file in the front of a buffer, handed over
unfoldable pub delivered : List ℕ → ℕ → List ℕ → Result ℕ Unwritten × List ℕ
delivered buffer size out =
    cond (ltb (length buffer) size) (Err NoRoom, out)
    (cond (ltb (length out) size) (Err NoRoom, out) (Ok size, over (take size buffer) out))

-- the answer and the lent buffer: 31, or "no room, in the buffer or within 65,536 bytes", or the file's length and the file
unfoldable pub write_into : Bench → List ℕ → Result ℕ Unwritten × List ℕ
write_into p out =
    cond (refused_to_write p) (Err (Refused 31), out)
    (cond (ltb 65536 (length (file_of p))) (Err NoRoom, out)
    (cond (ltb (length out) (length (file_of p))) (Err NoRoom, out) (Ok (length (file_of p)), over (file_of p) out)))
