-- Where the tables of a bench file stand, or the first refusal in reading order (01, "Bench file, program and C entry").
-- Assumes nothing.
use Rattle.std.specs.Prelude.{ℕ, ◌+◌, ◌-◌, ◌*◌, List, cond, length, ltb, Result, Ok, Err}
use Rattle.seven.specs.declared.Number.{Number}
use Rattle.file.specs.declared.Refused.{Refused}
use Rattle.file.specs.declared.Table.{Table}
use Rattle.file.specs.declared.Layout.{Layout}
use Rattle.file.specs.Numbers.{refused, if_read, number_in, run_of}

abbrev pub table : ℕ → ℕ → ℕ → Table
table count start end = record { count = count; start = start; end = end }

-- a count and its rows, each of as many numbers as the table is wide; "31 at once for a high count (place 0)"
unfoldable pub on_count : List ℕ → ℕ → ℕ → Number → Result Table Refused
on_count file limit width x =
    cond (ltb limit x.n) (Err (refused 31 0))
    (if_read (run_of (x.n * width) file x.next) (λ (end : ℕ). Ok (table x.n x.next end)))

unfoldable pub table_of : List ℕ → ℕ → ℕ → ℕ → Result Table Refused
table_of file at limit width = if_read (number_in file at) (λ (x : Number). on_count file limit width x)

-- the code's bytes end the file: "41 for an early end (file length)", "42 for bytes left over (first one)"
unfoldable pub code_end : List ℕ → Table → Result ℕ Refused
code_end file code =
    cond (ltb (length file - code.end) code.count) (Err (refused 41 (length file)))
    (cond (ltb code.count (length file - code.end)) (Err (refused 42 (code.end + code.count))) (Ok (code.end + code.count)))

-- "43: more than 65,536 bytes, place 65536. Then reading". "In order: pool; row count, rows; function count, rows (id, parameters,
-- maximum, offset, length); descriptor count, rows; entry count, ids; code length, code": the pool and the code length are counts
-- without rows, and no pool is too high here
unfoldable pub layout_of : List ℕ → Result Layout Refused
layout_of file =
    cond (ltb 65536 (length file)) (Err (refused 43 65536))
    (if_read (table_of file 0 65535 0) (λ (pool : Table).
    if_read (table_of file pool.end 6144 3) (λ (rows : Table).
    if_read (table_of file rows.end 128 5) (λ (functions : Table).
    if_read (table_of file functions.end 256 2) (λ (descriptors : Table).
    if_read (table_of file descriptors.end 32 1) (λ (entries : Table).
    if_read (table_of file entries.end 12288 0) (λ (code : Table).
    if_read (code_end file code) (λ (end : ℕ).
    Ok (record { pool = pool; rows = rows; functions = functions; descriptors = descriptors; entries = entries; code = code })))))))))
