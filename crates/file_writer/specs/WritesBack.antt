-- Writing what was read gives the same bytes.
-- Assumes nothing.
use Rattle.std.specs.Prelude.{ℕ, ◌*◌, ◌≡◌, refl, List, [], ◌∷◌, ◌++◌, length, take, drop, Result, Ok, Err}
use Rattle.std.proofs.Common.{sym, ◌∙◌, ap, append_assoc, arith, mul-zero, length-drop, take_all}
use Rattle.seven.specs.Seven.{Bytes}
use Rattle.seven.specs.Write.{form}
use Rattle.seven.proofs.Laws.{Stands, stands}
use Rattle.file.specs.declared.Refused.{Refused}
use Rattle.file.specs.declared.Table.{Table}
use Rattle.file.specs.declared.Layout.{Layout}
use Rattle.file.specs.Numbers.{numbers}
use Rattle.file.specs.Tables.{layout_of}
use Rattle.file.specs.Columns.{column_at, numbers_of_table}
use Rattle.file.specs.Stated.{states, Bench, tables_in, bench_of, stated_by, stated}
use Rattle.file.proofs.TableLaws.{Stood, Whole, whole, no_rows, all_there}
use Rattle.file.specs.Written.{forms, table_numbers, numbers_in, file_of}
use Rattle.file.specs.Transposed.{columns_of, column_length, rows_of_columns}
use Rattle.file_writer.specs.RoundTrip.{Written, run_written, joined}

-- a table that was read stands in the file: its count, then its numbers
segment : (file : List ℕ) {at limit : ℕ} {table : Table} (width : ℕ) → Bytes file → Stood file at limit width table →
    drop at file ≡ forms (table.count ∷ numbers_of_table file table width) ++ drop table.end file
unfolding forms numbers_of_table
segment file {at} {limit} {table} width all s =
    let n : Stands file at table.count table.start = stands file at table.count table.start all s.number in
    let w : Written file table.start table.end (numbers (table.count * width) file table.start) =
    run_written (table.count * width) file table.start table.end all n.within s.run in
    n.bytes
    ∙ (ap (λ (l : List ℕ). form table.count ++ l) w.bytes
    ∙ sym (append_assoc (form table.count) (forms (numbers (table.count * width) file table.start)) (drop table.end file)))

-- the numbers of its columns, row by row, are the numbers that were read
table_same : (file : List ℕ) {at limit : ℕ} {table : Table} (width : ℕ) → Stood file at limit width table →
    table_numbers (columns_of width 0 width table.count (numbers_of_table file table width)) table.count ≡ table.count ∷ numbers_of_table file table width
unfolding table_numbers numbers_of_table
table_same file {at} {limit} {table} width s =
    ap (λ (l : List ℕ). table.count ∷ l)
    (rows_of_columns table.count width (numbers (table.count * width) file table.start)
    (all_there (table.count * width) file table.start table.end s.run))

no_numbers : (file : List ℕ) (table : Table) → numbers_of_table file table 0 ≡ []
unfolding numbers_of_table numbers
no_numbers file table = rw mul-zero

whole_file : (file : List ℕ) (layout : Layout) → Bytes file → layout_of file ≡ Ok layout → file_of (bench_of file layout) ≡ file
unfolding file_of numbers_in bench_of tables_in column_at columns_of
whole_file file l all h =
    let w : Whole file l = whole file l all h in
    let st : ℕ = l.code.start in
    let c : ℕ = l.code.count in
    let code-size : length (drop st file) ≡ c = length-drop st file ∙ omega (arith, w.length_is) in
    let code-all : take c (drop st file) ≡ drop st file = take_all c (drop st file) (omega arith) in
    let pool : file ≡ forms (l.pool.count ∷ []) ++ drop l.pool.end file =
    segment file 0 all w.pool ∙ ap (λ (ns : List ℕ). forms (l.pool.count ∷ ns) ++ drop l.pool.end file) (no_numbers file l.pool) in
    let code : drop l.entries.end file ≡ forms (c ∷ []) ++ drop st file =
    segment file 0 all w.code
    ∙ (ap (λ (ns : List ℕ). forms (c ∷ ns) ++ drop l.code.end file) (no_numbers file l.code)
    ∙ ap (λ (k : ℕ). forms (c ∷ []) ++ drop k file) (sym (no_rows w.code))) in
    rw (
      column_length 3 0 l.rows.count (numbers_of_table file l.rows 3),
      column_length 5 0 l.functions.count (numbers_of_table file l.functions 5),
      column_length 2 0 l.descriptors.count (numbers_of_table file l.descriptors 2),
      column_length 1 0 l.entries.count (numbers_of_table file l.entries 1),
      code-all,
      code-size,
      table_same file 3 w.rows,
      table_same file 5 w.functions,
      table_same file 2 w.descriptors,
      table_same file 1 w.entries,
    )
    (joined l.pool.count (l.rows.count ∷ numbers_of_table file l.rows 3) (l.functions.count ∷ numbers_of_table file l.functions 5)
    (l.descriptors.count ∷ numbers_of_table file l.descriptors 2) (l.entries.count ∷ numbers_of_table file l.entries 1) (c ∷ []) (drop st file)
    ∙ sym
    (pool
    ∙ ap (λ (ns : List ℕ). forms (l.pool.count ∷ []) ++ ns)
    (segment file 3 all w.rows
    ∙ ap (λ (ns : List ℕ). forms (l.rows.count ∷ numbers_of_table file l.rows 3) ++ ns)
    (segment file 5 all w.functions
    ∙ ap (λ (ns : List ℕ). forms (l.functions.count ∷ numbers_of_table file l.functions 5) ++ ns)
    (segment file 2 all w.descriptors
    ∙ ap (λ (ns : List ℕ). forms (l.descriptors.count ∷ numbers_of_table file l.descriptors 2) ++ ns)
    (segment file 1 all w.entries
    ∙ ap (λ (ns : List ℕ). forms (l.entries.count ∷ numbers_of_table file l.entries 1) ++ ns) code))))))

pub stated_inv : (file : List ℕ) (r : Result Layout Refused) (p : Bench) → stated_by file r ≡ states p →
    (layout : Layout) × ((r ≡ Ok layout) × (bench_of file layout ≡ p))
unfolding stated_by
stated_inv file (Ok layout) p e = (layout, (refl, cc))
stated_inv file (Err d) p e = absurd (let z : ◌≡◌ {A = ℕ} 0 1 = cc in omega arith)

pub writes_back : (file : List ℕ) (p : Bench) → Bytes file → stated file ≡ states p → file_of p ≡ file
unfolding stated
writes_back file p all e =
    let i = stated_inv file (layout_of file) p e in
    rw (← i.1.1) (whole_file file i.0 all i.1.0)
