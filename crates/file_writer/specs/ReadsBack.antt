-- Reading what was written gives the same program.
-- Assumes nothing.
use Rattle.std.specs.Prelude.{ℕ, zero, suc, ◌+◌, ◌-◌, ◌*◌, ◌<◌, ◌≤◌, ◌≡◌, refl, List, [], ◌∷◌, ◌++◌, length, get_or, take, drop, Ok}
use Rattle.std.proofs.Common.{sym, ◌∙◌, ap, append_assoc, append-nil, arith, mul-zero, length-append, take_all, drop_at, le-ltb}
use Rattle.seven.specs.Seven.{value, number_at}
use Rattle.seven.specs.Write.{form}
use Rattle.seven.proofs.Laws.{found}
use Rattle.file.specs.declared.Layout.{Layout}
use Rattle.file.specs.declared.Table.{Table}
use Rattle.file.specs.Numbers.{number_in, run_of, numbers}
use Rattle.file.specs.Tables.{table, on_count, table_of, code_end, layout_of}
use Rattle.file.specs.Columns.{column_at, numbers_of_table}
use Rattle.file.specs.Stated.{states, Bench, tables_in, bench_of, stated_by, stated}
use Rattle.file.specs.Written.{forms, row_at, rows_from, table_numbers, row_table, function_table, descriptor_table, entry_table, numbers_in, file_of}
use Rattle.file.specs.Transposed.{columns_of_rows, rows_length}
use Rattle.file_writer.specs.RoundTrip.{Small, Reads, reads_forms, joined}

-- rows of small cells are small
small_append : (xs ys : List ℕ) → Small xs → Small ys → Small (xs ++ ys)
unfolding Small
small_append [] ys a b i = b i
small_append (n ∷ xs) ys a b zero = a 0
small_append (n ∷ xs) ys a b (suc i) = small_append xs ys (λ j. a (suc j)) b i

small_row : (table : List (List ℕ)) (i : ℕ) → ((k : ℕ) → Small (get_or table k [])) → Small (row_at table i)
unfolding Small row_at
small_row [] i all j = omega arith
small_row (column ∷ rest) i all zero = all 0 i
small_row (column ∷ rest) i all (suc j) = small_row rest i (λ k. all (suc k)) j

pub small_nothing : Small []
unfolding Small
small_nothing i = omega arith

pub small_rows : (count : ℕ) (table : List (List ℕ)) (i : ℕ) → ((k : ℕ) → Small (get_or table k [])) → Small (rows_from table count i)
unfolding rows_from
small_rows zero table i all = small_nothing
small_rows (suc count) table i all = small_append (row_at table i) (rows_from table count (suc i)) (small_row table i all) (small_rows count table (suc i) all)

-- a table whose count and numbers stand in the file is read as such
pub record TableReads (file before : List ℕ) (limit width count : ℕ) (ns : List ℕ) : Type 0 where
  pub start : ℕ
  pub starts : start ≡ length before + length (form count)
  pub is : table_of file (length before) limit width ≡ Ok (table count start (length (before ++ forms (count ∷ ns))))
  pub values : numbers (count * width) file start ≡ ns

table_reads : (file before after : List ℕ) (limit width count : ℕ) (ns : List ℕ) → file ≡ before ++ (forms (count ∷ ns) ++ after) →
    count ≤ limit → count < 65536 → length ns ≡ count * width → Small ns → TableReads file before limit width count ns
unfolding table_of on_count number_in forms
table_reads file before after limit width count ns shape low small size all =
    let start : ℕ = length before + length (form count) in
    let shape₁ : file ≡ before ++ (form count ++ (forms ns ++ after)) =
    shape ∙ ap (λ (l : List ℕ). before ++ l) (append_assoc (form count) (forms ns) after) in
    let shape₂ : file ≡ (before ++ form count) ++ (forms ns ++ after) = shape₁ ∙ sym (append_assoc before (form count) (forms ns ++ after)) in
    let there : number_at file (length before) ≡ value count start = rw shape₁ (found before (forms ns ++ after) count small) in
    let r : Reads ((before ++ form count) ++ (forms ns ++ after)) (length ns) (length (before ++ form count)) (length (before ++ form count) + length (forms ns)) ns =
    reads_forms after ns (before ++ form count) all in
    let at : length (before ++ form count) ≡ start = length-append before (form count) in
    let end : length (before ++ form count) + length (forms ns) ≡ length (before ++ (form count ++ forms ns)) =
    sym (length-append (before ++ form count) (forms ns)) ∙ ap length (append_assoc before (form count) (forms ns)) in
    let run : run_of (count * width) file start ≡ Ok (length (before ++ (form count ++ forms ns))) =
    rw (← size, ← at, shape₂) (r.run ∙ ap Ok end) in
    let values : numbers (count * width) file start ≡ ns = rw (← size, ← at, shape₂) r.values in
    record { start = start; starts = refl; is = rw (there, le-ltb limit count low, run); values = values }

-- a table that can be written: its columns are equally long, its cells have forms, its count is within its limit
pub record Tabled (table : List (List ℕ)) (count limit : ℕ) : Type 0 where
  pub even : (k : ℕ) → k < length table → length (get_or table k []) ≡ count
  pub small : (k : ℕ) → Small (get_or table k [])
  pub low : count ≤ limit

pub record Writable (p : Bench) : Type 0 where
  pub pool : p.pool < 65536
  pub rows : Tabled (row_table p) (length p.tables.list_ids) 6144
  pub functions : Tabled (function_table p) (length p.tables.function_ids) 128
  pub descriptors : Tabled (descriptor_table p) (length p.tables.type_ids) 256
  pub entries : Tabled (entry_table p) (length p.tables.entries) 32
  pub code : length p.tables.code ≤ 12288
  pub size : length (file_of p) ≤ 65536

tabled_reads : (file before after : List ℕ) (limit : ℕ) (table : List (List ℕ)) (count : ℕ) → limit < 65536 → Tabled table count limit →
    file ≡ before ++ (forms (table_numbers table count) ++ after) →
    TableReads file before limit (length table) count (rows_from table count 0)
unfolding table_numbers
tabled_reads file before after limit table count most t shape =
    table_reads file before after limit (length table) count (rows_from table count 0) shape t.low (omega (arith, t.low))
    (rows_length count table 0) (small_rows count table 0 t.small)

-- its columns are the program's
column_same : (file before : List ℕ) (limit : ℕ) (columns : List (List ℕ)) (count end : ℕ) → Tabled columns count limit →
    (t : TableReads file before limit (length columns) count (rows_from columns count 0)) → (k : ℕ) → k < length columns →
    column_at file (table count t.start end) (length columns) k ≡ get_or columns k []
unfolding column_at numbers_of_table
column_same file before limit columns count end h t k lt = rw t.values (columns_of_rows columns k count lt (h.even k lt))

-- the next table stands behind
behind : (file before front after : List ℕ) → file ≡ before ++ (front ++ after) → file ≡ (before ++ front) ++ after
behind file before front after e = e ∙ sym (append_assoc before front after)

-- the bytes before each table
abbrev row_numbers : Bench → List ℕ
row_numbers p = table_numbers (row_table p) (length p.tables.list_ids)

abbrev function_numbers : Bench → List ℕ
function_numbers p = table_numbers (function_table p) (length p.tables.function_ids)

abbrev descriptor_numbers : Bench → List ℕ
descriptor_numbers p = table_numbers (descriptor_table p) (length p.tables.type_ids)

abbrev entry_numbers : Bench → List ℕ
entry_numbers p = table_numbers (entry_table p) (length p.tables.entries)

abbrev to_rows : Bench → List ℕ
to_rows p = forms (p.pool ∷ [])

abbrev to_functions : Bench → List ℕ
to_functions p = to_rows p ++ forms (row_numbers p)

abbrev to_descriptors : Bench → List ℕ
to_descriptors p = to_functions p ++ forms (function_numbers p)

abbrev to_entries : Bench → List ℕ
to_entries p = to_descriptors p ++ forms (descriptor_numbers p)

abbrev to_length : Bench → List ℕ
to_length p = to_entries p ++ forms (entry_numbers p)

abbrev to_code : Bench → List ℕ
to_code p = to_length p ++ forms (length p.tables.code ∷ [])

-- where each table stands
record Shapes (p : Bench) : Type 0 where
  rows : file_of p ≡ to_rows p ++ (forms (row_numbers p) ++ (forms (function_numbers p) ++ (forms (descriptor_numbers p) ++ (forms (entry_numbers p) ++ (forms (length p.tables.code ∷ []) ++ p.tables.code)))))
  functions : file_of p ≡ to_functions p ++ (forms (function_numbers p) ++ (forms (descriptor_numbers p) ++ (forms (entry_numbers p) ++ (forms (length p.tables.code ∷ []) ++ p.tables.code))))
  descriptors : file_of p ≡ to_descriptors p ++ (forms (descriptor_numbers p) ++ (forms (entry_numbers p) ++ (forms (length p.tables.code ∷ []) ++ p.tables.code)))
  entries : file_of p ≡ to_entries p ++ (forms (entry_numbers p) ++ (forms (length p.tables.code ∷ []) ++ p.tables.code))
  size : file_of p ≡ to_length p ++ (forms (length p.tables.code ∷ []) ++ p.tables.code)
  code : file_of p ≡ to_code p ++ p.tables.code

shapes : (p : Bench) → Shapes p
unfolding file_of numbers_in
shapes p =
    let last : List ℕ = length p.tables.code ∷ [] in
    let rows = joined p.pool (row_numbers p) (function_numbers p) (descriptor_numbers p) (entry_numbers p) last p.tables.code in
    let functions = behind (file_of p) (to_rows p) (forms (row_numbers p)) _ rows in
    let descriptors = behind (file_of p) (to_functions p) (forms (function_numbers p)) _ functions in
    let entries = behind (file_of p) (to_descriptors p) (forms (descriptor_numbers p)) _ descriptors in
    let size = behind (file_of p) (to_entries p) (forms (entry_numbers p)) _ entries in
    let code = behind (file_of p) (to_length p) (forms last) _ size in
    record { rows = rows; functions = functions; descriptors = descriptors; entries = entries; size = size; code = code }

-- each table as it is read
record Tables (p : Bench) : Type 0 where
  pool_read : TableReads (file_of p) [] 65535 0 p.pool []
  rows_read : TableReads (file_of p) (to_rows p) 6144 3 (length p.tables.list_ids) (rows_from (row_table p) (length p.tables.list_ids) 0)
  functions_read : TableReads (file_of p) (to_functions p) 128 5 (length p.tables.function_ids) (rows_from (function_table p) (length p.tables.function_ids) 0)
  descriptors_read : TableReads (file_of p) (to_descriptors p) 256 2 (length p.tables.type_ids) (rows_from (descriptor_table p) (length p.tables.type_ids) 0)
  entries_read : TableReads (file_of p) (to_entries p) 32 1 (length p.tables.entries) (rows_from (entry_table p) (length p.tables.entries) 0)
  code_read : TableReads (file_of p) (to_length p) 12288 0 (length p.tables.code) []

tables : (p : Bench) → Writable p → Tables p
tables p w =
    let f : List ℕ = file_of p in
    let s : Shapes p = shapes p in
    let c : ℕ = length p.tables.code in
    record {
      pool_read = table_reads f [] _ 65535 0 p.pool [] s.rows (omega (arith, w.pool)) w.pool (sym (mul-zero p.pool)) small_nothing;
      rows_read = tabled_reads f (to_rows p) _ 6144 (row_table p) (length p.tables.list_ids) (omega arith) w.rows s.rows;
      functions_read = tabled_reads f (to_functions p) _ 128 (function_table p) (length p.tables.function_ids) (omega arith) w.functions s.functions;
      descriptors_read = tabled_reads f (to_descriptors p) _ 256 (descriptor_table p) (length p.tables.type_ids) (omega arith) w.descriptors s.descriptors;
      entries_read = tabled_reads f (to_entries p) _ 32 (entry_table p) (length p.tables.entries) (omega arith) w.entries s.entries;
      code_read = table_reads f (to_length p) p.tables.code 12288 0 c [] s.size w.code (omega (arith, w.code)) (sym (mul-zero c)) small_nothing;
    }

-- the layout of the program's file
read_layout : (p : Bench) → Tables p → Layout
read_layout p t =
    record {
      pool = table p.pool t.pool_read.start (length (to_rows p));
      rows = table (length p.tables.list_ids) t.rows_read.start (length (to_functions p));
      functions = table (length p.tables.function_ids) t.functions_read.start (length (to_descriptors p));
      descriptors = table (length p.tables.type_ids) t.descriptors_read.start (length (to_entries p));
      entries = table (length p.tables.entries) t.entries_read.start (length (to_length p));
      code = table (length p.tables.code) t.code_read.start (length (to_code p));
    }

-- the code's bytes
code_bytes : (file before code : List ℕ) (count start : ℕ) → file ≡ before ++ code → start ≡ length before → count ≡ length code →
    take count (drop start file) ≡ code
code_bytes file before code count start e at size =
    rw (e, drop_at before code start (sym at)) (take_all count code (omega arith))

code_start : (p : Bench) (t : Tables p) → t.code_read.start ≡ length (to_code p)
unfolding forms
code_start p t =
    t.code_read.starts
    ∙ sym (length-append (to_length p) (form (length p.tables.code) ++ []) ∙ ap (λ (l : List ℕ). length (to_length p) + length l) (append-nil (form (length p.tables.code))))

bench_same : (p : Bench) → Writable p → (t : Tables p) → bench_of (file_of p) (read_layout p t) ≡ p
unfolding bench_of tables_in read_layout
bench_same p w t =
    let f : List ℕ = file_of p in
    let same_row = column_same f (to_rows p) 6144 (row_table p) (length p.tables.list_ids) (length (to_functions p)) w.rows t.rows_read in
    let same-function = column_same f (to_functions p) 128 (function_table p) (length p.tables.function_ids) (length (to_descriptors p)) w.functions t.functions_read in
    let same-descriptor = column_same f (to_descriptors p) 256 (descriptor_table p) (length p.tables.type_ids) (length (to_entries p)) w.descriptors t.descriptors_read in
    let same-entry = column_same f (to_entries p) 32 (entry_table p) (length p.tables.entries) (length (to_length p)) w.entries t.entries_read in
    let code : take (length p.tables.code) (drop t.code_read.start f) ≡ p.tables.code =
    code_bytes f (to_code p) p.tables.code (length p.tables.code) t.code_read.start (shapes p).code (code_start p t) refl in
    rw (
      same_row 0 (omega arith),
      same_row 1 (omega arith),
      same_row 2 (omega arith),
      same-function 0 (omega arith),
      same-function 1 (omega arith),
      same-function 2 (omega arith),
      same-function 3 (omega arith),
      same-function 4 (omega arith),
      same-descriptor 0 (omega arith),
      same-descriptor 1 (omega arith),
      same-entry 0 (omega arith),
      code,
    )

end_is : (file : List ℕ) (code : Table) → length file ≡ code.end + code.count → code_end file code ≡ Ok (code.end + code.count)
unfolding code_end
end_is file code e =
    rw (le-ltb (length file - code.end) code.count (omega arith), le-ltb code.count (length file - code.end) (omega arith))

layout_is : (p : Bench) → Writable p → (t : Tables p) → layout_of (file_of p) ≡ Ok (read_layout p t)
unfolding layout_of read_layout table_numbers
layout_is p w t =
    let end = end_is (file_of p) (table (length p.tables.code) t.code_read.start (length (to_code p)))
    (ap length (shapes p).code ∙ length-append (to_code p) p.tables.code) in
    rw (
      le-ltb 65536 (length (file_of p)) w.size,
      t.pool_read.is,
      t.rows_read.is,
      t.functions_read.is,
      t.descriptors_read.is,
      t.entries_read.is,
      t.code_read.is,
      end,
    )

pub reads_back : (p : Bench) → Writable p → stated (file_of p) ≡ states p
unfolding stated stated_by
reads_back p w =
    let t : Tables p = tables p w in
    rw (layout_is p w t) (ap states (bench_same p w t))
