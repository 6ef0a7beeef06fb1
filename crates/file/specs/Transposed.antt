-- Rows and columns: the rows of a table's columns are its numbers, and the columns of its rows are its columns, whatever the width.
-- Assumes nothing.
use Rattle.std.specs.Prelude.{ℕ, zero, suc, ◌+◌, ◌*◌, ◌<◌, ◌≤◌, ◌≡◌, refl, List, [], ◌∷◌, ◌++◌, length, get_or, take, drop}
use Rattle.std.proofs.Common.{sym, ◌∙◌, ap, arith, suc-mul, zero-mul, length-append, length-drop, take-append-drop, drop-cons, drop_at, take_all}
use Rattle.std.proofs.Math.ListN.{get_or-append}
use Rattle.file.specs.Columns.{column_of}
use Rattle.file.specs.Written.{row_at, rows_from}

pub column_length : (width k count : ℕ) (row : List ℕ) → length (column_of width k count row) ≡ count
unfolding column_of
column_length width k zero row = refl
column_length width k (suc count) row = ap suc (column_length width k count (drop width row))

-- the columns of a table, from an index on
unfoldable pub columns_of : ℕ → ℕ → ℕ → ℕ → List ℕ → List (List ℕ)
columns_of width index zero count numbers = []
columns_of width index (suc left) count numbers = column_of width index count numbers ∷ columns_of width (suc index) left count numbers

-- the first row of the columns is the front of the numbers
first_row_lem : (left width index count : ℕ) (numbers : List ℕ) → index + left ≤ length numbers →
    row_at (columns_of width index left (suc count) numbers) 0 ≡ take left (drop index numbers)
unfolding row_at columns_of column_of
first_row_lem zero width index count numbers h = refl
first_row_lem (suc left) width index count numbers h =
    rw (drop-cons numbers index 0 (omega arith))
    (ap (λ (l : List ℕ). get_or numbers index 0 ∷ l) (first_row_lem left width (suc index) count numbers (omega arith)))

-- the other rows are those of the columns of the rest
next_row : (left width index count i : ℕ) (numbers : List ℕ) →
    row_at (columns_of width index left (suc count) numbers) (suc i) ≡ row_at (columns_of width index left count (drop width numbers)) i
unfolding row_at columns_of column_of
next_row zero width index count i numbers = refl
next_row (suc left) width index count i numbers =
    ap (λ (l : List ℕ). get_or (column_of width index count (drop width numbers)) i 0 ∷ l) (next_row left width (suc index) count i numbers)

next_rows : (left width index count rows i : ℕ) (numbers : List ℕ) →
    rows_from (columns_of width index left (suc count) numbers) rows (suc i) ≡ rows_from (columns_of width index left count (drop width numbers)) rows i
unfolding rows_from
next_rows left width index count zero i numbers = refl
next_rows left width index count (suc rows) i numbers =
    rw (next_row left width index count i numbers, next_rows left width index count rows (suc i) numbers)

nothing : (numbers : List ℕ) → length numbers ≤ 0 → [] ≡ numbers
nothing [] h = refl
nothing (n ∷ rest) h = absurd (omega arith)

-- the rows of the columns are the numbers
pub rows_of_columns : (count width : ℕ) (numbers : List ℕ) → length numbers ≡ count * width →
    rows_from (columns_of width 0 width count numbers) count 0 ≡ numbers
unfolding rows_from
rows_of_columns zero width numbers e = nothing numbers (omega arith)
rows_of_columns (suc count) width numbers e =
    let size : length numbers ≡ count * width + width = e ∙ suc-mul count width in
    rw (first_row_lem width width 0 count numbers (omega arith), next_rows width width 0 count count 0 numbers)
    (ap (λ (l : List ℕ). take width numbers ++ l)
    (rows_of_columns count width (drop width numbers) (length-drop width numbers ∙ omega arith))
    ∙ take-append-drop width numbers)

-- the cells of a column, from one on
unfoldable pub cells_from : List ℕ → ℕ → ℕ → List ℕ
cells_from column zero i = []
cells_from column (suc count) i = get_or column i 0 ∷ cells_from column count (suc i)

cells_are : (count i : ℕ) (column : List ℕ) → i + count ≤ length column → cells_from column count i ≡ take count (drop i column)
unfolding cells_from
cells_are zero i column h = refl
cells_are (suc count) i column h =
    rw (drop-cons column i 0 (omega arith)) (ap (λ (l : List ℕ). get_or column i 0 ∷ l) (cells_are count (suc i) column (omega arith)))

row_length : (table : List (List ℕ)) (i : ℕ) → length (row_at table i) ≡ length table
unfolding row_at
row_length [] i = refl
row_length (column ∷ rest) i = ap suc (row_length rest i)

row_cell : (table : List (List ℕ)) (k i : ℕ) → k < length table → get_or (row_at table i) k 0 ≡ get_or (get_or table k []) i 0
unfolding row_at
row_cell [] k i h = absurd (omega arith)
row_cell (column ∷ rest) zero i h = refl
row_cell (column ∷ rest) (suc k) i h = row_cell rest k i (omega arith)

columns_cells : (count : ℕ) (table : List (List ℕ)) (k i : ℕ) → k < length table →
    column_of (length table) k count (rows_from table count i) ≡ cells_from (get_or table k []) count i
unfolding column_of rows_from cells_from
columns_cells zero table k i h = refl
columns_cells (suc count) table k i h =
    rw (get_or-append (row_at table i) (rows_from table count (suc i)) 0 k (rw row_length h), row_cell table k i h, drop_at (row_at table i) (rows_from table count (suc i)) (length table) (row_length table i), columns_cells count table k (suc i) h)

-- the columns of the rows are the columns
pub columns_of_rows : (table : List (List ℕ)) (k count : ℕ) → k < length table → length (get_or table k []) ≡ count →
    column_of (length table) k count (rows_from table count 0) ≡ get_or table k []
columns_of_rows table k count h e =
    columns_cells count table k 0 h
    ∙ (cells_are count 0 (get_or table k []) (omega arith) ∙ take_all count (get_or table k []) (omega arith))

-- as many numbers as rows of the table's width
pub rows_length : (count : ℕ) (table : List (List ℕ)) (i : ℕ) → length (rows_from table count i) ≡ count * length table
unfolding rows_from
rows_length zero table i = sym (zero-mul (length table))
rows_length (suc count) table i =
    length-append (row_at table i) (rows_from table count (suc i))
    ∙ (rw (row_length table i, rows_length count table (suc i), suc-mul count (length table)) (omega arith))
