-- `file_writer::write::put_row` meets its contract: each turn puts one number more, and where there is no room none behind it is put
-- (WriteLaws.antt). Assumes nothing.
use Rattle.std.proofs.Common.{ℕ, ◌+◌, ◌<◌, ◌≡◌, List, [], ◌∷◌, ◌++◌, get_or, Option, sym, ◌∙◌, ap, refl, arith, map, take, drop, length, Some, None}
use Rattle.seven.specs.Write.{written}
use Rattle.file.specs.Written.{row_at}
use Rattle.file_writer.specs.declared.write.Column.{Column}
use Rattle.file_writer.specs.Writing.{Buffer, column_of, put_all}
use Rattle.file_writer.proofs.WriteLaws.{put_next, put_stops, row_next, row_rest}
use Rattle.file_writer.proofs.write.put_row.Goals as goal

pub loop-column-init : goal.loop-column-init
unfolding put_all row_at
loop-column-init c = refl

-- what is put with one column more
next : (columns : List Column) (k row n start at : ℕ) (d : Column) (s : Option ℕ) (b₀ b b' : List ℕ) → k < length columns → n ≡ get_or (column_of (get_or columns k d)) row 0 →
    ◌≡◌ {A = Buffer} (Some at, b) (put_all (Some start) (row_at (map column_of (take k columns)) row) b₀) → ◌≡◌ {A = Buffer} (s, b') (written b at n) →
    ◌≡◌ {A = Buffer} (s, b') (put_all (Some start) (row_at (map column_of (take (k + 1) columns)) row) b₀)
next columns k row n start at d s b₀ b b' h value before put =
    put_next (row_at (map column_of (take k columns)) row) n at (Some start) s b₀ b b' before put
    ∙ ap (λ (l : List ℕ). put_all (Some start) l b₀) (ap (λ (m : ℕ). row_at (map column_of (take k columns)) row ++ (m ∷ [])) value ∙ sym (row_next columns k row d h))

pub returns-in_err-at : goal.returns-in_err-at
returns-in_err-at c = let l = c.loop-column in
    let a = c.args in
    let front = next a.columns.now l.column-index a.row c.number.result a.start l.at _ None a.buffer.now l.buffer c.write_number.new.out (omega arith) c.number.ensures l.invariant
    (rw c.in_err-at.was at c.write_number.ensures) in
    rw c.from_residual.ensures
    (put_stops (row_at (map column_of (take (l.column-index + 1) a.columns.now)) a.row) (row_at (map column_of (drop (l.column-index + 1) a.columns.now)) a.row) (Some a.start) a.buffer.now c.write_number.new.out front
    ∙ ap (λ (ns : List ℕ). put_all (Some a.start) ns a.buffer.now) (sym (row_rest a.columns.now (l.column-index + 1) a.row)))

pub loop-column-preserved : goal.loop-column-preserved
loop-column-preserved c = let l = c.loop-column in
    let a = c.args in
    next a.columns.now l.column-index a.row c.number.result a.start l.at _ (Some c.in_ok-at.at) a.buffer.now l.buffer c.write_number.new.out (omega arith) c.number.ensures l.invariant
    (rw c.in_ok-at.was at c.write_number.ensures)
