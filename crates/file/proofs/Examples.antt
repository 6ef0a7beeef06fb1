-- 01's file of 14 bytes, and what becomes of it where it is cut, goes on, or has a bad number: the definition computes.
-- Assumes nothing.
use Rattle.std.specs.Prelude.{ℕ, ◌≡◌, refl, List, [], ◌∷◌, ◌++◌, take}
use Rattle.file.specs.Tables.{on_count, table_of, code_end, layout_of}
use Rattle.seven.specs.Seven.{number_at, first, second, third}
use Rattle.file.specs.Numbers.{misread, number_in, run_of, numbers}
use Rattle.file.specs.Columns.{column_of, column_at, numbers_of_table}
use Rattle.file.specs.Stated.{states, refuses, columns, stated, stated_by, bench_of, tables_in}

-- "File `00 00 01 01 00 01 00 02 00 01 01 02 05 88`"
abbrev pub fourteen : List ℕ
fourteen = 0 ∷ (0 ∷ (1 ∷ (1 ∷ (0 ∷ (1 ∷ (0 ∷ (2 ∷ (0 ∷ (1 ∷ (1 ∷ (2 ∷ (5 ∷ (136 ∷ [])))))))))))))

-- one function (id 1, no parameters, maximum 1, offset 0, length 2), one entry (1), two code bytes
pub fourteen_states :
    stated fourteen ≡
    states (record { pool = 0; tables = columns [] [] [] (1 ∷ []) (0 ∷ []) (1 ∷ []) (0 ∷ []) (2 ∷ []) [] [] (1 ∷ []) (5 ∷ (136 ∷ [])) })
unfolding stated stated_by bench_of tables_in layout_of column_at column_of numbers_of_table numbers run_of number_in misread on_count table_of code_end number_at first second third
fourteen_states = refl

pub cut_states : stated (take 13 fourteen) ≡ refuses 41 13
unfolding stated stated_by bench_of tables_in layout_of column_at column_of numbers_of_table numbers run_of number_in misread on_count table_of code_end number_at first second third
cut_states = refl

pub left_over_states : stated (fourteen ++ (0 ∷ [])) ≡ refuses 42 14
unfolding stated stated_by bench_of tables_in layout_of column_at column_of numbers_of_table numbers run_of number_in misread on_count table_of code_end number_at first second third
left_over_states = refl

-- the second number begins with 128 and goes on with 0: not the shortest form
pub bad_states : stated (0 ∷ (128 ∷ (0 ∷ []))) ≡ refuses 40 1
unfolding stated stated_by bench_of tables_in layout_of column_at column_of numbers_of_table numbers run_of number_in misread on_count table_of code_end number_at first second third
bad_states = refl

-- 129 functions, before any of their rows
pub high_states : stated (0 ∷ (0 ∷ (129 ∷ (1 ∷ [])))) ≡ refuses 31 0
unfolding stated stated_by bench_of tables_in layout_of column_at column_of numbers_of_table numbers run_of number_in misread on_count table_of code_end number_at first second third
high_states = refl
