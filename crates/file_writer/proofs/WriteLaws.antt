-- What the functions that write leave, in the words of the definitions.
-- Assumes nothing.
use Rattle.std.specs.Prelude.{ℕ, zero, suc, ◌+◌, ◌-◌, ◌<◌, ◌≤◌, ◌≡◌, refl, List, [], ◌∷◌, ◌++◌, map, length, get_or, take, drop, ltb, Option, Some, None, Result, Ok}
use Rattle.std.proofs.Common.{sym, ◌∙◌, ap, arith, append-nil, append_assoc, add-zero, zero-add, take-append-drop, drop-drop, length-take-le, le-leb, le-ltb}
use Rattle.std.proofs.lemmas.Bool.{lt-leb}
use Rattle.std.proofs.lemmas.List.{map_more}
use Rattle.std.specs.List.{list_all}
use borrow.Rule.Slice.PartMut.{put_mid}
use Rattle.seven.specs.Write.{laid, written}
use Rattle.file.specs.Columns.{over}
use Rattle.seven.proofs.Forms.{by_test}
use Rattle.file.specs.Stated.{Columns}
use Rattle.file.specs.Written.{row_at, rows_from}
use Rattle.file_writer.specs.declared.Unwritten.{Unwritten}
use Rattle.file_writer.specs.declared.write.Column.{Column}
use Rattle.file_writer.specs.Writing.{Buffer, column_of, put_one, put_all, put_bytes, fit, all_small, all_numbers, wrote_all, delivered}
use Rattle.file_writer.specs.WroteLaws.{stays_full}

-- numbers put behind numbers
pub put_append : (xs ys : List ℕ) (s : Option ℕ) (b : List ℕ) → put_all s (xs ++ ys) b ≡ put_all (put_all s xs b).0 ys (put_all s xs b).1
unfolding put_all
put_append [] ys s b = refl
put_append (n ∷ xs) ys s b = put_append xs ys (put_one s n b).0 (put_one s n b).1

-- more numbers, where the first are put
pub put_more : (xs ys : List ℕ) (s : Option ℕ) (b : List ℕ) (s' : Option ℕ) (b' : List ℕ) → ◌≡◌ {A = Buffer} (s', b') (put_all s xs b) →
    put_all s' ys b' ≡ put_all s (xs ++ ys) b
put_more xs ys s b s' b' e = ap (λ (x : Buffer). put_all x.0 ys x.1) e ∙ sym (put_append xs ys s b)

-- one number more
pub put_next : (xs : List ℕ) (n at : ℕ) (s s' : Option ℕ) (b b' b'' : List ℕ) → ◌≡◌ {A = Buffer} (Some at, b') (put_all s xs b) →
    ◌≡◌ {A = Buffer} (s', b'') (written b' at n) → ◌≡◌ {A = Buffer} (s', b'') (put_all s (xs ++ (n ∷ [])) b)
unfolding put_all put_one
put_next xs n at s s' b b' b'' e f = f ∙ put_more xs (n ∷ []) s b (Some at) b' e

-- a number in front of others
pub put_first : (n at : ℕ) (rest b : List ℕ) (s : Option ℕ) (b' : List ℕ) → ◌≡◌ {A = Buffer} (s, b') (written b at n) →
    put_all s rest b' ≡ put_all (Some at) (n ∷ rest) b
unfolding put_all put_one
put_first n at rest b s b' e = ap (λ (x : Buffer). put_all x.0 rest x.1) e

pub put_none : (s : Option ℕ) (b : List ℕ) → put_all s [] b ≡ (s, b)
unfolding put_all
put_none s b = refl

-- once there is no room the numbers behind are not put
pub put_stops : (xs ys : List ℕ) (s : Option ℕ) (b b' : List ℕ) → ◌≡◌ {A = Buffer} (None, b') (put_all s xs b) →
    ◌≡◌ {A = Buffer} (None, b') (put_all s (xs ++ ys) b)
put_stops xs ys s b b' e = sym (stays_full ys b') ∙ put_more xs ys s b None b' e

row_append : (t u : List (List ℕ)) (i : ℕ) → row_at (t ++ u) i ≡ row_at t i ++ row_at u i
unfolding row_at
row_append [] u i = refl
row_append (column ∷ t) u i = ap (λ (l : List ℕ). get_or column i 0 ∷ l) (row_append t u i)

map_append : (t u : List Column) → map column_of (t ++ u) ≡ map column_of t ++ map column_of u
map_append [] u = refl
map_append (column ∷ t) u = ap (λ (l : List (List ℕ)). column_of column ∷ l) (map_append t u)

-- a row, as far as a column
pub row_next : (columns : List Column) (k i : ℕ) (d : Column) → k < length columns →
    row_at (map column_of (take (k + 1) columns)) i ≡ row_at (map column_of (take k columns)) i ++ (get_or (column_of (get_or columns k d)) i 0 ∷ [])
unfolding row_at
row_next columns k i d h =
    ap (λ (t : List (List ℕ)). row_at t i) (map_more column_of columns k d h)
    ∙ row_append (map column_of (take k columns)) (column_of (get_or columns k d) ∷ []) i

pub row_rest : (columns : List Column) (k i : ℕ) →
    row_at (map column_of columns) i ≡ row_at (map column_of (take k columns)) i ++ row_at (map column_of (drop k columns)) i
row_rest columns k i =
    ap (λ (l : List Column). row_at (map column_of l) i) (sym (take-append-drop k columns))
    ∙ (ap (λ (t : List (List ℕ)). row_at t i) (map_append (take k columns) (drop k columns))
    ∙ row_append (map column_of (take k columns)) (map column_of (drop k columns)) i)

-- rows, as far as one
pub rows_split : (table : List (List ℕ)) (a b i : ℕ) → rows_from table (a + b) i ≡ rows_from table a i ++ rows_from table b (i + a)
unfolding rows_from
rows_split table zero b i = rw (zero-add, add-zero)
rows_split table (suc a) b i =
    let n : suc a + b ≡ suc (a + b) = omega arith in
    let m : suc i + a ≡ i + suc a = omega arith in
    rw n
    (ap (λ (l : List ℕ). row_at table i ++ l) (rows_split table a b (suc i) ∙ ap (λ (k : ℕ). rows_from table a (suc i) ++ rows_from table b k) m)
    ∙ sym (append_assoc (row_at table i) (rows_from table a (suc i)) (rows_from table b (i + suc a))))

pub rows_next : (table : List (List ℕ)) (i : ℕ) → rows_from table (i + 1) 0 ≡ rows_from table i 0 ++ row_at table i
unfolding rows_from
rows_next table i =
    rows_split table i 1 0 ∙ ap (λ (l : List ℕ). rows_from table i 0 ++ l) (append-nil (row_at table (0 + i)) ∙ ap (λ (k : ℕ). row_at table k) (zero-add i))

pub rows_rest : (table : List (List ℕ)) (i count : ℕ) → i < count →
    rows_from table count 0 ≡ (rows_from table i 0 ++ row_at table i) ++ rows_from table (count - (i + 1)) (i + 1)
rows_rest table i count h =
    let n : count ≡ (i + 1) + (count - (i + 1)) = omega arith in
    ap (λ (k : ℕ). rows_from table k 0) n
    ∙ (rows_split table (i + 1) (count - (i + 1)) 0
    ∙ (ap (λ (k : ℕ). rows_from table (i + 1) 0 ++ rows_from table (count - (i + 1)) k) (zero-add (i + 1))
    ∙ ap (λ (l : List ℕ). l ++ rows_from table (count - (i + 1)) (i + 1)) (rows_next table i)))

-- the file, where its numbers are put, and where they are not
pub then_code : (pool : ℕ) (t : Columns) (b : List ℕ) (s : Option ℕ) (b' : List ℕ) (x : Buffer) → ◌≡◌ {A = Buffer} (s, b') (put_all (Some 0) (all_numbers pool t) b) →
    x ≡ put_bytes s t.code b' → x ≡ wrote_all pool t b
unfolding wrote_all
then_code pool t b s b' x e f = f ∙ ap (λ (y : Buffer). put_bytes y.0 t.code y.1) e

pub no_code : (pool : ℕ) (t : Columns) (b b' : List ℕ) → ◌≡◌ {A = Buffer} (None, b') (put_all (Some 0) (all_numbers pool t) b) →
    ◌≡◌ {A = Buffer} (None, b') (wrote_all pool t b)
unfolding put_bytes
no_code pool t b b' e = then_code pool t b None b' (None, b') e refl

pub bytes_fit : (buffer bytes : List ℕ) (at : ℕ) (after : List ℕ) → at + length bytes ≤ length buffer →
    after ≡ laid buffer at bytes → (Some (at + length bytes), after) ≡ put_bytes (Some at) bytes buffer
unfolding put_bytes
bytes_fit buffer bytes at after h e = rw (le-leb _ _ h) (ap (λ (l : List ℕ). (Some (at + length bytes), l)) e)

pub bytes_full : (buffer bytes : List ℕ) (at : ℕ) → length buffer < at + length bytes → (None, buffer) ≡ put_bytes (Some at) bytes buffer
unfolding put_bytes
bytes_full buffer bytes at h = rw (lt-leb _ _ h)

-- a part of the buffer as long as the bytes, written and put back
pub put_back : (buffer bytes part : List ℕ) (at : ℕ) → part ≡ bytes →
    put_mid at (at + length bytes - at) buffer part ≡ laid buffer at bytes
unfolding laid
put_back buffer bytes part at e =
    let n : at + length bytes - at ≡ length bytes = omega arith in
    rw (e, n, drop-drop (length bytes) at buffer)

-- a cell of the machine's size
pub fit_at : (column : List ℕ) (row : ℕ) → fit (get_or column row 0) ≡ get_or (map fit column) row 0
unfolding fit
fit_at [] row = refl
fit_at (n ∷ rest) zero = refl
fit_at (n ∷ rest) (suc row) = fit_at rest row

pub small_list : (column : List ℕ) → list_all (λ n. ltb n 65536) column ≡ all_small column
unfolding all_small
small_list [] = refl
small_list (n ∷ rest) = by_test (ltb n 65536) (λ t. rw t (small_list rest)) (λ t. rw t)

-- the file handed over
pub handed : (buffer out part : List ℕ) (size : ℕ) → size ≤ length buffer → size ≤ length out → part ≡ take size buffer →
    ◌≡◌ {A = Result ℕ Unwritten × List ℕ} (Ok size, part ++ drop size out) (delivered buffer size out)
unfolding delivered over
handed buffer out part size h k e =
    rw (le-ltb (length buffer) size h, le-ltb (length out) size k, length-take-le size buffer h, e)
