-- What the code list says of an id: row after row, by halving, and by hints.
-- Assumes nothing.
use Rattle.codes.specs.declared.Listed.{Listed}
use Rattle.std.specs.Prelude.{ℕ, zero, suc, ◌+◌, ◌-◌, ◌/◌, ◌%◌, Bool, cond, List, leb, ltb, eqb, length, get_or, set, Some, None, Option}
use Rattle.codes.specs.First.{first_of, Place}

abbrev pub has_id : List ℕ → ℕ → ℕ → Bool
has_id ids id k = eqb (get_or ids k 0) id

-- the first row with an id, in any column of ids
unfoldable pub place_of : List ℕ → ℕ → Place
place_of ids id = first_of (has_id ids id) (length ids)

-- a row where it has the id
unfoldable pub row_if : List ℕ → ℕ → ℕ → Place
row_if ids id k = cond (ltb k (length ids)) (cond (has_id ids id k) (Some k) None) None

-- of the rows from lo on, `size` of them: where the half begins that may have the id
abbrev pub half_of : List ℕ → ℕ → ℕ → ℕ → ℕ
half_of ids id lo size = cond (leb (get_or ids (lo + size / 2) 0) id) (lo + size / 2) lo

-- halving the rows from lo on, `size` of them, in at most so many turns, down to one row
abbrev pub halve : ℕ → List ℕ → ℕ → ℕ → ℕ → Place
halve zero ids id lo size = row_if ids id lo
halve (suc turns) ids id lo size =
    cond (ltb 1 size) (halve turns ids id (half_of ids id lo size) (size - size / 2)) (row_if ids id lo)

-- as many turns as rows are always enough
unfoldable pub halved_of : List ℕ → ℕ → Place
halved_of ids id = halve (length ids) ids id 0 (length ids)

-- what the list says of an id, if it has the id
abbrev pub Entry : Type 0
Entry = Option Listed

-- 01, "code-list rows (id, argument count, borrows-a-buffer 0 or 1)"
abbrev pub entry_at : List ℕ → List ℕ → Place → Entry
entry_at counts flags (Some k) = Some (record { count = get_or counts k 0; flag = get_or flags k 0 })
entry_at counts flags None = None

-- row after row
unfoldable pub entry_of : List ℕ → List ℕ → List ℕ → ℕ → Entry
entry_of ids counts flags id = entry_at counts flags (place_of ids id)

-- by halving
unfoldable pub looked_up : List ℕ → List ℕ → List ℕ → ℕ → Entry
looked_up ids counts flags id = entry_at counts flags (halved_of ids id)

-- the row of each id, noted at the cell of the id, the last row first: of two ids with one cell the earlier row stands
abbrev pub note_down : List ℕ → ℕ → List ℕ → List ℕ
note_down ids zero hints = hints
note_down ids (suc row) hints = note_down ids row (set hints (get_or ids row 0 % 8192) (row % 65536))

unfoldable pub noted : List ℕ → List ℕ → List ℕ
noted ids hints = note_down ids (length ids) hints

-- noted where so many bytes of code may ask for a quarter of the rows
unfoldable pub noted_for : ℕ → List ℕ → List ℕ → List ℕ
noted_for bytes ids hints = cond (leb (length ids / 4 + 256) bytes) (noted ids hints) hints

abbrev pub or_else : Place → Place → Place
or_else (Some k) other = Some k
or_else None other = other

-- the hinted row where it has the id, else by halving
unfoldable pub hinted_of : List ℕ → List ℕ → ℕ → Place
hinted_of hints ids id = or_else (row_if ids id (get_or hints (id % 8192) 0)) (halved_of ids id)

unfoldable pub hinted_up : List ℕ → List ℕ → List ℕ → List ℕ → ℕ → Entry
hinted_up hints ids counts flags id = entry_at counts flags (hinted_of hints ids id)
