-- The number that stands at a place of a file (01, "Bench file").
-- Assumes nothing.
use Rattle.std.specs.Prelude.{ℕ, ◌+◌, ◌-◌, ◌*◌, ◌<◌, List, cond, length, get_or, ltb, leb, eqb, Result, Ok, Err}
use Rattle.seven.specs.declared.Number.{Number}
use Rattle.seven.specs.declared.Misread.{Misread}
use Rattle.seven.specs.declared.Misread.TheVariants.{Bad, Early}

-- a number that is there, and the place after it
abbrev pub value : ℕ → ℕ → Result Number Misread
value n next = Ok (record { n = n; next = next })

-- "a third byte other than 1 to 3 is bad at once": with 0 the form is not the shortest, above 3 the number is too large or goes on
unfoldable pub third : ℕ → ℕ → ℕ → ℕ → Result Number Misread
third at low middle high =
    cond (eqb high 0) (Err Bad)
    (cond (leb high 3) (value (low - 128 + (middle - 128) * 128 + high * 16384) (at + 3)) (Err Bad))

-- "top bit set on all but the last": below 128 the second byte is the last; "shortest form": 0 is bad
unfoldable pub second : List ℕ → ℕ → ℕ → ℕ → Result Number Misread
second file at low middle =
    cond (ltb middle 128) (cond (eqb middle 0) (Err Bad) (value (low - 128 + middle * 128) (at + 2)))
    (cond (leb (length file - at) 2) (Err Early) (third at low middle (get_or file (at + 2) 0)))

unfoldable pub first : List ℕ → ℕ → ℕ → Result Number Misread
first file at low =
    cond (ltb low 128) (value low (at + 1))
    (cond (leb (length file - at) 1) (Err Early) (second file at low (get_or file (at + 1) 0)))

-- "Numbers are groups of seven bits, low group first"
unfoldable pub number_at : List ℕ → ℕ → Result Number Misread
number_at file at = cond (leb (length file) at) (Err Early) (first file at (get_or file at 0))

-- what a lent slice of bytes holds
unfoldable pub Bytes : List ℕ → Type 0
Bytes file = (i : ℕ) → get_or file i 0 < 256
