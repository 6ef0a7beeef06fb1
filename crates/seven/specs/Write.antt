-- The bytes of a number, and what a buffer holds after they are written to it (01, "Bench file").
-- Assumes nothing.
use Rattle.std.specs.Prelude.{ℕ, ◌+◌, ◌/◌, ◌%◌, List, [], ◌∷◌, ◌++◌, cond, length, take, drop, ltb, leb, Option, Some, None}

-- "groups of seven bits, low group first, top bit set on all but the last, shortest form"
unfoldable pub form : ℕ → List ℕ
form n =
    cond (ltb n 128) (n ∷ [])
    (cond (ltb n 16384) ((n % 128 + 128) ∷ ((n / 128) ∷ []))
    ((n % 128 + 128) ∷ ((n / 128 % 128 + 128) ∷ ((n / 16384) ∷ []))))

-- a buffer with some bytes written over it from a place on
unfoldable pub laid : List ℕ → ℕ → List ℕ → List ℕ
laid out at bytes = take at out ++ (bytes ++ drop (at + length bytes) out)

-- a number written at a place: the place after it and the buffer, or no room and the buffer as it was
unfoldable pub written : List ℕ → ℕ → ℕ → Option ℕ × List ℕ
written out at n =
    cond (leb (at + length (form n)) (length out)) (Some (at + length (form n)), laid out at (form n)) (None, out)
