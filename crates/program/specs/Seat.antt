-- The row of a function: at its own number where it stands there, else row after row.
-- Assumes nothing.
use Rattle.codes.specs.First.{Place}
use Rattle.std.specs.Prelude.{ℕ, cond, ◌&&◌, List, ltb, length, Some}
use Rattle.codes.specs.Lookup.{has_id, place_of}

unfoldable pub seat_of : List ℕ → ℕ → Place
seat_of ids id = cond (ltb id (length ids) && has_id ids id id) (Some id) (place_of ids id)
