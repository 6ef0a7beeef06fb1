-- Numbers in a row from a place of the file on: where they end, or the refusal, and what they are.
-- Assumes nothing.
use Rattle.std.specs.Prelude.{ℕ, zero, suc, List, [], ◌∷◌, length, Result, Ok, Err}
use Rattle.seven.specs.declared.Number.{Number}
use Rattle.seven.specs.declared.Misread.{Misread}
use Rattle.seven.specs.declared.Misread.TheVariants.{Bad, Early}
use Rattle.seven.specs.Seven.{number_at}
use Rattle.file.specs.declared.Refused.{Refused}

abbrev pub refused : ℕ → ℕ → Refused
refused number place = record { number = number; place = place }

-- reading goes on with what was read, and the first refusal ends it
abbrev pub if_read : {A B : Type 0} → Result A Refused → (A → Result B Refused) → Result B Refused
if_read (Ok x) go = go x
if_read (Err r) go = Err r

-- "40 for a bad number (place of its first byte ..), 41 for an early end (file length)"
unfoldable pub misread : List ℕ → ℕ → Misread → Refused
misread file at Bad = refused 40 at
misread file at Early = refused 41 (length file)

abbrev pub or_refused : List ℕ → ℕ → Result Number Misread → Result Number Refused
or_refused file at (Ok x) = Ok x
or_refused file at (Err m) = Err (misread file at m)

unfoldable pub number_in : List ℕ → ℕ → Result Number Refused
number_in file at = or_refused file at (number_at file at)

unfoldable pub run_of : ℕ → List ℕ → ℕ → Result ℕ Refused
run_of zero file at = Ok at
run_of (suc count) file at = if_read (number_in file at) (λ (x : Number). run_of count file x.next)

-- the numbers themselves, up to the first that is bad or cut
abbrev pub on_value : Result Number Misread → (Number → List ℕ) → List ℕ
on_value (Ok x) go = go x
on_value (Err m) go = []

unfoldable pub numbers : ℕ → List ℕ → ℕ → List ℕ
numbers zero file at = []
numbers (suc count) file at = on_value (number_at file at) (λ (x : Number). x.n ∷ numbers count file x.next)
