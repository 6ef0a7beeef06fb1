-- The program that lent columns state.
-- Assumes nothing.
use Rattle.codes.specs.First.{Place}
use Rattle.std.specs.Prelude.{ℕ, ◌≡◌, refl, List, get_or, take, drop}
use Rattle.codes.specs.Lookup as lookup

-- "functions (id, parameter count, declared maximum depth, body offset, body length)"
pub record Functions : Type 0 where
  pub ids : List ℕ
  pub parameters : List ℕ
  pub maxima : List ℕ
  pub offsets : List ℕ
  pub lengths : List ℕ

-- "code-list rows (id, argument count, borrows-a-buffer 0 or 1)"
pub record CodeList : Type 0 where
  pub ids : List ℕ
  pub counts : List ℕ
  pub flags : List ℕ

-- what the stack call looks at
pub record Program : Type 0 where
  pub functions : Functions
  pub list : CodeList
  pub code : List ℕ

-- "function-block descriptors (type id, function id)"
pub record Descriptors : Type 0 where
  pub types : List ℕ
  pub callees : List ℕ

-- what the pool call looks at: descriptors, entry ids and the declared pool besides
pub record PoolProgram : Type 0 where
  pub program : Program
  pub descriptors : Descriptors
  pub entries : List ℕ
  pub pool : ℕ

abbrev pub functions_of : List ℕ → List ℕ → List ℕ → List ℕ → List ℕ → Functions
functions_of i p m o l = record { ids = i; parameters = p; maxima = m; offsets = o; lengths = l }

abbrev pub list_of : List ℕ → List ℕ → List ℕ → CodeList
list_of i c f = record { ids = i; counts = c; flags = f }

abbrev pub program_of : Functions → CodeList → List ℕ → Program
program_of f l c = record { functions = f; list = l; code = c }

abbrev pub descriptors_of : List ℕ → List ℕ → Descriptors
descriptors_of t c = record { types = t; callees = c }

abbrev pub pool_program_of : Program → Descriptors → List ℕ → ℕ → PoolProgram
pool_program_of p d e n = record { program = p; descriptors = d; entries = e; pool = n }

-- the body of the function at row k; bodies may overlap
unfoldable pub body_of : Program → ℕ → List ℕ
body_of p k = take (get_or p.functions.lengths k 0) (drop (get_or p.functions.offsets k 0) p.code)

-- the row of the function with an id
unfoldable pub row_of : Program → ℕ → Place
row_of p id = lookup.place_of p.functions.ids id

pub body_is : (p : Program) (k : ℕ) → body_of p k ≡ take (get_or p.functions.lengths k 0) (drop (get_or p.functions.offsets k 0) p.code)
unfolding body_of
body_is p k = refl
