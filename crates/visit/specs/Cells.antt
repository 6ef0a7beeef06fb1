-- The graph that lent columns hold, and the rows of the entries. Assumes nothing: these are definitions.
use Rattle.codes.specs.First.{Place}
use Rattle.std.specs.Prelude.{ℕ, zero, suc, ◌*◌, List, [], ◌∷◌, get_or, Some, None}
use Rattle.program.specs.Seat.{seat_of}
use Rattle.visit.specs.declared.CallGraph.{CallGraph}
use Rattle.visit.specs.Graph.{Graph}

-- a cell is 0 at the end of its row, else a callee's row and 1
unfoldable pub at_cell : ℕ → List ℕ → List ℕ
at_cell zero rest = []
at_cell (suc g) rest = g ∷ rest

-- n cells from a place on; past the end they are 0
unfoldable pub callees_from : List ℕ → ℕ → ℕ → List ℕ
callees_from cells zero place = []
callees_from cells (suc n) place = at_cell (get_or cells place 0) (callees_from cells n (suc place))

-- 128 cells for each function
unfoldable pub callees_in : List ℕ → ℕ → List ℕ
callees_in cells f = callees_from cells 128 (f * 128)

abbrev pub graph_in : List ℕ → List ℕ → Graph
graph_in cells weights = record { calls = callees_in cells; weight = λ f. get_or weights f 0 }

-- the same, of what a visit reads
abbrev pub graph_of : CallGraph → Graph
graph_of graph = graph_in graph.cells.now graph.weights.now

-- an entry that is not in the directory has no row, as 128 has no function
unfoldable pub row_at : Place → ℕ
row_at (Some f) = f
row_at None = 128

unfoldable pub entry_rows : List ℕ → List ℕ → List ℕ
entry_rows ids [] = []
entry_rows ids (e ∷ es) = row_at (seat_of ids e) ∷ entry_rows ids es
