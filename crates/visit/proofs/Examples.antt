-- 01's pool examples, computed from the definition, and the cases that are easy to get wrong. Assumes nothing.
use Rattle.std.specs.Prelude.{◌≡◌, refl, List, [], ◌∷◌, set, replicate, Ok, Err}
use Rattle.visit.specs.declared.Overrun.TheVariants.{Cycle, Over}
use Rattle.visit.specs.Graph.{Graph}
use Rattle.visit.specs.Visit.{Visited, onward, if_open, if_known, largest_of, closes, total_by, total_of, visit_of}
use Rattle.visit.specs.Cells.{at_cell, callees_from, callees_in, graph_in}

-- the first function calls the second, each weighs 1
pair : Graph
pair = graph_in (2 ∷ []) (1 ∷ 1 ∷ [])

-- and the second calls the first
ring : Graph
ring = graph_in (set (2 ∷ replicate 128 0) 128 1) (1 ∷ 1 ∷ [])

-- the first calls the second, one that is unknown, and the third: 1 + max 5 2
fork : Graph
fork = graph_in (2 ∷ 200 ∷ 3 ∷ []) (1 ∷ 5 ∷ 2 ∷ [])

answers : List Visited
answers =
    visit_of pair 2 (0 ∷ [])
    ∷ visit_of pair 1 (0 ∷ [])
    ∷ visit_of ring 2 (0 ∷ [])
    ∷ visit_of ring 2 (1 ∷ [])
    ∷ visit_of ring 2 []
    ∷ visit_of ring 2 (128 ∷ [])
    ∷ visit_of fork 6 (2 ∷ 0 ∷ 1 ∷ [])
    ∷ visit_of fork 4 (2 ∷ 0 ∷ [])
    ∷ []

computed : answers ≡ Ok 2 ∷ Err (Over 0 2) ∷ Err (Cycle 0) ∷ Err (Cycle 1) ∷ Ok 0 ∷ Ok 0 ∷ Ok 6 ∷ Err (Over 1 5) ∷ []
unfolding answers pair ring fork onward if_open if_known largest_of closes total_by total_of visit_of at_cell callees_from callees_in
computed = refl
