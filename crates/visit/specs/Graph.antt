-- The call graph, its chains of calls and what they weigh, said without the visit. Functions are rows of the directory; those from 128 on are unknown.
-- Assumes nothing: these are definitions.
--     Calls        g calls h, and h is known
--     Chain        a chain of calls from a function, as the list of the functions on it
--     weigh        the sum of the weights along a list of functions
--     Distinct     no function stands twice in a list
--     Reaches      a chain of no or more calls leads from g to h
--     Heaviest     the largest sum along the chains from a function
--     Tame         no chain from a function repeats one or weighs more than the pool
use Rattle.std.specs.Prelude.{ℕ, ◌+◌, ◌≤◌, ◌<◌, ◌≡◌, List, [], ◌∷◌, ◌⊎◌}

-- the callees of each function in first-met order, and its weight
pub record Graph : Type 0 where
  pub calls : ℕ → List ℕ
  pub weight : ℕ → ℕ

abbrev pub Among : ℕ → List ℕ → Type 0
Among h [] = ⊥
Among h (g ∷ gs) = (g ≡ h) ⊎ Among h gs

abbrev pub Calls : Graph → ℕ → ℕ → Type 0
Calls G g h = Among h (G.calls g) × (h < 128)

pub data Chain (G : Graph) : ℕ → List ℕ → Type 0 where
  last : {g : ℕ} → Chain G g (g ∷ [])
  call : {g h : ℕ} {p : List ℕ} → Calls G g h → Chain G h p → Chain G g (g ∷ p)

unfoldable pub weigh : Graph → List ℕ → ℕ
weigh G [] = 0
weigh G (g ∷ p) = G.weight g + weigh G p

abbrev pub Distinct : List ℕ → Type 0
Distinct [] = Unit {0}
Distinct (g ∷ p) = (Among g p → ⊥) × Distinct p

pub data Reaches (G : Graph) : ℕ → ℕ → Type 0 where
  same : {g : ℕ} → Reaches G g g
  more : {g h x : ℕ} → Calls G g h → Reaches G h x → Reaches G g x

-- t is the largest sum along the chains of calls from f
abbrev pub Heaviest : Graph → ℕ → ℕ → Type 0
Heaviest G f t = ((p : List ℕ) → Chain G f p → weigh G p ≤ t) × ((p : List ℕ) × Chain G f p × (weigh G p ≡ t))

-- from f no chain of calls repeats a function, and none weighs more than the pool
abbrev pub Tame : Graph → ℕ → ℕ → Type 0
Tame G pool f = (p : List ℕ) → Chain G f p → Distinct p × (weigh G p ≤ pool)
