-- What the numbers and the findings of a walk are to mean, with no queue in it: at each offset that has a number, the number is at least what any
-- predecessor leaves, the weight is at least the sum made there, and the function opened there is among the callees.
-- Assumes nothing.
use Rattle.std.specs.Prelude.{ℕ, suc, ◌≤◌, ◌<◌, ◌≡◌, List, [], ◌∷◌, ◌⊎◌, get_or}
use Rattle.buffers.specs.declared.Way.{Way}
use Rattle.buffers.specs.declared.Way.TheVariants.{Ends, Astray, Goes, Forks}
use Rattle.buffers.specs.declared.Tread.{Tread}
use Rattle.buffers.specs.Walk.{Usage}

abbrev pub Among : {A : Type 0} → A → List A → Type 0
Among x [] = ⊥
Among x (y ∷ list) = (y ≡ x) ⊎ Among x list

-- none twice
abbrev pub Distinct : List ℕ → Type 0
Distinct [] = Unit {0}
Distinct (c ∷ cells) = (Among c cells → ⊥) × Distinct cells

-- s is a successor
abbrev pub Next : Way → ℕ → Type 0
Next Ends s = ⊥
Next Astray s = ⊥
Next (Goes to) s = to ≡ s
Next (Forks to next) s = (to ≡ s) ⊎ (next ≡ s)

pub record Dominates (rule : ℕ → ℕ → Tread) (numbers : List ℕ) (u : Usage) : Type 0 where
  pub first : 0 < get_or numbers 0 0
  pub sums : (offset held : ℕ) → get_or numbers offset 0 ≡ suc held → (rule offset held).sum ≤ u.weight
  pub onward : (offset held to : ℕ) → get_or numbers offset 0 ≡ suc held → Next (rule offset held).way to → (rule offset held).sum < get_or numbers to 0
  pub straight : (offset held : ℕ) → get_or numbers offset 0 ≡ suc held → (rule offset held).way ≡ Astray → ⊥
  pub calls : (offset held : ℕ) → get_or numbers offset 0 ≡ suc held → ((rule offset held).opens ≡ 0 → ⊥) → Among (rule offset held).opens u.callees

-- what an instruction leaves grows with what it finds; it opens the same, and within the pool it goes the same way
abbrev pub Grows : (ℕ → ℕ → Tread) → ℕ → Type 0
Grows rule pool = (offset held more : ℕ) → held ≤ more
    → ((rule offset held).sum ≤ (rule offset more).sum) × (((rule offset held).opens ≡ (rule offset more).opens) × ((rule offset more).sum ≤ pool → (rule offset held).way ≡ (rule offset more).way))
