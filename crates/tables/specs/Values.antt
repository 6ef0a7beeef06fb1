-- A stored table is the list of a function's values: what stands in it, and two functions whose values are one list.
-- Assumes nothing.
use Rattle.std.specs.Prelude.{◌≡◌, refl, List, [], ◌∷◌, ℕ, zero, suc, ◌+◌, ◌<◌, length, get_or}
use Rattle.std.proofs.Common.{◌∙◌, ap, sym, add-zero, zero-add, add-suc, suc-add, le_of_suc-le-suc, not-suc-le-zero}

-- f at i, i + 1, .., n values
abbrev pub values : {A : Type 0} → (ℕ → A) → ℕ → ℕ → List A
values f i zero = []
values f i (suc n) = f i ∷ values f (suc i) n

from : {A : Type 0} (d : A) (f : ℕ → A) (n i k : ℕ) → k < n → get_or (values f i n) k d ≡ f (i + k)
from d f zero i k h = absurd (not-suc-le-zero h)
from d f (suc n) i zero h = ap f (sym (add-zero i))
from d f (suc n) i (suc k) h = from d f n (suc i) k (le_of_suc-le-suc h) ∙ ap f (suc-add i k ∙ sym (add-suc i k))

-- an entry of a table; d is what stands past its end
pub entry : {A : Type 0} (d : A) (f : ℕ → A) (n k : ℕ) → k < n → get_or (values f 0 n) k d ≡ f k
entry d f n k h = from d f n 0 k h ∙ ap f (zero-add k)

pub length_values : {A : Type 0} (f : ℕ → A) (i n : ℕ) → length (values f i n) ≡ n
length_values f i zero = refl
length_values f i (suc n) = ap suc (length_values f (suc i) n)
