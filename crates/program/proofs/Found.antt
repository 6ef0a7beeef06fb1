-- What the library's searches say, in the words of `table_refused` and `place_of`. Assumes nothing.
use Rattle.std.proofs.Common.{ℕ, zero, suc, ◌+◌, Bool, true, false, List, [], ◌∷◌, length, ◌≡◌, refl, sym, ap, ◌∙◌, arith}
use Rattle.std.specs.Prelude.{◌||◌, cond, eqb, get_or, Some, None}
use Rattle.std.specs.List.{list_any, position_from}
use Rattle.codes.specs.First.{first_from}
use Rattle.codes.specs.Lookup.{has_id}
use Rattle.program.specs.Refusals.{differs}

by : (b : Bool) (x : Bool) → (cond b false true || x) ≡ cond b x true
by true x = refl
by false x = refl

pub differs_list : (rows : ℕ) (others : List ℕ) → list_any (λ n. cond (eqb n rows) false true) others ≡ differs rows others
differs_list rows [] = refl
differs_list rows (n ∷ others) = by (eqb n rows) _ ∙ ap (λ (x : Bool). cond (eqb n rows) x true) (differs_list rows others)

pub first_list : (test : ℕ → Bool) (id k : ℕ) (rest : List ℕ) → ((j : ℕ) → test (k + j) ≡ eqb (get_or rest j 0) id)
    → position_from (λ n. eqb n id) k rest ≡ first_from test k (length rest)
first_list test id k [] h = refl
first_list test id k (n ∷ rest) h =
    let z : k ≡ k + 0 = omega arith in
    let e : test k ≡ eqb n id = ap test z ∙ h 0 in
    let w : k + 1 ≡ suc k = omega arith in
    rw (e, first_list test id (k + 1) rest (λ j. let y : k + 1 + j ≡ k + suc j = omega arith in ap test y ∙ h (suc j)))
    (ap (λ (m : ℕ). cond (eqb n id) (Some k) (first_from test m (length rest))) w)
