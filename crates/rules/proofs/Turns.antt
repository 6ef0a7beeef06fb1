-- The walk never runs out of its turns: each offset joins the queue at most once, so a turn for each offset suffices, and more turns give
-- the same answer. By the invariant that the turns left, and the offsets that have a depth, are together at least the offsets and the queue.
-- Assumes nothing.
use mathlib.Core.Path.{◌≡◌, refl, ◌∙◌}
use mathlib.Core.List.{List, [], ◌∷◌}
use Prim.Native.Nat.{ℕ, zero, suc, ◌+◌, ◌-◌, ◌≤◌, ◌<◌}
use native.Mathlib.Omega.{arith}
use lib.ListN.{length, get_or}
use Rattle.rules.specs.Look.{Bounded, Look}
use Rattle.rules.specs.Walk.{Outcome, stop, go, ended, follow, walk_from, walk_of, begun, count}
use Rattle.rules.proofs.Counting.{count_le, length_begun, count_begun}
use Rattle.rules.proofs.Queue.{walk_empty}
use Rattle.rules.proofs.Spread.{follow_spreads}

module _ (rule : ℕ → ℕ → Look) (n x : ℕ) (bounded : (offset depth : ℕ) → Bounded n x (rule offset depth)) where
  -- so many turns are enough from here, and so are more
  pub enough : (turns more : ℕ) (d q : List ℕ) → length d ≡ n → n + length q ≤ count d + turns → turns ≤ more → walk_from rule more d q ≡ walk_from rule turns d q
  unfolding walk_from
  enough zero more d [] l t h = walk_empty rule more d
  enough zero more d (offset ∷ q) l t h = absurd (let c = count_le d in omega arith)
  enough (suc turns) zero d q l t h = absurd (omega arith)
  enough (suc turns) (suc more) d [] l t h = refl
  enough (suc turns) (suc more) d (offset ∷ q) l t h =
      turn (rule offset (get_or d offset 0 - 1)) (bounded offset (get_or d offset 0 - 1)) (λ d' q' l' t'. enough turns more d' q' l' t' (omega arith))
    where
      turn : (L : Look) → Bounded n x L → ((d' q' : List ℕ) → length d' ≡ n → n + length q' ≤ count d' + turns → walk_from rule more d' q' ≡ walk_from rule turns d' q')
          → ended (follow d q L) (λ d' q'. walk_from rule more d' q') ≡ ended (follow d q L) (λ d' q'. walk_from rule turns d' q')
      turn L b rest = by (follow d q L) refl
        where
          by : (o : Outcome) → follow d q L ≡ o → ended o (λ d' q'. walk_from rule more d' q') ≡ ended o (λ d' q'. walk_from rule turns d' q')
          by (stop v) e = refl
          by (go d' q') e = let w = (follow_spreads n x d q L d' q' l b e).0 in rest d' q' (w.long ∙ l) (omega (arith, w.counted))

  pub turns_suffice : 0 < n → (k : ℕ) → n ≤ k → walk_from rule k (begun n) (0 ∷ []) ≡ walk_of rule n
  unfolding walk_of
  turns_suffice p k h = let c = count_begun n p in enough _ k (begun n) (0 ∷ []) (length_begun n) (omega arith) h
