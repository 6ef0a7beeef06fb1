-- How the walk of a body ends, at any sizes and rules: with numbers exactly if decoding comes to its end and the walk does; with 22 if decoding stops or
-- the walk finds 22; with 23 if it finds 23. It never runs out of turns, by the walk's own theorem, since each mark fits its body.
-- Assumes nothing.
use Rattle.std.specs.Prelude.{Ok, Err}
use Rattle.flow.specs.declared.Stop.{Stop}
use Prim.Native.Nat.{ℕ, ◌+◌, ◌*◌}
use mathlib.Core.Path.{◌≡◌, refl, ap, ◌∙◌}
use mathlib.Core.Logic.{◌⊎◌, inl, inr}
use mathlib.Core.List.{List}
use lib.ListN.{length}
use Rattle.flow.specs.Walk.{walk_by, end_of, marks_of, Decoded}
use Rattle.flow.proofs.Next.{body_fits}
use Rattle.buffers.specs.declared.Usage as told
use Rattle.buffers.specs.declared.Unwalked.{Unwalked}
use Rattle.buffers.specs.Tread.{Temps, Opens, tread_of}
use Rattle.buffers.specs.Walk.{Usage, Walked, undecodable, crowded, unfinished, walked, walk_of, used_of}
use Rattle.buffers.proofs.Theorems.{turns_suffice}
use Rattle.pool.specs.Pool.{on_decoded, body_walk}

-- decoding, then the walk
decoded_walked : (d : Decoded) (w : Walked) (numbers : List ℕ) (u : Usage) → on_decoded d w ≡ walked numbers u → (d ≡ (Ok tt)) × (w ≡ walked numbers u)
decoded_walked (Ok _) w numbers u e = (refl, e)
decoded_walked (Err (Stop.Unknown o b)) w numbers u e = cc
decoded_walked (Err (Stop.Truncated o b)) w numbers u e = cc

decoded_crowded : (d : Decoded) (w : Walked) → on_decoded d w ≡ crowded → (d ≡ (Ok tt)) × (w ≡ crowded)
decoded_crowded (Ok _) w e = (refl, e)
decoded_crowded (Err (Stop.Unknown o b)) w e = cc
decoded_crowded (Err (Stop.Truncated o b)) w e = cc

decoded_unfinished : (d : Decoded) (w : Walked) → on_decoded d w ≡ unfinished → w ≡ unfinished
decoded_unfinished (Ok _) w e = e
decoded_unfinished (Err (Stop.Unknown o b)) w e = cc
decoded_unfinished (Err (Stop.Truncated o b)) w e = cc

decoded_undecodable : (d : Decoded) (w : Walked) → on_decoded d w ≡ undecodable → (d ≡ (Ok tt) → ⊥) ⊎ ((d ≡ (Ok tt)) × (w ≡ undecodable))
decoded_undecodable (Ok _) w e = inr (refl, e)
decoded_undecodable (Err (Stop.Unknown o b)) w e = inl (λ x. cc)
decoded_undecodable (Err (Stop.Truncated o b)) w e = inl (λ x. cc)

module _ (sizes : ℕ → ℕ) (temps : Temps) (opens : Opens) (pool : ℕ) (body : List ℕ) where
  -- the walk alone
  abbrev alone : Walked
  alone = walk_of (tread_of temps opens (marks_of sizes body) body pool) (2 * length body + 2) pool (length body + 1)

  pub body_walked : (numbers : List ℕ) (u : Usage) → body_walk sizes temps opens pool body ≡ walked numbers u
      → (end_of (walk_by sizes body 0) ≡ (Ok tt)) × (alone ≡ walked numbers u)
  unfolding body_walk
  body_walked numbers u e = decoded_walked (end_of (walk_by sizes body 0)) alone numbers u e

  pub body_crowded : body_walk sizes temps opens pool body ≡ crowded → (end_of (walk_by sizes body 0) ≡ (Ok tt)) × (alone ≡ crowded)
  unfolding body_walk
  body_crowded e = decoded_crowded (end_of (walk_by sizes body 0)) alone e

  pub crowded_body : end_of (walk_by sizes body 0) ≡ (Ok tt) → alone ≡ crowded → body_walk sizes temps opens pool body ≡ crowded
  unfolding body_walk
  crowded_body d e = ap (λ (o : Decoded). on_decoded o alone) d ∙ e

  pub body_undecodable : body_walk sizes temps opens pool body ≡ undecodable
      → (end_of (walk_by sizes body 0) ≡ (Ok tt) → ⊥) ⊎ ((end_of (walk_by sizes body 0) ≡ (Ok tt)) × (alone ≡ undecodable))
  unfolding body_walk
  body_undecodable e = decoded_undecodable (end_of (walk_by sizes body 0)) alone e

  pub body_finished : body_walk sizes temps opens pool body ≡ unfinished → ⊥
  unfolding body_walk
  body_finished e =
      turns_suffice temps opens (marks_of sizes body) body pool (2 * length body + 2) (body_fits sizes body) (decoded_unfinished (end_of (walk_by sizes body 0)) alone e)

-- what a walk answers, back to its outcome
pub used_walked : (w : Walked) (usage : told.Usage) → used_of w ≡ Ok usage → (numbers : List ℕ) × (u : Usage) × (w ≡ walked numbers u)
used_walked undecodable usage e = cc
used_walked crowded usage e = cc
used_walked unfinished usage e = cc
used_walked (walked numbers u) usage e = (numbers, u, refl)

pub used_crowded : (w : Walked) → used_of w ≡ Err Unwalked.QueueFull → w ≡ crowded
used_crowded undecodable e = cc
used_crowded crowded e = refl
used_crowded unfinished e = cc
used_crowded (walked numbers u) e = cc

pub used_undecodable : (w : Walked) → (w ≡ unfinished → ⊥) → used_of w ≡ Err Unwalked.Undecodable → w ≡ undecodable
used_undecodable undecodable n e = refl
used_undecodable crowded n e = cc
used_undecodable unfinished n e = absurd (n refl)
used_undecodable (walked numbers u) n e = cc
