-- A look by what is known of its instruction: a plain one has the effect of the table and goes on to the next, any other has the effect that its
-- sources give it, or none.
-- Assumes nothing.
use Rattle.std.specs.Prelude.{Ok, Err}
use Prim.Native.Nat.{ℕ, ◌+◌, ◌<◌}
use native.Mathlib.Omega.{arith}
use mathlib.Core.Path.{◌≡◌, refl, ◌∙◌, ap, sym}
use mathlib.Core.Bool.{true}
use mathlib.Core.List.{List}
use lib.ListN.{length, get_or}
use Rattle.tables.specs.declared.Effect.{Effect}
use Rattle.tables.specs.Packed.{plain_in, effect_in}
use Rattle.tables.specs.Stored.{GoesOn, plain_fixed}
use Rattle.flow.specs.Decode.{operands_at, flow_of}
use Rattle.flow.proofs.Next.{flow_next}
use Rattle.rules.specs.declared.Onward.TheVariants.{Goes}
use Rattle.rules.specs.declared.Violation.{Violation}
use Rattle.rules.specs.Look.{Known, Look, on_known, moving, flowing, look_of}
use Rattle.rules.proofs.Moving.{look_is, look_next}
use Rattle.effects.specs.declared.Sources.{Sources}
use Rattle.effects.specs.Stated.{known_in}
use Rattle.effects.proofs.Laws.{known_fixed}
use Rattle.stack.specs.Moves.{effect_at, Moved, on_moved}

-- 3 and 4, or the effect with which a look goes on
pub known_stops : (offset : ℕ) (go : Effect → Look) (k : Known) (v : Violation) → effect_at offset k ≡ Err v → on_known offset go k ≡ Err v
known_stops offset go (Ok e) v w = absurd (let z : ◌≡◌ {A = ℕ} 0 1 = cc in omega arith)
known_stops offset go (Err unknown) v w = cc

pub known_goes : (offset : ℕ) (go : Effect → Look) (k : Known) (e : Effect) → effect_at offset k ≡ Ok e → on_known offset go k ≡ go e
known_goes offset go (Ok f) e w = ap go (let u : f ≡ e = cc in u)
known_goes offset go (Err unknown) e w = absurd (let z : ◌≡◌ {A = ℕ} 0 1 = cc in omega arith)

module _ (s : Sources) (marks body : List ℕ) (maximum offset depth size next : ℕ) (within : offset < length body) (is_size : size ≡ get_or marks offset 0) (is_next : next ≡ offset + size) where
  abbrev op : ℕ
  op = get_or body offset 0

  abbrev seen : Look
  seen = look_of (known_in s) marks body maximum offset depth

  pub plain_look : (effect : Effect) → GoesOn s.words.now → plain_in s.words.now op ≡ true → effect ≡ effect_in s.words.now op → seen ≡ moving offset op maximum depth effect (λ out. Ok (Goes out next))
  plain_look effect g p e =
      let k = known_fixed _ _ _ _ _ (operands_at body offset size) _ (plain_fixed s.words.now op p) ∙ ap Ok (sym e) in
      look_next _ _ body _ _ _ _ size _ _ within refl is_size is_next refl _ k (flow_next _ _ (g _ p))

  module _ (operands : List ℕ) (are : operands ≡ operands_at body offset size) where
    abbrev flowed : ℕ → Look
    flowed out = flowing marks (length body) offset next op out (flow_of op operands)

    pub look_stops : (v : Violation) → effect_at offset (known_in s op operands) ≡ Err v → seen ≡ Err v
    look_stops v e = look_is _ _ body _ _ _ _ size _ _ within refl is_size is_next are _ refl ∙ known_stops offset _ _ v e

    pub look_moved : (effect : Effect) (moved : Moved) → effect_at offset (known_in s op operands) ≡ Ok effect → ((go : ℕ → Look) → moving offset op maximum depth effect go ≡ on_moved go moved) → seen ≡ on_moved (λ out. flowed out) moved
    look_moved effect moved e m = look_is _ _ body _ _ _ _ size _ _ within refl is_size is_next are _ refl ∙ known_goes offset _ _ effect e ∙ m _
