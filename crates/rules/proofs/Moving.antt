-- A look where what is known of the instruction is at hand, for whatever it is. For the code of a look.
-- Assumes nothing.
use Rattle.std.specs.Prelude.{Ok}
use Prim.Native.Nat.{ℕ, ◌+◌, ◌<◌}
use mathlib.Core.Path.{◌≡◌, ◌∙◌, ap}
use mathlib.Core.List.{List}
use lib.ListN.{length, get_or}
use borrow.Author.Tests.{lt-ltb}
use Rattle.tables.specs.declared.Effect.{Effect}
use Rattle.flow.specs.declared.Flow.{Flow}
use Rattle.flow.specs.declared.Flow.TheVariants.{Next}
use Rattle.flow.specs.Decode.{operands_at, flow_of}
use Rattle.rules.specs.declared.Onward.TheVariants.{Goes}
use Rattle.rules.specs.Look.{Effects, flowing, moving, on_known, acting, look_of, Known}

module _ (known : Effects) (marks body : List ℕ) (maximum offset depth op size next : ℕ) (operands : List ℕ) (within : offset < length body) (is_op : op ≡ get_or body offset 0) (is_size : size ≡ get_or marks offset 0) (is-next : next ≡ offset + size) (are : operands ≡ operands_at body offset size) where
  pub look_is : (k : Known) → known op operands ≡ k → look_of known marks body maximum offset depth ≡ on_known offset (λ e. moving offset op maximum depth e (λ out. flowing marks (length body) offset next op out (flow_of op operands))) k
  unfolding look_of acting
  look_is k e = simp (lt-ltb offset (length body) within, ← is_op, ← is_size, ← is-next, ← are, e)

  -- an instruction that goes on to the next
  pub look_next : (e : Effect) → known op operands ≡ Ok e → flow_of op operands ≡ Next → look_of known marks body maximum offset depth ≡ moving offset op maximum depth e (λ out. Ok (Goes out next))
  unfolding flowing
  look_next e k f = look_is (Ok e) k ∙ ap (λ (w : Flow). moving offset op maximum depth e (λ out. flowing marks (length body) offset next op out w)) f
