-- One tread of the code is the definition's, by the cases of buffers: an instruction that is plain, and any other.
-- Assumes nothing.
use Rattle.codes.specs.First.{Place}
use Prim.Native.Nat.{ℕ, ◌+◌, ◌<◌}
use mathlib.Core.Path.{◌≡◌, refl, ◌∙◌, ap, sym}
use mathlib.Core.Bool.{true}
use mathlib.Core.List.{List}
use lib.ListN.{length, get_or}
use Rattle.tables.specs.declared.TempEffect.{TempEffect}
use Rattle.tables.specs.declared.Move.{Move}
use Rattle.tables.specs.Packed.{move_in, temp_in, plain_in, effect_in}
use Rattle.tables.specs.Stored.{plain_fixed}
use Rattle.flow.specs.Decode.{operands_at, flow_of}
use Rattle.flow.proofs.Next.{flow_next}
use Rattle.buffers.specs.declared.Way.{Way}
use Rattle.buffers.specs.Tread.{Temps, Opens, sum_past, flowing, bounded, treads, tread_of}
use Rattle.buffers.proofs.Cases.{flowing_next, tread_acts, tread_bounded, tread_opens}
use Rattle.callees.specs.Callees.{temps_by, opens_by}
use Rattle.callees.specs.Laws.{temps_fixed, opens_fixed, opens_le}
use Rattle.pool.specs.Plain.{PlainGoesOn}
use Rattle.pool.specs.Columns.{Fitting}
use Rattle.pool.proofs.Walking.{Lawful}

module _ (words : List ℕ) (find row : ℕ → Place) (flags types blocks marks body : List ℕ) (pool offset held op size wide : ℕ)
    (inside : offset < length body) (is_op : op ≡ get_or body offset 0) (is_size : size ≡ get_or marks offset 0) (is_IsWide : wide ≡ size) where
  abbrev temps : Temps
  temps = temps_by (move_in words) (temp_in words) find flags

  abbrev opens : Opens
  opens = opens_by (move_in words) row types blocks

  -- an instruction whose effect is known
  pub tread_is : (operands : List ℕ) (effect : TempEffect) (cell sum : ℕ) (way end : Way) → operands ≡ operands_at body offset size → effect ≡ temps op operands → cell ≡ opens op operands
      → sum ≡ sum_past effect held → way ≡ flowing marks (length body) (offset + wide) (flow_of op operands) → end ≡ bounded pool sum way
      → treads sum cell end ≡ tread_of temps opens marks body pool offset held
  tread_is operands effect cell sum way end eo ee ec es ew eb =
      ap (treads sum cell) eb
      ∙ tread_acts temps opens marks body pool offset held op size operands effect cell sum way inside is_op is_size eo ee ec es
      (ew ∙ ap (λ (n : ℕ). flowing marks (length body) (offset + n) (flow_of op operands)) is_IsWide)

  pub tread_plain : PlainGoesOn words → plain_in words op ≡ true → (effect : TempEffect) (sum : ℕ) (end : Way) → effect ≡ temp_in words op → sum ≡ sum_past effect held → end ≡ bounded pool sum (Way.Goes (offset + wide))
      → treads sum 0 end ≡ tread_of temps opens marks body pool offset held
  tread_plain goes p effect sum end ee es eb =
      let operands = operands_at body offset size in
      let g = goes op p in
      tread_is operands effect 0 sum (Way.Goes (offset + wide)) end refl
      (ee ∙ sym (temps_fixed (move_in words) op (effect_in words op) (plain_fixed words op p) operands (temp_in words) find flags))
      (sym (opens_fixed (move_in words) op (effect_in words op) (plain_fixed words op p) operands row types blocks g.1))
      es
      (sym (flowing_next marks (length body) (offset + wide)) ∙ sym (ap (flowing marks (length body) (offset + wide)) (flow_next op operands g.0)))
      eb

-- the rules of one body lead on within it and within the pool, and open one of 128 functions
pub tread_lawful : (moves : ℕ → Move) (temps : ℕ → TempEffect) (find row : ℕ → Place) (flags types blocks marks body : List ℕ) (pool : ℕ) → Fitting marks body
    → Lawful (tread_of (temps_by moves temps find flags) (opens_by moves row types blocks) marks body pool) pool (length body + 1)
tread_lawful moves temps find row flags types blocks marks body pool fits =
    record {
      leads = tread_bounded (temps_by moves temps find flags) (opens_by moves row types blocks) marks body pool fits;
      opens = λ offset held. tread_opens (temps_by moves temps find flags) (opens_by moves row types blocks) marks body pool offset held 128 (opens_le moves row types blocks);
    }
