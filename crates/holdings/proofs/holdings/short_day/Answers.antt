use mathlib.Core.Path.{◌≡◌, refl, sym, ap, ap₂, ◌∙◌}
use Prim.Native.Nat.{ℕ, ◌+◌, ◌*◌, ◌^◌, ◌<◌}
use native.Mathlib.Nat.{le_trans}
use lib.IntN.{ℤ, ◌+ℤ◌, +ℤ_idr, +ℤ_assoc}
use lib.Signed.{lt_z}
use mir.Syntax.{w64}
use mir.Val.{to_z}
use mir.Facts.{to_z_pos}
use Rattle.parts.specs.Limits.{line_count}
use Rattle.holdings.specs.Holdings.{signed_sum}
use Rattle.holdings.specs.declared.gathering.Gathered.{Gathered}
use Rattle.holdings.specs.Steps.{part_on, gathered_part, gathered_short}
use Rattle.holdings.proofs.SumLaws.{sum_none, sum_more, field_held, added, added_small}
use Rattle.holdings.proofs.HeldLaws.{first_none, first_hit, first_miss}
use native.Mathlib.Omega.{arith}
use Rattle.holdings.proofs.holdings.short_day.Goals as goal

-- the sum of one line more
more : (z : ℤ) (k : ℕ) (g : ℕ → ℤ) {s x : ℤ} → s ≡ z +ℤ signed_sum k g → x ≡ g k → s +ℤ x ≡ z +ℤ signed_sum (k + 1) g
more z k g p q = rw sum_more (ap₂ ◌+ℤ◌ p q ∙ +ℤ_assoc z (signed_sum k g) (g k))

pub lines-init : goal.lines-init
lines-init c =
    let base = c.args.gathered.base in
    let e = field_held base line_count c.requires.small (omega arith) in
    record {
      few = omega arith;
      sum = e ∙ sym (ap (λ (z : ℤ). base +ℤ z) (sum_none _) ∙ +ℤ_idr base);
      small = rw e (le_trans c.requires.small (omega arith));
    }

pub lines-preserved : goal.lines-preserved
lines-preserved c =
    let few : line_count + c.lines.k < 2 * line_count = omega arith in
    let e = added c.lines.sum-bits (to_z w64 c.lines.sum-bits) c.part_on-sum.result (line_count + c.lines.k) refl c.lines.invariant.small few c.part_on-sum.ensures.small in
    let small = added_small c.lines.sum-bits (to_z w64 c.lines.sum-bits) c.part_on-sum.result (line_count + c.lines.k) refl c.lines.invariant.small few c.part_on-sum.ensures.small in
    record {
      few = omega arith;
      sum = e ∙ more c.args.gathered.base c.lines.k (gathered_part c.args.gathered.firsts c.args.gathered.lasts c.args.gathered.amounts c.days.day) c.lines.invariant.sum (c.part_on-sum.ensures.value ∙ ap (part_on c.days.day) c.line.ensures);
      small = rw e (le_trans small (omega arith));
    }

pub returns-then-h-day : goal.returns-then-h-day
returns-then-h-day c =
    let past : c.args.h.last < c.days.day = omega arith in
    sym (c.days.invariant ∙ first_none _ _ _ past)

-- the sum of all lines, compared with the amount
tested : (v : Gathered) (n k d : ℕ) {s : ℤ} → s ≡ v.base +ℤ signed_sum k (gathered_part v.firsts v.lasts v.amounts d) → k ≡ v.count → n < 2 ^ 32 → lt_z s (to_z w64 n) ≡ gathered_short v n d
tested v n k d e all small =
    ap₂ lt_z (e ∙ ap (λ (m : ℕ). v.base +ℤ signed_sum m (gathered_part v.firsts v.lasts v.amounts d)) all) (to_z_pos w64 (omega arith))

pub returns-then-sum-h : goal.returns-then-sum-h
returns-then-sum-h c =
    sym (c.days.invariant ∙ first_hit _ _ _ (omega arith) (sym (tested c.args.gathered c.args.h.amount _ c.days.day c.lines.invariant.sum (omega arith) (omega arith)) ∙ c.if-sum-h.true))

pub days-preserved : goal.days-preserved
days-preserved c =
    c.days.invariant ∙ first_miss _ _ _ (omega arith) (sym (tested c.args.gathered c.args.h.amount _ c.days.day c.lines.invariant.sum (omega arith) (omega arith)) ∙ c.if-sum-h.false)
