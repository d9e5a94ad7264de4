use mathlib.Core.Path.{◌≡◌, refl, sym, ap, ap₂, ◌∙◌, subst}
use Prim.Native.Nat.{ℕ, ◌+◌, ◌*◌, ◌<◌}
use native.Mathlib.Nat.{le_trans}
use lib.IntN.{ℤ, pos, ◌+ℤ◌}
use mir.Syntax.{w32, w64}
use mir.Val.{to_z, of_z}
use mir.Facts.{to_z-of_z}
use borrow.Author.Rules.{rules}
use lib.ListN.{set, length, length-set}
use Rattle.parts.specs.Limits.{line_count}
use Rattle.holdings.specs.Holdings.{signed_sum, part_in}
use Rattle.holdings.specs.Steps.{Sized, gathered_part}
use Rattle.holdings.specs.declared.gathering.Gathered.{Gathered}
use Rattle.holdings.proofs.SumLaws.{sum_none, sum_front, added, added_small}
use Rattle.holdings.proofs.GatherLaws.{missing_part, one_gathered, one_left}
use native.Mathlib.Omega.{arith}
use Rattle.holdings.proofs.gathering.gather.Goals as goal
use Rattle.holdings.proofs.gathering.gather.Goals.{then-is_gathered, else-is_gathered}

pub loop-i-init : goal.loop-i-init
loop-i-init c =
    record {
      few = omega arith;
      size = (refl, refl, refl);
      small = omega arith;
      sums = λ d f t. sum_none _ ∙ sym (ap (λ (z : ℤ). pos 0 +ℤ z) (sum_none _));
    }

pub loop-i-preserved : goal.loop-i-preserved
loop-i-preserved c =
    let v = c.loop-i.gathered in
    let n = c.loop-i.count in
    let held = c.loop-i.base-bits in
    let z = to_z w64 held in
    let w = c.loop-i.invariant in
    let few : c.loop-i.i < 2 * line_count = omega arith in
    elim c.if-is_gathered.branch [
      | then-is_gathered t ↦
          let p = t.part_throughout-base in
          let back : to_z w32 (of_z w32 t.gathered_line-c.result.amount) ≡ t.gathered_line-c.result.amount = search (rules, to_z-of_z) in
          let e = t.base-is ∙ added held z p.result c.loop-i.i refl w.small few p.ensures.small in
          record {
            few = omega (arith, t.places-count.ensures.most, t.count-is);
            size = (
              ap (λ (u : Gathered). length u.firsts) t.gathered-is ∙ length-set v.firsts n _ ∙ w.size.0,
              ap (λ (u : Gathered). length u.lasts) t.gathered-is ∙ length-set v.lasts n _ ∙ w.size.1,
              ap (λ (u : Gathered). length u.amounts) t.gathered-is ∙ length-set v.amounts n _ ∙ w.size.2,
            );
            small = rw e (added_small held z p.result c.loop-i.i refl w.small few p.ensures.small);
            sums =
                one_gathered c.args.year c.args.ledger.now c.args.h c.loop-i.i c.bounds_of-bounds.result c.line_at-l.result c.bounds_of-bounds.ensures c.line_at-l.ensures v.firsts v.lasts v.amounts n z w.sums
                t.gathered_line-c.result (omega (arith, w.size.0), omega (arith, w.size.1), omega (arith, w.size.2)) _ _ _ _ _ (sym t.if-is_gathered.ensures) t.gathered_line-c.ensures
                (ap (λ (u : Gathered). u.firsts) t.gathered-is) (ap (λ (u : Gathered). u.lasts) t.gathered-is) (ap (λ (u : Gathered). u.amounts) t.gathered-is ∙ ap (λ (a : ℤ). set v.amounts n a) back)
                (t.count-is ∙ ap (λ (k : ℕ). n + k) t.places-count.ensures.value)
                (e ∙ ap (λ (y : ℤ). z +ℤ y) p.ensures.value);
          }
      | else-is_gathered t ↦
          record {
            few = omega (arith, t.count-is);
            size = subst Sized (sym t.gathered-is) w.size;
            small = rw t.base-is (le_trans w.small (omega arith));
            sums = λ d from to.
                one_left c.args.year c.args.ledger.now c.args.h c.loop-i.i c.bounds_of-bounds.result c.line_at-l.result c.bounds_of-bounds.ensures c.line_at-l.ensures v.firsts v.lasts v.amounts n z w.sums
                (sym t.if-is_gathered.ensures) d from to
                ∙ sym (ap₂ ◌+ℤ◌ t.base-is (ap₂ (λ (k : ℕ) (u : Gathered). signed_sum k (gathered_part u.firsts u.lasts u.amounts d)) t.count-is t.gathered-is));
          }
    ]

pub returns : goal.returns
returns c =
    let w = c.loop-i.invariant in
    record {
      few = omega (arith, w.few, c.min-there.ensures);
      size = w.size;
      small = le_trans w.small (omega (arith, c.min-there.ensures));
      sums = λ d from to.
          sum_front c.args.n c.loop-i.i (part_in c.args.year c.args.ledger.now c.args.h.user c.args.h.point d) (omega (arith, c.min-there.ensures))
          (λ k l u. missing_part c.args.year c.args.ledger.now c.args.h.user c.args.h.point d k (omega (arith, c.min-there.ensures)))
          ∙ w.sums d from to;
    }
