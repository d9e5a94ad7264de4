use mathlib.Core.Path.{◌≡◌}
use Prim.Native.Nat.{ℕ, ◌*◌, ◌≤◌}
use lib.IntN.{◌+ℤ◌}
use lib.Signed.{mag}
use Rattle.holdings.specs.Holdings.{signed_sum, part_in}
use Rattle.holdings.specs.Steps.{Sized, gathered_part}
use Rattle.holdings.proofs.gathering.gather.Given as goal

abbrev pub invariant-loop-i : goal.invariant-loop-i
invariant-loop-i l =
    record {
      few : l.count ≤ l.i;
      size : Sized l.gathered;
      small : mag l.base ≤ 2147483648 * l.i;
      sums : (d : ℕ) → l.h.first ≤ d → d ≤ l.h.last
          → signed_sum l.i (part_in l.year l.ledger l.h.user l.h.point d) ≡ l.base +ℤ signed_sum l.count (gathered_part l.gathered.firsts l.gathered.lasts l.gathered.amounts d);
    }
