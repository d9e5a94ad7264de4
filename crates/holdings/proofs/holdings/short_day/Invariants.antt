use mathlib.Core.Path.{◌≡◌}
use Prim.Native.Nat.{◌+◌, ◌-◌, ◌*◌, ◌≤◌}
use lib.IntN.{◌+ℤ◌}
use lib.Signed.{mag}
use Rattle.parts.specs.Limits.{line_count}
use Rattle.amounts.specs.Amounts.{span_days}
use Rattle.holdings.specs.Holdings.{signed_sum, first_short}
use Rattle.holdings.specs.Steps.{gathered_part, gathered_short}
use Rattle.holdings.proofs.holdings.short_day.Given as goal

abbrev pub invariant-lines : goal.invariant-lines
invariant-lines l =
    record {
      few : l.k ≤ l.gathered.count;
      sum : l.sum ≡ l.gathered.base +ℤ signed_sum l.k (gathered_part l.gathered.firsts l.gathered.lasts l.gathered.amounts l.day);
      small : mag l.sum ≤ 2147483648 * (line_count + l.k);
    }

abbrev pub decreases-lines : goal.decreases-lines
decreases-lines l = l.gathered.count - l.k

abbrev pub invariant-days : goal.invariant-days
invariant-days l = first_short (gathered_short l.gathered l.h.amount) (span_days l.h.first l.h.last) l.h.first ≡ first_short (gathered_short l.gathered l.h.amount) (span_days l.day l.h.last) l.day

abbrev pub decreases-days : goal.decreases-days
decreases-days l = span_days l.day l.h.last
