-- `share_out` meets its contract. The loop's invariant: the first i shares and numbers are there, and the other numbers are those of
-- the questions still.
-- Assumes nothing.
use mathlib.Core.Path.{◌≡◌}
use Rattle.amounts.specs.Ranges.{replaced}
use Rattle.shares.specs.Steps.{share_in, number_in}
use Rattle.shares.proofs.sharing.share_out.Given as goal

abbrev pub invariant-loop-i : goal.invariant-loop-i
invariant-loop-i l = (l.shares ≡ replaced l.initial.shares 0 l.i (share_in l.free l.sum l.initial.numbers l.asked))
    × (l.numbers ≡ replaced l.initial.numbers 0 l.i (number_in l.free l.sum l.initial.numbers l.asked))
