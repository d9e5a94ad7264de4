use native.Mathlib.Omega.{arith}
use Rattle.turning.proofs.Kept.{settled_is}
use Rattle.turning.proofs.turning.settle_accounts.Goals as goal

pub returns : goal.returns
returns c =
    settled_is c.args.accounts.now c.loop-a.accounts c.told-accounts c.loop-a.invariant.size
    (λ i h. c.loop-a.invariant.settled i (omega arith))
