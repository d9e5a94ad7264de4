-- Bytes read in parts are read in order.
-- Assumes nothing.
use Rattle.std.proofs.Common.{◌≡◌, ◌+◌, ◌++◌, List, ℕ, Option, take, drop, sym, ap, ◌∙◌, subst}
use Rattle.std.proofs.Math.Seq.{take-add}
use Rattle.std.specs.Io.KnownBytes.{Consumes}
use Rattle.std.proofs.KnownBytes.{Consumes-trans}

-- a read of n bytes behind the first so many
pub reads_on : (a b c : Option (List ℕ)) (old new : List ℕ) (at n : ℕ) → take at new ≡ take at old
    → Consumes a b (take at old) → Consumes b c (take n (drop at new)) → Consumes a c (take (at + n) new)
reads_on a b c old new at n kept first next =
    subst (Consumes a c) (sym (take-add at n new ∙ ap (λ l. l ++ take n (drop at new)) kept)) (Consumes-trans a b c _ _ first next)
