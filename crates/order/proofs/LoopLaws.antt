-- Laws of a loop that tests everything below a number, and of `all` over a list.
-- Assumes nothing.
use mathlib.Core.Path.{◌≡◌, refl, sym, ap, ◌∙◌}
use mathlib.Core.Bool.{Bool, ◌&&◌}
use mathlib.Core.List.{List}
use Prim.Native.Nat.{ℕ, zero, suc, ◌≤◌}
use native.Mathlib.Numerals.{add-one}
use native.Mathlib.Omega.{arith}
use lib.ListN.{get_or, length, take}
use Rattle.std.specs.List.{list_all}
use Rattle.std.proofs.lemmas.List.{take_all}
use Rattle.std.proofs.lemmas.List.Folds.{list_all_more}
use Rattle.parts.specs.Tests.{all_below}
use Rattle.parts.proofs.TestLaws.{all_none, all_more}

pub ruleset all_tested = (all_none, all_more)

-- a test of the first n elements is one of the places below n
all_front : {A : Type 0} (t : A → Bool) (xs : List A) (d : A) (n : ℕ) → n ≤ length xs → list_all t (take n xs) ≡ all_below n (λ i. t (get_or xs i d))
unfolding all_below
all_front t xs d zero h = refl
all_front t xs d (suc n) h =
    ap (λ (k : ℕ). list_all t (take k xs)) (sym (add-one n))
    ∙ list_all_more t xs n d (omega arith)
    ∙ ap (λ (b : Bool). b && t (get_or xs n d)) (all_front t xs d n (omega arith))

-- and of all n elements
pub all_places : {A : Type 0} (t : A → Bool) (xs : List A) (d : A) (n : ℕ) → length xs ≡ n → list_all t xs ≡ all_below n (λ i. t (get_or xs i d))
all_places t xs d n h = ap (list_all t) (sym (take_all n xs (omega arith))) ∙ all_front t xs d n (omega arith)
