-- Cases p11 and p12 of document 01.
-- Assumes nothing.
use mathlib.Core.Path.{◌≡◌, ap, ◌∙◌}
use mathlib.Core.List.{List, [], ◌∷◌}
use Prim.Native.Nat.{ℕ, ◌<◌}
use lib.ListN.{get_or, replicate}
use Rattle.amounts.specs.Ranges.{replaced, sum_below}
use Rattle.parts.specs.Registers.{State}
use Rattle.amounts.proofs.RangeLaws.{replaced_same, sum_same}
use Rattle.shares.specs.Batches.{Batch, lines_of, line_number}
use Rattle.shares.specs.Shares.{free_of_year, counted_at, sum_asked, share_if, share_of, list_of}
use Rattle.shares.specs.ShareLines.{shares_of}

-- where all n lines pass their questions, the shares are those of the asked amounts and of F
abbrev shares_for : List ℕ → ℕ → ℕ → List ℕ
shares_for amounts n F = list_of n (λ i. share_if F (sum_below n (λ j. get_or amounts j 0)) 0 (get_or amounts i 0))

module _ (s : State) (b : Batch) (amounts : List ℕ) (n F : ℕ) (asked : b.asked ≡ amounts) (lines : lines_of b ≡ n)
    (pass : (i : ℕ) → i < n → line_number s.register b i ≡ 0) (free : free_of_year s b.point ≡ F) where
  sum_is : sum_asked s.register b ≡ sum_below n (λ j. get_or amounts j 0)
  unfolding sum_asked
  sum_is =
      ap (λ (k : ℕ). sum_below k (counted_at s.register b)) lines
      ∙ sum_same (counted_at s.register b) (λ j. get_or amounts j 0) n (λ j l. rw (pass j l, asked))

  shares_are : shares_of s b ≡ shares_for amounts n F
  unfolding shares_of list_of share_of
  shares_are =
      ap (λ (k : ℕ). list_of k (share_of s b)) lines
      ∙ replaced_same (replicate n 0) 0 n (share_of s b) (λ i. share_if F (sum_below n (λ j. get_or amounts j 0)) 0 (get_or amounts i 0)) (λ i l. rw (pass i l, free, sum_is, asked))

-- (p11) "F 1,000, asked 700, 500, 300: 466, 333, 200."
pub p11 : (s : State) (b : Batch) → b.asked ≡ 700 ∷ 500 ∷ 300 ∷ [] → lines_of b ≡ 3 → ((i : ℕ) → i < 3 → line_number s.register b i ≡ 0)
    → free_of_year s b.point ≡ 1000 → shares_of s b ≡ 466 ∷ 333 ∷ 200 ∷ []
unfolding list_of replaced sum_below
p11 s b asked lines pass free = shares_are s b (700 ∷ 500 ∷ 300 ∷ []) 3 1000 asked lines pass free

-- (p12) "Asked 700, 300: in full."
pub p12 : (s : State) (b : Batch) → b.asked ≡ 700 ∷ 300 ∷ [] → lines_of b ≡ 2 → ((i : ℕ) → i < 2 → line_number s.register b i ≡ 0)
    → free_of_year s b.point ≡ 1000 → shares_of s b ≡ 700 ∷ 300 ∷ []
unfolding list_of replaced sum_below
p12 s b asked lines pass free = shares_are s b (700 ∷ 300 ∷ []) 2 1000 asked lines pass free
