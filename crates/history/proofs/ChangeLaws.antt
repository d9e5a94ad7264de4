-- What `apply` is held to, over plain values.
-- Assumes nothing.
use mathlib.Core.Path.{◌≡◌, refl, sym, ◌∙◌, subst}
use mathlib.Core.List.{List, []}
use Prim.Native.Nat.{ℕ, zero, suc}
use lib.ListN.{length}
use Rattle.parts.specs.Registers.{State}
use Rattle.parts.specs.Answers.{leaves}
use Rattle.history.specs.declared.changes.Change.{Change}
use Rattle.shares.specs.Batches.{Batch}
use Rattle.shares.specs.ShareLines.{shares_of, numbers_of}
use Rattle.batches.specs.ConferBatch.{batch_number, shares_after, numbers_after}
use Rattle.reckoning.specs.Calls.{Call, confer_batch, answer, after}
use Rattle.history.specs.Changes.{call_of, shares_left, numbers_left}

-- number, amount, state, shares and numbers of a call made on s
abbrev pub Applies : State → Change → List ℕ → List ℕ → List ℕ → List ℕ → ℕ → ℕ → State → List ℕ → List ℕ → Type 0
Applies s x users asked shares numbers number amount t shares-now numbers-now =
    let c = call_of x users asked (length shares) (length numbers) in
    let a = answer s c in
    (number ≡ a.number)
    × ((amount ≡ a.amount)
    × ((t ≡ after s c) × ((shares-now ≡ shares_left c a shares) × (numbers-now ≡ numbers_left c a numbers))))

-- the two lists of a batch: by its own definition, and by its answer
leaves_twice : (n : ℕ) (new old : List ℕ) → leaves n new old ≡ leaves n (leaves n new []) old
leaves_twice zero new old = refl
leaves_twice (suc n) new old = refl

module _ (s : State) (b : Batch) (shares numbers x : List ℕ) where
  abbrev made : Call
  made = confer_batch b (length shares) (length numbers)

  abbrev number : ℕ
  number = batch_number s b (length shares) (length numbers)

  pub shares_as : x ≡ shares_after s b shares numbers → x ≡ shares_left made (answer s made) shares
  shares_as e = e ∙ leaves_twice number (shares_of s b) shares

  pub numbers_as : x ≡ numbers_after s b shares numbers → x ≡ numbers_left made (answer s made) numbers
  numbers_as e = e ∙ leaves_twice number (numbers_of s b) numbers

-- the same of the call that the match found
pub found : (s : State) (x y : Change) (users asked shares numbers : List ℕ) (number amount : ℕ) (t : State) (shares-now numbers-now : List ℕ)
    → x ≡ y → Applies s y users asked shares numbers number amount t shares-now numbers-now
    → Applies s x users asked shares numbers number amount t shares-now numbers-now
found s x y users asked shares numbers number amount t shares-now numbers-now e h =
    subst (λ (z : Change). Applies s z users asked shares numbers number amount t shares-now numbers-now) (sym e) h

-- by which a batch is proved
pub ruleset batch_lists = (shares_as, numbers_as)
