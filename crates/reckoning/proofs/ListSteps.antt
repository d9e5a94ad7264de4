-- Register and reckoning agree again after each call, and so after every list.
-- Assumes nothing.
use mathlib.Core.Path.{◌≡◌, sym, ap, ◌∙◌, subst}
use mathlib.Core.List.{List, [], ◌∷◌}
use Prim.Native.Nat.{ℕ, ◌<◌}
use native.Mathlib.Decide.{ℕ_discrete}
use native.Mathlib.Omega.{arith}
use lib.ListN.{get_or}
use Rattle.parts.specs.Registers.{State}
use Rattle.parts.specs.Answers.{leaves}
use Rattle.parts.proofs.AnswerLaws.{leaves_new, leaves_old}
use Rattle.shares.specs.Batches.{Batch, lines_of}
use Rattle.shares.specs.ShareLines.{shares_of}
use Rattle.shares.specs.Shares.{share_of}
use Rattle.batches.specs.ConferBatch.{batch_number, batch_after}
use Rattle.batches.proofs.AnswerLaws.{accepted_after}
use Rattle.shares.proofs.ShareLaws.{list_at}
use Rattle.batches.proofs.BookedLaws.{bookable_line}
use Rattle.reckoning.specs.Calls.{Call, open_point, place_guarantee, request_capacity, confer_batch, cede_capacity, turn_year, answer, after, after_all, answers}
use Rattle.reckoning.specs.Reckoning.{Reckoning, entered, enter, reckon}
use Rattle.reckoning.proofs.Agreement.{Agree}
use Rattle.reckoning.proofs.GrantSteps.{agree_request}
use Rattle.reckoning.proofs.FilingSteps.{agree_open, agree_place, agree_turn}
use Rattle.reckoning.proofs.CessionSteps.{agree_cession}
use Rattle.reckoning.proofs.BatchSteps.{lines_agree}
use Rattle.reckoning.proofs.CallLaws.{unaltered}

-- a batch, by the shares that it answers
agree_batch : (s : State) (k : Reckoning) (b : Batch) (m n : ℕ) → Agree s k → batch_number s b m n ≡ 0
    → Agree (batch_after s b m n) (entered k (confer_batch b m n) (answer s (confer_batch b m n)))
unfolding shares_of
agree_batch s k b m n a z =
    subst (λ (t : State). Agree t (entered k (confer_batch b m n) (answer s (confer_batch b m n)))) (sym (accepted_after s b m n z))
    (lines_agree s k b (leaves (batch_number s b m n) (shares_of s b) []) a shares (bookable_line s b m n a.sound z) (lines_of b) (omega arith))
  where
    shares : (i : ℕ) → i < lines_of b → get_or (leaves (batch_number s b m n) (shares_of s b) []) i 0 ≡ share_of s b i
    shares i h =
        ap (λ (l : List ℕ). get_or l i 0) (leaves_new (batch_number s b m n) (shares_of s b) [] z) ∙ list_at (lines_of b) (share_of s b) i h

-- a call answered 0
accepted_agrees : (s : State) (k : Reckoning) (c : Call) → Agree s k → (answer s c).number ≡ 0 → Agree (after s c) (entered k c (answer s c))
accepted_agrees s k (open_point p kind total rate) a z = agree_open s k p kind total rate a z
accepted_agrees s k (place_guarantee u g) a z = agree_place s k u g a z
accepted_agrees s k (request_capacity q) a z = agree_request s k q a z
accepted_agrees s k (confer_batch b m n) a z = agree_batch s k b m n a z
accepted_agrees s k (cede_capacity c) a z = agree_cession s k c a z
accepted_agrees s k (turn_year y) a z = agree_turn s k y a z

-- any call
call_agrees : (s : State) (k : Reckoning) (c : Call) → Agree s k → Agree (after s c) (enter k c (answer s c))
call_agrees s k c a = go (ℕ_discrete (answer s c).number 0)
  where
    go : Dec ((answer s c).number ≡ 0) → Agree (after s c) (enter k c (answer s c))
    go (yes z) =
        subst (Agree (after s c)) (sym (leaves_new (answer s c).number (entered k c (answer s c)) k z)) (accepted_agrees s k c a z)
    go (no n) =
        subst (Agree (after s c)) (sym (leaves_old (answer s c).number (entered k c (answer s c)) k n))
        (subst (λ (t : State). Agree t k) (unaltered s c n) a)

-- a list
pub list_agrees : (s : State) (k : Reckoning) (cs : List Call) → Agree s k → Agree (after_all s cs) (reckon k cs (answers s cs))
list_agrees s k [] a = a
list_agrees s k (c ∷ cs) a = list_agrees (after s c) (enter k c (answer s c)) cs (call_agrees s k c a)
