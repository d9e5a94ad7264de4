-- Every call keeps the invariant, and so does every list.
-- Assumes nothing.
use mathlib.Core.Path.{◌≡◌, sym, subst}
use mathlib.Core.List.{List, [], ◌∷◌}
use native.Mathlib.Decide.{ℕ_discrete}
use Rattle.parts.specs.Registers.{State}
use Rattle.parts.proofs.AnswerLaws.{leaves_new, leaves_old}
use Rattle.register.specs.Sound.{Sound}
use Rattle.expected.specs.Calls.{Call, open_point, place_guarantee, request_capacity, confer_batch, cede_capacity, turn_year, answer, done, after, after_all, answers}
use Rattle.expected.specs.Reckoning.{Reckoning, entered, enter, reckon}
use Rattle.expected.proofs.Invariant.{Kept}
use Rattle.expected.proofs.CallLaws.{altered, unaltered, call_sound}
use Rattle.expected.proofs.FilingSteps.{agree_open, agree_place, agree_turn}
use Rattle.expected.proofs.CessionSteps.{agree_cession}
use Rattle.reckoning.proofs.BackingSteps.{opened_backed, placed_backed, turned_backed, backed_cession}
use Rattle.expected.proofs.HeldSteps.{held_open, held_place, held_turn, held_cession}
use Rattle.expected.proofs.ConferralSteps.{request_kept, batch_kept}

-- ---- a call answered 0, by what it does
module _ (s : State) (k : Reckoning) (c : Call) (w : Kept s k) (z : (answer s c).number ≡ 0) where
  does_sound : Sound (done s c)
  does_sound = subst Sound (altered s c z) (call_sound s c w.agrees.sound)

  by_what_it_does : Kept (done s c) (entered k c (answer s c)) → Kept (after s c) (entered k c (answer s c))
  by_what_it_does t = subst (λ (x : State). Kept x (entered k c (answer s c))) (sym (altered s c z)) t

accepted_keeps : (s : State) (k : Reckoning) (c : Call) → Kept s k → (answer s c).number ≡ 0 → Kept (after s c) (entered k c (answer s c))
accepted_keeps s k (open_point p kind total rate) w z =
    let c = open_point p kind total rate in
    by_what_it_does s k c w z
    (record {
      agrees = agree_open s k p kind total rate w.agrees z (does_sound s k c w z);
      backed = opened_backed s p kind total rate w.agrees.sound z w.backed;
      held = held_open s k p kind total rate w.held;
    })
accepted_keeps s k (place_guarantee u g) w z =
    by_what_it_does s k (place_guarantee u g) w z
    (record {
      agrees = agree_place s k u g w.agrees z (does_sound s k (place_guarantee u g) w z);
      backed = placed_backed s u g w.backed;
      held = held_place s k u g w.held;
    })
accepted_keeps s k (request_capacity q) w z = request_kept s k q w z
accepted_keeps s k (confer_batch b m n) w z = by_what_it_does s k (confer_batch b m n) w z (batch_kept s k b m n w z)
accepted_keeps s k (cede_capacity c) w z =
    record {
      agrees = agree_cession s k c w.agrees z;
      backed = backed_cession s c w.agrees.sound z w.backed;
      held = held_cession s k c w.agrees w.backed z w.held;
    }
accepted_keeps s k (turn_year y) w z =
    by_what_it_does s k (turn_year y) w z
    (record {
      agrees = agree_turn s k y w.agrees z (does_sound s k (turn_year y) w z);
      backed = turned_backed s y w.agrees.sound;
      held = held_turn s k y;
    })

-- ---- any call, and any list
pub kept_call : (s : State) (k : Reckoning) (c : Call) → Kept s k → Kept (after s c) (enter k c (answer s c))
kept_call s k c w = go (ℕ_discrete (answer s c).number 0)
  where
    go : Dec ((answer s c).number ≡ 0) → Kept (after s c) (enter k c (answer s c))
    go (yes z) =
        subst (Kept (after s c)) (sym (leaves_new (answer s c).number (entered k c (answer s c)) k z)) (accepted_keeps s k c w z)
    go (no n) =
        subst (Kept (after s c)) (sym (leaves_old (answer s c).number (entered k c (answer s c)) k n))
        (subst (λ (t : State). Kept t k) (unaltered s c n) w)

pub kept_list : (s : State) (k : Reckoning) (cs : List Call) → Kept s k → Kept (after_all s cs) (reckon k cs (answers s cs))
kept_list s k [] w = w
kept_list s k (c ∷ cs) w = kept_list (after s c) (enter k c (answer s c)) cs (kept_call s k c w)
