-- Decimal numbers, and texts stored one after the other.
-- Assumes nothing.
use Prim.Native.Nat.{ℕ, zero, suc, ◌+◌, ◌-◌, ◌/◌, ◌≤◌, ◌<◌}
use mathlib.Core.Path.{◌≡◌, refl, ap, sym, ◌∙◌}
use mathlib.Core.List.{List, [], ◌∷◌, ◌++◌, append_assoc}
use mathlib.Core.Bool.{Bool, true, false, cond, ◌||◌, false≢true, or-true}
use native.Mathlib.Nat.{add-zero, add-suc, suc-add}
use native.Mathlib.Numerals.{sub-one}
use native.Mathlib.Omega.{arith}
use lib.ListN.{length, set, length-append}
use lib.Dec.{eqb, ltb}
use lib.Seq.{sets}
use borrow.Author.Tests.{lt-ltb, le-ltb, eqb-true}
use Rattle.printing.specs.Lines.{last_digit, decimal_in, ended_by, answer_line, bytes_with, place_after}

-- a number of one digit, or for which there is room for one only
abbrev pub is_last : ℕ → ℕ → Bool
is_last k n = ltb n 10 || eqb k 0

pub decimal_last : (k n : ℕ) → is_last k n ≡ true → decimal_in k n ≡ last_digit n ∷ []
unfolding decimal_in
decimal_last zero n h = refl
decimal_last (suc k) n h = go (ltb n 10) h
  where
    go : (t : Bool) → (t || eqb (suc k) 0) ≡ true → cond t [] (decimal_in k (n / 10)) ++ (last_digit n ∷ []) ≡ last_digit n ∷ []
    go true e = refl
    go false e = absurd (omega (arith, eqb-true (suc k) 0 e))

-- any other
pub more_room : (k n : ℕ) → is_last k n ≡ false → 1 ≤ k
more_room zero n h = absurd (false≢true (sym h ∙ or-true (ltb n 10)))
more_room (suc k) n h = omega arith

pub decimal_more : (k n : ℕ) → is_last k n ≡ false → decimal_in k n ≡ decimal_in (k - 1) (n / 10) ++ (last_digit n ∷ [])
unfolding decimal_in
decimal_more zero n h = absurd (false≢true (sym h ∙ or-true (ltb n 10)))
decimal_more (suc k) n h = go (ltb n 10) h
  where
    go : (t : Bool) → (t || eqb (suc k) 0) ≡ false
        → cond t [] (decimal_in k (n / 10)) ++ (last_digit n ∷ []) ≡ decimal_in (suc k - 1) (n / 10) ++ (last_digit n ∷ [])
    go true e = absurd (false≢true (sym e))
    go false e = rw (sub-one (suc k))

pub decimal_length : (k n : ℕ) → length (decimal_in k n) ≤ k + 1
unfolding decimal_in
decimal_length zero n = omega arith
decimal_length (suc k) n = go (ltb n 10) (decimal_length k (n / 10))
  where
    go : (t : Bool) → length (decimal_in k (n / 10)) ≤ k + 1 → length (cond t [] (decimal_in k (n / 10)) ++ (last_digit n ∷ [])) ≤ suc k + 1
    go true h = omega arith
    go false h = simp length-append (omega arith)

-- stores of two texts, one after the other
pub sets_append : (l : List ℕ) (i : ℕ) (s t : List ℕ) → sets l i (s ++ t) ≡ sets (sets l i s) (i + length s) t
sets_append l i [] t = rw (add-zero i)
sets_append l i (x ∷ s) t = sets_append (set l i x) (suc i) s t ∙ rw (suc-add i (length s), add-suc i (length s))

-- a text after a text
pub then_text : (o : List ℕ) {o' o'' : List ℕ} (at p : ℕ) {r : ℕ} (s t : List ℕ) → p ≡ at + length s → o' ≡ sets o at s → r ≡ p + length t → o'' ≡ sets o' p t
    → (r ≡ at + length (s ++ t)) × (o'' ≡ sets o at (s ++ t))
then_text o at p s t ep eo er es = (simp (length-append, er, ep) (omega arith), es ∙ rw (eo, ep, sets_append o at s t))

-- a byte after a text
pub then_byte : (o : List ℕ) {o' o'' : List ℕ} (at : ℕ) (p : ℕ) {r : ℕ} (s : List ℕ) (b b' : ℕ) → p ≡ at + length s → o' ≡ sets o at s → r ≡ p + 1 → o'' ≡ set o' p b' → b' ≡ b
    → (r ≡ at + length (s ++ (b ∷ []))) × (o'' ≡ sets o at (s ++ (b ∷ [])))
then_byte o {o'} at p s b b' ep eo er es eb = then_text o at p s (b ∷ []) ep eo er (es ∙ ap (set o' p) eb)

-- one byte alone
pub one_byte : (o : List ℕ) {o' : List ℕ} (at : ℕ) {r : ℕ} (b b' : ℕ) {s : List ℕ} → s ≡ b ∷ [] → r ≡ at + 1 → o' ≡ set o at b' → b' ≡ b
    → (r ≡ at + length s) × (o' ≡ sets o at s)
one_byte o at b b' es er eo eb = (rw es er, rw (es, ← eb) eo)

-- a number and the byte that ends it
pub number_written : (o : List ℕ) {o' o'' : List ℕ} (at p : ℕ) {r : ℕ} (n end : ℕ) → p ≡ at + length (decimal_in 9 n) → o' ≡ sets o at (decimal_in 9 n) → r ≡ p + 1 → o'' ≡ set o' p end
    → (r ≡ at + length (ended_by n end)) × (o'' ≡ sets o at (ended_by n end)) × (r ≤ at + 11)
unfolding ended_by
number_written o at p n end ep eo er es =
    let w = then_byte o at p (decimal_in 9 n) end end ep eo er es refl in
    (w.0, w.1, omega (arith, decimal_length 9 n))

-- three of them
pub line_written : (o : List ℕ) {o₁ o₂ o₃ : List ℕ} (at a b : ℕ) {r : ℕ} (p n m : ℕ)
    → a ≡ at + length (ended_by p 32) → o₁ ≡ sets o at (ended_by p 32)
    → b ≡ a + length (ended_by n 32) → o₂ ≡ sets o₁ a (ended_by n 32)
    → r ≡ b + length (ended_by m 10) → o₃ ≡ sets o₂ b (ended_by m 10)
    → (r ≡ at + length (answer_line p n m)) × (o₃ ≡ sets o at (answer_line p n m))
unfolding answer_line
line_written o at a b p n m ea e₁ eb e₂ er e₃ =
    let w = then_text o at a (ended_by p 32) (ended_by n 32) ea e₁ eb e₂ in
    rw (← append_assoc (ended_by p 32) (ended_by n 32) (ended_by m 10)) (then_text o at b (ended_by p 32 ++ ended_by n 32) (ended_by m 10) w.0 w.1 er e₃)

-- a line is put where there is room for the longest one, and else nothing
module _ (out : List ℕ) (at : ℕ) (text : List ℕ) where
  pub place_kept : length out < at + 33 → place_after out at text ≡ at
  unfolding place_after
  place_kept h = rw (lt-ltb (length out) (at + 33) h)

  pub bytes_kept : length out < at + 33 → bytes_with out at text ≡ out
  unfolding bytes_with
  bytes_kept h = rw (lt-ltb (length out) (at + 33) h)

  pub place_put : at + 33 ≤ length out → place_after out at text ≡ at + length text
  unfolding place_after
  place_put h = rw (le-ltb (length out) (at + 33) h)

  pub bytes_put : at + 33 ≤ length out → bytes_with out at text ≡ sets out at text
  unfolding bytes_with
  bytes_put h = rw (le-ltb (length out) (at + 33) h)

-- by which it is proved, on each way out of the code
pub ruleset put_or_kept = (place_kept, bytes_kept, place_put, bytes_put)
