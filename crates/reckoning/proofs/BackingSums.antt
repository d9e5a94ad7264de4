-- Sums over points and gas-days: what holdings are charged, and how the charge grows with what is held.
-- Assumes nothing.
use mathlib.Core.Path.{◌≡◌, refl, sym, ap, ◌∙◌, subst}
use mathlib.Core.Bool.{Bool, true, false, cond, ◌&&◌}
use mathlib.Core.Logic.{⊎_elim, ◌⊎◌}
use Prim.Native.Nat.{ℕ, zero, suc, ◌+◌, ◌*◌, ◌-◌, ◌≤◌, ◌<◌, min}
use native.Mathlib.Nat.{eq-or-lt_of_le, zero-mul, mul-zero, suc-mul, add-mul, mul_comm}
use native.Mathlib.Decide.{dec_le, dec_lt}
use native.Mathlib.Omega.{arith}
use lib.Dec.{eqb}
use borrow.Author.Tests.{eqb-true, eq-eqb}
use Rattle.days.specs.Days.{between}
use Rattle.days.proofs.Ranges.{and_left, and_right, within, is_between}
use Rattle.std.proofs.lemmas.Bool.{and_from as both}
use Rattle.parts.specs.Limits.{point_count}
use Rattle.amounts.specs.Ranges.{sum_below}
use Rattle.amounts.specs.Amounts.{span_days}
use Rattle.parts.specs.Charges.{charge}
use Rattle.amounts.proofs.RangeLaws.{sum_same, sum_le}

-- ---- sums
-- of nothing but zeros
pub sum_zeros : (g : ℕ → ℕ) (n : ℕ) → ((k : ℕ) → k < n → g k ≡ 0) → sum_below n g ≡ 0
sum_zeros g n e =
    let most = sum_le g 0 n (λ k l. omega (arith, e k l)) in
    omega (arith, most, mul-zero n)

-- one number grows, and the others stay
pub sum_one : (f g : ℕ → ℕ) (n q x : ℕ) → q < n → g q ≡ f q + x → ((i : ℕ) → i < n → (i ≡ q → ⊥) → g i ≡ f i) → sum_below n g ≡ sum_below n f + x
unfolding sum_below
sum_one f g zero q x l e others = absurd (omega arith)
sum_one f g (suc n) q x l e others =
    ⊎_elim
    (λ (same : q ≡ n).
    let rest = sum_same g f n (λ i b. others i (omega arith) (λ h. omega (arith, h, same))) in
    let here : g n ≡ f n + x = subst (λ (j : ℕ). g j ≡ f j + x) same e in
    omega (arith, rest, here))
    (λ (less : q < n).
    let rest = sum_one f g n q x less e (λ i b ne. others i (omega arith) ne) in
    omega (arith, rest, others n (omega arith) (λ h. omega (arith, h, less))))
    (eq-or-lt_of_le (omega arith))

-- each number from place a on and before place e grows by x, and the others stay: as many as there are of them among the first n
pub sum_span : (f g : ℕ → ℕ) (a e x : ℕ) → ((k : ℕ) → a ≤ k → k < e → g k ≡ f k + x) → ((k : ℕ) → (a ≤ k → k < e → ⊥) → g k ≡ f k)
    → (n : ℕ) → sum_below n g ≡ sum_below n f + (min n e - a) * x
unfolding sum_below
sum_span f g a e x grows stays zero =
    let none : min 0 e - a ≡ 0 = omega arith in
    omega (arith, ap (λ (m : ℕ). m * x) none, zero-mul x)
sum_span f g a e x grows stays (suc n) = go (dec_le a n) (dec_lt n e) (sum_span f g a e x grows stays n)
  where
    still : min (suc n) e - a ≡ min n e - a → g n ≡ f n → sum_below n g ≡ sum_below n f + (min n e - a) * x
        → sum_below n g + g n ≡ sum_below n f + f n + (min (suc n) e - a) * x
    still c same before = omega (arith, before, same, ap (λ (m : ℕ). m * x) c)

    go : Dec (a ≤ n) → Dec (n < e) → sum_below n g ≡ sum_below n f + (min n e - a) * x
        → sum_below n g + g n ≡ sum_below n f + f n + (min (suc n) e - a) * x
    go (yes lo) (yes hi) before =
        let c : min (suc n) e - a ≡ suc (min n e - a) = omega arith in
        omega (arith, before, grows n lo hi, ap (λ (m : ℕ). m * x) c, suc-mul (min n e - a) x)
    go (no lo) hi before = still (omega arith) (stays n (λ l h. lo l)) before
    go (yes lo) (no hi) before = still (omega arith) (stays n (λ l h. hi h)) before

-- ---- what is held, over gas-days and points
-- the sum of what is held on so many gas-days from the first
unfoldable pub over_days : ℕ → ℕ → (ℕ → ℕ) → ℕ
over_days first days h = sum_below days (λ k. h (first + k))

-- "A charge is amount × days of the span × rate.": what h p d at point p on gas-day d is charged, over all points and those days
unfoldable pub charge_held : ℕ → ℕ → (ℕ → ℕ) → (ℕ → ℕ → ℕ) → ℕ
charge_held first days rate h = sum_below point_count (λ p. over_days first days (h p) * rate p)

module _ (first days : ℕ) where
  days_none : (h : ℕ → ℕ) → ((d : ℕ) → h d ≡ 0) → over_days first days h ≡ 0
  unfolding over_days
  days_none h none = sum_zeros (λ k. h (first + k)) days (λ k l. none (first + k))

  days_same : (h g : ℕ → ℕ) → ((d : ℕ) → g d ≡ h d) → over_days first days g ≡ over_days first days h
  unfolding over_days
  days_same h g same = sum_same (λ k. g (first + k)) (λ k. h (first + k)) days (λ k l. same (first + k))

  -- x more on each day of a span among them
  days_more : (h g : ℕ → ℕ) (a e x : ℕ) → first ≤ a → a ≤ e → e < first + days → ((d : ℕ) → a ≤ d → d ≤ e → g d ≡ h d + x) → ((d : ℕ) → (a ≤ d → d ≤ e → ⊥) → g d ≡ h d)
      → over_days first days g ≡ over_days first days h + span_days a e * x
  unfolding over_days
  days_more h g a e x from ordered to grows stays =
      let span = sum_span (λ k. h (first + k)) (λ k. g (first + k)) (a - first) (e + 1 - first) x (λ k lo hi. grows (first + k) (omega arith) (omega arith)) (λ k out. stays (first + k) (λ lo hi. out (omega arith) (omega arith))) days in
      let c : min days (e + 1 - first) - (a - first) ≡ span_days a e = omega arith in
      span ∙ ap (λ (m : ℕ). sum_below days (λ k. h (first + k)) + m * x) c

  module _ (rate : ℕ → ℕ) where
    -- nothing held is charged nothing, and the same held the same
    pub held_none : (h : ℕ → ℕ → ℕ) → ((p d : ℕ) → h p d ≡ 0) → charge_held first days rate h ≡ 0
    unfolding charge_held
    held_none h none =
        sum_zeros (λ p. over_days first days (h p) * rate p) point_count (λ p l. ap (λ (m : ℕ). m * rate p) (days_none (h p) (none p)) ∙ zero-mul (rate p))

    pub held_same : (h g : ℕ → ℕ → ℕ) → ((p d : ℕ) → g p d ≡ h p d) → charge_held first days rate g ≡ charge_held first days rate h
    unfolding charge_held
    held_same h g same =
        sum_same (λ p. over_days first days (g p) * rate p) (λ p. over_days first days (h p) * rate p) point_count (λ p l. ap (λ (m : ℕ). m * rate p) (days_same (h p) (g p) (same p)))

    -- other rates make no difference at points where nothing is held
    pub held_rates : (cost : ℕ → ℕ) (h : ℕ → ℕ → ℕ) → ((p : ℕ) → (cost p ≡ rate p) ⊎ ((d : ℕ) → h p d ≡ 0)) → charge_held first days cost h ≡ charge_held first days rate h
    unfolding charge_held
    held_rates cost h each =
        sum_same (λ p. over_days first days (h p) * cost p) (λ p. over_days first days (h p) * rate p) point_count
        (λ p l. ⊎_elim
        (λ (e : cost p ≡ rate p). ap (λ (r : ℕ). over_days first days (h p) * r) e)
        (λ (none : (d : ℕ) → h p d ≡ 0).
        let z = days_none (h p) none in
        ap (λ (m : ℕ). m * cost p) z ∙ zero-mul (cost p) ∙ sym (zero-mul (rate p)) ∙ sym (ap (λ (m : ℕ). m * rate p) z))
        (each p))

    module _ (q a e x : ℕ) (named : q < point_count) (from : first ≤ a) (ordered : a ≤ e) (to : e < first + days) where
      -- x more at one point on each day of a span among the days: its charge more
      pub held_more : (h g : ℕ → ℕ → ℕ) → ((d : ℕ) → a ≤ d → d ≤ e → g q d ≡ h q d + x) → ((p d : ℕ) → (p ≡ q → a ≤ d → d ≤ e → ⊥) → g p d ≡ h p d)
          → charge_held first days rate g ≡ charge_held first days rate h + charge x (span_days a e) (rate q)
      unfolding charge_held
      held_more h g grows stays =
          sum_one (λ p. over_days first days (h p) * rate p) (λ p. over_days first days (g p) * rate p) point_count q (charge x (span_days a e) (rate q)) named here
          (λ p l ne. ap (λ (m : ℕ). m * rate p) (days_same (h p) (g p) (λ d. stays p d (λ same lo hi. ne same))))
        where
          here : over_days first days (g q) * rate q ≡ over_days first days (h q) * rate q + charge x (span_days a e) (rate q)
          here =
              ap (λ (m : ℕ). m * rate q) (days_more (h q) (g q) a e x from ordered to grows (λ d out. stays q d (λ same. out)))
              ∙ add-mul (over_days first days (h q)) (span_days a e * x) (rate q)
              ∙ ap (λ (m : ℕ). over_days first days (h q) * rate q + m * rate q) (mul_comm (span_days a e) x)

      -- x held at one point on each day of such a span: at least its charge
      pub held_least : (h : ℕ → ℕ → ℕ) → ((d : ℕ) → a ≤ d → d ≤ e → x ≤ h q d) → charge x (span_days a e) (rate q) ≤ charge_held first days rate h
      held_least h enough = omega (arith, held_more less h grows stays)
        where
          -- whether a point and a day are of the span
          in_span : ℕ → ℕ → Bool
          in_span p d = eqb p q && between a e d

          -- what is held without x there
          less : ℕ → ℕ → ℕ
          less p d = h p d - cond (in_span p d) x 0

          grows : (d : ℕ) → a ≤ d → d ≤ e → h q d ≡ less q d + x
          grows d lo hi =
              let t : in_span q d ≡ true = both (eqb q q) (between a e d) (eq-eqb q q refl) (is_between a e d lo hi) in
              let c : cond (in_span q d) x 0 ≡ x = ap (λ (b : Bool). cond b x 0) t in
              omega (arith, c, enough d lo hi)

          stays : (p d : ℕ) → (p ≡ q → a ≤ d → d ≤ e → ⊥) → h p d ≡ less p d
          stays p d out = go (in_span p d) refl
            where
              go : (b : Bool) → in_span p d ≡ b → h p d ≡ h p d - cond b x 0
              go true t =
                  let w = within a e d (and_right (eqb p q) (between a e d) t) in
                  absurd (out (eqb-true p q (and_left (eqb p q) (between a e d) t)) w.from w.to)
              go false t = omega arith
