-- Laws of what is held: the first gas-day with too little is the first, there is none exactly where the amount is held on every day,
-- and in a register that is in order the code's sums are what is held.
-- Assumes nothing.
use mathlib.Core.Path.{◌≡◌, refl, sym, ap, ◌∙◌, subst}
use mathlib.Core.Bool.{Bool, true, false, cond, not, ◌&&◌, and-true, and_assoc}
use mathlib.Core.List.{List, [], ◌∷◌}
use Prim.Native.Nat.{ℕ, zero, suc, ◌+◌, ◌-◌, ◌≤◌, ◌<◌, min}
use native.Mathlib.Decide.{ℕ_discrete}
use native.Mathlib.Nat.{add-zero}
use native.Mathlib.Numerals.{add-one}
use native.Mathlib.Omega.{arith}
use lib.IntN.{ℤ, pos}
use lib.Signed.{lt_z}
use Rattle.std.specs.Prelude.{Option, Some, None}
use Rattle.parts.specs.Limits.{line_count}
use Rattle.parts.specs.Tests.{all_below}
use Rattle.parts.specs.Registers.{State}
use Rattle.amounts.proofs.CalendarLaws.{day_in_lem}
use Rattle.parts.specs.Answers.{◌asks◌, number_of}
use Rattle.ledger.specs.Ledger.{line_at}
use Rattle.order.specs.Order.{in_order}
use Rattle.order.proofs.OrderFacts.{ordered, line_facts}
use Rattle.amounts.specs.Amounts.{span_days}
use Rattle.parts.proofs.TestLaws.{all_none, all_same}
use Rattle.holdings.specs.declared.holdings.Holding.{Holding}
use Rattle.holdings.specs.Holdings.{signed_sum, part_at, part_in, held_on, held_in, short_in, too_little, holds_throughout, first_short, LinesIn, held_answer, is_throughout, number_of_held}
use Rattle.holdings.specs.declared.gathering.Gathered.{Gathered}
use Rattle.holdings.specs.Steps.{Gathers, gathered_short}
use Rattle.holdings.proofs.SumLaws.{sum_same}

-- ---- the first of the days from d to last
module _ (short : ℕ → Bool) (last d : ℕ) where
  pub first_none : last < d → first_short short (span_days d last) d ≡ None
  unfolding first_short
  first_none h =
      let e : span_days d last ≡ 0 = omega arith in
      rw e

  pub first_hit : d ≤ last → short d ≡ true → first_short short (span_days d last) d ≡ Some d
  unfolding first_short
  first_hit h t =
      let e : span_days d last ≡ suc (last - d) = omega arith in
      rw (e, t)

  pub first_miss : d ≤ last → short d ≡ false → first_short short (span_days d last) d ≡ first_short short (span_days (d + 1) last) (d + 1)
  unfolding first_short
  first_miss h t =
      let e : span_days d last ≡ suc (last - d) = omega arith in
      let n : span_days (d + 1) last ≡ last - d = omega arith in
      rw (e, t, n, add-one)

-- tests that agree on the n days from d on
pub first_same_days : (p q : ℕ → Bool) (n d : ℕ) → ((e : ℕ) → d ≤ e → e < d + n → p e ≡ q e) → first_short p n d ≡ first_short q n d
unfolding first_short
first_same_days p q zero d h = refl
first_same_days p q (suc n) d h = rw (h d (omega arith) (omega arith), first_same_days p q n (suc d) (λ e f t. h e (omega arith) (omega arith)))

pub first_same : (p q : ℕ → Bool) → ((d : ℕ) → p d ≡ q d) → (n d : ℕ) → first_short p n d ≡ first_short q n d
unfolding first_short
first_same p q h zero d = refl
first_same p q h (suc n) d = rw (h d, first_same p q h n (suc d))

-- the day that is named is one of the n from d on, the test holds of it, and of no day before it
pub record First (short : ℕ → Bool) (n d e : ℕ) : Type 0 where
  pub from : d ≤ e
  pub to : e < d + n
  pub is_short : short e ≡ true
  pub earlier : (k : ℕ) → d ≤ k → k < e → short k ≡ false

module _ (short : ℕ → Bool) where
  pub short_first : (n d e : ℕ) → first_short short n d ≡ Some e → First short n d e
  unfolding first_short
  short_first zero d e h = absurd (cc h)
  short_first (suc n) d e h = go (short d) refl (short_first n (suc d) e)
    where
      go : (t : Bool) → short d ≡ t → (first_short short n (suc d) ≡ Some e → First short n (suc d) e) → First short (suc n) d e
      go true p later =
          let f = subst (λ (u : Bool). cond u (Some d) (first_short short n (suc d)) ≡ Some e) p h in
          let i : e ≡ d = cc f in
          record {
            from = omega (arith, i);
            to = omega (arith, i);
            is_short = ap short i ∙ p;
            earlier = λ k a b. absurd (omega (arith, i, a, b));
          }
      go false p later =
          let w = later (subst (λ (u : Bool). cond u (Some d) (first_short short n (suc d)) ≡ Some e) p h) in
          record {
            from = omega (arith, w.from);
            to = omega (arith, w.to);
            is_short = w.is_short;
            earlier = λ k a b. at k a b (ℕ_discrete k d) w;
          }
        where
          at : (k : ℕ) → d ≤ k → k < e → Dec (k ≡ d) → First short n (suc d) e → short k ≡ false
          at k a b (yes i) w = ap short i ∙ p
          at k a b (no ne) w = w.earlier k (omega (arith, a, ne)) b

-- ---- there is none exactly where the test fails on each day
all_front : (t : ℕ → Bool) (n : ℕ) → all_below (suc n) t ≡ (t 0 && all_below n (λ (k : ℕ). t (suc k)))
unfolding all_below
all_front t zero = sym (and-true (t 0))
all_front t (suc n) =
    ap (λ (u : Bool). u && t (suc n)) (all_front t n)
    ∙ and_assoc (t 0) (all_below n (λ (k : ℕ). t (suc k))) (t (suc n))

pub throughout_is : (short : ℕ → Bool) (n d : ℕ) → is_throughout (first_short short n d) ≡ all_below n (λ (k : ℕ). not (short (d + k)))
unfolding first_short
throughout_is short zero d = all_none (λ (k : ℕ). not (short (d + k)))
throughout_is short (suc n) d =
    go (short d) refl (throughout_is short n (suc d))
    ∙ sym (all_front (λ (k : ℕ). not (short (d + k))) n)
  where
    go : (t : Bool) → short d ≡ t → is_throughout (first_short short n (suc d)) ≡ all_below n (λ (k : ℕ). not (short (suc d + k)))
        → is_throughout (cond (short d) (Some d) (first_short short n (suc d))) ≡ (not (short (d + 0)) && all_below n (λ (k : ℕ). not (short (d + suc k))))
    go true p rest = rw (add-zero, p)
    go false p rest =
        rw (add-zero, p)
        (rest ∙ all_same (λ (k : ℕ). not (short (suc d + k))) (λ (k : ℕ). not (short (d + suc k))) n (λ k l. ap (λ (j : ℕ). not (short j)) (omega arith)))

-- ---- in a register that is in order
as_number : (v : Option ℕ) → number_of_held v ≡ cond (is_throughout v) 0 10
as_number None = refl
as_number (Some d) = refl

pub lines_in : (s : State) → in_order s ≡ true → LinesIn s.register.year s.register.lines s.ledger
lines_in s h =
    let o = ordered s h in
    let r = s.register in
    record {
      few = o.few;
      firsts = λ i l.
          let f = line_facts r.year r.points r.accounts (line_at s.ledger i) (o.lines i l) in
          day_in_lem r.year (line_at s.ledger i).first o.year f.first.from f.first.to;
    }

module _ (y n : ℕ) (ls : List ℕ) (w : LinesIn y n ls) where
  -- no line is left out
  pub held_in_lem : (user point d : ℕ) → held_in y n ls user point d ≡ held_on y n ls user point d
  unfolding held_in held_on
  held_in_lem user point d =
      let all : min n line_count ≡ n = omega (arith, w.few) in
      rw all
      (sum_same n (part_in y ls user point d) (part_at y ls user point d) (λ k l. ap (λ (t : Bool). cond t (part_at y ls user point d k) (pos 0)) (w.firsts k l)))

  short_in_lem : (h : Holding) (d : ℕ) → short_in y n ls h d ≡ too_little y n ls h d
  short_in_lem h d = ap (λ (z : ℤ). lt_z z (pos h.amount)) (held_in_lem h.user h.point d)

  -- question 10 is answered yes exactly where no day has too little
  pub held_answer_lem : (h : Holding) → is_throughout (held_answer y n ls h) ≡ holds_throughout y n ls h
  unfolding held_answer holds_throughout
  held_answer_lem h =
      ap is_throughout (first_same (short_in y n ls h) (too_little y n ls h) (short_in_lem h) (span_days h.first h.last) h.first)
      ∙ throughout_is (too_little y n ls h) (span_days h.first h.last) h.first

  pub held_number : (h : Holding) → number_of_held (held_answer y n ls h) ≡ number_of (10 asks holds_throughout y n ls h ∷ [])
  held_number h = as_number (held_answer y n ls h) ∙ ap (λ (t : Bool). cond t 0 10) (held_answer_lem h)

  -- and else the first that has is named
  pub held_short : (h : Holding) (e : ℕ) → held_answer y n ls h ≡ Some e → First (too_little y n ls h) (span_days h.first h.last) h.first e
  unfolding held_answer
  held_short h e p =
      short_first (too_little y n ls h) (span_days h.first h.last) h.first e
      (sym (first_same (short_in y n ls h) (too_little y n ls h) (short_in_lem h) (span_days h.first h.last) h.first) ∙ p)

-- ---- what was gathered gives the answer
pub gathered_answer : (y n k : ℕ) (ls : List ℕ) (h : Holding) (c : Gathered) → k ≡ min n line_count → Gathers y k ls h c
    → first_short (gathered_short c h.amount) (span_days h.first h.last) h.first ≡ held_answer y n ls h
unfolding held_answer held_in
gathered_answer y n k ls h c e w =
    first_same_days (gathered_short c h.amount) (short_in y n ls h) (span_days h.first h.last) h.first
    (λ d f t. ap (λ (z : ℤ). lt_z z (pos h.amount)) (sym (w.sums d f (omega arith)) ∙ ap (λ (m : ℕ). signed_sum m (part_in y ls h.user h.point d)) e))
