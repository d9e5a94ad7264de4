-- "fields a letter doesn't use are not read": two records of one length that agree in the bytes that are read hold the same call.
-- Assumes nothing.
use Prim.Native.Nat.{ℕ, zero, suc, ◌+◌}
use mathlib.Core.Path.{◌≡◌, refl, sym, ap, subst, ◌∙◌}
use mathlib.Core.Bool.{Bool, true, false, ◌&&◌, cond, false≢true, or-true}
use mathlib.Core.List.{List}
use lib.Dec.{eqb, ltb}
use lib.ListN.{length, get_or, set, length-set}
use lib.Seq.{get_or-set_other}
use borrow.Author.Tests.{eqb-true, eqb-false}
use Rattle.days.proofs.Ranges.{and_left, and_right}
use Rattle.products.specs.declared.products.Product.{Product}
use Rattle.products.specs.declared.products.Product.TheVariants.{Annual, Month, Day}
use Rattle.std.specs.Prelude.{Option, Some, None}
use Rattle.history.specs.declared.changes.Change.{Change}
use Rattle.records.specs.Records.{record_length, number_at, letter_of, kind_of, month_of, day_of, opening_in, guarantee_in, request_for, request_in, cession_in, turn_in, call_in, decoded, request_uses, letter_uses, is_read}
use Rattle.records.proofs.CallLaws.{by_P, by_G, by_R, by_C, by_Y, by_none, kind_annual, kind_month, kind_day, kind_none}

-- a number is the one that is named, or another
either : {A : Type 0} (n named : ℕ) → (n ≡ named → A) → ((n ≡ named → ⊥) → A) → A
either {A} n named this other = go (eqb n named) refl
  where
    go : (b : Bool) → eqb n named ≡ b → A
    go true e = this (eqb-true n named e)
    go false e = other (eqb-false n named e)

-- the test that n bytes from byte i on are all used
all_used : (ℕ → Bool) → ℕ → ℕ → Bool
all_used uses i zero = true
all_used uses i (suc n) = uses i && all_used uses (i + 1) n

module _ (s t : List ℕ) where
  -- two records agree in the bytes that are used
  abbrev Agree : (ℕ → Bool) → Type 0
  Agree uses = (i : ℕ) → uses i ≡ true → get_or t i 0 ≡ get_or s i 0

  number : (uses : ℕ → Bool) → Agree uses → (i n : ℕ) → all_used uses i n ≡ true → number_at t i n ≡ number_at s i n
  unfolding all_used number_at
  number uses same i zero h = refl
  number uses same i (suc n) h =
      rw (same i (and_left (uses i) (all_used uses (i + 1) n) h), number uses same (i + 1) n (and_right (uses i) (all_used uses (i + 1) n) h))

  -- what is read of a request of each kind
  asked : (uses : ℕ → Bool) → Agree uses → uses 2 ≡ true → uses 3 ≡ true → all_used uses 8 2 ≡ true → all_used uses 16 8 ≡ true
      → (product : Product) → request_for t product ≡ request_for s product
  asked uses same point user arrival amount product =
      rw (same 2 point, same 3 user, number uses same 8 2 arrival, number uses same 16 8 amount)

  annual : Agree (request_uses 1) → request_for t Annual ≡ request_for s Annual
  unfolding all_used
  annual same = asked (request_uses 1) same refl refl refl refl Annual

  month : Agree (request_uses 2) → request_for t (Month (month_of t)) ≡ request_for s (Month (month_of s))
  unfolding all_used
  month same =
      ap (λ (m : ℕ). request_for t (Month m)) (same 5 refl) ∙ asked (request_uses 2) same refl refl refl refl (Month (month_of s))

  day : Agree (request_uses 3) → request_for t (Day (day_of t)) ≡ request_for s (Day (day_of s))
  unfolding all_used
  day same =
      ap (λ (d : ℕ). request_for t (Day d)) (number (request_uses 3) same 6 2 refl)
      ∙ asked (request_uses 3) same refl refl refl refl (Day (day_of s))

  request : Agree (request_uses (kind_of s)) → request_in t ≡ request_in s
  request same =
      let kind : kind_of t ≡ kind_of s = same 1 refl in
      let of : (k : ℕ) → kind_of s ≡ k → Agree (request_uses k) = λ k e. subst (λ (n : ℕ). Agree (request_uses n)) e same in
      either (kind_of s) 1 (λ e. sym (kind_annual t (kind ∙ e)) ∙ (ap Some (annual (of 1 e)) ∙ kind_annual s e)) λ a.
      either (kind_of s) 2 (λ e. sym (kind_month t (kind ∙ e)) ∙ (ap Some (month (of 2 e)) ∙ kind_month s e)) λ m.
      either (kind_of s) 3 (λ e. sym (kind_day t (kind ∙ e)) ∙ (ap Some (day (of 3 e)) ∙ kind_day s e)) λ d.
      sym (kind_none t (λ e. a (sym kind ∙ e)) (λ e. m (sym kind ∙ e)) (λ e. d (sym kind ∙ e))) ∙ kind_none s a m d

  opening : Agree (letter_uses 80 (kind_of s)) → opening_in t ≡ opening_in s
  unfolding letter_uses all_used
  opening same = rw (same 1 refl, same 2 refl, number _ same 12 4 refl, number _ same 16 8 refl)

  guarantee : Agree (letter_uses 71 (kind_of s)) → guarantee_in t ≡ guarantee_in s
  unfolding letter_uses all_used
  guarantee same = rw (same 3 refl, number _ same 16 8 refl)

  asking : Agree (letter_uses 82 (kind_of s)) → request_in t ≡ request_in s
  unfolding letter_uses
  asking same = request same

  cession : Agree (letter_uses 67 (kind_of s)) → cession_in t ≡ cession_in s
  unfolding letter_uses all_used
  cession same = rw (same 2 refl, same 3 refl, same 4 refl, number _ same 8 2 refl, number _ same 16 8 refl)

  turn : Agree (letter_uses 89 (kind_of s)) → turn_in t ≡ turn_in s
  unfolding letter_uses all_used
  turn same = rw (number _ same 10 2 refl)

  call : letter_of t ≡ letter_of s → Agree (letter_uses (letter_of s) (kind_of s)) → call_in t ≡ call_in s
  call letter same =
      let of : (l : ℕ) → letter_of s ≡ l → Agree (letter_uses l (kind_of s)) = λ l e. subst (λ (n : ℕ). Agree (letter_uses n (kind_of s))) e same in
      either (letter_of s) 80 (λ e. sym (by_P t (letter ∙ e)) ∙ (ap Some (opening (of 80 e)) ∙ by_P s e)) λ p.
      either (letter_of s) 71 (λ e. sym (by_G t (letter ∙ e)) ∙ (ap Some (guarantee (of 71 e)) ∙ by_G s e)) λ g.
      either (letter_of s) 82 (λ e. sym (by_R t (letter ∙ e)) ∙ (asking (of 82 e) ∙ by_R s e)) λ r.
      either (letter_of s) 67 (λ e. sym (by_C t (letter ∙ e)) ∙ (ap Some (cession (of 67 e)) ∙ by_C s e)) λ c.
      either (letter_of s) 89 (λ e. sym (by_Y t (letter ∙ e)) ∙ (ap Some (turn (of 89 e)) ∙ by_Y s e)) λ y.
      let other : (l : ℕ) → (letter_of s ≡ l → ⊥) → letter_of t ≡ l → ⊥ = λ l no_such e. no_such (sym letter ∙ e) in
      sym (by_none t (other 80 p) (other 71 g) (other 82 r) (other 67 c) (other 89 y)) ∙ by_none s p g r c y

  pub same_call : length t ≡ length s → Agree (is_read s) → decoded t ≡ decoded s
  same_call e same =
      let used : Agree (letter_uses (letter_of s) (kind_of s)) = λ i u. same i (rw u (or-true (eqb i 0))) in
      rw e (ap (λ (c : Option Change). cond (ltb (length s) record_length) None c) (call (same 0 refl) used))

-- a byte that is not read may hold anything
pub not_read : (s : List ℕ) (i v : ℕ) → is_read s i ≡ false → decoded (set s i v) ≡ decoded s
not_read s i v h =
    same_call s (set s i v) (length-set s i v) λ j r.
    get_or-set_other s i j v 0 λ e.
    false≢true (sym h ∙ ap (λ (k : ℕ). is_read s k) (sym e) ∙ r)
