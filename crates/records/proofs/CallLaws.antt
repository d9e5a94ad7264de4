-- The call of a record, by its letter and its kind, and the numbers that its bytes write.
-- Assumes nothing.
use Prim.Native.Nat.{ℕ, ◌+◌, ◌*◌, ◌≤◌, ◌<◌}
use mathlib.Core.Path.{◌≡◌, refl}
use mathlib.Core.Bool.{true}
use native.Mathlib.Omega.{arith}
use lib.Dec.{ltb}
use mathlib.Core.List.{List, [], ◌∷◌}
use lib.ListN.{length, take, get_or}
use Rattle.std.proofs.lemmas.List.{get_or-take}
use borrow.Author.Tests.{ne_eqb, lt-ltb, le-ltb, ltb-true}
use Rattle.products.specs.declared.products.Product.TheVariants.{Annual, Month, Day}
use Rattle.std.specs.Prelude.{Some, None}
use Rattle.records.specs.Records.{little_endian, number_at, letter_of, kind_of, month_of, day_of, opening_in, guarantee_in, request_for, request_in, cession_in, turn_in, call_in, decoded}

-- the numbers that two, four and eight bytes write
pub two_read : (s : List ℕ) (i : ℕ) {v : ℕ} → v ≡ little_endian (get_or s i 0 ∷ get_or s (i + 1) 0 ∷ []) → v ≡ number_at s i 2
unfolding number_at
two_read s i e = e

pub four_read : (s : List ℕ) (i : ℕ) {v : ℕ} → v ≡ little_endian (get_or s i 0 ∷ get_or s (i + 1) 0 ∷ get_or s (i + 1 + 1) 0 ∷ get_or s (i + 1 + 1 + 1) 0 ∷ [])
    → v ≡ number_at s i 4
unfolding number_at
four_read s i e = e

pub eight_read : (s : List ℕ) (i : ℕ) {v : ℕ} (low high : ℕ) → low ≡ number_at s i 4 → high ≡ number_at s (i + 4) 4 → v ≡ low + 4294967296 * high
    → v ≡ number_at s i 8
unfolding number_at
eight_read s i low high el eh ev =
    let place : i + 1 + 1 + 1 + 1 ≡ i + 4 = omega arith in rw place (omega (arith, el, eh, ev))

-- the first 24 bytes hold the call
front : (s : List ℕ) (i : ℕ) → ltb i 24 ≡ true → get_or (take 24 s) i 0 ≡ get_or s i 0
front s i h = get_or-take 24 s i 0 (ltb-true i 24 h)

pub cut : (s : List ℕ) → 24 ≤ length s → call_in (take 24 s) ≡ decoded s
unfolding call_in request_in number_at
cut s h =
    rw (
      le-ltb (length s) 24 h,
      front s 0 refl,
      front s 1 refl,
      front s 2 refl,
      front s 3 refl,
      front s 4 refl,
      front s 5 refl,
      front s 6 refl,
      front s 7 refl,
      front s 8 refl,
      front s 9 refl,
      front s 10 refl,
      front s 11 refl,
      front s 12 refl,
      front s 13 refl,
      front s 14 refl,
      front s 15 refl,
      front s 16 refl,
      front s 17 refl,
      front s 18 refl,
      front s 19 refl,
      front s 20 refl,
      front s 21 refl,
      front s 22 refl,
      front s 23 refl,
    )

pub short : (s : List ℕ) → length s < 24 → decoded s ≡ None
short s h = rw (lt-ltb (length s) 24 h)

module _ (s : List ℕ) where
  pub by_P : letter_of s ≡ 80 → Some (opening_in s) ≡ call_in s
  unfolding call_in
  by_P e = rw e

  pub by_G : letter_of s ≡ 71 → Some (guarantee_in s) ≡ call_in s
  unfolding call_in
  by_G e = rw e

  pub by_R : letter_of s ≡ 82 → request_in s ≡ call_in s
  unfolding call_in
  by_R e = rw e

  pub by_C : letter_of s ≡ 67 → Some (cession_in s) ≡ call_in s
  unfolding call_in
  by_C e = rw e

  pub by_Y : letter_of s ≡ 89 → Some (turn_in s) ≡ call_in s
  unfolding call_in
  by_Y e = rw e

  pub by_none : (letter_of s ≡ 80 → ⊥) → (letter_of s ≡ 71 → ⊥) → (letter_of s ≡ 82 → ⊥) → (letter_of s ≡ 67 → ⊥) → (letter_of s ≡ 89 → ⊥) → None ≡ call_in s
  unfolding call_in
  by_none p g r c y =
      rw (ne_eqb (letter_of s) 80 p, ne_eqb (letter_of s) 71 g, ne_eqb (letter_of s) 82 r, ne_eqb (letter_of s) 67 c, ne_eqb (letter_of s) 89 y)

  pub kind_annual : kind_of s ≡ 1 → Some (request_for s Annual) ≡ request_in s
  unfolding request_in
  kind_annual e = rw e

  pub kind_month : kind_of s ≡ 2 → Some (request_for s (Month (month_of s))) ≡ request_in s
  unfolding request_in
  kind_month e = rw e

  pub kind_day : kind_of s ≡ 3 → Some (request_for s (Day (day_of s))) ≡ request_in s
  unfolding request_in
  kind_day e = rw e

  pub kind_none : (kind_of s ≡ 1 → ⊥) → (kind_of s ≡ 2 → ⊥) → (kind_of s ≡ 3 → ⊥) → None ≡ request_in s
  unfolding request_in
  kind_none a m d = rw (ne_eqb (kind_of s) 1 a, ne_eqb (kind_of s) 2 m, ne_eqb (kind_of s) 3 d)

-- a law for each kind of a request
pub ruleset kinds = (kind_annual, kind_month, kind_day, kind_none)

-- a law for each letter of a call
pub ruleset letters = (by_P, by_G, by_R, by_C, by_Y, by_none)
