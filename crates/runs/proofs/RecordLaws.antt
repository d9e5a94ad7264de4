-- The records of an input: how many there are, and what is left of them behind the next one.
-- Assumes nothing.
use Prim.Native.Nat.{ℕ, zero, suc, ◌+◌, ◌-◌, ◌/◌, ◌<◌, min}
use mathlib.Core.Path.{◌≡◌, refl, ap, ◌∙◌}
use mathlib.Core.List.{List, [], ◌∷◌, ◌++◌, append-nil}
use native.Mathlib.Nat.{not-suc-le-zero}
use native.Mathlib.Omega.{arith}
use lib.ListN.{length, take, drop, length-append, length-drop, drop_of_length-le}
use lib.Seq.{take_all, take_at, drop_at}
use Rattle.std.proofs.lemmas.List.{nil_from_length}
use Rattle.runs.specs.Runs.{records_of}

-- there are as many as the code counts
pub record_count : (most : ℕ) (bytes : List ℕ) → length (records_of most bytes) ≡ min most ((length bytes + 23) / 24)
unfolding records_of
record_count zero bytes = omega arith
record_count (suc most) [] = omega arith
record_count (suc most) (b ∷ bytes) =
    let rest : length (records_of most (drop 24 (b ∷ bytes))) ≡ min most ((length (drop 24 (b ∷ bytes)) + 23) / 24) = record_count most (drop 24 (b ∷ bytes)) in
    let short : length (drop 24 (b ∷ bytes)) ≡ length (b ∷ bytes) - 24 = length-drop 24 (b ∷ bytes) in
    omega (arith, rest, short)

-- the next record, where there is one
next_record : (most n : ℕ) (bytes : List ℕ) → most ≡ n + 1 → 0 < length bytes → records_of most bytes ≡ take 24 bytes ∷ records_of n (drop 24 bytes)
unfolding records_of
next_record most n [] e h = absurd (not-suc-le-zero h)
next_record most n (b ∷ bytes) e h = let more : most ≡ suc n = omega (arith, e) in rw more

-- the bytes of `chunks`: 24 off the front, or as many as there are
cut : (chunk rest : List ℕ) → length chunk ≡ min 24 (length (chunk ++ rest)) → (take 24 (chunk ++ rest) ≡ chunk) × (drop 24 (chunk ++ rest) ≡ rest)
cut chunk [] e = (
  take_all 24 (chunk ++ []) (omega (arith, e, length-append chunk [])) ∙ append-nil chunk,
  drop_of_length-le (chunk ++ []) {i = 24} (omega (arith, e, length-append chunk [])),
)
cut chunk (b ∷ rest) e =
    let whole : length chunk ≡ 24 = omega (arith, e, length-append chunk (b ∷ rest)) in
    (take_at chunk (b ∷ rest) 24 whole, drop_at chunk (b ∷ rest) 24 whole)

-- what is left is a record, and what is left behind it
pub rest_next : (most n : ℕ) (bytes chunk rest : List ℕ) → most ≡ n + 1 → bytes ≡ chunk ++ rest → length chunk ≡ min 24 (length bytes) → 0 < length bytes
    → records_of most bytes ≡ chunk ∷ records_of n rest
rest_next most n bytes chunk rest m e l h =
    let off = cut chunk rest (l ∙ ap (λ (b : List ℕ). min 24 (length b)) e) in
    next_record most n bytes m h
    ∙ (ap (λ (b : List ℕ). take 24 b ∷ records_of n (drop 24 b)) e
    ∙ rw (off.0, off.1))

-- nothing is left
pub rest_none : (most : ℕ) (bytes : List ℕ) → (0 < most → length bytes ≡ 0) → records_of most bytes ≡ []
unfolding records_of
rest_none zero bytes e = refl
rest_none (suc most) bytes e = let none : bytes ≡ [] = nil_from_length bytes (e (omega arith)) in rw none
