-- Laws of the lent table's runs, as the functions here write them.
-- Assumes nothing.
use Prim.Native.Nat.{ℕ, suc, zero, ◌+◌, ◌*◌, ◌-◌, ◌≤◌, ◌<◌, min}
use mathlib.Core.List.{List}
use mathlib.Core.Path.{◌≡◌, refl, sym, subst, ◌∙◌}
use native.Mathlib.Numerals.{add-one}
use native.Mathlib.Decide.{dec_le}
use native.Mathlib.Omega.{arith}
use lib.ListN.{length, get_or}
use lib.Seq.{paste}
use borrow.Rule.Slice.PartMut.{put_mid, mid_of, mid_len}
use Rattle.std.proofs.lemmas.List.Edits.{paste_none, paste_more}
use Rattle.std.proofs.lemmas.Slice.{put_mid-paste}
use Rattle.parts.specs.declared.points.Point.{Point}
use Rattle.parts.specs.Limits.{point_count, row_length}
use Rattle.amounts.specs.Ranges.{replaced}
use Rattle.amounts.specs.Amounts.{capacity_at, freed_table}
use Rattle.amounts.proofs.RangeLaws.{replaced_none, replaced_step, replaced_within}
use Rattle.amounts.proofs.AmountLaws.{row_length_lem, table_step, table_done}

-- a part of a list with g 0, g 1 and so on in its place
pasted : (l t : List ℕ) (at n : ℕ) (g : ℕ → ℕ) → at + n ≤ length l → n ≤ length t → ((i : ℕ) → i < n → get_or t i 0 ≡ g i)
    → replaced l at n g ≡ paste l at t n
pasted l t at zero g h b each = sym (replaced_none l at g) ∙ paste_none l at t
pasted l t at (suc n) g h b each =
    subst (λ (k : ℕ). replaced l at k g ≡ paste l at t k) (add-one n)
    (sym (replaced_step (paste l at t n) l at n g (get_or t n 0) (sym (pasted l t at n g (omega arith) (omega arith) (λ i c. each i (omega arith)))) (each n (omega arith)))
    ∙ paste_more l at t n 0 (omega arith) (omega arith))

-- the part that lies in the list; it is empty where the list ends before it
pub run_put : (l t : List ℕ) (at n from e : ℕ) (g : ℕ → ℕ) → from ≡ min at (length l) → e ≡ min (at + n) (length l)
    → length t ≡ length (mid_of from (e - from) l) → ((i : ℕ) → i < length t → get_or t i 0 ≡ g i) → put_mid from (e - from) l t ≡ replaced l at n g
run_put l t at n from e g hf he ht each =
    let m : length t ≡ e - from = ht ∙ mid_len from e l (omega arith) in
    put_mid-paste from (e - from) l t t (e - from) refl refl (sym m)
    ∙ sym (pasted l t from (e - from) g (omega arith) (omega arith) (λ i b. each i (omega arith)))
    ∙ go (dec_le at (length l))
    ∙ replaced_within l at n g
  where
    go : Dec (at ≤ length l) → replaced l from (e - from) g ≡ replaced l at (min n (length l - at)) g
    go (yes h) =
        let a : from ≡ at = omega arith in
        let b : e - from ≡ min n (length l - at) = omega arith in
        rw (b, a)
    go (no h) =
        let a : e - from ≡ 0 = omega arith in
        let b : min n (length l - at) ≡ 0 = omega arith in
        rw (a, b) (sym (replaced_none l from g) ∙ replaced_none l at g)

-- all rows freed
pub all_freed : (f : List ℕ) (days i : ℕ) (ps : List Point) → i ≡ point_count → freed_table f days ps ≡ replaced f 0 (row_length * i) (capacity_at days ps)
all_freed f days i ps e = sym (table_done _ f days i ps (omega arith) (omega arith) refl)

pub ruleset table_turns = (replaced_none, table_step, row_length_lem, all_freed)
