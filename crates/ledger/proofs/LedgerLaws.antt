-- Laws of the ledger's lines: what is written to a line is read back from it, and the other lines are unchanged.
-- Assumes nothing.
use Prim.Native.Nat.{ℕ, ◌+◌, ◌*◌, ◌/◌, ◌≤◌}
use mathlib.Core.Bool.{Bool, true, false}
use mathlib.Core.List.{List}
use mathlib.Core.Logic.{◌≢◌}
use mathlib.Core.Path.{◌≡◌, refl, ap, ◌∙◌}
use native.Mathlib.Omega.{arith}
use lib.ListN.{get_or, set, length, length-set}
use lib.Seq.{get_or-set_same, get_or-set_other}
use borrow.Author.Tests.{ltb-true, lt-ltb, le-ltb}
use mir.Syntax.{w32}
use mir.Val.{SFits}
use mir.Facts.{to_z-of_z}
use Rattle.ledger.specs.declared.ledger.Line.{Line}
use Rattle.parts.specs.Limits.{line_length}
use Rattle.ledger.specs.Ledger.{Holds, signed_of, bits_of, has_line, fields_at, with_fields, no_line, line_at, with_line}

-- the test of a line is true just where the line lies in the list
pub holds_true : (ls : List ℕ) (i : ℕ) → Holds ls i → has_line ls i ≡ true
holds_true ls i h = lt-ltb i (length ls / line_length) (omega arith)

pub holds_of : (ls : List ℕ) (i : ℕ) → has_line ls i ≡ true → Holds ls i
holds_of ls i e = omega (arith, ltb-true i (length ls / line_length) e)

-- there a line is read and written as its five numbers
pub line_in : (ls : List ℕ) (i : ℕ) → Holds ls i → line_at ls i ≡ fields_at ls i
unfolding line_at
line_in ls i h = rw (holds_true ls i h)

with_in : (ls : List ℕ) (i : ℕ) (l : Line) → Holds ls i → with_line ls i l ≡ with_fields ls i l
unfolding with_line
with_in ls i l h = rw (holds_true ls i h)

-- past the end a line is read as zeros
pub line_out : (ls : List ℕ) (i : ℕ) → length ls / line_length ≤ i → line_at ls i ≡ no_line
unfolding line_at
line_out ls i h = rw (le-ltb i (length ls / line_length) h)

-- the length is unchanged
fields_length : (ls : List ℕ) (i : ℕ) (l : Line) → length (with_fields ls i l) ≡ length ls
unfolding with_fields
fields_length ls i l = simp length-set

pub with_length : (ls : List ℕ) (i : ℕ) (l : Line) → length (with_line ls i l) ≡ length ls
unfolding with_line
with_length ls i l = go (has_line ls i) refl
  where
    go : (t : Bool) → has_line ls i ≡ t → length (with_line ls i l) ≡ length ls
    go true e = rw e (fields_length ls i l)
    go false e = rw e

-- the five stores in turn, and what stands at a place outside the last of them
module _ (ls : List ℕ) (i : ℕ) (l : Line) where
  abbrev s1 : List ℕ
  s1 = set ls (line_length * i) l.user

  abbrev s2 : List ℕ
  s2 = set s1 (line_length * i + 1) l.point

  abbrev s3 : List ℕ
  s3 = set s2 (line_length * i + 2) l.kind

  abbrev s4 : List ℕ
  s4 = set s3 (line_length * i + 3) l.first

  abbrev stored : List ℕ
  stored = set s4 (line_length * i + 4) (bits_of l.amount)

  past4 : (k : ℕ) → k ≢ line_length * i + 4 → get_or stored k 0 ≡ get_or s4 k 0
  past4 k n = get_or-set_other s4 (line_length * i + 4) k (bits_of l.amount) 0 n

  past3 : (k : ℕ) → k ≢ line_length * i + 3 → k ≢ line_length * i + 4 → get_or stored k 0 ≡ get_or s3 k 0
  past3 k m n = past4 k n ∙ get_or-set_other s3 (line_length * i + 3) k l.first 0 m

  past2 : (k : ℕ) → k ≢ line_length * i + 2 → k ≢ line_length * i + 3 → k ≢ line_length * i + 4 → get_or stored k 0 ≡ get_or s2 k 0
  past2 k p m n = past3 k m n ∙ get_or-set_other s2 (line_length * i + 2) k l.kind 0 p

  past1 : (k : ℕ) → k ≢ line_length * i + 1 → k ≢ line_length * i + 2 → k ≢ line_length * i + 3 → k ≢ line_length * i + 4 → get_or stored k 0 ≡ get_or s1 k 0
  past1 k q p m n = past2 k p m n ∙ get_or-set_other s1 (line_length * i + 1) k l.point 0 q

  -- a place of another line
  other : (k : ℕ) → k / 5 ≢ i → get_or stored k 0 ≡ get_or ls k 0
  other k n = past1 k (λ q. n (omega arith)) (λ q. n (omega arith)) (λ q. n (omega arith)) (λ q. n (omega arith)) ∙ get_or-set_other ls (line_length * i) k l.user 0 (λ q. n (omega arith))

-- what was written is read back
fields_back : (ls : List ℕ) (i : ℕ) (l : Line) → Holds ls i → SFits w32 l.amount → fields_at (with_fields ls i l) i ≡ l
unfolding fields_at with_fields
fields_back ls i l h f = λ t. record { user = user t; point = point t; kind = kind t; first = first t; amount = amount t }
  where
    user : get_or (stored ls i l) (line_length * i) 0 ≡ l.user
    user = past1 ls i l (line_length * i) (λ q. omega arith) (λ q. omega arith) (λ q. omega arith) (λ q. omega arith) ∙ get_or-set_same ls (line_length * i) l.user 0 (omega arith)

    point : get_or (stored ls i l) (line_length * i + 1) 0 ≡ l.point
    point = past2 ls i l (line_length * i + 1) (λ q. omega arith) (λ q. omega arith) (λ q. omega arith) ∙ get_or-set_same (s1 ls i l) (line_length * i + 1) l.point 0 (simp length-set (omega arith))

    kind : get_or (stored ls i l) (line_length * i + 2) 0 ≡ l.kind
    kind = past3 ls i l (line_length * i + 2) (λ q. omega arith) (λ q. omega arith) ∙ get_or-set_same (s2 ls i l) (line_length * i + 2) l.kind 0 (simp length-set (omega arith))

    first : get_or (stored ls i l) (line_length * i + 3) 0 ≡ l.first
    first = past4 ls i l (line_length * i + 3) (λ q. omega arith) ∙ get_or-set_same (s3 ls i l) (line_length * i + 3) l.first 0 (simp length-set (omega arith))

    amount : signed_of (get_or (stored ls i l) (line_length * i + 4) 0) ≡ l.amount
    amount = ap signed_of (get_or-set_same (s4 ls i l) (line_length * i + 4) (bits_of l.amount) 0 (simp length-set (omega arith))) ∙ to_z-of_z f

pub read_back : (ls : List ℕ) (i : ℕ) (l : Line) → Holds ls i → SFits w32 l.amount → line_at (with_line ls i l) i ≡ l
read_back ls i l h f = line_in (with_line ls i l) i (rw (with_length ls i l) h) ∙ rw (with_in ls i l h) (fields_back ls i l h f)

-- the other lines are unchanged, also those past the end
fields_other : (ls : List ℕ) (i j : ℕ) (l : Line) → j ≢ i → fields_at (with_fields ls i l) j ≡ fields_at ls j
unfolding fields_at with_fields
fields_other ls i j l n = λ t. record {
  user = other ls i l (line_length * j) (λ q. n (omega arith)) t;
  point = other ls i l (line_length * j + 1) (λ q. n (omega arith)) t;
  kind = other ls i l (line_length * j + 2) (λ q. n (omega arith)) t;
  first = other ls i l (line_length * j + 3) (λ q. n (omega arith)) t;
  amount = signed_of (other ls i l (line_length * j + 4) (λ q. n (omega arith)) t);
}

pub read_other : (ls : List ℕ) (i j : ℕ) (l : Line) → j ≢ i → line_at (with_line ls i l) j ≡ line_at ls j
unfolding line_at with_line
read_other ls i j l n = go (has_line ls i) refl
  where
    go : (t : Bool) → has_line ls i ≡ t → line_at (with_line ls i l) j ≡ line_at ls j
    go true e = rw (e, fields_length ls i l, fields_other ls i j l n)
    go false e = rw e
