-- What an accepted cession does: to the two commitments and the ledger, and that every cession leaves a sound register sound.
-- Assumes nothing.
use mathlib.Core.Path.{◌≡◌, refl, sym, ap, ◌∙◌, subst}
use mathlib.Core.Bool.{true, false, ◌&&◌}
use mathlib.Core.List.{List}
use Prim.Native.Nat.{ℕ, zero, suc, ◌+◌, ◌-◌, ◌≤◌, ◌<◌}
use native.Mathlib.Decide.{ℕ_discrete}
use native.Mathlib.Omega.{arith}
use lib.Dec.{leb}
use lib.IntN.{ℤ, pos, neg_ℤ, ◌-ℤ◌, +ℤ_idl}
use lib.ListN.{set, length, length-set}
use borrow.Author.Tests.{le-leb}
use mir.Syntax.{w32}
use mir.Val.{SFits, to_z, of_z}
use mir.Facts.{to_z-of_z, to_z_pos}
use Rattle.std.proofs.lemmas.Bool.{and_from as both}
use Rattle.parts.specs.declared.points.Point.{Point}
use Rattle.parts.specs.declared.accounts.Account.{Account}
use Rattle.ledger.specs.declared.ledger.Line.{Line}
use Rattle.parts.specs.declared.registers.Register.{Register}
use Rattle.parts.specs.Limits.{user_count, most_amount}
use Rattle.parts.specs.Registers.{State, account_at, with_account, absent_user}
use Rattle.ledger.specs.Ledger.{line_at, with_line, line_last}
use Rattle.parts.specs.Charges.{discharged}
use Rattle.parts.specs.Accounts.{account_ok}
use Rattle.order.specs.Order.{amount_ok, line_ok}
use Rattle.register.specs.Sound.{Sound}
use Rattle.std.proofs.lemmas.Bool.{or_left}
use Rattle.ledger.proofs.LedgerLaws.{with_length, read_back, read_other}
use Rattle.ledger.proofs.LineLaws.{annual_last_lem}
use Rattle.order.proofs.OrderFacts.{InOrder, in_order_lem, guarantee_le, commitment_le, on_file_ok, line_ok_lem}
use Rattle.order.proofs.OrderKept.{set_keeps, account_same, account_other, field_kept, line_carry}
use Rattle.conferral.specs.Bookings.{committed}
use Rattle.spans.proofs.SpanLaws.{SpanFacts, span_facts}
use Rattle.conferral.proofs.BookedLaws.{amount_fits_lem, amount_ok_lem, line_keeps}
use Rattle.cession_decision.specs.declared.deciding.Cession.{Cession}
use Rattle.cession_decision.specs.CessionQuestions.{giver_of, receiver_of, span_first, span_last, charge_of}
use Rattle.cession_decision.proofs.CessionLaws.{FieldFacts}
use Rattle.cessions.specs.CedeCapacity.{charge_moved, annual_line, minus_line, plus_line, cession_number, ceded, cession_after}
use Rattle.cessions.proofs.AnswerLaws.{CessionFacts, facts, accepted_after, refused_after}

-- t is s with an amount ceded, number by number
pub record CededIn (s : State) (c : Cession) (t : State) : Type 0 where
  pub year : t.register.year ≡ s.register.year
  pub points : t.register.points ≡ s.register.points
  -- "Free amounts don't move."
  pub free : t.free ≡ s.free
  -- "The charge moves between the commitments": out of the giver's, into the receiver's, and together they are what they were. Every
  -- other account is unchanged
  pub giver : (giver_of t.register c).commitment + charge_of s.register c ≡ (giver_of s.register c).commitment
  pub receiver : (receiver_of t.register c).commitment ≡ (receiver_of s.register c).commitment + charge_of s.register c
  pub together : (giver_of t.register c).commitment + (receiver_of t.register c).commitment
      ≡ (giver_of s.register c).commitment + (receiver_of s.register c).commitment
  pub guarantees : (i : ℕ) → (account_at t.register.accounts i).guarantee ≡ (account_at s.register.accounts i).guarantee
  pub on_file : (i : ℕ) → (account_at t.register.accounts i).on_file ≡ (account_at s.register.accounts i).on_file
  pub other_user : (i : ℕ) → (i ≡ c.giver → ⊥) → (i ≡ c.receiver → ⊥) → account_at t.register.accounts i ≡ account_at s.register.accounts i
  -- "two annual lines, minus then plus", which end with the year, and every other line is unchanged
  pub lines : t.register.lines ≡ s.register.lines + 2
  pub minus : line_at t.ledger s.register.lines ≡ minus_line c
  pub plus : line_at t.ledger (s.register.lines + 1) ≡ plus_line c
  pub minus_ends : line_last t.register.year (line_at t.ledger s.register.lines) ≡ span_last s.register
  pub plus_ends : line_last t.register.year (line_at t.ledger (s.register.lines + 1)) ≡ span_last s.register
  pub other_line : (i : ℕ) → (i ≡ s.register.lines → ⊥) → (i ≡ s.register.lines + 1 → ⊥) → line_at t.ledger i ≡ line_at s.ledger i
  -- a sound register stays sound: sized and in order
  pub sound : Sound t

-- the amount with a minus fits a line, and is in order there (`amount_fits_lem` and `amount_ok_lem` say it of the amount itself)
pub minus_fits : (n : ℕ) → 1 ≤ n → n ≤ most_amount → SFits w32 (neg_ℤ (pos n))
minus_fits zero a b = absurd (omega arith)
minus_fits (suc m) a b = record { sfits = omega arith }

pub minus_ok : (n : ℕ) → 1 ≤ n → n ≤ most_amount → amount_ok (neg_ℤ (pos n)) ≡ true
minus_ok zero a b = absurd (omega arith)
minus_ok (suc m) a b =
    or_left (leb m (most_amount - 1) && leb 0 m) false (both _ _ (le-leb m (most_amount - 1) (omega arith)) (le-leb 0 m (omega arith)))

-- what the code has for it: 0 less the amount
minus_is : (n : ℕ) → n ≤ most_amount → pos 0 -ℤ to_z w32 n ≡ neg_ℤ (pos n)
minus_is n h =
    let small : n < 2147483648 = omega (arith, h) in
    ap (λ (z : ℤ). pos 0 -ℤ z) (to_z_pos w32 small) ∙ +ℤ_idl (neg_ℤ (pos n))

pub minus_local : (n : ℕ) → 1 ≤ n → n ≤ most_amount → SFits w32 (pos 0 -ℤ to_z w32 n)
minus_local n a b = rw (minus_is n b) (minus_fits n a b)

pub minus_held : (n : ℕ) → 1 ≤ n → n ≤ most_amount → to_z w32 (of_z w32 (pos 0 -ℤ to_z w32 n)) ≡ neg_ℤ (pos n)
minus_held n a b = to_z-of_z {w = w32} (minus_local n a b) ∙ minus_is n b

module _ (r : Register) (c : Cession) where
  -- "The charge moves between the commitments": the receiver's account is what it was before the giver's is lowered
  pub moved_as : (n : ℕ) (lowered raised : Account) → FieldFacts c → lowered ≡ discharged (giver_of r c) n → raised ≡ committed (receiver_of r c) n
      → with_account (with_account r c.giver lowered) c.receiver raised ≡ charge_moved r c n
  moved_as n lowered raised w e h =
      let kept : account_at (with_account r c.giver (discharged (giver_of r c) n)).accounts c.receiver ≡ receiver_of r c =
      account_other r.accounts c.giver (discharged (giver_of r c) n) c.receiver (λ q. w.apart (sym q)) in
      rw (e, h, kept)

-- ---- ceded
module _ (s : State) (c : Cession) (sound : Sound s) (w : CessionFacts s c) where
  abbrev y : ℕ
  y = s.register.year

  abbrev ps : List Point
  ps = s.register.points

  abbrev us : List Account
  us = s.register.accounts

  abbrev cost : ℕ
  cost = charge_of s.register c

  -- the giver's account afterwards, the accounts with it, and then the receiver's
  abbrev lowered : Account
  lowered = discharged (giver_of s.register c) cost

  abbrev halfway : List Account
  halfway = set us c.giver lowered

  abbrev raised : Account
  raised = committed (account_at halfway c.receiver) cost

  -- the place of the first new line, and the ledger with it
  abbrev at : ℕ
  at = s.register.lines

  abbrev minus_written : List ℕ
  minus_written = with_line s.ledger at (minus_line c)

  order : InOrder s
  order = w.order

  span : SpanFacts y c.arrival (span_first c) (span_last s.register)
  span = span_facts y c.arrival (span_first c) (span_last s.register) w.in_year

  giver_in : c.giver < length us
  giver_in = omega (arith, sound.sized.accounts, w.fields.giver)

  receiver_in : c.receiver < length halfway
  receiver_in = omega (arith, length-set us c.giver lowered, sound.sized.accounts, w.fields.receiver)

  -- ---- the accounts
  receiver_before : account_at halfway c.receiver ≡ receiver_of s.register c
  receiver_before = account_other us c.giver lowered c.receiver (λ q. w.fields.apart (sym q))

  filed_still : (i : ℕ) → (account_at (ceded s c).register.accounts i).on_file ≡ (account_at us i).on_file
  unfolding ceded
  filed_still i =
      field_kept (λ a. a.on_file) halfway c.receiver raised refl i ∙ field_kept (λ a. a.on_file) us c.giver lowered refl i

  guarantee_still : (i : ℕ) → (account_at (ceded s c).register.accounts i).guarantee ≡ (account_at us i).guarantee
  unfolding ceded
  guarantee_still i =
      field_kept (λ a. a.guarantee) halfway c.receiver raised refl i ∙ field_kept (λ a. a.guarantee) us c.giver lowered refl i

  giver_now : giver_of (ceded s c).register c ≡ lowered
  unfolding ceded
  giver_now =
      account_other halfway c.receiver raised c.giver w.fields.apart ∙ account_same us c.giver lowered giver_in

  receiver_now : receiver_of (ceded s c).register c ≡ raised
  unfolding ceded
  receiver_now = account_same halfway c.receiver raised receiver_in

  other_account : (i : ℕ) → (i ≡ c.giver → ⊥) → (i ≡ c.receiver → ⊥) → account_at (ceded s c).register.accounts i ≡ account_at us i
  unfolding ceded
  other_account i g r =
      account_other halfway c.receiver raised i r ∙ account_other us c.giver lowered i g

  giver_less : (giver_of (ceded s c).register c).commitment + cost ≡ (giver_of s.register c).commitment
  giver_less =
      let e : (giver_of (ceded s c).register c).commitment ≡ (giver_of s.register c).commitment - cost = ap (λ (a : Account). a.commitment) giver_now in
      omega (arith, e, w.giver_charge)

  receiver_more : (receiver_of (ceded s c).register c).commitment ≡ (receiver_of s.register c).commitment + cost
  receiver_more =
      ap (λ (a : Account). a.commitment) receiver_now ∙ ap (λ (a : Account). a.commitment + cost) receiver_before

  lowered_ok : account_ok lowered ≡ true
  lowered_ok =
      let ok = order.accounts c.giver w.fields.giver in
      on_file_ok lowered
      (record {
        filed = w.filed_giver;
        guarantee = guarantee_le (giver_of s.register c) ok;
        commitment = omega (arith, commitment_le (giver_of s.register c) ok);
      })

  raised_ok : account_ok raised ≡ true
  raised_ok =
      subst (λ (a : Account). account_ok (committed a cost) ≡ true) (sym receiver_before)
      (on_file_ok (committed (receiver_of s.register c) cost)
      (record {
        filed = w.filed_receiver;
        guarantee = guarantee_le (receiver_of s.register c) (order.accounts c.receiver w.fields.receiver);
        commitment = w.covered;
      }))

  -- ---- the lines
  minus_first : line_at minus_written at ≡ minus_line c
  minus_first =
      read_back s.ledger at (minus_line c) (omega (arith, order.ledger_length_lem, w.lines))
      (minus_fits c.amount w.fields.amount.from w.fields.amount.to)

  minus_now : line_at (ceded s c).ledger at ≡ minus_line c
  unfolding ceded
  minus_now = read_other minus_written (at + 1) at (plus_line c) (λ q. omega arith) ∙ minus_first

  plus_now : line_at (ceded s c).ledger (at + 1) ≡ plus_line c
  unfolding ceded
  plus_now =
      read_back minus_written (at + 1) (plus_line c)
      (omega (arith, with_length s.ledger at (minus_line c), order.ledger_length_lem, w.lines))
      (amount_fits_lem c.amount w.fields.amount.to)

  other_line : (i : ℕ) → (i ≡ at → ⊥) → (i ≡ at + 1 → ⊥) → line_at (ceded s c).ledger i ≡ line_at s.ledger i
  unfolding ceded
  other_line i m p =
      read_other minus_written (at + 1) i (plus_line c) p ∙ read_other s.ledger at i (minus_line c) m

  -- a line of the giver or of the receiver
  new_line_ok : (user : ℕ) (amount : ℤ) → user < user_count → (account_at us user).on_file ≡ 1 → amount_ok amount ≡ true
      → line_ok y ps (ceded s c).register.accounts (annual_line user c.point (span_first c) amount) ≡ true
  new_line_ok user amount h filed ok =
      line_ok_lem y ps (ceded s c).register.accounts (annual_line user c.point (span_first c) amount)
      (record {
        user = h;
        point = w.fields.point;
        filed = filed_still user ∙ filed;
        open_point_lem = w.open_point_lem;
        kind = record { from = omega arith; to = omega arith };
        first = record { from = span.fit.begins; to = omega (arith, span.fit.ordered, span.fit.ends) };
        month = refl;
        amount = ok;
      })

  minus_line_ok : line_ok y ps (ceded s c).register.accounts (minus_line c) ≡ true
  minus_line_ok =
      new_line_ok c.giver (neg_ℤ (pos c.amount)) w.fields.giver w.filed_giver (minus_ok c.amount w.fields.amount.from w.fields.amount.to)

  plus_line_ok : line_ok y ps (ceded s c).register.accounts (plus_line c) ≡ true
  plus_line_ok =
      new_line_ok c.receiver (pos c.amount) w.fields.receiver w.filed_receiver (amount_ok_lem c.amount w.fields.amount.from w.fields.amount.to)

  old_line_ok : (i : ℕ) → i < at → line_ok y ps (ceded s c).register.accounts (line_at s.ledger i) ≡ true
  old_line_ok i h =
      line_carry y ps ps us (ceded s c).register.accounts (line_at s.ledger i) (λ f. filed_still _ ∙ f) (λ f. f) (order.lines i h)

  line_still : (i : ℕ) → i < at + 2 → line_ok y ps (ceded s c).register.accounts (line_at (ceded s c).ledger i) ≡ true
  unfolding ceded
  line_still i h =
      let P : Line → Type 0 = λ l. line_ok y ps (ceded s c).register.accounts l ≡ true in
      line_keeps P minus_written (at + 1) (plus_line c) i plus_now plus_line_ok
      (λ p. line_keeps P s.ledger at (minus_line c) i minus_first minus_line_ok (λ m. old_line_ok i (omega (arith, h, p, m))))

  -- ---- in order again
  ceded_order : InOrder (ceded s c)
  unfolding ceded
  ceded_order =
      let P : Account → Type 0 = λ a. account_ok a ≡ true in
      record {
        table_length_lem = order.table_length_lem;
        ledger_length_lem = with_length minus_written (at + 1) (plus_line c) ∙ with_length s.ledger at (minus_line c) ∙ order.ledger_length_lem;
        few = w.lines;
        year = order.year;
        points = order.points;
        accounts = λ i h. set_keeps P halfway c.receiver raised absent_user i receiver_in raised_ok (set_keeps P us c.giver lowered absent_user i giver_in lowered_ok (order.accounts i h));
        free = order.free;
        lines = line_still;
      }

  ceded_sound : Sound (ceded s c)
  unfolding ceded
  ceded_sound =
      record {
        sized = record {
          points = sound.sized.points;
          accounts = length-set halfway c.receiver raised ∙ length-set us c.giver lowered ∙ sound.sized.accounts;
        };
        order = in_order_lem (ceded s c) ceded_order;
      }

  ceded_in : CededIn s c (ceded s c)
  unfolding ceded
  ceded_in =
      record {
        year = refl;
        points = refl;
        free = refl;
        giver = giver_less;
        receiver = receiver_more;
        together = omega (arith, giver_less, receiver_more);
        guarantees = guarantee_still;
        on_file = filed_still;
        other_user = other_account;
        lines = refl;
        minus = minus_now;
        plus = plus_now;
        minus_ends = ap (line_last y) minus_now ∙ annual_last_lem y (minus_line c) refl;
        plus_ends = ap (line_last y) plus_now ∙ annual_last_lem y (plus_line c) refl;
        other_line = other_line;
        sound = ceded_sound;
      }

-- an accepted cession: its charge moves from the giver's commitment to the receiver's, its two lines are written and end with the year,
-- and every other number is unchanged; and the register is sound again
pub cession_ceded : (s : State) (c : Cession) → Sound s → cession_number s c ≡ 0 → CededIn s c (cession_after s c)
cession_ceded s c sound z = subst (CededIn s c) (sym (accepted_after s c z)) (ceded_in s c sound (facts s c z))

-- every cession, whatever it is answered, leaves a sound register sound
pub cession_keeps : (s : State) (c : Cession) → Sound s → Sound (cession_after s c)
cession_keeps s c sound = go (ℕ_discrete (cession_number s c) 0)
  where
    go : Dec (cession_number s c ≡ 0) → Sound (cession_after s c)
    go (yes z) = (cession_ceded s c sound z).sound
    go (no n) = subst Sound (refused_after s c n) sound
