-- Cases p1 to p12 of document 01, by the laws of the crates below: question 1 and the table are never computed.
-- Assumes nothing.
use mathlib.Core.Path.{◌≡◌, refl, sym, ap, ap₂, ◌∙◌, subst}
use mathlib.Core.Bool.{Bool, true, false, not, ◌&&◌}
use mathlib.Core.List.{List, [], ◌∷◌}
use Prim.Native.Nat.{ℕ, ◌+◌, ◌*◌, ◌-◌, ◌≤◌, ◌<◌}
use native.Mathlib.Nat.{mul-le-mul}
use native.Mathlib.Decide.{ℕ_discrete}
use native.Mathlib.Omega.{arith}
use lib.Dec.{ltb}
use lib.ListN.{get_or, replicate, get_or-replicate, length-replicate}
use borrow.Author.Tests.{le-leb, lt-ltb, ltb-true, ne_eqb}
use Rattle.days.specs.Days.{between}
use Rattle.calendar.specs.ThermalYears.{in_thermal_year, thermal_first, thermal_last}
use Rattle.days.proofs.Ranges.{and_left, and_right, Within, within, is_between}
use Rattle.std.proofs.lemmas.Bool.{and_from as both}
use Rattle.calendar.proofs.Cases.{cases}
use Rattle.parts.specs.declared.points.Point.{Point}
use Rattle.parts.specs.declared.accounts.Account.{Account}
use Rattle.parts.specs.Limits.{point_count, user_count, line_count, most_amount}
use Rattle.parts.specs.Tests.{all_below, some_below}
use Rattle.parts.specs.Registers.{State, point_at, account_at, closed_point, absent_user, point, blank_register}
use Rattle.amounts.specs.Amounts.{span_days, year_days, free_on}
use Rattle.parts.specs.Charges.{charge}
use Rattle.parts.specs.Points.{is_open}
use Rattle.parts.specs.Accounts.{is_on_file}
use Rattle.parts.proofs.TestLaws.{all_at}
use Rattle.amounts.proofs.RangeLaws.{replaced_same, replaced_all}
use Rattle.amounts.proofs.CalendarLaws.{year_facts, day_within, day_year}
use Rattle.amounts.proofs.AmountLaws.{row_in, capacity_in}
use Rattle.parts.proofs.AnswerLaws.{passed, leaves_new}
use Rattle.register.specs.Fresh.{fresh_state}
use Rattle.register.specs.Sound.{Sound}
use Rattle.order.proofs.OrderFacts.{ordered}
use Rattle.order.proofs.OrderKept.{point_same, account_same, account_other, field_kept}
use Rattle.register.proofs.FreshKept.{fresh_sound}
use Rattle.opening.specs.OpenPoint.{open_questions, open_number, opened, open_after}
use Rattle.placing.specs.PlaceGuarantee.{place_fields, place_questions, place_number, placed, place_after}
use Rattle.placing.proofs.PlaceLaws.{fields_user}
use Rattle.opening.proofs.Kept.{open_keeps}
use Rattle.placing.proofs.Kept.{place_keeps}
use Rattle.conferral.specs.Bookings.{covers}
use Rattle.requests.specs.RequestCapacity.{request_number, request_amount}
use Rattle.requests.proofs.Cases.{p8, p8_late, p9, p10, p10_uncovered, p10_covered}
use Rattle.shares.specs.Batches.{Batch, lines_of, user_of, asked_of, named_before, charge_asked, line_questions, line_number}
use Rattle.shares.specs.Shares.{free_of_year, share_of, number_of_line, list_of}
use Rattle.shares.specs.ShareLines.{batch_fields, shares_of, numbers_of}
use Rattle.batches.specs.ConferBatch.{batch_number}
use Rattle.batches.proofs.AnswerLaws.{passes_answered}
use Rattle.shares.proofs.ShareLaws.{free_of_year_is, list_at}
use Rattle.shares.proofs.Cases.{p11, p12}
use Rattle.reckoning.specs.Calls.{Answer, told_batch, place_guarantee, confer_batch, answer, register_after}
use Rattle.proved_cases.specs.Cases.{opening, register_of_one, ample, register_of_three, annual_of_ten, batch_of_three, batch_of_two, ProvedCases}

-- ---- the register of the cases
-- a user on file who has nothing committed
abbrev uncommitted : ℕ → Account
uncommitted g = record { on_file = 1; guarantee = g; commitment = 0 }

-- what the cases need of it: 2023, with no line written and no charge
record Unused (s : State) : Type 0 where
  pub sound : Sound s
  pub year : s.register.year ≡ 2023
  pub lines : s.register.lines ≡ 0
  pub commitment : (u : ℕ) → u < user_count → (account_at s.register.accounts u).commitment ≡ 0

-- and point 0 open with nothing conferred
record Example (s : State) : Type 0 where
  pub unused : Unused s
  pub open_point_lem : point_at s.register.points 0 ≡ point 2 1000 100
  pub free : (d : ℕ) → in_thermal_year s.register.year d ≡ true → free_on s 0 d ≡ 1000

fresh_unused : Unused (fresh_state 2023)
unfolding blank_register
fresh_unused =
    record {
      sound = fresh_sound 2023 refl;
      year = refl;
      lines = refl;
      commitment = λ u b. ap (λ (a : Account). a.commitment) (get_or-replicate user_count u absent_user absent_user b);
    }

fresh_closed : is_open (point_at (fresh_state 2023).register.points 0) ≡ false
unfolding blank_register
fresh_closed = ap is_open (get_or-replicate point_count 0 closed_point closed_point (omega arith))

-- point 0 is opened
module _ (s : State) (w : Unused s) (closed : is_open (point_at s.register.points 0) ≡ false) where
  open_accepted : open_number s 0 2 1000 100 ≡ 0
  unfolding open_number
  open_accepted = passed (open_questions s 0 2 1000 100) (w.sound.order, (refl, (ap not closed, tt)))

  open_leaves : open_after s 0 2 1000 100 ≡ opened s 0 2 1000 100
  unfolding open_after
  open_leaves = leaves_new (open_number s 0 2 1000 100) (opened s 0 2 1000 100) s open_accepted

  opened_free : (d : ℕ) → in_thermal_year s.register.year d ≡ true → free_on (opened s 0 2 1000 100) 0 d ≡ 1000
  unfolding opened
  opened_free d h =
      let y = s.register.year in
      let within = day_within y d h in
      let facts = year_facts y (day_year y d h) in
      let k : d - thermal_first y < year_days y = omega (arith, within.from, within.to) in
      row_in s.free 0 (year_days y) (point 2 1000 100) (d - thermal_first y) (omega (arith, k, facts.most)) (omega (arith, k, facts.most, (ordered s w.sound.order).table_length_lem))
      ∙ capacity_in (year_days y) (point 2 1000 100) (d - thermal_first y) k

  opened_example : Sound (opened s 0 2 1000 100) → Example (opened s 0 2 1000 100)
  unfolding opened
  opened_example sound =
      record {
        unused = record { sound = sound; year = w.year; lines = w.lines; commitment = w.commitment };
        open_point_lem = point_same s.register.points 0 (point 2 1000 100) (omega (arith, w.sound.sized.points));
        free = opened_free;
      }

  open_example : Example (open_after s 0 2 1000 100)
  open_example =
      subst Example (sym open_leaves) (opened_example (subst Sound open_leaves (open_keeps s 0 2 1000 100 w.sound)))

-- a guarantee is placed
module _ (s : State) (u g : ℕ) (w : Example s) (fields : place_fields u g ≡ true) where
  place_accepted : place_number s u g ≡ 0
  unfolding place_number
  place_accepted =
      passed (place_questions s u g)
      (w.unused.sound.order, (fields, (le-leb (account_at s.register.accounts u).commitment g (omega (arith, w.unused.commitment u (fields_user u g fields))), tt)))

  place_leaves : place_after s u g ≡ placed s u g
  unfolding place_after
  place_leaves = leaves_new (place_number s u g) (placed s u g) s place_accepted

  -- the user's account, and the others
  placed_user : account_at (placed s u g).register.accounts u ≡ uncommitted g
  unfolding placed
  placed_user =
      account_same s.register.accounts u _ (omega (arith, w.unused.sound.sized.accounts, fields_user u g fields))
      ∙ ap (λ (n : ℕ). record { on_file = 1; guarantee = g; commitment = n }) (w.unused.commitment u (fields_user u g fields))

  placed_other : (v : ℕ) → (v ≡ u → ⊥) → account_at (placed s u g).register.accounts v ≡ account_at s.register.accounts v
  unfolding placed
  placed_other v ne = account_other s.register.accounts u _ v ne

  placed_commitment : (v : ℕ) → v < user_count → (account_at (placed s u g).register.accounts v).commitment ≡ 0
  unfolding placed
  placed_commitment v b = field_kept (λ (a : Account). a.commitment) s.register.accounts u _ refl v ∙ w.unused.commitment v b

  placed_example : Sound (placed s u g) → Example (placed s u g)
  unfolding placed
  placed_example sound =
      record {
        unused = record { sound = sound; year = w.unused.year; lines = w.unused.lines; commitment = placed_commitment };
        open_point_lem = w.open_point_lem;
        free = w.free;
      }

  place_example : Example (place_after s u g)
  place_example =
      subst Example (sym place_leaves) (placed_example (subst Sound place_leaves (place_keeps s u g w.unused.sound)))

  place_user : account_at (place_after s u g).register.accounts u ≡ uncommitted g
  place_user = ap (λ (t : State). account_at t.register.accounts u) place_leaves ∙ placed_user

  place_other : (v : ℕ) → (v ≡ u → ⊥) → account_at (place_after s u g).register.accounts v ≡ account_at s.register.accounts v
  place_other v ne = ap (λ (t : State). account_at t.register.accounts v) place_leaves ∙ placed_other v ne

-- the registers of the table
opened_2023 : Example (register_after 2023 (opening ∷ []))
opened_2023 = open_example (fresh_state 2023) fresh_unused fresh_closed

one_user : (g : ℕ) → place_fields 5 g ≡ true → Example (register_of_one g)
one_user g fields = place_example (register_after 2023 (opening ∷ [])) 5 g opened_2023 fields

one_account : (g : ℕ) → place_fields 5 g ≡ true → account_at (register_of_one g).register.accounts 5 ≡ uncommitted g
one_account g fields = place_user (register_after 2023 (opening ∷ [])) 5 g opened_2023 fields

abbrev register_of_two : State
register_of_two = register_after 2023 (opening ∷ place_guarantee 5 ample ∷ place_guarantee 6 ample ∷ [])

two_users : Example register_of_two
two_users = place_example (register_of_one ample) 6 ample (one_user ample refl) refl

three_users : Example register_of_three
three_users = place_example register_of_two 7 ample two_users refl

three_accounts : (u : ℕ) → Within 5 7 u → account_at register_of_three.register.accounts u ≡ uncommitted ample
three_accounts u w = go (ℕ_discrete u 7) (ℕ_discrete u 6)
  where
    is : ℕ → Type 0
    is v = account_at register_of_three.register.accounts v ≡ uncommitted ample

    go : Dec (u ≡ 7) → Dec (u ≡ 6) → is u
    go (yes e) h = subst is (sym e) (place_user register_of_two 7 ample two_users refl)
    go (no ne) (yes e) =
        place_other register_of_two 7 ample two_users refl u ne
        ∙ ap (account_at register_of_two.register.accounts) e
        ∙ place_user (register_of_one ample) 6 ample (one_user ample refl) refl
    go (no ne) (no nf) =
        let e : u ≡ 5 = omega (arith, w.from, w.to) in
        place_other register_of_two 7 ample two_users refl u ne
        ∙ place_other (register_of_one ample) 6 ample (one_user ample refl) refl u nf
        ∙ ap (account_at (register_of_one ample).register.accounts) e
        ∙ one_account ample refl

-- ---- p8 to p10: what user 5 is answered
module _ (s : State) (g : ℕ) (w : Example s) (account : account_at s.register.accounts 5 ≡ uncommitted g) where
  is_open_lem : is_open (point_at s.register.points 0) ≡ true
  is_open_lem = ap is_open w.open_point_lem

  filed : is_on_file (account_at s.register.accounts 5) ≡ true
  filed = ap is_on_file account

  rate : (point_at s.register.points 0).rate ≡ 100
  rate = ap (λ (p : Point). p.rate) w.open_point_lem

  commitment : (account_at s.register.accounts 5).commitment ≡ 0
  commitment = ap (λ (a : Account). a.commitment) account

  guarantee : (account_at s.register.accounts 5).guarantee ≡ g
  guarantee = ap (λ (a : Account). a.guarantee) account

  late : request_number s (annual_of_ten 8690) ≡ 9
  late = p8_late s (annual_of_ten 8690) w.unused.year w.unused.sound.order refl is_open_lem filed refl refl

  early : request_number s (annual_of_ten 8643) ≡ 8
  early = p9 s (annual_of_ten 8643) w.unused.year w.unused.sound.order refl is_open_lem filed refl refl

  uncovered : g ≡ 334999 → request_number s (annual_of_ten 8689) ≡ 11
  uncovered e =
      p10_uncovered s (annual_of_ten 8689) w.unused.year w.unused.sound.order refl is_open_lem filed refl refl refl rate commitment
      (guarantee ∙ e)

  covered : g ≡ 335000 → (request_number s (annual_of_ten 8689) ≡ 0) × (request_amount s (annual_of_ten 8689) ≡ 10)
  covered e =
      p10_covered s (annual_of_ten 8689) w.unused.year w.unused.sound.order refl is_open_lem filed refl refl refl rate commitment
      (guarantee ∙ e)
      (omega (arith, w.unused.lines))
      (λ d h. omega (arith, w.free d h))

-- ---- p11 and p12: a batch whose lines name users 5 to 7, each once, and ask for no more than 1,000
abbrev line_test : Batch → ℕ → Bool
line_test b i = between 5 7 (user_of b i) && (between 1 1000 (asked_of b i) && not (named_before b.users i))

year_free : (s : State) → Example s → free_of_year s 0 ≡ 1000
year_free s w =
    let t = free_of_year_is s 0 (ordered s w.unused.sound.order).year in
    sym t.1.1 ∙ w.free t.0 t.1.0

module _ (s : State) (w : Example s) (users : (u : ℕ) → Within 5 7 u → account_at s.register.accounts u ≡ uncommitted ample) (b : Batch) (at : b.point ≡ 0) where
  point_is : point_at s.register.points b.point ≡ point 2 1000 100
  point_is = ap (point_at s.register.points) at ∙ w.open_point_lem

  -- each line passes
  line_passes : (i : ℕ) → line_test b i ≡ true → line_number s.register b i ≡ 0
  unfolding line_number
  line_passes i h =
      let named = between 5 7 (user_of b i) in
      let within-asked = between 1 1000 (asked_of b i) in
      let once = not (named_before b.users i) in
      let rest = and_right named (within-asked && once) h in
      let u = within 5 7 (user_of b i) (and_left named (within-asked && once) h) in
      let a = within 1 1000 (asked_of b i) (and_left within-asked once rest) in
      let days = (year_facts s.register.year (ordered s w.unused.sound.order).year).most in
      let rate-is : (point_at s.register.points b.point).rate ≤ 100 = omega (arith, ap (λ (p : Point). p.rate) point_is) in
      let cost : charge_asked s.register b i ≤ 1000 * 366 * 100 = mul-le-mul (mul-le-mul a.to days) rate-is in
      let account = users (user_of b i) u in
      passed (line_questions s.register b i)
      (both _ _ (lt-ltb (user_of b i) user_count (omega (arith, u.to))) (is_between 1 most_amount (asked_of b i) a.from (omega (arith, a.to))), (and_right within-asked once rest, (ap is_on_file account, (ap (λ (x : Account). covers x (charge_asked s.register b i)) account ∙ le-leb (0 + charge_asked s.register b i) ample (omega (arith, cost)), tt))))

  module _ (lines : all_below (lines_of b) (line_test b) ≡ true) (few : lines_of b ≤ line_count) (fields : batch_fields b (lines_of b) (lines_of b) ≡ true) where
    pass : (i : ℕ) → i < lines_of b → line_number s.register b i ≡ 0
    pass i l = line_passes i (all_at (line_test b) (lines_of b) i lines l)

    batch_accepted : batch_number s b (lines_of b) (lines_of b) ≡ 0
    batch_accepted =
        let left : s.register.lines + lines_of b ≤ line_count = omega (arith, w.unused.lines) in
        passes_answered s b (lines_of b) (lines_of b) (w.unused.sound.order, (fields, (ap is_open point_is, (le-leb _ _ left, tt))))

    -- the shares are what a law of such lines says. Where each is above 0, each line's number is 0
    module _ (l : List ℕ) (law : ((i : ℕ) → i < lines_of b → line_number s.register b i ≡ 0) → free_of_year s b.point ≡ 1000 → shares_of s b ≡ l)
        (some : all_below (lines_of b) (λ i. ltb 0 (get_or l i 0)) ≡ true) where
      shares : shares_of s b ≡ l
      shares = law pass (ap (free_of_year s) at ∙ year_free s w)

      number_zero : (i : ℕ) → i < lines_of b → number_of_line s b i ≡ 0
      unfolding shares_of number_of_line
      number_zero i h =
          let share : share_of s b i ≡ get_or l i 0 = sym (list_at (lines_of b) (share_of s b) i h) ∙ ap (λ (x : List ℕ). get_or x i 0) shares in
          let above = ltb-true 0 (get_or l i 0) (all_at (λ i. ltb 0 (get_or l i 0)) (lines_of b) i some h) in
          rw (pass i h, ne_eqb (share_of s b i) 0 (λ e. omega (arith, e, share, above)))

      numbers_zero : numbers_of s b ≡ replicate (lines_of b) 0
      unfolding numbers_of list_of
      numbers_zero =
          replaced_same (replicate (lines_of b) 0) 0 (lines_of b) (number_of_line s b) (λ i. 0) number_zero
          ∙ replaced_all (replicate (lines_of b) 0) (lines_of b) 0 (length-replicate (lines_of b) 0)

      conferred : answer s (confer_batch b (lines_of b) (lines_of b)) ≡ told_batch 0 l (replicate (lines_of b) 0)
      conferred =
          ap (λ (n : ℕ). told_batch n (shares_of s b) (numbers_of s b)) batch_accepted ∙ ap₂ (told_batch 0) shares numbers_zero

-- the lines of the two batches
three_pass : all_below 3 (line_test (batch_of_three 700 500 300)) ≡ true
unfolding all_below named_before some_below
three_pass = refl

two_pass : all_below 2 (line_test (batch_of_two 700 300)) ≡ true
unfolding all_below named_before some_below
two_pass = refl

three_conferred : answer register_of_three (confer_batch (batch_of_three 700 500 300) 3 3) ≡ told_batch 0 (466 ∷ 333 ∷ 200 ∷ []) (0 ∷ 0 ∷ 0 ∷ [])
unfolding all_below
three_conferred =
    conferred register_of_three three_users three_accounts (batch_of_three 700 500 300) refl three_pass (omega arith) refl (466 ∷ 333 ∷ 200 ∷ []) (p11 register_of_three (batch_of_three 700 500 300) refl refl) refl

two_conferred : answer register_of_three (confer_batch (batch_of_two 700 300) 2 2) ≡ told_batch 0 (700 ∷ 300 ∷ []) (0 ∷ 0 ∷ [])
unfolding all_below
two_conferred =
    conferred register_of_three three_users three_accounts (batch_of_two 700 300) refl two_pass (omega arith) refl (700 ∷ 300 ∷ []) (p12 register_of_three (batch_of_two 700 300) refl refl) refl

-- ---- the table
pub proved_cases : ProvedCases
proved_cases =
    record {
      p1 = cases.p1;
      p1_sunday = cases.p1_sunday;
      p2 = cases.p2;
      p3 = cases.p3;
      p4 = cases.p4;
      p5 = cases.p5;
      p6 = cases.p6;
      p7 = cases.p7;
      p7_sixteenth = cases.p7_sixteenth;
      p8 = p8;
      p8_late = late (register_of_one ample) ample (one_user ample refl) (one_account ample refl);
      p9 = early (register_of_one ample) ample (one_user ample refl) (one_account ample refl);
      p10 = ap (λ (d : ℕ). charge 10 (span_days d (thermal_last 2023)) 100) (sym p8) ∙ p10;
      p10_uncovered = uncovered (register_of_one 334999) 334999 (one_user 334999 refl) (one_account 334999 refl) refl;
      p10_covered = (covered (register_of_one 335000) 335000 (one_user 335000 refl) (one_account 335000 refl) refl).0;
      p10_granted = (covered (register_of_one 335000) 335000 (one_user 335000 refl) (one_account 335000 refl) refl).1;
      p11_free = year_free register_of_three three_users;
      p11 = ap (λ (a : Answer). a.shares) three_conferred;
      p11_number = ap (λ (a : Answer). a.number) three_conferred;
      p11_numbers = ap (λ (a : Answer). a.numbers) three_conferred;
      p12 = ap (λ (a : Answer). a.shares) two_conferred;
      p12_number = ap (λ (a : Answer). a.number) two_conferred;
      p12_numbers = ap (λ (a : Answer). a.numbers) two_conferred;
    }
