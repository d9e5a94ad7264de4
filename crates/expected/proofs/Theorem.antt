-- Demand 3 of document 01, proved: of every year within limits and every list of calls, of their answers and of what they led to.
-- Assumes nothing.
use mathlib.Core.Path.{◌≡◌, refl, sym, ap, ap₂, ◌∙◌, subst}
use mathlib.Core.Bool.{true}
use mathlib.Core.List.{List, [], ◌∷◌, ◌++◌, head-eq_of_cons-eq, tail-eq_of_cons-eq}
use Prim.Native.Nat.{ℕ, suc}
use native.Mathlib.Omega.{arith}
use lib.ListN.{length}
use Rattle.calendar.specs.ThermalYears.{is_thermal_year}
use Rattle.parts.specs.Registers.{State, state, blank_register}
use Rattle.parts.proofs.AnswerLaws.{passes, leaves_new}
use Rattle.register.specs.Fresh.{fresh_questions, fresh_number, fresh_state, fresh_after}
use Rattle.products.specs.declared.products.Request.{Request}
use Rattle.expected.specs.Calls.{Call, request_capacity, Answer, answer, after, after_all, answers, register_after}
use Rattle.expected.specs.Reckoning.{Reckoning, begin, enter, reckon, reckoned}
use Rattle.expected.specs.Expected.{amount_granted_by, number_by, expected, expected_after, expected_answers}
use Rattle.expected.specs.Demand3.{Fair, Treated, LedTo, Demand3, Joins}
use Rattle.expected.proofs.Agreement.{Agree, balances}
use Rattle.expected.proofs.Answered.{as_expected, report_number_lem, report_amount_lem}
use Rattle.expected.proofs.FairLaws.{fair}
use Rattle.expected.proofs.CallLaws.{answered, altered, unaltered, nothing_granted}
use Rattle.expected.proofs.Invariant.{Kept, kept_fresh}
use Rattle.expected.proofs.Kept.{kept_call, kept_list}

-- ---- each call
pub call_expected : (s : State) (k : Reckoning) (c : Call) → Kept s k → answer s c ≡ expected k c
call_expected s k c w = as_expected s k c w.agrees w.backed w.held

-- a request answered 0, by its answer
request_fair : (k : Reckoning) (q : Request) (a : Answer) → a ≡ expected k (request_capacity q) → a.number ≡ 0 → Fair k q a.amount
request_fair k q a e z =
    let number : number_by k (request_capacity q) ≡ 0 = sym (ap (λ (x : Answer). x.number) e) ∙ z in
    let amount : a.amount ≡ amount_granted_by k q =
    ap (λ (x : Answer). x.amount) e ∙ leaves_new (number_by k (request_capacity q)) (amount_granted_by k q) 0 number in
    subst (Fair k q) (sym amount) (fair k q number)

treated : (s : State) (k : Reckoning) (c : Call) → Kept s k → Treated s k c (answer s c)
treated s k c w =
    let e = call_expected s k c w in
    record {
      expects = e;
      fair = λ q is z. request_fair k q (answer s c) (e ∙ ap (expected k) is) z;
      accepted = answered s c;
      does = altered s c;
      refused = λ n. (sym (unaltered s c n), nothing_granted s c n);
    }

-- ---- a list, by its calls' fields
pub list_answered : (s : State) (k : Reckoning) (cs : List Call) → Kept s k → answers s cs ≡ expected_answers k cs
list_answered s k [] w = refl
list_answered s k (c ∷ cs) w =
    let e = call_expected s k c w in
    ap₂ ◌∷◌ e (list_answered (after s c) (enter k c (answer s c)) cs (kept_call s k c w) ∙ ap (λ (a : Answer). expected_answers (enter k c a) cs) e)

list_reckoned : (s : State) (k : Reckoning) (cs : List Call) → Kept s k → reckon k cs (answers s cs) ≡ expected_after k cs
list_reckoned s k [] w = refl
list_reckoned s k (c ∷ cs) w =
    list_reckoned (after s c) (enter k c (answer s c)) cs (kept_call s k c w)
    ∙ ap (λ (a : Answer). expected_after (enter k c a) cs) (call_expected s k c w)

-- the register of a list, and the reckoning of its calls' fields
pub kept : (y : ℕ) → is_thermal_year y ≡ true → (cs : List Call) → Kept (register_after y cs) (expected_after (begin y) cs)
kept y h cs =
    let start = kept_fresh y h in
    subst (Kept (register_after y cs)) (list_reckoned (fresh_state y) (begin y) cs start) (kept_list (fresh_state y) (begin y) cs start)

-- ---- lists in two parts
after_parts : (s : State) (before later : List Call) → after_all s (before ++ later) ≡ after_all (after_all s before) later
after_parts s [] later = refl
after_parts s (c ∷ before) later = after_parts (after s c) before later

answers_parts : (s : State) (before later : List Call) → answers s (before ++ later) ≡ answers s before ++ answers (after_all s before) later
answers_parts s [] later = refl
answers_parts s (c ∷ before) later = ap (λ (l : List Answer). answer s c ∷ l) (answers_parts (after s c) before later)

answers_length : (s : State) (cs : List Call) → length (answers s cs) ≡ length cs
answers_length s [] = refl
answers_length s (c ∷ cs) = ap suc (answers_length (after s c) cs)

-- two ways to cut a list at the same place
same_parts : (xs ys zs ws : List Answer) (a b : Answer) → length xs ≡ length ys → xs ++ a ∷ zs ≡ ys ++ b ∷ ws → (xs ≡ ys) × (a ≡ b)
same_parts [] [] zs ws a b n e = (refl, head-eq_of_cons-eq e)
same_parts [] (y ∷ ys) zs ws a b n e = absurd (omega (arith, n))
same_parts (x ∷ xs) [] zs ws a b n e = absurd (omega (arith, n))
same_parts (x ∷ xs) (y ∷ ys) zs ws a b n e =
    let rest = same_parts xs ys zs ws a b (omega (arith, n)) (tail-eq_of_cons-eq e) in
    (ap₂ ◌∷◌ (head-eq_of_cons-eq e) rest.0, rest.1)

-- ---- the theorem
module _ (y : ℕ) (cs : List Call) (given : List Answer) (s : State) (l : LedTo y cs given s) where
  abbrev start : Kept (fresh_state y) (begin y)
  start = kept_fresh y l.year

  fields_alone : reckoned y cs given ≡ expected_after (begin y) cs
  fields_alone = ap (λ (x : List Answer). reckoned y cs x) l.answers_are ∙ list_reckoned (fresh_state y) (begin y) cs start

  pub led_kept : Kept s (expected_after (begin y) cs)
  led_kept = subst (λ (t : State). Kept t (expected_after (begin y) cs)) (sym l.left) (kept y l.year cs)

  -- a call of the list and its answer, behind those before it
  each_treated : (before later : List Call) (c : Call) (earlier rest : List Answer) (a : Answer)
      → cs ≡ before ++ c ∷ later → given ≡ earlier ++ a ∷ rest → length earlier ≡ length before
      → Treated (register_after y before) (reckoned y before earlier) c a
  each_treated before later c earlier rest a ec ea n =
      let told-before = answers (fresh_state y) before in
      let whole = sym ea ∙ (l.answers_are ∙ (ap (answers (fresh_state y)) ec ∙ answers_parts (fresh_state y) before (c ∷ later))) in
      let same = same_parts earlier told-before rest _ a (answer (register_after y before) c) (n ∙ sym (answers_length (fresh_state y) before)) whole in
      subst (λ (x : List Answer). Treated (register_after y before) (reckoned y before x) c a) (sym same.0)
      (subst (Treated (register_after y before) (reckoned y before told-before) c) (sym same.1)
      (treated (register_after y before) _ c (kept_list (fresh_state y) (begin y) before start)))

  pub demand_3 : Demand3 y cs given s
  demand_3 =
      let w = subst (Agree s) (sym fields_alone) led_kept.agrees in
      record {
        led = l;
        balances = balances s (reckoned y cs given) w;
        reported = λ p d. (report_number_lem s (reckoned y cs given) w p d, report_amount_lem s (reckoned y cs given) w p d);
        answered = l.answers_are ∙ list_answered (fresh_state y) (begin y) cs start;
        by_fields = fields_alone;
        each = each_treated;
      }

-- ---- every list
pub every_list : (y : ℕ) → is_thermal_year y ≡ true → (cs : List Call) → Demand3 y cs (answers (fresh_state y) cs) (register_after y cs)
every_list y h cs = demand_3 y cs (answers (fresh_state y) cs) (register_after y cs) (record { year = h; answers_are = refl; left = refl })

-- ---- lists that grow
-- what `fresh_register` leaves where it is accepted is led to by the empty list
pub begins : (y : ℕ) (f ls : List ℕ) → fresh_number y f ls ≡ 0 → LedTo y [] [] (fresh_after y f ls)
unfolding fresh_number fresh_after
begins y f ls z =
    record {
      year = (passes (fresh_questions y f ls) refl z).0;
      answers_are = refl;
      left = leaves_new (fresh_number y f ls) (fresh_state y) (state (blank_register 0) f ls) z;
    }

-- a call joins every list that led to what it was made on
pub joins : (s : State) (c : Call) (a : Answer) (t : State) → a ≡ answer s c → t ≡ after s c → Joins s c a t
joins s c a t ea et y before given l =
    demand_3 y (before ++ c ∷ []) (given ++ a ∷ []) t
    (record {
      year = l.year;
      answers_are =
          ap₂ (λ (told-before : List Answer) (x : Answer). told-before ++ x ∷ []) l.answers_are (ea ∙ ap (λ (x : State). answer x c) l.left)
          ∙ sym (answers_parts (fresh_state y) before (c ∷ []));
      left = et ∙ (ap (λ (x : State). after x c) l.left ∙ sym (after_parts (fresh_state y) before (c ∷ [])));
    })
