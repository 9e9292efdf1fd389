-- The sum law. Assumes nothing.
use Rattle.std.proofs.Common.{◌≡◌, ℕ, ◌+◌, ◌<◌, ◌≤◌, Bool, true, false, cond, eqb, ◌⊎◌, List, [], ◌∷◌, refl, ◌∙◌, subst, inl, inr, arith}
use Rattle.std.specs.List.{AllByRecursion}
use Rattle.std.proofs.lemmas.Bool.Decides.{nat_tests}
use Rattle.std.proofs.lemmas.Bool.{eqb-true, eq-eqb, cases_eq}
use Rattle.std.proofs.ByRecursion.{All-weaker}
use Rattle.allocation.specs.Dealings.{Deal, Lawful}
use Rattle.rules.specs.declared.orders.Order.{Order}
use Rattle.rules.specs.declared.phases.Step.{Step}
use Rattle.rules.specs.declared.calls.Call.{Call}
use Rattle.rules.specs.declared.calls.Call.TheVariants.{Open, Halt, Resume, Close, Quote, Enter, Cancel, Reduce}
use Rattle.rules.specs.Lists.{sum_of}
use Rattle.rules.specs.Books.{Book, Ranking}
use Rattle.rules.specs.Quantities.{resting}
use Rattle.rules.specs.Entering.{Outcome}
use Rattle.rules.specs.Rules.{rule, new_with}
use Rattle.rules.specs.Runs.{Event, run, Ask, traded_by, given_back_to, final, Entered}
use Rattle.rules.specs.SumLaw.{AddsUp}
use Rattle.rules.specs.Codes.{answer_number}
use Rattle.rules.proofs.Members.{all_both}
use Rattle.rules.proofs.Fits.{Fit}
use Rattle.rules.proofs.Effects.{Did, brings}
use Rattle.rules.proofs.Rulings.{Allowed, entry_of, last_of, Ruled, rule_did}

abbrev brought : ℕ → Event → ℕ
brought n v = cond (eqb (answer_number v.did.answer) 0) (entry_of v.ask.1 n) 0

only_at_last : (n : ℕ) (b : Book) (c : Call) → last_of c b < n → entry_of c n ≡ 0
only_at_last n b Open h = refl
only_at_last n b Halt h = refl
only_at_last n b Resume h = refl
only_at_last n b Close h = refl
only_at_last n b (Quote x y) h = refl
only_at_last n b (Enter e) h = grind (arith, nat_tests)
only_at_last n b (Cancel x) h = refl
only_at_last n b (Reduce x y) h = refl

module _ (rank : Ranking) (deal : Deal) (D : Lawful deal) (lot : ℕ) where
  pub run_balance : (n : ℕ) (b : Book) (asks : List Ask) → Fit lot b
      → (let past : List Event = run rank deal b asks in resting n b + sum_of (brought n) past ≡ traded_by n past + given_back_to n past + resting n (final b past))
  run_balance n b [] f = omega arith
  run_balance n b (a ∷ asks) f =
      let x : Outcome = rule rank deal b a.0 a.1 in
      let d : Did lot b (λ n. cond (eqb (answer_number x.answer) 0) (entry_of a.1 n) 0) x.rows x.book = (rule_did rank deal D lot b a.0 a.1 f).did in
      let here = d.balance n in
      let rest = run_balance n x.book asks d.fit in
      omega arith

  entered_last : (b : Book) (c : Call) (e : Order) → c ≡ Enter e → last_of c b ≡ e.number
  entered_last b c e p = rw p

  entered_new : (b : Book) (c : Call) (e : Order) → c ≡ Enter e → Allowed b c → b.last < e.number
  entered_new b c e p a = (subst (λ k. Allowed b k) p a).1

  entered_brings : (c : Call) (e : Order) (n : ℕ) → c ≡ Enter e → entry_of c n ≡ brings e n
  entered_brings c e n p = rw p

  -- the last number never falls, and only an accepted order with that number brings anything
  never_falls : (b : Book) (c : Call) → Allowed b c → b.last ≤ last_of c b
  never_falls b Open a = omega arith
  never_falls b Halt a = omega arith
  never_falls b Resume a = omega arith
  never_falls b Close a = omega arith
  never_falls b (Quote x y) a = omega arith
  never_falls b (Enter e) a = omega arith
  never_falls b (Cancel x) a = omega arith
  never_falls b (Reduce x y) a = omega arith

  only_new : (n : ℕ) (b : Book) (c : Call) → Allowed b c → n ≤ b.last → entry_of c n ≡ 0
  only_new n b Open a h = refl
  only_new n b Halt a h = refl
  only_new n b Resume a h = refl
  only_new n b Close a h = refl
  only_new n b (Quote x y) a h = refl
  only_new n b (Enter e) a h = let l = a.1 in grind (arith, nat_tests)
  only_new n b (Cancel x) a h = refl
  only_new n b (Reduce x y) a h = refl

  rises : (b : Book) (room : ℕ) (c : Call) → Fit lot b → b.last ≤ (rule rank deal b room c).book.last
  rises b room c f = go (cases_eq (answer_number x.answer) 0)
    where
      x : Outcome
      x = rule rank deal b room c

      r : Ruled rank deal D lot b c x
      r = rule_did rank deal D lot b room c f

      go : (answer_number x.answer ≡ 0) ⊎ (answer_number x.answer ≡ 0 → ⊥) → b.last ≤ x.book.last
      go (inl z) = omega (arith, r.yes_last z, never_falls b c (r.yes_allowed z))
      go (inr z) = omega (arith, r.no_last z)

  no_entry : (n : ℕ) (b : Book) (room : ℕ) (c : Call) → (answer_number (rule rank deal b room c).answer ≡ 0 → entry_of c n ≡ 0) → cond (eqb (answer_number (rule rank deal b room c).answer) 0) (entry_of c n) 0 ≡ 0
  no_entry n b room c none = go (eqb k 0) refl
    where
      k : ℕ
      k = answer_number (rule rank deal b room c).answer

      go : (t : Bool) → eqb k 0 ≡ t → cond t (entry_of c n) 0 ≡ 0
      go true e = none (eqb-true k 0 e)
      go false e = refl

  brings_none : (n : ℕ) (b : Book) (room : ℕ) (c : Call) → Fit lot b → n ≤ b.last → cond (eqb (answer_number (rule rank deal b room c).answer) 0) (entry_of c n) 0 ≡ 0
  brings_none n b room c f h = no_entry n b room c (λ z. only_new n b c ((rule_did rank deal D lot b room c f).yes_allowed z) h)

  brings_no_later : (n : ℕ) (b : Book) (room : ℕ) (c : Call) → Fit lot b → (rule rank deal b room c).book.last < n → cond (eqb (answer_number (rule rank deal b room c).answer) 0) (entry_of c n) 0 ≡ 0
  brings_no_later n b room c f h = no_entry n b room c (λ z. only_at_last n b c (let l = (rule_did rank deal D lot b room c f).yes_last z in omega arith))

  old_brings_none : (n : ℕ) (b : Book) (asks : List Ask) → Fit lot b → n ≤ b.last → sum_of (brought n) (run rank deal b asks) ≡ 0
  old_brings_none n b [] f h = refl
  old_brings_none n b (a ∷ asks) f h =
      let x : Outcome = rule rank deal b a.0 a.1 in
      omega (arith, brings_none n b a.0 a.1 f h, old_brings_none n x.book asks (rule_did rank deal D lot b a.0 a.1 f).did.fit (omega (arith, rises b a.0 a.1 f)))

  -- an accepted order has a number above all before, and brings its quantity once
  abbrev New : Book → Event → Type 0
  New b v = (e : Order) → Entered v e → b.last < e.number

  all_new : (b : Book) (asks : List Ask) → Fit lot b → AllByRecursion (New b) (run rank deal b asks)
  all_new b [] f = tt
  all_new b (a ∷ asks) f =
      let x : Outcome = rule rank deal b a.0 a.1 in
      let r : Ruled rank deal D lot b a.1 x = rule_did rank deal D lot b a.0 a.1 f in (
        (λ e p. entered_new b a.1 e p.0 (r.yes_allowed p.1)),
        All-weaker (New x.book) (New b) (λ v h e p. (let k = h e p in omega (arith, rises b a.0 a.1 f))) (run rank deal x.book asks) (all_new x.book asks r.did.fit),
      )

  abbrev OnceOnly : List Event → Event → Type 0
  OnceOnly past v = (e : Order) → Entered v e → sum_of (brought e.number) past ≡ e.quantity

  pub once_only : (b : Book) (asks : List Ask) → Fit lot b → AllByRecursion (OnceOnly (run rank deal b asks)) (run rank deal b asks)
  once_only b [] f = tt
  once_only b (a ∷ asks) f =
      let x : Outcome = rule rank deal b a.0 a.1 in
      let r : Ruled rank deal D lot b a.1 x = rule_did rank deal D lot b a.0 a.1 f in
      let later : List Event = run rank deal x.book asks in
      let here : (e : Order) → (a.1 ≡ Enter e) × (answer_number x.answer ≡ 0) → cond (eqb (answer_number x.answer) 0) (entry_of a.1 e.number) 0 + sum_of (brought e.number) later ≡ e.quantity = λ e p.
      (let l : x.book.last ≡ e.number = r.yes_last p.1 ∙ entered_last b a.1 e p.0 in
      let z = old_brings_none e.number x.book asks r.did.fit (omega arith) in
      let y = eq-eqb (answer_number x.answer) 0 p.1 in
      let w = entered_brings a.1 e e.number p.0 in
      let v = eq-eqb e.number e.number refl in
      grind arith) in
      let before : (n : ℕ) → x.book.last < n → cond (eqb (answer_number x.answer) 0) (entry_of a.1 n) 0 ≡ 0 = λ n h. brings_no_later n b a.0 a.1 f h in (
        here,
        All-weaker (λ v. New x.book v × OnceOnly later v) (OnceOnly (record { before = b; ask = a; did = x } ∷ later))
            (λ v h e p. (let k = before e.number (h.0 e p) in let l = h.1 e p in omega arith))
            later (all_both (New x.book) (OnceOnly later) later (all_new x.book asks r.did.fit) (once_only x.book asks r.did.fit)),
      )

  pub fresh_fit : 0 < lot → (table : List Step) → Fit lot (new_with lot table)
  fresh_fit pos table =
      record {
        pos = pos;
        sides = record { is = refl; buys = tt; sells = tt };
        displays = tt;
        covered = λ n h. absurd (never h);
        once = tt;
        fresh = λ n h. refl;
        unlisted = λ n h. refl;
      }
    where
      never : 0 < 0 → ⊥
      never h = omega arith

pub adds_up : (rank : Ranking) (deal : Deal) → Lawful deal → AddsUp rank deal
adds_up rank deal D lot pos table asks =
    let past : List Event = run rank deal (new_with lot table) asks in
    let f : Fit lot (new_with lot table) = fresh_fit rank deal D lot pos table in
    All-weaker (OnceOnly rank deal D lot past)
    (λ v. (e : Order) → Entered v e → traded_by e.number past + given_back_to e.number past + resting e.number (final (new_with lot table) past) ≡ e.quantity)
    (λ v h e p. (let k = h e p in let l = run_balance rank deal D lot e.number (new_with lot table) asks f in omega arith))
    past (once_only rank deal D lot (new_with lot table) asks f)
