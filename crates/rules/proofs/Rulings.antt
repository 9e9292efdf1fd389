-- Every call keeps a book fit, and what an order had and brought is in the rows or rests. Assumes nothing.
use Rattle.std.proofs.Common.{◌≡◌, ℕ, ◌%◌, ◌<◌, ◌≤◌, Bool, true, false, cond, ◌&&◌, eqb, leb, List, [], ◌∷◌, Some, None, Option, refl, ap, ◌∙◌, arith, Err}
use mathlib.Core.Bool.{false≢true}
use Rattle.std.specs.List.{AllByRecursion}
use Rattle.std.proofs.lemmas.Bool.{and_parts, not-false, ne_eqb, leb-true, leb-false}
use Rattle.allocation.specs.Dealings.{Deal, Lawful}
use Rattle.rules.specs.declared.orders.Kind.{Kind}
use Rattle.rules.specs.declared.orders.Order.{Order}
use Rattle.rules.specs.declared.phases.Phase.{Phase}
use Rattle.rules.specs.declared.calls.Call.{Call}
use Rattle.rules.specs.declared.calls.Call.TheVariants.{Open, Halt, Resume, Close, Quote, Enter, Cancel, Reduce}
use Rattle.rules.specs.declared.answers.Refusal.{Refusal}
use Rattle.rules.specs.declared.answers.Row.{Row}
use Rattle.rules.specs.Books.{Book, Ranking, with_sides, with_quote, with_phase}
use Rattle.rules.specs.Quantities.{resting}
use Rattle.rules.specs.Marks.{unmarked}
use Rattle.rules.specs.TakingOff.{take_off}
use Rattle.rules.specs.Trading.{Traded}
use Rattle.rules.specs.Reserve.{is_reserve}
use Rattle.rules.specs.Refusals.{first, passed, bad_display, within, refusals, next_phase, phase_after}
use Rattle.rules.specs.Entering.{Outcome, enter, trade, arrived, not_placed, finished}
use Rattle.rules.specs.Rules.{effect, settled, tidy, rule, ruled}
use Rattle.rules.specs.Codes.{answer_number, refusal_number}
use Rattle.rules.proofs.Fits.{Sides, Displays, Fit, after_trading}
use Rattle.rules.proofs.Effects.{shrunk, tidy_rest, tidy_fit, Did, brings, place_same, placed_rests, finished_did, unmarked_good, unmarked_of, back_traded, all_given, take_off_did}

-- ## Every call

-- what an accepted call brings
abbrev pub entry_of : Call → ℕ → ℕ
entry_of Open n = 0
entry_of Halt n = 0
entry_of Resume n = 0
entry_of Close n = 0
entry_of (Quote x y) n = 0
entry_of (Enter e) n = brings e n
entry_of (Cancel x) n = 0
entry_of (Reduce x y) n = 0

-- what the refusals have seen to
abbrev pub Allowed : Book → Call → Type 0
Allowed b Open = Unit {0}
Allowed b Halt = Unit {0}
Allowed b Resume = Unit {0}
Allowed b Close = Unit {0}
Allowed b (Quote x y) = Unit {0}
Allowed b (Enter e) = Displays e × (b.last < e.number)
Allowed b (Cancel n) = Unit {0}
Allowed b (Reduce n m) = m ≤ resting n b

same_did : (lot : ℕ) (b c : Book) → Fit lot b → Sides lot c → c.orders ≡ b.orders → b.last ≡ c.last → ((n : ℕ) → resting n c ≡ resting n b) → Did lot b (λ _. 0) [] c
same_did lot b c f s o l r =
    record { fit = shrunk lot b c f s o (omega arith) (λ n. omega (arith, r n)); balance = λ n. omega (arith, r n) }

module _ (rank : Ranking) (deal : Deal) (D : Lawful deal) (lot : ℕ) where
  pub effect_did : (b : Book) (c : Call) → Fit lot b → Allowed b c → (let x : Outcome = effect rank deal b c in Did lot b (entry_of c) x.rows x.book)
  unfolding effect enter
  effect_did b Open f a = same_did lot b b f f.sides refl refl (λ n. refl)
  effect_did b Halt f a =
      same_did lot b (with_sides (unmarked b.buys) (unmarked b.sells) b) f
      (record { is = f.sides.is; buys = unmarked_good lot b.buys f.sides.buys; sells = unmarked_good lot b.sells f.sides.sells })
      refl refl (λ n. omega (arith, unmarked_of n b.buys, unmarked_of n b.sells))
  effect_did b Resume f a = same_did lot b b f f.sides refl refl (λ n. refl)
  effect_did b Close f a =
      record {
        fit = shrunk lot b (with_sides [] [] b) f (record { is = f.sides.is; buys = tt; sells = tt }) refl (omega arith) (λ n. omega arith);
        balance = λ n. omega (arith, back_traded n b b.orders, all_given lot n b f);
      }
  effect_did b (Quote x y) f a = same_did lot b (with_quote x y b) f (record { is = f.sides.is; buys = f.sides.buys; sells = f.sides.sells }) refl refl (λ n. refl)
  effect_did b (Enter e) f a =
      let r : Traded Book = trade rank deal e (arrived e b) in
      finished_did rank lot e b f a.0 a.1 r (after_trading rank deal D lot e b f) (eqb r.left 0) (not_placed rank b e) refl (placed_rests rank b e)
  effect_did b (Cancel n) f a = take_off_did lot n (resting n b) b f (omega arith)
  effect_did b (Reduce n m) f a = take_off_did lot n m b f a

  -- with the phase, and tidied
  settled_did : (b : Book) (c : Call) (p : Phase) → Fit lot b → Allowed b c → (let x : Outcome = settled p (effect rank deal b c) in Did lot b (entry_of c) x.rows x.book)
  settled_did b c p f a =
      let x : Outcome = effect rank deal b c in
      let d : Did lot b (entry_of c) x.rows x.book = effect_did b c f a in
      let g : Fit lot x.book = d.fit in
      let h : Fit lot (with_phase p x.book) =
      record { pos = g.pos; sides = record { is = g.sides.is; buys = g.sides.buys; sells = g.sides.sells }; displays = g.displays; covered = g.covered; once = g.once; fresh = g.fresh; unlisted = g.unlisted } in
      record {
        fit = tidy_fit lot (with_phase p x.book) h;
        balance = λ n. (let k = d.balance n in let t = tidy_rest n (with_phase p x.book) in omega arith);
      }

-- ## The rule

is_some : {A : Type 0} → Option A → ℕ
is_some None = 0
is_some (Some x) = 1

pub some_none : {A : Type 0} (x : A) → Some x ≡ None → ⊥
unfolding is_some
some_none x e = let z : ◌≡◌ {A = ℕ} 1 0 = ap is_some e in omega arith

pub none_applies : (xs : List (Refusal × Bool)) → first xs ≡ None → AllByRecursion (λ x. x.1 ≡ false) xs
none_applies [] h = tt
none_applies (x ∷ xs) h = go x.1 refl h (none_applies xs)
  where
    go : (t : Bool) → x.1 ≡ t → cond t (Some x.0) (first xs) ≡ None → (first xs ≡ None → AllByRecursion {X = Refusal × Bool} (λ x. x.1 ≡ false) xs) → (x.1 ≡ false) × AllByRecursion {X = Refusal × Bool} (λ x. x.1 ≡ false) xs
    go true e h more = absurd (some_none x.0 h)
    go false e h more = (e, more h)

pub display_ok : (lot : ℕ) (k : Kind) (n d : ℕ) → bad_display lot k n d ≡ false → is_reserve k ≡ true → 0 < d
display_ok lot Kind.Limit n d h r = absurd (false≢true r)
display_ok lot Kind.Hidden n d h r = absurd (false≢true r)
display_ok lot Kind.Reserve n d h r =
    let a : (within 1 n d && eqb (d % lot) 0) ≡ true = not-false (within 1 n d && eqb (d % lot) 0) h in
    let c : within 1 n d ≡ true = (and_parts (within 1 n d) (eqb (d % lot) 0) a).0 in
    leb-true 1 d (and_parts (leb 1 d) (leb d n) c).0
display_ok lot Kind.Immediate n d h r = absurd (false≢true r)
display_ok lot Kind.Market n d h r = absurd (false≢true r)

pub allowed : (b : Book) (room : ℕ) (c : Call) → first (refusals b room c) ≡ None → Allowed b c
unfolding refusals
allowed b room Open h = tt
allowed b room Halt h = tt
allowed b room Resume h = tt
allowed b room Close h = tt
allowed b room (Quote x y) h = tt
allowed b room (Enter e) h =
    let f = none_applies (refusals b room (Enter e)) h in
    (display_ok b.lot e.kind e.quantity e.display f.1.1.1.1.0, leb-false e.number b.last f.1.1.1.1.1.1.1.0)
allowed b room (Cancel n) h = tt
allowed b room (Reduce n m) h =
    let f = none_applies (refusals b room (Reduce n m)) h in
    omega (arith, leb-false (resting n b) m f.1.1.1.1.1.0)

-- an accepted call answers 0, a refused one does not
finished_number : (t u : Bool) (rank : Ranking) (e : Order) (n : ℕ) (rs : List Row) (b : Book) → answer_number (finished t u rank e n rs b).answer ≡ 0
finished_number true u rank e n rs b = refl
finished_number false true rank e n rs b = refl
finished_number false false rank e n rs b = refl

pub refusal_some : (r : Refusal) → 0 < refusal_number r
refusal_some Refusal.OrderNumber = omega arith
refusal_some Refusal.Participant = omega arith
refusal_some Refusal.Quantity = omega arith
refusal_some Refusal.Price = omega arith
refusal_some Refusal.DisplayQuantity = omega arith
refusal_some Refusal.ReportRoom = omega arith
refusal_some Refusal.AwayPrice = omega arith
refusal_some Refusal.RoundLot = omega arith
refusal_some Refusal.Phase = omega arith
refusal_some Refusal.OldNumber = omega arith
refusal_some Refusal.BookFull = omega arith
refusal_some Refusal.NoSuchOrder = omega arith
refusal_some Refusal.ReductionTooLarge = omega arith
refusal_some Refusal.NoOppositePrice = omega arith

finished_last : (t u : Bool) (rank : Ranking) (e : Order) (n : ℕ) (rs : List Row) (b : Book) → (finished t u rank e n rs b).book.last ≡ b.last
finished_last true u rank e n rs b = refl
finished_last false true rank e n rs b = refl
finished_last false false rank e n rs b = (place_same rank e.kind e n b).last

abbrev pub last_of : Call → Book → ℕ
last_of Open b = b.last
last_of Halt b = b.last
last_of Resume b = b.last
last_of Close b = b.last
last_of (Quote x y) b = b.last
last_of (Enter e) b = e.number
last_of (Cancel x) b = b.last
last_of (Reduce x y) b = b.last

module _ (rank : Ranking) (deal : Deal) (D : Lawful deal) (lot : ℕ) where
  pub effect_number : (b : Book) (c : Call) → answer_number (effect rank deal b c).answer ≡ 0
  unfolding effect enter
  effect_number b Open = refl
  effect_number b Halt = refl
  effect_number b Resume = refl
  effect_number b Close = refl
  effect_number b (Quote x y) = refl
  effect_number b (Enter e) =
      let r : Traded Book = trade rank deal e (arrived e b) in
      finished_number (eqb r.left 0) (not_placed rank b e) rank e r.left r.rows r.rest
  effect_number b (Cancel n) = refl
  effect_number b (Reduce n m) = refl

  effect_last : (b : Book) (c : Call) → Fit lot b → (effect rank deal b c).book.last ≡ last_of c b
  unfolding effect enter take_off
  effect_last b Open f = refl
  effect_last b Halt f = refl
  effect_last b Resume f = refl
  effect_last b Close f = refl
  effect_last b (Quote x y) f = refl
  effect_last b (Enter e) f =
      let r : Traded Book = trade rank deal e (arrived e b) in
      finished_last (eqb r.left 0) (not_placed rank b e) rank e r.left r.rows r.rest ∙ (after_trading rank deal D lot e b f).same.last
  effect_last b (Cancel n) f = refl
  effect_last b (Reduce n m) f = refl

  -- of an accepted call: what it brought, and the last number; a refused call leaves all
  pub record Ruled (b : Book) (c : Call) (x : Outcome) : Type 0 where
    pub did : Did lot b (λ n. cond (eqb (answer_number x.answer) 0) (entry_of c n) 0) x.rows x.book
    pub yes_allowed : answer_number x.answer ≡ 0 → Allowed b c
    pub yes_last : answer_number x.answer ≡ 0 → x.book.last ≡ last_of c b
    pub no_last : (answer_number x.answer ≡ 0 → ⊥) → x.book.last ≡ b.last

  pub rule_did : (b : Book) (room : ℕ) (c : Call) → Fit lot b → Ruled b c (rule rank deal b room c)
  unfolding rule tidy
  rule_did b room c f = go (first (refusals b room c)) refl
    where
      go : (o : Option Refusal) → first (refusals b room c) ≡ o → Ruled b c (ruled o rank deal b c)
      go None e =
          let a : Allowed b c = allowed b room c e in
          let p : Phase = next_phase b.phase (phase_after b.phase c) in
          let x : Outcome = settled p (effect rank deal b c) in
          let d : Did lot b (entry_of c) x.rows x.book = settled_did rank deal D lot b c p f a in
          let z : answer_number x.answer ≡ 0 = effect_number b c in
          record {
            did = record { fit = d.fit; balance = λ n. rw z (d.balance n) };
            yes_allowed = λ _. a;
            yes_last = λ _. effect_last b c f;
            no_last = λ no_way. absurd (no_way z);
          }
      go (Some r) e =
          let some = refusal_some r in
          let no_way : refusal_number r ≡ 0 → ⊥ = λ z. omega arith in
          record {
            did = record { fit = f; balance = λ n. rw (ne_eqb (refusal_number r) 0 no_way) (omega arith) };
            yes_allowed = λ z. absurd (no_way z);
            yes_last = λ z. absurd (no_way z);
            no_last = λ _. refl;
          }

-- the refusal that a test met
pub refused_by : (o : Option Refusal) (r : Refusal) → passed o ≡ Err r → o ≡ Some r
refused_by None r e = absurd (grind (arith, e))
refused_by (Some x) r e = grind (arith, e)
