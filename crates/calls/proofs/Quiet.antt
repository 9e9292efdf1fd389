-- Calls that trade nothing and give nothing back: what the rule makes of a sound book.
use Rattle.std.proofs.Common.{◌≡◌, ℕ, ◌+◌, ◌<◌, ◌≤◌, true, false, not, ◌&&◌, ◌||◌, List, [], ◌∷◌, map, length, Some, None, sym, refl, ap, ◌∙◌, subst, Ok}
use Rattle.std.specs.List.{AllByRecursion}
use Rattle.std.proofs.ByRecursion.{All-weaker}
use Rattle.allocation.specs.Dealings.{Deal}
use Rattle.rules.specs.declared.orders.Order.{Order}
use Rattle.rules.specs.declared.orders.Part.{Part}
use Rattle.rules.specs.declared.phases.Phase.{Phase}
use Rattle.rules.specs.declared.calls.Call.{Call}
use Rattle.rules.specs.declared.calls.Call.TheVariants.{Open, Halt, Resume, Quote}
use Rattle.rules.specs.Codes.{accepted}
use Rattle.rules.specs.declared.answers.Refusal.TheVariants as Refusal
use Rattle.rules.specs.declared.answers.Row.{Row}
use Rattle.rules.specs.Books.{Level, Ranking, Book, part, with_sides, with_phase, with_quote}
use Rattle.rules.specs.Quantities.{resting, of_side}
use Rattle.rules.specs.Marks.{unmarked}
use Rattle.rules.specs.Refusals.{first, refusals, phase_after, next_phase, bad_away, none}
use Rattle.rules.specs.Entering.{done}
use Rattle.rules.specs.Rules.{effect, tidy, empty, holds, settled, ruled, rule}
use Rattle.rules.proofs.Effects.{unmarked_of}
use Rattle.trading.specs.Written.{written}
use Rattle.trading.proofs.Writing.{written_none}
use Rattle.orders.specs.Rows.{rows_of}
use Rattle.orders.specs.declared.tables.Resting.{Resting}
use Rattle.giving_back.proofs.Still.{tidy_still}
use Rattle.memory.specs.States.{book_of, Tallied, Stands}
use Rattle.memory.specs.Following.{Follows, replied}
use Rattle.memory.specs.declared.states.State.{State}

-- ## An accepted call without rows

pub quiet : (rank : Ranking) (deal : Deal) (c : Call) (p : Phase) (x : Book) (before after : State) (rows : List Row) → first (refusals (book_of before) (length rows) c) ≡ None
    → phase_after before.phase c ≡ Some p → effect rank deal (book_of before) c ≡ done 0 0 [] x → tidy (with_phase p x) ≡ book_of after → Tallied (rows_of after.orders) (book_of after)
    → Follows rank deal c before rows after rows (Ok (record { accepted = record { traded = 0; given_back = 0 }; rows = 0 }))
unfolding rule
quiet rank deal c p x before after rows fine phase does tidied tallied =
    let is : rule rank deal (book_of before) (length rows) c ≡ record { answer = accepted 0 0; rows = []; book = tidy (with_phase p x) } =
    ap (λ o. ruled o rank deal (book_of before) c) fine ∙ ap (λ q. settled (next_phase before.phase q) (effect rank deal (book_of before) c)) phase ∙ ap (settled p) does in
    record {
      reply = ap replied (sym is);
      report = sym (ap (λ d. written rows 0 d.rows) is ∙ written_none rows 0);
      book = sym tidied ∙ sym (ap (λ d. d.book) is);
      tallied = tallied;
    }

plain_empty : (ps : List Part) → empty (map (λ p. part p.order p.participant p.quantity false) ps) ≡ empty ps
plain_empty [] = refl
plain_empty (p ∷ ps) = refl

-- what rests of each order is as the table tells, where nothing of it changed
same_tally : (b c : Book) (xs ys : List Resting) → ys ≡ xs → ((n : ℕ) → resting n c ≡ resting n b) → Tallied xs b → Tallied ys c
same_tally b c xs ys e same h = subst (λ l. Tallied l c) (sym e) (All-weaker (λ (r : Resting). r.quantity ≡ resting r.order.number b) (λ r. r.quantity ≡ resting r.order.number c) (λ r k. k ∙ sym (same r.order.number)) xs h)

module _ (rank : Ranking) (deal : Deal) (before after : State) (rows : List Row) (s : Stands rank before) (table : rows_of after.orders ≡ rows_of before.orders) where
  abbrev b : Book
  b = book_of before

  rests : AllByRecursion (λ e. 0 < resting e.number b) b.orders
  rests = All-weaker (λ (e : Order). (0 < resting e.number b) × (resting e.number b ≤ e.quantity)) (λ e. 0 < resting e.number b) (λ e h. h.0) b.orders s.sound.resting

  -- a book x with the same orders, of which as much rests as before
  changed : (c : Call) (q : Phase) (x : Book) → first (refusals b (length rows) c) ≡ None → phase_after b.phase c ≡ Some q → effect rank deal b c ≡ done 0 0 [] x
      → AllByRecursion (λ l. holds l ≡ true) x.buys → AllByRecursion (λ l. holds l ≡ true) x.sells → x.orders ≡ b.orders → ((n : ℕ) → resting n x ≡ resting n b) → book_of after ≡ with_phase q x
      → Follows rank deal c before rows after rows (Ok (record { accepted = record { traded = 0; given_back = 0 }; rows = 0 }))
  changed c q x fine next does buys sells orders same is =
      let still : AllByRecursion (λ e. 0 < resting e.number x) x.orders =
      subst (λ es. AllByRecursion (λ e. 0 < resting e.number x) es) (sym orders) (All-weaker (λ (e : Order). 0 < resting e.number b) (λ e. 0 < resting e.number x) (λ e h. subst (λ m. 0 < m) (sym (same e.number)) h) b.orders rests) in
      quiet rank deal c q x before after rows fine next does (tidy_still (with_phase q x) buys sells still ∙ sym is)
      (same_tally b (book_of after) (rows_of before.orders) (rows_of after.orders) table (λ n. ap (resting n) is ∙ same n) s.tallied)

  pub opened : b.phase ≡ Phase.New → book_of after ≡ with_phase Phase.Open b → Follows rank deal Open before rows after rows (Ok (record { accepted = record { traded = 0; given_back = 0 }; rows = 0 }))
  unfolding refusals effect
  opened at is =
      changed Open Phase.Open b (ap (λ p. first ((Refusal.Phase, none (phase_after p Open)) ∷ [])) at) (ap (λ p. phase_after p Open) at) refl s.sound.buys.occupied s.sound.sells.occupied refl (λ n. refl) is

  pub resumed : b.phase ≡ Phase.Halted → book_of after ≡ with_phase Phase.Open b → Follows rank deal Resume before rows after rows (Ok (record { accepted = record { traded = 0; given_back = 0 }; rows = 0 }))
  unfolding refusals effect
  resumed at is =
      changed Resume Phase.Open b (ap (λ p. first ((Refusal.Phase, none (phase_after p Resume)) ∷ [])) at) (ap (λ p. phase_after p Resume) at) refl s.sound.buys.occupied s.sound.sells.occupied refl (λ n. refl) is

  -- a quote leaves the phase as it is
  pub requoted : (bid offer : ℕ) → (bad_away bid || bad_away offer) ≡ false → phase_after b.phase (Quote bid offer) ≡ Some b.phase → book_of after ≡ with_quote bid offer b
      → Follows rank deal (Quote bid offer) before rows after rows (Ok (record { accepted = record { traded = 0; given_back = 0 }; rows = 0 }))
  unfolding refusals effect
  requoted bid offer fine next is =
      changed (Quote bid offer) b.phase (with_quote bid offer b)
      (ap (λ t. first ((Refusal.AwayPrice, t) ∷ (Refusal.Phase, none (phase_after b.phase (Quote bid offer))) ∷ [])) fine ∙ ap (λ o. first ((Refusal.Phase, none o) ∷ [])) next)
      next refl s.sound.buys.occupied s.sound.sells.occupied refl (λ n. refl) is

  plain_holds : (ls : List Level) → AllByRecursion (λ l. holds l ≡ true) ls → AllByRecursion (λ l. holds l ≡ true) (unmarked ls)
  plain_holds [] h = tt
  plain_holds (l ∷ ls) h = (ap (λ t. not (t && empty l.hidden.parts)) (plain_empty l.shown.parts) ∙ h.0, plain_holds ls h.1)

  -- a halt loses every mark
  pub halted : b.phase ≡ Phase.Open → book_of after ≡ with_phase Phase.Halted (with_sides (unmarked b.buys) (unmarked b.sells) b) → Follows rank deal Halt before rows after rows (Ok (record { accepted = record { traded = 0; given_back = 0 }; rows = 0 }))
  unfolding refusals effect
  halted at is =
      changed Halt Phase.Halted (with_sides (unmarked b.buys) (unmarked b.sells) b) (ap (λ p. first ((Refusal.Phase, none (phase_after p Halt)) ∷ [])) at) (ap (λ p. phase_after p Halt) at) refl
      (plain_holds b.buys s.sound.buys.occupied) (plain_holds b.sells s.sound.sells.occupied) refl
      (λ n. ap (λ m. m + of_side n (unmarked b.sells)) (unmarked_of n b.buys) ∙ ap (λ m. of_side n b.buys + m) (unmarked_of n b.sells)) is
