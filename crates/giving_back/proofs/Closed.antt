-- Every order is given back. Assumes nothing.
use Rattle.std.proofs.Common.{◌≡◌, ℕ, ◌+◌, ◌*◌, ◌<◌, ◌≤◌, false, ltb, List, [], ◌∷◌, map, length, get_or, drop, sym, refl, ap, ◌∙◌, arith, Ok, Result}
use Rattle.std.specs.List.{AllByRecursion}
use Rattle.std.proofs.lemmas.List.{at_drop_more}
use Rattle.std.proofs.lemmas.Bool.{le-ltb}
use Rattle.rules.specs.declared.orders.Order.{Order}
use Rattle.rules.specs.declared.phases.Phase.TheVariants.{Shut}
use Rattle.rules.specs.declared.answers.Row.TheVariants.{GivenBack}
use Rattle.rules.specs.Lists.{sum_of}
use Rattle.rules.specs.Books.{Level, Book, with_sides, with_phase, with_orders}
use Rattle.rules.specs.Quantities.{resting}
use Rattle.rules.specs.Rules.{tidy, all_back, row_given_back}
use Rattle.orders.specs.declared.tables.Resting.{Resting}
use Rattle.rules.specs.declared.answers.Refusal.{Refusal}
use Rattle.memory.specs.declared.replies.Reply.{Reply}
use Rattle.memory.specs.States.{Tallied}
use Rattle.giving_back.specs.Backs.{backs}
use Rattle.giving_back.proofs.Keeping.{kept_none}
use Rattle.giving_back.proofs.Still.{tidy_as}

-- the rows of the table are the rows of the rule
pub backs_are : (b : Book) (rows : List Resting) → Tallied rows b → backs rows ≡ all_back b (map (λ r. r.order) rows)
backs_are b [] t = refl
backs_are b (r ∷ rows) t = ap (λ q. GivenBack r.order.number q ∷ backs rows) t.0 ∙ ap (λ l. GivenBack r.order.number (resting r.order.number b) ∷ l) (backs_are b rows t.1)

pub length_backs : (rows : List Resting) → length (backs rows) ≡ length rows
length_backs [] = refl
length_backs (r ∷ rows) = omega (arith, length_backs rows)

pub backs_few : (rows : List Resting) → AllByRecursion (λ r. r.quantity ≤ 500000) rows → sum_of row_given_back (backs rows) ≤ 500000 * length rows
backs_few [] a = omega arith
backs_few (r ∷ rows) a = omega (arith, a.0, backs_few rows a.1)

-- the row at i is the next one
pub next_back : (rows : List Resting) (i : ℕ) (r : Resting) → i < length rows → r ≡ get_or rows i r → backs (drop i rows) ≡ GivenBack r.order.number r.quantity ∷ backs (drop (i + 1) rows)
next_back rows i r lt read = at_drop_more backs rows i r lt ∙ ap (λ x. GivenBack x.order.number x.quantity ∷ backs (drop (i + 1) rows)) (sym read)

-- nothing is left
pub shut : (b : Book) (os : List Order) (bs ss : List Level) → os ≡ [] → bs ≡ [] → ss ≡ [] → with_phase Shut (with_orders os (with_sides bs ss b)) ≡ tidy (with_phase Shut (with_sides [] [] b))
shut b os bs ss o x y =
    let c : Book = with_phase Shut (with_sides [] [] b) in
    ap (λ l. with_phase Shut (with_orders l (with_sides bs ss b))) o ∙ ap (λ l. with_phase Shut (with_orders [] (with_sides l ss b))) x ∙ ap (λ l. with_phase Shut (with_orders [] (with_sides [] l b))) y
    ∙ sym (tidy_as c [] [] [] (kept_none (λ e. ltb 0 (resting e.number c)) b.orders (each b.orders)) refl refl)
  where
    each : (es : List Order) → AllByRecursion (λ e. ltb 0 (resting e.number (with_phase Shut (with_sides [] [] b))) ≡ false) es
    each [] = tt
    each (e ∷ es) = (le-ltb 0 0 (omega arith), each es)

-- one reply
pub same_reply : (t t' n n' : ℕ) → t ≡ t' → n ≡ n' → (let x : Result Reply Refusal = Ok (record { accepted = record { traded = 0; given_back = t }; rows = n }) in let y : Result Reply Refusal = Ok (record { accepted = record { traded = 0; given_back = t' }; rows = n' }) in x ≡ y)
same_reply t t' n n' e f = ap {B = Result Reply Refusal} (λ t. Ok (record { accepted = record { traded = 0; given_back = t }; rows = n })) e ∙ ap {B = Result Reply Refusal} (λ n. Ok (record { accepted = record { traded = 0; given_back = t' }; rows = n })) f
