-- A new book's memory stands, and every call that follows its rule leaves it standing.
use Rattle.std.proofs.Common.{◌≡◌, ℕ, ◌<◌, List, [], length, Result, sym, subst}
use Rattle.allocation.specs.Rankings.{TotalOrder}
use Rattle.allocation.specs.Dealings.{Deal, Lawful}
use Rattle.rules.specs.declared.calls.Call.{Call}
use Rattle.rules.specs.declared.answers.Row.{Row}
use Rattle.rules.specs.Books.{Ranking}
use Rattle.rules.specs.Rules.{new_book, steps}
use Rattle.rules.specs.Invariants.{SoundBook}
use Rattle.rules.proofs.Kept.{rule_sound, new_sound}
use Rattle.rules.proofs.Whole.{laws}
use Rattle.orders.specs.Rows.{rows_of}
use Rattle.memory.specs.States.{book_of, Tallied, Stands}
use Rattle.memory.specs.Following.{Follows}
use Rattle.memory.specs.declared.states.State.{State}
use Rattle.memory.specs.declared.replies.Reply.{Reply}
use Rattle.memory.proofs.Props.{standing}
use Rattle.rules.specs.declared.answers.Refusal.{Refusal}

module _ (rank : Ranking) (O : TotalOrder rank.good) (deal : Deal) (D : Lawful deal) where
  pub new_stands : (s : State) (lot : ℕ) → 0 < lot → book_of s ≡ new_book lot → rows_of s.orders ≡ [] → Stands rank s
  new_stands s lot pos is none =
      record {
        sound = subst (SoundBook rank) (sym is) (new_sound rank O deal D lot pos steps (laws rank O deal D).table);
        tallied = subst (λ rows. Tallied rows (book_of s)) (sym none) tt;
      }

  pub stays : (c : Call) (before after : State) (rows rows' : List Row) (r : Result Reply Refusal) → Follows rank deal c before rows after rows' r → Stands rank before → Stands rank after
  stays c before after rows rows' r f s =
      record {
        sound = subst (SoundBook rank) (sym f.book) (rule_sound rank O deal D (book_of before) (length rows) c s.sound);
        tallied = f.tallied;
      }

  -- the same, as a type keeps it
  pub keeps : {c : Call} {before after : State} {rows rows' : List Row} {r : Result Reply Refusal} → Follows rank deal c before rows after rows' r → ∥ Stands rank before ∥₁ → ∥ Stands rank after ∥₁
  keeps f h = ∣ stays _ _ _ _ _ _ f (standing rank _ h) ∣₁
