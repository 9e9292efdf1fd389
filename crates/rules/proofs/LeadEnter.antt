-- The lead over an enter. Assumes nothing.
use Rattle.std.proofs.Common.{◌≡◌, ℕ, ◌+◌, ◌-◌, ◌<◌, ◌≤◌, min, Bool, true, false, cond, not, ◌&&◌, eqb, List, [], ◌∷◌, ◌++◌, fold, sym, refl, ap, ◌∙◌, subst, arith}
use mathlib.Core.Bool.{false≢true}
use Rattle.std.specs.List.{AllByRecursion}
use Rattle.std.proofs.lemmas.Bool.{eq-eqb}
use Rattle.allocation.specs.Rankings.{TotalOrder}
use Rattle.allocation.specs.Dealings.{interest, parity}
use Rattle.rules.specs.declared.orders.Side.{Side}
use Rattle.rules.specs.declared.orders.Side.TheVariants.{Buy, Sell}
use Rattle.rules.specs.declared.orders.Kind.{Kind}
use Rattle.rules.specs.declared.orders.Category.{Category}
use Rattle.rules.specs.declared.orders.Order.{Order}
use Rattle.rules.specs.declared.orders.Part.{Part}
use Rattle.rules.specs.declared.phases.Step.{Step}
use Rattle.rules.specs.declared.calls.Call.{Call}
use Rattle.rules.specs.declared.calls.Call.TheVariants.{Enter}
use Rattle.rules.specs.declared.answers.Row.{Row}
use Rattle.rules.specs.declared.answers.Row.TheVariants.{GivenBack}
use Rattle.rules.specs.Lists.{Distinct, sum_of}
use Rattle.rules.specs.Books.{Book, same_side, side, Level, with_side, other, Queue, Ranking}
use Rattle.rules.specs.Quantities.{claims}
use Rattle.rules.specs.Changes.{put, put_shown, put_hidden}
use Rattle.rules.specs.Trading.{trade_side, in_reach, Traded}
use Rattle.rules.specs.Reserve.{on, replenish, replenish_order}
use Rattle.rules.specs.Entering.{trade, arrived, two_parts, shown_part, hidden_part, place, with_order, finished, enter, Outcome, not_placed}
use Rattle.rules.specs.LeadLaw.{older, arrives, gained, trades_on, deals_on, level_at, queue_in}
use Rattle.rules.specs.Invariants.{SoundBook, prices}
use Rattle.rules.proofs.Renewed.{two_parts_by}
use Rattle.rules.proofs.Fits.{Sides, Fit, side_good}
use Rattle.rules.proofs.Members.{sum_of_append}
use Rattle.rules.proofs.Ranked.{Ranked, sorted_side, two_still}
use Rattle.rules.proofs.Leads.{MineAt, Glides, trade_side_glide}
use Rattle.rules.proofs.Spots.{sorted_once}
use Rattle.rules.proofs.Carry.{has_int, slack_in, Carry, on_seen, all_carry, Stays, place_stays}
use Rattle.rules.proofs.Owned.{orderly_mine}
use Rattle.rules.proofs.Listing.{own_each}
use Rattle.rules.proofs.Tending.{orderly_side, Midway, all_midway}
use Rattle.rules.proofs.Numbering.{sound_fit, sound_ranked}
use Rattle.rules.proofs.Remainder.{midway_met}
use Rattle.allocation.specs.Turning.{parity_lawful}

-- ## Sides

same_levels : (t s : Side) (b : Book) → same_side t s ≡ true → side t b ≡ side s b
same_levels Buy Buy b h = refl
same_levels Buy Sell b h = absurd (false≢true h)
same_levels Sell Buy b h = absurd (false≢true h)
same_levels Sell Sell b h = refl

with_same : (t s : Side) (ls : List Level) (b : Book) → same_side t s ≡ true → side s (with_side t ls b) ≡ ls
with_same Buy Buy ls b h = refl
with_same Buy Sell ls b h = absurd (false≢true h)
with_same Sell Buy ls b h = absurd (false≢true h)
with_same Sell Sell ls b h = refl

with_other : (t s : Side) (ls : List Level) (b : Book) → same_side t s ≡ false → side s (with_side t ls b) ≡ side s b
with_other Buy Buy ls b h = absurd (false≢true (sym h))
with_other Buy Sell ls b h = refl
with_other Sell Buy ls b h = refl
with_other Sell Sell ls b h = absurd (false≢true (sym h))

-- ## Older interest

older_more : (t u : Bool) (q older all : ℕ) → older ≤ all → cond (not t && u) q 0 + older ≤ cond u q 0 + all
older_more true true q older all h = omega arith
older_more true false q older all h = omega arith
older_more false true q older all h = omega arith
older_more false false q older all h = omega arith

pub older_less : (c : Call) (p : ℕ) (ps : List Part) → older c p ps ≤ interest p (claims ps)
older_less c p [] = omega arith
older_less c p (x ∷ ps) = older_more (arrives c x.order) (eqb p x.participant) x.quantity _ _ (older_less c p ps)

older_push : (e : Order) (p : ℕ) (x : Part) (k : Queue) → x.order ≡ e.number → older (Enter e) p (put x k).parts ≤ interest p (claims k.parts)
unfolding put
older_push e p x k same = push k.parts
  where
    push : (ps : List Part) → older (Enter e) p (ps ++ (x ∷ [])) ≤ interest p (claims ps)
    push [] = let z = eq-eqb e.number x.order (sym same) in grind arith
    push (y ∷ ps) = older_more (eqb e.number y.order) (eqb p y.participant) y.quantity _ _ (push ps)

module _ (rank : Ranking) (O : TotalOrder rank.good) (lot : ℕ) where
  -- a sound book with this round lot
  pub record Kept (b : Book) : Type 0 where
    pub is : b.lot ≡ lot
    pub sound : SoundBook rank b

  pub fit : (b : Book) → Kept b → Fit lot b
  fit b k = subst (λ l. Fit l b) k.is (sound_fit rank b k.sound)

  pub ranked : (b : Book) → Kept b → Ranked rank O b
  ranked b k = sound_ranked rank O b k.sound

  pub mine : (s : Side) (b : Book) → Kept b → AllByRecursion (MineAt b.orders) (side s b)
  mine s b k = orderly_mine b.orders s (side s b) (fit b k).once (orderly_side b.orders s b (k.sound.buys.orderly, k.sound.sells.orderly))

  pub once_at : (s : Side) (b : Book) → Ranked rank O b → Distinct (prices (side s b))
  once_at s b r = sorted_once rank O s (prices (side s b)) (sorted_side rank O s b r)

  -- ## An enter

  -- the other side, after trading
  met_side : (e : Order) (b : Book) → List Level
  met_side e b = (trade_side parity b.lot e.number b.steps (in_reach rank (arrived e b) e) e.quantity (side (other e.side) b)).rest

  met_rows : (e : Order) (b : Book) → List Row
  met_rows e b = (trade_side parity b.lot e.number b.steps (in_reach rank (arrived e b) e) e.quantity (side (other e.side) b)).rows

  met_book : (e : Order) (b : Book) → Book
  met_book e b = with_side (other e.side) (met_side e b) (arrived e b)

  met_midway : (pos : 0 < lot) (e : Order) (b : Book) → Kept b → Midway rank O lot pos b.orders (met_book e b)
  unfolding met_book met_side
  met_midway pos e b k = subst (λ l. (pos : 0 < l) → Midway rank O l pos b.orders (met_book e b)) k.is (λ pos. midway_met rank O parity parity_lawful b e k.sound pos) pos

  traded_is : (e : Order) (b : Book) → (trade rank parity e (arrived e b)).rest ≡ fold (replenish_order rank) (met_book e b) b.orders
  unfolding trade replenish met_book met_side
  traded_is e b = refl

  traded_rows : (e : Order) (b : Book) → (trade rank parity e (arrived e b)).rows ≡ met_rows e b
  unfolding trade met_rows
  traded_rows e b = refl

  traded_midway : (pos : 0 < lot) (e : Order) (b : Book) → Kept b → Midway rank O lot pos b.orders (trade rank parity e (arrived e b)).rest
  traded_midway pos e b k =
      subst (λ x. Midway rank O lot pos b.orders x) (sym (traded_is e b)) (all_midway rank O lot pos b.orders (met_book e b) b.orders (fit b k).displays (own_each b.orders) (met_midway pos e b k))

  -- ## The lead over an enter

  pub record Meets (p r : ℕ) (cat : Category) (v : ℕ) (es : List Order) (rows : List Row) (t : Bool) (l m : Level) : Type 0 where
    pub less : has_int cat p l ≡ has_int cat p m + cond t (sum_of (gained (trades_on cat) v es p) rows) 0
    pub lead : 0 < has_int cat p m → cond t (sum_of (gained (deals_on cat) v es r) rows) 0 + slack_in p r lot cat l ≤ cond t (sum_of (gained (deals_on cat) v es p) rows) 0 + slack_in p r lot cat m

  met_lead : (p r : ℕ) → (p ≡ r → ⊥) → (cat : Category) (s : Side) (v : ℕ) (e : Order) (b : Book) → Kept b
      → Meets p r cat v b.orders (met_rows e b) (same_side (other e.side) s) (level_at v (side s b)) (level_at v (side s (met_book e b)))
  unfolding met_book met_side met_rows
  met_lead p r ne cat s v e b k = go (same_side (other e.side) s) refl
    where
      s' : Side
      s' = other e.side

      reach : ℕ → Bool
      reach = in_reach rank (arrived e b) e

      ls : List Level
      ls = met_side e b

      glide : Glides p r ne lot cat b.orders v (level_at v (side s' b)) (level_at v ls) (met_rows e b)
      glide = subst (λ n. (let x : Traded (List Level) = trade_side parity n e.number b.steps reach e.quantity (side s' b) in Glides p r ne lot cat b.orders v (level_at v (side s' b)) (level_at v x.rest) x.rows))
          (sym (fit b k).sides.is) (trade_side_glide p r ne lot cat b.orders e.number v b.steps reach e.quantity (side s' b) (side_good lot s' b (fit b k).sides) (mine s' b k) (once_at s' b (ranked b k)))

      go : (t : Bool) → same_side s' s ≡ t → Meets p r cat v b.orders (met_rows e b) t (level_at v (side s b)) (level_at v (side s (with_side s' ls (arrived e b))))
      go true h =
          let from : side s' b ≡ side s b = same_levels s' s b h in
          let into : side s (with_side s' ls (arrived e b)) ≡ ls = with_same s' s ls (arrived e b) h in
          let g : Glides p r ne lot cat b.orders v (level_at v (side s b)) (level_at v ls) (met_rows e b) = subst (λ x. Glides p r ne lot cat b.orders v (level_at v x) (level_at v ls) (met_rows e b)) from glide in
          subst (λ x. Meets p r cat v b.orders (met_rows e b) true (level_at v (side s b)) (level_at v x)) (sym into) (record { less = g.less p; lead = g.lead })
      go false h =
          let into : side s (with_side s' ls (arrived e b)) ≡ side s b = with_other s' s ls (arrived e b) h in
          subst (λ x. Meets p r cat v b.orders (met_rows e b) false (level_at v (side s b)) (level_at v x)) (sym into) (record { less = omega arith; lead = λ i. omega arith })

  -- what is placed is the arriving order's
  abbrev Old : Order → ℕ → Category → Level → Level → Type 0
  Old e p cat l m = older (Enter e) p (queue_in cat m).parts ≤ has_int cat p l

  old_self : (e : Order) (p : ℕ) (cat : Category) (l : Level) → Old e p cat l l
  old_self e p cat l = older_less (Enter e) p (queue_in cat l).parts

  old_shown : (e : Order) (p : ℕ) (cat : Category) (x : Part) (l : Level) → x.order ≡ e.number → Old e p cat l (put_shown x l)
  old_shown e p Category.Displayed x l o = older_push e p x l.shown o
  old_shown e p Category.Hidden x l o = old_self e p Category.Hidden l

  old_hidden : (e : Order) (p : ℕ) (cat : Category) (x : Part) (l : Level) → x.order ≡ e.number → Old e p cat l (put_hidden x l)
  old_hidden e p Category.Displayed x l o = old_self e p Category.Displayed l
  old_hidden e p Category.Hidden x l o = older_push e p x l.hidden o

  old_two : (e : Order) (p : ℕ) (cat : Category) (b : Book) (n : ℕ) (l : Level) → Old e p cat l (two_parts rank b e n l)
  old_two e p cat b n l = two_parts_by (Old e p cat l) rank b e n l (λ _. shown cat) (λ _. both cat)
    where
      d : ℕ
      d = min e.display n

      shown : (cat : Category) → Old e p cat l (put_shown (shown_part rank b e d) l)
      shown cat = old_shown e p cat (shown_part rank b e d) l refl

      both : (cat : Category) → Old e p cat l (put_hidden (hidden_part e (n - d)) (put_shown (shown_part rank b e d) l))
      both Category.Displayed = shown Category.Displayed
      both Category.Hidden = old_hidden e p Category.Hidden (hidden_part e (n - d)) l refl

  old_placed : (pos : 0 < lot) (p : ℕ) (cat : Category) (s : Side) (v : ℕ) (k : Kind) (e : Order) (n : ℕ) (b : Book) → Ranked rank O b → Old e p cat (level_at v (side s b)) (level_at v (side s (place rank k e n b)))
  unfolding place
  old_placed pos p cat s v Kind.Limit e n b q = on_seen rank O lot pos (Old e p cat (level_at v (side s b))) s v e (put_shown (shown_part rank b e n)) b (λ l. refl) q (old_self e p cat (level_at v (side s b))) (old_shown e p cat (shown_part rank b e n) (level_at v (side s b)) refl)
  old_placed pos p cat s v Kind.Hidden e n b q = on_seen rank O lot pos (Old e p cat (level_at v (side s b))) s v e (put_hidden (hidden_part e n)) b (λ l. refl) q (old_self e p cat (level_at v (side s b))) (old_hidden e p cat (hidden_part e n) (level_at v (side s b)) refl)
  old_placed pos p cat s v Kind.Reserve e n b q = on_seen rank O lot pos (Old e p cat (level_at v (side s b))) s v e (two_parts rank b e n) b (two_still rank b e n) q (old_self e p cat (level_at v (side s b))) (old_two e p cat b n (level_at v (side s b)))
  old_placed pos p cat s v Kind.Immediate e n b q = old_self e p cat (level_at v (side s b))
  old_placed pos p cat s v Kind.Market e n b q = old_self e p cat (level_at v (side s b))

  side_order : (s : Side) (e : Order) (b : Book) → side s (with_order e b) ≡ side s b
  side_order Buy e b = refl
  side_order Sell e b = refl

  finished_stays : (pos : 0 < lot) (t u : Bool) (p r : ℕ) (cat : Category) (s : Side) (v : ℕ) (e : Order) (n : ℕ) (rs : List Row) (b : Book) → Sides lot b → Ranked rank O b
      → (let m : Level = level_at v (side s (finished t u rank e n rs b).book) in Old e p cat (level_at v (side s b)) m × Stays rank O lot pos p r cat (level_at v (side s b)) m)
  finished_stays pos true u p r cat s v e n rs b f q = (old_self e p cat (level_at v (side s b)), λ h. omega arith)
  finished_stays pos false true p r cat s v e n rs b f q = (old_self e p cat (level_at v (side s b)), λ h. omega arith)
  finished_stays pos false false p r cat s v e n rs b f q =
      let y : Book = place rank e.kind e n b in
      subst (λ x. Old e p cat (level_at v (side s b)) (level_at v x) × Stays rank O lot pos p r cat (level_at v (side s b)) (level_at v x)) (sym (side_order s e y))
      (old_placed pos p cat s v e.kind e n b q, place_stays rank O lot pos p r cat s v e.kind e n b f q)

  finished_gained : (t u : Bool) (on : Step → Bool) (v : ℕ) (es : List Order) (q : ℕ) (e : Order) (n : ℕ) (rs : List Row) (b : Book) → sum_of (gained on v es q) (finished t u rank e n rs b).rows ≡ sum_of (gained on v es q) rs
  finished_gained true u on v es q e n rs b = refl
  finished_gained false true on v es q e n rs b = omega (arith, sum_of_append (gained on v es q) rs (GivenBack e.number n ∷ []))
  finished_gained false false on v es q e n rs b = refl

  -- from before the enter to after it
  carried : (p r : ℕ) (cat : Category) (v : ℕ) (es : List Order) (rows : List Row) (t : Bool) (l m n : Level) → Meets p r cat v es rows t l m → Carry p r lot cat m n
      → cond t (sum_of (gained (trades_on cat) v es p) rows) 0 < has_int cat p l → 0 < has_int cat p n
      → cond t (sum_of (gained (deals_on cat) v es r) rows) 0 + slack_in p r lot cat l ≤ cond t (sum_of (gained (deals_on cat) v es p) rows) 0 + slack_in p r lot cat n
  carried p r Category.Displayed v es rows t l m n meets carry some last =
      let here : 0 < has_int Category.Displayed p m = (let a = meets.less in omega arith) in
      let x = carry here in
      omega (arith, meets.lead here, x.1)
  carried p r Category.Hidden v es rows t l m n meets carry some last = let x = carry last in omega (arith, meets.lead x.0, x.1)

  pub enter_lead : (p r : ℕ) → (p ≡ r → ⊥) → (cat : Category) (s : Side) (v : ℕ) (e : Order) (b : Book) → Kept b
      → (let d : Outcome = enter rank parity e b in let t : Bool = same_side (other e.side) s in
      cond t (sum_of (gained (trades_on cat) v b.orders p) d.rows) 0 < has_int cat p (level_at v (side s b))
      → 0 < older (Enter e) p (queue_in cat (level_at v (side s d.book))).parts
      → cond t (sum_of (gained (deals_on cat) v b.orders r) d.rows) 0 + slack_in p r lot cat (level_at v (side s b))
      ≤ cond t (sum_of (gained (deals_on cat) v b.orders p) d.rows) 0 + slack_in p r lot cat (level_at v (side s d.book)))
  unfolding enter
  enter_lead p r ne cat s v e b k some after =
      let pos : 0 < lot = (fit b k).pos in
      let t : Bool = same_side (other e.side) s in
      let es : List Order = b.orders in
      let x : Traded Book = trade rank parity e (arrived e b) in
      let y : Midway rank O lot pos es x.rest = traded_midway pos e b k in
      let d : Outcome = finished (eqb x.left 0) (not_placed rank b e) rank e x.left x.rows x.rest in
      let rows : (on : Step → Bool) (q : ℕ) → sum_of (gained on v es q) d.rows ≡ sum_of (gained on v es q) (met_rows e b) = λ on q.
      finished_gained (eqb x.left 0) (not_placed rank b e) on v es q e x.left x.rows x.rest ∙ ap (sum_of (gained on v es q)) (traded_rows e b) in
      let l0 : Level = level_at v (side s b) in
      let l1 : Level = level_at v (side s (met_book e b)) in
      let l2 : Level = level_at v (side s x.rest) in
      let l3 : Level = level_at v (side s d.book) in
      let carry : Carry p r lot cat l1 l2 = subst (λ z. Carry p r lot cat l1 (level_at v (side s z))) (sym (traded_is e b))
      (all_carry rank O lot pos p r cat s v es (met_book e b) b.orders (fit b k).once (fit b k).displays (own_each es) (met_midway pos e b k)) in
      let end : Old e p cat l2 l3 × Stays rank O lot pos p r cat l2 l3 = finished_stays pos (eqb x.left 0) (not_placed rank b e) p r cat s v e x.left x.rows x.rest y.sides y.ranked in
      let last : 0 < has_int cat p l2 = (let a = end.0 in omega arith) in
      let stays : slack_in p r lot cat l2 ≤ slack_in p r lot cat l3 = end.1 last in
      let some' : cond t (sum_of (gained (trades_on cat) v es p) (met_rows e b)) 0 < has_int cat p l0 = subst (λ n. cond t n 0 < has_int cat p l0) (rows (trades_on cat) p) some in
      let main = carried p r cat v es (met_rows e b) t l0 l1 l2 (met_lead p r ne cat s v e b k) carry some' last in
      rw (rows (deals_on cat) r, rows (deals_on cat) p) (omega arith)
