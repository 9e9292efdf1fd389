-- A sound book stays sound: what an accepted call leaves, and tidying. Assumes nothing.
use Rattle.std.proofs.Common.{◌≡◌, ℕ, ◌<◌, ◌≤◌, Bool, true, false, cond, ltb, List, [], ◌∷◌, length, filter, sym, refl, ◌∙◌, subst, arith}
use Rattle.std.specs.List.{AllByRecursion}
use Rattle.std.proofs.lemmas.Bool.{eq-eqb, ltb-true, lt-ltb}
use Rattle.std.proofs.ByRecursion.{All-weaker, all_kept_by, kept_by_passes}
use Rattle.allocation.specs.Rankings.{TotalOrder}
use Rattle.rules.specs.declared.orders.Side.{Side}
use Rattle.rules.specs.declared.orders.Side.TheVariants.{Buy, Sell}
use Rattle.rules.specs.declared.orders.Order.{Order}
use Rattle.rules.specs.declared.orders.Part.{Part}
use Rattle.rules.specs.declared.phases.Phase.{Phase}
use Rattle.rules.specs.Books.{Level, Ranking, Book, with_phase}
use Rattle.rules.specs.Quantities.{of_order, of_side, resting}
use Rattle.rules.specs.Reserve.{is_reserve, runs_low}
use Rattle.rules.specs.Rules.{tidy, holds}
use Rattle.rules.specs.Tables.{GoodTable}
use Rattle.rules.specs.Invariants.{SoundLevel, listed, Orderly, Rising, numbers, Admitted, SoundBook, SoundSide}
use Rattle.rules.proofs.Members.{all_both}
use Rattle.rules.proofs.Fits.{Fit}
use Rattle.rules.proofs.Effects.{tidy_rest}
use Rattle.rules.proofs.Ranked.{Ranked, kept_sorted}
use Rattle.rules.proofs.Listing.{listed_kept}
use Rattle.rules.proofs.Tending.{Both}
use Rattle.rules.proofs.Rested.{Rested}
use Rattle.rules.proofs.Walks.{Held}
use Rattle.rules.proofs.Uncrossed.{Apart, apart_changed, apart_uncrossed}
use Rattle.rules.proofs.Numbering.{rising_kept, rising_later}

-- ## Tidying

length_kept : {X : Type 0} (g : X → Bool) (xs : List X) → length (filter g xs) ≤ length xs
length_kept g [] = omega arith
length_kept g (x ∷ xs) = go (g x) (length_kept g xs)
  where
    go : (t : Bool) → length (filter g xs) ≤ length xs → length (cond t (x ∷ filter g xs) (filter g xs)) ≤ length (x ∷ xs)
    go true ih = omega arith
    go false ih = omega arith

-- ## Every part's order rests, so it is kept

in_order : (ps : List Part) → AllByRecursion (λ p. 0 < p.quantity) ps → AllByRecursion (λ x. 0 < of_order x.order ps) ps
in_order [] h = tt
in_order (p ∷ ps) h = (
  (let a = h.0 in let b = eq-eqb p.order p.order refl in grind arith),
  All-weaker (λ x. 0 < of_order x.order ps) (λ x. 0 < of_order x.order (p ∷ ps)) (λ x k. omega arith) ps (in_order ps h.1),
)

abbrev pub Rests : (ℕ → ℕ) → Level → Type 0
Rests f l = AllByRecursion (λ x. 0 < f x.order) l.shown.parts × AllByRecursion (λ x. 0 < f x.order) l.hidden.parts

pub all_rest : (lot : ℕ) (f : ℕ → ℕ) (ls : List Level) → ((n : ℕ) → of_side n ls ≤ f n) → AllByRecursion (SoundLevel lot) ls → AllByRecursion (Rests f) ls
all_rest lot f [] le g = tt
all_rest lot f (l ∷ ls) le g = (
  (
    All-weaker (λ x. 0 < of_order x.order l.shown.parts) (λ x. 0 < f x.order) (λ x k. (let a = le x.order in omega arith)) l.shown.parts (in_order l.shown.parts g.0.0.positive),
    All-weaker (λ x. 0 < of_order x.order l.hidden.parts) (λ x. 0 < f x.order) (λ x k. (let a = le x.order in omega arith)) l.hidden.parts (in_order l.hidden.parts g.0.1.positive),
  ),
  all_rest lot f ls (λ n. (let a = le n in omega arith)) g.1,
)

kept_parts : (f : ℕ → ℕ) (es : List Order) (s : Side) (v : ℕ) (ps : List Part) → AllByRecursion (λ p. 0 < f p.order) ps → AllByRecursion (λ p. listed es s v p ≡ true) ps → AllByRecursion (λ p. listed (filter (λ e. ltb 0 (f e.number)) es) s v p ≡ true) ps
kept_parts f es s v [] r h = tt
kept_parts f es s v (p ∷ ps) r h = (
  listed_kept (λ n. ltb 0 (f n)) es s v p ∙ rw (h.0, lt-ltb 0 (f p.order) r.0),
  kept_parts f es s v ps r.1 h.1,
)

kept_orderly : (f : ℕ → ℕ) (es : List Order) (s : Side) (ls : List Level) → AllByRecursion (Rests f) ls → AllByRecursion (Orderly es s) ls → AllByRecursion (Orderly (filter (λ e. ltb 0 (f e.number)) es) s) ls
kept_orderly f es s [] r h = tt
kept_orderly f es s (l ∷ ls) r h = (
  (
    record { listed = kept_parts f es s l.price l.shown.parts r.0.0 h.0.0.listed; marked = h.0.0.marked; few = h.0.0.few },
    record { listed = kept_parts f es s l.price l.hidden.parts r.0.1 h.0.1.listed; marked = h.0.1.marked; few = h.0.1.few },
  ),
  kept_orderly f es s ls r.1 h.1,
)

module _ (rank : Ranking) (O : TotalOrder rank.good) (lot : ℕ) where
  -- what an accepted call leaves, before it is tidied
  pub record Upkept (x : Book) : Type 0 where
    pub fit : Fit lot x
    pub ranked : Ranked rank O x
    pub table : GoodTable x.steps
    pub both : Both x.orders x
    pub apart : Apart rank x.buys x.sells
    pub rising : Rising x.last (numbers x.orders)
    pub few : length x.orders ≤ 128
    pub admitted : AllByRecursion (Admitted lot) x.orders
    pub inside : AllByRecursion (λ e. resting e.number x ≤ e.quantity) x.orders
    pub rested : AllByRecursion (λ e. is_reserve e.kind ≡ true → Rested lot e.number x) x.orders

  pub tidy_sound : (p : Phase) (x : Book) → Upkept x → SoundBook rank (tidy (with_phase p x))
  unfolding tidy
  tidy_sound p x u =
      let f : ℕ → ℕ = λ n. resting n x in
      let g : Order → Bool = λ e. ltb 0 (f e.number) in
      let es : List Order = filter g x.orders in
      let is : lot ≡ x.lot = sym u.fit.sides.is in
      let same : (n : ℕ) → resting n (tidy x) ≡ resting n x = λ n. tidy_rest n x in
      let buys : SoundSide rank x.lot es Buy (filter holds x.buys) = record {
        sound = subst (λ k. AllByRecursion (SoundLevel k) (filter holds x.buys)) is (all_kept_by holds (SoundLevel lot) x.buys u.fit.sides.buys);
        orderly = all_kept_by holds (Orderly es Buy) x.buys (kept_orderly f x.orders Buy x.buys (all_rest lot f x.buys (λ n. omega arith) u.fit.sides.buys) u.both.0);
        sorted = kept_sorted rank O Buy holds x.buys u.ranked.buys;
        occupied = kept_by_passes holds x.buys;
      } in
      let sells : SoundSide rank x.lot es Sell (filter holds x.sells) = record {
        sound = subst (λ k. AllByRecursion (SoundLevel k) (filter holds x.sells)) is (all_kept_by holds (SoundLevel lot) x.sells u.fit.sides.sells);
        orderly = all_kept_by holds (Orderly es Sell) x.sells (kept_orderly f x.orders Sell x.sells (all_rest lot f x.sells (λ n. omega arith) u.fit.sides.sells) u.both.1);
        sorted = kept_sorted rank O Sell holds x.sells u.ranked.sells;
        occupied = kept_by_passes holds x.sells;
      } in
      record {
        lot = subst (λ k. 0 < k) is u.fit.pos;
        table = u.table;
        buys = buys;
        sells = sells;
        uncrossed = apart_uncrossed rank (filter holds x.buys) (filter holds x.sells) buys.occupied sells.occupied
            (apart_changed rank x.buys (filter holds x.buys) x.sells (filter holds x.sells) (λ P h. all_kept_by holds (Held P) x.buys h) (λ P h. all_kept_by holds (Held P) x.sells h) u.apart);
        rising = rising_kept x.last g x.orders u.rising;
        few = omega (arith, length_kept g x.orders, u.few);
        admitted = subst (λ k. AllByRecursion (Admitted k) es) is (all_kept_by g (Admitted lot) x.orders u.admitted);
        resting = All-weaker (λ e. (g e ≡ true) × (resting e.number x ≤ e.quantity)) (λ e. (0 < resting e.number (tidy x)) × (resting e.number (tidy x) ≤ e.quantity))
            (λ e h. (omega (arith, same e.number, ltb-true 0 (resting e.number x) h.0), omega (arith, same e.number, h.1))) es
            (all_both (λ e. g e ≡ true) (λ e. resting e.number x ≤ e.quantity) es (kept_by_passes g x.orders) (all_kept_by g (λ e. resting e.number x ≤ e.quantity) x.orders u.inside));
        replenished = subst (λ k. AllByRecursion (λ e. is_reserve e.kind ≡ true → AllByRecursion (λ l. runs_low k e.number l ≡ false) (filter holds x.buys) × AllByRecursion (λ l. runs_low k e.number l ≡ false) (filter holds x.sells)) es) is
            (All-weaker (λ e. is_reserve e.kind ≡ true → Rested lot e.number x) (λ e. is_reserve e.kind ≡ true → AllByRecursion (λ l. runs_low lot e.number l ≡ false) (filter holds x.buys) × AllByRecursion (λ l. runs_low lot e.number l ≡ false) (filter holds x.sells))
            (λ e h r. (all_kept_by holds (λ l. runs_low lot e.number l ≡ false) x.buys (h r).0, all_kept_by holds (λ l. runs_low lot e.number l ≡ false) x.sells (h r).1)) es (all_kept_by g (λ e. is_reserve e.kind ≡ true → Rested lot e.number x) x.orders u.rested));
      }

  -- ## A call that takes no order on

  pub upkept_less : (b x : Book) → b.lot ≡ lot → SoundBook rank b → Fit lot x → Ranked rank O x → x.orders ≡ b.orders → b.last ≤ x.last → x.steps ≡ b.steps → ((n : ℕ) → resting n x ≤ resting n b)
      → Both b.orders x → Apart rank x.buys x.sells → AllByRecursion (λ e. is_reserve e.kind ≡ true → Rested lot e.number x) b.orders → Upkept x
  upkept_less b x is s f r o l t le both apart rest =
      record {
        fit = f;
        ranked = r;
        table = subst GoodTable (sym t) s.table;
        both = subst (λ es. Both es x) (sym o) both;
        apart = apart;
        rising = subst (λ es. Rising x.last (numbers es)) (sym o) (rising_later b.last x.last (numbers b.orders) l s.rising);
        few = subst (λ es. length es ≤ 128) (sym o) s.few;
        admitted = subst (λ es. AllByRecursion (Admitted lot) es) (sym o) (subst (λ k. AllByRecursion (Admitted k) b.orders) is s.admitted);
        inside = subst (λ es. AllByRecursion (λ e. resting e.number x ≤ e.quantity) es) (sym o)
            (All-weaker (λ e. (0 < resting e.number b) × (resting e.number b ≤ e.quantity)) (λ e. resting e.number x ≤ e.quantity) (λ e h. omega (arith, le e.number, h.1)) b.orders s.resting);
        rested = subst (λ es. AllByRecursion (λ e. is_reserve e.kind ≡ true → Rested lot e.number x) es) (sym o) rest;
      }
