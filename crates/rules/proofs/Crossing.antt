-- Trading over a side is a chain of stages, best first. Assumes nothing.
use Rattle.std.proofs.Common.{◌≡◌, ℕ, ◌+◌, ◌-◌, ◌<◌, ◌≤◌, Bool, true, false, cond, not, ◌&&◌, ◌||◌, List, [], ◌∷◌, ◌++◌, map, filter, sym, refl, ap, ◌∙◌, subst, inl, inr, append_assoc, arith}
use mathlib.Core.Bool.{false≢true}
use Rattle.std.specs.List.{AllByRecursion}
use Rattle.std.proofs.lemmas.List.{map-append}
use Rattle.std.proofs.ByRecursion.{All-append, All-weaker}
use Rattle.allocation.specs.Rankings.{TotalOrder}
use Rattle.allocation.specs.Dealings.{Deal, Lawful, Dealt, sum}
use Rattle.rules.specs.declared.orders.Side.{Side}
use Rattle.rules.specs.declared.orders.Part.{Part}
use Rattle.rules.specs.declared.phases.Step.{Step}
use Rattle.rules.specs.declared.answers.Row.{Row}
use Rattle.rules.specs.Books.{Level, queue, Ranking, better}
use Rattle.rules.specs.Changes.{lowered}
use Rattle.rules.specs.Trading.{Traded, rows_of, traded, queue_of, step_shares, trade_price, with_queue, taken, trade_side, trade_reached}
use Rattle.rules.specs.Tables.{has_step, same_step, place_of, count, GoodTable}
use Rattle.rules.specs.OrderLaw.{of_step, rows_for, forget, at_level, Reached, at_levels}
use Rattle.rules.specs.Invariants.{SoundLevel, BestFirst, prices}
use Rattle.rules.proofs.Trades.{Fair, fair_shares}
use Rattle.rules.proofs.Stages.{Stage, Stepped, setter_step, shown_step, hidden_step}
use Rattle.rules.proofs.Chains.{meet, Group, reached, Chain, chain_append, meet_forget, meet_rows, rows_for_append, Ahead, Ordered}
use Rattle.rules.proofs.Members.{all_both}

-- what the proofs use of a table: no step twice, and S not behind D
abbrev pub Fine : List Step → Type 0
Fine [] = Unit {0}
Fine (Step.Setter ∷ ss) = (has_step Step.Setter ss ≡ false) × Fine ss
Fine (Step.Displayed ∷ ss) = (has_step Step.Displayed ss ≡ false) × (has_step Step.Setter ss ≡ false) × Fine ss
Fine (Step.Hidden ∷ ss) = (has_step Step.Hidden ss ≡ false) × Fine ss

abbrev group : ℕ → Step → List Part → List ℕ → Group
group v s ps xs = record { price = v; step = s; parts = ps; xs = xs }

mets_append : (gs hs : List Group) → reached (gs ++ hs) ≡ reached gs ++ reached hs
mets_append [] hs = refl
mets_append (g ∷ gs) hs = rw (mets_append gs hs) (sym (append_assoc (meet g.price g.step g.parts g.xs) (reached gs) (reached hs)))

-- ## The steps at one price

pub same_step_is : (s t : Step) → same_step s t ≡ true → s ≡ t
same_step_is Step.Setter Step.Setter h = refl
same_step_is Step.Setter Step.Displayed h = absurd (false≢true h)
same_step_is Step.Setter Step.Hidden h = absurd (false≢true h)
same_step_is Step.Displayed Step.Setter h = absurd (false≢true h)
same_step_is Step.Displayed Step.Displayed h = refl
same_step_is Step.Displayed Step.Hidden h = absurd (false≢true h)
same_step_is Step.Hidden Step.Setter h = absurd (false≢true h)
same_step_is Step.Hidden Step.Displayed h = absurd (false≢true h)
same_step_is Step.Hidden Step.Hidden h = refl

-- the steps of groups rise, and are the table's
abbrev Rising : List Step → List Group → Type 0
Rising ss [] = Unit {0}
Rising ss (g ∷ gs) = AllByRecursion (λ h. place_of ss g.step < place_of ss h.step) gs × Rising ss gs

-- a step further back in the table
apart : (s : Step) (ss : List Step) (x : Step) → has_step s ss ≡ false → has_step x ss ≡ true → same_step s x ≡ false
apart s ss x h k = go (same_step s x) refl
  where
    go : (t : Bool) → same_step s x ≡ t → t ≡ false
    go false e = refl
    go true e = let same : s ≡ x = same_step_is s x e in absurd (false≢true (sym (subst (λ y. has_step y ss ≡ false) same h) ∙ k))

self : (s : Step) → same_step s s ≡ true
self Step.Setter = refl
self Step.Displayed = refl
self Step.Hidden = refl

behind : (s : Step) (ss : List Step) (gs : List Group) → has_step s ss ≡ false → AllByRecursion (λ g. has_step g.step ss ≡ true) gs → AllByRecursion (λ g. place_of (s ∷ ss) s < place_of (s ∷ ss) g.step) gs
behind s ss gs h m =
    All-weaker {X = Group} (λ g. has_step g.step ss ≡ true) (λ g. place_of (s ∷ ss) s < place_of (s ∷ ss) g.step) (λ g k. rw (self s, apart s ss g.step h k) (omega arith)) gs m

rising_more : (s : Step) (ss : List Step) (gs : List Group) → has_step s ss ≡ false → AllByRecursion (λ g. has_step g.step ss ≡ true) gs → Rising ss gs → Rising (s ∷ ss) gs
rising_more s ss [] h m r = tt
rising_more s ss (g ∷ gs) h m r = (
  All-weaker {X = Group} (λ x. (has_step x.step ss ≡ true) × (place_of ss g.step < place_of ss x.step)) (λ x. place_of (s ∷ ss) g.step < place_of (s ∷ ss) x.step)
      (λ x k. rw (apart s ss g.step h m.0, apart s ss x.step h k.0) (let l = k.1 in omega arith)) gs (all_both (λ x. has_step x.step ss ≡ true) (λ x. place_of ss g.step < place_of ss x.step) gs m.1 r.0),
  rising_more s ss gs h m.1 r.1,
)

in_more : (s : Step) (ss : List Step) (gs : List Group) → AllByRecursion (λ g. has_step g.step ss ≡ true) gs → AllByRecursion (λ g. has_step g.step (s ∷ ss) ≡ true) gs
in_more s ss gs m = All-weaker (λ g. has_step g.step ss ≡ true) (λ g. has_step g.step (s ∷ ss) ≡ true) (λ g k. rw k (or_yes (same_step s g.step))) gs m
  where
    or_yes : (x : Bool) → (x || true) ≡ true
    or_yes true = refl
    or_yes false = refl

module _ (deal : Deal) (D : Lawful deal) (lot a : ℕ) where
  -- m is what earlier steps left of l, as far as the steps ss look at it
  record Stand (t : Bool) (ss : List Step) (q : ℕ) (l m : Level) : Type 0 where
    good : SoundLevel lot m
    price : m.price ≡ l.price
    marked : has_step Step.Setter ss ≡ true → (t ≡ true) × (m.shown.parts ≡ l.shown.parts)
    shown : has_step Step.Setter ss ≡ false → has_step Step.Displayed ss ≡ true → 0 < q → m.shown.parts ≡ of_step t lot Step.Displayed l
    hidden : has_step Step.Hidden ss ≡ true → m.hidden.parts ≡ l.hidden.parts

  record Staged (t : Bool) (ss : List Step) (q : ℕ) (l : Level) (r : Traded Level) : Type 0 where
    groups : List Group
    chain : Chain q groups r.left
    same_rows : r.rows ≡ rows_for a (reached groups)
    all_reached : map forget (reached groups) ≡ at_level t lot ss l
    priced : AllByRecursion (λ g. g.price ≡ l.price) groups
    rising : Rising ss groups
    inside : AllByRecursion (λ g. has_step g.step ss ≡ true) groups

  -- one step before the others
  one_step_more : (t : Bool) (s : Step) (ss : List Step) (q q' : ℕ) (l : Level) (xs : List ℕ) (rs : List Row) (r : Traded Level) → has_step s ss ≡ false
      → Stage q (of_step t lot s l) xs q' → rs ≡ rows_of s a l.price (of_step t lot s l) xs → Staged t ss q' l r → Staged t (s ∷ ss) q l (traded r.left (rs ++ r.rows) r.rest)
  one_step_more t s ss q q' l xs rs r new st rows c =
      let g : Group = group l.price s (of_step t lot s l) xs in
      let here : List Reached = meet l.price s (of_step t lot s l) xs in
      record {
        groups = g ∷ c.groups;
        chain = (q', st, c.chain);
        same_rows = sym (rows_for_append a here (reached c.groups) ∙ rw (meet_rows a l.price s (of_step t lot s l) xs, rows, c.same_rows));
        all_reached = map-append forget here (reached c.groups) ∙ rw (meet_forget l.price s (of_step t lot s l) xs, c.all_reached);
        priced = (refl, c.priced);
        rising = (behind s ss c.groups new c.inside, rising_more s ss c.groups new c.inside c.rising);
        inside = (rw (self s), in_more s ss c.groups c.inside);
      }

  fair_at : (q : ℕ) (s : Step) (m : Level) → SoundLevel lot m → Fair lot q (queue_of s m) (step_shares deal lot q s m)
  fair_at q s m g = fair_shares deal D lot q s m g

  staged : (t : Bool) (ss : List Step) (q : ℕ) (l m : Level) → Fine ss → Stand t ss q l m → Staged t ss q l (trade_price deal lot a ss q m)
  unfolding trade_price
  staged t [] q l m f h = record { groups = []; chain = refl; same_rows = refl; all_reached = refl; priced = tt; rising = tt; inside = tt }
  staged t (Step.Setter ∷ ss) q l m f h =
      let d : Dealt = step_shares deal lot q Step.Setter m in
      let m' : Level = with_queue Step.Setter (queue (lowered m.shown.parts d.shares) d.wheel) m in
      let k = h.marked refl in
      let x = setter_step deal D lot a q l m h.good.0 k.1 in
      let at : of_step t lot Step.Displayed l ≡ of_step true lot Step.Displayed l = ap (λ u. of_step u lot Step.Displayed l) k.0 in
      let next : Stand t ss (q - sum d.shares) l m' = record {
        good = ((fair_at q Step.Setter m h.good).sound, h.good.1);
        price = h.price;
        marked = λ y. absurd (false≢true (sym f.0 ∙ y));
        shown = λ _ _ some. x.1 some ∙ sym at;
        hidden = h.hidden;
      } in
      one_step_more t Step.Setter ss q (q - sum d.shares) l x.0.xs (rows_of Step.Setter a m.price m.shown.parts d.shares) (trade_price deal lot a ss (q - sum d.shares) m') f.0
      (subst (λ u. Stage q (of_step u lot Step.Setter l) x.0.xs (q - sum d.shares)) (sym k.0) x.0.stage)
      (x.0.same_rows ∙ ap (λ v. rows_of Step.Setter a v (of_step true lot Step.Setter l) x.0.xs) h.price ∙ ap (λ u. rows_of Step.Setter a l.price (of_step u lot Step.Setter l) x.0.xs) (sym k.0))
      (staged t ss (q - sum d.shares) l m' f.1 next)
  staged t (Step.Displayed ∷ ss) q l m f h =
      let d : Dealt = step_shares deal lot q Step.Displayed m in
      let m' : Level = with_queue Step.Displayed (queue (lowered m.shown.parts d.shares) d.wheel) m in
      let x : Stepped Step.Displayed a m.price q m.shown.parts (of_step t lot Step.Displayed l) d.shares = shown_step deal D lot a q m (of_step t lot Step.Displayed l) h.good.0 (h.shown f.1 refl) in
      let next : Stand t ss (q - sum d.shares) l m' = record {
        good = ((fair_at q Step.Displayed m h.good).sound, h.good.1);
        price = h.price;
        marked = λ y. absurd (false≢true (sym f.1 ∙ y));
        shown = λ _ y _. absurd (false≢true (sym f.0 ∙ y));
        hidden = h.hidden;
      } in
      one_step_more t Step.Displayed ss q (q - sum d.shares) l x.xs (rows_of Step.Displayed a m.price m.shown.parts d.shares) (trade_price deal lot a ss (q - sum d.shares) m') f.0 x.stage
      (x.same_rows ∙ ap (λ v. rows_of Step.Displayed a v (of_step t lot Step.Displayed l) x.xs) h.price) (staged t ss (q - sum d.shares) l m' f.2 next)
  staged t (Step.Hidden ∷ ss) q l m f h =
      let d : Dealt = step_shares deal lot q Step.Hidden m in
      let m' : Level = with_queue Step.Hidden (queue (lowered m.hidden.parts d.shares) d.wheel) m in
      let x : Stepped Step.Hidden a m.price q m.hidden.parts l.hidden.parts d.shares = hidden_step deal D lot a q m l.hidden.parts h.good.1 (h.hidden refl) in
      let less : q - sum d.shares ≤ q = omega arith in
      let next : Stand t ss (q - sum d.shares) l m' = record {
        good = (h.good.0, (fair_at q Step.Hidden m h.good).sound);
        price = h.price;
        marked = h.marked;
        shown = λ y z some. h.shown y z (omega arith);
        hidden = λ y. absurd (false≢true (sym f.0 ∙ y));
      } in
      one_step_more t Step.Hidden ss q (q - sum d.shares) l x.xs (rows_of Step.Hidden a m.price m.hidden.parts d.shares) (trade_price deal lot a ss (q - sum d.shares) m') f.0 x.stage
      (x.same_rows ∙ ap (λ v. rows_of Step.Hidden a v l.hidden.parts x.xs) h.price) (staged t ss (q - sum d.shares) l m' f.1 next)

  -- from the start
  all_staged : (ss : List Step) (q : ℕ) (l : Level) → Fine ss → SoundLevel lot l → Staged (has_step Step.Setter ss) ss q l (trade_price deal lot a ss q l)
  all_staged ss q l f g =
      staged (has_step Step.Setter ss) ss q l l f
      (record { good = g; price = refl; marked = λ y. (y, refl); shown = λ y _ _. sym (ap (λ u. cond (u && taken lot l) (filter (λ p. not p.marked) l.shown.parts) l.shown.parts) y); hidden = λ _. refl })

module _ (rank : Ranking) (O : TotalOrder rank.good) (s : Side) where
  pub record Crossed (table : List Step) (a q : ℕ) (vs : List ℕ) (target : List Reached) (rows : List Row) (left : ℕ) : Type 0 where
    pub groups : List Group
    pub chain : Chain q groups left
    pub same_rows : rows ≡ rows_for a (reached groups)
    pub all_reached : map forget (reached groups) ≡ target
    pub among : (v : ℕ) → AllByRecursion (λ w. better rank s v w ≡ true) vs → AllByRecursion (λ g. better rank s v g.price ≡ true) groups
    pub ordered : Ordered rank O s table groups

  -- groups of one price, in the order of the table, and then groups of worse prices
  join_ordered : (table : List Step) (v : ℕ) (gs hs : List Group) → AllByRecursion (λ g. g.price ≡ v) gs → Rising table gs → AllByRecursion (λ h. better rank s v h.price ≡ true) hs → Ordered rank O s table hs → Ordered rank O s table (gs ++ hs)
  join_ordered table v [] hs p r w o = o
  join_ordered table v (g ∷ gs) hs p r w o = (
    All-append (Ahead rank O s table g) gs hs
        (All-weaker (λ h. (h.price ≡ v) × (place_of table g.step < place_of table h.step)) (Ahead rank O s table g) (λ h k. inr (p.0 ∙ sym k.0, k.1)) gs
        (all_both (λ h. h.price ≡ v) (λ h. place_of table g.step < place_of table h.step) gs p.1 r.0))
        (All-weaker (λ h. better rank s v h.price ≡ true) (Ahead rank O s table g) (λ h k. inl (rw p.0 k)) hs w),
    join_ordered table v gs hs p.1 r.1 w o,
  )

  module _ (deal : Deal) (D : Lawful deal) (lot a : ℕ) where
    pub crossed : (table : List Step) → Fine table → (reaches : ℕ → Bool) (q : ℕ) (ls : List Level) → AllByRecursion (SoundLevel lot) ls → BestFirst rank s (prices ls)
        → (let r : Traded (List Level) = trade_side deal lot a table reaches q ls in Crossed table a q (prices ls) (at_levels lot table (filter (λ l. reaches l.price) ls)) r.rows r.left)
    unfolding trade_side
    crossed table f reaches q [] g o = record { groups = []; chain = refl; same_rows = refl; all_reached = refl; among = λ v k. tt; ordered = tt }
    crossed table f reaches q (l ∷ ls) g o = go (reaches l.price) (λ m. crossed table f reaches m ls g.1 o.1)
      where
        go : (t : Bool)
            → ((m : ℕ) → (let r : Traded (List Level) = trade_side deal lot a table reaches m ls in Crossed table a m (prices ls) (at_levels lot table (filter (λ l. reaches l.price) ls)) r.rows r.left))
            → (let r : Traded Level = trade_reached deal lot a table t q l in let u : Traded (List Level) = trade_side deal lot a table reaches r.left ls in
            Crossed table a q (prices (l ∷ ls)) (at_levels lot table (cond t (l ∷ filter (λ l. reaches l.price) ls) (filter (λ l. reaches l.price) ls))) (r.rows ++ u.rows) u.left)
        go true ih =
            let r : Traded Level = trade_price deal lot a table q l in
            let u : Traded (List Level) = trade_side deal lot a table reaches r.left ls in
            let h : Staged deal D lot a (has_step Step.Setter table) table q l r = all_staged deal D lot a table q l f g.0 in
            let c = ih r.left in
            record {
              groups = h.groups ++ c.groups;
              chain = chain_append q r.left u.left h.groups c.groups h.chain c.chain;
              same_rows = sym (ap (rows_for a) (mets_append h.groups c.groups) ∙ rows_for_append a (reached h.groups) (reached c.groups) ∙ rw (h.same_rows, c.same_rows));
              all_reached = ap (map forget) (mets_append h.groups c.groups) ∙ map-append forget (reached h.groups) (reached c.groups) ∙ rw (h.all_reached, c.all_reached);
              among = λ v k. All-append (λ g. better rank s v g.price ≡ true) h.groups c.groups
                  (All-weaker (λ g. g.price ≡ l.price) (λ g. better rank s v g.price ≡ true) (λ g e. rw e k.0) h.groups h.priced) (c.among v k.1);
              ordered = join_ordered table l.price h.groups c.groups h.priced h.rising (c.among l.price o.0) c.ordered;
            }
        go false ih =
            let c = ih q in
            record { groups = c.groups; chain = c.chain; same_rows = c.same_rows; all_reached = c.all_reached; among = λ v k. c.among v k.1; ordered = c.ordered }

-- ## Good tables of steps

weak_count : (s : Step) (ss : List Step) → count s ss ≡ 0 → has_step s ss ≡ false
weak_count s [] h = refl
weak_count s (t ∷ ss) h = go (same_step t s) h (weak_count s ss)
  where
    go : (x : Bool) → cond x 1 0 + count s ss ≡ 0 → (count s ss ≡ 0 → has_step s ss ≡ false) → (x || has_step s ss) ≡ false
    go true h ih = let no_way : ⊥ = omega arith in absurd no_way
    go false h ih = ih (omega arith)

fine : (ss : List Step) → count Step.Displayed ss ≤ 1 → count Step.Hidden ss ≤ 1 → count Step.Setter ss ≤ 1 → (has_step Step.Setter ss ≡ true → place_of ss Step.Setter < place_of ss Step.Displayed) → Fine ss
fine [] d n s f = tt
fine (Step.Setter ∷ ss) d n s f = let none : has_step Step.Setter ss ≡ false = weak_count Step.Setter ss (omega arith) in (none, fine ss (omega arith) (omega arith) (omega arith) (λ y. absurd (false≢true (sym none ∙ y))))
fine (Step.Displayed ∷ ss) d n s f =
    let none : has_step Step.Setter ss ≡ false = gone (has_step Step.Setter ss) f in
    (weak_count Step.Displayed ss (omega arith), none, fine ss (omega arith) (omega arith) (omega arith) (λ y. absurd (false≢true (sym none ∙ y))))
  where
    gone : (x : Bool) → (x ≡ true → 1 + place_of ss Step.Setter < 0) → x ≡ false
    gone false g = refl
    gone true g = let k = g refl in let no_way : ⊥ = omega arith in absurd no_way
fine (Step.Hidden ∷ ss) d n s f = (weak_count Step.Hidden ss (omega arith), fine ss (omega arith) (omega arith) (omega arith) (λ y. (let k = f y in omega arith)))

pub fine_good : (ss : List Step) → GoodTable ss → Fine ss
fine_good ss g = fine ss (let a = g.one_displayed in omega arith) (let a = g.one_hidden in omega arith) g.one_setter g.setter_first
