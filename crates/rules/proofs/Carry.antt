-- Kind.Reserve carries interest and slack over. Assumes nothing.
use Rattle.std.proofs.Common.{◌≡◌, ℕ, ◌-◌, ◌<◌, ◌≤◌, min, Bool, true, ◌&&◌, List, [], ◌∷◌, fold, sym, refl, subst, arith}
use Rattle.std.specs.List.{AllByRecursion}
use Rattle.std.proofs.lemmas.List.{map_push}
use Rattle.std.proofs.lemmas.Bool.{ltb-true, and_parts}
use Rattle.allocation.specs.Rankings.{TotalOrder}
use Rattle.allocation.specs.ByTime.{shares_in_order}
use Rattle.allocation.specs.Dealings.{interest, sum}
use Rattle.rules.specs.declared.orders.Side.{Side}
use Rattle.rules.specs.declared.orders.Side.TheVariants.{Buy, Sell}
use Rattle.rules.specs.declared.orders.Kind.{Kind}
use Rattle.rules.specs.declared.orders.Category.{Category}
use Rattle.rules.specs.declared.orders.Order.{Order}
use Rattle.rules.specs.declared.orders.Part.{Part}
use Rattle.rules.specs.Lists.{last_alone, Distinct}
use Rattle.rules.specs.Books.{Level, queue, part, Queue, level, Ranking, side, Book, with_side}
use Rattle.rules.specs.Quantities.{claims, claim, pieces, of_order}
use Rattle.rules.specs.Changes.{lose, put, on_price, put_shown, put_hidden}
use Rattle.rules.specs.Reserve.{join_hidden, runs_low, shows_two, on, raised, show_anew, replenish_order}
use Rattle.rules.specs.Entering.{two_parts, shown_part, hidden_part, place}
use Rattle.rules.specs.LeadLaw.{queue_in, level_at}
use Rattle.rules.specs.Invariants.{SoundLevel, numbers}
use Rattle.rules.proofs.Renewed.{joined_by, anew_by, renewed_by, two_parts_by}
use Rattle.rules.proofs.Amounts.{interest_lowered, interest_lower_le}
use Rattle.rules.proofs.Seats.{interest_push}
use Rattle.rules.proofs.Levels.{raised_interest, join_hidden_good}
use Rattle.rules.proofs.Fits.{Sides, Displays, on_fit, side_good}
use Rattle.rules.proofs.Ranked.{Ranked, Still, sorted_side, on_ranked, join_hidden_still, show_anew_still, two_still}
use Rattle.rules.proofs.Listing.{OwnListed}
use Rattle.rules.proofs.Owned.{orderly_mine}
use Rattle.rules.proofs.Tending.{orderly_side, Midway, midway_renewed}
use Rattle.allocation.proofs.Slack.{slack_of}
use Rattle.rules.proofs.Leads.{lose_slack, put_slack, MineAt}
use Rattle.rules.proofs.Spots.{good_at, mine_at, on_price_at, rejoined_interest}

abbrev pub has_int : Category → ℕ → Level → ℕ
has_int cat p l = interest p (claims (queue_in cat l).parts)

abbrev pub slack_in : ℕ → ℕ → ℕ → Category → Level → ℕ
slack_in p r lot cat l = slack_of p r lot (queue_in cat l).wheel

-- shown interest lasts forward, hidden interest was there before; and the slack does not fall
abbrev pub Carry : ℕ → ℕ → ℕ → Category → Level → Level → Type 0
Carry p r lot Category.Displayed l m = 0 < has_int Category.Displayed p l → (0 < has_int Category.Displayed p m) × (slack_in p r lot Category.Displayed l ≤ slack_in p r lot Category.Displayed m)
Carry p r lot Category.Hidden l m = 0 < has_int Category.Hidden p m → (0 < has_int Category.Hidden p l) × (slack_in p r lot Category.Hidden l ≤ slack_in p r lot Category.Hidden m)

lose_less : (p : ℕ) (xs : List ℕ) (k : Queue) → interest p (claims (lose xs k).parts) ≤ interest p (claims k.parts)
unfolding lose
lose_less p xs k = omega (arith, interest_lowered p k.parts xs, interest_lower_le p (claims k.parts) xs)

put_more : (p : ℕ) (x : Part) (k : Queue) → interest p (claims k.parts) ≤ interest p (claims (put x k).parts)
unfolding put
put_more p x k = rw (map_push (λ p. claim p.participant p.quantity) k.parts x) (omega (arith, interest_push p (claims k.parts) x.participant x.quantity))

module _ (p r lot : ℕ) where
  pub carry_refl : (cat : Category) (l : Level) → Carry p r lot cat l l
  carry_refl Category.Displayed l = λ h. (h, omega arith)
  carry_refl Category.Hidden l = λ h. (h, omega arith)

  pub carry_trans : (cat : Category) (l m n : Level) → Carry p r lot cat l m → Carry p r lot cat m n → Carry p r lot cat l n
  carry_trans Category.Displayed l m n a b = λ h. let x = a h in let y = b x.0 in (y.0, omega (arith, x.1, y.1))
  carry_trans Category.Hidden l m n a b = λ h. let y = b h in let x = a y.0 in (x.0, omega (arith, x.1, y.1))

  pub carry_join_hidden : (es : List Order) (n : ℕ) (cat : Category) (l : Level) → SoundLevel lot l → MineAt es l → Carry p r lot cat l (join_hidden lot n l)
  unfolding lose
  carry_join_hidden es n cat l g m = joined_by (Carry p r lot cat l) lot n l (carry_refl cat l) (joins cat)
    where
      xs : List ℕ
      xs = last_alone (pieces n l.shown.parts)

      joins : (cat : Category) → (runs_low lot n l && shows_two n l) ≡ true → Carry p r lot cat l (level l.price (lose xs l.shown) (queue (raised n (sum xs) l.hidden.parts) l.hidden.wheel))
      joins Category.Displayed e = λ h.
          let two = ltb-true (sum xs) (of_order n l.shown.parts) (and_parts (runs_low lot n l) (shows_two n l) e).1 in
          let k : 0 < interest p (claims (lose xs l.shown).parts) = rejoined_interest es p n l.shown.parts m.0 two h in
          (k, lose_slack p r lot xs l.shown g.0 k)
      joins Category.Hidden e = λ h.
          (omega (arith, raised_interest p n (sum xs) l.hidden.parts g.1.positive), omega arith)

  pub carry_show_anew : (e : Order) (mark : Bool) (cat : Category) (l : Level) → SoundLevel lot l → Carry p r lot cat l (show_anew lot e mark l)
  carry_show_anew e mark cat l g = anew_by (Carry p r lot cat l) lot e mark l (λ _. carry_refl cat l) (λ _. shows cat)
    where
      n : ℕ
      n = min e.display (of_order e.number l.hidden.parts)

      x : Part
      x = part e.number e.participant n mark

      ys : List ℕ
      ys = shares_in_order n (pieces e.number l.hidden.parts)

      shows : (cat : Category) → Carry p r lot cat l (level l.price (put x l.shown) (lose ys l.hidden))
      shows Category.Displayed = λ h. let a = put_more p x l.shown in let b = put_slack p r lot x l.shown g.0 h in (omega arith, omega arith)
      shows Category.Hidden = λ h. let a = lose_less p ys l.hidden in (omega arith, lose_slack p r lot ys l.hidden g.1 h)

-- ## Through reserve

module _ (rank : Ranking) (O : TotalOrder rank.good) (lot : ℕ) (pos : 0 < lot) where
  side_with : (s t : Side) (P : List Level → Type 0) (ls : List Level) (b : Book) → P (side s b) → (t ≡ s → P ls) → P (side s (with_side t ls b))
  side_with Buy Buy P ls b h k = k refl
  side_with Buy Sell P ls b h k = h
  side_with Sell Buy P ls b h k = h
  side_with Sell Sell P ls b h k = k refl

  -- a change at an order's price, seen at any wheel
  pub on_seen : (P : Level → Type 0) (s : Side) (v : ℕ) (e : Order) (f : Level → Level) (b : Book) → Still f → Ranked rank O b
      → P (level_at v (side s b)) → P (f (level_at v (side s b))) → P (level_at v (side s (on rank e f b)))
  on_seen P s v e f b still r h k =
      side_with s e.side (λ ls. P (level_at v ls)) (on_price rank e.side e.price f (side e.side b)) b h
      (λ same. (let Q : Side → Type 0 = λ t. P (level_at v (side t b)) → P (f (level_at v (side t b))) → P (level_at v (on_price rank t e.price f (side t b))) in
      let main : Q e.side = on_price_at rank O e.side P v e.price f (side e.side b) still (sorted_side rank O e.side b r) in
      subst (λ t. P (level_at v (side t b)) → P (f (level_at v (side t b))) → P (level_at v (on_price rank e.side e.price f (side e.side b)))) same main h k))

  -- ## One order, and all of them

  good_seen : (v : ℕ) (s : Side) (b : Book) → Sides lot b → SoundLevel lot (level_at v (side s b))
  good_seen v s b f = good_at lot v (side s b) pos (side_good lot s b f)

  replenish_order_carry : (p r : ℕ) (cat : Category) (s : Side) (v : ℕ) (es : List Order) (b : Book) (e : Order) → Distinct (numbers es) → Midway rank O lot pos es b → Carry p r lot cat (level_at v (side s b)) (level_at v (side s (replenish_order rank b e)))
  replenish_order_carry p r cat s v es b e once t = renewed_by (λ d. Carry p r lot cat l (level_at v (side s d))) rank b e (carry_refl p r lot cat l) (λ mark _. carry_trans p r lot cat l m (level_at v (side s (on rank e (show_anew b.lot e mark) c))) one (two mark))
    where
      c : Book
      c = on rank e (join_hidden b.lot e.number) b

      l : Level
      l = level_at v (side s b)

      m : Level
      m = level_at v (side s c)

      sides : Sides lot c
      sides = on_fit rank e lot (join_hidden b.lot e.number) b pos (λ l g. subst (λ k. SoundLevel lot (join_hidden k e.number l)) (sym t.sides.is) (join_hidden_good lot e.number l g)) t.sides

      one : Carry p r lot cat l m
      one = on_seen (λ x. Carry p r lot cat l x) s v e (join_hidden b.lot e.number) b (join_hidden_still b.lot e.number) t.ranked (carry_refl p r lot cat l)
          (subst (λ k. Carry p r lot cat l (join_hidden k e.number l)) (sym t.sides.is) (carry_join_hidden p r lot es e.number cat l (good_seen v s b t.sides) (mine_at es v (side s b) (orderly_mine es s (side s b) once (orderly_side es s b t.both)))))

      two : (mark : Bool) → Carry p r lot cat m (level_at v (side s (on rank e (show_anew b.lot e mark) c)))
      two mark = on_seen (λ x. Carry p r lot cat m x) s v e (show_anew b.lot e mark) c (show_anew_still b.lot e mark) (on_ranked rank O e (join_hidden b.lot e.number) b (join_hidden_still b.lot e.number) t.ranked) (carry_refl p r lot cat m)
          (subst (λ k. Carry p r lot cat m (show_anew k e mark m)) (sym t.sides.is) (carry_show_anew p r lot e mark cat m (good_seen v s c sides)))

  pub all_carry : (p r : ℕ) (cat : Category) (s : Side) (v : ℕ) (es : List Order) (b : Book) (xs : List Order) → Distinct (numbers es) → AllByRecursion Displays xs → AllByRecursion (OwnListed es) xs → Midway rank O lot pos es b → Carry p r lot cat (level_at v (side s b)) (level_at v (side s (fold (replenish_order rank) b xs)))
  all_carry p r cat s v es b [] once d o t = carry_refl p r lot cat (level_at v (side s b))
  all_carry p r cat s v es b (e ∷ xs) once d o t =
      carry_trans p r lot cat (level_at v (side s b)) (level_at v (side s (replenish_order rank b e))) (level_at v (side s (fold (replenish_order rank) (replenish_order rank b e) xs)))
      (replenish_order_carry p r cat s v es b e once t) (all_carry p r cat s v es (replenish_order rank b e) xs once d.1 o.1 (midway_renewed rank O lot pos es b e d.0 o.0 t))

  -- ## Placing: who has interest before keeps it, and the slack

  abbrev pub Stays : ℕ → ℕ → Category → Level → Level → Type 0
  Stays p r cat l m = 0 < has_int cat p l → slack_in p r lot cat l ≤ slack_in p r lot cat m

  put_shown_stays : (p r : ℕ) (cat : Category) (x : Part) (l : Level) → SoundLevel lot l → Stays p r cat l (put_shown x l)
  put_shown_stays p r Category.Displayed x l g h = let a = put_slack p r lot x l.shown g.0 h in omega arith
  put_shown_stays p r Category.Hidden x l g h = omega arith

  put_hidden_stays : (p r : ℕ) (cat : Category) (x : Part) (l : Level) → SoundLevel lot l → Stays p r cat l (put_hidden x l)
  put_hidden_stays p r Category.Displayed x l g h = omega arith
  put_hidden_stays p r Category.Hidden x l g h = let a = put_slack p r lot x l.hidden g.1 h in omega arith

  two_stays : (p r : ℕ) (cat : Category) (b : Book) (e : Order) (n : ℕ) (l : Level) → SoundLevel lot l → Stays p r cat l (two_parts rank b e n l)
  two_stays p r cat b e n l g h = two_parts_by (λ k. slack_in p r lot cat l ≤ slack_in p r lot cat k) rank b e n l (λ _. shown cat h) (λ _. both cat h)
    where
      d : ℕ
      d = min e.display n

      shown : (cat : Category) → 0 < has_int cat p l → slack_in p r lot cat l ≤ slack_in p r lot cat (put_shown (shown_part rank b e d) l)
      shown cat h = put_shown_stays p r cat (shown_part rank b e d) l g h

      both : (cat : Category) → 0 < has_int cat p l → slack_in p r lot cat l ≤ slack_in p r lot cat (put_hidden (hidden_part e (n - d)) (put_shown (shown_part rank b e d) l))
      both Category.Displayed h = shown Category.Displayed h
      both Category.Hidden h = put_hidden_stays p r Category.Hidden (hidden_part e (n - d)) l g h

  pub place_stays : (p r : ℕ) (cat : Category) (s : Side) (v : ℕ) (k : Kind) (e : Order) (n : ℕ) (b : Book) → Sides lot b → Ranked rank O b → Stays p r cat (level_at v (side s b)) (level_at v (side s (place rank k e n b)))
  unfolding place
  place_stays p r cat s v Kind.Limit e n b f q =
      on_seen (Stays p r cat (level_at v (side s b))) s v e (put_shown (shown_part rank b e n)) b (λ l. refl) q (λ h. omega arith) (put_shown_stays p r cat (shown_part rank b e n) (level_at v (side s b)) (good_seen v s b f))
  place_stays p r cat s v Kind.Hidden e n b f q =
      on_seen (Stays p r cat (level_at v (side s b))) s v e (put_hidden (hidden_part e n)) b (λ l. refl) q (λ h. omega arith) (put_hidden_stays p r cat (hidden_part e n) (level_at v (side s b)) (good_seen v s b f))
  place_stays p r cat s v Kind.Reserve e n b f q =
      on_seen (Stays p r cat (level_at v (side s b))) s v e (two_parts rank b e n) b (two_still rank b e n) q (λ h. omega arith) (two_stays p r cat b e n (level_at v (side s b)) (good_seen v s b f))
  place_stays p r cat s v Kind.Immediate e n b f q = λ h. omega arith
  place_stays p r cat s v Kind.Market e n b f q = λ h. omega arith
