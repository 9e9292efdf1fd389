-- A loop that lowers parts in place. Assumes nothing.
use Rattle.std.proofs.Common.{◌≡◌, ℕ, ◌+◌, ◌-◌, ◌<◌, ◌≤◌, List, [], ◌∷◌, ◌++◌, length, get_or, take, drop, set, sym, ap, ◌∙◌, append_assoc, append-nil, arith}
use Rattle.std.proofs.lemmas.List.{take_more_set, drop-set-lt, drop-drop, length-set, length-take, length-drop, length-append, drop_more, get_or-drop, get_or-take, drop_all}
use Rattle.std.proofs.lemmas.Bool.{le-leb, lt-leb}
use Rattle.rules.specs.Books.{part}
use Rattle.rules.specs.Changes.{lowered}
use Rattle.rules.specs.declared.orders.Part.{Part}

-- ys began am xs; of the n parts from `at` on, j are done, and what stays of them stands before k
pub record Lowering (xs ys : List Part) (am : List ℕ) (at n k j : ℕ) : Type 0 where
  pub front : take k ys ++ lowered (drop j (take n (drop at xs))) (drop j am) ≡ take at xs ++ lowered (take n (drop at xs)) am
  pub rest : drop (at + j) ys ≡ drop (at + j) xs
  pub long : length ys ≡ length xs
  pub from : at ≤ k
  pub behind : k ≤ at + j
  pub within : j ≤ n

module _ {xs ys : List Part} {am : List ℕ} {at n k j : ℕ} {p : Part} (o : Lowering xs ys am at n k j) (lt : j < n) (fits : at + n ≤ length xs) (each : length am ≡ n) (read : p ≡ get_or ys (at + j) p) where
  here : drop j (take n (drop at xs)) ≡ p ∷ drop (j + 1) (take n (drop at xs))
  here =
      let none : at + j + 0 ≡ at + j = omega arith in
      let long : j < length (take n (drop at xs)) = omega (arith, length-take n (drop at xs), length-drop at xs) in
      let same : get_or (take n (drop at xs)) j p ≡ p =
      get_or-take n (drop at xs) j p lt ∙ get_or-drop at xs j p
      ∙ sym (read ∙ sym (ap (λ m. get_or ys m p) none) ∙ sym (get_or-drop (at + j) ys 0 p) ∙ ap (λ l. get_or l 0 p) o.rest ∙ get_or-drop (at + j) xs 0 p ∙ ap (λ m. get_or xs m p) none) in
      drop_more (take n (drop at xs)) j p long ∙ ap (λ q. q ∷ drop (j + 1) (take n (drop at xs))) same

  amount : drop j am ≡ get_or am j 0 ∷ drop (j + 1) am
  amount = drop_more am j 0 (omega arith)

  next : (at + j + 1 ≡ at + (j + 1)) × Unit {0}
  next = (omega arith, tt)

  one_on : (zs : List Part) → drop (at + j + 1) zs ≡ drop (at + (j + 1)) zs
  one_on zs = ap (λ m. drop m zs) next.0

  pub lowering_gone : p.quantity ≤ get_or am j 0 → Lowering xs ys am at n k (j + 1)
  lowering_gone le =
      let step : lowered (drop j (take n (drop at xs))) (drop j am) ≡ lowered (drop (j + 1) (take n (drop at xs))) (drop (j + 1) am) =
      ap (λ l. lowered l (drop j am)) here ∙ ap (lowered (p ∷ drop (j + 1) (take n (drop at xs)))) amount ∙ rw (le-leb p.quantity (get_or am j 0) le) in
      record {
        front = ap (λ l. take k ys ++ l) (sym step) ∙ o.front;
        rest = sym (one_on ys) ∙ sym (drop-drop 1 (at + j) ys) ∙ ap (drop 1) o.rest ∙ drop-drop 1 (at + j) xs ∙ one_on xs;
        long = o.long;
        from = o.from;
        behind = omega (arith, o.behind);
        within = omega arith;
      }

  pub lowering_kept : get_or am j 0 < p.quantity → Lowering xs (set ys k (part p.order p.participant (p.quantity - get_or am j 0) p.marked)) am at n (k + 1) (j + 1)
  lowering_kept gt =
      let q : Part = part p.order p.participant (p.quantity - get_or am j 0) p.marked in
      let on : List Part = lowered (drop (j + 1) (take n (drop at xs))) (drop (j + 1) am) in
      let step : lowered (drop j (take n (drop at xs))) (drop j am) ≡ q ∷ on =
      ap (λ l. lowered l (drop j am)) here ∙ ap (lowered (p ∷ drop (j + 1) (take n (drop at xs)))) amount ∙ rw (lt-leb p.quantity (get_or am j 0) gt) in
      record {
        front = ap (λ l. l ++ on) (take_more_set ys k q (omega (arith, o.behind, o.long))) ∙ append_assoc (take k ys) (q ∷ []) on ∙ ap (λ l. take k ys ++ l) (sym step) ∙ o.front;
        rest = sym (one_on (set ys k q)) ∙ drop-set-lt (at + j + 1) ys k q (omega (arith, o.behind)) ∙ sym (drop-drop 1 (at + j) ys) ∙ ap (drop 1) o.rest ∙ drop-drop 1 (at + j) xs ∙ one_on xs;
        long = length-set ys k q ∙ o.long;
        from = omega (arith, o.from);
        behind = omega (arith, o.behind);
        within = omega arith;
      }

module _ {xs ys : List Part} {am : List ℕ} {at n k j : ℕ} (o : Lowering xs ys am at n k j) (end : n ≤ j) (fits : at + n ≤ length xs) where
  done : take k ys ≡ take at xs ++ lowered (take n (drop at xs)) am
  done =
      let none : drop j (take n (drop at xs)) ≡ [] = drop_all j (take n (drop at xs)) (omega (arith, length-take n (drop at xs))) in
      sym (append-nil (take k ys)) ∙ ap (λ l. take k ys ++ lowered l (drop j am)) (sym none) ∙ o.front

  pub lowering_count : k - at ≡ length (lowered (take n (drop at xs)) am)
  lowering_count =
      omega (arith, ap length done, length-append (take at xs) (lowered (take n (drop at xs)) am), length-take k ys, length-take at xs, o.long, o.from, o.behind, o.within)
