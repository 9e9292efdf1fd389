-- One claim more by time, over allotments in a list. Assumes nothing.
use Rattle.std.proofs.Common.{◌≡◌, ℕ, ◌+◌, ◌-◌, ◌<◌, min, cond, eqb, List, [], ◌∷◌, ◌++◌, map, length, get_or, take, drop, set, sym, refl, ap, ◌∙◌, ⊎_elim}
use mathlib.Core.Path.{fun_ext}
use Rattle.std.specs.List.{AllByRecursion}
use Rattle.std.proofs.lemmas.List.{append_assoc, take_more_set, drop_more, get_or-set_same, get_or-set_other}
use Rattle.std.proofs.lemmas.Bool.{cases_eq, eq-eqb, ne_eqb}
use Rattle.allocation.specs.ByTime.{less, time_shares}
use Rattle.allocation.specs.Amounts.{amounts}

pub amounts_less : (table : List ℕ) (k n : ℕ) → k < length table → (j : ℕ) → amounts (set table k (get_or table k 0 - n)) j ≡ less (amounts table) k n j
amounts_less table k n h j =
    ⊎_elim
    (λ e. rw (eq-eqb j k e, e) (get_or-set_same table k (get_or table k 0 - n) 0 h))
    (λ ne. rw (ne_eqb j k ne) (get_or-set_other table k j (get_or table k 0 - n) 0 ne))
    (cases_eq j k)

more_at : {X : Type 0} (draws : X → ℕ × ℕ) (cs : List X) (i : ℕ) (c : X) (table table' shares : List ℕ) (x : ℕ) → i < length cs → i < length shares → c ≡ get_or cs i c → (draws c).0 < length table → x ≡ min (get_or table (draws c).0 0) (draws c).1 → table' ≡ set table (draws c).0 (get_or table (draws c).0 0 - (draws c).1) → take (i + 1) (set shares i x) ++ time_shares (amounts table') (map draws (drop (i + 1) cs)) ≡ take i shares ++ time_shares (amounts table) (map draws (drop i cs))
more_at draws cs i c table table' shares x in-cs in-shares at kl ex eh =
    let rest = map draws (drop (i + 1) cs) in
    let cut : drop i cs ≡ c ∷ drop (i + 1) cs = drop_more cs i c in-cs ∙ ap (λ y. y ∷ drop (i + 1) cs) (sym at) in
    let allotted : amounts table' ≡ less (amounts table) (draws c).0 (draws c).1 = ap amounts eh ∙ fun_ext (amounts_less table (draws c).0 (draws c).1 kl) in
    let both : x ∷ time_shares (amounts table') rest ≡ time_shares (amounts table) (map draws (drop i cs)) = ap (λ y. y ∷ time_shares (amounts table') rest) ex ∙ ap (λ f. min (get_or table (draws c).0 0) (draws c).1 ∷ time_shares f rest) allotted ∙ sym (ap (λ l. time_shares (amounts table) (map draws l)) cut) in
    ap (λ l. l ++ time_shares (amounts table') rest) (take_more_set shares i x in-shares) ∙ append_assoc (take i shares) (x ∷ []) (time_shares (amounts table') rest) ∙ ap (λ l. take i shares ++ l) both

pub by_time_more : {X : Type 0} (draws : X → ℕ × ℕ) (cs : List X) (i : ℕ) (c : X) (table table' shares : List ℕ) (x k n : ℕ) → i < length cs → i < length shares → c ≡ get_or cs i c → k ≡ (draws c).0 → n ≡ (draws c).1 → k < length table → x ≡ min (get_or table k 0) n → table' ≡ set table k (get_or table k 0 - n) → take (i + 1) (set shares i x) ++ time_shares (amounts table') (map draws (drop (i + 1) cs)) ≡ take i shares ++ time_shares (amounts table) (map draws (drop i cs))
by_time_more draws cs i c table table' shares x k n in-cs in-shares at ek en kl ex eh =
    more_at draws cs i c table table' shares x in-cs in-shares at (rw ek at kl) (rw (ek, en) at ex) (rw (ek, en) at eh)

pub everyone : {X : Type 0} (P : X → Type 0) → ((x : X) → P x) → (xs : List X) → AllByRecursion P xs
everyone P h [] = tt
everyone P h (x ∷ xs) = (h x, everyone P h xs)

-- where all draw on the first allotment, the others do not matter
pub one_group_same : (cs : List (ℕ × ℕ)) (f g : ℕ → ℕ) → AllByRecursion (λ c. c.0 ≡ 0) cs → f 0 ≡ g 0 → time_shares f cs ≡ time_shares g cs
one_group_same [] f g zeros e = refl
one_group_same (c ∷ cs) f g zeros e =
    let here : f c.0 ≡ g c.0 = ap f zeros.0 ∙ e ∙ sym (ap g zeros.0) in
    let next : less f c.0 c.1 0 ≡ less g c.0 c.1 0 = ap (λ n. cond (eqb 0 c.0) (n - c.1) n) e in
    ap (λ n. min n c.1 ∷ time_shares (less f c.0 c.1) cs) here ∙ ap (λ l. min (g c.0) c.1 ∷ l) (one_group_same cs (less f c.0 c.1) (less g c.0 c.1) zeros.1 next)
