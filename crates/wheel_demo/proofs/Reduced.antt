-- Claims less their shares, one by one in place. Assumes nothing.
use Rattle.std.proofs.Common.{◌≡◌, ℕ, suc, ◌+◌, ◌-◌, ◌<◌, List, [], ◌∷◌, ◌++◌, length, get_or, take, drop, set, sym, refl, ap, ◌∙◌, arith}
use Rattle.std.proofs.lemmas.List.{append_assoc, take_more_set, drop_more, drop-set-lt}
use Rattle.allocation.specs.Dealings.{claims_left}
use Rattle.allocation.specs.declared.claims.Claim.{Claim}

abbrev pub none : Claim
none = record { participant = 0; size = 0 }

-- one claim less its share
abbrev pub less_share : List Claim → List ℕ → ℕ → Claim
less_share cs xs i = record { participant = (get_or cs i none).participant; size = (get_or cs i none).size - get_or xs i 0 }

pub reduce_more : (cs : List Claim) (xs : List ℕ) (i : ℕ) (e : Claim) → i < length cs → i < length xs → e ≡ less_share cs xs i → take (i + 1) (set cs i e) ++ claims_left (drop (i + 1) (set cs i e)) (drop (i + 1) xs) ≡ take i cs ++ claims_left (drop i cs) (drop i xs)
reduce_more cs xs i e in-cs in_xs is =
    let rest : drop (i + 1) (set cs i e) ≡ drop (i + 1) cs = drop-set-lt (i + 1) cs i e (omega arith) in
    let here : claims_left (drop i cs) (drop i xs) ≡ less_share cs xs i ∷ claims_left (drop (i + 1) cs) (drop (i + 1) xs) = rw (drop_more cs i none in-cs, drop_more xs i 0 in_xs) in
    ap (λ l. l ++ claims_left (drop (i + 1) (set cs i e)) (drop (i + 1) xs)) (take_more_set cs i e in-cs)
    ∙ append_assoc (take i cs) (e ∷ []) (claims_left (drop (i + 1) (set cs i e)) (drop (i + 1) xs))
    ∙ ap (λ l. take i cs ++ (e ∷ claims_left l (drop (i + 1) xs))) rest
    ∙ ap (λ x. take i cs ++ (x ∷ claims_left (drop (i + 1) cs) (drop (i + 1) xs))) is
    ∙ ap (λ l. take i cs ++ l) (sym here)

pub left_length : (cs : List Claim) (xs : List ℕ) → length (claims_left cs xs) ≡ length cs
left_length [] xs = refl
left_length (c ∷ cs) [] = refl
left_length (c ∷ cs) (x ∷ xs) = ap suc (left_length cs xs)
