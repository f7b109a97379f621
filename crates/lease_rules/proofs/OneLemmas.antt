-- There is at most one Choice, and at most one task of Fresh.
use Rattle.std.proofs.Common.{◌≡◌, ℕ, zero, suc, true, false, eqb, eqb-true, subst, inl, inr, List, [], ◌∷◌, ◌++◌, sym, ap, ◌∙◌, arith}
use Rattle.std.specs.Prelude.{◌⊎◌, Decides, is_some}
use Rattle.lease_rules.proofs.ListLemmas.{or_left, or_right}
use Rattle.lease_rules.specs.Choice.{HasNoChoice, IsChoice, IsFresh, IsFreshAmong}
use Rattle.lease_rules.specs.State.{State}
use Rattle.plan_core.specs.Numbers.{has}
use Rattle.plan_core.specs.declared.plan.Plan.{Plan}

eqb_of : (a b : ℕ) → a ≡ b → eqb a b ≡ true
eqb_of a b e = grind arith

apart : (xs ys late bs : List ℕ) (t u : ℕ) → xs ++ t ∷ late ≡ ys ++ u ∷ bs → (has xs u ≡ true) ⊎ ((has ys t ≡ true) ⊎ (t ≡ u))
apart [] [] late bs t u e = inr (inr (cc))
apart [] (y ∷ ys) late bs t u e = inr (inl (or_left (eqb y t) (has ys t) (eqb_of y t (cc))))
apart (x ∷ xs) [] late bs t u e = inl (or_left (eqb x u) (has xs u) (eqb_of x u (cc)))
apart (x ∷ xs) (y ∷ ys) late bs t u e = wider (apart xs ys late bs t u (cc))
  where
    wider : (has xs u ≡ true) ⊎ ((has ys t ≡ true) ⊎ (t ≡ u)) → (has (x ∷ xs) u ≡ true) ⊎ ((has (y ∷ ys) t ≡ true) ⊎ (t ≡ u))
    wider (inl h) = inl (or_right (eqb x u) (has xs u) h)
    wider (inr (inl h)) = inr (inl (or_right (eqb y t) (has ys t) h))
    wider (inr (inr h)) = inr (inr h)

pub one_choice : (p : Plan) (s : State) (t u : ℕ) → IsChoice p s t → IsChoice p s u → t ≡ u
one_choice p s t u a b = by_case (apart a.before b.before a.later b.later t u (sym a.is ∙ b.is))
  where
    by_case : (has a.before u ≡ true) ⊎ ((has b.before t ≡ true) ⊎ (t ≡ u)) → t ≡ u
    by_case (inl h) = absurd (a.first u h b.can)
    by_case (inr (inl h)) = absurd (b.first t h a.can)
    by_case (inr (inr h)) = h

one_among : (p : Plan) (s : State) (n : ℕ) (xs : List ℕ) (t u : ℕ) → IsFreshAmong p s n xs t → IsFreshAmong p s n xs u → t ≡ u
one_among p s n [] t u a b = absurd a
one_among p s zero (x ∷ xs) t u a b = absurd a
one_among p s (suc n) (x ∷ xs) t u (inl a) (inl b) = one_among p s (suc n) xs t u a.1 b.1
one_among p s (suc n) (x ∷ xs) t u (inl a) (inr (inl b)) = absurd (a.0 b.0)
one_among p s (suc n) (x ∷ xs) t u (inl a) (inr (inr b)) = absurd (a.0 b.0)
one_among p s (suc n) (x ∷ xs) t u (inr (inl a)) (inl b) = absurd (b.0 a.0)
one_among p s (suc n) (x ∷ xs) t u (inr (inl a)) (inr (inl b)) = sym a.2 ∙ b.2
one_among p s (suc n) (x ∷ xs) t u (inr (inl a)) (inr (inr b)) = absurd (let k = a.1 in let m = ap is_some b.1 in cc)
one_among p s (suc n) (x ∷ xs) t u (inr (inr a)) (inl b) = absurd (b.0 a.0)
one_among p s (suc n) (x ∷ xs) t u (inr (inr a)) (inr (inl b)) = absurd (let k = b.1 in let m = ap is_some a.1 in cc)
one_among p s (suc n) (x ∷ xs) t u (inr (inr a)) (inr (inr b)) = one_among p s n xs t u a.2 b.2

pub one_fresh : (p : Plan) (s : State) (t u : ℕ) → IsFresh p s t → IsFresh p s u → t ≡ u
one_fresh p s t u a b = one_among p s 4 s.rest t u a.among b.among

-- the test of a Choice that was found
pub is_found : (p : Plan) (s : State) (found t : ℕ) → IsChoice p s found → Decides (eqb found t) (IsChoice p s t)
is_found p s found t choice = (λ e. subst (λ (u : ℕ). IsChoice p s u) (eqb-true found t e) choice, λ other. eqb_of found t (one_choice p s found t choice other))

pub is_none : (p : Plan) (s : State) (t : ℕ) → HasNoChoice p s → Decides false (IsChoice p s t)
is_none p s t none = (λ h. absurd cc, λ choice. absurd (none t choice))

pub is_stopped : (p : Plan) (s : State) (t : ℕ) → s.failing ≡ true → Decides false (IsChoice p s t)
is_stopped p s t stopped = (λ h. absurd cc, λ choice. absurd (let unfailed = choice.no_fail in cc))
