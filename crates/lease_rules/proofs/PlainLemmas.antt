-- Under the plain policy no task is tried again, so the state is read off the list more simply.
use Rattle.std.proofs.Common.{◌≡◌, ℕ, ◌||◌, ◌&&◌, Bool, true, false, cond, eqb, List, [], ◌∷◌, refl, sym, ap, ◌∙◌, arith}
use Rattle.std.specs.Prelude.{not, filter}
use Rattle.std.specs.List.{list_any}
use Rattle.lease_rules.proofs.ListLemmas.{filter_without}
use Rattle.lease_rules.specs.code.Law.{FitsFromStart, HasStorageLaws}
use Rattle.lease_rules.specs.Legal.{Allowed, Legal, LegalFrom}
use Rattle.lease_rules.specs.code.Reading.{IsPlain, IsPlainlyRead, again_of, begins, ends, grants}
use Rattle.lease_rules.specs.State.{State, after, now, now_from, opened, without}
use Rattle.values.specs.declared.policy.Policy.{Policy}
use Rattle.plan_core.specs.code.Printing.{is_plain}
use Rattle.plan_core.specs.Words.{is_fresh, retries}
use Rattle.plan_core.specs.declared.plan.Plan.{Plan}
use Rattle.run_record.specs.Events.{Again, Arrive, Clean, End, Event, Fail, Grant, Regrant}
use Rattle.run_record.specs.declared.entry.Cause.{Cause}
use Rattle.lease_rules.proofs.ReadingLemmas.{any_from, granted_last, granted_step, granted_none, or_no, record_reads}

-- the plain policy
plain_retries : (p : Plan) → IsPlain p → retries p ≡ 0
unfolding retries
plain_retries p is_plain = ap (λ (c : Policy). c.retries) is_plain

plain_fresh : (p : Plan) → IsPlain p → is_fresh p ≡ false
unfolding is_fresh
plain_fresh p is_plain = ap (λ (c : Policy). c.fresh) is_plain

pub plain_no_again : (p : Plan) (s : State) (w t : ℕ) (c : Cause) (ns : List ℕ) → IsPlain p → Allowed p s (Again w t c ns) → ⊥
plain_no_again p s w t c ns is_plain a = let l = a.5 in absurd (omega (arith, l, plain_retries p is_plain))

pub plain_no_regrant : (p : Plan) (s : State) (w t : ℕ) → IsPlain p → Allowed p s (Regrant w t) → ⊥
plain_no_regrant p s w t is_plain a = let f = a.1.fresh in let g = plain_fresh p is_plain in absurd cc

plain_again : (p : Plan) (s : State) (e : Event) (t : ℕ) → IsPlain p → Allowed p s e → again_of t e ≡ false
plain_again p s (Grant w u) t is_plain a = refl
plain_again p s (Regrant w u) t is_plain a = refl
plain_again p s (Again w u c ns) t is_plain a = absurd (plain_no_again p s w u c ns is_plain a)
plain_again p s (Arrive w u n) t is_plain a = refl
plain_again p s (End w u ns) t is_plain a = refl
plain_again p s (Clean w u) t is_plain a = refl
plain_again p s (Fail w u c ns) t is_plain a = refl

plain_last : (p : Plan) (s : State) (r : List Event) (t : ℕ) (d : Bool) → IsPlain p → LegalFrom p s r → granted_last t r d ≡ (d || list_any (grants t) r)
plain_last p s [] t d is_plain legal = or_no d
plain_last p s (e ∷ r) t d is_plain legal =
    sym (granted_step t e r d) ∙ ap (λ (a : Bool). granted_last t r (grants t e || (not a && d))) (plain_again p s e t is_plain legal.0)
    ∙ plain_last p (after p s e) r t (grants t e || d) is_plain legal.1
    ∙ swap (grants t e) d (list_any (grants t) r)
  where
    swap : (a b c : Bool) → ((a || b) || c) ≡ (b || (a || c))
    swap true true c = refl
    swap true false c = refl
    swap false true c = refl
    swap false false c = refl

filter_same : (f g : ℕ → Bool) → ((u : ℕ) → f u ≡ g u) → (xs : List ℕ) → filter f xs ≡ filter g xs
filter_same f g h [] = refl
filter_same f g h (x ∷ xs) = ap (λ (b : Bool). cond b (x ∷ filter f xs) (filter f xs)) (h x) ∙ ap (λ (l : List ℕ). cond (g x) (x ∷ l) l) (filter_same f g h xs)

not_or : (a b : Bool) → not (a || b) ≡ (not a && not b)
not_or true b = refl
not_or false b = refl

rest_step : (p : Plan) (s : State) (e : Event) (order : List ℕ) (b : ℕ → Bool) → IsPlain p → Allowed p s e → s.rest ≡ filter (λ t. not (b t)) order → (after p s e).rest ≡ filter (λ t. not (b t || begins t e)) order
rest_step p s (Grant w u) order b is_plain a h = ap (without u) h ∙ sym (filter_without (λ t. not (b t)) (λ t. not (b t || eqb u t)) u (λ t. not_or (b t) (eqb u t)) order)
rest_step p s (Clean w u) order b is_plain a h = ap (without u) h ∙ sym (filter_without (λ t. not (b t)) (λ t. not (b t || eqb u t)) u (λ t. not_or (b t) (eqb u t)) order)
rest_step p s (Regrant w u) order b is_plain a h = absurd (plain_no_regrant p s w u is_plain a)
rest_step p s (Again w u c ns) order b is_plain a h = absurd (plain_no_again p s w u c ns is_plain a)
rest_step p s (Arrive w u n) order b is_plain a h = h ∙ filter_same (λ t. not (b t)) (λ t. not (b t || false)) (λ t. ap not (or_no (b t))) order
rest_step p s (End w u ns) order b is_plain a h = h ∙ filter_same (λ t. not (b t)) (λ t. not (b t || false)) (λ t. ap not (or_no (b t))) order
rest_step p s (Fail w u c ns) order b is_plain a h = h ∙ filter_same (λ t. not (b t)) (λ t. not (b t || false)) (λ t. ap not (or_no (b t))) order

plain_rest : (p : Plan) (s : State) (r : List Event) (order : List ℕ) (b : ℕ → Bool) → IsPlain p → LegalFrom p s r → s.rest ≡ filter (λ t. not (b t)) order → (now_from p s r).rest ≡ filter (λ t. not (b t || list_any (begins t) r)) order
plain_rest p s [] order b is_plain legal h = h ∙ filter_same (λ t. not (b t)) (λ t. not (b t || false)) (λ t. ap not (or_no (b t))) order
plain_rest p s (e ∷ r) order b is_plain legal h =
    plain_rest p (after p s e) r order (λ t. b t || begins t e) is_plain legal.1 (rest_step p s e order b is_plain legal.0 h)
    ∙ filter_same (λ t. not ((b t || begins t e) || list_any (begins t) r)) (λ t. not (b t || list_any (begins t) (e ∷ r))) (λ t. ap not (any_from (begins t) r e (b t))) order

filter_all : (xs : List ℕ) → filter (λ u. true) xs ≡ xs
filter_all [] = refl
filter_all (x ∷ xs) = ap (λ (l : List ℕ). x ∷ l) (filter_all xs)

pub plain_reads : (p : Plan) (order : List ℕ) (r : List Event) → HasStorageLaws p → IsPlain p → FitsFromStart p order → Legal p order r → IsPlainlyRead order r (now p order r)
plain_reads p order r proper is_plain fit legal = record {
  runs = λ t. (record_reads p order r proper fit legal).runs t ∙ ap (λ (b : Bool). b && not (list_any (ends t) r)) (sym (granted_none t r) ∙ plain_last p (opened order) r t false is_plain legal);
  rest = plain_rest p (opened order) r order (λ t. false) is_plain legal (sym (filter_all order));
}
