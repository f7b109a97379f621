-- What gates are told, from turn to turn.
use Rattle.std.proofs.Common.{◌≡◌, ℕ, suc, ◌+◌, ◌-◌, Bool, true, false, cond, eqb, inl, inr, List, [], ◌∷◌, ◌++◌, length, drop, refl, sym, ap, subst, ◌∙◌, arith, append_assoc, length-append}
use Rattle.std.specs.Prelude.{if◌then◌else◌, nat_lt}
use Rattle.std.proofs.Math.Seq.{drop-append_seam}
use Rattle.std.proofs.lemmas.List.{append-nil, append_cancel_left}
use Rattle.std.proofs.lemmas.List.Elements.{filter-append}
use mathlib.Core.List.{IsPrefix}
use Rattle.run_record.specs.Events.{Event}
use Rattle.lease_rules.specs.code.Owning.{entries_by}
use Rattle.lease_rules.specs.Owning.{worker}
use Rattle.ruled_lock.specs.Chronicle.{AddsAtMostOne}
use Rattle.craft.specs.Placed.{last_placed, placed}
use Rattle.worker_gate.specs.code.Telling.{IsToldOf}
use Rattle.worker_gate.specs.Telling.{placed_by}
use Rattle.worker_gate.proofs.StateLemmas.{same_number}

-- entries and more of them
placed_then : (k : ℕ) (r s : List Event) → placed k (r ++ s) ≡ placed k r ++ placed (k + length r) s
placed_then k [] s = ap (λ (n : ℕ). placed n s) (omega arith)
placed_then k (e ∷ r) s = ap (λ (l : List (ℕ × Event)). (k, e) ∷ l) (placed_then (suc k) r s ∙ ap (λ (n : ℕ). placed (suc k) r ++ placed n s) (omega arith))

placed_many : (k : ℕ) (r : List Event) → length (placed k r) ≡ length r
placed_many k [] = refl
placed_many k (e ∷ r) = let rest = placed_many (suc k) r in omega (arith, rest)

last_is : (r : List Event) (e : Event) → last_placed (r ++ e ∷ []) ≡ (length r, e) ∷ []
last_is r e =
    ap (λ (l : List (ℕ × Event)). drop (length (r ++ e ∷ []) - 1) l) (placed_then 0 r (e ∷ []))
    ∙ ap (λ (n : ℕ). drop n (placed 0 r ++ (0 + length r, e) ∷ [])) (let a = length-append r (e ∷ []) in let b = placed_many 0 r in omega (arith, a, b))
    ∙ drop-append_seam (placed 0 r) ((0 + length r, e) ∷ [])
    ∙ ap (λ (n : ℕ). (n, e) ∷ []) (omega arith)

both_choices : (b : Bool) (x : ℕ × Event) (xs ys zs : List (ℕ × Event)) → xs ≡ ys ++ zs → cond b (x ∷ xs) xs ≡ cond b (x ∷ ys) ys ++ zs
both_choices true x xs ys zs e = ap (λ (l : List (ℕ × Event)). x ∷ l) e
both_choices false x xs ys zs e = e

pub by_both : (w k : ℕ) (r s : List Event) → placed_by w k (r ++ s) ≡ placed_by w k r ++ placed_by w (k + length r) s
by_both w k [] s = ap (λ (n : ℕ). placed_by w n s) (omega arith)
by_both w k (e ∷ r) s =
    both_choices (eqb (worker e) w) (k, e) (placed_by w (suc k) (r ++ s)) (placed_by w (suc k) r) (placed_by w (k + length (e ∷ r)) s)
    (by_both w (suc k) r s ∙ ap (λ (n : ℕ). placed_by w (suc k) r ++ placed_by w n s) (omega arith))

no_choice : (b : Bool) (x : ℕ × Event) (e : Event) (xs : List (ℕ × Event)) (r : List Event) → cond b (e ∷ r) r ≡ [] → (r ≡ [] → xs ≡ []) → cond b (x ∷ xs) xs ≡ []
no_choice true x e xs r none rest = absurd (let l = ap length none in omega (arith, l))
no_choice false x e xs r none rest = rest none

-- none of the worker's
pub by_none : (w k : ℕ) (r : List Event) → entries_by w r ≡ [] → placed_by w k r ≡ []
by_none w k [] none = refl
by_none w k (e ∷ r) none = no_choice (eqb (worker e) w) (k, e) e (placed_by w (suc k) r) (entries_by w r) none (by_none w (suc k) r)

-- one entry, of the worker
by_one : (w k : ℕ) (e : Event) → worker e ≡ w → placed_by w k (e ∷ []) ≡ (k, e) ∷ []
by_one w k e is = ap (λ (b : Bool). cond b ((k, e) ∷ []) []) (ap (λ (n : ℕ). eqb n w) is ∙ same_number w)

-- one entry, of another worker
other_choice : (b : Bool) (x : ℕ × Event) → b ≡ false → cond b (x ∷ []) [] ≡ []
other_choice true x h = absurd cc
other_choice false x h = refl

-- nothing more
pub told_nothing : (w : ℕ) (r next : List Event) (xs ys : List (ℕ × Event)) → next ≡ r → ys ≡ xs → IsToldOf w r next xs ys
told_nothing w r next xs ys same still = record {
  added = [];
  is = same ∙ sym (append-nil r);
  told = still ∙ sym (append-nil xs);
}

pub told_both : (w : ℕ) (a b c : List Event) (xs ys zs : List (ℕ × Event)) → IsToldOf w a b xs ys → IsToldOf w b c ys zs → IsToldOf w a c xs zs
told_both w a b c xs ys zs x y = record {
  added = x.added ++ y.added;
  is = y.is ∙ ap (λ (l : List Event). l ++ y.added) x.is ∙ append_assoc a x.added y.added;
  told =
      y.told
      ∙ ap (λ (l : List (ℕ × Event)). l ++ placed_by w (length b) y.added) x.told
      ∙ append_assoc xs (placed_by w (length a) x.added) (placed_by w (length b) y.added)
      ∙ ap (λ (l : List (ℕ × Event)). xs ++ l) (ap (λ (n : ℕ). placed_by w (length a) x.added ++ placed_by w n y.added) (ap length x.is ∙ length-append a x.added) ∙ sym (by_both w (length a) x.added y.added));
}

-- the same by a number that is the worker's
pub told_then : (w v : ℕ) (a b c : List Event) (xs ys zs : List (ℕ × Event)) → v ≡ w → IsToldOf w a b xs ys → IsToldOf v b c ys zs → IsToldOf w a c xs zs
told_then w v a b c xs ys zs number x y = told_both w a b c xs ys zs x (subst (λ (n : ℕ). IsToldOf n b c ys zs) number y)

-- The call of a yard that added one entry at most, of which the gate was then told.
pub told_call : (w : ℕ) (r next : List Event) (xs ys : List (ℕ × Event)) → AddsAtMostOne worker w r next → ys ≡ xs ++ (if nat_lt (length r) (length next) then last_placed next else []) → IsToldOf w r next xs ys
told_call w r next xs ys (inl same) is = told_nothing w r next xs ys same (is ∙ ap (λ (b : Bool). xs ++ (if b then last_placed next else [])) no_more ∙ append-nil xs)
  where
    no_more : nat_lt (length r) (length next) ≡ false
    no_more = let l = ap length same in grind (arith, l)
told_call w r next xs ys (inr one) is = record {
  added = one.0 ∷ [];
  is = one.2;
  told =
      is
      ∙ ap (λ (b : Bool). xs ++ (if b then last_placed next else [])) more
      ∙ ap (λ (l : List Event). xs ++ last_placed l) one.2
      ∙ ap (λ (l : List (ℕ × Event)). xs ++ l) (last_is r one.0 ∙ sym (by_one w (length r) one.0 one.1));
}
  where
    more : nat_lt (length r) (length next) ≡ true
    more = let l = ap length one.2 in let m = length-append r (one.0 ∷ []) in grind (arith, l, m)

-- the same, of the numbers and the record that the call of the gate is made with
pub told_as_seen : (w : ℕ) (r next shown : List Event) (before : ℕ) (xs ys : List (ℕ × Event)) → before ≡ length r → shown ≡ next → AddsAtMostOne worker w r next → ys ≡ xs ++ (if nat_lt before (length shown) then last_placed shown else []) → IsToldOf w r next xs ys
told_as_seen w r next shown before xs ys many is added told =
    told_call w r next xs ys added
    (told
    ∙ ap (λ (n : ℕ). xs ++ (if nat_lt n (length shown) then last_placed shown else [])) many
    ∙ ap (λ (l : List Event). xs ++ (if nat_lt (length r) (length l) then last_placed l else [])) is)

-- what comes after a record of whose entries the worker has all that it has of a longer one
none_since : (w : ℕ) (r x : List Event) → entries_by w (r ++ x) ≡ entries_by w r → entries_by w x ≡ []
none_since w r x same = append_cancel_left (entries_by w r) (entries_by w x) [] (sym (filter-append (λ (e : Event). eqb (worker e) w) r x) ∙ same ∙ sym (append-nil (entries_by w r)))

-- The same of the record as the worker's pass has seen it: since its last turn others alone have added entries.
pub told_seen : (w v : ℕ) (seen r next after_ mine : List Event) (xs ys : List (ℕ × Event)) → v ≡ w → IsPrefix seen r → entries_by w seen ≡ mine → entries_by w r ≡ mine → after_ ≡ next → IsToldOf v r next xs ys → IsToldOf w seen after_ xs ys
told_seen w v seen r next after_ mine xs ys number front own same is h = record {
  added = front.0 ++ h.added;
  is = is ∙ h.is ∙ ap (λ (l : List Event). l ++ h.added) (sym front.1) ∙ append_assoc seen front.0 h.added;
  told =
      h.told
      ∙ ap (λ (n : ℕ). xs ++ placed_by n (length r) h.added) number
      ∙ ap (λ (l : List (ℕ × Event)). xs ++ l) (sym (by_both w (length seen) front.0 h.added ∙ ap (λ (l : List (ℕ × Event)). l ++ placed_by w (length seen + length front.0) h.added) others ∙ ap (λ (n : ℕ). placed_by w n h.added) (sym (length-append seen front.0) ∙ ap length front.1)));
}
  where
    others : placed_by w (length seen) front.0 ≡ []
    others = by_none w (length seen) front.0 (none_since w seen front.0 (ap (entries_by w) front.1 ∙ same ∙ sym own))

-- the turn in which nothing is added
pub told_still : (w : ℕ) (seen r after_ mine : List Event) (xs : List (ℕ × Event)) → IsPrefix seen r → entries_by w seen ≡ mine → entries_by w r ≡ mine → after_ ≡ r → IsToldOf w seen after_ xs xs
told_still w seen r after_ mine xs front own same is = told_seen w w seen r r after_ mine xs xs refl front own same is (told_nothing w r r xs xs refl refl)

-- In the end: the record goes on after what the worker's pass has seen, and not by that worker.
pub told_whole : (w : ℕ) (seen r mine : List Event) (xs ys : List (ℕ × Event)) → IsPrefix seen r → entries_by w seen ≡ mine → entries_by w r ≡ mine → IsToldOf w [] seen xs ys → ys ≡ xs ++ placed_by w 0 r
told_whole w seen r mine xs ys front own same h =
    let all = told_both w [] seen r xs ys ys h (told_still w seen r r mine ys front own same refl) in
    all.told ∙ ap (λ (l : List Event). xs ++ placed_by w 0 l) (sym all.is)
