-- What the gates of a crew were told, where one member was used.
use Rattle.std.proofs.Common.{◌≡◌, ℕ, zero, suc, ◌<◌, false, cond, eqb, get_or, List, [], ◌∷◌, ◌++◌, length, drop, map, refl, sym, ap, subst, ◌∙◌, arith}
use Rattle.std.specs.Prelude.{slice_set}
use Rattle.std.proofs.Math.Seq.{drop-append_seam, map-set_same}
use Rattle.std.proofs.lemmas.List.{append-nil}
use Rattle.plan_core.proofs.TestLemmas.{by_bool}
use Rattle.run_record.specs.Events.{Event, Grant, Arrive, End, Clean, Fail, Again, Regrant}
use Rattle.lease_rules.specs.Owning.{worker}
use Rattle.worker_gate.specs.code.Alone.{AllBy}
use Rattle.worker_gate.specs.code.Telling.{IsToldOf}
use Rattle.worker_gate.specs.Telling.{placed_by}
use Rattle.worker_gate.specs.code.Tending.{IsDone}
use Rattle.worker_gate.proofs.TellingLemmas.{told_both, told_nothing}
use Rattle.plan_run.specs.Moments.{MemberMoment, told_of}
use Rattle.resume_run.specs.Redoing.{AreToldOf}

-- entries of one worker are no other one's
not_by : (w k n : ℕ) (r : List Event) → AllBy w r → eqb w k ≡ false → placed_by k n r ≡ []
not_by w k n [] by off = refl
not_by w k n (e ∷ r) by off =
    ap (λ b. cond b ((n, e) ∷ placed_by k (suc n) r) (placed_by k (suc n) r)) (ap (λ v. eqb v k) by.0 ∙ off) ∙ not_by w k (suc n) r by.1 off

pub done_by : (w t : ℕ) (e : Event) → IsDone w t e → worker e ≡ w
done_by w t (Grant v u) h = absurd h
done_by w t (Regrant v u) h = absurd h
done_by w t (Clean v u) h = absurd h
done_by w t (Arrive v u n) h = h.0
done_by w t (End v u ns) h = h.0
done_by w t (Fail v u c ns) h = h.0
done_by w t (Again v u c ns) h = h.0

module _ {A : Type 0} (shown : A → MemberMoment) where
  told_here : (crew : List A) (w : ℕ) (m : A) → w < length crew → m ≡ get_or crew w m → told_of (map shown crew) w ≡ (shown m).told
  told_here [] w m l is = absurd (omega (arith, l))
  told_here (c ∷ cs) zero m l is = ap (λ x. (shown x).told) (sym is)
  told_here (c ∷ cs) (suc w) m l is = told_here cs w m (omega (arith, l)) is

  told_set : (crew : List A) (w : ℕ) (m : A) → w < length crew → told_of (map shown (slice_set crew w m)) w ≡ (shown m).told
  told_set [] w m l = absurd (omega (arith, l))
  told_set (c ∷ cs) zero m l = refl
  told_set (c ∷ cs) (suc w) m l = told_set cs w m (omega (arith, l))

  told_other : (crew : List A) (w k : ℕ) (m : A) → eqb w k ≡ false → told_of (map shown (slice_set crew w m)) k ≡ told_of (map shown crew) k
  told_other [] w k m off = refl
  told_other (c ∷ cs) zero zero m off = absurd cc
  told_other (c ∷ cs) zero (suc k) m off = refl
  told_other (c ∷ cs) (suc w) zero m off = refl
  told_other (c ∷ cs) (suc w) (suc k) m off = told_other cs w k m (grind (arith, off))

  -- the gate of one member was told its worker's entries, and nothing else was added
  pub used_told : (crew : List A) (w : ℕ) (old new : A) (r after added : List Event) → w < length crew → old ≡ get_or crew w old → after ≡ r ++ added → AllBy w added → IsToldOf w r after (shown old).told (shown new).told → AreToldOf r after (map shown crew) (map shown (slice_set crew w new))
  used_told crew w old new r after added l is adds by told k = by_bool (eqb w k)
      (λ at. let same : w ≡ k = grind (arith, at) in
      subst (λ j. IsToldOf j r after (told_of (map shown crew) j) (told_of (map shown (slice_set crew w new)) j)) same
      (subst (λ xs. IsToldOf w r after xs (told_of (map shown (slice_set crew w new)) w)) (sym (told_here crew w old l is))
      (subst (λ ys. IsToldOf w r after (shown old).told ys) (sym (told_set crew w new l)) told)))
      (λ off. record {
        added = added;
        is = adds;
        told = told_other crew w k new off ∙ sym (append-nil (told_of (map shown crew) k)) ∙ ap (λ xs. told_of (map shown crew) k ++ xs) (sym (not_by w k (length r) added by off));
      })

-- a part of each member that one keeps stays for all
pub part_stays : {A B : Type 0} (part : A → B) (crew : List A) (w : ℕ) (old new : A) → old ≡ get_or crew w old → part new ≡ part old → map part (slice_set crew w new) ≡ map part crew
part_stays part crew w old new is same = map-set_same part crew w new old (same ∙ ap part is)

pub none_told : (r : List Event) (ms : List MemberMoment) → AreToldOf r r ms ms
none_told r ms k = told_nothing k r r (told_of ms k) (told_of ms k) refl refl

pub told_more : (a b c : List Event) (before mid later : List MemberMoment) → AreToldOf a b before mid → AreToldOf b c mid later → AreToldOf a c before later
told_more a b c before mid later first next k = told_both k a b c (told_of before k) (told_of mid k) (told_of later k) (first k) (next k)

-- of what was added
pub told_since : (first r whole : List Event) (before later : List MemberMoment) → whole ≡ first ++ r → AreToldOf first whole before later → (k : ℕ) → told_of later k ≡ told_of before k ++ placed_by k (length first) r
told_since first r whole before later is told k =
    let h = told k in
    h.told ∙ ap (λ es. told_of before k ++ placed_by k (length first) es) (sym (drop-append_seam first h.added) ∙ ap (drop (length first)) (sym h.is ∙ is) ∙ drop-append_seam first r)
