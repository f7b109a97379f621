-- How often the tools of a crew have failed, where one of them was used.
use Rattle.std.proofs.Common.{◌≡◌, ℕ, zero, suc, ◌+◌, ◌<◌, ◌≤◌, Bool, false, cond, eqb, get_or, List, [], ◌∷◌, ◌++◌, length, map, refl, sym, ap, subst, ◌∙◌, arith}
use Rattle.std.specs.Prelude.{slice_set}
use Rattle.plan_core.proofs.TestLemmas.{by_bool}
use Rattle.run_record.specs.Events.{Event, Grant, Arrive, End, Clean, Fail, Again, Regrant}
use Rattle.site_yard.specs.code.Failures.{RoseBy, tool_fault_in, tool_faults, tool_faults_of}
use Rattle.worker_gate.specs.code.Tending.{IsDone}
use Rattle.plan_run.specs.Moments.{MemberMoment}
use Rattle.plan_run.specs.code.Moments.{count_of}
use Rattle.resume_run.specs.Redoing.{HasRisen}

-- ---- entries

no_faults : (w : ℕ) → tool_faults w [] ≡ 0
unfolding tool_faults
no_faults w = refl

faults_more : (w : ℕ) (r : List Event) (e : Event) → tool_faults w (r ++ e ∷ []) ≡ tool_faults w r + tool_faults_of w e
unfolding tool_faults
faults_more w [] e = omega arith
faults_more w (f ∷ r) e = let rest = faults_more w r e in omega (arith, rest)

pub turned : (a b : ℕ) → eqb a b ≡ false → eqb b a ≡ false
turned a b h = grind (arith, h)

-- an entry of one worker counts for no other one's tool
other_faults : (w t k : ℕ) (e : Event) → IsDone w t e → eqb w k ≡ false → tool_faults_of k e ≡ 0
other_faults w t k (Grant v u) h off = absurd h
other_faults w t k (Regrant v u) h off = absurd h
other_faults w t k (Clean v u) h off = absurd h
other_faults w t k (Arrive v u n) h off = refl
other_faults w t k (End v u ns) h off = refl
other_faults w t k (Fail v u c ns) h off = ap (λ (b : Bool). cond b (tool_fault_in c) 0) (ap (eqb k) h.0 ∙ turned w k off)
other_faults w t k (Again v u c ns) h off = ap (λ (b : Bool). cond b (tool_fault_in c) 0) (ap (eqb k) h.0 ∙ turned w k off)

-- ---- members

module _ {A : Type 0} (shown : A → MemberMoment) where
  pub count_here : (crew : List A) (w : ℕ) (m : A) → w < length crew → m ≡ get_or crew w m → count_of (map shown crew) w ≡ (shown m).faults
  count_here [] w m l is = absurd (omega (arith, l))
  count_here (c ∷ cs) zero m l is = ap (λ x. (shown x).faults) (sym is)
  count_here (c ∷ cs) (suc w) m l is = count_here cs w m (omega (arith, l)) is

  pub count_set : (crew : List A) (w : ℕ) (m : A) → w < length crew → count_of (map shown (slice_set crew w m)) w ≡ (shown m).faults
  count_set [] w m l = absurd (omega (arith, l))
  count_set (c ∷ cs) zero m l = refl
  count_set (c ∷ cs) (suc w) m l = count_set cs w m (omega (arith, l))

  pub count_other : (crew : List A) (w k : ℕ) (m : A) → eqb w k ≡ false → count_of (map shown (slice_set crew w m)) k ≡ count_of (map shown crew) k
  count_other [] w k m off = refl
  count_other (c ∷ cs) zero zero m off = absurd cc
  count_other (c ∷ cs) zero (suc k) m off = refl
  count_other (c ∷ cs) (suc w) zero m off = refl
  count_other (c ∷ cs) (suc w) (suc k) m off = count_other cs w k m (grind (arith, off))

  pub stays : (n a b : ℕ) → n ≡ 0 → b ≡ a → (a ≤ b) × RoseBy n a b
  stays n a b none same = (omega (arith, same), λ small. omega (arith, none, same))

  -- one member's tool was used
  pub used_counts : (crew : List A) (w t : ℕ) (old new : A) (e : Event) → w < length crew → old ≡ get_or crew w old → IsDone w t e → (shown old).faults ≤ (shown new).faults → RoseBy (tool_faults_of w e) (shown old).faults (shown new).faults
      → (k : ℕ) → HasRisen k (tool_faults_of k e) (map shown crew) (map shown (slice_set crew w new))
  used_counts crew w t old new e l is done le rose k = by_bool (eqb w k)
      (λ at. let same : w ≡ k = grind (arith, at) in
      subst (λ j. HasRisen j (tool_faults_of j e) (map shown crew) (map shown (slice_set crew w new))) same
      (subst (λ a. (a ≤ count_of (map shown (slice_set crew w new)) w) × RoseBy (tool_faults_of w e) a (count_of (map shown (slice_set crew w new)) w)) (sym (count_here crew w old l is))
      (subst (λ b. ((shown old).faults ≤ b) × RoseBy (tool_faults_of w e) (shown old).faults b) (sym (count_set crew w new l)) (le, rose))))
      (λ off. stays (tool_faults_of k e) (count_of (map shown crew) k) (count_of (map shown (slice_set crew w new)) k) (other_faults w t k e done off) (count_other crew w k new off))

-- ---- entry by entry

pub counts_none : (k : ℕ) (ms : List MemberMoment) → HasRisen k (tool_faults k []) ms ms
counts_none k ms = let none = no_faults k in (omega arith, λ small. omega (arith, none))

pub risen_both : (n m a b c : ℕ) → (a ≤ b) × RoseBy n a b → (b ≤ c) × RoseBy m b c → (a ≤ c) × RoseBy (n + m) a c
risen_both n m a b c x y =
    let one : a ≤ b = x.0 in
    let two : b ≤ c = y.0 in (
      omega (arith, one, two),
      λ small. let first = x.1 (omega (arith, two, small)) in let second = y.1 small in omega (arith, first, second),
    )

pub counts_more : (k : ℕ) (r : List Event) (e : Event) (before mid later : List MemberMoment) → HasRisen k (tool_faults k r) before mid → HasRisen k (tool_faults_of k e) mid later → HasRisen k (tool_faults k (r ++ e ∷ [])) before later
counts_more k r e before mid later first next =
    subst (λ n. HasRisen k n before later) (sym (faults_more k r e)) (risen_both (tool_faults k r) (tool_faults_of k e) (count_of before k) (count_of mid k) (count_of later k) first next)
