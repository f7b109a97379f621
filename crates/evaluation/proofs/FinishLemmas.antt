-- What keeps an evaluation from values, where everything is defined.
use Rattle.std.proofs.Common.{◌≡◌, ℕ, ◌≤◌, ◌<◌, Bool, true, false, cond, List, [], ◌∷◌, length, refl, sym, ap, subst, ◌∙◌, inl, inr, arith}
use Rattle.std.specs.Prelude.{◌⊎◌, Option, Some, None, is_some, Result, Ok, Err, nat_lt, if◌then◌else◌}
use Rattle.std.proofs.lemmas.Bool.{le-ltb, lt-ltb}
use Rattle.outside.specs.code.Counts.{Rose}
use Rattle.outside.specs.code.Host.{IsLong, Reads, within}
use Rattle.outside.specs.declared.counts.Counts.{Counts}
use Rattle.outside.specs.declared.host.HostFault.{HostFault}
use Rattle.outside.specs.declared.host.HostFault.TheVariants as host_faults
use Rattle.values.specs.declared.numbers.JobId.{JobId}
use Rattle.outside.specs.declared.store.Store.{Store}
use Rattle.workflow_core.specs.declared.workflow.Workflow.{Workflow}
use Rattle.dependency_graph.specs.Value.{Basis, basis}
use Rattle.values.specs.Apply.{Apply}
use Rattle.workflow_eval.specs.Evaluating.{first_undefined, made_by_number}
use Rattle.evaluation.specs.Bases.{Bases, Continues, ReadsBases, after_base, base_answer, base_limit, told_bases, told_bytes, told_replica}
use Rattle.evaluation.specs.Evaluating.{AllDefined, HasBases, HasNoValues, IsDeclined, IsUnread, prepared}
use Rattle.evaluation.specs.Moments.{Meeting, Subject}
use Rattle.evaluation.specs.declared.evaluating.Prepared.{Prepared}
use Rattle.evaluation.specs.declared.fault.EvaluationFault.{EvaluationFault}
use Rattle.evaluation.specs.declared.fault.EvaluationFault.TheVariants.{NoReplica, ToolUnknown, Failed}
use Rattle.run_record.specs.declared.run_fault.RunFault.TheVariants.{Declined, ToolFailed, Memory}
use Rattle.evaluation.specs.declared.sources.Source.{Source}
use Rattle.evaluation.proofs.ValueLinesLemmas.{rose_since}
use Rattle.evaluation.proofs.RestLemmas.{both_came}

-- it came as told, or memory ran out
abbrev pub IsToldOrMemory : {A : Type 0} → Result A EvaluationFault → Result A EvaluationFault → Type 0
IsToldOrMemory r told = (r ≡ told) ⊎ (r ≡ Err (Failed Memory))

-- ---- one base

-- What came of one source: as the host tells, or memory ran out, or a fault was counted.
abbrev pub CameAs : Source → Counts → Counts → Result (List ℕ) HostFault → List ℕ → Type 0
CameAs s before now read bytes = ((base_answer s read ≡ Ok bytes) × (before.faults ≤ now.faults)) ⊎ ((base_answer s read ≡ Err (Failed Memory)) ⊎ (Rose before.faults now.faults × (answer : EvaluationFault) × (base_answer s read ≡ Err answer)))

abbrev over_of : ℕ → ℕ → Result (List ℕ) HostFault
over_of limit n = Err (host_faults.Over limit n)

within_ok : (limit : ℕ) (bytes : List ℕ) (found : Option (List ℕ)) → length bytes ≤ limit → found ≡ Some bytes → within limit found ≡ Ok bytes
within_ok limit bytes found fits is = ap (within limit) is ∙ by (nat_lt limit (length bytes)) (le-ltb limit (length bytes) fits)
  where
    by : (b : Bool) → b ≡ false → ◌≡◌ {A = Result (List ℕ) HostFault} (if b then Err (host_faults.Over limit (length bytes)) else Ok bytes) (Ok bytes)
    by true e = absurd cc
    by false e = refl

within_over : (limit l n : ℕ) (found : Option (List ℕ)) → l ≡ limit → limit < n → IsLong found n → within limit found ≡ Err (host_faults.Over l n)
within_over limit l n None same over is = absurd (let e : ◌≡◌ {A = Option ℕ} None (Some n) = is in cc)
within_over limit l n (Some bytes) same over is = by (nat_lt limit (length bytes)) (lt-ltb limit (length bytes) (omega (arith, over, long)))
  where
    long : length bytes ≡ n
    long = let e : ◌≡◌ {A = Option ℕ} (Some (length bytes)) (Some n) = is in cc

    by : (b : Bool) → b ≡ true → ◌≡◌ {A = Result (List ℕ) HostFault} (if b then Err (host_faults.Over limit (length bytes)) else Ok bytes) (Err (host_faults.Over l n))
    by false e = absurd cc
    by true e = ap (λ (m : ℕ). over_of limit m) long ∙ ap (λ (k : ℕ). over_of k n) (sym same)

came_as : (told : Option Store) (s : Source) (before now : Counts) (read : Result (List ℕ) HostFault) (bytes : List ℕ) → base_answer s (told_replica told s.pfn) ≡ Ok bytes → Reads (told_bytes told s.pfn) base_limit before now read → CameAs s before now read bytes
came_as None s before now read bytes is reads = absurd (let e : ◌≡◌ {A = Result (List ℕ) EvaluationFault} (Err (Failed Memory)) (Ok bytes) = is in cc)
came_as (Some st) s before now (Ok b) bytes is reads = inl (ap (base_answer s) (sym (within_ok base_limit b _ reads.1 reads.2)) ∙ is, (let k : now.faults ≡ before.faults = ap (λ (c : Counts). c.faults) reads.0 in omega (arith, k)))
came_as (Some st) s before now (Err host_faults.Absent) bytes is reads = inl (ap (base_answer s) (sym (ap (within base_limit) reads.1)) ∙ is, (let k : now.faults ≡ before.faults = ap (λ (c : Counts). c.faults) reads.0 in omega (arith, k)))
came_as (Some st) s before now (Err (host_faults.Over limit n)) bytes is reads = inl (ap (base_answer s) (sym (within_over base_limit limit n _ reads.1 reads.2 reads.3)) ∙ is, (let k : now.faults ≡ before.faults = ap (λ (c : Counts). c.faults) reads.0 in omega (arith, k)))
came_as (Some st) s before now (Err host_faults.Failed) bytes is reads = inr (inr ((let k = ap (λ (c : Counts). c.faults) reads in omega (arith, k)), _, refl))
came_as (Some st) s before now (Err host_faults.Memory) bytes is reads = inr (inl refl)

-- ---- all bases

as_told : (base : Option (List ℕ)) (bases all : Bases) (r rest : Result Bases EvaluationFault) → r ≡ after_base base rest → ◌≡◌ {A = Result Bases EvaluationFault} (Ok (base ∷ bases)) (Ok all) → IsToldOrMemory rest (Ok bases) → IsToldOrMemory r (Ok all)
as_told base bases all r rest e same (inl is) = inl (e ∙ ap (after_base base) is ∙ same)
as_told base bases all r rest e same (inr is) = inr (e ∙ ap (after_base base) is)

pub told_decides : (told : Option Store) (sources : List (Option Source)) (before after : Counts) (r : Result Bases EvaluationFault) (all : Bases) → ReadsBases told sources before after r → told_bases told sources ≡ Ok all
    → (Rose before.faults after.faults → ⊥) → IsToldOrMemory r (Ok all)
told_decides told [] before after r all reads is still = inl (reads.1 ∙ is)
told_decides told (None ∷ ss) before after r all reads is still =
    let rest = both_came (told_bases told ss) _ all is in
    as_told None rest.0 all r reads.0 reads.2 rest.2 (told_decides told ss before after reads.0 rest.0 reads.1 rest.1 still)
told_decides told (Some s ∷ ss) before after r all reads is still =
    let first = both_came (base_answer s (told_replica told s.pfn)) _ all is in
    let rest = both_came (told_bases told ss) _ all first.2 in
    by first.0 rest.0 rest.1 rest.2 (came_as told s before reads.1 reads.0 first.0 first.1 reads.2) (λ c x later e. told_decides told ss c after x rest.0 later rest.1 e)
  where
    goes : (a : Result (List ℕ) EvaluationFault) → base_answer s reads.0 ≡ a → Continues (λ c x. ReadsBases told ss c after x) a reads.1 after r
    goes a e = subst (λ (b : Result (List ℕ) EvaluationFault). Continues (λ c x. ReadsBases told ss c after x) b reads.1 after r) e reads.3

    by : (bytes : List ℕ) (bases : Bases) → told_bases told ss ≡ Ok bases → ◌≡◌ {A = Result Bases EvaluationFault} (Ok (Some bytes ∷ bases)) (Ok all) → CameAs s before reads.1 reads.0 bytes
        → ((c : Counts) (x : Result Bases EvaluationFault) → ReadsBases told ss c after x → (Rose c.faults after.faults → ⊥) → IsToldOrMemory x (Ok bases)) → IsToldOrMemory r (Ok all)
    by bytes bases tells same (inl came) later =
        let on = goes (Ok bytes) came.0 in
        as_told (Some bytes) bases all r on.0 on.2 same (later reads.1 on.0 on.1 (λ rose. still (rose_since before reads.1 after came.1 rose)))
    by bytes bases tells same (inr (inl memory)) later = inr (goes (Err (Failed Memory)) memory).1
    by bytes bases tells same (inr (inr failed)) later = absurd (still (subst (λ (c : Counts). Rose before.faults c.faults) (sym (goes (Err failed.1) failed.2).0) failed.0))

-- ---- the search for the first job that makes nothing

undefined_step : (there : Bool) (rest : Option ℕ) (n place : ℕ) → cond there rest (Some n) ≡ Some place → (rest ≡ Some place) ⊎ ((there ≡ false) × (n ≡ place))
undefined_step true rest n place h = inl h
undefined_step false rest n place h = inr (refl, (let same : ◌≡◌ {A = Option ℕ} (Some n) (Some place) = h in cc))

-- the first job that makes nothing makes nothing
undefined_there : (on : Basis) (w : Workflow) (order : List JobId) (place : ℕ) → first_undefined on w order ≡ Some place → is_some (made_by_number on w place) ≡ false
unfolding first_undefined
undefined_there on w [] place first = (let clash : ◌≡◌ {A = Option ℕ} None (Some place) = first in absurd cc)
undefined_there on w (j ∷ js) place first =
    elim (undefined_step (is_some (made_by_number on w j.0)) (first_undefined on w js) j.0 place first) [
      | inl h ↦ undefined_there on w js place h
      | inr h ↦ subst (λ (n : ℕ). is_some (made_by_number on w n) ≡ false) h.1 h.0
    ]

not_both : (b : Bool) → b ≡ false → b ≡ true → ⊥
not_both b i j = absurd cc

-- ---- no answer without values but want of memory

same_prepared : (r : Result Prepared EvaluationFault) (a b : Prepared) → r ≡ Ok a → r ≡ Ok b → a ≡ b
same_prepared r a b i j = cc

not_prepared : (r : Result Prepared EvaluationFault) (a : Prepared) (o : EvaluationFault) → r ≡ Ok a → r ≡ Err o → ⊥
not_prepared r a o i j = absurd cc

basis_is : (on : Basis) (apply : Apply) (tools : List (List ℕ)) (bases : Bases) → on.apply ≡ apply → on.tools ≡ tools → on.bases ≡ bases → on ≡ basis apply tools bases
basis_is on apply tools bases p q r =
    ap (λ (x : Apply). basis x on.tools on.bases) p
    ∙ ap (λ (x : List (List ℕ)). basis apply x on.bases) q
    ∙ ap (λ (x : Bases). basis apply tools x) r

-- the bases are those that the host tells
basis_told : (m : Meeting) (s : Subject) (on : Basis) (can : AllDefined m s) → HasBases m s on → (Rose m.before.counts.faults m.after.counts.faults → ⊥) → on ≡ basis m.apply can.from.tools can.bases
basis_told m s on can has still = by (told_decides m.before.told has.from.sources m.before.counts m.after.counts (Ok on.bases) can.bases has.read tells still)
  where
    from_is : has.from ≡ can.from
    from_is = same_prepared (prepared m.known s) has.from can.from has.is can.is

    tells : told_bases m.before.told has.from.sources ≡ Ok can.bases
    tells = ap (λ (p : Prepared). told_bases m.before.told p.sources) from_is ∙ can.told

    by : IsToldOrMemory {A = Bases} (Ok on.bases) (Ok can.bases) → on ≡ basis m.apply can.from.tools can.bases
    by (inl e) = basis_is on m.apply can.from.tools can.bases has.apply (has.tools ∙ ap (λ (p : Prepared). p.tools) from_is) (let same : on.bases ≡ can.bases = cc in same)
    by (inr e) = absurd cc

not_declined : (m : Meeting) (s : Subject) (id : List ℕ) (on : Basis) (can : AllDefined m s) → HasBases m s on → IsDeclined on s id → (Rose m.before.counts.faults m.after.counts.faults → ⊥) → ⊥
not_declined m s id on can has declined still =
    let nothing = subst (λ (b : Basis). is_some (made_by_number b s.workflow declined.place) ≡ false) (basis_told m s on can has still) (undefined_there on s.workflow s.order declined.place declined.first) in
    not_both _ nothing (can.defined declined.place declined.within)

unread_is_memory : (m : Meeting) (s : Subject) (fault : EvaluationFault) (can : AllDefined m s) → IsUnread m s fault → (Rose m.before.counts.faults m.after.counts.faults → ⊥) → fault ≡ Failed Memory
unread_is_memory m s fault can unread still =
    let from_is = same_prepared (prepared m.known s) unread.from can.from unread.is can.is in
    let tells = ap (λ (p : Prepared). told_bases m.before.told p.sources) from_is ∙ can.told in
    by (told_decides m.before.told unread.from.sources m.before.counts m.after.counts (Err fault) can.bases unread.read tells still)
  where
    by : IsToldOrMemory {A = Bases} (Err fault) (Ok can.bases) → fault ≡ Failed Memory
    by (inl e) = absurd cc
    by (inr e) = cc

pub only_memory : (m : Meeting) (s : Subject) (fault : EvaluationFault) → HasNoValues m s fault → AllDefined m s → (Rose m.before.counts.faults m.after.counts.faults → ⊥) → (Rose m.before.tool m.after.tool → ⊥) → fault ≡ Failed Memory
only_memory m s (NoReplica lfn) h can host tool = absurd (not_prepared (prepared m.known s) can.from (NoReplica lfn) can.is h.is)
only_memory m s (ToolUnknown id name) h can host tool = absurd (not_prepared (prepared m.known s) can.from (ToolUnknown id name) can.is h.is)
only_memory m s (Failed (Declined id)) h can host tool = absurd (not_declined m s id h.0 can h.1 h.2 host)
only_memory m s (Failed (ToolFailed id)) h can host tool = absurd (tool h.0)
only_memory m s (Failed Memory) h can host tool = refl
only_memory m s (Failed fault) h can host tool = unread_is_memory m s (Failed fault) can h host
