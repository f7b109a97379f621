-- Where all that tasks carry is there and fits, most causes can't be told.
use Rattle.std.proofs.Common.{◌≡◌, ℕ, ◌≤◌, ◌<◌, true, false, cond, List, [], ◌∷◌, length, refl, sym, ap, ◌∙◌, subst, nat_eq, nat_lt, arith}
use Rattle.std.specs.Prelude.{Option, Some, None, option_map, is_some}
use Rattle.std.specs.Str.{bytes_eq}
use Rattle.std.proofs.lemmas.Slice.Eq.{bytes_eq-Decides}
use Rattle.sha2.specs.Sha256.{sha256}
use Rattle.values.specs.Apply.{Apply}
use Rattle.values.specs.declared.numbers.TaskId.{TaskId}
use Rattle.plan_core.specs.declared.plan.Plan.{Plan}
use Rattle.plan_core.specs.declared.plan.PlanJob.{PlanJob}
use Rattle.plan_core.specs.declared.plan.TaskKind.{TaskKind}
use Rattle.plan_core.specs.declared.plan.TaskKind.TheVariants.{Transfer, Run, Clean as CleanTask}
use Rattle.plan_core.specs.declared.plan.Source.TheVariants.{Pfn, Site}
use Rattle.plan_core.specs.declared.plan.Target.TheVariants.{Site as Into, Delivery}
use Rattle.plan_core.specs.Carried.{Bytes, carried, carried_by, read}
use Rattle.plan_core.specs.code.Kinds.{kind_carries}
use Rattle.plan_core.specs.Kinds.{kind_writes, jobs_make}
use Rattle.plan_core.specs.Numbers.{has, or_else}
use Rattle.plan_core.specs.Words.{declared, is_transfer_kind, kind, writes}
use Rattle.plan_core.proofs.TestLemmas.{both, is_itself, not_true, or_right}
use Rattle.storage_simulation.specs.Goods.{or_zero}
use Rattle.run_record.specs.declared.entry.Cause.{Cause}
use Rattle.run_record.specs.declared.entry.Cause.TheVariants.{Absent, TooLong, Checksum, Oversize, Declined, ToolFailed, HostFailed, Memory}
use Rattle.run_record.specs.Events.{Event, Grant, Arrive, End, Clean, Fail, Again, Regrant}
use Rattle.lease_rules.specs.Legal.{Allowed, CauseFits, LegalFrom, checksum, differs_from, is_too_long_for, is_wrong_for}
use Rattle.lease_rules.specs.State.{State, after}
use Rattle.site_yard.specs.code.Changes.{moved}
use Rattle.site_yard.specs.code.Ending.{failed_in, fault_of, first_failed, first_fault}
use Rattle.lease_rules.specs.code.Causes.{fault_in}
use Rattle.site_yard.specs.code.Failures.{host_faults, tool_fault_in, tool_faults}
use Rattle.lease_rules.specs.Owning.{worker}
use Rattle.site_yard.specs.Faults.{AllBelow}
use Rattle.site_yard.specs.code.Faults.{AllCarried, HasToolFault, IsCountedFault}
use Rattle.site_yard.specs.code.Law.{HasPlanLaws}
use Rattle.plan_core.specs.Names.{pair_file, pair_site}
use Rattle.plan_core.specs.code.Declined.{declined}
use Rattle.site_yard.specs.code.Truthful.{HasChecksum, HasSum, IsAtPfn, IsCause, IsDigest, IsLongAs, IsTrue, Truthful, is_over, oversize_among}
use Rattle.site_yard.specs.declared.ending.Failed.{Failed}
use Rattle.run_record.specs.declared.run_fault.RunFault.{RunFault}
use Rattle.run_record.specs.declared.run_fault.RunFault.TheVariants as fault
use Rattle.site_yard.proofs.HoldsLemmas.{same_id}
use Rattle.site_yard.proofs.PlanLemmas.{written_file}

-- bytes of a length above the limit; bytes with another digest than the registered one
over_limit : (limit n : ℕ) (o : Option Bytes) → IsLongAs n o → nat_lt limit n ≡ true → is_over limit o ≡ true
over_limit limit n None long over = absurd cc
over_limit limit n (Some bytes) long over = let same : length bytes ≡ n = cc in ap (nat_lt limit) same ∙ over

other_digest : (p : Plan) (d : List ℕ) (f : ℕ) (sum : Option (List ℕ)) (o : Option Bytes) → IsDigest p d f o → differs_from sum d ≡ true → HasSum sum o → ⊥
other_digest p d f None o is differs has_sum = absurd cc
other_digest p d f (Some wanted) None is differs has_sum = is
other_digest p d f (Some wanted) (Some bytes) is differs has_sum =
    let one : sha256 bytes ≡ wanted = cc in
    absurd (let k : true ≡ false = sym ((bytes_eq-Decides wanted d).1 (sym one ∙ is.0)) ∙ not_true (bytes_eq wanted d) differs in cc)

-- what a task writes it carries
writes_carries : (jobs : List PlanJob) (k : Option TaskKind) (s f : ℕ) → kind_writes jobs k s f ≡ true → kind_carries jobs k f ≡ true
writes_carries jobs None s f h = absurd cc
writes_carries jobs (Some (Transfer g from (Into a))) s f h = (both (nat_eq a.0 s) (nat_eq g.0 f) h).1
writes_carries jobs (Some (Transfer g from Delivery)) s f h = absurd cc
writes_carries jobs (Some (Run a js)) s f h = (both (nat_eq a.0 s) (jobs_make jobs js f) h).1
writes_carries jobs (Some (CleanTask q)) s f h = absurd cc

none_over : (p : Plan) (v : ℕ → Option Bytes) (qs : List ℕ) → ((q : ℕ) → has qs q ≡ true → is_over (or_zero (declared p (pair_file p q))) (v (pair_file p q)) ≡ false) → oversize_among p v qs ≡ None
none_over p v [] h = refl
none_over p v (q ∷ qs) h = ap (λ b. cond b (Some (pair_file p q)) (oversize_among p v qs)) (h q (same_id q qs)) ∙ none_over p v qs (λ x m. h x (or_right (nat_eq q x) (has qs x) m))

module _ (apply : Apply) (told : Bytes → Option Bytes) (p : Plan) (laws : HasPlanLaws p) (all : AllCarried apply told p) where
  -- a Transfer from a pfn carries what stands there
  from_pfn : (t : ℕ) (g : _) (x : List ℕ) (to : _) → kind p t ≡ Some (Transfer g (Pfn x) to) → (f : ℕ) → carried apply told p t f ≡ told x
  from_pfn t g x to e f = laws.carrying apply told t f ∙ ap (λ (k : Option TaskKind). carried_by apply told p.jobs (read p (carried apply told p) t) k f) e

  moves_within : (t : ℕ) (g : _) (x : List ℕ) (to : _) → kind p t ≡ Some (Transfer g (Pfn x) to) → is_over (or_zero (declared p g.0)) (told x) ≡ false
  moves_within t g x to e = ap (is_over (or_zero (declared p g.0))) (sym (from_pfn t g x to e g.0)) ∙ all.within t g.0 (ap (λ (k : Option TaskKind). kind_carries p.jobs k g.0) e ∙ is_itself g.0)

  no_absent : (t : ℕ) (k : Option TaskKind) → kind p t ≡ k → IsAtPfn told k (λ f o. o ≡ None) → ⊥
  no_absent t None e h = h
  no_absent t (Some (Transfer g (Pfn x) to)) e h =
      let there : is_some (moved (carried apply told p t) (kind p t)) ≡ true = all.moved_there t (ap is_transfer_kind e) in
      let gone : carried apply told p t g.0 ≡ None = from_pfn t g x to e g.0 ∙ h in
      absurd (let k : true ≡ false = sym there ∙ ap (λ (k : Option TaskKind). is_some (moved (carried apply told p t) k)) e ∙ ap is_some gone in cc)
  no_absent t (Some (Transfer g (Site a) to)) e h = h
  no_absent t (Some (Run s js)) e h = h
  no_absent t (Some (CleanTask q)) e h = h

  no_long : (t n : ℕ) (k : Option TaskKind) → kind p t ≡ k → IsAtPfn told k (λ f o. IsLongAs n o) → is_too_long_for p k n ≡ true → ⊥
  no_long t n None e h long = h
  no_long t n (Some (Transfer g (Pfn x) to)) e h long = absurd (let k : true ≡ false = sym (over_limit (or_zero (declared p g.0)) n (told x) h long) ∙ moves_within t g x to e in cc)
  no_long t n (Some (Transfer g (Site a) to)) e h long = h
  no_long t n (Some (Run s js)) e h long = h
  no_long t n (Some (CleanTask q)) e h long = h

  no_wrong : (t : ℕ) (d : List ℕ) (k : Option TaskKind) → kind p t ≡ k → IsAtPfn told k (IsDigest p d) → is_wrong_for p k d ≡ true → ⊥
  no_wrong t d None e h wrong = h
  no_wrong t d (Some (Transfer g (Pfn x) to)) e h wrong =
      let has_sum : HasSum (checksum p g.0) (carried apply told p t g.0) = subst (HasChecksum p (carried apply told p t)) e (all.sums t) in
      other_digest p d g.0 (checksum p g.0) (told x) h wrong (subst (HasSum (checksum p g.0)) (from_pfn t g x to e g.0) has_sum)
  no_wrong t d (Some (Transfer g (Site a) to)) e h wrong = h
  no_wrong t d (Some (Run s js)) e h wrong = h
  no_wrong t d (Some (CleanTask q)) e h wrong = h

  no_oversize : (t f : ℕ) → oversize_among p (carried apply told p t) (writes p t) ≡ Some f → ⊥
  no_oversize t f h =
      let none = none_over p (carried apply told p t) (writes p t) (λ q m. all.within t (pair_file p q) (writes_carries p.jobs (kind p t) (pair_site p q) (pair_file p q) (written_file p laws t q m))) in
      absurd (let k : None ≡ Some f = sym none ∙ h in cc)

  no_decline : (t j : ℕ) → declined apply p (carried apply told p) t ≡ Some j → ⊥
  no_decline t j h = absurd (let k : None ≡ Some j = sym (all.none_declines t) ∙ h in cc)

  -- what is left is counted
  cause_counted : (n w : ℕ) (r : List Event) (t : TaskId) (c : Cause) (ns : List ℕ) → CauseFits p t.0 c ns → IsCause apply told p (carried apply told p) t.0 c → w < n → fault_in c ≤ host_faults r → tool_fault_in c ≤ tool_faults w r → IsCountedFault (HasToolFault n r) r (fault_of p t c)
  cause_counted n w r t Absent ns fits is l host tool = absurd (no_absent t.0 (kind p t.0) refl is)
  cause_counted n w r t (TooLong k) ns fits is l host tool = absurd (no_long t.0 k (kind p t.0) refl is fits.1)
  cause_counted n w r t (Checksum d) ns fits is l host tool = absurd (no_wrong t.0 d (kind p t.0) refl is fits.1)
  cause_counted n w r t (Oversize j f k) ns fits is l host tool = absurd (no_oversize t.0 f.0 is.1)
  cause_counted n w r t (Declined j) ns fits is l host tool = absurd (no_decline t.0 j.0 is)
  cause_counted n w r t (ToolFailed j) ns fits is l host tool = (w, l, tool)
  cause_counted n w r t HostFailed ns fits is l host tool = host
  cause_counted n w r t Memory ns fits is l host tool = tt

abbrev failed : ℕ → Cause → Failed
failed t c = record { task = record { 0 = t }; cause = c }

-- What the first Fail of a record says: a worker's, with a cause that fits and is true, and counted.
record IsFailed (apply : Apply) (told : Bytes → Option Bytes) (p : Plan) (n : ℕ) (r : List Event) (f : Failed) : Type 0 where
  w : ℕ
  sizes : List ℕ
  fits : CauseFits p f.task.0 f.cause sizes
  is : IsCause apply told p (carried apply told p) f.task.0 f.cause
  below : w < n
  host : fault_in f.cause ≤ host_faults r
  tool : tool_fault_in f.cause ≤ tool_faults w r

more_counts : (w : ℕ) (e : Event) (r : List Event) → (host_faults r ≤ host_faults (e ∷ r)) × (tool_faults w r ≤ tool_faults w (e ∷ r))
unfolding host_faults tool_faults
more_counts w e r = (omega arith, omega arith)

counted_here : (w t : ℕ) (c : Cause) (ns : List ℕ) (r : List Event) → (fault_in c ≤ host_faults (Fail w t c ns ∷ r)) × (tool_fault_in c ≤ tool_faults w (Fail w t c ns ∷ r))
unfolding host_faults tool_faults
counted_here w t c ns r = (omega arith, let same : cond (nat_eq w w) (tool_fault_in c) 0 ≡ tool_fault_in c = ap (λ b. cond b (tool_fault_in c) 0) (is_itself w) in omega (arith, same))

module _ (apply : Apply) (told : Bytes → Option Bytes) (p : Plan) (n : ℕ) where
  failed_here : (s : State) (e : Event) (r : List Event) (f : Failed) → Allowed p s e → IsTrue apply told p (carried apply told p) e → worker e < n → failed_in e ≡ Some f → IsFailed apply told p n (e ∷ r) f
  failed_here s (Grant w t) r f a is l h = absurd cc
  failed_here s (Regrant w t) r f a is l h = absurd cc
  failed_here s (Arrive w t k) r f a is l h = absurd cc
  failed_here s (End w t ns) r f a is l h = absurd cc
  failed_here s (Clean w t) r f a is l h = absurd cc
  failed_here s (Again w t c ns) r f a is l h = absurd cc
  failed_here s (Fail w t c ns) r f a is l h =
      let same : failed t c ≡ f = cc in
      let counted = counted_here w t c ns r in
      subst (IsFailed apply told p n (Fail w t c ns ∷ r)) same (record { w = w; sizes = ns; fits = a.2; is = is.1; below = l; host = counted.0; tool = counted.1 })

  failed_later : (e : Event) (r : List Event) (f : Failed) → IsFailed apply told p n r f → IsFailed apply told p n (e ∷ r) f
  failed_later e r f h =
      let more = more_counts h.w e r in
      record { w = h.w; sizes = h.sizes; fits = h.fits; is = h.is; below = h.below; host = omega (arith, h.host, more.0); tool = omega (arith, h.tool, more.1) }

  first_is : (s : State) (r : List Event) (f : Failed) → LegalFrom p s r → Truthful apply told p (carried apply told p) r → AllBelow n r → first_failed r ≡ Some f → IsFailed apply told p n r f
  first_is s [] f legal is below h = absurd cc
  first_is s (e ∷ r) f legal is below h = by_entry (failed_in e) refl h (first_is (after p s e) r f legal.1 is.1 below.1)
    where
      by_entry : (o : Option Failed) → failed_in e ≡ o → or_else o (first_failed r) ≡ Some f → (first_failed r ≡ Some f → IsFailed apply told p n r f) → IsFailed apply told p n (e ∷ r) f
      by_entry None none k less = failed_later e r f (less k)
      by_entry (Some x) some k less = failed_here s e r f legal.0 is.0 below.0 (some ∙ k)

-- the workers of a Legal record are below 16
entry_below : (p : Plan) (s : State) (e : Event) → Allowed p s e → worker e < 16
entry_below p s (Grant w t) a = a.0
entry_below p s (Regrant w t) a = a.0
entry_below p s (Arrive w t n) a = a.0
entry_below p s (End w t ns) a = a.0
entry_below p s (Clean w t) a = a.0
entry_below p s (Fail w t c ns) a = a.0
entry_below p s (Again w t c ns) a = a.0

pub all_below : (p : Plan) (s : State) (r : List Event) → LegalFrom p s r → AllBelow 16 r
all_below p s [] legal = tt
all_below p s (e ∷ r) legal = (entry_below p s e legal.0, all_below p (after p s e) r legal.1)

-- a first Fail, by its task and its cause
fault_is : (p : Plan) (o : Option Failed) (x : RunFault) → option_map (λ (f : Failed). fault_of p f.task f.cause) o ≡ Some x → (f : Failed) × (o ≡ Some f) × (fault_of p f.task f.cause ≡ x)
fault_is p None x h = absurd cc
fault_is p (Some f) x h = (f, refl, let same : fault_of p f.task f.cause ≡ x = cc in same)

pub nothing_else : (apply : Apply) (told : Bytes → Option Bytes) (p : Plan) → HasPlanLaws p → (s : State) (r : List Event) (x : RunFault) (n : ℕ) → LegalFrom p s r → Truthful apply told p (carried apply told p) r → AllCarried apply told p → AllBelow n r → first_fault p r ≡ Some x → IsCountedFault (HasToolFault n r) r x
nothing_else apply told p laws s r x n legal is all below h =
    let found = fault_is p (first_failed r) x h in
    let first = first_is apply told p n s r found.0 legal is below found.1 in
    subst (IsCountedFault (HasToolFault n r) r) found.2 (cause_counted apply told p laws all n first.w r found.0.task found.0.cause first.sizes first.fits first.is first.below first.host first.tool)

-- with one worker it is that one's tool
counted_map : (A B : Type 0) (r : List Event) (x : RunFault) → (A → B) → IsCountedFault A r x → IsCountedFault B r x
counted_map A B r (fault.ToolFailed id) f h = f h
counted_map A B r (fault.HostFailed (Some t)) f h = h
counted_map A B r (fault.HostFailed None) f h = h
counted_map A B r x f h = h

pub alone_counted : (r : List Event) (x : RunFault) → IsCountedFault (HasToolFault 1 r) r x → IsCountedFault (1 ≤ tool_faults 0 r) r x
alone_counted r x h = counted_map (HasToolFault 1 r) (1 ≤ tool_faults 0 r) r x first h
  where
    first : HasToolFault 1 r → 1 ≤ tool_faults 0 r
    first k = let l : k.0 < 1 = k.1 in let zeroth : k.0 ≡ 0 = omega (arith, l) in subst (λ w. 1 ≤ tool_faults w r) zeroth k.2
