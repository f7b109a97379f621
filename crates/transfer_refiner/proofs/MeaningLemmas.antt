-- Where replicas hold the values of their files, each task of a draft's plan carries the values of its files.
use Rattle.std.proofs.Common.{◌≡◌, ℕ, zero, suc, ◌<◌, ◌^◌, Bool, true, false, cond, not, ◌||◌, ◌&&◌, List, [], ◌∷◌, ◌++◌, length, map, refl, sym, ap, subst, ◌∙◌, nat_eq, arith, ◌⊎◌, inl, inr}
use Rattle.std.specs.Prelude.{Option, Some, None, option_and_then, option_map, slice_get, slice_index_or, unwrap_or}
use Rattle.std.specs.Str.{bytes_eq}
use Rattle.std.specs.List.{list_any, AllByRecursion}
use Rattle.std.proofs.lemmas.List.{append-nil, append_assoc, length-map}
use Rattle.std.proofs.lemmas.List.Folds.{list_any-append}
use Rattle.std.proofs.lemmas.Option.{get_or_from_slice_get, slice_get-get_or}
use Rattle.values.specs.Apply.{Apply, all_of, part}
use Rattle.values.specs.declared.numbers.JobId.{JobId}
use Rattle.values.specs.declared.numbers.SiteId.{SiteId}
use Rattle.workflow_core.specs.declared.workflow.Job.{Job}
use Rattle.workflow_core.specs.declared.workflow.Output.{Output}
use Rattle.workflow_core.specs.WellFormed.{inputs_of, outputs_of}
use Rattle.dependency_graph.specs.Edges.{has_output, read_by, written_by}
use Rattle.replica_catalog.specs.declared.catalog.Pfn.{Pfn}
use Rattle.replica_catalog.specs.Lookup.{has_pfn, is_registered, pfns_in}
use Rattle.plan_request.specs.declared.request.Execution.{Execution}
use Rattle.plan_request.specs.declared.request.ToolOf.{ToolOf}
use Rattle.plan_request.specs.JobTools.{tool_of}
use Rattle.plan_core.specs.declared.plan.Plan.{Plan}
use Rattle.plan_core.specs.declared.plan.PlanJob.{PlanJob}
use Rattle.plan_core.specs.declared.plan.Target.{Target}
use Rattle.plan_core.specs.declared.plan.Target.TheVariants.{Site as Into, Delivery}
use Rattle.plan_core.specs.declared.plan.TaskKind.{TaskKind}
use Rattle.plan_core.specs.declared.plan.TaskKind.TheVariants.{Transfer, Run, Clean}
use Rattle.plan_core.specs.Carried.{Bytes, after_job, after_jobs, carried, carried_by, read, stored, writer}
use Rattle.plan_core.specs.code.Carried.{IsCarrying}
use Rattle.plan_core.specs.code.Grounded.{Grounded, ground}
use Rattle.plan_core.specs.Kinds as kinds
use Rattle.plan_core.specs.code.Kinds.{kind_carries}
use Rattle.plan_core.specs.Kinds.{kind_reads, kind_writes, reads_file, writes_file}
use Rattle.plan_core.specs.Numbers.{has, least, or_else}
use Rattle.plan_core.specs.code.Proper.{IsProper, is_parent}
use Rattle.plan_core.specs.Words.{inputs, kind, tool_outputs as made, outputs}
use Rattle.plan_core.proofs.NumbersLemmas.{none_least}
use Rattle.plan_core.proofs.TestLemmas.{and_both, both, by_bool, either, is_itself, or_left, or_right, same_number}
use Rattle.transfer_refiner.specs.declared.fault.RefineFault.TheVariants.{NoReplica, NoSize}
use Rattle.transfer_refiner.specs.code.Conditions.{IsDraft, IsOrdered}
use Rattle.transfer_refiner.specs.Draft.{Draft, chosen, first_pfn, first_on, entry_in, home, part_makes, draft_file_name, part_needs, pfns_of, site_of, part_uses}
use Rattle.transfer_refiner.specs.code.Meaning.{AreAtHand, AreHeld, AreValues}
use Rattle.transfer_refiner.specs.Refined.{IsRefined}
use Rattle.transfer_refiner.specs.code.Tasks.{count_all, first_fault, is_made, lacks_replica, lacks_size, too_many, used}
use Rattle.transfer_refiner.specs.Tasks.{count_files, jobs_of, planned_job, source}
use Rattle.transfer_refiner.proofs.GroundingLemmas.{task_grounded}
use Rattle.transfer_refiner.proofs.PlanJobsLemmas.{inputs_are, makes_are, needs_are, outputs_are}
use Rattle.transfer_refiner.proofs.PlanPairsLemmas.{has_kind}
use Rattle.transfer_refiner.proofs.ProperLemmas.{is_proper, needed_used}
use Rattle.transfer_refiner.proofs.SortLemmas.{Sort, a_delivery, a_run, a_transfer, sorted}
use Rattle.transfer_refiner.proofs.StandingLemmas.{home_none, moved_needed}
use Rattle.transfer_refiner.proofs.TogetherLemmas.{fault_none, or_first}

-- registered copies
first_held : (told : Bytes → Option Bytes) (v : Option Bytes) (xs : List Pfn) → has_pfn xs ≡ true → AllByRecursion (λ (x : Pfn). told x.pfn ≡ v) xs → told (first_pfn xs) ≡ v
first_held told v [] e all = absurd cc
first_held told v (x ∷ xs) e all = all.0

on_held : (told : Bytes → Option Bytes) (v : Option Bytes) (name other : List ℕ) (xs : List Pfn) → told other ≡ v → AllByRecursion (λ (x : Pfn). told x.pfn ≡ v) xs → told (first_on name xs other) ≡ v
on_held told v name other [] e all = e
on_held told v name other (x ∷ xs) e all = by (bytes_eq x.site name) (on_held told v name other xs e all.1)
  where
    by : (b : Bool) → told (first_on name xs other) ≡ v → told (cond b x.pfn (first_on name xs other)) ≡ v
    by true rest = all.0
    by false rest = rest

-- what a job makes, where v stands at its inputs
same_all : (u v : ℕ → Option Bytes) (gs : List ℕ) → ((g : ℕ) → has gs g ≡ true → u g ≡ v g) → map u gs ≡ map v gs
same_all u v [] same = refl
same_all u v (g ∷ gs) same =
    ap (λ (x : Option Bytes). x ∷ map u gs) (same g (or_left (nat_eq g g) (has gs g) (is_itself g)))
    ∙ ap (λ (xs : List (Option Bytes)). v g ∷ xs) (same_all u v gs (λ h e. same h (or_right (nat_eq g h) (has gs h) e)))

-- the job that makes a file
job_there : (js : List Job) (j f : ℕ) → has (slice_index_or (map outputs_of js) j []) f ≡ true → (x : Job) × (slice_get js j ≡ Some x) × (has_output f x ≡ true)
job_there [] j f h = absurd cc
job_there (x ∷ js) zero f h = (x, refl, h)
job_there (x ∷ js) (suc j) f h = job_there js j f h

reads_at : (js : List Job) (j : ℕ) (x : Job) → slice_get js j ≡ Some x → slice_index_or (map inputs_of js) j [] ≡ inputs_of x
reads_at [] j x h = absurd cc
reads_at (y ∷ js) zero x h = let e : y ≡ x = cc in ap inputs_of e
reads_at (y ∷ js) (suc j) x h = reads_at js j x h

pub writes_at : (js : List Job) (j : ℕ) (x : Job) → slice_get js j ≡ Some x → slice_index_or (map outputs_of js) j [] ≡ outputs_of x
writes_at [] j x h = absurd cc
writes_at (y ∷ js) zero x h = let e : y ≡ x = cc in ap outputs_of e
writes_at (y ∷ js) (suc j) x h = writes_at js j x h

tool_at : (tools : List ToolOf) (js : List Job) (ss : List (Option SiteId)) → length ss ≡ length js → (j : ℕ) (x : Job) → slice_get js j ≡ Some x → (s : Option SiteId) × (slice_get (jobs_of tools js ss) j ≡ Some (planned_job tools x s))
tool_at tools [] ss h j x e = absurd cc
tool_at tools (y ∷ js) [] h j x e = absurd (omega arith)
tool_at tools (y ∷ js) (s ∷ ss) h zero x e = let same : y ≡ x = cc in (s, ap (λ (z : Job). Some (planned_job tools z s)) same)
tool_at tools (y ∷ js) (s ∷ ss) h (suc j) x e = tool_at tools js ss (omega arith) j x e

made_is : (apply : Apply) (d : Draft) (p : Plan) → IsDraft d → IsRefined d p → (j : ℕ) (x : Job) → slice_get d.workflow.jobs j ≡ Some x → (ins : List Bytes) → made apply p.jobs j ins ≡ apply (tool_of d.request.tools x.transformation.name) x.arguments ins (length x.outputs)
unfolding made
made_is apply d p draft refined j x h ins =
    let found = tool_at d.request.tools d.workflow.jobs d.sites draft.jobs_placed j x h in
    let made_by : Option PlanJob → Option (List Bytes) = λ o. option_and_then (λ (y : PlanJob). apply y.tool y.arguments ins (length y.outputs)) o in
    ap made_by (ap (λ (js : List PlanJob). slice_get js j) refined.jobs ∙ found.1)
    ∙ ap (λ (n : ℕ). apply (tool_of d.request.tools x.transformation.name) x.arguments ins n) (length-map x.outputs (λ (o : Output). o.file))

job_value : (apply : Apply) (v : ℕ → Option Bytes) (d : Draft) (p : Plan) → IsDraft d → IsRefined d p → AreValues apply d.request.tools d.workflow v → (j f : ℕ) → has (written_by d.workflow j) f ≡ true
    → option_and_then (part f (outputs p.jobs j)) (option_and_then (made apply p.jobs j) (all_of (map v (inputs p.jobs j)))) ≡ v f
job_value apply v d p draft refined are j f h =
    let job = job_there d.workflow.jobs j f h in
    let outs : outputs p.jobs j ≡ outputs_of job.0 = outputs_are d p draft refined j ∙ writes_at d.workflow.jobs j job.0 job.1 in
    let ins : inputs p.jobs j ≡ inputs_of job.0 = inputs_are d p draft refined j ∙ reads_at d.workflow.jobs j job.0 job.1 in
    let tool : made apply p.jobs j ≡ (λ (vs : List Bytes). apply (tool_of d.request.tools job.0.transformation.name) job.0.arguments vs (length job.0.outputs)) = λ i vs. made_is apply d p draft refined j job.0 job.1 vs i in
    ap (λ (os : List ℕ). option_and_then (part f os) (option_and_then (made apply p.jobs j) (all_of (map v (inputs p.jobs j))))) outs
    ∙ ap (λ (gs : List ℕ). option_and_then (part f (outputs_of job.0)) (option_and_then (made apply p.jobs j) (all_of (map v gs)))) ins
    ∙ ap (λ (g : List Bytes → Option (List Bytes)). option_and_then (part f (outputs_of job.0)) (option_and_then g (all_of (map v (inputs_of job.0))))) tool
    ∙ sym (are j f job.0 job.1 job.2)

-- what stands at the files when some jobs of a part are done
record Known (d : Draft) (js done : List JobId) (env v : ℕ → Option Bytes) : Type 0 where
  pub made : (g : ℕ) → part_makes d done g ≡ true → env g ≡ v g
  pub needed : (g : ℕ) → part_needs d js g ≡ true → env g ≡ v g

split_any : (test : JobId → Bool) (js done later : List JobId) (j : JobId) → js ≡ done ++ j ∷ later → list_any test js ≡ (list_any test done || (test j || list_any test later))
split_any test js done later j e = ap (list_any test) e ∙ list_any-append test done (j ∷ later)

known_on : (apply : Apply) (v : ℕ → Option Bytes) (d : Draft) (p : Plan) → IsDraft d → IsRefined d p → AreValues apply d.request.tools d.workflow v → (js done later : List JobId) (j : JobId) → IsOrdered d js → js ≡ done ++ j ∷ later → (env : ℕ → Option Bytes) → Known d js done env v → Known d js (done ++ j ∷ []) (after_job apply p.jobs j.0 env) v
known_on apply v d p draft refined are js done later j ordered is env known = record { made = made_now; needed = needed_now }
  where
    at_input : (g : ℕ) → has (inputs p.jobs j.0) g ≡ true → env g ≡ v g
    at_input g h = by_bool (part_makes d js g) (λ m. known.made g (ordered done later j is g reads_it m)) (λ m. known.needed g (and_both (part_uses d js g) (not (part_makes d js g)) used_it (ap not m)))
      where
        reads_it : has (read_by d.workflow j.0) g ≡ true
        reads_it = ap (λ (xs : List ℕ). has xs g) (sym (inputs_are d p draft refined j.0)) ∙ h

        used_it : part_uses d js g ≡ true
        used_it = split_any (λ (i : JobId). has (read_by d.workflow i.0) g) js done later j is ∙ or_right (part_uses d done g) (has (read_by d.workflow j.0) g || part_uses d later g) (or_left (has (read_by d.workflow j.0) g) (part_uses d later g) reads_it)

    writes_same : (g : ℕ) → has (outputs p.jobs j.0) g ≡ has (written_by d.workflow j.0) g
    writes_same g = ap (λ (xs : List ℕ). has xs g) (outputs_are d p draft refined j.0)

    here : (g : ℕ) → has (outputs p.jobs j.0) g ≡ true → after_job apply p.jobs j.0 env g ≡ v g
    here g h =
        ap (λ (b : Bool). cond b (option_and_then (part g (outputs p.jobs j.0)) (option_and_then (made apply p.jobs j.0) (all_of (map env (inputs p.jobs j.0))))) (env g)) h
        ∙ ap (λ (xs : List (Option Bytes)). option_and_then (part g (outputs p.jobs j.0)) (option_and_then (made apply p.jobs j.0) (all_of xs))) (same_all env v (inputs p.jobs j.0) at_input)
        ∙ job_value apply v d p draft refined are j.0 g (sym (writes_same g) ∙ h)

    elsewhere : (g : ℕ) → has (outputs p.jobs j.0) g ≡ false → after_job apply p.jobs j.0 env g ≡ env g
    elsewhere g h = ap (λ (b : Bool). cond b (option_and_then (part g (outputs p.jobs j.0)) (option_and_then (made apply p.jobs j.0) (all_of (map env (inputs p.jobs j.0))))) (env g)) h

    made_now : (g : ℕ) → part_makes d (done ++ j ∷ []) g ≡ true → after_job apply p.jobs j.0 env g ≡ v g
    made_now g h = by_bool (has (outputs p.jobs j.0) g) (here g) (λ k. elsewhere g k ∙ known.made g (before g k h))
      where
        before : (g : ℕ) → has (outputs p.jobs j.0) g ≡ false → part_makes d (done ++ j ∷ []) g ≡ true → part_makes d done g ≡ true
        before g k h = by (either (part_makes d done g) (has (written_by d.workflow j.0) g || false) (sym (list_any-append (λ (i : JobId). has (written_by d.workflow i.0) g) done (j ∷ [])) ∙ h))
          where
            by : (part_makes d done g ≡ true) ⊎ ((has (written_by d.workflow j.0) g || false) ≡ true) → part_makes d done g ≡ true
            by (inl m) = m
            by (inr m) = absurd (let x : false ≡ true = sym (ap (λ (b : Bool). b || false) (sym (writes_same g) ∙ k)) ∙ m in cc)

    needed_now : (g : ℕ) → part_needs d js g ≡ true → after_job apply p.jobs j.0 env g ≡ v g
    needed_now g h = by_bool (has (outputs p.jobs j.0) g) (here g) (λ k. elsewhere g k ∙ known.needed g h)

after_all : (apply : Apply) (v : ℕ → Option Bytes) (d : Draft) (p : Plan) → IsDraft d → IsRefined d p → AreValues apply d.request.tools d.workflow v → (js : List JobId) → IsOrdered d js → (later done : List JobId) → js ≡ done ++ later → (env : ℕ → Option Bytes) → Known d js done env v → (f : ℕ) → part_makes d js f ≡ true → after_jobs apply p.jobs later env f ≡ v f
unfolding after_jobs
after_all apply v d p draft refined are js ordered [] done is env known f h = known.made f (ap (λ (xs : List JobId). part_makes d xs f) (sym (is ∙ append-nil done)) ∙ h)
after_all apply v d p draft refined are js ordered (j ∷ later) done is env known f h =
    after_all apply v d p draft refined are js ordered later (done ++ j ∷ []) (is ∙ sym (append_assoc done (j ∷ []) later)) (after_job apply p.jobs j.0 env) (known_on apply v d p draft refined are js done later j ordered is env known) f h

writes_carries : (jobs : List PlanJob) (o : Option TaskKind) (s f : ℕ) → kind_writes jobs o s f ≡ true → kind_carries jobs o f ≡ true
writes_carries jobs None s f h = absurd cc
writes_carries jobs (Some (Transfer g from (Into a))) s f h = (both (nat_eq a.0 s) (nat_eq g.0 f) h).1
writes_carries jobs (Some (Transfer g from Delivery)) s f h = absurd cc
writes_carries jobs (Some (Run a js)) s f h = (both (nat_eq a.0 s) (kinds.jobs_make jobs js f) h).1
writes_carries jobs (Some (Clean q)) s f h = absurd cc

-- a file that comes from its home, or from an held copy
from_home : (apply : Apply) (told : Bytes → Option Bytes) (v : ℕ → Option Bytes) (jobs : List PlanJob) (at : ℕ → ℕ → Option Bytes) (o : Option ℕ) (x : Bytes) (g f : ℕ) (to : Target) → nat_eq g f ≡ true → (o ≡ None → told x ≡ v f)
    → ((s : ℕ) → kind_reads jobs (Some (Transfer (record { 0 = g }) (source o x) to)) s f ≡ true → at s f ≡ v f) → carried_by apply told jobs at (Some (Transfer (record { 0 = g }) (source o x) to)) f ≡ v f
from_home apply told v jobs at None x g f to same held reading = held refl
from_home apply told v jobs at (Some a) x g f to same held reading = reading a (and_both (nat_eq a a) (nat_eq g f) (is_itself a) same)

-- a file that is registered has a pfn
has_pfns : (d : Draft) (f : ℕ) → f < count_files d → is_registered d.replicas (draft_file_name d f) ≡ true → has_pfn (pfns_of d f) ≡ true
has_pfns d f l registered = ap (λ (o : Option (List ℕ)). has_pfn (pfns_in (entry_in d.replicas o))) (slice_get-get_or d.workflow.files f [] l) ∙ registered

-- a file that is needed and not made is registered
registered_there : (d : Draft) (f : ℕ) → lacks_replica d f ≡ false → used d f ≡ true → home d f ≡ None → is_registered d.replicas (draft_file_name d f) ≡ true
unfolding lacks_replica
registered_there d f enough used_it none = by (is_registered d.replicas (draft_file_name d f)) refl
  where
    by : (b : Bool) → is_registered d.replicas (draft_file_name d f) ≡ b → is_registered d.replicas (draft_file_name d f) ≡ true
    by true e = e
    by false e = absurd (let x : false ≡ true = sym enough ∙ and_both (used d f) (not (is_made d f) && not (is_registered d.replicas (draft_file_name d f))) used_it (and_both (not (is_made d f)) (not (is_registered d.replicas (draft_file_name d f))) (ap not (home_none d f none)) (ap not e)) in cc)

chosen_held : (told : Bytes → Option Bytes) (v : ℕ → Option Bytes) (d : Draft) (f s : ℕ) → AreHeld d told v → has_pfn (pfns_of d f) ≡ true → told (chosen d f s) ≡ v f
chosen_held told v d f s held some = on_held told (v f) (unwrap_or (option_map (λ (e : Execution). e.site) (slice_get d.request.execute s)) []) (first_pfn (pfns_of d f)) (pfns_of d f) (first_held told (v f) (pfns_of d f) some (held f)) (held f)

-- what plan_core says of a proper plan
abbrev pub AreWritten : Plan → Type 0
AreWritten p = (t s f : ℕ) → reads_file p t s f ≡ true → (u : ℕ) × (writer p s f ≡ Some u) × (writes_file p u s f ≡ true) × (is_parent p u t ≡ true)

carries_value : (apply : Apply) (told : Bytes → Option Bytes) (v : ℕ → Option Bytes) (d : Draft) (p : Plan) → IsDraft d → IsRefined d p → IsCarrying apply told p (carried apply told p) → AreWritten p → ((f : ℕ) → f < count_files d → lacks_replica d f ≡ false)
    → AreValues apply d.request.tools d.workflow v → AreHeld d told v → AreAtHand d → (t : ℕ) → Grounded (is_parent p) t → (f : ℕ) → kind_carries p.jobs (kind p t) f ≡ true → carried apply told p t f ≡ v f
carries_value apply told v d p draft refined along written enough are held hand t (ground a back) f h =
    let is = has_kind p a (λ o. kind_carries p.jobs o f) h refl in
    along a f
    ∙ ap (λ (o : Option TaskKind). carried_by apply told p.jobs (read p (carried apply told p) a) o f) is.1
    ∙ by (λ u into g k. carries_value apply told v d p draft refined along written enough are held hand u (back u into) g k) is.0 is.1 (sorted d p refined a is.0 is.1) is.2
  where
    by : ((u : ℕ) → is_parent p u a ≡ true → (g : ℕ) → kind_carries p.jobs (kind p u) g ≡ true → carried apply told p u g ≡ v g) → (k : TaskKind) → kind p a ≡ Some k → Sort d a k → kind_carries p.jobs (Some k) f ≡ true → carried_by apply told p.jobs (read p (carried apply told p) a) (Some k) f ≡ v f
    by earlier k e sort c = of_sort sort
      where
        reading : (s g : ℕ) → reads_file p a s g ≡ true → read p (carried apply told p) a s g ≡ v g
        reading s g r =
            let u = written a s g r in
            ap (λ (b : Bool). cond b (stored p (carried apply told p) s g) None) r
            ∙ ap (λ (o : Option ℕ). option_and_then (λ u. carried apply told p u g) o) u.1
            ∙ earlier u.0 u.3 g (writes_carries p.jobs (kind p u.0) s g u.2)

        reading_kind : (s g : ℕ) → kind_reads p.jobs (Some k) s g ≡ true → read p (carried apply told p) a s g ≡ v g
        reading_kind s g r = reading s g (ap (λ (o : Option TaskKind). kind_reads p.jobs o s g) e ∙ r)

        of_sort : Sort d a k → carried_by apply told p.jobs (read p (carried apply told p) a) (Some k) f ≡ v f
        of_sort (a_run js at is) =
            let makes_it : part_makes d js f ≡ true = sym (makes_are d p draft refined js f) ∙ ap (λ (x : TaskKind). kind_carries p.jobs (Some x) f) is ∙ c in
            ap (λ (x : TaskKind). carried_by apply told p.jobs (read p (carried apply told p) a) (Some x) f) (sym is)
            ∙ after_all apply v d p draft refined are js (ordered_part at) js [] refl (read p (carried apply told p) a (site_of d js)) (record { made = λ g x. absurd (let y : false ≡ true = x in cc); needed = λ g n. reading_kind (site_of d js) g (ap (λ (x : TaskKind). kind_reads p.jobs (Some x) (site_of d js) g) (sym is) ∙ and_both (nat_eq (site_of d js) (site_of d js)) (kinds.jobs_use p.jobs js g && not (kinds.jobs_make p.jobs js g)) (is_itself (site_of d js)) (needs_are d p draft refined js g ∙ n)) }) f makes_it
          where
            ordered_part : slice_get d.parts a ≡ Some js → IsOrdered d js
            ordered_part at = subst (IsOrdered d) (get_or_from_slice_get d.parts a js [] at) (draft.ordered a)
        of_sort (a_transfer g s i l m moved is there place) =
            let same : nat_eq g f ≡ true = ap (λ (x : TaskKind). kind_carries p.jobs (Some x) f) is ∙ c in
            ap (λ (x : TaskKind). carried_by apply told p.jobs (read p (carried apply told p) a) (Some x) f) (sym is)
            ∙ from_home apply told v p.jobs (read p (carried apply told p) a) (home d g) (chosen d g s) g f (Into (record { 0 = s })) same
            (λ none. chosen_held told v d g s held (has_pfns d g l (registered_there d g (enough g l) (needed_used d s g (moved_needed d g s moved).0) none)) ∙ ap v (same_number g f same))
            (λ x r. reading_kind x f (ap (λ (y : TaskKind). kind_reads p.jobs (Some y) x f) (sym is) ∙ r))
        of_sort (a_delivery g i l asked is there placed) =
            let same : nat_eq g f ≡ true = ap (λ (x : TaskKind). kind_carries p.jobs (Some x) f) is ∙ c in
            ap (λ (x : TaskKind). carried_by apply told p.jobs (read p (carried apply told p) a) (Some x) f) (sym is)
            ∙ from_home apply told v p.jobs (read p (carried apply told p) a) (home d g) (first_pfn (pfns_of d g)) g f Delivery same
            (λ none. first_held told (v g) (pfns_of d g) (has_pfns d g l (hand g asked (home_none d g none))) (held g) ∙ ap v (same_number g f same))
            (λ x r. reading_kind x f (ap (λ (y : TaskKind). kind_reads p.jobs (Some y) x f) (sym is) ∙ r))

-- without a fault every file that is needed and not made has a pfn
enough_pfns : (d : Draft) (limit : ℕ) → first_fault d limit ≡ None → (f : ℕ) → f < count_files d → lacks_replica d f ≡ false
unfolding first_fault
enough_pfns d limit e f l =
    none_least (count_files d) (lacks_replica d)
    (fault_none (least (count_files d) (lacks_replica d)) (λ f. NoReplica (draft_file_name d f))
    (or_first (option_map (λ f. NoReplica (draft_file_name d f)) (least (count_files d) (lacks_replica d)))
    (or_else (option_map (λ f. NoSize (draft_file_name d f)) (least (count_files d) (lacks_size d))) (too_many (count_all d) limit)) e)) f l

pub means : ((apply : Apply) (told : Bytes → Option Bytes) (p : Plan) → IsProper p → IsCarrying apply told p (carried apply told p)) → ((p : Plan) → IsProper p → AreWritten p)
    → (apply : Apply) (told : Bytes → Option Bytes) (v : ℕ → Option Bytes) (d : Draft) (limit : ℕ) (p : Plan) → IsDraft d → limit < 2 ^ 32 → first_fault d limit ≡ None → IsRefined d p → AreValues apply d.request.tools d.workflow v → AreHeld d told v → AreAtHand d
    → (t f : ℕ) → kind_carries p.jobs (kind p t) f ≡ true → carried apply told p t f ≡ v f
means along written apply told v d limit p draft few none refined are held hand t f h =
    let proper = is_proper d limit p draft few none refined in
    carries_value apply told v d p draft refined (along apply told p proper) (written p proper) (enough_pfns d limit none) are held hand t (task_grounded d p draft refined t) f h
