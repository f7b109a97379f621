-- What a Run's jobs have made is all there, at files of their own.
use Rattle.std.proofs.Common.{◌≡◌, ℕ, ◌<◌, ◌||◌, true, nat_eq, List, [], ◌∷◌, map, refl, sym, ap, subst, ◌∙◌}
use Rattle.std.specs.Prelude.{Option, Some, None, Vec, Ok, Err}
use Rattle.std.specs.declared.alloc.Global.{Global}
use Rattle.std.proofs.Math.Path.{fun_ext}
use Rattle.values.specs.Apply.{Apply}
use Rattle.values.specs.declared.numbers.JobId.{JobId}
use Rattle.plan_core.specs.declared.plan.Plan.{Plan}
use Rattle.plan_core.specs.declared.plan.PlanJob.{PlanJob}
use Rattle.plan_core.specs.declared.plan.TaskKind.{TaskKind}
use Rattle.plan_core.specs.declared.plan.TaskKind.TheVariants.{Transfer, Run, Clean as CleanTask}
use Rattle.plan_core.specs.Carried.{after_jobs}
use Rattle.plan_core.specs.Kinds.{kind_writes, jobs_make, writes_file}
use Rattle.plan_core.specs.code.Numbers.{RisesFrom}
use Rattle.plan_core.specs.Numbers.{has}
use Rattle.plan_core.specs.code.Proper.{IsProper}
use Rattle.plan_core.specs.Words.{count_pairs, is_run, is_run_kind, job_numbers, kind, reads, writes}
use Rattle.plan_core.specs.code.Words.{is_pair}
use Rattle.plan_core.proofs.RisingLemmas.{below_rises}
use Rattle.plan_core.proofs.TestLemmas.{both, is_itself, or_left, or_right, same_number}
use Rattle.run_record.specs.declared.entry.Cause.{Cause}
use Rattle.run_record.specs.declared.entry.Cause.TheVariants as why
use Rattle.storage_simulation.specs.Following.{AreOnce}
use Rattle.storage_simulation.proofs.FollowingLemmas.{once_more, once_parts}
use Rattle.storage_simulation.proofs.RisingLemmas.{rises_once}
use Rattle.lease_rules.specs.Legal.{has_job}
use Rattle.plan_core.specs.Names.{pair_file, pair_site}
use Rattle.plan_core.specs.code.Declined.{declined_among}
use Rattle.task_work.specs.Computing.{Computes, computed, files_of, given, jobs_in}
use Rattle.task_work.specs.Running.{RanJobs, RunsJobs}
use Rattle.task_work.specs.Table.{at}
use Rattle.task_work.specs.declared.table.Table.{Table}
use Rattle.task_work.proofs.PairLemmas.{pair_is, pair_with, written_file}
use Rattle.task_work.proofs.SmallLemmas.{not_true, true_false}

-- a task's writes rise
writes_once : (p : Plan) → IsProper p → (t : ℕ) → AreOnce (writes p t)
unfolding writes
writes_once p proper t = rises_once 0 _ (subst (RisesFrom 0) (sym (proper.tasks t).writes) (below_rises (count_pairs p) _))

-- a Run writes at its own site what its jobs make
run_writes : (jobs : List PlanJob) (k : Option TaskKind) (s f : ℕ) → is_run_kind k ≡ true → kind_writes jobs k s f ≡ true → jobs_make jobs (jobs_in k) f ≡ true
run_writes jobs None s f run h = absurd cc
run_writes jobs (Some (Transfer g from to)) s f run h = absurd cc
run_writes jobs (Some (Run a js)) s f run h = (both (nat_eq a.0 s) (jobs_make jobs js f) h).1
run_writes jobs (Some (CleanTask q)) s f run h = absurd cc

run_site : (jobs : List PlanJob) (k : Option TaskKind) (s r f g : ℕ) → is_run_kind k ≡ true → kind_writes jobs k s f ≡ true → kind_writes jobs k r g ≡ true → s ≡ r
run_site jobs None s r f g run h i = absurd cc
run_site jobs (Some (Transfer x from to)) s r f g run h i = absurd cc
run_site jobs (Some (Run a js)) s r f g run h i = sym (same_number a.0 s (both (nat_eq a.0 s) (jobs_make jobs js f) h).0) ∙ same_number a.0 r (both (nat_eq a.0 r) (jobs_make jobs js g) i).0
run_site jobs (Some (CleanTask q)) s r f g run h i = absurd cc

-- pairs of files of their own
files_once : (p : Plan) (qs : List ℕ) → ((q r : ℕ) → has qs q ≡ true → has qs r ≡ true → pair_file p q ≡ pair_file p r → q ≡ r) → AreOnce qs → AreOnce (files_of p qs)
files_once p [] apart once = refl
files_once p (q ∷ qs) apart once =
    let parts = once_parts q qs once in
    once_more (pair_file p q) (files_of p qs)
    (not_true (has (files_of p qs) (pair_file p q)) (λ h.
    let found = pair_with p (pair_file p q) qs h in
    let same = apart found.0 q (or_right (nat_eq q found.0) (has qs found.0) found.1) (or_left (nat_eq q q) (has qs q) (is_itself q)) found.2 in
    true_false (has qs q) (subst (λ z. has qs z ≡ true) same found.1) parts.0))
    (files_once p qs (λ x y h i. apart x y (or_right (nat_eq q x) (has qs x) h) (or_right (nat_eq q y) (has qs y) i)) parts.1)

module _ (p : Plan) (proper : IsProper p) (listed : (t q s f : ℕ) → is_pair p q s f ≡ true → has (writes p t) q ≡ writes_file p t s f) (in_range : (t q : ℕ) → (has (reads p t) q || has (writes p t) q) ≡ true → q < count_pairs p) (once : (q r s f : ℕ) → is_pair p q s f ≡ true → is_pair p r s f ≡ true → q ≡ r) (t : ℕ) (run : is_run p t ≡ true) where
  pair_here : (q : ℕ) → has (writes p t) q ≡ true → is_pair p q (pair_site p q) (pair_file p q) ≡ true
  pair_here q h = pair_is p q (in_range t q (or_right (has (reads p t) q) (has (writes p t) q) h))

  writes_here : (q : ℕ) → has (writes p t) q ≡ true → writes_file p t (pair_site p q) (pair_file p q) ≡ true
  writes_here q h = written_file p listed in_range t q h

  apart : (q r : ℕ) → has (writes p t) q ≡ true → has (writes p t) r ≡ true → pair_file p q ≡ pair_file p r → q ≡ r
  apart q r h i e =
      let site = run_site p.jobs (kind p t) (pair_site p q) (pair_site p r) (pair_file p q) (pair_file p r) run (writes_here q h) (writes_here r i) in
      once q r (pair_site p r) (pair_file p r) (subst (λ s. is_pair p q s (pair_file p r) ≡ true) site (subst (λ f. is_pair p q (pair_site p q) f ≡ true) e (pair_here q h))) (pair_here r i)

  pub outputs_once : AreOnce (files_of p (writes p t))
  outputs_once = files_once p (writes p t) apart (writes_once p proper t)

  pub outputs_made : (f : ℕ) → has (files_of p (writes p t)) f ≡ true → jobs_make p.jobs (jobs_in (kind p t)) f ≡ true
  outputs_made f h =
      let found = pair_with p f (writes p t) h in
      subst (λ g. jobs_make p.jobs (jobs_in (kind p t)) g ≡ true) found.2 (run_writes p.jobs (kind p t) (pair_site p found.0) (pair_file p found.0) run (writes_here found.0 found.1))

-- from the jobs to the task
map_same : (g h : ℕ → Option (List ℕ)) (fs : List ℕ) → ((f : ℕ) → g f ≡ h f) → map g fs ≡ map h fs
map_same g h [] same = refl
map_same g h (f ∷ fs) same = ap (λ x. x ∷ map g fs) (same f) ∙ ap (λ l. h f ∷ l) (map_same g h fs same)

pub computes_all : (apply : Apply) (p : Plan) (t : ℕ) (blobs : List (List ℕ)) (js : List JobId) (first last : Table) (before later : ℕ) (outs : Vec (List ℕ) Global) → js ≡ jobs_in (kind p t) → ((f : ℕ) → at first f ≡ given p t blobs f) → RanJobs apply p.jobs js (at first) (at last) → map (at last) (files_of p (writes p t)) ≡ map Some outs.items → Computes apply p t blobs before later (Ok outs)
computes_all apply p t blobs js first last before later outs same is ran taken = (
  sym (map_same (at last) (computed apply p t blobs) (files_of p (writes p t)) (λ f.
      ran.at f ∙ ap (λ l. after_jobs apply p.jobs l (at first) f) same ∙ ap (λ v. after_jobs apply p.jobs (jobs_in (kind p t)) v f) (fun_ext is)))
      ∙ taken,
  sym (ap (λ v. declined_among apply p.jobs (jobs_in (kind p t)) v) (fun_ext is)) ∙ sym (ap (λ l. declined_among apply p.jobs l (at first)) same) ∙ ran.none,
)

job_of : (k : Option TaskKind) (j : ℕ) → has (job_numbers (jobs_in k)) j ≡ true → has_job k j ≡ true
job_of None j h = absurd cc
job_of (Some (Transfer f from to)) j h = absurd cc
job_of (Some (Run a js)) j h = h
job_of (Some (CleanTask q)) j h = absurd cc

pub computes_stop : (apply : Apply) (p : Plan) (t : ℕ) (blobs : List (List ℕ)) (js : List JobId) (first : Table) (w : ℕ → Option (List ℕ)) (before later : ℕ) (c : Cause) → js ≡ jobs_in (kind p t) → ((f : ℕ) → at first f ≡ given p t blobs f) → RunsJobs apply p.jobs js (at first) w before later (Err c) → Computes apply p t blobs before later (Err c)
computes_stop apply p t blobs js first w before later why.Absent same is answer = absurd answer
computes_stop apply p t blobs js first w before later (why.TooLong n) same is answer = absurd answer
computes_stop apply p t blobs js first w before later (why.Checksum d) same is answer = absurd answer
computes_stop apply p t blobs js first w before later (why.Oversize j f n) same is answer = absurd answer
computes_stop apply p t blobs js first w before later (why.Declined j) same is answer = (
  sym (ap (λ v. declined_among apply p.jobs (jobs_in (kind p t)) v) (fun_ext is)) ∙ sym (ap (λ l. declined_among apply p.jobs l (at first)) same) ∙ answer.0,
  job_of (kind p t) j.0 (subst (λ l. has (job_numbers l) j.0 ≡ true) same answer.1),
)
computes_stop apply p t blobs js first w before later (why.ToolFailed j) same is answer = (answer.0, job_of (kind p t) j.0 (subst (λ l. has (job_numbers l) j.0 ≡ true) same answer.1))
computes_stop apply p t blobs js first w before later why.HostFailed same is answer = absurd answer
computes_stop apply p t blobs js first w before later why.Memory same is answer = tt
