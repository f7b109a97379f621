-- One job more.
use Rattle.std.proofs.Common.{◌≡◌, ℕ, zero, suc, ◌+◌, ◌<◌, ◌≤◌, ◌||◌, Bool, true, false, nat_eq, List, [], ◌∷◌, length, map, drop, get_or, refl, sym, ap, subst, ◌∙◌, drop-cons, arith}
use Rattle.std.specs.Prelude.{Option, Some, None, is_some, if◌then◌else◌, option_and_then, slice_get, Result, Ok, Err, Vec}
use Rattle.std.specs.declared.alloc.Global.{Global}
use Rattle.task_work.specs.Table.{IsFound}
use Rattle.std.proofs.Math.Path.{fun_ext}
use Rattle.outside.specs.code.Counts.{Rose}
use Rattle.values.specs.Apply.{Apply, all_of, part}
use Rattle.values.specs.declared.numbers.JobId.{JobId}
use Rattle.plan_core.specs.declared.plan.PlanJob.{PlanJob}
use Rattle.plan_core.specs.Carried.{after_job, after_jobs}
use Rattle.plan_core.specs.Kinds.{jobs_make}
use Rattle.plan_core.specs.Numbers.{has, or_else}
use Rattle.plan_core.specs.Words.{file_numbers, inputs, inputs_in, job_numbers, tool_outputs as made, outputs, outputs_in}
use Rattle.plan_core.proofs.TestLemmas.{by_bool, is_itself, or_left, or_right}
use Rattle.run_record.specs.declared.entry.Cause.{Cause}
use Rattle.run_record.specs.declared.entry.Cause.TheVariants as why
use Rattle.plan_core.specs.code.Declined.{declined_among, next_declined}
use Rattle.task_work.specs.Running.{IsToolCause, Places, RanJob, RanJobs, RunsJob, RunsJobs, RunsTool, made_by, made_of}

-- a job by its number
job_made : (apply : Apply) (jobs : List PlanJob) (j : ℕ) (job : PlanJob) (v : ℕ → Option (List ℕ)) → slice_get jobs j ≡ Some job → made_of apply jobs j v ≡ option_and_then (made_by apply job) (all_of (map v (file_numbers job.inputs)))
unfolding made inputs
job_made apply jobs j job v is = ap (λ (o : Option PlanJob). option_and_then (λ ins. option_and_then (λ (x : PlanJob). apply x.tool x.arguments ins (length x.outputs)) o) (all_of (map v (inputs_in o)))) is

job_outputs : (jobs : List PlanJob) (j : ℕ) (job : PlanJob) → slice_get jobs j ≡ Some job → outputs jobs j ≡ file_numbers job.outputs
unfolding outputs
job_outputs jobs j job is = ap outputs_in is

abbrev none_of : List (List ℕ) → Option (List (List ℕ))
none_of ins = None

nothing_made : (o : Option (List (List ℕ))) → option_and_then none_of o ≡ None
nothing_made None = refl
nothing_made (Some x) = refl

pub no_job : (apply : Apply) (jobs : List PlanJob) (j : ℕ) (v : ℕ → Option (List ℕ)) → slice_get jobs j ≡ None → made_of apply jobs j v ≡ None
unfolding made
no_job apply jobs j v is = ap (λ (o : Option PlanJob). option_and_then (λ ins. option_and_then (λ (x : PlanJob). apply x.tool x.arguments ins (length x.outputs)) o) (all_of (map v (inputs jobs j)))) is ∙ nothing_made _

pub input_missing : (apply : Apply) (jobs : List PlanJob) (j : ℕ) (job : PlanJob) (v : ℕ → Option (List ℕ)) → slice_get jobs j ≡ Some job → all_of (map v (file_numbers job.inputs)) ≡ None → made_of apply jobs j v ≡ None
input_missing apply jobs j job v is none = job_made apply jobs j job v is ∙ ap (option_and_then (made_by apply job)) none

-- the outputs at their files
part_or : (f : ℕ) (os : List ℕ) (vs : List (List ℕ)) (y : Option (List ℕ)) → length vs ≡ length os → or_else (part f os vs) y ≡ (if has os f then part f os vs else y)
part_or f [] vs y e = refl
part_or f (o ∷ os) [] y e = absurd (omega (arith, e))
part_or f (o ∷ os) (v ∷ vs) y e = by_bool (nat_eq o f)
    (λ here. ap (λ b. or_else (if b then Some v else part f os vs) y) here ∙ sym (ap (λ b. if b || has os f then (if b then Some v else part f os vs) else y) here))
    (λ off. ap (λ b. or_else (if b then Some v else part f os vs) y) off ∙ part_or f os vs y (omega (arith, e)) ∙ sym (ap (λ b. if b || has os f then (if b then Some v else part f os vs) else y) off))

part_there : (f : ℕ) (os : List ℕ) (vs : List (List ℕ)) (y : Option (List ℕ)) → length vs ≡ length os → has os f ≡ true → is_some (or_else (part f os vs) y) ≡ true
part_there f [] vs y e h = absurd cc
part_there f (o ∷ os) [] y e h = absurd (omega (arith, e))
part_there f (o ∷ os) (v ∷ vs) y e h = by_bool (nat_eq o f)
    (λ here. ap (λ b. is_some (or_else (if b then Some v else part f os vs) y)) here)
    (λ off. ap (λ b. is_some (or_else (if b then Some v else part f os vs) y)) off ∙ part_there f os vs y (omega (arith, e)) (subst (λ b. (b || has os f) ≡ true) off h))

-- a job that ran
ran : (apply : Apply) (jobs : List PlanJob) (j : ℕ) (job : PlanJob) (v w : ℕ → Option (List ℕ)) (ins : List (List ℕ)) → slice_get jobs j ≡ Some job → all_of (map v (file_numbers job.inputs)) ≡ Some ins → Places (made_by apply job ins) (file_numbers job.outputs) v w → RanJob apply jobs j v w
ran apply jobs j job v w ins is found places = record {
  made = ap is_some made_is;
  at = λ f.
      places.at f
      ∙ part_or f (file_numbers job.outputs) places.outs (v f) places.many
      ∙ sym (ap (λ o. if has (file_numbers job.outputs) f then option_and_then (part f (file_numbers job.outputs)) o else v f) made_is)
      ∙ sym (ap (λ os. if has os f then option_and_then (part f os) (made_of apply jobs j v) else v f) files);
  there = λ f h. ap is_some (places.at f) ∙ part_there f (file_numbers job.outputs) places.outs (v f) places.many (subst (λ os. has os f ≡ true) files h);
}
  where
    files : outputs jobs j ≡ file_numbers job.outputs
    files = job_outputs jobs j job is

    made_is : made_of apply jobs j v ≡ Some places.outs
    made_is = job_made apply jobs j job v is ∙ ap (option_and_then (made_by apply job)) found ∙ places.is

pub runs_job : (apply : Apply) (jobs : List PlanJob) (j : ℕ) (job : PlanJob) (v w : ℕ → Option (List ℕ)) (ins : List (List ℕ)) (before later : ℕ) (r : Result (Unit {0}) Cause) → slice_get jobs j ≡ Some job → all_of (map v (file_numbers job.inputs)) ≡ Some ins → RunsTool apply job j ins v w before later r → RunsJob apply jobs j v w before later r
runs_job apply jobs j job v w ins before later (Ok u) is found answer = ran apply jobs j job v w ins is found answer
runs_job apply jobs j job v w ins before later (Err c) is found answer = subst (λ o. IsToolCause o j before later c) (sym (job_made apply jobs j job v is ∙ ap (option_and_then (made_by apply job)) found)) answer

-- the jobs that are left
after_first : (apply : Apply) (jobs : List PlanJob) (j : JobId) (js : List JobId) (v : ℕ → Option (List ℕ)) → after_jobs apply jobs (j ∷ js) v ≡ after_jobs apply jobs js (after_job apply jobs j.0 v)
unfolding after_jobs
after_first apply jobs j js v = refl

after_none : (apply : Apply) (jobs : List PlanJob) (v : ℕ → Option (List ℕ)) → after_jobs apply jobs [] v ≡ v
unfolding after_jobs
after_none apply jobs v = refl

not_declined : (j : ℕ) (o : Option (List (List ℕ))) (later : Option ℕ) → is_some o ≡ true → next_declined j o later ≡ later
not_declined j None later h = absurd cc
not_declined j (Some x) later h = refl

pub declines_next : (apply : Apply) (jobs : List PlanJob) (left rest : List JobId) (j : JobId) (v w : ℕ → Option (List ℕ)) (all : Option ℕ) → left ≡ j ∷ rest → RanJob apply jobs j.0 v w → declined_among apply jobs left v ≡ all → declined_among apply jobs rest w ≡ all
declines_next apply jobs left rest j v w all cut job e =
    ap (declined_among apply jobs rest) (fun_ext job.at)
    ∙ sym (not_declined j.0 (made_of apply jobs j.0 v) (declined_among apply jobs rest (after_job apply jobs j.0 v)) job.made)
    ∙ sym (ap (λ l. declined_among apply jobs l v) cut)
    ∙ e

pub after_next : (apply : Apply) (jobs : List PlanJob) (left rest : List JobId) (j : JobId) (v w : ℕ → Option (List ℕ)) (f : ℕ) (all : Option (List ℕ)) → left ≡ j ∷ rest → RanJob apply jobs j.0 v w → after_jobs apply jobs left v f ≡ all → after_jobs apply jobs rest w f ≡ all
after_next apply jobs left rest j v w f all cut job e =
    ap (λ z. after_jobs apply jobs rest z f) (fun_ext job.at)
    ∙ sym (ap (λ (g : ℕ → Option (List ℕ)). g f) (after_first apply jobs j rest v))
    ∙ sym (ap (λ l. after_jobs apply jobs l v f) cut)
    ∙ e

keeps_there : (apply : Apply) (jobs : List PlanJob) (j : ℕ) (v w : ℕ → Option (List ℕ)) (f : ℕ) → RanJob apply jobs j v w → has (outputs jobs j) f ≡ false → w f ≡ v f
keeps_there apply jobs j v w f job off = job.at f ∙ ap (λ b. if b then option_and_then (part f (outputs jobs j)) (made_of apply jobs j v) else v f) off

pub there_next : (apply : Apply) (jobs : List PlanJob) (left rest : List JobId) (j : JobId) (v w : ℕ → Option (List ℕ)) (f : ℕ) → left ≡ j ∷ rest → RanJob apply jobs j.0 v w → (is_some (v f) || jobs_make jobs left f) ≡ true → (is_some (w f) || jobs_make jobs rest f) ≡ true
there_next apply jobs left rest j v w f cut job h = by_bool (has (outputs jobs j.0) f)
    (λ made_here. or_left (is_some (w f)) (jobs_make jobs rest f) (job.there f made_here))
    (λ off.
    ap (λ o. is_some o || jobs_make jobs rest f) (keeps_there apply jobs j.0 v w f job off)
    ∙ sym (ap (λ b. is_some (v f) || (b || jobs_make jobs rest f)) off)
    ∙ sym (ap (λ l. is_some (v f) || jobs_make jobs l f) cut)
    ∙ h)

-- all have run
no_more : (b : Bool) → (b || false) ≡ true → b ≡ true
no_more true h = refl
no_more false h = absurd cc

pub ran_all : (apply : Apply) (jobs : List PlanJob) (js left : List JobId) (v w : ℕ → Option (List ℕ)) → left ≡ [] → declined_among apply jobs left w ≡ declined_among apply jobs js v → ((f : ℕ) → after_jobs apply jobs left w f ≡ after_jobs apply jobs js v f) → ((f : ℕ) → jobs_make jobs js f ≡ true → (is_some (w f) || jobs_make jobs left f) ≡ true) → RanJobs apply jobs js v w
ran_all apply jobs js left v w none declines after_ there = record {
  none = sym declines ∙ ap (λ l. declined_among apply jobs l w) none;
  at = λ f. sym (ap (λ (g : ℕ → Option (List ℕ)). g f) (after_none apply jobs w)) ∙ sym (ap (λ l. after_jobs apply jobs l w f) none) ∙ after_ f;
  there = λ f h. no_more (is_some (w f)) (sym (ap (λ l. is_some (w f) || jobs_make jobs l f) none) ∙ there f h);
}

-- one that stopped
job_in : (js : List JobId) (k : ℕ) (d : JobId) → k < length js → has (job_numbers js) (get_or js k d).0 ≡ true
job_in [] k d h = absurd (omega (arith, h))
job_in (j ∷ js) zero d h = or_left (nat_eq j.0 j.0) (has (job_numbers js) j.0) (is_itself j.0)
job_in (j ∷ js) (suc k) d h = or_right (nat_eq j.0 (get_or js k d).0) (has (job_numbers js) (get_or js k d).0) (job_in js k d (omega (arith, h)))

declines_here : (apply : Apply) (jobs : List PlanJob) (left rest : List JobId) (j : JobId) (v : ℕ → Option (List ℕ)) (all : Option ℕ) → left ≡ j ∷ rest → made_of apply jobs j.0 v ≡ None → declined_among apply jobs left v ≡ all → all ≡ Some j.0
declines_here apply jobs left rest j v all cut none e =
    sym e
    ∙ ap (λ l. declined_among apply jobs l v) cut
    ∙ ap (λ o. next_declined j.0 o (declined_among apply jobs rest (after_job apply jobs j.0 v))) none

rose_from : (a b c : ℕ) → a ≤ b → Rose b c → Rose a c
rose_from a b c h r = omega (arith, h, r)

pub stops : (apply : Apply) (jobs : List PlanJob) (js left rest : List JobId) (k : ℕ) (d : JobId) (v at_start w w2 : ℕ → Option (List ℕ)) (first before later : ℕ) (c : Cause) → k < length js → left ≡ get_or js k d ∷ rest → first ≤ before → declined_among apply jobs left v ≡ declined_among apply jobs js at_start
    → RunsJob apply jobs (get_or js k d).0 v w before later (Err c) → RunsJobs apply jobs js at_start w2 first later (Err c)
stops apply jobs js left rest k d v at_start w w2 first before later why.Absent h cut le declines answer = absurd answer
stops apply jobs js left rest k d v at_start w w2 first before later (why.TooLong n) h cut le declines answer = absurd answer
stops apply jobs js left rest k d v at_start w w2 first before later (why.Checksum n) h cut le declines answer = absurd answer
stops apply jobs js left rest k d v at_start w w2 first before later (why.Oversize j f n) h cut le declines answer = absurd answer
stops apply jobs js left rest k d v at_start w w2 first before later (why.Declined j) h cut le declines answer =
    (declines_here apply jobs left rest (get_or js k d) v (declined_among apply jobs js at_start) cut answer.0 declines ∙ ap Some (sym answer.1), subst (λ n. has (job_numbers js) n ≡ true) (sym answer.1) (job_in js k d h))
stops apply jobs js left rest k d v at_start w w2 first before later (why.ToolFailed j) h cut le declines answer =
    (rose_from first before later le answer.0, subst (λ n. has (job_numbers js) n ≡ true) (sym answer.1) (job_in js k d h))
stops apply jobs js left rest k d v at_start w w2 first before later why.HostFailed h cut le declines answer = absurd answer
stops apply jobs js left rest k d v at_start w w2 first before later why.Memory h cut le declines answer = tt

pub next_job : (js : List JobId) (k : ℕ) (d : JobId) → k < length js → drop k js ≡ get_or js k d ∷ drop (k + 1) js
next_job js k d h =
    let e : suc k ≡ k + 1 = omega arith in
    drop-cons js k d h ∙ ap (λ n. get_or js k d ∷ drop n js) e

pub all_dropped : (js : List JobId) (k : ℕ) → length js ≤ k → drop k js ≡ []
all_dropped [] zero h = refl
all_dropped [] (suc k) h = refl
all_dropped (j ∷ js) zero h = absurd (omega (arith, h))
all_dropped (j ∷ js) (suc k) h = all_dropped js k (omega (arith, h))

pub makes_first : (jobs : List PlanJob) (js : List JobId) (b : Bool) (f : ℕ) → jobs_make jobs js f ≡ true → (b || jobs_make jobs js f) ≡ true
makes_first jobs js b f h = or_right b (jobs_make jobs js f) h

-- what a look-up found
pub found_some : (x : Option (List (List ℕ))) (o : Option (Vec (List ℕ) Global)) (v : Vec (List ℕ) Global) → IsFound x o → o ≡ Some v → x ≡ Some v.items
found_some x o v h e = subst (IsFound x) e h

pub found_none : (x : Option (List (List ℕ))) (o : Option (Vec (List ℕ) Global)) → IsFound x o → o ≡ None → x ≡ None
found_none x o h e = subst (IsFound x) e h
