-- An output past its file's declared size: the first such pair, and a job that makes its file.
use Rattle.std.proofs.Common.{◌≡◌, ℕ, zero, suc, ◌+◌, ◌≤◌, ◌<◌, ◌||◌, inl, inr, Bool, true, false, List, [], ◌∷◌, map, length, take, drop, get_or, refl, sym, ap, ◌∙◌, subst, nat_eq, nat_lt, arith}
use Rattle.std.specs.Prelude.{Option, Some, None}
use Rattle.std.specs.List.{list_any}
use Rattle.values.specs.declared.numbers.FileId.{FileId}
use Rattle.values.specs.declared.numbers.JobId.{JobId}
use Rattle.values.specs.declared.numbers.PairId.{PairId}
use Rattle.plan_core.specs.declared.plan.Plan.{Plan}
use Rattle.plan_core.specs.declared.plan.PlanJob.{PlanJob}
use Rattle.plan_core.specs.declared.plan.TaskKind.{TaskKind}
use Rattle.plan_core.specs.declared.plan.TaskKind.TheVariants.{Transfer, Run, Clean as CleanTask}
use Rattle.plan_core.specs.code.Kinds.{kind_carries}
use Rattle.plan_core.specs.Kinds.{kind_writes, jobs_make, writes_file}
use Rattle.plan_core.specs.Numbers.{has}
use Rattle.plan_core.specs.Words.{count_pairs, file_numbers, is_run, is_run_kind, job_numbers, kind, outputs, pair_numbers, reads, writes}
use Rattle.plan_core.specs.code.Words.{is_pair}
use Rattle.plan_core.proofs.TestLemmas.{both, is_itself, or_left, or_right}
use Rattle.run_record.specs.declared.entry.Cause.TheVariants.{Oversize}
use Rattle.lease_rules.specs.Legal.{CauseFits, is_too_long}
use Rattle.lease_rules.specs.code.Storing.{pair_limit, AreWithin, IsFirstPast, IsOverlong}
use Rattle.plan_core.specs.Names.{pair_file, pair_site}
use Rattle.task_work.proofs.PairLemmas.{written_file}

same_id : (q : ℕ) (qs : List ℕ) → has (q ∷ qs) q ≡ true
same_id q qs = or_left (nat_eq q q) (has qs q) (is_itself q)

-- a file among some, by its number
any_map : {A B : Type 0} (test : B → Bool) (g : A → B) (xs : List A) → list_any test (map g xs) ≡ list_any (λ x. test (g x)) xs
any_map test g [] = refl
any_map test g (x ∷ xs) = ap (λ b. test (g x) || b) (any_map test g xs)

pub has_file : (xs : List FileId) (f : ℕ) → has (file_numbers xs) f ≡ list_any (λ (x : FileId). nat_eq x.0 f) xs
has_file xs f = any_map (λ y. nat_eq y f) (λ (x : FileId). x.0) xs

-- one output more within its declared size
within_more : (p : Plan) (qs : List PairId) (bs : List (List ℕ)) (k : ℕ) (x : PairId) (c : List ℕ) → k < length qs → k < length bs → AreWithin p (pair_numbers (take k qs)) (take k bs) → length (get_or bs k c) ≤ pair_limit p (get_or qs k x).0 → AreWithin p (pair_numbers (take (suc k) qs)) (take (suc k) bs)
within_more p [] bs k x c a b all small = absurd (omega (arith, a))
within_more p (q ∷ qs) [] k x c a b all small = absurd (omega (arith, b))
within_more p (q ∷ qs) (d ∷ bs) zero x c a b all small = (small, tt)
within_more p (q ∷ qs) (d ∷ bs) (suc k) x c a b all small = (all.0, within_more p qs bs k x c (omega (arith, a)) (omega (arith, b)) all.1 small)

next_is : (k : ℕ) → suc k ≡ k + 1
next_is k = omega arith

pub within_next : (p : Plan) (qs : List PairId) (bs : List (List ℕ)) (k : ℕ) (x : PairId) (c : List ℕ) → k < length qs → k < length bs → AreWithin p (pair_numbers (take k qs)) (take k bs) → length (get_or bs k c) ≤ pair_limit p (get_or qs k x).0 → AreWithin p (pair_numbers (take (k + 1) qs)) (take (k + 1) bs)
within_next p qs bs k x c a b all small = subst (λ n. AreWithin p (pair_numbers (take n qs)) (take n bs)) (next_is k) (within_more p qs bs k x c a b all small)

-- the first that is longer
pub past_at : (p : Plan) (qs : List PairId) (bs : List (List ℕ)) (k : ℕ) (x : PairId) (c : List ℕ) → k < length qs → k < length bs → AreWithin p (pair_numbers (take k qs)) (take k bs) → pair_limit p (get_or qs k x).0 < length (get_or bs k c) → IsFirstPast p (pair_numbers qs) bs (get_or qs k x).0 (length (get_or bs k c))
past_at p [] bs k x c a b all long = absurd (omega (arith, a))
past_at p (q ∷ qs) [] k x c a b all long = absurd (omega (arith, b))
past_at p (q ∷ qs) (d ∷ bs) zero x c a b all long = inl (long, refl, refl)
past_at p (q ∷ qs) (d ∷ bs) (suc k) x c a b all long = inr (all.0, past_at p qs bs k x c (omega (arith, a)) (omega (arith, b)) all.1 long)

-- the same of an element that was indexed, and its bytes
pub past_here : (p : Plan) (qs : List PairId) (bs : List (List ℕ)) (k : ℕ) (x : PairId) (c bytes : List ℕ) → k < length qs → k < length bs → AreWithin p (pair_numbers (take k qs)) (take k bs) → c ≡ get_or bs k c → bytes ≡ c → pair_limit p (get_or qs k x).0 < length bytes → IsFirstPast p (pair_numbers qs) bs (get_or qs k x).0 (length bytes)
past_here p qs bs k x c bytes a b all at is long =
    let same : get_or bs k c ≡ bytes = sym at ∙ sym is in
    subst (λ z. IsFirstPast p (pair_numbers qs) bs (get_or qs k x).0 (length z)) same (past_at p qs bs k x c a b all (subst (λ z. pair_limit p (get_or qs k x).0 < length z) (sym same) long))

pub within_here : (p : Plan) (qs : List PairId) (bs : List (List ℕ)) (k : ℕ) (x : PairId) (c bytes : List ℕ) → k < length qs → k < length bs → AreWithin p (pair_numbers (take k qs)) (take k bs) → c ≡ get_or bs k c → bytes ≡ c → length bytes ≤ pair_limit p (get_or qs k x).0 → AreWithin p (pair_numbers (take (k + 1) qs)) (take (k + 1) bs)
within_here p qs bs k x c bytes a b all at is small =
    within_next p qs bs k x c a b all (subst (λ z. length z ≤ pair_limit p (get_or qs k x).0) (is ∙ at) small)

-- a job among some
pub nth_job : (js : List JobId) (k : ℕ) (x : JobId) → k < length js → has (job_numbers js) (get_or js k x).0 ≡ true
nth_job [] k x h = absurd (omega (arith, h))
nth_job (j ∷ js) zero x h = same_id j.0 (job_numbers js)
nth_job (j ∷ js) (suc k) x h = or_right (nat_eq j.0 (get_or js k x).0) (has (job_numbers js) (get_or js k x).0) (nth_job js k x (omega (arith, h)))

drop_more : (jobs : List PlanJob) (js : List JobId) (f k : ℕ) (x : JobId) → k < length js → has (outputs jobs (get_or js k x).0) f ≡ false → jobs_make jobs (drop k js) f ≡ true → jobs_make jobs (drop (suc k) js) f ≡ true
drop_more jobs [] f k x h unmade h2 = absurd (omega (arith, h))
drop_more jobs (j ∷ js) f zero x h unmade h2 = subst (λ b. (b || jobs_make jobs js f) ≡ true) unmade h2
drop_more jobs (j ∷ js) f (suc k) x h unmade h2 = drop_more jobs js f k x (omega (arith, h)) unmade h2

pub drop_next : (jobs : List PlanJob) (js : List JobId) (f k : ℕ) (x : JobId) (b : Bool) → k < length js → b ≡ has (outputs jobs (get_or js k x).0) f → b ≡ false → jobs_make jobs (drop k js) f ≡ true → jobs_make jobs (drop (k + 1) js) f ≡ true
drop_next jobs js f k x b h is unmade h2 = subst (λ n. jobs_make jobs (drop n js) f ≡ true) (next_is k) (drop_more jobs js f k x h (sym is ∙ unmade) h2)

-- an output that is longer than declared
past_long : (p : Plan) (qs : List ℕ) (bs : List (List ℕ)) (x n : ℕ) → IsFirstPast p qs bs x n → pair_limit p x < n
past_long p [] bs x n h = absurd h
past_long p (q ∷ qs) [] x n h = absurd h
past_long p (q ∷ qs) (b ∷ bs) x n h = elim h [
  | inl here ↦ subst (λ z. pair_limit p x < z) here.2 (subst (λ z. pair_limit p z < length b) here.1 here.0)
  | inr later ↦ past_long p qs bs x n later.1
]

pub past_in : (p : Plan) (qs : List ℕ) (bs : List (List ℕ)) (x n : ℕ) → IsFirstPast p qs bs x n → has qs x ≡ true
past_in p [] bs x n h = absurd h
past_in p (q ∷ qs) [] x n h = absurd h
past_in p (q ∷ qs) (b ∷ bs) x n h = elim h [
  | inl here ↦ subst (λ z. has (q ∷ qs) z ≡ true) here.1 (same_id q qs)
  | inr later ↦ or_right (nat_eq q x) (has qs x) (past_in p qs bs x n later.1)
]

less_is : (a b : ℕ) → a < b → nat_lt a b ≡ true
less_is a b h = grind (arith, h)

pub over_fits : (p : Plan) (t : ℕ) (outs : List (List ℕ)) (j : JobId) (f : FileId) (n : ℕ) → IsOverlong p t outs j.0 f.0 n → CauseFits p t (Oversize j f n) []
over_fits p t outs j f n over =
    (over.job, over.made, subst (λ z. is_too_long p z n ≡ true) over.file (less_is (pair_limit p over.pair) n (past_long p (writes p t) outs over.pair n over.first)), refl)

-- the file of a pair that a Run writes is made by one of its jobs
run_carries : (jobs : List PlanJob) (k : Option TaskKind) (s f : ℕ) → is_run_kind k ≡ true → kind_writes jobs k s f ≡ true → kind_carries jobs k f ≡ true
run_carries jobs None s f run h = absurd cc
run_carries jobs (Some (Transfer g from to)) s f run h = absurd cc
run_carries jobs (Some (Run a js)) s f run h = (both (nat_eq a.0 s) (jobs_make jobs js f) h).1
run_carries jobs (Some (CleanTask q)) s f run h = absurd cc

pub past_carried : (p : Plan) → ((t q s f : ℕ) → is_pair p q s f ≡ true → has (writes p t) q ≡ writes_file p t s f) → ((t q : ℕ) → (has (reads p t) q || has (writes p t) q) ≡ true → q < count_pairs p) → (t : ℕ) (bs : List (List ℕ)) (x n : ℕ) → is_run p t ≡ true → IsFirstPast p (writes p t) bs x n → kind_carries p.jobs (kind p t) (pair_file p x) ≡ true
past_carried p listed in_range t bs x n run h = run_carries p.jobs (kind p t) (pair_site p x) (pair_file p x) run (written_file p listed in_range t x (past_in p (writes p t) bs x n h))
