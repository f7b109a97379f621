-- What was read is what the writers of the reads carry, and so what is computed of it is what the task carries.
use Rattle.std.proofs.Common.{◌≡◌, ℕ, suc, ◌<◌, ◌||◌, ◌&&◌, Bool, true, false, cond, nat_eq, List, [], ◌∷◌, map, refl, sym, ap, subst, ◌∙◌}
use Rattle.std.specs.Prelude.{Option, Some, None, if◌then◌else◌, slice_get, not}
use Rattle.std.specs.List.{list_any}
use Rattle.std.proofs.Math.Path.{fun_ext}
use Rattle.values.specs.Apply.{Apply, part}
use Rattle.values.specs.declared.numbers.JobId.{JobId}
use Rattle.values.specs.declared.numbers.SiteId.{SiteId}
use Rattle.plan_core.specs.declared.plan.Pair.{Pair}
use Rattle.plan_core.specs.declared.plan.Plan.{Plan}
use Rattle.plan_core.specs.declared.plan.PlanJob.{PlanJob}
use Rattle.plan_core.specs.declared.plan.TaskKind.{TaskKind}
use Rattle.plan_core.specs.declared.plan.TaskKind.TheVariants.{Transfer, Run, Clean as CleanTask}
use Rattle.plan_core.specs.Carried.{Bytes, after_jobs, carried, carried_by, read, stored}
use Rattle.plan_core.specs.code.Carried.{IsCarrying}
use Rattle.plan_core.specs.Kinds.{kind_reads, jobs_make, reads_file, jobs_use}
use Rattle.plan_core.specs.Numbers.{has}
use Rattle.plan_core.specs.code.Proper.{IsProper, stands}
use Rattle.plan_core.specs.Words.{count_pairs, is_run, is_run_kind, kind, pair, reads, writes}
use Rattle.plan_core.specs.code.Words.{is_pair, pair_at}
use Rattle.plan_core.proofs.TestLemmas.{both, by_bool, is_itself, or_left, or_right, same_number}
use Rattle.plan_core.specs.Names.{file_in, pair_file, pair_site, site_in}
use Rattle.plan_core.specs.code.Names.{content}
use Rattle.plan_core.specs.code.Declined.{declined_among, declined_in}
use Rattle.task_work.specs.Computing.{IsComputed, files_of, given, jobs_in}
use Rattle.task_work.proofs.PairLemmas.{pair_is, pair_with}

-- a pair by its site and its file
pair_names : (p : Plan) (q s f : ℕ) → is_pair p q s f ≡ true → (pair_site p q ≡ s) × (pair_file p q ≡ f)
unfolding is_pair pair_site pair_file pair
pair_names p q s f h = by (slice_get p.pairs q) h
  where
    by : (o : Option Pair) → pair_at o s f ≡ true → (site_in o ≡ s) × (file_in o ≡ f)
    by None k = absurd cc
    by (Some x) k = let parts = both (nat_eq x.site.0 s) (nat_eq x.file.0 f) k in (same_number x.site.0 s parts.0, same_number x.file.0 f parts.1)

any_place : {A : Type 0} (test : A → Bool) (xs : List A) → list_any test xs ≡ true → (i : ℕ) × (x : A) × (slice_get xs i ≡ Some x) × (test x ≡ true)
any_place test [] h = absurd cc
any_place test (x ∷ xs) h = by (test x) refl h (λ k. any_place test xs k)
  where
    by : (b : Bool) → test x ≡ b → (b || list_any test xs) ≡ true → (list_any test xs ≡ true → (i : ℕ) × (y : _) × (slice_get xs i ≡ Some y) × (test y ≡ true)) → (i : ℕ) × (y : _) × (slice_get (x ∷ xs) i ≡ Some y) × (test y ≡ true)
    by true e k rest = (0, x, refl, e)
    by false e k rest = let found = rest k in (suc found.0, found.1, found.2, found.3)

pair_of : (p : Plan) (s f : ℕ) → stands p s f ≡ true → (q : ℕ) × (is_pair p q s f ≡ true)
unfolding is_pair
pair_of p s f h = let found = any_place (λ (q : Pair). pair_at (Some q) s f) p.pairs h in (found.0, ap (λ (o : Option Pair). pair_at o s f) found.2 ∙ found.3)

-- a Run reads at its own site
run_site : (jobs : List PlanJob) (a : SiteId) (js : List JobId) (s f : ℕ) → kind_reads jobs (Some (Run a js)) s f ≡ true → a.0 ≡ s
run_site jobs a js s f h = same_number a.0 s (both (nat_eq a.0 s) (jobs_use jobs js f && not (jobs_make jobs js f)) h).0

stands_read : (p : Plan) → IsProper p → (t s f : ℕ) → reads_file p t s f ≡ true → stands p s f ≡ true
unfolding kind
stands_read p proper t s f h = (proper.tasks t).read_stands s f h

module _ (p : Plan) (proper : IsProper p) (listed : (t q s f : ℕ) → is_pair p q s f ≡ true → has (reads p t) q ≡ reads_file p t s f) (in_range : (t q : ℕ) → (has (reads p t) q || has (writes p t) q) ≡ true → q < count_pairs p) where
  read_file : (t q : ℕ) → has (reads p t) q ≡ true → reads_file p t (pair_site p q) (pair_file p q) ≡ true
  read_file t q h = sym (listed t q (pair_site p q) (pair_file p q) (pair_is p q (in_range t q (or_left (has (reads p t) q) (has (writes p t) q) h)))) ∙ h

  module _ (t : ℕ) (a : SiteId) (js : List JobId) (is : kind p t ≡ Some (Run a js)) where
    site_of : (q : ℕ) → has (reads p t) q ≡ true → pair_site p q ≡ a.0
    site_of q h = sym (run_site p.jobs a js (pair_site p q) (pair_file p q) (subst (λ k. kind_reads p.jobs k (pair_site p q) (pair_file p q) ≡ true) is (read_file t q h)))

    -- a file is read where one of the reads is its pair
    any_from : (f : ℕ) (qs : List ℕ) (q : ℕ) → has qs q ≡ true → pair_file p q ≡ f → has (files_of p qs) f ≡ true
    any_from f [] q h e = absurd cc
    any_from f (x ∷ qs) q h e = by_bool (nat_eq x q)
        (λ here. or_left (nat_eq (pair_file p x) f) _ (subst (λ z. nat_eq (pair_file p z) f ≡ true) (sym (same_number x q here)) (subst (λ z. nat_eq z f ≡ true) (sym e) (is_itself f))))
        (λ off. or_right (nat_eq (pair_file p x) f) _ (any_from f qs q (subst (λ b. (b || has qs q) ≡ true) off h) e))

    same_test : (x y : Bool) → (x ≡ true → y ≡ true) → (y ≡ true → x ≡ true) → x ≡ y
    same_test true y f g = sym (f refl)
    same_test false true f g = g refl
    same_test false false f g = refl

    is_read : (f : ℕ) → has (files_of p (reads p t)) f ≡ reads_file p t a.0 f
    is_read f = same_test _ _
        (λ h. let found = pair_with p f (reads p t) h in
        subst (λ s. reads_file p t s f ≡ true) (site_of found.0 found.1) (subst (λ g. reads_file p t (pair_site p found.0) g ≡ true) found.2 (read_file t found.0 found.1)))
        (λ h. let q = pair_of p a.0 f (stands_read p proper t a.0 f h) in
        any_from f (reads p t) q.0 (listed t q.0 a.0 f q.1 ∙ h) (pair_names p q.0 a.0 f q.1).1)

    -- the bytes of a file among those that were read
    part_read : (c : ℕ → ℕ → Option (List ℕ)) (f : ℕ) (qs : List ℕ) (bs : List (List ℕ)) → ((q : ℕ) → has qs q ≡ true → pair_site p q ≡ a.0) → map (content p c) qs ≡ map Some bs
        → part f (files_of p qs) bs ≡ cond (has (files_of p qs) f) (stored p c a.0 f) None
    part_read c f [] bs at e = refl
    part_read c f (q ∷ qs) [] at e = absurd cc
    part_read c f (q ∷ qs) (b ∷ bs) at e = by_bool (nat_eq (pair_file p q) f)
        (λ here.
        ap (λ (z : Bool). if z then Some b else part f (files_of p qs) bs) here
        ∙ sym head
        ∙ ap (λ s. stored p c s (pair_file p q)) (at q (or_left (nat_eq q q) (has qs q) (is_itself q)))
        ∙ ap (stored p c a.0) (same_number (pair_file p q) f here)
        ∙ sym (ap (λ (z : Bool). cond (z || has (files_of p qs) f) (stored p c a.0 f) None) here))
        (λ off.
        ap (λ (z : Bool). if z then Some b else part f (files_of p qs) bs) off
        ∙ part_read c f qs bs (λ x h. at x (or_right (nat_eq q x) (has qs x) h)) tail
        ∙ sym (ap (λ (z : Bool). cond (z || has (files_of p qs) f) (stored p c a.0 f) None) off))
      where
        head : content p c q ≡ Some b
        head = cc

        tail : map (content p c) qs ≡ map Some bs
        tail = cc

    given_is : (c : ℕ → ℕ → Option (List ℕ)) (blobs : List (List ℕ)) → map (content p c) (reads p t) ≡ map Some blobs → (f : ℕ) → given p t blobs f ≡ read p c t a.0 f
    given_is c blobs e f = part_read c f (reads p t) blobs (λ q h. site_of q h) e ∙ ap (λ (z : Bool). cond z (stored p c a.0 f) None) (is_read f)

    run_computed : (apply : Apply) (told : Bytes → Option Bytes) (c : ℕ → ℕ → Option (List ℕ)) (blobs : List (List ℕ)) → IsCarrying apply told p c → map (content p c) (reads p t) ≡ map Some blobs → IsComputed apply p c t blobs
    run_computed apply told c blobs carrying e = record {
      carries = λ f.
          carrying t f
          ∙ ap (λ k. carried_by apply told p.jobs (read p c t) k f) is
          ∙ ap (λ v. after_jobs apply p.jobs js v f) (sym (fun_ext (given_is c blobs e)))
          ∙ ap (λ k. after_jobs apply p.jobs (jobs_in k) (given p t blobs) f) (sym is);
      declines =
          ap (λ k. declined_in apply p (λ s f. read p c t s f) k) is
          ∙ ap (λ v. declined_in apply p (λ s f. v f) (Some (Run a js))) (sym (fun_ext (given_is c blobs e)))
          ∙ ap (λ k. declined_among apply p.jobs (jobs_in k) (given p t blobs)) (sym is);
    }

  kind_is : (k : Option TaskKind) → is_run_kind k ≡ true → (a : SiteId) × (js : List JobId) × (k ≡ Some (Run a js))
  kind_is None h = absurd cc
  kind_is (Some (Transfer f from to)) h = absurd cc
  kind_is (Some (Run a js)) h = (a, js, refl)
  kind_is (Some (CleanTask q)) h = absurd cc

  pub is_computed : (apply : Apply) (told : Bytes → Option Bytes) (t : ℕ) (blobs : List (List ℕ)) → IsCarrying apply told p (carried apply told p) → is_run p t ≡ true → map (content p (carried apply told p)) (reads p t) ≡ map Some blobs → IsComputed apply p (carried apply told p) t blobs
  is_computed apply told t blobs carrying run e =
      let found = kind_is (kind p t) run in
      run_computed t found.0 found.1 found.2 apply told (carried apply told p) blobs carrying e
