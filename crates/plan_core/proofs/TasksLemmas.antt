-- A task passes the tests exactly where it is proper by itself.
use Rattle.std.proofs.Common.{◌≡◌, ℕ, zero, suc, ◌+◌, ◌<◌, ◌≤◌, Bool, true, false, not, cond, ◌&&◌, ◌||◌, List, [], ◌∷◌, ◌++◌, length, refl, sym, ap, ◌∙◌, nat_eq, arith, subst, ◌⊎◌, inl, inr}
use Rattle.std.specs.Prelude.{Option, Some, None, slice_get, is_some}
use Rattle.std.specs.Bool.{Decides}
use Rattle.std.specs.List.{list_any, list_all}
use Rattle.std.proofs.lemmas.Bool.{cases_lt}
use Rattle.std.proofs.lemmas.Option.{slice_get_past}
use Rattle.std.proofs.lemmas.List.Folds.{list_any-append}
use Rattle.values.specs.declared.numbers.JobId.{JobId}
use Rattle.plan_core.specs.declared.files.SiteFiles.{SiteFiles}
use Rattle.plan_core.specs.declared.plan.Plan.{Plan}
use Rattle.plan_core.specs.declared.plan.Pair.{Pair}
use Rattle.plan_core.specs.declared.plan.PlanJob.{PlanJob}
use Rattle.plan_core.specs.declared.plan.Task.{Task}
use Rattle.plan_core.specs.declared.plan.TaskKind.{TaskKind}
use Rattle.plan_core.specs.declared.plan.TaskKind.TheVariants.{Transfer, Run, Clean}
use Rattle.plan_core.specs.Numbers.{has, below}
use Rattle.plan_core.specs.Words.{inputs, outputs, reads_in, writes_in, declared}
use Rattle.plan_core.specs.Kinds.{jobs_make, kind_reads, kind_writes, on_pair}
use Rattle.plan_core.specs.code.Kinds.{kind_carries}
use Rattle.plan_core.specs.code.Proper.{IsTask, are_new, are_rising, is_sequence, is_sequence_kind}
use Rattle.plan_core.specs.code.Files.{AreFilesOf, are_pairs}
use Rattle.plan_core.specs.code.Tasks.{with_one, with_all, are_fresh, in_sequence, kind_in_sequence, have_sizes, are_jobs_sized, is_kind_sized, HasReads, HasWrites}
use Rattle.plan_core.proofs.TestLemmas.{both, and_both, or_left, or_right, same_number, is_itself, either}
use Rattle.plan_core.proofs.FilePairLemmas.{Passes, listing_is, listing_stands, listing_has}

turned : (f : ℕ) (known : List ℕ) → list_any (nat_eq f) known ≡ has known f
turned f [] = refl
turned f (x ∷ xs) = ap (λ (b : Bool). b || list_any (nat_eq f) xs) (flip f x) ∙ ap (λ (b : Bool). nat_eq x f || b) (turned f xs)
  where
    flip : (a b : ℕ) → nat_eq a b ≡ nat_eq b a
    flip a b = grind arith

or_assoc : (a b c : Bool) → ((a || b) || c) ≡ (a || (b || c))
or_assoc true b c = refl
or_assoc false b c = refl

or_no : (a : Bool) → (a || false) ≡ a
or_no true = refl
or_no false = refl

or_in : (a b : Bool) → a ≡ true → a ≡ (a || b)
or_in a b h = h ∙ sym (or_left a b h)

-- two lists of the same files
abbrev Same : List ℕ → List ℕ → Type 0
Same known seen = (x : ℕ) → has known x ≡ has seen x

one_more : (known : List ℕ) (f x : ℕ) → has (with_one known f) x ≡ (has known x || nat_eq f x)
one_more known f x = by (list_any (nat_eq f) known) refl
  where
    at : (b : Bool) → nat_eq f x ≡ b → has known f ≡ true → has known x ≡ (has known x || b)
    at true e k = or_in (has known x) true (ap (has known) (sym (same_number f x e)) ∙ k)
    at false e k = sym (or_no (has known x))

    by : (b : Bool) → list_any (nat_eq f) known ≡ b → has (cond b known (known ++ f ∷ [])) x ≡ (has known x || nat_eq f x)
    by true e = at (nat_eq f x) refl (sym (turned f known) ∙ e)
    by false e = list_any-append (λ y. nat_eq y x) known (f ∷ []) ∙ ap (λ (b : Bool). has known x || b) (or_no (nat_eq f x))

all_more : (fs known : List ℕ) (x : ℕ) → has (with_all known fs) x ≡ (has known x || has fs x)
all_more [] known x = sym (or_no (has known x))
all_more (f ∷ fs) known x = all_more fs (with_one known f) x ∙ ap (λ (b : Bool). b || has fs x) (one_more known f x) ∙ or_assoc (has known x) (nat_eq f x) (has fs x)

fresh_new : (fs known seen : List ℕ) → Same known seen → are_fresh known fs ≡ are_new seen fs
fresh_new [] known seen same = refl
fresh_new (f ∷ fs) known seen same =
    ap (λ (b : Bool). not b && are_fresh (known ++ f ∷ []) fs) (turned f known ∙ same f)
    ∙ ap (λ (b : Bool). not (has seen f) && b) (fresh_new fs (known ++ f ∷ []) (seen ++ f ∷ []) (λ x. list_any-append (λ y. nat_eq y x) known (f ∷ []) ∙ ap (λ (b : Bool). b || (nat_eq f x || false)) (same x) ∙ sym (list_any-append (λ y. nat_eq y x) seen (f ∷ []))))

sequence_same : (jobs : List PlanJob) (js : List JobId) (known seen : List ℕ) → Same known seen → in_sequence jobs known js ≡ is_sequence jobs seen js
sequence_same jobs [] known seen same = refl
sequence_same jobs (j ∷ js) known seen same =
    ap (λ (b : Bool). b && in_sequence jobs (with_all known (inputs jobs j.0) ++ outputs jobs j.0) js) (fresh_new (outputs jobs j.0) (with_all known (inputs jobs j.0)) (seen ++ inputs jobs j.0) first)
    ∙ ap (λ (b : Bool). are_new (seen ++ inputs jobs j.0) (outputs jobs j.0) && b) (sequence_same jobs js (with_all known (inputs jobs j.0) ++ outputs jobs j.0) (seen ++ inputs jobs j.0 ++ outputs jobs j.0) second)
  where
    first : Same (with_all known (inputs jobs j.0)) (seen ++ inputs jobs j.0)
    first x = all_more (inputs jobs j.0) known x ∙ ap (λ (b : Bool). b || has (inputs jobs j.0) x) (same x) ∙ sym (list_any-append (λ y. nat_eq y x) seen (inputs jobs j.0))

    second : Same (with_all known (inputs jobs j.0) ++ outputs jobs j.0) (seen ++ inputs jobs j.0 ++ outputs jobs j.0)
    second x =
        list_any-append (λ y. nat_eq y x) (with_all known (inputs jobs j.0)) (outputs jobs j.0)
        ∙ ap (λ (b : Bool). b || has (outputs jobs j.0) x) (first x)
        ∙ sym (list_any-append (λ y. nat_eq y x) (seen ++ inputs jobs j.0) (outputs jobs j.0))

pub sequence_is : (jobs : List PlanJob) (k : TaskKind) → kind_in_sequence jobs k ≡ is_sequence_kind jobs (Some k)
sequence_is jobs (Transfer f from to) = refl
sequence_is jobs (Run s js) = sequence_same jobs js [] [] (λ x. refl)
sequence_is jobs (Clean q) = refl

-- a test that all pass, at one of them, and back
pub all_at : (test : ℕ → Bool) (xs : List ℕ) → list_all test xs ≡ true → (x : ℕ) → has xs x ≡ true → test x ≡ true
all_at test [] h x k = absurd cc
all_at test (y ∷ ys) h x k = by (nat_eq y x) refl k (λ l. all_at test ys parts.1 x l)
  where
    parts : (test y ≡ true) × (list_all test ys ≡ true)
    parts = both (test y) (list_all test ys) h

    by : (b : Bool) → nat_eq y x ≡ b → (b || has ys x) ≡ true → (has ys x ≡ true → test x ≡ true) → test x ≡ true
    by true e l rest = ap test (sym (same_number y x e)) ∙ parts.0
    by false e l rest = rest l

pub at_all : (test : ℕ → Bool) (xs : List ℕ) → ((x : ℕ) → has xs x ≡ true → test x ≡ true) → list_all test xs ≡ true
at_all test [] h = refl
at_all test (y ∷ ys) h = and_both (test y) (list_all test ys) (h y (or_left (nat_eq y y) (has ys y) (is_itself y))) (at_all test ys (λ x k. h x (or_right (nat_eq y x) (has ys x) k)))

jobs_sized : (p : Plan) (js : List JobId) → are_jobs_sized p js ≡ true → (f : ℕ) → jobs_make p.jobs js f ≡ true → is_some (declared p f) ≡ true
jobs_sized p [] h f k = absurd cc
jobs_sized p (j ∷ js) h f k = by (either (has (outputs p.jobs j.0) f) (jobs_make p.jobs js f) k) (λ l. jobs_sized p js parts.1 f l)
  where
    parts : (have_sizes p (outputs p.jobs j.0) ≡ true) × (are_jobs_sized p js ≡ true)
    parts = both (have_sizes p (outputs p.jobs j.0)) (are_jobs_sized p js) h

    by : (has (outputs p.jobs j.0) f ≡ true) ⊎ (jobs_make p.jobs js f ≡ true) → (jobs_make p.jobs js f ≡ true → is_some (declared p f) ≡ true) → is_some (declared p f) ≡ true
    by (inl l) rest = all_at (λ g. is_some (declared p g)) (outputs p.jobs j.0) parts.0 f l
    by (inr l) rest = rest l

sized_jobs : (p : Plan) (js : List JobId) → ((f : ℕ) → jobs_make p.jobs js f ≡ true → is_some (declared p f) ≡ true) → are_jobs_sized p js ≡ true
sized_jobs p [] h = refl
sized_jobs p (j ∷ js) h = and_both (have_sizes p (outputs p.jobs j.0)) (are_jobs_sized p js)
    (at_all (λ g. is_some (declared p g)) (outputs p.jobs j.0) (λ x k. h x (or_left (has (outputs p.jobs j.0) x) (jobs_make p.jobs js x) k)))
    (sized_jobs p js (λ f k. h f (or_right (has (outputs p.jobs j.0) f) (jobs_make p.jobs js f) k)))

pub kind_sized : (p : Plan) (k : TaskKind) → is_kind_sized p k ≡ true → (f : ℕ) → kind_carries p.jobs (Some k) f ≡ true → is_some (declared p f) ≡ true
kind_sized p (Transfer g from to) h f e = ap (λ (n : ℕ). is_some (declared p n)) (sym (same_number g.0 f e)) ∙ h
kind_sized p (Run s js) h f e = jobs_sized p js h f e
kind_sized p (Clean q) h f e = absurd cc

pub sized_kind : (p : Plan) (k : TaskKind) → ((f : ℕ) → kind_carries p.jobs (Some k) f ≡ true → is_some (declared p f) ≡ true) → is_kind_sized p k ≡ true
sized_kind p (Transfer g from to) h = h g.0 (is_itself g.0)
sized_kind p (Run s js) h = sized_jobs p js h
sized_kind p (Clean q) h = refl

passes : (test : ℕ → ℕ → Bool) (found : SiteFiles) → AreFilesOf test found → Passes test found.site.0 found.files.items
passes test found is = record { rises = is.rises; same = is.same }

pub reads_decided : (p : Plan) (t : Task) (found : SiteFiles) (b : Bool) → are_rising p.pairs ≡ true → AreFilesOf (kind_reads p.jobs (Some t.kind)) found → b ≡ are_pairs p.pairs found.site.0 (reads_in (Some t)) found.files.items → Decides b (HasReads p (Some t))
reads_decided p t found b rise is e =
    let test = kind_reads p.jobs (Some t.kind) in (
      λ h. record {
        listed = listing_is p.pairs test found.site.0 (reads_in (Some t)) found.files.items rise (passes test found is) (sym e ∙ h);
        stand = listing_stands p.pairs test found.site.0 (reads_in (Some t)) found.files.items (passes test found is) (sym e ∙ h);
      },
      λ has_it. e ∙ listing_has p.pairs test found.site.0 (reads_in (Some t)) found.files.items rise (passes test found is) has_it.stand has_it.listed,
    )

pub writes_decided : (p : Plan) (t : Task) (found : SiteFiles) (b : Bool) → are_rising p.pairs ≡ true → AreFilesOf (kind_writes p.jobs (Some t.kind)) found → b ≡ are_pairs p.pairs found.site.0 (writes_in (Some t)) found.files.items → Decides b (HasWrites p (Some t))
writes_decided p t found b rise is e =
    let test = kind_writes p.jobs (Some t.kind) in (
      λ h. record {
        listed = listing_is p.pairs test found.site.0 (writes_in (Some t)) found.files.items rise (passes test found is) (sym e ∙ h);
        stand = listing_stands p.pairs test found.site.0 (writes_in (Some t)) found.files.items (passes test found is) (sym e ∙ h);
      },
      λ has_it. e ∙ listing_has p.pairs test found.site.0 (writes_in (Some t)) found.files.items rise (passes test found is) has_it.stand has_it.listed,
    )

pub task_decided : (p : Plan) (t : Task) (b r w s z : Bool) → Decides r (HasReads p (Some t)) → Decides w (HasWrites p (Some t)) → s ≡ kind_in_sequence p.jobs t.kind → z ≡ is_kind_sized p t.kind
    → b ≡ (r && (w && (s && z))) → Decides b (IsTask p (Some t))
task_decided p t b r w s z rd wd sd zd e = (to, from)
  where
    to : b ≡ true → IsTask p (Some t)
    to h =
        let x = both r (w && (s && z)) (sym e ∙ h) in let y = both w (s && z) x.1 in let v = both s z y.1 in
        record {
          reads = (rd.0 x.0).listed;
          writes = (wd.0 y.0).listed;
          read_stands = (rd.0 x.0).stand;
          written_stands = (wd.0 y.0).stand;
          sequence = sym (sequence_is p.jobs t.kind) ∙ sym sd ∙ v.0;
          sized = kind_sized p t.kind (sym zd ∙ v.1);
        }

    from : IsTask p (Some t) → b ≡ true
    from h = e ∙ and_both r (w && (s && z)) (rd.1 (record { listed = h.reads; stand = h.read_stands })) (and_both w (s && z) (wd.1 (record { listed = h.writes; stand = h.written_stands }))
        (and_both s z (sd ∙ sequence_is p.jobs t.kind ∙ h.sequence) (zd ∙ sized_kind p t.kind h.sized)))

-- where there is no task, nothing is read or written
none_below : (n : ℕ) (pairs : List Pair) → [] ≡ below n (λ q. on_pair (λ s f. false) (slice_get pairs q))
unfolding below
none_below zero pairs = refl
none_below (suc n) pairs = ap (λ (xs : List ℕ). xs ++ []) (none_below n pairs) ∙ ap (λ (b : Bool). below n (λ q. on_pair (λ s f. false) (slice_get pairs q)) ++ cond b (n ∷ []) []) (sym (off (slice_get pairs n)))
  where
    off : (o : Option Pair) → on_pair (λ s f. false) o ≡ false
    off None = refl
    off (Some q) = refl

no_task : (p : Plan) → IsTask p None
no_task p = record {
  reads = none_below (length p.pairs) p.pairs;
  writes = none_below (length p.pairs) p.pairs;
  read_stands = λ s f h. absurd cc;
  written_stands = λ s f h. absurd cc;
  sequence = refl;
  sized = λ f h. absurd cc;
}

pub all_tasks : (p : Plan) (i : ℕ) → length p.tasks ≤ i → ((t : ℕ) → t < i → IsTask p (slice_get p.tasks t)) → (t : ℕ) → IsTask p (slice_get p.tasks t)
all_tasks p i l so t = by (cases_lt t i)
  where
    by : (t < i) ⊎ (i ≤ t) → IsTask p (slice_get p.tasks t)
    by (inl k) = so t k
    by (inr k) = subst (IsTask p) (sym (slice_get_past p.tasks t (omega (arith, l, k)))) (no_task p)

pub one_task_more : (p : Plan) (i : ℕ) (x : Task) → slice_get p.tasks i ≡ Some x → IsTask p (Some x) → ((t : ℕ) → t < i → IsTask p (slice_get p.tasks t)) → (t : ℕ) → t < i + 1 → IsTask p (slice_get p.tasks t)
one_task_more p i x e is so t l = by (cases_lt t i)
  where
    by : (t < i) ⊎ (i ≤ t) → IsTask p (slice_get p.tasks t)
    by (inl k) = so t k
    by (inr k) = subst (IsTask p) (sym (ap (slice_get p.tasks) (let s : t ≡ i = omega arith in s) ∙ e)) is
