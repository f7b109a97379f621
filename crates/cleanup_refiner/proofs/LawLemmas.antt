-- A proper plan with Cleans is proper, and its tasks carry the same.
use Rattle.std.proofs.Common.{◌≡◌, ℕ, zero, suc, ◌+◌, ◌<◌, ◌≤◌, ◌^◌, Bool, true, false, cond, ◌||◌, ◌&&◌, nat_eq, nat_lt, List, [], ◌∷◌, ◌++◌, map, refl, sym, ap, subst, ◌∙◌, arith, ◌⊎◌, inl, inr}
use Rattle.std.specs.Prelude.{Option, Some, None, slice_get, option_and_then}
use Rattle.std.specs.List.{list_all, list_any}
use Rattle.std.proofs.lemmas.Bool.{cases_lt, eqb-true}
use Rattle.std.proofs.Math.Bool.{or-true}
use Rattle.std.proofs.lemmas.Option.{slice_get_past}
use Rattle.values.specs.Apply.{Apply}
use Rattle.digraph.specs.Cycle.{Returns}
use Rattle.digraph.specs.Distances.{Walk}
use Rattle.plan_core.specs.declared.plan.Plan.{Plan}
use Rattle.plan_core.specs.declared.plan.Pair.{Pair}
use Rattle.plan_core.specs.declared.plan.Task.{Task}
use Rattle.plan_core.specs.declared.plan.TaskKind.{TaskKind}
use Rattle.plan_core.specs.declared.plan.TaskKind.TheVariants.{Transfer, Run, Clean}
use Rattle.plan_core.specs.Carried.{Bytes, carried, carried_by, read, stored, writer}
use Rattle.plan_core.specs.code.Carried.{IsCarrying}
use Rattle.plan_core.specs.code.Grounded.{Grounded, ground}
use Rattle.plan_core.specs.code.Kinds.{carries, kind_carries}
use Rattle.plan_core.specs.Kinds.{kind_reads, kind_writes, on_pair, reads_file, writes_file, waits_for}
use Rattle.plan_core.specs.Numbers.{below, has}
use Rattle.plan_core.specs.code.Proper.{AreParents, HasFlow, HasTables, IsInRange, IsProper, IsTask, is_kind_in_range, is_parent}
use Rattle.plan_core.specs.Words.{cleans, count_pairs, count_tasks, declared, delivers, is_clean, is_clean_kind, is_run, is_run_kind, kind, kind_cleans, kind_delivers, kind_in, pair_numbers, parents}
use Rattle.cleanup_refiner.specs.code.Cleans.{HasNoClean}
use Rattle.cleanup_refiner.specs.Cleans.{clean_of, cleans_of, touches, with_cleans}
use Rattle.cleanup_refiner.proofs.NumbersLemmas.{below_has, has_below, least_beyond, same_least}
use Rattle.cleanup_refiner.proofs.CleanTaskLemmas.{Standing, Old, New, Past, clean_parents, clean_waits, listed_is, longer, many_tasks, nothing_below, old_kind, old_parents, old_waits, old_writes, past_parents, past_waits, standing, waits_for_old, writer_is_old}

-- ---- each task by itself

same_task : (p : Plan) (o : Option Task) → IsTask p o → IsTask (with_cleans p) o
unfolding declared
same_task p o h = record { reads = h.reads; writes = h.writes; read_stands = h.read_stands; written_stands = h.written_stands; sequence = h.sequence; sized = h.sized }

on_nothing : (o : Option Pair) → on_pair (λ s f. false) o ≡ false
on_nothing None = refl
on_nothing (Some q) = refl

clean_task : (p : Plan) (n : ℕ) → IsTask (with_cleans p) (Some (clean_of p n))
clean_task p n = record {
  reads = sym (nothing_below (count_pairs p) _ (λ q. on_nothing (slice_get p.pairs q)));
  writes = sym (nothing_below (count_pairs p) _ (λ q. on_nothing (slice_get p.pairs q)));
  read_stands = λ s f h. absurd cc;
  written_stands = λ s f h. absurd cc;
  sequence = refl;
  sized = λ f h. absurd cc;
}

no_task_here : (p : Plan) → IsTask (with_cleans p) None
no_task_here p = record {
  reads = sym (nothing_below (count_pairs p) _ (λ q. on_nothing (slice_get p.pairs q)));
  writes = sym (nothing_below (count_pairs p) _ (λ q. on_nothing (slice_get p.pairs q)));
  read_stands = λ s f h. absurd cc;
  written_stands = λ s f h. absurd cc;
  sequence = refl;
  sized = λ f h. absurd cc;
}

are_tasks : (p : Plan) → IsProper p → (t : ℕ) → IsTask (with_cleans p) (slice_get (with_cleans p).tasks t)
are_tasks p proper t = by (standing p t)
  where
    by : Standing p t → IsTask (with_cleans p) (slice_get (with_cleans p).tasks t)
    by (Old l e) = subst (IsTask (with_cleans p)) (sym e) (same_task p (slice_get p.tasks t) (proper.tasks t))
    by (New n m i e) = subst (IsTask (with_cleans p)) (sym e) (clean_task p n)
    by (Past l e) = subst (IsTask (with_cleans p)) (sym e) (no_task_here p)

-- ---- tables

all_append : {A : Type 0} (f : A → Bool) (xs ys : List A) → list_all f xs ≡ true → list_all f ys ≡ true → list_all f (xs ++ ys) ≡ true
all_append f [] ys h k = k
all_append f (x ∷ xs) ys h k = by (f x) h (λ r. all_append f xs ys r k)
  where
    by : (b : Bool) → (b && list_all f xs) ≡ true → (list_all f xs ≡ true → list_all f (xs ++ ys) ≡ true) → (b && list_all f (xs ++ ys)) ≡ true
    by true h rest = rest h
    by false h rest = absurd cc

cleans_in_range : (p : Plan) (ns : List ℕ) → ((n : ℕ) → has ns n ≡ true → n < count_pairs p) → list_all (λ (t : Task). is_kind_in_range (with_cleans p) t.kind) (map (clean_of p) ns) ≡ true
cleans_in_range p [] low = refl
cleans_in_range p (n ∷ ns) low =
    let here : n < count_pairs p = low n (ap (λ (b : Bool). b || has ns n) (let s : nat_eq n n ≡ true = grind arith in s)) in
    let test : nat_lt n (count_pairs p) ≡ true = grind arith in
    ap (λ (b : Bool). b && list_all (λ (t : Task). is_kind_in_range (with_cleans p) t.kind) (map (clean_of p) ns)) test
    ∙ cleans_in_range p ns (λ m h. low m (ap (λ (b : Bool). nat_eq n m || b) h ∙ or-true (nat_eq n m)))

in_range : (p : Plan) → IsProper p → count_tasks p + count_pairs p < 2 ^ 32 → IsInRange (with_cleans p)
in_range p proper few = record {
  few_sites = proper.tables.in_range.few_sites;
  few_files = proper.tables.in_range.few_files;
  few_jobs = proper.tables.in_range.few_jobs;
  few_pairs = proper.tables.in_range.few_pairs;
  few_tasks = subst (λ n. n < 2 ^ 32) (sym (many_tasks p)) few;
  pairs = proper.tables.in_range.pairs;
  jobs = proper.tables.in_range.jobs;
  kinds = all_append (λ (t : Task). is_kind_in_range (with_cleans p) t.kind) p.tasks (cleans_of p) proper.tables.in_range.kinds (cleans_in_range p (below (count_pairs p) (λ n. true)) (λ n h. (below_has (count_pairs p) (λ x. true) n h).0));
}

has_tables : (p : Plan) → IsProper p → count_tasks p + count_pairs p < 2 ^ 32 → HasTables (with_cleans p)
has_tables p proper few = record {
  in_range = in_range p proper few;
  site_names = proper.tables.site_names;
  file_names = proper.tables.file_names;
  pairs_rise = proper.tables.pairs_rise;
}

-- ---- the tasks among each other

any_left : {A : Type 0} (f : A → Bool) (xs ys : List A) → list_any f xs ≡ true → list_any f (xs ++ ys) ≡ true
any_left f [] ys h = absurd cc
any_left f (x ∷ xs) ys h = by (f x) h (λ r. any_left f xs ys r)
  where
    by : (b : Bool) → (b || list_any f xs) ≡ true → (list_any f xs ≡ true → list_any f (xs ++ ys) ≡ true) → (b || list_any f (xs ++ ys)) ≡ true
    by true h rest = refl
    by false h rest = rest h

kind_is : (p : Plan) (t : ℕ) (o : Option Task) → slice_get (with_cleans p).tasks t ≡ o → kind (with_cleans p) t ≡ kind_in o
unfolding kind
kind_is p t o e = ap kind_in e

cleans_one : (o : Option TaskKind) (q : ℕ) → kind_cleans o q ≡ true → is_clean_kind o ≡ true
cleans_one None q h = absurd cc
cleans_one (Some (Transfer g from to)) q h = absurd cc
cleans_one (Some (Run s js)) q h = absurd cc
cleans_one (Some (Clean c)) q h = refl

-- the Clean of a pair stands at the pair's number after the old tasks
clean_at : (p : Plan) → HasNoClean p → (t q : ℕ) → cleans (with_cleans p) t q ≡ true → t ≡ count_tasks p + q
clean_at p none t q h = by (standing p t)
  where
    by : Standing p t → t ≡ count_tasks p + q
    by (Old l e) = absurd (let c : is_clean p t ≡ true = cleans_one (kind p t) q (ap (λ (o : Option TaskKind). kind_cleans o q) (sym (old_kind p t l)) ∙ h) in let x : false ≡ true = sym (none t) ∙ c in cc)
    by (New n m i e) =
        let test : nat_eq n q ≡ true = ap (λ (o : Option TaskKind). kind_cleans o q) (sym (kind_is p t (Some (clean_of p n)) e)) ∙ h in
        i ∙ ap (λ (k : ℕ). count_tasks p + k) (eqb-true n q test)
    by (Past l e) = absurd (let x : false ≡ true = ap (λ (o : Option TaskKind). kind_cleans o q) (sym (kind_is p t None e)) ∙ h in cc)

delivery_is_old : (p : Plan) (t f : ℕ) → delivers (with_cleans p) t f ≡ true → (t < count_tasks p) × (delivers p t f ≡ true)
delivery_is_old p t f h = by (standing p t)
  where
    by : Standing p t → (t < count_tasks p) × (delivers p t f ≡ true)
    by (Old l e) = (l, ap (λ (o : Option TaskKind). kind_delivers o f) (sym (old_kind p t l)) ∙ h)
    by (New n m i e) = absurd (let x : false ≡ true = ap (λ (o : Option TaskKind). kind_delivers o f) (sym (kind_is p t (Some (clean_of p n)) e)) ∙ h in cc)
    by (Past l e) = absurd (let x : false ≡ true = ap (λ (o : Option TaskKind). kind_delivers o f) (sym (kind_is p t None e)) ∙ h in cc)

low_parent : (p : Plan) → IsProper p → (s t : ℕ) → is_parent p s t ≡ true → s < count_tasks p
low_parent p proper s t h = (below_has (count_tasks p) (has (parents p t)) s (ap (λ xs. has xs s) (sym (proper.flow.parents t).listed) ∙ h)).0

enough : (p : Plan) → count_tasks p ≤ count_tasks (with_cleans p)
enough p = let many = many_tasks p in omega (arith, many)

old_are : (p : Plan) → IsProper p → (t : ℕ) → t < count_tasks p → AreParents (with_cleans p) t
old_are p proper t l = record {
  listed = same ∙ longer (count_tasks p) (count_tasks (with_cleans p)) (parents p t) (enough p) (proper.flow.parents t).listed ∙ ap (λ (xs : List ℕ). below (count_tasks (with_cleans p)) (has xs)) (sym same);
  needed = λ u h. let m = waits_for_old p t u h in ap (λ (xs : List ℕ). has xs u) same ∙ (proper.flow.parents t).needed u (sym (old_waits p t u l m) ∙ h);
  allowed = λ u h. let k = ap (λ (xs : List ℕ). has xs u) (sym same) ∙ h in let m = low_parent p proper u t k in
      ap (λ (b : Bool). b || (is_run (with_cleans p) t && is_run (with_cleans p) u)) (old_waits p t u l m)
      ∙ ap (λ (o : Option TaskKind). waits_for p t u || (is_run_kind o && is_run (with_cleans p) u)) (old_kind p t l)
      ∙ ap (λ (o : Option TaskKind). waits_for p t u || (is_run p t && is_run_kind o)) (old_kind p u m)
      ∙ (proper.flow.parents t).allowed u k;
}
  where
    same : parents (with_cleans p) t ≡ parents p t
    same = old_parents p t l

new_are : (p : Plan) (t n : ℕ) → slice_get (with_cleans p).tasks t ≡ Some (clean_of p n) → AreParents (with_cleans p) t
new_are p t n e = record {
  listed = same ∙ longer (count_tasks p) (count_tasks (with_cleans p)) (below (count_tasks p) (touches p n)) (enough p) (listed_is (count_tasks p) (touches p n) (below (count_tasks p) (touches p n)) refl) ∙ ap (λ (xs : List ℕ). below (count_tasks (with_cleans p)) (has xs)) (sym same);
  needed = λ u h. let m = waits_for_old p t u h in ap (λ (xs : List ℕ). has xs u) same ∙ has_below (count_tasks p) (touches p n) u m (sym (clean_waits p t u n e m) ∙ h);
  allowed = λ u h. let k = below_has (count_tasks p) (touches p n) u (ap (λ (xs : List ℕ). has xs u) (sym same) ∙ h) in
      ap (λ (b : Bool). b || (is_run (with_cleans p) t && is_run (with_cleans p) u)) (clean_waits p t u n e k.0 ∙ k.1);
}
  where
    same : parents (with_cleans p) t ≡ below (count_tasks p) (touches p n)
    same = clean_parents p t n e

past_are : (p : Plan) (t : ℕ) → slice_get (with_cleans p).tasks t ≡ None → AreParents (with_cleans p) t
past_are p t e = record {
  listed = none ∙ sym (nothing_below (count_tasks (with_cleans p)) (has (parents (with_cleans p) t)) (λ u. ap (λ (xs : List ℕ). has xs u) none));
  needed = λ u h. absurd (let x : false ≡ true = sym (past_waits p t u e) ∙ h in cc);
  allowed = λ u h. absurd (let x : false ≡ true = sym (ap (λ (xs : List ℕ). has xs u) none) ∙ h in cc);
}
  where
    none : parents (with_cleans p) t ≡ []
    none = past_parents p t e

are_parents : (p : Plan) → IsProper p → (t : ℕ) → AreParents (with_cleans p) t
are_parents p proper t = by (standing p t)
  where
    by : Standing p t → AreParents (with_cleans p) t
    by (Old l e) = old_are p proper t l
    by (New n m i e) = new_are p t n e
    by (Past l e) = past_are p t e

-- ---- no way back

old_grounded : (p : Plan) → IsProper p → (t : ℕ) → t < count_tasks p → Grounded (is_parent p) t → Grounded (is_parent (with_cleans p)) t
old_grounded p proper t l (ground a back) = ground a (λ u h. let k = ap (λ (xs : List ℕ). has xs u) (sym (old_parents p a l)) ∙ h in old_grounded p proper u (low_parent p proper u a k) (back u k))

all_grounded : (p : Plan) → IsProper p → ((t : ℕ) → Grounded (is_parent p) t) → (t : ℕ) → Grounded (is_parent (with_cleans p)) t
all_grounded p proper ways t = by (standing p t)
  where
    by : Standing p t → Grounded (is_parent (with_cleans p)) t
    by (Old l e) = old_grounded p proper t l (ways t)
    by (New n m i e) = ground t (λ u h. let k = below_has (count_tasks p) (touches p n) u (ap (λ (xs : List ℕ). has xs u) (sym (clean_parents p t n e)) ∙ h) in old_grounded p proper u k.0 (ways u))
    by (Past l e) = ground t (λ u h. absurd (let x : false ≡ true = sym (ap (λ (xs : List ℕ). has xs u) (past_parents p t e)) ∙ h in cc))

-- the last edge of a way first: the way turned by one place
turned : (e : ℕ → ℕ → Bool) (n a b : ℕ) → Walk e (suc n) a b → (s : ℕ) × (e s b ≡ true) × Walk e n a s
turned e zero a b way = (a, ap (λ x. e a x) (sym way.2) ∙ way.1, refl)
turned e (suc n) a b way = let found = turned e n way.0 b way.2 in (found.0, found.1, (way.0, way.1, found.2))

around : (e : ℕ → ℕ → Bool) (n a b : ℕ) → Walk e n b a → e a b ≡ true → Returns e a
around e n a b way h = (n, (b, h, way))

-- one returns to nowhere that is grounded
never_returns : (e : ℕ → ℕ → Bool) (t : ℕ) → Grounded e t → Returns e t → ⊥
never_returns e t (ground u back) r = let last = turned e r.0 u u r.1 in never_returns e last.0 (back last.0 last.1) (around e r.0 last.0 u last.2 last.1)

-- ---- proper

abbrev pub WaysEnd : Type 0
WaysEnd = (p : Plan) → IsProper p → (t : ℕ) → Grounded (is_parent p) t

has_flow : WaysEnd → (p : Plan) → IsProper p → HasNoClean p → HasFlow (with_cleans p)
has_flow ways p proper none = record {
  written = λ q l. any_left (λ (t : Task). has (pair_numbers t.writes) q) p.tasks (cleans_of p) (proper.flow.written q l);
  one_writer = λ t u q h k.
      let l = writer_is_old p t q h in let m = writer_is_old p u q k in
      proper.flow.one_writer t u q (ap (λ (xs : List ℕ). has xs q) (sym (old_writes p t l)) ∙ h) (ap (λ (xs : List ℕ). has xs q) (sym (old_writes p u m)) ∙ k);
  one_clean = λ t u q h k. clean_at p none t q h ∙ sym (clean_at p none u q k);
  one_delivery = λ t u f h k. proper.flow.one_delivery t u f (delivery_is_old p t f h).1 (delivery_is_old p u f k).1;
  parents = are_parents p proper;
  acyclic = λ t r. never_returns (is_parent (with_cleans p)) t (all_grounded p proper (ways p proper) t) r;
}

pub cleaned_is_proper : WaysEnd → (p : Plan) → IsProper p → HasNoClean p → count_tasks p + count_pairs p < 2 ^ 32 → IsProper (with_cleans p)
cleaned_is_proper ways p proper none few = record { tables = has_tables p proper few; tasks = are_tasks p proper; flow = has_flow ways p proper none }

-- ---- what the tasks carry

abbrev pub CarriedAlong : Type 0
CarriedAlong = (apply : Apply) (told : Bytes → Option Bytes) (p : Plan) → IsProper p → IsCarrying apply told p (carried apply told p)

abbrev pub CarriedAlone : Type 0
CarriedAlone = (apply : Apply) (told : Bytes → Option Bytes) (p : Plan) (c : ℕ → ℕ → Option Bytes) → IsProper p → IsCarrying apply told p c → (t f : ℕ) → c t f ≡ carried apply told p t f

new_writes_no_file : (p : Plan) (t s f : ℕ) → count_tasks p ≤ t → writes_file (with_cleans p) t s f ≡ false
new_writes_no_file p t s f l = by (standing p t)
  where
    by : Standing p t → writes_file (with_cleans p) t s f ≡ false
    by (Old m e) = absurd (omega arith)
    by (New n m i e) = ap (λ (o : Option TaskKind). kind_writes p.jobs o s f) (kind_is p t (Some (clean_of p n)) e)
    by (Past m e) = ap (λ (o : Option TaskKind). kind_writes p.jobs o s f) (kind_is p t None e)

same_writer : (p : Plan) (s f : ℕ) → writer (with_cleans p) s f ≡ writer p s f
unfolding writer
same_writer p s f =
    least_beyond (count_tasks p) (count_tasks (with_cleans p)) (λ t. writes_file (with_cleans p) t s f) (enough p) (λ t l. new_writes_no_file p t s f l)
    ∙ same_least (count_tasks p) (λ t. writes_file (with_cleans p) t s f) (λ t. writes_file p t s f) (λ t l. ap (λ (o : Option TaskKind). kind_writes p.jobs o s f) (old_kind p t l))

same_read : (p : Plan) (c : ℕ → ℕ → Option Bytes) (t : ℕ) → t < count_tasks p → read (with_cleans p) c t ≡ read p c t
same_read p c t l = λ i s g. whole s g i
  where
    whole : (s g : ℕ) → read (with_cleans p) c t s g ≡ read p c t s g
    whole s g =
        ap (λ (o : Option TaskKind). cond (kind_reads p.jobs o s g) (stored (with_cleans p) c s g) None) (old_kind p t l)
        ∙ ap (λ (o : Option ℕ). cond (reads_file p t s g) (option_and_then (λ u. c u g) o) None) (same_writer p s g)

no_kind : (p : Plan) (t : ℕ) → count_tasks p ≤ t → kind p t ≡ None
unfolding kind
no_kind p t l = ap kind_in (slice_get_past p.tasks t l)

carries_same : CarriedAlong → (apply : Apply) (told : Bytes → Option Bytes) (p : Plan) → IsProper (with_cleans p) → IsCarrying apply told p (carried apply told (with_cleans p))
carries_same along apply told p proper t f = by (standing p t)
  where
    c : ℕ → ℕ → Option Bytes
    c = carried apply told (with_cleans p)

    nothing : (o : Option TaskKind) → kind (with_cleans p) t ≡ o → count_tasks p ≤ t → carried_by apply told p.jobs (read (with_cleans p) c t) o f ≡ None → c t f ≡ carried_by apply told p.jobs (read p c t) (kind p t) f
    nothing o e l none =
        along apply told (with_cleans p) proper t f
        ∙ ap (λ (k : Option TaskKind). carried_by apply told p.jobs (read (with_cleans p) c t) k f) e
        ∙ none
        ∙ sym (ap (λ (k : Option TaskKind). carried_by apply told p.jobs (read p c t) k f) (no_kind p t l))

    by : Standing p t → c t f ≡ carried_by apply told p.jobs (read p c t) (kind p t) f
    by (Old l e) =
        along apply told (with_cleans p) proper t f
        ∙ ap (λ (at : ℕ → ℕ → Option Bytes). carried_by apply told p.jobs at (kind (with_cleans p) t) f) (same_read p c t l)
        ∙ ap (λ (k : Option TaskKind). carried_by apply told p.jobs (read p c t) k f) (old_kind p t l)
    by (New n m i e) = nothing (Some (clean_of p n).kind) (kind_is p t (Some (clean_of p n)) e) (omega (arith, i)) refl
    by (Past l e) = nothing None (kind_is p t None e) (let more = enough p in omega (arith, l, more)) refl

pub cleaned_carries_the_same : WaysEnd → CarriedAlong → CarriedAlone → (apply : Apply) (told : Bytes → Option Bytes) (p : Plan) → IsProper p → HasNoClean p → count_tasks p + count_pairs p < 2 ^ 32
    → (t f : ℕ) → t < count_tasks p → carried apply told (with_cleans p) t f ≡ carried apply told p t f
cleaned_carries_the_same ways along alone apply told p proper none few t f l =
    alone apply told p (carried apply told (with_cleans p)) proper (carries_same along apply told p (cleaned_is_proper ways p proper none few)) t f

pub cleans_nothing : (p : Plan) (t f : ℕ) → count_tasks p ≤ t → carries (with_cleans p) t f ≡ false
cleans_nothing p t f l = by (standing p t)
  where
    none : (o : Option TaskKind) → kind (with_cleans p) t ≡ o → kind_carries p.jobs o f ≡ false → carries (with_cleans p) t f ≡ false
    none o e h = ap (λ (k : Option TaskKind). kind_carries p.jobs k f) e ∙ h

    by : Standing p t → carries (with_cleans p) t f ≡ false
    by (Old m e) = absurd (omega (arith, l, m))
    by (New n m i e) = none (Some (clean_of p n).kind) (kind_is p t (Some (clean_of p n)) e) refl
    by (Past m e) = none None (kind_is p t None e) refl

-- what holds of what a plan's tasks carry holds with Cleans
pub cleaned_means : ((apply : Apply) (told : Bytes → Option Bytes) (p : Plan) → IsProper p → HasNoClean p → count_tasks p + count_pairs p < 2 ^ 32 → (t f : ℕ) → t < count_tasks p → carried apply told (with_cleans p) t f ≡ carried apply told p t f)
    → ((p : Plan) (t f : ℕ) → count_tasks p ≤ t → carries (with_cleans p) t f ≡ false)
    → (apply : Apply) (told : Bytes → Option Bytes) (value : ℕ → Option Bytes) (p : Plan) → IsProper p → HasNoClean p → count_tasks p + count_pairs p < 2 ^ 32
    → ((t f : ℕ) → carries p t f ≡ true → carried apply told p t f ≡ value f) → (t f : ℕ) → carries (with_cleans p) t f ≡ true → carried apply told (with_cleans p) t f ≡ value f
cleaned_means same nothing apply told value p proper none few means t f h = by (cases_lt t (count_tasks p))
  where
    by : (t < count_tasks p) ⊎ (count_tasks p ≤ t) → carried apply told (with_cleans p) t f ≡ value f
    by (inl l) = same apply told p proper none few t f l ∙ means t f (ap (λ (o : Option TaskKind). kind_carries p.jobs o f) (sym (old_kind p t l)) ∙ h)
    by (inr l) = absurd (let e : false ≡ true = sym (nothing p t f l) ∙ h in cc)
