-- A plan passes the tests of its tables exactly where they are proper.
use Rattle.std.proofs.Common.{◌≡◌, ℕ, ◌<◌, Bool, true, false, not, ◌||◌, List, [], ◌∷◌, ◌++◌, map, refl, sym, ap, ◌∙◌, nat_lt, arith}
use Rattle.std.specs.Bool.{Decides}
use Rattle.std.proofs.lemmas.Cmp.{nat_list_eq_equiv}
use Rattle.std.specs.List.{list_any, AllByRecursion, IsDistinct}
use Rattle.std.specs.Str.{bytes_eq}
use Rattle.std.proofs.lemmas.List.Folds.{list_any-append}
use Rattle.plan_core.specs.declared.plan.Plan.{Plan}
use Rattle.plan_core.specs.declared.plan.PlanFile.{PlanFile}
use Rattle.plan_core.specs.declared.plan.PlanSite.{PlanSite}
use Rattle.plan_core.specs.code.Proper.{HasTables, IsInRange}
use Rattle.plan_core.specs.code.Tables.{are_few, are_in_range, are_unknown, tables_pass}
use Rattle.plan_core.proofs.TestLemmas.{both, and_both, not_true}

below : (a b : ℕ) → nat_lt a b ≡ true → a < b
below a b h = grind arith

is_below : (a b : ℕ) → a < b → nat_lt a b ≡ true
is_below a b h = grind arith

-- each of the later ones differs from each known one
abbrev Apart : List (List ℕ) → List (List ℕ) → Type 0
Apart known [] = Unit {0}
Apart known (n ∷ ns) = (list_any (bytes_eq n) known ≡ false) × Apart known ns

same_bytes : (a b : List ℕ) → bytes_eq a b ≡ bytes_eq b a
same_bytes a b = nat_list_eq_equiv.symm a b

new_apart : (known ns : List (List ℕ)) → are_unknown known ns ≡ true → Apart known ns × IsDistinct bytes_eq ns
unfolding IsDistinct
new_apart known [] h = (tt, tt)
new_apart known (n ∷ ns) h =
    let parts = both (not (list_any (bytes_eq n) known)) (are_unknown (known ++ n ∷ []) ns) h in
    let rest = new_apart (known ++ n ∷ []) ns parts.1 in
    ((not_true (list_any (bytes_eq n) known) parts.0, fewer ns rest.0), (others ns rest.0, rest.1))
  where
    split : (m : List ℕ) → list_any (bytes_eq m) (known ++ n ∷ []) ≡ false → (list_any (bytes_eq m) known ≡ false) × (bytes_eq m n ≡ false)
    split m e = by (list_any (bytes_eq m) known) refl (bytes_eq m n) refl (sym (list_any-append (bytes_eq m) known (n ∷ [])) ∙ e)
      where
        by : (a : Bool) → list_any (bytes_eq m) known ≡ a → (b : Bool) → bytes_eq m n ≡ b → (a || (b || false)) ≡ false → (list_any (bytes_eq m) known ≡ false) × (bytes_eq m n ≡ false)
        by true p b q r = absurd cc
        by false p true q r = absurd cc
        by false p false q r = (p, q)

    fewer : (ms : List (List ℕ)) → Apart (known ++ n ∷ []) ms → Apart known ms
    fewer [] k = tt
    fewer (m ∷ ms) k = ((split m k.0).0, fewer ms k.1)

    others : (ms : List (List ℕ)) → Apart (known ++ n ∷ []) ms → AllByRecursion (λ y. bytes_eq n y ≡ false) ms
    others [] k = tt
    others (m ∷ ms) k = (same_bytes n m ∙ (split m k.0).1, others ms k.1)

apart_new : (known ns : List (List ℕ)) → Apart known ns → IsDistinct bytes_eq ns → are_unknown known ns ≡ true
unfolding IsDistinct
apart_new known [] a d = refl
apart_new known (n ∷ ns) a d = and_both (not (list_any (bytes_eq n) known)) (are_unknown (known ++ n ∷ []) ns) (ap not a.0) (apart_new (known ++ n ∷ []) ns (more ns a.1 d.0) d.1)
  where
    more : (ms : List (List ℕ)) → Apart known ms → AllByRecursion (λ y. bytes_eq n y ≡ false) ms → Apart (known ++ n ∷ []) ms
    more [] k l = tt
    more (m ∷ ms) k l = (list_any-append (bytes_eq m) known (n ∷ []) ∙ ap (λ (b : Bool). b || (bytes_eq m n || false)) k.0 ∙ ap (λ (b : Bool). b || false) (same_bytes m n ∙ l.0), more ms k.1 l.1)

apart_none : (ns : List (List ℕ)) → Apart [] ns
apart_none [] = tt
apart_none (n ∷ ns) = (refl, apart_none ns)

pub unknown_distinct : (ns : List (List ℕ)) → are_unknown [] ns ≡ true → IsDistinct bytes_eq ns
unknown_distinct ns h = (new_apart [] ns h).1

pub distinct_unknown : (ns : List (List ℕ)) → IsDistinct bytes_eq ns → are_unknown [] ns ≡ true
distinct_unknown ns d = apart_new [] ns (apart_none ns) d

in_range_is : (p : Plan) → are_few p ≡ true → are_in_range p ≡ true → IsInRange p
in_range_is p few h =
    let s = both _ _ few in let f = both _ _ s.1 in let j = both _ _ f.1 in let q = both _ _ j.1 in
    let a = both _ _ h in let b = both _ _ a.1 in
    record {
      few_sites = below _ _ s.0;
      few_files = below _ _ f.0;
      few_jobs = below _ _ j.0;
      few_pairs = below _ _ q.0;
      few_tasks = below _ _ q.1;
      pairs = a.0;
      jobs = b.0;
      kinds = b.1;
    }

few_is : (p : Plan) → IsInRange p → are_few p ≡ true
few_is p h = and_both _ _ (is_below _ _ h.few_sites) (and_both _ _ (is_below _ _ h.few_files) (and_both _ _ (is_below _ _ h.few_jobs) (and_both _ _ (is_below _ _ h.few_pairs) (is_below _ _ h.few_tasks))))

is_in_range : (p : Plan) → IsInRange p → are_in_range p ≡ true
is_in_range p h = and_both _ _ h.pairs (and_both _ _ h.jobs h.kinds)

passed : (p : Plan) → tables_pass p ≡ true → HasTables p
passed p h =
    let a = both _ _ h in let b = both _ _ a.1 in let c = both _ _ b.1 in let d = both _ _ c.1 in
    record {
      in_range = in_range_is p a.0 b.0;
      site_names = unknown_distinct (map (λ (s : PlanSite). s.name) p.sites) d.0;
      file_names = unknown_distinct (map (λ (f : PlanFile). f.lfn) p.files) d.1;
      pairs_rise = c.0;
    }

proper_passes : (p : Plan) → HasTables p → tables_pass p ≡ true
proper_passes p h = and_both _ _ (few_is p h.in_range) (and_both _ _ (is_in_range p h.in_range) (and_both _ _ h.pairs_rise (and_both _ _ (distinct_unknown (map (λ (s : PlanSite). s.name) p.sites) h.site_names) (distinct_unknown (map (λ (f : PlanFile). f.lfn) p.files) h.file_names))))

pub tables_decided : (p : Plan) (b : Bool) → b ≡ tables_pass p → Decides b (HasTables p)
tables_decided p b e = (λ h. passed p (sym e ∙ h), λ h. e ∙ proper_passes p h)
