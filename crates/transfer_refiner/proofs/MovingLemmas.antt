-- What stands at a site, and what has to move.
use Rattle.std.proofs.Common.{◌≡◌, ℕ, suc, ◌<◌, ◌≤◌, Bool, true, false, not, cond, ◌||◌, ◌&&◌, List, [], ◌∷◌, ◌++◌, map, refl, sym, ap, ◌∙◌, nat_eq, arith, subst, All}
use Rattle.std.specs.Prelude.{Option, Some, None, MatchOption, slice_get}
use Rattle.std.proofs.lemmas.List.Elements.{All-nil, All-cons}
use Rattle.std.proofs.lemmas.List.Folds.{list_any-append}
use Rattle.values.specs.declared.numbers.JobId.{JobId}
use Rattle.workflow_core.specs.Requested.{is_requested}
use Rattle.dependency_graph.specs.Edges.{makers}
use Rattle.dependency_graph.specs.Graph.{Links, IsGraphOf, producer_of_file as graph_maker}
use Rattle.plan_core.specs.Numbers.{has, below}
use Rattle.plan_core.specs.code.Numbers.{RisesFrom}
use Rattle.transfer_refiner.specs.Draft.{Draft, made_at, needed_at, stands, moves, home}
use Rattle.transfer_refiner.specs.Tasks.{count_files, count_execution_sites, grid, part_of}
use Rattle.transfer_refiner.specs.code.Listing.{is_at, moved_from, first_site_of}
use Rattle.transfer_refiner.specs.code.Conditions.{IsDraft}
use Rattle.plan_core.proofs.TestLemmas.{same_number, both}
use Rattle.plan_core.proofs.RisingLemmas.{rising_is_below, below_rises}
use Rattle.transfer_refiner.proofs.SliceLemmas.{grid_place, below_place}
use Rattle.transfer_refiner.proofs.StandingLemmas.{stands_within}
use Rattle.transfer_refiner.proofs.MakersLemmas.{made_home, home_of_parts, home_unmade}

pub files_are : (d : Draft) (s : ℕ) (xs : List ℕ) → IsDraft d → RisesFrom 0 xs → ((x : ℕ) → has xs x ≡ stands d s x) → xs ≡ below (count_files d) (stands d s)
files_are d s xs draft rises are = rising_is_below (count_files d) (stands d s) xs rises
    (λ x h. let k : stands d s x ≡ true = sym (are x) ∙ h in ((stands_within d draft s x k).file, k))
    (λ x l h. are x ∙ h)

-- the numbers that pass
abbrev kept : (ℕ → Bool) → List ℕ → List ℕ
kept test [] = []
kept test (x ∷ xs) = cond (test x) (x ∷ []) [] ++ kept test xs

kept_from : (test : ℕ → Bool) (b : ℕ) (xs : List ℕ) → RisesFrom b xs → RisesFrom b (kept test xs)
kept_from test b [] h = tt
kept_from test b (x ∷ xs) h = by (test x) (kept_from test (suc x) xs h.1)
  where
    lower : (c d : ℕ) (ys : List ℕ) → c ≤ d → RisesFrom d ys → RisesFrom c ys
    lower c d [] l k = tt
    lower c d (y ∷ ys) l k = ((let m : d ≤ y = k.0 in omega arith), k.1)

    by : (t : Bool) → RisesFrom (suc x) (kept test xs) → RisesFrom b (cond t (x ∷ []) [] ++ kept test xs)
    by true k = (h.0, k)
    by false k = lower b (suc x) (kept test xs) (let m : b ≤ x = h.0 in omega arith) k

kept_same : (test : ℕ → Bool) (xs : List ℕ) (z : ℕ) → has (kept test xs) z ≡ (has xs z && test z)
kept_same test [] z = refl
kept_same test (x ∷ xs) z =
    list_any-append (λ y. nat_eq y z) (cond (test x) (x ∷ []) []) (kept test xs)
    ∙ ap (λ (b : Bool). has (cond (test x) (x ∷ []) []) z || b) (kept_same test xs z) ∙ by (nat_eq x z) refl
  where
    at : (b : Bool) → has (cond b (x ∷ []) []) z ≡ (b && nat_eq x z)
    at true = no (nat_eq x z)
      where
        no : (b : Bool) → (b || false) ≡ b
        no true = refl
        no false = refl
    at false = refl

    none : (a : Bool) → (a && false) ≡ false
    none true = refl
    none false = refl

    yes : (a : Bool) → (a && true) ≡ a
    yes true = refl
    yes false = refl

    absorb : (a b : Bool) → (a || (b && a)) ≡ a
    absorb true b = refl
    absorb false true = refl
    absorb false false = refl

    by : (b : Bool) → nat_eq x z ≡ b → (has (cond (test x) (x ∷ []) []) z || (has xs z && test z)) ≡ ((nat_eq x z || has xs z) && test z)
    by true e =
        ap (λ (c : Bool). c || (has xs z && test z)) (at (test x) ∙ ap (λ (c : Bool). test x && c) e ∙ yes (test x) ∙ ap test (same_number x z e)) ∙ absorb (test z) (has xs z)
        ∙ sym (ap (λ (c : Bool). (c || has xs z) && test z) e)
    by false e =
        ap (λ (c : Bool). c || (has xs z && test z)) (at (test x) ∙ ap (λ (c : Bool). test x && c) e ∙ none (test x))
        ∙ sym (ap (λ (c : Bool). (c || has xs z) && test z) e)

moved_kept : (h : Option ℕ) (f : ℕ) (xs : List ℕ) → moved_from h f xs ≡ map (λ (s : ℕ). (f, s)) (kept (λ s. not (is_at h s)) xs)
moved_kept h f [] = refl
moved_kept h f (x ∷ xs) = by (not (is_at h x)) (moved_kept h f xs)
  where
    by : (b : Bool) → moved_from h f xs ≡ map (λ (s : ℕ). (f, s)) (kept (λ s. not (is_at h s)) xs) → (cond b ((f, x) ∷ []) [] ++ moved_from h f xs) ≡ map (λ (s : ℕ). (f, s)) (cond b (x ∷ []) [] ++ kept (λ s. not (is_at h s)) xs)
    by true rest = ap (λ (es : List (ℕ × ℕ)). (f, x) ∷ es) rest
    by false rest = rest

moves_is : (d : Draft) → IsDraft d → (f s : ℕ) → f < count_files d → (stands d s f && not (is_at (home d f) s)) ≡ moves d f s
unfolding moves stands
moves_is d draft f s low = ap (λ (b : Bool). (made_at d s f || needed_at d s f) && not b) (sym (made_home d draft s f low)) ∙ turn (made_at d s f) (needed_at d s f)
  where
    turn : (m n : Bool) → ((m || n) && not m) ≡ (n && not m)
    turn true true = refl
    turn true false = refl
    turn false n = refl

pub moves_are : (d : Draft) (f : ℕ) (h : Option ℕ) (xs : List ℕ) → IsDraft d → f < count_files d → h ≡ home d f → RisesFrom 0 xs → ((s : ℕ) → has xs s ≡ stands d s f)
    → moved_from h f xs ≡ map (λ (s : ℕ). (f, s)) (below (count_execution_sites d) (moves d f))
moves_are d f h xs draft low is rises are =
    ap (λ (o : Option ℕ). moved_from o f xs) is ∙ moved_kept (home d f) f xs
    ∙ ap (λ (ns : List ℕ). map (λ (s : ℕ). (f, s)) ns) (rising_is_below (count_execution_sites d) (moves d f) (kept (λ s. not (is_at (home d f) s)) xs) (kept_from (λ s. not (is_at (home d f) s)) 0 xs rises)
    (λ s k. let there = both (stands d s f) (not (is_at (home d f) s)) (moves_is d draft f s low ∙ sym (same s) ∙ k) in ((stands_within d draft s f there.0).site, sym (same s) ∙ k))
    (λ s l k. same s ∙ k))
  where
    same : (s : ℕ) → has (kept (λ s. not (is_at (home d f) s)) xs) s ≡ moves d f s
    same s = kept_same (λ s. not (is_at (home d f) s)) xs s ∙ ap (λ (b : Bool). b && not (is_at (home d f) s)) (are s) ∙ moves_is d draft f s low

-- what each element at a place has, all have
all_at : {A : Type 0} (P : A → Type 0) (xs : List A) → ((i : ℕ) (x : A) → slice_get xs i ≡ Some x → P x) → All P xs
all_at P [] h = All-nil P
all_at P (x ∷ xs) h = All-cons P x xs (h 0 x refl) (all_at P xs (λ i y e. h (suc i) y e))

pub moved_low : (d : Draft) (xs : List (ℕ × ℕ)) → xs ≡ grid (count_files d) (count_execution_sites d) (moves d) → All (λ (x : ℕ × ℕ). x.0 < count_files d) xs
moved_low d xs is = all_at (λ (x : ℕ × ℕ). x.0 < count_files d) xs (λ i x e. (grid_place (count_files d) (count_execution_sites d) (moves d) i x (ap (λ (ys : List (ℕ × ℕ)). slice_get ys i) (sym is) ∙ e)).0)

pub requested_low : (d : Draft) (xs : List ℕ) → xs ≡ below (count_files d) (is_requested d.workflow) → All (λ f. f < count_files d) xs
requested_low d xs is = all_at (λ f. f < count_files d) xs (λ i x e. (below_place (count_files d) (is_requested d.workflow) i x (ap (λ (ys : List ℕ). slice_get ys i) (sym is) ∙ e)).0)

-- the site at which a file is made, by the graph
pub home_found : (d : Draft) (g : Links) (f : ℕ) (o : Option JobId) (job : JobId) (cs : List ℕ) (r : Option ℕ) → IsDraft d → IsGraphOf d.workflow g → f < count_files d → o ≡ graph_maker g.producers f → o ≡ Some job
    → ((c : ℕ) → has cs c ≡ has (part_of d c) job.0) → r ≡ first_site_of d cs → r ≡ home d f
home_found d g f o job cs r draft graph low is some held at = at ∙ home_of_parts d draft f job.0 cs low (by (graph_maker g.producers f) (sym is ∙ some) (graph.producer f low)) held
  where
    by : (m : Option JobId) → m ≡ Some job → MatchOption m (makers d.workflow f ≡ []) (λ (j : JobId). makers d.workflow f ≡ j.0 ∷ []) → makers d.workflow f ≡ job.0 ∷ []
    by None e h = absurd cc
    by (Some j) e h = let same : j ≡ job = cc in h ∙ ap (λ (x : JobId). x.0 ∷ []) same

pub home_missing : (d : Draft) (g : Links) (f : ℕ) (o : Option JobId) → IsGraphOf d.workflow g → f < count_files d → o ≡ graph_maker g.producers f → o ≡ None → None ≡ home d f
home_missing d g f o graph low is none = sym (home_unmade d f (by (graph_maker g.producers f) (sym is ∙ none) (graph.producer f low)))
  where
    by : (m : Option JobId) → m ≡ None → MatchOption m (makers d.workflow f ≡ []) (λ (j : JobId). makers d.workflow f ≡ j.0 ∷ []) → makers d.workflow f ≡ []
    by None e h = h
    by (Some j) e h = absurd cc

pub requested_rises : (d : Draft) (xs : List ℕ) → xs ≡ below (count_files d) (is_requested d.workflow) → RisesFrom 0 xs
requested_rises d xs is = subst (RisesFrom 0) (sym is) (below_rises (count_files d) (is_requested d.workflow))
