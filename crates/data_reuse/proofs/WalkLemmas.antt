-- The walk, one job further.
use Rattle.std.proofs.Common.{◌≡◌, ℕ, zero, suc, ◌+◌, ◌<◌, ◌≤◌, ◌||◌, ◌&&◌, Bool, true, false, cond, List, [], ◌∷◌, length, map, take, drop, get_or, nat_eq, nat_lt, refl, sym, ap, subst, ◌∙◌, arith}
use Rattle.std.specs.Prelude.{slice_set, Decides}
use Rattle.std.specs.List.{list_any, AllByRecursion}
use Rattle.std.proofs.lemmas.Bool.{eqb-true, eq-eqb}
use Rattle.std.proofs.Math.Seq.{drop-cons}
use Rattle.std.proofs.lemmas.List.{drop_all, length-set, length-map, length-take-le, take-append-drop, get_or-take, get_or-map, get_or_past}
use Rattle.std.proofs.lemmas.List.Folds.{list_any-append}
use Rattle.values.specs.declared.numbers.FileId.{FileId}
use Rattle.values.specs.declared.numbers.JobId.{JobId}
use Rattle.workflow_core.specs.declared.workflow.Workflow.{Workflow}
use Rattle.workflow_core.specs.declared.workflow.Job.{Job}
use Rattle.workflow_core.specs.declared.workflow.Output.{Output}
use Rattle.workflow_core.specs.WellFormed.{inputs_of, outputs_of}
use Rattle.workflow_core.specs.code.WellFormed.{IsJobOver, IsWellFormed}
use Rattle.workflow_core.specs.Requested.{is_requested}
use Rattle.digraph.specs.Adjacency.{has_node, times}
use Rattle.digraph.specs.Distances.{Walk}
use Rattle.digraph.specs.Order.{IsInOrder}
use Rattle.dependency_graph.specs.Edges.{edge, is_among, is_paired, passes_file, read_by, written_by}
use Rattle.dependency_graph.specs.Graph.{IsGraphOf, Links, numbers}
use Rattle.dependency_graph.specs.Levels.{is_kept}
use Rattle.replica_catalog.specs.declared.catalog.Replica.{Replica}
use Rattle.data_reuse.specs.code.Flags.{has_both, is_set, reads}
use Rattle.data_reuse.specs.Kept.{AreKept, IsKept, feeds, is_wanted}
use Rattle.data_reuse.specs.code.Kept.{IsClosed}
use Rattle.data_reuse.specs.Absent.{absent_in, is_absent}
use Rattle.data_reuse.proofs.FlagsLemmas.{flag_set}
use Rattle.data_reuse.proofs.TestsLemmas.{all_at, and_both, and_left, and_right, any_alike, any_at, any_has, by_bool, or_case, or_left, or_right}

-- the kept jobs are the least closed set
pub kept_wanted : (absent : ℕ → Bool) (w : Workflow) (a : ℕ) → is_wanted absent w a ≡ true → IsKept absent w a
kept_wanted absent w a h = record { steps = 0; last = a; way = refl; wanted = h }

pub kept_feeds : (absent : ℕ → Bool) (w : Workflow) (a b : ℕ) → feeds absent w a b ≡ true → IsKept absent w b → IsKept absent w a
kept_feeds absent w a b h k = record { steps = suc k.steps; last = k.last; way = (b, h, k.way); wanted = k.wanted }

pub closed : (absent : ℕ → Bool) (w : Workflow) → IsClosed absent w (IsKept absent w)
closed absent w = record { wanted = kept_wanted absent w; feeding = kept_feeds absent w }

along : (absent : ℕ → Bool) (w : Workflow) (P : ℕ → Bool) → IsClosed absent w (λ a. P a ≡ true) → (n a b : ℕ) → Walk (feeds absent w) n a b → is_wanted absent w b ≡ true → P a ≡ true
along absent w P all zero a b way h = all.wanted a (ap (is_wanted absent w) way ∙ h)
along absent w P all (suc n) a b way h = all.feeding a way.0 way.1 (along absent w P all n way.0 b way.2 h)

pub least : (absent : ℕ → Bool) (w : Workflow) (P : ℕ → Bool) → IsClosed absent w (λ a. P a ≡ true) → (a : ℕ) → IsKept absent w a → P a ≡ true
least absent w P all a k = along absent w P all k.steps a k.last k.way k.wanted

-- a kept job is wanted, or feeds a kept one
kept_case : {P : Type 0} (absent : ℕ → Bool) (w : Workflow) (a : ℕ) → IsKept absent w a → (is_wanted absent w a ≡ true → P) → ((b : ℕ) → feeds absent w a b ≡ true → IsKept absent w b → P) → P
kept_case {P} absent w a k f g = by_steps k.steps k.way
  where
    by_steps : (n : ℕ) → Walk (feeds absent w) n a k.last → P
    by_steps zero way = f (ap (is_wanted absent w) way ∙ k.wanted)
    by_steps (suc n) way = g way.0 way.1 (record { steps = n; last = k.last; way = way.2; wanted = k.wanted })

-- who feeds a job leads to it
feeds_along : (absent : ℕ → Bool) (w : Workflow) (a b : ℕ) → feeds absent w a b ≡ true → edge w a b ≡ true
unfolding edge
feeds_along absent w a b fed = any_has (λ f. absent f && is_among f (read_by w b)) (written_by w a) fed
    (λ f made test. or_left (passes_file w a b) (is_paired w a b) (any_at (λ g. is_among g (written_by w a)) (read_by w b) f (and_right (absent f) (is_among f (read_by w b)) test) made))

-- who reads a file is a job
reader_in : (w : Workflow) (b f : ℕ) → is_among f (read_by w b) ≡ true → b < length w.jobs
reader_in w b f there = by (nat_lt b (length w.jobs)) refl
  where
    by : (t : Bool) → nat_lt b (length w.jobs) ≡ t → b < length w.jobs
    by true e = grind arith
    by false e = absurd (let past : length w.jobs ≤ b = grind arith in let none : is_among f (read_by w b) ≡ false = ap (is_among f) (get_or_past (map inputs_of w.jobs) b [] (omega (arith, past, length-map w.jobs inputs_of))) in cc)

-- numbers in a list that has each at most once
none_there : (a : ℕ) (ns : List ℕ) → times a ns ≤ 0 → has_node a ns ≡ false
none_there a [] none = refl
none_there a (n ∷ ns) none = by (nat_eq n a) none (none_there a ns)
  where
    by : (t : Bool) → cond {A = ℕ} t 1 0 + times a ns ≤ 0 → (times a ns ≤ 0 → has_node a ns ≡ false) → (t || has_node a ns) ≡ false
    by true few rest = absurd (let k : 1 + times a ns ≤ 0 = few in omega (arith, k))
    by false few rest = rest (let k : 0 + times a ns ≤ 0 = few in omega (arith, k))

stands : (ns : List ℕ) (i : ℕ) → i < length ns → 1 ≤ times (get_or ns i 0) ns
stands [] i low = absurd (omega arith)
stands (n ∷ ns) zero low = let one : cond {A = ℕ} (nat_eq n n) 1 0 ≡ 1 = ap (λ (t : Bool). cond {A = ℕ} t 1 0) (eq-eqb n n refl) in omega (arith, one)
stands (n ∷ ns) (suc i) low = let rest = stands ns i (omega (arith, low)) in omega (arith, rest)

not_before : (ns : List ℕ) (i : ℕ) → i < length ns → times (get_or ns i 0) ns ≤ 1 → has_node (get_or ns i 0) (take i ns) ≡ false
not_before [] i low once = absurd (omega arith)
not_before (n ∷ ns) zero low once = refl
not_before (n ∷ ns) (suc i) low once = by (nat_eq n (get_or ns i 0)) refl once (λ few. not_before ns i (omega (arith, low)) few)
  where
    by : (t : Bool) → nat_eq n (get_or ns i 0) ≡ t → cond {A = ℕ} t 1 0 + times (get_or ns i 0) ns ≤ 1 → (times (get_or ns i 0) ns ≤ 1 → has_node (get_or ns i 0) (take i ns) ≡ false) → (t || has_node (get_or ns i 0) (take i ns)) ≡ false
    by true e few rest = absurd (let there = stands ns i (omega (arith, low)) in let k : 1 + times (get_or ns i 0) ns ≤ 1 = few in omega (arith, there, k))
    by false e few rest = rest (let k : 0 + times (get_or ns i 0) ns ≤ 1 = few in omega (arith, k))

not_after : (ns : List ℕ) (i : ℕ) → i < length ns → times (get_or ns i 0) ns ≤ 1 → has_node (get_or ns i 0) (drop (suc i) ns) ≡ false
not_after [] i low once = absurd (omega arith)
not_after (n ∷ ns) zero low once = none_there n ns (let one : cond {A = ℕ} (nat_eq n n) 1 0 ≡ 1 = ap (λ (t : Bool). cond {A = ℕ} t 1 0) (eq-eqb n n refl) in omega (arith, one, once))
not_after (n ∷ ns) (suc i) low once = not_after ns i (omega (arith, low)) (omega (arith, once))

place_of : (ns : List ℕ) (a : ℕ) → has_node a ns ≡ true → (i : ℕ) × (i < length ns) × (get_or ns i a ≡ a)
place_of [] a h = absurd cc
place_of (n ∷ ns) a h = by (nat_eq n a) refl h (λ k. place_of ns a k)
  where
    by : (t : Bool) → nat_eq n a ≡ t → (t || has_node a ns) ≡ true → (has_node a ns ≡ true → (i : ℕ) × (i < length ns) × (get_or ns i a ≡ a)) → (i : ℕ) × (i < length (n ∷ ns)) × (get_or (n ∷ ns) i a ≡ a)
    by true e k rest = (0, omega arith, eqb-true n a e)
    by false e k rest = let found = rest k in (suc found.0, (let l : found.0 < length ns = found.1 in omega (arith, l)), found.2)

has_front : (ns : List ℕ) (a i j : ℕ) → i ≤ j → has_node a (take i ns) ≡ true → has_node a (take j ns) ≡ true
has_front ns a zero j low h = absurd cc
has_front [] a (suc i) j low h = absurd cc
has_front (n ∷ ns) a (suc i) zero low h = absurd (omega (arith, low))
has_front (n ∷ ns) a (suc i) (suc j) low h = or_case (nat_eq n a) (has_node a (take i ns)) h
    (λ e. or_left (nat_eq n a) (has_node a (take j ns)) e)
    (λ m. or_right (nat_eq n a) (has_node a (take j ns)) (has_front ns a i j (omega (arith, low)) m))

there_once : (a : ℕ) (ns : List ℕ) → times a ns ≡ 1 → has_node a ns ≡ true
there_once a [] once = absurd (omega (arith, once))
there_once a (n ∷ ns) once = by (nat_eq n a) once (there_once a ns)
  where
    by : (t : Bool) → cond {A = ℕ} t 1 0 + times a ns ≡ 1 → (times a ns ≡ 1 → has_node a ns ≡ true) → (t || has_node a ns) ≡ true
    by true k rest = refl
    by false k rest = rest (let l : 0 + times a ns ≡ 1 = k in omega (arith, l))

-- where each stands once and after those that lead to it, a job leads only to those after it
leads_on : (e : ℕ → ℕ → Bool) (ns : List ℕ) (i b : ℕ) → IsInOrder e ns → i < length ns → times (get_or ns i 0) ns ≤ 1 → has_node b ns ≡ true → e (get_or ns i 0) b ≡ true → has_node b (drop (suc i) ns) ≡ true
leads_on e ns i b order low once there into =
    or_case (has_node b (take (suc i) ns)) (has_node b (drop (suc i) ns))
    (sym (list_any-append (λ n. nat_eq n b) (take (suc i) ns) (drop (suc i) ns)) ∙ ap (has_node b) (take-append-drop (suc i) ns) ∙ there)
    (λ front. before (place_of (take (suc i) ns) b front))
    (λ later. later)
  where
    before : (k : ℕ) × (k < length (take (suc i) ns)) × (get_or (take (suc i) ns) k b ≡ b) → has_node b (drop (suc i) ns) ≡ true
    before found =
        let k : ℕ = found.0 in
        let short = length-take-le (suc i) ns (omega (arith, low)) in
        let less : k < suc i = (let l : k < length (take (suc i) ns) = found.1 in omega (arith, l, short)) in
        let at : get_or ns k b ≡ b = sym (get_or-take (suc i) ns k b less) ∙ found.2 in
        let first : has_node (get_or ns i 0) (take k ns) ≡ true = order k b (omega (arith, less, low)) at (get_or ns i 0) into in
        let again : has_node (get_or ns i 0) (take i ns) ≡ true = has_front ns (get_or ns i 0) k i (omega (arith, less)) first in
        absurd (let never = not_before ns i low once in cc)

abbrev pub seen : Links → ℕ → List ℕ
seen g p = drop p (numbers g.ordered)

abbrev pub placed : Links → ℕ → ℕ
placed g p = get_or (numbers g.ordered) p 0

-- what is known once the jobs from a place of the order on are seen
pub record IsWalked (absent : ℕ → Bool) (w : Workflow) (g : Links) (kept needed : List Bool) (p : ℕ) : Type 0 where
  pub kept_long : length kept ≡ length w.jobs
  pub needed_long : length needed ≡ length w.files
  pub each : (a : ℕ) → has_node a (seen g p) ≡ true → Decides (is_kept kept a) (IsKept absent w a)
  pub needed_is : (f : ℕ) → is_set needed f ≡ (is_requested w f || list_any (λ b. is_kept kept b && is_among f (read_by w b)) (seen g p))

abbrev pub keeps : (ℕ → Bool) → Workflow → List Bool → ℕ → Bool
keeps absent w needed a = list_any (λ f. absent f && is_set needed f) (written_by w a)

sound : (absent : ℕ → Bool) (w : Workflow) (g : Links) (kept needed : List Bool) (p a : ℕ) → IsWalked absent w g kept needed p → keeps absent w needed a ≡ true → IsKept absent w a
sound absent w g kept needed p a walked h = any_has (λ f. absent f && is_set needed f) (written_by w a) h (λ f m k.
    let gone = and_left (absent f) (is_set needed f) k in
    or_case (is_requested w f) (list_any (λ b. is_kept kept b && is_among f (read_by w b)) (seen g p)) (sym (walked.needed_is f) ∙ and_right (absent f) (is_set needed f) k)
    (λ req. kept_wanted absent w a (any_at (λ x. absent x && is_requested w x) (written_by w a) f m (and_both (absent f) (is_requested w f) gone req)))
    (λ need. any_has (λ b. is_kept kept b && is_among f (read_by w b)) (seen g p) need (λ b s t.
    kept_feeds absent w a b (any_at (λ x. absent x && is_among x (read_by w b)) (written_by w a) f m (and_both (absent f) (is_among f (read_by w b)) gone (and_right (is_kept kept b) (is_among f (read_by w b)) t)))
    ((walked.each b s).0 (and_left (is_kept kept b) (is_among f (read_by w b)) t)))))

complete : (absent : ℕ → Bool) (w : Workflow) (g : Links) (kept needed : List Bool) (p a : ℕ) → IsWalked absent w g kept needed p → ((b : ℕ) → feeds absent w a b ≡ true → has_node b (seen g p) ≡ true) → IsKept absent w a → keeps absent w needed a ≡ true
complete absent w g kept needed p a walked after k = kept_case absent w a k
    (λ wanted. any_has (λ x. absent x && is_requested w x) (written_by w a) wanted (λ f m t. put f m (and_left (absent f) (is_requested w f) t)
    (or_left (is_requested w f) (list_any (λ b. is_kept kept b && is_among f (read_by w b)) (seen g p)) (and_right (absent f) (is_requested w f) t))))
    (λ b fed kb. any_has (λ x. absent x && is_among x (read_by w b)) (written_by w a) fed (λ f m t. put f m (and_left (absent f) (is_among f (read_by w b)) t)
    (or_right (is_requested w f) (list_any (λ c. is_kept kept c && is_among f (read_by w c)) (seen g p))
    (any_at (λ c. is_kept kept c && is_among f (read_by w c)) (seen g p) b (after b fed) (and_both (is_kept kept b) (is_among f (read_by w b)) ((walked.each b (after b fed)).1 kb) (and_right (absent f) (is_among f (read_by w b)) t))))))
  where
    put : (f : ℕ) → has_node f (written_by w a) ≡ true → absent f ≡ true → (is_requested w f || list_any (λ b. is_kept kept b && is_among f (read_by w b)) (seen g p)) ≡ true → keeps absent w needed a ≡ true
    put f m gone need = any_at (λ x. absent x && is_set needed x) (written_by w a) f m (and_both (absent f) (is_set needed f) gone (walked.needed_is f ∙ need))

-- the job at a place of the order
order_low : (g : Links) (p : ℕ) → p < length g.ordered → p < length (numbers g.ordered)
order_low g p low = omega (arith, low, length-map g.ordered (λ (j : JobId). j.0))

pub placed_in : (w : Workflow) (g : Links) → IsGraphOf w g → (p : ℕ) → p < length g.ordered → placed g p < length w.jobs
placed_in w g graph p low = graph.order.in_range p 0 (order_low g p low)

once : (w : Workflow) (g : Links) → IsGraphOf w g → (p : ℕ) → p < length g.ordered → times (placed g p) (numbers g.ordered) ≤ 1
once w g graph p low = let one = graph.order.each_once (placed g p) (placed_in w g graph p low) in omega (arith, one)

fed_after : (absent : ℕ → Bool) (w : Workflow) (g : Links) → IsGraphOf w g → (p : ℕ) → p < length g.ordered → (b : ℕ) → feeds absent w (placed g p) b ≡ true → has_node b (seen g (suc p)) ≡ true
fed_after absent w g graph p low b fed =
    let inside : b < length w.jobs = any_has (λ f. absent f && is_among f (read_by w b)) (written_by w (placed g p)) fed (λ f made test. reader_in w b f (and_right (absent f) (is_among f (read_by w b)) test)) in
    leads_on (edge w) (numbers g.ordered) p b graph.order.in_order (order_low g p low) (once w g graph p low) (there_once b (numbers g.ordered) (graph.order.each_once b inside)) (feeds_along absent w (placed g p) b fed)

pub walk_more : (absent : ℕ → Bool) (w : Workflow) (g : Links) (kept needed new : List Bool) (p : ℕ) (keep : Bool) → IsGraphOf w g → IsWalked absent w g kept needed (suc p) → p < length g.ordered
    → keep ≡ keeps absent w needed (placed g p) → length new ≡ length needed → ((f : ℕ) → is_set new f ≡ ((keep && is_among f (read_by w (placed g p))) || is_set needed f))
    → IsWalked absent w g (slice_set kept (placed g p) keep) new p
walk_more absent w g kept needed new p keep graph walked low is long marked = record {
  kept_long = length-set kept x keep ∙ walked.kept_long;
  needed_long = long ∙ walked.needed_long;
  each = λ u h. or_case (nat_eq x u) (has_node u (seen g (suc p))) (sym (ap (has_node u) more) ∙ h)
      (λ here. subst (λ (v : ℕ). Decides (is_kept (slice_set kept x keep) v) (IsKept absent w v)) (eqb-true x u here) (subst (λ (b : Bool). Decides b (IsKept absent w x)) (sym changed) decided))
      (λ old. subst (λ (b : Bool). Decides b (IsKept absent w u)) (sym (unchanged u old)) (walked.each u old));
  needed_is = λ f. marked f ∙ ap (λ (b : Bool). (keep && is_among f (read_by w x)) || b) (walked.needed_is f)
      ∙ turn (keep && is_among f (read_by w x)) (is_requested w f) (list_any (λ b. is_kept kept b && is_among f (read_by w b)) (seen g (suc p)))
      ∙ ap (λ (b : Bool). is_requested w f || ((keep && is_among f (read_by w x)) || b)) (any_alike (λ b. is_kept kept b && is_among f (read_by w b)) (λ b. is_kept (slice_set kept x keep) b && is_among f (read_by w b)) (seen g (suc p)) (λ b m. ap (λ (k : Bool). k && is_among f (read_by w b)) (sym (unchanged b m))))
      ∙ ap (λ (k : Bool). is_requested w f || ((k && is_among f (read_by w x)) || list_any (λ b. is_kept (slice_set kept x keep) b && is_among f (read_by w b)) (seen g (suc p)))) (sym changed)
      ∙ sym (ap (λ (ns : List ℕ). is_requested w f || list_any (λ b. is_kept (slice_set kept x keep) b && is_among f (read_by w b)) ns) more);
}
  where
    x : ℕ
    x = placed g p

    more : seen g p ≡ x ∷ seen g (suc p)
    more = drop-cons (numbers g.ordered) p 0 (order_low g p low)

    within : x < length kept
    within = let l = placed_in w g graph p low in omega (arith, l, walked.kept_long)

    turn : (a b c : Bool) → (a || (b || c)) ≡ (b || (a || c))
    turn true true c = refl
    turn true false c = refl
    turn false true c = refl
    turn false false c = refl

    unchanged : (u : ℕ) → has_node u (seen g (suc p)) ≡ true → is_kept (slice_set kept x keep) u ≡ is_kept kept u
    unchanged u m = flag_set kept x u keep within ∙ by_bool (nat_eq x u)
        (λ e. absurd (let again : has_node x (seen g (suc p)) ≡ true = ap (λ (k : ℕ). has_node k (seen g (suc p))) (eqb-true x u e) ∙ m in let never = not_after (numbers g.ordered) p (order_low g p low) (once w g graph p low) in cc))
        (λ e. ap (λ (b : Bool). cond b keep (is_kept kept u)) e)

    changed : is_kept (slice_set kept x keep) x ≡ keep
    changed = flag_set kept x x keep within ∙ ap (λ (b : Bool). cond b keep (is_kept kept x)) (eq-eqb x x refl)

    decided : Decides keep (IsKept absent w x)
    decided = (λ h. sound absent w g kept needed (suc p) x walked (sym is ∙ h), λ k. is ∙ complete absent w g kept needed (suc p) x walked (λ b fed. fed_after absent w g graph p low b fed) k)

-- nothing is seen yet
pub walk_none : (absent : ℕ → Bool) (w : Workflow) (g : Links) (kept needed : List Bool) (p : ℕ) → length g.ordered ≤ p → length kept ≡ length w.jobs → length needed ≡ length w.files → ((f : ℕ) → is_set needed f ≡ is_requested w f) → IsWalked absent w g kept needed p
walk_none absent w g kept needed p past kept_long needed_long each = record {
  kept_long = kept_long;
  needed_long = needed_long;
  each = λ a h. absurd (let none : has_node a (seen g p) ≡ false = ap (has_node a) nothing in cc);
  needed_is = λ f. each f ∙ sym (ap (λ (ns : List ℕ). is_requested w f || list_any (λ b. is_kept kept b && is_among f (read_by w b)) ns) nothing ∙ or_none (is_requested w f));
}
  where
    nothing : seen g p ≡ []
    nothing = drop_all p (numbers g.ordered) (omega (arith, past, length-map g.ordered (λ (j : JobId). j.0)))

    or_none : (b : Bool) → (b || false) ≡ b
    or_none true = refl
    or_none false = refl

-- everything is seen
pub walk_all : (absent : ℕ → Bool) (w : Workflow) (g : Links) (kept needed : List Bool) (p : ℕ) → IsGraphOf w g → IsWalked absent w g kept needed p → p ≤ 0 → AreKept absent w kept
walk_all absent w g kept needed zero graph walked low = record {
  long = walked.kept_long;
  each = λ a inside. walked.each a (there_once a (numbers g.ordered) (graph.order.each_once a inside));
}
walk_all absent w g kept needed (suc p) graph walked low = absurd (omega (arith, low))

-- the same in the words of the walk
pub job_is : (g : Links) (js : List JobId) (i : ℕ) → js ≡ g.ordered → i < length js → (i < length g.ordered) × ((get_or js i (record { 0 = 0 })).0 ≡ placed g i)
job_is g js i is low =
    let here : i < length g.ordered = subst (λ (ks : List JobId). i < length ks) is low in
    (here, ap (λ (ks : List JobId). (get_or ks i (record { 0 = 0 })).0) is ∙ sym (get_or-map (λ (j : JobId). j.0) g.ordered i (record { 0 = 0 }) 0 here))

pub over : (w : Workflow) → IsWellFormed w → (a : ℕ) (j : Job) → a < length w.jobs → get_or w.jobs a j ≡ j → IsJobOver (length w.files) j
over w formed a j low is = subst (IsJobOver (length w.files)) is (all_at (IsJobOver (length w.files)) w.jobs a j formed.jobs low)

reads_is : (w : Workflow) (a : ℕ) (j : Job) (f : ℕ) → a < length w.jobs → get_or w.jobs a j ≡ j → reads f j ≡ is_among f (read_by w a)
reads_is w a j f low is = by j.inputs ∙ sym (ap (is_among f) (get_or-map inputs_of w.jobs a j [] low ∙ ap inputs_of is))
  where
    by : (gs : List FileId) → list_any (λ (g : FileId). nat_eq g.0 f) gs ≡ has_node f (map (λ (g : FileId). g.0) gs)
    by [] = refl
    by (g ∷ gs) = ap (λ (b : Bool). nat_eq g.0 f || b) (by gs)

pub marked_is : (w : Workflow) (a : ℕ) (j : Job) (keep : Bool) (new old : List Bool) → a < length w.jobs → get_or w.jobs a j ≡ j → ((f : ℕ) → is_set new f ≡ ((keep && reads f j) || is_set old f)) → (f : ℕ) → is_set new f ≡ ((keep && is_among f (read_by w a)) || is_set old f)
marked_is w a j keep new old low is each f = each f ∙ ap (λ (b : Bool). (keep && b) || is_set old f) (reads_is w a j f low is)

pub keeps_is : (w : Workflow) (es : List Replica) (force : Bool) (flags needed : List Bool) (a : ℕ) (j : Job) → IsWellFormed w → a < length w.jobs → get_or w.jobs a j ≡ j → flags ≡ map (is_absent es force) w.files
    → has_both flags needed j ≡ keeps (absent_in w es force) w needed a
keeps_is w es force flags needed a j formed low is flags_are =
    by j.outputs (over w formed a j low is).outputs ∙ sym (ap (list_any (λ f. absent_in w es force f && is_set needed f)) (get_or-map outputs_of w.jobs a j [] low ∙ ap outputs_of is))
  where
    flag_is : (f : ℕ) → f < length w.files → is_set flags f ≡ absent_in w es force f
    flag_is f inside = ap (λ (bs : List Bool). is_set bs f) flags_are ∙ get_or-map (is_absent es force) w.files f [] false inside

    by : (os : List Output) → AllByRecursion (λ f. f < length w.files) (map (λ (o : Output). o.file.0) os)
        → list_any (λ (o : Output). is_set flags o.file.0 && is_set needed o.file.0) os ≡ list_any (λ f. absent_in w es force f && is_set needed f) (map (λ (o : Output). o.file.0) os)
    by [] all = refl
    by (o ∷ os) all = ap (λ (b : Bool). (b && is_set needed o.file.0) || list_any (λ (p : Output). is_set flags p.file.0 && is_set needed p.file.0) os) (flag_is o.file.0 all.0)
        ∙ ap (λ (b : Bool). (absent_in w es force o.file.0 && is_set needed o.file.0) || b) (by os all.1)
