-- What a proper plan says of pairs and their names.
use Rattle.std.proofs.Common.{◌≡◌, ℕ, zero, suc, ◌≤◌, ◌<◌, ◌⊎◌, inl, inr, Bool, true, false, ◌&&◌, ◌||◌, List, [], ◌∷◌, map, length, refl, sym, ap, ◌∙◌, subst, nat_eq, arith}
use Rattle.std.specs.Prelude.{Option, Some, None, slice_get, get_or, option_and_then, unwrap_or, option_map}
use Rattle.std.specs.List.{list_any, IsDistinct}
use Rattle.std.specs.Str.{bytes_eq}
use Rattle.std.proofs.lemmas.Bool.{cases_lt}
use Rattle.std.proofs.lemmas.Cmp.{nat_list_eq_equiv}
use Rattle.std.proofs.lemmas.Map.Keys.{apart_from_distinct}
use Rattle.std.proofs.lemmas.Option.{slice_get_past, slice_get_within}
use Rattle.values.specs.declared.numbers.FileId.{FileId}
use Rattle.values.specs.declared.numbers.SiteId.{SiteId}
use Rattle.plan_core.specs.declared.plan.Plan.{Plan}
use Rattle.plan_core.specs.declared.plan.Pair.{Pair}
use Rattle.plan_core.specs.declared.plan.PlanFile.{PlanFile}
use Rattle.plan_core.specs.declared.plan.PlanSite.{PlanSite}
use Rattle.plan_core.specs.declared.plan.TaskKind.{TaskKind}
use Rattle.plan_core.specs.declared.plan.TaskKind.TheVariants.{Transfer}
use Rattle.plan_core.specs.declared.plan.Source.{Source}
use Rattle.plan_core.specs.declared.plan.Source.TheVariants.{Site as FromSite}
use Rattle.plan_core.specs.declared.plan.Target.{Target}
use Rattle.plan_core.specs.declared.plan.Target.TheVariants.{Site as Into}
use Rattle.plan_core.specs.Carried.{stored, writer}
use Rattle.plan_core.specs.Kinds.{kind_reads, kind_writes, on_pair, reads_file, writes_file}
use Rattle.plan_core.specs.Numbers.{has}
use Rattle.plan_core.specs.code.Proper.{IsProper, stands}
use Rattle.plan_core.specs.Words.{count_pairs, count_tasks, kind, kind_in, pair, reads, writes}
use Rattle.plan_core.specs.code.Words.{is_pair, pair_at}
use Rattle.plan_core.proofs.NumbersLemmas.{least_passes, some_least}
use Rattle.plan_core.proofs.TestLemmas.{both, or_left, or_right, same_number}
use Rattle.site_yard.specs.code.Law.{HasPlanLaws}
use Rattle.plan_core.specs.Names.{file_in, file_name, lfn_in, pair_file, pair_file_name, pair_site, pair_site_name, site_in, site_name}

-- a site or a file by its name
name_at : (xs : List PlanSite) (s : ℕ) → get_or (map (λ (x : PlanSite). x.name) xs) s [] ≡ unwrap_or (option_map (λ (x : PlanSite). x.name) (slice_get xs s)) []
name_at [] s = refl
name_at (x ∷ xs) zero = refl
name_at (x ∷ xs) (suc s) = name_at xs s

lfn_at : (xs : List PlanFile) (f : ℕ) → get_or (map (λ (x : PlanFile). x.lfn) xs) f [] ≡ lfn_in (slice_get xs f)
lfn_at [] f = refl
lfn_at (x ∷ xs) zero = refl
lfn_at (x ∷ xs) (suc f) = lfn_at xs f

map_long : {A B : Type 0} (g : A → B) (xs : List A) → length (map g xs) ≡ length xs
map_long g [] = refl
map_long g (x ∷ xs) = ap suc (map_long g xs)

not_same : (x y : List ℕ) → x ≡ y → bytes_eq x y ≡ false → ⊥
not_same x y e h = absurd (let k : false ≡ true = sym h ∙ ap (bytes_eq x) (sym e) ∙ nat_list_eq_equiv.refl x in cc)

three : (i j : ℕ) → (i < j) ⊎ ((j < i) ⊎ (i ≡ j))
three i j = by (cases_lt i j) (cases_lt j i)
  where
    by : (i < j) ⊎ (j ≤ i) → (j < i) ⊎ (i ≤ j) → (i < j) ⊎ ((j < i) ⊎ (i ≡ j))
    by (inl a) b = inl a
    by (inr a) (inl b) = inr (inl b)
    by (inr a) (inr b) = inr (inr (omega (arith, a, b)))

one_place : (ks : List (List ℕ)) → IsDistinct bytes_eq ks → (i j : ℕ) → i < length ks → j < length ks → get_or ks i [] ≡ get_or ks j [] → i ≡ j
one_place ks apart i j a b e = by (three i j)
  where
    by : (i < j) ⊎ ((j < i) ⊎ (i ≡ j)) → i ≡ j
    by (inl l) = absurd (not_same (get_or ks i []) (get_or ks j []) e (apart_from_distinct bytes_eq ks i j [] apart l b))
    by (inr (inl l)) = absurd (not_same (get_or ks j []) (get_or ks i []) (sym e) (apart_from_distinct bytes_eq ks j i [] apart l a))
    by (inr (inr l)) = l

pub one_site : (p : Plan) → IsProper p → (s t : ℕ) → s < length p.sites → t < length p.sites → site_name p s ≡ site_name p t → s ≡ t
unfolding site_name
one_site p proper s t a b e =
    let long = map_long (λ (x : PlanSite). x.name) p.sites in
    one_place (map (λ (x : PlanSite). x.name) p.sites) proper.tables.site_names s t (omega (arith, a, long)) (omega (arith, b, long)) (name_at p.sites s ∙ e ∙ sym (name_at p.sites t))

pub one_file : (p : Plan) → IsProper p → (f g : ℕ) → f < length p.files → g < length p.files → file_name p f ≡ file_name p g → f ≡ g
unfolding file_name
one_file p proper f g a b e =
    let long = map_long (λ (x : PlanFile). x.lfn) p.files in
    one_place (map (λ (x : PlanFile). x.lfn) p.files) proper.tables.file_names f g (omega (arith, a, long)) (omega (arith, b, long)) (lfn_at p.files f ∙ e ∙ sym (lfn_at p.files g))

-- a number below the length stands for an element
pub not_none : {A : Type 0} (xs : List A) (i : ℕ) → i < length xs → slice_get xs i ≡ None → ⊥
not_none [] i l e = absurd (omega (arith, l))
not_none (x ∷ xs) zero l e = absurd cc
not_none (x ∷ xs) (suc i) l e = not_none xs i (omega (arith, l)) e

-- a pair by its site and its file
itself : (s f : ℕ) → (nat_eq s s && nat_eq f f) ≡ true
itself s f = grind arith

pub pair_is : (p : Plan) (q : ℕ) → q < count_pairs p → is_pair p q (pair_site p q) (pair_file p q) ≡ true
unfolding is_pair pair_site pair_file pair
pair_is p q l = by (slice_get p.pairs q) refl
  where
    by : (o : Option Pair) → slice_get p.pairs q ≡ o → pair_at o (site_in o) (file_in o) ≡ true
    by None e = absurd (not_none p.pairs q l e)
    by (Some x) e = itself x.site.0 x.file.0

pub is_pair_of : (p : Plan) (q s f : ℕ) → is_pair p q s f ≡ true → (pair_site p q ≡ s) × (pair_file p q ≡ f) × (q < count_pairs p)
unfolding is_pair pair_site pair_file pair
is_pair_of p q s f h = by (slice_get p.pairs q) refl h
  where
    by : (o : Option Pair) → slice_get p.pairs q ≡ o → pair_at o s f ≡ true → (site_in o ≡ s) × (file_in o ≡ f) × (q < count_pairs p)
    by None e k = absurd cc
    by (Some x) e k = let parts = both (nat_eq x.site.0 s) (nat_eq x.file.0 f) k in (same_number x.site.0 s parts.0, same_number x.file.0 f parts.1, slice_get_within p.pairs q x e)

-- pairs have names of their own
pub names_apart : (p : Plan) → IsProper p → HasPlanLaws p → (q r : ℕ) → q < count_pairs p → r < count_pairs p → pair_site_name p q ≡ pair_site_name p r → pair_file_name p q ≡ pair_file_name p r → q ≡ r
names_apart p proper laws q r a b es ef =
    let x = pair_is p q a in
    let y = pair_is p r b in
    let rx = laws.in_range q (pair_site p q) (pair_file p q) x in
    let ry = laws.in_range r (pair_site p r) (pair_file p r) y in
    let s = one_site p proper (pair_site p q) (pair_site p r) rx.0 ry.0 es in
    let f = one_file p proper (pair_file p q) (pair_file p r) rx.1 ry.1 ef in
    laws.once q r (pair_site p r) (pair_file p r) (subst (λ n. is_pair p q n (pair_file p r) ≡ true) s (subst (λ n. is_pair p q (pair_site p q) n ≡ true) f x)) y

-- an element that passes, by its place
any_place : {A : Type 0} (test : A → Bool) (xs : List A) → list_any test xs ≡ true → (i : ℕ) × (x : A) × (slice_get xs i ≡ Some x) × (test x ≡ true)
any_place test [] h = absurd cc
any_place test (x ∷ xs) h = by (test x) refl h (λ k. any_place test xs k)
  where
    by : (b : Bool) → test x ≡ b → (b || list_any test xs) ≡ true → (list_any test xs ≡ true → (i : ℕ) × (y : _) × (slice_get xs i ≡ Some y) × (test y ≡ true)) → (i : ℕ) × (y : _) × (slice_get (x ∷ xs) i ≡ Some y) × (test y ≡ true)
    by true e k rest = (0, x, refl, e)
    by false e k rest = let found = rest k in (suc found.0, found.1, found.2, found.3)

pub pair_of : (p : Plan) (s f : ℕ) → stands p s f ≡ true → (q : ℕ) × (is_pair p q s f ≡ true)
unfolding is_pair
pair_of p s f h = let found = any_place (λ (q : Pair). pair_at (Some q) s f) p.pairs h in (found.0, ap (λ (o : Option Pair). pair_at o s f) found.2 ∙ found.3)

pub written_below : (p : Plan) → HasPlanLaws p → (t q : ℕ) → has (writes p t) q ≡ true → q < count_pairs p
written_below p laws t q h = laws.listed t q (or_right (has (reads p t) q) (has (writes p t) q) h)

pub read_below : (p : Plan) → HasPlanLaws p → (t q : ℕ) → has (reads p t) q ≡ true → q < count_pairs p
read_below p laws t q h = laws.listed t q (or_left (has (reads p t) q) (has (writes p t) q) h)

pub written_file : (p : Plan) → HasPlanLaws p → (t q : ℕ) → has (writes p t) q ≡ true → writes_file p t (pair_site p q) (pair_file p q) ≡ true
written_file p laws t q h = sym (laws.lists_writes t q (pair_site p q) (pair_file p q) (pair_is p q (written_below p laws t q h))) ∙ h

pub read_file : (p : Plan) → HasPlanLaws p → (t q : ℕ) → has (reads p t) q ≡ true → reads_file p t (pair_site p q) (pair_file p q) ≡ true
read_file p laws t q h = sym (laws.lists_reads t q (pair_site p q) (pair_file p q) (pair_is p q (read_below p laws t q h))) ∙ h

-- what is read was written
pub has_writer : (p : Plan) → HasPlanLaws p → (q : ℕ) → q < count_pairs p → (u : ℕ) × (has (writes p u) q ≡ true)
has_writer p laws q l =
    let is = pair_is p q l in
    let found = laws.writer q (pair_site p q) (pair_file p q) is in
    (found.0, laws.lists_writes found.0 q (pair_site p q) (pair_file p q) is ∙ found.1)

-- who writes a file is a task
no_kind : (p : Plan) (t : ℕ) → count_tasks p ≤ t → kind p t ≡ None
unfolding kind
no_kind p t h = ap kind_in (slice_get_past p.tasks t h)

writer_below : (p : Plan) (t s f : ℕ) → writes_file p t s f ≡ true → t < count_tasks p
writer_below p t s f h = by (cases_lt t (count_tasks p))
  where
    by : (t < count_tasks p) ⊎ (count_tasks p ≤ t) → t < count_tasks p
    by (inl l) = l
    by (inr l) = absurd (let e : false ≡ true = sym (ap (λ (o : Option TaskKind). kind_writes p.jobs o s f) (no_kind p t l)) ∙ h in cc)

writer_is : (p : Plan) → HasPlanLaws p → (t s f : ℕ) → writes_file p t s f ≡ true → writer p s f ≡ Some t
unfolding writer
writer_is p laws t s f h =
    let found = some_least (count_tasks p) (λ u. writes_file p u s f) t (writer_below p t s f h) h in
    let passes = least_passes (count_tasks p) (λ u. writes_file p u s f) found.0 found.1 in
    found.1 ∙ ap Some (laws.one_writer found.0 t s f passes.1 h)

-- what the writer of a file carries for it is stored
pub stored_is : (p : Plan) → HasPlanLaws p → (c : ℕ → ℕ → Option (List ℕ)) (t s f : ℕ) → writes_file p t s f ≡ true → stored p c s f ≡ c t f
stored_is p laws c t s f h = ap (option_and_then (λ u. c u f)) (writer_is p laws t s f h)

-- a Transfer to a site writes the one pair of its file there
turned : (s f a g : ℕ) → (nat_eq s a && nat_eq f g) ≡ (nat_eq a s && nat_eq g f)
turned s f a g = grind arith

writes_at : (p : Plan) (k : Option TaskKind) (g : FileId) (from : Source) (a : SiteId) → k ≡ Some (Transfer g from (Into a)) → (q : ℕ) → is_pair p q a.0 g.0 ≡ on_pair (kind_writes p.jobs k) (slice_get p.pairs q)
unfolding is_pair
writes_at p k g from a e q = by (slice_get p.pairs q)
  where
    by : (o : Option Pair) → pair_at o a.0 g.0 ≡ on_pair (kind_writes p.jobs k) o
    by None = refl
    by (Some x) = turned x.site.0 x.file.0 a.0 g.0 ∙ sym (ap (λ (o : Option TaskKind). kind_writes p.jobs o x.site.0 x.file.0) e)

writes_one : (p : Plan) → IsProper p → HasPlanLaws p → (t : ℕ) (g : FileId) (from : Source) (a : SiteId) → kind p t ≡ Some (Transfer g from (Into a)) → (q : ℕ) × (is_pair p q a.0 g.0 ≡ true) × (writes p t ≡ q ∷ [])
unfolding kind writes
writes_one p proper laws t g from a e =
    let task = proper.tasks t in
    let stand = task.written_stands a.0 g.0 (ap (λ (o : Option TaskKind). kind_writes p.jobs o a.0 g.0) e ∙ itself a.0 g.0) in
    let q = pair_of p a.0 g.0 stand in
    (q.0, q.1, task.writes ∙ sym (laws.rising (count_pairs p) (λ r. on_pair (kind_writes p.jobs (kind p t)) (slice_get p.pairs r)) (q.0 ∷ []) (omega arith, tt) (passing q.0 q.1) (others q.0 q.1)))
  where
    passing : (q : ℕ) → is_pair p q a.0 g.0 ≡ true → (x : ℕ) → has (q ∷ []) x ≡ true → (x < count_pairs p) × (on_pair (kind_writes p.jobs (kind p t)) (slice_get p.pairs x) ≡ true)
    passing q is x h =
        let e1 : q ≡ x = grind (arith, h) in
        subst (λ z. (z < count_pairs p) × (on_pair (kind_writes p.jobs (kind p t)) (slice_get p.pairs z) ≡ true)) e1 ((is_pair_of p q a.0 g.0 is).2, sym (writes_at p (kind p t) g from a e q) ∙ is)

    others : (q : ℕ) → is_pair p q a.0 g.0 ≡ true → (x : ℕ) → x < count_pairs p → on_pair (kind_writes p.jobs (kind p t)) (slice_get p.pairs x) ≡ true → has (q ∷ []) x ≡ true
    others q is x l h =
        let e1 : q ≡ x = laws.once q x a.0 g.0 is (writes_at p (kind p t) g from a e x ∙ h) in
        grind (arith, e1)

pub transfer_writes : (p : Plan) → IsProper p → HasPlanLaws p → (t : ℕ) (g : FileId) (from : Source) (a : SiteId) → kind p t ≡ Some (Transfer g from (Into a)) → (q : ℕ) × (pair_site p q ≡ a.0) × (pair_file p q ≡ g.0) × (writes p t ≡ q ∷ [])
transfer_writes p proper laws t g from a e =
    let found = writes_one p proper laws t g from a e in
    let is = is_pair_of p found.0 a.0 g.0 found.1 in
    (found.0, is.0, is.1, found.2)

-- a Transfer from a site reads the one pair of its file there
reads_at : (p : Plan) (k : Option TaskKind) (g : FileId) (a : SiteId) (to : Target) → k ≡ Some (Transfer g (FromSite a) to) → (q : ℕ) → is_pair p q a.0 g.0 ≡ on_pair (kind_reads p.jobs k) (slice_get p.pairs q)
unfolding is_pair
reads_at p k g a to e q = by (slice_get p.pairs q)
  where
    by : (o : Option Pair) → pair_at o a.0 g.0 ≡ on_pair (kind_reads p.jobs k) o
    by None = refl
    by (Some x) = turned x.site.0 x.file.0 a.0 g.0 ∙ sym (ap (λ (o : Option TaskKind). kind_reads p.jobs o x.site.0 x.file.0) e)

reads_one : (p : Plan) → IsProper p → HasPlanLaws p → (t : ℕ) (g : FileId) (a : SiteId) (to : Target) → kind p t ≡ Some (Transfer g (FromSite a) to) → (q : ℕ) × (is_pair p q a.0 g.0 ≡ true) × (reads p t ≡ q ∷ [])
unfolding kind reads
reads_one p proper laws t g a to e =
    let task = proper.tasks t in
    let stand = task.read_stands a.0 g.0 (ap (λ (o : Option TaskKind). kind_reads p.jobs o a.0 g.0) e ∙ itself a.0 g.0) in
    let q = pair_of p a.0 g.0 stand in
    (q.0, q.1, task.reads ∙ sym (laws.rising (count_pairs p) (λ r. on_pair (kind_reads p.jobs (kind p t)) (slice_get p.pairs r)) (q.0 ∷ []) (omega arith, tt) (passing q.0 q.1) (others q.0 q.1)))
  where
    passing : (q : ℕ) → is_pair p q a.0 g.0 ≡ true → (x : ℕ) → has (q ∷ []) x ≡ true → (x < count_pairs p) × (on_pair (kind_reads p.jobs (kind p t)) (slice_get p.pairs x) ≡ true)
    passing q is x h =
        let e1 : q ≡ x = grind (arith, h) in
        subst (λ z. (z < count_pairs p) × (on_pair (kind_reads p.jobs (kind p t)) (slice_get p.pairs z) ≡ true)) e1 ((is_pair_of p q a.0 g.0 is).2, sym (reads_at p (kind p t) g a to e q) ∙ is)

    others : (q : ℕ) → is_pair p q a.0 g.0 ≡ true → (x : ℕ) → x < count_pairs p → on_pair (kind_reads p.jobs (kind p t)) (slice_get p.pairs x) ≡ true → has (q ∷ []) x ≡ true
    others q is x l h =
        let e1 : q ≡ x = laws.once q x a.0 g.0 is (reads_at p (kind p t) g a to e x ∙ h) in
        grind (arith, e1)

-- with what this says of the pair
pub transfer_reads : (p : Plan) → IsProper p → HasPlanLaws p → (t : ℕ) (g : FileId) (a : SiteId) (to : Target) → kind p t ≡ Some (Transfer g (FromSite a) to) → (q : ℕ) × (pair_site p q ≡ a.0) × (pair_file p q ≡ g.0) × (reads p t ≡ q ∷ [])
transfer_reads p proper laws t g a to e =
    let found = reads_one p proper laws t g a to e in
    let is = is_pair_of p found.0 a.0 g.0 found.1 in
    (found.0, is.0, is.1, found.2)
