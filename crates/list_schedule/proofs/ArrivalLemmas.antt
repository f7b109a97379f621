-- The latest arrivals, one job more.
use Rattle.std.proofs.Common.{◌≡◌, ℕ, zero, suc, ◌+◌, ◌<◌, ◌≤◌, ◌&&◌, not, max, Bool, true, false, cond, List, [], ◌∷◌, ◌++◌, length, take, get_or, refl, ap, ◌∙◌, arith}
use Rattle.std.specs.Prelude.{Option}
use Rattle.std.proofs.lemmas.List.{take_more}
use Rattle.values.specs.declared.numbers.JobId.{JobId}
use Rattle.values.specs.declared.numbers.SiteId.{SiteId}
use Rattle.dependency_graph.specs.Levels.{is_kept}
use Rattle.list_schedule.specs.declared.arrivals.Latest.{Latest}
use Rattle.list_schedule.specs.Schedule.{is_site}
use Rattle.list_schedule.specs.code.Arrivals.{latest_at, counted, site_of, finish_of, elsewhere}

pub note_dropped : (x : Latest) (k : Bool) (site : Option SiteId) (v s : ℕ) → k ≡ false → latest_at x s ≡ max (latest_at x s) (counted k site v s)
note_dropped x true site v s off = absurd cc
note_dropped x false site v s off = omega arith

pub note_same : (x : Latest) (k : Bool) (site : Option SiteId) (v s : ℕ) → k ≡ true → is_site s x.site ≡ is_site s site
    → latest_at (record { site = x.site; first = max x.first v; second = x.second }) s ≡ max (latest_at x s) (counted k site v s)
note_same x false site v s on same = absurd cc
note_same x true site v s on same = by (is_site s x.site) (is_site s site) same
  where
    by : (t u : Bool) → t ≡ u → cond {A = ℕ} t x.second (max x.first v) ≡ max (cond {A = ℕ} t x.second x.first) (cond {A = ℕ} (true && not u) v 0)
    by true true e = omega arith
    by false false e = omega arith
    by true false e = absurd cc
    by false true e = absurd cc

pub note_first : (x : Latest) (k : Bool) (site : Option SiteId) (v s : ℕ) → k ≡ true → x.second ≤ x.first → x.first < v → (is_site s x.site ≡ true → is_site s site ≡ false)
    → latest_at (record { site = site; first = v; second = x.first }) s ≡ max (latest_at x s) (counted k site v s)
note_first x false site v s on few less differ = absurd cc
note_first x true site v s on few less differ = by (is_site s x.site) (is_site s site) differ
  where
    by : (t u : Bool) → (t ≡ true → u ≡ false) → cond {A = ℕ} u x.first v ≡ max (cond {A = ℕ} t x.second x.first) (cond {A = ℕ} (true && not u) v 0)
    by true true d = absurd (let clash = d refl in cc)
    by true false d = omega (arith, few, less)
    by false true d = omega arith
    by false false d = omega (arith, less)

pub note_second : (x : Latest) (k : Bool) (site : Option SiteId) (v s : ℕ) → k ≡ true → v ≤ x.first → (is_site s x.site ≡ true → is_site s site ≡ false)
    → latest_at (record { site = x.site; first = x.first; second = max x.second v }) s ≡ max (latest_at x s) (counted k site v s)
note_second x false site v s on few differ = absurd cc
note_second x true site v s on few differ = by (is_site s x.site) (is_site s site) differ
  where
    by : (t u : Bool) → (t ≡ true → u ≡ false) → cond {A = ℕ} t (max x.second v) x.first ≡ max (cond {A = ℕ} t x.second x.first) (cond {A = ℕ} (true && not u) v 0)
    by true true d = absurd (let clash = d refl in cc)
    by true false d = omega arith
    by false true d = omega arith
    by false false d = omega (arith, few)

elsewhere_push : (kept : List Bool) (sites : List (Option SiteId)) (finishes : List ℕ) (s : ℕ) (ps : List JobId) (ms : List ℕ) (p : JobId) (m : ℕ) → length ms ≡ length ps
    → elsewhere kept sites finishes s (ps ++ p ∷ []) (ms ++ m ∷ []) ≡ max (elsewhere kept sites finishes s ps ms) (counted (is_kept kept p.0) (site_of sites p.0) (finish_of finishes p.0 + m) s)
elsewhere_push kept sites finishes s [] [] p m e = omega arith
elsewhere_push kept sites finishes s [] (n ∷ ms) p m e = absurd (omega (arith, e))
elsewhere_push kept sites finishes s (q ∷ ps) [] p m e = absurd (omega (arith, e))
elsewhere_push kept sites finishes s (q ∷ ps) (n ∷ ms) p m e = let rest = elsewhere_push kept sites finishes s ps ms p m (omega (arith, e)) in omega (arith, rest)

pub elsewhere_more : (kept : List Bool) (sites : List (Option SiteId)) (finishes : List ℕ) (s : ℕ) (ps : List JobId) (ms : List ℕ) (i : ℕ) → length ms ≡ length ps → i < length ps
    → elsewhere kept sites finishes s (take (i + 1) ps) (take (i + 1) ms)
    ≡ max (elsewhere kept sites finishes s (take i ps) (take i ms)) (counted (is_kept kept (get_or ps i (record { 0 = 0 })).0) (site_of sites (get_or ps i (record { 0 = 0 })).0) (finish_of finishes (get_or ps i (record { 0 = 0 })).0 + get_or ms i 0) s)
elsewhere_more kept sites finishes s ps ms i e l =
    ap (λ (xs : List JobId). elsewhere kept sites finishes s xs (take (i + 1) ms)) (take_more ps i (record { 0 = 0 }) l)
    ∙ ap (λ (ns : List ℕ). elsewhere kept sites finishes s (take i ps ++ get_or ps i (record { 0 = 0 }) ∷ []) ns) (take_more ms i 0 (omega (arith, e, l)))
    ∙ elsewhere_push kept sites finishes s (take i ps) (take i ms) (get_or ps i (record { 0 = 0 })) (get_or ms i 0) (short ms ps i e)
  where
    short : (xs : List ℕ) (ys : List JobId) (i : ℕ) → length xs ≡ length ys → length (take i xs) ≡ length (take i ys)
    short xs ys zero e = refl
    short [] [] (suc i) e = refl
    short [] (y ∷ ys) (suc i) e = absurd (omega (arith, e))
    short (x ∷ xs) [] (suc i) e = absurd (omega (arith, e))
    short (x ∷ xs) (y ∷ ys) (suc i) e = let rest = short xs ys i (omega (arith, e)) in omega (arith, rest)
