-- Readings read and drafts written, one by one.
use Rattle.std.proofs.Common.{◌≡◌, ℕ, zero, suc, ◌+◌, ◌-◌, ◌^◌, ◌≤◌, ◌<◌, min, List, [], ◌∷◌, ◌++◌, length, map, get_or, set, take, drop, refl, sym, ap, ◌∙◌, subst, drop-cons, arith}
use Rattle.std.specs.Prelude.{Result, Ok, Err}
use Rattle.std.proofs.lemmas.List.{drop-set-lt, length-map}
use Rattle.std.proofs.Math.ListN.{get_or-map}
use Rattle.outside.specs.code.Counts.{Rose}
use Rattle.outside.specs.code.Parts.{DraftState, ReadState, draft_faults, reading_faults}
use Rattle.outside.specs.declared.host.HostFault.{HostFault}
use Rattle.outside.specs.declared.host.HostFault.TheVariants.{Absent, Failed, Over, Memory}
use Rattle.plan_core.specs.declared.plan.Plan.{Plan}
use Rattle.lease_rules.specs.code.Storing.{pair_limit, AreWithin}
use Rattle.task_work.specs.Making.{AreBegun, AreEmpty, AreWritten, Each, Fits, IsFaultOf, limit_of}
use Rattle.task_work.specs.Pieces.{HasWritten, IsReadFault, IsSteadyDraft, IsSteadyReading}
use Rattle.task_work.proofs.PieceLemmas.{no_longer, steady_draft}

next_is : (k : ℕ) → suc k ≡ k + 1
next_is k = omega arith

-- the element at which a loop is, among those that it hasn't changed yet
pub here_is : {X S : Type 0} (f : X → S) (old now_ : List X) (k : ℕ) (x d : X) → k < length now_ → x ≡ get_or now_ k d → drop k (map f now_) ≡ drop k (map f old) → drop k (map f old) ≡ f x ∷ drop (suc k) (map f now_)
here_is f old now_ k x d less at same =
    let long : length (map f now_) ≡ length now_ = length-map now_ f in
    sym same ∙ drop-cons (map f now_) k (f d) (omega (arith, long, less)) ∙ ap (λ z. z ∷ drop (suc k) (map f now_)) (get_or-map f now_ k d ∙ ap f (sym at))

-- the output at which a loop is
pub output_is : (outs : List (List ℕ)) (k : ℕ) (x bytes : List ℕ) → k < length outs → x ≡ get_or outs k x → bytes ≡ x → drop k outs ≡ bytes ∷ drop (suc k) outs
output_is outs k x bytes less at is = drop-cons outs k x less ∙ ap (λ z. z ∷ drop (suc k) outs) (sym at ∙ sym is)

-- two lists, one by one
pub each_long : {A B : Type 0} (R : A → B → Type 0) (xs : List A) (ys : List B) → Each R xs ys → length xs ≡ length ys
each_long R [] [] h = refl
each_long R [] (y ∷ ys) h = absurd h
each_long R (x ∷ xs) [] h = absurd h
each_long R (x ∷ xs) (y ∷ ys) h = ap suc (each_long R xs ys h.1)

head_is : {A : Type 0} (x z : A) (xs zs : List A) → x ∷ xs ≡ z ∷ zs → x ≡ z
head_is x z xs zs e = cc

tail_is : {A : Type 0} (x z : A) (xs zs : List A) → x ∷ xs ≡ z ∷ zs → xs ≡ zs
tail_is x z xs zs e = cc

each_one_more : {A B : Type 0} (R : A → B → Type 0) (xs : List A) (ys : List B) (k : ℕ) (x : A) (rest : List A) (y : B) → Each R (take k xs) ys → drop k xs ≡ x ∷ rest → R x y → Each R (take (suc k) xs) (ys ++ y ∷ [])
each_one_more R [] ys zero x rest y h cut r = absurd cc
each_one_more R [] ys (suc k) x rest y h cut r = absurd cc
each_one_more R (z ∷ zs) [] zero x rest y h cut r = (subst (λ w. R w y) (sym (head_is z x zs rest cut)) r, tt)
each_one_more R (z ∷ zs) (w ∷ ys) zero x rest y h cut r = absurd h
each_one_more R (z ∷ zs) [] (suc k) x rest y h cut r = absurd h
each_one_more R (z ∷ zs) (w ∷ ys) (suc k) x rest y h cut r = (h.0, each_one_more R zs ys k x rest y h.1 cut r)

pub each_more : {A B : Type 0} (R : A → B → Type 0) (xs : List A) (ys : List B) (k : ℕ) (x : A) (rest : List A) (y : B) → Each R (take k xs) ys → drop k xs ≡ x ∷ rest → R x y → Each R (take (k + 1) xs) (ys ++ y ∷ [])
each_more R xs ys k x rest y h cut r = subst (λ n. Each R (take n xs) (ys ++ y ∷ [])) (next_is k) (each_one_more R xs ys k x rest y h cut r)

pub each_set : {A B : Type 0} (R : A → B → Type 0) (xs : List A) (ys : List B) (k : ℕ) (x : A) (rest : List A) (y : B) → Each R xs ys → drop k xs ≡ x ∷ rest → R x y → Each R xs (set ys k y)
each_set R [] [] zero x rest y h cut r = absurd cc
each_set R [] [] (suc k) x rest y h cut r = absurd cc
each_set R [] (w ∷ ys) k x rest y h cut r = absurd h
each_set R (z ∷ zs) [] k x rest y h cut r = absurd h
each_set R (z ∷ zs) (w ∷ ys) zero x rest y h cut r = (subst (λ v. R v y) (sym (head_is z x zs rest cut)) r, h.1)
each_set R (z ∷ zs) (w ∷ ys) (suc k) x rest y h cut r = (h.0, each_set R zs ys k x rest y h.1 cut r)

pub each_at : {A B : Type 0} (R : A → B → Type 0) (xs : List A) (ys : List B) (k : ℕ) (x : A) (rest : List A) (y : B) (left : List B) → Each R xs ys → drop k xs ≡ x ∷ rest → drop k ys ≡ y ∷ left → R x y
each_at R [] [] zero x rest y left h cut is = absurd cc
each_at R [] [] (suc k) x rest y left h cut is = absurd cc
each_at R [] (w ∷ ys) k x rest y left h cut is = absurd h
each_at R (z ∷ zs) [] k x rest y left h cut is = absurd h
each_at R (z ∷ zs) (w ∷ ys) zero x rest y left h cut is = subst (λ v. R v y) (head_is z x zs rest cut) (subst (R z) (head_is w y ys left is) h.0)
each_at R (z ∷ zs) (w ∷ ys) (suc k) x rest y left h cut is = each_at R zs ys k x rest y left h.1 cut is

take_all : {A : Type 0} (xs : List A) (k : ℕ) → length xs ≤ k → take k xs ≡ xs
take_all [] zero h = refl
take_all [] (suc k) h = refl
take_all (x ∷ xs) zero h = absurd (omega (arith, h))
take_all (x ∷ xs) (suc k) h = ap (λ l. x ∷ l) (take_all xs k (omega (arith, h)))

pub each_whole : {A B : Type 0} (R : A → B → Type 0) (xs : List A) (ys : List B) (k : ℕ) → length xs ≤ k → Each R (take k xs) ys → Each R xs ys
each_whole R xs ys k long h = subst (λ l. Each R l ys) (take_all xs k long) h

-- what a loop hasn't changed yet, after one element more
drop_next : {A : Type 0} (k : ℕ) (xs : List A) → drop (suc k) xs ≡ drop 1 (drop k xs)
drop_next zero xs = refl
drop_next (suc k) [] = refl
drop_next (suc k) (x ∷ xs) = drop_next k xs

left_one : {A : Type 0} (xs ys : List A) (k : ℕ) (y : A) → drop k ys ≡ drop k xs → drop (suc k) (set ys k y) ≡ drop (suc k) xs
left_one xs ys k y e = drop-set-lt (suc k) ys k y (omega arith) ∙ drop_next k ys ∙ ap (drop 1) e ∙ sym (drop_next k xs)

pub left_more : {A : Type 0} (xs ys : List A) (k : ℕ) (y : A) → drop k ys ≡ drop k xs → drop (k + 1) (set ys k y) ≡ drop (k + 1) xs
left_more xs ys k y e = subst (λ n. drop n (set ys k y) ≡ drop n xs) (next_is k) (left_one xs ys k y e)

-- as they were
pub same_reading : (r : ReadState) → IsSteadyReading r r
same_reading r = record { told = refl; size = refl; faults = omega arith }

pub same_draft : (d : DraftState) → IsSteadyDraft d d
same_draft d = steady_draft d d d [] (no_longer d) refl refl refl (omega arith)

pub each_same : {A : Type 0} (R : A → A → Type 0) → ((x : A) → R x x) → (xs : List A) → Each R xs xs
each_same R same [] = tt
each_same R same (x ∷ xs) = (same x, each_same R same xs)

-- counts of parts
pub readings_later : (xs ys : List ReadState) → Each IsSteadyReading xs ys → reading_faults xs ≤ reading_faults ys
readings_later [] [] h = omega arith
readings_later [] (y ∷ ys) h = absurd h
readings_later (x ∷ xs) [] h = absurd h
readings_later (x ∷ xs) (y ∷ ys) h = let a = h.0.faults in let rest = readings_later xs ys h.1 in omega (arith, a, rest)

pub drafts_later : (xs ys : List DraftState) → Each IsSteadyDraft xs ys → draft_faults xs ≤ draft_faults ys
drafts_later [] [] h = omega arith
drafts_later [] (y ∷ ys) h = absurd h
drafts_later (x ∷ xs) [] h = absurd h
drafts_later (x ∷ xs) (y ∷ ys) h = let a = h.0.faults in let rest = drafts_later xs ys h.1 in omega (arith, a, rest)

pub reading_rose : (xs ys : List ReadState) (k : ℕ) (x : ReadState) (rest : List ReadState) (y : ReadState) → Each IsSteadyReading xs ys → drop k xs ≡ x ∷ rest → Rose x.faults y.faults → Rose (reading_faults xs) (reading_faults (set ys k y))
reading_rose [] [] zero x rest y h cut r = absurd cc
reading_rose [] [] (suc k) x rest y h cut r = absurd cc
reading_rose [] (w ∷ ys) k x rest y h cut r = absurd h
reading_rose (z ∷ zs) [] k x rest y h cut r = absurd h
reading_rose (z ∷ zs) (w ∷ ys) zero x rest y h cut r =
    let e : z.faults ≡ x.faults = ap (λ (v : ReadState). v.faults) (head_is z x zs rest cut) in
    let later = readings_later zs ys h.1 in
    omega (arith, e, later, r)
reading_rose (z ∷ zs) (w ∷ ys) (suc k) x rest y h cut r =
    let a : z.faults ≤ w.faults = h.0.faults in
    let more = reading_rose zs ys k x rest y h.1 cut r in
    omega (arith, a, more)

pub draft_rose : (xs ys : List DraftState) (k : ℕ) (x : DraftState) (rest : List DraftState) (y : DraftState) → Each IsSteadyDraft xs ys → drop k xs ≡ x ∷ rest → Rose x.faults y.faults → Rose (draft_faults xs) (draft_faults (set ys k y))
draft_rose [] [] zero x rest y h cut r = absurd cc
draft_rose [] [] (suc k) x rest y h cut r = absurd cc
draft_rose [] (w ∷ ys) k x rest y h cut r = absurd h
draft_rose (z ∷ zs) [] k x rest y h cut r = absurd h
draft_rose (z ∷ zs) (w ∷ ys) zero x rest y h cut r =
    let e : z.faults ≡ x.faults = ap (λ (v : DraftState). v.faults) (head_is z x zs rest cut) in
    let later = drafts_later zs ys h.1 in
    omega (arith, e, later, r)
draft_rose (z ∷ zs) (w ∷ ys) (suc k) x rest y h cut r =
    let a : z.faults ≤ w.faults = h.0.faults in
    let more = draft_rose zs ys k x rest y h.1 cut r in
    omega (arith, a, more)

pub reading_fault : (e : HostFault) (xs ys : List ReadState) (k : ℕ) (x : ReadState) (rest : List ReadState) (y : ReadState) → Each IsSteadyReading xs ys → drop k xs ≡ x ∷ rest → IsReadFault x y e → IsFaultOf (reading_faults xs) (reading_faults (set ys k y)) e
reading_fault Failed xs ys k x rest y h cut r = reading_rose xs ys k x rest y h cut r
reading_fault Memory xs ys k x rest y h cut r = tt
reading_fault e xs ys k x rest y h cut r = absurd r

-- one call of them fails at most
readings_set : (ys : List ReadState) (k : ℕ) (x : ReadState) (rest : List ReadState) (y : ReadState) → drop k ys ≡ x ∷ rest → reading_faults (set ys k y) + x.faults ≡ reading_faults ys + y.faults
readings_set [] zero x rest y cut = absurd cc
readings_set [] (suc k) x rest y cut = absurd cc
readings_set (w ∷ ys) zero x rest y cut = let e : w.faults ≡ x.faults = ap (λ (v : ReadState). v.faults) (head_is w x ys rest cut) in omega (arith, e)
readings_set (w ∷ ys) (suc k) x rest y cut = let more = readings_set ys k x rest y cut in omega (arith, more)

drafts_set : (ys : List DraftState) (k : ℕ) (x : DraftState) (rest : List DraftState) (y : DraftState) → drop k ys ≡ x ∷ rest → draft_faults (set ys k y) + x.faults ≡ draft_faults ys + y.faults
drafts_set [] zero x rest y cut = absurd cc
drafts_set [] (suc k) x rest y cut = absurd cc
drafts_set (w ∷ ys) zero x rest y cut = let e : w.faults ≡ x.faults = ap (λ (v : DraftState). v.faults) (head_is w x ys rest cut) in omega (arith, e)
drafts_set (w ∷ ys) (suc k) x rest y cut = let more = drafts_set ys k x rest y cut in omega (arith, more)

pub readings_once : (xs ys : List ReadState) (k : ℕ) (x : ReadState) (rest : List ReadState) (y : ReadState) (n : ℕ) → reading_faults ys ≤ reading_faults xs → drop k ys ≡ drop k xs → drop k xs ≡ x ∷ rest → y.faults ≤ x.faults + n → reading_faults (set ys k y) ≤ reading_faults xs + n
readings_once xs ys k x rest y n few same cut one = let sum = readings_set ys k x rest y (same ∙ cut) in omega (arith, few, one, sum)

pub drafts_once : (xs ys : List DraftState) (k : ℕ) (x : DraftState) (rest : List DraftState) (y : DraftState) (n : ℕ) → draft_faults ys ≤ draft_faults xs → drop k ys ≡ drop k xs → drop k xs ≡ x ∷ rest → y.faults ≤ x.faults + n → draft_faults (set ys k y) ≤ draft_faults xs + n
drafts_once xs ys k x rest y n few same cut one = let sum = drafts_set ys k x rest y (same ∙ cut) in omega (arith, few, one, sum)

-- a draft that was written, or that wasn't
pub written_steady : (d e : DraftState) (bytes : List ℕ) (result : Result (Unit {0}) HostFault) → d.size ≡ 0 → HasWritten d e bytes result → IsSteadyDraft d e
written_steady d e bytes (Ok u) empty h =
    let f : e.faults ≡ d.faults = h.3 in
    let s : e.size ≡ length bytes = h.1 in
    record { bytes = bytes; told = h.0; size = omega (arith, s, empty); limit = h.2; faults = omega (arith, f) }
written_steady d e bytes (Err Absent) empty h = absurd h
written_steady d e bytes (Err (Over l n)) empty h = absurd h
written_steady d e bytes (Err Failed) empty h = steady_draft d d e [] (no_longer d) (ap (λ (z : DraftState). z.told) h.0) (ap (λ (z : DraftState). z.size) h.0) (ap (λ (z : DraftState). z.limit) h.0) h.1
written_steady d e bytes (Err Memory) empty h = subst (IsSteadyDraft d) (sym h) (same_draft d)

pub draft_fault : (e : HostFault) (xs ys : List DraftState) (k : ℕ) (x : DraftState) (rest : List DraftState) (y : DraftState) (bytes : List ℕ) → Each IsSteadyDraft xs ys → drop k xs ≡ x ∷ rest → HasWritten x y bytes (Err e) → IsFaultOf (draft_faults xs) (draft_faults (set ys k y)) e
draft_fault Failed xs ys k x rest y bytes h cut wrote =
    let f : y.faults ≡ min (x.faults + 1) (2 ^ 64 - 1) = ap (λ (z : DraftState). z.faults) wrote.0 in
    draft_rose xs ys k x rest y h cut (omega (arith, f))
draft_fault Memory xs ys k x rest y bytes h cut wrote = tt
draft_fault Absent xs ys k x rest y bytes h cut wrote = absurd wrote
draft_fault (Over l n) xs ys k x rest y bytes h cut wrote = absurd wrote

pub empty_at : (ds : List DraftState) (k : ℕ) (d : DraftState) (rest : List DraftState) → AreEmpty ds → drop k ds ≡ d ∷ rest → d.size ≡ 0
empty_at [] zero d rest h cut = absurd cc
empty_at [] (suc k) d rest h cut = absurd cc
empty_at (z ∷ zs) zero d rest h cut = sym (ap (λ (v : DraftState). v.size) (head_is z d zs rest cut)) ∙ h.0
empty_at (z ∷ zs) (suc k) d rest h cut = empty_at zs k d rest h.1 cut

pub begun_at : (rs : List ReadState) (k : ℕ) (r : ReadState) (rest : List ReadState) → AreBegun rs → drop k rs ≡ r ∷ rest → r.given ≡ 0
begun_at [] zero r rest h cut = absurd cc
begun_at [] (suc k) r rest h cut = absurd cc
begun_at (z ∷ zs) zero r rest h cut = sym (ap (λ (v : ReadState). v.given) (head_is z r zs rest cut)) ∙ h.0
begun_at (z ∷ zs) (suc k) r rest h cut = begun_at zs k r rest h.1 cut

written_one : (ds es : List DraftState) (bs : List (List ℕ)) (k : ℕ) (d e : DraftState) (b : List ℕ) (rest : List DraftState) (left : List (List ℕ)) → AreWritten (take k ds) (take k es) (take k bs) → length ds ≡ length es → drop k ds ≡ d ∷ rest → drop k bs ≡ b ∷ left → HasWritten d e b (Ok tt) → AreWritten (take (suc k) ds) (take (suc k) (set es k e)) (take (suc k) bs)
written_one [] es bs zero d e b rest left h long cut is w = absurd cc
written_one [] es bs (suc k) d e b rest left h long cut is w = absurd cc
written_one (x ∷ ds) [] bs k d e b rest left h long cut is w = absurd (omega (arith, long))
written_one (x ∷ ds) (y ∷ es) [] zero d e b rest left h long cut is w = absurd cc
written_one (x ∷ ds) (y ∷ es) [] (suc k) d e b rest left h long cut is w = absurd cc
written_one (x ∷ ds) (y ∷ es) (c ∷ bs) zero d e b rest left h long cut is w =
    (subst (λ v. HasWritten v e c (Ok tt)) (sym (head_is x d ds rest cut)) (subst (λ v. HasWritten d e v (Ok tt)) (sym (head_is c b bs left is)) w), tt)
written_one (x ∷ ds) (y ∷ es) (c ∷ bs) (suc k) d e b rest left h long cut is w = (h.0, written_one ds es bs k d e b rest left h.1 (omega (arith, long)) cut is w)

pub written_more : (ds es : List DraftState) (bs : List (List ℕ)) (k : ℕ) (d e : DraftState) (b : List ℕ) (rest : List DraftState) (left : List (List ℕ)) → AreWritten (take k ds) (take k es) (take k bs) → length ds ≡ length es → drop k ds ≡ d ∷ rest → drop k bs ≡ b ∷ left → HasWritten d e b (Ok tt) → AreWritten (take (k + 1) ds) (take (k + 1) (set es k e)) (take (k + 1) bs)
written_more ds es bs k d e b rest left h long cut is w = subst (λ n. AreWritten (take n ds) (take n (set es k e)) (take n bs)) (next_is k) (written_one ds es bs k d e b rest left h long cut is w)

pub written_whole : (ds es : List DraftState) (bs : List (List ℕ)) (k : ℕ) → length bs ≤ k → length ds ≡ length bs → length ds ≡ length es → AreWritten (take k ds) (take k es) (take k bs) → AreWritten ds es bs
written_whole ds es bs k long a b h =
    subst (λ l. AreWritten l es bs) (take_all ds k (omega (arith, long, a)))
    (subst (λ l. AreWritten (take k ds) l bs) (take_all es k (omega (arith, long, a, b)))
    (subst (λ l. AreWritten (take k ds) (take k es) l) (take_all bs k long) h))

-- outputs that are within the declared sizes have room
pub all_fit : (p : Plan) (qs : List ℕ) (ds : List DraftState) (bs : List (List ℕ)) → map limit_of ds ≡ map (pair_limit p) qs → length bs ≡ length qs → AreWithin p qs bs → Each Fits ds bs
all_fit p [] [] [] limits many within = tt
all_fit p [] [] (b ∷ bs) limits many within = absurd (omega (arith, many))
all_fit p [] (d ∷ ds) bs limits many within = absurd cc
all_fit p (q ∷ qs) [] bs limits many within = absurd cc
all_fit p (q ∷ qs) (d ∷ ds) [] limits many within = absurd (omega (arith, many))
all_fit p (q ∷ qs) (d ∷ ds) (b ∷ bs) limits many within =
    let l : d.limit ≡ pair_limit p q = head_is (limit_of d) (pair_limit p q) (map limit_of ds) (map (pair_limit p) qs) limits in
    let w : length b ≤ pair_limit p q = within.0 in
    (omega (arith, l, w), all_fit p qs ds bs (tail_is (limit_of d) (pair_limit p q) (map limit_of ds) (map (pair_limit p) qs) limits) (omega (arith, many)) within.1)
