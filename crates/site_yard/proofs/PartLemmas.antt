-- Readings and drafts, one more.
use Rattle.std.proofs.Common.{◌≡◌, ℕ, zero, suc, ◌+◌, ◌≤◌, ◌<◌, inl, inr, true, List, [], ◌∷◌, ◌++◌, map, length, get_or, take, refl, sym, ap, ◌∙◌, subst, nat_eq, arith}
use Rattle.std.specs.Prelude.{Option, Some, None, option_map, IfNone, IfOk, IfSome, Result, Ok, Err}
use Rattle.std.specs.Result.{result_ok}
use Rattle.std.proofs.lemmas.List.{map-append}
use Rattle.outside.specs.code.Counts.{IsLater}
use Rattle.outside.specs.declared.counts.Counts.{Counts}
use Rattle.values.specs.declared.numbers.PairId.{PairId}
use Rattle.outside.specs.declared.store.Store.{Store}
use Rattle.outside.specs.code.Lending.{IsOpened}
use Rattle.outside.specs.code.Parts.{DraftState, ReadState, draft_faults, reading_faults}
use Rattle.plan_core.specs.declared.plan.Plan.{Plan}
use Rattle.plan_core.specs.Numbers.{has}
use Rattle.plan_core.specs.Words.{kind, pair_numbers, reads}
use Rattle.plan_core.proofs.TestLemmas.{is_itself, or_left, or_right}
use Rattle.run_record.specs.declared.entry.Cause.{Cause}
use Rattle.run_record.specs.declared.entry.Cause.TheVariants.{Absent, HostFailed, Memory, TooLong}
use Rattle.plan_core.specs.declared.plan.TaskKind.{TaskKind}
use Rattle.plan_core.specs.declared.plan.TaskKind.TheVariants.{Transfer, Run, Clean as CleanTask}
use Rattle.plan_core.specs.declared.plan.Source.TheVariants.{Pfn, Site}
use Rattle.site_yard.specs.code.Failures.{AreMore}
use Rattle.site_yard.specs.code.Lending.{IsHostCause, IsPairCause, IsPairsCause, IsRefusedAfter, IsReplicaCause, IsUnfit, RefusesLoan, RefusesReadings, SomeUnfit}
use Rattle.site_yard.specs.code.Loan.{Aim, AreOpened, at_pair, count_readings, fresh_at, pair_target, targets}
use Rattle.lease_rules.specs.code.Storing.{pair_limit}
use Rattle.site_yard.proofs.CountingLemmas.{after_done, done_before, more_then, none_after, same_more}

one_more : (k : ℕ) → suc k ≡ k + 1
one_more k = omega arith

pub nth_in : (qs : List PairId) (k : ℕ) (x : PairId) → k < length qs → has (pair_numbers qs) (get_or qs k x).0 ≡ true
nth_in [] k x h = absurd (omega (arith, h))
nth_in (q ∷ qs) zero x h = or_left (nat_eq q.0 q.0) (has (pair_numbers qs) q.0) (is_itself q.0)
nth_in (q ∷ qs) (suc k) x h = or_right (nat_eq q.0 (get_or qs k x).0) (has (pair_numbers qs) (get_or qs k x).0) (nth_in qs k x (omega (arith, h)))

opened_and : (p : Plan) (told : Option Store) (qs : List PairId) (ss : List ReadState) (k : ℕ) (x : PairId) (s : ReadState) → k < length qs → length ss ≡ k → AreOpened p (pair_numbers (take k qs)) told ss → IsOpened (option_map (λ z. at_pair p z (get_or qs k x).0) told) (pair_limit p (get_or qs k x).0) s → AreOpened p (pair_numbers (take (suc k) qs)) told (ss ++ s ∷ [])
opened_and p told [] ss k x s less same all here = absurd (omega (arith, less))
opened_and p told (q ∷ qs) [] zero x s less same all here = (here, tt)
opened_and p told (q ∷ qs) [] (suc k) x s less same all here = absurd (omega (arith, same))
opened_and p told (q ∷ qs) (d ∷ ss) zero x s less same all here = absurd (omega (arith, same))
opened_and p told (q ∷ qs) (d ∷ ss) (suc k) x s less same all here = (all.0, opened_and p told qs ss k x s (omega (arith, less)) (omega (arith, same)) all.1 here)

pub opened_more : {X : Type 0} (f : X → ReadState) (p : Plan) (o n : Option Store) (qs : List PairId) (rs new : List X) (k : ℕ) (x : PairId) (r : X) → k < length qs → length rs ≡ k → n ≡ o → new ≡ rs ++ r ∷ [] → length (map f rs) ≡ length rs → AreOpened p (pair_numbers (take k qs)) o (map f rs) → IsOpened (option_map (λ z. at_pair p z (get_or qs k x).0) n) (pair_limit p (get_or qs k x).0) (f r) → AreOpened p (pair_numbers (take (k + 1) qs)) o (map f new)
opened_more f p o n qs rs new k x r less same told is long all here =
    subst (λ m. AreOpened p (pair_numbers (take m qs)) o (map f new)) (one_more k)
    (subst (AreOpened p (pair_numbers (take (suc k) qs)) o) (sym (ap (map f) is ∙ map-append f rs (r ∷ [])))
    (opened_and p o qs (map f rs) k x (f r) less (long ∙ same) all (subst (λ z. IsOpened (option_map (λ y. at_pair p y (get_or qs k x).0) z) (pair_limit p (get_or qs k x).0) (f r)) told here)))

-- a pair that couldn't be opened
some_unfit : (p : Plan) (qs : List ℕ) (q : ℕ) (o : Option Store) → has qs q ≡ true → IfSome o (λ s. IsUnfit (pair_limit p q) (at_pair p s q)) → IfSome o (SomeUnfit p qs)
some_unfit p qs q None h f = tt
some_unfit p qs q (Some s) h f = (q, h, f)

-- a cause, when the counts are looked at over a longer time
pub host_cause_map : (C D : ℕ → ℕ → Type 0) (cause : Cause) → ((f m : ℕ) → C f m → D f m) → IsHostCause C cause → IsHostCause D cause
host_cause_map C D HostFailed over why = over 1 0 why
host_cause_map C D Memory over why = over 0 0 why
host_cause_map C D cause over why = absurd why

pairs_cause_map : (p : Plan) (qs : List ℕ) (o : Option Store) (C D : ℕ → ℕ → Type 0) (cause : Cause) → ((f m : ℕ) → C f m → D f m) → IsPairsCause p qs o C cause → IsPairsCause p qs o D cause
pairs_cause_map p qs o C D HostFailed over (inl why) = inl (over 1 0 why)
pairs_cause_map p qs o C D HostFailed over (inr why) = inr (over 0 1 why.0, why.1)
pairs_cause_map p qs o C D Memory over why = over 0 0 why
pairs_cause_map p qs o C D cause over why = absurd why

replica_cause_map : (p : Plan) (f : ℕ) (found : Option (Option (List ℕ))) (C D : ℕ → ℕ → Type 0) (cause : Cause) → ((f m : ℕ) → C f m → D f m) → IsReplicaCause p f found C cause → IsReplicaCause p f found D cause
replica_cause_map p f found C D Absent over why = (over 0 1 why.0, why.1)
replica_cause_map p f found C D (TooLong n) over why = (over 0 1 why.0, why.1, why.2)
replica_cause_map p f found C D HostFailed over why = over 1 0 why
replica_cause_map p f found C D Memory over why = over 0 0 why
replica_cause_map p f found C D cause over why = absurd why

readings_cause_map : (p : Plan) (k : Option TaskKind) (qs : List ℕ) (o : Option Store) (C D : ℕ → ℕ → Type 0) (cause : Cause) → ((f m : ℕ) → C f m → D f m) → RefusesReadings p k qs o C cause → RefusesReadings p k qs o D cause
readings_cause_map p None qs o C D cause over why = pairs_cause_map p qs o C D cause over why
readings_cause_map p (Some (Run a js)) qs o C D cause over why = pairs_cause_map p qs o C D cause over why
readings_cause_map p (Some (CleanTask q)) qs o C D cause over why = pairs_cause_map p qs o C D cause over why
readings_cause_map p (Some (Transfer g (Site a) to)) qs o C D cause over why = pairs_cause_map p qs o C D cause over why
readings_cause_map p (Some (Transfer g (Pfn x) to)) qs o C D cause over why = replica_cause_map p g.0 _ C D cause over why

pair_to_pairs : (p : Plan) (qs : List ℕ) (q : ℕ) (o : Option Store) (C D : ℕ → ℕ → Type 0) (cause : Cause) → has qs q ≡ true → ((f m : ℕ) → C f m → D f m) → IsPairCause p q o C cause → IsPairsCause p qs o D cause
pair_to_pairs p qs q o C D HostFailed h over (inl why) = inl (over 1 0 why)
pair_to_pairs p qs q o C D HostFailed h over (inr why) = inr (over 0 1 why.0, some_unfit p qs q o h why.1)
pair_to_pairs p qs q o C D Memory h over why = over 0 0 why
pair_to_pairs p qs q o C D cause h over why = absurd why

pub open_stops : (p : Plan) (qs : List ℕ) (q : ℕ) (o n : Option Store) (k : ℕ) (first before now_ : Counts) (cause : Cause) → n ≡ o → has qs q ≡ true → k ≤ length qs → AreMore k 0 0 first before → IsLater before now_ → IsPairCause p q n (λ f m. AreMore 0 f m before now_) cause → IsRefusedAfter (length qs) first now_ (λ C. IsPairsCause p qs o C cause)
open_stops p qs q o n k first before now_ cause same h less done later why =
    record { calls = k; within = less; why = pair_to_pairs p qs q o (λ f m. AreMore 0 f m before now_) (λ f m. AreMore k f m first now_) cause h (λ f m x. after_done k f m first before now_ done x later) (subst (λ z. IsPairCause p q z (λ f m. AreMore 0 f m before now_) cause) same why) }

-- all parts have no fault
pub readings_whole : (p : Plan) (qs : List ℕ) (o : Option Store) (ss : List ReadState) → AreOpened p qs o ss → reading_faults ss ≡ 0
readings_whole p [] o [] h = refl
readings_whole p [] o (s ∷ ss) h = absurd h
readings_whole p (q ∷ qs) o [] h = absurd h
readings_whole p (q ∷ qs) o (s ∷ ss) h = let f : s.faults ≡ 0 = h.0.faults in let r = readings_whole p qs o ss h.1 in omega (arith, f, r)

pub replica_whole : (found : Option (Option (List ℕ))) (limit : ℕ) (s : ReadState) → IsOpened found limit s → reading_faults (s ∷ []) ≡ 0
replica_whole found limit s h = let f : s.faults ≡ 0 = h.faults in omega (arith, f)

pub drafts_whole : (o : Option Store) (xs : List Aim) → draft_faults (map (fresh_at o) xs) ≡ 0
drafts_whole o [] = refl
drafts_whole o (x ∷ xs) = let more = drafts_whole o xs in omega (arith, more)

pub targets_long : (p : Plan) (qs : List PairId) → length (map (pair_target p) (pair_numbers qs)) ≡ length qs
targets_long p [] = refl
targets_long p (q ∷ qs) = ap suc (targets_long p qs)

pub numbers_long : (qs : List PairId) → length (pair_numbers qs) ≡ length qs
numbers_long [] = refl
numbers_long (q ∷ qs) = ap suc (numbers_long qs)

-- drafts
drafted_and : (p : Plan) (told : Option Store) (qs : List PairId) (k : ℕ) (x : PairId) → k < length qs → map (fresh_at told) (map (pair_target p) (pair_numbers (take (suc k) qs))) ≡ map (fresh_at told) (map (pair_target p) (pair_numbers (take k qs))) ++ fresh_at told (pair_target p (get_or qs k x).0) ∷ []
drafted_and p told [] k x less = absurd (omega (arith, less))
drafted_and p told (q ∷ qs) zero x less = refl
drafted_and p told (q ∷ qs) (suc k) x less = ap (λ l. fresh_at told (pair_target p q.0) ∷ l) (drafted_and p told qs k x (omega (arith, less)))

pub drafted_more : {X : Type 0} (f : X → DraftState) (p : Plan) (o n : Option Store) (qs : List PairId) (ds new : List X) (k : ℕ) (x : PairId) (d : X) → k < length qs → n ≡ o → new ≡ ds ++ d ∷ [] → map f ds ≡ map (fresh_at o) (map (pair_target p) (pair_numbers (take k qs))) → f d ≡ fresh_at n (pair_target p (get_or qs k x).0) → map f new ≡ map (fresh_at o) (map (pair_target p) (pair_numbers (take (k + 1) qs)))
drafted_more f p o n qs ds new k x d less told is all here =
    ap (map f) is ∙ map-append f ds (d ∷ []) ∙ ap (λ l. l ++ f d ∷ []) all
    ∙ ap (λ z. map (fresh_at o) (map (pair_target p) (pair_numbers (take k qs))) ++ z ∷ []) (here ∙ ap (λ t. fresh_at t (pair_target p (get_or qs k x).0)) told)
    ∙ sym (drafted_and p o qs k x less)
    ∙ ap (λ m. map (fresh_at o) (map (pair_target p) (pair_numbers (take m qs)))) (one_more k)

pub draft_stops : (most k : ℕ) (first before now_ : Counts) (cause : Cause) → k ≤ most → AreMore k 0 0 first before → IsLater before now_ → IsHostCause (λ f m. AreMore 0 f m before now_) cause → IsRefusedAfter most first now_ (λ C. IsHostCause C cause)
draft_stops most k first before now_ cause less done later why =
    record { calls = k; within = less; why = host_cause_map (λ f m. AreMore 0 f m before now_) (λ f m. AreMore k f m first now_) cause (λ f m x. after_done k f m first before now_ done x later) why }

pub later_both : (a b c : Counts) → IsLater a b → IsLater b c → IsLater a c
later_both a b c x y =
    let xd : a.done ≤ b.done = x.done in
    let xf : a.faults ≤ b.faults = x.faults in
    let xm : a.misses ≤ b.misses = x.misses in
    let yd : b.done ≤ c.done = y.done in
    let yf : b.faults ≤ c.faults = y.faults in
    let ym : b.misses ≤ c.misses = y.misses in
    record { done = omega (arith, xd, yd); faults = omega (arith, xf, yf); misses = omega (arith, xm, ym) }

-- why a loan wasn't made: its readings, or its drafts; what was opened is given back
pub readings_refused : (p : Plan) (t : ℕ) (o : Option Store) (first mid now_ : Counts) (cause : Cause) → IsRefusedAfter (count_readings (kind p t) (reads p t)) first mid (λ C. RefusesReadings p (kind p t) (reads p t) o C cause) → AreMore 0 0 0 mid now_ → IsLater mid now_ → RefusesLoan p t o first now_ cause
readings_refused p t o first mid now_ cause why still later =
    let less : why.calls ≤ count_readings (kind p t) (reads p t) = why.within in
    record {
      calls = why.calls;
      within = omega (arith, less);
      why = inl (readings_cause_map p (kind p t) (reads p t) o (λ f m. AreMore why.calls f m first mid) (λ f m. AreMore why.calls f m first now_) cause (λ f m x. none_after why.calls f m first mid now_ x still later) why.why);
    }

pub drafts_refused : (p : Plan) (t : ℕ) (o : Option Store) (first mid made now_ : Counts) (cause : Cause) → AreMore (count_readings (kind p t) (reads p t)) 0 0 first mid → IsLater mid made → IsRefusedAfter (length (targets p t)) mid made (λ C. IsHostCause C cause) → AreMore 0 0 0 made now_ → IsLater made now_ → RefusesLoan p t o first now_ cause
drafts_refused p t o first mid made now_ cause opened_ late why still later =
    let n : ℕ = count_readings (kind p t) (reads p t) in
    let less : why.calls ≤ length (targets p t) = why.within in
    record {
      calls = n + why.calls;
      within = omega (arith, less);
      why = inr (host_cause_map (λ f m. AreMore why.calls f m mid made) (λ f m. AreMore (n + why.calls) f m first now_) cause (λ f m x. none_after (n + why.calls) f m first made now_ (done_before n why.calls f m first mid made opened_ x late) still later) why.why);
    }

-- want of memory before the first call
pub wants_loan : (p : Plan) (t : ℕ) (o : Option Store) (c : Counts) → RefusesLoan p t o c c Memory
wants_loan p t o c = record { calls = 0; within = omega arith; why = inr (same_more c c refl) }

-- two steps that give back parts without a fault
pub both_whole : (r d : ℕ) (a b c : Counts) → r ≡ 0 → d ≡ 0 → AreMore 0 r 0 a b → AreMore 0 d 0 b c → IsLater b c → AreMore 0 0 0 a c
both_whole r d a b c rz dz first second later = more_then 0 0 0 r d 0 0 0 0 a b c (omega arith) (omega (arith, rz, dz)) (omega arith) first second later

pub given_whole : (r : ℕ) (a b : Counts) → r ≡ 0 → AreMore 0 r 0 a b → AreMore 0 0 0 a b
given_whole r a b none more = subst (λ n. AreMore 0 n 0 a b) none more

-- what an answer says of what is taken out of it
pub some_if_ok : {A E : Type 0} (r : Result A E) (o : Option A) (P : A → Type 0) → o ≡ result_ok r → IfOk r P → IfSome o P
some_if_ok (Ok a) o P is h = subst (λ (z : Option _). IfSome z P) (sym is) h
some_if_ok (Err e) o P is h = subst (λ (z : Option _). IfSome z P) (sym is) tt

pub if_ok_both : {A E : Type 0} (r : Result A E) (P Q R : A → Type 0) → ((a : A) → P a → Q a → R a) → IfOk r P → IfOk r Q → IfOk r R
if_ok_both (Ok a) P Q R f h k = f a h k
if_ok_both (Err e) P Q R f h k = tt

pub none_if_err : {A E : Type 0} (r : Result A E) (o : Option A) (e : E) (P : Type 0) → o ≡ result_ok r → r ≡ Err e → P → IfNone o P
none_if_err r o e P is err h = subst (λ (z : Option _). IfNone z P) (sym (is ∙ ap result_ok err)) h

pub some_if_none : {A E : Type 0} (r : Result A E) (o : Option A) (a : A) (P : Type 0) → o ≡ result_ok r → r ≡ Ok a → IfNone o P
some_if_none r o a P is ok = subst (λ (z : Option _). IfNone z P) (sym (is ∙ ap result_ok ok)) tt
