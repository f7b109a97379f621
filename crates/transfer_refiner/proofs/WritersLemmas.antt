-- Which tasks write a pair.
use Rattle.std.proofs.Common.{◌≡◌, ◌≢◌, ℕ, zero, suc, ◌+◌, ◌<◌, ◌≤◌, ◌||◌, ◌&&◌, Bool, true, false, List, [], ◌++◌, length, nat_eq, nat_lt, refl, sym, ap, ◌∙◌, arith, add-one, All, ◌⊎◌, inl, inr}
use Rattle.std.specs.Prelude.{Option, slice_get}
use Rattle.std.specs.List.{list_any}
use Rattle.std.proofs.lemmas.Bool.{cases_lt}
use Rattle.std.proofs.lemmas.Option.{slice_get_past}
use Rattle.std.proofs.lemmas.List.Folds.{list_any-append}
use Rattle.plan_core.specs.declared.plan.Task.{Task}
use Rattle.plan_core.specs.Numbers.{has}
use Rattle.plan_core.specs.Words.{writes_in}
use Rattle.transfer_refiner.specs.code.Edges.{fan}
use Rattle.transfer_refiner.specs.code.Steps.{writer_edges}
use Rattle.plan_core.proofs.TestLemmas.{same_number, other_number, by_bool}
use Rattle.transfer_refiner.proofs.EdgesLemmas.{is_edge, fan_any, all_edges}

pub writer_none : (ts : List Task) → writer_edges ts 0 ≡ []
unfolding writer_edges
writer_none ts = refl

pub writer_more : (ts : List Task) (n : ℕ) → writer_edges ts (n + 1) ≡ writer_edges ts n ++ fan n (writes_in (slice_get ts n))
unfolding writer_edges
writer_more ts n = rw add-one refl

low : (a b : ℕ) → a < b → nat_lt a b ≡ true
low a b l = grind arith

not_low : (a b : ℕ) → b ≤ a → nat_lt a b ≡ false
not_low a b l = grind arith

abbrev written : List Task → ℕ → ℕ → Bool
written ts t q = has (writes_in (slice_get ts t)) q

any_writer : (ts : List Task) (n t q : ℕ) → list_any (is_edge t q) (writer_edges ts n) ≡ (nat_lt t n && written ts t q)
unfolding writer_edges
any_writer ts zero t q = sym (ap (λ (b : Bool). b && written ts t q) (not_low t 0 (omega arith)))
any_writer ts (suc n) t q =
    list_any-append (is_edge t q) (writer_edges ts n) (fan n (writes_in (slice_get ts n)))
    ∙ ap (λ (b : Bool). b || list_any (is_edge t q) (fan n (writes_in (slice_get ts n)))) (any_writer ts n t q)
    ∙ ap (λ (b : Bool). (nat_lt t n && written ts t q) || b) (fan_any n (writes_in (slice_get ts n)) t q)
    ∙ by_bool (nat_eq n t) here there
  where
    none : (b : Bool) → (b || false) ≡ b
    none true = refl
    none false = refl

    here : nat_eq n t ≡ true → ((nat_lt t n && written ts t q) || (nat_eq n t && written ts n q)) ≡ (nat_lt t (suc n) && written ts t q)
    here e =
        let same : n ≡ t = same_number n t e in
        ap (λ (b : Bool). (b && written ts t q) || (nat_eq n t && written ts n q)) (not_low t n (omega arith))
        ∙ ap (λ (b : Bool). b && written ts n q) e ∙ ap (λ (m : ℕ). written ts m q) same
        ∙ sym (ap (λ (b : Bool). b && written ts t q) (low t (suc n) (omega arith)))

    lower : nat_eq n t ≡ false → (t < n) ⊎ (n ≤ t) → nat_lt t n ≡ nat_lt t (suc n)
    lower e (inl l) = low t n l ∙ sym (low t (suc n) (omega arith))
    lower e (inr l) = let off : n ≢ t = other_number n t e in not_low t n l ∙ sym (not_low t (suc n) (omega arith))

    there : nat_eq n t ≡ false → ((nat_lt t n && written ts t q) || (nat_eq n t && written ts n q)) ≡ (nat_lt t (suc n) && written ts t q)
    there e = ap (λ (b : Bool). (nat_lt t n && written ts t q) || (b && written ts n q)) e ∙ none (nat_lt t n && written ts t q) ∙ ap (λ (b : Bool). b && written ts t q) (lower e (cases_lt t n))

pub task_below : (ts : List Task) (t q : ℕ) → has (writes_in (slice_get ts t)) q ≡ true → t < length ts
task_below ts t q h = by (cases_lt t (length ts))
  where
    by : (t < length ts) ⊎ (length ts ≤ t) → t < length ts
    by (inl l) = l
    by (inr l) = absurd (let x : false ≡ true = ap (λ (o : Option Task). has (writes_in o) q) (sym (slice_get_past ts t l)) ∙ h in cc)

pub writers_are : (ts : List Task) (es : List (ℕ × ℕ)) → es ≡ writer_edges ts (length ts) → (t q : ℕ) → list_any (is_edge t q) es ≡ has (writes_in (slice_get ts t)) q
writers_are ts es is t q = ap (list_any (is_edge t q)) is ∙ any_writer ts (length ts) t q ∙ by_bool (written ts t q)
    (λ h. ap (λ (b : Bool). b && written ts t q) (low t (length ts) (task_below ts t q h)))
    (λ h. ap (λ (b : Bool). nat_lt t (length ts) && b) h ∙ and_no (nat_lt t (length ts)) ∙ sym h)
  where
    and_no : (x : Bool) → (x && false) ≡ false
    and_no true = refl
    and_no false = refl

pub writers_within : (ts : List Task) (es : List (ℕ × ℕ)) (n pairs : ℕ) → es ≡ writer_edges ts (length ts) → ((t q : ℕ) → has (writes_in (slice_get ts t)) q ≡ true → q < pairs) → length ts ≤ n → pairs ≤ n → All (λ (p : ℕ × ℕ). (p.0 < n) × (p.1 < n)) es
writers_within ts es n pairs is range tasks more = all_edges (λ (p : ℕ × ℕ). (p.0 < n) × (p.1 < n)) es (λ a b k.
    let h : has (writes_in (slice_get ts a)) b ≡ true = sym (writers_are ts es is a b) ∙ k in
    let one : a < length ts = task_below ts a b h in
    let two : b < pairs = range a b h in
    (omega (arith, one, tasks), omega (arith, two, more)))
