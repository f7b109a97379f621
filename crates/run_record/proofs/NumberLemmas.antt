-- The number that a word writes, next to what `parse` answers.
use Rattle.std.proofs.Common.{◌≡◌, ℕ, ◌^◌, ◌<◌, ◌&&◌, Bool, true, false, ltb, List, [], ◌∷◌, Some, None, Result, Ok, Err, length, refl, sym, ap, ◌∙◌}
use Rattle.std.specs.List.{list_all}
use Rattle.std.specs.Result.{result_ok}
use Rattle.std.specs.Char.{digit_value}
use Rattle.std.specs.Fmt.{decimal}
use Rattle.std.specs.Str.Parse.{AllDigits, IsNumeral, ParsesUnsigned, digits_value, without_leading_plus}
use Rattle.std.proofs.lemmas.Bool.{and_parts, and_from, ltb-true, lt-ltb}
use Rattle.std.proofs.lemmas.Fmt.{parse-decimal}
use Rattle.run_record.specs.code.Reading.{is_numeral, numeral_value, number_of}

digits_to : (ds : List ℕ) → list_all (λ (b : ℕ). ltb (digit_value b) 10) ds ≡ true → AllDigits 10 ds
digits_to [] h = tt
digits_to (b ∷ bs) h =
    let parts = and_parts (ltb (digit_value b) 10) (list_all (λ (c : ℕ). ltb (digit_value c) 10) bs) h in
    (ltb-true (digit_value b) 10 parts.0, digits_to bs parts.1)

digits_from : (ds : List ℕ) → AllDigits 10 ds → list_all (λ (b : ℕ). ltb (digit_value b) 10) ds ≡ true
digits_from [] h = refl
digits_from (b ∷ bs) h = and_from (ltb (digit_value b) 10) (list_all (λ (c : ℕ). ltb (digit_value c) 10) bs) (lt-ltb (digit_value b) 10 h.0) (digits_from bs h.1)

-- the test of numeral_value
abbrev passes : ℕ → List ℕ → Bool
passes k ds = is_numeral ds && ltb (digits_value 10 ds) (2 ^ k)

passes_to : (k : ℕ) (ds : List ℕ) → passes k ds ≡ true → IsNumeral 10 ds × (digits_value 10 ds < 2 ^ k)
passes_to k ds h =
    let parts = and_parts (is_numeral ds) (ltb (digits_value 10 ds) (2 ^ k)) h in
    let numeral = and_parts (ltb 0 (length ds)) (list_all (λ (b : ℕ). ltb (digit_value b) 10) ds) parts.0 in
    ((ltb-true 0 (length ds) numeral.0, digits_to ds numeral.1), ltb-true (digits_value 10 ds) (2 ^ k) parts.1)

passes_from : (k : ℕ) (ds : List ℕ) → IsNumeral 10 ds → digits_value 10 ds < 2 ^ k → passes k ds ≡ true
passes_from k ds h l =
    and_from (is_numeral ds) (ltb (digits_value 10 ds) (2 ^ k))
    (and_from (ltb 0 (length ds)) (list_all (λ (b : ℕ). ltb (digit_value b) 10) ds) (lt-ltb 0 (length ds) h.0) (digits_from ds h.1))
    (lt-ltb (digits_value 10 ds) (2 ^ k) l)

abbrev taken : {E : Type 0} → Bool → ℕ → E → Result ℕ E
taken true v e = Ok v
taken false v e = Err e

-- what `parse` may answer is decided by the test
decided : {E : Type 0} (k : ℕ) (text : List ℕ) (e : E) (t : Bool) → passes k (without_leading_plus text) ≡ t → ParsesUnsigned k 10 text (taken t (digits_value 10 (without_leading_plus text)) e)
decided k text e true h = (passes_to k (without_leading_plus text) h, refl)
decided k text e false h = λ p. absurd (cc (h, passes_from k (without_leading_plus text) p.0 p.1))

value_by : (k : ℕ) (ds : List ℕ) (t : Bool) → passes k ds ≡ t → numeral_value k ds ≡ result_ok (taken t (digits_value 10 ds) (tt {0}))
value_by k ds true h = rw h refl
value_by k ds false h = rw h refl

pub parses : {E : Type 0} (k : ℕ) (text : List ℕ) (r : Result ℕ E) → ParsesUnsigned k 10 text r → result_ok r ≡ number_of k text
unfolding number_of
parses k text (Ok n) h = ap (λ (m : ℕ). Some m) h.1 ∙ sym (value_by k (without_leading_plus text) true (passes_from k (without_leading_plus text) h.0.0 h.0.1))
parses k text (Err e) h = sym (by (passes k (without_leading_plus text)) refl)
  where
    by : (t : Bool) → passes k (without_leading_plus text) ≡ t → numeral_value k (without_leading_plus text) ≡ None
    by true g = absurd (h (passes_to k (without_leading_plus text) g))
    by false g = value_by k (without_leading_plus text) false g

pub number_back : (k n : ℕ) → n < 2 ^ k → n < 2 ^ 64 → number_of k (decimal n) ≡ Some n
number_back k n l m =
    let t = passes k (without_leading_plus (decimal n)) in
    let d = decided k (decimal n) (tt {0}) t refl in
    sym (parses k (decimal n) (taken t (digits_value 10 (without_leading_plus (decimal n))) (tt {0})) d) ∙ ap result_ok (parse-decimal k n (decimal n) (taken t (digits_value 10 (without_leading_plus (decimal n))) (tt {0})) l m refl d)
