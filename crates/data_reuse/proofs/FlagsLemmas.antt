-- Flags that are set.
use Rattle.std.proofs.Common.{◌≡◌, ℕ, zero, suc, ◌<◌, ◌||◌, Bool, true, false, cond, List, length, refl, sym, ap, ◌∙◌, nat_eq}
use Rattle.std.specs.Prelude.{slice_set, replicate}
use Rattle.std.proofs.lemmas.Bool.{eqb-true, eqb-false}
use Rattle.std.proofs.lemmas.List.{get_or-set_same, get_or-set_other}
use Rattle.data_reuse.specs.code.Flags.{is_set}

pub flag_set : (flags : List Bool) (g f : ℕ) (value : Bool) → g < length flags → is_set (slice_set flags g value) f ≡ cond (nat_eq g f) value (is_set flags f)
flag_set flags g f value low = by (nat_eq g f) refl
  where
    by : (b : Bool) → nat_eq g f ≡ b → is_set (slice_set flags g value) f ≡ cond b value (is_set flags f)
    by true e = ap (is_set (slice_set flags g value)) (sym (eqb-true g f e)) ∙ get_or-set_same flags g value false low
    by false e = get_or-set_other flags g f value false (λ k. eqb-false g f e (sym k))

pub flag_true : (flags : List Bool) (g f : ℕ) → g < length flags → is_set (slice_set flags g true) f ≡ (nat_eq g f || is_set flags f)
flag_true flags g f low = flag_set flags g f true low ∙ by (nat_eq g f)
  where
    by : (b : Bool) → cond b true (is_set flags f) ≡ (b || is_set flags f)
    by true = refl
    by false = refl

pub none_set : (n f : ℕ) → is_set (replicate n false) f ≡ false
none_set zero f = refl
none_set (suc n) zero = refl
none_set (suc n) (suc f) = none_set n f
