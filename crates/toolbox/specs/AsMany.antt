-- As many outputs as were asked for.
use Rattle.std.proofs.Common.{◌≡◌, ℕ, Bool, true, false, cond, List, [], ◌∷◌, length, map, refl, arith}
use Rattle.std.specs.Prelude.{◌==◌, Option, Some, None}
use Rattle.std.specs.List.{range_with_len}
use Rattle.std.specs.Option.{option_and_then, option_map}
use Rattle.std.proofs.lemmas.Bool.Decides.{nat_tests}
use Rattle.std.proofs.lemmas.List.FromFn.{length-map-range_with_len}
use Rattle.toolbox.specs.declared.transformation.Transformation.{Transformation}
use Rattle.toolbox.specs.declared.transformation.Transformation.TheVariants.{Deal}
use Rattle.toolbox.specs.Lines.{lines, written}
use Rattle.toolbox.specs.Transformation.{named}
use Rattle.toolbox.specs.Transformation.Deal.{hand}
use Rattle.toolbox.specs.Transformation.Join.{joined}
use Rattle.toolbox.specs.Shipped.{output, made, applied}

if_one : (outs : ℕ) (b : Bool) (one : Option (List ℕ)) (vs : List (List ℕ)) → (outs == 1) ≡ b
    → cond b (option_map (λ bytes. bytes ∷ []) one) None ≡ Some vs → length vs ≡ outs
if_one outs true (Some bytes) vs test e =
    let vs_is : (bytes ∷ []) ≡ vs = cc in
    let one : outs ≡ 1 = grind (arith, nat_tests) in
    rw (← vs_is, one) refl
if_one outs true None vs test e = absurd cc
if_one outs false one vs test e = absurd cc

if_some : (outs : ℕ) (b : Bool) (hands : ℕ → List ℕ) (vs : List (List ℕ))
    → cond b None (Some (map hands (range_with_len 0 outs))) ≡ Some vs → length vs ≡ outs
if_some outs true hands vs e = absurd cc
if_some outs false hands vs e =
    let vs_is : map hands (range_with_len 0 outs) ≡ vs = cc in
    rw (← vs_is) (length-map-range_with_len hands 0 outs)

made_as_many : (t : Transformation) (args ins : List (List ℕ)) (outs : ℕ) (vs : List (List ℕ))
    → made t args ins outs ≡ Some vs → length vs ≡ outs
made_as_many Deal args ins outs vs e = if_some outs (outs == 0)
    (λ j. written (hand outs j 0 (lines (joined ins)))) vs e
made_as_many t args ins outs vs e = if_one outs (outs == 1) (output t args ins (joined ins)) vs refl e

by_name : (t : Option Transformation) (args ins : List (List ℕ)) (outs : ℕ) (vs : List (List ℕ))
    → option_and_then (λ t. made t args ins outs) t ≡ Some vs → length vs ≡ outs
by_name None args ins outs vs e = absurd cc
by_name (Some t) args ins outs vs e = made_as_many t args ins outs vs e

pub applied_as_many : (name : List ℕ) (args ins : List (List ℕ)) (outs : ℕ) (vs : List (List ℕ))
    → applied name args ins outs ≡ Some vs → length vs ≡ outs
unfolding applied
applied_as_many name args ins outs vs e = by_name (named name) args ins outs vs e
