-- The line of a fault of an ensemble.
use Rattle.std.proofs.Common.{◌≡◌, ℕ, ◌-◌, List, [], ◌∷◌, ◌++◌, length, take, ap, ◌∙◌, arith}
use Rattle.std.proofs.Math.Seq.{take-append_seam}
use Rattle.std.proofs.lemmas.List.{length-append}

-- a line without its end
pub open_line : (front : List ℕ) → take (length (front ++ 10 ∷ []) - 1) (front ++ 10 ∷ []) ≡ front
open_line front =
    let long = length-append front (10 ∷ []) in
    let short : length (front ++ 10 ∷ []) - 1 ≡ length front = omega (arith, long) in
    ap (λ (n : ℕ). take n (front ++ 10 ∷ [])) short ∙ take-append_seam front (10 ∷ [])
