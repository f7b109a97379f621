-- The line of a failed run.
use Rattle.std.proofs.Common.{◌≡◌, ℕ, List, [], ◌++◌, sym, ap, ◌∙◌, append_assoc}
use Rattle.std.proofs.lemmas.List.{append-nil}

-- a first word and four more, in two ways
pub four_words : (first a b c d end : List ℕ) → (first ++ (a ++ (b ++ (c ++ (d ++ []))))) ++ end ≡ ((((first ++ a) ++ b) ++ c) ++ d) ++ end
four_words first a b c d end = ap (λ (words : List ℕ). words ++ end) (
    sym (append_assoc first a (b ++ (c ++ (d ++ []))))
    ∙ sym (append_assoc (first ++ a) b (c ++ (d ++ [])))
    ∙ sym (append_assoc ((first ++ a) ++ b) c (d ++ []))
    ∙ ap (λ (words : List ℕ). (((first ++ a) ++ b) ++ c) ++ words) (append-nil d))

-- a first word and two more
pub two_words : (first space a b end : List ℕ) → (first ++ ((space ++ a) ++ ((space ++ b) ++ []))) ++ end ≡ ((((first ++ space) ++ a) ++ space) ++ b) ++ end
two_words first space a b end = ap (λ (words : List ℕ). words ++ end) (
    ap (λ (words : List ℕ). first ++ ((space ++ a) ++ words)) (append-nil (space ++ b))
    ∙ ap (λ (words : List ℕ). first ++ words) (append_assoc space a (space ++ b))
    ∙ sym (append_assoc first space (a ++ (space ++ b)))
    ∙ sym (append_assoc (first ++ space) a (space ++ b))
    ∙ sym (append_assoc ((first ++ space) ++ a) space b))
