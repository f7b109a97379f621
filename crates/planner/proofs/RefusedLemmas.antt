-- The line of a refusal.
use Rattle.std.proofs.Common.{◌≡◌, ℕ, List, [], ◌++◌, sym, ap, ◌∙◌, append_assoc}
use Rattle.std.proofs.lemmas.List.{append-nil}

-- a first word and three more, in two ways
pub three_words : (first a b c end : List ℕ) → (first ++ (a ++ (b ++ (c ++ [])))) ++ end ≡ (((first ++ a) ++ b) ++ c) ++ end
three_words first a b c end = ap (λ (words : List ℕ). words ++ end) (
    sym (append_assoc first a (b ++ (c ++ [])))
    ∙ sym (append_assoc (first ++ a) b (c ++ []))
    ∙ ap (λ (words : List ℕ). ((first ++ a) ++ b) ++ words) (append-nil c))
