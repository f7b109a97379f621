-- The words of a line, one after the other.
use Rattle.std.proofs.Common.{◌≡◌, ℕ, zero, suc, ◌+◌, ◌≤◌, ◌<◌, ◌==◌, ◌++◌, append_assoc, List, [], ◌∷◌, Option, Some, None, length, drop, refl, sym, ap, ◌∙◌, arith}
use Rattle.std.specs.List.{position_or_len, before_first, after_first, slice_index_or}
use Rattle.std.proofs.lemmas.Bool.{ne_eqb}
use Rattle.std.proofs.lemmas.List.{drop-drop, drop_all, length-drop, get_or_default}
use Rattle.std.proofs.Math.Seq.{drop-length}
use Rattle.std.proofs.lemmas.List.Splits.{slice_split_first, slice_split_none}
use Rattle.run_record.specs.code.Reading.{number_of, sizes_of, with_size}
use Rattle.run_record.specs.code.Words.{words_of, word_at}

pub cut_word : (bs front after : List ℕ) → position_or_len (λ (b : ℕ). b == 32) bs < length bs
    → front ≡ before_first (λ (b : ℕ). b == 32) bs → after ≡ after_first (λ (b : ℕ). b == 32) bs → words_of bs ≡ front ∷ words_of after
cut_word bs front after l f a = slice_split_first (λ (b : ℕ). b == 32) bs 0 l ∙ rw (sym f, sym a) refl

pub one_more : (ws : List (List ℕ)) (k : ℕ) (w : List ℕ) (rest : List (List ℕ)) → drop k ws ≡ w ∷ rest → drop (k + 1) ws ≡ rest
one_more ws k w rest h = sym (drop-drop 1 k ws) ∙ ap (drop 1) h

pub none_more : (ws : List (List ℕ)) (k n : ℕ) → drop k ws ≡ [] → k ≤ n → drop n ws ≡ []
none_more ws k n h l = drop_all n ws (let e = sym (length-drop k ws) ∙ ap length h in omega (arith, e))

pub word_from : (ws : List (List ℕ)) (k : ℕ) (w : List ℕ) (rest : List (List ℕ)) → drop k ws ≡ w ∷ rest → word_at ws k ≡ w
word_from [] zero w rest h = absurd (cc)
word_from [] (suc k) w rest h = absurd (cc)
word_from (x ∷ xs) zero w rest h = cc
word_from (x ∷ xs) (suc k) w rest h = word_from xs k w rest h

pub word_past : (ws : List (List ℕ)) (k : ℕ) → drop k ws ≡ [] → word_at ws k ≡ []
word_past [] zero h = refl
word_past [] (suc k) h = refl
word_past (x ∷ xs) zero h = absurd (cc)
word_past (x ∷ xs) (suc k) h = word_past xs k h

pub no_space : (bs : List ℕ) → ((i : ℕ) → i < length bs → slice_index_or bs i 0 ≡ 32 → ⊥) → words_of bs ≡ bs ∷ []
no_space bs h = slice_split_none (λ (b : ℕ). b == 32) bs (λ k d l. ne_eqb (slice_index_or bs k d) 32 (λ e. h k l (get_or_default bs k 0 d l ∙ e)))

pub no_words_left : (ws : List (List ℕ)) → drop (length ws) ws ≡ []
no_words_left ws = drop-length ws

-- one size more is read
pub size_read : (sizes new text word : List ℕ) (rest : List (List ℕ)) (n : ℕ) → new ≡ sizes ++ n ∷ [] → words_of text ≡ word ∷ rest → Some n ≡ number_of 64 word
    → new ++ sizes_of rest ≡ sizes ++ sizes_of (words_of text)
size_read sizes new text word rest n p w h =
    ap (λ (l : List ℕ). l ++ sizes_of rest) p ∙ append_assoc sizes (n ∷ []) (sizes_of rest)
    ∙ ap (λ (o : Option ℕ). sizes ++ with_size o (sizes_of rest)) h ∙ ap (λ (l : List (List ℕ)). sizes ++ sizes_of l) (sym w)

pub size_skipped : (sizes text word : List ℕ) (rest : List (List ℕ)) → words_of text ≡ word ∷ rest → None ≡ number_of 64 word
    → sizes ++ sizes_of rest ≡ sizes ++ sizes_of (words_of text)
size_skipped sizes text word rest w h =
    ap (λ (o : Option ℕ). sizes ++ with_size o (sizes_of rest)) h ∙ ap (λ (l : List (List ℕ)). sizes ++ sizes_of l) (sym w)
