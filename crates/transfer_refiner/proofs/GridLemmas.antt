-- Lists that grow by what passes at one number more.
use Rattle.std.proofs.Common.{◌≡◌, ℕ, ◌+◌, Bool, true, false, cond, List, [], ◌∷◌, ◌++◌, map, refl, sym, ap, ◌∙◌, add-one}
use Rattle.std.proofs.lemmas.List.{append_assoc, append-nil}
use Rattle.plan_core.specs.Numbers.{below}
use Rattle.transfer_refiner.specs.Tasks.{grid}
use Rattle.plan_core.proofs.NumbersLemmas.{below_more, below_none}

pub grid_more : (m n : ℕ) (test : ℕ → ℕ → Bool) → grid (m + 1) n test ≡ grid m n test ++ map (λ b. (m, b)) (below n (test m))
unfolding grid
grid_more m n test = rw add-one refl

pub grid_none : (n : ℕ) (test : ℕ → ℕ → Bool) → grid 0 n test ≡ []
unfolding grid
grid_none n test = refl

map_append : {A B : Type 0} (g : A → B) (xs ys : List A) → map g (xs ++ ys) ≡ map g xs ++ map g ys
map_append g [] ys = refl
map_append g (x ∷ xs) ys = ap (λ zs. g x ∷ zs) (map_append g xs ys)

map_cond : {A : Type 0} (g : ℕ → A) (b : Bool) (n : ℕ) → map g (cond b (n ∷ []) []) ≡ cond b (g n ∷ []) []
map_cond g true n = refl
map_cond g false n = refl

map_map : {A B C : Type 0} (g : B → C) (h : A → B) (xs : List A) → map g (map h xs) ≡ map (λ x. g (h x)) xs
map_map g h [] = refl
map_map g h (x ∷ xs) = ap (λ zs. g (h x) ∷ zs) (map_map g h xs)

pub none_below : {A : Type 0} (g : ℕ → A) (test : ℕ → Bool) (xs : List A) → xs ++ map g (below 0 test) ≡ xs
none_below g test xs = ap (λ (ns : List ℕ). xs ++ map g ns) (below_none test) ∙ append-nil xs

pub more_below : {A : Type 0} (g : ℕ → A) (test : ℕ → Bool) (n : ℕ) (start old new : List A) → old ≡ start ++ map g (below n test) → new ≡ old ++ cond (test n) (g n ∷ []) [] → new ≡ start ++ map g (below (n + 1) test)
more_below g test n start old new was now =
    now ∙ ap (λ xs. xs ++ cond (test n) (g n ∷ []) []) was ∙ append_assoc start (map g (below n test)) (cond (test n) (g n ∷ []) [])
    ∙ ap (λ xs. start ++ (map g (below n test) ++ xs)) (sym (map_cond g (test n) n))
    ∙ ap (λ xs. start ++ xs) (sym (map_append g (below n test) (cond (test n) (n ∷ []) [])))
    ∙ ap (λ (ns : List ℕ). start ++ map g ns) (sym (below_more n test))

pub none_grid : {A : Type 0} (g : ℕ × ℕ → A) (n : ℕ) (test : ℕ → ℕ → Bool) (xs : List A) → xs ++ map g (grid 0 n test) ≡ xs
none_grid g n test xs = ap (λ (ns : List (ℕ × ℕ)). xs ++ map g ns) (grid_none n test) ∙ append-nil xs

pub more_grid : {A : Type 0} (g : ℕ × ℕ → A) (m n : ℕ) (test : ℕ → ℕ → Bool) (start old new : List A) → old ≡ start ++ map g (grid m n test) → new ≡ old ++ map (λ b. g (m, b)) (below n (test m)) → new ≡ start ++ map g (grid (m + 1) n test)
more_grid g m n test start old new was now =
    now ∙ ap (λ xs. xs ++ map (λ b. g (m, b)) (below n (test m))) was ∙ append_assoc start (map g (grid m n test)) (map (λ b. g (m, b)) (below n (test m)))
    ∙ ap (λ xs. start ++ (map g (grid m n test) ++ xs)) (sym (map_map g (λ b. (m, b)) (below n (test m))))
    ∙ ap (λ xs. start ++ xs) (sym (map_append g (grid m n test) (map (λ b. (m, b)) (below n (test m)))))
    ∙ ap (λ (ns : List (ℕ × ℕ)). start ++ map g ns) (sym (grid_more m n test))

-- ---- the same from an empty list on

pub first_pairs : {A : Type 0} (g : ℕ × ℕ → A) (n : ℕ) (test : ℕ → ℕ → Bool) → map g (grid 0 n test) ≡ []
first_pairs g n test = ap (λ (ns : List (ℕ × ℕ)). map g ns) (grid_none n test)

pub more_pairs : {A : Type 0} (g : ℕ × ℕ → A) (m n : ℕ) (test : ℕ → ℕ → Bool) (old new : List A) → old ≡ map g (grid m n test) → new ≡ old ++ map (λ b. g (m, b)) (below n (test m)) → new ≡ map g (grid (m + 1) n test)
more_pairs g m n test old new was now = more_grid g m n test [] old new was now

pub more_rows : (m n : ℕ) (test : ℕ → ℕ → Bool) (old new : List (ℕ × ℕ)) → old ≡ grid m n test → new ≡ old ++ map (λ b. (m, b)) (below n (test m)) → new ≡ grid (m + 1) n test
more_rows m n test old new was now = now ∙ ap (λ xs. xs ++ map (λ b. (m, b)) (below n (test m))) was ∙ sym (grid_more m n test)

pub first_of_all : {A : Type 0} (g : ℕ → A) (test : ℕ → Bool) → map g (below 0 test) ≡ []
first_of_all g test = ap (λ (ns : List ℕ). map g ns) (below_none test)

pub one_more : {A : Type 0} (g : ℕ → A) (n : ℕ) (old new : List A) (x : A) → old ≡ map g (below n (λ f. true)) → new ≡ old ++ x ∷ [] → x ≡ g n → new ≡ map g (below (n + 1) (λ f. true))
one_more g n old new x was now is = more_below g (λ f. true) n [] old new was (now ∙ ap (λ y. old ++ y ∷ []) is)
