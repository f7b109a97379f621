-- Texts with commas between them.
use Rattle.std.proofs.Common.{◌≡◌, ℕ, suc, ◌+◌, ◌-◌, ◌≤◌, List, [], ◌∷◌, ◌++◌, map, refl, sym, ap, ◌∙◌, append_assoc, arith}
use Rattle.std.specs.List.{flat_map}
use Rattle.workload_maker.specs.declared.names.File.{File}
use Rattle.workload_maker.specs.Jobs.{Job, commas, each, followed, job_text, with_comma}
use Rattle.workload_maker.specs.Pieces.{piece_text}
use Rattle.workload_maker.specs.declared.pieces.Piece.TheVariants as piece
use Rattle.workload_maker.specs.Replicas.{replica_text}
use Rattle.workload_maker.specs.Workflow.{add, background, bg_model, concat_fit, diff_fit, jobs, project}

-- all but the last with a comma behind them
commas_last : (xs : List (List ℕ)) (y : List ℕ) → commas (xs ++ y ∷ []) ≡ flat_map (with_comma) xs ++ y
commas_last [] y = refl
commas_last (x ∷ []) y = simp append_assoc
commas_last (x ∷ z ∷ xs) y = ap (λ (t : List ℕ). x ++ piece_text piece.Comma ++ t) (commas_last (z ∷ xs) y) ∙ simp append_assoc

one_more : {X : Type 0} (f : ℕ → X) (n : ℕ) → each (n + 1) f ≡ each n f ++ f n ∷ []
one_more f n = let one : n + 1 ≡ suc n = omega arith in ap (λ (k : ℕ). each k f) one

pub files_more : (f : ℕ → File) (n : ℕ) → each (n + 1) f ≡ each n f ++ f n ∷ []
files_more f n = one_more f n

pub images_more : (f : ℕ → List ℕ × List ℕ) (n : ℕ) → each (n + 1) f ≡ each n f ++ f n ∷ []
images_more f n = one_more f n

map_append : (xs ys : List Job) → map job_text (xs ++ ys) ≡ map job_text xs ++ map job_text ys
map_append [] ys = refl
map_append (x ∷ xs) ys = ap (λ (l : List (List ℕ)). job_text x ∷ l) (map_append xs ys)

flat_append : {X : Type 0} (f : X → List ℕ) (xs ys : List X) → flat_map f (xs ++ ys) ≡ flat_map f xs ++ flat_map f ys
flat_append f [] ys = refl
flat_append f (x ∷ xs) ys = ap (λ (t : List ℕ). f x ++ t) (flat_append f xs ys) ∙ sym (append_assoc (f x) (flat_map f xs) (flat_map f ys))

nothing_more : (xs : List ℕ) → xs ++ [] ≡ xs
nothing_more [] = refl
nothing_more (x ∷ xs) = ap (λ (t : List ℕ). x ∷ t) (nothing_more xs)

flat_more : {X : Type 0} (g : X → List ℕ) (f : ℕ → X) (n : ℕ) → flat_map g (each (n + 1) f) ≡ flat_map g (each n f) ++ g (f n)
flat_more g f n = ap (flat_map g) (one_more f n) ∙ flat_append g (each n f) (f n ∷ []) ∙ ap (λ (t : List ℕ). flat_map g (each n f) ++ t) (nothing_more (g (f n)))

pub followed_more : (f : ℕ → Job) (n : ℕ) → flat_map followed (each (n + 1) f) ≡ flat_map followed (each n f) ++ followed (f n)
followed_more f n = flat_more followed f n

pub texts_more : (f : ℕ → List ℕ) (n : ℕ) → flat_map with_comma (each (n + 1) f) ≡ flat_map with_comma (each n f) ++ with_comma (f n)
texts_more f n = flat_more with_comma f n

flat_job : (xs : List Job) → flat_map (with_comma) (map job_text xs) ≡ flat_map followed xs
flat_job [] = refl
flat_job (x ∷ xs) = ap (λ (t : List ℕ). followed x ++ t) (flat_job xs)

commas_jobs : (xs : List Job) (y : Job) → commas (map job_text (xs ++ y ∷ [])) ≡ flat_map followed xs ++ job_text y
commas_jobs xs y = ap commas (map_append xs (y ∷ [])) ∙ commas_last (map job_text xs) (job_text y) ∙ ap (λ (t : List ℕ). t ++ job_text y) (flat_job xs)

abbrev before : ℕ → List Job
before n = each n project ++ (each (n - 1) diff_fit ++ (concat_fit n ∷ bg_model n ∷ each n background))

split_last : (a b c : List Job) (x y z : Job) → a ++ (b ++ (x ∷ y ∷ (c ++ z ∷ []))) ≡ (a ++ (b ++ (x ∷ y ∷ c))) ++ z ∷ []
split_last a b c x y z = ap (λ (l : List Job). a ++ l) (sym (append_assoc b (x ∷ y ∷ c) (z ∷ []))) ∙ sym (append_assoc a (b ++ (x ∷ y ∷ c)) (z ∷ []))

jobs_split : (n : ℕ) → jobs n ≡ before n ++ add n ∷ []
jobs_split n = split_last (each n project) (each (n - 1) diff_fit) (each n background) (concat_fit n) (bg_model n) (add n)

regroup : (a b c d e f : List ℕ) → (a ++ (b ++ (c ++ (d ++ e)))) ++ f ≡ a ++ (b ++ (c ++ (d ++ (e ++ f))))
regroup a b c d e f = simp append_assoc

pub jobs_are : (n : ℕ) → commas (map job_text (jobs n)) ≡ flat_map followed (each n project) ++ (flat_map followed (each (n - 1) diff_fit) ++ (followed (concat_fit n) ++ (followed (bg_model n) ++ (flat_map followed (each n background) ++ job_text (add n)))))
jobs_are n =
    ap (λ (l : List Job). commas (map job_text l)) (jobs_split n) ∙ commas_jobs (before n) (add n)
    ∙ ap (λ (t : List ℕ). t ++ job_text (add n)) (flat_append followed (each n project) (each (n - 1) diff_fit ++ concat_fit n ∷ bg_model n ∷ each n background)
    ∙ ap (λ (t : List ℕ). flat_map followed (each n project) ++ t) (flat_append followed (each (n - 1) diff_fit) (concat_fit n ∷ bg_model n ∷ each n background)))
    ∙ regroup (flat_map followed (each n project)) (flat_map followed (each (n - 1) diff_fit)) (followed (concat_fit n)) (followed (bg_model n)) (flat_map followed (each n background)) (job_text (add n))

pub replicas_are : (n : ℕ) → 1 ≤ n → commas (each n replica_text) ≡ flat_map with_comma (each (n - 1) replica_text) ++ replica_text (n - 1)
replicas_are n l =
    let less : n ≡ suc (n - 1) = omega (arith, l) in
    ap (λ (k : ℕ). commas (each k replica_text)) less ∙ commas_last (each (n - 1) replica_text) (replica_text (n - 1))

pub six : (t0 a b c d e f t1 t2 t3 t4 t5 t6 : List ℕ) → t1 ≡ t0 ++ a → t2 ≡ t1 ++ b → t3 ≡ t2 ++ c → t4 ≡ t3 ++ d → t5 ≡ t4 ++ e → t6 ≡ t5 ++ f → t6 ≡ t0 ++ (a ++ (b ++ (c ++ (d ++ (e ++ f)))))
six t0 a b c d e f t1 t2 t3 t4 t5 t6 k1 k2 k3 k4 k5 k6 =
    k6 ∙ ap (λ (t : List ℕ). t ++ f) (k5 ∙ ap (λ (t : List ℕ). t ++ e) (k4 ∙ ap (λ (t : List ℕ). t ++ d) (k3 ∙ ap (λ (t : List ℕ). t ++ c) (k2 ∙ ap (λ (t : List ℕ). t ++ b) k1)))) ∙ together
  where
    together : (((((t0 ++ a) ++ b) ++ c) ++ d) ++ e) ++ f ≡ t0 ++ (a ++ (b ++ (c ++ (d ++ (e ++ f)))))
    together = simp append_assoc
