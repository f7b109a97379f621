-- Steps of a reading, one after the other.
use Rattle.std.proofs.Common.{◌≡◌, ℕ, ◌+◌, List, [], ◌∷◌, refl, subst}
use Rattle.std.specs.Prelude.{Option, Some, None, Result, Ok, Err, unwrap_or}
use Rattle.std.specs.List.{AllByRecursion}
use Rattle.serde_json.specs.Data.{Data, Items}
use Rattle.serde_json.specs.Find as find
use Rattle.peg_json.specs.Path.{key_path, index_path}
use Rattle.peg_json.specs.Tree.{◌>>=◌, each_from, elements, list_among, list_in}
use Rattle.peg_json.specs.Table.{member_of}
use Rattle.peg_json.specs.Typed.{where_found, required, if_found, optional}
use Rattle.peg_json.specs.declared.fault.TreeFault.{TreeFault}
use Rattle.peg_json.specs.declared.fault.TreeFault.TheVariants as faults
use Rattle.peg_json.specs.Typed.{list_or_none}

pub record Passed {E A B : Type 0} (r : Result A E) (f : A → Result B E) (b : B) : Type 0 where
  pub value : A
  pub is : r ≡ Ok value
  pub rest : f value ≡ Ok b

pub passed : {E A B : Type 0} (r : Result A E) (f : A → Result B E) (b : B) → (r >>= f) ≡ Ok b → Passed r f b
passed (Ok a) f b h = record { value = a; is = refl; rest = h }
passed (Err e) f b h = absurd cc

abbrev tree_reading : {A : Type 0} → A → Result A TreeFault
tree_reading x = Ok x

pub unwrapped : {A : Type 0} (x y : A) → tree_reading x ≡ Ok y → x ≡ y
unwrapped x y h = cc

-- what each reading of an element gives, each element of a list has
pub each_has : {B : Type 0} (f : List ℕ → Data → Result B TreeFault) (P : B → Type 0) → ((path : List ℕ) (d : Data) (x : B) → f path d ≡ Ok x → P x) → (path : List ℕ) (i : ℕ) (ds : List Data) (xs : List B) → each_from f path i ds ≡ Ok xs → AllByRecursion P xs
each_has f P gives path i [] xs h = subst (λ ys. AllByRecursion P ys) (unwrapped [] xs h) tt
each_has {B} f P gives path i (d ∷ ds) xs h =
    let one = passed (f (index_path path i) d) _ xs h in
    let two = passed (each_from f path (i + 1) ds) _ xs one.rest in
    subst (λ (ys : List B). AllByRecursion P ys) (unwrapped (one.value ∷ two.value) xs two.rest) (gives (index_path path i) d one.value one.is, each_has f P gives path (i + 1) ds two.value two.is)

pub list_has : {B : Type 0} (f : List ℕ → Data → Result B TreeFault) (P : B → Type 0) → ((path : List ℕ) (d : Data) (x : B) → f path d ≡ Ok x → P x) → (path : List ℕ) (d : Data) (xs : List B) → list_in f path d ≡ Ok xs → AllByRecursion P xs
list_has {B} f P gives path d xs h = by (find.as_array d) h
  where
    by : (o : Option Items) → list_among f path o ≡ Ok xs → AllByRecursion P xs
    by None e = absurd cc
    by (Some ds) e = each_has f P gives path 0 (elements ds) xs e

pub required_has : {B : Type 0} (f : List ℕ → Data → Result B TreeFault) (P : B → Type 0) → ((path : List ℕ) (d : Data) (x : B) → f path d ≡ Ok x → P x) → (path : List ℕ) (d : Data) (key : List ℕ) (x : B) → required f path d key ≡ Ok x → P x
required_has f P gives path d key x h = by (member_of d key) h
  where
    by : (o : Option Data) → where_found (faults.MissingKey (key_path path key)) (f (key_path path key)) o ≡ Ok x → P x
    by None e = absurd cc
    by (Some d) e = gives (key_path path key) d x e

-- what is there has it, if it is there
abbrev pub IfThere : {B : Type 0} → (B → Type 0) → Option B → Type 0
IfThere P None = Unit {0}
IfThere P (Some x) = P x

pub optional_has : {B : Type 0} (f : List ℕ → Data → Result B TreeFault) (P : B → Type 0) → ((path : List ℕ) (d : Data) (x : B) → f path d ≡ Ok x → P x) → (path : List ℕ) (d : Data) (key : List ℕ) (o : Option B) → optional f path d key ≡ Ok o → IfThere P o
optional_has {B} f P gives path d key o h = by (member_of d key) h
  where
    by : (there : Option Data) → if_found (f (key_path path key)) there ≡ Ok o → IfThere P o
    by None e = subst (λ (p : Option B). IfThere P p) (unwrapped None o e) tt
    by (Some d) e =
        let step = passed (f (key_path path key) d) (λ y. Ok (Some y)) o e in
        subst (λ (p : Option B). IfThere P p) (unwrapped (Some step.value) o step.rest) (gives (key_path path key) d step.value step.is)

pub list_or_none_has : {B : Type 0} (f : List ℕ → Data → Result B TreeFault) (P : B → Type 0) → ((path : List ℕ) (d : Data) (x : B) → f path d ≡ Ok x → P x) → (path : List ℕ) (d : Data) (key : List ℕ) (xs : List B) → list_or_none f path d key ≡ Ok xs → AllByRecursion P xs
list_or_none_has {B} f P gives path d key xs h =
    let step = passed (optional (list_in f) path d key) (λ found. Ok (unwrap_or found [])) xs h in
    subst (λ (ys : List B). AllByRecursion P ys) (unwrapped (unwrap_or step.value []) xs step.rest) (by step.value (optional_has (list_in f) (AllByRecursion P) (list_has f P gives) path d key step.value step.is))
  where
    by : (o : Option (List B)) → IfThere (AllByRecursion P) o → AllByRecursion P (unwrap_or o [])
    by None there = tt
    by (Some ys) there = there
