-- One more member is read.
use Rattle.std.proofs.Common.{◌≡◌, ℕ, List, [], ◌∷◌, ◌++◌, map, refl, sym, ap, ◌∙◌, string_bytes}
use Rattle.std.specs.Prelude.{String, Result, Ok, Err}
use Rattle.std.specs.declared.alloc.Global.{Global}
use Rattle.serde_json.specs.Data.{Data}
use Rattle.serde_json.specs.View.{view}
use Rattle.serde_json.specs.declared.value.Value.{Value}
use Rattle.peg_json.specs.declared.fault.TreeFault.{TreeFault}
use Rattle.peg_json.specs.Entries.{entry_of, entries_from}
use Rattle.peg_json.specs.code.Entries.{seen_members}
use Rattle.peg_json.specs.Tree.{◌>>=◌}
use Rattle.peg_json.specs.code.Tree.{with_front}

seen_more : {X Y : Type 0} (seen : X → Y) (out : List X) (x : X) (ys : List Y) → map seen (out ++ x ∷ []) ++ ys ≡ map seen out ++ seen x ∷ ys
seen_more seen [] x ys = refl
seen_more seen (o ∷ out) x ys = ap (λ zs. seen o ∷ zs) (seen_more seen out x ys)

front_more : {X Y : Type 0} (seen : X → Y) (out : List X) (x : X) (rest : Result (List Y) TreeFault) → with_front (map seen (out ++ x ∷ [])) rest ≡ with_front (map seen out) (rest >>= λ ys. Ok (seen x ∷ ys))
front_more seen out x (Ok ys) = ap Ok (seen_more seen out x ys)
front_more seen out x (Err e) = refl

pub member_more : {X B : Type 0} (f : List ℕ → Data → Result B TreeFault) (path : List ℕ) (seen : X → List ℕ × B) (out more : List X) (x : X) (k : String Global) (v : Value) (ms rest : List (String Global × Value)) (key : List ℕ) (all : Result (List (List ℕ × B)) TreeFault)
    → ms ≡ (k, v) ∷ rest → key ≡ string_bytes k → entry_of f path key (view v) ≡ Ok (seen x) → more ≡ out ++ x ∷ []
    → with_front (map seen out) (entries_from f path (seen_members ms)) ≡ all → with_front (map seen more) (entries_from f path (seen_members rest)) ≡ all
member_more {X} {B} f path seen out more x k v ms rest key all left is read pushed before =
    ap (λ (o : List X). with_front (map seen o) (entries_from f path (seen_members rest))) pushed
    ∙ front_more seen out x (entries_from f path (seen_members rest))
    ∙ sym (ap (λ (s : Result (List ℕ × B) TreeFault). with_front (map seen out) (s >>= λ y. entries_from f path (seen_members rest) >>= λ ys. Ok (y ∷ ys))) read)
    ∙ ap (λ (b : List ℕ). with_front (map seen out) (entry_of f path b (view v) >>= λ y. entries_from f path (seen_members rest) >>= λ ys. Ok (y ∷ ys))) is
    ∙ sym (ap (λ (zs : List (String Global × Value)). with_front (map seen out) (entries_from f path (seen_members zs))) left)
    ∙ before
