-- What the document of an ensemble reads as, or its first fault.
use Rattle.std.specs.Prelude.{◌≡◌, ℕ, List, [], length, map, nat_lt, if◌then◌else◌, Option, Some, None, Result, Ok, Err}
use Rattle.std.specs.Str.{bytes_eq}
use Rattle.peg_json.specs.Elements.{first_repeat}
use Rattle.peg_json.specs.Tree.{then_read, ◌>>=◌, tree_of}
use Rattle.peg_json.specs.code.ReadFault.{told_by}
use Rattle.peg_json.specs.declared.fault.TreeFault.TheVariants as faults
use Rattle.peg_json.specs.declared.read_fault.ReadFault.{ReadFault}
use Rattle.peg_json.specs.declared.read_fault.ReadFault.TheVariants as reads
use Rattle.plan_request.specs.Request.{execute_checked}
use Rattle.ensemble.specs.declared.document.Ensemble.{Ensemble}
use Rattle.ensemble.specs.declared.document.MemberEntry.{MemberEntry}
use Rattle.ensemble.specs.declared.fault.EnsembleFault.{EnsembleFault}
use Rattle.ensemble.specs.declared.fault.EnsembleFault.TheVariants.{DuplicateMember, Read, TooMany}
use Rattle.ensemble.specs.Root.{ensemble_of}

abbrev pub names_of : List MemberEntry → List (List ℕ)
names_of ms = map (λ (m : MemberEntry). m.name) ms

-- an ensemble with few execution sites, none twice
abbrev pub sites_distinct : Ensemble → Result Ensemble ReadFault
sites_distinct e = execute_checked e.execute >>= λ _. Ok e

-- the tree, and then the execution sites
unfoldable pub sited_of : List ℕ → Result Ensemble ReadFault
sited_of bytes = then_read (tree_of bytes) (λ d. then_read (ensemble_of [] d) sites_distinct)

-- no more than 64 members
abbrev pub few_members : ℕ → Result (Unit {0}) EnsembleFault
few_members count = if nat_lt 64 count then Err (TooMany count 64) else Ok tt

-- a name that occurred before is a fault
abbrev pub twice_refused : Option (List ℕ) → Result (Unit {0}) EnsembleFault
twice_refused None = Ok tt
twice_refused (Some name) = Err (DuplicateMember name)

-- no name twice
abbrev pub named_once : List MemberEntry → Result (Unit {0}) EnsembleFault
named_once ms = twice_refused (first_repeat bytes_eq [] (names_of ms))

-- an ensemble with few members, no name twice
abbrev pub members_distinct : Ensemble → Result Ensemble EnsembleFault
members_distinct e = do
  u ← few_members (length e.members)
  v ← named_once e.members
  Ok e

-- a JSON text
unfoldable pub read_of : List ℕ → Result Ensemble EnsembleFault
read_of bytes = told_by Read (sited_of bytes) >>= members_distinct

-- A fault that was returned is the one that reading gives. Want of memory is free.
abbrev pub FailsEnsemble : {Y : Type 0} → EnsembleFault → Result Y EnsembleFault → Type 0
FailsEnsemble (Read (reads.Tree faults.Memory)) read = Unit {0}
FailsEnsemble fault read = read ≡ Err fault

-- What was returned, seen by view, is what reading gives, unless memory ran out.
abbrev pub GivesEnsemble : {X Y : Type 0}
    → (X → Y) → Result X EnsembleFault → Result Y EnsembleFault → Type 0
GivesEnsemble view (Ok x) read = read ≡ Ok (view x)
GivesEnsemble view (Err fault) read = FailsEnsemble fault read
