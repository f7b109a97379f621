-- The transformations: their names, and what making an output answers.
use Rattle.std.specs.Prelude.{◌≡◌, ℕ, List, codes, if◌then◌else◌, Option, Some, None, Result, Ok, Err}
use Rattle.std.specs.Str.{bytes_eq}
use Rattle.outside.specs.declared.tool.ToolFault.{ToolFault}
use Rattle.outside.specs.declared.tool.ToolFault.TheVariants.{Declined, Failed, Memory}
use Rattle.toolbox.specs.declared.transformation.Transformation.{Transformation}
use Rattle.toolbox.specs.declared.transformation.Transformation.TheVariants as variants
pub mod Text
pub mod Join
pub mod Take
pub mod Drop
pub mod Deal
pub mod Sorted
pub mod Distinct
pub mod Count
pub mod Holds
pub mod Column
pub mod Total
pub mod Digest

-- the transformation of a name
abbrev pub named : List ℕ → Option Transformation
named name =
    if bytes_eq name (codes "text") then Some variants.Text
    else if bytes_eq name (codes "join") then Some variants.Join
    else if bytes_eq name (codes "take") then Some variants.Take
    else if bytes_eq name (codes "drop") then Some variants.Drop
    else if bytes_eq name (codes "deal") then Some variants.Deal
    else if bytes_eq name (codes "sorted") then Some variants.Sorted
    else if bytes_eq name (codes "distinct") then Some variants.Distinct
    else if bytes_eq name (codes "count") then Some variants.Count
    else if bytes_eq name (codes "holds") then Some variants.Holds
    else if bytes_eq name (codes "column") then Some variants.Column
    else if bytes_eq name (codes "total") then Some variants.Total
    else if bytes_eq name (codes "digest") then Some variants.Digest
    else None

-- Making one output gives it, or declines where there is none. It never fails.
abbrev pub Gives : Option (List ℕ) → Result (List ℕ) ToolFault → Type 0
Gives expected (Ok bytes) = expected ≡ Some bytes
Gives expected (Err Declined) = expected ≡ None
Gives expected (Err Failed) = ⊥
Gives expected (Err Memory) = Unit {0}
