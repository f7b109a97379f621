-- What the shipped transformations make.
use Rattle.std.specs.Prelude.{◌≡◌, ℕ, ◌==◌, Bool, List, [], ◌∷◌, is_some, if◌then◌else◌, Option, Some, None, Result, Ok, Err, Vec}
use Rattle.std.specs.Option.{option_and_then, option_map}
use Rattle.std.specs.declared.alloc.Global.{Global}
use Rattle.values.specs.Apply.{Apply}
use Rattle.outside.specs.declared.tool.ToolFault.{ToolFault}
use Rattle.outside.specs.declared.tool.ToolFault.TheVariants.{Declined, Failed, Memory}
use Rattle.toolbox.specs.declared.transformation.Transformation.{Transformation}
use Rattle.toolbox.specs.declared.transformation.Transformation.TheVariants.{Text, Join, Take, Drop, Deal, Sorted, Distinct, Count, Holds, Column, Total, Digest}
use Rattle.toolbox.specs.Transformation.{named}
use Rattle.toolbox.specs.Transformation.Text.{text}
use Rattle.toolbox.specs.Transformation.Join.{joined}
use Rattle.toolbox.specs.Transformation.Take.{taken}
use Rattle.toolbox.specs.Transformation.Drop.{dropped}
use Rattle.toolbox.specs.Transformation.Deal.{dealt}
use Rattle.toolbox.specs.Transformation.Sorted.{sorted}
use Rattle.toolbox.specs.Transformation.Distinct.{distinct}
use Rattle.toolbox.specs.Transformation.Count.{counted}
use Rattle.toolbox.specs.Transformation.Holds.{holding}
use Rattle.toolbox.specs.Transformation.Column.{column}
use Rattle.toolbox.specs.Transformation.Total.{total}
use Rattle.toolbox.specs.Transformation.Digest.{digest}

-- the one output of each transformation but the dealing one, of arguments, inputs and these put together
abbrev pub output : Transformation → List (List ℕ) → List (List ℕ) → List ℕ → Option (List ℕ)
output Text args ins input = text args ins
output Join args ins input = Some input
output Take args ins input = taken args input
output Drop args ins input = dropped args input
output Deal args ins input = None
output Sorted args ins input = Some (sorted input)
output Distinct args ins input = Some (distinct input)
output Count args ins input = Some (counted input)
output Holds args ins input = holding args input
output Column args ins input = column args input
output Total args ins input = total input
output Digest args ins input = Some (digest input)

-- exactly one output
abbrev pub only : ℕ → Option (List ℕ) → Option (List (List ℕ))
only outs one = if outs == 1 then option_map (λ bytes. bytes ∷ []) one else None

-- what a transformation makes of arguments and inputs
abbrev pub made : Transformation → List (List ℕ) → List (List ℕ) → ℕ → Option (List (List ℕ))
made Deal args ins outs = dealt (joined ins) outs
made transformation args ins outs = only outs (output transformation args ins (joined ins))

-- an unknown name makes nothing
unfoldable pub applied : Apply
applied name args ins outs = option_and_then (λ t. made t args ins outs) (named name)

abbrev pub is_known : List ℕ → Bool
is_known name = is_some (named name)

-- A run gives the outputs, or declines where there are none. It never fails.
abbrev pub Makes : Option (List (List ℕ)) → Result (Vec (List ℕ) Global) ToolFault → Type 0
Makes expected (Ok outputs) = expected ≡ Some outputs.items
Makes expected (Err Declined) = expected ≡ None
Makes expected (Err Failed) = ⊥
Makes expected (Err Memory) = Unit {0}
