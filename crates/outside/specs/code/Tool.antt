-- What a run of a tool answers.
use Rattle.std.specs.Prelude.{◌≡◌, ℕ, List, Option, Some, None, Result, Ok, Err, Vec}
use Rattle.std.specs.declared.alloc.Global.{Global}
use Rattle.outside.specs.code.Counts.{Rose}
use Rattle.outside.specs.declared.tool.ToolFault.{ToolFault}
use Rattle.outside.specs.declared.tool.ToolFault.TheVariants.{Declined, Failed, Memory}

-- A run's answer, with its tool's count before and after. `made` is what apply gives.
abbrev pub Ran : Option (List (List ℕ)) → ℕ → ℕ → Result (Vec (List ℕ) Global) ToolFault → Type 0
Ran made before after (Ok outputs) = made ≡ Some outputs.items
Ran made before after (Err Declined) = (made ≡ None) × (after ≡ before)
Ran made before after (Err Failed) = Rose before after
Ran made before after (Err Memory) = Unit {0}
