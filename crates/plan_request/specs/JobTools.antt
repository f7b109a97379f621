-- The tool that does the work of a transformation.
use Rattle.std.specs.Prelude.{ℕ, List, map, unwrap_or}
use Rattle.std.specs.Map.{lookup}
use Rattle.std.specs.Str.{bytes_eq}
use Rattle.plan_request.specs.declared.request.ToolOf.{ToolOf}

abbrev pub named_tool : ToolOf → List ℕ × List ℕ
named_tool t = (t.transformation, t.tool)

-- the tool that is stated for it, else the one of its own name
abbrev pub tool_of : List ToolOf → List ℕ → List ℕ
tool_of tools transformation = unwrap_or (lookup (bytes_eq transformation)
    (map named_tool tools)) transformation
