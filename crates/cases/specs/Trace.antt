-- The changes of a store as text.
use Rattle.std.specs.Prelude.{ℕ, ◌++◌, List, [], ◌∷◌, codes}
use Rattle.std.specs.Fmt.{decimal}
use Rattle.values.specs.Printed.{printed_name}
use Rattle.outside.specs.declared.operation.Operation.{Operation}
use Rattle.outside.specs.declared.operation.Operation.TheVariants.{Publish, Deliver, Remove}

-- a change as a line of words
abbrev pub operation_line : Operation → List ℕ
operation_line (Publish site name length) = codes "publish" ++ codes " " ++ printed_name site ++ codes " "
    ++ printed_name name ++ codes " " ++ decimal length ++ codes "\n"
operation_line (Deliver name length) = codes "deliver" ++ codes " " ++ printed_name name ++ codes " "
    ++ decimal length ++ codes "\n"
operation_line (Remove site name) = codes "remove" ++ codes " " ++ printed_name site ++ codes " "
    ++ printed_name name ++ codes "\n"

abbrev pub operation_lines : List Operation → List ℕ
operation_lines [] = []
operation_lines (o ∷ os) = operation_line o ++ operation_lines os
