-- The numbers of lines and of bytes of the input.
use Rattle.std.specs.Prelude.{ℕ, ◌++◌, List, length, codes}
use Rattle.std.specs.Fmt.{decimal}
use Rattle.toolbox.specs.Lines.{lines}

abbrev pub counted : List ℕ → List ℕ
counted input = decimal (length (lines input)) ++ codes " " ++ decimal (length input) ++ codes "\n"
