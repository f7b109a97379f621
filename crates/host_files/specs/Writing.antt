-- Writing a file of the working folder.
use Rattle.std.specs.Prelude.{ℕ, ◌++◌, List, codes}
use Rattle.std.specs.Fmt.{decimal}

-- the path of the draft with a number: `.pegasus.part.` and the number
abbrev pub part_path : ℕ → List ℕ
part_path number = codes ".pegasus.part." ++ decimal number
