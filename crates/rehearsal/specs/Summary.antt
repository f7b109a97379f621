-- The summary of a rehearsal: its figures, and the line of the mosaic.
use Rattle.std.specs.Prelude.{ℕ, ◌++◌, List, codes, length}
use Rattle.std.specs.Fmt.{decimal}
use Rattle.hex.specs.Hex.{encode_lower}
use Rattle.sha2.specs.Sha256.{sha256}
use Rattle.rehearsal.specs.declared.figures.Figures.{Figures}

abbrev pub number_line : List ℕ → ℕ → List ℕ
number_line word n = word ++ codes " " ++ decimal n ++ codes "\n"

abbrev pub figure_lines : Figures → List ℕ
figure_lines f =
    number_line (codes "jobs") f.jobs ++ number_line (codes "tasks") f.tasks
    ++ number_line (codes "bound") f.bound ++ number_line (codes "peak") f.peak

-- the delivered file's name, its length and the SHA-256 of its bytes
abbrev pub mosaic_line : List ℕ → List ℕ
mosaic_line content =
    codes "delivered mosaic.txt " ++ decimal (length content) ++ codes " "
    ++ encode_lower (sha256 content) ++ codes "\n"

-- a line for the images and each figure, and then that of the mosaic
abbrev pub summary_text : ℕ → Figures → List ℕ → List ℕ
summary_text n f content = number_line (codes "images") n ++ figure_lines f ++ mosaic_line content
