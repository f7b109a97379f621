-- The jobs of a workload, and their text in its workflow.
use Rattle.std.specs.Prelude.{ℕ, zero, suc, ◌++◌, Bool, true, false, List, [], ◌∷◌, codes}
use Rattle.std.specs.Fmt.{decimal}
use Rattle.std.specs.List.{flat_map}
use Rattle.workload_maker.specs.Pieces.{piece_text}
use Rattle.workload_maker.specs.declared.pieces.Piece.TheVariants as piece
use Rattle.workload_maker.specs.declared.names.File.{File}
use Rattle.workload_maker.specs.Names.{four_digits, name_text}

-- A job has a transformation's name and a number, reads some files and makes one.
pub record Job : Type 0 where
  pub name : List ℕ
  pub number : ℕ
  pub inputs : List File
  pub output : File
  pub requested : Bool

-- a row of the table of jobs
abbrev pub job : List ℕ → ℕ → List File → File → Bool → Job
job name number inputs output requested = record {
  name = name;
  number = number;
  inputs = inputs;
  output = output;
  requested = requested;
}

-- the first n values of a list by number
abbrev pub each : {X : Type 0} → ℕ → (ℕ → X) → List X
each zero f = []
each (suc n) f = each n f ++ f n ∷ []

-- texts with commas between them
abbrev pub commas : List (List ℕ) → List ℕ
commas [] = []
commas (x ∷ []) = x
commas (x ∷ y ∷ ys) = x ++ piece_text piece.Comma ++ commas (y ∷ ys)

abbrev pub flag : Bool → List ℕ
flag true = codes "true"
flag false = codes "false"

-- a use that a job reads, and the one that it makes, each with its size
unfoldable pub input_text : File → List ℕ
input_text f =
    piece_text piece.Lfn ++ name_text f.name ++ piece_text piece.Input ++ decimal f.size
    ++ piece_text piece.Close

unfoldable pub output_text : File → Bool → List ℕ
output_text f requested =
    piece_text piece.Lfn ++ name_text f.name ++ piece_text piece.Output ++ flag requested
    ++ piece_text piece.Register ++ flag requested ++ piece_text piece.Size ++ decimal f.size
    ++ piece_text piece.Close

abbrev pub input_followed : File → List ℕ
input_followed f = input_text f ++ piece_text piece.Comma

-- the uses of a job, its output last
abbrev pub uses_text : List File → File → Bool → List ℕ
uses_text inputs output requested = flat_map input_followed inputs ++ output_text output requested

-- a job up to its uses; its id is its name, an underscore and its number
abbrev pub head_text : List ℕ → ℕ → List ℕ
head_text name number =
    piece_text piece.Job ++ name ++ piece_text piece.Id ++ name ++ piece_text piece.Under
    ++ four_digits number ++ piece_text piece.Uses

unfoldable pub job_text : Job → List ℕ
job_text j = head_text j.name j.number ++ uses_text j.inputs j.output j.requested ++ piece_text piece.End

-- with a comma behind it
abbrev pub with_comma : List ℕ → List ℕ
with_comma x = x ++ piece_text piece.Comma

abbrev pub followed : Job → List ℕ
followed j = job_text j ++ piece_text piece.Comma
