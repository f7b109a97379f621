-- The workflow of n images: its files and its jobs, as tables.
use Rattle.std.specs.Prelude.{ℕ, ◌+◌, ◌-◌, ◌*◌, ◌++◌, true, false, List, [], ◌∷◌, codes, map}
use Rattle.workload_maker.specs.Pieces.{piece_text}
use Rattle.workload_maker.specs.declared.pieces.Piece.TheVariants as piece
use Rattle.workload_maker.specs.declared.names.File.{File}
use Rattle.workload_maker.specs.declared.names.FileName.TheVariants.{Raw, Proj, Fit, Bg, Fits, Model, Mosaic}
use Rattle.workload_maker.specs.Jobs.{Job, commas, each, job, job_text}

-- The files with their declared sizes.
abbrev pub raw : ℕ → File
raw i = record { name = Raw i; size = 16 }

abbrev pub proj : ℕ → File
proj i = record { name = Proj i; size = 16 }

abbrev pub fit : ℕ → File
fit i = record { name = Fit i; size = 32 }

abbrev pub bg : ℕ → File
bg i = record { name = Bg i; size = 81 }

abbrev pub fits : ℕ → File
fits n = record { name = Fits; size = 32 * (n - 1) }

abbrev pub model : File
model = record { name = Model; size = 65 }

abbrev pub mosaic : ℕ → File
mosaic n = record { name = Mosaic; size = 81 * n }

-- The table of the jobs: one of each for every number, or a single one.
abbrev pub project : ℕ → Job
project i = job (codes "mProject") i (raw i ∷ []) (proj i) false

abbrev pub diff_fit : ℕ → Job
diff_fit i = job (codes "mDiffFit") i (proj i ∷ proj (i + 1) ∷ []) (fit i) false

abbrev pub concat_fit : ℕ → Job
concat_fit n = job (codes "mConcatFit") 0 (each (n - 1) fit) (fits n) false

abbrev pub bg_model : ℕ → Job
bg_model n = job (codes "mBgModel") 0 (fits n ∷ []) model false

abbrev pub background : ℕ → Job
background i = job (codes "mBackground") i (proj i ∷ model ∷ []) (bg i) false

abbrev pub add : ℕ → Job
add n = job (codes "mAdd") 0 (each n bg) (mosaic n) true

abbrev pub jobs : ℕ → List Job
jobs n = each n project ++ (each (n - 1) diff_fit
    ++ (concat_fit n ∷ bg_model n ∷ (each n background ++ add n ∷ [])))

abbrev pub workflow_text : ℕ → List ℕ
workflow_text n = piece_text piece.Workflow ++ commas (map job_text (jobs n)) ++ piece_text piece.Dependencies
