-- The replicas of a workload: their catalogue, and their bytes.
use Rattle.std.specs.Prelude.{ℕ, ◌++◌, List, codes}
use Rattle.workload_maker.specs.Pieces.{piece_text}
use Rattle.workload_maker.specs.declared.pieces.Piece.TheVariants as piece
use Rattle.workload_maker.specs.Jobs.{commas, each}
use Rattle.workload_maker.specs.Names.{four_digits, name_text}
use Rattle.workload_maker.specs.Workflow.{raw}

-- each image is a replica, of 11 bytes
abbrev pub pfn_text : ℕ → List ℕ
pfn_text i = codes "mem:" ++ name_text (raw i).name

abbrev pub image_text : ℕ → List ℕ
image_text i = codes "image " ++ four_digits i ++ codes "\n"

-- its entry in the catalogue
unfoldable pub replica_text : ℕ → List ℕ
replica_text i =
    piece_text piece.Lfn ++ name_text (raw i).name ++ piece_text piece.Pfns
    ++ name_text (raw i).name ++ piece_text piece.EndPfns

abbrev pub replicas_text : ℕ → List ℕ
replicas_text n = piece_text piece.Replicas ++ commas (each n replica_text) ++ piece_text piece.End

-- its pfn and its bytes
abbrev pub image_of : ℕ → List ℕ × List ℕ
image_of i = (pfn_text i, image_text i)
