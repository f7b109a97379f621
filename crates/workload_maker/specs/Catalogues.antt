-- The request of a workload, and its catalogues of sites and transformations.
use Rattle.std.specs.Prelude.{ℕ, ◌*◌, ◌++◌, List, [], ◌∷◌, codes, map}
use Rattle.std.specs.Fmt.{decimal}
use Rattle.workload_maker.specs.Pieces.{piece_text}
use Rattle.workload_maker.specs.declared.pieces.Piece.TheVariants as piece
use Rattle.workload_maker.specs.Jobs.{commas}

-- one site, with a bound of 162 bytes for each image; every transformation has its tool
abbrev pub request_text : ℕ → List ℕ
request_text n = piece_text piece.Request ++ decimal (162 * n) ++ piece_text piece.Tools

abbrev pub sites_text : List ℕ
sites_text = codes "{\"pegasus\":\"5.0\",\"sites\":[{\"name\":\"pool\"}]}"

-- each transformation may be staged in, from the one site
unfoldable pub transformation_text : List ℕ → List ℕ
transformation_text name =
    piece_text piece.Name ++ name ++ piece_text piece.Sites ++ name ++ piece_text piece.Stageable

unfoldable pub some_text : List ℕ
some_text = commas (map transformation_text (codes "mProject" ∷ codes "mDiffFit" ∷ codes "mConcatFit" ∷ []))

unfoldable pub others_text : List ℕ
others_text = commas (map transformation_text (codes "mBgModel" ∷ codes "mBackground" ∷ codes "mAdd" ∷ []))

abbrev pub transformations_text : List ℕ
transformations_text =
    piece_text piece.Transformations ++ some_text ++ piece_text piece.Comma ++ others_text
    ++ piece_text piece.End
