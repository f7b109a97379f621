-- Where a delivered file is found.
use Rattle.std.specs.Prelude.{ℕ, List, codes}
use Rattle.host_files.specs.FileName.{path_in}

-- in the folder of the deliveries, under its name as a part of a path
abbrev pub pfn_of : List ℕ → List ℕ
pfn_of lfn = path_in (codes "output") lfn
