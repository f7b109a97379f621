-- Beside `specs/Graph.antt`: what the code's own contracts say.
use Rattle.std.specs.Prelude.{List, map, Vec}
use Rattle.std.specs.declared.alloc.Global.{Global}
use Rattle.values.specs.declared.numbers.JobId.{JobId}

abbrev pub job_lists : List (Vec JobId Global) → List (List JobId)
job_lists vs = map (λ (v : Vec JobId Global). v.items) vs
