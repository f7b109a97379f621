-- A table of the first two jobs that make each file.
use Rattle.std.specs.Prelude.{◌≡◌, ℕ, ◌==◌, ◌&&◌, Bool, cond, List, [], ◌∷◌, if◌then◌else◌, Option, Some, None, is_some, slice_index_or}
use Rattle.values.specs.declared.numbers.JobId.{JobId}
use Rattle.dependency_graph.specs.Edges.{is_among}
use Rattle.dependency_graph.specs.declared.makers.Makers.{Makers}

abbrev pub nobody : Makers
nobody = record { first = None; second = None }

-- what is known of a file's jobs
abbrev pub known : List Makers → ℕ → Makers
known table f = slice_index_or table f nobody

-- the first two numbers of a list
abbrev pub first_two : List ℕ → Makers
first_two [] = nobody
first_two (a ∷ []) = record { first = Some (record { 0 = a }); second = None }
first_two (a ∷ b ∷ ns) = record { first = Some (record { 0 = a }); second = Some (record { 0 = b }) }

-- the first of two answers
abbrev pub or_job : Option JobId → JobId → Option JobId
or_job None j = Some j
or_job (Some a) j = Some a

-- one job more, unless it is the first one
abbrev pub noted_after : Option JobId → Option JobId → JobId → Makers
noted_after None second j = record { first = Some j; second = second }
noted_after (Some a) second j = record {
  first = Some a;
  second = if a.0 == j.0 then second else or_job second j;
}

abbrev pub noted : JobId → Makers → Makers
noted j m = noted_after m.first m.second j

-- what a table is after a job was noted at some files
abbrev pub AreNoted : List Makers → List Makers → JobId → List ℕ → Type 0
AreNoted old new j fs = (f : ℕ) → known new f ≡ cond (is_among f fs) (noted j (known old f)) (known old f)

-- two jobs are known
abbrev pub are_two : Makers → Bool
are_two m = is_some m.first && is_some m.second
