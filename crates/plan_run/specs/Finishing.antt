-- What keeps a run from its end: a counted failure, or want of memory.
use Rattle.std.specs.Prelude.{ℕ, List, Option}
use Rattle.std.specs.FinMap as files
use Rattle.outside.specs.declared.store.Store.{Store}

-- the bytes at each pfn of a store
abbrev pub replicas_of : Store → List ℕ → Option (List ℕ)
replicas_of m pfn = files.get m.replicas pfn
