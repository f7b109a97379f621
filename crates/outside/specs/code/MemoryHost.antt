-- A store in memory.
use Rattle.std.specs.Prelude.{ℕ, List}
use Rattle.std.specs.FinMap as map
use Rattle.values.specs.code.SiteMap.{put_pair}
use Rattle.outside.specs.declared.counts.Counts.{Counts}
use Rattle.outside.specs.declared.failing.Failing.{Failing}
use Rattle.outside.specs.declared.memory_host.MemoryHost.{MemoryHost}
use Rattle.outside.specs.declared.store.Store.{Store}

-- what it holds
abbrev pub host_store : MemoryHost → Store
host_store h = h.store

-- what it held at its last mark
abbrev pub host_marked : MemoryHost → Store
host_marked h = h.marked

abbrev pub host_failing : MemoryHost → Failing
host_failing h = h.failing

-- the calls of its parts that are to fail
abbrev pub host_parts : MemoryHost → List (ℕ × ℕ)
host_parts h = h.parts.items

abbrev pub host_counts : MemoryHost → Counts
host_counts h = h.counts

-- the store with a replica set
abbrev pub with_replica : List ℕ → List ℕ → Store → Store
with_replica pfn bytes s = record s { replicas = map.insert s.replicas pfn bytes }

-- the store with a site's file set
abbrev pub with_scratch : List ℕ → List ℕ → List ℕ → Store → Store
with_scratch site name bytes s = record s { scratch = put_pair s.scratch site name bytes }
