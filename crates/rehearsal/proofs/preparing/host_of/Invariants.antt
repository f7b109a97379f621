use Rattle.std.proofs.Common.{◌≡◌, drop}
use Rattle.outside.specs.code.Counts.{no_calls}
use Rattle.outside.specs.code.MemoryHost.{host_counts, host_store}
use Rattle.outside.specs.code.Store.{blank}
use Rattle.rehearsal.specs.Preparing.{stored}
use Rattle.rehearsal.proofs.preparing.host_of.Given as goal

abbrev pub invariant-loop-pfn : goal.invariant-loop-pfn
invariant-loop-pfn l = record {
  store : stored (drop l.pfn-index l.replicas) (host_store l.host) ≡ stored l.replicas blank;
  counts : host_counts l.host ≡ no_calls;
}
