use Rattle.std.proofs.Common.{◌≡◌, drop}
use Rattle.outside.specs.code.Counts.{IsLater}
use Rattle.evaluation.proofs.BasesLemmas.{GoesOn}
use Rattle.evaluation.proofs.bases.read_bases.Given as goal

abbrev pub invariant-loop-source : goal.invariant-loop-source
invariant-loop-source g l = record {
  told : g.H.Host.told l.host ≡ g.H.Host.told l.initial.host;
  later : IsLater (g.H.Host.counts l.initial.host) (g.H.Host.counts l.host);
  goes : GoesOn (g.H.Host.told l.initial.host) l.sources (drop l.source-index l.sources) (g.H.Host.counts l.initial.host) (g.H.Host.counts l.host) l.bases.items;
}
