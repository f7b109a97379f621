use Rattle.std.proofs.Common.{◌≡◌, ◌++◌, ℕ, drop, map}
use Rattle.transfer_refiner.specs.Tasks.{pair_of}
use Rattle.transfer_refiner.proofs.listing.push_pairs.Given as goal

abbrev pub invariant-loop-file : goal.invariant-loop-file
invariant-loop-file l = l.pairs.items ++ map (λ (f : ℕ). pair_of (l.site.0, f)) (drop l.file-index l.files) ≡ l.fn.pairs.items ++ map (λ (f : ℕ). pair_of (l.site.0, f)) l.files
