use Rattle.std.proofs.Common.{◌≡◌, ◌^◌, ◌≤◌, ℕ, ℤ, All, pos, take, to_z, w64, subst, sym, ap, ◌∙◌, arith}
use Rattle.std.proofs.lemmas.Int.{ints}
use Rattle.peak_tree.specs.Numbers.{StaysInRange, add_front}
use Rattle.place_peaks.proofs.TreeLemmas.{add_rises, all_rise}
use Rattle.place_peaks.proofs.tree.raise.Goals as goal

same : (n : ℕ) → n ≤ 2 ^ 62 → to_z w64 n ≡ pos n
same n h = omega (arith, ints, h)

pub add-requires-clause-range : goal.add-requires-clause-range
add-requires-clause-range c = subst (λ (d : ℤ). All (StaysInRange d) (take c.args.count c.args.tree.now)) (sym (same c.args.by c.requires.by)) (all_rise c.args.by c.args.count c.args.tree.now c.requires.range)

pub returns : goal.returns
returns c = c.add.ensures ∙ ap (λ (d : ℤ). add_front c.args.count d c.args.tree.now) (same c.args.by c.requires.by) ∙ add_rises c.args.by c.args.count c.args.tree.now
