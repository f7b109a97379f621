use Rattle.std.proofs.Common.{◌≡◌, ◌<◌, ◌++◌, ℕ, length, drop}
use Rattle.toolbox.specs.Lines.{bytes_of, written}
use Rattle.toolbox.specs.Transformation.Deal.{hand, text_at, texts_of}
use Rattle.toolbox.proofs.transformation.deal.hands.Given as goal

abbrev pub invariant-loop-k : goal.invariant-loop-k
invariant-loop-k l = record {
  long : length l.texts.items ≡ l.count;
  dealt : (j : ℕ) → j < l.count → text_at (texts_of l.texts.items) j ++ written (hand l.count j l.k (bytes_of (drop l.k l.lines))) ≡ written (hand l.count j 0 (bytes_of l.lines));
}
