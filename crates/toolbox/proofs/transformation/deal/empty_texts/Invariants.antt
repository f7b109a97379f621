use Rattle.std.proofs.Common.{◌≡◌, ℕ, [], length}
use Rattle.toolbox.specs.Transformation.Deal.{text_at, texts_of}
use Rattle.toolbox.proofs.transformation.deal.empty_texts.Given as goal

abbrev pub invariant-loop : goal.invariant-loop
invariant-loop l = (length l.texts.items ≡ l.counter) × ((k : ℕ) → text_at (texts_of l.texts.items) k ≡ [])
