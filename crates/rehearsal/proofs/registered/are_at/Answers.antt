use Rattle.std.proofs.Common.{ℕ, ◌+◌, ◌&&◌, Bool, List, drop, sym, ap, ◌∙◌, arith}
use Rattle.rehearsal.specs.Registered.{are_at, is_at}
use Rattle.rehearsal.proofs.RegisteredLemmas.{at_place, too_few}
use Rattle.rehearsal.proofs.registered.are_at.Goals as goal

pub returns-then-images-entries : goal.returns-then-images-entries
returns-then-images-entries c = sym (too_few c.args.images.now c.args.entries.now (omega arith))

pub returns-then-not-is_at : goal.returns-then-not-is_at
returns-then-not-is_at c =
    let xs = c.args.images.now in
    let es = c.args.entries.now in
    let i = c.loop-place.place in
    let here = at_place xs es i c.index-images-place.result c.index-entries-place.result (omega arith) (omega arith) c.index-images-place.is c.index-entries-place.is in
    sym (here ∙ ap (λ (b : Bool). b && are_at (drop (i + 1) xs) (drop (i + 1) es)) (ap (λ (x : List ℕ × List ℕ). is_at x.0 c.index-entries-place.result) c.index-images-place.is ∙ sym c.is_at.ensures ∙ c.if-not-is_at.true)) ∙ c.loop-place.invariant

pub loop-place-preserved : goal.loop-place-preserved
loop-place-preserved c =
    let xs = c.args.images.now in
    let es = c.args.entries.now in
    let i = c.loop-place.place in
    let here = at_place xs es i c.index-images-place.result c.index-entries-place.result (omega arith) (omega arith) c.index-images-place.is c.index-entries-place.is in
    sym (here ∙ ap (λ (b : Bool). b && are_at (drop (i + 1) xs) (drop (i + 1) es)) (ap (λ (x : List ℕ × List ℕ). is_at x.0 c.index-entries-place.result) c.index-images-place.is ∙ sym c.is_at.ensures ∙ c.if-not-is_at.false)) ∙ c.loop-place.invariant
