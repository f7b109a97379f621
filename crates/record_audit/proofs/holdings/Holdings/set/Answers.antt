use Rattle.std.proofs.Common.{◌≡◌, ℕ, List, ap, arith, ◌∙◌}
use Rattle.storage_simulation.specs.code.Standings.{at_in}
use Rattle.record_audit.proofs.HoldingsLemmas.{changed_by, set_fits, set_somewhere}
use Rattle.record_audit.proofs.holdings.Holdings.set.Goals as goal

pub overflow_add-sum : goal.overflow_add-sum
overflow_add-sum c =
    let sum : c.number_at-sum.result ≡ at_in 0 c.args.self.now.sums.items c.in-Some.site = c.number_at-sum.ensures ∙ ap (λ (xs : List ℕ). at_in 0 xs c.in-Some.site) c.deref-in-Some.ensures.value in
    let fits = set_fits c.args.plan.now c.args.self.now c.args.pair c.args.size c.in-Some.site c.requires.limits c.requires.pair c.requires.small c.requires.adds_up c.in-Some.ensures.within c.in-Some.ensures.lies in
    let room = fits.1 in
    omega (arith, sum, room)

pub overflow_sub-sum : goal.overflow_sub-sum
overflow_sub-sum c =
    let sum : c.number_at-sum.result ≡ at_in 0 c.args.self.now.sums.items c.in-Some.site = c.number_at-sum.ensures ∙ ap (λ (xs : List ℕ). at_in 0 xs c.in-Some.site) c.deref-in-Some.ensures.value in
    let before : c.number_at-before.result ≡ at_in 0 c.args.self.now.sizes.items c.args.pair = c.number_at-before.ensures ∙ ap (λ (xs : List ℕ). at_in 0 xs c.args.pair) c.deref.ensures.value in
    let fits = set_fits c.args.plan.now c.args.self.now c.args.pair c.args.size c.in-Some.site c.requires.limits c.requires.pair c.requires.small c.requires.adds_up c.in-Some.ensures.within c.in-Some.ensures.lies in
    let enough = fits.0 in
    omega (arith, sum, before, enough)

pub returns-in-Some-clause-adds_up : goal.returns-in-Some-clause-adds_up
returns-in-Some-clause-adds_up c =
    let sum : c.number_at-sum.result ≡ at_in 0 c.args.self.now.sums.items c.in-Some.site = c.number_at-sum.ensures ∙ ap (λ (xs : List ℕ). at_in 0 xs c.in-Some.site) c.deref-in-Some.ensures.value in
    let before : c.number_at-before.result ≡ at_in 0 c.args.self.now.sizes.items c.args.pair = c.number_at-before.ensures ∙ ap (λ (xs : List ℕ). at_in 0 xs c.args.pair) c.deref.ensures.value in
    set_somewhere c.args.plan.now c.args.self.now (record { sizes = c.set_number.new.numbers; sums = c.set_number-in-Some.new.numbers }) c.args.pair c.args.size c.in-Some.site _
    c.requires.pair c.requires.small c.requires.adds_up c.in-Some.ensures.within c.in-Some.ensures.lies
    (changed_by c.number_at-sum.result _ c.args.size c.number_at-before.result _ sum before)
    c.set_number.ensures.long c.set_number.ensures.value c.set_number-in-Some.ensures.long c.set_number-in-Some.ensures.value
