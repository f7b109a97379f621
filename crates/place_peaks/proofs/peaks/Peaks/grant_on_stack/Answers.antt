use Rattle.std.proofs.Common.{◌+◌, ℕ, cond, get_or, None, refl, sym, ap, subst, ◌∙◌}
use Rattle.place_peaks.specs.declared.peaks.Peaks.{Peaks}
use Rattle.place_peaks.specs.Granting.{CanHold}
use Rattle.place_peaks.specs.Places.{is_place}
use Rattle.place_peaks.proofs.peaks.Peaks.grant_on_stack.Goals as goal

pub add_base-requires : goal.add_base-requires
add_base-requires c = λ q home. subst (CanHold c.args.self.now.base.items q) (sym c.need-need.ensures) (c.requires.room q home)

pub returns-clause-granted : goal.returns-clause-granted
returns-clause-granted c =
    let b : Peaks = c.args.self.now in
    let t : ℕ = c.args.task in record {
      same = refl;
      bases_long = c.add_base.ensures.long;
      base = λ q. c.add_base.ensures.each q ∙ ap (λ (n : ℕ). cond (is_place q (get_or b.seating.homes.items t None)) (get_or b.base.items q 0 + n) (get_or b.base.items q 0)) c.need-need.ensures;
    }
