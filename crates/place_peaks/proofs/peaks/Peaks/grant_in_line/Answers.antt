use Rattle.std.proofs.Common.{◌+◌, ℕ, [], cond, nat_eq, get_or, None, refl, sym, ap, subst, ◌∙◌}
use Rattle.std.specs.Prelude.{set}
use Rattle.place_peaks.specs.declared.peaks.Peaks.{Peaks}
use Rattle.place_peaks.specs.Granting.{CanHold, CanStartAt}
use Rattle.place_peaks.specs.Peaks.{left_of}
use Rattle.place_peaks.specs.Places.{is_place}
use Rattle.place_peaks.specs.Tree.{front_changed}
use Rattle.place_peaks.proofs.FrontLemmas.{marked_off}
use Rattle.place_peaks.proofs.SetLemmas.{unmarked}
use Rattle.place_peaks.proofs.peaks.Peaks.grant_in_line.Goals as goal

pub add_base-requires : goal.add_base-requires
add_base-requires c = λ q home. subst (CanHold c.args.self.now.base.items q) (sym c.need-need.ensures) (c.requires.room q home).holds

pub start_at-requires : goal.start_at-requires
start_at-requires c = λ q home. subst (CanStartAt c.args.self.now.trees.items q (get_or c.args.self.now.seating.seats.items c.args.task 0)) (sym c.need-need.ensures) (c.requires.room q home).starts

pub returns : goal.returns
returns c =
    let b : Peaks = c.args.self.now in
    let t : ℕ = c.args.task in record {
      same = refl;
      marks_long = c.unmark.ensures.long;
      bases_long = c.add_base.ensures.long;
      trees_long = c.start_at.ensures.long;
      left = λ u. c.unmark.ensures.each u ∙ unmarked (nat_eq t u) (left_of b u);
      base = λ q. c.add_base.ensures.each q ∙ ap (λ (n : ℕ). cond (is_place q (get_or b.seating.homes.items t None)) (get_or b.base.items q 0 + n) (get_or b.base.items q 0)) c.need-need.ensures;
      trees = λ q. c.start_at.ensures.each q ∙ ap (λ (n : ℕ). cond (is_place q (get_or b.seating.homes.items t None)) (set (front_changed (get_or b.seating.seats.items t 0) (λ m. m + n) (get_or b.trees.items q [])) (get_or b.seating.seats.items t 0) None) (get_or b.trees.items q [])) c.need-need.ensures;
      passed = λ h. c.next_front-self.ensures (marked_off b c.unmark.new.left.items t c.unmark.ensures.each h);
    }
