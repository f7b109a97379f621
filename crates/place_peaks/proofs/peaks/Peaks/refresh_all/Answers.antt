use Rattle.std.proofs.Common.{◌≡◌, ◌+◌, ◌<◌, ℕ, List, take, true, length, refl, sym, ap, subst, ◌∙◌, arith}
use Rattle.plan_core.specs.Numbers.{has}
use Rattle.place_peaks.specs.Peaks.{line_of}
use Rattle.place_peaks.specs.Ready.{IsIndexedBut, but_one, but_some, with_ready}
use Rattle.place_peaks.specs.declared.peaks.Peaks.{Peaks}
use Rattle.place_peaks.proofs.RefreshLemmas.{all_now, but_more, but_weaker, nothing_yet}
use Rattle.place_peaks.proofs.peaks.Peaks.refresh_all.Goals as goal

pub loop-k-init : goal.loop-k-init
loop-k-init c = record { same = refl; groups = c.requires.groups; indexed = nothing_yet c.args.plan.now c.args.self.now (line_of c.args.self.now) 0 refl }

pub loop-k-preserved : goal.loop-k-preserved
loop-k-preserved c =
    let line : line_of c.loop-k.self ≡ line_of c.args.self.now = ap line_of c.loop-k.invariant.same in
    let within : c.loop-k.k < length (line_of c.loop-k.self) = (let count = c.count_line-k-end.ensures in let same = ap length line in let test = c.loop-k-test.true in omega (arith, count, same, test)) in
    record {
      same = c.refresh.ensures.same ∙ ap (λ (b : Peaks). with_ready b c.refresh.new.self.ready) c.loop-k.invariant.same;
      groups = c.refresh.ensures.groups;
      indexed = subst (λ (xs : List ℕ). IsIndexedBut c.args.plan.now c.refresh.new.self (but_some (λ t. true) (has (take (c.loop-k.k + 1) xs)))) line
          (but_weaker c.args.plan.now c.refresh.new.self _ _ (c.refresh.ensures.indexed (but_some (λ t. true) (has (take c.loop-k.k (line_of c.loop-k.self))))
          (subst (λ (xs : List ℕ). IsIndexedBut c.args.plan.now c.loop-k.self (but_some (λ t. true) (has (take c.loop-k.k xs)))) (sym line) c.loop-k.invariant.indexed))
          (λ u e. ap (λ (t : ℕ). but_one (but_some (λ t. true) (has (take c.loop-k.k (line_of c.loop-k.self)))) t u) c.line_task-task.ensures ∙ but_more (λ t. true) (line_of c.loop-k.self) c.loop-k.k u within e));
    }

pub returns-clause-indexed : goal.returns-clause-indexed
returns-clause-indexed c =
    let line : line_of c.loop-k.self ≡ line_of c.args.self.now = ap line_of c.loop-k.invariant.same in
    all_now c.args.plan.now c.loop-k.self c.loop-k.k (let count = c.count_line-k-end.ensures in let same = ap length line in omega (arith, count, same))
    (subst (λ (xs : List ℕ). IsIndexedBut c.args.plan.now c.loop-k.self (but_some (λ t. true) (has (take c.loop-k.k xs)))) (sym line) c.loop-k.invariant.indexed)
