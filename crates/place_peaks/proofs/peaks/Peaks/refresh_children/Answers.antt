use Rattle.std.proofs.Common.{take, refl, ap, ◌∙◌, arith}
use Rattle.plan_core.specs.Numbers.{has}
use Rattle.plan_core.specs.Words.{parents}
use Rattle.place_peaks.specs.Ready.{but_some, with_ready}
use Rattle.place_peaks.specs.declared.peaks.Peaks.{Peaks}
use Rattle.place_peaks.proofs.RefreshLemmas.{but_first, but_last, but_more, but_weaker}
use Rattle.place_peaks.proofs.peaks.Peaks.refresh_children.Goals as goal

pub loop-i-init : goal.loop-i-init
loop-i-init c = record { same = refl; groups = c.requires.groups; indexed = λ off h. but_first c.args.plan.now c.args.self.now off c.children_of-children.result.now 0 refl h }

pub loop-i-preserved : goal.loop-i-preserved
loop-i-preserved c = record {
  same = c.refresh.ensures.same ∙ ap (λ (b : Peaks). with_ready b c.refresh.new.self.ready) c.loop-i.invariant.same;
  groups = c.refresh.ensures.groups;
  indexed = λ off h. but_weaker c.args.plan.now c.refresh.new.self _ _ (c.refresh.ensures.indexed (but_some off (has (take c.loop-i.i c.children_of-children.result.now))) (c.loop-i.invariant.indexed off h))
      (λ u e. but_more off c.children_of-children.result.now c.loop-i.i u c.loop-i-test.true e);
}

pub returns-clause-indexed : goal.returns-clause-indexed
returns-clause-indexed c = λ off h. but_weaker c.args.plan.now c.loop-i.self _ _ (c.loop-i.invariant.indexed off h)
    (but_last off c.children_of-children.result.now c.loop-i.i (λ u. has (parents c.args.plan.now u) c.args.task) (omega arith) (λ u. c.children_of-children.ensures.same u ∙ c.requires.links.edges c.args.task u))
