use Rattle.std.proofs.Common.{refl, sym}
use Rattle.plan_run.proofs.RunningLemmas.{report_is}
use Rattle.plan_run.proofs.running.text_of.Goals as goal

pub returns : goal.returns
returns g c =
    let y = c.args.yard.now in
    let d = c.delivered.ensures in
    let is = rw (c.plan.ensures, c.record-record.ensures.value, c.book.ensures) at c.in_ok-text.ensures in
    report_is g.T.Tool.apply y.ordered.value.plan y.opened y.book.history.events (g.H.Host.told y.host) (g.H.Host.marked y.host) _ c.delivered.result.now
    (rw (c.record-record.ensures.value, c.book.ensures) at c.has_entries.ensures)
    d.files d.lengths d.of_bytes d.digests refl is (sym d.value)
