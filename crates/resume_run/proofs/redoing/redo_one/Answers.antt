use Rattle.std.proofs.Common.{◌∙◌, ◌∷◌, [], ap}
use Rattle.run_record.specs.code.Events.{Log}
use Rattle.lease_book.specs.declared.book.Book.{Book}
use Rattle.craft.specs.declared.crew.Crew.{Crew}
use Rattle.plan_run.specs.code.Moments.{member_moment}
use Rattle.resume_run.proofs.FaultsLemmas.{used_counts}
use Rattle.resume_run.proofs.RunsLemmas.{used_runs}
use Rattle.resume_run.proofs.TellingLemmas.{done_by, part_stays, used_told}
use Rattle.resume_run.proofs.redoing.redo_one.Goals as goal

pub returns-clause-redoes : goal.returns-clause-redoes
returns-clause-redoes g c =
    let crew = c.args.crew.now.items in
    let old : Crew g.row.T.Denot g.row.G.Denot = c.index_mut-member.result.now in
    let new : Crew g.row.T.Denot g.row.G.Denot = c.do_task.new.crew in
    let e = c.do_task.ensures in
    let d = e.does in
    record {
      entry = d.entry;
      is = d.is;
      done = d.done;
      counted = used_counts (member_moment g.T.Tool g.G.Gate) crew c.args.lost.worker c.args.lost.task.0 old new d.entry c.requires.member c.index_mut-member.ensures.value d.done e.tool d.counted;
      fails_is = c.ends_in_fail.ensures c.args.yard.now.book.history.events d.entry (ap (λ (h : Log). h.events) c.record.ensures.value ∙ ap (λ (b : Book). b.history.events) c.book.ensures ∙ d.is);
    }

pub returns-clause-asked : goal.returns-clause-asked
returns-clause-asked g c =
    let crew = c.args.crew.now.items in
    let old : Crew g.row.T.Denot g.row.G.Denot = c.index_mut-member.result.now in
    let new : Crew g.row.T.Denot g.row.G.Denot = c.do_task.new.crew in
    part_stays (λ (m : Crew g.row.T.Denot g.row.G.Denot). g.G.Gate.asked m.gate) crew c.args.lost.worker old new c.index_mut-member.ensures.value c.do_task.ensures.asked

pub returns-clause-told : goal.returns-clause-told
returns-clause-told g c =
    let crew = c.args.crew.now.items in
    let old : Crew g.row.T.Denot g.row.G.Denot = c.index_mut-member.result.now in
    let new : Crew g.row.T.Denot g.row.G.Denot = c.do_task.new.crew in
    let d = c.do_task.ensures.does in
    used_told (member_moment g.T.Tool g.G.Gate) crew c.args.lost.worker old new c.args.yard.now.book.history.events c.do_task.new.yard.book.history.events (d.entry ∷ []) c.requires.member c.index_mut-member.ensures.value d.is (done_by c.args.lost.worker c.args.lost.task.0 d.entry d.done, tt) c.do_task.ensures.told

pub returns-clause-runs : goal.returns-clause-runs
returns-clause-runs g c =
    let crew = c.args.crew.now.items in
    let old : Crew g.row.T.Denot g.row.G.Denot = c.index_mut-member.result.now in
    let new : Crew g.row.T.Denot g.row.G.Denot = c.do_task.new.crew in
    let d = c.do_task.ensures.does in
    used_runs (member_moment g.T.Tool g.G.Gate) c.args.yard.now.ordered.value.plan crew c.args.lost.worker old new c.args.yard.now.book.history.events c.do_task.new.yard.book.history.events (d.entry ∷ []) c.requires.member c.index_mut-member.ensures.value d.is c.do_task.ensures.runs
