use Rattle.std.proofs.Common.{sym}
use Rattle.site_yard.proofs.AgreesLemmas.{book_agrees, book_counted}
use Rattle.site_yard.proofs.LoanLemmas.{book_laws}
use Rattle.site_yard.proofs.yard.Yard.agrees.Goals as goal

pub returns-clause-legal : goal.returns-clause-legal
returns-clause-legal g c = let y = c.args.self.now in rw (sym y.same_plan, sym y.same_order) y.book.kept.legal

pub returns-clause-shows : goal.returns-clause-shows
returns-clause-shows g c =
    let y = c.args.self.now in
    rw (sym y.same_plan) (book_agrees y.book (book_laws y.book c.plan_laws.ensures c.record_laws.ensures) g.T.Tool.apply y.opened (g.H.Host.told y.host) (g.H.Host.marked y.host) y.faults y.misses (g.H.Host.counts y.host) y.kept)

pub returns-clause-counted : goal.returns-clause-counted
returns-clause-counted g c =
    let y = c.args.self.now in
    book_counted y.book g.T.Tool.apply y.opened (g.H.Host.told y.host) (g.H.Host.marked y.host) y.faults y.misses (g.H.Host.counts y.host) y.kept
