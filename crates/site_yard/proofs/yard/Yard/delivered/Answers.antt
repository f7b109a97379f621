use Rattle.std.proofs.Common.{sym, drop, take}
use Rattle.site_yard.proofs.DeliveryListLemmas.{are_of_bytes, digests_told, files_are, lengths_are}
use Rattle.site_yard.proofs.yard.Yard.delivered.Goals as goal

pub returns-clause-files : goal.returns-clause-files
returns-clause-files g c =
    let y = c.args.self.now in
    rw (c.deref.ensures.value, sym y.same_plan) (files_are g.T.Tool.apply y.book.plan (take y.opened y.book.history.events) (drop y.opened y.book.history.events) (g.H.Host.told y.host) (g.H.Host.marked y.host) y.delivered.items y.listed)

pub returns-clause-lengths : goal.returns-clause-lengths
returns-clause-lengths g c =
    let y = c.args.self.now in
    rw (c.deref.ensures.value, sym y.same_plan) (lengths_are g.T.Tool.apply y.book.plan (take y.opened y.book.history.events) (drop y.opened y.book.history.events) (g.H.Host.told y.host) (g.H.Host.marked y.host) y.delivered.items y.listed)

pub returns-clause-digests : goal.returns-clause-digests
returns-clause-digests g c =
    let y = c.args.self.now in
    rw (c.deref.ensures.value, sym y.same_plan) (digests_told g.T.Tool.apply y.book.plan (take y.opened y.book.history.events) (drop y.opened y.book.history.events) (g.H.Host.told y.host) (g.H.Host.marked y.host) y.delivered.items y.listed)

pub returns-clause-of_bytes : goal.returns-clause-of_bytes
returns-clause-of_bytes g c =
    let y = c.args.self.now in
    rw c.deref.ensures.value (are_of_bytes g.T.Tool.apply y.book.plan (take y.opened y.book.history.events) (drop y.opened y.book.history.events) (g.H.Host.told y.host) (g.H.Host.marked y.host) y.delivered.items y.listed)
