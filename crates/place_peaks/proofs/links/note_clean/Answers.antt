use Rattle.std.proofs.Common.{◌∙◌, arith}
use Rattle.place_peaks.proofs.Offered.{is_itself}
use Rattle.place_peaks.proofs.LinksLemmas.{one_cleaned}
use Rattle.place_peaks.proofs.links.note_clean.Goals as goal

pub index_mut-requires : goal.index_mut-requires
index_mut-requires c =
    let below = c.requires.goods.cleans_pairs c.args.task c.in-Some.good (c.in-Some.ensures c.in-Some.good ∙ is_itself c.in-Some.good) in
    omega (arith, below, c.requires.long, c.args.cleaners.now.ok)

pub returns-in-Some-clause-next : goal.returns-in-Some-clause-next
returns-in-Some-clause-next c =
    let below = c.requires.goods.cleans_pairs c.args.task c.in-Some.good (c.in-Some.ensures c.in-Some.good ∙ is_itself c.in-Some.good) in
    one_cleaned c.args.plan.now c.args.task c.in-Some.good c.args.cleaners.now.items c.requires.so_far c.in-Some.ensures (omega (arith, below, c.requires.long))
