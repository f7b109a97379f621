use Rattle.plan_request.proofs.FileSizesLemmas.{declared, one_each_of}
use Rattle.plan_request.proofs.file_sizes.declared_sizes.Goals as goal

pub returns-clause-sizes : goal.returns-clause-sizes
returns-clause-sizes c = declared c.args.request.now c.as_slice.result.now c.in_ok-index.index c.args.files.now c.args.stated.now c.in_ok-sizes.sizes.items c.as_slice.ensures c.in_ok-index.ensures c.in_ok-sizes.ensures

pub returns-clause-len : goal.returns-clause-len
returns-clause-len c = one_each_of c.in_ok-index.index c.args.request.now.default_size c.args.files.now c.args.stated.now c.in_ok-sizes.sizes.items c.requires.one_for_each_file c.in_ok-sizes.ensures
