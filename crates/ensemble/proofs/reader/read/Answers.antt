use Rattle.ensemble.proofs.ReaderLemmas.{fit}
use Rattle.ensemble.proofs.reader.read.Goals as goal

pub returns-clause-fit : goal.returns-clause-fit
returns-clause-fit c = fit c.args.bytes.now c.in_ok-ensemble.ensemble c.as_slice-2.result.now c.in_ok-ensemble.ensures c.as_slice-2.ensures c.in_ok-check_names.ensures
