use Rattle.std.proofs.Common.{◌≡◌, ◌+◌, length, take, arith}
use Rattle.host_files.proofs.ReadingLemmas.{more_passed}
use Rattle.host_files.proofs.reading.count_on.Goals as goal

pub loop-preserved : goal.loop-preserved
loop-preserved g c =
    let long : length (take c.in-Ok.count c.read.new.buf) ≡ c.in-Ok.count = omega (arith, c.in-Ok.ensures.bound.1) in
    (c.loop.invariant.0 + c.in-Ok.count, more_passed _ _ _ _ _ _ c.loop.invariant.1 c.in-Ok.ensures.bytes.0 long, omega (arith, c.loop.invariant.2), omega (arith, c.read.auto.buf, c.loop.invariant.3))
