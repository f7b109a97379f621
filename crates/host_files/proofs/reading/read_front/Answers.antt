use Rattle.std.proofs.Common.{◌≡◌, ◌+◌, ◌<◌, ◌≤◌, ℕ, [], length, take, length-append, ap, arith}
use Rattle.std.proofs.lemmas.List.{length-replicate}
use Rattle.host_files.proofs.ReadingLemmas.{nothing_read, read_more, all_read, passed}
use Rattle.host_files.proofs.reading.read_front.Goals as goal

pub loop-init : goal.loop-init
loop-init g c = rw c.requires (nothing_read (g.F.Read.remaining c.args.file.now), omega arith, omega (arith, length-replicate {A = ℕ} 16384 0))

pub returns-in-Ok-eq0 : goal.returns-in-Ok-eq0
returns-in-Ok-eq0 g c =
    let none : take c.in-Ok-eq0.field-0 c.read.new.buf ≡ [] = ap (λ (n : ℕ). take n c.read.new.buf) c.in-Ok-eq0.field-0-test in
    let now = rw none at c.in-Ok-eq0.ensures.bytes.0 in
    let room : 0 < length c.read.new.buf = omega (arith, c.read.auto.buf, c.loop.invariant.2) in
    (c.loop.invariant.1, all_read _ _ _ _ c.loop.invariant.0 now (c.in-Ok-eq0.ensures.bytes.1 c.in-Ok-eq0.field-0-test room))

pub returns-then-count-room : goal.returns-then-count-room
returns-then-count-room g c =
    let seen : c.args.limit < c.len-then-count-room.result + c.in-Ok.count = omega (arith, c.if-count-room.true, c.saturating_sub-room.ensures, c.len.ensures, c.len-then-count-room.ensures, c.loop.invariant.1) in
    let long : length c.loop.into.items + length (take c.in-Ok.count c.read.new.buf) ≡ c.len-then-count-room.result + c.in-Ok.count = omega (arith, c.len-then-count-room.ensures, c.in-Ok.ensures.bound.1) in
    (seen, passed _ _ _ _ _ _ c.loop.invariant.0 c.in-Ok.ensures.bytes.0 long)

pub loop-preserved : goal.loop-preserved
loop-preserved g c =
    let items = c.in-Ok-extend_from_slice.ensures.items in
    let within : length c.loop.into.items + length (take c.in-Ok.count c.read.new.buf) ≤ c.args.limit = omega (arith, c.if-count-room.false, c.saturating_sub-room.ensures, c.len.ensures, c.loop.invariant.1, c.in-Ok.ensures.bound.1) in
    rw items (read_more _ _ _ _ _ c.loop.invariant.0 c.in-Ok.ensures.bytes.0, omega (arith, length-append c.loop.into.items (take c.in-Ok.count c.read.new.buf), within), omega (arith, c.read.auto.buf, c.loop.invariant.2))
