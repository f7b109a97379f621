use Rattle.std.proofs.Common.{◌≡◌, ℕ, List, ◌+◌, ◌≤◌, ◌<◌, [], ◌∷◌, arith, drop, length, map, refl, slice_index_or, subst, suc, sym, take}
use Rattle.std.proofs.lemmas.List.{map-set}
use Rattle.task_work.specs.Making.{Each, IsFaultOf}
use Rattle.outside.specs.code.Parts.{reading_faults}
use Rattle.std.specs.Prelude.{Err, Vec}
use Rattle.std.specs.declared.alloc.Global.{Global}
use Rattle.task_work.specs.Pieces.{HasRead, IsSteadyReading, fails_in}
use Rattle.task_work.proofs.PieceLemmas.{same_fails}
use Rattle.task_work.proofs.MakingLemmas.{begun_at, each_more, each_same, each_set, here_is, left_more, reading_fault, readings_once, same_reading}
use Rattle.task_work.proofs.making.read_all.Goals as goal

pub loop-reading-init : goal.loop-reading-init
loop-reading-init g c =
    let st = g.I.ReadPart.state in
    (subst (Each HasRead []) (sym c.new-blobs.ensures.items) tt, each_same IsSteadyReading same_reading (map st c.args.readings.now), refl, omega arith)

pub read_whole-requires : goal.read_whole-requires
read_whole-requires g c =
    let st = g.I.ReadPart.state in
    let old = c.args.readings.now in
    let now_ = c.loop-reading.readings in
    let k = c.loop-reading.reading-index in
    let x = slice_index_or now_ k c.reading-item.result in
    let less : k < length now_ = omega (arith, c.loop-reading-test.true, c.loop-reading.auto.readings, c.loop-reading.auto.reading-index-end) in
    record { start = begun_at (map st old) k (st x) (drop (suc k) (map st now_)) c.requires.start (here_is st old now_ k x c.reading-item.result less refl c.loop-reading.invariant.2) }

pub returns-in-Err-clause-fault : goal.returns-in-Err-clause-fault
returns-in-Err-clause-fault g c =
    let st = g.I.ReadPart.state in
    let old = c.args.readings.now in
    let now_ = c.loop-reading.readings in
    let k = c.loop-reading.reading-index in
    let x = slice_index_or now_ k c.reading-item.result in
    let less : k < length now_ = omega (arith, c.loop-reading-test.true, c.loop-reading.auto.readings, c.loop-reading.auto.reading-index-end) in
    let new = c.read_whole.new.reading in
    subst (λ z. IsFaultOf (reading_faults (map st old)) (reading_faults z) c.in-Err.fault) (sym (map-set st now_ k new))
    (reading_fault c.in-Err.fault (map st old) (map st now_) k (st x) (drop (suc k) (map st now_)) (st new) c.loop-reading.invariant.1 (here_is st old now_ k x c.reading-item.result less refl c.loop-reading.invariant.2) c.in-Err.ensures.fault)

pub returns-in-Err-clause-steady : goal.returns-in-Err-clause-steady
returns-in-Err-clause-steady g c =
    let st = g.I.ReadPart.state in
    let old = c.args.readings.now in
    let now_ = c.loop-reading.readings in
    let k = c.loop-reading.reading-index in
    let x = slice_index_or now_ k c.reading-item.result in
    let less : k < length now_ = omega (arith, c.loop-reading-test.true, c.loop-reading.auto.readings, c.loop-reading.auto.reading-index-end) in
    let new = c.read_whole.new.reading in
    subst (Each IsSteadyReading (map st old)) (sym (map-set st now_ k new))
    (each_set IsSteadyReading (map st old) (map st now_) k (st x) (drop (suc k) (map st now_)) (st new) c.loop-reading.invariant.1 (here_is st old now_ k x c.reading-item.result less refl c.loop-reading.invariant.2) c.in-Err.ensures.reading)

pub returns-in-Err-keep-clause-steady : goal.returns-in-Err-keep-clause-steady
returns-in-Err-keep-clause-steady g c =
    let st = g.I.ReadPart.state in
    let old = c.args.readings.now in
    let now_ = c.loop-reading.readings in
    let k = c.loop-reading.reading-index in
    let x = slice_index_or now_ k c.reading-item.result in
    let less : k < length now_ = omega (arith, c.loop-reading-test.true, c.loop-reading.auto.readings, c.loop-reading.auto.reading-index-end) in
    let new = c.read_whole.new.reading in
    subst (Each IsSteadyReading (map st old)) (sym (map-set st now_ k new))
    (each_set IsSteadyReading (map st old) (map st now_) k (st x) (drop (suc k) (map st now_)) (st new) c.loop-reading.invariant.1 (here_is st old now_ k x c.reading-item.result less refl c.loop-reading.invariant.2) c.in-Ok.ensures.reading)

pub loop-reading-preserved : goal.loop-reading-preserved
loop-reading-preserved g c =
    let st = g.I.ReadPart.state in
    let old = c.args.readings.now in
    let now_ = c.loop-reading.readings in
    let k = c.loop-reading.reading-index in
    let x = slice_index_or now_ k c.reading-item.result in
    let less : k < length now_ = omega (arith, c.loop-reading-test.true, c.loop-reading.auto.readings, c.loop-reading.auto.reading-index-end) in
    let new = c.read_whole.new.reading in
    let rest = drop (suc k) (map st now_) in
    let here : drop k (map st old) ≡ st x ∷ rest = here_is st old now_ k x c.reading-item.result less refl c.loop-reading.invariant.2 in (
      subst (Each HasRead (take (k + 1) (map st old))) (sym c.in-Ok-keep.ensures) (each_more HasRead (map st old) c.loop-reading.blobs.items k (st x) rest c.in-Ok.blob c.loop-reading.invariant.0 here c.in-Ok.ensures.read),
      subst (Each IsSteadyReading (map st old)) (sym (map-set st now_ k new)) (each_set IsSteadyReading (map st old) (map st now_) k (st x) rest (st new) c.loop-reading.invariant.1 here c.in-Ok.ensures.reading),
      subst (λ z. drop (k + 1) z ≡ drop (k + 1) (map st old)) (sym (map-set st now_ k new)) (left_more (map st old) (map st now_) k (st new) c.loop-reading.invariant.2),
      subst (λ z. reading_faults z ≤ reading_faults (map st old)) (sym (map-set st now_ k new))
          (let few = readings_once (map st old) (map st now_) k (st x) rest (st new) 0 c.loop-reading.invariant.3 c.loop-reading.invariant.2 here c.in-Ok.ensures.once in omega (arith, few)),
    )

pub returns-in-Err-clause-once : goal.returns-in-Err-clause-once
returns-in-Err-clause-once g c =
    let st = g.I.ReadPart.state in
    let old = c.args.readings.now in
    let now_ = c.loop-reading.readings in
    let k = c.loop-reading.reading-index in
    let x = slice_index_or now_ k c.reading-item.result in
    let less : k < length now_ = omega (arith, c.loop-reading-test.true, c.loop-reading.auto.readings, c.loop-reading.auto.reading-index-end) in
    let new = c.read_whole.new.reading in
    let here = here_is st old now_ k x c.reading-item.result less refl c.loop-reading.invariant.2 in
    let same = same_fails (List ℕ) (Vec (List ℕ) Global) c.in-Err.fault in
    let few = readings_once (map st old) (map st now_) k (st x) (drop (suc k) (map st now_)) (st new) (fails_in {X = List ℕ} (Err c.in-Err.fault)) c.loop-reading.invariant.3 c.loop-reading.invariant.2 here c.in-Err.ensures.once in
    subst (λ z. reading_faults z ≤ reading_faults (map st old) + fails_in {X = Vec (List ℕ) Global} (Err c.in-Err.fault)) (sym (map-set st now_ k new)) (omega (arith, few, same))

pub returns-in-Err-keep-clause-once : goal.returns-in-Err-keep-clause-once
returns-in-Err-keep-clause-once g c =
    let st = g.I.ReadPart.state in
    let old = c.args.readings.now in
    let now_ = c.loop-reading.readings in
    let k = c.loop-reading.reading-index in
    let x = slice_index_or now_ k c.reading-item.result in
    let less : k < length now_ = omega (arith, c.loop-reading-test.true, c.loop-reading.auto.readings, c.loop-reading.auto.reading-index-end) in
    let new = c.read_whole.new.reading in
    let here = here_is st old now_ k x c.reading-item.result less refl c.loop-reading.invariant.2 in
    subst (λ z. reading_faults z ≤ reading_faults (map st old) + 0) (sym (map-set st now_ k new))
    (readings_once (map st old) (map st now_) k (st x) (drop (suc k) (map st now_)) (st new) 0 c.loop-reading.invariant.3 c.loop-reading.invariant.2 here c.in-Ok.ensures.once)
