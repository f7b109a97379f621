use Rattle.std.proofs.Common.{◌≡◌, ◌+◌, ◌<◌, ◌≤◌, ◌∷◌, arith, drop, length, map, refl, slice_index_or, subst, suc, sym, take}
use Rattle.std.specs.Prelude.{Err, Ok}
use Rattle.std.proofs.lemmas.List.{map-set}
use Rattle.task_work.specs.Making.{AreWritten, Each, Fits, IsFaultOf}
use Rattle.outside.specs.code.Parts.{draft_faults}
use Rattle.task_work.specs.Pieces.{IsSteadyDraft, fails_in}
use Rattle.task_work.proofs.MakingLemmas.{draft_fault, drafts_once, each_at, each_long, each_same, each_set, empty_at, here_is, left_more, output_is, same_draft, written_more, written_steady, written_whole}
use Rattle.task_work.proofs.PieceLemmas.{written_once}
use Rattle.task_work.proofs.making.write_all.Goals as goal

pub loop-k-init : goal.loop-k-init
loop-k-init g c = (tt, each_same IsSteadyDraft same_draft (map g.O.WritePart.state c.args.drafts.now), refl, omega arith)

pub write_whole-requires-clause-empty : goal.write_whole-requires-clause-empty
write_whole-requires-clause-empty g c =
    let st = g.O.WritePart.state in
    let old = c.args.drafts.now in
    let now_ = c.loop-k.drafts in
    let k = c.loop-k.k in
    let x = slice_index_or now_ k c.index-drafts-k.result in
    let less : k < length now_ = omega (arith, c.loop-k-test.true, c.requires.many, c.loop-k.auto.drafts) in
    empty_at (map st old) k (st x) (drop (suc k) (map st now_)) c.requires.empty (here_is st old now_ k x c.index-drafts-k.result less refl c.loop-k.invariant.2)

pub write_whole-requires-clause-limit : goal.write_whole-requires-clause-limit
write_whole-requires-clause-limit g c =
    let st = g.O.WritePart.state in
    let old = c.args.drafts.now in
    let now_ = c.loop-k.drafts in
    let outs = c.args.outputs.now in
    let k = c.loop-k.k in
    let x = slice_index_or now_ k c.index-drafts-k.result in
    let less : k < length now_ = omega (arith, c.loop-k-test.true, c.requires.many, c.loop-k.auto.drafts) in
    let bytes = c.as_slice.result.now in
    each_at Fits (map st old) outs k (st x) (drop (suc k) (map st now_)) bytes (drop (suc k) outs) c.requires.fit (here_is st old now_ k x c.index-drafts-k.result less refl c.loop-k.invariant.2) (output_is outs k c.index-outputs-k.result bytes c.loop-k-test.true c.index-outputs-k.is c.as_slice.ensures)

pub returns-in-Err-clause-fault : goal.returns-in-Err-clause-fault
returns-in-Err-clause-fault g c =
    let st = g.O.WritePart.state in
    let old = c.args.drafts.now in
    let now_ = c.loop-k.drafts in
    let k = c.loop-k.k in
    let x = slice_index_or now_ k c.index-drafts-k.result in
    let less : k < length now_ = omega (arith, c.loop-k-test.true, c.requires.many, c.loop-k.auto.drafts) in
    let new = c.write_whole.new.draft in
    subst (λ z. IsFaultOf (draft_faults (map st old)) (draft_faults z) c.in-Err.fault) (sym (map-set st now_ k new))
    (draft_fault c.in-Err.fault (map st old) (map st now_) k (st x) (drop (suc k) (map st now_)) (st new) c.as_slice.result.now c.loop-k.invariant.1 (here_is st old now_ k x c.index-drafts-k.result less refl c.loop-k.invariant.2) c.in-Err.ensures.answer)

pub returns-in-Err-clause-steady : goal.returns-in-Err-clause-steady
returns-in-Err-clause-steady g c =
    let st = g.O.WritePart.state in
    let old = c.args.drafts.now in
    let now_ = c.loop-k.drafts in
    let k = c.loop-k.k in
    let x = slice_index_or now_ k c.index-drafts-k.result in
    let less : k < length now_ = omega (arith, c.loop-k-test.true, c.requires.many, c.loop-k.auto.drafts) in
    let new = c.write_whole.new.draft in
    let rest = drop (suc k) (map st now_) in
    let here : drop k (map st old) ≡ st x ∷ rest = here_is st old now_ k x c.index-drafts-k.result less refl c.loop-k.invariant.2 in
    subst (Each IsSteadyDraft (map st old)) (sym (map-set st now_ k new))
    (each_set IsSteadyDraft (map st old) (map st now_) k (st x) rest (st new) c.loop-k.invariant.1 here
    (written_steady (st x) (st new) c.as_slice.result.now (Err c.in-Err.fault) (empty_at (map st old) k (st x) rest c.requires.empty here) c.in-Err.ensures.answer))

pub loop-k-preserved : goal.loop-k-preserved
loop-k-preserved g c =
    let st = g.O.WritePart.state in
    let old = c.args.drafts.now in
    let now_ = c.loop-k.drafts in
    let outs = c.args.outputs.now in
    let k = c.loop-k.k in
    let x = slice_index_or now_ k c.index-drafts-k.result in
    let less : k < length now_ = omega (arith, c.loop-k-test.true, c.requires.many, c.loop-k.auto.drafts) in
    let new = c.write_whole.new.draft in
    let bytes = c.as_slice.result.now in
    let rest = drop (suc k) (map st now_) in
    let here : drop k (map st old) ≡ st x ∷ rest = here_is st old now_ k x c.index-drafts-k.result less refl c.loop-k.invariant.2 in (
      subst (λ z. AreWritten (take (k + 1) (map st old)) (take (k + 1) z) (take (k + 1) outs)) (sym (map-set st now_ k new))
          (written_more (map st old) (map st now_) outs k (st x) (st new) bytes rest (drop (suc k) outs) c.loop-k.invariant.0 (each_long IsSteadyDraft (map st old) (map st now_) c.loop-k.invariant.1) here
          (output_is outs k c.index-outputs-k.result bytes c.loop-k-test.true c.index-outputs-k.is c.as_slice.ensures) c.in-Ok.ensures.answer),
      subst (Each IsSteadyDraft (map st old)) (sym (map-set st now_ k new))
          (each_set IsSteadyDraft (map st old) (map st now_) k (st x) rest (st new) c.loop-k.invariant.1 here
          (written_steady (st x) (st new) bytes (Ok tt) (empty_at (map st old) k (st x) rest c.requires.empty here) c.in-Ok.ensures.answer)),
      subst (λ z. drop (k + 1) z ≡ drop (k + 1) (map st old)) (sym (map-set st now_ k new)) (left_more (map st old) (map st now_) k (st new) c.loop-k.invariant.2),
      subst (λ z. draft_faults z ≤ draft_faults (map st old)) (sym (map-set st now_ k new))
          (let few = drafts_once (map st old) (map st now_) k (st x) rest (st new) 0 c.loop-k.invariant.3 c.loop-k.invariant.2 here (written_once (st x) (st new) bytes (Ok tt) c.in-Ok.ensures.answer) in omega (arith, few)),
    )

pub returns-clause-written : goal.returns-clause-written
returns-clause-written g c =
    let st = g.O.WritePart.state in
    let old = c.args.drafts.now in
    let now_ = c.loop-k.drafts in
    let outs = c.args.outputs.now in
    let long : length outs ≤ c.loop-k.k = omega (arith, c.loop-k-test.false) in
    written_whole (map st old) (map st now_) outs c.loop-k.k long (each_long Fits (map st old) outs c.requires.fit) (each_long IsSteadyDraft (map st old) (map st now_) c.loop-k.invariant.1) c.loop-k.invariant.0

pub returns-in-Err-clause-once : goal.returns-in-Err-clause-once
returns-in-Err-clause-once g c =
    let st = g.O.WritePart.state in
    let old = c.args.drafts.now in
    let now_ = c.loop-k.drafts in
    let k = c.loop-k.k in
    let x = slice_index_or now_ k c.index-drafts-k.result in
    let less : k < length now_ = omega (arith, c.loop-k-test.true, c.requires.many, c.loop-k.auto.drafts) in
    let new = c.write_whole.new.draft in
    let rest = drop (suc k) (map st now_) in
    let here : drop k (map st old) ≡ st x ∷ rest = here_is st old now_ k x c.index-drafts-k.result less refl c.loop-k.invariant.2 in
    subst (λ z. draft_faults z ≤ draft_faults (map st old) + fails_in {X = Unit {0}} (Err c.in-Err.fault)) (sym (map-set st now_ k new))
    (drafts_once (map st old) (map st now_) k (st x) rest (st new) (fails_in {X = Unit {0}} (Err c.in-Err.fault)) c.loop-k.invariant.3 c.loop-k.invariant.2 here (written_once (st x) (st new) c.as_slice.result.now (Err c.in-Err.fault) c.in-Err.ensures.answer))
