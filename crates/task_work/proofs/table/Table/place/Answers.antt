use Rattle.std.proofs.Common.{◌≡◌, ◌-◌, length, drop, arith, sym, ap, ◌∙◌}
use Rattle.std.proofs.lemmas.List.{length-map, get_or-map}
use Rattle.values.specs.Apply.{part}
use Rattle.values.specs.declared.numbers.FileId.{FileId}
use Rattle.plan_core.specs.Numbers.{or_else}
use Rattle.plan_core.specs.Words.{file_numbers}
use Rattle.task_work.specs.Table.{at}
use Rattle.task_work.proofs.TableLemmas.{front_long, one_whole, part_both, placed_more, placed_none, split_last, whole_front}
use Rattle.task_work.proofs.table.Table.place.Goals as goal

pub loop-k-init : goal.loop-k-init
loop-k-init c =
    let many : length c.truncate.new.self.items ≡ c.min-k.result = front_long c.args.blobs.items c.truncate.new.self.items c.min-k.result (length c.args.files.now) c.len.result c.min-k.ensures (c.len.ensures ∙ c.args.blobs.ok.0) c.truncate.ensures.items in (
      omega (arith, c.min-k.ensures, c.len.ensures),
      omega (arith, many),
      whole_front c.min-k.result c.truncate.new.self.items (omega (arith, many)),
      λ f. placed_none (file_numbers c.args.files.now) c.truncate.new.self.items c.min-k.result f _ (omega (arith, many)),
    )

pub loop-k-preserved : goal.loop-k-preserved
loop-k-preserved c =
    let i = c.loop-k.invariant in
    let many : length (file_numbers c.args.files.now) ≡ length c.args.files.now = length-map c.args.files.now (λ (x : FileId). x.0) in
    let popped = split_last _ _ c.loop-k.k _ c.loop-k-test.true i.1 (sym i.2 ∙ c.in-Some.ensures.items) in (
      omega (arith, i.0),
      omega (arith, i.1),
      popped.0,
      λ f. placed_more (file_numbers c.args.files.now) c.truncate.new.self.items c.loop-k.k _ _ f _ _ _ c.loop-k-test.true (omega (arith, i.0, many)) i.1 (get_or-map (λ (x : FileId). x.0) c.args.files.now (c.loop-k.k - 1) _ _ (omega (arith, i.0, c.loop-k-test.true))) popped.1 (c.in_ok-put-in-Some.ensures f) (i.3 f),
    )

pub returns : goal.returns
returns c = λ f.
    let i = c.loop-k.invariant in
    let none : c.loop-k.k ≡ 0 = omega (arith, c.loop-k-test.false) in
    let many : length (file_numbers c.args.files.now) ≡ length c.args.files.now = length-map c.args.files.now (λ (x : FileId). x.0) in
    i.3 f
    ∙ ap (λ n. or_else (part f (drop n (file_numbers c.args.files.now)) (drop n c.truncate.new.self.items)) (at c.args.self.now f)) none
    ∙ ap (λ vs. or_else (part f (file_numbers c.args.files.now) vs) (at c.args.self.now f)) c.truncate.ensures.items
    ∙ ap (λ o. or_else o (at c.args.self.now f)) (part_both f c.min-k.result (file_numbers c.args.files.now) c.args.blobs.items (one_whole c.min-k.result (length c.args.files.now) c.len.result _ _ c.min-k.ensures many (c.len.ensures ∙ c.args.blobs.ok.0)))
