use Rattle.std.proofs.Common.{◌≡◌, ◌+◌, List, [], ◌∷◌, drop, sym, ap, ◌∙◌, arith}
use Rattle.std.specs.Prelude.{ℕ, Option, Some, None, Err, Vec}
use Rattle.std.specs.declared.alloc.Global.{Global}
use Rattle.std.proofs.lemmas.List.{drop_all, drop_more}
use Rattle.evaluation.specs.Bases.{IsBaseRead, ReadsBases}
use Rattle.evaluation.specs.declared.sources.Source.{Source}
use Rattle.evaluation.proofs.RestLemmas.{unless_then}
use Rattle.evaluation.proofs.BasesLemmas.{all_came, goes_on_none, goes_on_some, stops_at}
use Rattle.evaluation.proofs.ValueLinesLemmas.{later_still}
use Rattle.evaluation.proofs.bases.read_bases.Goals as goal
use Rattle.evaluation.proofs.bases.read_bases.Goals.{in-Some+in-Ok+in_ok-push-in-Ok, in-None+in_ok-push-in-None}

pub returns-in-Err-clause-answer : goal.returns-in-Err-clause-answer
returns-in-Err-clause-answer g c =
    let kept = c.loop-source.invariant in
    let i = c.loop-source.source-index in
    let all = c.args.sources.now in
    let here : drop i all ≡ Some c.in-Some.source ∷ drop (i + 1) all = drop_more all i c.source-item.result (omega arith) ∙ ap (λ (s : Option Source). s ∷ drop (i + 1) all) (sym c.source-item.is ∙ c.in-Some.is) in
    let goes = rw here at kept.goes in
    let told = g.H.Host.told c.args.host.now in
    let before = g.H.Host.counts c.args.host.now in
    let now = g.H.Host.counts c.loop-source.host in
    let after = g.H.Host.counts c.read_base.new.host in
    unless_then (List ℕ) (Vec (Option (List ℕ)) Global) c.in-Err.fault
    (IsBaseRead (g.H.Host.told c.loop-source.host) c.in-Some.source now after (Err c.in-Err.fault))
    (ReadsBases told all before after (Err c.in-Err.fault))
    c.in-Err.ensures.answer
    (λ read. stops_at told all (drop (i + 1) all) c.in-Some.source before now after c.loop-source.bases.items c.in-Err.fault goes (rw kept.told at read))

pub loop-source-preserved : goal.loop-source-preserved
loop-source-preserved g c =
    let kept = c.loop-source.invariant in
    let i = c.loop-source.source-index in
    let all = c.args.sources.now in
    let cut : drop i all ≡ c.source-item.result ∷ drop (i + 1) all = drop_more all i c.source-item.result (omega arith) ∙ ap (λ (s : Option Source). s ∷ drop (i + 1) all) (sym c.source-item.is) in
    elim c.match-source.branch [
      | in-Some+in-Ok+in_ok-push-in-Ok w ↦
          let here : drop i all ≡ Some w.in-Some.source ∷ drop (i + 1) all = cut ∙ ap (λ (s : Option Source). s ∷ drop (i + 1) all) w.in-Some.is in
          let goes = rw here at kept.goes in
          rw (w.host-is, w.bases-is, w.in_ok-push-in-Ok.ensures.items) record {
            told = w.in-Ok.ensures.told ∙ kept.told;
            later = later_still _ _ _ kept.later w.in-Ok.ensures.later;
            goes = goes_on_some (g.H.Host.told c.args.host.now) all (drop (i + 1) all) w.in-Some.source (g.H.Host.counts c.args.host.now) (g.H.Host.counts c.loop-source.host) _ c.loop-source.bases.items _ goes (rw kept.told at w.in-Ok.ensures.answer);
          }
      | in-None+in_ok-push-in-None w ↦
          let here : drop i all ≡ None ∷ drop (i + 1) all = cut ∙ ap (λ (s : Option Source). s ∷ drop (i + 1) all) w.in-None.is in
          let goes = rw here at kept.goes in
          rw (w.host-is, w.bases-is, w.in_ok-push-in-None.ensures.items) record {
            told = kept.told;
            later = kept.later;
            goes = goes_on_none (g.H.Host.told c.args.host.now) all (drop (i + 1) all) (g.H.Host.counts c.args.host.now) (g.H.Host.counts c.loop-source.host) c.loop-source.bases.items goes;
          }
    ]

pub returns-clause-answer : goal.returns-clause-answer
returns-clause-answer g c =
    let kept = c.loop-source.invariant in
    let none : drop c.loop-source.source-index c.args.sources.now ≡ [] = drop_all c.loop-source.source-index c.args.sources.now (omega arith) in
    all_came (g.H.Host.told c.args.host.now) c.args.sources.now (g.H.Host.counts c.args.host.now) (g.H.Host.counts c.loop-source.host) c.loop-source.bases.items (rw none at kept.goes)
