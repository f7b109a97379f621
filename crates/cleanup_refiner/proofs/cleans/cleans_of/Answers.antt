use Rattle.std.proofs.Common.{◌≡◌, ◌<◌, ℕ, List, [], ◌∷◌, ◌++◌, length, map, ap, sym, ◌∙◌, arith}
use Rattle.std.specs.Prelude.{Vec}
use Rattle.std.specs.declared.alloc.Global.{Global}
use Rattle.std.proofs.lemmas.List.{get_or-map, length-map}
use Rattle.digraph.specs.code.Adjacency.{lists_of}
use Rattle.digraph.specs.code.Digraph.{count, edge}
use Rattle.plan_core.specs.declared.plan.Task.{Task}
use Rattle.plan_core.specs.declared.plan.TaskKind.TheVariants.{Clean}
use Rattle.plan_core.specs.Numbers.{below}
use Rattle.plan_core.specs.Words.{count_pairs, count_tasks}
use Rattle.cleanup_refiner.specs.Cleans.{clean_of, task, touches}
use Rattle.cleanup_refiner.proofs.TouchingLemmas.{max_right, no_clean_yet, one_clean_more, tasks_of}
use Rattle.cleanup_refiner.proofs.cleans.cleans_of.Goals as goal

pub loop-q-init : goal.loop-q-init
loop-q-init c = c.new-cleans.ensures.items ∙ sym (no_clean_yet c.args.plan.now)

pub loop-q-preserved : goal.loop-q-preserved
loop-q-preserved c =
    let p = c.args.plan.now in
    let q = c.loop-q.q in
    let vs = c.successors-lists.result.now in
    let items : Vec ℕ Global → List ℕ = λ (v : Vec ℕ Global). v.items in
    let enough = max_right (count_tasks p) (count_pairs p) in
    let within : q < length vs = omega (arith, c.loop-q-test.true, ap length c.as_slice-q-end.ensures, enough, c.requires.count, c.successors-lists.ensures.long, length-map vs items) in
    let listed = ap items c.index-lists-q.is ∙ sym (get_or-map items vs q c.index-lists-q.result [] within) in
    let tasks : c.as_slice.result.now ≡ below (count_tasks p) (touches p q) =
    c.as_slice.ensures.value ∙ listed ∙ tasks_of c.rising_lists_are_one.ensures p (edge c.args.touching.now) (count c.args.touching.now) (lists_of vs) c.successors-lists.ensures c.requires.edges q in
    let clean : c.in_ok-clean.clean ≡ clean_of p q = c.in_ok-clean.ensures ∙ ap (λ (ts : List ℕ). record { kind = Clean (record { 0 = q }); reads = []; writes = []; parents = map task ts }) tasks in
    c.in_ok-push.ensures.items
    ∙ ap (λ (t : Task). c.loop-q.cleans.items ++ t ∷ []) clean
    ∙ ap (λ (ts : List Task). ts ++ clean_of p q ∷ []) c.loop-q.invariant
    ∙ sym (one_clean_more p q)
