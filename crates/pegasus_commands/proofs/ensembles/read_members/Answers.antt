use Rattle.std.proofs.Common.{◌+◌, ◌∷◌, List, drop, sym, ap, subst, ◌∙◌, arith}
use Rattle.std.proofs.lemmas.List.{drop_all, drop_more}
use Rattle.ensemble.specs.declared.document.MemberEntry.{MemberEntry}
use Rattle.pegasus_commands.specs.declared.fault.CallFault.TheVariants.{Memory}
use Rattle.pegasus_commands.specs.code.Ensembles.{AreRead, StopsAt}
use Rattle.pegasus_commands.specs.code.Moments.{docs_moment}
use Rattle.pegasus_commands.proofs.EnsemblesLemmas.{AreSoFar, all_read, are_members, member_short, one_more, one_stops, read_is_passage}
use Rattle.pegasus_commands.proofs.ensembles.read_members.Goals as goal

pub returns-in-Err-clause-stops : goal.returns-in-Err-clause-stops
returns-in-Err-clause-stops g c =
    let e = c.args.ensemble.now in
    let xs = c.as_slice-entry-items.result.now in
    let i = c.loop-entry.entry-index in
    let x = c.entry-item.result in
    let start = docs_moment g.D.Docs c.args.docs.now in
    let now = docs_moment g.D.Docs c.loop-entry.docs in
    let next = docs_moment g.D.Docs c.read_member.new.docs in
    let is = drop_more xs i x (omega arith) ∙ ap (λ (y : MemberEntry). y ∷ drop (i + 1) xs) (sym c.entry-item.is) in
    subst (λ (zs : List MemberEntry). StopsAt e zs start next c.in-Err.fault) c.as_slice-entry-items.ensures
    (one_stops e xs (drop i xs) (drop (i + 1) xs) x start now next c.loop-entry.members.items c.in-Err.fault c.loop-entry.invariant is c.in-Err.ensures.reads)

pub returns-in-Err-add-clause-stops : goal.returns-in-Err-add-clause-stops
returns-in-Err-add-clause-stops g c =
    let e = c.args.ensemble.now in
    let xs = c.as_slice-entry-items.result.now in
    let i = c.loop-entry.entry-index in
    let x = c.entry-item.result in
    let start = docs_moment g.D.Docs c.args.docs.now in
    let now = docs_moment g.D.Docs c.loop-entry.docs in
    let next = docs_moment g.D.Docs c.read_member.new.docs in
    let is = drop_more xs i x (omega arith) ∙ ap (λ (y : MemberEntry). y ∷ drop (i + 1) xs) (sym c.entry-item.is) in
    subst (λ (zs : List MemberEntry). StopsAt e zs start next Memory) c.as_slice-entry-items.ensures
    (one_stops e xs (drop i xs) (drop (i + 1) xs) x start now next c.loop-entry.members.items Memory c.loop-entry.invariant is
    (member_short e x now next (read_is_passage e x now next c.in-Ok.member c.in-Ok.ensures.reads)))

pub loop-entry-preserved : goal.loop-entry-preserved
loop-entry-preserved g c =
    let e = c.args.ensemble.now in
    let xs = c.as_slice-entry-items.result.now in
    let i = c.loop-entry.entry-index in
    let x = c.entry-item.result in
    let start = docs_moment g.D.Docs c.args.docs.now in
    let now = docs_moment g.D.Docs c.loop-entry.docs in
    let next = docs_moment g.D.Docs c.read_member.new.docs in
    let is = drop_more xs i x (omega arith) ∙ ap (λ (y : MemberEntry). y ∷ drop (i + 1) xs) (sym c.entry-item.is) in
    subst (AreSoFar e xs start next (drop (i + 1) xs)) (sym c.in-Ok-add.ensures)
    (one_more e xs (drop i xs) (drop (i + 1) xs) x start now next c.loop-entry.members.items c.in-Ok.member c.loop-entry.invariant is c.in-Ok.ensures.reads c.in-Ok.ensures.member)

pub returns-clause-read : goal.returns-clause-read
returns-clause-read g c =
    let e = c.args.ensemble.now in
    let xs = c.as_slice-entry-items.result.now in
    let i = c.loop-entry.entry-index in
    let start = docs_moment g.D.Docs c.args.docs.now in
    let now = docs_moment g.D.Docs c.loop-entry.docs in
    subst (λ (zs : List MemberEntry). AreRead e zs start now c.loop-entry.members.items) c.as_slice-entry-items.ensures
    (all_read e xs (drop i xs) start now c.loop-entry.members.items c.loop-entry.invariant (drop_all i xs (omega arith)))

pub returns-clause-members : goal.returns-clause-members
returns-clause-members g c =
    let e = c.args.ensemble.now in
    let xs = c.as_slice-entry-items.result.now in
    let i = c.loop-entry.entry-index in
    let start = docs_moment g.D.Docs c.args.docs.now in
    let now = docs_moment g.D.Docs c.loop-entry.docs in
    let ms = c.loop-entry.members.items in
    let read = subst (λ (zs : List MemberEntry). AreRead e zs start now ms) c.as_slice-entry-items.ensures (all_read e xs (drop i xs) start now ms c.loop-entry.invariant (drop_all i xs (omega arith))) in
    are_members e start now ms c.requires read c.loop-entry.invariant.members
