use Rattle.std.proofs.Common.{map, refl}
use Rattle.std.specs.Prelude.{option_map, string_bytes}
use Rattle.pegasus_cli.specs.code.Moments.{call_of}
use Rattle.command_words.specs.code.Words.{Quickly, quick_command, quick_of}
use Rattle.pegasus_cli.proofs.CallLemmas.{command_answered, keeps_same, laws, some_mapped, unread_answered, usage_answered}
use Rattle.command_words.proofs.WordsLemmas.{is_quick, quick_is, quick_is_none}
use Rattle.pegasus_cli.proofs.call.quick.Goals as goal

pub returns-in-Ok-Some-clause-answered : goal.returns-in-Ok-Some-clause-answered
unfolding call_of
returns-in-Ok-Some-clause-answered g c =
    let words = map string_bytes c.args.words.now in
    let q = quick_of c.in-Ok-Some.command in
    let is = quick_is words q c.requires.words (rw c.in-Ok-Some.field-0-is at c.in-Ok-Some.ensures.is) in
    let told = c.work-worked.result.told in
    command_answered (laws c.runs_finish.ensures c.resumes_finish.ensures) _ (Quickly q) told.answer c.answer-outcome.result told.text.items is c.work-worked.ensures.does (rw c.has_line.ensures at c.answer-outcome.ensures)

pub returns-in-Ok-Some-clause-others : goal.returns-in-Ok-Some-clause-others
returns-in-Ok-Some-clause-others g c =
    let words = map string_bytes c.args.words.now in
    let q = quick_of c.in-Ok-Some.command in
    rw (quick_is words q c.requires.words (rw c.in-Ok-Some.field-0-is at c.in-Ok-Some.ensures.is)) c.work-worked.ensures.others

pub returns-in-Ok-None-clause-answered : goal.returns-in-Ok-None-clause-answered
unfolding call_of
returns-in-Ok-None-clause-answered g c =
    let words = map string_bytes c.args.words.now in
    usage_answered _ c.refuse_words.result (quick_is_none words c.requires.words (rw c.in-Ok-None.field-0-is at c.in-Ok-None.ensures.is)) refl refl refl c.refuse_words.ensures

pub returns-in-Err-clause-answered : goal.returns-in-Err-clause-answered
unfolding call_of
returns-in-Err-clause-answered g c =
    let words = map string_bytes c.args.words.now in
    unread_answered (laws c.runs_finish.ensures c.resumes_finish.ensures) _ (option_map Quickly (quick_command words)) (is_quick words c.requires.words) (some_mapped Quickly (quick_command words) c.in-Err.ensures.memory) refl refl refl refl (keeps_same _)
