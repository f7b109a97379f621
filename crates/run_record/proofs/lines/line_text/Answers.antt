use Rattle.std.proofs.Common.{◌++◌, ◌∷◌, [], ◌∙◌, sym, ap}
use Rattle.std.proofs.lemmas.Bool.Decides.{Decides-eqb}
use Rattle.std.proofs.lemmas.Slice.Eq.{strip_suffix_is}
use Rattle.run_record.proofs.ParserLemmas.{ends_line, is_text}
use Rattle.run_record.proofs.lines.line_text.Goals as goal

pub returns-in_default-clause-none : goal.returns-in_default-clause-none
returns-in_default-clause-none c = ends_line c.args.line.now (rw c.in_default.is at (strip_suffix_is Decides-eqb c.args.line.now (10 ∷ []) c.strip_suffix.result c.strip_suffix.ensures.cases))

pub returns-in-Ok-clause-text : goal.returns-in-Ok-clause-text
returns-in-Ok-clause-text c =
    ap (λ l. l ++ 10 ∷ []) c.in-Ok.ensures.cases.0
    ∙ sym (rw c.in-Some.is at (strip_suffix_is Decides-eqb c.args.line.now (10 ∷ []) c.strip_suffix.result c.strip_suffix.ensures.cases))

pub returns-in-Err-clause-none : goal.returns-in-Err-clause-none
returns-in-Err-clause-none c =
    is_text c.in-Some.front.now c.args.line.now
    (rw c.in-Some.is at (strip_suffix_is Decides-eqb c.args.line.now (10 ∷ []) c.strip_suffix.result c.strip_suffix.ensures.cases)) c.in-Err.ensures.cases.0
