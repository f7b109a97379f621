use Rattle.std.proofs.Common.{◌≡◌, ℕ, List, [], ◌++◌, length, ap, subst, ◌∙◌}
use Rattle.std.specs.Prelude.{OnOk, codes}
use Rattle.std.specs.Fmt.{decimal}
use Rattle.hex.specs.Hex.{encode_lower}
use Rattle.sha2.specs.Sha256.{sha256}
use Rattle.rehearsal.specs.Summary.{mosaic_line}
use Rattle.rehearsal.proofs.SummaryLemmas.{number_and_word}
use Rattle.rehearsal.proofs.figures.push_mosaic.Goals as goal

pub returns : goal.returns
returns c =
    let mosaic = c.args.mosaic.now in
    let number = decimal (length mosaic) in
    let word = c.as_str.result.now in
    let digits : word ≡ encode_lower (sha256 mosaic) =
    c.as_str.ensures.value ∙ c.in_ok-digits.ensures ∙ ap encode_lower (c.as_slice.ensures ∙ c.digest-digest.ensures) in
    let same : codes "delivered mosaic.txt" ++ ((codes " " ++ (number ++ (codes " " ++ (word ++ [])))) ++ codes "\n") ≡ mosaic_line mosaic =
    number_and_word (codes "delivered mosaic.txt") number word ∙ ap (λ (w : List ℕ). (((codes "delivered mosaic.txt " ++ number) ++ codes " ") ++ w) ++ codes "\n") digits in
    subst (λ (line : List ℕ). OnOk c.push_line.result (c.push_line.new.text.items ≡ c.args.text.now.items ++ line)) same c.push_line.ensures
