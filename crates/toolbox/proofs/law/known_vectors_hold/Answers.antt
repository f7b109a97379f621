use Rattle.std.proofs.Common.{refl}
use Rattle.std.specs.Fmt.{digits}
use Rattle.toolbox.specs.Lines.{lines}
use Rattle.toolbox.specs.Shipped.{applied}
use Rattle.toolbox.proofs.law.known_vectors_hold.Goals as goal

pub returns-clause-text_joins_words : goal.returns-clause-text_joins_words
unfolding applied lines
returns-clause-text_joins_words c = refl

pub returns-clause-text_of_nothing : goal.returns-clause-text_of_nothing
unfolding applied lines
returns-clause-text_of_nothing c = refl

pub returns-clause-text_with_input : goal.returns-clause-text_with_input
unfolding applied lines
returns-clause-text_with_input c = refl

pub returns-clause-join : goal.returns-clause-join
unfolding applied lines
returns-clause-join c = refl

pub returns-clause-take : goal.returns-clause-take
unfolding applied lines
returns-clause-take c = refl

pub returns-clause-take_more_than_all : goal.returns-clause-take_more_than_all
unfolding applied lines
returns-clause-take_more_than_all c = refl

pub returns-clause-drop : goal.returns-clause-drop
unfolding applied lines
returns-clause-drop c = refl

pub returns-clause-deal : goal.returns-clause-deal
unfolding applied lines
returns-clause-deal c = refl

pub returns-clause-sorted : goal.returns-clause-sorted
unfolding applied lines
returns-clause-sorted c = refl

pub returns-clause-distinct : goal.returns-clause-distinct
unfolding applied lines
returns-clause-distinct c = refl

pub returns-clause-count : goal.returns-clause-count
unfolding applied lines digits
returns-clause-count c = refl

pub returns-clause-holds : goal.returns-clause-holds
unfolding applied lines
returns-clause-holds c = refl

pub returns-clause-column : goal.returns-clause-column
unfolding applied lines
returns-clause-column c = refl

pub returns-clause-total : goal.returns-clause-total
unfolding applied lines digits
returns-clause-total c = refl

pub returns-clause-total_of_nothing : goal.returns-clause-total_of_nothing
unfolding applied lines digits
returns-clause-total_of_nothing c = refl

pub returns-clause-total_of_a_negative : goal.returns-clause-total_of_a_negative
unfolding applied lines
returns-clause-total_of_a_negative c = refl
