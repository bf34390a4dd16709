use Rattle.std.proofs.Common.{All, subst, ◌∙◌}
use Rattle.std.proofs.lemmas.List.{take_all}
use Rattle.std.proofs.lemmas.List.Elements.{All-more}
use Rattle.sk_base.specs.Word.{IsWord}
use Rattle.sk_min_certificate.proofs.numbers.all_are_words.Goals as goal

pub loop-numbers-preserved : goal.loop-numbers-preserved
loop-numbers-preserved c = All-more (All (IsWord 64)) c.args.args.now c.loop-numbers.numbers-index c.numbers-item.result c.loop-numbers-test.true c.loop-numbers.invariant (subst (All (IsWord 64)) (c.as_slice.ensures ∙ c.numbers-item.is) c.are_words.ensures)

pub returns : goal.returns
returns c = subst (All (All (IsWord 64))) (take_all c.loop-numbers.numbers-index c.args.args.now c.loop-numbers-test.false) c.loop-numbers.invariant
