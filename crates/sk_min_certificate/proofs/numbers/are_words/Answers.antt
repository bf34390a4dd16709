use Rattle.std.proofs.Common.{rules, All, ℤ, pos, get_or, subst, w64, SFits}
use Rattle.std.proofs.lemmas.Int.{to_z-of_z}
use Rattle.std.proofs.lemmas.List.{take_all}
use Rattle.std.proofs.lemmas.List.Elements.{All-more}
use Rattle.sk_base.specs.Word.{IsWord}
use Rattle.sk_min_certificate.proofs.numbers.are_words.Goals as goal

pub loop-number-preserved : goal.loop-number-preserved
loop-number-preserved c =
    let z : ℤ = get_or c.args.numbers.now c.loop-number.number-index (pos 0) in
    let fits : SFits w64 z = search rules in
    let word : IsWord 64 z = subst (IsWord 64) (to_z-of_z w64 z fits) c.is_word.ensures in
    All-more (IsWord 64) c.args.numbers.now c.loop-number.number-index (pos 0) c.loop-number-test.true c.loop-number.invariant word

pub returns : goal.returns
returns c = subst (All (IsWord 64)) (take_all c.loop-number.number-index c.args.numbers.now c.loop-number-test.false) c.loop-number.invariant
