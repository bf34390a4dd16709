use Rattle.std.proofs.Common.{◌≡◌, ◌∙◌, arith, ap, ◌%◌, ◌^◌, to_z, of_z, w64}
use Rattle.std.proofs.lemmas.Int.{ints}
use Rattle.sk_base.specs.Word.{pattern}
use Rattle.sk_cnf.proofs.SignedLaws.{given_word_is}
use Rattle.sk_cnf.proofs.signed.given_word.Goals as goal

pub returns-clause-value : goal.returns-clause-value
returns-clause-value c =
    let same : to_z w64 (of_z w64 c.args.value) ≡ c.args.value = omega (arith, ints, c.ranges.value) in
    λ v. given_word_is c.args.width _ c.args.value c.requires.word (omega (arith, c.requires.low)) (c.in_ok-r.ensures.value v ∙ ap (λ m. m % 2 ^ c.args.width) (c.pattern_of.ensures ∙ ap (pattern c.args.width) same))
