use Rattle.std.proofs.Common.{◌≡◌, ◌∙◌, ℕ, List, Option, sym, subst, arith, ap, to_z, of_z, w64}
use Rattle.std.proofs.lemmas.Int.{ints}
use Rattle.sk_base.proofs.Words.{half_le}
use Rattle.sk_clause.specs.Problem.{Problem}
use Rattle.sk_dag.specs.declared.node.Node.{Node}
use Rattle.sk_dag.specs.declared.node.Node.TheVariants.{Word}
use Rattle.sk_cnf.specs.declared.leaf.Leaf.{Leaf}
use Rattle.sk_cnf.specs.declared.code.Code.{Code}
use Rattle.sk_cnf.specs.Codes.{IsCode}
use Rattle.sk_cnf.proofs.CodeLaws.{coded_from_computed}
use Rattle.sk_cnf.proofs.encoder.encode_node.Goals as goal

at_node : {w : ℕ} {leaves : List Leaf} {names : List ℕ} {codes : List (Option Code)} {n m : Node} {old new : Problem} {code : Code} → m ≡ n → IsCode w leaves names codes n old new code → IsCode w leaves names codes m old new code
at_node {w} {leaves} {names} {codes} {n} {m} {old} {new} {code} e h = subst (λ x. IsCode w leaves names codes x old new code) (sym e) h

pub returns-in-Flag-clause-code : goal.returns-in-Flag-clause-code
returns-in-Flag-clause-code c = at_node c.in-Flag.is (c.flag.ensures _ _ _ _ c.args.to.now)

pub returns-in-HoleBit-clause-code : goal.returns-in-HoleBit-clause-code
returns-in-HoleBit-clause-code c = at_node c.in-HoleBit.is (c.hole_bit.ensures _ _ c.args.to.now c.requires.within)

pub returns-in-Not-clause-code : goal.returns-in-Not-clause-code
returns-in-Not-clause-code c = at_node c.in-Not.is (coded_from_computed (c.not.ensures _ c.args.to.now c.requires.table))

pub returns-in_ok-word-in-Word-clause-code : goal.returns-in_ok-word-in-Word-clause-code
returns-in_ok-word-in-Word-clause-code c =
    let is = c.requires.word c.in-Word.value c.in-Word.is in
    let small = half_le c.args.width c.requires.high in
    let same : to_z w64 (of_z w64 c.in-Word.value) ≡ c.in-Word.value = omega (arith, ints, is, small) in
    at_node (c.in-Word.is ∙ ap Word (sym same)) (c.in_ok-word-in-Word.ensures _ _ _ c.args.to.now)

pub returns-in_ok-hole_word-in-HoleWord-clause-code : goal.returns-in_ok-hole_word-in-HoleWord-clause-code
returns-in_ok-hole_word-in-HoleWord-clause-code c = at_node c.in-HoleWord.is (c.in_ok-hole_word-in-HoleWord.ensures _ c.args.to.now c.requires.within)

pub returns-in_ok-input_word-in-InputWord-clause-code : goal.returns-in_ok-input_word-in-InputWord-clause-code
returns-in_ok-input_word-in-InputWord-clause-code c = at_node c.in-InputWord.is (c.in_ok-input_word-in-InputWord.ensures _ c.args.to.now c.requires.within)

pub returns-in_ok-cost_zero-in-CostZero-clause-code : goal.returns-in_ok-cost_zero-in-CostZero-clause-code
returns-in_ok-cost_zero-in-CostZero-clause-code c = at_node c.in-CostZero.is (coded_from_computed (c.in_ok-cost_zero-in-CostZero.ensures _ _ c.args.to.now))
