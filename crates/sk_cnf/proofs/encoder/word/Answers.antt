use Rattle.std.proofs.Common.{◌≡◌, ◌∙◌, arith, ap, to_z, of_z, w64}
use Rattle.std.proofs.lemmas.Int.{ints}
use Rattle.sk_dag.specs.Eval.{value_of}
use Rattle.sk_dag.specs.declared.value.Value.TheVariants.{Int as IntValue}
use Rattle.sk_gates.proofs.SharingLaws.{Builds-same}
use Rattle.sk_cnf.proofs.encoder.word.Goals as goal

pub returns : goal.returns
unfolding value_of
returns c =
    let same : to_z w64 (of_z w64 c.args.value) ≡ c.args.value = omega (arith, ints, c.ranges.value) in
    λ leaves names codes p. record { fits = (c.in_ok-r.ensures.length, c.in_ok-r.ensures.within p.vars); gate = Builds-same p _ (λ v e said. ap IntValue (c.in_ok-r.ensures.value v ∙ same)) }
