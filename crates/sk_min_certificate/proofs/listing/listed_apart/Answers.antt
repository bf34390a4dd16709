use Rattle.std.proofs.Common.{◌≡◌, List, map, subst}
use Rattle.sk_model.specs.declared.expanded.Input.{Input}
use Rattle.sk_loop_laws.specs.Honest.{inputs_of}
use Rattle.sk_loop_laws.proofs.Pairs.{honest_are_inputs, inputs_are_distinct}
use Rattle.sk_cert_inputs.specs.Inputs.{as_listed}
use Rattle.sk_min_certificate.proofs.listing.listed_apart.Goals as goal

pub returns-clause-apart : goal.returns-clause-apart
returns-clause-apart c =
    c.listed_again.ensures.apart c.args.expanded.now.prog c.args.bounds.now c.in_ok-list.list (inputs_of c.args.pairs.now)
    (record {
      are = subst (λ (xs : List Input). c.in_ok-list.list ≡ map as_listed xs) c.requires.inputs c.in_ok-list.ensures.are;
      each = honest_are_inputs c.args.expanded.now c.args.bounds.now c.args.pairs.now c.requires.honest;
    })
    (inputs_are_distinct c.args.expanded.now c.args.bounds.now c.args.pairs.now c.requires.honest)
