use Rattle.std.proofs.Common.{◌∙◌}
use Rattle.sk_types_names.specs.Envs.{context_of}
use Rattle.sk_types_names.proofs.NumberLaws.{length_is}
use Rattle.sk_types_names.proofs.env.Env.constant_number.Goals as goal

pub returns-clause-number : goal.returns-clause-number
returns-clause-number c = c.length_number.ensures ∙ length_is (context_of c.args.self.now) c.args.scope.now c.args.e.now
