use Rattle.std.proofs.Common.{sym, ap, ◌∙◌}
use Rattle.std.specs.Option.{is_some}
use Rattle.sk_types_names.specs.Envs.{context_of}
use Rattle.sk_types_stmts.proofs.TargetLaws.{stands_if}
use Rattle.sk_types_stmts.proofs.target.stands.Goals as goal

pub returns : goal.returns
returns c = stands_if (context_of c.args.env.now) c.args.scope.now c.args.ty c.args.e.now ∙ ap is_some c.in_ok-made.ensures ∙ sym c.is_some-stands.ensures
