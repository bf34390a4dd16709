use Rattle.std.proofs.Common.{true, false, sym, ◌∙◌}
use Rattle.sk_types_names.specs.Envs.{top_seen}
use Rattle.sk_types.specs.Tops.{bodies_seen}
use Rattle.sk_types.proofs.SignatureLaws.{refused}
use Rattle.sk_types.proofs.WholeLaws.{prog_kept}
use Rattle.sk_types.proofs.meant.prog_in.Goals as goal

pub returns-then-not-may_keep_names : goal.returns-then-not-may_keep_names
returns-then-not-may_keep_names c =
    refused _ _ _ c.fault.ensures (prog_kept c.args.bounds.now (top_seen c.args.top) c.args.items.now (bodies_seen c.in_ok-whole.whole) c.in_ok-structs.structs false c.in_ok-whole.ensures c.in_ok-structs.ensures (sym c.may_keep_names.ensures ∙ c.if-not-may_keep_names.true))

pub returns : goal.returns
returns c = prog_kept c.args.bounds.now (top_seen c.args.top) c.args.items.now (bodies_seen c.in_ok-whole.whole) c.in_ok-structs.structs true c.in_ok-whole.ensures c.in_ok-structs.ensures (sym c.may_keep_names.ensures ∙ c.if-not-may_keep_names.false)
