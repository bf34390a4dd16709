use Rattle.std.proofs.Common.{Some, sym, ap, ◌∙◌}
use Rattle.sk_types_names.specs.Envs.{context_of}
use Rattle.sk_types.proofs.SignatureLaws.{struct_made, struct_refused, refused}
use Rattle.sk_types.proofs.signature.struct_of.Goals as goal

pub returns-then-not-distinct : goal.returns-then-not-distinct
returns-then-not-distinct c =
    refused _ _ _ c.fault.ensures (struct_refused (context_of c.args.env.now) c.args.name.now c.args.fields.now c.in_ok-fields.fields c.as_slice.result.now c.in_ok-fields.ensures c.as_slice.ensures (sym c.in_ok-distinct.ensures ∙ c.if-not-distinct.true))

pub returns : goal.returns
returns c = struct_made (context_of c.args.env.now) c.args.name.now c.in_ok-name.name c.args.fields.now c.in_ok-fields.fields c.as_slice.result.now c.in_ok-fields.ensures c.as_slice.ensures (sym c.in_ok-distinct.ensures ∙ c.if-not-distinct.false) c.in_ok-name.ensures ∙ ap Some (sym c.new.ensures)
