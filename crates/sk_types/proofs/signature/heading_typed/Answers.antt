use Rattle.std.proofs.Common.{sym, ◌∙◌}
use Rattle.sk_types_names.specs.Envs.{context_of}
use Rattle.sk_types.proofs.SignatureLaws.{heading_made, not_distinct, refused}
use Rattle.sk_types.proofs.signature.heading_typed.Goals as goal

pub returns-then-not-distinct : goal.returns-then-not-distinct
returns-then-not-distinct c =
    refused _ _ _ c.fault-then-not-distinct.ensures (not_distinct (context_of c.args.env.now) c.args.item.now c.in_ok-returns.returns c.in_ok-params.params c.as_slice-3.result.now
    c.in_ok-returns.ensures (rw c.as_slice.ensures at c.in_ok-params.ensures) c.as_slice-3.ensures (sym c.in_ok-distinct.ensures ∙ c.if-not-distinct.true))

pub returns : goal.returns
returns c = heading_made (context_of c.args.env.now) c.args.item.now c.in_ok-name.name c.kind_of-kind.result c.in_ok-returns.returns c.in_ok-params.params c.as_slice-2.result.now c.as_slice-3.result.now
    c.in_ok-returns.ensures (rw c.as_slice.ensures at c.in_ok-params.ensures) c.kind_of-kind.ensures c.as_slice-2.ensures (sym c.may_be.ensures ∙ c.if-not-may_be.false) c.as_slice-3.ensures (sym c.in_ok-distinct.ensures ∙ c.if-not-distinct.false) c.in_ok-name.ensures
