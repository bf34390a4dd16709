use Rattle.std.proofs.Common.{refl, subst}
use Rattle.sk_arr.specs.Shapes.{Stands}
use Rattle.sk_sym_state.proofs.Standing.{StateStands-keeps}
use Rattle.sk_sym_steps.proofs.Failing.{no_reference_evaluates}
use Rattle.sk_sym_steps.proofs.Records.{refers, reads_field}
use Rattle.sk_sym_steps.proofs.record.read_field.Goals as goal

pub read_field-requires-clause-target : goal.read_field-requires-clause-target
read_field-requires-clause-target c =
    let pass = rw (c.as_slice.ensures, c.as_slice-else-not-has_field.ensures) at (c.if-not-are_kind.ensures.0 refl) in
    refers c.requires.stands.structs (subst (Stands c.args.dag.now) c.in-Reference.is c.requires.reference) pass

pub fail_where-requires-clause-stands : goal.fail_where-requires-clause-stands
fail_where-requires-clause-stands c = StateStands-keeps c.in_ok-r.ensures.keeps c.requires.stands

pub returns-clause-evaluates : goal.returns-clause-evaluates
returns-clause-evaluates c = reads_field c.args.span c.requires.stands c.in-Reference.is c.in_ok-r.ensures.keeps c.in_ok-r.ensures.read c.in_ok-fail_where.ensures.fails

pub returns-in_default-clause-evaluates : goal.returns-in_default-clause-evaluates
returns-in_default-clause-evaluates c = no_reference_evaluates c.args.span c.in_ok-always.ensures.fails c.args.field c.in_ok-always.ensures.there c.in_default.not-Reference
