use Rattle.std.proofs.Common.{refl, subst}
use Rattle.sk_arr.specs.Shapes.{Stands}
use Rattle.sk_sym_steps.proofs.Records.{refers}
use Rattle.sk_sym_stores.proofs.Fields.{no_reference_stores}
use Rattle.sk_sym_stores.proofs.storing.write_field.Goals as goal

pub write_target-requires-clause-target : goal.write_target-requires-clause-target
write_target-requires-clause-target c =
    let pass = rw (c.as_slice-else-not-fits_field.ensures, c.as_slice-else-not-fits_field-2.ensures) at (c.if-not-are_kind.ensures.0 refl) in
    refers c.requires.stands.structs (subst (Stands c.args.dag.now) c.in-Reference.is c.requires.reference) pass

pub returns-in_default-clause-stores : goal.returns-in_default-clause-stores
returns-in_default-clause-stores c = no_reference_stores c.args.span c.in_ok-fail_now.ensures.fails c.in_default.not-Reference
