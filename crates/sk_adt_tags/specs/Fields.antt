-- What a field that `new` sets says, with its number.
use Rattle.std.specs.Prelude.{ℕ, List}
use Rattle.sk_base.specs.declared.span.Span.{Span}
use Rattle.sk_prog.specs.declared.expr.PField.{PField}
use Rattle.sk_prog.specs.declared.expr.PEForm.TheFolds.{fold-PField}
use Rattle.sk_prog.specs.declared.prog.Prog.{Prog}
use Rattle.sk_adt.specs.declared.algebraic.Algebraic.{Algebraic}
use Rattle.sk_adt_tags.specs.Tags.{Part, eform_part}

abbrev pub field_part : List Algebraic → Prog → PField → ℕ × Part
field_part types prog = fold-PField (Span → Part) Part (ℕ × Part) (eform_part types prog) (λ x. x.form x.span) (λ x. (x.field, x.value))
