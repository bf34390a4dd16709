-- How the code sees whether targets of steps may be evaluated twice.
use Rattle.std.specs.Prelude.{Bool, true, false, Option, Some, None}
use Rattle.sk_base.specs.declared.span.Span.{Span}
use Rattle.sk_tree.specs.declared.expr.EForm.{EForm}
use Rattle.sk_tree.specs.declared.expr.EForm.TheFolds.{fold-EForm, fold-NewField}
use Rattle.sk_tree.specs.declared.expr.NewField.{NewField}
use Rattle.sk_tree.specs.declared.stmt.Form.{Form}
use Rattle.sk_tree.specs.declared.stmt.Form.TheFolds.{fold-Form}
use Rattle.sk_types_rules.specs.Plain.{eform_steady, form_steps}

-- whether a form holds no call, hole or pattern
abbrev pub form_is_steady : EForm → Bool
form_is_steady = fold-EForm Bool Bool Bool eform_steady (λ x. x.form) (λ x. x.value)

-- whether the value of a field holds none
abbrev pub field_is_steady : NewField → Bool
field_is_steady = fold-NewField Bool Bool Bool eform_steady (λ x. x.form) (λ x. x.value)

-- whether the steps of a form have targets that may be evaluated twice
abbrev pub form_has_steps : Form → Bool
form_has_steps = fold-Form Bool Bool form_steps (λ s. s.form)

-- no place is named
abbrev pub is_clear : Option Span → Bool
is_clear None = true
is_clear (Some s) = false
