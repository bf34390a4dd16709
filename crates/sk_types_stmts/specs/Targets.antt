-- The types of forms as targets.
use Rattle.std.specs.Prelude.{List, Option, if◌then◌else◌, None}
use Rattle.sk_tree.specs.declared.expr.EForm.{EForm}
use Rattle.sk_tree.specs.declared.expr.EForm.TheFolds.{para-EForm}
use Rattle.sk_prog.specs.declared.ty.Ty.{Ty}
use Rattle.sk_types_rules.specs.declared.scope.Variable.{Variable}
use Rattle.sk_types_rules.specs.Rules.{◌>>=◌, int, element_of}
use Rattle.sk_types_rules.specs.Scope.{Context}
use Rattle.sk_types_rules.specs.Sorts.{Sort, eform_target}

-- the type of a form as target
abbrev pub form_target_type : Context → List Variable → EForm → Option Ty
form_target_type context scope = para-EForm (Option Ty) (Option Ty) (Unit {0}) (eform_target context scope) (λ x. x.form.1) (λ x. tt)

-- the type of an element of a target of this type, where the index has this sort
abbrev pub element_target : Sort → Option Ty → Option Ty
element_target index o = o >>= λ t. if index.at int then element_of t else None
