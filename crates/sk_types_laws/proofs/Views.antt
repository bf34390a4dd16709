-- Patterns and calls, looked into.
use Rattle.std.proofs.Common.{◌≡◌, ℕ, List, [], ◌∷◌, Option, Some, refl, sym, ap, ◌∙◌}
use Rattle.std.specs.Prelude.{map}
use Rattle.sk_tree.specs.declared.pattern.Pattern.{Pattern}
use Rattle.sk_tree.specs.declared.expr.Expr.{Expr}
use Rattle.sk_tree.specs.declared.expr.EForm.{EForm}
use Rattle.sk_tree.specs.declared.expr.EForm.TheVariants as eform
use Rattle.sk_tree.specs.declared.expr.EForm.TheOpen as E
use Rattle.sk_tree.specs.declared.expr.EForm.TheViews.{roll-EForm}
use Rattle.sk_tree.specs.declared.expr.EForm.TheFolds.{map-EForm, para-Expr, para-NewField, para-roll-EForm}
use Rattle.sk_tree.specs.declared.expr.NewField.{NewField}
use Rattle.sk_types_laws.specs.Making.{eform_strings, strings_in, CallIn, eform_call_in, call_in}
use Rattle.sk_types_laws.proofs.Ats.{some_same, expr_law}

unpaired : (f : Expr → Unit {0}) (es : List Expr) → map (λ (e : Expr × Unit {0}). e.0) (map (λ e. (e, f e)) es) ≡ es
unpaired f [] = refl
unpaired f (e ∷ es) = ap (λ rest. e ∷ rest) (unpaired f es)

-- Patterns

abbrev seen_string : Expr → Unit {0}
seen_string = para-Expr (Option (List Expr)) (Unit {0}) (Unit {0}) eform_strings (λ x. tt) (λ x. tt)

abbrev seen_set : NewField → Unit {0}
seen_set = para-NewField (Option (List Expr)) (Unit {0}) (Unit {0}) eform_strings (λ x. tt) (λ x. tt)

strings_are : (l : E.EForm-F EForm Expr NewField) → strings_in (roll-EForm l) ≡ eform_strings (map-EForm EForm Expr NewField (EForm × Option (List Expr)) (Expr × Unit {0}) (NewField × Unit {0}) (λ f. (f, strings_in f)) (λ e. (e, seen_string e)) (λ x. (x, seen_set x)) l)
strings_are l = para-roll-EForm (Option (List Expr)) (Unit {0}) (Unit {0}) eform_strings (λ x. tt) (λ x. tt) l

pub strings_of : (g : Pattern) (es : List Expr) → strings_in (eform.Pattern g es) ≡ Some es
strings_of g es = ap strings_in (sym (eform.rolls-Pattern g es)) ∙ strings_are (E.Pattern g es) ∙ ap Some (unpaired seen_string es)

abbrev IsPattern : EForm → Type 0
IsPattern f = (es : List Expr) → strings_in f ≡ Some es → (g : Pattern) × (f ≡ eform.Pattern g es)

pattern_layer : (l : E.EForm-F EForm Expr NewField) (es : List Expr) → eform_strings (map-EForm EForm Expr NewField (EForm × Option (List Expr)) (Expr × Unit {0}) (NewField × Unit {0}) (λ f. (f, strings_in f)) (λ e. (e, seen_string e)) (λ x. (x, seen_set x)) l) ≡ Some es → (g : Pattern) × (roll-EForm l ≡ eform.Pattern g es)
pattern_layer (E.Pattern g ds) es h = (g, eform.rolls-Pattern g ds ∙ ap (eform.Pattern g) (sym (unpaired seen_string ds) ∙ some_same _ _ h))
pattern_layer _ es h = cc

pub strings_found : (e : Expr) → IsPattern e.form
strings_found = expr_law IsPattern (λ e. IsPattern e.form) (λ x. Unit {0}) (λ y es h. pattern_layer (map-EForm _ _ _ EForm Expr NewField (λ q. q.0) (λ q. q.0) (λ q. q.0) y) es (sym (strings_are (map-EForm _ _ _ EForm Expr NewField (λ q. q.0) (λ q. q.0) (λ q. q.0) y)) ∙ h)) (λ e h. h) (λ x h. tt)

-- Calls

abbrev seen_arg : Expr → Unit {0}
seen_arg = para-Expr (Option CallIn) (Unit {0}) (Unit {0}) eform_call_in (λ x. tt) (λ x. tt)

abbrev seen_field : NewField → Unit {0}
seen_field = para-NewField (Option CallIn) (Unit {0}) (Unit {0}) eform_call_in (λ x. tt) (λ x. tt)

calls_are : (l : E.EForm-F EForm Expr NewField) → call_in (roll-EForm l) ≡ eform_call_in (map-EForm EForm Expr NewField (EForm × Option CallIn) (Expr × Unit {0}) (NewField × Unit {0}) (λ f. (f, call_in f)) (λ e. (e, seen_arg e)) (λ x. (x, seen_field x)) l)
calls_are l = para-roll-EForm (Option CallIn) (Unit {0}) (Unit {0}) eform_call_in (λ x. tt) (λ x. tt) l

abbrev call_with : List ℕ → List Expr → CallIn
call_with x es = record { name = x; args = es }

pub call_of_call : (x : List ℕ) (es : List Expr) → call_in (eform.Call x es) ≡ Some (call_with x es)
call_of_call x es = ap call_in (sym (eform.rolls-Call x es)) ∙ calls_are (E.Call x es) ∙ ap (λ es. Some (call_with x es)) (unpaired seen_arg es)

abbrev IsCallForm : EForm → Type 0
IsCallForm f = (c : CallIn) → call_in f ≡ Some c → f ≡ eform.Call c.name c.args

call_form_layer : (l : E.EForm-F EForm Expr NewField) (c : CallIn) → eform_call_in (map-EForm EForm Expr NewField (EForm × Option CallIn) (Expr × Unit {0}) (NewField × Unit {0}) (λ f. (f, call_in f)) (λ e. (e, seen_arg e)) (λ x. (x, seen_field x)) l) ≡ Some c → roll-EForm l ≡ eform.Call c.name c.args
call_form_layer (E.Call x es) c h =
    let same : call_with x es ≡ c = ap (call_with x) (sym (unpaired seen_arg es)) ∙ some_same _ _ h in
    eform.rolls-Call x es ∙ ap (λ (c : CallIn). eform.Call c.name c.args) same
call_form_layer _ c h = cc

pub call_found : (e : Expr) → IsCallForm e.form
call_found = expr_law IsCallForm (λ e. IsCallForm e.form) (λ x. Unit {0}) (λ y c h. call_form_layer (map-EForm _ _ _ EForm Expr NewField (λ q. q.0) (λ q. q.0) (λ q. q.0) y) c (sym (calls_are (map-EForm _ _ _ EForm Expr NewField (λ q. q.0) (λ q. q.0) (λ q. q.0) y)) ∙ h)) (λ e h. h) (λ x h. tt)
