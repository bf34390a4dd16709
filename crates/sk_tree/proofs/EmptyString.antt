-- Every form of an expression has a token, so the empty string reads as no expression.
use Rattle.std.proofs.Common.{◌≡◌, List, [], ◌∷◌, ◌++◌, Some, None, refl, sym, subst}
use Rattle.sk_tree.specs.declared.token.Token.{Token}
use Rattle.sk_tree.specs.declared.token.Kind.{Kind}
use Rattle.sk_tree.specs.declared.expr.Expr.{Expr}
use Rattle.sk_tree.specs.declared.expr.EForm.{EForm}
use Rattle.sk_tree.specs.declared.expr.NewField.{NewField}
use Rattle.sk_tree.specs.declared.expr.EForm.TheOpen as E
use Rattle.sk_tree.specs.declared.expr.EForm.TheViews.{out-EForm, roll-out-EForm}
use Rattle.sk_tree.specs.Phrase.{Phrase, Never, Given, One, ◌▸◌}
use Rattle.sk_tree.specs.Spelt.{Saying, ReadsNot}
use Rattle.sk_tree.proofs.Layers.{FormBy, LayerBy, form_by, expr_by}

-- a phrase that has a token
record Speaks (P : Phrase) : Type 0 where
  speaks : P [] → ⊥

both_empty : (xs ys : List Token) → [] ≡ xs ++ ys → (xs ≡ []) × (ys ≡ [])
both_empty [] ys h = (refl, sym h)
both_empty (x ∷ xs) ys h = cc

speaks_one : (k : Kind) → Speaks (One k)
speaks_one k = record { speaks = λ h. let e = h.1 in cc }

speaks_first : {P Q : Phrase} → Speaks P → Speaks (P ▸ Q)
speaks_first {P} f = record { speaks = λ h. f.speaks (subst P (both_empty h.0 h.1 h.2).0 h.3) }

speaks_then : {P Q : Phrase} → Speaks Q → Speaks (P ▸ Q)
speaks_then {Q = Q} f = record { speaks = λ h. f.speaks (subst Q (both_empty h.0 h.1 h.2).1 h.4) }

speaks_given : {T : Type 0} {P : Phrase} → Speaks P → Speaks (Given T P)
speaks_given f = record { speaks = λ h. f.speaks h.1 }

abbrev silent : Saying
silent pattern trees = Never

layer_speaks : (l : E.EForm-F EForm Expr NewField) → Speaks (LayerBy silent l)
layer_speaks (E.Number n) = speaks_one _
layer_speaks E.True = speaks_one _
layer_speaks E.False = speaks_one _
layer_speaks E.Null = speaks_one _
layer_speaks (E.Word x) = speaks_one _
layer_speaks (E.Hole None) = speaks_one _
layer_speaks (E.Hole (Some n)) = speaks_first (speaks_one _)
layer_speaks (E.Pattern pattern strings) = record { speaks = λ h. h }
layer_speaks (E.Paren e) = speaks_first (speaks_one _)
layer_speaks (E.Call x args) = speaks_first (speaks_one _)
layer_speaks (E.New x fields) = speaks_first (speaks_one _)
layer_speaks (E.Braces es) = speaks_given (speaks_first (speaks_one _))
layer_speaks (E.Member e x) = speaks_then (speaks_first (speaks_one _))
layer_speaks (E.Index e i) = speaks_then (speaks_first (speaks_one _))
layer_speaks (E.Slice e i n) = speaks_then (speaks_first (speaks_one _))
layer_speaks (E.Unary op e) = speaks_given (speaks_first (speaks_one _))
layer_speaks (E.Binary op a b) = speaks_then (speaks_first (speaks_one _))
layer_speaks (E.Cond c a b) = speaks_then (speaks_first (speaks_one _))

form_speaks : (f : EForm) → Speaks (FormBy silent f)
form_speaks f = subst (λ g. Speaks (FormBy silent g)) (roll-out-EForm f) (subst Speaks (sym (form_by silent (out-EForm f))) (layer_speaks (out-EForm f)))

pub reads_not : ReadsNot []
reads_not tree r = (form_speaks tree.form).speaks (subst (λ (P : Phrase). P []) (expr_by silent tree) r.spelt).0
