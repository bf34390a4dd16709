-- A call that is meant is what the call becomes, also one without a type.
use Rattle.std.proofs.Common.{◌≡◌, Bool, true, List, [], ◌∷◌, Option, Some, refl, sym, ap, subst, ◌∙◌}
use Rattle.std.specs.Prelude.{IsTrue}
use Rattle.sk_tree.specs.declared.expr.Expr.{Expr}
use Rattle.sk_prog.specs.declared.ty.Ty.{Ty}
use Rattle.sk_prog.specs.declared.expr.PExpr.{PExpr}
use Rattle.sk_prog.specs.declared.expr.PEForm.{PEForm}
use Rattle.sk_prog.specs.declared.expr.PEForm.TheVariants as pform
use Rattle.sk_prog.specs.declared.expr.PEForm.TheOpen as P
use Rattle.sk_prog.specs.declared.expr.PEForm.TheViews.{roll-PEForm}
use Rattle.sk_prog.specs.declared.expr.PEForm.TheFolds.{map-PEForm, fold-PEForm, fold-PField, fold-roll-PEForm, fold-roll-PExpr}
use Rattle.sk_prog.specs.declared.expr.PField.{PField}
use Rattle.sk_prog.specs.declared.prog.ParamDef.{ParamDef}
use Rattle.sk_types_rules.specs.declared.scope.Variable.{Variable}
use Rattle.sk_types_rules.specs.Rules.{◌>>=◌}
use Rattle.sk_types_rules.specs.Scope.{Context}
use Rattle.sk_types_rules.specs.Types.{EFormRule, ArgumentsMean, Means, form_calls, is_call}
use Rattle.sk_types_rules.proofs.Layers.{FormMeans, rule, form_means_are, means_parts}
use Rattle.sk_types_laws.specs.Envs.{AreDistinct}
use Rattle.sk_types_laws.specs.Elaborate.{arguments_at, may_pass}
use Rattle.sk_types_laws.specs.Parts.{part, arguments}
use Rattle.sk_types_laws.specs.Making.{called_in, form_call, call_of}
use Rattle.sk_types_laws.proofs.Views.{call_of_call}
use Rattle.sk_types_laws.proofs.Ats.{pexpr_law}
use Rattle.sk_types_laws.proofs.Joined.{part_is}
use Rattle.sk_types_laws.proofs.Complete.{callee_is, may_pass_is}
use Rattle.sk_types_laws.proofs.Exact.{is_at}

abbrev calls : PEForm → Bool
calls = fold-PEForm Bool Bool (Unit {0}) form_calls (λ p. p.form) (λ p. tt)

abbrev no_field : PField → Unit {0}
no_field = fold-PField Bool Bool (Unit {0}) form_calls (λ p. p.form) (λ p. tt)

module _ (context : Context) (scope : List Variable) (good : AreDistinct context.top) where
  arguments_are : (ds : List ParamDef) (ps : List PExpr) (es : List Expr) → ArgumentsMean (λ p. p) (Means context scope) scope ds ps es → arguments_at ds (arguments context scope es) ≡ Some ps
  arguments_are [] [] [] m = refl
  arguments_are (d ∷ ds) (p ∷ ps) (e ∷ es) m =
      let pass : may_pass d (part context scope e).variable ≡ true = ap (λ p. may_pass d p.variable) (part_is context scope e) ∙ may_pass_is context scope good d e.form m.2 in
      rw (pass, is_at context scope good d.ty e p (record { means = m.0; type = m.1 }), arguments_are ds ps es m.3) refl
  arguments_are [] [] (e ∷ es) m = absurd m
  arguments_are [] (p ∷ ps) [] m = absurd m
  arguments_are [] (p ∷ ps) (e ∷ es) m = absurd m
  arguments_are (d ∷ ds) [] [] m = absurd m
  arguments_are (d ∷ ds) [] (e ∷ es) m = absurd m
  arguments_are (d ∷ ds) (p ∷ ps) [] m = absurd m

  -- of a form that is a call
  abbrev FormCalls : PEForm → Type 0
  FormCalls f = calls f ≡ true → (t : Option Ty) (e : Expr) → FormMeans context scope f t e → form_call context scope e.span e.form ≡ Some (record { span = e.span; ty = t; form = f })

  call_layer : (l : P.PEForm-F PEForm PExpr PField) → form_calls (map-PEForm PEForm PExpr PField Bool Bool (Unit {0}) calls is_call no_field l) ≡ true → (t : Option Ty) (e : Expr) → rule context scope l t e → form_call context scope e.span e.form ≡ Some (record { span = e.span; ty = t; form = roll-PEForm l })
  call_layer (P.Call f ps) h t e r =
      ap (form_call context scope e.span) r.2
      ∙ ap (λ o. o >>= λ c. called_in context scope e.span c) (call_of_call r.0 r.1)
      ∙ rw (callee_is context scope good r.0 f r.3 r.4, arguments_are r.3.params ps r.1 r.5) (λ i. Some (record { span = e.span; ty = sym r.6 i; form = sym (pform.rolls-Call f ps) i }))
  call_layer (P.Number n) h t e r = cc
  call_layer P.True h t e r = cc
  call_layer P.False h t e r = cc
  call_layer P.Null h t e r = cc
  call_layer (P.Var slot x) h t e r = cc
  call_layer (P.Const c) h t e r = cc
  call_layer (P.Hole n) h t e r = cc
  call_layer (P.Pattern ps) h t e r = cc
  call_layer (P.Paren a) h t e r = cc
  call_layer (P.New k qs) h t e r = cc
  call_layer (P.Braces ps) h t e r = cc
  call_layer (P.Member a k i) h t e r = cc
  call_layer (P.Index a i) h t e r = cc
  call_layer (P.Slice a i n) h t e r = cc
  call_layer (P.Unary o a) h t e r = cc
  call_layer (P.Binary o a b) h t e r = cc
  call_layer (P.Cond c a b) h t e r = cc
  call_layer (P.ToInt a) h t e r = cc
  call_layer (P.Pad a) h t e r = cc

  abbrev ExprCalls : PExpr → Type 0
  ExprCalls p = is_call p ≡ true → (e : Expr) → Means context scope p e → form_call context scope e.span e.form ≡ Some p

  call_law : (p : PExpr) → ExprCalls p
  call_law = pexpr_law FormCalls ExprCalls (λ q. Unit {0}) form_layer expr_layer (λ q h. tt)
    where
      form_layer : (y : P.PEForm-F ((f : PEForm) × FormCalls f) ((p : PExpr) × ExprCalls p) (PField × Unit {0})) → FormCalls (roll-PEForm (map-PEForm _ _ _ PEForm PExpr PField (λ q. q.0) (λ q. q.0) (λ q. q.0) y))
      form_layer y h t e m =
          let l = map-PEForm _ _ _ PEForm PExpr PField (λ q. q.0) (λ q. q.0) (λ q. q.0) y in
          call_layer l (sym (fold-roll-PEForm Bool Bool (Unit {0}) form_calls (λ p. p.form) (λ p. tt) l) ∙ h) t e (subst (λ (M : EFormRule). M t e) (form_means_are context scope l) m)

      expr_layer : (p : PExpr) → FormCalls p.form → ExprCalls p
      expr_layer p h c e m =
          let r = means_parts context scope p e m in
          let is = sym (fold-roll-PExpr Bool Bool (Unit {0}) form_calls (λ p. p.form) (λ p. tt) (record { span = p.span; ty = p.ty; form = p.form })) ∙ c in
          h is p.ty e r.1 ∙ (λ i. Some (record { span = sym r.0 i; ty = p.ty; form = p.form }))

  pub call_complete : (p : PExpr) (e : Expr) → IsTrue (is_call p) → Means context scope p e → call_of context scope e ≡ Some p
  unfolding call_of
  call_complete p e c m = call_law p c e m
