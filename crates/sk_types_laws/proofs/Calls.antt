-- Calls as they stand, with a type or without one.
use Rattle.std.proofs.Common.{◌≡◌, ℕ, Bool, true, List, [], ◌∷◌, Some, refl, sym, ap, subst, ◌∙◌}
use Rattle.std.specs.Prelude.{IsTrue}
use Rattle.sk_tree.specs.declared.expr.Expr.{Expr}
use Rattle.sk_tree.specs.declared.expr.EForm.TheVariants as eform
use Rattle.sk_prog.specs.declared.expr.PExpr.{PExpr}
use Rattle.sk_prog.specs.declared.expr.PEForm.TheVariants as pform
use Rattle.sk_prog.specs.declared.expr.PEForm.TheOpen as P
use Rattle.sk_prog.specs.declared.expr.PEForm.TheFolds.{fold-PEForm, fold-roll-PEForm, fold-roll-PExpr}
use Rattle.sk_prog.specs.declared.prog.ParamDef.{ParamDef}
use Rattle.sk_types_rules.specs.declared.scope.Variable.{Variable}
use Rattle.sk_types_rules.specs.Rules.{◌>>=◌}
use Rattle.sk_types_rules.specs.Scope.{Context, meaning_of}
use Rattle.sk_types_rules.specs.Sorts.{variable_type}
use Rattle.sk_types_rules.specs.Types.{EFormRule, ArgumentsMean, Means, form_calls, is_call}
use Rattle.sk_types_rules.proofs.Layers.{FormMeans, rule, form_means_are, means_from}
use Rattle.sk_types_laws.specs.declared.found.Called.{Called}
use Rattle.sk_types_laws.specs.Elaborate.{callee_meant, called, argument_at, arguments_at, may_pass}
use Rattle.sk_types_laws.specs.Parts.{part, argument_part, arguments}
use Rattle.sk_types_laws.specs.Making.{call_in, form_call, call_of}
use Rattle.sk_types_laws.proofs.Views.{call_found}
use Rattle.sk_types_laws.proofs.Ats.{bind_some, some_same, if_some}
use Rattle.sk_types_laws.proofs.Joined.{part_is}
use Rattle.sk_types_laws.proofs.Sound.{callee_found, ref_sound}
use Rattle.sk_types_laws.proofs.Exact.{found}

module _ (context : Context) (scope : List Variable) where
  arguments_mean : (ds : List ParamDef) (es : List Expr) (ps : List PExpr) → arguments_at ds (arguments context scope es) ≡ Some ps → ArgumentsMean (λ p. p) (Means context scope) scope ds ps es
  arguments_mean [] [] ps h = subst (λ ps. ArgumentsMean (λ p. p) (Means context scope) scope [] ps []) (some_same _ _ h) tt
  arguments_mean [] (e ∷ es) ps h = cc
  arguments_mean (d ∷ ds) [] ps h = cc
  arguments_mean (d ∷ ds) (e ∷ es) ps h =
      let a = bind_some (argument_at d (argument_part (part context scope e))) _ ps h in
      let b = bind_some (arguments_at ds (arguments context scope es)) _ ps a.2 in
      let c = if_some (may_pass d (part context scope e).variable) ((part context scope e).at d.ty) a.0 a.1 in
      let good = found context scope d.ty e a.0 c.1 in
      let pass : may_pass d (variable_type scope e.form) ≡ true = ap (λ p. may_pass d p.variable) (sym (part_is context scope e)) ∙ c.0 in
      subst (λ ps. ArgumentsMean (λ p. p) (Means context scope) scope (d ∷ ds) ps (e ∷ es)) (some_same _ _ b.2) (good.means, good.type, ref_sound context scope d e.form pass, arguments_mean ds es b.0 b.1)

  called_mean : (e : Expr) (x : List ℕ) (es : List Expr) → e.form ≡ eform.Call x es → (p : PExpr) → (called (callee_meant context.top (meaning_of context.top scope x)) (arguments context scope es) >>= λ (c : Called). Some (record { span = e.span; ty = c.result; form = c.form })) ≡ Some p → IsTrue (is_call p) × Means context scope p e
  called_mean e x es is p h =
      let c = bind_some (called (callee_meant context.top (meaning_of context.top scope x)) (arguments context scope es)) _ p h in
      let g = bind_some (callee_meant context.top (meaning_of context.top scope x)) _ c.0 c.1 in
      let a = bind_some (arguments_at g.0.signature.params (arguments context scope es)) _ c.0 g.2 in
      let f = callee_found context.top (meaning_of context.top scope x) g.0 g.1 in
      let made : record { result = g.0.signature.result; form = pform.Call g.0.id a.0 } ≡ c.0 = some_same _ _ a.2 in
      let q : PExpr = record { span = e.span; ty = g.0.signature.result; form = pform.Call g.0.id a.0 } in
      let to : q ≡ p = ap (λ (c : Called). record { span = e.span; ty = c.result; form = c.form }) made ∙ some_same _ _ c.2 in
      let is_one : is_call q ≡ true = fold-roll-PExpr Bool Bool (Unit {0}) form_calls (λ p. p.form) (λ p. tt) (record { span = q.span; ty = q.ty; form = q.form }) ∙ ap (fold-PEForm Bool Bool (Unit {0}) form_calls (λ p. p.form) (λ p. tt)) (sym (pform.rolls-Call g.0.id a.0)) ∙ fold-roll-PEForm Bool Bool (Unit {0}) form_calls (λ p. p.form) (λ p. tt) (P.Call g.0.id a.0) in
      let r : rule context scope (P.Call g.0.id a.0) q.ty e = (x, es, is, g.0.signature, record { meaning = f.0; there = f.1.0; callable = f.1.1 }, arguments_mean g.0.signature.params es a.0 a.1, refl) in
      let means = means_from context scope q e refl (subst (λ k. FormMeans context scope k q.ty e) (pform.rolls-Call g.0.id a.0) (subst (λ (M : EFormRule). M q.ty e) (sym (form_means_are context scope (P.Call g.0.id a.0))) r)) in
      (subst (λ p. IsTrue (is_call p)) to is_one, subst (λ p. Means context scope p e) to means)

  form_call_mean : (e : Expr) (p : PExpr) → form_call context scope e.span e.form ≡ Some p → IsTrue (is_call p) × Means context scope p e
  form_call_mean e p h =
      let c = bind_some (call_in e.form) _ p h in
      called_mean e c.0.name c.0.args (call_found e c.0 c.1) p c.2

  pub call_sound : (e : Expr) (p : PExpr) → call_of context scope e ≡ Some p → IsTrue (is_call p) × Means context scope p e
  unfolding call_of
  call_sound e p h = form_call_mean e p h
