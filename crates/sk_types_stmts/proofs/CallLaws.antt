-- What a call becomes as it stands, and that nothing else is one.
use Rattle.std.proofs.Common.{◌≡◌, ◌≢◌, ℕ, List, Option, Some, None, refl, sym, ap, subst, ◌∙◌}
use Rattle.sk_tree.specs.declared.expr.Expr.{Expr}
use Rattle.sk_tree.specs.declared.expr.EForm.TheVariants as eform
use Rattle.sk_types_rules.specs.declared.scope.Variable.{Variable}
use Rattle.sk_types_rules.specs.Rules.{◌>>=◌}
use Rattle.sk_types_rules.specs.Scope.{Context, meaning_of}
use Rattle.sk_types_laws.specs.declared.found.Called.{Called}
use Rattle.sk_types_laws.specs.declared.fault.Typing.{Typing}
use Rattle.sk_types_laws.specs.declared.fault.Typing.TheVariants.{Fault, Memory}
use Rattle.sk_types_laws.specs.declared.fault.TypeFault.{TypeFault}
use Rattle.sk_types_laws.specs.Elaborate.{callee_meant, called}
use Rattle.sk_types_laws.specs.Parts.{arguments}
use Rattle.sk_types_laws.specs.Making.{CallIn, call_in, called_in, form_call, call_of}
use Rattle.sk_types_laws.proofs.Views.{call_of_call, call_found}
use Rattle.sk_types_names.specs.Gives.{Fails}

module _ (context : Context) (scope : List Variable) where
  abbrev pub callee : List ℕ → List Expr → Option Called
  callee x es = called (callee_meant context.top (meaning_of context.top scope x)) (arguments context scope es)

  opened : (e : Expr) (x : List ℕ) (es : List Expr) → e.form ≡ eform.Call x es → call_of context scope e ≡ (callee x es >>= λ (c : Called). Some (record { span = e.span; ty = c.result; form = c.form }))
  unfolding call_of
  opened e x es is = ap (form_call context scope e.span) is ∙ ap (λ o. o >>= called_in context scope e.span) (call_of_call x es)

  pub call_made : (e : Expr) (x : List ℕ) (es : List Expr) (c : Called) → e.form ≡ eform.Call x es → callee x es ≡ Some c → call_of context scope e ≡ Some (record { span = e.span; ty = c.result; form = c.form })
  call_made e x es c is h = opened e x es is ∙ ap (λ o. o >>= λ (c : Called). Some (record { span = e.span; ty = c.result; form = c.form })) h

  pub call_fails : (e : Expr) (x : List ℕ) (es : List Expr) (why : Typing) → e.form ≡ eform.Call x es → Fails why (callee x es) → Fails why (call_of context scope e)
  call_fails e x es Memory is h = tt
  call_fails e x es (Fault f) is h = opened e x es is ∙ ap (λ o. o >>= λ (c : Called). Some (record { span = e.span; ty = c.result; form = c.form })) h

  pub no_call : (e : Expr) (why : Typing) (f : TypeFault) → ((x : List ℕ) (es : List Expr) → e.form ≢ eform.Call x es) → why ≡ Fault f → Fails why (call_of context scope e)
  unfolding call_of
  no_call e why f other is = subst (λ w. Fails w (form_call context scope e.span e.form)) (sym is) (none (call_in e.form) refl)
    where
      none : (o : Option CallIn) → call_in e.form ≡ o → (o >>= called_in context scope e.span) ≡ None
      none None h = refl
      none (Some c) h = absurd (other c.name c.args (call_found e c h))
