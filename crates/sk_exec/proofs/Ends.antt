-- Of each expansion one thing holds: a function is run, or one reason why none is.
use Rattle.std.proofs.Common.{◌≡◌, ℕ, suc, ◌⊎◌, inl, inr, List, [], ◌∷◌, length, Bool, true, false, Option, Some, None, refl, sym, ap, subst, ◌∙◌}
use Rattle.std.specs.Prelude.{Result, Ok, Err, ◌==◌, if◌then◌else◌}
use Rattle.sk_base.specs.declared.bounds.Bounds.{Bounds}
use Rattle.sk_prog.specs.declared.value.Value.{Value}
use Rattle.sk_prog.specs.declared.prog.ParamDef.{ParamDef}
use Rattle.sk_prog.specs.declared.prog.Fun.{Fun}
use Rattle.sk_prog.specs.declared.prog.Prog.{Prog}
use Rattle.sk_prog.specs.declared.ids.FunId.{FunId}
use Rattle.sk_model.specs.declared.expanded.Expanded.{Expanded}
use Rattle.sk_model.specs.declared.expanded.Site.{Site}
use Rattle.sk_model.specs.declared.outcome.Outcome.{Outcome}
use Rattle.sk_model.specs.Parts.{rank}
use Rattle.sk_model.specs.Expand.{are_ordinary, is_generator}
use Rattle.sk_model.specs.Run.{run}
use Rattle.sk_opts.specs.SpeltValues.{spells_value}
use Rattle.sk_app_texts.specs.RunTexts.{run_text}
use Rattle.sk_exec_values.specs.Arguments.{refers, first_of, values_from, arguments}
use Rattle.sk_exec_values.specs.declared.fault.ArgumentFault.{ArgumentFault}
use Rattle.sk_exec_values.specs.declared.fault.ArgumentFault.TheVariants as argument
use Rattle.sk_exec.specs.declared.fault.ExecFault.{ExecFault}
use Rattle.sk_exec.specs.declared.fault.ExecFault.TheVariants as fault
use Rattle.sk_exec.specs.Direct.{Numbered, named, IsCallee, IsFilled, IsRunOf, IsNamedRun, HasNoArguments, IsRefusal, IsNamedRefusal, IsExecFault}
use Rattle.sk_exec.specs.Laws.{OneFault, NoFaultOfRuns, OneRun, AnEnd}

module _ (bounds : Bounds) (e : Expanded) (fun : Fun) (words : List (List ℕ)) where
  -- One function

  one_refusal : (a b : ExecFault) → IsRefusal a bounds e fun words → IsRefusal b bounds e fun words → a ≡ b
  one_refusal fault.NoFunction b x y = absurd x
  one_refusal a fault.NoFunction x y = absurd y
  one_refusal fault.Unfilled fault.Unfilled x y = refl
  one_refusal fault.Unfilled fault.References x y = absurd (x y.filled)
  one_refusal fault.Unfilled fault.Count x y = absurd (x y.filled)
  one_refusal fault.Unfilled (fault.Value j) x y = absurd (x y.filled)
  one_refusal fault.References fault.Unfilled x y = absurd (y x.filled)
  one_refusal fault.Count fault.Unfilled x y = absurd (y x.filled)
  one_refusal (fault.Value i) fault.Unfilled x y = absurd (y x.filled)
  one_refusal fault.References fault.References x y = refl
  one_refusal fault.References fault.Count x y = cc (x.none, y.none)
  one_refusal fault.References (fault.Value j) x y = cc (x.none, y.none)
  one_refusal fault.Count fault.References x y = cc (x.none, y.none)
  one_refusal fault.Count fault.Count x y = refl
  one_refusal fault.Count (fault.Value j) x y = cc (x.none, y.none)
  one_refusal (fault.Value i) fault.References x y = cc (x.none, y.none)
  one_refusal (fault.Value i) fault.Count x y = cc (x.none, y.none)
  one_refusal (fault.Value i) (fault.Value j) x y = cc (x.none, y.none)

  no_refusal : (a : ExecFault) (f : FunId) (outcome : Outcome) (out : List ℕ) → IsRefusal a bounds e fun words → IsRunOf bounds e f fun words outcome out → ⊥
  no_refusal fault.NoFunction f outcome out x run = x
  no_refusal fault.Unfilled f outcome out x run = x run.filled
  no_refusal fault.References f outcome out x run = cc (x.none, run.arguments_are)
  no_refusal fault.Count f outcome out x run = cc (x.none, run.arguments_are)
  no_refusal (fault.Value i) f outcome out x run = cc (x.none, run.arguments_are)

  one_run_of : (f : FunId) (o p : Outcome) (out other : List ℕ) → IsRunOf bounds e f fun words o out → IsRunOf bounds e f fun words p other → (o ≡ p) × (out ≡ other)
  one_run_of f o p out other x y =
      let same : x.args ≡ y.args = cc (x.arguments_are, y.arguments_are) in
      let ends : o ≡ p = x.outcome_is ∙ ap (λ args. run e.prog f args bounds) same ∙ sym y.outcome_is in
      (ends, x.out_is ∙ ap (run_text fun) ends ∙ sym y.out_is)

-- Arguments are never refused for memory

first_memory : (i : ℕ) (o : Option Value) (r : Result (List Value) ArgumentFault) → (r ≡ Err argument.Memory → ⊥) → first_of i o r ≡ Err argument.Memory → ⊥
first_memory i None r behind is = cc is
first_memory i (Some v) (Ok vs) behind is = cc is
first_memory i (Some v) (Err f) behind is = behind is

values_memory : (i : ℕ) (bounds : Bounds) (ps : List ParamDef) (ws : List (List ℕ)) → values_from i bounds ps ws ≡ Err argument.Memory → ⊥
values_memory i bounds [] ws is = cc is
values_memory i bounds (p ∷ ps) [] is = cc is
values_memory i bounds (p ∷ ps) (w ∷ ws) is = first_memory i (spells_value bounds p.ty w) (values_from (suc i) bounds ps ws) (values_memory (suc i) bounds ps ws) is

chosen_memory : (b c : Bool) (r : Result (List Value) ArgumentFault) → (r ≡ Err argument.Memory → ⊥) → (if b then Err argument.References else (if c then r else Err argument.Count)) ≡ Err argument.Memory → ⊥
chosen_memory true c r behind is = cc is
chosen_memory false true r behind is = behind is
chosen_memory false false r behind is = cc is

pub arguments_memory : (bounds : Bounds) (fun : Fun) (words : List (List ℕ)) → arguments bounds fun words ≡ Err argument.Memory → ⊥
arguments_memory bounds fun words is =
    chosen_memory (refers fun) (length words == length fun.params) (values_from 0 bounds fun.params words) (values_memory 0 bounds fun.params words) is

-- Each function is run, or is not for some reason

abbrev Ended : Bounds → Expanded → FunId → Fun → List (List ℕ) → Type 0
Ended bounds e f fun words = ((a : ExecFault) × IsRefusal a bounds e fun words) ⊎ ((outcome : Outcome) × (out : List ℕ) × IsRunOf bounds e f fun words outcome out)

module _ (bounds : Bounds) (e : Expanded) (f : FunId) (fun : Fun) (words : List (List ℕ)) (filled : IsFilled e fun) where
  refused_as : (a : ArgumentFault) → arguments bounds fun words ≡ Err a → Ended bounds e f fun words
  refused_as argument.References is = inl (fault.References, record { filled = filled; none = is })
  refused_as argument.Count is = inl (fault.Count, record { filled = filled; none = is })
  refused_as (argument.Value i) is = inl (fault.Value i, record { filled = filled; none = is })
  refused_as argument.Memory is = absurd (arguments_memory bounds fun words is)

  given : (r : Result (List Value) ArgumentFault) → arguments bounds fun words ≡ r → Ended bounds e f fun words
  given (Ok args) is = inr (run e.prog f args bounds, run_text fun (run e.prog f args bounds), record { filled = filled; args = args; arguments_are = is; outcome_is = refl; out_is = refl })
  given (Err a) is = refused_as a is

module _ (bounds : Bounds) (e : Expanded) (f : FunId) (fun : Fun) (words : List (List ℕ)) where
  by_sites : (sites : List Site) (b : Bool) → e.sites ≡ sites → is_generator fun.kind ≡ b → Ended bounds e f fun words
  by_sites [] false none ordinary = given bounds e f fun words (record { sites = none; ordinary = ordinary }) (arguments bounds fun words) refl
  by_sites [] true none generator = inl (fault.Unfilled, λ filled. cc (generator, filled.ordinary))
  by_sites (s ∷ ss) b some kind = inl (fault.Unfilled, λ filled. cc (some, filled.sites))

  ended : Ended bounds e f fun words
  ended = by_sites e.sites (is_generator fun.kind) refl refl

-- Named functions

module _ (bounds : Bounds) (prog : Prog) (e : Expanded) (name : List ℕ) (words : List (List ℕ)) where
  -- the name means one function
  one_function : (a b : Numbered) → named name prog.funs ≡ Some a → named name prog.funs ≡ Some b → a ≡ b
  one_function a b x y = cc (x, y)

  one_named : (a b : ExecFault) → IsNamedRefusal a bounds prog e name words → IsNamedRefusal b bounds prog e name words → a ≡ b
  one_named a b x y =
      let same : x.function ≡ y.function = one_function x.function y.function x.is_named y.is_named in
      one_refusal bounds e y.function.fun words a b (subst (λ n. IsRefusal a bounds e n.fun words) same x.refused) y.refused

  none_or_some : (n : Numbered) → named name prog.funs ≡ None → named name prog.funs ≡ Some n → ⊥
  none_or_some n x y = cc (x, y)

  -- a reason is that there is no function, or of a function
  as_cause : (a : ExecFault) → IsExecFault a bounds prog e name words → ((a ≡ fault.NoFunction) × (named name prog.funs ≡ None)) ⊎ IsNamedRefusal a bounds prog e name words
  as_cause fault.NoFunction x = inl (refl, x)
  as_cause fault.Unfilled x = inr x
  as_cause fault.References x = inr x
  as_cause fault.Count x = inr x
  as_cause (fault.Value i) x = inr x

  one_cause : (a b : ExecFault) → ((a ≡ fault.NoFunction) × (named name prog.funs ≡ None)) ⊎ IsNamedRefusal a bounds prog e name words → ((b ≡ fault.NoFunction) × (named name prog.funs ≡ None)) ⊎ IsNamedRefusal b bounds prog e name words → a ≡ b
  one_cause a b (inl x) (inl y) = x.0 ∙ sym y.0
  one_cause a b (inl x) (inr y) = absurd (none_or_some y.function x.1 y.is_named)
  one_cause a b (inr x) (inl y) = absurd (none_or_some x.function y.1 x.is_named)
  one_cause a b (inr x) (inr y) = one_named a b x y

  pub one_fault : (a b : ExecFault) → IsExecFault a bounds prog e name words → IsExecFault b bounds prog e name words → a ≡ b
  one_fault a b x y = one_cause a b (as_cause a x) (as_cause b y)

  no_cause : (a : ExecFault) (outcome : Outcome) (out : List ℕ) → ((a ≡ fault.NoFunction) × (named name prog.funs ≡ None)) ⊎ IsNamedRefusal a bounds prog e name words → IsNamedRun bounds prog e name words outcome out → ⊥
  no_cause a outcome out (inl x) y = none_or_some (record { number = y.callee.number; fun = y.fun }) x.1 y.callee.is_named
  no_cause a outcome out (inr x) y =
      let called : Numbered = record { number = y.callee.number; fun = y.fun } in
      let same : x.function ≡ called = one_function x.function called x.is_named y.callee.is_named in
      no_refusal bounds e y.fun words a y.f outcome out (subst (λ n. IsRefusal a bounds e n.fun words) same x.refused) y.run_of

  pub no_fault_of_run : (a : ExecFault) (outcome : Outcome) (out : List ℕ) → IsExecFault a bounds prog e name words → IsNamedRun bounds prog e name words outcome out → ⊥
  no_fault_of_run a outcome out x y = no_cause a outcome out (as_cause a x) y

  same_run : (f g : FunId) (fun other : Fun) (o p : Outcome) (out also : List ℕ) → f ≡ g → fun ≡ other → IsRunOf bounds e f fun words o out → IsRunOf bounds e g other words p also → (o ≡ p) × (out ≡ also)
  same_run f g fun other o p out also is are x y =
      one_run_of bounds e other words g o p out also (subst (λ h. IsRunOf bounds e h other words o out) is (subst (λ h. IsRunOf bounds e f h words o out) are x)) y

  pub one_run : (o p : Outcome) (out also : List ℕ) → IsNamedRun bounds prog e name words o out → IsNamedRun bounds prog e name words p also → (o ≡ p) × (out ≡ also)
  one_run o p out also x y =
      let a : Numbered = record { number = x.callee.number; fun = x.fun } in
      let b : Numbered = record { number = y.callee.number; fun = y.fun } in
      let same : a ≡ b = one_function a b x.callee.is_named y.callee.is_named in
      let number : x.callee.number ≡ y.callee.number = ap (λ n. n.number) same in
      let index : x.f.index ≡ y.f.index = x.callee.ranked ∙ ap (rank (are_ordinary prog.funs)) number ∙ sym y.callee.ranked in
      same_run x.f y.f x.fun y.fun o p out also (ap (λ i. record { index = i }) index) (ap (λ n. n.fun) same) x.run_of y.run_of

  -- the end of the function of this name
  end_of : (n : Numbered) → named name prog.funs ≡ Some n → Ended bounds e (record { index = rank (are_ordinary prog.funs) n.number }) n.fun words → ((a : ExecFault) × IsExecFault a bounds prog e name words) ⊎ ((outcome : Outcome) × (out : List ℕ) × IsNamedRun bounds prog e name words outcome out)
  end_of n is (inl (fault.NoFunction, x)) = absurd x
  end_of n is (inl (fault.Unfilled, x)) = inl (fault.Unfilled, record { function = n; is_named = is; refused = x })
  end_of n is (inl (fault.References, x)) = inl (fault.References, record { function = n; is_named = is; refused = x })
  end_of n is (inl (fault.Count, x)) = inl (fault.Count, record { function = n; is_named = is; refused = x })
  end_of n is (inl (fault.Value i, x)) = inl (fault.Value i, record { function = n; is_named = is; refused = x })
  end_of n is (inr (outcome, out, x)) =
      inr (
        outcome,
        out,
        record {
          f = record { index = rank (are_ordinary prog.funs) n.number };
          fun = n.fun;
          callee = record { number = n.number; is_named = is; ranked = refl };
          run_of = x;
        },
      )

  named_end : (o : Option Numbered) → named name prog.funs ≡ o → ((a : ExecFault) × IsExecFault a bounds prog e name words) ⊎ ((outcome : Outcome) × (out : List ℕ) × IsNamedRun bounds prog e name words outcome out)
  named_end None is = inl (fault.NoFunction, is)
  named_end (Some n) is = end_of n is (ended bounds e (record { index = rank (are_ordinary prog.funs) n.number }) n.fun words)

  pub an_end : ((a : ExecFault) × IsExecFault a bounds prog e name words) ⊎ ((outcome : Outcome) × (out : List ℕ) × IsNamedRun bounds prog e name words outcome out)
  an_end = named_end (named name prog.funs) refl
