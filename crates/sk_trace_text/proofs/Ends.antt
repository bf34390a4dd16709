-- Of each expansion and numbers one thing holds: a function is run step by step, or one reason why none is.
use Rattle.std.proofs.Common.{◌≡◌, ℕ, ◌⊎◌, inl, inr, List, [], length, Bool, true, false, cond, eqb, Option, Some, None, refl, sym, ap, subst, ◌∙◌}
use Rattle.std.specs.Prelude.{Result, Ok, Err, ◌≢◌}
use Rattle.std.specs.Option.{option_map}
use Rattle.std.proofs.lemmas.Bool.{eqb-true, ne_eqb, eq-eqb}
use Rattle.sk_base.specs.declared.bounds.Bounds.{Bounds}
use Rattle.sk_prog.specs.declared.value.Value.{Value}
use Rattle.sk_prog.specs.declared.prog.Fun.{Fun}
use Rattle.sk_prog.specs.declared.prog.Prog.{Prog}
use Rattle.sk_prog.specs.declared.ids.FunId.{FunId}
use Rattle.sk_model.specs.declared.expanded.Choice.{Choice}
use Rattle.sk_model.specs.declared.expanded.Expanded.{Expanded}
use Rattle.sk_model.specs.declared.outcome.Outcome.{Outcome}
use Rattle.sk_model.specs.Parts.{rank}
use Rattle.sk_model.specs.Expand.{are_ordinary, is_generator}
use Rattle.sk_model.specs.Fill.{InRange, fill}
use Rattle.sk_model.specs.Run.{run}
use Rattle.sk_holes.specs.declared.fault.FillFault.{FillFault}
use Rattle.sk_holes.specs.declared.fault.FillFault.TheVariants as hole
use Rattle.sk_holes.specs.Range.{first_out}
use Rattle.sk_holes.proofs.RangeLaws.{fits_where_none_is_out, none_is_out}
use Rattle.sk_interp_laws.specs.Path.{path}
use Rattle.sk_exec_values.specs.Arguments.{arguments}
use Rattle.sk_exec_values.specs.declared.fault.ArgumentFault.{ArgumentFault}
use Rattle.sk_exec_values.specs.declared.fault.ArgumentFault.TheVariants as argument
use Rattle.sk_exec.specs.declared.fault.ExecFault.TheVariants as exec
use Rattle.sk_exec.specs.Direct.{Numbered, named, IsCallee}
use Rattle.sk_exec.proofs.Ends.{arguments_memory}
use Rattle.sk_trace_text.specs.declared.fault.TraceFault.{TraceFault}
use Rattle.sk_trace_text.specs.declared.fault.TraceFault.TheVariants as fault
use Rattle.sk_trace_text.specs.StepTexts.{trace_text}
use Rattle.sk_trace_text.specs.Traced.{IsFilled, IsTraceOf, IsNamedTrace, IsUnfit, HasNoFilling, HasNoArguments, IsRefusal, IsNamedRefusal, IsTraceFault}

-- Whether numbers fill a sketch

-- what a test of the numbers finds
abbrev test : Expanded → Choice → Option FillFault
test e a = cond (eqb (length a.values) (length e.sites)) (option_map hole.OutOfRange (first_out 0 e.sites a.values)) (Some hole.WrongLength)

unfit_is : (reason : FillFault) (e : Expanded) (a : Choice) → IsUnfit reason e a → test e a ≡ Some reason
unfit_is hole.WrongLength e a other = ap (λ b. cond b (option_map hole.OutOfRange (first_out 0 e.sites a.values)) (Some hole.WrongLength)) (ne_eqb (length a.values) (length e.sites) other)
unfit_is (hole.OutOfRange site) e a out =
    ap (λ b. cond b (option_map hole.OutOfRange (first_out 0 e.sites a.values)) (Some hole.WrongLength)) (eq-eqb (length a.values) (length e.sites) out.all)
    ∙ ap (option_map hole.OutOfRange) out.first
unfit_is hole.Memory e a none = absurd none

range_is : (e : Expanded) (a : Choice) → InRange e a → test e a ≡ None
range_is e a range =
    let fits = none_is_out 0 e.sites a.values range.fits in
    ap (λ b. cond b (option_map hole.OutOfRange (first_out 0 e.sites a.values)) (Some hole.WrongLength)) (eq-eqb (length a.values) (length e.sites) fits.0)
    ∙ ap (option_map hole.OutOfRange) fits.1

-- they fill it, or do not for some reason
fills_or_not : (e : Expanded) (a : Choice) → InRange e a ⊎ ((reason : FillFault) × IsUnfit reason e a)
fills_or_not e a = by_length (eqb (length a.values) (length e.sites)) refl
  where
    by_first : (o : Option ℕ) → length a.values ≡ length e.sites → first_out 0 e.sites a.values ≡ o → InRange e a ⊎ ((reason : FillFault) × IsUnfit reason e a)
    by_first None all none = inl (record { fits = fits_where_none_is_out 0 e.sites a.values all none })
    by_first (Some site) all first = inr (hole.OutOfRange site, record { all = all; first = first })

    by_length : (b : Bool) → eqb (length a.values) (length e.sites) ≡ b → InRange e a ⊎ ((reason : FillFault) × IsUnfit reason e a)
    by_length true is = by_first (first_out 0 e.sites a.values) (eqb-true (length a.values) (length e.sites) is) refl
    by_length false is = inr (hole.WrongLength, λ same. cc (sym is ∙ eq-eqb (length a.values) (length e.sites) same))

-- One function

-- the reason why it is not run, from whether it is a generator, what is wrong with the numbers, and its arguments
abbrev verdict : Bool → Option FillFault → Result (List Value) ArgumentFault → Option TraceFault
verdict true unfit args = Some (fault.NotRun exec.Unfilled)
verdict false (Some reason) args = Some (fault.NotFilled reason)
verdict false None (Err argument.References) = Some (fault.NotRun exec.References)
verdict false None (Err argument.Count) = Some (fault.NotRun exec.Count)
verdict false None (Err (argument.Value index)) = Some (fault.NotRun (exec.Value index))
verdict false None (Err argument.Memory) = None
verdict false None (Ok args) = None

module _ (bounds : Bounds) (e : Expanded) (c : Choice) (fun : Fun) (words : List (List ℕ)) where
  abbrev reason_of : Option TraceFault
  reason_of = verdict (is_generator fun.kind) (test e c) (arguments bounds fun words)

  filled_is : IsFilled e c fun → reason_of ≡ verdict false None (arguments bounds fun words)
  filled_is filled = ap (λ b. verdict b (test e c) (arguments bounds fun words)) filled.ordinary ∙ ap (λ o. verdict false o (arguments bounds fun words)) (range_is e c filled.in_range)

  refused_is : (reason : ArgumentFault) → HasNoArguments bounds e c fun words reason → reason_of ≡ verdict false None (Err reason)
  refused_is reason x = filled_is x.filled ∙ ap (verdict false None) x.none

  refusal_is : (a : TraceFault) → IsRefusal a bounds e c fun words → reason_of ≡ Some a
  refusal_is (fault.NotRun exec.NoFunction) x = absurd x
  refusal_is (fault.NotRun exec.Unfilled) x = ap (λ b. verdict b (test e c) (arguments bounds fun words)) x
  refusal_is (fault.NotFilled reason) x =
      ap (λ b. verdict b (test e c) (arguments bounds fun words)) x.ordinary ∙ ap (λ o. verdict false o (arguments bounds fun words)) (unfit_is reason e c x.unfit)
  refusal_is (fault.NotRun exec.References) x = refused_is argument.References x
  refusal_is (fault.NotRun exec.Count) x = refused_is argument.Count x
  refusal_is (fault.NotRun (exec.Value i)) x = refused_is (argument.Value i) x

  trace_is : (f : FunId) (outcome : Outcome) (out : List ℕ) → IsTraceOf bounds e c f fun words outcome out → reason_of ≡ None
  trace_is f outcome out x = filled_is x.filled ∙ ap (verdict false None) x.arguments_are

  one_refusal : (a b : TraceFault) → IsRefusal a bounds e c fun words → IsRefusal b bounds e c fun words → a ≡ b
  one_refusal a b x y = inside (sym (refusal_is a x) ∙ refusal_is b y)
    where
      inside : Some a ≡ Some b → a ≡ b
      inside is = cc

  no_refusal : (a : TraceFault) (f : FunId) (outcome : Outcome) (out : List ℕ) → IsRefusal a bounds e c fun words → IsTraceOf bounds e c f fun words outcome out → ⊥
  no_refusal a f outcome out x y = apart (sym (refusal_is a x) ∙ trace_is f outcome out y)
    where
      apart : Some a ≡ None → ⊥
      apart is = cc

  one_trace_of : (f : FunId) (o p : Outcome) (out other : List ℕ) → IsTraceOf bounds e c f fun words o out → IsTraceOf bounds e c f fun words p other → (o ≡ p) × (out ≡ other)
  one_trace_of f o p out other x y =
      let same : x.args ≡ y.args = cc (x.arguments_are, y.arguments_are) in
      let ends : o ≡ p = x.outcome_is ∙ ap (λ args. run (fill e c) f args bounds) same ∙ sym y.outcome_is in (
        ends,
        x.out_is ∙ ap (λ args. trace_text fun (path (fill e c) f args bounds) o) same ∙ ap (trace_text fun (path (fill e c) f y.args bounds)) ends ∙ sym y.out_is,
      )

  -- it is run, or is not for some reason

  abbrev Ended : FunId → Type 0
  Ended f = ((a : TraceFault) × IsRefusal a bounds e c fun words) ⊎ ((outcome : Outcome) × (out : List ℕ) × IsTraceOf bounds e c f fun words outcome out)

  refused_as : (f : FunId) → IsFilled e c fun → (a : ArgumentFault) → arguments bounds fun words ≡ Err a → Ended f
  refused_as f filled argument.References is = inl (fault.NotRun exec.References, record { filled = filled; none = is })
  refused_as f filled argument.Count is = inl (fault.NotRun exec.Count, record { filled = filled; none = is })
  refused_as f filled (argument.Value i) is = inl (fault.NotRun (exec.Value i), record { filled = filled; none = is })
  refused_as f filled argument.Memory is = absurd (arguments_memory bounds fun words is)

  given : (f : FunId) → IsFilled e c fun → (r : Result (List Value) ArgumentFault) → arguments bounds fun words ≡ r → Ended f
  given f filled (Ok args) is =
      let outcome = run (fill e c) f args bounds in
      inr (outcome, trace_text fun (path (fill e c) f args bounds) outcome, record { filled = filled; args = args; arguments_are = is; outcome_is = refl; out_is = refl })
  given f filled (Err a) is = refused_as f filled a is

  by_range : (f : FunId) → is_generator fun.kind ≡ false → InRange e c ⊎ ((reason : FillFault) × IsUnfit reason e c) → Ended f
  by_range f ordinary (inl range) = given f (record { ordinary = ordinary; in_range = range }) (arguments bounds fun words) refl
  by_range f ordinary (inr (reason, unfit)) = inl (fault.NotFilled reason, record { ordinary = ordinary; unfit = unfit })

  by_kind : (f : FunId) (b : Bool) → is_generator fun.kind ≡ b → Ended f
  by_kind f true is = inl (fault.NotRun exec.Unfilled, is)
  by_kind f false is = by_range f is (fills_or_not e c)

  ended : (f : FunId) → Ended f
  ended f = by_kind f (is_generator fun.kind) refl

-- Named functions

module _ (bounds : Bounds) (prog : Prog) (e : Expanded) (c : Choice) (name : List ℕ) (words : List (List ℕ)) where
  -- the name means one function
  one_function : (a b : Numbered) → named name prog.funs ≡ Some a → named name prog.funs ≡ Some b → a ≡ b
  one_function a b x y = cc (x, y)

  one_named : (a b : TraceFault) → IsNamedRefusal a bounds prog e c name words → IsNamedRefusal b bounds prog e c name words → a ≡ b
  one_named a b x y =
      let same : x.function ≡ y.function = one_function x.function y.function x.is_named y.is_named in
      one_refusal bounds e c y.function.fun words a b (subst (λ n. IsRefusal a bounds e c n.fun words) same x.refused) y.refused

  none_or_some : (n : Numbered) → named name prog.funs ≡ None → named name prog.funs ≡ Some n → ⊥
  none_or_some n x y = cc (x, y)

  -- a reason is that there is no function, or of a function
  abbrev Cause : TraceFault → Type 0
  Cause a = ((a ≡ fault.NotRun exec.NoFunction) × (named name prog.funs ≡ None)) ⊎ IsNamedRefusal a bounds prog e c name words

  as_cause : (a : TraceFault) → IsTraceFault a bounds prog e c name words → Cause a
  as_cause (fault.NotRun exec.NoFunction) x = inl (refl, x)
  as_cause (fault.NotRun exec.Unfilled) x = inr x
  as_cause (fault.NotRun exec.References) x = inr x
  as_cause (fault.NotRun exec.Count) x = inr x
  as_cause (fault.NotRun (exec.Value i)) x = inr x
  as_cause (fault.NotFilled reason) x = inr x

  pub of_function : (a : TraceFault) (n : Numbered) → named name prog.funs ≡ Some n → IsRefusal a bounds e c n.fun words → IsTraceFault a bounds prog e c name words
  of_function (fault.NotRun exec.NoFunction) n is x = absurd x
  of_function (fault.NotRun exec.Unfilled) n is x = record { function = n; is_named = is; refused = x }
  of_function (fault.NotRun exec.References) n is x = record { function = n; is_named = is; refused = x }
  of_function (fault.NotRun exec.Count) n is x = record { function = n; is_named = is; refused = x }
  of_function (fault.NotRun (exec.Value i)) n is x = record { function = n; is_named = is; refused = x }
  of_function (fault.NotFilled reason) n is x = record { function = n; is_named = is; refused = x }

  one_cause : (a b : TraceFault) → Cause a → Cause b → a ≡ b
  one_cause a b (inl x) (inl y) = x.0 ∙ sym y.0
  one_cause a b (inl x) (inr y) = absurd (none_or_some y.function x.1 y.is_named)
  one_cause a b (inr x) (inl y) = absurd (none_or_some x.function y.1 x.is_named)
  one_cause a b (inr x) (inr y) = one_named a b x y

  pub one_fault : (a b : TraceFault) → IsTraceFault a bounds prog e c name words → IsTraceFault b bounds prog e c name words → a ≡ b
  one_fault a b x y = one_cause a b (as_cause a x) (as_cause b y)

  no_cause : (a : TraceFault) (outcome : Outcome) (out : List ℕ) → Cause a → IsNamedTrace bounds prog e c name words outcome out → ⊥
  no_cause a outcome out (inl x) y = none_or_some (record { number = y.callee.number; fun = y.fun }) x.1 y.callee.is_named
  no_cause a outcome out (inr x) y =
      let called : Numbered = record { number = y.callee.number; fun = y.fun } in
      let same : x.function ≡ called = one_function x.function called x.is_named y.callee.is_named in
      no_refusal bounds e c y.fun words a y.f outcome out (subst (λ n. IsRefusal a bounds e c n.fun words) same x.refused) y.trace_of

  pub no_fault_of_trace : (a : TraceFault) (outcome : Outcome) (out : List ℕ) → IsTraceFault a bounds prog e c name words → IsNamedTrace bounds prog e c name words outcome out → ⊥
  no_fault_of_trace a outcome out x y = no_cause a outcome out (as_cause a x) y

  same_trace : (f g : FunId) (fun other : Fun) (o p : Outcome) (out also : List ℕ) → f ≡ g → fun ≡ other → IsTraceOf bounds e c f fun words o out → IsTraceOf bounds e c g other words p also → (o ≡ p) × (out ≡ also)
  same_trace f g fun other o p out also is are x y =
      one_trace_of bounds e c other words g o p out also (subst (λ h. IsTraceOf bounds e c h other words o out) is (subst (λ h. IsTraceOf bounds e c f h words o out) are x)) y

  pub one_trace : (o p : Outcome) (out also : List ℕ) → IsNamedTrace bounds prog e c name words o out → IsNamedTrace bounds prog e c name words p also → (o ≡ p) × (out ≡ also)
  one_trace o p out also x y =
      let a : Numbered = record { number = x.callee.number; fun = x.fun } in
      let b : Numbered = record { number = y.callee.number; fun = y.fun } in
      let same : a ≡ b = one_function a b x.callee.is_named y.callee.is_named in
      let number : x.callee.number ≡ y.callee.number = ap (λ n. n.number) same in
      let index : x.f.index ≡ y.f.index = x.callee.ranked ∙ ap (rank (are_ordinary prog.funs)) number ∙ sym y.callee.ranked in
      same_trace x.f y.f x.fun y.fun o p out also (ap (λ i. record { index = i }) index) (ap (λ n. n.fun) same) x.trace_of y.trace_of

  abbrev End : Type 0
  End = ((a : TraceFault) × IsTraceFault a bounds prog e c name words) ⊎ ((outcome : Outcome) × (out : List ℕ) × IsNamedTrace bounds prog e c name words outcome out)

  -- the end of the function of this name
  end_of : (n : Numbered) → named name prog.funs ≡ Some n → Ended bounds e c n.fun words (record { index = rank (are_ordinary prog.funs) n.number }) → End
  end_of n is (inl (a, x)) = inl (a, of_function a n is x)
  end_of n is (inr (outcome, out, x)) =
      inr (
        outcome,
        out,
        record {
          f = record { index = rank (are_ordinary prog.funs) n.number };
          fun = n.fun;
          callee = record { number = n.number; is_named = is; ranked = refl };
          trace_of = x;
        },
      )

  named_end : (o : Option Numbered) → named name prog.funs ≡ o → End
  named_end None is = inl (fault.NotRun exec.NoFunction, is)
  named_end (Some n) is = end_of n is (ended bounds e c n.fun words (record { index = rank (are_ordinary prog.funs) n.number }))

  pub an_end : End
  an_end = named_end (named name prog.funs) refl
