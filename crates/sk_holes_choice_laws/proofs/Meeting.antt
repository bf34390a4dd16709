-- A choice meets what its filling meets.
use Rattle.std.proofs.Common.{◌≡◌, ◌<◌, ◌≤◌, ℕ, zero, suc, ◌+◌, true, List, [], ◌∷◌, ◌++◌, map, length, Option, Some, None, inl, inr, refl, sym, ap, subst, ◌∙◌, arith}
use Rattle.std.specs.Prelude.{IsTrue, slice_get}
use Rattle.std.proofs.lemmas.Option.{slice_get_within}
use Rattle.sk_base.specs.declared.bounds.Bounds.{Bounds}
use Rattle.sk_prog.specs.declared.ids.FunId.{FunId}
use Rattle.sk_prog.specs.declared.value.Value.{Value}
use Rattle.sk_prog.specs.declared.prog.ParamDef.{ParamDef}
use Rattle.sk_prog.specs.declared.prog.Fun.{Fun}
use Rattle.sk_prog.specs.declared.prog.Prog.{Prog}
use Rattle.sk_types_rules.specs.Scope.{top_of}
use Rattle.sk_types_rules.specs.Plain.{plain}
use Rattle.sk_model.specs.declared.expanded.Choice.{Choice}
use Rattle.sk_model.specs.declared.expanded.Expanded.{Expanded}
use Rattle.sk_model.specs.declared.expanded.Obligation.{Obligation}
use Rattle.sk_model.specs.declared.expanded.Obligation.TheVariants as obligation
use Rattle.sk_model.specs.declared.expanded.Input.{Input}
use Rattle.sk_model.specs.declared.outcome.Outcome.{Outcome}
use Rattle.sk_model.specs.Stands.{standing, all_paid}
use Rattle.sk_model.specs.Expand.{Made, walk_funs, expand}
use Rattle.sk_model.specs.Fill.{minimize_of, fill}
use Rattle.sk_model.specs.Obligations.{obligations}
use Rattle.sk_model.specs.Inputs.{args_in_range, fun_of, IsInput}
use Rattle.sk_model.specs.Meets.{HasFailed, SpeaksAgainst, IsBroken, Breaks, cost_of, cost_of_obligation, cost_on}
use Rattle.sk_model.specs.Run.{run}
use Rattle.sk_model.specs.Open.{run_open}
use Rattle.sk_holes_laws.specs.Expanded.{IsExpanded}
use Rattle.sk_holes_laws.proofs.Ranks.{ordinary_stand}
use Rattle.sk_expand_laws.specs.Copies.{IsCopy, AreCopies}
use Rattle.sk_expand_laws.proofs.Copied.{copies_are_numbered}
use Rattle.sk_expand_laws.proofs.Distinct.{same_kind}
use Rattle.sk_expand_laws.proofs.Lists.{get_parts, get_same}
use Rattle.sk_expand_laws.proofs.Ordinary.{count_is}
use Rattle.sk_expand_laws.proofs.Whole.{expansions_are}
use Rattle.sk_holes_choice_laws.specs.Running.{IsChosen}
use Rattle.sk_holes_choice_laws.specs.Meeting.{IsBrokenUnder, BreaksUnder, cost_of_obligation_under, cost_under, IsMetUnder, ChoicesMeetAsFillings}
use Rattle.sk_holes_choice_laws.proofs.Keeping.{marks_of, new_number}
use Rattle.sk_holes_choice_laws.proofs.Obliged.{BareFrom, Marked, Within, AllWithin, obligations_stay, params_stay, obliged, obliged_at, generators_implement_nothing}
use Rattle.sk_holes_choice_laws.proofs.Whole.{ordinary_runs, some_at}

copy_at : (bounds : Bounds) (funs all cs : List Fun) (k : ℕ) → AreCopies bounds funs all k cs → (j : ℕ) (c : Fun) → slice_get cs j ≡ Some c → (n : ℕ) × IsCopy bounds funs all n c
copy_at bounds funs all [] k a j c at = cc
copy_at bounds funs all (d ∷ cs) k a zero c at = let same : d ≡ c = cc in (k, subst (λ c. IsCopy bounds funs all k c) same a.0)
copy_at bounds funs all (d ∷ cs) k a (suc j) c at = copy_at bounds funs all cs (k + 1) a.1 j c at

both_lengths : {X : Type 0} (xs ys : List X) → length xs ≤ length (xs ++ ys)
both_lengths [] ys = omega arith
both_lengths (x ∷ xs) ys = let rest = both_lengths xs ys in omega (arith, rest)

module _ (bounds : Bounds) (prog : Prog) (choice : Choice) (h : IsChosen bounds prog choice) where
  abbrev e : Expanded
  e = expand prog bounds

  abbrev filled : Prog
  filled = fill e choice

  abbrev made : Made (List Fun)
  made = walk_funs bounds prog.funs prog.funs 0

  expanded : IsExpanded bounds e
  expanded = expansions_are bounds prog h.typed h.fits h.small

  enough : e.ordinary ≤ length e.prog.funs
  unfolding expand
  enough = subst (λ n. n ≤ length (made.made ++ made.copies)) (count_is bounds prog.funs made.copies prog.funs 0) (both_lengths made.made made.copies)

  bare : BareFrom e.ordinary e.prog.funs
  unfolding expand
  bare n f c at = elim (get_parts made.made made.copies n f at) [
    | inl x ↦
        let within = slice_get_within made.made n f x in
        let many = count_is bounds prog.funs made.copies prog.funs 0 in
        absurd (omega (arith, c, within, many))
    | inr x ↦
        let q = (copy_at bounds prog.funs made.copies made.copies 0 (copies_are_numbered prog bounds) x.0 f x.2).1 in
        let none = generators_implement_nothing bounds (top_of prog) [] (plain h.typed.tree).items prog.structs prog.consts prog.funs h.typed.types.items q.place q.generator q.there (same_kind q.generator.kind ∙ q.kind) in
        record { kind = ap (λ (f : Fun). f.kind) q.is; implements = ap (λ (f : Fun). f.implements) q.is ∙ none }
  ]

  marked : Marked e.ordinary (marks_of e choice.values) e.prog.funs
  marked n f less at = (ordinary_stand choice.values e.ordinary e.prog.funs [] 0 0 n f at (omega (arith, less))).0

  same_obligations : obligations filled ≡ obligations e.prog
  unfolding fill
  same_obligations = obligations_stay choice.values (new_number e choice.values) (map minimize_of (all_paid (standing e choice.values))) e.ordinary (marks_of e choice.values) e.prog.funs 0 0 marked bare

  same_params : (n : ℕ) (f : Fun) → n < e.ordinary → slice_get e.prog.funs n ≡ Some f → (g : Fun) × (slice_get filled.funs n ≡ Some g) × (g.params ≡ f.params)
  unfolding fill
  same_params n f less at = params_stay choice.values (new_number e choice.values) (map minimize_of (all_paid (standing e choice.values))) e.ordinary (marks_of e choice.values) e.prog.funs 0 marked n f less at

  abbrev Known : Obligation → Type 0
  Known = Within e.ordinary (length e.prog.funs)

  all_known : AllWithin e.ordinary (length e.prog.funs) (obligations e.prog)
  all_known = obliged e.ordinary (length e.prog.funs) 0 e.prog.funs (omega arith) (λ k f p at. bare k f (omega (arith, p)) at) (λ k f at. (expanded.funs k f at).keeps.implemented)

  known : (k : ℕ) (o : Obligation) → slice_get (obligations e.prog) k ≡ Some o → Known o
  known k o at = obliged_at e.ordinary (length e.prog.funs) (obligations e.prog) k o all_known at

  named : (o : Obligation) → Known o → ((fun_of o).index < e.ordinary) × ((fun_of o).index < length e.prog.funs)
  named (obligation.Harness f) k = k
  named (obligation.Implements f g) k = (k.0, k.1)

  -- Inputs

  module _ (input : Input) where
    into : IsInput filled bounds input → IsInput e.prog bounds input
    into x =
        let o = x.obligation in
        let at : slice_get (obligations e.prog) input.obligation ≡ Some o = subst (λ os. slice_get os input.obligation ≡ Some o) same_obligations x.is_obligation in
        let n = named o (known input.obligation o at) in
        let f = some_at e.prog.funs (fun_of o).index n.1 in
        let g = same_params (fun_of o).index f.0 n.0 f.1 in
        let same : x.fun.params ≡ f.0.params = ap (λ (f : Fun). f.params) (get_same (slice_get filled.funs (fun_of o).index) x.fun g.0 x.is_fun g.1) ∙ g.2 in
        record { obligation = o; fun = f.0; is_obligation = at; is_fun = f.1; args = subst (λ ps. IsTrue (args_in_range bounds.inbits ps input.args)) same x.args }

    out : IsInput e.prog bounds input → IsInput filled bounds input
    out x =
        let o = x.obligation in
        let n = named o (known input.obligation o x.is_obligation) in
        let g = same_params (fun_of o).index x.fun n.0 x.is_fun in
        record {
          obligation = o;
          fun = g.0;
          is_obligation = subst (λ os. slice_get os input.obligation ≡ Some o) (sym same_obligations) x.is_obligation;
          is_fun = g.1;
          args = subst (λ ps. IsTrue (args_in_range bounds.inbits ps input.args)) (sym g.2) x.args;
        }

  -- Runs

  module _ (args : List Value) where
    runs : (f : FunId) → f.index < e.ordinary → run_open e choice f args bounds ≡ run filled f args bounds
    runs f less = ordinary_runs bounds prog choice f args h less (omega (arith, less, enough))

    under : (o : Option Obligation) → ((x : Obligation) → o ≡ Some x → Known x) → IsBroken filled bounds args o → IsBrokenUnder e choice bounds args o
    under None k b = b
    under (Some (obligation.Harness f)) k b = subst HasFailed (sym (runs f (k (obligation.Harness f) refl).0)) b
    under (Some (obligation.Implements f g)) k b =
        let w = k (obligation.Implements f g) refl in
        subst (λ x. SpeaksAgainst x (run_open e choice f args bounds)) (sym (runs g w.2)) (subst (λ x. SpeaksAgainst (run filled g args bounds) x) (sym (runs f w.0)) b)

    over : (o : Option Obligation) → ((x : Obligation) → o ≡ Some x → Known x) → IsBrokenUnder e choice bounds args o → IsBroken filled bounds args o
    over None k b = b
    over (Some (obligation.Harness f)) k b = subst HasFailed (runs f (k (obligation.Harness f) refl).0) b
    over (Some (obligation.Implements f g)) k b =
        let w = k (obligation.Implements f g) refl in
        subst (λ x. SpeaksAgainst x (run filled f args bounds)) (runs g w.2) (subst (λ x. SpeaksAgainst (run_open e choice g args bounds) x) (runs f w.0) b)

    same_cost : (o : Option Obligation) → ((x : Obligation) → o ≡ Some x → Known x) → cost_of_obligation filled bounds args o ≡ cost_of_obligation_under e choice bounds args o
    same_cost None k = refl
    same_cost (Some (obligation.Harness f)) k = ap cost_of (sym (runs f (k (obligation.Harness f) refl).0))
    same_cost (Some (obligation.Implements f g)) k = refl

  same_breaks : (input : Input) → (Breaks filled bounds input → BreaksUnder e choice bounds input) × (BreaksUnder e choice bounds input → Breaks filled bounds input)
  unfolding Breaks
  same_breaks input =
      let o = slice_get (obligations e.prog) input.obligation in (
        λ b. under input.args o (known input.obligation) (subst (λ os. IsBroken filled bounds input.args (slice_get os input.obligation)) same_obligations b),
        λ b. subst (λ os. IsBroken filled bounds input.args (slice_get os input.obligation)) (sym same_obligations) (over input.args o (known input.obligation) b),
      )

  same_costs : (input : Input) → cost_on filled bounds input ≡ cost_under e choice bounds input
  unfolding cost_on
  same_costs input =
      ap (λ os. cost_of_obligation filled bounds input.args (slice_get os input.obligation)) same_obligations
      ∙ same_cost input.args (slice_get (obligations e.prog) input.obligation) (known input.obligation)

pub choices_meet : ChoicesMeetAsFillings
choices_meet bounds prog choice h = record {
  obligations = same_obligations bounds prog choice h;
  inputs = λ input. (into bounds prog choice h input, out bounds prog choice h input);
  breaks = same_breaks bounds prog choice h;
  costs = same_costs bounds prog choice h;
}
