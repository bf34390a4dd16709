-- Nodes that hold where no listed input speaks against the choice.
use Rattle.std.proofs.Common.{◌≡◌, ℕ, ◌+◌, ◌<◌, ◌≤◌, Bool, true, false, true≢false, not, ◌&&◌, ◌⊎◌, inl, inr, List, [], ◌∷◌, ◌++◌, length, take, get_or, slice_get, Option, Some, None, ◌↔◌, refl, sym, ap, subst, ◌∙◌, arith}
use Rattle.std.proofs.lemmas.List.{take_more, take_all}
use Rattle.std.proofs.lemmas.List.Elements.{All-nil}
use Rattle.sk_base.specs.declared.bounds.Bounds.{Bounds}
use Rattle.sk_dag.specs.declared.env.Env.{Env}
use Rattle.sk_dag.specs.declared.node.BoolId.{BoolId}
use Rattle.sk_dag.specs.declared.shape.Shape.{Shape}
use Rattle.sk_dag.specs.Graph.{Graph, Grows, HasBool}
use Rattle.sk_dag.specs.Eval.{bool_value, Keeps}
use Rattle.sk_dag.proofs.EvalLemmas.{Keeps-trans}
use Rattle.sk_arr.proofs.Makers.{Keeps-refl}
use Rattle.sk_arr.proofs.Values.{all_push, all_front, all_last}
use Rattle.sk_prog.specs.declared.value.Value.{Value}
use Rattle.sk_model.specs.declared.expanded.Expanded.{Expanded}
use Rattle.sk_model.specs.declared.expanded.Input.{Input}
use Rattle.sk_model.specs.declared.expanded.Obligation.{Obligation}
use Rattle.sk_model.specs.Obligations.{obligations}
use Rattle.sk_oblig_checks.specs.Outcome.{choice_of}
use Rattle.sk_holes_choice_laws.specs.Meeting.{IsBrokenUnder, cost_of_obligation_under}
use Rattle.sk_oblig_queries.specs.Queries.{IsOver}
use Rattle.sk_oblig_checks.specs.Constants.{AreConstant}
use Rattle.sk_oblig_checks.specs.Checks.{IsCheck}
use Rattle.sk_oblig.specs.Nodes.{BadBy, SaysFine, SaysAllFine}
use Rattle.sk_oblig.proofs.Ranges.{both_true}
use Rattle.sk_oblig.proofs.Speaking.{keeps_width}

never_over : (limit : Option ℕ) → IsOver limit 0 → ⊥
never_over None h = h
never_over (Some most) h = absurd (omega (arith, h))

not_true : (x : Bool) (P : Type 0) → (x ≡ true) ↔ P → (not x ≡ true) ↔ (P → ⊥)
not_true true P b = (λ h. absurd (true≢false (sym h)), λ h. absurd (h (b.0 refl)))
not_true false P b = (λ h p. true≢false (sym (b.1 p)), λ h. refl)

module _ {x : Expanded} {bounds : Bounds} {limit : Option ℕ} where
  pub spared : {d0 d1 d2 : Graph} (input : Input) (o : Obligation) (values : List Value) (args slice : List Shape) (bad r : BoolId) → slice_get (obligations x.prog) input.obligation ≡ Some o
      → values ≡ input.args → slice ≡ args → Keeps d0 d1 → Keeps d1 d2 → AreConstant d0 values args → IsCheck d1 x None bounds limit o slice bad
      → HasBool d2.nodes r → ((g : Graph) → Grows d2 g → (e : Env) → bool_value g e r ≡ not (bool_value g e bad))
      → SaysFine d2 x bounds limit input r
  spared {d0} {d1} {d2} input o values args slice bad r at given same k1 k2 constant checks there is =
      let are : AreConstant d0 input.args args = subst (λ (vs : List Value). AreConstant d0 vs args) given constant in
      let check : IsCheck d1 x None bounds limit o args bad = subst (λ (ss : List Shape). IsCheck d1 x None bounds limit o ss bad) same checks in
      record {
        there = there;
        value = λ g e m range.
            let m1 = k2.later g m in
            let says = check.value g e input.args m1 range (are.worth g e (k1.later g m1)) in
            let into = subst (λ q. IsBrokenUnder x (choice_of None e) bounds input.args q ⊎ IsOver limit (cost_of_obligation_under x (choice_of None e) bounds input.args q)) (sym at) in
            let from = subst (λ q. IsBrokenUnder x (choice_of None e) bounds input.args q ⊎ IsOver limit (cost_of_obligation_under x (choice_of None e) bounds input.args q)) at in
            let both = not_true (bool_value g e bad) (BadBy x (choice_of None e) bounds limit input) ((λ h. into (says.0 h)), λ h. says.1 (from h)) in
            (λ h. both.0 (sym (is g m e) ∙ h), λ h. is g m e ∙ both.1 h);
      }

  pub of_none : {d : Graph} (input : Input) (r : BoolId) → slice_get (obligations x.prog) input.obligation ≡ None → HasBool d.nodes r → ((g : Graph) → Grows d g → (e : Env) → bool_value g e r ≡ true) → SaysFine d x bounds limit input r
  of_none input r at there is = record {
    there = there;
    value = λ g e m range. (
      λ h bad. never e (subst (λ q. IsBrokenUnder x (choice_of None e) bounds input.args q ⊎ IsOver limit (cost_of_obligation_under x (choice_of None e) bounds input.args q)) at bad),
      λ h. is g m e,
    );
  }
    where
      never : (e : Env) → ⊥ ⊎ IsOver limit 0 → ⊥
      never e (inl h) = h
      never e (inr h) = never_over limit h

  pub fine_none : {d : Graph} (r : BoolId) → HasBool d.nodes r → ((g : Graph) → Grows d g → (e : Env) → bool_value g e r ≡ true) → SaysAllFine d x bounds limit [] r
  fine_none r there is = record { there = there; value = λ g e m range. (λ h. All-nil (λ input. BadBy x (choice_of None e) bounds limit input → ⊥), λ h. is g m e) }

  pub fine_more : {d0 d1 d2 : Graph} (inputs : List Input) (i : ℕ) (input : Input) (all one next : BoolId) → i < length inputs → input ≡ get_or inputs i input
      → Keeps d0 d1 → Keeps d1 d2 → SaysAllFine d0 x bounds limit (take i inputs) all → SaysFine d1 x bounds limit input one
      → HasBool d2.nodes next → ((g : Graph) → Grows d2 g → (e : Env) → bool_value g e next ≡ (bool_value g e all && bool_value g e one))
      → SaysAllFine d2 x bounds limit (take (i + 1) inputs) next
  fine_more {d0} {d1} {d2} inputs i input all one next l at k1 k2 before last there is =
      let more : take (i + 1) inputs ≡ take i inputs ++ input ∷ [] = take_more inputs i input l ∙ ap (λ q. take i inputs ++ q ∷ []) (sym at) in
      subst (λ (qs : List Input). SaysAllFine d2 x bounds limit qs next) (sym more) (record {
        there = there;
        value = λ g e m range.
            let m1 = k2.later g m in
            let front = before.value g e (k1.later g m1) range in
            let back = last.value g e m1 range in
            let both = both_true (bool_value g e all) (bool_value g e one) in (
              λ h. let p = both.0 (sym (is g m e) ∙ h) in all_push (λ q. BadBy x (choice_of None e) bounds limit q → ⊥) (take i inputs) input (front.0 p.0) (back.0 p.1),
              λ h. is g m e ∙ both.1 (front.1 (all_front (λ q. BadBy x (choice_of None e) bounds limit q → ⊥) (take i inputs) input h), back.1 (all_last (λ q. BadBy x (choice_of None e) bounds limit q → ⊥) (take i inputs) input h)),
            );
      })

  pub fine_all : {d : Graph} (inputs : List Input) (i : ℕ) (r : BoolId) → length inputs ≤ i → SaysAllFine d x bounds limit (take i inputs) r → SaysAllFine d x bounds limit inputs r
  fine_all {d} inputs i r h is = subst (λ (qs : List Input). SaysAllFine d x bounds limit qs r) (take_all i inputs h) is

pub ruleset listed = (fine_none, fine_all, keeps_width, Keeps-refl, Keeps-trans)

pub ruleset sparing = (of_none, keeps_width, Keeps-trans)
