-- A node that says what one of another graph says.
use Rattle.std.proofs.Common.{◌≡◌, ℕ, List, [], ◌∷◌, slice_get, Option, Some, refl, sym, ◌∙◌}
use Rattle.sk_base.specs.declared.bounds.Bounds.{Bounds}
use Rattle.sk_dag.specs.declared.env.Env.{Env}
use Rattle.sk_dag.specs.declared.node.BoolId.{BoolId}
use Rattle.sk_dag.specs.Graph.{Graph, Grows, HasBool}
use Rattle.sk_dag.specs.Eval.{bool_value}
use Rattle.sk_dag.proofs.EvalLemmas.{Grows-refl}
use Rattle.sk_arr.proofs.Makers.{Keeps-refl}
use Rattle.sk_simplify.specs.Reduct.{KeepsRoots}
use Rattle.sk_model.specs.declared.expanded.Expanded.{Expanded}
use Rattle.sk_model.specs.declared.expanded.Input.{Input}
use Rattle.sk_oblig.specs.Nodes.{SaysFine}
use Rattle.sk_oblig.proofs.Whole.{root_there}

pub moved_value : {old new to : Graph} (root simple r : BoolId) (made : List BoolId) → KeepsRoots old (root ∷ []) new made → slice_get made 0 ≡ Some simple
    → ((g : Graph) → Grows to g → (e : Env) → bool_value g e r ≡ bool_value new e simple)
    → (g : Graph) → Grows to g → (e : Env) → bool_value g e r ≡ bool_value old e root
moved_value {old} {new} {to} root simple r made keeps is same g m e = same g m e ∙ keeps.value 0 root simple refl is new (Grows-refl new) e

pub fine_moved : {d to : Graph} {x : Expanded} {bounds : Bounds} {limit : Option ℕ} {input : Input} (fine r : BoolId) → SaysFine d x bounds limit input fine → HasBool to.nodes r
    → ((g : Graph) → Grows to g → (e : Env) → bool_value g e r ≡ bool_value d e fine) → SaysFine to x bounds limit input r
fine_moved {d} fine r is there same = record {
  there = there;
  value = λ g e m range.
      let both = is.value d e (Grows-refl d) range in
      (λ h. both.0 (sym (same g m e) ∙ h), λ h. same g m e ∙ both.1 h);
}

pub ruleset moving = (root_there, Keeps-refl)
