-- What the roots keep over two graphs, and what a node is worth that was written anew.
use Rattle.std.proofs.Common.{◌≡◌, ℕ, ◌<◌, List, All, Some, not, if◌then◌else◌, length, slice_get, refl, sym, ap, subst, ◌∙◌, arith}
use Rattle.std.proofs.lemmas.Option.{same_Some, slice_get_within, slice_get-get_or, get_or_from_slice_get}
use Rattle.std.proofs.lemmas.List.Elements.{All-from_get_or}
use Rattle.sk_dag.specs.declared.env.Env.{Env}
use Rattle.sk_dag.specs.declared.node.BoolId.{BoolId}
use Rattle.sk_dag.specs.declared.node.Node.{Node}
use Rattle.sk_dag.specs.declared.node.Node.TheVariants.{Xor}
use Rattle.sk_dag.specs.Graph.{Graph, Grows, IsWellFormed, HasBool}
use Rattle.sk_dag.specs.Eval.{Makes, Keeps, bool_value, value_of, graph_values}
use Rattle.sk_dag.proofs.EvalLemmas.{Grows-refl, bool_value-grows}
use Rattle.sk_simplify.specs.Reduct.{IsWorth, IsKnown, IsReordered, KeepsRoots}
use Rattle.sk_simplify.proofs.SimpleLemmas.{IsWorth-known}

pub KeepsRoots-refl : (a : Graph) (roots : List BoolId) → All (HasBool a.nodes) roots → KeepsRoots a roots a roots
KeepsRoots-refl a roots all = record {
  length = refl;
  there = there_is;
  value = λ k r m h l g more e.
      let same : r ≡ m = same_Some _ _ (sym h ∙ l) in
      ap (bool_value g e) (sym same) ∙ bool_value-grows more (there_is k r h) e;
}
  where
    there_is : (k : ℕ) (r : BoolId) → slice_get roots k ≡ Some r → HasBool a.nodes r
    there_is k r h = subst (HasBool a.nodes) (get_or_from_slice_get roots k r r h) (all k r (slice_get_within roots k r h))

pub KeepsRoots-trans : {a b c : Graph} {ra rb rc : List BoolId} → KeepsRoots a ra b rb → KeepsRoots b rb c rc → KeepsRoots a ra c rc
KeepsRoots-trans {a} {b} {c} {ra} {rb} {rc} f s = record {
  length = s.length ∙ f.length;
  there = s.there;
  value = λ k r m h l g more e.
      let within : k < length rb = omega (arith, slice_get_within rc k m l, s.length) in
      let d : BoolId = record { index = 0 } in
      let at = slice_get-get_or rb k d within in
      s.value k _ m at l g more e ∙ f.value k r _ h at b (Grows-refl b) e;
}

pub roots_there : {a b : Graph} {ra rb : List BoolId} → KeepsRoots a ra b rb → All (HasBool b.nodes) rb
roots_there {a} {b} {ra} {rb} f =
    let d : BoolId = record { index = 0 } in
    All-from_get_or (HasBool b.nodes) rb d (λ i l. f.there i _ (slice_get-get_or rb i d l))

pub IsWorth-made : {a b : Graph} {node : Node} {i : ℕ} → Makes a b i node → IsWorth b node i
IsWorth-made {a} {b} {node} {i} made = record {
  there = made.sort;
  value = λ g more e. made.value g more e ∙ ap (λ w. value_of w e (graph_values g e) node) (sym made.grows.bits);
}

-- a node that has from now on the value of an exclusive or
pub IsWorth-sum : {a b : Graph} {x y : BoolId} (plain r : BoolId) → IsWellFormed b.bits b.nodes → ((g : Graph) → Grows a g → (e : Env) → bool_value g e plain ≡ (if bool_value g e x then not (bool_value g e y) else bool_value g e y)) → Keeps a b → HasBool b.nodes r → ((g : Graph) → Grows b g → (e : Env) → bool_value g e r ≡ bool_value g e plain) → IsWorth b (Xor x y) r.index
unfolding bool_value value_of
IsWorth-sum {a} {b} {x} {y} plain r wf made keeps there same = IsWorth-known wf order known
  where
    order : IsReordered (Xor x y) (Xor x y)
    order = record {
      sort = refl;
      may = λ w nodes m. m;
      value = λ w e vs. refl;
    }

    known : IsKnown b (Xor x y) r.index
    known = record {
      there = there;
      value = λ g more e. same g more e ∙ made g (keeps.later g more) e;
    }
