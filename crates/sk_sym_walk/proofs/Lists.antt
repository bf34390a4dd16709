-- Expressions from left to right.
use Rattle.std.proofs.Common.{◌≡◌, ℕ, ◌+◌, List, [], ◌∷◌, ◌++◌, map, take, length, get_or, Option, refl, sym, ap, ◌∙◌, ◌<◌, arith}
use Rattle.std.proofs.lemmas.List.{take_more}
use Rattle.sk_base.specs.declared.span.Span.{Span}
use Rattle.sk_dag.specs.declared.env.Env.{Env}
use Rattle.sk_dag.specs.declared.shape.Shape.{Shape}
use Rattle.sk_dag.specs.declared.shape.Shape.TheVariants as shape
use Rattle.sk_dag.specs.Graph.{Graph}
use Rattle.sk_prog.specs.declared.ty.Ty.{Ty}
use Rattle.sk_prog.specs.declared.value.Value.{Value}
use Rattle.sk_prog.specs.declared.value.Value.TheVariants as value
use Rattle.sk_prog.specs.declared.expr.PExpr.{PExpr}
use Rattle.sk_model.specs.Parts.{counts, in_turn}
use Rattle.sk_model.specs.Step.{State, Step, Goes, Fails, Skips, and_then, ◌>>=◌, pure}
use Rattle.sk_model.specs.Eval.{in_order, padded_at}
use Rattle.sk_sym_state.specs.declared.state.SymState.{SymState}
use Rattle.sk_sym_state.specs.Stands.{StateStands}
use Rattle.sk_sym_state.specs.Seen.{IsWorth}
use Rattle.sk_sym_state.proofs.Following.{does_on}
use Rattle.sk_sym_state.proofs.Ends.{does_same}
use Rattle.sk_sym_forms.specs.Steps.{EvaluatesOn}
use Rattle.sk_sym_forms.proofs.Lists.{none_evaluate, more_evaluate, array_evaluates, in_order_push}
use Rattle.sk_sym_walk.specs.declared.activation.Activation.{Activation}
use Rattle.sk_sym_walk.specs.Walk.{expr_part, eval_part}
use Rattle.sk_sym_walk.specs.Parts.{list_part, braces_part, IsEvaluated, AreEvaluated}
use Rattle.sk_sym_walk.proofs.Layers.{counts_push, turn_push, map_push}

pub list_none : {a : Activation} {d : Graph} {s : SymState} {i : ℕ} (span : Span) → StateStands d a.setting.expanded.now.prog s → AreEvaluated a d d s s i i (list_part a span []) []
list_none span h = record { evaluate = none_evaluate h; place = record { place = λ e. omega arith } }

module _ (a : Activation) (span : Span) (list : List PExpr) (n : ℕ) (x : PExpr) (l : n < length list) (is : x ≡ get_or list n x) where
  more : take (n + 1) list ≡ take n list ++ x ∷ []
  more = take_more list n x l ∙ ap (λ y. take n list ++ y ∷ []) (sym is)

  more_count : (e : Env) → (list_part a span (take (n + 1) list) e).count ≡ (list_part a span (take n list) e).count + (eval_part a span x e).count
  more_count e = ap (λ xs. counts (map (λ y. expr_part a y e) xs)) more ∙ ap counts (map_push (λ y. expr_part a y e) (take n list) x) ∙ counts_push (map (λ y. expr_part a y e) (take n list)) (expr_part a x e)

  more_at : (e : Env) (i : ℕ) (s : State) → (list_part a span (take (n + 1) list) e).at i s ≡ and_then ((list_part a span (take n list) e).at i s) (λ vs. (eval_part a span x e).at (i + (list_part a span (take n list) e).count) >>= (λ v. pure (vs ++ v ∷ [])))
  more_at e i s =
      ap (λ xs. in_order span (in_turn (map (λ y. expr_part a y e) xs) i) s) more
      ∙ ap (λ ps. in_order span (in_turn ps i) s) (map_push (λ y. expr_part a y e) (take n list) x)
      ∙ ap (λ ms. in_order span ms s) (turn_push (map (λ y. expr_part a y e) (take n list)) (expr_part a x e) i)
      ∙ in_order_push span (in_turn (map (λ y. expr_part a y e) (take n list)) i) ((expr_part a x e).at (i + counts (map (λ y. expr_part a y e) (take n list)))) s

  pub list_more : {d0 d1 d2 : Graph} {s0 s1 s2 : SymState} {i j k : ℕ} {made : List Shape} {r : Shape} → AreEvaluated a d0 d1 s0 s1 i j (list_part a span (take n list)) made → IsEvaluated a d1 d2 s1 s2 j k (eval_part a span x) r → AreEvaluated a d0 d2 s0 s2 i k (list_part a span (take (n + 1) list)) (made ++ r ∷ [])
  list_more {i = i} first next =
      let both = more_evaluate first.evaluate next.evaluates in
      record {
        evaluate = record {
          does = does_same (λ e s. more_at e i s ∙ ap (λ m. and_then ((list_part a span (take n list) e).at i s) (λ vs. (eval_part a span x e).at m >>= (λ v. pure (vs ++ v ∷ [])))) (sym (first.place.place e))) both.does;
          there = both.there;
        };
        place = record { place = λ e. omega (arith, first.place.place e, next.place.place e, more_count e) };
      }

-- an array of them, at a type
pub braces_evaluated : {a : Activation} {d0 d1 d2 : Graph} {s0 s1 s2 : SymState} {i j : ℕ} {made : List Shape} {r : Shape} (span : Span) (t : Option Ty) (xs : List PExpr) → AreEvaluated a d0 d1 s0 s1 i j (list_part a span xs) made → EvaluatesOn a.setting d1 d2 s1 s2 (λ g e. IsWorth g e s1.heap (shape.Array made)) r (λ e v. pure (padded_at t v)) → IsEvaluated a d0 d2 s0 s2 i j (braces_part a span t xs) r
braces_evaluated {a} {i = i} span t xs all next = record {
  evaluates = record { does = does_same (λ e s. by ((list_part a span xs e).at i s)) (does_on (array_evaluates all.evaluate).does next.does); there = next.there };
  place = record { place = all.place.place };
}
  where
    by : (u : Step (List Value)) → and_then u (λ vs. pure (padded_at t (value.Array vs))) ≡ and_then (and_then u (λ vs. pure (value.Array vs))) (λ v. pure (padded_at t v))
    by (Goes vs s) = refl
    by (Fails span) = refl
    by (Skips span) = refl
