-- Expressions one after another.
use Rattle.std.specs.Prelude.{List}
use Rattle.sk_dag.specs.declared.env.Env.{Env}
use Rattle.sk_dag.specs.declared.shape.Shape.{Shape}
use Rattle.sk_dag.specs.Graph.{Graph}
use Rattle.sk_arr.specs.Shapes.{AllStand}
use Rattle.sk_prog.specs.declared.value.Value.{Value}
use Rattle.sk_model.specs.Step.{Comp}
use Rattle.sk_sym_state.specs.declared.setting.Setting.{Setting}
use Rattle.sk_sym_state.specs.declared.state.SymState.{SymState}
use Rattle.sk_sym_state.specs.Seen.{AreWorth}
use Rattle.sk_sym_state.specs.Meaning.{Does}

-- shapes that are worth the values of expressions, one by one
pub record EvaluateAll (x : Setting) (d0 d1 : Graph) (s0 s1 : SymState) (list : List Shape) (m : Env → Comp (List Value)) : Type 0 where
  pub does : Does x d0 d1 s0 s1 (λ g e. AreWorth g e s1.heap list) m
  pub there : AllStand d1 list
