-- What shapes are worth where slots have places, and what an answer with a flag for failure is as a run.
use Rattle.std.specs.Prelude.{ℕ, Bool, List, map, if◌then◌else◌}
use Rattle.sk_base.specs.declared.span.Span.{Span}
use Rattle.sk_dag.specs.declared.env.Env.{Env}
use Rattle.sk_dag.specs.declared.shape.Shape.{Shape}
use Rattle.sk_dag.specs.Graph.{Graph}
use Rattle.sk_dag.specs.EvalShape.{shape_value}
use Rattle.sk_prog.specs.declared.value.Value.{Value}
use Rattle.sk_model.specs.Step.{Comp, pure, fail}
use Rattle.sk_model.specs.Operators.{bit}
use Rattle.sk_heap_laws.specs.Values.{place_of, value_of}

-- the value of a shape where these slots hold. Where they are those of a heap, it is `value_in` of the heap.
abbrev pub worth : (ℕ → Bool) → Graph → Env → Shape → Value
worth holds h e s = value_of (place_of holds) (shape_value h e s)

-- it fails where the flag is set, and else goes on with the value
abbrev pub answered : Span → Bool → Value → Comp Value
answered span fails v = if fails then fail span else pure v

-- the bits that shapes of bits are
abbrev pub bits_in : Graph → Env → List Shape → List Bool
bits_in h e list = map (λ s. bit (value_of (λ n. 0) (shape_value h e s))) list
