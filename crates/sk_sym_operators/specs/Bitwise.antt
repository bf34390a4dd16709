-- Bits of two lists by an operator, one by one, and the bits of a list negated.
use Rattle.std.specs.Prelude.{◌≡◌, Bool, true, false, not, ◌&&◌, ◌||◌, List, map}
use Rattle.sk_dag.specs.declared.env.Env.{Env}
use Rattle.sk_dag.specs.declared.node.BoolId.{BoolId}
use Rattle.sk_dag.specs.declared.shape.Shape.{Shape}
use Rattle.sk_dag.specs.declared.shape.Seen.TheVariants.{Bit as SeenBit}
use Rattle.sk_dag.specs.Graph.{Graph, Grows, HasBool}
use Rattle.sk_dag.specs.Eval.{bool_value}
use Rattle.sk_dag.specs.EvalShape.{shape_value}
use Rattle.sk_arr.specs.Shapes.{AllStand}
use Rattle.sk_arr.specs.Answers.{shapes_value}
use Rattle.sk_arr.specs.Bits.{seen_bits, AreBits}
use Rattle.sk_prog.specs.declared.expr.BinOp.{BinOp}
use Rattle.sk_prog.specs.declared.expr.BinOp.TheVariants as op
use Rattle.sk_model.specs.Operators.{either_bit, pairwise}

-- whether the operator goes bit by bit
abbrev pub is_bitwise : BinOp → Bool
is_bitwise op.And = true
is_bitwise op.Or = true
is_bitwise op.Xor = true
is_bitwise _ = false

-- what it makes of two bits
abbrev pub bitwise : BinOp → Bool → Bool → Bool
bitwise op.And a b = a && b
bitwise op.Or a b = a || b
bitwise op.Xor a b = either_bit a b
bitwise _ a b = false

-- a node that holds as this says of two bits
pub record IsPair (g : Graph) (f : Bool → Bool → Bool) (a b : Shape) (r : BoolId) : Type 0 where
  pub there : HasBool g.nodes r
  pub value : (h : Graph) → Grows g h → (e : Env) (x y : Bool) → shape_value h e a ≡ SeenBit x → shape_value h e b ≡ SeenBit y → bool_value h e r ≡ f x y

-- so of the bits of two lists, one by one
pub record ArePairs (g : Graph) (f : Bool → Bool → Bool) (a b made : List Shape) : Type 0 where
  pub stand : AllStand g made
  pub bits : AreBits made
  pub value : (h : Graph) → Grows g h → (e : Env) (xs ys : List Bool) → shapes_value h e a ≡ seen_bits xs → shapes_value h e b ≡ seen_bits ys → shapes_value h e made ≡ seen_bits (pairwise f xs ys)

-- a node that holds where a bit does not
pub record IsNegation (g : Graph) (a : Shape) (r : BoolId) : Type 0 where
  pub there : HasBool g.nodes r
  pub value : (h : Graph) → Grows g h → (e : Env) (x : Bool) → shape_value h e a ≡ SeenBit x → bool_value h e r ≡ not x

-- so of the bits of a list, one by one
pub record AreNegations (g : Graph) (a made : List Shape) : Type 0 where
  pub stand : AllStand g made
  pub bits : AreBits made
  pub value : (h : Graph) → Grows g h → (e : Env) (xs : List Bool) → shapes_value h e a ≡ seen_bits xs → shapes_value h e made ≡ seen_bits (map not xs)
