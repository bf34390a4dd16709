-- Lists of bits as numbers, bit 0 first: what sums and shifts of them answer. Bits name no slot.
use Rattle.std.specs.Prelude.{◌≡◌, ℕ, suc, pos, int_lt, Bool, false, not, ◌&&◌, ◌||◌, List, [], ◌∷◌, ◌++◌, length, reverse, All, map, if◌then◌else◌}
use Rattle.sk_model.specs.Operators.{sum_of, moved_up, moved_down}
use Rattle.sk_dag.specs.declared.env.Env.{Env}
use Rattle.sk_dag.specs.declared.node.BoolId.{BoolId}
use Rattle.sk_dag.specs.declared.node.WordId.{WordId}
use Rattle.sk_dag.specs.declared.shape.Shape.{Shape}
use Rattle.sk_dag.specs.declared.shape.Seen.{Seen}
use Rattle.sk_dag.specs.declared.shape.Seen.TheVariants.{Bit as SeenBit}
use Rattle.sk_dag.specs.Graph.{Graph, Grows, HasBool}
use Rattle.sk_dag.specs.Eval.{bool_value, word_value}
use Rattle.sk_dag.specs.EvalShape.{shape_value}
use Rattle.sk_arr.specs.Forms.{IsBit}
use Rattle.sk_arr.specs.Shapes.{AllStand}
use Rattle.sk_arr.specs.Answers.{shapes_value}

-- what bits are seen as
abbrev pub seen_bits : List Bool → List Seen
seen_bits = map (λ b. SeenBit b)

-- each of these is a bit
pub record AreBits (list : List Shape) : Type 0 where
  pub each : All IsBit list

-- ---- sums

abbrev pub xor : Bool → Bool → Bool
xor a b = if a then not b else b

-- what two bits and a carry to them carry on
abbrev pub carried : Bool → Bool → Bool → Bool
carried a b c = (a && b) || (xor a b && c)

-- one bit of a sum, and what is carried on
pub record IsAddedBit (g : Graph) (a b : Shape) (carry sum next : BoolId) : Type 0 where
  pub sum_there : HasBool g.nodes sum
  pub next_there : HasBool g.nodes next
  pub sum_value : (h : Graph) → Grows g h → (e : Env) (x y : Bool) → shape_value h e a ≡ SeenBit x → shape_value h e b ≡ SeenBit y → bool_value h e sum ≡ xor (xor x y) (bool_value h e carry)
  pub next_value : (h : Graph) → Grows g h → (e : Env) (x y : Bool) → shape_value h e a ≡ SeenBit x → shape_value h e b ≡ SeenBit y → bool_value h e next ≡ carried x y (bool_value h e carry)

-- the sum of two numbers, modulo 2 to their length
pub record IsSum (g : Graph) (a b made : List Shape) : Type 0 where
  pub stand : AllStand g made
  pub bits : AreBits made
  pub long : length made ≡ length a
  pub value : (h : Graph) → Grows g h → (e : Env) (xs ys : List Bool) → shapes_value h e a ≡ seen_bits xs → shapes_value h e b ≡ seen_bits ys → shapes_value h e made ≡ seen_bits (sum_of xs ys)

-- ---- shifts

-- these from the last to the first where they are to be turned
abbrev pub ordered : {A : Type 0} → Bool → List A → List A
ordered turn xs = if turn then reverse xs else xs

-- the bits in the order in which they move to lower places, and behind them one that is false
pub record IsRow (g : Graph) (left : Bool) (a row : List Shape) : Type 0 where
  pub stand : AllStand g row
  pub bits : AreBits row
  pub long : length row ≡ suc (length a)
  pub value : (h : Graph) → Grows g h → (e : Env) → shapes_value h e row ≡ ordered left (shapes_value h e a) ++ SeenBit false ∷ []

-- the bits of a row, but for the last, moved to lower places
pub record IsMoved (g : Graph) (row : List Shape) (by : WordId) (made : List Shape) : Type 0 where
  pub stand : AllStand g made
  pub bits : AreBits made
  pub long : suc (length made) ≡ length row
  pub value : (h : Graph) → Grows g h → (e : Env) (n : ℕ) (xs : List Bool) → word_value h e by ≡ pos n → shapes_value h e row ≡ seen_bits (xs ++ false ∷ []) → shapes_value h e made ≡ seen_bits (moved_down n xs)

-- the bits moved to higher places, or to lower ones, by a count that is not negative, and whether it is
pub record IsShifted (g : Graph) (left : Bool) (a : List Shape) (by : WordId) (made : List Shape) (outside : BoolId) : Type 0 where
  pub stand : AllStand g made
  pub there : HasBool g.nodes outside
  pub bits : AreBits made
  pub long : length made ≡ length a
  pub negative : (h : Graph) → Grows g h → (e : Env) → bool_value h e outside ≡ int_lt (word_value h e by) (pos 0)
  pub value : (h : Graph) → Grows g h → (e : Env) (n : ℕ) (xs : List Bool) → word_value h e by ≡ pos n → shapes_value h e a ≡ seen_bits xs → shapes_value h e made ≡ seen_bits (if left then moved_up n xs else moved_down n xs)
