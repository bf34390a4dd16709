-- What the loops over the elements of a list have answered so far.
use Rattle.std.specs.Prelude.{◌≡◌, ℕ, ◌+◌, ◌-◌, ◌≤◌, ◌<◌, pos, int_lt, Bool, List, length, take, drop, map, Some, slice_get, ◌&&◌, if◌then◌else◌}
use Rattle.std.specs.Ordering.{int_eq}
use Rattle.sk_dag.specs.declared.env.Env.{Env}
use Rattle.sk_dag.specs.declared.node.BoolId.{BoolId}
use Rattle.sk_dag.specs.declared.node.WordId.{WordId}
use Rattle.sk_dag.specs.declared.shape.Shape.{Shape}
use Rattle.sk_dag.specs.Graph.{Graph, Grows, HasBool}
use Rattle.sk_dag.specs.Eval.{bool_value, word_value}
use Rattle.sk_dag.specs.EvalShape.{shape_value}
use Rattle.sk_arr.specs.Shapes.{blank, Alike, AlikeTo, EachAlikeTo, Stands, AllStand, SlotsPass, AllSlotsPass}
use Rattle.sk_arr.specs.Places.{replaced_at}
use Rattle.sk_arr.specs.Answers.{shapes_value}

-- a node that holds where the index is below this place
pub record IsBefore (g : Graph) (index : WordId) (place : ℕ) (test : BoolId) : Type 0 where
  pub there : HasBool g.nodes test
  pub value : (h : Graph) → Grows g h → (e : Env) → bool_value h e test ≡ int_lt (word_value h e index) (pos place)

-- a shape that is the element which the index names, if that is among so many from `low` on, and the last of these if it
-- is above them
pub record IsReadAmong (g : Graph) (list : List Shape) (index : WordId) (low count : ℕ) (r : Shape) : Type 0 where
  pub stands : Stands g r
  pub alike : AlikeTo r list
  pub named : (test : ℕ → Bool) → AllSlotsPass test list → SlotsPass test r
  pub value : (h : Graph) → Grows g h → (e : Env) (i : ℕ) → low ≤ i → i < low + count → word_value h e index ≡ pos i → slice_get (shapes_value h e list) i ≡ Some (shape_value h e r)
  pub above : (h : Graph) → Grows g h → (e : Env) (i : ℕ) → low + count ≤ i → word_value h e index ≡ pos i → slice_get (shapes_value h e list) (low + count - 1) ≡ Some (shape_value h e r)

-- a shape that is the element which the index names, and the last element if it is above all
pub record IsReadFrom (g : Graph) (list : List Shape) (index : WordId) (r : Shape) : Type 0 where
  pub stands : Stands g r
  pub alike : AlikeTo r list
  pub named : (test : ℕ → Bool) → AllSlotsPass test list → SlotsPass test r
  pub value : (h : Graph) → Grows g h → (e : Env) (i : ℕ) → i < length list → word_value h e index ≡ pos i → slice_get (shapes_value h e list) i ≡ Some (shape_value h e r)
  pub last : (h : Graph) → Grows g h → (e : Env) (i : ℕ) → length list ≤ i → word_value h e index ≡ pos i → slice_get (shapes_value h e list) (length list - 1) ≡ Some (shape_value h e r)

-- the value where the guard holds and the index is this place, and the old shape where not
pub record IsWrittenAt (g : Graph) (guard : BoolId) (index : WordId) (place : ℕ) (value old r : Shape) : Type 0 where
  pub stands : Stands g r
  pub alike : Alike r old
  pub named : (test : ℕ → Bool) → SlotsPass test value → SlotsPass test old → SlotsPass test r
  pub written : (h : Graph) → Grows g h → (e : Env) → shape_value h e r ≡ (if bool_value h e guard && int_eq (word_value h e index) (pos place) then shape_value h e value else shape_value h e old)

-- the list with the value in the place of the element that the index names, where the guard holds
pub record AreWritten (g : Graph) (guard : BoolId) (list : List Shape) (index : WordId) (value : Shape) (made : List Shape) : Type 0 where
  pub stand : AllStand g made
  pub alike : map blank made ≡ map blank list
  pub named : (test : ℕ → Bool) → AllSlotsPass test list → SlotsPass test value → AllSlotsPass test made
  pub written : (h : Graph) → Grows g h → (e : Env) → shapes_value h e made ≡ (if bool_value h e guard then replaced_at (shapes_value h e list) (word_value h e index) (shape_value h e value) else shapes_value h e list)

-- so many elements from the one on that the index names, if that is one of the first `starts`
pub record AreReadFrom (g : Graph) (list : List Shape) (from : WordId) (starts count : ℕ) (made : List Shape) : Type 0 where
  pub stand : AllStand g made
  pub alike : EachAlikeTo made list
  pub long : length made ≡ count
  pub named : (test : ℕ → Bool) → AllSlotsPass test list → AllSlotsPass test made
  pub value : (h : Graph) → Grows g h → (e : Env) (i : ℕ) → i < starts → word_value h e from ≡ pos i → shapes_value h e made ≡ take count (drop i (shapes_value h e list))
