-- Values of which one part is another one, over nodes.
use Rattle.std.specs.Prelude.{◌≡◌, ℕ, Bool, true, false, not, List, ◌∷◌, length, map, Some, None, if◌then◌else◌}
use Rattle.sk_dag.specs.declared.env.Env.{Env}
use Rattle.sk_dag.specs.declared.node.BoolId.{BoolId}
use Rattle.sk_dag.specs.declared.node.WordId.{WordId}
use Rattle.sk_dag.specs.declared.shape.Shape.{Shape}
use Rattle.sk_dag.specs.declared.shape.Shape.TheVariants as shape
use Rattle.sk_dag.specs.Graph.{Graph, Grows, HasBool}
use Rattle.sk_dag.specs.Eval.{bool_value, word_value}
use Rattle.sk_dag.specs.EvalShape.{shape_value}
use Rattle.sk_arr.specs.Shapes.{blank, Alike, Stands, AllStand, SlotsPass, AllSlotsPass}
use Rattle.sk_arr.specs.Places.{is_within, replaced_at}
use Rattle.sk_arr.specs.Answers.{shapes_value, IsCopy}
use Rattle.sk_model.specs.Values.{replaced}
use Rattle.sk_heap_laws.specs.Values.{IsLive}
use Rattle.sk_sym_operators.specs.Worth.{worth}

-- The shape is the whole with the part that the indexes name replaced, and a node holds where an index leaves its array.
-- It is of the form of the whole, names only slots that the two name, and is live where they are and no index leaves
-- its array.
pub record IsReplaced (g : Graph) (indexes : List WordId) (whole part r : Shape) (fails : BoolId) : Type 0 where
  pub stands : Stands g r
  pub there : HasBool g.nodes fails
  pub alike : Alike r whole
  pub named : (test : ℕ → Bool) → SlotsPass test whole → SlotsPass test part → SlotsPass test r
  pub live : (h : Graph) → Grows g h → (e : Env) (holds : ℕ → Bool) → IsLive holds (shape_value h e whole) → IsLive holds (shape_value h e part) → bool_value h e fails ≡ false → IsLive holds (shape_value h e r)
  pub value : (h : Graph) → Grows g h → (e : Env) (holds : ℕ → Bool) → replaced (map (word_value h e) indexes) (worth holds h e whole) (worth holds h e part) ≡ (if bool_value h e fails then None else Some (worth holds h e r))

-- the whole once more, and a node that always holds
pub record IsUnchanged (g : Graph) (whole r : Shape) (fails : BoolId) : Type 0 where
  pub copy : IsCopy g whole r
  pub there : HasBool g.nodes fails
  pub always : (h : Graph) → Grows g h → (e : Env) → bool_value h e fails ≡ true

-- the array with the element replaced that an index names, and whether it leaves the range; where it does, the array as it
-- is
pub record HasElement (g : Graph) (list : List Shape) (index : WordId) (value r : Shape) (outside : BoolId) : Type 0 where
  pub there : HasBool g.nodes outside
  pub left : (h : Graph) → Grows g h → (e : Env) → bool_value h e outside ≡ not (is_within (length list) (word_value h e index))
  pub parts : List Shape
  pub whole : r ≡ shape.Array parts
  pub stand : AllStand g parts
  pub alike : map blank parts ≡ map blank list
  pub named : (test : ℕ → Bool) → AllSlotsPass test list → SlotsPass test value → AllSlotsPass test parts
  pub written : (h : Graph) → Grows g h → (e : Env) → shapes_value h e parts ≡ replaced_at (shapes_value h e list) (word_value h e index) (shape_value h e value)

-- this is the first index of a list, and what follows it
pub record IsFirstIndex (indexes : List WordId) (index : WordId) (more : List WordId) : Type 0 where
  pub front : indexes ≡ index ∷ more
