-- What the calls answer. Each record says what the answer is worth in every graph that the graph of the answer grows
-- to, in every environment; that it may be handed in again; of which form it is; and that each slot that it names is
-- named in an argument.
use Rattle.std.specs.Prelude.{◌≡◌, ◌++◌, ◌-◌, replicate, ℕ, Bool, true, false, not, List, length, map, Some, if◌then◌else◌, ◌↔◌}
use Rattle.sk_dag.specs.declared.env.Env.{Env}
use Rattle.sk_dag.specs.declared.node.BoolId.{BoolId}
use Rattle.sk_dag.specs.declared.node.WordId.{WordId}
use Rattle.sk_dag.specs.declared.shape.Shape.{Shape}
use Rattle.sk_dag.specs.declared.shape.Seen.{Seen}
use Rattle.sk_dag.specs.Graph.{Graph, Grows, HasBool}
use Rattle.sk_dag.specs.Eval.{bool_value, word_value}
use Rattle.sk_dag.specs.EvalShape.{shape_value}
use Rattle.sk_arr.specs.Shapes.{blank, Alike, AlikeTo, EachAlikeTo, Stands, AllStand, SlotsPass, AllSlotsPass}
use Rattle.sk_arr.specs.Places.{is_within, element_of, replaced_at, is_slice_within, slice_of}

-- what the shapes are in an environment
abbrev pub shapes_value : Graph → Env → List Shape → List Seen
shapes_value g e = map (shape_value g e)

-- r is a once more
pub record IsCopy (g : Graph) (a r : Shape) : Type 0 where
  pub stands : Stands g r
  pub alike : Alike r a
  pub named : (test : ℕ → Bool) → SlotsPass test a → SlotsPass test r
  pub value : (h : Graph) (e : Env) → shape_value h e r ≡ shape_value h e a

-- one by one
pub record AreCopies (g : Graph) (list made : List Shape) : Type 0 where
  pub stands : AllStand g made
  pub alike : map blank made ≡ map blank list
  pub named : (test : ℕ → Bool) → AllSlotsPass test list → AllSlotsPass test made
  pub value : (h : Graph) (e : Env) → shapes_value h e made ≡ shapes_value h e list

-- r is a where c holds, and else b
pub record IsChoice (g : Graph) (c : BoolId) (a b r : Shape) : Type 0 where
  pub stands : Stands g r
  pub alike : Alike r a
  pub named : (test : ℕ → Bool) → SlotsPass test a → SlotsPass test b → SlotsPass test r
  pub value : (h : Graph) → Grows g h → (e : Env) → shape_value h e r ≡ (if bool_value h e c then shape_value h e a else shape_value h e b)

-- one by one
pub record AreChoices (g : Graph) (c : BoolId) (list others made : List Shape) : Type 0 where
  pub stands : AllStand g made
  pub alike : map blank made ≡ map blank list
  pub named : (test : ℕ → Bool) → AllSlotsPass test list → AllSlotsPass test others → AllSlotsPass test made
  pub value : (h : Graph) → Grows g h → (e : Env) → shapes_value h e made ≡ (if bool_value h e c then shapes_value h e list else shapes_value h e others)

-- r holds exactly where the two are equal: bits and integers by their values, references where they are the same slot
-- or both null, arrays where their elements are equal one by one
pub record IsEquality (g : Graph) (a b : Shape) (r : BoolId) : Type 0 where
  pub there : HasBool g.nodes r
  pub value : (h : Graph) → Grows g h → (e : Env) → (bool_value h e r ≡ true) ↔ (shape_value h e a ≡ shape_value h e b)

-- r holds exactly where all of these are equal one by one
pub record AreEqual (g : Graph) (list others : List Shape) (r : BoolId) : Type 0 where
  pub there : HasBool g.nodes r
  pub value : (h : Graph) → Grows g h → (e : Env) → (bool_value h e r ≡ true) ↔ (shapes_value h e list ≡ shapes_value h e others)

-- what a read by an index answers: a shape, and whether the index leaves the range. Where it does not, the shape is the
-- element that the index names; where it does, the shape is left open, but it is alike to the elements all the same.
pub record IsRead (g : Graph) (list : List Shape) (index : WordId) (r : Shape) (outside : BoolId) : Type 0 where
  pub stands : Stands g r
  pub there : HasBool g.nodes outside
  pub alike : AlikeTo r list
  pub named : (test : ℕ → Bool) → AllSlotsPass test list → SlotsPass test r
  pub left : (h : Graph) → Grows g h → (e : Env) → bool_value h e outside ≡ not (is_within (length list) (word_value h e index))
  pub value : (h : Graph) → Grows g h → (e : Env) → bool_value h e outside ≡ false → element_of (shapes_value h e list) (word_value h e index) ≡ Some (shape_value h e r)

-- what a write by an index under a guard answers: the list with the value in the place of the element that the index
-- names, and the old list where the guard is false or the index leaves the range; and whether it does, whatever the
-- guard is
pub record IsWritten (g : Graph) (guard : BoolId) (list : List Shape) (index : WordId) (value : Shape) (made : List Shape) (outside : BoolId) : Type 0 where
  pub stand : AllStand g made
  pub there : HasBool g.nodes outside
  pub alike : map blank made ≡ map blank list
  pub named : (test : ℕ → Bool) → AllSlotsPass test list → SlotsPass test value → AllSlotsPass test made
  pub left : (h : Graph) → Grows g h → (e : Env) → bool_value h e outside ≡ not (is_within (length list) (word_value h e index))
  pub written : (h : Graph) → Grows g h → (e : Env) → shapes_value h e made ≡ (if bool_value h e guard then replaced_at (shapes_value h e list) (word_value h e index) (shape_value h e value) else shapes_value h e list)

-- what a slice by an index answers: so many shapes, each alike to the elements, and whether it leaves the range. Where it
-- does not, they are the elements from the index on.
pub record IsSliced (g : Graph) (list : List Shape) (from : WordId) (count : ℕ) (made : List Shape) (outside : BoolId) : Type 0 where
  pub stand : AllStand g made
  pub there : HasBool g.nodes outside
  pub alike : EachAlikeTo made list
  pub long : length made ≡ count
  pub named : (test : ℕ → Bool) → AllSlotsPass test list → AllSlotsPass test made
  pub left : (h : Graph) → Grows g h → (e : Env) → bool_value h e outside ≡ not (is_slice_within (length list) count (word_value h e from))
  pub value : (h : Graph) → Grows g h → (e : Env) → bool_value h e outside ≡ false → slice_of (shapes_value h e list) (word_value h e from) count ≡ Some (shapes_value h e made)

-- the list, and then a shape as often as is wanting to so many
pub record IsPadded (g : Graph) (list : List Shape) (zero : Shape) (count : ℕ) (made : List Shape) : Type 0 where
  pub stand : AllStand g made
  pub alike : AlikeTo zero made
  pub named : (test : ℕ → Bool) → AllSlotsPass test list → SlotsPass test zero → AllSlotsPass test made
  pub value : (h : Graph) (e : Env) → shapes_value h e made ≡ shapes_value h e list ++ replicate (count - length list) (shape_value h e zero)
