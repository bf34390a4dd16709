-- What a shape is seen as in an environment, and which shapes a graph can hold.
use Rattle.std.specs.Prelude.{◌≡◌, ℕ, true, List, [], ◌∷◌, Option, Some, None, slice_get, if◌then◌else◌, ⊤, All}
use Rattle.sk_dag.specs.declared.env.Env.{Env}
use Rattle.sk_dag.specs.declared.node.BoolId.{BoolId}
use Rattle.sk_dag.specs.declared.shape.Targets.{Targets}
use Rattle.sk_dag.specs.declared.shape.Shape.{Shape}
use Rattle.sk_dag.specs.declared.shape.Shape.TheOpen.{Shape-F, Bit, Int, Reference, Array}
use Rattle.sk_dag.specs.declared.shape.Shape.TheFolds.{fold-Shape, every-Shape}
use Rattle.sk_dag.specs.declared.shape.Seen.{Seen}
use Rattle.sk_dag.specs.declared.shape.Seen.TheVariants.{Bit as SeenBit, Int as SeenInt, Slot as SeenSlot, Array as SeenArray}
use Rattle.sk_dag.specs.Graph.{Graph, HasBool, HasWord}
use Rattle.sk_dag.specs.Eval.{bool_value, word_value}

-- the slot of the first target that holds: that of the one that does, where no two hold at once
abbrev pub held_slot : Graph → Env → List (ℕ × BoolId) → Option ℕ
held_slot g e [] = None
held_slot g e (target ∷ targets) = if bool_value g e target.1 then Some target.0 else held_slot g e targets

abbrev pub seen_step : Graph → Env → Shape-F Seen → Seen
seen_step g e (Bit a) = SeenBit (bool_value g e a)
seen_step g e (Int a) = SeenInt (word_value g e a)
seen_step g e (Reference targets) = SeenSlot (held_slot g e targets.slots.items)
seen_step g e (Array seen) = SeenArray seen

-- what the shape is in the environment: each bit and integer by its value, each reference by its target that holds
abbrev pub shape_value : Graph → Env → Shape → Seen
shape_value g e = fold-Shape Seen (seen_step g e)

-- the guards of the targets are in the graph
abbrev pub TargetsIn : Graph → Targets → Type 0
TargetsIn g targets = All (λ target. HasBool g.nodes target.1) targets.slots.items

abbrev pub PartIn : Graph → Shape-F Shape → Type 0
PartIn g (Bit a) = HasBool g.nodes a
PartIn g (Int a) = HasWord g.nodes a
PartIn g (Reference targets) = TargetsIn g targets
PartIn g (Array parts) = ⊤

-- each number in the shape is that of a node of its sort
abbrev pub ShapeIn : Graph → Shape → Type 0
ShapeIn g = every-Shape (PartIn g)

-- under no environment do two targets of the reference hold
abbrev pub TargetsExclusive : Graph → Targets → Type 0
TargetsExclusive g targets =
    (e : Env) (i j : ℕ) (s t : ℕ × BoolId) →
    slice_get targets.slots.items i ≡ Some s →
    slice_get targets.slots.items j ≡ Some t →
    bool_value g e s.1 ≡ true →
    bool_value g e t.1 ≡ true →
    i ≡ j

abbrev pub PartExclusive : Graph → Shape-F Shape → Type 0
PartExclusive g (Bit a) = ⊤
PartExclusive g (Int a) = ⊤
PartExclusive g (Reference targets) = TargetsExclusive g targets
PartExclusive g (Array parts) = ⊤

-- and so for each reference in the shape
abbrev pub ShapeExclusive : Graph → Shape → Type 0
ShapeExclusive g = every-Shape (PartExclusive g)
