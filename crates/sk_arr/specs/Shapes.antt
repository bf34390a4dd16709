-- Which shapes are alike, which may be handed in and are answered, and which slots a shape names.
use Rattle.std.specs.Prelude.{◌≡◌, ℕ, pos, false, Bool, List, None, All, IsTrue, ⊤}
use Rattle.sk_dag.specs.declared.shape.Shape.{Shape}
use Rattle.sk_dag.specs.declared.shape.Shape.TheOpen.{Shape-F, Bit, Int, Reference, Array}
use Rattle.sk_dag.specs.declared.shape.Shape.TheFolds.{fold-Shape, every-Shape}
use Rattle.sk_dag.specs.declared.shape.Seen.{Seen}
use Rattle.sk_dag.specs.declared.shape.Seen.TheVariants.{Bit as SeenBit, Int as SeenInt, Slot as SeenSlot, Array as SeenArray}
use Rattle.sk_dag.specs.Graph.{Graph}
use Rattle.sk_dag.specs.EvalShape.{PartIn, PartExclusive}

abbrev pub blank_step : Shape-F Seen → Seen
blank_step (Bit a) = SeenBit false
blank_step (Int a) = SeenInt (pos 0)
blank_step (Reference targets) = SeenSlot None
blank_step (Array seen) = SeenArray seen

-- the form of a shape: what it is where each bit and each integer is 0 and each reference is null
abbrev pub blank : Shape → Seen
blank = fold-Shape Seen blank_step

-- Two shapes are alike where both are bits, both integers, both references, whatever their targets, or both
-- arrays of equally many elements that are alike one by one: where they have one form.
abbrev pub Alike : Shape → Shape → Type 0
Alike a b = blank a ≡ blank b

-- each of these is alike to the shape
pub record AlikeTo (a : Shape) (list : List Shape) : Type 0 where
  pub each : All (Alike a) list

-- each of the first is alike to each of the second
pub record EachAlikeTo (made list : List Shape) : Type 0 where
  pub each : All (λ a. AlikeTo a list) made

-- each of these is alike to each
pub record AllAlike (list : List Shape) : Type 0 where
  pub each : All (λ a. AlikeTo a list) list

-- the numbers of a part are those of nodes of their sorts, and under no environment do two of its targets hold
pub record PartStands (g : Graph) (part : Shape-F Shape) : Type 0 where
  pub there : PartIn g part
  pub exclusive : PartExclusive g part

-- so of each part of the shape: it may be handed in at this graph, and may be answered
pub record Stands (g : Graph) (s : Shape) : Type 0 where
  pub parts : every-Shape (PartStands g) s

pub record AllStand (g : Graph) (list : List Shape) : Type 0 where
  pub each : All (Stands g) list

abbrev pub PartPasses : (ℕ → Bool) → Shape-F Shape → Type 0
PartPasses test (Bit a) = ⊤
PartPasses test (Int a) = ⊤
PartPasses test (Reference targets) = All (λ target. IsTrue (test target.0)) targets.slots.items
PartPasses test (Array parts) = ⊤

-- Each slot that the shape names passes the test. Where this follows, for every test, from the same of the
-- arguments of a call, each slot that the answer names is named in an argument.
pub record SlotsPass (test : ℕ → Bool) (s : Shape) : Type 0 where
  pub parts : every-Shape (PartPasses test) s

pub record AllSlotsPass (test : ℕ → Bool) (list : List Shape) : Type 0 where
  pub each : All (SlotsPass test) list
