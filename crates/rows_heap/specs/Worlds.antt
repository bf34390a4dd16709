-- A heap, and values of the types of its program beside it.
use Rattle.std.specs.Prelude.{◌≡◌, List, [], ◌∷◌, All}
use Rattle.sk_dag.specs.declared.shape.Shape.{Shape}
use Rattle.sk_dag.specs.declared.shape.Seen.TheVariants.{Array as SeenArray}
use Rattle.sk_dag.specs.Graph.{Graph}
use Rattle.sk_arr.specs.Shapes.{Stands}
use Rattle.sk_prog.specs.declared.ty.Ty.{Ty}
use Rattle.sk_heap.specs.declared.slot.Slot.{Slot}
use Rattle.sk_heap.specs.Types.{form_of, elem_of}
use Rattle.sk_heap.specs.Heaps.{IsOfType}

-- the shape stands in the graph, and is of the type
pub record IsValue (g : Graph) (heap : List Slot) (t : Ty) (r : Shape) : Type 0 where
  pub stands : Stands g r
  pub typed : IsOfType heap t r

-- so of each shape with the type beside it
pub record AreValues (g : Graph) (heap : List Slot) (values : List (Ty × Shape)) : Type 0 where
  pub each : All (λ v. IsValue g heap v.0 v.1) values

-- the type is that of an array of two values of the other type
pub record IsPairOf (t pair : Ty) : Type 0 where
  pub form : form_of pair ≡ SeenArray (form_of t ∷ form_of t ∷ [])
  pub elem : elem_of pair ≡ elem_of t
