-- Shapes of one form.
use Rattle.std.specs.Prelude.{◌≡◌, pos, false, List, None}
use Rattle.sk_dag.specs.declared.shape.Shape.{Shape}
use Rattle.sk_dag.specs.declared.shape.Seen.{Seen}
use Rattle.sk_dag.specs.declared.shape.Seen.TheVariants.{Bit as SeenBit, Int as SeenInt, Slot as SeenSlot, Array as SeenArray}
use Rattle.sk_arr.specs.Shapes.{blank}

pub record IsBit (s : Shape) : Type 0 where
  pub form : blank s ≡ SeenBit false

pub record IsInt (s : Shape) : Type 0 where
  pub form : blank s ≡ SeenInt (pos 0)

pub record IsReference (s : Shape) : Type 0 where
  pub form : blank s ≡ SeenSlot None

pub record IsArray (s : Shape) : Type 0 where
  pub forms : List Seen
  pub form : blank s ≡ SeenArray forms
