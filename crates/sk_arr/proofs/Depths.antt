-- How deep shapes are: what a recursion on them goes by.
use Rattle.std.proofs.Common.{◌≡◌, ℕ, zero, suc, ◌+◌, ◌<◌, ◌≤◌, List, [], ◌∷◌, length, map, get_or, ap, ◌∙◌, arith}
use Rattle.sk_dag.specs.declared.shape.Shape.{Shape}
use Rattle.sk_dag.specs.declared.shape.Shape.TheVariants as shape
use Rattle.sk_dag.specs.declared.shape.Shape.TheOpen as F
use Rattle.sk_dag.specs.declared.shape.Shape.TheFolds.{fold-Shape}
use Rattle.sk_arr.proofs.Parts.{fold_array}

abbrev pub total : List ℕ → ℕ
total [] = 0
total (d ∷ ds) = d + total ds

abbrev pub depth_step : F.Shape-F ℕ → ℕ
depth_step (F.Bit a) = 0
depth_step (F.Int a) = 0
depth_step (F.Reference targets) = 0
depth_step (F.Array ds) = suc (total ds)

abbrev pub depth : Shape → ℕ
depth = fold-Shape ℕ depth_step

abbrev pub depths : List Shape → ℕ
depths ss = total (map depth ss)

pub depth_array : (s : Shape) (ss : List Shape) → s ≡ shape.Array ss → depth s ≡ suc (depths ss)
depth_array s ss is = ap depth is ∙ fold_array ℕ depth_step ss

pub depth_within : (ss : List Shape) (i : ℕ) (a : Shape) → i < length ss → a ≡ get_or ss i a → depth a ≤ depths ss
depth_within [] i a l is = absurd (omega (arith, l))
depth_within (s ∷ ss) zero a l is = let e : depth a ≡ depth s = ap depth is in omega (arith, e)
depth_within (s ∷ ss) (suc i) a l is = omega (arith, depth_within ss i a (omega (arith, l)) is)
