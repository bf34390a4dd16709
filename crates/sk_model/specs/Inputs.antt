-- The inputs of a program: an obligation's number, and one argument for each parameter of its function.
-- An `int` is from 0 to 2^inbits - 1, a `bit` either, an array has its length and each element so. No
-- input holds a reference. A function without parameters has one input.
use Rattle.std.specs.Prelude.{ℕ, ◌^◌, ◌==◌, ◌≡◌, pos, List, [], ◌∷◌, length, slice_get, Some, Bool, true, false, ◌&&◌, nat_lt, IsTrue}
use Rattle.std.specs.List.{list_all}
use Rattle.sk_base.specs.declared.bounds.Bounds.{Bounds}
use Rattle.sk_prog.specs.declared.ids.FunId.{FunId}
use Rattle.sk_prog.specs.declared.ty.Elem.TheVariants as elem
use Rattle.sk_prog.specs.declared.ty.Ty.{Ty}
use Rattle.sk_prog.specs.declared.ty.Ty.TheVariants as ty
use Rattle.sk_prog.specs.declared.value.Value.{Value}
use Rattle.sk_prog.specs.declared.value.Value.TheOpen as V
use Rattle.sk_prog.specs.declared.value.Value.TheFolds.{fold-Value}
use Rattle.sk_prog.specs.declared.prog.ParamDef.{ParamDef}
use Rattle.sk_prog.specs.declared.prog.Fun.{Fun}
use Rattle.sk_prog.specs.declared.prog.Prog.{Prog}
use Rattle.sk_model.specs.declared.expanded.Obligation.{Obligation}
use Rattle.sk_model.specs.declared.expanded.Obligation.TheVariants as obligation
use Rattle.sk_model.specs.declared.expanded.Input.{Input}
use Rattle.sk_model.specs.Obligations.{obligations}

abbrev pub in_range_step : ℕ → V.Value-F (Ty → Bool) → Ty → Bool
in_range_step inbits (V.Int (pos n)) (ty.One elem.Int) = nat_lt n (2 ^ inbits)
in_range_step inbits (V.Bit b) (ty.One elem.Bit) = true
in_range_step inbits (V.Array ps) (ty.Array e n) = (length ps == n) && list_all (λ p. p (ty.One e)) ps
in_range_step inbits (V.Array ps) (ty.Grid e n m) = (length ps == m) && list_all (λ p. p (ty.Array e n)) ps
in_range_step inbits _ _ = false

abbrev pub in_range : ℕ → Value → Ty → Bool
in_range inbits = fold-Value (Ty → Bool) (in_range_step inbits)

-- one value in range for each parameter
abbrev pub args_in_range : ℕ → List ParamDef → List Value → Bool
args_in_range inbits [] [] = true
args_in_range inbits (p ∷ ps) (v ∷ vs) = in_range inbits v p.ty && args_in_range inbits ps vs
args_in_range inbits _ _ = false

-- the function of an obligation; of `f implements g` it is f, which has the parameter types of g
abbrev pub fun_of : Obligation → FunId
fun_of (obligation.Harness f) = f
fun_of (obligation.Implements f g) = f

pub record IsInput (prog : Prog) (bounds : Bounds) (input : Input) : Type 0 where
  pub obligation : Obligation
  pub fun : Fun
  pub is_obligation : slice_get (obligations prog) input.obligation ≡ Some obligation
  pub is_fun : slice_get prog.funs (fun_of obligation).index ≡ Some fun
  pub args : IsTrue (args_in_range bounds.inbits fun.params input.args)
