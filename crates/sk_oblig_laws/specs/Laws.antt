-- What the bits of a query say of an environment, and of what is in range.
use Rattle.std.specs.Prelude.{◌≡◌, ℕ, ◌+◌, ◌<◌, ◌≤◌, ◌^◌, pos, Bool, true, false, not, ◌&&◌, nat_lt, List, [], ◌∷◌, map, length, All, slice_index_or}
use Rattle.std.specs.List.{list_all}
use Rattle.sk_dag.specs.declared.env.Env.{Env}
use Rattle.sk_dag.specs.Eval.{entry}
use Rattle.sk_cnf.specs.declared.leaf.Leaf.TheVariants.{Hole, Input}
use Rattle.sk_cnf.specs.Leaves.{Says}
use Rattle.sk_prog.specs.declared.ty.Elem.{Elem}
use Rattle.sk_prog.specs.declared.ty.Elem.TheVariants as elem
use Rattle.sk_prog.specs.declared.ty.Ty.{Ty}
use Rattle.sk_prog.specs.declared.prog.ParamDef.{ParamDef}
use Rattle.sk_model.specs.Inputs.{args_in_range}
use Rattle.sk_oblig_queries.specs.Numbers.{numbers_said, leaves_from}
use Rattle.sk_oblig_queries.specs.Widths.{elem_of, numbers_of, params_widths}
use Rattle.sk_oblig_queries.specs.Said.{args_said}

-- the environment whose choice is these numbers, and whose input is 0 everywhere
abbrev pub choice_env : List ℕ → Env
choice_env numbers = record { choice = numbers; input = [] }

-- the environment whose input is these numbers, and whose choice is 0 everywhere
abbrev pub input_env : List ℕ → Env
input_env numbers = record { choice = []; input = map pos numbers }

-- Bits of holes say the environment whose choice is the numbers that they say.
abbrev pub BitsSayChoices : Type 0
BitsSayChoices = (widths : List ℕ) (bits : List Bool) → All (λ w. w ≤ 32) widths → length bits ≡ length (leaves_from Hole 0 widths) → Says (leaves_from Hole 0 widths) bits (choice_env (numbers_said widths bits))

-- Bits of scalars say the environment whose input is the numbers that they say.
abbrev pub BitsSayInputs : Type 0
BitsSayInputs = (widths : List ℕ) (bits : List Bool) → All (λ w. w ≤ 32) widths → length bits ≡ length (leaves_from Input 0 widths) → Says (leaves_from Input 0 widths) bits (input_env (numbers_said widths bits))

abbrev pub is_reference : Elem → Bool
is_reference elem.Int = false
is_reference elem.Bit = false
is_reference (elem.Reference s) = true

-- whether values of the type hold no reference
abbrev pub is_plain : Ty → Bool
is_plain t = not (is_reference (elem_of t) && nat_lt 0 (numbers_of t))

-- whether arguments for these parameters hold no reference
abbrev pub are_plain : List ParamDef → Bool
are_plain params = list_all (λ (p : ParamDef). is_plain p.ty) params

-- a number for each width, each small enough, and maybe others behind them
abbrev pub StartsBelow : List ℕ → List ℕ → Type 0
StartsBelow [] numbers = Unit {0}
StartsBelow (w ∷ ws) [] = ⊥
StartsBelow (w ∷ ws) (n ∷ ns) = (n < 2 ^ w) × StartsBelow ws ns

-- the input of the environment has these numbers from a scalar on
pub record HasNumbers (e : Env) (first : ℕ) (numbers : List ℕ) : Type 0 where
  pub each : (i : ℕ) → entry e.input (first + i) ≡ pos (slice_index_or numbers i 0)

-- What numbers say that are small enough is in range exactly where no parameter holds a reference.
abbrev pub PlainIsInRange : Type 0
PlainIsInRange = (inbits : ℕ) (params : List ParamDef) (numbers : List ℕ) → StartsBelow (params_widths inbits params) numbers → args_in_range inbits params (args_said params numbers) ≡ are_plain params
