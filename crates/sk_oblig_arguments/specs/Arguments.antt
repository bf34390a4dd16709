-- Arguments as shapes over the scalars of an input.
use Rattle.std.specs.Prelude.{ℕ, ◌+◌, ◌-◌, ◌≤◌, List, [], ◌∷◌}
use Rattle.sk_dag.specs.declared.env.Env.{Env}
use Rattle.sk_dag.specs.declared.shape.Shape.{Shape}
use Rattle.sk_dag.specs.Graph.{Graph, Grows}
use Rattle.sk_arr.specs.Shapes.{Stands, AllStand}
use Rattle.sk_prog.specs.declared.value.Value.{Value}
use Rattle.sk_prog.specs.declared.prog.ParamDef.{ParamDef}
use Rattle.sk_prog.specs.declared.ty.Elem.{Elem}
use Rattle.sk_prog.specs.declared.ty.Ty.{Ty}
use Rattle.sk_oblig_queries.specs.Widths.{elem_width, numbers_of, ty_widths, params_widths}
use Rattle.sk_oblig_queries.specs.Said.{first_of, elem_said, value_said, args_said}
use Rattle.sk_sym_state.specs.Seen.{IsWorth, AreWorth}
use Rattle.sk_oblig_laws.specs.Laws.{HasNumbers, StartsBelow}

-- In each environment whose input has numbers of these widths from a scalar on, the shape is worth what the numbers say. An
-- int of the input is a word that is not negative, so it has fewer bits than a word.
pub record Reads (d : Graph) (widths : ℕ → List ℕ) (said : List ℕ → Value) (first : ℕ) (r : Shape) : Type 0 where
  pub stands : Stands d r
  pub worth : (g : Graph) (e : Env) (numbers : List ℕ) (inbits : ℕ) → Grows d g → inbits ≤ g.bits - 1 → HasNumbers e first numbers → StartsBelow (widths inbits) numbers → IsWorth g e [] r (said numbers)

-- so of several
pub record AllRead (d : Graph) (widths : ℕ → List ℕ) (said : List ℕ → List Value) (first : ℕ) (made : List Shape) : Type 0 where
  pub stand : AllStand d made
  pub worth : (g : Graph) (e : Env) (numbers : List ℕ) (inbits : ℕ) → Grows d g → inbits ≤ g.bits - 1 → HasNumbers e first numbers → StartsBelow (widths inbits) numbers → AreWorth g e [] made (said numbers)

-- an element
abbrev pub ReadsElem : Graph → Elem → ℕ → Shape → Type 0
ReadsElem d e first r = Reads d (λ inbits. elem_width inbits e ∷ []) (λ numbers. elem_said e (first_of numbers)) first r

-- a value of a type
abbrev pub ReadsValue : Graph → Ty → ℕ → Shape → Type 0
ReadsValue d t first r = Reads d (λ inbits. ty_widths inbits t) (value_said t) first r

-- a value for each parameter
abbrev pub AreArguments : Graph → List ParamDef → ℕ → List Shape → Type 0
AreArguments d params first made = AllRead d (λ inbits. params_widths inbits params) (args_said params) first made

-- how many numbers the parameters have together
abbrev pub count_of : List ParamDef → ℕ
count_of [] = 0
count_of (p ∷ ps) = numbers_of p.ty + count_of ps
