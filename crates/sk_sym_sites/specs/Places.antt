-- Where the sites of the functions of a program begin.
use Rattle.std.specs.Prelude.{◌≡◌, ℕ, List, map}
use Rattle.sk_base.specs.declared.bounds.Bounds.{Bounds}
use Rattle.sk_prog.specs.declared.prog.Fun.{Fun}
use Rattle.sk_prog.specs.declared.prog.Prog.{Prog}
use Rattle.sk_model.specs.Parts.{total}
use Rattle.sk_model.specs.Eval.{Calls}
use Rattle.sk_model.specs.Open.{sites_before}
use Rattle.sk_sym_sites.specs.Counts.{stmts_count}

abbrev pub fun_count : Fun → ℕ
fun_count fun = stmts_count fun.body

abbrev pub funs_count : List Fun → ℕ
funs_count funs = total (map fun_count funs)

-- the first site of the function with this number has this place, whatever is chosen and whatever calls do
pub record BeginsAt (prog : Prog) (f i : ℕ) : Type 0 where
  pub place : (bounds : Bounds) (values : List ℕ) (call : Calls) → i ≡ sites_before prog bounds values call prog.funs f
