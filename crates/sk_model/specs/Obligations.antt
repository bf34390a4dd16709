-- What must hold of a program on every input: in the order of its functions, each harness, and each
-- function that implements another. A function that is both has its harness first.
use Rattle.std.specs.Prelude.{ℕ, ◌+◌, List, [], ◌∷◌, ◌++◌, Option, Some, None}
use Rattle.sk_prog.specs.declared.ids.FunId.{FunId}
use Rattle.sk_prog.specs.declared.prog.FunKind.{FunKind}
use Rattle.sk_prog.specs.declared.prog.FunKind.TheVariants as kind
use Rattle.sk_prog.specs.declared.prog.Fun.{Fun}
use Rattle.sk_prog.specs.declared.prog.Prog.{Prog}
use Rattle.sk_model.specs.declared.expanded.Obligation.{Obligation}
use Rattle.sk_model.specs.declared.expanded.Obligation.TheVariants as obligation

abbrev pub of_kind : FunId → FunKind → List Obligation
of_kind f kind.Harness = obligation.Harness f ∷ []
of_kind f _ = []

abbrev pub of_reference : FunId → Option FunId → List Obligation
of_reference f (Some g) = obligation.Implements f g ∷ []
of_reference f None = []

abbrev pub of_fun : FunId → Fun → List Obligation
of_fun f fun = of_kind f fun.kind ++ of_reference f fun.implements

-- those of functions of which the first has this number
abbrev pub obligations_from : ℕ → List Fun → List Obligation
obligations_from n [] = []
obligations_from n (fun ∷ funs) = of_fun (record { index = n }) fun ++ obligations_from (n + 1) funs

abbrev pub obligations : Prog → List Obligation
obligations prog = obligations_from 0 prog.funs
