-- Programs without costs: nothing in them is a `minimize` or a `minrepeat`.
use Rattle.std.specs.Prelude.{Bool, true, false, ◌&&◌, List, map}
use Rattle.std.specs.List.{list_all}
use Rattle.sk_prog.specs.declared.stmt.PStmt.{PStmt}
use Rattle.sk_prog.specs.declared.stmt.PForm.{PForm}
use Rattle.sk_prog.specs.declared.stmt.PForm.TheOpen as S
use Rattle.sk_prog.specs.declared.stmt.PForm.TheFolds.{fold-PForm, fold-PStmt}
use Rattle.sk_prog.specs.declared.prog.Fun.{Fun}
use Rattle.sk_prog.specs.declared.prog.Prog.{Prog}
use Rattle.sk_prog.specs.Names.{is_yes, any_yes}

-- whether a form is neither of these, and what stands inside it is free of them
abbrev pub form_free : S.PForm-F Bool Bool → Bool
form_free (S.Minimize e) = false
form_free (S.MinRepeat copies) = false
form_free (S.Block ss) = list_all is_yes ss
form_free (S.If c a b) = a && any_yes b
form_free (S.While c a) = a
form_free (S.Repeat c copies) = list_all is_yes copies
form_free (S.Reorder ss) = list_all is_yes ss
form_free (S.Declare slot x t value) = true
form_free (S.Assign target e) = true
form_free (S.Call e) = true
form_free (S.Return value) = true
form_free (S.Assert e) = true
form_free (S.Assume e) = true

abbrev pub stmt_free : PStmt → Bool
stmt_free = fold-PStmt Bool Bool form_free (λ s. s.form)

abbrev pub form_free_of : PForm → Bool
form_free_of = fold-PForm Bool Bool form_free (λ s. s.form)

abbrev pub stmts_free : List PStmt → Bool
stmts_free ss = list_all is_yes (map stmt_free ss)

-- whether the body of each function is free of them
abbrev pub is_free : Prog → Bool
is_free prog = list_all (λ (f : Fun). stmts_free f.body) prog.funs
