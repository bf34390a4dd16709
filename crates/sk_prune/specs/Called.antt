-- Which functions statements call, in the order of the text, each as often as it is called there. The count of a repeat is a
-- number or a hole, and calls none.
use Rattle.std.specs.Prelude.{ℕ, List, [], ◌∷◌, ◌++◌, map, Option, Some, None}
use Rattle.sk_prog.specs.declared.expr.PExpr.{PExpr}
use Rattle.sk_prog.specs.declared.expr.PEForm.TheOpen as P
use Rattle.sk_prog.specs.declared.expr.PEForm.TheFolds.{fold-PExpr}
use Rattle.sk_prog.specs.declared.stmt.PStmt.{PStmt}
use Rattle.sk_prog.specs.declared.stmt.PForm.TheOpen as S
use Rattle.sk_prog.specs.declared.stmt.PForm.TheFolds.{fold-PStmt}
use Rattle.sk_model.specs.Parts.{joined}

abbrev pub eform_called : {X : Type 0} → P.PEForm-F X (List ℕ) (List ℕ) → List ℕ
eform_called (P.Call f args) = f.index ∷ joined args
eform_called (P.Number n) = []
eform_called P.True = []
eform_called P.False = []
eform_called P.Null = []
eform_called (P.Var slot x) = []
eform_called (P.Const c) = []
eform_called (P.Hole bits) = []
eform_called (P.Pattern strings) = joined strings
eform_called (P.Paren a) = a
eform_called (P.New d fields) = joined fields
eform_called (P.Braces parts) = joined parts
eform_called (P.Member a d field) = a
eform_called (P.Index a i) = a ++ i
eform_called (P.Slice a i n) = a ++ i
eform_called (P.Unary o a) = a
eform_called (P.Binary o a b) = a ++ b
eform_called (P.Cond c a b) = c ++ (a ++ b)
eform_called (P.ToInt a) = a
eform_called (P.Pad a) = a

abbrev pub expr_called : PExpr → List ℕ
expr_called = fold-PExpr (List ℕ) (List ℕ) (List ℕ) eform_called (λ e. e.form) (λ x. x.value)

abbrev pub value_called : Option PExpr → List ℕ
value_called None = []
value_called (Some e) = expr_called e

abbrev pub any_called : Option (List ℕ) → List ℕ
any_called None = []
any_called (Some fs) = fs

abbrev pub form_called : {X : Type 0} → S.PForm-F X (List ℕ) → List ℕ
form_called (S.Block ss) = joined ss
form_called (S.Declare slot x t e) = value_called e
form_called (S.Assign target e) = expr_called target ++ expr_called e
form_called (S.Call e) = expr_called e
form_called (S.If c a b) = expr_called c ++ (a ++ any_called b)
form_called (S.While c a) = expr_called c ++ a
form_called (S.Return e) = value_called e
form_called (S.Assert e) = expr_called e
form_called (S.Assume e) = expr_called e
form_called (S.Minimize e) = expr_called e
form_called (S.Repeat count copies) = joined copies
form_called (S.MinRepeat copies) = joined copies
form_called (S.Reorder ss) = joined ss

abbrev pub stmt_called : PStmt → List ℕ
stmt_called = fold-PStmt (List ℕ) (List ℕ) form_called (λ s. s.form)

-- the functions that statements call
abbrev pub called : List PStmt → List ℕ
called ss = joined (map stmt_called ss)
