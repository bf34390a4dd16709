-- Small programs, for examples of the layout.
use Rattle.std.specs.Prelude.{◌≡◌, ℕ, List, [], ◌∷◌, Some, None, codes}
use Rattle.sk_prog.specs.declared.ty.Ty.{Ty}
use Rattle.sk_prog.specs.declared.ty.Ty.TheVariants as ty
use Rattle.sk_prog.specs.declared.ty.Elem.TheVariants as elem
use Rattle.sk_prog.specs.declared.expr.UnOp.TheVariants as unop
use Rattle.sk_prog.specs.declared.expr.PExpr.{PExpr}
use Rattle.sk_prog.specs.declared.expr.PEForm.{PEForm}
use Rattle.sk_prog.specs.declared.expr.PEForm.TheVariants as peform
use Rattle.sk_prog.specs.declared.stmt.PStmt.{PStmt}
use Rattle.sk_prog.specs.declared.stmt.PForm.{PForm}
use Rattle.sk_prog.specs.declared.stmt.PForm.TheVariants as pform
use Rattle.sk_prog.specs.declared.prog.FunKind.{FunKind}
use Rattle.sk_prog.specs.declared.prog.FunKind.TheVariants as funkind
use Rattle.sk_prog.specs.declared.prog.StructDef.{StructDef}
use Rattle.sk_prog.specs.declared.prog.Fun.{Fun}
use Rattle.sk_prog.specs.declared.prog.Prog.{Prog}
use Rattle.sk_prog.specs.Spanless.{no_span}
use Rattle.sk_print.specs.Layout.{expr_layout, stmt_layout, layout}

abbrev pub expr : PEForm → PExpr
expr form = record { span = no_span; ty = None; form = form }

abbrev pub stmt : PForm → PStmt
stmt form = record { span = no_span; form = form }

abbrev pub block : List PStmt → PStmt
block ss = stmt (pform.Block ss)

abbrev pub variable : List ℕ → PExpr
variable name = expr (peform.Var 0 name)

abbrev pub minus : PExpr → PExpr
minus e = expr (peform.Unary unop.Neg e)

abbrev pub choice : PExpr → PExpr → PExpr → PExpr
choice c a b = expr (peform.Cond c a b)

-- a program with nothing in it
abbrev pub nothing : Prog
nothing = record { structs = []; consts = []; funs = [] }

abbrev pub function : FunKind → List ℕ → List PStmt → Fun
function kind name body = record { name = name; kind = kind; result = None; params = []; slots = 1; implements = None; body = body }

-- Two minus signs stand apart.
abbrev pub DoubleMinus : Type 0
DoubleMinus = expr_layout nothing (minus (minus (variable (codes "x")))) ≡ codes "- -x"

-- A choice in the last part of another has no parentheses.
abbrev pub NestedChoice : Type 0
NestedChoice =
    expr_layout nothing (choice (variable (codes "a")) (variable (codes "b")) (choice (variable (codes "c")) (variable (codes "d")) (variable (codes "e"))))
    ≡ codes "a ? b : c ? d : e"

abbrev pub EmptyHarness : Type 0
EmptyHarness =
    layout (record { structs = []; consts = []; funs = function funkind.Harness (codes "main") [] ∷ [] })
    ≡ codes "harness void main() {\n}\n"

abbrev pub IfElse : Type 0
IfElse =
    stmt_layout nothing (stmt (pform.If (variable (codes "c")) (block (stmt (pform.Assign (variable (codes "x")) (variable (codes "y"))) ∷ [])) (Some (block (stmt (pform.Return None) ∷ []))))) 1
    ≡ codes "    if (c) {\n        x = y;\n    } else {\n        return;\n    }\n"

-- An `if` that is all of an `else` stays in its braces.
abbrev pub IfInElse : Type 0
IfInElse =
    stmt_layout nothing (stmt (pform.If (variable (codes "c")) (block []) (Some (block (stmt (pform.If (variable (codes "d")) (block []) None) ∷ []))))) 0
    ≡ codes "if (c) {\n} else {\n    if (d) {\n    }\n}\n"

-- a reference to the first struct
abbrev pub reference : Ty
reference = ty.One (elem.Reference (record { index = 0 }))

abbrev pub node : StructDef
node = record { name = codes "Node"; fields = record { name = codes "val"; ty = ty.One elem.Int } ∷ record { name = codes "next"; ty = reference } ∷ [] }

-- a new record of the first struct, with both its fields set
abbrev pub made : PExpr
made = expr (peform.New (record { index = 0 }) (record { field = 0; value = variable (codes "v") } ∷ record { field = 1; value = expr peform.Null } ∷ []))

abbrev pub StructWithNew : Type 0
StructWithNew =
    layout (record { structs = node ∷ []; consts = []; funs = function funkind.Plain (codes "f") (stmt (pform.Declare 0 (codes "n") reference (Some made)) ∷ []) ∷ [] })
    ≡ codes "struct Node {\n    int val;\n    Node next;\n}\nvoid f() {\n    Node n = new Node(val = v, next = null);\n}\n"
