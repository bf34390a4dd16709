-- The examples of the layout.
use Rattle.std.proofs.Common.{◌≡◌, ℕ, true, false, List, [], ◌∷◌, ◌++◌, Option, Some, None, map, sym, ap, ◌∙◌}
use Rattle.std.specs.Prelude.{codes}
use Rattle.std.specs.List.{flat_map}
use Rattle.sk_prog.specs.declared.ids.StructId.{StructId}
use Rattle.sk_prog.specs.declared.ty.Ty.{Ty}
use Rattle.sk_prog.specs.declared.expr.PExpr.{PExpr}
use Rattle.sk_prog.specs.declared.expr.PEForm.TheVariants as peform
use Rattle.sk_prog.specs.declared.expr.PField.{PField}
use Rattle.sk_prog.specs.declared.expr.PEForm.TheOpen as P
use Rattle.sk_prog.specs.declared.expr.PEForm.TheViews.{roll-PEForm}
use Rattle.sk_prog.specs.declared.expr.PEForm.TheFolds.{fold-PField, fold-roll-PEForm, fold-roll-PExpr, fold-roll-PField, the_lemmas}
use Rattle.sk_prog.specs.declared.stmt.PStmt.{PStmt}
use Rattle.sk_prog.specs.declared.stmt.PForm.{PForm}
use Rattle.sk_prog.specs.declared.stmt.PForm.TheVariants as pform
use Rattle.sk_prog.specs.declared.stmt.PForm.TheOpen as S
use Rattle.sk_prog.specs.declared.stmt.PForm.TheViews.{roll-PForm}
use Rattle.sk_prog.specs.declared.stmt.PForm.TheFolds.{map-PForm, fold-PForm, fold-roll-PForm, fold-roll-PStmt}
use Rattle.sk_prog.specs.declared.prog.FunKind.TheVariants as funkind
use Rattle.sk_prog.specs.declared.prog.Prog.{Prog}
use Rattle.sk_print.specs.Layout.{eform_layout, pfield_layout, expr_layout, line, Lines, plain, each_line, pform_layout, stmt_lines, stmt_layout, struct_layout}
use Rattle.sk_print.specs.Examples.{expr, variable, stmt, block, nothing, function, node, reference, made, DoubleMinus, NestedChoice, IfElse, IfInElse, StructWithNew}

module _ (prog : Prog) where
  abbrev one_layer : S.PForm-F PForm PStmt → Lines
  one_layer l = pform_layout prog (map-PForm PForm PStmt Lines Lines (fold-PForm Lines Lines (pform_layout prog) (λ s. s.form)) (stmt_lines prog) l)

  layer : (l : S.PForm-F PForm PStmt) (f : PForm) → roll-PForm l ≡ f → stmt_lines prog (stmt f) ≡ one_layer l
  layer l f rolls = ap (λ g. stmt_lines prog (stmt g)) (sym rolls) ∙ fold-roll-PStmt Lines Lines (pform_layout prog) (λ s. s.form) (record { span = (stmt f).span; form = roll-PForm l }) ∙ fold-roll-PForm Lines Lines (pform_layout prog) (λ s. s.form) l

  of_block : (ss : List PStmt) → stmt_lines prog (stmt (pform.Block ss)) ≡ one_layer (S.Block ss)
  of_block ss = layer (S.Block ss) (pform.Block ss) (pform.rolls-Block ss)

  of_if : (c : PExpr) (a : PStmt) (b : Option PStmt) → stmt_lines prog (stmt (pform.If c a b)) ≡ one_layer (S.If c a b)
  of_if c a b = layer (S.If c a b) (pform.If c a b) (pform.rolls-If c a b)

  of_assign : (x y : PExpr) → stmt_lines prog (stmt (pform.Assign x y)) ≡ one_layer (S.Assign x y)
  of_assign x y = layer (S.Assign x y) (pform.Assign x y) (pform.rolls-Assign x y)

  of_return : (x : Option PExpr) → stmt_lines prog (stmt (pform.Return x)) ≡ one_layer (S.Return x)
  of_return x = layer (S.Return x) (pform.Return x) (pform.rolls-Return x)

  of_declare : (slot : ℕ) (x : List ℕ) (t : Ty) (value : Option PExpr) → stmt_lines prog (stmt (pform.Declare slot x t value)) ≡ one_layer (S.Declare slot x t value)
  of_declare slot x t value = layer (S.Declare slot x t value) (pform.Declare slot x t value) (pform.rolls-Declare slot x t value)

  of_variable : (x : List ℕ) → expr_layout prog (variable x) ≡ x
  of_variable x = simp the_lemmas

  of_new : (s : StructId) (fs : List PField) → expr_layout prog (expr (peform.New s fs)) ≡ eform_layout prog (P.New s (map (fold-PField (List ℕ) (List ℕ) (StructId → List ℕ) (eform_layout prog) (λ x. x.form) (pfield_layout prog)) fs))
  of_new s fs =
      ap (λ f. expr_layout prog (expr f)) (sym (peform.rolls-New s fs))
      ∙ fold-roll-PExpr (List ℕ) (List ℕ) (StructId → List ℕ) (eform_layout prog) (λ x. x.form) (pfield_layout prog) (record { span = (expr (peform.New s fs)).span; ty = None; form = roll-PEForm (P.New s fs) })
      ∙ fold-roll-PEForm (List ℕ) (List ℕ) (StructId → List ℕ) (eform_layout prog) (λ x. x.form) (pfield_layout prog) (P.New s fs)

  of_field : (k : ℕ) (e : PExpr) → fold-PField (List ℕ) (List ℕ) (StructId → List ℕ) (eform_layout prog) (λ x. x.form) (pfield_layout prog) (record { field = k; value = e }) ≡ pfield_layout prog (record { field = k; value = expr_layout prog e })
  of_field k e = fold-roll-PField (List ℕ) (List ℕ) (StructId → List ℕ) (eform_layout prog) (λ x. x.form) (pfield_layout prog) (record { field = k; value = e })

  of_null : expr_layout prog (expr peform.Null) ≡ codes "null"
  of_null = simp the_lemmas

pub double_minus : DoubleMinus
double_minus = simp the_lemmas

pub nested_choice : NestedChoice
nested_choice = simp the_lemmas

abbrev text_of_x : List ℕ
text_of_x = codes "x"

abbrev text_of_y : List ℕ
text_of_y = codes "y"

abbrev set_x : PStmt
set_x = stmt (pform.Assign (variable text_of_x) (variable text_of_y))

set_x_lines : stmt_lines nothing set_x ≡ plain (λ depth. line depth (codes "x = y;"))
set_x_lines = of_assign nothing (variable text_of_x) (variable text_of_y) ∙ (λ i. plain (λ depth. line depth (of_variable nothing text_of_x i ++ codes " = " ++ of_variable nothing text_of_y i ++ codes ";")))

abbrev return_it : PStmt
return_it = stmt (pform.Return None)

pub if_else : IfElse
if_else =
    ap (λ l. l false 1) (of_if nothing (variable (codes "c")) (block (set_x ∷ [])) (Some (block (return_it ∷ []))))
    ∙ (λ i. line 1 (codes "if (" ++ of_variable nothing (codes "c") i ++ codes ") {") ++ of_block nothing (set_x ∷ []) i true 2 ++ (line 1 (codes "} else {") ++ of_block nothing (return_it ∷ []) i true 2) ++ line 1 (codes "}"))
    ∙ (λ i. line 1 (codes "if (c) {") ++ each_line false 2 (set_x_lines i ∷ []) ++ (line 1 (codes "} else {") ++ each_line false 2 (of_return nothing None i ∷ [])) ++ line 1 (codes "}"))

abbrev if_d : PStmt
if_d = stmt (pform.If (variable (codes "d")) (block []) None)

if_d_text : stmt_layout nothing if_d 1 ≡ codes "    if (d) {\n    }\n"
if_d_text =
    ap (λ l. l false 1) (of_if nothing (variable (codes "d")) (block []) None)
    ∙ (λ i. line 1 (codes "if (" ++ of_variable nothing (codes "d") i ++ codes ") {") ++ of_block nothing [] i true 2 ++ [] ++ line 1 (codes "}"))

pub if_in_else : IfInElse
if_in_else =
    ap (λ l. l false 0) (of_if nothing (variable (codes "c")) (block []) (Some (block (if_d ∷ []))))
    ∙ (λ i. line 0 (codes "if (" ++ of_variable nothing (codes "c") i ++ codes ") {") ++ of_block nothing [] i true 1 ++ (line 0 (codes "} else {") ++ of_block nothing (if_d ∷ []) i true 1) ++ line 0 (codes "}"))
    ∙ (λ i. line 0 (codes "if (c) {") ++ (line 0 (codes "} else {") ++ (if_d_text i ++ [])) ++ line 0 (codes "}"))

abbrev linked : Prog
linked = record { structs = node ∷ []; consts = []; funs = function funkind.Plain (codes "f") (stmt (pform.Declare 0 (codes "n") reference (Some made)) ∷ []) ∷ [] }

abbrev first : StructId
first = record { index = 0 }

made_text : expr_layout linked made ≡ codes "new Node(val = v, next = null)"
made_text =
    of_new linked first (record { field = 0; value = variable (codes "v") } ∷ record { field = 1; value = expr peform.Null } ∷ [])
    ∙ (λ i. eform_layout linked (P.New first (of_field linked 0 (variable (codes "v")) i ∷ of_field linked 1 (expr peform.Null) i ∷ [])))
    ∙ (λ i. eform_layout linked (P.New first (pfield_layout linked (record { field = 0; value = of_variable linked (codes "v") i }) ∷ pfield_layout linked (record { field = 1; value = of_null linked i }) ∷ [])))

pub struct_with_new : StructWithNew
struct_with_new =
    (λ i. flat_map (struct_layout linked) linked.structs ++ ((line 0 (codes "void f() {") ++ each_line false 1 (of_declare linked 0 (codes "n") reference (Some made) i ∷ []) ++ line 0 (codes "}")) ++ []))
    ∙ (λ i. flat_map (struct_layout linked) linked.structs ++ ((line 0 (codes "void f() {") ++ each_line false 1 (plain (λ depth. line depth (codes "Node n = " ++ made_text i ++ codes ";")) ∷ []) ++ line 0 (codes "}")) ++ []))
