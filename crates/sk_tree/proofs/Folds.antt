-- What a fold gives for each form of an expression, a statement and a pattern.
use Rattle.std.proofs.Common.{◌≡◌, ℕ, List, Option, Some, None, sym, ap, ◌∙◌}
use Rattle.sk_base.specs.declared.span.Span.{Span}
use Rattle.sk_tree.specs.declared.token.Mark.{Mark}
use Rattle.sk_tree.specs.declared.expr.Expr.{Expr}
use Rattle.sk_tree.specs.declared.expr.EForm.{EForm}
use Rattle.sk_tree.specs.declared.expr.EForm.TheVariants as eform
use Rattle.sk_tree.specs.declared.expr.NewField.{NewField}
use Rattle.sk_tree.specs.declared.expr.EForm.TheOpen as E
use Rattle.sk_tree.specs.declared.expr.EForm.TheViews.{roll-EForm}
use Rattle.sk_tree.specs.declared.expr.EForm.TheFolds.{map-EForm, fold-EForm, fold-Expr, fold-NewField, fold-roll-EForm, fold-roll-Expr}
use Rattle.sk_tree.specs.declared.stmt.Stmt.{Stmt}
use Rattle.sk_tree.specs.declared.stmt.Form.{Form}
use Rattle.sk_tree.specs.declared.stmt.Form.TheVariants as form
use Rattle.sk_tree.specs.declared.stmt.Form.TheOpen as F
use Rattle.sk_tree.specs.declared.stmt.Form.TheViews.{roll-Form}
use Rattle.sk_tree.specs.declared.stmt.Form.TheFolds.{map-Form, fold-Form, fold-Stmt, fold-roll-Form, fold-roll-Stmt}
use Rattle.sk_tree.specs.declared.stmt.StepKind.{StepKind}

abbrev expr : Span → EForm → Expr
expr s f = record { span = s; form = f }

abbrev stmt : Span → Form → Stmt
stmt s f = record { span = s; form = f }

-- of an expression
module _ (A B C : Type 0) (step : E.EForm-F A B C → A) (step' : E.Expr-F A B C → B) (step'' : E.NewField-F A B C → C) where
  abbrev of_expr : Expr → B
  of_expr = fold-Expr A B C step step' step''

  abbrev made : Span → E.EForm-F A B C → B
  made s l = step' (record { span = s; form = step l })

  expr_layer : (s : Span) (l : E.EForm-F EForm Expr NewField) → of_expr (expr s (roll-EForm l)) ≡ made s (map-EForm EForm Expr NewField A B C (fold-EForm A B C step step' step'') of_expr (fold-NewField A B C step step' step'') l)
  expr_layer s l = fold-roll-Expr A B C step step' step'' (record { span = s; form = roll-EForm l }) ∙ ap (λ a. step' (record { span = s; form = a })) (fold-roll-EForm A B C step step' step'' l)

  pub of_number : (s : Span) (n : ℕ) → of_expr (expr s (eform.Number n)) ≡ made s (E.Number n)
  of_number s n = ap (λ f. of_expr (expr s f)) (sym (eform.rolls-Number n)) ∙ expr_layer s (E.Number n)

  pub of_word : (s : Span) (x : List ℕ) → of_expr (expr s (eform.Word x)) ≡ made s (E.Word x)
  of_word s x = ap (λ f. of_expr (expr s f)) (sym (eform.rolls-Word x)) ∙ expr_layer s (E.Word x)

  pub of_binary : (s : Span) (m : Mark) (a b : Expr) → of_expr (expr s (eform.Binary m a b)) ≡ made s (E.Binary m (of_expr a) (of_expr b))
  of_binary s m a b = ap (λ f. of_expr (expr s f)) (sym (eform.rolls-Binary m a b)) ∙ expr_layer s (E.Binary m a b)

-- of a statement
module _ (A B : Type 0) (step : F.Form-F A B → A) (step' : F.Stmt-F A B → B) where
  abbrev of_stmt : Stmt → B
  of_stmt = fold-Stmt A B step step'

  abbrev built : Span → F.Form-F A B → B
  built s l = step' (record { span = s; form = step l })

  stmt_layer : (s : Span) (l : F.Form-F Form Stmt) → of_stmt (stmt s (roll-Form l)) ≡ built s (map-Form Form Stmt A B (fold-Form A B step step') of_stmt l)
  stmt_layer s l = fold-roll-Stmt A B step step' (record { span = s; form = roll-Form l }) ∙ ap (λ a. step' (record { span = s; form = a })) (fold-roll-Form A B step step' l)

  pub of_empty : (s : Span) → of_stmt (stmt s form.Empty) ≡ built s F.Empty
  of_empty s = ap (λ f. of_stmt (stmt s f)) (sym form.rolls-Empty) ∙ stmt_layer s F.Empty

  pub of_assign : (s : Span) (x y : Expr) → of_stmt (stmt s (form.Assign x y)) ≡ built s (F.Assign x y)
  of_assign s x y = ap (λ f. of_stmt (stmt s f)) (sym (form.rolls-Assign x y)) ∙ stmt_layer s (F.Assign x y)

  pub of_step : (s : Span) (k : StepKind) (x : Expr) (by : Option Expr) → of_stmt (stmt s (form.Step k x by)) ≡ built s (F.Step k x by)
  of_step s k x by = ap (λ f. of_stmt (stmt s f)) (sym (form.rolls-Step k x by)) ∙ stmt_layer s (F.Step k x by)

  pub of_if : (s : Span) (c : Expr) (a : Stmt) → of_stmt (stmt s (form.If c a None)) ≡ built s (F.If c (of_stmt a) None)
  of_if s c a = ap (λ f. of_stmt (stmt s f)) (sym (form.rolls-If c a None)) ∙ stmt_layer s (F.If c a None)

  pub of_if_else : (s : Span) (c : Expr) (a b : Stmt) → of_stmt (stmt s (form.If c a (Some b))) ≡ built s (F.If c (of_stmt a) (Some (of_stmt b)))
  of_if_else s c a b = ap (λ f. of_stmt (stmt s f)) (sym (form.rolls-If c a (Some b))) ∙ stmt_layer s (F.If c a (Some b))

  pub of_for : (s : Span) (a : Stmt) (c : Expr) (n body : Stmt) → of_stmt (stmt s (form.For a c n body)) ≡ built s (F.For (of_stmt a) c (of_stmt n) (of_stmt body))
  of_for s a c n body = ap (λ f. of_stmt (stmt s f)) (sym (form.rolls-For a c n body)) ∙ stmt_layer s (F.For a c n body)
