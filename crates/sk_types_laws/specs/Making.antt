-- What statements become, as a function of plain trees: what is made, and the variables in scope after it.
use Rattle.std.specs.Prelude.{ℕ, nat_le, if◌then◌else◌, List, [], ◌∷◌, ◌++◌, map, length, take, Option, Some, None}
use Rattle.sk_base.specs.declared.span.Span.{Span}
use Rattle.sk_tree.specs.declared.expr.Expr.{Expr}
use Rattle.sk_tree.specs.declared.expr.EForm.{EForm}
use Rattle.sk_tree.specs.declared.expr.EForm.TheVariants as eform
use Rattle.sk_tree.specs.declared.expr.EForm.TheOpen as E
use Rattle.sk_tree.specs.declared.expr.EForm.TheFolds.{para-EForm}
use Rattle.sk_tree.specs.declared.expr.NewField.{NewField}
use Rattle.sk_tree.specs.declared.stmt.Stmt.{Stmt}
use Rattle.sk_tree.specs.declared.stmt.Form.{Form}
use Rattle.sk_tree.specs.declared.stmt.Form.TheOpen as F
use Rattle.sk_tree.specs.declared.stmt.Form.TheFolds.{fold-Form, fold-Stmt}
use Rattle.sk_tree.specs.declared.stmt.Declared.{Declared}
use Rattle.sk_tree.specs.declared.item.TyTree.{TyTree}
use Rattle.sk_prog.specs.declared.ty.Ty.{Ty}
use Rattle.sk_prog.specs.declared.expr.PExpr.{PExpr}
use Rattle.sk_prog.specs.declared.expr.PEForm.TheVariants as pform
use Rattle.sk_prog.specs.declared.stmt.PStmt.{PStmt}
use Rattle.sk_prog.specs.declared.stmt.PForm.{PForm}
use Rattle.sk_prog.specs.declared.stmt.PForm.TheVariants as act
use Rattle.sk_types_rules.specs.declared.scope.Variable.{Variable}
use Rattle.sk_types_rules.specs.Rules.{◌>>=◌, only_if, int, bit}
use Rattle.sk_types_rules.specs.Scope.{lookup, is_taken, Context, meaning_of}
use Rattle.sk_types_rules.specs.Constants.{constant_number}
use Rattle.sk_types_rules.specs.Sorts.{target_type, first_target, kept_targets, written_type}
use Rattle.sk_types_rules.specs.Types.{may_reorder}
use Rattle.sk_types_laws.specs.declared.found.Called.{Called}
use Rattle.sk_types_laws.specs.Elaborate.{typed, all_at, callee_meant, called}
use Rattle.sk_types_laws.specs.Parts.{part, ats, arguments}

-- what is made, and the variables in scope after it
pub record Made (A : Type 0) : Type 0 where
  pub made : A
  pub scope : List Variable

abbrev pub makes : {A : Type 0} → A → List Variable → Option (Made A)
makes a s = Some (record { made = a; scope = s })

abbrev pub Maker : Type 0 → Type 0
Maker A = List Variable → Option (Made A)

-- Expressions

-- an expression at a type
unfoldable pub value_at : Context → List Variable → Ty → Expr → Option PExpr
value_at context scope t e = (part context scope e).at t

abbrev pub any_value_at : Context → List Variable → Ty → Option Expr → Option (Option PExpr)
any_value_at context scope t None = Some None
any_value_at context scope t (Some e) = value_at context scope t e >>= λ p. Some (Some p)

-- a pattern as target, which has the type of its first string that is one
abbrev pub pattern_target : Context → List Variable → Span → List Expr → Option Ty → Option PExpr
pattern_target context scope s es None = None
pattern_target context scope s es (Some t) = all_at t (ats context scope (kept_targets context scope t es)) >>= λ ps. Some (typed s t (pform.Pattern ps))

abbrev pub eform_strings : E.EForm-F (EForm × Option (List Expr)) (Expr × Unit {0}) (NewField × Unit {0}) → Option (List Expr)
eform_strings (E.Pattern pattern es) = Some (map (λ e. e.0) es)
eform_strings _ = None

-- the strings of a form that is a pattern
abbrev pub strings_in : EForm → Option (List Expr)
strings_in = para-EForm (Option (List Expr)) (Unit {0}) (Unit {0}) eform_strings (λ x. tt) (λ x. tt)

abbrev pub form_target : Context → List Variable → Span → EForm → Option PExpr
form_target context scope s f = strings_in f >>= λ es. pattern_target context scope s es (first_target context scope es)

abbrev pub target_in : Context → List Variable → Expr → Option Ty → Option PExpr
target_in context scope e (Some t) = value_at context scope t e
target_in context scope e None = form_target context scope e.span e.form

-- what is assigned to
unfoldable pub target_at : Context → List Variable → Expr → Option PExpr
target_at context scope e = target_in context scope e (target_type context scope e)

-- the name and the arguments of a call
pub record CallIn : Type 0 where
  pub name : List ℕ
  pub args : List Expr

abbrev pub eform_call_in : E.EForm-F (EForm × Option CallIn) (Expr × Unit {0}) (NewField × Unit {0}) → Option CallIn
eform_call_in (E.Call x es) = Some (record { name = x; args = map (λ e. e.0) es })
eform_call_in _ = None

-- what a form that is a call calls
abbrev pub call_in : EForm → Option CallIn
call_in = para-EForm (Option CallIn) (Unit {0}) (Unit {0}) eform_call_in (λ x. tt) (λ x. tt)

abbrev pub called_in : Context → List Variable → Span → CallIn → Option PExpr
called_in context scope s c = called (callee_meant context.top (meaning_of context.top scope c.name)) (arguments context scope c.args) >>= λ (c : Called). Some (record { span = s; ty = c.result; form = c.form })

abbrev pub form_call : Context → List Variable → Span → EForm → Option PExpr
form_call context scope s f = call_in f >>= λ c. called_in context scope s c

-- a call as it stands, which needs no result
unfoldable pub call_of : Context → List Variable → Expr → Option PExpr
call_of context scope e = form_call context scope e.span e.form

abbrev pub form_count : Context → List Variable → Expr → EForm → Option PExpr
form_count context scope e (eform.Hole n) = (part context scope e).at int
form_count context scope e _ = constant_number context scope e >>= λ n. only_if (nat_le n 64) (typed e.span int (pform.Number n))

-- the count of a repeat: a hole, or a constant, which becomes its number
unfoldable pub count_at : Context → List Variable → Expr → Option PExpr
count_at context scope e = form_count context scope e e.form

-- Statements

-- what is made does not leave its variables in scope
abbrev pub inside : {A : Type 0} → (ℕ → Maker A) → ℕ → Maker A
inside {A = A} m from scope = m from scope >>= λ (a : Made A). makes a.made (take (length scope) a.scope)

abbrev pub any_inside : Option (ℕ → Maker PStmt) → ℕ → Maker (Option PStmt)
any_inside None from scope = makes None scope
any_inside (Some m) from scope = inside m from scope >>= λ (a : Made PStmt). makes (Some a.made) a.scope

-- statements that follow each other in one block
abbrev pub in_order : List (ℕ → Maker PStmt) → ℕ → Maker (List PStmt)
in_order [] from scope = makes [] scope
in_order (m ∷ ms) from scope = m from scope >>= λ (p : Made PStmt). in_order ms from p.scope >>= λ (ps : Made (List PStmt)). makes (p.made ∷ ps.made) ps.scope

-- a block of its own begins with the next variable
abbrev pub block : List (ℕ → Maker PStmt) → Maker (List PStmt)
block ms scope = inside (in_order ms) (length scope) scope

abbrev pub reordered : Made (List PStmt) → Option (Made PForm)
reordered ps = if may_reorder ps.made then makes (act.Reorder ps.made) ps.scope else None

module _ (context : Context) where
  abbrev pub declare : ℕ → List Variable → TyTree → Declared → Option (Made PForm)
  declare from scope y d =
      if is_taken from (lookup scope d.name) then None else
      (written_type context scope y >>= λ t. any_value_at context scope t d.value >>= λ v. makes (act.Declare (length scope) d.name t v) (scope ++ record { name = d.name; ty = t } ∷ []))

  abbrev pub declare_one : ℕ → List Variable → TyTree → List Declared → Option (Made PForm)
  declare_one from scope y (d ∷ []) = declare from scope y d
  declare_one from scope y _ = None

  abbrev pub assign_to : List Variable → Expr → PExpr → Option (Made PForm)
  assign_to scope e p = p.ty >>= λ t. value_at context scope t e >>= λ q. makes (act.Assign p q) scope

  abbrev pub returned : List Variable → Option Ty → Option Expr → Option (Made PForm)
  returned scope None None = makes (act.Return None) scope
  returned scope (Some t) (Some e) = value_at context scope t e >>= λ p. makes (act.Return (Some p)) scope
  returned scope None (Some e) = None
  returned scope (Some t) None = None

module _ (context : Context) (result : Option Ty) where
  abbrev pub form_made : F.Form-F (ℕ → Maker PForm) (ℕ → Maker PStmt) → ℕ → Maker PForm
  form_made (F.Block ms) from scope = block ms scope >>= λ (ps : Made (List PStmt)). makes (act.Block ps.made) ps.scope
  form_made (F.Declare y ds) from scope = declare_one context from scope y ds
  form_made (F.Assign x e) from scope = target_at context scope x >>= λ p. assign_to context scope e p
  form_made (F.Call e) from scope = call_of context scope e >>= λ p. makes (act.Call p) scope
  form_made (F.If c a b) from scope = value_at context scope bit c >>= λ p. inside a from scope >>= λ (q : Made PStmt). any_inside b from q.scope >>= λ (r : Made (Option PStmt)). makes (act.If p q.made r.made) r.scope
  form_made (F.While c a) from scope = value_at context scope bit c >>= λ p. inside a from scope >>= λ (q : Made PStmt). makes (act.While p q.made) q.scope
  form_made (F.Return e) from scope = returned context scope result e
  form_made (F.Assert e) from scope = value_at context scope bit e >>= λ p. makes (act.Assert p) scope
  form_made (F.Assume e) from scope = value_at context scope bit e >>= λ p. makes (act.Assume p) scope
  form_made (F.Minimize e) from scope = value_at context scope int e >>= λ p. makes (act.Minimize p) scope
  form_made (F.Repeat c a) from scope = count_at context scope c >>= λ p. inside a from scope >>= λ (q : Made PStmt). makes (act.Repeat p (q.made ∷ [])) q.scope
  form_made (F.MinRepeat a) from scope = inside a from scope >>= λ (q : Made PStmt). makes (act.MinRepeat (q.made ∷ [])) q.scope
  form_made (F.Reorder ms) from scope = block ms scope >>= λ ps. reordered ps
  form_made F.Empty from scope = None
  form_made (F.Step kind target by) from scope = None
  form_made (F.For a c n b) from scope = None

  abbrev pub stmt_made : F.Stmt-F (ℕ → Maker PForm) (ℕ → Maker PStmt) → ℕ → Maker PStmt
  stmt_made x from scope = x.form from scope >>= λ (a : Made PForm). makes (record { span = x.span; form = a.made }) a.scope

  abbrev pub make_form : Form → ℕ → Maker PForm
  make_form = fold-Form (ℕ → Maker PForm) (ℕ → Maker PStmt) form_made stmt_made

  abbrev pub make : Stmt → ℕ → Maker PStmt
  make = fold-Stmt (ℕ → Maker PForm) (ℕ → Maker PStmt) form_made stmt_made

  abbrev pub make_all : List Stmt → ℕ → Maker (List PStmt)
  make_all es = in_order (map make es)
