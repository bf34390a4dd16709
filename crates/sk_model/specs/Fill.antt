-- What a program becomes under a choice, a value for each of its sites.
--   an integer or bit hole: its number; a hole of n bits: braces of n bits
--   a pattern: the string that is chosen, filled, in parentheses unless it is of the tightest level (as
--     each target is)
--   a repeat by a hole and a minrepeat: a block of the first v copies; a repeat by a constant: of all
--   a reorder: a block of its statements. The list starts with the first; each later one is put in so that
--     as many of those before it stand after it as its digit says
-- Each harness begins with `minimize(v);` for each minrepeat that stands, in order of the sites, v its
-- value. Copies that do not stand are left out, and the calls have the new numbers; ordinary functions
-- keep theirs.
--
-- What is made has the span of what it replaces: a number, braces and each bit in them that of the hole,
-- a string and the parentheses round it that of the pattern, a block that of its repeat or reorder, and
-- a `minimize` and its number that of its minrepeat. The string and the parentheses have the pattern's
-- type.
use Rattle.std.specs.Prelude.{ℕ, zero, suc, ◌+◌, ◌-◌, ◌<◌, List, [], ◌∷◌, ◌++◌, map, length, take, insert, Bool, true, false, Option, Some, None, if◌then◌else◌}
use Rattle.sk_base.specs.declared.span.Span.{Span}
use Rattle.sk_prog.specs.declared.ids.FunId.{FunId}
use Rattle.sk_prog.specs.declared.ty.Ty.{Ty}
use Rattle.sk_prog.specs.declared.ty.Ty.TheVariants as ty
use Rattle.sk_prog.specs.declared.ty.Elem.TheVariants as elem
use Rattle.sk_prog.specs.declared.expr.PExpr.{PExpr}
use Rattle.sk_prog.specs.declared.expr.PField.{PField}
use Rattle.sk_prog.specs.declared.expr.PEForm.{PEForm}
use Rattle.sk_prog.specs.declared.expr.PEForm.TheVariants as eform
use Rattle.sk_prog.specs.declared.expr.PEForm.TheOpen as P
use Rattle.sk_prog.specs.declared.expr.PEForm.TheFolds.{fold-PExpr}
use Rattle.sk_prog.specs.declared.stmt.PStmt.{PStmt}
use Rattle.sk_prog.specs.declared.stmt.PForm.{PForm}
use Rattle.sk_prog.specs.declared.stmt.PForm.TheVariants as form
use Rattle.sk_prog.specs.declared.stmt.PForm.TheOpen as S
use Rattle.sk_prog.specs.declared.stmt.PForm.TheFolds.{fold-PStmt}
use Rattle.sk_prog.specs.declared.prog.FunKind.{FunKind}
use Rattle.sk_prog.specs.declared.prog.FunKind.TheVariants as kind
use Rattle.sk_prog.specs.declared.prog.Fun.{Fun}
use Rattle.sk_prog.specs.declared.prog.Prog.{Prog}
use Rattle.sk_model.specs.declared.expanded.Site.{Site}
use Rattle.sk_model.specs.declared.expanded.Choice.{Choice}
use Rattle.sk_model.specs.declared.expanded.Expanded.{Expanded}
use Rattle.sk_model.specs.Parts.{Part, counts, in_turn, pick, value, rank}
use Rattle.sk_model.specs.Slots.{with_body}
use Rattle.sk_model.specs.Sites.{is_hole}
use Rattle.sk_model.specs.Stands.{Payment, FunStanding, standing, funs_stand, all_paid}

-- one value for each site, and each below its site's size
abbrev pub Fits : List Site → List ℕ → Type 0
Fits [] [] = Unit {0}
Fits (s ∷ ss) (v ∷ vs) = (v < s.size) × Fits ss vs
Fits _ _ = ⊥

pub record InRange (e : Expanded) (a : Choice) : Type 0 where
  pub fits : Fits e.sites a.values

-- Strings of patterns

-- whether a form is of the tightest level; a coercion is as its content, since it is not written
abbrev pub tight_form : P.PEForm-F Bool Bool (Unit {0}) → Bool
tight_form (P.Unary op e) = false
tight_form (P.Binary op a b) = false
tight_form (P.Cond c a b) = false
tight_form (P.ToInt e) = e
tight_form (P.Pad e) = e
tight_form (P.Number n) = true
tight_form P.True = true
tight_form P.False = true
tight_form P.Null = true
tight_form (P.Var slot name) = true
tight_form (P.Const c) = true
tight_form (P.Hole width) = true
tight_form (P.Pattern strings) = true
tight_form (P.Paren e) = true
tight_form (P.Call f args) = true
tight_form (P.New s fields) = true
tight_form (P.Braces es) = true
tight_form (P.Member e s field) = true
tight_form (P.Index e i) = true
tight_form (P.Slice e i n) = true

abbrev pub is_tight : PExpr → Bool
is_tight = fold-PExpr Bool Bool (Unit {0}) tight_form (λ e. e.form) (λ x. tt)

abbrev pub spanned : Span → PExpr → PExpr
spanned span e = record { span = span; ty = e.ty; form = e.form }

-- a chosen string in the place of a pattern with this type and span
abbrev pub chosen : Option Ty → Span → PExpr → PExpr
chosen t span e = if is_tight e then spanned span e else record { span = span; ty = t; form = eform.Paren (spanned span e) }

-- what stands for a string that is not there, which no choice in range takes
abbrev pub no_string : PExpr
no_string = record { span = record { from = 0; to = 0 }; ty = None; form = eform.Null }

-- Orders

-- the digit of the statement after so many others of a reorder, whose digits stand from place i on; the
-- first statement has none
abbrev pub digit : List ℕ → ℕ → ℕ → ℕ
digit values i zero = 0
digit values i (suc k) = value values (i + k)

-- Each is put in among those placed, so that as many of them stand after it as its digit says.
abbrev pub arrange : {A : Type 0} → List ℕ → ℕ → List A → List A → List A
arrange values i placed [] = placed
arrange values i placed (x ∷ xs) = arrange values i (insert placed (length placed - digit values i (length placed)) x) xs

-- Expressions and statements

module _ (values : List ℕ) (number : ℕ → ℕ) where
  -- The form of an expression has a type and a span round it.
  abbrev pub Opened : Type 0
  Opened = Option Ty → Span → Part PExpr

  -- a form with so many sites inside it
  abbrev pub kept : ℕ → (ℕ → PEForm) → Opened
  kept n form t span = record { count = n; at = λ i. record { span = span; ty = t; form = form i } }

  abbrev pub bit_at : Span → ℕ → PExpr
  bit_at span i = record { span = span; ty = Some (ty.One elem.Bit); form = eform.Number (value values i) }

  -- so many bits, of which the first is the value of the site with place i
  abbrev pub bits_at : Span → ℕ → ℕ → List PExpr
  bits_at span zero i = []
  bits_at span (suc n) i = bit_at span i ∷ bits_at span n (i + 1)

  abbrev pub hole_part : Opened
  hole_part (Some (ty.Array elem.Bit n)) span = kept n (λ i. eform.Braces (bits_at span n i)) (Some (ty.Array elem.Bit n)) span
  hole_part t span = kept 1 (λ i. eform.Number (value values i)) t span

  abbrev pub renamed : FunId → FunId
  renamed f = record { index = number f.index }

  abbrev pub eform_part : P.PEForm-F Opened (Part PExpr) (Part PField) → Opened
  eform_part (P.Hole width) t span = hole_part t span
  eform_part (P.Pattern strings) t span = record { count = suc (counts strings); at = λ i. chosen t span (pick no_string strings (value values i) (i + 1)) }
  eform_part (P.Call f args) t span = kept (counts args) (λ i. eform.Call (renamed f) (in_turn args i)) t span
  eform_part (P.Number n) t span = kept 0 (λ i. eform.Number n) t span
  eform_part P.True t span = kept 0 (λ i. eform.True) t span
  eform_part P.False t span = kept 0 (λ i. eform.False) t span
  eform_part P.Null t span = kept 0 (λ i. eform.Null) t span
  eform_part (P.Var slot name) t span = kept 0 (λ i. eform.Var slot name) t span
  eform_part (P.Const c) t span = kept 0 (λ i. eform.Const c) t span
  eform_part (P.Paren e) t span = kept e.count (λ i. eform.Paren (e.at i)) t span
  eform_part (P.New s fields) t span = kept (counts fields) (λ i. eform.New s (in_turn fields i)) t span
  eform_part (P.Braces es) t span = kept (counts es) (λ i. eform.Braces (in_turn es i)) t span
  eform_part (P.Member e s field) t span = kept e.count (λ i. eform.Member (e.at i) s field) t span
  eform_part (P.Index e x) t span = kept (e.count + x.count) (λ i. eform.Index (e.at i) (x.at (i + e.count))) t span
  eform_part (P.Slice e x n) t span = kept (e.count + x.count) (λ i. eform.Slice (e.at i) (x.at (i + e.count)) n) t span
  eform_part (P.Unary op e) t span = kept e.count (λ i. eform.Unary op (e.at i)) t span
  eform_part (P.Binary op a b) t span = kept (a.count + b.count) (λ i. eform.Binary op (a.at i) (b.at (i + a.count))) t span
  eform_part (P.Cond c a b) t span = kept (c.count + (a.count + b.count)) (λ i. eform.Cond (c.at i) (a.at (i + c.count)) (b.at (i + c.count + a.count))) t span
  eform_part (P.ToInt e) t span = kept e.count (λ i. eform.ToInt (e.at i)) t span
  eform_part (P.Pad e) t span = kept e.count (λ i. eform.Pad (e.at i)) t span

  abbrev pub expr_step : P.PExpr-F Opened (Part PExpr) (Part PField) → Part PExpr
  expr_step e = e.form e.ty e.span

  abbrev pub field_step : P.PField-F Opened (Part PExpr) (Part PField) → Part PField
  field_step x = record { count = x.value.count; at = λ i. record { field = x.field; value = x.value.at i } }

  abbrev pub expr_part : PExpr → Part PExpr
  expr_part = fold-PExpr Opened (Part PExpr) (Part PField) eform_part expr_step field_step

  -- what an expression becomes whose first site has place i
  abbrev pub fill_expr : PExpr → ℕ → PExpr
  fill_expr e i = (expr_part e).at i

  abbrev pub value_part : Option PExpr → Part (Option PExpr)
  value_part (Some e) = record { count = (expr_part e).count; at = λ i. Some (fill_expr e i) }
  value_part None = record { count = 0; at = λ i. None }

  abbrev pub any_part : Option (Part PStmt) → Part (Option PStmt)
  any_part (Some s) = record { count = s.count; at = λ i. Some (s.at i) }
  any_part None = record { count = 0; at = λ i. None }

  -- a block of the first copies, as many as the value says
  abbrev pub some_copies : List (Part PStmt) → Part PForm
  some_copies copies = record { count = suc (counts copies); at = λ i. form.Block (take (value values i) (in_turn copies (i + 1))) }

  abbrev pub all_copies : List (Part PStmt) → Part PForm
  all_copies copies = record { count = counts copies; at = λ i. form.Block (in_turn copies i) }

  abbrev pub form_part : S.PForm-F (Part PForm) (Part PStmt) → Part PForm
  form_part (S.Repeat count copies) = if is_hole count.form then some_copies copies else all_copies copies
  form_part (S.MinRepeat copies) = some_copies copies
  form_part (S.Reorder ss) = record { count = (length ss - 1) + counts ss; at = λ i. form.Block (arrange values i [] (in_turn ss (i + (length ss - 1)))) }
  form_part (S.Block ss) = record { count = counts ss; at = λ i. form.Block (in_turn ss i) }
  form_part (S.Declare slot name t init) = record { count = (value_part init).count; at = λ i. form.Declare slot name t ((value_part init).at i) }
  form_part (S.Assign target e) = record { count = (expr_part target).count + (expr_part e).count; at = λ i. form.Assign (fill_expr target i) (fill_expr e (i + (expr_part target).count)) }
  form_part (S.Call e) = record { count = (expr_part e).count; at = λ i. form.Call (fill_expr e i) }
  form_part (S.If c a b) = record { count = (expr_part c).count + (a.count + (any_part b).count); at = λ i. form.If (fill_expr c i) (a.at (i + (expr_part c).count)) ((any_part b).at (i + (expr_part c).count + a.count)) }
  form_part (S.While c a) = record { count = (expr_part c).count + a.count; at = λ i. form.While (fill_expr c i) (a.at (i + (expr_part c).count)) }
  form_part (S.Return init) = record { count = (value_part init).count; at = λ i. form.Return ((value_part init).at i) }
  form_part (S.Assert e) = record { count = (expr_part e).count; at = λ i. form.Assert (fill_expr e i) }
  form_part (S.Assume e) = record { count = (expr_part e).count; at = λ i. form.Assume (fill_expr e i) }
  form_part (S.Minimize e) = record { count = (expr_part e).count; at = λ i. form.Minimize (fill_expr e i) }

  abbrev pub stmt_step : S.PStmt-F (Part PForm) (Part PStmt) → Part PStmt
  stmt_step s = record { count = s.form.count; at = λ i. record { span = s.span; form = s.form.at i } }

  abbrev pub stmt_part : PStmt → Part PStmt
  stmt_part = fold-PStmt (Part PForm) (Part PStmt) form_part stmt_step

  abbrev pub fill_stmts : List PStmt → ℕ → List PStmt
  fill_stmts ss i = in_turn (map stmt_part ss) i

  abbrev pub stmts_count : List PStmt → ℕ
  stmts_count ss = counts (map stmt_part ss)

-- Functions

-- `minimize(v);` for a minrepeat that pays v
abbrev pub minimize_of : Payment → PStmt
minimize_of p = record { span = p.span; form = form.Minimize (record { span = p.span; ty = Some (ty.One elem.Int); form = eform.Number p.amount }) }

-- what stands at the start of a body
abbrev pub before_body : FunKind → List PStmt → List PStmt
before_body kind.Harness paid = paid
before_body _ paid = []

module _ (values : List ℕ) (number : ℕ → ℕ) (paid : List PStmt) where
  abbrev pub fill_fun : Fun → ℕ → Fun
  fill_fun f i = with_body f (before_body f.kind paid ++ fill_stmts values number f.body i)

  -- the functions that stand, filled, of which the first site has place i
  abbrev pub fill_funs : List Bool → List Fun → ℕ → List Fun
  fill_funs (true ∷ bs) (f ∷ fs) i = fill_fun f i ∷ fill_funs bs fs (i + stmts_count values number f.body)
  fill_funs (false ∷ bs) (f ∷ fs) i = fill_funs bs fs (i + stmts_count values number f.body)
  fill_funs _ _ i = []

abbrev pub fill_prog : Prog → List ℕ → List FunStanding → Prog
fill_prog p values ss = record p { funs = fill_funs values (rank (funs_stand ss)) (map minimize_of (all_paid ss)) (funs_stand ss) p.funs 0 }

unfoldable pub fill : Expanded → Choice → Prog
fill e a = fill_prog e.prog a.values (standing e a.values)
