-- For each site of a part whether it stands, with a flag that tells whether the part stands itself: the words of what stands,
-- by which nothing but marks is said.
use Rattle.std.specs.Prelude.{ℕ, suc, ◌+◌, ◌-◌, ◌==◌, List, [], ◌∷◌, ◌++◌, map, length, replicate, Bool, ◌&&◌, nat_lt, Option, Some, None, if◌then◌else◌}
use Rattle.sk_base.specs.declared.span.Span.{Span}
use Rattle.sk_prog.specs.declared.ty.Ty.{Ty}
use Rattle.sk_prog.specs.declared.expr.PExpr.{PExpr}
use Rattle.sk_prog.specs.declared.expr.PEForm.TheOpen as P
use Rattle.sk_prog.specs.declared.expr.PEForm.TheFolds.{fold-PExpr}
use Rattle.sk_prog.specs.declared.stmt.PStmt.{PStmt}
use Rattle.sk_prog.specs.declared.stmt.PForm.TheOpen as S
use Rattle.sk_prog.specs.declared.stmt.PForm.TheFolds.{fold-PStmt}
use Rattle.sk_model.specs.Parts.{value}
use Rattle.sk_model.specs.Sites.{is_hole}
use Rattle.sk_model.specs.Stands.{hole_count}

-- How many sites a part has, and their marks where its first site has a place.
pub record Marking : Type 0 where
  pub count : ℕ
  pub at : Bool → ℕ → List Bool

-- so many sites that stand where the part does
abbrev pub own : ℕ → Marking
own n = record { count = n; at = λ b i. replicate n b }

abbrev pub beside : Marking → Marking → Marking
beside p q = record { count = p.count + q.count; at = λ b i. p.at b i ++ q.at b (i + p.count) }

abbrev pub in_row : List Marking → Marking
in_row [] = own 0
in_row (p ∷ ps) = beside p (in_row ps)

abbrev pub if_there : Option Marking → Marking
if_there None = own 0
if_there (Some p) = p

abbrev pub counts : List Marking → ℕ
counts [] = 0
counts (p ∷ ps) = p.count + counts ps

-- a part that stands where the whole does and a test is met
abbrev pub where_met : Bool → Marking → Marking
where_met c p = record { count = p.count; at = λ b i. p.at (c && b) i }

-- of these parts, of which the first has number k, those stand whose number meets a test
abbrev pub some_of : (ℕ → Bool) → ℕ → List Marking → List Marking
some_of test k [] = []
some_of test k (p ∷ ps) = where_met (test k) p ∷ some_of test (k + 1) ps

-- the one with number v stands; the first v stand
abbrev pub is_one : ℕ → ℕ → Bool
is_one v n = n == v

abbrev pub is_first : ℕ → ℕ → Bool
is_first v n = nat_lt n v

module _ (values : List ℕ) where
  -- one site, whose value says which of the parts after it stand
  abbrev pub by_value : (ℕ → ℕ → Bool) → List Marking → Marking
  by_value test ps = record { count = suc (counts ps); at = λ b i. b ∷ (in_row (some_of (test (value values i)) 0 ps)).at b (i + 1) }

  abbrev pub eform_marking : P.PEForm-F (Option Ty → Marking) Marking Marking → Option Ty → Marking
  eform_marking (P.Hole width) t = own (hole_count t)
  eform_marking (P.Pattern strings) t = by_value is_one strings
  eform_marking (P.Call f args) t = in_row args
  eform_marking (P.Number n) t = own 0
  eform_marking P.True t = own 0
  eform_marking P.False t = own 0
  eform_marking P.Null t = own 0
  eform_marking (P.Var slot name) t = own 0
  eform_marking (P.Const c) t = own 0
  eform_marking (P.Paren e) t = e
  eform_marking (P.New s fields) t = in_row fields
  eform_marking (P.Braces es) t = in_row es
  eform_marking (P.Member e s field) t = e
  eform_marking (P.Index e i) t = beside e i
  eform_marking (P.Slice e i n) t = beside e i
  eform_marking (P.Unary op e) t = e
  eform_marking (P.Binary op a b) t = beside a b
  eform_marking (P.Cond c a b) t = beside c (beside a b)
  eform_marking (P.ToInt e) t = e
  eform_marking (P.Pad e) t = e

  abbrev pub expr_marking : PExpr → Marking
  expr_marking = fold-PExpr (Option Ty → Marking) Marking Marking eform_marking (λ e. e.form e.ty) (λ x. x.value)

  abbrev pub value_marking : Option PExpr → Marking
  value_marking None = own 0
  value_marking (Some e) = expr_marking e

  -- all copies of a repeat by a constant stand, and of a repeat by a hole as many as its value says
  abbrev pub repeat_marking : PExpr → List Marking → Marking
  repeat_marking count copies = if is_hole count.form then by_value is_first copies else in_row copies

  abbrev pub form_marking : S.PForm-F Marking Marking → Marking
  form_marking (S.Repeat count copies) = repeat_marking count copies
  form_marking (S.MinRepeat copies) = by_value is_first copies
  form_marking (S.Reorder ss) = beside (own (length ss - 1)) (in_row ss)
  form_marking (S.Block ss) = in_row ss
  form_marking (S.Declare slot name t value) = value_marking value
  form_marking (S.Assign target value) = beside (expr_marking target) (expr_marking value)
  form_marking (S.Call e) = expr_marking e
  form_marking (S.If c a b) = beside (expr_marking c) (beside a (if_there b))
  form_marking (S.While c a) = beside (expr_marking c) a
  form_marking (S.Return value) = value_marking value
  form_marking (S.Assert e) = expr_marking e
  form_marking (S.Assume e) = expr_marking e
  form_marking (S.Minimize e) = expr_marking e

  abbrev pub stmt_marking : PStmt → Marking
  stmt_marking = fold-PStmt Marking Marking form_marking (λ s. s.form)

  abbrev pub body_marking : List PStmt → Marking
  body_marking ss = in_row (map stmt_marking ss)
