-- What calls and pays in a program whatever is chosen, each with the tests of a choice under which it stands: a string
-- of a pattern stands where its site takes the string's number, and a copy of a repeat where its site exceeds the
-- copy's. It is fixed before any choice.
--
-- It is said by one layer: a part knows how many sites it has, and what calls and pays in it where its first site has a
-- given place and the tests of what is round it are given, the innermost first.
use Rattle.std.specs.Prelude.{ℕ, suc, ◌+◌, ◌-◌, ◌==◌, nat_lt, List, [], ◌∷◌, ◌++◌, map, length, Bool, true, ◌&&◌, Option, Some, None, if◌then◌else◌}
use Rattle.sk_base.specs.declared.span.Span.{Span}
use Rattle.sk_prog.specs.declared.ty.Ty.{Ty}
use Rattle.sk_prog.specs.declared.expr.PExpr.{PExpr}
use Rattle.sk_prog.specs.declared.expr.PEForm.TheOpen as P
use Rattle.sk_prog.specs.declared.expr.PEForm.TheFolds.{fold-PExpr}
use Rattle.sk_prog.specs.declared.stmt.PStmt.{PStmt}
use Rattle.sk_prog.specs.declared.stmt.PForm.TheOpen as S
use Rattle.sk_prog.specs.declared.stmt.PForm.TheFolds.{fold-PStmt}
use Rattle.sk_model.specs.Parts.{Part, counts, value}
use Rattle.sk_model.specs.Sites.{is_hole}
use Rattle.sk_model.specs.Stands.{Payment, hole_count}
use Rattle.sk_sym_choices.specs.declared.guard.Test.{Test}
use Rattle.sk_sym_choices.specs.declared.guard.Test.TheVariants.{Takes, Exceeds}
use Rattle.sk_sym_choices.specs.declared.guard.Called.{Called}
use Rattle.sk_sym_choices.specs.declared.guard.Owed.{Owed}

-- Tests

abbrev pub meets : List ℕ → Test → Bool
meets values (Takes site k) = value values site == k
meets values (Exceeds site k) = nat_lt k (value values site)

abbrev pub meets_all : List ℕ → List Test → Bool
meets_all values [] = true
meets_all values (t ∷ ts) = meets values t && meets_all values ts

-- the functions that are called under a choice
abbrev pub called_under : List ℕ → List Called → List ℕ
called_under values [] = []
called_under values (c ∷ cs) = if meets_all values c.tests then c.f ∷ called_under values cs else called_under values cs

-- what is paid under a choice
abbrev pub paid_under : List ℕ → List Owed → List Payment
paid_under values [] = []
paid_under values (o ∷ os) = if meets_all values o.tests then record { span = o.span; amount = value values o.site } ∷ paid_under values os else paid_under values os

-- Parts

pub record Guarded : Type 0 where
  pub called : List Called
  pub owed : List Owed

abbrev pub none : Guarded
none = record { called = []; owed = [] }

abbrev pub together : Guarded → Guarded → Guarded
together a b = record { called = a.called ++ b.called; owed = a.owed ++ b.owed }

abbrev pub Guards : Type 0
Guards = Part (List Test → Guarded)

-- so many sites, and nothing else
abbrev pub sites_alone : ℕ → Guards
sites_alone n = record { count = n; at = λ i ts. none }

abbrev pub both : Guards → Guards → Guards
both p q = record { count = p.count + q.count; at = λ i ts. together (p.at i ts) (q.at (i + p.count) ts) }

abbrev pub in_line : List Guards → Guards
in_line [] = sites_alone 0
in_line (p ∷ ps) = both p (in_line ps)

abbrev pub optional : Option Guards → Guards
optional None = sites_alone 0
optional (Some p) = p

-- a part under one more test
abbrev pub under : Test → Guards → Guards
under t p = record { count = p.count; at = λ i ts. p.at i (t ∷ ts) }

-- parts, of which the first has number k, each under its own test
abbrev pub each_under : (ℕ → Test) → ℕ → List Guards → Guards
each_under test k [] = sites_alone 0
each_under test k (p ∷ ps) = both (under (test k) p) (each_under test (k + 1) ps)

-- one site, and parts of which each stands by a test of its value
abbrev pub by_site : (ℕ → ℕ → Test) → List Guards → Guards
by_site test ps = record { count = suc (counts ps); at = λ i ts. (each_under (test i) 0 ps).at (i + 1) ts }

abbrev pub takes : ℕ → ℕ → Test
takes site k = Takes site k

abbrev pub exceeds : ℕ → ℕ → Test
exceeds site k = Exceeds site k

abbrev pub with_call : ℕ → Guards → Guards
with_call f p = record { count = p.count; at = λ i ts. together (record none { called = record { f = f; tests = ts } ∷ [] }) (p.at i ts) }

abbrev pub with_owed : Span → Guards → Guards
with_owed span p = record { count = p.count; at = λ i ts. together (record none { owed = record { span = span; site = i; tests = ts } ∷ [] }) (p.at i ts) }

-- Expressions and statements

abbrev pub eform_guards : P.PEForm-F (Option Ty → Guards) Guards Guards → Option Ty → Guards
eform_guards (P.Hole width) t = sites_alone (hole_count t)
eform_guards (P.Pattern strings) t = by_site takes strings
eform_guards (P.Call f args) t = with_call f.index (in_line args)
eform_guards (P.Number n) t = sites_alone 0
eform_guards P.True t = sites_alone 0
eform_guards P.False t = sites_alone 0
eform_guards P.Null t = sites_alone 0
eform_guards (P.Var slot name) t = sites_alone 0
eform_guards (P.Const c) t = sites_alone 0
eform_guards (P.Paren e) t = e
eform_guards (P.New s fields) t = in_line fields
eform_guards (P.Braces es) t = in_line es
eform_guards (P.Member e s field) t = e
eform_guards (P.Index e i) t = both e i
eform_guards (P.Slice e i n) t = both e i
eform_guards (P.Unary op e) t = e
eform_guards (P.Binary op a b) t = both a b
eform_guards (P.Cond c a b) t = both c (both a b)
eform_guards (P.ToInt e) t = e
eform_guards (P.Pad e) t = e

abbrev pub expr_guards : PExpr → Guards
expr_guards = fold-PExpr (Option Ty → Guards) Guards Guards eform_guards (λ e. e.form e.ty) (λ x. x.value)

abbrev pub value_guards : Option PExpr → Guards
value_guards None = sites_alone 0
value_guards (Some e) = expr_guards e

-- all copies of a repeat by a constant stand, and of a repeat by a hole those whose number its site exceeds
abbrev pub repeat_guards : PExpr → List Guards → Guards
repeat_guards count copies = if is_hole count.form then by_site exceeds copies else in_line copies

abbrev pub form_guards : S.PForm-F (Span → Guards) Guards → Span → Guards
form_guards (S.Repeat count copies) span = repeat_guards count copies
form_guards (S.MinRepeat copies) span = with_owed span (by_site exceeds copies)
form_guards (S.Reorder ss) span = both (sites_alone (length ss - 1)) (in_line ss)
form_guards (S.Block ss) span = in_line ss
form_guards (S.Declare slot name t value) span = value_guards value
form_guards (S.Assign target value) span = both (expr_guards target) (expr_guards value)
form_guards (S.Call e) span = expr_guards e
form_guards (S.If c a b) span = both (expr_guards c) (both a (optional b))
form_guards (S.While c a) span = both (expr_guards c) a
form_guards (S.Return value) span = value_guards value
form_guards (S.Assert e) span = expr_guards e
form_guards (S.Assume e) span = expr_guards e
form_guards (S.Minimize e) span = expr_guards e

abbrev pub stmt_guards : PStmt → Guards
stmt_guards = fold-PStmt (Span → Guards) Guards form_guards (λ s. s.form s.span)

abbrev pub body_guards : List PStmt → Guards
body_guards ss = in_line (map stmt_guards ss)
