-- The sites of a program: the places that it leaves open, in the order of its text. The sites of a
-- construct itself stand before those inside it. A site has the span of its construct, and says how
-- many values it may have.
--   an integer hole of b bits: one of size 2^b
--   a bit hole: one of size 2
--   a hole of n bits: n of size 2, index 0 first
--   a repeat by a hole, and a minrepeat, that holds m copies: one of size m + 1
--   a reorder of n statements: n - 1, of sizes 2, 3, up to n
--   a pattern: one, of its number of strings
-- The functions stand in their order. No constant has a site, and the hole that counts a repeat is not
-- one beside the repeat's own.
use Rattle.std.specs.Prelude.{ℕ, zero, suc, ◌+◌, ◌-◌, ◌^◌, List, [], ◌∷◌, ◌++◌, map, length, replicate, Bool, true, false, Option, Some, None, if◌then◌else◌}
use Rattle.sk_base.specs.declared.span.Span.{Span}
use Rattle.sk_base.specs.declared.bounds.Bounds.{Bounds}
use Rattle.sk_prog.specs.declared.ty.Ty.{Ty}
use Rattle.sk_prog.specs.declared.ty.Ty.TheVariants as ty
use Rattle.sk_prog.specs.declared.ty.Elem.TheVariants as elem
use Rattle.sk_prog.specs.declared.expr.PExpr.{PExpr}
use Rattle.sk_prog.specs.declared.expr.PEForm.{PEForm}
use Rattle.sk_prog.specs.declared.expr.PEForm.TheVariants as eform
use Rattle.sk_prog.specs.declared.expr.PEForm.TheOpen as P
use Rattle.sk_prog.specs.declared.expr.PEForm.TheFolds.{fold-PExpr}
use Rattle.sk_prog.specs.declared.stmt.PStmt.{PStmt}
use Rattle.sk_prog.specs.declared.stmt.PForm.TheOpen as S
use Rattle.sk_prog.specs.declared.stmt.PForm.TheFolds.{fold-PStmt}
use Rattle.sk_prog.specs.declared.prog.Fun.{Fun}
use Rattle.sk_prog.specs.declared.prog.Prog.{Prog}
use Rattle.sk_model.specs.declared.expanded.Site.{Site}
use Rattle.sk_model.specs.Parts.{joined}

abbrev pub site : ℕ → Span → Site
site size span = record { size = size; span = span }

-- how many bits an integer hole has: as many as it names, or else the width for all holes
abbrev pub hole_bits : Bounds → Option ℕ → ℕ
hole_bits bounds (Some bits) = bits
hole_bits bounds None = bounds.cbits

-- The type of a hole decides: a bit, some bits, or an integer. No hole has another type.
abbrev pub hole_sites : Bounds → Option ℕ → Option Ty → Span → List Site
hole_sites bounds width (Some (ty.One elem.Bit)) span = site 2 span ∷ []
hole_sites bounds width (Some (ty.Array elem.Bit n)) span = replicate n (site 2 span)
hole_sites bounds width _ span = site (2 ^ hole_bits bounds width) span ∷ []

-- so many sites, each with one value more than the one before it
abbrev pub places : ℕ → ℕ → Span → List Site
places size zero span = []
places size (suc n) span = site size span ∷ places (size + 1) n span

abbrev pub is_hole : PEForm → Bool
is_hole (eform.Hole width) = true
is_hole _ = false

-- the site of a repeat with this count, which a hole has and a constant has not
abbrev pub repeat_sites : PExpr → ℕ → Span → List Site
repeat_sites count copies span = if is_hole count.form then site (copies + 1) span ∷ [] else []

module _ (bounds : Bounds) where
  -- The form of an expression has a type and a span round it.
  abbrev pub Open : Type 0
  Open = Option Ty → Span → List Site

  abbrev pub eform_sites : P.PEForm-F Open (List Site) (List Site) → Open
  eform_sites (P.Hole width) t span = hole_sites bounds width t span
  eform_sites (P.Pattern strings) t span = site (length strings) span ∷ joined strings
  eform_sites (P.Number n) t span = []
  eform_sites P.True t span = []
  eform_sites P.False t span = []
  eform_sites P.Null t span = []
  eform_sites (P.Var slot name) t span = []
  eform_sites (P.Const c) t span = []
  eform_sites (P.Paren e) t span = e
  eform_sites (P.Call f args) t span = joined args
  eform_sites (P.New s fields) t span = joined fields
  eform_sites (P.Braces es) t span = joined es
  eform_sites (P.Member e s field) t span = e
  eform_sites (P.Index e i) t span = e ++ i
  eform_sites (P.Slice e i n) t span = e ++ i
  eform_sites (P.Unary op e) t span = e
  eform_sites (P.Binary op a b) t span = a ++ b
  eform_sites (P.Cond c a b) t span = c ++ (a ++ b)
  eform_sites (P.ToInt e) t span = e
  eform_sites (P.Pad e) t span = e

  abbrev pub expr_sites : PExpr → List Site
  expr_sites = fold-PExpr Open (List Site) (List Site) eform_sites (λ e. e.form e.ty e.span) (λ x. x.value)

  abbrev pub value_sites : Option PExpr → List Site
  value_sites (Some e) = expr_sites e
  value_sites None = []

  abbrev pub any_sites : Option (List Site) → List Site
  any_sites (Some ss) = ss
  any_sites None = []

  abbrev pub form_sites : S.PForm-F (Span → List Site) (List Site) → Span → List Site
  form_sites (S.Repeat count copies) span = repeat_sites count (length copies) span ++ joined copies
  form_sites (S.MinRepeat copies) span = site (length copies + 1) span ∷ joined copies
  form_sites (S.Reorder ss) span = places 2 (length ss - 1) span ++ joined ss
  form_sites (S.Block ss) span = joined ss
  form_sites (S.Declare slot name t value) span = value_sites value
  form_sites (S.Assign target value) span = expr_sites target ++ expr_sites value
  form_sites (S.Call e) span = expr_sites e
  form_sites (S.If c a b) span = expr_sites c ++ (a ++ any_sites b)
  form_sites (S.While c a) span = expr_sites c ++ a
  form_sites (S.Return value) span = value_sites value
  form_sites (S.Assert e) span = expr_sites e
  form_sites (S.Assume e) span = expr_sites e
  form_sites (S.Minimize e) span = expr_sites e

  abbrev pub stmt_sites : PStmt → List Site
  stmt_sites = fold-PStmt (Span → List Site) (List Site) form_sites (λ s. s.form s.span)

  abbrev pub stmts_sites : List PStmt → List Site
  stmts_sites ss = joined (map stmt_sites ss)

  abbrev pub funs_sites : List Fun → List Site
  funs_sites [] = []
  funs_sites (f ∷ fs) = stmts_sites f.body ++ funs_sites fs

  abbrev pub sites : Prog → List Site
  sites p = funs_sites p.funs
