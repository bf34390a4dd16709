-- What lists of sites the parts of a program have, and what a list of sites that goes on says.
use Rattle.std.specs.Prelude.{◌≡◌, ⊤, ℕ, ◌+◌, ◌<◌, List, [], ◌∷◌, ◌++◌, map, Option, option_map, length, Result, Ok, Err, ◌⊎◌}
use Rattle.sk_base.specs.declared.span.Span.{Span}
use Rattle.sk_base.specs.declared.bounds.Bounds.{Bounds}
use Rattle.sk_prog.specs.declared.ty.Ty.{Ty}
use Rattle.sk_prog.specs.declared.expr.PExpr.{PExpr}
use Rattle.sk_prog.specs.declared.expr.PField.{PField}
use Rattle.sk_prog.specs.declared.expr.PEForm.TheFolds.{fold-PField}
use Rattle.sk_prog.specs.declared.stmt.PStmt.{PStmt}
use Rattle.sk_model.specs.declared.expanded.Site.{Site}
use Rattle.sk_model.specs.Parts.{joined}
use Rattle.sk_model.specs.Limits.{most_sites}
use Rattle.sk_model.specs.Sites.{Open, eform_sites, expr_sites, any_sites, stmt_sites}
use Rattle.sk_expand_sites.specs.declared.fault.SitesFault.{SitesFault}
use Rattle.sk_expand_sites.specs.declared.fault.SitesFault.TheVariants.{TooMany, Memory}

module _ (bounds : Bounds) where
  abbrev pub exprs_sites : List PExpr → List Site
  exprs_sites es = joined (map (expr_sites bounds) es)

  abbrev pub field_sites : PField → List Site
  field_sites = fold-PField (Open bounds) (List Site) (List Site) (eform_sites bounds) (λ e. e.form e.ty e.span) (λ x. x.value)

  abbrev pub fields_sites : List PField → List Site
  fields_sites xs = joined (map field_sites xs)

  abbrev pub branch_sites : Option PStmt → List Site
  branch_sites s = any_sites bounds (option_map (stmt_sites bounds) s)

-- These sites were put behind those that there were. There are too many exactly where they would be more than
-- 4,096 with them.
abbrev pub Lists : Result Unit SitesFault → List Site → List Site → List Site → Type 0
Lists (Ok u) old new more = new ≡ old ++ more
Lists (Err TooMany) old new more = most_sites < length old + length more
Lists (Err Memory) old new more = ⊤

-- a fault is of want of memory, or there are more sites than there may be
abbrev pub IsTooMany : List Site → SitesFault → Type 0
IsTooMany ss TooMany = most_sites < length ss
IsTooMany ss Memory = ⊤

abbrev pub IsTooManyOrMemory : SitesFault → Type 0
IsTooManyOrMemory fault = (fault ≡ TooMany) ⊎ (fault ≡ Memory)
