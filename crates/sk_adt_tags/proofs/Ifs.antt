-- What an `if` comes to, from its parts.
use Rattle.std.proofs.Common.{◌≡◌, List, Option, Some, None, option_map, sym, ap, ap₂, subst, ◌∙◌}
use Rattle.std.specs.Option.{option_or}
use Rattle.sk_base.specs.declared.span.Span.{Span}
use Rattle.sk_prog.specs.declared.expr.PExpr.{PExpr}
use Rattle.sk_prog.specs.declared.stmt.PStmt.{PStmt}
use Rattle.sk_prog.specs.declared.stmt.PForm.{PForm}
use Rattle.sk_prog.specs.declared.stmt.PForm.TheVariants as form
use Rattle.sk_prog.specs.declared.stmt.PForm.TheOpen as S
use Rattle.sk_prog.specs.declared.stmt.PForm.TheViews as W
use Rattle.sk_prog.specs.declared.stmt.PForm.TheFolds.{map-PForm, fold-PForm, fold-roll-PForm, fold-roll-PStmt}
use Rattle.sk_prog.specs.declared.prog.Prog.{Prog}
use Rattle.sk_adt.specs.declared.algebraic.Algebraic.{Algebraic}
use Rattle.sk_adt_tags.specs.declared.role.Test.{Test}
use Rattle.sk_adt_tags.specs.Tags.{first, Work, both, or_idle, tested, part, form_work, work}
use Rattle.sk_adt_tags.proofs.Firsts.{first_both}

module _ (types : List Algebraic) (prog : Prog) where
  layer : (s : Span) (l : S.PForm-F PForm PStmt) → work types prog (record { span = s; form = W.roll-PForm l }) ≡ form_work types prog (map-PForm PForm PStmt Work Work (fold-PForm Work Work (form_work types prog) (λ x. x.form)) (work types prog) l)
  layer s l =
      fold-roll-PStmt Work Work (form_work types prog) (λ x. x.form) (record { span = s; form = W.roll-PForm l })
      ∙ fold-roll-PForm Work Work (form_work types prog) (λ x. x.form) l

  with_form : (s : PStmt) (f : PForm) → s.form ≡ f → work types prog s ≡ work types prog (record { span = s.span; form = f })
  with_form s f is = ap (λ (g : PForm). work types prog (record { span = s.span; form = g })) is

  if_work : (s : PStmt) (c : PExpr) (a : PStmt) (b : Option PStmt) → s.form ≡ form.If c a b → work types prog s ≡ both (tested (part types prog c) (work types prog a)) (or_idle (option_map (work types prog) b))
  if_work s c a None is = with_form s (W.roll-PForm (S.If c a None)) (is ∙ sym (W.rolls-If c a None)) ∙ layer s.span (S.If c a None)
  if_work s c a (Some b) is = with_form s (W.roll-PForm (S.If c a (Some b))) (is ∙ sym (W.rolls-If c a (Some b))) ∙ layer s.span (S.If c a (Some b))

  -- its first span is the first in its condition and its first branch, or else the first in its other branch
  pub if_first : (s : PStmt) (c : PExpr) (a : PStmt) (b : Option PStmt) (tests : List Test) (x y r : Option Span)
      → s.form ≡ form.If c a b → r ≡ option_or x y → x ≡ first ((tested (part types prog c) (work types prog a)).breaks tests) → y ≡ first ((or_idle (option_map (work types prog) b)).breaks tests) → r ≡ first ((work types prog s).breaks tests)
  if_first s c a b tests x y r is made here there =
      subst (λ w. r ≡ first (w.breaks tests)) (sym (if_work s c a b is))
      (made ∙ ap₂ option_or here there ∙ sym (first_both ((tested (part types prog c) (work types prog a)).breaks tests) ((or_idle (option_map (work types prog) b)).breaks tests)))
