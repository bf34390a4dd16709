-- What becomes of forms that keep their parts in a list, and of the fields of a record.
use Rattle.std.proofs.Common.{◌≡◌, ℕ, suc, ◌+◌, ◌<◌, List, ap, sym, ◌∙◌, subst, arith}
use Rattle.std.specs.Prelude.{map}
use Rattle.sk_base.specs.declared.span.Span.{Span}
use Rattle.sk_base.specs.declared.bounds.Bounds.{Bounds}
use Rattle.sk_prog.specs.declared.expr.PExpr.{PExpr}
use Rattle.sk_prog.specs.declared.expr.PField.{PField}
use Rattle.sk_prog.specs.declared.expr.PEForm.{PEForm}
use Rattle.sk_prog.specs.declared.expr.PEForm.TheVariants as eform
use Rattle.sk_prog.specs.declared.expr.PEForm.TheOpen as P
use Rattle.sk_prog.specs.declared.expr.PEForm.TheViews as V
use Rattle.sk_prog.specs.declared.expr.PEForm.TheFolds.{fold-PEForm, fold-PField, fold-roll-PEForm, fold-roll-PField}
use Rattle.sk_model.specs.Nodes.{expr_nodes, funs_nodes}
use Rattle.sk_model.specs.Expand.{Walk, CallWalk, as_walk, in_order, walk_expr, eform_walk, expr_step, field_step}
use Rattle.sk_expand.specs.declared.stop.Stop.{Stop}
use Rattle.sk_expand.specs.declared.stop.Stop.TheVariants.{TooLarge, NoMemory}
use Rattle.sk_expand.specs.Made.{State, Goes, Stops}
use Rattle.sk_expand.specs.Nodes.{exprs_nodes, field_nodes, nodes_of_eform}
use Rattle.sk_expand.proofs.NodeLaws.{nodes_pattern, nodes_braces, nodes_field}

module _ (bounds : Bounds) (calls : CallWalk) where
  abbrev form_of : PEForm → Span → Walk PEForm
  form_of = fold-PEForm (Span → Walk PEForm) (Walk PExpr) (Walk PField) (eform_walk bounds calls) (expr_step bounds calls) (field_step bounds calls)

  abbrev field_of : PField → Walk PField
  field_of = fold-PField (Span → Walk PEForm) (Walk PExpr) (Walk PField) (eform_walk bounds calls) (expr_step bounds calls) (field_step bounds calls)

  abbrev exprs_of : List PExpr → Walk (List PExpr)
  exprs_of es = in_order (map (walk_expr bounds calls) es)

  pattern_becomes : (span : Span) (es : List PExpr) → form_of (eform.Pattern es) span ≡ as_walk (λ xs. eform.Pattern xs) (exprs_of es)
  pattern_becomes span es =
      ap (λ form. form_of form span) (sym (V.rolls-Pattern es))
      ∙ ap (λ (w : Span → Walk PEForm). w span) (fold-roll-PEForm (Span → Walk PEForm) (Walk PExpr) (Walk PField) (eform_walk bounds calls) (expr_step bounds calls) (field_step bounds calls) (P.Pattern es))

  braces_becomes : (span : Span) (es : List PExpr) → form_of (eform.Braces es) span ≡ as_walk (λ xs. eform.Braces xs) (exprs_of es)
  braces_becomes span es =
      ap (λ form. form_of form span) (sym (V.rolls-Braces es))
      ∙ ap (λ (w : Span → Walk PEForm). w span) (fold-roll-PEForm (Span → Walk PEForm) (Walk PExpr) (Walk PField) (eform_walk bounds calls) (expr_step bounds calls) (field_step bounds calls) (P.Braces es))

  field_becomes : (k : ℕ) (e : PExpr) → field_of (record { field = k; value = e }) ≡ as_walk (λ v. record { field = k; value = v }) (walk_expr bounds calls e)
  field_becomes k e = fold-roll-PField (Span → Walk PEForm) (Walk PExpr) (Walk PField) (eform_walk bounds calls) (expr_step bounds calls) (field_step bounds calls) (record { field = k; value = e })

  -- a pattern, or an array, has too many nodes where its parts have, and it is a node too
  pub pattern_stops : (span : Span) (es : List PExpr) (s : State) (stop : Stop) (j : ℕ) → Stops (λ xs. suc (exprs_nodes xs)) stop s (exprs_of es j) → Stops nodes_of_eform stop s (form_of (eform.Pattern es) span j)
  pattern_stops span es s TooLarge j less =
      let m = exprs_of es j in
      subst (λ (w : Walk PEForm). s.room < nodes_of_eform (w j).made + funs_nodes (w j).copies) (sym (pattern_becomes span es)) (omega (arith, less, nodes_pattern m.made))
  pattern_stops span es s NoMemory j less = tt

  pub braces_stops : (span : Span) (es : List PExpr) (s : State) (stop : Stop) (j : ℕ) → Stops (λ xs. suc (exprs_nodes xs)) stop s (exprs_of es j) → Stops nodes_of_eform stop s (form_of (eform.Braces es) span j)
  braces_stops span es s TooLarge j less =
      let m = exprs_of es j in
      subst (λ (w : Walk PEForm). s.room < nodes_of_eform (w j).made + funs_nodes (w j).copies) (sym (braces_becomes span es)) (omega (arith, less, nodes_braces m.made))
  braces_stops span es s NoMemory j less = tt

  -- a field becomes what its value does
  pub field_goes : (k : ℕ) (e v : PExpr) (s t : State) (j : ℕ) → Goes expr_nodes v s t (walk_expr bounds calls e j) → Goes field_nodes (record { field = k; value = v }) s t (field_of (record { field = k; value = e }) j)
  field_goes k e v s t j goes =
      let m = walk_expr bounds calls e j in
      subst (λ (w : Walk PField). Goes field_nodes (record { field = k; value = v }) s t (w j)) (sym (field_becomes k e)) (record {
        made = ap (λ x. record { field = k; value = x }) goes.made;
        copies = goes.copies;
        room = omega (arith, goes.room, nodes_field k m.made);
      })

  pub field_stops : (k : ℕ) (e : PExpr) (s : State) (stop : Stop) (j : ℕ) → Stops expr_nodes stop s (walk_expr bounds calls e j) → Stops field_nodes stop s (field_of (record { field = k; value = e }) j)
  field_stops k e s TooLarge j less =
      let m = walk_expr bounds calls e j in
      subst (λ (w : Walk PField). s.room < field_nodes (w j).made + funs_nodes (w j).copies) (sym (field_becomes k e)) (omega (arith, less, nodes_field k m.made))
  field_stops k e s NoMemory j less = tt
