-- The lines of a statement in a block are lines of a program.
use Rattle.std.proofs.Common.{◌≡◌, ℕ, suc, Bool, true, false, ◌&&◌, List, [], ◌∷◌, ◌++◌, map, Option, Some, None, refl, sym, ◌∙◌, subst, codes}
use Rattle.std.specs.Prelude.{nat_lt}
use Rattle.std.specs.List.{list_all}
use Rattle.std.proofs.lemmas.Bool.{and_parts}
use Rattle.sk_base.specs.declared.span.Span.{Span}
use Rattle.sk_prog.specs.declared.expr.PExpr.{PExpr}
use Rattle.sk_prog.specs.declared.stmt.PStmt.{PStmt}
use Rattle.sk_prog.specs.declared.stmt.PForm.{PForm}
use Rattle.sk_prog.specs.declared.stmt.PForm.TheOpen as S
use Rattle.sk_prog.specs.declared.stmt.PForm.TheViews.{roll-PForm, roll-PStmt}
use Rattle.sk_prog.specs.declared.stmt.PForm.TheFolds.{map-PForm, fold-PForm, fold-roll-PForm, fold-roll-PStmt, ind-PStmt}
use Rattle.sk_prog.specs.declared.prog.Prog.{Prog}
use Rattle.sk_prog.specs.Names.{is_yes}
use Rattle.sk_prog.specs.Fits.{is_name, ty_fits, expr_fits, any_expr_fits, form_fits, stmt_fits}
use Rattle.sk_cert.specs.Certificates.{IsProgramText}
use Rattle.sk_print.specs.Layout.{expr_layout, line, Lines, each_line, initial_layout, returned_layout, pform_layout, stmt_lines}
use Rattle.sk_cert_layouts.proofs.Clean.{Clean, nothing, lit, ◌▹◌, name_clean}
use Rattle.sk_cert_layouts.proofs.Texts.{no_text, ◌▸◌, deep}
use Rattle.sk_cert_layouts.proofs.Names.{Fits, ty_clean}
use Rattle.sk_cert_layouts.proofs.Exprs.{expr_clean}

module _ (prog : Prog) (fits : Fits prog) (slots : ℕ) where
  abbrev form_lines : PForm → Lines
  form_lines = fold-PForm Lines Lines (pform_layout prog) (λ s. s.form)

  abbrev form_fit : PForm → Bool
  form_fit = fold-PForm Bool Bool (form_fits prog slots) (λ s. s.form)

  -- in a block the lines are those of a program
  abbrev AreLines : Lines → Type 0
  AreLines lines = (is_body : Bool) (d : ℕ) → IsProgramText (lines is_body (suc d))

  abbrev FormText : PForm → Type 0
  FormText f = form_fit f ≡ true → AreLines (form_lines f)

  abbrev StmtText : PStmt → Type 0
  StmtText s = stmt_fits prog slots s ≡ true → AreLines (stmt_lines prog s)

  abbrev Met : Type 0
  Met = (f : PForm) × FormText f

  abbrev Met' : Type 0
  Met' = (s : PStmt) × StmtText s

  abbrev down : S.PForm-F Met Met' → S.PForm-F PForm PStmt
  down = map-PForm Met Met' PForm PStmt (λ q. q.0) (λ q. q.0)

  abbrev lines_of : S.PForm-F PForm PStmt → S.PForm-F Lines Lines
  lines_of = map-PForm PForm PStmt Lines Lines form_lines (stmt_lines prog)

  abbrev fits_of : S.PForm-F PForm PStmt → S.PForm-F Bool Bool
  fits_of = map-PForm PForm PStmt Bool Bool form_fit (stmt_fits prog slots)

  abbrev LayerText : S.PForm-F PForm PStmt → Type 0
  LayerText l = form_fits prog slots (fits_of l) ≡ true → AreLines (pform_layout prog (lines_of l))

  form_from : (l : S.PForm-F PForm PStmt) → LayerText l → FormText (roll-PForm l)
  form_from l h fit =
      let a = fold-roll-PForm Lines Lines (pform_layout prog) (λ x. x.form) l in
      let b = fold-roll-PForm Bool Bool (form_fits prog slots) (λ x. x.form) l in
      subst AreLines (sym a) (h (sym b ∙ fit))

  in_stmt : (s : Span) (f : PForm) → FormText f → StmtText (record { span = s; form = f })
  in_stmt s f h fit =
      let a = fold-roll-PStmt Lines Lines (pform_layout prog) (λ x. x.form) (record { span = s; form = f }) in
      let b = fold-roll-PStmt Bool Bool (form_fits prog slots) (λ x. x.form) (record { span = s; form = f }) in
      subst AreLines (sym a) (h (sym b ∙ fit))

  all_lines : (ss : List Met') → list_all is_yes (map (stmt_fits prog slots) (map (λ (q : Met'). q.0) ss)) ≡ true → (is_body : Bool) (d : ℕ) → IsProgramText (each_line is_body (suc d) (map (stmt_lines prog) (map (λ (q : Met'). q.0) ss)))
  all_lines [] fit is_body d = no_text
  all_lines (q ∷ ss) fit is_body d =
      let f = and_parts (stmt_fits prog slots q.0) (list_all is_yes (map (stmt_fits prog slots) (map (λ (q : Met'). q.0) ss))) fit in
      q.1 f.0 is_body d ▸ all_lines ss f.1 is_body d

  expr : (e : PExpr) → expr_fits prog slots e ≡ true → Clean (expr_layout prog e)
  expr e fit = expr_clean prog fits slots e fit

  initial_clean : (e : Option PExpr) → any_expr_fits prog slots e ≡ true → Clean (initial_layout prog e)
  initial_clean None fit = nothing
  initial_clean (Some e) fit = lit (codes " = ") refl ▹ expr e fit

  returned_clean : (e : Option PExpr) → any_expr_fits prog slots e ≡ true → Clean (returned_layout prog e)
  returned_clean None fit = nothing
  returned_clean (Some e) fit = lit (codes " ") refl ▹ expr e fit

  closing : (d : ℕ) → IsProgramText (line (suc d) (codes "}"))
  closing d = deep d (lit (codes "}") refl)

  -- a line with an expression between two marks
  around : (d : ℕ) (before after : List ℕ) (e : PExpr) → Clean before → Clean after → expr_fits prog slots e ≡ true → IsProgramText (line (suc d) (before ++ expr_layout prog e ++ after))
  around d before after e h k fit = deep d (h ▹ expr e fit ▹ k)

  layer : (y : S.PForm-F Met Met') → LayerText (down y)
  layer (S.Block ss) fit true d = all_lines ss fit false d
  layer (S.Block ss) fit false d = deep d (lit (codes "{") refl) ▸ all_lines ss fit false (suc d) ▸ closing d
  layer (S.Declare slot x t e) fit is_body d =
      let f = (and_parts (nat_lt slot slots) (is_name x && (ty_fits prog t && any_expr_fits prog slots e)) fit).1 in
      let g = and_parts (is_name x) (ty_fits prog t && any_expr_fits prog slots e) f in
      let h = and_parts (ty_fits prog t) (any_expr_fits prog slots e) g.1 in
      deep d (ty_clean prog fits t ▹ lit (codes " ") refl ▹ name_clean x g.0 ▹ initial_clean e h.1 ▹ lit (codes ";") refl)
  layer (S.Assign p e) fit is_body d =
      let f = and_parts (expr_fits prog slots p) (expr_fits prog slots e) fit in
      deep d (expr p f.0 ▹ lit (codes " = ") refl ▹ expr e f.1 ▹ lit (codes ";") refl)
  layer (S.Call e) fit is_body d = deep d (expr e fit ▹ lit (codes ";") refl)
  layer (S.If c a None) fit is_body d =
      let f = and_parts (expr_fits prog slots c) (stmt_fits prog slots a.0 && true) fit in
      let g = and_parts (stmt_fits prog slots a.0) true f.1 in
      around d (codes "if (") (codes ") {") c (lit (codes "if (") refl) (lit (codes ") {") refl) f.0 ▸ a.1 g.0 true (suc d) ▸ no_text ▸ closing d
  layer (S.If c a (Some b)) fit is_body d =
      let f = and_parts (expr_fits prog slots c) (stmt_fits prog slots a.0 && stmt_fits prog slots b.0) fit in
      let g = and_parts (stmt_fits prog slots a.0) (stmt_fits prog slots b.0) f.1 in
      around d (codes "if (") (codes ") {") c (lit (codes "if (") refl) (lit (codes ") {") refl) f.0 ▸ a.1 g.0 true (suc d) ▸ (deep d (lit (codes "} else {") refl) ▸ b.1 g.1 true (suc d)) ▸ closing d
  layer (S.While c a) fit is_body d =
      let f = and_parts (expr_fits prog slots c) (stmt_fits prog slots a.0) fit in
      around d (codes "while (") (codes ") {") c (lit (codes "while (") refl) (lit (codes ") {") refl) f.0 ▸ a.1 f.1 true (suc d) ▸ closing d
  layer (S.Return e) fit is_body d = deep d (lit (codes "return") refl ▹ returned_clean e fit ▹ lit (codes ";") refl)
  layer (S.Assert e) fit is_body d = around d (codes "assert ") (codes ";") e (lit (codes "assert ") refl) (lit (codes ";") refl) fit
  layer (S.Assume e) fit is_body d = around d (codes "assume ") (codes ";") e (lit (codes "assume ") refl) (lit (codes ";") refl) fit
  layer (S.Minimize e) fit is_body d = around d (codes "minimize(") (codes ");") e (lit (codes "minimize(") refl) (lit (codes ");") refl) fit
  layer (S.Repeat c ss) fit is_body d =
      let f = and_parts (expr_fits prog slots c) (list_all is_yes (map (stmt_fits prog slots) (map (λ (q : Met'). q.0) ss))) fit in
      around d (codes "repeat (") (codes ") {") c (lit (codes "repeat (") refl) (lit (codes ") {") refl) f.0 ▸ all_lines ss f.1 true (suc d) ▸ closing d
  layer (S.MinRepeat ss) fit is_body d = deep d (lit (codes "minrepeat {") refl) ▸ all_lines ss fit true (suc d) ▸ closing d
  layer (S.Reorder ss) fit is_body d = deep d (lit (codes "reorder {") refl) ▸ all_lines ss fit false (suc d) ▸ closing d

  pub stmt_text : (s : PStmt) → StmtText s
  stmt_text = ind-PStmt FormText StmtText
      (λ x y is. subst (λ z. FormText (roll-PForm z)) is (form_from (down y) (layer y)))
      (λ x y is. subst (λ z. StmtText (roll-PStmt z)) is (in_stmt y.span y.form.0 y.form.1))
