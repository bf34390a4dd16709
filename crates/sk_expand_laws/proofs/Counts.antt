-- The count of a repeat is a number or a hole.
use Rattle.std.proofs.Common.{◌≡◌, ℕ, Bool, true, false, ◌&&◌, List, [], ◌∷◌, map, length, Option, Some, None, refl, sym, ap, ◌∙◌, subst}
use Rattle.std.specs.List.{list_all}
use Rattle.std.proofs.Common.{inl, inr}
use Rattle.sk_base.specs.declared.span.Span.{Span}
use Rattle.sk_tree.specs.declared.expr.Expr.{Expr}
use Rattle.sk_tree.specs.declared.expr.EForm.TheVariants as eform
use Rattle.sk_tree.specs.declared.expr.EForm.TheOpen as E
use Rattle.sk_tree.specs.declared.stmt.Stmt.{Stmt}
use Rattle.sk_tree.specs.declared.stmt.Form.{Form}
use Rattle.sk_prog.specs.declared.ty.Ty.{Ty}
use Rattle.sk_prog.specs.declared.expr.PExpr.{PExpr}
use Rattle.sk_prog.specs.declared.expr.PEForm.{PEForm}
use Rattle.sk_prog.specs.declared.expr.PEForm.TheVariants as pform
use Rattle.sk_prog.specs.declared.stmt.PStmt.{PStmt}
use Rattle.sk_prog.specs.declared.stmt.PForm.{PForm}
use Rattle.sk_prog.specs.declared.stmt.PForm.TheOpen as S
use Rattle.sk_prog.specs.declared.stmt.PForm.TheViews.{roll-PForm, roll-PStmt}
use Rattle.sk_prog.specs.declared.stmt.PForm.TheFolds.{map-PForm, fold-PForm, fold-PStmt, fold-roll-PForm, fold-roll-PStmt, ind-PStmt}
use Rattle.sk_prog.specs.Names.{is_yes, any_yes}
use Rattle.sk_types_rules.specs.declared.scope.Variable.{Variable}
use Rattle.sk_types_rules.specs.Rules.{int, only_if, width_fits, hole_takes}
use Rattle.sk_types_rules.specs.Scope.{Context}
use Rattle.sk_types_rules.specs.Types.{FormRule, StmtRule, BlockMeans, AnyMeans, OneMeans, CountMeans, StmtMeans, after}
use Rattle.sk_types_rules.proofs.Layers.{ActMeans, act_rule, act_means_are, stmt_means_is}
use Rattle.sk_types_laws.specs.Envs.{AreDistinct}
use Rattle.sk_types_laws.specs.Elaborate.{At, FormAt, at, form_at}
use Rattle.sk_types_laws.proofs.Ats.{form_at_is, at_is}
use Rattle.sk_types_laws.proofs.Complete.{complete}

abbrev pub is_count : PEForm → Bool
is_count (pform.Number n) = true
is_count (pform.Hole width) = true
is_count _ = false

abbrev pub form_counts : S.PForm-F Bool Bool → Bool
form_counts (S.Repeat p ss) = is_count p.form && list_all is_yes ss
form_counts (S.MinRepeat ss) = list_all is_yes ss
form_counts (S.Block ss) = list_all is_yes ss
form_counts (S.Reorder ss) = list_all is_yes ss
form_counts (S.If p a b) = a && any_yes b
form_counts (S.While p a) = a
form_counts _ = true

-- whether each count in a statement is a number or a hole
abbrev pub stmt_counts : PStmt → Bool
stmt_counts = fold-PStmt Bool Bool form_counts (λ s. s.form)

abbrev pub act_counts : PForm → Bool
act_counts = fold-PForm Bool Bool form_counts (λ s. s.form)

module _ (context : Context) (good : AreDistinct context.top) (result : Option Ty) where
  hole_count : (scope : List Variable) (p : PExpr) (e : Expr) (n : Option ℕ) → e.form ≡ eform.Hole n → at context scope e int ≡ Some p → is_count p.form ≡ true
  hole_count scope p e n is h =
      let hole : at context scope e int ≡ only_if (width_fits context.bounds n && hole_takes int) (record { span = e.span; ty = Some int; form = pform.Hole n }) =
      ap (λ (f : At). f int) (at_is context scope e ∙ ap (λ f. form_at context scope f e.span) (is ∙ sym (eform.rolls-Hole n)))
      ∙ ap (λ (f : FormAt). f e.span int) (form_at_is context scope (E.Hole n)) in
      go (width_fits context.bounds n && hole_takes int) (sym hole ∙ h)
    where
      go : (b : Bool) → only_if b (record { span = e.span; ty = Some int; form = pform.Hole n }) ≡ Some p → is_count p.form ≡ true
      go true h = let same : record { span = e.span; ty = Some int; form = pform.Hole n } ≡ p = cc in ap (λ (p : PExpr). is_count p.form) (sym same)
      go false h = cc

  count : (scope : List Variable) (p : PExpr) (e : Expr) → CountMeans context result scope p e → is_count p.form ≡ true
  count scope p e (inl h) = hole_count scope p e h.0 h.1 (complete context scope good p e int h.2.means h.2.type)
  count scope p e (inr h) = ap (λ (p : PExpr). is_count p.form) h.3

  abbrev FormIs : PForm → Type 0
  FormIs f = (from : ℕ) (scope : List Variable) (e : Form) → ActMeans context result f from scope e → act_counts f ≡ true

  abbrev StmtIs : PStmt → Type 0
  StmtIs p = (from : ℕ) (scope : List Variable) (e : Stmt) → StmtMeans context result p from scope e → stmt_counts p ≡ true

  abbrev Such' : Type 0
  Such' = (p : PStmt) × StmtIs p

  abbrev down : S.PForm-F ((f : PForm) × FormIs f) Such' → S.PForm-F PForm PStmt
  down = map-PForm ((f : PForm) × FormIs f) Such' PForm PStmt (λ q. q.0) (λ q. q.0)

  abbrev firsts : List Such' → List PStmt
  firsts qs = map (λ (q : Such'). q.0) qs

  block : (qs : List Such') (from : ℕ) (scope : List Variable) (es : List Stmt) → BlockMeans (λ y. y) (StmtMeans context result) from scope (firsts qs) es → list_all is_yes (map stmt_counts (firsts qs)) ≡ true
  block [] from scope es m = refl
  block (q ∷ qs) from scope [] m = absurd m
  block (q ∷ qs) from scope (e ∷ es) m = (λ i. q.1 from scope e m.0 i && block qs from (after q.0 scope) es m.1 i)

  held : (qs : List Such') (from : ℕ) (scope : List Variable) (e : Stmt) → OneMeans (StmtMeans context result) from scope (firsts qs) e → list_all is_yes (map stmt_counts (firsts qs)) ≡ true
  held [] from scope e m = absurd m
  held (q ∷ []) from scope e m = (λ i. q.1 from scope e m i && true)
  held (q ∷ r ∷ qs) from scope e m = absurd m

  layer : (y : S.PForm-F ((f : PForm) × FormIs f) Such') (from : ℕ) (scope : List Variable) (e : Form) → act_rule context result (down y) from scope e → form_counts (map-PForm PForm PStmt Bool Bool act_counts stmt_counts (down y)) ≡ true
  layer (S.Block qs) from scope e h = block qs (length scope) scope h.0 h.2
  layer (S.Declare slot x t value) from scope e h = refl
  layer (S.Assign p q) from scope e h = refl
  layer (S.Call p) from scope e h = refl
  layer (S.If p a None) from scope e h = (λ i. a.1 from scope h.1 h.5 i && true)
  layer (S.If p a (Some b)) from scope e h = go h.2 h.6
    where
      go : (z : Option Stmt) → AnyMeans (StmtMeans context result) from scope (Some b.0) z → (stmt_counts a.0 && stmt_counts b.0) ≡ true
      go None m = absurd m
      go (Some z) m = (λ i. a.1 from scope h.1 h.5 i && b.1 from scope z m i)
  layer (S.While p a) from scope e h = a.1 from scope h.1 h.4
  layer (S.Return p) from scope e h = refl
  layer (S.Assert p) from scope e h = refl
  layer (S.Assume p) from scope e h = refl
  layer (S.Minimize p) from scope e h = refl
  layer (S.Repeat p qs) from scope e h = (λ i. count scope p h.0 h.3 i && held qs from scope h.1 h.4 i)
  layer (S.MinRepeat qs) from scope e h = held qs from scope h.0 h.2
  layer (S.Reorder qs) from scope e h = block qs (length scope) scope h.0 h.3

  form_from : (y : S.PForm-F ((f : PForm) × FormIs f) Such') → FormIs (roll-PForm (down y))
  form_from y from scope e m = fold-roll-PForm Bool Bool form_counts (λ s. s.form) (down y) ∙ layer y from scope e (subst (λ (M : FormRule). M from scope e) (act_means_are context result (down y)) m)

  in_stmt : (s : Span) (f : PForm) → FormIs f → StmtIs (record { span = s; form = f })
  in_stmt s f h from scope e m = fold-roll-PStmt Bool Bool form_counts (λ s. s.form) (record { span = s; form = f }) ∙ h from scope e.form (subst (λ (M : StmtRule). M from scope e) (stmt_means_is context result (record { span = s; form = f })) m).1

  pub counts : (p : PStmt) → StmtIs p
  counts = ind-PStmt FormIs StmtIs
      (λ x y is. subst (λ z. FormIs (roll-PForm z)) is (form_from y))
      (λ x y is. subst (λ z. StmtIs (roll-PStmt z)) is (in_stmt y.span y.form.0 y.form.1))

  pub all_counts : (ps : List PStmt) (from : ℕ) (scope : List Variable) (es : List Stmt) → BlockMeans (λ y. y) (StmtMeans context result) from scope ps es → list_all stmt_counts ps ≡ true
  all_counts [] from scope es m = refl
  all_counts (p ∷ ps) from scope [] m = absurd m
  all_counts (p ∷ ps) from scope (e ∷ es) m = (λ i. counts p from scope e m.0 i && all_counts ps from (after p scope) es m.1 i)
