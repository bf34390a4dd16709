-- What statements mean is what they become.
use Rattle.std.proofs.Common.{◌≡◌, ◌≤◌, ℕ, true, List, [], ◌∷◌, ◌++◌, length, Option, Some, None, refl, sym, ap, subst, ◌∙◌, inl, inr}
use Rattle.std.specs.Prelude.{ℤ, map, nat_le, IsTrue}
use Rattle.std.proofs.lemmas.Bool.{le-leb}
use Rattle.sk_tree.specs.declared.expr.Expr.{Expr}
use Rattle.sk_tree.specs.declared.expr.EForm.{EForm}
use Rattle.sk_tree.specs.declared.expr.EForm.TheVariants as eform
use Rattle.sk_tree.specs.declared.expr.EForm.TheOpen as E
use Rattle.sk_tree.specs.declared.expr.EForm.TheFolds.{para-EForm, para-roll-EForm, para-roll-Expr, fold-EForm, fold-roll-EForm, fold-roll-Expr}
use Rattle.sk_tree.specs.declared.pattern.Pattern.{Pattern}
use Rattle.sk_tree.specs.declared.stmt.Stmt.{Stmt}
use Rattle.sk_tree.specs.declared.stmt.Form.{Form}
use Rattle.sk_tree.specs.declared.stmt.Form.TheVariants as form
use Rattle.sk_tree.specs.declared.stmt.Form.TheOpen as F
use Rattle.sk_tree.specs.declared.stmt.Form.TheViews.{roll-Form}
use Rattle.sk_tree.specs.declared.stmt.Form.TheFolds.{map-Form}
use Rattle.sk_tree.specs.declared.stmt.Declared.{Declared}
use Rattle.sk_tree.specs.declared.item.TyTree.{TyTree}
use Rattle.sk_prog.specs.declared.ty.Ty.{Ty}
use Rattle.sk_prog.specs.declared.expr.PExpr.{PExpr}
use Rattle.sk_prog.specs.declared.expr.PEForm.TheVariants as pform
use Rattle.sk_prog.specs.declared.stmt.PStmt.{PStmt}
use Rattle.sk_prog.specs.declared.stmt.PForm.{PForm}
use Rattle.sk_prog.specs.declared.stmt.PForm.TheVariants as act
use Rattle.sk_prog.specs.declared.stmt.PForm.TheOpen as S
use Rattle.sk_prog.specs.declared.stmt.PForm.TheViews.{roll-PForm}
use Rattle.sk_prog.specs.declared.stmt.PForm.TheFolds.{map-PForm}
use Rattle.sk_types_rules.specs.declared.scope.Variable.{Variable}
use Rattle.sk_types_rules.specs.Rules.{◌>>=◌, only_if, int, bit}
use Rattle.sk_types_rules.specs.Scope.{Context}
use Rattle.sk_types_rules.specs.Constants.{eform_number, whole_number, natural, constant_number}
use Rattle.sk_types_rules.specs.Sorts.{eform_target, target_type, first_target, kept_targets}
use Rattle.sk_types_rules.specs.Types.{Grows, form_after, after, EachMeans, Means, IsAt, AnyAt, IsTarget, FormRule, StmtRule, BlockMeans, AnyMeans, may_reorder, CountMeans, ReturnMeans, MeansDeclare, MeansAssign, StmtMeans}
use Rattle.sk_types_rules.proofs.Layers.{ActMeans, act_rule, act_means_are, stmt_means_is}
use Rattle.sk_types_laws.specs.Envs.{AreDistinct}
use Rattle.sk_types_laws.specs.Elaborate.{typed, all_at}
use Rattle.sk_types_laws.specs.Parts.{ats}
use Rattle.sk_types_laws.specs.Making.{Made, makes, value_at, any_value_at, pattern_target, form_target, target_in, target_at, form_count, count_at, declare, assign_to, returned, inside, in_order, block, form_made, make_form, make, make_all}
use Rattle.sk_types_laws.proofs.Views.{strings_of}
use Rattle.sk_types_laws.proofs.Exact.{is_at}
use Rattle.sk_types_laws.proofs.Scopes.{pstmt_law, after_form, after_form_is, after_is, after_all, left_of, left_of_all}
use Rattle.sk_types_laws.proofs.CallsComplete.{call_complete}
use Rattle.sk_types_laws.proofs.StepSound.{Act, Do, make_form_is, make_is, map_id}

module _ (context : Context) (result : Option Ty) (good : AreDistinct context.top) where
  -- Expressions

  pub value_complete : (s : List Variable) (t : Ty) (e : Expr) (p : PExpr) → IsAt context s t p e → value_at context s t e ≡ Some p
  unfolding value_at
  value_complete s t e p m = is_at context s good t e p m

  any_complete : (s : List Variable) (t : Ty) (e : Option Expr) (v : Option PExpr) → AnyAt context s t v e → any_value_at context s t e ≡ Some v
  any_complete s t None None m = refl
  any_complete s t None (Some p) m = absurd m
  any_complete s t (Some e) None m = absurd m
  any_complete s t (Some e) (Some p) m = rw (value_complete s t e p m) refl

  each_complete : (s : List Variable) (t : Ty) (ps : List PExpr) (es : List Expr) → EachMeans (λ p. p) (Means context s) t ps es → all_at t (ats context s es) ≡ Some ps
  each_complete s t [] [] m = refl
  each_complete s t (p ∷ ps) (e ∷ es) m = rw (is_at context s good t e p (record { means = m.0; type = m.1 }), each_complete s t ps es m.2) refl
  each_complete s t [] (e ∷ es) m = absurd m
  each_complete s t (p ∷ ps) [] m = absurd m

  -- a pattern is no target itself
  no_target : (s : List Variable) (e : Expr) (g : Pattern) (es : List Expr) → e.form ≡ eform.Pattern g es → target_type context s e ≡ None
  no_target s e g es is =
      para-roll-Expr (Option Ty) (Option Ty) (Unit {0}) (eform_target context s) (λ x. x.form.1) (λ x. tt) (record { span = e.span; form = e.form })
      ∙ ap (para-EForm (Option Ty) (Option Ty) (Unit {0}) (eform_target context s) (λ x. x.form.1) (λ x. tt)) (is ∙ sym (eform.rolls-Pattern g es))
      ∙ para-roll-EForm (Option Ty) (Option Ty) (Unit {0}) (eform_target context s) (λ x. x.form.1) (λ x. tt) (E.Pattern g es)

  target_complete : (s : List Variable) (t : Ty) (e : Expr) (p : PExpr) → IsTarget context s t p e → target_at context s e ≡ Some p
  unfolding target_at
  target_complete s t e p (inl m) = ap (target_in context s e) m.target ∙ value_complete s t e p m.is_at
  target_complete s t e p (inr m) =
      ap (target_in context s e) (no_target s e m.pattern m.strings m.tree)
      ∙ ap (form_target context s e.span) m.tree
      ∙ ap (λ o. o >>= λ es. pattern_target context s e.span es (first_target context s es)) (strings_of m.pattern m.strings)
      ∙ ap (pattern_target context s e.span m.strings) m.first
      ∙ ap (λ o. o >>= λ ps. Some (typed e.span t (pform.Pattern ps))) (each_complete s t m.parts (kept_targets context s t m.strings) m.kept)
      ∙ ap Some (sym m.made)

  hole_count : (s : List Variable) (e : Expr) (i : Option ℕ) → e.form ≡ eform.Hole i → (p : PExpr) → IsAt context s int p e → form_count context s e e.form ≡ Some p
  hole_count s e i is p m = ap (form_count context s e) is ∙ is_at context s good int e p m

  number_count : (s : List Variable) (e : Expr) (n : ℕ) → constant_number context s e ≡ Some n → n ≤ 64 → (constant_number context s e >>= λ n. only_if (nat_le n 64) (typed e.span int (pform.Number n))) ≡ Some (typed e.span int (pform.Number n))
  number_count s e n is h = rw (is, le-leb n 64 h) refl

  -- a hole is no constant
  no_number : (s : List Variable) (e : Expr) (i : Option ℕ) (n : ℕ) → e.form ≡ eform.Hole i → constant_number context s e ≡ Some n → ⊥
  no_number s e i n is h =
      let none : whole_number context s e ≡ None =
      fold-roll-Expr (Option ℤ) (Option ℤ) (Unit {0}) (eform_number context s) (λ x. x.form) (λ x. tt) (record { span = e.span; form = e.form })
      ∙ ap (fold-EForm (Option ℤ) (Option ℤ) (Unit {0}) (eform_number context s) (λ x. x.form) (λ x. tt)) (is ∙ sym (eform.rolls-Hole i))
      ∙ fold-roll-EForm (Option ℤ) (Option ℤ) (Unit {0}) (eform_number context s) (λ x. x.form) (λ x. tt) (E.Hole i) in
      let no = sym h ∙ ap (λ o. o >>= natural context.bounds) none in
      cc

  form_number_count : (s : List Variable) (e : Expr) (f : EForm) → e.form ≡ f → (n : ℕ) → constant_number context s e ≡ Some n → n ≤ 64 → form_count context s e f ≡ Some (typed e.span int (pform.Number n))
  form_number_count s e (eform.Hole i) is n c h = absurd (no_number s e i n is c)
  form_number_count s e _ is n c h = number_count s e n c h

  count_complete : (s : List Variable) (e : Expr) (p : PExpr) → CountMeans context result s p e → count_at context s e ≡ Some p
  unfolding count_at
  count_complete s e p (inl m) = hole_count s e m.0 m.1 p m.2
  count_complete s e p (inr m) = form_number_count s e e.form refl m.0 m.1 m.2 ∙ ap Some (sym m.3)

  -- What is meant is made

  abbrev ActIs : PForm → Type 0
  ActIs a = (from : ℕ) (s : List Variable) (f : Form) → ActMeans context result a from s f → make_form context result f from s ≡ makes a (after_form a s)

  abbrev StmtIs : PStmt → Type 0
  StmtIs p = (from : ℕ) (s : List Variable) (e : Stmt) → StmtMeans context result p from s e → make context result e from s ≡ makes p (after p s)

  abbrev Meant : Type 0
  Meant = (p : PStmt) × StmtIs p

  abbrev meaning : S.PForm-F ((a : PForm) × ActIs a) Meant → S.PForm-F PForm PStmt
  meaning y = map-PForm ((a : PForm) × ActIs a) Meant PForm PStmt (λ q. q.0) (λ q. q.0) y

  -- what a layer of the program means is what the layer of the tree makes
  of_act : (l : S.PForm-F PForm PStmt) (a : PForm) → roll-PForm l ≡ a → ((from : ℕ) (s : List Variable) (f : Form) → act_rule context result l from s f → make_form context result f from s ≡ makes a (form_after (map-PForm PForm PStmt Grows Grows after_form after l) s)) → ActIs (roll-PForm l)
  of_act l a is k from s f m =
      k from s f (subst (λ (R : FormRule). R from s f) (act_means_are context result l) m) ∙ (λ i. makes (sym is i) (sym (after_form_is l) i s))

  form_layer_is : (f g : Form) (l : F.Form-F Form Stmt) (from : ℕ) (s : List Variable) (r : Option (Made PForm)) → f ≡ g → g ≡ roll-Form l → form_made context result (map-Form Form Stmt Act Do (make_form context result) (make context result) l) from s ≡ r → make_form context result f from s ≡ r
  form_layer_is f g l from s r is to h = ap (λ f. make_form context result f from s) (is ∙ to) ∙ ap (λ (k : Act). k from s) (make_form_is context result l) ∙ h

  inside_is : (q : Meant) (from : ℕ) (s : List Variable) (e : Stmt) → StmtMeans context result q.0 from s e → inside (make context result e) from s ≡ makes q.0 s
  inside_is q from s e m = rw (q.1 from s e m, left_of q.0 s) refl

  in_order_is : (qs : List Meant) (from : ℕ) (s : List Variable) (es : List Stmt) → BlockMeans (λ p. p) (StmtMeans context result) from s (map (λ q. q.0) qs) es → in_order (map (make context result) es) from s ≡ makes (map (λ q. q.0) qs) (after_all (map (λ q. q.0) qs) s)
  in_order_is [] from s [] m = refl
  in_order_is (q ∷ qs) from s (e ∷ es) m = rw (q.1 from s e m.0, in_order_is qs from (after q.0 s) es m.1) refl
  in_order_is [] from s (e ∷ es) m = absurd m
  in_order_is (q ∷ qs) from s [] m = absurd m

  block_is : (qs : List Meant) (s : List Variable) (es : List Stmt) → BlockMeans (λ p. p) (StmtMeans context result) (length s) s (map (λ q. q.0) qs) es → block (map (make context result) es) s ≡ makes (map (λ q. q.0) qs) s
  block_is qs s es m = rw (in_order_is qs (length s) s es m, left_of_all (map (λ q. q.0) qs) s) refl

  declare_is : (from : ℕ) (s : List Variable) (slot : ℕ) (x : List ℕ) (t : Ty) (v : Option PExpr) (y : TyTree) (d : Declared) → MeansDeclare context result from s slot x t v y d → declare context from s y d ≡ makes (act.Declare slot x t v) (s ++ record { name = x; ty = t } ∷ [])
  declare_is from s slot x t v y d r = rw (r.once, r.type, any_complete s t d.value v r.value) (λ i. makes (act.Declare (sym r.next i) (sym r.name i) t v) (s ++ record { name = sym r.name i; ty = t } ∷ []))

  assign_is : (s : List Variable) (t : Ty) (p q : PExpr) (x y : Expr) → MeansAssign context result s t p q x y → p.ty ≡ Some t → (target_at context s x >>= λ p. assign_to context s y p) ≡ makes (act.Assign p q) s
  assign_is s t p q x y m type = rw (target_complete s t x p m.target, type, value_complete s t y q m.value) refl

  -- a target has its type
  target_type_is : (s : List Variable) (t : Ty) (p : PExpr) (e : Expr) → IsTarget context s t p e → p.ty ≡ Some t
  target_type_is s t p e (inl m) = m.is_at.type
  target_type_is s t p e (inr m) = ap (λ (p : PExpr). p.ty) m.made

  return_is : (s : List Variable) (r : Option Ty) (v : Option PExpr) (e : Option Expr) → ReturnMeans context result s r v e → returned context s r e ≡ makes (act.Return v) s
  return_is s None None None m = refl
  return_is s (Some t) (Some p) (Some e) m = rw (value_complete s t e p m) refl
  return_is s None None (Some e) m = absurd m
  return_is s None (Some p) None m = absurd m
  return_is s None (Some p) (Some e) m = absurd m
  return_is s (Some t) None None m = absurd m
  return_is s (Some t) None (Some e) m = absurd m
  return_is s (Some t) (Some p) None m = absurd m

  pub complete : (p : PStmt) → StmtIs p
  complete = pstmt_law ActIs StmtIs form_layer stmt_layer
    where
      stmt_layer : (p : PStmt) → ActIs p.form → StmtIs p
      stmt_layer p h from s e m =
          let r = subst (λ (R : StmtRule). R from s e) (stmt_means_is context result p) m in
          ap (λ (k : Do). k from s) (make_is context result e)
          ∙ rw (h from s e.form r.1) (λ i. makes (record { span = sym r.0 i; form = p.form }) (sym (after_is p) i s))

      form_layer : (y : S.PForm-F ((a : PForm) × ActIs a) Meant) → ActIs (roll-PForm (meaning y))
      form_layer (S.Block qs) = of_act (S.Block (map (λ q. q.0) qs)) (act.Block (map (λ q. q.0) qs)) (act.rolls-Block (map (λ q. q.0) qs)) (λ from s f r. form_layer_is f _ (F.Block r.0) from s _ r.1 (sym (form.rolls-Block r.0)) (rw (block_is qs s r.0 r.2) refl))
      form_layer (S.Declare slot x t v) = of_act (S.Declare slot x t v) (act.Declare slot x t v) (act.rolls-Declare slot x t v) (λ from s f r. form_layer_is f _ (F.Declare r.0 (r.1 ∷ [])) from s _ r.2 (sym (form.rolls-Declare r.0 (r.1 ∷ []))) (declare_is from s slot x t v r.0 r.1 r.3))
      form_layer (S.Assign p q) = of_act (S.Assign p q) (act.Assign p q) (act.rolls-Assign p q) (λ from s f r. form_layer_is f _ (F.Assign r.0 r.1) from s _ r.2 (sym (form.rolls-Assign r.0 r.1)) (assign_is s r.3 p q r.0 r.1 r.4 (target_type_is s r.3 p r.0 r.4.target)))
      form_layer (S.Call p) = of_act (S.Call p) (act.Call p) (act.rolls-Call p) (λ from s f r. form_layer_is f _ (F.Call r.0) from s _ r.1 (sym (form.rolls-Call r.0)) (rw (call_complete context s good p r.0 r.2 r.3) refl))
      form_layer (S.If p a None) = of_act (S.If p a.0 None) (act.If p a.0 None) (act.rolls-If p a.0 None) (λ from s f r. none from s f r.0 r.1 r.2 r.3 r.4 r.5 r.6)
        where
          none : (from : ℕ) (s : List Variable) (f : Form) (x : Expr) (y : Stmt) (z : Option Stmt) → f ≡ form.If x y z → IsAt context s bit p x → StmtMeans context result a.0 from s y → AnyMeans (StmtMeans context result) from s None z → make_form context result f from s ≡ makes (act.If p a.0 None) s
          none from s f x y None is c m o = form_layer_is f _ (F.If x y None) from s _ is (sym (form.rolls-If x y None)) (rw (value_complete s bit x p c, inside_is a from s y m) refl)
          none from s f x y (Some z) is c m o = absurd o
      form_layer (S.If p a (Some b)) = of_act (S.If p a.0 (Some b.0)) (act.If p a.0 (Some b.0)) (act.rolls-If p a.0 (Some b.0)) (λ from s f r. some from s f r.0 r.1 r.2 r.3 r.4 r.5 r.6)
        where
          some : (from : ℕ) (s : List Variable) (f : Form) (x : Expr) (y : Stmt) (z : Option Stmt) → f ≡ form.If x y z → IsAt context s bit p x → StmtMeans context result a.0 from s y → AnyMeans (StmtMeans context result) from s (Some b.0) z → make_form context result f from s ≡ makes (act.If p a.0 (Some b.0)) s
          some from s f x y (Some z) is c m o = form_layer_is f _ (F.If x y (Some z)) from s _ is (sym (form.rolls-If x y (Some z))) (rw (value_complete s bit x p c, inside_is a from s y m, inside_is b from s z o) refl)
          some from s f x y None is c m o = absurd o
      form_layer (S.While p a) = of_act (S.While p a.0) (act.While p a.0) (act.rolls-While p a.0) (λ from s f r. form_layer_is f _ (F.While r.0 r.1) from s _ r.2 (sym (form.rolls-While r.0 r.1)) (rw (value_complete s bit r.0 p r.3, inside_is a from s r.1 r.4) refl))
      form_layer (S.Return v) = of_act (S.Return v) (act.Return v) (act.rolls-Return v) (λ from s f r. form_layer_is f _ (F.Return r.0) from s _ r.1 (sym (form.rolls-Return r.0)) (return_is s result v r.0 r.2))
      form_layer (S.Assert p) = of_act (S.Assert p) (act.Assert p) (act.rolls-Assert p) (λ from s f r. form_layer_is f _ (F.Assert r.0) from s _ r.1 (sym (form.rolls-Assert r.0)) (rw (value_complete s bit r.0 p r.2) refl))
      form_layer (S.Assume p) = of_act (S.Assume p) (act.Assume p) (act.rolls-Assume p) (λ from s f r. form_layer_is f _ (F.Assume r.0) from s _ r.1 (sym (form.rolls-Assume r.0)) (rw (value_complete s bit r.0 p r.2) refl))
      form_layer (S.Minimize p) = of_act (S.Minimize p) (act.Minimize p) (act.rolls-Minimize p) (λ from s f r. form_layer_is f _ (F.Minimize r.0) from s _ r.1 (sym (form.rolls-Minimize r.0)) (rw (value_complete s int r.0 p r.2) refl))
      form_layer (S.Repeat p []) = of_act (S.Repeat p []) _ refl (λ from s f r. absurd r.4)
      form_layer (S.Repeat p (a ∷ [])) = of_act (S.Repeat p (a.0 ∷ [])) (act.Repeat p (a.0 ∷ [])) (act.rolls-Repeat p (a.0 ∷ [])) (λ from s f r. form_layer_is f _ (F.Repeat r.0 r.1) from s _ r.2 (sym (form.rolls-Repeat r.0 r.1)) (rw (count_complete s r.0 p r.3, inside_is a from s r.1 r.4) refl))
      form_layer (S.Repeat p (a ∷ b ∷ qs)) = of_act (S.Repeat p (a.0 ∷ b.0 ∷ map (λ q. q.0) qs)) _ refl (λ from s f r. absurd r.4)
      form_layer (S.MinRepeat []) = of_act (S.MinRepeat []) _ refl (λ from s f r. absurd r.2)
      form_layer (S.MinRepeat (a ∷ [])) = of_act (S.MinRepeat (a.0 ∷ [])) (act.MinRepeat (a.0 ∷ [])) (act.rolls-MinRepeat (a.0 ∷ [])) (λ from s f r. form_layer_is f _ (F.MinRepeat r.0) from s _ r.1 (sym (form.rolls-MinRepeat r.0)) (rw (inside_is a from s r.0 r.2) refl))
      form_layer (S.MinRepeat (a ∷ b ∷ qs)) = of_act (S.MinRepeat (a.0 ∷ b.0 ∷ map (λ q. q.0) qs)) _ refl (λ from s f r. absurd r.2)
      form_layer (S.Reorder qs) = of_act (S.Reorder (map (λ q. q.0) qs)) (act.Reorder (map (λ q. q.0) qs)) (act.rolls-Reorder (map (λ q. q.0) qs)) (λ from s f r.
          let may : may_reorder (map (λ q. q.0) qs) ≡ true = subst (λ ps. IsTrue (may_reorder ps)) (sym (map_id (map (λ q. q.0) qs))) r.2 in
          form_layer_is f _ (F.Reorder r.0) from s _ r.1 (sym (form.rolls-Reorder r.0)) (rw (block_is qs s r.0 r.3, may) refl))

  pub all_complete : (from : ℕ) (s : List Variable) (ps : List PStmt) (es : List Stmt) → BlockMeans (λ p. p) (StmtMeans context result) from s ps es → make_all context result es from s ≡ makes ps (after_all ps s)
  all_complete from s [] [] m = refl
  all_complete from s (p ∷ ps) (e ∷ es) m = rw (complete p from s e m.0, all_complete from (after p s) ps es m.1) refl
  all_complete from s [] (e ∷ es) m = absurd m
  all_complete from s (p ∷ ps) [] m = absurd m
