-- The names of a tree that means a program which leaves nothing open: those of statements, of items and of all.
use Rattle.std.proofs.Common.{◌≡◌, ℕ, Bool, true, false, ◌&&◌, List, [], ◌∷◌, ◌++◌, map, length, Option, Some, None, inl, inr, refl, sym, ap, subst, ◌∙◌}
use Rattle.std.specs.List.{list_all}
use Rattle.std.proofs.lemmas.Bool.{and_parts}
use Rattle.sk_base.specs.declared.span.Span.{Span}
use Rattle.sk_base.specs.declared.bounds.Bounds.{Bounds}
use Rattle.sk_tree.specs.declared.expr.Expr.{Expr}
use Rattle.sk_tree.specs.declared.stmt.Stmt.{Stmt}
use Rattle.sk_tree.specs.declared.stmt.Declared.{Declared}
use Rattle.sk_tree.specs.declared.stmt.Form.{Form}
use Rattle.sk_tree.specs.declared.stmt.Form.TheVariants as sform
use Rattle.sk_tree.specs.declared.stmt.Form.TheOpen as F
use Rattle.sk_tree.specs.declared.stmt.Form.TheViews.{roll-Form}
use Rattle.sk_tree.specs.declared.stmt.Form.TheFolds.{map-Form, fold-Form, fold-roll-Form, fold-roll-Stmt}
use Rattle.sk_tree.specs.declared.item.TyTree.{TyTree}
use Rattle.sk_tree.specs.declared.item.Field.{Field}
use Rattle.sk_tree.specs.declared.item.Param.{Param}
use Rattle.sk_tree.specs.declared.item.FunItem.{FunItem}
use Rattle.sk_tree.specs.declared.item.Item.{Item}
use Rattle.sk_tree.specs.declared.item.Item.TheVariants as item
use Rattle.sk_tree.specs.Names as R
use Rattle.sk_tree.specs.Names.{expr_names, any_names, ty_names, declared_names, form_names, stmt_names, param_names, field_names, any_name, any_ty_names, fun_names, item_names}
use Rattle.sk_prog.specs.declared.ids.FunId.{FunId}
use Rattle.sk_prog.specs.declared.ty.Ty.{Ty}
use Rattle.sk_prog.specs.declared.expr.PExpr.{PExpr}
use Rattle.sk_prog.specs.declared.expr.PEForm.TheVariants as eform
use Rattle.sk_prog.specs.declared.expr.PEForm.TheOpen as P
use Rattle.sk_prog.specs.declared.stmt.PStmt.{PStmt}
use Rattle.sk_prog.specs.declared.stmt.PForm.{PForm}
use Rattle.sk_prog.specs.declared.stmt.PForm.TheVariants as pform
use Rattle.sk_prog.specs.declared.stmt.PForm.TheOpen as S
use Rattle.sk_prog.specs.declared.stmt.PForm.TheViews as W
use Rattle.sk_prog.specs.declared.stmt.PForm.TheFolds.{map-PForm, fold-PForm}
use Rattle.sk_prog.specs.declared.prog.FieldDef.{FieldDef}
use Rattle.sk_prog.specs.declared.prog.StructDef.{StructDef}
use Rattle.sk_prog.specs.declared.prog.ConstDef.{ConstDef}
use Rattle.sk_prog.specs.declared.prog.ParamDef.{ParamDef}
use Rattle.sk_prog.specs.declared.prog.Fun.{Fun}
use Rattle.sk_prog.specs.declared.prog.Prog.{Prog}
use Rattle.sk_prog.specs.Names as N
use Rattle.sk_types_rules.specs.declared.scope.Variable.{Variable}
use Rattle.sk_types_rules.specs.Scope.{Signature, signature_of, top_of, Known, Context}
use Rattle.sk_types_rules.specs.Types.{AnyAt, IsTarget, BlockMeans, AnyMeans, StmtRule, FormRule, ReturnMeans, StmtMeans, parameters, after, ParamsMean, ResultMeans, ImplementsMeans, FunMeans, StructFieldsMean, ItemsMean}
use Rattle.sk_types_rules.proofs.Layers.{ActMeans, act_rule, act_means_are, stmt_means_is}
use Rattle.sk_model.specs.Filled as M
use Rattle.sk_model.specs.Filled.{eform_filled, expr_filled, any_filled, form_filled, stmt_filled, fun_filled}
use Rattle.sk_model.proofs.Layers.{expr_layer, stmt_layer}
use Rattle.sk_model.proofs.Induction.{StmtCases, stmt_ind}
use Rattle.sk_holes_laws.specs.Filling.{Every}
use Rattle.sk_holes_laws.proofs.Exprs.{every_of}
use Rattle.sk_holes_laws.proofs.Declared.{SLayer}
use Rattle.sk_holes_laws.proofs.Trees.{TLayer}
use Rattle.sk_holes_laws.proofs.TreeNames.{fun_word, KnownWords, known_more, type_words, expr_told}

module _ (test : List ℕ → Bool) (prog : Prog) (words : N.all_names test prog ≡ true) (bounds : Bounds) where
  module _ (known : List Known) (ok : KnownWords test prog words known) where
    abbrev context : Context
    context = record { bounds = bounds; top = top_of prog; known = known }

    value_told : (scope : List Variable) (t : Ty) (p : Option PExpr) (e : Option Expr) → AnyAt context scope t p e → any_filled p ≡ true → N.any_names test p ≡ true → any_names test e ≡ true
    value_told scope t None None h f w = refl
    value_told scope t (Some p) (Some e) h f w = expr_told test prog words bounds known ok scope p e h.means f w
    value_told scope t None (Some e) h f w = absurd h
    value_told scope t (Some p) None h f w = absurd h

    target_told : (scope : List Variable) (t : Ty) (p : PExpr) (e : Expr) → IsTarget context scope t p e → expr_filled p ≡ true → N.expr_names test p ≡ true → expr_names test e ≡ true
    target_told scope t p e (inl h) f w = expr_told test prog words bounds known ok scope p e (h.is_at).means f w
    target_told scope t p e (inr h) f w =
        let q : PExpr = record { span = e.span; ty = Some t; form = eform.Pattern h.parts } in
        let no_fill : expr_filled q ≡ false = expr_layer Bool Bool Bool eform_filled (λ x. x.form) (λ x. x.value) (P.Pattern h.parts) (eform.Pattern h.parts) (eform.rolls-Pattern h.parts) e.span (Some t) in
        let is : p ≡ q = h.made in
        let z : false ≡ true = sym no_fill ∙ ap expr_filled (sym is) ∙ f in
        cc

    module _ (result : Option Ty) where
      abbrev StmtTold : PStmt → Type 0
      StmtTold p = (from : ℕ) (scope : List Variable) (e : Stmt) → StmtMeans context result p from scope e → stmt_filled p ≡ true → N.stmt_names test p ≡ true → stmt_names test e ≡ true

      abbrev act_names : Form → Bool
      act_names = fold-Form Bool Bool (form_names test) (λ s. s.form)

      abbrev names_of : TLayer → F.Form-F Bool Bool
      names_of l = map-Form Form Stmt Bool Bool act_names (stmt_names test) l

      form_at : (f : Form) (l : TLayer) → f ≡ roll-Form l → form_names test (names_of l) ≡ true → act_names f ≡ true
      form_at f l is h = ap act_names is ∙ fold-roll-Form Bool Bool (form_names test) (λ s. s.form) l ∙ h

      abbrev act_filled : PForm → Bool
      act_filled = fold-PForm Bool Bool form_filled (λ s. s.form)

      abbrev act_words : PForm → Bool
      act_words = fold-PForm Bool Bool (N.form_names test) (λ s. s.form)

      abbrev layer_filled : SLayer → Bool
      layer_filled x = form_filled (map-PForm PForm PStmt Bool Bool act_filled stmt_filled x)

      abbrev layer_words : SLayer → Bool
      layer_words x = N.form_names test (map-PForm PForm PStmt Bool Bool act_words (N.stmt_names test) x)

      by_form : (x : SLayer) (g : PForm) → W.roll-PForm x ≡ g → (s : Span) → ((from : ℕ) (scope : List Variable) (e : Form) → act_rule context result x from scope e → layer_filled x ≡ true → layer_words x ≡ true → act_names e ≡ true) → StmtTold (record { span = s; form = g })
      by_form x g is s h from scope e m f w =
          let p : PStmt = record { span = s; form = g } in
          let parts = subst (λ (M : StmtRule). M from scope e) (stmt_means_is context result p) m in
          let act = subst (λ (M : FormRule). M from scope e.form) (act_means_are context result x) (subst (λ g. ActMeans context result g from scope e.form) (sym is) parts.1) in
          fold-roll-Stmt Bool Bool (form_names test) (λ s. s.form) (record { span = e.span; form = e.form })
          ∙ h from scope e.form act (sym (stmt_layer Bool Bool form_filled (λ s. s.form) x g is s) ∙ f) (sym (stmt_layer Bool Bool (N.form_names test) (λ s. s.form) x g is s) ∙ w)

      block_told : (ps : List PStmt) → Every StmtTold ps → (from : ℕ) (scope : List Variable) (es : List Stmt) → BlockMeans (λ p. p) (StmtMeans context result) from scope ps es → list_all M.is_yes (map stmt_filled ps) ≡ true → list_all N.is_yes (map (N.stmt_names test) ps) ≡ true → list_all R.is_yes (map (stmt_names test) es) ≡ true
      block_told [] h from scope [] m f w = refl
      block_told [] h from scope (e ∷ es) m f w = absurd m
      block_told (p ∷ ps) h from scope [] m f w = absurd m
      block_told (p ∷ ps) h from scope (e ∷ es) m f w =
          let a = and_parts (stmt_filled p) (list_all M.is_yes (map stmt_filled ps)) f in
          let b = and_parts (N.stmt_names test p) (list_all N.is_yes (map (N.stmt_names test) ps)) w in
          let one = h.0 from scope e m.0 a.0 b.0 in
          let rest = block_told ps h.1 from (after p scope) es m.1 a.1 b.1 in
          λ i. one i && rest i

      returned : (scope : List Variable) (r : Option Ty) (v : Option PExpr) (e : Option Expr) → ReturnMeans context result scope r v e → any_filled v ≡ true → N.any_names test v ≡ true → any_names test e ≡ true
      returned scope None None None m f w = refl
      returned scope (Some t) (Some p) (Some e) m f w = expr_told test prog words bounds known ok scope p e m.means f w
      returned scope None (Some p) e m f w = absurd m
      returned scope None None (Some e) m f w = absurd m
      returned scope (Some t) None e m f w = absurd m
      returned scope (Some t) (Some p) None m f w = absurd m

      if_told : (c : PExpr) (a : PStmt) → StmtTold a → (from : ℕ) (scope : List Variable) (e : Form) → act_rule context result (S.If c a None) from scope e → layer_filled (S.If c a None) ≡ true → layer_words (S.If c a None) ≡ true → act_names e ≡ true
      if_told c a h from scope e m f w =
          let k = and_parts (expr_filled c) (stmt_filled a && true) f in
          let k' = and_parts (stmt_filled a) true k.1 in
          let b = and_parts (N.expr_names test c) (N.stmt_names test a && true) w in
          let b' = and_parts (N.stmt_names test a) true b.1 in
          let x = expr_told test prog words bounds known ok scope c m.0 (m.4).means k.0 b.0 in
          let y = h from scope m.1 m.5 k'.0 b'.0 in
          other m.2 m.6 m.3 x y
        where
          other : (z : Option Stmt) → AnyMeans (StmtMeans context result) from scope None z → e ≡ sform.If m.0 m.1 z → expr_names test m.0 ≡ true → stmt_names test m.1 ≡ true → act_names e ≡ true
          other None n is x y = form_at e (F.If m.0 m.1 None) (is ∙ sym (sform.rolls-If m.0 m.1 None)) (λ i. x i && (y i && true))
          other (Some z) n is x y = absurd n

      else_told : (c : PExpr) (a d : PStmt) → StmtTold a → StmtTold d → (from : ℕ) (scope : List Variable) (e : Form) → act_rule context result (S.If c a (Some d)) from scope e → layer_filled (S.If c a (Some d)) ≡ true → layer_words (S.If c a (Some d)) ≡ true → act_names e ≡ true
      else_told c a d h g from scope e m f w =
          let k = and_parts (expr_filled c) (stmt_filled a && stmt_filled d) f in
          let k' = and_parts (stmt_filled a) (stmt_filled d) k.1 in
          let b = and_parts (N.expr_names test c) (N.stmt_names test a && N.stmt_names test d) w in
          let b' = and_parts (N.stmt_names test a) (N.stmt_names test d) b.1 in
          let x = expr_told test prog words bounds known ok scope c m.0 (m.4).means k.0 b.0 in
          let y = h from scope m.1 m.5 k'.0 b'.0 in
          other m.2 m.6 m.3 x y k'.1 b'.1
        where
          other : (z : Option Stmt) → AnyMeans (StmtMeans context result) from scope (Some d) z → e ≡ sform.If m.0 m.1 z → expr_names test m.0 ≡ true → stmt_names test m.1 ≡ true → stmt_filled d ≡ true → N.stmt_names test d ≡ true → act_names e ≡ true
          other None n is x y f w = absurd n
          other (Some z) n is x y f w = let q = g from scope z n f w in form_at e (F.If m.0 m.1 (Some z)) (is ∙ sym (sform.rolls-If m.0 m.1 (Some z))) (λ i. x i && (y i && q i))

      cases : StmtCases StmtTold
      cases = record {
        block = λ s ps h. by_form (S.Block ps) (pform.Block ps) (pform.rolls-Block ps) s (λ from scope e m f w. form_at e (F.Block m.0) (m.1 ∙ sym (sform.rolls-Block m.0)) (block_told ps (every_of StmtTold ps h) (length scope) scope m.0 m.2 f w));
        declare = λ s slot x t v. by_form (S.Declare slot x t v) (pform.Declare slot x t v) (pform.rolls-Declare slot x t v) s (λ from scope e m f w.
            let y : TyTree = m.0 in
            let d : Declared = m.1 in
            let b = and_parts (test x) (N.any_names test v) w in
            let ty = type_words test prog words bounds known ok scope y t (m.3).type in
            let name = ap test (sym (m.3).name) ∙ b.0 in
            let value = value_told scope t v d.value (m.3).value f b.1 in
            form_at e (F.Declare y (d ∷ [])) (m.2 ∙ sym (sform.rolls-Declare y (d ∷ []))) (λ i. ty i && ((name i && value i) && true)));
        assign = λ s p q. by_form (S.Assign p q) (pform.Assign p q) (pform.rolls-Assign p q) s (λ from scope e m f w.
            let a = and_parts (expr_filled p) (expr_filled q) f in
            let b = and_parts (N.expr_names test p) (N.expr_names test q) w in
            let x = target_told scope m.3 p m.0 (m.4).target a.0 b.0 in
            let y = expr_told test prog words bounds known ok scope q m.1 ((m.4).value).means a.1 b.1 in
            form_at e (F.Assign m.0 m.1) (m.2 ∙ sym (sform.rolls-Assign m.0 m.1)) (λ i. x i && y i));
        calls = λ s p. by_form (S.Call p) (pform.Call p) (pform.rolls-Call p) s (λ from scope e m f w. form_at e (F.Call m.0) (m.1 ∙ sym (sform.rolls-Call m.0)) (expr_told test prog words bounds known ok scope p m.0 m.3 f w));
        if_only = λ s c a h. by_form (S.If c a None) (pform.If c a None) (pform.rolls-If c a None) s (if_told c a h);
        if_else = λ s c a d h g. by_form (S.If c a (Some d)) (pform.If c a (Some d)) (pform.rolls-If c a (Some d)) s (else_told c a d h g);
        loop = λ s c a h. by_form (S.While c a) (pform.While c a) (pform.rolls-While c a) s (λ from scope e m f w.
            let k = and_parts (expr_filled c) (stmt_filled a) f in
            let b = and_parts (N.expr_names test c) (N.stmt_names test a) w in
            let x = expr_told test prog words bounds known ok scope c m.0 (m.3).means k.0 b.0 in
            let y = h from scope m.1 m.4 k.1 b.1 in
            form_at e (F.While m.0 m.1) (m.2 ∙ sym (sform.rolls-While m.0 m.1)) (λ i. x i && y i));
        returns = λ s v. by_form (S.Return v) (pform.Return v) (pform.rolls-Return v) s (λ from scope e m f w. form_at e (F.Return m.0) (m.1 ∙ sym (sform.rolls-Return m.0)) (returned scope result v m.0 m.2 f w));
        asserts = λ s p. by_form (S.Assert p) (pform.Assert p) (pform.rolls-Assert p) s (λ from scope e m f w. form_at e (F.Assert m.0) (m.1 ∙ sym (sform.rolls-Assert m.0)) (expr_told test prog words bounds known ok scope p m.0 (m.2).means f w));
        assumes = λ s p. by_form (S.Assume p) (pform.Assume p) (pform.rolls-Assume p) s (λ from scope e m f w. form_at e (F.Assume m.0) (m.1 ∙ sym (sform.rolls-Assume m.0)) (expr_told test prog words bounds known ok scope p m.0 (m.2).means f w));
        minimizes = λ s p. by_form (S.Minimize p) (pform.Minimize p) (pform.rolls-Minimize p) s (λ from scope e m f w. form_at e (F.Minimize m.0) (m.1 ∙ sym (sform.rolls-Minimize m.0)) (expr_told test prog words bounds known ok scope p m.0 (m.2).means f w));
        repeats = λ s c ps h. by_form (S.Repeat c ps) (pform.Repeat c ps) (pform.rolls-Repeat c ps) s (λ from scope e m f w. cc);
        minrepeat = λ s ps h. by_form (S.MinRepeat ps) (pform.MinRepeat ps) (pform.rolls-MinRepeat ps) s (λ from scope e m f w. cc);
        reorder = λ s ps h. by_form (S.Reorder ps) (pform.Reorder ps) (pform.rolls-Reorder ps) s (λ from scope e m f w. cc);
      }

      stmt_told : (p : PStmt) → StmtTold p
      stmt_told = stmt_ind StmtTold cases

      body_told : (ps : List PStmt) (from : ℕ) (scope : List Variable) (es : List Stmt) → BlockMeans (λ p. p) (StmtMeans context result) from scope ps es → list_all stmt_filled ps ≡ true → list_all (N.stmt_names test) ps ≡ true → list_all (stmt_names test) es ≡ true
      body_told [] from scope [] m f w = refl
      body_told [] from scope (e ∷ es) m f w = absurd m
      body_told (p ∷ ps) from scope [] m f w = absurd m
      body_told (p ∷ ps) from scope (e ∷ es) m f w =
          let a = and_parts (stmt_filled p) (list_all stmt_filled ps) f in
          let b = and_parts (N.stmt_names test p) (list_all (N.stmt_names test) ps) w in
          let one = stmt_told p from scope e m.0 a.0 b.0 in
          let rest = body_told ps from (after p scope) es m.1 a.1 b.1 in
          λ i. one i && rest i

    -- Items

    fields_told : (ys : List Field) (ds : List FieldDef) → StructFieldsMean context ys ds → list_all (λ (d : FieldDef). test d.name) ds ≡ true → list_all (field_names test) ys ≡ true
    fields_told [] [] m w = refl
    fields_told (y ∷ ys) (d ∷ ds) m w =
        let b = and_parts (test d.name) (list_all (λ (d : FieldDef). test d.name) ds) w in
        let ty = type_words test prog words bounds known ok [] y.ty d.ty m.1 in
        let name = ap test (sym m.0) ∙ b.0 in
        let rest = fields_told ys ds m.2 b.1 in
        λ i. (ty i && name i) && rest i
    fields_told [] (d ∷ ds) m w = absurd m
    fields_told (y ∷ ys) [] m w = absurd m

    params_told : (ps : List Param) (ds : List ParamDef) → ParamsMean context ps ds → list_all (λ (d : ParamDef). test d.name) ds ≡ true → list_all (param_names test) ps ≡ true
    params_told [] [] m w = refl
    params_told (p ∷ ps) (d ∷ ds) m w =
        let b = and_parts (test d.name) (list_all (λ (d : ParamDef). test d.name) ds) w in
        let ty = type_words test prog words bounds known ok [] p.ty d.ty (m.0).type in
        let name = ap test (sym (m.0).name) ∙ b.0 in
        let rest = params_told ps ds m.1 b.1 in
        λ i. (ty i && name i) && rest i
    params_told [] (d ∷ ds) m w = absurd m
    params_told (p ∷ ps) [] m w = absurd m

    result_told : (r : Option TyTree) (t : Option Ty) → ResultMeans context r t → any_ty_names test r ≡ true
    result_told None None m = refl
    result_told (Some y) (Some t) m = type_words test prog words bounds known ok [] y t m
    result_told None (Some t) m = absurd m
    result_told (Some y) None m = absurd m

    implements_told : (s : Signature) (x : Option (List ℕ)) (i : Option FunId) → ImplementsMeans (top_of prog) s x i → any_name test x ≡ true
    implements_told s None None m = refl
    implements_told s (Some x) (Some i) m = fun_word test prog words [] x i m.0
    implements_told s None (Some i) m = absurd m
    implements_told s (Some x) None m = absurd m

    fun_told : (g : FunItem) (f : Fun) → FunMeans context g f → fun_filled f ≡ true → N.fun_names test f ≡ true → fun_names test g ≡ true
    fun_told g f m filled w =
        let b = and_parts (test f.name) (list_all (λ (d : ParamDef). test d.name) f.params && list_all (N.stmt_names test) f.body) w in
        let c = and_parts (list_all (λ (d : ParamDef). test d.name) f.params) (list_all (N.stmt_names test) f.body) b.1 in
        let result = result_told g.result f.result m.result in
        let name = ap test (sym m.name) ∙ b.0 in
        let params = params_told g.params f.params m.params c.0 in
        let implements = implements_told (signature_of f) g.implements f.implements m.implements in
        let body = body_told f.result f.body 0 (parameters f.params) g.body m.body filled c.1 in
        λ i. result i && (name i && (params i && (implements i && body i)))

  pub items_told : (is : List Item) (known : List Known) → KnownWords test prog words known → (ds : List StructDef) (cs : List ConstDef) (fs : List Fun) → ItemsMean bounds (top_of prog) known is ds cs fs
      → list_all (N.struct_names test) ds ≡ true → list_all (N.const_names test) cs ≡ true → list_all (N.fun_names test) fs ≡ true
      → list_all (λ (c : ConstDef). expr_filled c.value) cs ≡ true → list_all fun_filled fs ≡ true → list_all (item_names test) is ≡ true
  items_told [] known ok [] [] [] m a b c d e = refl
  items_told [] known ok (s ∷ ds) cs fs m a b c d e = absurd m
  items_told [] known ok [] (k ∷ cs) fs m a b c d e = absurd m
  items_told [] known ok [] [] (f ∷ fs) m a b c d e = absurd m
  items_told (item.Struct x ys ∷ is) known ok [] cs fs m a b c d e = absurd m
  items_told (item.Struct x ys ∷ is) known ok (s ∷ ds) cs fs m a b c d e =
      let p = and_parts (N.struct_names test s) (list_all (N.struct_names test) ds) a in
      let q = and_parts (test s.name) (list_all (λ (f : FieldDef). test f.name) s.fields) p.0 in
      let name = ap test (sym (m.0).name) ∙ q.0 in
      let fields = fields_told known ok ys s.fields (m.0).fields q.1 in
      let rest = items_told is known ok ds cs fs m.1 p.1 b c d e in
      λ i. (name i && fields i) && rest i
  items_told (item.Const x v ∷ is) known ok ds [] fs m a b c d e = absurd m
  items_told (item.Const x v ∷ is) known ok ds (k ∷ cs) fs m a b c d e =
      let p = and_parts (N.const_names test k) (list_all (N.const_names test) cs) b in
      let q = and_parts (test k.name) (N.expr_names test k.value) p.0 in
      let r = and_parts (expr_filled k.value) (list_all (λ (c : ConstDef). expr_filled c.value) cs) d in
      let name = ap test (sym (m.1).name) ∙ q.0 in
      let value = expr_told test prog words bounds known ok [] k.value v ((m.1).value).means r.0 q.1 in
      let rest = items_told is (known ++ record { name = x; number = m.0 } ∷ []) (known_more test prog words known x m.0 ok name) ds cs fs m.2 a p.1 c r.1 e in
      λ i. (name i && value i) && rest i
  items_told (item.Fun g ∷ is) known ok ds cs [] m a b c d e = absurd m
  items_told (item.Fun g ∷ is) known ok ds cs (f ∷ fs) m a b c d e =
      let p = and_parts (N.fun_names test f) (list_all (N.fun_names test) fs) c in
      let r = and_parts (fun_filled f) (list_all fun_filled fs) e in
      let one = fun_told known ok g f m.0 r.0 p.0 in
      let rest = items_told is known ok ds cs fs m.1 a b p.1 d r.1 in
      λ i. one i && rest i
  items_told (item.Pragma w t ∷ is) known ok ds cs fs m a b c d e = absurd m
