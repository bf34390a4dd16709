-- The text of an expression is clean.
use Rattle.std.proofs.Common.{◌≡◌, ℕ, Bool, true, false, ◌&&◌, List, [], ◌∷◌, map, Option, Some, None, refl, sym, ◌∙◌, subst, codes}
use Rattle.std.specs.Prelude.{◌==◌, nat_lt, if◌then◌else◌}
use Rattle.std.specs.List.{list_all, join_by}
use Rattle.std.proofs.lemmas.Bool.{and_parts}
use Rattle.sk_base.specs.declared.span.Span.{Span}
use Rattle.sk_prog.specs.declared.ty.Ty.{Ty}
use Rattle.sk_prog.specs.declared.ids.StructId.{StructId}
use Rattle.sk_prog.specs.declared.expr.UnOp.{UnOp}
use Rattle.sk_prog.specs.declared.expr.UnOp.TheVariants as unop
use Rattle.sk_prog.specs.declared.expr.BinOp.{BinOp}
use Rattle.sk_prog.specs.declared.expr.BinOp.TheVariants as op
use Rattle.sk_prog.specs.declared.expr.PExpr.{PExpr}
use Rattle.sk_prog.specs.declared.expr.PField.{PField}
use Rattle.sk_prog.specs.declared.expr.PEForm.{PEForm}
use Rattle.sk_prog.specs.declared.expr.PEForm.TheOpen as P
use Rattle.sk_prog.specs.declared.expr.PEForm.TheViews.{roll-PEForm, roll-PExpr, roll-PField}
use Rattle.sk_prog.specs.declared.expr.PEForm.TheFolds.{map-PEForm, fold-PEForm, fold-PField, fold-roll-PEForm, fold-roll-PExpr, fold-roll-PField, ind-PExpr}
use Rattle.sk_prog.specs.declared.prog.Prog.{Prog}
use Rattle.sk_prog.specs.Names.{is_yes}
use Rattle.sk_prog.specs.Fits.{is_name, has_struct, has_fun, has_field, any_ty_fits, eform_fits, layer_fits, pfield_fits, expr_fits}
use Rattle.sk_print.specs.Layout.{op_layout, minus_gap, unary_layout, eform_layout, pfield_layout, expr_layout, set_layout}
use Rattle.sk_cert_layouts.proofs.Clean.{Clean, nothing, lit, ◌▹◌, AllClean, joined, number, name_clean}
use Rattle.sk_cert_layouts.proofs.Names.{Fits, struct_clean, const_clean, fun_clean, field_clean}

op_clean : (o : BinOp) → Clean (op_layout o)
unfolding op_layout
op_clean op.Mul = lit (codes "*") refl
op_clean op.Div = lit (codes "/") refl
op_clean op.Rem = lit (codes "%") refl
op_clean op.Add = lit (codes "+") refl
op_clean op.Sub = lit (codes "-") refl
op_clean op.Shl = lit (codes "<<") refl
op_clean op.Shr = lit (codes ">>") refl
op_clean op.Lt = lit (codes "<") refl
op_clean op.Le = lit (codes "<=") refl
op_clean op.Gt = lit (codes ">") refl
op_clean op.Ge = lit (codes ">=") refl
op_clean op.Eq = lit (codes "==") refl
op_clean op.Ne = lit (codes "!=") refl
op_clean op.And = lit (codes "&") refl
op_clean op.Xor = lit (codes "^") refl
op_clean op.Or = lit (codes "|") refl
op_clean op.AndThen = lit (codes "&&") refl
op_clean op.OrElse = lit (codes "||") refl

gap_clean : (a : List ℕ) → Clean (minus_gap a)
gap_clean [] = nothing
gap_clean (b ∷ bs) = elim (b == 45) as (λ t. Clean (if t then codes " " else [])) [ true ↦ lit (codes " ") refl | false ↦ nothing ]

unary_clean : (o : UnOp) (a : List ℕ) → Clean a → Clean (unary_layout o a)
unary_clean unop.Not a h = lit (codes "!") refl ▹ h
unary_clean unop.Flip a h = lit (codes "~") refl ▹ h
unary_clean unop.Neg a h = lit (codes "-") refl ▹ gap_clean a ▹ h

module _ (prog : Prog) (fits : Fits prog) (slots : ℕ) where
  abbrev form_bytes : PEForm → List ℕ
  form_bytes = fold-PEForm (List ℕ) (List ℕ) (StructId → List ℕ) (eform_layout prog) (λ x. x.form) (pfield_layout prog)

  abbrev form_fit : PEForm → Bool
  form_fit = fold-PEForm Bool Bool (StructId → Bool) (eform_fits prog slots) (layer_fits prog slots) (pfield_fits prog slots)

  abbrev field_fit : PField → StructId → Bool
  field_fit = fold-PField Bool Bool (StructId → Bool) (eform_fits prog slots) (layer_fits prog slots) (pfield_fits prog slots)

  abbrev FormClean : PEForm → Type 0
  FormClean f = form_fit f ≡ true → Clean (form_bytes f)

  abbrev ExprClean : PExpr → Type 0
  ExprClean e = expr_fits prog slots e ≡ true → Clean (expr_layout prog e)

  abbrev FieldClean : PField → Type 0
  FieldClean f = (s : StructId) → field_fit f s ≡ true → Clean (set_layout prog f s)

  abbrev Such : Type 0
  Such = (f : PEForm) × FormClean f

  abbrev Such' : Type 0
  Such' = (e : PExpr) × ExprClean e

  abbrev Such'' : Type 0
  Such'' = (f : PField) × FieldClean f

  abbrev down : P.PEForm-F Such Such' Such'' → P.PEForm-F PEForm PExpr PField
  down = map-PEForm Such Such' Such'' PEForm PExpr PField (λ q. q.0) (λ q. q.0) (λ q. q.0)

  abbrev bytes_of : P.PEForm-F PEForm PExpr PField → P.PEForm-F (List ℕ) (List ℕ) (StructId → List ℕ)
  bytes_of = map-PEForm PEForm PExpr PField (List ℕ) (List ℕ) (StructId → List ℕ) form_bytes (expr_layout prog) (set_layout prog)

  abbrev fits_of : P.PEForm-F PEForm PExpr PField → P.PEForm-F Bool Bool (StructId → Bool)
  fits_of = map-PEForm PEForm PExpr PField Bool Bool (StructId → Bool) form_fit (expr_fits prog slots) field_fit

  abbrev LayerClean : P.PEForm-F PEForm PExpr PField → Type 0
  LayerClean l = eform_fits prog slots (fits_of l) ≡ true → Clean (eform_layout prog (bytes_of l))

  form_from : (l : P.PEForm-F PEForm PExpr PField) → LayerClean l → FormClean (roll-PEForm l)
  form_from l h fit =
      let a = fold-roll-PEForm (List ℕ) (List ℕ) (StructId → List ℕ) (eform_layout prog) (λ x. x.form) (pfield_layout prog) l in
      let b = fold-roll-PEForm Bool Bool (StructId → Bool) (eform_fits prog slots) (layer_fits prog slots) (pfield_fits prog slots) l in
      subst Clean (sym a) (h (sym b ∙ fit))

  in_expr : (s : Span) (t : Option Ty) (f : PEForm) → FormClean f → ExprClean (record { span = s; ty = t; form = f })
  in_expr s t f h fit =
      let a = fold-roll-PExpr (List ℕ) (List ℕ) (StructId → List ℕ) (eform_layout prog) (λ x. x.form) (pfield_layout prog) (record { span = s; ty = t; form = f }) in
      let b = fold-roll-PExpr Bool Bool (StructId → Bool) (eform_fits prog slots) (layer_fits prog slots) (pfield_fits prog slots) (record { span = s; ty = t; form = f }) in
      subst Clean (sym a) (h (and_parts (any_ty_fits prog t) (form_fit f) (sym b ∙ fit)).1)

  in_field : (k : ℕ) (e : PExpr) → ExprClean e → FieldClean (record { field = k; value = e })
  in_field k e h s fit =
      let a = fold-roll-PField (List ℕ) (List ℕ) (StructId → List ℕ) (eform_layout prog) (λ x. x.form) (pfield_layout prog) (record { field = k; value = e }) in
      let b = fold-roll-PField Bool Bool (StructId → Bool) (eform_fits prog slots) (layer_fits prog slots) (pfield_fits prog slots) (record { field = k; value = e }) in
      let f = and_parts (has_field prog s k) (expr_fits prog slots e) ((λ i. sym b i s) ∙ fit) in
      subst (λ (x : StructId → List ℕ). Clean (x s)) (sym a) (field_clean prog fits s k ▹ lit (codes " = ") refl ▹ h f.1)

  -- Lists of parts

  exprs : (es : List Such') → list_all is_yes (map (expr_fits prog slots) (map (λ (q : Such'). q.0) es)) ≡ true → AllClean (λ (t : List ℕ). t) (map (expr_layout prog) (map (λ (q : Such'). q.0) es))
  exprs [] fit = tt
  exprs (q ∷ es) fit =
      let f = and_parts (expr_fits prog slots q.0) (list_all is_yes (map (expr_fits prog slots) (map (λ (q : Such'). q.0) es))) fit in
      (q.1 f.0, exprs es f.1)

  sets : (s : StructId) (fs : List Such'') → list_all (λ (f : StructId → Bool). f s) (map field_fit (map (λ (q : Such''). q.0) fs)) ≡ true → AllClean (λ (f : StructId → List ℕ). f s) (map (set_layout prog) (map (λ (q : Such''). q.0) fs))
  sets s [] fit = tt
  sets s (q ∷ fs) fit =
      let f = and_parts (field_fit q.0 s) (list_all (λ (f : StructId → Bool). f s) (map field_fit (map (λ (q : Such''). q.0) fs))) fit in
      (q.1 s f.0, sets s fs f.1)

  -- with separators between them
  listed : (sep : List ℕ) → Clean sep → (es : List Such') → list_all is_yes (map (expr_fits prog slots) (map (λ (q : Such'). q.0) es)) ≡ true → Clean (join_by (λ (t : List ℕ). t) sep (map (expr_layout prog) (map (λ (q : Such'). q.0) es)))
  listed sep s es fit = joined (λ (t : List ℕ). t) sep (map (expr_layout prog) (map (λ (q : Such'). q.0) es)) s (exprs es fit)

  -- Forms

  layer : (y : P.PEForm-F Such Such' Such'') → LayerClean (down y)
  layer (P.Number n) fit = number n
  layer P.True fit = lit (codes "true") refl
  layer P.False fit = lit (codes "false") refl
  layer P.Null fit = lit (codes "null") refl
  layer (P.Var slot x) fit = name_clean x (and_parts (nat_lt slot slots) (is_name x) fit).1
  layer (P.Const c) fit = const_clean prog fits c
  layer (P.Hole None) fit = lit (codes "??") refl
  layer (P.Hole (Some n)) fit = lit (codes "??(") refl ▹ number n ▹ lit (codes ")") refl
  layer (P.Pattern es) fit = lit (codes "{| ") refl ▹ listed (codes " | ") (lit (codes " | ") refl) es fit ▹ lit (codes " |}") refl
  layer (P.Paren e) fit = lit (codes "(") refl ▹ e.1 fit ▹ lit (codes ")") refl
  layer (P.Call x es) fit =
      let f = and_parts (has_fun prog x) (list_all is_yes (map (expr_fits prog slots) (map (λ (q : Such'). q.0) es))) fit in
      fun_clean prog fits x ▹ lit (codes "(") refl ▹ listed (codes ", ") (lit (codes ", ") refl) es f.1 ▹ lit (codes ")") refl
  layer (P.New d fs) fit =
      let f = and_parts (has_struct prog d) (list_all (λ (x : StructId → Bool). x d) (map field_fit (map (λ (q : Such''). q.0) fs))) fit in
      let inner = joined (λ (x : StructId → List ℕ). x d) (codes ", ") (map (set_layout prog) (map (λ (q : Such''). q.0) fs)) (lit (codes ", ") refl) (sets d fs f.1) in
      lit (codes "new ") refl ▹ struct_clean prog fits d ▹ lit (codes "(") refl ▹ inner ▹ lit (codes ")") refl
  layer (P.Braces es) fit = lit (codes "{") refl ▹ listed (codes ", ") (lit (codes ", ") refl) es fit ▹ lit (codes "}") refl
  layer (P.Member e d k) fit =
      let f = and_parts (expr_fits prog slots e.0) (has_field prog d k) fit in
      e.1 f.0 ▹ lit (codes ".") refl ▹ field_clean prog fits d k
  layer (P.Index e i) fit =
      let f = and_parts (expr_fits prog slots e.0) (expr_fits prog slots i.0) fit in
      e.1 f.0 ▹ lit (codes "[") refl ▹ i.1 f.1 ▹ lit (codes "]") refl
  layer (P.Slice e i n) fit =
      let f = and_parts (expr_fits prog slots e.0) (expr_fits prog slots i.0) fit in
      e.1 f.0 ▹ lit (codes "[") refl ▹ i.1 f.1 ▹ lit (codes "::") refl ▹ number n ▹ lit (codes "]") refl
  layer (P.Unary o e) fit = unary_clean o (expr_layout prog e.0) (e.1 fit)
  layer (P.Binary o a b) fit =
      let f = and_parts (expr_fits prog slots a.0) (expr_fits prog slots b.0) fit in
      a.1 f.0 ▹ lit (codes " ") refl ▹ op_clean o ▹ lit (codes " ") refl ▹ b.1 f.1
  layer (P.Cond c a b) fit =
      let f = and_parts (expr_fits prog slots c.0) (expr_fits prog slots a.0 && expr_fits prog slots b.0) fit in
      let g = and_parts (expr_fits prog slots a.0) (expr_fits prog slots b.0) f.1 in
      c.1 f.0 ▹ lit (codes " ? ") refl ▹ a.1 g.0 ▹ lit (codes " : ") refl ▹ b.1 g.1
  layer (P.ToInt e) fit = e.1 fit
  layer (P.Pad e) fit = e.1 fit

  pub expr_clean : (e : PExpr) → ExprClean e
  expr_clean = ind-PExpr FormClean ExprClean FieldClean
      (λ x y is. subst (λ z. FormClean (roll-PEForm z)) is (form_from (down y) (layer y)))
      (λ x y is. subst (λ z. ExprClean (roll-PExpr z)) is (in_expr y.span y.ty y.form.0 y.form.1))
      (λ x y is. subst (λ z. FieldClean (roll-PField z)) is (in_field y.field y.value.0 y.value.1))
