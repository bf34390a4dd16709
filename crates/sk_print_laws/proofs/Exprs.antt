-- The text of an expression tells the kinds that spell the expression that is printed.
use Rattle.std.proofs.Common.{◌≡◌, ℕ, Bool, true, ◌&&◌, List, [], ◌∷◌, ◌++◌, map, Option, Some, None, refl, sym, ap, ◌∙◌, subst, append_assoc, codes}
use Rattle.std.specs.Prelude.{nat_lt}
use Rattle.std.specs.List.{list_all, flat_map, join_by}
use Rattle.std.specs.Fmt.{decimal}
use Rattle.std.proofs.lemmas.Bool.{and_parts}
use Rattle.sk_base.specs.declared.span.Span.{Span}
use Rattle.sk_tree.specs.declared.token.Mark.TheVariants as mark
use Rattle.sk_tree.specs.declared.token.Key.TheVariants as key
use Rattle.sk_tree.specs.declared.expr.Expr.{Expr}
use Rattle.sk_tree.specs.declared.expr.EForm.TheVariants as eform
use Rattle.sk_tree.specs.Spelling.{key_of}
use Rattle.sk_tree.specs.Shapes.{is_letter, is_digit}
use Rattle.sk_tree.specs.Spell.{Kinds, ◌▹◌, word, sign, spell_expr}
use Rattle.sk_prog.specs.declared.ty.Ty.{Ty}
use Rattle.sk_prog.specs.declared.ids.StructId.{StructId}
use Rattle.sk_prog.specs.declared.expr.UnOp.{UnOp}
use Rattle.sk_prog.specs.declared.expr.UnOp.TheVariants as unop
use Rattle.sk_prog.specs.declared.expr.PExpr.{PExpr}
use Rattle.sk_prog.specs.declared.expr.PField.{PField}
use Rattle.sk_prog.specs.declared.expr.PEForm.{PEForm}
use Rattle.sk_prog.specs.declared.expr.PEForm.TheOpen as P
use Rattle.sk_prog.specs.declared.expr.PEForm.TheViews.{roll-PEForm, roll-PExpr, roll-PField}
use Rattle.sk_prog.specs.declared.expr.PEForm.TheFolds.{map-PEForm, fold-PEForm, fold-PField, fold-roll-PEForm, fold-roll-PExpr, fold-roll-PField, ind-PExpr}
use Rattle.sk_prog.specs.declared.prog.Prog.{Prog}
use Rattle.sk_prog.specs.Names.{is_yes}
use Rattle.sk_prog.specs.Fits.{is_name, has_struct, has_fun, has_field, any_ty_fits, eform_fits, layer_fits, pfield_fits, expr_fits}
use Rattle.sk_types_rules.specs.Erase.{nowhere, at, mark_of, unary_mark, field_name, field_erased}
use Rattle.sk_types_rules.specs.Erase as E
use Rattle.sk_print.specs.Layout.{op_layout, unary_layout, commas, eform_layout, pfield_layout, expr_layout, set_layout}
use Rattle.sk_print.specs.Layout as L
use Rattle.sk_print_laws.specs.Printed.{eform_printed, printed_expr}
use Rattle.sk_print_laws.specs.Numbers.{is_small, eform_small, expr_small}
use Rattle.sk_print_laws.proofs.Told.{Told, told, then, then_told, told_then, told_told, told_same, space, name, name_opens, number_told, number_opens, key_told, key_space, open_paren, close_paren, open_bracket, close_bracket, close_brace, dot, tilde, hole, double_colon, open_pattern, close_pattern, assign_space, bar_space, question_space, colon_space, spaced, opens, opens_more, bang, minus, brace, AllTold, between_told, join_map, comma_space, four, five, six}
use Rattle.sk_print_laws.proofs.Operators.{operator}
use Rattle.sk_print_laws.proofs.Names.{Fits, named_told, named_opens, struct_named, const_named, fun_named, field_named}
use Rattle.sk_print_laws.proofs.Spelled.{field_kinds, field_spelled, number_spelled, true_spelled, false_spelled, null_spelled, word_spelled, hole_spelled, width_spelled, pattern_spelled, paren_spelled, call_spelled, new_spelled, braces_spelled, member_spelled, index_spelled, slice_spelled, unary_spelled, binary_spelled, cond_spelled}

-- a text that begins as expressions do and tells these kinds
pub record AsExpr (bs : List ℕ) (ks : Kinds) : Type 0 where
  pub begins : opens bs ≡ true
  pub tells : Told bs ks

spelt : {bs : List ℕ} {ks ls : Kinds} → ls ≡ ks → opens bs ≡ true → Told bs ks → AsExpr bs ls
spelt {bs = bs} e h f = record { begins = h; tells = subst (λ x. Told bs x) (sym e) f }

-- the same of bytes that are put together in another way
spelt_as : {a b : List ℕ} {ks ls : Kinds} → b ≡ a → ls ≡ ks → opens a ≡ true → Told a ks → AsExpr b ls
spelt_as {a = a} {ls = ls} e f h t = subst (λ x. AsExpr x ls) (sym e) (spelt f h t)

unary_told : (o : UnOp) (a : List ℕ) (ks : Kinds) → opens a ≡ true → Told a ks → Told (unary_layout o a) (sign (unary_mark o) ▹ ks)
unary_told unop.Not a ks h f = bang a h f
unary_told unop.Flip a ks h f = then_told tilde f
unary_told unop.Neg a ks h f = minus a h f

unary_opens : (o : UnOp) (a : List ℕ) → opens (unary_layout o a) ≡ true
unary_opens unop.Not a = refl
unary_opens unop.Flip a = refl
unary_opens unop.Neg a = refl

module _ (prog : Prog) (fits : Fits prog) (slots : ℕ) where
  abbrev form_bytes : PEForm → List ℕ
  form_bytes = fold-PEForm (List ℕ) (List ℕ) (StructId → List ℕ) (eform_layout prog) (λ x. x.form) (pfield_layout prog)

  abbrev form_fit : PEForm → Bool
  form_fit = fold-PEForm Bool Bool (StructId → Bool) (eform_fits prog slots) (layer_fits prog slots) (pfield_fits prog slots)

  abbrev field_fit : PField → StructId → Bool
  field_fit = fold-PField Bool Bool (StructId → Bool) (eform_fits prog slots) (layer_fits prog slots) (pfield_fits prog slots)

  abbrev form_small : PEForm → Bool
  form_small = fold-PEForm Bool Bool Bool eform_small (λ x. x.form) (λ f. f.value)

  abbrev field_small : PField → Bool
  field_small = fold-PField Bool Bool Bool eform_small (λ x. x.form) (λ f. f.value)

  abbrev form_printed : PEForm → Span → Expr
  form_printed = fold-PEForm (Span → Expr) Expr (ℕ × Expr) (eform_printed prog) (λ e. e.form e.span) (λ f. (f.field, f.value))

  abbrev field_printed : PField → ℕ × Expr
  field_printed = fold-PField (Span → Expr) Expr (ℕ × Expr) (eform_printed prog) (λ e. e.form e.span) (λ f. (f.field, f.value))

  abbrev FormIs : List ℕ → Bool → Bool → (Span → Expr) → Type 0
  FormIs bs fit small e = fit ≡ true → small ≡ true → (s : Span) → AsExpr bs (spell_expr (e s))

  abbrev FormTold : PEForm → Type 0
  FormTold f = FormIs (form_bytes f) (form_fit f) (form_small f) (form_printed f)

  abbrev pub ExprTold : PExpr → Type 0
  ExprTold e = expr_fits prog slots e ≡ true → expr_small e ≡ true → AsExpr (expr_layout prog e) (spell_expr (printed_expr prog e))

  abbrev SetIs : (StructId → List ℕ) → (StructId → Bool) → Bool → ℕ × Expr → Type 0
  SetIs bs fit small f = (s : StructId) → fit s ≡ true → small ≡ true → Told (bs s) (word (field_name prog s f.0) ▹ sign mark.Assign ▹ spell_expr f.1)

  abbrev FieldTold : PField → Type 0
  FieldTold f = SetIs (set_layout prog f) (field_fit f) (field_small f) (field_printed f)

  abbrev Such : Type 0
  Such = (f : PEForm) × FormTold f

  abbrev Such' : Type 0
  Such' = (e : PExpr) × ExprTold e

  abbrev Such'' : Type 0
  Such'' = (f : PField) × FieldTold f

  abbrev down : P.PEForm-F Such Such' Such'' → P.PEForm-F PEForm PExpr PField
  down = map-PEForm Such Such' Such'' PEForm PExpr PField (λ q. q.0) (λ q. q.0) (λ q. q.0)

  abbrev bytes_of : P.PEForm-F PEForm PExpr PField → P.PEForm-F (List ℕ) (List ℕ) (StructId → List ℕ)
  bytes_of = map-PEForm PEForm PExpr PField (List ℕ) (List ℕ) (StructId → List ℕ) form_bytes (expr_layout prog) (set_layout prog)

  abbrev fits_of : P.PEForm-F PEForm PExpr PField → P.PEForm-F Bool Bool (StructId → Bool)
  fits_of = map-PEForm PEForm PExpr PField Bool Bool (StructId → Bool) form_fit (expr_fits prog slots) field_fit

  abbrev smalls_of : P.PEForm-F PEForm PExpr PField → P.PEForm-F Bool Bool Bool
  smalls_of = map-PEForm PEForm PExpr PField Bool Bool Bool form_small expr_small field_small

  abbrev printed_of : P.PEForm-F PEForm PExpr PField → P.PEForm-F (Span → Expr) Expr (ℕ × Expr)
  printed_of = map-PEForm PEForm PExpr PField (Span → Expr) Expr (ℕ × Expr) form_printed (printed_expr prog) field_printed

  abbrev LayerTold : P.PEForm-F PEForm PExpr PField → Type 0
  LayerTold l = FormIs (eform_layout prog (bytes_of l)) (eform_fits prog slots (fits_of l)) (eform_small (smalls_of l)) (eform_printed prog (printed_of l))

  form_from : (l : P.PEForm-F PEForm PExpr PField) → LayerTold l → FormTold (roll-PEForm l)
  form_from l h fit small s =
      let a = fold-roll-PEForm (List ℕ) (List ℕ) (StructId → List ℕ) (eform_layout prog) (λ x. x.form) (pfield_layout prog) l in
      let b = fold-roll-PEForm Bool Bool (StructId → Bool) (eform_fits prog slots) (layer_fits prog slots) (pfield_fits prog slots) l in
      let c = fold-roll-PEForm Bool Bool Bool eform_small (λ x. x.form) (λ f. f.value) l in
      let d = fold-roll-PEForm (Span → Expr) Expr (ℕ × Expr) (eform_printed prog) (λ e. e.form e.span) (λ f. (f.field, f.value)) l in
      let is : AsExpr (eform_layout prog (bytes_of l)) (spell_expr (eform_printed prog (printed_of l) s)) = h (sym b ∙ fit) (sym c ∙ small) s in
      subst (λ x. AsExpr x (spell_expr (form_printed (roll-PEForm l) s))) (sym a) (subst (λ (x : Span → Expr). AsExpr (eform_layout prog (bytes_of l)) (spell_expr (x s))) (sym d) is)

  in_expr : (s : Span) (t : Option Ty) (f : PEForm) → FormTold f → ExprTold (record { span = s; ty = t; form = f })
  in_expr s t f h fit small =
      let a = fold-roll-PExpr (List ℕ) (List ℕ) (StructId → List ℕ) (eform_layout prog) (λ x. x.form) (pfield_layout prog) (record { span = s; ty = t; form = f }) in
      let b = fold-roll-PExpr Bool Bool (StructId → Bool) (eform_fits prog slots) (layer_fits prog slots) (pfield_fits prog slots) (record { span = s; ty = t; form = f }) in
      let c = fold-roll-PExpr Bool Bool Bool eform_small (λ x. x.form) (λ f. f.value) (record { span = s; ty = t; form = f }) in
      let d = fold-roll-PExpr (Span → Expr) Expr (ℕ × Expr) (eform_printed prog) (λ e. e.form e.span) (λ f. (f.field, f.value)) (record { span = s; ty = t; form = f }) in
      let fit_form = (and_parts (any_ty_fits prog t) (form_fit f) (sym b ∙ fit)).1 in
      let is : AsExpr (form_bytes f) (spell_expr (form_printed f s)) = h fit_form (sym c ∙ small) s in
      subst (λ x. AsExpr x (spell_expr (printed_expr prog (record { span = s; ty = t; form = f })))) (sym a) (subst (λ (x : Expr). AsExpr (form_bytes f) (spell_expr x)) (sym d) is)

  -- Lists of parts

  exprs_told : (es : List Such') → list_all is_yes (map (expr_fits prog slots) (map (λ (q : Such'). q.0) es)) ≡ true → list_all is_yes (map expr_small (map (λ (q : Such'). q.0) es)) ≡ true → AllTold (map (expr_layout prog) (map (λ (q : Such'). q.0) es)) (map spell_expr (map (printed_expr prog) (map (λ (q : Such'). q.0) es)))
  exprs_told [] fit small = tt
  exprs_told (q ∷ es) fit small =
      let f = and_parts (expr_fits prog slots q.0) (list_all is_yes (map (expr_fits prog slots) (map (λ (q : Such'). q.0) es))) fit in
      let m = and_parts (expr_small q.0) (list_all is_yes (map expr_small (map (λ (q : Such'). q.0) es))) small in
      ((q.1 f.0 m.0).tells, exprs_told es f.1 m.1)

  exprs_open : (es : List Such') → list_all is_yes (map (expr_fits prog slots) (map (λ (q : Such'). q.0) es)) ≡ true → list_all is_yes (map expr_small (map (λ (q : Such'). q.0) es)) ≡ true → opens (commas (map (expr_layout prog) (map (λ (q : Such'). q.0) es)) ++ codes "}") ≡ true
  exprs_open [] fit small = refl
  exprs_open (q ∷ es) fit small =
      let f = and_parts (expr_fits prog slots q.0) (list_all is_yes (map (expr_fits prog slots) (map (λ (q : Such'). q.0) es))) fit in
      let m = and_parts (expr_small q.0) (list_all is_yes (map expr_small (map (λ (q : Such'). q.0) es))) small in
      let rest = flat_map (λ y. codes ", " ++ y) (map (expr_layout prog) (map (λ (q : Such'). q.0) es)) in
      opens_more (expr_layout prog q.0 ++ rest) (codes "}") (opens_more (expr_layout prog q.0) rest (q.1 f.0 m.0).begins)

  sets_told : (s : StructId) (fs : List Such'') → list_all (λ (f : StructId → Bool). f s) (map field_fit (map (λ (q : Such''). q.0) fs)) ≡ true → list_all is_yes (map field_small (map (λ (q : Such''). q.0) fs)) ≡ true → AllTold (map (λ (f : StructId → List ℕ). f s) (map (set_layout prog) (map (λ (q : Such''). q.0) fs))) (map field_kinds (map (field_erased prog s) (map field_printed (map (λ (q : Such''). q.0) fs))))
  sets_told s [] fit small = tt
  sets_told s (q ∷ fs) fit small =
      let f = and_parts (field_fit q.0 s) (list_all (λ (f : StructId → Bool). f s) (map field_fit (map (λ (q : Such''). q.0) fs))) fit in
      let m = and_parts (field_small q.0) (list_all is_yes (map field_small (map (λ (q : Such''). q.0) fs))) small in
      let p = field_printed q.0 in
      (subst (λ ks. Told (set_layout prog q.0 s) ks) (sym (field_spelled (field_name prog s p.0) p.1)) (q.1 s f.0 m.0), sets_told s fs f.1 m.1)

  in_field : (k : ℕ) (e : PExpr) → ExprTold e → FieldTold (record { field = k; value = e })
  unfolding is_letter is_digit
  in_field k e h s fit small =
      let a = fold-roll-PField (List ℕ) (List ℕ) (StructId → List ℕ) (eform_layout prog) (λ x. x.form) (pfield_layout prog) (record { field = k; value = e }) in
      let b = fold-roll-PField Bool Bool (StructId → Bool) (eform_fits prog slots) (layer_fits prog slots) (pfield_fits prog slots) (record { field = k; value = e }) in
      let c = fold-roll-PField Bool Bool Bool eform_small (λ x. x.form) (λ f. f.value) (record { field = k; value = e }) in
      let d = fold-roll-PField (Span → Expr) Expr (ℕ × Expr) (eform_printed prog) (λ e. e.form e.span) (λ f. (f.field, f.value)) (record { field = k; value = e }) in
      let f = and_parts (has_field prog s k) (expr_fits prog slots e) ((λ i. sym b i s) ∙ fit) in
      let is : Told (pfield_layout prog (record { field = k; value = expr_layout prog e }) s) (word (field_name prog s k) ▹ sign mark.Assign ▹ spell_expr (printed_expr prog e)) =
      told_same (append_assoc (L.field_name prog s k) (codes " = ") (expr_layout prog e)) refl
      (told_told (named_told (field_named prog fits s k f.0)) (then_told (spaced assign_space) (h f.1 (sym c ∙ small)).tells) refl) in
      subst (λ (x : StructId → List ℕ). Told (x s) (word (field_name prog s (field_printed (record { field = k; value = e })).0) ▹ sign mark.Assign ▹ spell_expr (field_printed (record { field = k; value = e })).1)) (sym a)
      (subst (λ (x : ℕ × Expr). Told (pfield_layout prog (record { field = k; value = expr_layout prog e }) s) (word (field_name prog s x.0) ▹ sign mark.Assign ▹ spell_expr x.1)) (sym d) is)

  -- Forms

  layer : (y : P.PEForm-F Such Such' Such'') → LayerTold (down y)
  unfolding is_letter is_digit key_of
  layer (P.Number n) fit small s = spelt (number_spelled s n) (number_opens n small) (number_told n small)
  layer P.True fit small s = spelt (true_spelled s) refl (key_told key.True (codes "true") refl refl)
  layer P.False fit small s = spelt (false_spelled s) refl (key_told key.False (codes "false") refl refl)
  layer P.Null fit small s = spelt (null_spelled s) refl (key_told key.Null (codes "null") refl refl)
  layer (P.Var slot x) fit small s =
      let f = (and_parts (nat_lt slot slots) (is_name x) fit).1 in
      spelt (word_spelled s x) (name_opens x f) (name x f)
  layer (P.Const c) fit small s =
      let n = const_named prog fits c fit in
      spelt (word_spelled s (E.const_name prog c)) (named_opens n) (named_told n)
  layer (P.Hole None) fit small s = spelt (hole_spelled s) refl (told hole)
  layer (P.Hole (Some n)) fit small s = spelt (width_spelled s n) refl (told (then hole (then open_paren (told_then (number_told n small) close_paren refl))))
  layer (P.Pattern es) fit small s =
      spelt (pattern_spelled s (map (printed_expr prog) (map (λ (q : Such'). q.0) es)) (map (printed_expr prog) (map (λ (q : Such'). q.0) es))) refl
      (told (then (then open_pattern space) (told_then (between_told (spaced bar_space) refl (map (expr_layout prog) (map (λ (q : Such'). q.0) es)) (map spell_expr (map (printed_expr prog) (map (λ (q : Such'). q.0) es))) (exprs_told es fit small)) (spaced close_pattern) refl)))
  layer (P.Paren e) fit small s = spelt (paren_spelled s (printed_expr prog e.0)) refl (told (then open_paren (told_then (e.1 fit small).tells close_paren refl)))
  layer (P.Call x es) fit small s =
      let f = and_parts (has_fun prog x) (list_all is_yes (map (expr_fits prog slots) (map (λ (q : Such'). q.0) es))) fit in
      let n = fun_named prog fits x f.0 in
      let args = commas (map (expr_layout prog) (map (λ (q : Such'). q.0) es)) in
      spelt_as (four (L.fun_name prog x) (codes "(") args (codes ")")) (call_spelled s (E.fun_name prog x) (map (printed_expr prog) (map (λ (q : Such'). q.0) es))) (opens_more (L.fun_name prog x) (codes "(" ++ (args ++ codes ")")) (named_opens n))
      (told_told (named_told n) (told (then open_paren (told_then (between_told comma_space refl (map (expr_layout prog) (map (λ (q : Such'). q.0) es)) (map spell_expr (map (printed_expr prog) (map (λ (q : Such'). q.0) es))) (exprs_told es f.1 small)) close_paren refl))) refl)
  layer (P.New d fs) fit small s =
      let f = and_parts (has_struct prog d) (list_all (λ (x : StructId → Bool). x d) (map field_fit (map (λ (q : Such''). q.0) fs))) fit in
      let n = struct_named prog fits d f.0 in
      let inner = told_same (join_map (λ (x : StructId → List ℕ). x d) (codes ", ") (map (set_layout prog) (map (λ (q : Such''). q.0) fs))) refl
      (between_told comma_space refl (map (λ (x : StructId → List ℕ). x d) (map (set_layout prog) (map (λ (q : Such''). q.0) fs))) (map field_kinds (map (field_erased prog d) (map field_printed (map (λ (q : Such''). q.0) fs)))) (sets_told d fs f.1 small)) in
      let sets = join_by (λ (x : StructId → List ℕ). x d) (codes ", ") (map (set_layout prog) (map (λ (q : Such''). q.0) fs)) in
      spelt_as (ap (λ z. codes "new " ++ z) (four (L.struct_name prog d) (codes "(") sets (codes ")"))) (new_spelled s (E.struct_name prog d) (map (field_erased prog d) (map field_printed (map (λ (q : Such''). q.0) fs)))) refl
      (then_told (key_space key.New (codes "new") refl refl) (told_told (named_told n) (told (then open_paren (told_then inner close_paren refl))) refl))
  layer (P.Braces es) fit small s =
      let args = commas (map (expr_layout prog) (map (λ (q : Such'). q.0) es)) in
      spelt (braces_spelled s (map (printed_expr prog) (map (λ (q : Such'). q.0) es))) refl
      (told (brace (args ++ codes "}") (exprs_open es fit small) (told_then (between_told comma_space refl (map (expr_layout prog) (map (λ (q : Such'). q.0) es)) (map spell_expr (map (printed_expr prog) (map (λ (q : Such'). q.0) es))) (exprs_told es fit small)) close_brace refl)))
  layer (P.Member e d k) fit small s =
      let f = and_parts (expr_fits prog slots e.0) (has_field prog d k) fit in
      let a = e.1 f.0 small in
      spelt_as (append_assoc (expr_layout prog e.0) (codes ".") (L.field_name prog d k)) (member_spelled s (printed_expr prog e.0) (E.field_name prog d k)) (opens_more (expr_layout prog e.0) (codes "." ++ L.field_name prog d k) a.begins)
      (told_told a.tells (then_told dot (named_told (field_named prog fits d k f.1))) refl)
  layer (P.Index e i) fit small s =
      let f = and_parts (expr_fits prog slots e.0) (expr_fits prog slots i.0) fit in
      let m = and_parts (expr_small e.0) (expr_small i.0) small in
      let a = e.1 f.0 m.0 in
      spelt_as (four (expr_layout prog e.0) (codes "[") (expr_layout prog i.0) (codes "]")) (index_spelled s (printed_expr prog e.0) (printed_expr prog i.0)) (opens_more (expr_layout prog e.0) (codes "[" ++ (expr_layout prog i.0 ++ codes "]")) a.begins)
      (told_told a.tells (told (then open_bracket (told_then (i.1 f.1 m.1).tells close_bracket refl))) refl)
  layer (P.Slice e i n) fit small s =
      let f = and_parts (expr_fits prog slots e.0) (expr_fits prog slots i.0) fit in
      let m = and_parts (expr_small e.0) (expr_small i.0 && is_small n) small in
      let k = and_parts (expr_small i.0) (is_small n) m.1 in
      let a = e.1 f.0 m.0 in
      spelt_as (six (expr_layout prog e.0) (codes "[") (expr_layout prog i.0) (codes "::") (decimal n) (codes "]")) (slice_spelled s (printed_expr prog e.0) (printed_expr prog i.0) (at (eform.Number n) nowhere)) (opens_more (expr_layout prog e.0) (codes "[" ++ (expr_layout prog i.0 ++ (codes "::" ++ (decimal n ++ codes "]")))) a.begins)
      (told_told a.tells (told (then open_bracket (told_then (i.1 f.1 k.0).tells (then double_colon (told_then (told_same refl (number_spelled nowhere n) (number_told n k.1)) close_bracket refl)) refl))) refl)
  layer (P.Unary o e) fit small s =
      let a = e.1 fit small in
      spelt (unary_spelled s (unary_mark o) (printed_expr prog e.0)) (unary_opens o (expr_layout prog e.0)) (unary_told o (expr_layout prog e.0) (spell_expr (printed_expr prog e.0)) a.begins a.tells)
  layer (P.Binary o a b) fit small s =
      let f = and_parts (expr_fits prog slots a.0) (expr_fits prog slots b.0) fit in
      let m = and_parts (expr_small a.0) (expr_small b.0) small in
      let x = a.1 f.0 m.0 in
      spelt_as (five (expr_layout prog a.0) (codes " ") (op_layout o) (codes " ") (expr_layout prog b.0)) (binary_spelled s (mark_of o) (printed_expr prog a.0) (printed_expr prog b.0)) (opens_more (expr_layout prog a.0) (codes " " ++ (op_layout o ++ (codes " " ++ expr_layout prog b.0))) x.begins)
      (told_told x.tells (operator o (b.1 f.1 m.1).tells) refl)
  layer (P.Cond c a b) fit small s =
      let f = and_parts (expr_fits prog slots c.0) (expr_fits prog slots a.0 && expr_fits prog slots b.0) fit in
      let g = and_parts (expr_fits prog slots a.0) (expr_fits prog slots b.0) f.1 in
      let m = and_parts (expr_small c.0) (expr_small a.0 && expr_small b.0) small in
      let k = and_parts (expr_small a.0) (expr_small b.0) m.1 in
      let x = c.1 f.0 m.0 in
      spelt_as (five (expr_layout prog c.0) (codes " ? ") (expr_layout prog a.0) (codes " : ") (expr_layout prog b.0)) (cond_spelled s (printed_expr prog c.0) (printed_expr prog a.0) (printed_expr prog b.0)) (opens_more (expr_layout prog c.0) (codes " ? " ++ (expr_layout prog a.0 ++ (codes " : " ++ expr_layout prog b.0))) x.begins)
      (told_told x.tells (then_told (spaced question_space) (told_told (a.1 g.0 k.0).tells (then_told (spaced colon_space) (b.1 g.1 k.1).tells) refl)) refl)
  layer (P.ToInt e) fit small s = e.1 fit small
  layer (P.Pad e) fit small s = e.1 fit small

  -- the text of an expression
  pub expr_told : (e : PExpr) → ExprTold e
  expr_told = ind-PExpr FormTold ExprTold FieldTold
      (λ x y is. subst (λ z. FormTold (roll-PEForm z)) is (form_from (down y) (layer y)))
      (λ x y is. subst (λ z. ExprTold (roll-PExpr z)) is (in_expr y.span y.ty y.form.0 y.form.1))
      (λ x y is. subst (λ z. FieldTold (roll-PField z)) is (in_field y.field y.value.0 y.value.1))
