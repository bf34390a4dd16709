-- Tokens of the kinds that spell a printed expression are found to spell one that differs in spans alone.
use Rattle.std.proofs.Common.{◌≡◌, ℕ, suc, Bool, true, ◌&&◌, List, [], ◌∷◌, map, length, Option, Some, None, refl, sym, ap, ◌∙◌, subst}
use Rattle.std.specs.Prelude.{nat_le}
use Rattle.std.specs.List.{list_all}
use Rattle.std.proofs.lemmas.Bool.{and_parts}
use Rattle.sk_base.specs.declared.span.Span.{Span}
use Rattle.sk_tree.specs.declared.expr.Expr.{Expr}
use Rattle.sk_tree.specs.declared.expr.EForm.TheVariants as eform
use Rattle.sk_tree.specs.Strings.{most_strings}
use Rattle.sk_tree.specs.Spelt.{are_some, is_unary, SpeltPattern}
use Rattle.sk_tree.proofs.Layers.{FieldBy}
use Rattle.sk_prog.specs.declared.ty.Ty.{Ty}
use Rattle.sk_prog.specs.declared.ids.StructId.{StructId}
use Rattle.sk_prog.specs.declared.expr.UnOp.{UnOp}
use Rattle.sk_prog.specs.declared.expr.UnOp.TheVariants as unop
use Rattle.sk_prog.specs.declared.expr.PExpr.{PExpr}
use Rattle.sk_prog.specs.declared.expr.PField.{PField}
use Rattle.sk_prog.specs.declared.expr.PEForm.{PEForm}
use Rattle.sk_prog.specs.declared.expr.PEForm.TheOpen as P
use Rattle.sk_prog.specs.declared.expr.PEForm.TheViews.{roll-PEForm, roll-PExpr, roll-PField}
use Rattle.sk_prog.specs.declared.expr.PEForm.TheFolds.{map-PEForm, fold-PEForm, fold-PField, para-PEForm, para-PField, fold-roll-PEForm, fold-roll-PExpr, fold-roll-PField, para-roll-PEForm, para-roll-PExpr, para-roll-PField, ind-PExpr}
use Rattle.sk_prog.specs.declared.prog.Prog.{Prog}
use Rattle.sk_prog.specs.Names.{is_yes}
use Rattle.sk_types_rules.specs.Erase.{nowhere, at, mark_of, unary_mark, field_name, field_erased}
use Rattle.sk_types_rules.specs.Erase as R
use Rattle.sk_types_rules.specs.WellTyped.{no_bar}
use Rattle.sk_print_laws.specs.Printed.{eform_printed, printed_expr}
use Rattle.sk_print_laws.specs.Readable.{eform_string, is_string, tree_stands, string_stands, all_readable, eform_readable, expr_readable}
use Rattle.sk_print_laws.proofs.Spelled.{field_kinds}
use Rattle.sk_print_laws.proofs.Finds.{All}
use Rattle.sk_print_laws.proofs.Respelt.{AlikeField, Said, SaidField, AllSaid, number_said, true_said, false_said, null_said, word_said, hole_said, width_said, paren_said, call_said, new_said, braces_said, member_said, index_said, slice_said, unary_said, binary_said, cond_said, field_said}
use Rattle.sk_print_laws.proofs.Strings.{NoPattern, string_finds, AllStrings, pattern_said}

-- what is found of an expression, as a whole and as a string
pub record IsRead (whole string : Bool) (e : Expr) : Type 0 where
  pub whole_said : whole ≡ true → Said SpeltPattern e
  pub string_said : string ≡ true → Said NoPattern e

unary_is : (o : UnOp) → is_unary (unary_mark o) ≡ true
unary_is unop.Not = refl
unary_is unop.Flip = refl
unary_is unop.Neg = refl

some_map : {A B : Type 0} (f : A → B) (xs : List A) → are_some (map f xs) ≡ are_some xs
some_map f [] = refl
some_map f (x ∷ xs) = refl

length_same : {A B : Type 0} (f : A → B) (xs : List A) → length (map f xs) ≡ length xs
length_same f [] = refl
length_same f (x ∷ xs) = ap suc (length_same f xs)

module _ (prog : Prog) where
  abbrev form_whole : PEForm → Bool
  form_whole = para-PEForm Bool Bool Bool (eform_readable prog) (λ p. p.form.1) (λ f. f.value.1)

  abbrev field_whole : PField → Bool
  field_whole = para-PField Bool Bool Bool (eform_readable prog) (λ p. p.form.1) (λ f. f.value.1)

  abbrev form_string : PEForm → Bool
  form_string = fold-PEForm Bool Bool Bool eform_string (λ p. p.form) (λ f. f.value)

  abbrev field_string : PField → Bool
  field_string = fold-PField Bool Bool Bool eform_string (λ p. p.form) (λ f. f.value)

  abbrev form_printed : PEForm → Span → Expr
  form_printed = fold-PEForm (Span → Expr) Expr (ℕ × Expr) (eform_printed prog) (λ e. e.form e.span) (λ f. (f.field, f.value))

  abbrev field_printed : PField → ℕ × Expr
  field_printed = fold-PField (Span → Expr) Expr (ℕ × Expr) (eform_printed prog) (λ e. e.form e.span) (λ f. (f.field, f.value))

  abbrev FormIs : Bool → Bool → (Span → Expr) → Type 0
  FormIs whole string e = (s : Span) → IsRead whole string (e s)

  abbrev FormRead : PEForm → Type 0
  FormRead f = FormIs (form_whole f) (form_string f) (form_printed f)

  abbrev pub ExprRead : PExpr → Type 0
  ExprRead e = IsRead (expr_readable prog e) (is_string e) (printed_expr prog e)

  abbrev SetIs : Bool → ℕ × Expr → Type 0
  SetIs whole f = (s : StructId) → whole ≡ true → SaidField SpeltPattern (field_erased prog s f)

  abbrev FieldRead : PField → Type 0
  FieldRead f = SetIs (field_whole f) (field_printed f)

  abbrev Such : Type 0
  Such = (f : PEForm) × FormRead f

  abbrev Such' : Type 0
  Such' = (e : PExpr) × ExprRead e

  abbrev Such'' : Type 0
  Such'' = (f : PField) × FieldRead f

  abbrev down : P.PEForm-F Such Such' Such'' → P.PEForm-F PEForm PExpr PField
  down = map-PEForm Such Such' Such'' PEForm PExpr PField (λ q. q.0) (λ q. q.0) (λ q. q.0)

  abbrev wholes_of : P.PEForm-F PEForm PExpr PField → P.PEForm-F (PEForm × Bool) (PExpr × Bool) (PField × Bool)
  wholes_of = map-PEForm PEForm PExpr PField (PEForm × Bool) (PExpr × Bool) (PField × Bool) (λ f. (f, form_whole f)) (λ e. (e, expr_readable prog e)) (λ f. (f, field_whole f))

  abbrev strings_of : P.PEForm-F PEForm PExpr PField → P.PEForm-F Bool Bool Bool
  strings_of = map-PEForm PEForm PExpr PField Bool Bool Bool form_string is_string field_string

  abbrev printed_of : P.PEForm-F PEForm PExpr PField → P.PEForm-F (Span → Expr) Expr (ℕ × Expr)
  printed_of = map-PEForm PEForm PExpr PField (Span → Expr) Expr (ℕ × Expr) form_printed (printed_expr prog) field_printed

  abbrev LayerRead : P.PEForm-F PEForm PExpr PField → Type 0
  LayerRead l = FormIs (eform_readable prog (wholes_of l)) (eform_string (strings_of l)) (eform_printed prog (printed_of l))

  form_from : (l : P.PEForm-F PEForm PExpr PField) → LayerRead l → FormRead (roll-PEForm l)
  form_from l h s =
      let a = para-roll-PEForm Bool Bool Bool (eform_readable prog) (λ p. p.form.1) (λ f. f.value.1) l in
      let b = fold-roll-PEForm Bool Bool Bool eform_string (λ p. p.form) (λ f. f.value) l in
      let c = fold-roll-PEForm (Span → Expr) Expr (ℕ × Expr) (eform_printed prog) (λ e. e.form e.span) (λ f. (f.field, f.value)) l in
      let is : IsRead (eform_readable prog (wholes_of l)) (eform_string (strings_of l)) (form_printed (roll-PEForm l) s) = subst (λ (x : Span → Expr). IsRead (eform_readable prog (wholes_of l)) (eform_string (strings_of l)) (x s)) (sym c) (h s) in
      record { whole_said = λ w. is.whole_said (sym a ∙ w); string_said = λ w. is.string_said (sym b ∙ w) }

  in_expr : (s : Span) (t : Option Ty) (f : PEForm) → FormRead f → ExprRead (record { span = s; ty = t; form = f })
  in_expr s t f h =
      let a = para-roll-PExpr Bool Bool Bool (eform_readable prog) (λ p. p.form.1) (λ f. f.value.1) (record { span = s; ty = t; form = f }) in
      let b = fold-roll-PExpr Bool Bool Bool eform_string (λ p. p.form) (λ f. f.value) (record { span = s; ty = t; form = f }) in
      let c = fold-roll-PExpr (Span → Expr) Expr (ℕ × Expr) (eform_printed prog) (λ e. e.form e.span) (λ f. (f.field, f.value)) (record { span = s; ty = t; form = f }) in
      let is : IsRead (form_whole f) (form_string f) (printed_expr prog (record { span = s; ty = t; form = f })) = subst (λ (x : Expr). IsRead (form_whole f) (form_string f) x) (sym c) (h s) in
      record { whole_said = λ w. is.whole_said (sym a ∙ w); string_said = λ w. is.string_said (sym b ∙ w) }

  in_field : (k : ℕ) (e : PExpr) → ExprRead e → FieldRead (record { field = k; value = e })
  in_field k e h s w =
      let a = para-roll-PField Bool Bool Bool (eform_readable prog) (λ p. p.form.1) (λ f. f.value.1) (record { field = k; value = e }) in
      let c = fold-roll-PField (Span → Expr) Expr (ℕ × Expr) (eform_printed prog) (λ e. e.form e.span) (λ f. (f.field, f.value)) (record { field = k; value = e }) in
      let is : SaidField SpeltPattern (field_erased prog s (k, printed_expr prog e)) = field_said SpeltPattern (field_name prog s k) (printed_expr prog e) (h.whole_said (sym a ∙ w)) in
      subst (λ (x : ℕ × Expr). SaidField SpeltPattern (field_erased prog s x)) (sym c) is

  -- Lists of parts

  abbrev firsts : List Such' → List PExpr
  firsts qs = map (λ (q : Such'). q.0) qs

  abbrev tested : List PExpr → List (PExpr × Bool)
  tested es = map (λ e. (e, expr_readable prog e)) es

  wholes_said : (qs : List Such') → all_readable prog (tested (firsts qs)) ≡ true → AllSaid SpeltPattern (map (printed_expr prog) (firsts qs))
  wholes_said [] h = tt
  wholes_said (q ∷ qs) h =
      let p = and_parts (expr_readable prog q.0) (all_readable prog (tested (firsts qs))) h in
      ((q.1).whole_said p.0, wholes_said qs p.1)

  strings_said : (qs : List Such') → list_all is_yes (map is_string (firsts qs)) ≡ true → AllSaid NoPattern (map (printed_expr prog) (firsts qs))
  strings_said [] h = tt
  strings_said (q ∷ qs) h =
      let p = and_parts (is_string q.0) (list_all is_yes (map is_string (firsts qs))) h in
      ((q.1).string_said p.0, strings_said qs p.1)

  strings_found : (qs : List Such') → list_all (λ (e : PExpr × Bool). string_stands prog e.0) (tested (firsts qs)) ≡ true → AllStrings (map (printed_expr prog) (firsts qs))
  strings_found [] h = tt
  strings_found (q ∷ qs) h =
      let p = and_parts (string_stands prog q.0) (list_all (λ (e : PExpr × Bool). string_stands prog e.0) (tested (firsts qs))) h in
      let r = and_parts (is_string q.0) (tree_stands (printed_expr prog q.0)) p.0 in
      (string_finds (printed_expr prog q.0) ((q.1).string_said r.0) r.1, strings_found qs p.1)

  sets_said : (s : StructId) (qs : List Such'') → list_all (λ (f : PField × Bool). f.1) (map (λ f. (f, field_whole f)) (map (λ (q : Such''). q.0) qs)) ≡ true → All (FieldBy SpeltPattern) field_kinds AlikeField (map (field_erased prog s) (map field_printed (map (λ (q : Such''). q.0) qs)))
  sets_said s [] h = tt
  sets_said s (q ∷ qs) h =
      let p = and_parts (field_whole q.0) (list_all (λ (f : PField × Bool). f.1) (map (λ f. (f, field_whole f)) (map (λ (q : Such''). q.0) qs))) h in
      (q.1 s p.0, sets_said s qs p.1)

  -- how many parts there are, by what is made of them
  some_printed : {B : Type 0} (g : PExpr → B) (es : List PExpr) → are_some (map g es) ≡ true → are_some (map (printed_expr prog) es) ≡ true
  some_printed g es h = some_map (printed_expr prog) es ∙ sym (some_map g es) ∙ h

  -- Forms

  module _ (s : Span) where
    whole : (y : P.PEForm-F Such Such' Such'') → eform_readable prog (wholes_of (down y)) ≡ true → Said SpeltPattern (eform_printed prog (printed_of (down y)) s)
    whole (P.Number n) h = number_said SpeltPattern s n
    whole P.True h = true_said SpeltPattern s
    whole P.False h = false_said SpeltPattern s
    whole P.Null h = null_said SpeltPattern s
    whole (P.Var slot x) h = word_said SpeltPattern s x
    whole (P.Const c) h = word_said SpeltPattern s (R.const_name prog c)
    whole (P.Hole None) h = hole_said SpeltPattern s
    whole (P.Hole (Some n)) h = width_said SpeltPattern s n
    whole (P.Pattern qs) h =
        let p = and_parts (are_some (tested (firsts qs))) (nat_le (length (tested (firsts qs))) most_strings && list_all (λ (e : PExpr × Bool). string_stands prog e.0) (tested (firsts qs))) h in
        let r = and_parts (nat_le (length (tested (firsts qs))) most_strings) (list_all (λ (e : PExpr × Bool). string_stands prog e.0) (tested (firsts qs))) p.1 in
        let n = length_same (printed_expr prog) (firsts qs) ∙ sym (length_same (λ e. (e, expr_readable prog e)) (firsts qs)) in
        pattern_said s (map (printed_expr prog) (firsts qs)) (some_printed (λ e. (e, expr_readable prog e)) (firsts qs) p.0) (ap (λ k. nat_le k most_strings) n ∙ r.0) (strings_found qs r.1)
    whole (P.Paren e) h = paren_said SpeltPattern s (printed_expr prog e.0) ((e.1).whole_said h)
    whole (P.Call f qs) h = call_said SpeltPattern s (R.fun_name prog f) (map (printed_expr prog) (firsts qs)) (wholes_said qs h)
    whole (P.New d qs) h = new_said SpeltPattern s (R.struct_name prog d) (map (field_erased prog d) (map field_printed (map (λ (q : Such''). q.0) qs))) (sets_said d qs h)
    whole (P.Braces qs) h =
        let p = and_parts (are_some (tested (firsts qs))) (all_readable prog (tested (firsts qs))) h in
        braces_said SpeltPattern s (map (printed_expr prog) (firsts qs)) (some_printed (λ e. (e, expr_readable prog e)) (firsts qs) p.0) (wholes_said qs p.1)
    whole (P.Member e d k) h = member_said SpeltPattern s (printed_expr prog e.0) (R.field_name prog d k) ((e.1).whole_said h)
    whole (P.Index e i) h =
        let p = and_parts (expr_readable prog e.0) (expr_readable prog i.0) h in
        index_said SpeltPattern s (printed_expr prog e.0) (printed_expr prog i.0) ((e.1).whole_said p.0) ((i.1).whole_said p.1)
    whole (P.Slice e i n) h =
        let p = and_parts (expr_readable prog e.0) (expr_readable prog i.0) h in
        slice_said SpeltPattern s (printed_expr prog e.0) (printed_expr prog i.0) (at (eform.Number n) nowhere) ((e.1).whole_said p.0) ((i.1).whole_said p.1) (number_said SpeltPattern nowhere n)
    whole (P.Unary o e) h = unary_said SpeltPattern s (unary_mark o) (printed_expr prog e.0) (unary_is o) ((e.1).whole_said h)
    whole (P.Binary o a b) h =
        let p = and_parts (expr_readable prog a.0) (expr_readable prog b.0) h in
        binary_said SpeltPattern s (mark_of o) (printed_expr prog a.0) (printed_expr prog b.0) ((a.1).whole_said p.0) ((b.1).whole_said p.1)
    whole (P.Cond c a b) h =
        let p = and_parts (expr_readable prog c.0) (expr_readable prog a.0 && expr_readable prog b.0) h in
        let r = and_parts (expr_readable prog a.0) (expr_readable prog b.0) p.1 in
        cond_said SpeltPattern s (printed_expr prog c.0) (printed_expr prog a.0) (printed_expr prog b.0) ((c.1).whole_said p.0) ((a.1).whole_said r.0) ((b.1).whole_said r.1)
    whole (P.ToInt e) h = (e.1).whole_said h
    whole (P.Pad e) h = (e.1).whole_said h

    string : (y : P.PEForm-F Such Such' Such'') → eform_string (strings_of (down y)) ≡ true → Said NoPattern (eform_printed prog (printed_of (down y)) s)
    string (P.Number n) h = number_said NoPattern s n
    string P.True h = true_said NoPattern s
    string P.False h = false_said NoPattern s
    string P.Null h = null_said NoPattern s
    string (P.Var slot x) h = word_said NoPattern s x
    string (P.Const c) h = word_said NoPattern s (R.const_name prog c)
    string (P.Hole None) h = hole_said NoPattern s
    string (P.Hole (Some n)) h = cc
    string (P.Pattern qs) h = cc
    string (P.Paren e) h = cc
    string (P.Call f qs) h = cc
    string (P.New d qs) h = cc
    string (P.Braces qs) h =
        let p = and_parts (are_some (map is_string (firsts qs))) (list_all is_yes (map is_string (firsts qs))) h in
        braces_said NoPattern s (map (printed_expr prog) (firsts qs)) (some_printed is_string (firsts qs) p.0) (strings_said qs p.1)
    string (P.Member e d k) h = member_said NoPattern s (printed_expr prog e.0) (R.field_name prog d k) ((e.1).string_said h)
    string (P.Index e i) h =
        let p = and_parts (is_string e.0) (is_string i.0) h in
        index_said NoPattern s (printed_expr prog e.0) (printed_expr prog i.0) ((e.1).string_said p.0) ((i.1).string_said p.1)
    string (P.Slice e i n) h =
        let p = and_parts (is_string e.0) (is_string i.0) h in
        slice_said NoPattern s (printed_expr prog e.0) (printed_expr prog i.0) (at (eform.Number n) nowhere) ((e.1).string_said p.0) ((i.1).string_said p.1) (number_said NoPattern nowhere n)
    string (P.Unary o e) h = unary_said NoPattern s (unary_mark o) (printed_expr prog e.0) (unary_is o) ((e.1).string_said h)
    string (P.Binary o a b) h =
        let p = and_parts (no_bar o) (is_string a.0 && is_string b.0) h in
        let r = and_parts (is_string a.0) (is_string b.0) p.1 in
        binary_said NoPattern s (mark_of o) (printed_expr prog a.0) (printed_expr prog b.0) ((a.1).string_said r.0) ((b.1).string_said r.1)
    string (P.Cond c a b) h = cc
    string (P.ToInt e) h = (e.1).string_said h
    string (P.Pad e) h = (e.1).string_said h

  expr_reads : (e : PExpr) → ExprRead e
  expr_reads = ind-PExpr FormRead ExprRead FieldRead
      (λ x y is. subst (λ z. FormRead (roll-PEForm z)) is (form_from (down y) (λ s. record { whole_said = whole s y; string_said = string s y })))
      (λ x y is. subst (λ z. ExprRead (roll-PExpr z)) is (in_expr y.span y.ty y.form.0 y.form.1))
      (λ x y is. subst (λ z. FieldRead (roll-PField z)) is (in_field y.field y.value.0 y.value.1))

  -- an expression
  pub expr_said : (e : PExpr) → expr_readable prog e ≡ true → Said SpeltPattern (printed_expr prog e)
  expr_said e h = (expr_reads e).whole_said h
