-- The name of a copy of a word is a word, and no keyword. The names of constants that fit are words.
use Rattle.std.proofs.Common.{◌≡◌, ℕ, ◌<◌, Bool, true, false, List, [], ◌∷◌, ◌++◌, map, Option, Some, None, refl, sym, ap, ◌∙◌, subst}
use Rattle.std.specs.Prelude.{◌&&◌, ◌||◌, ◌^◌, nat_lt, is_none, codes, if◌then◌else◌}
use Rattle.std.specs.List.{list_all}
use Rattle.std.specs.Fmt.{decimal}
use Rattle.std.proofs.lemmas.Bool.{and_parts}
use Rattle.std.proofs.lemmas.List.Folds.{list_all-append}
use Rattle.sk_base.specs.declared.span.Span.{Span}
use Rattle.sk_tree.specs.declared.token.Key.{Key}
use Rattle.sk_tree.specs.Spelling.{key_bytes, all_keys, key_among, key_of}
use Rattle.sk_tree.specs.Shapes.{is_letter, is_digit, is_word_byte}
use Rattle.sk_prog.specs.declared.ty.Ty.{Ty}
use Rattle.sk_prog.specs.declared.ids.StructId.{StructId}
use Rattle.sk_prog.specs.declared.expr.PExpr.{PExpr}
use Rattle.sk_prog.specs.declared.expr.PField.{PField}
use Rattle.sk_prog.specs.declared.expr.PEForm.{PEForm}
use Rattle.sk_prog.specs.declared.expr.PEForm.TheOpen as P
use Rattle.sk_prog.specs.declared.expr.PEForm.TheViews.{roll-PEForm, roll-PExpr, roll-PField}
use Rattle.sk_prog.specs.declared.expr.PEForm.TheFolds.{map-PEForm, fold-PEForm, fold-PField, fold-roll-PEForm, fold-roll-PExpr, fold-roll-PField, ind-PExpr}
use Rattle.sk_prog.specs.declared.prog.Prog.{Prog}
use Rattle.sk_prog.specs.Names.{is_yes, eform_names, expr_names}
use Rattle.sk_prog.specs.Fits.{is_word, is_name, has_struct, has_fun, has_field, any_ty_fits, eform_fits, layer_fits, pfield_fits, expr_fits}
use Rattle.sk_types_rules.specs.Types.{ends_as_copy, is_free}
use Rattle.sk_types_rules.specs.Types as T
use Rattle.sk_model.specs.Expand.{copy_name}
use Rattle.sk_expand_laws.proofs.CopyNames.{digits_of, copy_ends, other}
use Rattle.sk_expand_laws.proofs.Lists.{not_true}

-- Copies

or_yes : (a b : Bool) → b ≡ true → (a || b) ≡ true
or_yes true b h = refl
or_yes false b h = h

digit_word : (b : ℕ) → T.is_digit b ≡ true → is_word_byte b ≡ true
unfolding is_digit
digit_word b h = or_yes (is_letter b) (is_digit b) h

digits_word : (ds : List ℕ) → list_all T.is_digit ds ≡ true → list_all is_word_byte ds ≡ true
digits_word [] h = refl
digits_word (d ∷ ds) h = let a = and_parts (T.is_digit d) (list_all T.is_digit ds) h in (λ i. digit_word d a.0 i && digits_word ds a.1 i)

mark_word : is_word_byte 95 ≡ true
unfolding is_letter is_digit
mark_word = refl

ending_word : (k : ℕ) → k < 2 ^ 64 → list_all is_word_byte (codes "__" ++ decimal k) ≡ true
ending_word k h = (λ i. mark_word i && (mark_word i && digits_word (decimal k) (digits_of k h) i))

copy_word : (x : List ℕ) (k : ℕ) → k < 2 ^ 64 → is_word x ≡ true → is_word (copy_name x k) ≡ true
copy_word [] k h w = cc
copy_word (b ∷ x) k h w =
    let a = and_parts (is_letter b) (list_all is_word_byte x) w in
    (λ i. a.0 i && (list_all-append is_word_byte x (codes "__" ++ decimal k) ∙ (λ j. a.1 j && ending_word k h j)) i)

keys_free : list_all (λ k. is_free (key_bytes k)) all_keys ≡ true
keys_free = refl

no_key : (x : List ℕ) (k : ℕ) → k < 2 ^ 64 → (ks : List Key) → list_all (λ k. is_free (key_bytes k)) ks ≡ true → key_among ks (copy_name x k) ≡ None
no_key x k h [] free = refl
no_key x k h (key ∷ ks) free =
    let a = and_parts (is_free (key_bytes key)) (list_all (λ k. is_free (key_bytes k)) ks) free in
    let ends : ends_as_copy (key_bytes key) ≡ false = not_true (ends_as_copy (key_bytes key)) a.0 in
    let no : copy_name x k ≡ key_bytes key → ⊥ = λ e. let z : true ≡ false = sym (copy_ends x k h) ∙ ap ends_as_copy e ∙ ends in cc in
    ap (λ b. if b then Some key else key_among ks (copy_name x k)) (other (copy_name x k) (key_bytes key) no) ∙ no_key x k h ks a.1

pub copy_is_name : (x : List ℕ) (k : ℕ) → k < 2 ^ 64 → is_name x ≡ true → is_name (copy_name x k) ≡ true
unfolding key_of
copy_is_name x k h n =
    let a = and_parts (is_word x) (is_none (key_of x)) n in
    (λ i. copy_word x k h a.0 i && is_none (no_key x k h all_keys keys_free i))

-- What fits has words for names.

module _ (prog : Prog) (slots : ℕ) where
  abbrev form_good : PEForm → Bool
  form_good = fold-PEForm Bool Bool (StructId → Bool) (eform_fits prog slots) (layer_fits prog slots) (pfield_fits prog slots)

  abbrev field_good : PField → StructId → Bool
  field_good = fold-PField Bool Bool (StructId → Bool) (eform_fits prog slots) (layer_fits prog slots) (pfield_fits prog slots)

  abbrev expr_good : PExpr → Bool
  expr_good = expr_fits prog slots

  abbrev form_words : PEForm → Bool
  form_words = fold-PEForm Bool Bool Bool (eform_names is_name) (λ x. x.form) (λ x. x.value)

  abbrev field_words : PField → Bool
  field_words = fold-PField Bool Bool Bool (eform_names is_name) (λ x. x.form) (λ x. x.value)

  abbrev expr_words : PExpr → Bool
  expr_words = expr_names is_name

  abbrev FormIs : PEForm → Type 0
  FormIs f = form_good f ≡ true → form_words f ≡ true

  abbrev ExprIs : PExpr → Type 0
  ExprIs p = expr_good p ≡ true → expr_words p ≡ true

  abbrev FieldIs : PField → Type 0
  FieldIs x = (r : StructId) → field_good x r ≡ true → field_words x ≡ true

  abbrev Such' : Type 0
  Such' = (e : PExpr) × ExprIs e

  abbrev Such'' : Type 0
  Such'' = (x : PField) × FieldIs x

  abbrev down : P.PEForm-F ((f : PEForm) × FormIs f) Such' Such'' → P.PEForm-F PEForm PExpr PField
  down = map-PEForm ((f : PEForm) × FormIs f) Such' Such'' PEForm PExpr PField (λ q. q.0) (λ q. q.0) (λ q. q.0)

  each : (qs : List Such') → list_all is_yes (map expr_good (map (λ (q : Such'). q.0) qs)) ≡ true → list_all is_yes (map expr_words (map (λ (q : Such'). q.0) qs)) ≡ true
  each [] h = refl
  each (q ∷ qs) h = let a = and_parts (expr_good q.0) (list_all is_yes (map expr_good (map (λ (q : Such'). q.0) qs))) h in (λ i. q.1 a.0 i && each qs a.1 i)

  each_set : (r : StructId) (qs : List Such'') → list_all (λ f. f r) (map field_good (map (λ (q : Such''). q.0) qs)) ≡ true → list_all is_yes (map field_words (map (λ (q : Such''). q.0) qs)) ≡ true
  each_set r [] h = refl
  each_set r (q ∷ qs) h = let a = and_parts (field_good q.0 r) (list_all (λ f. f r) (map field_good (map (λ (q : Such''). q.0) qs))) h in (λ i. q.1 r a.0 i && each_set r qs a.1 i)

  layer : (y : P.PEForm-F ((f : PEForm) × FormIs f) Such' Such'') → eform_fits prog slots (map-PEForm PEForm PExpr PField Bool Bool (StructId → Bool) form_good expr_good field_good (down y)) ≡ true → eform_names is_name (map-PEForm PEForm PExpr PField Bool Bool Bool form_words expr_words field_words (down y)) ≡ true
  layer (P.Var slot x) h = (and_parts (nat_lt slot slots) (is_name x) h).1
  layer (P.Pattern qs) h = each qs h
  layer (P.Paren q) h = q.1 h
  layer (P.Call f qs) h = each qs (and_parts (has_fun prog f) (list_all is_yes (map expr_good (map (λ (q : Such'). q.0) qs))) h).1
  layer (P.New d qs) h = each_set d qs (and_parts (has_struct prog d) (list_all (λ f. f d) (map field_good (map (λ (q : Such''). q.0) qs))) h).1
  layer (P.Braces qs) h = each qs h
  layer (P.Member q d i) h = q.1 (and_parts (expr_good q.0) (has_field prog d i) h).0
  layer (P.Index q j) h = let a = and_parts (expr_good q.0) (expr_good j.0) h in (λ i. q.1 a.0 i && j.1 a.1 i)
  layer (P.Slice q j m) h = let a = and_parts (expr_good q.0) (expr_good j.0) h in (λ i. q.1 a.0 i && j.1 a.1 i)
  layer (P.Unary o q) h = q.1 h
  layer (P.Binary o q j) h = let a = and_parts (expr_good q.0) (expr_good j.0) h in (λ i. q.1 a.0 i && j.1 a.1 i)
  layer (P.Cond d q j) h =
      let a = and_parts (expr_good d.0) (expr_good q.0 && expr_good j.0) h in
      let b = and_parts (expr_good q.0) (expr_good j.0) a.1 in
      (λ i. d.1 a.0 i && (q.1 b.0 i && j.1 b.1 i))
  layer (P.ToInt q) h = q.1 h
  layer (P.Pad q) h = q.1 h
  layer (P.Number n) h = refl
  layer P.True h = refl
  layer P.False h = refl
  layer P.Null h = refl
  layer (P.Const r) h = refl
  layer (P.Hole n) h = refl

  form_from : (y : P.PEForm-F ((f : PEForm) × FormIs f) Such' Such'') → FormIs (roll-PEForm (down y))
  form_from y h = fold-roll-PEForm Bool Bool Bool (eform_names is_name) (λ x. x.form) (λ x. x.value) (down y) ∙ layer y (sym (fold-roll-PEForm Bool Bool (StructId → Bool) (eform_fits prog slots) (layer_fits prog slots) (pfield_fits prog slots) (down y)) ∙ h)

  in_expr : (s : Span) (t : Option Ty) (f : PEForm) → FormIs f → ExprIs (record { span = s; ty = t; form = f })
  in_expr s t f is h =
      let fits = sym (fold-roll-PExpr Bool Bool (StructId → Bool) (eform_fits prog slots) (layer_fits prog slots) (pfield_fits prog slots) (record { span = s; ty = t; form = f })) ∙ h in
      fold-roll-PExpr Bool Bool Bool (eform_names is_name) (λ x. x.form) (λ x. x.value) (record { span = s; ty = t; form = f }) ∙ is (and_parts (any_ty_fits prog t) (form_good f) fits).1

  in_field : (i : ℕ) (p : PExpr) → ExprIs p → FieldIs (record { field = i; value = p })
  in_field i p is r h =
      let fits = ap (λ (f : StructId → Bool). f r) (sym (fold-roll-PField Bool Bool (StructId → Bool) (eform_fits prog slots) (layer_fits prog slots) (pfield_fits prog slots) (record { field = i; value = p }))) ∙ h in
      fold-roll-PField Bool Bool Bool (eform_names is_name) (λ x. x.form) (λ x. x.value) (record { field = i; value = p }) ∙ is (and_parts (has_field prog r i) (expr_good p) fits).1

  pub words_of : (p : PExpr) → ExprIs p
  words_of = ind-PExpr FormIs ExprIs FieldIs
      (λ x y is. subst (λ z. FormIs (roll-PEForm z)) is (form_from y))
      (λ x y is. subst (λ z. ExprIs (roll-PExpr z)) is (in_expr y.span y.ty y.form.0 y.form.1))
      (λ x y is. subst (λ z. FieldIs (roll-PField z)) is (in_field y.field y.value.0 y.value.1))
