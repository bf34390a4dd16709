-- A walked expression follows the one that it was, where what each call becomes has the parameters that the function had.
use Rattle.std.proofs.Common.{◌≡◌, ℕ, ◌+◌, Bool, true, ◌&&◌, List, [], ◌∷◌, ◌++◌, map, length, Option, refl, sym, subst}
use Rattle.std.specs.Prelude.{slice_get}
use Rattle.std.specs.List.{list_all}
use Rattle.std.proofs.lemmas.Bool.{and_parts}
use Rattle.sk_base.specs.declared.span.Span.{Span}
use Rattle.sk_base.specs.declared.bounds.Bounds.{Bounds}
use Rattle.sk_prog.specs.declared.ids.StructId.{StructId}
use Rattle.sk_prog.specs.declared.ty.Ty.{Ty}
use Rattle.sk_prog.specs.declared.expr.PExpr.{PExpr}
use Rattle.sk_prog.specs.declared.expr.PField.{PField}
use Rattle.sk_prog.specs.declared.expr.PEForm.{PEForm}
use Rattle.sk_prog.specs.declared.expr.PEForm.TheOpen as P
use Rattle.sk_prog.specs.declared.expr.PEForm.TheViews as V
use Rattle.sk_prog.specs.declared.expr.PEForm.TheFolds.{map-PEForm, fold-PEForm, fold-PField}
use Rattle.sk_prog.specs.declared.prog.Fun.{Fun}
use Rattle.sk_prog.specs.declared.prog.Prog.{Prog}
use Rattle.sk_prog.specs.Fits.{has_struct, has_fun, has_field, any_ty_fits, eform_fits, layer_fits, pfield_fits, expr_fits}
use Rattle.sk_prog.specs.Names.{is_yes}
use Rattle.sk_model.specs.Expand.{Walk, as_walk, in_order, CallWalk, fun_id, eform_walk, expr_step, field_step, walk_expr}
use Rattle.sk_model.proofs.Layers.{expr_layer, layer_field}
use Rattle.sk_model.proofs.Induction.{Each, ExprCases, expr_ind}
use Rattle.sk_expand_laws.specs.Copies.{Standing}
use Rattle.sk_expand_laws.proofs.Walks.{standing_parts}
use Rattle.sk_adt.specs.declared.algebraic.Algebraic.{Algebraic}
use Rattle.sk_adt_tags.specs.Tags.{Part, role_in, algebraic_of, params_of, eform_part as tag_form, part}
use Rattle.sk_adt_tags.specs.Fields.{field_part}
use Rattle.sk_adt_tag_laws.proofs.Follow.{Follows, AllFollow, SetFollows, AllSetFollow, none_follows, number_follows, variable_follows, one_follows, two_follow, binary_follows, parts_follow, call_follows, member_follows, made_follows, patterns_follow}

module _ (types : List Algebraic) (prog : Prog) (funs all : List Fun) (bounds : Bounds) (call : CallWalk) where
  -- the program with these functions
  abbrev pub next : Prog
  next = record prog { funs = funs }

  -- What a call becomes has the parameters that the function had.
  abbrev pub CallsStay : Type 0
  CallsStay = (s : Span) (f k : ℕ) → has_fun prog (fun_id f) ≡ true → Standing all k (call s f k).copies → params_of (slice_get prog.funs f) ≡ params_of (slice_get funs (call s f k).made)

  abbrev pub walks : PExpr → Walk PExpr
  walks e = walk_expr bounds call e

  abbrev before : PExpr → Part
  before e = part types prog e

  abbrev after : PExpr → Part
  after e = part types next e

  module _ (stay : CallsStay) (slots : ℕ) where
    abbrev good : PExpr → Bool
    good e = expr_fits prog slots e

    abbrev pub ExprWalks : PExpr → Type 0
    ExprWalks e = (k : ℕ) → good e ≡ true → Standing all k (walks e k).copies → Follows (before e) (after (walks e k).made)

    abbrev field_walks : PField → Walk PField
    field_walks = fold-PField (Span → Walk PEForm) (Walk PExpr) (Walk PField) (eform_walk bounds call) (expr_step bounds call) (field_step bounds call)

    abbrev field_good : PField → StructId → Bool
    field_good = fold-PField Bool Bool (StructId → Bool) (eform_fits prog slots) (layer_fits prog slots) (pfield_fits prog slots)

    abbrev FieldWalks : PField → Type 0
    FieldWalks x = (d : StructId) (k : ℕ) → field_good x d ≡ true → Standing all k (field_walks x k).copies → SetFollows (field_part types prog x) (field_part types next (field_walks x k).made)

    abbrev FieldSaid : ℕ × Part → (StructId → Bool) → Walk PField → Type 0
    FieldSaid f b w = (d : StructId) (k : ℕ) → b d ≡ true → Standing all k (w k).copies → SetFollows f (field_part types next (w k).made)

    -- One layer

    abbrev Layer : Type 0
    Layer = P.PEForm-F PEForm PExpr PField

    abbrev tag_layer : Prog → Layer → P.PEForm-F (Span → Part) Part (ℕ × Part)
    tag_layer p l = map-PEForm PEForm PExpr PField (Span → Part) Part (ℕ × Part) (fold-PEForm (Span → Part) Part (ℕ × Part) (tag_form types p) (λ x. x.form x.span) (λ x. (x.field, x.value))) (part types p) (field_part types p) l

    abbrev good_layer : Layer → P.PEForm-F Bool Bool (StructId → Bool)
    good_layer l = map-PEForm PEForm PExpr PField Bool Bool (StructId → Bool) (fold-PEForm Bool Bool (StructId → Bool) (eform_fits prog slots) (layer_fits prog slots) (pfield_fits prog slots)) good field_good l

    abbrev walk_layer : Layer → Span → Walk PEForm
    walk_layer l = eform_walk bounds call (map-PEForm PEForm PExpr PField (Span → Walk PEForm) (Walk PExpr) (Walk PField) (fold-PEForm (Span → Walk PEForm) (Walk PExpr) (Walk PField) (eform_walk bounds call) (expr_step bounds call) (field_step bounds call)) walks field_walks l)

    abbrev Said : Part → Bool → Walk PExpr → Type 0
    Said a b w = (k : ℕ) → b ≡ true → Standing all k (w k).copies → Follows a (after (w k).made)

    abbrev LayerWalks : Layer → Span → Option Ty → Type 0
    LayerWalks l s t = (k : ℕ) → eform_fits prog slots (good_layer l) ≡ true → Standing all k (walk_layer l s k).copies → Follows (tag_form types prog (tag_layer prog l) s) (after (record { span = s; ty = t; form = (walk_layer l s k).made }))

    by_form : (l : Layer) {g : PEForm} → V.roll-PEForm l ≡ g → (s : Span) (t : Option Ty) → LayerWalks l s t → ExprWalks (record { span = s; ty = t; form = g })
    by_form l {g} is s t h =
        let e : PExpr = record { span = s; ty = t; form = g } in
        let fits : Bool = eform_fits prog slots (good_layer l) in
        let w : Walk PExpr = as_walk (λ form. record { span = s; ty = t; form = form }) (walk_layer l s) in
        subst (λ a. Said a (good e) (walks e)) (sym (expr_layer (Span → Part) Part (ℕ × Part) (tag_form types prog) (λ x. x.form x.span) (λ x. (x.field, x.value)) l g is s t))
        (subst (λ b. Said (tag_form types prog (tag_layer prog l) s) b (walks e)) (sym (expr_layer Bool Bool (StructId → Bool) (eform_fits prog slots) (layer_fits prog slots) (pfield_fits prog slots) l g is s t))
        (subst (λ w. Said (tag_form types prog (tag_layer prog l) s) (any_ty_fits prog t && fits) w) (sym (expr_layer (Span → Walk PEForm) (Walk PExpr) (Walk PField) (eform_walk bounds call) (expr_step bounds call) (field_step bounds call) l g is s t))
        (λ k b c. h k (and_parts (any_ty_fits prog t) fits b).1 c)))

    -- what is seen of a form that made
    pub seen : (l : Layer) {g : PEForm} → V.roll-PEForm l ≡ g → (s : Span) (t : Option Ty) {a : Part} → Follows a (tag_form types next (tag_layer next l) s) → Follows a (after (record { span = s; ty = t; form = g }))
    seen l {g} is s t {a} h = subst (λ b. Follows a b) (sym (expr_layer (Span → Part) Part (ℕ × Part) (tag_form types next) (λ x. x.form x.span) (λ x. (x.field, x.value)) l g is s t)) h

    -- Rows

    rows_follow : (es : List PExpr) → Each ExprWalks es → (k : ℕ) → list_all is_yes (map good es) ≡ true → Standing all k (in_order (map walks es) k).copies → AllFollow (map before es) (map after (in_order (map walks es) k).made)
    rows_follow [] h k b c = tt
    rows_follow (e ∷ es) h k b c =
        let w = walks e k in
        let n = k + length w.copies in
        let fits = and_parts (good e) (list_all is_yes (map good es)) b in
        let there = standing_parts all k w.copies (in_order (map walks es) n).copies c in
        (h.0 k fits.0 there.0, rows_follow es h.1 n fits.1 there.1)

    sets_follow : (d : StructId) (fs : List PField) → Each FieldWalks fs → (k : ℕ) → list_all (λ f. f d) (map field_good fs) ≡ true → Standing all k (in_order (map field_walks fs) k).copies → AllSetFollow (map (field_part types prog) fs) (map (field_part types next) (in_order (map field_walks fs) k).made)
    sets_follow d [] h k b c = tt
    sets_follow d (f ∷ fs) h k b c =
        let w = field_walks f k in
        let n = k + length w.copies in
        let fits = and_parts (field_good f d) (list_all (λ f. f d) (map field_good fs)) b in
        let there = standing_parts all k w.copies (in_order (map field_walks fs) n).copies c in
        (h.0 d k fits.0 there.0, sets_follow d fs h.1 n fits.1 there.1)

    -- Two parts

    abbrev Both : PExpr → PExpr → ℕ → Type 0
    Both x y k = Follows (before x) (after (walks x k).made) × Follows (before y) (after (walks y (k + length (walks x k).copies)).made)

    both_walk : (x y : PExpr) → ExprWalks x → ExprWalks y → (k : ℕ) → (good x && good y) ≡ true → Standing all k ((walks x k).copies ++ (walks y (k + length (walks x k).copies)).copies) → Both x y k
    both_walk x y h j k b c =
        let w = walks x k in
        let n = k + length w.copies in
        let fits = and_parts (good x) (good y) b in
        let there = standing_parts all k w.copies (walks y n).copies c in
        (h k fits.0 there.0, j n fits.1 there.1)

    cases : ExprCases ExprWalks FieldWalks
    cases = record {
      field = λ i e h.
          let x : PField = record { field = i; value = e } in
          subst (λ f. FieldSaid f (field_good x) (field_walks x)) (sym (layer_field (Span → Part) Part (ℕ × Part) (tag_form types prog) (λ x. x.form x.span) (λ x. (x.field, x.value)) i e))
          (subst (λ b. FieldSaid (i, before e) b (field_walks x)) (sym (layer_field Bool Bool (StructId → Bool) (eform_fits prog slots) (layer_fits prog slots) (pfield_fits prog slots) i e))
          (subst (λ w. FieldSaid (i, before e) (λ d. has_field prog d i && good e) w) (sym (layer_field (Span → Walk PEForm) (Walk PExpr) (Walk PField) (eform_walk bounds call) (expr_step bounds call) (field_step bounds call) i e))
          (λ d k b c. subst (λ g. SetFollows (i, before e) g) (sym (layer_field (Span → Part) Part (ℕ × Part) (tag_form types next) (λ x. x.form x.span) (λ x. (x.field, x.value)) i (walks e k).made)) (refl, h k (and_parts (has_field prog d i) (good e) b).1 c))));
      number = λ s t n. by_form (P.Number n) (V.rolls-Number n) s t (λ k b c. seen (P.Number n) (V.rolls-Number n) s t (number_follows n));
      truth = λ s t. by_form P.True V.rolls-True s t (λ k b c. seen P.True V.rolls-True s t none_follows);
      falsity = λ s t. by_form P.False V.rolls-False s t (λ k b c. seen P.False V.rolls-False s t none_follows);
      null = λ s t. by_form P.Null V.rolls-Null s t (λ k b c. seen P.Null V.rolls-Null s t none_follows);
      var = λ s t slot x. by_form (P.Var slot x) (V.rolls-Var slot x) s t (λ k b c. seen (P.Var slot x) (V.rolls-Var slot x) s t (variable_follows slot));
      const = λ s t r. by_form (P.Const r) (V.rolls-Const r) s t (λ k b c. seen (P.Const r) (V.rolls-Const r) s t none_follows);
      hole = λ s t n. by_form (P.Hole n) (V.rolls-Hole n) s t (λ k b c. seen (P.Hole n) (V.rolls-Hole n) s t none_follows);
      pattern = λ s t es h. by_form (P.Pattern es) (V.rolls-Pattern es) s t (λ k b c.
          let xs = (in_order (map walks es) k).made in
          seen (P.Pattern xs) (V.rolls-Pattern xs) s t (patterns_follow (map before es) (map after xs) (rows_follow es h k b c)));
      paren = λ s t e h. by_form (P.Paren e) (V.rolls-Paren e) s t (λ k b c. let x = (walks e k).made in seen (P.Paren x) (V.rolls-Paren x) s t (one_follows (h k b c)));
      call = λ s t f es h. by_form (P.Call f es) (V.rolls-Call f es) s t (λ k b c.
          let w = call s f.index k in
          let n = k + length w.copies in
          let xs = (in_order (map walks es) n).made in
          let fits = and_parts (has_fun prog f) (list_all is_yes (map good es)) b in
          let there = standing_parts all k w.copies (in_order (map walks es) n).copies c in
          seen (P.Call (fun_id w.made) xs) (V.rolls-Call (fun_id w.made) xs) s t
          (call_follows (params_of (slice_get prog.funs f.index)) (params_of (slice_get funs w.made)) (stay s f.index k fits.0 there.0) (map before es) (map after xs) (rows_follow es h n fits.1 there.1)));
      new = λ s t d fs h. by_form (P.New d fs) (V.rolls-New d fs) s t (λ k b c.
          let xs = (in_order (map field_walks fs) k).made in
          let fits = and_parts (has_struct prog d) (list_all (λ f. f d) (map field_good fs)) b in
          seen (P.New d xs) (V.rolls-New d xs) s t
          (made_follows (algebraic_of types prog.structs d) s s (map (field_part types prog) fs) (map (field_part types next) xs) (sets_follow d fs h k fits.1 c)));
      braces = λ s t es h. by_form (P.Braces es) (V.rolls-Braces es) s t (λ k b c.
          let xs = (in_order (map walks es) k).made in
          seen (P.Braces xs) (V.rolls-Braces xs) s t (parts_follow (map before es) (map after xs) (rows_follow es h k b c)));
      member = λ s t e d i h. by_form (P.Member e d i) (V.rolls-Member e d i) s t (λ k b c.
          let x = (walks e k).made in
          let r = role_in (algebraic_of types prog.structs d) i in
          seen (P.Member x d i) (V.rolls-Member x d i) s t (member_follows r s s (h k (and_parts (good e) (has_field prog d i) b).0 c)));
      index = λ s t e i h j. by_form (P.Index e i) (V.rolls-Index e i) s t (λ k b c.
          let w = walks e k in
          let y = (walks i (k + length w.copies)).made in
          let both = both_walk e i h j k b c in
          seen (P.Index w.made y) (V.rolls-Index w.made y) s t (two_follow both.0 both.1));
      slice = λ s t e i m h j. by_form (P.Slice e i m) (V.rolls-Slice e i m) s t (λ k b c.
          let w = walks e k in
          let y = (walks i (k + length w.copies)).made in
          let both = both_walk e i h j k b c in
          seen (P.Slice w.made y m) (V.rolls-Slice w.made y m) s t (two_follow both.0 both.1));
      unary = λ s t o e h. by_form (P.Unary o e) (V.rolls-Unary o e) s t (λ k b c. let x = (walks e k).made in seen (P.Unary o x) (V.rolls-Unary o x) s t (one_follows (h k b c)));
      binary = λ s t o e i h j. by_form (P.Binary o e i) (V.rolls-Binary o e i) s t (λ k b c.
          let w = walks e k in
          let y = (walks i (k + length w.copies)).made in
          let both = both_walk e i h j k b c in
          seen (P.Binary o w.made y) (V.rolls-Binary o w.made y) s t (binary_follows o both.0 both.1));
      cond = λ s t c0 e i h j l. by_form (P.Cond c0 e i) (V.rolls-Cond c0 e i) s t (λ k b c.
          let v = walks c0 k in
          let m = k + length v.copies in
          let w = walks e m in
          let y = (walks i (m + length w.copies)).made in
          let fits = and_parts (good c0) (good e && good i) b in
          let there = standing_parts all k v.copies (w.copies ++ (walks i (m + length w.copies)).copies) c in
          let both = both_walk e i j l m fits.1 there.1 in
          seen (P.Cond v.made w.made y) (V.rolls-Cond v.made w.made y) s t (two_follow (h k fits.0 there.0) (two_follow both.0 both.1)));
      to_int = λ s t e h. by_form (P.ToInt e) (V.rolls-ToInt e) s t (λ k b c. let x = (walks e k).made in seen (P.ToInt x) (V.rolls-ToInt x) s t (one_follows (h k b c)));
      pad = λ s t e h. by_form (P.Pad e) (V.rolls-Pad e) s t (λ k b c. let x = (walks e k).made in seen (P.Pad x) (V.rolls-Pad x) s t (one_follows (h k b c)));
    }

    pub expr_walks : (e : PExpr) → ExprWalks e
    expr_walks = expr_ind ExprWalks FieldWalks cases
