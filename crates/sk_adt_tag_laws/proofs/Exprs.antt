-- A filled expression follows the one that it was, where the functions that it calls have the parameters that they had.
use Rattle.std.proofs.Common.{◌≡◌, ℕ, zero, suc, ◌+◌, true, false, List, [], ◌∷◌, map, Option, Some, None, refl, sym, ap, subst}
use Rattle.std.specs.Prelude.{slice_get, if◌then◌else◌}
use Rattle.sk_base.specs.declared.span.Span.{Span}
use Rattle.sk_prog.specs.declared.ids.FunId.{FunId}
use Rattle.sk_prog.specs.declared.ty.Ty.{Ty}
use Rattle.sk_prog.specs.declared.ty.Ty.TheVariants as ty
use Rattle.sk_prog.specs.declared.ty.Elem.TheVariants as elem
use Rattle.sk_prog.specs.declared.expr.PExpr.{PExpr}
use Rattle.sk_prog.specs.declared.expr.PField.{PField}
use Rattle.sk_prog.specs.declared.expr.PEForm.{PEForm}
use Rattle.sk_prog.specs.declared.expr.PEForm.TheVariants as eform
use Rattle.sk_prog.specs.declared.expr.PEForm.TheOpen as P
use Rattle.sk_prog.specs.declared.expr.PEForm.TheViews as V
use Rattle.sk_prog.specs.declared.expr.PEForm.TheFolds.{map-PEForm, fold-PEForm, fold-PField}
use Rattle.sk_prog.specs.declared.prog.Fun.{Fun}
use Rattle.sk_prog.specs.declared.prog.Prog.{Prog}
use Rattle.sk_model.specs.Parts.{Part as Placed, counts, in_turn, pick, value}
use Rattle.sk_model.specs.Stands.{Standing, own, beside, in_row, first_of, only, hole_count, eform_standing, expr_standing}
use Rattle.sk_model.specs.Fill.{Opened, is_tight, spanned, chosen, no_string, bits_at, hole_part, eform_part, expr_step, field_step, expr_part}
use Rattle.sk_model.proofs.Layers.{expr_layer, layer_field}
use Rattle.sk_model.proofs.Induction.{Each, ExprCases, expr_ind}
use Rattle.sk_holes_laws.specs.Filling.{Every}
use Rattle.sk_holes_laws.proofs.Rows.{every_append}
use Rattle.sk_adt.specs.declared.algebraic.Algebraic.{Algebraic}
use Rattle.sk_adt_tags.specs.Tags.{Part, of_none, pattern_part, role_in, algebraic_of, params_of, eform_part as tag_form, part}
use Rattle.sk_adt_tags.specs.Fields.{field_part}
use Rattle.sk_adt_tag_laws.proofs.Follow.{Follows, AllFollow, AllQuiet, SetFollows, AllSetFollow, quiet_follows, none_follows, number_follows, variable_follows, one_follows, two_follow, binary_follows, parts_follow, quiet_parts, call_follows, member_follows, made_follows, pattern_first, pattern_later, pattern_wrapped}

module _ (types : List Algebraic) (prog : Prog) (funs : List Fun) (values : List ℕ) (number : ℕ → ℕ) where
  -- the program with these functions
  abbrev pub again : Prog
  again = record prog { funs = funs }

  -- A function that is called has the parameters that it had, under its new number.
  abbrev pub Stays : ℕ → Type 0
  Stays m = params_of (slice_get prog.funs m) ≡ params_of (slice_get funs (number m))

  abbrev pub Ready : Placed Standing → ℕ → Type 0
  Ready T i = Every Stays (T.at i).called

  -- what is made of a part follows it, and has as many sites as stand or do not
  abbrev pub Fits : Part → Placed Standing → Placed PExpr → Type 0
  Fits a T F = (T.count ≡ F.count) × ((i : ℕ) → Ready T i → (span : Span) → Follows a (part types again (spanned span (F.at i))))

  abbrev pub ExprFits : PExpr → Type 0
  ExprFits e = Fits (part types prog e) (expr_standing values e) (expr_part values number e)

  abbrev field_standing : PField → Placed Standing
  field_standing = fold-PField (Option Ty → Placed Standing) (Placed Standing) (Placed Standing) (eform_standing values) (λ e. e.form e.ty) (λ x. x.value)

  abbrev field_filled : PField → Placed PField
  field_filled = fold-PField (Opened values number) (Placed PExpr) (Placed PField) (eform_part values number) (expr_step values number) (field_step values number)

  abbrev SetFits : ℕ × Part → Placed Standing → Placed PField → Type 0
  SetFits f T F = (T.count ≡ F.count) × ((i : ℕ) → Ready T i → SetFollows f (field_part types again (F.at i)))

  abbrev FieldFits : PField → Type 0
  FieldFits x = SetFits (field_part types prog x) (field_standing x) (field_filled x)

  -- One layer

  abbrev Layer : Type 0
  Layer = P.PEForm-F PEForm PExpr PField

  abbrev tag_layer : Prog → Layer → P.PEForm-F (Span → Part) Part (ℕ × Part)
  tag_layer p l = map-PEForm PEForm PExpr PField (Span → Part) Part (ℕ × Part) (fold-PEForm (Span → Part) Part (ℕ × Part) (tag_form types p) (λ x. x.form x.span) (λ x. (x.field, x.value))) (part types p) (field_part types p) l

  abbrev standing_layer : Layer → P.PEForm-F (Option Ty → Placed Standing) (Placed Standing) (Placed Standing)
  standing_layer l = map-PEForm PEForm PExpr PField (Option Ty → Placed Standing) (Placed Standing) (Placed Standing) (fold-PEForm (Option Ty → Placed Standing) (Placed Standing) (Placed Standing) (eform_standing values) (λ e. e.form e.ty) (λ x. x.value)) (expr_standing values) field_standing l

  abbrev filled_layer : Layer → P.PEForm-F (Opened values number) (Placed PExpr) (Placed PField)
  filled_layer l = map-PEForm PEForm PExpr PField (Opened values number) (Placed PExpr) (Placed PField) (fold-PEForm (Opened values number) (Placed PExpr) (Placed PField) (eform_part values number) (expr_step values number) (field_step values number)) (expr_part values number) field_filled l

  abbrev LayerFits : Layer → Span → Option Ty → Type 0
  LayerFits l s t = Fits (tag_form types prog (tag_layer prog l) s) (eform_standing values (standing_layer l) t) (eform_part values number (filled_layer l) t s)

  by_form : (l : Layer) {g : PEForm} → V.roll-PEForm l ≡ g → (s : Span) (t : Option Ty) → LayerFits l s t → ExprFits (record { span = s; ty = t; form = g })
  by_form l {g} is s t h =
      let e : PExpr = record { span = s; ty = t; form = g } in
      subst (λ a. Fits a (expr_standing values e) (expr_part values number e)) (sym (expr_layer (Span → Part) Part (ℕ × Part) (tag_form types prog) (λ x. x.form x.span) (λ x. (x.field, x.value)) l g is s t))
      (subst (λ T. Fits (tag_form types prog (tag_layer prog l) s) T (expr_part values number e)) (sym (expr_layer (Option Ty → Placed Standing) (Placed Standing) (Placed Standing) (eform_standing values) (λ e. e.form e.ty) (λ x. x.value) l g is s t))
      (subst (λ F. Fits (tag_form types prog (tag_layer prog l) s) (eform_standing values (standing_layer l) t) F) (sym (expr_layer (Opened values number) (Placed PExpr) (Placed PField) (eform_part values number) (expr_step values number) (field_step values number) l g is s t)) h))

  -- what is seen of a form that made
  seen : (l : Layer) {g : PEForm} → V.roll-PEForm l ≡ g → (s : Span) (t : Option Ty) {a : Part} → Follows a (tag_form types again (tag_layer again l) s) → Follows a (part types again (record { span = s; ty = t; form = g }))
  seen l {g} is s t {a} h = subst (λ b. Follows a b) (sym (expr_layer (Span → Part) Part (ℕ × Part) (tag_form types again) (λ x. x.form x.span) (λ x. (x.field, x.value)) l g is s t)) h

  abbrev before : PExpr → Part
  before e = part types prog e

  abbrev stands : PExpr → Placed Standing
  stands e = expr_standing values e

  abbrev made : PExpr → Placed PExpr
  made e = expr_part values number e

  -- what is made of an expression, at its own span
  own_fits : (e : PExpr) → ExprFits e → (i : ℕ) → Ready (stands e) i → Follows (before e) (part types again ((made e).at i))
  own_fits e h i k = h.1 i k ((made e).at i).span

  -- Rows

  row_count : (es : List PExpr) → Each ExprFits es → (in_row (map stands es)).count ≡ counts (map made es)
  row_count [] h = refl
  row_count (e ∷ es) h = let one = h.0.0 in let rest = row_count es h.1 in λ j. one j + rest j

  -- the second of two parts, at the place where it is made
  second : (T U : Placed Standing) (n i : ℕ) → T.count ≡ n → Every Stays (U.at (i + T.count)).called → Ready U (i + n)
  second T U n i e k = subst (λ m. Ready U (i + m)) e k

  rows_follow : (es : List PExpr) → Each ExprFits es → (i : ℕ) → Ready (in_row (map stands es)) i → AllFollow (map before es) (map (part types again) (in_turn (map made es) i))
  rows_follow [] h i k = tt
  rows_follow (e ∷ es) h i k =
      let b = every_append Stays ((stands e).at i).called ((in_row (map stands es)).at (i + (stands e).count)).called k in
      (own_fits e h.0 i b.0, rows_follow es h.1 (i + (made e).count) (second (stands e) (in_row (map stands es)) (made e).count i h.0.0 b.1))

  sets_count : (fs : List PField) → Each FieldFits fs → (in_row (map field_standing fs)).count ≡ counts (map field_filled fs)
  sets_count [] h = refl
  sets_count (f ∷ fs) h = let one = h.0.0 in let rest = sets_count fs h.1 in λ j. one j + rest j

  sets_follow : (fs : List PField) → Each FieldFits fs → (i : ℕ) → Ready (in_row (map field_standing fs)) i → AllSetFollow (map (field_part types prog) fs) (map (field_part types again) (in_turn (map field_filled fs) i))
  sets_follow [] h i k = tt
  sets_follow (f ∷ fs) h i k =
      let b = every_append Stays ((field_standing f).at i).called ((in_row (map field_standing fs)).at (i + (field_standing f).count)).called k in
      (h.0.1 i b.0, sets_follow fs h.1 (i + (field_filled f).count) (second (field_standing f) (in_row (map field_standing fs)) (field_filled f).count i h.0.0 b.1))

  -- Patterns

  first_count : (v : ℕ) (es : List PExpr) → (in_row (first_of v (map stands es))).count ≡ counts (map stands es)
  first_count v [] = refl
  first_count zero (e ∷ es) = ap (λ n. (stands e).count + n) (first_count zero es)
  first_count (suc v) (e ∷ es) = ap (λ n. (stands e).count + n) (first_count v es)

  no_string_follows : (span : Span) → Follows of_none (part types again (spanned span no_string))
  no_string_follows span = seen P.Null V.rolls-Null span None none_follows

  pick_follows : (es : List PExpr) → Each ExprFits es → (v i : ℕ) → Ready (in_row (only v (map stands es))) i → (span : Span) → Follows (pattern_part (map before es)) (part types again (spanned span (pick no_string (map made es) v i)))
  pick_follows [] h v i k span = no_string_follows span
  pick_follows (e ∷ es) h zero i k span =
      let b = every_append Stays ((stands e).at i).called ((in_row (first_of zero (map stands es))).at (i + (stands e).count)).called k in
      pattern_first (map before es) (h.0.1 i b.0 span)
  pick_follows (e ∷ es) h (suc v) i k span =
      pattern_later (before e) (map before es) (part types again (spanned span (pick no_string (map made es) v (i + (made e).count))))
      (pick_follows es h.1 v (i + (made e).count) (subst (λ m. Ready (in_row (only v (map stands es))) (i + m)) h.0.0 k) span)

  chosen_follows : (es : List PExpr) (t : Option Ty) (span : Span) (e : PExpr) → ((other : Span) → Follows (pattern_part (map before es)) (part types again (spanned other e))) → (other : Span) → Follows (pattern_part (map before es)) (part types again (spanned other (chosen t span e)))
  chosen_follows es t span e h = elim (is_tight e) as (λ b. (other : Span) → Follows (pattern_part (map before es)) (part types again (spanned other (if b then spanned span e else record { span = span; ty = t; form = eform.Paren (spanned span e) })))) [
    | true ↦ λ other. h other
    | false ↦ λ other. seen (P.Paren (spanned span e)) (V.rolls-Paren (spanned span e)) other t (pattern_wrapped (map before es) (part types again (spanned span e)) (h span))
  ]

  -- Holes

  pub number_quiet : (t : Option Ty) (n : ℕ) (span : Span) → Follows of_none (part types again (record { span = span; ty = t; form = eform.Number n }))
  number_quiet t n span = seen (P.Number n) (V.rolls-Number n) span t (quiet_follows (Some n))

  bits_quiet : (span : Span) (n i : ℕ) → AllQuiet (map (part types again) (bits_at values number span n i))
  bits_quiet span zero i = tt
  bits_quiet span (suc n) i = (number_quiet (Some (ty.One elem.Bit)) (value values i) span, bits_quiet span n (i + 1))

  braces_quiet : (span : Span) (n i : ℕ) (t : Option Ty) (other : Span) → Follows of_none (part types again (record { span = other; ty = t; form = eform.Braces (bits_at values number span n i) }))
  braces_quiet span n i t other =
      let bits = bits_at values number span n i in
      seen (P.Braces bits) (V.rolls-Braces bits) other t (quiet_parts (map (part types again) bits) (bits_quiet span n i))

  hole_fits : (t : Option Ty) (s : Span) → Fits of_none (own (hole_count t)) (hole_part values number t s)
  hole_fits None s = (refl, λ i k span. number_quiet None (value values i) span)
  hole_fits (Some (ty.One e)) s = (refl, λ i k span. number_quiet (Some (ty.One e)) (value values i) span)
  hole_fits (Some (ty.Array elem.Bit n)) s = (refl, λ i k span. braces_quiet s n i (Some (ty.Array elem.Bit n)) span)
  hole_fits (Some (ty.Array elem.Int n)) s = (refl, λ i k span. number_quiet (Some (ty.Array elem.Int n)) (value values i) span)
  hole_fits (Some (ty.Array (elem.Reference d) n)) s = (refl, λ i k span. number_quiet (Some (ty.Array (elem.Reference d) n)) (value values i) span)
  hole_fits (Some (ty.Grid e n m)) s = (refl, λ i k span. number_quiet (Some (ty.Grid e n m)) (value values i) span)

  -- Two and three parts

  abbrev Both : PExpr → PExpr → ℕ → Type 0
  Both x y i = Follows (before x) (part types again ((made x).at i)) × Follows (before y) (part types again ((made y).at (i + (made x).count)))

  both_fit : (x y : PExpr) → ExprFits x → ExprFits y → (i : ℕ) → Ready (beside (stands x) (stands y)) i → Both x y i
  both_fit x y h k i r =
      let b = every_append Stays ((stands x).at i).called ((stands y).at (i + (stands x).count)).called r in
      (own_fits x h i b.0, own_fits y k (i + (made x).count) (second (stands x) (stands y) (made x).count i h.0 b.1))

  both_count : (x y : PExpr) → ExprFits x → ExprFits y → (beside (stands x) (stands y)).count ≡ (made x).count + (made y).count
  both_count x y h k = let a = h.0 in let b = k.0 in λ j. a j + b j

  called_here : (f : FunId) (es : List PExpr) (i : ℕ) → Every Stays (f.index ∷ ((in_row (map stands es)).at i).called) → Stays f.index × Ready (in_row (map stands es)) i
  called_here f es i k = k

  cases : ExprCases ExprFits FieldFits
  cases = record {
    field = λ k e h.
        let x : PField = record { field = k; value = e } in
        subst (λ f. SetFits f (field_standing x) (field_filled x)) (sym (layer_field (Span → Part) Part (ℕ × Part) (tag_form types prog) (λ x. x.form x.span) (λ x. (x.field, x.value)) k e))
        (subst (λ T. SetFits (k, before e) T (field_filled x)) (sym (layer_field (Option Ty → Placed Standing) (Placed Standing) (Placed Standing) (eform_standing values) (λ e. e.form e.ty) (λ x. x.value) k e))
        (subst (λ F. SetFits (k, before e) (stands e) F) (sym (layer_field (Opened values number) (Placed PExpr) (Placed PField) (eform_part values number) (expr_step values number) (field_step values number) k e))
        (h.0, λ i r. subst (λ g. SetFollows (k, before e) g) (sym (layer_field (Span → Part) Part (ℕ × Part) (tag_form types again) (λ x. x.form x.span) (λ x. (x.field, x.value)) k ((made e).at i))) (refl, own_fits e h i r))));
    number = λ s t n. by_form (P.Number n) (V.rolls-Number n) s t (refl, λ i k span. seen (P.Number n) (V.rolls-Number n) span t (number_follows n));
    truth = λ s t. by_form P.True V.rolls-True s t (refl, λ i k span. seen P.True V.rolls-True span t none_follows);
    falsity = λ s t. by_form P.False V.rolls-False s t (refl, λ i k span. seen P.False V.rolls-False span t none_follows);
    null = λ s t. by_form P.Null V.rolls-Null s t (refl, λ i k span. seen P.Null V.rolls-Null span t none_follows);
    var = λ s t slot x. by_form (P.Var slot x) (V.rolls-Var slot x) s t (refl, λ i k span. seen (P.Var slot x) (V.rolls-Var slot x) span t (variable_follows slot));
    const = λ s t c. by_form (P.Const c) (V.rolls-Const c) s t (refl, λ i k span. seen (P.Const c) (V.rolls-Const c) span t none_follows);
    hole = λ s t bits. by_form (P.Hole bits) (V.rolls-Hole bits) s t (hole_fits t s);
    pattern = λ s t es h. by_form (P.Pattern es) (V.rolls-Pattern es) s t (
      (let e = counts_same es h in λ j. suc (e j)),
      λ i k. chosen_follows es t s (pick no_string (map made es) (value values i) (i + 1)) (pick_follows es h (value values i) (i + 1) k),
    );
    paren = λ s t e h. by_form (P.Paren e) (V.rolls-Paren e) s t (h.0, λ i k span. let x = (made e).at i in seen (P.Paren x) (V.rolls-Paren x) span t (one_follows (own_fits e h i k)));
    call = λ s t f es h. by_form (P.Call f es) (V.rolls-Call f es) s t (
      row_count es h,
      λ i k span.
          let xs = in_turn (map made es) i in
          let g : FunId = record { index = number f.index } in
          let b = called_here f es i k in
          seen (P.Call g xs) (V.rolls-Call g xs) span t
          (call_follows (params_of (slice_get prog.funs f.index)) (params_of (slice_get funs (number f.index))) b.0 (map before es) (map (part types again) xs) (rows_follow es h i b.1)),
    );
    new = λ s t d fs h. by_form (P.New d fs) (V.rolls-New d fs) s t (
      sets_count fs h,
      λ i k span.
          let xs = in_turn (map field_filled fs) i in
          seen (P.New d xs) (V.rolls-New d xs) span t
          (made_follows (algebraic_of types prog.structs d) s span (map (field_part types prog) fs) (map (field_part types again) xs) (sets_follow fs h i k)),
    );
    braces = λ s t es h. by_form (P.Braces es) (V.rolls-Braces es) s t (
      row_count es h,
      λ i k span.
          let xs = in_turn (map made es) i in
          seen (P.Braces xs) (V.rolls-Braces xs) span t (parts_follow (map before es) (map (part types again) xs) (rows_follow es h i k)),
    );
    member = λ s t e d n h. by_form (P.Member e d n) (V.rolls-Member e d n) s t (
      h.0,
      λ i k span.
          let x = (made e).at i in
          let r = role_in (algebraic_of types prog.structs d) n in
          seen (P.Member x d n) (V.rolls-Member x d n) span t (member_follows r s span (own_fits e h i k)),
    );
    index = λ s t e j h k. by_form (P.Index e j) (V.rolls-Index e j) s t (
      both_count e j h k,
      λ i r span.
          let x = (made e).at i in
          let y = (made j).at (i + (made e).count) in
          let b = both_fit e j h k i r in
          seen (P.Index x y) (V.rolls-Index x y) span t (two_follow b.0 b.1),
    );
    slice = λ s t e j n h k. by_form (P.Slice e j n) (V.rolls-Slice e j n) s t (
      both_count e j h k,
      λ i r span.
          let x = (made e).at i in
          let y = (made j).at (i + (made e).count) in
          let b = both_fit e j h k i r in
          seen (P.Slice x y n) (V.rolls-Slice x y n) span t (two_follow b.0 b.1),
    );
    unary = λ s t o e h. by_form (P.Unary o e) (V.rolls-Unary o e) s t (h.0, λ i k span. let x = (made e).at i in seen (P.Unary o x) (V.rolls-Unary o x) span t (one_follows (own_fits e h i k)));
    binary = λ s t o e j h k. by_form (P.Binary o e j) (V.rolls-Binary o e j) s t (
      both_count e j h k,
      λ i r span.
          let x = (made e).at i in
          let y = (made j).at (i + (made e).count) in
          let b = both_fit e j h k i r in
          seen (P.Binary o x y) (V.rolls-Binary o x y) span t (binary_follows o b.0 b.1),
    );
    cond = λ s t c e j h k l. by_form (P.Cond c e j) (V.rolls-Cond c e j) s t (
      (let a = h.0 in let b = both_count e j k l in λ m. a m + b m),
      λ i r span.
          let z = (made c).at i in
          let x = (made e).at (i + (made c).count) in
          let y = (made j).at (i + (made c).count + (made e).count) in
          let p = every_append Stays ((stands c).at i).called ((beside (stands e) (stands j)).at (i + (stands c).count)).called r in
          let q = both_fit e j k l (i + (made c).count) (second (stands c) (beside (stands e) (stands j)) (made c).count i h.0 p.1) in
          seen (P.Cond z x y) (V.rolls-Cond z x y) span t (two_follow (own_fits c h i p.0) (two_follow q.0 q.1)),
    );
    to_int = λ s t e h. by_form (P.ToInt e) (V.rolls-ToInt e) s t (h.0, λ i k span. let x = (made e).at i in seen (P.ToInt x) (V.rolls-ToInt x) span t (one_follows (own_fits e h i k)));
    pad = λ s t e h. by_form (P.Pad e) (V.rolls-Pad e) s t (h.0, λ i k span. let x = (made e).at i in seen (P.Pad x) (V.rolls-Pad x) span t (one_follows (own_fits e h i k)));
  }
    where
      counts_same : (es : List PExpr) → Each ExprFits es → counts (map stands es) ≡ counts (map made es)
      counts_same [] h = refl
      counts_same (e ∷ es) h = let one = h.0.0 in let rest = counts_same es h.1 in λ j. one j + rest j

  pub expr_fits : (e : PExpr) → ExprFits e
  expr_fits = expr_ind ExprFits FieldFits cases

  pub expr_follows : (e : PExpr) (i : ℕ) → Ready (stands e) i → Follows (before e) (part types again ((made e).at i))
  expr_follows e i k = own_fits e (expr_fits e) i k
