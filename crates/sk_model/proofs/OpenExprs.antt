-- What an expression that leaves nothing open does under a choice is what it does in a run, and it has no sites.
use Rattle.std.proofs.Common.{◌≡◌, ℕ, zero, suc, ◌+◌, List, [], ◌∷◌, map, Option, Some, None, Bool, ◌&&◌, refl, sym, ap, subst, ◌∙◌}
use Rattle.std.specs.Prelude.{IsTrue}
use Rattle.std.specs.List.{list_all}
use Rattle.std.proofs.lemmas.Bool.{false≢true, and_parts}
use Rattle.sk_base.specs.declared.bounds.Bounds.{Bounds}
use Rattle.sk_prog.specs.declared.ty.Elem.TheVariants as elem
use Rattle.sk_prog.specs.declared.ty.Ty.{Ty}
use Rattle.sk_prog.specs.declared.ty.Ty.TheVariants as ty
use Rattle.sk_prog.specs.declared.expr.PExpr.{PExpr}
use Rattle.sk_prog.specs.declared.expr.PField.{PField}
use Rattle.sk_prog.specs.declared.expr.PEForm.{PEForm}
use Rattle.sk_prog.specs.declared.expr.PEForm.TheOpen as P
use Rattle.sk_prog.specs.declared.expr.PEForm.TheViews as V
use Rattle.sk_prog.specs.declared.expr.PEForm.TheFolds.{map-PEForm, map-PExpr, map-PField, fold-PEForm, fold-PField, fold-roll-PEForm, fold-roll-PExpr, fold-roll-PField, ind-PExpr}
use Rattle.sk_prog.specs.declared.prog.Prog.{Prog}
use Rattle.sk_model.specs.Parts.{Part, counts, in_turn}
use Rattle.sk_model.specs.Eval.{Calls, Does, does, does_form}
use Rattle.sk_model.specs.Filled.{is_yes}
use Rattle.sk_model.specs.ClosedExprs.{is_no_bits, eform_closed, expr_closed}
use Rattle.sk_model.specs.Open.{open_eform, open_expr, open_field}

-- a part without sites, which says this wherever it stands
abbrev pub Says : {A : Type 0} → Part A → A → Type 0
Says p a = (p.count ≡ 0) × ((i : ℕ) → p.at i ≡ a)

-- all parts of a list
module _ {A B : Type 0} (ok : A → Bool) (f : A → Part B) (g : A → B) where
  abbrev pub Such : Type 0
  Such = (x : A) × (IsTrue (ok x) → Says (f x) (g x))

  pub none_in : (qs : List Such) → IsTrue (list_all is_yes (map ok (map (λ q. q.0) qs))) → counts (map f (map (λ q. q.0) qs)) ≡ 0
  none_in [] h = refl
  none_in (q ∷ qs) h =
      let both = and_parts (ok q.0) (list_all is_yes (map ok (map (λ q. q.0) qs))) h in
      rw ((q.1 both.0).0, none_in qs both.1) refl

  pub all_say : (qs : List Such) (i : ℕ) → IsTrue (list_all is_yes (map ok (map (λ q. q.0) qs))) → in_turn (map f (map (λ q. q.0) qs)) i ≡ map g (map (λ q. q.0) qs)
  all_say [] i h = refl
  all_say (q ∷ qs) i h =
      let both = and_parts (ok q.0) (list_all is_yes (map ok (map (λ q. q.0) qs))) h in
      rw ((q.1 both.0).1 i, all_say qs (i + (f q.0).count) both.1) refl

module _ (prog : Prog) (bounds : Bounds) (values : List ℕ) (call : Calls) where
  abbrev width : ℕ
  width = bounds.int_bits

  abbrev form_is_closed : PEForm → Option Ty → Bool
  form_is_closed = fold-PEForm (Option Ty → Bool) Bool Bool eform_closed (λ x. x.form x.ty) (λ x. x.value)

  abbrev field_is_closed : PField → Bool
  field_is_closed = fold-PField (Option Ty → Bool) Bool Bool eform_closed (λ x. x.form x.ty) (λ x. x.value)

  abbrev form_open : PEForm → Option Ty → Part Does
  form_open = fold-PEForm (Option Ty → Part Does) (Part Does) (Part (ℕ × Does)) (open_eform prog bounds values call) (λ x. x.form x.ty) (open_field prog bounds values call)

  abbrev field_open : PField → Part (ℕ × Does)
  field_open = fold-PField (Option Ty → Part Does) (Part Does) (Part (ℕ × Does)) (open_eform prog bounds values call) (λ x. x.form x.ty) (open_field prog bounds values call)

  abbrev form_does : PEForm → Option Ty → Does
  form_does = fold-PEForm (Option Ty → Does) Does (ℕ × Does) (does_form prog width call) (λ x. x.form x.ty) (λ x. (x.field, x.value))

  abbrev field_does : PField → ℕ × Does
  field_does = fold-PField (Option Ty → Does) Does (ℕ × Does) (does_form prog width call) (λ x. x.form x.ty) (λ x. (x.field, x.value))

  abbrev opened : PExpr → Part Does
  opened = open_expr prog bounds values call

  abbrev done : PExpr → Does
  done = does prog width call

  abbrev At_form : PEForm → Type 0
  At_form f = (t : Option Ty) → IsTrue (form_is_closed f t) → Says (form_open f t) (form_does f t)

  abbrev At_expr : PExpr → Type 0
  At_expr e = IsTrue (expr_closed e) → Says (opened e) (done e)

  abbrev At_field : PField → Type 0
  At_field x = IsTrue (field_is_closed x) → Says (field_open x) (field_does x)

  abbrev Form : Type 0
  Form = (f : PEForm) × At_form f

  abbrev Expr : Type 0
  Expr = (e : PExpr) × At_expr e

  abbrev Set : Type 0
  Set = (x : PField) × At_field x

  abbrev down : P.PEForm-F Form Expr Set → P.PEForm-F PEForm PExpr PField
  down = map-PEForm Form Expr Set PEForm PExpr PField (λ q. q.0) (λ q. q.0) (λ q. q.0)

  -- a form, by what its layer does
  rolled : (x : P.PEForm-F PEForm PExpr PField) → ((t : Option Ty) → IsTrue (eform_closed (map-PEForm PEForm PExpr PField (Option Ty → Bool) Bool Bool form_is_closed expr_closed field_is_closed x) t) → Says (open_eform prog bounds values call (map-PEForm PEForm PExpr PField (Option Ty → Part Does) (Part Does) (Part (ℕ × Does)) form_open opened field_open x) t) (does_form prog width call (map-PEForm PEForm PExpr PField (Option Ty → Does) Does (ℕ × Does) form_does done field_does x) t)) → At_form (V.roll-PEForm x)
  rolled x h t closed =
      let says = h t (subst (λ (p : Option Ty → Bool). IsTrue (p t)) (fold-roll-PEForm (Option Ty → Bool) Bool Bool eform_closed (λ x. x.form x.ty) (λ x. x.value) x) closed) in
      subst (λ (p : Option Ty → Part Does). Says (p t) (form_does (V.roll-PEForm x) t)) (sym (fold-roll-PEForm (Option Ty → Part Does) (Part Does) (Part (ℕ × Does)) (open_eform prog bounds values call) (λ x. x.form x.ty) (open_field prog bounds values call) x))
      (subst (λ (d : Option Ty → Does). Says (open_eform prog bounds values call (map-PEForm PEForm PExpr PField (Option Ty → Part Does) (Part Does) (Part (ℕ × Does)) form_open opened field_open x) t) (d t)) (sym (fold-roll-PEForm (Option Ty → Does) Does (ℕ × Does) (does_form prog width call) (λ x. x.form x.ty) (λ x. (x.field, x.value)) x)) says)

  hole_says : (bits : Option ℕ) (t : Option Ty) → IsTrue (is_no_bits t) → Says (open_eform prog bounds values call (P.Hole bits) t) (does_form prog width call {X = Option Ty → Does} (P.Hole bits) t)
  hole_says bits (Some (ty.Array elem.Bit zero)) h = (refl, λ i. refl)
  hole_says bits None h = absurd (false≢true h)
  hole_says bits (Some (ty.One e)) h = absurd (false≢true h)
  hole_says bits (Some (ty.Array elem.Bit (suc n))) h = absurd (false≢true h)
  hole_says bits (Some (ty.Array elem.Int n)) h = absurd (false≢true h)
  hole_says bits (Some (ty.Array (elem.Reference s) n)) h = absurd (false≢true h)
  hole_says bits (Some (ty.Grid e n m)) h = absurd (false≢true h)

  layer : (y : P.PEForm-F Form Expr Set) → At_form (V.roll-PEForm (down y))
  layer (P.Number n) = rolled (P.Number n) (λ t h. (refl, λ i. refl))
  layer P.True = rolled P.True (λ t h. (refl, λ i. refl))
  layer P.False = rolled P.False (λ t h. (refl, λ i. refl))
  layer P.Null = rolled P.Null (λ t h. (refl, λ i. refl))
  layer (P.Var slot x) = rolled (P.Var slot x) (λ t h. (refl, λ i. refl))
  layer (P.Const c) = rolled (P.Const c) (λ t h. (refl, λ i. refl))
  layer (P.Hole bits) = rolled (P.Hole bits) (hole_says bits)
  layer (P.Pattern es) = rolled (down (P.Pattern es)) (λ t h. absurd (false≢true h))
  layer (P.Paren a) = rolled (P.Paren a.0) (λ t h. let g = a.1 h in (g.0, λ i. ap (λ d. does_form prog width call {X = Option Ty → Does} (P.Paren d) t) (g.1 i)))
  layer (P.Call f es) = rolled (down (P.Call f es)) (λ t h. (none_in expr_closed opened done es h, λ i. ap (λ ds. does_form prog width call {X = Option Ty → Does} (P.Call f ds) t) (all_say expr_closed opened done es i h)))
  layer (P.New d xs) = rolled (down (P.New d xs)) (λ t h. (none_in field_is_closed field_open field_does xs h, λ i. ap (λ ds. does_form prog width call {X = Option Ty → Does} (P.New d ds) t) (all_say field_is_closed field_open field_does xs i h)))
  layer (P.Braces es) = rolled (down (P.Braces es)) (λ t h. (none_in expr_closed opened done es h, λ i. ap (λ ds. does_form prog width call {X = Option Ty → Does} (P.Braces ds) t) (all_say expr_closed opened done es i h)))
  layer (P.Member a d k) = rolled (P.Member a.0 d k) (λ t h. let g = a.1 h in (g.0, λ i. ap (λ e. does_form prog width call {X = Option Ty → Does} (P.Member e d k) t) (g.1 i)))
  layer (P.Index a b) = rolled (P.Index a.0 b.0) (λ t h. let both = and_parts (expr_closed a.0) (expr_closed b.0) h in let g = a.1 both.0 in let k = b.1 both.1 in (rw (g.0, k.0) refl, λ i. ap (λ e. does_form prog width call {X = Option Ty → Does} (P.Index e ((opened b.0).at (i + (opened a.0).count))) t) (g.1 i) ∙ ap (λ e. does_form prog width call {X = Option Ty → Does} (P.Index (done a.0) e) t) (k.1 (i + (opened a.0).count))))
  layer (P.Slice a b n) = rolled (P.Slice a.0 b.0 n) (λ t h. let both = and_parts (expr_closed a.0) (expr_closed b.0) h in let g = a.1 both.0 in let k = b.1 both.1 in (rw (g.0, k.0) refl, λ i. ap (λ e. does_form prog width call {X = Option Ty → Does} (P.Slice e ((opened b.0).at (i + (opened a.0).count)) n) t) (g.1 i) ∙ ap (λ e. does_form prog width call {X = Option Ty → Does} (P.Slice (done a.0) e n) t) (k.1 (i + (opened a.0).count))))
  layer (P.Unary o a) = rolled (P.Unary o a.0) (λ t h. let g = a.1 h in (g.0, λ i. ap (λ e. does_form prog width call {X = Option Ty → Does} (P.Unary o e) t) (g.1 i)))
  layer (P.Binary o a b) = rolled (P.Binary o a.0 b.0) (λ t h. let both = and_parts (expr_closed a.0) (expr_closed b.0) h in let g = a.1 both.0 in let k = b.1 both.1 in (rw (g.0, k.0) refl, λ i. ap (λ e. does_form prog width call {X = Option Ty → Does} (P.Binary o e ((opened b.0).at (i + (opened a.0).count))) t) (g.1 i) ∙ ap (λ e. does_form prog width call {X = Option Ty → Does} (P.Binary o (done a.0) e) t) (k.1 (i + (opened a.0).count))))
  layer (P.Cond c a b) = rolled (P.Cond c.0 a.0 b.0) (λ t h.
      let first = and_parts (expr_closed c.0) (expr_closed a.0 && expr_closed b.0) h in
      let both = and_parts (expr_closed a.0) (expr_closed b.0) first.1 in
      let f = c.1 first.0 in let g = a.1 both.0 in let k = b.1 both.1 in (
        rw (f.0, g.0, k.0) refl,
        λ i.
            ap (λ e. does_form prog width call {X = Option Ty → Does} (P.Cond e ((opened a.0).at (i + (opened c.0).count)) ((opened b.0).at (i + ((opened c.0).count + (opened a.0).count)))) t) (f.1 i)
            ∙ ap (λ e. does_form prog width call {X = Option Ty → Does} (P.Cond (done c.0) e ((opened b.0).at (i + ((opened c.0).count + (opened a.0).count)))) t) (g.1 (i + (opened c.0).count))
            ∙ ap (λ e. does_form prog width call {X = Option Ty → Does} (P.Cond (done c.0) (done a.0) e) t) (k.1 (i + ((opened c.0).count + (opened a.0).count))),
      ))
  layer (P.ToInt a) = rolled (P.ToInt a.0) (λ t h. let g = a.1 h in (g.0, λ i. ap (λ e. does_form prog width call {X = Option Ty → Does} (P.ToInt e) t) (g.1 i)))
  layer (P.Pad a) = rolled (P.Pad a.0) (λ t h. let g = a.1 h in (g.0, λ i. ap (λ e. does_form prog width call {X = Option Ty → Does} (P.Pad e) t) (g.1 i)))

  expr_layer : (y : P.PExpr-F Form Expr Set) → At_expr (V.roll-PExpr (map-PExpr Form Expr Set PEForm PExpr PField (λ q. q.0) (λ q. q.0) (λ q. q.0) y))
  expr_layer y closed =
      let x : P.PExpr-F PEForm PExpr PField = map-PExpr Form Expr Set PEForm PExpr PField (λ q. q.0) (λ q. q.0) (λ q. q.0) y in
      let says = y.form.1 y.ty (subst IsTrue (fold-roll-PExpr (Option Ty → Bool) Bool Bool eform_closed (λ x. x.form x.ty) (λ x. x.value) x) closed) in
      subst (λ (p : Part Does). Says p (done (V.roll-PExpr x))) (sym (fold-roll-PExpr (Option Ty → Part Does) (Part Does) (Part (ℕ × Does)) (open_eform prog bounds values call) (λ x. x.form x.ty) (open_field prog bounds values call) x))
      (subst (λ (d : Does). Says (form_open y.form.0 y.ty) d) (sym (fold-roll-PExpr (Option Ty → Does) Does (ℕ × Does) (does_form prog width call) (λ x. x.form x.ty) (λ x. (x.field, x.value)) x)) says)

  field_layer : (y : P.PField-F Form Expr Set) → At_field (V.roll-PField (map-PField Form Expr Set PEForm PExpr PField (λ q. q.0) (λ q. q.0) (λ q. q.0) y))
  field_layer y closed =
      let x : P.PField-F PEForm PExpr PField = map-PField Form Expr Set PEForm PExpr PField (λ q. q.0) (λ q. q.0) (λ q. q.0) y in
      let says = y.value.1 (subst IsTrue (fold-roll-PField (Option Ty → Bool) Bool Bool eform_closed (λ x. x.form x.ty) (λ x. x.value) x) closed) in
      subst (λ (p : Part (ℕ × Does)). Says p (field_does (V.roll-PField x))) (sym (fold-roll-PField (Option Ty → Part Does) (Part Does) (Part (ℕ × Does)) (open_eform prog bounds values call) (λ x. x.form x.ty) (open_field prog bounds values call) x))
      (subst (λ (d : ℕ × Does). Says (open_field prog bounds values call (map-PField PEForm PExpr PField (Option Ty → Part Does) (Part Does) (Part (ℕ × Does)) form_open opened field_open x)) d) (sym (fold-roll-PField (Option Ty → Does) Does (ℕ × Does) (does_form prog width call) (λ x. x.form x.ty) (λ x. (x.field, x.value)) x)) (says.0, λ i. ap (λ d. (y.field, d)) (says.1 i)))

  pub closed_expr : (e : PExpr) → At_expr e
  closed_expr = ind-PExpr At_form At_expr At_field
      (λ x y is. subst (λ z. At_form (V.roll-PEForm z)) is (layer y))
      (λ x y is. subst (λ z. At_expr (V.roll-PExpr z)) is (expr_layer y))
      (λ x y is. subst (λ z. At_field (V.roll-PField z)) is (field_layer y))
