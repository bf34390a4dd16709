-- Words and callees of walks: the names that stand in a walk are those of what is walked, and it calls what calls
-- become.
use Rattle.std.proofs.Common.{◌≡◌, ℕ, ◌+◌, Bool, map, length, Option, refl, sym, ap, ◌∙◌, subst}
use Rattle.sk_base.specs.declared.span.Span.{Span}
use Rattle.sk_base.specs.declared.bounds.Bounds.{Bounds}
use Rattle.sk_prog.specs.declared.ty.Ty.{Ty}
use Rattle.sk_prog.specs.declared.expr.PExpr.{PExpr}
use Rattle.sk_prog.specs.declared.expr.PField.{PField}
use Rattle.sk_prog.specs.declared.expr.PEForm.{PEForm}
use Rattle.sk_prog.specs.declared.expr.PEForm.TheVariants as pform
use Rattle.sk_prog.specs.declared.expr.PEForm.TheOpen as P
use Rattle.sk_prog.specs.declared.expr.PEForm.TheViews.{roll-PEForm, roll-PExpr, roll-PField}
use Rattle.sk_prog.specs.declared.expr.PEForm.TheViews as V
use Rattle.sk_prog.specs.declared.expr.PEForm.TheFolds.{map-PEForm, fold-PEForm, fold-PField, fold-roll-PEForm, fold-roll-PExpr, ind-PExpr}
use Rattle.sk_types_rules.specs.Types.{form_calls, is_call}
use Rattle.sk_model.specs.Expand.{Walk, as_walk, in_order, CallWalk, fun_id, eform_walk, expr_step, field_step, walk_expr}

abbrev PLayer : Type 0
PLayer = P.PEForm-F PEForm PExpr PField

module _ (bounds : Bounds) (call : CallWalk) where
  abbrev form_walks : PEForm → Span → Walk PEForm
  form_walks = fold-PEForm (Span → Walk PEForm) (Walk PExpr) (Walk PField) (eform_walk bounds call) (expr_step bounds call) (field_step bounds call)

  abbrev field_walks : PField → Walk PField
  field_walks = fold-PField (Span → Walk PEForm) (Walk PExpr) (Walk PField) (eform_walk bounds call) (expr_step bounds call) (field_step bounds call)

  abbrev walks : PExpr → Walk PExpr
  walks = walk_expr bounds call

  -- Calls stay calls.

  abbrev no_field : PField → Unit {0}
  no_field x = tt

  abbrev act_call : PEForm → Bool
  act_call = fold-PEForm Bool Bool (Unit {0}) form_calls (λ p. p.form) (λ p. tt)

  abbrev calling : PLayer → P.PEForm-F Bool Bool (Unit {0})
  calling l = map-PEForm PEForm PExpr PField Bool Bool (Unit {0}) act_call is_call (fold-PField Bool Bool (Unit {0}) form_calls (λ p. p.form) (λ p. tt)) l

  call_is : (p : PExpr) → is_call p ≡ act_call p.form
  call_is p = fold-roll-PExpr Bool Bool (Unit {0}) form_calls (λ p. p.form) (λ p. tt) (record { span = p.span; ty = p.ty; form = p.form })

  abbrev StaysCall : PEForm → Type 0
  StaysCall f = (s : Span) (k : ℕ) → act_call (form_walks f s k).made ≡ act_call f

  -- a walk makes a form g of the layer m from one of the layer l
  stays : (l m : PLayer) (g : PEForm) → roll-PEForm m ≡ g → form_calls (calling m) ≡ form_calls (calling l) → act_call g ≡ act_call (roll-PEForm l)
  stays l m g is e = ap act_call (sym is) ∙ fold-roll-PEForm Bool Bool (Unit {0}) form_calls (λ p. p.form) (λ p. tt) m ∙ e ∙ sym (fold-roll-PEForm Bool Bool (Unit {0}) form_calls (λ p. p.form) (λ p. tt) l)

  abbrev walk_of : PLayer → Span → Walk PEForm
  walk_of l = eform_walk bounds call (map-PEForm PEForm PExpr PField (Span → Walk PEForm) (Walk PExpr) (Walk PField) form_walks walks field_walks l)

  call_layer : (l : PLayer) (s : Span) (k : ℕ) → act_call (walk_of l s k).made ≡ act_call (roll-PEForm l)
  call_layer (P.Number n) s k = stays (P.Number n) (P.Number n) _ (V.rolls-Number n) refl
  call_layer P.True s k = stays P.True P.True _ V.rolls-True refl
  call_layer P.False s k = stays P.False P.False _ V.rolls-False refl
  call_layer P.Null s k = stays P.Null P.Null _ V.rolls-Null refl
  call_layer (P.Var slot x) s k = stays (P.Var slot x) (P.Var slot x) _ (V.rolls-Var slot x) refl
  call_layer (P.Const r) s k = stays (P.Const r) (P.Const r) _ (V.rolls-Const r) refl
  call_layer (P.Hole n) s k = stays (P.Hole n) (P.Hole n) _ (V.rolls-Hole n) refl
  call_layer (P.Pattern es) s k = let ps = (in_order (map walks es) k).made in stays (P.Pattern es) (P.Pattern ps) (pform.Pattern ps) (V.rolls-Pattern ps) refl
  call_layer (P.Paren e) s k = let p = (walks e k).made in stays (P.Paren e) (P.Paren p) (pform.Paren p) (V.rolls-Paren p) refl
  call_layer (P.Call f es) s k =
      let w = call s f.index k in
      let ps = (in_order (map walks es) (k + length w.copies)).made in
      stays (P.Call f es) (P.Call (fun_id w.made) ps) (pform.Call (fun_id w.made) ps) (V.rolls-Call (fun_id w.made) ps) refl
  call_layer (P.New d fs) s k = let ps = (in_order (map field_walks fs) k).made in stays (P.New d fs) (P.New d ps) (pform.New d ps) (V.rolls-New d ps) refl
  call_layer (P.Braces es) s k = let ps = (in_order (map walks es) k).made in stays (P.Braces es) (P.Braces ps) (pform.Braces ps) (V.rolls-Braces ps) refl
  call_layer (P.Member e d i) s k = let p = (walks e k).made in stays (P.Member e d i) (P.Member p d i) (pform.Member p d i) (V.rolls-Member p d i) refl
  call_layer (P.Index e i) s k =
      let w = walks e k in
      let p = (walks i (k + length w.copies)).made in
      stays (P.Index e i) (P.Index w.made p) (pform.Index w.made p) (V.rolls-Index w.made p) refl
  call_layer (P.Slice e i n) s k =
      let w = walks e k in
      let p = (walks i (k + length w.copies)).made in
      stays (P.Slice e i n) (P.Slice w.made p n) (pform.Slice w.made p n) (V.rolls-Slice w.made p n) refl
  call_layer (P.Unary o e) s k = let p = (walks e k).made in stays (P.Unary o e) (P.Unary o p) (pform.Unary o p) (V.rolls-Unary o p) refl
  call_layer (P.Binary o a b) s k =
      let w = walks a k in
      let p = (walks b (k + length w.copies)).made in
      stays (P.Binary o a b) (P.Binary o w.made p) (pform.Binary o w.made p) (V.rolls-Binary o w.made p) refl
  call_layer (P.Cond c a b) s k =
      let v = walks c k in
      let w = walks a (k + length v.copies) in
      let p = (walks b ((k + length v.copies) + length w.copies)).made in
      stays (P.Cond c a b) (P.Cond v.made w.made p) (pform.Cond v.made w.made p) (V.rolls-Cond v.made w.made p) refl
  call_layer (P.ToInt e) s k = let p = (walks e k).made in stays (P.ToInt e) (P.ToInt p) (pform.ToInt p) (V.rolls-ToInt p) refl
  call_layer (P.Pad e) s k = let p = (walks e k).made in stays (P.Pad e) (P.Pad p) (pform.Pad p) (V.rolls-Pad p) refl

  abbrev Layers : P.PEForm-F ((f : PEForm) × StaysCall f) ((e : PExpr) × ((k : ℕ) → is_call (walks e k).made ≡ is_call e)) ((x : PField) × Unit {0}) → PLayer
  Layers y = map-PEForm ((f : PEForm) × StaysCall f) ((e : PExpr) × ((k : ℕ) → is_call (walks e k).made ≡ is_call e)) ((x : PField) × Unit {0}) PEForm PExpr PField (λ q. q.0) (λ q. q.0) (λ q. q.0) y

  form_stays : (l : PLayer) → StaysCall (roll-PEForm l)
  form_stays l s k = subst (λ (w : Span → Walk PEForm). act_call (w s k).made ≡ act_call (roll-PEForm l)) (sym (fold-roll-PEForm (Span → Walk PEForm) (Walk PExpr) (Walk PField) (eform_walk bounds call) (expr_step bounds call) (field_step bounds call) l)) (call_layer l s k)

  pub is_call_again : (p : PExpr) (k : ℕ) → is_call (walks p k).made ≡ is_call p
  is_call_again = ind-PExpr StaysCall (λ p. (k : ℕ) → is_call (walks p k).made ≡ is_call p) (λ x. Unit {0})
      (λ x y is. subst (λ z. StaysCall (roll-PEForm z)) is (form_stays (Layers y)))
      (λ x y is. subst (λ z. (k : ℕ) → is_call (walks (roll-PExpr z) k).made ≡ is_call (roll-PExpr z)) is (in_expr y.span y.ty y.form.0 y.form.1))
      (λ x y is. tt)
    where
      in_expr : (s : Span) (t : Option Ty) (f : PEForm) → StaysCall f → (k : ℕ) → is_call (walks (record { span = s; ty = t; form = f }) k).made ≡ is_call (record { span = s; ty = t; form = f })
      in_expr s t f h k =
          let w : walks (record { span = s; ty = t; form = f }) ≡ as_walk (λ g. record { span = s; ty = t; form = g }) (form_walks f s) = fold-roll-PExpr (Span → Walk PEForm) (Walk PExpr) (Walk PField) (eform_walk bounds call) (expr_step bounds call) (field_step bounds call) (record { span = s; ty = t; form = f }) in
          subst (λ (w : Walk PExpr). is_call (w k).made ≡ is_call (record { span = s; ty = t; form = f })) (sym w)
          (call_is (record { span = s; ty = t; form = (form_walks f s k).made }) ∙ h s k ∙ sym (call_is (record { span = s; ty = t; form = f })))
