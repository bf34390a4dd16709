-- What is left of statements without sites is filled by new numbers alone.
use Rattle.std.proofs.Common.{◌≡◌, ℕ, zero, suc, ◌+◌, ◌-◌, Bool, true, false, ◌&&◌, List, [], ◌∷◌, ◌++◌, map, length, Option, Some, None, refl, sym, ap, subst, ◌∙◌, arith}
use Rattle.std.specs.Prelude.{nat_le, if◌then◌else◌}
use Rattle.std.specs.List.{list_all, list_any}
use Rattle.std.proofs.lemmas.Bool.{le-leb, false≢true}
use Rattle.std.proofs.lemmas.List.{length-map}
use Rattle.sk_base.specs.declared.span.Span.{Span}
use Rattle.sk_base.specs.declared.bounds.Bounds.{Bounds}
use Rattle.sk_prog.specs.declared.ty.Ty.{Ty}
use Rattle.sk_prog.specs.declared.ty.Ty.TheVariants as ty
use Rattle.sk_prog.specs.declared.ty.Elem.TheVariants as elem
use Rattle.sk_prog.specs.declared.expr.PExpr.{PExpr}
use Rattle.sk_prog.specs.declared.expr.PField.{PField}
use Rattle.sk_prog.specs.declared.expr.PEForm.{PEForm}
use Rattle.sk_prog.specs.declared.expr.PEForm.TheVariants as eform
use Rattle.sk_prog.specs.declared.expr.PEForm.TheOpen as P
use Rattle.sk_prog.specs.declared.expr.PEForm.TheViews as V
use Rattle.sk_prog.specs.declared.expr.PEForm.TheFolds.{map-PEForm, fold-PEForm, fold-PField}
use Rattle.sk_prog.specs.declared.stmt.PStmt.{PStmt}
use Rattle.sk_prog.specs.declared.stmt.PForm.{PForm}
use Rattle.sk_prog.specs.declared.stmt.PForm.TheVariants as form
use Rattle.sk_prog.specs.declared.stmt.PForm.TheOpen as S
use Rattle.sk_prog.specs.declared.stmt.PForm.TheViews as W
use Rattle.sk_prog.specs.declared.stmt.PForm.TheFolds.{map-PForm, fold-PForm}
use Rattle.sk_prog.specs.declared.prog.ConstDef.{ConstDef}
use Rattle.sk_model.specs.declared.expanded.Site.{Site}
use Rattle.sk_model.specs.Parts.{Part, in_turn, joined}
use Rattle.sk_model.specs.Sites.{site, places, is_hole, eform_sites, expr_sites, value_sites, form_sites, stmt_sites}
use Rattle.sk_model.specs.Stands.{Standing, in_row, eform_standing, expr_standing, value_standing, form_standing, stmt_standing}
use Rattle.sk_model.specs.Fill.{Opened, eform_part, expr_step, field_step, expr_part, value_part, form_part, stmt_step, stmt_part}
use Rattle.sk_model.specs.Filled.{is_yes, any_filled, expr_filled, form_filled, stmt_filled}
use Rattle.sk_model.proofs.Induction.{Each, ExprCases, expr_ind, StmtCases, stmt_ind}
use Rattle.sk_model.proofs.Layers.{expr_layer, layer_field, stmt_layer, layer_of_block, layer_of_declare, layer_of_assign, layer_of_call, layer_of_if, layer_of_if_else, layer_of_while, layer_of_return, layer_of_assert, layer_of_assume, layer_of_minimize, layer_of_repeat, layer_of_minrepeat, layer_of_reorder}
use Rattle.sk_holes_laws.specs.Filling.{Every}
use Rattle.sk_prune.specs.declared.constant.Constant.{Constant}
use Rattle.sk_prune.specs.declared.constant.Constant.TheVariants.{Bit, Number}
use Rattle.sk_prune.specs.Constants.{constant}
use Rattle.sk_prune.specs.Called.{eform_called, expr_called, value_called, form_called, stmt_called, called}
use Rattle.sk_prune.specs.Renamed.{Typed, eform_renamed, expr_again, field_again, expr_renamed, value_renamed, form_renamed, stmt_again, stmt_renamed, renamed}
use Rattle.sk_prune.specs.Words.{field_called, field_renamed, act_renamed}
use Rattle.sk_prune.specs.Trimmed.{Trimmed, nothing, one, declares, block, opened, up_to_end, trimmed_block, else_body, kept_if, bodies, trim_form, trim, trimmed}
use Rattle.sk_prune.specs.Trimmed as T
use Rattle.sk_prune_laws.proofs.Renames.{every_split}
use Rattle.sk_prune_laws.proofs.Full.{none_of, expr_full}

-- Lists

every_join : {A : Type 0} (Q : A → Type 0) (xs ys : List A) → Every Q xs → Every Q ys → Every Q (xs ++ ys)
every_join Q [] ys h k = k
every_join Q (x ∷ xs) ys h k = (h.0, every_join Q xs ys h.1 k)

each_join : {A : Type 0} (Q : A → Type 0) (xs ys : List A) → Each Q xs → Each Q ys → Each Q (xs ++ ys)
each_join Q [] ys h k = k
each_join Q (x ∷ xs) ys h k = (h.0, each_join Q xs ys h.1 k)

both_none : {A : Type 0} (xs ys : List A) → xs ≡ [] → ys ≡ [] → xs ++ ys ≡ []
both_none xs ys h k = λ i. h i ++ k i

module _ (bounds : Bounds) (number : ℕ → ℕ) (P' : ℕ → Type 0) where
  -- A part that has no sites becomes this, wherever it stands, and what stands in it calls no more than this.
  record Fine {X : Type 0} (F : Part X) (T : Part Standing) (r : X) (C : List ℕ) : Type 0 where
    fills : (i : ℕ) → F.at i ≡ r
    calls : (i : ℕ) → Every P' C → Every P' (T.at i).called

  -- Rows of parts

  module _ {E X : Type 0} (Z : E → List Site) (F : E → Part X) (T : E → Part Standing) (r : E → X) (C : E → List ℕ) where
    abbrev One : E → Type 0
    One e = Z e ≡ [] → Fine (F e) (T e) (r e) (C e)

    row_fills : (es : List E) → Each One es → joined (map Z es) ≡ [] → (i : ℕ) → in_turn (map F es) i ≡ map r es
    row_fills [] h k i = refl
    row_fills (e ∷ es) h k i =
        let n = none_of (Z e) (joined (map Z es)) k in
        let first = h.0 n.0 in
        let a = first.fills i in
        let b = row_fills es h.1 n.1 (i + (F e).count) in
        λ j. a j ∷ b j

    row_calls : (es : List E) → Each One es → joined (map Z es) ≡ [] → (i : ℕ) → Every P' (joined (map C es)) → Every P' ((in_row (map T es)).at i).called
    row_calls [] h k i c = tt
    row_calls (e ∷ es) h k i c =
        let n = none_of (Z e) (joined (map Z es)) k in
        let first = h.0 n.0 in
        let d = every_split P' (C e) (joined (map C es)) c in
        every_join P' ((T e).at i).called ((in_row (map T es)).at (i + (T e).count)).called (first.calls i d.0) (row_calls es h.1 n.1 (i + (T e).count) d.1)

  -- Expressions

  abbrev values : List ℕ
  values = []

  abbrev sites : PExpr → List Site
  sites = expr_sites bounds

  abbrev part : PExpr → Part PExpr
  part = expr_part values number

  abbrev stand : PExpr → Part Standing
  stand = expr_standing values

  abbrev ren : PExpr → PExpr
  ren = expr_renamed number

  abbrev SiteFold : Type 0
  SiteFold = Option Ty → Span → List Site

  abbrev StandFold : Type 0
  StandFold = Option Ty → Part Standing

  abbrev FillFold : Type 0
  FillFold = Opened values number

  abbrev sites_f : PEForm → SiteFold
  sites_f = fold-PEForm SiteFold (List Site) (List Site) (eform_sites bounds) (λ e. e.form e.ty e.span) (λ x. x.value)

  abbrev stand_f : PEForm → StandFold
  stand_f = fold-PEForm StandFold (Part Standing) (Part Standing) (eform_standing values) (λ e. e.form e.ty) (λ x. x.value)

  abbrev part_f : PEForm → FillFold
  part_f = fold-PEForm FillFold (Part PExpr) (Part PField) (eform_part values number) (expr_step values number) (field_step values number)

  abbrev ren_f : PEForm → Typed
  ren_f = fold-PEForm Typed PExpr PField (eform_renamed number) (expr_again number) (field_again number)

  abbrev called_f : PEForm → List ℕ
  called_f = fold-PEForm (List ℕ) (List ℕ) (List ℕ) eform_called (λ e. e.form) (λ x. x.value)

  abbrev sites_x : PField → List Site
  sites_x = fold-PField SiteFold (List Site) (List Site) (eform_sites bounds) (λ e. e.form e.ty e.span) (λ x. x.value)

  abbrev stand_x : PField → Part Standing
  stand_x = fold-PField StandFold (Part Standing) (Part Standing) (eform_standing values) (λ e. e.form e.ty) (λ x. x.value)

  abbrev part_x : PField → Part PField
  part_x = fold-PField FillFold (Part PExpr) (Part PField) (eform_part values number) (expr_step values number) (field_step values number)

  abbrev ren_x : PField → PField
  ren_x = field_renamed number

  abbrev Q : PExpr → Type 0
  Q e = sites e ≡ [] → Fine (part e) (stand e) (ren e) (expr_called e)

  abbrev R : PField → Type 0
  R x = sites_x x ≡ [] → Fine (part_x x) (stand_x x) (ren_x x) (field_called x)

  abbrev Layer : Type 0
  Layer = P.PEForm-F PEForm PExpr PField

  abbrev sites_at : Layer → Span → Option Ty → List Site
  sites_at x s t = eform_sites bounds (map-PEForm PEForm PExpr PField SiteFold (List Site) (List Site) sites_f sites sites_x x) t s

  abbrev Here : Layer → Span → Option Ty → Type 0
  Here x s t = Fine
      (eform_part values number (map-PEForm PEForm PExpr PField FillFold (Part PExpr) (Part PField) part_f part part_x x) t s)
      (eform_standing values (map-PEForm PEForm PExpr PField StandFold (Part Standing) (Part Standing) stand_f stand stand_x x) t)
      (record { span = s; ty = t; form = eform_renamed number (map-PEForm PEForm PExpr PField Typed PExpr PField ren_f ren ren_x x) t })
      (eform_called (map-PEForm PEForm PExpr PField (List ℕ) (List ℕ) (List ℕ) called_f expr_called field_called x))

  rolled : (x : Layer) (f : PEForm) → V.roll-PEForm x ≡ f → (s : Span) (t : Option Ty) → (sites_at x s t ≡ [] → Here x s t) → Q (record { span = s; ty = t; form = f })
  rolled x f is s t h k =
      let z = expr_layer SiteFold (List Site) (List Site) (eform_sites bounds) (λ e. e.form e.ty e.span) (λ x. x.value) x f is s t in
      let a = expr_layer FillFold (Part PExpr) (Part PField) (eform_part values number) (expr_step values number) (field_step values number) x f is s t in
      let b = expr_layer StandFold (Part Standing) (Part Standing) (eform_standing values) (λ e. e.form e.ty) (λ x. x.value) x f is s t in
      let c = expr_layer Typed PExpr PField (eform_renamed number) (expr_again number) (field_again number) x f is s t in
      let d = expr_layer (List ℕ) (List ℕ) (List ℕ) eform_called (λ e. e.form) (λ x. x.value) x f is s t in
      subst (λ (y : Part PExpr × Part Standing × PExpr × List ℕ). Fine y.0 y.1 y.2 y.3) (λ j. (sym a j, sym b j, sym c j, sym d j)) (h (sym z ∙ k))

  hole_here : (s : Span) (t : Option Ty) (w : Option ℕ) → sites_at (P.Hole w) s t ≡ [] → Here (P.Hole w) s t
  hole_here s None w k = cc
  hole_here s (Some (ty.One elem.Bit)) w k = cc
  hole_here s (Some (ty.One elem.Int)) w k = cc
  hole_here s (Some (ty.One (elem.Reference d))) w k = cc
  hole_here s (Some (ty.Array elem.Bit zero)) w k = record { fills = λ i. refl; calls = λ i c. tt }
  hole_here s (Some (ty.Array elem.Bit (suc n))) w k = cc
  hole_here s (Some (ty.Array elem.Int n)) w k = cc
  hole_here s (Some (ty.Array (elem.Reference d) n)) w k = cc
  hole_here s (Some (ty.Grid e n m)) w k = cc

  two_calls : (a b : PExpr) → Q a → Q b → sites a ++ sites b ≡ [] → (i : ℕ) → Every P' (expr_called a ++ expr_called b) → Every P' (((stand a).at i).called ++ ((stand b).at (i + (stand a).count)).called)
  two_calls a b q r k i c =
      let n = none_of (sites a) (sites b) k in
      let g = q n.0 in
      let h = r n.1 in
      let d = every_split P' (expr_called a) (expr_called b) c in
      every_join P' ((stand a).at i).called ((stand b).at (i + (stand a).count)).called (g.calls i d.0) (h.calls (i + (stand a).count) d.1)

  two_fill : (a b : PExpr) → Q a → Q b → sites a ++ sites b ≡ [] → (i : ℕ) (f : PExpr → PExpr → PExpr) → f ((part a).at i) ((part b).at (i + (part a).count)) ≡ f (ren a) (ren b)
  two_fill a b q r k i f =
      let n = none_of (sites a) (sites b) k in
      let g = q n.0 in
      let h = r n.1 in
      let x = g.fills i in
      let y = h.fills (i + (part a).count) in
      λ j. f (x j) (y j)

  abbrev put : Span → Option Ty → PEForm → PExpr
  put s t f = record { span = s; ty = t; form = f }

  field_here : (n : ℕ) (e : PExpr) → Q e → R (record { field = n; value = e })
  field_here n e q k =
      let z = layer_field SiteFold (List Site) (List Site) (eform_sites bounds) (λ e. e.form e.ty e.span) (λ x. x.value) n e in
      let a = layer_field FillFold (Part PExpr) (Part PField) (eform_part values number) (expr_step values number) (field_step values number) n e in
      let b = layer_field StandFold (Part Standing) (Part Standing) (eform_standing values) (λ e. e.form e.ty) (λ x. x.value) n e in
      let c = layer_field Typed PExpr PField (eform_renamed number) (expr_again number) (field_again number) n e in
      let d = layer_field (List ℕ) (List ℕ) (List ℕ) eform_called (λ e. e.form) (λ x. x.value) n e in
      let g = q (sym z ∙ k) in
      let here : Fine (record { count = (part e).count; at = λ i. record { field = n; value = (part e).at i } }) (stand e) (record { field = n; value = ren e }) (expr_called e) =
      record { fills = λ i. ap (λ (x : PExpr). record { field = n; value = x }) (g.fills i); calls = g.calls } in
      subst (λ (y : Part PField × Part Standing × PField × List ℕ). Fine y.0 y.1 y.2 y.3) (λ j. (sym a j, sym b j, sym c j, sym d j)) here

  cases : ExprCases Q R
  cases = record {
    field = field_here;
    number = λ s t n. rolled (P.Number n) (eform.Number n) (V.rolls-Number n) s t (λ k. record { fills = λ i. refl; calls = λ i c. tt });
    truth = λ s t. rolled P.True eform.True V.rolls-True s t (λ k. record { fills = λ i. refl; calls = λ i c. tt });
    falsity = λ s t. rolled P.False eform.False V.rolls-False s t (λ k. record { fills = λ i. refl; calls = λ i c. tt });
    null = λ s t. rolled P.Null eform.Null V.rolls-Null s t (λ k. record { fills = λ i. refl; calls = λ i c. tt });
    var = λ s t slot x. rolled (P.Var slot x) (eform.Var slot x) (V.rolls-Var slot x) s t (λ k. record { fills = λ i. refl; calls = λ i c. tt });
    const = λ s t n. rolled (P.Const n) (eform.Const n) (V.rolls-Const n) s t (λ k. record { fills = λ i. refl; calls = λ i c. tt });
    hole = λ s t w. rolled (P.Hole w) (eform.Hole w) (V.rolls-Hole w) s t (hole_here s t w);
    pattern = λ s t es q. rolled (P.Pattern es) (eform.Pattern es) (V.rolls-Pattern es) s t (λ k. cc);
    paren = λ s t e q. rolled (P.Paren e) (eform.Paren e) (V.rolls-Paren e) s t (λ k. let g = q k in record { fills = λ i. ap (λ x. put s t (eform.Paren x)) (g.fills i); calls = g.calls });
    call = λ s t f es q. rolled (P.Call f es) (eform.Call f es) (V.rolls-Call f es) s t (λ k. record { fills = λ i. ap (λ xs. put s t (eform.Call (record { index = number f.index }) xs)) (row_fills sites part stand ren expr_called es q k i); calls = λ i c. (c.0, row_calls sites part stand ren expr_called es q k i c.1) });
    new = λ s t d fs q. rolled (P.New d fs) (eform.New d fs) (V.rolls-New d fs) s t (λ k. record { fills = λ i. ap (λ xs. put s t (eform.New d xs)) (row_fills sites_x part_x stand_x ren_x field_called fs q k i); calls = λ i c. row_calls sites_x part_x stand_x ren_x field_called fs q k i c });
    braces = λ s t es q. rolled (P.Braces es) (eform.Braces es) (V.rolls-Braces es) s t (λ k. record { fills = λ i. ap (λ xs. put s t (eform.Braces xs)) (row_fills sites part stand ren expr_called es q k i); calls = λ i c. row_calls sites part stand ren expr_called es q k i c });
    member = λ s t e d n q. rolled (P.Member e d n) (eform.Member e d n) (V.rolls-Member e d n) s t (λ k. let g = q k in record { fills = λ i. ap (λ x. put s t (eform.Member x d n)) (g.fills i); calls = g.calls });
    index = λ s t e x q r. rolled (P.Index e x) (eform.Index e x) (V.rolls-Index e x) s t (λ k. record { fills = λ i. two_fill e x q r k i (λ a b. put s t (eform.Index a b)); calls = two_calls e x q r k });
    slice = λ s t e x n q r. rolled (P.Slice e x n) (eform.Slice e x n) (V.rolls-Slice e x n) s t (λ k. record { fills = λ i. two_fill e x q r k i (λ a b. put s t (eform.Slice a b n)); calls = two_calls e x q r k });
    unary = λ s t o e q. rolled (P.Unary o e) (eform.Unary o e) (V.rolls-Unary o e) s t (λ k. let g = q k in record { fills = λ i. ap (λ x. put s t (eform.Unary o x)) (g.fills i); calls = g.calls });
    binary = λ s t o a b q r. rolled (P.Binary o a b) (eform.Binary o a b) (V.rolls-Binary o a b) s t (λ k. record { fills = λ i. two_fill a b q r k i (λ x y. put s t (eform.Binary o x y)); calls = two_calls a b q r k });
    cond = λ s t c a b q r u. rolled (P.Cond c a b) (eform.Cond c a b) (V.rolls-Cond c a b) s t (λ k.
        let n = none_of (sites c) (sites a ++ sites b) k in
        let g = q n.0 in
        record {
          fills = λ i.
              let first = g.fills i in
              let rest = two_fill a b r u n.1 (i + (part c).count) (λ x y. put s t (eform.Cond (ren c) x y)) in
              ap (λ x. put s t (eform.Cond x ((part a).at (i + (part c).count)) ((part b).at (i + (part c).count + (part a).count)))) first ∙ rest;
          calls = λ i d.
              let m = every_split P' (expr_called c) (expr_called a ++ expr_called b) d in
              every_join P' ((stand c).at i).called (((stand a).at (i + (stand c).count)).called ++ ((stand b).at (i + (stand c).count + (stand a).count)).called) (g.calls i m.0) (two_calls a b r u n.1 (i + (stand c).count) m.1);
        });
    to_int = λ s t e q. rolled (P.ToInt e) (eform.ToInt e) (V.rolls-ToInt e) s t (λ k. let g = q k in record { fills = λ i. ap (λ x. put s t (eform.ToInt x)) (g.fills i); calls = g.calls });
    pad = λ s t e q. rolled (P.Pad e) (eform.Pad e) (V.rolls-Pad e) s t (λ k. let g = q k in record { fills = λ i. ap (λ x. put s t (eform.Pad x)) (g.fills i); calls = g.calls });
  }

  expr_fine : (e : PExpr) → Q e
  expr_fine = expr_ind Q R cases

  value_fine : (v : Option PExpr) → value_sites bounds v ≡ [] → Fine (value_part values number v) (value_standing values v) (value_renamed number v) (value_called v)
  value_fine None k = record { fills = λ i. refl; calls = λ i c. tt }
  value_fine (Some e) k = let g = expr_fine e k in record { fills = λ i. ap Some (g.fills i); calls = g.calls }

  -- Statements

  abbrev sites_s : PStmt → List Site
  sites_s = stmt_sites bounds

  abbrev part_s : PStmt → Part PStmt
  part_s = stmt_part values number

  abbrev stand_s : PStmt → Part Standing
  stand_s = stmt_standing values

  abbrev ren_s : PStmt → PStmt
  ren_s = stmt_renamed number

  abbrev SLayer : Type 0
  SLayer = S.PForm-F PForm PStmt

  abbrev act_sites : PForm → Span → List Site
  act_sites = fold-PForm (Span → List Site) (List Site) (form_sites bounds) (λ s. s.form s.span)

  abbrev act_part : PForm → Part PForm
  act_part = fold-PForm (Part PForm) (Part PStmt) (form_part values number) (stmt_step values number)

  abbrev act_standing : PForm → Span → Part Standing
  act_standing = fold-PForm (Span → Part Standing) (Part Standing) (form_standing values) (λ s. s.form s.span)

  abbrev act_called : PForm → List ℕ
  act_called = fold-PForm (List ℕ) (List ℕ) form_called (λ s. s.form)

  -- a statement has no sites, is filled by new numbers alone, and holds nothing open with them
  abbrev Plain : PStmt → Type 0
  Plain s = (sites_s s ≡ []) × Fine (part_s s) (stand_s s) (ren_s s) (stmt_called s) × (stmt_filled (ren_s s) ≡ true)

  -- so is it of statements in a row
  all_full : (ss : List PStmt) → Each Plain ss → list_all is_yes (map stmt_filled (map ren_s ss)) ≡ true
  all_full [] h = refl
  all_full (s ∷ ss) h =
      let one = (h.0).2 in
      let more = all_full ss h.1 in
      λ i. one i && more i

  value_full : (v : Option PExpr) → value_sites bounds v ≡ [] → any_filled (value_renamed number v) ≡ true
  value_full None k = refl
  value_full (Some e) k = expr_full bounds number e k

  both_full : (a b : PExpr) → sites a ++ sites b ≡ [] → (expr_filled (ren a) && expr_filled (ren b)) ≡ true
  both_full a b k =
      let n = none_of (sites a) (sites b) k in
      let one = expr_full bounds number a n.0 in
      let more = expr_full bounds number b n.1 in
      λ i. one i && more i

  abbrev put_s : Span → PForm → PStmt
  put_s s f = record { span = s; form = f }

  abbrev SHere : SLayer → Span → Type 0
  SHere x s = Fine
      (stmt_step values number (record { span = s; form = form_part values number (map-PForm PForm PStmt (Part PForm) (Part PStmt) act_part part_s x) }))
      (form_standing values (map-PForm PForm PStmt (Span → Part Standing) (Part Standing) act_standing stand_s x) s)
      (put_s s (form_renamed number (map-PForm PForm PStmt PForm PStmt (act_renamed number) ren_s x)))
      (form_called (map-PForm PForm PStmt (List ℕ) (List ℕ) act_called stmt_called x))

  abbrev sites_in : SLayer → Span → List Site
  sites_in x s = form_sites bounds (map-PForm PForm PStmt (Span → List Site) (List Site) act_sites sites_s x) s

  to_sites : (x : SLayer) (f : PForm) → W.roll-PForm x ≡ f → (s : Span) → sites_s (put_s s f) ≡ sites_in x s
  to_sites x f is s = stmt_layer (Span → List Site) (List Site) (form_sites bounds) (λ s. s.form s.span) x f is s

  plain_by : (x : SLayer) (f : PForm) → W.roll-PForm x ≡ f → (s : Span) → sites_in x s ≡ [] → SHere x s → stmt_filled (ren_s (put_s s f)) ≡ true → Plain (put_s s f)
  plain_by x f is s k h u =
      let a = stmt_layer (Part PForm) (Part PStmt) (form_part values number) (stmt_step values number) x f is s in
      let b = stmt_layer (Span → Part Standing) (Part Standing) (form_standing values) (λ s. s.form s.span) x f is s in
      let c = stmt_layer PForm PStmt (form_renamed number) (stmt_again number) x f is s in
      let d = stmt_layer (List ℕ) (List ℕ) form_called (λ s. s.form) x f is s in
      (to_sites x f is s ∙ k, subst (λ (y : Part PStmt × Part Standing × PStmt × List ℕ). Fine y.0 y.1 y.2 y.3) (λ j. (sym a j, sym b j, sym c j, sym d j)) h, u)

  abbrev OneS : PStmt → Type 0
  OneS s = sites_s s ≡ [] → Fine (part_s s) (stand_s s) (ren_s s) (stmt_called s)

  each_one : (ss : List PStmt) → Each Plain ss → Each OneS ss
  each_one [] h = tt
  each_one (s ∷ ss) h = ((λ k. let p = h.0 in p.1), each_one ss h.1)

  row_none : (ss : List PStmt) → Each Plain ss → joined (map sites_s ss) ≡ []
  row_none [] h = refl
  row_none (s ∷ ss) h = let p = h.0 in both_none (sites_s s) (joined (map sites_s ss)) p.0 (row_none ss h.1)

  plain_block : (s : Span) (ss : List PStmt) → Each Plain ss → Plain (block s ss)
  plain_block s ss h =
      plain_by (S.Block ss) (form.Block ss) (W.rolls-Block ss) s (row_none ss h)
      (record { fills = λ i. ap (λ xs. put_s s (form.Block xs)) (row_fills sites_s part_s stand_s ren_s stmt_called ss (each_one ss h) (row_none ss h) i); calls = λ i c. row_calls sites_s part_s stand_s ren_s stmt_called ss (each_one ss h) (row_none ss h) i c })
      (ap stmt_filled (layer_of_block PForm PStmt (form_renamed number) (stmt_again number) s ss) ∙ layer_of_block Bool Bool form_filled (λ s. s.form) s (map ren_s ss) ∙ all_full ss h)

  one_filled : (s : Span) (e : PExpr) (f : PExpr → PForm) → sites e ≡ [] → Fine (record { count = (part e).count; at = λ i. put_s s (f ((part e).at i)) }) (stand e) (put_s s (f (ren e))) (expr_called e)
  one_filled s e f k = let g = expr_fine e k in record { fills = λ i. ap (λ x. put_s s (f x)) (g.fills i); calls = g.calls }

  value_filled : (s : Span) (v : Option PExpr) (f : Option PExpr → PForm) → value_sites bounds v ≡ [] → Fine (record { count = (value_part values number v).count; at = λ i. put_s s (f ((value_part values number v).at i)) }) (value_standing values v) (put_s s (f (value_renamed number v))) (value_called v)
  value_filled s v f k = let g = value_fine v k in record { fills = λ i. ap (λ x. put_s s (f x)) (g.fills i); calls = g.calls }

  plain_if : (s : Span) (c : PExpr) (a : PStmt) → sites c ≡ [] → Plain a → Plain (put_s s (form.If c a None))
  plain_if s c a k h =
      let g = expr_fine c k in
      let p = h.1 in
      plain_by (S.If c a None) (form.If c a None) (W.rolls-If c a None) s
      (both_none (sites c) (sites_s a ++ []) k (both_none (sites_s a) [] h.0 refl))
      (record {
        fills = λ i. (let x = g.fills i in let y = p.fills (i + (part c).count) in λ j. put_s s (form.If (x j) (y j) None));
        calls = λ i d.
            let m = every_split P' (expr_called c) (stmt_called a ++ []) d in
            let n = every_split P' (stmt_called a) [] m.1 in
            every_join P' ((stand c).at i).called (((stand_s a).at (i + (stand c).count)).called ++ []) (g.calls i m.0) (every_join P' ((stand_s a).at (i + (stand c).count)).called [] (p.calls (i + (stand c).count) n.0) tt);
      })
      (ap stmt_filled (layer_of_if PForm PStmt (form_renamed number) (stmt_again number) s c a) ∙ layer_of_if Bool Bool form_filled (λ s. s.form) s (ren c) (ren_s a) ∙ (let one = expr_full bounds number c k in let body = h.2 in λ j. one j && (body j && true)))

  plain_if_else : (s : Span) (c : PExpr) (a b : PStmt) → sites c ≡ [] → Plain a → Plain b → Plain (put_s s (form.If c a (Some b)))
  plain_if_else s c a b k h l =
      let g = expr_fine c k in
      let p = h.1 in
      let q = l.1 in
      plain_by (S.If c a (Some b)) (form.If c a (Some b)) (W.rolls-If c a (Some b)) s
      (both_none (sites c) (sites_s a ++ sites_s b) k (both_none (sites_s a) (sites_s b) h.0 l.0))
      (record {
        fills = λ i. (let x = g.fills i in let y = p.fills (i + (part c).count) in let z = q.fills (i + (part c).count + (part_s a).count) in λ j. put_s s (form.If (x j) (y j) (Some (z j))));
        calls = λ i d.
            let m = every_split P' (expr_called c) (stmt_called a ++ stmt_called b) d in
            let n = every_split P' (stmt_called a) (stmt_called b) m.1 in
            every_join P' ((stand c).at i).called (((stand_s a).at (i + (stand c).count)).called ++ ((stand_s b).at (i + (stand c).count + (stand_s a).count)).called) (g.calls i m.0)
            (every_join P' ((stand_s a).at (i + (stand c).count)).called ((stand_s b).at (i + (stand c).count + (stand_s a).count)).called (p.calls (i + (stand c).count) n.0) (q.calls (i + (stand c).count + (stand_s a).count) n.1));
      })
      (ap stmt_filled (layer_of_if_else PForm PStmt (form_renamed number) (stmt_again number) s c a b) ∙ layer_of_if_else Bool Bool form_filled (λ s. s.form) s (ren c) (ren_s a) (ren_s b) ∙ (let one = expr_full bounds number c k in let body = h.2 in let other = l.2 in λ j. one j && (body j && other j)))

  plain_while : (s : Span) (c : PExpr) (a : PStmt) → sites c ≡ [] → Plain a → Plain (put_s s (form.While c a))
  plain_while s c a k h =
      let g = expr_fine c k in
      let p = h.1 in
      plain_by (S.While c a) (form.While c a) (W.rolls-While c a) s
      (both_none (sites c) (sites_s a) k h.0)
      (record {
        fills = λ i. (let x = g.fills i in let y = p.fills (i + (part c).count) in λ j. put_s s (form.While (x j) (y j)));
        calls = λ i d.
            let m = every_split P' (expr_called c) (stmt_called a) d in
            every_join P' ((stand c).at i).called ((stand_s a).at (i + (stand c).count)).called (g.calls i m.0) (p.calls (i + (stand c).count) m.1);
      })
      (ap stmt_filled (layer_of_while PForm PStmt (form_renamed number) (stmt_again number) s c a) ∙ layer_of_while Bool Bool form_filled (λ s. s.form) s (ren c) (ren_s a) ∙ (let one = expr_full bounds number c k in let body = h.2 in λ j. one j && body j))

  plain_assign : (s : Span) (p e : PExpr) → sites p ++ sites e ≡ [] → Plain (put_s s (form.Assign p e))
  plain_assign s p e k =
      plain_by (S.Assign p e) (form.Assign p e) (W.rolls-Assign p e) s k
      (record {
        fills = λ i.
            (let n = none_of (sites p) (sites e) k in
            let g = expr_fine p n.0 in
            let h = expr_fine e n.1 in
            let x = g.fills i in
            let y = h.fills (i + (part p).count) in
            λ j. put_s s (form.Assign (x j) (y j)));
        calls = two_calls p e (expr_fine p) (expr_fine e) k;
      })
      (ap stmt_filled (layer_of_assign PForm PStmt (form_renamed number) (stmt_again number) s p e) ∙ layer_of_assign Bool Bool form_filled (λ s. s.form) s (ren p) (ren e) ∙ both_full p e k)

  -- What is left

  module _ (consts : List ConstDef) (width : ℕ) where
    abbrev cut : PStmt → Trimmed
    cut = trim consts width

    abbrev Left : Trimmed → Type 0
    Left t = Each Plain t.among × Each Plain t.inside

    abbrev At : PStmt → Type 0
    At s = sites_s s ≡ [] → Left (cut s)

    at_of : (x : SLayer) (f : PForm) → W.roll-PForm x ≡ f → (s : Span) (t : Trimmed) → cut (put_s s f) ≡ t → (sites_in x s ≡ [] → Left t) → At (put_s s f)
    at_of x f is s t e h k = subst Left (sym e) (h (sym (to_sites x f is s) ∙ k))

    single : (span : Span) (f : PForm) (ends : Bool) → Plain (put_s span f) → Left (one span f ends)
    single span f ends h = ((h, tt), (h, tt))

    up_to_left : (ss : List PStmt) → Each At ss → joined (map sites_s ss) ≡ [] → Each Plain (up_to_end (map cut ss))
    up_to_left [] h k = tt
    up_to_left (s ∷ ss) h k = go (up_to_left ss h.1 (none_of (sites_s s) (joined (map sites_s ss)) k).1) (cut s).ends
      where
        first : Left (cut s)
        first = h.0 (none_of (sites_s s) (joined (map sites_s ss)) k).0

        go : Each Plain (up_to_end (map cut ss)) → (b : Bool) → Each Plain (if b then (cut s).among else (cut s).among ++ up_to_end (map cut ss))
        go rest true = first.0
        go rest false = each_join Plain (cut s).among (up_to_end (map cut ss)) first.0 rest

    opened_left : (span : Span) (ss : List PStmt) → Each Plain ss → Each Plain (opened span ss)
    opened_left span ss h = go (list_any declares ss)
      where
        go : (b : Bool) → Each Plain (if b then block span ss ∷ [] else ss)
        go true = (plain_block span ss h, tt)
        go false = h

    row_left : (span : Span) (ss : List PStmt) → Each At ss → joined (map sites_s ss) ≡ [] → Left (trimmed_block span (map cut ss))
    row_left span ss h k = let l = up_to_left ss h k in (opened_left span (up_to_end (map cut ss)) l, l)

    body_left : (span : Span) (a : PStmt) → At a → sites_s a ≡ [] → Plain (block span (cut a).inside)
    body_left span a h k = let l = h k in plain_block span (cut a).inside l.1

    kept_if_left : (span : Span) (c : PExpr) (a : PStmt) → At a → sites c ++ (sites_s a ++ []) ≡ [] → Left (kept_if span c (cut a) nothing)
    kept_if_left span c a h k =
        let n = none_of (sites c) (sites_s a ++ []) k in
        let m = none_of (sites_s a) [] n.1 in
        single span (form.If c (block span (cut a).inside) None) ((cut a).ends && false) (plain_if span c (block span (cut a).inside) n.0 (body_left span a h m.0))

    kept_else_left : (span : Span) (c : PExpr) (a b : PStmt) → At a → At b → sites c ++ (sites_s a ++ sites_s b) ≡ [] → Left (kept_if span c (cut a) (cut b))
    kept_else_left span c a b h g k = go (cut b).inside last.1
      where
        n : (sites c ≡ []) × (sites_s a ++ sites_s b ≡ [])
        n = none_of (sites c) (sites_s a ++ sites_s b) k

        m : (sites_s a ≡ []) × (sites_s b ≡ [])
        m = none_of (sites_s a) (sites_s b) n.1

        last : Left (cut b)
        last = g m.1

        go : (xs : List PStmt) → Each Plain xs → Left (one span (form.If c (block span (cut a).inside) (else_body span xs)) ((cut a).ends && (cut b).ends))
        go [] l = single span (form.If c (block span (cut a).inside) None) ((cut a).ends && (cut b).ends) (plain_if span c (block span (cut a).inside) n.0 (body_left span a h m.0))
        go (x ∷ xs) l = single span (form.If c (block span (cut a).inside) (Some (block span (x ∷ xs)))) ((cut a).ends && (cut b).ends) (plain_if_else span c (block span (cut a).inside) (block span (x ∷ xs)) n.0 (body_left span a h m.0) (plain_block span (x ∷ xs) l))

    nothing_left : Left nothing
    nothing_left = (tt, tt)

    if_left : (span : Span) (c : PExpr) (a : PStmt) → At a → (o : Option Constant) → sites c ++ (sites_s a ++ []) ≡ [] → Left (T.branch span c (cut a) nothing o)
    if_left span c a h (Some (Bit true)) k = let n = none_of (sites c) (sites_s a ++ []) k in let m = none_of (sites_s a) [] n.1 in h m.0
    if_left span c a h (Some (Bit false)) k = nothing_left
    if_left span c a h (Some (Number x)) k = kept_if_left span c a h k
    if_left span c a h None k = kept_if_left span c a h k

    if_else_left : (span : Span) (c : PExpr) (a b : PStmt) → At a → At b → (o : Option Constant) → sites c ++ (sites_s a ++ sites_s b) ≡ [] → Left (T.branch span c (cut a) (cut b) o)
    if_else_left span c a b h g (Some (Bit true)) k = let n = none_of (sites c) (sites_s a ++ sites_s b) k in let m = none_of (sites_s a) (sites_s b) n.1 in h m.0
    if_else_left span c a b h g (Some (Bit false)) k = let n = none_of (sites c) (sites_s a ++ sites_s b) k in let m = none_of (sites_s a) (sites_s b) n.1 in g m.1
    if_else_left span c a b h g (Some (Number x)) k = kept_else_left span c a b h g k
    if_else_left span c a b h g None k = kept_else_left span c a b h g k

    kept_loop_left : (span : Span) (c : PExpr) (a : PStmt) → At a → sites c ++ sites_s a ≡ [] → Left (one span (form.While c (block span (cut a).inside)) false)
    kept_loop_left span c a h k = let n = none_of (sites c) (sites_s a) k in single span (form.While c (block span (cut a).inside)) false (plain_while span c (block span (cut a).inside) n.0 (body_left span a h n.1))

    loop_left : (span : Span) (c : PExpr) (a : PStmt) → At a → (o : Option Constant) → sites c ++ sites_s a ≡ [] → Left (T.loop span c (cut a) o)
    loop_left span c a h (Some (Bit false)) k = nothing_left
    loop_left span c a h (Some (Bit true)) k = kept_loop_left span c a h k
    loop_left span c a h (Some (Number x)) k = kept_loop_left span c a h k
    loop_left span c a h None k = kept_loop_left span c a h k

    repeat_left : (span : Span) (c : PExpr) (ss : List PStmt) → Each At ss → (b : Bool) → is_hole c.form ≡ b → sites_in (S.Repeat c ss) span ≡ [] → Left (if b then one span (form.Repeat c (bodies span (map cut ss))) false else trimmed_block span (map cut ss))
    repeat_left span c ss h true e k = let z = subst (λ b. (if b then site (length (map sites_s ss) + 1) span ∷ [] else []) ++ joined (map sites_s ss) ≡ []) e k in cc
    repeat_left span c ss h false e k =
        let z = subst (λ b. (if b then site (length (map sites_s ss) + 1) span ∷ [] else []) ++ joined (map sites_s ss) ≡ []) e k in
        row_left span ss h z

    -- as many as are asked have an order of their own
    ordered : {X : Type 0} (n : ℕ) (span : Span) (zs : List Site) → nat_le n 1 ≡ false → places 2 (n - 1) span ++ zs ≡ [] → X
    ordered zero span zs h k = absurd (false≢true (sym h ∙ le-leb 0 1 (omega arith)))
    ordered (suc zero) span zs h k = absurd (false≢true (sym h ∙ le-leb 1 1 (omega arith)))
    ordered (suc (suc n)) span zs h k =
        let e : suc (suc n) - 1 ≡ suc n = omega arith in
        let z = subst (λ m. places 2 m span ++ zs ≡ []) e k in
        cc

    reorder_left : (span : Span) (ss : List PStmt) → Each At ss → (b : Bool) → nat_le (length (map cut ss)) 1 ≡ b → sites_in (S.Reorder ss) span ≡ [] → Left (if b then trimmed_block span (map cut ss) else one span (form.Reorder (bodies span (map cut ss))) false)
    reorder_left span ss h true e k = row_left span ss h (none_of (places 2 (length (map sites_s ss) - 1) span) (joined (map sites_s ss)) k).1
    reorder_left span ss h false e k =
        let many : length (map cut ss) ≡ length (map sites_s ss) = length-map ss cut ∙ sym (length-map ss sites_s) in
        ordered (length (map sites_s ss)) span (joined (map sites_s ss)) (ap (λ n. nat_le n 1) (sym many) ∙ e) k

    left_cases : StmtCases At
    left_cases = record {
      block = λ s ss h. at_of (S.Block ss) (form.Block ss) (W.rolls-Block ss) s _ (layer_of_block (Span → Trimmed) Trimmed (trim_form consts width) (λ s. s.form s.span) s ss) (λ k. row_left s ss h k);
      declare = λ s slot x t e. at_of (S.Declare slot x t e) (form.Declare slot x t e) (W.rolls-Declare slot x t e) s _ (layer_of_declare (Span → Trimmed) Trimmed (trim_form consts width) (λ s. s.form s.span) s slot x t e) (λ k. single s (form.Declare slot x t e) false (plain_by (S.Declare slot x t e) (form.Declare slot x t e) (W.rolls-Declare slot x t e) s k (value_filled s e (λ v. form.Declare slot x t v) k) (ap stmt_filled (layer_of_declare PForm PStmt (form_renamed number) (stmt_again number) s slot x t e) ∙ layer_of_declare Bool Bool form_filled (λ s. s.form) s slot x t (value_renamed number e) ∙ value_full e k)));
      assign = λ s p e. at_of (S.Assign p e) (form.Assign p e) (W.rolls-Assign p e) s _ (layer_of_assign (Span → Trimmed) Trimmed (trim_form consts width) (λ s. s.form s.span) s p e) (λ k. single s (form.Assign p e) false (plain_assign s p e k));
      calls = λ s e. at_of (S.Call e) (form.Call e) (W.rolls-Call e) s _ (layer_of_call (Span → Trimmed) Trimmed (trim_form consts width) (λ s. s.form s.span) s e) (λ k. single s (form.Call e) false (plain_by (S.Call e) (form.Call e) (W.rolls-Call e) s k (one_filled s e (λ x. form.Call x) k) (ap stmt_filled (layer_of_call PForm PStmt (form_renamed number) (stmt_again number) s e) ∙ layer_of_call Bool Bool form_filled (λ s. s.form) s (ren e) ∙ expr_full bounds number e k)));
      if_only = λ s c a h. at_of (S.If c a None) (form.If c a None) (W.rolls-If c a None) s _ (layer_of_if (Span → Trimmed) Trimmed (trim_form consts width) (λ s. s.form s.span) s c a) (λ k. if_left s c a h (constant consts width c) k);
      if_else = λ s c a b h g. at_of (S.If c a (Some b)) (form.If c a (Some b)) (W.rolls-If c a (Some b)) s _ (layer_of_if_else (Span → Trimmed) Trimmed (trim_form consts width) (λ s. s.form s.span) s c a b) (λ k. if_else_left s c a b h g (constant consts width c) k);
      loop = λ s c a h. at_of (S.While c a) (form.While c a) (W.rolls-While c a) s _ (layer_of_while (Span → Trimmed) Trimmed (trim_form consts width) (λ s. s.form s.span) s c a) (λ k. loop_left s c a h (constant consts width c) k);
      returns = λ s e. at_of (S.Return e) (form.Return e) (W.rolls-Return e) s _ (layer_of_return (Span → Trimmed) Trimmed (trim_form consts width) (λ s. s.form s.span) s e) (λ k. single s (form.Return e) true (plain_by (S.Return e) (form.Return e) (W.rolls-Return e) s k (value_filled s e (λ v. form.Return v) k) (ap stmt_filled (layer_of_return PForm PStmt (form_renamed number) (stmt_again number) s e) ∙ layer_of_return Bool Bool form_filled (λ s. s.form) s (value_renamed number e) ∙ value_full e k)));
      asserts = λ s e. at_of (S.Assert e) (form.Assert e) (W.rolls-Assert e) s _ (layer_of_assert (Span → Trimmed) Trimmed (trim_form consts width) (λ s. s.form s.span) s e) (λ k. single s (form.Assert e) false (plain_by (S.Assert e) (form.Assert e) (W.rolls-Assert e) s k (one_filled s e (λ x. form.Assert x) k) (ap stmt_filled (layer_of_assert PForm PStmt (form_renamed number) (stmt_again number) s e) ∙ layer_of_assert Bool Bool form_filled (λ s. s.form) s (ren e) ∙ expr_full bounds number e k)));
      assumes = λ s e. at_of (S.Assume e) (form.Assume e) (W.rolls-Assume e) s _ (layer_of_assume (Span → Trimmed) Trimmed (trim_form consts width) (λ s. s.form s.span) s e) (λ k. single s (form.Assume e) false (plain_by (S.Assume e) (form.Assume e) (W.rolls-Assume e) s k (one_filled s e (λ x. form.Assume x) k) (ap stmt_filled (layer_of_assume PForm PStmt (form_renamed number) (stmt_again number) s e) ∙ layer_of_assume Bool Bool form_filled (λ s. s.form) s (ren e) ∙ expr_full bounds number e k)));
      minimizes = λ s e. at_of (S.Minimize e) (form.Minimize e) (W.rolls-Minimize e) s _ (layer_of_minimize (Span → Trimmed) Trimmed (trim_form consts width) (λ s. s.form s.span) s e) (λ k. single s (form.Minimize e) false (plain_by (S.Minimize e) (form.Minimize e) (W.rolls-Minimize e) s k (one_filled s e (λ x. form.Minimize x) k) (ap stmt_filled (layer_of_minimize PForm PStmt (form_renamed number) (stmt_again number) s e) ∙ layer_of_minimize Bool Bool form_filled (λ s. s.form) s (ren e) ∙ expr_full bounds number e k)));
      repeats = λ s c ss h. at_of (S.Repeat c ss) (form.Repeat c ss) (W.rolls-Repeat c ss) s _ (layer_of_repeat (Span → Trimmed) Trimmed (trim_form consts width) (λ s. s.form s.span) s c ss) (λ k. repeat_left s c ss h (is_hole c.form) refl k);
      minrepeat = λ s ss h. at_of (S.MinRepeat ss) (form.MinRepeat ss) (W.rolls-MinRepeat ss) s _ (layer_of_minrepeat (Span → Trimmed) Trimmed (trim_form consts width) (λ s. s.form s.span) s ss) (λ k. cc);
      reorder = λ s ss h. at_of (S.Reorder ss) (form.Reorder ss) (W.rolls-Reorder ss) s _ (layer_of_reorder (Span → Trimmed) Trimmed (trim_form consts width) (λ s. s.form s.span) s ss) (λ k. reorder_left s ss h (nat_le (length (map cut ss)) 1) refl k);
    }

    each_left : (ss : List PStmt) → Each At ss
    each_left [] = tt
    each_left (s ∷ ss) = (stmt_ind At left_cases s, each_left ss)

    abbrev rest : List PStmt → List PStmt
    rest ss = trimmed consts width ss

    rest_plain : (ss : List PStmt) → joined (map sites_s ss) ≡ [] → Each Plain (rest ss)
    rest_plain ss k = up_to_left ss (each_left ss) k

    -- What is left of a body without sites has none,
    pub rest_sites : (ss : List PStmt) → joined (map sites_s ss) ≡ [] → joined (map sites_s (rest ss)) ≡ []
    rest_sites ss k = row_none (rest ss) (rest_plain ss k)

    -- it is filled by new numbers alone,
    pub rest_fills : (ss : List PStmt) → joined (map sites_s ss) ≡ [] → (i : ℕ) → in_turn (map part_s (rest ss)) i ≡ renamed number (rest ss)
    rest_fills ss k i = row_fills sites_s part_s stand_s ren_s stmt_called (rest ss) (each_one (rest ss) (rest_plain ss k)) (rest_sites ss k) i

    -- holds nothing open with them,
    pub rest_full : (ss : List PStmt) → joined (map sites_s ss) ≡ [] → list_all stmt_filled (renamed number (rest ss)) ≡ true
    rest_full ss k = go (rest ss) (rest_plain ss k)
      where
        go : (ps : List PStmt) → Each Plain ps → list_all stmt_filled (renamed number ps) ≡ true
        go [] h = refl
        go (p ∷ ps) h = let one = (h.0).2 in let more = go ps h.1 in λ i. one i && more i

    -- and what stands in it calls no more than it calls.
    pub rest_calls : (ss : List PStmt) → joined (map sites_s ss) ≡ [] → (i : ℕ) → Every P' (called (rest ss)) → Every P' ((in_row (map stand_s (rest ss))).at i).called
    rest_calls ss k i c = row_calls sites_s part_s stand_s ren_s stmt_called (rest ss) (each_one (rest ss) (rest_plain ss k)) (rest_sites ss k) i c
