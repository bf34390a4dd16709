-- An expression is printed with the level of the tree that it means, and its operands stand where they may.
use Rattle.std.proofs.Common.{◌≡◌, ℕ, ◌-◌, Bool, true, false, ◌&&◌, List, [], ◌∷◌, map, Option, Some, None, refl, sym, ap, ◌∙◌, subst}
use Rattle.std.specs.Prelude.{nat_le, if◌then◌else◌}
use Rattle.std.proofs.lemmas.Bool.{and_parts}
use Rattle.sk_base.specs.declared.span.Span.{Span}
use Rattle.sk_tree.specs.declared.token.Mark.{Mark}
use Rattle.sk_tree.specs.declared.token.Mark.TheVariants as mark
use Rattle.sk_tree.specs.declared.expr.Expr.{Expr}
use Rattle.sk_tree.specs.declared.expr.NewField.{NewField}
use Rattle.sk_tree.specs.declared.expr.EForm.{EForm}
use Rattle.sk_tree.specs.declared.expr.EForm.TheVariants as eform
use Rattle.sk_tree.specs.declared.expr.EForm.TheOpen as E
use Rattle.sk_tree.specs.declared.expr.EForm.TheViews.{roll-EForm}
use Rattle.sk_tree.specs.declared.expr.EForm.TheFolds.{map-EForm, fold-EForm, fold-NewField, fold-roll-EForm, fold-roll-Expr, fold-roll-NewField}
use Rattle.sk_tree.specs.Placed.{Place, binds, all_placed, are_yes, level_of, eform_place, expr_place, field_placed, place_of, expr_placed}
use Rattle.sk_prog.specs.declared.ty.Ty.{Ty}
use Rattle.sk_prog.specs.declared.ids.StructId.{StructId}
use Rattle.sk_prog.specs.declared.expr.BinOp.{BinOp}
use Rattle.sk_prog.specs.declared.expr.BinOp.TheVariants as op
use Rattle.sk_prog.specs.declared.expr.PExpr.{PExpr}
use Rattle.sk_prog.specs.declared.expr.PField.{PField}
use Rattle.sk_prog.specs.declared.expr.PEForm.{PEForm}
use Rattle.sk_prog.specs.declared.expr.PEForm.TheOpen as P
use Rattle.sk_prog.specs.declared.expr.PEForm.TheViews.{roll-PEForm, roll-PExpr, roll-PField}
use Rattle.sk_prog.specs.declared.expr.PEForm.TheFolds.{map-PEForm, fold-PEForm, fold-PField, fold-roll-PEForm, fold-roll-PExpr, fold-roll-PField, rec-roll-PField, ind-PExpr}
use Rattle.sk_prog.specs.declared.prog.StructDef.{StructDef}
use Rattle.sk_prog.specs.declared.prog.ParamDef.{ParamDef}
use Rattle.sk_prog.specs.declared.prog.Prog.{Prog}
use Rattle.sk_types_rules.specs.declared.scope.Variable.{Variable}
use Rattle.sk_types_rules.specs.Erase.{nowhere, at, mark_of, unary_mark, field_erased}
use Rattle.sk_types_rules.specs.Erase as R
use Rattle.sk_types_rules.specs.Rules.{operator_of}
use Rattle.sk_types_rules.specs.Scope.{Context}
use Rattle.sk_types_rules.specs.Sorts.{sort, keeps, kept}
use Rattle.sk_types_rules.specs.Types.{EFormRule, ExprRule, FieldRule, EachMeans, ArgumentsMean, FieldsMean, IsField, eform_means, expr_means, field_means, Means}
use Rattle.sk_types_rules.proofs.Layers.{FormMeans, FieldMeans, rule, form_means_are, means_parts}
use Rattle.sk_print_laws.specs.Printed.{choice_of, eform_printed, printed_expr}
use Rattle.sk_print_laws.specs.PlacedAgain.{ExpressionsPlaced}

abbrev pub Layer : Type 0
Layer = E.EForm-F EForm Expr NewField

abbrev pub form_place : EForm → Place
form_place = fold-EForm Place Place Bool eform_place expr_place field_placed

abbrev pub set_placed : NewField → Bool
set_placed = fold-NewField Place Place Bool eform_place expr_place field_placed

abbrev pub places : Layer → E.EForm-F Place Place Bool
places l = map-EForm EForm Expr NewField Place Place Bool form_place place_of set_placed l

pub place_at : (e : Expr) (l : Layer) → e.form ≡ roll-EForm l → place_of e ≡ eform_place (places l)
place_at e l is =
    fold-roll-Expr Place Place Bool eform_place expr_place field_placed (record { span = e.span; form = e.form })
    ∙ ap form_place is
    ∙ fold-roll-EForm Place Place Bool eform_place expr_place field_placed l

pub set_at : (n : NewField) → set_placed n ≡ expr_placed n.value
set_at n = fold-roll-NewField Place Place Bool eform_place expr_place field_placed (record { name = n.name; value = n.value })

pub mark_back : (m : Mark) (o : BinOp) → operator_of m ≡ Some o → mark_of o ≡ m
mark_back mark.Star o h = let e : op.Mul ≡ o = cc in ap mark_of (sym e)
mark_back mark.Slash o h = let e : op.Div ≡ o = cc in ap mark_of (sym e)
mark_back mark.Percent o h = let e : op.Rem ≡ o = cc in ap mark_of (sym e)
mark_back mark.Plus o h = let e : op.Add ≡ o = cc in ap mark_of (sym e)
mark_back mark.Minus o h = let e : op.Sub ≡ o = cc in ap mark_of (sym e)
mark_back mark.ShiftLeft o h = let e : op.Shl ≡ o = cc in ap mark_of (sym e)
mark_back mark.ShiftRight o h = let e : op.Shr ≡ o = cc in ap mark_of (sym e)
mark_back mark.Less o h = let e : op.Lt ≡ o = cc in ap mark_of (sym e)
mark_back mark.AtMost o h = let e : op.Le ≡ o = cc in ap mark_of (sym e)
mark_back mark.Greater o h = let e : op.Gt ≡ o = cc in ap mark_of (sym e)
mark_back mark.AtLeast o h = let e : op.Ge ≡ o = cc in ap mark_of (sym e)
mark_back mark.Equal o h = let e : op.Eq ≡ o = cc in ap mark_of (sym e)
mark_back mark.NotEqual o h = let e : op.Ne ≡ o = cc in ap mark_of (sym e)
mark_back mark.Ampersand o h = let e : op.And ≡ o = cc in ap mark_of (sym e)
mark_back mark.Caret o h = let e : op.Xor ≡ o = cc in ap mark_of (sym e)
mark_back mark.Bar o h = let e : op.Or ≡ o = cc in ap mark_of (sym e)
mark_back mark.AndThen o h = let e : op.AndThen ≡ o = cc in ap mark_of (sym e)
mark_back mark.OrElse o h = let e : op.OrElse ≡ o = cc in ap mark_of (sym e)
mark_back _ o h = cc

-- placed, and of the same level
record Alike (a b : Place) : Type 0 where
  placed : a.placed ≡ true
  level : a.level ≡ b.level

bound : (k : ℕ) (p : Place) → binds k p ≡ true → p.placed ≡ true
bound k p h = (and_parts p.placed (nat_le p.level k) h).0

binds_again : (k : ℕ) (a b : Place) → Alike a b → binds k b ≡ true → binds k a ≡ true
binds_again k a b h is =
    let p = and_parts b.placed (nat_le b.level k) is in
    let q : nat_le a.level k ≡ true = ap (λ n. nat_le n k) h.level ∙ p.1 in
    λ i. h.placed i && q i

module _ (prog : Prog) (context : Context) (scope : List Variable) where
  abbrev form_printed : PEForm → Span → Expr
  form_printed = fold-PEForm (Span → Expr) Expr (ℕ × Expr) (eform_printed prog) (λ e. e.form e.span) (λ f. (f.field, f.value))

  abbrev field_printed : PField → ℕ × Expr
  field_printed = fold-PField (Span → Expr) Expr (ℕ × Expr) (eform_printed prog) (λ e. e.form e.span) (λ f. (f.field, f.value))

  abbrev FormPlaced : PEForm → Type 0
  FormPlaced f = (s : Span) (t : Option Ty) (e : Expr) → FormMeans context scope f t e → expr_placed e ≡ true → Alike (place_of (form_printed f s)) (place_of e)

  abbrev ExprPlaced : PExpr → Type 0
  ExprPlaced p = (e : Expr) → Means context scope p e → expr_placed e ≡ true → Alike (place_of (printed_expr prog p)) (place_of e)

  abbrev FieldPlaced : PField → Type 0
  FieldPlaced q = (d : StructDef) (n : NewField) → FieldMeans context scope q d n → set_placed n ≡ true → expr_placed (field_printed q).1 ≡ true

  abbrev Such : Type 0
  Such = (f : PEForm) × FormPlaced f

  abbrev Such' : Type 0
  Such' = (e : PExpr) × ExprPlaced e

  abbrev Such'' : Type 0
  Such'' = (f : PField) × FieldPlaced f

  abbrev down : P.PEForm-F Such Such' Such'' → P.PEForm-F PEForm PExpr PField
  down = map-PEForm Such Such' Such'' PEForm PExpr PField (λ q. q.0) (λ q. q.0) (λ q. q.0)

  abbrev firsts : List Such' → List PExpr
  firsts qs = map (λ (q : Such'). q.0) qs

  abbrev printed_of : P.PEForm-F PEForm PExpr PField → P.PEForm-F (Span → Expr) Expr (ℕ × Expr)
  printed_of = map-PEForm PEForm PExpr PField (Span → Expr) Expr (ℕ × Expr) form_printed (printed_expr prog) field_printed

  -- two layers of which the first is placed, as the second is, and of its level
  alike : (d e : Expr) (j k : Layer) → d.form ≡ roll-EForm j → e.form ≡ roll-EForm k → Alike (eform_place (places j)) (eform_place (places k)) → Alike (place_of d) (place_of e)
  alike d e j k dj ek h =
      let a = place_at d j dj in
      let b = place_at e k ek in
      record { placed = ap (λ (p : Place). p.placed) a ∙ h.placed; level = ap (λ (p : Place). p.level) a ∙ h.level ∙ ap (λ (p : Place). p.level) (sym b) }

  opened : (e : Expr) (k : Layer) → e.form ≡ roll-EForm k → expr_placed e ≡ true → (eform_place (places k)).placed ≡ true
  opened e k ek h = ap (λ (p : Place). p.placed) (sym (place_at e k ek)) ∙ h

  -- Lists

  abbrev AllPlaced : List Expr → Type 0
  AllPlaced es = all_placed (map place_of es) ≡ true

  kept_placed : (t : Ty) (es : List Expr) → AllPlaced es → AllPlaced (kept context scope t es)
  kept_placed t [] h = refl
  kept_placed t (e ∷ es) h =
      let p = and_parts (expr_placed e) (all_placed (map place_of es)) h in
      go (keeps (sort context scope e) t) p.0 (kept_placed t es p.1)
    where
      go : (b : Bool) → expr_placed e ≡ true → AllPlaced (kept context scope t es) → AllPlaced (if b then e ∷ kept context scope t es else kept context scope t es)
      go true one rest = λ i. one i && rest i
      go false one rest = rest

  each_placed : (qs : List Such') (t : Ty) (es : List Expr) → EachMeans (λ y. y) (Means context scope) t (firsts qs) es → AllPlaced es → AllPlaced (map (printed_expr prog) (firsts qs))
  each_placed [] t es m h = refl
  each_placed (q ∷ qs) t [] m h = absurd m
  each_placed (q ∷ qs) t (e ∷ es) m h =
      let p = and_parts (expr_placed e) (all_placed (map place_of es)) h in
      let a = (q.1 e m.0 p.0).placed in
      let b = each_placed qs t es m.2 p.1 in
      λ i. a i && b i

  args_placed : (ks : List ParamDef) (qs : List Such') (es : List Expr) → ArgumentsMean (λ y. y) (Means context scope) scope ks (firsts qs) es → AllPlaced es → AllPlaced (map (printed_expr prog) (firsts qs))
  args_placed [] [] es m h = refl
  args_placed (k ∷ ks) (q ∷ qs) (e ∷ es) m h =
      let p = and_parts (expr_placed e) (all_placed (map place_of es)) h in
      let a = (q.1 e m.0 p.0).placed in
      let b = args_placed ks qs es m.3 p.1 in
      λ i. a i && b i
  args_placed [] (q ∷ qs) es m h = absurd m
  args_placed (k ∷ ks) [] es m h = refl
  args_placed (k ∷ ks) (q ∷ qs) [] m h = absurd m

  sets_placed : (s : StructId) (d : StructDef) (qs : List Such'') (ns : List NewField) → FieldsMean (FieldMeans context scope) d (map (λ (q : Such''). q.0) qs) ns → are_yes (map set_placed ns) ≡ true → are_yes (map set_placed (map (field_erased prog s) (map field_printed (map (λ (q : Such''). q.0) qs)))) ≡ true
  sets_placed s d [] ns m h = refl
  sets_placed s d (q ∷ qs) [] m h = absurd m
  sets_placed s d (q ∷ qs) (n ∷ ns) m h =
      let p = and_parts (set_placed n) (are_yes (map set_placed ns)) h in
      let a = set_at (field_erased prog s (field_printed q.0)) ∙ q.1 d n m.0 p.0 in
      let b = sets_placed s d qs ns m.1 p.1 in
      λ i. a i && b i

  -- Forms

  module _ (s : Span) where
    layer : (y : P.PEForm-F Such Such' Such'') (t : Option Ty) (e : Expr) → rule context scope (down y) t e → expr_placed e ≡ true → Alike (place_of (eform_printed prog (printed_of (down y)) s)) (place_of e)
    layer (P.Number n) t e h is = alike (at (eform.Number n) s) e (E.Number n) (E.Number n) (sym (eform.rolls-Number n)) (h.0 ∙ sym (eform.rolls-Number n)) (record { placed = refl; level = refl })
    layer P.True t e h is = alike (at eform.True s) e E.True E.True (sym eform.rolls-True) (h.0 ∙ sym eform.rolls-True) (record { placed = refl; level = refl })
    layer P.False t e h is = alike (at eform.False s) e E.False E.False (sym eform.rolls-False) (h.0 ∙ sym eform.rolls-False) (record { placed = refl; level = refl })
    layer P.Null t e h is = alike (at eform.Null s) e E.Null E.Null (sym eform.rolls-Null) (h.0 ∙ sym eform.rolls-Null) (record { placed = refl; level = refl })
    layer (P.Var slot x) t e h is = alike (at (eform.Word x) s) e (E.Word x) (E.Word x) (sym (eform.rolls-Word x)) (h.0 ∙ sym (eform.rolls-Word x)) (record { placed = refl; level = refl })
    layer (P.Const c) t e h is = alike (at (eform.Word (R.const_name prog c)) s) e (E.Word (R.const_name prog c)) (E.Word h.0) (sym (eform.rolls-Word (R.const_name prog c))) (h.1 ∙ sym (eform.rolls-Word h.0)) (record { placed = refl; level = refl })
    layer (P.Hole None) t e h is = alike (at (eform.Hole None) s) e (E.Hole None) (E.Hole None) (sym (eform.rolls-Hole None)) (h.0 ∙ sym (eform.rolls-Hole None)) (record { placed = refl; level = refl })
    layer (P.Hole (Some n)) t e h is = alike (at (eform.Hole (Some n)) s) e (E.Hole (Some n)) (E.Hole (Some n)) (sym (eform.rolls-Hole (Some n))) (h.0 ∙ sym (eform.rolls-Hole (Some n))) (record { placed = refl; level = refl })
    layer (P.Pattern qs) t e h is =
        let es = map (printed_expr prog) (firsts qs) in
        let ek = h.2 ∙ sym (eform.rolls-Pattern h.0 h.1) in
        alike (at (eform.Pattern (choice_of es) es) s) e (E.Pattern (choice_of es) es) (E.Pattern h.0 h.1) (sym (eform.rolls-Pattern (choice_of es) es)) ek
        (record { placed = each_placed qs h.3 (kept context scope h.3 h.1) h.6 (kept_placed h.3 h.1 (opened e (E.Pattern h.0 h.1) ek is)); level = refl })
    layer (P.Paren q) t e h is =
        let x = printed_expr prog q.0 in
        let ek = h.1 ∙ sym (eform.rolls-Paren h.0) in
        alike (at (eform.Paren x) s) e (E.Paren x) (E.Paren h.0) (sym (eform.rolls-Paren x)) ek
        (record { placed = (q.1 h.0 h.2 (opened e (E.Paren h.0) ek is)).placed; level = refl })
    layer (P.Call g qs) t e h is =
        let es = map (printed_expr prog) (firsts qs) in
        let ek = h.2 ∙ sym (eform.rolls-Call h.0 h.1) in
        alike (at (eform.Call (R.fun_name prog g) es) s) e (E.Call (R.fun_name prog g) es) (E.Call h.0 h.1) (sym (eform.rolls-Call (R.fun_name prog g) es)) ek
        (record { placed = args_placed (h.3).params qs h.1 h.5 (opened e (E.Call h.0 h.1) ek is); level = refl })
    layer (P.New k qs) t e h is =
        let ns = map (field_erased prog k) (map field_printed (map (λ (q : Such''). q.0) qs)) in
        let ek = h.2 ∙ sym (eform.rolls-New h.0 h.1) in
        alike (at (eform.New (R.struct_name prog k) ns) s) e (E.New (R.struct_name prog k) ns) (E.New h.0 h.1) (sym (eform.rolls-New (R.struct_name prog k) ns)) ek
        (record { placed = sets_placed k h.3 qs h.1 h.5 (opened e (E.New h.0 h.1) ek is); level = refl })
    layer (P.Braces qs) t e h is =
        let es = map (printed_expr prog) (firsts qs) in
        let ek = h.1 ∙ sym (eform.rolls-Braces h.0) in
        alike (at (eform.Braces es) s) e (E.Braces es) (E.Braces h.0) (sym (eform.rolls-Braces es)) ek
        (record { placed = each_placed qs h.3 h.0 h.4 (opened e (E.Braces h.0) ek is); level = refl })
    layer (P.Member q k i) t e h is =
        let x = printed_expr prog q.0 in
        let ek = h.2 ∙ sym (eform.rolls-Member h.0 h.1) in
        let b = opened e (E.Member h.0 h.1) ek is in
        alike (at (eform.Member x (R.field_name prog k i)) s) e (E.Member x (R.field_name prog k i)) (E.Member h.0 h.1) (sym (eform.rolls-Member x (R.field_name prog k i))) ek
        (record { placed = binds_again 1 (place_of x) (place_of h.0) (q.1 h.0 h.3 (bound 1 (place_of h.0) b)) b; level = refl })
    layer (P.Index q j) t e h is =
        let x = printed_expr prog q.0 in
        let y = printed_expr prog j.0 in
        let ek = h.2 ∙ sym (eform.rolls-Index h.0 h.1) in
        let b = and_parts (binds 1 (place_of h.0)) (expr_placed h.1) (opened e (E.Index h.0 h.1) ek is) in
        let u = binds_again 1 (place_of x) (place_of h.0) (q.1 h.0 h.3 (bound 1 (place_of h.0) b.0)) b.0 in
        let v = (j.1 h.1 h.4 b.1).placed in
        alike (at (eform.Index x y) s) e (E.Index x y) (E.Index h.0 h.1) (sym (eform.rolls-Index x y)) ek (record { placed = λ i. u i && v i; level = refl })
    layer (P.Slice q j m) t e h is =
        let x = printed_expr prog q.0 in
        let y = printed_expr prog j.0 in
        let z = at (eform.Number m) nowhere in
        let ek = h.3 ∙ sym (eform.rolls-Slice h.0 h.1 h.2) in
        let a = and_parts (binds 1 (place_of h.0) && expr_placed h.1) (expr_placed h.2) (opened e (E.Slice h.0 h.1 h.2) ek is) in
        let b = and_parts (binds 1 (place_of h.0)) (expr_placed h.1) a.0 in
        let u = binds_again 1 (place_of x) (place_of h.0) (q.1 h.0 h.4 (bound 1 (place_of h.0) b.0)) b.0 in
        let v = (j.1 h.1 h.5 b.1).placed in
        let w = ap (λ (p : Place). p.placed) (place_at z (E.Number m) (sym (eform.rolls-Number m))) in
        alike (at (eform.Slice x y z) s) e (E.Slice x y z) (E.Slice h.0 h.1 h.2) (sym (eform.rolls-Slice x y z)) ek (record { placed = λ i. u i && v i && w i; level = refl })
    layer (P.Unary o q) t e h is =
        let x = printed_expr prog q.0 in
        let ek = h.2 ∙ sym (eform.rolls-Unary h.0 h.1) in
        let b = opened e (E.Unary h.0 h.1) ek is in
        alike (at (eform.Unary (unary_mark o) x) s) e (E.Unary (unary_mark o) x) (E.Unary h.0 h.1) (sym (eform.rolls-Unary (unary_mark o) x)) ek
        (record { placed = binds_again 2 (place_of x) (place_of h.1) (q.1 h.1 h.4 (bound 2 (place_of h.1) b)) b; level = refl })
    layer (P.Binary o q j) t e h is =
        let x = printed_expr prog q.0 in
        let y = printed_expr prog j.0 in
        let k = level_of h.0 in
        let ek = h.3 ∙ sym (eform.rolls-Binary h.0 h.1 h.2) in
        let a = and_parts (nat_le 3 k && binds k (place_of h.1)) (binds (k - 1) (place_of h.2)) (opened e (E.Binary h.0 h.1 h.2) ek is) in
        let b = and_parts (nat_le 3 k) (binds k (place_of h.1)) a.0 in
        let u = binds_again k (place_of x) (place_of h.1) (q.1 h.1 h.5 (bound k (place_of h.1) b.1)) b.1 in
        let v = binds_again (k - 1) (place_of y) (place_of h.2) (j.1 h.2 h.6 (bound (k - 1) (place_of h.2) a.1)) a.1 in
        let n = mark_back h.0 o h.4 in
        let f = ap (λ m. eform.Binary m x y) n in
        subst (λ m. Alike (place_of (at (eform.Binary m x y) s)) (place_of e)) (sym n)
        (alike (at (eform.Binary h.0 x y) s) e (E.Binary h.0 x y) (E.Binary h.0 h.1 h.2) (sym (eform.rolls-Binary h.0 x y)) ek (record { placed = λ i. b.0 i && u i && v i; level = refl }))
    layer (P.Cond z q j) t e h is =
        let w = printed_expr prog z.0 in
        let x = printed_expr prog q.0 in
        let y = printed_expr prog j.0 in
        let ek = h.3 ∙ sym (eform.rolls-Cond h.0 h.1 h.2) in
        let a = and_parts (binds 12 (place_of h.0) && expr_placed h.1) (binds 13 (place_of h.2)) (opened e (E.Cond h.0 h.1 h.2) ek is) in
        let b = and_parts (binds 12 (place_of h.0)) (expr_placed h.1) a.0 in
        let u = binds_again 12 (place_of w) (place_of h.0) (z.1 h.0 h.4 (bound 12 (place_of h.0) b.0)) b.0 in
        let v = (q.1 h.1 h.5 b.1).placed in
        let r = binds_again 13 (place_of y) (place_of h.2) (j.1 h.2 h.6 (bound 13 (place_of h.2) a.1)) a.1 in
        alike (at (eform.Cond w x y) s) e (E.Cond w x y) (E.Cond h.0 h.1 h.2) (sym (eform.rolls-Cond w x y)) ek (record { placed = λ i. u i && v i && r i; level = refl })
    layer (P.ToInt q) t e h is = q.1 e h.0 is
    layer (P.Pad q) t e h is = q.1 e h.0 is

  in_expr : (s : Span) (t : Option Ty) (f : PEForm) → FormPlaced f → ExprPlaced (record { span = s; ty = t; form = f })
  in_expr s t f h e m is =
      let c = fold-roll-PExpr (Span → Expr) Expr (ℕ × Expr) (eform_printed prog) (λ e. e.form e.span) (λ f. (f.field, f.value)) (record { span = s; ty = t; form = f }) in
      subst (λ (x : Expr). Alike (place_of x) (place_of e)) (sym c) (h s t e (means_parts context scope (record { span = s; ty = t; form = f }) e m).1 is)

  in_field : (k : ℕ) (p : PExpr) → ExprPlaced p → FieldPlaced (record { field = k; value = p })
  in_field k p h d n m is =
      let c = fold-roll-PField (Span → Expr) Expr (ℕ × Expr) (eform_printed prog) (λ e. e.form e.span) (λ f. (f.field, f.value)) (record { field = k; value = p }) in
      let r : FieldMeans context scope (record { field = k; value = p }) ≡ (λ d x. (t : Ty) × IsField d k x.name t × Means context scope p x.value × (p.ty ≡ Some t)) = rec-roll-PField EFormRule ExprRule FieldRule (eform_means context scope) (expr_means context scope) (field_means context scope) (λ X Y Z u v w f k n x. refl) (record { field = k; value = p }) in
      let g = subst (λ (M : FieldRule). M d n) r m in
      ap (λ (q : ℕ × Expr). expr_placed q.1) c ∙ (h n.value g.2 (sym (set_at n) ∙ is)).placed

  form_from : (y : P.PEForm-F Such Such' Such'') → FormPlaced (roll-PEForm (down y))
  form_from y s t e m is =
      let c = fold-roll-PEForm (Span → Expr) Expr (ℕ × Expr) (eform_printed prog) (λ e. e.form e.span) (λ f. (f.field, f.value)) (down y) in
      subst (λ (z : Span → Expr). Alike (place_of (z s)) (place_of e)) (sym c) (layer s y t e (subst (λ (M : EFormRule). M t e) (form_means_are context scope (down y)) m) is)

  expr_stands : (p : PExpr) → ExprPlaced p
  expr_stands = ind-PExpr FormPlaced ExprPlaced FieldPlaced
      (λ x y is. subst (λ z. FormPlaced (roll-PEForm z)) is (form_from y))
      (λ x y is. subst (λ z. ExprPlaced (roll-PExpr z)) is (in_expr y.span y.ty y.form.0 y.form.1))
      (λ x y is. subst (λ z. FieldPlaced (roll-PField z)) is (in_field y.field y.value.0 y.value.1))

pub placed_again : ExpressionsPlaced
placed_again prog context scope p e m is =
    let r = expr_stands prog context scope p e m is in
    (r.placed, r.level)
