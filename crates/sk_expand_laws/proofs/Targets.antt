-- What stands as a target in a statement stands as one in its walk.
use Rattle.std.proofs.Common.{◌≡◌, ℕ, ◌+◌, Bool, true, false, ◌&&◌, List, [], ◌∷◌, map, length, Option, Some, None, refl, sym, ap, ◌∙◌, subst, inl, inr}
use Rattle.std.specs.Prelude.{if◌then◌else◌}
use Rattle.std.specs.List.{list_all}
use Rattle.std.proofs.lemmas.Bool.{and_parts}
use Rattle.sk_base.specs.declared.bounds.Bounds.{Bounds}
use Rattle.sk_tree.specs.declared.expr.Expr.{Expr}
use Rattle.sk_tree.specs.declared.expr.EForm.TheVariants as eform
use Rattle.sk_tree.specs.declared.expr.EForm.TheOpen as E
use Rattle.sk_tree.specs.Placed.{Place, all_placed, place_of, expr_placed}
use Rattle.sk_prog.specs.declared.ty.Ty.{Ty}
use Rattle.sk_prog.specs.declared.expr.PExpr.{PExpr}
use Rattle.sk_prog.specs.declared.expr.PEForm.TheVariants as pform
use Rattle.sk_prog.specs.declared.expr.PEForm.{PEForm}
use Rattle.sk_prog.specs.declared.expr.PField.{PField}
use Rattle.sk_prog.specs.declared.prog.StructDef.{StructDef}
use Rattle.sk_prog.specs.declared.prog.Fun.{Fun}
use Rattle.sk_base.specs.declared.span.Span.{Span}
use Rattle.sk_types_rules.specs.declared.scope.Variable.{Variable}
use Rattle.sk_types_rules.specs.Scope.{Signature, Known, Context}
use Rattle.sk_types_rules.specs.Sorts.{target_type, first_target, this_or, kept_targets, is_some_type}
use Rattle.sk_types_rules.specs.Types.{EachMeans, Means, IsPlace, IsTarget, IsTargetPattern}
use Rattle.sk_types_laws.specs.Envs.{AreDistinct}
use Rattle.sk_types_laws.proofs.Ats.{ty_same, ty_self}
use Rattle.sk_model.specs.Expand.{Walk, as_walk, in_order, CallWalk, eform_walk, expr_step, field_step, walk_expr}
use Rattle.sk_model.proofs.Layers.{layer_pattern}
use Rattle.sk_holes_laws.specs.Keeping.{SaidTarget}
use Rattle.sk_expand_laws.specs.Copies.{Standing}
use Rattle.sk_expand_laws.proofs.Walks.{standing_parts}
use Rattle.sk_expand_laws.proofs.Exprs.{CallsKeep, first, second, one, two, IsAgain, Again, AllAgain, expr_again, place_at}

module _ (bounds : Bounds) (structs : List StructDef) (consts : List (List ℕ)) (funs others : List Signature) (known : List Known) (scope : List Variable) (all : List Fun) (call : CallWalk) (good : AreDistinct (second structs consts funs others scope)) (calls : CallsKeep all call (first structs consts funs others scope) (second structs consts funs others scope) scope) where
  abbrev old : Context
  old = one bounds structs consts funs others known scope all call good calls

  abbrev new : Context
  new = two bounds structs consts funs others known scope all call good calls

  abbrev Alike : Expr → Expr → Type 0
  Alike e d = IsAgain bounds structs consts funs others known scope all call good calls e d

  abbrev AllAlike : List Expr → List Expr → Type 0
  AllAlike es ds = AllAgain bounds structs consts funs others known scope all call good calls es ds

  abbrev pub Found : PExpr → Option Ty → Expr → Type 0
  Found p t e = Again bounds structs consts funs others known scope all call good calls p t e

  abbrev pub walks : PExpr → Walk PExpr
  walks = walk_expr bounds call

  pub found : (p : PExpr) (e : Expr) (k : ℕ) → Means old scope p e → Standing all k (walks p k).copies → Found (walks p k).made p.ty e
  found p e k m c = expr_again bounds structs consts funs others known scope all call good calls p e k m c

  -- Lists of targets

  abbrev AreTargets : Ty → List Expr → Type 0
  AreTargets t es = list_all (λ e. is_some_type (target_type old scope e) t) es ≡ true

  some_type : (o : Option Ty) (t : Ty) → is_some_type o t ≡ true → o ≡ Some t
  some_type None t h = cc
  some_type (Some u) t h = ap Some (ty_same u t h)

  type_some : (o : Option Ty) (t : Ty) → o ≡ Some t → is_some_type o t ≡ true
  type_some o t h = ap (λ o. is_some_type o t) h ∙ ty_self t

  kept_are : (t : Ty) (es : List Expr) → AreTargets t (kept_targets old scope t es)
  kept_are t [] = refl
  kept_are t (e ∷ es) = go (is_some_type (target_type old scope e) t) refl (kept_are t es)
    where
      go : (b : Bool) → is_some_type (target_type old scope e) t ≡ b → AreTargets t (kept_targets old scope t es) → AreTargets t (if b then e ∷ kept_targets old scope t es else kept_targets old scope t es)
      go true is rest = (λ i. is i && rest i)
      go false is rest = rest

  kept_placed : (t : Ty) (es : List Expr) → all_placed (map place_of es) ≡ true → all_placed (map place_of (kept_targets old scope t es)) ≡ true
  kept_placed t [] h = refl
  kept_placed t (e ∷ es) h =
      let a = and_parts (expr_placed e) (all_placed (map place_of es)) h in
      go (is_some_type (target_type old scope e) t) a.0 (kept_placed t es a.1)
    where
      go : (b : Bool) → expr_placed e ≡ true → all_placed (map place_of (kept_targets old scope t es)) ≡ true → all_placed (map place_of (if b then e ∷ kept_targets old scope t es else kept_targets old scope t es)) ≡ true
      go true is rest = (λ i. is i && rest i)
      go false is rest = rest

  abbrev IsSome : List Expr → Type 0
  IsSome [] = ⊥
  IsSome (e ∷ es) = Unit {0}

  kept_some : (t : Ty) (es : List Expr) → first_target old scope es ≡ Some t → IsSome (kept_targets old scope t es)
  kept_some t [] h = cc
  kept_some t (e ∷ es) h = go (target_type old scope e) refl h (λ j. kept_some t es j)
    where
      go : (o : Option Ty) → target_type old scope e ≡ o → this_or old scope o (first_target old scope es) ≡ Some t → (first_target old scope es ≡ Some t → IsSome (kept_targets old scope t es)) → IsSome (if is_some_type (target_type old scope e) t then e ∷ kept_targets old scope t es else kept_targets old scope t es)
      go None is h rest = subst (λ b. IsSome (if b then e ∷ kept_targets old scope t es else kept_targets old scope t es)) (sym (ap (λ o. is_some_type o t) is)) (rest h)
      go (Some u) is h rest = subst (λ b. IsSome (if b then e ∷ kept_targets old scope t es else kept_targets old scope t es)) (sym (type_some _ t (is ∙ h))) tt

  record Each (ps : List PExpr) (t : Ty) (es : List Expr) : Type 0 where
    trees : List Expr
    means : EachMeans (λ y. y) (Means new scope) t ps trees
    again : AllAlike es trees

  each : (ps : List PExpr) (t : Ty) (es : List Expr) (k : ℕ) → EachMeans (λ y. y) (Means old scope) t ps es → Standing all k (in_order (map walks ps) k).copies → Each (in_order (map walks ps) k).made t es
  each [] t [] k m c = record { trees = []; means = tt; again = tt }
  each [] t (e ∷ es) k m c = absurd m
  each (p ∷ ps) t [] k m c = absurd m
  each (p ∷ ps) t (e ∷ es) k m c =
      let w = walks p k in
      let n = k + length w.copies in
      let s = standing_parts all k w.copies (in_order (map walks ps) n).copies c in
      let x = found p e k m.0 s.0 in
      let r = each ps t es n m.2 s.1 in
      record { trees = x.tree ∷ r.trees; means = (x.means, x.type ∙ m.1, r.means); again = (x.again, r.again) }

  kept_again : (t : Ty) (es ds : List Expr) → AreTargets t es → AllAlike es ds → kept_targets new scope t ds ≡ ds
  kept_again t [] [] a h = refl
  kept_again t (e ∷ es) (d ∷ ds) a h =
      let b = and_parts (is_some_type (target_type old scope e) t) (list_all (λ e. is_some_type (target_type old scope e) t) es) a in
      let is = type_some (target_type new scope d) t (h.0.target t (some_type (target_type old scope e) t b.0)) in
      ap (λ b. if b then d ∷ kept_targets new scope t ds else kept_targets new scope t ds) is ∙ ap (λ z. d ∷ z) (kept_again t es ds b.1 h.1)
  kept_again t [] (d ∷ ds) a h = absurd h
  kept_again t (e ∷ es) [] a h = absurd h

  first_again : (t : Ty) (es ds : List Expr) → AreTargets t es → AllAlike es ds → IsSome es → first_target new scope ds ≡ Some t
  first_again t [] ds a h s = absurd s
  first_again t (e ∷ es) [] a h s = absurd h
  first_again t (e ∷ es) (d ∷ ds) a h s =
      let b = and_parts (is_some_type (target_type old scope e) t) (list_all (λ e. is_some_type (target_type old scope e) t) es) a in
      ap (λ o. this_or new scope o (first_target new scope ds)) (h.0.target t (some_type (target_type old scope e) t b.0))

  all_placed_again : (es ds : List Expr) → AllAlike es ds → all_placed (map place_of es) ≡ true → all_placed (map place_of ds) ≡ true
  all_placed_again [] [] h p = refl
  all_placed_again (e ∷ es) (d ∷ ds) h p =
      let a = and_parts (expr_placed e) (all_placed (map place_of es)) p in
      (λ i. h.0.placed a.0 i && all_placed_again es ds h.1 a.1 i)
  all_placed_again [] (d ∷ ds) h p = absurd h
  all_placed_again (e ∷ es) [] h p = absurd h

  -- Targets

  pub record TargetAgain (t : Ty) (p : PExpr) (e : Expr) : Type 0 where
    pub said : SaidTarget new scope t p
    pub low : (place_of e).level ≡ 1

  place_again : (t : Ty) (p : PExpr) (e : Expr) (k : ℕ) → IsPlace old scope t p e → expr_placed e ≡ true → Standing all k (walks p k).copies → TargetAgain t (walks p k).made e
  place_again t p e k h placed c =
      let r = found p e k h.is_at.means c in
      record {
        said = record {
          tree = r.tree;
          target = inl (record { is_at = record { means = r.means; type = r.type ∙ h.is_at.type }; target = r.again.target t h.target });
          placed = r.again.placed placed;
        };
        low = r.again.low t h.target;
      }

  pattern_again : (t : Ty) (p : PExpr) (e : Expr) (k : ℕ) → IsTargetPattern old scope t p e → expr_placed e ≡ true → Standing all k (walks p k).copies → TargetAgain t (walks p k).made e
  pattern_again t p e k h placed c =
      let q : PExpr = record { span = e.span; ty = Some t; form = pform.Pattern h.parts } in
      let w : walks p ≡ as_walk (λ f. record { span = e.span; ty = Some t; form = f }) (as_walk (λ xs. pform.Pattern xs) (in_order (map walks h.parts))) =
      ap walks h.made ∙ layer_pattern (Span → Walk PEForm) (Walk PExpr) (Walk PField) (eform_walk bounds call) (expr_step bounds call) (field_step bounds call) e.span (Some t) h.parts in
      let es = kept_targets old scope t h.strings in
      let r = each h.parts t es k h.kept (subst (λ (w : Walk PExpr). Standing all k (w k).copies) w c) in
      let place = place_at e (E.Pattern h.pattern h.strings) (h.tree ∙ sym (eform.rolls-Pattern h.pattern h.strings)) in
      let d : Expr = record { span = e.span; form = eform.Pattern h.pattern r.trees } in
      let here = place_at d (E.Pattern h.pattern r.trees) (sym (eform.rolls-Pattern h.pattern r.trees)) in
      let strings : all_placed (map place_of h.strings) ≡ true = ap (λ (z : Place). z.placed) (sym place) ∙ placed in
      subst (λ (w : Walk PExpr). TargetAgain t (w k).made e) (sym w) (record {
        said = record {
          tree = d;
          target = inr (record {
            pattern = h.pattern;
            strings = r.trees;
            parts = (in_order (map walks h.parts) k).made;
            tree = refl;
            made = refl;
            first = first_again t es r.trees (kept_are t h.strings) r.again (kept_some t h.strings h.first);
            kept = subst (λ ds. EachMeans (λ q. q) (Means new scope) t (in_order (map walks h.parts) k).made ds) (sym (kept_again t es r.trees (kept_are t h.strings) r.again)) r.means;
          });
          placed = ap (λ (z : Place). z.placed) here ∙ all_placed_again es r.trees r.again (kept_placed t h.strings strings);
        };
        low = ap (λ (z : Place). z.level) place;
      })

  pub target_again : (t : Ty) (p : PExpr) (e : Expr) (k : ℕ) → IsTarget old scope t p e → expr_placed e ≡ true → Standing all k (walks p k).copies → TargetAgain t (walks p k).made e
  target_again t p e k (inl h) placed c = place_again t p e k h placed c
  target_again t p e k (inr h) placed c = pattern_again t p e k h placed c
