-- What is left of statements without sites holds nothing open, with new numbers too.
use Rattle.std.proofs.Common.{◌≡◌, ℕ, zero, suc, Bool, true, ◌&&◌, List, [], ◌∷◌, ◌++◌, map, Option, Some, None, refl, sym, ap, ◌∙◌}
use Rattle.std.specs.List.{list_all}
use Rattle.sk_base.specs.declared.span.Span.{Span}
use Rattle.sk_base.specs.declared.bounds.Bounds.{Bounds}
use Rattle.sk_prog.specs.declared.ty.Ty.{Ty}
use Rattle.sk_prog.specs.declared.ty.Ty.TheVariants as ty
use Rattle.sk_prog.specs.declared.ty.Elem.TheVariants as elem
use Rattle.sk_prog.specs.declared.expr.PExpr.{PExpr}
use Rattle.sk_prog.specs.declared.expr.PField.{PField}
use Rattle.sk_prog.specs.declared.expr.PEForm.TheVariants as eform
use Rattle.sk_prog.specs.declared.expr.PEForm.TheFolds.{fold-PField}
use Rattle.sk_model.specs.declared.expanded.Site.{Site}
use Rattle.sk_model.specs.Parts.{joined}
use Rattle.sk_model.specs.Sites.{eform_sites, expr_sites}
use Rattle.sk_model.specs.Filled.{is_yes, eform_filled, expr_filled}
use Rattle.sk_model.proofs.Induction.{Each, ExprCases, expr_ind}
use Rattle.sk_model.proofs.Layers.{layer_field, layer_number, layer_true, layer_false, layer_null, layer_var, layer_const, layer_hole, layer_pattern, layer_paren, layer_call, layer_new, layer_braces, layer_member, layer_index, layer_slice, layer_unary, layer_binary, layer_cond, layer_to_int, layer_pad}
use Rattle.sk_prune.specs.Renamed.{Typed, new_id, eform_renamed, expr_again, field_again, expr_renamed}
use Rattle.sk_prune.specs.Words.{field_renamed}

pub none_of : {A : Type 0} (xs ys : List A) → xs ++ ys ≡ [] → (xs ≡ []) × (ys ≡ [])
none_of [] ys h = (refl, h)
none_of (x ∷ xs) ys h = cc

module _ (bounds : Bounds) (number : ℕ → ℕ) where
  abbrev SiteFold : Type 0
  SiteFold = Option Ty → Span → List Site

  abbrev sites : PExpr → List Site
  sites = expr_sites bounds

  abbrev sites_x : PField → List Site
  sites_x = fold-PField SiteFold (List Site) (List Site) (eform_sites bounds) (λ e. e.form e.ty e.span) (λ x. x.value)

  abbrev ren : PExpr → PExpr
  ren = expr_renamed number

  abbrev ren_x : PField → PField
  ren_x = field_renamed number

  abbrev filled_x : PField → Bool
  filled_x = fold-PField Bool Bool Bool eform_filled (λ x. x.form) (λ x. x.value)

  abbrev Q : PExpr → Type 0
  Q e = sites e ≡ [] → expr_filled (ren e) ≡ true

  abbrev R : PField → Type 0
  R x = sites_x x ≡ [] → filled_x (ren_x x) ≡ true

  by_form : (e e' : PExpr) (z : List Site) (b : Bool) → sites e ≡ z → ren e ≡ e' → expr_filled e' ≡ b → (z ≡ [] → b ≡ true) → Q e
  by_form e e' z b s r f h k = ap expr_filled r ∙ f ∙ h (sym s ∙ k)

  rows : (es : List PExpr) → Each Q es → joined (map sites es) ≡ [] → list_all is_yes (map expr_filled (map ren es)) ≡ true
  rows [] q k = refl
  rows (e ∷ es) q k =
      let n = none_of (sites e) (joined (map sites es)) k in
      let one = q.0 n.0 in
      let more = rows es q.1 n.1 in
      λ i. one i && more i

  field_rows : (xs : List PField) → Each R xs → joined (map sites_x xs) ≡ [] → list_all is_yes (map filled_x (map ren_x xs)) ≡ true
  field_rows [] q k = refl
  field_rows (x ∷ xs) q k =
      let n = none_of (sites_x x) (joined (map sites_x xs)) k in
      let one = q.0 n.0 in
      let more = field_rows xs q.1 n.1 in
      λ i. one i && more i

  two : (a b : PExpr) → Q a → Q b → sites a ++ sites b ≡ [] → (expr_filled (ren a) && expr_filled (ren b)) ≡ true
  two a b q r k =
      let n = none_of (sites a) (sites b) k in
      let one = q n.0 in
      let more = r n.1 in
      λ i. one i && more i

  abbrev hole_sites_of : Span → Option Ty → Option ℕ → List Site
  hole_sites_of s t w = sites (record { span = s; ty = t; form = eform.Hole w })

  hole_full : (s : Span) (t : Option Ty) (w : Option ℕ) → Q (record { span = s; ty = t; form = eform.Hole w })
  hole_full s None w k = let z = sym (layer_hole SiteFold (List Site) (List Site) (eform_sites bounds) (λ e. e.form e.ty e.span) (λ x. x.value) s None w) ∙ k in cc
  hole_full s (Some (ty.One elem.Bit)) w k = let z = sym (layer_hole SiteFold (List Site) (List Site) (eform_sites bounds) (λ e. e.form e.ty e.span) (λ x. x.value) s (Some (ty.One elem.Bit)) w) ∙ k in cc
  hole_full s (Some (ty.One elem.Int)) w k = let z = sym (layer_hole SiteFold (List Site) (List Site) (eform_sites bounds) (λ e. e.form e.ty e.span) (λ x. x.value) s (Some (ty.One elem.Int)) w) ∙ k in cc
  hole_full s (Some (ty.One (elem.Reference d))) w k = let z = sym (layer_hole SiteFold (List Site) (List Site) (eform_sites bounds) (λ e. e.form e.ty e.span) (λ x. x.value) s (Some (ty.One (elem.Reference d))) w) ∙ k in cc
  hole_full s (Some (ty.Array elem.Bit zero)) w k = ap expr_filled (layer_hole Typed PExpr PField (eform_renamed number) (expr_again number) (field_again number) s (Some (ty.Array elem.Bit zero)) w) ∙ layer_braces Bool Bool Bool eform_filled (λ x. x.form) (λ x. x.value) s (Some (ty.Array elem.Bit zero)) []
  hole_full s (Some (ty.Array elem.Bit (suc n))) w k = let z = sym (layer_hole SiteFold (List Site) (List Site) (eform_sites bounds) (λ e. e.form e.ty e.span) (λ x. x.value) s (Some (ty.Array elem.Bit (suc n))) w) ∙ k in cc
  hole_full s (Some (ty.Array elem.Int n)) w k = let z = sym (layer_hole SiteFold (List Site) (List Site) (eform_sites bounds) (λ e. e.form e.ty e.span) (λ x. x.value) s (Some (ty.Array elem.Int n)) w) ∙ k in cc
  hole_full s (Some (ty.Array (elem.Reference d) n)) w k = let z = sym (layer_hole SiteFold (List Site) (List Site) (eform_sites bounds) (λ e. e.form e.ty e.span) (λ x. x.value) s (Some (ty.Array (elem.Reference d) n)) w) ∙ k in cc
  hole_full s (Some (ty.Grid e n m)) w k = let z = sym (layer_hole SiteFold (List Site) (List Site) (eform_sites bounds) (λ e. e.form e.ty e.span) (λ x. x.value) s (Some (ty.Grid e n m)) w) ∙ k in cc

  cases : ExprCases Q R
  cases = record {
    field = λ n e q k.
        let z = layer_field SiteFold (List Site) (List Site) (eform_sites bounds) (λ e. e.form e.ty e.span) (λ x. x.value) n e in
        ap filled_x (layer_field Typed PExpr PField (eform_renamed number) (expr_again number) (field_again number) n e) ∙ layer_field Bool Bool Bool eform_filled (λ x. x.form) (λ x. x.value) n (ren e) ∙ q (sym z ∙ k);
    number = λ s t n. by_form _ _ _ _ (layer_number SiteFold (List Site) (List Site) (eform_sites bounds) (λ e. e.form e.ty e.span) (λ x. x.value) s t n) (layer_number Typed PExpr PField (eform_renamed number) (expr_again number) (field_again number) s t n) (layer_number Bool Bool Bool eform_filled (λ x. x.form) (λ x. x.value) s t n) (λ k. refl);
    truth = λ s t. by_form _ _ _ _ (layer_true SiteFold (List Site) (List Site) (eform_sites bounds) (λ e. e.form e.ty e.span) (λ x. x.value) s t) (layer_true Typed PExpr PField (eform_renamed number) (expr_again number) (field_again number) s t) (layer_true Bool Bool Bool eform_filled (λ x. x.form) (λ x. x.value) s t) (λ k. refl);
    falsity = λ s t. by_form _ _ _ _ (layer_false SiteFold (List Site) (List Site) (eform_sites bounds) (λ e. e.form e.ty e.span) (λ x. x.value) s t) (layer_false Typed PExpr PField (eform_renamed number) (expr_again number) (field_again number) s t) (layer_false Bool Bool Bool eform_filled (λ x. x.form) (λ x. x.value) s t) (λ k. refl);
    null = λ s t. by_form _ _ _ _ (layer_null SiteFold (List Site) (List Site) (eform_sites bounds) (λ e. e.form e.ty e.span) (λ x. x.value) s t) (layer_null Typed PExpr PField (eform_renamed number) (expr_again number) (field_again number) s t) (layer_null Bool Bool Bool eform_filled (λ x. x.form) (λ x. x.value) s t) (λ k. refl);
    var = λ s t slot x. by_form _ _ _ _ (layer_var SiteFold (List Site) (List Site) (eform_sites bounds) (λ e. e.form e.ty e.span) (λ x. x.value) s t slot x) (layer_var Typed PExpr PField (eform_renamed number) (expr_again number) (field_again number) s t slot x) (layer_var Bool Bool Bool eform_filled (λ x. x.form) (λ x. x.value) s t slot x) (λ k. refl);
    const = λ s t n. by_form _ _ _ _ (layer_const SiteFold (List Site) (List Site) (eform_sites bounds) (λ e. e.form e.ty e.span) (λ x. x.value) s t n) (layer_const Typed PExpr PField (eform_renamed number) (expr_again number) (field_again number) s t n) (layer_const Bool Bool Bool eform_filled (λ x. x.form) (λ x. x.value) s t n) (λ k. refl);
    pattern = λ s t es q. by_form _ _ _ _ (layer_pattern SiteFold (List Site) (List Site) (eform_sites bounds) (λ e. e.form e.ty e.span) (λ x. x.value) s t es) (layer_pattern Typed PExpr PField (eform_renamed number) (expr_again number) (field_again number) s t es) (layer_pattern Bool Bool Bool eform_filled (λ x. x.form) (λ x. x.value) s t (map ren es)) (λ k. cc);
    paren = λ s t e q. by_form _ _ _ _ (layer_paren SiteFold (List Site) (List Site) (eform_sites bounds) (λ e. e.form e.ty e.span) (λ x. x.value) s t e) (layer_paren Typed PExpr PField (eform_renamed number) (expr_again number) (field_again number) s t e) (layer_paren Bool Bool Bool eform_filled (λ x. x.form) (λ x. x.value) s t (ren e)) (λ k. q k);
    call = λ s t f es q. by_form _ _ _ _ (layer_call SiteFold (List Site) (List Site) (eform_sites bounds) (λ e. e.form e.ty e.span) (λ x. x.value) s t f es) (layer_call Typed PExpr PField (eform_renamed number) (expr_again number) (field_again number) s t f es) (layer_call Bool Bool Bool eform_filled (λ x. x.form) (λ x. x.value) s t (new_id number f) (map ren es)) (λ k. rows es q k);
    new = λ s t d fs q. by_form _ _ _ _ (layer_new SiteFold (List Site) (List Site) (eform_sites bounds) (λ e. e.form e.ty e.span) (λ x. x.value) s t d fs) (layer_new Typed PExpr PField (eform_renamed number) (expr_again number) (field_again number) s t d fs) (layer_new Bool Bool Bool eform_filled (λ x. x.form) (λ x. x.value) s t d (map ren_x fs)) (λ k. field_rows fs q k);
    braces = λ s t es q. by_form _ _ _ _ (layer_braces SiteFold (List Site) (List Site) (eform_sites bounds) (λ e. e.form e.ty e.span) (λ x. x.value) s t es) (layer_braces Typed PExpr PField (eform_renamed number) (expr_again number) (field_again number) s t es) (layer_braces Bool Bool Bool eform_filled (λ x. x.form) (λ x. x.value) s t (map ren es)) (λ k. rows es q k);
    member = λ s t e d n q. by_form _ _ _ _ (layer_member SiteFold (List Site) (List Site) (eform_sites bounds) (λ e. e.form e.ty e.span) (λ x. x.value) s t e d n) (layer_member Typed PExpr PField (eform_renamed number) (expr_again number) (field_again number) s t e d n) (layer_member Bool Bool Bool eform_filled (λ x. x.form) (λ x. x.value) s t (ren e) d n) (λ k. q k);
    index = λ s t e i q r. by_form _ _ _ _ (layer_index SiteFold (List Site) (List Site) (eform_sites bounds) (λ e. e.form e.ty e.span) (λ x. x.value) s t e i) (layer_index Typed PExpr PField (eform_renamed number) (expr_again number) (field_again number) s t e i) (layer_index Bool Bool Bool eform_filled (λ x. x.form) (λ x. x.value) s t (ren e) (ren i)) (λ k. two e i q r k);
    slice = λ s t e i n q r. by_form _ _ _ _ (layer_slice SiteFold (List Site) (List Site) (eform_sites bounds) (λ e. e.form e.ty e.span) (λ x. x.value) s t e i n) (layer_slice Typed PExpr PField (eform_renamed number) (expr_again number) (field_again number) s t e i n) (layer_slice Bool Bool Bool eform_filled (λ x. x.form) (λ x. x.value) s t (ren e) (ren i) n) (λ k. two e i q r k);
    unary = λ s t o e q. by_form _ _ _ _ (layer_unary SiteFold (List Site) (List Site) (eform_sites bounds) (λ e. e.form e.ty e.span) (λ x. x.value) s t o e) (layer_unary Typed PExpr PField (eform_renamed number) (expr_again number) (field_again number) s t o e) (layer_unary Bool Bool Bool eform_filled (λ x. x.form) (λ x. x.value) s t o (ren e)) (λ k. q k);
    binary = λ s t o a b q r. by_form _ _ _ _ (layer_binary SiteFold (List Site) (List Site) (eform_sites bounds) (λ e. e.form e.ty e.span) (λ x. x.value) s t o a b) (layer_binary Typed PExpr PField (eform_renamed number) (expr_again number) (field_again number) s t o a b) (layer_binary Bool Bool Bool eform_filled (λ x. x.form) (λ x. x.value) s t o (ren a) (ren b)) (λ k. two a b q r k);
    cond = λ s t c a b q r u. by_form _ _ _ _ (layer_cond SiteFold (List Site) (List Site) (eform_sites bounds) (λ e. e.form e.ty e.span) (λ x. x.value) s t c a b) (layer_cond Typed PExpr PField (eform_renamed number) (expr_again number) (field_again number) s t c a b) (layer_cond Bool Bool Bool eform_filled (λ x. x.form) (λ x. x.value) s t (ren c) (ren a) (ren b)) (λ k. (let n = none_of (sites c) (sites a ++ sites b) k in let one = q n.0 in let more = two a b r u n.1 in λ i. one i && more i));
    to_int = λ s t e q. by_form _ _ _ _ (layer_to_int SiteFold (List Site) (List Site) (eform_sites bounds) (λ e. e.form e.ty e.span) (λ x. x.value) s t e) (layer_to_int Typed PExpr PField (eform_renamed number) (expr_again number) (field_again number) s t e) (layer_to_int Bool Bool Bool eform_filled (λ x. x.form) (λ x. x.value) s t (ren e)) (λ k. q k);
    pad = λ s t e q. by_form _ _ _ _ (layer_pad SiteFold (List Site) (List Site) (eform_sites bounds) (λ e. e.form e.ty e.span) (λ x. x.value) s t e) (layer_pad Typed PExpr PField (eform_renamed number) (expr_again number) (field_again number) s t e) (layer_pad Bool Bool Bool eform_filled (λ x. x.form) (λ x. x.value) s t (ren e)) (λ k. q k);
    hole = hole_full;
  }

  pub expr_full : (e : PExpr) → Q e
  expr_full = expr_ind Q R cases
