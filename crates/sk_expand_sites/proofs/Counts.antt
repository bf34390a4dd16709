-- A part has as many sites as are listed, under every walk; and no expression pays.
use Rattle.std.proofs.Common.{◌≡◌, ℕ, zero, suc, ◌+◌, List, [], ◌∷◌, ◌++◌, map, length, length-append, replicate, Option, Some, None, refl, sym, ap, subst, ◌∙◌}
use Rattle.sk_base.specs.declared.span.Span.{Span}
use Rattle.sk_base.specs.declared.bounds.Bounds.{Bounds}
use Rattle.sk_prog.specs.declared.ty.Ty.{Ty}
use Rattle.sk_prog.specs.declared.ty.Ty.TheVariants as ty
use Rattle.sk_prog.specs.declared.ty.Elem.TheVariants as elem
use Rattle.sk_prog.specs.declared.expr.PExpr.{PExpr}
use Rattle.sk_prog.specs.declared.expr.PField.{PField}
use Rattle.sk_prog.specs.declared.expr.PEForm.{PEForm}
use Rattle.sk_prog.specs.declared.expr.PEForm.TheVariants as eform
use Rattle.sk_prog.specs.declared.expr.PEForm.TheOpen as P
use Rattle.sk_prog.specs.declared.expr.PEForm.TheViews as V
use Rattle.sk_prog.specs.declared.expr.PEForm.TheFolds.{map-PEForm, fold-PEForm, fold-PField}
use Rattle.sk_model.specs.declared.expanded.Site.{Site}
use Rattle.sk_model.specs.Parts.{Part, counts, joined, value}
use Rattle.sk_model.specs.Sites.{site, Open, hole_sites, eform_sites, expr_sites}
use Rattle.sk_model.specs.Stands.{Standing, own, absent, beside, in_row, first_of, only, hole_count, by_value, eform_standing, expr_standing}
use Rattle.sk_model.specs.Fill.{Opened, hole_part, eform_part, expr_step, field_step, expr_part}
use Rattle.sk_model.proofs.Layers.{layer_field, expr_layer}
use Rattle.sk_model.proofs.Induction.{Each, ExprCases, expr_ind}

-- so many sites in a filling, in what stands, and in the list
pub record Known (n : ℕ) (s : Part Standing) (listed : List Site) : Type 0 where
  pub filled : n ≡ length listed
  pub stands : s.count ≡ length listed
  pub paid : (i : ℕ) → (s.at i).paid ≡ []

known_by : {n n' : ℕ} {s s' : Part Standing} {l l' : List Site} → n ≡ n' → s ≡ s' → l ≡ l' → Known n' s' l' → Known n s l
known_by {n = n} {n' = n'} {s = s} {s' = s'} {l = l} {l' = l'} p q r h =
    subst (λ (z : ℕ). Known z s l) (sym p)
    (subst (λ (z : Part Standing). Known n' z l) (sym q)
    (subst (λ (z : List Site). Known n' s' z) (sym r) h))

none_known : Known 0 (own 0) []
none_known = record { filled = refl; stands = refl; paid = λ i. refl }

both_known : (n : ℕ) (s : Part Standing) (l : List Site) (m : ℕ) (t : Part Standing) (k : List Site) → Known n s l → Known m t k → Known (n + m) (beside s t) (l ++ k)
both_known n s l m t k g h = record {
  filled = (λ j. g.filled j + h.filled j) ∙ sym (length-append l k);
  stands = (λ j. g.stands j + h.stands j) ∙ sym (length-append l k);
  paid = λ i j. g.paid i j ++ h.paid (i + s.count) j;
}

module _ {E X : Type 0} (f : E → Part X) (s : E → Part Standing) (l : E → List Site) where
  abbrev One : E → Type 0
  One e = Known (f e).count (s e) (l e)

  row_known : (es : List E) → Each One es → Known (counts (map f es)) (in_row (map s es)) (joined (map l es))
  row_known [] h = none_known
  row_known (e ∷ es) h = both_known (f e).count (s e) (l e) (counts (map f es)) (in_row (map s es)) (joined (map l es)) h.0 (row_known es h.1)

  gone_known : (es : List E) → Each One es → Known (counts (map f es)) (in_row (first_of 0 (map s es))) (joined (map l es))
  gone_known [] h = none_known
  gone_known (e ∷ es) h = both_known (f e).count (absent (s e)) (l e) (counts (map f es)) (in_row (first_of 0 (map s es))) (joined (map l es)) (record { filled = h.0.filled; stands = h.0.stands; paid = λ i. refl }) (gone_known es h.1)

  only_known : (v : ℕ) (es : List E) → Each One es → Known (counts (map f es)) (in_row (only v (map s es))) (joined (map l es))
  only_known v [] h = none_known
  only_known zero (e ∷ es) h = both_known (f e).count (s e) (l e) (counts (map f es)) (in_row (first_of 0 (map s es))) (joined (map l es)) h.0 (gone_known es h.1)
  only_known (suc v) (e ∷ es) h = both_known (f e).count (absent (s e)) (l e) (counts (map f es)) (in_row (only v (map s es))) (joined (map l es)) (record { filled = h.0.filled; stands = h.0.stands; paid = λ i. refl }) (only_known v es h.1)

  chosen_known : (values : List ℕ) (one : Site) (es : List E) → Each One es → Known (suc (counts (map f es))) (by_value values only (map s es)) (one ∷ joined (map l es))
  chosen_known values one es h =
      let all = row_known es h in
      record {
        filled = ap suc all.filled;
        stands = ap suc (stood es h);
        paid = λ i. (only_known (value values i) es h).paid (i + 1);
      }
    where
      stood : (es : List E) → Each One es → counts (map s es) ≡ length (joined (map l es))
      stood [] h = refl
      stood (e ∷ es) h = (λ j. h.0.stands j + stood es h.1 j) ∙ sym (length-append (l e) (joined (map l es)))

length-sites : (n : ℕ) (s : Site) → length (replicate n s) ≡ n
length-sites zero s = refl
length-sites (suc n) s = ap suc (length-sites n s)

module _ (bounds : Bounds) (values : List ℕ) (number : ℕ → ℕ) where
  abbrev field_sites : PField → List Site
  field_sites = fold-PField (Open bounds) (List Site) (List Site) (eform_sites bounds) (λ e. e.form e.ty e.span) (λ x. x.value)

  abbrev field_standing : PField → Part Standing
  field_standing = fold-PField (Option Ty → Part Standing) (Part Standing) (Part Standing) (eform_standing values) (λ e. e.form e.ty) (λ x. x.value)

  abbrev field_part : PField → Part PField
  field_part = fold-PField (Opened values number) (Part PExpr) (Part PField) (eform_part values number) (expr_step values number) (field_step values number)

  abbrev form_sites_of : PEForm → Open bounds
  form_sites_of = fold-PEForm (Open bounds) (List Site) (List Site) (eform_sites bounds) (λ e. e.form e.ty e.span) (λ x. x.value)

  abbrev form_standing_of : PEForm → Option Ty → Part Standing
  form_standing_of = fold-PEForm (Option Ty → Part Standing) (Part Standing) (Part Standing) (eform_standing values) (λ e. e.form e.ty) (λ x. x.value)

  abbrev form_part_of : PEForm → Opened values number
  form_part_of = fold-PEForm (Opened values number) (Part PExpr) (Part PField) (eform_part values number) (expr_step values number) (field_step values number)

  abbrev KnownExpr : PExpr → Type 0
  KnownExpr e = Known (expr_part values number e).count (expr_standing values e) (expr_sites bounds e)

  abbrev KnownField : PField → Type 0
  KnownField x = Known (field_part x).count (field_standing x) (field_sites x)

  hole_known : (width : Option ℕ) (s : Span) (t : Option Ty) → Known (hole_part values number t s).count (own (hole_count t)) (hole_sites bounds width t s)
  hole_known width s None = record { filled = refl; stands = refl; paid = λ i. refl }
  hole_known width s (Some (ty.One elem.Bit)) = record { filled = refl; stands = refl; paid = λ i. refl }
  hole_known width s (Some (ty.One elem.Int)) = record { filled = refl; stands = refl; paid = λ i. refl }
  hole_known width s (Some (ty.One (elem.Reference d))) = record { filled = refl; stands = refl; paid = λ i. refl }
  hole_known width s (Some (ty.Array elem.Bit n)) = record { filled = sym (length-sites n (site 2 s)); stands = sym (length-sites n (site 2 s)); paid = λ i. refl }
  hole_known width s (Some (ty.Array elem.Int n)) = record { filled = refl; stands = refl; paid = λ i. refl }
  hole_known width s (Some (ty.Array (elem.Reference d) n)) = record { filled = refl; stands = refl; paid = λ i. refl }
  hole_known width s (Some (ty.Grid e n m)) = record { filled = refl; stands = refl; paid = λ i. refl }

  by_form : (x : P.PEForm-F PEForm PExpr PField) (f : PEForm) → V.roll-PEForm x ≡ f → (s : Span) (t : Option Ty)
      → Known (eform_part values number (map-PEForm PEForm PExpr PField (Opened values number) (Part PExpr) (Part PField) form_part_of (expr_part values number) field_part x) t s).count (eform_standing values (map-PEForm PEForm PExpr PField (Option Ty → Part Standing) (Part Standing) (Part Standing) form_standing_of (expr_standing values) field_standing x) t) (eform_sites bounds (map-PEForm PEForm PExpr PField (Open bounds) (List Site) (List Site) form_sites_of (expr_sites bounds) field_sites x) t s)
      → KnownExpr (record { span = s; ty = t; form = f })
  by_form x f is s t h = known_by
      (ap (λ p. p.count) (expr_layer (Opened values number) (Part PExpr) (Part PField) (eform_part values number) (expr_step values number) (field_step values number) x f is s t))
      (expr_layer (Option Ty → Part Standing) (Part Standing) (Part Standing) (eform_standing values) (λ e. e.form e.ty) (λ x. x.value) x f is s t)
      (expr_layer (Open bounds) (List Site) (List Site) (eform_sites bounds) (λ e. e.form e.ty e.span) (λ x. x.value) x f is s t)
      h

  two : (a b : PExpr) → KnownExpr a → KnownExpr b → Known ((expr_part values number a).count + (expr_part values number b).count) (beside (expr_standing values a) (expr_standing values b)) (expr_sites bounds a ++ expr_sites bounds b)
  two a b h k = both_known (expr_part values number a).count (expr_standing values a) (expr_sites bounds a) (expr_part values number b).count (expr_standing values b) (expr_sites bounds b) h k

  expr_cases : ExprCases KnownExpr KnownField
  expr_cases = record {
    field = λ k e h. known_by (ap (λ p. p.count) (layer_field (Opened values number) (Part PExpr) (Part PField) (eform_part values number) (expr_step values number) (field_step values number) k e)) (layer_field (Option Ty → Part Standing) (Part Standing) (Part Standing) (eform_standing values) (λ e. e.form e.ty) (λ x. x.value) k e) (layer_field (Open bounds) (List Site) (List Site) (eform_sites bounds) (λ e. e.form e.ty e.span) (λ x. x.value) k e) h;
    number = λ s t n. by_form (P.Number n) (eform.Number n) (V.rolls-Number n) s t none_known;
    truth = λ s t. by_form P.True eform.True V.rolls-True s t none_known;
    falsity = λ s t. by_form P.False eform.False V.rolls-False s t none_known;
    null = λ s t. by_form P.Null eform.Null V.rolls-Null s t none_known;
    var = λ s t slot x. by_form (P.Var slot x) (eform.Var slot x) (V.rolls-Var slot x) s t none_known;
    const = λ s t k. by_form (P.Const k) (eform.Const k) (V.rolls-Const k) s t none_known;
    hole = λ s t bits. by_form (P.Hole bits) (eform.Hole bits) (V.rolls-Hole bits) s t (hole_known bits s t);
    pattern = λ s t es h. by_form (P.Pattern es) (eform.Pattern es) (V.rolls-Pattern es) s t (chosen_known (expr_part values number) (expr_standing values) (expr_sites bounds) values (site (length (map (expr_sites bounds) es)) s) es h);
    paren = λ s t e h. by_form (P.Paren e) (eform.Paren e) (V.rolls-Paren e) s t h;
    call = λ s t f es h. by_form (P.Call f es) (eform.Call f es) (V.rolls-Call f es) s t (let row = row_known (expr_part values number) (expr_standing values) (expr_sites bounds) es h in record { filled = row.filled; stands = row.stands; paid = row.paid });
    new = λ s t d fs h. by_form (P.New d fs) (eform.New d fs) (V.rolls-New d fs) s t (row_known field_part field_standing field_sites fs h);
    braces = λ s t es h. by_form (P.Braces es) (eform.Braces es) (V.rolls-Braces es) s t (row_known (expr_part values number) (expr_standing values) (expr_sites bounds) es h);
    member = λ s t e d k h. by_form (P.Member e d k) (eform.Member e d k) (V.rolls-Member e d k) s t h;
    index = λ s t e i h k. by_form (P.Index e i) (eform.Index e i) (V.rolls-Index e i) s t (two e i h k);
    slice = λ s t e i n h k. by_form (P.Slice e i n) (eform.Slice e i n) (V.rolls-Slice e i n) s t (two e i h k);
    unary = λ s t o e h. by_form (P.Unary o e) (eform.Unary o e) (V.rolls-Unary o e) s t h;
    binary = λ s t o a b h k. by_form (P.Binary o a b) (eform.Binary o a b) (V.rolls-Binary o a b) s t (two a b h k);
    cond = λ s t c a b h k l. by_form (P.Cond c a b) (eform.Cond c a b) (V.rolls-Cond c a b) s t (both_known (expr_part values number c).count (expr_standing values c) (expr_sites bounds c) ((expr_part values number a).count + (expr_part values number b).count) (beside (expr_standing values a) (expr_standing values b)) (expr_sites bounds a ++ expr_sites bounds b) h (two a b k l));
    to_int = λ s t e h. by_form (P.ToInt e) (eform.ToInt e) (V.rolls-ToInt e) s t h;
    pad = λ s t e h. by_form (P.Pad e) (eform.Pad e) (V.rolls-Pad e) s t h;
  }

  pub expr_known : (e : PExpr) → KnownExpr e
  expr_known = expr_ind KnownExpr KnownField expr_cases
