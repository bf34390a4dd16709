-- A statement has as many sites as are listed, under every walk, and so have bodies and functions.
use Rattle.std.proofs.Common.{◌≡◌, ℕ, zero, suc, ◌+◌, ◌-◌, Bool, true, false, List, [], ◌∷◌, ◌++◌, map, length, length-append, Option, Some, None, refl, sym, ap, ◌∙◌}
use Rattle.std.specs.Prelude.{if◌then◌else◌}
use Rattle.std.proofs.lemmas.List.{length-map}
use Rattle.sk_base.specs.declared.span.Span.{Span}
use Rattle.sk_base.specs.declared.bounds.Bounds.{Bounds}
use Rattle.sk_prog.specs.declared.expr.PExpr.{PExpr}
use Rattle.sk_prog.specs.declared.stmt.PStmt.{PStmt}
use Rattle.sk_prog.specs.declared.stmt.PForm.{PForm}
use Rattle.sk_prog.specs.declared.stmt.PForm.TheVariants as form
use Rattle.sk_prog.specs.declared.stmt.PForm.TheOpen as S
use Rattle.sk_prog.specs.declared.stmt.PForm.TheViews as W
use Rattle.sk_prog.specs.declared.stmt.PForm.TheFolds.{map-PForm, fold-PForm}
use Rattle.sk_model.specs.declared.expanded.Site.{Site}
use Rattle.sk_model.specs.Parts.{Part, counts, joined}
use Rattle.sk_model.specs.Sites.{site, places, is_hole, expr_sites, value_sites, form_sites, stmt_sites, stmts_sites}
use Rattle.sk_model.specs.Stands.{Standing, in_row, first_of, by_value, expr_standing, value_standing, form_standing, stmt_standing, body_standing}
use Rattle.sk_model.specs.Fill.{expr_part, value_part, some_copies, all_copies, form_part, stmt_step, stmt_part, stmts_count}
use Rattle.sk_model.proofs.Layers.{stmt_layer}
use Rattle.sk_model.proofs.Induction.{Each, StmtCases, stmt_ind}
use Rattle.sk_expand_sites.proofs.Counts.{expr_known}

pub record Sited (n : ℕ) (m : ℕ) (listed : List Site) : Type 0 where
  pub filled : n ≡ length listed
  pub stands : m ≡ length listed

sited_by : {n n' m m' : ℕ} {l l' : List Site} → n ≡ n' → m ≡ m' → l ≡ l' → Sited n' m' l' → Sited n m l
sited_by p q r h = record { filled = p ∙ h.filled ∙ ap length (sym r); stands = q ∙ h.stands ∙ ap length (sym r) }

none_sited : Sited 0 0 []
none_sited = record { filled = refl; stands = refl }

both_sited : (n m : ℕ) (l : List Site) (n' m' : ℕ) (l' : List Site) → Sited n m l → Sited n' m' l' → Sited (n + n') (m + m') (l ++ l')
both_sited n m l n' m' l' g h = record {
  filled = (λ j. g.filled j + h.filled j) ∙ sym (length-append l l');
  stands = (λ j. g.stands j + h.stands j) ∙ sym (length-append l l');
}

one_more : (n m : ℕ) (s : Site) (l : List Site) → Sited n m l → Sited (suc n) (suc m) (s ∷ l)
one_more n m s l h = record { filled = ap suc h.filled; stands = ap suc h.stands }

places_length : (size n : ℕ) (span : Span) → length (places size n span) ≡ n
places_length size zero span = refl
places_length size (suc n) span = ap suc (places_length (size + 1) n span)

module _ (bounds : Bounds) (values : List ℕ) (number : ℕ → ℕ) where
  abbrev SitedStmt : PStmt → Type 0
  SitedStmt s = Sited (stmt_part values number s).count (stmt_standing values s).count (stmt_sites bounds s)

  abbrev SitedExpr : PExpr → Type 0
  SitedExpr e = Sited (expr_part values number e).count (expr_standing values e).count (expr_sites bounds e)

  expr_sited : (e : PExpr) → SitedExpr e
  expr_sited e = let h = expr_known bounds values number e in record { filled = h.filled; stands = h.stands }

  value_sited : (e : Option PExpr) → Sited (value_part values number e).count (value_standing values e).count (value_sites bounds e)
  value_sited None = none_sited
  value_sited (Some e) = expr_sited e

  abbrev RowSited : List PStmt → Type 0
  RowSited ss = Sited (counts (map (stmt_part values number) ss)) (in_row (map (stmt_standing values) ss)).count (joined (map (stmt_sites bounds) ss))

  row_sited : (ss : List PStmt) → Each SitedStmt ss → RowSited ss
  row_sited [] h = none_sited
  row_sited (s ∷ ss) h = both_sited (stmt_part values number s).count (stmt_standing values s).count (stmt_sites bounds s) (counts (map (stmt_part values number) ss)) (in_row (map (stmt_standing values) ss)).count (joined (map (stmt_sites bounds) ss)) h.0 (row_sited ss h.1)

  abbrev AllSited : List PStmt → Type 0
  AllSited ss = Sited (counts (map (stmt_part values number) ss)) (counts (map (stmt_standing values) ss)) (joined (map (stmt_sites bounds) ss))

  row_counts : (ps : List (Part Standing)) → (in_row ps).count ≡ counts ps
  row_counts [] = refl
  row_counts (p ∷ ps) = ap (λ n. p.count + n) (row_counts ps)

  all_sited : (ss : List PStmt) → Each SitedStmt ss → AllSited ss
  all_sited ss h = let row = row_sited ss h in record { filled = row.filled; stands = sym (row_counts (map (stmt_standing values) ss)) ∙ row.stands }

  abbrev form_part_of : PForm → Part PForm
  form_part_of = fold-PForm (Part PForm) (Part PStmt) (form_part values number) (stmt_step values number)

  abbrev form_standing_of : PForm → Span → Part Standing
  form_standing_of = fold-PForm (Span → Part Standing) (Part Standing) (form_standing values) (λ s. s.form s.span)

  abbrev form_sites_of : PForm → Span → List Site
  form_sites_of = fold-PForm (Span → List Site) (List Site) (form_sites bounds) (λ s. s.form s.span)

  by_form : (x : S.PForm-F PForm PStmt) (f : PForm) → W.roll-PForm x ≡ f → (s : Span)
      → Sited (form_part values number (map-PForm PForm PStmt (Part PForm) (Part PStmt) form_part_of (stmt_part values number) x)).count (form_standing values (map-PForm PForm PStmt (Span → Part Standing) (Part Standing) form_standing_of (stmt_standing values) x) s).count (form_sites bounds (map-PForm PForm PStmt (Span → List Site) (List Site) form_sites_of (stmt_sites bounds) x) s)
      → SitedStmt (record { span = s; form = f })
  by_form x f is s h = sited_by
      (ap (λ p. p.count) (stmt_layer (Part PForm) (Part PStmt) (form_part values number) (stmt_step values number) x f is s))
      (ap (λ p. p.count) (stmt_layer (Span → Part Standing) (Part Standing) (form_standing values) (λ s. s.form s.span) x f is s))
      (stmt_layer (Span → List Site) (List Site) (form_sites bounds) (λ s. s.form s.span) x f is s)
      h

  with_expr : (e : PExpr) (n m : ℕ) (l : List Site) → Sited n m l → Sited ((expr_part values number e).count + n) ((expr_standing values e).count + m) (expr_sites bounds e ++ l)
  with_expr e n m l h = both_sited (expr_part values number e).count (expr_standing values e).count (expr_sites bounds e) n m l (expr_sited e) h

  repeat_sited : (b : Bool) (s : Span) (ss : List PStmt) → Each SitedStmt ss → Sited (if b then some_copies values number (map (stmt_part values number) ss) else all_copies values number (map (stmt_part values number) ss)).count (if b then by_value values first_of (map (stmt_standing values) ss) else in_row (map (stmt_standing values) ss)).count ((if b then site (length (map (stmt_sites bounds) ss) + 1) s ∷ [] else []) ++ joined (map (stmt_sites bounds) ss))
  repeat_sited true s ss h = one_more (counts (map (stmt_part values number) ss)) (counts (map (stmt_standing values) ss)) (site (length (map (stmt_sites bounds) ss) + 1) s) (joined (map (stmt_sites bounds) ss)) (all_sited ss h)
  repeat_sited false s ss h = row_sited ss h

  order_sited : (s : Span) (ss : List PStmt) → Sited (length (map (stmt_part values number) ss) - 1) (length (map (stmt_standing values) ss) - 1) (places 2 (length (map (stmt_sites bounds) ss) - 1) s)
  order_sited s ss =
      let same : length (places 2 (length (map (stmt_sites bounds) ss) - 1) s) ≡ length ss - 1 = places_length 2 (length (map (stmt_sites bounds) ss) - 1) s ∙ ap (λ n. n - 1) (length-map ss (stmt_sites bounds)) in
      record {
        filled = ap (λ n. n - 1) (length-map ss (stmt_part values number)) ∙ sym same;
        stands = ap (λ n. n - 1) (length-map ss (stmt_standing values)) ∙ sym same;
      }

  stmt_cases : StmtCases SitedStmt
  stmt_cases = record {
    block = λ s ss h. by_form (S.Block ss) (form.Block ss) (W.rolls-Block ss) s (row_sited ss h);
    declare = λ s slot x t e. by_form (S.Declare slot x t e) (form.Declare slot x t e) (W.rolls-Declare slot x t e) s (value_sited e);
    assign = λ s p e. by_form (S.Assign p e) (form.Assign p e) (W.rolls-Assign p e) s (with_expr p (expr_part values number e).count (expr_standing values e).count (expr_sites bounds e) (expr_sited e));
    calls = λ s e. by_form (S.Call e) (form.Call e) (W.rolls-Call e) s (expr_sited e);
    if_only = λ s c a h. by_form (S.If c a None) (form.If c a None) (W.rolls-If c a None) s (with_expr c ((stmt_part values number a).count + 0) ((stmt_standing values a).count + 0) (stmt_sites bounds a ++ []) (both_sited (stmt_part values number a).count (stmt_standing values a).count (stmt_sites bounds a) 0 0 [] h none_sited));
    if_else = λ s c a b h k. by_form (S.If c a (Some b)) (form.If c a (Some b)) (W.rolls-If c a (Some b)) s (with_expr c ((stmt_part values number a).count + (stmt_part values number b).count) ((stmt_standing values a).count + (stmt_standing values b).count) (stmt_sites bounds a ++ stmt_sites bounds b) (both_sited (stmt_part values number a).count (stmt_standing values a).count (stmt_sites bounds a) (stmt_part values number b).count (stmt_standing values b).count (stmt_sites bounds b) h k));
    loop = λ s c a h. by_form (S.While c a) (form.While c a) (W.rolls-While c a) s (with_expr c (stmt_part values number a).count (stmt_standing values a).count (stmt_sites bounds a) h);
    returns = λ s e. by_form (S.Return e) (form.Return e) (W.rolls-Return e) s (value_sited e);
    asserts = λ s e. by_form (S.Assert e) (form.Assert e) (W.rolls-Assert e) s (expr_sited e);
    assumes = λ s e. by_form (S.Assume e) (form.Assume e) (W.rolls-Assume e) s (expr_sited e);
    minimizes = λ s e. by_form (S.Minimize e) (form.Minimize e) (W.rolls-Minimize e) s (expr_sited e);
    repeats = λ s c ss h. by_form (S.Repeat c ss) (form.Repeat c ss) (W.rolls-Repeat c ss) s (repeat_sited (is_hole c.form) s ss h);
    minrepeat = λ s ss h. by_form (S.MinRepeat ss) (form.MinRepeat ss) (W.rolls-MinRepeat ss) s (one_more (counts (map (stmt_part values number) ss)) (counts (map (stmt_standing values) ss)) (site (length (map (stmt_sites bounds) ss) + 1) s) (joined (map (stmt_sites bounds) ss)) (all_sited ss h));
    reorder = λ s ss h. by_form (S.Reorder ss) (form.Reorder ss) (W.rolls-Reorder ss) s (both_sited (length (map (stmt_part values number) ss) - 1) (length (map (stmt_standing values) ss) - 1) (places 2 (length (map (stmt_sites bounds) ss) - 1) s) (counts (map (stmt_part values number) ss)) (in_row (map (stmt_standing values) ss)).count (joined (map (stmt_sites bounds) ss)) (order_sited s ss) (row_sited ss h));
  }

  stmt_sited : (s : PStmt) → SitedStmt s
  stmt_sited = stmt_ind SitedStmt stmt_cases

  pub body_sited : (ss : List PStmt) → Sited (stmts_count values number ss) (body_standing values ss).count (stmts_sites bounds ss)
  body_sited [] = none_sited
  body_sited (s ∷ ss) = both_sited (stmt_part values number s).count (stmt_standing values s).count (stmt_sites bounds s) (stmts_count values number ss) (body_standing values ss).count (stmts_sites bounds ss) (stmt_sited s) (body_sited ss)
