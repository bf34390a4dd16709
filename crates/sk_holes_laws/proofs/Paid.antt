-- What the minrepeats of a statement pay is a number in range, where the values of its sites are.
use Rattle.std.proofs.Common.{◌≡◌, ◌<◌, ℕ, zero, suc, ◌+◌, ◌-◌, ◌^◌, Bool, true, false, List, [], ◌∷◌, ◌++◌, map, length, Option, Some, None, refl, sym, ap, subst, ◌∙◌, arith}
use Rattle.std.specs.Prelude.{if◌then◌else◌}
use Rattle.std.proofs.lemmas.Bool.{lt-ltb, ltb-true}
use Rattle.std.proofs.lemmas.List.{length-map}
use Rattle.sk_base.specs.declared.span.Span.{Span}
use Rattle.sk_prog.specs.declared.ty.Ty.{Ty}
use Rattle.sk_prog.specs.declared.expr.PExpr.{PExpr}
use Rattle.sk_prog.specs.declared.expr.PField.{PField}
use Rattle.sk_prog.specs.declared.expr.PEForm.{PEForm}
use Rattle.sk_prog.specs.declared.expr.PEForm.TheOpen as P
use Rattle.sk_prog.specs.declared.expr.PEForm.TheFolds.{map-PEForm, fold-PEForm, fold-PField, fold-roll-PEForm, fold-roll-PExpr, fold-roll-PField}
use Rattle.sk_prog.specs.declared.stmt.PStmt.{PStmt}
use Rattle.sk_prog.specs.declared.stmt.PForm.{PForm}
use Rattle.sk_prog.specs.declared.stmt.PForm.TheVariants as pform
use Rattle.sk_prog.specs.declared.stmt.PForm.TheOpen as S
use Rattle.sk_prog.specs.declared.stmt.PForm.TheViews as W
use Rattle.sk_prog.specs.declared.stmt.PForm.TheFolds.{map-PForm, fold-PForm}
use Rattle.sk_types_rules.specs.declared.scope.Variable.{Variable}
use Rattle.sk_types_rules.specs.Rules.{in_range}
use Rattle.sk_types_rules.specs.Types.{after}
use Rattle.sk_types_laws.proofs.Ats.{pexpr_law}
use Rattle.sk_model.specs.declared.expanded.Site.{Site}
use Rattle.sk_model.specs.Parts.{Part, value, joined}
use Rattle.sk_model.specs.Sites.{site, places, is_hole, expr_sites, form_sites, stmt_sites}
use Rattle.sk_model.specs.Stands.{Payment, Standing, own, beside, in_row, first_of, only, by_value, eform_standing, expr_standing, value_standing, form_standing, stmt_standing}
use Rattle.sk_model.proofs.Layers.{stmt_layer}
use Rattle.sk_model.proofs.Induction.{StmtCases, stmt_ind}
use Rattle.sk_holes_laws.specs.Keeping.{Keeping, InBlock, EachKeeps, StmtKeeps}
use Rattle.sk_holes_laws.specs.Sizes.{AnySized}
use Rattle.sk_holes_laws.specs.Holes.{Below}
use Rattle.sk_holes_laws.specs.Filling.{Every}
use Rattle.sk_holes_laws.specs.Fillings.{Filling, IsSet}
use Rattle.sk_holes_laws.proofs.Rows.{below_append, every_join, length-places}
use Rattle.sk_holes_laws.proofs.Exprs.{every_of}
use Rattle.sk_holes_laws.proofs.Kept.{ActKeeps, act_keeps, act_keeps_are, stmt_keeps_is}
use Rattle.sk_holes_laws.proofs.Declared.{SLayer}
use Rattle.sk_holes_laws.proofs.Stmts.{one, expr_counted, stmt_fills}

-- Expressions pay nothing.

abbrev Free : Part Standing → Type 0
Free p = (i : ℕ) → (p.at i).paid ≡ []

both_free : (p q : Part Standing) → Free p → Free q → Free (beside p q)
both_free p q h k i = λ j. h i j ++ k (i + p.count) j

row_free : (ps : List (Part Standing)) → Every Free ps → Free (in_row ps)
row_free [] h i = refl
row_free (p ∷ ps) h i = both_free p (in_row ps) h.0 (row_free ps h.1) i

first_free : (v : ℕ) (ps : List (Part Standing)) → Every Free ps → Every Free (first_of v ps)
first_free v [] h = tt
first_free zero (p ∷ ps) h = ((λ i. refl), first_free zero ps h.1)
first_free (suc v) (p ∷ ps) h = (h.0, first_free v ps h.1)

only_free : (v : ℕ) (ps : List (Part Standing)) → Every Free ps → Every Free (only v ps)
only_free v [] h = tt
only_free zero (p ∷ ps) h = (h.0, first_free zero ps h.1)
only_free (suc v) (p ∷ ps) h = ((λ i. refl), only_free v ps h.1)

free_rows : {A : Type 0} (g : A → Part Standing) (qs : List ((x : A) × Free (g x))) → Every Free (map g (map (λ q. q.0) qs))
free_rows g [] = tt
free_rows g (q ∷ qs) = (q.1, free_rows g qs)

module _ (values : List ℕ) where
  abbrev act_standing : PEForm → Option Ty → Part Standing
  act_standing = fold-PEForm (Option Ty → Part Standing) (Part Standing) (Part Standing) (eform_standing values) (λ e. e.form e.ty) (λ x. x.value)

  abbrev field_standing : PField → Part Standing
  field_standing = fold-PField (Option Ty → Part Standing) (Part Standing) (Part Standing) (eform_standing values) (λ e. e.form e.ty) (λ x. x.value)

  abbrev Above : Type 0
  Above = P.PEForm-F ((g : PEForm) × ((t : Option Ty) → Free (act_standing g t))) ((p : PExpr) × Free (expr_standing values p)) ((x : PField) × Free (field_standing x))

  abbrev below : Above → P.PEForm-F PEForm PExpr PField
  below y = map-PEForm ((g : PEForm) × ((t : Option Ty) → Free (act_standing g t))) ((p : PExpr) × Free (expr_standing values p)) ((x : PField) × Free (field_standing x)) PEForm PExpr PField (λ q. q.0) (λ q. q.0) (λ q. q.0) y

  free_layer : (y : Above) (t : Option Ty) → Free (eform_standing values (map-PEForm PEForm PExpr PField (Option Ty → Part Standing) (Part Standing) (Part Standing) act_standing (expr_standing values) field_standing (below y)) t)
  free_layer (P.Number n) t i = refl
  free_layer P.True t i = refl
  free_layer P.False t i = refl
  free_layer P.Null t i = refl
  free_layer (P.Var slot x) t i = refl
  free_layer (P.Const c) t i = refl
  free_layer (P.Hole w) t i = refl
  free_layer (P.Pattern qs) t i = row_free (only (value values i) (map (expr_standing values) (map (λ q. q.0) qs))) (only_free (value values i) (map (expr_standing values) (map (λ q. q.0) qs)) (free_rows (expr_standing values) qs)) (i + 1)
  free_layer (P.Paren q) t i = q.1 i
  free_layer (P.Call g qs) t i = row_free (map (expr_standing values) (map (λ q. q.0) qs)) (free_rows (expr_standing values) qs) i
  free_layer (P.New k qs) t i = (row_free (map field_standing (map (λ q. q.0) qs)) (free_rows field_standing qs)) i
  free_layer (P.Braces qs) t i = (row_free (map (expr_standing values) (map (λ q. q.0) qs)) (free_rows (expr_standing values) qs)) i
  free_layer (P.Member q k j) t i = q.1 i
  free_layer (P.Index q j) t i = (both_free (expr_standing values q.0) (expr_standing values j.0) q.1 j.1) i
  free_layer (P.Slice q j m) t i = (both_free (expr_standing values q.0) (expr_standing values j.0) q.1 j.1) i
  free_layer (P.Unary o q) t i = q.1 i
  free_layer (P.Binary o q j) t i = (both_free (expr_standing values q.0) (expr_standing values j.0) q.1 j.1) i
  free_layer (P.Cond c q j) t i = (both_free (expr_standing values c.0) (beside (expr_standing values q.0) (expr_standing values j.0)) c.1 (both_free (expr_standing values q.0) (expr_standing values j.0) q.1 j.1)) i
  free_layer (P.ToInt q) t i = q.1 i
  free_layer (P.Pad q) t i = q.1 i

  pub expr_free : (p : PExpr) → Free (expr_standing values p)
  expr_free = pexpr_law (λ g. (t : Option Ty) → Free (act_standing g t)) (λ p. Free (expr_standing values p)) (λ x. Free (field_standing x))
      (λ y t. subst (λ (z : Option Ty → Part Standing). Free (z t)) (sym (fold-roll-PEForm (Option Ty → Part Standing) (Part Standing) (Part Standing) (eform_standing values) (λ e. e.form e.ty) (λ x. x.value) (below y))) (free_layer y t))
      (λ p h. subst Free (sym (fold-roll-PExpr (Option Ty → Part Standing) (Part Standing) (Part Standing) (eform_standing values) (λ e. e.form e.ty) (λ x. x.value) (record { span = p.span; ty = p.ty; form = p.form }))) (h p.ty))
      (λ x h. subst Free (sym (fold-roll-PField (Option Ty → Part Standing) (Part Standing) (Part Standing) (eform_standing values) (λ e. e.form e.ty) (λ x. x.value) (record { field = x.field; value = x.value }))) h)

  value_free : (v : Option PExpr) → Free (value_standing values v)
  value_free None i = refl
  value_free (Some p) i = expr_free p i

-- What statements pay

abbrev pub PaysInRange : Filling → Payment → Type 0
PaysInRange f p = in_range f.bounds p.amount ≡ true

module _ (f : Filling) (setting : IsSet f) (result : Option Ty) (large : AnySized result) where
  abbrev Pays : Part Standing → ℕ → Type 0
  Pays T i = Every (PaysInRange f) (T.at i).paid

  free_pays : (T : Part Standing) (i : ℕ) → Free T → Pays T i
  free_pays T i h = subst (λ ps. Every (PaysInRange f) ps) (sym (h i)) tt

  both_pay : (T U : Part Standing) (i : ℕ) → Pays T i → ((j : ℕ) → Pays U j) → Pays (beside T U) i
  both_pay T U i h k = every_join (PaysInRange f) (T.at i).paid (U.at (i + T.count)).paid h (k (i + T.count))

  -- what a statement pays where the values of its sites are in range
  abbrev StmtPays : PStmt → Type 0
  StmtPays p = (from : ℕ) (scope : List Variable) → StmtKeeps (one f setting) result p from scope → (i : ℕ) → Below f.values i (stmt_sites f.bounds p) → Pays (stmt_standing f.values p) i

  count_of : (p : PStmt) → length (stmt_sites f.bounds p) ≡ (stmt_standing f.values p).count
  count_of p = let c = (stmt_fills f setting result large p).counted in c.sites ∙ sym c.standing

  split : (p : PStmt) (ss : List Site) (i : ℕ) → Below f.values i (stmt_sites f.bounds p ++ ss) → Below f.values i (stmt_sites f.bounds p) × Below f.values (i + (stmt_standing f.values p).count) ss
  split p ss i b =
      let two = below_append f.values (stmt_sites f.bounds p) ss i b in
      (two.0, subst (λ n. Below f.values (i + n) ss) (count_of p) two.1)

  block_pays : (ps : List PStmt) → Every StmtPays ps → (from : ℕ) (scope : List Variable) → InBlock (λ p. p) (StmtKeeps (one f setting) result) from scope ps → (i : ℕ) → Below f.values i (joined (map (stmt_sites f.bounds) ps)) → Pays (in_row (map (stmt_standing f.values) ps)) i
  block_pays [] h from scope k i b = tt
  block_pays (p ∷ ps) h from scope k i b =
      let two = split p (joined (map (stmt_sites f.bounds) ps)) i b in
      every_join (PaysInRange f) ((stmt_standing f.values p).at i).paid _ (h.0 from scope k.0 i two.0) (block_pays ps h.1 from (after p scope) k.1 (i + (stmt_standing f.values p).count) two.1)

  each_pays : (ps : List PStmt) → Every StmtPays ps → (scope : List Variable) → EachKeeps (StmtKeeps (one f setting) result) scope ps → (i : ℕ) → Below f.values i (joined (map (stmt_sites f.bounds) ps)) → Pays (in_row (map (stmt_standing f.values) ps)) i
  each_pays [] h scope k i b = tt
  each_pays (p ∷ ps) h scope k i b =
      let two = split p (joined (map (stmt_sites f.bounds) ps)) i b in
      every_join (PaysInRange f) ((stmt_standing f.values p).at i).paid _ (h.0 (length scope) scope k.0 i two.0) (each_pays ps h.1 scope k.1 (i + (stmt_standing f.values p).count) two.1)

  first_pays : (v : ℕ) (ps : List PStmt) → Every StmtPays ps → (scope : List Variable) → EachKeeps (StmtKeeps (one f setting) result) scope ps → (i : ℕ) → Below f.values i (joined (map (stmt_sites f.bounds) ps)) → Pays (in_row (first_of v (map (stmt_standing f.values) ps))) i
  first_pays v [] h scope k i b = tt
  first_pays zero (p ∷ ps) h scope k i b =
      let two = split p (joined (map (stmt_sites f.bounds) ps)) i b in
      first_pays zero ps h.1 scope k.1 (i + (stmt_standing f.values p).count) two.1
  first_pays (suc v) (p ∷ ps) h scope k i b =
      let two = split p (joined (map (stmt_sites f.bounds) ps)) i b in
      every_join (PaysInRange f) ((stmt_standing f.values p).at i).paid _ (h.0 (length scope) scope k.0 i two.0) (first_pays v ps h.1 scope k.1 (i + (stmt_standing f.values p).count) two.1)

  abbrev act_sites : PForm → Span → List Site
  act_sites = fold-PForm (Span → List Site) (List Site) (form_sites f.bounds) (λ s. s.form s.span)

  abbrev act_stands : PForm → Span → Part Standing
  act_stands = fold-PForm (Span → Part Standing) (Part Standing) (form_standing f.values) (λ s. s.form s.span)

  abbrev layer_sites : SLayer → Span → List Site
  layer_sites x s = form_sites f.bounds (map-PForm PForm PStmt (Span → List Site) (List Site) act_sites (stmt_sites f.bounds) x) s

  abbrev layer_standing : SLayer → Span → Part Standing
  layer_standing x s = form_standing f.values (map-PForm PForm PStmt (Span → Part Standing) (Part Standing) act_stands (stmt_standing f.values) x) s

  by_form : (x : SLayer) (g : PForm) → W.roll-PForm x ≡ g → (s : Span) → ((from : ℕ) (scope : List Variable) → act_keeps (one f setting) result x from scope → (i : ℕ) → Below f.values i (layer_sites x s) → Pays (layer_standing x s) i) → StmtPays (record { span = s; form = g })
  by_form x g is s h from scope k i b =
      let p : PStmt = record { span = s; form = g } in
      let act = subst (λ (M : Keeping). M from scope) (stmt_keeps_is (one f setting) result p) k in
      let rule = subst (λ (M : Keeping). M from scope) (act_keeps_are (one f setting) result x) (subst (λ g. ActKeeps (one f setting) result g from scope) (sym is) act) in
      subst (λ (T : Part Standing). Pays T i) (sym (stmt_layer (Span → Part Standing) (Part Standing) (form_standing f.values) (λ s. s.form s.span) x g is s))
      (h from scope rule i (subst (λ (S : List Site). Below f.values i S) (stmt_layer (Span → List Site) (List Site) (form_sites f.bounds) (λ s. s.form s.span) x g is s) b))

  expr_pays : (p : PExpr) (i : ℕ) → Pays (expr_standing f.values p) i
  expr_pays p i = free_pays (expr_standing f.values p) i (expr_free f.values p)

  -- behind an expression
  behind : (c : PExpr) (S : List Site) (T : Part Standing) (i : ℕ) → ((j : ℕ) → Below f.values j S → Pays T j) → Below f.values i (expr_sites f.bounds c ++ S) → Pays (beside (expr_standing f.values c) T) i
  behind c S T i h b =
      let two = below_append f.values (expr_sites f.bounds c) S i b in
      let n : length (expr_sites f.bounds c) ≡ (expr_standing f.values c).count = let k = expr_counted f setting c in k.sites ∙ sym k.standing in
      every_join (PaysInRange f) ((expr_standing f.values c).at i).paid (T.at (i + (expr_standing f.values c).count)).paid (expr_pays c i) (h (i + (expr_standing f.values c).count) (subst (λ n. Below f.values (i + n) S) n two.1))

  amount_in_range : (v n : ℕ) → v < n + 1 → in_range f.bounds n ≡ true → in_range f.bounds v ≡ true
  amount_in_range v n below h =
      let up : n < 2 ^ (f.bounds.int_bits - 1) = ltb-true n (2 ^ (f.bounds.int_bits - 1)) h in
      lt-ltb v (2 ^ (f.bounds.int_bits - 1)) (omega (arith, below, up))

  repeat_pays : (c : Bool) (n : ℕ) (s : Span) (ps : List PStmt) → Every StmtPays ps → (scope : List Variable) → EachKeeps (StmtKeeps (one f setting) result) scope ps → (i : ℕ) → Below f.values i ((if c then site n s ∷ [] else []) ++ joined (map (stmt_sites f.bounds) ps)) → Pays (if c then by_value f.values first_of (map (stmt_standing f.values) ps) else in_row (map (stmt_standing f.values) ps)) i
  repeat_pays true n s ps h scope k i b = first_pays (value f.values i) ps h scope k (i + 1) b.1
  repeat_pays false n s ps h scope k i b = each_pays ps h scope k i b

  reorder_pays : (s : Span) (ps : List PStmt) → Every StmtPays ps → (scope : List Variable) → EachKeeps (StmtKeeps (one f setting) result) scope ps → (i : ℕ) → Below f.values i (layer_sites (S.Reorder ps) s) → Pays (layer_standing (S.Reorder ps) s) i
  reorder_pays s ps h scope k i b =
      let m = length (map (stmt_sites f.bounds) ps) - 1 in
      let two = below_append f.values (places 2 m s) (joined (map (stmt_sites f.bounds) ps)) i b in
      let same : length (places 2 m s) ≡ length (map (stmt_standing f.values) ps) - 1 = length-places 2 m s ∙ ap (λ n. n - 1) (length-map ps (stmt_sites f.bounds) ∙ sym (length-map ps (stmt_standing f.values))) in
      each_pays ps h scope k (i + (length (map (stmt_standing f.values) ps) - 1)) (subst (λ n. Below f.values (i + n) (joined (map (stmt_sites f.bounds) ps))) same two.1)

  cases : StmtCases StmtPays
  cases = record {
    block = λ s ps h. by_form (S.Block ps) (pform.Block ps) (pform.rolls-Block ps) s (λ from scope k i b. block_pays ps (every_of StmtPays ps h) (length scope) scope k i b);
    declare = λ s slot x t v. by_form (S.Declare slot x t v) (pform.Declare slot x t v) (pform.rolls-Declare slot x t v) s (λ from scope k i b. free_pays (value_standing f.values v) i (value_free f.values v));
    assign = λ s p e. by_form (S.Assign p e) (pform.Assign p e) (pform.rolls-Assign p e) s (λ from scope k i b. both_pay (expr_standing f.values p) (expr_standing f.values e) i (expr_pays p i) (λ j. expr_pays e j));
    calls = λ s p. by_form (S.Call p) (pform.Call p) (pform.rolls-Call p) s (λ from scope k i b. expr_pays p i);
    if_only = λ s c a h. by_form (S.If c a None) (pform.If c a None) (pform.rolls-If c a None) s (λ from scope k i b. behind c (stmt_sites f.bounds a ++ []) (beside (stmt_standing f.values a) (own 0)) i (λ j below. every_join (PaysInRange f) ((stmt_standing f.values a).at j).paid [] (h from scope k.2 j (split a [] j below).0) tt) b);
    if_else = λ s c a d h g. by_form (S.If c a (Some d)) (pform.If c a (Some d)) (pform.rolls-If c a (Some d)) s (λ from scope k i b. behind c (stmt_sites f.bounds a ++ stmt_sites f.bounds d) (beside (stmt_standing f.values a) (stmt_standing f.values d)) i (λ j below. let two = split a (stmt_sites f.bounds d) j below in every_join (PaysInRange f) ((stmt_standing f.values a).at j).paid _ (h from scope k.2 j two.0) (g from scope k.4 (j + (stmt_standing f.values a).count) two.1)) b);
    loop = λ s c a h. by_form (S.While c a) (pform.While c a) (pform.rolls-While c a) s (λ from scope k i b. behind c (stmt_sites f.bounds a) (stmt_standing f.values a) i (λ j below. h from scope k.2 j below) b);
    returns = λ s v. by_form (S.Return v) (pform.Return v) (pform.rolls-Return v) s (λ from scope k i b. free_pays (value_standing f.values v) i (value_free f.values v));
    asserts = λ s p. by_form (S.Assert p) (pform.Assert p) (pform.rolls-Assert p) s (λ from scope k i b. expr_pays p i);
    assumes = λ s p. by_form (S.Assume p) (pform.Assume p) (pform.rolls-Assume p) s (λ from scope k i b. expr_pays p i);
    minimizes = λ s p. by_form (S.Minimize p) (pform.Minimize p) (pform.rolls-Minimize p) s (λ from scope k i b. expr_pays p i);
    repeats = λ s c ps h. by_form (S.Repeat c ps) (pform.Repeat c ps) (pform.rolls-Repeat c ps) s (λ from scope k i b. repeat_pays (is_hole c.form) (length (map (stmt_sites f.bounds) ps) + 1) s ps (every_of StmtPays ps h) scope k.1 i b);
    minrepeat = λ s ps h. by_form (S.MinRepeat ps) (pform.MinRepeat ps) (pform.rolls-MinRepeat ps) s (λ from scope k i b. (
      amount_in_range (value f.values i) (length (map (stmt_sites f.bounds) ps)) b.0 (subst (λ n. in_range f.bounds n ≡ true) (sym (length-map ps (stmt_sites f.bounds))) k.0),
      first_pays (value f.values i) ps (every_of StmtPays ps h) scope k.2 (i + 1) b.1,
    ));
    reorder = λ s ps h. by_form (S.Reorder ps) (pform.Reorder ps) (pform.rolls-Reorder ps) s (λ from scope k i b. reorder_pays s ps (every_of StmtPays ps h) scope k.1 i b);
  }

  stmt_pays : (p : PStmt) → StmtPays p
  stmt_pays = stmt_ind StmtPays cases

  all_pay : (ps : List PStmt) → Every StmtPays ps
  all_pay [] = tt
  all_pay (p ∷ ps) = (stmt_pays p, all_pay ps)

  -- what a body pays is in range
  pub body_pays : (ps : List PStmt) (from : ℕ) (scope : List Variable) → InBlock (λ p. p) (StmtKeeps (one f setting) result) from scope ps → (i : ℕ) → Below f.values i (joined (map (stmt_sites f.bounds) ps)) → Every (PaysInRange f) ((in_row (map (stmt_standing f.values) ps)).at i).paid
  body_pays ps from scope k i b = block_pays ps (all_pay ps) from scope k i b
