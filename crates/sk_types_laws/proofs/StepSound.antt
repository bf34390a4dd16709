-- What statements become is what they mean.
use Rattle.std.proofs.Common.{◌≡◌, ℕ, Bool, true, false, List, [], ◌∷◌, ◌++◌, length, take, Option, Some, None, refl, sym, ap, subst, ◌∙◌, inl, inr}
use Rattle.std.specs.Prelude.{map, nat_le, if◌then◌else◌, IsTrue}
use Rattle.std.proofs.lemmas.Bool.{leb-true}
use Rattle.sk_tree.specs.declared.pattern.Pattern.{Pattern}
use Rattle.sk_tree.specs.declared.expr.Expr.{Expr}
use Rattle.sk_tree.specs.declared.expr.EForm.{EForm}
use Rattle.sk_tree.specs.declared.expr.EForm.TheVariants as eform
use Rattle.sk_tree.specs.declared.stmt.Stmt.{Stmt}
use Rattle.sk_tree.specs.declared.stmt.Form.{Form}
use Rattle.sk_tree.specs.declared.stmt.Form.TheVariants as form
use Rattle.sk_tree.specs.declared.stmt.Form.TheOpen as F
use Rattle.sk_tree.specs.declared.stmt.Form.TheViews.{roll-Form, roll-Stmt}
use Rattle.sk_tree.specs.declared.stmt.Form.TheFolds.{map-Form, fold-roll-Form, fold-roll-Stmt, ind-Stmt}
use Rattle.sk_tree.specs.declared.stmt.Declared.{Declared}
use Rattle.sk_tree.specs.declared.item.TyTree.{TyTree}
use Rattle.sk_prog.specs.declared.ty.Ty.{Ty}
use Rattle.sk_prog.specs.declared.expr.PExpr.{PExpr}
use Rattle.sk_prog.specs.declared.expr.PEForm.TheVariants as pform
use Rattle.sk_prog.specs.declared.stmt.PStmt.{PStmt}
use Rattle.sk_prog.specs.declared.stmt.PForm.{PForm}
use Rattle.sk_prog.specs.declared.stmt.PForm.TheVariants as act
use Rattle.sk_prog.specs.declared.stmt.PForm.TheOpen as S
use Rattle.sk_prog.specs.declared.stmt.PForm.TheViews.{roll-PForm}
use Rattle.sk_prog.specs.declared.stmt.PForm.TheFolds.{map-PForm}
use Rattle.sk_types_rules.specs.declared.scope.Variable.{Variable}
use Rattle.sk_types_rules.specs.Rules.{◌>>=◌, only_if, int, bit}
use Rattle.sk_types_rules.specs.Scope.{lookup, is_taken, Context}
use Rattle.sk_types_rules.specs.Constants.{constant_number}
use Rattle.sk_types_rules.specs.Sorts.{target_type, first_target, kept_targets, written_type}
use Rattle.sk_types_rules.specs.Types.{Grows, form_after, after, EachMeans, Means, IsAt, AnyAt, IsTarget, FormRule, StmtRule, BlockMeans, AnyMeans, may_reorder, CountMeans, ReturnMeans, StmtMeans}
use Rattle.sk_types_rules.proofs.Layers.{ActMeans, act_rule, act_means_are, stmt_means_is}
use Rattle.sk_types_laws.specs.Elaborate.{typed, all_at}
use Rattle.sk_types_laws.specs.Parts.{part, ats}
use Rattle.sk_types_laws.specs.Making.{Made, makes, Maker, value_at, any_value_at, pattern_target, strings_in, form_target, target_in, target_at, call_of, form_count, count_at, declare_one, assign_to, returned, inside, any_inside, in_order, block, form_made, stmt_made, make_form, make, make_all}
use Rattle.sk_types_laws.proofs.Ats.{bind_some, some_same, if_some}
use Rattle.sk_types_laws.proofs.Views.{strings_found}
use Rattle.sk_types_laws.proofs.Exact.{found}
use Rattle.sk_types_laws.proofs.Calls.{call_sound}
use Rattle.sk_types_laws.proofs.Scopes.{after_form, after_form_is, after_is, after_all, left_of, left_of_all}

stmt_law : (K : Form → Type 0) (L : Stmt → Type 0)
    → ((y : F.Form-F ((f : Form) × K f) ((s : Stmt) × L s)) → K (roll-Form (map-Form _ _ Form Stmt (λ q. q.0) (λ q. q.0) y)))
    → ((e : Stmt) → K e.form → L e)
    → (e : Stmt) → L e
stmt_law K L f g = ind-Stmt K L (λ x y is. subst (λ z. K (roll-Form z)) is (f y)) (λ x y is. subst (λ z. L (roll-Stmt z)) is (g (record { span = y.span; form = y.form.0 }) y.form.1))

pub map_id : {X : Type 0} (xs : List X) → xs ≡ map (λ x. x) xs
map_id [] = refl
map_id (x ∷ xs) = ap (λ rest. x ∷ rest) (map_id xs)

abbrev pub Act : Type 0
Act = ℕ → Maker PForm

abbrev pub Do : Type 0
Do = ℕ → Maker PStmt

module _ (context : Context) (result : Option Ty) where
  -- Expressions

  pub value_sound : (s : List Variable) (t : Ty) (e : Expr) (p : PExpr) → value_at context s t e ≡ Some p → IsAt context s t p e
  unfolding value_at
  value_sound s t e p h = found context s t e p h

  any_sound : (s : List Variable) (t : Ty) (e : Option Expr) (v : Option PExpr) → any_value_at context s t e ≡ Some v → AnyAt context s t v e
  any_sound s t None v h = subst (λ v. AnyAt context s t v None) (some_same None v h) tt
  any_sound s t (Some e) v h =
      let p = bind_some (value_at context s t e) _ v h in
      subst (λ v. AnyAt context s t v (Some e)) (some_same (Some p.0) v p.2) (value_sound s t e p.0 p.1)

  each_sound : (s : List Variable) (t : Ty) (es : List Expr) (ps : List PExpr) → all_at t (ats context s es) ≡ Some ps → EachMeans (λ p. p) (Means context s) t ps es
  each_sound s t [] ps h = subst (λ ps. EachMeans (λ p. p) (Means context s) t ps []) (some_same _ _ h) tt
  each_sound s t (e ∷ es) ps h =
      let a = bind_some ((part context s e).at t) _ ps h in
      let b = bind_some (all_at t (ats context s es)) _ ps a.2 in
      let good = found context s t e a.0 a.1 in
      subst (λ ps. EachMeans (λ p. p) (Means context s) t ps (e ∷ es)) (some_same _ _ b.2) (good.means, good.type, each_sound s t es b.0 b.1)

  pub record TargetGood (s : List Variable) (e : Expr) (p : PExpr) : Type 0 where
    pub t : Ty
    pub type : p.ty ≡ Some t
    pub target : IsTarget context s t p e

  pattern_sound : (s : List Variable) (e : Expr) (g : Pattern) (es : List Expr) → e.form ≡ eform.Pattern g es → (o : Option Ty) → first_target context s es ≡ o → (p : PExpr) → pattern_target context s e.span es o ≡ Some p → TargetGood s e p
  pattern_sound s e g es is None first p h = cc
  pattern_sound s e g es is (Some t) first p h =
      let a = bind_some (all_at t (ats context s (kept_targets context s t es))) _ p h in
      let made : typed e.span t (pform.Pattern a.0) ≡ p = some_same _ _ a.2 in
      record { t = t; type = ap (λ (p : PExpr). p.ty) (sym made); target = inr (record { pattern = g; strings = es; parts = a.0; tree = is; made = sym made; first = first; kept = each_sound s t (kept_targets context s t es) a.0 a.1 }) }

  form_target_sound : (s : List Variable) (e : Expr) (p : PExpr) → form_target context s e.span e.form ≡ Some p → TargetGood s e p
  form_target_sound s e p h =
      let es = bind_some (strings_in e.form) _ p h in
      let g = strings_found e es.0 es.1 in
      pattern_sound s e g.0 es.0 g.1 (first_target context s es.0) refl p es.2

  target_in_sound : (s : List Variable) (e : Expr) (o : Option Ty) → target_type context s e ≡ o → (p : PExpr) → target_in context s e o ≡ Some p → TargetGood s e p
  target_in_sound s e None is p h = form_target_sound s e p h
  target_in_sound s e (Some t) is p h = let good = value_sound s t e p h in record { t = t; type = good.type; target = inl (record { is_at = good; target = is }) }

  target_sound : (s : List Variable) (e : Expr) (p : PExpr) → target_at context s e ≡ Some p → TargetGood s e p
  unfolding target_at
  target_sound s e p h = target_in_sound s e (target_type context s e) refl p h

  -- The layers of the function

  pub make_form_is : (l : F.Form-F Form Stmt) → make_form context result (roll-Form l) ≡ form_made context result (map-Form Form Stmt Act Do (make_form context result) (make context result) l)
  make_form_is l = fold-roll-Form Act Do (form_made context result) (stmt_made context result) l

  pub make_is : (e : Stmt) → make context result e ≡ stmt_made context result (record { span = e.span; form = make_form context result e.form })
  make_is e = fold-roll-Stmt Act Do (form_made context result) (stmt_made context result) (record { span = e.span; form = e.form })

  -- What is made is meant

  pub record ActGood (from : ℕ) (s : List Variable) (f : Form) (m : Made PForm) : Type 0 where
    pub means : ActMeans context result m.made from s f
    pub grown : m.scope ≡ after_form m.made s

  pub record StmtGood (from : ℕ) (s : List Variable) (e : Stmt) (m : Made PStmt) : Type 0 where
    pub means : StmtMeans context result m.made from s e
    pub grown : m.scope ≡ after m.made s

  pub record AllGood (from : ℕ) (s : List Variable) (es : List Stmt) (m : Made (List PStmt)) : Type 0 where
    pub mean : BlockMeans (λ p. p) (StmtMeans context result) from s m.made es
    pub grown : m.scope ≡ after_all m.made s

  act_good : (l : S.PForm-F PForm PStmt) (a : PForm) (from : ℕ) (s s' : List Variable) (f : Form) (m : Made PForm) → roll-PForm l ≡ a → act_rule context result l from s f → s' ≡ form_after (map-PForm PForm PStmt Grows Grows after_form after l) s → makes a s' ≡ Some m → ActGood from s f m
  act_good l a from s s' f m is r g h =
      subst (ActGood from s f) (some_same _ m h) (record {
        means = subst (λ a. ActMeans context result a from s f) is (subst (λ (R : FormRule). R from s f) (sym (act_means_are context result l)) r);
        grown = g ∙ ap (λ (k : Grows). k s) (sym (after_form_is l)) ∙ ap (λ a. after_form a s) is;
      })

  abbrev FormSound : Form → Type 0
  FormSound f = (from : ℕ) (s : List Variable) (m : Made PForm) → make_form context result f from s ≡ Some m → ActGood from s f m

  abbrev StmtSound : Stmt → Type 0
  StmtSound e = (from : ℕ) (s : List Variable) (m : Made PStmt) → make context result e from s ≡ Some m → StmtGood from s e m

  abbrev Sounded : Type 0
  Sounded = (e : Stmt) × StmtSound e

  abbrev sounding : F.Form-F ((f : Form) × FormSound f) Sounded → F.Form-F Form Stmt
  sounding y = map-Form ((f : Form) × FormSound f) Sounded Form Stmt (λ q. q.0) (λ q. q.0) y

  -- a body: it means the statement, and leaves the scope as it was
  pub record Inside (from : ℕ) (s : List Variable) (e : Stmt) (m : Made PStmt) : Type 0 where
    pub means : StmtMeans context result m.made from s e
    pub scope : m.scope ≡ s

  inside_sound : (e : Sounded) (from : ℕ) (s : List Variable) (m : Made PStmt) → inside (make context result e.0) from s ≡ Some m → Inside from s e.0 m
  inside_sound e from s m h =
      let a = bind_some (make context result e.0 from s) _ m h in
      let g = e.1 from s a.0 a.1 in
      subst (Inside from s e.0) (some_same _ _ a.2) (record { means = g.means; scope = ap (take (length s)) g.grown ∙ left_of a.0.made s })

  pub record AnyInside (from : ℕ) (s : List Variable) (e : Option Stmt) (m : Made (Option PStmt)) : Type 0 where
    pub means : AnyMeans (StmtMeans context result) from s m.made e
    pub scope : m.scope ≡ s

  abbrev first_of : Option Sounded → Option Stmt
  first_of None = None
  first_of (Some e) = Some e.0

  abbrev maker_of : Option Sounded → Option Do
  maker_of None = None
  maker_of (Some e) = Some (make context result e.0)

  any_inside_sound : (o : Option Sounded) (from : ℕ) (s : List Variable) (m : Made (Option PStmt)) → any_inside (maker_of o) from s ≡ Some m → AnyInside from s (first_of o) m
  any_inside_sound None from s m h = subst (AnyInside from s None) (some_same _ _ h) (record { means = tt; scope = refl })
  any_inside_sound (Some e) from s m h =
      let a = bind_some (inside (make context result e.0) from s) _ m h in
      let g = inside_sound e from s a.0 a.1 in
      subst (AnyInside from s (Some e.0)) (some_same _ _ a.2) (record { means = g.means; scope = g.scope })

  in_order_sound : (es : List Sounded) (from : ℕ) (s : List Variable) (m : Made (List PStmt)) → in_order (map (make context result) (map (λ q. q.0) es)) from s ≡ Some m → AllGood from s (map (λ q. q.0) es) m
  in_order_sound [] from s m h = subst (AllGood from s []) (some_same _ m h) (record { mean = tt; grown = refl })
  in_order_sound (e ∷ es) from s m h =
      let p = bind_some (make context result e.0 from s) _ m h in
      let g = e.1 from s p.0 p.1 in
      let r = bind_some (in_order (map (make context result) (map (λ q. q.0) es)) from p.0.scope) _ m p.2 in
      let k = in_order_sound es from p.0.scope r.0 r.1 in
      subst (AllGood from s (e.0 ∷ map (λ q. q.0) es)) (some_same _ m r.2) (record {
        mean = (g.means, subst (λ s. BlockMeans (λ p. p) (StmtMeans context result) from s r.0.made (map (λ q. q.0) es)) g.grown k.mean);
        grown = k.grown ∙ ap (after_all r.0.made) g.grown;
      })

  -- the statements of a block
  pub record BlockGood (s : List Variable) (es : List Stmt) (m : Made (List PStmt)) : Type 0 where
    pub mean : BlockMeans (λ p. p) (StmtMeans context result) (length s) s m.made es
    pub scope : m.scope ≡ s

  block_sound : (es : List Sounded) (s : List Variable) (m : Made (List PStmt)) → block (map (make context result) (map (λ q. q.0) es)) s ≡ Some m → BlockGood s (map (λ q. q.0) es) m
  block_sound es s m h =
      let a = bind_some (in_order (map (make context result) (map (λ q. q.0) es)) (length s) s) _ m h in
      let g = in_order_sound es (length s) s a.0 a.1 in
      subst (BlockGood s (map (λ q. q.0) es)) (some_same _ _ a.2) (record { mean = g.mean; scope = ap (take (length s)) g.grown ∙ left_of_all a.0.made s })

  -- Forms

  declare_sound : (from : ℕ) (s : List Variable) (y : TyTree) (d : Declared) (b : Bool) → is_taken from (lookup s d.name) ≡ b → (m : Made PForm)
      → (if b then None else (written_type context s y >>= λ t. any_value_at context s t d.value >>= λ v. makes (act.Declare (length s) d.name t v) (s ++ record { name = d.name; ty = t } ∷ []))) ≡ Some m → ActGood from s (form.Declare y (d ∷ [])) m
  declare_sound from s y d true is m h = cc
  declare_sound from s y d false is m h =
      let t = bind_some (written_type context s y) _ m h in
      let v = bind_some (any_value_at context s t.0 d.value) _ m t.2 in
      act_good (S.Declare (length s) d.name t.0 v.0) (act.Declare (length s) d.name t.0 v.0) from s _ _ m (act.rolls-Declare (length s) d.name t.0 v.0) (y, d, refl, record { name = refl; type = t.1; next = refl; once = is; value = any_sound s t.0 d.value v.0 v.1 }) refl v.2

  declare_one_sound : (from : ℕ) (s : List Variable) (y : TyTree) (ds : List Declared) (m : Made PForm) → declare_one context from s y ds ≡ Some m → ActGood from s (form.Declare y ds) m
  declare_one_sound from s y [] m h = cc
  declare_one_sound from s y (d ∷ []) m h = declare_sound from s y d (is_taken from (lookup s d.name)) refl m h
  declare_one_sound from s y (d ∷ e ∷ ds) m h = cc

  assign_sound : (from : ℕ) (s : List Variable) (x e : Expr) (m : Made PForm) → (target_at context s x >>= λ p. assign_to context s e p) ≡ Some m → ActGood from s (form.Assign x e) m
  assign_sound from s x e m h =
      let p = bind_some (target_at context s x) _ m h in
      let g = target_sound s x p.0 p.1 in
      let t = bind_some p.0.ty _ m p.2 in
      let q = bind_some (value_at context s t.0 e) _ m t.2 in
      let same : t.0 ≡ g.t = some_same _ _ (sym t.1 ∙ g.type) in
      act_good (S.Assign p.0 q.0) (act.Assign p.0 q.0) from s _ _ m (act.rolls-Assign p.0 q.0) (x, e, refl, g.t, record { target = g.target; value = subst (λ t. IsAt context s t q.0 e) same (value_sound s t.0 e q.0 q.1) }) refl q.2

  return_sound : (from : ℕ) (s : List Variable) (r : Option Ty) (e : Option Expr) → result ≡ r → (m : Made PForm) → returned context s r e ≡ Some m → ActGood from s (form.Return e) m
  return_sound from s None None is m h = act_good (S.Return None) (act.Return None) from s _ _ m (act.rolls-Return None) (None, refl, subst (λ r. ReturnMeans context result s r None None) (sym is) tt) refl h
  return_sound from s None (Some e) is m h = cc
  return_sound from s (Some t) None is m h = cc
  return_sound from s (Some t) (Some e) is m h =
      let p = bind_some (value_at context s t e) _ m h in
      act_good (S.Return (Some p.0)) (act.Return (Some p.0)) from s _ _ m (act.rolls-Return (Some p.0)) (Some e, refl, subst (λ r. ReturnMeans context result s r (Some p.0) (Some e)) (sym is) (value_sound s t e p.0 p.1)) refl p.2

  number_count : (s : List Variable) (e : Expr) (p : PExpr) → (constant_number context s e >>= λ n. only_if (nat_le n 64) (typed e.span int (pform.Number n))) ≡ Some p → CountMeans context result s p e
  number_count s e p h =
      let n = bind_some (constant_number context s e) _ p h in
      let k = if_some (nat_le n.0 64) _ p n.2 in
      inr (n.0, n.1, leb-true n.0 64 k.0, sym (some_same _ _ k.1))

  form_count_sound : (s : List Variable) (e : Expr) (f : EForm) → e.form ≡ f → (p : PExpr) → form_count context s e f ≡ Some p → CountMeans context result s p e
  form_count_sound s e (eform.Hole i) is p h = inl (i, is, found context s int e p h)
  form_count_sound s e _ is p h = number_count s e p h

  count_sound : (s : List Variable) (e : Expr) (p : PExpr) → count_at context s e ≡ Some p → CountMeans context result s p e
  unfolding count_at
  count_sound s e p h = form_count_sound s e e.form refl p h

  pub sound : (e : Stmt) → StmtSound e
  sound = stmt_law FormSound StmtSound form_layer stmt_layer
    where
      go : (y : F.Form-F ((f : Form) × FormSound f) Sounded) (from : ℕ) (s : List Variable) (m : Made PForm) → form_made context result (map-Form Form Stmt Act Do (make_form context result) (make context result) (sounding y)) from s ≡ Some m → (f : Form) → roll-Form (sounding y) ≡ f → ActGood from s f m
      go (F.Block es) from s m h f is =
          let ps = bind_some (block (map (make context result) (map (λ q. q.0) es)) s) _ m h in
          let g = block_sound es s ps.0 ps.1 in
          act_good (S.Block ps.0.made) (act.Block ps.0.made) from s _ f m (act.rolls-Block ps.0.made) (map (λ q. q.0) es, sym is ∙ form.rolls-Block (map (λ q. q.0) es), g.mean) g.scope ps.2
      go (F.Declare y ds) from s m h f is = subst (λ f. ActGood from s f m) (sym (form.rolls-Declare y ds) ∙ is) (declare_one_sound from s y ds m h)
      go (F.Assign x e) from s m h f is = subst (λ f. ActGood from s f m) (sym (form.rolls-Assign x e) ∙ is) (assign_sound from s x e m h)
      go (F.Call e) from s m h f is =
          let p = bind_some (call_of context s e) _ m h in
          let g = call_sound context s e p.0 p.1 in
          act_good (S.Call p.0) (act.Call p.0) from s _ f m (act.rolls-Call p.0) (e, sym is ∙ form.rolls-Call e, g.0, g.1) refl p.2
      go (F.If c a b) from s m h f is = other b h is
        where
          other : (b : Option Sounded) → form_made context result (map-Form Form Stmt Act Do (make_form context result) (make context result) (sounding (F.If c a b))) from s ≡ Some m → roll-Form (sounding (F.If c a b)) ≡ f → ActGood from s f m
          other None h is =
              let p = bind_some (value_at context s bit c) _ m h in
              let q = bind_some (inside (make context result a.0) from s) _ m p.2 in
              let g = inside_sound a from s q.0 q.1 in
              act_good (S.If p.0 q.0.made None) (act.If p.0 q.0.made None) from s _ f m (act.rolls-If p.0 q.0.made None) (c, a.0, None, sym is ∙ form.rolls-If c a.0 None, value_sound s bit c p.0 p.1, g.means, tt) g.scope q.2
          other (Some b) h is =
              let p = bind_some (value_at context s bit c) _ m h in
              let q = bind_some (inside (make context result a.0) from s) _ m p.2 in
              let ga = inside_sound a from s q.0 q.1 in
              let o = bind_some (any_inside (Some (make context result b.0)) from q.0.scope) _ m q.2 in
              let gb = any_inside_sound (Some b) from s o.0 (ap (λ s. any_inside (Some (make context result b.0)) from s) (sym ga.scope) ∙ o.1) in
              act_good (S.If p.0 q.0.made o.0.made) (act.If p.0 q.0.made o.0.made) from s _ f m (act.rolls-If p.0 q.0.made o.0.made) (c, a.0, Some b.0, sym is ∙ form.rolls-If c a.0 (Some b.0), value_sound s bit c p.0 p.1, ga.means, gb.means) gb.scope o.2
      go (F.While c a) from s m h f is =
          let p = bind_some (value_at context s bit c) _ m h in
          let q = bind_some (inside (make context result a.0) from s) _ m p.2 in
          let g = inside_sound a from s q.0 q.1 in
          act_good (S.While p.0 q.0.made) (act.While p.0 q.0.made) from s _ f m (act.rolls-While p.0 q.0.made) (c, a.0, sym is ∙ form.rolls-While c a.0, value_sound s bit c p.0 p.1, g.means) g.scope q.2
      go (F.Return e) from s m h f is = subst (λ f. ActGood from s f m) (sym (form.rolls-Return e) ∙ is) (return_sound from s result e refl m h)
      go (F.Assert e) from s m h f is =
          let p = bind_some (value_at context s bit e) _ m h in
          act_good (S.Assert p.0) (act.Assert p.0) from s _ f m (act.rolls-Assert p.0) (e, sym is ∙ form.rolls-Assert e, value_sound s bit e p.0 p.1) refl p.2
      go (F.Assume e) from s m h f is =
          let p = bind_some (value_at context s bit e) _ m h in
          act_good (S.Assume p.0) (act.Assume p.0) from s _ f m (act.rolls-Assume p.0) (e, sym is ∙ form.rolls-Assume e, value_sound s bit e p.0 p.1) refl p.2
      go (F.Minimize e) from s m h f is =
          let p = bind_some (value_at context s int e) _ m h in
          act_good (S.Minimize p.0) (act.Minimize p.0) from s _ f m (act.rolls-Minimize p.0) (e, sym is ∙ form.rolls-Minimize e, value_sound s int e p.0 p.1) refl p.2
      go (F.Repeat c a) from s m h f is =
          let p = bind_some (count_at context s c) _ m h in
          let q = bind_some (inside (make context result a.0) from s) _ m p.2 in
          let g = inside_sound a from s q.0 q.1 in
          act_good (S.Repeat p.0 (q.0.made ∷ [])) (act.Repeat p.0 (q.0.made ∷ [])) from s _ f m (act.rolls-Repeat p.0 (q.0.made ∷ [])) (c, a.0, sym is ∙ form.rolls-Repeat c a.0, count_sound s c p.0 p.1, g.means) g.scope q.2
      go (F.MinRepeat a) from s m h f is =
          let q = bind_some (inside (make context result a.0) from s) _ m h in
          let g = inside_sound a from s q.0 q.1 in
          act_good (S.MinRepeat (q.0.made ∷ [])) (act.MinRepeat (q.0.made ∷ [])) from s _ f m (act.rolls-MinRepeat (q.0.made ∷ [])) (a.0, sym is ∙ form.rolls-MinRepeat a.0, g.means) g.scope q.2
      go (F.Reorder es) from s m h f is =
          let ps = bind_some (block (map (make context result) (map (λ q. q.0) es)) s) _ m h in
          let k = if_some (may_reorder ps.0.made) _ m ps.2 in
          let g = block_sound es s ps.0 ps.1 in
          act_good (S.Reorder ps.0.made) (act.Reorder ps.0.made) from s _ f m (act.rolls-Reorder ps.0.made) (map (λ q. q.0) es, sym is ∙ form.rolls-Reorder (map (λ q. q.0) es), subst (λ ps. IsTrue (may_reorder ps)) (map_id ps.0.made) k.0, g.mean) g.scope k.1
      go F.Empty from s m h f is = cc
      go (F.Step kind target by) from s m h f is = cc
      go (F.For a c n b) from s m h f is = cc

      form_layer : (y : F.Form-F ((f : Form) × FormSound f) Sounded) → FormSound (roll-Form (sounding y))
      form_layer y from s m h = go y from s m (sym (ap (λ (k : Act). k from s) (make_form_is (sounding y))) ∙ h) (roll-Form (sounding y)) refl

      stmt_layer : (e : Stmt) → FormSound e.form → StmtSound e
      stmt_layer e k from s m h =
          let a = bind_some (make_form context result e.form from s) _ m (sym (ap (λ (k : Do). k from s) (make_is e)) ∙ h) in
          let g = k from s a.0 a.1 in
          let p : PStmt = record { span = e.span; form = a.0.made } in
          subst (StmtGood from s e) (some_same _ m a.2) (record {
            means = subst (λ (R : StmtRule). R from s e) (sym (stmt_means_is context result p)) (refl, g.means);
            grown = g.grown ∙ ap (λ (k : Grows). k s) (sym (after_is p));
          })

  pub all_sound : (from : ℕ) (s : List Variable) (es : List Stmt) (m : Made (List PStmt)) → make_all context result es from s ≡ Some m → AllGood from s es m
  all_sound from s [] m h = subst (AllGood from s []) (some_same _ m h) (record { mean = tt; grown = refl })
  all_sound from s (e ∷ es) m h =
      let p = bind_some (make context result e from s) _ m h in
      let g = sound e from s p.0 p.1 in
      let r = bind_some (make_all context result es from p.0.scope) _ m p.2 in
      let k = all_sound from p.0.scope es r.0 r.1 in
      subst (AllGood from s (e ∷ es)) (some_same _ m r.2) (record {
        mean = (g.means, subst (λ s. BlockMeans (λ p. p) (StmtMeans context result) from s r.0.made es) g.grown k.mean);
        grown = k.grown ∙ ap (after_all r.0.made) g.grown;
      })
