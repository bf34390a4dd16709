-- What each layer of a tree keeps, the whole tree keeps.
use Rattle.std.proofs.Common.{◌≡◌, List, [], ◌∷◌, map, Some, None, refl, sym, ap, subst, ◌∙◌}
use Rattle.sk_prog.specs.declared.expr.PExpr.{PExpr}
use Rattle.sk_prog.specs.declared.expr.PField.{PField}
use Rattle.sk_prog.specs.declared.expr.PEForm.{PEForm}
use Rattle.sk_prog.specs.declared.expr.PEForm.TheOpen as P
use Rattle.sk_prog.specs.declared.expr.PEForm.TheFolds.{map-PEForm, map-PExpr, map-PField, fold-PEForm, fold-PExpr, fold-PField, fold-roll-PEForm, fold-roll-PExpr, fold-roll-PField, ind-PExpr}
use Rattle.sk_prog.specs.declared.stmt.PStmt.{PStmt}
use Rattle.sk_prog.specs.declared.stmt.PForm.{PForm}
use Rattle.sk_prog.specs.declared.stmt.PForm.TheOpen as S
use Rattle.sk_prog.specs.declared.stmt.PForm.TheFolds.{map-PForm, map-PStmt, fold-PForm, fold-PStmt, fold-roll-PForm, fold-roll-PStmt, ind-PStmt}

map_twice : {A B C : Type 0} (f : A → B) (g : B → C) (xs : List A) → map g (map f xs) ≡ map (λ x. g (f x)) xs
map_twice f g [] = refl
map_twice f g (x ∷ xs) = ap (λ ys. g (f x) ∷ ys) (map_twice f g xs)

-- Expressions

module _ {A A' A'' B B' B'' C C' C'' : Type 0} (f : A → B) (f' : A' → B') (f'' : A'' → B'') (g : B → C) (g' : B' → C') (g'' : B'' → C'') where
  twice : (y : P.PEForm-F A A' A'') → map-PEForm B B' B'' C C' C'' g g' g'' (map-PEForm A A' A'' B B' B'' f f' f'' y) ≡ map-PEForm A A' A'' C C' C'' (λ x. g (f x)) (λ x. g' (f' x)) (λ x. g'' (f'' x)) y
  twice (P.Pattern es) = ap (λ xs. P.Pattern xs) (map_twice f' g' es)
  twice (P.Call x es) = ap (λ xs. P.Call x xs) (map_twice f' g' es)
  twice (P.New x es) = ap (λ xs. P.New x xs) (map_twice f'' g'' es)
  twice (P.Braces es) = ap (λ xs. P.Braces xs) (map_twice f' g' es)
  twice (P.Number n) = refl
  twice P.True = refl
  twice P.False = refl
  twice P.Null = refl
  twice (P.Var slot name) = refl
  twice (P.Const c) = refl
  twice (P.Hole width) = refl
  twice (P.Paren e) = refl
  twice (P.Member e s field) = refl
  twice (P.Index e i) = refl
  twice (P.Slice e i n) = refl
  twice (P.Unary op e) = refl
  twice (P.Binary op a b) = refl
  twice (P.Cond c a b) = refl
  twice (P.ToInt e) = refl
  twice (P.Pad e) = refl

module _ (A A' A'' : Type 0) (s : P.PEForm-F A A' A'' → A) (s' : P.PExpr-F A A' A'' → A') (s'' : P.PField-F A A' A'' → A'') (K : A → Type 0) (K' : A' → Type 0) (K'' : A'' → Type 0) where
  abbrev Kept : Type 0
  Kept = (a : A) × K a

  abbrev Kept' : Type 0
  Kept' = (a : A') × K' a

  abbrev Kept'' : Type 0
  Kept'' = (a : A'') × K'' a

  abbrev given : P.PEForm-F Kept Kept' Kept'' → P.PEForm-F A A' A''
  given = map-PEForm Kept Kept' Kept'' A A' A'' (λ p. p.0) (λ p. p.0) (λ p. p.0)

  abbrev of_form : PEForm → A
  of_form = fold-PEForm A A' A'' s s' s''

  abbrev of_expr : PExpr → A'
  of_expr = fold-PExpr A A' A'' s s' s''

  abbrev of_field : PField → A''
  of_field = fold-PField A A' A'' s s' s''

  abbrev Such : Type 0
  Such = (e : PEForm) × K (of_form e)

  abbrev Such' : Type 0
  Such' = (e : PExpr) × K' (of_expr e)

  abbrev Such'' : Type 0
  Such'' = (e : PField) × K'' (of_field e)

  pub expr_law :
      ((y : P.PEForm-F Kept Kept' Kept'') → K (s (given y)))
      → ((y : P.PExpr-F Kept Kept' Kept'') → K' (s' (map-PExpr Kept Kept' Kept'' A A' A'' (λ p. p.0) (λ p. p.0) (λ p. p.0) y)))
      → ((y : P.PField-F Kept Kept' Kept'') → K'' (s'' (map-PField Kept Kept' Kept'' A A' A'' (λ p. p.0) (λ p. p.0) (λ p. p.0) y)))
      → (e : PExpr) → K' (of_expr e)
  expr_law layer layer' layer'' = ind-PExpr (λ e. K (of_form e)) (λ e. K' (of_expr e)) (λ e. K'' (of_field e))
      (λ x y is.
      let up : Such → Kept = λ q. (of_form q.0, q.1) in
      let up' : Such' → Kept' = λ q. (of_expr q.0, q.1) in
      let up'' : Such'' → Kept'' = λ q. (of_field q.0, q.1) in
      let e : given (map-PEForm Such Such' Such'' Kept Kept' Kept'' up up' up'' y) ≡ map-PEForm PEForm PExpr PField A A' A'' of_form of_expr of_field x =
      twice up up' up'' (λ p. p.0) (λ p. p.0) (λ p. p.0) y ∙ sym (twice (λ q. q.0) (λ q. q.0) (λ q. q.0) of_form of_expr of_field y) ∙ ap (map-PEForm PEForm PExpr PField A A' A'' of_form of_expr of_field) is in
      subst K (ap s e ∙ sym (fold-roll-PEForm A A' A'' s s' s'' x)) (layer (map-PEForm Such Such' Such'' Kept Kept' Kept'' up up' up'' y)))
      (λ x y is.
      let up : Such → Kept = λ q. (of_form q.0, q.1) in
      let up' : Such' → Kept' = λ q. (of_expr q.0, q.1) in
      let up'' : Such'' → Kept'' = λ q. (of_field q.0, q.1) in
      let e : map-PExpr Kept Kept' Kept'' A A' A'' (λ p. p.0) (λ p. p.0) (λ p. p.0) (map-PExpr Such Such' Such'' Kept Kept' Kept'' up up' up'' y) ≡ map-PExpr PEForm PExpr PField A A' A'' of_form of_expr of_field x =
      ap (map-PExpr PEForm PExpr PField A A' A'' of_form of_expr of_field) is in
      subst K' (ap s' e ∙ sym (fold-roll-PExpr A A' A'' s s' s'' x)) (layer' (map-PExpr Such Such' Such'' Kept Kept' Kept'' up up' up'' y)))
      (λ x y is.
      let up : Such → Kept = λ q. (of_form q.0, q.1) in
      let up' : Such' → Kept' = λ q. (of_expr q.0, q.1) in
      let up'' : Such'' → Kept'' = λ q. (of_field q.0, q.1) in
      let e : map-PField Kept Kept' Kept'' A A' A'' (λ p. p.0) (λ p. p.0) (λ p. p.0) (map-PField Such Such' Such'' Kept Kept' Kept'' up up' up'' y) ≡ map-PField PEForm PExpr PField A A' A'' of_form of_expr of_field x =
      ap (map-PField PEForm PExpr PField A A' A'' of_form of_expr of_field) is in
      subst K'' (ap s'' e ∙ sym (fold-roll-PField A A' A'' s s' s'' x)) (layer'' (map-PField Such Such' Such'' Kept Kept' Kept'' up up' up'' y)))

-- Statements

module _ {A A' B B' C C' : Type 0} (f : A → B) (f' : A' → B') (g : B → C) (g' : B' → C') where
  twice_form : (y : S.PForm-F A A') → map-PForm B B' C C' g g' (map-PForm A A' B B' f f' y) ≡ map-PForm A A' C C' (λ x. g (f x)) (λ x. g' (f' x)) y
  twice_form (S.Block ss) = ap (λ xs. S.Block xs) (map_twice f' g' ss)
  twice_form (S.Repeat c ss) = ap (λ xs. S.Repeat c xs) (map_twice f' g' ss)
  twice_form (S.MinRepeat ss) = ap (λ xs. S.MinRepeat xs) (map_twice f' g' ss)
  twice_form (S.Reorder ss) = ap (λ xs. S.Reorder xs) (map_twice f' g' ss)
  twice_form (S.Declare slot name t value) = refl
  twice_form (S.Assign p e) = refl
  twice_form (S.Call e) = refl
  twice_form (S.If c a None) = refl
  twice_form (S.If c a (Some b)) = refl
  twice_form (S.While c a) = refl
  twice_form (S.Return value) = refl
  twice_form (S.Assert e) = refl
  twice_form (S.Assume e) = refl
  twice_form (S.Minimize e) = refl

module _ (B B' : Type 0) (s : S.PForm-F B B' → B) (s' : S.PStmt-F B B' → B') (K : B → Type 0) (K' : B' → Type 0) where
  abbrev Held : Type 0
  Held = (a : B) × K a

  abbrev Held' : Type 0
  Held' = (a : B') × K' a

  abbrev of_pform : PForm → B
  of_pform = fold-PForm B B' s s'

  abbrev of_stmt : PStmt → B'
  of_stmt = fold-PStmt B B' s s'

  abbrev Met : Type 0
  Met = (e : PForm) × K (of_pform e)

  abbrev Met' : Type 0
  Met' = (e : PStmt) × K' (of_stmt e)

  pub stmt_law :
      ((y : S.PForm-F Held Held') → K (s (map-PForm Held Held' B B' (λ p. p.0) (λ p. p.0) y)))
      → ((y : S.PStmt-F Held Held') → K' (s' (map-PStmt Held Held' B B' (λ p. p.0) (λ p. p.0) y)))
      → (e : PStmt) → K' (of_stmt e)
  stmt_law layer layer' = ind-PStmt (λ e. K (of_pform e)) (λ e. K' (of_stmt e))
      (λ x y is.
      let up : Met → Held = λ q. (of_pform q.0, q.1) in
      let up' : Met' → Held' = λ q. (of_stmt q.0, q.1) in
      let e : map-PForm Held Held' B B' (λ p. p.0) (λ p. p.0) (map-PForm Met Met' Held Held' up up' y) ≡ map-PForm PForm PStmt B B' of_pform of_stmt x =
      twice_form up up' (λ p. p.0) (λ p. p.0) y ∙ sym (twice_form (λ q. q.0) (λ q. q.0) of_pform of_stmt y) ∙ ap (map-PForm PForm PStmt B B' of_pform of_stmt) is in
      subst K (ap s e ∙ sym (fold-roll-PForm B B' s s' x)) (layer (map-PForm Met Met' Held Held' up up' y)))
      (λ x y is.
      let up : Met → Held = λ q. (of_pform q.0, q.1) in
      let up' : Met' → Held' = λ q. (of_stmt q.0, q.1) in
      let e : map-PStmt Held Held' B B' (λ p. p.0) (λ p. p.0) (map-PStmt Met Met' Held Held' up up' y) ≡ map-PStmt PForm PStmt B B' of_pform of_stmt x =
      ap (map-PStmt PForm PStmt B B' of_pform of_stmt) is in
      subst K' (ap s' e ∙ sym (fold-roll-PStmt B B' s s' x)) (layer' (map-PStmt Met Met' Held Held' up up' y)))
