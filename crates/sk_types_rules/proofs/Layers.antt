-- The layers of the relation between programs and trees: what an expression and a statement mean is what their
-- forms do, with the parts' meanings.
use Rattle.std.proofs.Common.{◌≡◌, ℕ, Bool, true, false, List, [], ◌∷◌, length, Option, Some, None, refl, sym, ap, subst, ◌∙◌}
use Rattle.std.specs.Prelude.{map, IsTrue, ◌≤◌}
use Rattle.std.proofs.lemmas.List.{length-map}
use Rattle.sk_tree.specs.declared.expr.Expr.{Expr}
use Rattle.sk_tree.specs.declared.expr.EForm.{EForm}
use Rattle.sk_tree.specs.declared.expr.EForm.TheVariants as eform
use Rattle.sk_tree.specs.declared.expr.NewField.{NewField}
use Rattle.sk_tree.specs.declared.pattern.Pattern.{Pattern}
use Rattle.sk_tree.specs.declared.stmt.Stmt.{Stmt}
use Rattle.sk_tree.specs.declared.stmt.Form.{Form}
use Rattle.sk_tree.specs.declared.stmt.Form.TheVariants as form
use Rattle.sk_prog.specs.declared.ty.Ty.{Ty}
use Rattle.sk_prog.specs.declared.expr.PExpr.{PExpr}
use Rattle.sk_prog.specs.declared.expr.PEForm.{PEForm}
use Rattle.sk_prog.specs.declared.expr.PField.{PField}
use Rattle.sk_prog.specs.declared.expr.PEForm.TheOpen as P
use Rattle.sk_prog.specs.declared.expr.PEForm.TheViews.{roll-PEForm}
use Rattle.sk_prog.specs.declared.expr.PEForm.TheFolds.{map-PEForm, rec-PEForm, rec-PField, rec-roll-PEForm, rec-roll-PExpr}
use Rattle.sk_prog.specs.declared.stmt.PStmt.{PStmt}
use Rattle.sk_prog.specs.declared.stmt.PForm.{PForm}
use Rattle.sk_prog.specs.declared.stmt.PForm.TheOpen as S
use Rattle.sk_prog.specs.declared.stmt.PForm.TheViews.{roll-PForm}
use Rattle.sk_prog.specs.declared.stmt.PForm.TheFolds.{map-PForm, rec-PForm, rec-roll-PForm, rec-roll-PStmt}
use Rattle.sk_prog.specs.declared.prog.StructDef.{StructDef}
use Rattle.sk_prog.specs.declared.prog.ParamDef.{ParamDef}
use Rattle.sk_types_rules.specs.declared.scope.Variable.{Variable}
use Rattle.sk_types_rules.specs.Rules.{bit, element_of, count_of}
use Rattle.sk_types_rules.specs.Scope.{Context, Signature, all_distinct}
use Rattle.sk_types_rules.specs.Sorts.{kept, reference_to}
use Rattle.sk_types_rules.specs.Types.{ExprRule, EFormRule, FieldRule, EachMeans, MayBeRef, ArgumentsMean, FieldsMean, IsMore, IsCallee, IsStruct, eform_means, expr_means, field_means, Means, StmtRule, FormRule, BlockMeans, AnyMeans, OneMeans, after, may_reorder, IsAt, CountMeans, form_means, stmt_means, StmtMeans}

-- Meanings of lists of parts are those of the lists of what the parts stand for.

each_same : {Y : Type 0} (v : Y → PExpr) (k : PExpr → ExprRule) (t : Ty) (ps : List Y) (es : List Expr) → EachMeans v (λ p. k (v p)) t ps es ≡ EachMeans (λ y. y) k t (map v ps) es
each_same v k t [] [] = refl
each_same v k t (p ∷ ps) (e ∷ es) = λ i. k (v p) e × ((v p).ty ≡ Some t) × each_same v k t ps es i
each_same v k t [] (e ∷ es) = refl
each_same v k t (p ∷ ps) [] = refl

arguments_same : {Y : Type 0} (v : Y → PExpr) (k : PExpr → ExprRule) (scope : List Variable) (ds : List ParamDef) (ps : List Y) (es : List Expr) → ArgumentsMean v (λ p. k (v p)) scope ds ps es ≡ ArgumentsMean (λ y. y) k scope ds (map v ps) es
arguments_same v k scope [] [] [] = refl
arguments_same v k scope (d ∷ ds) (p ∷ ps) (e ∷ es) = λ i. k (v p) e × ((v p).ty ≡ Some d.ty) × MayBeRef d.by_ref scope d.ty e.form × arguments_same v k scope ds ps es i
arguments_same v k scope [] [] (e ∷ es) = refl
arguments_same v k scope [] (p ∷ ps) es = refl
arguments_same v k scope (d ∷ ds) [] es = refl
arguments_same v k scope (d ∷ ds) (p ∷ ps) [] = refl

fields_same : {Z : Type 0} (w : Z → PField) (n : PField → FieldRule) (d : StructDef) (ps : List Z) (es : List NewField) → FieldsMean (λ p. n (w p)) d ps es ≡ FieldsMean n d (map w ps) es
fields_same w n d [] [] = refl
fields_same w n d (p ∷ ps) (e ∷ es) = λ i. n (w p) d e × fields_same w n d ps es i
fields_same w n d [] (e ∷ es) = refl
fields_same w n d (p ∷ ps) [] = refl

more_same : {Y : Type 0} (v : Y → PExpr) (ps : List Y) → IsMore ps ≡ IsMore (map v ps)
more_same v [] = refl
more_same v (p ∷ ps) = refl

module _ (context : Context) (scope : List Variable) where
  abbrev pub FormMeans : PEForm → EFormRule
  FormMeans = rec-PEForm EFormRule ExprRule FieldRule (eform_means context scope) (expr_means context scope) (field_means context scope)

  abbrev pub FieldMeans : PField → FieldRule
  FieldMeans = rec-PField EFormRule ExprRule FieldRule (eform_means context scope) (expr_means context scope) (field_means context scope)

  abbrev pub rule : P.PEForm-F PEForm PExpr PField → EFormRule
  rule l = eform_means context scope PEForm PExpr PField (λ y. y) (λ y. y) (λ y. y) FormMeans (Means context scope) FieldMeans l

  pub form_means_are : (l : P.PEForm-F PEForm PExpr PField) → FormMeans (roll-PEForm l) ≡ rule l
  form_means_are l = rec-roll-PEForm EFormRule ExprRule FieldRule (eform_means context scope) (expr_means context scope) (field_means context scope) same l
    where
      same : (X Y Z : Type 0) (u : X → PEForm) (v : Y → PExpr) (w : Z → PField) (f : PEForm → EFormRule) (k : PExpr → ExprRule) (n : PField → FieldRule) (x : P.PEForm-F X Y Z)
          → eform_means context scope X Y Z u v w (λ p. f (u p)) (λ p. k (v p)) (λ p. n (w p)) x ≡ eform_means context scope PEForm PExpr PField (λ y. y) (λ y. y) (λ y. y) f k n (map-PEForm X Y Z PEForm PExpr PField u v w x)
      same X Y Z u v w f k n (P.Pattern ps) = λ i t e. (g : Pattern) × (es : List Expr) × (e.form ≡ eform.Pattern g es) × (s : Ty) × (t ≡ Some s) × more_same v ps i × each_same v k s ps (kept context scope s es) i
      same X Y Z u v w f k n (P.Call g args) = λ i t e. (x : List ℕ) × (es : List Expr) × (e.form ≡ eform.Call x es) × (s : Signature) × IsCallee context.top scope x g s × arguments_same v k scope s.params args es i × (t ≡ s.result)
      same X Y Z u v w f k n (P.New s fields) = λ i t e. (x : List ℕ) × (es : List NewField) × (e.form ≡ eform.New x es) × (d : StructDef) × IsStruct context.top scope x s d × fields_same w n d fields es i × IsTrue (all_distinct (map (λ (y : NewField). y.name) es)) × (t ≡ Some (reference_to s))
      same X Y Z u v w f k n (P.Braces ps) = λ i t e. (es : List Expr) × (e.form ≡ eform.Braces es) × more_same v ps i × (s : Ty) × each_same v k s ps es i × (r : Ty) × (element_of r ≡ Some s) × (sym (length-map ps v) i ≤ count_of r) × (t ≡ Some r)
      same X Y Z u v w f k n _ = refl

  pub means_is : (p : PExpr) → Means context scope p ≡ (λ e. (p.span ≡ e.span) × FormMeans p.form p.ty e)
  means_is p = rec-roll-PExpr EFormRule ExprRule FieldRule (eform_means context scope) (expr_means context scope) (field_means context scope) (λ X Y Z u v w f k n x. refl) (record { span = p.span; ty = p.ty; form = p.form })

  pub means_parts : (p : PExpr) (e : Expr) → Means context scope p e → (p.span ≡ e.span) × FormMeans p.form p.ty e
  means_parts p e m = subst (λ (M : ExprRule). M e) (means_is p) m

  pub means_from : (p : PExpr) (e : Expr) → p.span ≡ e.span → FormMeans p.form p.ty e → Means context scope p e
  means_from p e s m = subst (λ (M : ExprRule). M e) (sym (means_is p)) (s, m)

-- Statements

block_same : {Y : Type 0} (v : Y → PStmt) (k : PStmt → StmtRule) (from : ℕ) (scope : List Variable) (ps : List Y) (es : List Stmt) → BlockMeans v (λ p. k (v p)) from scope ps es ≡ BlockMeans (λ y. y) k from scope (map v ps) es
block_same v k from scope [] [] = refl
block_same v k from scope (p ∷ ps) (e ∷ es) = λ i. k (v p) from scope e × block_same v k from (after (v p) scope) ps es i
block_same v k from scope [] (e ∷ es) = refl
block_same v k from scope (p ∷ ps) [] = refl

one_same : {Y : Type 0} (v : Y → PStmt) (k : PStmt → StmtRule) (from : ℕ) (scope : List Variable) (ps : List Y) (e : Stmt) → OneMeans (λ p. k (v p)) from scope ps e ≡ OneMeans k from scope (map v ps) e
one_same v k from scope [] e = refl
one_same v k from scope (p ∷ []) e = refl
one_same v k from scope (p ∷ q ∷ ps) e = refl

abbrev any_of : {Y : Type 0} → (Y → PStmt) → Option Y → Option PStmt
any_of v None = None
any_of v (Some p) = Some (v p)

any_same : {Y : Type 0} (v : Y → PStmt) (k : PStmt → StmtRule) (from : ℕ) (scope : List Variable) (p : Option Y) (e : Option Stmt) → AnyMeans (λ p. k (v p)) from scope p e ≡ AnyMeans k from scope (any_of v p) e
any_same v k from scope None None = refl
any_same v k from scope (Some p) (Some e) = refl
any_same v k from scope None (Some e) = refl
any_same v k from scope (Some p) None = refl

map_again : {Y : Type 0} (v : Y → PStmt) (ps : List Y) → map v ps ≡ map (λ y. y) (map v ps)
map_again v [] = refl
map_again v (p ∷ ps) = ap (λ qs. v p ∷ qs) (map_again v ps)

module _ (context : Context) (result : Option Ty) where
  abbrev pub ActMeans : PForm → FormRule
  ActMeans = rec-PForm FormRule StmtRule (form_means context result) (stmt_means context result)

  abbrev pub act_rule : S.PForm-F PForm PStmt → FormRule
  act_rule l = form_means context result PForm PStmt (λ y. y) (λ y. y) ActMeans (StmtMeans context result) l

  pub act_means_are : (l : S.PForm-F PForm PStmt) → ActMeans (roll-PForm l) ≡ act_rule l
  act_means_are l = rec-roll-PForm FormRule StmtRule (form_means context result) (stmt_means context result) same l
    where
      same : (X Y : Type 0) (u : X → PForm) (v : Y → PStmt) (f : PForm → FormRule) (k : PStmt → StmtRule) (x : S.PForm-F X Y)
          → form_means context result X Y u v (λ p. f (u p)) (λ p. k (v p)) x ≡ form_means context result PForm PStmt (λ y. y) (λ y. y) f k (map-PForm X Y PForm PStmt u v x)
      same X Y u v f k (S.Block ps) = λ i from scope e. (es : List Stmt) × (e ≡ form.Block es) × block_same v k (length scope) scope ps es i
      same X Y u v f k (S.If p a None) = λ i from scope e. (x : Expr) × (y : Stmt) × (z : Option Stmt) × (e ≡ form.If x y z) × IsAt context scope bit p x × k (v a) from scope y × any_same v k from scope None z i
      same X Y u v f k (S.If p a (Some b)) = λ i from scope e. (x : Expr) × (y : Stmt) × (z : Option Stmt) × (e ≡ form.If x y z) × IsAt context scope bit p x × k (v a) from scope y × any_same v k from scope (Some b) z i
      same X Y u v f k (S.Repeat p ps) = λ i from scope e. (x : Expr) × (y : Stmt) × (e ≡ form.Repeat x y) × CountMeans context result scope p x × one_same v k from scope ps y i
      same X Y u v f k (S.MinRepeat ps) = λ i from scope e. (y : Stmt) × (e ≡ form.MinRepeat y) × one_same v k from scope ps y i
      same X Y u v f k (S.Reorder ps) = λ i from scope e. (es : List Stmt) × (e ≡ form.Reorder es) × IsTrue (may_reorder (map_again v ps i)) × block_same v k (length scope) scope ps es i
      same X Y u v f k _ = refl

  pub stmt_means_is : (p : PStmt) → StmtMeans context result p ≡ (λ from s e. (p.span ≡ e.span) × ActMeans p.form from s e.form)
  stmt_means_is p = rec-roll-PStmt FormRule StmtRule (form_means context result) (stmt_means context result) (λ X Y u v f k x. refl) (record { span = p.span; form = p.form })
