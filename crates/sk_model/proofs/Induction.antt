-- Induction over trees: what holds of each form if it holds of its parts holds of the whole tree.
use Rattle.std.proofs.Common.{◌≡◌, ℕ, List, [], ◌∷◌, map, Option, Some, None, sym, subst}
use Rattle.sk_base.specs.declared.span.Span.{Span}
use Rattle.sk_base.specs.declared.name.Name.{Name}
use Rattle.sk_prog.specs.declared.ids.ConstId.{ConstId}
use Rattle.sk_prog.specs.declared.ids.FunId.{FunId}
use Rattle.sk_prog.specs.declared.ids.StructId.{StructId}
use Rattle.sk_prog.specs.declared.ty.Ty.{Ty}
use Rattle.sk_prog.specs.declared.expr.UnOp.{UnOp}
use Rattle.sk_prog.specs.declared.expr.BinOp.{BinOp}
use Rattle.sk_prog.specs.declared.expr.PExpr.{PExpr}
use Rattle.sk_prog.specs.declared.expr.PField.{PField}
use Rattle.sk_prog.specs.declared.expr.PEForm.{PEForm}
use Rattle.sk_prog.specs.declared.expr.PEForm.TheVariants as eform
use Rattle.sk_prog.specs.declared.expr.PEForm.TheOpen as P
use Rattle.sk_prog.specs.declared.expr.PEForm.TheViews as V
use Rattle.sk_prog.specs.declared.expr.PEForm.TheFolds.{map-PEForm, ind-PExpr}
use Rattle.sk_prog.specs.declared.stmt.PStmt.{PStmt}
use Rattle.sk_prog.specs.declared.stmt.PForm.{PForm}
use Rattle.sk_prog.specs.declared.stmt.PForm.TheVariants as form
use Rattle.sk_prog.specs.declared.stmt.PForm.TheOpen as S
use Rattle.sk_prog.specs.declared.stmt.PForm.TheViews as W
use Rattle.sk_prog.specs.declared.stmt.PForm.TheFolds.{map-PForm, ind-PStmt}

abbrev pub Each : {A : Type 0} → (A → Type 0) → List A → Type 0
Each Q [] = Unit {0}
Each Q (x ∷ xs) = Q x × Each Q xs

each_of : {A : Type 0} (Q : A → Type 0) (qs : List ((x : A) × Q x)) → Each Q (map (λ q. q.0) qs)
each_of Q [] = tt
each_of Q (q ∷ qs) = (q.1, each_of Q qs)

pub record ExprCases (Q : PExpr → Type 0) (R : PField → Type 0) : Type 0 where
  pub field : (k : ℕ) (e : PExpr) → Q e → R (record { field = k; value = e })
  pub number : (s : Span) (t : Option Ty) (n : ℕ) → Q (record { span = s; ty = t; form = eform.Number n })
  pub truth : (s : Span) (t : Option Ty) → Q (record { span = s; ty = t; form = eform.True })
  pub falsity : (s : Span) (t : Option Ty) → Q (record { span = s; ty = t; form = eform.False })
  pub null : (s : Span) (t : Option Ty) → Q (record { span = s; ty = t; form = eform.Null })
  pub var : (s : Span) (t : Option Ty) (slot : ℕ) (x : Name) → Q (record { span = s; ty = t; form = eform.Var slot x })
  pub const : (s : Span) (t : Option Ty) (k : ConstId) → Q (record { span = s; ty = t; form = eform.Const k })
  pub hole : (s : Span) (t : Option Ty) (bits : Option ℕ) → Q (record { span = s; ty = t; form = eform.Hole bits })
  pub pattern : (s : Span) (t : Option Ty) (es : List PExpr) → Each Q es → Q (record { span = s; ty = t; form = eform.Pattern es })
  pub paren : (s : Span) (t : Option Ty) (e : PExpr) → Q e → Q (record { span = s; ty = t; form = eform.Paren e })
  pub call : (s : Span) (t : Option Ty) (f : FunId) (es : List PExpr) → Each Q es → Q (record { span = s; ty = t; form = eform.Call f es })
  pub new : (s : Span) (t : Option Ty) (d : StructId) (fs : List PField) → Each R fs → Q (record { span = s; ty = t; form = eform.New d fs })
  pub braces : (s : Span) (t : Option Ty) (es : List PExpr) → Each Q es → Q (record { span = s; ty = t; form = eform.Braces es })
  pub member : (s : Span) (t : Option Ty) (e : PExpr) (d : StructId) (k : ℕ) → Q e → Q (record { span = s; ty = t; form = eform.Member e d k })
  pub index : (s : Span) (t : Option Ty) (e : PExpr) (i : PExpr) → Q e → Q i → Q (record { span = s; ty = t; form = eform.Index e i })
  pub slice : (s : Span) (t : Option Ty) (e : PExpr) (i : PExpr) (n : ℕ) → Q e → Q i → Q (record { span = s; ty = t; form = eform.Slice e i n })
  pub unary : (s : Span) (t : Option Ty) (o : UnOp) (e : PExpr) → Q e → Q (record { span = s; ty = t; form = eform.Unary o e })
  pub binary : (s : Span) (t : Option Ty) (o : BinOp) (a : PExpr) (b : PExpr) → Q a → Q b → Q (record { span = s; ty = t; form = eform.Binary o a b })
  pub cond : (s : Span) (t : Option Ty) (c : PExpr) (a : PExpr) (b : PExpr) → Q c → Q a → Q b → Q (record { span = s; ty = t; form = eform.Cond c a b })
  pub to_int : (s : Span) (t : Option Ty) (e : PExpr) → Q e → Q (record { span = s; ty = t; form = eform.ToInt e })
  pub pad : (s : Span) (t : Option Ty) (e : PExpr) → Q e → Q (record { span = s; ty = t; form = eform.Pad e })

module _ (Q : PExpr → Type 0) (R : PField → Type 0) (cases : ExprCases Q R) where
  abbrev Q_form : PEForm → Type 0
  Q_form f = (s : Span) (t : Option Ty) → Q (record { span = s; ty = t; form = f })

  abbrev Such : Type 0
  Such = (f : PEForm) × Q_form f

  abbrev Such' : Type 0
  Such' = (e : PExpr) × Q e

  abbrev Such'' : Type 0
  Such'' = (x : PField) × R x

  abbrev down : P.PEForm-F Such Such' Such'' → P.PEForm-F PEForm PExpr PField
  down = map-PEForm Such Such' Such'' PEForm PExpr PField (λ q. q.0) (λ q. q.0) (λ q. q.0)

  put : (f g : PEForm) → g ≡ f → Q_form f → Q_form g
  put f g e h = subst Q_form (sym e) h

  layer : (y : P.PEForm-F Such Such' Such'') → Q_form (V.roll-PEForm (down y))
  layer (P.Number n) = put (eform.Number n) (V.roll-PEForm (P.Number n)) (V.rolls-Number n) (λ s t. cases.number s t n)
  layer P.True = put eform.True (V.roll-PEForm P.True) V.rolls-True (λ s t. cases.truth s t)
  layer P.False = put eform.False (V.roll-PEForm P.False) V.rolls-False (λ s t. cases.falsity s t)
  layer P.Null = put eform.Null (V.roll-PEForm P.Null) V.rolls-Null (λ s t. cases.null s t)
  layer (P.Var slot x) = put (eform.Var slot x) (V.roll-PEForm (P.Var slot x)) (V.rolls-Var slot x) (λ s t. cases.var s t slot x)
  layer (P.Const k) = put (eform.Const k) (V.roll-PEForm (P.Const k)) (V.rolls-Const k) (λ s t. cases.const s t k)
  layer (P.Hole bits) = put (eform.Hole bits) (V.roll-PEForm (P.Hole bits)) (V.rolls-Hole bits) (λ s t. cases.hole s t bits)
  layer (P.Pattern es) = put (eform.Pattern (map (λ q. q.0) es)) (V.roll-PEForm (P.Pattern (map (λ q. q.0) es))) (V.rolls-Pattern (map (λ q. q.0) es)) (λ s t. cases.pattern s t (map (λ q. q.0) es) (each_of Q es))
  layer (P.Paren e) = put (eform.Paren e.0) (V.roll-PEForm (P.Paren e.0)) (V.rolls-Paren e.0) (λ s t. cases.paren s t e.0 e.1)
  layer (P.Call f es) = put (eform.Call f (map (λ q. q.0) es)) (V.roll-PEForm (P.Call f (map (λ q. q.0) es))) (V.rolls-Call f (map (λ q. q.0) es)) (λ s t. cases.call s t f (map (λ q. q.0) es) (each_of Q es))
  layer (P.New d fs) = put (eform.New d (map (λ q. q.0) fs)) (V.roll-PEForm (P.New d (map (λ q. q.0) fs))) (V.rolls-New d (map (λ q. q.0) fs)) (λ s t. cases.new s t d (map (λ q. q.0) fs) (each_of R fs))
  layer (P.Braces es) = put (eform.Braces (map (λ q. q.0) es)) (V.roll-PEForm (P.Braces (map (λ q. q.0) es))) (V.rolls-Braces (map (λ q. q.0) es)) (λ s t. cases.braces s t (map (λ q. q.0) es) (each_of Q es))
  layer (P.Member e d k) = put (eform.Member e.0 d k) (V.roll-PEForm (P.Member e.0 d k)) (V.rolls-Member e.0 d k) (λ s t. cases.member s t e.0 d k e.1)
  layer (P.Index e i) = put (eform.Index e.0 i.0) (V.roll-PEForm (P.Index e.0 i.0)) (V.rolls-Index e.0 i.0) (λ s t. cases.index s t e.0 i.0 e.1 i.1)
  layer (P.Slice e i n) = put (eform.Slice e.0 i.0 n) (V.roll-PEForm (P.Slice e.0 i.0 n)) (V.rolls-Slice e.0 i.0 n) (λ s t. cases.slice s t e.0 i.0 n e.1 i.1)
  layer (P.Unary o e) = put (eform.Unary o e.0) (V.roll-PEForm (P.Unary o e.0)) (V.rolls-Unary o e.0) (λ s t. cases.unary s t o e.0 e.1)
  layer (P.Binary o a b) = put (eform.Binary o a.0 b.0) (V.roll-PEForm (P.Binary o a.0 b.0)) (V.rolls-Binary o a.0 b.0) (λ s t. cases.binary s t o a.0 b.0 a.1 b.1)
  layer (P.Cond c a b) = put (eform.Cond c.0 a.0 b.0) (V.roll-PEForm (P.Cond c.0 a.0 b.0)) (V.rolls-Cond c.0 a.0 b.0) (λ s t. cases.cond s t c.0 a.0 b.0 c.1 a.1 b.1)
  layer (P.ToInt e) = put (eform.ToInt e.0) (V.roll-PEForm (P.ToInt e.0)) (V.rolls-ToInt e.0) (λ s t. cases.to_int s t e.0 e.1)
  layer (P.Pad e) = put (eform.Pad e.0) (V.roll-PEForm (P.Pad e.0)) (V.rolls-Pad e.0) (λ s t. cases.pad s t e.0 e.1)

  pub expr_ind : (e : PExpr) → Q e
  expr_ind = ind-PExpr Q_form Q R
      (λ x y is. subst (λ z. Q_form (V.roll-PEForm z)) is (layer y))
      (λ x y is. subst (λ z. Q (V.roll-PExpr z)) is (y.form.1 y.span y.ty))
      (λ x y is. subst (λ z. R (V.roll-PField z)) is (cases.field y.field y.value.0 y.value.1))

pub record StmtCases (Q : PStmt → Type 0) : Type 0 where
  pub block : (s : Span) (ss : List PStmt) → Each Q ss → Q (record { span = s; form = form.Block ss })
  pub declare : (s : Span) (slot : ℕ) (x : Name) (t : Ty) (e : Option PExpr) → Q (record { span = s; form = form.Declare slot x t e })
  pub assign : (s : Span) (p : PExpr) (e : PExpr) → Q (record { span = s; form = form.Assign p e })
  pub calls : (s : Span) (e : PExpr) → Q (record { span = s; form = form.Call e })
  pub if_only : (s : Span) (c : PExpr) (a : PStmt) → Q a → Q (record { span = s; form = form.If c a None })
  pub if_else : (s : Span) (c : PExpr) (a : PStmt) (b : PStmt) → Q a → Q b → Q (record { span = s; form = form.If c a (Some b) })
  pub loop : (s : Span) (c : PExpr) (a : PStmt) → Q a → Q (record { span = s; form = form.While c a })
  pub returns : (s : Span) (e : Option PExpr) → Q (record { span = s; form = form.Return e })
  pub asserts : (s : Span) (e : PExpr) → Q (record { span = s; form = form.Assert e })
  pub assumes : (s : Span) (e : PExpr) → Q (record { span = s; form = form.Assume e })
  pub minimizes : (s : Span) (e : PExpr) → Q (record { span = s; form = form.Minimize e })
  pub repeats : (s : Span) (c : PExpr) (ss : List PStmt) → Each Q ss → Q (record { span = s; form = form.Repeat c ss })
  pub minrepeat : (s : Span) (ss : List PStmt) → Each Q ss → Q (record { span = s; form = form.MinRepeat ss })
  pub reorder : (s : Span) (ss : List PStmt) → Each Q ss → Q (record { span = s; form = form.Reorder ss })

module _ (Q : PStmt → Type 0) (cases : StmtCases Q) where
  abbrev R_form : PForm → Type 0
  R_form f = (s : Span) → Q (record { span = s; form = f })

  abbrev Met : Type 0
  Met = (f : PForm) × R_form f

  abbrev Met' : Type 0
  Met' = (s : PStmt) × Q s

  abbrev below : S.PForm-F Met Met' → S.PForm-F PForm PStmt
  below = map-PForm Met Met' PForm PStmt (λ q. q.0) (λ q. q.0)

  put_form : (f g : PForm) → g ≡ f → R_form f → R_form g
  put_form f g e h = subst R_form (sym e) h

  stmt_layer : (y : S.PForm-F Met Met') → R_form (W.roll-PForm (below y))
  stmt_layer (S.Block ss) = put_form (form.Block (map (λ q. q.0) ss)) (W.roll-PForm (S.Block (map (λ q. q.0) ss))) (W.rolls-Block (map (λ q. q.0) ss)) (λ s. cases.block s (map (λ q. q.0) ss) (each_of Q ss))
  stmt_layer (S.Declare slot x t e) = put_form (form.Declare slot x t e) (W.roll-PForm (S.Declare slot x t e)) (W.rolls-Declare slot x t e) (λ s. cases.declare s slot x t e)
  stmt_layer (S.Assign p e) = put_form (form.Assign p e) (W.roll-PForm (S.Assign p e)) (W.rolls-Assign p e) (λ s. cases.assign s p e)
  stmt_layer (S.Call e) = put_form (form.Call e) (W.roll-PForm (S.Call e)) (W.rolls-Call e) (λ s. cases.calls s e)
  stmt_layer (S.If c a None) = put_form (form.If c a.0 None) (W.roll-PForm (S.If c a.0 None)) (W.rolls-If c a.0 None) (λ s. cases.if_only s c a.0 a.1)
  stmt_layer (S.If c a (Some b)) = put_form (form.If c a.0 (Some b.0)) (W.roll-PForm (S.If c a.0 (Some b.0))) (W.rolls-If c a.0 (Some b.0)) (λ s. cases.if_else s c a.0 b.0 a.1 b.1)
  stmt_layer (S.While c a) = put_form (form.While c a.0) (W.roll-PForm (S.While c a.0)) (W.rolls-While c a.0) (λ s. cases.loop s c a.0 a.1)
  stmt_layer (S.Return e) = put_form (form.Return e) (W.roll-PForm (S.Return e)) (W.rolls-Return e) (λ s. cases.returns s e)
  stmt_layer (S.Assert e) = put_form (form.Assert e) (W.roll-PForm (S.Assert e)) (W.rolls-Assert e) (λ s. cases.asserts s e)
  stmt_layer (S.Assume e) = put_form (form.Assume e) (W.roll-PForm (S.Assume e)) (W.rolls-Assume e) (λ s. cases.assumes s e)
  stmt_layer (S.Minimize e) = put_form (form.Minimize e) (W.roll-PForm (S.Minimize e)) (W.rolls-Minimize e) (λ s. cases.minimizes s e)
  stmt_layer (S.Repeat c ss) = put_form (form.Repeat c (map (λ q. q.0) ss)) (W.roll-PForm (S.Repeat c (map (λ q. q.0) ss))) (W.rolls-Repeat c (map (λ q. q.0) ss)) (λ s. cases.repeats s c (map (λ q. q.0) ss) (each_of Q ss))
  stmt_layer (S.MinRepeat ss) = put_form (form.MinRepeat (map (λ q. q.0) ss)) (W.roll-PForm (S.MinRepeat (map (λ q. q.0) ss))) (W.rolls-MinRepeat (map (λ q. q.0) ss)) (λ s. cases.minrepeat s (map (λ q. q.0) ss) (each_of Q ss))
  stmt_layer (S.Reorder ss) = put_form (form.Reorder (map (λ q. q.0) ss)) (W.roll-PForm (S.Reorder (map (λ q. q.0) ss))) (W.rolls-Reorder (map (λ q. q.0) ss)) (λ s. cases.reorder s (map (λ q. q.0) ss) (each_of Q ss))

  pub stmt_ind : (s : PStmt) → Q s
  stmt_ind = ind-PStmt R_form Q
      (λ x y is. subst (λ z. R_form (W.roll-PForm z)) is (stmt_layer y))
      (λ x y is. subst (λ z. Q (W.roll-PStmt z)) is (y.form.1 y.span))
