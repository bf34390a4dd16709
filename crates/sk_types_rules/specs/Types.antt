-- Which typed program a tree means. A relation takes the typed part and the tree along: the typed part
-- keeps its rule, its parts mean the parts of the tree, and its span is the tree's. A coercion means the
-- same tree as its operand.
use Rattle.std.specs.Prelude.{◌≡◌, ◌≤◌, ◌<◌, ◌⊎◌, ℕ, ◌+◌, suc, max, nat_le, Bool, true, false, not, ◌&&◌, ◌||◌, IsTrue, List, [], ◌∷◌, ◌++◌, map, length, Option, Some, None, slice_get, pos, ◌==◌}
use Rattle.std.specs.List.{list_all, list_any}
use Rattle.sk_base.specs.declared.bounds.Bounds.{Bounds}
use Rattle.sk_tree.specs.declared.token.Mark.{Mark}
use Rattle.sk_tree.specs.declared.expr.Expr.{Expr}
use Rattle.sk_tree.specs.declared.expr.EForm.{EForm}
use Rattle.sk_tree.specs.declared.expr.EForm.TheVariants as eform
use Rattle.sk_tree.specs.declared.expr.EForm.TheOpen as E
use Rattle.sk_tree.specs.declared.expr.EForm.TheFolds.{fold-Expr}
use Rattle.sk_tree.specs.declared.expr.NewField.{NewField}
use Rattle.sk_tree.specs.declared.pattern.Pattern.{Pattern}
use Rattle.sk_tree.specs.declared.stmt.Stmt.{Stmt}
use Rattle.sk_tree.specs.declared.stmt.Form.{Form}
use Rattle.sk_tree.specs.declared.stmt.Form.TheVariants as form
use Rattle.sk_tree.specs.declared.stmt.Declared.{Declared}
use Rattle.sk_tree.specs.declared.item.TyTree.{TyTree}
use Rattle.sk_tree.specs.declared.item.Field.{Field}
use Rattle.sk_tree.specs.declared.item.Param.{Param}
use Rattle.sk_tree.specs.declared.item.FunKind.{FunKind}
use Rattle.sk_tree.specs.declared.item.FunKind.TheVariants as kind
use Rattle.sk_tree.specs.declared.item.FunItem.{FunItem}
use Rattle.sk_tree.specs.declared.item.Item.{Item}
use Rattle.sk_tree.specs.declared.item.Item.TheVariants as item
use Rattle.sk_tree.specs.declared.item.Tree.{Tree}
use Rattle.sk_prog.specs.declared.ty.Ty.{Ty}
use Rattle.sk_prog.specs.declared.ids.StructId.{StructId}
use Rattle.sk_prog.specs.declared.ids.FunId.{FunId}
use Rattle.sk_prog.specs.declared.expr.UnOp.{UnOp}
use Rattle.sk_prog.specs.declared.expr.UnOp.TheVariants as unary
use Rattle.sk_prog.specs.declared.expr.PExpr.{PExpr}
use Rattle.sk_prog.specs.declared.expr.PEForm.{PEForm}
use Rattle.sk_prog.specs.declared.expr.PEForm.TheVariants as pform
use Rattle.sk_prog.specs.declared.expr.PField.{PField}
use Rattle.sk_prog.specs.declared.expr.PEForm.TheOpen as P
use Rattle.sk_prog.specs.declared.expr.PEForm.TheFolds.{fold-PExpr, rec-PExpr}
use Rattle.sk_prog.specs.declared.stmt.PStmt.{PStmt}
use Rattle.sk_prog.specs.declared.stmt.PForm.{PForm}
use Rattle.sk_prog.specs.declared.stmt.PForm.TheOpen as S
use Rattle.sk_prog.specs.declared.stmt.PForm.TheFolds.{fold-PStmt, rec-PStmt}
use Rattle.sk_prog.specs.declared.prog.FunKind.{FunKind as PFunKind}
use Rattle.sk_prog.specs.declared.prog.FunKind.TheVariants as pkind
use Rattle.sk_prog.specs.declared.prog.FieldDef.{FieldDef}
use Rattle.sk_prog.specs.declared.prog.StructDef.{StructDef}
use Rattle.sk_prog.specs.declared.prog.ConstDef.{ConstDef}
use Rattle.sk_prog.specs.declared.prog.ParamDef.{ParamDef}
use Rattle.sk_prog.specs.declared.prog.Fun.{Fun}
use Rattle.sk_prog.specs.declared.prog.Prog.{Prog}
use Rattle.sk_types_rules.specs.declared.rules.Own.{Own}
use Rattle.sk_types_rules.specs.declared.rules.Own.TheVariants.{Wrong, Loose, Firm}
use Rattle.sk_types_rules.specs.declared.rules.Fit.TheVariants.{Pads}
use Rattle.sk_types_rules.specs.declared.rules.Class.{Class}
use Rattle.sk_types_rules.specs.declared.rules.Class.TheVariants.{Plus, Arithmetic, Order, Equality, Bitwise, Shift, Logic}
use Rattle.sk_types_rules.specs.declared.scope.Variable.{Variable}
use Rattle.sk_types_rules.specs.Rules.{int, bit, ty_eq, fit_of, is_reference, is_bits, element_of, count_of, holds_references, operator_of, unary_of, class_of, operand, result_of, loose_takes, shifted, flipped, number_stands, hole_takes, width_fits, in_range}
use Rattle.sk_types_rules.specs.Scope.{lookup, Nearest, is_taken, all_distinct, Signature, signature_of, Top, top_of, top_names, Known, Context, AStruct, AConstant, AFunction, meaning_of}
use Rattle.sk_types_rules.specs.Constants.{constant_number}
use Rattle.sk_types_rules.specs.Sorts.{own, kept, kept_targets, first_target, target_type, variable_type, reference_to, sliced, is_harness, written_type}
use Rattle.sk_types_rules.specs.Plain.{plain, steps_are_targets}

-- Expressions

-- What an expression, its form and a field of `new` mean: which trees they are. The form is asked with
-- the type of its expression, and a field with the struct that it is of.
abbrev pub ExprRule : Type 1
ExprRule = Expr → Type 0

abbrev pub EFormRule : Type 1
EFormRule = Option Ty → Expr → Type 0

abbrev pub FieldRule : Type 1
FieldRule = StructDef → NewField → Type 0

abbrev pub HasType : (Ty → Bool) → Option Ty → Type 0
HasType takes None = ⊥
HasType takes (Some t) = IsTrue (takes t)

-- The operand type is what the operands are together; it is any that the operator takes where they are
-- loose.
abbrev pub Wanted : Own → Bool → Ty → Type 0
Wanted Wrong may u = ⊥
Wanted Loose may u = IsTrue may
Wanted (Firm v) may u = v ≡ u

-- Two operands x and y as a and b, at the type that the operator wants of them, give its result.
pub record MeansOperation (k : Class) (x y : Own) (u : Ty) (a b t : Option Ty) : Type 0 where
  pub wanted : Wanted (operand k x y) (loose_takes k u) u
  pub left : a ≡ Some u
  pub right : b ≡ Some u
  pub result : t ≡ Some (result_of k u)

-- `&&` and `||` take bits and give a bit.
pub record MeansLogic (a b t : Option Ty) : Type 0 where
  pub left : a ≡ Some bit
  pub right : b ≡ Some bit
  pub result : t ≡ Some bit

-- A shift takes a firm `bit[n]` and a count, and gives the left type.
pub record MeansShift (x : Own) (u : Ty) (a b t : Option Ty) : Type 0 where
  pub shifted : shifted x ≡ Firm u
  pub left : a ≡ Some u
  pub right : b ≡ Some int
  pub result : t ≡ Some u

abbrev pub MeansBinary : Class → Own → Own → Ty → Option Ty → Option Ty → Option Ty → Type 0
MeansBinary Plus x y u a b t = MeansOperation Plus x y u a b t
MeansBinary Arithmetic x y u a b t = MeansOperation Arithmetic x y u a b t
MeansBinary Order x y u a b t = MeansOperation Order x y u a b t
MeansBinary Equality x y u a b t = MeansOperation Equality x y u a b t
MeansBinary Bitwise x y u a b t = MeansOperation Bitwise x y u a b t
MeansBinary Shift x y u a b t = MeansShift x u a b t
MeansBinary Logic x y u a b t = MeansLogic a b t

-- `!` takes a bit, `-` an integer, `~` bits; each gives what it takes.
abbrev pub MeansUnary : UnOp → Own → Ty → Type 0
MeansUnary unary.Not x u = u ≡ bit
MeansUnary unary.Neg x u = u ≡ int
MeansUnary unary.Flip x u = Wanted (flipped x) (is_bits u) u

abbrev pub eform_bare : E.EForm-F Bool Bool (Unit {0}) → Bool
eform_bare (E.Paren e) = false
eform_bare (E.Cond c a b) = false
eform_bare _ = true

-- Whether a coercion stands at the expression itself: of parentheses and of `c ? a : b` the parts are coerced.
abbrev pub is_bare : Expr → Bool
is_bare = fold-Expr Bool Bool (Unit {0}) eform_bare (λ x. x.form) (λ x. tt)

-- A coercion of a bare expression x with a type of its own that fits, from a to t: a bit becomes an integer.
pub record IsWidened (x : Own) (a t : Option Ty) : Type 0 where
  pub own : x ≡ Firm bit
  pub operand : a ≡ Some bit
  pub result : t ≡ Some int

-- Zeros come behind the elements of a bare expression.
pub record IsPadded (x : Own) (a t : Option Ty) : Type 0 where
  pub from : Ty
  pub to : Ty
  pub own : x ≡ Firm from
  pub operand : a ≡ Some from
  pub result : t ≡ Some to
  pub fit : fit_of from to ≡ Pads

-- Parts that mean expressions at this type.
abbrev pub EachMeans : {Y : Type 0} → (Y → PExpr) → (Y → ExprRule) → Ty → List Y → List Expr → Type 0
EachMeans v k t [] [] = Unit {0}
EachMeans v k t (p ∷ ps) (e ∷ es) = k p e × ((v p).ty ≡ Some t) × EachMeans v k t ps es
EachMeans v k t [] (e ∷ es) = ⊥
EachMeans v k t (p ∷ ps) [] = ⊥

-- An argument for `ref` is a variable of exactly the parameter's type.
abbrev pub MayBeRef : Bool → List Variable → Ty → EForm → Type 0
MayBeRef false scope t e = Unit {0}
MayBeRef true scope t e = variable_type scope e ≡ Some t

abbrev pub ArgumentsMean : {Y : Type 0} → (Y → PExpr) → (Y → ExprRule) → List Variable → List ParamDef → List Y → List Expr → Type 0
ArgumentsMean v k scope [] [] [] = Unit {0}
ArgumentsMean v k scope (d ∷ ds) (p ∷ ps) (e ∷ es) = k p e × ((v p).ty ≡ Some d.ty) × MayBeRef d.by_ref scope d.ty e.form × ArgumentsMean v k scope ds ps es
ArgumentsMean v k scope _ _ _ = ⊥

abbrev pub FieldsMean : {Z : Type 0} → (Z → FieldRule) → StructDef → List Z → List NewField → Type 0
FieldsMean n d [] [] = Unit {0}
FieldsMean n d (p ∷ ps) (e ∷ es) = n p d e × FieldsMean n d ps es
FieldsMean n d [] (e ∷ es) = ⊥
FieldsMean n d (p ∷ ps) [] = ⊥

abbrev pub IsMore : {Y : Type 0} → List Y → Type 0
IsMore [] = ⊥
IsMore (p ∷ ps) = Unit {0}

-- A function that is called: the one that the name means, and no harness.
pub record IsCallee (top : Top) (scope : List Variable) (x : List ℕ) (f : FunId) (s : Signature) : Type 0 where
  pub meaning : meaning_of top scope x ≡ AFunction f
  pub there : slice_get top.funs f.index ≡ Some s
  pub callable : is_harness s.kind ≡ false

-- the struct that a name means
pub record IsStruct (top : Top) (scope : List Variable) (x : List ℕ) (s : StructId) (d : StructDef) : Type 0 where
  pub meaning : meaning_of top scope x ≡ AStruct s
  pub there : slice_get top.structs s.index ≡ Some d

-- a field of a struct, by its place, its name and its type
pub record IsField (d : StructDef) (i : ℕ) (x : List ℕ) (t : Ty) : Type 0 where
  pub there : slice_get d.fields i ≡ Some (record { name = x; ty = t })

module _ (context : Context) (scope : List Variable) where
  abbrev pub eform_means : (X Y Z : Type 0) → (X → PEForm) → (Y → PExpr) → (Z → PField) → (X → EFormRule) → (Y → ExprRule) → (Z → FieldRule) → P.PEForm-F X Y Z → EFormRule
  eform_means X Y Z u v w f k n (P.Number i) t e = (e.form ≡ eform.Number i) × IsTrue (in_range context.bounds i) × HasType (number_stands i) t
  eform_means X Y Z u v w f k n P.True t e = (e.form ≡ eform.True) × (t ≡ Some bit)
  eform_means X Y Z u v w f k n P.False t e = (e.form ≡ eform.False) × (t ≡ Some bit)
  eform_means X Y Z u v w f k n P.Null t e = (e.form ≡ eform.Null) × HasType is_reference t
  eform_means X Y Z u v w f k n (P.Var slot x) t e = (e.form ≡ eform.Word x) × (s : Ty) × (t ≡ Some s) × Nearest scope x slot s
  eform_means X Y Z u v w f k n (P.Const c) t e = (x : List ℕ) × (e.form ≡ eform.Word x) × (meaning_of context.top scope x ≡ AConstant c) × (t ≡ Some int)
  eform_means X Y Z u v w f k n (P.Hole i) t e = (e.form ≡ eform.Hole i) × IsTrue (width_fits context.bounds i) × HasType hole_takes t
  eform_means X Y Z u v w f k n (P.Pattern ps) t e = (g : Pattern) × (es : List Expr) × (e.form ≡ eform.Pattern g es) × (s : Ty) × (t ≡ Some s) × IsMore ps × EachMeans v k s ps (kept context scope s es)
  eform_means X Y Z u v w f k n (P.Paren a) t e = (x : Expr) × (e.form ≡ eform.Paren x) × k a x × (s : Ty) × ((v a).ty ≡ Some s) × (t ≡ Some s)
  eform_means X Y Z u v w f k n (P.Call g args) t e = (x : List ℕ) × (es : List Expr) × (e.form ≡ eform.Call x es) × (s : Signature) × IsCallee context.top scope x g s × ArgumentsMean v k scope s.params args es × (t ≡ s.result)
  eform_means X Y Z u v w f k n (P.New s fields) t e = (x : List ℕ) × (es : List NewField) × (e.form ≡ eform.New x es) × (d : StructDef) × IsStruct context.top scope x s d × FieldsMean n d fields es × IsTrue (all_distinct (map (λ (y : NewField). y.name) es)) × (t ≡ Some (reference_to s))
  eform_means X Y Z u v w f k n (P.Braces ps) t e = (es : List Expr) × (e.form ≡ eform.Braces es) × IsMore ps × (s : Ty) × EachMeans v k s ps es × (r : Ty) × (element_of r ≡ Some s) × (length ps ≤ count_of r) × (t ≡ Some r)
  eform_means X Y Z u v w f k n (P.Member a s i) t e = (x : Expr) × (y : List ℕ) × (e.form ≡ eform.Member x y) × k a x × (own context scope x ≡ Firm (reference_to s)) × ((v a).ty ≡ Some (reference_to s)) × (d : StructDef) × (slice_get context.top.structs s.index ≡ Some d) × (r : Ty) × IsField d i y r × (t ≡ Some r)
  eform_means X Y Z u v w f k n (P.Index a i) t e = (x y : Expr) × (e.form ≡ eform.Index x y) × k a x × k i y × (s : Ty) × (own context scope x ≡ Firm s) × ((v a).ty ≡ Some s) × ((v i).ty ≡ Some int) × (r : Ty) × (element_of s ≡ Some r) × (t ≡ Some r)
  eform_means X Y Z u v w f k n (P.Slice a i m) t e = (x y z : Expr) × (e.form ≡ eform.Slice x y z) × k a x × k i y × (s : Ty) × (own context scope x ≡ Firm s) × ((v a).ty ≡ Some s) × ((v i).ty ≡ Some int) × (constant_number context scope z ≡ Some m) × (r : Ty) × (sliced s m ≡ Some r) × (t ≡ Some r)
  eform_means X Y Z u v w f k n (P.Unary op a) t e = (m : Mark) × (x : Expr) × (e.form ≡ eform.Unary m x) × (unary_of m ≡ Some op) × k a x × (s : Ty) × MeansUnary op (own context scope x) s × ((v a).ty ≡ Some s) × (t ≡ Some s)
  eform_means X Y Z u v w f k n (P.Binary op a b) t e = (m : Mark) × (x y : Expr) × (e.form ≡ eform.Binary m x y) × (operator_of m ≡ Some op) × k a x × k b y × (s : Ty) × MeansBinary (class_of op) (own context scope x) (own context scope y) s (v a).ty (v b).ty t
  eform_means X Y Z u v w f k n (P.Cond c a b) t e = (z x y : Expr) × (e.form ≡ eform.Cond z x y) × k c z × k a x × k b y × ((v c).ty ≡ Some bit) × (s : Ty) × ((v a).ty ≡ Some s) × ((v b).ty ≡ Some s) × (t ≡ Some s)
  eform_means X Y Z u v w f k n (P.ToInt a) t e = k a e × IsTrue (is_bare e) × IsWidened (own context scope e) (v a).ty t
  eform_means X Y Z u v w f k n (P.Pad a) t e = k a e × IsTrue (is_bare e) × IsPadded (own context scope e) (v a).ty t

  abbrev pub expr_means : (X Y Z : Type 0) → (X → PEForm) → (Y → PExpr) → (Z → PField) → (X → EFormRule) → (Y → ExprRule) → (Z → FieldRule) → P.PExpr-F X Y Z → ExprRule
  expr_means X Y Z u v w f k n p e = (p.span ≡ e.span) × f p.form p.ty e

  -- a field that `new` names is there, and its value is at its type
  abbrev pub field_means : (X Y Z : Type 0) → (X → PEForm) → (Y → PExpr) → (Z → PField) → (X → EFormRule) → (Y → ExprRule) → (Z → FieldRule) → P.PField-F X Y Z → FieldRule
  field_means X Y Z u v w f k n p d e = (t : Ty) × IsField d p.field e.name t × k p.value e.value × ((v p.value).ty ≡ Some t)

  -- p is the expression e, with types, slots and coercions by the rules
  abbrev pub Means : PExpr → ExprRule
  Means = rec-PExpr EFormRule ExprRule FieldRule eform_means expr_means field_means

  -- p is what e means where t is wanted
  pub record IsAt (t : Ty) (p : PExpr) (e : Expr) : Type 0 where
    pub means : Means p e
    pub type : p.ty ≡ Some t

  abbrev pub AnyAt : Ty → Option PExpr → Option Expr → Type 0
  AnyAt t None None = Unit {0}
  AnyAt t (Some p) (Some e) = IsAt t p e
  AnyAt t None (Some e) = ⊥
  AnyAt t (Some p) None = ⊥

  -- a target of this type: a variable, or a field or an element of a target
  pub record IsPlace (t : Ty) (p : PExpr) (e : Expr) : Type 0 where
    pub is_at : IsAt t p e
    pub target : target_type context scope e ≡ Some t

  -- a pattern as target: the type of its first string that is a target, and the targets of that type
  pub record IsTargetPattern (t : Ty) (p : PExpr) (e : Expr) : Type 0 where
    pub pattern : Pattern
    pub strings : List Expr
    pub parts : List PExpr
    pub tree : e.form ≡ eform.Pattern pattern strings
    pub made : p ≡ record { span = e.span; ty = Some t; form = pform.Pattern parts }
    pub first : first_target context scope strings ≡ Some t
    pub kept : EachMeans (λ q. q) Means t parts (kept_targets context scope t strings)

  abbrev pub IsTarget : Ty → PExpr → Expr → Type 0
  IsTarget t p e = IsPlace t p e ⊎ IsTargetPattern t p e

-- Scopes

abbrev pub Grows : Type 0
Grows = List Variable → List Variable

abbrev pub form_after : S.PForm-F Grows Grows → Grows
form_after (S.Declare slot x t value) scope = scope ++ record { name = x; ty = t } ∷ []
form_after _ scope = scope

-- The variables in scope after a statement: a declaration is in scope after itself, up to the end of its block.
abbrev pub after : PStmt → Grows
after = fold-PStmt Grows Grows form_after (λ s. s.form)

-- how many variables a statement adds to its block, and the greatest number in scope at one place of it, from
-- the number before it
pub record Room : Type 0 where
  pub adds : ℕ
  pub most : ℕ → ℕ

abbrev pub inside : (ℕ → ℕ) → Room
inside most = record { adds = 0; most = most }

abbrev pub most_of : List Room → ℕ → ℕ
most_of [] n = n
most_of (s ∷ ss) n = max (s.most n) (most_of ss (s.adds + n))

abbrev pub any_most : Option Room → ℕ → ℕ
any_most None n = n
any_most (Some s) n = s.most n

abbrev pub form_room : S.PForm-F Room Room → Room
form_room (S.Declare slot x t value) = record { adds = 1; most = λ n. suc n }
form_room (S.Block ss) = inside (most_of ss)
form_room (S.If c a b) = inside (λ n. max (a.most n) (any_most b n))
form_room (S.While c a) = inside a.most
form_room (S.Repeat c ss) = inside (most_of ss)
form_room (S.MinRepeat ss) = inside (most_of ss)
form_room (S.Reorder ss) = inside (most_of ss)
form_room (S.Assign p q) = inside (λ n. n)
form_room (S.Call p) = inside (λ n. n)
form_room (S.Return p) = inside (λ n. n)
form_room (S.Assert p) = inside (λ n. n)
form_room (S.Assume p) = inside (λ n. n)
form_room (S.Minimize p) = inside (λ n. n)

abbrev pub room : PStmt → Room
room = fold-PStmt Room Room form_room (λ s. s.form)

-- the greatest number of variables in scope at one place of these statements, from the number before them
abbrev pub most : List PStmt → ℕ → ℕ
most ps n = most_of (map room ps) n

-- Statements

-- What a statement means, from the slot at which the variables of its block begin and the variables in
-- scope before it.
abbrev pub StmtRule : Type 1
StmtRule = ℕ → List Variable → Stmt → Type 0

abbrev pub FormRule : Type 1
FormRule = ℕ → List Variable → Form → Type 0

-- statements that follow each other in one block
abbrev pub BlockMeans : {Y : Type 0} → (Y → PStmt) → (Y → StmtRule) → ℕ → List Variable → List Y → List Stmt → Type 0
BlockMeans v k from scope [] [] = Unit {0}
BlockMeans v k from scope (p ∷ ps) (e ∷ es) = k p from scope e × BlockMeans v k from (after (v p) scope) ps es
BlockMeans v k from scope [] (e ∷ es) = ⊥
BlockMeans v k from scope (p ∷ ps) [] = ⊥

abbrev pub AnyMeans : {Y : Type 0} → (Y → StmtRule) → ℕ → List Variable → Option Y → Option Stmt → Type 0
AnyMeans k from scope None None = Unit {0}
AnyMeans k from scope (Some p) (Some e) = k p from scope e
AnyMeans k from scope None (Some e) = ⊥
AnyMeans k from scope (Some p) None = ⊥

-- A repeat holds one copy of its body before expansion.
abbrev pub OneMeans : {Y : Type 0} → (Y → StmtRule) → ℕ → List Variable → List Y → Stmt → Type 0
OneMeans k from scope (p ∷ []) e = k p from scope e
OneMeans k from scope _ e = ⊥

abbrev pub form_declares : S.PForm-F Bool Bool → Bool
form_declares (S.Declare slot x t value) = true
form_declares _ = false

abbrev pub is_declaration : PStmt → Bool
is_declaration = fold-PStmt Bool Bool form_declares (λ s. s.form)

-- The block of a `reorder` has at most 6 statements, and no declaration stands among them.
abbrev pub may_reorder : List PStmt → Bool
may_reorder ps = nat_le (length ps) 6 && not (list_any is_declaration ps)

-- a call as it stands, uncoerced
abbrev pub form_calls : P.PEForm-F Bool Bool (Unit {0}) → Bool
form_calls (P.Call f args) = true
form_calls _ = false

abbrev pub is_call : PExpr → Bool
is_call = fold-PExpr Bool Bool (Unit {0}) form_calls (λ p. p.form) (λ p. tt)

module _ (context : Context) (result : Option Ty) where
  -- A declaration takes the next slot. Its value does not see the name that it declares, and its block
  -- does not declare the name a second time.
  pub record MeansDeclare (from : ℕ) (scope : List Variable) (slot : ℕ) (x : List ℕ) (t : Ty) (p : Option PExpr) (y : TyTree) (d : Declared) : Type 0 where
    pub name : x ≡ d.name
    pub type : written_type context scope y ≡ Some t
    pub next : slot ≡ length scope
    pub once : is_taken from (lookup scope d.name) ≡ false
    pub value : AnyAt context scope t p d.value

  -- The value of an assignment is of its target's type.
  pub record MeansAssign (scope : List Variable) (t : Ty) (p q : PExpr) (x y : Expr) : Type 0 where
    pub target : IsTarget context scope t p x
    pub value : IsAt context scope t q y

  -- A void function returns nothing, and each other one a value of its result's type.
  abbrev pub ReturnMeans : List Variable → Option Ty → Option PExpr → Option Expr → Type 0
  ReturnMeans scope None None None = Unit {0}
  ReturnMeans scope (Some t) (Some p) (Some e) = IsAt context scope t p e
  ReturnMeans scope _ _ _ = ⊥

  -- A repeat's count is a hole, or a constant expression, which becomes its number.
  abbrev pub CountMeans : List Variable → PExpr → Expr → Type 0
  CountMeans scope p e =
      ((i : Option ℕ) × (e.form ≡ eform.Hole i) × IsAt context scope int p e)
      ⊎ ((n : ℕ) × (constant_number context scope e ≡ Some n) × (n ≤ 64) × (p ≡ record { span = e.span; ty = Some int; form = pform.Number n }))

  abbrev pub form_means : (X Y : Type 0) → (X → PForm) → (Y → PStmt) → (X → FormRule) → (Y → StmtRule) → S.PForm-F X Y → FormRule
  form_means X Y u v f k (S.Block ps) from scope e = (es : List Stmt) × (e ≡ form.Block es) × BlockMeans v k (length scope) scope ps es
  form_means X Y u v f k (S.Declare slot x t value) from scope e = (y : TyTree) × (d : Declared) × (e ≡ form.Declare y (d ∷ [])) × MeansDeclare from scope slot x t value y d
  form_means X Y u v f k (S.Assign p q) from scope e = (x y : Expr) × (e ≡ form.Assign x y) × (t : Ty) × MeansAssign scope t p q x y
  form_means X Y u v f k (S.Call p) from scope e = (x : Expr) × (e ≡ form.Call x) × IsTrue (is_call p) × Means context scope p x
  form_means X Y u v f k (S.If p a b) from scope e = (x : Expr) × (y : Stmt) × (z : Option Stmt) × (e ≡ form.If x y z) × IsAt context scope bit p x × k a from scope y × AnyMeans k from scope b z
  form_means X Y u v f k (S.While p a) from scope e = (x : Expr) × (y : Stmt) × (e ≡ form.While x y) × IsAt context scope bit p x × k a from scope y
  form_means X Y u v f k (S.Return p) from scope e = (x : Option Expr) × (e ≡ form.Return x) × ReturnMeans scope result p x
  form_means X Y u v f k (S.Assert p) from scope e = (x : Expr) × (e ≡ form.Assert x) × IsAt context scope bit p x
  form_means X Y u v f k (S.Assume p) from scope e = (x : Expr) × (e ≡ form.Assume x) × IsAt context scope bit p x
  form_means X Y u v f k (S.Minimize p) from scope e = (x : Expr) × (e ≡ form.Minimize x) × IsAt context scope int p x
  form_means X Y u v f k (S.Repeat p copies) from scope e = (x : Expr) × (y : Stmt) × (e ≡ form.Repeat x y) × CountMeans scope p x × OneMeans k from scope copies y
  form_means X Y u v f k (S.MinRepeat copies) from scope e = (y : Stmt) × (e ≡ form.MinRepeat y) × OneMeans k from scope copies y
  form_means X Y u v f k (S.Reorder ps) from scope e = (es : List Stmt) × (e ≡ form.Reorder es) × IsTrue (may_reorder (map v ps)) × BlockMeans v k (length scope) scope ps es

  abbrev pub stmt_means : (X Y : Type 0) → (X → PForm) → (Y → PStmt) → (X → FormRule) → (Y → StmtRule) → S.PStmt-F X Y → StmtRule
  stmt_means X Y u v f k p from scope e = (p.span ≡ e.span) × f p.form from scope e.form

  -- p is the statement e, by the rules
  abbrev pub StmtMeans : PStmt → StmtRule
  StmtMeans = rec-PStmt FormRule StmtRule form_means stmt_means

  abbrev pub AllMean : ℕ → List Variable → List PStmt → List Stmt → Type 0
  AllMean from scope ps es = BlockMeans (λ p. p) StmtMeans from scope ps es

-- Functions

-- The types of a signature see no variables.
pub record ParamMeans (context : Context) (p : Param) (d : ParamDef) : Type 0 where
  pub name : d.name ≡ p.name
  pub type : written_type context [] p.ty ≡ Some d.ty
  pub by_ref : d.by_ref ≡ p.by_ref

abbrev pub ParamsMean : Context → List Param → List ParamDef → Type 0
ParamsMean context [] [] = Unit {0}
ParamsMean context (p ∷ ps) (d ∷ ds) = ParamMeans context p d × ParamsMean context ps ds
ParamsMean context [] (d ∷ ds) = ⊥
ParamsMean context (p ∷ ps) [] = ⊥

-- The parameters are the first variables of a function; its body goes on in the same block.
abbrev pub variable_of : ParamDef → Variable
variable_of d = record { name = d.name; ty = d.ty }

abbrev pub parameters : List ParamDef → List Variable
parameters ds = map variable_of ds

abbrev pub kind_of : FunKind → PFunKind
kind_of kind.Plain = pkind.Plain
kind_of kind.Harness = pkind.Harness
kind_of kind.Generator = pkind.Generator

abbrev pub ResultMeans : Context → Option TyTree → Option Ty → Type 0
ResultMeans context None None = Unit {0}
ResultMeans context (Some y) (Some t) = written_type context [] y ≡ Some t
ResultMeans context None (Some t) = ⊥
ResultMeans context (Some y) None = ⊥

abbrev pub any_references : Option Ty → Bool
any_references None = false
any_references (Some t) = holds_references t

-- whether a parameter or the result holds references
abbrev pub speaks_of_records : List ParamDef → Option Ty → Bool
speaks_of_records ds t = list_any (λ (d : ParamDef). holds_references d.ty) ds || any_references t

-- A harness has no `ref` parameter, and its parameters and its result hold no references.
abbrev pub may_be : PFunKind → List ParamDef → Option Ty → Bool
may_be pkind.Harness ds t = list_all (λ (d : ParamDef). not d.by_ref) ds && not (speaks_of_records ds t)
may_be pkind.Plain ds t = true
may_be pkind.Generator ds t = true

abbrev pub is_generator : PFunKind → Bool
is_generator pkind.Generator = true
is_generator pkind.Plain = false
is_generator pkind.Harness = false

abbrev pub same_bool : Bool → Bool → Bool
same_bool true b = b
same_bool false b = not b

-- the same types and the same marks `ref`, in order
abbrev pub same_params : List ParamDef → List ParamDef → Bool
same_params [] [] = true
same_params (a ∷ as') (b ∷ bs) = ty_eq a.ty b.ty && (same_bool a.by_ref b.by_ref && same_params as' bs)
same_params [] (b ∷ bs) = false
same_params (a ∷ as') [] = false

abbrev pub same_result : Option Ty → Option Ty → Bool
same_result None None = true
same_result (Some a) (Some b) = ty_eq a b
same_result None (Some b) = false
same_result (Some a) None = false

-- A function implements another with the same parameters and result, which hold no references; neither is a
-- generator.
abbrev pub may_implement : Signature → Signature → Bool
may_implement f g = not (is_generator f.kind || is_generator g.kind) && (same_params f.params g.params && (same_result f.result g.result && not (speaks_of_records g.params g.result)))

abbrev pub ImplementsMeans : Top → Signature → Option (List ℕ) → Option FunId → Type 0
ImplementsMeans top f None None = Unit {0}
ImplementsMeans top f (Some x) (Some i) = (meaning_of top [] x ≡ AFunction i) × (g : Signature) × (slice_get top.funs i.index ≡ Some g) × IsTrue (may_implement f g)
ImplementsMeans top f None (Some i) = ⊥
ImplementsMeans top f (Some x) None = ⊥

pub record FunMeans (context : Context) (g : FunItem) (f : Fun) : Type 0 where
  pub name : f.name ≡ g.name
  pub kind : f.kind ≡ kind_of g.kind
  pub result : ResultMeans context g.result f.result
  pub implements : ImplementsMeans context.top (signature_of f) g.implements f.implements
  pub params : ParamsMean context g.params f.params
  pub signature : IsTrue (may_be f.kind f.params f.result)
  pub distinct : IsTrue (all_distinct (map (λ (d : ParamDef). d.name) f.params))
  pub body : AllMean context f.result 0 (parameters f.params) f.body g.body
  pub slots : f.slots ≡ most f.body (length f.params)

-- Structs and constants

abbrev pub StructFieldsMean : Context → List Field → List FieldDef → Type 0
StructFieldsMean context [] [] = Unit {0}
StructFieldsMean context (y ∷ ys) (d ∷ ds) = (d.name ≡ y.name) × (written_type context [] y.ty ≡ Some d.ty) × StructFieldsMean context ys ds
StructFieldsMean context [] (d ∷ ds) = ⊥
StructFieldsMean context (y ∷ ys) [] = ⊥

-- A struct names no field twice.
pub record StructMeans (context : Context) (x : List ℕ) (ys : List Field) (d : StructDef) : Type 0 where
  pub name : d.name ≡ x
  pub fields : StructFieldsMean context ys d.fields
  pub distinct : IsTrue (all_distinct (map (λ (y : FieldDef). y.name) d.fields))

-- A constant is a constant expression, with its number.
pub record ConstMeans (context : Context) (x : List ℕ) (e : Expr) (n : ℕ) (c : ConstDef) : Type 0 where
  pub name : c.name ≡ x
  pub value : IsAt context [] int c.value e
  pub number : constant_number context [] e ≡ Some n
  pub same : c.number ≡ pos n

-- The program

-- Each item is a struct, a constant or a function of the program, in order of the text. The constants that
-- stand before an item are known in it. A plain tree holds no pragma.
abbrev pub ItemsMean : Bounds → Top → List Known → List Item → List StructDef → List ConstDef → List Fun → Type 0
ItemsMean bounds top known [] [] [] [] = Unit {0}
ItemsMean bounds top known (item.Struct x ys ∷ is) (d ∷ ds) cs fs = StructMeans (record { bounds = bounds; top = top; known = known }) x ys d × ItemsMean bounds top known is ds cs fs
ItemsMean bounds top known (item.Const x e ∷ is) ds (c ∷ cs) fs = (n : ℕ) × ConstMeans (record { bounds = bounds; top = top; known = known }) x e n c × ItemsMean bounds top (known ++ record { name = x; number = n } ∷ []) is ds cs fs
ItemsMean bounds top known (item.Fun g ∷ is) ds cs (f ∷ fs) = FunMeans (record { bounds = bounds; top = top; known = known }) g f × ItemsMean bounds top known is ds cs fs
ItemsMean bounds top known _ _ _ _ = ⊥

-- Names that copies of generators get: in a text with a generator none is declared that ends with `__` and digits.

abbrev pub is_digit : ℕ → Bool
is_digit b = nat_le 48 b && nat_le b 57

abbrev pub is_digits : List ℕ → Bool
is_digits [] = false
is_digits (b ∷ bs) = list_all is_digit (b ∷ bs)

abbrev pub is_copy_mark : List ℕ → Bool
is_copy_mark (a ∷ b ∷ bs) = (a == 95 && b == 95) && is_digits bs
is_copy_mark _ = false

abbrev pub ends_as_copy : List ℕ → Bool
ends_as_copy [] = false
ends_as_copy (b ∷ bs) = is_copy_mark (b ∷ bs) || ends_as_copy bs

abbrev pub is_yes : Bool → Bool
is_yes b = b

abbrev pub any_yes : Option Bool → Bool
any_yes None = true
any_yes (Some b) = b

abbrev pub is_free : List ℕ → Bool
is_free x = not (ends_as_copy x)

abbrev pub form_free : S.PForm-F Bool Bool → Bool
form_free (S.Declare slot x t value) = is_free x
form_free (S.Block ss) = list_all is_yes ss
form_free (S.If c a b) = a && any_yes b
form_free (S.While c a) = a
form_free (S.Repeat c ss) = list_all is_yes ss
form_free (S.MinRepeat ss) = list_all is_yes ss
form_free (S.Reorder ss) = list_all is_yes ss
form_free (S.Assign p q) = true
form_free (S.Call p) = true
form_free (S.Return p) = true
form_free (S.Assert p) = true
form_free (S.Assume p) = true
form_free (S.Minimize p) = true

-- whether all variables that a statement declares have such names
abbrev pub stmt_free : PStmt → Bool
stmt_free = fold-PStmt Bool Bool form_free (λ s. s.form)

abbrev pub fun_free : Fun → Bool
fun_free f = list_all (λ (d : ParamDef). is_free d.name) f.params && list_all stmt_free f.body

abbrev pub struct_free : StructDef → Bool
struct_free d = list_all (λ (y : FieldDef). is_free y.name) d.fields

-- whether no name that is declared ends as those of copies do
abbrev pub names_free : Prog → Bool
names_free prog = list_all is_free (top_names (top_of prog)) && (list_all struct_free prog.structs && list_all fun_free prog.funs)

abbrev pub has_generator : Prog → Bool
has_generator prog = list_any (λ (f : Fun). is_generator f.kind) prog.funs

-- prog is what the tree means
pub record Types (tree : Tree) (bounds : Bounds) (prog : Prog) : Type 0 where
  pub steps : IsTrue (steps_are_targets tree)
  pub items : ItemsMean bounds (top_of prog) [] (plain tree).items prog.structs prog.consts prog.funs
  pub distinct : IsTrue (all_distinct (top_names (top_of prog)))
  pub kept : IsTrue (not (has_generator prog) || names_free prog)
