-- The expansion of a program: each repeat holds its copies, and each call of a generator is a call of a
-- copy of its own.
--
-- A repeat by a constant n holds n copies of its body. A repeat by a hole of b bits, and a minrepeat
-- with the width for all holes, holds as many as the least of 2^b - 1, the bound on turns, and the
-- greatest integer.
--
-- The ordinary functions are walked in order, their statements and expressions in the order of the
-- text. Each call of a generator that is met becomes a call of a new plain function NAME__k, where k
-- counts all copies from 1. The body of the copy is walked at once, then the arguments of the call, then
-- what follows. Where as many copies of a generator are being walked, one inside another, as the
-- inlining bound says, the body of one more is `assert false;` with the span of its call. Generators
-- are left out; the ordinary functions keep their order, and the copies stand behind them in the order
-- of k.
use Rattle.std.specs.Prelude.{ℕ, zero, suc, ◌+◌, ◌-◌, ◌^◌, min, Bool, true, false, not, List, [], ◌∷◌, ◌++◌, map, length, replicate, slice_get, slice_set, slice_index_or, codes, Option, Some, None, if◌then◌else◌}
use Rattle.std.specs.Fmt.{decimal}
use Rattle.sk_base.specs.declared.span.Span.{Span}
use Rattle.sk_base.specs.declared.bounds.Bounds.{Bounds}
use Rattle.sk_prog.specs.declared.ids.FunId.{FunId}
use Rattle.sk_prog.specs.declared.ty.Ty.TheVariants as ty
use Rattle.sk_prog.specs.declared.ty.Elem.TheVariants as elem
use Rattle.sk_prog.specs.declared.expr.PExpr.{PExpr}
use Rattle.sk_prog.specs.declared.expr.PField.{PField}
use Rattle.sk_prog.specs.declared.expr.PEForm.{PEForm}
use Rattle.sk_prog.specs.declared.expr.PEForm.TheVariants as eform
use Rattle.sk_prog.specs.declared.expr.PEForm.TheOpen as P
use Rattle.sk_prog.specs.declared.expr.PEForm.TheFolds.{fold-PExpr}
use Rattle.sk_prog.specs.declared.stmt.PStmt.{PStmt}
use Rattle.sk_prog.specs.declared.stmt.PForm.{PForm}
use Rattle.sk_prog.specs.declared.stmt.PForm.TheVariants as form
use Rattle.sk_prog.specs.declared.stmt.PForm.TheOpen as S
use Rattle.sk_prog.specs.declared.stmt.PForm.TheFolds.{fold-PStmt}
use Rattle.sk_prog.specs.declared.prog.FunKind.{FunKind}
use Rattle.sk_prog.specs.declared.prog.FunKind.TheVariants as kind
use Rattle.sk_prog.specs.declared.prog.Fun.{Fun}
use Rattle.sk_prog.specs.declared.prog.Prog.{Prog}
use Rattle.sk_model.specs.declared.expanded.Expanded.{Expanded}
use Rattle.sk_model.specs.Parts.{rank, total}
use Rattle.sk_model.specs.Slots.{with_body}
use Rattle.sk_model.specs.Sites.{hole_bits, sites}

-- Walks

-- what a walk makes: what a part becomes, and the copies that are made on the way
pub record Made (A : Type 0) : Type 0 where
  pub made : A
  pub copies : List Fun

-- a walk, where so many copies are made before it
abbrev pub Walk : Type 0 → Type 0
Walk A = ℕ → Made A

abbrev pub pure : {A : Type 0} → A → Walk A
pure a = λ k. record { made = a; copies = [] }

abbrev pub as_made : {A B : Type 0} → (A → B) → Made A → Made B
as_made f m = record { made = f m.made; copies = m.copies }

-- the same walk, with what comes of what it makes
abbrev pub as_walk : {A B : Type 0} → (A → B) → Walk A → Walk B
as_walk f w = λ k. as_made f (w k)

abbrev pub behind : {A B : Type 0} → Made A → Made B → Made B
behind m n = record { made = n.made; copies = m.copies ++ n.copies }

abbrev pub go_on : {A B : Type 0} → Made A → (A → Walk B) → ℕ → Made B
go_on m f k = behind m (f m.made (k + length m.copies))

-- one walk and then another
infixl 10 ◌>>=◌
abbrev pub ◌>>=◌ : {A B : Type 0} → Walk A → (A → Walk B) → Walk B
w >>= f = λ k. go_on (w k) f k

abbrev pub in_order : {A : Type 0} → List (Walk A) → Walk (List A)
in_order [] = pure []
in_order (w ∷ ws) = w >>= (λ x. as_walk (λ xs. x ∷ xs) (in_order ws))

-- so many times the same
abbrev pub times : {A : Type 0} → ℕ → Walk (List A) → Walk (List A)
times zero w = pure []
times (suc n) w = w >>= (λ xs. as_walk (λ ys. xs ++ ys) (times n w))

abbrev pub if_any : {A : Type 0} → Option (Walk A) → Walk (Option A)
if_any None = pure None
if_any (Some w) = as_walk (λ x. Some x) w

-- Repeats

-- how many copies are held that a hole of so many bits may keep
abbrev pub most_copies : Bounds → ℕ → ℕ
most_copies bounds bits = min (2 ^ bits - 1) (min bounds.unroll (2 ^ (bounds.int_bits - 1) - 1))

-- how many copies a repeat with this count holds; a count is a number or a hole
abbrev pub copies_held : Bounds → PEForm → ℕ
copies_held bounds (eform.Number n) = n
copies_held bounds (eform.Hole width) = most_copies bounds (hole_bits bounds width)
copies_held bounds _ = 0

-- Expressions and statements

-- what a call of a function becomes, where the call has this span: a call of the function with the number
-- that is made
abbrev pub CallWalk : Type 0
CallWalk = Span → ℕ → Walk ℕ

abbrev pub fun_id : ℕ → FunId
fun_id n = record { index = n }

module _ (bounds : Bounds) (call : CallWalk) where
  abbrev pub eform_walk : P.PEForm-F (Span → Walk PEForm) (Walk PExpr) (Walk PField) → Span → Walk PEForm
  eform_walk (P.Call f args) span = call span f.index >>= (λ g. as_walk (λ xs. eform.Call (fun_id g) xs) (in_order args))
  eform_walk (P.Number n) span = pure (eform.Number n)
  eform_walk P.True span = pure eform.True
  eform_walk P.False span = pure eform.False
  eform_walk P.Null span = pure eform.Null
  eform_walk (P.Var slot name) span = pure (eform.Var slot name)
  eform_walk (P.Const c) span = pure (eform.Const c)
  eform_walk (P.Hole width) span = pure (eform.Hole width)
  eform_walk (P.Pattern strings) span = as_walk (λ xs. eform.Pattern xs) (in_order strings)
  eform_walk (P.Paren e) span = as_walk (λ x. eform.Paren x) e
  eform_walk (P.New s fields) span = as_walk (λ xs. eform.New s xs) (in_order fields)
  eform_walk (P.Braces es) span = as_walk (λ xs. eform.Braces xs) (in_order es)
  eform_walk (P.Member e s field) span = as_walk (λ x. eform.Member x s field) e
  eform_walk (P.Index e i) span = e >>= (λ x. as_walk (λ y. eform.Index x y) i)
  eform_walk (P.Slice e i n) span = e >>= (λ x. as_walk (λ y. eform.Slice x y n) i)
  eform_walk (P.Unary op e) span = as_walk (λ x. eform.Unary op x) e
  eform_walk (P.Binary op a b) span = a >>= (λ x. as_walk (λ y. eform.Binary op x y) b)
  eform_walk (P.Cond c a b) span = c >>= (λ x. a >>= (λ y. as_walk (λ z. eform.Cond x y z) b))
  eform_walk (P.ToInt e) span = as_walk (λ x. eform.ToInt x) e
  eform_walk (P.Pad e) span = as_walk (λ x. eform.Pad x) e

  abbrev pub expr_step : P.PExpr-F (Span → Walk PEForm) (Walk PExpr) (Walk PField) → Walk PExpr
  expr_step e = as_walk (λ form. record { span = e.span; ty = e.ty; form = form }) (e.form e.span)

  abbrev pub field_step : P.PField-F (Span → Walk PEForm) (Walk PExpr) (Walk PField) → Walk PField
  field_step x = as_walk (λ value. record { field = x.field; value = value }) x.value

  abbrev pub walk_expr : PExpr → Walk PExpr
  walk_expr = fold-PExpr (Span → Walk PEForm) (Walk PExpr) (Walk PField) eform_walk expr_step field_step

  abbrev pub walk_value : Option PExpr → Walk (Option PExpr)
  walk_value None = pure None
  walk_value (Some e) = as_walk (λ x. Some x) (walk_expr e)

  abbrev pub form_walk : S.PForm-F (Walk PForm) (Walk PStmt) → Walk PForm
  form_walk (S.Repeat count copies) = as_walk (λ xs. form.Repeat count xs) (times (copies_held bounds count.form) (in_order copies))
  form_walk (S.MinRepeat copies) = as_walk (λ xs. form.MinRepeat xs) (times (most_copies bounds bounds.cbits) (in_order copies))
  form_walk (S.Reorder ss) = as_walk (λ xs. form.Reorder xs) (in_order ss)
  form_walk (S.Block ss) = as_walk (λ xs. form.Block xs) (in_order ss)
  form_walk (S.Declare slot name t value) = as_walk (λ x. form.Declare slot name t x) (walk_value value)
  form_walk (S.Assign target value) = walk_expr target >>= (λ x. as_walk (λ y. form.Assign x y) (walk_expr value))
  form_walk (S.Call e) = as_walk (λ x. form.Call x) (walk_expr e)
  form_walk (S.If c a b) = walk_expr c >>= (λ x. a >>= (λ y. as_walk (λ z. form.If x y z) (if_any b)))
  form_walk (S.While c a) = walk_expr c >>= (λ x. as_walk (λ y. form.While x y) a)
  form_walk (S.Return value) = as_walk (λ x. form.Return x) (walk_value value)
  form_walk (S.Assert e) = as_walk (λ x. form.Assert x) (walk_expr e)
  form_walk (S.Assume e) = as_walk (λ x. form.Assume x) (walk_expr e)
  form_walk (S.Minimize e) = as_walk (λ x. form.Minimize x) (walk_expr e)

  abbrev pub stmt_step : S.PStmt-F (Walk PForm) (Walk PStmt) → Walk PStmt
  stmt_step s = as_walk (λ form. record { span = s.span; form = form }) s.form

  abbrev pub walk_stmt : PStmt → Walk PStmt
  walk_stmt = fold-PStmt (Walk PForm) (Walk PStmt) form_walk stmt_step

  abbrev pub walk_stmts : List PStmt → Walk (List PStmt)
  walk_stmts ss = in_order (map walk_stmt ss)

-- Copies

abbrev pub is_generator : FunKind → Bool
is_generator kind.Generator = true
is_generator _ = false

-- for each function whether it is ordinary
abbrev pub are_ordinary : List Fun → List Bool
are_ordinary fs = map (λ f. not (is_generator f.kind)) fs

abbrev pub ordinary_count : List Fun → ℕ
ordinary_count fs = rank (are_ordinary fs) (length fs)

abbrev pub is_zero : ℕ → Bool
is_zero zero = true
is_zero (suc n) = false

-- NAME__k
abbrev pub copy_name : List ℕ → ℕ → List ℕ
copy_name name k = name ++ (codes "__" ++ decimal k)

-- the copy with number k of a generator, with this body
abbrev pub copy_of : Fun → ℕ → List PStmt → Fun
copy_of f k body = with_body (record f { name = copy_name f.name k; kind = kind.Plain }) body

-- `assert false;`
abbrev pub stub : Span → List PStmt
stub span = record { span = span; form = form.Assert (record { span = span; ty = Some (ty.One elem.Bit); form = eform.False }) } ∷ []

-- one copy fewer of the function f
abbrev pub one_less : List ℕ → ℕ → List ℕ
one_less left f = slice_set left f (slice_index_or left f 0 - 1)

module _ (bounds : Bounds) (funs : List Fun) where
  -- The copy of f that comes after k others, with the body that is made. It is the first of the copies that
  -- are made, and its number as a function comes after those of the ordinary ones.
  abbrev pub copy_made : Fun → ℕ → Made (List PStmt) → Made ℕ
  copy_made f k m = record { made = ordinary_count funs + k; copies = copy_of f (k + 1) m.made ∷ m.copies }

  abbrev pub copied : Fun → Walk (List PStmt) → Walk ℕ
  copied f body = λ k. copy_made f k (body (k + 1))

  -- A call where so many more copies of each function may be walked, one inside another; `inner` says what
  -- the calls in the body of a copy become.
  abbrev pub call_of : CallWalk → List ℕ → Span → ℕ → Option Fun → Walk ℕ
  call_of inner left span f None = pure f
  call_of inner left span f (Some fun) =
      if is_generator fun.kind
      then (if is_zero (slice_index_or left f 0) then copied fun (pure (stub span)) else copied fun (walk_stmts bounds inner fun.body))
      else pure (rank (are_ordinary funs) f)

  -- The number tells how many more copies of all functions may be walked, one inside another. Where it is
  -- 0, none of any function may be, and no calls in the body of a copy are met.
  unfoldable pub calls_walk : ℕ → List ℕ → CallWalk
  calls_walk zero left span f = call_of (λ inner_span g. pure g) left span f (slice_get funs f)
  calls_walk (suc n) left span f = call_of (calls_walk n (one_less left f)) left span f (slice_get funs f)

  -- for each function, how many copies of it may be walked one inside another
  abbrev pub all_left : List ℕ
  all_left = replicate (length funs) bounds.inline_amnt

  abbrev pub first_calls : CallWalk
  first_calls = calls_walk (total all_left) all_left

  abbrev pub renumbered : Option FunId → Option FunId
  renumbered None = None
  renumbered (Some g) = Some (fun_id (rank (are_ordinary funs) g.index))

  -- an ordinary function with this body
  abbrev pub walked : Fun → List PStmt → Fun
  walked f body = with_body (record f { implements = renumbered f.implements }) body

  abbrev pub walk_fun : Fun → Walk (List Fun) → Walk (List Fun)
  walk_fun f rest = walk_stmts bounds first_calls f.body >>= (λ body. as_walk (λ fs. walked f body ∷ fs) rest)

  -- the ordinary functions in order, with all copies that they make
  abbrev pub walk_funs : List Fun → Walk (List Fun)
  walk_funs [] = pure []
  walk_funs (f ∷ fs) = if is_generator f.kind then walk_funs fs else walk_fun f (walk_funs fs)

abbrev pub all_funs : Made (List Fun) → List Fun
all_funs m = m.made ++ m.copies

-- the ordinary functions, and then their copies
abbrev pub expand_prog : Prog → Bounds → Prog
expand_prog p bounds = record p { funs = all_funs (walk_funs bounds p.funs p.funs 0) }

unfoldable pub expand : Prog → Bounds → Expanded
expand p bounds = record { prog = expand_prog p bounds; ordinary = ordinary_count p.funs; sites = sites bounds (expand_prog p bounds) }
