-- The form of a statement that differs in spans alone from one of a given form.
use Rattle.std.proofs.Common.{◌≡◌, List, [], ◌∷◌, map, Option, Some, None, refl, sym, ap, ◌∙◌}
use Rattle.sk_base.specs.declared.span.Span.{Span}
use Rattle.sk_tree.specs.declared.expr.Expr.{Expr}
use Rattle.sk_tree.specs.declared.stmt.Stmt.{Stmt}
use Rattle.sk_tree.specs.declared.stmt.Form.{Form}
use Rattle.sk_tree.specs.declared.stmt.Form.TheVariants as form
use Rattle.sk_tree.specs.declared.stmt.Form.TheOpen as F
use Rattle.sk_tree.specs.declared.stmt.Form.TheViews.{roll-Form}
use Rattle.sk_tree.specs.declared.stmt.Form.TheFolds.{map-Form, fold-Form, para-Form, para-Stmt, fold-roll-Form, fold-roll-Stmt, para-roll-Form}
use Rattle.sk_tree.specs.declared.stmt.Declared.{Declared}
use Rattle.sk_tree.specs.declared.item.TyTree.{TyTree}
use Rattle.sk_tree.proofs.Layers.{stmt_parts, stmt_law}
use Rattle.sk_types_rules.specs.Erase.{nowhere}
use Rattle.sk_print_laws.specs.Printed.{of_form}
use Rattle.sk_print_laws.specs.SpanlessTree.{spanless_expr, any_spanless, spanless_ty, spanless_declared, acts_spanless, stmt_nowhere, spanless_stmt}

abbrev pub Acts : Type 0
Acts = F.Form-F Form Stmt

abbrev act_off : Form → Form
act_off = fold-Form Form Stmt (λ l. roll-Form (acts_spanless l)) stmt_nowhere

abbrev acts_off : Acts → Acts
acts_off l = acts_spanless (map-Form Form Stmt Form Stmt act_off spanless_stmt l)

pub spanless_layer : (s : Span) (l : Acts) → spanless_stmt (of_form s (roll-Form l)) ≡ of_form nowhere (roll-Form (acts_off l))
spanless_layer s l =
    fold-roll-Stmt Form Stmt (λ l. roll-Form (acts_spanless l)) stmt_nowhere (record { span = s; form = roll-Form l })
    ∙ ap (of_form nowhere) (fold-roll-Form Form Stmt (λ l. roll-Form (acts_spanless l)) stmt_nowhere l)

abbrev pub AlikeStmt : Stmt → Stmt → Type 0
AlikeStmt e0 e = spanless_stmt e ≡ spanless_stmt e0

-- Each form is built of one layer, and of no other.

abbrev IsBuilt : Form → Type 0
IsBuilt f = (l : Acts) × (f ≡ roll-Form l)

pub built : (e : Stmt) → IsBuilt e.form
built = stmt_law IsBuilt (λ e. IsBuilt e.form) (λ y. (stmt_parts IsBuilt (λ e. IsBuilt e.form) y, refl)) (λ e h. h)

abbrev bottom : F.Form-F (Form × Acts) (Stmt × Unit {0}) → Acts
bottom l = map-Form (Form × Acts) (Stmt × Unit {0}) Form Stmt (λ q. q.0) (λ q. q.0) l

abbrev unroll : Form → Acts
unroll = para-Form Acts (Unit {0}) bottom (λ x. tt)

abbrev no_stmt : Stmt → Unit {0}
no_stmt = para-Stmt Acts (Unit {0}) bottom (λ x. tt)

unpaired : {A B : Type 0} (f : A → B) (xs : List A) → map (λ (q : A × B). q.0) (map (λ x. (x, f x)) xs) ≡ xs
unpaired f [] = refl
unpaired f (x ∷ xs) = ap (λ rest. x ∷ rest) (unpaired f xs)

layer_back : (l : Acts) → bottom (map-Form Form Stmt (Form × Acts) (Stmt × Unit {0}) (λ f. (f, unroll f)) (λ e. (e, no_stmt e)) l) ≡ l
layer_back (F.Block ss) = ap (λ z. F.Block z) (unpaired no_stmt ss)
layer_back (F.Reorder ss) = ap (λ z. F.Reorder z) (unpaired no_stmt ss)
layer_back (F.If c a None) = refl
layer_back (F.If c a (Some b)) = refl
layer_back _ = refl

unrolled : (l : Acts) → unroll (roll-Form l) ≡ l
unrolled l = para-roll-Form Acts (Unit {0}) bottom (λ x. tt) l ∙ layer_back l

pub rolled_same : (l k : Acts) → roll-Form l ≡ roll-Form k → l ≡ k
rolled_same l k e = sym (unrolled l) ∙ ap unroll e ∙ unrolled k

alike_layer : (f0 : Form) (s : Span) (l0 : Acts) (e : Stmt) → roll-Form l0 ≡ f0 → AlikeStmt (of_form s f0) e → (l : Acts) × (e.form ≡ roll-Form l) × (acts_off l ≡ acts_off l0)
alike_layer f0 s l0 e is h =
    let b = built e in
    let a : spanless_stmt e ≡ of_form nowhere (roll-Form (acts_off b.0)) = ap (λ f. spanless_stmt (of_form e.span f)) b.1 ∙ spanless_layer e.span b.0 in
    let c : spanless_stmt (of_form s f0) ≡ of_form nowhere (roll-Form (acts_off l0)) = ap (λ f. spanless_stmt (of_form s f)) (sym is) ∙ spanless_layer s l0 in
    (b.0, b.1, rolled_same (acts_off b.0) (acts_off l0) (ap (λ (x : Stmt). x.form) (sym a ∙ h ∙ c)))

-- Each layer, from what it is without spans

block_layer : (l : Acts) (es : List Stmt) → acts_off l ≡ F.Block es → (ds : List Stmt) × (l ≡ F.Block ds) × (map spanless_stmt ds ≡ es)
block_layer (F.Block ds) es h = (ds, refl, cc)
block_layer (F.If c a None) es h = cc
block_layer (F.If c a (Some b)) es h = cc
block_layer _ es h = cc

reorder_layer : (l : Acts) (es : List Stmt) → acts_off l ≡ F.Reorder es → (ds : List Stmt) × (l ≡ F.Reorder ds) × (map spanless_stmt ds ≡ es)
reorder_layer (F.Reorder ds) es h = (ds, refl, cc)
reorder_layer (F.If c a None) es h = cc
reorder_layer (F.If c a (Some b)) es h = cc
reorder_layer _ es h = cc

declare_layer : (l : Acts) (y : TyTree) (ds : List Declared) → acts_off l ≡ F.Declare y ds → (z : TyTree) × (ns : List Declared) × (l ≡ F.Declare z ns) × (spanless_ty z ≡ y) × (map spanless_declared ns ≡ ds)
declare_layer (F.Declare z ns) y ds h = (z, ns, refl, cc, cc)
declare_layer (F.If c a None) y ds h = cc
declare_layer (F.If c a (Some b)) y ds h = cc
declare_layer _ y ds h = cc

assign_layer : (l : Acts) (x y : Expr) → acts_off l ≡ F.Assign x y → (a b : Expr) × (l ≡ F.Assign a b) × (spanless_expr a ≡ x) × (spanless_expr b ≡ y)
assign_layer (F.Assign a b) x y h = (a, b, refl, cc, cc)
assign_layer (F.If c a None) x y h = cc
assign_layer (F.If c a (Some b)) x y h = cc
assign_layer _ x y h = cc

call_layer : (l : Acts) (x : Expr) → acts_off l ≡ F.Call x → (a : Expr) × (l ≡ F.Call a) × (spanless_expr a ≡ x)
call_layer (F.Call a) x h = (a, refl, cc)
call_layer (F.If c a None) x h = cc
call_layer (F.If c a (Some b)) x h = cc
call_layer _ x h = cc

if_layer : (l : Acts) (x : Expr) (y : Stmt) → acts_off l ≡ F.If x y None → (c : Expr) × (a : Stmt) × (l ≡ F.If c a None) × (spanless_expr c ≡ x) × (spanless_stmt a ≡ y)
if_layer (F.If c a None) x y h = (c, a, refl, cc, cc)
if_layer (F.If c a (Some b)) x y h = cc
if_layer _ x y h = cc

else_layer : (l : Acts) (x : Expr) (y z : Stmt) → acts_off l ≡ F.If x y (Some z) → (c : Expr) × (a b : Stmt) × (l ≡ F.If c a (Some b)) × (spanless_expr c ≡ x) × (spanless_stmt a ≡ y) × (spanless_stmt b ≡ z)
else_layer (F.If c a None) x y z h = cc
else_layer (F.If c a (Some b)) x y z h = (c, a, b, refl, cc, cc, cc)
else_layer _ x y z h = cc

while_layer : (l : Acts) (x : Expr) (y : Stmt) → acts_off l ≡ F.While x y → (c : Expr) × (a : Stmt) × (l ≡ F.While c a) × (spanless_expr c ≡ x) × (spanless_stmt a ≡ y)
while_layer (F.While c a) x y h = (c, a, refl, cc, cc)
while_layer (F.If c a None) x y h = cc
while_layer (F.If c a (Some b)) x y h = cc
while_layer _ x y h = cc

return_layer : (l : Acts) (x : Option Expr) → acts_off l ≡ F.Return x → (e : Option Expr) × (l ≡ F.Return e) × (any_spanless e ≡ x)
return_layer (F.Return e) x h = (e, refl, cc)
return_layer (F.If c a None) x h = cc
return_layer (F.If c a (Some b)) x h = cc
return_layer _ x h = cc

assert_layer : (l : Acts) (x : Expr) → acts_off l ≡ F.Assert x → (e : Expr) × (l ≡ F.Assert e) × (spanless_expr e ≡ x)
assert_layer (F.Assert e) x h = (e, refl, cc)
assert_layer (F.If c a None) x h = cc
assert_layer (F.If c a (Some b)) x h = cc
assert_layer _ x h = cc

assume_layer : (l : Acts) (x : Expr) → acts_off l ≡ F.Assume x → (e : Expr) × (l ≡ F.Assume e) × (spanless_expr e ≡ x)
assume_layer (F.Assume e) x h = (e, refl, cc)
assume_layer (F.If c a None) x h = cc
assume_layer (F.If c a (Some b)) x h = cc
assume_layer _ x h = cc

minimize_layer : (l : Acts) (x : Expr) → acts_off l ≡ F.Minimize x → (e : Expr) × (l ≡ F.Minimize e) × (spanless_expr e ≡ x)
minimize_layer (F.Minimize e) x h = (e, refl, cc)
minimize_layer (F.If c a None) x h = cc
minimize_layer (F.If c a (Some b)) x h = cc
minimize_layer _ x h = cc

repeat_layer : (l : Acts) (x : Expr) (y : Stmt) → acts_off l ≡ F.Repeat x y → (c : Expr) × (a : Stmt) × (l ≡ F.Repeat c a) × (spanless_expr c ≡ x) × (spanless_stmt a ≡ y)
repeat_layer (F.Repeat c a) x y h = (c, a, refl, cc, cc)
repeat_layer (F.If c a None) x y h = cc
repeat_layer (F.If c a (Some b)) x y h = cc
repeat_layer _ x y h = cc

minrepeat_layer : (l : Acts) (y : Stmt) → acts_off l ≡ F.MinRepeat y → (a : Stmt) × (l ≡ F.MinRepeat a) × (spanless_stmt a ≡ y)
minrepeat_layer (F.MinRepeat a) y h = (a, refl, cc)
minrepeat_layer (F.If c a None) y h = cc
minrepeat_layer (F.If c a (Some b)) y h = cc
minrepeat_layer _ y h = cc

-- The form of a statement that differs in spans alone from one of this form.

module _ (s : Span) (e : Stmt) where
  pub block_back : (es : List Stmt) → AlikeStmt (of_form s (form.Block es)) e → (ds : List Stmt) × (e.form ≡ form.Block ds) × (map spanless_stmt ds ≡ map spanless_stmt es)
  block_back es h =
      let a = alike_layer (form.Block es) s (F.Block es) e (form.rolls-Block es) h in
      let b = block_layer a.0 (map spanless_stmt es) a.2 in
      (b.0, a.1 ∙ ap roll-Form b.1 ∙ form.rolls-Block b.0, b.2)

  pub reorder_back : (es : List Stmt) → AlikeStmt (of_form s (form.Reorder es)) e → (ds : List Stmt) × (e.form ≡ form.Reorder ds) × (map spanless_stmt ds ≡ map spanless_stmt es)
  reorder_back es h =
      let a = alike_layer (form.Reorder es) s (F.Reorder es) e (form.rolls-Reorder es) h in
      let b = reorder_layer a.0 (map spanless_stmt es) a.2 in
      (b.0, a.1 ∙ ap roll-Form b.1 ∙ form.rolls-Reorder b.0, b.2)

  pub declare_back : (y : TyTree) (d : Declared) → AlikeStmt (of_form s (form.Declare y (d ∷ []))) e → (z : TyTree) × (n : Declared) × (e.form ≡ form.Declare z (n ∷ [])) × (spanless_ty z ≡ spanless_ty y) × (spanless_declared n ≡ spanless_declared d)
  declare_back y d h =
      let a = alike_layer (form.Declare y (d ∷ [])) s (F.Declare y (d ∷ [])) e (form.rolls-Declare y (d ∷ [])) h in
      let b = declare_layer a.0 (spanless_ty y) (spanless_declared d ∷ []) a.2 in
      let c = one b.1 b.4 in
      (b.0, c.0, a.1 ∙ ap roll-Form b.2 ∙ form.rolls-Declare b.0 b.1 ∙ ap (λ ns. form.Declare b.0 ns) c.1, b.3, c.2)
    where
      one : (ns : List Declared) → map spanless_declared ns ≡ spanless_declared d ∷ [] → (n : Declared) × (ns ≡ n ∷ []) × (spanless_declared n ≡ spanless_declared d)
      one [] h = cc
      one (n ∷ []) h = (n, refl, cc)
      one (n ∷ m ∷ ns) h = cc

  pub assign_back : (x y : Expr) → AlikeStmt (of_form s (form.Assign x y)) e → (a b : Expr) × (e.form ≡ form.Assign a b) × (spanless_expr a ≡ spanless_expr x) × (spanless_expr b ≡ spanless_expr y)
  assign_back x y h =
      let a = alike_layer (form.Assign x y) s (F.Assign x y) e (form.rolls-Assign x y) h in
      let b = assign_layer a.0 (spanless_expr x) (spanless_expr y) a.2 in
      (b.0, b.1, a.1 ∙ ap roll-Form b.2 ∙ form.rolls-Assign b.0 b.1, b.3, b.4)

  pub call_back : (x : Expr) → AlikeStmt (of_form s (form.Call x)) e → (a : Expr) × (e.form ≡ form.Call a) × (spanless_expr a ≡ spanless_expr x)
  call_back x h =
      let a = alike_layer (form.Call x) s (F.Call x) e (form.rolls-Call x) h in
      let b = call_layer a.0 (spanless_expr x) a.2 in
      (b.0, a.1 ∙ ap roll-Form b.1 ∙ form.rolls-Call b.0, b.2)

  pub if_back : (x : Expr) (y : Stmt) → AlikeStmt (of_form s (form.If x y None)) e → (c : Expr) × (a : Stmt) × (e.form ≡ form.If c a None) × (spanless_expr c ≡ spanless_expr x) × AlikeStmt y a
  if_back x y h =
      let a = alike_layer (form.If x y None) s (F.If x y None) e (form.rolls-If x y None) h in
      let b = if_layer a.0 (spanless_expr x) (spanless_stmt y) a.2 in
      (b.0, b.1, a.1 ∙ ap roll-Form b.2 ∙ form.rolls-If b.0 b.1 None, b.3, b.4)

  pub else_back : (x : Expr) (y z : Stmt) → AlikeStmt (of_form s (form.If x y (Some z))) e → (c : Expr) × (a b : Stmt) × (e.form ≡ form.If c a (Some b)) × (spanless_expr c ≡ spanless_expr x) × AlikeStmt y a × AlikeStmt z b
  else_back x y z h =
      let a = alike_layer (form.If x y (Some z)) s (F.If x y (Some z)) e (form.rolls-If x y (Some z)) h in
      let b = else_layer a.0 (spanless_expr x) (spanless_stmt y) (spanless_stmt z) a.2 in
      (b.0, b.1, b.2, a.1 ∙ ap roll-Form b.3 ∙ form.rolls-If b.0 b.1 (Some b.2), b.4, b.5, b.6)

  pub while_back : (x : Expr) (y : Stmt) → AlikeStmt (of_form s (form.While x y)) e → (c : Expr) × (a : Stmt) × (e.form ≡ form.While c a) × (spanless_expr c ≡ spanless_expr x) × AlikeStmt y a
  while_back x y h =
      let a = alike_layer (form.While x y) s (F.While x y) e (form.rolls-While x y) h in
      let b = while_layer a.0 (spanless_expr x) (spanless_stmt y) a.2 in
      (b.0, b.1, a.1 ∙ ap roll-Form b.2 ∙ form.rolls-While b.0 b.1, b.3, b.4)

  pub return_back : (x : Option Expr) → AlikeStmt (of_form s (form.Return x)) e → (a : Option Expr) × (e.form ≡ form.Return a) × (any_spanless a ≡ any_spanless x)
  return_back x h =
      let a = alike_layer (form.Return x) s (F.Return x) e (form.rolls-Return x) h in
      let b = return_layer a.0 (any_spanless x) a.2 in
      (b.0, a.1 ∙ ap roll-Form b.1 ∙ form.rolls-Return b.0, b.2)

  pub assert_back : (x : Expr) → AlikeStmt (of_form s (form.Assert x)) e → (a : Expr) × (e.form ≡ form.Assert a) × (spanless_expr a ≡ spanless_expr x)
  assert_back x h =
      let a = alike_layer (form.Assert x) s (F.Assert x) e (form.rolls-Assert x) h in
      let b = assert_layer a.0 (spanless_expr x) a.2 in
      (b.0, a.1 ∙ ap roll-Form b.1 ∙ form.rolls-Assert b.0, b.2)

  pub assume_back : (x : Expr) → AlikeStmt (of_form s (form.Assume x)) e → (a : Expr) × (e.form ≡ form.Assume a) × (spanless_expr a ≡ spanless_expr x)
  assume_back x h =
      let a = alike_layer (form.Assume x) s (F.Assume x) e (form.rolls-Assume x) h in
      let b = assume_layer a.0 (spanless_expr x) a.2 in
      (b.0, a.1 ∙ ap roll-Form b.1 ∙ form.rolls-Assume b.0, b.2)

  pub minimize_back : (x : Expr) → AlikeStmt (of_form s (form.Minimize x)) e → (a : Expr) × (e.form ≡ form.Minimize a) × (spanless_expr a ≡ spanless_expr x)
  minimize_back x h =
      let a = alike_layer (form.Minimize x) s (F.Minimize x) e (form.rolls-Minimize x) h in
      let b = minimize_layer a.0 (spanless_expr x) a.2 in
      (b.0, a.1 ∙ ap roll-Form b.1 ∙ form.rolls-Minimize b.0, b.2)

  pub repeat_back : (x : Expr) (y : Stmt) → AlikeStmt (of_form s (form.Repeat x y)) e → (c : Expr) × (a : Stmt) × (e.form ≡ form.Repeat c a) × (spanless_expr c ≡ spanless_expr x) × AlikeStmt y a
  repeat_back x y h =
      let a = alike_layer (form.Repeat x y) s (F.Repeat x y) e (form.rolls-Repeat x y) h in
      let b = repeat_layer a.0 (spanless_expr x) (spanless_stmt y) a.2 in
      (b.0, b.1, a.1 ∙ ap roll-Form b.2 ∙ form.rolls-Repeat b.0 b.1, b.3, b.4)

  pub minrepeat_back : (y : Stmt) → AlikeStmt (of_form s (form.MinRepeat y)) e → (a : Stmt) × (e.form ≡ form.MinRepeat a) × AlikeStmt y a
  minrepeat_back y h =
      let a = alike_layer (form.MinRepeat y) s (F.MinRepeat y) e (form.rolls-MinRepeat y) h in
      let b = minrepeat_layer a.0 (spanless_stmt y) a.2 in
      (b.0, a.1 ∙ ap roll-Form b.1 ∙ form.rolls-MinRepeat b.0, b.2)
