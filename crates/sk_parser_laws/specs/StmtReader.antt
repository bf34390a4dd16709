-- The reader of types and statements, within a budget of depth.
use Rattle.std.specs.Prelude.{ℕ, zero, suc, Bool, true, ◌&&◌, List, [], ◌∷◌, ◌++◌, Option, Some, None, if◌then◌else◌}
use Rattle.sk_tree.specs.declared.token.Token.{Token}
use Rattle.sk_tree.specs.declared.token.Kind.{Kind}
use Rattle.sk_tree.specs.declared.token.Kind.TheVariants as kind
use Rattle.sk_tree.specs.declared.token.Mark.TheVariants as mark
use Rattle.sk_tree.specs.declared.token.Key.TheVariants as key
use Rattle.sk_tree.specs.declared.expr.Expr.{Expr}
use Rattle.sk_tree.specs.declared.stmt.Stmt.{Stmt}
use Rattle.sk_tree.specs.declared.stmt.Form.{Form}
use Rattle.sk_tree.specs.declared.stmt.Form.TheVariants as form
use Rattle.sk_tree.specs.declared.stmt.Declared.{Declared}
use Rattle.sk_tree.specs.declared.stmt.StepKind.{StepKind}
use Rattle.sk_tree.specs.declared.stmt.StepKind.TheVariants as step
use Rattle.sk_tree.specs.declared.item.Base.{Base}
use Rattle.sk_tree.specs.declared.item.Base.TheVariants as base
use Rattle.sk_tree.specs.declared.item.TyTree.{TyTree}
use Rattle.sk_tree.specs.Spelt.{Role, InBlock, AsBody, AsFirst, AsNext, is_whole, may_step, may_declare, is_target, is_call}
use Rattle.sk_parser_laws.specs.Readers.{◌>>=◌, Reader, mark_ahead, mark_at, key_ahead, key_at, word_at, span_between, repeated, inside}
use Rattle.sk_parser_laws.specs.ExprReader.{any_level, expr_at, ends_row}
use Rattle.sk_parser_laws.specs.StringReader.{offers}

-- any expression of a text
unfoldable pub value_at : ℕ → Reader Expr
value_at budget ts = expr_at (offers true) budget any_level ts >>= λ e. Some (e.0.expr, e.1)

-- an expression of level 1: targets and calls are
unfoldable pub base_at : ℕ → Reader Expr
base_at budget ts = expr_at (offers true) budget 1 ts >>= λ e. Some (e.0.expr, e.1)

-- Types

abbrev pub base_kind : Kind → List Token → Option (Base × List Token)
base_kind (kind.Key key.Int) ts = Some (base.Int, ts)
base_kind (kind.Key key.Bit) ts = Some (base.Bit, ts)
base_kind (kind.Word x) ts = Some (base.Named x, ts)
base_kind _ ts = None

-- the base of a type
unfoldable pub base_type_at : Reader Base
base_type_at [] = None
base_type_at (t ∷ ts) = base_kind t.kind ts

unfoldable pub length_at : ℕ → List Expr → Reader (List Expr)
length_at budget lengths ts = do
  opening ← mark_at mark.OpenBracket ts
  e ← value_at budget opening
  closing ← mark_at mark.CloseBracket e.1
  Some (lengths ++ e.0 ∷ [], closing)

-- one length more, where it stands
unfoldable pub next_length : ℕ → List Expr → Reader (List Expr)
next_length budget lengths ts = if mark_ahead mark.OpenBracket ts then length_at budget lengths ts else Some (lengths, ts)

-- at most two lengths
unfoldable pub lengths_at : ℕ → Reader (List Expr)
lengths_at budget ts = next_length budget [] ts >>= λ one. next_length budget one.0 one.1

unfoldable pub ty_at : ℕ → Reader TyTree
ty_at budget ts = do
  b ← inside budget
  base ← base_type_at ts
  lengths ← lengths_at b base.1
  Some (record { base = base.0; lengths = lengths.0 }, lengths.1)

-- Declarations

-- `= value`, where it stands
unfoldable pub init_at : ℕ → Reader (Option Expr)
init_at budget ts =
    if mark_ahead mark.Assign ts then (mark_at mark.Assign ts >>= λ gets. value_at budget gets >>= λ e. Some (Some e.0, e.1)) else Some (None, ts)

unfoldable pub declared_at : ℕ → Reader Declared
declared_at budget ts = do
  b ← inside budget
  name ← word_at ts
  value ← init_at b name.1
  Some (record { name = name.0; value = value.0 }, value.1)

unfoldable pub next_declared : ℕ → List Declared → Reader (List Declared)
next_declared budget names ts = do
  comma ← mark_at mark.Comma ts
  d ← declared_at budget comma
  Some (names ++ d.0 ∷ [], d.1)

unfoldable pub names_at : ℕ → Reader (List Declared)
names_at budget ts = declared_at budget ts >>= λ d. repeated ends_row (next_declared budget) (d.0 ∷ []) d.1

-- the end of a statement in its role
unfoldable pub end_at : Role → List Token → Option (List Token)
end_at InBlock ts = mark_at mark.Semicolon ts
end_at AsBody ts = mark_at mark.Semicolon ts
end_at AsFirst ts = Some ts
end_at AsNext ts = Some ts

-- where it is allowed
abbrev pub only : {A : Type 0} → Bool → Option A → Option A
only allowed read = if allowed then read else None

-- A statement of this form, from the start up to the rest.
unfoldable pub stmt_of : List Token → Form → List Token → Stmt × List Token
stmt_of start f rest = (record { span = span_between start rest; form = f }, rest)

unfoldable pub declare_at : Role → ℕ → Reader Stmt
declare_at role budget ts = do
  ty ← ty_at budget ts
  names ← names_at budget ty.1
  rest ← only (may_declare role names.0) (end_at role names.1)
  Some (stmt_of ts (form.Declare ty.0 names.0) rest)

-- Assignments, steps and calls

unfoldable pub assign_at : Role → ℕ → List Token → Expr → Reader Stmt
assign_at role budget start target ts = only (is_target target) (do
  e ← value_at budget ts
  rest ← end_at role e.1
  Some (stmt_of start (form.Assign target e.0) rest))

-- `++` or `--` behind a target
unfoldable pub turn_at : Role → StepKind → List Token → Expr → Reader Stmt
turn_at role k start target ts = only (may_step role && is_target target) (do
  rest ← end_at role ts
  Some (stmt_of start (form.Step k target None) rest))

-- `+=` or `-=` behind a target, and what is added or taken
unfoldable pub add_at : Role → ℕ → StepKind → List Token → Expr → Reader Stmt
add_at role budget k start target ts = only (may_step role && is_target target) (do
  e ← value_at budget ts
  rest ← end_at role e.1
  Some (stmt_of start (form.Step k target (Some e.0)) rest))

unfoldable pub call_at : Role → List Token → Expr → Reader Stmt
call_at role start e ts = only (is_whole role && is_call e) (Some (stmt_of start (form.Call e) ts))

abbrev pub behind_kind : Role → ℕ → List Token → Expr → Kind → Reader Stmt
behind_kind role budget start e (kind.Mark mark.Assign) ts = assign_at role budget start e ts
behind_kind role budget start e (kind.Mark mark.Increment) ts = turn_at role step.PostInc start e ts
behind_kind role budget start e (kind.Mark mark.Decrement) ts = turn_at role step.PostDec start e ts
behind_kind role budget start e (kind.Mark mark.AddAssign) ts = add_at role budget step.Add start e ts
behind_kind role budget start e (kind.Mark mark.SubAssign) ts = add_at role budget step.Sub start e ts
behind_kind role budget start e (kind.Mark mark.Semicolon) ts = call_at role start e ts
behind_kind role budget start e _ ts = None

unfoldable pub behind_target : Role → ℕ → List Token → Expr → Reader Stmt
behind_target role budget start e [] = None
behind_target role budget start e (t ∷ ts) = behind_kind role budget start e t.kind ts

unfoldable pub simple_at : Role → ℕ → Reader Stmt
simple_at role budget ts = base_at budget ts >>= λ e. behind_target role budget ts e.0 e.1

-- `++` or `--` before a target
unfoldable pub before_at : Role → ℕ → StepKind → List Token → Reader Stmt
before_at role budget k start ts = do
  e ← base_at budget ts
  rest ← only (may_step role && is_target e.0) (end_at role e.1)
  Some (stmt_of start (form.Step k e.0 None) rest)

-- the one, and where it does not read the other
abbrev pub or_else : {A : Type 0} → Option A → Option A → Option A
or_else None other = other
or_else (Some a) other = Some a

-- What begins with a word is a declaration where it reads as one.
unfoldable pub named_at : Role → ℕ → Reader Stmt
named_at role budget ts = or_else (declare_at role budget ts) (simple_at role budget ts)

-- Statements with expressions alone

unfoldable pub parens_at : ℕ → Reader Expr
parens_at budget ts = do
  opening ← mark_at mark.OpenParen ts
  e ← value_at budget opening
  closing ← mark_at mark.CloseParen e.1
  Some (e.0, closing)

unfoldable pub return_value_at : ℕ → List Token → Reader Stmt
return_value_at budget start ts = do
  e ← value_at budget ts
  rest ← mark_at mark.Semicolon e.1
  Some (stmt_of start (form.Return (Some e.0)) rest)

unfoldable pub return_at : ℕ → List Token → Reader Stmt
return_at budget start ts =
    if mark_ahead mark.Semicolon ts then (mark_at mark.Semicolon ts >>= λ rest. Some (stmt_of start (form.Return None) rest)) else return_value_at budget start ts

unfoldable pub assert_at : ℕ → List Token → Reader Stmt
assert_at budget start ts = do
  e ← value_at budget ts
  rest ← mark_at mark.Semicolon e.1
  Some (stmt_of start (form.Assert e.0) rest)

unfoldable pub assume_at : ℕ → List Token → Reader Stmt
assume_at budget start ts = do
  e ← value_at budget ts
  rest ← mark_at mark.Semicolon e.1
  Some (stmt_of start (form.Assume e.0) rest)

unfoldable pub minimize_at : ℕ → List Token → Reader Stmt
minimize_at budget start ts = do
  e ← parens_at budget ts
  rest ← mark_at mark.Semicolon e.1
  Some (stmt_of start (form.Minimize e.0) rest)

-- Statements with statements inside

-- how a statement in its role is read, within a smaller budget
abbrev pub ByRole : Type 0
ByRole = Role → Reader Stmt

unfoldable pub next_stmt : ByRole → List Stmt → Reader (List Stmt)
next_stmt inner stmts ts = inner InBlock ts >>= λ s. Some (stmts ++ s.0 ∷ [], s.1)

-- a closing brace follows
unfoldable pub ends_block : List Token → Bool
ends_block ts = mark_ahead mark.CloseBrace ts

-- statements up to a closing brace, and that brace
unfoldable pub stmts_at : ByRole → Reader (List Stmt)
stmts_at inner ts = do
  stmts ← repeated ends_block (next_stmt inner) [] ts
  rest ← mark_at mark.CloseBrace stmts.1
  Some (stmts.0, rest)

unfoldable pub block_at : ByRole → List Token → Reader Stmt
block_at inner start ts = stmts_at inner ts >>= λ ss. Some (stmt_of start (form.Block ss.0) ss.1)

unfoldable pub reorder_at : ByRole → List Token → Reader Stmt
reorder_at inner start ts = do
  opening ← mark_at mark.OpenBrace ts
  stmts ← stmts_at inner opening
  Some (stmt_of start (form.Reorder stmts.0) stmts.1)

-- `else` and its statement, where it stands
unfoldable pub behind_if : ByRole → List Token → Expr → Stmt → Reader Stmt
behind_if inner start c a ts =
    if key_ahead key.Else ts then (key_at key.Else ts >>= λ other. inner AsBody other >>= λ b. Some (stmt_of start (form.If c a (Some b.0)) b.1))
    else Some (stmt_of start (form.If c a None) ts)

unfoldable pub if_at : ByRole → ℕ → List Token → Reader Stmt
if_at inner budget start ts = do
  c ← parens_at budget ts
  a ← inner AsBody c.1
  behind_if inner start c.0 a.0 a.1

unfoldable pub while_at : ByRole → ℕ → List Token → Reader Stmt
while_at inner budget start ts = do
  c ← parens_at budget ts
  a ← inner AsBody c.1
  Some (stmt_of start (form.While c.0 a.0) a.1)

unfoldable pub repeat_at : ByRole → ℕ → List Token → Reader Stmt
repeat_at inner budget start ts = do
  c ← parens_at budget ts
  a ← inner AsBody c.1
  Some (stmt_of start (form.Repeat c.0 a.0) a.1)

unfoldable pub minrepeat_at : ByRole → List Token → Reader Stmt
minrepeat_at inner start ts = inner AsBody ts >>= λ a. Some (stmt_of start (form.MinRepeat a.0) a.1)

-- the condition of a `for`, between its semicolons
unfoldable pub between_semicolons : ℕ → Reader Expr
between_semicolons budget ts = do
  before ← mark_at mark.Semicolon ts
  c ← value_at budget before
  behind ← mark_at mark.Semicolon c.1
  Some (c.0, behind)

-- the next of a `for`, and its body
unfoldable pub for_body_at : ByRole → List Token → Stmt → Expr → Reader Stmt
for_body_at inner start first c ts = do
  next ← inner AsNext ts
  closing ← mark_at mark.CloseParen next.1
  body ← inner AsBody closing
  Some (stmt_of start (form.For first c next.0 body.0) body.1)

unfoldable pub for_at : ByRole → ℕ → List Token → Reader Stmt
for_at inner budget start ts = do
  opening ← mark_at mark.OpenParen ts
  first ← inner AsFirst opening
  c ← between_semicolons budget first.1
  for_body_at inner start first.0 c.0 c.1

-- a statement that only stands whole, behind its first token
module _ (inner : ByRole) (budget : ℕ) where
  unfoldable pub whole_at : List Token → Kind → Reader Stmt
  whole_at start (kind.Mark mark.OpenBrace) ts = block_at inner start ts
  whole_at start (kind.Mark mark.Semicolon) ts = Some (stmt_of start form.Empty ts)
  whole_at start (kind.Key key.If) ts = if_at inner budget start ts
  whole_at start (kind.Key key.While) ts = while_at inner budget start ts
  whole_at start (kind.Key key.For) ts = for_at inner budget start ts
  whole_at start (kind.Key key.Return) ts = return_at budget start ts
  whole_at start (kind.Key key.Assert) ts = assert_at budget start ts
  whole_at start (kind.Key key.Assume) ts = assume_at budget start ts
  whole_at start (kind.Key key.Minimize) ts = minimize_at budget start ts
  whole_at start (kind.Key key.Repeat) ts = repeat_at inner budget start ts
  whole_at start (kind.Key key.Minrepeat) ts = minrepeat_at inner start ts
  whole_at start (kind.Key key.Reorder) ts = reorder_at inner start ts
  whole_at start _ ts = None

module _ (inner : ByRole) (budget : ℕ) (role : Role) where
  abbrev pub stmt_kind : List Token → Kind → Reader Stmt
  stmt_kind start (kind.Key key.Int) ts = declare_at role budget start
  stmt_kind start (kind.Key key.Bit) ts = declare_at role budget start
  stmt_kind start (kind.Mark mark.Increment) ts = before_at role budget step.PreInc start ts
  stmt_kind start (kind.Mark mark.Decrement) ts = before_at role budget step.PreDec start ts
  stmt_kind start (kind.Word x) ts = named_at role budget start
  stmt_kind start (kind.Mark mark.OpenPattern) ts = simple_at role budget start
  stmt_kind start k ts = only (is_whole role) (whole_at inner budget start k ts)

  unfoldable pub form_at : Reader Stmt
  form_at [] = None
  form_at (t ∷ ts) = stmt_kind (t ∷ ts) t.kind ts

-- the statement at the front in its role, at most so deep
unfoldable pub stmt_at : ℕ → ByRole
stmt_at zero role ts = None
stmt_at (suc b) role ts = form_at (stmt_at b) b role ts
