-- Each reader of a type or a statement takes a token at least, and so does each turn of its loops.
use Rattle.std.proofs.Common.{ℕ, zero, suc, ◌<◌, ◌≤◌, Bool, true, ◌&&◌, List, [], ◌∷◌, length, Option, Some, None, arith}
use Rattle.sk_tree.specs.declared.token.Token.{Token}
use Rattle.sk_tree.specs.declared.token.Kind.{Kind}
use Rattle.sk_tree.specs.declared.token.Kind.TheVariants as kind
use Rattle.sk_tree.specs.declared.token.Mark.TheVariants as mark
use Rattle.sk_tree.specs.declared.token.Key.TheVariants as key
use Rattle.sk_tree.specs.declared.expr.Expr.{Expr}
use Rattle.sk_tree.specs.declared.stmt.Stmt.{Stmt}
use Rattle.sk_tree.specs.declared.stmt.Declared.{Declared}
use Rattle.sk_tree.specs.declared.stmt.StepKind.{StepKind}
use Rattle.sk_tree.specs.declared.stmt.StepKind.TheVariants as step
use Rattle.sk_tree.specs.Spelt.{Role, InBlock, AsBody, AsFirst, AsNext, is_whole, may_step, may_declare, is_target, is_call}
use Rattle.sk_parser_laws.specs.Readers.{mark_ahead, mark_at, key_ahead, key_at, word_at, repeated, inside}
use Rattle.sk_parser_laws.specs.ExprReader.{ends_row, expr_at}
use Rattle.sk_parser_laws.specs.StringReader.{offers}
use Rattle.sk_parser_laws.specs.StmtReader.{value_at, base_at, base_kind, base_type_at, length_at, next_length, lengths_at, ty_at, init_at, declared_at, next_declared, names_at, end_at, only, stmt_of, declare_at, assign_at, turn_at, add_at, call_at, behind_kind, behind_target, simple_at, before_at, or_else, named_at, parens_at, return_value_at, return_at, assert_at, assume_at, minimize_at, ByRole, next_stmt, ends_block, stmts_at, block_at, reorder_at, behind_if, if_at, while_at, repeat_at, minrepeat_at, between_semicolons, for_body_at, for_at, whole_at, stmt_kind, form_at, stmt_at}
use Rattle.sk_parser_laws.proofs.Loops.{pair, Every, every_none, every_some, every_bind, every_if, every_more, every_repeated, Shrinks}
use Rattle.sk_parser_laws.proofs.Seen.{stands_less, mark_stands, key_stands, word_stands}
use Rattle.sk_parser_laws.proofs.Offers.{exprs_sound}

-- fewer tokens are left
abbrev pub Below : {A : Type 0} → List Token → A × List Token → Type 0
Below ts x = length x.1 < length ts

-- no more are left
abbrev pub Upto : {A : Type 0} → List Token → A × List Token → Type 0
Upto ts x = length x.1 ≤ length ts

pub every_only : {A : Type 0} {Q : A → Type 0} (b : Bool) (o : Option A) → Every Q o → Every Q (only b o)
every_only b o q = every_if b o None (λ _. q) (λ _. every_none)

pub every_or : {A : Type 0} {Q : A → Type 0} (o p : Option A) → Every Q o → Every Q p → Every Q (or_else o p)
every_or None p q r = r
every_or (Some a) p q r = q

pub any_inside : (b : ℕ) → Every (λ _. Unit {0}) (inside b)
any_inside b = record { each = λ a e. tt }

pub value_less : (b : ℕ) (ts : List Token) → Every (Below ts) (value_at b ts)
unfolding value_at
value_less b ts = every_bind (expr_at (offers true) b 13 ts) _ ((exprs_sound true b).sound 13 ts (omega arith)) (λ e f. every_some f.of.less)

base_less : (b : ℕ) (ts : List Token) → Every (Below ts) (base_at b ts)
unfolding base_at
base_less b ts = every_bind (expr_at (offers true) b 1 ts) _ ((exprs_sound true b).sound 1 ts (omega arith)) (λ e f. every_some f.of.less)

-- Types

base_kind_less : (k : Kind) (t : Token) (ts : List Token) → Every (Below (t ∷ ts)) (base_kind k ts)
base_kind_less (kind.Key key.Int) t ts = every_some (omega arith)
base_kind_less (kind.Key key.Bit) t ts = every_some (omega arith)
base_kind_less (kind.Word x) t ts = every_some (omega arith)
base_kind_less _ t ts = every_none

base_type_less : (ts : List Token) → Every (Below ts) (base_type_at ts)
unfolding base_type_at
base_type_less [] = every_none
base_type_less (t ∷ ts) = base_kind_less t.kind t ts

next_length_upto : (b : ℕ) (lengths : List Expr) (ts : List Token) → Every (Upto ts) (next_length b lengths ts)
unfolding next_length length_at
next_length_upto b lengths ts =
    every_if (mark_ahead mark.OpenBracket ts) _ _
    (λ _. every_bind (mark_at mark.OpenBracket ts) _ (mark_stands mark.OpenBracket ts)
    (λ opening at. every_bind (value_at b opening) _ (value_less b opening)
    (λ e l. every_bind (mark_at mark.CloseBracket e.1) _ (mark_stands mark.CloseBracket e.1)
    (λ closing end. every_some (omega (arith, stands_less at, l, stands_less end))))))
    (λ _. every_some (omega arith))

lengths_upto : (b : ℕ) (ts : List Token) → Every (Upto ts) (lengths_at b ts)
unfolding lengths_at
lengths_upto b ts =
    every_bind (next_length b [] ts) _ (next_length_upto b [] ts)
    (λ one l. every_more (next_length_upto b one.0 one.1) (λ x m. omega (arith, l, m)))

pub ty_less : (b : ℕ) (ts : List Token) → Every (Below ts) (ty_at b ts)
unfolding ty_at
ty_less b ts =
    every_bind (inside b) _ (any_inside b)
    (λ c _. every_bind (base_type_at ts) _ (base_type_less ts)
    (λ base l. every_bind (lengths_at c base.1) _ (lengths_upto c base.1)
    (λ lengths m. every_some (omega (arith, l, m)))))

-- Declarations

init_upto : (b : ℕ) (ts : List Token) → Every (Upto ts) (init_at b ts)
unfolding init_at
init_upto b ts =
    every_if (mark_ahead mark.Assign ts) _ _
    (λ _. every_bind (mark_at mark.Assign ts) _ (mark_stands mark.Assign ts)
    (λ gets at. every_bind (value_at b gets) _ (value_less b gets) (λ e l. every_some (omega (arith, stands_less at, l)))))
    (λ _. every_some (omega arith))

declared_less : (b : ℕ) (ts : List Token) → Every (Below ts) (declared_at b ts)
unfolding declared_at
declared_less b ts =
    every_bind (inside b) _ (any_inside b)
    (λ c _. every_bind (word_at ts) _ (word_stands ts)
    (λ name w. every_bind (init_at c name.1) _ (init_upto c name.1) (λ value l. every_some (omega (arith, stands_less w, l)))))

next_declared_less : (b : ℕ) (names : List Declared) (ts : List Token) → Every (Below ts) (next_declared b names ts)
unfolding next_declared
next_declared_less b names ts =
    every_bind (mark_at mark.Comma ts) _ (mark_stands mark.Comma ts)
    (λ comma at. every_bind (declared_at b comma) _ (declared_less b comma) (λ d l. every_some (omega (arith, stands_less at, l))))

pub next_declared_takes : (b : ℕ) → Shrinks (next_declared b)
next_declared_takes b = record { takes = λ names ts r rest e. (next_declared_less b names ts).each (pair r rest) e }

names_less : (b : ℕ) (ts : List Token) → Every (Below ts) (names_at b ts)
unfolding names_at
names_less b ts =
    every_bind (declared_at b ts) _ (declared_less b ts)
    (λ d l. every_more (every_repeated ends_row (next_declared b) (λ names rest. length rest < length ts)
    (λ names rest i _. every_more (next_declared_less b names rest) (λ x m. omega (arith, i, m))) (d.0 ∷ []) d.1 l) (λ x p. p.0))

end_upto : (role : Role) (ts : List Token) → Every (λ rest. length rest ≤ length ts) (end_at role ts)
unfolding end_at
end_upto InBlock ts = every_more (mark_stands mark.Semicolon ts) (λ rest at. omega (arith, stands_less at))
end_upto AsBody ts = every_more (mark_stands mark.Semicolon ts) (λ rest at. omega (arith, stands_less at))
end_upto AsFirst ts = every_some (omega arith)
end_upto AsNext ts = every_some (omega arith)

declare_less : (role : Role) (b : ℕ) (ts : List Token) → Every (Below ts) (declare_at role b ts)
unfolding declare_at stmt_of
declare_less role b ts =
    every_bind (ty_at b ts) _ (ty_less b ts)
    (λ ty l. every_bind (names_at b ty.1) _ (names_less b ty.1)
    (λ names m. every_bind (only (may_declare role names.0) (end_at role names.1)) _ (every_only (may_declare role names.0) (end_at role names.1) (end_upto role names.1))
    (λ rest n. every_some (omega (arith, l, m, n)))))

-- Assignments, steps and calls

assign_upto : (role : Role) (b : ℕ) (start : List Token) (target : Expr) (ts : List Token) → Every (Upto ts) (assign_at role b start target ts)
unfolding assign_at stmt_of
assign_upto role b start target ts =
    every_only (is_target target) _
    (every_bind (value_at b ts) _ (value_less b ts) (λ e l. every_bind (end_at role e.1) _ (end_upto role e.1) (λ rest m. every_some (omega (arith, l, m)))))

turn_upto : (role : Role) (k : StepKind) (start : List Token) (target : Expr) (ts : List Token) → Every (Upto ts) (turn_at role k start target ts)
unfolding turn_at stmt_of
turn_upto role k start target ts = every_only (may_step role && is_target target) _ (every_bind (end_at role ts) _ (end_upto role ts) (λ rest m. every_some m))

add_upto : (role : Role) (b : ℕ) (k : StepKind) (start : List Token) (target : Expr) (ts : List Token) → Every (Upto ts) (add_at role b k start target ts)
unfolding add_at stmt_of
add_upto role b k start target ts =
    every_only (may_step role && is_target target) _
    (every_bind (value_at b ts) _ (value_less b ts) (λ e l. every_bind (end_at role e.1) _ (end_upto role e.1) (λ rest m. every_some (omega (arith, l, m)))))

call_upto : (role : Role) (start : List Token) (e : Expr) (ts : List Token) → Every (Upto ts) (call_at role start e ts)
unfolding call_at stmt_of
call_upto role start e ts = every_only (is_whole role && is_call e) _ (every_some (omega arith))

behind_kind_upto : (role : Role) (b : ℕ) (start : List Token) (e : Expr) (k : Kind) (ts : List Token) → Every (Upto ts) (behind_kind role b start e k ts)
behind_kind_upto role b start e (kind.Mark mark.Assign) ts = assign_upto role b start e ts
behind_kind_upto role b start e (kind.Mark mark.Increment) ts = turn_upto role step.PostInc start e ts
behind_kind_upto role b start e (kind.Mark mark.Decrement) ts = turn_upto role step.PostDec start e ts
behind_kind_upto role b start e (kind.Mark mark.AddAssign) ts = add_upto role b step.Add start e ts
behind_kind_upto role b start e (kind.Mark mark.SubAssign) ts = add_upto role b step.Sub start e ts
behind_kind_upto role b start e (kind.Mark mark.Semicolon) ts = call_upto role start e ts
behind_kind_upto role b start e _ ts = every_none

behind_target_upto : (role : Role) (b : ℕ) (start : List Token) (e : Expr) (ts : List Token) → Every (Upto ts) (behind_target role b start e ts)
unfolding behind_target
behind_target_upto role b start e [] = every_none
behind_target_upto role b start e (t ∷ ts) = every_more (behind_kind_upto role b start e t.kind ts) (λ x l. omega (arith, l))

simple_less : (role : Role) (b : ℕ) (ts : List Token) → Every (Below ts) (simple_at role b ts)
unfolding simple_at
simple_less role b ts =
    every_bind (base_at b ts) _ (base_less b ts) (λ e l. every_more (behind_target_upto role b ts e.0 e.1) (λ x m. omega (arith, l, m)))

before_upto : (role : Role) (b : ℕ) (k : StepKind) (start ts : List Token) → Every (Upto ts) (before_at role b k start ts)
unfolding before_at stmt_of
before_upto role b k start ts =
    every_bind (base_at b ts) _ (base_less b ts)
    (λ e l. every_bind (only (may_step role && is_target e.0) (end_at role e.1)) _ (every_only (may_step role && is_target e.0) (end_at role e.1) (end_upto role e.1))
    (λ rest m. every_some (omega (arith, l, m))))

named_less : (role : Role) (b : ℕ) (ts : List Token) → Every (Below ts) (named_at role b ts)
unfolding named_at
named_less role b ts = every_or (declare_at role b ts) (simple_at role b ts) (declare_less role b ts) (simple_less role b ts)

-- Statements with expressions alone

parens_less : (b : ℕ) (ts : List Token) → Every (Below ts) (parens_at b ts)
unfolding parens_at
parens_less b ts =
    every_bind (mark_at mark.OpenParen ts) _ (mark_stands mark.OpenParen ts)
    (λ opening at. every_bind (value_at b opening) _ (value_less b opening)
    (λ e l. every_bind (mark_at mark.CloseParen e.1) _ (mark_stands mark.CloseParen e.1)
    (λ closing end. every_some (omega (arith, stands_less at, l, stands_less end)))))

return_upto : (b : ℕ) (start ts : List Token) → Every (Upto ts) (return_at b start ts)
unfolding return_at return_value_at stmt_of
return_upto b start ts =
    every_if (mark_ahead mark.Semicolon ts) _ _
    (λ _. every_bind (mark_at mark.Semicolon ts) _ (mark_stands mark.Semicolon ts) (λ rest at. every_some (omega (arith, stands_less at))))
    (λ _. every_bind (value_at b ts) _ (value_less b ts)
    (λ e l. every_bind (mark_at mark.Semicolon e.1) _ (mark_stands mark.Semicolon e.1) (λ rest at. every_some (omega (arith, l, stands_less at)))))

assert_upto : (b : ℕ) (start ts : List Token) → Every (Upto ts) (assert_at b start ts)
unfolding assert_at stmt_of
assert_upto b start ts =
    every_bind (value_at b ts) _ (value_less b ts)
    (λ e l. every_bind (mark_at mark.Semicolon e.1) _ (mark_stands mark.Semicolon e.1) (λ rest at. every_some (omega (arith, l, stands_less at))))

assume_upto : (b : ℕ) (start ts : List Token) → Every (Upto ts) (assume_at b start ts)
unfolding assume_at stmt_of
assume_upto b start ts =
    every_bind (value_at b ts) _ (value_less b ts)
    (λ e l. every_bind (mark_at mark.Semicolon e.1) _ (mark_stands mark.Semicolon e.1) (λ rest at. every_some (omega (arith, l, stands_less at))))

minimize_upto : (b : ℕ) (start ts : List Token) → Every (Upto ts) (minimize_at b start ts)
unfolding minimize_at stmt_of
minimize_upto b start ts =
    every_bind (parens_at b ts) _ (parens_less b ts)
    (λ e l. every_bind (mark_at mark.Semicolon e.1) _ (mark_stands mark.Semicolon e.1) (λ rest at. every_some (omega (arith, l, stands_less at))))

between_less : (b : ℕ) (ts : List Token) → Every (Below ts) (between_semicolons b ts)
unfolding between_semicolons
between_less b ts =
    every_bind (mark_at mark.Semicolon ts) _ (mark_stands mark.Semicolon ts)
    (λ before at. every_bind (value_at b before) _ (value_less b before)
    (λ e l. every_bind (mark_at mark.Semicolon e.1) _ (mark_stands mark.Semicolon e.1)
    (λ behind end. every_some (omega (arith, stands_less at, l, stands_less end)))))

-- a reader of statements that takes a token at least
pub record TakesByRole (inner : ByRole) : Type 0 where
  pub takes : (role : Role) (ts : List Token) → Every (Below ts) (inner role ts)

module _ (inner : ByRole) (good : TakesByRole inner) where
  next_stmt_less : (stmts : List Stmt) (ts : List Token) → Every (Below ts) (next_stmt inner stmts ts)
  unfolding next_stmt
  next_stmt_less stmts ts = every_bind (inner InBlock ts) _ (good.takes InBlock ts) (λ s l. every_some l)

  next_stmt_shrinks : Shrinks (next_stmt inner)
  next_stmt_shrinks = record { takes = λ stmts ts r rest e. (next_stmt_less stmts ts).each (pair r rest) e }

  stmts_upto : (ts : List Token) → Every (Upto ts) (stmts_at inner ts)
  unfolding stmts_at
  stmts_upto ts =
      every_bind (repeated ends_block (next_stmt inner) [] ts) _
      (every_repeated ends_block (next_stmt inner) (λ stmts rest. length rest ≤ length ts) (λ stmts rest i _. every_more (next_stmt_less stmts rest) (λ x l. omega (arith, i, l))) [] ts (omega arith))
      (λ stmts p. every_bind (mark_at mark.CloseBrace stmts.1) _ (mark_stands mark.CloseBrace stmts.1) (λ rest at. every_some (omega (arith, p.0, stands_less at))))

  block_upto : (start ts : List Token) → Every (Upto ts) (block_at inner start ts)
  unfolding block_at stmt_of
  block_upto start ts = every_bind (stmts_at inner ts) _ (stmts_upto ts) (λ ss l. every_some l)

  reorder_upto : (start ts : List Token) → Every (Upto ts) (reorder_at inner start ts)
  unfolding reorder_at stmt_of
  reorder_upto start ts =
      every_bind (mark_at mark.OpenBrace ts) _ (mark_stands mark.OpenBrace ts)
      (λ opening at. every_bind (stmts_at inner opening) _ (stmts_upto opening) (λ ss l. every_some (omega (arith, stands_less at, l))))

  behind_if_upto : (start : List Token) (c : Expr) (a : Stmt) (ts : List Token) → Every (Upto ts) (behind_if inner start c a ts)
  unfolding behind_if stmt_of
  behind_if_upto start c a ts =
      every_if (key_ahead key.Else ts) _ _
      (λ _. every_bind (key_at key.Else ts) _ (key_stands key.Else ts)
      (λ other at. every_bind (inner AsBody other) _ (good.takes AsBody other) (λ b l. every_some (omega (arith, stands_less at, l)))))
      (λ _. every_some (omega arith))

  if_upto : (b : ℕ) (start ts : List Token) → Every (Upto ts) (if_at inner b start ts)
  unfolding if_at
  if_upto b start ts =
      every_bind (parens_at b ts) _ (parens_less b ts)
      (λ c l. every_bind (inner AsBody c.1) _ (good.takes AsBody c.1)
      (λ a m. every_more (behind_if_upto start c.0 a.0 a.1) (λ x n. omega (arith, l, m, n))))

  while_upto : (b : ℕ) (start ts : List Token) → Every (Upto ts) (while_at inner b start ts)
  unfolding while_at stmt_of
  while_upto b start ts =
      every_bind (parens_at b ts) _ (parens_less b ts)
      (λ c l. every_bind (inner AsBody c.1) _ (good.takes AsBody c.1) (λ a m. every_some (omega (arith, l, m))))

  repeat_upto : (b : ℕ) (start ts : List Token) → Every (Upto ts) (repeat_at inner b start ts)
  unfolding repeat_at stmt_of
  repeat_upto b start ts =
      every_bind (parens_at b ts) _ (parens_less b ts)
      (λ c l. every_bind (inner AsBody c.1) _ (good.takes AsBody c.1) (λ a m. every_some (omega (arith, l, m))))

  minrepeat_upto : (start ts : List Token) → Every (Upto ts) (minrepeat_at inner start ts)
  unfolding minrepeat_at stmt_of
  minrepeat_upto start ts = every_bind (inner AsBody ts) _ (good.takes AsBody ts) (λ a l. every_some (omega (arith, l)))

  for_upto : (b : ℕ) (start ts : List Token) → Every (Upto ts) (for_at inner b start ts)
  unfolding for_at for_body_at stmt_of
  for_upto b start ts =
      every_bind (mark_at mark.OpenParen ts) _ (mark_stands mark.OpenParen ts)
      (λ opening at. every_bind (inner AsFirst opening) _ (good.takes AsFirst opening)
      (λ first l. every_bind (between_semicolons b first.1) _ (between_less b first.1)
      (λ c m. every_bind (inner AsNext c.1) _ (good.takes AsNext c.1)
      (λ next n. every_bind (mark_at mark.CloseParen next.1) _ (mark_stands mark.CloseParen next.1)
      (λ closing end. every_bind (inner AsBody closing) _ (good.takes AsBody closing)
      (λ body o. every_some (omega (arith, stands_less at, l, m, n, stands_less end, o))))))))

  whole_upto : (b : ℕ) (start : List Token) (k : Kind) (ts : List Token) → Every (Upto ts) (whole_at inner b start k ts)
  unfolding whole_at stmt_of
  whole_upto b start (kind.Mark mark.OpenBrace) ts = block_upto start ts
  whole_upto b start (kind.Mark mark.Semicolon) ts = every_some (omega arith)
  whole_upto b start (kind.Key key.If) ts = if_upto b start ts
  whole_upto b start (kind.Key key.While) ts = while_upto b start ts
  whole_upto b start (kind.Key key.For) ts = for_upto b start ts
  whole_upto b start (kind.Key key.Return) ts = return_upto b start ts
  whole_upto b start (kind.Key key.Assert) ts = assert_upto b start ts
  whole_upto b start (kind.Key key.Assume) ts = assume_upto b start ts
  whole_upto b start (kind.Key key.Minimize) ts = minimize_upto b start ts
  whole_upto b start (kind.Key key.Repeat) ts = repeat_upto b start ts
  whole_upto b start (kind.Key key.Minrepeat) ts = minrepeat_upto start ts
  whole_upto b start (kind.Key key.Reorder) ts = reorder_upto start ts
  whole_upto b start _ ts = every_none

  kind_less : (b : ℕ) (role : Role) (k : Kind) (t : Token) (ts : List Token) → Every (Below (t ∷ ts)) (stmt_kind inner b role (t ∷ ts) k ts)
  kind_less b role (kind.Key key.Int) t ts = declare_less role b (t ∷ ts)
  kind_less b role (kind.Key key.Bit) t ts = declare_less role b (t ∷ ts)
  kind_less b role (kind.Mark mark.Increment) t ts = every_more (before_upto role b step.PreInc (t ∷ ts) ts) (λ x l. omega (arith, l))
  kind_less b role (kind.Mark mark.Decrement) t ts = every_more (before_upto role b step.PreDec (t ∷ ts) ts) (λ x l. omega (arith, l))
  kind_less b role (kind.Word x) t ts = named_less role b (t ∷ ts)
  kind_less b role (kind.Mark mark.OpenPattern) t ts = simple_less role b (t ∷ ts)
  kind_less b role k t ts = every_only (is_whole role) (whole_at inner b (t ∷ ts) k ts) (every_more (whole_upto b (t ∷ ts) k ts) (λ x l. omega (arith, l)))

  form_less : (b : ℕ) (role : Role) (ts : List Token) → Every (Below ts) (form_at inner b role ts)
  unfolding form_at
  form_less b role [] = every_none
  form_less b role (t ∷ ts) = kind_less b role t.kind t ts

pub stmt_takes : (b : ℕ) → TakesByRole (stmt_at b)
unfolding stmt_at
stmt_takes zero = record { takes = λ role ts. every_none }
stmt_takes (suc b) = record { takes = λ role ts. form_less (stmt_at b) (stmt_takes b) b role ts }

pub next_stmt_takes : (b : ℕ) → Shrinks (next_stmt (stmt_at b))
next_stmt_takes b = next_stmt_shrinks (stmt_at b) (stmt_takes b)

pub stmts_less : (b : ℕ) (ts : List Token) → Every (Upto ts) (stmts_at (stmt_at b) ts)
stmts_less b ts = stmts_upto (stmt_at b) (stmt_takes b) ts
