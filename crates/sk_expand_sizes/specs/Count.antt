-- What is counted of a body, one node after another: its own steps and records, and the calls in it, which are still to
-- be counted. Each part is counted by how many times it is done.
use Rattle.std.specs.Prelude.{ℕ, zero, suc, ◌+◌, ◌*◌, ◌++◌, List, [], ◌∷◌, map, length, Option, Some, None, option_map, if◌then◌else◌}
use Rattle.sk_prog.specs.declared.expr.PExpr.{PExpr}
use Rattle.sk_prog.specs.declared.expr.PField.{PField}
use Rattle.sk_prog.specs.declared.expr.PEForm.TheOpen as P
use Rattle.sk_prog.specs.declared.expr.PEForm.TheFolds.{fold-PExpr, fold-PField}
use Rattle.sk_prog.specs.declared.stmt.PStmt.{PStmt}
use Rattle.sk_prog.specs.declared.stmt.PForm.TheOpen as S
use Rattle.sk_prog.specs.declared.stmt.PForm.TheFolds.{fold-PStmt}
use Rattle.sk_prog.specs.declared.prog.Fun.{Fun}
use Rattle.sk_expand_sizes.specs.declared.tally.Tally.{Tally}
use Rattle.sk_expand_sizes.specs.declared.count.Count.{Count}
use Rattle.sk_expand_sizes.specs.Tally.{added, is_over}

-- how counting goes on over a part
abbrev pub Counting : Type 0
Counting = Count → Count

abbrev pub in_turn : List Counting → Counting
in_turn [] c = c
in_turn (part ∷ parts) c = in_turn parts (part c)

-- steps and records of a node's own
unfoldable pub charged : ℕ → ℕ → Counting
charged steps news c = record c { tally = added c.tally steps news }

-- one more call is still to be counted
abbrev pub with_call : ℕ → ℕ → Counting
with_call f times c = record c { due = c.due ++ record { callee = f; times = times } ∷ [] }

-- as long as there are not too many steps
abbrev pub unless_over : Counting → Counting
unless_over part c = if is_over c.tally then c else part c

-- Expressions, which are done so many times

module _ (times : ℕ) where
  abbrev pub node : Counting
  node = charged times 0

  abbrev pub eform_counted : P.PEForm-F Counting Counting Counting → Counting
  eform_counted (P.ToInt e) c = e c
  eform_counted (P.Pad e) c = e c
  eform_counted (P.Call f args) c = in_turn args (unless_over (with_call f.index times) (node c))
  eform_counted (P.New s fields) c = in_turn fields (charged times times c)
  eform_counted (P.Number n) c = node c
  eform_counted P.True c = node c
  eform_counted P.False c = node c
  eform_counted P.Null c = node c
  eform_counted (P.Var slot name) c = node c
  eform_counted (P.Const k) c = node c
  eform_counted (P.Hole width) c = node c
  eform_counted (P.Pattern strings) c = in_turn strings (node c)
  eform_counted (P.Paren e) c = e (node c)
  eform_counted (P.Braces es) c = in_turn es (node c)
  eform_counted (P.Member e s field) c = e (node c)
  eform_counted (P.Index e i) c = i (e (node c))
  eform_counted (P.Slice e i n) c = i (e (node c))
  eform_counted (P.Unary op e) c = e (node c)
  eform_counted (P.Binary op a b) c = b (a (node c))
  eform_counted (P.Cond test a b) c = b (a (test (node c)))

  abbrev pub expr_counted : PExpr → Counting
  expr_counted = fold-PExpr Counting Counting Counting eform_counted (λ e. e.form) (λ x. x.value)

  abbrev pub field_counted : PField → Counting
  field_counted = fold-PField Counting Counting Counting eform_counted (λ e. e.form) (λ x. x.value)

  abbrev pub exprs_counted : List PExpr → Counting
  exprs_counted es = in_turn (map expr_counted es)

  abbrev pub fields_counted : List PField → Counting
  fields_counted xs = in_turn (map field_counted xs)

  abbrev pub value_counted : Option PExpr → Counting
  value_counted None c = c
  value_counted (Some e) c = expr_counted e c

-- Statements, which are done as many times as is said

abbrev pub Repeated : Type 0
Repeated = ℕ → Counting

abbrev pub row_counted : List Repeated → Repeated
row_counted [] times c = c
row_counted (part ∷ parts) times c = row_counted parts times (part times c)

abbrev pub any_counted : Option Repeated → Repeated
any_counted None times c = c
any_counted (Some part) times c = part times c

-- the body of a loop with so many turns
abbrev pub body_counted : ℕ → Repeated → Repeated
body_counted zero body times c = c
body_counted (suc turns) body times c = body (times * suc turns) c

abbrev pub loop_counted : ℕ → PExpr → Repeated → Repeated
loop_counted turns test body times c = body_counted turns body times (expr_counted (times * (turns + 1)) test c)

module _ (turns : ℕ) where
  abbrev pub form_counted : S.PForm-F Repeated Repeated → Repeated
  form_counted (S.While test body) times c = unless_over (loop_counted turns test body times) c
  form_counted (S.Reorder ss) times c = unless_over (row_counted ss (times * length ss)) c
  form_counted (S.Repeat count copies) times c = row_counted copies times c
  form_counted (S.MinRepeat copies) times c = row_counted copies times c
  form_counted (S.Block ss) times c = row_counted ss times c
  form_counted (S.Declare slot name t value) times c = value_counted times value c
  form_counted (S.Assign target value) times c = expr_counted times value (expr_counted times target c)
  form_counted (S.Call e) times c = expr_counted times e c
  form_counted (S.If test a b) times c = any_counted b times (a times (expr_counted times test c))
  form_counted (S.Return value) times c = value_counted times value c
  form_counted (S.Assert e) times c = expr_counted times e c
  form_counted (S.Assume e) times c = expr_counted times e c
  form_counted (S.Minimize e) times c = expr_counted times e c

  abbrev pub stmt_counted : PStmt → Repeated
  stmt_counted = fold-PStmt Repeated Repeated form_counted (λ s times c. s.form times (charged times 0 c))

  abbrev pub stmts_counted : List PStmt → Repeated
  stmts_counted ss = row_counted (map stmt_counted ss)

  abbrev pub branch_counted : Option PStmt → Repeated
  branch_counted s = any_counted (option_map stmt_counted s)

  -- a function, by what is counted before it
  abbrev pub fun_counted : Fun → ℕ → Tally → Count
  fun_counted f times before = stmts_counted f.body times (charged times 0 (record { tally = before; due = [] }))
