-- Small trees, patterns and texts for the examples.
use Rattle.std.specs.Prelude.{ℕ, List, [], ◌∷◌, ◌++◌, Some, None, codes}
use Rattle.sk_base.specs.declared.span.Span.{Span}
use Rattle.sk_tree.specs.declared.token.Token.{Token}
use Rattle.sk_tree.specs.declared.token.Kind.{Kind}
use Rattle.sk_tree.specs.declared.token.Kind.TheVariants as kind
use Rattle.sk_tree.specs.declared.token.Mark.TheVariants as mark
use Rattle.sk_tree.specs.declared.token.Key.TheVariants as key
use Rattle.sk_tree.specs.declared.pattern.Pattern.{Pattern}
use Rattle.sk_tree.specs.declared.pattern.Pattern.TheVariants as pattern
use Rattle.sk_tree.specs.declared.expr.Expr.{Expr}
use Rattle.sk_tree.specs.declared.expr.EForm.{EForm}
use Rattle.sk_tree.specs.declared.expr.EForm.TheVariants as eform
use Rattle.sk_tree.specs.declared.stmt.Stmt.{Stmt}
use Rattle.sk_tree.specs.declared.stmt.Form.{Form}
use Rattle.sk_tree.specs.declared.stmt.Form.TheVariants as form
use Rattle.sk_tree.specs.declared.stmt.StepKind.TheVariants as step
use Rattle.sk_tree.specs.declared.item.FunKind.TheVariants as funkind
use Rattle.sk_tree.specs.declared.item.Item.TheVariants as item
use Rattle.sk_tree.specs.declared.item.Tree.{Tree}

-- Spans count for nothing in most examples.
abbrev pub nowhere : Span
nowhere = record { from = 0; to = 0 }

abbrev pub token : Kind → Token
token k = record { kind = k; span = nowhere }

abbrev pub expr : EForm → Expr
expr f = record { span = nowhere; form = f }

abbrev pub stmt : Form → Stmt
stmt f = record { span = nowhere; form = f }

-- Patterns

abbrev pub p : Token
p = token (kind.Word (codes "p"))

abbrev pub q : Token
q = token (kind.Word (codes "q"))

abbrev pub next : Token
next = token (kind.Word (codes "next"))

abbrev pub dot : Token
dot = token (kind.Mark mark.Dot)

-- a choice of one sequence
abbrev pub one_sequence : List Pattern → Pattern
one_sequence parts = pattern.Choice (pattern.Seq parts ∷ [])

-- `p | q`
abbrev pub p_or_q : Pattern
p_or_q = pattern.Choice (pattern.Seq (pattern.One p ∷ []) ∷ pattern.Seq (pattern.One q ∷ []) ∷ [])

-- `.next`
abbrev pub dot_next : Pattern
dot_next = one_sequence (pattern.One dot ∷ pattern.One next ∷ [])

-- `(p | q)(.next)?`
abbrev pub maybe_next : Pattern
maybe_next = one_sequence (pattern.Group p_or_q ∷ pattern.Maybe (pattern.Group dot_next) ∷ [])

-- Expressions

abbrev pub a : Expr
a = expr (eform.Word (codes "a"))

abbrev pub b : Expr
b = expr (eform.Word (codes "b"))

abbrev pub c : Expr
c = expr (eform.Word (codes "c"))

abbrev pub i : Expr
i = expr (eform.Word (codes "i"))

abbrev pub number : ℕ → Expr
number n = expr (eform.Number n)

abbrev pub minus : Expr → Expr → Expr
minus x y = expr (eform.Binary mark.Minus x y)

-- Statements

abbrev pub empty : Stmt
empty = stmt form.Empty

-- `if (a) if (b) ;` and then an `else` of the first `if`
abbrev pub dangling : Stmt
dangling = stmt (form.If a (stmt (form.If b empty None)) (Some empty))

-- the same with the `else` of the second `if`
abbrev pub nearest : Stmt
nearest = stmt (form.If a (stmt (form.If b empty (Some empty))) None)

-- `for (i = 0; i < 3; i++) ;`
abbrev pub counting : Stmt
counting =
    stmt (form.For (stmt (form.Assign i (number 0))) (expr (eform.Binary mark.Less i (number 3))) (stmt (form.Step step.PostInc i None)) empty)

-- `void f() { for (i = 0; i < 3; i++) ; }`
abbrev pub loop : Tree
loop =
    record { items = item.Fun (record { kind = funkind.Plain; result = None; name = codes "f"; params = []; implements = None; body = counting ∷ [] }) ∷ [] }

-- `int N = {| p | q |};`
abbrev pub chosen : Tree
chosen = record { items = item.Const (codes "N") (expr (eform.Pattern p_or_q (a ∷ b ∷ []))) ∷ [] }

-- Texts

-- a name, a comment up to the end of its line, the end of the line, a comment up to `*/`, and a number
abbrev pub commented : List ℕ
commented = codes "a//b\n/*c*/1"

-- a comment that does not end
abbrev pub unclosed : List ℕ
unclosed = codes "int N = 8; /* x"

abbrev pub token_from : ℕ → ℕ → Kind → Token
token_from from to k = record { kind = k; span = record { from = from; to = to } }

-- the kinds of `void f() { for (i = 0; i < 3; i++) ; }`
abbrev pub loop_kinds : List Kind
loop_kinds =
    kind.Key key.Void ∷ kind.Word (codes "f") ∷ kind.Mark mark.OpenParen ∷ kind.Mark mark.CloseParen ∷ kind.Mark mark.OpenBrace
    ∷ kind.Key key.For ∷ kind.Mark mark.OpenParen
    ∷ kind.Word (codes "i") ∷ kind.Mark mark.Assign ∷ kind.Number 0 ∷ kind.Mark mark.Semicolon
    ∷ kind.Word (codes "i") ∷ kind.Mark mark.Less ∷ kind.Number 3 ∷ kind.Mark mark.Semicolon
    ∷ kind.Word (codes "i") ∷ kind.Mark mark.Increment ∷ kind.Mark mark.CloseParen
    ∷ kind.Mark mark.Semicolon ∷ kind.Mark mark.CloseBrace ∷ []

-- `int N = {| p | q |};` with its tokens and spans

abbrev pub p_there : Token
p_there = token_from 11 12 (kind.Word (codes "p"))

abbrev pub q_there : Token
q_there = token_from 15 16 (kind.Word (codes "q"))

abbrev pub offer : Pattern
offer = pattern.Choice (pattern.Seq (pattern.One p_there ∷ []) ∷ pattern.Seq (pattern.One q_there ∷ []) ∷ [])

abbrev pub p_tree : Expr
p_tree = record { span = record { from = 11; to = 12 }; form = eform.Word (codes "p") }

abbrev pub q_tree : Expr
q_tree = record { span = record { from = 15; to = 16 }; form = eform.Word (codes "q") }

abbrev pub offer_tokens : List Token
offer_tokens =
    token_from 8 10 (kind.Mark mark.OpenPattern) ∷ p_there ∷ token_from 13 14 (kind.Mark mark.Bar) ∷ q_there
    ∷ token_from 17 19 (kind.Mark mark.ClosePattern) ∷ []

abbrev pub offering : Expr
offering = record { span = record { from = 8; to = 19 }; form = eform.Pattern offer (p_tree ∷ q_tree ∷ []) }

abbrev pub offered : Tree
offered = record { items = item.Const (codes "N") offering ∷ [] }

abbrev pub offered_tokens : List Token
offered_tokens =
    token_from 0 3 (kind.Key key.Int) ∷ token_from 4 5 (kind.Word (codes "N")) ∷ token_from 6 7 (kind.Mark mark.Assign)
    ∷ (offer_tokens ++ (token_from 19 20 (kind.Mark mark.Semicolon) ∷ []))
