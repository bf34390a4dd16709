-- Small programs, and what expansion, sites, filling and sizes make of them.
use Rattle.std.specs.Prelude.{◌≡◌, ℕ, List, [], ◌∷◌, true, false, codes, Some, None}
use Rattle.sk_base.specs.declared.span.Span.{Span}
use Rattle.sk_base.specs.declared.bounds.Bounds.{Bounds}
use Rattle.sk_prog.specs.declared.ty.Ty.{Ty}
use Rattle.sk_prog.specs.declared.ty.Ty.TheVariants as ty
use Rattle.sk_prog.specs.declared.ty.Elem.TheVariants as elem
use Rattle.sk_prog.specs.declared.expr.BinOp.TheVariants as op
use Rattle.sk_prog.specs.declared.expr.PExpr.{PExpr}
use Rattle.sk_prog.specs.declared.expr.PEForm.{PEForm}
use Rattle.sk_prog.specs.declared.expr.PEForm.TheVariants as eform
use Rattle.sk_prog.specs.declared.stmt.PStmt.{PStmt}
use Rattle.sk_prog.specs.declared.stmt.PForm.{PForm}
use Rattle.sk_prog.specs.declared.stmt.PForm.TheVariants as form
use Rattle.sk_prog.specs.declared.prog.FunKind.{FunKind}
use Rattle.sk_prog.specs.declared.prog.FunKind.TheVariants as kind
use Rattle.sk_prog.specs.declared.prog.Fun.{Fun}
use Rattle.sk_prog.specs.declared.prog.Prog.{Prog}
use Rattle.sk_model.specs.declared.expanded.Expanded.{Expanded}
use Rattle.sk_model.specs.Sites.{site, sites}
use Rattle.sk_model.specs.Expand.{expand_prog}
use Rattle.sk_model.specs.Stands.{standing, sites_stand}
use Rattle.sk_model.specs.Fill.{fill}
use Rattle.sk_model.specs.Nodes.{nodes}
use Rattle.sk_model.specs.Steps.{steps}
use Rattle.sk_model.specs.News.{news}

abbrev pub at_bytes : ℕ → ℕ → Span
at_bytes from to = record { from = from; to = to }

abbrev pub here : Span
here = at_bytes 0 0

abbrev pub int : Ty
int = ty.One elem.Int

abbrev pub bit : Ty
bit = ty.One elem.Bit

abbrev pub int_of : PEForm → PExpr
int_of form = record { span = here; ty = Some int; form = form }

abbrev pub bit_of : PEForm → PExpr
bit_of form = record { span = here; ty = Some bit; form = form }

abbrev pub number : ℕ → PExpr
number n = int_of (eform.Number n)

abbrev pub hole : PExpr
hole = int_of (eform.Hole None)

abbrev pub x : PExpr
x = int_of (eform.Var 0 (codes "x"))

abbrev pub call : ℕ → List PExpr → PExpr
call f args = int_of (eform.Call (record { index = f }) args)

abbrev pub stmt : PForm → PStmt
stmt form = record { span = here; form = form }

abbrev pub block : List PStmt → PStmt
block ss = stmt (form.Block ss)

abbrev pub returns : PExpr → PStmt
returns e = stmt (form.Return (Some e))

abbrev pub fun : FunKind → List ℕ → List PStmt → Fun
fun kind name body = record { name = name; kind = kind; result = Some int; params = []; slots = 0; implements = None; body = body }

abbrev pub program : List Fun → Prog
program funs = record { structs = []; consts = []; funs = funs }

-- integers of 6 bits, holes of 2, 8 turns, 2 active calls of one function
abbrev pub small : Bounds
small = record { int_bits = 6; cbits = 2; inbits = 2; unroll = 8; inline_amnt = 2 }

-- `generator int h() { return ??; }`, `generator int g() { return h(); }`, and between them and after them an
-- ordinary function: one calls g twice, the other calls the one
abbrev pub nested : Prog
nested = program
    (fun kind.Generator (codes "h") (returns hole ∷ [])
    ∷ fun kind.Plain (codes "f") (returns (int_of (eform.Binary op.Add (call 2 []) (call 2 []))) ∷ [])
    ∷ fun kind.Generator (codes "g") (returns (call 0 []) ∷ [])
    ∷ fun kind.Harness (codes "main") (returns (call 1 []) ∷ [])
    ∷ [])

-- Each call of g has a copy, which is numbered before the copy of h that it calls.
abbrev pub CopiesAndNumbers : Type 0
CopiesAndNumbers =
    expand_prog nested small
    ≡ program
    (fun kind.Plain (codes "f") (returns (int_of (eform.Binary op.Add (call 2 []) (call 4 []))) ∷ [])
    ∷ fun kind.Harness (codes "main") (returns (call 0 []) ∷ [])
    ∷ fun kind.Plain (codes "g__1") (returns (call 3 []) ∷ [])
    ∷ fun kind.Plain (codes "h__2") (returns hole ∷ [])
    ∷ fun kind.Plain (codes "g__3") (returns (call 5 []) ∷ [])
    ∷ fun kind.Plain (codes "h__4") (returns hole ∷ [])
    ∷ [])

-- `generator int g() { return g(); }` called once, where 2 copies may be walked one inside another
abbrev pub endless : Prog
endless = program
    (fun kind.Generator (codes "g") (returns (record { span = at_bytes 24 27; ty = Some int; form = eform.Call (record { index = 0 }) [] }) ∷ [])
    ∷ fun kind.Harness (codes "main") (returns (call 0 []) ∷ [])
    ∷ [])

-- The third copy's body is `assert false;`, with the span of the call.
abbrev pub PastTheBound : Type 0
PastTheBound =
    expand_prog endless small
    ≡ program
    (fun kind.Harness (codes "main") (returns (call 1 []) ∷ [])
    ∷ fun kind.Plain (codes "g__1") (returns (record { span = at_bytes 24 27; ty = Some int; form = eform.Call (record { index = 2 }) [] }) ∷ [])
    ∷ fun kind.Plain (codes "g__2") (returns (record { span = at_bytes 24 27; ty = Some int; form = eform.Call (record { index = 3 }) [] }) ∷ [])
    ∷ fun kind.Plain (codes "g__3") (record { span = at_bytes 24 27; form = form.Assert (record { span = at_bytes 24 27; ty = Some bit; form = eform.False }) } ∷ [])
    ∷ [])

abbrev pub one_harness : List PStmt → Prog
one_harness body = program (fun kind.Harness (codes "main") body ∷ [])

-- `minrepeat { assert true; }` and `repeat (2) { assert true; }`
abbrev pub holds : PStmt
holds = stmt (form.Assert (bit_of eform.True))

abbrev pub counted : Prog
counted = one_harness (stmt (form.MinRepeat (block (holds ∷ []) ∷ [])) ∷ stmt (form.Repeat (number 2) (block (holds ∷ []) ∷ [])) ∷ [])

-- A minrepeat holds as many copies as a hole of 2 bits may keep, which are 3; a repeat by 2 holds 2.
abbrev pub CopiesOfRepeats : Type 0
CopiesOfRepeats =
    expand_prog counted small
    ≡ one_harness
    (stmt (form.MinRepeat (block (holds ∷ []) ∷ block (holds ∷ []) ∷ block (holds ∷ []) ∷ []))
    ∷ stmt (form.Repeat (number 2) (block (holds ∷ []) ∷ block (holds ∷ []) ∷ []))
    ∷ [])

-- expanded programs without generators
abbrev pub expanded : Prog → Expanded
expanded p = record { prog = p; ordinary = 1; sites = sites small p }

abbrev pub assign : PExpr → PExpr → PStmt
assign target value = stmt (form.Assign target value)

abbrev pub bits : ℕ → ℕ → PExpr
bits n slot = record { span = here; ty = Some (ty.Array elem.Bit n); form = eform.Var slot (codes "b") }

abbrev pub ordered : List PStmt → PStmt
ordered ss = record { span = at_bytes 10 20; form = form.Reorder ss }

abbrev pub pattern : List PExpr → PExpr
pattern es = record { span = at_bytes 30 40; ty = Some int; form = eform.Pattern es }

abbrev pub sum : PExpr
sum = int_of (eform.Binary op.Add x hole)

-- `reorder { x = x; x = 1; x = {| x | x + ?? |}; }`, then `b = ??;` with a `bit[2]` b
abbrev pub mixed : List PStmt
mixed = ordered (assign x x ∷ assign x (number 1) ∷ assign x (pattern (x ∷ sum ∷ [])) ∷ []) ∷ assign (bits 2 1) (record { span = at_bytes 50 52; ty = Some (ty.Array elem.Bit 2); form = eform.Hole None }) ∷ []

-- The sites of the reorder stand first, then that of the pattern, then that in its string, then two bits.
abbrev pub SitesOfReorder : Type 0
SitesOfReorder =
    sites small (one_harness mixed)
    ≡ site 2 (at_bytes 10 20) ∷ site 3 (at_bytes 10 20) ∷ site 2 (at_bytes 30 40) ∷ site 4 here ∷ site 2 (at_bytes 50 52) ∷ site 2 (at_bytes 50 52) ∷ []

-- the body of the harness under a choice
abbrev pub filled : List PStmt → List ℕ → Prog
filled body values = fill (expanded (one_harness body)) (record { values = values })

-- With digits 1 and 0 the second statement stands before the first and the third after both.
abbrev pub FillsReorder : Type 0
FillsReorder =
    filled (ordered (assign x x ∷ assign x (number 1) ∷ assign x (number 2) ∷ []) ∷ []) (1 ∷ 0 ∷ [])
    ≡ one_harness (record { span = at_bytes 10 20; form = form.Block (assign x (number 1) ∷ assign x x ∷ assign x (number 2) ∷ []) } ∷ [])

-- The chosen string `x + ??` is no operand of the tightest level, so parentheses stand round it; `x` is one.
abbrev pub FillsPattern : Type 0
FillsPattern =
    filled (returns (pattern (x ∷ sum ∷ [])) ∷ returns (pattern (x ∷ sum ∷ [])) ∷ []) (1 ∷ 3 ∷ 0 ∷ 2 ∷ [])
    ≡ one_harness
    (returns (record { span = at_bytes 30 40; ty = Some int; form = eform.Paren (record { span = at_bytes 30 40; ty = Some int; form = eform.Binary op.Add x (number 3) }) })
    ∷ returns (record { span = at_bytes 30 40; ty = Some int; form = eform.Var 0 (codes "x") })
    ∷ [])

-- A hole of two bits becomes braces.
abbrev pub FillsBits : Type 0
FillsBits =
    filled (assign (bits 2 1) (record { span = here; ty = Some (ty.Array elem.Bit 2); form = eform.Hole None }) ∷ []) (0 ∷ 1 ∷ [])
    ≡ one_harness (assign (bits 2 1) (record { span = here; ty = Some (ty.Array elem.Bit 2); form = eform.Braces (bit_of (eform.Number 0) ∷ bit_of (eform.Number 1) ∷ []) }) ∷ [])

-- `repeat (??) { minrepeat { assert x + ?? == x; } }`, where each holds 2 copies
abbrev pub equals : PExpr → PStmt
equals e = stmt (form.Assert (bit_of (eform.Binary op.Eq e x)))

abbrev pub paying : PStmt
paying = record { span = at_bytes 60 70; form = form.MinRepeat (block (equals sum ∷ []) ∷ block (equals sum ∷ []) ∷ []) }

abbrev pub repeated : List PStmt
repeated = stmt (form.Repeat hole (block (paying ∷ []) ∷ block (paying ∷ []) ∷ [])) ∷ []

-- Of the first copy, of value 1, the first copy of its minrepeat stands; of the second copy nothing does.
-- The minrepeat that stands pays at the start of the harness.
abbrev pub FillsRepeats : Type 0
FillsRepeats =
    filled repeated (1 ∷ 1 ∷ 3 ∷ 2 ∷ 2 ∷ 0 ∷ 0 ∷ [])
    ≡ one_harness
    (record { span = at_bytes 60 70; form = form.Minimize (record { span = at_bytes 60 70; ty = Some int; form = eform.Number 1 }) }
    ∷ block (block (record { span = at_bytes 60 70; form = form.Block (block (equals (int_of (eform.Binary op.Add x (number 3))) ∷ []) ∷ []) } ∷ []) ∷ [])
    ∷ [])

abbrev pub StandsInRepeats : Type 0
StandsInRepeats =
    sites_stand (standing (expanded (one_harness repeated)) (1 ∷ 1 ∷ 3 ∷ 2 ∷ 2 ∷ 0 ∷ 0 ∷ []))
    ≡ true ∷ true ∷ true ∷ false ∷ false ∷ false ∷ false ∷ []

-- Two copies of a generator of which one call does not stand: it is left out, and the calls have the new
-- numbers.
abbrev pub two_copies : Expanded
two_copies = record {
  prog = program
      (fun kind.Harness (codes "main") (stmt (form.Repeat hole (block (returns (call 1 []) ∷ []) ∷ [])) ∷ returns (call 2 []) ∷ [])
      ∷ fun kind.Plain (codes "g__1") (returns hole ∷ [])
      ∷ fun kind.Plain (codes "g__2") (returns hole ∷ [])
      ∷ []);
  ordinary = 1;
  sites = [];
}

abbrev pub DropsCopies : Type 0
DropsCopies =
    fill two_copies (record { values = 0 ∷ 2 ∷ 3 ∷ [] })
    ≡ program (fun kind.Harness (codes "main") (block [] ∷ returns (call 1 []) ∷ []) ∷ fun kind.Plain (codes "g__2") (returns (number 3) ∷ []) ∷ [])

-- `while (true) while (true) assert true;` with the bodies in blocks
abbrev pub while_true : PStmt → PStmt
while_true s = stmt (form.While (bit_of eform.True) (block (s ∷ [])))

abbrev pub loops : Expanded
loops = expanded (one_harness (while_true (while_true holds) ∷ []))

-- 8 turns: the assertion has 2 steps and its block 3, so the inner loop has 1 + 9 + 8 * 3, which are 34, its
-- block 35, the outer loop 1 + 9 + 8 * 35, which are 290, and the function 291.
abbrev pub StepsOfLoops : Type 0
StepsOfLoops = steps small loops ≡ 291

-- two loops, two blocks, an assertion and three expressions
abbrev pub NodesOfLoops : Type 0
NodesOfLoops = nodes loops.prog ≡ 8

-- A `new` in a loop counts once a turn, and an obligation by itself.
abbrev pub news_in_loop : Expanded
news_in_loop = expanded (one_harness (while_true (stmt (form.Call (int_of (eform.New (record { index = 0 }) [])))) ∷ []))

abbrev pub NewsOfLoop : Type 0
NewsOfLoop = news small news_in_loop ≡ 8

-- A function that calls itself twice has the steps of so many calls as may be active: of 2, the second's
-- calls have none.
abbrev pub twice : Expanded
twice = expanded (one_harness (returns (int_of (eform.Binary op.Add (call 0 []) (call 0 []))) ∷ []))

abbrev pub StepsOfCalls : Type 0
StepsOfCalls = steps small twice ≡ 15
