-- Small programs, and what they do when they are run.
use Rattle.std.specs.Prelude.{ℕ, ◌≡◌, pos, negsuc, Bool, true, false, List, [], ◌∷◌, Option, Some, None}
use Rattle.sk_base.specs.declared.span.Span.{Span}
use Rattle.sk_base.specs.declared.bounds.Bounds.{Bounds}
use Rattle.sk_prog.specs.declared.ty.Elem.TheVariants as elem
use Rattle.sk_prog.specs.declared.ty.Ty.{Ty}
use Rattle.sk_prog.specs.declared.ty.Ty.TheVariants as ty
use Rattle.sk_prog.specs.declared.value.Value.{Value}
use Rattle.sk_prog.specs.declared.value.Value.TheVariants as value
use Rattle.sk_prog.specs.declared.expr.UnOp.TheVariants as unary
use Rattle.sk_prog.specs.declared.expr.BinOp.{BinOp}
use Rattle.sk_prog.specs.declared.expr.BinOp.TheVariants as op
use Rattle.sk_prog.specs.declared.expr.PExpr.{PExpr}
use Rattle.sk_prog.specs.declared.expr.PEForm.{PEForm}
use Rattle.sk_prog.specs.declared.expr.PEForm.TheVariants as eform
use Rattle.sk_prog.specs.declared.stmt.PStmt.{PStmt}
use Rattle.sk_prog.specs.declared.stmt.PForm.{PForm}
use Rattle.sk_prog.specs.declared.stmt.PForm.TheVariants as form
use Rattle.sk_prog.specs.declared.prog.FunKind.TheVariants as kind
use Rattle.sk_prog.specs.declared.prog.StructDef.{StructDef}
use Rattle.sk_prog.specs.declared.prog.ParamDef.{ParamDef}
use Rattle.sk_prog.specs.declared.prog.Fun.{Fun}
use Rattle.sk_prog.specs.declared.prog.Prog.{Prog}
use Rattle.sk_model.specs.declared.outcome.Outcome.{Outcome}
use Rattle.sk_model.specs.declared.outcome.Outcome.TheVariants as outcome
use Rattle.sk_model.specs.Open.{open_bodies}
use Rattle.sk_model.specs.Run.{calls, outcome_of, start, nowhere, filled_bodies}

-- Programs are written as their trees, without names and without most spans. A text beside each says what
-- it is.

-- the smallest width, one turn of a loop, one call of a function at a time
abbrev pub small : Bounds
small = record { int_bits = 6; cbits = 2; inbits = 2; unroll = 1; inline_amnt = 1 }

-- the bytes of a statement, which say where a run failed
abbrev pub at : ℕ → Span
at n = record { from = n; to = n }

-- Expressions

abbrev pub of_type : Ty → PEForm → PExpr
of_type t form = record { span = nowhere; ty = Some t; form = form }

abbrev pub int_type : Ty
int_type = ty.One elem.Int

abbrev pub bits_type : ℕ → Ty
bits_type n = ty.Array elem.Bit n

abbrev pub int : PEForm → PExpr
int form = of_type int_type form

abbrev pub number : ℕ → PExpr
number n = int (eform.Number n)

abbrev pub minus : ℕ → PExpr
minus n = int (eform.Unary unary.Neg (number n))

abbrev pub sum : PExpr → PExpr → PExpr
sum a b = int (eform.Binary op.Add a b)

abbrev pub variable : ℕ → PExpr
variable slot = int (eform.Var slot [])

abbrev pub call : ℕ → List PExpr → PExpr
call f args = int (eform.Call (record { index = f }) args)

abbrev pub on : PEForm
on = eform.True

abbrev pub off : PEForm
off = eform.False

abbrev pub bits_of : PEForm → PEForm → PEForm → PExpr
bits_of a b c = of_type (bits_type 3) (eform.Braces (of_type (ty.One elem.Bit) a ∷ of_type (ty.One elem.Bit) b ∷ of_type (ty.One elem.Bit) c ∷ []))

abbrev pub on_bits : BinOp → PExpr → PExpr → PExpr
on_bits op a b = of_type (bits_type 3) (eform.Binary op a b)

abbrev pub three : Bool → Bool → Bool → Value
three a b c = value.Array (value.Bit a ∷ value.Bit b ∷ value.Bit c ∷ [])

-- Programs

abbrev pub stmt : ℕ → PForm → PStmt
stmt n form = record { span = at n; form = form }

abbrev pub block : List PStmt → PStmt
block ss = record { span = nowhere; form = form.Block ss }

abbrev pub param : Bool → ParamDef
param by_ref = record { name = []; ty = int_type; by_ref = by_ref }

abbrev pub fun : Option Ty → List ParamDef → ℕ → List PStmt → Fun
fun result params slots body = record { name = []; kind = kind.Plain; result = result; params = params; slots = slots; implements = None; body = body }

abbrev pub program : List Fun → Prog
program funs = record { structs = []; consts = []; funs = funs }

-- a run of the first function; that at most two calls may be active keeps the computation small
abbrev pub outcome_in : Prog → List Value → Outcome
outcome_in prog args = outcome_of (calls prog small (filled_bodies prog small) 2 [] nowhere 0 args start)

-- `int f() { return e; }`
abbrev pub alone : PExpr → Outcome
alone e = outcome_in (program (fun (Some int_type) [] 0 (stmt 1 (form.Return (Some e)) ∷ []) ∷ [])) []

abbrev pub Gives : PExpr → Value → Type 0
Gives e v = alone e ≡ outcome.Done (Some v) [] 0

abbrev pub HasFailed : PExpr → Type 0
HasFailed e = alone e ≡ outcome.Failed (at 1)

-- At a width of 6 the numbers go from -32 to 31.
pub record NumberExamples : Type 0 where
  -- 31 + 1
  pub wraps : Gives (sum (number 31) (number 1)) (value.Int (negsuc 31))
  -- -7 / 2 and -7 % 2
  pub truncates : Gives (int (eform.Binary op.Div (minus 7) (number 2))) (value.Int (negsuc 2))
  pub leaves : Gives (int (eform.Binary op.Rem (minus 7) (number 2))) (value.Int (negsuc 0))
  pub no_quotient : HasFailed (int (eform.Binary op.Div (number 7) (number 0)))
  -- true ? 1 : 7 / 0
  pub not_needed : Gives (int (eform.Cond (of_type (ty.One elem.Bit) on) (number 1) (int (eform.Binary op.Div (number 7) (number 0))))) (value.Int (pos 1))

pub record ArrayExamples : Type 0 where
  -- {1, 1, 0} + {1, 0, 0}, and {1, 1, 1} + {1, 0, 0}
  pub sum : Gives (on_bits op.Add (bits_of on on off) (bits_of on off off)) (three false false true)
  pub over : Gives (on_bits op.Add (bits_of on on on) (bits_of on off off)) (three false false false)
  -- {1, 1, 0} << 1, {1, 1, 0} >> 1, {1, 1, 0} >> 9, {1, 1, 0} << -1
  pub up : Gives (on_bits op.Shl (bits_of on on off) (number 1)) (three false true true)
  pub down : Gives (on_bits op.Shr (bits_of on on off) (number 1)) (three true false false)
  pub away : Gives (on_bits op.Shr (bits_of on on off) (number 9)) (three false false false)
  pub back : HasFailed (on_bits op.Shl (bits_of on on off) (minus 1))
  -- {1, 1, 0} ^ {1, 0, 1}
  pub xor : Gives (on_bits op.Xor (bits_of on on off) (bits_of on off on)) (three false true true)
  -- the number 1 where `bit`, where `bit[3]`, and where `int[2]` is wanted
  pub one_bit : Gives (of_type (ty.One elem.Bit) (eform.Number 1)) (value.Bit true)
  pub one_of_bits : Gives (of_type (bits_type 3) (eform.Number 1)) (three true false false)
  pub one_of_ints : Gives (of_type (ty.Array elem.Int 2) (eform.Number 1)) (value.Array (value.Int (pos 1) ∷ value.Int (pos 0) ∷ []))
  -- {1, 1, 0}[1], {1, 1, 0}[3], {1, 1, 0}[1::2], {1, 1, 0}[2::2]
  pub inside : Gives (of_type (ty.One elem.Bit) (eform.Index (bits_of on on off) (number 1))) (value.Bit true)
  pub outside : HasFailed (of_type (ty.One elem.Bit) (eform.Index (bits_of on on off) (number 3)))
  pub slice : Gives (of_type (bits_type 2) (eform.Slice (bits_of on on off) (number 1) 2)) (value.Array (value.Bit true ∷ value.Bit false ∷ []))
  pub leaving : HasFailed (of_type (bits_type 2) (eform.Slice (bits_of on on off) (number 2) 2))

-- `void f(int x) { while (x == x) { x = x + 1; } }`
abbrev pub endless : Prog
endless = program (fun None (param false ∷ []) 1 (stmt 1 (form.While (of_type (ty.One elem.Bit) (eform.Binary op.Eq (variable 0) (variable 0))) (block (stmt 3 (form.Assign (variable 0) (sum (variable 0) (number 1))) ∷ []))) ∷ []) ∷ [])

-- `void f() { f(); }`
abbrev pub own_call : Prog
own_call = program (fun None [] 0 (stmt 1 (form.Call (call 0 [])) ∷ []) ∷ [])

pub record BoundExamples : Type 0 where
  -- after the one turn that is allowed the condition is true
  pub turns : outcome_in endless (value.Int (pos 0) ∷ []) ≡ outcome.Failed (at 1)
  -- one call of `f` is allowed at a time
  pub calls : outcome_in own_call [] ≡ outcome.Failed (at 1)

-- `int f() { int x; g(x, x); return x; } void g(ref int a, ref int b) { a = 5; b = 6; }`
abbrev pub two_refs : Prog
two_refs = program (fun (Some int_type) [] 1 (stmt 1 (form.Declare 0 [] int_type None) ∷ stmt 2 (form.Call (call 1 (variable 0 ∷ variable 0 ∷ []))) ∷ stmt 3 (form.Return (Some (variable 0))) ∷ []) ∷ fun None (param true ∷ param true ∷ []) 2 (stmt 4 (form.Assign (variable 0) (number 5)) ∷ stmt 5 (form.Assign (variable 1) (number 6)) ∷ []) ∷ [])

-- `void f(ref int x) { x = x + 1; minimize(x); }`
abbrev pub adds_one : Prog
adds_one = program (fun None (param true ∷ []) 1 (stmt 1 (form.Assign (variable 0) (sum (variable 0) (number 1))) ∷ stmt 2 (form.Minimize (variable 0)) ∷ []) ∷ [])

pub record RefExamples : Type 0 where
  -- they are copied back in order, so the second one stays
  pub in_order : outcome_in two_refs [] ≡ outcome.Done (Some (value.Int (pos 6))) [] 0
  pub given : outcome_in adds_one (value.Int (pos 2) ∷ []) ≡ outcome.Done None (value.Int (pos 3) ∷ []) 3

-- `int g() { assert false; }`
abbrev pub fails : Fun
fails = fun (Some int_type) [] 0 (stmt 9 (form.Assert (of_type (ty.One elem.Bit) off)) ∷ [])

-- `void f() { int[2] a; a[2] = g(); }`
abbrev pub index_late : Prog
index_late = program (fun None [] 1 (stmt 1 (form.Declare 0 [] (ty.Array elem.Int 2) None) ∷ stmt 2 (form.Assign (int (eform.Index (of_type (ty.Array elem.Int 2) (eform.Var 0 [])) (number 2))) (call 1 [])) ∷ []) ∷ fails ∷ [])

-- `void f() { int[2] a; a[2] = 0; }`
abbrev pub index_wrong : Prog
index_wrong = program (fun None [] 1 (stmt 1 (form.Declare 0 [] (ty.Array elem.Int 2) None) ∷ stmt 2 (form.Assign (int (eform.Index (of_type (ty.Array elem.Int 2) (eform.Var 0 [])) (number 2))) (number 0)) ∷ []) ∷ fails ∷ [])

-- `struct S { S next; int n; }`
abbrev pub struct : StructDef
struct = record { name = []; fields = record { name = []; ty = ty.One (elem.Reference (record { index = 0 })) } ∷ record { name = []; ty = int_type } ∷ [] }

abbrev pub with_struct : List Fun → Prog
with_struct funs = record { structs = struct ∷ []; consts = []; funs = funs }

abbrev pub reference : PEForm → PExpr
reference form = of_type (ty.One (elem.Reference (record { index = 0 }))) form

abbrev pub next : PExpr → PExpr
next e = reference (eform.Member e (record { index = 0 }) 0)

abbrev pub field : PExpr → PExpr
field e = int (eform.Member e (record { index = 0 }) 1)

abbrev pub declare_s : PEForm → PStmt
declare_s first = stmt 1 (form.Declare 0 [] (ty.One (elem.Reference (record { index = 0 }))) (Some (reference first)))

abbrev pub s : PExpr
s = reference (eform.Var 0 [])

-- `int f() { S s = new S(n = 4); s.n = s.n + 1; return s.n; }`
abbrev pub record_of_one : Prog
record_of_one = with_struct (fun (Some int_type) [] 1 (declare_s (eform.New (record { index = 0 }) (record { field = 1; value = number 4 } ∷ [])) ∷ stmt 2 (form.Assign (field s) (sum (field s) (number 1))) ∷ stmt 3 (form.Return (Some (field s))) ∷ []) ∷ [])

-- `void f() { S s = new S(); s.next.n = g(); }`
abbrev pub null_late : Prog
null_late = with_struct (fun None [] 1 (declare_s (eform.New (record { index = 0 }) []) ∷ stmt 2 (form.Assign (field (next s)) (call 1 [])) ∷ []) ∷ fails ∷ [])

-- `void f() { S s = new S(); s.next.next.n = g(); }`
abbrev pub null_early : Prog
null_early = with_struct (fun None [] 1 (declare_s (eform.New (record { index = 0 }) []) ∷ stmt 2 (form.Assign (field (next (next s))) (call 1 [])) ∷ []) ∷ fails ∷ [])

pub record TargetExamples : Type 0 where
  -- the value is evaluated before the index is checked: the statement that fails is the one in `g`
  pub index_late : outcome_in index_late [] ≡ outcome.Failed (at 9)
  pub index_wrong : outcome_in index_wrong [] ≡ outcome.Failed (at 2)
  pub heap : outcome_in record_of_one [] ≡ outcome.Done (Some (value.Int (pos 5))) [] 0
  -- the reference before the last `.` is read before the value, and only then is it found to be null
  pub null_late : outcome_in null_late [] ≡ outcome.Failed (at 9)
  pub null_early : outcome_in null_early [] ≡ outcome.Failed (at 2)

-- `void f(int x) { assume x == 0; }`
abbrev pub assumes : Prog
assumes = program (fun None (param false ∷ []) 1 (stmt 1 (form.Assume (of_type (ty.One elem.Bit) (eform.Binary op.Eq (variable 0) (number 0)))) ∷ []) ∷ [])

-- `void f(int x) { minimize(x); }`
abbrev pub pays : Prog
pays = program (fun None (param false ∷ []) 1 (stmt 1 (form.Minimize (variable 0)) ∷ []) ∷ [])

pub record EndExamples : Type 0 where
  pub done : outcome_in assumes (value.Int (pos 0) ∷ []) ≡ outcome.Done None [] 0
  pub skipped : outcome_in assumes (value.Int (pos 1) ∷ []) ≡ outcome.Skipped (at 1)
  pub cost : outcome_in pays (value.Int (pos 3) ∷ []) ≡ outcome.Done None [] 3
  pub negative : outcome_in pays (value.Int (negsuc 0) ∷ []) ≡ outcome.Failed (at 1)

-- Runs under a choice

-- a run of the first function under a choice, of a program whose functions are ordinary
abbrev pub outcome_under : List ℕ → Prog → Outcome
outcome_under values prog = outcome_of (calls prog small (open_bodies (record { prog = prog; ordinary = 1; sites = [] }) (record { values = values }) small) 2 [] nowhere 0 [] start)

abbrev pub hole : PEForm
hole = eform.Hole None

-- `int f() { return e; }`
abbrev pub returning : PExpr → Prog
returning e = program (fun (Some int_type) [] 0 (stmt 1 (form.Return (Some e)) ∷ []) ∷ [])

abbrev pub x_becomes : PExpr → PStmt
x_becomes e = stmt 2 (form.Assign (variable 0) e)

-- `int f() { int x = 1; s return x; }`
abbrev pub from_one : PForm → Prog
from_one s = program (fun (Some int_type) [] 1 (stmt 1 (form.Declare 0 [] int_type (Some (number 1))) ∷ stmt 3 s ∷ stmt 4 (form.Return (Some (variable 0))) ∷ []) ∷ [])

-- What is run though it is not filled: it has no sites.
pub record UnfilledExamples : Type 0 where
  -- `repeat (2) x = x + x;`, which holds two copies
  pub all_copies : outcome_in (from_one (form.Repeat (number 2) (x_becomes (sum (variable 0) (variable 0)) ∷ x_becomes (sum (variable 0) (variable 0)) ∷ []))) [] ≡ outcome.Done (Some (value.Int (pos 4))) [] 0
  -- `repeat (??) x = x + x;`
  pub by_hole : outcome_in (from_one (form.Repeat (int hole) (x_becomes (sum (variable 0) (variable 0)) ∷ []))) [] ≡ outcome.Failed (at 3)
  -- `reorder { x = x + 1; }`
  pub one_order : outcome_in (from_one (form.Reorder (x_becomes (sum (variable 0) (number 1)) ∷ []))) [] ≡ outcome.Done (Some (value.Int (pos 2))) [] 0
  -- `reorder { x = x + 1; x = x + x; }`
  pub two_orders : outcome_in (from_one (form.Reorder (x_becomes (sum (variable 0) (number 1)) ∷ x_becomes (sum (variable 0) (variable 0)) ∷ []))) [] ≡ outcome.Failed (at 3)

-- `harness void f() { minrepeat ; }`
abbrev pub repeats_least : Prog
repeats_least = program (record { name = []; kind = kind.Harness; result = None; params = []; slots = 0; implements = None; body = stmt 1 (form.MinRepeat (block [] ∷ block [] ∷ [])) ∷ [] } ∷ [])

pub record ChoiceExamples : Type 0 where
  -- `??`, at `int` and at `bit[3]`
  pub a_number : outcome_under (3 ∷ []) (returning (int hole)) ≡ outcome.Done (Some (value.Int (pos 3))) [] 0
  pub bits : outcome_under (1 ∷ 0 ∷ 1 ∷ []) (returning (of_type (bits_type 3) hole)) ≡ outcome.Done (Some (three true false true)) [] 0
  -- `{| 1 | ?? |}`: the pattern's site stands before the hole's
  pub first_string : outcome_under (0 ∷ 2 ∷ []) (returning (int (eform.Pattern (number 1 ∷ int hole ∷ [])))) ≡ outcome.Done (Some (value.Int (pos 1))) [] 0
  pub second_string : outcome_under (1 ∷ 2 ∷ []) (returning (int (eform.Pattern (number 1 ∷ int hole ∷ [])))) ≡ outcome.Done (Some (value.Int (pos 2))) [] 0
  -- `reorder { x = x + 1; x = x + x; }`: as many stand after the second as its digit says
  pub written_order : outcome_under (0 ∷ []) (from_one (form.Reorder (x_becomes (sum (variable 0) (number 1)) ∷ x_becomes (sum (variable 0) (variable 0)) ∷ []))) ≡ outcome.Done (Some (value.Int (pos 4))) [] 0
  pub other_order : outcome_under (1 ∷ []) (from_one (form.Reorder (x_becomes (sum (variable 0) (number 1)) ∷ x_becomes (sum (variable 0) (variable 0)) ∷ []))) ≡ outcome.Done (Some (value.Int (pos 3))) [] 0
  -- `repeat (??) x = x + ??;` with two copies, of which one is kept
  pub one_copy : outcome_under (1 ∷ 5 ∷ 7 ∷ []) (from_one (form.Repeat (int hole) (x_becomes (sum (variable 0) (int hole)) ∷ x_becomes (sum (variable 0) (int hole)) ∷ []))) ≡ outcome.Done (Some (value.Int (pos 6))) [] 0
  pub two_copies : outcome_under (2 ∷ 5 ∷ 7 ∷ []) (from_one (form.Repeat (int hole) (x_becomes (sum (variable 0) (int hole)) ∷ x_becomes (sum (variable 0) (int hole)) ∷ []))) ≡ outcome.Done (Some (value.Int (pos 13))) [] 0
  -- a harness pays the number of copies
  pub pays : outcome_under (2 ∷ []) repeats_least ≡ outcome.Done None [] 2
