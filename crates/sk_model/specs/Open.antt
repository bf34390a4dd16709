-- What a program does under a choice before it is filled: by the same steps as a run, and these besides. A
-- hole has the value of its site; a pattern does what its chosen string does; a repeat by a hole and a
-- `minrepeat` do as many copies as the value of their site says, a repeat by a constant all; a `reorder`
-- does its statements in the order of its digits; and a harness first does what the `minrepeat`s that
-- stand pay.
--
-- It is said by one layer, as filling is: a part knows how many sites it has, and what it does where its
-- first site has a given place. The sites of a construct stand before those inside it.
use Rattle.std.specs.Prelude.{ℕ, zero, suc, ◌+◌, ◌-◌, if◌then◌else◌, List, [], ◌∷◌, ◌++◌, map, length, take, Option, Some, None}
use Rattle.sk_base.specs.declared.span.Span.{Span}
use Rattle.sk_base.specs.declared.bounds.Bounds.{Bounds}
use Rattle.sk_prog.specs.declared.ids.FunId.{FunId}
use Rattle.sk_prog.specs.declared.ty.Elem.TheVariants as elem
use Rattle.sk_prog.specs.declared.ty.Ty.{Ty}
use Rattle.sk_prog.specs.declared.ty.Ty.TheVariants as ty
use Rattle.sk_prog.specs.declared.value.Value.{Value}
use Rattle.sk_prog.specs.declared.value.Value.TheVariants as value
use Rattle.sk_prog.specs.declared.expr.PExpr.{PExpr}
use Rattle.sk_prog.specs.declared.expr.PEForm.TheOpen as P
use Rattle.sk_prog.specs.declared.expr.PEForm.TheFolds.{fold-PExpr}
use Rattle.sk_prog.specs.declared.stmt.PStmt.{PStmt}
use Rattle.sk_prog.specs.declared.stmt.PForm.TheOpen as S
use Rattle.sk_prog.specs.declared.stmt.PForm.TheFolds.{fold-PStmt}
use Rattle.sk_prog.specs.declared.prog.Fun.{Fun}
use Rattle.sk_prog.specs.declared.prog.Prog.{Prog}
use Rattle.sk_model.specs.declared.expanded.Choice.{Choice}
use Rattle.sk_model.specs.declared.expanded.Expanded.{Expanded}
use Rattle.sk_model.specs.declared.outcome.Outcome.{Outcome}
use Rattle.sk_model.specs.Parts.{Part, counts, in_turn, pick, value}
use Rattle.sk_model.specs.Sites.{is_hole}
use Rattle.sk_model.specs.Stands.{hole_count, standing, all_paid}
use Rattle.sk_model.specs.Fill.{arrange, minimize_of, before_body}
use Rattle.sk_model.specs.Step.{Comp, pure, fail}
use Rattle.sk_model.specs.Eval.{Calls, Does, number_at, literal, does_form}
use Rattle.sk_model.specs.Exec.{Flow, exec_stmt, one_by_one, declare, assign, drop_value, branch, turns, return, assert, assume, minimize}
use Rattle.sk_model.specs.Run.{Bodies, run_by}

-- Places

abbrev pub any_part : {A : Type 0} → Option (Part A) → Part (Option A)
any_part None = record { count = 0; at = λ i. None }
any_part (Some p) = record { count = p.count; at = λ i. Some (p.at i) }

-- how many sites the parts of a form have
abbrev pub form_count : {X A B : Type 0} → P.PEForm-F X (Part A) (Part B) → ℕ
form_count (P.Number n) = 0
form_count P.True = 0
form_count P.False = 0
form_count P.Null = 0
form_count (P.Var slot x) = 0
form_count (P.Const c) = 0
form_count (P.Hole bits) = 0
form_count (P.Pattern strings) = counts strings
form_count (P.Paren a) = a.count
form_count (P.Call f args) = counts args
form_count (P.New d fields) = counts fields
form_count (P.Braces parts) = counts parts
form_count (P.Member a d field) = a.count
form_count (P.Index a i) = a.count + i.count
form_count (P.Slice a i n) = a.count + i.count
form_count (P.Unary op a) = a.count
form_count (P.Binary op a b) = a.count + b.count
form_count (P.Cond c a b) = c.count + (a.count + b.count)
form_count (P.ToInt a) = a.count
form_count (P.Pad a) = a.count

-- the form with each part at its place, where the first site of all has place i
abbrev pub placed : {X Y A B : Type 0} → P.PEForm-F X (Part A) (Part B) → ℕ → P.PEForm-F Y A B
placed (P.Number n) i = P.Number n
placed P.True i = P.True
placed P.False i = P.False
placed P.Null i = P.Null
placed (P.Var slot x) i = P.Var slot x
placed (P.Const c) i = P.Const c
placed (P.Hole bits) i = P.Hole bits
placed (P.Pattern strings) i = P.Pattern (in_turn strings i)
placed (P.Paren a) i = P.Paren (a.at i)
placed (P.Call f args) i = P.Call f (in_turn args i)
placed (P.New d fields) i = P.New d (in_turn fields i)
placed (P.Braces parts) i = P.Braces (in_turn parts i)
placed (P.Member a d field) i = P.Member (a.at i) d field
placed (P.Index a k) i = P.Index (a.at i) (k.at (i + a.count))
placed (P.Slice a k n) i = P.Slice (a.at i) (k.at (i + a.count)) n
placed (P.Unary op a) i = P.Unary op (a.at i)
placed (P.Binary op a b) i = P.Binary op (a.at i) (b.at (i + a.count))
placed (P.Cond c a b) i = P.Cond (c.at i) (a.at (i + c.count)) (b.at (i + (c.count + a.count)))
placed (P.ToInt a) i = P.ToInt (a.at i)
placed (P.Pad a) i = P.Pad (a.at i)

-- Holes, strings, copies and orders

-- what a string that is not there does
abbrev pub nothing_done : Does
nothing_done = record { value = λ span. fail span; target = λ span. fail span }

module _ (values : List ℕ) where
  -- the bits of so many sites, of which the first has place i
  abbrev pub bits_at : ℕ → ℕ → ℕ → List Value
  bits_at width zero i = []
  bits_at width (suc n) i = number_at width elem.Bit (value values i) ∷ bits_at width n (i + 1)

  abbrev pub hole_value : ℕ → Option Ty → ℕ → Value
  hole_value width (Some (ty.Array elem.Bit n)) i = value.Array (bits_at width n i)
  hole_value width t i = literal width t (value values i)

  abbrev pub hole_part : ℕ → Option Ty → Part Does
  hole_part width t = record { count = hole_count t; at = λ i. record { value = λ span. pure (hole_value width t i); target = λ span. fail span } }

  -- what the site's string does
  abbrev pub string_part : List (Part Does) → Part Does
  string_part strings = record { count = suc (counts strings); at = λ i. pick nothing_done strings (value values i) (suc i) }

  -- all of these, one after another
  abbrev pub block_part : List (Part (Comp Flow)) → Part (Span → Comp Flow)
  block_part ms = record { count = counts ms; at = λ i span. one_by_one (in_turn ms i) }

  -- as many of the copies as the site says
  abbrev pub copies_part : List (Part (Comp Flow)) → Part (Span → Comp Flow)
  copies_part copies = record { count = suc (counts copies); at = λ i span. one_by_one (take (value values i) (in_turn copies (suc i))) }

  -- in the order of the digits, which are the values of the first sites
  abbrev pub reorder_part : List (Part (Comp Flow)) → Part (Span → Comp Flow)
  reorder_part ms = record { count = (length ms - 1) + counts ms; at = λ i span. one_by_one (arrange values i [] (in_turn ms (i + (length ms - 1)))) }

-- Expressions and statements

module _ (prog : Prog) (bounds : Bounds) (values : List ℕ) (call : Calls) where
  abbrev pub open_eform : P.PEForm-F (Option Ty → Part Does) (Part Does) (Part (ℕ × Does)) → Option Ty → Part Does
  open_eform (P.Hole bits) t = hole_part values bounds.int_bits t
  open_eform (P.Pattern strings) t = string_part values strings
  open_eform form t = record { count = form_count form; at = λ i. does_form prog bounds.int_bits call (placed {Y = Unit {0}} form i) t }

  abbrev pub open_field : P.PField-F (Option Ty → Part Does) (Part Does) (Part (ℕ × Does)) → Part (ℕ × Does)
  open_field x = record { count = x.value.count; at = λ i. (x.field, x.value.at i) }

  abbrev pub open_expr : PExpr → Part Does
  open_expr = fold-PExpr (Option Ty → Part Does) (Part Does) (Part (ℕ × Does)) open_eform (λ x. x.form x.ty) open_field

  abbrev pub any_open : Option PExpr → Part (Option Does)
  any_open None = record { count = 0; at = λ i. None }
  any_open (Some e) = record { count = (open_expr e).count; at = λ i. Some ((open_expr e).at i) }

  -- a statement of one expression
  abbrev pub with_expr : PExpr → (Span → Does → Comp Flow) → Part (Span → Comp Flow)
  with_expr e act = record { count = (open_expr e).count; at = λ i span. act span ((open_expr e).at i) }

  abbrev pub open_form : S.PForm-F (Part (Span → Comp Flow)) (Part (Comp Flow)) → Part (Span → Comp Flow)
  open_form (S.Block ms) = block_part values ms
  open_form (S.Declare slot x t e) = record { count = (any_open e).count; at = λ i span. declare span slot t ((any_open e).at i) }
  open_form (S.Assign target e) = record { count = (open_expr target).count + (open_expr e).count; at = λ i span. assign span ((open_expr target).at i) ((open_expr e).at (i + (open_expr target).count)) }
  open_form (S.Call e) = with_expr e drop_value
  open_form (S.If cond a b) = record { count = (open_expr cond).count + (a.count + (any_part b).count); at = λ i span. branch span ((open_expr cond).at i) (a.at (i + (open_expr cond).count)) ((any_part b).at (i + ((open_expr cond).count + a.count))) }
  open_form (S.While cond body) = record { count = (open_expr cond).count + body.count; at = λ i span. turns bounds.unroll span ((open_expr cond).at i) (body.at (i + (open_expr cond).count)) }
  open_form (S.Return e) = record { count = (any_open e).count; at = λ i span. return span ((any_open e).at i) }
  open_form (S.Assert e) = with_expr e assert
  open_form (S.Assume e) = with_expr e assume
  open_form (S.Minimize e) = with_expr e minimize
  open_form (S.Repeat count copies) = if is_hole count.form then copies_part values copies else block_part values copies
  open_form (S.MinRepeat copies) = copies_part values copies
  open_form (S.Reorder ms) = reorder_part values ms

  abbrev pub open_stmt : PStmt → Part (Comp Flow)
  open_stmt = fold-PStmt (Part (Span → Comp Flow)) (Part (Comp Flow)) open_form (λ s. record { count = s.form.count; at = λ i. s.form.at i s.span })

  abbrev pub open_all : List PStmt → Part (Comp Flow)
  open_all body = record { count = counts (map open_stmt body); at = λ i. one_by_one (in_turn (map open_stmt body) i) }

  -- how many sites the functions before the one with this number have
  abbrev pub sites_before : List Fun → ℕ → ℕ
  sites_before funs zero = 0
  sites_before [] (suc f) = 0
  sites_before (fun ∷ funs) (suc f) = counts (map open_stmt fun.body) + sites_before funs f

  -- a body whose first site has place i, where the minrepeats that stand pay so
  abbrev pub open_body : List PStmt → Fun → ℕ → Comp Flow
  open_body paid fun i = one_by_one (map (exec_stmt prog bounds call) (before_body fun.kind paid) ++ in_turn (map open_stmt fun.body) i)

abbrev pub open_bodies : Expanded → Choice → Bounds → Bodies
open_bodies e a bounds call f fun = open_body e.prog bounds a.values call (map minimize_of (all_paid (standing e a.values))) fun (sites_before e.prog bounds a.values call e.prog.funs f)

-- a run of a function of the program under a choice
unfoldable pub run_open : Expanded → Choice → FunId → List Value → Bounds → Outcome
run_open e a f args bounds = run_by e.prog (open_bodies e a bounds) f args bounds
