-- Programs that use algebraic types as `switch` and `new V` do. A struct is algebraic where its name is that of such a type; its first field is then
-- the tag, and behind it stand the fields of each variant, in order. A program is tagged where it keeps four rules.
--   Each `new` of such a struct first sets the tag to the number of a variant, and then only fields of that variant.
--   The tag is read only as the whole condition `x.tag == i` of an `if`, with x a variable and i a number.
--   It is never assigned.
--   A field of variant i is read or assigned only as `x.f`, with x a variable, inside the first branch of an `if (x.tag == i)` in which x is neither
--   assigned nor passed to a `ref` parameter.
--
-- `breaks` lists the spans that break one of them, in the order of the program, an expression before its parts. All strings of a pattern count.
use Rattle.std.specs.Prelude.{◌≡◌, Result, Ok, Err, ℕ, zero, suc, ◌-◌, ◌==◌, nat_lt, Bool, true, false, ◌&&◌, ◌||◌, List, [], ◌∷◌, ◌++◌, map, length, Option, Some, None, option_and_then, slice_get, if◌then◌else◌}
use Rattle.std.specs.List.{list_all, list_any}
use Rattle.sk_base.specs.declared.span.Span.{Span}
use Rattle.sk_prog.specs.declared.ids.StructId.{StructId}
use Rattle.sk_prog.specs.declared.ids.FunId.{FunId}
use Rattle.sk_prog.specs.declared.expr.BinOp.{BinOp}
use Rattle.sk_prog.specs.declared.expr.BinOp.TheVariants as op
use Rattle.sk_prog.specs.declared.expr.PExpr.{PExpr}
use Rattle.sk_prog.specs.declared.expr.PEForm.TheOpen as P
use Rattle.sk_prog.specs.declared.expr.PEForm.TheFolds.{fold-PExpr}
use Rattle.sk_prog.specs.declared.stmt.PStmt.{PStmt}
use Rattle.sk_prog.specs.declared.stmt.PForm.TheOpen as S
use Rattle.sk_prog.specs.declared.stmt.PForm.TheFolds.{fold-PStmt}
use Rattle.sk_prog.specs.declared.prog.StructDef.{StructDef}
use Rattle.sk_prog.specs.declared.prog.ParamDef.{ParamDef}
use Rattle.sk_prog.specs.declared.prog.Fun.{Fun}
use Rattle.sk_prog.specs.declared.prog.Prog.{Prog}
use Rattle.sk_types_rules.specs.Scope.{place_of}
use Rattle.sk_adt.specs.Words.{each}
use Rattle.sk_adt.specs.declared.algebraic.Variant.{Variant}
use Rattle.sk_adt.specs.declared.algebraic.Algebraic.{Algebraic}
use Rattle.sk_adt_tags.specs.declared.role.Role.{Role}
use Rattle.sk_adt_tags.specs.declared.role.Role.TheVariants as role
use Rattle.sk_adt_tags.specs.declared.role.Test.{Test}
use Rattle.sk_adt_tags.specs.declared.fault.TagFault.{TagFault}
use Rattle.sk_adt_tags.specs.declared.fault.TagFault.TheVariants as fault

-- Structs and fields

abbrev pub type_named : List Algebraic → List ℕ → Option Algebraic
type_named types x = option_and_then (slice_get types) (place_of (map (λ a. a.name) types) x)

abbrev pub algebraic_of : List Algebraic → List StructDef → StructId → Option Algebraic
algebraic_of types structs s = option_and_then (λ d. type_named types d.name) (slice_get structs s.index)

-- the variant to which the k-th of the fields of these variants belongs, where the first of them has this number
unfoldable pub variant_at : ℕ → List Variant → ℕ → Option ℕ
variant_at i [] k = None
variant_at i (v ∷ vs) k = if nat_lt k (length v.fields) then Some i else variant_at (suc i) vs (k - length v.fields)

abbrev pub of_variant : Option ℕ → Role
of_variant None = role.Free
of_variant (Some i) = role.Of i

abbrev pub role_in : Option Algebraic → ℕ → Role
role_in None k = role.Free
role_in (Some a) zero = role.Tag
role_in (Some a) (suc k) = of_variant (variant_at 0 a.variants k)

-- Spans

abbrev pub first : List Span → Option Span
first [] = None
first (s ∷ ss) = Some s

-- this span too, unless what stands on it keeps the rules
abbrev pub unless : Bool → Span → List Span → List Span
unless keeps s spans = if keeps then spans else s ∷ spans

-- Expressions

-- An expression: the variable that it is; whether it is a variable, or a pattern with a string that is; the number that it is; the variable whose tag it
-- is; the test `x.tag == i` that it is; whether it passes a variable to a `ref` parameter; and the spans in it that break a rule, where it stands in the
-- first branches of `if`s with these tests, which keep the variables that they test.
pub record Part : Type 0 where
  pub slot : Option ℕ
  pub may_be : ℕ → Bool
  pub number : Option ℕ
  pub tag : Option ℕ
  pub test : Option Test
  pub passes : ℕ → Bool
  pub breaks : List Test → List Span

-- an expression that is none of these, with its parts
abbrev pub of_none : Part
of_none = record { slot = None; may_be = λ x. false; number = None; tag = None; test = None; passes = λ x. false; breaks = λ tests. [] }

abbrev pub of_one : Part → Part
of_one e = record of_none { passes = e.passes; breaks = e.breaks }

abbrev pub of_two : Part → Part → Part
of_two a b = record of_none { passes = λ x. a.passes x || b.passes x; breaks = λ tests. a.breaks tests ++ b.breaks tests }

abbrev pub of_parts : List Part → Part
of_parts parts = record of_none { passes = λ x. list_any (λ p. p.passes x) parts; breaks = λ tests. each (map (λ p. p.breaks tests) parts) }

abbrev pub variable_part : ℕ → Part
variable_part slot = record of_none { slot = Some slot; may_be = λ x. x == slot }

abbrev pub pattern_part : List Part → Part
pattern_part strings = record (of_parts strings) { may_be = λ x. list_any (λ p. p.may_be x) strings }

abbrev pub test_for : Option ℕ → Option ℕ → Option Test
test_for (Some x) (Some i) = Some (record { slot = x; variant = i })
test_for _ _ = None

-- `x.tag == i`, with x a variable and i a number
abbrev pub test_of : BinOp → Part → Part → Option Test
test_of op.Eq a b = test_for a.tag b.number
test_of _ a b = None

-- whether one of the tests is of this variable and this variant
abbrev pub is_tested : Option ℕ → ℕ → List Test → Bool
is_tested None i tests = false
is_tested (Some x) i tests = list_any (λ t. (t.slot == x) && (t.variant == i)) tests

-- A field of variant i stands only as `x.f`, in the first branch of an `if (x.tag == i)`. The tag, read or assigned, breaks a rule wherever it is not in a
-- test.
abbrev pub member_part : Role → Span → Part → Part
member_part role.Free s e = of_one e
member_part role.Tag s e = record (of_one e) { tag = e.slot; breaks = λ tests. s ∷ e.breaks tests }
member_part (role.Of i) s e = record (of_one e) { breaks = λ tests. unless (is_tested e.slot i tests) s (e.breaks tests) }

abbrev pub params_of : Option Fun → List ParamDef
params_of None = []
params_of (Some f) = f.params

-- whether one of the arguments is the variable, for a `ref` parameter
abbrev pub passes_to : List ParamDef → List Part → ℕ → Bool
passes_to (p ∷ ps) (a ∷ args) x = (p.by_ref && a.may_be x) || passes_to ps args x
passes_to _ _ x = false

-- the number of a variant, where it is one
abbrev pub variant_numbered : Algebraic → Option ℕ → Option ℕ
variant_numbered a None = None
variant_numbered a (Some i) = if nat_lt i (length a.variants) then Some i else None

-- the variant that `new` makes, by the first field that it sets
abbrev pub made_variant : Algebraic → ℕ × Part → Option ℕ
made_variant a f = if f.0 == 0 then variant_numbered a f.1.number else None

abbrev pub is_of : ℕ → Role → Bool
is_of i (role.Of j) = i == j
is_of i _ = false

abbrev pub sets_only : Algebraic → Option ℕ → List (ℕ × Part) → Bool
sets_only a None fields = false
sets_only a (Some i) fields = list_all (λ f. is_of i (role_in (Some a) f.0)) fields

-- whether `new` first sets the tag to the number of a variant, and then only fields of that variant
abbrev pub new_fits : Option Algebraic → List (ℕ × Part) → Bool
new_fits None fields = true
new_fits (Some a) [] = false
new_fits (Some a) (f ∷ fs) = sets_only a (made_variant a f) fs

-- Statements

-- whether it assigns or declares a variable or passes it to a `ref` parameter, and the spans in it that break a rule
pub record Work : Type 0 where
  pub touches : ℕ → Bool
  pub breaks : List Test → List Span

abbrev pub idle : Work
idle = record { touches = λ x. false; breaks = λ tests. [] }

abbrev pub of_expr : Part → Work
of_expr e = record { touches = e.passes; breaks = e.breaks }

abbrev pub both : Work → Work → Work
both a b = record { touches = λ x. a.touches x || b.touches x; breaks = λ tests. a.breaks tests ++ b.breaks tests }

abbrev pub all_of : List Work → Work
all_of works = record { touches = λ x. list_any (λ w. w.touches x) works; breaks = λ tests. each (map (λ w. w.breaks tests) works) }

abbrev pub or_idle : Option Work → Work
or_idle None = idle
or_idle (Some w) = w

-- with these variables assigned or declared
abbrev pub touching : (ℕ → Bool) → Work → Work
touching names w = record { touches = λ x. names x || w.touches x; breaks = w.breaks }

-- the condition of an `if`: as a whole it may be a test
abbrev pub condition_breaks : Option Test → Part → List Test → List Span
condition_breaks None c tests = c.breaks tests
condition_breaks (Some t) c tests = []

-- the tests in whose first branches the first branch of an `if` stands: its own too, where that branch keeps the variable
abbrev pub tests_within : Option Test → Work → List Test → List Test
tests_within None a tests = tests
tests_within (Some t) a tests = if a.touches t.slot then tests else t ∷ tests

abbrev pub condition : Part → Work
condition c = record { touches = c.passes; breaks = condition_breaks c.test c }

abbrev pub first_branch : Option Test → Work → Work
first_branch test a = record { touches = a.touches; breaks = λ tests. a.breaks (tests_within test a tests) }

-- the condition of an `if` and its first branch
unfoldable pub tested : Part → Work → Work
tested c a = both (condition c) (first_branch c.test a)

module _ (types : List Algebraic) (prog : Prog) where
  abbrev pub new_part : StructId → List (ℕ × Part) → Span → Part
  new_part d fields s =
      let values = of_parts (map (λ f. f.1) fields) in
      record values { breaks = λ tests. unless (new_fits (algebraic_of types prog.structs d) fields) s (values.breaks tests) }

  abbrev pub call_part : FunId → List Part → Part
  call_part f args =
      let values = of_parts args in
      record values { passes = λ x. passes_to (params_of (slice_get prog.funs f.index)) args x || values.passes x }

  abbrev pub eform_part : P.PEForm-F (Span → Part) Part (ℕ × Part) → Span → Part
  eform_part (P.Number n) s = record of_none { number = Some n }
  eform_part P.True s = of_none
  eform_part P.False s = of_none
  eform_part P.Null s = of_none
  eform_part (P.Var slot x) s = variable_part slot
  eform_part (P.Const c) s = of_none
  eform_part (P.Hole n) s = of_none
  eform_part (P.Pattern es) s = pattern_part es
  eform_part (P.Paren e) s = of_one e
  eform_part (P.Call f args) s = call_part f args
  eform_part (P.New d fields) s = new_part d fields s
  eform_part (P.Braces es) s = of_parts es
  eform_part (P.Member e d field) s = member_part (role_in (algebraic_of types prog.structs d) field) s e
  eform_part (P.Index e i) s = of_two e i
  eform_part (P.Slice e i n) s = of_two e i
  eform_part (P.Unary op e) s = of_one e
  eform_part (P.Binary op a b) s = record (of_two a b) { test = test_of op a b }
  eform_part (P.Cond c a b) s = of_two c (of_two a b)
  eform_part (P.ToInt e) s = of_one e
  eform_part (P.Pad e) s = of_one e

  abbrev pub part : PExpr → Part
  part = fold-PExpr (Span → Part) Part (ℕ × Part) eform_part (λ x. x.form x.span) (λ x. (x.field, x.value))

  abbrev pub any_part : Option PExpr → Work
  any_part None = idle
  any_part (Some e) = of_expr (part e)

  abbrev pub form_work : S.PForm-F Work Work → Work
  form_work (S.Block ss) = all_of ss
  form_work (S.Declare slot x t value) = touching (λ y. y == slot) (any_part value)
  form_work (S.Assign target value) = touching (part target).may_be (both (of_expr (part target)) (of_expr (part value)))
  form_work (S.Call e) = of_expr (part e)
  form_work (S.If c a b) = both (tested (part c) a) (or_idle b)
  form_work (S.While c a) = both (of_expr (part c)) a
  form_work (S.Return value) = any_part value
  form_work (S.Assert e) = of_expr (part e)
  form_work (S.Assume e) = of_expr (part e)
  form_work (S.Minimize e) = of_expr (part e)
  form_work (S.Repeat c copies) = both (of_expr (part c)) (all_of copies)
  form_work (S.MinRepeat copies) = all_of copies
  form_work (S.Reorder ss) = all_of ss

  abbrev pub work : PStmt → Work
  work = fold-PStmt Work Work form_work (λ s. s.form)

  abbrev pub fun_breaks : Fun → List Span
  fun_breaks f = (all_of (map work f.body)).breaks []

  unfoldable pub breaks : List Span
  breaks = each (map fun_breaks prog.funs)

  abbrev pub Tagged : Type 0
  Tagged = breaks ≡ []

-- A program is tagged, or this is the first of the spans that break a rule, where it is not that memory was wanting.
abbrev pub Answers : Result (Unit {0}) TagFault → List Span → Type 0
Answers (Ok u) spans = spans ≡ []
Answers (Err fault.Memory) spans = Unit {0}
Answers (Err (fault.NotTagged s)) spans = first spans ≡ Some s
