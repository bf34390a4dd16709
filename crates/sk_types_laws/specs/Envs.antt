-- How the code sees what an expression is typed by.
use Rattle.std.specs.Prelude.{◌≡◌, IsTrue, slice_get, ◌≤◌, ◌<◌, ◌^◌, ℕ, length, map, Some}
use Rattle.sk_prog.specs.declared.prog.FieldDef.{FieldDef}
use Rattle.sk_prog.specs.declared.prog.StructDef.{StructDef}
use Rattle.sk_types_rules.specs.Scope.{all_distinct, Signature, Top, Known, Context, Meaning, AVariable, AStruct, AConstant, AFunction, Nothing}
use Rattle.sk_types_laws.specs.declared.env.Heading.{Heading}
use Rattle.sk_types_laws.specs.declared.env.Constant.{Constant}
use Rattle.sk_types_laws.specs.declared.env.Env.{Env}
use Rattle.sk_types_laws.specs.declared.env.Meant.{Meant}
use Rattle.sk_types_laws.specs.declared.env.Meant.TheVariants as meant

abbrev pub signature : Heading → Signature
signature h = record { name = h.name; kind = h.kind; result = h.result; params = h.params }

abbrev pub known : Constant → Known
known c = record { name = c.name; number = c.number }

abbrev pub top_seen : Env → Top
top_seen env = record { structs = env.structs.now; consts = env.consts.now; funs = map signature env.funs.now }

abbrev pub context_of : Env → Context
context_of env = record { bounds = env.bounds; top = top_seen env; known = map known env.known.now }

abbrev pub meaning : Meant → Meaning
meaning (meant.Variable v) = AVariable v
meaning (meant.Struct s) = AStruct s
meaning (meant.Constant c) = AConstant c
meaning (meant.Function f) = AFunction f
meaning meant.Nothing = Nothing

-- An environment of a text: the width of `int`, and as many structs, constants and functions as can be numbered.
pub record IsEnv (env : Env) : Type 0 where
  pub at_least : 2 ≤ env.bounds.int_bits
  pub at_most : env.bounds.int_bits ≤ 32
  pub structs : length env.structs.now < 2 ^ 32
  pub consts : length env.consts.now < 2 ^ 32
  pub funs : length env.funs.now < 2 ^ 32

-- No struct names a field twice.
abbrev pub AreDistinct : Top → Type 0
AreDistinct top = (i : ℕ) (d : StructDef) → slice_get top.structs i ≡ Some d → IsTrue (all_distinct (map (λ (y : FieldDef). y.name) d.fields))
