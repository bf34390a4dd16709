-- How the code sees what an expression is typed by.
use Rattle.std.specs.Prelude.{ℕ, ◌≤◌, ◌<◌, ◌^◌, List, length, map, slice_get, Option, Some}
use Rattle.sk_prog.specs.declared.ty.Ty.{Ty}
use Rattle.sk_prog.specs.declared.prog.FieldDef.{FieldDef}
use Rattle.sk_types_rules.specs.Rules.{◌>>=◌}
use Rattle.sk_types_rules.specs.Scope.{Top, Context, place_of}
use Rattle.sk_types_laws.specs.Envs.{signature, known}
use Rattle.sk_types_names.specs.declared.env.Names.{Names}
use Rattle.sk_types_names.specs.declared.env.Env.{Env}

-- what stands at the top of the text
abbrev pub top_seen : Names → Top
top_seen names = record { structs = names.structs; consts = names.consts; funs = map signature names.funs }

-- what an expression is typed by
abbrev pub context_of : Env → Context
context_of env = record { bounds = env.bounds; top = top_seen env.top.now; known = map known env.known.now }

-- the type of the field of this name
abbrev pub type_of_field : List FieldDef → List ℕ → Option Ty
type_of_field ds x = place_of (map (λ (d : FieldDef). d.name) ds) x >>= λ i. slice_get ds i >>= λ (d : FieldDef). Some d.ty

-- as many structs, constants and functions as can be numbered
pub record IsNumbered (names : Names) : Type 0 where
  pub structs : length names.structs < 2 ^ 32
  pub consts : length names.consts < 2 ^ 32
  pub funs : length names.funs < 2 ^ 32

-- An environment of a text: the width of `int`, and names that can be numbered.
pub record IsEnv (env : Env) : Type 0 where
  pub at_least : 2 ≤ env.bounds.int_bits
  pub at_most : env.bounds.int_bits ≤ 32
  pub top : IsNumbered env.top.now
