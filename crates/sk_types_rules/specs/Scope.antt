-- What names mean: variables, structs, constants and functions.
use Rattle.std.specs.Prelude.{◌≡◌, ◌≢◌, ◌<◌, ℕ, suc, nat_le, List, [], ◌∷◌, ◌++◌, map, Option, Some, None, Bool, true, false, not, ◌&&◌, if◌then◌else◌, slice_get}
use Rattle.std.specs.List.{list_any}
use Rattle.std.specs.Str.{bytes_eq}
use Rattle.sk_base.specs.declared.bounds.Bounds.{Bounds}
use Rattle.sk_prog.specs.declared.ty.Ty.{Ty}
use Rattle.sk_prog.specs.declared.ids.StructId.{StructId}
use Rattle.sk_prog.specs.declared.ids.ConstId.{ConstId}
use Rattle.sk_prog.specs.declared.ids.FunId.{FunId}
use Rattle.sk_prog.specs.declared.prog.FunKind.{FunKind}
use Rattle.sk_prog.specs.declared.prog.FieldDef.{FieldDef}
use Rattle.sk_prog.specs.declared.prog.StructDef.{StructDef}
use Rattle.sk_prog.specs.declared.prog.ConstDef.{ConstDef}
use Rattle.sk_prog.specs.declared.prog.ParamDef.{ParamDef}
use Rattle.sk_prog.specs.declared.prog.Fun.{Fun}
use Rattle.sk_prog.specs.declared.prog.Prog.{Prog}
use Rattle.sk_types_rules.specs.declared.scope.Variable.{Variable}
use Rattle.sk_types_rules.specs.declared.scope.Place.{Place}

-- Variables: those in scope stand in a list, oldest first, and a variable's slot is its place among them.

-- the last variable of this name, or what was found before these
abbrev pub latest : ℕ → Option Place → List Variable → List ℕ → Option Place
latest k found [] x = found
latest k found (v ∷ vs) x = latest (suc k) (if bytes_eq v.name x then Some (record { slot = k; ty = v.ty }) else found) vs x

-- the nearest visible variable of this name
abbrev pub lookup : List Variable → List ℕ → Option Place
lookup scope x = latest 0 None scope x

-- A name means its nearest visible declaration: it is there, and none after it has the name.
pub record Nearest (scope : List Variable) (x : List ℕ) (slot : ℕ) (t : Ty) : Type 0 where
  pub there : slice_get scope slot ≡ Some (record { name = x; ty = t })
  pub last : (i : ℕ) (v : Variable) → slot < i → slice_get scope i ≡ Some v → v.name ≢ x

-- Whether a place is of the block whose variables begin at this slot: a name that means such a place
-- is not declared once more in that block.
abbrev pub is_taken : ℕ → Option Place → Bool
is_taken from None = false
is_taken from (Some v) = nat_le from v.slot

-- No two of these names are equal.
abbrev pub all_distinct : List (List ℕ) → Bool
all_distinct [] = true
all_distinct (x ∷ xs) = not (list_any (bytes_eq x) xs) && all_distinct xs

-- What stands at the top of a text: its structs, the names of its constants, and what its functions are to
-- their callers.

pub record Signature : Type 0 where
  pub name : List ℕ
  pub kind : FunKind
  pub result : Option Ty
  pub params : List ParamDef

pub record Top : Type 0 where
  pub structs : List StructDef
  pub consts : List (List ℕ)
  pub funs : List Signature

abbrev pub signature_of : Fun → Signature
signature_of f = record { name = f.name; kind = f.kind; result = f.result; params = f.params }

abbrev pub top_of : Prog → Top
top_of prog = record { structs = prog.structs; consts = map (λ (c : ConstDef). c.name) prog.consts; funs = map signature_of prog.funs }

abbrev pub top_names : Top → List (List ℕ)
top_names top = map (λ (d : StructDef). d.name) top.structs ++ (top.consts ++ map (λ (s : Signature). s.name) top.funs)

-- A constant that stands before an item may be used in its lengths, and there it is its number.
pub record Known : Type 0 where
  pub name : List ℕ
  pub number : ℕ

-- what an expression is typed by, apart from the variables in scope
pub record Context : Type 0 where
  pub bounds : Bounds
  pub top : Top
  pub known : List Known

-- what a name means
pub data Meaning : Type 0 where
  AVariable : Place → Meaning
  AStruct : StructId → Meaning
  AConstant : ConstId → Meaning
  AFunction : FunId → Meaning
  Nothing : Meaning

abbrev pub next_place : Option ℕ → Option ℕ
next_place None = None
next_place (Some i) = Some (suc i)

-- the place of a name in a list
abbrev pub place_of : List (List ℕ) → List ℕ → Option ℕ
place_of [] x = None
place_of (y ∷ ys) x = if bytes_eq y x then Some 0 else next_place (place_of ys x)

abbrev pub function_or : Option ℕ → Meaning
function_or None = Nothing
function_or (Some i) = AFunction (record { index = i })

abbrev pub constant_or : Option ℕ → Meaning → Meaning
constant_or None other = other
constant_or (Some i) other = AConstant (record { index = i })

abbrev pub struct_or : Option ℕ → Meaning → Meaning
struct_or None other = other
struct_or (Some i) other = AStruct (record { index = i })

-- Structs, constants and functions share one name space.
abbrev pub top_meaning : Top → List ℕ → Meaning
top_meaning top x = struct_or (place_of (map (λ (d : StructDef). d.name) top.structs) x) (constant_or (place_of top.consts x) (function_or (place_of (map (λ (s : Signature). s.name) top.funs) x)))

abbrev pub variable_or : Option Place → Meaning → Meaning
variable_or None other = other
variable_or (Some v) other = AVariable v

-- A name means its nearest visible declaration: a variable hides what has its name at the top, also where the
-- name is called, is a type, or stands after `new`.
abbrev pub meaning_of : Top → List Variable → List ℕ → Meaning
meaning_of top scope x = variable_or (lookup scope x) (top_meaning top x)

-- the place and the type of a struct's field
abbrev pub field_of : StructDef → List ℕ → Option ℕ
field_of d x = place_of (map (λ (f : FieldDef). f.name) d.fields) x
