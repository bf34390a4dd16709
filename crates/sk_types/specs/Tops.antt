-- What stands at the top, item by item: what is made of the items so far, and of those that follow.
use Rattle.std.specs.Prelude.{◌≡◌, ℕ, List, [], ◌∷◌, ◌++◌, map, Option, Some, None, Result, Ok, Err}
use Rattle.sk_base.specs.declared.bounds.Bounds.{Bounds}
use Rattle.sk_tree.specs.declared.item.Item.{Item}
use Rattle.sk_prog.specs.declared.prog.Prog.{Prog}
use Rattle.sk_types_rules.specs.Rules.{◌>>=◌}
use Rattle.sk_types_rules.specs.Scope.{Top, Known}
use Rattle.sk_types_laws.specs.declared.fault.Typing.{Typing}
use Rattle.sk_types_laws.specs.declared.fault.Typing.TheVariants.{Fault, Memory}
use Rattle.sk_types_laws.specs.Envs.{known}
use Rattle.sk_types_laws.specs.Whole.{Bodies, typed_top, bodies_of, prog_in}
use Rattle.sk_types_names.specs.declared.env.Names.{Names}
use Rattle.sk_types_names.specs.Envs.{top_seen}
use Rattle.sk_types_names.specs.Gives.{Fails}
use Rattle.sk_types.specs.declared.items.Typed.{Typed}
use Rattle.sk_types.specs.declared.bodies.Whole.{Whole}

-- one top, and another behind it
abbrev pub joined : Top → Top → Top
joined a b = record { structs = a.structs ++ b.structs; consts = a.consts ++ b.consts; funs = a.funs ++ b.funs }

abbrev pub joined_bodies : Bodies → Bodies → Bodies
joined_bodies a b = record { consts = a.consts ++ b.consts; funs = a.funs ++ b.funs }

-- what items become behind what is typed
abbrev pub typed_after : Bounds → Top → Typed → List Item → Option Top
typed_after bounds names t is = typed_top bounds names (map known t.known) is >>= λ rest. Some (joined (top_seen t.names) rest)

abbrev pub bodies_seen : Whole → Bodies
bodies_seen w = record { consts = w.consts; funs = w.funs }

-- what bodies become behind those that are made
abbrev pub bodies_after : Bounds → Top → Whole → List Item → Option Bodies
bodies_after bounds top w is = bodies_of bounds top (map known w.known) is >>= λ rest. Some (joined_bodies (bodies_seen w) rest)

-- A step over one item: what it and those behind it become is what those behind it become after the step; where it is
-- refused, none of them becomes anything.
abbrev pub Steps : {A : Type 0} → Result (Unit {0}) Typing → (List Item → Option A) → (List Item → Option A) → Item → Type 0
Steps (Ok a) old new x = (is : List Item) → old (x ∷ is) ≡ new is
Steps (Err Memory) old new x = Unit {0}
Steps (Err (Fault f)) old new x = (is : List Item) → old (x ∷ is) ≡ None

-- what stands at the top
abbrev pub GivesTop : Result Names Typing → Option Top → Type 0
GivesTop (Ok names) o = o ≡ Some (top_seen names)
GivesTop (Err fault) o = Fails fault o

-- one more constant
abbrev pub Knows : Result (Unit {0}) Typing → List Known → List Known → List ℕ → ℕ → Type 0
Knows (Ok a) old new x n = new ≡ old ++ record { name = x; number = n } ∷ []
Knows (Err Memory) old new x n = Unit {0}
Knows (Err (Fault f)) old new x n = ⊥

-- constants and functions
abbrev pub GivesBodies : Result Whole Typing → Option Bodies → Type 0
GivesBodies (Ok w) o = o ≡ Some (bodies_seen w)
GivesBodies (Err fault) o = Fails fault o

-- the program of items, where these are the names at the top
abbrev pub prog_named : Bounds → Top → List Item → Option Prog
prog_named bounds names is = typed_top bounds names [] is >>= λ top. prog_in bounds top is

abbrev pub IsFault : Typing → Type 0
IsFault Memory = ⊥
IsFault (Fault f) = Unit {0}
