-- What a whole tree becomes, as a function: what stands at its top, from the names alone; then the types of fields and
-- signatures; then values and bodies.
use Rattle.std.specs.Prelude.{ℕ, pos, not, ◌&&◌, ◌||◌, if◌then◌else◌, List, [], ◌∷◌, ◌++◌, map, length, Option, Some, None}
use Rattle.sk_base.specs.declared.bounds.Bounds.{Bounds}
use Rattle.sk_tree.specs.declared.expr.Expr.{Expr}
use Rattle.sk_tree.specs.declared.item.TyTree.{TyTree}
use Rattle.sk_tree.specs.declared.item.Field.{Field}
use Rattle.sk_tree.specs.declared.item.Param.{Param}
use Rattle.sk_tree.specs.declared.item.FunItem.{FunItem}
use Rattle.sk_tree.specs.declared.item.Item.{Item}
use Rattle.sk_tree.specs.declared.item.Item.TheVariants as item
use Rattle.sk_tree.specs.declared.item.Tree.{Tree}
use Rattle.sk_prog.specs.declared.ty.Ty.{Ty}
use Rattle.sk_prog.specs.declared.ids.FunId.{FunId}
use Rattle.sk_prog.specs.declared.stmt.PStmt.{PStmt}
use Rattle.sk_prog.specs.declared.prog.FieldDef.{FieldDef}
use Rattle.sk_prog.specs.declared.prog.StructDef.{StructDef}
use Rattle.sk_prog.specs.declared.prog.ConstDef.{ConstDef}
use Rattle.sk_prog.specs.declared.prog.ParamDef.{ParamDef}
use Rattle.sk_prog.specs.declared.prog.Fun.{Fun}
use Rattle.sk_prog.specs.declared.prog.Prog.{Prog}
use Rattle.sk_types_rules.specs.Rules.{◌>>=◌, only_if, int}
use Rattle.sk_types_rules.specs.Scope.{Known, Signature, Top, Context, Meaning, AVariable, AStruct, AConstant, AFunction, Nothing, top_names, meaning_of, all_distinct}
use Rattle.sk_types_rules.specs.Constants.{constant_number}
use Rattle.sk_types_rules.specs.Sorts.{written_type, signature_meant}
use Rattle.sk_types_rules.specs.Plain.{plain, steps_are_targets}
use Rattle.sk_types_rules.specs.Types.{kind_of, may_be, may_implement, parameters, most, has_generator, names_free}
use Rattle.sk_types_laws.specs.Making.{Made, value_at, make_all}

-- Names alone

abbrev pub no_top : Top
no_top = record { structs = []; consts = []; funs = [] }

abbrev pub with_struct : StructDef → Top → Top
with_struct d top = record { structs = d ∷ top.structs; consts = top.consts; funs = top.funs }

abbrev pub with_const : List ℕ → Top → Top
with_const x top = record { structs = top.structs; consts = x ∷ top.consts; funs = top.funs }

abbrev pub with_fun : Signature → Top → Top
with_fun s top = record { structs = top.structs; consts = top.consts; funs = s ∷ top.funs }

-- what is at the top, with no fields and no parameters yet
abbrev pub named_top : List Item → Top
named_top [] = no_top
named_top (item.Pragma word text ∷ is) = named_top is
named_top (item.Struct x ys ∷ is) = with_struct (record { name = x; fields = [] }) (named_top is)
named_top (item.Const x e ∷ is) = with_const x (named_top is)
named_top (item.Fun g ∷ is) = with_fun (record { name = g.name; kind = kind_of g.kind; result = None; params = [] }) (named_top is)

-- Types of fields and of signatures

abbrev pub any_written : Context → Option TyTree → Option (Option Ty)
any_written context None = Some None
any_written context (Some y) = written_type context [] y >>= λ t. Some (Some t)

abbrev pub fields_of : Context → List Field → Option (List FieldDef)
fields_of context [] = Some []
fields_of context (y ∷ ys) = written_type context [] y.ty >>= λ t. fields_of context ys >>= λ ds. Some (record { name = y.name; ty = t } ∷ ds)

abbrev pub params_of : Context → List Param → Option (List ParamDef)
params_of context [] = Some []
params_of context (p ∷ ps) = written_type context [] p.ty >>= λ t. params_of context ps >>= λ ds. Some (record { name = p.name; ty = t; by_ref = p.by_ref } ∷ ds)

abbrev pub struct_of : Context → List ℕ → List Field → Option StructDef
struct_of context x ys = fields_of context ys >>= λ ds. only_if (all_distinct (map (λ (d : FieldDef). d.name) ds)) (record { name = x; fields = ds })

abbrev pub heading_of : Context → FunItem → Option Signature
heading_of context g = any_written context g.result >>= λ t. params_of context g.params >>= λ ds. only_if (may_be (kind_of g.kind) ds t && all_distinct (map (λ (d : ParamDef). d.name) ds)) (record { name = g.name; kind = kind_of g.kind; result = t; params = ds })

abbrev pub context_in : Bounds → Top → List Known → Context
context_in bounds top known = record { bounds = bounds; top = top; known = known }

-- The names at the top give the types; the constants that stand before an item are known in it. A plain tree holds no
-- pragma.
abbrev pub typed_top : Bounds → Top → List Known → List Item → Option Top
typed_top bounds names known [] = Some no_top
typed_top bounds names known (item.Pragma word text ∷ is) = None
typed_top bounds names known (item.Struct x ys ∷ is) = struct_of (context_in bounds names known) x ys >>= λ d. typed_top bounds names known is >>= λ top. Some (with_struct d top)
typed_top bounds names known (item.Const x e ∷ is) = constant_number (context_in bounds names known) [] e >>= λ n. typed_top bounds names (known ++ record { name = x; number = n } ∷ []) is >>= λ top. Some (with_const x top)
typed_top bounds names known (item.Fun g ∷ is) = heading_of (context_in bounds names known) g >>= λ s. typed_top bounds names known is >>= λ top. Some (with_fun s top)

-- Values and bodies

abbrev pub const_of : Context → List ℕ → Expr → ℕ → Option ConstDef
const_of context x e n = value_at context [] int e >>= λ p. Some (record { name = x; value = p; number = pos n })

abbrev pub function_meant : Meaning → Option FunId
function_meant (AFunction f) = Some f
function_meant (AVariable v) = None
function_meant (AStruct r) = None
function_meant (AConstant c) = None
function_meant Nothing = None

abbrev pub implemented : Top → Signature → FunId → Option Signature → Option FunId
implemented top s f None = None
implemented top s f (Some g) = only_if (may_implement s g) f

abbrev pub implements_of : Top → Signature → Option (List ℕ) → Option (Option FunId)
implements_of top s None = Some None
implements_of top s (Some x) = function_meant (meaning_of top [] x) >>= λ f. implemented top s f (signature_meant top (AFunction f)) >>= λ g. Some (Some g)

abbrev pub fun_of : Context → FunItem → Signature → Option Fun
fun_of context g s = implements_of context.top s g.implements >>= λ i. make_all context s.result g.body 0 (parameters s.params) >>= λ (b : Made (List PStmt)). Some (record { name = s.name; kind = s.kind; result = s.result; params = s.params; slots = most b.made (length s.params); implements = i; body = b.made })

-- the constants and the functions
pub record Bodies : Type 0 where
  pub consts : List ConstDef
  pub funs : List Fun

abbrev pub bodies_of : Bounds → Top → List Known → List Item → Option Bodies
bodies_of bounds top known [] = Some (record { consts = []; funs = [] })
bodies_of bounds top known (item.Pragma word text ∷ is) = None
bodies_of bounds top known (item.Struct x ys ∷ is) = bodies_of bounds top known is
bodies_of bounds top known (item.Const x e ∷ is) = constant_number (context_in bounds top known) [] e >>= λ n. const_of (context_in bounds top known) x e n >>= λ c. bodies_of bounds top (known ++ record { name = x; number = n } ∷ []) is >>= λ (b : Bodies). Some (record { consts = c ∷ b.consts; funs = b.funs })
bodies_of bounds top known (item.Fun g ∷ is) = heading_of (context_in bounds top known) g >>= λ s. fun_of (context_in bounds top known) g s >>= λ f. bodies_of bounds top known is >>= λ (b : Bodies). Some (record { consts = b.consts; funs = f ∷ b.funs })

abbrev pub may_keep_names : Prog → Option Prog
may_keep_names prog = only_if (not (has_generator prog) || names_free prog) prog

abbrev pub prog_in : Bounds → Top → List Item → Option Prog
prog_in bounds top is = bodies_of bounds top [] is >>= λ (b : Bodies). may_keep_names (record { structs = top.structs; consts = b.consts; funs = b.funs })

abbrev pub items_of : Bounds → List Item → Option Prog
items_of bounds is = if all_distinct (top_names (named_top is)) then (typed_top bounds (named_top is) [] is >>= λ top. prog_in bounds top is) else None

-- the program that a tree is
unfoldable pub prog_of : Bounds → Tree → Option Prog
prog_of bounds tree = if steps_are_targets tree then items_of bounds (plain tree).items else None
