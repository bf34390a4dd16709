-- What an expansion keeps of the rules of the program that it came from. Its structs and constants are as a tree
-- says; each of its functions, ordinary or a copy, keeps the rules by itself, among the names of the whole
-- expansion and with the constants that stood before its item, or before that of its generator.
use Rattle.std.specs.Prelude.{◌≡◌, ◌<◌, ℕ, ℤ, pos, negsuc, false, IsTrue, List, [], ◌++◌, map, Option, Some, None, slice_get}
use Rattle.std.specs.List.{list_all}
use Rattle.sk_base.specs.declared.bounds.Bounds.{Bounds}
use Rattle.sk_tree.specs.declared.item.FunItem.{FunItem}
use Rattle.sk_tree.specs.declared.item.Item.{Item}
use Rattle.sk_tree.specs.Placed.{item_placed, any_ty_placed, param_placed}
use Rattle.sk_prog.specs.declared.ids.FunId.{FunId}
use Rattle.sk_prog.specs.declared.prog.ConstDef.{ConstDef}
use Rattle.sk_prog.specs.declared.prog.ParamDef.{ParamDef}
use Rattle.sk_prog.specs.declared.prog.Fun.{Fun}
use Rattle.sk_prog.specs.declared.prog.Prog.{Prog}
use Rattle.sk_prog.specs.Names.{all_names}
use Rattle.sk_prog.specs.Fits.{is_name, prog_fits}
use Rattle.sk_types_rules.specs.Scope.{Known, Context, top_of, top_names, signature_of, all_distinct}
use Rattle.sk_types_rules.specs.Types.{ParamsMean, ResultMeans, ImplementsMeans, ItemsMean, kind_of, may_be, is_generator, parameters}
use Rattle.sk_types_rules.specs.WellTyped.{WellTyped}
use Rattle.sk_model.specs.declared.expanded.Expanded.{Expanded}
use Rattle.sk_model.specs.declared.expanded.Choice.{Choice}
use Rattle.sk_model.specs.Sites.{sites}
use Rattle.sk_model.specs.Fill.{InRange, fill}
use Rattle.sk_holes_laws.specs.Holes.{AreWide}
use Rattle.sk_holes_laws.specs.Keeping.{AllKeep}
use Rattle.sk_holes_laws.specs.Callees.{stmt_callees, is_ahead}

-- Constants

abbrev pub natural_of : ℤ → ℕ
natural_of (pos n) = n
natural_of (negsuc n) = 0

abbrev pub known_of : ConstDef → Known
known_of c = record { name = c.name; number = natural_of c.number }

-- what is known behind all constants of a program
abbrev pub all_known : Prog → List Known
all_known prog = map known_of prog.consts

-- Functions

-- only ordinary functions are implemented
abbrev pub IsOrdinary : ℕ → Option FunId → Type 0
IsOrdinary ordinary None = Unit {0}
IsOrdinary ordinary (Some g) = g.index < ordinary

-- A function of an expansion, with the item that it has but for its body: of a copy that is the item of its
-- generator, as a plain function with the name of the copy.
pub record HeadKeeps (context : Context) (g : FunItem) (f : Fun) : Type 0 where
  pub name : f.name ≡ g.name
  pub kind : f.kind ≡ kind_of g.kind
  pub result : ResultMeans context g.result f.result
  pub implements : ImplementsMeans context.top (signature_of f) g.implements f.implements
  pub params : ParamsMean context g.params f.params
  pub signature : IsTrue (may_be f.kind f.params f.result)
  pub distinct : IsTrue (all_distinct (map (λ (d : ParamDef). d.name) f.params))
  pub result_placed : IsTrue (any_ty_placed g.result)
  pub params_placed : IsTrue (list_all param_placed g.params)

-- The function with number n keeps the rules where these constants are known.
pub record FunKeeps (context : Context) (ordinary : ℕ) (n : ℕ) (f : Fun) : Type 0 where
  pub item : FunItem
  pub head : HeadKeeps context item f
  pub no_generator : is_generator f.kind ≡ false
  pub implemented : IsOrdinary ordinary f.implements
  pub body : AllKeep context f.result 0 (parameters f.params) f.body
  pub calls : IsTrue (list_all (stmt_callees (is_ahead ordinary n)) f.body)

-- the same, with the constants that stood before it, and those that came later
pub record FunIsExpanded (bounds : Bounds) (prog : Prog) (ordinary : ℕ) (n : ℕ) (f : Fun) : Type 0 where
  pub known : List Known
  pub later : List Known
  pub constants : known ++ later ≡ all_known prog
  pub keeps : FunKeeps (record { bounds = bounds; top = top_of prog; known = known }) ordinary n f

-- Expansions

-- The items are those of structs and constants alone.
pub record IsExpanded (bounds : Bounds) (x : Expanded) : Type 0 where
  pub items : List Item
  pub placed : IsTrue (list_all item_placed items)
  pub means : ItemsMean bounds (top_of x.prog) [] items x.prog.structs x.prog.consts []
  pub distinct : IsTrue (all_distinct (top_names (top_of x.prog)))
  pub words : IsTrue (all_names is_name x.prog)
  pub funs : (n : ℕ) (f : Fun) → slice_get x.prog.funs n ≡ Some f → FunIsExpanded bounds x.prog x.ordinary n f
  pub sites : x.sites ≡ sites bounds x.prog

-- A filling of one keeps the rules, and is well-formed.
abbrev pub FilledMeans : Type 0
FilledMeans = (bounds : Bounds) (x : Expanded) (a : Choice) → AreWide bounds → IsExpanded bounds x → InRange x a → WellTyped (fill x a) bounds × IsTrue (prog_fits (fill x a))
