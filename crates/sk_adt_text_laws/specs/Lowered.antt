-- What holds of the program that the plain tokens of a text mean.
use Rattle.std.specs.Prelude.{◌≡◌, IsTrue, not, List, slice_get, Some, Ok}
use Rattle.sk_base.specs.declared.bounds.Bounds.{Bounds}
use Rattle.sk_tree.specs.declared.token.Token.{Token}
use Rattle.sk_tree.specs.declared.item.Tree.{Tree}
use Rattle.sk_parser.specs.Parses.{IsTreeOf}
use Rattle.sk_prog.specs.declared.ids.FunId.{FunId}
use Rattle.sk_prog.specs.declared.value.Value.{Value}
use Rattle.sk_prog.specs.declared.prog.Fun.{Fun}
use Rattle.sk_prog.specs.declared.prog.Prog.{Prog}
use Rattle.sk_types_rules.specs.Types.{speaks_of_records, Types}
use Rattle.sk_types_rules.specs.WellTyped.{WellTyped}
use Rattle.sk_model.specs.Run.{run}
use Rattle.sk_adt.specs.declared.algebraic.Lowered.{Lowered}
use Rattle.sk_adt.specs.Lowering.{lowered}
use Rattle.sk_adt_tags.specs.Tags.{Tagged}
use Rattle.sk_adt_records.specs.Run.{Ends, run_by_variants}
use Rattle.sk_adt_record_laws.specs.Laws.{TagsAreIntegers}

-- This is the plain form of the tokens; its own tokens read as this tree; and the tree means this program.
pub record IsLoweredProgram (tokens : List Token) (form : Lowered) (tree : Tree) (bounds : Bounds) (prog : Prog) : Type 0 where
  pub lowered_is : lowered tokens ≡ Ok form
  pub reads : IsTreeOf form.tokens tree
  pub types : Types tree bounds prog

-- In such a program the tag of each struct of an algebraic type is an integer: a struct that the text writes itself has another name.
abbrev pub LoweredTagsAreIntegers : Type 0
LoweredTagsAreIntegers = (tokens : List Token) (form : Lowered) (tree : Tree) (bounds : Bounds) (prog : Prog) → IsLoweredProgram tokens form tree bounds prog → TagsAreIntegers form.types prog

-- It keeps the rules of types.
abbrev pub LoweredProgramsKeepRules : Type 0
LoweredProgramsKeepRules = (tokens : List Token) (form : Lowered) (tree : Tree) (bounds : Bounds) (prog : Prog) → IsLoweredProgram tokens form tree bounds prog → WellTyped prog bounds

-- the function's parameters and result hold no references
abbrev pub HoldsNoReferences : Prog → FunId → Type 0
HoldsNoReferences prog f = (fun : Fun) → slice_get prog.funs f.index ≡ Some fun → IsTrue (not (speaks_of_records fun.params fun.result))

-- So where it is tagged, its runs with records by their variants never stray, and end as its runs do.
abbrev pub LoweredRunsKeepVariants : Type 0
LoweredRunsKeepVariants = (tokens : List Token) (form : Lowered) (tree : Tree) (bounds : Bounds) (prog : Prog) → IsLoweredProgram tokens form tree bounds prog → Tagged form.types prog
    → (f : FunId) → HoldsNoReferences prog f → (args : List Value) → run_by_variants prog form.types f args bounds ≡ Ends (run prog f args bounds)
