-- What a reader may rest on, of a text that a line `lower` writes: its program does what the algebraic types say, and the text shows it.
use Rattle.std.specs.Prelude.{ℕ, ⊤, ◌≡◌, List}
use Rattle.sk_base.specs.declared.bounds.Bounds.{Bounds}
use Rattle.sk_tree.specs.declared.item.Tree.{Tree}
use Rattle.sk_prog.specs.declared.ids.FunId.{FunId}
use Rattle.sk_prog.specs.declared.value.Value.{Value}
use Rattle.sk_prog.specs.declared.prog.Prog.{Prog}
use Rattle.sk_types_rules.specs.WellTyped.{WellTyped}
use Rattle.sk_print.specs.Layout.{layout}
use Rattle.sk_print.specs.Shows.{Shows}
use Rattle.sk_model.specs.Run.{run}
use Rattle.sk_opts.specs.declared.line.Set.{Set}
use Rattle.sk_opts.specs.Ranges.{IsInRanges}
use Rattle.sk_adt.specs.declared.algebraic.Lowered.{Lowered}
use Rattle.sk_adt_records.specs.Run.{Ends, run_by_variants}
use Rattle.sk_adt_record_laws.specs.Laws.{TagsAreIntegers}
use Rattle.sk_adt_text_laws.specs.Lowered.{HoldsNoReferences}
use Rattle.sk_adt_text.specs.declared.lowering.Lowering.{Lowering}
use Rattle.sk_adt_text.specs.declared.lowering.Lowering.TheVariants as lowering
use Rattle.sk_adt_text.specs.PlainTexts.{MeansProgram, HasPlainForm, IsLoweredText}

-- The tokens of this form mean the program whose text this is. Its tags are integers, it keeps the rules of types, and its runs with records by their variants
-- never stray, and end as its runs do, for each function whose parameters and result hold no references. The text, read and typed with the same bounds, shows
-- that program.
pub record KeepsVariants (set : Set) (out : List ℕ) (form : Lowered) : Type 0 where
  pub tree : Tree
  pub bounds : Bounds
  pub prog : Prog
  pub means : MeansProgram set form.tokens tree bounds prog
  pub is : out ≡ layout prog
  pub tags : TagsAreIntegers form.types prog
  pub rules : WellTyped prog bounds
  pub runs : (f : FunId) → HoldsNoReferences prog f → (args : List Value) → run_by_variants prog form.types f args bounds ≡ Ends (run prog f args bounds)
  pub shows : Shows out bounds prog

-- of a text that is written
abbrev pub IsKept : Set → List ℕ → Lowering → Type 0
IsKept set text (lowering.NotLowered reason) = ⊤
IsKept set text (lowering.NotTagged span) = ⊤
IsKept set text (lowering.Plain out) = HasPlainForm text (KeepsVariants set out.items)

-- Each text that is written keeps to its variants, with options in their ranges.
abbrev pub TextsKeepVariants : Type 0
TextsKeepVariants = (set : Set) (text : List ℕ) (out : List ℕ) → IsInRanges set → IsLoweredText set text out → HasPlainForm text (KeepsVariants set out)
