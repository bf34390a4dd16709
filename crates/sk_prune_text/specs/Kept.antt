-- What a reader may rest on, of a text that a line `prune` writes: each function that stays runs as before, and the text shows the
-- program that is left.
use Rattle.std.specs.Prelude.{ℕ, ⊤, ◌≡◌, List, [], Some, slice_get}
use Rattle.sk_base.specs.declared.bounds.Bounds.{Bounds}
use Rattle.sk_tree.specs.declared.item.Tree.{Tree}
use Rattle.sk_prog.specs.declared.ids.FunId.{FunId}
use Rattle.sk_prog.specs.declared.value.Value.{Value}
use Rattle.sk_prog.specs.declared.prog.Fun.{Fun}
use Rattle.sk_prog.specs.declared.prog.Prog.{Prog}
use Rattle.sk_types_rules.specs.WellTyped.{WellTyped}
use Rattle.sk_print.specs.Layout.{layout}
use Rattle.sk_print.specs.Shows.{Shows}
use Rattle.sk_model.specs.declared.expanded.Expanded.{Expanded}
use Rattle.sk_model.specs.Run.{run}
use Rattle.sk_prune.specs.Stays.{Stays}
use Rattle.sk_prune.specs.Pruned.{trimmed_funs, IsPruned}
use Rattle.sk_opts.specs.declared.line.Set.{Set}
use Rattle.sk_opts.specs.Ranges.{IsInRanges}
use Rattle.sk_front.specs.Front.{IsExpandedTo}
use Rattle.sk_prune_text.specs.PrunedTexts.{IsPrunedText}
use Rattle.sk_prune_text.specs.declared.pruning.Pruning.{Pruning}
use Rattle.sk_prune_text.specs.declared.pruning.Pruning.TheVariants as pruning

-- The function f, with this number in p, is left in q: under some number, with its name, its kind, its parameters and its result.
-- On all arguments it runs as before: the outcome is the same, with the result, the final values of its `ref` parameters, the cost,
-- and the span where it fails or is skipped.
pub record IsLeft (bounds : Bounds) (p q : Prog) (number : FunId) (f : Fun) : Type 0 where
  pub again : FunId
  pub fun : Fun
  pub there : slice_get q.funs again.index ≡ Some fun
  pub name : fun.name ≡ f.name
  pub kind : fun.kind ≡ f.kind
  pub params : fun.params ≡ f.params
  pub result : fun.result ≡ f.result
  pub runs : (args : List Value) → run q again args bounds ≡ run p number args bounds

-- The text means a program without open parts. In what is left of its expansion each function that stays is left; and this is the
-- text of what is left, which keeps the rules of types and, read and typed with the same bounds, is shown.
pub record KeepsRuns (set : Set) (text out : List ℕ) : Type 0 where
  pub tree : Tree
  pub bounds : Bounds
  pub prog : Prog
  pub e : Expanded
  pub expanded : IsExpandedTo set text tree bounds prog e
  pub closed : e.sites ≡ []
  pub left : Prog
  pub pruned : IsPruned bounds e.prog left
  pub stay : (number : FunId) (f : Fun) → slice_get e.prog.funs number.index ≡ Some f → Stays (trimmed_funs e.prog bounds.int_bits) number.index → IsLeft bounds e.prog left number f
  pub is : out ≡ layout left
  pub rules : WellTyped left bounds
  pub shows : Shows out bounds left

-- of what a text comes to
abbrev pub IsKept : Set → List ℕ → Pruning → Type 0
IsKept set text pruning.Unfilled = ⊤
IsKept set text (pruning.Pruned out) = KeepsRuns set text out.items

-- Each text that is written keeps its runs, with options in their ranges.
abbrev pub TextsKeepRuns : Type 0
TextsKeepRuns = (set : Set) (text out : List ℕ) → IsInRanges set → IsPrunedText set text out → KeepsRuns set text out
