-- What a line `prune` does for a text: the program that it means is expanded, and the text of what is left of that without what
-- no run can reach is written; or its expansion has a site, and nothing is written.
use Rattle.std.specs.Prelude.{ℕ, ◌≡◌, List, []}
use Rattle.sk_base.specs.declared.bounds.Bounds.{Bounds}
use Rattle.sk_tree.specs.declared.item.Tree.{Tree}
use Rattle.sk_prog.specs.declared.prog.Prog.{Prog}
use Rattle.sk_print.specs.Layout.{layout}
use Rattle.sk_model.specs.declared.expanded.Expanded.{Expanded}
use Rattle.sk_prune.specs.Pruned.{IsPruned}
use Rattle.sk_opts.specs.declared.line.Set.{Set}
use Rattle.sk_front.specs.Front.{IsExpandedTo}
use Rattle.sk_prune_text.specs.declared.pruning.Pruning.{Pruning}
use Rattle.sk_prune_text.specs.declared.pruning.Pruning.TheVariants as pruning

-- the expansion has a site
abbrev pub IsOpen : Expanded → Type 0
IsOpen e = e.sites ≡ [] → ⊥

-- It has none, and this is the text of what is left of its program.
pub record IsTextOf (bounds : Bounds) (e : Expanded) (out : List ℕ) : Type 0 where
  pub closed : e.sites ≡ []
  pub left : Prog
  pub pruned : IsPruned bounds e.prog left
  pub is : out ≡ layout left

-- Texts

-- a line `prune` writes this for the text, with these options
pub record IsPrunedText (set : Set) (text out : List ℕ) : Type 0 where
  pub tree : Tree
  pub bounds : Bounds
  pub prog : Prog
  pub e : Expanded
  pub expanded : IsExpandedTo set text tree bounds prog e
  pub text_of : IsTextOf bounds e out

-- it writes nothing, since the expansion of the text has a site
pub record IsOpenText (set : Set) (text : List ℕ) : Type 0 where
  pub tree : Tree
  pub bounds : Bounds
  pub prog : Prog
  pub e : Expanded
  pub expanded : IsExpandedTo set text tree bounds prog e
  pub open_is : IsOpen e

-- what a text comes to with a line `prune`
abbrev pub IsPruning : Set → List ℕ → Pruning → Type 0
IsPruning set text pruning.Unfilled = IsOpenText set text
IsPruning set text (pruning.Pruned out) = IsPrunedText set text out.items

-- Parts of the answer

-- what an expansion comes to
abbrev pub IsAnswer : Bounds → Expanded → Pruning → Type 0
IsAnswer bounds e pruning.Unfilled = IsOpen e
IsAnswer bounds e (pruning.Pruned out) = IsTextOf bounds e out.items

-- Answers by their causes

-- nothing is written, since a site is open
abbrev pub IsOpenAs : Pruning → Type 0
IsOpenAs told = told ≡ pruning.Unfilled

-- a text is written, and it is this one
abbrev pub IsWrittenAs : List ℕ → Pruning → Type 0
IsWrittenAs out pruning.Unfilled = ⊥
IsWrittenAs out (pruning.Pruned written) = written.items ≡ out
