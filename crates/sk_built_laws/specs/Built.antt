-- The texts that the program takes, under the options of a line.
use Rattle.std.specs.Prelude.{ℕ, ◌≡◌, List}
use Rattle.sk_base.specs.declared.bounds.Bounds.{Bounds}
use Rattle.sk_tree.specs.declared.item.Tree.{Tree}
use Rattle.sk_prog.specs.declared.prog.Prog.{Prog}
use Rattle.sk_model.specs.declared.expanded.Expanded.{Expanded}
use Rattle.sk_expand_sites.specs.Small.{AreSmall}
use Rattle.sk_opts.specs.declared.line.Set.{Set}
use Rattle.sk_opts.specs.Ranges.{AreInRanges}
use Rattle.sk_front.specs.Front.{IsSizedTo}

-- With these options the text is one that the program takes: it means a program under these bounds, with e as its
-- expansion, within the limits.
pub record IsBuilt (set : Set) (text : List ℕ) (bounds : Bounds) (e : Expanded) : Type 0 where
  pub tree : Tree
  pub prog : Prog
  pub sized : IsSizedTo set text tree bounds prog e

-- the bounds and the expansion of a text that is taken; with these options the text has no others
pub record IsOnly (set : Set) (text : List ℕ) (bounds : Bounds) (e : Expanded) : Type 0 where
  pub built : IsBuilt set text bounds e
  pub only : (b : Bounds) (f : Expanded) → IsBuilt set text b f → (b ≡ bounds) × (f ≡ e)

-- some bounds and some expansion are those of a text that is taken
pub record IsTaken (set : Set) (text : List ℕ) : Type 0 where
  pub bounds : Bounds
  pub e : Expanded
  pub built : IsBuilt set text bounds e

-- The text is taken, and this holds of its bounds and its expansion.
pub record ForBuilt (set : Set) (text : List ℕ) (Holds : Bounds → Expanded → Type 0) : Type 0 where
  pub bounds : Bounds
  pub e : Expanded
  pub only : IsOnly set text bounds e
  pub holds : Holds bounds e

-- the bounds and the expansion of a text that is taken, as what searches it asks for them
pub record IsReady (set : Set) (text : List ℕ) (bounds : Bounds) (e : Expanded) : Type 0 where
  pub only : IsOnly set text bounds e
  pub ranges : AreInRanges bounds
  pub narrow : AreSmall e.sites
