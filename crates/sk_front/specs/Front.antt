-- What a text means with the options of a line, what that expands to, and why it is refused.
use Rattle.std.specs.Prelude.{ℕ, ⊤, ◌≤◌, ◌<◌, ◌≡◌, List, length}
use Rattle.sk_base.specs.declared.bounds.Bounds.{Bounds}
use Rattle.sk_tree.specs.declared.item.Tree.{Tree}
use Rattle.sk_prog.specs.declared.prog.Prog.{Prog}
use Rattle.sk_types_rules.specs.Types.{Types}
use Rattle.sk_model.specs.declared.expanded.Expanded.{Expanded}
use Rattle.sk_model.specs.Expand.{expand}
use Rattle.sk_model.specs.Nodes.{nodes}
use Rattle.sk_model.specs.Steps.{steps}
use Rattle.sk_model.specs.News.{news}
use Rattle.sk_model.specs.Limits.{most_nodes, most_sites, most_steps, most_news, IsWithinLimits}
use Rattle.sk_opts.specs.declared.line.Set.{Set}
use Rattle.sk_opts.specs.BoundsOf.{bounds_of}
use Rattle.sk_opts.specs.Ranges.{AreInRanges}
use Rattle.sk_expand_sites.specs.Small.{AreSmall}
use Rattle.sk_expand_sizes.specs.declared.fault.SizeFault.{SizeFault}
use Rattle.sk_expand_sizes.specs.declared.fault.SizeFault.TheVariants as size
use Rattle.sk_front.specs.declared.fault.SketchFault.{SketchFault}
use Rattle.sk_front.specs.declared.fault.SketchFault.TheVariants as fault
use Rattle.sk_front.specs.declared.program.Typed.{Typed}
use Rattle.sk_front.specs.declared.expansion.Expansion.{Expansion}
use Rattle.sk_front.specs.Texts.{most_bytes, HasTree, HasSpan, IsTextFault, IsSameFault}

-- The text is short enough and reads as this tree; these are the bounds that the options and the tree give; and the tree
-- means this program under them.
pub record IsTypedAs (set : Set) (text : List ℕ) (tree : Tree) (bounds : Bounds) (prog : Prog) : Type 0 where
  pub short : length text ≤ most_bytes
  pub reads : HasTree text tree
  pub given : bounds ≡ bounds_of set tree
  pub types : Types tree bounds prog

-- The text reads as a tree that means no program.
pub record IsUntyped (set : Set) (text : List ℕ) : Type 0 where
  pub tree : Tree
  pub reads : HasTree text tree
  pub none : (prog : Prog) → Types tree (bounds_of set tree) prog → ⊥

-- The text means this program, and this is its expansion, which has no more nodes and sites than there may be.
pub record IsExpandedTo (set : Set) (text : List ℕ) (tree : Tree) (bounds : Bounds) (prog : Prog) (e : Expanded) : Type 0 where
  pub typed : IsTypedAs set text tree bounds prog
  pub is : e ≡ expand prog bounds
  pub nodes_fit : nodes e.prog ≤ most_nodes
  pub sites_fit : length e.sites ≤ most_sites

-- And the runs of its obligations take no more steps, and make no more records, than they may.
pub record IsSizedTo (set : Set) (text : List ℕ) (tree : Tree) (bounds : Bounds) (prog : Prog) (e : Expanded) : Type 0 where
  pub typed : IsTypedAs set text tree bounds prog
  pub is : e ≡ expand prog bounds
  pub sized : IsWithinLimits e bounds

-- What is too large of an expansion: the first of its four sizes that passes its limit, in this order. Want of memory
-- is none.
abbrev pub IsOver : SizeFault → Expanded → Bounds → Type 0
IsOver size.Copies e bounds = most_nodes < nodes e.prog
IsOver size.Sites e bounds = (nodes e.prog ≤ most_nodes) × (most_sites < length e.sites)
IsOver size.Steps e bounds = (nodes e.prog ≤ most_nodes) × (length e.sites ≤ most_sites) × (most_steps < steps bounds e)
IsOver size.News e bounds = (nodes e.prog ≤ most_nodes) × (length e.sites ≤ most_sites) × (steps bounds e ≤ most_steps) × (most_news < news bounds e)
IsOver size.Memory e bounds = ⊥

-- The text means a program whose expansion is too large for this reason.
pub record IsTooLarge (set : Set) (text : List ℕ) (reason : SizeFault) : Type 0 where
  pub tree : Tree
  pub bounds : Bounds
  pub prog : Prog
  pub typed : IsTypedAs set text tree bounds prog
  pub over : IsOver reason (expand prog bounds) bounds

-- Answers

-- what the text means, with bounds in their ranges; of an expansion also that each site has few values
pub record Means (set : Set) (text : List ℕ) (typed : Typed) : Type 0 where
  pub typed_as : IsTypedAs set text typed.tree typed.bounds typed.prog
  pub ranges : AreInRanges typed.bounds

pub record Expands (set : Set) (text : List ℕ) (x : Expansion) : Type 0 where
  pub expanded_to : IsExpandedTo set text x.tree x.bounds x.prog x.expanded
  pub ranges : AreInRanges x.bounds
  pub narrow : AreSmall x.expanded.sites

pub record ExpandsWithin (set : Set) (text : List ℕ) (x : Expansion) : Type 0 where
  pub sized_to : IsSizedTo set text x.tree x.bounds x.prog x.expanded
  pub ranges : AreInRanges x.bounds
  pub narrow : AreSmall x.expanded.sites

-- the answers that these are

abbrev pub IsTyped : Tree → Bounds → Prog → Typed → Type 0
IsTyped tree bounds prog typed = typed ≡ record { tree = tree; bounds = bounds; prog = prog }

abbrev pub IsExpansion : Tree → Bounds → Prog → Expanded → Expansion → Type 0
IsExpansion tree bounds prog e x = x ≡ record { tree = tree; bounds = bounds; prog = prog; expanded = e }

-- what is told of sizes
abbrev pub too_large : SizeFault → SketchFault
too_large size.Memory = fault.Memory
too_large reason = fault.TooLarge reason

-- Refusals. Each cause excludes the others, and each excludes that the text comes as far as the call that tells it. Want of
-- memory has no cause.

-- why a text has no tree
abbrev pub IsFaultOfTree : List ℕ → SketchFault → Type 0
IsFaultOfTree text (fault.NotText told) = IsTextFault told text
IsFaultOfTree text fault.Memory = ⊤
IsFaultOfTree text _ = ⊥

-- why it means no program
abbrev pub IsFaultOfProgram : Set → List ℕ → SketchFault → Type 0
IsFaultOfProgram set text (fault.NotText told) = IsTextFault told text
IsFaultOfProgram set text (fault.NotTyped told) = IsUntyped set text
IsFaultOfProgram set text fault.Memory = ⊤
IsFaultOfProgram set text _ = ⊥

-- why it has no expansion within the limits of nodes and sites
abbrev pub IsFaultOfExpansion : Set → List ℕ → SketchFault → Type 0
IsFaultOfExpansion set text (fault.TooLarge size.Copies) = IsTooLarge set text size.Copies
IsFaultOfExpansion set text (fault.TooLarge size.Sites) = IsTooLarge set text size.Sites
IsFaultOfExpansion set text fault = IsFaultOfProgram set text fault

-- why it has none within all four limits
abbrev pub IsFaultOfSizes : Set → List ℕ → SketchFault → Type 0
IsFaultOfSizes set text (fault.TooLarge reason) = IsTooLarge set text reason
IsFaultOfSizes set text fault = IsFaultOfProgram set text fault

-- Where a fault of types is told. A fault of bytes and tokens has its place in its cause, and the others have none.
abbrev pub IsPlacedFault : List ℕ → SketchFault → Type 0
IsPlacedFault text (fault.NotTyped told) = HasSpan text told.span
IsPlacedFault text _ = ⊤

-- Two faults of one name. Faults of the bytes have one place; of the others no definition says which place is told.
abbrev pub IsSame : SketchFault → SketchFault → Type 0
IsSame (fault.NotText a) (fault.NotText b) = IsSameFault a b
IsSame (fault.NotTyped a) (fault.NotTyped b) = ⊤
IsSame (fault.TooLarge a) (fault.TooLarge b) = a ≡ b
IsSame _ _ = ⊥

-- The text is refused for this; want of memory is no cause.
abbrev pub IsCause : (SketchFault → Type 0) → SketchFault → Type 0
IsCause Fault fault.Memory = ⊥
IsCause Fault told = Fault told

-- a fault is told as this one, or memory is wanting
abbrev pub IsToldAs : SketchFault → SketchFault → Type 0
IsToldAs a fault.Memory = ⊤
IsToldAs a b = IsSame a b

abbrev pub IsMemory : SketchFault → Type 0
IsMemory fault.Memory = ⊤
IsMemory _ = ⊥
