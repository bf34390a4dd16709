-- What holds of the texts that the program takes.
use Rattle.std.specs.Prelude.{ℕ, ◌≤◌, List, length}
use Rattle.sk_base.specs.declared.bounds.Bounds.{Bounds}
use Rattle.sk_model.specs.declared.expanded.Expanded.{Expanded}
use Rattle.sk_oblig.specs.Formulas.{IsAskable}
use Rattle.sk_opts.specs.declared.line.Set.{Set}
use Rattle.sk_front.specs.declared.expansion.Expansion.{Expansion}
use Rattle.sk_front.specs.declared.fault.SketchFault.{SketchFault}
use Rattle.sk_front.specs.Front.{ExpandsWithin, IsCause, IsFaultOfSizes}
use Rattle.sk_built_laws.specs.Built.{IsBuilt, IsOnly, IsReady}

-- the bounds and the expansion that are answered for a text are its only ones, and ready for a search
abbrev pub ExpansionsAreReady : Type 0
ExpansionsAreReady = (set : Set) (text : List ℕ) (x : Expansion) → ExpandsWithin set text x → IsReady set text x.bounds x.expanded

-- whatever is asked of an expansion before its queries are put as formulas holds of such an expansion
abbrev pub ReadyAreAskable : Type 0
ReadyAreAskable = (set : Set) (text : List ℕ) (bounds : Bounds) (e : Expanded) → IsReady set text bounds e → IsAskable e bounds

-- it has no more sites than 32 bits count
abbrev pub ReadyHaveFewSites : Type 0
ReadyHaveFewSites = (set : Set) (text : List ℕ) (bounds : Bounds) (e : Expanded) → IsReady set text bounds e → length e.sites ≤ 4294967296

-- a text that is taken has one expansion and one list of bounds
abbrev pub BuiltAreOnly : Type 0
BuiltAreOnly = (set : Set) (text : List ℕ) (bounds : Bounds) (e : Expanded) → IsBuilt set text bounds e → IsOnly set text bounds e

-- a text that is taken is refused for no cause
abbrev pub BuiltHaveNoCause : Type 0
BuiltHaveNoCause = (set : Set) (text : List ℕ) (bounds : Bounds) (e : Expanded) (told : SketchFault) → IsBuilt set text bounds e → IsCause (IsFaultOfSizes set text) told → ⊥
