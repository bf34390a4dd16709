-- What a reader expects of what is told of a text: one thing holds of each text.
use Rattle.std.specs.Prelude.{ℕ, ◌≡◌, List}
use Rattle.sk_opts.specs.declared.line.Set.{Set}
use Rattle.sk_front.specs.declared.fault.SketchFault.{SketchFault}
use Rattle.sk_front.specs.Front.{IsCause, IsFaultOfSizes}
use Rattle.sk_built_laws.specs.Built.{ForBuilt}
use Rattle.sk_all_text.specs.declared.reasons.Reasons.{Reasons}
use Rattle.sk_all_text.specs.AllTexts.{IsReasons, IsListing, IsExplained, IsMet, TellsAll, TellsMore}

-- inputs explain why a text has no completion, or it has one, and not both
abbrev pub ExplainedOrMet : Type 0
ExplainedOrMet = (set : Set) (text : List ℕ) (a b : Reasons) → IsReasons set text a → IsReasons set text b → IsExplained a → IsMet b → ⊥

-- it has at most so many completions, or more, and not both
abbrev pub AllOrMore : Type 0
AllOrMore = (set : Set) (most : ℕ) (text a b : List ℕ) → ForBuilt set text (TellsAll most a) → ForBuilt set text (TellsMore most b) → ⊥

-- and where it has at most so many, one text tells them
abbrev pub OneAll : Type 0
OneAll = (set : Set) (most : ℕ) (text a b : List ℕ) → ForBuilt set text (TellsAll most a) → ForBuilt set text (TellsAll most b) → a ≡ b

-- and a text of which something is told is refused for no cause

abbrev pub NoCauseOfReasons : Type 0
NoCauseOfReasons = (set : Set) (text : List ℕ) (a : Reasons) (told : SketchFault) → IsReasons set text a → IsCause (IsFaultOfSizes set text) told → ⊥

abbrev pub NoCauseOfListing : Type 0
NoCauseOfListing = (set : Set) (most : ℕ) (text out : List ℕ) (told : SketchFault) → IsListing set most text out → IsCause (IsFaultOfSizes set text) told → ⊥
