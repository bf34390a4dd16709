-- What a reader expects of the answers to a line `prune`: of each text one thing holds, that one text is written, or that its
-- expansion has a site, or that it is refused for a cause.
use Rattle.std.specs.Prelude.{ℕ, ◌≡◌, List}
use Rattle.sk_opts.specs.declared.line.Set.{Set}
use Rattle.sk_front.specs.declared.fault.SketchFault.{SketchFault}
use Rattle.sk_front.specs.Front.{IsFaultOfExpansion, IsCause}
use Rattle.sk_prune_text.specs.PrunedTexts.{IsPrunedText, IsOpenText}

abbrev pub OneText : Type 0
OneText = (set : Set) (text a b : List ℕ) → IsPrunedText set text a → IsPrunedText set text b → a ≡ b

abbrev pub OpenOrPruned : Type 0
OpenOrPruned = (set : Set) (text out : List ℕ) → IsOpenText set text → IsPrunedText set text out → ⊥

abbrev pub NoCauseOfOpen : Type 0
NoCauseOfOpen = (set : Set) (text : List ℕ) (told : SketchFault) → IsOpenText set text → IsCause (IsFaultOfExpansion set text) told → ⊥

abbrev pub NoCauseOfPruned : Type 0
NoCauseOfPruned = (set : Set) (text out : List ℕ) (told : SketchFault) → IsPrunedText set text out → IsCause (IsFaultOfExpansion set text) told → ⊥
