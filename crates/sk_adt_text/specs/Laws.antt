-- What a reader expects of the answers to a line `lower`: of each text one thing holds, that the text of its plain form is written, or one reason why none is.
use Rattle.std.specs.Prelude.{ℕ, ◌≡◌, List}
use Rattle.sk_base.specs.declared.span.Span.{Span}
use Rattle.sk_opts.specs.declared.line.Set.{Set}
use Rattle.sk_adt.specs.declared.algebraic.AdtFault.{AdtFault}
use Rattle.sk_front.specs.declared.fault.SketchFault.{SketchFault}
use Rattle.sk_front.specs.Front.{IsCause}
use Rattle.sk_adt_text.specs.PlainTexts.{HasNoPlainForm, IsNotTagged, IsLoweredText, IsFaultOfLowering}

abbrev pub OneReason : Type 0
OneReason = (text : List ℕ) (a b : AdtFault) → HasNoPlainForm text a → HasNoPlainForm text b → a ≡ b

abbrev pub OneSpan : Type 0
OneSpan = (set : Set) (text : List ℕ) (a b : Span) → IsNotTagged set text a → IsNotTagged set text b → a ≡ b

abbrev pub OneText : Type 0
OneText = (set : Set) (text : List ℕ) (a b : List ℕ) → IsLoweredText set text a → IsLoweredText set text b → a ≡ b

-- each of the three excludes the others

abbrev pub NoReasonOfSpan : Type 0
NoReasonOfSpan = (set : Set) (text : List ℕ) (a : AdtFault) (s : Span) → HasNoPlainForm text a → IsNotTagged set text s → ⊥

abbrev pub NoReasonOfText : Type 0
NoReasonOfText = (set : Set) (text : List ℕ) (a : AdtFault) (out : List ℕ) → HasNoPlainForm text a → IsLoweredText set text out → ⊥

abbrev pub NoSpanOfText : Type 0
NoSpanOfText = (set : Set) (text : List ℕ) (s : Span) (out : List ℕ) → IsNotTagged set text s → IsLoweredText set text out → ⊥

-- and that the text is refused for a cause

abbrev pub NoCauseOfReason : Type 0
NoCauseOfReason = (set : Set) (text : List ℕ) (a : AdtFault) (told : SketchFault) → HasNoPlainForm text a → IsCause (IsFaultOfLowering set text) told → ⊥

abbrev pub NoCauseOfSpan : Type 0
NoCauseOfSpan = (set : Set) (text : List ℕ) (s : Span) (told : SketchFault) → IsNotTagged set text s → IsCause (IsFaultOfLowering set text) told → ⊥

abbrev pub NoCauseOfText : Type 0
NoCauseOfText = (set : Set) (text : List ℕ) (out : List ℕ) (told : SketchFault) → IsLoweredText set text out → IsCause (IsFaultOfLowering set text) told → ⊥
