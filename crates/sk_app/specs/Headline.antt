-- What a line `synth` does, in definitions of the language alone. Each cause is said in full by a clause of `Clauses`.
use Rattle.std.specs.Prelude.{ℕ, ◌≡◌, ◌≤◌, ◌<◌, ◌⊎◌, Bool, List, ◌++◌, length, Some, None}
use Rattle.sk_base.specs.declared.bounds.Bounds.{Bounds}
use Rattle.sk_base.specs.declared.bounds.Budget.{Budget}
use Rattle.sk_model.specs.declared.expanded.Choice.{Choice}
use Rattle.sk_model.specs.declared.expanded.Expanded.{Expanded}
use Rattle.sk_model.specs.Fill.{InRange, fill}
use Rattle.sk_model.specs.Meets.{Meets, IsGreatestCost}
use Rattle.sk_print.specs.Layout.{layout}
use Rattle.sk_print.specs.Shows.{Shows}
use Rattle.sk_opts.specs.declared.line.Set.{Set}
use Rattle.sk_front.specs.declared.fault.SketchFault.{SketchFault}
use Rattle.sk_front.specs.Texts.{most_bytes}
use Rattle.sk_front.specs.Front.{IsCause, IsFaultOfSizes}
use Rattle.sk_app.specs.declared.ending.Ending.TheVariants.{NotALine, ReadFault, WriteFault, TooLong, Memory}
use Rattle.sk_all_text.specs.Built.{IsOnly}
use Rattle.sk_app.specs.ResultText.{completion_lines, none_text, IsWithCertificate}
use Rattle.sk_app.specs.Results.{IsSpent}
use Rattle.sk_app.specs.Lines.{IsNoLine, IsSearch}
use Rattle.sk_app.specs.Effects.{refusal}
use Rattle.sk_app.specs.Call.{Call, EndsWith, OfText, Gets, SourceFailed, SinkFailed}

-- The text is the sketch with the listed hole values; it meets every harness and reference on every input in range; and no
-- filling that does so has a smaller greatest cost, which is the value of `minimize`. Behind it stands a certificate of this, if asked for.
pub record IsSolution (cert : Bool) (bounds : Bounds) (e : Expanded) (out : List ℕ) : Type 0 where
  pub a : Choice
  pub value : ℕ
  pub text : IsWithCertificate cert e bounds (Some a) value (layout (fill e a) ++ completion_lines a value) out
  pub shows : Shows (layout (fill e a)) bounds (fill e a)
  pub in_range : InRange e a
  pub meets : Meets (fill e a) bounds
  pub costs : IsGreatestCost (fill e a) bounds value
  pub least : (b : Choice) → InRange e b → Meets (fill e b) bounds → (v : ℕ) → IsGreatestCost (fill e b) bounds v → value ≤ v

-- No filling does so, which a certificate shows, if asked for.
abbrev pub HasNone : Bool → Bounds → Expanded → List ℕ → Type 0
HasNone cert bounds e out = IsWithCertificate cert e bounds None 0 none_text out × ((a : Choice) → InRange e a → Meets (fill e a) bounds → ⊥)

-- This holds of the sketch that the text means with these options; it means no other.
pub record ForSketch (set : Set) (Holds : Bounds → Expanded → List ℕ → Type 0) (text out : List ℕ) : Type 0 where
  pub bounds : Bounds
  pub e : Expanded
  pub only : IsOnly set text bounds e
  pub holds : Holds bounds e out

-- A spent budget, a source or a sink that failed, a fault of the text, or want of memory.
pub data Otherwise (set : Set) (budget : Budget) (c : Call) : Type 0 where
  spent : IsSpent budget c.ending → Otherwise set budget c
  source_failed : c.ending ≡ ReadFault → SourceFailed c → Otherwise set budget c
  sink_failed : c.ending ≡ WriteFault → SinkFailed c → Otherwise set budget c
  too_long : c.ending ≡ TooLong → OfText c (λ text. most_bytes < length text) → Otherwise set budget c
  refused : (f : SketchFault) → c.ending ≡ refusal f → OfText c (λ text. IsCause (IsFaultOfSizes set text) f) → Otherwise set budget c
  no_memory : c.ending ≡ Memory → Otherwise set budget c

pub record Headline (c : Call) : Type 0 where
  pub zero : (set : Set) (budget : Budget) (cert : Bool) → IsSearch c.words set budget cert → EndsWith 0 c → OfText c (λ text. Gets c (ForSketch set (IsSolution cert) text))
  pub one : (set : Set) (budget : Budget) (cert : Bool) → IsSearch c.words set budget cert → EndsWith 1 c → OfText c (λ text. Gets c (ForSketch set (HasNone cert) text))
  pub otherwise : (set : Set) (budget : Budget) (cert : Bool) → IsSearch c.words set budget cert → EndsWith 0 c ⊎ EndsWith 1 c ⊎ Otherwise set budget c
  pub words : c.ending ≡ NotALine → IsNoLine c.words
