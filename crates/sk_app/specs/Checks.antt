-- What a line `check` says of its input, and what it writes of it.
use Rattle.std.specs.Prelude.{ℕ, ◌≡◌, ◌<◌, ◌⊎◌, List, length}
use Rattle.sk_front.specs.Texts.{most_bytes}
use Rattle.sk_app_texts.specs.CheckTexts.{accepted_text, rejected_text}
use Rattle.sk_app_texts.specs.CheckTexts as said
use Rattle.sk_opts.specs.declared.line.Set.{Set}
use Rattle.sk_check_laws.specs.declared.reason.Reason.{Reason}
use Rattle.sk_check_laws.specs.declared.reason.Reason.TheVariants as reason
use Rattle.sk_check_text.specs.declared.checking.Checked.TheVariants as checked
use Rattle.sk_check_text.specs.Checking.{OfParts, IsChecked}

-- the greatest number of bytes of an input: of a sketch, and of what stands behind it
abbrev pub most_input : ℕ
most_input = 67108864

-- The input has more bytes, or its sketch has more than a sketch may have.
abbrev pub IsTooLongInput : List ℕ → Type 0
IsTooLongInput input = (most_input < length input) ⊎ OfParts input (λ sketch behind. most_bytes < length sketch)

-- the reason as it is written
abbrev pub told_reason : Reason → said.Reason
told_reason reason.Values = said.Values
told_reason reason.Inputs = said.Inputs
told_reason reason.Upper = said.Upper
told_reason reason.Lower = said.Lower
told_reason reason.Text = said.Text
told_reason (reason.Formula own) = said.Formula

-- a text that is written of an input: behind its sketch stands a certificate that is right, or one that is rejected
pub data IsVerdictText (set : Set) (input out : List ℕ) : Type 0 where
  accepts : IsChecked set input checked.Accepted → out ≡ accepted_text → IsVerdictText set input out
  rejects : (r : Reason) → IsChecked set input (checked.Rejected r) → out ≡ rejected_text (told_reason r) → IsVerdictText set input out
