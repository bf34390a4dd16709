-- What the tokens of a text read as, as the code answers it.
use Rattle.std.specs.Prelude.{ℕ, ⊤, ◌≤◌, List}
use Rattle.sk_tree.specs.declared.token.Token.{Token}
use Rattle.sk_parser.specs.declared.fault.ParseFault.{ParseFault}
use Rattle.sk_parser.specs.declared.fault.ParseFault.TheVariants as parse
use Rattle.sk_parser.specs.Parses.{ReadsAsNone, ReadsWithTooMany, ReadsWithBad, greatest_end}
use Rattle.sk_front.specs.declared.fault.TextFault.TheVariants.{Parse}
use Rattle.sk_front.specs.declared.fault.SketchFault.{SketchFault}
use Rattle.sk_front.specs.declared.fault.SketchFault.TheVariants as fault

-- the cause holds, and the place is not behind the last token
pub record IsToldAt (Cause : Type 0) (at : ℕ) (tokens : List Token) : Type 0 where
  pub cause : Cause
  pub place : at ≤ greatest_end tokens

-- why these tokens read as no tree, and a place that is not behind the last of them
abbrev pub Refuses : ParseFault → List Token → Type 0
Refuses (parse.NoReading at) tokens = IsToldAt (ReadsAsNone tokens) at tokens
Refuses (parse.TooManyStrings at) tokens = IsToldAt (ReadsWithTooMany tokens) at tokens
Refuses (parse.BadAlternative at) tokens = IsToldAt (ReadsWithBad tokens) at tokens
Refuses parse.Memory tokens = ⊥

-- the tokens are refused, or memory is wanting
abbrev pub IsFaultOfTokens : List Token → SketchFault → Type 0
IsFaultOfTokens tokens (fault.NotText (Parse told)) = Refuses told tokens
IsFaultOfTokens tokens fault.Memory = ⊤
IsFaultOfTokens tokens _ = ⊥
