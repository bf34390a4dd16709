-- What there is to tell of an ending, and how it is written.
use Rattle.std.specs.Prelude.{ℕ, ◌≡◌, ◌≤◌, ◌<◌, ◌==◌, List, [], ◌∷◌, ◌++◌, length, Option, None, Some, if◌then◌else◌, codes, true}
use Rattle.std.specs.List.{list_all}
use Rattle.std.specs.Str.{IsAscii}
use Rattle.sk_base.specs.declared.span.Span.{Span}
use Rattle.sk_app.specs.declared.ending.Ending.{Ending}
use Rattle.sk_app.specs.declared.ending.Ending.TheVariants as ending
use Rattle.sk_front.specs.declared.fault.TextFault.TheVariants as text
use Rattle.sk_lexer.specs.declared.fault.LexFault.{LexFault}
use Rattle.sk_lexer.specs.declared.fault.LexFault.TheVariants as lex
use Rattle.sk_parser.specs.declared.fault.ParseFault.{ParseFault}
use Rattle.sk_parser.specs.declared.fault.ParseFault.TheVariants as parse
use Rattle.sk_adt.specs.declared.algebraic.AdtFault.{AdtFault}
use Rattle.sk_adt.specs.declared.algebraic.AdtFault.TheVariants as adt
use Rattle.sk_explain_places.specs.declared.spots.Spot.{Spot}
use Rattle.sk_explain_places.specs.Spots.{IsSpotOf, place_text, excerpt_text}
use Rattle.sk_explain_places.specs.Visible.{is_quiet}
use Rattle.sk_explain_notes.specs.Notes.{is_note}
use Rattle.sk_explain.specs.declared.explanation.Explanation.{Explanation}

-- The bytes that an ending names: of a fault of a text that it is told at a byte, one that is empty

abbrev pub point : ℕ → Option Span
point at = Some (record { from = at; to = at })

abbrev pub lex_span : LexFault → Option Span
lex_span (lex.BadByte at) = point at
lex_span (lex.OpenComment at) = point at
lex_span (lex.LiteralTooLarge at) = point at
lex_span (lex.OpenString at) = point at
lex_span lex.Memory = None

abbrev pub parse_span : ParseFault → Option Span
parse_span (parse.NoReading at) = point at
parse_span (parse.BadAlternative at) = point at
parse_span (parse.TooManyStrings at) = point at
parse_span parse.Memory = None

abbrev pub adt_span : AdtFault → Option Span
adt_span (adt.NoForm at) = point at
adt_span (adt.Twice at) = point at
adt_span (adt.NoVariant at) = point at
adt_span (adt.TooMany at) = point at
adt_span adt.Memory = None

-- what breaks a rule of types at 0 to 0 has no place
abbrev pub some_span : Span → Option Span
some_span span = if span.to == 0 then None else Some span

abbrev pub span_of : Ending → Option Span
span_of (ending.NotText (text.Lex fault)) = lex_span fault
span_of (ending.NotText (text.Parse fault)) = parse_span fault
span_of (ending.NotTyped fault) = some_span fault.span
span_of (ending.ExecFailed span) = Some span
span_of (ending.ExecSkipped span) = Some span
span_of (ending.NotLowered reason) = adt_span reason
span_of (ending.NotTagged span) = Some span
span_of ending.Completed = None
span_of (ending.NoCompletion pairs) = None
span_of (ending.SpentRounds pairs best) = None
span_of (ending.SpentConflicts pairs query formula log best) = None
span_of ending.HelpShown = None
span_of ending.VersionShown = None
span_of ending.ExecDone = None
span_of ending.Lowered = None
span_of ending.Pruned = None
span_of ending.Listed = None
span_of ending.Explained = None
span_of ending.Met = None
span_of ending.NotALine = None
span_of (ending.TooLarge reason) = None
span_of (ending.NotRun reason) = None
span_of (ending.NotFilled fault) = None
span_of ending.ReadFault = None
span_of ending.WriteFault = None
span_of ending.TooLong = None
span_of ending.Memory = None
span_of ending.Accepted = None
span_of (ending.Rejected why) = None
span_of (ending.NotCertificate fault) = None

-- Explanations

-- what is shown of the bytes of a span, where they begin in the text or at its end
abbrev pub IsShown : List ℕ → Span → Option Spot → Type 0
IsShown text span None = length text < span.from
IsShown text span (Some spot) = (span.from ≤ length text) × IsSpotOf text span.from span.to spot

-- what is shown of a text: the bytes that an ending names, where it names some
abbrev pub IsSpot : List ℕ → Option Span → Option Spot → Type 0
IsSpot text None spot = spot ≡ None
IsSpot text (Some span) spot = IsShown text span spot

-- an explanation of an ending on a text shows the bytes that the ending names, and has notes for its title and behind it
pub record IsExplanation (text : List ℕ) (ending : Ending) (explanation : Explanation) : Type 0 where
  pub spot : IsSpot text (span_of ending) explanation.spot
  pub title : list_all is_note explanation.title.bytes.items ≡ true
  pub notes : list_all is_note explanation.notes.bytes.items ≡ true

-- Layout

-- the place in front of the title
abbrev pub head_text : Option Spot → List ℕ
head_text None = []
head_text (Some spot) = place_text spot.place ++ codes ": "

-- the line of the place, with its mark
abbrev pub shown_text : Option Spot → List ℕ
shown_text None = []
shown_text (Some spot) = excerpt_text spot

-- the title as a line, behind its place; nothing where there is none
abbrev pub title_text : Option Spot → List ℕ → List ℕ
title_text spot [] = []
title_text spot (b ∷ bs) = head_text spot ++ (b ∷ bs) ++ 10 ∷ []

-- the title with its place, the line of the place, the notes
abbrev pub layout : Explanation → List ℕ
layout e = title_text e.spot e.title.bytes.items ++ shown_text e.spot ++ e.notes.bytes.items

-- what is written of an ending on a text: the layout of an explanation; no byte of it controls a terminal but a tab and a line
-- feed, and it is ASCII where the text is
pub record IsExplained (text : List ℕ) (ending : Ending) (out : List ℕ) : Type 0 where
  pub explanation : Explanation
  pub explains : IsExplanation text ending explanation
  pub written : out ≡ layout explanation
  pub quiet : list_all is_quiet out ≡ true
  pub ascii : IsAscii text → IsAscii out
