-- What a line `lower` does for a text: the plain tokens of the text read as a tree that means a program, and the text of that program is written; or why
-- none is.
use Rattle.std.specs.Prelude.{ℕ, ⊤, ◌≤◌, ◌≡◌, ◌⊎◌, IsTrue, List, length, Some, Result, Ok, Err}
use Rattle.sk_base.specs.declared.span.Span.{Span}
use Rattle.sk_base.specs.declared.bounds.Bounds.{Bounds}
use Rattle.sk_tree.specs.declared.token.Token.{Token}
use Rattle.sk_tree.specs.declared.item.Tree.{Tree}
use Rattle.sk_tree.specs.Tokens.{AreTokens}
use Rattle.sk_parser.specs.Parses.{IsTreeOf}
use Rattle.sk_prog.specs.declared.prog.Prog.{Prog}
use Rattle.sk_types_rules.specs.Types.{Types}
use Rattle.sk_types.specs.Places.{tree_has, nowhere}
use Rattle.sk_print.specs.Layout.{layout}
use Rattle.sk_opts.specs.declared.line.Set.{Set}
use Rattle.sk_opts.specs.BoundsOf.{bounds_of}
use Rattle.sk_adt.specs.declared.algebraic.Algebraic.{Algebraic}
use Rattle.sk_adt.specs.declared.algebraic.AdtFault.{AdtFault}
use Rattle.sk_adt.specs.declared.algebraic.Lowered.{Lowered}
use Rattle.sk_adt.specs.Lowering.{lowered}
use Rattle.sk_adt_tags.specs.Tags.{first, breaks, Tagged}
use Rattle.sk_front.specs.declared.fault.TextFault.TheVariants.{Lex, Parse}
use Rattle.sk_front.specs.declared.fault.SketchFault.{SketchFault}
use Rattle.sk_front.specs.declared.fault.SketchFault.TheVariants as fault
use Rattle.sk_front.specs.declared.program.Typed.{Typed}
use Rattle.sk_front.specs.Texts.{most_bytes, IsLexFault, byte_of}
use Rattle.sk_front.specs.Reading.{Refuses}
use Rattle.sk_adt_text.specs.declared.lowering.Lowering.{Lowering}
use Rattle.sk_adt_text.specs.declared.lowering.Lowering.TheVariants as lowering

-- Tokens

-- These tokens read as this tree; these are the bounds that the options and the tree give; and the tree means this program under them.
pub record MeansProgram (set : Set) (tokens : List Token) (tree : Tree) (bounds : Bounds) (prog : Prog) : Type 0 where
  pub reads : IsTreeOf tokens tree
  pub given : bounds ≡ bounds_of set tree
  pub types : Types tree bounds prog

-- They read as a tree that means no program.
pub record MeansNone (set : Set) (tokens : List Token) : Type 0 where
  pub tree : Tree
  pub reads : IsTreeOf tokens tree
  pub none : (prog : Prog) → Types tree (bounds_of set tree) prog → ⊥

-- The span is that of an expression or a statement of the tree as which they read, or it is 0 to 0, which stands for no place; and it lies within so many
-- bytes.
pub record HasSpan (tokens : List Token) (bytes : ℕ) (span : Span) : Type 0 where
  pub tree : Tree
  pub reads : IsTreeOf tokens tree
  pub place : IsTrue (tree_has span tree) ⊎ (span ≡ nowhere)
  pub order : span.from ≤ span.to
  pub within : span.to ≤ bytes

-- Plain forms

-- The text is short enough and has tokens, and this is their plain form, with the algebraic types of the text.
pub record IsPlainForm (text : List ℕ) (form : Lowered) : Type 0 where
  pub short : length text ≤ most_bytes
  pub tokens : List Token
  pub lexed : AreTokens text tokens
  pub lowered_is : lowered tokens ≡ Ok form

-- The text is short enough and has tokens, and they have no plain form, for this reason.
pub record HasNoPlainForm (text : List ℕ) (reason : AdtFault) : Type 0 where
  pub short : length text ≤ most_bytes
  pub tokens : List Token
  pub lexed : AreTokens text tokens
  pub lowered_is : lowered tokens ≡ Err reason

-- The text has a plain form, of which this holds.
pub record HasPlainForm (text : List ℕ) (Holds : Lowered → Type 0) : Type 0 where
  pub form : Lowered
  pub is_form : IsPlainForm text form
  pub holds : Holds form

-- Programs

-- The tokens of this form mean a program, which is tagged, and this is its text.
pub record IsTextOf (set : Set) (out : List ℕ) (form : Lowered) : Type 0 where
  pub tree : Tree
  pub bounds : Bounds
  pub prog : Prog
  pub means : MeansProgram set form.tokens tree bounds prog
  pub tagged : Tagged form.types prog
  pub is : out ≡ layout prog

-- They mean a program, of which this is the first span that breaks a rule of tags.
pub record IsUntagged (set : Set) (span : Span) (form : Lowered) : Type 0 where
  pub tree : Tree
  pub bounds : Bounds
  pub prog : Prog
  pub means : MeansProgram set form.tokens tree bounds prog
  pub first_is : first (breaks form.types prog) ≡ Some span

-- Texts

-- a line `lower` writes this for the text, with these options
abbrev pub IsLoweredText : Set → List ℕ → List ℕ → Type 0
IsLoweredText set text out = HasPlainForm text (IsTextOf set out)

-- the program of its plain form is not tagged: this span is the first that breaks a rule
abbrev pub IsNotTagged : Set → List ℕ → Span → Type 0
IsNotTagged set text span = HasPlainForm text (IsUntagged set span)

-- what a text comes to with a line `lower`
abbrev pub IsLowering : Set → List ℕ → Lowering → Type 0
IsLowering set text (lowering.NotLowered reason) = HasNoPlainForm text reason
IsLowering set text (lowering.NotTagged span) = IsNotTagged set text span
IsLowering set text (lowering.Plain out) = IsLoweredText set text out.items

-- Refusals. Each cause excludes the others, and each excludes that the text comes as far as the call that tells it. Want of memory has no cause.

-- why plain tokens mean no program
abbrev pub IsFaultOfPlain : Set → SketchFault → List Token → Type 0
IsFaultOfPlain set (fault.NotText (Parse told)) tokens = Refuses told tokens
IsFaultOfPlain set (fault.NotTyped told) tokens = MeansNone set tokens
IsFaultOfPlain set fault.Memory tokens = ⊤
IsFaultOfPlain set _ tokens = ⊥

-- Why nothing is said of a text but that it is refused: it has no tokens, or those of its plain form mean no program.
abbrev pub IsFaultOfLowering : Set → List ℕ → SketchFault → Type 0
IsFaultOfLowering set text (fault.NotText (Lex told)) = IsLexFault told text
IsFaultOfLowering set text fault.Memory = ⊤
IsFaultOfLowering set text told = HasPlainForm text (λ form. IsFaultOfPlain set told form.tokens)

-- Where a fault is told: at a byte of the text or at its end, or, one of types, on a span of the tree.

abbrev pub IsPlacedIn : ℕ → SketchFault → List Token → Type 0
IsPlacedIn bytes (fault.NotText told) tokens = byte_of told ≤ bytes
IsPlacedIn bytes (fault.NotTyped told) tokens = HasSpan tokens bytes told.span
IsPlacedIn bytes _ tokens = ⊤

abbrev pub IsPlacedFault : List ℕ → SketchFault → Type 0
IsPlacedFault text (fault.NotText told) = byte_of told ≤ length text
IsPlacedFault text (fault.NotTyped told) = HasPlainForm text (λ form. HasSpan form.tokens (length text) told.span)
IsPlacedFault text _ = ⊤

-- Parts of the answer

-- what the tokens of a text come to
abbrev pub IsForm : List ℕ → Result Lowered AdtFault → Type 0
IsForm text (Ok form) = IsPlainForm text form
IsForm text (Err reason) = HasNoPlainForm text reason

-- why a text has no tokens
abbrev pub IsFaultOfBytes : List ℕ → SketchFault → Type 0
IsFaultOfBytes text (fault.NotText (Lex told)) = IsLexFault told text
IsFaultOfBytes text fault.Memory = ⊤
IsFaultOfBytes text _ = ⊥

-- what tokens mean
abbrev pub IsMeaning : Set → List Token → Typed → Type 0
IsMeaning set tokens typed = MeansProgram set tokens typed.tree typed.bounds typed.prog

-- what a program comes to with these types
abbrev pub IsWritten : List Algebraic → Prog → Lowering → Type 0
IsWritten types prog (lowering.NotLowered reason) = ⊥
IsWritten types prog (lowering.NotTagged span) = first (breaks types prog) ≡ Some span
IsWritten types prog (lowering.Plain out) = Tagged types prog × (out.items ≡ layout prog)

-- what a plain form comes to
abbrev pub IsOfForm : Set → Lowered → Lowering → Type 0
IsOfForm set form (lowering.NotLowered reason) = ⊥
IsOfForm set form (lowering.NotTagged span) = IsUntagged set span form
IsOfForm set form (lowering.Plain out) = IsTextOf set out.items form

-- Answers by their causes

-- a text is written, and it is this one
abbrev pub IsWrittenAs : List ℕ → Lowering → Type 0
IsWrittenAs out (lowering.NotLowered reason) = ⊥
IsWrittenAs out (lowering.NotTagged span) = ⊥
IsWrittenAs out (lowering.Plain written) = written.items ≡ out
