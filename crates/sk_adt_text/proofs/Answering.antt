-- What the steps of the code answer, of the text.
use Rattle.std.proofs.Common.{◌≡◌, ℕ, ◌≤◌, ◌⊎◌, inl, inr, List, length, sym, subst, IsTrue}
use Rattle.std.specs.Prelude.{Result, Ok, Err}
use Rattle.sk_tree.specs.declared.token.Token.{Token}
use Rattle.sk_tree.specs.Tokens.{AreTokens}
use Rattle.sk_tree.specs.declared.item.Tree.{Tree}
use Rattle.sk_types_laws.specs.declared.fault.TypeFault.{TypeFault}
use Rattle.sk_types_laws.specs.declared.fault.Typing.{Typing}
use Rattle.sk_types_laws.specs.declared.fault.Typing.TheVariants as typing
use Rattle.sk_types.specs.Places.{tree_has, nowhere, IsPlaced}
use Rattle.sk_parser.specs.Parses.{IsTreeOf}
use Rattle.sk_opts.specs.declared.line.Set.{Set}
use Rattle.sk_adt.specs.declared.algebraic.AdtFault.{AdtFault}
use Rattle.sk_adt.specs.declared.algebraic.Lowered.{Lowered}
use Rattle.sk_adt.specs.Lowering.{lowered}
use Rattle.sk_front.specs.declared.fault.TextFault.TheVariants.{Lex, Parse}
use Rattle.sk_front.specs.declared.fault.SketchFault.{SketchFault}
use Rattle.sk_front.specs.declared.fault.SketchFault.TheVariants as fault
use Rattle.sk_front.specs.declared.program.Typed.{Typed}
use Rattle.sk_front.specs.Reading.{IsFaultOfTokens}
use Rattle.sk_front.specs.Texts.{most_bytes}
use Rattle.sk_front.proofs.TextLaws.{byte_within}
use Rattle.sk_adt_text.specs.declared.lowering.Lowering.{Lowering}
use Rattle.sk_adt_text.specs.declared.lowering.Lowering.TheVariants as lowering
use Rattle.sk_adt_text.specs.PlainTexts.{HasSpan, IsPlainForm, IsLowering, IsFaultOfPlain, IsFaultOfLowering, IsPlacedIn, IsPlacedFault, IsForm, IsFaultOfBytes, IsMeaning, IsWritten, IsOfForm}

pub formed : (text : List ℕ) (ts : List Token) (r : Result Lowered AdtFault) → length text ≤ most_bytes → AreTokens text ts → lowered ts ≡ r → IsForm text r
formed text ts (Ok form) short lexed is = record { short = short; tokens = ts; lexed = lexed; lowered_is = is }
formed text ts (Err reason) short lexed is = record { short = short; tokens = ts; lexed = lexed; lowered_is = is }

module _ (set : Set) (text : List ℕ) where
  pub answered : (form : Lowered) (a : Lowering) → IsPlainForm text form → IsOfForm set form a → IsLowering set text a
  answered form (lowering.NotLowered r) x y = absurd y
  answered form (lowering.NotTagged s) x y = record { form = form; is_form = x; holds = y }
  answered form (lowering.Plain out) x y = record { form = form; is_form = x; holds = y }

  pub refused : (form : Lowered) (f : SketchFault) → IsPlainForm text form → IsFaultOfPlain set f form.tokens → IsFaultOfLowering set text f
  refused form (fault.NotText (Lex a)) x y = absurd y
  refused form (fault.NotText (Parse a)) x y = record { form = form; is_form = x; holds = y }
  refused form (fault.NotTyped a) x y = record { form = form; is_form = x; holds = y }
  refused form (fault.TooLarge a) x y = absurd y
  refused form fault.Memory x y = tt

  pub placed : (form : Lowered) (f : SketchFault) → IsPlainForm text form → IsPlacedIn (length text) f form.tokens → IsPlacedFault text f
  placed form (fault.NotText a) x y = y
  placed form (fault.NotTyped a) x y = record { form = form; is_form = x; holds = y }
  placed form (fault.TooLarge a) x y = tt
  placed form fault.Memory x y = tt

  -- a text without tokens
  pub undivided : (f : SketchFault) → IsFaultOfBytes text f → IsFaultOfLowering set text f
  undivided (fault.NotText (Lex a)) x = x
  undivided (fault.NotText (Parse a)) x = absurd x
  undivided (fault.NotTyped a) x = absurd x
  undivided (fault.TooLarge a) x = absurd x
  undivided fault.Memory x = tt

  pub undivided_at : (f : SketchFault) → IsFaultOfBytes text f → IsPlacedFault text f
  undivided_at (fault.NotText (Lex a)) x = byte_within text (Lex a) x
  undivided_at (fault.NotText (Parse a)) x = absurd x
  undivided_at (fault.NotTyped a) x = absurd x
  undivided_at (fault.TooLarge a) x = absurd x
  undivided_at fault.Memory x = tt

pub unread : (set : Set) (ts : List Token) (f : SketchFault) → IsFaultOfTokens ts f → IsFaultOfPlain set f ts
unread set ts (fault.NotText (Parse a)) x = x
unread set ts (fault.NotText (Lex a)) x = absurd x
unread set ts (fault.NotTyped a) x = absurd x
unread set ts (fault.TooLarge a) x = absurd x
unread set ts fault.Memory x = tt

pub of_program : (set : Set) (form : Lowered) (typed : Typed) (a : Lowering) → IsMeaning set form.tokens typed → IsWritten form.types typed.prog a → IsOfForm set form a
of_program set form typed (lowering.NotLowered r) x y = absurd y
of_program set form typed (lowering.NotTagged s) x y = record { tree = typed.tree; bounds = typed.bounds; prog = typed.prog; means = x; first_is = y }
of_program set form typed (lowering.Plain out) x y = record { tree = typed.tree; bounds = typed.bounds; prog = typed.prog; means = x; tagged = y.0; is = y.1 }

-- a fault of types that stands in the tree, or that is told without a place, and that lies within so many bytes
pub has_span : (ts : List Token) (bytes : ℕ) (tree : Tree) (f a g : TypeFault) (why : Typing) → IsTreeOf ts tree → why ≡ typing.Fault f → f ≡ a → IsPlaced tree why → (g.span ≡ a.span) ⊎ (g.span ≡ nowhere) → g.span.from ≤ g.span.to → g.span.to ≤ bytes → HasSpan ts bytes g.span
has_span ts bytes tree f a g why reads same also is (inl e) order within = record { tree = tree; reads = reads; place = subst (λ s. IsTrue (tree_has s tree) ⊎ (s ≡ nowhere)) (sym e) (subst (λ x. IsPlaced tree (typing.Fault x)) also (subst (IsPlaced tree) same is)); order = order; within = within }
has_span ts bytes tree f a g why reads same also is (inr e) order within = record { tree = tree; reads = reads; place = inr e; order = order; within = within }
