-- Of each text one thing holds with a line `lower`: the text of its plain form is written, or one reason why none is.
use Rattle.std.proofs.Common.{◌≡◌, ℕ, List, Option, Some, None, refl, sym, ap, subst, ◌∙◌}
use Rattle.std.specs.Prelude.{Result, Ok, Err, IfOk, IfErr, MatchResult}
use Rattle.sk_base.specs.declared.span.Span.{Span}
use Rattle.sk_base.specs.declared.bounds.Bounds.{Bounds}
use Rattle.sk_tree.specs.declared.token.Token.{Token}
use Rattle.sk_tree.specs.declared.item.Tree.{Tree}
use Rattle.sk_tree.specs.Tokens.{AreTokens, BadByte, OpenComment, LiteralTooLarge, OpenString}
use Rattle.sk_tree.specs.Reads.{HasTooManyStrings, HasBadAlternative}
use Rattle.sk_lexer.specs.declared.fault.LexFault.{LexFault}
use Rattle.sk_lexer.specs.declared.fault.LexFault.TheVariants as lex
use Rattle.sk_lexer.proofs.Pieces.{one_list, not_both}
use Rattle.sk_parser_laws.specs.Laws.{ReadsWithin}
use Rattle.sk_parser_laws.proofs.ReadLaws.{one}
use Rattle.sk_parser.specs.declared.fault.ParseFault.{ParseFault}
use Rattle.sk_parser.specs.declared.fault.ParseFault.TheVariants as parse
use Rattle.sk_parser.specs.Parses.{IsTreeOf, ReadsWithTooMany, ReadsWithBad}
use Rattle.sk_prog.specs.declared.prog.Prog.{Prog}
use Rattle.sk_types_rules.specs.Types.{Types}
use Rattle.sk_types_laws.proofs.WholeComplete.{once}
use Rattle.sk_print.specs.Layout.{layout}
use Rattle.sk_opts.specs.declared.line.Set.{Set}
use Rattle.sk_opts.specs.BoundsOf.{bounds_of}
use Rattle.sk_adt.specs.declared.algebraic.AdtFault.{AdtFault}
use Rattle.sk_adt.specs.declared.algebraic.Lowered.{Lowered}
use Rattle.sk_adt.specs.Lowering.{lowered}
use Rattle.sk_adt_tags.specs.Tags.{first, breaks}
use Rattle.sk_front.specs.declared.fault.TextFault.TheVariants.{Lex, Parse}
use Rattle.sk_front.specs.declared.fault.SketchFault.{SketchFault}
use Rattle.sk_front.specs.declared.fault.SketchFault.TheVariants as fault
use Rattle.sk_front.specs.Texts.{IsLexFault, IsSameKind}
use Rattle.sk_front.specs.Reading.{Refuses}
use Rattle.sk_front.specs.Front.{IsSame, IsCause, IsToldAs, IsMemory}
use Rattle.sk_front.proofs.TextLaws.{same_fault}
use Rattle.sk_adt_text.specs.declared.lowering.Lowering.{Lowering}
use Rattle.sk_adt_text.specs.declared.lowering.Lowering.TheVariants as lowering
use Rattle.sk_adt_text.specs.PlainTexts.{MeansProgram, MeansNone, IsPlainForm, HasNoPlainForm, HasPlainForm, IsTextOf, IsUntagged, IsLoweredText, IsNotTagged, IsLowering, IsFaultOfPlain, IsFaultOfLowering, IsWrittenAs}

-- Plain forms

same_ok : (r : Result Lowered AdtFault) (a b : Lowered) → r ≡ Ok a → r ≡ Ok b → a ≡ b
same_ok r a b x y = cc (x, y)

same_err : (r : Result Lowered AdtFault) (f g : AdtFault) → r ≡ Err f → r ≡ Err g → f ≡ g
same_err r f g x y = cc (x, y)

ok_or_err : (r : Result Lowered AdtFault) (a : Lowered) (f : AdtFault) → r ≡ Ok a → r ≡ Err f → ⊥
ok_or_err r a f x y = cc (x, y)

module _ (text : List ℕ) where
  pub one_form : (a b : Lowered) → IsPlainForm text a → IsPlainForm text b → a ≡ b
  one_form a b x y = same_ok (lowered x.tokens) a b x.lowered_is (ap lowered (one_list text x.tokens y.tokens x.lexed y.lexed) ∙ y.lowered_is)

  pub one_reason : (f g : AdtFault) → HasNoPlainForm text f → HasNoPlainForm text g → f ≡ g
  one_reason f g x y = same_err (lowered x.tokens) f g x.lowered_is (ap lowered (one_list text x.tokens y.tokens x.lexed y.lexed) ∙ y.lowered_is)

  pub form_or_reason : (a : Lowered) (f : AdtFault) → IsPlainForm text a → HasNoPlainForm text f → ⊥
  form_or_reason a f x y = ok_or_err (lowered x.tokens) a f x.lowered_is (ap lowered (one_list text x.tokens y.tokens x.lexed y.lexed) ∙ y.lowered_is)

  -- what holds of the plain form holds of this one
  moved : (Holds : Lowered → Type 0) (a : Lowered) → IsPlainForm text a → HasPlainForm text Holds → Holds a
  moved Holds a x y = subst Holds (one_form y.form a y.is_form x) y.holds

  no_lex : (ts : List Token) (f : LexFault) → AreTokens text ts → IsLexFault f text → ⊥
  no_lex ts (lex.BadByte at) lexed h = not_both text ts BadByte at lexed h
  no_lex ts (lex.OpenComment at) lexed h = not_both text ts OpenComment at lexed h
  no_lex ts (lex.LiteralTooLarge at) lexed h = not_both text ts LiteralTooLarge at lexed h
  no_lex ts (lex.OpenString at) lexed h = not_both text ts OpenString at lexed h
  no_lex ts lex.Memory lexed h = absurd h

  lex_or_form : (f : LexFault) (a : Lowered) → IsLexFault f text → IsPlainForm text a → ⊥
  lex_or_form f a x y = no_lex y.tokens f y.lexed x

  lex_or_reason : (f : LexFault) (g : AdtFault) → IsLexFault f text → HasNoPlainForm text g → ⊥
  lex_or_reason f g x y = no_lex y.tokens f y.lexed x

-- What tokens mean

module _ (set : Set) (ts : List Token) where
  within : (tree : Tree) → IsTreeOf ts tree → ReadsWithin ts tree
  within tree is = record { reads = is.reads; within = is.within }

  one_tree : (a b : Tree) → IsTreeOf ts a → IsTreeOf ts b → a ≡ b
  one_tree a b x y = one ts a b (within a x) (within b y)

  tree_or_refused : (tree : Tree) (f : ParseFault) → IsTreeOf ts tree → Refuses f ts → ⊥
  tree_or_refused tree (parse.NoReading at) x y = y.cause tree (within tree x)
  tree_or_refused tree (parse.TooManyStrings at) x y = x.few (subst HasTooManyStrings (one ts y.cause.0 tree y.cause.1 (within tree x)) y.cause.2)
  tree_or_refused tree (parse.BadAlternative at) x y = x.good (subst HasBadAlternative (one ts y.cause.0 tree y.cause.1 (within tree x)) y.cause.3)
  tree_or_refused tree parse.Memory x y = absurd y

  many_or_bad : ReadsWithTooMany ts → ReadsWithBad ts → ⊥
  many_or_bad x y = y.2 (subst HasTooManyStrings (one ts x.0 y.0 x.1 y.1) x.2)

  same_refusal : (f g : ParseFault) → Refuses f ts → Refuses g ts → IsSameKind f g
  same_refusal (parse.NoReading m) (parse.NoReading n) x y = tt
  same_refusal (parse.TooManyStrings m) (parse.TooManyStrings n) x y = tt
  same_refusal (parse.BadAlternative m) (parse.BadAlternative n) x y = tt
  same_refusal (parse.NoReading m) (parse.TooManyStrings n) x y = absurd (x.cause y.cause.0 y.cause.1)
  same_refusal (parse.NoReading m) (parse.BadAlternative n) x y = absurd (x.cause y.cause.0 y.cause.1)
  same_refusal (parse.TooManyStrings m) (parse.NoReading n) x y = absurd (y.cause x.cause.0 x.cause.1)
  same_refusal (parse.BadAlternative m) (parse.NoReading n) x y = absurd (y.cause x.cause.0 x.cause.1)
  same_refusal (parse.TooManyStrings m) (parse.BadAlternative n) x y = absurd (many_or_bad x.cause y.cause)
  same_refusal (parse.BadAlternative m) (parse.TooManyStrings n) x y = absurd (many_or_bad y.cause x.cause)
  same_refusal parse.Memory g x y = absurd x
  same_refusal f parse.Memory x y = absurd y

  types_of : (t u : Tree) (b c : Bounds) (p : Prog) → t ≡ u → b ≡ c → Types t b p → Types u c p
  types_of t u b c p same given types = subst (λ x. Types u x p) given (subst (λ s. Types s b p) same types)

  pub one_program : (t u : Tree) (b c : Bounds) (p q : Prog) → MeansProgram set ts t b p → MeansProgram set ts u c q → p ≡ q
  one_program t u b c p q x y =
      let same : t ≡ u = one_tree t u x.reads y.reads in
      let given : b ≡ c = x.given ∙ ap (bounds_of set) same ∙ sym y.given in
      once c u p q (types_of t u b c p same given x.types) y.types

  program_or_none : (t : Tree) (b : Bounds) (p : Prog) → MeansProgram set ts t b p → MeansNone set ts → ⊥
  program_or_none t b p x y =
      let same : t ≡ y.tree = one_tree t y.tree x.reads y.reads in
      y.none p (types_of t y.tree b (bounds_of set y.tree) p same (x.given ∙ ap (bounds_of set) same) x.types)

  abbrev Cause : SketchFault → Type 0
  Cause = IsCause (λ f. IsFaultOfPlain set f ts)

  program_or_cause : (t : Tree) (b : Bounds) (p : Prog) (f : SketchFault) → MeansProgram set ts t b p → Cause f → ⊥
  program_or_cause t b p (fault.NotText (Lex a)) x y = absurd y
  program_or_cause t b p (fault.NotText (Parse a)) x y = tree_or_refused t a x.reads y
  program_or_cause t b p (fault.NotTyped a) x y = program_or_none t b p x y
  program_or_cause t b p (fault.TooLarge a) x y = absurd y
  program_or_cause t b p fault.Memory x y = absurd y

  one_plain_cause : (f g : SketchFault) → Cause f → Cause g → IsSame f g
  one_plain_cause (fault.NotText (Parse a)) (fault.NotText (Parse b)) x y = same_refusal a b x y
  one_plain_cause (fault.NotText (Parse a)) (fault.NotTyped b) x y = absurd (tree_or_refused y.tree a y.reads x)
  one_plain_cause (fault.NotTyped a) (fault.NotText (Parse b)) x y = absurd (tree_or_refused x.tree b x.reads y)
  one_plain_cause (fault.NotTyped a) (fault.NotTyped b) x y = tt
  one_plain_cause (fault.NotText (Lex a)) g x y = absurd x
  one_plain_cause (fault.TooLarge a) g x y = absurd x
  one_plain_cause fault.Memory g x y = absurd x
  one_plain_cause f (fault.NotText (Lex b)) x y = absurd y
  one_plain_cause f (fault.TooLarge b) x y = absurd y
  one_plain_cause f fault.Memory x y = absurd y

-- What a plain form comes to

same_some : (o : Option Span) (s t : Span) → o ≡ Some s → o ≡ Some t → s ≡ t
same_some o s t x y = cc (x, y)

none_or_some : (o : Option Span) (s : Span) → o ≡ None → o ≡ Some s → ⊥
none_or_some o s x y = cc (x, y)

module _ (set : Set) (form : Lowered) where
  one_span : (s t : Span) → IsUntagged set s form → IsUntagged set t form → s ≡ t
  one_span s t x y =
      let same : x.prog ≡ y.prog = one_program set form.tokens x.tree y.tree x.bounds y.bounds x.prog y.prog x.means y.means in
      same_some (first (breaks form.types x.prog)) s t x.first_is (ap (λ p. first (breaks form.types p)) same ∙ y.first_is)

  text_or_span : (out : List ℕ) (s : Span) → IsTextOf set out form → IsUntagged set s form → ⊥
  text_or_span out s x y =
      let same : x.prog ≡ y.prog = one_program set form.tokens x.tree y.tree x.bounds y.bounds x.prog y.prog x.means y.means in
      none_or_some (first (breaks form.types x.prog)) s (ap first x.tagged) (ap (λ p. first (breaks form.types p)) same ∙ y.first_is)

  one_written : (a b : List ℕ) → IsTextOf set a form → IsTextOf set b form → a ≡ b
  one_written a b x y =
      let same : x.prog ≡ y.prog = one_program set form.tokens x.tree y.tree x.bounds y.bounds x.prog y.prog x.means y.means in
      x.is ∙ ap layout same ∙ sym y.is

-- Texts

module _ (set : Set) (text : List ℕ) where
  abbrev CauseOfText : SketchFault → Type 0
  CauseOfText = IsCause (IsFaultOfLowering set text)

  -- a cause, where the text has this plain form: it is one of its tokens
  of_form : (a : Lowered) (f : SketchFault) → IsPlainForm text a → CauseOfText f → Cause set a.tokens f
  of_form a (fault.NotText (Lex b)) x y = absurd (lex_or_form text b a y x)
  of_form a (fault.NotText (Parse b)) x y = moved text (λ form. IsFaultOfPlain set (fault.NotText (Parse b)) form.tokens) a x y
  of_form a (fault.NotTyped b) x y = moved text (λ form. IsFaultOfPlain set (fault.NotTyped b) form.tokens) a x y
  of_form a (fault.TooLarge b) x y = moved text (λ form. IsFaultOfPlain set (fault.TooLarge b) form.tokens) a x y
  of_form a fault.Memory x y = absurd y

  one_cause : (f g : SketchFault) → CauseOfText f → CauseOfText g → IsSame f g
  one_cause (fault.NotText (Lex a)) (fault.NotText (Lex b)) x y = same_fault text (Lex a) (Lex b) x y
  one_cause (fault.NotText (Lex a)) (fault.NotText (Parse b)) x y = absurd (lex_or_form text a y.form x y.is_form)
  one_cause (fault.NotText (Lex a)) (fault.NotTyped b) x y = absurd (lex_or_form text a y.form x y.is_form)
  one_cause (fault.NotText (Lex a)) (fault.TooLarge b) x y = absurd (lex_or_form text a y.form x y.is_form)
  one_cause (fault.NotText (Parse a)) g x y = one_plain_cause set x.form.tokens (fault.NotText (Parse a)) g x.holds (of_form x.form g x.is_form y)
  one_cause (fault.NotTyped a) g x y = one_plain_cause set x.form.tokens (fault.NotTyped a) g x.holds (of_form x.form g x.is_form y)
  one_cause (fault.TooLarge a) g x y = absurd x.holds
  one_cause fault.Memory g x y = absurd x
  one_cause f fault.Memory x y = absurd y

  pub reason_or_cause : (r : AdtFault) (f : SketchFault) → HasNoPlainForm text r → CauseOfText f → ⊥
  reason_or_cause r (fault.NotText (Lex a)) x y = lex_or_reason text a r y x
  reason_or_cause r (fault.NotText (Parse a)) x y = form_or_reason text y.form r y.is_form x
  reason_or_cause r (fault.NotTyped a) x y = form_or_reason text y.form r y.is_form x
  reason_or_cause r (fault.TooLarge a) x y = form_or_reason text y.form r y.is_form x
  reason_or_cause r fault.Memory x y = absurd y

  pub span_or_cause : (s : Span) (f : SketchFault) → IsNotTagged set text s → CauseOfText f → ⊥
  span_or_cause s f x y = let h = x.holds in program_or_cause set x.form.tokens h.tree h.bounds h.prog f h.means (of_form x.form f x.is_form y)

  pub text_or_cause : (out : List ℕ) (f : SketchFault) → IsLoweredText set text out → CauseOfText f → ⊥
  text_or_cause out f x y = let h = x.holds in program_or_cause set x.form.tokens h.tree h.bounds h.prog f h.means (of_form x.form f x.is_form y)

  pub one_span_of : (s t : Span) → IsNotTagged set text s → IsNotTagged set text t → s ≡ t
  one_span_of s t x y = one_span set x.form s t x.holds (moved text (IsUntagged set t) x.form x.is_form y)

  pub text_or_span_of : (out : List ℕ) (s : Span) → IsLoweredText set text out → IsNotTagged set text s → ⊥
  text_or_span_of out s x y = text_or_span set x.form out s x.holds (moved text (IsUntagged set s) x.form x.is_form y)

  pub one_text_of : (a b : List ℕ) → IsLoweredText set text a → IsLoweredText set text b → a ≡ b
  one_text_of a b x y = one_written set x.form a b x.holds (moved text (IsTextOf set b) x.form x.is_form y)

  -- The answer, in the other direction

  lowering_or_cause : (a : Lowering) (f : SketchFault) → IsLowering set text a → CauseOfText f → ⊥
  lowering_or_cause (lowering.NotLowered r) f x y = reason_or_cause r f x y
  lowering_or_cause (lowering.NotTagged s) f x y = span_or_cause s f x y
  lowering_or_cause (lowering.Plain out) f x y = text_or_cause out.items f x y

  told_as : (told f : SketchFault) → CauseOfText told → IsFaultOfLowering set text f → IsToldAs told f
  told_as told (fault.NotText a) x y = one_cause told (fault.NotText a) x y
  told_as told (fault.NotTyped a) x y = one_cause told (fault.NotTyped a) x y
  told_as told (fault.TooLarge a) x y = one_cause told (fault.TooLarge a) x y
  told_as told fault.Memory x y = tt

  is_memory : (f : SketchFault) → (CauseOfText f → ⊥) → IsFaultOfLowering set text f → IsMemory f
  is_memory (fault.NotText a) none is = none is
  is_memory (fault.NotTyped a) none is = none is
  is_memory (fault.TooLarge a) none is = none is
  is_memory fault.Memory none is = tt

  reason_is : (r : AdtFault) (a : Lowering) → HasNoPlainForm text r → IsLowering set text a → a ≡ lowering.NotLowered r
  reason_is r (lowering.NotLowered q) x y = ap lowering.NotLowered (one_reason text q r y x)
  reason_is r (lowering.NotTagged s) x y = absurd (form_or_reason text y.form r y.is_form x)
  reason_is r (lowering.Plain out) x y = absurd (form_or_reason text y.form r y.is_form x)

  span_is : (s : Span) (a : Lowering) → IsNotTagged set text s → IsLowering set text a → a ≡ lowering.NotTagged s
  span_is s (lowering.NotLowered q) x y = absurd (form_or_reason text x.form q x.is_form y)
  span_is s (lowering.NotTagged t) x y = ap lowering.NotTagged (one_span_of t s y x)
  span_is s (lowering.Plain out) x y = absurd (text_or_span_of out.items s y x)

  text_is : (out : List ℕ) (a : Lowering) → IsLoweredText set text out → IsLowering set text a → IsWrittenAs out a
  text_is out (lowering.NotLowered q) x y = form_or_reason text x.form q x.is_form y
  text_is out (lowering.NotTagged t) x y = text_or_span_of out t x y
  text_is out (lowering.Plain written) x y = one_text_of written.items out y x

  taken_as : (That : Lowering → Type 0) → ((a : Lowering) → IsLowering set text a → That a) → ((f : SketchFault) → CauseOfText f → ⊥) → (r : Result Lowering SketchFault) → IfOk r (IsLowering set text) → IfErr r (IsFaultOfLowering set text) → MatchResult r That IsMemory
  taken_as That that none (Ok a) found is = that a found
  taken_as That that none (Err f) found is = is_memory f (none f) is

  pub only_lowering : (r : Result Lowering SketchFault) → IfOk r (IsLowering set text) → IfErr r (IsFaultOfLowering set text) → (told : SketchFault) → CauseOfText told → MatchResult r (λ _. ⊥) (IsToldAs told)
  only_lowering (Ok a) found is told cause = lowering_or_cause a told found cause
  only_lowering (Err f) found is told cause = told_as told f cause is

  pub reason_taken : (r : Result Lowering SketchFault) → IfOk r (IsLowering set text) → IfErr r (IsFaultOfLowering set text) → (q : AdtFault) → HasNoPlainForm text q → MatchResult r (λ told. told ≡ lowering.NotLowered q) IsMemory
  reason_taken r found is q x = taken_as (λ told. told ≡ lowering.NotLowered q) (λ a y. reason_is q a x y) (λ f y. reason_or_cause q f x y) r found is

  pub span_taken : (r : Result Lowering SketchFault) → IfOk r (IsLowering set text) → IfErr r (IsFaultOfLowering set text) → (s : Span) → IsNotTagged set text s → MatchResult r (λ told. told ≡ lowering.NotTagged s) IsMemory
  span_taken r found is s x = taken_as (λ told. told ≡ lowering.NotTagged s) (λ a y. span_is s a x y) (λ f y. span_or_cause s f x y) r found is

  pub text_taken : (r : Result Lowering SketchFault) → IfOk r (IsLowering set text) → IfErr r (IsFaultOfLowering set text) → (out : List ℕ) → IsLoweredText set text out → MatchResult r (IsWrittenAs out) IsMemory
  text_taken r found is out x = taken_as (IsWrittenAs out) (λ a y. text_is out a x y) (λ f y. text_or_cause out f x y) r found is
