-- What a line `all` and a line `why` say, from what a call does for them.
use Rattle.std.proofs.Common.{◌≡◌, ℕ, ◌<◌, inl, inr, List, [], ◌∷◌, lit<, sym, ap, ◌∙◌, arith}
use Rattle.std.specs.Prelude.{IfSome, Contains}
use Rattle.std.proofs.lemmas.List.Elements.{All-contains}
use Rattle.sk_base.specs.declared.bounds.Bounds.{Bounds}
use Rattle.sk_model.specs.declared.expanded.Choice.{Choice}
use Rattle.sk_model.specs.declared.expanded.Expanded.{Expanded}
use Rattle.sk_model.specs.Parts.{value}
use Rattle.sk_model.specs.Stands.{SiteStands}
use Rattle.sk_opts.specs.declared.line.Set.{Set}
use Rattle.sk_opts.specs.declared.line.Line.TheVariants as line
use Rattle.sk_opts.specs.CommandLine.{IsLine}
use Rattle.sk_app_texts.specs.Messages.{refusal_status}
use Rattle.sk_front.specs.declared.fault.TextFault.{TextFault}
use Rattle.sk_front.specs.declared.fault.TextFault.TheVariants.{Lex, Parse}
use Rattle.sk_front.specs.declared.fault.SketchFault.{SketchFault}
use Rattle.sk_front.specs.declared.fault.SketchFault.TheVariants as fault
use Rattle.sk_lexer.specs.declared.fault.LexFault.TheVariants as lex
use Rattle.sk_parser.specs.declared.fault.ParseFault.TheVariants as parse
use Rattle.sk_expand_sizes.specs.declared.fault.SizeFault.TheVariants as size
use Rattle.sk_all_text.specs.Completions as listed
use Rattle.sk_all_text.specs.AllTexts.{TellsListing, IsListing}
use Rattle.sk_app.specs.declared.listing.Question.{Question}
use Rattle.sk_app.specs.declared.listing.Question.TheVariants as question
use Rattle.sk_app.specs.Questions.{Reply, OfList, OfReasons, OfCompletion, IsReply, IsExplained, IsMet, ending_with}
use Rattle.sk_app.specs.declared.ending.Ending.{Ending}
use Rattle.sk_app.specs.declared.ending.Ending.TheVariants as ending
use Rattle.sk_app.specs.Ending.{text_refusal, status_of}
use Rattle.sk_app.specs.Ends.{delivered, cut, no_room, Writes}
use Rattle.sk_app.specs.Effects.{refusal, unanswered, replied, Answers}
use Rattle.sk_app.specs.Call.{Effect}
use Rattle.sk_app.specs.Headline.{ForSketch}
use Rattle.sk_app.specs.Listings.{Completes, AreApart, IsList, IsExplanation, IsOne, Listings}
use Rattle.sk_app.proofs.SourceLaws.{came_failed, came_long, came_wanting, came_whole}
use Rattle.sk_app.proofs.QuestionLaws.{Came, told_by}
use Rattle.sk_app.proofs.EffectLaws.{of_asking}

-- Statuses of refusals

text_high : (fault : TextFault) → 9 < refusal_status (text_refusal fault)
text_high (Lex (lex.BadByte at)) = lit< tt
text_high (Lex (lex.OpenComment at)) = lit< tt
text_high (Lex (lex.LiteralTooLarge at)) = lit< tt
text_high (Lex (lex.OpenString at)) = lit< tt
text_high (Lex lex.Memory) = lit< tt
text_high (Parse (parse.NoReading at)) = lit< tt
text_high (Parse (parse.BadAlternative at)) = lit< tt
text_high (Parse (parse.TooManyStrings at)) = lit< tt
text_high (Parse parse.Memory) = lit< tt

refusal_high : (t : SketchFault) → 9 < status_of (refusal t)
refusal_high (fault.NotText told) = text_high told
refusal_high (fault.NotTyped told) = lit< tt
refusal_high (fault.TooLarge size.Copies) = lit< tt
refusal_high (fault.TooLarge size.Sites) = lit< tt
refusal_high (fault.TooLarge size.Steps) = lit< tt
refusal_high (fault.TooLarge size.News) = lit< tt
refusal_high (fault.TooLarge size.Memory) = lit< tt
refusal_high fault.Memory = lit< tt

-- a reply that is written, and the ending that it has
record Written (set : Set) (q : Question) (r : Ending) (f : Effect) (text : List ℕ) : Type 0 where
  pub reply : Reply
  pub is : r ≡ ending_with reply
  pub writes : Writes (IsReply set q text reply) f.held_old f.held_new

module _ (set : Set) (q : Question) (r : Ending) (f : Effect) (n : ℕ) (low : n < 10) (is : status_of r ≡ n) where
  high_not : {A : Type 0} (x : Ending) → 9 < status_of x → r ≡ x → A
  high_not x high e = let z : status_of x ≡ n = sym (ap status_of e) ∙ is in absurd (omega (arith, z, high, low))

  -- a line that ends with a status below 10 has written a reply
  replied_by : (text : List ℕ) → Came set q r f text → Written set q r f text
  replied_by text (came_failed e rose) = high_not ending.ReadFault (lit< tt) e
  replied_by text (came_long e over) = high_not ending.TooLong (lit< tt) e
  replied_by text (came_wanting e) = high_not ending.Memory (lit< tt) e
  replied_by text (came_whole short (unanswered t i at e same)) = high_not (refusal t) (refusal_high t) e
  replied_by text (came_whole short (replied p out i w)) = elim w [
    | delivered e y ↦ record { reply = p; is = e; writes = record { out = out; is = i; appends = y.appends } }
    | cut e y ↦ high_not ending.WriteFault (lit< tt) e
    | no_room e same ↦ high_not ending.Memory (lit< tt) e
  ]

-- Texts

apart_of : (e : Expanded) (cs : List Choice) → listed.AreApart e cs → AreApart e cs
apart_of e [] h = tt
apart_of e (c ∷ cs) h = (λ d within agree. (All-contains (listed.IsApart e c) cs d h.0 within).first agree, apart_of e cs h.1)

module _ (bounds : Bounds) (e : Expanded) (cs : List Choice) (are : listed.AreListedChoices e bounds cs) where
  each_of : (a : Choice) → Contains cs a → Completes bounds e a × ((i : ℕ) → (SiteStands e a.values i → ⊥) → value a.values i ≡ 0)
  each_of a within = let h = All-contains (listed.IsListedChoice e bounds) cs a are.each within in ((h.meeting.range, h.meeting.meets), h.canonical.is_zero)

list_in : (most : ℕ) (bounds : Bounds) (e : Expanded) (out : List ℕ) → TellsListing most out bounds e → IsList most bounds e out
list_in most bounds e out (inl h) = record {
  choices = h.choices;
  each = each_of bounds e h.choices h.listed;
  apart = apart_of e h.choices h.listed.apart;
  all_or_more = inl (h.is, h.few, λ b c. h.whole b (record { range = c.0; meets = c.1 }));
}
list_in most bounds e out (inr h) = record {
  choices = h.choices;
  each = each_of bounds e h.choices h.listed;
  apart = apart_of e h.choices h.listed.apart;
  all_or_more = inr (h.is, h.full, (h.other, (h.meeting.range, h.meeting.meets), h.unlisted));
}

list_of : (set : Set) (most : ℕ) (text out : List ℕ) → IsListing set most text out → ForSketch set (IsList most) text out
list_of set most text out i = record { bounds = i.bounds; e = i.e; only = i.only; holds = list_in most i.bounds i.e out i.holds }

explanation_of : (set : Set) (text out : List ℕ) → IsExplained set text out → ForSketch set IsExplanation text out
explanation_of set text out i =
    let h = i.holds in
    record {
      bounds = i.bounds;
      e = i.e;
      only = i.only;
      holds = record {
        none = λ a c. h.none a (record { range = c.0; meets = c.1 });
        inputs = h.inputs;
        text = h.is;
        are_inputs = h.explains.are_inputs;
        distinct = h.explains.distinct;
        refuted = λ a range passes. h.explains.none.none a (record { range = range; passes = passes });
        needed = λ k lt. let s = h.explains.needed k lt in (s.choice, s.passes.range, s.passes.passes);
      };
    }

one_of : (set : Set) (text out : List ℕ) → IsMet set text out → ForSketch set IsOne text out
one_of set text out i = let h = i.holds in record { bounds = i.bounds; e = i.e; only = i.only; holds = (h.choice, h.is, (h.meeting.range, h.meeting.meets)) }

module _ (r : Ending) (f : Effect) where
  abbrev Got : (Bounds → Expanded → List ℕ → Type 0) → Set → List ℕ → Type 0
  Got Kind set text = Writes (ForSketch set Kind text) f.held_old f.held_new

  as_list : (set : Set) (most : ℕ) (text : List ℕ) (p : Reply) → Writes (IsReply set (question.Which most) text p) f.held_old f.held_new → Got (IsList most) set text
  as_list set most text OfList w = record { out = w.out; is = list_of set most text w.out w.is; appends = w.appends }
  as_list set most text OfReasons w = absurd w.is
  as_list set most text OfCompletion w = absurd w.is

  as_explanation : (set : Set) (text : List ℕ) (p : Reply) → r ≡ ending_with p → status_of r ≡ 0 → Writes (IsReply set question.Why text p) f.held_old f.held_new → Got IsExplanation set text
  as_explanation set text OfList e is w = absurd w.is
  as_explanation set text OfReasons e is w = record { out = w.out; is = explanation_of set text w.out w.is; appends = w.appends }
  as_explanation set text OfCompletion e is w = let z : 7 ≡ 0 = sym (ap status_of e) ∙ is in absurd (omega (arith, z))

  as_one : (set : Set) (text : List ℕ) (p : Reply) → r ≡ ending_with p → status_of r ≡ 7 → Writes (IsReply set question.Why text p) f.held_old f.held_new → Got IsOne set text
  as_one set text OfList e is w = absurd w.is
  as_one set text OfReasons e is w = let z : 0 ≡ 7 = sym (ap status_of e) ∙ is in absurd (omega (arith, z))
  as_one set text OfCompletion e is w = record { out = w.out; is = one_of set text w.out w.is; appends = w.appends }

module _ {words : List (List ℕ)} {r : Ending} {f : Effect} (a : Answers words r f) where
  -- a line that is not known for want of memory ends otherwise
  wanted_not : {A : Type 0} (n : ℕ) → n < 10 → r ≡ ending.Memory → status_of r ≡ n → A
  wanted_not n low m is = let z : 17 ≡ n = sym (ap status_of m) ∙ is in absurd (omega (arith, z, low))

  lists : (set : Set) (most : ℕ) → IsLine words (line.All set most) → status_of r ≡ 0 → IfSome f.left_old (Got r f (IsList most) set)
  lists set most h is = elim (of_asking a set (question.Which most) h) [
    | inl s ↦ told_by set (question.Which most) r f (Got r f (IsList most) set) (λ text came. let w = replied_by set (question.Which most) r f 0 (lit< tt) is text came in as_list r f set most text w.reply w.writes) s.asks
    | inr m ↦ wanted_not 0 (lit< tt) m is
  ]

  explains : (set : Set) → IsLine words (line.Why set) → status_of r ≡ 0 → IfSome f.left_old (Got r f IsExplanation set)
  explains set h is = elim (of_asking a set question.Why h) [
    | inl s ↦ told_by set question.Why r f (Got r f IsExplanation set) (λ text came. let w = replied_by set question.Why r f 0 (lit< tt) is text came in as_explanation r f set text w.reply w.is is w.writes) s.asks
    | inr m ↦ wanted_not 0 (lit< tt) m is
  ]

  meets : (set : Set) → IsLine words (line.Why set) → status_of r ≡ 7 → IfSome f.left_old (Got r f IsOne set)
  meets set h is = elim (of_asking a set question.Why h) [
    | inl s ↦ told_by set question.Why r f (Got r f IsOne set) (λ text came. let w = replied_by set question.Why r f 7 (lit< tt) is text came in as_one r f set text w.reply w.is is w.writes) s.asks
    | inr m ↦ wanted_not 7 (lit< tt) m is
  ]

  pub listings : Listings (record { words = words; ending = r; effect = f })
  listings = record { lists = lists; explains = explains; meets = meets }
