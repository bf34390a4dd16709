-- What is asked of the completions of a text, and what is replied: a line `all` asks which there are, and a line `why` why there is
-- none.
use Rattle.std.specs.Prelude.{ℕ, ◌<◌, List}
use Rattle.sk_opts.specs.declared.line.Set.{Set}
use Rattle.sk_all_text.specs.Built.{ForBuilt}
use Rattle.sk_all_text.specs.AllTexts.{TellsInputs, TellsMeeting, IsListing}
use Rattle.sk_app.specs.declared.ending.Ending.{Ending}
use Rattle.sk_app.specs.declared.ending.Ending.TheVariants.{Listed, Explained, Met}
use Rattle.sk_app.specs.declared.listing.Question.{Question}
use Rattle.sk_app.specs.declared.listing.Question.TheVariants as question

-- a question which completions there are asks for one at least
abbrev pub AsksForSome : Question → Type 0
AsksForSome (question.Which most) = 0 < most
AsksForSome question.Why = Unit {0}

-- The text is taken with these options and has no completion; this text tells inputs that explain it.
abbrev pub IsExplained : Set → List ℕ → List ℕ → Type 0
IsExplained set text out = ForBuilt set text (TellsInputs out)

-- The text is taken with these options, and this text tells a completion of it.
abbrev pub IsMet : Set → List ℕ → List ℕ → Type 0
IsMet set text out = ForBuilt set text (TellsMeeting out)

-- a list of completions, or inputs that explain why there is none, or one completion where there is one
pub data Reply : Type 0 where
  OfList : Reply
  OfReasons : Reply
  OfCompletion : Reply

-- how the line ends whose reply is written
abbrev pub ending_with : Reply → Ending
ending_with OfList = Listed
ending_with OfReasons = Explained
ending_with OfCompletion = Met

-- this text is a reply to the question about the text
abbrev pub IsReply : Set → Question → List ℕ → Reply → List ℕ → Type 0
IsReply set (question.Which most) text OfList out = IsListing set most text out
IsReply set (question.Which most) text OfReasons out = ⊥
IsReply set (question.Which most) text OfCompletion out = ⊥
IsReply set question.Why text OfList out = ⊥
IsReply set question.Why text OfReasons out = IsExplained set text out
IsReply set question.Why text OfCompletion out = IsMet set text out
