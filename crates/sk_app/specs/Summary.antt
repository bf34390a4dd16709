-- What a line `self` writes: a summary of the completion of a sketch that the program makes itself.
use Rattle.std.specs.Prelude.{ℕ, ◌≡◌, List, None}
use Rattle.sk_base.specs.declared.bounds.Bounds.{Bounds}
use Rattle.sk_model.specs.declared.expanded.Expanded.{Expanded}
use Rattle.sk_app_texts.specs.SelfTexts.{self_sketch, self_text}
use Rattle.sk_opts.specs.declared.line.Set.{Set}
use Rattle.sk_all_text.specs.Built.{IsOnly}
use Rattle.sk_app.specs.declared.completion.Completion.{Completion}
use Rattle.sk_app.specs.Completing.{IsLeast}

-- no options
abbrev pub no_set : Set
no_set = record { cbits = None; inbits = None; unroll = None; inline_amnt = None; int_bits = None }

-- a completion of this expansion costs least, and this text is the summary with its value
pub record IsSummaryOf (n : ℕ) (bounds : Bounds) (e : Expanded) (out : List ℕ) : Type 0 where
  pub c : Completion
  pub least : IsLeast bounds e c
  pub is : out ≡ self_text n bounds e c.value

-- The text is the summary of the sketch with this number, whose completion costs least. With no options that sketch has no other
-- bounds and no other expansion.
pub record IsSummary (n : ℕ) (out : List ℕ) : Type 0 where
  pub bounds : Bounds
  pub e : Expanded
  pub only : IsOnly no_set (self_sketch n) bounds e
  pub of : IsSummaryOf n bounds e out
