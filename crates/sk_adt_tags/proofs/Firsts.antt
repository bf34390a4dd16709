-- The first of the spans that break a rule.
use Rattle.std.proofs.Common.{◌≡◌, List, [], ◌∷◌, ◌++◌, None, refl}
use Rattle.std.specs.Option.{option_or}
use Rattle.sk_base.specs.declared.span.Span.{Span}
use Rattle.sk_adt_tags.specs.Tags.{first}

pub first_both : (a b : List Span) → first (a ++ b) ≡ option_or (first a) (first b)
first_both [] b = refl
first_both (s ∷ a) b = refl

pub none_first : (a : List Span) → first a ≡ None → a ≡ []
none_first [] h = refl
none_first (s ∷ a) h = absurd (cc h)
