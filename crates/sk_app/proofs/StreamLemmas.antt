-- How the help comes together, and what it means to read nothing.
use Rattle.std.proofs.Common.{ℕ, List, [], ◌++◌, ◌≡◌, Option, Some, None, refl, ◌∙◌}
use Rattle.std.specs.Prelude.{option_map}
use Rattle.sk_app.specs.Help.{usage_text, statuses_text, help_text}

pub front-nil : (old : Option (List ℕ)) → old ≡ option_map (λ rest. [] ++ rest) old
front-nil None = refl
front-nil (Some rest) = refl

-- the help is its two parts, one behind the other
pub help_joins : (all first second : List ℕ) → all ≡ first ++ second → first ≡ usage_text → second ≡ statuses_text → all ≡ help_text
help_joins all first second is a b = is ∙ (λ i. a i ++ b i)
