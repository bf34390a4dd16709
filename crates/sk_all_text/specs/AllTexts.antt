-- What is told of all completions of a text: inputs that explain why it has none, or a completion of it; and a list of its completions.
use Rattle.std.specs.Prelude.{ℕ, ⊤, ◌≤◌, ◌≡◌, ◌⊎◌, List, length}
use Rattle.sk_base.specs.declared.bounds.Bounds.{Bounds}
use Rattle.sk_model.specs.declared.expanded.Choice.{Choice}
use Rattle.sk_model.specs.declared.expanded.Expanded.{Expanded}
use Rattle.sk_model.specs.declared.expanded.Input.{Input}
use Rattle.sk_min_laws.specs.Best.{Meeting}
use Rattle.sk_opts.specs.declared.line.Set.{Set}
use Rattle.sk_built_laws.specs.Built.{ForBuilt}
use Rattle.sk_all_listing.specs.Reasons.{Explains}
use Rattle.sk_all_listing.specs.Completions.{AreListedChoices, IsAmong}
use Rattle.sk_all_text.specs.declared.reasons.Reasons.{Reasons}
use Rattle.sk_all_text.specs.declared.reasons.Reasons.TheVariants as reasons
use Rattle.sk_all_text.specs.AllLines.{inputs_text, met_text, all_text, more_text}

-- no choice in range has a filling that meets its obligations
abbrev pub NoneMeets : Expanded → Bounds → Type 0
NoneMeets e bounds = (c : Choice) → Meeting e bounds c → ⊥

-- The lines tell inputs that explain why no choice in range has a filling that meets its obligations: they are inputs of the program, and
-- distinct; no choice in range passes them all, and without any one of them some choice passes the rest.
pub record TellsInputs (out : List ℕ) (bounds : Bounds) (e : Expanded) : Type 0 where
  pub inputs : List Input
  pub explains : Explains e bounds inputs
  pub none : NoneMeets e bounds
  pub is : out ≡ inputs_text inputs

-- They tell a choice in range whose filling meets its obligations.
pub record TellsMeeting (out : List ℕ) (bounds : Bounds) (e : Expanded) : Type 0 where
  pub choice : Choice
  pub meeting : Meeting e bounds choice
  pub is : out ≡ met_text choice

-- They tell at most so many choices in range whose fillings meet their obligations, and that these are all: each such choice agrees with
-- one of them where the sites of that one stand. No two of them agree so; each is 0 where its sites do not stand; and their lists of values
-- ascend.
pub record TellsAll (most : ℕ) (out : List ℕ) (bounds : Bounds) (e : Expanded) : Type 0 where
  pub choices : List Choice
  pub listed : AreListedChoices e bounds choices
  pub few : length choices ≤ most
  pub whole : (b : Choice) → Meeting e bounds b → IsAmong e choices b
  pub is : out ≡ all_text choices

-- They tell so many such choices, and that there are more: some such choice agrees with none of them.
pub record TellsMore (most : ℕ) (out : List ℕ) (bounds : Bounds) (e : Expanded) : Type 0 where
  pub choices : List Choice
  pub listed : AreListedChoices e bounds choices
  pub full : length choices ≡ most
  pub other : Choice
  pub meeting : Meeting e bounds other
  pub unlisted : IsAmong e choices other → ⊥
  pub is : out ≡ more_text choices

abbrev pub TellsListing : ℕ → List ℕ → Bounds → Expanded → Type 0
TellsListing most out bounds e = TellsAll most out bounds e ⊎ TellsMore most out bounds e

-- There are at most so many choices, where those that agree count once: each choice in range whose filling meets its obligations agrees with
-- one of a list of so many where the sites of that one stand.
pub record HasAtMost (most : ℕ) (bounds : Bounds) (e : Expanded) : Type 0 where
  pub choices : List Choice
  pub few : length choices ≤ most
  pub whole : (b : Choice) → Meeting e bounds b → IsAmong e choices b

-- what is told of an expansion
abbrev pub TellsReasons : Reasons → Bounds → Expanded → Type 0
TellsReasons (reasons.Explained out) bounds e = TellsInputs out.items bounds e
TellsReasons (reasons.Met out) bounds e = TellsMeeting out.items bounds e

-- Texts

-- The text is taken with these options, and inputs are told that explain why it has no completion, or a completion.
abbrev pub IsReasons : Set → List ℕ → Reasons → Type 0
IsReasons set text r = ForBuilt set text (TellsReasons r)

-- The text is taken with these options, and its completions are told, at most so many.
abbrev pub IsListing : Set → ℕ → List ℕ → List ℕ → Type 0
IsListing set most text out = ForBuilt set text (TellsListing most out)

-- Answers

-- inputs are told
abbrev pub IsExplained : Reasons → Type 0
IsExplained (reasons.Explained out) = ⊤
IsExplained (reasons.Met out) = ⊥

-- a completion is told
abbrev pub IsMet : Reasons → Type 0
IsMet (reasons.Explained out) = ⊥
IsMet (reasons.Met out) = ⊤
