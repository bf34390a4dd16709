-- Lists of completions.
use Rattle.std.specs.Prelude.{ℕ, ◌≡◌, ◌≤◌, List, [], ◌∷◌, length, map, All, Contains}
use Rattle.sk_base.specs.declared.bounds.Bounds.{Bounds}
use Rattle.sk_model.specs.declared.expanded.Choice.{Choice}
use Rattle.sk_model.specs.declared.expanded.Expanded.{Expanded}
use Rattle.sk_model.specs.Stands.{AgreeWhereStands}
use Rattle.sk_holes_marks.specs.Zeroed.{IsCanonical}
use Rattle.sk_min_laws.specs.Best.{Meeting}
use Rattle.sk_all_exclusions.specs.declared.listed.Listed.{Listed}
use Rattle.sk_all_listing.specs.declared.answer.Listing.{Listing}
use Rattle.sk_all_listing.specs.declared.answer.Listing.TheVariants as listing
use Rattle.sk_all_listing.specs.Order.{AreAscending}

-- A choice in range whose filling meets its obligations, and which is 0 where a site does not stand.
pub record IsListedChoice (e : Expanded) (bounds : Bounds) (c : Choice) : Type 0 where
  pub meeting : Meeting e bounds c
  pub canonical : IsCanonical e c.values

-- The choices do not agree, neither where the sites of the first stand nor where those of the second do.
pub record IsApart (e : Expanded) (c d : Choice) : Type 0 where
  pub first : AgreeWhereStands e c.values d.values → ⊥
  pub second : AgreeWhereStands e d.values c.values → ⊥

-- no two agree
abbrev pub AreApart : Expanded → List Choice → Type 0
AreApart e [] = Unit {0}
AreApart e (c ∷ cs) = All (IsApart e c) cs × AreApart e cs

-- Such choices in the order of their lists of values, of which no two agree where the sites of one stand.
pub record AreListedChoices (e : Expanded) (bounds : Bounds) (cs : List Choice) : Type 0 where
  pub each : All (IsListedChoice e bounds) cs
  pub apart : AreApart e cs
  pub ascend : AreAscending cs

-- some of the choices agrees with b where its sites stand
abbrev pub IsAmong : Expanded → List Choice → Choice → Type 0
IsAmong e cs b = (c : Choice) × Contains cs c × AgreeWhereStands e c.values b.values

-- `All` has at most so many choices, and each that meets its obligations agrees with one of them where its sites stand. `More` has as
-- many, and some that meets its obligations agrees with none.
abbrev pub IsListing : Expanded → Bounds → ℕ → Listing → Type 0
IsListing e bounds most (listing.All cs) = AreListedChoices e bounds cs × (length cs ≤ most) × ((b : Choice) → Meeting e bounds b → IsAmong e cs b)
IsListing e bounds most (listing.More cs) = AreListedChoices e bounds cs × (length cs ≡ most) × ((d : Choice) × Meeting e bounds d × (IsAmong e cs d → ⊥))

-- the choices that are listed
abbrev pub choices_of : List Listed → List Choice
choices_of ls = map (λ (l : Listed). l.choice) ls
