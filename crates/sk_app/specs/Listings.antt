-- What a line `all` and a line `why` say, in definitions of the language alone. Each cause is said in full by a clause of `Clauses`.
use Rattle.std.specs.Prelude.{ℕ, ◌≡◌, ◌<◌, ◌≤◌, ◌⊎◌, List, [], ◌∷◌, ◌++◌, length, None, All, Contains, codes, decimal}
use Rattle.std.specs.List.{flat_map}
use Rattle.sk_base.specs.declared.bounds.Bounds.{Bounds}
use Rattle.sk_model.specs.declared.expanded.Choice.{Choice}
use Rattle.sk_model.specs.declared.expanded.Expanded.{Expanded}
use Rattle.sk_model.specs.declared.expanded.Input.{Input}
use Rattle.sk_model.specs.Parts.{value}
use Rattle.sk_model.specs.Stands.{SiteStands, AgreeWhereStands}
use Rattle.sk_model.specs.Fill.{InRange, fill}
use Rattle.sk_model.specs.Inputs.{IsInput}
use Rattle.sk_model.specs.Meets.{Meets, Passes}
use Rattle.sk_opts.specs.declared.line.Set.{Set}
use Rattle.sk_opts.specs.declared.line.Line.TheVariants as line
use Rattle.sk_opts.specs.CommandLine.{IsLine}
use Rattle.sk_all_text.specs.Reasons.{AreDistinct, without}
use Rattle.sk_all_text.specs.AllLines.{holes_line, input_line}
use Rattle.sk_app.specs.Headline.{ForSketch}
use Rattle.sk_app.specs.Call.{Call, EndsWith, OfText, Gets}

-- The choice is in range, and its filling meets every harness and reference on every input in range.
abbrev pub Completes : Bounds → Expanded → Choice → Type 0
Completes bounds e a = InRange e a × Meets (fill e a) bounds

-- some of the choices has the values of this one for all sites that stand, and so the same filling
abbrev pub IsAmong : Expanded → List Choice → Choice → Type 0
IsAmong e choices b = (a : Choice) × Contains choices a × AgreeWhereStands e a.values b.values

-- no two have the same values for all sites that stand
abbrev pub AreApart : Expanded → List Choice → Type 0
AreApart e [] = Unit {0}
AreApart e (a ∷ rest) = ((b : Choice) → Contains rest b → AgreeWhereStands e a.values b.values → ⊥) × AreApart e rest

-- The text lists completions, each 0 for sites that do not stand: all there are, if there are at most so many; else so many.
pub record IsList (most : ℕ) (bounds : Bounds) (e : Expanded) (out : List ℕ) : Type 0 where
  pub choices : List Choice
  pub each : (a : Choice) → Contains choices a → Completes bounds e a × ((i : ℕ) → (SiteStands e a.values i → ⊥) → value a.values i ≡ 0)
  pub apart : AreApart e choices
  pub all_or_more : ((out ≡ flat_map holes_line choices ++ codes "//@ all\n") × (length choices ≤ most) × ((b : Choice) → Completes bounds e b → IsAmong e choices b))
      ⊎ ((out ≡ flat_map holes_line choices ++ codes "//@ more\n") × (length choices ≡ most) × ((b : Choice) × Completes bounds e b × (IsAmong e choices b → ⊥)))

-- No filling meets all. The text lists inputs that no filling passes, and without any one of them some filling passes the rest.
pub record IsExplanation (bounds : Bounds) (e : Expanded) (out : List ℕ) : Type 0 where
  pub none : (a : Choice) → Completes bounds e a → ⊥
  pub inputs : List Input
  pub text : out ≡ flat_map input_line inputs ++ codes "//@ why " ++ decimal (length inputs) ++ codes "\n"
  pub are_inputs : All (IsInput e.prog bounds) inputs
  pub distinct : AreDistinct inputs
  pub refuted : (a : Choice) → InRange e a → Passes (fill e a) bounds inputs None → ⊥
  pub needed : (k : ℕ) → k < length inputs → (a : Choice) × InRange e a × Passes (fill e a) bounds (without k inputs) None

-- The text tells a completion.
abbrev pub IsOne : Bounds → Expanded → List ℕ → Type 0
IsOne bounds e out = (a : Choice) × (out ≡ codes "//@ met\n" ++ holes_line a) × Completes bounds e a

pub record Listings (c : Call) : Type 0 where
  pub lists : (set : Set) (most : ℕ) → IsLine c.words (line.All set most) → EndsWith 0 c → OfText c (λ text. Gets c (ForSketch set (IsList most) text))
  pub explains : (set : Set) → IsLine c.words (line.Why set) → EndsWith 0 c → OfText c (λ text. Gets c (ForSketch set IsExplanation text))
  pub meets : (set : Set) → IsLine c.words (line.Why set) → EndsWith 7 c → OfText c (λ text. Gets c (ForSketch set IsOne text))
