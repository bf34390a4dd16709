-- Laws of inputs as certificates list them.
use Rattle.std.specs.Prelude.{ℕ, ◌≡◌, List, slice_get, Some}
use Rattle.sk_base.specs.declared.bounds.Bounds.{Bounds}
use Rattle.sk_prog.specs.declared.prog.Prog.{Prog}
use Rattle.sk_model.specs.declared.expanded.Input.{Input}
use Rattle.sk_cert.specs.declared.certificate.CertInput.{CertInput}
use Rattle.sk_cert_inputs.specs.Inputs.{AreListed, AreApart}

-- what is listed are the inputs of one list alone
abbrev pub ListedOnce : Type 0
ListedOnce = (prog : Prog) (bounds : Bounds) (cs : List CertInput) (inputs others : List Input) → AreListed prog bounds cs inputs → AreListed prog bounds cs others → inputs ≡ others

-- no input stands at two places of the list
abbrev pub AreDistinct : List Input → Type 0
AreDistinct inputs = (i j : ℕ) (x : Input) → slice_get inputs i ≡ Some x → slice_get inputs j ≡ Some x → i ≡ j

-- distinct inputs are listed apart
abbrev pub DistinctAreApart : Type 0
DistinctAreApart = (prog : Prog) (bounds : Bounds) (cs : List CertInput) (inputs : List Input) → AreListed prog bounds cs inputs → AreDistinct inputs → AreApart cs

-- and inputs that are listed apart are distinct
abbrev pub ApartAreDistinct : Type 0
ApartAreDistinct = (prog : Prog) (bounds : Bounds) (cs : List CertInput) (inputs : List Input) → AreListed prog bounds cs inputs → AreApart cs → AreDistinct inputs
