-- Inputs as certificates list them: the number of an obligation, and the scalars of each argument.
use Rattle.std.specs.Prelude.{ℕ, ◌≡◌, Bool, true, false, pos, List, [], ◌∷◌, map, slice_get, Some, All, ℤ}
use Rattle.std.specs.List.{flat_map}
use Rattle.sk_base.specs.declared.bounds.Bounds.{Bounds}
use Rattle.sk_prog.specs.declared.value.Value.{Value}
use Rattle.sk_prog.specs.declared.value.Value.TheOpen as V
use Rattle.sk_prog.specs.declared.value.Value.TheFolds.{fold-Value}
use Rattle.sk_prog.specs.declared.prog.Prog.{Prog}
use Rattle.sk_model.specs.declared.expanded.Input.{Input}
use Rattle.sk_model.specs.Inputs.{IsInput}
use Rattle.sk_cert.specs.declared.certificate.CertInput.{CertInput}

abbrev pub bit_scalar : Bool → ℤ
bit_scalar false = pos 0
bit_scalar true = pos 1

-- a bit is 0 or 1, an int itself, an array the scalars of its elements one after another; a reference has none
abbrev pub scalars_step : V.Value-F (List ℤ) → List ℤ
scalars_step (V.Bit b) = bit_scalar b ∷ []
scalars_step (V.Int n) = n ∷ []
scalars_step V.Null = []
scalars_step (V.Place at) = []
scalars_step (V.Array parts) = flat_map (λ part. part) parts

abbrev pub scalars : Value → List ℤ
scalars = fold-Value (List ℤ) scalars_step

-- how a certificate lists an input
abbrev pub as_listed : Input → CertInput
as_listed input = record { obligation = input.obligation; args = map scalars input.args }

-- These are inputs of the program, listed so.
pub record AreListed (prog : Prog) (bounds : Bounds) (cs : List CertInput) (inputs : List Input) : Type 0 where
  pub are : cs ≡ map as_listed inputs
  pub each : All (IsInput prog bounds) inputs

-- No input stands at two places.
pub record AreApart (cs : List CertInput) : Type 0 where
  pub apart : (i j : ℕ) (c : CertInput) → slice_get cs i ≡ Some c → slice_get cs j ≡ Some c → i ≡ j
