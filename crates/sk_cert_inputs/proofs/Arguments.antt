-- The arguments, and the inputs, that are read from scalars.
use Rattle.std.proofs.Common.{◌≡◌, ℕ, List, [], ◌∷◌, map, slice_get, Option, Some, None, true, refl, ap, subst, ◌∙◌}
use Rattle.std.specs.Prelude.{◌&&◌, option_map, ℤ}
use Rattle.std.proofs.lemmas.Bool.{and_parts}
use Rattle.std.proofs.lemmas.Option.{none-some, same_Some}
use Rattle.sk_base.specs.declared.bounds.Bounds.{Bounds}
use Rattle.sk_prog.specs.declared.value.Value.{Value}
use Rattle.sk_prog.specs.declared.prog.ParamDef.{ParamDef}
use Rattle.sk_prog.specs.declared.prog.Fun.{Fun}
use Rattle.sk_prog.specs.declared.prog.Prog.{Prog}
use Rattle.sk_model.specs.declared.expanded.Obligation.{Obligation}
use Rattle.sk_model.specs.declared.expanded.Input.{Input}
use Rattle.sk_model.specs.Obligations.{obligations}
use Rattle.sk_model.specs.Inputs.{in_range, args_in_range, fun_of, IsInput}
use Rattle.sk_cert.specs.declared.certificate.CertInput.{CertInput}
use Rattle.sk_cert_inputs.specs.Inputs.{scalars, as_listed}
use Rattle.sk_cert_inputs.specs.Reading.{both, value_listed, args_listed, input_of_fun, input_of_obligation, input_listed}
use Rattle.sk_cert_inputs.proofs.Options.{both_some, map_some}
use Rattle.sk_cert_inputs.proofs.Values.{value_sound, value_complete}

module _ (inbits : ℕ) where
  -- in range, and with these scalars
  abbrev ArgsRead : List ParamDef → List (List ℤ) → List Value → Type 0
  ArgsRead ps args vs = (args_in_range inbits ps vs ≡ true) × (map scalars vs ≡ args)

  args_sound : (ps : List ParamDef) (args : List (List ℤ)) (vs : List Value) → args_listed inbits ps args ≡ Some vs → ArgsRead ps args vs
  args_sound [] [] vs h = subst (ArgsRead [] []) (same_Some [] vs h) (refl, refl)
  args_sound [] (a ∷ args) vs h = absurd (none-some vs h)
  args_sound (p ∷ ps) [] vs h = absurd (none-some vs h)
  args_sound (p ∷ ps) (a ∷ args) vs h =
      let b = both_some (value_listed inbits p.ty a) (args_listed inbits ps args) vs h in
      let one = value_sound inbits p.ty a b.0 b.2 in
      let more = args_sound ps args b.1 b.3 in
      subst (ArgsRead (p ∷ ps) (a ∷ args)) b.4 (
        ap (λ t. t && args_in_range inbits ps b.1) one.0 ∙ more.0,
        ap (λ s. s ∷ map scalars b.1) one.1 ∙ ap (λ ss. a ∷ ss) more.1,
      )

  args_complete : (ps : List ParamDef) (vs : List Value) → args_in_range inbits ps vs ≡ true → args_listed inbits ps (map scalars vs) ≡ Some vs
  args_complete [] [] h = refl
  args_complete [] (v ∷ vs) h = cc
  args_complete (p ∷ ps) [] h = cc
  args_complete (p ∷ ps) (v ∷ vs) h =
      let hs = and_parts (in_range inbits v p.ty) (args_in_range inbits ps vs) h in
      ap (λ o. both o (args_listed inbits ps (map scalars vs))) (value_complete inbits p.ty v hs.0)
      ∙ ap (both (Some v)) (args_complete ps vs hs.1)

module _ (prog : Prog) (bounds : Bounds) where
  abbrev with_args : CertInput → List Value → Input
  with_args c args = record { obligation = c.obligation; args = args }

  -- the input is one of the program, and listed so
  abbrev InputRead : CertInput → Input → Type 0
  InputRead c i = (as_listed i ≡ c) × IsInput prog bounds i

  pub input_sound : (c : CertInput) (i : Input) → input_listed prog bounds c ≡ Some i → InputRead c i
  input_sound c i h = at (slice_get (obligations prog) c.obligation) refl h
    where
      of : (o : Obligation) → slice_get (obligations prog) c.obligation ≡ Some o → (f : Option Fun) → slice_get prog.funs (fun_of o).index ≡ f → input_of_fun bounds.inbits c f ≡ Some i → InputRead c i
      of o is None there h = absurd (none-some i h)
      of o is (Some f) there h =
          let m = map_some (with_args c) (args_listed bounds.inbits f.params c.args) i h in
          let r = args_sound bounds.inbits f.params c.args m.0 m.1 in
          subst (InputRead c) m.2 (
            ap (λ args. record { obligation = c.obligation; args = args }) r.1,
            record { obligation = o; fun = f; is_obligation = is; is_fun = there; args = r.0 },
          )

      at : (o : Option Obligation) → slice_get (obligations prog) c.obligation ≡ o → input_of_obligation prog bounds.inbits c o ≡ Some i → InputRead c i
      at None is h = absurd (none-some i h)
      at (Some o) is h = of o is (slice_get prog.funs (fun_of o).index) refl h

  pub input_complete : (i : Input) → IsInput prog bounds i → input_listed prog bounds (as_listed i) ≡ Some i
  input_complete i is =
      ap (input_of_obligation prog bounds.inbits (as_listed i)) is.is_obligation
      ∙ ap (input_of_fun bounds.inbits (as_listed i)) is.is_fun
      ∙ ap (option_map (with_args (as_listed i))) (args_complete bounds.inbits is.fun.params i.args is.args)
