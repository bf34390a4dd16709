-- Where the clauses of a formula cannot be met, nothing is what it asks for.
use Rattle.std.proofs.Common.{◌≡◌, ℕ, ◌≤◌, ◌^◌, Bool, List, [], ◌∷◌, ◌++◌, length, drop, sym, ap, subst, ◌∙◌, arith, Some}
use Rattle.std.proofs.lemmas.List.{append-nil}
use Rattle.std.proofs.lemmas.List.Elements.{All-head, All-tail}
use Rattle.sk_base.specs.declared.bounds.Bounds.{Bounds}
use Rattle.sk_model.specs.declared.expanded.Expanded.{Expanded}
use Rattle.sk_model.specs.declared.expanded.Input.{Input}
use Rattle.sk_model.specs.declared.expanded.Site.{Site}
use Rattle.sk_model.specs.Fill.{Fits}
use Rattle.sk_model.specs.Inputs.{IsInput}
use Rattle.sk_model.specs.Obligations.{obligations}
use Rattle.sk_prog.specs.declared.prog.ParamDef.{ParamDef}
use Rattle.sk_prog.specs.declared.prog.Prog.{Prog}
use Rattle.sk_cnf.specs.declared.growing.Encoded.{Encoded}
use Rattle.sk_oblig_queries.specs.declared.query.Query.{Query}
use Rattle.sk_oblig_queries.specs.declared.query.Query.TheVariants as query
use Rattle.sk_oblig_queries.specs.Numbers.{numbers_said}
use Rattle.sk_oblig_queries.specs.Widths.{sites_widths, params_widths, params_of, params_at, obligations_widths, numbers_before}
use Rattle.sk_oblig_queries.specs.Said.{args_said, input_said}
use Rattle.sk_oblig_queries.specs.Queries.{AsksFor, Holds, IsBad, IsWanted, bits_of_query, input_of_query}
use Rattle.sk_oblig_queries.specs.Laws.{CannotBeMet, AreSmall, NothingIsWanted, NothingIsBad, NothingIsBadAt}
use Rattle.sk_oblig_queries.proofs.Spoken.{Below, all_spoken, size_reached}
use Rattle.sk_oblig_queries.proofs.ArgumentNumbers.{args_numbers, among_all, params_of_input}

-- what holds of no bits of a formula that cannot be met
never : (f : Encoded) (e : Expanded) (bounds : Bounds) (q : Query) → AsksFor f e bounds q → CannotBeMet f → (bits : List Bool) → length bits ≡ bits_of_query e bounds q → Holds e bounds q bits → ⊥
never f e bounds q asks none bits long holds =
    let v = (asks.exact bits long).1 holds in
    none v.0 v.2

values_below : (sites : List Site) (values : List ℕ) → AreSmall sites → Fits sites values → Below (sites_widths sites) values
values_below [] [] small fits = tt
values_below [] (v ∷ vs) small fits = absurd fits
values_below (s ∷ ss) [] small fits = absurd fits
values_below (s ∷ ss) (v ∷ vs) small fits =
    let reached = size_reached s.size (All-head (λ (t : Site). t.size ≤ 2 ^ 64) s ss small) in
    (omega (arith, fits.0, reached), values_below ss vs (All-tail (λ (t : Site). t.size ≤ 2 ^ 64) s ss small) fits.1)

pub nothing_wanted : NothingIsWanted
nothing_wanted f e bounds inputs limit small asks none choice wanted =
    let said = all_spoken (sites_widths e.sites) choice.values (values_below e.sites choice.values small wanted.range.fits) in
    never f e bounds (query.Wanted inputs limit) asks none said.0 said.1 (subst (λ values. IsWanted e bounds inputs limit (record { values = values })) (sym said.2) wanted)

-- the numbers of an input's arguments
input_numbers : (prog : Prog) (bounds : Bounds) (input : Input) (is : IsInput prog bounds input) → (ns : List ℕ) × Below (params_widths bounds.inbits (params_of prog is.obligation)) ns × ((rest : List ℕ) → args_said (params_at prog input.obligation) (ns ++ rest) ≡ input.args)
input_numbers prog bounds input is =
    let ps = params_of_input prog bounds input is in
    let r = args_numbers bounds.inbits is.fun.params input.args is.args in (
      r.0,
      subst (λ (qs : List ParamDef). Below (params_widths bounds.inbits qs) r.0) (sym ps.0) r.1,
      λ rest. ap (λ (qs : List ParamDef). args_said qs (r.0 ++ rest)) (ps.1 ∙ ps.0) ∙ r.2 rest,
    )

said_again : (prog : Prog) (input : Input) (numbers : List ℕ) → args_said (params_at prog input.obligation) numbers ≡ input.args → input_said prog input.obligation numbers ≡ input
said_again prog input numbers e = ap (λ args. record { obligation = input.obligation; args = args }) e

pub nothing_bad : NothingIsBad
nothing_bad f e bounds choice limit asks none input bad =
    let is = bad.is_input in
    let ns = input_numbers e.prog bounds input is in
    let all = among_all bounds.inbits e.prog (obligations e.prog) input.obligation is.obligation is.is_obligation ns.0 ns.1 in
    let said = all_spoken (obligations_widths bounds.inbits e.prog (obligations e.prog)) all.0 all.2 in
    let same : drop (numbers_before bounds.inbits e.prog input.obligation) (numbers_said (obligations_widths bounds.inbits e.prog (obligations e.prog)) said.0) ≡ ns.0 ++ all.1 = ap (drop (numbers_before bounds.inbits e.prog input.obligation)) said.2 ∙ all.3 in
    let again : input_of_query e bounds (query.Bad choice limit) input.obligation said.0 ≡ input = said_again e.prog input _ (ap (args_said (params_at e.prog input.obligation)) same ∙ ns.2 all.1) in
    never f e bounds (query.Bad choice limit) asks none said.0 said.1 (input.obligation, subst (IsBad e bounds choice limit) (sym again) bad)

pub nothing_bad_at : NothingIsBadAt
nothing_bad_at f e bounds choice limit o asks none input at bad =
    let is = bad.is_input in
    let ns = input_numbers e.prog bounds input is in
    let here : params_at e.prog o ≡ params_of e.prog is.obligation = ap (params_at e.prog) (sym at) ∙ (params_of_input e.prog bounds input is).1 in
    let said = all_spoken (params_widths bounds.inbits (params_at e.prog o)) ns.0 (subst (λ (qs : List ParamDef). Below (params_widths bounds.inbits qs) ns.0) (sym here) ns.1) in
    let same : args_said (params_at e.prog input.obligation) (numbers_said (params_widths bounds.inbits (params_at e.prog o)) said.0) ≡ input.args =
    ap (args_said (params_at e.prog input.obligation)) (said.2 ∙ sym (append-nil ns.0)) ∙ ns.2 [] in
    let again : input_of_query e bounds (query.BadAt choice o limit) o said.0 ≡ input = ap (λ k. input_said e.prog k (numbers_said (params_widths bounds.inbits (params_at e.prog o)) said.0)) (sym at) ∙ said_again e.prog input _ same in
    never f e bounds (query.BadAt choice o limit) asks none said.0 said.1 (subst (IsBad e bounds choice (Some limit)) (sym again) bad)
