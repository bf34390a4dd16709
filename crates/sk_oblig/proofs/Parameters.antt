-- Parameters, and which of them say inputs.
use Rattle.std.proofs.Common.{◌≡◌, ℕ, ◌+◌, ◌<◌, ◌≤◌, true, false, true≢false, ◌&&◌, List, [], ◌∷◌, ◌++◌, length, take, drop, get_or, slice_get, Option, Some, None, ◌↔◌, refl, sym, ap, subst, ◌∙◌, arith, length-append}
use Rattle.std.proofs.lemmas.List.{take_more, take_all, drop_more, at_drop_all, length-replicate}
use Rattle.std.proofs.lemmas.Option.{same_Some}
use Rattle.sk_base.specs.declared.bounds.Bounds.{Bounds}
use Rattle.sk_prog.specs.declared.prog.ParamDef.{ParamDef}
use Rattle.sk_prog.specs.declared.prog.Fun.{Fun}
use Rattle.sk_prog.specs.declared.prog.Prog.{Prog}
use Rattle.sk_model.specs.declared.expanded.Obligation.{Obligation}
use Rattle.sk_model.specs.Obligations.{obligations}
use Rattle.sk_model.specs.Inputs.{fun_of, args_in_range, IsInput}
use Rattle.sk_oblig_queries.specs.Widths.{elem_width, elem_of, numbers_of, ty_widths, params_widths, params_of, params_of_fun, params_if, params_at}
use Rattle.sk_oblig_queries.specs.Said.{args_said, input_said}
use Rattle.sk_oblig_laws.specs.Laws.{StartsBelow, is_plain, are_plain}
use Rattle.sk_oblig_laws.proofs.Ranges.{plain_in_range}
use Rattle.sk_oblig_checks.specs.Arguments.{count_of}
use Rattle.sk_oblig.specs.Nodes.{has_inputs, is_plain_fun}

pub plain_next : (ps : List ParamDef) (i : ℕ) (p : ParamDef) → i < length ps → p ≡ get_or ps i p → is_plain p.ty ≡ true → are_plain ps ≡ are_plain (drop i ps) → are_plain ps ≡ are_plain (drop (i + 1) ps)
plain_next ps i p l here is before =
    before ∙ ap are_plain (drop_more ps i p l ∙ ap (λ x. x ∷ drop (i + 1) ps) (sym here)) ∙ ap (λ b. b && are_plain (drop (i + 1) ps)) is

pub plain_stop : (ps : List ParamDef) (i : ℕ) (p : ParamDef) → i < length ps → p ≡ get_or ps i p → is_plain p.ty ≡ false → are_plain ps ≡ are_plain (drop i ps) → false ≡ are_plain ps
plain_stop ps i p l here is before =
    sym (before ∙ ap are_plain (drop_more ps i p l ∙ ap (λ x. x ∷ drop (i + 1) ps) (sym here)) ∙ ap (λ b. b && are_plain (drop (i + 1) ps)) is)

pub plain_end : (ps : List ParamDef) (i : ℕ) → length ps ≤ i → are_plain ps ≡ are_plain (drop i ps) → true ≡ are_plain ps
plain_end ps i l before = sym (before ∙ at_drop_all are_plain ps i l)

pub ruleset plain = (plain_next, plain_stop, plain_end)

count_push : (ps : List ParamDef) (p : ParamDef) → count_of (ps ++ p ∷ []) ≡ count_of ps + numbers_of p.ty
count_push [] p = omega arith
count_push (q ∷ ps) p = let e = count_push ps p in omega (arith, e)

pub count_more : (ps : List ParamDef) (i : ℕ) (p : ParamDef) (count next : ℕ) → i < length ps → p ≡ get_or ps i p → count ≡ count_of (take i ps) → next ≡ count + numbers_of p.ty → next ≡ count_of (take (i + 1) ps)
count_more ps i p count next l here before is =
    let more : take (i + 1) ps ≡ take i ps ++ p ∷ [] = take_more ps i p l ∙ ap (λ x. take i ps ++ x ∷ []) (sym here) in
    is ∙ ap (λ c. c + numbers_of p.ty) before ∙ sym (ap count_of more ∙ count_push (take i ps) p)

pub count_all : (ps : List ParamDef) (i count : ℕ) → length ps ≤ i → count ≡ count_of (take i ps) → count ≡ count_of ps
count_all ps i count l is = is ∙ ap count_of (take_all i ps l)

pub ruleset counting = (count_more, count_all)

pub widths_count : (inbits : ℕ) (ps : List ParamDef) → length (params_widths inbits ps) ≡ count_of ps
widths_count inbits [] = refl
widths_count inbits (p ∷ ps) =
    length-append (ty_widths inbits p.ty) (params_widths inbits ps)
    ∙ ap (λ c. c + length (params_widths inbits ps)) (length-replicate (numbers_of p.ty) (elem_width inbits (elem_of p.ty)))
    ∙ ap (λ c. numbers_of p.ty + c) (widths_count inbits ps)

-- numbers that are small enough say an input of an obligation exactly where it has inputs
pub input_is : (prog : Prog) (bounds : Bounds) (i : ℕ) (o : Obligation) (ns : List ℕ) → slice_get (obligations prog) i ≡ Some o → StartsBelow (params_widths bounds.inbits (params_of prog o)) ns → (has_inputs prog o ≡ true) ↔ IsInput prog bounds (input_said prog i ns)
input_is prog bounds i o ns at below = (forth (slice_get prog.funs (fun_of o).index) refl, back)
  where
    here : params_at prog i ≡ params_of prog o
    here = ap (params_if prog) at

    ranged : (fun : Fun) → slice_get prog.funs (fun_of o).index ≡ Some fun → args_in_range bounds.inbits fun.params (args_said (params_at prog i) ns) ≡ are_plain fun.params
    ranged fun e =
        let same : params_of prog o ≡ fun.params = ap params_of_fun e in
        ap (λ (ps : List ParamDef). args_in_range bounds.inbits fun.params (args_said ps ns)) (here ∙ same)
        ∙ plain_in_range bounds.inbits fun.params ns (subst (λ (ps : List ParamDef). StartsBelow (params_widths bounds.inbits ps) ns) same below)

    forth : (m : Option Fun) → slice_get prog.funs (fun_of o).index ≡ m → has_inputs prog o ≡ true → IsInput prog bounds (input_said prog i ns)
    forth None e h = absurd (true≢false (sym h ∙ ap is_plain_fun e))
    forth (Some fun) e h = record {
      obligation = o;
      fun = fun;
      is_obligation = at;
      is_fun = e;
      args = ranged fun e ∙ sym (ap is_plain_fun e) ∙ h;
    }

    back : IsInput prog bounds (input_said prog i ns) → has_inputs prog o ≡ true
    back is =
        let same : is.obligation ≡ o = same_some is.obligation o (sym is.is_obligation ∙ at) in
        let found : slice_get prog.funs (fun_of o).index ≡ Some is.fun = ap (λ (q : Obligation). slice_get prog.funs (fun_of q).index) (sym same) ∙ is.is_fun in
        ap is_plain_fun found ∙ sym (ranged is.fun found) ∙ is.args
      where
        same_some : (p q : Obligation) → Some p ≡ Some q → p ≡ q
        same_some p q h = same_Some p q h
