-- No number of a query has more than 64 bits.
use Rattle.std.proofs.Common.{ℕ, zero, suc, ◌≤◌, List, [], ◌∷◌, replicate, All, arith}
use Rattle.std.proofs.lemmas.List.Elements.{All-append, All-nil}
use Rattle.sk_base.specs.declared.bounds.Bounds.{Bounds}
use Rattle.sk_prog.specs.declared.ty.Elem.{Elem}
use Rattle.sk_prog.specs.declared.ty.Elem.TheVariants as elem
use Rattle.sk_prog.specs.declared.prog.ParamDef.{ParamDef}
use Rattle.sk_prog.specs.declared.prog.Prog.{Prog}
use Rattle.sk_model.specs.declared.expanded.Site.{Site}
use Rattle.sk_model.specs.declared.expanded.Expanded.{Expanded}
use Rattle.sk_model.specs.declared.expanded.Obligation.{Obligation}
use Rattle.sk_model.specs.Obligations.{obligations}
use Rattle.sk_oblig_queries.specs.declared.query.Query.{Query}
use Rattle.sk_oblig_queries.specs.declared.query.Query.TheVariants as query
use Rattle.sk_oblig_queries.specs.Numbers.{bits_of_size}
use Rattle.sk_oblig_queries.specs.Widths.{sites_widths, elem_width, elem_of, numbers_of, ty_widths, params_widths, params_of, params_at, obligations_widths}
use Rattle.sk_oblig_queries.specs.Queries.{widths_of_query}
use Rattle.sk_oblig_queries.proofs.Powers.{bits_most}

abbrev Narrow : List ℕ → Type 0
Narrow ws = All (λ w. w ≤ 64) ws

narrow_more : (w : ℕ) (ws : List ℕ) → w ≤ 64 → Narrow ws → Narrow (w ∷ ws)
narrow_more w ws h k zero d l = h
narrow_more w ws h k (suc i) d l = k i d (omega (arith, l))

pub narrow_sites : (sites : List Site) → All (λ w. w ≤ 64) (sites_widths sites)
narrow_sites [] = All-nil (λ w. w ≤ 64)
narrow_sites (s ∷ ss) = narrow_more (bits_of_size s.size) (sites_widths ss) (bits_most s.size) (narrow_sites ss)

narrow_same : (n w : ℕ) → w ≤ 64 → Narrow (replicate n w)
narrow_same zero w h = All-nil (λ w. w ≤ 64)
narrow_same (suc n) w h = narrow_more w (replicate n w) h (narrow_same n w h)

narrow_elem : (inbits : ℕ) (e : Elem) → inbits ≤ 32 → elem_width inbits e ≤ 64
narrow_elem inbits elem.Int h = omega arith
narrow_elem inbits elem.Bit h = omega arith
narrow_elem inbits (elem.Reference s) h = omega arith

narrow_params : (inbits : ℕ) (ps : List ParamDef) → inbits ≤ 32 → Narrow (params_widths inbits ps)
narrow_params inbits [] h = All-nil (λ w. w ≤ 64)
narrow_params inbits (p ∷ ps) h = All-append (λ w. w ≤ 64) (ty_widths inbits p.ty) (params_widths inbits ps) (narrow_same (numbers_of p.ty) (elem_width inbits (elem_of p.ty)) (narrow_elem inbits (elem_of p.ty) h)) (narrow_params inbits ps h)

narrow_obligations : (inbits : ℕ) (prog : Prog) (os : List Obligation) → inbits ≤ 32 → Narrow (obligations_widths inbits prog os)
narrow_obligations inbits prog [] h = All-nil (λ w. w ≤ 64)
narrow_obligations inbits prog (o ∷ os) h = All-append (λ w. w ≤ 64) (params_widths inbits (params_of prog o)) (obligations_widths inbits prog os) (narrow_params inbits (params_of prog o) h) (narrow_obligations inbits prog os h)

pub narrow_query : (e : Expanded) (bounds : Bounds) (q : Query) → bounds.inbits ≤ 32 → All (λ w. w ≤ 64) (widths_of_query e bounds q)
narrow_query e bounds (query.Bad choice limit) h = narrow_obligations bounds.inbits e.prog (obligations e.prog) h
narrow_query e bounds (query.BadAt choice o limit) h = narrow_params bounds.inbits (params_at e.prog o) h
narrow_query e bounds (query.Wanted inputs limit) h = narrow_sites e.sites
