-- Values of all variables that meet the clauses of a formula say what it asks for.
use Rattle.std.proofs.Common.{◌≡◌, ℕ, Bool, List, map, length, sym, subst, ◌∙◌}
use Rattle.std.proofs.lemmas.List.{length-map}
use Rattle.sk_base.specs.declared.bounds.Bounds.{Bounds}
use Rattle.sk_clause.specs.Meaning.{Meets}
use Rattle.sk_model.specs.declared.expanded.Expanded.{Expanded}
use Rattle.sk_cnf.specs.declared.growing.Encoded.{Encoded}
use Rattle.sk_oblig_queries.specs.declared.query.Query.{Query}
use Rattle.sk_oblig_queries.specs.Queries.{AsksFor, Holds}

pub asked : (f : Encoded) (v : ℕ → Bool) (bits : List Bool) → bits ≡ map v f.names → Meets v f.clauses.clauses → (e : Expanded) (bounds : Bounds) (q : Query) → AsksFor f e bounds q → Holds e bounds q bits
asked f v bits is met e bounds q asks =
    (asks.exact bits (subst (λ (bs : List Bool). length bs ≡ length f.names) (sym is) (length-map f.names v) ∙ asks.named)).0 (v, sym is, met)
