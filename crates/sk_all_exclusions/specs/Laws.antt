-- What clauses exclude.
use Rattle.std.specs.Prelude.{ℕ, ◌≡◌, ◌↔◌, Bool, false, List, map, length, All, Contains, IsTrue}
use Rattle.std.specs.List.{sum}
use Rattle.sk_clause.specs.Meaning.{Meets, clause_true}
use Rattle.sk_cnf.specs.declared.growing.Encoded.{Encoded}
use Rattle.sk_expand_sites.specs.Needs.{are_narrow}
use Rattle.sk_model.specs.declared.expanded.Choice.{Choice}
use Rattle.sk_model.specs.declared.expanded.Expanded.{Expanded}
use Rattle.sk_model.specs.Fill.{InRange}
use Rattle.sk_model.specs.Stands.{AgreeWhereStands}
use Rattle.sk_oblig_queries.specs.Said.{choice_said}
use Rattle.sk_oblig_queries.specs.Widths.{sites_widths}
use Rattle.sk_all_exclusions.specs.declared.listed.Listed.{Listed}
use Rattle.sk_all_exclusions.specs.Exclusions.{exclusion}

-- under these values of the variables the names say a choice that has the value of this one for each site that stands under it
abbrev pub IsAgreed : Expanded → List ℕ → Choice → (ℕ → Bool) → Type 0
IsAgreed e names choice v = AgreeWhereStands e choice.values (choice_said e.sites (map v names)).values

-- The clause that excludes a choice in range is false exactly under values whose names say a choice that agrees with it where its
-- sites stand.
abbrev pub ExclusionIsExact : Type 0
ExclusionIsExact = (e : Expanded) (names : List ℕ) (choice : Choice) → IsTrue (are_narrow e.sites) → InRange e choice → length names ≡ sum (sites_widths e.sites) → (v : ℕ → Bool) → (clause_true v (exclusion e names choice) ≡ false) ↔ IsAgreed e names choice v

-- The values that meet the clauses of the second formula are those that meet the clauses of the first and say a choice which agrees
-- with none that is listed where its sites stand. Where they meet the first alone, that choice agrees with one that is listed.
pub record AreExact (e : Expanded) (f g : Encoded) (listed : List Listed) : Type 0 where
  pub met : (v : ℕ → Bool) → Meets v g.clauses.clauses ↔ (Meets v f.clauses.clauses × All (λ (l : Listed). IsAgreed e f.names l.choice v → ⊥) listed)
  pub unmet : (v : ℕ → Bool) → Meets v f.clauses.clauses → (Meets v g.clauses.clauses → ⊥) → (l : Listed) × Contains listed l × IsAgreed e f.names l.choice v
