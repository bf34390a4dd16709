-- Clauses that exclude a choice, and all that agree with it where its sites stand.
use Rattle.std.specs.Prelude.{ℕ, ◌≡◌, ◌<◌, ◌++◌, Bool, false, ◌&&◌, nat_lt, if◌then◌else◌, List, [], ◌∷◌, map, length, All, slice_index_or}
use Rattle.std.specs.List.{sum}
use Rattle.sk_clause.specs.declared.lit.Lit.{Lit}
use Rattle.sk_cnf.specs.declared.growing.Encoded.{Encoded}
use Rattle.sk_cnf.specs.declared.leaf.Leaf.{Leaf}
use Rattle.sk_cnf.specs.declared.leaf.Leaf.TheVariants as leaf
use Rattle.sk_dag.specs.Word.{bit_of}
use Rattle.sk_model.specs.declared.expanded.Choice.{Choice}
use Rattle.sk_model.specs.declared.expanded.Expanded.{Expanded}
use Rattle.sk_model.specs.Fill.{InRange}
use Rattle.sk_model.specs.Parts.{value}
use Rattle.sk_model.specs.Stands.{standing, sites_stand}
use Rattle.sk_oblig_queries.specs.Numbers.{leaves_from}
use Rattle.sk_oblig_queries.specs.Widths.{sites_widths}
use Rattle.sk_all_exclusions.specs.declared.listed.Listed.{Listed}

-- bit k of a number of 64 bits
abbrev pub bit_at : ℕ → ℕ → Bool
bit_at n k = nat_lt k 64 && bit_of n k

-- where it is marked, the literal of this name that is true where the name has not this bit
abbrev pub denial : Bool → ℕ → Bool → List Lit
denial marked name bit = if marked then record { var = name; neg = bit } ∷ [] else []

-- so of the bit of a leaf, which is marked where its site is
abbrev pub denied : List Bool → List ℕ → ℕ → Leaf → List Lit
denied marks values name (leaf.Hole site k) = denial (slice_index_or marks site false) name (bit_at (value values site) k)
denied marks values name (leaf.Input scalar k) = []

-- and of the bits of all leaves, which have these names
abbrev pub all_denied : List Bool → List ℕ → List ℕ → List Leaf → List Lit
all_denied marks values [] leaves = []
all_denied marks values (x ∷ xs) [] = []
all_denied marks values (x ∷ xs) (l ∷ ls) = denied marks values x l ++ all_denied marks values xs ls

-- the leaves of the bits of all sites
abbrev pub site_leaves : Expanded → List Leaf
site_leaves e = leaves_from leaf.Hole 0 (sites_widths e.sites)

-- the clause over the names of the bits of all sites by which some bit of a site that stands is not that of the choice
abbrev pub exclusion : Expanded → List ℕ → Choice → List Lit
exclusion e names choice = all_denied (sites_stand (standing e choice.values)) choice.values names (site_leaves e)

-- a clause for each choice that is listed
abbrev pub exclusions : Expanded → List ℕ → List Listed → List (List Lit)
exclusions e names listed = map (λ (l : Listed). exclusion e names l.choice) listed

-- A choice in range, with a mark for each site that stands under it.
pub record IsListed (e : Expanded) (l : Listed) : Type 0 where
  pub range : InRange e l.choice
  pub marked : l.marks ≡ sites_stand (standing e l.choice.values)

-- The formula has a name for each bit of each site.
pub record HasNames (f : Encoded) (e : Expanded) : Type 0 where
  pub named : length f.names ≡ sum (sites_widths e.sites)
  pub within : All (λ x. x < f.clauses.vars) f.names
