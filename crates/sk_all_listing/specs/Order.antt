-- The order of lists of values.
use Rattle.std.specs.Prelude.{ℕ, zero, suc, Bool, false, ◌&&◌, ◌||◌, nat_eq, nat_lt, if◌then◌else◌, List, [], ◌∷◌, All, IsTrue}
use Rattle.sk_model.specs.declared.expanded.Choice.{Choice}
use Rattle.sk_all_exclusions.specs.declared.listed.Listed.{Listed}

-- whether the first has the smaller value at the first place at which they differ
abbrev pub is_before : List ℕ → List ℕ → Bool
is_before [] ws = false
is_before (v ∷ vs) [] = false
is_before (v ∷ vs) (w ∷ ws) = nat_lt v w || (nat_eq v w && is_before vs ws)

-- each list of values is before those behind it
abbrev pub AreAscending : List Choice → Type 0
AreAscending [] = Unit {0}
AreAscending (c ∷ cs) = All (λ (d : Choice). IsTrue (is_before c.values d.values)) cs × AreAscending cs

-- how many stand before the first that these values are before
abbrev pub place_of : List ℕ → List Listed → ℕ
place_of values [] = zero
place_of values (l ∷ ls) = if is_before values l.choice.values then zero else suc (place_of values ls)

-- before the first that it is before
abbrev pub inserted : Listed → List Listed → List Listed
inserted one [] = one ∷ []
inserted one (l ∷ ls) = if is_before one.choice.values l.choice.values then one ∷ l ∷ ls else l ∷ inserted one ls
