-- The functions of a program under a choice, one after another.
use Rattle.std.specs.Prelude.{ℕ, List, slice_index_or, Bool, false, ◌||◌, nat_lt}
use Rattle.sk_prog.specs.declared.prog.Fun.{Fun}
use Rattle.sk_prog.specs.declared.stmt.PStmt.{PStmt}
use Rattle.sk_model.specs.Stands.{Standing, body_standing}
use Rattle.sk_model.specs.Fill.{minimize_of}
use Rattle.sk_holes_standing.specs.declared.met.Paid.{Paid}
use Rattle.sk_holes_standing.specs.Met.{payment}
use Rattle.sk_holes_standing.specs.Marks.{kept_if}

-- `minimize(v);` for a minrepeat that pays v
abbrev pub minimize_paid : Paid → PStmt
minimize_paid p = minimize_of (payment p)

-- whether the function with this number stands, where so many stand always and a table says which are called
abbrev pub stands_by : ℕ → List Bool → ℕ → Bool
stands_by ordinary table n = nat_lt n ordinary || slice_index_or table n false

-- how many sites a function has
abbrev pub sites_in : List ℕ → Fun → ℕ
sites_in values f = (body_standing values f.body).count

-- what stands in the function with this number, whose first site has place i, where a table says which are called
abbrev pub stood_in : List ℕ → ℕ → List Bool → ℕ → Fun → ℕ → Standing
stood_in values ordinary table n f i = (kept_if (stands_by ordinary table n) (body_standing values f.body)).at i
