-- How many variables of a function are in scope at one place, at the most. The slot of a declaration is
-- the number of those in scope before it, so with it there is one more; the parameters are always in
-- scope. A function that expansion or filling makes has as many slots as it needs.
use Rattle.std.specs.Prelude.{ℕ, suc, max, List, [], ◌∷◌, map, length, Option, Some, None}
use Rattle.sk_prog.specs.declared.prog.Fun.{Fun}
use Rattle.sk_prog.specs.declared.stmt.PStmt.{PStmt}
use Rattle.sk_prog.specs.declared.stmt.PForm.TheOpen as S
use Rattle.sk_prog.specs.declared.stmt.PForm.TheFolds.{fold-PStmt}

abbrev pub greatest : List ℕ → ℕ
greatest [] = 0
greatest (n ∷ ns) = max n (greatest ns)

abbrev pub any_slots : Option ℕ → ℕ
any_slots None = 0
any_slots (Some n) = n

abbrev pub form_slots : S.PForm-F ℕ ℕ → ℕ
form_slots (S.Declare slot name t value) = suc slot
form_slots (S.Block ss) = greatest ss
form_slots (S.If c a b) = max a (any_slots b)
form_slots (S.While c a) = a
form_slots (S.Repeat c copies) = greatest copies
form_slots (S.MinRepeat copies) = greatest copies
form_slots (S.Reorder ss) = greatest ss
form_slots (S.Assign target value) = 0
form_slots (S.Call e) = 0
form_slots (S.Return value) = 0
form_slots (S.Assert e) = 0
form_slots (S.Assume e) = 0
form_slots (S.Minimize e) = 0

abbrev pub stmt_slots : PStmt → ℕ
stmt_slots = fold-PStmt ℕ ℕ form_slots (λ s. s.form)

abbrev pub stmts_slots : List PStmt → ℕ
stmts_slots ss = greatest (map stmt_slots ss)

-- the function with this body, and the slots that it needs
abbrev pub with_body : Fun → List PStmt → Fun
with_body f body = record f { slots = max (length f.params) (stmts_slots body); body = body }
