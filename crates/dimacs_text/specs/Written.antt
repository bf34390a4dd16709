-- How values and logs are written in the DIMACS format. Numbers of variables begin with 1 there.
use Rattle.std.specs.Prelude.{ℕ, suc, ◌+◌, ◌-◌, ◌^◌, ◌++◌, Bool, true, false, not, List, [], ◌∷◌, min, codes}
use Rattle.std.specs.List.{flat_map}
use Rattle.std.specs.Fmt.{decimal}
use Rattle.sk_clause.specs.declared.lit.Lit.{Lit}

-- a minus in front of a negation
abbrev pub sign_text : Bool → List ℕ
sign_text true = codes "-"
sign_text false = []

-- a literal: its number, with its sign, and a blank
abbrev pub lit_text : Lit → List ℕ
lit_text l = sign_text l.neg ++ (decimal (min (l.var + 1) (2 ^ 64 - 1)) ++ codes " ")

-- a clause: its literals, and 0, on a line
abbrev pub clause_text : List Lit → List ℕ
clause_text c = flat_map lit_text c ++ codes "0\n"

-- a log: its clauses in order
abbrev pub log_lines : List (List Lit) → List ℕ
log_lines log = flat_map clause_text log

-- the literals that values make true, of the variables from v on
abbrev pub true_lits : ℕ → List Bool → List ℕ
true_lits v [] = []
true_lits v (b ∷ bs) = lit_text (record { var = v; neg = not b }) ++ true_lits (suc v) bs

-- values: the true literals of all variables, as a line `v` that 0 ends
abbrev pub value_line : List Bool → List ℕ
value_line values = codes "v " ++ true_lits 0 values ++ codes "0"
