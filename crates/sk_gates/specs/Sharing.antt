-- Gates that are kept with the bits that were made for them.
use Rattle.std.specs.Prelude.{◌≡◌, ℕ, ◌≤◌, Bool, not, ◌&&◌, if◌then◌else◌, List, All}
use Rattle.sk_clause.specs.Meaning.{Meets}
use Rattle.sk_clause.specs.Problem.{Problem}
use Rattle.sk_gates.specs.declared.bit.Bit.{Bit}
use Rattle.sk_gates.specs.Bits.{bit_true, reach, differ, choose}
use Rattle.sk_gates.specs.Extension.{Adds}
use Rattle.sk_gates.specs.declared.key.Operand.{Operand}
use Rattle.sk_gates.specs.declared.key.Gate.{Gate}
use Rattle.sk_gates.specs.declared.key.Gate.TheVariants.{And, Xor, Mux}

-- what the values of the variables make of a literal
abbrev pub operand_true : (ℕ → Bool) → Operand → Bool
operand_true v a = if a.neg then not (v a.var) else v a.var

-- and of a gate
abbrev pub gate_true : (ℕ → Bool) → Gate → Bool
gate_true v (And a b) = operand_true v a && operand_true v b
gate_true v (Xor a b) = differ (operand_true v a) (operand_true v b)
gate_true v (Mux c a b) = choose (operand_true v c) (operand_true v a) (operand_true v b)

-- the bit is over the variables, and has the gate's value under each assignment that meets the clauses
pub record Stands (problem : Problem) (gate : Gate) (bit : Bit) : Type 0 where
  pub within : reach bit ≤ problem.vars
  pub value : (v : ℕ → Bool) → Meets v problem.clauses → bit_true v bit ≡ gate_true v gate

-- each bit stands for its gate
abbrev pub AreMade : Problem → List (Gate × Bit) → Type 0
AreMade problem made = All (λ e. Stands problem e.0 e.1) made

-- New has the variables and clauses of old, and others behind them, so that each assignment of the old variables has
-- exactly one extension that meets the added clauses. Says is true of every assignment that meets all clauses of new:
-- gates of which it speaks may have been made before, by old clauses.
abbrev pub Builds : Problem → Problem → ((ℕ → Bool) → Type 0) → Type 0
Builds old new Says = Adds old new (λ v. Meets v old.clauses → Says v)
