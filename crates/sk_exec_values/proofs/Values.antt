-- Arguments, one after another.
use Rattle.std.proofs.Common.{◌≡◌, ℕ, List, [], ◌∷◌, ◌++◌, Some, refl, sym, ap, append_assoc}
use Rattle.std.specs.Prelude.{Result, Ok, Err}
use Rattle.std.proofs.lemmas.List.{append-nil}
use Rattle.sk_prog.specs.declared.value.Value.{Value}
use Rattle.sk_exec_values.specs.declared.fault.ArgumentFault.{ArgumentFault}
use Rattle.sk_exec_values.specs.Arguments.{first_of}

-- these values in front of those that are read, if none is wrong
abbrev pub behind : List Value → Result (List Value) ArgumentFault → Result (List Value) ArgumentFault
behind vs (Ok ws) = Ok (vs ++ ws)
behind vs (Err f) = Err f

pub behind_none : (read : Result (List Value) ArgumentFault) → read ≡ behind [] read
behind_none (Ok ws) = refl
behind_none (Err f) = refl

pub behind_one : (vs : List Value) (index : ℕ) (v : Value) (read : Result (List Value) ArgumentFault) → behind vs (first_of index (Some v) read) ≡ behind (vs ++ v ∷ []) read
behind_one vs index v (Ok ws) = ap Ok (sym (append_assoc vs (v ∷ []) ws))
behind_one vs index v (Err f) = refl

pub behind_all : (vs : List Value) → behind vs (Ok []) ≡ Ok vs
behind_all vs = ap Ok (append-nil vs)

pub ruleset steps = (behind_none, behind_one, behind_all)
