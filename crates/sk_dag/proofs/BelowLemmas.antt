-- A table of the values of some nodes.
use Rattle.std.proofs.Common.{◌≡◌, ℕ, ◌<◌, false, List, Option, Some, None, length, slice_get, Contains, refl, sym, subst, ◌∙◌, arith, pos, true≢false}
use Rattle.std.specs.Option.{IsSome, unwrap_or}
use Rattle.std.proofs.lemmas.Int.{ints}
use Rattle.std.proofs.lemmas.List.{take_all}
use Rattle.sk_dag.specs.declared.env.Env.{Env}
use Rattle.sk_dag.specs.declared.node.Node.{Node}
use Rattle.sk_dag.specs.declared.value.Value.{Value}
use Rattle.sk_dag.specs.declared.value.Value.TheVariants.{Bit}
use Rattle.sk_dag.specs.declared.table.Table.{Table}
use Rattle.sk_dag.specs.Word.{IsMachineWord}
use Rattle.sk_dag.specs.Graph.{IsWellFormed}
use Rattle.sk_dag.specs.Eval.{values, value_of, value_at, as_word, HoldsMachineWords}
use Rattle.sk_dag.specs.Reach.{children, Each}
use Rattle.sk_dag.specs.Below.{HoldsValues, IsKnown, entry_of}
use Rattle.sk_dag.proofs.EvalLemmas.{HoldsMachineWords-values, value_of_node}
use Rattle.sk_dag.proofs.ReachLemmas.{each_map, each_of, children_before}

-- what a table gives for a node: its value, or false
abbrev pub given : Table → ℕ → Value
given table i = unwrap_or (entry_of table i) (Bit false)

pub words_of_all : (w : ℕ) (e : Env) (ns : List Node) → IsWellFormed w ns → HoldsMachineWords (values w e ns)
words_of_all w e ns wf =
    subst (λ l. HoldsMachineWords (values w e l)) (take_all (length ns) ns (omega arith)) (HoldsMachineWords-values w e ns wf (length ns) (omega arith))

zero_fits : IsMachineWord (pos 0)
zero_fits = record { low = omega (arith, ints); high = omega (arith, ints) }

-- it gives machine words
pub given-words : (table : Table) (vs : List Value) → HoldsValues table vs → HoldsMachineWords vs → (i : ℕ) → IsMachineWord (as_word (given table i))
given-words table vs holds words i = by (entry_of table i) refl
  where
    by : (o : Option Value) → entry_of table i ≡ o → IsMachineWord (as_word (unwrap_or o (Bit false)))
    by None e = zero_fits
    by (Some v) e = subst (λ x. IsMachineWord (as_word x)) (sym (holds.each i v e)) (words.each i)

-- and the values themselves where it has some
given-known : (table : Table) (vs : List Value) → HoldsValues table vs → (i : ℕ) → IsKnown table i → given table i ≡ value_at vs i
given-known table vs holds i known = by (entry_of table i) refl known
  where
    by : (o : Option Value) → entry_of table i ≡ o → IsSome o → unwrap_or o (Bit false) ≡ value_at vs i
    by None e s = absurd (true≢false (sym s))
    by (Some v) e s = holds.each i v e

-- what a node comes to by a table that has a value for each child
pub value_from_table : (w : ℕ) (e : Env) (ns : List Node) (i : ℕ) (n : Node) (v : Value) (table : Table) → IsWellFormed w ns → slice_get ns i ≡ Some n → HoldsValues table (values w e ns) → Each (IsKnown table) (children n)
    → ((vs : List Value) → Each (λ c. given table c ≡ value_at vs c) (children n) → v ≡ value_of w e vs n) → v ≡ value_at (values w e ns) i
value_from_table w e ns i n v table wf there holds known by =
    by (values w e ns) (each_map _ _ (children n) (given-known table (values w e ns) holds) known) ∙ sym (value_of_node w e ns i n wf there)

-- a child is one of the nodes
pub child_within : (w : ℕ) (ns : List Node) (i c : ℕ) (n : Node) → IsWellFormed w ns → slice_get ns i ≡ Some n → i < length ns → Contains (children n) c → c < length ns
child_within w ns i c n wf there within among =
    let before = each_of _ (children n) c (children_before w ns i n (wf.each i n there)) among in
    omega (arith, before, within)
