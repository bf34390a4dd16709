-- What the makers of this crate rest on.
use Rattle.std.proofs.Common.{◌≡◌, ℕ, ℤ, pos, neg_ℤ, ◌-ℤ◌, Bool, true, false, ◌&&◌, refl, sym, ap, ◌∙◌, arith}
use Rattle.std.proofs.lemmas.Int.{ints}
use Rattle.sk_base.specs.Word.{wrapped}
use Rattle.sk_base.proofs.Words.{IsWord-wrapped}
use Rattle.sk_dag.specs.Graph.{Graph}
use Rattle.sk_dag.specs.declared.env.Env.{Env}
use Rattle.sk_dag.specs.declared.node.WordId.{WordId}
use Rattle.sk_dag.specs.Eval.{Keeps, word_value, as_word, value_at, graph_values}
use Rattle.sk_dag.proofs.EvalLemmas.{Keeps-trans, HasSort-grows, Grows-refl, read_bool, read_word}
use Rattle.sk_simplify.proofs.RuleLemmas.{and_swap, HasSort-within, read_range, read_word_given, machine_word, zero_word, IsWord-quotient, IsWord-remainder, add_zero_left, add_zero_right, sub_zero, sub_self, mul_zero_left, mul_zero_right, mul_one_left, mul_one_right}

pub Keeps-refl : (a : Graph) → Keeps a a
Keeps-refl a = record { later = λ g h. h; sorts = λ i s h. h }

pub ruleset staying = (Keeps-refl)

pub ruleset reading = (read_bool, read_word, read_range, read_word_given, HasSort-within)

-- ---- truth values

pub absorb_first : (a b c : Bool) → a ≡ (b && c) → (a && b) ≡ a
absorb_first true true c e = refl
absorb_first true false c e = cc
absorb_first false b c e = refl

pub ruleset absorbing = (absorb_first)

pub and_same : (a : Bool) → (a && a) ≡ a
and_same true = refl
and_same false = refl

pub ruleset joining = (Keeps-refl, and_same, and_swap)

-- ---- words

pub ruleset arithmetic = (Keeps-refl, machine_word, zero_word, IsWord-wrapped, IsWord-quotient, IsWord-remainder, add_zero_left, add_zero_right, sub_zero, sub_self, mul_zero_left, mul_zero_right, mul_one_left, mul_one_right)

pub sub_same : (w : ℕ) (g : Graph) (e : Env) (a b : WordId) → a.index ≡ b.index → wrapped w (word_value g e a -ℤ word_value g e b) ≡ pos 0
unfolding word_value
sub_same w g e a b same =
    ap (λ i. wrapped w (word_value g e a -ℤ as_word (value_at (graph_values g e) i))) (sym same) ∙ sub_self w (word_value g e a)

pub less_zero : (z : ℤ) → (pos 0 -ℤ z) ≡ neg_ℤ z
less_zero z = omega (arith, ints)

pub ruleset negating = (Keeps-refl, zero_word, less_zero)
