-- What gates of bits come to.
use Rattle.std.proofs.Common.{◌≡◌, ℕ, ◌+◌, ◌*◌, ◌≤◌, ◌<◌, Bool, true, false, List, [], ◌∷◌, ◌++◌, map, refl, arith}
use Rattle.std.proofs.lemmas.List.Elements.{All-weaker, All-push, All-map}
use Rattle.sk_clause.specs.declared.lit.Lit.{Lit}
use Rattle.sk_clause.specs.Problem.{IsWithin}
use Rattle.sk_gates.specs.declared.bit.Bit.{Bit}
use Rattle.sk_gates.specs.declared.bit.Bit.TheVariants.{Constant, Literal}
use Rattle.sk_gates.specs.Bits.{bit_true, reach, AreOver, differ, choose}
use Rattle.sk_gates.specs.Words.{digit}

pub choose_same : (c a b : Bool) → a ≡ b → a ≡ choose c a b
choose_same true a b e = refl
choose_same false a b e = e

pub choose_first : (v : ℕ → Bool) (c : Bit) (k a b : Bool) → c ≡ Constant k → k ≡ true → a ≡ choose (bit_true v c) a b
choose_first v c k a b e h = rw (e, h)

pub choose_second : (v : ℕ → Bool) (c : Bit) (k a b : Bool) → c ≡ Constant k → k ≡ false → b ≡ choose (bit_true v c) a b
choose_second v c k a b e h = rw (e, h)

pub adder_table : (a b c : Bool) → digit (differ (differ a b) c) + 2 * digit (choose (differ a b) c a) ≡ digit a + digit b + digit c
adder_table true true true = refl
adder_table true true false = refl
adder_table true false true = refl
adder_table true false false = refl
adder_table false true true = refl
adder_table false true false = refl
adder_table false false true = refl
adder_table false false false = refl

pub adder_row : (s e k a b c : Bool) → e ≡ differ a b → s ≡ differ e c → k ≡ choose e c a → digit s + 2 * digit k ≡ digit a + digit b + digit c
adder_row s e k a b c f g h = rw (g, h, f) (adder_table a b c)

pub AreOver-later : (m n : ℕ) (bits : List Bit) → m ≤ n → AreOver m bits → AreOver n bits
AreOver-later m n bits h w = All-weaker (λ b. reach b ≤ m) (λ b. reach b ≤ n) (λ b k. omega arith) bits w

pub AreOver-push : (n : ℕ) (bits : List Bit) (b : Bit) → AreOver n bits → reach b ≤ n → AreOver n (bits ++ b ∷ [])
AreOver-push n bits b w h = All-push (λ x. reach x ≤ n) bits b w h

pub AreOver-literals : (n : ℕ) (lits : List Lit) → IsWithin n lits → AreOver n (map Literal lits)
AreOver-literals n lits h = All-map (λ x. reach x ≤ n) Literal lits (All-weaker (λ (l : Lit). l.var < n) (λ (l : Lit). l.var + 1 ≤ n) (λ l k. omega arith) lits h)
