-- Codes, and the values of nodes for which they stand.
use Rattle.std.proofs.Common.{◌≡◌, ℕ, zero, suc, Bool, true, false, not, List, [], ◌∷◌, Option, Some, None, slice_get, refl, sym, ap, subst, ◌∙◌, arith, if◌then◌else◌, nat_lt, nat_le, pos}
use Rattle.std.proofs.lemmas.Option.{get_or_from_slice_get, none-some}
use Rattle.std.proofs.lemmas.List.Elements.{All-head, All-tail}
use Rattle.std.proofs.Math.ListN.{get_or-map}
use Rattle.std.proofs.lemmas.Bool.Decides.{nat_tests}
use Rattle.sk_base.specs.Word.{half, signed}
use Rattle.sk_clause.specs.Problem.{Problem}
use Rattle.sk_dag.specs.declared.env.Env.{Env}
use Rattle.sk_dag.specs.declared.value.Value.{Value}
use Rattle.sk_dag.specs.declared.node.Node.{Node}
use Rattle.sk_dag.specs.declared.node.Node.TheVariants.{Flag, Word, HoleBit, HoleWord, InputBit, InputWord, Not, And, Or, Xor, BoolMux, Mux, Add, Sub, Mul, Div, Rem, Lt, Eq, CostZero, CostAdd, CostLe}
use Rattle.sk_dag.specs.Eval.{value_of, value_at}
use Rattle.sk_dag.specs.Reach.{children, Each}
use Rattle.sk_gates.proofs.SharingLaws.{Builds-weaker}
use Rattle.sk_gates.proofs.ExtensionLaws.{Continues-refl, Continues-trans, Continues-same, Continues-adds}
use Rattle.sk_cnf.specs.declared.leaf.Leaf.{Leaf}
use Rattle.sk_cnf.specs.declared.code.Code.{Code}
use Rattle.sk_cnf.specs.Codes.{code_value, slot_value, coded_at, table_values, SlotFits, TableFits, Computes, IsCode}
use Rattle.sk_base.proofs.Words.{half_pos}

pub coded_from_computed : {w : ℕ} {leaves : List Leaf} {names : List ℕ} {codes : List (Option Code)} {node : Node} {old new : Problem} {code : Code} → Computes w codes node old new code → IsCode w leaves names codes node old new code
coded_from_computed h = record { fits = h.fits; gate = Builds-weaker _ _ h.gate (λ v f e said. f e) }

pub ruleset coding = (coded_from_computed, Continues-refl)

-- the value for which a place of the table stands
pub value_of_place : (w : ℕ) (v : ℕ → Bool) (codes : List (Option Code)) (i : ℕ) → value_at (table_values w v codes) i ≡ slot_value w v (coded_at codes i)
value_of_place w v codes i = get_or-map (slot_value w v) codes i None

pub place_fits : (w vars : ℕ) (codes : List (Option Code)) (i : ℕ) → TableFits w vars codes → SlotFits w vars (coded_at codes i)
place_fits w vars [] i h = tt
place_fits w vars (x ∷ xs) zero h = All-head (SlotFits w vars) x xs h
place_fits w vars (x ∷ xs) (suc i) h = place_fits w vars xs i (All-tail (SlotFits w vars) x xs h)

pub coded_here : (codes : List (Option Code)) (i : ℕ) (code : Code) → coded_at codes i ≡ Some code → slice_get codes i ≡ Some (Some code)
coded_here [] i code h = absurd (none-some code h)
coded_here (x ∷ xs) zero code h = ap Some h
coded_here (x ∷ xs) (suc i) code h = coded_here xs i code h

pub none_at : (codes : List (Option Code)) (i : ℕ) → slice_get codes i ≡ None → coded_at codes i ≡ None
none_at [] i h = refl
none_at (x ∷ xs) zero h = absurd (none-some x (sym h))
none_at (x ∷ xs) (suc i) h = none_at xs i h

pub signed_zero : (w : ℕ) → signed w 0 ≡ pos 0
signed_zero w = let some = half_pos w in let t : nat_lt 0 (half w) ≡ true = grind (arith, nat_tests) in rw t refl

-- ---- what is read of the table

module _ (codes : List (Option Code)) (i : ℕ) (slot : Option Code) (is : slot ≡ coded_at codes i) where
  pub slot_is : (w : ℕ) (v : ℕ → Bool) → value_at (table_values w v codes) i ≡ slot_value w v slot
  slot_is w v = value_of_place w v codes i ∙ ap (slot_value w v) (sym is)

  pub slot_fits : (w vars : ℕ) → TableFits w vars codes → SlotFits w vars slot
  slot_fits w vars h = subst (SlotFits w vars) (sym is) (place_fits w vars codes i h)

-- the value of a place of the table at which a code stands
pub value_of_slot : (w : ℕ) (v : ℕ → Bool) (codes : List (Option Code)) (i : ℕ) (code : Code) → slice_get codes i ≡ Some (Some code) → value_at (table_values w v codes) i ≡ code_value w v code
value_of_slot w v codes i code h =
    get_or-map (slot_value w v) codes i None ∙ ap (slot_value w v) (get_or_from_slice_get codes i (Some code) None h)

-- a node's value comes from those of its children
pub value_of_children : (w : ℕ) (e : Env) (us vs : List Value) (n : Node) → Each (λ c. value_at us c ≡ value_at vs c) (children n) → value_of w e us n ≡ value_of w e vs n
unfolding value_of
value_of_children w e us vs (Flag b) h = refl
value_of_children w e us vs (Word z) h = refl
value_of_children w e us vs (HoleBit site k) h = refl
value_of_children w e us vs (HoleWord site) h = refl
value_of_children w e us vs (InputBit i) h = refl
value_of_children w e us vs (InputWord i) h = refl
value_of_children w e us vs (Not a) h = rw h.0
value_of_children w e us vs (And a b) h = rw (h.0, h.1.0)
value_of_children w e us vs (Or a b) h = rw (h.0, h.1.0)
value_of_children w e us vs (Xor a b) h = rw (h.0, h.1.0)
value_of_children w e us vs (BoolMux c a b) h = rw (h.0, h.1.0, h.1.1.0)
value_of_children w e us vs (Mux c a b) h = rw (h.0, h.1.0, h.1.1.0)
value_of_children w e us vs (Add a b) h = rw (h.0, h.1.0)
value_of_children w e us vs (Sub a b) h = rw (h.0, h.1.0)
value_of_children w e us vs (Mul a b) h = rw (h.0, h.1.0)
value_of_children w e us vs (Div a b) h = rw (h.0, h.1.0)
value_of_children w e us vs (Rem a b) h = rw (h.0, h.1.0)
value_of_children w e us vs (Lt a b) h = rw (h.0, h.1.0)
value_of_children w e us vs (Eq a b) h = rw (h.0, h.1.0)
value_of_children w e us vs CostZero h = refl
value_of_children w e us vs (CostAdd c g x) h = rw (h.0, h.1.0, h.1.1.0)
value_of_children w e us vs (CostLe c limit) h = rw h.0

pub signed_choice : (w : ℕ) (c : Bool) (m n : ℕ) → signed w (if c then m else n) ≡ (if c then signed w m else signed w n)
signed_choice w true m n = refl
signed_choice w false m n = refl

pub not_not : (b : Bool) → not (not b) ≡ b
not_not true = refl
not_not false = refl

pub not_below : (a b : ℕ) → not (nat_lt a b) ≡ nat_le b a
not_below a b = by (nat_lt a b) refl
  where
    by : (t : Bool) → nat_lt a b ≡ t → not t ≡ nat_le b a
    by true e = let s : nat_le b a ≡ false = grind (arith, nat_tests) in sym s
    by false e = let s : nat_le b a ≡ true = grind (arith, nat_tests) in sym s
