-- The turns of one statement after another.
use Rattle.std.proofs.Common.{◌≡◌, ℕ, zero, suc, ◌+◌, ◌<◌, ◌≤◌, List, [], ◌∷◌, ◌++◌, length, length-append, get_or, Option, refl, sym, ap, subst, ◌∙◌, arith, inl, inr}
use Rattle.std.proofs.lemmas.Bool.Decides.{leb_tells}
use Rattle.sk_dag.specs.declared.env.Env.{Env}
use Rattle.sk_dag.specs.declared.node.BoolId.{BoolId}
use Rattle.sk_dag.specs.Graph.{Graph, Grows}
use Rattle.sk_dag.specs.Eval.{Keeps}
use Rattle.sk_model.specs.declared.expanded.Choice.{Choice}
use Rattle.sk_model.specs.declared.expanded.Expanded.{Expanded}
use Rattle.sk_model.specs.declared.expanded.Site.{Site}
use Rattle.sk_sym_choices.specs.Orders.{AreTurns}
use Rattle.sk_sym_choices.specs.Payments.{choice_in, GiveDigits, IsColumn, AreColumns}
use Rattle.sk_sym_choices.proofs.Going.{in_range}
use Rattle.sk_sym_choices.proofs.Turns.{there_keeps}

-- the turns of a statement whose digits are in range where the choice is
pub column_by : {d : Graph} (e : Expanded) (given : Option Choice) (first count k : ℕ) (nodes : List BoolId)
    → GiveDigits e.sites first count → AreTurns d given first count k nodes → IsColumn d e given first count k nodes
column_by e given first count k nodes digits turns = record {
  there = turns.there;
  long = turns.long;
  value = λ g grows env range. turns.value g grows env (digits.each _ (in_range e (choice_in given env) range));
}

column_keeps : {d0 d1 : Graph} {e : Expanded} {given : Option Choice} {first count k : ℕ} {nodes : List BoolId} → Keeps d0 d1 → IsColumn d0 e given first count k nodes → IsColumn d1 e given first count k nodes
column_keeps keeps h = record {
  there = there_keeps keeps h.there;
  long = h.long;
  value = λ g grows env range. h.value g (keeps.later g grows) env range;
}

pub columns_none : (d : Graph) (e : Expanded) (given : Option Choice) (first count : ℕ) → AreColumns d e given first count 0 []
columns_none d e given first count = record {
  long = refl;
  each = λ k other l. absurd (omega (arith, l));
}

last_of : {A : Type 0} (xs : List A) (x d : A) → get_or (xs ++ x ∷ []) (length xs) d ≡ x
last_of [] x d = refl
last_of (y ∷ xs) x d = last_of xs x d

before_last : {A : Type 0} (xs : List A) (x d : A) (k : ℕ) → k < length xs → get_or (xs ++ x ∷ []) k d ≡ get_or xs k d
before_last [] x d k l = absurd (omega (arith, l))
before_last (y ∷ xs) x d zero l = refl
before_last (y ∷ xs) x d (suc k) l = before_last xs x d k (omega (arith, l))

-- one more column
pub columns_more : {d0 d1 : Graph} {e : Expanded} {given : Option Choice} {first count many : ℕ} {columns : List (List BoolId)} (column : List BoolId)
    → AreColumns d0 e given first count many columns → Keeps d0 d1 → IsColumn d1 e given first count many column
    → AreColumns d1 e given first count (many + 1) (columns ++ column ∷ [])
columns_more {d0} {d1} {e} {given} {first} {count} {many} {columns} column h keeps new = record {
  long = let a = h.long in omega (arith, length-append columns (column ∷ []), a);
  each = λ k other l.
      elim (leb_tells (suc k) (length columns)) [
        | inl u ↦ let below : k < length columns = u.1 in
            subst (λ (nodes : List BoolId). IsColumn d1 e given first count k nodes) (sym (before_last columns column other k below)) (column_keeps keeps (h.each k other (let a = h.long in omega (arith, below, a))))
        | inr u ↦
            let last : length columns ≡ k = let a = h.long in omega (arith, u.1, l, a) in
            let named : many ≡ k = sym h.long ∙ last in
            subst (λ (nodes : List BoolId). IsColumn d1 e given first count k nodes) (sym (ap (λ n. get_or (columns ++ column ∷ []) n other) (sym last) ∙ last_of columns column other))
            (subst (λ (n : ℕ). IsColumn d1 e given first count n column) named new)
      ];
}
