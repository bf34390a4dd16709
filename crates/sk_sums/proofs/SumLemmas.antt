-- Sums modulo 2: terms that are added, taken away and followed.
use Rattle.std.proofs.Common.{◌≡◌, ℕ, zero, suc, ◌<◌, ◌+◌, Bool, true, false, not, List, [], ◌∷◌, All, length, take, drop, insert, remove, slice_index, refl, sym, ap, subst, ◌∙◌, arith}
use Rattle.std.proofs.lemmas.List.{at_drop_more}
use Rattle.std.proofs.lemmas.List.Elements.{All-append, All-take, All-drop, All-cons}
use Rattle.sk_dag.specs.declared.env.Env.{Env}
use Rattle.sk_dag.specs.declared.value.Value.{Value}
use Rattle.sk_dag.specs.Graph.{Graph, Grows, HasSort, BoolSort}
use Rattle.sk_dag.specs.declared.node.BoolId.{BoolId}
use Rattle.sk_dag.specs.declared.node.Node.TheVariants.{Xor, Not}
use Rattle.sk_dag.specs.Eval.{as_bool, value_of, bool_value, graph_values, IsNode}
use Rattle.sk_sums.specs.declared.spread.Sum.{Sum}
use Rattle.sk_sums.specs.Sums.{plus, truth_at, sum_at, sum_value, AreTruths, StandsAt, SumsTo}

-- ---- sums

pub plus_swap : (a b c : Bool) → plus a (plus b c) ≡ plus b (plus a c)
plus_swap true true true = refl
plus_swap true true false = refl
plus_swap true false true = refl
plus_swap true false false = refl
plus_swap false true true = refl
plus_swap false true false = refl
plus_swap false false true = refl
plus_swap false false false = refl

pub plus_twice : (a b : Bool) → plus a (plus a b) ≡ b
plus_twice true true = refl
plus_twice true false = refl
plus_twice false true = refl
plus_twice false false = refl

-- ---- terms

pub sum_insert : (vs : List Value) (xs : List ℕ) (i x : ℕ) → sum_at vs (insert xs i x) ≡ plus (truth_at vs x) (sum_at vs xs)
sum_insert vs xs zero x = refl
sum_insert vs [] (suc i) x = refl
sum_insert vs (y ∷ xs) (suc i) x =
    ap (plus (truth_at vs y)) (sum_insert vs xs i x) ∙ plus_swap (truth_at vs y) (truth_at vs x) (sum_at vs xs)

pub sum_remove : (vs : List Value) (xs : List ℕ) (i : ℕ) → i < length xs → sum_at vs (remove xs i) ≡ plus (truth_at vs (slice_index xs i)) (sum_at vs xs)
sum_remove vs [] i l = absurd (omega (arith, l))
sum_remove vs (y ∷ xs) zero l = sym (plus_twice (truth_at vs y) (sum_at vs xs))
sum_remove vs (y ∷ xs) (suc i) l =
    ap (plus (truth_at vs y)) (sum_remove vs xs i (omega (arith, l))) ∙ plus_swap (truth_at vs y) (truth_at vs (slice_index xs i)) (sum_at vs xs)

pub all_insert : (P : ℕ → Type 0) (xs : List ℕ) (i x : ℕ) → P x → All P xs → All P (insert xs i x)
all_insert P xs i x p all = All-append P (take i xs) (x ∷ drop i xs) (All-take P i xs all) (All-cons P x (drop i xs) p (All-drop P i xs all))

pub all_remove : (P : ℕ → Type 0) (xs : List ℕ) (i : ℕ) → All P xs → All P (remove xs i)
all_remove P xs i all = All-append P (take i xs) (drop (suc i) xs) (All-take P i xs all) (All-drop P (suc i) xs all)

-- ---- the value of a sum

pub value_inserted : (vs : List Value) (s t : Sum) (i x : ℕ) → t.odd ≡ s.odd → t.terms.items ≡ insert s.terms.items i x → sum_value vs t ≡ plus (truth_at vs x) (sum_value vs s)
unfolding sum_value
value_inserted vs s t i x odd same =
    ap (λ b. plus b (sum_at vs t.terms.items)) odd
    ∙ ap (λ l. plus s.odd (sum_at vs l)) same
    ∙ ap (plus s.odd) (sum_insert vs s.terms.items i x)
    ∙ plus_swap s.odd (truth_at vs x) (sum_at vs s.terms.items)

pub value_removed : (vs : List Value) (s t : Sum) (i : ℕ) → i < length s.terms.items → t.odd ≡ s.odd → t.terms.items ≡ remove s.terms.items i → sum_value vs t ≡ plus (truth_at vs (slice_index s.terms.items i)) (sum_value vs s)
unfolding sum_value
value_removed vs s t i l odd same =
    ap (λ b. plus b (sum_at vs t.terms.items)) odd
    ∙ ap (λ m. plus s.odd (sum_at vs m)) same
    ∙ ap (plus s.odd) (sum_remove vs s.terms.items i l)
    ∙ plus_swap s.odd (truth_at vs (slice_index s.terms.items i)) (sum_at vs s.terms.items)

pub value_taken : (vs : List Value) (s t : Sum) (i x : ℕ) → StandsAt s.terms.items i x → t.odd ≡ s.odd → t.terms.items ≡ remove s.terms.items i → sum_value vs t ≡ plus (truth_at vs x) (sum_value vs s)
value_taken vs s t i x at odd same =
    value_removed vs s t i at.within odd same ∙ ap (λ j. plus (truth_at vs j) (sum_value vs s)) at.here

pub value_turned : (vs : List Value) (s t : Sum) → t.odd ≡ not s.odd → t.terms.items ≡ s.terms.items → sum_value vs t ≡ not (sum_value vs s)
unfolding sum_value
value_turned vs s t odd same =
    ap (λ b. plus b (sum_at vs t.terms.items)) odd
    ∙ ap (λ l. plus (not s.odd) (sum_at vs l)) same
    ∙ not_out s.odd (sum_at vs s.terms.items)
  where
    not_out : (a b : Bool) → plus (not a) b ≡ not (plus a b)
    not_out true true = refl
    not_out true false = refl
    not_out false true = refl
    not_out false false = refl

pub followed_xor : (a b i s : Bool) → i ≡ plus a b → plus b (plus a (plus i s)) ≡ s
followed_xor a b i s same = ap (λ x. plus b (plus a (plus x s))) same ∙ all a b s
  where
    all : (a b s : Bool) → plus b (plus a (plus (plus a b) s)) ≡ s
    all true true true = refl
    all true true false = refl
    all true false true = refl
    all true false false = refl
    all false true true = refl
    all false true false = refl
    all false false true = refl
    all false false false = refl

pub followed_not : (a i s : Bool) → i ≡ not a → plus a (not (plus i s)) ≡ s
followed_not a i s same = ap (λ x. plus a (not (plus x s))) same ∙ all a s
  where
    all : (a s : Bool) → plus a (not (plus (not a) s)) ≡ s
    all true true = refl
    all true false = refl
    all false true = refl
    all false false = refl

pub plus_false : (a : Bool) → plus a false ≡ a
plus_false true = refl
plus_false false = refl

value_single : (vs : List Value) (s : Sum) (i : ℕ) → s.odd ≡ false → s.terms.items ≡ i ∷ [] → sum_value vs s ≡ truth_at vs i
unfolding sum_value
value_single vs s i odd same =
    ap (λ b. plus b (sum_at vs s.terms.items)) odd
    ∙ ap (sum_at vs) same
    ∙ plus_false (truth_at vs i)

-- a term alone is its own sum
pub SumsTo-single : (graph : Graph) (s : Sum) (i : ℕ) → HasSort graph.nodes i BoolSort → s.odd ≡ false → s.terms.items ≡ i ∷ [] → SumsTo graph s i
SumsTo-single graph s i has odd same = record {
  there = subst (AreTruths graph) (sym same) (All-cons (λ j. HasSort graph.nodes j BoolSort) i [] has (λ j d l. absurd (omega (arith, l))));
  value = λ g more e. value_single (graph_values g e) s i odd same;
}

-- ---- what a term stands for

-- the second sum is the first one with this term added
abbrev pub Adds : ℕ → Sum → Sum → Type 0
Adds i s t = (vs : List Value) → sum_value vs t ≡ plus (truth_at vs i) (sum_value vs s)

truth_xor : {graph : Graph} {i : ℕ} {a b : BoolId} → IsNode graph i (Xor a b) → (g : Graph) → Grows graph g → (e : Env) → truth_at (graph_values g e) i ≡ plus (truth_at (graph_values g e) a.index) (truth_at (graph_values g e) b.index)
unfolding value_of
truth_xor node g more e = ap as_bool (node.value g more e)

truth_not : {graph : Graph} {i : ℕ} {a : BoolId} → IsNode graph i (Not a) → (g : Graph) → Grows graph g → (e : Env) → truth_at (graph_values g e) i ≡ not (truth_at (graph_values g e) a.index)
unfolding value_of
truth_not node g more e = ap as_bool (node.value g more e)

pub value_xor : {graph : Graph} {i : ℕ} {a b : BoolId} (s t u v : Sum) → IsNode graph i (Xor a b) → Adds i s t → Adds a.index t u → Adds b.index u v → (g : Graph) → Grows graph g → (e : Env) → sum_value (graph_values g e) v ≡ sum_value (graph_values g e) s
value_xor {graph} {i} {a} {b} s t u v node first second third g more e =
    let vs = graph_values g e in
    third vs
    ∙ ap (plus (truth_at vs b.index)) (second vs ∙ ap (plus (truth_at vs a.index)) (first vs))
    ∙ followed_xor (truth_at vs a.index) (truth_at vs b.index) (truth_at vs i) (sum_value vs s) (truth_xor node g more e)

pub value_not : {graph : Graph} {i : ℕ} {a : BoolId} (s t u v : Sum) → IsNode graph i (Not a) → Adds i s t → ((vs : List Value) → sum_value vs u ≡ not (sum_value vs t)) → Adds a.index u v → (g : Graph) → Grows graph g → (e : Env) → sum_value (graph_values g e) v ≡ sum_value (graph_values g e) s
value_not {graph} {i} {a} s t u v node first second third g more e =
    let vs = graph_values g e in
    third vs
    ∙ ap (plus (truth_at vs a.index)) (second vs ∙ ap not (first vs))
    ∙ followed_not (truth_at vs a.index) (truth_at vs i) (sum_value vs s) (truth_not node g more e)

-- ---- sums that are written

plus_parts : (a b c : Bool) → plus (plus a b) c ≡ plus a (plus b c)
plus_parts true true true = refl
plus_parts true true false = refl
plus_parts true false true = refl
plus_parts true false false = refl
plus_parts false true true = refl
plus_parts false true false = refl
plus_parts false false true = refl
plus_parts false false false = refl

pub added_step : (terms : List ℕ) (k : ℕ) (all next : BoolId) (g : Graph) (e : Env) → k < length terms → bool_value g e next ≡ plus (bool_value g e all) (bool_value g e (record { index = slice_index terms k })) → plus (bool_value g e all) (sum_at (graph_values g e) (drop k terms)) ≡ sum_at (graph_values g e) terms → plus (bool_value g e next) (sum_at (graph_values g e) (drop (k + 1) terms)) ≡ sum_at (graph_values g e) terms
unfolding bool_value
added_step terms k all next g e l made before =
    let vs = graph_values g e in
    let rest = sum_at vs (drop (k + 1) terms) in
    ap (λ t. plus t rest) made
    ∙ plus_parts (truth_at vs all.index) (truth_at vs (slice_index terms k)) rest
    ∙ ap (plus (truth_at vs all.index)) (sym (at_drop_more (sum_at vs) terms k 0 l))
    ∙ before

pub value_written : (vs : List Value) (s : Sum) (r odd all : Bool) → r ≡ plus odd all → odd ≡ s.odd → all ≡ sum_at vs s.terms.items → r ≡ sum_value vs s
unfolding sum_value
value_written vs s r odd all made first rest = made ∙ ap (λ b. plus b all) first ∙ ap (plus s.odd) rest
