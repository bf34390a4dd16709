-- Statements in an order that sites give.
use Rattle.std.proofs.Common.{◌≡◌, ℕ, zero, suc, ◌+◌, ◌-◌, ◌==◌, List, [], ◌∷◌, ◌++◌, map, take, length, get_or, Bool, true, false, Option, None, refl, sym, ap, subst, ◌∙◌, ◌<◌, arith}
use Rattle.std.specs.Prelude.{if◌then◌else◌}
use Rattle.std.proofs.lemmas.List.Elements.{All-get_or, All-weaker}
use Rattle.std.specs.Option.{option_copied}
use Rattle.std.proofs.lemmas.Bool.{eq-eqb, ne_eqb}
use Rattle.std.proofs.lemmas.List.{take_more, take_all, length-map, length-take-le, get_or-map}
use Rattle.sk_base.specs.declared.span.Span.{Span}
use Rattle.sk_dag.specs.declared.env.Env.{Env}
use Rattle.sk_dag.specs.declared.node.BoolId.{BoolId}
use Rattle.sk_dag.specs.Graph.{Graph, HasBool, BoolSort}
use Rattle.sk_dag.specs.Eval.{bool_value, Keeps}
use Rattle.sk_prog.specs.declared.value.Value.TheVariants as value
use Rattle.sk_prog.specs.declared.stmt.PStmt.{PStmt}
use Rattle.sk_prog.specs.declared.stmt.PForm.TheVariants as form
use Rattle.sk_prog.specs.declared.stmt.PForm.TheOpen as S
use Rattle.sk_prog.specs.declared.stmt.PForm.TheViews as W
use Rattle.sk_model.specs.declared.expanded.Choice.{Choice}
use Rattle.sk_model.specs.declared.expanded.Expanded.{Expanded}
use Rattle.sk_model.specs.Parts.{Part}
use Rattle.sk_model.specs.Step.{State, Comp, and_then, pure}
use Rattle.sk_model.specs.Fill.{arrange}
use Rattle.sk_model.specs.Exec.{Flow, Onward, unless_returned, one_by_one}
use Rattle.sk_model.proofs.Layers.{stmt_layer}
use Rattle.sk_sym_choices.specs.Orders.{order}
use Rattle.sk_sym_choices.specs.Payments.{IsColumn}
use Rattle.sk_sym_choices.proofs.OrderLaws.{length_order, arranged, turn_of}
use Rattle.sk_sym_sites.specs.Counts.{stmts_count}
use Rattle.sk_sym_sites.proofs.Trees.{counts_body}
use Rattle.sk_sym_state.specs.declared.state.SymState.{SymState}
use Rattle.sk_sym_state.specs.Shows.{SeesFlow}
use Rattle.sk_sym_state.specs.Branching.{IsBit}
use Rattle.sk_sym_state.specs.Meaning.{IsLater, Executes}
use Rattle.sk_sym_state.specs.Stands.{StateStands}
use Rattle.sk_sym_state.proofs.Carrying.{Moves-trans, later_keeps}
use Rattle.sk_sym_state.proofs.Ends.{moves_none}
use Rattle.sk_sym_walk.specs.declared.activation.Activation.{Activation}
use Rattle.sk_sym_walk.specs.Walk.{prog_of, values_at, calls_at, stmt_part, all_part}
use Rattle.sk_sym_walk.specs.Parts.{IsExecuted, IsExecutedOn, ways_part}
use Rattle.sk_sym_walk.specs.Orders.{each_at, order_at, numbered, turns_at, ordered_part, reorder_part, alone, number_at, turn_at, AreOrders, IsNodeOf}
use Rattle.sk_sym_walk.proofs.Sequences.{SamePart}
use Rattle.sk_sym_walk.proofs.Layers.{stmt_step, map_push, nothing_more, one_more}
use Rattle.sk_sym_walk.proofs.Copies.{length_turn}

length_each : (a : Activation) (i : ℕ) (ss : List PStmt) (e : Env) → length (each_at a i ss e) ≡ length ss
length_each a i ss e = length_turn (map (λ s. stmt_part a s e) ss) i ∙ length-map ss (λ s. stmt_part a s e)

pub same_reorder : (a : Activation) (s : PStmt) (ss : List PStmt) → s.form ≡ form.Reorder ss → SamePart (reorder_part a ss) (stmt_part a s)
same_reorder a s ss is = record {
  count = λ env. ap (λ (p : Part (Comp Flow)). p.count) (whole env) ∙ ap (λ n. (n - 1) + (all_part a ss env).count) (long env);
  at = λ env i at. ap (λ (p : Part (Comp Flow)). p.at i at) (whole env) ∙ ap (λ n. one_by_one (arrange (values_at a env) i [] (each_at a (i + (n - 1)) ss env)) at) (long env);
}
  where
    long : (env : Env) → length (map (λ t. stmt_part a t env) ss) ≡ length ss
    long env = length-map ss (λ t. stmt_part a t env)

    whole : (env : Env) → stmt_part a s env ≡ (let p = stmt_step a s env (S.Reorder (map (λ t. stmt_part a t env) ss)) in record { count = p.count; at = λ i. p.at i s.span })
    whole env = ap (λ f. stmt_part a (record { span = s.span; form = f }) env) is ∙ stmt_layer (Part (Span → Comp Flow)) (Part (Comp Flow)) (stmt_step a s env) (λ t. record { count = t.form.count; at = λ i. t.form.at i t.span }) (S.Reorder ss) (form.Reorder ss) (W.rolls-Reorder ss) s.span

-- ---- one turn

module _ (a : Activation) (e : Env) where
  alone_push : (j k : ℕ) (xs : List PStmt) (s : PStmt) (i : ℕ) → alone a e j k (xs ++ s ∷ []) i ≡ alone a e j k xs i ++ (if j == (k + length xs) then (stmt_part a s e).at (i + (all_part a xs e).count) else pure Onward) ∷ []
  alone_push j k [] s i =
      let here : k ≡ k + 0 = omega arith in
      let place : i ≡ i + 0 = omega arith in
      ap (λ n. (if j == n then (stmt_part a s e).at i else pure Onward) ∷ []) here ∙ ap (λ p. (if j == (k + 0) then (stmt_part a s e).at p else pure Onward) ∷ []) place
  alone_push j k (x ∷ xs) s i =
      let behind : suc k + length xs ≡ k + suc (length xs) = omega arith in
      let place : (i + (stmt_part a x e).count) + (all_part a xs e).count ≡ i + ((stmt_part a x e).count + (all_part a xs e).count) = omega arith in
      let first : Comp Flow = if j == k then (stmt_part a x e).at i else pure Onward in
      ap (λ ms. first ∷ ms) (alone_push j (suc k) xs s (i + (stmt_part a x e).count))
      ∙ ap (λ n. first ∷ (alone a e j (suc k) xs (i + (stmt_part a x e).count) ++ (if j == n then (stmt_part a s e).at ((i + (stmt_part a x e).count) + (all_part a xs e).count) else pure Onward) ∷ [])) behind
      ∙ ap (λ p. first ∷ (alone a e j (suc k) xs (i + (stmt_part a x e).count) ++ (if j == (k + suc (length xs)) then (stmt_part a s e).at p else pure Onward) ∷ [])) place

  -- the number is that of none of them
  alone_none : (j k : ℕ) (ss : List PStmt) (i : ℕ) → j < k → (s : State) → one_by_one (alone a e j k ss i) s ≡ pure Onward s
  alone_none j k [] i l s = refl
  alone_none j k (x ∷ xs) i l s =
      ap (λ b. and_then ((if b then (stmt_part a x e).at i else pure Onward) s) (unless_returned (one_by_one (alone a e j (suc k) xs (i + (stmt_part a x e).count))))) (ne_eqb j k (λ is. absurd (omega (arith, is, l))))
      ∙ alone_none j (suc k) xs (i + (stmt_part a x e).count) (omega (arith, l)) s

  -- only the statement with the number is done
  alone_is : (n j k : ℕ) (ss : List PStmt) (i : ℕ) → j ≡ k + n → (s : State) → one_by_one (alone a e j k ss i) s ≡ numbered (each_at a i ss e) n s
  alone_is n j k [] i is s = refl
  alone_is zero j k (x ∷ xs) i is s =
      let rest : Comp Flow = one_by_one (alone a e j (suc k) xs (i + (stmt_part a x e).count)) in
      ap (λ b. and_then ((if b then (stmt_part a x e).at i else pure Onward) s) (unless_returned rest)) (eq-eqb j k (omega (arith, is)))
      ∙ (λ p. and_then ((stmt_part a x e).at i s) (unless_returned (λ t. alone_none j (suc k) xs (i + (stmt_part a x e).count) (omega (arith, is)) t p)))
      ∙ nothing_more ((stmt_part a x e).at i s)
  alone_is (suc n) j k (x ∷ xs) i is s =
      ap (λ b. and_then ((if b then (stmt_part a x e).at i else pure Onward) s) (unless_returned (one_by_one (alone a e j (suc k) xs (i + (stmt_part a x e).count))))) (ne_eqb j k (λ same. absurd (omega (arith, is, same))))
      ∙ alone_is n j (suc k) xs (i + (stmt_part a x e).count) (omega (arith, is)) s

module _ (a : Activation) (first count n place : ℕ) (list : List PStmt) (k : ℕ) (stmt : PStmt) (l : k < length list) (is : stmt ≡ get_or list k stmt) (e : Env) where
  -- one more statement in a turn
  pub turn_more : (s : State) → turn_at a first count n (take (k + 1) list) place e s ≡ and_then (turn_at a first count n (take k list) place e s) (unless_returned (if number_at a first count n e == k then (stmt_part a stmt e).at (place + (all_part a (take k list) e).count) else pure Onward))
  turn_more s =
      let j : ℕ = number_at a first count n e in
      let more : take (k + 1) list ≡ take k list ++ stmt ∷ [] = take_more list k stmt l ∙ ap (λ y. take k list ++ y ∷ []) (sym is) in
      let long : length (take k list) ≡ k = length-take-le k list (omega (arith, l)) in
      let here : Bool → Comp Flow = λ b. if b then (stmt_part a stmt e).at (place + (all_part a (take k list) e).count) else pure Onward in
      ap (λ xs. one_by_one (alone a e j 0 xs place) s) more
      ∙ ap (λ ms. one_by_one ms s) (alone_push a e j 0 (take k list) stmt place)
      ∙ one_more (alone a e j 0 (take k list) place) (here (j == (0 + length (take k list)))) s
      ∙ ap (λ m. and_then (one_by_one (alone a e j 0 (take k list) place) s) (unless_returned (here (j == m)))) (let same : 0 + length (take k list) ≡ k = omega (arith, long) in same)

-- ---- all turns

pub turns_none : (a : Activation) (first i : ℕ) (ss : List PStmt) (e : Env) (s : State) → turns_at a first 0 ss i e s ≡ pure Onward s
turns_none a first i ss e s = refl

-- one more turn
pub turns_more : (a : Activation) (first n i : ℕ) (ss : List PStmt) → n < length ss → (e : Env) (s : State) → turns_at a first (n + 1) ss i e s ≡ and_then (turns_at a first n ss i e s) (unless_returned (turn_at a first (length ss) n ss i e))
turns_more a first n i ss l e s =
    let list : List ℕ = order_at a first (length ss) e in
    let long : length list ≡ length ss = length_order (values_at a e) first (length ss) in
    let j : ℕ = get_or list n 0 in
    let does : ℕ → Comp Flow = numbered (each_at a i ss e) in
    ap (λ ns. one_by_one (map does ns) s) (take_more list n 0 (omega (arith, l, long)))
    ∙ ap (λ ms. one_by_one ms s) (map_push does (take n list) j)
    ∙ one_more (map does (take n list)) (does j) s
    ∙ (λ p. and_then (turns_at a first n ss i e s) (unless_returned (λ t. sym (alone_is a e j j 0 ss i (let same : j ≡ 0 + j = omega arith in same) t) p)))

-- all turns are the statements in their order
pub turns_whole : (a : Activation) (first n i : ℕ) (ss : List PStmt) → n ≡ length ss → (e : Env) (s : State) → (ordered_part a first ss e).at i s ≡ turns_at a first n ss i e s
turns_whole a first n i ss is e s =
    let list : List ℕ = order_at a first (length ss) e in
    let long : length list ≡ length ss = length_order (values_at a e) first (length ss) in
    ap (λ ms. one_by_one ms s) (arranged (values_at a e) first (each_at a i ss e) (pure Onward))
    ∙ ap (λ m. one_by_one (map (numbered (each_at a i ss e)) (order (values_at a e) first m)) s) (length_each a i ss e)
    ∙ ap (λ ns. one_by_one (map (numbered (each_at a i ss e)) ns) s) (sym (take_all n list (omega (arith, is, long))))

-- the statements in their order, behind the sites that give it, once there are nodes for the turns
pub reorder_executed : {a : Activation} {d0 d1 d2 : Graph} {s0 s1 : SymState} {i j k : ℕ} (ss : List PStmt) → StateStands d0 a.setting.expanded.now.prog s0 → Keeps d0 d1 → j ≡ i + (length ss - 1) → IsExecuted a d1 d2 s0 s1 j k (ordered_part a i ss) → IsExecuted a d0 d2 s0 s1 i k (reorder_part a ss)
reorder_executed {a} {s1 = s1} {i = i} {j = j} ss stands keeps behind h = record {
  executes = record {
    moves = Moves-trans (moves_none keeps stands) h.executes.moves;
    runs = λ g e at l shows. subst (λ n. SeesFlow g e a.setting.fun.now s1 ((ordered_part a i ss e).at n at)) behind (h.executes.runs g e at l shows);
  };
  place = record { place = λ e. omega (arith, behind, h.place.place e) };
}

-- the place behind statements that are passed
pub all_behind : {j : ℕ} (i : ℕ) (a : Activation) (ss : List PStmt) → j ≡ i + stmts_count ss → (e : Env) → j ≡ i + (all_part a ss e).count
all_behind i a ss p e = p ∙ ap (λ n. i + n) (sym (counts_body (prog_of a) a.bounds (values_at a e) (calls_at a e) ss))

-- ---- the nodes of turns

column_keeps : {d0 d1 : Graph} {e : Expanded} {given : Option Choice} {first count k : ℕ} {nodes : List BoolId} → Keeps d0 d1 → IsColumn d0 e given first count k nodes → IsColumn d1 e given first count k nodes
column_keeps {d0} {d1} {nodes = nodes} keeps h = record {
  there = record { each = All-weaker (HasBool d0.nodes) (HasBool d1.nodes) (λ x. keeps.sorts _ BoolSort) nodes h.there.each };
  long = h.long;
  value = λ g grows env range. h.value g (keeps.later g grows) env range;
}

pub orders_keep : {d0 d1 : Graph} (a : Activation) {first count : ℕ} {columns : List (List BoolId)} → Keeps d0 d1 → AreOrders a d0 first count columns → AreOrders a d1 first count columns
orders_keep a keeps h = record { long = h.long; each = λ m other l. column_keeps keeps (h.each m other l) }

-- a node says whether a turn is that of a statement
pub record IsTurn (a : Activation) (d : Graph) (first count n k : ℕ) (node : BoolId) : Type 0 where
  pub there : HasBool d.nodes node
  pub value : (g : Graph) (e : Env) → IsLater a.setting d g e → bool_value g e node ≡ (number_at a first count n e == k)

pub is_turn : (a : Activation) {d : Graph} {first count n k : ℕ} {columns : List (List BoolId)} {node : BoolId} → AreOrders a d first count columns → IsNodeOf columns k n node → IsTurn a d first count n k node
is_turn a {d} {first} {count} {n} {k} {columns} {node} h of =
    let c : IsColumn d a.setting.expanded.now (option_copied a.setting.choice) first count k of.column = subst (λ ns. IsColumn d a.setting.expanded.now (option_copied a.setting.choice) first count k ns) (sym of.is) (h.each k of.column (let has = of.has in let long = h.long in omega (arith, has, long))) in
    record {
      there = subst (λ m. HasBool d.nodes m) (sym of.same) (All-get_or (HasBool d.nodes) of.column n node of.long c.there.each);
      value = λ g e l.
          ap (λ m. bool_value g e m) of.same
          ∙ sym (get_or-map (λ m. bool_value g e m) of.column n node false of.long)
          ∙ ap (λ bs. get_or bs n false) (c.value g l.grows e l.range)
          ∙ turn_of (values_at a e) first count k n (let l = of.long in let long = c.long in omega (arith, l, long));
    }

-- a statement by the node of its turn
pub turn_taken : {a : Activation} {d0 d1 : Graph} {s0 s1 : SymState} {i j : ℕ} {node : BoolId} (span : Span) (first count n k : ℕ) (s : PStmt) → IsTurn a d0 first count n k node → IsExecutedOn a d0 d1 s0 s1 i j (IsBit node) (ways_part a span s None) → Executes a.setting d0 d1 s0 s1 (λ e. if number_at a first count n e == k then (stmt_part a s e).at i else pure Onward)
turn_taken {a} {d0} {d1} {s0} {s1} {i} {j} {node} span first count n k s turn h = record {
  moves = h.executes.moves;
  runs = λ g e at l shows. subst (λ t. SeesFlow g e a.setting.fun.now s1 t) (by e at (number_at a first count n e == k)) (h.executes.runs g e (value.Bit (number_at a first count n e == k)) at l (ap (λ b. value.Bit b) (sym (turn.value g e (later_keeps h.executes.moves.keeps l)))) shows);
}
  where
    by : (e : Env) (at : State) (b : Bool) → (ways_part a span s None e).at i (value.Bit b) at ≡ (if b then (stmt_part a s e).at i else pure Onward) at
    by e at true = refl
    by e at false = refl
