-- What is paid. A cost of a graph is never above 2^64 - 1.
use Rattle.std.proofs.Common.{◌≡◌, ℕ, zero, suc, ◌+◌, ◌-◌, ◌^◌, ◌≤◌, Bool, true, false, List, [], ◌∷◌, ◌++◌, ℤ, pos, negsuc, refl, sym, ap, subst, ◌∙◌, arith, inl}
use Rattle.std.specs.Prelude.{min, int_lt, if◌then◌else◌, fold, ◌&&◌, unsigned_abs}
use Rattle.std.proofs.lemmas.Bool.{lt-ltb, ltb-true}
use Rattle.sk_base.specs.declared.span.Span.{Span}
use Rattle.sk_dag.specs.declared.env.Env.{Env}
use Rattle.sk_dag.specs.declared.node.BoolId.{BoolId}
use Rattle.sk_dag.specs.declared.node.WordId.{WordId}
use Rattle.sk_dag.specs.declared.node.CostId.{CostId}
use Rattle.sk_dag.specs.declared.node.Node.{Node}
use Rattle.sk_dag.specs.declared.node.Node.TheVariants.{Flag, Word, HoleBit, HoleWord, InputBit, InputWord, Not, And, Or, Xor, BoolMux, Mux, Add, Sub, Mul, Div, Rem, Lt, Eq, CostZero, CostAdd, CostLe}
use Rattle.sk_dag.specs.declared.value.Value.{Value}
use Rattle.sk_dag.specs.Graph.{Graph, Grows, HasCost}
use Rattle.sk_dag.specs.Eval.{as_cost, value_at, bool_at, word_at, cost_at, charge, value_of, values, bool_value, word_value, cost_value, Keeps}
use Rattle.sk_dag.proofs.EvalLemmas.{Keeps-trans}
use Rattle.sk_arr.proofs.Makers.{Keeps-refl}
use Rattle.sk_prog.specs.declared.value.Value.{Value as Worth}
use Rattle.sk_prog.specs.declared.value.Value.TheVariants as value
use Rattle.sk_model.specs.Step.{State}
use Rattle.sk_model.specs.Exec.{pay}
use Rattle.sk_heap_laws.proofs.Grown.{StructsGrow-refl, HeapGrows-refl, HoldAlike-refl}
use Rattle.sk_sym_state.specs.declared.setting.Setting.{Setting}
use Rattle.sk_sym_state.specs.declared.state.SymState.{SymState}
use Rattle.sk_sym_state.specs.Stands.{StateStands}
use Rattle.sk_sym_state.specs.Shows.{Shows, SeesFlow}
use Rattle.sk_sym_state.specs.Meaning.{IsLater, Moves, ExecutesOn, FailsWhere}
use Rattle.sk_sym_state.proofs.Carrying.{later_keeps, Moves-trans}
use Rattle.sk_sym_state.proofs.Standing.{StateStands-keeps}

pub ruleset making = (Keeps-refl)

abbrev most : ℕ
most = 2 ^ 64 - 1

record AllSmall (vs : List Value) : Type 0 where
  each : (i : ℕ) → as_cost (value_at vs i) ≤ most

min_small : (n : ℕ) → min n most ≤ most
min_small n = omega arith

charge_small : (c : ℕ) (g : Bool) (z : ℤ) → c ≤ most → charge c g z ≤ most
charge_small c g z h = by (g && int_lt (pos 0) z)
  where
    by : (b : Bool) → (if b then min (c + unsigned_abs z) most else c) ≤ most
    by true = min_small (c + unsigned_abs z)
    by false = h

value_small : (w : ℕ) (e : Env) (vs : List Value) → AllSmall vs → (n : Node) → as_cost (value_of w e vs n) ≤ most
unfolding value_of
value_small w e vs all (Flag b) = omega arith
value_small w e vs all (Word z) = omega arith
value_small w e vs all (HoleBit site k) = omega arith
value_small w e vs all (HoleWord site) = omega arith
value_small w e vs all (InputBit i) = omega arith
value_small w e vs all (InputWord i) = omega arith
value_small w e vs all (Not a) = omega arith
value_small w e vs all (And a b) = omega arith
value_small w e vs all (Or a b) = omega arith
value_small w e vs all (Xor a b) = omega arith
value_small w e vs all (BoolMux c a b) = omega arith
value_small w e vs all (Mux c a b) = omega arith
value_small w e vs all (Add a b) = omega arith
value_small w e vs all (Sub a b) = omega arith
value_small w e vs all (Mul a b) = omega arith
value_small w e vs all (Div a b) = omega arith
value_small w e vs all (Rem a b) = omega arith
value_small w e vs all (Lt a b) = omega arith
value_small w e vs all (Eq a b) = omega arith
value_small w e vs all CostZero = omega arith
value_small w e vs all (CostAdd c g x) = charge_small (cost_at vs c) (bool_at vs g) (word_at vs x) (all.each c.index)
value_small w e vs all (CostLe c limit) = omega arith

at_push : (vs : List Value) (v : Value) → AllSmall vs → as_cost v ≤ most → (i : ℕ) → as_cost (value_at (vs ++ v ∷ []) i) ≤ most
at_push [] v all h zero = h
at_push [] v all h (suc i) = omega arith
at_push (u ∷ vs) v all h zero = all.each 0
at_push (u ∷ vs) v all h (suc i) = at_push vs v (record { each = λ j. all.each (suc j) }) h i

fold_small : (w : ℕ) (e : Env) (ns : List Node) (vs : List Value) → AllSmall vs → AllSmall (fold (λ us n. us ++ value_of w e us n ∷ []) vs ns)
fold_small w e [] vs all = all
fold_small w e (n ∷ ns) vs all = fold_small w e ns (vs ++ value_of w e vs n ∷ []) (record { each = at_push vs (value_of w e vs n) all (value_small w e vs all n) })

none_small : (i : ℕ) → as_cost (value_at [] i) ≤ most
none_small i = omega arith

pub cost_small : (g : Graph) (e : Env) (c : CostId) → cost_value g e c ≤ 2 ^ 64 - 1
unfolding cost_value values
cost_small g e c = (fold_small g.bits e g.nodes [] (record { each = none_small })).each c.index

-- ---- what is paid

charged : (c n : ℕ) → c ≤ most → charge c true (pos n) ≡ min (c + n) most
charged c zero h = omega arith
charged c (suc n) h = ap (λ b. if b then min (c + suc n) most else c) (lt-ltb 0 (suc n) (omega arith))

uncharged : (c : ℕ) (z : ℤ) → charge c false z ≡ c
uncharged c z = refl

negative : (n : ℕ) → int_lt (negsuc n) (pos 0) ≡ true
negative n = refl

positive : (n : ℕ) → int_lt (pos n) (pos 0) ≡ false
positive n = by (int_lt (pos n) (pos 0)) refl
  where
    by : (b : Bool) → int_lt (pos n) (pos 0) ≡ b → b ≡ false
    by true is = absurd (omega (arith, ltb-true n 0 is))
    by false is = refl

pub paid_stands : (x : Setting) {d0 d2 : Graph} {s0 : SymState} {cost : CostId} → StateStands d0 x.expanded.now.prog s0 → Keeps d0 d2 → HasCost d2.nodes cost → StateStands d2 x.expanded.now.prog (record s0 { cost = cost })
paid_stands x h k there = let now = StateStands-keeps k h in record { path = now.path; failed = now.failed; skipped = now.skipped; cost = there; heap = now.heap; structs = now.structs; frame = now.frame }

module _ {x : Setting} {d0 d1 d2 d3 : Graph} {s0 s3 : SymState} {fails : BoolId} {cost : CostId} (amount : WordId) (h : StateStands d0 x.expanded.now.prog s0)
    (k1 : Keeps d0 d1) (test : (g : Graph) → Grows d1 g → (e : Env) → bool_value g e fails ≡ int_lt (word_value g e amount) (pos 0))
    (k2 : Keeps d1 d2) (there : HasCost d2.nodes cost) (value_is : (g : Graph) → Grows d2 g → (e : Env) → cost_value g e cost ≡ charge (cost_value g e s0.cost) (bool_value g e s0.path) (word_value g e amount))
    (f : FailsWhere x d2 d3 (record s0 { cost = cost }) s3 fails) where
  pub pays : (span : Span) → ExecutesOn x d0 d3 s0 s3 (λ g e (v : Worth). v ≡ value.Int (word_value g e amount)) (λ e. pay span)
  pays span = record {
    moves = Moves-trans moves f.moves;
    runs = λ g e v at l is shows. subst (λ u. SeesFlow g e x.fun.now s3 (pay span u at)) (sym is) (by g e at l shows (word_value g e amount) refl);
  }
    where
      moves : Moves x d0 d2 s0 (record s0 { cost = cost })
      moves = record {
        keeps = Keeps-trans k1 k2;
        stands = paid_stands x h (Keeps-trans k1 k2) there;
        structs = StructsGrow-refl s0.heap;
        comes = λ g e l h. record { grown = HeapGrows-refl g e s0.heap; is = inl (record { path = h.path; failed = h.failed; skipped = h.skipped; returned = h.returned; free = h.free }) };
        stays = λ g e l p. record {
          path = p;
          rest = record { failed = refl; skipped = refl; returned = refl; cost = value_is g l.grows e ∙ ap (λ b. charge (cost_value g e s0.cost) b (word_value g e amount)) p; heap = λ t. refl; lives = λ t. t; ended = λ a b t. t; holds = HoldAlike-refl g e s0.heap; most = omega arith };
        };
      }

      paid : (g : Graph) (e : Env) (at : State) (n : ℕ) → IsLater x d2 g e → word_value g e amount ≡ pos n → Shows g e s0 at → Shows g e (record s0 { cost = cost }) (record at { cost = min (at.cost + n) most })
      paid g e at n l is shows = record {
        path = shows.path;
        failed = shows.failed;
        skipped = shows.skipped;
        returned = shows.returned;
        cost = value_is g l.grows e ∙ (λ i. charge (cost_value g e s0.cost) (shows.path i) (is i)) ∙ charged (cost_value g e s0.cost) n (cost_small g e s0.cost) ∙ ap (λ c. min (c + n) most) shows.cost;
        heap = shows.heap;
        lives = shows.lives;
        slots = shows.slots;
        free = shows.free;
      }

      any : (g : Graph) (e : Env) (at : State) → IsLater x d2 g e → Shows g e s0 at → Shows g e (record s0 { cost = cost }) (record at { cost = cost_value g e cost })
      any g e at l shows = record { path = shows.path; failed = shows.failed; skipped = shows.skipped; returned = shows.returned; cost = refl; heap = shows.heap; lives = shows.lives; slots = shows.slots; free = shows.free }

      by : (g : Graph) (e : Env) (at : State) → IsLater x d3 g e → Shows g e s0 at → (z : ℤ) → word_value g e amount ≡ z → SeesFlow g e x.fun.now s3 (pay span (value.Int z) at)
      by g e at l shows (pos n) is =
          let l2 = later_keeps f.moves.keeps l in
          let l1 = later_keeps k2 l2 in
          f.good g e (record at { cost = min (at.cost + n) most }) l (test g l1.grows e ∙ ap (λ z. int_lt z (pos 0)) is ∙ positive n) (paid g e at n l2 is shows)
      by g e at l shows (negsuc n) is =
          let l2 = later_keeps f.moves.keeps l in
          let l1 = later_keeps k2 l2 in
          f.bad g e (record at { cost = cost_value g e cost }) l (test g l1.grows e ∙ ap (λ z. int_lt z (pos 0)) is ∙ negative n) (any g e at l2 shows)
