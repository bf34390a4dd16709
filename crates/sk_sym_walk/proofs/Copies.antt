-- The copies of a statement, of which a site says how many are done.
use Rattle.std.proofs.Common.{◌≡◌, ℕ, zero, suc, ◌+◌, List, [], ◌∷◌, ◌++◌, map, take, length, get_or, Bool, true, false, None, refl, sym, ap, subst, ◌∙◌, ◌<◌, arith, inl, inr}
use Rattle.std.specs.Prelude.{nat_lt, if◌then◌else◌}
use Rattle.std.proofs.lemmas.Bool.{lt-ltb, le-ltb}
use Rattle.std.proofs.lemmas.Bool.Decides.{leb_tells}
use Rattle.std.proofs.lemmas.List.{take_more, length-map, length-take-le}
use Rattle.sk_base.specs.declared.span.Span.{Span}
use Rattle.sk_dag.specs.declared.env.Env.{Env}
use Rattle.sk_dag.specs.declared.node.BoolId.{BoolId}
use Rattle.sk_dag.specs.Graph.{Graph}
use Rattle.sk_dag.specs.Eval.{bool_value, Keeps}
use Rattle.sk_prog.specs.declared.value.Value.TheVariants as value
use Rattle.sk_prog.specs.declared.expr.PExpr.{PExpr}
use Rattle.sk_prog.specs.declared.stmt.PStmt.{PStmt}
use Rattle.sk_prog.specs.declared.stmt.PForm.TheVariants as form
use Rattle.sk_prog.specs.declared.stmt.PForm.TheOpen as S
use Rattle.sk_prog.specs.declared.stmt.PForm.TheViews as W
use Rattle.sk_model.specs.Parts.{Part, in_turn, value as value_of}
use Rattle.sk_model.specs.Sites.{is_hole}
use Rattle.sk_model.specs.Step.{State, Comp, and_then, pure}
use Rattle.sk_model.specs.Exec.{Flow, Onward, unless_returned, one_by_one}
use Rattle.sk_model.specs.Open.{copies_part as copies_open, block_part}
use Rattle.sk_model.proofs.Layers.{stmt_layer}
use Rattle.sk_sym_state.specs.declared.state.SymState.{SymState}
use Rattle.sk_sym_state.specs.Shows.{SeesFlow}
use Rattle.sk_sym_state.specs.Stands.{StateStands}
use Rattle.sk_sym_state.specs.Branching.{IsBit}
use Rattle.sk_sym_state.specs.Meaning.{IsLater, choice_at}
use Rattle.sk_sym_state.proofs.Carrying.{Moves-trans, later_keeps}
use Rattle.sk_sym_state.proofs.Ends.{moves_none, executes_same}
use Rattle.sk_sym_walk.specs.declared.activation.Activation.{Activation}
use Rattle.sk_sym_walk.specs.Walk.{values_at, stmt_part, all_part}
use Rattle.sk_sym_walk.specs.Parts.{IsExecuted, IsExecutedOn, ways_part}
use Rattle.sk_sym_walk.specs.Copies.{copies_at, some_part, copies_part, copy_part, repeat_part}
use Rattle.sk_sym_walk.proofs.Sequences.{SamePart, same_part}
use Rattle.sk_sym_walk.proofs.Layers.{stmt_step, turn_push, map_push, nothing_more, two_after}

pub same_minrepeat : (a : Activation) (s : PStmt) (ss : List PStmt) → s.form ≡ form.MinRepeat ss → SamePart (copies_part a ss) (stmt_part a s)
same_minrepeat a s ss is = same_part (λ env. ap (λ f. stmt_part a (record { span = s.span; form = f }) env) is ∙ stmt_layer (Part (Span → Comp Flow)) (Part (Comp Flow)) (stmt_step a s env) (λ t. record { count = t.form.count; at = λ i. t.form.at i t.span }) (S.MinRepeat ss) (form.MinRepeat ss) (W.rolls-MinRepeat ss) s.span)

pub same_repeat : (a : Activation) (s : PStmt) (c : PExpr) (ss : List PStmt) → s.form ≡ form.Repeat c ss → SamePart (repeat_part a c ss) (stmt_part a s)
same_repeat a s c ss is = same_part (λ env. ap (λ f. stmt_part a (record { span = s.span; form = f }) env) is ∙ stmt_layer (Part (Span → Comp Flow)) (Part (Comp Flow)) (stmt_step a s env) (λ t. record { count = t.form.count; at = λ i. t.form.at i t.span }) (S.Repeat c ss) (form.Repeat c ss) (W.rolls-Repeat c ss) s.span ∙ by env (is_hole c.form))
  where
    run_part : Part (Span → Comp Flow) → Part (Comp Flow)
    run_part p = record { count = p.count; at = λ i. p.at i s.span }

    by : (env : Env) (b : Bool) → run_part (if b then copies_open (values_at a env) (map (λ t. stmt_part a t env) ss) else block_part (values_at a env) (map (λ t. stmt_part a t env) ss)) ≡ (if b then copies_part a ss else all_part a ss) env
    by env true = refl
    by env false = refl

-- ---- one more copy

pub length_turn : {A : Type 0} (ps : List (Part A)) (i : ℕ) → length (in_turn ps i) ≡ length ps
length_turn [] i = refl
length_turn (p ∷ ps) i = ap suc (length_turn ps (i + p.count))

take_none : (n : ℕ) (s : State) → one_by_one (take n []) s ≡ pure Onward s
take_none zero s = refl
take_none (suc n) s = refl

lt_suc : (a b : ℕ) → nat_lt (suc a) (suc b) ≡ nat_lt a b
lt_suc a b = elim (leb_tells (suc a) b) [
  | inl u ↦ lt-ltb (suc a) (suc b) (omega (arith, u.1)) ∙ sym u.0
  | inr u ↦ le-ltb (suc a) (suc b) (omega (arith, u.1)) ∙ sym u.0
]

one_taken : (v : ℕ) (ms : List (Comp Flow)) (m : Comp Flow) (s : State) → one_by_one (take v (ms ++ m ∷ [])) s ≡ and_then (one_by_one (take v ms) s) (unless_returned (if nat_lt (length ms) v then m else pure Onward))
one_taken zero ms m s = sym (ap (λ b. (if b then m else pure Onward) s) (le-ltb (length ms) 0 (omega arith)))
one_taken (suc v) [] m s =
    (λ p. and_then (m s) (unless_returned (λ t. take_none v t p)))
    ∙ nothing_more (m s)
    ∙ sym (ap (λ b. (if b then m else pure Onward) s) (lt-ltb 0 (suc v) (omega arith)))
one_taken (suc v) (n ∷ ms) m s =
    (λ i. and_then (n s) (unless_returned (λ t. one_taken v ms m t i)))
    ∙ sym (two_after (n s) (one_by_one (take v ms)) (if nat_lt (length ms) v then m else pure Onward))
    ∙ ap (λ b. and_then (and_then (n s) (unless_returned (one_by_one (take v ms)))) (unless_returned (if b then m else pure Onward))) (sym (lt_suc (length ms) v))

pub copies_none : (a : Activation) (site i : ℕ) (list : List PStmt) (env : Env) (s : State) → copies_at a site i (take 0 list) env s ≡ pure Onward s
copies_none a site i list env s = take_none (value_of (values_at a env) site) s

module _ (a : Activation) (site place : ℕ) (list : List PStmt) (i : ℕ) (stmt : PStmt) (l : i < length list) (is : stmt ≡ get_or list i stmt) (env : Env) where
  abbrev before : List (Comp Flow)
  before = in_turn (map (λ t. stmt_part a t env) (take i list)) place

  long : length before ≡ i
  long = length_turn (map (λ t. stmt_part a t env) (take i list)) place ∙ length-map (take i list) (λ t. stmt_part a t env) ∙ length-take-le i list (omega (arith, l))

  abbrev amount : ℕ
  amount = value_of (values_at a env) site

  pub copies_more : (s : State) → copies_at a site place (take (i + 1) list) env s ≡ and_then (copies_at a site place (take i list) env s) (unless_returned ((copy_part a site i stmt env).at (place + (all_part a (take i list) env).count)))
  copies_more s =
      let more : take (i + 1) list ≡ take i list ++ stmt ∷ [] = take_more list i stmt l ∙ ap (λ y. take i list ++ y ∷ []) (sym is) in
      let m : Comp Flow = (stmt_part a stmt env).at (place + (all_part a (take i list) env).count) in
      ap (λ xs. copies_at a site place xs env s) more
      ∙ ap (λ ps. one_by_one (take amount (in_turn ps place)) s) (map_push (λ t. stmt_part a t env) (take i list) stmt)
      ∙ ap (λ ms. one_by_one (take amount ms) s) (turn_push (map (λ t. stmt_part a t env) (take i list)) (stmt_part a stmt env) place)
      ∙ one_taken amount before m s
      ∙ ap (λ n. and_then (one_by_one (take amount before) s) (unless_returned (if nat_lt n amount then m else pure Onward))) long

-- the site, and the copies behind it
pub copies_executed : {a : Activation} {d0 d1 : Graph} {s0 s1 : SymState} {i j k : ℕ} (ss : List PStmt) → j ≡ i + 1 → IsExecuted a d0 d1 s0 s1 j k (some_part a i ss) → IsExecuted a d0 d1 s0 s1 i k (copies_part a ss)
copies_executed {a} {i = i} {j = j} ss next h =
    let behind : suc i ≡ j = omega (arith, next) in
    record {
      executes = executes_same (λ e at. ap (λ n. copies_at a i n ss e at) behind) h.executes;
      place = record { place = λ e. omega (arith, next, h.place.place e) };
    }

pub some_copies : (a : Activation) (c : PExpr) (ss : List PStmt) → is_hole c.form ≡ true → SamePart (copies_part a ss) (repeat_part a c ss)
some_copies a c ss is = same_part (λ e. ap (λ b. (if b then copies_part a ss else all_part a ss) e) is)

pub all_copies : (a : Activation) (c : PExpr) (ss : List PStmt) → is_hole c.form ≡ false → SamePart (all_part a ss) (repeat_part a c ss)
all_copies a c ss is = same_part (λ e. ap (λ b. (if b then copies_part a ss else all_part a ss) e) is)

-- a statement by a bit that says whether the value of a site is above a number
pub copy_executed : {a : Activation} {d0 d1 d2 : Graph} {s0 s1 : SymState} {i j : ℕ} (here : BoolId) (span : Span) (site k : ℕ) (s : PStmt) → StateStands d0 a.setting.expanded.now.prog s0 → Keeps d0 d1 → ((g : Graph) (e : Env) → IsLater a.setting d1 g e → bool_value g e here ≡ nat_lt k (value_of (choice_at a.setting e).values site)) → IsExecutedOn a d1 d2 s0 s1 i j (IsBit here) (ways_part a span s None) → IsExecuted a d0 d2 s0 s1 i j (copy_part a site k s)
copy_executed {a} {d0} {d1} {d2} {s0} {s1} {i} {j} here span site k s stands keeps known h = record {
  executes = record {
    moves = Moves-trans (moves_none keeps stands) h.executes.moves;
    runs = λ g e at l shows. subst (λ t. SeesFlow g e a.setting.fun.now s1 t) (by e at (nat_lt k (value_of (values_at a e) site))) (h.executes.runs g e (value.Bit (nat_lt k (value_of (values_at a e) site))) at l (ap (λ b. value.Bit b) (sym (known g e (later_keeps h.executes.moves.keeps l)))) shows);
  };
  place = record { place = λ e. omega (arith, h.place.place e) };
}
  where
    by : (e : Env) (at : State) (b : Bool) → (ways_part a span s None e).at i (value.Bit b) at ≡ (if b then (stmt_part a s e).at i else pure Onward) at
    by e at true = refl
    by e at false = refl
