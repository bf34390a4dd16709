-- A branch begins and ends.
use Rattle.std.proofs.Common.{◌≡◌, ℕ, ◌≤◌, ◌&&◌, ◌||◌, Bool, true, false, true≢false, List, length, take, refl, sym, ap, ◌∙◌, arith, ◌⊎◌, inl, inr}
use Rattle.std.specs.Prelude.{not, if◌then◌else◌}
use Rattle.sk_dag.specs.declared.env.Env.{Env}
use Rattle.sk_dag.specs.declared.node.BoolId.{BoolId}
use Rattle.sk_dag.specs.declared.shape.Shape.{Shape}
use Rattle.sk_dag.specs.Graph.{Graph, Grows, HasBool, BoolSort}
use Rattle.sk_dag.specs.Eval.{bool_value, Keeps}
use Rattle.sk_dag.proofs.EvalLemmas.{Keeps-trans}
use Rattle.sk_arr.specs.Shapes.{AllStand}
use Rattle.sk_arr.specs.Answers.{AreCopies, shapes_value}
use Rattle.sk_sym_state.specs.declared.branch.Side.{Side}
use Rattle.sk_sym_state.specs.declared.setting.Setting.{Setting}
use Rattle.sk_sym_state.specs.declared.state.SymState.{SymState}
use Rattle.sk_sym_state.specs.Stands.{StateStands}
use Rattle.sk_sym_state.specs.Shows.{AreAlong}
use Rattle.sk_sym_state.specs.Branching.{SideStands, IsForked, AreMerged, AreOneOf, IsCursorBehind, AreJoined}
use Rattle.sk_sym_state.proofs.Fronts.{front_same, front_of_front, front_whole}
use Rattle.sk_sym_state.proofs.Standing.{StateStands-keeps, stands_along}

both_ways : (p c : Bool) → p ≡ ((p && c) || (p && not c))
both_ways true true = refl
both_ways true false = refl
both_ways false c = refl

pub forked_is : {x : Setting} {d0 d1 d2 : Graph} {s0 : SymState} {cond first second : BoolId} {slots : List Shape} → StateStands d0 x.expanded.now.prog s0
    → Keeps d0 d1 → HasBool d1.nodes first → ((g : Graph) → Grows d1 g → (e : Env) → bool_value g e first ≡ (bool_value g e s0.path && bool_value g e cond))
    → Keeps d1 d2 → HasBool d2.nodes second → ((g : Graph) → Grows d2 g → (e : Env) → bool_value g e second ≡ (bool_value g e s0.path && not (bool_value g e cond)))
    → ((g : Graph) → AllStand g s0.frame.slots → AreCopies g s0.frame.slots slots)
    → IsForked x d0 d2 s0 (record s0 { path = first }) cond (record { fork = record { path = s0.path; first = first; second = second }; path = second; slots = slots; cursor = s0.cursor })
forked_is {x} {d0} {d1} {d2} {s0} {cond} {first} {second} {slots} h k1 t1 v1 k2 t2 v2 copies =
    let k : Keeps d0 d2 = Keeps-trans k1 k2 in
    let now : StateStands d2 x.expanded.now.prog s0 = StateStands-keeps k h in
    let first' : HasBool d2.nodes first = k2.sorts _ BoolSort t1 in
    let are : AreCopies d2 s0.frame.slots slots = copies d2 now.frame.slots in
    let along : AreAlong s0 (record s0 { path = first }) = record { failed = refl; skipped = refl; cost = refl; heap = refl; structs = refl; returned = refl; ended = refl; most = refl } in
    record {
      keeps = k;
      along = along;
      stands = stands_along along now first' now.frame.slots;
      waits = record {
        fork = record {
          path = now.path;
          first = first';
          second = t2;
          whole = λ g more e. both_ways (bool_value g e s0.path) (bool_value g e cond) ∙ sym (ap (λ b. b || (bool_value g e s0.path && not (bool_value g e cond))) (v1 g (k2.later g more) e)) ∙ sym (ap (λ b. bool_value g e first || b) (v2 g more e));
        };
        path = t2;
        slots = are.stands;
      };
      here = λ g e more. v1 g (k2.later g more) e;
      there = λ g e more. v2 g more e;
      slots = λ g e values more f. f;
      others = λ g e values more f. front_same slots (are.value g e) f;
      cursor = refl;
      other_cursor = refl;
    }

pub one_waits : {d : Graph} {cond : BoolId} {gone : Side} {path : BoolId} {slots : List Shape} → AllStand d slots → ((g : Graph) → Grows d g → (e : Env) → bool_value g e gone.path ≡ false) → AreOneOf d cond gone path slots slots
one_waits {slots = slots} h off = record {
  stand = h;
  first = λ g e more c p. absurd (true≢false (sym p ∙ off g more e));
  second = λ g e more c p. front_whole g e slots;
}

pub one_is_gone : {d : Graph} {cond : BoolId} {gone : Side} {path : BoolId} {slots : List Shape} → SideStands d gone → ((g : Graph) → Grows d g → (e : Env) → bool_value g e path ≡ false) → AreOneOf d cond gone path slots gone.slots
one_is_gone {gone = gone} h off = record {
  stand = h.slots;
  first = λ g e more c p. front_whole g e gone.slots;
  second = λ g e more c p. absurd (true≢false (sym p ∙ off g more e));
}

pub one_is_merged : {d : Graph} {cond : BoolId} {gone : Side} {path : BoolId} {slots : List Shape} (made : List Shape) → AreMerged d cond gone.slots slots made → AreOneOf d cond gone path slots made
one_is_merged {cond = cond} {gone = gone} {slots = slots} made are = record {
  stand = are.stand;
  first = λ g e more c p. record { front = are.value g more e ∙ ap (λ b. take (length made) (if b then shapes_value g e gone.slots else shapes_value g e slots)) c };
  second = λ g e more c p. record { front = are.value g more e ∙ ap (λ b. take (length made) (if b then shapes_value g e gone.slots else shapes_value g e slots)) c };
}

pub joined_is : {x : Setting} {d0 d1 d2 : Graph} {s0 : SymState} {cond path : BoolId} {gone : Side} {slots : List Shape} {cursor : ℕ} → StateStands d0 x.expanded.now.prog s0
    → Keeps d0 d1 → HasBool d1.nodes path → ((g : Graph) → Grows d1 g → (e : Env) → bool_value g e path ≡ (bool_value g e gone.path || bool_value g e s0.path))
    → IsCursorBehind d1 gone.path gone.cursor s0.path s0.cursor cursor
    → Keeps d1 d2 → AreOneOf d2 cond gone s0.path s0.frame.slots slots
    → AreJoined x d0 d2 s0 (record s0 { path = path; cursor = cursor; frame = record s0.frame { slots = slots } }) cond gone
joined_is {x} {d0} {d1} {d2} {s0} {cond} {path} {gone} {slots} {cursor} h k1 t v behind k2 one =
    let k : Keeps d0 d2 = Keeps-trans k1 k2 in
    let now : StateStands d2 x.expanded.now.prog s0 = StateStands-keeps k h in
    let along : AreAlong s0 (record s0 { path = path; cursor = cursor; frame = record s0.frame { slots = slots } }) = record { failed = refl; skipped = refl; cost = refl; heap = refl; structs = refl; returned = refl; ended = refl; most = refl } in
    record {
      keeps = k;
      along = along;
      stands = stands_along along now (k2.sorts _ BoolSort t) one.stand;
      path = λ g e more. v g (k2.later g more) e;
      first = λ g e values more c p f. front_of_front slots (one.first g e more c p) f;
      second = λ g e values more c p f. front_of_front slots (one.second g e more c p) f;
      cursor = record { first = λ g e more. behind.first g e (k2.later g more); second = λ g e more. behind.second g e (k2.later g more); one = behind.one };
    }

-- ---- the cursor behind a branch

pub behind_one_waits : {d : Graph} {gone path : BoolId} {first second : ℕ} → ((g : Graph) → Grows d g → (e : Env) → bool_value g e gone ≡ false) → IsCursorBehind d gone first path second second
behind_one_waits off = record { first = λ g e more p. absurd (true≢false (sym p ∙ off g more e)); second = λ g e more p. omega arith; one = inr refl }

pub behind_one_is_gone : {d : Graph} {gone path : BoolId} {first second : ℕ} → ((g : Graph) → Grows d g → (e : Env) → bool_value g e path ≡ false) → IsCursorBehind d gone first path second first
behind_one_is_gone off = record { first = λ g e more p. omega arith; second = λ g e more p. absurd (true≢false (sym p ∙ off g more e)); one = inl refl }

pub behind_both : {d : Graph} {gone path : BoolId} {first second cursor : ℕ} → first ≤ cursor → second ≤ cursor → (cursor ≡ first) ⊎ (cursor ≡ second) → IsCursorBehind d gone first path second cursor
behind_both a b one = record { first = λ g e more p. a; second = λ g e more p. b; one = one }

pub ruleset behind = (behind_one_waits, behind_one_is_gone, behind_both)
