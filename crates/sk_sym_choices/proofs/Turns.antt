-- Nodes that are worth a list with one more put in, and the turns of a statement.
use Rattle.std.proofs.Common.{◌≡◌, ℕ, zero, suc, ◌+◌, ◌-◌, ◌<◌, ◌≤◌, ◌==◌, nat_lt, Bool, true, false, if◌then◌else◌, List, [], ◌∷◌, ◌++◌, length, take, get_or, replicate, Option, refl, sym, ap, subst, ◌∙◌, arith, length-append, inl, inr}
use Rattle.std.specs.List.{insert}
use Rattle.std.proofs.lemmas.List.{take_more, take_all, map-append, length-replicate}
use Rattle.std.proofs.lemmas.List.Elements.{All-nil, All-push, All-replicate}
use Rattle.std.proofs.lemmas.Bool.{ne_eqb, eq-eqb}
use Rattle.std.proofs.lemmas.Bool.Decides.{leb_tells}
use Rattle.sk_dag.specs.declared.env.Env.{Env}
use Rattle.sk_dag.specs.declared.node.BoolId.{BoolId}
use Rattle.sk_dag.specs.Graph.{Graph, Grows, HasBool}
use Rattle.sk_dag.specs.Eval.{bool_value, Keeps}
use Rattle.sk_model.specs.declared.expanded.Choice.{Choice}
use Rattle.sk_model.specs.Fill.{digit}
use Rattle.sk_sym_folds.specs.Chosen.{chosen_values}
use Rattle.sk_sym_choices.specs.Orders.{turns, AreDigits, values_of, AllThere, IsPut, AreTurns, IsGiven}
use Rattle.sk_sym_choices.proofs.Inserting.{length_insert, put}
use Rattle.sk_sym_choices.proofs.OrderLaws.{turns_more, turns_before}

pub Keeps-refl : (a : Graph) → Keeps a a
Keeps-refl a = record { later = λ g h. h; sorts = λ i s h. h }

pub there_keeps : {old new : Graph} {nodes : List BoolId} → Keeps old new → AllThere old nodes → AllThere new nodes
there_keeps k h = record { each = λ i d l. k.sorts _ _ (h.each i d l) }

pub there_none : (g : Graph) → AllThere g []
there_none g = record { each = All-nil (HasBool g.nodes) }

there_push : {g : Graph} (nodes : List BoolId) (node : BoolId) → AllThere g nodes → HasBool g.nodes node → AllThere g (nodes ++ node ∷ [])
there_push {g} nodes node h k = record { each = All-push (HasBool g.nodes) nodes node h.each k }

pub length_values : (g : Graph) (e : Env) (nodes : List BoolId) → length (values_of g e nodes) ≡ length nodes
length_values g e [] = refl
length_values g e (n ∷ nodes) = ap suc (length_values g e nodes)

pub values_replicate : (g : Graph) (e : Env) (n : ℕ) (node : BoolId) → values_of g e (replicate n node) ≡ replicate n (bool_value g e node)
values_replicate g e zero node = refl
values_replicate g e (suc n) node = ap (λ bs. bool_value g e node ∷ bs) (values_replicate g e n node)

pub value_at : (g : Graph) (e : Env) (nodes : List BoolId) (i : ℕ) (node : BoolId) → bool_value g e (get_or nodes i node) ≡ get_or (values_of g e nodes) i (bool_value g e node)
value_at g e [] zero node = refl
value_at g e [] (suc i) node = refl
value_at g e (n ∷ nodes) zero node = refl
value_at g e (n ∷ nodes) (suc i) node = value_at g e nodes i node

pub there_at : {g : Graph} (nodes : List BoolId) (i : ℕ) (node : BoolId) → AllThere g nodes → HasBool g.nodes node → HasBool g.nodes (get_or nodes i node)
there_at {g} nodes i node h k =
    elim (leb_tells (suc i) (length nodes)) [
      | inl u ↦ h.each i node u.1
      | inr u ↦ subst (λ n. HasBool g.nodes n) (sym (get_or_past nodes i node (omega (arith, u.1)))) k
    ]
  where
    get_or_past : (nodes : List BoolId) (i : ℕ) (node : BoolId) → length nodes ≤ i → get_or nodes i node ≡ node
    get_or_past [] zero node l = refl
    get_or_past [] (suc i) node l = refl
    get_or_past (n ∷ nodes) zero node l = absurd (omega (arith, l))
    get_or_past (n ∷ nodes) (suc i) node l = get_or_past nodes i node (omega (arith, l))

pub given_keeps : {old new : Graph} {node : BoolId} {b : Bool} → Keeps old new → IsGiven old node b → IsGiven new node b
given_keeps k h = record { there = k.sorts _ _ h.there; value = λ g m e. h.value g (k.later g m) e }

pub given_by : {graph : Graph} {node : BoolId} {b : Bool} → HasBool graph.nodes node → ((g : Graph) → Grows graph g → (e : Env) → bool_value g e node ≡ b) → IsGiven graph node b
given_by there value = record { there = there; value = value }

-- what stands at a turn once one more is put in
pub put_value : (g : Graph) (e : Env) (nodes : List BoolId) (node : BoolId) (n t : ℕ) (same above near before here r : BoolId)
    → n ≤ length nodes → t ≤ length nodes
    → bool_value g e same ≡ (n == (length nodes - t))
    → bool_value g e above ≡ nat_lt (length nodes - t) n
    → here ≡ get_or nodes t node
    → before ≡ get_or nodes (t - 1) node
    → bool_value g e near ≡ (if bool_value g e same then bool_value g e node else bool_value g e here)
    → bool_value g e r ≡ (if bool_value g e above then bool_value g e before else bool_value g e near)
    → bool_value g e r ≡ get_or (insert (values_of g e nodes) (length nodes - n) (bool_value g e node)) t (bool_value g e node)
put_value g e nodes node n t same above near before here r hn ht is_same is_above is_here is_before is_near is_r =
    let xs : List Bool = values_of g e nodes in
    let b : Bool = bool_value g e node in
    let long : length xs ≡ length nodes = length_values g e nodes in
    let there : bool_value g e here ≡ get_or xs t b = ap (λ m. bool_value g e m) is_here ∙ value_at g e nodes t node in
    let back : bool_value g e before ≡ get_or xs (t - 1) b = ap (λ m. bool_value g e m) is_before ∙ value_at g e nodes (t - 1) node in
    let nearly : bool_value g e near ≡ (if n == length nodes - t then b else get_or xs t b) =
    is_near ∙ ap (λ c. if c then b else bool_value g e here) is_same ∙ ap (λ c. if n == length nodes - t then b else c) there in
    is_r
    ∙ ap (λ c. if c then bool_value g e before else bool_value g e near) is_above
    ∙ ap (λ c. if nat_lt (length nodes - t) n then c else bool_value g e near) back
    ∙ ap (λ c. if nat_lt (length nodes - t) n then get_or xs (t - 1) b else c) nearly
    ∙ ap (λ l. if nat_lt (l - t) n then get_or xs (t - 1) b else if n == l - t then b else get_or xs t b) (sym long)
    ∙ put xs n t b (omega (arith, long, hn)) (omega (arith, long, ht))
    ∙ ap (λ l. get_or (insert xs (l - n) b) t b) long

-- ---- one more is put in

-- the first turns are worth what they are then
pub record IsPutSoFar (graph : Graph) (behind : Env → ℕ) (nodes : List BoolId) (node : BoolId) (turn : ℕ) (made : List BoolId) : Type 0 where
  pub there : AllThere graph made
  pub long : length made ≡ turn
  pub value : (g : Graph) → Grows graph g → (e : Env) → behind e ≤ length nodes → values_of g e made ≡ take turn (insert (values_of g e nodes) (length nodes - behind e) (bool_value g e node))

pub put_none : (graph : Graph) (behind : Env → ℕ) (nodes : List BoolId) (node : BoolId) → IsPutSoFar graph behind nodes node 0 []
put_none graph behind nodes node = record {
  there = there_none graph;
  long = refl;
  value = λ g m e h. refl;
}

pub put_more : {old new : Graph} {behind : Env → ℕ} {nodes : List BoolId} {node : BoolId} {turn : ℕ} {made : List BoolId} (next : BoolId)
    → IsPutSoFar old behind nodes node turn made → Keeps old new → turn ≤ length nodes → HasBool new.nodes next
    → ((g : Graph) → Grows new g → (e : Env) → behind e ≤ length nodes → bool_value g e next ≡ get_or (insert (values_of g e nodes) (length nodes - behind e) (bool_value g e node)) turn (bool_value g e node))
    → IsPutSoFar new behind nodes node (turn + 1) (made ++ next ∷ [])
put_more {old} {new} {behind} {nodes} {node} {turn} {made} next so_far keeps within there value = record {
  there = there_push made next (there_keeps keeps so_far.there) there;
  long = let a = so_far.long in omega (arith, length-append made (next ∷ []), a);
  value = λ g m e h.
      let whole : List Bool = insert (values_of g e nodes) (length nodes - behind e) (bool_value g e node) in
      let long : length whole ≡ suc (length nodes) = length_insert (values_of g e nodes) (length nodes - behind e) (bool_value g e node) ∙ ap suc (length_values g e nodes) in
      map-append (bool_value g e) made (next ∷ [])
      ∙ ap (λ bs. bs ++ bool_value g e next ∷ []) (so_far.value g (keeps.later g m) e h)
      ∙ ap (λ b. take turn whole ++ b ∷ []) (value g m e h)
      ∙ sym (take_more whole turn (bool_value g e node) (omega (arith, long, within)));
}

pub put_done : {graph : Graph} {behind : Env → ℕ} {nodes : List BoolId} {node : BoolId} {turn : ℕ} {made : List BoolId}
    → IsPutSoFar graph behind nodes node turn made → turn ≡ length nodes + 1 → IsPut graph behind nodes node made
put_done {graph} {behind} {nodes} {node} {turn} {made} so_far end = record {
  there = so_far.there;
  long = so_far.long ∙ omega (arith, end);
  value = λ g m e h.
      let whole : List Bool = insert (values_of g e nodes) (length nodes - behind e) (bool_value g e node) in
      let long : length whole ≡ suc (length nodes) = length_insert (values_of g e nodes) (length nodes - behind e) (bool_value g e node) ∙ ap suc (length_values g e nodes) in
      so_far.value g m e h ∙ take_all turn whole (omega (arith, long, end));
}

-- into none
pub put_first : {graph : Graph} (behind : Env → ℕ) (nodes : List BoolId) (node : BoolId) → length nodes ≡ 0 → HasBool graph.nodes node → IsPut graph behind nodes node (node ∷ [])
put_first {graph} behind [] node none there = record {
  there = there_push [] node (there_none graph) there;
  long = refl;
  value = λ g m e h. alone (0 - behind e) (bool_value g e node);
}
  where
    alone : (p : ℕ) (b : Bool) → b ∷ [] ≡ insert [] p b
    alone zero b = refl
    alone (suc p) b = refl
put_first behind (n ∷ nodes) node none there = absurd (omega (arith, none))

-- by a number that is said in another way
pub put_same : {graph : Graph} {behind : Env → ℕ} {nodes : List BoolId} {node : BoolId} {made : List BoolId} (other : Env → ℕ) → ((e : Env) → behind e ≡ other e) → IsPut graph behind nodes node made → IsPut graph other nodes node made
put_same {graph} {behind} {nodes} {node} {made} other same h = record {
  there = h.there;
  long = h.long;
  value = λ g m e. subst (λ n. n ≤ length nodes → values_of g e made ≡ insert (values_of g e nodes) (length nodes - n) (bool_value g e node)) (same e) (h.value g m e);
}

pub replicate_none : (node : BoolId) → [] ≡ replicate 0 node
replicate_none node = refl

pub replicate_more : (n : ℕ) (node : BoolId) → replicate n node ++ node ∷ [] ≡ replicate (n + 1) node
replicate_more n node = by n node ∙ ap (λ m. replicate m node) (let s : suc n ≡ n + 1 = omega arith in s)
  where
    by : (n : ℕ) (node : BoolId) → replicate n node ++ node ∷ [] ≡ replicate (suc n) node
    by zero node = refl
    by (suc n) node = ap (λ ns. node ∷ ns) (by n node)

pub ruleset copying = (replicate_none, replicate_more)

pub there_replicate : {graph : Graph} (n : ℕ) (node : BoolId) → HasBool graph.nodes node → AllThere graph (replicate n node)
there_replicate {graph} n node h = record { each = All-replicate (HasBool graph.nodes) n node h }

-- ---- the turns of a statement

-- where a statement is the last
pub turns_first : {old new : Graph} (given : Option Choice) (first k : ℕ) (never always : BoolId) (made : List BoolId)
    → IsGiven old never false → IsGiven old always true → Keeps old new
    → IsPut new (λ e. digit (chosen_values given e) first (length (replicate k never))) (replicate k never) always made
    → AreTurns new given first (k + 1) k made
turns_first {old} {new} given first k never always made n y keeps put_in = record {
  there = put_in.there;
  long = let a = put_in.long in let l : length (replicate k never) ≡ k = length-replicate k never in omega (arith, a, l);
  value = λ g m e d.
      let vs : List ℕ = chosen_values given e in
      let l : length (replicate k never) ≡ k = length-replicate k never in
      let small : digit vs first k ≤ k = d.each k (omega arith) in
      let fits : digit vs first (length (replicate k never)) ≤ length (replicate k never) = subst (λ j. digit vs first j ≤ j) (sym l) small in
      put_in.value g m e fits
      ∙ ap (λ xs. insert xs (length (replicate k never) - digit vs first (length (replicate k never))) (bool_value g e always)) (values_replicate g e k never)
      ∙ ap (λ j. insert (replicate k (bool_value g e never)) (j - digit vs first j) (bool_value g e always)) l
      ∙ ap (λ b. insert (replicate k b) (k - digit vs first k) (bool_value g e always)) (n.value g (keeps.later g m) e)
      ∙ ap (λ b. insert (replicate k false) (k - digit vs first k) b) (y.value g (keeps.later g m) e ∙ sym (eq-eqb k k refl))
      ∙ ap (λ xs. insert xs (k - digit vs first k) (k == k)) (sym (turns_before vs first k k (omega arith)))
      ∙ sym (turns_more vs first k k)
      ∙ ap (λ j. turns vs first j k) (let s : suc k ≡ k + 1 = omega arith in s);
}

-- where one more statement follows
pub turns_next : {old new : Graph} (given : Option Choice) (first count k : ℕ) (never : BoolId) (before made : List BoolId)
    → IsGiven old never false → Keeps old new → k < count → AreTurns old given first count k before
    → IsPut new (λ e. digit (chosen_values given e) first (length before)) before never made
    → AreTurns new given first (count + 1) k made
turns_next {old} {new} given first count k never before made n keeps below so_far put_in = record {
  there = put_in.there;
  long = let a = put_in.long in let l = so_far.long in omega (arith, a, l);
  value = λ g m e d.
      let vs : List ℕ = chosen_values given e in
      let l : length before ≡ count = so_far.long in
      let small : digit vs first count ≤ count = d.each count (omega arith) in
      let fits : digit vs first (length before) ≤ length before = subst (λ j. digit vs first j ≤ j) (sym l) small in
      let fewer : AreDigits vs first count = record { each = λ j b. d.each j (omega (arith, b)) } in
      put_in.value g m e fits
      ∙ ap (λ xs. insert xs (length before - digit vs first (length before)) (bool_value g e never)) (so_far.value g (keeps.later g m) e fewer)
      ∙ ap (λ j. insert (turns vs first count k) (j - digit vs first j) (bool_value g e never)) l
      ∙ ap (λ b. insert (turns vs first count k) (count - digit vs first count) b) (n.value g (keeps.later g m) e ∙ sym (ne_eqb count k (λ q. absurd (omega (arith, below, q)))))
      ∙ sym (turns_more vs first count k)
      ∙ ap (λ j. turns vs first j k) (let s : suc count ≡ count + 1 = omega arith in s);
}
