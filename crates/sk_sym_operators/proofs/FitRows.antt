-- Lists of shapes as so many bits.
use Rattle.std.proofs.lemmas.Option.{slice_get_within, slice_get-map, get_or_from_slice_get}
use Rattle.std.proofs.lemmas.List.Elements.{All-nil, All-cons, All-tail}
use Rattle.std.proofs.Common.{◌≡◌, ◌≢◌, ℕ, zero, suc, ◌+◌, ◌*◌, ◌/◌, ◌%◌, ◌==◌, ◌<◌, ◌≤◌, Bool, true, false, true≢false, ◌&&◌, ◌||◌, List, [], ◌∷◌, ◌++◌, length, Option, Some, None, option_map, slice_get, refl, sym, ap, subst, ◌∙◌, arith, length-append, if◌then◌else◌}
use Rattle.sk_base.specs.declared.span.Span.{Span}
use Rattle.sk_dag.specs.declared.env.Env.{Env}
use Rattle.sk_dag.specs.declared.node.BoolId.{BoolId}
use Rattle.sk_dag.specs.declared.shape.Targets.{Targets}
use Rattle.sk_dag.specs.declared.shape.Shape.{Shape}
use Rattle.sk_dag.specs.declared.shape.Shape.TheVariants as shape
use Rattle.sk_dag.specs.declared.shape.Shape.TheViews.{out-Shape, outs-Bit, outs-Int, outs-Reference, outs-Array}
use Rattle.sk_dag.specs.declared.shape.Seen.TheVariants as seen
use Rattle.sk_dag.specs.Graph.{Graph, Grows, HasBool}
use Rattle.sk_dag.specs.Eval.{bool_value, word_value, Keeps}
use Rattle.sk_dag.specs.EvalShape.{shape_value, held_slot}
use Rattle.sk_arr.specs.Shapes.{Stands, AllStand, SlotsPass, AllSlotsPass}
use Rattle.sk_arr.specs.Answers.{shapes_value}
use Rattle.sk_arr.specs.Bits.{AreBits}
use Rattle.sk_arr.proofs.BitLaws.{is_bit, bits_none, bits_push}
use Rattle.sk_arr.proofs.Parts.{shape_law}
use Rattle.sk_arr.proofs.Standing.{bit_stands, bit_there, AllStand-keeps}
use Rattle.sk_arr.proofs.Values.{value_bit, value_int, value_reference, value_array, map_push, length_map, stand_none, stand_push, array_passes}
use Rattle.sk_prog.specs.declared.expr.BinOp.{BinOp}
use Rattle.sk_prog.specs.declared.expr.BinOp.TheVariants as op
use Rattle.sk_prog.specs.declared.expr.UnOp.TheVariants as unary
use Rattle.sk_prog.specs.declared.value.Value.{Value}
use Rattle.sk_model.specs.Step.{Comp, pure}
use Rattle.sk_model.specs.Operators.{bit, array_of, either_bit, operand, Bits, number_of, lowest, sum_of, pairwise, bits_operator, on_operand, on_operands, unary_operator}
use Rattle.sk_heap_laws.specs.Values.{value_of, IsLive, AllLive}
use Rattle.sk_heap_laws.proofs.Parts.{of_int, of_null, of_slot, of_array, live_array, live_tail, live_cons, live_nil}
use Rattle.sk_sym_operators.specs.Worth.{worth, bits_in}
use Rattle.sk_sym_operators.specs.Answers.{IsOperated}
use Rattle.sk_sym_operators.specs.Fitting.{node_in, node_at, nodes_of, fit, AreFitted, IsSmaller}
use Rattle.sk_sym_operators.proofs.Operating.{OnForms, UnaryOf}
use Rattle.sk_sym_operators.proofs.BitRows.{bit_is, bits_live, bits_pass, row_operand}

-- ---- so many bits

abbrev or_false : Option Bool → Bool
or_false None = false
or_false (Some b) = b

fit_more : (n : ℕ) (bs : List Bool) → fit (suc n) bs ≡ fit n bs ++ or_false (slice_get bs n) ∷ []
fit_more zero [] = refl
fit_more zero (b ∷ bs) = refl
fit_more (suc n) [] = ap (λ l. false ∷ l) (fit_more n [])
fit_more (suc n) (b ∷ bs) = ap (λ l. b ∷ l) (fit_more n bs)

-- as many as there are
fit_all : (bs : List Bool) → fit (length bs) bs ≡ bs
fit_all [] = refl
fit_all (b ∷ bs) = ap (λ l. b ∷ l) (fit_all bs)

-- two lists cut to the length of the shorter, pair by pair
pairs_fit : (f : Bool → Bool → Bool) (xs ys : List Bool) (n : ℕ) → n ≤ length xs → n ≤ length ys → ((n < length xs) → (n < length ys) → ⊥) → pairwise f (fit n xs) (fit n ys) ≡ pairwise f xs ys
pairs_fit f [] ys zero p q one = refl
pairs_fit f [] ys (suc n) p q one = absurd (omega (arith, p))
pairs_fit f (x ∷ xs) [] zero p q one = refl
pairs_fit f (x ∷ xs) [] (suc n) p q one = absurd (omega (arith, q))
pairs_fit f (x ∷ xs) (y ∷ ys) zero p q one = absurd (one (omega arith) (omega arith))
pairs_fit f (x ∷ xs) (y ∷ ys) (suc n) p q one = ap (λ l. f x y ∷ l) (pairs_fit f xs ys n (omega (arith, p)) (omega (arith, q)) (λ a b. one (omega (arith, a)) (omega (arith, b))))

abbrev digit : Bool → ℕ
digit b = if b then 1 else 0

none_is : (n : ℕ) → number_of (fit n []) ≡ 0
none_is zero = refl
none_is (suc n) = ap (λ k. 0 + 2 * k) (none_is n)

same_rest : (c d k m : ℕ) → (c + (d + 2 * k)) % 2 ≡ (c + (d + 2 * m)) % 2
same_rest c d k m = omega arith

halved : (c d k : ℕ) → (c + (d + 2 * k)) / 2 ≡ (c + d) / 2 + k
halved c d k = omega arith

-- the lowest bits of a sum are those of the lowest bits
sum_fits : (n c : ℕ) (bs : List Bool) → lowest n (c + number_of (fit n bs)) ≡ lowest n (c + number_of bs)
sum_fits zero c bs = refl
sum_fits (suc n) c [] = ap (λ k. lowest (suc n) (c + k)) (none_is (suc n))
sum_fits (suc n) c (b ∷ bs) =
    let odd : (c + (digit b + 2 * number_of (fit n bs))) % 2 ≡ (c + (digit b + 2 * number_of bs)) % 2 = same_rest c (digit b) (number_of (fit n bs)) (number_of bs) in
    let rest : lowest n ((c + (digit b + 2 * number_of (fit n bs))) / 2) ≡ lowest n ((c + (digit b + 2 * number_of bs)) / 2) =
    ap (lowest n) (halved c (digit b) (number_of (fit n bs))) ∙ sum_fits n ((c + digit b) / 2) bs ∙ ap (lowest n) (sym (halved c (digit b) (number_of bs))) in
    λ i. (odd i == 1) ∷ rest i

sum_fit : (xs ys : List Bool) → sum_of (fit (length xs) xs) (fit (length xs) ys) ≡ sum_of xs ys
sum_fit xs ys = ap (λ l. sum_of l (fit (length xs) ys)) (fit_all xs) ∙ sum_fits (length xs) (number_of xs) ys

-- ---- their nodes

pub node_other : (nought : BoolId) (s : Shape) → ((a : BoolId) → s ≡ shape.Bit a → ⊥) → nought ≡ node_in nought (out-Shape s)
node_other nought = shape_law (λ s. ((a : BoolId) → s ≡ shape.Bit a → ⊥) → nought ≡ node_in nought (out-Shape s))
    (λ a other. absurd (other a refl))
    (λ a other. sym (ap (node_in nought) (outs-Int a)))
    (λ t other. sym (ap (node_in nought) (outs-Reference t)))
    (λ ss below other. sym (ap (node_in nought) (outs-Array ss)))

module _ {g : Graph} (nought : BoolId) (list : List Shape) (there : HasBool g.nodes nought) (all : AllStand g list) where
  node_there : (s : Shape) → Stands g s → HasBool g.nodes (node_in nought (out-Shape s))
  node_there = shape_law (λ s. Stands g s → HasBool g.nodes (node_in nought (out-Shape s)))
      (λ a stands. subst (λ z. HasBool g.nodes (node_in nought z)) (sym (outs-Bit a)) (bit_there stands refl))
      (λ a stands. subst (λ z. HasBool g.nodes (node_in nought z)) (sym (outs-Int a)) there)
      (λ t stands. subst (λ z. HasBool g.nodes (node_in nought z)) (sym (outs-Reference t)) there)
      (λ ss below stands. subst (λ z. HasBool g.nodes (node_in nought z)) (sym (outs-Array ss)) there)

  place_there : (n : ℕ) (o : Option Shape) → slice_get list n ≡ o → HasBool g.nodes (node_at nought o)
  place_there n None is = there
  place_there n (Some s) is = node_there s (subst (Stands g) (get_or_from_slice_get list n s s is) (all.each n s (slice_get_within list n s is)))

  nodes_stand : (n : ℕ) → AllStand g (nodes_of nought list n)
  nodes_stand zero = stand_none g
  nodes_stand (suc n) = stand_push (nodes_of nought list n) (shape.Bit (node_at nought (slice_get list n))) (nodes_stand n)
      (bit_stands g (node_at nought (slice_get list n)) (place_there n (slice_get list n) refl))

nodes_bits : (nought : BoolId) (list : List Shape) (n : ℕ) → AreBits (nodes_of nought list n)
nodes_bits nought list zero = bits_none
nodes_bits nought list (suc n) = bits_push (nodes_of nought list n) (shape.Bit (node_at nought (slice_get list n))) (nodes_bits nought list n) (is_bit (node_at nought (slice_get list n)))

nodes_long : (nought : BoolId) (list : List Shape) (n : ℕ) → length (nodes_of nought list n) ≡ n
nodes_long nought list zero = refl
nodes_long nought list (suc n) = omega (arith, length-append (nodes_of nought list n) (shape.Bit (node_at nought (slice_get list n)) ∷ []), nodes_long nought list n)

pub nodes_more : (nought : BoolId) (list : List Shape) (n : ℕ) → nodes_of nought list n ++ shape.Bit (node_at nought (slice_get list n)) ∷ [] ≡ nodes_of nought list (n + 1)
nodes_more nought list n = let next : suc n ≡ n + 1 = omega arith in ap (nodes_of nought list) next

-- a reference is no bit
reference_bit : (h : Graph) (e : Env) (t : Targets) → bit (value_of (λ n. 0) (shape_value h e (shape.Reference t))) ≡ false
reference_bit h e t = ap (λ v. bit (value_of (λ n. 0) v)) (value_reference h e t) ∙ by (held_slot h e t.slots.items)
  where
    by : (s : Option ℕ) → bit (value_of (λ n. 0) (seen.Slot s)) ≡ false
    by None = ap bit (of_null (λ n. 0))
    by (Some n) = ap bit (of_slot (λ n. 0) n)

module _ (nought : BoolId) (list : List Shape) (h : Graph) (e : Env) (never : bool_value h e nought ≡ false) where
  abbrev seen_bit : Shape → Bool
  seen_bit s = bit (value_of (λ n. 0) (shape_value h e s))

  node_value : (s : Shape) → bool_value h e (node_in nought (out-Shape s)) ≡ seen_bit s
  node_value = shape_law (λ s. bool_value h e (node_in nought (out-Shape s)) ≡ seen_bit s)
      (λ a. ap (λ z. bool_value h e (node_in nought z)) (outs-Bit a) ∙ sym (ap (λ v. bit (value_of (λ n. 0) v)) (value_bit h e a) ∙ bit_is (λ n. 0) (bool_value h e a)))
      (λ a. ap (λ z. bool_value h e (node_in nought z)) (outs-Int a) ∙ never ∙ sym (ap (λ v. bit (value_of (λ n. 0) v)) (value_int h e a) ∙ ap bit (of_int (λ n. 0) (word_value h e a))))
      (λ t. ap (λ z. bool_value h e (node_in nought z)) (outs-Reference t) ∙ never ∙ sym (reference_bit h e t))
      (λ ss below. ap (λ z. bool_value h e (node_in nought z)) (outs-Array ss) ∙ never ∙ sym (ap (λ v. bit (value_of (λ n. 0) v)) (value_array h e ss) ∙ ap bit (of_array (λ n. 0) (shapes_value h e ss))))

  place_value : (o : Option Shape) → bool_value h e (node_at nought o) ≡ or_false (option_map seen_bit o)
  place_value None = never
  place_value (Some s) = node_value s

  nodes_value : (n : ℕ) → bits_in h e (nodes_of nought list n) ≡ fit n (bits_in h e list)
  nodes_value zero = refl
  nodes_value (suc n) =
      let a = node_at nought (slice_get list n) in
      map_push seen_bit (nodes_of nought list n) (shape.Bit a)
      ∙ (λ i. nodes_value n i ++ (ap (λ v. bit (value_of (λ n. 0) v)) (value_bit h e a) ∙ bit_is (λ n. 0) (bool_value h e a) ∙ place_value (slice_get list n) ∙ ap or_false (sym (slice_get-map seen_bit list n))) i ∷ [])
      ∙ sym (fit_more n (bits_in h e list))

pub nodes_fitted : {d g : Graph} {nought : BoolId} {list made : List Shape} {n : ℕ} → AllStand d list → Keeps d g → HasBool g.nodes nought → ((h : Graph) → Grows g h → (e : Env) → bool_value h e nought ≡ false) → made ≡ nodes_of nought list n → AreFitted g list n made
nodes_fitted {d} {g} {nought} {list} {made} {n} all keeps there never is = subst (AreFitted g list n) (sym is) (record {
  stand = nodes_stand nought list there (AllStand-keeps keeps all) n;
  bits = nodes_bits nought list n;
  long = nodes_long nought list n;
  value = λ h more e. nodes_value nought list h e (never h more e) n;
})

-- ---- operators on them

-- what is answered for arrays of bits may be answered for other shapes where the same is done
regrounded : {g : Graph} {r : Shape} {fails : BoolId} (args others : List Shape) (m m' : Graph → Env → (ℕ → Bool) → Span → Comp Value) → ((test : ℕ → Bool) → AllSlotsPass test args → AllSlotsPass test others) → ((h : Graph) (e : Env) (holds : ℕ → Bool) → AllLive holds (shapes_value h e args) → AllLive holds (shapes_value h e others)) → ((h : Graph) → Grows g h → (e : Env) (holds : ℕ → Bool) (span : Span) → m h e holds span ≡ m' h e holds span) → IsOperated g others m' r fails → IsOperated g args m r fails
regrounded args others m m' passes lives same is = record {
  stands = is.stands;
  there = is.there;
  named = λ test p. is.named test (passes test p);
  live = λ h more e holds l never. is.live h more e holds (lives h e holds l) never;
  value = λ h more e holds l span. same h more e holds span ∙ is.value h more e holds (lives h e holds l) span;
}

row_passes : (test : ℕ → Bool) (row : List Shape) → AreBits row → SlotsPass test (shape.Array row)
row_passes test row are = array_passes test row (bits_pass test row are)

row_live : (holds : ℕ → Bool) (h : Graph) (e : Env) (row : List Shape) → AreBits row → IsLive holds (shape_value h e (shape.Array row))
row_live holds h e row are = subst (IsLive holds) (sym (value_array h e row)) (live_array holds (shapes_value h e row) (bits_live holds h e row are))

-- the bits are the same
whole_bits : {g : Graph} {x row : List Shape} {n : ℕ} → n ≡ length x → AreFitted g x n row → (h : Graph) → Grows g h → (e : Env) → bits_in h e row ≡ bits_in h e x
whole_bits {g} {x} {row} {n} all is h more e =
    let same : n ≡ length (bits_in h e x) = all ∙ sym (length_map (λ s. bit (value_of (λ n. 0) (shape_value h e s))) x) in
    is.value h more e ∙ ap (λ k. fit k (bits_in h e x)) same ∙ fit_all (bits_in h e x)

module _ {d g : Graph} {r : Shape} {fails : BoolId} {v w : ℕ} (same : v ≡ w) where
  pub of_row : {x row : List Shape} {n : ℕ} (o : BinOp) {b : Shape} → n ≡ length x → AreFitted d x n row → Keeps d g → OnForms g v o (shape.Array row) b r fails → OnForms g w o (shape.Array x) b r fails
  of_row {x} {row} {n} o {b} all is keeps h = regrounded (shape.Array x ∷ b ∷ []) (shape.Array row ∷ b ∷ [])
      (λ h e holds span. on_operands w span o (operand (worth holds h e (shape.Array x))) (operand (worth holds h e b)))
      (λ h e holds span. on_operands w span o (operand (worth holds h e (shape.Array row))) (operand (worth holds h e b)))
      (λ test p. record { each = All-cons (SlotsPass test) (shape.Array row) (b ∷ []) (row_passes test row is.bits) (All-tail (SlotsPass test) (shape.Array x) (b ∷ []) p.each) })
      (λ h e holds l. live_cons holds (shape_value h e (shape.Array row)) (shapes_value h e (b ∷ [])) (row_live holds h e row is.bits) (live_tail holds (shape_value h e (shape.Array x)) (shapes_value h e (b ∷ [])) l))
      (λ h more e holds span. ap (λ v. on_operands w span o v (operand (worth holds h e b)))
      (row_operand holds h e (shape.Array x) x refl ∙ sym (ap (λ l. Bits l) (whole_bits all is h (keeps.later h more) e)) ∙ sym (row_operand holds h e (shape.Array row) row refl)))
      (subst (λ k. OnForms g k o (shape.Array row) b r fails) same h)

  pub of_flipped : {x row : List Shape} {n : ℕ} → n ≡ length x → AreFitted d x n row → Keeps d g → UnaryOf g v unary.Flip (shape.Array row) r fails → UnaryOf g w unary.Flip (shape.Array x) r fails
  of_flipped {x} {row} {n} all is keeps h = regrounded (shape.Array x ∷ []) (shape.Array row ∷ [])
      (λ h e holds span. unary_operator w span unary.Flip (worth holds h e (shape.Array x)))
      (λ h e holds span. unary_operator w span unary.Flip (worth holds h e (shape.Array row)))
      (λ test p. record { each = All-cons (SlotsPass test) (shape.Array row) [] (row_passes test row is.bits) (All-nil (SlotsPass test)) })
      (λ h e holds l. live_cons holds (shape_value h e (shape.Array row)) [] (row_live holds h e row is.bits) (live_nil holds))
      (λ h more e holds span. ap (on_operand w span unary.Flip)
      (row_operand holds h e (shape.Array x) x refl ∙ sym (ap (λ l. Bits l) (whole_bits all is h (keeps.later h more) e)) ∙ sym (row_operand holds h e (shape.Array row) row refl)))
      (subst (λ k. UnaryOf g k unary.Flip (shape.Array row) r fails) same h)

pub smaller_as : {a a' b b' m : ℕ} → a ≡ a' → b ≡ b' → IsSmaller a b m → IsSmaller a' b' m
smaller_as {a} {a'} {b} {b'} {m} p q is = subst (λ z. IsSmaller a' z m) q (subst (λ z. IsSmaller z b m) p is)

abbrev is_sum : BinOp → Bool
is_sum op.Add = true
is_sum _ = false

other : (o : BinOp) → is_sum o ≡ false → o ≢ op.Add
other o is same = true≢false (sym (ap is_sum same) ∙ is)

abbrev done : List Bool → Comp Value
done l = pure (array_of l)

-- an operator sees so many bits of two arrays
fit_operands : (w n : ℕ) (span : Span) (o : BinOp) (xs ys : List Bool) → (o ≡ op.Add → n ≡ length xs) → (o ≢ op.Add → IsSmaller (length xs) (length ys) n) → on_operands w span o (Bits xs) (Bits ys) ≡ on_operands w span o (Bits (fit n xs)) (Bits (fit n ys))
fit_operands w n span op.Add xs ys sums others = let n_is : length xs ≡ n = sym (sums refl) in subst (λ k. bits_operator span op.Add xs ys ≡ bits_operator span op.Add (fit k xs) (fit k ys)) n_is (ap done (sym (sum_fit xs ys)))
fit_operands w n span op.And xs ys sums others = let s = others (other op.And refl) in ap done (sym (pairs_fit (λ x y. x && y) xs ys n s.first s.second s.one))
fit_operands w n span op.Or xs ys sums others = let s = others (other op.Or refl) in ap done (sym (pairs_fit (λ x y. x || y) xs ys n s.first s.second s.one))
fit_operands w n span op.Xor xs ys sums others = let s = others (other op.Xor refl) in ap done (sym (pairs_fit either_bit xs ys n s.first s.second s.one))
fit_operands w n span _ xs ys sums others = refl

module _ {d k g : Graph} {r : Shape} {fails : BoolId} {v w : ℕ} (same : v ≡ w) where
  pub of_two : {x y first second : List Shape} {n : ℕ} {o : BinOp} → (o ≡ op.Add → n ≡ length x) → (o ≢ op.Add → IsSmaller (length x) (length y) n) → AreFitted d x n first → Keeps d k → AreFitted k y n second → Keeps k g → OnForms g v o (shape.Array first) (shape.Array second) r fails → OnForms g w o (shape.Array x) (shape.Array y) r fails
  of_two {x} {y} {first} {second} {n} {o} sums others one keeps two later h = regrounded (shape.Array x ∷ shape.Array y ∷ []) (shape.Array first ∷ shape.Array second ∷ [])
      (λ h e holds span. on_operands w span o (operand (worth holds h e (shape.Array x))) (operand (worth holds h e (shape.Array y))))
      (λ h e holds span. on_operands w span o (operand (worth holds h e (shape.Array first))) (operand (worth holds h e (shape.Array second))))
      (λ test p. record { each = All-cons (SlotsPass test) (shape.Array first) (shape.Array second ∷ []) (row_passes test first one.bits) (All-cons (SlotsPass test) (shape.Array second) [] (row_passes test second two.bits) (All-nil (SlotsPass test))) })
      (λ h e holds l. live_cons holds (shape_value h e (shape.Array first)) (shapes_value h e (shape.Array second ∷ [])) (row_live holds h e first one.bits) (live_cons holds (shape_value h e (shape.Array second)) [] (row_live holds h e second two.bits) (live_nil holds)))
      (λ h more e holds span.
      let xs = bits_in h e x in
      let ys = bits_in h e y in
      let long : length xs ≡ length x = length_map (λ s. bit (value_of (λ n. 0) (shape_value h e s))) x in
      let long' : length ys ≡ length y = length_map (λ s. bit (value_of (λ n. 0) (shape_value h e s))) y in
      (λ i. on_operands w span o (row_operand holds h e (shape.Array x) x refl i) (row_operand holds h e (shape.Array y) y refl i))
      ∙ fit_operands w n span o xs ys (λ is. sums is ∙ sym long) (λ not. smaller_as (sym long) (sym long') (others not))
      ∙ sym (λ i. on_operands w span o (Bits (one.value h (keeps.later h (later.later h more)) e i)) (Bits (two.value h (later.later h more) e i)))
      ∙ sym (λ i. on_operands w span o (row_operand holds h e (shape.Array first) first refl i) (row_operand holds h e (shape.Array second) second refl i)))
      (subst (λ m. OnForms g m o (shape.Array first) (shape.Array second) r fails) same h)
