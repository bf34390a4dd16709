-- Steps of loops over lists.
use Rattle.std.proofs.Common.{◌≡◌, ℕ, suc, ◌+◌, ◌-◌, ◌*◌, ◌^◌, ◌<◌, ◌≤◌, Bool, List, [], ◌∷◌, ◌++◌, map, length, take, drop, get_or, refl, sym, ap, subst, ◌∙◌, arith, append_assoc, zero-add}
use Rattle.std.specs.List.{range_with_len}
use Rattle.std.proofs.lemmas.List.FromFn.{map-range_with_len_more}
use Rattle.std.proofs.lemmas.List.{take_more, drop_more, append-nil, length-take-le, at_drop_all}
use Rattle.sk_prog.specs.declared.ids.FunId.{FunId}
use Rattle.sk_prog.specs.declared.prog.Fun.{Fun}
use Rattle.sk_prog.specs.declared.prog.ParamDef.{ParamDef}
use Rattle.sk_prog.specs.declared.ty.Elem.{Elem}
use Rattle.sk_prog.specs.declared.value.Value.{Value}
use Rattle.sk_prog.specs.declared.value.Value.TheVariants as value
use Rattle.sk_model.specs.declared.expanded.Obligation.{Obligation}
use Rattle.sk_model.specs.Obligations.{obligations_from, of_fun}
use Rattle.sk_cnf.specs.declared.leaf.Leaf.{Leaf}
use Rattle.sk_gates.specs.Words.{digit, number}
use Rattle.sk_gates.proofs.WordLaws.{number_push, number_below}
use Rattle.sk_oblig_queries.specs.Numbers.{numbers_said, leaves_from}
use Rattle.sk_oblig_queries.specs.Widths.{numbers_of}
use Rattle.sk_oblig_queries.specs.Said.{first_of, elem_said, row_said, rows_said, value_said, args_said}

-- one more, where what is made and what is left make the whole
one_more : {X : Type 0} (made longer whole left : List X) (x : X) → longer ≡ made ++ x ∷ [] → made ++ x ∷ left ≡ whole → longer ++ left ≡ whole
one_more made longer whole left x e h = ap (λ xs. xs ++ left) e ∙ append_assoc made (x ∷ []) left ∙ h

-- Numbers

pub number_none : 0 ≡ number []
unfolding number
number_none = refl

pub number_next : (bits : List Bool) (i : ℕ) (d : Bool) → i < length bits → number (take (i + 1) bits) ≡ number (take i bits) + 2 ^ i * digit (get_or bits i d)
number_next bits i d h =
    let l : length (take i bits) ≡ i = length-take-le i bits (omega arith) in
    ap number (take_more bits i d h) ∙ number_push (take i bits) (get_or bits i d) ∙ ap (λ k. number (take i bits) + 2 ^ k * digit (get_or bits i d)) l

pub number_front : (bits : List Bool) (i : ℕ) → i ≤ length bits → number (take i bits) < 2 ^ i
number_front bits i h = subst (λ k. number (take i bits) < 2 ^ k) (length-take-le i bits h) (number_below (take i bits))

pub numbers_next : (ws : List ℕ) (i w : ℕ) (bits more : List Bool) (made longer whole : List ℕ) (n : ℕ) → i < length ws → w ≡ get_or ws i w → n ≡ number (take w bits) → more ≡ drop w bits → longer ≡ made ++ n ∷ [] → made ++ numbers_said (drop i ws) bits ≡ whole → longer ++ numbers_said (drop (i + 1) ws) more ≡ whole
numbers_next ws i w bits more made longer whole n h at is rest e before =
    let step : numbers_said (drop i ws) bits ≡ n ∷ numbers_said (drop (i + 1) ws) more =
    ap (λ xs. numbers_said xs bits) (drop_more ws i w h ∙ ap (λ x. x ∷ drop (i + 1) ws) (sym at))
    ∙ ap (λ x. x ∷ numbers_said (drop (i + 1) ws) (drop w bits)) (sym is)
    ∙ ap (λ bs. n ∷ numbers_said (drop (i + 1) ws) bs) (sym rest) in
    one_more made longer whole (numbers_said (drop (i + 1) ws) more) n e (ap (λ xs. made ++ xs) (sym step) ∙ before)

pub numbers_end : (ws : List ℕ) (i : ℕ) (bits : List Bool) (made whole : List ℕ) → length ws ≤ i → made ++ numbers_said (drop i ws) bits ≡ whole → made ≡ whole
numbers_end ws i bits made whole h before = sym (append-nil made) ∙ ap (λ xs. made ++ xs) (sym (at_drop_all (λ xs. numbers_said xs bits) ws i h)) ∙ before

-- Leaves

pub bits_next : (leaf : ℕ → Leaf) (k : ℕ) (l : Leaf) (old made longer : List Leaf) → l ≡ leaf k → made ≡ old ++ map leaf (range_with_len 0 k) → longer ≡ made ++ l ∷ [] → longer ≡ old ++ map leaf (range_with_len 0 (k + 1))
bits_next leaf k l old made longer is before e =
    e ∙ ap (λ x. made ++ x ∷ []) is ∙ ap (λ ls. ls ++ leaf k ∷ []) before ∙ append_assoc old (map leaf (range_with_len 0 k)) (leaf k ∷ [])
    ∙ ap (λ ls. old ++ ls) (sym (map-range_with_len_more leaf 0 k k (zero-add k)))

leaves_push : (leaf : ℕ → ℕ → Leaf) (n w : ℕ) (ws : List ℕ) → leaves_from leaf n (ws ++ w ∷ []) ≡ leaves_from leaf n ws ++ map (leaf (n + length ws)) (range_with_len 0 w)
leaves_push leaf n w [] = append-nil (map (leaf n) (range_with_len 0 w)) ∙ ap (λ k. map (leaf k) (range_with_len 0 w)) (omega arith)
leaves_push leaf n w (v ∷ ws) =
    let same : n + 1 + length ws ≡ n + suc (length ws) = omega arith in
    ap (λ ls. map (leaf n) (range_with_len 0 v) ++ ls) (leaves_push leaf (n + 1) w ws ∙ ap (λ k. leaves_from leaf (n + 1) ws ++ map (leaf k) (range_with_len 0 w)) same)
    ∙ sym (append_assoc (map (leaf n) (range_with_len 0 v)) (leaves_from leaf (n + 1) ws) (map (leaf (n + suc (length ws))) (range_with_len 0 w)))

pub leaves_next : (leaf : ℕ → ℕ → Leaf) (ws : List ℕ) (i d : ℕ) → i < length ws → leaves_from leaf 0 (take (i + 1) ws) ≡ leaves_from leaf 0 (take i ws) ++ map (leaf i) (range_with_len 0 (get_or ws i d))
leaves_next leaf ws i d h =
    let l : 0 + length (take i ws) ≡ i = omega (arith, length-take-le i ws (omega arith)) in
    ap (leaves_from leaf 0) (take_more ws i d h) ∙ leaves_push leaf 0 (get_or ws i d) (take i ws)
    ∙ ap (λ k. leaves_from leaf 0 (take i ws) ++ map (leaf k) (range_with_len 0 (get_or ws i d))) l

pub leaves_step : (leaf : ℕ → ℕ → Leaf) (ws : List ℕ) (i d place : ℕ) (made longer : List Leaf) → i < length ws → place ≡ i → made ≡ leaves_from leaf 0 (take i ws) → longer ≡ made ++ map (leaf place) (range_with_len 0 (get_or ws i d)) → longer ≡ leaves_from leaf 0 (take (i + 1) ws)
leaves_step leaf ws i d place made longer h at before e =
    e ∙ ap (λ ls. ls ++ map (leaf place) (range_with_len 0 (get_or ws i d))) before
    ∙ ap (λ k. leaves_from leaf 0 (take i ws) ++ map (leaf k) (range_with_len 0 (get_or ws i d))) at
    ∙ sym (leaves_next leaf ws i d h)

-- Obligations

obligations_push : (n : ℕ) (f : Fun) (fs : List Fun) → obligations_from n (fs ++ f ∷ []) ≡ obligations_from n fs ++ of_fun (record { index = n + length fs }) f
obligations_push n f [] = append-nil (of_fun (record { index = n }) f) ∙ ap (λ k. of_fun (record { index = k }) f) (omega arith)
obligations_push n f (g ∷ fs) =
    let same : n + 1 + length fs ≡ n + suc (length fs) = omega arith in
    ap (λ os. of_fun (record { index = n }) g ++ os) (obligations_push (n + 1) f fs ∙ ap (λ k. obligations_from (n + 1) fs ++ of_fun (record { index = k }) f) same)
    ∙ sym (append_assoc (of_fun (record { index = n }) g) (obligations_from (n + 1) fs) (of_fun (record { index = n + suc (length fs) }) f))

pub obligations_next : (fs : List Fun) (i : ℕ) (d : Fun) → i < length fs → obligations_from 0 (take (i + 1) fs) ≡ obligations_from 0 (take i fs) ++ of_fun (record { index = i }) (get_or fs i d)
obligations_next fs i d h =
    let l : 0 + length (take i fs) ≡ i = omega (arith, length-take-le i fs (omega arith)) in
    ap (obligations_from 0) (take_more fs i d h) ∙ obligations_push 0 (get_or fs i d) (take i fs)
    ∙ ap (λ k. obligations_from 0 (take i fs) ++ of_fun (record { index = k }) (get_or fs i d)) l

pub obligations_step : (fs : List Fun) (i : ℕ) (fun : Fun) (f : FunId) (made longer : List Obligation) → i < length fs → fun ≡ get_or fs i fun → f.index ≡ i → made ≡ obligations_from 0 (take i fs) → longer ≡ made ++ of_fun f fun → longer ≡ obligations_from 0 (take (i + 1) fs)
obligations_step fs i fun f made longer h at is before e =
    e ∙ ap (λ os. os ++ of_fun f fun) before
    ∙ ap (λ k. obligations_from 0 (take i fs) ++ of_fun (record { index = k }) fun) is
    ∙ ap (λ g. obligations_from 0 (take i fs) ++ of_fun (record { index = i }) g) at
    ∙ sym (obligations_next fs i fun h)

-- Values

pub row_next : (e : Elem) (n i : ℕ) (numbers more : List ℕ) (made longer whole : List Value) (v : Value) → i < n → v ≡ elem_said e (first_of numbers) → more ≡ drop 1 numbers → longer ≡ made ++ v ∷ [] → made ++ row_said e (n - i) numbers ≡ whole → longer ++ row_said e (n - (i + 1)) more ≡ whole
row_next e n i numbers more made longer whole v h is rest l before =
    let one : n - i ≡ suc (n - (i + 1)) = omega arith in
    let step : row_said e (n - i) numbers ≡ v ∷ row_said e (n - (i + 1)) more =
    ap (λ k. row_said e k numbers) one
    ∙ ap (λ x. x ∷ row_said e (n - (i + 1)) (drop 1 numbers)) (sym is)
    ∙ ap (λ ns. v ∷ row_said e (n - (i + 1)) ns) (sym rest) in
    one_more made longer whole (row_said e (n - (i + 1)) more) v l (ap (λ xs. made ++ xs) (sym step) ∙ before)

pub row_end : (e : Elem) (n i : ℕ) (numbers : List ℕ) (made whole : List Value) → n ≤ i → made ++ row_said e (n - i) numbers ≡ whole → made ≡ whole
row_end e n i numbers made whole h before =
    let none : n - i ≡ 0 = omega arith in
    sym (append-nil made) ∙ ap (λ k. made ++ row_said e k numbers) (sym none) ∙ before

pub rows_next : (e : Elem) (w n i : ℕ) (numbers more : List ℕ) (made longer whole : List Value) (row : List Value) → i < n → row ≡ row_said e w numbers → more ≡ drop w numbers → longer ≡ made ++ value.Array row ∷ [] → made ++ rows_said e w (n - i) numbers ≡ whole → longer ++ rows_said e w (n - (i + 1)) more ≡ whole
rows_next e w n i numbers more made longer whole row h is rest l before =
    let one : n - i ≡ suc (n - (i + 1)) = omega arith in
    let step : rows_said e w (n - i) numbers ≡ value.Array row ∷ rows_said e w (n - (i + 1)) more =
    ap (λ k. rows_said e w k numbers) one
    ∙ ap (λ x. value.Array x ∷ rows_said e w (n - (i + 1)) (drop w numbers)) (sym is)
    ∙ ap (λ ns. value.Array row ∷ rows_said e w (n - (i + 1)) ns) (sym rest) in
    one_more made longer whole (rows_said e w (n - (i + 1)) more) (value.Array row) l (ap (λ xs. made ++ xs) (sym step) ∙ before)

pub rows_end : (e : Elem) (w n i : ℕ) (numbers : List ℕ) (made whole : List Value) → n ≤ i → made ++ rows_said e w (n - i) numbers ≡ whole → made ≡ whole
rows_end e w n i numbers made whole h before =
    let none : n - i ≡ 0 = omega arith in
    sym (append-nil made) ∙ ap (λ k. made ++ rows_said e w k numbers) (sym none) ∙ before

pub args_next : (ps : List ParamDef) (i : ℕ) (p : ParamDef) (numbers more : List ℕ) (made longer whole : List Value) (v : Value) → i < length ps → p ≡ get_or ps i p → v ≡ value_said p.ty numbers → more ≡ drop (numbers_of p.ty) numbers → longer ≡ made ++ v ∷ [] → made ++ args_said (drop i ps) numbers ≡ whole → longer ++ args_said (drop (i + 1) ps) more ≡ whole
args_next ps i p numbers more made longer whole v h at is rest l before =
    let step : args_said (drop i ps) numbers ≡ v ∷ args_said (drop (i + 1) ps) more =
    ap (λ xs. args_said xs numbers) (drop_more ps i p h ∙ ap (λ x. x ∷ drop (i + 1) ps) (sym at))
    ∙ ap (λ x. x ∷ args_said (drop (i + 1) ps) (drop (numbers_of p.ty) numbers)) (sym is)
    ∙ ap (λ ns. v ∷ args_said (drop (i + 1) ps) ns) (sym rest) in
    one_more made longer whole (args_said (drop (i + 1) ps) more) v l (ap (λ xs. made ++ xs) (sym step) ∙ before)

pub args_end : (ps : List ParamDef) (i : ℕ) (numbers : List ℕ) (made whole : List Value) → length ps ≤ i → made ++ args_said (drop i ps) numbers ≡ whole → made ≡ whole
args_end ps i numbers made whole h before = sym (append-nil made) ∙ ap (λ xs. made ++ xs) (sym (at_drop_all (λ xs. args_said xs numbers) ps i h)) ∙ before

pub ruleset number_steps = (number_next, number_front)

pub ruleset numbers_steps = (numbers_next, numbers_end)

pub ruleset row_steps = (row_next, row_end)

pub ruleset rows_steps = (rows_next, rows_end)

pub ruleset args_steps = (args_next, args_end)
