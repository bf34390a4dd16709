-- Shapes that are worth the first of the values.
use Rattle.std.proofs.Common.{◌≡◌, ℕ, zero, suc, ◌<◌, Bool, true, false, List, [], ◌∷◌, ◌++◌, length, map, take, drop, get_or, refl, sym, ap, subst, ◌∙◌, append_assoc, arith}
use Rattle.std.specs.Prelude.{if◌then◌else◌, All}
use Rattle.std.proofs.lemmas.List.Elements.{All-nil, All-cons, All-head, All-tail}
use Rattle.sk_dag.specs.declared.env.Env.{Env}
use Rattle.sk_dag.specs.declared.node.BoolId.{BoolId}
use Rattle.sk_dag.specs.declared.shape.Shape.{Shape}
use Rattle.sk_dag.specs.Graph.{Graph}
use Rattle.sk_dag.specs.Eval.{bool_value, Keeps}
use Rattle.sk_dag.specs.EvalShape.{shape_value}
use Rattle.sk_arr.specs.Shapes.{AllStand}
use Rattle.sk_arr.specs.Answers.{shapes_value, IsChoice}
use Rattle.sk_arr.proofs.Standing.{AllStand-keeps}
use Rattle.sk_arr.proofs.Values.{map_push, stand_push}
use Rattle.sk_prog.specs.declared.value.Value.{Value}
use Rattle.sk_heap.specs.declared.slot.Slot.{Slot}
use Rattle.sk_heap_laws.proofs.Heaps.{values_are}
use Rattle.sk_heap_laws.specs.Values.{place_of, holds_in, value_of, values_in, IsLive}
use Rattle.sk_sym_state.specs.Shows.{AreFrontOf}
use Rattle.sk_sym_state.specs.Branching.{AreMerged, AreFrontIn}

take_drop : {A : Type 0} (n : ℕ) (xs : List A) → take n xs ++ drop n xs ≡ xs
take_drop zero xs = refl
take_drop (suc n) [] = refl
take_drop (suc n) (x ∷ xs) = ap (λ l. x ∷ l) (take_drop n xs)

take_map : {A B : Type 0} (f : A → B) (n : ℕ) (xs : List A) → map f (take n xs) ≡ take n (map f xs)
take_map f zero xs = refl
take_map f (suc n) [] = refl
take_map f (suc n) (x ∷ xs) = ap (λ l. f x ∷ l) (take_map f n xs)

all_take : {A : Type 0} (P : A → Type 0) (n : ℕ) (xs : List A) → All P xs → All P (take n xs)
all_take P zero xs h = All-nil P
all_take P (suc n) [] h = All-nil P
all_take P (suc n) (x ∷ xs) h = All-cons P x (take n xs) (All-head P x xs h) (all_take P n xs (All-tail P x xs h))

pub front_of_front : {g : Graph} {e : Env} {heap : List Slot} {list : List Shape} (made : List Shape) {values : List Value} → AreFrontIn g e list made → AreFrontOf g e heap list values → AreFrontOf g e heap made values
front_of_front {g} {e} {heap} {list} made {values} is f =
    let n = length made in
    let worth = value_of (place_of (holds_in g e heap)) in
    let front : values_in g e heap made ≡ take n (values_in g e heap list) =
    values_are g e heap made ∙ ap (map worth) is.front ∙ take_map worth n (shapes_value g e list) ∙ ap (take n) (sym (values_are g e heap list)) in
    record {
      behind = drop n (values_in g e heap list) ++ f.behind;
      whole = f.whole ∙ ap (λ l. l ++ f.behind) (sym (take_drop n (values_in g e heap list))) ∙ append_assoc (take n (values_in g e heap list)) (drop n (values_in g e heap list)) f.behind ∙ ap (λ l. l ++ (drop n (values_in g e heap list) ++ f.behind)) (sym front);
      live = record { each = subst (All (IsLive (holds_in g e heap))) (sym is.front) (all_take (IsLive (holds_in g e heap)) n (shapes_value g e list) f.live.each) };
    }

take_length : {A B : Type 0} (f : A → B) (xs : List A) → take (length xs) (map f xs) ≡ map f xs
take_length f [] = refl
take_length f (x ∷ xs) = ap (λ l. f x ∷ l) (take_length f xs)

-- shapes that are seen as others are
pub front_same : {g : Graph} {e : Env} {heap : List Slot} {list : List Shape} (made : List Shape) {values : List Value} → shapes_value g e made ≡ shapes_value g e list → AreFrontOf g e heap list values → AreFrontOf g e heap made values
front_same {g} {e} made is f = front_of_front made (record { front = sym (take_length (shape_value g e) made) ∙ ap (take (length made)) is }) f

pub front_whole : (g : Graph) (e : Env) (list : List Shape) → AreFrontIn g e list list
front_whole g e list = record { front = sym (take_length (shape_value g e) list) }

-- ---- merges

mapped_take : {A B : Type 0} (f : A → B) (xs : List A) (n : ℕ) (x : A) → n < length xs → x ≡ get_or xs n x → take n (map f xs) ++ f x ∷ [] ≡ take (suc n) (map f xs)
mapped_take f [] n x l is = absurd (omega (arith, l))
mapped_take f (y ∷ ys) zero x l is = ap (λ z. f z ∷ []) is
mapped_take f (y ∷ ys) (suc n) x l is = ap (λ z. f y ∷ z) (mapped_take f ys n x (omega (arith, l)) is)

pub length_push : {A : Type 0} (xs : List A) (x : A) → length (xs ++ x ∷ []) ≡ suc (length xs)
length_push [] x = refl
length_push (y ∷ ys) x = ap suc (length_push ys x)

pub merged_none : (d : Graph) (c : BoolId) (first second : List Shape) → AllStand d [] → AreMerged d c first second []
merged_none d c first second h = record { stand = h; value = λ g more e. refl }

pub merged_more : {mid new : Graph} {c : BoolId} (first second made : List Shape) (i : ℕ) (a b r : Shape) → i ≡ length made → i < length first → i < length second → a ≡ get_or first i a → b ≡ get_or second i b → AreMerged mid c first second made → Keeps mid new → IsChoice new c a b r → AreMerged new c first second (made ++ r ∷ [])
merged_more {mid} {new} {c} first second made i a b r count l m p q are keeps is = record {
  stand = stand_push made r (AllStand-keeps keeps are.stand) is.stands;
  value = λ g more e. map_push (shape_value g e) made r ∙ ap (λ l. l ++ shape_value g e r ∷ []) (are.value g (keeps.later g more) e) ∙ ap (λ v. take (length made) (if bool_value g e c then shapes_value g e first else shapes_value g e second) ++ v ∷ []) (is.value g more e) ∙ by g e (bool_value g e c) ∙ ap (λ n. take n (if bool_value g e c then shapes_value g e first else shapes_value g e second)) (sym (length_push made r));
}
  where
    by : (g : Graph) (e : Env) (t : Bool) → take (length made) (if t then shapes_value g e first else shapes_value g e second) ++ (if t then shape_value g e a else shape_value g e b) ∷ [] ≡ take (suc (length made)) (if t then shapes_value g e first else shapes_value g e second)
    by g e true = subst (λ n. take n (shapes_value g e first) ++ shape_value g e a ∷ [] ≡ take (suc n) (shapes_value g e first)) count (mapped_take (shape_value g e) first i a l p)
    by g e false = subst (λ n. take n (shapes_value g e second) ++ shape_value g e b ∷ [] ≡ take (suc n) (shapes_value g e second)) count (mapped_take (shape_value g e) second i b m q)
