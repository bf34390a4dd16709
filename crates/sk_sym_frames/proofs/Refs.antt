-- The final values of `ref` parameters, one after another.
use Rattle.std.proofs.Common.{◌≡◌, ℕ, zero, suc, ◌+◌, ◌<◌, ◌≤◌, true, false, List, [], ◌∷◌, ◌++◌, length, map, drop, get_or, refl, sym, ap, subst, ◌∙◌, append_assoc, arith}
use Rattle.std.specs.Prelude.{slice_index_or, All, if◌then◌else◌}
use Rattle.std.proofs.lemmas.List.Elements.{All-nil, All-cons, All-head, All-tail}
use Rattle.sk_dag.specs.declared.env.Env.{Env}
use Rattle.sk_dag.specs.declared.shape.Seen.{Seen}
use Rattle.sk_dag.specs.declared.shape.Shape.{Shape}
use Rattle.sk_dag.specs.Graph.{Graph}
use Rattle.sk_dag.specs.EvalShape.{shape_value}
use Rattle.sk_arr.specs.Shapes.{Stands, AllStand}
use Rattle.sk_arr.specs.Answers.{IsCopy, shapes_value}
use Rattle.sk_arr.proofs.Values.{map_push, stand_none, stand_push}
use Rattle.sk_arr.proofs.Choices.{stand_at}
use Rattle.sk_prog.specs.declared.value.Value.{Value}
use Rattle.sk_prog.specs.declared.prog.ParamDef.{ParamDef}
use Rattle.sk_heap.specs.declared.slot.Slot.{Slot}
use Rattle.sk_model.specs.Heap.{blank}
use Rattle.sk_model.specs.Run.{refs_from}
use Rattle.sk_heap_laws.specs.Values.{place_of, holds_in, value_of, value_in, IsLive}
use Rattle.sk_sym_state.specs.Seen.{AreWorth}
use Rattle.sk_sym_state.specs.Shows.{AreFrontOf}
use Rattle.sk_sym_frames.specs.Ended.{AreRefs}

-- the values so far, and those to come, are all
pub record AreSoFar (g : Graph) (e : Env) (heap : List Slot) (params : List ParamDef) (slot : ℕ) (made : List Shape) (values : List Value) : Type 0 where
  pub before : List Value
  pub worth : AreWorth g e heap made before
  pub whole : refs_from 0 params values ≡ before ++ refs_from slot (drop slot params) values

-- so in every environment and heap
pub record HaveSoFar (params : List ParamDef) (slots : List Shape) (slot : ℕ) (made : List Shape) : Type 0 where
  pub stand : (d : Graph) → AllStand d slots → AllStand d made
  pub worth : (d : Graph) → AllStand d slots → (g : Graph) (e : Env) (heap : List Slot) (values : List Value) → AreFrontOf g e heap slots values → AreSoFar g e heap params slot made values

drop_at : {A : Type 0} (xs : List A) (i : ℕ) (x : A) → i < length xs → x ≡ get_or xs i x → drop i xs ≡ x ∷ drop (suc i) xs
drop_at [] i x l is = absurd (omega (arith, l))
drop_at (y ∷ ys) zero x l is = ap (λ z. z ∷ ys) (sym is)
drop_at (y ∷ ys) (suc i) x l is = drop_at ys i x (omega (arith, l)) is

drop_all : {A : Type 0} (xs : List A) (i : ℕ) → length xs ≤ i → drop i xs ≡ []
drop_all [] zero l = refl
drop_all [] (suc i) l = refl
drop_all (x ∷ xs) zero l = absurd (omega (arith, l))
drop_all (x ∷ xs) (suc i) l = drop_all xs i (omega (arith, l))

no_more : {A : Type 0} (xs : List A) → xs ++ [] ≡ xs
no_more [] = refl
no_more (x ∷ xs) = ap (λ l. x ∷ l) (no_more xs)

front_at : {A B : Type 0} (f : A → B) (xs : List A) (behind : List B) (d : B) (i : ℕ) (x : A) → i < length xs → x ≡ get_or xs i x → slice_index_or (map f xs ++ behind) i d ≡ f x
front_at f [] behind d i x l is = absurd (omega (arith, l))
front_at f (y ∷ ys) behind d zero x l is = ap f (sym is)
front_at f (y ∷ ys) behind d (suc i) x l is = front_at f ys behind d i x (omega (arith, l)) is

live_at : (P : Seen → Type 0) (f : Shape → Seen) (xs : List Shape) (i : ℕ) (x : Shape) → i < length xs → x ≡ get_or xs i x → All P (map f xs) → P (f x)
live_at P f [] i x l is h = absurd (omega (arith, l))
live_at P f (y ∷ ys) zero x l is h = subst (λ z. P (f z)) (sym is) (All-head P (f y) (map f ys) h)
live_at P f (y ∷ ys) (suc i) x l is h = live_at P f ys i x (omega (arith, l)) is (All-tail P (f y) (map f ys) h)

all_push : {A : Type 0} (P : A → Type 0) (xs : List A) (x : A) → All P xs → P x → All P (xs ++ x ∷ [])
all_push P [] x h p = All-cons P x [] p (All-nil P)
all_push P (y ∷ ys) x h p = All-cons P y (ys ++ x ∷ []) (All-head P y ys h) (all_push P ys x (All-tail P y ys h) p)

pub have_none : (params : List ParamDef) (slots : List Shape) → HaveSoFar params slots 0 []
have_none params slots = record {
  stand = λ d h. stand_none d;
  worth = λ d h g e heap values f. record { before = []; worth = record { value = refl; live = record { each = All-nil (IsLive (holds_in g e heap)) } }; whole = refl };
}

module _ (params : List ParamDef) (slots : List Shape) (slot : ℕ) (made : List Shape) (p : ParamDef) (l : slot < length params) (is : p ≡ get_or params slot p) where
  refs_next : (values : List Value) → refs_from slot (drop slot params) values ≡ (if p.by_ref then slice_index_or values slot blank ∷ refs_from (suc slot) (drop (suc slot) params) values else refs_from (suc slot) (drop (suc slot) params) values)
  refs_next values =
      let next : slot + 1 ≡ suc slot = omega arith in
      ap (λ ps. refs_from slot ps values) (drop_at params slot p l is)
      ∙ ap (λ n. if p.by_ref then slice_index_or values slot blank ∷ refs_from n (drop (suc slot) params) values else refs_from n (drop (suc slot) params) values) next

  -- a parameter that is no `ref`
  pub have_skipped : p.by_ref ≡ false → HaveSoFar params slots slot made → HaveSoFar params slots (suc slot) made
  have_skipped off so_far = record {
    stand = so_far.stand;
    worth = λ d h g e heap values f.
        let was = so_far.worth d h g e heap values f in
        record { before = was.before; worth = was.worth; whole = was.whole ∙ ap (λ l. was.before ++ l) (refs_next values ∙ ap (λ b. if b then slice_index_or values slot blank ∷ refs_from (suc slot) (drop (suc slot) params) values else refs_from (suc slot) (drop (suc slot) params) values) off) };
  }

  -- one that is
  pub have_more : (held r : Shape) → p.by_ref ≡ true → slot < length slots → held ≡ get_or slots slot held → ((d : Graph) → Stands d held → IsCopy d held r) → HaveSoFar params slots slot made → HaveSoFar params slots (suc slot) (made ++ r ∷ [])
  have_more held r on within found copy so_far = record {
    stand = λ d h. stand_push made r (so_far.stand d h) (copy d (stand_at slots slot held within found h)).stands;
    worth = λ d h g e heap values f.
        let was = so_far.worth d h g e heap values f in
        let same : shape_value g e r ≡ shape_value g e held = (copy d (stand_at slots slot held within found h)).value g e in
        let value : value_in g e heap r ≡ slice_index_or values slot blank = ap (value_of (place_of (holds_in g e heap))) same ∙ sym (front_at (value_in g e heap) slots f.behind blank slot held within found) ∙ ap (λ l. slice_index_or l slot blank) (sym f.whole) in
        record {
          before = was.before ++ slice_index_or values slot blank ∷ [];
          worth = record {
            value = map_push (value_in g e heap) made r ∙ ap (λ l. l ++ value_in g e heap r ∷ []) was.worth.value ∙ ap (λ v. was.before ++ v ∷ []) value;
            live = record {
              each = subst (All (IsLive (holds_in g e heap))) (sym (map_push (shape_value g e) made r)) (all_push (IsLive (holds_in g e heap)) (shapes_value g e made) (shape_value g e r) was.worth.live.each
                  (subst (IsLive (holds_in g e heap)) (sym same) (live_at (IsLive (holds_in g e heap)) (shape_value g e) slots slot held within found f.live.each)));
            };
          };
          whole = was.whole ∙ ap (λ l. was.before ++ l) (refs_next values ∙ ap (λ b. if b then slice_index_or values slot blank ∷ refs_from (suc slot) (drop (suc slot) params) values else refs_from (suc slot) (drop (suc slot) params) values) on)
              ∙ sym (append_assoc was.before (slice_index_or values slot blank ∷ []) (refs_from (suc slot) (drop (suc slot) params) values));
        };
  }

pub have_all : (params : List ParamDef) (slots : List Shape) (slot : ℕ) (made : List Shape) → length params ≤ slot → HaveSoFar params slots slot made → AreRefs params slots made
have_all params slots slot made long so_far = record {
  stand = so_far.stand;
  worth = λ d h g e heap values f.
      let was = so_far.worth d h g e heap values f in
      let whole : refs_from 0 params values ≡ was.before = was.whole ∙ ap (λ ps. was.before ++ refs_from slot ps values) (drop_all params slot long) ∙ no_more was.before in
      record { value = was.worth.value ∙ sym whole; live = was.worth.live };
}
