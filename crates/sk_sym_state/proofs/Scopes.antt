-- What is done with the variables in scope is what is done with the first of those of the call.
use Rattle.std.proofs.Common.{◌≡◌, ℕ, zero, suc, ◌<◌, ◌≤◌, Bool, true, false, List, [], ◌∷◌, ◌++◌, length, map, take, drop, refl, sym, ap, subst, ◌∙◌, append_assoc, arith, inl}
use Rattle.std.specs.Prelude.{slice_get, slice_set, slice_index_or, Some, ⊤, All, nat_le, if◌then◌else◌}
use Rattle.std.specs.Option.{option_map}
use Rattle.std.proofs.lemmas.Option.{slice_get_within, get_or_from_slice_get, none-some}
use Rattle.std.proofs.lemmas.Bool.{le-leb, leb-true, leb-false, lt-leb}
use Rattle.std.proofs.lemmas.List.Elements.{All-nil, All-cons, All-head, All-tail}
use Rattle.sk_dag.specs.declared.env.Env.{Env}
use Rattle.sk_dag.specs.declared.shape.Shape.{Shape}
use Rattle.sk_dag.specs.Graph.{Graph}
use Rattle.sk_dag.specs.EvalShape.{shape_value}
use Rattle.sk_arr.specs.Shapes.{Stands, AllStand}
use Rattle.sk_arr.specs.Answers.{shapes_value}
use Rattle.sk_arr.proofs.Makers.{Keeps-refl}
use Rattle.sk_arr.proofs.Values.{map_push, stand_push}
use Rattle.sk_prog.specs.declared.value.Value.{Value}
use Rattle.sk_heap.specs.declared.slot.Slot.{Slot}
use Rattle.sk_model.specs.Step.{State}
use Rattle.sk_model.specs.Heap.{blank, written, read, write}
use Rattle.sk_heap_laws.specs.Values.{place_of, holds_in, value_of, value_in, values_in, IsLive}
use Rattle.sk_heap_laws.proofs.Grown.{StructsGrow-refl, HeapGrows-refl}
use Rattle.sk_heap_laws.proofs.Fields.{map_set}
use Rattle.sk_sym_state.specs.declared.setting.Setting.{Setting}
use Rattle.sk_sym_state.specs.declared.state.SymState.{SymState}
use Rattle.sk_sym_state.specs.Seen.{IsWorth}
use Rattle.sk_sym_state.specs.Stands.{StateStands}
use Rattle.sk_sym_state.specs.Shows.{AreFrontOf, Shows, AreAlong}
use Rattle.sk_sym_state.specs.Meaning.{Moves, DoesOn, Evaluates}
use Rattle.sk_sym_state.specs.Variables.{with_slots, declared, IsVariable, IsDeclared}
use Rattle.sk_sym_state.proofs.Carrying.{Carries-along}
use Rattle.sk_sym_state.proofs.Standing.{stands_along}

front_at : {A B : Type 0} (f : A → B) (xs : List A) (behind : List B) (d : B) (i : ℕ) (x : A) → slice_get xs i ≡ Some x → slice_index_or (map f xs ++ behind) i d ≡ f x
front_at f [] behind d i x h = absurd (none-some x h)
front_at f (y ∷ ys) behind d zero x h = ap f (some_is y x h)
  where
    some_is : {A : Type 0} (a b : A) → Some a ≡ Some b → a ≡ b
    some_is a b h = cc
front_at f (y ∷ ys) behind d (suc i) x h = front_at f ys behind d i x h

-- what is written behind the first so many
declares : (vs behind : List Value) (slot : ℕ) (v : Value) → slot ≤ length vs → (rest : List Value) × (written (vs ++ behind) slot v ≡ (take slot vs ++ v ∷ []) ++ rest)
declares [] [] zero v h = ([], refl)
declares [] (b ∷ bs) zero v h = (bs, refl)
declares [] behind (suc slot) v h = absurd (omega (arith, h))
declares (w ∷ ws) behind zero v h = (ws ++ behind, refl)
declares (w ∷ ws) behind (suc slot) v h = let more = declares ws behind slot v (omega (arith, h)) in (more.0, ap (λ l. w ∷ l) more.1)

-- what is written past the first so many leaves them as they are
passes : (vs behind : List Value) (slot : ℕ) (v : Value) → length vs ≤ slot → (rest : List Value) × (written (vs ++ behind) slot v ≡ vs ++ rest)
passes [] behind slot v h = (written behind slot v, refl)
passes (w ∷ ws) behind zero v h = absurd (omega (arith, h))
passes (w ∷ ws) behind (suc slot) v h = let more = passes ws behind slot v (omega (arith, h)) in (more.0, ap (λ l. w ∷ l) more.1)

assigns : (vs behind : List Value) (slot : ℕ) (v : Value) → (rest : List Value) × (written (vs ++ behind) slot v ≡ slice_set vs slot v ++ rest)
assigns [] behind slot v = (written behind slot v, refl)
assigns (w ∷ ws) behind zero v = (behind, refl)
assigns (w ∷ ws) behind (suc slot) v = let more = assigns ws behind slot v in (more.0, ap (λ l. w ∷ l) more.1)

take_map : {A B : Type 0} (f : A → B) (n : ℕ) (xs : List A) → map f (take n xs) ≡ take n (map f xs)
take_map f zero xs = refl
take_map f (suc n) [] = refl
take_map f (suc n) (x ∷ xs) = ap (λ l. f x ∷ l) (take_map f n xs)

length_map : {A B : Type 0} (f : A → B) (xs : List A) → length (map f xs) ≡ length xs
length_map f [] = refl
length_map f (x ∷ xs) = ap suc (length_map f xs)

module _ {A : Type 0} (P : A → Type 0) where
  all_take : (n : ℕ) (xs : List A) → All P xs → All P (take n xs)
  all_take zero xs h = All-nil P
  all_take (suc n) [] h = All-nil P
  all_take (suc n) (x ∷ xs) h = All-cons P x (take n xs) (All-head P x xs h) (all_take n xs (All-tail P x xs h))

  all_set : (xs : List A) (i : ℕ) (x : A) → All P xs → P x → All P (slice_set xs i x)
  all_set [] i x h p = h
  all_set (y ∷ ys) zero x h p = All-cons P x ys p (All-tail P y ys h)
  all_set (y ∷ ys) (suc i) x h p = All-cons P y (slice_set ys i x) (All-head P y ys h) (all_set ys i x (All-tail P y ys h) p)

  all_push : (xs : List A) (x : A) → All P xs → P x → All P (xs ++ x ∷ [])
  all_push [] x h p = All-cons P x [] p (All-nil P)
  all_push (y ∷ ys) x h p = All-cons P y (ys ++ x ∷ []) (All-head P y ys h) (all_push ys x (All-tail P y ys h) p)

  all_at : (xs : List A) (i : ℕ) (x : A) → slice_get xs i ≡ Some x → All P xs → P x
  all_at xs i x at h = subst P (get_or_from_slice_get xs i x x at) (h i x (slice_get_within xs i x at))

take_drop : {A : Type 0} (n : ℕ) (xs : List A) → take n xs ++ drop n xs ≡ xs
take_drop zero xs = refl
take_drop (suc n) [] = refl
take_drop (suc n) (x ∷ xs) = ap (λ l. x ∷ l) (take_drop n xs)

module _ {g : Graph} {e : Env} {heap : List Slot} where
  front_within : (list : List Shape) (slot : ℕ) (r : Shape) (v : Value) (values : List Value) → slot ≤ length list → IsWorth g e heap r v → AreFrontOf g e heap list values → AreFrontOf g e heap (take slot list ++ r ∷ []) (written values slot v)
  front_within list slot r v values h w f =
      let more = declares (values_in g e heap list) f.behind slot v (omega (arith, length_map (value_in g e heap) list)) in
      record {
        behind = more.0;
        whole =
            ap (λ l. written l slot v) f.whole ∙ more.1
            ∙ ap (λ l. l ++ more.0) (sym (map_push (value_in g e heap) (take slot list) r ∙ ap (λ l. l ++ value_in g e heap r ∷ []) (take_map (value_in g e heap) slot list) ∙ ap (λ u. take slot (values_in g e heap list) ++ u ∷ []) w.value));
        live = record { each = subst (All (IsLive (holds_in g e heap))) (sym (map_push (shape_value g e) (take slot list) r ∙ ap (λ l. l ++ shape_value g e r ∷ []) (take_map (shape_value g e) slot list))) (all_push (IsLive (holds_in g e heap)) (take slot (shapes_value g e list)) (shape_value g e r) (all_take (IsLive (holds_in g e heap)) slot (shapes_value g e list) f.live.each) w.live) };
      }

  front_past : (list : List Shape) (slot : ℕ) (v : Value) (values : List Value) → length list ≤ slot → AreFrontOf g e heap list values → AreFrontOf g e heap list (written values slot v)
  front_past list slot v values h f =
      let more = passes (values_in g e heap list) f.behind slot v (omega (arith, length_map (value_in g e heap) list)) in
      record { behind = more.0; whole = ap (λ l. written l slot v) f.whole ∙ more.1; live = f.live }

  pub front_declared : (list : List Shape) (slot : ℕ) (r : Shape) (v : Value) (values : List Value) → IsWorth g e heap r v → AreFrontOf g e heap list values → AreFrontOf g e heap (declared list slot r) (written values slot v)
  front_declared list slot r v values w f = by (nat_le slot (length list)) refl
    where
      by : (b : Bool) → nat_le slot (length list) ≡ b → AreFrontOf g e heap (if b then take slot list ++ r ∷ [] else list) (written values slot v)
      by true is = front_within list slot r v values (leb-true slot (length list) is) w f
      by false is = front_past list slot v values (omega (arith, leb-false slot (length list) is)) f

  pub front_assigned : (list : List Shape) (slot : ℕ) (r : Shape) (v : Value) (values : List Value) → IsWorth g e heap r v → AreFrontOf g e heap list values → AreFrontOf g e heap (slice_set list slot r) (written values slot v)
  front_assigned list slot r v values w f =
      let more = assigns (values_in g e heap list) f.behind slot v in
      record {
        behind = more.0;
        whole =
            ap (λ l. written l slot v) f.whole ∙ more.1
            ∙ ap (λ l. l ++ more.0) (sym (map_set (value_in g e heap) list slot r ∙ ap (λ u. slice_set (values_in g e heap list) slot u) w.value));
        live = record { each = subst (All (IsLive (holds_in g e heap))) (sym (map_set (shape_value g e) list slot r)) (all_set (IsLive (holds_in g e heap)) (shapes_value g e list) slot (shape_value g e r) f.live.each w.live) };
      }

  pub front_cut : (list : List Shape) (n : ℕ) (values : List Value) → AreFrontOf g e heap list values → AreFrontOf g e heap (take n list) values
  front_cut list n values f = record {
    behind = drop n (values_in g e heap list) ++ f.behind;
    whole = f.whole ∙ ap (λ l. l ++ f.behind) (sym (take_drop n (values_in g e heap list))) ∙ append_assoc (take n (values_in g e heap list)) (drop n (values_in g e heap list)) f.behind ∙ ap (λ l. l ++ (drop n (values_in g e heap list) ++ f.behind)) (sym (take_map (value_in g e heap) n list));
    live = record { each = subst (All (IsLive (holds_in g e heap))) (sym (take_map (shape_value g e) n list)) (all_take (IsLive (holds_in g e heap)) n (shapes_value g e list) f.live.each) };
  }

-- the state with other variables
along_slots : (s : SymState) (slots : List Shape) → AreAlong s (with_slots s slots)
along_slots s slots = record { failed = refl; skipped = refl; cost = refl; heap = refl; structs = refl; returned = refl; ended = refl; most = refl }

pub slots_move : {x : Setting} {d : Graph} {s : SymState} → StateStands d x.expanded.now.prog s → (slots : List Shape) → AllStand d slots → Moves x d d s (with_slots s slots)
slots_move {x} {d} {s} h slots there = record {
  keeps = Keeps-refl d;
  stands = stands_along (along_slots s slots) h h.path there;
  structs = StructsGrow-refl s.heap;
  comes = λ g e l h. record { grown = HeapGrows-refl g e s.heap; is = inl (record { path = h.path; failed = h.failed; skipped = h.skipped; returned = h.returned; free = h.free }) };
  stays = λ g e l p. record { path = p; rest = Carries-along (along_slots s slots) };
}

pub slots_show : {g : Graph} {e : Env} {s : SymState} {at : State} (slots : List Shape) (values : List Value) → AreFrontOf g e s.heap slots values → Shows g e s at → Shows g e (with_slots s slots) (record at { slots = values })
slots_show slots values f shows = record { path = shows.path; failed = shows.failed; skipped = shows.skipped; returned = shows.returned; cost = shows.cost; heap = shows.heap; lives = shows.lives; slots = f; free = shows.free }

module _ {x : Setting} {d : Graph} {s : SymState} (h : StateStands d x.expanded.now.prog s) where
  -- what a variable holds is what is read
  pub reads : {slot : ℕ} {r : Shape} → IsVariable s slot r → Evaluates x d d s s r (λ e. read slot)
  reads {slot} {r} is =
      let held : Stands d is.held = all_at (Stands d) s.frame.slots slot is.held is.found h.frame.slots.each in
      record {
        does = record {
          moves = slots_move_none;
          runs = λ g e at l shows. record {
            shows = shows;
            is = record {
              value = ap (value_of (place_of (holds_in g e s.heap))) ((is.copy d held).value g e) ∙ sym (front_at (value_in g e s.heap) s.frame.slots shows.slots.behind blank slot is.held is.found) ∙ ap (λ l. slice_index_or l slot blank) (sym shows.slots.whole);
              live = subst (IsLive (holds_in g e s.heap)) (sym ((is.copy d held).value g e)) (all_at (IsLive (holds_in g e s.heap)) (shapes_value g e s.frame.slots) slot (shape_value g e is.held) (mapped (shape_value g e) s.frame.slots slot is.held is.found) shows.slots.live.each);
            };
          };
        };
        there = (is.copy d held).stands;
      }
    where
      slots_move_none : Moves x d d s s
      slots_move_none = slots_move h s.frame.slots h.frame.slots

      mapped : {A B : Type 0} (f : A → B) (xs : List A) (n : ℕ) (y : A) → slice_get xs n ≡ Some y → slice_get (map f xs) n ≡ Some (f y)
      mapped f [] n y at = absurd (none-some y at)
      mapped f (z ∷ zs) zero y at = ap (λ o. option_map f o) at
      mapped f (z ∷ zs) (suc n) y at = mapped f zs n y at

  -- a declaration and an assignment write it
  pub declares_does : {s1 : SymState} {slot : ℕ} {r : Shape} → Stands d r → IsDeclared s s1 slot r → DoesOn x d d s s1 (λ g e v. IsWorth g e s.heap r v) (λ g e (u : Unit {0}). ⊤) (λ e v. write slot v)
  declares_does {s1} {slot} {r} there is =
      let slots = declared s.frame.slots slot r in
      subst (λ t. DoesOn x d d s t (λ g e v. IsWorth g e s.heap r v) (λ g e (u : Unit {0}). ⊤) (λ e v. write slot v)) (sym is.now) record {
        moves = slots_move h slots (stand (nat_le slot (length s.frame.slots)));
        runs = λ g e v at l w shows. record { shows = slots_show slots (written at.slots slot v) (front_declared s.frame.slots slot r v at.slots w shows.slots) shows; is = tt };
      }
    where
      stand : (b : Bool) → AllStand d (if b then take slot s.frame.slots ++ r ∷ [] else s.frame.slots)
      stand true = stand_push (take slot s.frame.slots) r (record { each = all_take (Stands d) slot s.frame.slots h.frame.slots.each }) there
      stand false = h.frame.slots

  pub assigns_does : {slot : ℕ} {r : Shape} → Stands d r → DoesOn x d d s (with_slots s (slice_set s.frame.slots slot r)) (λ g e v. IsWorth g e s.heap r v) (λ g e (u : Unit {0}). ⊤) (λ e v. write slot v)
  assigns_does {slot} {r} there =
      let slots = slice_set s.frame.slots slot r in
      let stand : AllStand d slots = record { each = all_set (Stands d) s.frame.slots slot r h.frame.slots.each there } in
      record {
        moves = slots_move h slots stand;
        runs = λ g e v at l w shows. record { shows = slots_show slots (written at.slots slot v) (front_assigned s.frame.slots slot r v at.slots w shows.slots) shows; is = tt };
      }

pub declared_within : (list : List Shape) (slot : ℕ) (r : Shape) → slot ≤ length list → declared list slot r ≡ take slot list ++ r ∷ []
declared_within list slot r h = ap (λ (b : Bool). if b then take slot list ++ r ∷ [] else list) (le-leb slot (length list) h)

pub declared_past : (list : List Shape) (slot : ℕ) (r : Shape) → length list < slot → declared list slot r ≡ list
declared_past list slot r h = ap (λ (b : Bool). if b then take slot list ++ r ∷ [] else list) (lt-leb slot (length list) h)

-- a list is as it is where what is set is past it
pub set_past : {A : Type 0} (xs : List A) (i : ℕ) (x : A) → length xs ≤ i → slice_set xs i x ≡ xs
set_past [] i x h = refl
set_past (y ∷ ys) zero x h = absurd (omega (arith, h))
set_past (y ∷ ys) (suc i) x h = ap (λ l. y ∷ l) (set_past ys i x (omega (arith, h)))
