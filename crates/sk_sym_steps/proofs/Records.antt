-- Records and their fields.
use Rattle.std.proofs.Common.{◌≡◌, ℕ, zero, suc, ◌+◌, ◌<◌, ◌≤◌, All, Bool, true, false, arith, inl, ⊎_elim, List, [], ◌∷◌, ◌++◌, length, map, take, get_or, Option, Some, None, slice_get, option_map, IsTrue, refl, sym, ap, subst, ◌∙◌}
use Rattle.std.proofs.lemmas.Option.{slice_get-map}
use Rattle.std.proofs.lemmas.List.{take_more}
use Rattle.std.proofs.lemmas.List.Elements.{All-append, All-cons, All-nil}
use Rattle.sk_base.specs.declared.span.Span.{Span}
use Rattle.sk_dag.specs.declared.env.Env.{Env}
use Rattle.sk_dag.specs.declared.node.BoolId.{BoolId}
use Rattle.sk_dag.specs.declared.shape.Shape.{Shape}
use Rattle.sk_dag.specs.declared.shape.Shape.TheVariants as shape
use Rattle.sk_dag.specs.declared.shape.Targets.{Targets}
use Rattle.sk_dag.specs.Graph.{Graph, Grows}
use Rattle.sk_dag.specs.Eval.{bool_value, Keeps}
use Rattle.sk_arr.specs.Held.{AllPass}
use Rattle.sk_arr.specs.Shapes.{Stands}
use Rattle.sk_arr.proofs.Standing.{Stands-keeps}
use Rattle.sk_arr.proofs.Values.{length_map, reference_passes}
use Rattle.sk_prog.specs.declared.ids.StructId.{StructId}
use Rattle.sk_prog.specs.declared.prog.Prog.{Prog}
use Rattle.sk_prog.specs.declared.value.Value.{Value}
use Rattle.sk_prog.specs.declared.value.Value.TheVariants as value
use Rattle.sk_heap.specs.declared.slot.Slot.{Slot}
use Rattle.sk_heap.specs.Answers.{struct_of, IsAllocated, IsFieldRead}
use Rattle.sk_heap.specs.Retakes.{IsRetaken}
use Rattle.sk_heap.specs.Heaps.{is_struct, is_of, HeapStands, RefersTo}
use Rattle.sk_heap.proofs.Heaps.{SlotsPass-more}
use Rattle.sk_model.specs.Heap.{read_field, allocate, zeros_of}
use Rattle.sk_heap_laws.specs.Values.{value_in, ShapeLive}
use Rattle.sk_heap_laws.proofs.Values.{split}
use Rattle.sk_heap_laws.proofs.Grown.{alike_grows, free_more, free_past}
use Rattle.sk_heap_laws.proofs.Allocs.{allocated_structs, allocated_grows, unallocated_alike, allocated_heap, unallocated_heap, allocated_value, allocated_live, allocated_heap_live}
use Rattle.sk_heap_laws.proofs.Retakes.{retaken_kinds, retaken_structs, retaken_grows, unretaken_alike, retaken_free, retaken_heap, unretaken_heap, retaken_value, retaken_live, retaken_heap_live, unretaken_heap_live}
use Rattle.sk_heap_laws.proofs.Fields.{read_null, read_goes, read_live}
use Rattle.sk_sym_state.specs.declared.setting.Setting.{Setting}
use Rattle.sk_sym_state.specs.declared.state.SymState.{SymState}
use Rattle.sk_sym_state.specs.declared.state.Ended.{Ended}
use Rattle.sk_sym_state.specs.Seen.{IsWorth}
use Rattle.sk_sym_state.specs.Stands.{StateStands}
use Rattle.sk_sym_state.specs.Shows.{ResultIs, EndedIs}
use Rattle.sk_sym_state.specs.Meaning.{IsLater, Evaluates, FailsWhere}
use Rattle.sk_sym_state.proofs.Worth.{IsWorth-grown, AreWorth-grown}
use Rattle.sk_sym_state.proofs.Carrying.{later_keeps, front_grown}
use Rattle.sk_sym_state.proofs.Standing.{StateStands-keeps}
use Rattle.sk_sym_state.proofs.Ends.{fails_or_goes}
use Rattle.sk_heap_laws.specs.Heaps.{heap_value, HeapLive, StructsGrow, HeapGrows, HoldAlike, AreFree}
use Rattle.sk_sym_steps.specs.Steps.{same_kind, is_kind, HasNoneFrom, EvaluatesOn}

-- a target that is no slot of the struct
pub other_kind : (test : ℕ → Bool) (targets : List (ℕ × BoolId)) (i : ℕ) (t : ℕ × BoolId) → i < length targets → t ≡ get_or targets i t → (IsTrue (test t.0) → ⊥) → AllPass test targets → ⊥
other_kind test targets i t l at other h = other (subst (λ (x : ℕ × BoolId). IsTrue (test x.0)) (sym at) (h.each i t l))

-- the structs of the slots tell which slots are of a struct
pub kind_of : (heap : List Slot) (structs : List StructId) (s : StructId) (n : ℕ) → map struct_of heap ≡ structs → is_kind structs s n ≡ is_of heap s n
kind_of heap structs s n are = ap (λ l. same_kind s (slice_get l n)) (sym are) ∙ ap (same_kind s) (slice_get-map struct_of heap n) ∙ by (slice_get heap n)
  where
    by : (o : Option Slot) → same_kind s (option_map struct_of o) ≡ is_struct s o
    by None = refl
    by (Some slot) = refl

pub refers : {d : Graph} {heap : List Slot} {structs : List StructId} {s : StructId} {target : Targets} → map struct_of heap ≡ structs → Stands d (shape.Reference target) → AllPass (is_kind structs s) target.slots.items → RefersTo d heap s target
refers {d} {heap} {structs} {s} {target} are stands pass = record {
  stands = stands;
  slots = SlotsPass-more (λ n h. sym (kind_of heap structs s n are) ∙ h) (reference_passes (is_kind structs s) target pass);
}

module _ (g : Graph) (e : Env) {a b : List Slot} (grown : HeapGrows g e a b) where
  result_grown : (r : Option Shape) (v : Option Value) → ResultIs g e a r v → ResultIs g e b r v
  result_grown r None h = tt
  result_grown None (Some v) h = h
  result_grown (Some r) (Some v) h = IsWorth-grown grown h

  pub ended_grown : (ended : Option Ended) (v : Option Value) (refs : List Value) → EndedIs g e a ended v refs → EndedIs g e b ended v refs
  ended_grown None v refs h = h
  ended_grown (Some ended) v refs h = (result_grown ended.result v h.0, AreWorth-grown grown h.1)

-- ---- reads

pub reads_field : {x : Setting} {d0 d1 d2 : Graph} {s0 s1 : SymState} {reference r : Shape} {target : Targets} {s : StructId} {field : ℕ} {null : BoolId} (span : Span) → StateStands d0 x.expanded.now.prog s0 → reference ≡ shape.Reference target → Keeps d0 d1 → IsFieldRead d1 s0.heap x.expanded.now.prog s target field r null → FailsWhere x d1 d2 s0 s1 null
    → EvaluatesOn x d0 d2 s0 s1 (λ g e. IsWorth g e s0.heap reference) r (λ e. read_field span field)
reads_field {x} {d0} {d1} {d2} {s0} {s1} {reference} {r} {target} {s} {field} {null} span h is keeps read f = record {
  does = fails_or_goes h keeps f
      (λ g e v at l w shows holds. (span, ap (λ u. read_field span field u at) (sym (worth g e v w)) ∙ read_null read (grows g e l) e holds span at))
      (λ g e v at l w shows failing. (
        value_in g e s0.heap r,
        (ap (λ u. read_field span field u at) (sym (worth g e v w)) ∙ read_goes read (grows g e l) e (live g e v w) failing span at (sym shows.heap)),
        subst (λ heap. IsWorth g e heap r (value_in g e s0.heap r)) (sym f.heap) (record { value = refl; live = read_live read (grows g e l) e shows.lives (live g e v w) failing }),
      ));
  there = Stands-keeps f.moves.keeps read.stands;
}
  where
    worth : (g : Graph) (e : Env) (v : Value) → IsWorth g e s0.heap reference v → value_in g e s0.heap (shape.Reference target) ≡ v
    worth g e v w = ap (value_in g e s0.heap) (sym is) ∙ w.value

    live : (g : Graph) (e : Env) (v : Value) → IsWorth g e s0.heap reference v → ShapeLive g e s0.heap (shape.Reference target)
    live g e v w = subst (ShapeLive g e s0.heap) is w.live

    grows : (g : Graph) (e : Env) → IsLater x d2 g e → Grows d1 g
    grows g e l = (later_keeps f.moves.keeps l).grows

-- ---- new records

map_push : {A B : Type 0} (f : A → B) (xs : List A) (y : A) → map f (xs ++ y ∷ []) ≡ map f xs ++ f y ∷ []
map_push f [] y = refl
map_push f (z ∷ zs) y = ap (λ l. f z ∷ l) (map_push f zs y)

-- a slot is taken under a guard, whether it is one more or one that is there: what comes of it where none holds from a place on
pub record IsTaken (d : Graph) (prog : Prog) (guard : BoolId) (s : StructId) (old new : List Slot) (target : Targets) (from next : ℕ) : Type 0 where
  pub structs : StructsGrow old new
  pub refers : RefersTo d new s target
  pub off : (g : Graph) (e : Env) → Grows d g → bool_value g e guard ≡ false → HoldAlike g e old new
  pub off_heap : (g : Graph) (e : Env) → Grows d g → bool_value g e guard ≡ false → HeapLive g e old → heap_value g e new ≡ heap_value g e old
  pub off_live : (g : Graph) (e : Env) → Grows d g → bool_value g e guard ≡ false → HeapLive g e old → HeapLive g e new
  pub grows : (g : Graph) (e : Env) → Grows d g → AreFree g e old from → HeapGrows g e old new
  pub free : (g : Graph) (e : Env) → Grows d g → AreFree g e old from → AreFree g e new next
  pub on_heap : (g : Graph) (e : Env) → Grows d g → AreFree g e old from → bool_value g e guard ≡ true → HeapLive g e old → heap_value g e new ≡ heap_value g e old ++ zeros_of (slice_get prog.structs s.index) ∷ []
  pub on_live : (g : Graph) (e : Env) → Grows d g → AreFree g e old from → HeapLive g e old → HeapLive g e new
  pub worth : (g : Graph) (e : Env) → Grows d g → AreFree g e old from → bool_value g e guard ≡ true → value_in g e new (shape.Reference target) ≡ value.Place (length (heap_value g e old))
  pub live : (g : Graph) (e : Env) → Grows d g → ShapeLive g e new (shape.Reference target)

pub pushed_taken : {d : Graph} {prog : Prog} {guard : BoolId} {s : StructId} {old new : List Slot} {target : Targets} (from : ℕ) → IsAllocated d prog guard s old new target → IsTaken d prog guard s old new target from (length new)
pushed_taken {new = new} from is = record {
  structs = allocated_structs is;
  refers = is.refers;
  off = λ g e more off. unallocated_alike is more e off;
  off_heap = λ g e more off live. unallocated_heap is more e live off;
  off_live = λ g e more off live. allocated_heap_live is more e live;
  grows = λ g e more free. allocated_grows is g e;
  free = λ g e more free. free_past g e new;
  on_heap = λ g e more free on live. allocated_heap is more e live on;
  on_live = λ g e more free live. allocated_heap_live is more e live;
  worth = λ g e more free on. allocated_value is more e on;
  live = λ g e more. allocated_live is more e;
}

pub again_taken : {d : Graph} {prog : Prog} {guard : BoolId} {s : StructId} {place : ℕ} {old new : List Slot} {target : Targets} (from : ℕ) → from ≤ place → IsRetaken d prog guard s place old new target → IsTaken d prog guard s old new target from (place + 1)
again_taken from up is = record {
  structs = retaken_structs is;
  refers = is.refers;
  off = λ g e more off. unretaken_alike is more e off;
  off_heap = λ g e more off live. unretaken_heap is more e live off;
  off_live = λ g e more off live. unretaken_heap_live is more e off live;
  grows = λ g e more free. retaken_grows is more e (free_more g e up free);
  free = λ g e more free. retaken_free is more e up free;
  on_heap = λ g e more free on live. retaken_heap is more e (free_more g e up free) live on;
  on_live = λ g e more free live. retaken_heap_live is more e (free_more g e up free) live;
  worth = λ g e more free on. retaken_value is more e (free_more g e up free) on;
  live = λ g e more. retaken_live is more e;
}

pub takes : {x : Setting} {d0 d1 : Graph} {s0 : SymState} {s : StructId} {heap : List Slot} {structs : List StructId} {target : Targets} (cursor : ℕ) → StateStands d0 x.expanded.now.prog s0 → Keeps d0 d1 → HeapStands d1 x.expanded.now.prog heap → map struct_of heap ≡ structs → IsTaken d1 x.expanded.now.prog s0.path s s0.heap heap target s0.cursor cursor
    → Evaluates x d0 d1 s0 (record s0 { heap = heap; structs = structs; cursor = cursor }) (shape.Reference target) (λ e. allocate x.expanded.now.prog s [])
takes {x} {d0} {d1} {s0} {s} {heap} {structs} {target} cursor h keeps stands kinds is = record {
  does = record {
    moves = record {
      keeps = keeps;
      stands = record { path = now.path; failed = now.failed; skipped = now.skipped; cost = now.cost; heap = stands; structs = kinds; frame = now.frame };
      structs = is.structs;
      comes = λ g e l here. record {
        grown = is.grows g e l.grows here.free;
        is = inl (record { path = here.path; failed = here.failed; skipped = here.skipped; returned = here.returned; free = is.free g e l.grows here.free });
      };
      stays = λ g e l p. record {
        path = p;
        rest = record {
          failed = refl;
          skipped = refl;
          returned = refl;
          cost = refl;
          heap = λ t. is.off_heap g e l.grows p t;
          lives = λ t. is.off_live g e l.grows p t;
          ended = λ v refs t. ended_grown g e (alike_grows g e (is.off g e l.grows p)) s0.frame.ended v refs t;
          holds = is.off g e l.grows p;
          most = omega arith;
        };
      };
    };
    runs = λ g e at l shows. record {
      shows = record {
        path = shows.path;
        failed = shows.failed;
        skipped = shows.skipped;
        returned = shows.returned;
        cost = shows.cost;
        heap = is.on_heap g e l.grows shows.free shows.path shows.lives ∙ ap (λ t. t ++ zeros_of (slice_get x.expanded.now.prog.structs s.index) ∷ []) shows.heap;
        lives = is.on_live g e l.grows shows.free shows.lives;
        slots = front_grown g e (is.grows g e l.grows shows.free) shows.slots;
        free = is.free g e l.grows shows.free;
      };
      is = record { value = is.worth g e l.grows shows.free shows.path ∙ ap (λ t. value.Place (length t)) shows.heap; live = is.live g e l.grows };
    };
  };
  there = is.refers.stands;
}
  where
    now : StateStands d1 x.expanded.now.prog s0
    now = StateStands-keeps keeps h

pub pushed_kinds : {d : Graph} {prog : Prog} {guard : BoolId} {s : StructId} {old new : List Slot} {target : Targets} {kinds structs : List StructId} → map struct_of old ≡ kinds → IsAllocated d prog guard s old new target → structs ≡ kinds ++ s ∷ [] → map struct_of new ≡ structs
pushed_kinds {old = old} were is pushed = ap (map struct_of) is.pushed ∙ map_push struct_of old is.slot ∙ (λ i. were i ++ is.of_struct i ∷ []) ∙ sym pushed

-- a record that is one more
pub allocates : {x : Setting} {d0 d1 : Graph} {s0 : SymState} {s : StructId} {heap : List Slot} {structs : List StructId} {target : Targets} {cursor : ℕ} → StateStands d0 x.expanded.now.prog s0 → Keeps d0 d1 → HeapStands d1 x.expanded.now.prog heap → IsAllocated d1 x.expanded.now.prog s0.path s s0.heap heap target → structs ≡ s0.structs ++ s ∷ [] → cursor ≡ length structs
    → Evaluates x d0 d1 s0 (record s0 { heap = heap; structs = structs; cursor = cursor }) (shape.Reference target) (λ e. allocate x.expanded.now.prog s [])
allocates {x} {d0} {d1} {s0} {s} {heap} {structs} {target} {cursor} h keeps stands is pushed long =
    let kinds = pushed_kinds h.structs is pushed in
    let same : length heap ≡ cursor = sym (length_map struct_of heap) ∙ ap length kinds ∙ sym long in
    takes cursor h keeps stands kinds (subst (λ n. IsTaken d1 x.expanded.now.prog s0.path s s0.heap heap target s0.cursor n) same (pushed_taken s0.cursor is))

-- a record at a slot that is there
pub takes_again : {x : Setting} {d0 d1 : Graph} {s0 : SymState} {s : StructId} {place cursor : ℕ} {heap : List Slot} {target : Targets} → StateStands d0 x.expanded.now.prog s0 → Keeps d0 d1 → HeapStands d1 x.expanded.now.prog heap → s0.cursor ≤ place → IsRetaken d1 x.expanded.now.prog s0.path s place s0.heap heap target → cursor ≡ place + 1
    → Evaluates x d0 d1 s0 (record s0 { heap = heap; cursor = cursor }) (shape.Reference target) (λ e. allocate x.expanded.now.prog s [])
takes_again {x} {d0} {d1} {s0} {s} {place} {cursor} {heap} {target} h keeps stands up is behind =
    takes cursor h keeps stands (retaken_kinds is ∙ h.structs) (subst (λ n. IsTaken d1 x.expanded.now.prog s0.path s s0.heap heap target s0.cursor n) (sym behind) (again_taken s0.cursor up is))

-- ---- the next slot of a struct

kind_past : (structs : List StructId) (s : StructId) (n : ℕ) → length structs ≤ n → is_kind structs s n ≡ false
kind_past [] s n l = refl
kind_past (k ∷ ks) s zero l = absurd (omega (arith, l))
kind_past (k ∷ ks) s (suc n) l = kind_past ks s n (omega (arith, l))

-- no slot from a place on and below another one is one of the struct
abbrev pub NoneBetween : List StructId → StructId → ℕ → ℕ → Type 0
NoneBetween structs s from to = (n : ℕ) → from ≤ n → n < to → is_kind structs s n ≡ false

pub none_more : (structs : List StructId) (s : StructId) (from slot : ℕ) → is_kind structs s slot ≡ false → NoneBetween structs s from slot → NoneBetween structs s from (slot + 1)
none_more structs s from slot off none n le lt = ⊎_elim
    (λ less. none n le less)
    (λ up. let same : slot ≡ n = omega (arith, lt, up) in subst (λ k. is_kind structs s k ≡ false) same off)
    (split n slot)

pub none_from : (structs : List StructId) (s : StructId) (from end : ℕ) → length structs ≤ end → NoneBetween structs s from end → HasNoneFrom structs s from
none_from structs s from end long none = record {
  none = λ n le. ⊎_elim (λ less. none n le less) (λ past. kind_past structs s n (omega (arith, long, past))) (split n end);
}

-- one more target passes
pub passes_more : (test : ℕ → Bool) (targets : List (ℕ × BoolId)) (i : ℕ) (t : ℕ × BoolId) → i < length targets → t ≡ get_or targets i t → IsTrue (test t.0) → AllPass test (take i targets) → AllPass test (take (i + 1) targets)
passes_more test targets i t l is h all = record {
  each = subst (λ list. All (λ target. IsTrue (test target.0)) list) (sym (take_more targets i t l ∙ ap (λ y. take i targets ++ y ∷ []) (sym is)))
      (All-append (λ target. IsTrue (test target.0)) (take i targets) (t ∷ []) all.each (All-cons (λ target. IsTrue (test target.0)) t [] h (All-nil (λ target. IsTrue (test target.0)))));
}
