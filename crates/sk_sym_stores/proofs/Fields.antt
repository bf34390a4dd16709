-- What is stored in fields of records.
use Rattle.std.proofs.Common.{◌≡◌, ℕ, ℤ, Bool, true, false, true≢false, List, [], map, Option, Some, None, is_none, slice_get, IsTrue, refl, sym, ap, subst, ◌∙◌, arith, inl}
use Rattle.std.specs.Prelude.{⊤, ◌||◌, if◌then◌else◌}
use Rattle.sk_base.specs.declared.span.Span.{Span}
use Rattle.sk_dag.specs.declared.env.Env.{Env}
use Rattle.sk_dag.specs.declared.node.BoolId.{BoolId}
use Rattle.sk_dag.specs.declared.node.WordId.{WordId}
use Rattle.sk_dag.specs.declared.shape.Shape.{Shape}
use Rattle.sk_dag.specs.declared.shape.Shape.TheVariants as shape
use Rattle.sk_dag.specs.declared.shape.Targets.{Targets}
use Rattle.sk_dag.specs.Graph.{Graph, Grows}
use Rattle.sk_dag.specs.Eval.{bool_value, Keeps}
use Rattle.sk_dag.proofs.EvalLemmas.{Keeps-trans}
use Rattle.sk_arr.specs.Shapes.{SlotsPass, Stands}
use Rattle.sk_arr.proofs.Standing.{Stands-keeps}
use Rattle.sk_prog.specs.declared.ids.StructId.{StructId}
use Rattle.sk_prog.specs.declared.ty.Elem.{Elem}
use Rattle.sk_prog.specs.declared.ty.Elem.TheVariants as elem
use Rattle.sk_prog.specs.declared.ty.Ty.{Ty}
use Rattle.sk_prog.specs.declared.prog.Prog.{Prog}
use Rattle.sk_prog.specs.declared.value.Value.{Value}
use Rattle.sk_prog.specs.declared.value.Value.TheVariants as value
use Rattle.sk_heap.specs.declared.slot.Slot.{Slot}
use Rattle.sk_heap.specs.Types.{elem_of, field_types}
use Rattle.sk_heap.specs.Heaps.{may_name, IsOfField, HeapStands, RefersTo}
use Rattle.sk_heap.specs.Answers.{struct_of, slot_of, IsNull, IsFieldRead, IsFieldWritten, MayWrite}
use Rattle.sk_heap.proofs.Heaps.{SlotsPass-more, RefersTo-more, IsOfField-more}
use Rattle.sk_model.specs.Step.{State, Step, Goes, Fails, Skips, Comp, and_then, ◌>>=◌, pure, fail}
use Rattle.sk_model.specs.Heap as model
use Rattle.sk_model.specs.Values.{replaced}
use Rattle.sk_model.specs.Eval.{or_fail}
use Rattle.sk_heap_laws.specs.Values.{holds_in, value_in, ShapeLive}
use Rattle.sk_heap_laws.specs.Heaps.{heap_value}
use Rattle.sk_heap_laws.proofs.Fields.{read_null, read_goes, read_live, written_structs, written_alike, written_grows, unwritten_heap}
use Rattle.sk_heap_laws.proofs.Grown.{StaysOf-grows, alike_free}
use Rattle.sk_heap_laws.proofs.Writes.{write_null, write_goes, written_live}
use Rattle.sk_sym_state.specs.declared.setting.Setting.{Setting}
use Rattle.sk_sym_state.specs.declared.state.SymState.{SymState}
use Rattle.sk_sym_state.specs.Seen.{IsWorth}
use Rattle.sk_sym_state.specs.Stands.{StateStands}
use Rattle.sk_sym_state.specs.Shows.{Shows, Sees}
use Rattle.sk_sym_state.specs.Meaning.{IsLater, DoesOn, Moves, FailsWhere}
use Rattle.sk_sym_state.proofs.Carrying.{later_keeps, front_grown, Moves-trans}
use Rattle.sk_sym_state.proofs.Standing.{StateStands-keeps}
use Rattle.sk_sym_state.proofs.Ends.{fails_or_goes}
use Rattle.sk_sym_steps.specs.Steps.{FailsHere}
use Rattle.sk_sym_steps.proofs.Records.{kind_of, ended_grown}
use Rattle.sk_sym_steps.proofs.Failing.{failing_does, no_reference_reads}
use Rattle.sk_sym_stores.specs.declared.location.Location.{Location}
use Rattle.sk_sym_stores.specs.declared.location.Root.TheVariants.{Field}
use Rattle.sk_sym_stores.specs.Kinds.{may_name_kind, MayHold, FitsField}
use Rattle.sk_sym_stores.specs.Locations.{RootIs}
use Rattle.sk_sym_stores.specs.Replaced.{IsReplaced}
use Rattle.sk_sym_stores.specs.Stores.{IsStored, Stores}
use Rattle.sk_sym_stores.proofs.Variables.{on_then, on_same, replaced_worth}

-- ---- types

-- the structs of the slots tell which slots a value of a type may name
may_of : (heap : List Slot) (structs : List StructId) (t : Elem) (n : ℕ) → map struct_of heap ≡ structs → may_name_kind structs t n ≡ may_name heap t n
may_of heap structs elem.Bit n are = refl
may_of heap structs elem.Int n are = refl
may_of heap structs (elem.Reference s) n are = kind_of heap structs s n are

-- what the field may hold names slots of its type
named_typed : {prog : Prog} (heap : List Slot) {structs : List StructId} {s : StructId} {field : ℕ} {value : Shape} {t : Ty} → map struct_of heap ≡ structs → MayHold prog structs s field value → slice_get (field_types prog s) field ≡ Some t → SlotsPass (may_name heap (elem_of t)) value
named_typed heap {structs = structs} {t = t} are may at = SlotsPass-more (λ n h. subst (λ u. IsTrue (may_name heap u n)) (sym (may.is.typed t at)) (subst IsTrue (may_of heap structs may.elem n are) h)) may.named

pub fits_typed : {prog : Prog} {heap : List Slot} {structs : List StructId} {s : StructId} {field : ℕ} {value : Shape} → map struct_of heap ≡ structs → FitsField prog structs s field value → IsOfField heap prog s field value
fits_typed {heap = heap} are fits = record { typed = λ t at. record { form = fits.form.typed t at; slots = named_typed heap are fits.may at } }

-- what is replaced in a field is of its type
pub replaced_typed : {g : Graph} {prog : Prog} {heap : List Slot} {structs : List StructId} {s : StructId} {field : ℕ} {indexes : List WordId} {whole value made : Shape} {fails : BoolId} → map struct_of heap ≡ structs → IsOfField heap prog s field whole → MayHold prog structs s field value → IsReplaced g indexes whole value made fails → IsOfField heap prog s field made
replaced_typed {heap = heap} {structs = structs} are of may is = record {
  typed = λ t at.
      let held = of.typed t at in
      record {
        form = is.alike ∙ held.form;
        slots = is.named (may_name heap (elem_of t)) held.slots (named_typed heap are may at);
      };
}

-- ---- a store reads the whole, replaces the part, and writes the whole

abbrev pub changed : Span → Env → model.Location × Value → Comp ((model.Location × Value) × Value)
changed span e p = model.read_root span p.0.root >>= (λ whole. or_fail span (replaced p.0.indexes whole p.1) >>= (λ w. pure (p, w)))

abbrev pub written : Span → Env → (model.Location × Value) × Value → Comp (Unit {0})
written span e q = model.write_root span q.0.0.root q.1

pub store_is : (span : Span) (e : Env) (p : model.Location × Value) (at : State) → model.store span p.0 p.1 at ≡ and_then (changed span e p at) (written span e)
store_is span e p at = by (model.read_root span p.0.root at)
  where
    each : (o : Option Value) (s : State) → model.write_whole span p.0.root o s ≡ and_then (and_then (or_fail span o s) (λ w. pure (p, w))) (written span e)
    each None s = refl
    each (Some w) s = refl

    by : (t : Step Value) → and_then t (λ whole. model.write_whole span p.0.root (replaced p.0.indexes whole p.1)) ≡ and_then (and_then t (λ whole. or_fail span (replaced p.0.indexes whole p.1) >>= (λ w. pure (p, w)))) (written span e)
    by (Goes whole s) = each (replaced p.0.indexes whole p.1) s
    by (Fails t) = refl
    by (Skips t) = refl

-- ---- a field is read, and its part replaced

-- where a field begins, and what is to be written there
pub record IsField (g : Graph) (e : Env) (heap : List Slot) (target : Targets) (kind : StructId) (field : ℕ) (made : Shape) (null : BoolId) (q : (model.Location × Value) × Value) : Type 0 where
  pub root : RootIs g e heap (Field (shape.Reference target) kind field) q.0.0.root
  pub worth : IsWorth g e heap made q.1
  pub there : bool_value g e null ≡ false

module _ {x : Setting} {d0 d1 d2 d3 d4 : Graph} {s0 s1 : SymState} {target : Targets} {kind : StructId} {field : ℕ} {indexes : List WordId} {whole value made : Shape} {null inside fails : BoolId} (span : Span) (h : StateStands d0 x.expanded.now.prog s0)
    (read_keeps : Keeps d0 d1) (read : IsFieldRead d1 s0.heap x.expanded.now.prog kind target field whole null) (one : Keeps d1 d2) (is : IsReplaced d2 indexes whole value made inside) (two : Keeps d2 d3)
    (either : (g : Graph) → Grows d3 g → (e : Env) → bool_value g e fails ≡ (bool_value g e null || bool_value g e inside)) (f : FailsWhere x d3 d4 s0 s1 fails) where
  abbrev place : Location
  place = record { root = Field (shape.Reference target) kind field; indexes = indexes }

  abbrev reference : Shape
  reference = shape.Reference target

  g3 : {g : Graph} {e : Env} → IsLater x d4 g e → Grows d3 g
  g3 l = (later_keeps f.moves.keeps l).grows

  g2 : {g : Graph} {e : Env} → IsLater x d4 g e → Grows d2 g
  g2 {g} l = two.later g (g3 l)

  g1 : {g : Graph} {e : Env} → IsLater x d4 g e → Grows d1 g
  g1 {g} l = one.later g (g2 l)

  -- the reference is what the place begins at
  begins : (g : Graph) (e : Env) (root : model.Root) → RootIs g e s0.heap (Field reference kind field) root → (at : State) → model.read_root span root at ≡ model.read_field span field (value_in g e s0.heap reference) at
  begins g e (model.Variable n) is at = absurd is
  begins g e (model.Field v k) is at = (λ i. model.read_field span (is.1 i) (sym is.0.value i) at)

  live : (g : Graph) (e : Env) (root : model.Root) → RootIs g e s0.heap (Field reference kind field) root → ShapeLive g e s0.heap reference
  live g e (model.Variable n) is = absurd is
  live g e (model.Field v k) is = is.0.live

  found : (g : Graph) (e : Env) (p : model.Location × Value) (at : State) → IsLater x d4 g e → IsStored s0.heap place value g e p → Shows g e s0 at → bool_value g e null ≡ false → model.read_root span p.0.root at ≡ Goes (value_in g e s0.heap whole) at
  found g e p at l given shows c = begins g e p.0.root given.0.root at ∙ read_goes read (g1 l) e (live g e p.0.root given.0.root) c span at (sym shows.heap)

  now : (g : Graph) (e : Env) (p : model.Location × Value) → IsLater x d4 g e → IsStored s0.heap place value g e p → replaced p.0.indexes (value_in g e s0.heap whole) p.1 ≡ (if bool_value g e inside then None else Some (value_in g e s0.heap made))
  now g e p l given = replaced_worth g e s0.heap is (g2 l) p.0.indexes (value_in g e s0.heap whole) p.1 given.0.indexes refl given.1.value

  failing : (g : Graph) (e : Env) (p : model.Location × Value) (at : State) → IsLater x d4 g e → IsStored s0.heap place value g e p → Shows g e s0 at → (b c : Bool) → bool_value g e null ≡ b → bool_value g e inside ≡ c → (b || c) ≡ true → changed span e p at ≡ Fails span
  failing g e p at l given shows true c n m t = ap (λ u. and_then u (λ whole. or_fail span (replaced p.0.indexes whole p.1) >>= (λ w. pure (p, w)))) (begins g e p.0.root given.0.root at ∙ read_null read (g1 l) e n span at)
  failing g e p at l given shows false true n m t =
      ap (λ u. and_then u (λ whole. or_fail span (replaced p.0.indexes whole p.1) >>= (λ w. pure (p, w)))) (found g e p at l given shows n)
      ∙ ap (λ o. and_then (or_fail span o at) (λ w. pure (p, w))) (now g e p l given ∙ ap (λ (b : Bool). if b then None else Some (value_in g e s0.heap made)) m)
  failing g e p at l given shows false false n m t = absurd (true≢false (sym t))

  going : (g : Graph) (e : Env) (p : model.Location × Value) (at : State) → IsLater x d4 g e → IsStored s0.heap place value g e p → Shows g e s0 at → (b c : Bool) → bool_value g e null ≡ b → bool_value g e inside ≡ c → (b || c) ≡ false → (q : (model.Location × Value) × Value) × (changed span e p at ≡ Goes q at) × IsField g e s1.heap target kind field made null q
  going g e p at l given shows true c n m t = absurd (true≢false t)
  going g e p at l given shows false true n m t = absurd (true≢false t)
  going g e p at l given shows false false n m t = (
    (p, value_in g e s0.heap made),
    ap (λ u. and_then u (λ whole. or_fail span (replaced p.0.indexes whole p.1) >>= (λ w. pure (p, w)))) (found g e p at l given shows n)
        ∙ ap (λ o. and_then (or_fail span o at) (λ w. pure (p, w))) (now g e p l given ∙ ap (λ (b : Bool). if b then None else Some (value_in g e s0.heap made)) m),
    subst (λ heap. IsField g e heap target kind field made null (p, value_in g e s0.heap made)) (sym f.heap) (record {
      root = given.0.root;
      worth = record { value = refl; live = is.live g (g2 l) e (holds_in g e s0.heap) (read_live read (g1 l) e shows.lives (live g e p.0.root given.0.root) n) given.1.live m };
      there = n;
    }),
  )

  pub field_changes : DoesOn x d0 d4 s0 s1 (IsStored s0.heap place value) (λ g e. IsField g e s1.heap target kind field made null) (changed span)
  field_changes = fails_or_goes h (Keeps-trans read_keeps (Keeps-trans one two)) f
      (λ g e p at l given shows c. (span, failing g e p at l given shows (bool_value g e null) (bool_value g e inside) refl refl (sym (either g (g3 l) e) ∙ c)))
      (λ g e p at l given shows c. going g e p at l given shows (bool_value g e null) (bool_value g e inside) refl refl (sym (either g (g3 l) e) ∙ c))

-- ---- and the whole is written

abbrev pub with_heap : SymState → List Slot → SymState
with_heap s heap = record s { heap = heap }

module _ {x : Setting} {d0 d1 : Graph} {s : SymState} {new : List Slot} {target : Targets} {kind : StructId} {field : ℕ} {made : Shape} {again : BoolId} (h : StateStands d0 x.expanded.now.prog s) (keeps : Keeps d0 d1) (may : MayWrite d0 x.expanded.now.prog s.heap kind target field made) (is_null : IsNull d1 target again) (is : IsFieldWritten d1 s.path target field made s.heap new)
    (stands : HeapStands d1 x.expanded.now.prog new) where
  pub written_moves : Moves x d0 d1 s (with_heap s new)
  written_moves = record {
    keeps = keeps;
    stands =
        let now = StateStands-keeps keeps h in
        record { path = now.path; failed = now.failed; skipped = now.skipped; cost = now.cost; heap = stands; structs = is.structs ∙ h.structs; frame = now.frame };
    structs = written_structs is;
    comes = λ g e l here. record {
      grown = written_grows is g e;
      is = inl (record { path = here.path; failed = here.failed; skipped = here.skipped; returned = here.returned; free = alike_free g e (written_alike is g e) here.free });
    };
    stays = λ g e l p. record {
      path = p;
      rest = record {
        failed = refl;
        skipped = refl;
        returned = refl;
        cost = refl;
        heap = λ t. unwritten_heap is l.grows e p;
        lives = λ t. written_live may is_null is l.grows e t (λ q. absurd (true≢false (sym q ∙ p)));
        ended = λ v refs t. ended_grown g e (written_grows is g e) s.frame.ended v refs t;
        holds = written_alike is g e;
        most = omega arith;
      };
    };
  }

  module _ {null : BoolId} (span : Span) (null_was : (g : Graph) → Grows d0 g → (e : Env) → bool_value g e null ≡ is_none (slot_of g e target)) where
    runs : (g : Graph) (e : Env) (q : (model.Location × Value) × Value) (at : State) → IsLater x d1 g e → IsField g e s.heap target kind field made null q → Shows g e s at → (root : model.Root) → RootIs g e s.heap (Field (shape.Reference target) kind field) root → Sees g e (with_heap s new) (λ (u : Unit {0}). ⊤) (model.write_root span root q.1 at)
    runs g e q at l given shows (model.Variable n) root = absurd root
    runs g e q at l given shows (model.Field v k) root = subst (Sees g e (with_heap s new) (λ (u : Unit {0}). ⊤)) (sym same) (record {
      shows = record {
        path = shows.path;
        failed = shows.failed;
        skipped = shows.skipped;
        returned = shows.returned;
        cost = shows.cost;
        heap = refl;
        lives = written_live may is_null is l.grows e shows.lives (λ t. given.worth.live);
        slots = front_grown g e (written_grows is g e) shows.slots;
        free = alike_free g e (written_alike is g e) shows.free;
      };
      is = tt;
    })
      where
        same : model.write_field span k q.1 v at ≡ Goes tt (record at { heap = heap_value g e new })
        same =
            (λ i. model.write_field span (root.1 i) (sym given.worth.value i) (sym root.0.value i) at)
            ∙ write_goes may is_null is l.grows e root.0.live shows.path (is_null.value g l.grows e ∙ sym (null_was g (later_keeps keeps l).grows e) ∙ given.there) span at (sym shows.heap)

    pub field_written : DoesOn x d0 d1 s (with_heap s new) (λ g e. IsField g e s.heap target kind field made null) (λ g e (u : Unit {0}). ⊤) (written span)
    field_written = record { moves = written_moves; runs = λ g e q at l given shows. runs g e q at l given shows q.0.0.root given.root }

pub field_stores : {x : Setting} {d0 d1 d2 : Graph} {s0 s1 s2 : SymState} {target : Targets} {kind : StructId} {field : ℕ} {indexes : List WordId} {value made : Shape} {null : BoolId} (span : Span)
    → DoesOn x d0 d1 s0 s1 (IsStored s0.heap (record { root = Field (shape.Reference target) kind field; indexes = indexes }) value) (λ g e. IsField g e s1.heap target kind field made null) (changed span)
    → DoesOn x d1 d2 s1 s2 (λ g e. IsField g e s1.heap target kind field made null) (λ g e (u : Unit {0}). ⊤) (written span)
    → Stores x d0 d2 s0 s2 span (record { root = Field (shape.Reference target) kind field; indexes = indexes }) value
field_stores span first second = record { does = on_same (λ g e p at given. store_is span e p at) (on_then first second) }

-- what is replaced may be written to the field
pub may_write : {x : Setting} {d0 d1 d2 d3 d4 : Graph} {s0 s1 : SymState} {target : Targets} {kind : StructId} {field : ℕ} {indexes : List WordId} {whole value made : Shape} {null inside fails : BoolId} → StateStands d0 x.expanded.now.prog s0 → RefersTo d0 s0.heap kind target → MayHold x.expanded.now.prog s0.structs kind field value → Keeps d0 d1 → IsFieldRead d1 s0.heap x.expanded.now.prog kind target field whole null → Keeps d1 d2 → IsReplaced d2 indexes whole value made inside → Keeps d2 d3 → FailsWhere x d3 d4 s0 s1 fails
    → MayWrite d4 x.expanded.now.prog s1.heap kind target field made
may_write h refers may k1 read k2 is k3 f = record {
  heap_stands = f.moves.stands.heap;
  there = may.is.there;
  refers = RefersTo-more (Keeps-trans k1 (Keeps-trans k2 (Keeps-trans k3 f.moves.keeps))) (StaysOf-grows f.moves.structs) refers;
  value_stands = Stands-keeps (Keeps-trans k3 f.moves.keeps) is.stands;
  typed = IsOfField-more (StaysOf-grows f.moves.structs) (replaced_typed h.structs read.typed may is);
}

-- ---- a whole field is written

-- a store into a whole field is a write of it
pub stored_whole : (span : Span) (v w : Value) (field : ℕ) (at : State) → model.store span (record { root = model.Field v field; indexes = [] }) w at ≡ model.write_field span field w v at
stored_whole span (value.Place p) w field at = refl
stored_whole span (value.Bit b) w field at = refl
stored_whole span (value.Int z) w field at = refl
stored_whole span value.Null w field at = refl
stored_whole span (value.Array' shape vs) w field at = refl

module _ {x : Setting} {d0 d1 d2 : Graph} {s0 s1 : SymState} {new : List Slot} {target : Targets} {kind : StructId} {field : ℕ} {value : Shape} {null : BoolId} (span : Span) (h : StateStands d0 x.expanded.now.prog s0) (keeps : Keeps d0 d1) (may : MayWrite d0 x.expanded.now.prog s0.heap kind target field value) (is_null : IsNull d1 target null) (is : IsFieldWritten d1 s0.path target field value s0.heap new)
    (stands : HeapStands d1 x.expanded.now.prog new) (f : FailsWhere x d1 d2 (with_heap s0 new) s1 null) where
  abbrev written_place : Location
  written_place = record { root = Field (shape.Reference target) kind field; indexes = [] }

  abbrev heap_written : Graph → Env → State → State
  heap_written g e at = record at { heap = heap_value g e new }

  written_shows : (g : Graph) (e : Env) (at : State) → IsLater x d2 g e → ShapeLive g e s0.heap value → Shows g e s0 at → Shows g e (with_heap s0 new) (heap_written g e at)
  written_shows g e at l live shows =
      let later = later_keeps f.moves.keeps l in
      record {
        path = shows.path;
        failed = shows.failed;
        skipped = shows.skipped;
        returned = shows.returned;
        cost = shows.cost;
        heap = refl;
        lives = written_live may is_null is later.grows e shows.lives (λ t. live);
        slots = front_grown g e (written_grows is g e) shows.slots;
        free = alike_free g e (written_alike is g e) shows.free;
      }

  by_null : (g : Graph) (e : Env) (w : Value) (at : State) → IsLater x d2 g e → IsWorth g e s0.heap value w → Shows g e s0 at → (v : Value) → IsWorth g e s0.heap (shape.Reference target) v → (b : Bool) → bool_value g e null ≡ b → Sees g e s1 (λ (u : Unit {0}). ⊤) (model.write_field span field w v at)
  by_null g e w at l worth shows v reference true c =
      let later = later_keeps f.moves.keeps l in
      subst (Sees g e s1 (λ (u : Unit {0}). ⊤)) (sym ((λ i. model.write_field span field w (sym reference.value i) at) ∙ write_null may is_null is later.grows e c span w at))
      (f.bad g e (heap_written g e at) l c (written_shows g e at l worth.live shows))
  by_null g e w at l worth shows v reference false c =
      let later = later_keeps f.moves.keeps l in
      subst (Sees g e s1 (λ (u : Unit {0}). ⊤))
      (sym ((λ i. model.write_field span field (sym worth.value i) (sym reference.value i) at) ∙ write_goes may is_null is later.grows e reference.live shows.path c span at (sym shows.heap)))
      (record { shows = f.good g e (heap_written g e at) l c (written_shows g e at l worth.live shows); is = tt })

  at_root : (g : Graph) (e : Env) (root : model.Root) (w : Value) (at : State) → IsLater x d2 g e → RootIs g e s0.heap (Field (shape.Reference target) kind field) root → IsWorth g e s0.heap value w → Shows g e s0 at → Sees g e s1 (λ (u : Unit {0}). ⊤) (model.store span (record { root = root; indexes = [] }) w at)
  at_root g e (model.Variable n) w at l is worth shows = absurd is
  at_root g e (model.Field v k) w at l is worth shows =
      subst (Sees g e s1 (λ (u : Unit {0}). ⊤)) (sym (stored_whole span v w k at ∙ ap (λ n. model.write_field span n w v at) is.1))
      (by_null g e w at l worth shows v is.0 (bool_value g e null) refl)

  pub whole_stores : Stores x d0 d2 s0 s1 span written_place value
  whole_stores = record {
    does = record {
      moves = Moves-trans (written_moves h keeps may is_null is stands) f.moves;
      runs = λ g e p at l given shows. subst (λ zs. Sees g e s1 (λ (u : Unit {0}). ⊤) (model.store span (record { root = p.0.root; indexes = zs }) p.1 at)) (sym given.0.indexes) (at_root g e p.0.root p.1 at l given.0.root given.1 shows);
    };
  }

pub fits_may : {prog : Prog} {d : Graph} {s : SymState} {target : Targets} {kind : StructId} {field : ℕ} {value : Shape} → StateStands d prog s → RefersTo d s.heap kind target → FitsField prog s.structs kind field value → Stands d value → MayWrite d prog s.heap kind target field value
fits_may h refers fits there = record { heap_stands = h.heap; there = fits.may.is.there; refers = refers; value_stands = there; typed = fits_typed h.structs fits }

-- ---- what is no reference has no field: the run fails

pub no_reference_stores : {x : Setting} {d0 d1 : Graph} {s0 s1 : SymState} {reference value : Shape} {kind : StructId} {field : ℕ} {indexes : List WordId} (span : Span) → FailsHere x d0 d1 s0 s1 → ((t : Targets) → reference ≡ shape.Reference t → ⊥) → Stores x d0 d1 s0 s1 span (record { root = Field reference kind field; indexes = indexes }) value
no_reference_stores {x} {d0} {d1} {s0} {s1} {reference} {value} {kind} {field} {indexes} span f other = record {
  does = failing_does {Given = IsStored s0.heap (record { root = Field reference kind field; indexes = indexes }) value} f {Is = λ g e (u : Unit {0}). ⊤} {k = λ e p. model.store span p.0 p.1} (λ g e p given. (span, by g e p.0.root p.0.indexes p.1 given.0.root));
}
  where
    by : (g : Graph) (e : Env) (root : model.Root) (zs : List ℤ) (w : Value) → RootIs g e s0.heap (Field reference kind field) root → model.store span (record { root = root; indexes = zs }) w ≡ fail span
    by g e (model.Variable n) zs w is = absurd is
    by g e (model.Field v k) zs w is = ap (λ (m : Comp Value). m >>= (λ whole. model.write_whole span (model.Field v k) (replaced zs whole w))) (ap (model.read_field span k) (sym is.0.value) ∙ no_reference_reads g e s0.heap span k reference other)
