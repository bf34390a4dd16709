-- A heap and the values beside it stay what they are: in what the graph grows to, with one slot more, and where a field
-- was written.
use Rattle.std.proofs.lemmas.List.Elements.{All-nil}
use Rattle.std.proofs.lemmas.Option.{same_Some}
use Rattle.std.proofs.Common.{◌≡◌, ℕ, List, [], ◌∷◌, ◌++◌, slice_get, Some, sym, subst, ◌∙◌}
use Rattle.sk_dag.specs.declared.node.BoolId.{BoolId}
use Rattle.sk_dag.specs.declared.shape.Targets.{Targets}
use Rattle.sk_dag.specs.declared.shape.Shape.{Shape}
use Rattle.sk_dag.specs.declared.shape.Shape.TheVariants as shape
use Rattle.sk_dag.specs.Graph.{Graph, HasBool}
use Rattle.sk_dag.specs.Eval.{Keeps}
use Rattle.sk_arr.proofs.Values.{all_push}
use Rattle.sk_prog.specs.declared.ids.StructId.{StructId}
use Rattle.sk_prog.specs.declared.ty.Elem.TheVariants as elem
use Rattle.sk_prog.specs.declared.ty.Ty.{Ty}
use Rattle.sk_prog.specs.declared.ty.Ty.TheVariants as ty
use Rattle.sk_prog.specs.declared.prog.Prog.{Prog}
use Rattle.sk_heap.specs.declared.slot.Slot.{Slot}
use Rattle.sk_heap.specs.Types.{field_types}
use Rattle.sk_heap.specs.Heaps.{IsOfType, HeapStands, RefersTo}
use Rattle.sk_heap.specs.Answers.{IsAllocated, IsFieldRead, IsFieldWritten, MayWrite, CanBeWritten}
use Rattle.sk_heap.proofs.Heaps.{StaysOf, StaysOf-push, HeapStands-keeps, HeapStands-none}
use Rattle.sk_heap.proofs.Structs.{field_of_types}
use Rattle.sk_heap.proofs.WriteLaws.{StaysOf-structs}
use Rattle.rows_heap.specs.Worlds.{IsValue, AreValues}
use Rattle.rows_heap.proofs.ValueLaws.{AreValues-more, reference_value}

pub values_none : (g : Graph) (heap : List Slot) → AreValues g heap []
values_none g heap = record { each = All-nil (λ v. IsValue g heap v.0 v.1) }

pub world_begins : {g : Graph} {prog : Prog} {heap : List Slot} {values : List (Ty × Shape)} → heap ≡ [] → values ≡ [] → HeapStands g prog heap × AreValues g heap values
world_begins {g} {prog} {heap} {values} no_slots no_values = (subst (HeapStands g prog) (sym no_slots) (HeapStands-none g prog), subst (AreValues g heap) (sym no_values) (values_none g heap))

pub values_put : {g : Graph} {heap : List Slot} {values : List (Ty × Shape)} {t : Ty} {r : Shape} → AreValues g heap values → IsValue g heap t r → AreValues g heap (values ++ (t, r) ∷ [])
values_put {g} {heap} {values} {t} {r} h is = record { each = all_push (λ v. IsValue g heap v.0 v.1) values (t, r) h.each is }

pub AreValues-keeps : {g g' : Graph} {heap : List Slot} {values : List (Ty × Shape)} → Keeps g g' → AreValues g heap values → AreValues g' heap values
AreValues-keeps keeps h = AreValues-more keeps (λ s n is. is) h

-- ---- one slot more

pub values_allocated : {g g' : Graph} {prog : Prog} {guard : BoolId} {s : StructId} {heap heap' : List Slot} {values : List (Ty × Shape)} {r : Targets} → Keeps g g' → IsAllocated g' prog guard s heap heap' r → AreValues g heap values → AreValues g' heap' values
values_allocated {heap = heap} keeps made h = AreValues-more keeps (subst (StaysOf heap) (sym made.pushed) (StaysOf-push heap made.slot)) h

pub allocated_value : {g : Graph} {prog : Prog} {guard : BoolId} {s : StructId} {heap heap' : List Slot} {r : Targets} → IsAllocated g prog guard s heap heap' r → IsValue g heap' (ty.One (elem.Reference s)) (shape.Reference r)
allocated_value made = reference_value made.refers

-- the call was refused
pub values_stay : {g g' : Graph} {heap heap' : List Slot} {values : List (Ty × Shape)} → Keeps g g' → heap' ≡ heap → AreValues g heap values → AreValues g' heap' values
values_stay {g} {g'} {heap} {heap'} {values} keeps same h = subst (λ l. AreValues g' l values) (sym same) (AreValues-keeps keeps h)

-- ---- a field that is read

pub read_value : {g : Graph} {prog : Prog} {heap : List Slot} {s : StructId} {target : Targets} {field : ℕ} {t : Ty} {r : Shape} {null : BoolId} → slice_get (field_types prog s) field ≡ Some t → IsFieldRead g heap prog s target field r null → IsValue g heap t r
read_value {t = t} at read = record { stands = read.stands; typed = read.typed.typed t at }

pub null_there : {g : Graph} {prog : Prog} {heap : List Slot} {s : StructId} {target : Targets} {field : ℕ} {r : Shape} {null : BoolId} → IsFieldRead g heap prog s target field r null → HasBool g.nodes null
null_there read = read.is_null.there

-- ---- a field that is written

pub may_write : {g : Graph} {prog : Prog} {heap : List Slot} {s : StructId} {target : Targets} {field : ℕ} {t : Ty} {value : Shape} → HeapStands g prog heap → slice_get (field_types prog s) field ≡ Some t → RefersTo g heap s target → IsValue g heap t value → MayWrite g prog heap s target field value
may_write {prog = prog} {heap = heap} {s = s} {field = field} {t = t} {value = value} stands at refers is = record {
  heap_stands = stands;
  there = field_of_types prog s field t at;
  refers = refers;
  value_stands = is.stands;
  typed = record { typed = λ u at'. subst (λ w. IsOfType heap w value) (same_Some t u (sym at ∙ at')) is.typed };
}

pub can_write : {g : Graph} {prog : Prog} {heap : List Slot} {s : StructId} {target : Targets} {field : ℕ} {t : Ty} {value : Shape} → HeapStands g prog heap → slice_get (field_types prog s) field ≡ Some t → RefersTo g heap s target → IsValue g heap t value → CanBeWritten g heap target field value
can_write {prog = prog} {s = s} stands at refers is = record { prog = prog; of_struct = s; may = may_write stands at refers is }

pub values_written : {g g' : Graph} {guard : BoolId} {target : Targets} {field : ℕ} {value : Shape} {heap heap' : List Slot} {values : List (Ty × Shape)} → Keeps g g' → IsFieldWritten g' guard target field value heap heap' → AreValues g heap values → AreValues g' heap' values
values_written {heap = heap} {heap' = heap'} keeps written h = AreValues-more keeps (StaysOf-structs heap heap' written.structs) h

pub ruleset begins = (world_begins)

pub ruleset values = (values_put)

pub ruleset worlds = (HeapStands-keeps, AreValues-keeps)
