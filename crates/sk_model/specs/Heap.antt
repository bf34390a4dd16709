-- Variables, records of the heap, and what stands at a place that an assignment names.
--
-- `new` appends a record, and its place is the length of the heap before. A field of null fails.
use Rattle.std.specs.Prelude.{ℕ, zero, suc, ◌+◌, pos, ℤ, List, [], ◌∷◌, ◌++◌, map, length, slice_get, slice_index_or, slice_set, Option, Some, None}
use Rattle.sk_base.specs.declared.span.Span.{Span}
use Rattle.sk_prog.specs.declared.ids.StructId.{StructId}
use Rattle.sk_prog.specs.declared.value.Value.{Value}
use Rattle.sk_prog.specs.declared.value.Value.TheVariants as value
use Rattle.sk_prog.specs.declared.prog.FieldDef.{FieldDef}
use Rattle.sk_prog.specs.declared.prog.StructDef.{StructDef}
use Rattle.sk_prog.specs.declared.prog.Prog.{Prog}
use Rattle.sk_model.specs.Step.{State, Goes, Comp, ◌>>=◌, pure, fail}
use Rattle.sk_model.specs.Values.{zero_of, replaced}

-- what a slot holds that was not declared yet, which no typed program reads
abbrev pub blank : Value
blank = value.Int (pos 0)

abbrev pub read : ℕ → Comp Value
read slot = λ s. Goes (slice_index_or s.slots slot blank) s

-- The slots after a value is put into one. Those up to it that are not there come to be; in a typed
-- program all are there.
abbrev pub written : List Value → ℕ → Value → List Value
written [] zero v = v ∷ []
written [] (suc n) v = blank ∷ written [] n v
written (w ∷ ws) zero v = v ∷ ws
written (w ∷ ws) (suc n) v = w ∷ written ws n v

abbrev pub write : ℕ → Value → Comp (Unit {0})
write slot v = λ s. Goes tt (record s { slots = written s.slots slot v })

-- the record at a place
abbrev pub record_at : State → ℕ → List Value
record_at s p = slice_index_or s.heap p []

abbrev pub read_field : Span → ℕ → Value → Comp Value
read_field span field (value.Place p) = λ s. Goes (slice_index_or (record_at s p) field blank) s
read_field span field _ = fail span

abbrev pub write_field : Span → ℕ → Value → Value → Comp (Unit {0})
write_field span field v (value.Place p) = λ s. Goes tt (record s { heap = slice_set s.heap p (slice_set (record_at s p) field v) })
write_field span field v _ = fail span

abbrev pub zeros_of : Option StructDef → List Value
zeros_of None = []
zeros_of (Some d) = map (λ (f : FieldDef). zero_of f.ty) d.fields

-- a record with these fields set, one after another
abbrev pub with_fields : List Value → List (ℕ × Value) → List Value
with_fields fields [] = fields
with_fields fields (f ∷ fs) = with_fields (slice_set fields f.0 f.1) fs

abbrev pub allocate : Prog → StructId → List (ℕ × Value) → Comp Value
allocate prog d set = λ s. Goes (value.Place (length s.heap)) (record s { heap = s.heap ++ with_fields (zeros_of (slice_get prog.structs d.index)) set ∷ [] })

-- where a target begins: at a variable, or at a field of what a reference stands for
pub data Root : Type 0 where
  Variable : ℕ → Root
  Field : Value → ℕ → Root

-- what a target names: where it begins, and the indexes from there on, from the outside in
pub record Location : Type 0 where
  pub root : Root
  pub indexes : List ℤ

abbrev pub at_root : Root → Comp Location
at_root root = pure (record { root = root; indexes = [] })

abbrev pub read_root : Span → Root → Comp Value
read_root span (Variable slot) = read slot
read_root span (Field reference field) = read_field span field reference

abbrev pub write_root : Span → Root → Value → Comp (Unit {0})
write_root span (Variable slot) v = write slot v
write_root span (Field reference field) v = write_field span field v reference

abbrev pub write_whole : Span → Root → Option Value → Comp (Unit {0})
write_whole span root None = fail span
write_whole span root (Some v) = write_root span root v

-- Puts a value there. It fails where the reference is null, and where an index is outside of its array.
abbrev pub store : Span → Location → Value → Comp (Unit {0})
store span location v = read_root span location.root >>= (λ whole. write_whole span location.root (replaced location.indexes whole v))
