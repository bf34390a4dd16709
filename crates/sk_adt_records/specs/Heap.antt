-- Records of algebraic structs by their variants: made, asked for their variant, read and written. A field that a record has not strays, and so does the
-- tag but where it is asked whether a record is of a variant.
use Rattle.std.specs.Prelude.{ℕ, ◌==◌, pos, List, [], ◌∷◌, ◌++◌, length, slice_get, slice_index_or, slice_set, Bool, true, false, Option, Some, None, option_map, option_and_then, if◌then◌else◌, nat_lt}
use Rattle.sk_base.specs.declared.span.Span.{Span}
use Rattle.sk_prog.specs.declared.ids.StructId.{StructId}
use Rattle.sk_prog.specs.declared.value.Value.{Value}
use Rattle.sk_prog.specs.declared.value.Value.TheVariants as value
use Rattle.sk_prog.specs.declared.prog.Prog.{Prog}
use Rattle.sk_model.specs.Values.{replaced}
use Rattle.sk_model.specs.Heap.{blank, written, zeros_of, Root, Variable, Field, Location}
use Rattle.sk_adt.specs.declared.algebraic.Algebraic.{Algebraic}
use Rattle.sk_adt_tags.specs.declared.role.Role.{Role}
use Rattle.sk_adt_tags.specs.declared.role.Role.TheVariants as role
use Rattle.sk_adt_tags.specs.Tags.{algebraic_of, role_in}
use Rattle.sk_adt_records.specs.Steps.{Record, Goes, Strays, Comp, ◌>>=◌, pure, fail, or_stray}

-- Variables

abbrev pub read : ℕ → Comp Value
read slot = λ s. Goes (slice_index_or s.slots slot blank) s

abbrev pub write : ℕ → Value → Comp (Unit {0})
write slot v = λ s. Goes tt (record s { slots = written s.slots slot v })

-- Records

-- whether a record of this variant has a field of this role
abbrev pub has : Option ℕ → Role → Bool
has variant role.Free = true
has variant role.Tag = false
has None (role.Of i) = false
has (Some j) (role.Of i) = j == i

-- the value of a field of the record that stands at a place
abbrev pub value_at : Option Record → ℕ → Option Value
value_at None k = None
value_at (Some r) k = r.at k

abbrev pub variant_at : Option Record → Option ℕ
variant_at None = None
variant_at (Some r) = r.variant

abbrev pub is_variant : ℕ → Option ℕ → Option Value
is_variant i None = None
is_variant i (Some j) = Some (value.Bit (j == i))

-- whether the record is of variant i
abbrev pub ask : Span → ℕ → Value → Comp Value
ask span i (value.Place p) = λ s. or_stray (is_variant i (variant_at (slice_get s.heap p))) s
ask span i _ = fail span

abbrev pub read_field : Span → ℕ → Value → Comp Value
read_field span k (value.Place p) = λ s. or_stray (value_at (slice_get s.heap p) k) s
read_field span k _ = fail span

abbrev pub replaced_at : (ℕ → Option Value) → ℕ → Value → ℕ → Option Value
replaced_at at k v j = if j == k then Some v else at j

-- the record with this value in a field, where it has that field
abbrev pub with_field : ℕ → Value → Record → Option Record
with_field k v r = option_map (λ (old : Value). record r { at = replaced_at r.at k v }) (r.at k)

abbrev pub put : ℕ → Option Record → Comp (Unit {0})
put p None = λ s. Strays
put p (Some r) = λ s. Goes tt (record s { heap = slice_set s.heap p r })

abbrev pub write_field : Span → ℕ → Value → Value → Comp (Unit {0})
write_field span k v (value.Place p) = λ s. put p (option_and_then (with_field k v) (slice_get s.heap p)) s
write_field span k v _ = fail span

-- `new`: the tag that is set says of which variant the record is; where none is set it is the first

abbrev pub tag_in : List (ℕ × Value) → Value
tag_in [] = value.Int (pos 0)
tag_in (f ∷ fs) = if f.0 == 0 then f.1 else tag_in fs

abbrev pub numbered : Algebraic → Value → Option ℕ
numbered a (value.Int (pos i)) = if nat_lt i (length a.variants) then Some i else None
numbered a _ = None

abbrev pub variant_made : Option Algebraic → List (ℕ × Value) → Option (Option ℕ)
variant_made None set = Some None
variant_made (Some a) set = option_map (λ (i : ℕ). Some i) (numbered a (tag_in set))

-- the record with a field of this role set; the tag is none of its fields
abbrev pub set_field : Role → ℕ → Value → Record → Option Record
set_field role.Tag k v r = Some r
set_field role.Free k v r = with_field k v r
set_field (role.Of i) k v r = with_field k v r

abbrev pub appended : Option Record → Comp Value
appended None = λ s. Strays
appended (Some r) = λ s. Goes (value.Place (length s.heap)) (record s { heap = s.heap ++ r ∷ [] })

module _ (types : List Algebraic) (prog : Prog) where
  abbrev pub role_of : StructId → ℕ → Role
  role_of d k = role_in (algebraic_of types prog.structs d) k

  -- a new record of this struct and variant, none of whose fields is set
  abbrev pub fresh : StructId → Option ℕ → Record
  fresh d variant = record { of = d; variant = variant; at = λ k. if has variant (role_of d k) then slice_get (zeros_of (slice_get prog.structs d.index)) k else None }

  -- the record with these fields set, one after another
  abbrev pub set_fields : List (ℕ × Value) → Record → Option Record
  set_fields [] r = Some r
  set_fields (f ∷ fs) r = option_and_then (set_fields fs) (set_field (role_of r.of f.0) f.0 f.1 r)

  abbrev pub made : StructId → List (ℕ × Value) → Option Record
  made d set = option_and_then (λ (variant : Option ℕ). set_fields set (fresh d variant)) (variant_made (algebraic_of types prog.structs d) set)

  abbrev pub allocate : StructId → List (ℕ × Value) → Comp Value
  allocate d set = appended (made d set)

-- Targets

abbrev pub at_root : Root → Comp Location
at_root root = pure (record { root = root; indexes = [] })

abbrev pub read_root : Span → Root → Comp Value
read_root span (Variable slot) = read slot
read_root span (Field reference k) = read_field span k reference

abbrev pub write_root : Span → Root → Value → Comp (Unit {0})
write_root span (Variable slot) v = write slot v
write_root span (Field reference k) v = write_field span k v reference

abbrev pub write_whole : Span → Root → Option Value → Comp (Unit {0})
write_whole span root None = fail span
write_whole span root (Some v) = write_root span root v

abbrev pub store : Span → Location → Value → Comp (Unit {0})
store span location v = read_root span location.root >>= (λ whole. write_whole span location.root (replaced location.indexes whole v))
