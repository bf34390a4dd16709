use Rattle.std.proofs.Common.{◌≡◌, map, take}
use Rattle.std.specs.Prelude.{replicate}
use Rattle.sk_arr.specs.Shapes.{blank}
use Rattle.sk_heap.specs.Types.{form_of}
use Rattle.sk_prog.specs.declared.ty.Ty.TheVariants as ty
use Rattle.sk_sym_stores.proofs.form.are_rows.Given as goal

-- those so far are
abbrev pub invariant-loop-r : goal.invariant-loop-r
invariant-loop-r l = map blank (take l.r-index l.list) ≡ replicate l.r-index (form_of (ty.Array l.elem l.count))
