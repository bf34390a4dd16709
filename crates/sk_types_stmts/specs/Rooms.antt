-- The room that forms take, and whether the names that they declare are free.
use Rattle.std.specs.Prelude.{Bool}
use Rattle.sk_prog.specs.declared.stmt.PForm.{PForm}
use Rattle.sk_prog.specs.declared.stmt.PForm.TheFolds.{fold-PForm}
use Rattle.sk_types_rules.specs.Types.{Room, form_room, form_free}

-- the room that a form takes
abbrev pub form_room_of : PForm → Room
form_room_of = fold-PForm Room Room form_room (λ s. s.form)

-- whether all variables that a form declares have free names
abbrev pub form_free_of : PForm → Bool
form_free_of = fold-PForm Bool Bool form_free (λ s. s.form)
