-- What the layout of a program shows: the program.
use Rattle.std.specs.Prelude.{IsTrue, ◌≤◌}
use Rattle.sk_base.specs.declared.bounds.Bounds.{Bounds}
use Rattle.sk_prog.specs.declared.prog.Prog.{Prog}
use Rattle.sk_prog.specs.Fits.{prog_fits}
use Rattle.sk_types_rules.specs.WellTyped.{WellTyped}
use Rattle.sk_print.specs.Layout.{layout}
use Rattle.sk_print.specs.Shows.{Shows}

-- The layout of a well-formed program that keeps the rules shows that program, where an integer has at most 32 bits.
-- In a wider one are numbers that no text spells.
abbrev pub ProgramsShown : Type 0
ProgramsShown = (bounds : Bounds) (prog : Prog) → bounds.int_bits ≤ 32 → WellTyped prog bounds → IsTrue (prog_fits prog) → Shows (layout prog) bounds prog
