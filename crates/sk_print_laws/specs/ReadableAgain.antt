-- Which programs are printed so that they are spelt as a tree may be: those that keep the rules.
use Rattle.std.specs.Prelude.{IsTrue}
use Rattle.sk_base.specs.declared.bounds.Bounds.{Bounds}
use Rattle.sk_prog.specs.declared.prog.Prog.{Prog}
use Rattle.sk_types_rules.specs.WellTyped.{WellTyped}
use Rattle.sk_print_laws.specs.Readable.{prog_readable}

-- The layout of a program that keeps the rules is spelt as a tree may be.
abbrev pub ProgramsReadable : Type 0
ProgramsReadable = (bounds : Bounds) (prog : Prog) → WellTyped prog bounds → IsTrue (prog_readable prog)
