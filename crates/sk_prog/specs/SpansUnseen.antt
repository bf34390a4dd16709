-- What well-formedness says of spans: nothing.
use Rattle.std.specs.Prelude.{◌≡◌}
use Rattle.sk_prog.specs.declared.prog.Prog.{Prog}
use Rattle.sk_prog.specs.Spanless.{spanless}
use Rattle.sk_prog.specs.Fits.{prog_fits}

-- Of two programs that differ in spans alone, both are well-formed or neither is.
abbrev pub SpansUnseen : Type 0
SpansUnseen = (p q : Prog) → spanless p ≡ spanless q → prog_fits p ≡ prog_fits q
